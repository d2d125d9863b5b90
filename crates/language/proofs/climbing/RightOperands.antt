-- What follows an operator: what a derivation must look like behind the token that was read.
use Rattle.std.proofs.Common.{◌≡◌, ℕ, Bool, true, false, List, [], ◌∷◌, ◌++◌, refl, sym, ap, ◌∙◌, subst}
use Rattle.std.specs.Prelude.{codes}
use Rattle.std.proofs.lemmas.List.{append-nil}
use Rattle.tokens.specs.declared.token.TokenClass.TheVariants.{Punctuator}
use Rattle.tokens.specs.declared.token.Goal.TheVariants.{Div}
use Rattle.language.specs.declared.Rank.{Rank}
use Rattle.language.specs.declared.Rank.TheVariants.{Expression, Assignment}
use Rattle.language.specs.declared.Start.{Start}
use Rattle.language.specs.declared.Start.TheVariants.{Any}
use Rattle.tree.specs.declared.kind.Flags.{Flags}
use Rattle.tree.specs.declared.kind.Pair.{Pair}
use Rattle.tree.specs.declared.kind.Kind.{Kind}
use Rattle.tree.specs.Tree.{Tree, node, Parts, none, part, kind_of, bare_parts}
use Rattle.language.specs.FirstPart.{lead as lead_kind}
use Rattle.language.specs.Vocabulary.{is_word_operator}
use Rattle.language.specs.Pieces.{Role, expr, tok, lay, sub, unbroken, space}
use Rattle.language.specs.Token.{Token}
use Rattle.language.specs.Promises.{IsDetermined, ReadBy}
use Rattle.language.specs.Grammar.{ways}
use Rattle.language.specs.Expressions.{arguments, after_number}
use Rattle.language.specs.Derivation.{Reads, Spells, Runs, done, step, within, token, laid}
use Rattle.language.proofs.table.Begins.{behind_first, goes_to, number_laid, laid_first, laid_behind, div_allows, taken, retell}
use Rattle.language.proofs.table.LeftRecursiveWays.{between, bracketed, dotted, property_role}

module _ (S : Type 0) (Next : S → Token → S → Type 0) (behind : S → Token) (det : IsDetermined S Next behind) where
  -- one part and nothing behind it
  pub record OnePart (o : ℕ) (a : Role) (ps : Parts) (s e : S) (R : List Pair) : Type 0 where
    pub operand : Tree
    pub parts : ps ≡ part operand none
    pub spelled : Spells ways S Next behind o a operand s e R

  -- where one piece is left, it is the last part
  pub one_part : {o : ℕ} {a : Role} {ps : Parts} {s e : S} {R : List Pair} → Runs ways S Next behind o (sub a ∷ []) ps s e R → OnePart o a ps s e R
  one_part {o} {a} {s = s} {e = e} (within {n = n} {P = P} p done) = record { operand = n; parts = refl; spelled = subst (λ z. Spells ways S Next behind o a n s e z) (sym (append-nil P)) p }
  one_part (step p d) = elim p [ ]

  laid_part : {o : ℕ} {a : Role} {ps : Parts} {s e : S} {R : List Pair} → Runs ways S Next behind o (lay space ∷ sub a ∷ []) ps s e R → OnePart o a ps s e R
  laid_part (step laid d) = one_part d

  -- an operator with two sides, `**` or an assignment: its right side
  pub right_side : {o : ℕ} (w : List ℕ) {a : Role} {ps : Parts} {s m e : S} {R : List Pair} {t : Token} → Runs ways S Next behind o (between w a) ps s e R → ReadBy S Next behind Div s t m → OnePart o a ps m e R
  right_side w {a = a} d r = laid_part (taken S Next behind det Div (between w a) refl (div_allows (is_word_operator w) w) d r).runs

  -- `++` or `--`: nothing
  pub record Nothing (ps : Parts) (m e : S) (R : List Pair) : Type 0 where
    pub parts : ps ≡ none
    pub place : m ≡ e
    pub pairs : R ≡ []

  -- where no piece is left, there is no part
  pub no_more_runs : {o : ℕ} {ps : Parts} {s e : S} {R : List Pair} → Runs ways S Next behind o [] ps s e R → Nothing ps s e R
  no_more_runs done = record { parts = refl; place = refl; pairs = refl }

  -- behind `++` or `--` there is nothing
  pub nothing_more : {o : ℕ} {w : List ℕ} {ps : Parts} {s m e : S} {R : List Pair} {t : Token} → Runs ways S Next behind o (unbroken ∷ tok Punctuator w ∷ []) ps s e R → ReadBy S Next behind Div s t m → Nothing ps m e R
  nothing_more {w = w} d r = no_more_runs (taken S Next behind det Div (unbroken ∷ tok Punctuator w ∷ []) refl (div_allows false w) d r).runs

  -- where the part alone decides, a property stands as its own kind says
  pub as_property : {o : ℕ} {ps : Parts} {s e : S} {R : List Pair} (b : OnePart o (property_role (lead_kind (bare_parts ps))) ps s e R) → Spells ways S Next behind o (property_role (kind_of b.operand)) b.operand s e R
  as_property {o} {s = s} {e = e} {R = R} b = subst (λ k. Spells ways S Next behind o (property_role k) b.operand s e R) (ap (λ v. lead_kind (bare_parts v)) b.parts ∙ of b.operand) b.spelled
    where
      of : (n : Tree) → lead_kind (bare_parts (part n none)) ≡ kind_of n
      of (node k w g st en qs) = refl

  -- `.`: a name, or a private one
  pub selected : {o : ℕ} (y : Rank) (i : Bool) (f : Start) (k : Kind) (qs : Parts) (g : Flags) {ps : Parts} {s m e : S} {R : List Pair} {t : Token} →
      Runs ways S Next behind o (goes_to y i f (after_number qs g) ++ dotted k) ps s e R → ReadBy S Next behind Div s t m → OnePart o (property_role k) ps m e R
  selected y i f k qs g d r = one_part (retell S Next behind (laid_behind y i f (dotted k) (number_laid qs g)) (taken S Next behind det Div (goes_to y i f (after_number qs g) ++ dotted k) (laid_first y i f (dotted k) (number_laid qs g)) refl d r).runs)

  -- the only property there, whatever its kind
  pub record PropertyFound (o : ℕ) (s e : S) (n : Tree) (P : List Pair) : Type 0 where
    pub spelled : Spells ways S Next behind o (property_role (kind_of n)) n s e P
    pub only : (o' : ℕ) (e' : S) (n' : Tree) (P' : List Pair) → Spells ways S Next behind o' (property_role (kind_of n')) n' s e' P' → (e' ≡ e) × (n' ≡ n) × (P' ≡ P)

  -- `[`: an expression, and `]`
  pub record Bracketed (o : ℕ) (ps : Parts) (m e : S) (R : List Pair) : Type 0 where
    pub inner : Tree
    pub place : S
    pub closing : Token
    pub pairs : List Pair
    pub parts : ps ≡ part inner none
    pub spelled : Spells ways S Next behind o (expr Expression true Any) inner m place pairs
    pub closes : Reads S Next behind Punctuator (codes "]") place closing e
    pub pairs_are : R ≡ pairs

  -- what runs behind `[`
  pub in_bracket : {o : ℕ} {ps : Parts} {s e : S} {R : List Pair} → Runs ways S Next behind o (sub (expr Expression true Any) ∷ tok Punctuator (codes "]") ∷ []) ps s e R → Bracketed o ps s e R
  in_bracket (within {n = n} {m = m} {P = P} p (step (token {t = t} k) done)) = record { inner = n; place = m; closing = t; pairs = P; parts = refl; spelled = p; closes = k; pairs_are = append-nil P }
  in_bracket (step p d) = elim p [ ]

  -- so behind the object of a member
  pub indexed : {o : ℕ} (y : Rank) (i : Bool) (f : Start) (qs : Parts) (g : Flags) {ps : Parts} {s m e : S} {R : List Pair} {t : Token} →
      Runs ways S Next behind o (goes_to y i f (after_number qs g) ++ bracketed) ps s e R → ReadBy S Next behind Div s t m → Bracketed o ps m e R
  indexed y i f qs g d r = in_bracket (retell S Next behind (laid_behind y i f bracketed (number_laid qs g)) (taken S Next behind det Div (goes_to y i f (after_number qs g) ++ bracketed) (laid_first y i f bracketed (number_laid qs g)) refl d r).runs)

  -- `?`: what stands before `:` and behind it
  pub record Branches (o : ℕ) (i : Bool) (ps : Parts) (m e : S) (R : List Pair) : Type 0 where
    pub consequent : Tree
    pub alternate : Tree
    pub place : S
    pub next_place : S
    pub colon : Token
    pub first_pairs : List Pair
    pub more_pairs : List Pair
    pub parts : ps ≡ part consequent (part alternate none)
    pub spelled : Spells ways S Next behind o (expr Assignment true Any) consequent m place first_pairs
    pub divides : Reads S Next behind Punctuator (codes ":") place colon next_place
    pub other : Spells ways S Next behind o (expr Assignment i Any) alternate next_place e more_pairs
    pub pairs_are : R ≡ first_pairs ++ more_pairs

  in_branches : {o : ℕ} {i : Bool} {ps : Parts} {s e : S} {R : List Pair} →
      Runs ways S Next behind o (lay space ∷ sub (expr Assignment true Any) ∷ lay space ∷ tok Punctuator (codes ":") ∷ lay space ∷ sub (expr Assignment i Any) ∷ []) ps s e R → Branches o i ps s e R
  in_branches (step laid (within {n = n} {m = m} {P = P} p (step laid (step (token {t = t} {e = u} k) (step laid (within {n = l} {P = Q} q done)))))) = record {
    consequent = n;
    alternate = l;
    place = m;
    next_place = u;
    colon = t;
    first_pairs = P;
    more_pairs = Q;
    parts = refl;
    spelled = p;
    divides = k;
    other = q;
    pairs_are = ap (λ z. P ++ z) (append-nil Q);
  }
  in_branches (step laid (step p d)) = elim p [ ]
  in_branches (step laid (within p (step laid (step k (step laid (step q d)))))) = elim q [ ]

  -- so behind a test
  pub branches : {o : ℕ} {i : Bool} {ps : Parts} {s m e : S} {R : List Pair} {t : Token} →
      Runs ways S Next behind o (lay space ∷ tok Punctuator (codes "?") ∷ lay space ∷ sub (expr Assignment true Any) ∷ lay space ∷ tok Punctuator (codes ":") ∷ lay space ∷ sub (expr Assignment i Any) ∷ []) ps s e R →
      ReadBy S Next behind Div s t m → Branches o i ps m e R
  branches {i = i} d r = in_branches (taken S Next behind det Div (lay space ∷ tok Punctuator (codes "?") ∷ lay space ∷ sub (expr Assignment true Any) ∷ lay space ∷ tok Punctuator (codes ":") ∷ lay space ∷ sub (expr Assignment i Any) ∷ []) refl refl d r).runs

  -- arguments: what stands behind their `(`
  pub called : {o : ℕ} (y : Rank) (i : Bool) (f : Start) (qs : Parts) {ps : Parts} {s m e : S} {R : List Pair} {t : Token} → Runs ways S Next behind o (goes_to y i f (arguments qs)) ps s e R → ReadBy S Next behind Div s t m →
      Runs ways S Next behind o (behind_first (goes_to y i f (arguments qs))) ps m e R
  called y i f qs d r = (taken S Next behind det Div (goes_to y i f (arguments qs)) refl refl d r).runs
