-- What a list of pieces begins with, and the token that is read there.
use Rattle.std.proofs.Common.{◌≡◌, ℕ, Bool, true, false, cond, List, [], ◌∷◌, ◌++◌, refl, sym, ap, ◌∙◌, subst}
use Rattle.std.specs.Prelude.{IsTrue, map, codes, not, ◌||◌}
use Rattle.std.proofs.lemmas.Bool.{true≢false}
use Prim.Native.String.{String}
use Rattle.std.proofs.lemmas.Slice.Eq.{bytes_eq-Decides}
use Rattle.tokens.specs.declared.token.TokenClass.{TokenClass}
use Rattle.tokens.specs.declared.token.TokenClass.TheVariants.{IdentifierName, Punctuator}
use Rattle.std.specs.Bool.{beq}
use Rattle.std.specs.Prelude.{if◌then◌else◌}
use Rattle.tokens.specs.Alphabet.{one_of, begins_with}
use Rattle.tokens.specs.declared.token.Goal.{Goal}
use Rattle.tokens.specs.declared.token.Goal.TheVariants.{Div}
use Rattle.tokens.specs.Goals.{allows}
use Rattle.tree.specs.declared.kind.Flags.{Flags}
use Rattle.language.specs.declared.Rank.{Rank}
use Rattle.language.specs.declared.Start.{Start}
use Rattle.language.specs.declared.Start.TheVariants.{Any, NoBrace, Statement}
use Rattle.tree.specs.declared.kind.Pair.{Pair}
use Rattle.tree.specs.Tree.{Parts, none, part, gap}
use Rattle.language.specs.Vocabulary.{is, among, is_word_operator, op_none, operator_of}
use Rattle.language.specs.Pieces.{Role, PieceOf, Piece, Hint, space, tok, lay, unbroken, no_operand, settle_piece}
use Rattle.language.specs.Token.{Token}
use Rattle.language.specs.Continuations.{of_class}
use Rattle.language.specs.Promises.{is_free, IsDetermined, ReadBy}
use Rattle.language.specs.Grammar.{ways, starts}
use Rattle.language.specs.Expressions.{template_elements, after_number}
use Rattle.language.specs.Derivation.{Runs, step, token, laid, same_line, left_bare}
use Rattle.language.proofs.climbing.Spine.{is_led}

-- what a list of pieces begins with
pub data First : Type 0 where
  by : TokenClass → List ℕ → First
  another : First

abbrev pub first_of : List (PieceOf Role) → First
first_of (tok c w ∷ qs) = by c w
first_of (lay h ∷ qs) = first_of qs
first_of (unbroken ∷ qs) = first_of qs
first_of (no_operand ∷ qs) = first_of qs
first_of _ = another

-- the pieces behind the first token
abbrev pub behind_first : List (PieceOf Role) → List (PieceOf Role)
behind_first (tok c w ∷ qs) = qs
behind_first (lay h ∷ qs) = behind_first qs
behind_first (unbroken ∷ qs) = behind_first qs
behind_first (no_operand ∷ qs) = behind_first qs
behind_first qs = qs

abbrev pub goes_to : Rank → Bool → Start → List Piece → List (PieceOf Role)
goes_to y i f qs = map (settle_piece y i f) qs

-- layout alone
pub data AllLaid : List Piece → Type 0 where
  no_piece : AllLaid []
  one_laid : {h : Hint} → AllLaid (lay h ∷ [])

cond_laid : (b : Bool) (h : Hint) → AllLaid (cond b (lay h ∷ []) [])
cond_laid true h = one_laid
cond_laid false h = no_piece

pub number_laid : (ps : Parts) (g : Flags) → AllLaid (after_number ps g)
number_laid none g = no_piece
number_laid (gap ps) g = no_piece
number_laid (part n ps) g = cond_laid _ _

pub laid_first : (y : Rank) (i : Bool) (f : Start) {qs : List Piece} (rs : List (PieceOf Role)) → AllLaid qs → first_of (goes_to y i f qs ++ rs) ≡ first_of rs
laid_first y i f rs no_piece = refl
laid_first y i f rs one_laid = refl

pub laid_behind : (y : Rank) (i : Bool) (f : Start) {qs : List Piece} (rs : List (PieceOf Role)) → AllLaid qs → behind_first (goes_to y i f qs ++ rs) ≡ behind_first rs
laid_behind y i f rs no_piece = refl
laid_behind y i f rs one_laid = refl

pub chunks_unled : (y : Rank) (i : Bool) (f : Start) (b : Bool) (ps : Parts) → is_led (goes_to y i f (template_elements b ps)) ≡ false
chunks_unled y i f b none = refl
chunks_unled y i f b (gap ps) = refl
chunks_unled y i f b (part q none) = refl
chunks_unled y i f b (part q (gap ps)) = refl
chunks_unled y i f b (part q (part e ps)) = refl

-- the second piece asks for no line break
abbrev pub joins_first : List Piece → Bool
joins_first (unbroken ∷ qs) = true
joins_first _ = false

-- behind `async` on its line a function stands
abbrev pub function_follows : List Piece → Bool
function_follows (unbroken ∷ lay space ∷ tok IdentifierName v ∷ qs) = is v "function"
function_follows _ = false

-- but for these, the first word alone decides whether a start is met
pub starts_term : (f : Start) (w : List ℕ) (qs : List Piece) → joins_first qs ≡ false → IsTrue (starts f (tok IdentifierName w ∷ qs)) → IsTrue (starts f (tok IdentifierName w ∷ []))
starts_term Any w qs h k = refl
starts_term NoBrace w qs h k = refl
starts_term Statement w [] h k = k
starts_term Statement w (unbroken ∷ qs) h k = absurd (true≢false h)
starts_term Statement w (_ ∷ qs) h k = k

pub starts_more : (f : Start) (w : List ℕ) (qs : List Piece) → joins_first qs ≡ false → IsTrue (starts f (tok IdentifierName w ∷ [])) → IsTrue (starts f (tok IdentifierName w ∷ qs))
starts_more Any w qs h k = refl
starts_more NoBrace w qs h k = refl
starts_more Statement w [] h k = k
starts_more Statement w (unbroken ∷ qs) h k = absurd (true≢false h)
starts_more Statement w (_ ∷ qs) h k = k

pub starts_plain : (f : Start) (w : List ℕ) (qs : List Piece) → among w ("function" ∷ "class" ∷ []) ≡ false → function_follows qs ≡ false → IsTrue (starts f (tok IdentifierName w ∷ qs))
starts_plain Any w qs h k = refl
starts_plain NoBrace w qs h k = refl
starts_plain Statement w [] h k = ap not h
starts_plain Statement w (unbroken ∷ []) h k = ap not h
starts_plain Statement w (unbroken ∷ lay space ∷ []) h k = ap not h
starts_plain Statement w (unbroken ∷ lay space ∷ tok IdentifierName v ∷ qs) h k = ap not k
starts_plain Statement w (unbroken ∷ lay space ∷ tok _ v ∷ qs) h k = ap not h
starts_plain Statement w (unbroken ∷ lay space ∷ _ ∷ qs) h k = ap not h
starts_plain Statement w (unbroken ∷ lay _ ∷ qs) h k = ap not h
starts_plain Statement w (unbroken ∷ _ ∷ qs) h k = ap not h
starts_plain Statement w (_ ∷ qs) h k = ap not h

abbrev pub Each : (List ℕ → Type 0) → List String → Type 0
Each R [] = Unit {0}
Each R (s ∷ ss) = R (codes s) × Each R ss

-- what holds of each word of a list holds of a text that is among them
pub among_by : (R : List ℕ → Type 0) (w : List ℕ) (ss : List String) → among w ss ≡ true → Each R ss → R w
among_by R w [] h k = cc
among_by R w (s ∷ ss) h k = go (is w s) refl h (λ j. among_by R w ss j k.1)
  where
    go : (b : Bool) → is w s ≡ b → (b || among w ss) ≡ true → (among w ss ≡ true → R w) → R w
    go true e j f = subst R (sym ((bytes_eq-Decides w (codes s)).0 e)) k.0
    go false e j f = f j

-- the token of a sign or a word between two expressions makes what its text says
pub word_or_sign : (w : List ℕ) → of_class (cond (is_word_operator w) IdentifierName Punctuator) w ≡ operator_of w
word_or_sign w = go (is_word_operator w) refl
  where
    go : (b : Bool) → is_word_operator w ≡ b → of_class (cond b IdentifierName Punctuator) w ≡ operator_of w
    go true e = ap (λ b. cond b (operator_of w) op_none) e
    go false e = ap (λ b. cond b op_none (operator_of w)) e

either_way : (x y : Bool) → IsTrue (if x then beq false false else if y then beq false false else true)
either_way true y = refl
either_way false true = refl
either_way false false = refl

-- by the goal for what stands behind an operand, words and signs are read
pub div_allows : (b : Bool) (w : List ℕ) → IsTrue (allows Div (cond b IdentifierName Punctuator) w)
div_allows true w = either_way (begins_with (one_of "/") w) (begins_with (one_of "}") w)
div_allows false w = either_way (begins_with (one_of "/") w) (begins_with (one_of "}") w)

module _ (S : Type 0) (Next : S → Token → S → Type 0) (behind : S → Token) where
  pub retell : {o : ℕ} {qs rs : List (PieceOf Role)} {ps : Parts} {s e : S} {P : List Pair} → qs ≡ rs → Runs ways S Next behind o qs ps s e P → Runs ways S Next behind o rs ps s e P
  retell {o} {ps = ps} {s = s} {e = e} {P = P} h d = subst (λ x. Runs ways S Next behind o x ps s e P) h d

  -- the first token of the pieces, and what stands behind it
  pub record Begun (o : ℕ) (c : TokenClass) (w : List ℕ) (qs : List (PieceOf Role)) (ps : Parts) (s e : S) (P : List Pair) : Type 0 where
    pub token : Token
    pub mid : S
    pub next : Next s token mid
    pub class : token.class ≡ c
    pub text : token.text ≡ w
    pub runs : Runs ways S Next behind o (behind_first qs) ps mid e P

  pub begun : {o : ℕ} {ps : Parts} {s e : S} {P : List Pair} {c : TokenClass} {w : List ℕ} (qs : List (PieceOf Role)) → first_of qs ≡ by c w →
      Runs ways S Next behind o qs ps s e P → Begun o c w qs ps s e P
  begun (tok c' w' ∷ qs) h (step (token {t = t} k) d) = let p : c' ≡ _ = cc in let q : w' ≡ _ = cc in
      record { token = t; mid = _; next = k.next; class = k.class ∙ p; text = k.text ∙ q; runs = d }
  begun (lay x ∷ qs) h (step laid d) = let u = begun qs h d in record { token = u.token; mid = u.mid; next = u.next; class = u.class; text = u.text; runs = u.runs }
  begun (unbroken ∷ qs) h (step (same_line nx k) d) = let u = begun qs h d in record { token = u.token; mid = u.mid; next = u.next; class = u.class; text = u.text; runs = u.runs }
  begun (no_operand ∷ qs) h (step (left_bare nx k) d) = let u = begun qs h d in record { token = u.token; mid = u.mid; next = u.next; class = u.class; text = u.text; runs = u.runs }
  begun _ h d = cc

  -- the token that a goal reads is that with which the pieces begin
  pub record Taken (o : ℕ) (c : TokenClass) (w : List ℕ) (t : Token) (m : S) (qs : List (PieceOf Role)) (ps : Parts) (e : S) (P : List Pair) : Type 0 where
    pub class : t.class ≡ c
    pub text : t.text ≡ w
    pub runs : Runs ways S Next behind o (behind_first qs) ps m e P

  pub taken : IsDetermined S Next behind → (g : Goal) → {o : ℕ} {ps : Parts} {s m e : S} {P : List Pair} {c : TokenClass} {w : List ℕ} {t : Token} (qs : List (PieceOf Role)) → first_of qs ≡ by c w → IsTrue (allows g c w) →
      Runs ways S Next behind o qs ps s e P → ReadBy S Next behind g s t m → Taken o c w t m qs ps e P
  taken det g {o} {ps} {s} {m} {e} {P} {c} {w} {t} qs h al d r =
      let u = begun qs h d in
      let al' : IsTrue (allows g u.token.class u.token.text) = subst (λ x. IsTrue (allows g x u.token.text)) (sym u.class) (subst (λ x. IsTrue (allows g c x)) (sym u.text) al) in
      let v = det.same g s t u.token m u.mid r.next u.next r.allowed al' in
      record {
        class = ap (λ (x : Token). x.class) v.0 ∙ u.class;
        text = ap (λ (x : Token). x.text) v.0 ∙ u.text;
        runs = subst (λ x. Runs ways S Next behind o (behind_first qs) ps x e P) (sym v.1) u.runs;
      }

  -- what is taken first where the token is a name, a number or a string
  pub taken_free : IsDetermined S Next behind → (g : Goal) → {o : ℕ} {ps : Parts} {s m e : S} {P : List Pair} {c : TokenClass} {w : List ℕ} {t : Token} (qs : List (PieceOf Role)) → first_of qs ≡ by c w → is_free c ≡ true →
      Runs ways S Next behind o qs ps s e P → ReadBy S Next behind g s t m → Taken o c w t m qs ps e P
  taken_free det g {o} {ps} {s} {m} {e} {P} {c} {w} {t} qs h al d r =
      let u = begun qs h d in
      let v = det.same g s t u.token m u.mid r.next u.next r.allowed (det.free g s u.token u.mid u.next (ap is_free u.class ∙ al)) in
      record {
        class = ap (λ (x : Token). x.class) v.0 ∙ u.class;
        text = ap (λ (x : Token). x.text) v.0 ∙ u.text;
        runs = subst (λ x. Runs ways S Next behind o (behind_first qs) ps x e P) (sym v.1) u.runs;
      }
