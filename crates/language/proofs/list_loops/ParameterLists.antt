-- The parameters of a function or an arrow, apart from the body, which is the last part beside them: a list with its closing token, and what follows it.
use Rattle.std.proofs.Common.{◌≡◌, ℕ, Bool, true, false, List, [], ◌∷◌, ◌++◌, refl, sym, ap, ◌∙◌, subst, append_assoc}
use Rattle.std.specs.Prelude.{Some, codes}
use Rattle.std.proofs.lemmas.Bool.{false≢true}
use Rattle.tokens.specs.declared.token.TokenClass.TheVariants.{Punctuator}
use Rattle.language.specs.declared.Rank.{Rank}
use Rattle.language.specs.declared.Rank.TheVariants.{Expression}
use Rattle.language.specs.declared.Start.{Start}
use Rattle.language.specs.declared.Start.TheVariants.{Any}
use Rattle.tree.specs.declared.kind.Pair.{Pair}
use Rattle.tree.specs.Tree.{Tree, Parts, none, part, gap, kind_of, join}
use Rattle.language.specs.Vocabulary.{is_rest}
use Rattle.language.specs.Pieces.{Role, body, Piece, PieceOf, sp, sign, put, is_none, settle_piece}
use Rattle.language.specs.Token.{Token}
use Rattle.language.specs.Promises.{IsDetermined, FoundAt, FoundParts}
use Rattle.language.specs.Grammar.{ways}
use Rattle.language.specs.Derivation.{Reads, Spells, Runs, step, token, laid}
use Rattle.language.proofs.table.Begins.{goes_to}
use Rattle.language.proofs.list_loops.FirstPieces.{run_token, run_laid, run_never}
use Rattle.language.proofs.climbing.RightOperands.{one_part}
use Rattle.language.proofs.climbing.OperatorNodes.{last_runs}
use Rattle.language.proofs.list_loops.FirstItems.{element_role, list_pieces, parameter_pieces, ListForm, no_item, last_item, trailing, more_items, BehindLast, alone, and_comma, list_form, list_runs, ParameterForm, no_parameter, last_parameter, more_parameters, parameter_form, parameter_runs}

-- the pieces of parameters, with their closing parenthesis
abbrev pub parameter_list : Parts → List (PieceOf Role)
parameter_list ps = list_pieces (element_role true) (codes ")") ps

last_is : {b : Tree} {l : Tree} {ps : Parts} → part l ps ≡ join none (part b none) → is_none ps ≡ true
last_is e = ap rest_none e
  where
    rest_none : Parts → Bool
    rest_none (part n ps) = is_none ps
    rest_none _ = false

some_given : (b : Tree) {l : Tree} {rest : Parts} (qs : Parts) → is_none rest ≡ false → part l rest ≡ join qs (part b none) → is_none qs ≡ false
some_given b none j e = absurd (false≢true (sym j ∙ last_is e))
some_given b (part v qs) j e = refl
some_given b (gap qs) j e = refl

joined_some : (b : Tree) (qs : Parts) → is_none (join qs (part b none)) ≡ false
joined_some b none = refl
joined_some b (part v qs) = refl
joined_some b (gap qs) = refl

module _ (S : Type 0) (Next : S → Token → S → Type 0) (behind : S → Token) where
  -- a piece that reads `)`, behind which o' parentheses may be open
  pub record Closer (y : Rank) (i : Bool) (f : Start) (o o' : ℕ) (closer : Piece) : Type 0 where
    pub opens : {qs : List (PieceOf Role)} {ps : Parts} {s e : S} {P : List Pair} → Runs ways S Next behind o (settle_piece y i f closer ∷ qs) ps s e P → (t : Token) × (m : S) × Reads S Next behind Punctuator (codes ")") s t m × Runs ways S Next behind o' qs ps m e P
    pub closes : {qs : List (PieceOf Role)} {ps : Parts} {t : Token} {s m e : S} {P : List Pair} → Reads S Next behind Punctuator (codes ")") s t m → Runs ways S Next behind o' qs ps m e P → Runs ways S Next behind o (settle_piece y i f closer ∷ qs) ps s e P

  -- parameters up to their closing parenthesis, and what runs over the body
  pub record Split (o o' : ℕ) (qs : List (PieceOf Role)) (ps : Parts) (s e : S) (P : List Pair) : Type 0 where
    pub given : Parts
    pub last : Tree
    pub mid : S
    pub one : List Pair
    pub more : List Pair
    pub parts : ps ≡ join given (part last none)
    pub list : Runs ways S Next behind o (parameter_list given) given s mid one
    pub runs : Runs ways S Next behind o' qs (part last none) mid e more
    pub pairs : P ≡ one ++ more

  module _ {y : Rank} {i : Bool} {f : Start} {o o' : ℕ} {closer : Piece} (after : List Piece) (c : Closer y i f o o' closer) where
    of_last : {n b : Tree} {m s e : S} {P Q R : List Pair} {a : Role} → element_role true (kind_of n) ≡ Some a → Spells ways S Next behind o a n s m Q → P ≡ Q ++ R → BehindLast S Next behind o (is_rest (kind_of n)) (goes_to y i f (closer ∷ after)) (part b none) m e R →
        Split o o' (goes_to y i f after) (part n (part b none)) s e P
    of_last {n} {b} {Q = Q} {R = R} h p z (alone d) = let u = c.opens d in record { given = part n none; last = b; mid = u.1; one = Q; more = R; parts = refl; list = list_runs S Next behind {r = element_role true} (last_item h p u.2); runs = u.3; pairs = z }
    of_last {n} {b} {Q = Q} {R = R} h p z (and_comma k x d) = let u = c.opens d in record { given = part n none; last = b; mid = u.1; one = Q; more = R; parts = refl; list = list_runs S Next behind {r = element_role true} (trailing h k p x u.2); runs = u.3; pairs = z }

    of_one : {s e : S} {P : List Pair} {b : Tree} → ParameterForm S Next behind o y i f (closer ∷ after) s e P (part b none) → Split o o' (goes_to y i f after) (part b none) s e P
    of_one {P = P} {b = b} (no_parameter d) = let u = c.opens d in record { given = none; last = b; mid = u.1; one = []; more = P; parts = refl; list = list_runs S Next behind {r = element_role true} (no_item u.2 refl); runs = u.3; pairs = refl }

    of_more : {s e : S} {P : List Pair} {n l : Tree} {rest : Parts} → ((s e : S) (P : List Pair) → Runs ways S Next behind o (parameter_pieces y i f (closer ∷ after) (part l rest)) (part l rest) s e P → Split o o' (goes_to y i f after) (part l rest) s e P) →
        ParameterForm S Next behind o y i f (closer ∷ after) s e P (part n (part l rest)) → Split o o' (goes_to y i f after) (part n (part l rest)) s e P
    of_more further (last_parameter h p b z) = of_last h p z b
    of_more further (more_parameters {n = n} {Q = Q} h b j p x d z) =
        let u = further _ _ _ d in
        record {
          given = part n u.given;
          last = u.last;
          mid = u.mid;
          one = Q ++ u.one;
          more = u.more;
          parts = ap (part n) u.parts;
          list = list_runs S Next behind {r = element_role true} (more_items h b (some_given u.last u.given j u.parts) p x u.list refl);
          runs = u.runs;
          pairs = z ∙ ap (λ v. Q ++ v) u.pairs ∙ sym (append_assoc Q u.one u.more);
        }

    -- what runs over parameters is such a list, and the rest
    pub parameters_split : (ps : Parts) {s e : S} {P : List Pair} → Runs ways S Next behind o (parameter_pieces y i f (closer ∷ after) ps) ps s e P → Split o o' (goes_to y i f after) ps s e P
    parameters_split none d = absurd (run_never S Next behind d)
    parameters_split (gap ps) d = absurd (run_never S Next behind d)
    parameters_split (part b none) d = of_one (parameter_form S Next behind (part b none) d)
    parameters_split (part n (gap ps)) d = absurd (run_never S Next behind d)
    parameters_split (part n (part l rest)) d = of_more (λ s e P d. parameters_split (part l rest) d) (parameter_form S Next behind (part n (part l rest)) d)

    join_none : {s m e : S} {P Q : List Pair} {b : Tree} → Runs ways S Next behind o' (goes_to y i f after) (part b none) m e Q → ListForm S Next behind o (element_role true) (codes ")") s m P none → Runs ways S Next behind o (parameter_pieces y i f (closer ∷ after) (part b none)) (part b none) s e (P ++ Q)
    join_none {s} {e = e} {Q = Q} {b = b} r (no_item x z) = subst (λ v. Runs ways S Next behind o (parameter_pieces y i f (closer ∷ after) (part b none)) (part b none) s e (v ++ Q)) (sym z) (c.closes x r)

    join_one : {s m e : S} {P Q : List Pair} {n b : Tree} → Runs ways S Next behind o' (goes_to y i f after) (part b none) m e Q → ListForm S Next behind o (element_role true) (codes ")") s m P (part n none) →
        Runs ways S Next behind o (parameter_pieces y i f (closer ∷ after) (part n (part b none))) (part n (part b none)) s e (P ++ Q)
    join_one r (last_item h p x) = parameter_runs S Next behind {y = y} {after = closer ∷ after} (last_parameter h p (alone (c.closes x r)) refl)
    join_one r (trailing h k p x t) = parameter_runs S Next behind {y = y} {after = closer ∷ after} (last_parameter h p (and_comma k x (c.closes t r)) refl)
    join_one r (more_items h k j p x d z) = cc

    join_more : {s m e : S} {P Q : List Pair} {n l : Tree} (b : Tree) {qs : Parts} →
        ((s : S) (P : List Pair) → Runs ways S Next behind o (parameter_list (part l qs)) (part l qs) s m P → Runs ways S Next behind o (parameter_pieces y i f (closer ∷ after) (part l (join qs (part b none)))) (part l (join qs (part b none))) s e (P ++ Q)) →
        ListForm S Next behind o (element_role true) (codes ")") s m P (part n (part l qs)) → Runs ways S Next behind o (parameter_pieces y i f (closer ∷ after) (part n (part l (join qs (part b none))))) (part n (part l (join qs (part b none)))) s e (P ++ Q)
    join_more {s} {e = e} {Q = Q} {n = n} {l = l} b {qs = qs} further (more_items {Q = A} {R = B} h k j p x d z) =
        subst (λ v. Runs ways S Next behind o (parameter_pieces y i f (closer ∷ after) (part n (part l (join qs (part b none))))) (part n (part l (join qs (part b none)))) s e v) (sym (append_assoc A B Q) ∙ ap (λ v. v ++ Q) (sym z))
        (parameter_runs S Next behind {y = y} {after = closer ∷ after} (more_parameters h k (joined_some b qs) p x (further _ _ d) refl))

    join_gap : {A : Type 0} {s m : S} {P : List Pair} {n : Tree} {qs : Parts} → ListForm S Next behind o (element_role true) (codes ")") s m P (part n (gap qs)) → A
    join_gap (more_items h k j p x d z) = absurd (run_never S Next behind d)

    -- and both run
    pub parameters_join : (ps : Parts) {s m e : S} {P Q : List Pair} {b : Tree} → Runs ways S Next behind o (parameter_list ps) ps s m P → Runs ways S Next behind o' (goes_to y i f after) (part b none) m e Q →
        Runs ways S Next behind o (parameter_pieces y i f (closer ∷ after) (join ps (part b none))) (join ps (part b none)) s e (P ++ Q)
    parameters_join none d r = join_none r (list_form S Next behind none d)
    parameters_join (gap ps) d r = absurd (run_never S Next behind d)
    parameters_join (part n none) d r = join_one r (list_form S Next behind (part n none) d)
    parameters_join (part n (gap qs)) d r = join_gap (list_form S Next behind (part n (gap qs)) d)
    parameters_join (part n (part l qs)) {b = b} d r = join_more b (λ s P d. parameters_join (part l qs) d r) (list_form S Next behind (part n (part l qs)) d)

  -- the parenthesis behind a function's parameters
  pub function_closer : (y : Rank) (i : Bool) (f : Start) (o : ℕ) → Closer y i f o o (sign ")")
  function_closer y i f o = record { opens = λ d. (let u = run_token S Next behind d in (u.sign, u.mid, u.reads, u.runs)); closes = λ h d. step (token h) d }

-- the pieces of a function behind its `(`
abbrev pub parameters_and_body : Parts → List (PieceOf Role)
parameters_and_body ps = parameter_pieces Expression true Any (sign ")" ∷ sp ∷ put body ∷ []) ps

module _ (S : Type 0) (Next : S → Token → S → Type 0) (behind : S → Token) (det : IsDetermined S Next behind) where
  -- parameters, and the body behind them
  record Bodied (o : ℕ) (ps : Parts) (s e : S) (P : List Pair) : Type 0 where
    given : Parts
    last : Tree
    mid : S
    one : List Pair
    more : List Pair
    parts : ps ≡ join given (part last none)
    list : Runs ways S Next behind o (parameter_list given) given s mid one
    spelled : Spells ways S Next behind o body last mid e more
    pairs : P ≡ one ++ more

  bodied : {o : ℕ} {s e : S} {P : List Pair} (ps : Parts) → Runs ways S Next behind o (parameters_and_body ps) ps s e P → Bodied o ps s e P
  bodied {o} ps d =
      let u = parameters_split S Next behind (sp ∷ put body ∷ []) (function_closer S Next behind Expression true Any o) ps d in
      let b = one_part S Next behind det (run_laid S Next behind u.runs) in
      record { given = u.given; last = b.operand; mid = u.mid; one = u.one; more = u.more; parts = u.parts ∙ ap (join u.given) b.parts; list = u.list; spelled = b.spelled; pairs = u.pairs }

  -- both are found
  pub bodied_found : {o : ℕ} {s m e : S} {ps : Parts} {u : Tree} {A B : List Pair} → FoundParts S Next behind o parameter_list s m ps A → FoundAt S Next behind o body m e u B → FoundParts S Next behind o parameters_and_body s e (join ps (part u none)) (A ++ B)
  bodied_found {o} {ps = ps} {A = A} list last = record {
    runs = parameters_join S Next behind (sp ∷ put body ∷ []) (function_closer S Next behind Expression true Any o) ps list.runs (step laid (last_runs S Next behind last.spelled));
    only = λ o' e' ps' P' d. let w = bodied ps' d in
        let same = list.only o' w.mid w.given w.one w.list in
        let end = last.only o' e' w.last w.more (subst (λ c. Spells ways S Next behind o' body w.last c e' w.more) same.0 w.spelled) in
        (end.0, w.parts ∙ (λ k. join (same.1 k) (part (end.1 k) none)), w.pairs ∙ (λ k. same.2 k ++ end.2 k));
  }
