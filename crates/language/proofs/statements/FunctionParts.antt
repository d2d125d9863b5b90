-- Behind `function` and `class`: a name or none, then parameters and a body, or a superclass and a class body (ECMA-262 14.1, 14.6).
use Rattle.std.proofs.Common.{◌≡◌, ℕ, true, List, [], ◌∷◌, ◌++◌, refl, sym, ap, ◌∙◌}
use Rattle.std.specs.Prelude.{codes}
use Rattle.std.proofs.lemmas.Bool.{false≢true}
use Rattle.tokens.specs.declared.token.TokenClass.TheVariants.{IdentifierName, Punctuator}
use Rattle.tokens.specs.declared.token.Goal.TheVariants.{Div}
use Rattle.tree.specs.declared.kind.Pair.{Pair}
use Rattle.tree.specs.Tree.{Tree, Parts, none, part, gap, bare_parts}
use Rattle.language.specs.declared.Rank.TheVariants.{Expression, LeftHandSide}
use Rattle.language.specs.declared.Start.TheVariants.{Any}
use Rattle.language.specs.FirstPart.{others}
use Rattle.language.specs.Vocabulary.{is_reserved}
use Rattle.language.specs.Pieces.{Role, expr, name, body, class_body, Piece, PieceOf, tok, sub, lay, space, sign, term, sp, put, parameters}
use Rattle.language.specs.Expressions.{given, named}
use Rattle.language.specs.Token.{Token}
use Rattle.language.specs.Promises.{IsDetermined, is_free, FoundAt, AbsentAt}
use Rattle.language.specs.Grammar.{ways}
use Rattle.language.specs.Derivation.{Reads, Spells, Runs}
use Rattle.language.proofs.table.Begins.{goes_to}
use Rattle.language.proofs.list_loops.FirstPieces.{run_token, run_laid, run_part, run_never, run_no_part, run_gap_part, run_the_gap, run_the_part}
use Rattle.language.proofs.climbing.Leaves.{name_form}
use Rattle.language.proofs.list_loops.ParameterLists.{parameters_and_body}
use Rattle.language.proofs.climbing.FunctionsAndClasses.{class_behind}
use Rattle.language.proofs.table.StatementWays.{behind_class}
use Rattle.language.proofs.statements.Blocks.{one_class_body}
use Rattle.language.proofs.table.OneKind.{one_kind}
use Rattle.language.proofs.table.SoleWays.{Anyhow, found_where}
use Rattle.language.proofs.statements.StatementFollow.{CannotGoOn, idle_stops}
use Rattle.language.proofs.covers.CoverReadings.{name_or_sign}
use Rattle.language.proofs.list_loops.PiecesSoFar.{Sofar, Fits, lay_on, part_is, gap_is, retold_where}

-- parameters from their `(` on, and the body; a superclass or none, and the class body
abbrev pub call_and_body : Parts → List (PieceOf Role)
call_and_body ps = tok Punctuator (codes "(") ∷ parameters_and_body ps

abbrev pub heritage_and_body : Parts → List (PieceOf Role)
heritage_and_body ps = goes_to Expression true Any (given (bare_parts ps) (term "extends" ∷ sp ∷ put (expr LeftHandSide true Any) ∷ sp ∷ []) ++ put class_body ∷ [])

-- a name or none before these
abbrev pub function_name : Parts → List (PieceOf Role)
function_name ps = goes_to Expression true Any (named (bare_parts ps) ++ sign "(" ∷ parameters (sign ")" ∷ sp ∷ put body ∷ []) (others (bare_parts ps)))

abbrev pub class_name : Parts → List (PieceOf Role)
class_name ps = goes_to Expression true Any (given (bare_parts ps) (put name ∷ sp ∷ []) ++ given (others (bare_parts ps)) (term "extends" ∷ sp ∷ put (expr LeftHandSide true Any) ∷ sp ∷ []) ++ put class_body ∷ [])

abbrev pub declared_class : Parts → List (PieceOf Role)
declared_class none = goes_to Expression true Any Rattle.language.specs.Pieces.nothing
declared_class (gap ps) = goes_to Expression true Any Rattle.language.specs.Pieces.nothing
declared_class (part n ps) = sub name ∷ lay space ∷ heritage_and_body ps

-- behind `extends`
abbrev pub superclass_pieces : Parts → List (PieceOf Role)
superclass_pieces ps = tok IdentifierName (codes "extends") ∷ lay space ∷ sub (expr LeftHandSide true Any) ∷ lay space ∷ sub class_body ∷ []

abbrev pub body_alone : Parts → List (PieceOf Role)
body_alone ps = sub class_body ∷ []

module _ (S : Type 0) (Next : S → Token → S → Type 0) (behind : S → Token) (det : IsDetermined S Next behind) where
  -- a class body begins with `{`
  pub record Braced (s : S) : Type 0 where
    pub sign : Token
    pub mid : S
    pub reads : Reads S Next behind Punctuator (codes "{") s sign mid

  pub class_body_begins : {o : ℕ} {n : Tree} {s e : S} {P : List Pair} → Spells ways S Next behind o class_body n s e P → Braced s
  class_body_begins d =
      let told = (one_kind S Next behind det {Fine = Anyhow} one_class_body).told d tt in
      let u = run_token S Next behind told.runs in
      record { sign = u.sign; mid = u.mid; reads = u.reads }

  -- a name isn't `extends`
  extends_name : {o : ℕ} {n : Tree} {s e k : S} {P : List Pair} {t : Token} → Spells ways S Next behind o name n s e P → Reads S Next behind IdentifierName (codes "extends") s t k → ⊥
  unfolding is_reserved
  extends_name {s = s} {e = e} {k = k} {t = t} d h =
      let u = name_form S Next behind det d in
      let v = u.0.reads in
      let same = (det.same Div s u.0.sign t e k v.next h.next (det.free Div s u.0.sign e v.next (ap is_free v.class)) (det.free Div s t k h.next (ap is_free h.class))).0 in
      false≢true (sym u.1 ∙ ap is_reserved (sym v.text ∙ ap (λ (x : Token). x.text) same ∙ h.text))

  -- with a name before it, no superclass and no body begins
  no_heritage : {o o' : ℕ} {n : Tree} {s e k : S} {P Q : List Pair} (ps : Parts) → Spells ways S Next behind o name n s e P → Runs ways S Next behind o' (heritage_and_body ps) ps s k Q → ⊥
  no_heritage none d r = run_never S Next behind r
  no_heritage (part m ps) d r = let u = run_token S Next behind r in extends_name d u.reads
  no_heritage (gap ps) d r = let u = run_part S Next behind (run_the_gap S Next behind r) in name_or_sign S Next behind det refl (name_form S Next behind det d).0.reads (class_body_begins u.spelled).reads

  module _ {Fine : Parts → S → Type 0} {o : ℕ} {mid : S} where
    pub function_named : {k : S} {n : Tree} {A : List Pair} → FoundAt S Next behind o name mid k n A → Sofar S Next behind det Fine o function_name mid call_and_body k (part n) A
    function_named found = part_is S Next behind det {FineNode = Anyhow} (λ m ps. refl) (λ o' e P d fine. run_never S Next behind d)
        (λ o' ps e P d fine. (let u = run_token S Next behind (run_the_gap S Next behind d) in name_or_sign S Next behind det refl (name_form S Next behind det found.spelled).0.reads u.reads))
        (found_where S Next behind det found) (λ o' m ps k' e A' P d r fine. tt)

    pub function_unnamed : AbsentAt S Next behind name mid → Sofar S Next behind det Fine o function_name mid call_and_body mid gap []
    function_unnamed missed = gap_is S Next behind det (λ ps. refl) (λ o' e P d fine. run_never S Next behind d)
        (λ o' m ps e P d fine. (let u = run_the_part S Next behind d in missed.nothing o' u.mid m u.one u.spelled))

    pub class_spaced : Sofar S Next behind det Fine o class_behind mid class_name mid (λ ps. ps) []
    class_spaced = lay_on S Next behind det

    pub class_named : {k : S} {n : Tree} {A : List Pair} → FoundAt S Next behind o name mid k n A → Sofar S Next behind det Fine o class_name mid (λ ps. lay space ∷ heritage_and_body ps) k (part n) A
    class_named found = part_is S Next behind det {FineNode = Anyhow} {last = λ n ps. lay space ∷ heritage_and_body ps} (λ m ps. refl) (λ o' e P d fine. run_never S Next behind d)
        (λ o' ps e P d fine. no_heritage ps found.spelled (run_the_gap S Next behind d))
        (found_where S Next behind det found) (λ o' m ps k' e A' P d r fine. tt)

    pub class_unnamed : AbsentAt S Next behind name mid → Sofar S Next behind det Fine o class_name mid heritage_and_body mid gap []
    class_unnamed missed = gap_is S Next behind det (λ ps. refl) (λ o' e P d fine. run_never S Next behind d)
        (λ o' m ps e P d fine. (let u = run_the_part S Next behind d in missed.nothing o' u.mid m u.one u.spelled))

    pub declared_class_spaced : Sofar S Next behind det Fine o (λ ps. goes_to Expression true Any (behind_class (bare_parts ps))) mid (λ ps. lay space ∷ declared_class ps) mid (λ ps. ps) []
    declared_class_spaced = retold_where S Next behind det (λ o' ps e P d fine. there ps d) (λ ps e P d. back ps d)
      where
        there : {o' : ℕ} {e : S} {P : List Pair} (ps : Parts) → Runs ways S Next behind o' (goes_to Expression true Any (behind_class (bare_parts ps))) ps mid e P → goes_to Expression true Any (behind_class (bare_parts ps)) ≡ lay space ∷ declared_class ps
        there none d = absurd (run_never S Next behind d)
        there (gap ps) d = absurd (run_never S Next behind d)
        there (part n ps) d = refl

        back : {e : S} {P : List Pair} (ps : Parts) → Runs ways S Next behind o (lay space ∷ declared_class ps) ps mid e P → goes_to Expression true Any (behind_class (bare_parts ps)) ≡ lay space ∷ declared_class ps
        back none d = absurd (run_never S Next behind (run_laid S Next behind d))
        back (gap ps) d = absurd (run_never S Next behind (run_laid S Next behind d))
        back (part n ps) d = refl

    pub declared_class_named : {k : S} {n : Tree} {A : List Pair} → FoundAt S Next behind o name mid k n A → Sofar S Next behind det Fine o declared_class mid (λ ps. lay space ∷ heritage_and_body ps) k (part n) A
    declared_class_named found = part_is S Next behind det {FineNode = Anyhow} {last = λ n ps. lay space ∷ heritage_and_body ps} (λ m ps. refl) (λ o' e P d fine. run_never S Next behind d) (λ o' ps e P d fine. run_never S Next behind d)
        (found_where S Next behind det found) (λ o' m ps k' e A' P d r fine. tt)

    -- with `extends`, and without
    pub extending : {t : Token} {k : S} → Reads S Next behind IdentifierName (codes "extends") mid t k → Sofar S Next behind det Fine o heritage_and_body mid superclass_pieces mid (λ ps. ps) []
    extending word = retold_where S Next behind det (λ o' ps e P d fine. there ps d) (λ ps e P d. back ps d)
      where
        there : {o' : ℕ} {e : S} {P : List Pair} (ps : Parts) → Runs ways S Next behind o' (heritage_and_body ps) ps mid e P → heritage_and_body ps ≡ superclass_pieces ps
        there none d = absurd (run_never S Next behind d)
        there (part n ps) d = refl
        there (gap ps) d = let u = run_part S Next behind (run_the_gap S Next behind d) in absurd (name_or_sign S Next behind det refl word (class_body_begins u.spelled).reads)

        back : {e : S} {P : List Pair} (ps : Parts) → Runs ways S Next behind o (superclass_pieces ps) ps mid e P → heritage_and_body ps ≡ superclass_pieces ps
        back none d = run_no_part S Next behind (run_laid S Next behind (run_token S Next behind d).runs)
        back (gap ps) d = run_gap_part S Next behind (run_laid S Next behind (run_token S Next behind d).runs)
        back (part n ps) d = refl

    pub not_extending : ((t : Token) (k : S) → Reads S Next behind IdentifierName (codes "extends") mid t k → ⊥) → Sofar S Next behind det Fine o heritage_and_body mid body_alone mid gap []
    not_extending missed = gap_is S Next behind det (λ ps. refl) (λ o' e P d fine. run_never S Next behind d)
        (λ o' m ps e P d fine. (let u = run_token S Next behind d in missed u.sign u.mid u.reads))

  -- a superclass fits before the class body
  pub before_class_body : (Fine : Parts → S → Type 0) {mid : S} → Fits S Next behind det Fine (CannotGoOn S Next behind det LeftHandSide true) (expr LeftHandSide true Any) (λ ps. lay space ∷ sub class_body ∷ []) mid
  before_class_body Fine o m ps k e A P d runs fine = let u = run_part S Next behind (run_laid S Next behind runs) in idle_stops S Next behind det LeftHandSide true m refl (λ x b. refl) (class_body_begins u.spelled).reads
