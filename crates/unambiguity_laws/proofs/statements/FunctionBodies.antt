-- Functions and classes: what runs behind their word is the only thing there, in expressions and in declarations.
use Rattle.std.proofs.Common.{◌≡◌, ℕ, ◌≤◌, true, List, [], ◌∷◌, ◌++◌, refl, sym, ap, ◌∙◌, subst, arith}
use Rattle.std.specs.Prelude.{codes}
use Rattle.std.proofs.lemmas.Bool.{false≢true}
use Rattle.tokens.specs.declared.token.TokenClass.TheVariants.{IdentifierName}
use Rattle.tokens.specs.declared.token.Goal.TheVariants.{Div}
use Rattle.tree.specs.declared.kind.Pair.{Pair}
use Rattle.tree.specs.Tree.{Tree, Parts, none, part, gap, parts_height, bare_parts, join}
use Rattle.tree.proofs.Shapes.{parts_height-join}
use Rattle.language.specs.declared.Rank.TheVariants.{Expression, LeftHandSide}
use Rattle.language.specs.declared.Start.TheVariants.{Any}
use Rattle.language.specs.Vocabulary.{is_reserved}
use Rattle.language.specs.Pieces.{name, body, space, lay, sp, put}
use Rattle.language.specs.Token.{Token}
use Rattle.language.specs.StatementStart.{a_class}
use Rattle.language.specs.Promises.{IsDetermined, is_free, FoundAt, AbsentAt, FoundParts}
use Rattle.language.specs.Following.{IsAlike}
use Rattle.language.specs.Grammar.{ways}
use Rattle.language.specs.Derivation.{Reads, Spells, Runs}
use Rattle.language.proofs.table.Begins.{goes_to}
use Rattle.language.proofs.list_loops.FirstPieces.{run_token, run_laid, run_part, run_never, run_the_gap, run_the_part}
use Rattle.language.proofs.climbing.RightOperands.{one_part}
use Rattle.language.proofs.climbing.Leaves.{name_form, name_found}
use Rattle.language.proofs.list_loops.ParameterLists.{parameter_list, parameters_and_body, parameters_split, function_closer, bodied_found}
use Rattle.language.proofs.climbing.FunctionsAndClasses.{class_behind}
use Rattle.language.proofs.table.StatementWays.{behind_class}
use Rattle.language.proofs.table.OwnTokenWays.{own_sole}
use Rattle.language.proofs.table.SoleWays.{Anyhow, found_where}
use Rattle.language.proofs.statements.StatementFollow.{CannotGoOn, found_whole}
use Rattle.language.proofs.covers.CoverReadings.{name_or_sign}
use Rattle.language.proofs.statements.FunctionParts.{call_and_body, heritage_and_body, function_name, class_name, declared_class, superclass_pieces, body_alone, class_body_begins, function_named, function_unnamed, class_spaced, class_named, class_unnamed, declared_class_spaced, declared_class_named, extending, not_extending, before_class_body}
use Rattle.unambiguity_laws.proofs.Unique.{Unique, UniqueParts, StatementStep}
use Rattle.unambiguity_laws.proofs.list_items.PieceRuns.{further, nothing_unique, laid_unique, token_unique, part_unique, sole_unique}

module _ (S : Type 0) (Next : S → Token → S → Type 0) (behind : S → Token) (det : IsDetermined S Next behind) where
  -- a name that binds is the only one there
  pub name_unique : {o : ℕ} {n : Tree} {s e : S} {P : List Pair} → Spells ways S Next behind o name n s e P → FoundAt S Next behind o name s e n P
  name_unique {o} {n} {s} {e} {P} d =
      let w = name_form S Next behind det d in
      subst (λ v. FoundAt S Next behind o name s e n v) (sym w.0.pairs) (subst (λ v. FoundAt S Next behind o name s e v []) (sym w.0.tree) (name_found S Next behind det w.0.reads w.1))

  -- a name isn't `extends`
  extends_name : {o : ℕ} {n : Tree} {s e k : S} {P : List Pair} {t : Token} → Spells ways S Next behind o name n s e P → Reads S Next behind IdentifierName (codes "extends") s t k → ⊥
  unfolding is_reserved
  extends_name {s = s} {e = e} {k = k} {t = t} d h =
      let u = name_form S Next behind det d in
      let v = u.0.reads in
      let same = (det.same Div s u.0.sign t e k v.next h.next (det.free Div s u.0.sign e v.next (ap is_free v.class)) (det.free Div s t k h.next (ap is_free h.class))).0 in
      false≢true (sym u.1 ∙ ap is_reserved (sym v.text ∙ ap (λ (x : Token). x.text) same ∙ h.text))

  -- where a superclass or a class body is read, there is no name
  no_name : {o : ℕ} {s e : S} {P : List Pair} (ps : Parts) → Runs ways S Next behind o (heritage_and_body ps) ps s e P → AbsentAt S Next behind name s
  no_name none d = absurd (run_never S Next behind d)
  no_name (part m ps) d = let v = run_token S Next behind d in record { nothing = λ o' e' n' P' p. extends_name p v.reads }
  no_name (gap ps) d = let v = run_part S Next behind (run_the_gap S Next behind d) in record { nothing = λ o' e' n' P' p. name_or_sign S Next behind det refl (name_form S Next behind det p).0.reads (class_body_begins S Next behind det v.spelled).reads }

module _ (S : Type 0) (Next : S → Token → S → Type 0) (behind : S → Token) (det : IsDetermined S Next behind) (alike : IsAlike S Next behind) {h : ℕ} (u : Unique S Next behind det h) where
  -- a class body
  pub body_alone_unique : UniqueParts S Next behind det h body_alone
  body_alone_unique = part_unique S Next behind det {after = λ ps. []} Anyhow (λ o s e n P low d fine. found_where S Next behind det (u.closed refl low d)) (λ mid o m ps k e A P d r fine. tt) (λ n. nothing_unique S Next behind det)

  superclass_unique : UniqueParts S Next behind det h superclass_pieces
  superclass_unique = token_unique S Next behind det Div refl (laid_unique S Next behind det (part_unique S Next behind det {after = λ ps. lay space ∷ body_alone ps} (CannotGoOn S Next behind det LeftHandSide true)
      (λ o s e n P low d st. found_whole S Next behind det (u.expressions.found low (λ e. cc) (λ e. cc) d st)) (λ mid. before_class_body S Next behind det Anyhow) (λ n. laid_unique S Next behind det body_alone_unique)))

  -- a superclass or none, and a class body
  pub heritage_unique : UniqueParts S Next behind det h heritage_and_body
  heritage_unique = record { gives = λ {o} {s} {e} {ps} {P} low d. of ps low d }
    where
      of : {o : ℕ} {s e : S} {P : List Pair} (ps : Parts) → parts_height ps ≤ h → Runs ways S Next behind o (heritage_and_body ps) ps s e P → FoundParts S Next behind o heritage_and_body s e ps P
      of none low d = absurd (run_never S Next behind d)
      of (part n ps) low d = further S Next behind det (extending S Next behind det (run_token S Next behind d).reads) superclass_unique low d
      of (gap ps) low d =
          let v = run_part S Next behind (run_the_gap S Next behind d) in
          further S Next behind det (not_extending S Next behind det (λ t k r. name_or_sign S Next behind det refl r (class_body_begins S Next behind det v.spelled).reads)) body_alone_unique low d

  -- behind `class`
  class_name_unique : UniqueParts S Next behind det h class_name
  class_name_unique = record { gives = λ {o} {s} {e} {ps} {P} low d. of ps low d }
    where
      of : {o : ℕ} {s e : S} {P : List Pair} (ps : Parts) → parts_height ps ≤ h → Runs ways S Next behind o (class_name ps) ps s e P → FoundParts S Next behind o class_name s e ps P
      of none low d = absurd (run_never S Next behind d)
      of (part n ps) low d = further S Next behind det (class_named S Next behind det (name_unique S Next behind det (run_the_part S Next behind d).spelled)) (laid_unique S Next behind det heritage_unique) low d
      of (gap ps) low d = further S Next behind det (class_unnamed S Next behind det (no_name S Next behind det ps (run_the_gap S Next behind d))) heritage_unique low d

  pub class_unique : UniqueParts S Next behind det h class_behind
  class_unique = record { gives = λ low d. further S Next behind det (class_spaced S Next behind det) class_name_unique low d }

  declared_class_name_unique : UniqueParts S Next behind det h declared_class
  declared_class_name_unique = record { gives = λ {o} {s} {e} {ps} {P} low d. of ps low d }
    where
      of : {o : ℕ} {s e : S} {P : List Pair} (ps : Parts) → parts_height ps ≤ h → Runs ways S Next behind o (declared_class ps) ps s e P → FoundParts S Next behind o declared_class s e ps P
      of none low d = absurd (run_never S Next behind d)
      of (part n ps) low d = further S Next behind det (declared_class_named S Next behind det (name_unique S Next behind det (run_the_part S Next behind d).spelled)) (laid_unique S Next behind det heritage_unique) low d
      of (gap ps) low d = absurd (run_never S Next behind d)

  -- behind `class` of a declaration
  pub declared_class_unique : UniqueParts S Next behind det h (λ ps. goes_to Expression true Any (behind_class (bare_parts ps)))
  declared_class_unique = record { gives = λ low d. further S Next behind det (declared_class_spaced S Next behind det) (laid_unique S Next behind det declared_class_name_unique) low d }

  -- a class declaration
  pub class_statement : StatementStep S Next behind det h a_class
  class_statement = record { gives = λ stands low d fine read begun. sole_unique S Next behind det (own_sole S Next behind det stands read a_class begun refl (λ e. cc) (λ o n e P w. elim w [ ])) declared_class_unique low d fine }

  -- Where the parameters are the only ones.
  module _ (parameters : UniqueParts S Next behind det h parameter_list) where
    -- parameters and a body
    pub bodied_unique : UniqueParts S Next behind det h parameters_and_body
    bodied_unique = record {
      gives = λ {o} {s} {e} {ps} {P} low d.
          let w = parameters_split S Next behind (sp ∷ put body ∷ []) (function_closer S Next behind Expression true Any o) ps d in
          let b = one_part S Next behind det (run_laid S Next behind w.runs) in
          let same : ps ≡ join w.given (part b.operand none) = w.parts ∙ ap (join w.given) b.parts in
          let high : parts_height ps ≡ parts_height (join w.given (part b.operand none)) = ap parts_height same in
          let inner = parts_height-join w.given (part b.operand none) in
          let list = parameters.gives (omega arith) w.list in
          let last = u.closed refl (omega arith) b.spelled in
          subst (λ v. FoundParts S Next behind o parameters_and_body s e ps v) (sym w.pairs) (subst (λ v. FoundParts S Next behind o parameters_and_body s e v (w.one ++ w.more)) (sym same) (bodied_found S Next behind det list last));
    }

    pub call_unique : UniqueParts S Next behind det h call_and_body
    call_unique = token_unique S Next behind det Div refl bodied_unique

    -- behind `function`: a name or none
    pub function_name_unique : UniqueParts S Next behind det h function_name
    function_name_unique = record { gives = λ {o} {s} {e} {ps} {P} low d. of ps low d }
      where
        of : {o : ℕ} {s e : S} {P : List Pair} (ps : Parts) → parts_height ps ≤ h → Runs ways S Next behind o (function_name ps) ps s e P → FoundParts S Next behind o function_name s e ps P
        of none low d = absurd (run_never S Next behind d)
        of (part n ps) low d = further S Next behind det (function_named S Next behind det (name_unique S Next behind det (run_the_part S Next behind d).spelled)) call_unique low d
        of (gap ps) low d =
            let v = run_token S Next behind (run_the_gap S Next behind d) in
            further S Next behind det (function_unnamed S Next behind det (record { nothing = λ o' e' n' P' p. name_or_sign S Next behind det refl (name_form S Next behind det p).0.reads v.reads })) call_unique low d
