-- What stands behind the token of a part of a chain, no higher, is the only part there.
use Rattle.std.proofs.Common.{◌≡◌, ℕ, ◌≤◌, Bool, true, false, cond, List, refl, sym, ap, ◌∙◌, subst, arith}
use Rattle.std.specs.Prelude.{max}
use Rattle.tree.specs.declared.kind.Kind.{Kind}
use Rattle.tree.specs.declared.kind.Kind.TheVariants.{Identifier, PrivateIdentifier}
use Rattle.language.specs.declared.Rank.TheVariants.{Expression}
use Rattle.language.specs.declared.Start.TheVariants.{Any}
use Rattle.tree.specs.declared.kind.Flags.{Flags}
use Rattle.tree.specs.declared.kind.Pair.{Pair}
use Rattle.tree.specs.Tree.{Tree, Parts, node, none, kind_of, bare_parts, plain, height, parts_height}
use Rattle.tree.specs.Kinds.{is_private}
use Rattle.language.specs.FirstPart.{lead as lead_kind}
use Rattle.language.specs.Vocabulary.{Operator}
use Rattle.language.specs.Pieces.{Role, word, private_name, PieceOf}
use Rattle.language.specs.Token.{Token}
use Rattle.language.specs.Promises.{IsDetermined, Found}
use Rattle.language.specs.Following.{IsAlike}
use Rattle.language.specs.Grammar.{ways}
use Rattle.language.specs.Derivation.{Spells, Runs}
use Rattle.language.proofs.climbing.RightOperands.{one_part, PropertyFound, Bracketed, in_bracket}
use Rattle.language.proofs.table.LeftRecursiveWays.{property_role}
use Rattle.language.proofs.list_loops.FirstPieces.{run_token}
use Rattle.language.proofs.climbing.OperatorNodes.{kind_bare}
use Rattle.language.proofs.climbing.Suffixes.{argument_pieces}
use Rattle.language.proofs.climbing.Conditionals.{stops_before}
use Rattle.language.proofs.climbing.Leaves.{word_form, private_form, property_found, private_found}
use Rattle.language.proofs.climbing.Chains.{Link, on_dot, on_index, on_call, on_name, on_brackets, on_arguments, FoundLink}
use Rattle.language.proofs.climbing.ChainElements.{found_dot, found_index, found_call, found_name, found_brackets, found_arguments}
use Rattle.unambiguity_laws.proofs.Unique.{Unique, UniqueParts}

module _ (S : Type 0) (Next : S → Token → S → Type 0) (behind : S → Token) (det : IsDetermined S Next behind) where
  -- what stands behind a point is the only name or private name there
  pub property_unique : {o : ℕ} {n : Tree} {s e : S} {P : List Pair} → Spells ways S Next behind o (property_role (kind_of n)) n s e P → PropertyFound S Next behind det o s e n P
  property_unique {o} {n} {s} {e} {P} d = of (is_private (kind_of n)) d
    where
      of : (b : Bool) → Spells ways S Next behind o (cond b private_name word) n s e P → PropertyFound S Next behind det o s e n P
      of true d =
          let u = private_form S Next behind det d in
          subst (λ w. PropertyFound S Next behind det o s e w P) (sym u.tree) (subst (λ w. PropertyFound S Next behind det o s e (node PrivateIdentifier u.text plain u.sign.start (behind e).stop none) w) (sym u.pairs) (private_found S Next behind det u.reads))
      of false d =
          let u = word_form S Next behind det d in
          subst (λ w. PropertyFound S Next behind det o s e w P) (sym u.tree) (subst (λ w. PropertyFound S Next behind det o s e (node Identifier u.text plain u.sign.start (behind e).stop none) w) (sym u.pairs) (property_found S Next behind det u.is_word u.reads))

module _ (S : Type 0) (Next : S → Token → S → Type 0) (behind : S → Token) (det : IsDetermined S Next behind) (alike : IsAlike S Next behind) {h : ℕ} (u : Unique S Next behind det h) where
  -- what is found, told of what is equal
  told : {o : ℕ} {z : Operator} {K : Kind} {G : Flags} {pieces : Parts → List (PieceOf Role)} {ps qs : Parts} {x e : S} {P Q : List Pair} → ps ≡ qs → P ≡ Q → FoundLink S Next behind det o z x e K G pieces qs Q → FoundLink S Next behind det o z x e K G pieces ps P
  told {o} {z} {K} {G} {pieces} {ps} {qs} {x} {e} {P} {Q} parts pairs found = subst (λ c. FoundLink S Next behind det o z x e K G pieces ps c) (sym pairs) (subst (λ c. FoundLink S Next behind det o z x e K G pieces c Q) (sym parts) found)

  -- an expression before a `]`
  inner_found : {o : ℕ} {ps : Parts} {x e : S} {P : List Pair} → parts_height ps ≤ h → (b : Bracketed S Next behind det o ps x e P) → Found S Next behind o Expression true Any x b.place b.inner b.pairs
  inner_found {ps = ps} low b =
      let high : parts_height ps ≡ max (height b.inner) 0 = ap parts_height b.parts in
      u.expressions.found (omega arith) (λ k. cc) (λ k. cc) b.spelled (stops_before S Next behind det Expression true b.inner b.closes refl refl (λ k v. refl))

  pub link_found : {o : ℕ} {z : Operator} {K : Kind} {G : Flags} {pieces : Parts → List (PieceOf Role)} {ps : Parts} {x e : S} {P : List Pair} → UniqueParts S Next behind det h argument_pieces → Link z K G pieces → parts_height ps ≤ h → Runs ways S Next behind o (pieces ps) ps x e P →
      FoundLink S Next behind det o z x e K G pieces ps P
  link_found {o} {x = x} {e = e} {P = P} arguments on_dot low d =
      let p = one_part S Next behind det d in
      told p.parts refl (found_dot S Next behind det (property_unique S Next behind det (subst (λ k. Spells ways S Next behind o (property_role k) p.operand x e P) (ap (λ v. lead_kind (bare_parts v)) p.parts ∙ kind_bare p.operand) p.spelled)))
  link_found arguments on_index low d =
      let b = in_bracket S Next behind det d in
      told b.parts b.pairs_are (found_index S Next behind det (inner_found low b) b.closes)
  link_found arguments on_call low d = found_call S Next behind det (arguments.gives low d)
  link_found {o} {x = x} {e = e} {P = P} arguments on_name low d =
      let p = one_part S Next behind det d in
      told p.parts refl (found_name S Next behind det (property_unique S Next behind det (subst (λ k. Spells ways S Next behind o (property_role k) p.operand x e P) (ap (λ v. lead_kind (bare_parts v)) p.parts ∙ kind_bare p.operand) p.spelled)))
  link_found arguments on_brackets low d =
      let v = run_token S Next behind d in
      let b = in_bracket S Next behind det v.runs in
      told b.parts b.pairs_are (found_brackets S Next behind det v.reads (inner_found low b) b.closes)
  link_found arguments on_arguments low d = let v = run_token S Next behind d in found_arguments S Next behind det v.reads (arguments.gives low v.runs)
