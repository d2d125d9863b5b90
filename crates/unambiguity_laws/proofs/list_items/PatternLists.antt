-- The lists of arrays, of their patterns, of arguments and of parameters; and patterns.
use Rattle.std.proofs.Common.{◌≡◌, ℕ, suc, ◌≤◌, Bool, true, List, [], refl, sym, ap, subst, arith}
use Rattle.std.specs.Prelude.{codes}
use Rattle.tree.specs.declared.kind.Kind.TheVariants.{ArrayPattern, ObjectPattern}
use Rattle.tree.specs.declared.kind.Pair.{Pair}
use Rattle.tree.specs.Tree.{Tree, node, height, plain}
use Rattle.language.specs.declared.Start.{Start}
use Rattle.language.specs.Pieces.{pattern}
use Rattle.language.specs.Token.{Token}
use Rattle.language.specs.Covers.{Reading, as_expression, as_pattern, element_as}
use Rattle.language.specs.Promises.{IsDetermined, FoundAt}
use Rattle.language.specs.Following.{IsAlike}
use Rattle.language.specs.Grammar.{ways}
use Rattle.language.specs.Derivation.{Spells}
use Rattle.language.proofs.list_loops.FirstPieces.{run_token}
use Rattle.language.proofs.list_loops.FirstItems.{element_pieces}
use Rattle.language.proofs.covers.CoverEnds.{Closing, a_bracket, a_parenthesis}
use Rattle.language.proofs.climbing.Suffixes.{argument_pieces}
use Rattle.language.proofs.list_loops.ParameterLists.{parameter_list}
use Rattle.language.proofs.climbing.Targets.{array_parts}
use Rattle.language.proofs.covers.PatternsByToken.{array_pattern_parts, PatternCore, as_array, as_object, pattern_core, array_pattern_found, object_pattern_found}
use Rattle.unambiguity_laws.proofs.Unique.{Unique, UniqueParts}
use Rattle.unambiguity_laws.proofs.list_items.Crossings.{closing_separates, no_comma, no_element_there}
use Rattle.unambiguity_laws.proofs.list_items.ObjectLists.{object_pattern_parts_unique}
use Rattle.unambiguity_laws.proofs.list_items.ElementLists.{Items, listed, with_holes, list_unique, behind_opening}

module _ (S : Type 0) (Next : S → Token → S → Type 0) (behind : S → Token) (det : IsDetermined S Next behind) (alike : IsAlike S Next behind) {h : ℕ} (u : Unique S Next behind det h) where
  -- elements, arguments or parameters, by one reading
  element_items : (x : Reading) {w : List ℕ} → Closing w → Items S Next behind det (element_as x) w h
  element_items x c = record {
    found = λ {a} {o} {n} {s} {e} {P} low it d ends. u.element x c low it d ends;
    begins = λ {a} {o} {n} {s} {e} {P} it d there. no_element_there S Next behind det c x it d there;
    other = no_comma c;
    allowed = (closing_separates c).allowed;
  }

  -- with holes, before `]`
  pub elements_unique : (x : Reading) → UniqueParts S Next behind det h (element_pieces (element_as x) (codes "]"))
  elements_unique x = list_unique S Next behind det (with_holes S Next behind (element_as x) (codes "]")) (element_items x a_bracket)

  pub array_parts_unique : UniqueParts S Next behind det h array_parts
  array_parts_unique = behind_opening S Next behind det refl (elements_unique as_expression)

  pub array_pattern_parts_unique : (b : Bool) → UniqueParts S Next behind det h (array_pattern_parts b)
  array_pattern_parts_unique b = behind_opening S Next behind det refl (elements_unique (as_pattern b))

  pub argument_pieces_unique : UniqueParts S Next behind det h argument_pieces
  argument_pieces_unique = list_unique S Next behind det (listed S Next behind (element_as as_expression) (codes ")")) (element_items as_expression a_parenthesis)

  pub parameter_list_unique : UniqueParts S Next behind det h parameter_list
  parameter_list_unique = list_unique S Next behind det (listed S Next behind (element_as (as_pattern true)) (codes ")")) (element_items (as_pattern true) a_parenthesis)

  -- so patterns are the only ones
  pub pattern_closed : {b : Bool} {f : Start} {o : ℕ} {n : Tree} {s e : S} {P : List Pair} → height n ≤ suc h → Spells ways S Next behind o (pattern b f) n s e P → FoundAt S Next behind o (pattern b f) s e n P
  pattern_closed {b} {f} {o} {n} {s} {e} {P} low d = of (pattern_core S Next behind det d)
    where
      of : PatternCore S Next behind det o b f n s e P → FoundAt S Next behind o (pattern b f) s e n P
      of (as_array {st = st} {en = en} {ps = ps} tree pl r) =
          let high : height n ≡ height (node ArrayPattern [] plain st en ps) = ap height tree in
          subst (λ c. FoundAt S Next behind o (pattern b f) s e c P) (sym tree) (array_pattern_found S Next behind det (run_token S Next behind r).reads ((array_pattern_parts_unique b).gives (omega arith) r) pl)
      of (as_object {st = st} {en = en} {ps = ps} tree begins pl r) =
          let high : height n ≡ height (node ObjectPattern [] plain st en ps) = ap height tree in
          subst (λ c. FoundAt S Next behind o (pattern b f) s e c P) (sym tree) (object_pattern_found S Next behind det (run_token S Next behind r).reads begins ((object_pattern_parts_unique S Next behind det alike u b).gives (omega arith) r) pl)
