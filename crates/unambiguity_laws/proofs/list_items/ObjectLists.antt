-- The parts of an object, and of an object pattern, are the only ones there.
use Rattle.std.proofs.Common.{◌≡◌, ℕ, Bool, List, ◌∷◌, refl, sym, ap}
use Rattle.std.specs.Prelude.{Some, codes}
use Rattle.std.proofs.lemmas.Bool.{false≢true}
use Rattle.tokens.specs.declared.token.TokenClass.TheVariants.{Punctuator}
use Rattle.tree.specs.declared.kind.Pair.{Pair}
use Rattle.tree.specs.Tree.{Tree, kind_of}
use Rattle.language.specs.Vocabulary.{is}
use Rattle.language.specs.Pieces.{Role, tok}
use Rattle.language.specs.Token.{Token}
use Rattle.language.specs.Covers.{Reading, as_expression, as_pattern, property_as}
use Rattle.language.specs.Promises.{IsDetermined}
use Rattle.language.specs.Following.{IsAlike}
use Rattle.language.specs.Grammar.{ways}
use Rattle.language.specs.Derivation.{Spells}
use Rattle.language.proofs.list_loops.FirstItems.{list_pieces}
use Rattle.language.proofs.covers.PatternsByToken.{object_pattern_parts}
use Rattle.language.proofs.climbing.Targets.{object_parts}
use Rattle.language.proofs.list_loops.CommaLists.{Separated, by_comma, by_closing}
use Rattle.language.proofs.covers.CoverPunctuators.{comma_separates, brace_separates, no_part_begins}
use Rattle.unambiguity_laws.proofs.Unique.{Unique, UniqueParts}
use Rattle.unambiguity_laws.proofs.list_items.ElementLists.{Items, listed, list_unique, behind_opening}

comma_brace : codes "," ≡ codes "}" → ⊥
comma_brace e = false≢true (sym (ap (λ w. is w ",") e))

module _ (S : Type 0) (Next : S → Token → S → Type 0) (behind : S → Token) (det : IsDetermined S Next behind) (alike : IsAlike S Next behind) {h : ℕ} (u : Unique S Next behind det h) where
  -- no part begins with a comma or the closing sign
  not_separated : (x : Reading) {a : Role} {o : ℕ} {n : Tree} {s e : S} {P : List Pair} → property_as x (kind_of n) ≡ Some a → Spells ways S Next behind o a n s e P → Separated S Next behind det (codes "}") s → ⊥
  not_separated x {a} {o} {n} {e = e} {P} it d (by_comma r) = no_part_begins S Next behind det comma_separates r x o a e n P it d
  not_separated x {a} {o} {n} {e = e} {P} it d (by_closing r) = no_part_begins S Next behind det brace_separates r x o a e n P it d

  items : (x : Reading) → Items S Next behind det (property_as x) (codes "}") h
  items x = record { found = λ low it d ends. u.property x low it d ends; begins = λ it d ends. not_separated x it d ends; other = comma_brace; allowed = refl }

  -- by each reading
  parts_unique : (x : Reading) → UniqueParts S Next behind det h (λ ps. tok Punctuator (codes "{") ∷ list_pieces (property_as x) (codes "}") ps)
  parts_unique x = behind_opening S Next behind det refl (list_unique S Next behind det (listed S Next behind (property_as x) (codes "}")) (items x))

  pub object_parts_unique : UniqueParts S Next behind det h object_parts
  object_parts_unique = parts_unique as_expression

  pub object_pattern_parts_unique : (b : Bool) → UniqueParts S Next behind det h (object_pattern_parts b)
  object_pattern_parts_unique b = parts_unique (as_pattern b)
