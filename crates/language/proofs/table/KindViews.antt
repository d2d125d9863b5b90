-- The kinds of what stands in an object and of what stands in its pattern.
use Rattle.std.proofs.Common.{◌≡◌, Bool}
use Rattle.std.specs.Prelude.{Some}
use Rattle.std.proofs.lemmas.Option.{none-some}
use Rattle.tree.specs.declared.kind.Kind.{Kind}
use Rattle.tree.specs.declared.kind.Kind.TheVariants.{Property, SpreadElement, RestElement}
use Rattle.language.specs.Pieces.{Role}
use Rattle.language.specs.Covers.{as_expression, as_pattern, property_as}

pub data InObject : Kind → Type 0 where
  a_spread : InObject SpreadElement
  a_property : InObject Property

pub data InPattern : Kind → Type 0 where
  a_rest : InPattern RestElement
  a_property_there : InPattern Property

pub in_object : (k : Kind) {a : Role} → property_as as_expression k ≡ Some a → InObject k
in_object SpreadElement h = a_spread
in_object Property h = a_property
in_object _ h = absurd (none-some _ h)

pub in_pattern : (b : Bool) (k : Kind) {a : Role} → property_as (as_pattern b) k ≡ Some a → InPattern k
in_pattern b RestElement h = a_rest
in_pattern b Property h = a_property_there
in_pattern b _ h = absurd (none-some _ h)
