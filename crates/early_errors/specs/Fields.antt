-- Fields and static blocks (ECMA-262, 13th edition, 15.7.1).
use Rattle.std.specs.Prelude.{ℕ, not, ◌&&◌, List, [], ◌∷◌}
use Rattle.tree.specs.declared.kind.Kind.TheVariants.{PropertyDefinition, Identifier}
use Rattle.tree.specs.Tree.{Tree, node}
use Rattle.language.specs.Vocabulary.{is}
use Rattle.early_errors.specs.Names.{when}
use Rattle.early_errors.specs.Classes.{key_places, has_key, named}
use Rattle.early_errors.specs.Around.{Around}

-- A field whose key has the value `constructor` (15.7.1): its key.
unfoldable pub field_named_constructor : Tree → List ℕ
field_named_constructor (node PropertyDefinition text flags from to parts) =
    when (not flags.computed && has_key parts (λ n. named n "constructor")) (key_places parts)
field_named_constructor (node _ text flags from to parts) = []

-- `arguments` in the value of a field or in a static block (15.7.1): the identifier.
unfoldable pub arguments_in_init : Around → Tree → List ℕ
arguments_in_init z (node Identifier text flags from to parts) = when (z.no_arguments && not z.is_word && is text "arguments") (from ∷ [])
arguments_in_init z (node _ text flags from to parts) = []
