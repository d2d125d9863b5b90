-- `yield` and `await` where they may not stand (ECMA-262, 13th edition), and `async` on the left of a for-of.
use Rattle.std.specs.Prelude.{ℕ, not, ◌&&◌, List, [], ◌∷◌}
use Rattle.tree.specs.declared.kind.Kind.TheVariants.{YieldExpression, AwaitExpression, ForOfStatement}
use Rattle.tree.specs.Uses.{is_async}
use Rattle.tree.specs.Tree.{Tree, node, part, kind_of, text_of, start_of}
use Rattle.language.specs.Vocabulary.{is, is_identifier}
use Rattle.early_errors.specs.Names.{when}
use Rattle.early_errors.specs.Around.{Around}

-- A `yield` that isn't in the body of a generator (15.5.1, and [Yield] in all productions): the expression.
unfoldable pub yield_outside_generator : Around → Tree → List ℕ
yield_outside_generator z (node YieldExpression text flags from to parts) = when (not z.yields) (from ∷ [])
yield_outside_generator z (node _ text flags from to parts) = []

-- An `await`, or a for-await, that is neither in the body of an async function nor at the top of a module (15.8.1, [Await]): the node.
unfoldable pub await_outside_async : Around → Tree → List ℕ
await_outside_async z (node AwaitExpression text flags from to parts) = when (not z.awaits) (from ∷ [])
await_outside_async z (node ForOfStatement text flags from to parts) = when (is_async flags.form && not z.awaits) (from ∷ [])
await_outside_async z (node _ text flags from to parts) = []

-- The identifier `async` on the left of a for-of, grouped or not, in the language of 2022 (14.7.5, where it is forbidden ungrouped): the identifier.
unfoldable pub for_async_of : Around → Tree → List ℕ
for_async_of z (node ForOfStatement text flags from to (part n ps)) = when (z.of_2022 && not (is_async flags.form) && is_identifier (kind_of n) && is (text_of n) "async") (start_of n ∷ [])
for_async_of z (node _ text flags from to parts) = []
