-- The errors of a for-of loop.
use Rattle.std.proofs.Common.{◌≡◌, ℕ, Bool, true, false, not, List, [], ◌∷◌, refl, ap, ◌∙◌}
use Rattle.std.specs.Prelude.{◌&&◌}
use Rattle.tree.specs.declared.kind.Kind.TheVariants.{ForOfStatement}
use Rattle.tree.specs.Uses.{is_async}
use Rattle.tree.specs.Tree.{Tree, node, none, part, gap, kind_of, text_of, flags_of, start_of, parts_of, part_at}
use Rattle.language.specs.Vocabulary.{is, is_identifier}
use Rattle.early_errors.specs.declared.EarlyError.TheVariants.{AwaitOutsideAsync, ForAsyncOf}
use Rattle.early_errors.specs.declared.own.OwnErrors.TheVariants as own
use Rattle.early_errors.specs.Around.{Around}
use Rattle.early_errors.specs.Names.{when}
use Rattle.early_errors.specs.Yields.{await_outside_async, for_async_of}
use Rattle.early_errors.specs.Early.{each}
use Rattle.early_errors.specs.Owns.{async_places, own_of}

pub await_given : (z : Around) (t : Tree) (b : Bool) (s : ℕ) → own_of (kind_of t) ≡ own.ForOf → b ≡ (is_async (flags_of t).form && not z.awaits) → s ≡ start_of t → each AwaitOutsideAsync (when b (s ∷ [])) ≡ each AwaitOutsideAsync (await_outside_async z t)
unfolding await_outside_async
await_given z (node ForOfStatement w g st en ps) b s h e k = λ i. each AwaitOutsideAsync (when (e i) (k i ∷ []))
await_given z (node _ w g st en ps) b s h e k = absurd (cc)

nested : (a b c d : Bool) (xs : List ℕ) → when (b && a) (when (c && d) xs) ≡ when (a && b && c && d) xs
nested true true true d xs = refl
nested true true false d xs = refl
nested true false c d xs = refl
nested false true c d xs = refl
nested false false c d xs = refl

pub when_nothing : (b : Bool) → when b [] ≡ []
when_nothing true = refl
when_nothing false = refl

pub when_both : (a b : Bool) (xs : List ℕ) → when (a && b) xs ≡ when a (when b xs)
when_both true b xs = refl
when_both false b xs = refl

pub async_given : (z : Around) (t : Tree) (m : Bool) → own_of (kind_of t) ≡ own.ForOf → m ≡ (not (is_async (flags_of t).form) && z.of_2022) → each ForAsyncOf (when m (async_places (part_at (parts_of t) 0))) ≡ each ForAsyncOf (for_async_of z t)
unfolding for_async_of
async_given z (node ForOfStatement w g s e none) m h k = ap (each ForAsyncOf) (when_nothing m)
async_given z (node ForOfStatement w g s e (part n ps)) m h k =
    ap (each ForAsyncOf) (ap (λ b. when b (async_places (part_at (part n ps) 0))) k ∙ nested z.of_2022 (not (is_async g.form)) (is_identifier (kind_of n)) (is (text_of n) "async") (start_of n ∷ []))
async_given z (node ForOfStatement w g s e (gap ps)) m h k = ap (each ForAsyncOf) (when_nothing m)
async_given z (node _ w g s e ps) m h k = absurd (cc)
