-- A node has at most one way at a position, but for the two kinds that have two.
use Rattle.std.proofs.Common.{◌≡◌, Bool, true, false, cond, List, [], refl, sym, ◌∙◌}
use Rattle.tree.specs.declared.kind.Kind.{Kind}
use Rattle.tree.specs.declared.kind.Kind.TheVariants.{ArrowFunctionExpression, NewExpression, ImportDeclaration}
use Rattle.tree.specs.Tree.{Tree, node, Parts, none, part, gap, bare, bare_parts}
use Rattle.language.specs.Pieces.{Role, PieceOf, Spelling}
use Rattle.tree.specs.Uses.{is_lean}
use Rattle.language.specs.Grammar.{ways, ways_bare, spellings}
use Rattle.language.specs.Derivation.{Among}
use Rattle.language.specs.Laws.{two_ways_at, has_two_ways}
use Rattle.language.proofs.lower_bound.Domination.{Tidy, none_at_all, one_way, two_ways, Among-one, ways_of, fits}
use Rattle.language.proofs.table.TidyTable.{tidy_table}

one_of_tidy : {t : Bool} (a : Role) {xs : List Spelling} {qs rs : List (PieceOf Role)} → Tidy t xs → t ≡ false → Among qs (ways_of a xs) → Among rs (ways_of a xs) → qs ≡ rs
one_of_tidy a none_at_all f h k = elim h [ ]
one_of_tidy a (one_way {x = x} n) f h k = (Among-one a x (fits a x) refl h).1 ∙ sym (Among-one a x (fits a x) refl k).1
one_of_tidy a (two_ways n c l) f h k = cc f

two_ways_parts : (k : Kind) (ps : Parts) → two_ways_at k (bare_parts ps) ≡ two_ways_at k ps
two_ways_parts ArrowFunctionExpression none = refl
two_ways_parts ArrowFunctionExpression (gap ps) = refl
two_ways_parts ArrowFunctionExpression (part n none) = refl
two_ways_parts ArrowFunctionExpression (part n (gap ps)) = refl
two_ways_parts ArrowFunctionExpression (part (node k w g s e qs) (part b none)) = refl
two_ways_parts ArrowFunctionExpression (part n (part b (part m ps))) = refl
two_ways_parts ArrowFunctionExpression (part n (part b (gap ps))) = refl
two_ways_parts NewExpression none = refl
two_ways_parts NewExpression (gap none) = refl
two_ways_parts NewExpression (gap (gap ps)) = refl
two_ways_parts NewExpression (gap (part n ps)) = refl
two_ways_parts NewExpression (part n none) = refl
two_ways_parts NewExpression (part n (gap ps)) = refl
two_ways_parts NewExpression (part n (part m ps)) = refl
two_ways_parts ImportDeclaration none = refl
two_ways_parts ImportDeclaration (gap ps) = refl
two_ways_parts ImportDeclaration (part (node k w g s e qs) none) = refl
two_ways_parts ImportDeclaration (part n (gap ps)) = refl
two_ways_parts ImportDeclaration (part (node k w g s e qs) (part (node l v f x y rs) none)) = refl
two_ways_parts ImportDeclaration (part n (part m (part l ps))) = refl
two_ways_parts ImportDeclaration (part n (part m (gap ps))) = refl
two_ways_parts _ ps = refl

two_ways_bare : (n : Tree) → has_two_ways (bare n) ≡ has_two_ways n
two_ways_bare (node k w g s e ps) = two_ways_parts k ps

pub at_most_one_way : (a : Role) (n : Tree) (qs rs : List (PieceOf Role)) → has_two_ways n ≡ false → Among qs (ways a n) → Among rs (ways a n) → qs ≡ rs
unfolding ways ways_bare
at_most_one_way a n qs rs f h k = go (is_lean (bare n)) h k
  where
    go : (b : Bool) → Among qs (cond b (ways_of a (spellings a (bare n))) []) → Among rs (cond b (ways_of a (spellings a (bare n))) []) → qs ≡ rs
    go false h k = elim h [ ]
    go true h k = one_of_tidy a (tidy_table a (bare n)) (two_ways_bare n ∙ f) h k
