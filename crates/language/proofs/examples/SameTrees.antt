-- Examples: trees with places left out, the same and not.
use Rattle.std.proofs.Common.{◌≡◌, Bool, true, false, [], ◌∷◌, refl, ap}
use Rattle.std.proofs.lemmas.Bool.{false≢true}
use Rattle.tree.specs.declared.kind.Kind.{Kind}
use Rattle.tree.specs.declared.kind.Kind.TheVariants.{ChainExpression, MemberExpression, Program}
use Rattle.tree.specs.Tree.{Tree, Parts, none, part, bare, kind_of, parts_of, SameTree}
use Rattle.language.proofs.examples.Sources.{tokens}
use Rattle.language.proofs.examples.Trees.{n, id, one, two, program, st, optional, pair, found, once, computing}

-- `(a).b;`
abbrev pub grouped_name : Tree
grouped_name = program 6 (one (st 0 6 (n MemberExpression 0 5 (two (id "a" 1) (id "b" 4)))))

pub grouped_name_pairs : found (tokens "(a).b;") grouped_name ≡ once (pair 0 2 ∷ [])
unfolding computing
grouped_name_pairs = refl

-- `a.b;`
abbrev pub plain_name : Tree
plain_name = program 4 (one (st 0 4 (n MemberExpression 0 3 (two (id "a" 0) (id "b" 2)))))

pub plain_name_pairs : found (tokens "a.b;") plain_name ≡ once []
unfolding computing
plain_name_pairs = refl

-- `(a?.b).c;`
abbrev pub grouped_chain : Tree
grouped_chain = program 9 (one (st 0 9 (n MemberExpression 0 8 (two (n ChainExpression 1 5 (one (optional (n MemberExpression 1 5 (two (id "a" 1) (id "b" 4)))))) (id "c" 7)))))

pub grouped_chain_pairs : found (tokens "(a?.b).c;") grouped_chain ≡ once (pair 0 5 ∷ [])
unfolding computing
grouped_chain_pairs = refl

-- `a?.b.c;`
abbrev pub longer_chain : Tree
longer_chain = program 7 (one (st 0 7 (n ChainExpression 0 6 (one (n MemberExpression 0 6 (two (optional (n MemberExpression 0 4 (two (id "a" 0) (id "b" 3)))) (id "c" 5)))))))

pub longer_chain_pairs : found (tokens "a?.b.c;") longer_chain ≡ once []
unfolding computing
longer_chain_pairs = refl

-- the first two are the same tree, the others aren't
pub same_without_group : bare grouped_name ≡ bare plain_name
same_without_group = refl

abbrev is_chain : Kind → Bool
is_chain ChainExpression = true
is_chain _ = false

abbrev first_part : Parts → Kind
first_part (part a ps) = kind_of a
first_part _ = Program

abbrev parts_of_first : Parts → Parts
parts_of_first (part a ps) = parts_of a
parts_of_first ps = none

-- the statement's expression is a chain
abbrev says_chain : Tree → Bool
says_chain a = is_chain (first_part (parts_of_first (parts_of a)))

pub other_with_group : SameTree grouped_chain longer_chain → ⊥
other_with_group h = false≢true (ap says_chain h)
