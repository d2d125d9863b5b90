-- What throws where it is undefined.
use Rattle.std.proofs.Common.{◌≡◌, None, refl}
use Rattle.tree.specs.declared.kind.Kind.TheVariants.{AssignmentExpression, AssignmentPattern, BinaryExpression, CallExpression, ClassDeclaration, ClassExpression, ForOfStatement, MemberExpression, NewExpression, SpreadElement, TaggedTemplateExpression, VariableDeclarator}
use Rattle.tree.specs.Tree.{Tree, node, kind_of}
use Rattle.node_rules.specs.ValueTests.{risked}

-- no other kind has such a part
pub nothing-risked : (t : Tree) → (kind_of t ≡ CallExpression → ⊥) → (kind_of t ≡ MemberExpression → ⊥) → (kind_of t ≡ NewExpression → ⊥) → (kind_of t ≡ TaggedTemplateExpression → ⊥) → (kind_of t ≡ SpreadElement → ⊥) → (kind_of t ≡ ClassDeclaration → ⊥) →
    (kind_of t ≡ ClassExpression → ⊥) → (kind_of t ≡ ForOfStatement → ⊥) → (kind_of t ≡ BinaryExpression → ⊥) → (kind_of t ≡ AssignmentExpression → ⊥) → (kind_of t ≡ VariableDeclarator → ⊥) → (kind_of t ≡ AssignmentPattern → ⊥) → None ≡ risked t
nothing-risked (node CallExpression w g s e ps) a b c d f h i j k l m n = absurd (a refl)
nothing-risked (node MemberExpression w g s e ps) a b c d f h i j k l m n = absurd (b refl)
nothing-risked (node NewExpression w g s e ps) a b c d f h i j k l m n = absurd (c refl)
nothing-risked (node TaggedTemplateExpression w g s e ps) a b c d f h i j k l m n = absurd (d refl)
nothing-risked (node SpreadElement w g s e ps) a b c d f h i j k l m n = absurd (f refl)
nothing-risked (node ClassDeclaration w g s e ps) a b c d f h i j k l m n = absurd (h refl)
nothing-risked (node ClassExpression w g s e ps) a b c d f h i j k l m n = absurd (i refl)
nothing-risked (node ForOfStatement w g s e ps) a b c d f h i j k l m n = absurd (j refl)
nothing-risked (node BinaryExpression w g s e ps) a b c d f h i j k l m n = absurd (k refl)
nothing-risked (node AssignmentExpression w g s e ps) a b c d f h i j k l m n = absurd (l refl)
nothing-risked (node VariableDeclarator w g s e ps) a b c d f h i j k l m n = absurd (m refl)
nothing-risked (node AssignmentPattern w g s e ps) a b c d f h i j k l m n = absurd (n refl)
nothing-risked (node _ w g s e ps) a b c d f h i j k l m n = refl
