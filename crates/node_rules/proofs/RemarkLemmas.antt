-- What is to be said of a node beside its kind.
use Rattle.std.proofs.Common.{◌≡◌, refl}
use Rattle.tree.specs.declared.kind.Kind.TheVariants.{BinaryExpression, ClassBody, ClassDeclaration, ClassExpression, TryStatement, VariableDeclaration}
use Rattle.tree.specs.Tree.{Tree, node, kind_of}
use Rattle.node_rules.specs.declared.around.Around.{Around}
use Rattle.node_rules.specs.declared.around.Remark.TheVariants.{NoRemark}
use Rattle.node_rules.specs.Arounds.{remark_inside}

-- nothing of a node of another kind
pub nothing-said : (a : Around) (t : Tree) → (kind_of t ≡ BinaryExpression → ⊥) → (kind_of t ≡ VariableDeclaration → ⊥) → (kind_of t ≡ ClassDeclaration → ⊥) → (kind_of t ≡ ClassExpression → ⊥) → (kind_of t ≡ ClassBody → ⊥) → (kind_of t ≡ TryStatement → ⊥) →
    NoRemark ≡ remark_inside a t
nothing-said around (node BinaryExpression w g s e ps) a b c d f h = absurd (a refl)
nothing-said around (node VariableDeclaration w g s e ps) a b c d f h = absurd (b refl)
nothing-said around (node ClassDeclaration w g s e ps) a b c d f h = absurd (c refl)
nothing-said around (node ClassExpression w g s e ps) a b c d f h = absurd (d refl)
nothing-said around (node ClassBody w g s e ps) a b c d f h = absurd (f refl)
nothing-said around (node TryStatement w g s e ps) a b c d f h = absurd (h refl)
nothing-said around (node _ w g s e ps) a b c d f h = refl
