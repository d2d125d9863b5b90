-- What is in no line of a table is in the next one.
use Rattle.std.proofs.Common.{◌≡◌, ℕ, List, refl}
use Rattle.tree.specs.declared.kind.Kind.{Kind}
use Rattle.tree.specs.declared.kind.Kind.TheVariants as k
use Rattle.tree.specs.declared.kind.Flags.{Flags}
use Rattle.std.specs.Prelude.{Bool}
use Rattle.spellings.specs.Statements.{loop_outline, branch_outline, statement_outline, item_outline, opening_outline}
use Rattle.spellings.specs.Expressions.{Around, definition_outline, reference_outline, operation_outline, expression_outline}

pub definition_default : (kind : Kind) (w : List ℕ) (g : Flags) (a : Around) →
    ¬ (kind ≡ k.FunctionExpression) → ¬ (kind ≡ k.ClassExpression) → ¬ (kind ≡ k.ArrowFunctionExpression) →
    definition_outline kind w g a ≡ reference_outline kind w g a
definition_default k.FunctionExpression w g a h _ _ = absurd (h refl)
definition_default k.ClassExpression w g a _ h _ = absurd (h refl)
definition_default k.ArrowFunctionExpression w g a _ _ h = absurd (h refl)
definition_default kind w g a _ _ _ = refl

pub reference_default : (kind : Kind) (w : List ℕ) (g : Flags) (a : Around) →
    ¬ (kind ≡ k.TaggedTemplateExpression) → ¬ (kind ≡ k.MemberExpression) → ¬ (kind ≡ k.CallExpression) → ¬ (kind ≡ k.NewExpression) → ¬ (kind ≡ k.MetaProperty) → ¬ (kind ≡ k.ImportExpression) → ¬ (kind ≡ k.ChainExpression) →
    reference_outline kind w g a ≡ operation_outline kind w g a
reference_default k.TaggedTemplateExpression w g a h _ _ _ _ _ _ = absurd (h refl)
reference_default k.MemberExpression w g a _ h _ _ _ _ _ = absurd (h refl)
reference_default k.CallExpression w g a _ _ h _ _ _ _ = absurd (h refl)
reference_default k.NewExpression w g a _ _ _ h _ _ _ = absurd (h refl)
reference_default k.MetaProperty w g a _ _ _ _ h _ _ = absurd (h refl)
reference_default k.ImportExpression w g a _ _ _ _ _ h _ = absurd (h refl)
reference_default k.ChainExpression w g a _ _ _ _ _ _ h = absurd (h refl)
reference_default kind w g a _ _ _ _ _ _ _ = refl

pub expression_default : (kind : Kind) (w : List ℕ) (g : Flags) (a : Around) →
    ¬ (kind ≡ k.Identifier) → ¬ (kind ≡ k.Literal) → ¬ (kind ≡ k.ThisExpression) → ¬ (kind ≡ k.ArrayExpression) → ¬ (kind ≡ k.ObjectExpression) → ¬ (kind ≡ k.TemplateLiteral) →
    expression_outline kind w g a ≡ definition_outline kind w g a
expression_default k.Identifier w g a h _ _ _ _ _ = absurd (h refl)
expression_default k.Literal w g a _ h _ _ _ _ = absurd (h refl)
expression_default k.ThisExpression w g a _ _ h _ _ _ = absurd (h refl)
expression_default k.ArrayExpression w g a _ _ _ h _ _ = absurd (h refl)
expression_default k.ObjectExpression w g a _ _ _ _ h _ = absurd (h refl)
expression_default k.TemplateLiteral w g a _ _ _ _ _ h = absurd (h refl)
expression_default kind w g a _ _ _ _ _ _ = refl

pub branch_default : (r : Bool) (kind : Kind) (g : Flags) (a : Around) →
    ¬ (kind ≡ k.BlockStatement) → ¬ (kind ≡ k.IfStatement) → ¬ (kind ≡ k.LabeledStatement) → ¬ (kind ≡ k.SwitchStatement) → ¬ (kind ≡ k.TryStatement) →
    branch_outline r kind g a ≡ loop_outline r kind g a
branch_default r k.BlockStatement g a h _ _ _ _ = absurd (h refl)
branch_default r k.IfStatement g a _ h _ _ _ = absurd (h refl)
branch_default r k.LabeledStatement g a _ _ h _ _ = absurd (h refl)
branch_default r k.SwitchStatement g a _ _ _ h _ = absurd (h refl)
branch_default r k.TryStatement g a _ _ _ _ h = absurd (h refl)
branch_default r kind g a _ _ _ _ _ = refl

pub statement_default : (r : Bool) (kind : Kind) (w : List ℕ) (g : Flags) (a : Around) →
    ¬ (kind ≡ k.VariableDeclaration) → ¬ (kind ≡ k.EmptyStatement) → ¬ (kind ≡ k.ExpressionStatement) → ¬ (kind ≡ k.ContinueStatement) → ¬ (kind ≡ k.BreakStatement) → ¬ (kind ≡ k.ReturnStatement) → ¬ (kind ≡ k.ThrowStatement) → ¬ (kind ≡ k.DebuggerStatement) →
    statement_outline r kind w g a ≡ branch_outline r kind g a
statement_default r k.VariableDeclaration w g a h _ _ _ _ _ _ _ = absurd (h refl)
statement_default r k.EmptyStatement w g a _ h _ _ _ _ _ _ = absurd (h refl)
statement_default r k.ExpressionStatement w g a _ _ h _ _ _ _ _ = absurd (h refl)
statement_default r k.ContinueStatement w g a _ _ _ h _ _ _ _ = absurd (h refl)
statement_default r k.BreakStatement w g a _ _ _ _ h _ _ _ = absurd (h refl)
statement_default r k.ReturnStatement w g a _ _ _ _ _ h _ _ = absurd (h refl)
statement_default r k.ThrowStatement w g a _ _ _ _ _ _ h _ = absurd (h refl)
statement_default r k.DebuggerStatement w g a _ _ _ _ _ _ _ h = absurd (h refl)
statement_default r kind w g a _ _ _ _ _ _ _ _ = refl

pub item_default : (r : Bool) (kind : Kind) (w : List ℕ) (g : Flags) (a : Around) →
    ¬ (kind ≡ k.FunctionDeclaration) → ¬ (kind ≡ k.ClassDeclaration) → ¬ (kind ≡ k.VariableDeclaration) →
    item_outline r kind w g a ≡ statement_outline r kind w g a
item_default r k.FunctionDeclaration w g a h _ _ = absurd (h refl)
item_default r k.ClassDeclaration w g a _ h _ = absurd (h refl)
item_default r k.VariableDeclaration w g a _ _ h = absurd (h refl)
item_default r kind w g a _ _ _ = refl

pub opening_default : (r : Bool) (kind : Kind) (w : List ℕ) (g : Flags) (a : Around) →
    ¬ (kind ≡ k.ExpressionStatement) →
    opening_outline r kind w g a ≡ item_outline r kind w g a
opening_default r k.ExpressionStatement w g a h = absurd (h refl)
opening_default r kind w g a _ = refl
