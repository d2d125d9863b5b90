-- What a walk passes: nodes of which it is known, whatever stands round them, where their errors may be.
use Rattle.std.specs.Prelude.{◌≡◌, Bool, false, List, [], filter, Option, None, Some}
use Rattle.tree.specs.declared.kind.Kind.{Kind}
use Rattle.tree.specs.declared.kind.Kind.TheVariants as kind
use Rattle.tree.specs.Tree.{Tree, kind_of, parts_of}
use Rattle.language.specs.Vocabulary.{is_super}
use Rattle.early_errors.specs.declared.skipping.ErrorPlaces.{ErrorPlaces}
use Rattle.early_errors.specs.declared.skipping.ErrorPlaces.TheVariants.{Nowhere, InParts, Anywhere}
use Rattle.early_errors.specs.declared.skipping.SkipTest.{SkipTest}
use Rattle.early_errors.specs.declared.skipping.SkipTest.TheVariants as telling
use Rattle.early_errors.specs.Around.{Around, settled, within}
use Rattle.early_errors.specs.declared.around.Context.{Context as Code}
use Rattle.early_errors.specs.Owns.{Beside, round}
use Rattle.early_errors.specs.Names.{Named, twice, first_names, var_names, parts_vars}
use Rattle.early_errors.specs.Scopes.{without_initializer}
use Rattle.early_errors.specs.Strict.{is_restricted}
use Rattle.early_errors.specs.Early.{errors_within, parts_errors}
use Rattle.early_errors.specs.Walks.{IsQuiet}

-- a node that has no errors itself, whatever stands round it, and whose parts have round them what stands round it
abbrev pub IsOpen : Bool → Tree → Type 0
IsOpen b tree =
    ((z : Around) → z.no_arguments ≡ b → settled z (kind_of tree) ≡ z → errors_within z tree ≡ parts_errors (within z) (within z) (parts_of tree))
    × (var_names tree ≡ parts_vars (parts_of tree))

-- where a node's errors may be; the flag says whether it may have no `arguments`
abbrev pub IsWhere : Bool → ErrorPlaces → Tree → Type 0
IsWhere b Nowhere tree = IsQuiet b tree
IsWhere b InParts tree = IsOpen b tree
IsWhere b Anywhere tree = Unit

-- what stands round a node stands round the parts too where it is handed on
abbrev pub IsHandedOn : Code → Type 0
IsHandedOn a = (r : Beside) → within (round a r) ≡ round a r

-- what tells where errors of a node may be, by its kind: of the kinds of the language of 2022, and of all
abbrev pub telling_of_2022 : Kind → SkipTest
telling_of_2022 kind.PrivateIdentifier = telling.Nothing
telling_of_2022 kind.YieldExpression = telling.Nothing
telling_of_2022 kind.AwaitExpression = telling.Nothing
telling_of_2022 kind.PropertyDefinition = telling.Nothing
telling_of_2022 kind.StaticBlock = telling.Nothing
telling_of_2022 kind.ImportDeclaration = telling.Nothing
telling_of_2022 kind.ImportSpecifier = telling.Nothing
telling_of_2022 kind.ExportSpecifier = telling.Nothing
telling_of_2022 kind.ExportNamedDeclaration = telling.Nothing
telling_of_2022 kind.ExportAllDeclaration = telling.Nothing
telling_of_2022 kind.ObjectExpression = telling.Object
telling_of_2022 _ = telling.Kind

-- What tells it, by the kind. `Nothing` does for a node that has errors of its own or a scope, or has other things stand round its parts
-- than stand round it. Of these some are told by more; any other node has errors in its parts only.
abbrev pub telling_of : Kind → SkipTest
telling_of kind.Program = telling.Nothing
telling_of kind.FunctionExpression = telling.Nothing
telling_of kind.ArrowFunctionExpression = telling.Nothing
telling_of kind.ClassExpression = telling.Nothing
telling_of kind.ClassBody = telling.Nothing
telling_of kind.MethodDefinition = telling.Nothing
telling_of kind.TemplateLiteral = telling.Nothing
telling_of kind.TaggedTemplateExpression = telling.Nothing
telling_of kind.MetaProperty = telling.Nothing
telling_of kind.BreakStatement = telling.Nothing
telling_of kind.ContinueStatement = telling.Nothing
telling_of kind.LabeledStatement = telling.Nothing
telling_of kind.SwitchStatement = telling.Nothing
telling_of kind.CatchClause = telling.Nothing
telling_of kind.WhileStatement = telling.Nothing
telling_of kind.DoWhileStatement = telling.Nothing
telling_of kind.ForStatement = telling.Nothing
telling_of kind.ForInStatement = telling.Nothing
telling_of kind.ForOfStatement = telling.Nothing
telling_of kind.FunctionDeclaration = telling.Nothing
telling_of kind.ClassDeclaration = telling.Nothing
telling_of kind.Identifier = telling.Leaf
telling_of kind.ThisExpression = telling.Leaf
telling_of kind.Literal = telling.Leaf
telling_of kind.MemberExpression = telling.Member
telling_of kind.CallExpression = telling.Callee
telling_of kind.AssignmentExpression = telling.Target
telling_of kind.UpdateExpression = telling.Target
telling_of kind.UnaryExpression = telling.Operator
telling_of kind.Property = telling.Form
telling_of kind.BlockStatement = telling.Items
telling_of kind.VariableDeclaration = telling.Declaration
telling_of k = telling_of_2022 k

abbrev pub is_super_at : Option Tree → Bool
is_super_at None = false
is_super_at (Some t) = is_super (kind_of t)

-- names of which none is `eval` or `arguments` and none stands twice
abbrev pub AreFree : List Named → Type 0
AreFree xs = (filter is_restricted xs ≡ []) × (twice xs ≡ [])

-- a declarator of such a name, with an initializer
abbrev pub BindsOne : Tree → Type 0
BindsOne tree = (without_initializer tree ≡ []) × AreFree (first_names (parts_of tree))
