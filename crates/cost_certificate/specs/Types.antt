-- The types of nodes that can have a row, by name.
use Rattle.std.specs.Prelude.{ℕ, Bool, true, ◌&&◌, not, List, [], ◌∷◌, codes, Option, Some, None, cond}
use Rattle.std.specs.Str.{bytes_eq}
use Rattle.tree.specs.declared.kind.Kind.{Kind}
use Rattle.tree.specs.declared.kind.Kind.TheVariants as kind

-- empty for any other kind
abbrev pub type_name : Kind → List ℕ
type_name kind.SequenceExpression = codes "SequenceExpression"
type_name kind.AssignmentExpression = codes "AssignmentExpression"
type_name kind.ArrowFunctionExpression = codes "ArrowFunctionExpression"
type_name kind.ConditionalExpression = codes "ConditionalExpression"
type_name kind.LogicalExpression = codes "LogicalExpression"
type_name kind.AwaitExpression = codes "AwaitExpression"
type_name kind.YieldExpression = codes "YieldExpression"
type_name kind.BinaryExpression = codes "BinaryExpression"
type_name kind.UnaryExpression = codes "UnaryExpression"
type_name kind.UpdateExpression = codes "UpdateExpression"
type_name kind.ChainExpression = codes "ChainExpression"
type_name kind.CallExpression = codes "CallExpression"
type_name kind.ImportExpression = codes "ImportExpression"
type_name kind.MemberExpression = codes "MemberExpression"
type_name kind.TaggedTemplateExpression = codes "TaggedTemplateExpression"
type_name kind.NewExpression = codes "NewExpression"
type_name kind.MetaProperty = codes "MetaProperty"
type_name kind.Identifier = codes "Identifier"
type_name kind.Literal = codes "Literal"
type_name kind.ThisExpression = codes "ThisExpression"
type_name kind.ArrayExpression = codes "ArrayExpression"
type_name kind.ObjectExpression = codes "ObjectExpression"
type_name kind.FunctionExpression = codes "FunctionExpression"
type_name kind.ClassExpression = codes "ClassExpression"
type_name kind.TemplateLiteral = codes "TemplateLiteral"
type_name _ = []

abbrev pub row_kinds : List Kind
row_kinds =
    kind.Identifier ∷ kind.MemberExpression ∷ kind.Literal ∷ kind.BinaryExpression ∷ kind.AssignmentExpression ∷ kind.CallExpression ∷ kind.ThisExpression ∷
    kind.SequenceExpression ∷ kind.ArrowFunctionExpression ∷ kind.ConditionalExpression ∷ kind.LogicalExpression ∷
    kind.UnaryExpression ∷ kind.UpdateExpression ∷ kind.ChainExpression ∷ kind.ImportExpression ∷
    kind.TaggedTemplateExpression ∷ kind.NewExpression ∷ kind.MetaProperty ∷
    kind.ArrayExpression ∷ kind.ObjectExpression ∷ kind.FunctionExpression ∷ kind.ClassExpression ∷ kind.TemplateLiteral ∷ kind.AwaitExpression ∷
    kind.YieldExpression ∷ []

-- the kind of this name among these
abbrev pub kind_among : List Kind → List ℕ → Option Kind
kind_among [] w = None
kind_among (k ∷ ks) w = cond (bytes_eq (type_name k) w) (Some k) (kind_among ks w)

abbrev pub kind_named : List ℕ → Option Kind
kind_named w = kind_among row_kinds w

-- it can have a row
abbrev pub has_type : Kind → Bool
has_type k = not (bytes_eq (type_name k) [])

-- each row has the kind of an expression
abbrev pub all_typed : List (Kind × List (Option ℕ)) → Bool
all_typed [] = true
all_typed (x ∷ xs) = has_type x.0 && all_typed xs

-- kinds that can have a row, compared by name
abbrev pub same_type : Kind → Kind → Bool
same_type j k = bytes_eq (type_name j) (type_name k)
