-- What strict code forbids: `eval` and `arguments` as names and targets, `delete` of an identifier.
use Rattle.std.specs.Prelude.{ℕ, Bool, ◌&&◌, List, [], ◌∷◌, ◌++◌, filter}
use Rattle.tree.specs.declared.kind.Kind.{Kind}
use Rattle.tree.specs.declared.kind.Kind.TheVariants.{ImportDeclaration, FunctionExpression, ArrowFunctionExpression, ClassExpression, UpdateExpression, UnaryExpression, AssignmentExpression, CatchClause, ForInStatement, ForOfStatement, VariableDeclaration, FunctionDeclaration, ClassDeclaration}
use Rattle.tree.specs.Tree.{Tree, node, Parts}
use Rattle.name_tables.specs.BoundNames.{each_part}
use Rattle.language.specs.FirstPart.{lead, others}
use Rattle.language.specs.Vocabulary.{is, among, is_identifier}
use Rattle.early_errors.specs.Names.{import_name, Named, places, when, first_names, declared_names, parameter_names}

-- the names that a node itself binds or assigns
abbrev pub names_given : Kind → Parts → List Named
names_given VariableDeclaration parts = declared_names parts
names_given FunctionDeclaration parts = first_names parts ++ parameter_names (others parts)
names_given FunctionExpression parts = first_names parts ++ parameter_names (others parts)
names_given ArrowFunctionExpression parts = parameter_names parts
names_given ClassDeclaration parts = first_names parts
names_given ClassExpression parts = first_names parts
names_given CatchClause parts = first_names parts
names_given AssignmentExpression parts = first_names parts
names_given UpdateExpression parts = first_names parts
names_given ForInStatement parts = first_names parts
names_given ForOfStatement parts = first_names parts
names_given ImportDeclaration parts = each_part import_name parts
names_given _ parts = []

abbrev pub is_restricted : Named → Bool
is_restricted x = among x.0 ("eval" ∷ "arguments" ∷ [])

-- `eval` or `arguments` bound (12.1.1) or assigned (12.1.3 with 12.4.1, 12.15.1, 12.15.5.1, 13.7.5.1): the identifier.
unfoldable pub eval_or_arguments : Tree → List ℕ
eval_or_arguments (node kind text flags from to parts) = places (filter is_restricted (names_given kind parts))

-- `delete` of an identifier, grouped or not (12.5.3.1): the unary expression.
unfoldable pub delete_of_identifier : Tree → List ℕ
delete_of_identifier (node UnaryExpression text flags from to parts) = when (is text "delete" && is_identifier (lead parts)) (from ∷ [])
delete_of_identifier (node _ text flags from to parts) = []
