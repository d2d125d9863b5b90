-- Where nodes change no more of what stands round than the parent, as most do.
use Rattle.std.specs.Prelude.{Bool, true, false, not, ◌&&◌}
use Rattle.tree.specs.declared.kind.Kind.{Kind}
use Rattle.tree.specs.declared.kind.Kind.TheVariants.{ArrowFunctionExpression, BinaryExpression, ClassBody, ClassDeclaration, ClassExpression, FunctionDeclaration, FunctionExpression, ReturnStatement, TryStatement, VariableDeclaration}
use Rattle.node_rules.specs.declared.around.Around.{Around}
use Rattle.node_rules.specs.declared.around.Ending.{Ending}
use Rattle.node_rules.specs.declared.around.Ending.TheVariants.{Used}
use Rattle.node_rules.specs.Arounds.{has_returns}
use Rattle.node_rules.specs.KindSets.{is_try}

-- the function uses values
abbrev pub is_used : Ending → Bool
is_used Used = true
is_used _ = false

-- nothing leaves a finalizer, values are used, and no `try` is the parent
abbrev pub is_calm : Around → Bool
is_calm around = (not (is_try around.parent) && not (has_returns around.leaving)) && (not around.leaving_by_label && is_used around.ending)

-- nodes of these kinds may change more of what stands round than the parent
abbrev pub changes_around : Kind → Bool
changes_around ArrowFunctionExpression = true
changes_around BinaryExpression = true
changes_around ClassBody = true
changes_around ClassDeclaration = true
changes_around ClassExpression = true
changes_around FunctionDeclaration = true
changes_around FunctionExpression = true
changes_around ReturnStatement = true
changes_around TryStatement = true
changes_around VariableDeclaration = true
changes_around _ = false

-- a node of this kind changes no more than the parent
abbrev pub keeps_around : Around → Kind → Bool
keeps_around around kind = is_calm around && not (changes_around kind)
