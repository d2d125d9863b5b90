-- What each function of the cycle counts down: the nodes of what it lays out; where they are as many, its own number.
use Rattle.std.proofs.Common.{◌+◌, ◌*◌}
use Rattle.node_parts.specs.Sizes.{size, optional_size, list_size, function_size, class_size, statement_size, expression_size}
use Rattle.formatting.proofs.+items.Given as goal

abbrev pub decreases-arguments::arguments : goal.decreases-arguments::arguments
decreases-arguments::arguments l = 40 * list_size l.list + 12

abbrev pub decreases-arguments::one_line : goal.decreases-arguments::one_line
decreases-arguments::one_line l = 40 * list_size l.list + 11

abbrev pub decreases-arguments::plain : goal.decreases-arguments::plain
decreases-arguments::plain l = 40 * list_size l.list + 11

abbrev pub decreases-arguments::held : goal.decreases-arguments::held
decreases-arguments::held l = 40 * list_size l.list + 11

abbrev pub decreases-arguments::import_call : goal.decreases-arguments::import_call
decreases-arguments::import_call l = 40 * size l.source + 11

abbrev pub decreases-assignments::assign : goal.decreases-assignments::assign
decreases-assignments::assign l = 40 * size l.value + 13

abbrev pub decreases-assignments::whole_value : goal.decreases-assignments::whole_value
decreases-assignments::whole_value l = 40 * size l.value + 12

abbrev pub decreases-assignments::hanging_value : goal.decreases-assignments::hanging_value
decreases-assignments::hanging_value l = 40 * size l.value + 12

abbrev pub decreases-assignments::assigned_value : goal.decreases-assignments::assigned_value
decreases-assignments::assigned_value l = 40 * size l.value + 11

abbrev pub decreases-chains::chain : goal.decreases-chains::chain
decreases-chains::chain l = 40 * size l.node + 4

abbrev pub decreases-chains::links : goal.decreases-chains::links
decreases-chains::links l = 40 * size l.node + 3

abbrev pub decreases-chains::chain_base : goal.decreases-chains::chain_base
decreases-chains::chain_base l = 40 * size l.first + 1

abbrev pub decreases-chains::call_link : goal.decreases-chains::call_link
decreases-chains::call_link l = 40 * size l.node + 1

abbrev pub decreases-chains::member_link : goal.decreases-chains::member_link
decreases-chains::member_link l = 40 * size l.node + 2

abbrev pub decreases-chains::computed_member : goal.decreases-chains::computed_member
decreases-chains::computed_member l = 40 * size l.node + 1

abbrev pub decreases-classes::class : goal.decreases-classes::class
decreases-classes::class l = 40 * class_size l.c + 20

abbrev pub decreases-classes::members : goal.decreases-classes::members
decreases-classes::members l = 40 * list_size l.list + 12

abbrev pub decreases-classes::member : goal.decreases-classes::member
decreases-classes::member l = 40 * size l.node + 11

abbrev pub decreases-classes::field : goal.decreases-classes::field
decreases-classes::field l = 40 * (size l.found.key + optional_size l.found.value) + 20

abbrev pub decreases-expressions::expression : goal.decreases-expressions::expression
decreases-expressions::expression l = 40 * size l.node + 8

abbrev pub decreases-expressions::expression_in : goal.decreases-expressions::expression_in
decreases-expressions::expression_in l = 40 * size l.node + 7

abbrev pub decreases-expressions::soft_parentheses : goal.decreases-expressions::soft_parentheses
decreases-expressions::soft_parentheses l = 40 * size l.node + 6

abbrev pub decreases-expressions::bare_expression : goal.decreases-expressions::bare_expression
decreases-expressions::bare_expression l = 40 * size l.node + 5

abbrev pub decreases-expressions::any_expression : goal.decreases-expressions::any_expression
decreases-expressions::any_expression l = 40 * expression_size l.found + 30

abbrev pub decreases-expressions::awaits : goal.decreases-expressions::awaits
decreases-expressions::awaits l = 40 * size l.argument + 11

abbrev pub decreases-expressions::new : goal.decreases-expressions::new
decreases-expressions::new l = 40 * (size l.callee + list_size l.list) + 20

abbrev pub decreases-expressions::update : goal.decreases-expressions::update
decreases-expressions::update l = 40 * size l.argument + 11

abbrev pub decreases-expressions::yields : goal.decreases-expressions::yields
decreases-expressions::yields l = 40 * optional_size l.argument + 11

abbrev pub decreases-expressions::rest : goal.decreases-expressions::rest
decreases-expressions::rest l = 40 * size l.node + 1

abbrev pub decreases-expressions::pattern : goal.decreases-expressions::pattern
decreases-expressions::pattern l = 40 * size l.node + 10

abbrev pub decreases-expressions::pattern_in : goal.decreases-expressions::pattern_in
decreases-expressions::pattern_in l = 40 * size l.node + 9

abbrev pub decreases-expressions::any_pattern : goal.decreases-expressions::any_pattern
decreases-expressions::any_pattern l = 40 * size l.node + 2

abbrev pub decreases-functions::function : goal.decreases-functions::function
decreases-functions::function l = 40 * function_size l.f + 20

abbrev pub decreases-functions::held_block : goal.decreases-functions::held_block
decreases-functions::held_block l = 40 * size l.body + 13

abbrev pub decreases-functions::parameters : goal.decreases-functions::parameters
decreases-functions::parameters l = 40 * list_size l.list + 11

abbrev pub decreases-functions::arrow : goal.decreases-functions::arrow
decreases-functions::arrow l = 40 * function_size l.f + 20

abbrev pub decreases-functions::arrow_parameters : goal.decreases-functions::arrow_parameters
decreases-functions::arrow_parameters l = 40 * list_size l.list + 12

abbrev pub decreases-functions::arrow_body : goal.decreases-functions::arrow_body
decreases-functions::arrow_body l = 40 * size l.body + 11

abbrev pub decreases-functions::method : goal.decreases-functions::method
decreases-functions::method l = 40 * (size l.name + size l.value) + 20

abbrev pub decreases-lists::array : goal.decreases-lists::array
decreases-lists::array l = 40 * list_size l.elements + 12

abbrev pub decreases-lists::element : goal.decreases-lists::element
decreases-lists::element l = 40 * optional_size l.node + 11

abbrev pub decreases-lists::object : goal.decreases-lists::object
decreases-lists::object l = 40 * list_size l.properties + 13

abbrev pub decreases-lists::object_pattern : goal.decreases-lists::object_pattern
decreases-lists::object_pattern l = 40 * list_size l.properties + 13

abbrev pub decreases-lists::properties_behind_brace : goal.decreases-lists::properties_behind_brace
decreases-lists::properties_behind_brace l = 40 * list_size l.properties + 12

abbrev pub decreases-lists::property : goal.decreases-lists::property
decreases-lists::property l = 40 * size l.node + 11

abbrev pub decreases-lists::key : goal.decreases-lists::key
decreases-lists::key l = 40 * size l.node + 11

abbrev pub decreases-literals::template : goal.decreases-literals::template
decreases-literals::template l = 40 * list_size l.turns + 12

abbrev pub decreases-literals::substitution : goal.decreases-literals::substitution
decreases-literals::substitution l = 40 * size l.node + 11

abbrev pub decreases-literals::tagged_template : goal.decreases-literals::tagged_template
decreases-literals::tagged_template l = 40 * (size l.tag + size l.quasi) + 20

abbrev pub decreases-modules::module_item : goal.decreases-modules::module_item
decreases-modules::module_item l = 40 * size l.node + 1

abbrev pub decreases-modules::export_default : goal.decreases-modules::export_default
decreases-modules::export_default l = 40 * size l.node + 13

abbrev pub decreases-operators::binary : goal.decreases-operators::binary
decreases-operators::binary l = 40 * size l.node + 2

abbrev pub decreases-operators::operands : goal.decreases-operators::operands
decreases-operators::operands l = 40 * size l.node + 1

abbrev pub decreases-operators::unary : goal.decreases-operators::unary
decreases-operators::unary l = 40 * size l.argument + 11

abbrev pub decreases-operators::conditional : goal.decreases-operators::conditional
decreases-operators::conditional l = 40 * size l.node + 1

abbrev pub decreases-operators::branch : goal.decreases-operators::branch
decreases-operators::branch l = 40 * size l.node + 11

abbrev pub decreases-operators::sequence : goal.decreases-operators::sequence
decreases-operators::sequence l = 40 * size l.node + 1

abbrev pub decreases-statements::statements : goal.decreases-statements::statements
decreases-statements::statements l = 40 * list_size l.list + 13

abbrev pub decreases-statements::statement : goal.decreases-statements::statement
decreases-statements::statement l = 40 * size l.node + 12

abbrev pub decreases-statements::any_statement : goal.decreases-statements::any_statement
decreases-statements::any_statement l = 40 * statement_size l.found + 30

abbrev pub decreases-statements::expression_statement : goal.decreases-statements::expression_statement
decreases-statements::expression_statement l = 40 * size l.node + 11

abbrev pub decreases-statements::labeled : goal.decreases-statements::labeled
decreases-statements::labeled l = 40 * size l.body + 13

abbrev pub decreases-statements::argument_of_jump : goal.decreases-statements::argument_of_jump
decreases-statements::argument_of_jump l = 40 * optional_size l.argument + 11

abbrev pub decreases-statements::loop_or_switch : goal.decreases-statements::loop_or_switch
decreases-statements::loop_or_switch l = 40 * statement_size l.found + 29

abbrev pub decreases-statements::block : goal.decreases-statements::block
decreases-statements::block l = 40 * list_size l.list + 14

abbrev pub decreases-statements::clause : goal.decreases-statements::clause
decreases-statements::clause l = 40 * size l.node + 13

abbrev pub decreases-statements::loop_body : goal.decreases-statements::loop_body
decreases-statements::loop_body l = 40 * size l.node + 14

abbrev pub decreases-statements::test_of : goal.decreases-statements::test_of
decreases-statements::test_of l = 40 * size l.node + 11

abbrev pub decreases-statements::branches : goal.decreases-statements::branches
decreases-statements::branches l = 40 * (size l.test + size l.consequent + optional_size l.alternate) + 20

abbrev pub decreases-statements::for_statement : goal.decreases-statements::for_statement
decreases-statements::for_statement l = 40 * (optional_size l.init + optional_size l.test + optional_size l.update + size l.body) + 20

abbrev pub decreases-statements::for_init : goal.decreases-statements::for_init
decreases-statements::for_init l = 40 * size l.node + 11

abbrev pub decreases-statements::for_part : goal.decreases-statements::for_part
decreases-statements::for_part l = 40 * optional_size l.part + 11

abbrev pub decreases-statements::for_each : goal.decreases-statements::for_each
decreases-statements::for_each l = 40 * (size l.left + size l.right + size l.body) + 20

abbrev pub decreases-statements::declaration : goal.decreases-statements::declaration
decreases-statements::declaration l = 40 * list_size l.list + 12

abbrev pub decreases-statements::declarator : goal.decreases-statements::declarator
decreases-statements::declarator l = 40 * size l.node + 11

abbrev pub decreases-statements::switch : goal.decreases-statements::switch
decreases-statements::switch l = 40 * (size l.discriminant + list_size l.cases) + 20

abbrev pub decreases-statements::switch_case : goal.decreases-statements::switch_case
decreases-statements::switch_case l = 40 * size l.node + 11

abbrev pub decreases-statements::try_statement : goal.decreases-statements::try_statement
decreases-statements::try_statement l = 40 * (size l.block + optional_size l.handler + optional_size l.finalizer) + 20

abbrev pub decreases-statements::catch : goal.decreases-statements::catch
decreases-statements::catch l = 40 * size l.node + 11
