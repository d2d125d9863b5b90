-- What stands round a node, as far as rules ask.
use Rattle.std.specs.Prelude.{ℕ, ◌-◌, Bool, true, false, not, ◌&&◌, ◌||◌, cond, nat_eq, List, [], Option, Some, None, is_some}
use Rattle.tree.specs.declared.kind.Kind.{Kind}
use Rattle.tree.specs.declared.kind.Kind.TheVariants.{ChainExpression, EmptyStatement, FunctionDeclaration, Identifier, MemberExpression, Program, VariableDeclaration}
use Rattle.tree.specs.declared.kind.Flags.{Flags}
use Rattle.tree.specs.declared.kind.Form.{Form}
use Rattle.tree.specs.declared.kind.Form.TheVariants.{Constructor, Get, Init}
use Rattle.tree.specs.Kinds.{is_function}
use Rattle.tree.specs.Uses.{is_async, is_generator}
use Rattle.tree.specs.Tree.{Tree, node, Parts, none, part, gap, flags_of, kind_of, part_at, part_count, parts_of, start_of, stop_of}
use Rattle.language.specs.Vocabulary.{is}
use Rattle.flow_rules.specs.declared.around.Around.{Around}
use Rattle.flow_rules.specs.declared.around.Round.{Round}
use Rattle.flow_rules.specs.declared.around.Home.{Home}
use Rattle.flow_rules.specs.declared.around.Home.TheVariants.{Callback, Derived, Getter, Other}
use Rattle.flow_rules.specs.declared.flow.Flow.{Flow}
use Rattle.flow_rules.specs.declared.flow.Place.{Place}
use Rattle.flow_rules.specs.declared.flow.Place.TheVariants.{First, Second, Third, Later}
use Rattle.flow_rules.specs.Flows.{next_place}
use Rattle.flow_rules.specs.KindSets.{is_block, is_call, is_case, is_catch, is_class, is_class_body, is_conditional, has_own_this, is_if, is_list, is_logical, is_member, is_method, is_own_function, is_switch, is_try}
use Rattle.flow_rules.specs.Fallthrough.{falls_through, quiet_from}

abbrev pub is_first : Place → Bool
is_first First = true
is_first _ = false

abbrev pub is_second : Place → Bool
is_second Second = true
is_second _ = false

abbrev pub is_third : Place → Bool
is_third Third = true
is_third _ = false

abbrev pub is_get : Form → Bool
is_get Get = true
is_get _ = false

abbrev pub is_constructor : Form → Bool
is_constructor Constructor = true
is_constructor _ = false

abbrev pub round_root : Around
round_root = record {
  round = record { parent = Program; form = Init; start = 0; end = 0; outer_start = 0; outer_end = 0; home = Other; in_tail = false; has_finalizer = false; awaited = Later };
  place = First;
  left = 1;
  has_super = false;
  stopped = false;
  in_run = false;
  falls = false;
  falls_from = 0;
  derived = false;
  chained = false;
}

-- ---- functions

-- methods of arrays (22.1.3) that use what their callback returns
abbrev pub uses_callback : List ℕ → Bool
uses_callback name = is name "every" || (is name "filter" || (is name "find" || (is name "findIndex" || (is name "flatMap" || (is name "map" || (is name "reduce" || (is name "reduceRight" || (is name "some" || is name "sort"))))))))

abbrev pub is_array_name : Option Tree → Bool
is_array_name None = false
is_array_name (Some (node Identifier text flags from to parts)) = is text "Array"
is_array_name (Some (node _ text flags from to parts)) = false

-- the name of a key that doesn't stand in brackets; empty, which no name is, for another
abbrev pub key_name : Bool → Option Tree → List ℕ
key_name computed None = []
key_name computed (Some (node Identifier text flags from to parts)) = cond computed [] text
key_name computed (Some (node _ text flags from to parts)) = []

-- which part of a call is a callback whose value is used, by the object and the key of the callee; Later: none
abbrev pub callback_of : Option Tree → List ℕ → Place
callback_of object name = cond (uses_callback name) Second (cond (is name "from" && is_array_name object) Third Later)

abbrev pub callback_place : Option Tree → Place
callback_place None = Later
callback_place (Some (node MemberExpression text flags from to parts)) = callback_of (part_at parts 0) (key_name flags.computed (part_at parts 1))
callback_place (Some (node _ text flags from to parts)) = Later

-- what stands in a chain (`?.`, 12.3.9), or itself
abbrev pub unchained : Option Tree → Option Tree
unchained None = None
unchained (Some (node ChainExpression text flags from to parts)) = part_at parts 0
unchained (Some (node kind text flags from to parts)) = Some (node kind text flags from to parts)

abbrev pub same_place : Place → Place → Bool
same_place Second place = is_second place
same_place Third place = is_third place
same_place _ place = false

-- a callback whose value is used stands here, as the argument or as a branch of it
abbrev pub is_callback : Around → Bool
is_callback z = (is_call z.round.parent && same_place z.round.awaited z.place) || ((is_logical z.round.parent && is_second z.round.awaited) || (is_conditional z.round.parent && (is_second z.round.awaited && not (is_first z.place))))

abbrev pub awaited_inside : Around → Tree → Place
awaited_inside z tree =
    cond (is_call (kind_of tree)) (callback_place (unchained (part_at (parts_of tree) 0)))
    (cond ((is_logical (kind_of tree) || is_conditional (kind_of tree)) && is_callback z) Second Later)

-- what a function is
abbrev pub function_home : Around → Flags → Home
function_home z flags =
    cond (is_member z.round.parent && (is_second z.place && is_get z.round.form)) Getter
    (cond (is_method z.round.parent && (is_constructor z.round.form && z.derived)) Derived
    (cond (is_callback z && not (is_async flags.form || is_generator flags.form)) Callback Other))

-- the function that parts of a node stand in, as far as their `return` and `this` ask
abbrev pub home_inside : Around → Tree → Home
home_inside z tree = cond (is_function (kind_of tree)) (function_home z (flags_of tree)) (cond (has_own_this (kind_of tree)) Other z.round.home)

-- ---- statements

-- nothing of the function comes behind what stands here
abbrev pub at_tail : Around → Bool
at_tail z =
    is_function z.round.parent
    || (z.round.in_tail && (((is_block z.round.parent || (is_case z.round.parent || is_switch z.round.parent)) && nat_eq z.left 1) || ((is_if z.round.parent || is_catch z.round.parent) || (is_try z.round.parent && (is_second z.place && not z.round.has_finalizer)))))

-- an `if` of a list, or one that follows such a one's `else`, where each branch before it returns
abbrev pub chained_inside : Around → Kind → Bool
chained_inside z kind = is_if kind && (is_list z.round.parent || (is_if z.round.parent && (is_third z.place && z.chained)))

-- it doesn't complete normally, and no `break` or `continue` leaves it, but a `return`
abbrev pub returns : Flow → Bool
returns flow = not flow.normal && ((flow.leaving.values || flow.leaving.empties) && not ((flow.leaving.breaks || flow.leaving.labelled_breaks) || (flow.leaving.continues || flow.leaving.labelled_continues)))

-- a declarator has a value
abbrev pub gives_value : Tree → Bool
gives_value tree = is_some (part_at (parts_of tree) 1)

abbrev pub has_value : Parts → Bool
has_value none = false
has_value (part tree rest) = gives_value tree || has_value rest
has_value (gap rest) = has_value rest

-- what is there without being reached: functions, `;`, and names of `var` (10.2.3)
abbrev pub is_hoisted : Tree → Bool
is_hoisted (node FunctionDeclaration text flags from to parts) = true
is_hoisted (node EmptyStatement text flags from to parts) = true
is_hoisted (node VariableDeclaration text flags from to parts) = is text "var" && not (has_value parts)
is_hoisted (node _ text flags from to parts) = false

-- ---- from node to node

abbrev pub round_parts : Around → Tree → Round
round_parts z tree = record {
  parent = kind_of tree;
  form = (flags_of tree).form;
  start = start_of tree;
  end = stop_of tree;
  outer_start = z.round.start;
  outer_end = z.round.end;
  home = home_inside z tree;
  in_tail = at_tail z;
  has_finalizer = is_some (part_at (parts_of tree) 2);
  awaited = awaited_inside z tree;
}

-- round the first part of a node
abbrev pub inside : Around → Tree → Around
inside z tree = record {
  round = round_parts z tree;
  place = First;
  left = part_count (parts_of tree);
  has_super = z.has_super && not (is_own_function (kind_of tree));
  stopped = false;
  in_run = false;
  falls = false;
  falls_from = 0;
  derived = z.derived && (is_class_body (kind_of tree) || is_method (kind_of tree));
  chained = chained_inside z (kind_of tree);
}

-- round the next part, behind one
abbrev pub behind : Around → Flow → Tree → Around
behind z flow tree = record {
  round = z.round;
  place = next_place z.place;
  left = z.left - 1;
  has_super = z.has_super || flow.leaving.supers;
  stopped = z.stopped || (is_list z.round.parent && not flow.normal);
  in_run = z.stopped && not (is_hoisted tree);
  falls = is_switch z.round.parent && falls_through flow tree;
  falls_from = quiet_from tree;
  derived = z.derived || (is_class z.round.parent && is_second z.place);
  chained = z.chained && (not (is_second z.place) || returns flow);
}

-- behind a gap
abbrev pub behind_gap : Around → Around
behind_gap z = record {
  round = z.round;
  place = next_place z.place;
  left = z.left - 1;
  has_super = z.has_super;
  stopped = z.stopped;
  in_run = z.in_run;
  falls = z.falls;
  falls_from = z.falls_from;
  derived = z.derived;
  chained = z.chained;
}
