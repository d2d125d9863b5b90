-- Rules that ask how statements complete, row by row: the name, what a rule reports by what stands round a node, by what leaves it, and by itself, where, and what it says.
use Rattle.std.specs.Prelude.{ℕ, Bool, true, false, not, ◌&&◌, ◌||◌, cond, List, [], ◌∷◌, ◌++◌, is_none, codes}
use Rattle.tree.specs.declared.kind.Span.{Span}
use Rattle.tree.specs.Kinds.{is_function, is_loop, is_super}
use Rattle.tree.specs.Tree.{Tree, kind_of, part_at, parts_of, start_of, stop_of}
use Rattle.rule_words.specs.Reports.{Report}
use Rattle.flow_rules.specs.declared.around.Around.{Around}
use Rattle.flow_rules.specs.declared.around.Home.{Home}
use Rattle.flow_rules.specs.declared.around.Home.TheVariants.{Callback, Derived, Getter}
use Rattle.flow_rules.specs.declared.flow.Flow.{Flow}
use Rattle.flow_rules.specs.declared.flow_rule.FlowRule.{FlowRule}
use Rattle.flow_rules.specs.declared.flow_rule.FlowRule.TheVariants.{ArrayCallbackReturn, ConsistentReturn, ConstructorSuper, GetterReturn, NoElseReturn, NoFallthrough, NoThisBeforeSuper, NoUnreachable, NoUnreachableLoop, NoUselessReturn}
use Rattle.flow_rules.specs.Arounds.{at_tail, is_hoisted, is_third}
use Rattle.flow_rules.specs.Fallthrough.{is_said}
use Rattle.flow_rules.specs.KindSets.{is_block, is_if, is_member_expression, is_return, is_this}

-- what settings and reports call a rule
abbrev pub called : FlowRule → List ℕ
called ArrayCallbackReturn = codes "array-callback-return"
called ConsistentReturn = codes "consistent-return"
called ConstructorSuper = codes "constructor-super"
called GetterReturn = codes "getter-return"
called NoElseReturn = codes "no-else-return"
called NoFallthrough = codes "no-fallthrough"
called NoThisBeforeSuper = codes "no-this-before-super"
called NoUnreachable = codes "no-unreachable"
called NoUnreachableLoop = codes "no-unreachable-loop"
called NoUselessReturn = codes "no-useless-return"

abbrev pub is_getter : Home → Bool
is_getter Getter = true
is_getter _ = false

abbrev pub is_derived : Home → Bool
is_derived Derived = true
is_derived _ = false

abbrev pub is_awaited : Home → Bool
is_awaited Callback = true
is_awaited _ = false

-- the block of a function
abbrev pub is_body : Around → Tree → Bool
is_body z tree = is_function z.round.parent && is_block (kind_of tree)

-- a `return` without argument
abbrev pub is_bare_return : Tree → Bool
is_bare_return tree = is_return (kind_of tree) && is_none (part_at (parts_of tree) 0)

-- a function whose body can complete normally; a `return` in it without argument
abbrev pub gives_nothing : Around → Flow → Tree → Bool
gives_nothing z flow tree = (is_body z tree && flow.normal) || is_bare_return tree

-- `this`, or `super.a` and `super[a]`
abbrev pub is_this_use : Around → Tree → Bool
is_this_use z tree = is_this (kind_of tree) || (is_super (kind_of tree) && is_member_expression z.round.parent)

abbrev pub holds : (source : List ℕ) → FlowRule → Around → Flow → Tree → Bool
holds source ArrayCallbackReturn z flow tree = is_awaited z.round.home && gives_nothing z flow tree
holds source ConsistentReturn z flow tree = is_body z tree && (flow.leaving.values && (flow.normal || flow.leaving.empties))
holds source ConstructorSuper z flow tree = is_derived z.round.home && (is_body z tree && (not (z.has_super || flow.leaving.supers) && (flow.normal || flow.leaving.empties)))
holds source GetterReturn z flow tree = is_getter z.round.home && gives_nothing z flow tree
holds source NoElseReturn z flow tree = (is_if z.round.parent && is_third z.place) && (z.chained && not (is_if (kind_of tree)))
holds source NoFallthrough z flow tree = z.falls && not (is_said source z.falls_from (start_of tree))
holds source NoThisBeforeSuper z flow tree = is_derived z.round.home && (not z.has_super && is_this_use z tree)
holds source NoUnreachable z flow tree = z.stopped && (not z.in_run && not (is_hoisted tree))
holds source NoUnreachableLoop z flow tree = is_loop z.round.parent && (not flow.normal && not (flow.leaving.continues || flow.leaving.labelled_continues))
holds source NoUselessReturn z flow tree = is_bare_return tree && at_tail z

abbrev pub own_place : Tree → Span
own_place tree = record { start = start_of tree; end = stop_of tree }

abbrev pub parent_place : Around → Span
parent_place z = record { start = z.round.start; end = z.round.end }

abbrev pub outer_place : Around → Span
outer_place z = record { start = z.round.outer_start; end = z.round.outer_end }

-- a report stands at the node, or at its function, its loop, or the member that the function is of
abbrev pub place : FlowRule → Around → Tree → Span
place ArrayCallbackReturn z tree = cond (is_return (kind_of tree)) (own_place tree) (parent_place z)
place ConsistentReturn z tree = parent_place z
place ConstructorSuper z tree = outer_place z
place GetterReturn z tree = cond (is_return (kind_of tree)) (own_place tree) (outer_place z)
place NoUnreachableLoop z tree = parent_place z
place _ z tree = own_place tree

abbrev pub says : FlowRule → Tree → List ℕ
says ArrayCallbackReturn tree = cond (is_return (kind_of tree)) (codes "callback returns nothing") (codes "callback may end without a value")
says ConsistentReturn tree = codes "may end without a value"
says ConstructorSuper tree = codes "no super(..)"
says GetterReturn tree = cond (is_return (kind_of tree)) (codes "getter returns nothing") (codes "getter may end without a value")
says NoElseReturn tree = codes "'else' behind return"
says NoFallthrough tree = codes "the case before goes on here"
says NoThisBeforeSuper tree = codes "'this' before super(..)"
says NoUnreachable tree = codes "unreachable"
says NoUnreachableLoop tree = codes "never goes round twice"
says NoUselessReturn tree = codes "returns anyway"

abbrev pub report_at : Span → FlowRule → Tree → Report
report_at span rule tree = record { start = span.start; stop = span.end; rule = called rule; text = says rule tree }

-- what a rule says of a node
abbrev pub of_node : (source : List ℕ) → FlowRule → Around → Flow → Tree → List Report
of_node source rule z flow tree = cond (holds source rule z flow tree) (report_at (place rule z tree) rule tree ∷ []) []

-- what rules say of a node, rule after rule
abbrev pub of_rules : (source : List ℕ) → List FlowRule → Around → Flow → Tree → List Report
of_rules source [] z flow tree = []
of_rules source (rule ∷ rules) z flow tree = of_node source rule z flow tree ++ of_rules source rules z flow tree
