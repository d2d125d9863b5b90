-- What stands round a node, as it comes down in a walk.
use Rattle.std.specs.Prelude.{ℕ, Bool, true, false, not, cond, ◌&&◌, ◌||◌, nat_eq, Option, Some, None}
use Rattle.tree.specs.declared.kind.Kind.{Kind}
use Rattle.tree.specs.declared.kind.Kind.TheVariants.{ArrowFunctionExpression, BinaryExpression, ClassBody, ClassDeclaration, ClassExpression, ConditionalExpression, FunctionDeclaration, FunctionExpression, LogicalExpression, MethodDefinition, Program, Property, ReturnStatement, TryStatement, VariableDeclaration}
use Rattle.tree.specs.declared.kind.Form.{Form}
use Rattle.tree.specs.declared.kind.Form.TheVariants.{Init, Set}
use Rattle.tree.specs.declared.kind.Flags.{Flags}
use Rattle.tree.specs.Tree.{Tree, node, kind_of, flags_of, part_at}
use Rattle.tree.specs.Kinds.{is_loop}
use Rattle.language.specs.Vocabulary.{is}
use Rattle.node_rules.specs.declared.around.Around.{Around}
use Rattle.node_rules.specs.declared.around.Ending.{Ending}
use Rattle.node_rules.specs.declared.around.Ending.TheVariants.{GivenBack, Guarded, Used}
use Rattle.node_rules.specs.declared.around.Jumps.{Jumps}
use Rattle.node_rules.specs.declared.around.Jumps.TheVariants.{Breaks, Continues, NoJumps, Returns}
use Rattle.node_rules.specs.declared.around.Remark.{Remark}
use Rattle.node_rules.specs.declared.around.Remark.TheVariants.{IsConst, IsFinalized, IsHeir, IsSum, NoRemark}
use Rattle.node_rules.specs.KindSets.{ends_jumps, is_labelled, is_switch, is_try}

-- which jumps without a label leave a finalizer
abbrev pub has_returns : Jumps → Bool
has_returns NoJumps = false
has_returns _ = true

abbrev pub has_continues : Jumps → Bool
has_continues Continues = true
has_continues Breaks = true
has_continues _ = false

abbrev pub has_breaks : Jumps → Bool
has_breaks Breaks = true
has_breaks _ = false

-- a loop takes `break` and `continue`, a switch `break`
abbrev pub in_loop : Jumps → Jumps
in_loop NoJumps = NoJumps
in_loop _ = Returns

abbrev pub in_switch : Jumps → Jumps
in_switch Breaks = Continues
in_switch jumps = jumps

-- round the root, which has no parent: as if it stood in a Program
abbrev pub round_root : Around
round_root = record { parent = Program; form = Init; grandparent = Program; place = 0; in_setter = false; remark = NoRemark; leaving = NoJumps; leaving_by_label = false; ending = Used }

-- members that may be setters
abbrev pub is_member : Kind → Bool
is_member Property = true
is_member MethodDefinition = true
is_member _ = false

abbrev pub is_set : Form → Bool
is_set Set = true
is_set _ = false

-- the function of a setter stands here
abbrev pub is_setter : Around → Bool
is_setter around = is_member around.parent && (is_set around.form && nat_eq around.place 1)

-- the nearest function round the parts of a node of this kind is a setter's
abbrev pub setter_inside : Around → Kind → Bool
setter_inside around FunctionExpression = is_setter around
setter_inside around FunctionDeclaration = false
setter_inside around ArrowFunctionExpression = false
setter_inside around _ = around.in_setter

-- the finalizer of a `try` stands here
abbrev pub is_finalizer : Around → Bool
is_finalizer around = is_try around.parent && nat_eq around.place 2

-- which jumps without a label leave a finalizer from the parts of a node of this kind: all from the finalizer itself, none out of a function or class; those that a loop or a switch
-- takes stay inside
abbrev pub leaving_inside : Around → Kind → Jumps
leaving_inside around kind =
    cond (is_finalizer around) Breaks
    (cond (ends_jumps kind) NoJumps
    (cond (is_loop kind) (in_loop around.leaving)
    (cond (is_switch kind) (in_switch around.leaving) around.leaving)))

-- those with a label: from the finalizer itself, not out of a function or class, nor, since the label may be its own, out of a statement with one
abbrev pub leaving_by_label_inside : Around → Kind → Bool
leaving_by_label_inside around kind = is_finalizer around || (around.leaving_by_label && not (ends_jumps kind || is_labelled kind))

-- what is to be said of a node beside its kind
abbrev pub is_sum_remark : Remark → Bool
is_sum_remark IsSum = true
is_sum_remark _ = false

abbrev pub is_const_remark : Remark → Bool
is_const_remark IsConst = true
is_const_remark _ = false

abbrev pub is_heir_remark : Remark → Bool
is_heir_remark IsHeir = true
is_heir_remark _ = false

abbrev pub is_finalized_remark : Remark → Bool
is_finalized_remark IsFinalized = true
is_finalized_remark _ = false

-- a class with `extends`
abbrev pub class_remark : Option Tree → Remark
class_remark None = NoRemark
class_remark (Some parent) = IsHeir

-- a `try` with a finalizer
abbrev pub try_remark : Option Tree → Remark
try_remark None = NoRemark
try_remark (Some finalizer) = IsFinalized

-- a body of a class is what its class is
abbrev pub remark_inside : Around → Tree → Remark
remark_inside around (node BinaryExpression text flags from to parts) = cond (is text "+") IsSum NoRemark
remark_inside around (node VariableDeclaration text flags from to parts) = cond (is text "const") IsConst NoRemark
remark_inside around (node ClassDeclaration text flags from to parts) = class_remark (part_at parts 1)
remark_inside around (node ClassExpression text flags from to parts) = class_remark (part_at parts 1)
remark_inside around (node ClassBody text flags from to parts) = around.remark
remark_inside around (node TryStatement text flags from to parts) = try_remark (part_at parts 2)
remark_inside around (node _ text flags from to parts) = NoRemark

-- the value of the part at a place is that of its node, or the result of the function; for a list of expressions, whose last that is, it isn't known
abbrev pub hands_out : Kind → (place : ℕ) → Bool
hands_out ReturnStatement place = true
hands_out ArrowFunctionExpression place = true
hands_out ConditionalExpression place = not (nat_eq place 0)
hands_out LogicalExpression place = nat_eq place 1
hands_out _ place = false

abbrev pub is_given_back : Ending → Bool
is_given_back GivenBack = true
is_given_back _ = false

-- a value here is the function's result, and no `try` of the function hears of an error in it
abbrev pub is_returned : Around → Bool
is_returned around = is_given_back around.ending && hands_out around.parent around.place

-- the block of a `try` stands here, or a `catch` behind which a finalizer stands
abbrev pub is_guarded : Around → Bool
is_guarded around = is_try around.parent && (nat_eq around.place 0 || (nat_eq around.place 1 && is_finalized_remark around.remark))

abbrev pub used : Ending → Ending
used Guarded = Guarded
used _ = Used

abbrev pub given_back : Ending → Ending
given_back Guarded = Guarded
given_back _ = GivenBack

-- what becomes of the values in a node of this kind
abbrev pub ending_inside : Around → Kind → Ending
ending_inside around ArrowFunctionExpression = GivenBack
ending_inside around FunctionExpression = Used
ending_inside around FunctionDeclaration = Used
ending_inside around ReturnStatement = given_back around.ending
ending_inside around _ = cond (is_guarded around) Guarded (cond (is_returned around) GivenBack (used around.ending))

-- round a node's first part
abbrev pub inside : Around → Tree → Around
inside around tree = record { parent = kind_of tree; form = (flags_of tree).form; grandparent = around.parent; place = 0; in_setter = setter_inside around (kind_of tree); remark = remark_inside around tree; leaving = leaving_inside around (kind_of tree); leaving_by_label = leaving_by_label_inside around (kind_of tree); ending = ending_inside around (kind_of tree) }

abbrev pub at_place : Around → ℕ → Around
at_place around i = record around { place = i }
