-- What is proved of how statements complete, and of what rules of `flow_rules` say of it.
use Rattle.std.specs.Prelude.{◌≡◌, ℕ, Bool, true, false, ◌&&◌, ◌||◌, List, [], Some, None, All, nat_le}
use Rattle.tree.specs.Tree.{Tree, kind_of, part_count, parts_of}
use Rattle.early_errors.specs.Early.{errors}
use Rattle.flow_rules.specs.declared.flow_rule.FlowRule.TheVariants.{ConsistentReturn, ConstructorSuper, NoUnreachable, NoUnreachableLoop}
use Rattle.flow_rules.specs.Arounds.{returns}
use Rattle.flow_rules.specs.Completion.{has, normal}
use Rattle.flow_rules.specs.Completion as sought
use Rattle.flow_rules.specs.Fallthrough.{falls_through}
use Rattle.flow_rules.specs.Flows.{flow_of}
use Rattle.flow_rules.specs.Found.{found_by_rule}
use Rattle.flow_rules.specs.KindSets.{is_case}
use Rattle.flow_rules.specs.Rows.{holds, is_body, is_derived}
use Rattle.completion_laws.specs.Completions.{Completes, Completion, Labels, loop_continues, Normal, Break, Continue, Return, Throw, WithArgument, WithoutArgument, AtYield}
use Rattle.completion_laws.specs.FunctionBodies.{FunctionBody}
use Rattle.completion_laws.specs.Reaches.{ReportsUnreached}

-- a statement that can't complete normally, by `normal`, never does
abbrev pub NormalAloneCompletes : Type 0
NormalAloneCompletes = (labels : Labels) (tree : Tree) → Completes labels tree Normal → normal tree ≡ true

-- what `has` says of a statement that completes so
abbrev pub has_what_leaves : Tree → Completion → Bool
has_what_leaves tree Normal = true
has_what_leaves tree (Break None) = has sought.Break tree
has_what_leaves tree (Break (Some target)) = has (sought.BreakOf target) tree && has sought.LabelledBreak tree
has_what_leaves tree (Continue None) = has sought.Continue tree
has_what_leaves tree (Continue (Some target)) = has sought.LabelledContinue tree
has_what_leaves tree (Return WithArgument) = has sought.ReturnsValue tree
has_what_leaves tree (Return WithoutArgument) = has sought.ReturnsNothing tree
has_what_leaves tree (Return AtYield) = true
has_what_leaves tree Throw = true

-- a `break`, `continue` or `return` by which a statement completes stands in it, by `has`
abbrev pub WhatLeavesStands : Type 0
WhatLeavesStands = (labels : Labels) (tree : Tree) (completion : Completion) → Completes labels tree completion → has_what_leaves tree completion ≡ true

-- no jump leaves code that completes so
abbrev pub leaves_no_code : Completion → Bool
leaves_no_code (Break target) = false
leaves_no_code (Continue target) = false
leaves_no_code _ = true

-- in a script without early errors no `break` or `continue` leaves the script, or the body of a function (13.8.1, 13.9.1, 14.1.2, 15.1.1)
abbrev pub JumpsStayInside : Type 0
JumpsStayInside = (script : Tree) (completion : Completion) → errors script ≡ [] →
    (Completes [] script completion → leaves_no_code completion ≡ true) ×
    ((body : Tree) → FunctionBody body script → Completes [] body completion → leaves_no_code completion ≡ true)

-- a function whose body completes so returns `undefined`: it comes to its end, or to a `return` without an argument (9.2.1)
abbrev pub gives_undefined : Completion → Bool
gives_undefined Normal = true
gives_undefined (Return WithoutArgument) = true
gives_undefined _ = false

abbrev pub gives_value : Completion → Bool
gives_value (Return WithArgument) = true
gives_value _ = false

-- `getter-return` and `array-callback-return`: a body that can't complete normally, and has no `return` without an argument, never ends so
abbrev pub NeverWithoutValue : Type 0
NeverWithoutValue = (tree : Tree) (completion : Completion) →
    normal tree ≡ false → has sought.ReturnsNothing tree ≡ false → Completes [] tree completion → gives_undefined completion ≡ false

-- so in a script without early errors each run of such a body that ends gives a value, throws, or is told to return at a `yield`
abbrev pub gives_or_throws : Completion → Bool
gives_or_throws (Return WithArgument) = true
gives_or_throws (Return AtYield) = true
gives_or_throws Throw = true
gives_or_throws _ = false

abbrev pub BodiesGiveValues : Type 0
BodiesGiveValues = (script body : Tree) (completion : Completion) → errors script ≡ [] → FunctionBody body script →
    normal body ≡ false → has sought.ReturnsNothing body ≡ false → Completes [] body completion → gives_or_throws completion ≡ true

-- `consistent-return`: of a body that isn't reported, no run gives a value where another gives none
abbrev pub ReturnsAreConsistent : Type 0
ReturnsAreConsistent = (source : List ℕ) (around : _) (body : Tree) (completion other : Completion) → is_body around body ≡ true →
    holds source ConsistentReturn around (flow_of body) body ≡ false → Completes [] body completion → Completes [] body other →
    gives_value completion ≡ true → gives_undefined other ≡ false

-- `no-else-return`: a branch that returns completes by a `return` or a `throw` alone, so nothing behind the `if` is come to
abbrev pub leaves_function : Completion → Bool
leaves_function (Return returner) = true
leaves_function Throw = true
leaves_function _ = false

abbrev pub BranchesReturn : Type 0
BranchesReturn = (labels : Labels) (branch : Tree) (completion : Completion) →
    returns (flow_of branch) ≡ true → Completes labels branch completion → leaves_function completion ≡ true

-- `constructor-super`: of a body that isn't reported, and in which and before which no `super(..)` stands, no run ends without a value
abbrev pub OthersCallSuper : Type 0
OthersCallSuper = (source : List ℕ) (around : _) (body : Tree) (completion : Completion) → is_body around body ≡ true → is_derived around.round.home ≡ true →
    holds source ConstructorSuper around (flow_of body) body ≡ false → (around.has_super || has sought.SuperCall body) ≡ false →
    Completes [] body completion → gives_undefined completion ≡ false

-- `no-unreachable-loop`: a loop whose body is reported doesn't go on behind it, whatever its label set
abbrev pub ReportedLoopsEnd : Type 0
ReportedLoopsEnd = (source : List ℕ) (around : _) (body : Tree) (labels : Labels) (completion : Completion) →
    holds source NoUnreachableLoop around (flow_of body) body ≡ true → Completes [] body completion → loop_continues labels completion ≡ false

-- `no-unreachable`: what is reported is never evaluated
abbrev pub ReportedAreUnreached : Type 0
ReportedAreUnreached = (source : List ℕ) (script : Tree) → All (λ report. ReportsUnreached report script) (found_by_rule source NoUnreachable script)

-- `no-fallthrough`: behind a case with statements of which the rule doesn't say that it falls through, the next one isn't come to
abbrev pub OthersDontFallThrough : Type 0
OthersDontFallThrough = (labels : Labels) (case : Tree) → is_case (kind_of case) ≡ true → nat_le 2 (part_count (parts_of case)) ≡ true →
    falls_through (flow_of case) case ≡ false → Completes labels case Normal → ⊥
