-- Whether a statement can complete normally (6.2.3), as 14.22 of the Java Language Specification has it: unless each way through it ends otherwise.
-- An expression may have any value, a condition that is surely true has its own, and a `break` counts wherever it stands.
use Rattle.std.specs.Prelude.{ℕ, zero, suc, Bool, true, false, not, ◌&&◌, ◌||◌, nat_le, List, [], ◌∷◌, Option, Some, None, is_none, is_some}
use Rattle.std.specs.Str.{bytes_eq}
use Rattle.tree.specs.declared.kind.Kind.{Kind}
use Rattle.tree.specs.declared.kind.Kind.TheVariants.{BlockStatement, BreakStatement, CatchClause, ContinueStatement, DoWhileStatement, ForStatement, IfStatement, LabeledStatement, Literal, ReturnStatement, Super, SwitchCase, SwitchStatement, ThrowStatement, TryStatement, WhileStatement}
use Rattle.tree.specs.Kinds.{is_loop}
use Rattle.tree.specs.Tree.{Tree, node, Parts, none, part, gap, part_at, text_of}
use Rattle.language.specs.Vocabulary.{is}
use Rattle.flow_rules.specs.declared.flow.Leaving.{Leaving}
use Rattle.flow_rules.specs.declared.flow.Sums.{Sums}
use Rattle.flow_rules.specs.KindSets.{is_break, is_call, is_code, is_continue, is_own_function, is_return, is_switch}

-- what is looked for in a statement
pub data Sought : Type 0 where
  -- a `break` without a label, with any, with this one
  Break : Sought
  LabelledBreak : Sought
  BreakOf : List ℕ → Sought
  -- a `continue` without a label, with any
  Continue : Sought
  LabelledContinue : Sought
  -- a `return` with an argument, without one
  ReturnsValue : Sought
  ReturnsNothing : Sought
  -- a call of `super`
  SuperCall : Sought

abbrev pub has_text : List ℕ → Option Tree → Bool
has_text text None = false
has_text text (Some tree) = bytes_eq (text_of tree) text

abbrev pub is_super_part : Option Tree → Bool
is_super_part None = false
is_super_part (Some (node Super text flags from to parts)) = true
is_super_part (Some (node _ text flags from to parts)) = false

-- a node is it, by its kind and its first part
abbrev pub is_sought : Sought → Kind → Option Tree → Bool
is_sought Break kind first = is_break kind && is_none first
is_sought LabelledBreak kind first = is_break kind && is_some first
is_sought (BreakOf label) kind first = is_break kind && has_text label first
is_sought Continue kind first = is_continue kind && is_none first
is_sought LabelledContinue kind first = is_continue kind && is_some first
is_sought ReturnsValue kind first = is_return kind && is_some first
is_sought ReturnsNothing kind first = is_return kind && is_none first
is_sought SuperCall kind first = is_call kind && is_super_part first

-- where it ends: an unlabelled jump at what it jumps out of, or round, a call of `super` at functions but arrows, others at any code
abbrev pub ends : Sought → Kind → Bool
ends Break kind = is_code kind || (is_loop kind || is_switch kind)
ends LabelledBreak kind = is_code kind
ends (BreakOf label) kind = is_code kind
ends Continue kind = is_code kind || is_loop kind
ends LabelledContinue kind = is_code kind
ends ReturnsValue kind = is_code kind
ends ReturnsNothing kind = is_code kind
ends SuperCall kind = is_own_function kind

unfoldable mutual
  -- one stands in a node, or is it, and leaves it
  pub has : Sought → Tree → Bool
  has x (node kind text flags from to parts) = is_sought x kind (part_at parts 0) || (not (ends x kind) && some x parts)

  -- one leaves some part
  pub some : Sought → Parts → Bool
  some x none = false
  some x (part tree rest) = has x tree || some x rest
  some x (gap rest) = some x rest

-- what leaves a node; what leaves some part
abbrev pub leaving : Tree → Leaving
leaving tree = record {
  breaks = has Break tree;
  labelled_breaks = has LabelledBreak tree;
  continues = has Continue tree;
  labelled_continues = has LabelledContinue tree;
  values = has ReturnsValue tree;
  empties = has ReturnsNothing tree;
  supers = has SuperCall tree;
}

abbrev pub parts_leaving : Parts → Leaving
parts_leaving parts = record {
  breaks = some Break parts;
  labelled_breaks = some LabelledBreak parts;
  continues = some Continue parts;
  labelled_continues = some LabelledContinue parts;
  values = some ReturnsValue parts;
  empties = some ReturnsNothing parts;
  supers = some SuperCall parts;
}

abbrev pub is_digit : ℕ → Bool
is_digit c = nat_le 48 c && nat_le c 57

abbrev pub are_digits : List ℕ → Bool
are_digits [] = true
are_digits (c ∷ cs) = is_digit c && are_digits cs

-- a decimal integer from 1 on
abbrev pub is_positive : List ℕ → Bool
is_positive [] = false
is_positive (c ∷ cs) = (nat_le 49 c && nat_le c 57) && are_digits cs

-- a condition that is surely true: `true`, or such an integer
abbrev pub always : Option Tree → Bool
always None = false
always (Some (node Literal text flags from to parts)) = is text "true" || is_positive text
always (Some (node _ text flags from to parts)) = false

-- the same, or none at all (13.7.4)
abbrev pub always_or_gap : Option Tree → Bool
always_or_gap test = is_none test || always test

-- a `default`: a case without a test
abbrev pub is_default : Tree → Bool
is_default (node SwitchCase text flags from to parts) = is_none (part_at parts 0)
is_default (node _ text flags from to parts) = false

abbrev pub any_default : Parts → Bool
any_default none = false
any_default (part tree rest) = is_default tree || any_default rest
any_default (gap rest) = any_default rest

-- the text of a part, empty where it is missing
abbrev pub text_at : Option Tree → List ℕ
text_at None = []
text_at (Some tree) = text_of tree

-- by its kind, and what its parts say
abbrev pub completes : Kind → Parts → Sums → Bool
completes BreakStatement parts sums = false
completes ContinueStatement parts sums = false
completes ReturnStatement parts sums = false
completes ThrowStatement parts sums = false
completes BlockStatement parts sums = sums.all
completes SwitchCase parts sums = sums.all
completes CatchClause parts sums = sums.all
completes IfStatement parts sums = sums.second || sums.third
completes LabeledStatement parts sums = sums.all || some (BreakOf (text_at (part_at parts 0))) parts
completes WhileStatement parts sums = not (always (part_at parts 0)) || sums.leaving.breaks
completes ForStatement parts sums = not (always_or_gap (part_at parts 1)) || sums.leaving.breaks
completes DoWhileStatement parts sums = (not (always (part_at parts 1)) && (sums.all || (sums.leaving.continues || sums.leaving.labelled_continues))) || sums.leaving.breaks
completes SwitchStatement parts sums = not sums.has_default || (sums.last || sums.leaving.breaks)
completes TryStatement parts sums = (sums.first || sums.second) && sums.third
completes _ parts sums = true

unfoldable mutual
  -- it can complete normally
  pub normal : Tree → Bool
  normal (node kind text flags from to parts) = completes kind parts (record {
    all = all_normal parts;
    first = nth_normal 0 false parts;
    second = nth_normal 1 false parts;
    third = nth_normal 2 true parts;
    last = last_normal true parts;
    has_default = any_default parts;
    leaving = parts_leaving parts;
  })

  pub all_normal : Parts → Bool
  all_normal none = true
  all_normal (part tree rest) = normal tree && all_normal rest
  all_normal (gap rest) = all_normal rest

  -- the part at a place, or what is said where it is missing
  pub nth_normal : ℕ → Bool → Parts → Bool
  nth_normal i missing none = missing
  nth_normal zero missing (part tree rest) = normal tree
  nth_normal zero missing (gap rest) = missing
  nth_normal (suc i) missing (part tree rest) = nth_normal i missing rest
  nth_normal (suc i) missing (gap rest) = nth_normal i missing rest

  -- the last part, or what is said where there is none
  pub last_normal : Bool → Parts → Bool
  last_normal missing none = missing
  last_normal missing (part tree rest) = last_normal (normal tree) rest
  last_normal missing (gap rest) = last_normal missing rest

abbrev pub sums_of : Parts → Sums
sums_of parts = record {
  all = all_normal parts;
  first = nth_normal 0 false parts;
  second = nth_normal 1 false parts;
  third = nth_normal 2 true parts;
  last = last_normal true parts;
  has_default = any_default parts;
  leaving = parts_leaving parts;
}
