-- How statements complete: their evaluation (clause 13) as a relation, by Completion Records (6.2.3) alone.
-- It holds of more than the standard lets happen, never of less: any expression may throw, or give any value but where it is a literal,
-- and any case of a `switch` may be the one that matches. So what is proved of each completion here is so of each that a run has.
-- The body of a function is a block. A `debugger` is taken to complete normally: what it does where one is at work (13.16.1) is left out.
use Rattle.std.specs.Prelude.{◌≡◌, ℕ, Bool, true, false, not, ◌&&◌, ◌||◌, cond, nat_eq, nat_le, List, [], ◌∷◌, Option, Some, None, is_none}
use Rattle.std.specs.Str.{bytes_eq}
use Rattle.tree.specs.declared.kind.Kind.{Kind}
use Rattle.tree.specs.declared.kind.Kind.TheVariants.{BlockStatement, BreakStatement, CatchClause, ContinueStatement, DoWhileStatement, ForInStatement, ForOfStatement, ForStatement, IfStatement, LabeledStatement, Literal, Program, ReturnStatement, SwitchCase, SwitchStatement, ThrowStatement, TryStatement, WhileStatement}
use Rattle.tree.specs.declared.kind.Flags.{Flags}
use Rattle.tree.specs.Kinds.{is_identifier}
use Rattle.tree.specs.Tree.{Tree, node, Parts, none, part, gap, kind_of, part_at, text_of}
use Rattle.language.specs.Vocabulary.{is}

-- whose `return` it is: one with an argument, one without, or a generator's, which was told to return at a `yield` (25.4.1.3)
pub data Returner : Type 0 where
  WithArgument WithoutArgument AtYield : Returner

-- a Completion Record (6.2.3): its type, and its target, if it has one
pub data Completion : Type 0 where
  Normal : Completion
  Break : (target : Option (List ℕ)) → Completion
  Continue : (target : Option (List ℕ)) → Completion
  Return : Returner → Completion
  Throw : Completion

abbrev pub is_normal : Completion → Bool
is_normal Normal = true
is_normal _ = false

abbrev pub is_throw : Completion → Bool
is_throw Throw = true
is_throw _ = false

-- a label set: the labels that stand right before a statement (13.13.14)
abbrev pub Labels : Type 0
Labels = List (List ℕ)

abbrev pub is_label : List ℕ → Labels → Bool
is_label target [] = false
is_label target (label ∷ labels) = bytes_eq target label || is_label target labels

-- LoopContinues (13.7.1.2)
abbrev pub loop_continues : Labels → Completion → Bool
loop_continues labels Normal = true
loop_continues labels (Continue None) = true
loop_continues labels (Continue (Some target)) = is_label target labels
loop_continues labels _ = false

-- behind a loop or a `switch`, which a `break` without a label leaves (13.1.7)
abbrev pub after_break : Completion → Completion
after_break (Break None) = Normal
after_break completion = completion

-- behind a labelled statement, which a `break` with that label leaves (13.13.14)
abbrev pub after_label : List ℕ → Completion → Completion
after_label label (Break (Some target)) = cond (bytes_eq target label) Normal (Break (Some target))
after_label label completion = completion

-- decimal digits; one that isn't 0
abbrev pub is_decimal : List ℕ → Bool
is_decimal [] = true
is_decimal (c ∷ cs) = (nat_le 48 c && nat_le c 57) && is_decimal cs

abbrev pub has_nonzero : List ℕ → Bool
has_nonzero [] = false
has_nonzero (c ∷ cs) = not (nat_eq c 48) || has_nonzero cs

-- ToBoolean may give false (7.1.2): of all but `true` and decimal integers other than 0
abbrev pub may_be_false : Tree → Bool
may_be_false (node Literal text flags from to parts) = not (is text "true" || (is_decimal text && has_nonzero text))
may_be_false (node _ text flags from to parts) = true

-- a `for` without a test goes on (13.7.4.8)
abbrev pub may_end : Option Tree → Bool
may_end None = false
may_end (Some test) = may_be_false test

-- one of the parts is a `default`
abbrev pub has_default : Parts → Bool
has_default none = false
has_default (part (node SwitchCase text flags from to parts) rest) = is_none (part_at parts 0) || has_default rest
has_default (part (node _ text flags from to parts) rest) = has_default rest
has_default (gap rest) = has_default rest

-- the cases from one of them on
pub data From : Parts → Parts → Type 0 where
  here : {case : Tree} {rest : Parts} → From (part case rest) (part case rest)
  later : {case : Tree} {rest entered : Parts} → From rest entered → From (part case rest) entered

-- no statement that hands on or changes how something inside it completes, nor one that jumps: expressions, patterns, declarations,
-- statements that are one of these, empty or `debugger`, imports and exports
abbrev pub is_simple : Kind → Bool
is_simple Program = false
is_simple BlockStatement = false
is_simple IfStatement = false
is_simple DoWhileStatement = false
is_simple WhileStatement = false
is_simple ForStatement = false
is_simple ForInStatement = false
is_simple ForOfStatement = false
is_simple ContinueStatement = false
is_simple BreakStatement = false
is_simple ReturnStatement = false
is_simple SwitchStatement = false
is_simple SwitchCase = false
is_simple LabeledStatement = false
is_simple ThrowStatement = false
is_simple TryStatement = false
is_simple CatchClause = false
is_simple _ = true

mutual
  -- Evaluated with a label set, a statement may complete like this.
  pub data Completes : Labels → Tree → Completion → Type 0 where
    -- 13.3, 13.4, 13.5, 13.16, 14.1, 14.6, 15.2
    simple : {labels : Labels} {kind : Kind} {text : List ℕ} {flags : Flags} {from to : ℕ} {parts : Parts} →
        is_simple kind ≡ true → Completes labels (node kind text flags from to parts) Normal
    -- what is evaluated may throw, and a generator that waits at a `yield` inside be told to return
    throws : {labels : Labels} {tree : Tree} → Completes labels tree Throw
    returns_at_yield : {labels : Labels} {tree : Tree} → Completes labels tree (Return AtYield)
    -- 15.1.7, 13.2.13
    program : {labels : Labels} {text : List ℕ} {flags : Flags} {from to : ℕ} {parts : Parts} {c : Completion} →
        ListCompletes parts c → Completes labels (node Program text flags from to parts) c
    block : {labels : Labels} {text : List ℕ} {flags : Flags} {from to : ℕ} {parts : Parts} {c : Completion} →
        ListCompletes parts c → Completes labels (node BlockStatement text flags from to parts) c
    -- 13.6.7
    if_true : {labels : Labels} {text : List ℕ} {flags : Flags} {from to : ℕ} {test first : Tree} {rest : Parts} {c : Completion} →
        Completes [] first c → Completes labels (node IfStatement text flags from to (part test (part first rest))) c
    if_false : {labels : Labels} {text : List ℕ} {flags : Flags} {from to : ℕ} {test first second : Tree} {c : Completion} →
        Completes [] second c → Completes labels (node IfStatement text flags from to (part test (part first (part second none)))) c
    if_neither : {labels : Labels} {text : List ℕ} {flags : Flags} {from to : ℕ} {test first : Tree} →
        Completes labels (node IfStatement text flags from to (part test (part first (gap none)))) Normal
    -- 13.7.2.6: the body, then the test, then the loop's other rounds
    do_left : {labels : Labels} {text : List ℕ} {flags : Flags} {from to : ℕ} {body test : Tree} {c d : Completion} →
        Completes [] body c → loop_continues labels c ≡ false → after_break c ≡ d →
        Completes labels (node DoWhileStatement text flags from to (part body (part test none))) d
    do_goes_on : {labels : Labels} {text : List ℕ} {flags : Flags} {from to : ℕ} {body test : Tree} {c d : Completion} →
        is_simple (kind_of test) ≡ true → Completes [] body c → loop_continues labels c ≡ true → Rounds labels body (may_be_false test) d →
        Completes labels (node DoWhileStatement text flags from to (part body (part test none))) d
    -- 13.7.3.6
    while : {labels : Labels} {text : List ℕ} {flags : Flags} {from to : ℕ} {test body : Tree} {c : Completion} →
        Rounds labels body (may_be_false test) c → Completes labels (node WhileStatement text flags from to (part test (part body none))) c
    -- 13.7.4.7: behind what comes first, the test and the step stands the body
    for : {labels : Labels} {text : List ℕ} {flags : Flags} {from to : ℕ} {parts : Parts} {body : Tree} {c : Completion} →
        part_at parts 3 ≡ Some body → Rounds labels body (may_end (part_at parts 1)) c → Completes labels (node ForStatement text flags from to parts) c
    -- 13.7.5.11: there may be no further key or value
    for_in : {labels : Labels} {text : List ℕ} {flags : Flags} {from to : ℕ} {left right body : Tree} {c : Completion} →
        Rounds labels body true c → Completes labels (node ForInStatement text flags from to (part left (part right (part body none)))) c
    for_of : {labels : Labels} {text : List ℕ} {flags : Flags} {from to : ℕ} {left right body : Tree} {c : Completion} →
        Rounds labels body true c → Completes labels (node ForOfStatement text flags from to (part left (part right (part body none)))) c
    -- 13.8.3, 13.9.3, 13.10.1; a `throw` (13.14.1) completes by `throws` alone
    continue : {labels : Labels} {text : List ℕ} {flags : Flags} {from to : ℕ} → Completes labels (node ContinueStatement text flags from to (gap none)) (Continue None)
    continue_to : {labels : Labels} {text : List ℕ} {flags : Flags} {from to : ℕ} {label : Tree} →
        is_identifier (kind_of label) ≡ true → Completes labels (node ContinueStatement text flags from to (part label none)) (Continue (Some (text_of label)))
    break : {labels : Labels} {text : List ℕ} {flags : Flags} {from to : ℕ} → Completes labels (node BreakStatement text flags from to (gap none)) (Break None)
    break_to : {labels : Labels} {text : List ℕ} {flags : Flags} {from to : ℕ} {label : Tree} →
        is_identifier (kind_of label) ≡ true → Completes labels (node BreakStatement text flags from to (part label none)) (Break (Some (text_of label)))
    return : {labels : Labels} {text : List ℕ} {flags : Flags} {from to : ℕ} → Completes labels (node ReturnStatement text flags from to (gap none)) (Return WithoutArgument)
    return_value : {labels : Labels} {text : List ℕ} {flags : Flags} {from to : ℕ} {argument : Tree} →
        Completes labels (node ReturnStatement text flags from to (part argument none)) (Return WithArgument)
    -- 13.12.11: the statements of the case that matches, or else of the `default`, and of those behind it
    switch_entered : {labels : Labels} {text : List ℕ} {flags : Flags} {from to : ℕ} {value : Tree} {cases entered : Parts} {c d : Completion} →
        From cases entered → ListCompletes entered c → after_break c ≡ d → Completes labels (node SwitchStatement text flags from to (part value cases)) d
    switch_passed : {labels : Labels} {text : List ℕ} {flags : Flags} {from to : ℕ} {parts : Parts} →
        has_default parts ≡ false → Completes labels (node SwitchStatement text flags from to parts) Normal
    case : {labels : Labels} {text : List ℕ} {flags : Flags} {from to : ℕ} {test : Tree} {statements : Parts} {c : Completion} →
        is_simple (kind_of test) ≡ true → ListCompletes statements c → Completes labels (node SwitchCase text flags from to (part test statements)) c
    default : {labels : Labels} {text : List ℕ} {flags : Flags} {from to : ℕ} {statements : Parts} {c : Completion} →
        ListCompletes statements c → Completes labels (node SwitchCase text flags from to (gap statements)) c
    -- 13.13.14
    labelled : {labels : Labels} {text : List ℕ} {flags : Flags} {from to : ℕ} {label body : Tree} {c d : Completion} →
        is_identifier (kind_of label) ≡ true → Completes (text_of label ∷ labels) body c → after_label (text_of label) c ≡ d →
        Completes labels (node LabeledStatement text flags from to (part label (part body none))) d
    -- 13.15.8: the block; the handler, if the block throws; the finalizer behind them
    try_passed : {labels : Labels} {text : List ℕ} {flags : Flags} {from to : ℕ} {body handler : Tree} {rest : Parts} {c d : Completion} →
        Completes [] body c → is_throw c ≡ false → Finally rest c d → Completes labels (node TryStatement text flags from to (part body (part handler rest))) d
    try_caught : {labels : Labels} {text : List ℕ} {flags : Flags} {from to : ℕ} {body handler : Tree} {rest : Parts} {c d : Completion} →
        Completes [] body Throw → Completes [] handler c → Finally rest c d → Completes labels (node TryStatement text flags from to (part body (part handler rest))) d
    try_alone : {labels : Labels} {text : List ℕ} {flags : Flags} {from to : ℕ} {body : Tree} {rest : Parts} {c d : Completion} →
        Completes [] body c → Finally rest c d → Completes labels (node TryStatement text flags from to (part body (gap rest))) d
    catch : {labels : Labels} {text : List ℕ} {flags : Flags} {from to : ℕ} {parameter body : Tree} {c : Completion} →
        is_simple (kind_of parameter) ≡ true → Completes [] body c → Completes labels (node CatchClause text flags from to (part parameter (part body none))) c
    catch_all : {labels : Labels} {text : List ℕ} {flags : Flags} {from to : ℕ} {body : Tree} {c : Completion} →
        Completes [] body c → Completes labels (node CatchClause text flags from to (gap (part body none))) c

  -- statements, one behind the other, up to the first that completes abruptly (13.2.13)
  pub data ListCompletes : Parts → Completion → Type 0 where
    all_done : ListCompletes none Normal
    done : {tree : Tree} {rest : Parts} {c : Completion} → Completes [] tree Normal → ListCompletes rest c → ListCompletes (part tree rest) c
    left : {tree : Tree} {rest : Parts} {c : Completion} → Completes [] tree c → is_normal c ≡ false → ListCompletes (part tree rest) c

  -- a loop with that label set and body, from before a round on, where it may end before one or may not
  pub data Rounds : Labels → Tree → Bool → Completion → Type 0 where
    ended : {labels : Labels} {body : Tree} → Rounds labels body true Normal
    leaves : {labels : Labels} {body : Tree} {ends : Bool} {c d : Completion} →
        Completes [] body c → loop_continues labels c ≡ false → after_break c ≡ d → Rounds labels body ends d
    again : {labels : Labels} {body : Tree} {ends : Bool} {c d : Completion} →
        Completes [] body c → loop_continues labels c ≡ true → Rounds labels body ends d → Rounds labels body ends d

  -- a finalizer, if there is one, behind what completed so: it overrides that unless it completes normally (13.15.8)
  pub data Finally : Parts → Completion → Completion → Type 0 where
    no_finalizer : {c : Completion} → Finally (gap none) c c
    kept : {finalizer : Tree} {c : Completion} → Completes [] finalizer Normal → Finally (part finalizer none) c c
    overridden : {finalizer : Tree} {c d : Completion} → Completes [] finalizer d → is_normal d ≡ false → Finally (part finalizer none) c d
