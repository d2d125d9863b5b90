-- Examples: cost tables, rows and cells. Of each text: its tree, the rows that the definitions give it, and tables for it that are sound or not, and at which row.
use Rattle.std.specs.Prelude.{◌≡◌, refl, [], ◌∷◌, ◌++◌, true, false, Some, replicate}
use Rattle.tree.specs.declared.kind.Kind.TheVariants.{AssignmentExpression, BinaryExpression, EmptyStatement, ForStatement, Identifier, Literal, LogicalExpression, MemberExpression, NewExpression, ObjectExpression, ObjectPattern, Property, SequenceExpression, UnaryExpression}
use Rattle.tree.specs.declared.kind.Form.TheVariants.{Shorthand}
use Rattle.tree.specs.Tree.{Tree, gap, none, part}
use Rattle.language.specs.declared.Rank.TheVariants.{Additive, Assignment, Expression, Member, ShortCircuit, Unary}
use Rattle.language.specs.declared.Start.TheVariants.{Any, NoBrace, Statement}
use Rattle.language.specs.Pieces.{expr, script}
use Rattle.language.specs.Grammar.{rank_of}
use Rattle.language.specs.RowPositions.{rows}
use Rattle.language.specs.Cost.{least}
use Rattle.language.specs.Claims.{Table, bound_at, cell_bound}
use Rattle.language.proofs.examples.Sources.{tokens}
use Rattle.language.proofs.examples.Trees.{computing, formed, found, id, n, once, one, pair, program, st, t, two}
use Rattle.language.proofs.examples.Tables.{all_left_out, all_raised, high_at, judged, judging, misshapen, none_at, own_rows, passes, row, table, total_high}

-- `a + (b);`
abbrev pub sum : Tree
sum = program 8 (one (st 0 8 (t BinaryExpression "+" 0 7 (two (id "a" 0) (id "b" 5)))))

pub sum_pairs : found (tokens "a + (b);") sum ≡ once (pair 4 6 ∷ [])
unfolding computing
sum_pairs = refl

pub sum_rows : own_rows sum ≡ row BinaryExpression "0 0 0 0 0 - - -" ∷ row Identifier "0 0 0 0 0 0 0 0" ∷ row Identifier "0 0 0 0 0 0 0 0" ∷ []
unfolding judging
sum_rows = refl

pub sum_count : rows sum script ≡ 3
unfolding judging
sum_count = refl

pub sum_total : least sum script ≡ Some 0
unfolding judging
sum_total = refl

-- its own table
abbrev pub sum_own : Table
sum_own = table (row BinaryExpression "0 0 0 0 0 - - -" ∷ row Identifier "0 0 0 0 0 0 0 0" ∷ row Identifier "0 0 0 0 0 0 0 0" ∷ []) 0

pub sum_own_judged : judged sum_own sum ≡ passes
unfolding judging
sum_own_judged = refl

-- a number where the bound is none only understates
abbrev pub sum_number_for_none : Table
sum_number_for_none = table (row BinaryExpression "0 0 0 0 0 0 - -" ∷ row Identifier "0 0 0 0 0 0 0 0" ∷ row Identifier "0 0 0 0 0 0 0 0" ∷ []) 0

pub sum_number_for_none_judged : judged sum_number_for_none sum ≡ passes
unfolding judging
sum_number_for_none_judged = refl

-- the first cell of row 3 raised
abbrev pub sum_raised : Table
sum_raised = table (row BinaryExpression "0 0 0 0 0 - - -" ∷ row Identifier "0 0 0 0 0 0 0 0" ∷ row Identifier "1 0 0 0 0 0 0 0" ∷ []) 0

pub sum_raised_judged : judged sum_raised sum ≡ high_at 3
unfolding judging
sum_raised_judged = refl

-- the total raised
abbrev pub sum_total_raised : Table
sum_total_raised = table (row BinaryExpression "0 0 0 0 0 - - -" ∷ row Identifier "0 0 0 0 0 0 0 0" ∷ row Identifier "0 0 0 0 0 0 0 0" ∷ []) 1

pub sum_total_raised_judged : judged sum_total_raised sum ≡ total_high
unfolding judging
sum_total_raised_judged = refl

-- row 3 left out
abbrev pub sum_row_missing : Table
sum_row_missing = table (row BinaryExpression "0 0 0 0 0 - - -" ∷ row Identifier "0 0 0 0 0 0 0 0" ∷ []) 0

pub sum_row_missing_judged : judged sum_row_missing sum ≡ misshapen 3
unfolding judging
sum_row_missing_judged = refl

-- a row left over
abbrev pub sum_row_too_many : Table
sum_row_too_many = table (row BinaryExpression "0 0 0 0 0 - - -" ∷ row Identifier "0 0 0 0 0 0 0 0" ∷ row Identifier "0 0 0 0 0 0 0 0" ∷ row Identifier "0 0 0 0 0 0 0 0" ∷ []) 0

pub sum_row_too_many_judged : judged sum_row_too_many sum ≡ misshapen 4
unfolding judging
sum_row_too_many_judged = refl

-- another type in row 2
abbrev pub sum_other_kind : Table
sum_other_kind = table (row BinaryExpression "0 0 0 0 0 - - -" ∷ row Literal "0 0 0 0 0 0 0 0" ∷ row Identifier "0 0 0 0 0 0 0 0" ∷ []) 0

pub sum_other_kind_judged : judged sum_other_kind sum ≡ misshapen 2
unfolding judging
sum_other_kind_judged = refl

-- no number in the first cell of row 2
abbrev pub sum_none : Table
sum_none = table (row BinaryExpression "0 0 0 0 0 - - -" ∷ row Identifier "- 0 0 0 0 0 0 0" ∷ row Identifier "0 0 0 0 0 0 0 0" ∷ []) 0

pub sum_none_judged : judged sum_none sum ≡ none_at 2
unfolding judging
sum_none_judged = refl

-- `({}).a;`
abbrev pub member : Tree
member = program 7 (one (st 0 7 (n MemberExpression 0 6 (two (n ObjectExpression 1 3 none) (id "a" 5)))))

pub member_pairs : found (tokens "({}).a;") member ≡ once (pair 0 3 ∷ [])
unfolding computing
member_pairs = refl

pub member_rows : own_rows member ≡ row MemberExpression "0 1 1 0 1 0 1 1" ∷ row ObjectExpression "0 - - 0 - 0 - -" ∷ []
unfolding judging
member_rows = refl

pub member_count : rows member script ≡ 2
unfolding judging
member_count = refl

pub member_total : least member script ≡ Some 1
unfolding judging
member_total = refl

-- its own table
abbrev pub member_own : Table
member_own = table (row MemberExpression "0 1 1 0 1 0 1 1" ∷ row ObjectExpression "0 - - 0 - 0 - -" ∷ []) 1

pub member_own_judged : judged member_own member ≡ passes
unfolding judging
member_own_judged = refl

-- a total that only understates
abbrev pub member_total_lowered : Table
member_total_lowered = table (row MemberExpression "0 1 1 0 1 0 1 1" ∷ row ObjectExpression "0 - - 0 - 0 - -" ∷ []) 0

pub member_total_lowered_judged : judged member_total_lowered member ≡ passes
unfolding judging
member_total_lowered_judged = refl

-- the total raised
abbrev pub member_total_raised : Table
member_total_raised = table (row MemberExpression "0 1 1 0 1 0 1 1" ∷ row ObjectExpression "0 - - 0 - 0 - -" ∷ []) 2

pub member_total_raised_judged : judged member_total_raised member ≡ total_high
unfolding judging
member_total_raised_judged = refl

-- an object that may begin a statement: the symbol permits it there, so its cell counts, and row 1 is above its bound
abbrev pub member_object_first : Table
member_object_first = table (row MemberExpression "0 1 1 0 1 0 1 1" ∷ row ObjectExpression "0 - 0 0 - 0 - -" ∷ []) 1

pub member_object_first_judged : judged member_object_first member ≡ high_at 1
unfolding judging
member_object_first_judged = refl

-- with row 1 as low as that bound
abbrev pub member_object_lowered : Table
member_object_lowered = table (row MemberExpression "0 1 0 0 1 0 1 1" ∷ row ObjectExpression "0 - 0 0 - 0 - -" ∷ []) 0

pub member_object_lowered_judged : judged member_object_lowered member ≡ passes
unfolding judging
member_object_lowered_judged = refl

-- `for (x = (a in b) && (c in d);;);`
abbrev pub head : Tree
head = program 33 (one (n ForStatement 0 33 (part (t AssignmentExpression "=" 5 29 (two (id "x" 5) (t LogicalExpression "&&" 9 29 (two (t BinaryExpression "in" 10 16 (two (id "a" 10) (id "b" 15))) (t BinaryExpression "in" 22 28 (two (id "c" 22) (id "d" 27))))))) (gap (gap (one (n EmptyStatement 32 33 none)))))))

pub head_pairs : found (tokens "for (x = (a in b) && (c in d);;);") head ≡ once (pair 9 16 ∷ pair 21 28 ∷ [])
unfolding computing
head_pairs = refl

pub head_rows : own_rows head ≡ row AssignmentExpression "0 0 0 1 1 - - -" ∷ row Identifier "0 0 0 0 0 0 0 0" ∷ row LogicalExpression "0 0 0 2 2 - - -" ∷ row BinaryExpression "0 0 0 - - - - -" ∷ row Identifier "0 0 0 0 0 0 0 0" ∷ row Identifier "0 0 0 0 0 0 0 0" ∷ row BinaryExpression "0 0 0 - - - - -" ∷ row Identifier "0 0 0 0 0 0 0 0" ∷ row Identifier "0 0 0 0 0 0 0 0" ∷ []
unfolding judging
head_rows = refl

pub head_count : rows head script ≡ 9
unfolding judging
head_count = refl

pub head_total : least head script ≡ Some 1
unfolding judging
head_total = refl

-- its own table
abbrev pub head_own : Table
head_own = table (row AssignmentExpression "0 0 0 1 1 - - -" ∷ row Identifier "0 0 0 0 0 0 0 0" ∷ row LogicalExpression "0 0 0 2 2 - - -" ∷ row BinaryExpression "0 0 0 - - - - -" ∷ row Identifier "0 0 0 0 0 0 0 0" ∷ row Identifier "0 0 0 0 0 0 0 0" ∷ row BinaryExpression "0 0 0 - - - - -" ∷ row Identifier "0 0 0 0 0 0 0 0" ∷ row Identifier "0 0 0 0 0 0 0 0" ∷ []) 1

pub head_own_judged : judged head_own head ≡ passes
unfolding judging
head_own_judged = refl

-- the total raised
abbrev pub head_total_raised : Table
head_total_raised = table (row AssignmentExpression "0 0 0 1 1 - - -" ∷ row Identifier "0 0 0 0 0 0 0 0" ∷ row LogicalExpression "0 0 0 2 2 - - -" ∷ row BinaryExpression "0 0 0 - - - - -" ∷ row Identifier "0 0 0 0 0 0 0 0" ∷ row Identifier "0 0 0 0 0 0 0 0" ∷ row BinaryExpression "0 0 0 - - - - -" ∷ row Identifier "0 0 0 0 0 0 0 0" ∷ row Identifier "0 0 0 0 0 0 0 0" ∷ []) 2

pub head_total_raised_judged : judged head_total_raised head ≡ total_high
unfolding judging
head_total_raised_judged = refl

-- each number of a cell raised by 1: above its bound, at its row
pub head_each_raised : all_raised head_own head ≡ replicate 5 (high_at 1) ++ replicate 8 (high_at 2) ++ replicate 5 (high_at 3) ++ replicate 3 (high_at 4) ++ replicate 8 (high_at 5) ++ replicate 8 (high_at 6) ++ replicate 3 (high_at 7) ++ replicate 8 (high_at 8) ++ replicate 8 (high_at 9)
unfolding judging
head_each_raised = refl

-- each number of a cell left out: none where there is a bound, at its row
pub head_each_left_out : all_left_out head_own head ≡ replicate 5 (none_at 1) ++ replicate 8 (none_at 2) ++ replicate 5 (none_at 3) ++ replicate 3 (none_at 4) ++ replicate 8 (none_at 5) ++ replicate 8 (none_at 6) ++ replicate 3 (none_at 7) ++ replicate 8 (none_at 8) ++ replicate 8 (none_at 9)
unfolding judging
head_each_left_out = refl

-- `(x, y).m + b;`
abbrev pub sequence_member : Tree
sequence_member = program 13 (one (st 0 13 (t BinaryExpression "+" 0 12 (two (n MemberExpression 0 8 (two (n SequenceExpression 1 5 (two (id "x" 1) (id "y" 4))) (id "m" 7))) (id "b" 11)))))

pub sequence_member_pairs : found (tokens "(x, y).m + b;") sequence_member ≡ once (pair 0 5 ∷ [])
unfolding computing
sequence_member_pairs = refl

pub sequence_member_rows : own_rows sequence_member ≡ row BinaryExpression "1 1 1 1 1 - - -" ∷ row MemberExpression "1 1 1 1 1 1 1 1" ∷ row SequenceExpression "0 0 0 0 0 - - -" ∷ row Identifier "0 0 0 0 0 0 0 0" ∷ row Identifier "0 0 0 0 0 0 0 0" ∷ row Identifier "0 0 0 0 0 0 0 0" ∷ []
unfolding judging
sequence_member_rows = refl

pub sequence_member_count : rows sequence_member script ≡ 6
unfolding judging
sequence_member_count = refl

pub sequence_member_total : least sequence_member script ≡ Some 1
unfolding judging
sequence_member_total = refl

-- its own table
abbrev pub sequence_member_own : Table
sequence_member_own = table (row BinaryExpression "1 1 1 1 1 - - -" ∷ row MemberExpression "1 1 1 1 1 1 1 1" ∷ row SequenceExpression "0 0 0 0 0 - - -" ∷ row Identifier "0 0 0 0 0 0 0 0" ∷ row Identifier "0 0 0 0 0 0 0 0" ∷ row Identifier "0 0 0 0 0 0 0 0" ∷ []) 1

pub sequence_member_own_judged : judged sequence_member_own sequence_member ≡ passes
unfolding judging
sequence_member_own_judged = refl

-- a member that is spelled without In for nothing: the sum hands on its own In, so row 1 is above its bound
abbrev pub sequence_member_foreign : Table
sequence_member_foreign = table (row BinaryExpression "1 1 1 1 1 - - -" ∷ row MemberExpression "1 1 1 0 1 1 1 1" ∷ row SequenceExpression "0 0 0 0 0 - - -" ∷ row Identifier "0 0 0 0 0 0 0 0" ∷ row Identifier "0 0 0 0 0 0 0 0" ∷ row Identifier "0 0 0 0 0 0 0 0" ∷ []) 1

pub sequence_member_foreign_judged : judged sequence_member_foreign sequence_member ≡ high_at 1
unfolding judging
sequence_member_foreign_judged = refl

-- `-(x, y).m;`
abbrev pub minus_member : Tree
minus_member = program 10 (one (st 0 10 (t UnaryExpression "-" 0 9 (one (n MemberExpression 1 9 (two (n SequenceExpression 2 6 (two (id "x" 2) (id "y" 5))) (id "m" 8)))))))

pub minus_member_pairs : found (tokens "-(x, y).m;") minus_member ≡ once (pair 1 6 ∷ [])
unfolding computing
minus_member_pairs = refl

pub minus_member_rows : own_rows minus_member ≡ row UnaryExpression "1 1 1 1 1 - - -" ∷ row MemberExpression "1 1 1 1 1 1 1 1" ∷ row SequenceExpression "0 0 0 0 0 - - -" ∷ row Identifier "0 0 0 0 0 0 0 0" ∷ row Identifier "0 0 0 0 0 0 0 0" ∷ []
unfolding judging
minus_member_rows = refl

pub minus_member_count : rows minus_member script ≡ 5
unfolding judging
minus_member_count = refl

pub minus_member_total : least minus_member script ≡ Some 1
unfolding judging
minus_member_total = refl

-- its own table
abbrev pub minus_member_own : Table
minus_member_own = table (row UnaryExpression "1 1 1 1 1 - - -" ∷ row MemberExpression "1 1 1 1 1 1 1 1" ∷ row SequenceExpression "0 0 0 0 0 - - -" ∷ row Identifier "0 0 0 0 0 0 0 0" ∷ row Identifier "0 0 0 0 0 0 0 0" ∷ []) 1

pub minus_member_own_judged : judged minus_member_own minus_member ≡ passes
unfolding judging
minus_member_own_judged = refl

-- a table for this member in which the operand of `-` has In, so nothing is above its bound
abbrev pub minus_member_foreign : Table
minus_member_foreign = table (row UnaryExpression "1 1 1 1 1 - - -" ∷ row MemberExpression "1 1 1 0 1 1 1 1" ∷ row SequenceExpression "0 0 0 0 0 - - -" ∷ row Identifier "0 0 0 0 0 0 0 0" ∷ row Identifier "0 0 0 0 0 0 0 0" ∷ []) 1

pub minus_member_foreign_judged : judged minus_member_foreign minus_member ≡ passes
unfolding judging
minus_member_foreign_judged = refl

-- `new (a + b)();`
abbrev pub new_of_sum : Tree
new_of_sum = program 14 (one (st 0 14 (n NewExpression 0 13 (one (t BinaryExpression "+" 5 10 (two (id "a" 5) (id "b" 9)))))))

pub new_of_sum_pairs : found (tokens "new (a + b)();") new_of_sum ≡ once (pair 4 10 ∷ [])
unfolding computing
new_of_sum_pairs = refl

pub new_of_sum_rows : own_rows new_of_sum ≡ row NewExpression "1 1 1 1 1 1 1 1" ∷ row BinaryExpression "0 0 0 0 0 - - -" ∷ row Identifier "0 0 0 0 0 0 0 0" ∷ row Identifier "0 0 0 0 0 0 0 0" ∷ []
unfolding judging
new_of_sum_rows = refl

pub new_of_sum_count : rows new_of_sum script ≡ 4
unfolding judging
new_of_sum_count = refl

pub new_of_sum_total : least new_of_sum script ≡ Some 1
unfolding judging
new_of_sum_total = refl

-- numbers where the symbol permits no sum
abbrev pub new_of_sum_foreign : Table
new_of_sum_foreign = table (row NewExpression "1 1 1 1 1 1 1 1" ∷ row BinaryExpression "0 0 0 0 0 0 0 0" ∷ row Identifier "0 0 0 0 0 0 0 0" ∷ row Identifier "0 0 0 0 0 0 0 0" ∷ []) 1

pub new_of_sum_foreign_judged : judged new_of_sum_foreign new_of_sum ≡ passes
unfolding judging
new_of_sum_foreign_judged = refl

-- `({a} = b);`
abbrev pub pattern_at_start : Tree
pattern_at_start = program 10 (one (st 0 10 (t AssignmentExpression "=" 1 8 (two (n ObjectPattern 1 4 (one (formed Shorthand (n Property 2 3 (two (id "a" 2) (id "a" 2)))))) (id "b" 7)))))

pub pattern_at_start_pairs : found (tokens "({a} = b);") pattern_at_start ≡ once (pair 0 8 ∷ [])
unfolding computing
pattern_at_start_pairs = refl

pub pattern_at_start_rows : own_rows pattern_at_start ≡ row AssignmentExpression "0 - - 0 - - - -" ∷ row Identifier "0 0 0 0 0 0 0 0" ∷ []
unfolding judging
pattern_at_start_rows = refl

pub pattern_at_start_count : rows pattern_at_start script ≡ 2
unfolding judging
pattern_at_start_count = refl

pub pattern_at_start_total : least pattern_at_start script ≡ Some 1
unfolding judging
pattern_at_start_total = refl

-- ``
abbrev pub empty : Tree
empty = program 0 none

pub empty_pairs : found (tokens "") empty ≡ once []
unfolding computing
empty_pairs = refl

pub empty_rows : own_rows empty ≡ []
unfolding judging
empty_rows = refl

pub empty_count : rows empty script ≡ 0
unfolding judging
empty_count = refl

pub empty_total : least empty script ≡ Some 0
unfolding judging
empty_total = refl

-- the bounds of one cell: of `({}).a;` beside a table in which `{}` may begin a statement
abbrev pub foreign : Table
foreign = table (row MemberExpression "0 0 0 0 0 0 0 0" ∷ row ObjectExpression "0 - 0 0 - 0 - -" ∷ []) 0

pub at_statement : cell_bound foreign (n MemberExpression 1 6 (two (n ObjectExpression 1 3 none) (id "a" 5))) (expr Expression true Statement) 1 ≡ Some 0
unfolding judging
at_statement = refl

pub at_arrow : cell_bound foreign (n MemberExpression 1 6 (two (n ObjectExpression 1 3 none) (id "a" 5))) (expr Expression true NoBrace) 1 ≡ Some 1
unfolding judging
at_arrow = refl

-- the bounds of the member in both foreign tables: left of `+` without In its fourth cell counts, behind `-` its first
pub left_of_sum : bound_at sequence_member_foreign (n MemberExpression 0 8 (two (n SequenceExpression 1 5 (two (id "x" 1) (id "y" 4))) (id "m" 7))) (expr Additive false Any) 2 ≡ Some 0
unfolding judging
left_of_sum = refl

pub behind_minus : bound_at minus_member_foreign (n MemberExpression 1 9 (two (n SequenceExpression 2 6 (two (id "x" 2) (id "y" 5))) (id "m" 8))) (expr Unary true Any) 2 ≡ Some 1
unfolding judging
behind_minus = refl

-- the symbols of `new a`, `a ?? b` and `a = b`
pub new_rank : rank_of (n NewExpression 0 5 (one (id "a" 4))) ≡ Some Member
unfolding judging
new_rank = refl

pub coalesce_rank : rank_of (t LogicalExpression "??" 0 6 (two (id "a" 0) (id "b" 5))) ≡ Some ShortCircuit
unfolding judging
coalesce_rank = refl

pub assignment_rank : rank_of (t AssignmentExpression "=" 0 5 (two (id "a" 0) (id "b" 4))) ≡ Some Assignment
unfolding judging
assignment_rank = refl
