-- Statements, and what is put into them.
use Rattle.std.specs.Prelude.{◌≡◌, ◌<◌, ◌⊎◌, ℕ, Bool, true, false, not, ◌&&◌, nat_eq, [], Option, Some, None}
use Rattle.source_text.specs.declared.fault.Fault.{Fault}
use Rattle.source_text.specs.declared.fault.Fault.TheVariants.{Syntax, TooDeep, OutOfMemory}
use Rattle.token_cursor.specs.CursorState.{CursorState}
use Rattle.token_cursor.specs.StatementEnds.{EndsAt}
use Rattle.token_cursor.specs.declared.semicolon.StatementEnd.TheVariants.{AfterExpression}
use Rattle.language.specs.Token.{Token}
use Rattle.language.specs.declared.Edge.{Edge}
use Rattle.language.specs.declared.Edge.TheVariants.{Closed}
use Rattle.tree.specs.declared.kind.Kind.{Kind}
use Rattle.tree.specs.declared.kind.Kind.TheVariants as kind
use Rattle.tree.specs.declared.kind.Span.{Span}
use Rattle.tree.specs.Tree.{Tree, node, Parts, part, none, plain, push, join, part_count, height}
use Rattle.tokens.specs.declared.token.Token.{Token as Scanned}
use Rattle.covers.specs.declared.shape.CoverShape.{CoverShape}
use Rattle.covers.specs.declared.list.ListBuilder.{ListBuilder as ListOf}
use Rattle.tree.specs.Patterns.{pattern_tree, pattern_parts}
use Rattle.covers.specs.Shapes.{is_bound, is_pattern}
use Rattle.parser_tables.specs.declared.symbol_lists.Symbol.{Symbol}
use Rattle.parser_tables.specs.declared.symbol_lists.Symbol.TheVariants as piece
use Rattle.covers.specs.declared.list.ListKind.{ListKind}
use Rattle.covers.specs.declared.list.ListKind.TheVariants as listed
use Rattle.parser_tables.specs.declared.operand.Operand.{Operand}
use Rattle.parser_tables.specs.declared.symbol_lists.PartialStatement.{PartialStatement}
use Rattle.parser_tables.specs.declared.statements.StatementKind.{StatementKind}
use Rattle.parser_tables.specs.declared.statements.StatementKind.TheVariants as headed
use Rattle.parser_tables.specs.declared.statements.StatementContext.{StatementContext}

-- the kind of a statement's node
abbrev pub statement_node_kind : StatementKind → Kind
statement_node_kind headed.Block = kind.BlockStatement
statement_node_kind headed.Empty = kind.EmptyStatement
statement_node_kind headed.Variable = kind.VariableDeclaration
statement_node_kind headed.If = kind.IfStatement
statement_node_kind headed.Do = kind.DoWhileStatement
statement_node_kind headed.While = kind.WhileStatement
statement_node_kind headed.For = kind.ForStatement
statement_node_kind headed.ForLoop = kind.ForStatement
statement_node_kind headed.ForIn = kind.ForInStatement
statement_node_kind headed.ForOf = kind.ForOfStatement
statement_node_kind headed.Continue = kind.ContinueStatement
statement_node_kind headed.Break = kind.BreakStatement
statement_node_kind headed.Return = kind.ReturnStatement
statement_node_kind headed.Throw = kind.ThrowStatement
statement_node_kind headed.Switch = kind.SwitchStatement
statement_node_kind headed.Try = kind.TryStatement
statement_node_kind headed.Debugger = kind.DebuggerStatement
statement_node_kind headed.Label = kind.LabeledStatement

-- where an item stands that is no directive, and where a statement in another does
abbrev pub item_context : Bool → StatementContext
item_context returns = record { is_item = true; is_prologue = false; returns = returns }

abbrev pub inner_context : Bool → StatementContext
inner_context returns = record { is_item = false; is_prologue = false; returns = returns }

-- the statement of an expression, a directive or not
abbrev pub expression_statement_node : Bool → ℕ → ℕ → Tree → Tree
expression_statement_node directive s e n = node kind.ExpressionStatement [] (record plain { directive = directive }) s e (part n none)

abbrev pub expression_statement_height : Operand → ℕ
expression_statement_height p = height (expression_statement_node false 0 0 p.cover.node)

-- what was read is no expression, or the statement doesn't end there; else it is too high, or memory is refused
abbrev pub NoExpressionStatement : CursorState → Operand → ℕ → Fault → Type 0
NoExpressionStatement s p high (Syntax at) = (p.cover.shape.is_expression ≡ false) ⊎ ((e : Token) → EndsAt s.text (AfterExpression p.edge) s.last e → ⊥)
NoExpressionStatement s p high TooDeep = (p.cover.shape.is_expression ≡ true) × (high < expression_statement_height p)
NoExpressionStatement s p high OutOfMemory = Unit {0}
NoExpressionStatement s p high _ = ⊥

-- parts behind which no right edge is open
abbrev pub partial_of : Parts → PartialStatement
partial_of ps = record { nodes = ps; edge = Closed; word = None }

-- with one more part, whose right edge is known
abbrev pub with_part : PartialStatement → Tree → Edge → PartialStatement
with_part b n x = record b { nodes = push b.nodes n; edge = x }

-- What a piece makes of an expression that it wanted, where the flag says that `in` or `of` stands ahead: what is bound, what is assigned to, or
-- itself; and which shapes it takes.
abbrev pub put_node : Symbol → Bool → Tree → Tree
put_node piece.ForHead true n = pattern_tree n
put_node piece.Binding each n = pattern_tree n
put_node _ each n = n

abbrev pub takes_put : Symbol → Bool → CoverShape → Bool
takes_put piece.ForHead true s = is_pattern s.assigned
takes_put piece.Binding each s = s.binds && is_pattern s.assigned
takes_put _ each s = s.is_expression

abbrev pub is_closed : Edge → Bool
is_closed Closed = true
is_closed _ = false

-- the declarators may stand in the head of a `for`: before `in` or `of` one without a value, before `;` no pattern without one
abbrev pub fits_head : Bool → ListOf → Bool
fits_head true l = nat_eq (part_count l.nodes) 1 && is_closed l.seen.edge
fits_head false l = not l.seen.is_flagged

abbrev pub takes_head : Option Scanned → Bool → ListOf → Bool
takes_head None each l = false
takes_head (Some word) each l = fits_head each l

-- the declaration there, from its word to the last token
abbrev pub head_node : Option Scanned → ℕ → Parts → Tree
head_node None e ps = node kind.VariableDeclaration [] plain 0 e ps
head_node (Some word) e ps = node kind.VariableDeclaration word.text.now plain word.start e ps

-- how high the node is that is made for them
abbrev pub head_levels : Parts → ℕ
head_levels ps = height (head_node None 0 ps)

-- parts with those that a list adds, with the place where the last token ends
abbrev pub list_parts : ListKind → Option Scanned → ℕ → Span → Parts → Parts → Parts
list_parts (listed.Declarators false) word e span qs ps = push qs (head_node word e ps)
list_parts listed.Parameters word e span qs ps = join qs (pattern_parts 0 ps)
list_parts listed.NoParameter word e span qs ps = join qs (pattern_parts 0 ps)
list_parts listed.OneParameter word e span qs ps = join qs (pattern_parts 0 ps)
list_parts listed.Members word e span qs ps = push qs (node kind.ClassBody [] plain span.start span.end ps)
list_parts _ word e span qs ps = join qs ps

abbrev pub with_list : PartialStatement → ListOf → ℕ → PartialStatement
with_list b l e = record b { nodes = list_parts l.listed b.word e l.span b.nodes l.nodes; edge = l.seen.edge }

-- the list may be put there; those that no piece is may not
abbrev pub takes_listed : ListKind → Option Scanned → Bool → ListOf → Bool
takes_listed (listed.Declarators true) word each l = not l.seen.is_flagged
takes_listed (listed.Declarators false) word each l = takes_head word each l
takes_listed listed.Parameters word each l = is_bound l.seen.shape
takes_listed listed.NoParameter word each l = is_bound l.seen.shape
takes_listed listed.OneParameter word each l = is_bound l.seen.shape
takes_listed (listed.Cases r) word each l = true
takes_listed listed.Members word each l = true
takes_listed _ word each l = false

abbrev pub takes_list : Option Scanned → Bool → ListOf → Bool
takes_list word each l = takes_listed l.listed word each l

-- how high the node is that is made for its items, 0 where none is
abbrev pub listed_levels : ListKind → Parts → ℕ
listed_levels (listed.Declarators false) ps = head_levels ps
listed_levels listed.Members ps = height (node kind.ClassBody [] plain 0 0 ps)
listed_levels _ ps = 0

abbrev pub list_levels : ListOf → ℕ
list_levels l = listed_levels l.listed l.nodes

-- 1 where a node of its own holds the items of the list
abbrev pub listed_depth : ListKind → ℕ
listed_depth listed.Members = 1
listed_depth (listed.Declarators false) = 1
listed_depth _ = 0
