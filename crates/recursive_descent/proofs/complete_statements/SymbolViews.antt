-- The pieces that want each thing behind their own tokens: an expression, what is bound, a statement, statements, a block, a handler, a list.
use Rattle.std.proofs.Common.{◌≡◌, ℕ, Bool, true, false, sym, ap, ◌∙◌}
use Rattle.std.specs.Prelude.{Option, Some, None}
use Rattle.std.proofs.lemmas.Bool.{false≢true, true≢false}
use Rattle.token_cursor.specs.CursorState.{CursorState}
use Rattle.covers.specs.declared.list.ListKind.{ListKind}
use Rattle.parser_tables.specs.declared.symbol_lists.PartialStatement.{PartialStatement}
use Rattle.parser_tables.specs.declared.symbol_lists.Symbol.{Symbol as Coded}
use Rattle.parser_tables.specs.declared.symbol_lists.Symbol.TheVariants as code
use Rattle.parser_tables.specs.declared.expression_context.ExpressionContext.{ExpressionContext}
use Rattle.parser_tables.specs.declared.statements.StatementContext.{StatementContext}
use Rattle.parser_tables.specs.declared.statements.StatementListEnd.{StatementListEnd}
use Rattle.recursive_descent.specs.declared.statement_symbols.Expected.{Expected}
use Rattle.recursive_descent.specs.declared.statement_symbols.Expected.TheVariants as wanted
use Rattle.recursive_descent.specs.Expectations.{ExpectedAt}

-- a test of what is wanted, where something is
abbrev pub of_some : (Expected → Bool) → Option Expected → Bool
of_some f None = false
of_some f (Some w) = f w

pub data ExpressionPiece : Coded → Type 0 where
  expression_of_expression : ExpressionPiece code.Expression
  expression_of_assignment : ExpressionPiece code.Assignment
  expression_of_test : ExpressionPiece code.Test
  expression_of_update : ExpressionPiece code.Update
  expression_of_argument : ExpressionPiece code.Argument
  expression_of_heritage : ExpressionPiece code.ClassHeritage
  expression_of_head : ExpressionPiece code.ForHead

abbrev is_expression : Expected → Bool
is_expression (wanted.Expression pos) = true
is_expression _ = false

pub wants_expression : (p : Coded) (r : Bool) (s m : CursorState) (b c : PartialStatement) (high : ℕ) (pos : ExpressionContext) → ExpectedAt p r s m b c high (wanted.Expression pos) → ExpressionPiece p
wants_expression code.Expression r s m b c high pos h = expression_of_expression
wants_expression code.Assignment r s m b c high pos h = expression_of_assignment
wants_expression code.Test r s m b c high pos h = expression_of_test
wants_expression code.Update r s m b c high pos h = expression_of_update
wants_expression code.Argument r s m b c high pos h = expression_of_argument
wants_expression code.ClassHeritage r s m b c high pos h = expression_of_heritage
wants_expression code.ForHead r s m b c high pos h = expression_of_head
wants_expression (code.PunctuatorToken w) r s m b c high pos h = absurd (true≢false (ap is_expression h.1))
wants_expression (code.KeywordToken w) r s m b c high pos h = absurd (true≢false (ap is_expression h.1))
wants_expression code.NoLineTerminator r s m b c high pos h = absurd (true≢false (ap is_expression h.1))
wants_expression code.Label r s m b c high pos h = absurd (true≢false (ap is_expression h.1))
wants_expression code.DoWhileSemicolon r s m b c high pos h = absurd (true≢false (ap is_expression h.1))
wants_expression code.Semicolon r s m b c high pos h = absurd (true≢false (ap is_expression h.1))
wants_expression code.NoCatchParameter r s m b c high pos h = absurd (true≢false (ap is_expression h.0))
wants_expression code.Else r s m b c high pos h = absurd h.0
wants_expression code.Finally r s m b c high pos h = absurd h.0
wants_expression code.Catch r s m b c high pos h = absurd h.0
wants_expression _ r s m b c high pos h = absurd (false≢true (ap (of_some is_expression) h.0))

pub data BindingPiece : Coded → Type 0 where
  binding_of_binding : BindingPiece code.Binding

abbrev is_binding : Expected → Bool
is_binding wanted.Binding = true
is_binding _ = false

pub wants_binding : (p : Coded) (r : Bool) (s m : CursorState) (b c : PartialStatement) (high : ℕ) → ExpectedAt p r s m b c high wanted.Binding → BindingPiece p
wants_binding code.Binding r s m b c high h = binding_of_binding
wants_binding (code.PunctuatorToken w) r s m b c high h = absurd (true≢false (ap is_binding h.1))
wants_binding (code.KeywordToken w) r s m b c high h = absurd (true≢false (ap is_binding h.1))
wants_binding code.NoLineTerminator r s m b c high h = absurd (true≢false (ap is_binding h.1))
wants_binding code.Label r s m b c high h = absurd (true≢false (ap is_binding h.1))
wants_binding code.DoWhileSemicolon r s m b c high h = absurd (true≢false (ap is_binding h.1))
wants_binding code.Semicolon r s m b c high h = absurd (true≢false (ap is_binding h.1))
wants_binding code.NoCatchParameter r s m b c high h = absurd (true≢false (ap is_binding h.0))
wants_binding code.Test r s m b c high h = absurd h.0
wants_binding code.Update r s m b c high h = absurd h.0
wants_binding code.Argument r s m b c high h = absurd h.0
wants_binding code.ForHead r s m b c high h = absurd h.0
wants_binding code.Else r s m b c high h = absurd h.0
wants_binding code.Finally r s m b c high h = absurd h.0
wants_binding code.Catch r s m b c high h = absurd h.0
wants_binding code.ClassHeritage r s m b c high h = absurd h.0
wants_binding _ r s m b c high h = absurd (false≢true (ap (of_some is_binding) h.0))

pub data StatementPiece : Coded → Type 0 where
  statement_of_statement : StatementPiece code.Statement
  statement_of_else : StatementPiece code.Else

abbrev is_statement : Expected → Bool
is_statement wanted.Statement = true
is_statement _ = false

pub wants_statement : (p : Coded) (r : Bool) (s m : CursorState) (b c : PartialStatement) (high : ℕ) → ExpectedAt p r s m b c high wanted.Statement → StatementPiece p
wants_statement code.Statement r s m b c high h = statement_of_statement
wants_statement code.Else r s m b c high h = statement_of_else
wants_statement (code.PunctuatorToken w) r s m b c high h = absurd (true≢false (ap is_statement h.1))
wants_statement (code.KeywordToken w) r s m b c high h = absurd (true≢false (ap is_statement h.1))
wants_statement code.NoLineTerminator r s m b c high h = absurd (true≢false (ap is_statement h.1))
wants_statement code.Label r s m b c high h = absurd (true≢false (ap is_statement h.1))
wants_statement code.DoWhileSemicolon r s m b c high h = absurd (true≢false (ap is_statement h.1))
wants_statement code.Semicolon r s m b c high h = absurd (true≢false (ap is_statement h.1))
wants_statement code.NoCatchParameter r s m b c high h = absurd (true≢false (ap is_statement h.0))
wants_statement code.Test r s m b c high h = absurd h.0
wants_statement code.Update r s m b c high h = absurd h.0
wants_statement code.Argument r s m b c high h = absurd h.0
wants_statement code.ForHead r s m b c high h = absurd h.0
wants_statement code.Finally r s m b c high h = absurd h.0
wants_statement code.Catch r s m b c high h = absurd h.0
wants_statement code.ClassHeritage r s m b c high h = absurd h.0
wants_statement _ r s m b c high h = absurd (false≢true (ap (of_some is_statement) h.0))

pub data ItemsPiece : Coded → Type 0 where
  items_of_items : ItemsPiece code.StatementList
  items_of_consequent : ItemsPiece code.CaseStatements

abbrev is_items : Expected → Bool
is_items (wanted.Items u) = true
is_items _ = false

pub wants_items : (p : Coded) (r : Bool) (s m : CursorState) (b c : PartialStatement) (high : ℕ) (u : StatementListEnd) → ExpectedAt p r s m b c high (wanted.Items u) → ItemsPiece p
wants_items code.StatementList r s m b c high u h = items_of_items
wants_items code.CaseStatements r s m b c high u h = items_of_consequent
wants_items (code.PunctuatorToken w) r s m b c high u h = absurd (true≢false (ap is_items h.1))
wants_items (code.KeywordToken w) r s m b c high u h = absurd (true≢false (ap is_items h.1))
wants_items code.NoLineTerminator r s m b c high u h = absurd (true≢false (ap is_items h.1))
wants_items code.Label r s m b c high u h = absurd (true≢false (ap is_items h.1))
wants_items code.DoWhileSemicolon r s m b c high u h = absurd (true≢false (ap is_items h.1))
wants_items code.Semicolon r s m b c high u h = absurd (true≢false (ap is_items h.1))
wants_items code.NoCatchParameter r s m b c high u h = absurd (true≢false (ap is_items h.0))
wants_items code.Test r s m b c high u h = absurd h.0
wants_items code.Update r s m b c high u h = absurd h.0
wants_items code.Argument r s m b c high u h = absurd h.0
wants_items code.ForHead r s m b c high u h = absurd h.0
wants_items code.Else r s m b c high u h = absurd h.0
wants_items code.Finally r s m b c high u h = absurd h.0
wants_items code.Catch r s m b c high u h = absurd h.0
wants_items code.ClassHeritage r s m b c high u h = absurd h.0
wants_items _ r s m b c high u h = absurd (false≢true (ap (of_some is_items) h.0))

pub data BlockPiece : Coded → Type 0 where
  block_of_block : BlockPiece code.Block
  block_of_body : BlockPiece code.FunctionBody
  block_of_finally : BlockPiece code.Finally

abbrev is_block : Expected → Bool
is_block (wanted.Block context) = true
is_block _ = false

pub wants_block : (p : Coded) (r : Bool) (s m : CursorState) (b c : PartialStatement) (high : ℕ) (context : StatementContext) → ExpectedAt p r s m b c high (wanted.Block context) → BlockPiece p
wants_block code.Block r s m b c high context h = block_of_block
wants_block code.FunctionBody r s m b c high context h = block_of_body
wants_block code.Finally r s m b c high context h = block_of_finally
wants_block (code.PunctuatorToken w) r s m b c high context h = absurd (true≢false (ap is_block h.1))
wants_block (code.KeywordToken w) r s m b c high context h = absurd (true≢false (ap is_block h.1))
wants_block code.NoLineTerminator r s m b c high context h = absurd (true≢false (ap is_block h.1))
wants_block code.Label r s m b c high context h = absurd (true≢false (ap is_block h.1))
wants_block code.DoWhileSemicolon r s m b c high context h = absurd (true≢false (ap is_block h.1))
wants_block code.Semicolon r s m b c high context h = absurd (true≢false (ap is_block h.1))
wants_block code.NoCatchParameter r s m b c high context h = absurd (true≢false (ap is_block h.0))
wants_block code.Test r s m b c high context h = absurd h.0
wants_block code.Update r s m b c high context h = absurd h.0
wants_block code.Argument r s m b c high context h = absurd h.0
wants_block code.ForHead r s m b c high context h = absurd h.0
wants_block code.Else r s m b c high context h = absurd h.0
wants_block code.Catch r s m b c high context h = absurd h.0
wants_block code.ClassHeritage r s m b c high context h = absurd h.0
wants_block _ r s m b c high context h = absurd (false≢true (ap (of_some is_block) h.0))

pub data HandlerPiece : Coded → Type 0 where
  handler_of_catch : HandlerPiece code.Catch

abbrev is_handler : Expected → Bool
is_handler (wanted.Handler at) = true
is_handler _ = false

pub wants_handler : (p : Coded) (r : Bool) (s m : CursorState) (b c : PartialStatement) (high : ℕ) (at : ℕ) → ExpectedAt p r s m b c high (wanted.Handler at) → HandlerPiece p
wants_handler code.Catch r s m b c high at h = handler_of_catch
wants_handler (code.PunctuatorToken w) r s m b c high at h = absurd (true≢false (ap is_handler h.1))
wants_handler (code.KeywordToken w) r s m b c high at h = absurd (true≢false (ap is_handler h.1))
wants_handler code.NoLineTerminator r s m b c high at h = absurd (true≢false (ap is_handler h.1))
wants_handler code.Label r s m b c high at h = absurd (true≢false (ap is_handler h.1))
wants_handler code.DoWhileSemicolon r s m b c high at h = absurd (true≢false (ap is_handler h.1))
wants_handler code.Semicolon r s m b c high at h = absurd (true≢false (ap is_handler h.1))
wants_handler code.NoCatchParameter r s m b c high at h = absurd (true≢false (ap is_handler h.0))
wants_handler code.Test r s m b c high at h = absurd h.0
wants_handler code.Update r s m b c high at h = absurd h.0
wants_handler code.Argument r s m b c high at h = absurd h.0
wants_handler code.ForHead r s m b c high at h = absurd h.0
wants_handler code.Else r s m b c high at h = absurd h.0
wants_handler code.Finally r s m b c high at h = absurd h.0
wants_handler code.ClassHeritage r s m b c high at h = absurd h.0
wants_handler _ r s m b c high at h = absurd (false≢true (ap (of_some is_handler) h.0))

pub data ListPiece : Coded → Type 0 where
  list_of_list : {k : ListKind} → ListPiece (code.List k)
  list_of_head : ListPiece code.ForHead

abbrev is_list : Expected → Bool
is_list (wanted.List which) = true
is_list _ = false

pub wants_list : (p : Coded) (r : Bool) (s m : CursorState) (b c : PartialStatement) (high : ℕ) (which : ListKind) → ExpectedAt p r s m b c high (wanted.List which) → ListPiece p
wants_list (code.List k) r s m b c high which h = list_of_list
wants_list code.ForHead r s m b c high which h = list_of_head
wants_list (code.PunctuatorToken w) r s m b c high which h = absurd (true≢false (ap is_list h.1))
wants_list (code.KeywordToken w) r s m b c high which h = absurd (true≢false (ap is_list h.1))
wants_list code.NoLineTerminator r s m b c high which h = absurd (true≢false (ap is_list h.1))
wants_list code.Label r s m b c high which h = absurd (true≢false (ap is_list h.1))
wants_list code.DoWhileSemicolon r s m b c high which h = absurd (true≢false (ap is_list h.1))
wants_list code.Semicolon r s m b c high which h = absurd (true≢false (ap is_list h.1))
wants_list code.NoCatchParameter r s m b c high which h = absurd (true≢false (ap is_list h.0))
wants_list code.Test r s m b c high which h = absurd h.0
wants_list code.Update r s m b c high which h = absurd h.0
wants_list code.Argument r s m b c high which h = absurd h.0
wants_list code.Else r s m b c high which h = absurd h.0
wants_list code.Finally r s m b c high which h = absurd h.0
wants_list code.Catch r s m b c high which h = absurd h.0
wants_list code.ClassHeritage r s m b c high which h = absurd h.0
wants_list _ r s m b c high which h = absurd (false≢true (ap (of_some is_list) h.0))

-- what wants something wants not nothing
abbrev is_something : Expected → Bool
is_something wanted.Nothing = false
is_something _ = true

pub something : (want : Expected) → is_something want ≡ true → want ≡ wanted.Nothing → ⊥
something want h e = true≢false (sym h ∙ ap is_something e)

-- nothing, and a part that is missing
abbrev pub is_nothing : Expected → Bool
is_nothing wanted.Nothing = true
is_nothing _ = false

abbrev pub is_gap : Expected → Bool
is_gap wanted.Gap = true
is_gap _ = false
