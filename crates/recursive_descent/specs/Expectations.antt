-- What a piece wants behind its own tokens.
use Rattle.std.specs.Prelude.{◌≡◌, ℕ, ◌≤◌, ◌<◌, ◌⊎◌, Bool, true, false, List, Option, Some, None, codes}
use Rattle.source_text.specs.declared.fault.Fault.{Fault}
use Rattle.source_text.specs.declared.fault.Fault.TheVariants.{Syntax, TooDeep, OutOfMemory}
use Rattle.tokens.specs.declared.token.TokenClass.TheVariants.{IdentifierName, Punctuator}
use Rattle.tokens.specs.declared.token.Token.{Token as Scanned}
use Rattle.tokens.specs.Scanned.{token_of}
use Rattle.token_cursor.specs.CursorState.{CursorState}
use Rattle.language.specs.declared.Rank.TheVariants.{Expression, Assignment, LeftHandSide}
use Rattle.language.specs.declared.Start.TheVariants.{Any}
use Rattle.tokens.specs.declared.token.Goal.TheVariants.{RegExp}
use Rattle.token_cursor.specs.StatementEnds.{IsEnd, EndsAt}
use Rattle.token_cursor.specs.declared.semicolon.StatementEnd.TheVariants.{DoWhile, AfterExpression}
use Rattle.tree.specs.declared.kind.Kind.TheVariants.{Identifier}
use Rattle.tree.specs.Tree.{push, push_gap}
use Rattle.language.specs.declared.Edge.{Edge}
use Rattle.language.specs.Promises.{ReadBy}
use Rattle.language.specs.Token.{Token, as_read}
use Rattle.covers.specs.declared.list.ListKind.TheVariants.{Declarators}
use Rattle.parser_tables.specs.declared.expression_context.ExpressionContext.{ExpressionContext}
use Rattle.parser_tables.specs.declared.statements.StatementListEnd.TheVariants as until
use Rattle.parser_tables.specs.declared.symbol_lists.PartialStatement.{PartialStatement}
use Rattle.parser_tables.specs.declared.symbol_lists.Symbol.{Symbol}
use Rattle.parser_tables.specs.declared.symbol_lists.Symbol.TheVariants as piece
use Rattle.recursive_descent.specs.declared.statement_symbols.Expected.{Expected}
use Rattle.recursive_descent.specs.declared.statement_symbols.Expected.TheVariants as wanted
use Rattle.token_cursor.specs.CursorState.{IsPlaceHere}
use Rattle.token_cursor.specs.Seen.{ReadsHere, Sees, Misses, NameHere, NoName, SeesBy, MissesBy, declares, is_free_name}
use Rattle.parser_tables.specs.StatementNodes.{item_context}
use Rattle.parser_tables.specs.Tests.{ends_word}
use Rattle.parser_tables.specs.Tokens.{single_node}
use Rattle.token_cursor.specs.SourceText.{SeenNext, behind_in}

-- an expression that may be missing
abbrev pub expected_if : Bool → ExpressionContext → Expected
expected_if true p = wanted.Expression p
expected_if false p = wanted.Gap

-- `else` and a statement, or nothing (ECMA-262 13.6)
abbrev pub ElseAt : CursorState → CursorState → Expected → Type 0
ElseAt s e wanted.Statement = ReadsHere s.text IdentifierName (codes "else") s.last e.last
ElseAt s e wanted.Gap = Misses s.text IdentifierName (codes "else") s.last × (e.last ≡ s.last)
ElseAt s e _ = ⊥

-- `finally` and a block, or nothing (13.15)
abbrev pub FinallyAt : Bool → CursorState → CursorState → Expected → Type 0
FinallyAt returns s e (wanted.Block c) = ReadsHere s.text IdentifierName (codes "finally") s.last e.last × (c ≡ item_context returns)
FinallyAt returns s e wanted.Gap = Misses s.text IdentifierName (codes "finally") s.last × (e.last ≡ s.last)
FinallyAt returns s e _ = ⊥

-- `catch` and a handler, from the place of the word on, or nothing before `finally` (13.15)
abbrev pub CatchAt : CursorState → CursorState → Expected → Type 0
CatchAt s e (wanted.Handler at) = ReadsHere s.text IdentifierName (codes "catch") s.last e.last × IsPlaceHere s at
CatchAt s e wanted.Gap = Misses s.text IdentifierName (codes "catch") s.last × Sees s.text IdentifierName (codes "finally") s.last × (e.last ≡ s.last)
CatchAt s e _ = ⊥

abbrev pub NoCatch : CursorState → Fault → Type 0
NoCatch s (Syntax at) = Misses s.text IdentifierName (codes "catch") s.last × Misses s.text IdentifierName (codes "finally") s.last
NoCatch s _ = ⊥

-- `extends` and a superclass, or nothing (14.6)
abbrev pub HeritageAt : CursorState → CursorState → Expected → Type 0
HeritageAt s e (wanted.Expression p) = ReadsHere s.text IdentifierName (codes "extends") s.last e.last × (p ≡ record { rank = LeftHandSide; has_in = true; start = Any })
HeritageAt s e wanted.Gap = Misses s.text IdentifierName (codes "extends") s.last × (e.last ≡ s.last)
HeritageAt s e _ = ⊥

-- what stands first in the head of a `for` (13.7): nothing before `;`, declarators behind the word that declares, or an expression without In
abbrev pub HeadAt : CursorState → CursorState → Expected → Option Scanned → Type 0
HeadAt s e wanted.Gap word = Sees s.text Punctuator (codes ";") s.last × (e.last ≡ s.last)
HeadAt s e (wanted.List (Declarators false)) (Some t) = NameHere s.text declares s.last e.last × (e.last ≡ as_read (token_of t))
HeadAt s e (wanted.Expression p) None = Misses s.text Punctuator (codes ";") s.last × NoName s.text declares s.last × (p ≡ record { rank = Expression; has_in = false; start = Any }) × (e.last ≡ s.last)
HeadAt s e _ _ = ⊥

-- a line break stands before all that is read there; before nothing that is read before an operand
abbrev pub IsBroken : CursorState → Type 0
IsBroken s = (t e : Token) → SeenNext s.text s.last t e → t.after_break ≡ true

abbrev pub IsUnbroken : CursorState → Type 0
IsUnbroken s = (t e : Token) → ReadBy Token (SeenNext s.text) (behind_in s.text) RegExp s.last t e → t.after_break ≡ false

-- a label on the same line, or nothing (13.8, 13.9)
abbrev pub LabelAt : CursorState → CursorState → PartialStatement → PartialStatement → ℕ → Type 0
LabelAt s e b c high =
    (NameHere s.text is_free_name s.last e.last × IsUnbroken s × (c ≡ record b { nodes = push b.nodes (single_node Identifier e.last) }) × (1 ≤ high))
    ⊎ ((NoName s.text is_free_name s.last ⊎ IsBroken s) × (e.last ≡ s.last) × (c ≡ record b { nodes = push_gap b.nodes }))

abbrev pub NotLabel : CursorState → ℕ → Fault → Type 0
NotLabel s high TooDeep = (high < 1) × ((t : Token) × NameHere s.text is_free_name s.last t) × IsUnbroken s
NotLabel s high OutOfMemory = Unit {0}
NotLabel s high _ = ⊥

-- what a piece that is tokens alone passes
abbrev pub TokensAt : Symbol → CursorState → CursorState → PartialStatement → PartialStatement → ℕ → Type 0
TokensAt (piece.PunctuatorToken w) s e b c high = ReadsHere s.text Punctuator w.now s.last e.last × (c ≡ b)
TokensAt (piece.KeywordToken w) s e b c high = ReadsHere s.text IdentifierName w.now s.last e.last × (c ≡ b)
TokensAt piece.DoWhileSemicolon s e b c high = IsEnd s.text DoWhile s.last e.last × (c ≡ b)
TokensAt piece.Semicolon s e b c high = IsEnd s.text (AfterExpression b.edge) s.last e.last × (c ≡ b)
TokensAt piece.Label s e b c high = LabelAt s e b c high
TokensAt piece.NoLineTerminator s e b c high = IsUnbroken s × (e.last ≡ s.last) × (c ≡ b)
TokensAt _ s e b c high = (e.last ≡ s.last) × (c ≡ b)

abbrev pub NotTokens : Symbol → CursorState → Edge → ℕ → Fault → Type 0
NotTokens (piece.PunctuatorToken w) s x high (Syntax at) = Misses s.text Punctuator w.now s.last
NotTokens (piece.KeywordToken w) s x high (Syntax at) = Misses s.text IdentifierName w.now s.last
NotTokens piece.DoWhileSemicolon s x high (Syntax at) = (e : Token) → EndsAt s.text DoWhile s.last e → ⊥
NotTokens piece.Semicolon s x high (Syntax at) = (e : Token) → EndsAt s.text (AfterExpression x) s.last e → ⊥
NotTokens piece.NoLineTerminator s x high (Syntax at) = IsBroken s
NotTokens piece.Label s x high fault = NotLabel s high fault
NotTokens _ s x high fault = ⊥

-- what a piece with one of these words before it wants
abbrev pub WordedAt : Symbol → Bool → CursorState → CursorState → Expected → Type 0
WordedAt piece.Else returns s e w = ElseAt s e w
WordedAt piece.Finally returns s e w = FinallyAt returns s e w
WordedAt piece.Catch returns s e w = CatchAt s e w
WordedAt piece.ClassHeritage returns s e w = HeritageAt s e w
WordedAt _ returns s e w = (w ≡ wanted.Gap) × (e.last ≡ s.last)

abbrev pub NotWorded : Symbol → CursorState → Fault → Type 0
NotWorded piece.Catch s fault = NoCatch s fault
NotWorded _ s fault = ⊥

abbrev pub expression_position : ExpressionContext
expression_position = record { rank = Expression; has_in = true; start = Any }

-- what a piece wants whatever stands ahead
abbrev pub expected_always : Symbol → Bool → Option Expected
expected_always piece.Expression returns = Some (wanted.Expression expression_position)
expected_always piece.Assignment returns = Some (wanted.Expression (record { rank = Assignment; has_in = true; start = Any }))
expected_always piece.Binding returns = Some wanted.Binding
expected_always piece.Statement returns = Some wanted.Statement
expected_always piece.Block returns = Some (wanted.Block (item_context returns))
expected_always piece.FunctionBody returns = Some (wanted.Block (record { is_item = true; is_prologue = true; returns = true }))
expected_always piece.StatementList returns = Some (wanted.Items until.ClosingBrace)
expected_always piece.CaseStatements returns = Some (wanted.Items until.NextCase)
expected_always (piece.List l) returns = Some (wanted.List l)
expected_always _ returns = None

-- an expression, or nothing before a punctuator (13.7)
abbrev pub UnlessAt : List ℕ → CursorState → Expected → Type 0
UnlessAt mark s (wanted.Expression p) = Misses s.text Punctuator mark s.last × (p ≡ expression_position)
UnlessAt mark s wanted.Gap = Sees s.text Punctuator mark s.last
UnlessAt mark s _ = ⊥

-- an expression on the same line, or nothing where the statement ends (13.10)
abbrev pub ArgumentAt : CursorState → Expected → Type 0
ArgumentAt s (wanted.Expression p) = MissesBy s.text RegExp ends_word s.last × (p ≡ expression_position)
ArgumentAt s wanted.Gap = SeesBy s.text RegExp ends_word s.last
ArgumentAt s _ = ⊥

-- pieces that pass nothing and add nothing
abbrev pub IsStill : CursorState → CursorState → PartialStatement → PartialStatement → Type 0
IsStill s e b c = (e.last ≡ s.last) × (c ≡ b)

-- what a piece wants behind its own tokens, by what stands ahead
abbrev pub ExpectedAt : Symbol → Bool → CursorState → CursorState → PartialStatement → PartialStatement → ℕ → Expected → Type 0
ExpectedAt (piece.PunctuatorToken w) returns s e b c high want = TokensAt (piece.PunctuatorToken w) s e b c high × (want ≡ wanted.Nothing)
ExpectedAt (piece.KeywordToken w) returns s e b c high want = TokensAt (piece.KeywordToken w) s e b c high × (want ≡ wanted.Nothing)
ExpectedAt piece.NoLineTerminator returns s e b c high want = TokensAt piece.NoLineTerminator s e b c high × (want ≡ wanted.Nothing)
ExpectedAt piece.Label returns s e b c high want = TokensAt piece.Label s e b c high × (want ≡ wanted.Nothing)
ExpectedAt piece.DoWhileSemicolon returns s e b c high want = TokensAt piece.DoWhileSemicolon s e b c high × (want ≡ wanted.Nothing)
ExpectedAt piece.Semicolon returns s e b c high want = TokensAt piece.Semicolon s e b c high × (want ≡ wanted.Nothing)
ExpectedAt piece.Test returns s e b c high want = UnlessAt (codes ";") s want × IsStill s e b c
ExpectedAt piece.Update returns s e b c high want = UnlessAt (codes ")") s want × IsStill s e b c
ExpectedAt piece.Argument returns s e b c high want = ArgumentAt s want × IsStill s e b c
ExpectedAt piece.ForHead returns s e b c high want = HeadAt s e want c.word × (c ≡ record b { word = c.word })
ExpectedAt piece.Else returns s e b c high want = ElseAt s e want × (c ≡ b)
ExpectedAt piece.Finally returns s e b c high want = FinallyAt returns s e want × (c ≡ b)
ExpectedAt piece.Catch returns s e b c high want = CatchAt s e want × (c ≡ b)
ExpectedAt piece.ClassHeritage returns s e b c high want = HeritageAt s e want × (c ≡ b)
ExpectedAt piece.NoCatchParameter returns s e b c high want = (want ≡ wanted.Gap) × IsStill s e b c
ExpectedAt what returns s e b c high want = (expected_always what returns ≡ Some want) × IsStill s e b c

abbrev pub NotExpected : Symbol → CursorState → Edge → ℕ → Fault → Type 0
NotExpected piece.Catch s x high fault = NoCatch s fault
NotExpected what s x high fault = NotTokens what s x high fault
