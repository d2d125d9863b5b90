-- What is derived of statements, functions and classes, piece by piece (ECMA-262 clauses 13 and 14).
use Rattle.std.specs.Prelude.{◌≡◌, ◌⊎◌, ℕ, Bool, true, false, not, cond, List, [], ◌∷◌, ◌++◌, nat_le, codes}
use Rattle.tokens.specs.declared.token.TokenClass.TheVariants.{IdentifierName, Punctuator}
use Rattle.tokens.specs.declared.token.Goal.TheVariants.{Div, RegExp}
use Rattle.token_cursor.specs.StatementEnds.{EndsAt}
use Rattle.token_cursor.specs.declared.semicolon.StatementEnd.TheVariants.{DoWhile, AfterExpression}
use Rattle.tree.specs.declared.kind.Form.{Form}
use Rattle.tree.specs.declared.kind.Form.TheVariants as form
use Rattle.tree.specs.declared.kind.Pair.{Pair}
use Rattle.tree.specs.Tree.{Tree, node, Parts, none, part, gap, join}
use Rattle.language.specs.declared.Rank.{Rank}
use Rattle.language.specs.declared.Rank.TheVariants.{Expression, Assignment, LeftHandSide}
use Rattle.language.specs.declared.Start.TheVariants.{Any}
use Rattle.language.specs.declared.Edge.{Edge}
use Rattle.language.specs.Token.{Token}
use Rattle.language.specs.Pieces.{Role, expr, name, statement, item, opening, block, body, handler, head, switch_case, declarator, class_body, bound, Spelling, nothing, listed, pattern_element, parameters, put, sp, sign, Piece}
use Rattle.language.specs.Edges.{edge, last_edge, edge_as_written, ends_in_if}
use Rattle.language.specs.FirstPart.{others}
use Rattle.language.specs.Expressions.{named, class_pieces, methods}
use Rattle.language.specs.Statements.{prologue, lines, declarators, defaults}
use Rattle.language.specs.Promises.{ReadBy}
use Rattle.covers.specs.declared.list.ListKind.{ListKind}
use Rattle.covers.specs.declared.list.ListKind.TheVariants as listed
use Rattle.parser_tables.specs.declared.functions_and_classes.FunctionOrClass.{FunctionOrClass}
use Rattle.parser_tables.specs.declared.functions_and_classes.FunctionOrClass.TheVariants as closure
use Rattle.parser_tables.specs.declared.symbol_lists.PartialStatement.{PartialStatement}
use Rattle.parser_tables.specs.declared.statements.StatementContext.{StatementContext}
use Rattle.recursive_descent.specs.Soundness.{RunsIn, anywhere, SpelledAs}
use Rattle.recursive_descent.specs.SoundnessOfLists.{part_alone}
use Rattle.parser_tables.specs.StatementSymbols as Piece
use Rattle.parser_tables.specs.StatementSymbols.{function_or_class_kind, function_or_class_flags}
use Rattle.token_cursor.specs.Seen.{ReadsHere, Sees, Misses, SeesBy, MissesBy}
use Rattle.parser_tables.specs.Tests.{is_each}
use Rattle.token_cursor.specs.SourceText.{SourceText, SeenNext, behind_in}
use Rattle.recursive_descent.specs.Spelled.{SpellsIn}

-- the position of a statement
abbrev pub context_role : StatementContext → Role
context_role c = cond c.is_item (cond c.is_prologue (opening c.returns) (item c.returns)) (statement c.returns)

-- a statement; behind one that ends in an `if` without `else` stands no `else` (13.6)
pub record StatementAt (text : SourceText) (a : Role) (n : Tree) (o : ℕ) (s e : Token) (P : List Pair) : Type 0 where
  pub spelled : SpellsIn text o a n s e P
  pub dangles : ends_in_if n ≡ true → Misses text IdentifierName (codes "else") e

-- the items of a script, a body, a block or a case: behind directives, or such
abbrev pub StatementsAt : SourceText → StatementContext → Parts → ℕ → Token → Token → List Pair → Type 0
StatementsAt text c ps o s e P = c.is_item ≡ true → RunsIn text o (anywhere (prologue c.returns c.is_prologue [] [] ps)) ps s e P

-- of one way or none, the pieces
abbrev pub pieces_of : List Spelling → List Piece
pieces_of [] = nothing
pieces_of (x ∷ xs) = x.pieces

abbrev pub after_word : List Piece → List Piece
after_word (q ∷ r ∷ qs) = qs
after_word qs = nothing

-- what stands behind `function` or `class`, and the function of a method from its `(` on
abbrev pub method_form : Form → Form
method_form form.Get = form.Get
method_form form.Set = form.Set
method_form _ = form.Method

-- a function behind its words, of whatever form
abbrev pub behind_words : Parts → List Piece
behind_words ps = (sp ∷ named ps) ++ sign "(" ∷ parameters (sign ")" ∷ sp ∷ put body ∷ []) (others ps)

abbrev pub closure_pieces : FunctionOrClass → Parts → List Piece
closure_pieces (closure.Function x) ps = behind_words ps
closure_pieces (closure.FunctionDeclaration x) ps = behind_words ps
closure_pieces (closure.DefaultFunction x) ps = behind_words ps
closure_pieces (closure.Method x) ps = pieces_of (methods (method_form x) ps)
closure_pieces closure.Class ps = after_word (class_pieces ps)
closure_pieces closure.ClassDeclaration ps = after_word (class_pieces ps)
closure_pieces closure.DefaultClass ps = after_word (class_pieces ps)

-- a declaration has its name
abbrev pub begins_with_part : Parts → Bool
begins_with_part (part n ps) = true
begins_with_part _ = false

abbrev pub is_declared : FunctionOrClass → Bool
is_declared (closure.FunctionDeclaration x) = true
is_declared closure.ClassDeclaration = true
is_declared _ = false

pub record ClosureAt (text : SourceText) (c : FunctionOrClass) (from : ℕ) (n : Tree) (o : ℕ) (s e : Token) (P : List Pair) : Type 0 where
  pub parts : Parts
  pub tree : n ≡ node (function_or_class_kind c) [] (function_or_class_flags c) from e.stop parts
  pub named : is_declared c ≡ true → begins_with_part parts ≡ true
  pub runs : RunsIn text o (anywhere (closure_pieces c parts)) parts s e P

-- nothing is added, and the last right edge stays
abbrev pub IsToken : Edge → Edge → Parts → List Pair → Type 0
IsToken x y ps P = (y ≡ x) × (ps ≡ none) × (P ≡ [])

-- a part is missing
abbrev pub IsGap : Token → Token → Edge → Edge → Parts → List Pair → Type 0
IsGap s e x y ps P = (e ≡ s) × (y ≡ x) × (ps ≡ gap none) × (P ≡ [])

-- one more part at a position; an expression's right edge is the last then
pub record PutAt (text : SourceText) (o : ℕ) (a : Role) (s e : Token) (ps : Parts) (P : List Pair) : Type 0 where
  pub put : Tree
  pub parts : ps ≡ part put none
  pub spelled : SpellsIn text o a put s e P

pub record ExpressionPut (text : SourceText) (o : ℕ) (y : Rank) (i : Bool) (s e : Token) (x : Edge) (ps : Parts) (P : List Pair) : Type 0 where
  pub put : Tree
  pub parts : ps ≡ part put none
  pub right : x ≡ edge_as_written (edge put) e
  pub spelled : SpellsIn text o (expr y i Any) put s e P

-- a name or a pattern
pub record TargetPut (text : SourceText) (o : ℕ) (b : Bool) (s e : Token) (ps : Parts) (P : List Pair) : Type 0 where
  pub put : Tree
  pub parts : ps ≡ part put none
  pub target : SpelledAs (bound b) text o put s e P

pub record StatementPut (text : SourceText) (r : Bool) (o : ℕ) (s e : Token) (ps : Parts) (P : List Pair) : Type 0 where
  pub put : Tree
  pub parts : ps ≡ part put none
  pub statement : StatementAt text (statement r) put o s e P

-- a word, and one more part behind it
abbrev pub AfterWord : SourceText → List ℕ → Token → (Token → Type 0) → Type 0
AfterWord text w s Is = (m : Token) × ReadsHere text IdentifierName w s m × Is m

-- A list that is a piece, with its brackets. No other list is one, and declarators without In stand in a head alone.
abbrev pub ListPut : SourceText → ℕ → ListKind → Token → Token → Edge → Parts → List Pair → Type 0
ListPut text o (listed.Declarators true) s e y ps P = RunsIn text o (anywhere (declarators (declarator true true) ps)) ps s e P × (y ≡ edge_as_written (last_edge ps) e)
ListPut text o (listed.Cases r) s e y ps P = RunsIn text o (anywhere (sign "{" ∷ lines (switch_case r) ps ++ sign "}" ∷ [])) ps s e P × (nat_le (defaults ps) 1 ≡ true)
ListPut text o listed.Members s e y ps P = PutAt text o class_body s e ps P
ListPut text o listed.NoParameter s e y ps P = RunsIn text o (anywhere (sign "(" ∷ sign ")" ∷ [])) none s e P × (ps ≡ none)
ListPut text o listed.OneParameter s e y ps P = RunsIn text o (anywhere (sign "(" ∷ part_alone ps ++ sign ")" ∷ [])) ps s e P
ListPut text o listed.Parameters s e y ps P = RunsIn text o (anywhere (sign "(" ∷ listed (pattern_element true) ps ++ sign ")" ∷ [])) ps s e P
ListPut text o _ s e y ps P = Unit {0}

-- whether `in` or `of` stands ahead
abbrev pub EachAt : SourceText → Bool → Token → Type 0
EachAt text true e = SeesBy text Div is_each e
EachAt text false e = MissesBy text Div is_each e

-- what stands first in the head of a `for` (13.7): a declaration, an expression without In before `;`, or before `in` and `of` what is assigned to
pub data HeadPut (text : SourceText) (o : ℕ) (s e : Token) (ps : Parts) (P : List Pair) : Type 0 where
  a_declaration : (each : Bool) → EachAt text each e → PutAt text o (head (not each)) s e ps P → HeadPut text o s e ps P
  an_expression : MissesBy text Div is_each e → PutAt text o (expr Expression false Any) s e ps P → HeadPut text o s e ps P
  a_target : SeesBy text Div is_each e → TargetPut text o false s e ps P → HeadPut text o s e ps P

-- What a piece spells from s to e, where x is the right edge of the last part before it and y the one behind it.
abbrev pub PieceAt : SourceText → Bool → ℕ → Piece.Piece → Token → Token → Edge → Edge → Parts → List Pair → Type 0
PieceAt text r o (Piece.mark w) s e x y ps P = ReadsHere text Punctuator w s e × IsToken x y ps P
PieceAt text r o (Piece.word w) s e x y ps P = ReadsHere text IdentifierName w s e × IsToken x y ps P
PieceAt text r o Piece.unbroken s e x y ps P = ((t m : Token) → ReadBy Token (SeenNext text) (behind_in text) RegExp s t m → t.after_break ≡ false) × (e ≡ s) × IsToken x y ps P
PieceAt text r o Piece.label s e x y ps P = (((t m : Token) → ReadBy Token (SeenNext text) (behind_in text) RegExp s t m → t.after_break ≡ false) × PutAt text o name s e ps P × (y ≡ x)) ⊎ IsGap s e x y ps P
PieceAt text r o Piece.end_of_do s e x y ps P = EndsAt text DoWhile s e × IsToken x y ps P
PieceAt text r o Piece.end s e x y ps P = EndsAt text (AfterExpression x) s e × IsToken x y ps P
PieceAt text r o Piece.expression s e x y ps P = ExpressionPut text o Expression true s e y ps P
PieceAt text r o Piece.assignment s e x y ps P = ExpressionPut text o Assignment true s e y ps P
PieceAt text r o Piece.test s e x y ps P = ExpressionPut text o Expression true s e y ps P ⊎ IsGap s e x y ps P
PieceAt text r o Piece.update s e x y ps P = ExpressionPut text o Expression true s e y ps P ⊎ IsGap s e x y ps P
PieceAt text r o Piece.argument s e x y ps P = (((t m : Token) → ReadBy Token (SeenNext text) (behind_in text) RegExp s t m → t.after_break ≡ false) × ExpressionPut text o Expression true s e y ps P) ⊎ IsGap s e x y ps P
PieceAt text r o Piece.heritage s e x y ps P = AfterWord text (codes "extends") s (λ m. ExpressionPut text o LeftHandSide true m e y ps P) ⊎ IsGap s e x y ps P
PieceAt text r o Piece.binding s e x y ps P = TargetPut text o true s e ps P
PieceAt text r o Piece.statement s e x y ps P = StatementPut text r o s e ps P
PieceAt text r o Piece.else_part s e x y ps P = AfterWord text (codes "else") s (λ m. StatementPut text r o m e ps P) ⊎ (IsGap s e x y ps P × Misses text IdentifierName (codes "else") s)
PieceAt text r o Piece.block s e x y ps P = PutAt text o (block r) s e ps P
PieceAt text r o Piece.finally_part s e x y ps P = AfterWord text (codes "finally") s (λ m. PutAt text o (block r) m e ps P) ⊎ (IsGap s e x y ps P × Misses text IdentifierName (codes "finally") s)
PieceAt text r o Piece.handler s e x y ps P = PutAt text o (handler r) s e ps P ⊎ (IsGap s e x y ps P × Sees text IdentifierName (codes "finally") s)
PieceAt text r o Piece.body s e x y ps P = PutAt text o body s e ps P × (e.text ≡ codes "}")
PieceAt text r o Piece.items s e x y ps P = RunsIn text o (anywhere (prologue r false [] [] ps)) ps s e P
PieceAt text r o Piece.consequent s e x y ps P = RunsIn text o (anywhere (prologue r false [] [] ps)) ps s e P
PieceAt text r o (Piece.list l) s e x y ps P = ListPut text o l s e y ps P
PieceAt text r o Piece.head s e x y ps P = HeadPut text o s e ps P ⊎ (IsGap s e x y ps P × Sees text Punctuator (codes ";") s)
PieceAt text r o Piece.missing s e x y ps P = IsGap s e x y ps P

-- the first piece, and the others behind it
pub record OneMore (First Others : Token → Edge → Parts → List Pair → Type 0) (ps : Parts) (P : List Pair) : Type 0 where
  pub mid : Token
  pub right : Edge
  pub put : Parts
  pub rest : Parts
  pub put_pairs : List Pair
  pub more_pairs : List Pair
  pub first : First mid right put put_pairs
  pub others : Others mid right rest more_pairs
  pub parts : ps ≡ join put rest
  pub pairs : P ≡ put_pairs ++ more_pairs

-- pieces, one behind the other
abbrev pub PiecesAt : SourceText → Bool → ℕ → List Piece.Piece → Token → Token → Edge → Edge → Parts → List Pair → Type 0
PiecesAt text r o [] s e x z ps P = (e ≡ s) × (z ≡ x) × (ps ≡ none) × (P ≡ [])
PiecesAt text r o (p ∷ qs) s e x z ps P = OneMore (λ m y put Q. PieceAt text r o p s m x y put Q) (λ m y rest Q. PiecesAt text r o qs m e y z rest Q) ps P

-- the parts that they add to those that were read
pub record BuiltAt (text : SourceText) (r : Bool) (pieces : List Piece.Piece) (b c : PartialStatement) (o : ℕ) (s e : Token) (P : List Pair) : Type 0 where
  pub added : Parts
  pub nodes : c.nodes ≡ join b.nodes added
  pub read : PiecesAt text r o pieces s e b.edge c.edge added P
