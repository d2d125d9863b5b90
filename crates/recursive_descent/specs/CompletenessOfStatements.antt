-- What is given of statements, functions and classes, piece by piece (ECMA-262 clauses 13 and 14).
use Rattle.std.specs.Prelude.{◌≡◌, ◌⊎◌, ℕ, Bool, true, false, not, ◌&&◌, ◌||◌, List, [], ◌∷◌, ◌++◌, nat_le, codes}
use Rattle.tokens.specs.declared.token.TokenClass.TheVariants.{IdentifierName, Punctuator}
use Rattle.tokens.specs.declared.token.Goal.TheVariants.{Div, RegExp}
use Rattle.token_cursor.specs.StatementEnds.{EndsAt}
use Rattle.token_cursor.specs.declared.semicolon.StatementEnd.TheVariants.{DoWhile, AfterExpression}
use Rattle.tree.specs.declared.kind.Pair.{Pair}
use Rattle.tree.specs.Tree.{Tree, Parts, none, part}
use Rattle.language.specs.declared.Rank.{Rank}
use Rattle.language.specs.declared.Rank.TheVariants.{Expression, Assignment, LeftHandSide}
use Rattle.language.specs.declared.Start.TheVariants.{Any}
use Rattle.language.specs.declared.Edge.{Edge}
use Rattle.language.specs.Token.{Token}
use Rattle.language.specs.Pieces.{expr, name, statement, block, body, handler, head, switch_case, declarator, class_body, listed, pattern_element, sign}
use Rattle.language.specs.Edges.{edge, edge_as_written, last_edge}
use Rattle.language.specs.Statements.{prologue, lines, declarators, defaults}
use Rattle.language.specs.Promises.{ReadBy, Apart}
use Rattle.covers.specs.declared.list.ListKind.{ListKind}
use Rattle.covers.specs.declared.list.ListKind.TheVariants as listed
use Rattle.parser_tables.specs.declared.statements.StatementListEnd.{StatementListEnd}
use Rattle.parser_tables.specs.declared.statements.StatementListEnd.TheVariants as until
use Rattle.recursive_descent.specs.Soundness.{RunsIn, anywhere}
use Rattle.recursive_descent.specs.SoundnessOfLists.{part_alone}
use Rattle.recursive_descent.specs.SoundnessOfStatements.{IsToken, IsGap, PutAt, TargetPut, AfterWord, EachAt, OneMore}
use Rattle.recursive_descent.specs.Completeness.{StopsIn, FinishedIn}
use Rattle.recursive_descent.specs.CompletenessOfLists.{LastDeclared}
use Rattle.parser_tables.specs.StatementSymbols as Piece
use Rattle.token_cursor.specs.Seen.{ReadsHere, Sees, Misses, SeesBy, MissesBy, NoName, is_free_name}
use Rattle.parser_tables.specs.Tests.{ends, ends_word, is_each}
use Rattle.token_cursor.specs.SourceText.{SourceText, SeenNext, behind_in}
use Rattle.recursive_descent.specs.Spelled.{SpellsIn}

-- an expression that can't go on
pub record ExpressionGiven (text : SourceText) (o : ℕ) (y : Rank) (i : Bool) (s e : Token) (x : Edge) (ps : Parts) (P : List Pair) : Type 0 where
  pub put : Tree
  pub parts : ps ≡ part put none
  pub right : x ≡ edge_as_written (edge put) e
  pub spelled : SpellsIn text o (expr y i Any) put s e P
  pub stopped : StopsIn text y i put e

-- a statement that is followed by what may follow it
pub record StatementGiven (text : SourceText) (r : Bool) (o : ℕ) (s e : Token) (ps : Parts) (P : List Pair) : Type 0 where
  pub put : Tree
  pub parts : ps ≡ part put none
  pub spelled : SpellsIn text o (statement r) put s e P
  pub finished : FinishedIn text put e

-- what is read before an operand stands on the same line, or behind a line break
abbrev pub OnLine : SourceText → Token → Type 0
OnLine text s = (t m : Token) → ReadBy Token (SeenNext text) (behind_in text) RegExp s t m → t.after_break ≡ false

abbrev pub Broken : SourceText → Token → Type 0
Broken text s = (t m : Token) → SeenNext text s t m → t.after_break ≡ true

-- a token that an operand may begin with stands there, on the same line
abbrev pub is_onward : Token → Bool
is_onward t = not t.after_break

-- the items of a block, a body or a case up to where they end
abbrev pub ItemsGiven : SourceText → StatementListEnd → Bool → Bool → ℕ → Parts → Token → Token → List Pair → Type 0
ItemsGiven text u r b o ps s e P = RunsIn text o (anywhere (prologue r b [] [] ps)) ps s e P × SeesBy text Div (ends u) e

-- a list that is a piece, with its brackets; declarators without brackets can't go on
abbrev pub ListPieceGiven : SourceText → ℕ → ListKind → Token → Token → Edge → Edge → Parts → List Pair → Type 0
ListPieceGiven text o (listed.Declarators true) s e x y ps P =
    RunsIn text o (anywhere (declarators (declarator true true) ps)) ps s e P × LastDeclared text true ps e × Misses text Punctuator (codes ",") e × (y ≡ edge_as_written (last_edge ps) e)
ListPieceGiven text o (listed.Cases r) s e x y ps P = RunsIn text o (anywhere (sign "{" ∷ lines (switch_case r) ps ++ sign "}" ∷ [])) ps s e P × (nat_le (defaults ps) 1 ≡ true)
ListPieceGiven text o listed.Members s e x y ps P = PutAt text o class_body s e ps P
ListPieceGiven text o listed.NoParameter s e x y ps P = RunsIn text o (anywhere (sign "(" ∷ sign ")" ∷ [])) none s e P × (ps ≡ none)
ListPieceGiven text o listed.OneParameter s e x y ps P = RunsIn text o (anywhere (sign "(" ∷ part_alone ps ++ sign ")" ∷ [])) ps s e P
ListPieceGiven text o listed.Parameters s e x y ps P = RunsIn text o (anywhere (sign "(" ∷ listed (pattern_element true) ps ++ sign ")" ∷ [])) ps s e P
ListPieceGiven text o _ s e x y ps P = ⊥

-- what stands first in the head of a `for` (13.7)
pub data HeadGiven (text : SourceText) (o : ℕ) (s e : Token) (ps : Parts) (P : List Pair) : Type 0 where
  a_declaration : (each : Bool) → EachAt text each e → (each ≡ false → Sees text Punctuator (codes ";") e) → (each ≡ true → Apart Token (SeenNext text) (behind_in text) e) → PutAt text o (head (not each)) s e ps P → HeadGiven text o s e ps P
  an_expression : {x : Edge} → Sees text Punctuator (codes ";") e → ExpressionGiven text o Expression false s e x ps P → HeadGiven text o s e ps P
  a_target : SeesBy text Div is_each e → Apart Token (SeenNext text) (behind_in text) e → TargetPut text o false s e ps P → HeadGiven text o s e ps P

-- What is given of a piece from s to e, where x is the right edge of the last part before it and y the one behind it, if that is asked for.
abbrev pub PieceGiven : SourceText → Bool → ℕ → Piece.Piece → Token → Token → Edge → Edge → Parts → List Pair → Type 0
PieceGiven text r o (Piece.mark w) s e x y ps P = ReadsHere text Punctuator w s e × IsToken x y ps P
PieceGiven text r o (Piece.word w) s e x y ps P = ReadsHere text IdentifierName w s e × IsToken x y ps P
PieceGiven text r o Piece.unbroken s e x y ps P = SeesBy text RegExp is_onward s × (e ≡ s) × IsToken x y ps P
PieceGiven text r o Piece.label s e x y ps P = (OnLine text s × PutAt text o name s e ps P × (y ≡ x)) ⊎ ((NoName text is_free_name s ⊎ Broken text s) × IsGap s e x y ps P)
PieceGiven text r o Piece.end_of_do s e x y ps P = EndsAt text DoWhile s e × IsToken x y ps P
PieceGiven text r o Piece.end s e x y ps P = EndsAt text (AfterExpression x) s e × IsToken x y ps P
PieceGiven text r o Piece.expression s e x y ps P = ExpressionGiven text o Expression true s e y ps P
PieceGiven text r o Piece.assignment s e x y ps P = ExpressionGiven text o Assignment true s e y ps P
PieceGiven text r o Piece.test s e x y ps P = (ExpressionGiven text o Expression true s e y ps P × Misses text Punctuator (codes ";") s) ⊎ (IsGap s e x y ps P × Sees text Punctuator (codes ";") s)
PieceGiven text r o Piece.update s e x y ps P = (ExpressionGiven text o Expression true s e y ps P × Misses text Punctuator (codes ")") s) ⊎ (IsGap s e x y ps P × Sees text Punctuator (codes ")") s)
PieceGiven text r o Piece.argument s e x y ps P = (MissesBy text RegExp ends_word s × ExpressionGiven text o Expression true s e y ps P) ⊎ (IsGap s e x y ps P × SeesBy text RegExp ends_word s)
PieceGiven text r o Piece.heritage s e x y ps P = AfterWord text (codes "extends") s (λ m. ExpressionGiven text o LeftHandSide true m e y ps P) ⊎ (IsGap s e x y ps P × Misses text IdentifierName (codes "extends") s)
PieceGiven text r o Piece.binding s e x y ps P = TargetPut text o true s e ps P × Apart Token (SeenNext text) (behind_in text) e
PieceGiven text r o Piece.statement s e x y ps P = StatementGiven text r o s e ps P
PieceGiven text r o Piece.else_part s e x y ps P = AfterWord text (codes "else") s (λ m. StatementGiven text r o m e ps P) ⊎ (IsGap s e x y ps P × Misses text IdentifierName (codes "else") s)
PieceGiven text r o Piece.block s e x y ps P = PutAt text o (block r) s e ps P
PieceGiven text r o Piece.finally_part s e x y ps P = AfterWord text (codes "finally") s (λ m. PutAt text o (block r) m e ps P) ⊎ (IsGap s e x y ps P × Misses text IdentifierName (codes "finally") s)
PieceGiven text r o Piece.handler s e x y ps P = PutAt text o (handler r) s e ps P ⊎ (IsGap s e x y ps P × Sees text IdentifierName (codes "finally") s)
PieceGiven text r o Piece.body s e x y ps P = PutAt text o body s e ps P
PieceGiven text r o Piece.items s e x y ps P = ItemsGiven text until.ClosingBrace r false o ps s e P
PieceGiven text r o Piece.consequent s e x y ps P = ItemsGiven text until.NextCase r false o ps s e P
PieceGiven text r o (Piece.list l) s e x y ps P = ListPieceGiven text o l s e x y ps P
PieceGiven text r o Piece.head s e x y ps P = HeadGiven text o s e ps P ⊎ (IsGap s e x y ps P × Sees text Punctuator (codes ";") s)
PieceGiven text r o Piece.missing s e x y ps P = IsGap s e x y ps P

-- pieces, one behind the other
abbrev pub PiecesGiven : SourceText → Bool → ℕ → List Piece.Piece → Token → Token → Edge → Edge → Parts → List Pair → Type 0
PiecesGiven text r o [] s e x z ps P = (e ≡ s) × (z ≡ x) × (ps ≡ none) × (P ≡ [])
PiecesGiven text r o (p ∷ qs) s e x z ps P = OneMore (λ m y put Q. PieceGiven text r o p s m x y put Q) (λ m y rest Q. PiecesGiven text r o qs m e y z rest Q) ps P

-- the last right edge is as it was given behind these pieces, and before it is asked for
abbrev pub knows_edge : Piece.Piece → Bool
knows_edge Piece.binding = false
knows_edge Piece.statement = false
knows_edge Piece.else_part = false
knows_edge Piece.block = false
knows_edge Piece.finally_part = false
knows_edge Piece.handler = false
knows_edge Piece.body = false
knows_edge Piece.items = false
knows_edge Piece.consequent = false
knows_edge Piece.head = false
knows_edge (Piece.list (listed.Declarators i)) = i
knows_edge (Piece.list l) = false
knows_edge _ = true

abbrev pub asks_edge : List Piece.Piece → Bool
asks_edge [] = false
asks_edge (Piece.end ∷ qs) = true
asks_edge (Piece.expression ∷ qs) = false
asks_edge (Piece.assignment ∷ qs) = false
asks_edge (Piece.list (listed.Declarators true) ∷ qs) = false
asks_edge (q ∷ qs) = asks_edge qs

abbrev pub has_edges : List Piece.Piece → Bool
has_edges [] = true
has_edges (q ∷ qs) = (knows_edge q || not (asks_edge qs)) && has_edges qs
