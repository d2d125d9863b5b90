-- A piece that is tokens alone, or missing (ECMA-262 13.7 to 13.15, 14.6).
use Rattle.std.proofs.Common.{◌≡◌, ℕ, ◌≤◌, Bool, List, [], refl, sym, ap, ◌∙◌, inl, inr, arith}
use Rattle.std.proofs.lemmas.Bool.{false≢true}
use Rattle.token_cursor.specs.CursorState.{CursorState}
use Rattle.tree.specs.declared.kind.Kind.TheVariants.{Identifier}
use Rattle.tree.specs.declared.kind.Pair.{Pair}
use Rattle.tree.specs.Tree.{Tree, node, plain, Parts, none, part, gap, join, push, push_gap}
use Rattle.tree.proofs.Shapes.{join-none, push-join}
use Rattle.language.specs.Pieces.{name}
use Rattle.language.specs.Token.{Token}
use Rattle.language.specs.Vocabulary.{is_reserved}
use Rattle.language.proofs.climbing.Leaves.{name_found}
use Rattle.token_cursor.proofs.SeenTokens.{seen_determined}
use Rattle.parser_tables.specs.declared.symbol_lists.PartialStatement.{PartialStatement}
use Rattle.parser_tables.specs.declared.symbol_lists.Symbol.{Symbol as Coded}
use Rattle.parser_tables.specs.declared.symbol_lists.Symbol.TheVariants as code
use Rattle.recursive_descent.specs.declared.statement_symbols.Expected.TheVariants as wanted
use Rattle.recursive_descent.specs.SoundnessOfStatements.{PieceAt}
use Rattle.parser_tables.specs.StatementSymbols.{Piece, piece_of}
use Rattle.token_cursor.specs.Seen.{NameHere, is_free_name}
use Rattle.parser_tables.specs.Tokens.{single_node}
use Rattle.recursive_descent.specs.Expectations.{ExpectedAt, LabelAt}
use Rattle.recursive_descent.proofs.reading.AddedPairs.{adds_none}
use Rattle.recursive_descent.proofs.sound_statements.OneMoreSymbol.{OnePiece, gap_join}
use Rattle.recursive_descent.proofs.complete_statements.SymbolViews.{something, of_some, is_nothing, is_gap}
use Rattle.token_cursor.proofs.TokensAhead.{not_true}
use Rattle.token_cursor.specs.SourceText.{SourceText, SeenNext, behind_in}
use Rattle.recursive_descent.specs.Spelled.{SpellsIn}

-- what was passed, and what it puts
pub record Passed (s e : CursorState) (r : Bool) (q : Piece) (b c : PartialStatement) (high : ℕ) : Type 0 where
  pub put : Parts
  pub nodes : c.nodes ≡ join b.nodes put
  pub low : Rattle.tree.specs.Tree.parts_height put ≤ high
  pub piece : (o : ℕ) → PieceAt s.text r o q s.last e.last b.edge c.edge put []

pub passed_piece : {s e : CursorState} {old new : List Pair} {r : Bool} {q : Piece} {b c : PartialStatement} {high : ℕ} → e.opened ≡ s.opened → new ≡ old → Passed s e r q b c high → OnePiece s e old new r q b c high
passed_piece open_same same p = record { put = p.put; nodes = p.nodes; low = p.low; adds = adds_none open_same same p.piece }

token_nodes : {b c : PartialStatement} → c ≡ b → c.nodes ≡ join b.nodes none
token_nodes {b} h = ap (λ (x : PartialStatement). x.nodes) h ∙ sym (join-none b.nodes)

pub token_edge : {b c : PartialStatement} → c ≡ b → c.edge ≡ b.edge
token_edge h = ap (λ (x : PartialStatement). x.edge) h

-- a name that is no reserved word
pub name_spelled : (text : SourceText) {o : ℕ} {s e : Token} → NameHere text is_free_name s e → SpellsIn text o name (single_node Identifier e) s e []
name_spelled text {o} {e = e} h = (name_found Token (SeenNext text) (behind_in text) (seen_determined text) {o = o} h.0 (not_true (is_reserved e.text) h.1)).spelled

no_height : (high : ℕ) → 0 ≤ high
no_height high = omega arith

label_passed : {r : Bool} {s e : CursorState} {b c : PartialStatement} {high : ℕ} → LabelAt s e b c high → Passed s e r (piece_of code.Label) b c high
label_passed {s = s} {e = e} {b = b} (inl h) = record {
  put = part (single_node Identifier e.last) none;
  nodes = ap (λ (x : PartialStatement). x.nodes) h.2 ∙ push-join b.nodes (single_node Identifier e.last);
  low = let room = h.3 in omega arith;
  piece = λ o. inl (h.1, record { put = single_node Identifier e.last; parts = refl; spelled = name_spelled s.text h.0 }, ap (λ (x : PartialStatement). x.edge) h.2);
}
label_passed {b = b} {high = high} (inr h) = record {
  put = gap none;
  nodes = ap (λ (x : PartialStatement). x.nodes) h.2 ∙ gap_join b.nodes;
  low = no_height high;
  piece = λ o. inr (h.1, ap (λ (x : PartialStatement). x.edge) h.2, refl, refl);
}

pub nothing_passed : (p : Coded) {r : Bool} {s e : CursorState} {b c : PartialStatement} {high : ℕ} → ExpectedAt p r s e b c high wanted.Nothing → Passed s e r (piece_of p) b c high
nothing_passed (code.PunctuatorToken w) {high = high} h = record { put = none; nodes = token_nodes h.0.1; low = no_height high; piece = λ o. (h.0.0, (token_edge h.0.1, refl, refl)) }
nothing_passed (code.KeywordToken w) {high = high} h = record { put = none; nodes = token_nodes h.0.1; low = no_height high; piece = λ o. (h.0.0, (token_edge h.0.1, refl, refl)) }
nothing_passed code.NoLineTerminator {high = high} h = record { put = none; nodes = token_nodes h.0.2; low = no_height high; piece = λ o. (h.0.0, h.0.1, (token_edge h.0.2, refl, refl)) }
nothing_passed code.DoWhileSemicolon {high = high} h = record { put = none; nodes = token_nodes h.0.1; low = no_height high; piece = λ o. (h.0.0.ends, (token_edge h.0.1, refl, refl)) }
nothing_passed code.Semicolon {high = high} h = record { put = none; nodes = token_nodes h.0.1; low = no_height high; piece = λ o. (h.0.0.ends, (token_edge h.0.1, refl, refl)) }
nothing_passed code.Label h = label_passed h.0
nothing_passed code.Test h = absurd h.0
nothing_passed code.Update h = absurd h.0
nothing_passed code.Argument h = absurd h.0
nothing_passed code.ForHead h = absurd h.0
nothing_passed code.Else h = absurd h.0
nothing_passed code.Finally h = absurd h.0
nothing_passed code.Catch h = absurd h.0
nothing_passed code.ClassHeritage h = absurd h.0
nothing_passed code.NoCatchParameter h = absurd (something wanted.Gap refl (sym h.0))
nothing_passed _ h = absurd (false≢true (ap (of_some is_nothing) h.0))

-- a part that is missing
gap_passed : {s e : CursorState} {r : Bool} {q : Piece} {b c d : PartialStatement} {high : ℕ} → ((o : ℕ) → e.last ≡ s.last → d.edge ≡ b.edge → PieceAt s.text r o q s.last e.last b.edge d.edge (gap none) []) → e.last ≡ s.last → c.nodes ≡ b.nodes → c.edge ≡ b.edge → d ≡ record c { nodes = push_gap c.nodes } →
    Passed s e r q b d high
gap_passed {b = b} {high = high} f stays nodes right is = record {
  put = gap none;
  nodes = ap (λ (x : PartialStatement). x.nodes) is ∙ ap push_gap nodes ∙ gap_join b.nodes;
  low = no_height high;
  piece = λ o. f o stays (ap (λ (x : PartialStatement). x.edge) is ∙ right);
}

pub nodes_of : {b c : PartialStatement} → c ≡ b → c.nodes ≡ b.nodes
nodes_of h = ap (λ (x : PartialStatement). x.nodes) h

pub gap_wanted : (p : Coded) {r : Bool} {s e : CursorState} {b : PartialStatement} (c : PartialStatement) {d : PartialStatement} {high : ℕ} → ExpectedAt p r s e b c high wanted.Gap → d ≡ record c { nodes = push_gap c.nodes } → Passed s e r (piece_of p) b d high
gap_wanted (code.PunctuatorToken w) c h is = absurd (something wanted.Gap refl h.1)
gap_wanted (code.KeywordToken w) c h is = absurd (something wanted.Gap refl h.1)
gap_wanted code.NoLineTerminator c h is = absurd (something wanted.Gap refl h.1)
gap_wanted code.DoWhileSemicolon c h is = absurd (something wanted.Gap refl h.1)
gap_wanted code.Semicolon c h is = absurd (something wanted.Gap refl h.1)
gap_wanted code.Label c h is = absurd (something wanted.Gap refl h.1)
gap_wanted code.Test c h is = gap_passed (λ o u v. inr (u, v, refl, refl)) h.1.0 (nodes_of h.1.1) (token_edge h.1.1) is
gap_wanted code.Update c h is = gap_passed (λ o u v. inr (u, v, refl, refl)) h.1.0 (nodes_of h.1.1) (token_edge h.1.1) is
gap_wanted code.Argument c h is = gap_passed (λ o u v. inr (u, v, refl, refl)) h.1.0 (nodes_of h.1.1) (token_edge h.1.1) is
gap_wanted code.ForHead c h is = gap_passed (λ o u v. inr ((u, v, refl, refl), h.0.0)) h.0.1 (nodes_of h.1) (token_edge h.1) is
gap_wanted code.Else c h is = gap_passed (λ o u v. inr ((u, v, refl, refl), h.0.0)) h.0.1 (nodes_of h.1) (token_edge h.1) is
gap_wanted code.Finally c h is = gap_passed (λ o u v. inr ((u, v, refl, refl), h.0.0)) h.0.1 (nodes_of h.1) (token_edge h.1) is
gap_wanted code.Catch c h is = gap_passed (λ o u v. inr ((u, v, refl, refl), h.0.1)) h.0.2 (nodes_of h.1) (token_edge h.1) is
gap_wanted code.ClassHeritage c h is = gap_passed (λ o u v. inr (u, v, refl, refl)) h.0.1 (nodes_of h.1) (token_edge h.1) is
gap_wanted code.NoCatchParameter c h is = gap_passed (λ o u v. (u, v, refl, refl)) h.1.0 (nodes_of h.1.1) (token_edge h.1.1) is
gap_wanted _ c h is = absurd (false≢true (ap (of_some is_gap) h.0))
