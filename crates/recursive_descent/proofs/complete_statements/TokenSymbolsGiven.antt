-- What is given of a piece that is tokens alone, or missing, against what was read of it (ECMA-262 13.7 to 13.15, 14.6).
use Rattle.std.proofs.Common.{◌≡◌, ◌⊎◌, ℕ, Bool, true, false, not, List, [], refl, sym, ap, ◌∙◌, subst, inl, inr, arith}
use Rattle.std.specs.Prelude.{codes}
use Rattle.std.proofs.lemmas.Bool.{false≢true}
use Rattle.source_text.specs.declared.fault.Fault.{Fault}
use Rattle.source_text.specs.declared.fault.Fault.TheVariants.{Syntax, TooDeep, OutOfMemory}
use Rattle.tokens.specs.declared.token.TokenClass.TheVariants.{IdentifierName}
use Rattle.tokens.specs.declared.token.Goal.TheVariants.{RegExp}
use Rattle.token_cursor.specs.CursorState.{CursorState}
use Rattle.token_cursor.specs.StatementEnds.{EndsAt}
use Rattle.token_cursor.specs.declared.semicolon.StatementEnd.TheVariants.{AfterExpression}
use Rattle.tree.specs.declared.kind.Kind.TheVariants.{Identifier}
use Rattle.tree.specs.declared.kind.Pair.{Pair}
use Rattle.tree.specs.Tree.{Tree, Parts, none, part, gap, join, push_gap, height, parts_height, bare_parts}
use Rattle.tree.proofs.Shapes.{join-none, push-join}
use Rattle.language.specs.declared.Edge.{Edge}
use Rattle.language.specs.Pieces.{name, handler}
use Rattle.language.specs.Derivation.{Reads}
use Rattle.language.specs.Promises.{is_free, ReadBy}
use Rattle.language.specs.Token.{Token}
use Rattle.language.specs.declared.Rank.TheVariants.{Expression, LeftHandSide}
use Rattle.language.specs.declared.Start.TheVariants.{Any}
use Rattle.language.proofs.table.Begins.{goes_to}
use Rattle.language.proofs.statements.Blocks.{one_handler, handler_pieces}
use Rattle.language.proofs.covers.CoverElements.{BoundForm, bound_form, target_moves}
use Rattle.language.proofs.covers.CoverElements as form
use Rattle.language.proofs.climbing.Leaves.{name_form}
use Rattle.language.proofs.table.OneKind.{one_kind}
use Rattle.language.proofs.list_loops.FirstPieces.{run_never, run_token, run_the_gap}
use Rattle.token_cursor.proofs.SeenTokens.{seen_determined}
use Rattle.unambiguity_laws.proofs.statements.FunctionBodies.{name_unique}
use Rattle.unambiguity_laws.proofs.statements.ForFirstParts.{HeadPart, head_part_begins}
use Rattle.unambiguity_laws.proofs.statements.ForFirstParts as head
use Rattle.parser_tables.specs.declared.symbol_lists.PartialStatement.{PartialStatement}
use Rattle.parser_tables.specs.declared.symbol_lists.Symbol.{Symbol as Coded}
use Rattle.parser_tables.specs.declared.symbol_lists.Symbol.TheVariants as code
use Rattle.recursive_descent.specs.declared.statement_symbols.Expected.TheVariants as wanted
use Rattle.recursive_descent.specs.SoundnessOfStatements.{IsToken, IsGap}
use Rattle.recursive_descent.specs.Soundness.{RunsIn}
use Rattle.recursive_descent.specs.CompletenessOfStatements.{OnLine, Broken, HeadGiven, a_declaration, an_expression, a_target}
use Rattle.parser_tables.specs.StatementSymbols.{Piece, piece_of}
use Rattle.token_cursor.specs.Seen.{NoName, Sees, is_free_name}
use Rattle.parser_tables.specs.Tokens.{single_node}
use Rattle.recursive_descent.specs.Expectations.{ExpectedAt, LabelAt, IsBroken, NotLabel, NotExpected}
use Rattle.recursive_descent.proofs.complete_statements.SymbolViews.{something, of_some, is_nothing, is_gap}
use Rattle.recursive_descent.proofs.complete_expressions.Agreement.{ends_none, ends_same, marks_same, words_same, read_here, not_missed}
use Rattle.recursive_descent.proofs.sound_statements.OneMoreSymbol.{gap_join}
use Rattle.recursive_descent.proofs.sound_statements.TokenSymbols.{token_edge, nodes_of, name_spelled}
use Rattle.recursive_descent.proofs.complete_statements.SymbolsLeft.{SamePiece, SameOf, RefusedOf, sets_edge}
use Rattle.token_cursor.specs.SourceText.{SourceText, SeenNext, behind_in}
use Rattle.recursive_descent.specs.Spelled.{SpellsIn}

-- nothing was added
token_same : {s e : CursorState} {old new : List Pair} {q : Piece} {b c : PartialStatement} {to : Token} {x y : Edge} {put : Parts} {P : List Pair} → sets_edge q ≡ false → new ≡ old → e.last ≡ to → c ≡ b → IsToken x y put P → SamePiece q s e old new b c to x y put P
token_same {b = b} own same place is g = record {
  nodes = nodes_of is ∙ sym (join-none b.nodes) ∙ ap (join b.nodes) (sym g.1);
  ends = ends_same (sym g.2) (ends_none place same);
  edge = λ k f. g.0 ∙ f own ∙ sym (token_edge is);
}

-- a gap was
gap_same : {s e : CursorState} {old new : List Pair} {q : Piece} {b c d : PartialStatement} {to : Token} {x y : Edge} {put : Parts} {P : List Pair} → sets_edge q ≡ false → new ≡ old → e.last ≡ s.last → c.nodes ≡ b.nodes → c.edge ≡ b.edge → d ≡ record c { nodes = push_gap c.nodes } → IsGap s.last to x y put P → SamePiece q s e old new b d to x y put P
gap_same {b = b} own same stays nodes right is g = record {
  nodes = ap (λ (z : PartialStatement). z.nodes) is ∙ ap push_gap nodes ∙ gap_join b.nodes ∙ ap (join b.nodes) (sym g.2);
  ends = ends_same (sym g.3) (ends_none (stays ∙ sym g.0) same);
  edge = λ k f. g.1 ∙ f own ∙ sym (ap (λ (z : PartialStatement). z.edge) is ∙ right);
}

module _ (text : SourceText) where
  -- a name that is read stands on the line, or behind a break
  by_operand : {w : List ℕ} {s t e : Token} → Reads Token (SeenNext text) (behind_in text) IdentifierName w s t e → ReadBy Token (SeenNext text) (behind_in text) RegExp s t e
  by_operand {s = s} {t = t} {e = e} r = record { next = r.next; allowed = (seen_determined text).free RegExp s t e r.next (ap is_free r.class) }

  one_line : {w : List ℕ} {s t e : Token} → Reads Token (SeenNext text) (behind_in text) IdentifierName w s t e → OnLine text s → Broken text s → ⊥
  one_line {t = t} {e = e} r line broken = false≢true (sym (line t e (by_operand r)) ∙ broken t e r.next)

  no_name : {o : ℕ} {n : Tree} {s e : Token} {P : List Pair} → SpellsIn text o name n s e P → NoName text is_free_name s → ⊥
  no_name d missed = let u = name_form Token (SeenNext text) (behind_in text) (seen_determined text) d in
      missed u.0.sign _ (record { next = u.0.reads.next; class = u.0.reads.class; text = refl }) (ap is_free_name u.0.reads.text ∙ ap not u.1)

-- a label, or none
label_same : (r : Bool) {s e : CursorState} {old new : List Pair} {b c : PartialStatement} {high : ℕ} → new ≡ old → LabelAt s e b c high → SameOf s.text r (piece_of code.Label) s e old new b c
label_same r {s} {e} {b = b} {c = c} same (inl h) o to x y put P (inl g) at own =
    let only = (name_unique Token (SeenNext s.text) (behind_in s.text) (seen_determined s.text) g.1.spelled).only o e.last (single_node Identifier e.last) [] (name_spelled s.text {o = o} h.0) in
    record {
      nodes = ap (λ (z : PartialStatement). z.nodes) h.2 ∙ push-join b.nodes (single_node Identifier e.last) ∙ ap (λ n. join b.nodes (part n none)) only.1 ∙ ap (join b.nodes) (sym g.1.parts);
      ends = ends_same only.2 (ends_none only.0 same);
      edge = λ k f. g.2 ∙ f refl ∙ sym (ap (λ (z : PartialStatement). z.edge) h.2);
    }
label_same r {s} {e} same (inl h) o to x y put P (inr g) at own = absurd (of g.0)
  where
    of : NoName s.text is_free_name s.last ⊎ Broken s.text s.last → ⊥
    of (inl n) = n (behind_in s.text e.last) e.last h.0.0 h.0.1
    of (inr n) = one_line s.text h.0.0 h.1 n
label_same r {s} {e} same (inr h) o to x y put P (inl g) at own = absurd (of h.0)
  where
    of : NoName s.text is_free_name s.last ⊎ IsBroken s → ⊥
    of (inl n) = no_name s.text g.1.spelled n
    of (inr n) = let u = name_form Token (SeenNext s.text) (behind_in s.text) (seen_determined s.text) g.1.spelled in one_line s.text u.0.reads g.0 n
label_same r same (inr h) o to x y put P (inr g) at own = gap_same {c = _} refl same h.1 refl refl h.2 g.1

-- a piece that is tokens alone
pub nothing_same : (p : Coded) (r : Bool) (high : ℕ) {s e : CursorState} {old new : List Pair} {b c : PartialStatement} → new ≡ old → ExpectedAt p r s e b c high wanted.Nothing → SameOf s.text r (piece_of p) s e old new b c
nothing_same (code.PunctuatorToken w) r high {s = s} same h o to x y put P g at own = token_same refl same (marks_same s.text h.0.0 g.0).1 h.0.1 g.1
nothing_same (code.KeywordToken w) r high {s = s} same h o to x y put P g at own = token_same refl same (words_same s.text h.0.0 g.0).1 h.0.1 g.1
nothing_same code.NoLineTerminator r high same h o to x y put P g at own = token_same refl same (h.0.1 ∙ sym g.1) h.0.2 g.2
nothing_same code.DoWhileSemicolon r high same h o to x y put P g at own = token_same refl same (sym (h.0.0.only to g.0)) h.0.1 g.1
nothing_same code.Semicolon r high {s = s} same h o to x y put P g at own = token_same refl same (sym (h.0.0.only to (subst (λ z. EndsAt s.text (AfterExpression z) s.last to) (at refl) g.0))) h.0.1 g.1
nothing_same code.Label r high same h o to x y put P g at own = label_same r same h.0 o to x y put P g at own
nothing_same code.Test r high same h o to x y put P g at own = absurd h.0
nothing_same code.Update r high same h o to x y put P g at own = absurd h.0
nothing_same code.Argument r high same h o to x y put P g at own = absurd h.0
nothing_same code.ForHead r high same h o to x y put P g at own = absurd h.0
nothing_same code.Else r high same h o to x y put P g at own = absurd h.0
nothing_same code.Finally r high same h o to x y put P g at own = absurd h.0
nothing_same code.Catch r high same h o to x y put P g at own = absurd h.0
nothing_same code.ClassHeritage r high same h o to x y put P g at own = absurd h.0
nothing_same code.NoCatchParameter r high same h o to x y put P g at own = absurd (something wanted.Gap refl (sym h.0))
nothing_same _ r high same h o to x y put P g at own = absurd (false≢true (ap (of_some is_nothing) h.0))

-- what a handler begins with
pub catch_begins : {text : SourceText} {r : Bool} {o : ℕ} {n : Tree} {s e : Token} {P : List Pair} → SpellsIn text o (handler r) n s e P → Sees text IdentifierName (codes "catch") s
catch_begins {text} {r} d = let told = (one_kind Token (SeenNext text) (behind_in text) (seen_determined text) {Fine = λ n v. Unit {0}} (one_handler r)).told d tt in of told.parts told.runs
  where
    of : {o : ℕ} (ps : Parts) {s e : Token} {P : List Pair} → RunsIn text o (goes_to Expression true Any (handler_pieces r (bare_parts ps))) ps s e P → Sees text IdentifierName (codes "catch") s
    of none d = absurd (run_never Token (SeenNext text) (behind_in text) d)
    of (part m ps) d = let u = run_token Token (SeenNext text) (behind_in text) d in (u.mid, read_here text u.reads)
    of (gap ps) d = let u = run_token Token (SeenNext text) (behind_in text) (run_the_gap Token (SeenNext text) (behind_in text) d) in (u.mid, read_here text u.reads)

-- the first part in the head of a `for`
pub head_part : {text : SourceText} {o : ℕ} {s e : Token} {put : Parts} {P : List Pair} → HeadGiven text o s e put P → (n : Tree) × HeadPart Token (SeenNext text) (behind_in text) (seen_determined text) o n s e P
head_part (a_declaration each at ends before p) = (p.put, head.a_declaration (not each) p.spelled)
head_part (an_expression ends p) = (p.put, head.an_expression p.spelled)
head_part {text} (a_target at apart p) = (p.put, of (bound_form Token (SeenNext text) (behind_in text) (seen_determined text) false p.put p.target.it_is p.target.spelled))
  where
    of : {o : ℕ} {n : Tree} {s e : Token} {P : List Pair} → BoundForm Token (SeenNext text) (behind_in text) (seen_determined text) false o n s e P → HeadPart Token (SeenNext text) (behind_in text) (seen_determined text) o n s e P
    of (form.a_pattern d) = head.a_bare_pattern d
    of (form.a_simple (form.a_name b d)) = cc
    of (form.a_simple (form.a_target b t d)) = head.an_expression (target_moves Token (SeenNext text) (behind_in text) (seen_determined text) LeftHandSide Expression refl refl refl t d)

-- a part that is missing
pub gap_missing : (p : Coded) (r : Bool) (high : ℕ) {s e : CursorState} {old new : List Pair} {b : PartialStatement} (c : PartialStatement) {d : PartialStatement} → new ≡ old → ExpectedAt p r s e b c high wanted.Gap → d ≡ record c { nodes = push_gap c.nodes } → SameOf s.text r (piece_of p) s e old new b d
gap_missing (code.PunctuatorToken w) r high c same h is o to x y put P g at own = absurd (something wanted.Gap refl h.1)
gap_missing (code.KeywordToken w) r high c same h is o to x y put P g at own = absurd (something wanted.Gap refl h.1)
gap_missing code.NoLineTerminator r high c same h is o to x y put P g at own = absurd (something wanted.Gap refl h.1)
gap_missing code.DoWhileSemicolon r high c same h is o to x y put P g at own = absurd (something wanted.Gap refl h.1)
gap_missing code.Semicolon r high c same h is o to x y put P g at own = absurd (something wanted.Gap refl h.1)
gap_missing code.Label r high c same h is o to x y put P g at own = absurd (something wanted.Gap refl h.1)
gap_missing code.Test r high c same h is o to x y put P (inl g) at own = absurd (not_missed g.1 h.0.1)
gap_missing code.Test r high c same h is o to x y put P (inr g) at own = gap_same refl same h.1.0 (nodes_of h.1.1) (token_edge h.1.1) is g.0
gap_missing code.Update r high c same h is o to x y put P (inl g) at own = absurd (not_missed g.1 h.0.1)
gap_missing code.Update r high c same h is o to x y put P (inr g) at own = gap_same refl same h.1.0 (nodes_of h.1.1) (token_edge h.1.1) is g.0
gap_missing code.Argument r high {s = s} c same h is o to x y put P (inl g) at own = absurd (false≢true (sym (g.0 (behind_in s.text h.0.0) h.0.0 h.0.1.0) ∙ h.0.1.1))
gap_missing code.Argument r high c same h is o to x y put P (inr g) at own = gap_same refl same h.1.0 (nodes_of h.1.1) (token_edge h.1.1) is g.0
gap_missing code.ForHead r high {s = s} c same h is o to x y put P (inl g) at own = let v = head_part g in absurd (head_part_begins Token (SeenNext s.text) (behind_in s.text) (seen_determined s.text) v.1 h.0.0.1)
gap_missing code.ForHead r high c same h is o to x y put P (inr g) at own = gap_same refl same h.0.1 (nodes_of h.1) (token_edge h.1) is g.0
gap_missing code.Else r high c same h is o to x y put P (inl g) at own = absurd (not_missed h.0.0 g.1)
gap_missing code.Else r high c same h is o to x y put P (inr g) at own = gap_same refl same h.0.1 (nodes_of h.1) (token_edge h.1) is g.0
gap_missing code.Finally r high c same h is o to x y put P (inl g) at own = absurd (not_missed h.0.0 g.1)
gap_missing code.Finally r high c same h is o to x y put P (inr g) at own = gap_same refl same h.0.1 (nodes_of h.1) (token_edge h.1) is g.0
gap_missing code.Catch r high c same h is o to x y put P (inl g) at own = let v = catch_begins g.spelled in absurd (not_missed h.0.0 v.1)
gap_missing code.Catch r high c same h is o to x y put P (inr g) at own = gap_same refl same h.0.2 (nodes_of h.1) (token_edge h.1) is g.0
gap_missing code.ClassHeritage r high c same h is o to x y put P (inl g) at own = absurd (not_missed h.0.0 g.1)
gap_missing code.ClassHeritage r high c same h is o to x y put P (inr g) at own = gap_same refl same h.0.1 (nodes_of h.1) (token_edge h.1) is g.0
gap_missing code.NoCatchParameter r high c same h is o to x y put P g at own = gap_same refl same h.1.0 (nodes_of h.1.1) (token_edge h.1.1) is g
gap_missing _ r high c same h is o to x y put P g at own = absurd (false≢true (ap (of_some is_gap) h.0))

-- no label is too high
label_refused : (s : CursorState) (b : PartialStatement) (r : Bool) (high : ℕ) (fault : Fault) → NotLabel s high fault → RefusedOf s.text r (piece_of code.Label) s b high fault
label_refused s b r high TooDeep h o to x y put P (inl g) at own = λ room.
    let u = name_form Token (SeenNext s.text) (behind_in s.text) (seen_determined s.text) g.1.spelled in
    let whole : parts_height put ≡ parts_height (part g.1.put none) = ap parts_height g.1.parts in
    let one : height g.1.put ≡ 1 = ap height u.0.tree in
    let low = room.1 in
    let none_there = h.0 in
    absurd (omega arith)
label_refused s b r high TooDeep h o to x y put P (inr g) at own = absurd (of g.0)
  where
    of : NoName s.text is_free_name s.last ⊎ Broken s.text s.last → ⊥
    of (inl n) = n (behind_in s.text h.1.0) h.1.0 h.1.1.0 h.1.1.1
    of (inr n) = one_line s.text h.1.1.0 h.2 n
label_refused s b r high OutOfMemory h o to x y put P g at own = tt
label_refused s b r high _ h o to x y put P g at own = absurd h

-- what is wanted and not there
pub wanted_refused : (p : Coded) (r : Bool) (s : CursorState) (b : PartialStatement) (high : ℕ) (fault : Fault) → NotExpected p s b.edge high fault → RefusedOf s.text r (piece_of p) s b high fault
wanted_refused (code.PunctuatorToken w) r s b high (Syntax i) h o to x y put P g at own = absurd (not_missed h g.0)
wanted_refused (code.PunctuatorToken w) r s b high _ h o to x y put P g at own = absurd h
wanted_refused (code.KeywordToken w) r s b high (Syntax i) h o to x y put P g at own = absurd (not_missed h g.0)
wanted_refused (code.KeywordToken w) r s b high _ h o to x y put P g at own = absurd h
wanted_refused code.DoWhileSemicolon r s b high (Syntax i) h o to x y put P g at own = absurd (h to g.0)
wanted_refused code.DoWhileSemicolon r s b high _ h o to x y put P g at own = absurd h
wanted_refused code.Semicolon r s b high (Syntax i) h o to x y put P g at own = absurd (h to (subst (λ z. EndsAt s.text (AfterExpression z) s.last to) (at refl) g.0))
wanted_refused code.Semicolon r s b high _ h o to x y put P g at own = absurd h
wanted_refused code.NoLineTerminator r s b high (Syntax i) h o to x y put P g at own = let t = g.0.0 in absurd (false≢true (ap not (sym (h (behind_in s.text t) t g.0.1.0.next)) ∙ g.0.1.1))
wanted_refused code.NoLineTerminator r s b high _ h o to x y put P g at own = absurd h
wanted_refused code.Label r s b high fault h o to x y put P g at own = label_refused s b r high fault h o to x y put P g at own
wanted_refused code.Catch r s b high (Syntax i) h o to x y put P (inl g) at own = let v = catch_begins g.spelled in absurd (not_missed h.0 v.1)
wanted_refused code.Catch r s b high (Syntax i) h o to x y put P (inr g) at own = absurd (not_missed h.1 g.1.1)
wanted_refused code.Catch r s b high _ h o to x y put P g at own = absurd h
wanted_refused _ r s b high fault h o to x y put P g at own = absurd h
