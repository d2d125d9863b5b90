-- A case, from its word and its pieces (ECMA-262 13.12).
use Rattle.std.proofs.Common.{◌≡◌, ℕ, Bool, true, false, cond, List, [], ◌∷◌, ◌++◌, refl, sym, ap, ◌∙◌, subst}
use Rattle.std.specs.Prelude.{nat_le}
use Rattle.std.proofs.lemmas.List.{append-nil}
use Rattle.tokens.specs.Reading.{Reads}
use Rattle.tokens.specs.Tokens.{LexicalToken}
use Rattle.tokens.specs.declared.token.TokenClass.TheVariants.{IdentifierName}
use Rattle.tokens.specs.declared.token.Goal.TheVariants.{Div}
use Rattle.token_cursor.specs.CursorState.{CursorState}
use Rattle.tree.specs.declared.kind.Kind.TheVariants.{SwitchCase}
use Rattle.tree.specs.declared.kind.Pair.{Pair}
use Rattle.tree.specs.Tree.{Tree, node, plain, Parts, none, part, gap, join, kind_of, bare_parts}
use Rattle.language.specs.declared.Edge.{Edge}
use Rattle.language.specs.declared.Edge.TheVariants.{Closed}
use Rattle.language.specs.Vocabulary.{is_rest}
use Rattle.language.specs.Covers.{Reading, as_expression, as_pattern}
use Rattle.language.specs.Pieces.{item, switch_case, lay, shallower}
use Rattle.language.specs.Statements.{prologue, lines}
use Rattle.language.specs.Token.{Token}
use Rattle.language.specs.Derivation.{done, step, within, missing, token, laid, placed}
use Rattle.language.proofs.statements.Blocks.{case_pieces, one_case}
use Rattle.language.proofs.table.OneKind.{one_kind}
use Rattle.language.proofs.list_loops.FirstPieces.{run_never}
use Rattle.language.proofs.table.SoleWays.{Anyhow}
use Rattle.token_cursor.proofs.SeenTokens.{seen_determined}
use Rattle.covers.specs.declared.list.ListItem.{ListItem}
use Rattle.covers.specs.declared.list.ListKind.TheVariants as listed
use Rattle.covers.specs.Shapes.{value}
use Rattle.parser_tables.specs.StatementStarts.{case_word}
use Rattle.parser_tables.specs.declared.symbol_lists.PartialStatement.{PartialStatement}
use Rattle.recursive_descent.specs.Soundness.{Adds, RunsIn, anywhere, Begins, SpelledAs, read_as}
use Rattle.recursive_descent.specs.SoundnessOfLists.{ItemReads, has_reading, item_fits, item_role, may_trail, case_count}
use Rattle.recursive_descent.specs.SoundnessOfStatements.{BuiltAt, PiecesAt}
use Rattle.parser_tables.specs.declared.statements.StatementContext.{StatementContext}
use Rattle.parser_tables.specs.StatementSymbols.{Piece, case_parts}
use Rattle.parser_tables.specs.StatementNodes.{item_context}
use Rattle.token_cursor.specs.Seen.{ReadsHere}
use Rattle.recursive_descent.proofs.reading.AddedPairs.{adds_behind}
use Rattle.recursive_descent.proofs.sound_lists.OneMoreItem.{join_none}
use Rattle.token_cursor.proofs.TokensAhead.{name_by}
use Rattle.token_cursor.specs.SourceText.{SourceText, SeenNext, behind_in}
use Rattle.recursive_descent.specs.Spelled.{SpellsIn}
use Rattle.recursive_descent.proofs.reading.Forward.{begins_by}

-- the parts of a case: its test, or a gap
abbrev pub case_nodes : Bool → Parts → Parts
case_nodes true ps = gap ps
case_nodes false ps = ps

module _ (text : SourceText) (r : Bool) where
  case_lines : {o : ℕ} (ps : Parts) {s e : Token} {P : List Pair} → RunsIn text o (anywhere (prologue r false [] [] ps)) ps s e P → RunsIn text o (anywhere (lines (item r) (bare_parts ps) ++ lay shallower ∷ [])) ps s e P
  case_lines none done = step laid done
  case_lines (part n ps) (within p d) = step laid (within p (case_lines ps d))
  case_lines (part n ps) (step p d) = elim p [ ]
  case_lines (gap ps) d = absurd (run_never Token (SeenNext text) (behind_in text) d)

  abbrev CaseAt : ℕ → ℕ → Parts → Token → Token → List Pair → Type 0
  CaseAt o at ps s e P = SpellsIn text o (switch_case r) (node SwitchCase [] plain at e.stop ps) s e P

  case_spelled : {o at : ℕ} {ps : Parts} {s e : Token} {P : List Pair} → Begins text at s → RunsIn text o (anywhere (case_pieces r (bare_parts ps))) ps s e P → CaseAt o at ps s e P
  case_spelled {e = e} b d = (one_kind Token (SeenNext text) (behind_in text) (seen_determined text) {Fine = Anyhow} (one_case r)).spells (placed b.next (ap (λ (x : ℕ). (x, e.stop)) b.start)) d

  -- `default`, and `case` with its test
  case_read : {o at : ℕ} (d : Bool) {s m e : Token} (x y : Edge) (ps : Parts) {P : List Pair} → Begins text at s → ReadsHere text IdentifierName (case_word d) s m → PiecesAt text r o (case_parts d) m e x y ps P → CaseAt o at (case_nodes d ps) s e P
  case_read {o} {at} true {s} {m} {e} x y ps {P} begins word u =
      let mark = u.first in
      let body = u.others in
      let end = body.others in
      let items : RunsIn text o (anywhere (prologue r false [] [] body.put)) body.put u.mid e body.put_pairs = subst (λ z. RunsIn text o (anywhere (prologue r false [] [] body.put)) body.put u.mid z body.put_pairs) (sym end.0) body.first in
      let parts = u.parts ∙ (λ i. join (mark.1.1 i) (u.rest)) ∙ body.parts ∙ ap (λ z. join body.put z) end.2 ∙ join_none body.put in
      let pairs = u.pairs ∙ (λ i. (mark.1.2 i) ++ u.more_pairs) ∙ body.pairs ∙ ap (λ z. body.put_pairs ++ z) end.3 ∙ append-nil body.put_pairs in
      subst (λ z. CaseAt o at (gap z) s e P) (sym parts) (subst (λ z. CaseAt o at (gap body.put) s e z) (sym pairs) (case_spelled begins (missing (step (token word) (step (token mark.0) (step laid (case_lines body.put items)))))))
  case_read {o} {at} false {s} {m} {e} x y ps {P} begins word u =
      let test = u.first in
      let more = u.others in
      let mark = more.first in
      let body = more.others in
      let end = body.others in
      let items : RunsIn text o (anywhere (prologue r false [] [] body.put)) body.put more.mid e body.put_pairs = subst (λ z. RunsIn text o (anywhere (prologue r false [] [] body.put)) body.put more.mid z body.put_pairs) (sym end.0) body.first in
      let rest = more.parts ∙ (λ i. join (mark.1.1 i) more.rest) ∙ body.parts ∙ ap (λ z. join body.put z) end.2 ∙ join_none body.put in
      let parts = u.parts ∙ (λ i. join (test.parts i) (rest i)) in
      let rest_pairs = more.pairs ∙ (λ i. (mark.1.2 i) ++ more.more_pairs) ∙ body.pairs ∙ ap (λ z. body.put_pairs ++ z) end.3 ∙ append-nil body.put_pairs in
      let pairs = u.pairs ∙ ap (λ z. u.put_pairs ++ z) rest_pairs in
      subst (λ z. CaseAt o at z s e P) (sym parts) (subst (λ z. CaseAt o at (part test.put body.put) s e z) (sym pairs) (case_spelled begins (step (token word) (step laid (within test.spelled (step (token mark.0) (step laid (case_lines body.put items))))))))

  case_item : {o at : ℕ} (d : Bool) {s m e : Token} (x y : Edge) (ps : Parts) {P : List Pair} → Begins text at s → ReadsHere text IdentifierName (case_word d) s m → PiecesAt text r o (case_parts d) m e x y ps P →
      ItemReads text (listed.Cases r) (record { node = node SwitchCase [] plain at e.stop (case_nodes d ps); shape = value; spreads = false; is_flagged = d; edge = Closed }) o s e P
  case_item {o} {at} d {s} {m} {e} x y ps {P} begins word u = record {
    reads = reads;
    no_rest = no_rest;
    edge = λ h. cc;
    is_default = counted d ps u;
  }
    where
      n : Tree
      n = node SwitchCase [] plain at e.stop (case_nodes d ps)

      reads : (a : Reading) → has_reading (listed.Cases r) a ≡ true → item_fits (listed.Cases r) (record { node = n; shape = value; spreads = false; is_flagged = d; edge = Closed }) a ≡ true → SpelledAs (item_role (listed.Cases r) a) text o (read_as a n) s e P
      reads as_expression h k = record { role = switch_case r; it_is = refl; spelled = case_read d x y ps begins word u }
      reads (as_pattern b) h k = cc

      no_rest : (a : Reading) → has_reading (listed.Cases r) a ≡ true → item_fits (listed.Cases r) (record { node = n; shape = value; spreads = false; is_flagged = d; edge = Closed }) a ≡ true → may_trail (record { node = n; shape = value; spreads = false; is_flagged = d; edge = Closed }) a ≡ true → is_rest (kind_of (read_as a n)) ≡ false
      no_rest as_expression h k t = refl
      no_rest (as_pattern b) h k t = cc

      counted : (c : Bool) (qs : Parts) → PiecesAt text r o (case_parts c) m e x y qs P → nat_le (case_count (listed.Cases r) (part (node SwitchCase [] plain at e.stop (case_nodes c qs)) none)) (cond c 1 0) ≡ true
      counted true qs v = refl
      counted false qs v = subst (λ z. nat_le (case_count (listed.Cases r) (part (node SwitchCase [] plain at e.stop z) none)) 0 ≡ true) (sym (v.parts ∙ ap (λ z. join z v.rest) v.first.parts)) refl

-- from the points between which it was read
pub case_taken : {s m e : CursorState} {old mid new : List Pair} (r d : Bool) (at : ℕ) (b c : PartialStatement) (x : StatementContext) (parts : List Piece) (it : ListItem) → x ≡ item_context r → parts ≡ case_parts d → ((u : LexicalToken) → Reads s.text.bytes Div s.last.stop u → at ≡ u.start) → ReadsHere s.text IdentifierName (case_word d) s.last m.last → m.text ≡ s.text →
    m.opened ≡ s.opened → mid ≡ old → b.nodes ≡ case_nodes d none → Adds m e mid new (BuiltAt m.text x.returns parts b c) → it ≡ record { node = node SwitchCase [] plain at e.last.stop c.nodes; shape = value; spreads = false; is_flagged = d; edge = Closed } → Adds s e old new (ItemReads s.text (listed.Cases r) it)
case_taken {s} {m} {e} r d at b c x parts it x_is parts_are starts word here open_same same empty a is = adds_behind open_same same a (λ o P v.
    let u : BuiltAt m.text r (case_parts d) b c o m.last e.last P = subst (λ (z : StatementContext). BuiltAt m.text z.returns (case_parts d) b c o m.last e.last P) x_is (subst (λ z. BuiltAt m.text x.returns z b c o m.last e.last P) parts_are v) in
    let nodes : c.nodes ≡ case_nodes d u.added = u.nodes ∙ ap (λ y. join y u.added) empty ∙ joined d u.added in
    let read : PiecesAt s.text r o (case_parts d) m.last e.last b.edge c.edge u.added P = subst (λ t. PiecesAt t r o (case_parts d) m.last e.last b.edge c.edge u.added P) here u.read in
    subst (λ y. ItemReads s.text (listed.Cases r) y o s.last e.last P) (sym (is ∙ ap (λ y. record { node = node SwitchCase [] plain at e.last.stop y; shape = value; spreads = false; is_flagged = d; edge = Closed }) nodes))
    (case_item s.text r d b.edge c.edge u.added (begins_by s.text starts (name_by s.text word)) word read))
  where
    joined : (d : Bool) (ps : Parts) → join (case_nodes d none) ps ≡ case_nodes d ps
    joined true ps = refl
    joined false ps = refl
