-- A case as an item of a list that is given: its word, and the pieces behind it (ECMA-262 13.12).
use Rattle.std.proofs.Common.{◌+◌, ◌-◌, ◌≤◌, ◌≡◌, ℕ, suc, Bool, true, false, List, [], ◌∷◌, ◌++◌, Result, Ok, Err, refl, sym, ap, ◌∙◌, subst, arith}
use Rattle.std.specs.Prelude.{IfOk, ◌&&◌, ◌||◌, nat_le, Some, codes}
use Rattle.std.specs.Result.{IsErrAnd}
use Rattle.std.proofs.lemmas.Bool.{false≢true}
use Rattle.std.proofs.lemmas.List.{append-nil}
use Rattle.source_text.specs.declared.fault.Fault.{Fault}
use Rattle.tokens.specs.Reading.{Reads as ReadsText}
use Rattle.tokens.specs.Tokens.{LexicalToken}
use Rattle.tokens.specs.declared.token.TokenClass.TheVariants.{IdentifierName, Punctuator}
use Rattle.tokens.specs.declared.token.Goal.TheVariants.{Div}
use Rattle.token_cursor.specs.CursorState.{CursorState}
use Rattle.tree.specs.declared.kind.Kind.TheVariants.{SwitchCase}
use Rattle.tree.specs.declared.kind.Pair.{Pair}
use Rattle.tree.specs.Tree.{Tree, node, plain, Parts, none, part, gap, join, bare_parts, height, parts_height, start_of, stop_of}
use Rattle.language.specs.declared.Edge.{Edge}
use Rattle.language.specs.declared.Edge.TheVariants.{Closed}
use Rattle.language.specs.declared.Rank.TheVariants.{Expression}
use Rattle.language.specs.declared.Start.TheVariants.{Any}
use Rattle.language.specs.Covers.{Reading, as_expression, as_pattern}
use Rattle.language.specs.Derivation.{Placed, placed, within}
use Rattle.language.specs.Edges.{edge, edge_as_written}
use Rattle.language.specs.Pieces.{Role, expr, item, switch_case, lay, shallower}
use Rattle.language.specs.Statements.{prologue, lines}
use Rattle.language.specs.Token.{Token}
use Rattle.language.specs.Vocabulary.{is}
use Rattle.language.specs.Claims.{max_open}
use Rattle.language.proofs.statements.Blocks.{case_pieces, one_case}
use Rattle.language.proofs.climbing.Conditionals.{stops_before}
use Rattle.language.proofs.table.OneKind.{one_kind}
use Rattle.language.proofs.list_loops.FirstPieces.{run_never, run_laid, run_token, run_the_part, run_the_gap}
use Rattle.language.proofs.table.SoleWays.{Anyhow}
use Rattle.token_cursor.proofs.SeenTokens.{seen_determined}
use Rattle.covers.specs.declared.list.ListItem.{ListItem}
use Rattle.covers.specs.declared.list.ListKind.TheVariants as listed
use Rattle.covers.specs.declared.list.ListBuilder.{ListBuilder as ListOf}
use Rattle.covers.specs.Lists.{takes}
use Rattle.covers.specs.Refusals.{IsTaken}
use Rattle.covers.specs.declared.shape.CoverShape.{CoverShape}
use Rattle.covers.specs.Shapes.{value}
use Rattle.productions.specs.Made.{Makes}
use Rattle.parser_tables.specs.declared.symbol_lists.PartialStatement.{PartialStatement}
use Rattle.parser_tables.specs.declared.statements.StatementContext.{StatementContext}
use Rattle.parser_tables.specs.declared.statements.StatementListEnd.TheVariants as until
use Rattle.parser_tables.specs.StatementStarts.{case_word}
use Rattle.recursive_descent.specs.Complete.{ItemComplete, SymbolsComplete}
use Rattle.recursive_descent.specs.Soundness.{RunsIn, anywhere, read_as}
use Rattle.recursive_descent.specs.SoundnessOfLists.{has_reading, item_fits, is_chunked, case_count}
use Rattle.recursive_descent.specs.Completeness.{Room, EndsWith, StopsIn}
use Rattle.recursive_descent.specs.CompletenessOfLists.{ItemGiven, ItemRead, default_seen}
use Rattle.recursive_descent.specs.CompletenessOfStatements.{PiecesGiven, has_edges}
use Rattle.parser_tables.specs.Items.{with_item}
use Rattle.parser_tables.specs.StatementSymbols.{Piece, case_parts}
use Rattle.token_cursor.specs.Seen.{ReadsHere, SeesBy, Misses}
use Rattle.parser_tables.specs.StatementNodes.{item_context}
use Rattle.parser_tables.specs.Tests.{ends}
use Rattle.recursive_descent.proofs.complete_expressions.Agreement.{agrees_on, agrees_err, refuses_made, read_here, words_same, not_missed, ends_behind}
use Rattle.recursive_descent.proofs.sound_lists.CaseClauses.{case_nodes}
use Rattle.recursive_descent.proofs.sound_lists.OneMoreItem.{join_none}
use Rattle.recursive_descent.proofs.complete_lists.DeclaratorItems.{is_cases, is_covers}
use Rattle.recursive_descent.proofs.complete_lists.ItemFits.{plain_item}
use Rattle.recursive_descent.proofs.complete_lists.ItemAnswers.{item_taken, left_reads, one_high, own_tree}
use Rattle.token_cursor.proofs.TokensAhead.{name_by}
use Rattle.token_cursor.specs.SourceText.{SourceText, SeenNext, behind_in}
use Rattle.recursive_descent.specs.Spelled.{SpellsIn, OfLanguage, AllOfLanguage}
use Rattle.recursive_descent.proofs.reading.LanguageTrees.{parts_of_language, behind_gap_of_language}
use Rattle.recursive_descent.proofs.reading.Forward.{place_by}

-- one position
some_same : {a b : Role} → Some a ≡ Some b → a ≡ b
some_same e = cc

module _ (text : SourceText) (r : Bool) where
  -- What is given of a case: its word, its parts and the pieces that they are, whatever right edge stands before them.
  pub record CaseGiven (o : ℕ) (n : Tree) (s e : Token) (P : List Pair) : Type 0 where
    pub is_default : Bool
    pub parts : Parts
    pub mid : Token
    pub word : ReadsHere text IdentifierName (case_word is_default) s mid
    pub tree : n ≡ node SwitchCase [] plain mid.start e.stop (case_nodes is_default parts)
    pub right : Edge → Edge
    pub pieces : (x : Edge) → PiecesGiven text r o (case_parts is_default) mid e x (right x) parts P

  -- the statements of a case, without their layout
  case_items : {o : ℕ} (ps : Parts) {s e : Token} {P : List Pair} → RunsIn text o (anywhere (lines (item r) (bare_parts ps) ++ lay shallower ∷ [])) ps s e P → RunsIn text o (anywhere (prologue r false [] [] ps)) ps s e P
  case_items none d = run_laid Token (SeenNext text) (behind_in text) d
  case_items {o} (part n ps) {s} {e} {P} d =
      let v = run_the_part Token (SeenNext text) (behind_in text) (run_laid Token (SeenNext text) (behind_in text) d) in
      subst (λ Q. RunsIn text o (anywhere (prologue r false [] [] (part n ps))) (part n ps) s e Q) (sym v.pairs) (within v.spelled (case_items ps v.runs))
  case_items (gap ps) d = absurd (run_never Token (SeenNext text) (behind_in text) d)

  -- where a case stands
  case_span : {n : Tree} {s e : Token} → Placed Token (SeenNext text) (behind_in text) (switch_case r) n s e → ((t m : Token) → SeenNext text s t m → t.start ≡ start_of n) × (e.stop ≡ stop_of n)
  case_span {n} {s} {e} (placed {t = v} {m = m} nx p) =
      let u = sym ((one_case r).position.spans v (behind_in text e)) ∙ p in
      ((λ t x h. (seen_determined text).start s t v x m h nx ∙ ap (λ (c : ℕ × ℕ). c.0) u), ap (λ (c : ℕ × ℕ). c.1) u)

  -- an expression ends before a colon
  before_colon : (n : Tree) {s e : Token} → ReadsHere text Punctuator (codes ":") s e → StopsIn text Expression true n s
  before_colon n h = stops_before Token (SeenNext text) (behind_in text) (seen_determined text) Expression true n h refl refl (λ k u. refl)

  -- the pieces behind `default`, and behind `case`
  default_pieces : {o : ℕ} (ps : Parts) {s m e : Token} {P : List Pair} (x : Edge) → ReadsHere text Punctuator (codes ":") s m → RunsIn text o (anywhere (prologue r false [] [] ps)) ps m e P → SeesBy text Div (ends until.NextCase) e → PiecesGiven text r o (case_parts true) s e x x ps P
  default_pieces ps {s} {m} {e} {P} x colon run sees = record {
    mid = m;
    right = x;
    put = none;
    rest = ps;
    put_pairs = [];
    more_pairs = P;
    first = (colon, (refl, refl, refl));
    others = record {
      mid = e;
      right = x;
      put = ps;
      rest = none;
      put_pairs = P;
      more_pairs = [];
      first = (run, sees);
      others = (refl, refl, refl, refl);
      parts = sym (join_none ps);
      pairs = sym (append-nil P);
    };
    parts = refl;
    pairs = refl;
  }

  test_pieces : {o : ℕ} (n : Tree) (ps : Parts) {s k m e : Token} {P Q : List Pair} (x : Edge) → SpellsIn text o (expr Expression true Any) n s k P → ReadsHere text Punctuator (codes ":") k m → RunsIn text o (anywhere (prologue r false [] [] ps)) ps m e Q → SeesBy text Div (ends until.NextCase) e →
      PiecesGiven text r o (case_parts false) s e x (edge_as_written (edge n) k) (part n ps) (P ++ Q)
  test_pieces n ps {s} {k} {m} {e} {P} {Q} x d colon run sees = record {
    mid = k;
    right = edge_as_written (edge n) k;
    put = part n none;
    rest = ps;
    put_pairs = P;
    more_pairs = Q;
    first = record { put = n; parts = refl; right = refl; spelled = d; stopped = before_colon n colon };
    others = default_pieces ps (edge_as_written (edge n) k) colon run sees;
    parts = refl;
    pairs = refl;
  }

  -- a case by its parts
  case_by : {o : ℕ} {n : Tree} {s e : Token} {P : List Pair} (ps : Parts) → n ≡ node SwitchCase [] plain (start_of n) (stop_of n) ps → ((t m : Token) → SeenNext text s t m → t.start ≡ start_of n) → e.stop ≡ stop_of n → SeesBy text Div (ends until.NextCase) e → RunsIn text o (anywhere (case_pieces r (bare_parts ps))) ps s e P → CaseGiven o n s e P
  case_by none tree start stop sees d = absurd (run_never Token (SeenNext text) (behind_in text) d)
  case_by {o} {n} {s} {e} {P} (gap ps) tree start stop sees d =
      let word = run_token Token (SeenNext text) (behind_in text) (run_the_gap Token (SeenNext text) (behind_in text) d) in
      let colon = run_token Token (SeenNext text) (behind_in text) word.runs in
      let run = case_items ps (run_laid Token (SeenNext text) (behind_in text) colon.runs) in
      let here = read_here text word.reads in
      record {
        is_default = true;
        parts = ps;
        mid = word.mid;
        word = here;
        tree = tree ∙ (λ i. node SwitchCase [] plain (sym (start (behind_in text word.mid) word.mid here.next) i) (sym stop i) (gap ps));
        right = λ x. x;
        pieces = λ x. default_pieces ps x (read_here text colon.reads) run sees;
      }
  case_by {o} {n} {s} {e} {P} (part m ps) tree start stop sees d =
      let word = run_token Token (SeenNext text) (behind_in text) d in
      let test = run_the_part Token (SeenNext text) (behind_in text) (run_laid Token (SeenNext text) (behind_in text) word.runs) in
      let colon = run_token Token (SeenNext text) (behind_in text) test.runs in
      let run = case_items ps (run_laid Token (SeenNext text) (behind_in text) colon.runs) in
      let here = read_here text word.reads in
      record {
        is_default = false;
        parts = part m ps;
        mid = word.mid;
        word = here;
        tree = tree ∙ (λ i. node SwitchCase [] plain (sym (start (behind_in text word.mid) word.mid here.next) i) (sym stop i) (part m ps));
        right = λ x. edge_as_written (edge m) test.mid;
        pieces = λ x. subst (λ Q. PiecesGiven text r o (case_parts false) word.mid e x (edge_as_written (edge m) test.mid) (part m ps) Q) (sym test.pairs) (test_pieces m ps x test.spelled (read_here text colon.reads) run sees);
      }

  -- a case is given so
  pub case_given : {o : ℕ} (n : Tree) {s e : Token} {P : List Pair} → SpellsIn text o (switch_case r) n s e P → SeesBy text Div (ends until.NextCase) e → CaseGiven o n s e P
  case_given {o} n {s} {e} {P} d sees =
      let w = (one_kind Token (SeenNext text) (behind_in text) (seen_determined text) {Fine = Anyhow} {s = s} (one_case r)).told d tt in
      let span = case_span w.placed in
      case_by w.parts (w.tree ∙ (λ i. node SwitchCase [] plain (sym (ap start_of w.tree) i) (sym (ap stop_of w.tree) i) w.parts)) span.0 span.1 sees w.runs

-- the parts of a case are no higher than the case but one
case_high : (d : Bool) (ps : Parts) (s e : ℕ) → suc (parts_height ps) ≤ height (node SwitchCase [] plain s e (case_nodes d ps))
case_high true ps s e = omega arith
case_high false ps s e = omega arith

-- and of the language with it
case_own : (text : SourceText) (d : Bool) (ps : Parts) (s e : ℕ) → OfLanguage text (node SwitchCase [] plain s e (case_nodes d ps)) → AllOfLanguage text ps
case_own text true ps s e own = behind_gap_of_language {text = text} {ps = ps} (parts_of_language {text = text} {k = SwitchCase} {w = []} {g = plain} {st = s} {en = e} own)
case_own text false ps s e own = parts_of_language {text = text} {k = SwitchCase} {w = []} {g = plain} {st = s} {en = e} own

-- the parts of a case behind its gap
joined_nodes : (d : Bool) (ps : Parts) → join (case_nodes d none) ps ≡ case_nodes d ps
joined_nodes true ps = refl
joined_nodes false ps = refl

-- cases are no elements
no_elements : {X : Type 0} (r : Bool) → listed.Cases r ≡ listed.Elements → X
no_elements r h = absurd (false≢true (sym (ap is_cases h)))

-- the words of a case are two
words_apart : (b c : Bool) → case_word b ≡ case_word c → b ≡ c
words_apart true true h = refl
words_apart false false h = refl
words_apart true false h = absurd (false≢true (ap (λ w. is w "case") h))
words_apart false true h = absurd (false≢true (ap (λ w. is w "default") h))

module _ (s e : CursorState) (old new : List Pair) (l k : ListOf) (high : ℕ) (r : Bool) (is : l.listed ≡ listed.Cases r) where
  record Case (a : Reading) (o : ℕ) (last : Bool) (one : Parts) (to : Token) (P : List Pair) : Type 0 where
    tree : Tree
    parts : one ≡ part tree none
    unmarked : last ≡ false
    reading : a ≡ as_expression
    given : CaseGiven s.text r o tree s.last to P

  -- it is given as an item
  case_there : (a : Reading) (o : ℕ) (last : Bool) (one : Parts) (to : Token) (P : List Pair) → has_reading l.listed a ≡ true → ItemGiven s.text l.listed a o s.last to P last one → Case a o last one to P
  case_there a o last one to P reads g =
      let v = plain_item refl (λ q. no_elements r q) (subst (λ x. ItemGiven s.text x a o s.last to P last one) is g) in
      record { tree = v.tree; parts = v.parts; unmarked = v.unmarked; reading = of a (ap (λ x. has_reading x a) (sym is) ∙ reads); given = case_given s.text r v.tree (subst (λ z. SpellsIn s.text o z v.tree s.last to P) (sym (some_same v.it_is)) v.spelled) v.ends }
    where
      of : (a : Reading) → has_reading (listed.Cases r) a ≡ true → a ≡ as_expression
      of as_expression h = refl
      of (as_pattern b) h = absurd (false≢true h)

  -- neither word stands there
  pub case_unworded : (answer : Result (Unit {0}) Fault) → Misses s.text IdentifierName (case_word true) s.last → Misses s.text IdentifierName (case_word false) s.last → ItemComplete s e old new high l k answer
  case_unworded answer no_default no_case = λ a o last one to P some left lone once g own.
      let v = (case_there a o last one to P (left_reads l a left) g).given in
      absurd (of v.is_default v.word)
    where
      of : {m : Token} (d : Bool) → ReadsHere s.text IdentifierName (case_word d) s.last m → ⊥
      of true h = not_missed no_default h
      of false h = not_missed no_case h

  -- the word was read
  module _ (m : CursorState) (mid : List Pair) (d : Bool) (b : PartialStatement) (x : StatementContext) (inner : ℕ) (parts : List Piece) (word : ReadsHere s.text IdentifierName (case_word d) s.last m.last) (there : m.text ≡ s.text) (x_is : x ≡ item_context r) (parts_are : parts ≡ case_parts d) (inner_is : inner ≡ high - 1) where
    record Behind (o : ℕ) (n : Tree) (to : Token) (P : List Pair) : Type 0 where
      inside : Parts
      tree : n ≡ node SwitchCase [] plain m.last.start to.stop (case_nodes d inside)
      right : Edge
      pieces : PiecesGiven m.text x.returns o parts m.last to b.edge right inside P
      edges : has_edges parts ≡ true
      low : suc (parts_height inside) ≤ height n
      own : OfLanguage s.text n → AllOfLanguage m.text inside

    behind_word : (o : ℕ) (n : Tree) (to : Token) (P : List Pair) → CaseGiven s.text r o n s.last to P → Behind o n to P
    behind_word o n to P v =
        let same = words_same s.text v.word word in
        let which : v.is_default ≡ d = words_apart v.is_default d (sym v.word.text ∙ ap (λ (z : Token). z.text) same.0 ∙ word.text) in
        let tree : n ≡ node SwitchCase [] plain m.last.start to.stop (case_nodes d v.parts) = v.tree ∙ (λ i. node SwitchCase [] plain (same.1 i).start to.stop (case_nodes (which i) v.parts)) in
        let tall : height n ≡ height (node SwitchCase [] plain m.last.start to.stop (case_nodes d v.parts)) = ap height tree in
        let least = case_high d v.parts m.last.start to.stop in
        let here : PiecesGiven s.text r o (case_parts d) m.last to b.edge (v.right b.edge) v.parts P = subst (λ z. PiecesGiven s.text r o (case_parts d) z to b.edge (v.right b.edge) v.parts P) same.1 (subst (λ z. PiecesGiven s.text r o (case_parts z) v.mid to b.edge (v.right b.edge) v.parts P) which (v.pieces b.edge)) in
        record {
          inside = v.parts;
          tree = tree;
          right = v.right b.edge;
          pieces = subst (λ z. PiecesGiven z x.returns o parts m.last to b.edge (v.right b.edge) v.parts P) (sym there) (subst (λ (z : StatementContext). PiecesGiven s.text z.returns o parts m.last to b.edge (v.right b.edge) v.parts P) (sym x_is) (subst (λ z. PiecesGiven s.text r o z m.last to b.edge (v.right b.edge) v.parts P) (sym parts_are) here));
          edges = ap has_edges parts_are ∙ has d;
          low = omega arith;
          own = λ whole. subst (λ z. AllOfLanguage z v.parts) (sym there) (case_own s.text d v.parts m.last.start to.stop (subst (λ z. OfLanguage s.text z) tree whole));
        }
      where
        has : (c : Bool) → has_edges (case_parts c) ≡ true
        has true = refl
        has false = refl

    pub case_refused : (c : PartialStatement) (answer : Result (Unit {0}) Fault) (fault : Fault) → m.opened ≡ s.opened → IsErrAnd answer (λ z. z ≡ fault) → SymbolsComplete m e mid new inner parts x.returns b c (Err fault) → ItemComplete s e old new high l k answer
    case_refused c answer fault opened err h = λ a o last one to P some left lone once g own.
        let v = case_there a o last one to P (left_reads l a left) g in
        let w = behind_word o v.tree to P v.given in
        let low = w.low in
        agrees_on (Room m o (parts_height w.inside) inner) (Room s o (parts_height one) high) (λ u. ItemRead a l k last one × EndsWith s e old new to P) answer fault err (h o w.right w.inside to P w.edges w.pieces (w.own (own_tree v.tree v.parts own)))
        (λ room. (subst (λ z. o ≤ max_open - z) (sym opened) room.0, (let within_high : height v.tree ≤ high = one_high v.tree v.parts room.1 in omega arith)))

    module _ (c : PartialStatement) (u : Unit {0}) (empty : b.nodes ≡ case_nodes d none) (read : SymbolsComplete m e mid new inner parts x.returns b c (Ok u)) where
      -- the node is what is given
      case_tree : (start : ℕ) → ((t : LexicalToken) → ReadsText s.text.bytes Div s.last.stop t → start ≡ t.start) → (o : ℕ) (n : Tree) (to : Token) (P : List Pair) → CaseGiven s.text r o n s.last to P → OfLanguage s.text n → (node SwitchCase [] plain start e.last.stop c.nodes ≡ n) × EndsWith m e mid new to P
      case_tree start starts o n to P v own =
          let w = behind_word o n to P v in
          let z = read o w.right w.inside to P w.edges w.pieces (w.own own) in
          let nodes : c.nodes ≡ case_nodes d w.inside = z.0 ∙ ap (λ y. join y w.inside) empty ∙ joined_nodes d w.inside in
          let first : start ≡ m.last.start = place_by s.text starts (name_by s.text word) in
          ((λ i. node SwitchCase [] plain (first i) ((z.1.place i).stop) (nodes i)) ∙ sym w.tree, z.1)

      pub case_too_high : (start : ℕ) (made : Tree) (answer : Result (Unit {0}) Fault) (fault : Fault) → ((t : LexicalToken) → ReadsText s.text.bytes Div s.last.stop t → start ≡ t.start) → made ≡ node SwitchCase [] plain start e.last.stop c.nodes → IsErrAnd answer (λ z. z ≡ fault) → Makes made high (Err fault) → ItemComplete s e old new high l k answer
      case_too_high start made answer fault starts is_made err makes = λ a o last one to P some left lone once g own.
          let v = case_there a o last one to P (left_reads l a left) g in
          let w = case_tree start starts o v.tree to P v.given (own_tree v.tree v.parts own) in
          let tall : height made ≡ height v.tree = ap height (is_made ∙ w.0) in
          agrees_err (Room s o (parts_height one) high) (λ u. ItemRead a l k last one × EndsWith s e old new to P) answer fault err
          (refuses_made (Room s o (parts_height one) high) made high fault makes (λ room. (let within_high : height v.tree ≤ high = one_high v.tree v.parts room.1 in omega arith)))

      -- at most one case is `default`
      one_default : (a : Reading) (o : ℕ) (last : Bool) (one : Parts) (to : Token) (P : List Pair) (v : Case a o last one to P) → nat_le (case_count l.listed one + default_seen l.listed l.seen.is_flagged) 1 ≡ true → (l.seen.is_flagged && d) ≡ false
      one_default a o last one to P v once =
          let w = behind_word o v.tree to P v.given in
          of l.seen.is_flagged d (counted d w.inside w.tree) (ap (λ y. nat_le (case_count (listed.Cases r) y + default_seen (listed.Cases r) l.seen.is_flagged) 1) (sym v.parts) ∙ ap (λ y. nat_le (case_count y one + default_seen y l.seen.is_flagged) 1) (sym is) ∙ once)
        where
          of : (y z : Bool) → (z ≡ true → case_count (listed.Cases r) (part v.tree none) ≡ 1) → nat_le (case_count (listed.Cases r) (part v.tree none) + default_seen (listed.Cases r) y) 1 ≡ true → (y && z) ≡ false
          of true true h q = absurd (false≢true (ap (λ y. nat_le (y + 1) 1) (sym (h refl)) ∙ q))
          of true false h q = refl
          of false z h q = refl

          counted : (z : Bool) (ps : Parts) → v.tree ≡ node SwitchCase [] plain m.last.start to.stop (case_nodes z ps) → z ≡ true → case_count (listed.Cases r) (part v.tree none) ≡ 1
          counted true ps h q = ap (λ y. case_count (listed.Cases r) (part y none)) h
          counted false ps h q = absurd (false≢true q)

      -- a case that is `default` counts as one
      marked_count : (n : Tree) (to : Token) (ps : Parts) → n ≡ node SwitchCase [] plain m.last.start to.stop (case_nodes d ps) → nat_le (default_seen (listed.Cases r) (l.seen.is_flagged || d)) (case_count (listed.Cases r) (part n none) + default_seen (listed.Cases r) l.seen.is_flagged) ≡ true
      marked_count n to ps tree = ap (λ y. nat_le (default_seen (listed.Cases r) (l.seen.is_flagged || d)) (case_count (listed.Cases r) (part y none) + default_seen (listed.Cases r) l.seen.is_flagged)) tree ∙ of l.seen.is_flagged d ps
        where
          of : (y z : Bool) (ps : Parts) → nat_le (default_seen (listed.Cases r) (y || z)) (case_count (listed.Cases r) (part (node SwitchCase [] plain m.last.start to.stop (case_nodes z ps)) none) + default_seen (listed.Cases r) y) ≡ true
          of true true ps = refl
          of false true ps = refl
          of true false none = refl
          of true false (part h ps) = refl
          of true false (gap ps) = refl
          of false false none = refl
          of false false (part h ps) = refl
          of false false (gap ps) = refl

      pub case_taken : (start at : ℕ) (it : ListItem) (answer : Result (Unit {0}) Fault) → ((t : LexicalToken) → ReadsText s.text.bytes Div s.last.stop t → start ≡ t.start) → it ≡ record { node = node SwitchCase [] plain start e.last.stop c.nodes; shape = value; spreads = false; is_flagged = d; edge = Closed } → mid ≡ old →
          IfOk answer (λ u. k ≡ with_item l it) → IsTaken (takes l.listed l.seen it) at answer → ItemComplete s e old new high l k answer
      case_taken start at it answer starts made same put taken = item_taken s e old new l k high it at answer (ap is_chunked is) put taken (λ a o last one to P some reads once g own.
          let v = case_there a o last one to P reads g in
          let w = case_tree start starts o v.tree to P v.given (own_tree v.tree v.parts own) in
          let inside = behind_word o v.tree to P v.given in
          let marked : it.is_flagged ≡ d = ap (λ (z : ListItem). z.is_flagged) made in
          let spreads : it.spreads ≡ false = ap (λ (z : ListItem). z.spreads) made in
          let shape : it.shape ≡ value = ap (λ (z : ListItem). z.shape) made in
          record {
            tree = v.tree;
            parts = v.parts;
            unmarked = v.unmarked;
            fitting = record {
              fits = ap (λ y. item_fits y it a) is ∙ ap (item_fits (listed.Cases r) it) v.reading ∙ ap (λ z. item_fits (listed.Cases r) z as_expression) made;
              tree = ap (λ y. read_as y it.node) v.reading ∙ ap (λ (z : ListItem). z.node) made ∙ w.0;
              trails = λ p q. spreads;
              plain = λ p. ap (λ (z : CoverShape). z.is_expression) shape;
              once = λ y p. ap (λ z. l.seen.is_flagged && z) marked ∙ one_default a o last one to P v once;
              counted = (λ i. nat_le (default_seen (is i) (l.seen.is_flagged || marked i)) (case_count (is i) (part v.tree none) + default_seen (is i) l.seen.is_flagged)) ∙ marked_count v.tree to inside.inside inside.tree;
              target = λ p q. absurd (false≢true (sym (ap is_covers is) ∙ ap is_covers p));
            };
            ends = ends_behind {s = s} {m = m} same w.1;
          })
