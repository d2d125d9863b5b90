-- A statement that is given and begins with an expression, by what `statement` makes of that: a refusal, a label, or the statement of an expression (ECMA-262 13.5, 13.13, 14.1.1).
use Rattle.std.proofs.Common.{◌≡◌, inl, inr, ℕ, suc, ◌-◌, ◌≤◌, ◌<◌, arith, Bool, true, false, not, List, [], Result, Ok, Err, refl, sym, ap, ◌∙◌, subst}
use Rattle.std.specs.Prelude.{IsTrue, IfOk, IfErr, codes, ◌&&◌}
use Rattle.std.specs.Result.{IsErrAnd}
use Rattle.std.proofs.lemmas.Bool.{and_parts, false≢true}
use Rattle.source_text.specs.declared.fault.Fault.{Fault}
use Rattle.source_text.specs.declared.fault.Fault.TheVariants.{Syntax, TooDeep, OutOfMemory}
use Rattle.tokens.specs.declared.token.TokenClass.{TokenClass}
use Rattle.tokens.specs.declared.token.TokenClass.TheVariants.{Punctuator}
use Rattle.tokens.specs.declared.token.Goal.{Goal}
use Rattle.tokens.specs.Goals.{allows}
use Rattle.tokens.specs.declared.token.Token.{Token as Scanned}
use Rattle.tokens.specs.Scanned.{token_of}
use Rattle.token_cursor.specs.CursorState.{CursorState, IsAhead}
use Rattle.token_cursor.specs.StatementEnds.{EndsAt, IsEnd}
use Rattle.token_cursor.specs.declared.semicolon.StatementEnd.TheVariants.{AfterExpression}
use Rattle.tree.specs.declared.kind.Flags.{Flags}
use Rattle.tree.specs.declared.kind.Kind.TheVariants as kind
use Rattle.tree.specs.declared.kind.Pair.{Pair}
use Rattle.tree.specs.Tree.{Tree, node, Parts, none, part, join, plain, height, parts_height, kind_of, text_of}
use Rattle.language.specs.declared.Edge.TheVariants.{Closed}
use Rattle.language.specs.declared.Rank.TheVariants.{Grouped}
use Rattle.language.specs.declared.Start.{Start}
use Rattle.language.specs.declared.Start.TheVariants.{Any}
use Rattle.language.specs.StatementStart.{StatementStart, an_expression, statement_start}
use Rattle.language.specs.Covers.{as_expression}
use Rattle.language.specs.Edges.{edge, edge_as_written}
use Rattle.language.specs.Grammar.{spellings}
use Rattle.language.specs.Vocabulary.{precedence}
use Rattle.language.specs.Pieces.{expr, name, directive_string}
use Rattle.language.specs.Promises.{is_free}
use Rattle.language.specs.Statements.{is_string_literal}
use Rattle.language.specs.Token.{Token, as_read}
use Rattle.language.specs.Derivation.{Reads, Placed, direct, grouped}
use Rattle.language.specs.Claims.{max_open}
use Rattle.language.proofs.climbing.AsExpressions.{quoted_form}
use Rattle.language.proofs.table.Beginnings.{made_rank, too_tight, other_way}
use Rattle.language.proofs.climbing.Leaves.{name_form}
use Rattle.language.proofs.table.OwnTokenWays.{statement_spans}
use Rattle.language.proofs.table.SoleWays.{same_span, place_node}
use Rattle.token_cursor.proofs.SeenTokens.{seen_determined}
use Rattle.language.proofs.table.ViewIsComplete.{way_of, made}
use Rattle.parser_tables.specs.declared.operand.Operand.{Operand}
use Rattle.parser_tables.specs.declared.statements.StatementStart.{StatementStart as Coded}
use Rattle.parser_tables.specs.declared.statements.StatementStart.TheVariants as code
use Rattle.parser_tables.specs.declared.statements.StatementContext.{StatementContext}
use Rattle.parser_tables.specs.declared.statements.StatementKind.{StatementKind}
use Rattle.parser_tables.specs.declared.statements.StatementKind.TheVariants as headed
use Rattle.parser_tables.specs.StatementStarts.{coded_statement_start, BegunWith, NoAsyncFunction}
use Rattle.recursive_descent.specs.Complete.{ExpressionComplete, StatementComplete}
use Rattle.recursive_descent.specs.Soundness.{Adds, ReadAt, grouping}
use Rattle.recursive_descent.specs.SoundnessOfStatements.{context_role}
use Rattle.recursive_descent.specs.Completeness.{Agrees, Room, EndsWith, FinishedIn, IsRead}
use Rattle.parser_tables.specs.Operands.{is_group, is_lone_string}
use Rattle.parser_tables.specs.StatementSymbols.{statement_parts}
use Rattle.token_cursor.specs.Seen.{Sees, Misses}
use Rattle.parser_tables.specs.StatementNodes.{statement_node_kind, expression_statement_node, expression_statement_height, NoExpressionStatement}
use Rattle.recursive_descent.proofs.complete_expressions.Agreement.{agrees_on, refuses_high, read_here, ends_same, ends_before, not_missed}
use Rattle.recursive_descent.proofs.sound_statements.ExpressionStatements.{literal_role, group_taken}
use Rattle.recursive_descent.proofs.complete_statements.ExpressionStatementsGiven.{at_statement, LedGiven, LedOn, by_label, by_end, EndedBy, by_itself, by_string, by_group, led_given}
use Rattle.token_cursor.proofs.TokensAhead.{ahead_read}
use Rattle.recursive_descent.proofs.complete_statements.SymbolSteps.{PiecesFrom}
use Rattle.recursive_descent.proofs.complete_statements.KeywordStatementsGiven.{end_here}
use Rattle.recursive_descent.proofs.sound_statements.WholeStatements.{context_stands, headed_text}
use Rattle.recursive_descent.proofs.complete_statements.StatementAfterRead.{MainFor, MainGiven, once}
use Rattle.recursive_descent.proofs.complete_statements.StatementGiven.{no_async}
use Rattle.token_cursor.specs.SourceText.{SourceText, SeenNext, behind_in}
use Rattle.recursive_descent.specs.Spelled.{SpellsIn, OfLanguage}
use Rattle.recursive_descent.proofs.reading.LanguageTrees.{first_of_language, parts_of_language}
use Rattle.language.specs.Languages.{is_of_2022}

both : (a b c : Bool) → (a && (b && c)) ≡ ((a && b) && c)
both true b c = refl
both false b c = refl

-- what the code takes for an expression begins one
expression_begins : (b : StatementStart) → code.Expression ≡ coded_statement_start b → b ≡ an_expression
expression_begins an_expression h = refl
expression_begins _ h = cc

-- and no async function begins
by_token : {text : SourceText} {s : Token} {i : Bool} {by : Coded} → BegunWith text s i by code.Expression → (code.Expression ≡ by) × (is_of_2022 text.language ≡ true → i ≡ true → NoAsyncFunction text s)
by_token (inl h) = (let q = h.0 in cc)
by_token (inr h) = h

module _ (text : SourceText) where
  -- the first token of a group is a sign; of a name, or of a string, it is none
  group_begins : {o : ℕ} {f : Start} {n : Tree} {s e : Token} {P : List Pair} → SpellsIn text o (expr Grouped true f) n s e P → Sees text Punctuator (codes "(") s
  unfolding spellings
  group_begins (grouped {left = u} {m = k} p d q) = (k, read_here text p)
  group_begins {n = node k w g st en ps} (direct qs h pl d) = let v = way_of h in absurd (too_tight (precedence v.spelling.rank) (made_rank (made k v.listed)) (and_parts _ _ (and_parts _ _ v.fit).0).0)

  no_group : {c : TokenClass} {w : List ℕ} {s t e : Token} → is_free c ≡ true → (c ≡ Punctuator → ⊥) → Reads Token (SeenNext text) (behind_in text) c w s t e → Sees text Punctuator (codes "(") s → ⊥
  no_group {c} {w} {s} {t} {e} free other read seen =
      let r = seen.1 in
      let u = behind_in text seen.0 in
      let al : IsTrue (allows Goal.RegExp u.class u.text) = subst (λ x. IsTrue (allows Goal.RegExp x u.text)) (sym r.class) (subst (λ x. IsTrue (allows Goal.RegExp Punctuator x)) (sym r.text) refl) in
      let same = (seen_determined text).same Goal.RegExp s t u e seen.0 read.next r.next ((seen_determined text).free Goal.RegExp s t e read.next (ap is_free read.class ∙ free)) al in
      other (sym read.class ∙ ap (λ (x : Token). x.class) same.0 ∙ r.class)

  module _ {o : ℕ} {p : Operand} {s m : Token} {P : List Pair} (read : ReadAt text at_statement p o s m P) (fits : p.cover.shape.is_expression ≡ true) where
    -- a group begins with `(`
    group_seen : is_group p.rank ≡ true → Sees text Punctuator (codes "(") s
    group_seen h = group_begins (read.part.stands fits Grouped true (group_taken p.rank h) (λ j. refl))

    alone : (b : Bool) → is_group p.rank ≡ b → (Sees text Punctuator (codes "(") s → ⊥) → b ≡ false
    alone false h unseen = refl
    alone true h unseen = absurd (unseen (group_seen h))

    -- what is given as a name, or as a string by itself, isn't in parentheses
    name_alone : {q : ℕ} {n : Tree} {e : Token} {Q : List Pair} → SpellsIn text q name n s e Q → is_group p.rank ≡ false
    name_alone d = let u = name_form Token (SeenNext text) (behind_in text) (seen_determined text) d in
        alone (is_group p.rank) refl (λ seen. no_group refl (λ h. cc) u.0.reads seen)

    string_alone : {q : ℕ} {n : Tree} {e : Token} {Q : List Pair} → SpellsIn text q directive_string n s e Q → is_group p.rank ≡ false
    string_alone d = let u = quoted_form Token (SeenNext text) (behind_in text) (seen_determined text) d in
        alone (is_group p.rank) refl (λ seen. no_group refl (λ h. cc) u.reads seen)

    -- a string that is given in parentheses is in parentheses
    group_alone : {q : ℕ} {n : Tree} {e : Token} {Q : List Pair} → is_string_literal (kind_of p.cover.node) (text_of p.cover.node) ≡ true → SpellsIn text q (expr Grouped true Any) n s e Q → is_group p.rank ≡ true
    group_alone string d = of (is_group p.rank) refl
      where
        of : (b : Bool) → is_group p.rank ≡ b → b ≡ true
        of true h = refl
        of false h = let u = quoted_form Token (SeenNext text) (behind_in text) (seen_determined text) (read.part.bare directive_string h (literal_role p.cover.node string)) in
            absurd (no_group refl (λ j. cc) u.reads (group_begins d))

    -- whether it is a directive
    flags_told : {q : ℕ} {n : Tree} {e : Token} {Q : List Pair} {g : Flags} (b : Bool) → p.cover.node ≡ n → EndedBy text b q n s e Q g → record plain { directive = b && is_lone_string p } ≡ g
    flags_told b same (by_itself single) = of b (is_string_literal (kind_of p.cover.node) (text_of p.cover.node)) (λ h. ap (λ k. is_string_literal (kind_of k) (text_of k)) same ∙ single h)
      where
        of : (x y : Bool) → (x ≡ true → y ≡ false) → record plain { directive = x && (y && not (is_group p.rank)) } ≡ plain
        of false y h = refl
        of true y h = ap (λ (v : Bool). record plain { directive = v && not (is_group p.rank) }) (h refl)
    flags_told b same (by_string first string d) =
        (λ i. record plain { directive = first i && ((ap (λ k. is_string_literal (kind_of k) (text_of k)) same ∙ string) i && not (string_alone d i)) })
    flags_told b same (by_group first string d) =
        let here = ap (λ k. is_string_literal (kind_of k) (text_of k)) same ∙ string in
        (λ i. record plain { directive = first i && (here i && not (group_alone here d i)) })

module _ (s m : CursorState) (old mid : List Pair) (inner high : ℕ) (c : StatementContext) (t : Scanned) (ahead : IsAhead Goal.RegExp s.text s.last.stop (token_of t)) (begun : BegunWith s.text s.last c.is_item (coded_statement_start (statement_start c.is_item c.returns (as_read (token_of t)))) code.Expression) (less : inner ≡ high - 1) where
  starts : (code.Expression ≡ coded_statement_start (statement_start c.is_item c.returns (as_read (token_of t)))) × (is_of_2022 s.text.language ≡ true → c.is_item ≡ true → NoAsyncFunction s.text s.last)
  starts = by_token begun

  led : {o : ℕ} {n : Tree} {to : Token} {P : List Pair} → SpellsIn s.text o (context_role c) n s.last to P → FinishedIn s.text n to → OfLanguage s.text n → LedGiven s.text (c.is_item && c.is_prologue) c.returns o (context_role c) n s.last to P
  led spelled fine own =
      led_given s.text fine (other_way Token (SeenNext s.text) (behind_in s.text) (seen_determined s.text) (context_stands c) (ahead_read s.text Goal.RegExp s.last (token_of t) ahead) (expression_begins (statement_start c.is_item c.returns (as_read (token_of t))) starts.0)
      (no_async s.text c t s.last ahead starts.1 refl spelled own) spelled)

  -- its expression is of the language
  led_own : {o : ℕ} {n item : Tree} {mid to : Token} {one P : List Pair} → LedOn s.text (c.is_item && c.is_prologue) c.returns o (context_role c) n item s.last mid to one P → OfLanguage s.text n → OfLanguage s.text item
  led_own (by_end g tree there end missed sort pairs) own = first_of_language (parts_of_language (subst (OfLanguage s.text) tree own))
  led_own (by_label added more tree there named seen pieces pairs) own = first_of_language (parts_of_language (subst (OfLanguage s.text) tree own))

  -- the expression is refused
  pub expression_refused : (e : CursorState) (new : List Pair) (result : Result Tree Fault) (fault : Fault) → IsErrAnd result (λ x. x ≡ fault) → ExpressionComplete s m old mid inner at_statement (Err fault) → StatementComplete s e old new high c result
  expression_refused e new result fault is complete o n to P spelled fine own =
      let v = led spelled fine own in
      let low = v.low in
      agrees_on (Room s o (height v.item) inner) (Room s o (height n) high) (λ k. (k ≡ n) × EndsWith s e old new to P) result fault is (complete as_expression o v.item v.mid v.one v.given (led_own v.way own))
      (λ room. let most = room.1 in (room.0, subst (λ k. height v.item ≤ k) (sym less) (omega arith)))

  module _ (p : Operand) (same : m.text ≡ s.text) (complete : ExpressionComplete s m old mid inner at_statement (Ok p)) (read : Adds s m old mid (ReadAt s.text at_statement p)) where
    -- a label was read
    pub label_main : (h : StatementKind) (nodes : Parts) → h ≡ headed.Label → (kind_of p.cover.node ≡ kind.Identifier) × (is_group p.rank ≡ false) × Sees m.text Punctuator (codes ":") m.last → nodes ≡ part p.cover.node none → MainFor s m old mid c t h nodes
    label_main h nodes is label its o n to P spelled fine own = of v.way
      where
        v : LedGiven s.text (c.is_item && c.is_prologue) c.returns o (context_role c) n s.last to P
        v = led spelled fine own

        agrees : IsRead as_expression p v.item × EndsWith s m old mid v.mid v.one
        agrees = complete as_expression o v.item v.mid v.one v.given (led_own v.way own)

        colon : Sees s.text Punctuator (codes ":") v.mid
        colon = subst (λ k. Sees s.text Punctuator (codes ":") k) agrees.1.place (subst (λ x. Sees x Punctuator (codes ":") m.last) same label.2)

        of : LedOn s.text (c.is_item && c.is_prologue) c.returns o (context_role c) n v.item s.last v.mid to v.one P → MainGiven s m old mid c t h nodes o n to P
        of (by_end g tree there end missed sort pairs) = absurd (not_missed missed colon.1)
        of (by_label {st} {en} added more tree there named seen pieces pairs) =
            let place = same_span Token (SeenNext s.text) (behind_in s.text) (seen_determined s.text) {a = context_role c} (statement_spans (context_stands c)) (subst (λ k. Placed Token (SeenNext s.text) (behind_in s.text) (context_role c) k s.last to) tree there)
            (place_node Token (SeenNext s.text) (behind_in s.text) (seen_determined s.text) {k = kind.LabeledStatement} {w = []} {g = plain} {ps = part v.item added} (statement_spans (context_stands c)) (ahead_read s.text Goal.RegExp s.last (token_of t) ahead).next) refl in
            once (λ loop. cc (is, loop)) added v.one more
            (tree ∙ (λ i. node (statement_node_kind (sym is i)) (headed_text (sym is i) t.text.now) plain (place.0 i) (place.1 i) (part v.item added)) ∙ ap (λ k. node (statement_node_kind h) (headed_text h t.text.now) plain t.start to.stop (join k added)) (ap (λ k. part k none) (sym agrees.0.tree) ∙ sym its))
            (subst (λ k. PiecesFrom s.text c.returns o (statement_parts k c.returns) m.last to Closed added more) (sym is) (subst (λ k. PiecesFrom s.text c.returns o (statement_parts headed.Label c.returns) k to Closed added more) (sym agrees.1.place) pieces))
            pairs (subst (λ k. EndsWith s m old mid k v.one) (sym agrees.1.place) agrees.1)

    -- none was: the statement of the expression
    pub evaluated_given : (e : CursorState) (new : List Pair) (result : Result Tree Fault) → (kind_of p.cover.node ≡ kind.Identifier → is_group p.rank ≡ false → Misses m.text Punctuator (codes ":") m.last) → new ≡ mid →
        IfOk result (λ n. n ≡ expression_statement_node (c.is_item && (c.is_prologue && is_lone_string p)) p.start e.last.stop p.cover.node) → IfOk result (λ _. IsEnd m.text (AfterExpression p.edge) m.last e.last) → IfErr result (NoExpressionStatement m p high) → StatementComplete s e old new high c result
    evaluated_given e new result no_label kept made_so ends failed o n to P spelled fine own = of v.way result made_so ends failed
      where
        v : LedGiven s.text (c.is_item && c.is_prologue) c.returns o (context_role c) n s.last to P
        v = led spelled fine own

        agrees : IsRead as_expression p v.item × EndsWith s m old mid v.mid v.one
        agrees = complete as_expression o v.item v.mid v.one v.given (led_own v.way own)

        tree_is : p.cover.node ≡ v.item
        tree_is = agrees.0.tree

        here : ReadAt s.text at_statement p (max_open - s.opened) s.last m.last (grouping read.more)
        here = read.is

        of : LedOn s.text (c.is_item && c.is_prologue) c.returns o (context_role c) n v.item s.last v.mid to v.one P → (result : Result Tree Fault) → IfOk result (λ n. n ≡ expression_statement_node (c.is_item && (c.is_prologue && is_lone_string p)) p.start e.last.stop p.cover.node) → IfOk result (λ _. IsEnd m.text (AfterExpression p.edge) m.last e.last) →
            IfErr result (NoExpressionStatement m p high) → Agrees (Room s o (height n) high) (λ k. (k ≡ n) × EndsWith s e old new to P) result
        of (by_label added more tree there named seen pieces pairs) result made_so ends failed =
            let form = name_form Token (SeenNext s.text) (behind_in s.text) (seen_determined s.text) named in
            let colon = subst (λ k. Sees s.text Punctuator (codes ":") k) (sym agrees.1.place) seen in
            absurd (not_missed (subst (λ x. Misses x Punctuator (codes ":") m.last) same (no_label (ap kind_of (tree_is ∙ form.0.tree)) (name_alone s.text here agrees.0.fits named))) colon.1)
        of (by_end {st} {en} g tree there end missed sort pairs) result made_so ends failed = answered result made_so ends failed
          where
            behind_it : EndsAt m.text (AfterExpression p.edge) m.last to
            behind_it = subst (λ x. EndsAt x (AfterExpression p.edge) m.last to) (sym same) (subst (λ y. EndsAt s.text (AfterExpression y) m.last to) (sym here.part.edge)
                (subst (λ k. EndsAt s.text (AfterExpression (edge_as_written (edge k) m.last)) m.last to) (sym tree_is) (subst (λ k. EndsAt s.text (AfterExpression (edge_as_written (edge v.item) k)) k to) (sym agrees.1.place) (end_here s.text end))))

            answered : (result : Result Tree Fault) → IfOk result (λ n. n ≡ expression_statement_node (c.is_item && (c.is_prologue && is_lone_string p)) p.start e.last.stop p.cover.node) → IfOk result (λ _. IsEnd m.text (AfterExpression p.edge) m.last e.last) → IfErr result (NoExpressionStatement m p high) →
                Agrees (Room s o (height n) high) (λ k. (k ≡ n) × EndsWith s e old new to P) result
            answered (Ok k) made_so ends failed =
                let last : e.last ≡ to = sym (ends.only to behind_it) in
                let place = same_span Token (SeenNext s.text) (behind_in s.text) (seen_determined s.text) {a = context_role c} (statement_spans (context_stands c)) (subst (λ k. Placed Token (SeenNext s.text) (behind_in s.text) (context_role c) k s.last to) tree there)
                (place_node Token (SeenNext s.text) (behind_in s.text) (seen_determined s.text) {k = kind.ExpressionStatement} {w = []} {g = g} {ps = part v.item none} (statement_spans (context_stands c)) here.part.begins.next) refl in
                let flags : record plain { directive = (c.is_item && c.is_prologue) && is_lone_string p } ≡ g = flags_told s.text here agrees.0.fits (c.is_item && c.is_prologue) tree_is sort in
                let start : p.start ≡ st = sym here.part.begins.start ∙ sym place.0 in
                let stop : e.last.stop ≡ en = ap (λ (x : Token). x.stop) last ∙ sym place.1 in
                (made_so ∙ ap (λ b. expression_statement_node b p.start e.last.stop p.cover.node) (both c.is_item c.is_prologue (is_lone_string p)) ∙ (λ i. node kind.ExpressionStatement [] (flags i) (start i) (stop i) (part (tree_is i) none)) ∙ sym tree, ends_same (sym pairs) (ends_before agrees.1 last kept))
            answered (Err (Syntax at)) made_so ends (inl unfit) = absurd (false≢true (sym unfit ∙ agrees.0.fits))
            answered (Err (Syntax at)) made_so ends (inr endless) = absurd (endless to behind_it)
            answered (Err TooDeep) made_so ends failed =
                let tall : height n ≡ expression_statement_height p = ap height tree ∙ ap (λ k. suc (parts_height (part k none))) (sym tree_is) in
                refuses_high (Room s o (height n) high) (height n) high TooDeep refl (subst (λ k. high < k) (sym tall) failed.1) (λ room. room.1)
            answered (Err OutOfMemory) made_so ends failed = tt
            answered (Err _) made_so ends failed = absurd failed
