-- A `for await` that is given, behind its `for`: its word, and the pieces of a `for` with `of` behind it (ECMA-262, 13th edition, 14.7.5).
use Rattle.std.proofs.Common.{◌≡◌, ℕ, suc, ◌-◌, ◌≤◌, arith, Bool, true, false, List, [], ◌∷◌, Result, Ok, Err, refl, sym, ap, ◌∙◌, subst}
use Rattle.std.specs.Prelude.{codes, ◌&&◌}
use Rattle.std.specs.Result.{IsErrAnd}
use Rattle.std.proofs.lemmas.Bool.{false≢true}
use Rattle.source_text.specs.declared.fault.Fault.{Fault}
use Rattle.tokens.specs.declared.token.TokenClass.TheVariants.{Punctuator, Keyword}
use Rattle.tokens.specs.declared.token.Goal.{Goal}
use Rattle.tokens.specs.declared.token.Goal.TheVariants.{Div}
use Rattle.tokens.specs.declared.token.Token.{Token as Scanned}
use Rattle.tokens.specs.Scanned.{token_of}
use Rattle.token_cursor.specs.CursorState.{CursorState, IsAhead}
use Rattle.token_cursor.specs.Seen.{ReadsHere, Misses, Sees}
use Rattle.token_cursor.specs.SourceText.{SourceText, SeenNext, behind_in, unseen}
use Rattle.token_cursor.proofs.SeenTokens.{seen_determined}
use Rattle.token_cursor.proofs.TokensAhead.{mark_by}
use Rattle.tree.specs.declared.kind.Form.{Form}
use Rattle.tree.specs.declared.kind.Form.TheVariants.{Init, Async}
use Rattle.tree.specs.declared.kind.Kind.{Kind}
use Rattle.tree.specs.declared.kind.Kind.TheVariants.{ForStatement, ForInStatement, ForOfStatement}
use Rattle.tree.specs.declared.kind.Pair.{Pair}
use Rattle.tree.specs.Tree.{Tree, node, Parts, none, join, bare_parts, height, parts_height}
use Rattle.tree.specs.Uses.{is_init}
use Rattle.productions.specs.Made.{Makes}
use Rattle.language.specs.declared.Edge.TheVariants.{Closed}
use Rattle.language.specs.declared.Rank.TheVariants.{Expression}
use Rattle.language.specs.declared.Start.TheVariants.{Any}
use Rattle.language.specs.Claims.{max_open}
use Rattle.language.specs.Edges.{last_ends_in_if}
use Rattle.language.specs.Following.{Followed}
use Rattle.language.specs.Pieces.{tok}
use Rattle.language.specs.Promises.{is_free}
use Rattle.language.specs.StatementStart.{StatementStart, a_for, an_expression, statement_start}
use Rattle.language.specs.Token.{Token, as_read}
use Rattle.language.specs.Derivation.{Reads, Placed}
use Rattle.language.proofs.list_loops.FirstPieces.{run_token, run_laid, run_never}
use Rattle.language.proofs.table.Begins.{goes_to, retell}
use Rattle.language.proofs.table.Begins as begins
use Rattle.language.proofs.table.Beginnings.{form_flags, Viewed, its_own, another, later, viewed, LaterWay, later_for, later_generator, later_async}
use Rattle.language.proofs.table.OwnTokenWays.{statement_spans}
use Rattle.language.proofs.table.SoleWays.{same_span, place_node}
use Rattle.language.proofs.table.StatementWays.{begins_as, behind_own, for_of_pieces}
use Rattle.parser_tables.specs.declared.statements.StatementContext.{StatementContext}
use Rattle.parser_tables.specs.declared.statements.StatementKind.TheVariants as headed
use Rattle.parser_tables.specs.declared.symbol_lists.PartialStatement.{PartialStatement}
use Rattle.parser_tables.specs.StatementSymbols.{Piece, statement_parts}
use Rattle.recursive_descent.specs.Complete.{SymbolsComplete, StatementComplete}
use Rattle.recursive_descent.specs.Completeness.{Agrees, Room, EndsWith, FinishedIn}
use Rattle.recursive_descent.specs.CompletenessOfStatements.{has_edges}
use Rattle.recursive_descent.specs.Later.{for_await_pieces, ForAwaitComplete}
use Rattle.recursive_descent.specs.Soundness.{RunsIn, anywhere}
use Rattle.recursive_descent.specs.SoundnessOfStatements.{context_role}
use Rattle.recursive_descent.specs.Spelled.{SpellsIn, OfLanguage, AllOfLanguage}
use Rattle.recursive_descent.proofs.reading.LanguageTrees.{parts_of_language, join_of_language}
use Rattle.recursive_descent.proofs.complete_expressions.Agreement.{agrees_on, refuses_high, ends_both, ends_behind, ends_same, read_here, not_missed, agrees_map}
use Rattle.recursive_descent.proofs.sound_statements.ForAwait.{for_left_bare, behind_await}
use Rattle.recursive_descent.proofs.sound_statements.WholeStatements.{context_stands}
use Rattle.recursive_descent.proofs.complete_statements.ForStatements.{ForGiven, for_of_given}
use Rattle.recursive_descent.proofs.complete_statements.StatementAfterRead.{edges_known, join_low, pieces_there}
use Rattle.recursive_descent.proofs.complete_statements.StatementGiven.{read}
use Rattle.recursive_descent.proofs.complete_statements.SymbolSteps.{PiecesFrom}

-- two keywords that are read at one place
keywords_same : (text : SourceText) {v w : List ℕ} {s t e u k : Token} → Reads Token (SeenNext text) (behind_in text) Keyword v s t e → Reads Token (SeenNext text) (behind_in text) Keyword w s u k → (t ≡ u) × (e ≡ k)
keywords_same text {s = s} {t = t} {e = e} {u = u} {k = k} a b = (seen_determined text).same Div s t u e k a.next b.next ((seen_determined text).free Div s t e a.next (ap is_free a.class)) ((seen_determined text).free Div s u k b.next (ap is_free b.class))

-- the word, and what stands behind it
record AwaitGiven (text : SourceText) (r : Bool) (o : ℕ) (ps : Parts) (s to : Token) (P : List Pair) : Type 0 where
  mid : Token
  word : ReadsHere text Keyword (codes "await") s mid
  behind : ForGiven text r o headed.ForOf Closed ps mid to P

await_given : (text : SourceText) (r : Bool) {o : ℕ} (ps : Parts) {s to : Token} {P : List Pair} → Followed Token (SeenNext text) (behind_in text) (last_ends_in_if ps) to → RunsIn text o (anywhere (for_await_pieces r ps)) ps s to P → AwaitGiven text r o ps s to P
await_given text r ps fine d =
    let t = run_token Token (SeenNext text) (behind_in text) d in
    record { mid = t.mid; word = read_here text t.reads; behind = for_of_given text r Closed ps fine (retell Token (SeenNext text) (behind_in text) (ap (λ x. anywhere (behind_await r x)) (sym (for_left_bare ps))) t.runs) }

-- where no `await` stands, none is given
pub await_missed : {text : SourceText} {r : Bool} {o : ℕ} {ps : Parts} {s to : Token} {P : List Pair} → Misses text Keyword (codes "await") s → RunsIn text o (anywhere (for_await_pieces r ps)) ps s to P → ⊥
await_missed {text} missed d = not_missed missed (run_token Token (SeenNext text) (behind_in text) d).reads

module _ (s m : CursorState) (old q0 : List Pair) (r : Bool) (start high inner : ℕ) (heads : List Piece) (b : PartialStatement) (word : ReadsHere s.text Keyword (codes "await") s.last m.last) (same : m.text ≡ s.text) (same_open : m.opened ≡ s.opened) (pairs : q0 ≡ old) (less : inner ≡ high - 1) (empty : b.nodes ≡ none) (edge : b.edge ≡ Closed)
    (heads_are : heads ≡ statement_parts headed.For r) where
  -- what is given behind the word
  abbrev Behind : ℕ → Parts → Token → List Pair → Type 0
  Behind o ps to P = ForGiven s.text r o headed.ForOf Closed ps m.last to P

  behind_here : {o : ℕ} {ps : Parts} {to : Token} {P : List Pair} → RunsIn s.text o (anywhere (for_await_pieces r ps)) ps s.last to P → FinishedIn s.text (node ForOfStatement [] (form_flags Async) start to.stop ps) to → Behind o ps to P
  behind_here {o} {ps} {to} {P} d fine =
      let v = await_given s.text r ps fine d in
      subst (λ z. ForGiven s.text r o headed.ForOf Closed ps z to P) (keywords_same s.text v.word word).1 v.behind

  own_parts : {o : ℕ} {ps : Parts} {to : Token} {P : List Pair} (u : Behind o ps to P) → AllOfLanguage s.text ps → AllOfLanguage s.text u.lead × AllOfLanguage s.text u.others
  own_parts u own = join_of_language u.lead u.others (subst (AllOfLanguage s.text) u.parts own)

  low_parts : {o : ℕ} {ps : Parts} {to : Token} {P : List Pair} (u : Behind o ps to P) → (parts_height u.lead ≤ parts_height ps) × (parts_height u.others ≤ parts_height ps)
  low_parts {ps = ps} u = join_low u.lead u.others (parts_height ps) (subst (λ k. parts_height k ≤ parts_height ps) u.parts (omega arith))

  known : has_edges heads ≡ true
  known = ap has_edges heads_are ∙ edges_known headed.For r

  -- what stands first in its head is refused
  pub head_refused : (k z : CursorState) (mid last : List Pair) (c : PartialStatement) (result : Result Tree Fault) (fault : Fault) → IsErrAnd result (λ x. x ≡ fault) → SymbolsComplete m k q0 mid inner heads r b c (Err fault) → ForAwaitComplete s z old last high r start result
  head_refused k z mid last c result fault is complete ps o to P d fine own =
      let u = behind_here d fine in
      let low = (low_parts u).0 in
      agrees_on (Room m o (parts_height u.lead) inner) (Room s o (suc (parts_height ps)) high) (λ n. (n ≡ node ForOfStatement [] (form_flags Async) start to.stop ps) × EndsWith s z old last to P) result fault is
      (complete o u.head.right u.lead u.mid u.one known (pieces_there headed.For m b same heads_are edge u.head) (subst (λ t. AllOfLanguage t u.lead) (sym same) (own_parts u own).0))
      (λ room. let most = room.1 in (subst (λ x. o ≤ max_open - x) (sym same_open) room.0, subst (λ x. parts_height u.lead ≤ x) (sym less) (omega arith)))

  module _ (k : CursorState) (mid : List Pair) (c : PartialStatement) (text_k : k.text ≡ m.text) (open_k : k.opened ≡ m.opened) (complete : SymbolsComplete m k q0 mid inner heads r b c (Ok tt)) (rests : List Piece) (rests_are : rests ≡ statement_parts headed.ForOf r) where
    -- it was read
    record HeadRead (o : ℕ) (ps : Parts) (to : Token) (P : List Pair) : Type 0 where
      u : Behind o ps to P
      nodes : c.nodes ≡ u.lead
      ends : EndsWith m k q0 mid u.mid u.one
      rest : PiecesFrom s.text r o (statement_parts headed.ForOf r) k.last to c.edge u.others u.more
      own : AllOfLanguage s.text u.others

    head_read : {o : ℕ} {ps : Parts} {to : Token} {P : List Pair} → RunsIn s.text o (anywhere (for_await_pieces r ps)) ps s.last to P → FinishedIn s.text (node ForOfStatement [] (form_flags Async) start to.stop ps) to → AllOfLanguage s.text ps → HeadRead o ps to P
    head_read {o} {to = to} d fine own =
        let u = behind_here d fine in
        let agrees = complete o u.head.right u.lead u.mid u.one known (pieces_there headed.For m b same heads_are edge u.head) (subst (λ t. AllOfLanguage t u.lead) (sym same) (own_parts u own).0) in
        record {
          u = u;
          nodes = agrees.0 ∙ ap (λ x. join x u.lead) empty;
          ends = agrees.1;
          rest = subst (λ x. PiecesFrom s.text r o (statement_parts headed.ForOf r) x to c.edge u.others u.more) (sym agrees.1.place) (u.behind c.edge);
          own = (own_parts u own).1;
        }

    known_rest : has_edges rests ≡ true
    known_rest = ap has_edges rests_are ∙ edges_known headed.ForOf r

    -- the others are refused
    pub rest_refused : (e z : CursorState) (new last : List Pair) (f : PartialStatement) (result : Result Tree Fault) (fault : Fault) → IsErrAnd result (λ x. x ≡ fault) → SymbolsComplete k e mid new inner rests r c f (Err fault) → ForAwaitComplete s z old last high r start result
    rest_refused e z new last f result fault is complete_rest ps o to P d fine own =
        let v = head_read d fine own in
        let low = (low_parts v.u).1 in
        agrees_on (Room k o (parts_height v.u.others) inner) (Room s o (suc (parts_height ps)) high) (λ n. (n ≡ node ForOfStatement [] (form_flags Async) start to.stop ps) × EndsWith s z old last to P) result fault is
        (complete_rest o v.rest.right v.u.others to v.u.more known_rest (pieces_there headed.ForOf k c (text_k ∙ same) rests_are refl v.rest) (subst (λ t. AllOfLanguage t v.u.others) (sym (text_k ∙ same)) v.own))
        (λ room. let most = room.1 in (subst (λ x. o ≤ max_open - x) (sym (open_k ∙ same_open)) room.0, subst (λ x. parts_height v.u.others ≤ x) (sym less) (omega arith)))

    -- they were read: what is made
    pub await_made : (e : CursorState) (new : List Pair) (f : PartialStatement) (result : Result Tree Fault) → SymbolsComplete k e mid new inner rests r c f (Ok tt) → Makes (node ForOfStatement [] (form_flags Async) start e.last.stop f.nodes) high result → ForAwaitComplete s e old new high r start result
    await_made e new f result complete_rest makes ps o to P d fine own =
        let v = head_read d fine own in
        let agrees = complete_rest o v.rest.right v.u.others to v.u.more known_rest (pieces_there headed.ForOf k c (text_k ∙ same) rests_are refl v.rest) (subst (λ t. AllOfLanguage t v.u.others) (sym (text_k ∙ same)) v.own) in
        let parts : f.nodes ≡ ps = agrees.0 ∙ ap (λ x. join x v.u.others) v.nodes ∙ sym v.u.parts in
        let first : EndsWith m k q0 mid k.last v.u.one = subst (λ x. EndsWith m k q0 mid x v.u.one) (sym v.ends.place) v.ends in
        let ends : EndsWith s e old new to P = ends_same (sym v.u.pairs) (ends_behind {m = m} pairs (ends_both first agrees.1)) in
        of result makes parts ends
      where
        of : (result : Result Tree Fault) → Makes (node ForOfStatement [] (form_flags Async) start e.last.stop f.nodes) high result → f.nodes ≡ ps → EndsWith s e old new to P → Agrees (Room s o (suc (parts_height ps)) high) (λ n. (n ≡ node ForOfStatement [] (form_flags Async) start to.stop ps) × EndsWith s e old new to P) result
        of (Ok n) k parts ends = (k.0 ∙ (λ i. node ForOfStatement [] (form_flags Async) start ((ends.place i).stop) (parts i)), ends)
        of (Err fault) k parts ends = refuses_high (Room s o (suc (parts_height ps)) high) (suc (parts_height f.nodes)) high fault k.0 k.1 (λ room. subst (λ w. suc (parts_height w) ≤ high) (sym parts) room.1)

-- a `for` with `await` behind its word is such a statement
module _ (text : SourceText) {s e : Token} where
  no_paren : ReadsHere text Keyword (codes "await") s e → {t k : Token} → Reads Token (SeenNext text) (behind_in text) Punctuator (codes "(") s t k → ⊥
  no_paren word {t} {k} sign = other (sym word.class ∙ ap (λ (x : Token). x.class) ((seen_determined text).same Div s (behind_in text e) t e k word.next sign.next ((seen_determined text).free Div s (behind_in text e) e word.next (ap is_free word.class)) (mark_by text sign).allowed).0 ∙ sign.class)
    where
      other : Keyword ≡ Punctuator → ⊥
      other h = cc

  no_plain : ReadsHere text Keyword (codes "await") s e → (r : Bool) (k : Kind) {o : ℕ} {ps : Parts} {to : Token} {P : List Pair} → begins_as k ≡ a_for → RunsIn text o (goes_to Expression true Any (behind_own r k (bare_parts ps))) ps s to P → ⊥
  no_plain word r ForStatement h d = no_paren word (run_token Token (SeenNext text) (behind_in text) (run_laid Token (SeenNext text) (behind_in text) d)).reads
  no_plain word r ForInStatement h d = no_paren word (run_token Token (SeenNext text) (behind_in text) (run_laid Token (SeenNext text) (behind_in text) d)).reads
  no_plain word r ForOfStatement h d = no_paren word (run_token Token (SeenNext text) (behind_in text) (run_laid Token (SeenNext text) (behind_in text) d)).reads
  no_plain word r _ h d = cc

record AwaitTold (text : SourceText) (c : StatementContext) (o : ℕ) (n : Tree) (s m to : Token) (P : List Pair) : Type 0 where
  st : ℕ
  en : ℕ
  parts : Parts
  tree : n ≡ node ForOfStatement [] (form_flags Async) st en parts
  placed : Placed Token (SeenNext text) (behind_in text) (context_role c) n s to
  runs : RunsIn text o (anywhere (for_await_pieces c.returns parts)) parts m to P

module _ (s m : CursorState) (c : StatementContext) (t : Scanned) (ahead : IsAhead Goal.RegExp s.text s.last.stop (token_of t)) (begun : statement_start c.is_item c.returns (as_read (token_of t)) ≡ a_for) (text : m.text ≡ s.text) (last : m.last ≡ unseen (as_read (token_of t))) (word : Sees m.text Keyword (codes "await") m.last) where
  here : ReadsHere s.text Keyword (codes "await") (unseen (as_read (token_of t))) word.0
  here = subst (λ z. ReadsHere s.text Keyword (codes "await") z word.0) last (subst (λ z. ReadsHere z Keyword (codes "await") m.last word.0) text word.1)

  await_told : {o : ℕ} {n : Tree} {to : Token} {P : List Pair} → SpellsIn s.text o (context_role c) n s.last to P → AwaitTold s.text c o n s.last (unseen (as_read (token_of t))) to P
  await_told {o} {n} {to} {P} spelled = of (viewed Token (SeenNext s.text) (behind_in s.text) (seen_determined s.text) (context_stands c) (read s.text c t s.last ahead) spelled)
    where
      by : {b : StatementStart} → b ≡ a_for → LaterWay Token (SeenNext s.text) (behind_in s.text) (seen_determined s.text) c.returns o (context_role c) (as_read (token_of t)) (unseen (as_read (token_of t))) n s.last to P b → AwaitTold s.text c o n s.last (unseen (as_read (token_of t))) to P
      by is (later_for {z = z} {st = st} {en = en} {ps = ps} h tree pl run) = formed z h tree run
        where
          formed : (z : Form) → is_init z ≡ false → n ≡ node ForOfStatement [] (form_flags z) st en ps → RunsIn s.text o (begins.behind_first (goes_to Expression true Any (for_of_pieces c.returns z (bare_parts ps)))) ps (unseen (as_read (token_of t))) to P → AwaitTold s.text c o n s.last (unseen (as_read (token_of t))) to P
          formed Init h tree run = absurd (false≢true (sym h))
          formed Async h tree run = record {
            st = st;
            en = en;
            parts = ps;
            tree = tree;
            placed = pl;
            runs = retell Token (SeenNext s.text) (behind_in s.text) (ap (λ x. anywhere (tok Keyword (codes "await") ∷ behind_await c.returns x)) (for_left_bare ps)) (run_laid Token (SeenNext s.text) (behind_in s.text) run);
          }
          formed _ h tree run = absurd (run_never Token (SeenNext s.text) (behind_in s.text) (run_laid Token (SeenNext s.text) (behind_in s.text) run))
      by is (later_generator tree pl run) = cc
      by is (later_async k w z tree pl run) = cc

      of : Viewed Token (SeenNext s.text) (behind_in s.text) (seen_determined s.text) (c.is_item && c.is_prologue) c.returns o (context_role c) (as_read (token_of t)) (unseen (as_read (token_of t))) n s.last to P (statement_start c.is_item c.returns (as_read (token_of t))) → AwaitTold s.text c o n s.last (unseen (as_read (token_of t))) to P
      of (its_own h u) = absurd (no_plain s.text here c.returns u.kind (u.begins ∙ begun) u.runs)
      of (another h u) = (let q : a_for ≡ an_expression = sym begun ∙ h in cc)
      of (later u) = by begun u

  pub await_stated_given : (e : CursorState) (old mid new : List Pair) (high : ℕ) (result : Result Tree Fault) → m.opened ≡ s.opened → mid ≡ old → ForAwaitComplete m e mid new high c.returns t.start result → StatementComplete s e old new high c result
  await_stated_given e old mid new high result same_open same complete o n to P spelled fine own =
      let g = await_told spelled in
      let place = same_span Token (SeenNext s.text) (behind_in s.text) (seen_determined s.text) {a = context_role c} (statement_spans (context_stands c)) (subst (λ z. Placed Token (SeenNext s.text) (behind_in s.text) (context_role c) z s.last to) g.tree g.placed)
      (place_node Token (SeenNext s.text) (behind_in s.text) (seen_determined s.text) {k = ForOfStatement} {w = []} {g = form_flags Async} {ps = g.parts} (statement_spans (context_stands c)) (read s.text c t s.last ahead).next) refl in
      let made : Tree = node ForOfStatement [] (form_flags Async) t.start to.stop g.parts in
      let tree : n ≡ made = g.tree ∙ (λ i. node ForOfStatement [] (form_flags Async) (place.0 i) (place.1 i) g.parts) in
      let tall : height n ≡ suc (parts_height g.parts) = ap height g.tree in
      agrees_map (Room m o (suc (parts_height g.parts)) high) (Room s o (height n) high) (λ x. (x ≡ made) × EndsWith m e mid new to P) (λ x. (x ≡ n) × EndsWith s e old new to P) result
      (complete g.parts o to P (subst (λ z. RunsIn m.text o (anywhere (for_await_pieces c.returns g.parts)) g.parts z to P) (sym last) (subst (λ z. RunsIn z o (anywhere (for_await_pieces c.returns g.parts)) g.parts (unseen (as_read (token_of t))) to P) (sym text) g.runs))
      (subst (λ z. FinishedIn z made to) (sym text) (subst (λ z. FinishedIn s.text z to) tree fine)) (subst (λ z. AllOfLanguage z g.parts) (sym text) (parts_of_language (subst (OfLanguage s.text) g.tree own))))
      (λ room. (subst (λ z. o ≤ max_open - z) (sym same_open) room.0, subst (λ z. z ≤ high) tall room.1)) (λ x h. (h.0 ∙ sym tree, ends_behind same h.1))
