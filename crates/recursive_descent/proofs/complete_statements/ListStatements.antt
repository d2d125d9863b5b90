-- Statements that are given and hold a list, and `try`: a block, a declaration, `switch`: their pieces (ECMA-262 13.2, 13.3, 13.12, 13.15).
use Rattle.std.proofs.Common.{◌≡◌, inl, inr, ℕ, Bool, true, false, cond, List, [], ◌∷◌, ◌++◌, refl, sym, ap, ◌∙◌, subst, append_assoc}
use Rattle.std.specs.Prelude.{IsTrue, codes, nat_le, ◌&&◌}
use Rattle.std.specs.Str.{bytes_eq}
use Rattle.std.proofs.lemmas.Bool.{false≢true}
use Rattle.std.proofs.lemmas.List.{append-nil}
use Rattle.tokens.specs.declared.token.TokenClass.TheVariants.{IdentifierName, Punctuator}
use Rattle.tokens.specs.declared.token.Goal.{Goal}
use Rattle.tokens.specs.declared.token.Goal.TheVariants.{Div}
use Rattle.tokens.specs.Goals.{allows}
use Rattle.tree.specs.declared.kind.Kind.TheVariants as kind
use Rattle.tree.specs.declared.kind.Pair.{Pair}
use Rattle.tree.specs.Tree.{Tree, Parts, none, part, gap, bare_parts}
use Rattle.language.specs.declared.Edge.{Edge}
use Rattle.language.specs.FirstPart.{others}
use Rattle.language.specs.Vocabulary.{is, is_reserved}
use Rattle.language.specs.Edges.{edge, edge_as_written, last_edge}
use Rattle.language.specs.Following.{Followed, may_follow}
use Rattle.language.specs.Pieces.{Role, Piece, item, declarator, switch_case, lay, line, shallower, ending, behind, sign, sp, nothing}
use Rattle.language.specs.Promises.{is_free}
use Rattle.language.specs.Statements.{prologue, lines, declarators, defaults, whole}
use Rattle.language.specs.Token.{Token, same_class}
use Rattle.language.specs.Derivation.{Step, explicit, implicit, done, step, within, laid, token}
use Rattle.language.proofs.table.BareEdges.{last_edge_bare}
use Rattle.language.proofs.table.Begins.{retell}
use Rattle.language.proofs.list_loops.DeclaratorLists.{before_declarator, its_end, end_declared}
use Rattle.language.proofs.table.ForDeclarationWays.{two_signs}
use Rattle.language.proofs.list_loops.FirstPieces.{run_none, run_token, run_laid, run_never, run_the_part, run_the_gap}
use Rattle.language.proofs.list_loops.PiecesSoFar.{run_end}
use Rattle.language.proofs.table.StatementWays.{behind_own, behind_brace}
use Rattle.recursive_descent.proofs.complete_subscripts.SubscriptsGiven.{alike}
use Rattle.token_cursor.proofs.SeenTokens.{seen_determined}
use Rattle.recursive_descent.specs.Soundness.{RunsIn, anywhere}
use Rattle.recursive_descent.specs.SoundnessOfStatements.{PutAt}
use Rattle.recursive_descent.specs.CompletenessOfLists.{LastDeclared}
use Rattle.parser_tables.specs.StatementSymbols as Parsed
use Rattle.parser_tables.specs.StatementSymbols.{statement_parts}
use Rattle.token_cursor.specs.Seen.{ReadsHere, SeesBy, Misses}
use Rattle.parser_tables.specs.Tests.{ends}
use Rattle.parser_tables.specs.declared.statements.StatementKind.TheVariants as headed
use Rattle.parser_tables.specs.declared.statements.StatementListEnd.TheVariants as until
use Rattle.covers.specs.declared.list.ListKind.TheVariants as listed
use Rattle.recursive_descent.proofs.complete_expressions.Agreement.{read_here}
use Rattle.recursive_descent.proofs.sound_lists.OneMoreItem.{join_none}
use Rattle.token_cursor.proofs.TokensAhead.{mark_by}
use Rattle.recursive_descent.proofs.sound_statements.KeywordStatements.{defaults_bare}
use Rattle.recursive_descent.proofs.complete_statements.SymbolSteps.{PiecesFrom, pieces_as, no_pieces, token_first, mark_first, put_first, gap_first, parts_first, condition_given, condition_first}
use Rattle.recursive_descent.proofs.complete_statements.KeywordStatementsGiven.{end_here}
use Rattle.token_cursor.specs.SourceText.{SourceText, SeenNext, behind_in}
use Rattle.recursive_descent.specs.Spelled.{SpellsIn}

module _ (text : SourceText) where
  abbrev FollowedIn : Token → Type 0
  FollowedIn e = Followed Token (SeenNext text) (behind_in text) false e

  -- lines with another end over which the same runs
  lines_end : {o : ℕ} (a : Role) (zs : List Piece) → ((s e : Token) (P : List Pair) → RunsIn text o (anywhere zs) none s e P → RunsIn text o (anywhere (sign "}" ∷ [])) none s e P) → (ps : Parts) {s e : Token} {P : List Pair} → RunsIn text o (anywhere (lines a (bare_parts ps) ++ zs)) ps s e P →
      RunsIn text o (anywhere (lines a ps ++ sign "}" ∷ [])) ps s e P
  lines_end a zs f none {s} {e} {P} d = f s e P d
  lines_end a zs f (gap ps) d = absurd (run_never Token (SeenNext text) (behind_in text) d)
  lines_end {o} a zs f (part n ps) {s} {e} d =
      let v = run_the_part Token (SeenNext text) (behind_in text) (run_laid Token (SeenNext text) (behind_in text) d) in
      subst (λ Q. RunsIn text o (anywhere (lines a (part n ps) ++ sign "}" ∷ [])) (part n ps) s e Q) (sym v.pairs) (step laid (within v.spelled (lines_end a zs f ps v.runs)))

  braced_lines : {o : ℕ} (a : Role) (ps : Parts) {s e : Token} {P : List Pair} → RunsIn text o (anywhere (behind_brace (bare_parts ps) (lines a (bare_parts ps)))) ps s e P → RunsIn text o (anywhere (lines a ps ++ sign "}" ∷ [])) ps s e P
  braced_lines a none d = d
  braced_lines a (gap ps) d = absurd (run_never Token (SeenNext text) (behind_in text) (run_laid Token (SeenNext text) (behind_in text) d))
  braced_lines a (part n ps) d =
      lines_end a (lay shallower ∷ lay line ∷ sign "}" ∷ []) (λ s e P u. run_laid Token (SeenNext text) (behind_in text) (run_laid Token (SeenNext text) (behind_in text) u)) (part n ps)
      (retell Token (SeenNext text) (behind_in text) (ap anywhere (append_assoc (lines a (bare_parts (part n ps))) (lay shallower ∷ lay line ∷ []) (sign "}" ∷ []))) (run_laid Token (SeenNext text) (behind_in text) d))

  -- items, and the brace behind them
  record ItemsRun (o : ℕ) (r : Bool) (ps : Parts) (s e : Token) (P : List Pair) : Type 0 where
    mid : Token
    runs : RunsIn text o (anywhere (prologue r false [] [] ps)) ps s mid P
    closes : ReadsHere text Punctuator (codes "}") mid e

  items_run : {o : ℕ} (r : Bool) (ps : Parts) {s e : Token} {P : List Pair} → RunsIn text o (anywhere (lines (item r) ps ++ sign "}" ∷ [])) ps s e P → ItemsRun o r ps s e P
  items_run {o} r none {s} {e} d =
      let t = run_token Token (SeenNext text) (behind_in text) d in
      let z = run_none Token (SeenNext text) (behind_in text) t.runs in
      record { mid = s; runs = subst (λ Q. RunsIn text o [] none s s Q) (sym z.pairs) done; closes = subst (λ k. ReadsHere text Punctuator (codes "}") s k) z.place (read_here text t.reads) }
  items_run r (gap ps) d = absurd (run_never Token (SeenNext text) (behind_in text) d)
  items_run {o} r (part n ps) {s} d =
      let v = run_the_part Token (SeenNext text) (behind_in text) (run_laid Token (SeenNext text) (behind_in text) d) in
      let w = items_run r ps v.runs in
      record { mid = w.mid; runs = subst (λ Q. RunsIn text o (anywhere (prologue r false [] [] (part n ps))) (part n ps) s w.mid Q) (sym v.pairs) (within v.spelled w.runs); closes = w.closes }

  sees_brace : {m e : Token} → ReadsHere text Punctuator (codes "}") m e → SeesBy text Div (ends until.ClosingBrace) m
  sees_brace {m} {e} r = (e, (mark_by text r, ap (λ c. same_class Punctuator c && bytes_eq e.text (codes "}")) r.class ∙ ap (λ w. bytes_eq w (codes "}")) r.text))

  -- declarators, and the end behind them
  record DeclaratorsRun (o : ℕ) (ps : Parts) (s e : Token) (P : List Pair) : Type 0 where
    mid : Token
    runs : RunsIn text o (anywhere (declarators (declarator true true) ps)) ps s mid P
    ends_so : Step Token (SeenNext text) (behind_in text) (ending (behind (last_edge ps))) mid e
    last : LastDeclared text true ps mid

  declarators_run : {o : ℕ} (ps : Parts) {s e : Token} {P : List Pair} → FollowedIn e → RunsIn text o (before_declarator (declarator true true) its_end ps) ps s e P → DeclaratorsRun o ps s e P
  declarators_run none fine d = absurd (run_never Token (SeenNext text) (behind_in text) d)
  declarators_run (gap ps) fine d = absurd (run_never Token (SeenNext text) (behind_in text) d)
  declarators_run (part n (gap ps)) fine d = absurd (run_never Token (SeenNext text) (behind_in text) d)
  declarators_run {o} (part n none) {s} {e} fine d =
      let v = run_the_part Token (SeenNext text) (behind_in text) d in
      let z = run_end Token (SeenNext text) (behind_in text) (seen_determined text) v.runs in
      let end : Step Token (SeenNext text) (behind_in text) (ending (behind (edge n))) v.mid e = subst (λ x. Step Token (SeenNext text) (behind_in text) (ending (behind x)) v.mid e) (last_edge_bare (part n none)) z.ends in
      record {
        mid = v.mid;
        runs = subst (λ Q. RunsIn text o (anywhere (declarators (declarator true true) (part n none))) (part n none) s v.mid Q) (sym (v.pairs ∙ ap (λ Q. v.one ++ Q) z.pairs)) (within v.spelled done);
        ends_so = end;
        last = end_declared Token (SeenNext text) (behind_in text) (seen_determined text) (alike text) {i = true} {f = false} o n v.mid e [] (step end done) fine;
      }
  declarators_run {o} (part n (part k ps)) {s} {e} fine d =
      let v = run_the_part Token (SeenNext text) (behind_in text) d in
      let c = run_token Token (SeenNext text) (behind_in text) v.runs in
      let w = declarators_run (part k ps) fine (run_laid Token (SeenNext text) (behind_in text) c.runs) in
      record {
        mid = w.mid;
        runs = subst (λ Q. RunsIn text o (anywhere (declarators (declarator true true) (part n (part k ps)))) (part n (part k ps)) s w.mid Q) (sym v.pairs) (within v.spelled (step (token c.reads) (step laid w.runs)));
        ends_so = w.ends_so;
        last = w.last;
      }

  -- no comma stands where a declaration ends
  comma_semicolon : codes "," ≡ codes ";" → ⊥
  comma_semicolon h = false≢true (ap (λ w. is w ";") h)

  comma_follows : (t : Token) → t.class ≡ Punctuator → t.text ≡ codes "," → may_follow false t ≡ false
  comma_follows t c w = ap (λ x. may_follow false (record { class = x; text = t.text; start = 0; stop = 0; after_break = false })) c ∙ ap (λ x. may_follow false (record { class = Punctuator; text = x; start = 0; stop = 0; after_break = false })) w

  no_comma : {x : Edge} {a c : Token} → Step Token (SeenNext text) (behind_in text) (ending (behind x)) a c → FollowedIn c → Misses text Punctuator (codes ",") a
  no_comma (explicit k) fine t m r = comma_semicolon (two_signs Token (SeenNext text) (behind_in text) (seen_determined text) refl refl r k).0
  no_comma {x} {a} (implicit nx k) fine t m r =
      let al : IsTrue (allows Goal.RegExp t.class t.text) = subst (λ c. IsTrue (allows Goal.RegExp c t.text)) (sym r.class) (subst (λ w. IsTrue (allows Goal.RegExp Punctuator w)) (sym r.text) refl) in
      let same = ((seen_determined text).same Goal.RegExp a fine.token t fine.mid m fine.read.next r.next fine.read.allowed al).0 in
      false≢true (sym (comma_follows t r.class r.text) ∙ ap (may_follow false) (sym same) ∙ fine.follows)

  -- nor `finally` behind a statement
  no_finally : {s : Token} → FollowedIn s → Misses text IdentifierName (codes "finally") s
  unfolding is_reserved
  no_finally {s} fine t m r =
      let same = ((seen_determined text).same Goal.RegExp s fine.token t fine.mid m fine.read.next r.next fine.read.allowed ((seen_determined text).free Goal.RegExp s t m r.next (ap is_free r.class))).0 in
      false≢true (sym (follows t r.class r.text) ∙ ap (may_follow false) (sym same) ∙ fine.follows)
    where
      follows : (t : Token) → t.class ≡ IdentifierName → t.text ≡ codes "finally" → may_follow false t ≡ false
      follows t c w = ap (λ x. may_follow false (record { class = x; text = t.text; start = 0; stop = 0; after_break = false })) c ∙ ap (λ x. may_follow false (record { class = IdentifierName; text = x; start = 0; stop = 0; after_break = false })) w

  put_there : {o : ℕ} {a : Role} {n : Tree} {s e : Token} {P : List Pair} → SpellsIn text o a n s e P → PutAt text o a s e (part n none) P
  put_there {n = n} d = record { put = n; parts = refl; spelled = d }

module _ (text : SourceText) (r : Bool) {o : ℕ} {m e : Token} {P : List Pair} where
  pub block_given : (x : Edge) (ps : Parts) → RunsIn text o (anywhere (behind_own r kind.BlockStatement (bare_parts ps))) ps m e P → PiecesFrom text r o (statement_parts headed.Block r) m e x ps P
  block_given x ps d =
      let v = items_run text r ps (braced_lines text (item r) ps d) in
      pieces_as (sym (join_none ps)) (sym (append-nil P)) (parts_first {q = Parsed.items} x ps P (v.runs, sees_brace text v.closes) (mark_first v.closes (no_pieces refl refl refl)))

  pub variable_given : (x : Edge) (ps : Parts) → FollowedIn text e → RunsIn text o (anywhere (behind_own r kind.VariableDeclaration (bare_parts ps))) ps m e P → PiecesFrom text r o (statement_parts headed.Variable r) m e x ps P
  variable_given x ps fine d =
      let v = declarators_run text ps fine (run_laid Token (SeenNext text) (behind_in text) d) in
      pieces_as (sym (join_none ps)) (sym (append-nil P)) (parts_first {q = Parsed.list (listed.Declarators true)} (edge_as_written (last_edge ps) v.mid) ps P (v.runs, v.last, no_comma text v.ends_so fine, refl)
      (token_first {q = Parsed.end} (end_here text v.ends_so, (refl, refl, refl)) (no_pieces refl refl refl)))

  pub switch_given : (x : Edge) (ps : Parts) → RunsIn text o (anywhere (behind_own r kind.SwitchStatement (bare_parts ps))) ps m e P → PiecesFrom text r o (statement_parts headed.Switch r) m e x ps P
  switch_given x ps d = of (nat_le (defaults (others (bare_parts ps))) 1) refl d
    where
      cases : Parts → List Piece
      cases qs = sign "{" ∷ behind_brace qs (lines (switch_case r) qs)

      of : (b : Bool) → nat_le (defaults (others (bare_parts ps))) 1 ≡ b → RunsIn text o (anywhere (cond b (sp ∷ sign "(" ∷ whole ∷ sign ")" ∷ sp ∷ cases (others (bare_parts ps))) nothing)) ps m e P → PiecesFrom text r o (statement_parts headed.Switch r) m e x ps P
      of false h d = absurd (run_never Token (SeenNext text) (behind_in text) d)
      of true h d =
          let c = condition_given text (run_laid Token (SeenNext text) (behind_in text) d) in
          let here : RunsIn text o (anywhere (cases (bare_parts c.rest))) c.rest c.to e c.more = retell Token (SeenNext text) (behind_in text) (ap (λ qs. anywhere (cases (others (bare_parts qs)))) c.parts) (run_laid Token (SeenNext text) (behind_in text) c.runs) in
          let b = run_token Token (SeenNext text) (behind_in text) here in
          let list : RunsIn text o (anywhere (sign "{" ∷ lines (switch_case r) c.rest ++ sign "}" ∷ [])) c.rest c.to e c.more = step (token b.reads) (braced_lines text (switch_case r) c.rest b.runs) in
          let one : nat_le (defaults c.rest) 1 ≡ true = ap (λ k. nat_le k 1) (sym (defaults_bare c.rest)) ∙ sym (ap (λ qs. nat_le (defaults (others (bare_parts qs))) 1) c.parts) ∙ h in
          condition_first text x c (pieces_as (sym (join_none c.rest)) (sym (append-nil c.more)) (parts_first {q = Parsed.list (listed.Cases r)} (edge_as_written (edge c.item) c.mid) c.rest c.more (list, one) (no_pieces refl refl refl)))

  pub try_given : (x : Edge) (ps : Parts) → FollowedIn text e → RunsIn text o (anywhere (behind_own r kind.TryStatement (bare_parts ps))) ps m e P → PiecesFrom text r o (statement_parts headed.Try r) m e x ps P
  try_given x (part b (part h (gap none))) fine d =
      let v = run_the_part Token (SeenNext text) (behind_in text) (run_laid Token (SeenNext text) (behind_in text) d) in
      let w = run_the_part Token (SeenNext text) (behind_in text) (run_laid Token (SeenNext text) (behind_in text) v.runs) in
      let z = run_none Token (SeenNext text) (behind_in text) (run_the_gap Token (SeenNext text) (behind_in text) w.runs) in
      pieces_as refl (v.pairs ∙ ap (λ y. v.one ++ y) w.pairs) (put_first {q = Parsed.block} x v.one (put_there text v.spelled) (put_first {q = Parsed.handler} x w.one (inl (put_there text w.spelled))
      (gap_first {q = Parsed.finally_part} (inr ((refl, refl, refl, refl), no_finally text (subst (λ k. FollowedIn text k) (sym z.place) fine))) (no_pieces z.place refl z.pairs))))
  try_given x (part b (part h (part f none))) fine d =
      let v = run_the_part Token (SeenNext text) (behind_in text) (run_laid Token (SeenNext text) (behind_in text) d) in
      let w = run_the_part Token (SeenNext text) (behind_in text) (run_laid Token (SeenNext text) (behind_in text) v.runs) in
      let k = run_token Token (SeenNext text) (behind_in text) (run_laid Token (SeenNext text) (behind_in text) w.runs) in
      let l = run_the_part Token (SeenNext text) (behind_in text) (run_laid Token (SeenNext text) (behind_in text) k.runs) in
      let z = run_none Token (SeenNext text) (behind_in text) l.runs in
      pieces_as refl (v.pairs ∙ ap (λ y. v.one ++ y) (w.pairs ∙ ap (λ y. w.one ++ y) l.pairs)) (put_first {q = Parsed.block} x v.one (put_there text v.spelled) (put_first {q = Parsed.handler} x w.one (inl (put_there text w.spelled))
      (put_first {q = Parsed.finally_part} x l.one (inl (k.mid, read_here text k.reads, put_there text l.spelled)) (no_pieces z.place refl z.pairs))))
  try_given x (part b (gap (part f none))) fine d =
      let v = run_the_part Token (SeenNext text) (behind_in text) (run_laid Token (SeenNext text) (behind_in text) d) in
      let k = run_token Token (SeenNext text) (behind_in text) (run_laid Token (SeenNext text) (behind_in text) (run_the_gap Token (SeenNext text) (behind_in text) v.runs)) in
      let l = run_the_part Token (SeenNext text) (behind_in text) (run_laid Token (SeenNext text) (behind_in text) k.runs) in
      let z = run_none Token (SeenNext text) (behind_in text) l.runs in
      pieces_as refl (v.pairs ∙ ap (λ y. v.one ++ y) l.pairs) (put_first {q = Parsed.block} x v.one (put_there text v.spelled) (gap_first {q = Parsed.handler} (inr ((refl, refl, refl, refl), (k.mid, read_here text k.reads)))
      (put_first {q = Parsed.finally_part} x l.one (inl (k.mid, read_here text k.reads, put_there text l.spelled)) (no_pieces z.place refl z.pairs))))
  try_given x none fine d = absurd (run_never Token (SeenNext text) (behind_in text) d)
  try_given x (gap ps) fine d = absurd (run_never Token (SeenNext text) (behind_in text) d)
  try_given x (part b none) fine d = absurd (run_never Token (SeenNext text) (behind_in text) d)
  try_given x (part b (part h none)) fine d = absurd (run_never Token (SeenNext text) (behind_in text) d)
  try_given x (part b (part h (gap (gap ps)))) fine d = absurd (run_never Token (SeenNext text) (behind_in text) d)
  try_given x (part b (part h (gap (part n ps)))) fine d = absurd (run_never Token (SeenNext text) (behind_in text) d)
  try_given x (part b (part h (part f (gap ps)))) fine d = absurd (run_never Token (SeenNext text) (behind_in text) d)
  try_given x (part b (part h (part f (part n ps)))) fine d = absurd (run_never Token (SeenNext text) (behind_in text) d)
  try_given x (part b (gap none)) fine d = absurd (run_never Token (SeenNext text) (behind_in text) d)
  try_given x (part b (gap (gap ps))) fine d = absurd (run_never Token (SeenNext text) (behind_in text) d)
  try_given x (part b (gap (part f (gap ps)))) fine d = absurd (run_never Token (SeenNext text) (behind_in text) d)
  try_given x (part b (gap (part f (part n ps)))) fine d = absurd (run_never Token (SeenNext text) (behind_in text) d)
