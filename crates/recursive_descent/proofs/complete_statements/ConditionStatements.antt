-- Statements that are given with a condition: `if`, with its `else` or without, `do` and `while`: their pieces (ECMA-262 13.6, 13.7).
use Rattle.std.proofs.Common.{◌≡◌, inl, inr, ℕ, Bool, true, false, cond, List, [], ◌∷◌, ◌++◌, refl, sym, ap, ◌∙◌, subst}
use Rattle.std.specs.Prelude.{codes, ◌&&◌, ◌||◌}
use Rattle.std.proofs.lemmas.Bool.{false≢true}
use Rattle.tokens.specs.declared.token.TokenClass.TheVariants.{IdentifierName}
use Rattle.tokens.specs.declared.token.Goal.{Goal}
use Rattle.tree.specs.declared.kind.Kind.TheVariants as kind
use Rattle.tree.specs.declared.kind.Pair.{Pair}
use Rattle.tree.specs.Tree.{Parts, none, part, gap, bare, bare_parts}
use Rattle.language.specs.declared.Edge.{Edge}
use Rattle.language.specs.Vocabulary.{is, is_reserved}
use Rattle.language.specs.StatementStart.{begins_item}
use Rattle.language.specs.Edges.{edge, edge_as_written, ends_in_if, last_ends_in_if}
use Rattle.language.specs.Following.{Followed, may_follow, ends_list}
use Rattle.language.specs.Pieces.{statement, term, sp, put, nothing}
use Rattle.language.specs.Promises.{is_free}
use Rattle.language.specs.Token.{Token, same_class}
use Rattle.language.proofs.table.BareEdges.{ends_bare}
use Rattle.language.proofs.statements.StatementFollow.{token_follows, before_else}
use Rattle.language.proofs.list_loops.FirstPieces.{run_none, run_token, run_laid, run_never, run_part, run_the_part, run_the_gap}
use Rattle.language.proofs.list_loops.PiecesSoFar.{run_end}
use Rattle.language.proofs.table.StatementWays.{behind_own, condition}
use Rattle.recursive_descent.proofs.complete_subscripts.SubscriptsGiven.{alike}
use Rattle.token_cursor.proofs.SeenTokens.{seen_determined}
use Rattle.recursive_descent.specs.Soundness.{RunsIn, anywhere}
use Rattle.recursive_descent.specs.Completeness.{FinishedIn}
use Rattle.parser_tables.specs.StatementSymbols as Piece
use Rattle.parser_tables.specs.StatementSymbols.{statement_parts}
use Rattle.token_cursor.specs.Seen.{Misses}
use Rattle.parser_tables.specs.declared.statements.StatementKind.TheVariants as headed
use Rattle.recursive_descent.proofs.complete_expressions.Agreement.{read_here}
use Rattle.recursive_descent.proofs.complete_statements.SymbolSteps.{PiecesFrom, pieces_as, no_pieces, token_first, mark_first, word_first, put_first, gap_first, an_expression, a_statement, before_sign, condition_given, condition_first, last_part, last_statement}
use Rattle.token_cursor.specs.SourceText.{SourceText, SeenNext, behind_in}

-- what may follow a statement that ends in an `if` without `else` may follow any
follows_any : (b : Bool) (t : Token) → may_follow true t ≡ true → may_follow b t ≡ true
follows_any true t h = h
follows_any false t h = of (begins_item t) (ends_list t) (same_class IdentifierName t.class) (is t.text "else") h
  where
    of : (p q c d : Bool) → (p || (q || (c && (d && false)))) ≡ true → (p || (q || (c && (d && true)))) ≡ true
    of true q c d h = refl
    of false true c d h = refl
    of false false true true h = absurd (false≢true h)
    of false false true false h = absurd (false≢true h)
    of false false false d h = absurd (false≢true h)

module _ (text : SourceText) where
  abbrev FollowedBy : Bool → Token → Type 0
  FollowedBy = Followed Token (SeenNext text) (behind_in text)

  any_follows : {b : Bool} {e : Token} → FollowedBy true e → FollowedBy b e
  any_follows {b} u = record { token = u.token; mid = u.mid; read = u.read; follows = follows_any b u.token u.follows }

  -- behind an `if` without `else` there is none
  no_else : {s : Token} → FollowedBy true s → Misses text IdentifierName (codes "else") s
  unfolding is_reserved
  no_else {s} f t k r =
      let same : t ≡ f.token = ((seen_determined text).same Goal.RegExp s t f.token k f.mid r.next f.read.next ((seen_determined text).free Goal.RegExp s t k r.next (ap is_free r.class)) f.read.allowed).0 in
      let shut : may_follow true t ≡ false = ap (λ c. may_follow true (record { class = c; text = t.text; start = 0; stop = 0; after_break = false })) r.class ∙ ap (λ w. may_follow true (record { class = IdentifierName; text = w; start = 0; stop = 0; after_break = false })) r.text in
      false≢true (sym shut ∙ ap (may_follow true) same ∙ f.follows)

module _ (text : SourceText) (r : Bool) {o : ℕ} {m e : Token} {P : List Pair} where
  pub while_given : (x : Edge) (ps : Parts) → FollowedBy text (last_ends_in_if ps) e → RunsIn text o (anywhere (behind_own r kind.WhileStatement (bare_parts ps))) ps m e P → PiecesFrom text r o (statement_parts headed.While r) m e x ps P
  while_given x ps fine d =
      let c = condition_given text (run_laid Token (SeenNext text) (behind_in text) d) in
      let v = last_part text (run_laid Token (SeenNext text) (behind_in text) c.runs) in
      condition_first text x c (last_statement text (edge_as_written (edge c.item) c.mid) v (subst (λ b. FollowedBy text b e) (ap last_ends_in_if (c.parts ∙ ap (part c.item) v.parts)) fine))

  pub do_given : (x : Edge) (ps : Parts) → RunsIn text o (anywhere (behind_own r kind.DoWhileStatement (bare_parts ps))) ps m e P → PiecesFrom text r o (statement_parts headed.Do r) m e x ps P
  do_given x ps d =
      let v = run_part Token (SeenNext text) (behind_in text) (run_laid Token (SeenNext text) (behind_in text) d) in
      let w = run_token Token (SeenNext text) (behind_in text) (run_laid Token (SeenNext text) (behind_in text) v.runs) in
      let c = condition_given text (run_laid Token (SeenNext text) (behind_in text) w.runs) in
      let z = run_end Token (SeenNext text) (behind_in text) (seen_determined text) c.runs in
      let fine : FinishedIn text v.item v.mid = token_follows Token (SeenNext text) (behind_in text) (seen_determined text) {b = ends_in_if v.item} refl refl w.reads in
      pieces_as v.parts v.pairs (put_first {q = Piece.statement} x v.one (a_statement v.spelled fine) (word_first (read_here text w.reads)
      (condition_first text x c (pieces_as z.parts z.pairs (token_first {q = Piece.end_of_do} (z.ends, (refl, refl, refl)) (no_pieces refl refl refl))))))

  -- behind the condition and the statement of an `if`
  pub if_given : (x : Edge) (ps : Parts) → FollowedBy text (last_ends_in_if ps) e → RunsIn text o (anywhere (behind_own r kind.IfStatement (bare_parts ps))) ps m e P → PiecesFrom text r o (statement_parts headed.If r) m e x ps P
  if_given x (part t (part c (gap none))) fine d =
      let a = run_token Token (SeenNext text) (behind_in text) (run_laid Token (SeenNext text) (behind_in text) d) in
      let v = run_the_part Token (SeenNext text) (behind_in text) a.runs in
      let b = run_token Token (SeenNext text) (behind_in text) v.runs in
      let w = run_the_part Token (SeenNext text) (behind_in text) (run_laid Token (SeenNext text) (behind_in text) b.runs) in
      let z = run_none Token (SeenNext text) (behind_in text) (run_the_gap Token (SeenNext text) (behind_in text) w.runs) in
      let here : FollowedBy text true w.mid = subst (λ k. FollowedBy text true k) (sym z.place) fine in
      pieces_as refl (v.pairs ∙ ap (λ q. v.one ++ q) w.pairs) (mark_first (read_here text a.reads) (put_first {q = Piece.expression} (edge_as_written (edge t) v.mid) v.one (an_expression v.spelled (before_sign t b.reads)) (mark_first (read_here text b.reads)
      (put_first {q = Piece.statement} x w.one (a_statement w.spelled (any_follows text here)) (gap_first {q = Piece.else_part} (inr ((refl, refl, refl, refl), no_else text here)) (no_pieces z.place refl z.pairs))))))
  if_given x (part t (part c (part a none))) fine d = of (ends_in_if (bare c)) refl d
    where
      of : (b : Bool) → ends_in_if (bare c) ≡ b → RunsIn text o (anywhere (cond b nothing (condition r (sp ∷ term "else" ∷ sp ∷ put (statement r) ∷ [])))) (part t (part c (part a none))) m e P → PiecesFrom text r o (statement_parts headed.If r) m e x (part t (part c (part a none))) P
      of true h d = absurd (run_never Token (SeenNext text) (behind_in text) d)
      of false h d =
          let p = run_token Token (SeenNext text) (behind_in text) (run_laid Token (SeenNext text) (behind_in text) d) in
          let v = run_the_part Token (SeenNext text) (behind_in text) p.runs in
          let q = run_token Token (SeenNext text) (behind_in text) v.runs in
          let w = run_the_part Token (SeenNext text) (behind_in text) (run_laid Token (SeenNext text) (behind_in text) q.runs) in
          let k = run_token Token (SeenNext text) (behind_in text) (run_laid Token (SeenNext text) (behind_in text) w.runs) in
          let l = run_the_part Token (SeenNext text) (behind_in text) (run_laid Token (SeenNext text) (behind_in text) k.runs) in
          let z = run_none Token (SeenNext text) (behind_in text) l.runs in
          let first : FinishedIn text c w.mid = before_else Token (SeenNext text) (behind_in text) (seen_determined text) (alike text) c (sym (ends_bare c) ∙ h) w.runs in
          let last : FinishedIn text a l.mid = subst (λ y. FollowedBy text (ends_in_if a) y) (sym z.place) fine in
          pieces_as refl (v.pairs ∙ ap (λ y. v.one ++ y) (w.pairs ∙ ap (λ y. w.one ++ y) l.pairs)) (mark_first (read_here text p.reads) (put_first {q = Piece.expression} (edge_as_written (edge t) v.mid) v.one (an_expression v.spelled (before_sign t q.reads)) (mark_first (read_here text q.reads)
          (put_first {q = Piece.statement} x w.one (a_statement w.spelled first) (put_first {q = Piece.else_part} x l.one (inl (k.mid, read_here text k.reads, a_statement l.spelled last)) (no_pieces z.place refl z.pairs))))))
  if_given x none fine d = absurd (run_never Token (SeenNext text) (behind_in text) d)
  if_given x (gap ps) fine d = absurd (run_never Token (SeenNext text) (behind_in text) d)
  if_given x (part t none) fine d = absurd (run_never Token (SeenNext text) (behind_in text) d)
  if_given x (part t (gap ps)) fine d = absurd (run_never Token (SeenNext text) (behind_in text) d)
  if_given x (part t (part c none)) fine d = absurd (run_never Token (SeenNext text) (behind_in text) d)
  if_given x (part t (part c (gap (gap ps)))) fine d = absurd (run_never Token (SeenNext text) (behind_in text) d)
  if_given x (part t (part c (gap (part n ps)))) fine d = absurd (run_never Token (SeenNext text) (behind_in text) d)
  if_given x (part t (part c (part a (gap ps)))) fine d = absurd (run_never Token (SeenNext text) (behind_in text) d)
  if_given x (part t (part c (part a (part n ps)))) fine d = absurd (run_never Token (SeenNext text) (behind_in text) d)
