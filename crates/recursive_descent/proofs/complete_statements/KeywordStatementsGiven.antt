-- Statements that are given whose first token is followed by a word, an expression or nothing, up to their end: their pieces (ECMA-262 13.4, 13.8 to 13.10, 13.14, 13.16).
use Rattle.std.proofs.Common.{◌≡◌, ◌⊎◌, inl, inr, ℕ, Bool, true, false, List, refl, sym, ap, ◌∙◌, subst}
use Rattle.std.specs.Prelude.{IsTrue, codes, not, ◌&&◌, ◌||◌}
use Rattle.std.proofs.lemmas.Bool.{and_parts, false≢true}
use Rattle.std.proofs.lemmas.Slice.Eq.{bytes_eq-Decides}
use Rattle.tokens.specs.declared.token.TokenClass.TheVariants.{IdentifierName, Punctuator, End}
use Rattle.tokens.specs.declared.token.Goal.TheVariants as goal
use Rattle.tokens.specs.Goals.{allows}
use Rattle.token_cursor.specs.StatementEnds.{EndsAt}
use Rattle.token_cursor.specs.declared.semicolon.StatementEnd.TheVariants.{AfterExpression}
use Rattle.tree.specs.declared.kind.Kind.TheVariants as kind
use Rattle.tree.specs.declared.kind.Pair.{Pair}
use Rattle.tree.specs.Tree.{Tree, Parts, none, part, gap, bare_parts}
use Rattle.language.specs.declared.Edge.{Edge}
use Rattle.language.specs.declared.Edge.TheVariants.{Closed}
use Rattle.language.specs.declared.Rank.TheVariants.{Expression}
use Rattle.language.specs.declared.Start.TheVariants.{Any}
use Rattle.language.specs.Vocabulary.{is}
use Rattle.language.specs.Edges.{edge, edge_as_written, last_edge, goes_on, is_end, is_sign, is_semicolon}
use Rattle.language.specs.Following.{Followed}
use Rattle.language.specs.ExpressionStart.{expression_start_by}
use Rattle.language.specs.Pieces.{expr, ending, behind}
use Rattle.language.specs.Promises.{ReadBy, is_free}
use Rattle.language.specs.Token.{Token, is_mark}
use Rattle.language.specs.Derivation.{Step, Reads, explicit, implicit}
use Rattle.language.proofs.table.BareEdges.{edge_bare}
use Rattle.language.proofs.climbing.LeftmostParts.{operand_begins}
use Rattle.language.proofs.covers.CoverReadings.{name_or_sign}
use Rattle.language.proofs.table.TokenFirstWays.{opens}
use Rattle.language.proofs.statements.MissingSemicolons.{misses, either, ended_class, signed_class}
use Rattle.language.proofs.statements.StatementFollow.{end_stops}
use Rattle.language.proofs.list_loops.FirstPieces.{run_none, run_laid, run_unbroken, run_part, run_the_part, run_the_gap, run_never}
use Rattle.language.proofs.list_loops.PiecesSoFar.{run_end}
use Rattle.language.proofs.table.StatementWays.{behind_own}
use Rattle.language.proofs.climbing.Supers.{none_begins}
use Rattle.recursive_descent.proofs.complete_subscripts.SubscriptsGiven.{alike}
use Rattle.token_cursor.proofs.SeenTokens.{seen_determined}
use Rattle.recursive_descent.specs.Soundness.{RunsIn, anywhere}
use Rattle.recursive_descent.specs.Completeness.{StopsIn}
use Rattle.recursive_descent.specs.CompletenessOfStatements.{Broken, OnLine, is_onward}
use Rattle.parser_tables.specs.StatementSymbols as Piece
use Rattle.parser_tables.specs.StatementSymbols.{statement_parts}
use Rattle.token_cursor.specs.Seen.{SeesBy, MissesBy, NoName, is_free_name}
use Rattle.parser_tables.specs.Tests.{ends_word}
use Rattle.parser_tables.specs.declared.statements.StatementKind.TheVariants as headed
use Rattle.token_cursor.proofs.TokensAhead.{class_of}
use Rattle.recursive_descent.proofs.sound_statements.StatementWays.{standing_twice}
use Rattle.recursive_descent.proofs.complete_statements.SymbolSteps.{PiecesFrom, pieces_as, no_pieces, token_first, put_first, gap_first, an_expression}
use Rattle.token_cursor.specs.SourceText.{SourceText, SeenNext, behind_in}
use Rattle.recursive_descent.specs.Spelled.{SpellsIn}
use Rattle.recursive_descent.proofs.reading.SeenClasses.{edge_seen}

name_end : IdentifierName ≡ End → ⊥
name_end e = cc

module _ (text : SourceText) where
  abbrev FollowedIn : Token → Type 0
  FollowedIn e = Followed Token (SeenNext text) (behind_in text) false e

  -- an end behind a right edge is one behind that edge as it stands
  pub end_here : {x : Edge} {s e : Token} → Step Token (SeenNext text) (behind_in text) (ending (behind x)) s e → EndsAt text (AfterExpression (edge_as_written x s)) s e
  end_here (explicit r) = explicit r
  end_here {x} {s} (implicit {t = t} nx h) = implicit nx (subst (λ v. IsTrue (not (is_semicolon t) && ((is_end t || (is_sign t && is t.text "}")) || (t.after_break && not (goes_on v t))))) (sym (edge_seen text (edge_as_written x s) s ∙ standing_twice x s ∙ sym (edge_seen text x s))) h)

  -- a token that is read, which passes a test
  sees_token : (p : Token → Bool) {s t m : Token} → ReadBy Token (SeenNext text) (behind_in text) goal.RegExp s t m → p t ≡ true → SeesBy text goal.RegExp p s
  sees_token p {s} {t} {m} r h = let there = (seen_determined text).last s t m r.next in (m, (subst (λ x. ReadBy Token (SeenNext text) (behind_in text) goal.RegExp s x m) (sym there) r, ap p there ∙ h))

  -- a sign that the goal for operands reads
  sign_read : {w : List ℕ} {s t m : Token} → IsTrue (allows goal.RegExp Punctuator w) → SeenNext text s t m → t.class ≡ Punctuator → t.text ≡ w → ReadBy Token (SeenNext text) (behind_in text) goal.RegExp s t m
  sign_read {w} {t = t} al nx class word = record { next = nx; allowed = subst (λ c. IsTrue (allows goal.RegExp c t.text)) (sym class) (subst (λ v. IsTrue (allows goal.RegExp Punctuator v)) (sym word) al) }

  marked : {w : List ℕ} (t : Token) → is_mark w t ≡ true → (t.class ≡ Punctuator) × (t.text ≡ w)
  marked {w} t h = let k = class_of text Punctuator t.class (Rattle.std.specs.Str.bytes_eq t.text w) h in (k.0, (bytes_eq-Decides t.text w).0 k.1)

  -- before an operand on the same line no statement ends
  goes_behind : {o : ℕ} {n : Tree} {s e u k : Token} {P : List Pair} → SpellsIn text o (expr Expression true Any) n s e P → SeenNext text s u k → u.after_break ≡ false → MissesBy text goal.RegExp ends_word s
  goes_behind {s = s} {u = u} {k} spelled nx line t m read = of (ends_word t) refl
    where
      no_sign : (w : List ℕ) → expression_start_by Punctuator w ≡ Rattle.language.specs.ExpressionStart.no_start → is_mark w t ≡ true → ⊥
      no_sign w shut h = let v = marked {w = w} t h in none_begins Token (SeenNext text) (behind_in text) (seen_determined text) read (opens t v.0 v.1 shut) spelled

      of : (b : Bool) → ends_word t ≡ b → b ≡ false
      of false h = refl
      of true h = absurd (elim (either t.after_break _ h) [
        | inl q ↦ false≢true (sym line ∙ (seen_determined text).break s u t k m nx read.next ∙ q)
        | inr q ↦ elim (either (is_end t) _ q) [
          | inl j ↦ none_begins Token (SeenNext text) (behind_in text) (seen_determined text) read (ap (λ c. expression_start_by c t.text) (ended_class t j)) spelled
          | inr j ↦ elim (either (is_mark (codes ";") t) (is_mark (codes "}") t) j) [ inl i ↦ no_sign (codes ";") refl i | inr i ↦ no_sign (codes "}") refl i ]
        ]
      ])

  -- where a statement ends
  data EndedAt (s : Token) : Type 0 where
    by_sign : {w : List ℕ} {t m : Token} → IsTrue (allows goal.RegExp Punctuator w) → IsTrue (allows goal.Div Punctuator w) → (is_mark (codes ";") (record { class = Punctuator; text = w; start = 0; stop = 0; after_break = false }) || is_mark (codes "}") (record { class = Punctuator; text = w; start = 0; stop = 0; after_break = false })) ≡ true →
        Reads Token (SeenNext text) (behind_in text) Punctuator w s t m → EndedAt s
    by_end : {t m : Token} → SeenNext text s t m → t.class ≡ End → EndedAt s
    by_break : {t m : Token} → SeenNext text s t m → t.after_break ≡ true → FollowedIn s → EndedAt s

  ended_at : {x : Edge} {s e : Token} → Step Token (SeenNext text) (behind_in text) (ending (behind x)) s e → FollowedIn e → EndedAt s
  ended_at (explicit r) fine = by_sign refl refl refl r
  ended_at {x} {s} (implicit {t = t} nx may) fine = elim (misses x (behind_in text s) t may) [
    | inl q ↦ elim (either (is_end t) (is_sign t && is t.text "}") q) [
      | inl j ↦ by_end nx (ended_class t j)
      | inr j ↦ (let v = and_parts (is_sign t) (is t.text "}") j in by_sign refl refl refl (record { next = nx; class = signed_class t v.0; text = (bytes_eq-Decides t.text (codes "}")).0 v.1 }))
    ]
    | inr q ↦ by_break nx (and_parts t.after_break _ q).0 fine
  ]

  or_last : (a b : Bool) → b ≡ true → (a || b) ≡ true
  or_last true b h = refl
  or_last false b h = h

  or_first : (a b : Bool) → a ≡ true → (a || b) ≡ true
  or_first true b h = refl
  or_first false b h = absurd (false≢true h)

  ended_seen : {s : Token} → EndedAt s → SeesBy text goal.RegExp ends_word s
  ended_seen (by_sign {w} {t} al div it r) =
      sees_token ends_word (sign_read al r.next r.class r.text)
      (or_last t.after_break _ (or_last (is_end t) _ (ap (λ c. is_mark (codes ";") (record { class = c; text = t.text; start = 0; stop = 0; after_break = false }) || is_mark (codes "}") (record { class = c; text = t.text; start = 0; stop = 0; after_break = false })) r.class
      ∙ ap (λ v. is_mark (codes ";") (record { class = Punctuator; text = v; start = 0; stop = 0; after_break = false }) || is_mark (codes "}") (record { class = Punctuator; text = v; start = 0; stop = 0; after_break = false })) r.text ∙ it)))
  ended_seen {s} (by_end {t} {m} nx class) = sees_token ends_word (record { next = nx; allowed = (seen_determined text).free goal.RegExp s t m nx (ap is_free class) }) (or_last t.after_break _ (or_first (is_end t) _ (ap (λ c. is_end (record t { class = c })) class)))
  ended_seen {s} (by_break {t} {m} nx broken fine) = sees_token ends_word fine.read (or_first fine.token.after_break _ ((seen_determined text).break s fine.token t fine.mid m fine.read.next nx ∙ broken))

  ended_unnamed : {s : Token} → EndedAt s → NoName text is_free_name s ⊎ Broken text s
  ended_unnamed (by_sign {w} {t} {m} al div it r) = inl (λ u e named free. name_or_sign Token (SeenNext text) (behind_in text) (seen_determined text) div named r)
  ended_unnamed {s} (by_end {t} {m} nx class) = inl (λ u e named free.
      let same = ((seen_determined text).same goal.Div s u t e m named.next nx ((seen_determined text).free goal.Div s u e named.next (ap is_free named.class)) ((seen_determined text).free goal.Div s t m nx (ap is_free class))).0 in
      name_end (sym named.class ∙ ap (λ (v : Token). v.class) same ∙ class))
  ended_unnamed {s} (by_break {t} {m} nx broken fine) = inr (λ u e n. (seen_determined text).break s u t e m n nx ∙ broken)

  on_line : {s t k : Token} → SeenNext text s t k → t.after_break ≡ false → OnLine text s
  on_line {s} {t} {k} nx line u j read = (seen_determined text).break s u t j k read.next nx ∙ line

  -- an expression before the end of its statement
  pub stops_before_end : (n : Tree) {k e : Token} → Step Token (SeenNext text) (behind_in text) (ending (behind (edge n))) k e → FollowedIn e → StopsIn text Expression true n k
  stops_before_end n end fine = end_stops Token (SeenNext text) (behind_in text) (seen_determined text) (alike text) Expression true n end fine

  edge_of : (n : Tree) (ps : Parts) {k e : Token} → ps ≡ none → Step Token (SeenNext text) (behind_in text) (ending (behind (last_edge (bare_parts (part n ps))))) k e → Step Token (SeenNext text) (behind_in text) (ending (behind (edge n))) k e
  edge_of n ps {k} {e} alone end = subst (λ x. Step Token (SeenNext text) (behind_in text) (ending (behind x)) k e) (ap (λ qs. last_edge (bare_parts (part n qs))) alone ∙ edge_bare n) end

module _ (text : SourceText) (r : Bool) {o : ℕ} {m e : Token} {P : List Pair} where
  pub empty_given : (ps : Parts) → RunsIn text o (anywhere (behind_own r kind.EmptyStatement (bare_parts ps))) ps m e P → PiecesFrom text r o (statement_parts headed.Empty r) m e Closed ps P
  empty_given ps d = let z = run_none Token (SeenNext text) (behind_in text) d in no_pieces z.place z.parts z.pairs

  pub debugger_given : (ps : Parts) → RunsIn text o (anywhere (behind_own r kind.DebuggerStatement (bare_parts ps))) ps m e P → PiecesFrom text r o (statement_parts headed.Debugger r) m e Closed ps P
  debugger_given ps d = let z = run_end Token (SeenNext text) (behind_in text) (seen_determined text) d in pieces_as z.parts z.pairs (token_first {q = Piece.end} (z.ends, (refl, refl, refl)) (no_pieces refl refl refl))

  label_given : (ps : Parts) → FollowedIn text e → RunsIn text o (anywhere (behind_own r kind.BreakStatement (bare_parts ps))) ps m e P → PiecesFrom text r o (statement_parts headed.Break r) m e Closed ps P
  label_given none fine d = absurd (run_never Token (SeenNext text) (behind_in text) d)
  label_given (part n ps) fine d =
      let u = run_unbroken Token (SeenNext text) (behind_in text) (run_laid Token (SeenNext text) (behind_in text) d) in
      let v = run_the_part Token (SeenNext text) (behind_in text) u.runs in
      let z = run_end Token (SeenNext text) (behind_in text) (seen_determined text) v.runs in
      pieces_as refl v.pairs (put_first {q = Piece.label} Closed v.one (inl (on_line text u.next u.unbroken, record { put = n; parts = refl; spelled = v.spelled }, refl)) (pieces_as z.parts z.pairs (token_first {q = Piece.end} (z.ends, (refl, refl, refl)) (no_pieces refl refl refl))))
  label_given (gap ps) fine d =
      let z = run_end Token (SeenNext text) (behind_in text) (seen_determined text) (run_the_gap Token (SeenNext text) (behind_in text) d) in
      gap_first {q = Piece.label} (inr (ended_unnamed text (ended_at text z.ends fine), (refl, refl, refl, refl))) (pieces_as z.parts z.pairs (token_first {q = Piece.end} (z.ends, (refl, refl, refl)) (no_pieces refl refl refl)))

  pub break_given : (ps : Parts) → FollowedIn text e → RunsIn text o (anywhere (behind_own r kind.BreakStatement (bare_parts ps))) ps m e P → PiecesFrom text r o (statement_parts headed.Break r) m e Closed ps P
  break_given = label_given

  pub continue_given : (ps : Parts) → FollowedIn text e → RunsIn text o (anywhere (behind_own r kind.ContinueStatement (bare_parts ps))) ps m e P → PiecesFrom text r o (statement_parts headed.Continue r) m e Closed ps P
  continue_given = label_given

  pub return_given : (ps : Parts) → FollowedIn text e → RunsIn text o (anywhere (behind_own r kind.ReturnStatement (bare_parts ps))) ps m e P → PiecesFrom text r o (statement_parts headed.Return r) m e Closed ps P
  return_given none fine d = absurd (run_never Token (SeenNext text) (behind_in text) d)
  return_given (part n ps) fine d =
      let u = run_unbroken Token (SeenNext text) (behind_in text) (run_laid Token (SeenNext text) (behind_in text) d) in
      let v = run_the_part Token (SeenNext text) (behind_in text) u.runs in
      let z = run_end Token (SeenNext text) (behind_in text) (seen_determined text) v.runs in
      let end = edge_of text n ps z.parts z.ends in
      pieces_as refl v.pairs (put_first {q = Piece.argument} (edge_as_written (edge n) v.mid) v.one (inl (goes_behind text v.spelled u.next u.unbroken, an_expression v.spelled (stops_before_end text n end fine)))
      (pieces_as z.parts z.pairs (token_first {q = Piece.end} (end_here text end, (refl, refl, refl)) (no_pieces refl refl refl))))
  return_given (gap ps) fine d =
      let z = run_end Token (SeenNext text) (behind_in text) (seen_determined text) (run_the_gap Token (SeenNext text) (behind_in text) d) in
      let end : Step Token (SeenNext text) (behind_in text) (ending (behind Closed)) m e = subst (λ x. Step Token (SeenNext text) (behind_in text) (ending (behind x)) m e) (ap (λ qs. last_edge (bare_parts (gap qs))) z.parts) z.ends in
      gap_first {q = Piece.argument} (inr ((refl, refl, refl, refl), ended_seen text (ended_at text end fine))) (pieces_as z.parts z.pairs (token_first {q = Piece.end} (end, (refl, refl, refl)) (no_pieces refl refl refl)))

  pub throw_given : (ps : Parts) → FollowedIn text e → RunsIn text o (anywhere (behind_own r kind.ThrowStatement (bare_parts ps))) ps m e P → PiecesFrom text r o (statement_parts headed.Throw r) m e Closed ps P
  throw_given ps fine d =
      let u = run_unbroken Token (SeenNext text) (behind_in text) (run_laid Token (SeenNext text) (behind_in text) d) in
      let v = run_part Token (SeenNext text) (behind_in text) u.runs in
      let z = run_end Token (SeenNext text) (behind_in text) (seen_determined text) v.runs in
      let end = edge_of text v.item v.rest z.parts (subst (λ qs. Step Token (SeenNext text) (behind_in text) (ending (behind (last_edge (bare_parts qs)))) v.mid e) v.parts z.ends) in
      let b = (operand_begins Token (SeenNext text) (behind_in text) (seen_determined text) v.spelled).begins in
      let line : b.token.after_break ≡ false = on_line text u.next u.unbroken b.token b.mid b.read in
      token_first {q = Piece.unbroken} (sees_token text is_onward b.read (ap not line), refl, (refl, refl, refl))
      (pieces_as v.parts v.pairs (put_first {q = Piece.expression} (edge_as_written (edge v.item) v.mid) v.one (an_expression v.spelled (stops_before_end text v.item end fine))
      (pieces_as z.parts z.pairs (token_first {q = Piece.end} (end_here text end, (refl, refl, refl)) (no_pieces refl refl refl)))))
