-- Statements behind `break`, `continue`, `return`, `throw`, `switch` and a label, from their pieces (ECMA-262 13.8 to 13.14).
use Rattle.std.proofs.Common.{◌≡◌, inl, inr, ℕ, ◌+◌, Bool, true, false, cond, List, [], ◌∷◌, ◌++◌, refl, sym, ap, ◌∙◌, subst, append_assoc}
use Rattle.std.specs.Prelude.{nat_le}
use Rattle.std.proofs.lemmas.Bool.{false≢true}
use Rattle.tokens.specs.declared.token.Goal.{Goal}
use Rattle.token_cursor.specs.StatementEnds.{EndsAt}
use Rattle.token_cursor.specs.declared.semicolon.StatementEnd.TheVariants.{AfterExpression}
use Rattle.tree.specs.declared.kind.Kind.TheVariants as kind
use Rattle.tree.specs.declared.kind.Pair.{Pair}
use Rattle.tree.specs.Tree.{Tree, node, Parts, none, part, gap, join, plain, bare, bare_parts}
use Rattle.language.specs.declared.Edge.{Edge}
use Rattle.language.specs.declared.Edge.TheVariants.{Closed}
use Rattle.language.specs.declared.Rank.{Rank}
use Rattle.language.specs.declared.Rank.TheVariants.{Primary}
use Rattle.language.specs.declared.Start.TheVariants.{Any}
use Rattle.language.specs.Edges.{edge_as_written, edge, last_edge, last_ends_in_if}
use Rattle.language.specs.Pieces.{Role, expr, name, statement, switch_case, Piece, Spelling, at, unbroken, lay, line, shallower, sign, sp, nothing, put}
use Rattle.language.specs.Statements.{lines, defaults, end_of, whole, after_word}
use Rattle.language.specs.Token.{Token}
use Rattle.language.specs.Promises.{is_free, ReadBy}
use Rattle.language.specs.Derivation.{Step, token, laid, same_line, direct, done, step, within, missing, placed}
use Rattle.language.proofs.table.BareEdges.{edge_bare}
use Rattle.language.proofs.table.Beginnings.{settled_at}
use Rattle.language.proofs.table.Begins.{retell}
use Rattle.language.proofs.climbing.LeftmostParts.{operand_begins}
use Rattle.language.proofs.lower_bound.Domination.{settled}
use Rattle.language.proofs.climbing.Leaves.{name_form}
use Rattle.language.proofs.table.OwnTokenWays.{statement_spans, statement_fits}
use Rattle.language.proofs.table.Productions.{way_from}
use Rattle.language.proofs.list_loops.FirstPieces.{run_never}
use Rattle.language.proofs.table.StatementWays.{Stands, behind_own, behind_brace, label_listed}
use Rattle.token_cursor.proofs.SeenTokens.{seen_determined}
use Rattle.recursive_descent.specs.Soundness.{RunsIn, anywhere}
use Rattle.recursive_descent.specs.SoundnessOfStatements.{PiecesAt, StatementAt}
use Rattle.parser_tables.specs.StatementSymbols as Coded
use Rattle.parser_tables.specs.StatementSymbols.{statement_parts}
use Rattle.parser_tables.specs.declared.statements.StatementKind.TheVariants as headed
use Rattle.recursive_descent.proofs.reading.FirstOfPieces.{last_one, token_then, part_runs}
use Rattle.recursive_descent.proofs.sound_statements.StatementWays.{StatedBy, read_then, expression_then, statement_then, end_standing}
use Rattle.token_cursor.specs.SourceText.{SourceText, SeenNext, behind_in}
use Rattle.recursive_descent.specs.Spelled.{SpellsIn}

-- places aside, the cases are the same
pub defaults_bare : (ps : Parts) → defaults (bare_parts ps) ≡ defaults ps
defaults_bare none = refl
defaults_bare (gap ps) = defaults_bare ps
defaults_bare (part (node k w g s e none) ps) = ap (λ n. 0 + n) (defaults_bare ps)
defaults_bare (part (node k w g s e (part m qs)) ps) = ap (λ n. 0 + n) (defaults_bare ps)
defaults_bare (part (node k w g s e (gap qs)) ps) = ap (λ n. 1 + n) (defaults_bare ps)

module _ (text : SourceText) where
  -- no line break stands before what the goal for operands reads
  abbrev pub OnLine : Token → Type 0
  OnLine s = (t m : Token) → ReadBy Token (SeenNext text) (behind_in text) Goal.RegExp s t m → t.after_break ≡ false

  name_on_line : {o : ℕ} {n : Tree} {s m : Token} {P : List Pair} → OnLine s → SpellsIn text o name n s m P → Step Token (SeenNext text) (behind_in text) unbroken s s
  name_on_line {s = s} {m = m} near d =
      let u = (name_form Token (SeenNext text) (behind_in text) (seen_determined text) d).0 in
      same_line u.reads.next (near u.sign m (record { next = u.reads.next; allowed = (seen_determined text).free Goal.RegExp s u.sign m u.reads.next (ap is_free u.reads.class) }))

  expression_on_line : {o : ℕ} {n : Tree} {y : Rank} {s m : Token} {P : List Pair} → OnLine s → SpellsIn text o (expr y true Any) n s m P → Step Token (SeenNext text) (behind_in text) unbroken s s
  expression_on_line near d =
      let u = (operand_begins Token (SeenNext text) (behind_in text) (seen_determined text) d).begins in
      same_line u.read.next (near u.token u.mid u.read)

  -- a label or none, and the end
  label_runs : {o : ℕ} (r : Bool) {z : Edge} {s e : Token} {ps : Parts} {P : List Pair} → PiecesAt text r o (Coded.label ∷ Coded.end ∷ []) s e Closed z ps P → RunsIn text o (anywhere (after_word (bare_parts ps) (put name) ++ end_of Closed ∷ [])) ps s e P
  label_runs {o} r {z} {s} {e} {ps} {P} u =
      let v = last_one u.others in
      elim u.first [
        | inl h ↦ (let parts : ps ≡ part h.1.put none = u.parts ∙ (λ i. join (h.1.parts i) (v.1.1 i)) in
            let pairs : P ≡ u.put_pairs ++ [] = u.pairs ∙ ap (λ Q. u.put_pairs ++ Q) v.1.2 in
            let end : EndsAt text (AfterExpression Closed) u.mid e = subst (λ y. EndsAt text (AfterExpression y) u.mid e) h.2 v.0 in
            subst (λ k. RunsIn text o (anywhere (after_word (bare_parts k) (put name) ++ end_of Closed ∷ [])) k s e P) (sym parts)
            (step laid (step (name_on_line h.0 h.1.spelled) (part_runs text refl refl pairs h.1.spelled (step end done)))))
        | inr h ↦ (let parts : ps ≡ gap none = u.parts ∙ (λ i. join (h.2 i) (v.1.1 i)) in
            let pairs : P ≡ [] = u.pairs ∙ (λ i. h.3 i ++ v.1.2 i) in
            let end : EndsAt text (AfterExpression Closed) s e = subst (λ y. EndsAt text (AfterExpression y) s e) h.1 (subst (λ m. EndsAt text (AfterExpression u.right) m e) h.0 v.0) in
            subst (λ k. RunsIn text o (anywhere (after_word (bare_parts k) (put name) ++ end_of Closed ∷ [])) k s e P) (sym parts)
            (subst (λ Q. RunsIn text o (anywhere (after_word (bare_parts (gap none)) (put name) ++ end_of Closed ∷ [])) (gap none) s e Q) (sym pairs) (missing (step end done))))
      ]

  pub a_continue : {o : ℕ} (r : Bool) {z : Edge} {s e : Token} {ps : Parts} {P : List Pair} → PiecesAt text r o (statement_parts headed.Continue r) s e Closed z ps P → StatedBy text r kind.ContinueStatement ps o s e P
  a_continue r u = record { runs = label_runs r u; dangles = λ h. absurd (false≢true h) }

  pub a_break : {o : ℕ} (r : Bool) {z : Edge} {s e : Token} {ps : Parts} {P : List Pair} → PiecesAt text r o (statement_parts headed.Break r) s e Closed z ps P → StatedBy text r kind.BreakStatement ps o s e P
  a_break r u = record { runs = label_runs r u; dangles = λ h. absurd (false≢true h) }

  -- an expression or none, and the end
  argument_runs : {o : ℕ} (r : Bool) {z : Edge} {s e : Token} {ps : Parts} {P : List Pair} → PiecesAt text r o (Coded.argument ∷ Coded.end ∷ []) s e Closed z ps P → RunsIn text o (anywhere (after_word (bare_parts ps) whole ++ end_of (last_edge (bare_parts ps)) ∷ [])) ps s e P
  argument_runs {o} r {z} {s} {e} {ps} {P} u =
      let v = last_one u.others in
      elim u.first [
        | inl h ↦ (let parts : ps ≡ part h.1.put none = u.parts ∙ (λ i. join (h.1.parts i) (v.1.1 i)) in
            let pairs : P ≡ u.put_pairs ++ [] = u.pairs ∙ ap (λ Q. u.put_pairs ++ Q) v.1.2 in
            let end = end_standing text {x = edge (bare h.1.put)} (h.1.right ∙ ap (λ y. edge_as_written y u.mid) (sym (edge_bare h.1.put))) v.0 in
            subst (λ k. RunsIn text o (anywhere (after_word (bare_parts k) whole ++ end_of (last_edge (bare_parts k)) ∷ [])) k s e P) (sym parts)
            (step laid (step (expression_on_line h.0 h.1.spelled) (part_runs text refl refl pairs h.1.spelled (step end done)))))
        | inr h ↦ (let parts : ps ≡ gap none = u.parts ∙ (λ i. join (h.2 i) (v.1.1 i)) in
            let pairs : P ≡ [] = u.pairs ∙ (λ i. h.3 i ++ v.1.2 i) in
            let end : EndsAt text (AfterExpression Closed) s e = subst (λ y. EndsAt text (AfterExpression y) s e) h.1 (subst (λ m. EndsAt text (AfterExpression u.right) m e) h.0 v.0) in
            subst (λ k. RunsIn text o (anywhere (after_word (bare_parts k) whole ++ end_of (last_edge (bare_parts k)) ∷ [])) k s e P) (sym parts)
            (subst (λ Q. RunsIn text o (anywhere (after_word (bare_parts (gap none)) whole ++ end_of Closed ∷ [])) (gap none) s e Q) (sym pairs) (missing (step end done))))
      ]

  pub a_return : {o : ℕ} (r : Bool) {z : Edge} {s e : Token} {ps : Parts} {P : List Pair} → PiecesAt text r o (statement_parts headed.Return r) s e Closed z ps P → StatedBy text r kind.ReturnStatement ps o s e P
  a_return r u = record { runs = argument_runs r u; dangles = λ h. absurd (false≢true h) }

  pub a_throw : {o : ℕ} (r : Bool) (x : Edge) {z : Edge} {s e : Token} {ps : Parts} {P : List Pair} → PiecesAt text r o (statement_parts headed.Throw r) s e x z ps P → StatedBy text r kind.ThrowStatement ps o s e P
  a_throw {o} r x {z} {s} {e} {ps} {P} u =
      let a = token_then u {Is = λ m. m ≡ s} (u.first.1, u.first.2) in
      let here = subst (λ m. PiecesAt text r o (Coded.expression ∷ Coded.end ∷ []) m e x z ps P) a.first a.others in
      let b = expression_then text here in
      let v = last_one b.others in
      let parts : ps ≡ part b.item none = b.parts ∙ ap (part b.item) v.1.1 in
      let pairs : P ≡ b.one ++ [] = b.pairs ∙ ap (λ Q. b.one ++ Q) v.1.2 in
      let end = end_standing text {x = edge (bare b.item)} (b.first.0 ∙ ap (λ y. edge_as_written y b.mid) (sym (edge_bare b.item))) v.0 in
      record {
        runs = subst (λ k. RunsIn text o (anywhere (behind_own r kind.ThrowStatement (bare_parts k))) k s e P) (sym parts)
            (step laid (step (expression_on_line u.first.0 b.first.1) (part_runs text refl refl pairs b.first.1 (step end done))));
        dangles = λ h. absurd (false≢true h);
      }

  -- cases, with the brace behind them
  cases_closed : {o : ℕ} (a : Role) (zs : List Piece) (ps : Parts) {s e : Token} {P : List Pair} → ((m e : Token) (Q : List Pair) → RunsIn text o (anywhere (sign "}" ∷ [])) none m e Q → RunsIn text o (anywhere zs) none m e Q) →
      RunsIn text o (anywhere (lines a ps ++ sign "}" ∷ [])) ps s e P → RunsIn text o (anywhere (lines a (bare_parts ps) ++ zs)) ps s e P
  cases_closed a zs none {s} {e} {P} f run = f s e P run
  cases_closed a zs (part n ps) f (step laid (within d run)) = step laid (within d (cases_closed a zs ps f run))
  cases_closed a zs (part n ps) f (step laid (step q run)) = elim q [ ]
  cases_closed a zs (gap ps) f run = absurd (run_never Token (SeenNext text) (behind_in text) run)

  cases_braced : {o : ℕ} (a : Role) (ps : Parts) {s e : Token} {P : List Pair} → RunsIn text o (anywhere (lines a ps ++ sign "}" ∷ [])) ps s e P → RunsIn text o (anywhere (behind_brace (bare_parts ps) (lines a (bare_parts ps)))) ps s e P
  cases_braced a none run = run
  cases_braced a (gap ps) run = absurd (run_never Token (SeenNext text) (behind_in text) run)
  cases_braced a (part n ps) run =
      step laid (retell Token (SeenNext text) (behind_in text) (ap anywhere (sym (append_assoc (lines a (bare_parts (part n ps))) (lay shallower ∷ lay line ∷ []) (sign "}" ∷ []))))
      (cases_closed a (lay shallower ∷ lay line ∷ sign "}" ∷ []) (part n ps) (λ m e Q d. step laid (step laid d)) run))

  pub a_switch : {o : ℕ} (r : Bool) (x : Edge) {z : Edge} {s e : Token} {ps : Parts} {P : List Pair} → PiecesAt text r o (statement_parts headed.Switch r) s e x z ps P → StatedBy text r kind.SwitchStatement ps o s e P
  a_switch {o} r x {z} {s} {e} {ps} {P} u =
      let a = read_then text u in
      let b = expression_then text a.others in
      let c = read_then text b.others in
      let v = last_one c.others in
      let brace : List Piece = sign "{" ∷ behind_brace (bare_parts b.rest) (lines (switch_case r) (bare_parts b.rest)) in
      let one : nat_le (defaults (bare_parts b.rest)) 1 ≡ true = ap (λ n. nat_le n 1) (defaults_bare b.rest) ∙ v.1 in
      let told : sp ∷ sign "(" ∷ whole ∷ sign ")" ∷ sp ∷ brace ≡ behind_own r kind.SwitchStatement (bare_parts ps) =
      (λ i. cond (sym one i) (sp ∷ sign "(" ∷ whole ∷ sign ")" ∷ sp ∷ brace) nothing) ∙ ap (λ k. behind_own r kind.SwitchStatement (bare_parts k)) (sym b.parts) in
      record {
        runs = retell Token (SeenNext text) (behind_in text) (ap anywhere told) (step laid (step (token a.first) (part_runs text refl b.parts b.pairs b.first.1 (step (token c.first) (step laid (braces_behind (switch_case r) b.rest v.0))))));
        dangles = λ h. absurd (false≢true h);
      }
    where
      braces_behind : {o : ℕ} (a : Role) (ps : Parts) {s e : Token} {P : List Pair} → RunsIn text o (anywhere (sign "{" ∷ lines a ps ++ sign "}" ∷ [])) ps s e P → RunsIn text o (anywhere (sign "{" ∷ behind_brace (bare_parts ps) (lines a (bare_parts ps)))) ps s e P
      braces_behind a ps (step q run) = step q (cases_braced a ps run)

  -- a label, and its statement behind the `:`
  pub a_label : {a : Role} {p d r : Bool} {o st : ℕ} {x z : Edge} {l : Tree} {s m e t k : Token} {ps : Parts} {P Q : List Pair} → Stands a p d r → SeenNext text s t k → t.start ≡ st → SpellsIn text o name l s m P → PiecesAt text r o (statement_parts headed.Label r) m e x z ps Q →
      StatementAt text a (node kind.LabeledStatement [] plain st e.stop (part l ps)) o s e (P ++ Q)
  a_label {a} {p} {d} {r} {o} {st} {x} {z} {l} {s} {m} {e} {t} {k} {ps} {P} {Q} stands next start spelled u =
      let b = read_then text u in
      let c = statement_then text b.others in
      let parts : ps ≡ part c.item none = c.parts ∙ ap (part c.item) c.others.2 in
      let pairs : Q ≡ c.one ++ [] = c.pairs ∙ ap (λ R. c.one ++ R) c.others.3 in
      let inner = subst (λ v. StatementAt text (statement r) c.item o b.mid v c.one) (sym c.others.0) c.first in
      let n : Tree = node kind.LabeledStatement [] plain st e.stop (part l ps) in
      let w : Spelling = at Primary (put name ∷ sign ":" ∷ sp ∷ put (statement r) ∷ []) in
      let run : RunsIn text o (anywhere w.pieces) (part l ps) s e (P ++ Q) = within spelled (step (token b.first) (step laid (part_runs text refl parts pairs inner.spelled done))) in
      record {
        spelled = direct (settled a w) (way_from a n w refl (label_listed [] plain 0 0 (bare_parts (part l ps)) stands) (statement_fits stands w)) (placed next (statement_spans stands t (behind_in text e) ∙ ap (λ (v : ℕ). (v, e.stop)) start))
            (retell Token (SeenNext text) (behind_in text) (sym (settled_at stands w)) run);
        dangles = λ h. inner.dangles (sym (ap (λ k. last_ends_in_if (part l k)) parts) ∙ h);
      }
