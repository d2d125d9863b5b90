-- Statements whose first token is their own, from the pieces behind it (ECMA-262 13).
use Rattle.std.proofs.Common.{◌≡◌, inl, inr, ℕ, Bool, true, false, not, cond, List, [], ◌∷◌, ◌++◌, refl, sym, ap, ◌∙◌, subst, append_assoc}
use Rattle.std.specs.Prelude.{IsTrue, codes, ◌&&◌, ◌||◌}
use Rattle.std.proofs.lemmas.Bool.{false≢true}
use Rattle.std.proofs.lemmas.List.{append-nil}
use Rattle.tokens.specs.declared.token.TokenClass.{TokenClass}
use Rattle.tokens.specs.declared.token.TokenClass.TheVariants.{IdentifierName, Punctuator}
use Rattle.token_cursor.specs.StatementEnds.{EndsAt}
use Rattle.token_cursor.specs.declared.semicolon.StatementEnd.TheVariants.{AfterExpression}
use Rattle.tree.specs.declared.kind.Kind.{Kind}
use Rattle.tree.specs.declared.kind.Kind.TheVariants as kind
use Rattle.tree.specs.declared.kind.Pair.{Pair}
use Rattle.tree.specs.Tree.{Tree, node, Parts, none, part, gap, join, plain, bare_parts}
use Rattle.language.specs.declared.Edge.{Edge}
use Rattle.language.specs.declared.Edge.TheVariants.{Closed, Other, Arrow, Postfix}
use Rattle.language.specs.declared.Rank.{Rank}
use Rattle.language.specs.declared.Rank.TheVariants.{Expression}
use Rattle.language.specs.declared.Start.TheVariants.{Any}
use Rattle.language.specs.Vocabulary.{is}
use Rattle.language.specs.Edges.{edge_as_written, last_edge, goes_on, is_end, is_sign, is_semicolon, ends_in_if, last_ends_in_if, edge}
use Rattle.language.specs.Pieces.{Role, expr, item, statement, handler, declarator, Piece, absent, lay, ending, behind, line, shallower, settle_piece, sign, term, sp, nothing, put}
use Rattle.language.specs.Statements.{prologue, lines, declarators, end_of}
use Rattle.language.specs.Token.{Token}
use Rattle.language.specs.Derivation.{Step, token, explicit, implicit, laid, done, step, within, missing}
use Rattle.language.proofs.table.BareEdges.{last_edge_bare, ends_bare}
use Rattle.language.proofs.table.Begins.{retell}
use Rattle.language.proofs.list_loops.FirstPieces.{run_never}
use Rattle.language.proofs.table.StatementWays.{behind_own, behind_brace, condition}
use Rattle.recursive_descent.specs.Soundness.{RunsIn, anywhere}
use Rattle.recursive_descent.specs.SoundnessOfStatements.{OneMore, IsToken, PiecesAt, PutAt, ExpressionPut, StatementPut, StatementAt}
use Rattle.parser_tables.specs.StatementSymbols.{statement_parts}
use Rattle.parser_tables.specs.declared.statements.StatementKind.TheVariants as headed
use Rattle.token_cursor.specs.Seen.{ReadsHere, Misses}
use Rattle.recursive_descent.proofs.reading.AddedPairs.{runs_on}
use Rattle.recursive_descent.proofs.reading.FirstOfPieces.{PartThen, TokenThen, last_one, token_then, part_then, gap_then, part_runs}
use Rattle.token_cursor.specs.SourceText.{SourceText, SeenNext, behind_in}
use Rattle.recursive_descent.specs.Spelled.{SpellsIn}
use Rattle.recursive_descent.proofs.reading.SeenClasses.{edge_seen}

-- a right edge that stands stays as it stands
pub standing_twice : (x : Edge) (t : Token) → edge_as_written (edge_as_written x t) t ≡ edge_as_written x t
standing_twice Arrow t = of (is t.text ")") refl
  where
    of : (b : Bool) → is t.text ")" ≡ b → edge_as_written (cond b Other Arrow) t ≡ cond b Other Arrow
    of true h = refl
    of false h = ap (λ c. cond c Other Arrow) h
standing_twice Postfix t = of (is t.text ")") refl
  where
    of : (b : Bool) → is t.text ")" ≡ b → edge_as_written (cond b Other Postfix) t ≡ cond b Other Postfix
    of true h = refl
    of false h = ap (λ c. cond c Other Postfix) h
standing_twice Other t = refl
standing_twice Closed t = refl

-- what was read behind the first token, and that no `else` follows what ends in an `if` without one
pub record StatedBy (text : SourceText) (r : Bool) (k : Kind) (ps : Parts) (o : ℕ) (m e : Token) (P : List Pair) : Type 0 where
  pub runs : RunsIn text o (anywhere (behind_own r k (bare_parts ps))) ps m e P
  pub dangles : ends_in_if (node k [] plain 0 0 ps) ≡ true → Misses text IdentifierName (codes "else") e

declarators_bare : (a : Role) (ps : Parts) → declarators a (bare_parts ps) ≡ declarators a ps
declarators_bare a none = refl
declarators_bare a (gap ps) = refl
declarators_bare a (part n none) = refl
declarators_bare a (part n (gap ps)) = refl
declarators_bare a (part n (part m ps)) = ap (λ x. put a ∷ sign "," ∷ Rattle.language.specs.Pieces.sp ∷ x) (declarators_bare a (part m ps))

settled_on : (qs : List Piece) (q : Piece) → anywhere (qs ++ q ∷ []) ≡ anywhere qs ++ settle_piece Expression true Any q ∷ []
settled_on [] q = refl
settled_on (r ∷ qs) q = ap (λ x. settle_piece Expression true Any r ∷ x) (settled_on qs q)

-- what is followed by `else` doesn't end in an `if` without one
closed_before : {text : SourceText} {s m : Token} (n : Tree) → (ends_in_if n ≡ true → Misses text IdentifierName (codes "else") s) → ReadsHere text IdentifierName (codes "else") s m → ends_in_if n ≡ false
closed_before {text} {s} {m} n h read = of (ends_in_if n) h
  where
    of : (b : Bool) → (b ≡ true → Misses text IdentifierName (codes "else") s) → b ≡ false
    of true k = absurd (k refl (behind_in text m) m read)
    of false k = refl

module _ (text : SourceText) where
  pub end_standing : {x y : Edge} {s e : Token} → y ≡ edge_as_written x s → EndsAt text (AfterExpression y) s e → Step Token (SeenNext text) (behind_in text) (ending (behind x)) s e
  end_standing {x} {y} {s} {e} same d = of (subst (λ v. EndsAt text (AfterExpression v) s e) same d)
    where
      of : {e : Token} → Step Token (SeenNext text) (behind_in text) (ending (behind (edge_as_written x s))) s e → Step Token (SeenNext text) (behind_in text) (ending (behind x)) s e
      of (explicit r) = explicit r
      of (implicit {t = t} nx h) = implicit nx (subst (λ v. IsTrue (not (is_semicolon t) && ((is_end t || (is_sign t && is t.text "}")) || (t.after_break && not (goes_on v t))))) (edge_seen text (edge_as_written x s) s ∙ standing_twice x s ∙ sym (edge_seen text x s)) h)

  -- items, each on a line of its own
  lines_on : {o : ℕ} (r : Bool) (zs : List Piece) (ps : Parts) {s m e : Token} {P : List Pair} → RunsIn text o (anywhere (prologue r false [] [] ps)) ps s m P → RunsIn text o (anywhere zs) none m e [] → RunsIn text o (anywhere (lines (item r) (bare_parts ps) ++ zs)) ps s e P
  lines_on r zs none done z = z
  lines_on r zs (part n ps) (within d run) z = step laid (within d (lines_on r zs ps run z))
  lines_on r zs (part n ps) (step q run) z = elim q [ ]
  lines_on r zs (gap ps) run z = absurd (run_never Token (SeenNext text) (behind_in text) run)

  block_runs : {o : ℕ} (r : Bool) (ps : Parts) {s m e : Token} {P : List Pair} → RunsIn text o (anywhere (prologue r false [] [] ps)) ps s m P → ReadsHere text Punctuator (codes "}") m e → RunsIn text o (anywhere (behind_brace (bare_parts ps) (lines (item r) (bare_parts ps)))) ps s e P
  block_runs r none done close = step (token close) done
  block_runs r (gap ps) run close = absurd (run_never Token (SeenNext text) (behind_in text) run)
  block_runs r (part n ps) run close =
      step laid (retell Token (SeenNext text) (behind_in text) (ap anywhere (sym (append_assoc (lines (item r) (bare_parts (part n ps))) (lay shallower ∷ lay line ∷ []) (sign "}" ∷ []))))
      (lines_on r (lay shallower ∷ lay line ∷ sign "}" ∷ []) (part n ps) run (step laid (step laid (step (token close) done)))))

module _ (text : SourceText) {Others : Token → Edge → Parts → List Pair → Type 0} {ps : Parts} {P : List Pair} where
  pub read_then : {c : TokenClass} {w : List ℕ} {s : Token} {x : Edge} → OneMore (λ m y put Q. ReadsHere text c w s m × IsToken x y put Q) Others ps P → TokenThen (λ m. ReadsHere text c w s m) x Others ps P
  read_then {c} {w} {s} u = token_then u {Is = λ m. ReadsHere text c w s m} u.first

  pub expression_then : {o : ℕ} {y : Rank} {i : Bool} {s : Token} → OneMore (λ m x put Q. ExpressionPut text o y i s m x put Q) Others ps P → PartThen (λ n m x Q. (x ≡ edge_as_written (edge n) m) × SpellsIn text o (expr y i Any) n s m Q) Others ps P
  expression_then {o} {y} {i} {s} u = part_then u {Is = λ n m x Q. (x ≡ edge_as_written (edge n) m) × SpellsIn text o (expr y i Any) n s m Q} u.first.put u.first.parts (u.first.right, u.first.spelled)

  pub statement_then : {o : ℕ} {r : Bool} {s : Token} → OneMore (λ m y put Q. StatementPut text r o s m put Q) Others ps P → PartThen (λ n m y Q. StatementAt text (statement r) n o s m Q) Others ps P
  statement_then {o} {r} {s} u = part_then u {Is = λ n m y Q. StatementAt text (statement r) n o s m Q} u.first.put u.first.parts u.first.statement

  pub put_then : {o : ℕ} {a : Role} {s : Token} → OneMore (λ m y put Q. PutAt text o a s m put Q) Others ps P → PartThen (λ n m y Q. SpellsIn text o a n s m Q) Others ps P
  put_then {o} {a} {s} u = part_then u {Is = λ n m y Q. SpellsIn text o a n s m Q} u.first.put u.first.parts u.first.spelled

module _ (text : SourceText) {o : ℕ} where
  pub a_block : (r : Bool) (x : Edge) {z : Edge} {s e : Token} {ps : Parts} {P : List Pair} → PiecesAt text r o (statement_parts headed.Block r) s e x z ps P → StatedBy text r kind.BlockStatement ps o s e P
  a_block r x {z} {s} {e} {ps} {P} u =
      let v = last_one u.others in
      let parts : ps ≡ u.put = u.parts ∙ ap (join u.put) v.1.1 ∙ Rattle.tree.proofs.Shapes.join-none u.put in
      let pairs : P ≡ u.put_pairs = u.pairs ∙ ap (λ Q. u.put_pairs ++ Q) v.1.2 ∙ append-nil u.put_pairs in
      record {
        runs = subst (λ k. RunsIn text o (anywhere (behind_own r kind.BlockStatement (bare_parts k))) k s e P) (sym parts) (subst (λ Q. RunsIn text o (anywhere (behind_own r kind.BlockStatement (bare_parts u.put))) u.put s e Q) (sym pairs) (block_runs text r u.put u.first v.0));
        dangles = λ h. absurd (false≢true h);
      }

  pub an_empty : (r : Bool) (x : Edge) {z : Edge} {s e : Token} {ps : Parts} {P : List Pair} → PiecesAt text r o (statement_parts headed.Empty r) s e x z ps P → StatedBy text r kind.EmptyStatement ps o s e P
  an_empty r x {z} {s} {e} {ps} {P} u = record {
    runs = subst (λ t. RunsIn text o [] ps s t P) (sym u.0) (subst (λ k. RunsIn text o [] k s s P) (sym u.2) (subst (λ Q. RunsIn text o [] none s s Q) (sym u.3) done));
    dangles = λ h. absurd (false≢true h);
  }

  pub a_variable : (r : Bool) (x : Edge) {z : Edge} {s e : Token} {ps : Parts} {P : List Pair} → PiecesAt text r o (statement_parts headed.Variable r) s e x z ps P → StatedBy text r kind.VariableDeclaration ps o s e P
  a_variable r x {z} {s} {e} {ps} {P} u =
      let v = last_one u.others in
      let parts : ps ≡ u.put = u.parts ∙ ap (join u.put) v.1.1 ∙ Rattle.tree.proofs.Shapes.join-none u.put in
      let pairs : P ≡ u.put_pairs = u.pairs ∙ ap (λ Q. u.put_pairs ++ Q) v.1.2 ∙ append-nil u.put_pairs in
      let list = retell Token (SeenNext text) (behind_in text) (ap anywhere (sym (declarators_bare (declarator true true) u.put))) u.first.0 in
      let end = end_standing text (u.first.1 ∙ ap (λ y. edge_as_written y u.mid) (sym (last_edge_bare u.put))) v.0 in
      let run = step laid (retell Token (SeenNext text) (behind_in text) (sym (settled_on (declarators (declarator true true) (bare_parts u.put)) (end_of (last_edge (bare_parts u.put))))) (runs_on text list end)) in
      record {
        runs = subst (λ k. RunsIn text o (anywhere (behind_own r kind.VariableDeclaration (bare_parts k))) k s e P) (sym parts) (subst (λ Q. RunsIn text o (anywhere (behind_own r kind.VariableDeclaration (bare_parts u.put))) u.put s e Q) (sym pairs) run);
        dangles = λ h. absurd (false≢true h);
      }

  pub a_debugger : (r : Bool) {z : Edge} {s e : Token} {ps : Parts} {P : List Pair} → PiecesAt text r o (statement_parts headed.Debugger r) s e Closed z ps P → StatedBy text r kind.DebuggerStatement ps o s e P
  a_debugger r {z} {s} {e} {ps} {P} u =
      let v = last_one u in
      record {
        runs = subst (λ k. RunsIn text o (anywhere (behind_own r kind.DebuggerStatement (bare_parts k))) k s e P) (sym v.1.1) (subst (λ Q. RunsIn text o (anywhere (behind_own r kind.DebuggerStatement none)) none s e Q) (sym v.1.2) (step v.0 done));
        dangles = λ h. absurd (false≢true h);
      }

  -- an expression in parentheses, and a statement
  pub a_while : (r : Bool) (x : Edge) {z : Edge} {s e : Token} {ps : Parts} {P : List Pair} → PiecesAt text r o (statement_parts headed.While r) s e x z ps P → StatedBy text r kind.WhileStatement ps o s e P
  a_while r x {z} {s} {e} {ps} {P} u =
      let a = read_then text u in
      let b = expression_then text a.others in
      let c = read_then text b.others in
      let d = last_one c.others in
      let parts : ps ≡ part b.item (part d.put none) = b.parts ∙ ap (part b.item) d.parts in
      record {
        runs = subst (λ k. RunsIn text o (anywhere (behind_own r kind.WhileStatement (bare_parts k))) k s e P) (sym parts)
            (step laid (step (token a.first) (part_runs text refl refl b.pairs b.first.1 (step (token c.first) (step laid (part_runs text refl refl (sym (append-nil _)) d.statement.spelled done))))));
        dangles = λ h. d.statement.dangles (sym (ap (λ k. last_ends_in_if k) parts) ∙ h);
      }

  pub a_do : (r : Bool) (x : Edge) {z : Edge} {s e : Token} {ps : Parts} {P : List Pair} → PiecesAt text r o (statement_parts headed.Do r) s e x z ps P → StatedBy text r kind.DoWhileStatement ps o s e P
  a_do r x {z} {s} {e} {ps} {P} u =
      let a = statement_then text u in
      let b = read_then text a.others in
      let c = read_then text b.others in
      let d = expression_then text c.others in
      let f = read_then text d.others in
      let g = last_one f.others in
      let parts : ps ≡ part a.item (part d.item none) = a.parts ∙ ap (part a.item) (d.parts ∙ ap (part d.item) g.1.1) in
      let pairs : d.more ≡ [] = g.1.2 in
      record {
        runs = subst (λ k. RunsIn text o (anywhere (behind_own r kind.DoWhileStatement (bare_parts k))) k s e P) (sym parts)
            (step laid (part_runs text refl refl a.pairs a.first.spelled (step laid (step (token b.first) (step laid (step (token c.first) (part_runs text refl refl (d.pairs ∙ ap (λ Q. d.one ++ Q) pairs) d.first.1 (step (token f.first) (step g.0 done)))))))));
        dangles = λ h. absurd (false≢true h);
      }

  -- an `if`, with `else` or without
  pub an_if : (r : Bool) (x : Edge) {z : Edge} {s e : Token} {ps : Parts} {P : List Pair} → PiecesAt text r o (statement_parts headed.If r) s e x z ps P → StatedBy text r kind.IfStatement ps o s e P
  an_if r x {z} {s} {e} {ps} {P} u =
      let a = read_then text u in
      let b = expression_then text a.others in
      let c = read_then text b.others in
      let d = statement_then text c.others in
      elim (last_one d.others) [
        | inl h ↦ (let parts : ps ≡ part b.item (part d.item (part h.2.put none)) = b.parts ∙ ap (part b.item) (d.parts ∙ ap (part d.item) h.2.parts) in
            let no_dangling : ends_in_if d.item ≡ false = closed_before d.item d.first.dangles h.1 in
            let run : RunsIn text o (anywhere (condition r (sp ∷ term "else" ∷ sp ∷ put (statement r) ∷ []))) (part b.item (part d.item (part h.2.put none))) s e P =
            step laid (step (token a.first) (part_runs text refl refl b.pairs b.first.1 (step (token c.first) (step laid (part_runs text refl refl d.pairs d.first.spelled (step laid (step (token h.1) (step laid (part_runs text refl refl (sym (append-nil _)) h.2.statement.spelled done))))))))) in
            record {
              runs = subst (λ k. RunsIn text o (anywhere (behind_own r kind.IfStatement (bare_parts k))) k s e P) (sym parts)
                  (retell Token (SeenNext text) (behind_in text) (λ i. anywhere (cond (sym (ends_bare d.item ∙ no_dangling) i) nothing (condition r (sp ∷ term "else" ∷ sp ∷ put (statement r) ∷ [])))) run);
              dangles = λ k. h.2.statement.dangles (sym (ap (λ j. last_ends_in_if j) parts) ∙ k);
            })
        | inr h ↦ (let parts : ps ≡ part b.item (part d.item (gap none)) = b.parts ∙ ap (part b.item) (d.parts ∙ ap (part d.item) h.0.2) in
            let here = subst (λ t. RunsIn text o (absent ∷ []) (gap none) d.mid t d.more) (sym h.0.0) (subst (λ Q. RunsIn text o (absent ∷ []) (gap none) d.mid d.mid Q) (sym h.0.3) (missing done)) in
            record {
              runs = subst (λ k. RunsIn text o (anywhere (behind_own r kind.IfStatement (bare_parts k))) k s e P) (sym parts)
                  (step laid (step (token a.first) (part_runs text refl refl b.pairs b.first.1 (step (token c.first) (step laid (part_runs text refl refl d.pairs d.first.spelled here))))));
              dangles = λ k. subst (Misses text IdentifierName (codes "else")) (sym h.0.0) h.1;
            })
      ]

  -- a `try`: with a handler or `finally`, or with both
  pub a_try : (r : Bool) (x : Edge) {z : Edge} {s e : Token} {ps : Parts} {P : List Pair} → PiecesAt text r o (statement_parts headed.Try r) s e x z ps P → StatedBy text r kind.TryStatement ps o s e P
  a_try r x {z} {s} {e} {ps} {P} u =
      let a = put_then text u in
      let b = a.others in
      elim b.first [
        | inl h ↦ (let c = part_then b {Is = λ n m y Q. SpellsIn text o (handler r) n a.mid m Q} h.put h.parts h.spelled in
            elim (last_one c.others) [
              | inl k ↦ (let parts : ps ≡ part a.item (part c.item (part k.2.put none)) = a.parts ∙ ap (part a.item) (c.parts ∙ ap (part c.item) k.2.parts) in
                  record {
                    runs = subst (λ j. RunsIn text o (anywhere (behind_own r kind.TryStatement (bare_parts j))) j s e P) (sym parts)
                        (step laid (part_runs text refl refl a.pairs a.first (step laid (part_runs text refl refl c.pairs c.first (step laid (step (token k.1) (step laid (part_runs text refl refl (sym (append-nil _)) k.2.spelled done))))))));
                    dangles = λ j. absurd (false≢true j);
                  })
              | inr k ↦ (let parts : ps ≡ part a.item (part c.item (gap none)) = a.parts ∙ ap (part a.item) (c.parts ∙ ap (part c.item) k.0.2) in
                  let here = subst (λ t. RunsIn text o (absent ∷ []) (gap none) c.mid t c.more) (sym k.0.0) (subst (λ Q. RunsIn text o (absent ∷ []) (gap none) c.mid c.mid Q) (sym k.0.3) (missing done)) in
                  record {
                    runs = subst (λ j. RunsIn text o (anywhere (behind_own r kind.TryStatement (bare_parts j))) j s e P) (sym parts)
                        (step laid (part_runs text refl refl a.pairs a.first (step laid (part_runs text refl refl c.pairs c.first here))));
                    dangles = λ j. absurd (false≢true j);
                  })
            ])
        | inr h ↦ (let c = gap_then b h.0 in
            elim (last_one c.others) [
              | inl k ↦ (let parts : ps ≡ part a.item (gap (part k.2.put none)) = a.parts ∙ ap (part a.item) (c.parts ∙ ap gap k.2.parts) in
                  record {
                    runs = subst (λ j. RunsIn text o (anywhere (behind_own r kind.TryStatement (bare_parts j))) j s e P) (sym parts)
                        (step laid (part_runs text refl refl a.pairs a.first (missing (step laid (step (token k.1) (step laid (part_runs text refl refl (sym (append-nil _)) k.2.spelled done)))))));
                    dangles = λ j. absurd (false≢true j);
                  })
              | inr k ↦ absurd (k.1 (behind_in text h.1.0) h.1.0 h.1.1)
            ])
      ]
