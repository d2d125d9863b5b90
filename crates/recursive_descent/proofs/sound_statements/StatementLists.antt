-- Lists of statements, one behind the other (ECMA-262 13.2, 14.1.1).
use Rattle.std.proofs.Common.{◌≡◌, ℕ, ◌≤◌, arith, Bool, true, false, cond, List, [], ◌++◌, refl, sym, ap, ◌∙◌, subst, append_assoc}
use Rattle.std.specs.Prelude.{◌&&◌}
use Rattle.std.proofs.lemmas.List.{append-nil}
use Rattle.token_cursor.specs.CursorState.{CursorState}
use Rattle.tree.specs.declared.kind.Pair.{Pair}
use Rattle.tree.specs.Tree.{Tree, Parts, none, part, gap, push, height, parts_height}
use Rattle.language.specs.Pieces.{opening, item, statement}
use Rattle.language.specs.Token.{Token}
use Rattle.language.specs.Statements.{prologue, is_directive}
use Rattle.language.specs.Derivation.{done, step, within}
use Rattle.language.proofs.list_loops.FirstPieces.{run_never}
use Rattle.parser_tables.specs.declared.statements.StatementContext.{StatementContext}
use Rattle.recursive_descent.specs.Soundness.{RunsIn, anywhere, Adds}
use Rattle.recursive_descent.specs.SoundnessOfStatements.{StatementsAt, StatementAt, context_role}
use Rattle.recursive_descent.proofs.reading.AddedPairs.{adds_both, adds_none}
use Rattle.token_cursor.specs.SourceText.{SourceText, SeenNext, behind_in}
use Rattle.recursive_descent.specs.Spelled.{SpellsIn}

-- all of them are directives
abbrev pub all_directive : Parts → Bool
all_directive none = true
all_directive (part n ps) = is_directive n && all_directive ps
all_directive (gap ps) = false

pub and_true : (a : Bool) → (a && true) ≡ a
and_true true = refl
and_true false = refl

pub and_all : (a b c : Bool) → (a && (b && c)) ≡ ((a && b) && c)
and_all true b c = refl
and_all false b c = refl

-- and one more is or isn't
pub one_directive : (ps : Parts) (n : Tree) → all_directive (push ps n) ≡ (all_directive ps && is_directive n)
one_directive none n = and_true (is_directive n)
one_directive (part k ps) n = ap (λ b. is_directive k && b) (one_directive ps n) ∙ and_all (is_directive k) (all_directive ps) (is_directive n)
one_directive (gap ps) n = refl

-- still before all that is no directive
pub still : (d b : Bool) (ps : Parts) (n : Tree) → d ≡ (b && all_directive ps) → (d && is_directive n) ≡ (b && all_directive (push ps n))
still d b ps n h = ap (λ x. x && is_directive n) h ∙ sym (and_all b (all_directive ps) (is_directive n)) ∙ ap (λ x. b && x) (sym (one_directive ps n))

module _ (text : SourceText) (r : Bool) where
  -- one more
  prologue_on : {o : ℕ} (b : Bool) (ps : Parts) {n : Tree} {s m e : Token} {P Q : List Pair} → RunsIn text o (anywhere (prologue r b [] [] ps)) ps s m P → SpellsIn text o (cond (b && all_directive ps) (opening r) (item r)) n m e Q →
      RunsIn text o (anywhere (prologue r b [] [] (push ps n))) (push ps n) s e (P ++ Q)
  prologue_on {o} b none {n} {e = e} {Q = Q} (done {s = s}) d =
      subst (λ R. RunsIn text o (anywhere (prologue r b [] [] (part n none))) (part n none) s e R) (append-nil Q) (within (subst (λ c. SpellsIn text o (cond c (opening r) (item r)) n s e Q) (and_true b) d) done)
  prologue_on {o} b (part k ps) {n} {s} {m} {e} {Q = Q} (within {P = P1} {Q = P2} h g) d =
      subst (λ R. RunsIn text o (anywhere (prologue r b [] [] (part k (push ps n)))) (part k (push ps n)) s e R) (sym (append_assoc P1 P2 Q))
      (within h (prologue_on (b && is_directive k) ps g (subst (λ c. SpellsIn text o (cond c (opening r) (item r)) n m e Q) (and_all b (is_directive k) (all_directive ps)) d)))
  prologue_on b (part k ps) (step x g) d = elim x [ ]
  prologue_on b (gap ps) g d = absurd (run_never Token (SeenNext text) (behind_in text) g)

  no_statements : {o : ℕ} (b : Bool) {s : Token} → RunsIn text o (anywhere (prologue r b [] [] none)) none s s []
  no_statements b = done

pub statements_on : {s m e : CursorState} {old mid new : List Pair} {text : SourceText} (c d : StatementContext) (nodes : Parts) (n : Tree) → text ≡ s.text → d.is_item ≡ c.is_item → d.returns ≡ c.returns → d.is_prologue ≡ (c.is_prologue && all_directive nodes) → Adds s m old mid (StatementsAt s.text c nodes) →
    Adds m e mid new (StatementAt text (context_role d) n) → Adds s e old new (StatementsAt s.text c (push nodes n))
statements_on {s} {m} {e} {text = text} c d nodes n same items returns before a b =
    adds_both a b (λ o P Q u v is_item.
    let h : d.is_item ≡ true = items ∙ is_item in
    let role : context_role d ≡ cond (c.is_prologue && all_directive nodes) (opening c.returns) (item c.returns) = λ i. cond (h i) (cond (before i) (opening (returns i)) (item (returns i))) (statement (returns i)) in
    prologue_on s.text c.returns c.is_prologue nodes (u is_item) (subst (λ x. SpellsIn s.text o x n m.last e.last Q) role (subst (λ t. SpellsIn t o (context_role d) n m.last e.last Q) same v.spelled)))

-- parts that are no higher, with one more
pub push_low : (ps : Parts) (n : Tree) (h : ℕ) → parts_height ps ≤ h → height n ≤ h → parts_height (push ps n) ≤ h
push_low none n h a b = omega arith
push_low (part k ps) n h a b =
    let left : height k ≤ h = omega arith in
    let right : parts_height ps ≤ h = omega arith in
    let more = push_low ps n h right b in
    omega arith
push_low (gap ps) n h a b = push_low ps n h a b

pub statements_first : {s : CursorState} {old : List Pair} (c : StatementContext) (nodes : Parts) → nodes ≡ none → Adds s s old old (StatementsAt s.text c nodes)
statements_first {s} {old} c nodes h = subst (λ ps. Adds s s old old (StatementsAt s.text c ps)) (sym h) (adds_none refl refl (λ o is_item. no_statements s.text c.returns c.is_prologue))
