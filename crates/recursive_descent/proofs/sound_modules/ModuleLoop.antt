-- The items of a module, one behind the other (ECMA-262, 13th edition, 16.2).
use Rattle.std.proofs.Common.{◌≡◌, ℕ, Bool, true, false, cond, List, ◌++◌, refl, sym, ap, ◌∙◌, subst, append_assoc}
use Rattle.std.specs.Prelude.{◌&&◌}
use Rattle.std.proofs.lemmas.List.{append-nil}
use Rattle.token_cursor.specs.CursorState.{CursorState}
use Rattle.tree.specs.declared.kind.Pair.{Pair}
use Rattle.tree.specs.Tree.{Tree, Parts, none, part, gap, push, kind_of}
use Rattle.language.specs.Pieces.{opening, item, statement, module_item}
use Rattle.language.specs.Token.{Token}
use Rattle.language.specs.Statements.{is_directive, is_module_item, module_prologue}
use Rattle.language.specs.Derivation.{done, step, within, laid}
use Rattle.language.proofs.list_loops.FirstPieces.{run_none, run_never, run_laid, run_the_part}
use Rattle.parser_tables.specs.declared.statements.StatementContext.{StatementContext}
use Rattle.token_cursor.specs.SourceText.{SourceText, SeenNext, behind_in}
use Rattle.recursive_descent.specs.Soundness.{RunsIn, anywhere, Adds}
use Rattle.recursive_descent.specs.Spelled.{SpellsIn}
use Rattle.recursive_descent.specs.Later.{item_of_module}
use Rattle.recursive_descent.proofs.reading.AddedPairs.{adds_both, adds_none}
use Rattle.recursive_descent.proofs.sound_statements.StatementLists.{all_directive, and_true, and_all}

-- the items that were read
abbrev pub ItemsOf : CursorState → CursorState → List Pair → List Pair → Parts → Type 0
ItemsOf s m old mid nodes = Adds s m old mid (λ o b e P. RunsIn s.text o (anywhere (module_prologue true nodes)) nodes b e P)

module _ (text : SourceText) where
  -- one more
  items_on : {o : ℕ} (b : Bool) (ps : Parts) {n : Tree} {s m e : Token} {P Q : List Pair} → RunsIn text o (anywhere (module_prologue b ps)) ps s m P →
      SpellsIn text o (cond (is_module_item (kind_of n)) module_item (cond (b && all_directive ps) (opening false) (item false))) n m e Q → RunsIn text o (anywhere (module_prologue b (push ps n))) (push ps n) s e (P ++ Q)
  items_on {o} b none {n} {s} {m} {e} {P} {Q} run d =
      let v = run_none Token (SeenNext text) (behind_in text) run in
      let k = is_module_item (kind_of n) in
      let here : SpellsIn text o (cond k module_item (cond b (opening false) (item false))) n s e Q =
      subst (λ x. SpellsIn text o (cond k module_item (cond b (opening false) (item false))) n x e Q) (sym v.place)
      (subst (λ c. SpellsIn text o (cond k module_item (cond c (opening false) (item false))) n m e Q) (and_true b) d) in
      subst (λ R. RunsIn text o (anywhere (module_prologue b (part n none))) (part n none) s e R) (append-nil Q ∙ sym (ap (λ x. x ++ Q) v.pairs)) (within here (step laid done))
  items_on b (gap ps) run d = absurd (run_never Token (SeenNext text) (behind_in text) run)
  items_on {o} b (part k ps) {n} {s} {m} {e} {P} {Q} run d =
      let v = run_the_part Token (SeenNext text) (behind_in text) run in
      let c = is_module_item (kind_of n) in
      let further = items_on (b && is_directive k) ps (run_laid Token (SeenNext text) (behind_in text) v.runs) (subst (λ x. SpellsIn text o (cond c module_item (cond x (opening false) (item false))) n m e Q) (and_all b (is_directive k) (all_directive ps)) d) in
      subst (λ R. RunsIn text o (anywhere (module_prologue b (part k (push ps n)))) (part k (push ps n)) s e R) (sym (ap (λ x. x ++ Q) v.pairs ∙ append_assoc v.one v.more Q)) (within v.spelled (step laid further))

-- none yet
pub module_first : {s : CursorState} {old : List Pair} (nodes : Parts) → nodes ≡ none → ItemsOf s s old old nodes
module_first {s} {old} nodes h = subst (λ ps. ItemsOf s s old old ps) (sym h) (adds_none refl refl (λ o. done))

-- one more was read
pub module_on : {s m e : CursorState} {old mid new : List Pair} (d : StatementContext) (nodes : Parts) (n : Tree) → m.text ≡ s.text → d.is_item ≡ true → d.returns ≡ false → d.is_prologue ≡ all_directive nodes → ItemsOf s m old mid nodes →
    Adds m e mid new (λ o b k P. SpellsIn m.text o (item_of_module d n) n b k P) → ItemsOf s e old new (push nodes n)
module_on {s} {m} {e} d nodes n same items returns before a b =
    adds_both a b (λ o P Q u v.
    items_on s.text true nodes u
    (subst (λ x. SpellsIn s.text o x n m.last e.last Q) (λ i. cond (is_module_item (kind_of n)) module_item (cond (items i) (cond (before i) (opening (returns i)) (item (returns i))) (statement (returns i))))
    (subst (λ t. SpellsIn t o (item_of_module d n) n m.last e.last Q) same v)))
