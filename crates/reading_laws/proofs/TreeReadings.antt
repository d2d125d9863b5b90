-- A text has at most one reading by the goals of a tree: a token's place doesn't depend on the goal, and the place and the tree give the goal.
use Rattle.std.proofs.Common.{◌≡◌, ℕ, ◌+◌, Bool, true, false, not, List, [], ◌∷◌, sym, ap, ◌∙◌, subst}
use Rattle.std.specs.Prelude.{IsTrue}
use Rattle.std.proofs.lemmas.Bool.{false≢true}
use Rattle.tree.specs.Tree.{Tree}
use Rattle.tokens.specs.declared.token.Goal.{Goal}
use Rattle.tokens.specs.Tokens.{LexicalToken, IsTokenAt, is_end, size}
use Rattle.tokens.proofs.TokenUniqueness.{determined}
use Rattle.language.proofs.texts.TextOffsets.{same_gap}
use Rattle.reading_laws.specs.TreeReadings.{tree_goal, IsTreeReading, last, more}
use Rattle.reading_laws.specs.Laws.{AtMostOneTreeReading}

-- whatever the goals, what is read from a place on begins at one place
token_start : {g h : Goal} {at : ℕ} {cs : List ℕ} {a b : LexicalToken} {ra rb : List ℕ} → IsTokenAt g at cs a ra → IsTokenAt h at cs b rb → a.start ≡ b.start
token_start {at = at} x y = x.start ∙ ap (λ gap. at + size gap) (same_gap x y) ∙ sym y.start

one_token : (n : Tree) {at : ℕ} {cs : List ℕ} {a b : LexicalToken} {ra rb : List ℕ} → IsTokenAt (tree_goal n a.start) at cs a ra → IsTokenAt (tree_goal n b.start) at cs b rb → (a ≡ b) × (ra ≡ rb)
one_token n {at} {cs} {a} {b} {ra} {rb} x y = determined (tree_goal n b.start) at cs a b ra rb (subst (λ z. IsTokenAt (tree_goal n z) at cs a ra) (token_start x y) x) y

both : (c : Bool) → IsTrue c → IsTrue (not c) → ⊥
both true h k = false≢true k
both false h k = false≢true h

pub one_tree_reading : AtMostOneTreeReading
one_tree_reading n at cs _ _ (last x e) (last y f) = ap (λ t. t ∷ []) (one_token n x y).0
one_tree_reading n at cs _ _ (last {token = a} x e) (more {token = b} y f d) = absurd (both (is_end b.class) (subst (λ t. IsTrue (is_end t.class)) (one_token n x y).0 e) f)
one_tree_reading n at cs _ _ (more {token = a} x e c) (last {token = b} y f) = absurd (both (is_end b.class) f (subst (λ t. IsTrue (not (is_end t.class))) (one_token n x y).0 e))
one_tree_reading n at cs _ _ (more {rest = ra} {token = a} {tokens = ts} x e c) (more {rest = rb} {token = b} {tokens = us} y f d) =
    let same = one_token n x y in
    let later : ts ≡ us = one_tree_reading n b.stop rb ts us (subst (λ r. IsTreeReading n b.stop r ts) same.1 (subst (λ t. IsTreeReading n t.stop ra ts) same.0 c)) d in
    (λ i. same.0 i ∷ later i)
