-- What an automaton reads greedily is the only word of its class that can stand there.
use Rattle.std.proofs.Common.{◌≡◌, ℕ, Bool, List, [], ◌∷◌, ◌++◌, IsTrue, IsFalse, sym, ap, ◌∙◌, subst, append_assoc, append-nil, inl, inr}
use Rattle.tokens.proofs.Beginnings.{true_false}
use Rattle.tokens.proofs.TriviaSteps.{fronts}

-- from a word and the rest behind it the automaton goes no further, where it is alive behind the word
pub only_greedy : {S : Type 0} (run : S → List ℕ → S) (dead : S → Bool) (P : List ℕ → List ℕ → Type 0) (s : S) →
    ((s : S) (v w : List ℕ) → run s (v ++ w) ≡ run (run s v) w) → ((s : S) (w : List ℕ) → IsTrue (dead s) → IsTrue (dead (run s w))) →
    ((w r : List ℕ) → P w r → IsFalse (dead (run s w))) → ((w : List ℕ) (x : ℕ) (r : List ℕ) → P w (x ∷ r) → IsTrue (dead (run s (w ++ x ∷ [])))) →
    (word behind : List ℕ) → IsFalse (dead (run s word)) → ((x : ℕ) (r : List ℕ) → behind ≡ x ∷ r → IsTrue (dead (run s (word ++ x ∷ [])))) →
    (w r : List ℕ) → word ++ behind ≡ w ++ r → P w r → P word behind
only_greedy run dead P s append stays alive stuck word behind here stops w r e h =
    elim (fronts word w behind r e) [
      | inl p ↦ longer p.0 p.1 p.2
      | inr p ↦ shorter p.0 p.1 p.2
    ] where
      beyond : (v : List ℕ) (x : ℕ) (xs : List ℕ) → IsTrue (dead (run s (v ++ x ∷ []))) → IsTrue (dead (run s (v ++ x ∷ xs)))
      beyond v x xs k = let q : run s (v ++ x ∷ xs) ≡ run (run s (v ++ x ∷ [])) xs = ap (run s) (sym (append_assoc v (x ∷ []) xs)) ∙ append s (v ++ x ∷ []) xs in
          subst (λ y. IsTrue (dead y)) (sym q) (stays (run s (v ++ x ∷ [])) xs k)

      longer : (m : List ℕ) → w ≡ word ++ m → behind ≡ m ++ r → P word behind
      longer [] p q = let z : w ≡ word = p ∙ append-nil word in subst (λ y. P y behind) z (subst (λ y. P w y) (sym q) h)
      longer (x ∷ m) p q = absurd (true_false _ (beyond word x m (stops x (m ++ r) q)) (subst (λ y. IsFalse (dead (run s y))) p (alive w r h)))

      shorter : (m : List ℕ) → word ≡ w ++ m → r ≡ m ++ behind → P word behind
      shorter [] p q = let z : word ≡ w = p ∙ append-nil w in subst (λ y. P y behind) (sym z) (subst (λ y. P w y) q h)
      shorter (x ∷ m) p q = absurd (true_false _ (beyond w x m (stuck w x (m ++ behind) (subst (λ y. P w y) q h))) (subst (λ y. IsFalse (dead (run s y))) p here))
