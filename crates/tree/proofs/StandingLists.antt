-- Lists that stand in a list from a place on, and lists put there.
use Rattle.std.proofs.Common.{◌≡◌, ℕ, zero, suc, ◌+◌, ◌≤◌, List, [], ◌∷◌, ◌++◌, length, take, drop, set, slice_get, Some, refl, sym, ap, ◌∙◌, arith, append_assoc, length-append, length-take}
use Rattle.std.proofs.Math.Seq.{drop-append_seam, take-append_seam, drop-append-add, set-append_seam}
use Rattle.std.proofs.lemmas.List.{take-append-drop}
use Rattle.tree.specs.Standing.{StandsFrom, with_from}

module _ {X : Type 0} where
  pub first_of : (xs ys zs : List X) (i : ℕ) → StandsFrom xs i (ys ++ zs) → StandsFrom xs i ys
  first_of xs ys zs i h = (h.0, zs ++ h.1, h.2 ∙ ap (λ u. h.0 ++ u) (append_assoc ys zs h.1), h.3)

  pub last_of : (xs ys zs : List X) (i j : ℕ) → j ≡ i + length ys → StandsFrom xs i (ys ++ zs) → StandsFrom xs j zs
  last_of xs ys zs i j e h =
      (h.0 ++ ys, h.1, h.2 ∙ ap (λ u. h.0 ++ u) (append_assoc ys zs h.1) ∙ sym (append_assoc h.0 ys (zs ++ h.1)), omega (arith, e, h.3, length-append h.0 ys))

  there : (before ys : List X) (y : X) (k : ℕ) → length before ≡ k → slice_get (before ++ y ∷ ys) k ≡ Some y
  there [] ys y zero h = refl
  there [] ys y (suc k) h = absurd (omega (arith, h))
  there (x ∷ before) ys y zero h = absurd (omega (arith, h))
  there (x ∷ before) ys y (suc k) h = there before ys y k (omega (arith, h))

  -- the only one that stands there
  pub only_of : (xs : List X) (y : X) (k : ℕ) → StandsFrom xs k (y ∷ []) → slice_get xs k ≡ Some y
  only_of xs y k h = ap (λ u. slice_get u k) h.2 ∙ there h.0 h.1 y k h.3

  pub stands_within : (xs ys : List X) (i : ℕ) → StandsFrom xs i ys → i + length ys ≤ length xs
  stands_within xs ys i h = omega (arith, ap length h.2, length-append h.0 (ys ++ h.1), length-append ys h.1, h.3)

  drop_none : (j : ℕ) → drop {A = X} j [] ≡ []
  drop_none zero = refl
  drop_none (suc j) = refl

  pub drop-drop : (i j : ℕ) (xs : List X) → drop (i + j) xs ≡ drop j (drop i xs)
  drop-drop zero j xs = let at : 0 + j ≡ j = omega arith in ap (λ n. drop n xs) at
  drop-drop (suc i) j [] = let at : suc i + j ≡ suc (i + j) = omega arith in ap (λ n. drop {A = X} n []) at ∙ sym (drop_none j)
  drop-drop (suc i) j (x ∷ xs) = let at : suc i + j ≡ suc (i + j) = omega arith in ap (λ n. drop n (x ∷ xs)) at ∙ drop-drop i j xs

  front_length : (i : ℕ) (xs : List X) → i ≤ length xs → length (take i xs) ≡ i
  front_length i xs h = omega (arith, length-take i xs, h)

  -- another list of the same length in the place of one
  pub put_there : (b ys zs d : List X) (i : ℕ) → length b ≡ i → length zs ≡ length ys → with_from i zs (b ++ (ys ++ d)) ≡ b ++ (zs ++ d)
  put_there b ys zs d i h n =
      let at : i ≡ length b = sym h in
      let end : i + length zs ≡ length b + length ys = omega (arith, h, n) in
      ap (λ m. take m (b ++ (ys ++ d)) ++ (zs ++ drop (i + length zs) (b ++ (ys ++ d)))) at
      ∙ ap (λ us. us ++ (zs ++ drop (i + length zs) (b ++ (ys ++ d)))) (take-append_seam b (ys ++ d))
      ∙ ap (λ m. b ++ (zs ++ drop m (b ++ (ys ++ d)))) end
      ∙ ap (λ us. b ++ (zs ++ us)) (drop-append-add b (ys ++ d) (length ys) ∙ drop-append_seam ys d)

  pub with_from-there : (xs ys : List X) (i : ℕ) → StandsFrom xs i ys → with_from i ys xs ≡ xs
  with_from-there xs ys i h = ap (with_from i ys) h.2 ∙ put_there h.0 ys ys h.1 i h.3 refl ∙ sym h.2

  pub with_from-put : (xs ys zs : List X) (i : ℕ) (h : StandsFrom xs i ys) → length zs ≡ length ys → with_from i zs xs ≡ h.0 ++ (zs ++ h.1)
  with_from-put xs ys zs i h n = ap (with_from i zs) h.2 ∙ put_there h.0 ys zs h.1 i h.3 n

  -- and it stands there then
  pub stands_put : (xs ys zs : List X) (i : ℕ) → StandsFrom xs i ys → length zs ≡ length ys → StandsFrom (with_from i zs xs) i zs
  stands_put xs ys zs i h n = (h.0, h.1, with_from-put xs ys zs i h n, h.3)

  -- one list behind another
  pub with_from-more : (i j : ℕ) (ys zs xs : List X) → j ≡ i + length ys → j ≤ length xs → with_from j zs (with_from i ys xs) ≡ with_from i (ys ++ zs) xs
  with_from-more i j ys zs xs e h =
      let a = take i xs in
      let d = drop (i + length ys) xs in
      let front : length (a ++ ys) ≡ j = omega (arith, length-append a ys, front_length i xs (omega (arith, h, e)), e) in
      let regrouped : a ++ (ys ++ d) ≡ (a ++ ys) ++ d = sym (append_assoc a ys d) in
      let taken : take j (a ++ (ys ++ d)) ≡ a ++ ys =
      ap (take j) regrouped ∙ ap (λ n. take n ((a ++ ys) ++ d)) (sym front) ∙ take-append_seam (a ++ ys) d in
      let behind : drop (j + length zs) (a ++ (ys ++ d)) ≡ drop (i + length (ys ++ zs)) xs =
      (let at : j + length zs ≡ length (a ++ ys) + length zs = omega (arith, front) in
      let all : (i + length ys) + length zs ≡ i + length (ys ++ zs) = omega (arith, length-append ys zs) in
      ap (drop (j + length zs)) regrouped ∙ ap (λ n. drop n ((a ++ ys) ++ d)) at ∙ drop-append-add (a ++ ys) d (length zs)
      ∙ sym (drop-drop (i + length ys) (length zs) xs) ∙ ap (λ n. drop n xs) all) in
      ap (λ us. us ++ (zs ++ drop (j + length zs) (a ++ (ys ++ d)))) taken
      ∙ ap (λ us. (a ++ ys) ++ (zs ++ us)) behind
      ∙ append_assoc a ys (zs ++ drop (i + length (ys ++ zs)) xs)
      ∙ ap (λ us. a ++ us) (sym (append_assoc ys zs (drop (i + length (ys ++ zs)) xs)))

  -- another list in front of one that was put there
  pub with_from-front : (xs us ys zs vs : List X) (i : ℕ) → StandsFrom xs i us → length (ys ++ vs) ≡ length us → length zs ≡ length ys → with_from i zs (with_from i (ys ++ vs) xs) ≡ with_from i (zs ++ vs) xs
  with_from-front xs us ys zs vs i h n m =
      ap (with_from i zs) (with_from-put xs us (ys ++ vs) i h n ∙ ap (λ ws. h.0 ++ ws) (append_assoc ys vs h.1))
      ∙ put_there h.0 ys zs (vs ++ h.1) i h.3 m
      ∙ ap (λ ws. h.0 ++ ws) (sym (append_assoc zs vs h.1))
      ∙ sym (with_from-put xs us (zs ++ vs) i h (omega (arith, n, m, length-append ys vs, length-append zs vs)))

  -- another last one of a list
  pub with_last : (xs ys : List X) (y z : X) (i k : ℕ) → k ≡ i + length ys → StandsFrom xs i (ys ++ y ∷ []) → set xs k z ≡ with_from i (ys ++ z ∷ []) xs
  with_last xs ys y z i k e h =
      let at : k ≡ length (h.0 ++ ys) = omega (arith, e, h.3, length-append h.0 ys) in
      let all : xs ≡ (h.0 ++ ys) ++ (y ∷ h.1) = h.2 ∙ ap (λ us. h.0 ++ us) (append_assoc ys (y ∷ []) h.1) ∙ sym (append_assoc h.0 ys (y ∷ h.1)) in
      ap (λ us. set us k z) all ∙ ap (λ n. set ((h.0 ++ ys) ++ (y ∷ h.1)) n z) at ∙ set-append_seam (h.0 ++ ys) y h.1 z
      ∙ append_assoc h.0 ys (z ∷ h.1) ∙ ap (λ us. h.0 ++ us) (sym (append_assoc ys (z ∷ []) h.1))
      ∙ sym (with_from-put xs (ys ++ y ∷ []) (ys ++ z ∷ []) i h (omega (arith, length-append ys (y ∷ []), length-append ys (z ∷ []))))

  -- what stands behind a list stays there whatever is put in the place of that
  pub stands_behind : (i j : ℕ) (ys zs xs : List X) → j ≡ i + length ys → StandsFrom xs j zs → StandsFrom (with_from i ys xs) j zs
  stands_behind i j ys zs xs e h =
      let a = take i xs in
      let low : i + length ys ≤ length xs = omega (arith, e, stands_within xs zs j h) in
      let rest : drop (i + length ys) xs ≡ zs ++ h.1 =
      (let at : i + length ys ≡ length h.0 = omega (arith, e, h.3) in ap (λ n. drop n xs) at ∙ ap (drop (length h.0)) h.2 ∙ drop-append_seam h.0 (zs ++ h.1)) in
      (a ++ ys, h.1, ap (λ us. a ++ (ys ++ us)) rest ∙ sym (append_assoc a ys (zs ++ h.1)), omega (arith, length-append a ys, front_length i xs (omega (arith, low)), e))

  -- nothing put anywhere
  pub with_from-none : (i : ℕ) (xs : List X) → i ≤ length xs → with_from i [] xs ≡ xs
  with_from-none i xs h = let at : i + 0 ≡ i = omega arith in ap (λ n. take i xs ++ drop n xs) at ∙ take-append-drop i xs
