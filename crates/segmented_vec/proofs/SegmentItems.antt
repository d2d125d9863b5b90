-- Items in chunks: where the item with an index is, and one more item.
use Rattle.std.proofs.Common.{◌≡◌, ℕ, zero, suc, ◌+◌, ◌-◌, ◌*◌, ◌/◌, ◌%◌, ◌<◌, ◌≤◌, List, [], ◌∷◌, ◌++◌, length, get_or, set, sym, ap, ◌∙◌, arith, append_assoc, length-append, append-nil, length-set, subst}
use Rattle.std.proofs.lemmas.List.{get_or_append_left, get_or-append_right, set-append_left, set-append_right}
use Rattle.std.proofs.lemmas.Nat.{div-add-mod', div_below}
use Rattle.std.proofs.Math.Nat.{lt_of_mul-lt-mul_right, mul-le-mul_right, mod-lt}
use Rattle.std.specs.Vec.{vec_capacity}
use Rattle.segmented_vec.specs.declared.segmented_vec.Segment.{Segment}
use Rattle.segmented_vec.specs.SegmentedVec.{joined, AllButTheLastAreFull, HaveRoom, HasBegun, most_in_all}

-- a number of items, in chunks of N: whole chunks, and what is left
chunk_count : (N n : ℕ) → 0 < N → (n / N * N ≤ n) × (n < n / N * N + N)
chunk_count N n more =
    let all : n / N * N + n % N ≡ n = div-add-mod' n N in
    let left : n % N < N = mod-lt n more in
    (omega (arith, all), omega (arith, all, left))

module _ {T : Type 0} (N : ℕ) where
  -- there are no more items than the chunks have room for
  pub most : (ps : List (Segment T)) → AllButTheLastAreFull N ps → length (joined ps) ≤ length ps * N
  most [] a = omega arith
  most (p ∷ ps) a = omega (arith, length-append p.items.items (joined ps), a.0, most ps a.1.1)

  -- the chunk of a number is there
  pub chunk_there : (ps : List (Segment T)) (q r : ℕ) → AllButTheLastAreFull N ps → q * N + r < length (joined ps) → q < length ps
  chunk_there ps q r a h = lt_of_mul-lt-mul_right N (omega (arith, h, most ps a))

  -- and the item is in it
  pub item_there : (ps : List (Segment T)) (q r : ℕ) (p : Segment T) → AllButTheLastAreFull N ps → r < N → q * N + r < length (joined ps) → p ≡ get_or ps q p → r < length p.items.items
  item_there [] q r p a l h e = absurd (omega (arith, h))
  item_there (x ∷ []) zero r p a l h e = omega (arith, h, ap (λ (y : Segment T). length y.items.items) e, length-append x.items.items [])
  item_there (x ∷ []) (suc q) r p a l h e = absurd (omega (arith, h, a.0, length-append x.items.items []))
  item_there (x ∷ (y ∷ ps)) zero r p a l h e = omega (arith, l, a.1.0 (omega arith), ap (λ (z : Segment T). length z.items.items) e)
  item_there (x ∷ (y ∷ ps)) (suc q) r p a l h e =
      let full : N ≤ length x.items.items = a.1.0 (omega arith) in
      item_there (y ∷ ps) q r p a.1.1 l (omega (arith, h, a.0, full, length-append x.items.items (joined (y ∷ ps)))) e

  pub item_at : (ps : List (Segment T)) (q r i : ℕ) (p : Segment T) (e : T) → AllButTheLastAreFull N ps → r < N → i ≡ q * N + r → i < length (joined ps)
      → p ≡ get_or ps q p → e ≡ get_or p.items.items r e → e ≡ get_or (joined ps) i e
  item_at [] q r i p e a l s h b n = absurd (omega (arith, h))
  item_at (x ∷ ps) zero r i p e a l s h b n =
      let same : i ≡ r = omega (arith, s) in
      let there : r < length p.items.items = item_there (x ∷ ps) zero r p a l (omega (arith, h, s)) b in
      let inside : i < length x.items.items = omega (arith, there, same, ap (λ (y : Segment T). length y.items.items) b) in
      n ∙ ap (λ (y : Segment T). get_or y.items.items r e) b ∙ ap (λ j. get_or x.items.items j e) (sym same) ∙ sym (get_or_append_left x.items.items (joined ps) e i inside)
  item_at (x ∷ []) (suc q) r i p e a l s h b n = absurd (omega (arith, s, h, a.0, length-append x.items.items []))
  item_at (x ∷ (y ∷ ps)) (suc q) r i p e a l s h b n =
      let full : N ≤ length x.items.items = a.1.0 (omega arith) in
      let long : length x.items.items ≡ N = omega (arith, full, a.0) in
      item_at (y ∷ ps) q r (i - N) p e a.1.1 l (omega (arith, s)) (omega (arith, h, s, long, length-append x.items.items (joined (y ∷ ps)))) b n
      ∙ sym (get_or-append_right x.items.items (joined (y ∷ ps)) N i e long (omega (arith, s)))

  -- another item in its place
  pub replaced : (ps : List (Segment T)) (q r i : ℕ) (p s : Segment T) (e : T) → AllButTheLastAreFull N ps → r < N → i ≡ q * N + r → i < length (joined ps)
      → p ≡ get_or ps q p → s.items.items ≡ set p.items.items r e → AllButTheLastAreFull N (set ps q s) × (joined (set ps q s) ≡ set (joined ps) i e)
  replaced [] q r i p s e a l k h b n = absurd (omega (arith, h))
  replaced (x ∷ ps) zero r i p s e a l k h b n =
      let same : r ≡ i = omega (arith, k) in
      let there : r < length p.items.items = item_there (x ∷ ps) zero r p a l (omega (arith, h, k)) b in
      let long : length p.items.items ≡ length x.items.items = ap (λ (y : Segment T). length y.items.items) b in
      let inside : i < length x.items.items = omega (arith, there, same, long) in
      let size : length s.items.items ≡ length x.items.items = ap length n ∙ length-set p.items.items r e ∙ long in (
        (omega (arith, a.0, size), ((λ (z : 0 < length ps). omega (arith, a.1.0 z, size)), a.1.1)),
        ap (λ (es : List T). es ++ joined ps) (n ∙ ap (λ (y : Segment T). set y.items.items r e) b ∙ ap (λ j. set x.items.items j e) same)
            ∙ sym (set-append_left x.items.items (joined ps) i e inside),
      )
  replaced (x ∷ []) (suc q) r i p s e a l k h b n = absurd (omega (arith, k, h, a.0, length-append x.items.items []))
  replaced (x ∷ (y ∷ ps)) (suc q) r i p s e a l k h b n =
      let full : N ≤ length x.items.items = a.1.0 (omega arith) in
      let long : length x.items.items ≡ N = omega (arith, full, a.0) in
      let rest = replaced (y ∷ ps) q r (i - N) p s e a.1.1 l (omega (arith, k)) (omega (arith, h, k, long, length-append x.items.items (joined (y ∷ ps)))) b n in (
        (a.0, ((λ (z : 0 < length (set (y ∷ ps) q s)). full), rest.0)),
        ap (λ (es : List T). x.items.items ++ es) rest.1 ∙ sym (set-append_right x.items.items (joined (y ∷ ps)) N i e long (omega (arith, k))),
      )

  -- the last one has room
  pub last_size : (ps : List (Segment T)) (k : ℕ) (p : Segment T) → AllButTheLastAreFull N ps → k * N ≤ length (joined ps) → length (joined ps) < k * N + N → k < length ps → p ≡ get_or ps k p → length p.items.items < N
  last_size [] k p a l h i r = absurd (omega (arith, i))
  last_size (x ∷ []) zero p a l h i r = omega (arith, ap (λ (y : Segment T). length y.items.items) r, h, length-append x.items.items [])
  last_size (x ∷ []) (suc k) p a l h i r = absurd (omega (arith, i))
  last_size (x ∷ (y ∷ ps)) zero p a l h i r = absurd (omega (arith, h, a.1.0 (omega arith), length-append x.items.items (joined (y ∷ ps))))
  last_size (x ∷ (y ∷ ps)) (suc k) p a l h i r =
      let full : N ≤ length x.items.items = a.1.0 (omega arith) in
      let all = length-append x.items.items (joined (y ∷ ps)) in
      last_size (y ∷ ps) k p a.1.1 (omega (arith, l, a.0, all)) (omega (arith, h, full, all)) (omega (arith, i)) r

  pub room_at : (ps : List (Segment T)) (k : ℕ) (p : Segment T) → HaveRoom N ps → k < length ps → p ≡ get_or ps k p → N ≤ vec_capacity p.items
  room_at [] k p a i r = absurd (omega (arith, i))
  room_at (x ∷ ps) zero p a i r = omega (arith, a.0, ap (λ (y : Segment T). vec_capacity y.items) r)
  room_at (x ∷ ps) (suc k) p a i r = room_at ps k p a.1 (omega (arith, i)) r

  pub HaveRoom-set : (ps : List (Segment T)) (k : ℕ) (q : Segment T) → HaveRoom N ps → N ≤ vec_capacity q.items → HaveRoom N (set ps k q)
  HaveRoom-set [] k q a h = tt
  HaveRoom-set (x ∷ ps) zero q a h = (h, a.1)
  HaveRoom-set (x ∷ ps) (suc k) q a h = (a.0, HaveRoom-set ps k q a.1 h)

  pub HaveRoom-behind : (ps : List (Segment T)) (q : Segment T) → HaveRoom N ps → N ≤ vec_capacity q.items → HaveRoom N (ps ++ q ∷ [])
  HaveRoom-behind [] q a h = (h, tt)
  HaveRoom-behind (x ∷ ps) q a h = (a.0, HaveRoom-behind ps q a.1 h)

  -- one more item in the last chunk
  pub grown_in : (ps : List (Segment T)) (k : ℕ) (p q : Segment T) (e : T) → AllButTheLastAreFull N ps → k * N ≤ length (joined ps) → length (joined ps) < k * N + N → k < length ps
      → p ≡ get_or ps k p → q.items.items ≡ p.items.items ++ e ∷ [] → AllButTheLastAreFull N (set ps k q) × (joined (set ps k q) ≡ joined ps ++ e ∷ [])
  grown_in [] k p q e a l h i r n = absurd (omega (arith, i))
  grown_in (x ∷ []) zero p q e a l h i r n =
      let fits : length q.items.items ≤ N =
      omega (arith, ap length n, length-append p.items.items (e ∷ []), ap (λ (y : Segment T). length y.items.items) r, h, length-append x.items.items []) in (
        (fits, ((λ (z : 0 < 0). absurd (omega (arith, z))), tt)),
        append-nil q.items.items ∙ n ∙ ap (λ (y : Segment T). y.items.items ++ e ∷ []) r ∙ ap (λ (es : List T). es ++ e ∷ []) (sym (append-nil x.items.items)),
      )
  grown_in (x ∷ []) (suc k) p q e a l h i r n = absurd (omega (arith, i))
  grown_in (x ∷ (y ∷ ps)) zero p q e a l h i r n = absurd (omega (arith, h, a.1.0 (omega arith), length-append x.items.items (joined (y ∷ ps))))
  grown_in (x ∷ (y ∷ ps)) (suc k) p q e a l h i r n =
      let full : N ≤ length x.items.items = a.1.0 (omega arith) in
      let all = length-append x.items.items (joined (y ∷ ps)) in
      let rest = grown_in (y ∷ ps) k p q e a.1.1 (omega (arith, l, a.0, all)) (omega (arith, h, full, all)) (omega (arith, i)) r n in
      ((a.0, ((λ (z : 0 < length (set (y ∷ ps) k q)). full), rest.0)), ap (λ (es : List T). x.items.items ++ es) rest.1 ∙ sym (append_assoc x.items.items (joined (y ∷ ps)) (e ∷ [])))

  -- an empty chunk behind the others, where all are full
  pub begun_behind : (ps : List (Segment T)) (q : Segment T) → AllButTheLastAreFull N ps → length ps * N ≤ length (joined ps) → q.items.items ≡ []
      → AllButTheLastAreFull N (ps ++ q ∷ []) × (joined (ps ++ q ∷ []) ≡ joined ps)
  begun_behind [] q a l n = ((omega (arith, ap length n), ((λ (z : 0 < 0). absurd (omega (arith, z))), tt)), append-nil q.items.items ∙ n)
  begun_behind (x ∷ ps) q a l n =
      let all = length-append x.items.items (joined ps) in
      let below = most ps a.1.1 in
      let full : N ≤ length x.items.items = omega (arith, l, below, all) in
      let rest = begun_behind ps q a.1.1 (omega (arith, l, a.0, all)) n in
      ((a.0, ((λ (z : 0 < length (ps ++ q ∷ [])). full), rest.0)), ap (λ (es : List T). x.items.items ++ es) rest.1)

  -- chunks with the same items that have room for one more, behind the n that are there
  pub record Ready (ps xs : List (Segment T)) (n m : ℕ) : Type 0 where
    pub full : AllButTheLastAreFull N xs
    pub room : HaveRoom N xs
    pub same : joined xs ≡ joined ps
    pub there : n / N < length xs
    pub count : m ≡ n
    pub bound : length xs * N ≤ 9223372036854775807

  pub ready : (ps xs : List (Segment T)) (n m : ℕ) → AllButTheLastAreFull N ps → HaveRoom N ps → n / N < length ps → length ps * N ≤ 9223372036854775807 → xs ≡ ps → m ≡ n → Ready ps xs n m
  ready ps xs n m a r l b is same = record {
    full = subst (AllButTheLastAreFull N) (sym is) a;
    room = subst (HaveRoom N) (sym is) r;
    same = ap joined is;
    there = omega (arith, l, ap length is);
    count = same;
    bound = omega (arith, b, ap (λ (zs : List (Segment T)). length zs * N) is);
  }

  pub ready_behind : (ps ys xs : List (Segment T)) (n m : ℕ) → 0 < N → HasBegun N ps ys → AllButTheLastAreFull N ps → HaveRoom N ps → n ≡ length (joined ps) → length ps ≤ n / N → n + N ≤ most_in_all
      → xs ≡ ys → m ≡ n → Ready ps xs n m
  ready_behind ps ys xs n m more g a r all l b at same =
      let whole = chunk_count N n more in
      let most_chunks : length ps * N ≤ n = omega (arith, whole.0, mul-le-mul_right N l) in
      let q = g.chunk in
      let is : xs ≡ ps ++ q ∷ [] = at ∙ g.behind in
      let begun = begun_behind ps q a (omega (arith, all, most_chunks)) g.empty in
      let size : length xs ≡ length ps + 1 = omega (arith, ap length is, length-append ps (q ∷ [])) in
      record {
        full = subst (AllButTheLastAreFull N) (sym is) begun.0;
        room = subst (HaveRoom N) (sym is) (HaveRoom-behind ps q r g.room);
        same = ap joined is ∙ begun.1;
        there = div_below n N (length xs) more (omega (arith, all, most ps a, more, ap (λ k. k * N) size));
        count = same;
        bound = omega (arith, most_chunks, b, ap (λ k. k * N) size);
      }

  module _ (ps xs : List (Segment T)) (n m : ℕ) (p : Segment T) (more : 0 < N) (y : Ready ps xs n m) (all : n ≡ length (joined ps)) (r : p ≡ get_or xs (n / N) p) where
    pub has_room : length p.items.items < vec_capacity p.items
    has_room =
        omega (
          arith,
          last_size xs (n / N) p y.full (omega (arith, (chunk_count N n more).0, all, ap length y.same)) (omega (arith, (chunk_count N n more).1, all, ap length y.same)) y.there r,
          room_at xs (n / N) p y.room y.there r,
        )

    module _ (q : Segment T) (e : T) (items : q.items.items ≡ p.items.items ++ e ∷ []) where
      pub one_more : AllButTheLastAreFull N (set xs (n / N) q) × (joined (set xs (n / N) q) ≡ joined ps ++ e ∷ [])
      one_more =
          let grown = grown_in xs (n / N) p q e y.full (omega (arith, (chunk_count N n more).0, all, ap length y.same)) (omega (arith, (chunk_count N n more).1, all, ap length y.same)) y.there r items in
          (grown.0, grown.1 ∙ ap (λ (es : List T). es ++ e ∷ []) y.same)

      pub closed : vec_capacity q.items ≡ vec_capacity p.items
          → AllButTheLastAreFull N (set xs (n / N) q) × (HaveRoom N (set xs (n / N) q) × ((m + 1 ≡ length (joined (set xs (n / N) q))) × (length (set xs (n / N) q) * N ≤ 9223372036854775807)))
      closed h = (
        one_more.0,
        (
          HaveRoom-set xs (n / N) q y.room (omega (arith, h, room_at xs (n / N) p y.room y.there r)),
          (
            omega (arith, y.count, all, ap length one_more.1, length-append (joined ps) (e ∷ [])),
            omega (arith, y.bound, ap (λ k. k * N) (length-set xs (n / N) q)),
          ),
        ),
      )
