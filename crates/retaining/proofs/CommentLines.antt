-- The lines of comments, one by one.
use Rattle.std.proofs.Common.{◌≡◌, ℕ, true, cond, List, [], ◌∷◌, map, Some, None, Bor, Option, refl, sym, ap, ◌∙◌, subst}
use Rattle.std.specs.List.{list_all}
use Rattle.std.proofs.lemmas.Bool.{and_from}
use Rattle.std.specs.Str.{trim}
use Rattle.std.specs.Iterator.{AlwaysYields}
use Rattle.std.specs.Str.Iter.{lines_steps, lines_rest}
use Rattle.std.specs.Str.Lines.{lines}
use Rattle.std.proofs.lemmas.Iterator.Splits.{YieldsList-from_lines}
use Rattle.unwrapping.specs.Keeps.{Comment}
use Rattle.retaining.specs.Retains.{begins_with_star, is_starred, comment_lines}

module _ {S : Type 0} (steps : S → Option (Bor (List ℕ)) → S → Type 0) where
  abbrev pub Gives : S → List (List ℕ) → Type 0
  Gives s xs = AlwaysYields steps (λ (x : Bor (List ℕ)). x.now) s xs

  -- what is left of the lines of two texts: where these are the same, by what is asked of a line, so are all
  pub record AreLeft (f : List ℕ → List ℕ) (all all_again : List (List ℕ)) (ours theirs : S) : Type 0 where
    pub xs : List (List ℕ)
    pub ys : List (List ℕ)
    pub here : Gives ours xs
    pub there : Gives theirs ys
    pub same : map f xs ≡ map f ys → map f all ≡ map f all_again

  pub line_on : {f : List ℕ → List ℕ} {all all_again : List (List ℕ)} {ours theirs next next_again : S} (x y : Bor (List ℕ)) (r r_again : Option (Bor (List ℕ))) → AreLeft f all all_again ours theirs → r ≡ Some x → r_again ≡ Some y →
      steps ours r next → steps theirs r_again next_again → f x.now ≡ f y.now → AreLeft f all all_again next next_again
  line_on {f} {all} {all_again} {ours} {theirs} {next} {next_again} x y r r_again l e_here e_there s t e =
      of l.xs l.ys l.here l.there l.same (subst (λ z. steps ours z next) e_here s) (subst (λ z. steps theirs z next_again) e_there t)
    where
      of : (xs ys : List (List ℕ)) → Gives ours xs → Gives theirs ys → (map f xs ≡ map f ys → map f all ≡ map f all_again) → steps ours (Some x) next → steps theirs (Some y) next_again → AreLeft f all all_again next next_again
      of [] ys g h k s t = absurd (g x next s)
      of (a ∷ xs) [] g h k s t = absurd (h y next_again t)
      of (a ∷ xs) (b ∷ ys) g h k s t =
          let m = g.1 x next s in
          let n = h.1 y next_again t in
          record { xs = xs; ys = ys; here = m.1; there = n.1; same = λ z. k (λ i. (ap f (sym m.0) ∙ e ∙ ap f n.0) i ∷ z i) }

  pub lines_end : {f : List ℕ → List ℕ} {all all_again : List (List ℕ)} {ours theirs next next_again : S} (r r_again : Option (Bor (List ℕ))) → AreLeft f all all_again ours theirs → r ≡ None → r_again ≡ None → steps ours r next → steps theirs r_again next_again →
      map f all ≡ map f all_again
  lines_end {f} {all} {all_again} {ours} {theirs} {next} {next_again} r r_again l e_here e_there s t =
      of l.xs l.ys l.here l.there l.same (subst (λ z. steps ours z next) e_here s) (subst (λ z. steps theirs z next_again) e_there t)
    where
      of : (xs ys : List (List ℕ)) → Gives ours xs → Gives theirs ys → (map f xs ≡ map f ys → map f all ≡ map f all_again) → steps ours None next → steps theirs None next_again → map f all ≡ map f all_again
      of [] [] g h k s t = k refl
      of (a ∷ xs) ys g h k s t = absurd (g.0 next s)
      of [] (b ∷ ys) g h k s t = absurd (h.0 next_again t)

  -- the lines that are left: where each begins with `*`, all but the first do
  pub record IsStarredBy (all : List (List ℕ)) (state : S) : Type 0 where
    pub xs : List (List ℕ)
    pub here : Gives state xs
    pub starred : list_all (λ line. begins_with_star (trim line)) xs ≡ true → is_starred all ≡ true

  pub starred_first : {state next : S} (all : List (List ℕ)) (x : Bor (List ℕ)) (r : Option (Bor (List ℕ))) → Gives state all → r ≡ Some x → steps state r next → IsStarredBy all next
  starred_first {state} {next} all x r g e s = of all g (subst (λ z. steps state z next) e s)
    where
      of : (all : List (List ℕ)) → Gives state all → steps state (Some x) next → IsStarredBy all next
      of [] g s = absurd (g x next s)
      of (a ∷ xs) g s = record { xs = xs; here = (g.1 x next s).1; starred = λ h. h }

  pub starred_on : {all : List (List ℕ)} {state next : S} (x : Bor (List ℕ)) (r : Option (Bor (List ℕ))) → IsStarredBy all state → r ≡ Some x → steps state r next → begins_with_star (trim x.now) ≡ true → IsStarredBy all next
  starred_on {all} {state} {next} x r l e s star = of l.xs l.here l.starred (subst (λ z. steps state z next) e s)
    where
      of : (xs : List (List ℕ)) → Gives state xs → (list_all (λ line. begins_with_star (trim line)) xs ≡ true → is_starred all ≡ true) → steps state (Some x) next → IsStarredBy all next
      of [] g k s = absurd (g x next s)
      of (a ∷ xs) g k s =
          let m = g.1 x next s in
          record { xs = xs; here = m.1; starred = λ h. k (and_from (begins_with_star (trim a)) _ (ap (λ z. begins_with_star (trim z)) (sym m.0) ∙ star) h) }

  pub starred_end : {all : List (List ℕ)} {state next : S} (r : Option (Bor (List ℕ))) → IsStarredBy all state → r ≡ None → steps state r next → is_starred all ≡ true
  starred_end {all} {state} {next} r l e s = of l.xs l.here l.starred (subst (λ z. steps state z next) e s)
    where
      of : (xs : List (List ℕ)) → Gives state xs → (list_all (λ line. begins_with_star (trim line)) xs ≡ true → is_starred all ≡ true) → steps state None next → is_starred all ≡ true
      of [] g k s = k refl
      of (a ∷ xs) g k s = absurd (g.0 next s)

pub lines_begin : (f : List ℕ → List ℕ) (text other : List ℕ) {ours theirs : _} → lines_rest ours ≡ text → lines_rest theirs ≡ other → AreLeft lines_steps f (lines text) (lines other) ours theirs
lines_begin f text other e g = record { xs = lines text; ys = lines other; here = (YieldsList-from_lines text e).runs; there = (YieldsList-from_lines other g).runs; same = λ h. h }

map_same : (xs : List (List ℕ)) → map (λ (x : List ℕ). x) xs ≡ xs
map_same [] = refl
map_same (x ∷ xs) = ap (λ zs. x ∷ zs) (map_same xs)

pub lines_same : (xs ys : List (List ℕ)) → map (λ (x : List ℕ). x) xs ≡ map (λ (x : List ℕ). x) ys → xs ≡ ys
lines_same xs ys e = sym (map_same xs) ∙ e ∙ map_same ys

-- ---- comments

pub comments_by_lines : (c d : Comment) → lines c.bytes ≡ lines d.bytes → comment_lines c ≡ comment_lines d
comments_by_lines c d e = ap (λ ls. cond (is_starred ls) (map trim ls) ls) e

pub comments_by_words : (c d : Comment) → is_starred (lines c.bytes) ≡ true → is_starred (lines d.bytes) ≡ true → map trim (lines c.bytes) ≡ map trim (lines d.bytes) → comment_lines c ≡ comment_lines d
comments_by_words c d h k e = ap (λ s. cond s (map trim (lines c.bytes)) (lines c.bytes)) h ∙ e ∙ sym (ap (λ s. cond s (map trim (lines d.bytes)) (lines d.bytes)) k)
