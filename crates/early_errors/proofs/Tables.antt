-- Tables of names, as loops write and undo them.
use Rattle.std.proofs.Common.{◌≡◌, ℕ, ◌+◌, ◌<◌, Bool, true, false, true≢false, not, cond, List, [], ◌∷◌, ◌++◌, length, get_or, take, Option, Some, refl, sym, ap, ◌∙◌}
use Rattle.std.specs.Prelude.{◌||◌}
use Rattle.std.specs.Str.{bytes_eq}
use Rattle.early_errors.specs.declared.EarlyError.{EarlyError}
use Rattle.early_errors.specs.Names as names
use Rattle.early_errors.specs.Names.{has_name}
use Rattle.early_errors.specs.Early.{Error, number}
use Rattle.name_tables.specs.Tables.{with_value, Agree}
use Rattle.early_errors.specs.Walk.{Named, sooner, after, named, all_named, clashing}
use Rattle.early_errors.proofs.NameLoops.{one_more, behind, behind-more, has_name-more}

-- a set with one more of the names
module _ (f g : List ℕ → Bool) (xs : List Named) (i : ℕ) (d : Named) (l : i < length xs) (h : (w : List ℕ) → g w ≡ (bytes_eq w (get_or xs i d).name.now || f w)) where
  pub seen-turn : ((w : List ℕ) → f w ≡ has_name w (behind [] (all_named (take i xs)))) → (w : List ℕ) → g w ≡ has_name w (behind [] (all_named (take (i + 1) xs)))
  seen-turn so w =
      h w ∙ ap (λ b. bytes_eq w (get_or xs i d).name.now || b) (so w)
      ∙ sym (ap (λ ys. has_name w (behind [] ys)) (one_more xs i d l) ∙ ap (has_name w) (behind-more [] (all_named (take i xs)) (named (get_or xs i d))))

  pub there-turn : ((w : List ℕ) → f w ≡ has_name w (all_named (take i xs))) → (w : List ℕ) → g w ≡ has_name w (all_named (take (i + 1) xs))
  there-turn so w =
      h w ∙ ap (λ b. bytes_eq w (get_or xs i d).name.now || b) (so w)
      ∙ sym (ap (has_name w) (one_more xs i d l) ∙ has_name-more w (all_named (take i xs)) (named (get_or xs i d)))

-- what an insertion says of the set before
pub stood : (b s : Bool) → b ≡ not s → b ≡ false → s ≡ true
stood b true e f = refl
stood b false e f = absurd (true≢false (sym e ∙ f))

pub stood_not : (b s : Bool) → b ≡ not s → b ≡ true → s ≡ false
stood_not b true e f = absurd (true≢false (sym f ∙ e))
stood_not b false e f = refl

-- ---- names that clash

abbrev clash_one : (List ℕ → Option Error) → EarlyError → names.Named → List ℕ → Option Error
clash_one f e x w = cond (bytes_eq x.0 w) (sooner (f x.0) (Some (number e, x.1))) (f w)

clashing-more : (f : List ℕ → Option Error) (e : EarlyError) (ys : List names.Named) (y : names.Named) → clashing f e (ys ++ y ∷ []) ≡ clash_one (clashing f e ys) e y
clashing-more f e [] y = refl
clashing-more f e (x ∷ ys) y = clashing-more (clash_one f e x) e ys y

pub entered-turn : (f g h : List ℕ → Option Error) (e : EarlyError) (xs : List Named) (i : ℕ) (d : Named) → i < length xs → (v r : Option Error) → Agree g (clashing f e (all_named (take i xs))) →
    v ≡ g (get_or xs i d).name.now → r ≡ after v ((number e, (get_or xs i d).start) ∷ []) → Agree h (with_value g (get_or xs i d).name.now r) → Agree h (clashing f e (all_named (take (i + 1) xs)))
entered-turn f g h e xs i d l v r so a b k w =
    let x = get_or xs i d in
    k w ∙ (λ j. cond (bytes_eq x.name.now w) ((b ∙ ap (λ o. sooner o (Some (number e, x.start))) (a ∙ so x.name.now)) j) (so w j))
    ∙ sym (ap (λ ys. clashing f e ys w) (one_more xs i d l) ∙ ap (λ q. q w) (clashing-more f e (all_named (take i xs)) (named x)))
