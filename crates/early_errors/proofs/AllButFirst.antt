-- Parts that may stand once in a node, one by one: all but the first are errors.
use Rattle.std.proofs.Common.{◌≡◌, ℕ, Bool, true, false, ◌+◌, ◌<◌, ◌≤◌, List, [], ◌∷◌, ◌++◌, Option, Some, None, refl, sym, ap, ◌∙◌}
use Rattle.tree.specs.Tree.{Tree, Parts, part_at, part_count, parts_drop}
use Rattle.early_errors.specs.declared.EarlyError.{EarlyError}
use Rattle.early_errors.specs.Classes.{after_first}
use Rattle.name_tables.specs.PatternParts.{at_part}
use Rattle.name_tables.specs.BoundNames.{each_part}
use Rattle.early_errors.specs.Names.{when}
use Rattle.early_errors.specs.Early.{Error, each}
use Rattle.early_errors.specs.Walk.{after, listed}
use Rattle.early_errors.proofs.Least.{sooner-none, after-append, each-append}
use Rattle.name_tables.proofs.EachPart.{drop-step, drop-past}

-- those that are errors, where one stands before or none
abbrev pub further : Bool → List ℕ → List ℕ
further true xs = xs
further false xs = after_first xs

-- what is still to be found
abbrev pub to_come : EarlyError → (Tree → List ℕ) → Bool → ℕ → Parts → List Error
to_come x f b i ps = each x (further b (each_part f (parts_drop i ps)))

with_one : (b : Bool) (p : ℕ) (xs : List ℕ) → further b (p ∷ xs) ≡ when b (p ∷ []) ++ xs
with_one true p xs = refl
with_one false p xs = refl

module _ (x : EarlyError) (f : Tree → List ℕ) where
  pub one-comes : (o q total : Option Error) (b : Bool) (ps : Parts) (i : ℕ) (m : Option Tree) (r : Option ℕ) (p : ℕ) → i < part_count ps → m ≡ part_at ps i → listed r ≡ at_part f m → r ≡ Some p →
      q ≡ after o (each x (when b (p ∷ []))) → after o (to_come x f b i ps) ≡ total → after q (to_come x f true (i + 1) ps) ≡ total
  one-comes o q total b ps i m r p l e k s y so =
      let rest = each_part f (parts_drop (i + 1) ps) in
      ap (λ v. after v (each x rest)) y ∙ sym (after-append o (each x (when b (p ∷ []))) (each x rest))
      ∙ ap (after o) (sym (each-append x (when b (p ∷ [])) rest) ∙ ap (each x) (sym (with_one b p rest)))
      ∙ ap (λ v. after o (each x (further b v))) (sym (drop-step f ps i m l e ∙ ap (λ v. v ++ rest) (sym k ∙ ap listed s))) ∙ so

  pub none-comes : (o total : Option Error) (b : Bool) (ps : Parts) (i : ℕ) (m : Option Tree) (r : Option ℕ) → i < part_count ps → m ≡ part_at ps i → listed r ≡ at_part f m → r ≡ None →
      after o (to_come x f b i ps) ≡ total → after o (to_come x f b (i + 1) ps) ≡ total
  none-comes o total b ps i m r l e k s so =
      let rest = each_part f (parts_drop (i + 1) ps) in
      ap (λ v. after o (each x (further b v))) (sym (drop-step f ps i m l e ∙ ap (λ v. v ++ rest) (sym k ∙ ap listed s))) ∙ so

  pub all-came : (o total : Option Error) (b : Bool) (ps : Parts) (i : ℕ) → part_count ps ≤ i → after o (to_come x f b i ps) ≡ total → o ≡ total
  all-came o total b ps i l so = sym (sooner-none o) ∙ ap (λ v. after o (each x v)) (nothing b) ∙ ap (λ v. after o (each x (further b v))) (sym (drop-past f ps i l)) ∙ so
    where
      nothing : (b : Bool) → [] ≡ further b []
      nothing true = refl
      nothing false = refl
