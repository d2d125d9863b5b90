-- A stack as a vector, its top last.
use Rattle.std.proofs.Common.{◌≡◌, Bool, true, false, cond, List, [], ◌∷◌, ◌++◌, reverse, Option, Some, None, refl, sym, ap, ◌∙◌, append-nil}
use Rattle.std.specs.Prelude.{option_to_list, unwrap_or, map}
use Rattle.std.proofs.lemmas.List.{reverse-append, map-append}
use Rattle.cost_table.specs.declared.table.Row.{Row}
use Rattle.paren_planner.specs.declared.wrap_pass.WrapContext.{WrapContext}
use Rattle.paren_planner.specs.Steps.{others}
use Rattle.paren_planner.specs.Marked.{round, innermost_round}

pub pushed : {X : Type 0} (xs ys : List X) (x : X) → ys ≡ xs ++ x ∷ [] → reverse ys ≡ x ∷ reverse xs
pushed xs ys x e = ap reverse e ∙ reverse-append xs (x ∷ [])

-- what is left, and the top
pub popped : {X : Type 0} (xs ys : List X) (o : Option X) → xs ≡ ys ++ option_to_list o → (o ≡ None → xs ≡ []) → (others (reverse xs) ≡ reverse ys)
popped xs ys None e h =
    let z : xs ≡ [] = h refl in
    let w : ys ≡ [] = sym (append-nil ys) ∙ sym e ∙ z in
    ap (λ u. others (reverse u)) z ∙ sym (ap reverse w)
popped xs ys (Some x) e h = ap others (pushed ys xs x e)

pub popped_round : (xs ys : List WrapContext) (o : Option WrapContext) (d : WrapContext) → xs ≡ ys ++ option_to_list o → (o ≡ None → xs ≡ []) → innermost_round (reverse (map round xs)) (round d) ≡ round (unwrap_or o d)
popped_round xs ys None d e h = ap (λ u. innermost_round (reverse (map round u)) (round d)) (h refl)
popped_round xs ys (Some x) d e h = ap (λ u. innermost_round u (round d)) (pushed (map round ys) (map round xs) (round x) (ap (map round) e ∙ map-append round ys (x ∷ [])))

pub popped_rounds : (xs ys : List WrapContext) (o : Option WrapContext) → xs ≡ ys ++ option_to_list o → (o ≡ None → xs ≡ []) → others (reverse (map round xs)) ≡ reverse (map round ys)
popped_rounds xs ys None e h = popped (map round xs) (map round ys) None (ap (map round) (e ∙ append-nil ys) ∙ sym (append-nil (map round ys))) (λ z. ap (map round) (h refl))
popped_rounds xs ys (Some x) e h = ap others (pushed (map round ys) (map round xs) (round x) (ap (map round) e ∙ map-append round ys (x ∷ [])))

pub pushed_round : (xs ys : List WrapContext) (x : WrapContext) → ys ≡ xs ++ x ∷ [] → reverse (map round ys) ≡ round x ∷ reverse (map round xs)
pushed_round xs ys x e = pushed (map round xs) (map round ys) (round x) (ap (map round) e ∙ map-append round xs (x ∷ []))

-- a row, where there is one
pub row_pushed : (b : Bool) (x : Row) (xs ys : List Row) → ys ≡ xs ++ cond b (x ∷ []) [] → reverse ys ≡ cond b (x ∷ []) [] ++ reverse xs
row_pushed true x xs ys e = pushed xs ys x e
row_pushed false x xs ys e = ap reverse (e ∙ append-nil xs)
