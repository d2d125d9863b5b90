-- What each group needs, the first one last.
use Rattle.std.proofs.Common.{◌≡◌, true, false, List, [], ◌∷◌, ◌++◌, length, Option, Some, None, refl, sym, ◌∙◌, ap, length-append, arith}
use Rattle.std.specs.Prelude.{reverse, option_to_list, unwrap_or}
use Rattle.std.proofs.lemmas.List.{reverse-append, reverse-reverse}
use Rattle.layout_items.specs.declared.item.Item.{Item}
use Rattle.layout_items.specs.declared.needs.Need.{Need}
use Rattle.layout_items.specs.Items.{is_start}
use Rattle.layout_items.specs.Passes.{needs_of, need_at}

pub reverse-more : {A : Type 0} (xs : List A) (x : A) → reverse (xs ++ x ∷ []) ≡ x ∷ reverse xs
reverse-more xs x = reverse-append xs (x ∷ [])

pub needs_of-start : (i : Item) (is : List Item) → is_start i ≡ true → needs_of (i ∷ is) ≡ need_at i is ∷ needs_of is
unfolding needs_of
needs_of-start i is h = rw h refl

pub needs_of-none : (i : Item) (is : List Item) → is_start i ≡ false → needs_of (i ∷ is) ≡ needs_of is
unfolding needs_of
needs_of-none i is h = rw h refl

pub needs_of-other : (i : Item) (is : List Item) (v : List Need) → is_start i ≡ false → v ≡ reverse (needs_of (i ∷ is)) → v ≡ reverse (needs_of is)
needs_of-other i is v s h = h ∙ ap reverse (needs_of-none i is s)

pub needs_started : (i : Item) (is : List Item) (v w : List Need) (o : Option Need) (d : Need) → v ≡ w ++ option_to_list o → (o ≡ None → length v ≡ 0) → is_start i ≡ true → v ≡ reverse (needs_of (i ∷ is)) → (w ≡ reverse (needs_of is)) × (unwrap_or o d ≡ need_at i is)
needs_started i is v w (Some n) d e m s f =
    let g : n ∷ reverse w ≡ need_at i is ∷ needs_of is = sym (reverse-more w n) ∙ (ap reverse (sym e ∙ f) ∙ (reverse-reverse (needs_of (i ∷ is)) ∙ needs_of-start i is s)) in
    let t : reverse w ≡ needs_of is = cc in
    (sym (reverse-reverse w) ∙ ap reverse t, cc)
needs_started i is v w None d e m s f =
    let g : v ≡ reverse (needs_of is) ++ need_at i is ∷ [] = f ∙ (ap reverse (needs_of-start i is s) ∙ reverse-append (need_at i is ∷ []) (needs_of is)) in
    let k = ap length g ∙ length-append (reverse (needs_of is)) (need_at i is ∷ []) in
    let z = m refl in
    absurd (omega (arith, k, z))
