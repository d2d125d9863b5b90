-- The layout of items is the one that the pass on makes.
use Rattle.std.proofs.Common.{◌≡◌, ℕ, Bool, true, false, List, [], ◌∷◌, ◌++◌, refl, sym, ◌∙◌, ap}
use Rattle.std.specs.Prelude.{◌&&◌}
use Rattle.layout_items.specs.declared.form.Form.{Form}
use Rattle.layout_items.specs.declared.form.Form.TheVariants.{Flat, Joined, Cut}
use Rattle.layout_items.specs.declared.item.Item.{Item}
use Rattle.layout_items.specs.declared.item.Item.TheVariants.{GroupStart, WideStart, ChoiceStart, JoinStart}
use Rattle.layout_items.specs.declared.place.Place.{Place}
use Rattle.layout_items.specs.declared.style.Style.{Style}
use Rattle.layout_items.specs.Places.{beginning, is_flat_form, behind_item, behind_start}
use Rattle.layout_items.specs.Layout.{item_text, form_of, same_form, innermost, next_forms, written, are_right, IsLayout}
use Rattle.layout_items.specs.Laws.{AtMostOneLayout}
use Rattle.layout_items.specs.Passes.{layout_from}

-- the forms that are right
unfoldable pub forms_of : Style → Place → List Form → List Item → List Form
forms_of style p open_forms [] = []
forms_of style p open_forms (GroupStart ∷ is) =
    form_of style (innermost open_forms) p GroupStart is ∷ forms_of style (behind_start (is_flat_form (form_of style (innermost open_forms) p GroupStart is)) p) open_forms is
forms_of style p open_forms (WideStart ∷ is) =
    form_of style (innermost open_forms) p WideStart is ∷ forms_of style (behind_start (is_flat_form (form_of style (innermost open_forms) p WideStart is)) p) open_forms is
forms_of style p open_forms (ChoiceStart ∷ is) =
    form_of style (innermost open_forms) p ChoiceStart is ∷ forms_of style (behind_start (is_flat_form (form_of style (innermost open_forms) p ChoiceStart is)) p) (form_of style (innermost open_forms) p ChoiceStart is ∷ open_forms) is
forms_of style p open_forms (JoinStart ∷ is) =
    form_of style (innermost open_forms) p JoinStart is ∷ forms_of style (behind_start (is_flat_form (form_of style (innermost open_forms) p JoinStart is)) p) open_forms is
forms_of style p open_forms (i ∷ is) = forms_of style (behind_item style (innermost open_forms) p i) (next_forms p i open_forms) is

same_form-same : (f : Form) → same_form f f ≡ true
same_form-same Flat = refl
same_form-same Joined = refl
same_form-same Cut = refl

same_form-true : (f g : Form) → same_form f g ≡ true → f ≡ g
same_form-true Flat Flat h = refl
same_form-true Joined Joined h = refl
same_form-true Cut Cut h = refl
same_form-true Flat Joined h = cc
same_form-true Flat Cut h = cc
same_form-true Joined Flat h = cc
same_form-true Joined Cut h = cc
same_form-true Cut Flat h = cc
same_form-true Cut Joined h = cc

and-both : (a b : Bool) → a ≡ true → b ≡ true → (a && b) ≡ true
and-both true b h k = k
and-both false b h k = cc

and-left : (a b : Bool) → (a && b) ≡ true → a ≡ true
and-left true b h = refl
and-left false b h = h

and-right : (a b : Bool) → (a && b) ≡ true → b ≡ true
and-right true b h = h
and-right false b h = cc

are_right-forms : (style : Style) (p : Place) (open_forms : List Form) (is : List Item) → are_right style p open_forms is (forms_of style p open_forms is) ≡ true
unfolding are_right forms_of
are_right-forms style p open_forms [] = refl
are_right-forms style p open_forms (GroupStart ∷ is) =
    let f = form_of style (innermost open_forms) p GroupStart is in
    and-both _ _ (same_form-same f) (are_right-forms style (behind_start (is_flat_form f) p) open_forms is)
are_right-forms style p open_forms (WideStart ∷ is) =
    let f = form_of style (innermost open_forms) p WideStart is in
    and-both _ _ (same_form-same f) (are_right-forms style (behind_start (is_flat_form f) p) open_forms is)
are_right-forms style p open_forms (ChoiceStart ∷ is) =
    let f = form_of style (innermost open_forms) p ChoiceStart is in
    and-both _ _ (same_form-same f) (are_right-forms style (behind_start (is_flat_form f) p) (f ∷ open_forms) is)
are_right-forms style p open_forms (JoinStart ∷ is) =
    let f = form_of style (innermost open_forms) p JoinStart is in
    and-both _ _ (same_form-same f) (are_right-forms style (behind_start (is_flat_form f) p) open_forms is)
are_right-forms style p open_forms (i ∷ is) = are_right-forms style (behind_item style (innermost open_forms) p i) (next_forms p i open_forms) is

written-forms : (style : Style) (p : Place) (open_forms : List Form) (is : List Item) → written style p open_forms is (forms_of style p open_forms is) ≡ layout_from style p open_forms is
unfolding written forms_of layout_from
written-forms style p open_forms [] = refl
written-forms style p open_forms (GroupStart ∷ is) =
    let f = form_of style (innermost open_forms) p GroupStart is in
    written-forms style (behind_start (is_flat_form f) p) open_forms is
written-forms style p open_forms (WideStart ∷ is) =
    let f = form_of style (innermost open_forms) p WideStart is in
    written-forms style (behind_start (is_flat_form f) p) open_forms is
written-forms style p open_forms (ChoiceStart ∷ is) =
    let f = form_of style (innermost open_forms) p ChoiceStart is in
    written-forms style (behind_start (is_flat_form f) p) (f ∷ open_forms) is
written-forms style p open_forms (JoinStart ∷ is) =
    let f = form_of style (innermost open_forms) p JoinStart is in
    written-forms style (behind_start (is_flat_form f) p) open_forms is
written-forms style p open_forms (i ∷ is) = ap (λ (t : List ℕ). item_text style (innermost open_forms) p i ++ t) (written-forms style (behind_item style (innermost open_forms) p i) (next_forms p i open_forms) is)

written-right : (style : Style) (p : Place) (open_forms : List Form) (is : List Item) (forms : List Form) → are_right style p open_forms is forms ≡ true → written style p open_forms is forms ≡ layout_from style p open_forms is
unfolding written are_right layout_from
written-right style p open_forms [] forms h = refl
written-right style p open_forms (GroupStart ∷ is) [] h = cc
written-right style p open_forms (WideStart ∷ is) [] h = cc
written-right style p open_forms (ChoiceStart ∷ is) [] h = cc
written-right style p open_forms (JoinStart ∷ is) [] h = cc
written-right style p open_forms (GroupStart ∷ is) (f ∷ fs) h =
    let g = form_of style (innermost open_forms) p GroupStart is in
    let e : f ≡ g = same_form-true f g (and-left _ _ h) in
    written-right style (behind_start (is_flat_form f) p) open_forms is fs (and-right _ _ h) ∙ ap (λ (x : Form). layout_from style (behind_start (is_flat_form x) p) open_forms is) e
written-right style p open_forms (WideStart ∷ is) (f ∷ fs) h =
    let g = form_of style (innermost open_forms) p WideStart is in
    let e : f ≡ g = same_form-true f g (and-left _ _ h) in
    written-right style (behind_start (is_flat_form f) p) open_forms is fs (and-right _ _ h) ∙ ap (λ (x : Form). layout_from style (behind_start (is_flat_form x) p) open_forms is) e
written-right style p open_forms (ChoiceStart ∷ is) (f ∷ fs) h =
    let g = form_of style (innermost open_forms) p ChoiceStart is in
    let e : f ≡ g = same_form-true f g (and-left _ _ h) in
    written-right style (behind_start (is_flat_form f) p) (f ∷ open_forms) is fs (and-right _ _ h) ∙ ap (λ (x : Form). layout_from style (behind_start (is_flat_form x) p) (x ∷ open_forms) is) e
written-right style p open_forms (JoinStart ∷ is) (f ∷ fs) h =
    let g = form_of style (innermost open_forms) p JoinStart is in
    let e : f ≡ g = same_form-true f g (and-left _ _ h) in
    written-right style (behind_start (is_flat_form f) p) open_forms is fs (and-right _ _ h) ∙ ap (λ (x : Form). layout_from style (behind_start (is_flat_form x) p) open_forms is) e
written-right style p open_forms (i ∷ is) forms h = ap (λ (t : List ℕ). item_text style (innermost open_forms) p i ++ t) (written-right style (behind_item style (innermost open_forms) p i) (next_forms p i open_forms) is forms h)

pub layout : (style : Style) (is : List Item) → IsLayout style is (layout_from style (beginning style) [] is)
layout style is = record { forms = forms_of style (beginning style) [] is; right = are_right-forms style (beginning style) [] is; reads = sym (written-forms style (beginning style) [] is) }

pub only_layout : (style : Style) (is : List Item) (text : List ℕ) → IsLayout style is text → text ≡ layout_from style (beginning style) [] is
only_layout style is text h = h.reads ∙ written-right style (beginning style) [] is h.forms h.right

pub at_most_one_layout : AtMostOneLayout
at_most_one_layout style is a b h k = only_layout style is a h ∙ sym (only_layout style is b k)
