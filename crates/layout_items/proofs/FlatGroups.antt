-- What a group weighs says whether a line must end in it, and how far it reaches.
use Rattle.std.proofs.Common.{◌≡◌, ℕ, ◌+◌, ◌≤◌, ◌<◌, ◌⊎◌, inl, inr, sym, Bool, true, false, List, refl, ◌∙◌, ap, arith}
use Rattle.std.proofs.lemmas.Bool.Decides.{nat_tests}
use Rattle.std.specs.Prelude.{cond, not, ◌&&◌, ◌||◌, nat_lt}
use Rattle.layout_items.specs.declared.item.Item.{Item}
use Rattle.layout_items.specs.declared.item.Item.TheVariants.{GroupStart, WideStart, ChoiceStart, JoinStart}
use Rattle.layout_items.specs.Items.{is_start}
use Rattle.layout_items.specs.Reach.{reach, is_forced, may_be_joined, joined_reach}
use Rattle.layout_items.specs.declared.gap.Gap.{Gap}
use Rattle.layout_items.specs.declared.gap.Gap.TheVariants as gap
use Rattle.layout_items.specs.declared.place.Place.{Place}
use Rattle.layout_items.specs.declared.style.Style.{Style}
use Rattle.layout_items.specs.declared.form.Form.{Form}
use Rattle.layout_items.specs.declared.form.Form.TheVariants.{Flat, Joined, Cut}
use Rattle.layout_items.specs.declared.needs.Need.{Need}
use Rattle.layout_items.specs.Places.{room_behind, piece_room, is_in_flat, is_flat_form, is_joined_form}
use Rattle.layout_items.specs.Layout.{choice_form, fits, form_of, flat_or_cut}
use Rattle.layout_items.specs.Passes.{need, joined_need, need_at}

lt_by : (forced : Bool) (r room : ℕ) → room ≤ 65536 → nat_lt (cond forced 65536 r) room ≡ (not forced && nat_lt r room)
lt_by true r room h = grind (arith, nat_tests, h)
lt_by false r room h = refl

pub fits-need : (is : List Item) (room : ℕ) → room ≤ 65536 → nat_lt (need is 0) room ≡ (not (is_forced is 0) && nat_lt (reach is 0) room)
fits-need is room b = lt_by (is_forced is 0) (reach is 0) room b

pub piece_room-le : (style : Style) (p : Place) (g : Gap) → p.room ≤ style.width + 1 → room_behind style p g ≤ style.width + 1
piece_room-le style p gap.Nothing h = h
piece_room-le style p gap.Space h = omega arith
piece_room-le style p gap.LineEnd h = omega arith
piece_room-le style p gap.EmptyLine h = omega arith
piece_room-le style p gap.Beginning h = h

-- The forms of groups by what they need

joined_by : (may : Bool) (r room : ℕ) → room ≤ 65536 → nat_lt (cond may r 65536) room ≡ (may && nat_lt r room)
joined_by true r room h = refl
joined_by false r room h = grind (arith, nat_tests, h)

pub joins-need : (is : List Item) (room : ℕ) → room ≤ 65536 → nat_lt (joined_need is) room ≡ (may_be_joined is && nat_lt (joined_reach is) room)
joins-need is room h = joined_by (may_be_joined is) (joined_reach is) room h

pub choice-need : (style : Style) (p : Place) (is : List Item) → piece_room style p ≤ 65536 → choice_form style p is ≡ cond (is_in_flat p || nat_lt (need is 0) (piece_room style p)) Flat (cond (nat_lt (joined_need is) (piece_room style p)) Joined Cut)
choice-need style p is h =
    let room = piece_room style p in
    let a = ap (λ (b : Bool). cond (is_in_flat p || b) Flat (cond (may_be_joined is && nat_lt (joined_reach is) room) Joined Cut)) (sym (fits-need is room h)) in
    let b = ap (λ (b : Bool). cond (is_in_flat p || nat_lt (need is 0) room) Flat (cond b Joined Cut)) (sym (joins-need is room h)) in
    a ∙ b

pub choice_of-need : (style : Style) (p : Place) (is : List Item) (n : Need) (room : ℕ) → room ≡ piece_room style p → room ≤ 65536 → n ≡ record { flat = need is 0; joined = joined_need is } → choice_form style p is ≡ cond (is_in_flat p || nat_lt n.flat room) Flat (cond (nat_lt n.joined room) Joined Cut)
choice_of-need style p is n room e h k = rw (k, e) (choice-need style p is (rw (← e) h))

pub when_flat : (a : Bool) (n r : ℕ) (x : Form) → (a ≡ true) ⊎ ((a ≡ false) × (n < r)) → Flat ≡ cond (a || nat_lt n r) Flat x
when_flat true n r x h = refl
when_flat false n r x (inl h) = cc
when_flat false n r x (inr h) = let e : nat_lt n r ≡ true = grind (arith, nat_tests, h.1) in rw e refl

pub when_joined : (a : Bool) (n m r : ℕ) → a ≡ false → r ≤ n → m < r → Joined ≡ cond (a || nat_lt n r) Flat (cond (nat_lt m r) Joined Cut)
when_joined a n m r h k l =
    let e : nat_lt n r ≡ false = grind (arith, nat_tests, k) in
    let f : nat_lt m r ≡ true = grind (arith, nat_tests, l) in
    rw (h, e, f) refl

pub when_cut : (a : Bool) (n m r : ℕ) → a ≡ false → r ≤ n → r ≤ m → Cut ≡ cond (a || nat_lt n r) Flat (cond (nat_lt m r) Joined Cut)
when_cut a n m r h k l =
    let e : nat_lt n r ≡ false = grind (arith, nat_tests, k) in
    let f : nat_lt m r ≡ false = grind (arith, nat_tests, l) in
    rw (h, e, f) refl

flat_if : (b : Bool) → b ≡ is_flat_form (flat_or_cut b)
flat_if true = refl
flat_if false = refl

choice_flat_if : (b j : Bool) → b ≡ is_flat_form (cond b Flat (cond j Joined Cut))
choice_flat_if true j = refl
choice_flat_if false true = refl
choice_flat_if false false = refl

same_fits : (style : Style) (p : Place) (is : List Item) → piece_room style p ≤ 65536 → (is_in_flat p || nat_lt (need is 0) (piece_room style p)) ≡ (is_in_flat p || fits style p is)
same_fits style p is h = ap (λ (b : Bool). is_in_flat p || b) (fits-need is (piece_room style p) h)

pub group-need : (style : Style) (f : Form) (p : Place) (is : List Item) → piece_room style p ≤ 65536 → (is_in_flat p || nat_lt (need is 0) (piece_room style p)) ≡ is_flat_form (form_of style f p GroupStart is)
group-need style f p is h = same_fits style p is h ∙ flat_if (is_in_flat p || fits style p is)

pub choice_start-need : (style : Style) (f : Form) (p : Place) (is : List Item) → piece_room style p ≤ 65536 → (is_in_flat p || nat_lt (need is 0) (piece_room style p)) ≡ is_flat_form (form_of style f p ChoiceStart is)
choice_start-need style f p is h = same_fits style p is h ∙ choice_flat_if (is_in_flat p || fits style p is) (may_be_joined is && nat_lt (joined_reach is) (piece_room style p))

pub join-need : (style : Style) (f : Form) (p : Place) (is : List Item) → piece_room style p ≤ 65536 → is_joined_form f ≡ false → (is_in_flat p || nat_lt (need is 0) (piece_room style p)) ≡ is_flat_form (form_of style f p JoinStart is)
join-need style f p is h k = same_fits style p is h ∙ rw k (flat_if (is_in_flat p || fits style p is))

-- a start that is neither wide nor a part of a choice
pub other_start : (style : Style) (f : Form) (p : Place) (i : Item) (is : List Item) (n : Need) (r : Bool) → piece_room style p ≤ 65536 → (i ≡ WideStart → ⊥) → (i ≡ JoinStart → ⊥) → is_start i ≡ true → n ≡ need_at i is → r ≡ (is_in_flat p || nat_lt n.flat (piece_room style p)) → r ≡ is_flat_form (form_of style f p i is)
other_start style f p GroupStart is n r h w j s e k = k ∙ rw e (group-need style f p is h)
other_start style f p ChoiceStart is n r h w j s e k = k ∙ rw e (choice_start-need style f p is h)
other_start style f p WideStart is n r h w j s e k = absurd (w refl)
other_start style f p JoinStart is n r h w j s e k = absurd (j refl)
other_start style f p i is n r h w j s e k = cc

pub part_start : (style : Style) (f : Form) (p : Place) (i : Item) (is : List Item) (n : Need) (r : Bool) → piece_room style p ≤ 65536 → i ≡ JoinStart → is_joined_form f ≡ false → n ≡ need_at i is → r ≡ (is_in_flat p || nat_lt n.flat (piece_room style p)) → r ≡ is_flat_form (form_of style f p i is)
part_start style f p JoinStart is n r h w j e k = k ∙ rw e (join-need style f p is h j)
part_start style f p i is n r h w j e k = cc
