-- The positions that are given are those of the outline.
use Rattle.std.proofs.Common.{◌≡◌, Bool, true, false, cond, List, [], ◌∷◌, Option, Some, None, refl, sym, ap, ◌∙◌}
use Rattle.std.specs.Prelude.{option_map}
use Rattle.tree.specs.Tree.{Tree, node, Parts, kind_of, text_of, flags_of, parts_of}
use Rattle.tree.specs.Uses.{is_lean}
use Rattle.language.specs.Pieces as piece
use Rattle.spelling_table.specs.declared.position.Slot as own
use Rattle.spelling_table.specs.declared.outline.FixedSlots.{FixedSlots}
use Rattle.spelling_table.specs.declared.outline.FixedSlots.TheVariants.{Zero, One, Two, Three, Four}
use Rattle.spelling_table.specs.declared.outline.ListSlots.{ListSlots}
use Rattle.spelling_table.specs.declared.outline.Outline.{Outline}
use Rattle.spelling_table.specs.Outlines.{slot_of, front_before, tail_slots, parts_after, outline_slots}
use Rattle.spellings.specs.Spelled.{lean_label, settled_roles, outlined_roles, roles_by}
use Rattle.spelling_table.specs.Requirements.{fits_outline}
use Rattle.spellings.specs.Remaining.{slots_left, front_left, goes_over, left_of}
use Rattle.spellings.proofs.PartsAfter.{slots_known}

pub lean_of : (n : Tree) → lean_label (kind_of n) (text_of n) (flags_of n) ≡ is_lean n
lean_of (node k w g s e ps) = refl

pub not_lean : (a : piece.Role) (n : Tree) (o : Option Outline) → is_lean n ≡ false → roles_by a n o ≡ None
not_lean a n o h = ap (λ b. cond b (outlined_roles a (parts_of n) o) None) h

pub no_roles : (a : piece.Role) (n : Tree) (o : Option Outline) → outlined_roles a (parts_of n) o ≡ None → roles_by a n o ≡ None
no_roles a n o h = ap (λ r. cond (is_lean n) r None) h ∙ of (is_lean n)
  where
    of : (b : Bool) → ◌≡◌ {A = Option (List piece.Role)} (cond b None None) None
    of true = refl
    of false = refl

pub no_fit : (a : piece.Role) (n : Tree) (x : Outline) → fits_outline a x ≡ false → roles_by a n (Some x) ≡ None
no_fit a n x h = no_roles a n (Some x) (ap (λ b. cond b (option_map (settled_roles a) (outline_slots x (parts_of n))) None) h)

not_over : (o : Option (List piece.Slot)) → goes_over o ≡ false → o ≡ None
not_over None h = refl
not_over (Some xs) h = cc

front_none : (f : FixedSlots) → front_before f None ≡ None
front_none Zero = refl
front_none (One a) = refl
front_none (Two a b) = refl
front_none (Three a b c) = refl
front_none (Four a b c d) = refl

pub no_run : (a : piece.Role) (n : Tree) (x : Outline) → goes_over (tail_slots x.tail (parts_after x.from (parts_of n))) ≡ false → roles_by a n (Some x) ≡ None
no_run a n x h = no_roles a n (Some x)
    (ap (λ o. cond (fits_outline a x) (option_map (settled_roles a) o) None) (ap (front_before x.front) (not_over _ h) ∙ front_none x.front) ∙ of (fits_outline a x))
  where
    of : (b : Bool) → cond b (option_map (settled_roles a) None) None ≡ None
    of true = refl
    of false = refl

front_some : (f : FixedSlots) (xs : List piece.Slot) → front_before f (Some xs) ≡ Some (front_left f xs)
front_some Zero xs = refl
front_some (One a) xs = refl
front_some (Two a b) xs = refl
front_some (Three a b c) xs = refl
front_some (Four a b c d) xs = refl

over_some : (t : ListSlots) (ps : Parts) → goes_over (tail_slots t ps) ≡ true → tail_slots t ps ≡ Some (slots_left t ps)
over_some t ps h = of (tail_slots t ps) refl h
  where
    of : (o : Option (List piece.Slot)) → tail_slots t ps ≡ o → goes_over o ≡ true → tail_slots t ps ≡ Some (slots_left t ps)
    of None e k = cc
    of (Some xs) e k = e ∙ ap (λ ys. Some ys) (sym (slots_known t ps xs e))

pub all_given : (a : piece.Role) (n : Tree) (x : Outline) → is_lean n ≡ true → fits_outline a x ≡ true → goes_over (tail_slots x.tail (parts_after x.from (parts_of n))) ≡ true →
    roles_by a n (Some x) ≡ Some (settled_roles a (front_left x.front (slots_left x.tail (parts_after x.from (parts_of n)))))
all_given a n x l f h =
    let e : outline_slots x (parts_of n) ≡ Some (front_left x.front (slots_left x.tail (parts_after x.from (parts_of n)))) = ap (front_before x.front) (over_some x.tail (parts_after x.from (parts_of n)) h) ∙ front_some x.front _ in
    rw (l, f, e) refl

-- Steps over a list

pub refused : (f : ListSlots → List piece.Slot) (o : Option (own.Slot × ListSlots)) → None ≡ o → left_of f o ≡ []
refused f o e = ap (left_of f) (sym e)

pub stepped : (f : ListSlots → List piece.Slot) (o : Option (own.Slot × ListSlots)) (x : own.Slot × ListSlots) → Some x ≡ o → left_of f o ≡ slot_of x.0 ∷ f x.1
stepped f o x e = ap (left_of f) (sym e)
