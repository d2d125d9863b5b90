-- The pass on, one item at a time.
use Rattle.std.proofs.Common.{◌≡◌, ℕ, ◌+◌, ◌-◌, ◌≤◌, ◌<◌, Bool, true, false, List, [], ◌∷◌, ◌++◌, length, drop, get_or, Ok, Err, Result, refl, sym, ◌∙◌, ap, append_assoc, append-nil, length-append, subst, inr, arith}
use Rattle.std.proofs.lemmas.List.{drop_more, drop_all}
use Rattle.std.specs.Result.{IsErrAnd, IfErr}
use Rattle.std.specs.Prelude.{cond, reverse}
use Rattle.layout_items.specs.declared.item.Item.{Item}
use Rattle.layout_items.specs.declared.form.Form.{Form}
use Rattle.layout_items.specs.declared.item.Item.TheVariants.{GroupStart, WideStart, ChoiceStart, JoinStart, IfBroken, IfCut, IfJoined, Piece, Lines, Line, SoftLine, CutLine, CutSoftLine, JoinedSoftLine, HangStart, HangEnd, CutIndentStart, CutIndentEnd}
use Rattle.layout_items.specs.declared.item_list.ItemList.{ItemList}
use Rattle.layout_items.specs.declared.layout_error.LayoutError.{LayoutError}
use Rattle.layout_items.specs.declared.layout_error.LayoutError.TheVariants.{OutOfMemory, TooLong}
use Rattle.layout_items.specs.declared.output.Output.{Output}
use Rattle.layout_items.specs.declared.place.Place.{Place}
use Rattle.layout_items.specs.declared.style.Style.{Style}
use Rattle.layout_items.specs.Gaps.{spaced}
use Rattle.layout_items.specs.Items.{is_start}
use Rattle.layout_items.specs.Places.{beginning, is_in_flat, is_cut_form, is_joined_form, is_flat_form, behind_group, behind_piece, behind_start, with_gap, broken, indented}
use Rattle.layout_items.specs.Layout.{ending, item_text, form_of, innermost, IsLayout}
use Rattle.layout_items.specs.declared.needs.Need.{Need}
use Rattle.layout_items.specs.Passes.{next_place, forms_behind, layout_from, needs_of, need_at}
use Rattle.layout_items.specs.Written.{Appended, Refuses, bytes_of}
use Rattle.layout_items.proofs.FlatGroups.{piece_room-le}
use Rattle.layout_items.proofs.OneLayout.{layout, only_layout}

-- How far a place can go

cond-room : (b : Bool) (p q : Place) (n : ℕ) → p.room ≤ n → q.room ≤ n → (cond b p q).room ≤ n
cond-room true p q n h k = h
cond-room false p q n h k = k

start-room : (b : Bool) (p : Place) (n : ℕ) → p.room ≤ n → (behind_start b p).room ≤ n
start-room true p n h = h
start-room false p n h = h

piece-room : (style : Style) (p : Place) (columns : ℕ) → p.room ≤ style.width + 1 → (behind_piece style columns p).room ≤ style.width + 1
piece-room style p columns h = let k = piece_room-le style p p.gap h in omega arith

pub room-next : (style : Style) (f : Form) (p : Place) (i : Item) (is : List Item) → p.room ≤ style.width + 1 → (next_place style f p i is).room ≤ style.width + 1
room-next style f p GroupStart is h = start-room (is_flat_form (form_of style f p GroupStart is)) p (style.width + 1) h
room-next style f p WideStart is h = start-room (is_flat_form (form_of style f p WideStart is)) p (style.width + 1) h
room-next style f p ChoiceStart is h = start-room (is_flat_form (form_of style f p ChoiceStart is)) p (style.width + 1) h
room-next style f p JoinStart is h = start-room (is_flat_form (form_of style f p JoinStart is)) p (style.width + 1) h
room-next style f p (Piece text columns) is h = piece-room style p columns h
room-next style f p (IfBroken text columns) is h = cond-room (is_in_flat p) p (behind_piece style columns p) (style.width + 1) h (piece-room style p columns h)
room-next style f p (IfCut text columns) is h = cond-room (is_cut_form f) (behind_piece style columns p) p (style.width + 1) (piece-room style p columns h) h
room-next style f p (IfJoined text columns) is h = cond-room (is_joined_form f) (behind_piece style columns p) p (style.width + 1) (piece-room style p columns h) h
room-next style f p (Lines text first last) is h = omega arith
room-next style f p Line is h = cond-room (is_in_flat p) (with_gap (spaced p.gap) p) (broken p) (style.width + 1) h h
room-next style f p SoftLine is h = cond-room (is_in_flat p) p (broken p) (style.width + 1) h h
room-next style f p CutLine is h = cond-room (is_cut_form f) (broken p) (with_gap (spaced p.gap) p) (style.width + 1) h h
room-next style f p CutSoftLine is h = cond-room (is_cut_form f) (broken p) p (style.width + 1) h h
room-next style f p JoinedSoftLine is h = cond-room (is_joined_form f) (broken p) p (style.width + 1) h h
room-next style f p HangStart is h = cond-room (is_cut_form (behind_group p.is_behind_broken)) (indented (p.levels + 1) p.aligned p) p (style.width + 1) h h
room-next style f p CutIndentStart is h = cond-room (is_cut_form f) (indented (p.levels + 1) p.aligned p) p (style.width + 1) h h
room-next style f p HangEnd is h = cond-room (is_cut_form f) (indented (p.levels - 1) p.aligned p) p (style.width + 1) h h
room-next style f p CutIndentEnd is h = cond-room (is_cut_form f) (indented (p.levels - 1) p.aligned p) p (style.width + 1) h h
room-next style f p i is h = h

-- how deep it is: levels and alignments, here and of the line that begins, and open groups that are flat
pub record IsDeep (p : Place) (n : ℕ) : Type 0 where
  pub lines : p.levels + p.aligned ≤ n
  pub begins : p.line_levels + p.line_aligned ≤ n
  pub groups : p.flat ≤ n

cond-deep : (b : Bool) (p q : Place) (n : ℕ) → IsDeep p n → IsDeep q n → IsDeep (cond b p q) n
cond-deep true p q n h k = h
cond-deep false p q n h k = k

start-deep : (b : Bool) (p : Place) (n : ℕ) → IsDeep p n → IsDeep (behind_start b p) (n + 1)
start-deep true p n h = record { lines = omega (arith, h.lines); begins = omega (arith, h.begins); groups = omega (arith, h.groups) }
start-deep false p n h = record { lines = omega (arith, h.lines); begins = omega (arith, h.begins); groups = omega (arith, h.groups) }

piece-deep : (style : Style) (p : Place) (columns : ℕ) (n : ℕ) → IsDeep p n → IsDeep (behind_piece style columns p) (n + 1)
piece-deep style p columns n h = record { lines = omega (arith, h.lines); begins = omega (arith, h.begins); groups = omega (arith, h.groups) }

same-deep : (p : Place) (n : ℕ) → IsDeep p n → IsDeep p (n + 1)
same-deep p n h = record { lines = omega (arith, h.lines); begins = omega (arith, h.begins); groups = omega (arith, h.groups) }

spaced-deep : (p : Place) (n : ℕ) → IsDeep p n → IsDeep (with_gap (spaced p.gap) p) (n + 1)
spaced-deep p n h = record { lines = omega (arith, h.lines); begins = omega (arith, h.begins); groups = omega (arith, h.groups) }

broken-deep : (p : Place) (n : ℕ) → IsDeep p n → IsDeep (broken p) (n + 1)
broken-deep p n h = record { lines = omega (arith, h.lines); begins = omega (arith, h.lines); groups = omega (arith, h.groups) }

deeper-deep : (p : Place) (n : ℕ) → IsDeep p n → IsDeep (indented (p.levels + 1) p.aligned p) (n + 1)
deeper-deep p n h = record { lines = omega (arith, h.lines); begins = omega (arith, h.begins); groups = omega (arith, h.groups) }

less-deep : (p : Place) (n : ℕ) → IsDeep p n → IsDeep (indented (p.levels - 1) p.aligned p) (n + 1)
less-deep p n h = record { lines = omega (arith, h.lines); begins = omega (arith, h.begins); groups = omega (arith, h.groups) }

pub deep-next : (style : Style) (f : Form) (p : Place) (i : Item) (is : List Item) (n : ℕ) → IsDeep p n → IsDeep (next_place style f p i is) (n + 1)
deep-next style f p GroupStart is n h = start-deep (is_flat_form (form_of style f p GroupStart is)) p n h
deep-next style f p WideStart is n h = start-deep (is_flat_form (form_of style f p WideStart is)) p n h
deep-next style f p ChoiceStart is n h = start-deep (is_flat_form (form_of style f p ChoiceStart is)) p n h
deep-next style f p JoinStart is n h = start-deep (is_flat_form (form_of style f p JoinStart is)) p n h
deep-next style f p (IfBroken text columns) is n h = cond-deep (is_in_flat p) p (behind_piece style columns p) (n + 1) (same-deep p n h) (piece-deep style p columns n h)
deep-next style f p (IfCut text columns) is n h = cond-deep (is_cut_form f) (behind_piece style columns p) p (n + 1) (piece-deep style p columns n h) (same-deep p n h)
deep-next style f p (IfJoined text columns) is n h = cond-deep (is_joined_form f) (behind_piece style columns p) p (n + 1) (piece-deep style p columns n h) (same-deep p n h)
deep-next style f p Line is n h = cond-deep (is_in_flat p) (with_gap (spaced p.gap) p) (broken p) (n + 1) (spaced-deep p n h) (broken-deep p n h)
deep-next style f p SoftLine is n h = cond-deep (is_in_flat p) p (broken p) (n + 1) (same-deep p n h) (broken-deep p n h)
deep-next style f p CutLine is n h = cond-deep (is_cut_form f) (broken p) (with_gap (spaced p.gap) p) (n + 1) (broken-deep p n h) (spaced-deep p n h)
deep-next style f p CutSoftLine is n h = cond-deep (is_cut_form f) (broken p) p (n + 1) (broken-deep p n h) (same-deep p n h)
deep-next style f p JoinedSoftLine is n h = cond-deep (is_joined_form f) (broken p) p (n + 1) (broken-deep p n h) (same-deep p n h)
deep-next style f p HangStart is n h = cond-deep (is_cut_form (behind_group p.is_behind_broken)) (indented (p.levels + 1) p.aligned p) p (n + 1) (deeper-deep p n h) (same-deep p n h)
deep-next style f p CutIndentStart is n h = cond-deep (is_cut_form f) (indented (p.levels + 1) p.aligned p) p (n + 1) (deeper-deep p n h) (same-deep p n h)
deep-next style f p HangEnd is n h = cond-deep (is_cut_form f) (indented (p.levels - 1) p.aligned p) p (n + 1) (less-deep p n h) (same-deep p n h)
deep-next style f p CutIndentEnd is n h = cond-deep (is_cut_form f) (indented (p.levels - 1) p.aligned p) p (n + 1) (less-deep p n h) (same-deep p n h)
deep-next style f p i is n h = record { lines = omega (arith, h.lines); begins = omega (arith, h.begins, h.lines); groups = omega (arith, h.groups) }

-- What is written so far, with the layout of what is left

abbrev pub whole : Style → List Item → List ℕ
whole style items = layout_from style (beginning style) [] items

pub layout-more : (style : Style) (p : Place) (fs : List Form) (i : Item) (is : List Item) → layout_from style p fs (i ∷ is) ≡ item_text style (innermost fs) p i ++ layout_from style (next_place style (innermost fs) p i is) (forms_behind style p fs i is) is
unfolding layout_from
layout-more style p fs i is = refl

pub layout-none : (style : Style) (p : Place) (fs : List Form) → layout_from style p fs [] ≡ ending p.gap
unfolding layout_from
layout-none style p fs = refl

pub laid-more : (style : Style) (p : Place) (fs : List Form) (i : Item) (is : List Item) (a b : Output) (all : List ℕ) → bytes_of a ++ layout_from style p fs (i ∷ is) ≡ all → Appended (Ok tt) a b (item_text style (innermost fs) p i) → bytes_of b ++ layout_from style (next_place style (innermost fs) p i is) (forms_behind style p fs i is) is ≡ all
laid-more style p fs i is a b all h k =
    let rest = layout_from style (next_place style (innermost fs) p i is) (forms_behind style p fs i is) is in
    ap (λ (x : List ℕ). x ++ rest) k.0 ∙ (append_assoc (bytes_of a) (item_text style (innermost fs) p i) rest ∙ (ap (λ (x : List ℕ). bytes_of a ++ x) (sym (layout-more style p fs i is)) ∙ h))

pub laid-all : (style : Style) (items : List Item) (p : Place) (fs : List Form) (a b : Output) (text : List ℕ) → bytes_of a ++ layout_from style p fs [] ≡ whole style items → Appended (Ok tt) a b (ending p.gap) → text ≡ bytes_of b → IsLayout style items text
laid-all style items p fs a b text h k e =
    let all : whole style items ≡ text = sym (e ∙ (k.0 ∙ (ap (λ (x : List ℕ). bytes_of a ++ x) (sym (layout-none style p fs)) ∙ h))) in
    subst (λ (x : List ℕ). IsLayout style items x) all (layout style items)

-- Refusals

pub refuses-more : (style : Style) (limit : ℕ) (items : ItemList) (e : LayoutError) (a b : Output) (t rest : List ℕ) → a.limit ≡ limit → bytes_of a ++ (t ++ rest) ≡ whole style items.items.items → Appended (Err e) a b t → Refuses style limit items e
refuses-more style limit items OutOfMemory a b t rest l h k = tt
refuses-more style limit items TooLong a b t rest l h k = inr (λ text g.
    let e = ap length (only_layout style items.items.items text g ∙ sym h) in
    let m = length-append (bytes_of a) (t ++ rest) in
    let n = length-append t rest in
    omega (arith, e, m, n, k, l))

pub refuses-item : (style : Style) (limit : ℕ) (items : ItemList) (e : LayoutError) (a b : Output) (p : Place) (fs : List Form) (i : Item) (is : List Item) → a.limit ≡ limit → bytes_of a ++ layout_from style p fs (i ∷ is) ≡ whole style items.items.items → Appended (Err e) a b (item_text style (innermost fs) p i) → Refuses style limit items e
refuses-item style limit items e a b p fs i is l h k =
    refuses-more style limit items e a b (item_text style (innermost fs) p i) (layout_from style (next_place style (innermost fs) p i is) (forms_behind style p fs i is) is) l
    (ap (λ (x : List ℕ). bytes_of a ++ x) (sym (layout-more style p fs i is)) ∙ h) k

pub refuses-ending : (style : Style) (limit : ℕ) (items : ItemList) (e : LayoutError) (a b : Output) (p : Place) (fs : List Form) → a.limit ≡ limit → bytes_of a ++ layout_from style p fs [] ≡ whole style items.items.items → Appended (Err e) a b (ending p.gap) → Refuses style limit items e
refuses-ending style limit items e a b p fs l h k =
    refuses-more style limit items e a b (ending p.gap) [] l (ap (λ (x : List ℕ). bytes_of a ++ x) (append-nil (ending p.gap) ∙ sym (layout-none style p fs)) ∙ h) k

-- what the exit of a `?` returns
pub refused_on : {X : Type 0} (R : LayoutError → Type 0) (r : Result X LayoutError) (e : LayoutError) → IsErrAnd r (λ x. x ≡ e) → R e → IfErr r R
refused_on R (Ok x) e is h = tt
refused_on R (Err other) e is h = subst R (sym is) h

-- The loop over all items: what is written of those before an index, and what the groups behind it need

pub record AreLaid (style : Style) (most : ℕ) (items : List Item) (output : Output) (place : Place) (fs : List Form) (stack : List Need) (k : ℕ) : Type 0 where
  pub laid : bytes_of output ++ layout_from style place fs (drop k items) ≡ whole style items
  pub needs : stack ≡ reverse (needs_of (drop k items))
  pub room : place.room ≤ style.width + 1
  pub deep : IsDeep place k
  pub limit : output.limit ≡ most

pub one_more_item : (style : Style) (limit : ℕ) (items : List Item) (k : ℕ) (d : Item) (p q : Place) (fs gs : List Form) (a b : Output) (v w : List Need) (n : Need) → k < length items → AreLaid style limit items a p fs v k → Appended (Ok tt) a b (item_text style (innermost fs) p (get_or items k d)) → ((is : List Item) → v ≡ reverse (needs_of (get_or items k d ∷ is)) → (w ≡ reverse (needs_of is)) × (is_start (get_or items k d) ≡ true → n ≡ need_at (get_or items k d) is)) → ((is : List Item) → p.room ≤ style.width + 1 → (is_start (get_or items k d) ≡ true → n ≡ need_at (get_or items k d) is) → gs ≡ forms_behind style p fs (get_or items k d) is) → ((is : List Item) → p.room ≤ style.width + 1 → (is_start (get_or items k d) ≡ true → n ≡ need_at (get_or items k d) is) → q ≡ next_place style (innermost fs) p (get_or items k d) is) → AreLaid style limit items b q gs w (k + 1)
one_more_item style limit items k d p q fs gs a b v w n h g written popped formed placed =
    let i = get_or items k d in
    let rest = drop (k + 1) items in
    let split = drop_more items k d h in
    let popping = popped rest (g.needs ∙ ap (λ (is : List Item). reverse (needs_of is)) split) in
    let place : q ≡ next_place style (innermost fs) p i rest = placed rest g.room popping.1 in
    let forms : gs ≡ forms_behind style p fs i rest = formed rest g.room popping.1 in
    let before = ap (λ (is : List Item). bytes_of a ++ layout_from style p fs is) (sym split) ∙ g.laid in
    record {
      laid = ap (λ (x : Place). bytes_of b ++ layout_from style x gs rest) place ∙ (ap (λ (x : List Form). bytes_of b ++ layout_from style (next_place style (innermost fs) p i rest) x rest) forms ∙ laid-more style p fs i rest a b (whole style items) before written);
      needs = popping.0;
      room = subst (λ (x : Place). x.room ≤ style.width + 1) (sym place) (room-next style (innermost fs) p i rest g.room);
      deep = subst (λ (x : Place). IsDeep x (k + 1)) (sym place) (deep-next style (innermost fs) p i rest k g.deep);
      limit = written.1 ∙ g.limit;
    }

pub refuses-at : (style : Style) (limit : ℕ) (list : ItemList) (e : LayoutError) (a b : Output) (p : Place) (fs : List Form) (items : List Item) (k : ℕ) (d : Item) → k < length items → items ≡ list.items.items → a.limit ≡ limit → bytes_of a ++ layout_from style p fs (drop k items) ≡ whole style items → Appended (Err e) a b (item_text style (innermost fs) p (get_or items k d)) → Refuses style limit list e
refuses-at style limit list e a b p fs items k d h s l g written =
    refuses-item style limit list e a b p fs (get_or items k d) (drop (k + 1) items) l
    (ap (λ (is : List Item). bytes_of a ++ layout_from style p fs is) (sym (drop_more items k d h)) ∙ (g ∙ ap (λ (is : List Item). whole style is) s)) written

at-end : (style : Style) (items : List Item) (a : Output) (p : Place) (fs : List Form) (k : ℕ) → length items ≤ k → bytes_of a ++ layout_from style p fs (drop k items) ≡ whole style items → bytes_of a ++ layout_from style p fs [] ≡ whole style items
at-end style items a p fs k h g = ap (λ (is : List Item). bytes_of a ++ layout_from style p fs is) (sym (drop_all k items h)) ∙ g

pub refuses-at_end : (style : Style) (limit : ℕ) (list : ItemList) (e : LayoutError) (a b : Output) (p : Place) (fs : List Form) (items : List Item) (k : ℕ) → length items ≤ k → items ≡ list.items.items → a.limit ≡ limit → bytes_of a ++ layout_from style p fs (drop k items) ≡ whole style items → Appended (Err e) a b (ending p.gap) → Refuses style limit list e
refuses-at_end style limit list e a b p fs items k h s l g written =
    refuses-ending style limit list e a b p fs l (at-end style items a p fs k h g ∙ ap (λ (is : List Item). whole style is) s) written

pub laid-at_end : (style : Style) (list items : List Item) (p : Place) (fs : List Form) (a b : Output) (k : ℕ) (text : List ℕ) → length items ≤ k → items ≡ list → bytes_of a ++ layout_from style p fs (drop k items) ≡ whole style items → Appended (Ok tt) a b (ending p.gap) → text ≡ bytes_of b → IsLayout style list text
laid-at_end style list items p fs a b k text h s g written e =
    laid-all style list p fs a b text (at-end style items a p fs k h g ∙ ap (λ (is : List Item). whole style is) s) written e
