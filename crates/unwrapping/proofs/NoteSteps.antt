-- What notes say of a tree.
use Rattle.std.proofs.Common.{◌≡◌, ℕ, ◌+◌, ◌<◌, ◌≤◌, Bool, true, false, ◌&&◌, ◌||◌, ◌==◌, List, [], ◌∷◌, ◌++◌, take, IsTrue, refl, sym, ap, ◌∙◌, subst, arith, add-one, Some}
use Rattle.std.specs.Prelude.{nat_le, unwrap_or, if◌then◌else◌}
use Rattle.std.specs.List.{list_any, slice_get}
use Rattle.std.proofs.Math.Seq.{take-suc}
use Rattle.std.proofs.lemmas.Option.{slice_get_within, unwrap_or-slice_get}
use Rattle.std.proofs.lemmas.List.{take_all}
use Rattle.std.proofs.lemmas.List.Folds.{list_any-append}
use Rattle.std.proofs.lemmas.Bool.Decides.{nat_tests}
use Rattle.tokens.specs.declared.token.Goal.{Goal}
use Rattle.tokens.specs.declared.token.Goal.TheVariants.{Div, RegExp, TemplateTail}
use Rattle.tree.specs.Tree.{Tree, node_total}
use Rattle.tree.specs.Flat.{post_order}
use Rattle.tree.proofs.Grown.{length-post_order}
use Rattle.reading_laws.specs.TreeReadings.{is_regexp_at, is_element_after, tree_goal}
use Rattle.unwrapping.specs.declared.note.Note.{Note}
use Rattle.unwrapping.specs.declared.note.Reading.TheVariants.{RegularExpression, TemplatePart, Postfix, ExportEnd}
use Rattle.unwrapping.specs.declared.note.Reading.{Reading}
use Rattle.unwrapping.specs.Readings.{is_regexp, is_part, is_regexp_note, is_part_note, ascend, AreNoted, InOrder, goal_of}

-- ---- the notes of nodes

pub noted_on : (ns ms : List Tree) (low : ℕ) (notes others : List Note) → AreNoted ns low notes → AreNoted ms low others → AreNoted (ns ++ ms) low (notes ++ others)
noted_on ns ms low notes others a b =
    record {
      regexps = λ at h. list_any-append (is_regexp_at at) ns ms ∙ (λ i. a.regexps at h i || b.regexps at h i) ∙ sym (list_any-append (is_regexp_note at) notes others);
      elements = λ at h. list_any-append (is_element_after at) ns ms ∙ (λ i. a.elements at h i || b.elements at h i) ∙ sym (list_any-append (is_part_note at) notes others);
    }

-- from a later place on they are still these
pub noted_from : (nodes : List Tree) (low : ℕ) (notes : List Note) → AreNoted nodes 0 notes → AreNoted nodes low notes
noted_from nodes low notes a = record { regexps = λ at h. a.regexps at (omega arith); elements = λ at h. a.elements at (omega arith) }

-- one node more
taken : (n : Tree) (number : ℕ) (m : Tree) → slice_get (post_order n) number ≡ Some m → take (number + 1) (post_order n) ≡ take number (post_order n) ++ m ∷ []
taken n number m e =
    ap (λ k. take k (post_order n)) (add-one number) ∙ take-suc (post_order n) number m (slice_get_within (post_order n) number m e)
    ∙ ap (λ x. take number (post_order n) ++ x ∷ []) (sym (unwrap_or-slice_get (post_order n) number m) ∙ ap (λ o. unwrap_or o m) e)

pub noted_more : (n : Tree) (number : ℕ) (m : Tree) (notes others : List Note) → slice_get (post_order n) number ≡ Some m → AreNoted (take number (post_order n)) 0 notes → AreNoted (m ∷ []) 0 others →
    AreNoted (take (number + 1) (post_order n)) 0 (notes ++ others)
noted_more n number m notes others e a b = subst (λ ms. AreNoted ms 0 (notes ++ others)) (sym (taken n number m e)) (noted_on (take number (post_order n)) (m ∷ []) 0 notes others a b)

pub noted_all : (n : Tree) (count : ℕ) (notes : List Note) → node_total n ≤ count → AreNoted (take count (post_order n)) 0 notes → AreNoted (post_order n) 0 notes
noted_all n count notes h a = subst (λ ms. AreNoted ms 0 notes) (take_all count (post_order n) (let l = length-post_order n in omega arith)) a

-- ---- the note of a node

-- ---- the goal at a token

first_of : (a b : Bool) → IsTrue (a && b) → IsTrue a
first_of a b h = grind (arith, nat_tests)

second_of : (a b : Bool) → IsTrue (a && b) → IsTrue b
second_of a b h = grind (arith, nat_tests)

reaches : (a b : ℕ) → IsTrue (nat_le a b) → a ≤ b
reaches a b h = grind (arith, nat_tests)

off : (a b : ℕ) → a < b → (a == b) ≡ false
off a b h = grind (arith, nat_tests)

off_after : (a b : ℕ) → b < a → (a == b) ≡ false
off_after a b h = grind (arith, nat_tests)

on : (a b : ℕ) → b ≡ a → (a == b) ≡ true
on a b h = grind (arith, nat_tests)

-- no note is of a place before them all
not_noted : (low at : ℕ) (notes : List Note) → IsTrue (ascend low notes) → at < low → (list_any (is_regexp_note at) notes ≡ false) × (list_any (is_part_note at) notes ≡ false)
not_noted low at [] h lt = (refl, refl)
not_noted low at (note ∷ notes) h lt =
    let le : low ≤ note.at = reaches low note.at (first_of (nat_le low note.at) (ascend (note.at + 1) notes) h) in
    let rest = not_noted (note.at + 1) at notes (second_of (nat_le low note.at) (ascend (note.at + 1) notes) h) (omega arith) in
    let there = off at note.at (omega arith) in
    ((λ i. (there i && is_regexp note.reading) || rest.0 i), (λ i. (there i && is_part note.reading) || rest.1 i))

abbrev goal_by : Bool → Bool → Goal
goal_by a b = if a then RegExp else if b then TemplateTail else Div

-- where no note is left
pub goal_unnoted : (n : Tree) (at start : ℕ) → AreNoted (post_order n) at [] → at ≤ start → tree_goal n start ≡ Div
goal_unnoted n at start a h = let x = a.regexps start h in let y = a.elements start h in (λ i. goal_by (x i) (y i))

-- where the next note is of a later place
pub goal_before : (n : Tree) (at start : ℕ) (note : Note) (notes : List Note) → AreNoted (post_order n) at (note ∷ notes) → InOrder (note ∷ notes) → at ≤ start → start < note.at → tree_goal n start ≡ Div
goal_before n at start note notes a o h lt =
    let none = not_noted (note.at + 1) start notes (second_of (nat_le o.0 note.at) (ascend (note.at + 1) notes) o.1) (omega arith) in
    let there = off start note.at lt in
    let x : list_any (is_regexp_at start) (post_order n) ≡ false = a.regexps start h ∙ (λ i. (there i && is_regexp note.reading) || none.0 i) in
    let y : list_any (is_element_after start) (post_order n) ≡ false = a.elements start h ∙ (λ i. (there i && is_part note.reading) || none.1 i) in
    (λ i. goal_by (x i) (y i))

tidy : (b : Bool) → ((true && b) || false) ≡ b
tidy true = refl
tidy false = refl

by_reading : (r : Reading) → goal_by (is_regexp r) (is_part r) ≡ goal_of r
by_reading RegularExpression = refl
by_reading TemplatePart = refl
by_reading Postfix = refl
by_reading ExportEnd = refl

-- where it is of this place
pub goal_noted : (n : Tree) (at start : ℕ) (note : Note) (notes : List Note) → AreNoted (post_order n) at (note ∷ notes) → InOrder (note ∷ notes) → at ≤ start → note.at ≡ start → tree_goal n start ≡ goal_of note.reading
goal_noted n at start note notes a o h e =
    let none = not_noted (note.at + 1) start notes (second_of (nat_le o.0 note.at) (ascend (note.at + 1) notes) o.1) (omega arith) in
    let there = on start note.at e in
    let x : list_any (is_regexp_at start) (post_order n) ≡ is_regexp note.reading = a.regexps start h ∙ (λ i. (there i && is_regexp note.reading) || none.0 i) ∙ tidy (is_regexp note.reading) in
    let y : list_any (is_element_after start) (post_order n) ≡ is_part note.reading = a.elements start h ∙ (λ i. (there i && is_part note.reading) || none.1 i) ∙ tidy (is_part note.reading) in
    (λ i. goal_by (x i) (y i)) ∙ by_reading note.reading

pub noted_after : (nodes : List Tree) (at stop : ℕ) (note : Note) (notes : List Note) → AreNoted nodes at (note ∷ notes) → at ≤ stop → note.at < stop → AreNoted nodes stop notes
noted_after nodes at stop note notes a h lt =
    record {
      regexps = λ p l. a.regexps p (omega arith) ∙ ap (λ x. (x && is_regexp note.reading) || list_any (is_regexp_note p) notes) (off_after p note.at (omega arith));
      elements = λ p l. a.elements p (omega arith) ∙ ap (λ x. (x && is_part note.reading) || list_any (is_part_note p) notes) (off_after p note.at (omega arith));
    }
