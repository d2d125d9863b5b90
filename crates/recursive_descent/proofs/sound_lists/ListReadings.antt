-- What is left of the readings of a list with one more item, and what runs then (ECMA-262 12.2, 12.15.5, 13.3, 13.12).
use Rattle.std.proofs.Common.{arith, ◌≡◌, ℕ, ◌+◌, Bool, true, false, cond, refl, sym, ap, ◌∙◌, subst}
use Rattle.std.specs.Prelude.{not, ◌&&◌, ◌||◌, if◌then◌else◌, nat_le}
use Rattle.std.proofs.lemmas.Bool.{and_parts, false≢true}
use Rattle.std.proofs.lemmas.Bool.Decides.{nat_tests}
use Rattle.tree.specs.Tree.{Tree, Parts, none, part, gap, push, part_count}
use Rattle.language.specs.Covers.{Reading, as_expression, as_pattern}
use Rattle.language.specs.Pieces.{is_none}
use Rattle.covers.specs.declared.shape.TargetForm.{TargetForm}
use Rattle.covers.specs.declared.shape.TargetForm.TheVariants as assigned
use Rattle.covers.specs.declared.shape.CoverShape.{CoverShape}
use Rattle.covers.specs.declared.list.ListItem.{ListItem}
use Rattle.covers.specs.declared.list.ListSummary.{ListSummary}
use Rattle.covers.specs.declared.list.ListKind.{ListKind}
use Rattle.covers.specs.declared.list.ListKind.TheVariants as listed
use Rattle.covers.specs.declared.list.ListBuilder.{ListBuilder as ListOf}
use Rattle.covers.specs.Lists.{takes, seen_with, shape_with, separated}
use Rattle.covers.specs.Shapes.{is_pattern, is_element, unassigned}
use Rattle.recursive_descent.specs.Soundness.{fits_as}
use Rattle.recursive_descent.specs.SoundnessOfLists.{has_reading, seen_fits, item_fits, fits_rest, may_trail, is_chunked}
use Rattle.parser_tables.specs.Items.{is_unseparated}
use Rattle.recursive_descent.proofs.sound_lists.OneMoreItem.{trails_at}
use Rattle.parser_tables.specs.StatementNodes.{is_closed}

picked : (b : Bool) (y : TargetForm) → is_element (if b then y else assigned.Nothing) ≡ true → (is_element y ≡ true) × (b ≡ true)
picked true y h = (h, refl)
picked false y h = absurd (false≢true h)

both : (a b : Bool) → a ≡ true → b ≡ true → (a && b) ≡ true
both true true h k = refl
both true false h k = cc
both false b h k = cc

-- the shape of the items with one more that doesn't spread
alone_step : (s p : CoverShape) (a : Reading) → fits_as (shape_with false listed.Elements s p) a ≡ true → (fits_as s a ≡ true) × (fits_as p a ≡ true)
alone_step s p as_expression h = and_parts s.is_expression p.is_expression h
alone_step s p (as_pattern false) h = picked (is_element p.assigned) s.assigned h
alone_step s p (as_pattern true) h =
    let u = and_parts (s.binds && p.binds) (is_element (if is_element p.assigned then s.assigned else assigned.Nothing)) h in
    let v = and_parts s.binds p.binds u.0 in
    let w = picked (is_element p.assigned) s.assigned u.1 in
    (both s.binds (is_element s.assigned) v.0 w.0, both p.binds (is_element p.assigned) v.1 w.1)

-- and one that does, in an array, and in parentheses
rest_step : (s p : CoverShape) (a : Reading) → fits_as (shape_with true listed.Elements s p) a ≡ true → (fits_as s a ≡ true) × (fits_rest listed.Elements p a ≡ true)
rest_step s p as_expression h = and_parts s.is_expression p.is_expression h
rest_step s p (as_pattern false) h = picked (is_pattern p.assigned) s.assigned h
rest_step s p (as_pattern true) h =
    let u = and_parts (s.binds && p.binds) (is_element (if is_pattern p.assigned then s.assigned else assigned.Nothing)) h in
    let v = and_parts s.binds p.binds u.0 in
    let w = picked (is_pattern p.assigned) s.assigned u.1 in
    (both s.binds (is_element s.assigned) v.0 w.0, both p.binds (is_pattern p.assigned) v.1 w.1)

-- where a comma follows it, no pattern is left
unpatterned : (s : CoverShape) (b : Bool) {X : Type 0} → fits_as (unassigned s) (as_pattern b) ≡ true → X
unpatterned s false h = absurd (false≢true h)
unpatterned s true h = absurd (false≢true h)

abbrev pub stepped : Bool → Bool → ListKind → CoverShape → CoverShape → CoverShape
stepped comma sp x s p = if comma && sp then unassigned (shape_with sp x s p) else shape_with sp x s p

-- a list with a shape of its own
abbrev pub is_shaped : ListKind → Bool
is_shaped listed.Elements = true
is_shaped listed.Properties = true
is_shaped listed.ParenthesizedItems = true
is_shaped listed.AsyncArguments = true
is_shaped listed.Parameters = true
is_shaped listed.NoParameter = true
is_shaped listed.OneParameter = true
is_shaped _ = false

-- a comma stands behind an item only where that is no rest
abbrev Stepped : Bool → Bool → ListKind → CoverShape → CoverShape → Reading → Type 0
Stepped comma sp x s p a = (fits_as s a ≡ true) × (cond sp (fits_rest x p a) (fits_as p a) ≡ true) × ((comma ≡ true) → (b : Bool) → a ≡ as_pattern b → sp ≡ false)

shape_step : (comma sp : Bool) (x : ListKind) (s p : CoverShape) (a : Reading) → is_shaped x ≡ true → fits_as (stepped comma sp x s p) a ≡ true → Stepped comma sp x s p a
shape_step true false x s p a sh h = let u = alone_step s p a h in (u.0, u.1, λ c b q. refl)
shape_step false false x s p a sh h = let u = alone_step s p a h in (u.0, u.1, λ c b q. refl)
shape_step true true listed.ParenthesizedItems s p as_expression sh h = cc
shape_step true true _ s p as_expression sh h = let u = and_parts s.is_expression p.is_expression h in (u.0, u.1, λ c b q. cc)
shape_step true true x s p (as_pattern b) sh h = unpatterned (shape_with true x s p) b h
shape_step false true listed.ParenthesizedItems s p as_expression sh h = cc
shape_step false true listed.ParenthesizedItems s p (as_pattern false) sh h = let u = rest_step s p (as_pattern false) h in (u.0, u.1, λ c b q. cc)
shape_step false true listed.ParenthesizedItems s p (as_pattern true) sh h = let u = rest_step s p (as_pattern true) h in (u.0, u.1, λ c b q. cc)
shape_step false true _ s p as_expression sh h = let u = rest_step s p as_expression h in (u.0, u.1, λ c b q. cc)
shape_step false true _ s p (as_pattern false) sh h = let u = rest_step s p (as_pattern false) h in (u.0, u.1, λ c b q. cc)
shape_step false true _ s p (as_pattern true) sh h = let u = rest_step s p (as_pattern true) h in (u.0, u.1, λ c b q. cc)

-- lists of expressions alone: what was taken is one
value_step : (sp : Bool) (x : ListKind) (s p : CoverShape) → (shape_with sp listed.Elements s p).is_expression ≡ true → (cond sp p.is_expression p.is_expression) ≡ true
value_step true x s p h = (and_parts s.is_expression p.is_expression h).1
value_step false x s p h = (and_parts s.is_expression p.is_expression h).1

if_not : (b y : Bool) → (if b then false else y) ≡ true → (b ≡ false) × (y ≡ true)
if_not true y h = absurd (false≢true h)
if_not false y h = (refl, h)

or_right : (b c : Bool) → c ≡ true → (b || c) ≡ true
or_right true c h = refl
or_right false c h = h

or_false : (b c : Bool) → not (b || c) ≡ true → (not b ≡ true) × (not c ≡ true)
or_false true c h = absurd (false≢true h)
or_false false c h = (refl, h)

pushed_count : (ps : Parts) (n : Tree) → part_count (push ps n) ≡ part_count ps + 1
pushed_count none n = refl
pushed_count (part k ps) n = ap (λ x. x + 1) (pushed_count ps n)
pushed_count (gap ps) n = ap (λ x. x + 1) (pushed_count ps n)

one_pushed : (ps : Parts) (n : Tree) → nat_le (part_count (push ps n)) 1 ≡ true → is_none ps ≡ true
one_pushed none n h = refl
one_pushed (part k ps) n h = absurd (too_many (part_count ps) (subst (λ x. nat_le x 1 ≡ true) (pushed_count (part k ps) n) h))
  where
    too_many : (c : ℕ) → nat_le ((c + 1) + 1) 1 ≡ true → ⊥
    too_many c h = grind (arith, nat_tests)
one_pushed (gap ps) n h = absurd (too_many (part_count ps) (subst (λ x. nat_le x 1 ≡ true) (pushed_count (gap ps) n) h))
  where
    too_many : (c : ℕ) → nat_le ((c + 1) + 1) 1 ≡ true → ⊥
    too_many c h = grind (arith, nat_tests)

-- what is seen with one more item, and a comma or none
abbrev pub seen_step : Bool → ListKind → ListSummary → ListItem → ListSummary
seen_step comma x s it = if is_unseparated x then seen_with s it x else separated (seen_with s it x) comma

or_left : (b c : Bool) → b ≡ true → (b || c) ≡ true
or_left true c h = refl
or_left false c h = absurd (false≢true h)

abbrev pub FitsBefore : Bool → ListKind → ListOf → ListItem → Reading → Type 0
FitsBefore comma x l it a = ((is_none l.nodes || seen_fits x l a) ≡ true) × (item_fits x it a ≡ true) × ((trails_at x ≡ true) → (comma ≡ true) → may_trail it a ≡ true)

trails : (comma : Bool) (it : ListItem) (a : Reading) → ((comma ≡ true) → (b : Bool) → a ≡ as_pattern b → it.spreads ≡ false) → (comma ≡ true) → may_trail it a ≡ true
trails comma it as_expression f c = refl
trails comma it (as_pattern b) f c = ap not (f c b refl)

-- a reading that is left was left before, and the item has it
pub fits_step : (comma : Bool) (x : ListKind) (l k : ListOf) (it : ListItem) (a : Reading) → is_chunked x ≡ false → has_reading x a ≡ true → takes x l.seen it ≡ true → k.nodes ≡ push l.nodes it.node → k.seen ≡ seen_step comma x l.seen it → seen_fits x k a ≡ true → FitsBefore comma x l it a
fits_step comma listed.Template l k it a c r t ns sn h = cc
fits_step comma (listed.Declarators i) l k it as_expression c r t ns sn h =
    let u = or_false l.seen.is_flagged it.is_flagged (sym (ap (λ (y : ListSummary). not y.is_flagged) sn) ∙ h) in
    (or_right (is_none l.nodes) _ u.0, u.1, λ y z. refl)
fits_step comma (listed.Declarators i) l k it (as_pattern b) c r t ns sn h =
    let u = and_parts (nat_le (part_count k.nodes) 1) (is_closed k.seen.edge) h in
    (or_left (is_none l.nodes) _ (one_pushed l.nodes it.node (sym (ap (λ y. nat_le (part_count y) 1) ns) ∙ u.0)), sym (ap (λ (y : ListSummary). is_closed y.edge) sn) ∙ u.1, λ y z. cc)
fits_step comma listed.Arguments l k it as_expression c r t ns sn h = (or_right (is_none l.nodes) true refl, value_step it.spreads listed.Arguments l.seen.shape it.shape (taken_value it.spreads t), λ y z. refl)
  where
    taken_value : (sp : Bool) → (shape_with sp listed.Arguments l.seen.shape it.shape).is_expression ≡ true → (shape_with sp listed.Elements l.seen.shape it.shape).is_expression ≡ true
    taken_value true h = h
    taken_value false h = h
fits_step comma listed.Arguments l k it (as_pattern b) c r t ns sn h = cc
fits_step comma (listed.Sequence i) l k it as_expression c r t ns sn h = (or_right (is_none l.nodes) true refl, value_step it.spreads listed.Arguments l.seen.shape it.shape (taken_value it.spreads t), λ y z. refl)
  where
    taken_value : (sp : Bool) → (shape_with sp (listed.Sequence i) l.seen.shape it.shape).is_expression ≡ true → (shape_with sp listed.Elements l.seen.shape it.shape).is_expression ≡ true
    taken_value true h = h
    taken_value false h = h
fits_step comma (listed.Sequence i) l k it (as_pattern b) c r t ns sn h = cc
fits_step comma (listed.Cases q) l k it as_expression c r t ns sn h = (or_right (is_none l.nodes) true refl, value_step it.spreads listed.Arguments l.seen.shape it.shape (taken_value it.spreads (if_not (l.seen.is_flagged && it.is_flagged) _ t).1), λ y z. refl)
  where
    taken_value : (sp : Bool) → (shape_with sp (listed.Cases q) l.seen.shape it.shape).is_expression ≡ true → (shape_with sp listed.Elements l.seen.shape it.shape).is_expression ≡ true
    taken_value true h = h
    taken_value false h = h
fits_step comma (listed.Cases q) l k it (as_pattern b) c r t ns sn h = cc
fits_step comma listed.Members l k it as_expression c r t ns sn h = (or_right (is_none l.nodes) true refl, value_step it.spreads listed.Arguments l.seen.shape it.shape (taken_value it.spreads t), λ y z. refl)
  where
    taken_value : (sp : Bool) → (shape_with sp listed.Members l.seen.shape it.shape).is_expression ≡ true → (shape_with sp listed.Elements l.seen.shape it.shape).is_expression ≡ true
    taken_value true h = h
    taken_value false h = h
fits_step comma listed.Members l k it (as_pattern b) c r t ns sn h = cc
fits_step comma listed.OneParameter l k it a c r t ns sn h =
    let u = shape_step comma it.spreads listed.OneParameter l.seen.shape it.shape a refl (sym (ap (λ (y : ListSummary). fits_as y.shape a) sn) ∙ h) in
    let alone = (if_not it.spreads _ t).0 in
    (or_right (is_none l.nodes) _ u.0, of it.spreads alone u.1, λ y. trails comma it a u.2)
  where
    of : (sp : Bool) → sp ≡ false → cond sp (fits_rest listed.OneParameter it.shape a) (fits_as it.shape a) ≡ true → cond sp false (fits_as it.shape a) ≡ true
    of true q h = cc
    of false q h = h
fits_step comma listed.Elements l k it a c r t ns sn h = let u = shape_step comma it.spreads listed.Elements l.seen.shape it.shape a refl (sym (ap (λ (y : ListSummary). fits_as y.shape a) sn) ∙ h) in (or_right (is_none l.nodes) _ u.0, u.1, λ y. trails comma it a u.2)
fits_step comma listed.Properties l k it a c r t ns sn h = let u = shape_step comma it.spreads listed.Properties l.seen.shape it.shape a refl (sym (ap (λ (y : ListSummary). fits_as y.shape a) sn) ∙ h) in (or_right (is_none l.nodes) _ u.0, u.1, λ y. trails comma it a u.2)
fits_step comma listed.ParenthesizedItems l k it a c r t ns sn h = let u = shape_step comma it.spreads listed.ParenthesizedItems l.seen.shape it.shape a refl (sym (ap (λ (y : ListSummary). fits_as y.shape a) sn) ∙ h) in (or_right (is_none l.nodes) _ u.0, u.1, λ y. trails comma it a u.2)
fits_step comma listed.AsyncArguments l k it a c r t ns sn h = let u = shape_step comma it.spreads listed.AsyncArguments l.seen.shape it.shape a refl (sym (ap (λ (y : ListSummary). fits_as y.shape a) sn) ∙ h) in (or_right (is_none l.nodes) _ u.0, u.1, λ y. trails comma it a u.2)
fits_step comma listed.Parameters l k it a c r t ns sn h = let u = shape_step comma it.spreads listed.Parameters l.seen.shape it.shape a refl (sym (ap (λ (y : ListSummary). fits_as y.shape a) sn) ∙ h) in (or_right (is_none l.nodes) _ u.0, u.1, λ y. trails comma it a u.2)
fits_step comma listed.NoParameter l k it a c r t ns sn h = let u = shape_step comma it.spreads listed.NoParameter l.seen.shape it.shape a refl (sym (ap (λ (y : ListSummary). fits_as y.shape a) sn) ∙ h) in (or_right (is_none l.nodes) _ u.0, u.1, λ y. trails comma it a u.2)
