-- One item of a given list, as it is pushed onto what was read (ECMA-262 12.2, 12.15.5, 13.3, 13.12).
use Rattle.std.proofs.Common.{◌≡◌, ℕ, Bool, true, false, not, cond, List, Result, Ok, Err, refl, sym, ap, ◌∙◌, subst}
use Rattle.std.specs.Prelude.{IfOk, ◌&&◌, ◌||◌, if◌then◌else◌, Some}
use Rattle.std.proofs.lemmas.Bool.{and_parts, false≢true}
use Rattle.source_text.specs.declared.fault.Fault.{Fault}
use Rattle.source_text.specs.declared.fault.Fault.TheVariants.{Syntax, OutOfMemory}
use Rattle.tokens.specs.declared.token.TokenClass.TheVariants.{Punctuator}
use Rattle.std.specs.Prelude.{codes}
use Rattle.tree.specs.declared.kind.Pair.{Pair}
use Rattle.tree.specs.Tree.{Tree, Parts, none, part, push, part_count, kind_of}
use Rattle.language.specs.Covers.{Reading, as_expression, as_pattern}
use Rattle.language.specs.Pieces.{Role}
use Rattle.language.specs.Token.{Token}
use Rattle.covers.specs.declared.shape.TargetForm.{TargetForm}
use Rattle.covers.specs.declared.shape.TargetForm.TheVariants as assigned
use Rattle.covers.specs.declared.shape.CoverShape.{CoverShape}
use Rattle.covers.specs.declared.list.ListItem.{ListItem}
use Rattle.covers.specs.declared.list.ListKind.{ListKind}
use Rattle.covers.specs.declared.list.ListKind.TheVariants as listed
use Rattle.covers.specs.declared.list.ListBuilder.{ListBuilder as ListOf}
use Rattle.covers.specs.Lists.{takes, reads, is_surplus, seen_with, shape_with}
use Rattle.covers.specs.Refusals.{IsTaken}
use Rattle.covers.specs.Shapes.{is_pattern, is_element}
use Rattle.recursive_descent.specs.Soundness.{fits_as}
use Rattle.recursive_descent.specs.SoundnessOfLists.{has_reading, seen_fits, item_fits, fits_rest, item_role, is_chunked}
use Rattle.recursive_descent.specs.Completeness.{Agrees}
use Rattle.recursive_descent.specs.CompletenessOfLists.{ItemGiven, an_item, a_hole, a_chunk, ItemEnds, is_lone}
use Rattle.token_cursor.specs.Seen.{Misses}
use Rattle.token_cursor.specs.SourceText.{SourceText}
use Rattle.recursive_descent.specs.Spelled.{SpellsIn}
use Rattle.recursive_descent.proofs.complete_expressions.Agreement.{not_missed}

-- an item that is no hole and no part of a template
pub record PlainItem (text : SourceText) (x : ListKind) (a : Reading) (o : ℕ) (s e : Token) (P : List Pair) (last : Bool) (one : Parts) : Type 0 where
  pub role : Role
  pub tree : Tree
  pub parts : one ≡ part tree none
  pub unmarked : last ≡ false
  pub it_is : item_role x a (kind_of tree) ≡ Some role
  pub spelled : SpellsIn text o role tree s e P
  pub ends : ItemEnds text x tree e

-- so is what is given, where no hole is
pub plain_item : {text : SourceText} {x : ListKind} {a : Reading} {o : ℕ} {s e : Token} {P : List Pair} {last : Bool} {one : Parts} → is_chunked x ≡ false → (x ≡ listed.Elements → Misses text Punctuator (codes ",") s) → ItemGiven text x a o s e P last one → PlainItem text x a o s e P last one
plain_item c miss (an_item {r = r} {n = n} h it d e) = record { role = r; tree = n; parts = refl; unmarked = refl; it_is = it; spelled = d; ends = e }
plain_item c miss (a_hole is comma z q) = absurd (not_missed (miss is) comma.1)
plain_item c miss (a_chunk is d st ch) = absurd (false≢true (sym c ∙ ap is_chunked is))

-- the shape of the items with one more
and_both : {b c : Bool} → b ≡ true → c ≡ true → (b && c) ≡ true
and_both {b} {c} h k = ap (λ x. x && c) h ∙ k

-- an element, and a last rest, that fit are elements of what fitted
picked_both : (b : Bool) (y : TargetForm) → b ≡ true → is_element y ≡ true → is_element (if b then y else assigned.Nothing) ≡ true
picked_both true y h k = k
picked_both false y h k = cc

alone_fits : (s p : CoverShape) (a : Reading) → fits_as s a ≡ true → fits_as p a ≡ true → fits_as (shape_with false listed.Elements s p) a ≡ true
alone_fits s p as_expression h k = and_both h k
alone_fits s p (as_pattern false) h k = picked_both (is_element p.assigned) s.assigned k h
alone_fits s p (as_pattern true) h k =
    let u = and_parts s.binds (is_element s.assigned) h in
    let v = and_parts p.binds (is_element p.assigned) k in
    and_both (and_both u.0 v.0) (picked_both (is_element p.assigned) s.assigned v.1 u.1)

rest_fits : (s p : CoverShape) (a : Reading) → fits_as s a ≡ true → fits_rest listed.Elements p a ≡ true → fits_as (shape_with true listed.Elements s p) a ≡ true
rest_fits s p as_expression h k = and_both h k
rest_fits s p (as_pattern false) h k = picked_both (is_pattern p.assigned) s.assigned k h
rest_fits s p (as_pattern true) h k =
    let u = and_parts s.binds (is_element s.assigned) h in
    let v = and_parts p.binds (is_pattern p.assigned) k in
    and_both (and_both u.0 v.0) (picked_both (is_pattern p.assigned) s.assigned v.1 u.1)

-- one of two
or_left : (b c : Bool) → b ≡ true → (b || c) ≡ true
or_left b c h = ap (λ x. x || c) h

or_right : (b c : Bool) → c ≡ true → (b || c) ≡ true
or_right true c h = refl
or_right false c h = h

-- a list with a reading has one
read_either : (s : CoverShape) (a : Reading) → fits_as s a ≡ true → (s.is_expression || is_element s.assigned) ≡ true
read_either s as_expression h = or_left s.is_expression _ h
read_either s (as_pattern false) h = or_right s.is_expression _ h
read_either s (as_pattern true) h = or_right s.is_expression _ (and_parts s.binds (is_element s.assigned) h).1

-- the shape of a list with a shape of its own, with one more item
shaped_fits : (x : ListKind) (sp : Bool) (s p : CoverShape) (a : Reading) → fits_as s a ≡ true → cond sp (fits_rest x p a) (fits_as p a) ≡ true → fits_as (shape_with sp x s p) a ≡ true
shaped_fits x false s p a h k = alone_fits s p a h k
shaped_fits listed.ParenthesizedItems true s p as_expression h k = cc
shaped_fits listed.ParenthesizedItems true s p (as_pattern false) h k = rest_fits s p (as_pattern false) h k
shaped_fits listed.ParenthesizedItems true s p (as_pattern true) h k = rest_fits s p (as_pattern true) h k
shaped_fits _ true s p as_expression h k = rest_fits s p as_expression h k
shaped_fits _ true s p (as_pattern false) h k = rest_fits s p (as_pattern false) h k
shaped_fits _ true s p (as_pattern true) h k = rest_fits s p (as_pattern true) h k

-- what a list has of a reading, and the list with one more item
abbrev left_at : ListKind → ListOf → Reading → Bool
left_at x l a = (has_reading x a && seen_fits x l a) && reads x l.seen.shape

abbrev pushed_at : ListKind → ListOf → ListItem → ListOf
pushed_at x l it = record l { nodes = push l.nodes it.node; seen = seen_with l.seen it x }

-- lists whose items are expressions, and those of which no shape is asked
abbrev pub is_plainly : ListKind → Bool
is_plainly (listed.Declarators i) = true
is_plainly (listed.Cases r) = true
is_plainly _ = false

-- a list of expressions with one more
value_fits : (sp : Bool) (x : ListKind) (s p : CoverShape) → (x ≡ listed.ParenthesizedItems → ⊥) → s.is_expression ≡ true → p.is_expression ≡ true → (shape_with sp x s p).is_expression ≡ true
value_fits false x s p other h k = and_both h k
value_fits true listed.ParenthesizedItems s p other h k = absurd (other refl)
value_fits true _ s p other h k = and_both h k

expression_item : (sp : Bool) (b : Bool) → cond sp b b ≡ true → b ≡ true
expression_item true b h = h
expression_item false b h = h

no_or : (b c : Bool) → not b ≡ true → not c ≡ true → not (b || c) ≡ true
no_or true c h k = cc
no_or false c h k = k

-- a reading that is left is left with an item that fits it
pub fits_at : (x : ListKind) (l : ListOf) (it : ListItem) (a : Reading) → is_chunked x ≡ false → (x ≡ listed.NoParameter → ⊥) → left_at x l a ≡ true → item_fits x it a ≡ true → (is_plainly x ≡ true → it.shape.is_expression ≡ true) → is_lone x a (part_count (push l.nodes it.node)) ≡ true → left_at x (pushed_at x l it) a ≡ true
fits_at listed.Template l it a c some h k plain lone = cc
fits_at listed.NoParameter l it a c some h k plain lone = absurd (some refl)
fits_at listed.Arguments l it as_expression c some h k plain lone = value_fits it.spreads listed.Arguments l.seen.shape it.shape (λ e. cc) h (expression_item it.spreads it.shape.is_expression k)
fits_at listed.Arguments l it (as_pattern b) c some h k plain lone = cc
fits_at listed.Elements l it a c some h k plain lone =
    let u = and_parts (true && fits_as l.seen.shape a) _ h in
    let v = shaped_fits listed.Elements it.spreads l.seen.shape it.shape a u.0 k in
    and_both v (read_either (shape_with it.spreads listed.Elements l.seen.shape it.shape) a v)
fits_at listed.Properties l it a c some h k plain lone =
    let u = and_parts (true && fits_as l.seen.shape a) _ h in
    let v = shaped_fits listed.Properties it.spreads l.seen.shape it.shape a u.0 k in
    and_both v (read_either (shape_with it.spreads listed.Properties l.seen.shape it.shape) a v)
fits_at listed.ParenthesizedItems l it as_expression c some h k plain lone =
    let u = and_parts (true && fits_as l.seen.shape as_expression) _ h in
    let v = shaped_fits listed.ParenthesizedItems it.spreads l.seen.shape it.shape as_expression u.0 k in
    and_both v (or_left _ _ v)
fits_at listed.ParenthesizedItems l it (as_pattern true) c some h k plain lone =
    let u = and_parts (true && fits_as l.seen.shape (as_pattern true)) _ h in
    let v = shaped_fits listed.ParenthesizedItems it.spreads l.seen.shape it.shape (as_pattern true) u.0 k in
    and_both v (or_right (shape_with it.spreads listed.ParenthesizedItems l.seen.shape it.shape).is_expression _ v)
fits_at listed.ParenthesizedItems l it (as_pattern false) c some h k plain lone = cc
fits_at listed.AsyncArguments l it as_expression c some h k plain lone =
    let u = and_parts (true && fits_as l.seen.shape as_expression) _ h in
    let v = shaped_fits listed.AsyncArguments it.spreads l.seen.shape it.shape as_expression u.0 k in
    and_both v (or_left _ _ v)
fits_at listed.AsyncArguments l it (as_pattern true) c some h k plain lone =
    let u = and_parts (true && fits_as l.seen.shape (as_pattern true)) _ h in
    let v = shaped_fits listed.AsyncArguments it.spreads l.seen.shape it.shape (as_pattern true) u.0 k in
    and_both v (or_right (shape_with it.spreads listed.AsyncArguments l.seen.shape it.shape).is_expression _ v)
fits_at listed.AsyncArguments l it (as_pattern false) c some h k plain lone = cc
fits_at listed.Parameters l it (as_pattern true) c some h k plain lone =
    let u = and_parts (true && fits_as l.seen.shape (as_pattern true)) _ h in
    let v = shaped_fits listed.Parameters it.spreads l.seen.shape it.shape (as_pattern true) u.0 k in
    and_both v v
fits_at listed.Parameters l it (as_pattern false) c some h k plain lone = cc
fits_at listed.Parameters l it as_expression c some h k plain lone = cc
fits_at listed.OneParameter l it (as_pattern true) c some h k plain lone = of it.spreads k
  where
    of : (sp : Bool) → cond sp false (fits_as it.shape (as_pattern true)) ≡ true → (fits_as (shape_with sp listed.OneParameter l.seen.shape it.shape) (as_pattern true) && fits_as (shape_with sp listed.OneParameter l.seen.shape it.shape) (as_pattern true)) ≡ true
    of true q = absurd (false≢true q)
    of false q = let v = alone_fits l.seen.shape it.shape (as_pattern true) (and_parts (fits_as l.seen.shape (as_pattern true)) _ h).0 q in and_both v v
fits_at listed.OneParameter l it (as_pattern false) c some h k plain lone = cc
fits_at listed.OneParameter l it as_expression c some h k plain lone = cc
fits_at (listed.Sequence i) l it as_expression c some h k plain lone = value_fits it.spreads (listed.Sequence i) l.seen.shape it.shape (λ e. cc) h (expression_item it.spreads it.shape.is_expression k)
fits_at (listed.Sequence i) l it (as_pattern b) c some h k plain lone = cc
fits_at (listed.Declarators i) l it as_expression c some h k plain lone =
    let u = and_parts (not l.seen.is_flagged) _ h in
    and_both (no_or l.seen.is_flagged it.is_flagged u.0 k) (value_fits it.spreads (listed.Declarators i) l.seen.shape it.shape (λ e. cc) u.1 (plain refl))
fits_at (listed.Declarators i) l it (as_pattern true) c some h k plain lone =
    let u = and_parts _ l.seen.shape.is_expression h in
    and_both (and_both lone k) (value_fits it.spreads (listed.Declarators i) l.seen.shape it.shape (λ e. cc) u.1 (plain refl))
fits_at (listed.Declarators i) l it (as_pattern false) c some h k plain lone = cc
fits_at (listed.Cases r) l it as_expression c some h k plain lone = value_fits it.spreads (listed.Cases r) l.seen.shape it.shape (λ e. cc) h (plain refl)
fits_at (listed.Cases r) l it (as_pattern b) c some h k plain lone = cc
fits_at listed.Members l it as_expression c some h k plain lone = value_fits it.spreads listed.Members l.seen.shape it.shape (λ e. cc) h (expression_item it.spreads it.shape.is_expression k)
fits_at listed.Members l it (as_pattern b) c some h k plain lone = cc

-- it isn't one too many, so it is taken
pub takes_at : (x : ListKind) (l : ListOf) (it : ListItem) (a : Reading) → has_reading x a ≡ true → item_fits x it a ≡ true → left_at x (pushed_at x l it) a ≡ true → ((r : Bool) → x ≡ listed.Cases r → (l.seen.is_flagged && it.is_flagged) ≡ false) → takes x l.seen it ≡ true
takes_at x l it a g k h once = of (is_surplus x l.seen it) (excess x k once) (and_parts _ (reads x (shape_with it.spreads x l.seen.shape it.shape)) h).1
  where
    of : {c : Bool} (b : Bool) → b ≡ false → c ≡ true → (if b then false else c) ≡ true
    of true e f = cc
    of false e f = f

    spread_not : (sp c : Bool) → cond sp false c ≡ true → sp ≡ false
    spread_not true c e = absurd (false≢true e)
    spread_not false c e = refl

    excess : (x : ListKind) → item_fits x it a ≡ true → ((r : Bool) → x ≡ listed.Cases r → (l.seen.is_flagged && it.is_flagged) ≡ false) → is_surplus x l.seen it ≡ false
    excess (listed.Cases r) k once = once r refl
    excess listed.OneParameter k once = spread_not it.spreads _ k
    excess _ k once = refl

-- what is pushed, and its answer
pub agrees_pushed : (W : Type 0) (Same : ListOf → Type 0) (k whole : ListOf) (fits : Bool) (at : ℕ) (r : Result (Unit {0}) Fault) → IfOk r (λ u. k ≡ whole) → IsTaken fits at r → fits ≡ true → Same whole → Agrees W (λ u. Same k) r
agrees_pushed W Same k whole fits at (Ok u) is t took same = subst Same (sym is) same
agrees_pushed W Same k whole fits at (Err (Syntax place)) is t took same = absurd (false≢true (sym t.1 ∙ took))
agrees_pushed W Same k whole fits at (Err OutOfMemory) is t took same = tt
agrees_pushed W Same k whole fits at (Err _) is t took same = absurd t
