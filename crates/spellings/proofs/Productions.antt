-- What a `for` is spelled as, by what stands in its head, and which productions have a list of parts.
use Rattle.std.proofs.Common.{◌≡◌, Bool, true, false, refl, sym}
use Rattle.std.specs.Prelude.{◌||◌, cond, Some, None}
use Rattle.std.proofs.lemmas.Bool.{false≢true}
use Rattle.language.specs.Statements.{is_declaration}
use Rattle.language.specs.declared.Rank.TheVariants.{Expression, Primary}
use Rattle.language.specs.declared.Start.TheVariants.{Any}
use Rattle.spellings.specs.declared.parts.PartAt.{PartAt}
use Rattle.spellings.specs.declared.parts.PartAt.TheVariants.{Past, Gap, Part}
use Rattle.spelling_table.specs.declared.position.Position.TheVariants as at
use Rattle.spelling_table.specs.declared.position.Slot.TheVariants.{Fixed}
use Rattle.spelling_table.specs.declared.production.ForInit.TheVariants.{Declaration, Value}
use Rattle.spelling_table.specs.declared.production.Production.TheVariants.{For}
use Rattle.spelling_table.specs.declared.production.Production.{Production}
use Rattle.spelling_table.specs.declared.production.Production.TheVariants as by
use Rattle.spelling_table.specs.Outlines.{fronted, is_over}
use Rattle.spellings.specs.Expressions.{is_past}
use Rattle.spellings.specs.Statements.{is_part, for_outline}
use Rattle.spelling_table.specs.Productions.{body_at}
use Rattle.spellings.specs.Statements.{init_of}
use Rattle.spelling_table.specs.Productions.{for_slots, for_after_first, outline_of, has_list}

pub for_past : (r : Bool) (a b c : PartAt) → (is_past a || (is_past b || is_past c)) ≡ true → None ≡ for_outline r a b c
for_past r Past b c h = refl
for_past r Gap Past c h = refl
for_past r Gap Gap Past h = refl
for_past r Gap Gap Gap h = absurd (false≢true h)
for_past r Gap Gap (Part k) h = absurd (false≢true h)
for_past r Gap (Part j) Past h = refl
for_past r Gap (Part j) Gap h = absurd (false≢true h)
for_past r Gap (Part j) (Part k) h = absurd (false≢true h)
for_past r (Part i) Past c h = refl
for_past r (Part i) Gap Past h = refl
for_past r (Part i) Gap Gap h = absurd (false≢true h)
for_past r (Part i) Gap (Part k) h = absurd (false≢true h)
for_past r (Part i) (Part j) Past h = refl
for_past r (Part i) (Part j) Gap h = absurd (false≢true h)
for_past r (Part i) (Part j) (Part k) h = absurd (false≢true h)

first : (r b t u : Bool) → Some (fronted Primary (for_slots (cond b Declaration Value) t u (body_at r))) ≡
    Some (fronted Primary (for_after_first (Fixed (cond b (at.ForDeclaration true) (at.Expression Expression false Any))) t u (body_at r)))
first r true t u = refl
first r false t u = refl

pub for_given : (r : Bool) (a b c : PartAt) → (is_past a || (is_past b || is_past c)) ≡ false → Some (outline_of (For (init_of a) (is_part b) (is_part c) r)) ≡ for_outline r a b c
for_given r Past b c h = absurd (false≢true (sym h))
for_given r Gap Past c h = absurd (false≢true (sym h))
for_given r Gap Gap Past h = absurd (false≢true (sym h))
for_given r Gap Gap Gap h = refl
for_given r Gap Gap (Part k) h = refl
for_given r Gap (Part j) Past h = absurd (false≢true (sym h))
for_given r Gap (Part j) Gap h = refl
for_given r Gap (Part j) (Part k) h = refl
for_given r (Part i) Past c h = absurd (false≢true (sym h))
for_given r (Part i) Gap Past h = absurd (false≢true (sym h))
for_given r (Part i) Gap Gap h = first r (is_declaration i) false false
for_given r (Part i) Gap (Part k) h = first r (is_declaration i) false true
for_given r (Part i) (Part j) Past h = absurd (false≢true (sym h))
for_given r (Part i) (Part j) Gap h = first r (is_declaration i) true false
for_given r (Part i) (Part j) (Part k) h = first r (is_declaration i) true true

pub without_list : (p : Production) → has_list p ≡ false → is_over (outline_of p).tail ≡ true
without_list by.Array h = absurd (false≢true (sym h))
without_list by.Object h = absurd (false≢true (sym h))
without_list by.Template h = absurd (false≢true (sym h))
without_list (by.Function a) h = absurd (false≢true (sym h))
without_list (by.Arrow a) h = absurd (false≢true (sym h))
without_list (by.Call a) h = absurd (false≢true (sym h))
without_list by.New h = absurd (false≢true (sym h))
without_list by.Sequence h = absurd (false≢true (sym h))
without_list (by.CallLink a) h = absurd (false≢true (sym h))
without_list (by.ArrayPattern a) h = absurd (false≢true (sym h))
without_list (by.ObjectPattern a) h = absurd (false≢true (sym h))
without_list by.ClassBody h = absurd (false≢true (sym h))
without_list by.Method h = absurd (false≢true (sym h))
without_list (by.Items a) h = absurd (false≢true (sym h))
without_list (by.Prologue a) h = absurd (false≢true (sym h))
without_list by.Module h = absurd (false≢true (sym h))
without_list by.ImportList h = absurd (false≢true (sym h))
without_list by.ExportList h = absurd (false≢true (sym h))
without_list (by.Declarators a) h = absurd (false≢true (sym h))
without_list (by.Switch a) h = absurd (false≢true (sym h))
without_list (by.Case a b) h = absurd (false≢true (sym h))
without_list _ h = refl
