-- Productions: the outline of each.
use Rattle.std.specs.Prelude.{Bool, true, false, cond}
use Rattle.language.specs.declared.Rank.{Rank}
use Rattle.language.specs.declared.Rank.TheVariants.{Expression, Assignment, Conditional, ShortCircuit, Exponentiation, Relational, Shift, Unary, Update, LeftHandSide, Call, Member, Primary}
use Rattle.language.specs.declared.Start.TheVariants.{Any}
use Rattle.spelling_table.specs.declared.position.Position.{Position}
use Rattle.spelling_table.specs.declared.position.Position.TheVariants as at
use Rattle.spelling_table.specs.declared.position.Slot.{Slot}
use Rattle.spelling_table.specs.declared.position.Slot.TheVariants.{Fixed, Left, Lead, Callee, LeadSpine, LeadPattern}
use Rattle.spelling_table.specs.declared.position.Slot.TheVariants as slot
use Rattle.spelling_table.specs.declared.outline.FixedSlots.{FixedSlots}
use Rattle.spelling_table.specs.declared.outline.FixedSlots.TheVariants.{Zero, One, Two, Three, Four}
use Rattle.spelling_table.specs.declared.outline.FirstToken.TheVariants.{Brace, FunctionOrClass}
use Rattle.spelling_table.specs.declared.outline.ListSlots.{ListSlots}
use Rattle.spelling_table.specs.declared.outline.ListSlots.TheVariants as tail
use Rattle.spelling_table.specs.declared.outline.Outline.{Outline}
use Rattle.spelling_table.specs.declared.production.ForInit.{ForInit}
use Rattle.spelling_table.specs.declared.production.ForInit.TheVariants.{Nothing, Declaration, Value}
use Rattle.spelling_table.specs.declared.production.TryClauses.{TryClauses}
use Rattle.spelling_table.specs.declared.production.TryClauses.TheVariants.{Handler, Finalizer, Both}
use Rattle.spelling_table.specs.declared.production.Production.{Production}
use Rattle.spelling_table.specs.declared.production.Production.TheVariants as by
use Rattle.spelling_table.specs.Outlines.{assignment_at, whole_at, leaf, fronted, lined}

abbrev pub opens_with_word : Outline → Outline
opens_with_word x = record x { opens = FunctionOrClass }

abbrev pub opens_with_brace : Outline → Outline
opens_with_brace x = record x { opens = Brace }

abbrev pub heritage_at : Slot
heritage_at = Fixed (at.Expression LeftHandSide true Any)

abbrev pub list_outline : ListSlots → Outline
list_outline t = lined Primary Zero t 0

abbrev pub new_outline : Outline
new_outline = lined Member (One (Fixed (at.Expression Member true Any))) (tail.Arguments false) 1

abbrev pub conditional_outline : Outline
conditional_outline = fronted Conditional (Three (Left ShortCircuit) (Fixed assignment_at) (slot.Tail Assignment Any))

-- `#x in a`
abbrev pub private_in_outline : Outline
private_in_outline = record (fronted Relational (Two (Fixed at.PrivateName) (slot.Tail Shift Any))) { needs_in = true }

abbrev pub power_outline : Outline
power_outline = fronted Exponentiation (Two (Lead Update) (Fixed (at.Expression Exponentiation true Any)))

-- a property's key
abbrev pub key_slot : Bool → Slot
key_slot b = Fixed (cond b assignment_at at.PropertyName)

abbrev pub call_link : Slot → Outline
call_link x = lined Primary (One x) (tail.Arguments false) 1

abbrev pub body_at : Bool → Slot
body_at r = Fixed (at.Statement r)

-- a further part of a chain, or its base
abbrev pub link_of : Bool → Slot
link_of b = cond b LeadSpine (Lead Call)

abbrev pub selected_if : Bool → Slot
selected_if b = Fixed (cond b whole_at at.IdentifierName)

abbrev pub class_slots : Bool → Bool → FixedSlots
class_slots false false = One (Fixed at.ClassBody)
class_slots false true = Two heritage_at (Fixed at.ClassBody)
class_slots true false = Two (Fixed at.Name) (Fixed at.ClassBody)
class_slots true true = Three (Fixed at.Name) heritage_at (Fixed at.ClassBody)

-- a `for` by whether it has a test and an update, behind what stands first or without it
abbrev pub for_rest : Bool → Bool → Slot → FixedSlots
for_rest false false b = One b
for_rest false true b = Two (Fixed whole_at) b
for_rest true false b = Two (Fixed whole_at) b
for_rest true true b = Three (Fixed whole_at) (Fixed whole_at) b

abbrev pub for_after_first : Slot → Bool → Bool → Slot → FixedSlots
for_after_first a false false b = Two a b
for_after_first a false true b = Three a (Fixed whole_at) b
for_after_first a true false b = Three a (Fixed whole_at) b
for_after_first a true true b = Four a (Fixed whole_at) (Fixed whole_at) b

abbrev pub for_slots : ForInit → Bool → Bool → Slot → FixedSlots
for_slots Nothing t u b = for_rest t u b
for_slots Declaration t u b = for_after_first (Fixed (at.ForDeclaration true)) t u b
for_slots Value t u b = for_after_first (Fixed (at.Expression Expression false Any)) t u b

abbrev pub try_slots : TryClauses → Bool → FixedSlots
try_slots Handler r = Two (Fixed (at.Block r)) (Fixed (at.CatchClause r))
try_slots Finalizer r = Two (Fixed (at.Block r)) (Fixed (at.Block r))
try_slots Both r = Three (Fixed (at.Block r)) (Fixed (at.CatchClause r)) (Fixed (at.Block r))

abbrev pub outline_of : Production → Outline
outline_of by.Leaf = leaf Primary
outline_of by.Array = list_outline (tail.Arguments true)
outline_of by.Object = opens_with_brace (list_outline tail.ObjectParts)
outline_of by.Template = list_outline (tail.Chunks true)
outline_of (by.Function b) = opens_with_word (lined Primary (cond b (One (Fixed at.Name)) Zero) (tail.Parameters (Fixed at.Body)) 1)
outline_of (by.Class b c) = opens_with_word (fronted Primary (class_slots b c))
outline_of (by.Arrow b) = lined Assignment Zero (tail.Parameters (cond b (slot.Tail Assignment Rattle.language.specs.declared.Start.TheVariants.NoBrace) (Fixed at.Body))) 0
outline_of by.Tagged = fronted Member (Two Callee (Fixed at.TaggedQuasi))
outline_of (by.Member b c) = fronted Member (Two (cond b (Fixed at.Super) Callee) (selected_if c))
outline_of (by.Call b) = lined Call (One (cond b (Fixed at.Super) (Lead Call))) (tail.Arguments false) 1
outline_of by.New = new_outline
outline_of by.PrivateMember = fronted Member (Two Callee (Fixed at.PrivateName))
outline_of by.Meta = fronted Member (Two (Fixed at.IdentifierName) (Fixed at.IdentifierName))
outline_of by.Import = fronted Call (One (Fixed assignment_at))
outline_of by.Chain = fronted LeftHandSide (One LeadSpine)
outline_of (by.Update b) = fronted Update (One (cond b (Fixed (at.Expression LeftHandSide true Any)) (Lead LeftHandSide)))
outline_of by.Unary = fronted Unary (One (Fixed (at.Expression Unary true Any)))
outline_of (by.Infix z q b) = record (fronted z (Two (Left z) (slot.Tail q Any))) { needs_in = b }
outline_of by.PrivateIn = private_in_outline
outline_of by.Exponentiation = power_outline
outline_of by.Conditional = conditional_outline
outline_of (by.Yield b) = fronted Assignment (cond b (One (slot.Tail Assignment Any)) Zero)
outline_of (by.Assignment b) = fronted Assignment (Two (cond b LeadPattern (Lead LeftHandSide)) (slot.Tail Assignment Any))
outline_of by.Sequence = lined Expression (One (Left Assignment)) (tail.Each (slot.Tail Assignment Any)) 1
outline_of (by.MemberLink b c) = fronted Primary (Two (link_of b) (selected_if c))
outline_of (by.PrivateMemberLink b) = fronted Primary (Two (link_of b) (Fixed at.PrivateName))
outline_of (by.CallLink b) = call_link (link_of b)
outline_of (by.Keyed b a) = fronted Primary (Two (key_slot b) (Fixed a))
outline_of (by.PrivateKeyed a) = fronted Primary (Two (Fixed at.PrivateName) (Fixed a))
outline_of (by.ShorthandProperty a) = fronted Primary (Two (Fixed at.ShorthandKey) (Fixed a))
outline_of (by.ArrayPattern b) = lined Primary Zero (tail.PatternElements b) 0
outline_of (by.ObjectPattern b) = opens_with_brace (lined Primary Zero (tail.PatternProperties b) 0)
outline_of (by.WithDefault a) = fronted Primary (Two (Fixed a) (Fixed assignment_at))
outline_of (by.Single a) = fronted Primary (One (Fixed a))
outline_of (by.Pair a b) = fronted Primary (Two (Fixed a) (Fixed b))
outline_of by.ClassBody = lined Primary Zero (tail.Each (Fixed at.Member)) 0
outline_of (by.Setter a) = fronted Primary (Two (Fixed a) (Fixed at.Body))
outline_of by.Method = lined Primary Zero (tail.Parameters (Fixed at.Body)) 1
outline_of (by.Items r) = lined Primary Zero (tail.Each (Fixed (at.StatementListItem r))) 0
outline_of (by.Prologue r) = lined Primary Zero (tail.Prologue r true) 0
outline_of by.Module = lined Primary Zero (tail.ModuleItems true) 0
outline_of by.ImportList = lined Primary Zero tail.Specifiers 0
outline_of by.ExportList = lined Primary Zero tail.Specifiers 1
outline_of (by.Declarators a) = lined Primary Zero (tail.Some (Fixed a)) 0
outline_of (by.Initialised a i) = fronted Primary (Two (Fixed a) (Fixed (at.Expression Assignment i Any)))
outline_of (by.If b r) = fronted Primary (cond b (Three (Fixed whole_at) (body_at r) (body_at r)) (Two (Fixed whole_at) (body_at r)))
outline_of (by.Labeled r) = fronted Primary (Two (Fixed at.Name) (body_at r))
outline_of (by.DoWhile r) = fronted Primary (Two (body_at r) (Fixed whole_at))
outline_of (by.While r) = fronted Primary (Two (Fixed whole_at) (body_at r))
outline_of (by.For a t u r) = fronted Primary (for_slots a t u (body_at r))
outline_of (by.ForInOf a b r) = fronted Primary (Three (Fixed a) (Fixed (cond b assignment_at whole_at)) (body_at r))
outline_of (by.Switch r) = lined Primary (One (Fixed whole_at)) (tail.Each (Fixed (at.SwitchCase r))) 1
outline_of (by.Case b r) = lined Primary (cond b (One (Fixed whole_at)) Zero) (tail.Each (Fixed (at.StatementListItem r))) 1
outline_of (by.Try g r) = fronted Primary (try_slots g r)
outline_of (by.Catch a r) = fronted Primary (Two (Fixed a) (Fixed (at.Block r)))

-- a list of parts stands behind the first ones
abbrev pub has_list : Production → Bool
has_list by.Array = true
has_list by.Object = true
has_list by.Template = true
has_list (by.Function a) = true
has_list (by.Arrow a) = true
has_list (by.Call a) = true
has_list by.New = true
has_list by.Sequence = true
has_list (by.CallLink a) = true
has_list (by.ArrayPattern a) = true
has_list (by.ObjectPattern a) = true
has_list by.ClassBody = true
has_list by.Method = true
has_list (by.Items a) = true
has_list (by.Prologue a) = true
has_list by.Module = true
has_list by.ImportList = true
has_list by.ExportList = true
has_list (by.Declarators a) = true
has_list (by.Switch a) = true
has_list (by.Case a b) = true
has_list _ = false
