-- Outlines: what they say of a node's positions.
use Rattle.std.specs.Prelude.{ℕ, zero, suc, Bool, true, false, not, cond, ◌&&◌, ◌||◌, List, [], ◌∷◌, Option, Some, None}
use Rattle.language.specs.declared.Rank.{Rank}
use Rattle.language.specs.declared.Rank.TheVariants.{Expression, Assignment}
use Rattle.language.specs.declared.Start.{Start}
use Rattle.language.specs.declared.Start.TheVariants.{Any, NoBrace}
use Rattle.language.specs.declared.Start.TheVariants as start
use Rattle.tree.specs.declared.kind.Kind.{Kind}
use Rattle.tree.specs.declared.kind.Kind.TheVariants as kind
use Rattle.tree.specs.Tree.{Tree, Parts, none, part, gap, kind_of, flags_of}
use Rattle.language.specs.FirstPart.{others}
use Rattle.language.specs.Vocabulary.{is_target, is_pattern, is_identifier, is_rest, is_spread}
use Rattle.language.specs.Statements.{is_module_item}
use Rattle.language.specs.Pieces as piece
use Rattle.spelling_table.specs.declared.position.Position.{Position}
use Rattle.spelling_table.specs.declared.position.Position.TheVariants as at
use Rattle.spelling_table.specs.declared.position.Slot.{Slot}
use Rattle.spelling_table.specs.declared.position.Slot.TheVariants.{Fixed, Left, Lead, Tail, Callee, LeadSpine, LeadPattern}
use Rattle.spelling_table.specs.declared.outline.FirstToken.{FirstToken}
use Rattle.spelling_table.specs.declared.outline.FirstToken.TheVariants.{Brace, FunctionOrClass, Other}
use Rattle.spelling_table.specs.declared.outline.FixedSlots.{FixedSlots}
use Rattle.spelling_table.specs.declared.outline.FixedSlots.TheVariants.{Zero, One, Two, Three, Four}
use Rattle.spelling_table.specs.declared.outline.ListSlots as tails
use Rattle.spelling_table.specs.declared.outline.ListSlots.TheVariants as tail
use Rattle.spelling_table.specs.declared.outline.Outline.{Outline}

-- the definitions' position
abbrev pub role_of : Position → piece.Role
role_of (at.Expression y i f) = piece.expr y i f
role_of (at.ChainPart f) = piece.chain_part f
role_of at.Name = piece.name
role_of at.IdentifierName = piece.word
role_of at.PropertyName = piece.key
role_of at.ShorthandKey = piece.shorthand_key
role_of at.Super = piece.base
role_of at.DirectiveString = piece.directive_string
role_of at.TaggedQuasi = piece.tagged_quasi
role_of (at.TemplateElement a b) = piece.template_element a b
role_of at.Spread = piece.spread
role_of at.Property = piece.property
role_of (at.Pattern b f) = piece.pattern b f
role_of (at.PatternProperty b) = piece.pattern_property b
role_of (at.Element b) = piece.element b
role_of (at.Rest b o) = piece.rest b o
role_of (at.Method x) = piece.method x
role_of at.Body = piece.body
role_of (at.Statement r) = piece.statement r
role_of (at.StatementListItem r) = piece.item r
role_of (at.PrologueItem r) = piece.opening r
role_of (at.Block r) = piece.block r
role_of (at.ForDeclaration b) = piece.head b
role_of (at.Declarator i b) = piece.declarator i b
role_of (at.SwitchCase r) = piece.switch_case r
role_of (at.CatchClause r) = piece.handler r
role_of at.ClassBody = piece.class_body
role_of at.Member = piece.member
role_of at.PrivateName = piece.private_name
role_of at.ModuleItem = piece.module_item
role_of at.Specifier = piece.specifier
role_of at.DefaultItem = piece.default_item
role_of at.Script = piece.script

abbrev pub slot_of : Slot → piece.Slot
slot_of (Fixed a) = piece.fixed (role_of a)
slot_of (Left y) = piece.left y
slot_of (Lead y) = piece.lead y
slot_of (Tail y f) = piece.tail y f
slot_of Callee = piece.callee
slot_of LeadSpine = piece.lead_chain
slot_of LeadPattern = piece.lead_pattern

abbrev pub assignment_at : Position
assignment_at = at.Expression Assignment true Any

abbrev pub whole_at : Position
whole_at = at.Expression Expression true Any

-- of a name or binding pattern; of a target or assignment pattern
abbrev pub bound_at : Bool → Kind → Option Position
bound_at true k = cond (is_pattern k) (Some (at.Pattern true Any)) (cond (is_identifier k) (Some at.Name) None)
bound_at false k = cond (is_pattern k) (Some (at.Pattern false Any)) (cond (is_target k) (Some (at.Expression Rattle.language.specs.declared.Rank.TheVariants.LeftHandSide true Any)) None)

abbrev pub default_at : Bool → Kind → Option Position
default_at b kind.AssignmentPattern = Some (at.Element b)
default_at b k = bound_at b k

abbrev pub element_at : Bool → Kind → Option Position
element_at b k = cond (is_rest k) (Some (at.Rest b false)) (default_at b k)

abbrev pub argument_at : Kind → Position
argument_at k = cond (is_spread k) at.Spread assignment_at

abbrev pub object_part_at : Kind → Option Position
object_part_at kind.SpreadElement = Some at.Spread
object_part_at kind.Property = Some at.Property
object_part_at _ = None

abbrev pub pattern_part_at : Bool → Kind → Option Position
pattern_part_at b kind.RestElement = Some (at.Rest b true)
pattern_part_at b kind.Property = Some (at.PatternProperty b)
pattern_part_at b _ = None

-- a part of a list at this position, which goes on so; behind a rest nothing stands
abbrev pub listed_at : Option Position → Kind → Bool → tails.ListSlots → Option (Slot × tails.ListSlots)
listed_at None k last t = None
listed_at (Some a) k last t = cond (last || not (is_rest k)) (Some (Fixed a, t)) None

-- a part of a template, whether it is the last; a substitution
abbrev pub chunk_at : tails.ListSlots → Bool → Slot × tails.ListSlots
chunk_at (tail.Chunks b) last = (Fixed (at.TemplateElement b last), cond last tail.Nothing tail.Substitution)
chunk_at _ last = (Fixed whole_at, tail.Chunks false)

-- an item, whether all before it are directives, and it too
abbrev pub item_at : Bool → Bool → Bool → Slot × tails.ListSlots
item_at r b d = (Fixed (cond b (at.PrologueItem r) (at.StatementListItem r)), tail.Prologue r (b && d))

-- a part of an import or export behind what stands first: the last is the source
abbrev pub specifier_at : Bool → Position
specifier_at last = cond last at.DirectiveString at.Specifier

-- an item of a module, of this kind, whether all before it are directives, and it too
abbrev pub module_item_at : Bool → Kind → Bool → Slot × tails.ListSlots
module_item_at b k d = (Fixed (cond (is_module_item k) at.ModuleItem (cond b (at.PrologueItem false) (at.StatementListItem false))), tail.ModuleItems (b && d))

-- the next part of a tail, of this kind and whether it is a directive, with so many parts behind it: whether none and whether one
abbrev pub tail_at : tails.ListSlots → Kind → Bool → Bool → Bool → Option (Slot × tails.ListSlots)
tail_at tail.Nothing k d last before_last = None
tail_at (tail.Each x) k d last before_last = Some (x, tail.Each x)
tail_at (tail.Some x) k d last before_last = Some (x, tail.Each x)
tail_at (tail.Arguments h) k d last before_last = listed_at (Some (argument_at k)) k last (tail.Arguments h)
tail_at tail.ObjectParts k d last before_last = listed_at (object_part_at k) k last tail.ObjectParts
tail_at (tail.PatternElements b) k d last before_last = listed_at (element_at b k) k last (tail.PatternElements b)
tail_at (tail.PatternProperties b) k d last before_last = listed_at (pattern_part_at b k) k last (tail.PatternProperties b)
tail_at (tail.Parameters x) k d last before_last = cond last (Some (x, tail.Nothing)) (listed_at (element_at true k) k before_last (tail.Parameters x))
tail_at (tail.Chunks b) k d last before_last = Some (chunk_at (tail.Chunks b) last)
tail_at tail.Substitution k d last before_last = Some (chunk_at tail.Substitution last)
tail_at (tail.Prologue r b) k d last before_last = Some (item_at r b d)
tail_at (tail.ModuleItems b) k d last before_last = Some (module_item_at b k d)
tail_at tail.Specifiers k d last before_last = Some (Fixed (specifier_at last), tail.Specifiers)

-- a gap may be next
abbrev pub skips_gap : tails.ListSlots → Bool
skips_gap tail.Nothing = true
skips_gap (tail.Arguments h) = h
skips_gap (tail.PatternElements b) = true
skips_gap tail.Specifiers = true
skips_gap _ = false

-- the parts may end here
abbrev pub may_end : tails.ListSlots → Bool
may_end (tail.Some x) = false
may_end (tail.Parameters x) = false
may_end (tail.Chunks b) = false
may_end tail.Substitution = false
may_end _ = true

abbrev pub is_before_last : Parts → Bool
is_before_last ps = not (piece.is_none ps) && piece.is_none (others ps)

abbrev pub is_over : tails.ListSlots → Bool
is_over tail.Nothing = true
is_over _ = false

-- each part is taken, whatever it is
abbrev pub takes_all : tails.ListSlots → Bool
takes_all (tail.Each x) = true
takes_all (tail.Prologue r b) = true
takes_all (tail.ModuleItems b) = true
takes_all _ = false

abbrev pub is_arguments : tails.ListSlots → Bool
is_arguments (tail.Arguments h) = true
is_arguments _ = false

abbrev pub part_of_tail : tails.ListSlots → Tree → Parts → Option (Slot × tails.ListSlots)
part_of_tail t n ps = tail_at t (kind_of n) (flags_of n).directive (piece.is_none ps) (is_before_last ps)

abbrev pub before : piece.Slot → Option (List piece.Slot) → Option (List piece.Slot)
before x None = None
before x (Some xs) = Some (x ∷ xs)

abbrev pub going : (tails.ListSlots → Option (List piece.Slot)) → Option (Slot × tails.ListSlots) → Option (List piece.Slot)
going f None = None
going f (Some x) = before (slot_of x.0) (f x.1)

-- the positions of a tail over these parts: none where it doesn't go over them
abbrev pub tail_slots : tails.ListSlots → Parts → Option (List piece.Slot)
tail_slots t none = cond (may_end t) (Some []) None
tail_slots t (gap ps) = cond (is_over t) (Some []) (cond (skips_gap t) (tail_slots t ps) None)
tail_slots t (part n ps) = cond (is_over t) (Some []) (going (λ u. tail_slots u ps) (part_of_tail t n ps))

abbrev pub front_before : FixedSlots → Option (List piece.Slot) → Option (List piece.Slot)
front_before Zero xs = xs
front_before (One a) xs = before (slot_of a) xs
front_before (Two a b) xs = before (slot_of a) (before (slot_of b) xs)
front_before (Three a b c) xs = before (slot_of a) (before (slot_of b) (before (slot_of c) xs))
front_before (Four a b c d) xs = before (slot_of a) (before (slot_of b) (before (slot_of c) (before (slot_of d) xs)))

-- the parts from a place on
abbrev pub parts_after : ℕ → Parts → Parts
parts_after zero ps = ps
parts_after (suc i) ps = parts_after i (others ps)

-- the positions that an outline gives
abbrev pub outline_slots : Outline → Parts → Option (List piece.Slot)
outline_slots x ps = front_before x.front (tail_slots x.tail (parts_after x.from ps))

-- what opens so may stand at the start
abbrev pub opens_at : Start → FirstToken → Bool
opens_at start.Any o = true
opens_at start.NoBrace Brace = false
opens_at start.Statement Brace = false
opens_at start.Statement FunctionOrClass = false
opens_at _ o = true

abbrev pub lined : Rank → FixedSlots → tails.ListSlots → ℕ → Outline
lined z f t n = record { rank = z; needs_in = false; opens = Other; front = f; tail = t; from = n }

abbrev pub fronted : Rank → FixedSlots → Outline
fronted z f = lined z f tail.Nothing 0

abbrev pub leaf : Rank → Outline
leaf z = fronted z Zero
