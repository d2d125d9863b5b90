-- The lists of the table name what the tails do.
use Rattle.std.proofs.Common.{◌≡◌, Bool, true, false, cond, List, [], ◌∷◌, ◌++◌, refl, ap, ap₂, ◌∙◌}
use Rattle.std.specs.Prelude.{Option, Some, None, ◌&&◌, ◌||◌, not, codes}
use Rattle.tree.specs.declared.kind.Kind.{Kind}
use Rattle.tree.specs.declared.kind.Kind.TheVariants as kind
use Rattle.tree.specs.Tree.{Tree, node, Parts, none, part, gap, kind_of}
use Rattle.language.specs.declared.Rank.TheVariants.{LeftHandSide, Expression, Assignment}
use Rattle.language.specs.declared.Start.TheVariants.{Any}
use Rattle.language.specs.Vocabulary.{is_rest, is_spread, is_pattern, is_identifier, is_target}
use Rattle.language.specs.Pieces as piece
use Rattle.language.specs.Pieces.{Piece, Slot, sub, never, may, absent, lay, fixed, put, put_at, sign, sp, nothing, is_none, separator, listed, elements, argument, pattern_element, parameters, bound, with_default}
use Rattle.language.specs.Expressions.{template_elements, object_part, object_pattern_part, sequence}
use Rattle.language.specs.Statements.{lines, prologue, declarators, member_lines, is_directive, is_module_item, module_prologue}
use Rattle.spelling_table.specs.declared.position.Position.{Position}
use Rattle.spelling_table.specs.declared.position.Slot as own
use Rattle.spelling_table.specs.declared.position.Slot.TheVariants as at
use Rattle.spelling_table.specs.declared.position.Position.TheVariants as position
use Rattle.spelling_table.specs.declared.outline.ListSlots.{ListSlots}
use Rattle.spelling_table.specs.declared.outline.ListSlots.TheVariants as tail
use Rattle.spelling_table.specs.Outlines.{role_of, slot_of, listed_at, tail_slots, going, before, argument_at, object_part_at, element_at, pattern_part_at, bound_at, default_at}
use Rattle.spellings.proofs.SlotPositions.{named, joined, named-append}

-- the piece of a position that may be none
abbrev pub piece_at : Option Position → Piece
piece_at None = never
piece_at (Some a) = put (role_of a)

-- Positions of a list's parts

argument_piece : (n : Tree) → argument n ≡ piece_at (Some (argument_at (kind_of n)))
argument_piece n = of (is_spread (kind_of n))
  where
    of : (b : Bool) → put (cond b piece.spread (piece.expr Assignment true Any)) ≡ put (role_of (cond b position.Spread (position.Expression Assignment true Any)))
    of true = refl
    of false = refl

object_piece : (n : Tree) → object_part n ≡ piece_at (object_part_at (kind_of n))
object_piece (node kind.SpreadElement w g s e ps) = refl
object_piece (node kind.Property w g s e ps) = refl
object_piece (node _ w g s e ps) = refl

pattern_part_piece : (b : Bool) (n : Tree) → object_pattern_part b n ≡ piece_at (pattern_part_at b (kind_of n))
pattern_part_piece b (node kind.RestElement w g s e ps) = refl
pattern_part_piece b (node kind.Property w g s e ps) = refl
pattern_part_piece b (node _ w g s e ps) = refl

pub bound_piece : (b : Bool) (k : Kind) → put_at (bound b k) ≡ piece_at (bound_at b k)
bound_piece true k = of (is_pattern k) (is_identifier k)
  where
    of : (x y : Bool) → put_at (cond x (Some (piece.pattern true Any)) (cond y (Some piece.name) None)) ≡ piece_at (cond x (Some (position.Pattern true Any)) (cond y (Some position.Name) None))
    of true y = refl
    of false true = refl
    of false false = refl
bound_piece false k = of (is_pattern k) (is_target k)
  where
    of : (x y : Bool) → put_at (cond x (Some (piece.pattern false Any)) (cond y (Some (piece.expr LeftHandSide true Any)) None)) ≡ piece_at (cond x (Some (position.Pattern false Any)) (cond y (Some (position.Expression LeftHandSide true Any)) None))
    of true y = refl
    of false true = refl
    of false false = refl

pub default_piece : (b : Bool) (k : Kind) → put_at (with_default b k) ≡ piece_at (default_at b k)
default_piece b kind.AssignmentPattern = refl
default_piece b k = bound_piece b k

element_piece : (b : Bool) (n : Tree) → pattern_element b n ≡ piece_at (element_at b (kind_of n))
element_piece b n = of (is_rest (kind_of n))
  where
    of : (x : Bool) → put_at (cond x (Some (piece.rest b false)) (with_default b (kind_of n))) ≡ piece_at (cond x (Some (position.Rest b false)) (default_at b (kind_of n)))
    of true = refl
    of false = default_piece b (kind_of n)

-- Separators

separated : (k : Kind) (l : Bool) (qs : List Piece) → named (separator k l ++ qs) ≡ cond (l || not (is_rest k)) (named qs) None
separated k true qs = of (is_rest k)
  where
    of : (r : Bool) → named (cond r [] (may (codes ",") ∷ []) ++ qs) ≡ named qs
    of true = refl
    of false = refl
separated k false qs = of (is_rest k)
  where
    of : (r : Bool) → named (cond r nothing (sign "," ∷ sp ∷ []) ++ qs) ≡ cond (not r) (named qs) None
    of true = refl
    of false = refl

-- an element and its separator, before what names the rest
one_listed : (p : Piece) (a : Option Position) (k : Kind) (l : Bool) (t : ListSlots) (f : ListSlots → Option (List Slot)) (qs : List Piece) → p ≡ piece_at a → named qs ≡ f t →
    named ((p ∷ separator k l) ++ qs) ≡ going f (listed_at a k l t)
one_listed p None k l t f qs e h = ap (λ x. named ((x ∷ separator k l) ++ qs)) e
one_listed p (Some a) k l t f qs e h =
    ap (λ x. named ((x ∷ separator k l) ++ qs)) e ∙ ap (before (fixed (role_of a))) (separated k l qs ∙ ap (λ x. cond (l || not (is_rest k)) x None) h) ∙ of (l || not (is_rest k))
  where
    of : (b : Bool) → before (fixed (role_of a)) (cond b (f t) None) ≡ going f (cond b (Some (at.Fixed a, t)) None)
    of true = refl
    of false = refl

pub arguments-named : (ps : Parts) → named (listed argument ps) ≡ tail_slots (tail.Arguments false) ps
arguments-named none = refl
arguments-named (gap ps) = refl
arguments-named (part n ps) = one_listed (argument n) (Some (argument_at (kind_of n))) (kind_of n) (is_none ps) (tail.Arguments false) (λ t. tail_slots t ps) (listed argument ps) (argument_piece n) (arguments-named ps)

pub object-named : (ps : Parts) → named (listed object_part ps) ≡ tail_slots tail.ObjectParts ps
object-named none = refl
object-named (gap ps) = refl
object-named (part n ps) = one_listed (object_part n) (object_part_at (kind_of n)) (kind_of n) (is_none ps) tail.ObjectParts (λ t. tail_slots t ps) (listed object_part ps) (object_piece n) (object-named ps)

pub pattern-named : (b : Bool) (ps : Parts) → named (listed (object_pattern_part b) ps) ≡ tail_slots (tail.PatternProperties b) ps
pattern-named b none = refl
pattern-named b (gap ps) = refl
pattern-named b (part n ps) = one_listed (object_pattern_part b n) (pattern_part_at b (kind_of n)) (kind_of n) (is_none ps) (tail.PatternProperties b) (λ t. tail_slots t ps) (listed (object_pattern_part b) ps) (pattern_part_piece b n) (pattern-named b ps)

hole : (l : Bool) (qs : List Piece) → named ((absent ∷ sign "," ∷ cond l [] (sp ∷ [])) ++ qs) ≡ named qs
hole true qs = refl
hole false qs = refl

pub elements-named : (ps : Parts) → named (elements argument ps) ≡ tail_slots (tail.Arguments true) ps
elements-named none = refl
elements-named (gap ps) = hole (is_none ps) (elements argument ps) ∙ elements-named ps
elements-named (part n ps) = one_listed (argument n) (Some (argument_at (kind_of n))) (kind_of n) (is_none ps) (tail.Arguments true) (λ t. tail_slots t ps) (elements argument ps) (argument_piece n) (elements-named ps)

pub patterns-named : (b : Bool) (ps : Parts) → named (elements (pattern_element b) ps) ≡ tail_slots (tail.PatternElements b) ps
patterns-named b none = refl
patterns-named b (gap ps) = hole (is_none ps) (elements (pattern_element b) ps) ∙ patterns-named b ps
patterns-named b (part n ps) = one_listed (pattern_element b n) (element_at b (kind_of n)) (kind_of n) (is_none ps) (tail.PatternElements b) (λ t. tail_slots t ps) (elements (pattern_element b) ps) (element_piece b n) (patterns-named b ps)

-- a gap is no parameter
gap_behind : (a : Option Position) (k : Kind) (l : Bool) (x : own.Slot) (ps : Parts) → None ≡ going (λ t. tail_slots t (gap ps)) (listed_at a k l (tail.Parameters x))
gap_behind None k l x ps = refl
gap_behind (Some a) k l x ps = of (l || not (is_rest k))
  where
    of : (b : Bool) → None ≡ going (λ t. tail_slots t (gap ps)) (cond b (Some (at.Fixed a, tail.Parameters x)) None)
    of true = refl
    of false = refl

-- parameters, and the last part
pub parameters-named : (x : own.Slot) (after : List Piece) → named after ≡ Some (slot_of x ∷ []) → (ps : Parts) → named (parameters after ps) ≡ tail_slots (tail.Parameters x) ps
parameters-named x after h none = refl
parameters-named x after h (gap ps) = refl
parameters-named x after h (part n none) = h
parameters-named x after h (part n (part m ps)) = one_listed (pattern_element true n) (element_at true (kind_of n)) (kind_of n) (is_none ps) (tail.Parameters x) (λ t. tail_slots t (part m ps)) (parameters after (part m ps)) (element_piece true n) (parameters-named x after h (part m ps))
parameters-named x after h (part n (gap ps)) = gap_behind (element_at true (kind_of n)) (kind_of n) (is_none ps) x ps

pub chunks-named : (b : Bool) (ps : Parts) → named (template_elements b ps) ≡ tail_slots (tail.Chunks b) ps
chunks-named b none = refl
chunks-named b (gap ps) = refl
chunks-named b (part q none) = refl
chunks-named b (part q (gap ps)) = refl
chunks-named b (part q (part e ps)) = ap (λ x. before (fixed (piece.template_element b false)) (before (fixed (piece.expr Expression true Any)) x)) (chunks-named false ps)

pub sequence-named : (ps : Parts) → named (sequence ps) ≡ tail_slots (tail.Each (at.Tail Assignment Any)) ps
sequence-named none = refl
sequence-named (gap ps) = refl
sequence-named (part n ps) = ap (before (piece.tail Assignment Any)) (sequence-named ps)

pub lines-named : (a : Position) (ps : Parts) → named (lines (role_of a) ps) ≡ tail_slots (tail.Each (at.Fixed a)) ps
lines-named a none = refl
lines-named a (gap ps) = refl
lines-named a (part n ps) = ap (before (fixed (role_of a))) (lines-named a ps)

pub members-named : (ps : Parts) → named (member_lines ps) ≡ tail_slots (tail.Each (at.Fixed position.Member)) ps
members-named none = refl
members-named (gap ps) = refl
members-named (part n ps) = ap (before (fixed piece.member)) (members-named ps)

declared-more : (a : Position) (n : Tree) (ps : Parts) → named (declarators (role_of a) (part n ps)) ≡ before (fixed (role_of a)) (tail_slots (tail.Each (at.Fixed a)) ps)
declared-more a n none = refl
declared-more a n (gap ps) = refl
declared-more a n (part m ps) = ap (before (fixed (role_of a))) (declared-more a m ps)

pub declarators-named : (a : Position) (ps : Parts) → named (declarators (role_of a) ps) ≡ tail_slots (tail.Some (at.Fixed a)) ps
declarators-named a none = refl
declarators-named a (gap ps) = refl
declarators-named a (part n ps) = declared-more a n ps

pub prologue-named : (r b : Bool) (x y : List Piece) (ps : Parts) → named x ≡ Some [] → named y ≡ Some [] → named (prologue r b x y ps) ≡ tail_slots (tail.Prologue r b) ps
prologue-named r b x y none e h = refl
prologue-named r b x y (gap ps) e h = refl
prologue-named r b x y (part n ps) e h =
    named-append (x ++ put (cond b (piece.opening r) (piece.item r)) ∷ y) (prologue r (b && is_directive n) x y ps) ∙
    ap (λ u. joined u (named (prologue r (b && is_directive n) x y ps))) (named-append x (put (cond b (piece.opening r) (piece.item r)) ∷ y) ∙ ap₂ (λ u v. joined u (before (fixed (cond b (piece.opening r) (piece.item r))) v)) e h) ∙
    ap (before (fixed (cond b (piece.opening r) (piece.item r)))) (prologue-named r (b && is_directive n) x y ps e h) ∙
    of b
  where
    of : (c : Bool) → before (fixed (cond c (piece.opening r) (piece.item r))) (tail_slots (tail.Prologue r (b && is_directive n)) ps) ≡ before (fixed (role_of (cond c (position.PrologueItem r) (position.StatementListItem r)))) (tail_slots (tail.Prologue r (b && is_directive n)) ps)
    of true = refl
    of false = refl

-- a module's items
pub modules-named : (b : Bool) (ps : Parts) → named (module_prologue b ps) ≡ tail_slots (tail.ModuleItems b) ps
modules-named b none = refl
modules-named b (gap ps) = refl
modules-named b (part n ps) = ap (before (fixed (cond (is_module_item (kind_of n)) piece.module_item (cond b (piece.opening false) (piece.item false))))) (modules-named (b && is_directive n) ps) ∙ of (is_module_item (kind_of n)) b
  where
    of : (c d : Bool) → before (fixed (cond c piece.module_item (cond d (piece.opening false) (piece.item false)))) (tail_slots (tail.ModuleItems (b && is_directive n)) ps) ≡
        before (fixed (role_of (cond c position.ModuleItem (cond d (position.PrologueItem false) (position.StatementListItem false))))) (tail_slots (tail.ModuleItems (b && is_directive n)) ps)
    of true d = refl
    of false true = refl
    of false false = refl
