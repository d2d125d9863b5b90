-- How a node is spelled at a position, whatever symbol, In and start it has there.
use Rattle.std.specs.Prelude.{Bool, true, false, cond, List, Option, Some, None}
use Rattle.tree.specs.declared.node.Node.{Node}
use Rattle.tree.specs.Node.{node_tree}
use Rattle.tree.specs.Tree.{Tree, kind_of, parts_of}
use Rattle.tree.specs.declared.kind.Kind.{Kind}
use Rattle.tree.specs.declared.kind.Kind.TheVariants.{ChainExpression}
use Rattle.language.specs.declared.Rank.{Rank}
use Rattle.language.specs.declared.Start.{Start}
use Rattle.language.specs.Pieces.{Role, expr, chain_part, pattern}
use Rattle.language.specs.Grammar.{ways}
use Rattle.spelling_table.specs.declared.position.Position.{Position}
use Rattle.spelling_table.specs.declared.position.Position.TheVariants as at
use Rattle.spelling_table.specs.declared.position.Slot.TheVariants.{LeadSpine}
use Rattle.spelling_table.specs.declared.outline.FixedSlots.{FixedSlots}
use Rattle.spelling_table.specs.declared.outline.FixedSlots.TheVariants.{One, Two}
use Rattle.spelling_table.specs.declared.production.Production.{Production}
use Rattle.spelling_table.specs.declared.outline.Outline.{Outline}
use Rattle.spelling_table.specs.Outlines.{parts_after}
use Rattle.spelling_table.specs.Productions.{outline_of}
use Rattle.spelling_table.specs.Requirements.{fits_outline}
use Rattle.spellings.specs.Spelled.{settled_roles, Verdict}
use Rattle.spellings.specs.Remaining.{PartSlots, left}

-- the position with this symbol, In and start, as far as it has them
abbrev pub with_own : Rank → Bool → Start → Role → Role
with_own y i f (expr z j x) = expr y i f
with_own y i f (chain_part x) = chain_part f
with_own y i f (pattern b x) = pattern b f
with_own y i f a = a

-- how a node is spelled: its outline, the slots of its parts, and whether its first part is part of a chain with a `?.` in it or below it
pub record NodeSpelling : Type 0 where
  pub outline : Outline
  pub slots : PartSlots
  pub holds_chain : Bool

-- the positions of the parts at a position: none where the spelling doesn't fit
abbrev pub spelled_roles : Role → Option NodeSpelling → Option (List Role)
spelled_roles a None = None
spelled_roles a (Some x) = cond (fits_outline a x.outline) (Some (settled_roles a (left x.slots))) None

-- these are the ways at each symbol, In and start
abbrev pub IsSpelledWherever : Role → Tree → Option NodeSpelling → Type 0
IsSpelledWherever a n r = (y : Rank) (i : Bool) (f : Start) → Verdict (ways (with_own y i f a) n) (spelled_roles (with_own y i f a) r)

abbrev pub spine_first : FixedSlots → Bool
spine_first (One LeadSpine) = true
spine_first (Two LeadSpine b) = true
spine_first _ = false

-- what is spelled at a position, of this kind and with these first positions, is above parts of a chain
abbrev pub chain_above : Position → Kind → FixedSlots → Bool
chain_above (at.Expression y i f) ChainExpression x = true
chain_above (at.ChainPart f) k x = spine_first x
chain_above _ k x = false

-- how a node with this production is spelled at a position
abbrev pub spelled_by : Node → Position → Production → NodeSpelling
spelled_by n a p = record {
  outline = outline_of p;
  slots = record { front = (outline_of p).front; tail = (outline_of p).tail; parts = parts_after (outline_of p).from (parts_of (node_tree n)) };
  holds_chain = chain_above a (kind_of (node_tree n)) (outline_of p).front;
}
