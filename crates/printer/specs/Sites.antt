-- What the layout asks of positions, and of the parts of a node.
use Rattle.std.specs.Prelude.{◌≡◌, ℕ, suc, ◌-◌, ◌%◌, Bool, true, false, cond, ◌&&◌, nat_eq, List, [], ◌∷◌}
use Rattle.tree.specs.declared.kind.Kind.{Kind}
use Rattle.tree.specs.declared.kind.Kind.TheVariants as kind
use Rattle.tree.specs.Tree.{Tree, Parts, none, part, gap, kind_of, parts_of, part_count}
use Rattle.tree.specs.HeldRows.{use_below}
use Rattle.tree.specs.declared.node_use.NodeUse.{NodeUse}
use Rattle.row_laws.specs.Agreements.{agrees}
use Rattle.language.specs.Pieces as piece
use Rattle.language.specs.Pieces.{Role, Slot, is_none}
use Rattle.language.specs.FirstPart.{lead, others}
use Rattle.language.specs.Statements.{is_declaration}
use Rattle.printer.specs.declared.site.Site.{Site}
use Rattle.printer.specs.declared.site.Site.TheVariants as site
use Rattle.printer.specs.declared.part_sites.PartSites.{PartSites}
use Rattle.printer.specs.declared.part_sites.PartSites.TheVariants.{AllPlain, ShorthandPair, KeyAndMethod, LoopHead, TemplateParts}

-- whether a part of a template is the first, and the last
abbrev pub chunk_site : Bool → Bool → Site
chunk_site true true = site.OnlyTemplateElement
chunk_site true false = site.FirstTemplateElement
chunk_site false true = site.LastTemplateElement
chunk_site false false = site.InnerTemplateElement

-- what the layout asks of a position for the sake of what is around it
abbrev pub site_of : Role → Site
site_of piece.shorthand_key = site.ShorthandKey
site_of (piece.template_element a b) = chunk_site a b
site_of (piece.method x) = site.Method
site_of (piece.head b) = site.ForDeclaration
site_of _ = site.Plain

-- the site of a position in a spelling of the table
abbrev pub slot_site : Slot → Site
slot_site (piece.fixed a) = site_of a
slot_site _ = site.Plain

abbrev pub is_plain : Site → Bool
is_plain site.Plain = true
is_plain _ = false

-- a name or a literal without parts, which is written as its own text
abbrev pub is_word : Site → Kind → Parts → Bool
is_word x kind.Identifier ps = is_none ps && is_plain x
is_word x kind.Literal ps = is_none ps && is_plain x
is_word x _ ps = false

-- Parts

-- what may be a declaration, in the head of a `for`
abbrev pub head_site : Kind → Site
head_site k = cond (is_declaration k) site.ForDeclaration site.Plain

-- the elements of a template stand at its even places
abbrev pub is_even : ℕ → Bool
is_even i = nat_eq (i % 2) 0

-- of the part at a place, by its kind and whether it is the last
abbrev pub site_in : PartSites → ℕ → Kind → Bool → Site
site_in AllPlain i k last = site.Plain
site_in ShorthandPair i k last = cond (nat_eq i 0) site.ShorthandKey site.Plain
site_in KeyAndMethod i k last = cond (nat_eq i 0) site.Plain site.Method
site_in LoopHead i k last = cond (nat_eq i 0) (head_site k) site.Plain
site_in TemplateParts i k last = cond (is_even i) (chunk_site (nat_eq i 0) last) site.Plain

-- of the first of these parts, which stand from a place on
abbrev pub site_at : PartSites → ℕ → Parts → Site
site_at p i ps = site_in p i (lead ps) (is_none (others ps))

-- parts of a node that stands so stand as these positions ask
abbrev pub UsesAgree : NodeUse → Tree → Parts → List Role → Type 0
UsesAgree st m none xs = Unit {0}
UsesAgree st m (gap ps) xs = UsesAgree st m ps xs
UsesAgree st m (part n ps) [] = Unit {0}
UsesAgree st m (part n ps) (a ∷ xs) = (agrees (use_below st m (part_count (parts_of m) - suc (part_count ps)) n) a (kind_of n) ≡ true) × UsesAgree st m ps xs
