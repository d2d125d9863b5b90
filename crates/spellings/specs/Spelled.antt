-- The positions that a node's parts have, where an outline fits the node's own.
use Rattle.std.specs.Prelude.{◌≡◌, ℕ, ◌||◌, Bool, true, not, cond, ◌&&◌, List, [], Option, Some, None, map, option_map}
use Rattle.tree.specs.Tree.{Tree, Parts, parts_of}
use Rattle.tree.specs.declared.kind.Kind.{Kind}
use Rattle.tree.specs.declared.kind.Flags.{Flags}
use Rattle.tree.specs.Uses.{is_lean, has_text, is_empty, within, used_flags, is_init}
use Rattle.language.specs.Pieces.{Role, Slot, PieceOf, settle}
use Rattle.language.specs.Grammar.{own_rank, own_in, own_start}
use Rattle.language.specs.RowPositions.{first_roles}
use Rattle.language.specs.Layout.{some_way}
use Rattle.spelling_table.specs.declared.outline.Outline.{Outline}
use Rattle.spelling_table.specs.Outlines.{outline_slots}
use Rattle.spelling_table.specs.Requirements.{fits_outline}

-- a node of this kind, text and flags has none but those that its kind uses
abbrev pub lean_label : Kind → List ℕ → Flags → Bool
lean_label k w g = (has_text k || is_empty w) && within g (used_flags k g)

-- no flag is set
abbrev pub has_no_flags : Flags → Bool
has_no_flags g = not g.computed && (not g.optional && (not g.is_static && (not g.prefix && (not g.directive && (not g.expression && is_init g.form)))))

abbrev pub settled_roles : Role → List Slot → List Role
settled_roles a xs = map (settle (own_rank a) (own_in a) (own_start a)) xs

abbrev pub outlined_roles : Role → Parts → Option Outline → Option (List Role)
outlined_roles a ps None = None
outlined_roles a ps (Some x) = cond (fits_outline a x) (option_map (settled_roles a) (outline_slots x ps)) None

-- the positions of a node's parts by the outline of its spelling
abbrev pub roles_by : Role → Tree → Option Outline → Option (List Role)
roles_by a n o = cond (is_lean n) (outlined_roles a (parts_of n) o) None

-- these are the positions of the parts by the first of the ways; none where there is no way
abbrev pub Verdict : List (List (PieceOf Role)) → Option (List Role) → Type 0
Verdict xs None = xs ≡ []
Verdict xs (Some rs) = (some_way xs ≡ true) × (first_roles xs ≡ rs)
