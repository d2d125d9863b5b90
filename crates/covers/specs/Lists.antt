-- Lists, as far as they are read: the punctuators round them, and what is seen of their items.
use Rattle.std.specs.Prelude.{ℕ, Bool, true, false, ◌&&◌, ◌||◌, nat_lt, if◌then◌else◌, List, Option, Some, None, codes}
use Rattle.language.specs.declared.Edge.TheVariants.{Closed}
use Rattle.covers.specs.declared.shape.CoverShape.{CoverShape}
use Rattle.covers.specs.declared.list.ListKind.{ListKind}
use Rattle.covers.specs.declared.list.ListKind.TheVariants as listed
use Rattle.covers.specs.declared.list.ListItem.{ListItem}
use Rattle.covers.specs.declared.list.ListSummary.{ListSummary}
use Rattle.covers.specs.Shapes.{empty, is_bound, is_either, initialized, unassigned, with_element, with_rest}

-- the text of the punctuator before the first item
abbrev pub opening : ListKind → Option (List ℕ)
opening listed.Arguments = Some (codes "(")
opening listed.Elements = Some (codes "[")
opening listed.Properties = Some (codes "{")
opening listed.ParenthesizedItems = Some (codes "(")
opening listed.AsyncArguments = Some (codes "(")
opening listed.Parameters = Some (codes "(")
opening listed.NoParameter = Some (codes "(")
opening listed.OneParameter = Some (codes "(")
opening listed.Template = None
opening (listed.Sequence has_in) = None
opening (listed.Declarators has_in) = None
opening (listed.Cases returns) = Some (codes "{")
opening listed.Members = Some (codes "{")

-- the text of the punctuator behind the last item
abbrev pub closing : ListKind → Option (List ℕ)
closing listed.Arguments = Some (codes ")")
closing listed.Elements = Some (codes "]")
closing listed.Properties = Some (codes "}")
closing listed.ParenthesizedItems = Some (codes ")")
closing listed.AsyncArguments = Some (codes ")")
closing listed.Parameters = Some (codes ")")
closing listed.NoParameter = Some (codes ")")
closing listed.OneParameter = Some (codes ")")
closing listed.Template = None
closing (listed.Sequence has_in) = None
closing (listed.Declarators has_in) = None
closing (listed.Cases returns) = Some (codes "}")
closing listed.Members = Some (codes "}")

-- Items of this shape, taken together, have a reading: an array's and an object's as expressions or as what is assigned to, those in
-- parentheses and behind `async` as expressions or as parameters, parameters as what is bound, all others as expressions.
abbrev pub reads : ListKind → CoverShape → Bool
reads listed.Elements s = is_either s
reads listed.Properties s = is_either s
reads listed.ParenthesizedItems s = s.is_expression || is_bound s
reads listed.AsyncArguments s = s.is_expression || is_bound s
reads listed.Parameters s = is_bound s
reads listed.OneParameter s = is_bound s
reads _ s = s.is_expression

-- what is seen of no items
abbrev pub nothing_seen : ListSummary
nothing_seen = record { shape = empty; last = empty; is_rest = false; has_comma = false; is_flagged = false; edge = Closed }

-- the shape of the items so far with one more, behind `...` or not; behind `...`, what parentheses hold is no expression (12.2.10)
abbrev pub shape_with : Bool → ListKind → CoverShape → CoverShape → CoverShape
shape_with false l s p = with_element s p
shape_with true listed.ParenthesizedItems s p = initialized (with_rest s p)
shape_with true _ s p = with_rest s p

-- with one more item
abbrev pub seen_with : ListSummary → ListItem → ListKind → ListSummary
seen_with s i l = record {
  shape = shape_with i.spreads l s.shape i.shape;
  last = i.shape;
  is_rest = i.spreads;
  has_comma = false;
  is_flagged = s.is_flagged || i.is_flagged;
  edge = i.edge;
}

-- with a hole, behind which no rest is the last
abbrev pub with_hole : ListSummary → ListSummary
with_hole s = record s { is_rest = false }

-- with a comma behind the last item, or without; a pattern has none behind its rest (12.15.5)
abbrev pub separated : ListSummary → Bool → ListSummary
separated s has_comma = record s { shape = if has_comma && s.is_rest then unassigned s.shape else s.shape; has_comma = has_comma }

-- nothing may follow the last of so many items, no comma either
abbrev pub is_ended : ListKind → ListSummary → ℕ → Bool
is_ended listed.ParenthesizedItems s count = s.is_rest
is_ended listed.Parameters s count = s.is_rest
is_ended listed.NoParameter s count = true
is_ended listed.OneParameter s count = nat_lt 0 count
is_ended listed.Template s count = s.is_flagged
is_ended _ s count = false

-- it is one too many: a second `default` (13.12), or the rest of a setter (14.3)
abbrev pub is_surplus : ListKind → ListSummary → ListItem → Bool
is_surplus (listed.Cases returns) s i = s.is_flagged && i.is_flagged
is_surplus listed.OneParameter s i = i.spreads
is_surplus _ s i = false

-- the items seen have a reading with this one, and it isn't one too many
abbrev pub takes : ListKind → ListSummary → ListItem → Bool
takes l s i = if is_surplus l s i then false else reads l (shape_with i.spreads l s.shape i.shape)
