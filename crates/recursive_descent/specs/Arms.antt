-- Which functions of the parser go on with a list.
use Rattle.std.specs.Prelude.{Bool, true, false}
use Rattle.covers.specs.declared.list.ListKind.{ListKind}
use Rattle.covers.specs.declared.list.ListKind.TheVariants as listed

-- lists whose items are more than expressions, alone or behind `...`
abbrev pub is_apart : ListKind → Bool
is_apart listed.Properties = true
is_apart listed.Members = true
is_apart listed.Template = true
is_apart (listed.Declarators i) = true
is_apart (listed.Cases r) = true
is_apart (listed.Sequence i) = true
is_apart _ = false
