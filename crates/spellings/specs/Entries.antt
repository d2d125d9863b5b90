-- What stands at a place among a node's parts.
use Rattle.std.specs.Prelude.{ℕ, zero, suc, Bool, true, false, not, ◌&&◌, nat_le, List, [], Option, Some, None}
use Rattle.tree.specs.Tree.{Tree, Parts, none, part, gap, kind_of, text_of}
use Rattle.language.specs.FirstPart.{begins_with_brace, first_begins_with_brace, lead, others}
use Rattle.language.specs.Edges.{ends_in_if}
use Rattle.language.specs.Expressions.{first_has_optional, value_form}
use Rattle.language.specs.Statements.{defaults}
use Rattle.spellings.specs.declared.parts.PartAt.{PartAt}
use Rattle.spellings.specs.declared.parts.PartAt.TheVariants.{Past, Gap, Part}
use Rattle.spellings.specs.Expressions.{Around}
use Rattle.tree.specs.declared.kind.Kind.{Kind}
use Rattle.tree.specs.declared.kind.Kind.TheVariants.{Literal, ImportDefaultSpecifier, ImportNamespaceSpecifier, ImportSpecifier, ExportSpecifier}

abbrev pub entry_at : Parts → ℕ → PartAt
entry_at none i = Past
entry_at (part n ps) zero = Part (kind_of n)
entry_at (part n ps) (suc i) = entry_at ps i
entry_at (gap ps) zero = Gap
entry_at (gap ps) (suc i) = entry_at ps i

-- the text of the part at a place, empty where none stands
abbrev pub text_at : Parts → ℕ → List ℕ
text_at none i = []
text_at (part n ps) zero = text_of n
text_at (part n ps) (suc i) = text_at ps i
text_at (gap ps) zero = []
text_at (gap ps) (suc i) = text_at ps i

abbrev pub is_gap : PartAt → Bool
is_gap Gap = true
is_gap _ = false

-- the part at a place ends in an `if` without `else`
abbrev pub dangles_at : Parts → ℕ → Bool
dangles_at none i = false
dangles_at (part n ps) zero = ends_in_if n
dangles_at (part n ps) (suc i) = dangles_at ps i
dangles_at (gap ps) zero = false
dangles_at (gap ps) (suc i) = dangles_at ps i

abbrev pub is_import_specifier : Kind → Bool
is_import_specifier ImportSpecifier = true
is_import_specifier _ = false

abbrev pub is_export_specifier : Kind → Bool
is_export_specifier ExportSpecifier = true
is_export_specifier _ = false

-- specifiers of an import, and one part behind them
abbrev pub specifiers_fit : Parts → Bool
specifiers_fit none = false
specifiers_fit (part n none) = true
specifiers_fit (part n (part m ps)) = is_import_specifier (kind_of n) && specifiers_fit (part m ps)
specifiers_fit (part n (gap ps)) = false
specifiers_fit (gap ps) = false

-- behind an import's default name, by the kind of what follows
abbrev pub behind_default_fits : Kind → Parts → Bool
behind_default_fits ImportNamespaceSpecifier (part n (part s none)) = true
behind_default_fits ImportSpecifier ps = specifiers_fit ps
behind_default_fits Literal (part s none) = true
behind_default_fits _ ps = false

-- the parts of an import are in order, by the kind of the first (16.2.2 of the 13th edition)
abbrev pub import_fits : Kind → Parts → Bool
import_fits Literal (part s none) = true
import_fits ImportNamespaceSpecifier (part n (part s none)) = true
import_fits ImportSpecifier ps = specifiers_fit ps
import_fits ImportDefaultSpecifier (part n rest) = behind_default_fits (lead rest) rest
import_fits _ ps = false

-- the specifiers of an export, then its source or a gap (16.2.3)
abbrev pub export_fits : Parts → Bool
export_fits none = false
export_fits (gap none) = true
export_fits (gap ps) = false
export_fits (part s none) = true
export_fits (part n ps) = is_export_specifier (kind_of n) && export_fits ps

-- a part that may be missing begins with `{`
abbrev pub part_begins_with_brace : Option Tree → Bool
part_begins_with_brace None = false
part_begins_with_brace (Some n) = begins_with_brace n

abbrev pub around : Parts → Around
around ps = record {
  first = entry_at ps 0;
  second = entry_at ps 1;
  third = entry_at ps 2;
  fourth = entry_at ps 3;
  first_text = text_at ps 0;
  second_text = text_at ps 1;
  chained = first_has_optional ps;
  dangling = dangles_at ps 1;
  defaults_twice = not (nat_le (defaults (others ps)) 1);
  second_form = value_form ps;
  braced = first_begins_with_brace ps;
  imports_fit = import_fits (lead ps) ps;
  exports_fit = export_fits (others ps);
}
