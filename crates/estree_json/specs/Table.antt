-- What a line of the table of members makes of an object.
use Rattle.std.specs.Prelude.{◌≡◌, ℕ, zero, suc, ◌-◌, Bool, true, List, [], ◌∷◌, length, take, drop, Option, Some, None, codes}
use Rattle.tree.specs.declared.kind.Kind.{Kind}
use Rattle.serde_json.specs.Data.{Data, null, boolean, number, unsigned, string, array, Members, no_members, member, put}
use Rattle.serde_json.specs.View.{items_of}
use Rattle.estree_json.specs.declared.table.Member.{Member}
use Rattle.estree_json.specs.declared.table.Member.TheVariants as line
use Rattle.estree_json.specs.declared.table.FlagSource.{FlagSource}
use Rattle.estree_json.specs.declared.table.FlagSource.TheVariants.{Always, Async, Computed, Expression, Generator, Method, Optional, Prefix, Shorthand, Static}
use Rattle.tree.specs.Kinds.{type_name}
use Rattle.tree.specs.Uses.{is_generator, is_async}
use Rattle.estree_json.specs.Texts.{literal_value, literal_regex, template_value}
use Rattle.estree_json.specs.Fields.{Label, fields, property_kind, method_kind, is_method, is_shorthand, source_type, directive}
use Rattle.tree.specs.Tree.{Tree, kind_of, start_of, stop_of, parts_of}
use Rattle.estree_json.specs.Json.{first_or_null, odd_ones, begun, with_fields, label_of, parts_json}

-- a node, as its lines see it: its parts are their values
pub record Subject : Type 0 where
  pub is_last : Bool
  pub kind : Kind
  pub label : Label
  pub start : ℕ
  pub stop : ℕ
  pub values : List Data

abbrev pub subject_of : Bool → Tree → Subject
subject_of is_last t = record { is_last = is_last; kind = kind_of t; label = label_of t; start = start_of t; stop = stop_of t; values = parts_json (parts_of t) }

abbrev pub flag_of : FlagSource → Label → Bool
flag_of Always l = true
flag_of Async l = is_async l.flags.form
flag_of Computed l = l.flags.computed
flag_of Expression l = l.flags.expression
flag_of Generator l = is_generator l.flags.form
flag_of Method l = is_method l.flags.form
flag_of Optional l = l.flags.optional
flag_of Prefix l = l.flags.prefix
flag_of Shorthand l = is_shorthand l.flags.form
flag_of Static l = l.flags.is_static

-- the values from one on
abbrev pub from : ℕ → List Data → List Data
from zero ds = ds
from (suc n) ds = drop 1 (from n ds)

-- a line's key
abbrev pub key_of : Member → List ℕ
key_of line.Type = codes "type"
key_of line.Start = codes "start"
key_of line.End = codes "end"
key_of (line.Part name skip) = name.now
key_of (line.List name skip behind) = name.now
key_of (line.PartFromEnd name skip behind) = name.now
key_of (line.EveryOther name skip) = name.now
key_of (line.Null name) = name.now
key_of (line.Text name) = name.now
key_of (line.Boolean name flag) = name.now
key_of line.SourceType = codes "sourceType"
key_of line.PropertyKind = codes "kind"
key_of line.MethodKind = codes "kind"
key_of line.Directive = codes "directive"
key_of line.LiteralValue = codes "value"
key_of line.LiteralRegex = codes "regex"
key_of line.TemplateValue = codes "value"
key_of line.Tail = codes "tail"

-- its value, none where the node has no such member
abbrev pub value_of : Subject → Member → Option Data
value_of x line.Type = Some (string (type_name x.kind))
value_of x line.Start = Some (number (unsigned x.start))
value_of x line.End = Some (number (unsigned x.stop))
value_of x (line.Part name skip) = Some (first_or_null (from skip x.values))
value_of x (line.List name skip behind) = Some (array (items_of (take (length (from skip x.values) - behind) (from skip x.values))))
value_of x (line.PartFromEnd name skip behind) = Some (first_or_null (drop (length (from skip x.values) - behind) (from skip x.values)))
value_of x (line.EveryOther name skip) = Some (array (items_of (odd_ones (from skip x.values))))
value_of x (line.Null name) = Some null
value_of x (line.Text name) = Some (string x.label.text)
value_of x (line.Boolean name flag) = Some (boolean (flag_of flag x.label))
value_of x line.SourceType = Some (string (source_type x.label.text))
value_of x line.PropertyKind = Some (string (property_kind x.label.flags.form))
value_of x line.MethodKind = Some (string (method_kind x.label.flags.form))
value_of x line.Directive = directive x.label
value_of x line.LiteralValue = literal_value x.label.text
value_of x line.LiteralRegex = literal_regex x.label.text
value_of x line.TemplateValue = Some (template_value x.label.text)
value_of x line.Tail = Some (boolean x.is_last)

-- before the members of the lines behind it
abbrev pub option_member : List ℕ → Option Data → Members → Members
option_member name None ms = ms
option_member name (Some d) ms = member name d ms

abbrev pub by_line : Subject → Member → Members → Members
by_line x l ms = option_member (key_of l) (value_of x l) ms

abbrev pub by_lines : Subject → List Member → Members
by_lines x [] = no_members
by_lines x (l ∷ ls) = by_line x l (by_lines x ls)

-- and put to the members that are there, by its key
abbrev pub option_put : List ℕ → Option Data → Members → Members
option_put name None ms = ms
option_put name (Some d) ms = put name d ms

abbrev pub put_line : Subject → Member → Members → Members
put_line x l ms = option_put (key_of l) (value_of x l) ms

abbrev pub put_lines : Subject → List Member → Members → Members
put_lines x [] ms = ms
put_lines x (l ∷ ls) ms = put_lines x ls (put_line x l ms)

-- The lines of a kind: one after the other they are the members that the definition gives its nodes, and so is what they put into an
-- object
abbrev pub InOrder : Kind → List Member → Type 0
InOrder kind lines =
    (b : Bool) (l : Label) (start stop : ℕ) (values : List Data)
    → by_lines (record { is_last = b; kind = kind; label = l; start = start; stop = stop; values = values }) lines ≡ (with_fields (fields b kind l) (begun kind start stop values)).members

abbrev pub PutsAll : Kind → List Member → Type 0
PutsAll kind lines =
    (b : Bool) (l : Label) (start stop : ℕ) (values : List Data)
    → put_lines (record { is_last = b; kind = kind; label = l; start = start; stop = stop; values = values }) lines no_members ≡ (with_fields (fields b kind l) (begun kind start stop values)).members
