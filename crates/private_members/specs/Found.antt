-- What is reported: private members of classes that nothing uses, each at its key.
use Rattle.std.specs.Prelude.{ℕ, Bool, true, false, cond, ◌&&◌, List, [], ◌∷◌, ◌++◌, Option, Some, None, codes}
use Rattle.std.specs.List.{list_any}
use Rattle.std.specs.Str.{bytes_eq}
use Rattle.tree.specs.declared.kind.Form.{Form}
use Rattle.tree.specs.declared.kind.Form.TheVariants.{Get, Set}
use Rattle.tree.specs.declared.kind.Kind.{Kind}
use Rattle.tree.specs.Tree.{Tree, node, Parts, none, part, gap, flags_of, text_of, start_of, stop_of}
use Rattle.name_tables.specs.BoundNames.{each_part}
use Rattle.rule_words.specs.Reports.{Report}
use Rattle.private_members.specs.declared.standing.Standing.TheVariants.{Other}
use Rattle.private_members.specs.Uses.{Use, is_class_body, private_key, uses_in}

-- what settings and reports call the rule
abbrev pub called : List ℕ
called = codes "no-unused-private-class-members"

abbrev pub says : List ℕ
says = codes "private member is never used"

abbrev pub is_accessor : Form → Bool
is_accessor Get = true
is_accessor Set = true
is_accessor _ = false

abbrev pub is_named : List Use → List ℕ → Bool
is_named us name = list_any (λ u. bytes_eq name u.name) us

abbrev pub is_read : List Use → List ℕ → Bool
is_read us name = list_any (λ u. u.is_read && bytes_eq name u.name) us

-- a getter or a setter is used where it is named: what is written runs it
abbrev pub is_used : List Use → Form → List ℕ → Bool
is_used us form name = cond (is_accessor form) (is_named us name) (is_read us name)

abbrev pub report_unless : Bool → Tree → List Report
report_unless used key = cond used [] (record { start = start_of key; stop = stop_of key; rule = called; text = says } ∷ [])

abbrev pub of_key : (Form → List ℕ → Bool) → Form → Option Tree → List Report
of_key used form None = []
of_key used form (Some key) = report_unless (used form (text_of key)) key

abbrev pub of_member : (Form → List ℕ → Bool) → Tree → List Report
of_member used member = of_key used (flags_of member).form (private_key member)

-- of the members of a class, in which these uses stand
abbrev pub of_class : Kind → Parts → List Use → List Report
of_class kind parts us = cond (is_class_body kind) (each_part (of_member (is_used us)) parts) []

unfoldable mutual
  -- of all classes in a node, inner ones first
  pub found : Tree → List Report
  found (node kind text flags from to parts) = found_in parts ++ of_class kind parts (uses_in Other kind text 0 parts)

  pub found_in : Parts → List Report
  found_in none = []
  found_in (part tree rest) = found tree ++ found_in rest
  found_in (gap rest) = found_in rest
