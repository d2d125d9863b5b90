-- What is compared in a node, part by part: properties, members, cases.
use Rattle.std.specs.Prelude.{ℕ, Bool, true, false, not, ◌&&◌, ◌||◌, cond, List, [], ◌∷◌, Option, Some, None}
use Rattle.tree.specs.declared.kind.Kind.{Kind}
use Rattle.tree.specs.declared.kind.Kind.TheVariants.{MethodDefinition, Property, PropertyDefinition, SwitchCase}
use Rattle.tree.specs.declared.kind.Flags.{Flags}
use Rattle.tree.specs.declared.kind.Form.{Form}
use Rattle.tree.specs.declared.kind.Form.TheVariants.{Constructor, Get, Init, Set}
use Rattle.tree.specs.Tree.{Tree, node, flags_of, kind_of, part_at, parts_of, start_of, stop_of}
use Rattle.language.specs.Vocabulary.{is}
use Rattle.repetition_rules.specs.Entries.{Entry}
use Rattle.repetition_rules.specs.Keys.{key_label, side}
use Rattle.repetition_rules.specs.Written.{has_code, written}

abbrev pub is_init : Form → Bool
is_init Init = true
is_init _ = false

abbrev pub is_getter : Form → Bool
is_getter Get = true
is_getter _ = false

abbrev pub is_setter : Form → Bool
is_setter Set = true
is_setter _ = false

abbrev pub is_constructor : Form → Bool
is_constructor Constructor = true
is_constructor _ = false

abbrev pub is_member : Kind → Bool
is_member MethodDefinition = true
is_member PropertyDefinition = true
is_member _ = false

-- A node under its label: a setter says nothing of what is read, a getter nothing of what is done when something is written, all others
-- say both.
abbrev pub keyed : Option (List ℕ) → Tree → List Entry
keyed None tree = []
keyed (Some label) tree =
    record { label = label; is_read = not (is_setter (flags_of tree).form); is_written = not (is_getter (flags_of tree).form); start = start_of tree; stop = stop_of tree } ∷ []

-- `__proto__: a` sets the prototype and makes no property (B.3.1)
abbrev pub sets_prototype : Flags → List ℕ → Bool
sets_prototype flags label = not flags.computed && (is_init flags.form && is label "=__proto__")

abbrev pub kept : Flags → Option (List ℕ) → Option (List ℕ)
kept flags None = None
kept flags (Some label) = cond (sets_prototype flags label) None (Some label)

-- the key of a node, in a side
abbrev pub label_of : List ℕ → Tree → Option (List ℕ)
label_of before tree = key_label before (flags_of tree).computed (part_at (parts_of tree) 0)

-- a property of an object
abbrev pub property : Tree → List Entry
property (node Property text flags from to parts) = keyed (kept flags (key_label [] flags.computed (part_at parts 0))) (node Property text flags from to parts)
property (node _ text flags from to parts) = []

-- a member of a class, but for its constructor
abbrev pub member : Tree → List Entry
member tree = cond (not (is_member (kind_of tree)) || is_constructor (flags_of tree).form) [] (keyed (label_of (side (flags_of tree).is_static) tree) tree)

-- what a test is compared by: none where there is no test, or a function or class in it
abbrev pub test_label : Option Tree → Option (List ℕ)
test_label None = None
test_label (Some tree) = cond (has_code tree) None (Some (written tree))

-- a case of a `switch`
abbrev pub case : Tree → List Entry
case (node SwitchCase text flags from to parts) = keyed (test_label (part_at parts 0)) (node SwitchCase text flags from to parts)
case (node _ text flags from to parts) = []
