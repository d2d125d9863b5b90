-- `super`, `new.target` and the members of classes.
use Rattle.std.specs.Prelude.{ℕ, Bool, false, not, ◌&&◌, ◌||◌, List, [], ◌∷◌}
use Rattle.tree.specs.declared.kind.Kind.TheVariants.{PropertyDefinition, ClassBody, MethodDefinition, MemberExpression, CallExpression, MetaProperty}
use Rattle.tree.specs.Uses.{is_init}
use Rattle.tree.specs.Tree.{Tree, node, Parts, part, text_of, kind_of, flags_of, start_of, parts_of}
use Rattle.language.specs.Vocabulary.{is, is_super, is_private}
use Prim.Native.String.{String}
use Rattle.language.specs.Expressions.{value_form}
use Rattle.early_errors.specs.Keys.{key_value}
use Rattle.name_tables.specs.BoundNames.{each_part}
use Rattle.early_errors.specs.Names.{when}
use Rattle.early_errors.specs.Around.{Around, is_constructor, is_accessor}

abbrev pub super_places : Parts → List ℕ
super_places (part tree rest) = when (is_super (kind_of tree)) (start_of tree ∷ [])
super_places _ = []

-- A `super` property outside methods, getters, setters and constructors (14.1.2, 15.1.1): the `super`.
unfoldable pub super_property_outside_method : Around → Tree → List ℕ
super_property_outside_method z (node MemberExpression text flags from to parts) = when (not z.super_property) (super_places parts)
super_property_outside_method z (node _ text flags from to parts) = []

-- A `super` call outside the constructor of a class with `extends` (12.2.6.1, 14.1.2, 14.6.1, 15.1.1): the `super`.
unfoldable pub super_call_outside_constructor : Around → Tree → List ℕ
super_call_outside_constructor z (node CallExpression text flags from to parts) = when (not z.super_call) (super_places parts)
super_call_outside_constructor z (node _ text flags from to parts) = []

abbrev pub key_places : Parts → List ℕ
key_places (part tree rest) = start_of tree ∷ []
key_places _ = []

abbrev pub has_key : Parts → (Tree → Bool) → Bool
has_key (part tree rest) p = p tree
has_key _ p = false

-- `new.target` outside every function that isn't an arrow (15.1.1): its start.
unfoldable pub new_target_outside_function : Around → Tree → List ℕ
new_target_outside_function z (node MetaProperty text flags from to parts) = when (has_key parts (λ n. is (text_of n) "new") && not z.new_target) (from ∷ [])
new_target_outside_function z (node _ text flags from to parts) = []

-- a key that isn't private has the value
abbrev pub named : Tree → String → Bool
named n s = not (is_private (kind_of n)) && is (key_value n) s

abbrev pub constructor_places : Tree → List ℕ
constructor_places tree = when (is_constructor (flags_of tree).form) (key_places (parts_of tree))

abbrev pub after_first : List ℕ → List ℕ
after_first [] = []
after_first (x ∷ xs) = xs

-- A second or later constructor of one class (14.6.1): its key.
unfoldable pub duplicate_constructor : Tree → List ℕ
duplicate_constructor (node ClassBody text flags from to parts) = after_first (each_part constructor_places parts)
duplicate_constructor (node _ text flags from to parts) = []

-- A class's getter or setter that isn't static, whose key has the value `constructor` (14.6.1): its key.
unfoldable pub special_constructor : Tree → List ℕ
special_constructor (node MethodDefinition text flags from to parts) =
    when (((is_accessor flags.form || not (is_init (value_form parts))) && not flags.is_static) && (not flags.computed && has_key parts (λ n. named n "constructor"))) (key_places parts)
special_constructor (node _ text flags from to parts) = []

-- A static member whose key has the value `prototype` (14.6.1): its key.
unfoldable pub static_prototype : Tree → List ℕ
static_prototype (node MethodDefinition text flags from to parts) =
    when (flags.is_static && (not flags.computed && has_key parts (λ n. named n "prototype"))) (key_places parts)
static_prototype (node PropertyDefinition text flags from to parts) =
    when (flags.is_static && (not flags.computed && has_key parts (λ n. named n "prototype"))) (key_places parts)
static_prototype (node _ text flags from to parts) = []
