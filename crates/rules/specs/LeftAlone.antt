-- Names that `no-unused-vars` leaves alone for where they stand: by the offsets of their identifiers.
use Rattle.std.specs.Prelude.{ℕ, Bool, true, false, cond, List, [], ◌∷◌, ◌++◌, Option, Some, None, nat_eq}
use Rattle.std.specs.List.{list_any}
use Rattle.tree.specs.declared.kind.Kind.TheVariants.{Identifier, MethodDefinition, ObjectPattern, Property, RestElement}
use Rattle.tree.specs.declared.kind.Form.{Form}
use Rattle.tree.specs.declared.kind.Form.TheVariants.{Set}
use Rattle.tree.specs.Fields.{last_part}
use Rattle.tree.specs.Flat.{post_order}
use Rattle.tree.specs.Tree.{Tree, node, part_at, parts_of, start_of}
use Rattle.name_tables.specs.BoundNames.{bound_names, each_part}
use Rattle.rules.specs.declared.left_alone.LeftAlone.{LeftAlone}
use Rattle.rules.specs.declared.left_alone.LeftAlone.TheVariants.{SetterParams, RestSiblings}
use Rattle.rules.specs.declared.rule_option.CheckedParams.{CheckedParams}
use Rattle.rules.specs.declared.rule_option.CheckedParams.TheVariants.{NoParams}
use Rattle.rules.specs.declared.rule_option.RuleOptions.{RuleOptions}

-- what a part has that may be missing
abbrev pub of_part : (Tree → List ℕ) → Option Tree → List ℕ
of_part f None = []
of_part f (Some tree) = f tree

-- what the parameter of a setter's function binds: behind its name
abbrev pub first_param : Tree → List ℕ
first_param tree = of_part (bound_names start_of) (part_at (parts_of tree) 1)

-- that of a function which is the value of a method or a property, if that is a setter
abbrev pub params_of : Form → Option Tree → List ℕ
params_of Set function = of_part first_param function
params_of _ function = []

-- the parameter of a setter, which has to have one (14.3)
abbrev pub setter_params : Tree → List ℕ
setter_params (node MethodDefinition text flags from to parts) = params_of flags.form (last_part parts)
setter_params (node Property text flags from to parts) = params_of flags.form (last_part parts)
setter_params (node _ text flags from to parts) = []

abbrev pub name_start : Tree → List ℕ
name_start (node Identifier text flags from to parts) = from ∷ []
name_start (node _ text flags from to parts) = []

-- a property's value that is a name, without a default
abbrev pub sibling : Tree → List ℕ
sibling (node Property text flags from to parts) = of_part name_start (last_part parts)
sibling (node _ text flags from to parts) = []

abbrev pub is_rest : Option Tree → Bool
is_rest (Some (node RestElement text flags from to parts)) = true
is_rest _ = false

-- the properties beside a rest element in an object's pattern (13.3.3): that leaves them out of the object
abbrev pub rest_siblings : Tree → List ℕ
rest_siblings (node ObjectPattern text flags from to parts) = cond (is_rest (last_part parts)) (each_part sibling parts) []
rest_siblings (node _ text flags from to parts) = []

abbrev pub starts_of : LeftAlone → Tree → List ℕ
starts_of SetterParams tree = setter_params tree
starts_of RestSiblings tree = rest_siblings tree

-- those of all these nodes
abbrev pub all_starts : LeftAlone → List Tree → List ℕ
all_starts kind [] = []
all_starts kind (t ∷ ts) = starts_of kind t ++ all_starts kind ts

abbrev pub looks_at_params : CheckedParams → Bool
looks_at_params NoParams = false
looks_at_params _ = true

-- those of a script that options leave alone
abbrev pub starts_left_alone : RuleOptions → Tree → List ℕ
starts_left_alone options tree =
    cond (looks_at_params options.params) (all_starts SetterParams (post_order tree)) []
    ++ cond options.ignore_rest_siblings (all_starts RestSiblings (post_order tree)) []

abbrev pub is_left_alone : RuleOptions → Tree → ℕ → Bool
is_left_alone options tree at = list_any (nat_eq at) (starts_left_alone options tree)
