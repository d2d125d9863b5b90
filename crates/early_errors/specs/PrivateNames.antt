-- Private names of classes (ECMA-262, 13th edition, 15.7.1).
use Rattle.std.specs.Prelude.{ℕ, Bool, true, false, not, cond, ◌&&◌, ◌||◌, List, [], ◌∷◌, ◌++◌, Option, Some, None}
use Rattle.std.specs.Str.{bytes_eq}
use Rattle.tree.specs.declared.kind.Kind.TheVariants.{ClassBody, PrivateIdentifier, UnaryExpression, MemberExpression, ChainExpression}
use Rattle.tree.specs.declared.kind.Form.{Form}
use Rattle.tree.specs.declared.kind.Form.TheVariants.{Get, Set}
use Rattle.tree.specs.Tree.{Tree, node, Parts, part, kind_of, text_of, flags_of, start_of, parts_of}
use Rattle.language.specs.FirstPart.{lead, others}
use Rattle.language.specs.Vocabulary.{is, is_private}
use Rattle.name_tables.specs.BoundNames.{each_part}
use Rattle.early_errors.specs.Names.{when}
use Rattle.early_errors.specs.Around.{Around}

-- an element that declares a private name: the name, its place, and whether it is static, a getter, a setter
pub record Declared : Type 0 where
  pub name : List ℕ
  pub at : ℕ
  pub is_static : Bool
  pub gets : Bool
  pub sets : Bool

abbrev pub is_get : Form → Bool
is_get Get = true
is_get _ = false

abbrev pub is_set : Form → Bool
is_set Set = true
is_set _ = false

abbrev pub declared : Tree → List Declared
declared tree = by_key (parts_of tree)
  where
    by_key : Parts → List Declared
    by_key (part k ps) = cond (is_private (kind_of k)) (record { name = text_of k; at = start_of k; is_static = (flags_of tree).is_static; gets = is_get (flags_of tree).form; sets = is_set (flags_of tree).form } ∷ []) []
    by_key _ = []

abbrev pub named_constructor : List Declared → List ℕ
named_constructor [] = []
named_constructor (x ∷ xs) = when (is x.name "constructor") (x.at ∷ []) ++ named_constructor xs

-- A private name `#constructor` (15.7.1): the key.
unfoldable pub private_constructor : Tree → List ℕ
private_constructor (node ClassBody text flags from to parts) = named_constructor (each_part declared parts)
private_constructor (node _ text flags from to parts) = []

abbrev pub of_name : List ℕ → List Declared → List Declared
of_name text [] = []
of_name text (x ∷ xs) = cond (bytes_eq text x.name) (x ∷ []) [] ++ of_name text xs

-- a getter and a setter, both static or neither
abbrev pub is_pair : List Declared → Bool
is_pair (x ∷ y ∷ []) = ((x.gets && y.sets) || (x.sets && y.gets)) && ((x.is_static && y.is_static) || not (x.is_static || y.is_static))
is_pair _ = false

abbrev pub is_any : List Declared → Bool
is_any [] = false
is_any (x ∷ xs) = true

-- those that aren't the first of their name, unless they are one of a pair
abbrev pub second_on : List Declared → List Declared → List Declared → List ℕ
second_on all before [] = []
second_on all before (x ∷ xs) = when (is_any (of_name x.name before) && not (is_pair (of_name x.name all))) (x.at ∷ []) ++ second_on all (x ∷ before) xs

-- A private name that is declared twice in a class, but for a getter with a setter (15.7.1): the second and later keys.
unfoldable pub duplicate_private_name : Tree → List ℕ
duplicate_private_name (node ClassBody text flags from to parts) = second_on (each_part declared parts) [] (each_part declared parts)
duplicate_private_name (node _ text flags from to parts) = []

abbrev pub holds_name : List (List ℕ) → List ℕ → Bool
holds_name [] text = false
holds_name (w ∷ ws) text = bytes_eq w text || holds_name ws text

-- A private name that no class body around declares (15.7.1, 16.1.1, 16.2.1.1): the name.
unfoldable pub undeclared_private_name : Around → Tree → List ℕ
undeclared_private_name z (node PrivateIdentifier text flags from to parts) = when (not (holds_name z.privates text)) (from ∷ [])
undeclared_private_name z (node _ text flags from to parts) = []

abbrev pub ends_in_private : Tree → Bool
ends_in_private (node MemberExpression text flags from to parts) = is_private (lead (others parts))
ends_in_private (node _ text flags from to parts) = false

abbrev pub ends_at_private : Option Tree → Bool
ends_at_private None = false
ends_at_private (Some t) = ends_in_private t

abbrev pub private_member : Tree → Bool
private_member (node ChainExpression text flags from to (part m ps)) = ends_in_private m
private_member tree = ends_in_private tree

abbrev pub private_operand : Parts → Bool
private_operand (part m ps) = private_member m
private_operand _ = false

-- `delete` of a private member, grouped or not (13.5.1.1): the unary expression.
unfoldable pub delete_of_private : Tree → List ℕ
delete_of_private (node UnaryExpression text flags from to parts) = when (is text "delete" && private_operand parts) (from ∷ [])
delete_of_private (node _ text flags from to parts) = []
