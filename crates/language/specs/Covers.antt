-- Covers: what is read before it is known whether it is an expression or a pattern (ECMA-262 12.2.6, 12.2.10, 12.15.5, 14.2). The tree of a
-- cover is that of the expression; a name with a default in an object, which is in no expression (CoverInitializedName, 12.2.6), is a
-- property of the form Shorthand whose value is the assignment.
use Rattle.std.specs.Prelude.{◌≡◌, ℕ, Bool, true, false, cond, List, [], Option, Some, None}
use Rattle.tree.specs.declared.kind.Kind.{Kind}
use Rattle.tree.specs.declared.kind.Kind.TheVariants.{Identifier, MemberExpression, ArrayExpression, ObjectExpression, AssignmentExpression, SpreadElement, Property, ArrayPattern, ObjectPattern, AssignmentPattern, RestElement}
use Rattle.tree.specs.declared.kind.Flags.{Flags}
use Rattle.tree.specs.declared.kind.Form.{Form}
use Rattle.tree.specs.declared.kind.Form.TheVariants.{Init, Shorthand}
use Rattle.tree.specs.declared.kind.Pair.{Pair}
use Rattle.tree.specs.Tree.{Tree, node, Parts, none, part, gap, kind_of}
use Rattle.language.specs.declared.Rank.TheVariants.{Assignment}
use Rattle.language.specs.declared.Start.TheVariants.{Any}
use Rattle.language.specs.Vocabulary.{is, is_rest, is_spread}
use Rattle.language.specs.FirstPart.{lead}
use Rattle.language.specs.Pieces.{Role, expr, spread, property, pattern_property, rest, with_default}
use Rattle.language.specs.Token.{Token}
use Rattle.language.specs.Grammar.{ways}
use Rattle.language.specs.Derivation.{Spells}

-- what a cover may be: the expression itself, or the pattern that it covers; the flag says that the pattern binds names
pub data Reading : Type 0 where
  as_expression : Reading
  as_pattern : Bool → Reading

-- The shape of a cover: whether it is an expression; a pattern or target, with a default or without; and one that binds names.
abbrev pub shaped : Bool → Bool → Bool → Reading → Bool
shaped e x y as_expression = e
shaped e x y (as_pattern b) = cond b y x

abbrev pub with_parts : Kind → List ℕ → Flags → ℕ → ℕ → Option Parts → Option Tree
with_parts kind text flags s e None = None
with_parts kind text flags s e (Some ps) = Some (node kind text flags s e ps)

abbrev pub and_then : Option Tree → Option Parts → Option Parts
and_then None qs = None
and_then (Some n) None = None
and_then (Some n) (Some ps) = Some (part n ps)

abbrev pub and_gap : Option Parts → Option Parts
and_gap None = None
and_gap (Some ps) = Some (gap ps)

-- a value of its own or a name's, with a default or without: no method
abbrev pub has_value : Form → Bool
has_value Init = true
has_value Shorthand = true
has_value _ = false

abbrev pub is_default : Kind → Bool
is_default AssignmentExpression = true
is_default _ = false

-- The refinements of 12.15.5 and 14.2.1: an array, an object, their properties and rests by their parts; the assignment is the default of its
-- target; names and members are themselves.
abbrev pub refined : Kind → List ℕ → Flags → ℕ → ℕ → Parts → Option Parts → Option Parts → Option Tree
refined Identifier text flags s e parts qs vs = Some (node Identifier text flags s e parts)
refined MemberExpression text flags s e parts qs vs = cond flags.optional None (Some (node MemberExpression text flags s e parts))
refined ArrayExpression text flags s e parts qs vs = with_parts ArrayPattern text flags s e qs
refined ObjectExpression text flags s e parts qs vs = with_parts ObjectPattern text flags s e qs
refined AssignmentExpression text flags s e parts qs vs = cond (is text "=") (Some (node AssignmentPattern [] flags s e parts)) None
refined SpreadElement text flags s e parts qs vs = cond (is_default (lead parts)) None (with_parts RestElement text flags s e qs)
refined Property text flags s e parts qs vs = cond (has_value flags.form) (with_parts Property text flags s e vs) None
refined _ text flags s e parts qs vs = None

unfoldable mutual
  -- The tree of the pattern that an expression's tokens spell, or an element's, a property's or a rest's; none where no pattern has such
  -- tokens. Whether a rest is the last part, and which parts stand in parentheses, isn't said by the tree.
  pub pattern_of : Tree → Option Tree
  pattern_of (node kind text flags from to parts) = refined kind text flags from to parts (patterns_of parts) (values_of parts)

  pub patterns_of : Parts → Option Parts
  patterns_of none = Some none
  patterns_of (part tree others) = and_then (pattern_of tree) (patterns_of others)
  patterns_of (gap others) = and_gap (patterns_of others)

  -- of a property: behind its key
  pub values_of : Parts → Option Parts
  values_of none = None
  values_of (part tree others) = and_then (Some tree) (patterns_of others)
  values_of (gap others) = None

-- the tree, and the parts, of a reading
abbrev pub tree_as : Reading → Tree → Option Tree
tree_as as_expression tree = Some tree
tree_as (as_pattern b) tree = pattern_of tree

-- the position of an element of an array or its pattern, and of an argument or a parameter
abbrev pub element_as : Reading → Kind → Option Role
element_as as_expression kind = Some (cond (is_spread kind) spread (expr Assignment true Any))
element_as (as_pattern b) kind = cond (is_rest kind) (Some (rest b false)) (with_default b kind)

-- the position of what stands in an object or its pattern
abbrev pub property_as : Reading → Kind → Option Role
property_as as_expression SpreadElement = Some spread
property_as as_expression Property = Some property
property_as as_expression _ = None
property_as (as_pattern b) RestElement = Some (rest b true)
property_as (as_pattern b) Property = Some (pattern_property b)
property_as (as_pattern b) _ = None

module _ (S : Type 0) (Next : S → Token → S → Type 0) (behind : S → Token) (Ends : S → Type 0) where
  -- What a list promises of an item, at the position that its kind has: it is the only one that ends where the list can go on; there is none;
  -- none within the limits.
  pub record FoundItem (r : Kind → Option Role) (o : ℕ) (s e : S) (n : Tree) (P : List Pair) : Type 0 where
    pub role : Role
    pub it_is : r (kind_of n) ≡ Some role
    pub spelled : Spells ways S Next behind o role n s e P
    pub only : (o' : ℕ) (a : Role) (e' : S) (n' : Tree) (P' : List Pair) → r (kind_of n') ≡ Some a → Spells ways S Next behind o' a n' s e' P' → Ends e' → (e' ≡ e) × (n' ≡ n) × (P' ≡ P)

  pub record AbsentItem (r : Kind → Option Role) (s : S) : Type 0 where
    pub nothing : (o' : ℕ) (a : Role) (e' : S) (n' : Tree) (P' : List Pair) → r (kind_of n') ≡ Some a → Spells ways S Next behind o' a n' s e' P' → Ends e' → ⊥

  -- one reading of a cover, whose tree as an expression is n: it is found, or there is none
  pub data Decided (r : Kind → Option Role) (o : ℕ) (s e : S) (t : Option Tree) (P : List Pair) : Bool → Type 0 where
    it_fits : {m : Tree} → t ≡ Some m → FoundItem r o s e m P → Decided r o s e t P true
    no_fit : AbsentItem r s → Decided r o s e t P false

-- The one fact about a cover that was read from s to e: of each reading, by its shape, that it is found, with the same pairs, or that there is
-- none. A cover that may be nothing any more is refused at once.
abbrev pub Cover : (S : Type 0) (Next : S → Token → S → Type 0) (behind : S → Token) (Ends : S → Type 0) → (Reading → Kind → Option Role) → (Reading → Bool) → ℕ → S → S → Tree → List Pair → Type 0
Cover S Next behind Ends at fits tree s e n P = (a : Reading) → Decided S Next behind Ends (at a) tree s e (tree_as a n) P (fits a)
