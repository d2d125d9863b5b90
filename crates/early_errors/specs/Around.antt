-- What holds round a node, and how it comes down to the node's parts.
use Rattle.std.specs.Prelude.{ℕ, Bool, true, false, not, ◌&&◌, ◌||◌, cond, List, [], ◌∷◌, ◌++◌}
use Rattle.tree.specs.declared.kind.Kind.{Kind}
use Rattle.tree.specs.declared.kind.Kind.TheVariants.{PropertyDefinition, StaticBlock, MemberExpression, BreakStatement, ContinueStatement, Identifier, ArrayPattern, ObjectPattern, AssignmentPattern, RestElement, Property, FunctionExpression, ArrowFunctionExpression, ClassExpression, ClassBody, MethodDefinition, TaggedTemplateExpression, LabeledStatement, SwitchStatement, ForInStatement, ForOfStatement, FunctionDeclaration, ClassDeclaration}
use Rattle.tree.specs.declared.kind.Flags.{Flags}
use Rattle.tree.specs.declared.kind.Form.{Form}
use Rattle.tree.specs.declared.kind.Form.TheVariants.{Get, Set, Method, Constructor}
pub use Rattle.tree.specs.Kinds.{is_loop, is_private}
use Rattle.language.specs.Vocabulary.{is}
use Rattle.tree.specs.Uses.{is_generator, is_async}
use Rattle.tree.specs.Tree.{Tree, node, Parts, none, part, gap, text_of, kind_of, parts_of}
use Rattle.language.specs.FirstPart.{others}

-- a label, and whether it labels a loop
abbrev pub Label : Type 0
Label = List ℕ × Bool

pub record Around : Type 0 where
  -- of the same function
  pub in_loop : Bool
  pub in_switch : Bool
  pub labels : List Label
  -- what may stand here
  pub super_property : Bool
  pub super_call : Bool
  pub new_target : Bool
  -- what the node is to the one above it: a part of a class with `extends` or of its body, the template behind a tag, a
  -- function's body, the head of a for-in or for-of loop, the function of a method, getter, setter or constructor
  pub derived : Bool
  pub tagged : Bool
  pub is_body : Bool
  pub in_head : Bool
  pub of_method : Bool
  -- it is the name of a property or a label
  pub is_word : Bool
  -- of the language of 2022; of a module
  pub of_2022 : Bool
  pub in_module : Bool
  -- the nearest function is a generator, is async; the node stands in its body, or, for `awaits`, at the top of a module
  pub of_generator : Bool
  pub of_async : Bool
  pub yields : Bool
  pub awaits : Bool
  -- in the value of a field or in a static block, arrows in it included
  pub no_arguments : Bool
  -- the private names of the classes around
  pub privates : List (List ℕ)

-- round the Program
abbrev pub outside : Around
outside = record { in_loop = false; in_switch = false; labels = []; super_property = false; super_call = false; new_target = false; derived = false; tagged = false; is_body = false; in_head = false; of_method = false; is_word = false; of_2022 = false; in_module = false; of_generator = false; of_async = false; yields = false; awaits = false; no_arguments = false; privates = [] }

-- round the Program of a language, which its text tells
abbrev pub outside_of : Tree → Around
outside_of (node kind text flags from to parts) = record outside { of_2022 = is text "2022" || is text "module"; in_module = is text "module"; awaits = is text "module" }

-- round what is new: a function, or the value of a field
abbrev pub fresh : Around → Around
fresh z = record outside { of_2022 = z.of_2022; in_module = z.in_module; privates = z.privates }

-- round a part that is nothing special to its node
abbrev pub within : Around → Around
within z = record z { derived = false; tagged = false; is_body = false; in_head = false; of_method = false; is_word = false }

abbrev pub as_word : Around → Around
as_word z = record (within z) { is_word = true }

-- in the value of a field, or a static block
abbrev pub in_init : Around → Around
in_init z = record (fresh z) { super_property = true; new_target = true; no_arguments = true }

-- a part of a function that is a parameter, by its kind
abbrev pub is_parameter : Kind → Bool
is_parameter Identifier = true
is_parameter ArrayPattern = true
is_parameter ObjectPattern = true
is_parameter AssignmentPattern = true
is_parameter RestElement = true
is_parameter _ = false

-- what holds at a node that may be the body of a function
abbrev pub settled : Around → Kind → Around
settled z kind = cond (z.is_body && not (is_parameter kind)) (record z { yields = z.of_generator; awaits = z.of_async }) z

abbrev pub in_method : Around → Bool → Around
in_method z calls = record (fresh z) { super_property = true; super_call = calls; of_method = true }

abbrev pub is_label : Kind → Bool
is_label LabeledStatement = true
is_label _ = false

unfoldable mutual
  -- a label's statement is a loop, further labels aside
  pub labels_loop : Tree → Bool
  labels_loop (node kind text flags from to parts) = is_loop kind || (is_label kind && last_loop parts)

  pub last_loop : Parts → Bool
  last_loop none = false
  last_loop (part tree none) = labels_loop tree
  last_loop (part tree (part m ps)) = last_loop (part m ps)
  last_loop (part tree (gap ps)) = last_loop ps
  last_loop (gap rest) = last_loop rest

abbrev pub own_label : Parts → List Label → List Label
own_label none ls = ls
own_label (gap rest) ls = ls
own_label (part tree rest) ls = (text_of tree, last_loop rest) ∷ ls

abbrev pub is_constructor : Form → Bool
is_constructor Constructor = true
is_constructor _ = false

abbrev pub is_accessor : Form → Bool
is_accessor Get = true
is_accessor Set = true
is_accessor _ = false

abbrev pub is_method : Form → Bool
is_method Method = true
is_method form = is_accessor form

-- of a class's parts behind the name
abbrev pub has_heritage : Parts → Bool
has_heritage (part tree rest) = true
has_heritage _ = false

-- of a class's elements, the private names that they declare
abbrev pub private_key : Tree → List (List ℕ)
private_key tree = first_private (parts_of tree)
  where
    first_private : Parts → List (List ℕ)
    first_private (part k ps) = cond (is_private (kind_of k)) (text_of k ∷ []) []
    first_private _ = []

abbrev pub private_keys : Parts → List (List ℕ)
private_keys none = []
private_keys (part tree rest) = private_key tree ++ private_keys rest
private_keys (gap rest) = private_keys rest

-- round the parts behind the first
abbrev pub around_others : Around → Kind → Flags → Parts → Around
around_others z FunctionDeclaration flags parts = record (fresh z) { new_target = true; is_body = true; of_generator = is_generator flags.form; of_async = is_async flags.form }
around_others z FunctionExpression flags parts = record (fresh z) { of_generator = is_generator flags.form; of_async = is_async flags.form; super_property = z.of_method && z.super_property; super_call = z.of_method && z.super_call; new_target = true; is_body = true }
around_others z ArrowFunctionExpression flags parts = record (within z) { in_loop = false; in_switch = false; labels = []; is_body = true; of_generator = false; of_async = is_async flags.form; yields = false; awaits = false }
around_others z MethodDefinition flags parts = in_method z (z.derived && is_constructor flags.form)
around_others z Property flags parts = cond (is_method flags.form) (in_method z false) (within z)
around_others z ClassExpression flags parts = record (within z) { derived = has_heritage (others parts) }
around_others z ClassDeclaration flags parts = record (within z) { derived = has_heritage (others parts) }
around_others z ClassBody flags parts = record (within z) { derived = z.derived; privates = private_keys parts ++ z.privates }
around_others z PropertyDefinition flags parts = in_init z
around_others z StaticBlock flags parts = in_init z
around_others z MemberExpression flags parts = cond flags.computed (within z) (as_word z)
around_others z LabeledStatement flags parts = record (within z) { labels = own_label parts z.labels }
around_others z SwitchStatement flags parts = record (within z) { in_switch = true }
around_others z TaggedTemplateExpression flags parts = record (within z) { tagged = true }
around_others z kind flags parts = record (within z) { in_loop = z.in_loop || is_loop kind }

abbrev pub key_of : Around → Bool → Around
key_of z computed = cond computed (within z) (as_word z)

-- Round the first part: a key belongs to what surrounds its node, a tag is no template, and a head is not in the loop.
abbrev pub around_first : Around → Kind → Flags → Parts → Around
around_first z MethodDefinition flags parts = key_of z flags.computed
around_first z PropertyDefinition flags parts = key_of z flags.computed
around_first z Property flags parts = key_of z flags.computed
around_first z MemberExpression flags parts = within z
around_first z LabeledStatement flags parts = as_word z
around_first z BreakStatement flags parts = as_word z
around_first z ContinueStatement flags parts = as_word z
around_first z TaggedTemplateExpression flags parts = within z
around_first z ForInStatement flags parts = record (within z) { in_head = true }
around_first z ForOfStatement flags parts = record (within z) { in_head = true }
around_first z kind flags parts = around_others z kind flags parts
