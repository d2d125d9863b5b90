-- What the program's own calls say of a node itself: what holds round it, the labels that a table knows, and which of its errors are found
-- where.
use Rattle.std.specs.Prelude.{◌≡◌, ℕ, zero, suc, Bool, true, false, not, cond, ◌&&◌, ◌||◌, List, [], ◌∷◌, ◌++◌, ◌-◌, Option, Some, None, is_some}
use Rattle.std.specs.Str.{bytes_eq}
use Rattle.tree.specs.declared.kind.Kind.{Kind}
use Rattle.tree.specs.declared.kind.Kind.TheVariants as kind
use Rattle.tree.specs.declared.kind.Flags.{Flags}
use Rattle.tree.specs.Tree.{Tree, Parts, none, kind_of, text_of, flags_of, start_of, parts_of, part_at, part_count, parts_drop}
use Rattle.tree.specs.Uses.{is_async, is_generator, is_init}
use Rattle.language.specs.Vocabulary.{is, among, is_identifier, is_private}
use Rattle.early_errors.specs.declared.EarlyError.{EarlyError}
use Rattle.early_errors.specs.declared.EarlyError.TheVariants as error
use Rattle.early_errors.specs.declared.around.Context.{Context as Code}
use Rattle.early_errors.specs.declared.around.FirstPart.{FirstPart}
use Rattle.early_errors.specs.declared.around.FirstPart.TheVariants as first
use Rattle.tree.specs.declared.kind.Form.{Form}
use Rattle.early_errors.specs.declared.walk.WalkKind.{WalkKind}
use Rattle.early_errors.specs.declared.walk.WalkKind.TheVariants as inside
use Rattle.early_errors.specs.declared.profile.Language.{Language}
use Rattle.early_errors.specs.declared.own.OwnErrorInput.{OwnErrorInput}
use Rattle.early_errors.specs.declared.own.OwnErrorInput.TheVariants as sort
use Rattle.early_errors.specs.declared.own.OwnErrors.{OwnErrors}
use Rattle.early_errors.specs.declared.own.OwnErrors.TheVariants.{Variables, Function, FirstNames, Break, Continue, Label, ForOf, Delete, SuperProperty, SuperCall, Target, ClassElements, Member, Template, Literal, Name, PrivateName, Yield, Await, Field, Import, ModuleNames, ExportAll, Export, Exports, Object, Nothing}
use Rattle.early_errors.specs.Around as around
use Rattle.early_errors.specs.Around.{Around}
use Rattle.language.specs.FirstPart.{others}
use Rattle.name_tables.specs.PatternParts.{at_part}
use Rattle.name_tables.specs.BoundNames.{each_part}
use Rattle.early_errors.specs.Names.{Named, places, when, twice, shared, lexical_names, function_names, body_items, own_vars}
use Rattle.early_errors.specs.Walk.{names_at}
use Rattle.early_errors.specs.declared.scopes.ScopeKind.{ScopeKind}
use Rattle.early_errors.specs.declared.scopes.ScopeKind.TheVariants as scope
use Rattle.early_errors.specs.Strict.{eval_or_arguments}
use Rattle.early_errors.specs.Keys.{key_value}
use Rattle.early_errors.specs.Literals.{is_uncooked}
use Rattle.early_errors.specs.Modules.{duplicate_export, undeclared_export}
use Rattle.early_errors.specs.PrivateNames.{holds_name}
use Rattle.early_errors.specs.Yields.{await_outside_async, for_async_of}
use Rattle.early_errors.specs.Early.{Error, each, own_errors}

-- what holds round a node and isn't in the code's context: labels, the language, the private names of the classes round it
pub record Beside : Type 0 where
  pub labels : List around.Label
  pub of_2022 : Bool
  pub in_module : Bool
  pub privates : List (List ℕ)

-- what holds round a node
abbrev pub round : Code → Beside → Around
round a r = record { in_loop = a.in_loop; in_switch = a.in_switch; labels = r.labels; super_property = a.super_property; super_call = a.super_call; new_target = a.new_target; derived = a.derived; tagged = a.tagged; is_body = a.is_body; in_head = a.in_head; of_method = a.of_method; is_word = a.is_word; of_2022 = r.of_2022; in_module = r.in_module; of_generator = is_generator a.function_form; of_async = is_async a.function_form; yields = is_generator a.body_form; awaits = is_async a.body_form; no_arguments = a.no_arguments; privates = r.privates }

-- beside a Program of a language
abbrev pub program_beside : Language → Beside
program_beside l = record { labels = []; of_2022 = l.is_2022; in_module = l.is_module; privates = [] }

abbrev pub or_false : Option Bool → Bool
or_false None = false
or_false (Some b) = b

-- what a table has for a label serves a jump, which may ask for a loop
abbrev pub is_label_for : Bool → Option Bool → Bool
is_label_for loops None = false
is_label_for loops (Some b) = b || not loops

abbrev pub misses : Bool → (List ℕ → Option Bool) → Named → Bool
misses loops f x = not (is_label_for loops (f x.0))

-- whether a label of the name stands there, and whether one of them labels a loop
abbrev pub label_of : List around.Label → List ℕ → Option Bool
label_of [] text = None
label_of (l ∷ ls) text = cond (bytes_eq l.0 text) (Some (l.1 || or_false (label_of ls text))) (label_of ls text)

-- a table answers as the labels do
abbrev pub Labelled : (List ℕ → Option Bool) → Beside → Type 0
Labelled f r = (w : List ℕ) → f w ≡ label_of r.labels w

-- a table answers as the private names do
abbrev pub Declares : (List ℕ → Option (Unit {0})) → List (List ℕ) → Type 0
Declares f ws = (w : List ℕ) → is_some (f w) ≡ holds_name ws w

-- tables answer as the labels and the private names do, and the language is that of the tree
pub record Knows (labels : List ℕ → Option Bool) (privates : List ℕ → Option (Unit {0})) (language : Language) (r : Beside) : Type 0 where
  pub labelled : Labelled labels r
  pub private : Declares privates r.privates
  pub of_2022 : language.is_2022 ≡ r.of_2022
  pub in_module : language.is_module ≡ r.in_module

-- which errors a node of a kind can have itself: of the kinds whose errors are those of the language of 2022, and of all
abbrev pub own_of_2022 : Kind → OwnErrors
own_of_2022 kind.Identifier = Name
own_of_2022 kind.PrivateIdentifier = PrivateName
own_of_2022 kind.YieldExpression = Yield
own_of_2022 kind.AwaitExpression = Await
own_of_2022 kind.PropertyDefinition = Field
own_of_2022 kind.ImportDeclaration = Import
own_of_2022 kind.ImportSpecifier = ModuleNames
own_of_2022 kind.ExportSpecifier = ModuleNames
own_of_2022 kind.ExportAllDeclaration = ExportAll
own_of_2022 kind.ExportNamedDeclaration = Export
own_of_2022 kind.Program = Exports
own_of_2022 kind.ObjectExpression = Object
own_of_2022 _ = Nothing

abbrev pub own_of : Kind → OwnErrors
own_of kind.VariableDeclaration = Variables
own_of kind.FunctionDeclaration = Function
own_of kind.FunctionExpression = Function
own_of kind.ArrowFunctionExpression = Function
own_of kind.ClassDeclaration = FirstNames
own_of kind.ClassExpression = FirstNames
own_of kind.CatchClause = FirstNames
own_of kind.AssignmentExpression = FirstNames
own_of kind.UpdateExpression = FirstNames
own_of kind.ForInStatement = FirstNames
own_of kind.ForOfStatement = ForOf
own_of kind.BreakStatement = Break
own_of kind.ContinueStatement = Continue
own_of kind.LabeledStatement = Label
own_of kind.UnaryExpression = Delete
own_of kind.MemberExpression = SuperProperty
own_of kind.CallExpression = SuperCall
own_of kind.MetaProperty = Target
own_of kind.ClassBody = ClassElements
own_of kind.MethodDefinition = Member
own_of kind.TemplateLiteral = Template
own_of kind.Literal = Literal
own_of k = own_of_2022 k

-- a node whose names clash with `var`s inside, or stand in one scope
abbrev pub makes_scope : Kind → Bool
makes_scope kind.Program = true
makes_scope kind.StaticBlock = true
makes_scope kind.BlockStatement = true
makes_scope kind.SwitchStatement = true
makes_scope kind.CatchClause = true
makes_scope kind.ForStatement = true
makes_scope kind.ForInStatement = true
makes_scope kind.ForOfStatement = true
makes_scope _ = false

-- the errors of such a node that aren't about the names of its scope
abbrev pub unscoped_errors : Around → Tree → List Error
unscoped_errors z tree =
    each error.EvalOrArguments (eval_or_arguments tree) ++ (each error.AwaitOutsideAsync (await_outside_async z tree)
    ++ (each error.DuplicateExport (duplicate_export tree) ++ (each error.UndeclaredExport (undeclared_export tree) ++ each error.ForAsyncOf (for_async_of z tree))))

-- a node's own errors, without those of the scope that it makes
abbrev pub plain_errors : Around → Tree → List Error
plain_errors z tree = cond (makes_scope (kind_of tree)) (unscoped_errors z tree) (own_errors z tree)

abbrev pub is_element : Kind → Bool
is_element kind.TemplateElement = true
is_element _ = false

abbrev pub uncooked_at : Option Tree → Bool
uncooked_at None = false
uncooked_at (Some t) = is_uncooked (kind_of t) (text_of t)

-- the value of a key that isn't private is a word
abbrev pub key_says : Option Tree → List ℕ → Bool
key_says None text = false
key_says (Some t) text = not (is_private (kind_of t)) && bytes_eq (key_value t) text

-- a method's function is async or a generator
abbrev pub form_at : Option Tree → Bool
form_at None = false
form_at (Some t) = not (is_init (flags_of t).form)

abbrev pub places_at : Option Tree → List ℕ
places_at None = []
places_at (Some t) = start_of t ∷ []

-- of a for-of loop's left side, where that is the name `async`
abbrev pub async_places : Option Tree → List ℕ
async_places None = []
async_places (Some t) = when (is_identifier (kind_of t) && is (text_of t) "async") (start_of t ∷ [])

abbrev pub is_block : Kind → Bool
is_block kind.BlockStatement = true
is_block _ = false

-- a part where that is a block
abbrev pub block_at : Option Tree → Option Tree
block_at None = None
block_at (Some t) = cond (is_block (kind_of t)) (Some t) None

abbrev pub items_at : Option Tree → Parts
items_at None = none
items_at (Some t) = parts_of t

-- where a function's parameters begin among its parts, and the name before them
abbrev pub parameter_place : Kind → ℕ
parameter_place kind.ArrowFunctionExpression = 0
parameter_place _ = 1

abbrev pub function_name : ℕ → Parts → Option Tree
function_name zero parts = None
function_name (suc n) parts = part_at parts 0

abbrev pub is_plain : Option Tree → Bool
is_plain None = true
is_plain (Some t) = is_identifier (kind_of t)

abbrev pub says_use_strict : Option Tree → Bool
says_use_strict None = false
says_use_strict (Some t) = among (text_of t) ("'use strict'" ∷ "\"use strict\"" ∷ [])

-- ---- scopes

-- the flags say whether the tree is a module, and whether the node is a function's body
abbrev pub scope_kind : Kind → (in_module is_body : Bool) → ScopeKind
scope_kind kind.Program m b = cond (not m) scope.TopLevel scope.Block
scope_kind kind.StaticBlock m b = scope.TopLevel
scope_kind kind.BlockStatement m b = cond b scope.TopLevel scope.Block
scope_kind kind.SwitchStatement m b = scope.Switch
scope_kind kind.CatchClause m b = scope.Catch
scope_kind kind.ForStatement m b = scope.For
scope_kind kind.ForInStatement m b = scope.ForEach
scope_kind kind.ForOfStatement m b = scope.ForEach
scope_kind _ m b = scope.Nothing

-- the lexical names of a switch's case
abbrev pub case_names : Tree → List Named
case_names tree = each_part (lexical_names true) (others (parts_of tree))

-- the names that clash with `var`s inside
abbrev pub names_of_scope : ScopeKind → Parts → List Named
names_of_scope scope.TopLevel parts = each_part (lexical_names false) parts
names_of_scope scope.Block parts = each_part (lexical_names true) parts
names_of_scope scope.Switch parts = each_part case_names (parts_drop 1 parts)
names_of_scope scope.Catch parts = names_at (part_at parts 0)
names_of_scope scope.For parts = at_part (lexical_names false) (part_at parts 0)
names_of_scope scope.ForEach parts = at_part (lexical_names false) (part_at parts 0)
names_of_scope scope.Nothing parts = []

-- the error of a name that clashes so
abbrev pub scope_error : ScopeKind → EarlyError
scope_error scope.Catch = error.CatchParameterConflict
scope_error scope.For = error.ForNameIsVar
scope_error scope.ForEach = error.ForNameIsVar
scope_error _ = error.LexicalNameIsVar

abbrev pub body_place : Parts → ℕ
body_place parts = cond (is_some (block_at (part_at parts (part_count parts - 1)))) (part_count parts - 1) (part_count parts)

-- the part from which on a `var` clashes
abbrev pub place_of_scope : ScopeKind → Parts → ℕ
place_of_scope scope.Switch parts = 1
place_of_scope scope.Catch parts = body_place parts
place_of_scope scope.For parts = 3
place_of_scope scope.ForEach parts = 2
place_of_scope _ parts = 0

abbrev pub declares_function : Kind → Bool
declares_function kind.FunctionDeclaration = true
declares_function _ = false

abbrev pub doubled : EarlyError → List Named → List Error
doubled e ns = each e (places (twice ns))

abbrev pub clash_with : EarlyError → List Named → List Named → List Error
clash_with e ns vs = each e (places (shared ns vs))

-- the errors of these names that aren't about `var`s inside
abbrev pub found_of_scope : ScopeKind → Parts → List Named → List Error
found_of_scope scope.TopLevel parts ns = doubled error.DuplicateLexicalName ns ++ clash_with error.LexicalNameIsVar ns (each_part function_names parts)
found_of_scope scope.Block parts ns = doubled error.DuplicateLexicalName ns
found_of_scope scope.Switch parts ns = doubled error.DuplicateLexicalName ns
found_of_scope scope.Catch parts ns = doubled error.CatchParameterConflict ns ++ clash_with error.CatchParameterConflict ns (each_part (lexical_names true) (body_items parts))
found_of_scope _ parts ns = []

-- ---- a node's own errors, by what it is

-- the names that a node itself declares by `var`
abbrev pub vars_of : Tree → List Named
vars_of tree = own_vars (kind_of tree) (text_of tree) (parts_of tree)

-- those of nodes whose names don't matter
abbrev pub nameless : OwnErrors → Around → Tree → List Error
nameless Variables z tree = []
nameless Function z tree = []
nameless FirstNames z tree = []
nameless Break z tree = []
nameless Continue z tree = []
nameless Label z tree = []
nameless ForOf z tree = []
nameless Exports z tree = each error.DuplicateExport (duplicate_export tree) ++ each error.UndeclaredExport (undeclared_export tree)
nameless Nothing z tree = []
nameless _ z tree = own_errors z tree

-- those of nodes whose first part's names matter
abbrev pub named_errors : OwnErrors → Around → Tree → List Error
named_errors Break z tree = own_errors z tree
named_errors Continue z tree = own_errors z tree
named_errors Label z tree = own_errors z tree
named_errors FirstNames z tree = each error.EvalOrArguments (eval_or_arguments tree)
named_errors ForOf z tree =
    each error.EvalOrArguments (eval_or_arguments tree) ++ (each error.AwaitOutsideAsync (await_outside_async z tree) ++ each error.ForAsyncOf (for_async_of z tree))
named_errors _ z tree = []

abbrev pub sort_of : OwnErrors → OwnErrorInput
sort_of Variables = sort.Variables
sort_of Function = sort.Parameters
sort_of FirstNames = sort.Named
sort_of Break = sort.Named
sort_of Continue = sort.Named
sort_of Label = sort.Named
sort_of ForOf = sort.Named
sort_of _ = sort.Nameless

-- without labels, as round what is inside a function
abbrev pub unlabelled : Beside → Beside
unlabelled r = record r { labels = [] }

-- what holds beside, round a node's parts: a function, a method and an initializer have none of the labels above, and a class body has
-- its private names
abbrev pub inner_beside : Kind → Flags → Parts → Beside → Beside
inner_beside kind.FunctionDeclaration flags parts r = unlabelled r
inner_beside kind.FunctionExpression flags parts r = unlabelled r
inner_beside kind.ArrowFunctionExpression flags parts r = unlabelled r
inner_beside kind.MethodDefinition flags parts r = unlabelled r
inner_beside kind.PropertyDefinition flags parts r = unlabelled r
inner_beside kind.StaticBlock flags parts r = unlabelled r
inner_beside kind.Property flags parts r = cond (around.is_method flags.form) (unlabelled r) r
inner_beside kind.LabeledStatement flags parts r = record r { labels = around.own_label parts r.labels }
inner_beside kind.ClassBody flags parts r = record r { privates = around.private_keys parts ++ r.privates }
inner_beside _ flags parts r = r

abbrev pub first_part : Kind → FirstPart
first_part kind.MethodDefinition = first.Key
first_part kind.PropertyDefinition = first.Key
first_part kind.Property = first.Key
first_part kind.MemberExpression = first.Plain
first_part kind.TaggedTemplateExpression = first.Plain
first_part kind.LabeledStatement = first.Word
first_part kind.BreakStatement = first.Word
first_part kind.ContinueStatement = first.Word
first_part kind.ForInStatement = first.Head
first_part kind.ForOfStatement = first.Head
first_part _ = first.LikeOthers

-- what stands round a node's first part
abbrev pub first_beside : Kind → Flags → Parts → Beside → Beside
first_beside kind.MethodDefinition flags parts r = r
first_beside kind.PropertyDefinition flags parts r = r
first_beside kind.Property flags parts r = r
first_beside kind.LabeledStatement flags parts r = r
first_beside node_kind flags parts r = inner_beside node_kind flags parts r

-- how a walk goes on inside a node
abbrev pub inside_of : Kind → Form → WalkKind
inside_of kind.FunctionDeclaration form = inside.Function
inside_of kind.FunctionExpression form = inside.Function
inside_of kind.ArrowFunctionExpression form = inside.Function
inside_of kind.MethodDefinition form = inside.Method
inside_of kind.PropertyDefinition form = inside.Method
inside_of kind.StaticBlock form = inside.StaticBlock
inside_of kind.ClassBody form = inside.ClassBody
inside_of kind.Property form = cond (around.is_method form) inside.Method inside.Plain
inside_of kind.LabeledStatement form = inside.Label
inside_of kind.VariableDeclaration form = inside.Declaration
inside_of kind.Program form = inside.Scope
inside_of kind.BlockStatement form = inside.Scope
inside_of kind.SwitchStatement form = inside.Scope
inside_of kind.CatchClause form = inside.Scope
inside_of kind.ForStatement form = inside.Scope
inside_of kind.ForInStatement form = inside.Scope
inside_of kind.ForOfStatement form = inside.Scope
inside_of _ form = inside.Plain
