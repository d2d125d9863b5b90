-- Which production spells a node at a position: the conditions of the table, one line a production and position.
use Rattle.std.specs.Prelude.{◌≡◌, ℕ, Bool, true, false, not, ◌&&◌, ◌||◌, List, [], ◌∷◌, nat_le}
use Rattle.tree.specs.declared.kind.Kind.{Kind}
use Rattle.tree.specs.declared.kind.Kind.TheVariants as kind
use Rattle.tree.specs.declared.kind.Form.TheVariants as method_form
use Rattle.tree.specs.declared.kind.Flags.{Flags}
use Rattle.tree.specs.Uses.{is_empty}
use Rattle.tree.specs.Tree.{Tree, Parts, none, part, gap, kind_of}
use Rattle.language.specs.declared.Rank.{Rank}
use Rattle.language.specs.declared.Start.{Start}
use Rattle.language.specs.FirstPart.{lead, others}
use Rattle.language.specs.Vocabulary.{is, is_private, among, is_reserved, is_name, literal_class, is_string, is_super, is_identifier, is_target, is_pattern, is_rest, is_update_operator, is_prefix, is_word_operator, is_assignment, operator_of, op_binary, op_power}
use Rattle.language.specs.Edges.{ends_in_if}
use Rattle.language.specs.Pieces.{Role, expr, chain_part, name, word, private_name, key, shorthand_key, base, directive_string, tagged_quasi, template_element, spread, property, pattern, pattern_property, element, rest, method, body, statement, item, opening, block, head, declarator, switch_case, handler, class_body, member, module_item, specifier, default_item, script, is_none}
use Rattle.language.specs.Expressions.{first_has_optional, lead_is, value_form}
use Rattle.language.specs.Statements.{first_is_string, is_one, defaults}
use Rattle.language.specs.Forms as made
use Rattle.language.specs.Forms.{Production}

-- the positions of statements: those that are no declarations, and with declarations
pub data IsStatement (r : Bool) : Role → Type 0 where
  at_statement : IsStatement r (statement r)
  at_item : IsStatement r (item r)
  at_opening : IsStatement r (opening r)

pub data IsItem (r : Bool) : Role → Type 0 where
  at_item : IsItem r (item r)
  at_opening : IsItem r (opening r)

pub data ChosenStatement (w : List ℕ) (g : Flags) (ps : Parts) : Bool → Kind → Production → Type 0 where
  block_statement : {r : Bool} → ChosenStatement w g ps r kind.BlockStatement (made.block_of r)
  var_variables : {r : Bool} → is w "var" ≡ true → ChosenStatement w g ps r kind.VariableDeclaration made.variables
  empty : {r : Bool} → ChosenStatement w g ps r kind.EmptyStatement made.empty
  expression_statement : {r : Bool} → g.directive ≡ false → ChosenStatement w g ps r kind.ExpressionStatement made.expression_statement
  if_alone : {r : Bool} {t c : Tree} → ps ≡ part t (part c (gap none)) → ChosenStatement w g ps r kind.IfStatement (made.if_alone r)
  if_else : {r : Bool} {t c e : Tree} → ps ≡ part t (part c (part e none)) → ends_in_if c ≡ false → ChosenStatement w g ps r kind.IfStatement (made.if_else r)
  do_while : {r : Bool} → ChosenStatement w g ps r kind.DoWhileStatement (made.do_while r)
  while : {r : Bool} → ChosenStatement w g ps r kind.WhileStatement (made.while r)
  for_loop : {r : Bool} → ChosenStatement w g ps r kind.ForStatement (made.for_loop r)
  for_in : {r : Bool} → ChosenStatement w g ps r kind.ForInStatement (made.for_in r)
  for_of : {r : Bool} → ChosenStatement w g ps r kind.ForOfStatement (made.for_of g.form r)
  continue : {r : Bool} → ChosenStatement w g ps r kind.ContinueStatement made.continue
  break : {r : Bool} → ChosenStatement w g ps r kind.BreakStatement made.break
  return : ChosenStatement w g ps true kind.ReturnStatement made.return
  throw : {r : Bool} → ChosenStatement w g ps r kind.ThrowStatement made.throw
  labeled : {r : Bool} → ChosenStatement w g ps r kind.LabeledStatement (made.labeled r)
  switch : {r : Bool} → nat_le (defaults (others ps)) 1 ≡ true → ChosenStatement w g ps r kind.SwitchStatement (made.switch r)
  try_catch : {r : Bool} {b t : Tree} → ps ≡ part b (part t (gap none)) → ChosenStatement w g ps r kind.TryStatement (made.try_catch r)
  try_both : {r : Bool} {b t f : Tree} → ps ≡ part b (part t (part f none)) → ChosenStatement w g ps r kind.TryStatement (made.try_both r)
  try_finally : {r : Bool} {b f : Tree} → ps ≡ part b (gap (part f none)) → ChosenStatement w g ps r kind.TryStatement (made.try_finally r)
  debugger : {r : Bool} → ChosenStatement w g ps r kind.DebuggerStatement made.debugger

pub data ChosenDeclaration (w : List ℕ) (g : Flags) (ps : Parts) : Bool → Kind → Production → Type 0 where
  variables : {r : Bool} → among w ("var" ∷ "let" ∷ "const" ∷ []) ≡ true → ChosenDeclaration w g ps r kind.VariableDeclaration made.variables
  function_declaration : {r : Bool} {n : Tree} {qs : Parts} → ps ≡ part n qs → ChosenDeclaration w g ps r kind.FunctionDeclaration (made.function g.form)
  class_declaration : {r : Bool} {n : Tree} {qs : Parts} → ps ≡ part n qs → ChosenDeclaration w g ps r kind.ClassDeclaration made.class

pub data Chosen (w : List ℕ) (g : Flags) (ps : Parts) : Role → Kind → Production → Type 0 where
  of_statement : {r : Bool} {a : Role} {k : Kind} {p : Production} → IsStatement r a → ChosenStatement w g ps r k p → Chosen w g ps a k p
  of_declaration : {r : Bool} {a : Role} {k : Kind} {p : Production} → IsItem r a → ChosenDeclaration w g ps r k p → Chosen w g ps a k p
  -- expressions
  identifier : {y : Rank} {i : Bool} {f : Start} → is_reserved w ≡ false → Chosen w g ps (expr y i f) kind.Identifier made.identifier
  literal : {y : Rank} {i : Bool} {f : Start} → (is_name (literal_class w) && not (among w ("true" ∷ "false" ∷ "null" ∷ []))) ≡ false → Chosen w g ps (expr y i f) kind.Literal made.literal
  this : {y : Rank} {i : Bool} {f : Start} → Chosen w g ps (expr y i f) kind.ThisExpression made.this
  array : {y : Rank} {i : Bool} {f : Start} → Chosen w g ps (expr y i f) kind.ArrayExpression made.array
  object : {y : Rank} {i : Bool} {f : Start} → Chosen w g ps (expr y i f) kind.ObjectExpression made.object
  function : {y : Rank} {i : Bool} {f : Start} → Chosen w g ps (expr y i f) kind.FunctionExpression (made.function g.form)
  class : {y : Rank} {i : Bool} {f : Start} → Chosen w g ps (expr y i f) kind.ClassExpression made.class
  template : {y : Rank} {i : Bool} {f : Start} → Chosen w g ps (expr y i f) kind.TemplateLiteral made.template
  short_arrow : {y : Rank} {i : Bool} {f : Start} {n b : Tree} → ps ≡ part n (part b none) → is_identifier (kind_of n) ≡ true → Chosen w g ps (expr y i f) kind.ArrowFunctionExpression (made.short_arrow g.form)
  arrow : {y : Rank} {i : Bool} {f : Start} → Chosen w g ps (expr y i f) kind.ArrowFunctionExpression (made.arrow g.form)
  tagged : {y : Rank} {i : Bool} {f : Start} → Chosen w g ps (expr y i f) kind.TaggedTemplateExpression made.tagged
  super_member : {y : Rank} {i : Bool} {f : Start} → g.optional ≡ false → is_super (lead ps) ≡ true → Chosen w g ps (expr y i f) kind.MemberExpression made.super_member
  member_access : {y : Rank} {i : Bool} {f : Start} → g.optional ≡ false → is_super (lead ps) ≡ false → Chosen w g ps (expr y i f) kind.MemberExpression made.member_access
  super_call : {y : Rank} {i : Bool} {f : Start} → g.optional ≡ false → is_super (lead ps) ≡ true → Chosen w g ps (expr y i f) kind.CallExpression made.super_call
  call : {y : Rank} {i : Bool} {f : Start} → g.optional ≡ false → is_super (lead ps) ≡ false → Chosen w g ps (expr y i f) kind.CallExpression made.call
  new_with : {y : Rank} {i : Bool} {f : Start} → Chosen w g ps (expr y i f) kind.NewExpression made.new_with
  new_without : {y : Rank} {i : Bool} {f : Start} → is_none (others ps) ≡ true → Chosen w g ps (expr y i f) kind.NewExpression made.new_without
  new_target : {y : Rank} {i : Bool} {f : Start} → (lead_is ps "new" && lead_is (others ps) "target") ≡ true → Chosen w g ps (expr y i f) kind.MetaProperty made.new_target
  import_meta : {y : Rank} {i : Bool} {f : Start} → (lead_is ps "import" && lead_is (others ps) "meta") ≡ true → Chosen w g ps (expr y i f) kind.MetaProperty made.import_meta
  import_call : {y : Rank} {i : Bool} {f : Start} → Chosen w g ps (expr y i f) kind.ImportExpression made.import_call
  chain : {y : Rank} {i : Bool} {f : Start} → first_has_optional ps ≡ true → Chosen w g ps (expr y i f) kind.ChainExpression made.chain
  prefix : {y : Rank} {i : Bool} {f : Start} → not (is_update_operator w && is_target (lead ps)) ≡ false → g.prefix ≡ true → Chosen w g ps (expr y i f) kind.UpdateExpression made.prefix
  postfix : {y : Rank} {i : Bool} {f : Start} → not (is_update_operator w && is_target (lead ps)) ≡ false → g.prefix ≡ false → Chosen w g ps (expr y i f) kind.UpdateExpression made.postfix
  unary_word : {y : Rank} {i : Bool} {f : Start} → not (is_prefix w) ≡ false → is_word_operator w ≡ true → Chosen w g ps (expr y i f) kind.UnaryExpression made.unary_word
  unary_sign : {y : Rank} {i : Bool} {f : Start} → not (is_prefix w) ≡ false → is_word_operator w ≡ false → Chosen w g ps (expr y i f) kind.UnaryExpression made.unary_sign
  await : {y : Rank} {i : Bool} {f : Start} → Chosen w g ps (expr y i f) kind.AwaitExpression made.await
  private_left : {y : Rank} {i : Bool} {f : Start} → is_private (lead ps) ≡ true → is w "in" ≡ true → Chosen w g ps (expr y i f) kind.BinaryExpression made.private_left
  power : {y : Rank} {i : Bool} {f : Start} → is_private (lead ps) ≡ false → operator_of w ≡ op_power → Chosen w g ps (expr y i f) kind.BinaryExpression made.power
  binary : {y : Rank} {i : Bool} {f : Start} {z q : Rank} → is_private (lead ps) ≡ false → operator_of w ≡ op_binary false z q → Chosen w g ps (expr y i f) kind.BinaryExpression (made.binary z q)
  logical : {y : Rank} {i : Bool} {f : Start} {z q : Rank} → operator_of w ≡ op_binary true z q → Chosen w g ps (expr y i f) kind.LogicalExpression (made.binary z q)
  conditional : {y : Rank} {i : Bool} {f : Start} → Chosen w g ps (expr y i f) kind.ConditionalExpression made.conditional
  assign : {y : Rank} {i : Bool} {f : Start} → not (is_assignment w) ≡ false → is_target (lead ps) ≡ true → Chosen w g ps (expr y i f) kind.AssignmentExpression made.assign
  assign_pattern : {y : Rank} {i : Bool} {f : Start} → not (is_assignment w) ≡ false → is_target (lead ps) ≡ false → (is w "=" && is_pattern (lead ps)) ≡ true → Chosen w g ps (expr y i f) kind.AssignmentExpression made.assign_pattern
  yield_alone : {y : Rank} {i : Bool} {f : Start} → g.form ≡ method_form.Init → ps ≡ gap none → Chosen w g ps (expr y i f) kind.YieldExpression made.yield_alone
  yield_operand : {y : Rank} {i : Bool} {f : Start} {n : Tree} → g.form ≡ method_form.Init → ps ≡ part n none → Chosen w g ps (expr y i f) kind.YieldExpression made.yield_operand
  yield_from : {y : Rank} {i : Bool} {f : Start} {n : Tree} → g.form ≡ method_form.Generator → ps ≡ part n none → Chosen w g ps (expr y i f) kind.YieldExpression made.yield_from
  several : {y : Rank} {i : Bool} {f : Start} → is_none (others ps) ≡ false → Chosen w g ps (expr y i f) kind.SequenceExpression made.several
  -- parts of chains
  chain_member : {f : Start} → first_has_optional ps ≡ true → Chosen w g ps (chain_part f) kind.MemberExpression made.chain_member
  chain_first_member : {f : Start} → first_has_optional ps ≡ false → g.optional ≡ true → Chosen w g ps (chain_part f) kind.MemberExpression made.chain_first_member
  chain_call : {f : Start} → first_has_optional ps ≡ true → Chosen w g ps (chain_part f) kind.CallExpression made.chain_call
  chain_first_call : {f : Start} → first_has_optional ps ≡ false → g.optional ≡ true → Chosen w g ps (chain_part f) kind.CallExpression made.chain_first_call
  -- tokens
  a_name : is_reserved w ≡ false → Chosen w g ps name kind.Identifier made.identifier
  a_word : Chosen w g ps word kind.Identifier made.identifier
  private_key : Chosen w g ps private_name kind.PrivateIdentifier made.private_key
  name_as_key : Chosen w g ps key kind.Identifier made.identifier
  literal_as_key : Chosen w g ps key kind.Literal made.literal
  key_name : Chosen w g ps shorthand_key kind.Identifier made.key_name
  super : Chosen w g ps base kind.Super made.super
  directive_text : is_string (literal_class w) ≡ true → Chosen w g ps directive_string kind.Literal made.directive_text
  quasi : Chosen w g ps tagged_quasi kind.TemplateLiteral made.template
  template_part : {x y : Bool} → Chosen w g ps (template_element x y) kind.TemplateElement (made.template_part x y)
  -- properties and patterns
  spread_argument : Chosen w g ps spread kind.SpreadElement made.spread_argument
  property_value : g.form ≡ method_form.Init → Chosen w g ps property kind.Property made.property_value
  property_method : g.form ≡ method_form.Method → Chosen w g ps property kind.Property (made.property_method (value_form ps))
  property_get : g.form ≡ method_form.Get → Chosen w g ps property kind.Property made.property_get
  property_set : g.form ≡ method_form.Set → Chosen w g ps property kind.Property made.property_set
  shorthand : g.form ≡ method_form.Shorthand → g.computed ≡ false → Chosen w g ps property kind.Property made.shorthand
  pattern_value : {b : Bool} → g.form ≡ method_form.Init → Chosen w g ps (pattern_property b) kind.Property (made.pattern_value b)
  pattern_shorthand : {b : Bool} → g.form ≡ method_form.Shorthand → g.computed ≡ false → lead (others ps) ≡ kind.Identifier → Chosen w g ps (pattern_property b) kind.Property made.shorthand
  pattern_default : {b : Bool} → g.form ≡ method_form.Shorthand → g.computed ≡ false → lead (others ps) ≡ kind.AssignmentPattern → Chosen w g ps (pattern_property b) kind.Property made.shorthand_default
  array_pattern : {b : Bool} {f : Start} → Chosen w g ps (pattern b f) kind.ArrayPattern (made.array_pattern b)
  object_pattern : {b : Bool} {f : Start} → Chosen w g ps (pattern b f) kind.ObjectPattern (made.object_pattern b)
  default : {b : Bool} → Chosen w g ps (element b) kind.AssignmentPattern (made.default b)
  rest_of : {b o : Bool} → Chosen w g ps (rest b o) kind.RestElement (made.rest_of b)
  -- the functions of methods, and members
  getter : {b : Tree} → ps ≡ gap (part b none) → Chosen w g ps (method method_form.Get) kind.FunctionExpression made.getter
  setter : {n b : Tree} → ps ≡ gap (part n (part b none)) → is_rest (kind_of n) ≡ false → Chosen w g ps (method method_form.Set) kind.FunctionExpression made.setter
  method_function : {x : Rattle.tree.specs.declared.kind.Form.Form} {qs : Parts} → ps ≡ gap qs → Chosen w g ps (method x) kind.FunctionExpression made.method_function
  function_body : Chosen w g ps body kind.BlockStatement made.function_body
  class_members : Chosen w g ps class_body kind.ClassBody made.class_members
  member_get : g.form ≡ method_form.Get → Chosen w g ps member kind.MethodDefinition made.member_get
  member_set : g.form ≡ method_form.Set → Chosen w g ps member kind.MethodDefinition made.member_set
  member_method : Chosen w g ps member kind.MethodDefinition (made.member_method (value_form ps))
  field : {n : Tree} → ps ≡ part n (gap none) → Chosen w g ps member kind.PropertyDefinition made.field
  initialised_field : {n v : Tree} → ps ≡ part n (part v none) → Chosen w g ps member kind.PropertyDefinition made.initialised_field
  static_block : Chosen w g ps member kind.StaticBlock made.static_block
  -- statements
  block_alone : {r : Bool} → Chosen w g ps (block r) kind.BlockStatement (made.block_of r)
  directive : {r : Bool} → g.directive ≡ true → first_is_string ps ≡ true → Chosen w g ps (opening r) kind.ExpressionStatement made.directive
  string_statement : {r : Bool} → g.directive ≡ false → first_is_string ps ≡ true → Chosen w g ps (opening r) kind.ExpressionStatement made.string_statement
  -- parts of statements
  variables_of_head : {b : Bool} → (among w ("var" ∷ "let" ∷ "const" ∷ []) && (b || is_one ps)) ≡ true → Chosen w g ps (head b) kind.VariableDeclaration (made.variables_of_head b)
  initialised : {i : Bool} {n e : Tree} → ps ≡ part n (part e none) → Chosen w g ps (declarator i true) kind.VariableDeclarator (made.initialised i)
  bare_declarator : {i b : Bool} {n : Tree} → ps ≡ part n (gap none) → (b && is_pattern (kind_of n)) ≡ false → Chosen w g ps (declarator i b) kind.VariableDeclarator made.bare_declarator
  switch_test : {r : Bool} {n : Tree} {qs : Parts} → ps ≡ part n qs → Chosen w g ps (switch_case r) kind.SwitchCase (made.switch_test r)
  switch_default : {r : Bool} {qs : Parts} → ps ≡ gap qs → Chosen w g ps (switch_case r) kind.SwitchCase (made.switch_default r)
  catch_bound : {r : Bool} {n : Tree} {qs : Parts} → ps ≡ part n qs → Chosen w g ps (handler r) kind.CatchClause (made.catch_bound r)
  catch_bare : {r : Bool} {qs : Parts} → ps ≡ gap qs → Chosen w g ps (handler r) kind.CatchClause (made.catch_bare r)
  -- imports and exports
  import_alone : {s : Tree} → ps ≡ part s none → lead ps ≡ kind.Literal → Chosen w g ps module_item kind.ImportDeclaration made.import_alone
  import_nothing : {s : Tree} → ps ≡ part s none → lead ps ≡ kind.Literal → Chosen w g ps module_item kind.ImportDeclaration made.import_nothing
  import_space : {n s : Tree} → ps ≡ part n (part s none) → lead ps ≡ kind.ImportNamespaceSpecifier → Chosen w g ps module_item kind.ImportDeclaration made.import_space
  import_names : lead ps ≡ kind.ImportSpecifier → Chosen w g ps module_item kind.ImportDeclaration made.import_names
  import_default : {n s : Tree} → ps ≡ part n (part s none) → lead ps ≡ kind.ImportDefaultSpecifier → kind_of s ≡ kind.Literal → Chosen w g ps module_item kind.ImportDeclaration made.import_default
  import_default_nothing : {n s : Tree} → ps ≡ part n (part s none) → lead ps ≡ kind.ImportDefaultSpecifier → kind_of s ≡ kind.Literal → Chosen w g ps module_item kind.ImportDeclaration made.import_default_nothing
  import_default_space : {n m s : Tree} → ps ≡ part n (part m (part s none)) → lead ps ≡ kind.ImportDefaultSpecifier → kind_of m ≡ kind.ImportNamespaceSpecifier → Chosen w g ps module_item kind.ImportDeclaration made.import_default_space
  import_default_names : {n : Tree} {qs : Parts} → ps ≡ part n qs → lead ps ≡ kind.ImportDefaultSpecifier → lead qs ≡ kind.ImportSpecifier → Chosen w g ps module_item kind.ImportDeclaration made.import_default_names
  export_declaration : {n : Tree} → ps ≡ part n (gap none) → Chosen w g ps module_item kind.ExportNamedDeclaration made.export_declaration
  export_names : {qs : Parts} → ps ≡ gap qs → Chosen w g ps module_item kind.ExportNamedDeclaration made.export_names
  export_default : {n : Tree} → ps ≡ part n none → Chosen w g ps module_item kind.ExportDefaultDeclaration made.export_default
  export_all : {s : Tree} → ps ≡ gap (part s none) → Chosen w g ps module_item kind.ExportAllDeclaration made.export_all
  export_space : {n s : Tree} → ps ≡ part n (part s none) → Chosen w g ps module_item kind.ExportAllDeclaration made.export_space
  default_name : {n : Tree} → ps ≡ part n none → Chosen w g ps specifier kind.ImportDefaultSpecifier made.one_name
  all_names : {n : Tree} → ps ≡ part n none → Chosen w g ps specifier kind.ImportNamespaceSpecifier made.all_names
  imported_name : {n : Tree} → g.form ≡ method_form.Shorthand → ps ≡ part n none → Chosen w g ps specifier kind.ImportSpecifier made.one_name
  imported_as : {n m : Tree} → g.form ≡ method_form.Init → ps ≡ part n (part m none) → Chosen w g ps specifier kind.ImportSpecifier made.name_as_name
  exported_name : {n : Tree} → g.form ≡ method_form.Shorthand → ps ≡ part n none → Chosen w g ps specifier kind.ExportSpecifier made.one_module_name
  exported_as : {n m : Tree} → g.form ≡ method_form.Init → ps ≡ part n (part m none) → Chosen w g ps specifier kind.ExportSpecifier made.name_as_module_name
  default_function : Chosen w g ps default_item kind.FunctionDeclaration (made.function g.form)
  default_class : Chosen w g ps default_item kind.ClassDeclaration made.class
  -- a text's language is that of its Program
  whole_script : (is_empty w || is w "2022") ≡ true → Chosen w g ps script kind.Program made.script
  whole_module : is w "module" ≡ true → Chosen w g ps script kind.Program made.module_script
