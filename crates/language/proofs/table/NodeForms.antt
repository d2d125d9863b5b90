-- How an expression is spelled, as the form of a production.
use Rattle.std.proofs.Common.{◌≡◌, ℕ, Bool, true, false, cond, List, [], ◌∷◌, ◌++◌, refl, ap, codes}
use Rattle.std.specs.Prelude.{not, ◌&&◌}
use Rattle.std.proofs.lemmas.Bool.{and_parts, and_from}
use Rattle.tree.specs.declared.kind.Kind.{Kind}
use Rattle.tree.specs.declared.kind.Kind.TheVariants as kind
use Rattle.language.specs.declared.Rank.{Rank}
use Rattle.language.specs.declared.Rank.TheVariants.{Expression, Assignment, Conditional, ShortCircuit, Exponentiation, Unary, Update, LeftHandSide, New, Call, Member, Primary}
use Rattle.language.specs.declared.Start.TheVariants.{Any}
use Rattle.tokens.specs.declared.token.TokenClass.TheVariants.{IdentifierName, Keyword, Punctuator}
use Rattle.tree.specs.declared.kind.Flags.{Flags}
use Rattle.tree.specs.Tree.{Tree, Parts, none, part, kind_of}
use Rattle.language.specs.FirstPart.{lead as lead_kind, others}
use Rattle.language.specs.Vocabulary.{is, among, Operator, op_binary, op_power, op_assign, op_update, operator_of, is_update_op, is_assign_op, is_update_operator, is_assignment, is_word_operator, is_prefix, is_reserved, literal_class, is_name, is_target, is_pattern, is_identifier, is_private, is_super}
use Rattle.language.specs.Pieces.{expr, name, word, base, tagged_quasi, apart, left, lead, tail, callee, lead_chain, lead_pattern, put, tok, unbroken, sub, lay, Spelling, at, sign, term, sp, is_none, listed, elements, argument, parameters}
use Rattle.language.specs.Expressions.{expressions, assignment, arguments, after_number, selector, first_has_optional, template_elements, object_part, function_pieces, class_pieces, arrow_words, arrow_end, infix_pieces, joined, private_in, sequence, lead_is, arrow_opening, arrow_closing}
use Rattle.language.specs.Derivation.{Among}
use Rattle.language.specs.Chosen as chosen
use Rattle.language.specs.Chosen.{Chosen}
use Rattle.language.specs.Forms.{Production, form, spelling_of}
use Rattle.language.proofs.table.EveryWay.{formed_expression, formed_function, formed_class, formed_short_arrow, formed_private}

-- a spelling of an expression, and the production whose form it is
pub record Made (k : Kind) (w : List ℕ) (g : Flags) (ps : Parts) (x : Spelling) : Type 0 where
  pub production : Production
  pub chosen : Chosen w g ps (expr Expression true Any) k production
  pub is : x ≡ spelling_of (form production) w g ps

-- each way of the table is so
pub made : (k : Kind) {w : List ℕ} {g : Flags} {ps : Parts} {x : Spelling} → Among x (expressions k w g ps) → Made k w g ps x
made k h = let u = formed_expression k {y = Expression} {i = true} {f = Any} h in record { production = u.production; chosen = u.chosen; is = u.is }

-- What the conditions of updates, prefixes and assignments say.
pub absent_is_false : (b : Bool) → not b ≡ false → b ≡ true
absent_is_false true e = refl
absent_is_false false e = cc

present_is_true : (b : Bool) → b ≡ true → not b ≡ false
present_is_true true e = refl
present_is_true false e = cc

update_of : (o : Operator) → is_update_op o ≡ true → o ≡ op_update
update_of op_update e = refl
update_of _ e = cc

assign_of : (o : Operator) → is_assign_op o ≡ true → o ≡ op_assign
assign_of op_assign e = refl
assign_of _ e = cc

pub steps_target : (w : List ℕ) (k : Kind) → not (is_update_operator w && is_target k) ≡ false → (operator_of w ≡ op_update) × (is_target k ≡ true)
steps_target w k e = let u = and_parts _ _ (absent_is_false _ e) in (update_of _ u.0, u.1)

pub assigns : (w : List ℕ) → not (is_assignment w) ≡ false → operator_of w ≡ op_assign
assigns w e = assign_of _ (absent_is_false _ e)

pub is_prefixed : (w : List ℕ) → not (is_prefix w) ≡ false → is_prefix w ≡ true
is_prefixed w e = absent_is_false _ e

pattern_no_target : (k : Kind) → is_pattern k ≡ true → is_target k ≡ false
pattern_no_target kind.ArrayPattern h = refl
pattern_no_target kind.ObjectPattern h = refl
pattern_no_target _ h = cc

module _ {w : List ℕ} {g : Flags} {ps : Parts} where
  -- the form of a chosen production
  pub by_form : {k : Kind} {p : Production} → Chosen w g ps (expr Expression true Any) k p → Made k w g ps (spelling_of (form p) w g ps)
  by_form {p = p} c = record { production = p; chosen = c; is = refl }

  -- The forms with which derivations are put together.
  pub identifier : is_reserved w ≡ false → Made kind.Identifier w g ps (at Primary (tok IdentifierName w ∷ []))
  identifier h = by_form (chosen.identifier h)

  pub literal : (is_name (literal_class w) && not (among w ("true" ∷ "false" ∷ "null" ∷ []))) ≡ false → Made kind.Literal w g ps (at Primary (tok (literal_class w) w ∷ []))
  literal h = by_form (chosen.literal h)

  pub this : Made kind.ThisExpression w g ps (at Primary (term "this" ∷ []))
  this = by_form chosen.this

  pub array : Made kind.ArrayExpression w g ps (at Primary ((sign "[" ∷ elements argument ps) ++ sign "]" ∷ []))
  array = by_form chosen.array

  pub object : Made kind.ObjectExpression w g ps (at Primary ((sign "{" ∷ listed object_part ps) ++ sign "}" ∷ []))
  object = by_form chosen.object

  pub function : Made kind.FunctionExpression w g ps (at Primary (function_pieces g.form ps))
  function = record { production = _; chosen = chosen.function; is = formed_function g.form w g ps }

  pub class : Made kind.ClassExpression w g ps (at Primary (class_pieces ps))
  class = record { production = _; chosen = chosen.class; is = formed_class w g ps }

  pub template : Made kind.TemplateLiteral w g ps (at Primary (template_elements true ps))
  template = by_form chosen.template

  pub arrow : Made kind.ArrowFunctionExpression w g ps (at Assignment (arrow_words g.form ++ arrow_opening g.form ∷ parameters (arrow_closing g.form ∷ arrow_end g) ps))
  arrow = by_form chosen.arrow

  pub tagged : Made kind.TaggedTemplateExpression w g ps (at Member (sub callee ∷ put tagged_quasi ∷ []))
  tagged = by_form chosen.tagged

  pub super_member : g.optional ≡ false → is_super (lead_kind ps) ≡ true → Made kind.MemberExpression w g ps (at Member (put base ∷ selector g kind.Identifier))
  super_member o s = by_form (chosen.super_member o s)

  pub member : g.optional ≡ false → is_super (lead_kind ps) ≡ false → Made kind.MemberExpression w g ps (at Member (sub callee ∷ after_number ps g ++ selector g (lead_kind (others ps))))
  member o s = by_form (chosen.member_access o s)

  pub super_call : g.optional ≡ false → is_super (lead_kind ps) ≡ true → Made kind.CallExpression w g ps (at Call (put base ∷ arguments (others ps)))
  super_call o s = by_form (chosen.super_call o s)

  pub call : g.optional ≡ false → is_super (lead_kind ps) ≡ false → Made kind.CallExpression w g ps (at Call (sub (lead Call) ∷ arguments (others ps)))
  call o s = by_form (chosen.call o s)

  pub new_with : Made kind.NewExpression w g ps (at Member (term "new" ∷ sp ∷ put (expr Member true Any) ∷ arguments (others ps)))
  new_with = by_form chosen.new_with

  pub new_without : is_none (others ps) ≡ true → Made kind.NewExpression w g ps (at New (term "new" ∷ sp ∷ put (expr New true Any) ∷ []))
  new_without h = by_form (chosen.new_without h)

  pub new_target : (lead_is ps "new" && lead_is (others ps) "target") ≡ true → Made kind.MetaProperty w g ps (at Member (put word ∷ sign "." ∷ put word ∷ []))
  new_target h = by_form (chosen.new_target h)

  pub import_meta : (lead_is ps "import" && lead_is (others ps) "meta") ≡ true → Made kind.MetaProperty w g ps (at Member (put word ∷ sign "." ∷ put word ∷ []))
  import_meta h = by_form (chosen.import_meta h)

  pub chain : first_has_optional ps ≡ true → Made kind.ChainExpression w g ps (at LeftHandSide (sub lead_chain ∷ []))
  chain h = by_form (chosen.chain h)

  pub prefix : operator_of w ≡ op_update → is_target (lead_kind ps) ≡ true → g.prefix ≡ true → Made kind.UpdateExpression w g ps (at Update (tok Punctuator w ∷ lay (apart (cond (is w "++") 43 45)) ∷ put (expr LeftHandSide true Any) ∷ []))
  prefix h t p = by_form (chosen.prefix (present_is_true _ (and_from _ _ (ap is_update_op h) t)) p)

  pub postfix : operator_of w ≡ op_update → is_target (lead_kind ps) ≡ true → g.prefix ≡ false → Made kind.UpdateExpression w g ps (at Update (sub (lead LeftHandSide) ∷ unbroken ∷ tok Punctuator w ∷ []))
  postfix h t p = by_form (chosen.postfix (present_is_true _ (and_from _ _ (ap is_update_op h) t)) p)

  pub unary_word : is_prefix w ≡ true → is_word_operator w ≡ true → Made kind.UnaryExpression w g ps (at Unary (tok IdentifierName w ∷ sp ∷ put (expr Unary true Any) ∷ []))
  unary_word h v = by_form (chosen.unary_word (present_is_true _ h) v)

  pub unary_sign : is_prefix w ≡ true → is_word_operator w ≡ false → Made kind.UnaryExpression w g ps (at Unary (tok Punctuator w ∷ cond (is w "+") (lay (apart 43) ∷ []) (cond (is w "-") (lay (apart 45) ∷ []) []) ++ put (expr Unary true Any) ∷ []))
  unary_sign h v = by_form (chosen.unary_sign (present_is_true _ h) v)

  pub await : Made kind.AwaitExpression w g ps (at Unary (tok Keyword (codes "await") ∷ sp ∷ put (expr Unary true Any) ∷ []))
  await = by_form chosen.await

  pub private_left : is_private (lead_kind ps) ≡ true → is w "in" ≡ true → Made kind.BinaryExpression w g ps private_in
  private_left p h = record { production = _; chosen = chosen.private_left p h; is = formed_private w g ps h }

  pub power : is_private (lead_kind ps) ≡ false → operator_of w ≡ op_power → Made kind.BinaryExpression w g ps (at Exponentiation (sub (lead Update) ∷ infix_pieces w ++ put (expr Exponentiation true Any) ∷ []))
  power p h = by_form (chosen.power p h)

  pub binary : {z q : Rank} → is_private (lead_kind ps) ≡ false → operator_of w ≡ op_binary false z q → Made kind.BinaryExpression w g ps (joined w z q)
  binary p h = by_form (chosen.binary p h)

  pub logical : {z q : Rank} → operator_of w ≡ op_binary true z q → Made kind.LogicalExpression w g ps (joined w z q)
  logical h = by_form (chosen.logical h)

  pub conditional : Made kind.ConditionalExpression w g ps (at Conditional (sub (left ShortCircuit) ∷ sp ∷ sign "?" ∷ sp ∷ assignment ∷ sp ∷ sign ":" ∷ sp ∷ sub (tail Assignment Any) ∷ []))
  conditional = by_form chosen.conditional

  pub assign : operator_of w ≡ op_assign → is_target (lead_kind ps) ≡ true → Made kind.AssignmentExpression w g ps (at Assignment (sub (lead LeftHandSide) ∷ infix_pieces w ++ sub (tail Assignment Any) ∷ []))
  assign h t = by_form (chosen.assign (present_is_true _ (ap is_assign_op h)) t)

  pub assign_pattern : operator_of w ≡ op_assign → is w "=" ≡ true → is_pattern (lead_kind ps) ≡ true → Made kind.AssignmentExpression w g ps (at Assignment (sub lead_pattern ∷ infix_pieces w ++ sub (tail Assignment Any) ∷ []))
  assign_pattern h e p = by_form (chosen.assign_pattern (present_is_true _ (ap is_assign_op h)) (pattern_no_target _ p) (and_from _ _ e p))

  pub several : is_none (others ps) ≡ false → Made kind.SequenceExpression w g ps (at Expression (sub (left Assignment) ∷ sequence (others ps)))
  several h = by_form (chosen.several h)

pub short_arrow : {w : List ℕ} {g : Flags} {n b : Tree} → is_identifier (kind_of n) ≡ true → Made kind.ArrowFunctionExpression w g (part n (part b none)) (at Assignment (arrow_words g.form ++ put name ∷ arrow_end g))
short_arrow {w} {g} {n} {b} h = record { production = _; chosen = chosen.short_arrow refl h; is = formed_short_arrow w g (part n (part b none)) }
