-- Every way of the table has a form.
use Rattle.std.proofs.Common.{◌≡◌, ℕ, Bool, true, false, cond, List, [], ◌∷◌, ◌++◌, refl, sym, ap, ◌∙◌, append_assoc}
use Rattle.std.specs.Prelude.{Option, Some, None, ◌&&◌, ◌||◌, codes}
use Rattle.std.proofs.lemmas.Slice.Eq.{bytes_eq-Decides}
use Rattle.tree.specs.Uses.{is_empty}
use Rattle.tree.specs.declared.kind.Kind.{Kind}
use Rattle.tree.specs.declared.kind.Kind.TheVariants as kind
use Rattle.tree.specs.declared.kind.Form.{Form as MethodForm}
use Rattle.tree.specs.declared.kind.Form.TheVariants as method_form
use Rattle.tree.specs.declared.kind.Flags.{Flags}
use Rattle.tree.specs.Tree.{Tree, node, Parts, none, part, gap, kind_of, text_of, flags_of, parts_of}
use Rattle.language.specs.declared.Rank.TheVariants.{Primary, Assignment, Expression, LeftHandSide}
use Rattle.language.specs.declared.Rank.{Rank}
use Rattle.language.specs.declared.Start.{Start}
use Rattle.language.specs.declared.Start.TheVariants.{Any, NoBrace}
use Rattle.language.specs.FirstPart.{lead as lead_kind, others}
use Rattle.language.specs.Vocabulary.{is, Operator, op_binary, op_power, operator_of, is_identifier, is_private, is_super, is_word_operator, is_target, is_pattern}
use Rattle.language.specs.Edges.{ends_in_if}
use Rattle.language.specs.Pieces.{Role, expr, chain_part, name, word, private_name, key, shorthand_key, base, directive_string, tagged_quasi, template_element, spread, property, pattern, pattern_property, element, rest, method, body, statement, item, opening, block, head, declarator, switch_case, handler, class_body, member, module_item, specifier, default_item, script, Piece, many, sub, tail, lay, unbroken, parameters, deeper, shallower, line, put, put_at, at, Spelling, sign, term, sp, only_at, is_none}
use Rattle.language.specs.Expressions.{methods, expressions, chain_parts, first_has_optional, assignment, keyed, properties, pattern_properties, shorthand_pattern, op_arrow, arrow_words, arrow_end, binary_ways, private_in, logical_ways, yields, method_words, value_form, function_words, function_pieces, class_pieces, given, arrow_opening, arrow_closing}
use Rattle.language.specs.Statements.{statements, items, openings, declarator_ways, members, class_keyed, static_word, fields, imports, module_items, specifiers, lines, prologue, braced, whole, is_declaration, member_lines, first_is_string}
use Rattle.language.specs.Grammar.{spellings}
use Rattle.language.specs.Derivation.{Among, first, later}
use Rattle.language.specs.Chosen as chosen
use Rattle.language.specs.Chosen.{Chosen, IsStatement, IsItem}
use Rattle.language.specs.Forms as made
use Rattle.language.specs.Forms.{Production, form, spelling_of, body_pieces}
use Rattle.language.proofs.table.InLists.{one, unless, cases}

-- a way, by its production
pub record Formed (a : Role) (k : Kind) (w : List ℕ) (g : Flags) (ps : Parts) (x : Spelling) : Type 0 where
  pub production : Production
  pub chosen : Chosen w g ps a k production
  pub is : x ≡ spelling_of (form production) w g ps

module _ {a : Role} {k : Kind} {w : List ℕ} {g : Flags} {ps : Parts} {x : Spelling} where
  found : {p : Production} → Chosen w g ps a k p → x ≡ spelling_of (form p) w g ps → Formed a k w g ps x
  found {p} c e = record { production = p; chosen = c; is = e }

  by : {p : Production} → Chosen w g ps a k p → {y : Spelling} → y ≡ spelling_of (form p) w g ps → Among x (y ∷ []) → Formed a k w g ps x
  by c e h = found c (one h ∙ e)

  -- where a test lets it through
  through : (b : Bool) {xs : List Spelling} → Among x (cond b xs []) → (b ≡ true → Among x xs → Formed a k w g ps x) → Formed a k w g ps x
  through b h f = cases b h f (λ e k. elim k [ ])

  -- behind a first part whose position may be none
  by_first : {p : Production} → Chosen w g ps a k p → (o : Option Role) (qs : List Piece) → at Primary (put_at o ∷ qs) ≡ spelling_of (form p) w g ps → Among x (only_at o qs) → Formed a k w g ps x
  by_first c (Some o) qs e h = by c e h
  by_first c None qs e h = elim h [ ]

-- lists of lists, from the left and from the right
braced_flat : (c xs d ys : List Piece) → ((c ++ xs) ++ d) ++ ys ≡ c ++ (xs ++ (d ++ ys))
braced_flat c xs d ys = append_assoc (c ++ xs) d ys ∙ append_assoc c xs (d ++ ys)

-- one of two pieces, and one of two lists
pub one_of : (b : Bool) (p q : Piece) → cond b p q ∷ [] ≡ cond b (p ∷ []) (q ∷ [])
one_of true p q = refl
one_of false p q = refl

pub formed_short_arrow : (w : List ℕ) (g : Flags) (ps : Parts) → at Assignment (arrow_words g.form ++ put name ∷ arrow_end g) ≡ spelling_of (form (made.short_arrow g.form)) w g ps
formed_short_arrow w g ps = ap (λ z. at Assignment (arrow_words g.form ++ put name ∷ unbroken ∷ sp ∷ sign "=>" ∷ sp ∷ z)) (one_of g.expression (sub (tail Assignment NoBrace)) (put body))

-- `#x in a`
pub formed_private : (w : List ℕ) (g : Flags) (ps : Parts) → is w "in" ≡ true → private_in ≡ spelling_of (form made.private_left) w g ps
formed_private w g ps h = sym (ap (λ v. spelling_of (form made.private_left) v g ps) ((bytes_eq-Decides w (codes "in")).0 h))

module _ {y : Rank} {i : Bool} {f : Start} {w : List ℕ} {g : Flags} where
  formed_binary : {ps : Parts} {x : Spelling} → is_private (lead_kind ps) ≡ false → (o : Operator) → operator_of w ≡ o → Among x (binary_ways w o) → Formed (expr y i f) kind.BinaryExpression w g ps x
  formed_binary p (op_binary true z q) e h = elim h [ ]
  formed_binary p (op_binary false z q) e h = by (chosen.binary p e) refl h
  formed_binary p op_power e h = by (chosen.power p e) refl h
  formed_binary p _ e h = elim h [ ]

  formed_logical : {ps : Parts} {x : Spelling} (o : Operator) → operator_of w ≡ o → Among x (logical_ways w o) → Formed (expr y i f) kind.LogicalExpression w g ps x
  formed_logical (op_binary false z q) e h = elim h [ ]
  formed_logical (op_binary true z q) e h = by (chosen.logical e) refl h
  formed_logical _ e h = elim h [ ]

  formed_short : {n b : Tree} {x : Spelling} (c : Bool) → is_identifier (kind_of n) ≡ c →
      Among x (cond c (at Assignment (arrow_words g.form ++ put name ∷ arrow_end g) ∷ []) [] ++ at Assignment (arrow_words g.form ++ arrow_opening g.form ∷ parameters (arrow_closing g.form ∷ arrow_end g) (part n (part b none))) ∷ []) →
      Formed (expr y i f) kind.ArrowFunctionExpression w g (part n (part b none)) x
  formed_short {n = n} {b = b} true e first = found (chosen.short_arrow refl e) (formed_short_arrow w g (part n (part b none)))
  formed_short true e (later h) = by chosen.arrow refl h
  formed_short false e h = by chosen.arrow refl h

  formed_arrow : (ps : Parts) {x : Spelling} → Among x (op_arrow g ps) → Formed (expr y i f) kind.ArrowFunctionExpression w g ps x
  formed_arrow none h = by chosen.arrow refl h
  formed_arrow (gap ps) h = by chosen.arrow refl h
  formed_arrow (part n none) h = by chosen.arrow refl h
  formed_arrow (part n (gap ps)) h = by chosen.arrow refl h
  formed_arrow (part n (part b (part m ps))) h = by chosen.arrow refl h
  formed_arrow (part n (part b (gap ps))) h = by chosen.arrow refl h
  formed_arrow (part n (part b none)) h = formed_short (is_identifier (kind_of n)) refl h

  formed_yield : (z : MethodForm) (ps : Parts) {x : Spelling} → g.form ≡ z → Among x (yields z ps) → Formed (expr y i f) kind.YieldExpression w g ps x
  formed_yield method_form.Init (gap none) e h = by (chosen.yield_alone e refl) refl h
  formed_yield method_form.Init (part n none) e h = by (chosen.yield_operand e refl) refl h
  formed_yield method_form.Generator (part n none) e h = by (chosen.yield_from e refl) refl h
  formed_yield _ ps e h = elim h [ ]

pub formed_function : (x : MethodForm) (w : List ℕ) (g : Flags) (ps : Parts) → at Primary (function_pieces x ps) ≡ spelling_of (form (made.function x)) w g ps
formed_function x w g ps = ap (λ z. at Primary z) (append_assoc (function_words x) (sp ∷ given ps (put name ∷ [])) (sign "(" ∷ parameters body_pieces (others ps)))

pub formed_class : (w : List ℕ) (g : Flags) (ps : Parts) → at Primary (class_pieces ps) ≡ spelling_of (form made.class) w g ps
formed_class w g ps = ap (λ z. at Primary (term "class" ∷ sp ∷ z)) (append_assoc (given ps (put name ∷ sp ∷ [])) (given (others ps) (term "extends" ∷ sp ∷ put (expr LeftHandSide true Any) ∷ sp ∷ [])) (put class_body ∷ []))

pub formed_braced : (ps : Parts) (before xs : List Piece) → at Primary (before ++ braced ps xs) ≡ at Primary (before ++ (sign "{" ∷ (cond (is_none ps) [] (lay deeper ∷ []) ++ (xs ++ (cond (is_none ps) [] (lay shallower ∷ lay line ∷ []) ++ sign "}" ∷ [])))))
formed_braced ps before xs = ap (λ z. at Primary (before ++ (sign "{" ∷ z))) (braced_flat (cond (is_none ps) [] (lay deeper ∷ [])) xs (cond (is_none ps) [] (lay shallower ∷ lay line ∷ [])) (sign "}" ∷ []))

pub formed_expression : (k : Kind) {y : Rank} {i : Bool} {f : Start} {w : List ℕ} {g : Flags} {ps : Parts} {x : Spelling} → Among x (expressions k w g ps) → Formed (expr y i f) k w g ps x
unfolding expressions
formed_expression kind.Identifier h = unless _ h (λ e. by (chosen.identifier e) refl)
formed_expression kind.Literal h = unless _ h (λ e. by (chosen.literal e) refl)
formed_expression kind.ThisExpression h = by chosen.this refl h
formed_expression kind.ArrayExpression h = by chosen.array refl h
formed_expression kind.ObjectExpression h = by chosen.object refl h
formed_expression kind.FunctionExpression {w = w} {g = g} {ps = ps} h = by chosen.function (formed_function g.form w g ps) h
formed_expression kind.ClassExpression {w = w} {g = g} {ps = ps} h = by chosen.class (formed_class w g ps) h
formed_expression kind.TemplateLiteral h = by chosen.template refl h
formed_expression kind.ArrowFunctionExpression {ps = ps} h = formed_arrow ps h
formed_expression kind.TaggedTemplateExpression h = by chosen.tagged refl h
formed_expression kind.MemberExpression {g = g} {ps = ps} h = unless g.optional h (λ e k. cases (is_super (lead_kind ps)) k (λ d. by (chosen.super_member e d) refl) (λ d. by (chosen.member_access e d) refl))
formed_expression kind.CallExpression {g = g} {ps = ps} h = unless g.optional h (λ e k. cases (is_super (lead_kind ps)) k (λ d. by (chosen.super_call e d) refl) (λ d. by (chosen.call e d) refl))
formed_expression kind.NewExpression first = found chosen.new_with refl
formed_expression kind.NewExpression (later h) = through _ h (λ e. by (chosen.new_without e) refl)
formed_expression kind.MetaProperty h = cases _ h (λ e. by (chosen.new_target e) refl) (λ e k. through _ k (λ d. by (chosen.import_meta d) refl))
formed_expression kind.ImportExpression h = by chosen.import_call refl h
formed_expression kind.ChainExpression h = through _ h (λ e. by (chosen.chain e) refl)
formed_expression kind.UpdateExpression {g = g} h = unless _ h (λ e k. cases g.prefix k (λ d. by (chosen.prefix e d) refl) (λ d. by (chosen.postfix e d) refl))
formed_expression kind.UnaryExpression {w = w} h = unless _ h (λ e k. cases (is_word_operator w) k (λ d. by (chosen.unary_word e d) refl) (λ d. by (chosen.unary_sign e d) refl))
formed_expression kind.AwaitExpression h = by chosen.await refl h
formed_expression kind.YieldExpression {g = g} {ps = ps} h = formed_yield g.form ps refl h
formed_expression kind.BinaryExpression {w = w} {g = g} {ps = ps} h = cases (is_private (lead_kind ps)) h (λ p k. through (is w "in") k (λ e. by (chosen.private_left p e) (formed_private w g ps e))) (λ p. formed_binary p (operator_of w) refl)
formed_expression kind.LogicalExpression {w = w} h = formed_logical (operator_of w) refl h
formed_expression kind.ConditionalExpression h = by chosen.conditional refl h
formed_expression kind.AssignmentExpression {w = w} {ps = ps} h = unless _ h (λ e k. cases (is_target (lead_kind ps)) k (λ d. by (chosen.assign e d) refl) (λ d l. through (is w "=" && is_pattern (lead_kind ps)) l (λ c. by (chosen.assign_pattern e d c) refl)))
formed_expression kind.SequenceExpression h = unless _ h (λ e. by (chosen.several e) refl)
formed_expression _ h = elim h [ ]

formed_chain : (k : Kind) {f : Start} {w : List ℕ} {g : Flags} {ps : Parts} {x : Spelling} → Among x (chain_parts k g ps) → Formed (chain_part f) k w g ps x
formed_chain kind.MemberExpression {g = g} {ps = ps} h = cases (first_has_optional ps) h (λ e. by (chosen.chain_member e) refl) (λ e k. through g.optional k (λ d. by (chosen.chain_first_member e d) refl))
formed_chain kind.CallExpression {g = g} {ps = ps} h = cases (first_has_optional ps) h (λ e. by (chosen.chain_call e) refl) (λ e k. through g.optional k (λ d. by (chosen.chain_first_call e d) refl))
formed_chain _ h = elim h [ ]

-- the three parts in the head of a `for`
for_flat : (xs ys zs : List Piece) (p q : Piece) (ts : List Piece) → ((xs ++ p ∷ ys) ++ q ∷ zs) ++ ts ≡ xs ++ (p ∷ (ys ++ (q ∷ (zs ++ ts))))
for_flat xs ys zs p q ts = append_assoc (xs ++ p ∷ ys) (q ∷ zs) ts ∙ append_assoc xs (p ∷ ys) (q ∷ (zs ++ ts))

pub formed_for : (r : Bool) (w : List ℕ) (g : Flags) (ps : Parts) →
    at Primary ((term "for" ∷ sp ∷ sign "(" ∷ given ps (put (cond (is_declaration (lead_kind ps)) (head true) (expr Expression false Any)) ∷ [])) ++ sign ";" ∷ given (others ps) (sp ∷ whole ∷ []) ++ sign ";" ∷ given (others (others ps)) (sp ∷ whole ∷ []) ++ sign ")" ∷ sp ∷ put (statement r) ∷ [])
    ≡ spelling_of (form (made.for_loop r)) w g ps
formed_for r w g ps = ap (λ z. at Primary (term "for" ∷ sp ∷ sign "(" ∷ z)) (for_flat (given ps (put (cond (is_declaration (lead_kind ps)) (head true) (expr Expression false Any)) ∷ [])) (given (others ps) (sp ∷ whole ∷ [])) (given (others (others ps)) (sp ∷ whole ∷ [])) (sign ";") (sign ";") (sign ")" ∷ sp ∷ put (statement r) ∷ []))

formed_statement : (r : Bool) {a : Role} → IsStatement r a → (k : Kind) {w : List ℕ} {g : Flags} (ps : Parts) {x : Spelling} → Among x (statements r k w g ps) → Formed a k w g ps x
unfolding statements
formed_statement r s kind.BlockStatement ps h = by (chosen.of_statement s chosen.block_statement) (formed_braced ps [] (lines (item r) ps)) h
formed_statement r s kind.VariableDeclaration ps h = through _ h (λ e. by (chosen.of_statement s (chosen.var_variables e)) refl)
formed_statement r s kind.EmptyStatement ps h = by (chosen.of_statement s chosen.empty) refl h
formed_statement r s kind.ExpressionStatement ps h = unless _ h (λ e. by (chosen.of_statement s (chosen.expression_statement e)) refl)
formed_statement r s kind.IfStatement (part t (part c (gap none))) h = by (chosen.of_statement s (chosen.if_alone refl)) refl h
formed_statement r s kind.IfStatement (part t (part c (part a none))) h = unless (ends_in_if c) h (λ e. by (chosen.of_statement s (chosen.if_else refl e)) refl)
formed_statement r s kind.IfStatement none h = elim h [ ]
formed_statement r s kind.IfStatement (gap ps) h = elim h [ ]
formed_statement r s kind.IfStatement (part t none) h = elim h [ ]
formed_statement r s kind.IfStatement (part t (gap ps)) h = elim h [ ]
formed_statement r s kind.IfStatement (part t (part c none)) h = elim h [ ]
formed_statement r s kind.IfStatement (part t (part c (gap (part n ps)))) h = elim h [ ]
formed_statement r s kind.IfStatement (part t (part c (gap (gap ps)))) h = elim h [ ]
formed_statement r s kind.IfStatement (part t (part c (part a (part n ps)))) h = elim h [ ]
formed_statement r s kind.IfStatement (part t (part c (part a (gap ps)))) h = elim h [ ]
formed_statement r s kind.DoWhileStatement ps h = by (chosen.of_statement s chosen.do_while) refl h
formed_statement r s kind.WhileStatement ps h = by (chosen.of_statement s chosen.while) refl h
formed_statement r s kind.ForStatement {w = w} {g = g} ps h = by (chosen.of_statement s chosen.for_loop) (formed_for r w g ps) h
formed_statement r s kind.ForInStatement ps h = by (chosen.of_statement s chosen.for_in) refl h
formed_statement r s kind.ForOfStatement ps h = by (chosen.of_statement s chosen.for_of) refl h
formed_statement r s kind.ContinueStatement ps h = by (chosen.of_statement s chosen.continue) refl h
formed_statement r s kind.BreakStatement ps h = by (chosen.of_statement s chosen.break) refl h
formed_statement true s kind.ReturnStatement ps h = by (chosen.of_statement s chosen.return) refl h
formed_statement false s kind.ReturnStatement ps h = elim h [ ]
formed_statement r s kind.ThrowStatement ps h = by (chosen.of_statement s chosen.throw) refl h
formed_statement r s kind.LabeledStatement ps h = by (chosen.of_statement s chosen.labeled) refl h
formed_statement r s kind.SwitchStatement ps h = through _ h (λ e. by (chosen.of_statement s (chosen.switch e)) (formed_braced (others ps) (term "switch" ∷ sp ∷ sign "(" ∷ whole ∷ sign ")" ∷ sp ∷ []) (lines (switch_case r) (others ps))))
formed_statement r s kind.TryStatement (part b (part t (gap none))) h = by (chosen.of_statement s (chosen.try_catch refl)) refl h
formed_statement r s kind.TryStatement (part b (part t (part f none))) h = by (chosen.of_statement s (chosen.try_both refl)) refl h
formed_statement r s kind.TryStatement (part b (gap (part f none))) h = by (chosen.of_statement s (chosen.try_finally refl)) refl h
formed_statement r s kind.TryStatement _ h = elim h [ ]
formed_statement r s kind.DebuggerStatement ps h = by (chosen.of_statement s chosen.debugger) refl h
formed_statement r s _ ps h = elim h [ ]

as_statement : {r : Bool} {a : Role} → IsItem r a → IsStatement r a
as_statement chosen.at_item = chosen.at_item
as_statement chosen.at_opening = chosen.at_opening

formed_item : (r : Bool) {a : Role} → IsItem r a → (k : Kind) {w : List ℕ} {g : Flags} (ps : Parts) {x : Spelling} → Among x (items r k w g ps) → Formed a k w g ps x
unfolding items
formed_item r s kind.FunctionDeclaration {w = w} {g = g} (part n ps) h = by (chosen.of_declaration s (chosen.function_declaration refl)) (formed_function g.form w g (part n ps)) h
formed_item r s kind.FunctionDeclaration _ h = elim h [ ]
formed_item r s kind.ClassDeclaration {w = w} {g = g} (part n ps) h = by (chosen.of_declaration s (chosen.class_declaration refl)) (formed_class w g (part n ps)) h
formed_item r s kind.ClassDeclaration _ h = elim h [ ]
formed_item r s kind.VariableDeclaration ps h = through _ h (λ e. by (chosen.of_declaration s (chosen.variables e)) refl)
formed_item r s k ps h = formed_statement r (as_statement s) k ps h

formed_opening : (r : Bool) (k : Kind) {w : List ℕ} {g : Flags} (ps : Parts) {x : Spelling} → Among x (openings r k w g ps) → Formed (opening r) k w g ps x
unfolding openings
formed_opening r kind.ExpressionStatement {g = g} ps h = cases g.directive h (λ e k. through (first_is_string ps) k (λ d. by (chosen.directive e d) refl)) (λ e k. cases (first_is_string ps) k (λ d. by (chosen.string_statement e d) refl) (λ d. by (chosen.of_statement chosen.at_opening (chosen.expression_statement e)) refl))
formed_opening r k ps h = formed_item r chosen.at_opening k ps h

-- a key, in brackets or not
keyed_is : (before after : List Piece) (c : Bool) {x : Spelling} → Among x (keyed before c after) → x ≡ at Primary (before ++ (cond c (sign "[" ∷ assignment ∷ sign "]" ∷ []) (put key ∷ []) ++ after))
keyed_is before after true first = refl
keyed_is before after true (later h) = elim h [ ]
keyed_is before after false first = refl
keyed_is before after false (later h) = elim h [ ]

formed_property : (x : MethodForm) {w : List ℕ} {g : Flags} {ps : Parts} {y : Spelling} → g.form ≡ x → Among y (properties g.computed x (value_form ps)) → Formed property kind.Property w g ps y
formed_property method_form.Init {g = g} e h = found (chosen.property_value e) (keyed_is [] _ g.computed h)
formed_property method_form.Method {g = g} {ps = ps} e h = found (chosen.property_method e) (keyed_is (method_words (value_form ps)) _ g.computed h)
formed_property method_form.Get {g = g} e h = found (chosen.property_get e) (keyed_is (term "get" ∷ sp ∷ []) (put (method method_form.Get) ∷ []) g.computed h)
formed_property method_form.Set {g = g} e h = found (chosen.property_set e) (keyed_is (term "set" ∷ sp ∷ []) (put (method method_form.Set) ∷ []) g.computed h)
formed_property method_form.Shorthand e h = unless _ h (λ d. by (chosen.shorthand e d) refl)
formed_property _ e h = elim h [ ]

formed_shorthand : (k : Kind) {b : Bool} {w : List ℕ} {g : Flags} {ps : Parts} {y : Spelling} → g.form ≡ method_form.Shorthand → g.computed ≡ false → lead_kind (others ps) ≡ k → Among y (shorthand_pattern k) → Formed (pattern_property b) kind.Property w g ps y
formed_shorthand kind.Identifier e d c h = by (chosen.pattern_shorthand e d c) refl h
formed_shorthand kind.AssignmentPattern e d c h = by (chosen.pattern_default e d c) refl h
formed_shorthand _ e d c h = elim h [ ]

formed_pattern_property : (b : Bool) (x : MethodForm) {w : List ℕ} {g : Flags} {ps : Parts} {y : Spelling} → g.form ≡ x → Among y (pattern_properties b g.computed x (lead_kind (others ps))) → Formed (pattern_property b) kind.Property w g ps y
formed_pattern_property b method_form.Init {g = g} e h = found (chosen.pattern_value e) (keyed_is [] _ g.computed h)
formed_pattern_property b method_form.Shorthand e h = unless _ h (λ d. formed_shorthand _ e d refl)
formed_pattern_property b _ e h = elim h [ ]

-- a member's key, in brackets or not
class_keyed_is : (before after : List Piece) (c : Bool) (k : Kind) {x : Spelling} → Among x (class_keyed before c k after) →
    x ≡ at Primary (before ++ (cond c (sign "[" ∷ assignment ∷ sign "]" ∷ []) (put (cond (is_private k) private_name key) ∷ []) ++ after))
class_keyed_is before after true k first = refl
class_keyed_is before after true k (later h) = elim h [ ]
class_keyed_is before after false k first = refl
class_keyed_is before after false k (later h) = elim h [ ]

formed_member : (f : MethodForm) {w : List ℕ} {g : Flags} {ps : Parts} {x : Spelling} → g.form ≡ f → Among x (members (static_word g.is_static) g.computed f (value_form ps) (lead_kind ps)) → Formed member kind.MethodDefinition w g ps x
formed_member method_form.Get {g = g} {ps = ps} c h =
    found (chosen.member_get c) (class_keyed_is (static_word g.is_static ++ term "get" ∷ sp ∷ []) _ g.computed (lead_kind ps) h ∙ ap (at Primary) (append_assoc (static_word g.is_static) (term "get" ∷ sp ∷ []) _))
formed_member method_form.Set {g = g} {ps = ps} c h =
    found (chosen.member_set c) (class_keyed_is (static_word g.is_static ++ term "set" ∷ sp ∷ []) _ g.computed (lead_kind ps) h ∙ ap (at Primary) (append_assoc (static_word g.is_static) (term "set" ∷ sp ∷ []) _))
formed_member _ {g = g} {ps = ps} c h =
    found chosen.member_method (class_keyed_is (static_word g.is_static ++ method_words (value_form ps)) _ g.computed (lead_kind ps) h ∙ ap (at Primary) (append_assoc (static_word g.is_static) (method_words (value_form ps)) _))

formed_field : {w : List ℕ} {g : Flags} (ps : Parts) {x : Spelling} → Among x (fields g ps) → Formed member kind.PropertyDefinition w g ps x
formed_field {g = g} (part n (gap none)) h = found (chosen.field refl) (class_keyed_is (static_word g.is_static) _ g.computed (kind_of n) h)
formed_field {g = g} (part n (part v none)) h = found (chosen.initialised_field refl) (class_keyed_is (static_word g.is_static) _ g.computed (kind_of n) h)
formed_field _ h = elim h [ ]

-- imports and exports
formed_default : {w : List ℕ} {g : Flags} {n : Tree} (qs : Parts) {x : Spelling} → kind_of n ≡ kind.ImportDefaultSpecifier → Among x (imports kind.ImportDefaultSpecifier (part n qs)) → Formed module_item kind.ImportDeclaration w g (part n qs) x
formed_default (part (node kind.ImportNamespaceSpecifier v f st en rs) (part s none)) e h = by (chosen.import_default_space refl e refl) refl h
formed_default (part (node kind.ImportSpecifier v f st en rs) ps) e h = by (chosen.import_default_names refl e refl) refl h
formed_default (part (node kind.Literal v f st en rs) none) e first = found (chosen.import_default refl e refl) refl
formed_default (part (node kind.Literal v f st en rs) none) e (later h) = by (chosen.import_default_nothing refl e refl) refl h
formed_default _ e h = elim h [ ]

formed_import : (k : Kind) {w : List ℕ} {g : Flags} (ps : Parts) {x : Spelling} → lead_kind ps ≡ k → Among x (imports k ps) → Formed module_item kind.ImportDeclaration w g ps x
formed_import kind.Literal (part s none) e first = found (chosen.import_alone refl e) refl
formed_import kind.Literal (part s none) e (later h) = by (chosen.import_nothing refl e) refl h
formed_import kind.ImportNamespaceSpecifier (part n (part s none)) e h = by (chosen.import_space refl e) refl h
formed_import kind.ImportSpecifier ps e h = by (chosen.import_names e) refl h
formed_import kind.ImportDefaultSpecifier (part n qs) e h = formed_default qs e h
formed_import _ ps e h = elim h [ ]

formed_module_item : (k : Kind) {w : List ℕ} {g : Flags} (ps : Parts) {x : Spelling} → Among x (module_items k ps) → Formed module_item k w g ps x
formed_module_item kind.ImportDeclaration ps h = formed_import (lead_kind ps) ps refl h
formed_module_item kind.ExportNamedDeclaration (part d (gap none)) h = by (chosen.export_declaration refl) refl h
formed_module_item kind.ExportNamedDeclaration (gap qs) h = by (chosen.export_names refl) refl h
formed_module_item kind.ExportDefaultDeclaration (part d none) h = by (chosen.export_default refl) refl h
formed_module_item kind.ExportAllDeclaration (gap (part s none)) h = by (chosen.export_all refl) refl h
formed_module_item kind.ExportAllDeclaration (part n (part s none)) h = by (chosen.export_space refl) refl h
formed_module_item _ ps h = elim h [ ]

formed_specifier : (k : Kind) (z : MethodForm) {w : List ℕ} {g : Flags} (ps : Parts) {x : Spelling} → g.form ≡ z → Among x (specifiers k z ps) → Formed specifier k w g ps x
formed_specifier kind.ImportDefaultSpecifier z (part n none) e h = by (chosen.default_name refl) refl h
formed_specifier kind.ImportNamespaceSpecifier z (part n none) e h = by (chosen.all_names refl) refl h
formed_specifier kind.ImportSpecifier method_form.Shorthand (part n none) e h = by (chosen.imported_name e refl) refl h
formed_specifier kind.ImportSpecifier method_form.Init (part m (part n none)) e h = by (chosen.imported_as e refl) refl h
formed_specifier kind.ExportSpecifier method_form.Shorthand (part n none) e h = by (chosen.exported_name e refl) refl h
formed_specifier kind.ExportSpecifier method_form.Init (part m (part n none)) e h = by (chosen.exported_as e refl) refl h
formed_specifier _ z ps e h = elim h [ ]

formed_method : (f : MethodForm) {w : List ℕ} {g : Flags} (ps : Parts) {x : Spelling} → Among x (methods f ps) → Formed (method f) kind.FunctionExpression w g ps x
formed_method method_form.Get (gap (part b none)) h = by (chosen.getter refl) refl h
formed_method method_form.Get _ h = elim h [ ]
formed_method method_form.Set (gap (part n (part b none))) h = unless _ h (λ e. by (chosen.setter refl e) refl)
formed_method method_form.Set _ h = elim h [ ]
formed_method _ (gap ps) h = by (chosen.method_function refl) refl h
formed_method _ _ h = elim h [ ]

formed_declarator : (i b : Bool) {w : List ℕ} {g : Flags} (ps : Parts) {x : Spelling} → Among x (declarator_ways i b kind.VariableDeclarator ps) → Formed (declarator i b) kind.VariableDeclarator w g ps x
formed_declarator i true (part n (part e none)) h = by_first (chosen.initialised refl) _ _ refl h
formed_declarator i false (part n (part e none)) h = elim h [ ]
formed_declarator i b (part n (gap none)) h = unless _ h (λ e. by_first (chosen.bare_declarator refl e) _ _ refl)
formed_declarator i b _ h = elim h [ ]

-- each way of the table is spelled by the form of a production
pub every_way : (a : Role) (n : Tree) {x : Spelling} → Among x (spellings a n) → Formed a (kind_of n) (text_of n) (flags_of n) (parts_of n) x
unfolding spellings
every_way (expr y i f) (node k w g from to ps) h = formed_expression k h
every_way (chain_part f) (node k w g from to ps) h = formed_chain k h
every_way name (node kind.Identifier w g from to ps) h = unless _ h (λ e. by (chosen.a_name e) refl)
every_way name (node _ w g from to ps) h = elim h [ ]
every_way word (node kind.Identifier w g from to ps) h = by chosen.a_word refl h
every_way word (node _ w g from to ps) h = elim h [ ]
every_way private_name (node kind.PrivateIdentifier w g from to ps) h = by chosen.private_key refl h
every_way private_name (node _ w g from to ps) h = elim h [ ]
every_way key (node kind.Identifier w g from to ps) h = by chosen.name_as_key refl h
every_way key (node kind.Literal w g from to ps) h = unless _ h (λ e. by chosen.literal_as_key refl)
every_way key (node _ w g from to ps) h = elim h [ ]
every_way shorthand_key (node kind.Identifier w g from to ps) h = by chosen.key_name refl h
every_way shorthand_key (node _ w g from to ps) h = elim h [ ]
every_way base (node kind.Super w g from to ps) h = by chosen.super refl h
every_way base (node _ w g from to ps) h = elim h [ ]
every_way directive_string (node kind.Literal w g from to ps) h = through _ h (λ e. by (chosen.directive_text e) refl)
every_way directive_string (node _ w g from to ps) h = elim h [ ]
every_way tagged_quasi (node kind.TemplateLiteral w g from to ps) h = by chosen.quasi refl h
every_way tagged_quasi (node _ w g from to ps) h = elim h [ ]
every_way (template_element b c) (node kind.TemplateElement w g from to ps) h = by chosen.template_part refl h
every_way (template_element b c) (node _ w g from to ps) h = elim h [ ]
every_way spread (node kind.SpreadElement w g from to ps) h = by chosen.spread_argument refl h
every_way spread (node _ w g from to ps) h = elim h [ ]
every_way property (node kind.Property w g from to ps) h = formed_property g.form refl h
every_way property (node _ w g from to ps) h = elim h [ ]
every_way (pattern b f) (node kind.ArrayPattern w g from to ps) h = by chosen.array_pattern refl h
every_way (pattern b f) (node kind.ObjectPattern w g from to ps) h = by chosen.object_pattern refl h
every_way (pattern b f) (node _ w g from to ps) h = elim h [ ]
every_way (pattern_property b) (node kind.Property w g from to ps) h = formed_pattern_property b g.form refl h
every_way (pattern_property b) (node _ w g from to ps) h = elim h [ ]
every_way (element b) (node kind.AssignmentPattern w g from to ps) h = by_first chosen.default _ _ refl h
every_way (element b) (node _ w g from to ps) h = elim h [ ]
every_way (rest b o) (node kind.RestElement w g from to ps) h = unless _ h (λ e. by chosen.rest_of refl)
every_way (rest b o) (node _ w g from to ps) h = elim h [ ]
every_way (method f) (node kind.FunctionExpression w g from to ps) h = through _ h (λ e. formed_method f ps)
every_way (method f) (node _ w g from to ps) h = elim h [ ]
every_way body (node kind.BlockStatement w g from to ps) h = by chosen.function_body (formed_braced ps [] (prologue true true (lay line ∷ []) [] ps)) h
every_way body (node _ w g from to ps) h = elim h [ ]
every_way (statement r) (node k w g from to ps) h = formed_statement r chosen.at_statement k ps h
every_way (item r) (node k w g from to ps) h = formed_item r chosen.at_item k ps h
every_way (opening r) (node k w g from to ps) h = formed_opening r k ps h
every_way (block r) (node kind.BlockStatement w g from to ps) h = by chosen.block_alone (formed_braced ps [] (lines (item r) ps)) h
every_way (block r) (node _ w g from to ps) h = elim h [ ]
every_way (head b) (node kind.VariableDeclaration w g from to ps) h = through _ h (λ e. by (chosen.variables_of_head e) refl)
every_way (head b) (node _ w g from to ps) h = elim h [ ]
every_way (declarator i b) (node kind.VariableDeclarator w g from to ps) h = formed_declarator i b ps h
every_way (declarator i b) (node _ w g from to ps) h = elim h [ ]
every_way (switch_case r) (node kind.SwitchCase w g from to (part t ps)) h = by (chosen.switch_test refl) refl h
every_way (switch_case r) (node kind.SwitchCase w g from to (gap ps)) h = by (chosen.switch_default refl) refl h
every_way (switch_case r) (node _ w g from to ps) h = elim h [ ]
every_way (handler r) (node kind.CatchClause w g from to (part p ps)) h = by (chosen.catch_bound refl) refl h
every_way (handler r) (node kind.CatchClause w g from to (gap ps)) h = by (chosen.catch_bare refl) refl h
every_way (handler r) (node _ w g from to ps) h = elim h [ ]
every_way class_body (node kind.ClassBody w g from to ps) h = by chosen.class_members (formed_braced ps [] (many (codes ";") ∷ member_lines ps)) h
every_way class_body (node _ w g from to ps) h = elim h [ ]
every_way member (node kind.MethodDefinition w g from to ps) h = through _ h (λ e. formed_member g.form refl)
every_way member (node kind.PropertyDefinition w g from to ps) h = formed_field ps h
every_way member (node kind.StaticBlock w g from to ps) h = by chosen.static_block (formed_braced ps (term "static" ∷ sp ∷ []) (lines (item false) ps)) h
every_way member (node _ w g from to ps) h = elim h [ ]
every_way module_item (node k w g from to ps) h = formed_module_item k ps h
every_way specifier (node k w g from to ps) h = formed_specifier k g.form ps refl h
every_way default_item (node kind.FunctionDeclaration w g from to ps) h = by chosen.default_function (formed_function g.form w g ps) h
every_way default_item (node kind.ClassDeclaration w g from to ps) h = by chosen.default_class (formed_class w g ps) h
every_way default_item (node _ w g from to ps) h = elim h [ ]
every_way script (node kind.Program w g from to ps) h = cases (is_empty w || is w "2022") h (λ e. by (chosen.whole_script e) refl) (λ e k. through (is w "module") k (λ d. by (chosen.whole_module d) refl))
every_way script (node _ w g from to ps) h = elim h [ ]
