-- In each way what stands behind a part that may end in a `yield` without operand closes it.
use Rattle.std.proofs.Common.{◌≡◌, ℕ, Bool, true, false, cond, not, ◌&&◌, ◌||◌, List, [], ◌∷◌, ◌++◌, refl, ap}
use Rattle.std.proofs.lemmas.Bool.{false≢true}
use Rattle.language.specs.declared.Edge.TheVariants.{Closed}
use Rattle.std.specs.Prelude.{Some, None, nat_le}
use Rattle.tokens.specs.declared.token.TokenClass.TheVariants as class
use Rattle.tree.specs.declared.kind.Kind.{Kind}
use Rattle.tree.specs.declared.kind.Kind.TheVariants as kind
use Rattle.tree.specs.declared.kind.Form.{Form}
use Rattle.tree.specs.declared.kind.Form.TheVariants as form
use Rattle.tree.specs.declared.kind.Flags.{Flags}
use Rattle.tree.specs.Tree.{Tree, node, Parts, none, part, gap, kind_of}
use Rattle.language.specs.declared.Rank.TheVariants.{Expression, Assignment, Unary, LeftHandSide, Primary}
use Rattle.language.specs.declared.Start.TheVariants.{Any}
use Rattle.language.specs.FirstPart.{lead as lead_kind, others}
use Rattle.tree.specs.Uses.{is_empty}
use Rattle.language.specs.Edges.{last_edge, ends_in_if, edge}
use Rattle.language.specs.Vocabulary.{is, among, is_reserved, is_rest, is_string, is_name, literal_class, is_super, is_identifier, is_pattern, is_update_operator, is_prefix, is_target, is_word_operator, is_assignment, Operator, op_binary, op_power, operator_of, is_private}
use Rattle.language.specs.Pieces.{Role, expr, chain_part, name, word, key, shorthand_key, base, directive_string, tagged_quasi, template_element, spread, property, pattern, pattern_property, element, rest, method, body, statement, item, opening, block, head, declarator, switch_case, handler, class_body, member, script, Piece, sub, tail, tok, many, unbroken, close_parameters, absent, lay, shallower, line, feed, put, put_at, sign, term, sp, Spelling, at, is_none, only_at, bound, with_default, pattern_element, listed, elements, argument, parameters, apart, private_name, module_item, specifier, default_item, ending, behind_key, behind_value}
use Rattle.language.specs.Expressions.{yields, expressions, chain_parts, properties, shorthand_pattern, pattern_properties, object_part, object_pattern_part, methods, assignment, keyed, selector, member_link, call_link, chain_element, first_has_optional, op_arrow, arrow_end, binary_ways, logical_ways, lead_is, given, infix_pieces, arrow_words, method_words, value_form, module_name, method_of, arrow_opening, arrow_closing}
use Rattle.language.specs.Statements.{statements, items, openings, lines, prologue, declaration, declarators, end_of, whole, for_left, first_is_string, is_declaration, is_one, members, member_lines, defaults, class_keyed, fields, static_word, key_word, imports, module_items, specifiers, imported, named_imports, from_source, exported_declaration, exported_default, module_prologue, for_words}
use Rattle.language.specs.Grammar.{spellings}
use Rattle.language.specs.Derivation.{Among, first, later}
use Rattle.std.specs.Prelude.{◌≤◌}
use Rattle.std.proofs.Common.{arith}
use Rattle.std.proofs.lemmas.Bool.{and_from}
use Rattle.std.proofs.lemmas.Bool.Decides.{nat_tests}
use Rattle.language.specs.declared.Rank.{Rank}
use Rattle.language.specs.Vocabulary.{precedence, takes}
use Rattle.language.specs.Pieces.{left}
use Rattle.language.specs.Grammar.{fits_position}
use Rattle.language.proofs.table.OperatorFacts.{binding}
use Rattle.language.proofs.table.RightEdges.{takes_less}
use Rattle.language.proofs.table.ClosingPieces.{is_loose_rank, is_loose, closed_by, shuts, shuts_join, shuts_before, shuts_more, shuts_next, shuts_listed, shuts_elements, shuts_parameters, shuts_given, shuts_arguments, shuts_selector, shuts_member_link, shuts_call_link, shuts_after_number, shuts_chunks, shuts_sequence, shuts_function, shuts_class, shuts_arrow_end, shuts_lines, shuts_braced, shuts_prologue, shuts_declarators, shuts_member_lines, shuts_behind, method_words_shut, arrow_words_shut, shuts_listed_before, shuts_exports, shuts_module_prologue}

-- each spelling's pieces close so; the flag tells of a spelling whether what follows the node closes
data Shaped (l : Spelling → Bool) : List Spelling → Type 0 where
  no_spelling : Shaped l []
  a_spelling : {x : Spelling} {xs : List Spelling} → shuts (l x) x.pieces ≡ true → Shaped l xs → Shaped l (x ∷ xs)

abbrev one : {l : Spelling → Bool} {x : Spelling} → shuts (l x) x.pieces ≡ true → Shaped l (x ∷ [])
one h = a_spelling h no_spelling

by_cond : {l : Spelling → Bool} (c : Bool) {xs ys : List Spelling} → Shaped l xs → Shaped l ys → Shaped l (cond c xs ys)
by_cond true h k = h
by_cond false h k = k

by_if : {l : Spelling → Bool} (c : Bool) {xs : List Spelling} → Shaped l xs → Shaped l (cond c xs [])
by_if c h = by_cond c h no_spelling

by_unless : {l : Spelling → Bool} (c : Bool) {xs : List Spelling} → Shaped l xs → Shaped l (cond c [] xs)
by_unless c h = by_cond c no_spelling h

-- where a bound target stands, nothing is loose
not_loose_at : (l b : Bool) (k : Kind) (qs : List Piece) → shuts l qs ≡ true → Shaped (λ s. l) (only_at (bound b k) qs)
not_loose_at l true k qs h = of (is_pattern k) (is_identifier k)
  where
    of : (x y : Bool) → Shaped (λ s. l) (only_at (cond x (Some (pattern true Any)) (cond y (Some name) None)) qs)
    of true y = one h
    of false true = one h
    of false false = no_spelling
not_loose_at l false k qs h = of (is_pattern k) (is_target k)
  where
    of : (x y : Bool) → Shaped (λ s. l) (only_at (cond x (Some (pattern false Any)) (cond y (Some (expr LeftHandSide true Any)) None)) qs)
    of true y = one h
    of false true = one h
    of false false = no_spelling

put_bound : (l b : Bool) (k : Kind) (qs : List Piece) → shuts l qs ≡ true → shuts l (put_at (bound b k) ∷ qs) ≡ true
put_bound l true k qs h = of (is_pattern k) (is_identifier k)
  where
    of : (x y : Bool) → shuts l (put_at (cond x (Some (pattern true Any)) (cond y (Some name) None)) ∷ qs) ≡ true
    of true y = h
    of false true = h
    of false false = h
put_bound l false k qs h = of (is_pattern k) (is_target k)
  where
    of : (x y : Bool) → shuts l (put_at (cond x (Some (pattern false Any)) (cond y (Some (expr LeftHandSide true Any)) None)) ∷ qs) ≡ true
    of true y = h
    of false true = h
    of false false = h

-- expressions

abbrev rank_loose : Spelling → Bool
rank_loose x = is_loose_rank x.rank

tight_rank : (y : Rank) → 4 ≤ precedence y → is_loose_rank y ≡ false
tight_rank y h = number (precedence y) h
  where
    number : (a : ℕ) → 4 ≤ a → nat_le a 2 ≡ false
    number a h = grind (arith, nat_tests)

binary_shut : (l : Bool) (w : List ℕ) (z q : Rank) → is_loose_rank z ≡ false → is_loose_rank q ≡ false → shuts l (sub (left z) ∷ infix_pieces w ++ sub (tail q Any) ∷ []) ≡ true
binary_shut l w z q h k = and_from _ _ (ap (λ b. not b || closed_by l (infix_pieces w ++ sub (tail q Any) ∷ [])) h) (and_from _ _ (ap (λ b. not b || l) k) refl)

shaped_binary : (w : List ℕ) (o : Operator) → operator_of w ≡ o → Shaped rank_loose (binary_ways w o)
shaped_binary w (op_binary false z q) e = let b = binding w e in let least = b.least in let up = b.rises.0 in one (binary_shut (is_loose_rank z) w z q (tight_rank z least) (tight_rank q (omega arith)))
shaped_binary w (op_binary true z q) e = no_spelling
shaped_binary w op_power e = one refl
shaped_binary w _ e = no_spelling

shaped_logical : (w : List ℕ) (o : Operator) → operator_of w ≡ o → Shaped rank_loose (logical_ways w o)
shaped_logical w (op_binary true z q) e = let b = binding w e in let least = b.least in let up = b.rises.0 in one (binary_shut (is_loose_rank z) w z q (tight_rank z least) (tight_rank q (omega arith)))
shaped_logical w (op_binary false z q) e = no_spelling
shaped_logical w _ e = no_spelling

short_arrow : (g : Flags) → shuts true (arrow_words g.form ++ put name ∷ arrow_end g) ≡ true
short_arrow g = shuts_behind true (arrow_words g.form) (put name ∷ arrow_end g) (arrow_words_shut g.form) (shuts_arrow_end g)

open_arrow : (g : Flags) (ps : Parts) → shuts true (arrow_words g.form ++ arrow_opening g.form ∷ parameters (arrow_closing g.form ∷ arrow_end g) ps) ≡ true
open_arrow g ps = shuts_behind true (arrow_words g.form) (arrow_opening g.form ∷ parameters (arrow_closing g.form ∷ arrow_end g) ps) (arrow_words_shut g.form) (of g.form)
  where
    of : (x : Form) → shuts true (arrow_opening x ∷ parameters (arrow_closing x ∷ arrow_end g) ps) ≡ true
    of form.Async = shuts_parameters true (sign ")" ∷ arrow_end g) ps refl (shuts_arrow_end g)
    of _ = shuts_parameters true (close_parameters ∷ arrow_end g) ps refl (shuts_arrow_end g)

shaped_arrows : (g : Flags) (ps : Parts) → Shaped rank_loose (op_arrow g ps)
shaped_arrows g none = one (open_arrow g none)
shaped_arrows g (gap ps) = one (open_arrow g (gap ps))
shaped_arrows g (part n none) = one (open_arrow g (part n none))
shaped_arrows g (part n (gap ps)) = one (open_arrow g (part n (gap ps)))
shaped_arrows g (part n (part m (part l ps))) = one (open_arrow g (part n (part m (part l ps))))
shaped_arrows g (part n (part m (gap ps))) = one (open_arrow g (part n (part m (gap ps))))
shaped_arrows g (part n (part m none)) = of (is_identifier (kind_of n))
  where
    of : (t : Bool) → Shaped rank_loose (cond t (at Assignment (arrow_words g.form ++ put name ∷ arrow_end g) ∷ []) [] ++ at Assignment (arrow_words g.form ++ arrow_opening g.form ∷ parameters (arrow_closing g.form ∷ arrow_end g) (part n (part m none))) ∷ [])
    of true = a_spelling (short_arrow g) (one (open_arrow g (part n (part m none))))
    of false = one (open_arrow g (part n (part m none)))

shaped_yields : (x : Form) (ps : Parts) → Shaped rank_loose (yields x ps)
shaped_yields form.Init (gap none) = one refl
shaped_yields form.Init (part n none) = one refl
shaped_yields form.Generator (part n none) = one refl
shaped_yields _ ps = no_spelling

shaped_expressions : (k : Kind) (w : List ℕ) (g : Flags) (ps : Parts) → Shaped rank_loose (expressions k w g ps)
unfolding expressions
shaped_expressions kind.Identifier w g ps = by_unless (is_reserved w) (one refl)
shaped_expressions kind.Literal w g ps = by_unless (is_name (literal_class w) && not (among w ("true" ∷ "false" ∷ "null" ∷ []))) (one refl)
shaped_expressions kind.ThisExpression w g ps = one refl
shaped_expressions kind.ArrayExpression w g ps = one (shuts_before false (elements argument ps) (sign "]" ∷ []) (shuts_elements argument ps) refl refl)
shaped_expressions kind.ObjectExpression w g ps = one (shuts_before false (listed object_part ps) (sign "}" ∷ []) (shuts_listed object_part ps) refl refl)
shaped_expressions kind.FunctionExpression w g ps = one (shuts_function false g.form ps)
shaped_expressions kind.ClassExpression w g ps = one (shuts_class false ps)
shaped_expressions kind.TemplateLiteral w g ps = one (shuts_chunks false true ps)
shaped_expressions kind.ArrowFunctionExpression w g ps = shaped_arrows g ps
shaped_expressions kind.TaggedTemplateExpression w g ps = one refl
shaped_expressions kind.MemberExpression w g ps =
    by_unless g.optional (by_cond (is_super (lead_kind ps)) (one (shuts_selector false g kind.Identifier)) (one (shuts_after_number false ps g (selector g (lead_kind (others ps))) (shuts_selector false g (lead_kind (others ps))))))
shaped_expressions kind.CallExpression w g ps = by_unless g.optional (by_cond (is_super (lead_kind ps)) (one (shuts_arguments false (others ps))) (one (shuts_arguments false (others ps))))
shaped_expressions kind.NewExpression w g ps = a_spelling (shuts_arguments false (others ps)) (by_if (is_none (others ps)) (one refl))
shaped_expressions kind.MetaProperty w g ps = by_cond (lead_is ps "new" && lead_is (others ps) "target") (one refl) (by_if (lead_is ps "import" && lead_is (others ps) "meta") (one refl))
shaped_expressions kind.ImportExpression w g ps = one refl
shaped_expressions kind.ChainExpression w g ps = by_if (first_has_optional ps) (one refl)
shaped_expressions kind.AwaitExpression w g ps = one refl
shaped_expressions kind.YieldExpression w g ps = shaped_yields g.form ps
shaped_expressions kind.UpdateExpression w g ps = by_unless (not (is_update_operator w && is_target (lead_kind ps))) (by_cond g.prefix (one refl) (one refl))
shaped_expressions kind.UnaryExpression w g ps = by_unless (not (is_prefix w)) (by_cond (is_word_operator w) (one refl) (one (of (is w "+") (is w "-"))))
  where
    of : (b c : Bool) → shuts false (tok class.Punctuator w ∷ cond b (lay (apart 43) ∷ []) (cond c (lay (apart 45) ∷ []) []) ++ put (expr Unary true Any) ∷ []) ≡ true
    of true c = refl
    of false true = refl
    of false false = refl
shaped_expressions kind.BinaryExpression w g ps = by_cond (is_private (lead_kind ps)) (by_if (is w "in") (one refl)) (shaped_binary w (operator_of w) refl)
shaped_expressions kind.LogicalExpression w g ps = shaped_logical w (operator_of w) refl
shaped_expressions kind.ConditionalExpression w g ps = one refl
shaped_expressions kind.AssignmentExpression w g ps = by_unless (not (is_assignment w)) (by_cond (is_target (lead_kind ps)) (one refl) (by_if (is w "=" && is_pattern (lead_kind ps)) (one refl)))
shaped_expressions kind.SequenceExpression w g ps = by_unless (is_none (others ps)) (one (shuts_sequence (others ps)))
shaped_expressions _ w g ps = no_spelling

shaped_linked : (c : Bool) (ps : Parts) (qs : List Piece) → shuts false qs ≡ true → Shaped (λ s. false) (chain_element c ps qs)
shaped_linked c ps qs h = by_cond (first_has_optional ps) (one h) (by_if c (one h))

shaped_spines : (k : Kind) (g : Flags) (ps : Parts) → Shaped (λ s. false) (chain_parts k g ps)
shaped_spines kind.MemberExpression g ps = shaped_linked g.optional ps (member_link g (lead_kind (others ps))) (shuts_member_link false g (lead_kind (others ps)))
shaped_spines kind.CallExpression g ps = shaped_linked g.optional ps (call_link g ps) (shuts_call_link false g ps)
shaped_spines _ g ps = no_spelling

-- statements

given_shut : (ps : Parts) (qs : List Piece) → shuts true qs ≡ true → shuts true (given ps qs) ≡ true
given_shut none qs h = refl
given_shut (part n ps) qs h = h
given_shut (gap ps) qs h = refl

left_shut : (ps : Parts) (qs : List Piece) → shuts false qs ≡ true → shuts false (for_left ps ∷ qs) ≡ true
left_shut ps qs h = of (is_declaration (lead_kind ps))
  where
    of : (c : Bool) → shuts false (put_at (cond c (Some (head false)) (bound false (lead_kind ps))) ∷ qs) ≡ true
    of true = h
    of false = put_bound false false (lead_kind ps) qs h

for_shut : (r : Bool) (ps : Parts) → shuts false
    ((term "for" ∷ sp ∷ sign "(" ∷ given ps (put (cond (is_declaration (lead_kind ps)) (head true) (expr Expression false Any)) ∷ []))
    ++ sign ";" ∷ given (others ps) (sp ∷ whole ∷ [])
    ++ sign ";" ∷ given (others (others ps)) (sp ∷ whole ∷ [])
    ++ sign ")" ∷ sp ∷ put (statement r) ∷ []) ≡ true
for_shut r ps =
    let x : List Piece = given ps (put (cond (is_declaration (lead_kind ps)) (head true) (expr Expression false Any)) ∷ []) in
    let y : List Piece = given (others ps) (sp ∷ whole ∷ []) in
    let z : List Piece = given (others (others ps)) (sp ∷ whole ∷ []) in
    shuts_before false ((x ++ sign ";" ∷ y) ++ sign ";" ∷ z) (sign ")" ∷ sp ∷ put (statement r) ∷ [])
    (shuts_before true (x ++ sign ";" ∷ y) (sign ";" ∷ z) (shuts_before true x (sign ";" ∷ y) (given_shut ps _ (one_head (is_declaration (lead_kind ps)))) refl (given_shut (others ps) (sp ∷ whole ∷ []) refl)) refl (given_shut (others (others ps)) (sp ∷ whole ∷ []) refl)) refl refl
  where
    one_head : (c : Bool) → shuts true (put (cond c (head true) (expr Expression false Any)) ∷ []) ≡ true
    one_head true = refl
    one_head false = refl

declaration_shut : (w : List ℕ) (ps : Parts) (q : Piece) → closed_by false (q ∷ []) ≡ true → shuts false (q ∷ []) ≡ true → shuts false (declaration w (declarator true true) ps ++ q ∷ []) ≡ true
declaration_shut w ps q k g = shuts_before false (declarators (declarator true true) ps) (q ∷ []) (shuts_declarators true true ps) k g

for_words_shut : (x : Form) → shuts false (term "for" ∷ sp ∷ for_words x) ≡ true
for_words_shut form.Init = refl
for_words_shut form.Async = refl
for_words_shut _ = refl

shaped_statements : (r : Bool) (k : Kind) (w : List ℕ) (g : Flags) (ps : Parts) → Shaped (λ s. false) (statements r k w g ps)
unfolding statements
shaped_statements r kind.BlockStatement w g ps = one (shuts_braced false ps (lines (item r) ps) (shuts_lines true (item r) ps refl))
shaped_statements r kind.VariableDeclaration w g ps = by_if (is w "var") (one (declaration_shut w ps (end_of (last_edge ps)) refl refl))
shaped_statements r kind.EmptyStatement w g ps = one refl
shaped_statements r kind.ExpressionStatement w g ps = by_unless g.directive (one refl)
shaped_statements r kind.IfStatement w g none = no_spelling
shaped_statements r kind.IfStatement w g (gap ps) = no_spelling
shaped_statements r kind.IfStatement w g (part t none) = no_spelling
shaped_statements r kind.IfStatement w g (part t (gap ps)) = no_spelling
shaped_statements r kind.IfStatement w g (part t (part c none)) = no_spelling
shaped_statements r kind.IfStatement w g (part t (part c (gap none))) = one refl
shaped_statements r kind.IfStatement w g (part t (part c (gap (part n ps)))) = no_spelling
shaped_statements r kind.IfStatement w g (part t (part c (gap (gap ps)))) = no_spelling
shaped_statements r kind.IfStatement w g (part t (part c (part a none))) = by_unless (ends_in_if c) (one refl)
shaped_statements r kind.IfStatement w g (part t (part c (part a (part n ps)))) = no_spelling
shaped_statements r kind.IfStatement w g (part t (part c (part a (gap ps)))) = no_spelling
shaped_statements r kind.DoWhileStatement w g ps = one refl
shaped_statements r kind.WhileStatement w g ps = one refl
shaped_statements r kind.ForStatement w g ps = one (for_shut r ps)
shaped_statements r kind.ForInStatement w g ps = one (left_shut ps _ refl)
shaped_statements r kind.ForOfStatement w g ps =
    one (shuts_behind false (term "for" ∷ sp ∷ for_words g.form) (sign "(" ∷ for_left ps ∷ sp ∷ term "of" ∷ sp ∷ put (expr Assignment true Any) ∷ sign ")" ∷ sp ∷ put (statement r) ∷ []) (for_words_shut g.form)
    (left_shut ps (sp ∷ term "of" ∷ sp ∷ put (expr Assignment true Any) ∷ sign ")" ∷ sp ∷ put (statement r) ∷ []) refl))
shaped_statements r kind.ContinueStatement w g ps = one (shuts_given false ps (sp ∷ unbroken ∷ put name ∷ []) (end_of Closed ∷ []) refl refl)
shaped_statements r kind.BreakStatement w g ps = one (shuts_given false ps (sp ∷ unbroken ∷ put name ∷ []) (end_of Closed ∷ []) refl refl)
shaped_statements r kind.ReturnStatement w g ps = by_if r (one (shuts_given false ps (sp ∷ unbroken ∷ whole ∷ []) (end_of (last_edge ps) ∷ []) refl refl))
shaped_statements r kind.ThrowStatement w g ps = one refl
shaped_statements r kind.LabeledStatement w g ps = one refl
shaped_statements r kind.SwitchStatement w g ps = by_if (nat_le (defaults (others ps)) 1) (one (shuts_braced false (others ps) (lines (switch_case r) (others ps)) (shuts_lines true (switch_case r) (others ps) refl)))
shaped_statements r kind.TryStatement w g (part b (part h (gap none))) = one refl
shaped_statements r kind.TryStatement w g (part b (part h (part f none))) = one refl
shaped_statements r kind.TryStatement w g (part b (gap (part f none))) = one refl
shaped_statements r kind.TryStatement w g _ = no_spelling
shaped_statements r kind.DebuggerStatement w g ps = one refl
shaped_statements r _ w g ps = no_spelling

shaped_items : (r : Bool) (k : Kind) (w : List ℕ) (g : Flags) (ps : Parts) → Shaped (λ s. false) (items r k w g ps)
unfolding items
shaped_items r kind.FunctionDeclaration w g (part n ps) = one (shuts_function false g.form (part n ps))
shaped_items r kind.FunctionDeclaration w g _ = no_spelling
shaped_items r kind.ClassDeclaration w g (part n ps) = one (shuts_class false (part n ps))
shaped_items r kind.ClassDeclaration w g _ = no_spelling
shaped_items r kind.VariableDeclaration w g ps = by_if (among w ("var" ∷ "let" ∷ "const" ∷ [])) (one (declaration_shut w ps (end_of (last_edge ps)) refl refl))
shaped_items r k w g ps = shaped_statements r k w g ps

shaped_openings : (r : Bool) (k : Kind) (w : List ℕ) (g : Flags) (ps : Parts) → Shaped (λ s. false) (openings r k w g ps)
unfolding openings
shaped_openings r kind.ExpressionStatement w g ps = by_cond g.directive (by_if (first_is_string ps) (one refl)) (by_cond (first_is_string ps) (one refl) (one refl))
shaped_openings r k w g ps = shaped_items r k w g ps

-- properties and members

shaped_keyed : (l : Bool) (before : List Piece) (c : Bool) (after : List Piece) → shuts false before ≡ true → shuts l after ≡ true → Shaped (λ s. l) (keyed before c after)
shaped_keyed l before c after h k =
    by_cond c (one (shuts_join false l before (sign "[" ∷ assignment ∷ sign "]" ∷ after) h (λ e. absurd (false≢true e)) k)) (one (shuts_join false l before (put key ∷ after) h (λ e. absurd (false≢true e)) k))

shaped_class_keyed : (before : List Piece) (c : Bool) (k : Kind) (after : List Piece) → shuts false before ≡ true → shuts false after ≡ true → Shaped (λ s. false) (class_keyed before c k after)
shaped_class_keyed before c k after h f =
    by_cond c (one (shuts_behind false before (sign "[" ∷ assignment ∷ sign "]" ∷ after) h f)) (one (shuts_behind false before (put (cond (is_private k) private_name key) ∷ after) h (of (is_private k))))
  where
    of : (p : Bool) → shuts false (put (cond p private_name key) ∷ after) ≡ true
    of true = f
    of false = f

shaped_properties : (c : Bool) (x y : Form) → Shaped (λ s. true) (properties c x y)
shaped_properties c form.Init y = shaped_keyed true [] c (sign ":" ∷ sp ∷ assignment ∷ []) refl refl
shaped_properties c form.Method y = shaped_keyed true (method_words y) c (put (method (method_of y)) ∷ []) (method_words_shut y) refl
shaped_properties c form.Get y = shaped_keyed true (term "get" ∷ sp ∷ []) c (put (method form.Get) ∷ []) refl refl
shaped_properties c form.Set y = shaped_keyed true (term "set" ∷ sp ∷ []) c (put (method form.Set) ∷ []) refl refl
shaped_properties c form.Shorthand y = by_unless c (one refl)
shaped_properties c _ y = no_spelling

shaped_shorthand : (k : Kind) → Shaped (λ s. true) (shorthand_pattern k)
shaped_shorthand kind.Identifier = one refl
shaped_shorthand kind.AssignmentPattern = one refl
shaped_shorthand _ = no_spelling

shaped_pattern_properties : (b c : Bool) (x : Form) (k : Kind) → Shaped (λ s. true) (pattern_properties b c x k)
shaped_pattern_properties b c form.Init k = shaped_keyed true [] c (sign ":" ∷ sp ∷ put_at (with_default b k) ∷ []) refl (shuts_next true (put_at (with_default b k)) [] refl refl)
shaped_pattern_properties b c form.Shorthand k = by_unless c (shaped_shorthand k)
shaped_pattern_properties b c _ k = no_spelling

shaped_members : (before : List Piece) (c : Bool) (x y : Form) (k : Kind) → shuts false before ≡ true → Shaped (λ s. false) (members before c x y k)
shaped_members before c form.Get y k h = shaped_class_keyed (before ++ term "get" ∷ sp ∷ []) c k (put (method form.Get) ∷ []) (shuts_behind false before (term "get" ∷ sp ∷ []) h refl) refl
shaped_members before c form.Set y k h = shaped_class_keyed (before ++ term "set" ∷ sp ∷ []) c k (put (method form.Set) ∷ []) (shuts_behind false before (term "set" ∷ sp ∷ []) h refl) refl
shaped_members before c _ y k h = shaped_class_keyed (before ++ method_words y) c k (put (method (method_of y)) ∷ []) (shuts_behind false before (method_words y) h (method_words_shut y)) refl

static_shut : (s : Bool) → shuts false (static_word s) ≡ true
static_shut true = refl
static_shut false = refl

shaped_fields : (g : Flags) (ps : Parts) → Shaped (λ s. false) (fields g ps)
shaped_fields g (part n (gap none)) = shaped_class_keyed (static_word g.is_static) g.computed (kind_of n) (absent ∷ ending (behind_key (key_word g.computed n) g.is_static) ∷ []) (static_shut g.is_static) refl
shaped_fields g (part n (part v none)) = shaped_class_keyed (static_word g.is_static) g.computed (kind_of n) (sp ∷ sign "=" ∷ sp ∷ assignment ∷ ending (behind_value (edge v)) ∷ []) (static_shut g.is_static) refl
shaped_fields g _ = no_spelling

-- imports and exports

name_shut : (n : Tree) (qs : List Piece) → shuts false qs ≡ true → shuts false (module_name n ∷ qs) ≡ true
name_shut n qs h = of (is_identifier (kind_of n))
  where
    of : (p : Bool) → shuts false (put (cond p word directive_string) ∷ qs) ≡ true
    of true = h
    of false = h

named_shut : (ps : Parts) → shuts false (named_imports ps) ≡ true
named_shut ps = shuts_listed_before false imported (sign "}" ∷ from_source) ps refl refl

shaped_default : (n : Tree) (ps : Parts) → Shaped (λ s. false) (imports kind.ImportDefaultSpecifier (part n ps))
shaped_default n none = no_spelling
shaped_default n (gap ps) = no_spelling
shaped_default n (part (node kind.ImportNamespaceSpecifier w g s e qs) none) = no_spelling
shaped_default n (part (node kind.ImportNamespaceSpecifier w g s e qs) (part m none)) = one refl
shaped_default n (part (node kind.ImportNamespaceSpecifier w g s e qs) (part m (part l ps))) = no_spelling
shaped_default n (part (node kind.ImportNamespaceSpecifier w g s e qs) (part m (gap ps))) = no_spelling
shaped_default n (part (node kind.ImportNamespaceSpecifier w g s e qs) (gap ps)) = no_spelling
shaped_default n (part (node kind.ImportSpecifier w g s e qs) ps) = one (named_shut (part (node kind.ImportSpecifier w g s e qs) ps))
shaped_default n (part (node kind.Literal w g s e qs) none) = a_spelling refl (one refl)
shaped_default n (part (node kind.Literal w g s e qs) (part m ps)) = no_spelling
shaped_default n (part (node kind.Literal w g s e qs) (gap ps)) = no_spelling
shaped_default n (part (node _ w g s e qs) none) = no_spelling
shaped_default n (part (node _ w g s e qs) (part m ps)) = no_spelling
shaped_default n (part (node _ w g s e qs) (gap ps)) = no_spelling

shaped_imports : (k : Kind) (ps : Parts) → Shaped (λ s. false) (imports k ps)
shaped_imports kind.Literal (part n none) = a_spelling refl (one refl)
shaped_imports kind.Literal _ = no_spelling
shaped_imports kind.ImportNamespaceSpecifier (part n (part m none)) = one refl
shaped_imports kind.ImportNamespaceSpecifier _ = no_spelling
shaped_imports kind.ImportSpecifier ps = one (named_shut ps)
shaped_imports kind.ImportDefaultSpecifier none = no_spelling
shaped_imports kind.ImportDefaultSpecifier (gap ps) = no_spelling
shaped_imports kind.ImportDefaultSpecifier (part n ps) = shaped_default n ps
shaped_imports _ ps = no_spelling

exported_shut : (k : Kind) → shuts false (exported_declaration k ∷ absent ∷ []) ≡ true
exported_shut kind.FunctionDeclaration = refl
exported_shut kind.ClassDeclaration = refl
exported_shut kind.VariableDeclaration = refl
exported_shut _ = refl

default_shut : (n : Tree) → shuts false (exported_default n) ≡ true
default_shut (node kind.FunctionDeclaration w g s e ps) = refl
default_shut (node kind.ClassDeclaration w g s e ps) = refl
default_shut (node _ w g s e ps) = refl

shaped_module_items : (k : Kind) (ps : Parts) → Shaped (λ s. false) (module_items k ps)
shaped_module_items kind.ImportDeclaration ps = shaped_imports (lead_kind ps) ps
shaped_module_items kind.ExportNamedDeclaration (part n (gap none)) = one (exported_shut (kind_of n))
shaped_module_items kind.ExportNamedDeclaration (gap ps) = one (shuts_exports false ps)
shaped_module_items kind.ExportNamedDeclaration _ = no_spelling
shaped_module_items kind.ExportDefaultDeclaration (part n none) = one (default_shut n)
shaped_module_items kind.ExportDefaultDeclaration _ = no_spelling
shaped_module_items kind.ExportAllDeclaration (gap (part m none)) = one refl
shaped_module_items kind.ExportAllDeclaration (part n (part m none)) = one (name_shut n from_source refl)
shaped_module_items kind.ExportAllDeclaration _ = no_spelling
shaped_module_items _ ps = no_spelling

shaped_specifiers : (k : Kind) (x : Form) (ps : Parts) → Shaped (λ s. false) (specifiers k x ps)
shaped_specifiers kind.ImportDefaultSpecifier x (part n none) = one refl
shaped_specifiers kind.ImportDefaultSpecifier x _ = no_spelling
shaped_specifiers kind.ImportNamespaceSpecifier x (part n none) = one refl
shaped_specifiers kind.ImportNamespaceSpecifier x _ = no_spelling
shaped_specifiers kind.ImportSpecifier form.Shorthand (part n none) = one refl
shaped_specifiers kind.ImportSpecifier form.Init (part m (part n none)) = one (name_shut m (sp ∷ term "as" ∷ sp ∷ put name ∷ []) refl)
shaped_specifiers kind.ImportSpecifier _ _ = no_spelling
shaped_specifiers kind.ExportSpecifier form.Shorthand (part n none) = one (name_shut n [] refl)
shaped_specifiers kind.ExportSpecifier form.Init (part m (part n none)) = one (name_shut m (sp ∷ term "as" ∷ sp ∷ module_name n ∷ []) (name_shut n [] refl))
shaped_specifiers kind.ExportSpecifier _ _ = no_spelling
shaped_specifiers _ x ps = no_spelling

shaped_methods : (x : Form) (ps : Parts) → Shaped (λ s. false) (methods x ps)
shaped_methods form.Get (gap (part b none)) = one refl
shaped_methods form.Get _ = no_spelling
shaped_methods form.Set (gap (part n (part b none))) = by_unless (is_rest (kind_of n)) (one (shuts_next false (put_at (with_default true (kind_of n))) (sign ")" ∷ sp ∷ put body ∷ []) refl refl))
shaped_methods form.Set _ = no_spelling
shaped_methods _ (gap ps) = one (shuts_parameters false (sign ")" ∷ sp ∷ put body ∷ []) ps refl refl)
shaped_methods _ _ = no_spelling

abbrev pub flag_of : Role → Spelling → Bool
flag_of (expr y i f) x = is_loose_rank x.rank
flag_of a x = is_loose a

table_shaped : (a : Role) (n : Tree) → Shaped (flag_of a) (spellings a n)
unfolding spellings
table_shaped (expr y i f) (node k w g s e ps) = shaped_expressions k w g ps
table_shaped (chain_part f) (node k w g s e ps) = shaped_spines k g ps
table_shaped name (node kind.Identifier w g s e ps) = by_unless (is_reserved w) (one refl)
table_shaped name (node _ w g s e ps) = no_spelling
table_shaped word (node kind.Identifier w g s e ps) = one refl
table_shaped word (node _ w g s e ps) = no_spelling
table_shaped private_name (node kind.PrivateIdentifier w g s e ps) = one refl
table_shaped private_name (node _ w g s e ps) = no_spelling
table_shaped key (node kind.Identifier w g s e ps) = one refl
table_shaped key (node kind.Literal w g s e ps) = by_unless _ (one refl)
table_shaped key (node _ w g s e ps) = no_spelling
table_shaped shorthand_key (node kind.Identifier w g s e ps) = one refl
table_shaped shorthand_key (node _ w g s e ps) = no_spelling
table_shaped base (node kind.Super w g s e ps) = one refl
table_shaped base (node _ w g s e ps) = no_spelling
table_shaped directive_string (node kind.Literal w g s e ps) = by_if (is_string (literal_class w)) (one refl)
table_shaped directive_string (node _ w g s e ps) = no_spelling
table_shaped tagged_quasi (node kind.TemplateLiteral w g s e ps) = one (shuts_chunks false true ps)
table_shaped tagged_quasi (node _ w g s e ps) = no_spelling
table_shaped (template_element x y) (node kind.TemplateElement w g s e ps) = one refl
table_shaped (template_element x y) (node _ w g s e ps) = no_spelling
table_shaped spread (node kind.SpreadElement w g s e ps) = one refl
table_shaped spread (node _ w g s e ps) = no_spelling
table_shaped property (node kind.Property w g s e ps) = shaped_properties g.computed g.form (value_form ps)
table_shaped property (node _ w g s e ps) = no_spelling
table_shaped (pattern b f) (node kind.ArrayPattern w g s e ps) = one (shuts_before false (elements (pattern_element b) ps) (sign "]" ∷ []) (shuts_elements (pattern_element b) ps) refl refl)
table_shaped (pattern b f) (node kind.ObjectPattern w g s e ps) = one (shuts_before false (listed (object_pattern_part b) ps) (sign "}" ∷ []) (shuts_listed (object_pattern_part b) ps) refl refl)
table_shaped (pattern b f) (node _ w g s e ps) = no_spelling
table_shaped (pattern_property b) (node kind.Property w g s e ps) = shaped_pattern_properties b g.computed g.form (lead_kind (others ps))
table_shaped (pattern_property b) (node _ w g s e ps) = no_spelling
table_shaped (element b) (node kind.AssignmentPattern w g s e ps) = not_loose_at true b (lead_kind ps) (sp ∷ sign "=" ∷ sp ∷ assignment ∷ []) refl
table_shaped (element b) (node _ w g s e ps) = no_spelling
table_shaped (rest b o) (node kind.RestElement w g s e ps) = by_unless _ (one (put_bound false b (lead_kind ps) [] refl))
table_shaped (rest b o) (node _ w g s e ps) = no_spelling
table_shaped (method x) (node kind.FunctionExpression w g s e ps) = by_if _ (shaped_methods x ps)
table_shaped (method x) (node _ w g s e ps) = no_spelling
table_shaped body (node kind.BlockStatement w g s e ps) = one (shuts_braced false ps (prologue true true (lay line ∷ []) [] ps) (shuts_prologue true true (lay line ∷ []) [] ps refl refl))
table_shaped body (node _ w g s e ps) = no_spelling
table_shaped (statement r) (node k w g s e ps) = shaped_statements r k w g ps
table_shaped (item r) (node k w g s e ps) = shaped_items r k w g ps
table_shaped (opening r) (node k w g s e ps) = shaped_openings r k w g ps
table_shaped (block r) (node kind.BlockStatement w g s e ps) = one (shuts_braced false ps (lines (item r) ps) (shuts_lines true (item r) ps refl))
table_shaped (block r) (node _ w g s e ps) = no_spelling
table_shaped (head b) (node kind.VariableDeclaration w g s e ps) = by_if (among w ("var" ∷ "let" ∷ "const" ∷ []) && (b || is_one ps)) (one (shuts_declarators false b ps))
table_shaped (head b) (node _ w g s e ps) = no_spelling
table_shaped (declarator i true) (node kind.VariableDeclarator w g s e (part n (part x none))) = not_loose_at true true (kind_of n) (sp ∷ sign "=" ∷ sp ∷ put (expr Assignment i Any) ∷ []) refl
table_shaped (declarator i false) (node kind.VariableDeclarator w g s e (part n (part x none))) = no_spelling
table_shaped (declarator i b) (node kind.VariableDeclarator w g s e (part n (gap none))) = by_unless (b && is_pattern (kind_of n)) (not_loose_at b true (kind_of n) (absent ∷ []) refl)
table_shaped (declarator i b) (node _ w g s e ps) = no_spelling
table_shaped (switch_case r) (node kind.SwitchCase w g s e (part t ps)) = one (shuts_join false false (lines (item r) ps) (lay shallower ∷ []) (shuts_lines false (item r) ps refl) (λ e. absurd (false≢true e)) refl)
table_shaped (switch_case r) (node kind.SwitchCase w g s e (gap ps)) = one (shuts_join false false (lines (item r) ps) (lay shallower ∷ []) (shuts_lines false (item r) ps refl) (λ e. absurd (false≢true e)) refl)
table_shaped (switch_case r) (node _ w g s e ps) = no_spelling
table_shaped (handler r) (node kind.CatchClause w g s e (part p ps)) = one (put_bound false true (kind_of p) (sign ")" ∷ sp ∷ put (block r) ∷ []) refl)
table_shaped (handler r) (node kind.CatchClause w g s e (gap ps)) = one refl
table_shaped (handler r) (node _ w g s e ps) = no_spelling
table_shaped class_body (node kind.ClassBody w g s e ps) = one (shuts_braced false ps (many _ ∷ member_lines ps) (shuts_member_lines true ps))
table_shaped class_body (node _ w g s e ps) = no_spelling
table_shaped member (node kind.MethodDefinition w g s e ps) = by_if _ (shaped_members (static_word g.is_static) g.computed g.form (value_form ps) (lead_kind ps) (static_shut g.is_static))
table_shaped member (node kind.PropertyDefinition w g s e ps) = shaped_fields g ps
table_shaped member (node kind.StaticBlock w g s e ps) = one (shuts_braced false ps (lines (item false) ps) (shuts_lines true (item false) ps refl))
table_shaped member (node _ w g s e ps) = no_spelling
table_shaped module_item (node k w g s e ps) = shaped_module_items k ps
table_shaped specifier (node k w g s e ps) = shaped_specifiers k g.form ps
table_shaped default_item (node kind.FunctionDeclaration w g s e ps) = one (shuts_function false g.form ps)
table_shaped default_item (node kind.ClassDeclaration w g s e ps) = one (shuts_class false ps)
table_shaped default_item (node _ w g s e ps) = no_spelling
table_shaped script (node kind.Program w g s e ps) =
    by_cond (is_empty w || is w "2022") (one {x = at Primary (prologue false true [] (lay feed ∷ []) ps ++ tok class.End [] ∷ [])} (shuts_before false (prologue false true [] (lay feed ∷ []) ps) (tok class.End [] ∷ []) (shuts_prologue false true [] (lay feed ∷ []) ps refl refl) refl refl))
    (by_if (is w "module") (one {x = at Primary (module_prologue true ps ++ tok class.End [] ∷ [])} (shuts_before false (module_prologue true ps) (tok class.End [] ∷ []) (shuts_module_prologue true ps) refl refl)))
table_shaped script (node _ w g s e ps) = no_spelling

shaped_among : {l : Spelling → Bool} {x : Spelling} (xs : List Spelling) → Shaped l xs → Among x xs → shuts (l x) x.pieces ≡ true
shaped_among [] no_spelling h = elim h [ ]
shaped_among (x ∷ xs) (a_spelling p s) first = p
shaped_among (x ∷ xs) (a_spelling p s) (later h) = shaped_among xs s h

loose_less : (y z : Rank) → takes y z ≡ true → is_loose_rank z ≡ true → is_loose_rank y ≡ true
loose_less y z h k = number (precedence y) (precedence z) (takes_less y z h) k
  where
    number : (a b : ℕ) → a ≤ b → nat_le b 2 ≡ true → nat_le a 2 ≡ true
    number a b h k = grind (arith, nat_tests)

-- so each spelling's are, where it fits
pub spelling_shuts : (a : Role) (n : Tree) (x : Spelling) → Among x (spellings a n) → fits_position a x ≡ true → shuts (is_loose a) x.pieces ≡ true
spelling_shuts (expr y i f) n x h fit = shuts_more (is_loose_rank x.rank) (is_loose_rank y) x.pieces (loose_less y x.rank (Rattle.std.proofs.lemmas.Bool.and_parts (takes y x.rank) _ fit).0) (shaped_among (spellings (expr y i f) n) (table_shaped (expr y i f) n) h)
spelling_shuts (chain_part f) n x h fit = shaped_among (spellings (chain_part f) n) (table_shaped (chain_part f) n) h
spelling_shuts name n x h fit = shaped_among (spellings name n) (table_shaped name n) h
spelling_shuts word n x h fit = shaped_among (spellings word n) (table_shaped word n) h
spelling_shuts private_name n x h fit = shaped_among (spellings private_name n) (table_shaped private_name n) h
spelling_shuts key n x h fit = shaped_among (spellings key n) (table_shaped key n) h
spelling_shuts shorthand_key n x h fit = shaped_among (spellings shorthand_key n) (table_shaped shorthand_key n) h
spelling_shuts base n x h fit = shaped_among (spellings base n) (table_shaped base n) h
spelling_shuts directive_string n x h fit = shaped_among (spellings directive_string n) (table_shaped directive_string n) h
spelling_shuts tagged_quasi n x h fit = shaped_among (spellings tagged_quasi n) (table_shaped tagged_quasi n) h
spelling_shuts (template_element b c) n x h fit = shaped_among (spellings (template_element b c) n) (table_shaped (template_element b c) n) h
spelling_shuts spread n x h fit = shaped_among (spellings spread n) (table_shaped spread n) h
spelling_shuts property n x h fit = shaped_among (spellings property n) (table_shaped property n) h
spelling_shuts (pattern b f) n x h fit = shaped_among (spellings (pattern b f) n) (table_shaped (pattern b f) n) h
spelling_shuts (pattern_property b) n x h fit = shaped_among (spellings (pattern_property b) n) (table_shaped (pattern_property b) n) h
spelling_shuts (element b) n x h fit = shaped_among (spellings (element b) n) (table_shaped (element b) n) h
spelling_shuts (rest b c) n x h fit = shaped_among (spellings (rest b c) n) (table_shaped (rest b c) n) h
spelling_shuts (method z) n x h fit = shaped_among (spellings (method z) n) (table_shaped (method z) n) h
spelling_shuts body n x h fit = shaped_among (spellings body n) (table_shaped body n) h
spelling_shuts (statement r) n x h fit = shaped_among (spellings (statement r) n) (table_shaped (statement r) n) h
spelling_shuts (item r) n x h fit = shaped_among (spellings (item r) n) (table_shaped (item r) n) h
spelling_shuts (opening r) n x h fit = shaped_among (spellings (opening r) n) (table_shaped (opening r) n) h
spelling_shuts (block r) n x h fit = shaped_among (spellings (block r) n) (table_shaped (block r) n) h
spelling_shuts (head b) n x h fit = shaped_among (spellings (head b) n) (table_shaped (head b) n) h
spelling_shuts (declarator i b) n x h fit = shaped_among (spellings (declarator i b) n) (table_shaped (declarator i b) n) h
spelling_shuts (switch_case r) n x h fit = shaped_among (spellings (switch_case r) n) (table_shaped (switch_case r) n) h
spelling_shuts (handler r) n x h fit = shaped_among (spellings (handler r) n) (table_shaped (handler r) n) h
spelling_shuts class_body n x h fit = shaped_among (spellings class_body n) (table_shaped class_body n) h
spelling_shuts member n x h fit = shaped_among (spellings member n) (table_shaped member n) h
spelling_shuts module_item n x h fit = shaped_among (spellings module_item n) (table_shaped module_item n) h
spelling_shuts specifier n x h fit = shaped_among (spellings specifier n) (table_shaped specifier n) h
spelling_shuts default_item n x h fit = shaped_among (spellings default_item n) (table_shaped default_item n) h
spelling_shuts script n x h fit = shaped_among (spellings script n) (table_shaped script n) h
