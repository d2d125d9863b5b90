-- Each spelling of the table is neat.
use Rattle.std.proofs.Common.{◌≡◌, ℕ, Bool, true, false, cond, not, ◌&&◌, ◌||◌, List, [], ◌∷◌, ◌++◌, refl, sym, ap, ◌∙◌, subst, append_assoc}
use Rattle.std.specs.Prelude.{codes, nat_le, Option, Some, None}
use Rattle.std.proofs.lemmas.Bool.{false≢true, and_from}
use Rattle.tokens.specs.declared.token.TokenClass.TheVariants.{IdentifierName}
use Rattle.tree.specs.declared.kind.Kind.{Kind}
use Rattle.tree.specs.declared.kind.Kind.TheVariants as kind
use Rattle.tree.specs.declared.kind.Flags.{Flags}
use Rattle.tree.specs.declared.kind.Form.{Form}
use Rattle.tree.specs.declared.kind.Form.TheVariants as form
use Rattle.tree.specs.Tree.{Tree, node, Parts, none, part, gap, kind_of, parts_of}
use Rattle.language.specs.FirstPart.{lead as lead_kind, others}
use Rattle.language.specs.declared.Rank.TheVariants.{Expression, Assignment, Grouped}
use Rattle.language.specs.declared.Start.TheVariants.{Any}
use Rattle.language.specs.Vocabulary.{is, among, is_reserved, is_rest, is_pattern, is_identifier, is_private, literal_class, is_string}
use Rattle.language.specs.Pieces.{Role, expr, chain_part, name, word, private_name, key, shorthand_key, base, directive_string, tagged_quasi, template_element, spread, property, pattern, pattern_property, element, rest, method, body, statement, item, opening, block, head, declarator, switch_case, handler, class_body, member, module_item, specifier, default_item, script, Ending, Piece, tok, many, unbroken, no_operand, ending, behind, behind_value, behind_key, nothing, sub, absent, never, lay, line, feed, deeper, shallower, put, put_at, only, only_at, sign, term, sp, Spelling, is_none, listed, elements, parameters, bound, with_default, pattern_element}
use Rattle.language.specs.Expressions.{keyed, method_words, value_form, module_name, properties, pattern_properties, shorthand_pattern, object_pattern_part, methods, assignment, given, method_of}
use Rattle.language.specs.Statements.{statements, items, openings, cases, handlers, class_keyed, members, static_word, key_word, fields, from_source, imports, exported_declaration, exported_default, module_items, specifiers, default_items, lines, prologue, for_words, member_lines, declarators, declaration, end_of, after_word, whole, for_left, is_declaration, first_is_string, is_one, defaults}
use Rattle.language.specs.Edges.{edge, last_edge, ends_in_if}
use Rattle.language.specs.Grammar.{spellings}
use Rattle.language.proofs.table.NeatPieces.{Touch, fresh, apart_from, broken, solid, named, valued, closed, stated, dotted, starred, signed, echoed, Sort, an_operand, sort_of, neat, is_item_touch, NeatBehind, is_item_sort, is_item_piece, neat_item, nothing_behind, behind_part, slot_sort, loose_first, echo_followed, item_followed}
use Rattle.language.proofs.table.NeatLists.{neat_listed, neat_elements, neat_parameters, neat_pattern_element, neat_pattern_part, neat_bound, neat_default, neat_lines, neat_body, neat_members, neat_declarators, neat_braced, neat_chunks, neat_module_name, source_end, neat_named_imports, neat_export_list}
use Rattle.language.proofs.table.NeatExpressions.{Neat, no_spelling, a_spelling, one, neat_sole, neat_cond, bracket_end, list_brace_end, body_end, neat_function, neat_class, first_is_open, neat_literal, neat_expressions, neat_spines}

neat_unless : {b : Bool} (c : Bool) (qs : List Piece) → neat b false fresh qs ≡ true → Neat b (cond c [] (only qs))
neat_unless true qs h = no_spelling
neat_unless false qs h = one h

-- the end of a statement behind a part or a name
statement_end : (e : Rattle.language.specs.Pieces.Ending) → NeatBehind false (ending e ∷ [])
statement_end e b apart_from h = refl
statement_end e b solid h = refl
statement_end e b named h = refl
statement_end e b valued h = refl
statement_end e b stated h = refl
statement_end e b closed h = refl
statement_end e b fresh h = absurd (false≢true h)
statement_end e b dotted h = absurd (false≢true h)
statement_end e b starred h = absurd (false≢true h)
statement_end e b signed h = absurd (false≢true h)
statement_end e b echoed h = absurd (false≢true h)
statement_end e b broken h = absurd (false≢true h)

neat_declaration : (b : Bool) (w : List ℕ) (a : Role) → is_item_sort (sort_of a) ≡ true → (ps : Parts) (ys : List Piece) → NeatBehind false ys → neat b false fresh (declaration w a ps ++ ys) ≡ true
neat_declaration b w a h ps ys k = neat_declarators false a h ps b apart_from ys refl k

neat_head : (b : Bool) (w : List ℕ) (a : Role) → is_item_sort (sort_of a) ≡ true → (ps : Parts) → neat b false fresh (declaration w a ps) ≡ true
neat_head b w a h ps = subst (λ xs. neat b false apart_from xs ≡ true) (Rattle.std.proofs.Common.append-nil (declarators a ps)) (neat_declarators false a h ps b apart_from [] refl nothing_behind)

neat_word_end : (b : Bool) (w : List ℕ) (ps : Parts) (a : Role) (e : Rattle.language.specs.Pieces.Ending) → is_item_sort (sort_of a) ≡ true → neat b false fresh (tok IdentifierName w ∷ after_word ps (put a) ++ ending e ∷ []) ≡ true
neat_word_end b w none a e h = refl
neat_word_end b w (gap ps) a e h = refl
neat_word_end b w (part n ps) a e h = neat_item b false apart_from (put a) (ending e ∷ []) refl h (statement_end e)

-- heads of `for`

for_head : (b : Bool) (ps : Parts) (ys : List Piece) → loose_first ys ≡ false → ((c : Bool) (s : Touch) → is_item_touch s ≡ true → neat c false s ys ≡ true) →
    neat b false solid (given ps (put (cond (is_declaration (lead_kind ps)) (head true) (expr Expression false Any)) ∷ []) ++ ys) ≡ true
for_head b none ys l k = refl
for_head b (gap ps) ys l k = and_from _ _ (ap not l) (k true solid refl)
for_head b (part n ps) ys l k = of (is_declaration (kind_of n))
  where
    of : (t : Bool) → neat b false solid (put (cond t (head true) (expr Expression false Any)) ∷ ys) ≡ true
    of true = k true stated refl
    of false = k true valued refl

for_clause : (ps : Parts) (ys : List Piece) → loose_first ys ≡ false → ((c : Bool) (s : Touch) → is_item_touch s ≡ true → neat c false s ys ≡ true) → (c : Bool) → neat c false solid (given ps (sp ∷ whole ∷ []) ++ ys) ≡ true
for_clause none ys l k c = refl
for_clause (gap ps) ys l k c = and_from _ _ (ap not l) (k true solid refl)
for_clause (part n ps) ys l k c = k true valued refl

semicolon_then : (qs : List Piece) → ((c : Bool) → neat c false solid qs ≡ true) → NeatBehind false (sign ";" ∷ qs)
semicolon_then qs k b apart_from h = k b
semicolon_then qs k b solid h = k b
semicolon_then qs k b named h = k b
semicolon_then qs k b valued h = k b
semicolon_then qs k b stated h = k b
semicolon_then qs k b closed h = k b
semicolon_then qs k b fresh h = absurd (false≢true h)
semicolon_then qs k b dotted h = absurd (false≢true h)
semicolon_then qs k b starred h = absurd (false≢true h)
semicolon_then qs k b signed h = absurd (false≢true h)
semicolon_then qs k b echoed h = absurd (false≢true h)
semicolon_then qs k b broken h = absurd (false≢true h)

for_end : (r : Bool) → NeatBehind false (sign ")" ∷ sp ∷ put (statement r) ∷ [])
for_end r b apart_from h = refl
for_end r b solid h = refl
for_end r b named h = refl
for_end r b valued h = refl
for_end r b stated h = refl
for_end r b closed h = refl
for_end r b fresh h = absurd (false≢true h)
for_end r b dotted h = absurd (false≢true h)
for_end r b starred h = absurd (false≢true h)
for_end r b signed h = absurd (false≢true h)
for_end r b echoed h = absurd (false≢true h)
for_end r b broken h = absurd (false≢true h)

neat_for : (b r : Bool) (ps qs rs : Parts) → neat b false solid (given ps (put (cond (is_declaration (lead_kind ps)) (head true) (expr Expression false Any)) ∷ []) ++ (sign ";" ∷ (given qs (sp ∷ whole ∷ []) ++ (sign ";" ∷ (given rs (sp ∷ whole ∷ []) ++ (sign ")" ∷ sp ∷ put (statement r) ∷ [])))))) ≡ true
neat_for b r ps qs rs =
    let last = sign ")" ∷ sp ∷ put (statement r) ∷ [] in
    let after = given rs (sp ∷ whole ∷ []) ++ last in
    let test = given qs (sp ∷ whole ∷ []) ++ (sign ";" ∷ after) in
    for_head b ps (sign ";" ∷ test) refl (λ c s h. semicolon_then test (λ d. for_clause qs (sign ";" ∷ after) refl (λ c s h. semicolon_then after (λ d. for_clause rs last refl (λ c s h. for_end r c s h) d) c s h) d) c s h)

for_left_item : (ps : Parts) → is_item_piece (for_left ps) ≡ true
for_left_item ps = of (is_declaration (lead_kind ps))
  where
    of : (t : Bool) → is_item_piece (put_at (cond t (Some (head false)) (bound false (lead_kind ps)))) ≡ true
    of true = refl
    of false = neat_bound false (lead_kind ps)

neat_for_pieces : (b r : Bool) (ps : Parts) → neat b false fresh (((term "for" ∷ sp ∷ sign "(" ∷ given ps (put (cond (is_declaration (lead_kind ps)) (head true) (expr Expression false Any)) ∷ []))
    ++ sign ";" ∷ given (others ps) (sp ∷ whole ∷ []))
    ++ sign ";" ∷ given (others (others ps)) (sp ∷ whole ∷ [])
    ++ sign ")" ∷ sp ∷ put (statement r) ∷ []) ≡ true
neat_for_pieces b r ps =
    let first = given ps (put (cond (is_declaration (lead_kind ps)) (head true) (expr Expression false Any)) ∷ []) in
    let test = sign ";" ∷ given (others ps) (sp ∷ whole ∷ []) in
    let update = sign ";" ∷ given (others (others ps)) (sp ∷ whole ∷ []) in
    let last = sign ")" ∷ sp ∷ put (statement r) ∷ [] in
    subst (λ xs. neat b false solid xs ≡ true) (sym (append_assoc (first ++ test) update last ∙ append_assoc first test (update ++ last))) (neat_for b r ps (others ps) (others (others ps)))

for_word : (w : List ℕ) (a : Role) (r : Bool) → is_item_sort (sort_of a) ≡ true → NeatBehind false (sp ∷ tok IdentifierName w ∷ sp ∷ put a ∷ sign ")" ∷ sp ∷ put (statement r) ∷ [])
for_word w a r i b apart_from h = neat_item b false apart_from (put a) (sign ")" ∷ sp ∷ put (statement r) ∷ []) refl i (for_end r)
for_word w a r i b solid h = neat_item b false apart_from (put a) (sign ")" ∷ sp ∷ put (statement r) ∷ []) refl i (for_end r)
for_word w a r i b named h = neat_item b false apart_from (put a) (sign ")" ∷ sp ∷ put (statement r) ∷ []) refl i (for_end r)
for_word w a r i b valued h = neat_item b false apart_from (put a) (sign ")" ∷ sp ∷ put (statement r) ∷ []) refl i (for_end r)
for_word w a r i b stated h = neat_item b false apart_from (put a) (sign ")" ∷ sp ∷ put (statement r) ∷ []) refl i (for_end r)
for_word w a r i b closed h = neat_item b false apart_from (put a) (sign ")" ∷ sp ∷ put (statement r) ∷ []) refl i (for_end r)
for_word w a r i b fresh h = absurd (false≢true h)
for_word w a r i b dotted h = absurd (false≢true h)
for_word w a r i b starred h = absurd (false≢true h)
for_word w a r i b signed h = absurd (false≢true h)
for_word w a r i b echoed h = absurd (false≢true h)
for_word w a r i b broken h = absurd (false≢true h)

neat_for_of : (b r : Bool) (x : Form) (ps : Parts) → neat b false fresh (term "for" ∷ sp ∷ for_words x ++ sign "(" ∷ for_left ps ∷ sp ∷ term "of" ∷ sp ∷ put (expr Assignment true Any) ∷ sign ")" ∷ sp ∷ put (statement r) ∷ []) ≡ true
neat_for_of b r form.Init ps = neat_item b false solid (for_left ps) (sp ∷ term "of" ∷ sp ∷ put (expr Assignment true Any) ∷ sign ")" ∷ sp ∷ put (statement r) ∷ []) refl (for_left_item ps) (for_word (codes "of") (expr Assignment true Any) r refl)
neat_for_of b r form.Async ps = neat_item b false solid (for_left ps) (sp ∷ term "of" ∷ sp ∷ put (expr Assignment true Any) ∷ sign ")" ∷ sp ∷ put (statement r) ∷ []) refl (for_left_item ps) (for_word (codes "of") (expr Assignment true Any) r refl)
neat_for_of b r _ ps = refl

-- statements

pub neat_statements : (b r : Bool) (k : Kind) (w : List ℕ) (g : Flags) (ps : Parts) → Neat b (statements r k w g ps)
unfolding statements
neat_statements b r kind.BlockStatement w g ps = one (neat_braced ps (lines (item r) ps) (λ ys k c s t. neat_lines false (item r) refl ps ys k c s t) b fresh refl)
neat_statements b r kind.VariableDeclaration w g ps = neat_cond (is w "var") (λ e. one (neat_declaration b w (declarator true true) refl ps (end_of (last_edge ps) ∷ []) (statement_end (behind (last_edge ps))))) (λ e. no_spelling)
neat_statements b r kind.ExpressionStatement w g ps = neat_cond g.directive (λ e. no_spelling) (λ e. one refl)
neat_statements b r kind.IfStatement w g none = no_spelling
neat_statements b r kind.IfStatement w g (gap ps) = no_spelling
neat_statements b r kind.IfStatement w g (part t none) = no_spelling
neat_statements b r kind.IfStatement w g (part t (gap ps)) = no_spelling
neat_statements b r kind.IfStatement w g (part t (part c none)) = no_spelling
neat_statements b r kind.IfStatement w g (part t (part c (gap none))) = one refl
neat_statements b r kind.IfStatement w g (part t (part c (gap (part n ps)))) = no_spelling
neat_statements b r kind.IfStatement w g (part t (part c (gap (gap ps)))) = no_spelling
neat_statements b r kind.IfStatement w g (part t (part c (part a none))) = neat_cond (ends_in_if c) (λ e. no_spelling) (λ e. one refl)
neat_statements b r kind.IfStatement w g (part t (part c (part a (part n ps)))) = no_spelling
neat_statements b r kind.IfStatement w g (part t (part c (part a (gap ps)))) = no_spelling
neat_statements b r kind.ForStatement w g ps = one (neat_for_pieces b r ps)
neat_statements b r kind.ForInStatement w g ps = one (neat_item b false solid (for_left ps) (sp ∷ term "in" ∷ sp ∷ whole ∷ sign ")" ∷ sp ∷ put (statement r) ∷ []) refl (for_left_item ps) (for_word (codes "in") (expr Expression true Any) r refl))
neat_statements b r kind.ForOfStatement w g ps = one (neat_for_of b r g.form ps)
neat_statements b r kind.ContinueStatement w g ps = one (neat_word_end b (codes "continue") ps name (behind Rattle.language.specs.declared.Edge.TheVariants.Closed) refl)
neat_statements b r kind.BreakStatement w g ps = one (neat_word_end b (codes "break") ps name (behind Rattle.language.specs.declared.Edge.TheVariants.Closed) refl)
neat_statements b r kind.ReturnStatement w g ps = neat_cond r (λ e. one (neat_word_end b (codes "return") ps (expr Expression true Any) (behind (last_edge ps)) refl)) (λ e. no_spelling)
neat_statements b r kind.SwitchStatement w g ps =
    neat_cond (nat_le (defaults (others ps)) 1) (λ e. one (neat_braced (others ps) (lines (switch_case r) (others ps)) (λ ys k c s t. neat_lines false (switch_case r) refl (others ps) ys k c s t) true apart_from refl)) (λ e. no_spelling)
neat_statements b r kind.TryStatement w g (part m (part h (gap none))) = one refl
neat_statements b r kind.TryStatement w g (part m (part h (part f none))) = one refl
neat_statements b r kind.TryStatement w g (part m (gap (part f none))) = one refl
neat_statements b r kind.TryStatement w g _ = no_spelling
neat_statements b r k w g ps = neat_sole (statements r k w g ps) refl

pub neat_items : (b r : Bool) (k : Kind) (w : List ℕ) (g : Flags) (ps : Parts) → Neat b (items r k w g ps)
unfolding items
neat_items b r kind.FunctionDeclaration w g (part n ps) = one (neat_function b g.form (part n ps))
neat_items b r kind.FunctionDeclaration w g _ = no_spelling
neat_items b r kind.ClassDeclaration w g (part n ps) = one (neat_class b (part n ps))
neat_items b r kind.ClassDeclaration w g _ = no_spelling
neat_items b r kind.VariableDeclaration w g ps =
    neat_cond (among w ("var" ∷ "let" ∷ "const" ∷ [])) (λ e. one (neat_declaration b w (declarator true true) refl ps (end_of (last_edge ps) ∷ []) (statement_end (behind (last_edge ps))))) (λ e. no_spelling)
neat_items b r k w g ps = neat_statements b r k w g ps

neat_grouped : (b : Bool) (e : Rattle.language.specs.Pieces.Ending) → neat b false fresh (put (expr Grouped true Any) ∷ ending e ∷ []) ≡ true
neat_grouped true e = refl
neat_grouped false e = refl

pub neat_openings : (b r : Bool) (k : Kind) (w : List ℕ) (g : Flags) (ps : Parts) → Neat b (openings r k w g ps)
unfolding openings
neat_openings b r kind.ExpressionStatement w g ps =
    neat_cond g.directive (λ e. neat_cond (first_is_string ps) (λ h. one refl) (λ h. no_spelling))
    (λ e. neat_cond (first_is_string ps) (λ h. one (neat_grouped b (behind (last_edge ps)))) (λ h. one refl))
neat_openings b r k w g ps = neat_items b r k w g ps

-- properties and members

neat_keyed : (b : Bool) (before : List Piece) (c : Bool) (after : List Piece) → neat b false fresh (before ++ sign "[" ∷ assignment ∷ sign "]" ∷ after) ≡ true → neat b false fresh (before ++ put key ∷ after) ≡ true → Neat b (keyed before c after)
neat_keyed b before c after h k = neat_cond c (λ e. one h) (λ e. one k)

-- a method, by the form of its function
neat_method : (b c : Bool) (y : Form) → Neat b (keyed (method_words y) c (put (method (method_of y)) ∷ []))
neat_method b c form.Init = neat_keyed b (method_words form.Init) c (put (method (method_of form.Init)) ∷ []) refl refl
neat_method b c form.Generator = neat_keyed b (method_words form.Generator) c (put (method (method_of form.Generator)) ∷ []) refl refl
neat_method b c form.Async = neat_keyed b (method_words form.Async) c (put (method (method_of form.Async)) ∷ []) refl refl
neat_method b c form.AsyncGenerator = neat_keyed b (method_words form.AsyncGenerator) c (put (method (method_of form.AsyncGenerator)) ∷ []) refl refl
neat_method b c y = neat_keyed b nothing c (put (method (method_of y)) ∷ []) refl refl

neat_properties : (b c : Bool) (x y : Form) → Neat b (properties c x y)
neat_properties b c form.Init y = neat_keyed b [] c (sign ":" ∷ sp ∷ assignment ∷ []) refl refl
neat_properties b c form.Method y = neat_method b c y
neat_properties b c form.Get y = neat_keyed b (term "get" ∷ sp ∷ []) c (put (method form.Get) ∷ []) refl refl
neat_properties b c form.Set y = neat_keyed b (term "set" ∷ sp ∷ []) c (put (method form.Set) ∷ []) refl refl
neat_properties b c form.Shorthand y = neat_cond c (λ e. no_spelling) (λ e. one refl)
neat_properties b c _ y = no_spelling

neat_class_keyed : (b : Bool) (before : List Piece) (c : Bool) (k : Kind) (after : List Piece) → neat b false fresh (before ++ sign "[" ∷ assignment ∷ sign "]" ∷ after) ≡ true →
    neat b false fresh (before ++ put private_name ∷ after) ≡ true → neat b false fresh (before ++ put key ∷ after) ≡ true → Neat b (class_keyed before c k after)
neat_class_keyed b before c k after h p q = neat_cond c (λ e. one h) (λ e. one (of (is_private k)))
  where
    of : (t : Bool) → neat b false fresh (before ++ put (cond t private_name key) ∷ after) ≡ true
    of true = p
    of false = q

neat_class_method : (b s c : Bool) (y : Form) (k : Kind) → Neat b (class_keyed (static_word s ++ method_words y) c k (put (method (method_of y)) ∷ []))
neat_class_method b true c form.Init k = neat_class_keyed b (static_word true ++ method_words form.Init) c k (put (method (method_of form.Init)) ∷ []) refl refl refl
neat_class_method b true c form.Generator k = neat_class_keyed b (static_word true ++ method_words form.Generator) c k (put (method (method_of form.Generator)) ∷ []) refl refl refl
neat_class_method b true c form.Async k = neat_class_keyed b (static_word true ++ method_words form.Async) c k (put (method (method_of form.Async)) ∷ []) refl refl refl
neat_class_method b true c form.AsyncGenerator k = neat_class_keyed b (static_word true ++ method_words form.AsyncGenerator) c k (put (method (method_of form.AsyncGenerator)) ∷ []) refl refl refl
neat_class_method b true c y k = neat_class_keyed b (static_word true ++ nothing) c k (put (method (method_of y)) ∷ []) refl refl refl
neat_class_method b false c form.Init k = neat_class_keyed b (static_word false ++ method_words form.Init) c k (put (method (method_of form.Init)) ∷ []) refl refl refl
neat_class_method b false c form.Generator k = neat_class_keyed b (static_word false ++ method_words form.Generator) c k (put (method (method_of form.Generator)) ∷ []) refl refl refl
neat_class_method b false c form.Async k = neat_class_keyed b (static_word false ++ method_words form.Async) c k (put (method (method_of form.Async)) ∷ []) refl refl refl
neat_class_method b false c form.AsyncGenerator k = neat_class_keyed b (static_word false ++ method_words form.AsyncGenerator) c k (put (method (method_of form.AsyncGenerator)) ∷ []) refl refl refl
neat_class_method b false c y k = neat_class_keyed b (static_word false ++ nothing) c k (put (method (method_of y)) ∷ []) refl refl refl

neat_members_by : (b s c : Bool) (x y : Form) (k : Kind) → Neat b (members (static_word s) c x y k)
neat_members_by b true c form.Get y k = neat_class_keyed b (term "static" ∷ sp ∷ term "get" ∷ sp ∷ []) c k (put (method form.Get) ∷ []) refl refl refl
neat_members_by b false c form.Get y k = neat_class_keyed b (term "get" ∷ sp ∷ []) c k (put (method form.Get) ∷ []) refl refl refl
neat_members_by b true c form.Set y k = neat_class_keyed b (term "static" ∷ sp ∷ term "set" ∷ sp ∷ []) c k (put (method form.Set) ∷ []) refl refl refl
neat_members_by b false c form.Set y k = neat_class_keyed b (term "set" ∷ sp ∷ []) c k (put (method form.Set) ∷ []) refl refl refl
neat_members_by b s c _ y k = neat_class_method b s c y k

neat_fields : (b : Bool) (g : Flags) (ps : Parts) → Neat b (fields g ps)
neat_fields b g (part n (gap none)) = of g.is_static (behind_key (key_word g.computed n) g.is_static)
  where
    of : (s : Bool) (e : Ending) → Neat b (class_keyed (static_word s) g.computed (kind_of n) (absent ∷ ending e ∷ []))
    of true e = neat_class_keyed b (term "static" ∷ sp ∷ []) g.computed (kind_of n) (absent ∷ ending e ∷ []) refl refl refl
    of false e = neat_class_keyed b [] g.computed (kind_of n) (absent ∷ ending e ∷ []) refl refl refl
neat_fields b g (part n (part v none)) = of g.is_static (behind_value (edge v))
  where
    of : (s : Bool) (e : Ending) → Neat b (class_keyed (static_word s) g.computed (kind_of n) (sp ∷ sign "=" ∷ sp ∷ assignment ∷ ending e ∷ []))
    of true e = neat_class_keyed b (term "static" ∷ sp ∷ []) g.computed (kind_of n) (sp ∷ sign "=" ∷ sp ∷ assignment ∷ ending e ∷ []) refl refl refl
    of false e = neat_class_keyed b [] g.computed (kind_of n) (sp ∷ sign "=" ∷ sp ∷ assignment ∷ ending e ∷ []) refl refl refl
neat_fields b g _ = no_spelling

-- imports and exports

neat_default_import : (b : Bool) (n : Tree) (ps : Parts) → Neat b (imports kind.ImportDefaultSpecifier (part n ps))
neat_default_import b n (part (node kind.ImportNamespaceSpecifier w g s e qs) (part m none)) = one refl
neat_default_import b n (part (node kind.ImportNamespaceSpecifier w g s e qs) _) = no_spelling
neat_default_import b n (part (node kind.ImportSpecifier w g s e qs) ps) = one (neat_named_imports (part (node kind.ImportSpecifier w g s e qs) ps) true)
neat_default_import b n (part (node kind.Literal w g s e qs) none) = a_spelling refl (one refl)
neat_default_import b n (part (node kind.Literal w g s e qs) _) = no_spelling
neat_default_import b n (part (node _ w g s e qs) ps) = no_spelling
neat_default_import b n none = no_spelling
neat_default_import b n (gap ps) = no_spelling

neat_imports : (b : Bool) (k : Kind) (ps : Parts) → Neat b (imports k ps)
neat_imports b kind.Literal (part s none) = a_spelling refl (one refl)
neat_imports b kind.Literal _ = no_spelling
neat_imports b kind.ImportNamespaceSpecifier (part n (part s none)) = one refl
neat_imports b kind.ImportNamespaceSpecifier _ = no_spelling
neat_imports b kind.ImportSpecifier ps = one (neat_named_imports ps b)
neat_imports b kind.ImportDefaultSpecifier (part n ps) = neat_default_import b n ps
neat_imports b kind.ImportDefaultSpecifier _ = no_spelling
neat_imports b _ ps = no_spelling

neat_exported_declaration : (b : Bool) (k : Kind) → neat b false apart_from (exported_declaration k ∷ absent ∷ []) ≡ true
neat_exported_declaration b kind.FunctionDeclaration = refl
neat_exported_declaration b kind.ClassDeclaration = refl
neat_exported_declaration b kind.VariableDeclaration = refl
neat_exported_declaration b _ = refl

neat_exported_default : (b : Bool) (n : Tree) → neat b false apart_from (exported_default n) ≡ true
neat_exported_default b (node kind.FunctionDeclaration w g s e ps) = refl
neat_exported_default b (node kind.ClassDeclaration w g s e ps) = refl
neat_exported_default b (node _ w g s e ps) = refl

neat_module_items : (b : Bool) (k : Kind) (ps : Parts) → Neat b (module_items k ps)
neat_module_items b kind.ImportDeclaration ps = neat_imports b (lead_kind ps) ps
neat_module_items b kind.ExportNamedDeclaration (part d (gap none)) = one (neat_exported_declaration b (kind_of d))
neat_module_items b kind.ExportNamedDeclaration (gap ps) = one (neat_export_list ps true solid refl)
neat_module_items b kind.ExportNamedDeclaration _ = no_spelling
neat_module_items b kind.ExportDefaultDeclaration (part d none) = one (neat_exported_default b d)
neat_module_items b kind.ExportDefaultDeclaration _ = no_spelling
neat_module_items b kind.ExportAllDeclaration (gap (part s none)) = one refl
neat_module_items b kind.ExportAllDeclaration (part n (part s none)) = one (neat_item b false apart_from (module_name n) from_source refl (neat_module_name n) source_end)
neat_module_items b kind.ExportAllDeclaration _ = no_spelling
neat_module_items b _ ps = no_spelling

-- a name before a further one, and the last
name_then : (b : Bool) (m n : Tree) → neat b false fresh (module_name m ∷ sp ∷ term "as" ∷ sp ∷ module_name n ∷ []) ≡ true
name_then b m n = of (is_identifier (kind_of m)) (is_identifier (kind_of n))
  where
    of : (c d : Bool) → neat b false fresh (put (cond c word directive_string) ∷ sp ∷ term "as" ∷ sp ∷ put (cond d word directive_string) ∷ []) ≡ true
    of true true = refl
    of true false = refl
    of false true = refl
    of false false = refl

name_as : (b : Bool) (m : Tree) → neat b false fresh (module_name m ∷ sp ∷ term "as" ∷ sp ∷ put name ∷ []) ≡ true
name_as b m = of (is_identifier (kind_of m))
  where
    of : (c : Bool) → neat b false fresh (put (cond c word directive_string) ∷ sp ∷ term "as" ∷ sp ∷ put name ∷ []) ≡ true
    of true = refl
    of false = refl

one_name : (b : Bool) (m : Tree) → neat b false fresh (module_name m ∷ []) ≡ true
one_name b m = of (is_identifier (kind_of m))
  where
    of : (c : Bool) → neat b false fresh (put (cond c word directive_string) ∷ []) ≡ true
    of true = refl
    of false = refl

neat_specifiers : (b : Bool) (k : Kind) (x : Form) (ps : Parts) → Neat b (specifiers k x ps)
neat_specifiers b kind.ImportDefaultSpecifier x (part n none) = one refl
neat_specifiers b kind.ImportDefaultSpecifier x _ = no_spelling
neat_specifiers b kind.ImportNamespaceSpecifier x (part n none) = one refl
neat_specifiers b kind.ImportNamespaceSpecifier x _ = no_spelling
neat_specifiers b kind.ImportSpecifier form.Shorthand (part n none) = one refl
neat_specifiers b kind.ImportSpecifier form.Init (part m (part n none)) = one (name_as b m)
neat_specifiers b kind.ImportSpecifier _ _ = no_spelling
neat_specifiers b kind.ExportSpecifier form.Shorthand (part n none) = one (one_name b n)
neat_specifiers b kind.ExportSpecifier form.Init (part m (part n none)) = one (name_then b m n)
neat_specifiers b kind.ExportSpecifier _ _ = no_spelling
neat_specifiers b _ x ps = no_spelling

neat_default_items : (b : Bool) (k : Kind) (x : Form) (ps : Parts) → Neat b (default_items k x ps)
neat_default_items b kind.FunctionDeclaration x ps = one (neat_function b x ps)
neat_default_items b kind.ClassDeclaration x ps = one (neat_class b ps)
neat_default_items b _ x ps = no_spelling

neat_shorthand : (b : Bool) (k : Kind) → Neat b (shorthand_pattern k)
neat_shorthand b kind.Identifier = one refl
neat_shorthand b kind.AssignmentPattern = one refl
neat_shorthand b _ = no_spelling

pattern_value : (b d : Bool) (k : Kind) → neat d false apart_from (put_at (with_default b k) ∷ []) ≡ true
pattern_value b d k = neat_item d false apart_from (put_at (with_default b k)) [] refl (neat_default b k) nothing_behind

neat_pattern_properties : (d b c : Bool) (x : Form) (k : Kind) → Neat d (pattern_properties b c x k)
neat_pattern_properties d b c form.Init k = neat_keyed d [] c (sign ":" ∷ sp ∷ put_at (with_default b k) ∷ []) (pattern_value b true k) (pattern_value b true k)
neat_pattern_properties d b c form.Shorthand k = neat_cond c (λ e. no_spelling) (λ e. neat_shorthand d k)
neat_pattern_properties d b c _ k = no_spelling

-- what is bound, before a default or nothing

before_default : NeatBehind false (sp ∷ sign "=" ∷ sp ∷ assignment ∷ [])
before_default b apart_from h = refl
before_default b solid h = refl
before_default b named h = refl
before_default b valued h = refl
before_default b stated h = refl
before_default b closed h = refl
before_default b fresh h = absurd (false≢true h)
before_default b dotted h = absurd (false≢true h)
before_default b starred h = absurd (false≢true h)
before_default b signed h = absurd (false≢true h)
before_default b echoed h = absurd (false≢true h)
before_default b broken h = absurd (false≢true h)

before_value : (i : Bool) → NeatBehind false (sp ∷ sign "=" ∷ sp ∷ put (expr Assignment i Any) ∷ [])
before_value i b apart_from h = refl
before_value i b solid h = refl
before_value i b named h = refl
before_value i b valued h = refl
before_value i b stated h = refl
before_value i b closed h = refl
before_value i b fresh h = absurd (false≢true h)
before_value i b dotted h = absurd (false≢true h)
before_value i b starred h = absurd (false≢true h)
before_value i b signed h = absurd (false≢true h)
before_value i b echoed h = absurd (false≢true h)
before_value i b broken h = absurd (false≢true h)

neat_only_at : (b : Bool) (a : Option Role) (qs : List Piece) → is_item_piece (put_at a) ≡ true → NeatBehind false qs → Neat b (only_at a qs)
neat_only_at b (Some a) qs h k = one (and_from (echo_followed (sort_of a) qs) _ (item_followed (sort_of a) qs h) (k true (behind_part b (sort_of a)) (Rattle.language.proofs.table.NeatPieces.behind_item b (sort_of a) h)))
neat_only_at b None qs h k = no_spelling

neat_methods : (b : Bool) (x : Form) (ps : Parts) → Neat b (methods x ps)
neat_methods b form.Get (gap (part m none)) = one refl
neat_methods b form.Get _ = no_spelling
neat_methods b form.Set (gap (part n (part m none))) = neat_cond (is_rest (kind_of n)) (λ e. no_spelling) (λ e. one (neat_item true false solid (put_at (with_default true (kind_of n))) (sign ")" ∷ sp ∷ put body ∷ []) refl (neat_default true (kind_of n)) body_end))
neat_methods b form.Set _ = no_spelling
neat_methods b _ (gap ps) = one (neat_parameters ps true false solid (sign ")" ∷ sp ∷ put body ∷ []) refl body_end)
neat_methods b _ _ = no_spelling

case_end : NeatBehind false (lay shallower ∷ [])
case_end b s h = nothing_behind b s h

neat_cases : (b r : Bool) (k : Kind) (ps : Parts) → Neat b (cases r k ps)
neat_cases b r kind.SwitchCase (part t ps) = one (neat_lines false (item r) refl ps (lay shallower ∷ []) case_end true solid refl)
neat_cases b r kind.SwitchCase (gap ps) = one (neat_lines false (item r) refl ps (lay shallower ∷ []) case_end true solid refl)
neat_cases b r _ ps = no_spelling

neat_handlers : (b r : Bool) (k : Kind) (ps : Parts) → Neat b (handlers r k ps)
neat_handlers b r kind.CatchClause (part p ps) = one (neat_item b false solid (put_at (bound true (kind_of p))) (sign ")" ∷ sp ∷ put (block r) ∷ []) refl (neat_bound true (kind_of p)) (block_end r))
  where
    block_end : (r : Bool) → NeatBehind false (sign ")" ∷ sp ∷ put (block r) ∷ [])
    block_end r b apart_from h = refl
    block_end r b solid h = refl
    block_end r b named h = refl
    block_end r b valued h = refl
    block_end r b stated h = refl
    block_end r b closed h = refl
    block_end r b fresh h = absurd (false≢true h)
    block_end r b dotted h = absurd (false≢true h)
    block_end r b starred h = absurd (false≢true h)
    block_end r b signed h = absurd (false≢true h)
    block_end r b echoed h = absurd (false≢true h)
    block_end r b broken h = absurd (false≢true h)
neat_handlers b r kind.CatchClause (gap ps) = one refl
neat_handlers b r _ ps = no_spelling

-- any position but a script's, which ends the text, and a shorthand key's, which has no token
abbrev pub is_plain : Role → Bool
is_plain script = false
is_plain shorthand_key = false
is_plain _ = true

pub table_neat : (a : Role) (n : Tree) → is_plain a ≡ true → Neat (first_is_open (parts_of n)) (spellings a n)
unfolding spellings
table_neat (expr y i f) (node k w g s e ps) pl = neat_expressions k w g ps
table_neat (chain_part f) (node k w g s e ps) pl = neat_spines (first_is_open ps) k g ps
table_neat name (node kind.Identifier w g s e ps) pl = neat_cond (is_reserved w) (λ e. no_spelling) (λ e. one refl)
table_neat name (node _ w g s e ps) pl = no_spelling
table_neat word (node kind.Identifier w g s e ps) pl = one refl
table_neat word (node _ w g s e ps) pl = no_spelling
table_neat private_name (node kind.PrivateIdentifier w g s e ps) pl = one refl
table_neat private_name (node _ w g s e ps) pl = no_spelling
table_neat key (node kind.Identifier w g s e ps) pl = one refl
table_neat key (node kind.Literal w g s e ps) pl = neat_unless _ (tok (literal_class w) w ∷ []) (neat_literal (first_is_open ps) w)
table_neat key (node _ w g s e ps) pl = no_spelling
table_neat base (node kind.Super w g s e ps) pl = one refl
table_neat base (node _ w g s e ps) pl = no_spelling
table_neat directive_string (node kind.Literal w g s e ps) pl = neat_cond (is_string (literal_class w)) (λ e. one refl) (λ e. no_spelling)
table_neat directive_string (node _ w g s e ps) pl = no_spelling
table_neat tagged_quasi (node kind.TemplateLiteral w g s e ps) pl = one (neat_chunks true ps (first_is_open ps) fresh refl)
table_neat tagged_quasi (node _ w g s e ps) pl = no_spelling
table_neat (template_element x y) (node kind.TemplateElement w g s e ps) pl = one refl
table_neat (template_element x y) (node _ w g s e ps) pl = no_spelling
table_neat spread (node kind.SpreadElement w g s e ps) pl = one refl
table_neat spread (node _ w g s e ps) pl = no_spelling
table_neat property (node kind.Property w g s e ps) pl = neat_properties (first_is_open ps) g.computed g.form (value_form ps)
table_neat property (node _ w g s e ps) pl = no_spelling
table_neat (pattern b f) (node kind.ArrayPattern w g s e ps) pl = one (neat_elements (pattern_element b) (neat_pattern_element b) ps (first_is_open ps) false solid (sign "]" ∷ []) refl bracket_end)
table_neat (pattern b f) (node kind.ObjectPattern w g s e ps) pl = one (neat_listed (object_pattern_part b) (neat_pattern_part b) ps (first_is_open ps) false solid (sign "}" ∷ []) refl list_brace_end)
table_neat (pattern b f) (node _ w g s e ps) pl = no_spelling
table_neat (pattern_property b) (node kind.Property w g s e ps) pl = neat_pattern_properties (first_is_open ps) b g.computed g.form (lead_kind (others ps))
table_neat (pattern_property b) (node _ w g s e ps) pl = no_spelling
table_neat (element b) (node kind.AssignmentPattern w g s e ps) pl = neat_only_at (first_is_open ps) (bound b (lead_kind ps)) (sp ∷ sign "=" ∷ sp ∷ assignment ∷ []) (neat_bound b (lead_kind ps)) before_default
table_neat (element b) (node _ w g s e ps) pl = no_spelling
table_neat (rest b o) (node kind.RestElement w g s e ps) pl = neat_unless _ (sign "..." ∷ put_at (bound b (lead_kind ps)) ∷ []) (neat_item (first_is_open ps) false solid (put_at (bound b (lead_kind ps))) [] refl (neat_bound b (lead_kind ps)) nothing_behind)
table_neat (rest b o) (node _ w g s e ps) pl = no_spelling
table_neat (method x) (node kind.FunctionExpression w g s e ps) pl = neat_cond _ (λ e. neat_methods (first_is_open ps) x ps) (λ e. no_spelling)
table_neat (method x) (node _ w g s e ps) pl = no_spelling
table_neat body (node kind.BlockStatement w g s e ps) pl = one (neat_braced ps (prologue true true (lay line ∷ []) [] ps) (λ ys k c s t. neat_body false true true ps ys k c s t) (first_is_open ps) fresh refl)
table_neat body (node _ w g s e ps) pl = no_spelling
table_neat (statement r) (node k w g s e ps) pl = neat_statements (first_is_open ps) r k w g ps
table_neat (item r) (node k w g s e ps) pl = neat_items (first_is_open ps) r k w g ps
table_neat (opening r) (node k w g s e ps) pl = neat_openings (first_is_open ps) r k w g ps
table_neat (block r) (node kind.BlockStatement w g s e ps) pl = one (neat_braced ps (lines (item r) ps) (λ ys k c s t. neat_lines false (item r) refl ps ys k c s t) (first_is_open ps) fresh refl)
table_neat (block r) (node _ w g s e ps) pl = no_spelling
table_neat (head b) (node kind.VariableDeclaration w g s e ps) pl = neat_cond (among w ("var" ∷ "let" ∷ "const" ∷ []) && (b || is_one ps)) (λ e. one (neat_head (first_is_open ps) w (declarator false b) refl ps)) (λ e. no_spelling)
table_neat (head b) (node _ w g s e ps) pl = no_spelling
table_neat (declarator i b) (node kind.VariableDeclarator w g s e (part n (part x none))) pl = neat_cond b (λ h. neat_only_at (first_is_open (part n (part x none))) (bound true (kind_of n)) (sp ∷ sign "=" ∷ sp ∷ put (expr Assignment i Any) ∷ []) (neat_bound true (kind_of n)) (before_value i)) (λ h. no_spelling)
table_neat (declarator i b) (node kind.VariableDeclarator w g s e (part n (gap none))) pl = neat_cond (b && is_pattern (kind_of n)) (λ h. no_spelling) (λ h. neat_only_at (first_is_open (part n (gap none))) (bound true (kind_of n)) (absent ∷ []) (neat_bound true (kind_of n)) (λ c t u. nothing_behind c t u))
table_neat (declarator i b) (node _ w g s e ps) pl = no_spelling
table_neat (switch_case r) (node k w g s e ps) pl = neat_cases (first_is_open ps) r k ps
table_neat (handler r) (node k w g s e ps) pl = neat_handlers (first_is_open ps) r k ps
table_neat class_body (node kind.ClassBody w g s e ps) pl = one (neat_braced ps (many (codes ";") ∷ member_lines ps) (λ ys k c s t. neat_members false ps ys k c s t) (first_is_open ps) fresh refl)
table_neat class_body (node _ w g s e ps) pl = no_spelling
table_neat member (node kind.MethodDefinition w g s e ps) pl = neat_cond _ (λ e. neat_members_by (first_is_open ps) g.is_static g.computed g.form (value_form ps) (lead_kind ps)) (λ e. no_spelling)
table_neat member (node kind.PropertyDefinition w g s e ps) pl = neat_fields (first_is_open ps) g ps
table_neat member (node kind.StaticBlock w g s e ps) pl = one (neat_braced ps (lines (item false) ps) (λ ys k c s t. neat_lines false (item false) refl ps ys k c s t) (first_is_open ps) apart_from refl)
table_neat member (node _ w g s e ps) pl = no_spelling
table_neat module_item (node k w g s e ps) pl = neat_module_items (first_is_open ps) k ps
table_neat specifier (node k w g s e ps) pl = neat_specifiers (first_is_open ps) k g.form ps
table_neat default_item (node k w g s e ps) pl = neat_default_items (first_is_open ps) k g.form ps
table_neat shorthand_key n pl = absurd (false≢true pl)
table_neat script n pl = absurd (false≢true pl)
