-- The view of the ways that begin with a token: what they are, and what their first token is.
use Rattle.std.proofs.Common.{◌≡◌, ℕ, Bool, true, false, cond, List, [], ◌∷◌, ◌++◌, refl, sym, ap, ◌∙◌, subst}
use Rattle.std.specs.Prelude.{IsTrue, codes, ◌&&◌, not}
use Prim.Native.String.{String}
use Rattle.std.proofs.lemmas.Bool.{and_parts, false≢true}
use Rattle.std.proofs.lemmas.Slice.Eq.{bytes_eq-Decides}
use Rattle.std.specs.Bool.{beq}
use Rattle.std.specs.Prelude.{if◌then◌else◌}
use Rattle.tokens.specs.Alphabet.{one_of, begins_with}
use Rattle.tokens.specs.declared.token.TokenClass.{TokenClass}
use Rattle.tokens.specs.declared.token.TokenClass.TheVariants.{IdentifierName, Punctuator, NumericLiteral, StringLiteral}
use Rattle.tokens.specs.declared.token.Goal.{Goal}
use Rattle.tokens.specs.Goals.{allows}
use Rattle.tree.specs.declared.kind.Kind.{Kind}
use Rattle.tree.specs.declared.kind.Kind.TheVariants.{Identifier, Literal, ThisExpression, Super, ArrayExpression, ObjectExpression, FunctionExpression, ArrowFunctionExpression, ClassExpression, TemplateLiteral, TemplateElement, MemberExpression, CallExpression, NewExpression, MetaProperty, ImportExpression, YieldExpression, UpdateExpression, UnaryExpression, AwaitExpression, BinaryExpression, AssignmentExpression, PrivateIdentifier, ArrayPattern, ObjectPattern}
use Rattle.language.specs.declared.Rank.{Rank}
use Rattle.language.specs.declared.Rank.TheVariants.{Assignment, Relational, Shift, Unary, Update, LeftHandSide, New, Call, Member, Expression}
use Rattle.language.specs.declared.Start.{Start}
use Rattle.language.specs.declared.Start.TheVariants.{Any, NoBrace, Statement}
use Rattle.tree.specs.declared.kind.Flags.{Flags}
use Rattle.tree.specs.declared.kind.Form.{Form}
use Rattle.tree.specs.declared.kind.Form.TheVariants.{Init, Generator, Async, AsyncGenerator}
use Rattle.tree.specs.Uses.{is_async}
use Rattle.tree.specs.declared.kind.Pair.{Pair}
use Rattle.tree.specs.Tree.{Tree, node, Parts, none, part, gap, kind_of, text_of, bare_parts}
use Rattle.language.specs.FirstPart.{lead as lead_kind, others}
use Rattle.language.specs.Vocabulary.{is, among, takes, is_target, is_pattern, is_super, is_identifier, is_private, is_name, literal_class, is_reserved, is_prefix, is_word_operator, op_assign, op_update, operator_of, is_keyword}
use Rattle.language.specs.Pieces.{Role, expr, name, word, private_name, base, pattern, template_element, body, PieceOf, Piece, tok, lay, sub, tail, absent, unbroken, no_operand, open_parameters, close_parameters, apart, space, sign, term, sp, nothing, at, Spelling, is_none, elements, listed, argument, parameters, put}
use Rattle.language.specs.Expressions.{arguments, selector, template_elements, object_part, named, class_pieces, async_word, arrow_words, arrow_end, lead_is, arrow_closing}
use Rattle.language.specs.Token.{Token}
use Rattle.language.specs.ExpressionStart.{ExpressionStart, with_name, with_literal, with_this, with_bracket, with_brace, with_function, with_class, with_template, with_parenthesis, with_super, with_new, with_import, with_yield, with_private_name, with_step, with_word, with_sign, no_start, start_words, start_among, expression_start_by, expression_start}
use Rattle.language.specs.Grammar.{spellings, ways, starts, can_run}
use Rattle.language.specs.Derivation.{Spells, direct, Runs, step, opened, within, reserved_word}
use Rattle.language.specs.Chosen as chosen
use Rattle.language.specs.Chosen.{Chosen}
use Rattle.language.specs.Forms as made
use Rattle.language.specs.Forms.{Production, form, spelling_of}
use Rattle.language.proofs.table.EveryWay.{formed_class}
use Rattle.language.proofs.table.EveryWay.{one_of as one_piece}
use Rattle.language.proofs.table.NodeForms.{Made, steps_target, assigns, is_prefixed}
use Rattle.language.proofs.lower_bound.Domination.{settled, fits}
use Rattle.language.proofs.table.ViewIsComplete.{way_of, one, unless}
use Rattle.language.proofs.climbing.Spine.{is_led}
use Rattle.language.proofs.table.Begins.{by, first_of, goes_to, among_by, Each, retell, begun, starts_term}
use Rattle.language.specs.Promises.{is_free, IsDetermined, ReadBy}
use Rattle.language.proofs.table.LeftRecursiveWays.{between}
use Rattle.language.proofs.table.OperatorFacts.{step_texts}

-- the space between two signs that would join
abbrev pub unary_space : List ℕ → List Piece
unary_space w = cond (is w "+") (lay (apart 43) ∷ []) (cond (is w "-") (lay (apart 45) ∷ []) [])

-- a function behind its word `function`
abbrev star_words : Form → List Piece
star_words Generator = sign "*" ∷ []
star_words AsyncGenerator = sign "*" ∷ []
star_words _ = []

abbrev pub function_rest : Form → Parts → List Piece
function_rest x ps = star_words x ++ (sp ∷ named ps) ++ sign "(" ∷ parameters (sign ")" ∷ sp ∷ put body ∷ []) (others ps)

-- one without `async`
abbrev pub is_plain_form : Form → Bool
is_plain_form Init = true
is_plain_form Generator = true
is_plain_form _ = false

-- what stands behind `async`, on its line: a function; an arrow's name or its parameters
pub data BehindAsync (y : Rank) (g : Flags) (ps : Parts) : Kind → List Piece → Type 0 where
  async_function : is_async g.form ≡ true → BehindAsync y g ps FunctionExpression (term "function" ∷ function_rest g.form ps)
  async_name : {n b : Tree} → g.form ≡ Async → ps ≡ part n (part b none) → is_identifier (kind_of n) ≡ true → IsTrue (takes y Assignment) → BehindAsync y g ps ArrowFunctionExpression (put name ∷ arrow_end g)
  async_parameters : g.form ≡ Async → IsTrue (takes y Assignment) → BehindAsync y g ps ArrowFunctionExpression (sign "(" ∷ parameters (sign ")" ∷ arrow_end g) ps)

-- behind `yield`: nothing, an operand, or `*` and an operand
abbrev pub yield_end : Form → Parts → List Piece
yield_end Init (gap none) = absent ∷ no_operand ∷ []
yield_end Init (part n none) = sp ∷ unbroken ∷ sub (tail Assignment Any) ∷ []
yield_end Generator (part n none) = unbroken ∷ sign "*" ∷ sp ∷ sub (tail Assignment Any) ∷ []
yield_end _ ps = nothing

-- The ways of a node that begin with a token, at the position `expr y i f`; the last index is what the first token is.
pub data Headed (y : Rank) (i : Bool) (f : Start) (k : Kind) (w : List ℕ) (g : Flags) (ps : Parts) (qs : List (PieceOf Role)) : ExpressionStart → Type 0 where
  head_identifier : k ≡ Identifier → is_reserved w ≡ false → qs ≡ tok IdentifierName w ∷ [] → Headed y i f k w g ps qs with_name
  head_literal : k ≡ Literal → (is_name (literal_class w) && not (among w ("true" ∷ "false" ∷ "null" ∷ []))) ≡ false → qs ≡ tok (literal_class w) w ∷ [] → Headed y i f k w g ps qs with_literal
  head_this : k ≡ ThisExpression → qs ≡ tok IdentifierName (codes "this") ∷ [] → Headed y i f k w g ps qs with_this
  head_array : k ≡ ArrayExpression → qs ≡ goes_to y i f ((sign "[" ∷ elements argument ps) ++ sign "]" ∷ []) → Headed y i f k w g ps qs with_bracket
  head_object : k ≡ ObjectExpression → IsTrue (starts f (sign "{" ∷ [])) → qs ≡ goes_to y i f ((sign "{" ∷ listed object_part ps) ++ sign "}" ∷ []) → Headed y i f k w g ps qs with_brace
  head_function : k ≡ FunctionExpression → is_plain_form g.form ≡ true → IsTrue (starts f (term "function" ∷ [])) → qs ≡ goes_to y i f (term "function" ∷ function_rest g.form ps) → Headed y i f k w g ps qs with_function
  head_class : k ≡ ClassExpression → IsTrue (starts f (term "class" ∷ [])) → qs ≡ goes_to y i f (class_pieces ps) → Headed y i f k w g ps qs with_class
  head_template : k ≡ TemplateLiteral → qs ≡ goes_to y i f (template_elements true ps) → Headed y i f k w g ps qs with_template
  head_short_arrow : {n b : Tree} → k ≡ ArrowFunctionExpression → g.form ≡ Init → ps ≡ part n (part b none) → is_identifier (kind_of n) ≡ true → IsTrue (takes y Assignment) → qs ≡ sub name ∷ goes_to y i f (arrow_end g) →
      Headed y i f k w g ps qs with_name
  head_arrow : k ≡ ArrowFunctionExpression → g.form ≡ Init → IsTrue (takes y Assignment) → qs ≡ open_parameters ∷ goes_to y i f (parameters (close_parameters ∷ arrow_end g) ps) → Headed y i f k w g ps qs with_parenthesis
  head_async : {rest : List Piece} → BehindAsync y g ps k rest → IsTrue (starts f (async_word ++ rest)) → qs ≡ goes_to y i f (async_word ++ rest) → Headed y i f k w g ps qs with_name
  head_super_member : k ≡ MemberExpression → g.optional ≡ false → is_super (lead_kind ps) ≡ true → IsTrue (takes y Member) → qs ≡ sub base ∷ goes_to y i f (selector g Identifier) → Headed y i f k w g ps qs with_super
  head_super_call : k ≡ CallExpression → g.optional ≡ false → is_super (lead_kind ps) ≡ true → IsTrue (takes y Call) → qs ≡ sub base ∷ goes_to y i f (arguments (others ps)) → Headed y i f k w g ps qs with_super
  head_new_with : k ≡ NewExpression → IsTrue (takes y Member) → qs ≡ tok IdentifierName (codes "new") ∷ lay space ∷ sub (expr Member true Any) ∷ goes_to y i f (arguments (others ps)) → Headed y i f k w g ps qs with_new
  head_new_without : k ≡ NewExpression → is_none (others ps) ≡ true → IsTrue (takes y New) → qs ≡ tok IdentifierName (codes "new") ∷ lay space ∷ sub (expr New true Any) ∷ [] → Headed y i f k w g ps qs with_new
  head_new_target : k ≡ MetaProperty → (lead_is ps "new" && lead_is (others ps) "target") ≡ true → IsTrue (takes y Member) → qs ≡ sub word ∷ tok Punctuator (codes ".") ∷ sub word ∷ [] → Headed y i f k w g ps qs with_new
  head_import_meta : k ≡ MetaProperty → (lead_is ps "import" && lead_is (others ps) "meta") ≡ true → IsTrue (takes y Member) → qs ≡ sub word ∷ tok Punctuator (codes ".") ∷ sub word ∷ [] → Headed y i f k w g ps qs with_import
  head_import : k ≡ ImportExpression → IsTrue (takes y Call) →
      qs ≡ tok IdentifierName (codes "import") ∷ tok Punctuator (codes "(") ∷ sub (expr Assignment true Any) ∷ tok Punctuator (codes ")") ∷ [] → Headed y i f k w g ps qs with_import
  head_yield : k ≡ YieldExpression → IsTrue (takes y Assignment) → qs ≡ tok IdentifierName (codes "yield") ∷ goes_to y i f (yield_end g.form ps) → Headed y i f k w g ps qs with_yield
  head_step : k ≡ UpdateExpression → operator_of w ≡ op_update → is_target (lead_kind ps) ≡ true → g.prefix ≡ true → IsTrue (takes y Update) →
      qs ≡ tok Punctuator w ∷ lay (apart (cond (is w "++") 43 45)) ∷ sub (expr LeftHandSide true Any) ∷ [] → Headed y i f k w g ps qs with_step
  head_await : k ≡ AwaitExpression → IsTrue (takes y Unary) → qs ≡ tok TokenClass.Keyword (codes "await") ∷ lay space ∷ sub (expr Unary true Any) ∷ [] → Headed y i f k w g ps qs with_word
  head_private : k ≡ BinaryExpression → is_private (lead_kind ps) ≡ true → w ≡ codes "in" → IsTrue (takes y Relational) → i ≡ true → qs ≡ sub private_name ∷ between (codes "in") (expr Shift i Any) → Headed y i f k w g ps qs with_private_name
  head_word : k ≡ UnaryExpression → is_prefix w ≡ true → is_word_operator w ≡ true → IsTrue (takes y Unary) → qs ≡ tok IdentifierName w ∷ lay space ∷ sub (expr Unary true Any) ∷ [] → Headed y i f k w g ps qs with_word
  head_sign : k ≡ UnaryExpression → is_prefix w ≡ true → is_word_operator w ≡ false → IsTrue (takes y Unary) → qs ≡ tok Punctuator w ∷ goes_to y i f (unary_space w ++ put (expr Unary true Any) ∷ []) →
      Headed y i f k w g ps qs with_sign
  head_array_pattern : k ≡ AssignmentExpression → operator_of w ≡ op_assign → is w "=" ≡ true → lead_kind ps ≡ ArrayPattern → IsTrue (takes y Assignment) →
      qs ≡ sub (pattern false f) ∷ between w (expr Assignment i Any) → Headed y i f k w g ps qs with_bracket
  head_object_pattern : k ≡ AssignmentExpression → operator_of w ≡ op_assign → is w "=" ≡ true → lead_kind ps ≡ ObjectPattern → IsTrue (takes y Assignment) →
      qs ≡ sub (pattern false f) ∷ between w (expr Assignment i Any) → Headed y i f k w g ps qs with_brace

-- a way that begins with a token, with what that is
pub record HeadedWay (y : Rank) (i : Bool) (f : Start) (k : Kind) (w : List ℕ) (g : Flags) (ps : Parts) (qs : List (PieceOf Role)) : Type 0 where
  pub opening : ExpressionStart
  pub headed : Headed y i f k w g ps qs opening

is_led_so : {A : Type 0} {qs rs : List (PieceOf Role)} → qs ≡ rs → is_led rs ≡ true → is_led qs ≡ false → A
is_led_so e h k = absurd (false≢true (sym k ∙ ap is_led e ∙ h))

abbrev behind_one : List Piece → List Piece
behind_one [] = []
behind_one (q ∷ qs) = qs

-- the first piece alone decides whether a start is met
starts_sign : (f : Start) (w : List ℕ) (qs : List Piece) → IsTrue (starts f (tok Punctuator w ∷ qs)) → IsTrue (starts f (tok Punctuator w ∷ []))
starts_sign Any w qs h = h
starts_sign NoBrace w qs h = h
starts_sign Statement w qs h = h

starts_fit : (y : Rank) (i : Bool) (f : Start) (x : Spelling) → IsTrue (fits (expr y i f) x) → IsTrue (starts f x.pieces)
starts_fit y i f x h = (and_parts _ _ (and_parts _ _ (and_parts _ _ h).0).1).1

-- an arrow with one plain parameter, by its form
short_pieces : (x : Form) (w : List ℕ) (g : Flags) (ps : Parts) → at Assignment (arrow_words x ++ put name ∷ arrow_end g) ≡ spelling_of (form (made.short_arrow x)) w g ps
short_pieces x w g ps = ap (λ z. at Assignment (arrow_words x ++ put name ∷ unbroken ∷ sp ∷ sign "=>" ∷ sp ∷ z)) (one_piece g.expression (sub (tail Assignment NoBrace)) (put body))

module _ (y : Rank) (i : Bool) (f : Start) where
  of_pattern : {w : List ℕ} {g : Flags} {ps : Parts} {qs : List (PieceOf Role)} (k : Kind) → lead_kind ps ≡ k → is_pattern k ≡ true → operator_of w ≡ op_assign → is w "=" ≡ true → IsTrue (takes y Assignment) →
      qs ≡ sub (pattern false f) ∷ between w (expr Assignment i Any) → HeadedWay y i f AssignmentExpression w g ps qs
  of_pattern ArrayPattern l h o e t q = record { opening = _; headed = head_array_pattern refl o e l t q }
  of_pattern ObjectPattern l h o e t q = record { opening = _; headed = head_object_pattern refl o e l t q }
  of_pattern _ l h o e t q = absurd (false≢true h)

  -- pieces that begin with what nothing spells
  no_words : {A : Type 0} (x : Spelling) → can_run x.pieces ≡ false → IsTrue (fits (expr y i f) x) → A
  no_words x h fit = absurd (false≢true (sym h ∙ (and_parts _ _ fit).1))

  function_headed : (w : List ℕ) (g : Flags) (ps : Parts) {qs : List (PieceOf Role)} (x : Form) → g.form ≡ x → IsTrue (fits (expr y i f) (spelling_of (form (made.function x)) w g ps)) → qs ≡ settled (expr y i f) (spelling_of (form (made.function x)) w g ps) → HeadedWay y i f FunctionExpression w g ps qs
  function_headed w g ps Init e fit eq = record { opening = _; headed = head_function refl (ap is_plain_form e) (starts_term f (codes "function") _ refl (starts_fit y i f (spelling_of (form (made.function Init)) w g ps) fit)) (eq ∙ ap (λ x. goes_to y i f (term "function" ∷ function_rest x ps)) (sym e)) }
  function_headed w g ps Generator e fit eq = record { opening = _; headed = head_function refl (ap is_plain_form e) (starts_term f (codes "function") _ refl (starts_fit y i f (spelling_of (form (made.function Generator)) w g ps) fit)) (eq ∙ ap (λ x. goes_to y i f (term "function" ∷ function_rest x ps)) (sym e)) }
  function_headed w g ps Async e fit eq =
      record { opening = _; headed = head_async (async_function (ap is_async e)) (subst (λ x. IsTrue (starts f (async_word ++ term "function" ∷ function_rest x ps))) (sym e) (starts_fit y i f (spelling_of (form (made.function Async)) w g ps) fit)) (eq ∙ ap (λ x. goes_to y i f (async_word ++ term "function" ∷ function_rest x ps)) (sym e)) }
  function_headed w g ps AsyncGenerator e fit eq =
      record { opening = _; headed = head_async (async_function (ap is_async e)) (subst (λ x. IsTrue (starts f (async_word ++ term "function" ∷ function_rest x ps))) (sym e) (starts_fit y i f (spelling_of (form (made.function AsyncGenerator)) w g ps) fit)) (eq ∙ ap (λ x. goes_to y i f (async_word ++ term "function" ∷ function_rest x ps)) (sym e)) }
  function_headed w g ps x e fit eq = no_words (spelling_of (form (made.function x)) w g ps) refl fit

  short_headed : (w : List ℕ) (g : Flags) (ps : Parts) {qs : List (PieceOf Role)} {n b : Tree} (x : Form) → g.form ≡ x → ps ≡ part n (part b none) → is_identifier (kind_of n) ≡ true → IsTrue (fits (expr y i f) (spelling_of (form (made.short_arrow x)) w g ps)) →
      qs ≡ settled (expr y i f) (spelling_of (form (made.short_arrow x)) w g ps) → HeadedWay y i f ArrowFunctionExpression w g ps qs
  short_headed w g ps Init e p h fit eq = record { opening = _; headed = head_short_arrow refl e p h (and_parts _ _ (and_parts _ _ fit).0).0 (eq ∙ ap (settled (expr y i f)) (sym (short_pieces Init w g ps))) }
  short_headed w g ps Async e p h fit eq =
      let q = short_pieces Async w g ps in
      record { opening = _; headed = head_async (async_name e p h (and_parts _ _ (and_parts _ _ fit).0).0) (subst (λ x. IsTrue (starts f x.pieces)) (sym q) (starts_fit y i f (spelling_of (form (made.short_arrow Async)) w g ps) fit)) (eq ∙ ap (settled (expr y i f)) (sym q)) }
  short_headed w g ps x e p h fit eq = no_words (spelling_of (form (made.short_arrow x)) w g ps) refl fit

  arrow_headed : (w : List ℕ) (g : Flags) (ps : Parts) {qs : List (PieceOf Role)} (x : Form) → g.form ≡ x → IsTrue (fits (expr y i f) (spelling_of (form (made.arrow x)) w g ps)) → qs ≡ settled (expr y i f) (spelling_of (form (made.arrow x)) w g ps) → HeadedWay y i f ArrowFunctionExpression w g ps qs
  arrow_headed w g ps Init e fit eq = record { opening = _; headed = head_arrow refl e (and_parts _ _ (and_parts _ _ fit).0).0 (eq ∙ ap (λ x. goes_to y i f (open_parameters ∷ parameters (arrow_closing x ∷ arrow_end g) ps)) e) }
  arrow_headed w g ps Async e fit eq =
      let q = ap (λ x. async_word ++ sign "(" ∷ parameters (arrow_closing x ∷ arrow_end g) ps) e in
      record { opening = _; headed = head_async (async_parameters e (and_parts _ _ (and_parts _ _ fit).0).0) (subst (λ x. IsTrue (starts f x)) q (starts_fit y i f (spelling_of (form (made.arrow Async)) w g ps) fit)) (eq ∙ ap (goes_to y i f) q) }
  arrow_headed w g ps x e fit eq = no_words (spelling_of (form (made.arrow x)) w g ps) refl fit

  -- the pieces of a `yield`, by its form and parts
  yield_pieces : (p : Production) (w : List ℕ) (g : Flags) (ps ps' : Parts) {x : Form} → g.form ≡ x → ps ≡ ps' → settled (expr y i f) (spelling_of (form p) w g ps') ≡ goes_to y i f (term "yield" ∷ yield_end x ps') → settled (expr y i f) (spelling_of (form p) w g ps) ≡ goes_to y i f (term "yield" ∷ yield_end g.form ps)
  yield_pieces p w g ps ps' {x} e d h = ap (λ z. settled (expr y i f) (spelling_of (form p) w g z)) d ∙ h ∙ sym (ap (λ z. goes_to y i f (term "yield" ∷ yield_end z ps')) e) ∙ sym (ap (λ z. goes_to y i f (term "yield" ∷ yield_end g.form z)) d)

  with_in : (b : Bool) → Rattle.tree.specs.Uses.implies true b ≡ true → b ≡ true
  with_in true h = refl
  with_in false h = cc

  form_headed : {k : Kind} {w : List ℕ} {g : Flags} {ps : Parts} {qs : List (PieceOf Role)} {p : Production} → Chosen w g ps (expr Expression true Any) k p → IsTrue (fits (expr y i f) (spelling_of (form p) w g ps)) → qs ≡ settled (expr y i f) (spelling_of (form p) w g ps) → is_led qs ≡ false → HeadedWay y i f k w g ps qs
  form_headed (chosen.identifier h) fit eq un = record { opening = _; headed = head_identifier refl h eq }
  form_headed (chosen.literal h) fit eq un = record { opening = _; headed = head_literal refl h eq }
  form_headed chosen.this fit eq un = record { opening = _; headed = head_this refl eq }
  form_headed chosen.array fit eq un = record { opening = _; headed = head_array refl eq }
  form_headed {w = w} {g = g} {ps = ps} chosen.object fit eq un = let x : Spelling = spelling_of (form made.object) w g ps in
      record { opening = _; headed = head_object refl (starts_sign f (codes "{") (behind_one x.pieces) (starts_fit y i f x fit)) eq }
  form_headed {w = w} {g = g} {ps = ps} chosen.function fit eq un = function_headed w g ps g.form refl fit eq
  form_headed {w = w} {g = g} {ps = ps} chosen.class fit eq un = let x : Spelling = spelling_of (form made.class) w g ps in
      record { opening = _; headed = head_class refl (starts_term f (codes "class") (behind_one x.pieces) refl (starts_fit y i f x fit)) (eq ∙ ap (settled (expr y i f)) (sym (formed_class w g ps))) }
  form_headed chosen.template fit eq un = record { opening = _; headed = head_template refl eq }
  form_headed {w = w} {g = g} {ps = ps} (chosen.short_arrow e h) fit eq un = short_headed w g ps g.form refl e h fit eq
  form_headed {w = w} {g = g} {ps = ps} chosen.arrow fit eq un = arrow_headed w g ps g.form refl fit eq
  form_headed (chosen.super_member o s) fit eq un = record { opening = _; headed = head_super_member refl o s (and_parts _ _ (and_parts _ _ fit).0).0 eq }
  form_headed (chosen.super_call o s) fit eq un = record { opening = _; headed = head_super_call refl o s (and_parts _ _ (and_parts _ _ fit).0).0 eq }
  form_headed chosen.new_with fit eq un = record { opening = _; headed = head_new_with refl (and_parts _ _ (and_parts _ _ fit).0).0 eq }
  form_headed (chosen.new_without h) fit eq un = record { opening = _; headed = head_new_without refl h (and_parts _ _ (and_parts _ _ fit).0).0 eq }
  form_headed (chosen.new_target h) fit eq un = record { opening = _; headed = head_new_target refl h (and_parts _ _ (and_parts _ _ fit).0).0 eq }
  form_headed (chosen.import_meta h) fit eq un = record { opening = _; headed = head_import_meta refl h (and_parts _ _ (and_parts _ _ fit).0).0 eq }
  form_headed {w = w} {g = g} {ps = ps} (chosen.yield_alone e p) fit eq un = record { opening = _; headed = head_yield refl (and_parts _ _ (and_parts _ _ fit).0).0 (eq ∙ yield_pieces made.yield_alone w g ps _ e p refl) }
  form_headed {w = w} {g = g} {ps = ps} (chosen.yield_operand e p) fit eq un = record { opening = _; headed = head_yield refl (and_parts _ _ (and_parts _ _ fit).0).0 (eq ∙ yield_pieces made.yield_operand w g ps _ e p refl) }
  form_headed {w = w} {g = g} {ps = ps} (chosen.yield_from e p) fit eq un = record { opening = _; headed = head_yield refl (and_parts _ _ (and_parts _ _ fit).0).0 (eq ∙ yield_pieces made.yield_from w g ps _ e p refl) }
  form_headed chosen.await fit eq un = record { opening = _; headed = head_await refl (and_parts _ _ (and_parts _ _ fit).0).0 eq }
  form_headed {w = w} {g = g} {ps = ps} (chosen.private_left p h) fit eq un =
      let text : w ≡ codes "in" = (bytes_eq-Decides w (codes "in")).0 h in
      let u = and_parts _ _ (and_parts _ _ fit).0 in
      record { opening = _; headed = head_private refl p text u.0 (with_in i (ap (λ b. Rattle.tree.specs.Uses.implies b i) (sym h) ∙ (and_parts _ _ u.1).0)) (eq ∙ ap (λ v. settled (expr y i f) (spelling_of (form made.private_left) v g ps)) text) }
  form_headed chosen.import_call fit eq un = record { opening = _; headed = head_import refl (and_parts _ _ (and_parts _ _ fit).0).0 eq }
  form_headed {w = w} {ps = ps} (chosen.prefix h p) fit eq un = let u = steps_target w (lead_kind ps) h in record { opening = _; headed = head_step refl u.0 u.1 p (and_parts _ _ (and_parts _ _ fit).0).0 eq }
  form_headed {w = w} (chosen.unary_word h v) fit eq un = record { opening = _; headed = head_word refl (is_prefixed w h) v (and_parts _ _ (and_parts _ _ fit).0).0 eq }
  form_headed {w = w} (chosen.unary_sign h v) fit eq un = record { opening = _; headed = head_sign refl (is_prefixed w h) v (and_parts _ _ (and_parts _ _ fit).0).0 eq }
  form_headed {w = w} {ps = ps} (chosen.assign_pattern h t c) fit eq un = let u = and_parts (is w "=") _ c in of_pattern (lead_kind ps) refl u.1 (assigns w h) u.0 (and_parts _ _ (and_parts _ _ fit).0).0 eq
  form_headed (chosen.of_statement s c) fit eq un = elim s [ ]
  form_headed (chosen.of_declaration s c) fit eq un = elim s [ ]
  form_headed _ fit eq un = is_led_so eq refl un

  -- each way that isn't led is one of these
  pub headed_of : {k : Kind} {w : List ℕ} {g : Flags} {ps : Parts} {qs : List (PieceOf Role)} {x : Spelling} → Made k w g ps x → IsTrue (fits (expr y i f) x) → qs ≡ settled (expr y i f) x → is_led qs ≡ false → HeadedWay y i f k w g ps qs
  headed_of m fit eq un = form_headed m.chosen (subst (λ x. IsTrue (fits (expr y i f) x)) m.is fit) (eq ∙ ap (settled (expr y i f)) m.is) un

-- an opening is that of the token's class and text
pub opens : (t : Token) {c : TokenClass} {w : List ℕ} {x : ExpressionStart} → t.class ≡ c → t.text ≡ w → expression_start_by c w ≡ x → expression_start t ≡ x
opens t {c} c' w' e = ap (λ d. expression_start_by d t.text) c' ∙ ap (expression_start_by c) w' ∙ e

-- a text that is in no row
abbrev pub InNone : List ℕ → List (List String × ExpressionStart) → Type 0
InNone w [] = Unit {0}
InNone w (row ∷ rows) = (among w row.0 ≡ false) × InNone w rows

passes : (w : List ℕ) (rows : List (List String × ExpressionStart)) (other : ExpressionStart) → InNone w rows → start_among w rows other ≡ other
passes w [] other h = refl
passes w (row ∷ rows) other h = ap (λ b. cond b row.1 (start_among w rows other)) h.0 ∙ passes w rows other h.1

-- no word of the list
none_among : (w : List ℕ) (ss : List String) → is_reserved w ≡ false → Each (λ v. is_reserved v ≡ true) ss → among w ss ≡ false
none_among w ss h all = go (among w ss) refl
  where
    go : (b : Bool) → among w ss ≡ b → among w ss ≡ false
    go false e = e
    go true e = absurd (false≢true (sym h ∙ among_by (λ v. is_reserved v ≡ true) w ss e all))

pub identifier_opens : (w : List ℕ) → is_reserved w ≡ false → expression_start_by IdentifierName w ≡ with_name
unfolding is_reserved
identifier_opens w h =
    passes w start_words (cond (is_reserved w) no_start with_name) (
      none_among w ("true" ∷ "false" ∷ "null" ∷ []) h (refl, (refl, (refl, tt))),
      (
        none_among w ("this" ∷ []) h (refl, tt),
        (
          none_among w ("function" ∷ []) h (refl, tt),
          (
            none_among w ("class" ∷ []) h (refl, tt),
            (
              none_among w ("super" ∷ []) h (refl, tt),
              (
                none_among w ("new" ∷ []) h (refl, tt),
                (
                  none_among w ("import" ∷ []) h (refl, tt),
                  (none_among w ("yield" ∷ []) h (refl, tt), (none_among w ("delete" ∷ "void" ∷ "typeof" ∷ []) h (refl, (refl, (refl, tt))), tt)),
                ),
              ),
            ),
          ),
        ),
      ),
    )
    ∙ ap (λ b. cond b no_start with_name) h

pub async_free : is_reserved (codes "async") ≡ false
unfolding is_reserved
async_free = refl

-- the operator that some languages reserve opens an expression
pub await_opens : expression_start_by TokenClass.Keyword (codes "await") ≡ with_word
unfolding is_keyword
await_opens = refl

new_unreserved : is_keyword (codes "new") ≡ false
unfolding is_keyword
new_unreserved = refl

import_unreserved : is_keyword (codes "import") ≡ false
unfolding is_keyword
import_unreserved = refl

abbrev later_rows : List (List String × ExpressionStart) → List (List String × ExpressionStart)
later_rows [] = []
later_rows (row ∷ rows) = rows

not_or : (b : Bool) → not b ≡ false → b ≡ true
not_or true e = refl
not_or false e = cc

pub literal_opens : (w : List ℕ) → (is_name (literal_class w) && not (among w ("true" ∷ "false" ∷ "null" ∷ []))) ≡ false → expression_start_by (literal_class w) w ≡ with_literal
literal_opens w h = go _ _ _ h
  where
    go : (a b c : Bool) → (is_name (cond a StringLiteral (cond b TokenClass.RegularExpressionLiteral (cond c NumericLiteral IdentifierName))) && not (among w ("true" ∷ "false" ∷ "null" ∷ []))) ≡ false → expression_start_by (cond a StringLiteral (cond b TokenClass.RegularExpressionLiteral (cond c NumericLiteral IdentifierName))) w ≡ with_literal
    go true b c h = refl
    go false true c h = refl
    go false false true h = refl
    go false false false h = ap (λ b. cond b with_literal (start_among w (later_rows start_words) (cond (is_reserved w) no_start with_name))) (not_or _ h)

pub prefix_word_opens : (w : List ℕ) → is_prefix w ≡ true → is_word_operator w ≡ true → expression_start_by IdentifierName w ≡ with_word
prefix_word_opens w h k = among_by (λ v. is_word_operator v ≡ true → expression_start_by IdentifierName v ≡ with_word) w ("delete" ∷ "void" ∷ "typeof" ∷ "+" ∷ "-" ∷ "~" ∷ "!" ∷ []) h
    ((λ e. refl), ((λ e. refl), ((λ e. refl), ((λ e. cc), ((λ e. cc), ((λ e. cc), ((λ e. cc), tt))))))) k

pub prefix_sign_opens : (w : List ℕ) → is_prefix w ≡ true → is_word_operator w ≡ false → (expression_start_by Punctuator w ≡ with_sign) × IsTrue (allows Goal.RegExp Punctuator w)
prefix_sign_opens w h k = among_by (λ v. is_word_operator v ≡ false → (expression_start_by Punctuator v ≡ with_sign) × IsTrue (allows Goal.RegExp Punctuator v)) w ("delete" ∷ "void" ∷ "typeof" ∷ "+" ∷ "-" ∷ "~" ∷ "!" ∷ []) h
    ((λ e. cc), ((λ e. cc), ((λ e. cc), ((λ e. (refl, refl)), ((λ e. (refl, refl)), ((λ e. (refl, refl)), ((λ e. (refl, refl)), tt))))))) k

pub step_opens : (w : List ℕ) → operator_of w ≡ op_update → (expression_start_by Punctuator w ≡ with_step) × IsTrue (allows Goal.RegExp Punctuator w)
step_opens w h = among_by (λ v. (expression_start_by Punctuator v ≡ with_step) × IsTrue (allows Goal.RegExp Punctuator v)) w ("++" ∷ "--" ∷ []) (step_texts w h) ((refl, refl), ((refl, refl), tt))

pub either_class : (x y : Bool) → IsTrue (if x then beq true true else if y then beq false false else true)
either_class true y = refl
either_class false true = refl
either_class false false = refl

module _ (S : Type 0) (Next : S → Token → S → Type 0) (behind : S → Token) (det : IsDetermined S Next behind) where
  -- the token with which something begins at a place, by the goal for operands
  pub record Opens (x : ExpressionStart) (s : S) : Type 0 where
    pub token : Token
    pub mid : S
    pub read : ReadBy S Next behind Goal.RegExp s token mid
    pub opens : expression_start token ≡ x

  -- the pieces begin with a name, a number or a string; or with a sign
  by_free : {o : ℕ} {ps : Parts} {s e : S} {P : List Pair} {c : TokenClass} {w : List ℕ} {x : ExpressionStart} (qs : List (PieceOf Role)) → first_of qs ≡ by c w → is_free c ≡ true → expression_start_by c w ≡ x →
      Runs ways S Next behind o qs ps s e P → Opens x s
  by_free qs h al e d = let u = begun S Next behind qs h d in
      record { token = u.token; mid = u.mid; read = record { next = u.next; allowed = det.free Goal.RegExp _ u.token u.mid u.next (ap is_free u.class ∙ al) }; opens = opens u.token u.class u.text e }

  by_sign : {o : ℕ} {ps : Parts} {s e : S} {P : List Pair} {c : TokenClass} {w : List ℕ} {x : ExpressionStart} (qs : List (PieceOf Role)) → first_of qs ≡ by c w → IsTrue (allows Goal.RegExp c w) → expression_start_by c w ≡ x →
      Runs ways S Next behind o qs ps s e P → Opens x s
  by_sign {c = c} qs h al e d = let u = begun S Next behind qs h d in
      let al' : IsTrue (allows Goal.RegExp u.token.class u.token.text) = subst (λ x. IsTrue (allows Goal.RegExp x u.token.text)) (sym u.class) (subst (λ x. IsTrue (allows Goal.RegExp c x)) (sym u.text) al) in
      record { token = u.token; mid = u.mid; read = record { next = u.next; allowed = al' }; opens = opens u.token u.class u.text e }

  by_literal : {o : ℕ} {ps : Parts} {s e : S} {P : List Pair} (w : List ℕ) → (is_name (literal_class w) && not (among w ("true" ∷ "false" ∷ "null" ∷ []))) ≡ false →
      Runs ways S Next behind o (tok (literal_class w) w ∷ []) ps s e P → Opens with_literal s
  by_literal {o} {ps} {s} {e} {P} w h d = go _ _ _ (literal_opens w h) d
    where
      go : (a b c : Bool) → expression_start_by (cond a StringLiteral (cond b TokenClass.RegularExpressionLiteral (cond c NumericLiteral IdentifierName))) w ≡ with_literal →
          Runs ways S Next behind o (tok (cond a StringLiteral (cond b TokenClass.RegularExpressionLiteral (cond c NumericLiteral IdentifierName))) w ∷ []) ps s e P → Opens with_literal s
      go true b c h d = by_free (tok StringLiteral w ∷ []) refl refl refl d
      go false true c h d = by_sign (tok TokenClass.RegularExpressionLiteral w ∷ []) refl (either_class (begins_with (one_of "/") w) (begins_with (one_of "}") w)) refl d
      go false false true h d = by_free (tok NumericLiteral w ∷ []) refl refl refl d
      go false false false h d = by_free (tok IdentifierName w ∷ []) refl refl h d

  -- a part that stands at a position of one spelling
  at_first : {A : Type 0} {o : ℕ} {a : Role} {qs : List (PieceOf Role)} {ps : Parts} {s e : S} {P : List Pair} →
      ((n : Tree) (e' : S) (Q : List Pair) (qs' : Parts) → ps ≡ part n qs' → Spells ways S Next behind o a n s e' Q → A) → Runs ways S Next behind o (sub a ∷ qs) ps s e P → A
  at_first f (within p d) = f _ _ _ _ refl p
  at_first f (step p d) = elim p [ ]

  name_opens : {o : ℕ} {n : Tree} {s e : S} {P : List Pair} → Spells ways S Next behind o name n s e P → Opens with_name s
  unfolding spellings
  name_opens {n = node Identifier w g a b ps} (direct qs h pl d) = let v = way_of h in
      unless (is_reserved w) v.listed (λ c k. by_free qs (ap first_of (v.is ∙ ap (settled name) (one k))) refl (identifier_opens w c) d)
  name_opens {n = node _ w g a b ps} (direct qs h pl d) = elim ((way_of h).listed) [ ]

  base_opens : {o : ℕ} {n : Tree} {s e : S} {P : List Pair} → Spells ways S Next behind o base n s e P → Opens with_super s
  unfolding spellings
  base_opens {n = node Super w g a b ps} (direct qs h pl d) = let v = way_of h in by_free qs (ap first_of (v.is ∙ ap (settled base) (one v.listed))) refl refl d
  base_opens {n = node _ w g a b ps} (direct qs h pl d) = elim ((way_of h).listed) [ ]

  -- a word that the table names
  word_opens : {o : ℕ} {v : List ℕ} {x : ExpressionStart} {n : Tree} {s e : S} {P : List Pair} → text_of n ≡ v → is_keyword v ≡ false → expression_start_by IdentifierName v ≡ x → Spells ways S Next behind o word n s e P → Opens x s
  unfolding spellings
  word_opens k free op (reserved_word r h p) = absurd (false≢true (sym free ∙ ap is_keyword (sym k ∙ ap text_of p) ∙ h))
  word_opens {n = node Identifier w g a b ps} k free op (direct qs h pl d) = let v = way_of h in by_free qs (ap first_of (v.is ∙ ap (settled word) (one v.listed))) refl (ap (expression_start_by IdentifierName) k ∙ op) d
  word_opens {n = node _ w g a b ps} k free op (direct qs h pl d) = elim ((way_of h).listed) [ ]

  private_opens : {o : ℕ} {n : Tree} {s e : S} {P : List Pair} → Spells ways S Next behind o private_name n s e P → Opens with_private_name s
  unfolding spellings
  private_opens {n = node PrivateIdentifier w g a b ps} (direct qs h pl d) = let v = way_of h in by_free qs (ap first_of (v.is ∙ ap (settled private_name) (one v.listed))) refl refl d
  private_opens {n = node _ w g a b ps} (direct qs h pl d) = elim ((way_of h).listed) [ ]

  chunk_opens : {o : ℕ} {y : Bool} {n : Tree} {s e : S} {P : List Pair} → Spells ways S Next behind o (template_element true y) n s e P → Opens with_template s
  unfolding spellings
  chunk_opens {y = y} {n = node TemplateElement w g a b ps} (direct qs h pl d) =
      let v = way_of h in by_sign qs (ap first_of v.is ∙ ap (λ x. first_of (settled (template_element true y) x)) (one v.listed)) refl refl d
  chunk_opens {n = node _ w g a b ps} (direct qs h pl d) = elim ((way_of h).listed) [ ]

  chunks_open : {o : ℕ} {s e : S} {P : List Pair} (y : Rank) (i : Bool) (f : Start) (ps qs : Parts) → Runs ways S Next behind o (goes_to y i f (template_elements true qs)) ps s e P → Opens with_template s
  chunks_open y i f ps none (step p d) = elim p [ ]
  chunks_open y i f ps (gap qs) (step p d) = elim p [ ]
  chunks_open y i f ps (part q none) (step p d) = elim p [ ]
  chunks_open y i f ps (part q none) (within p d) = chunk_opens p
  chunks_open y i f ps (part q (gap qs)) (step p d) = elim p [ ]
  chunks_open y i f ps (part q (part x qs)) (step p d) = elim p [ ]
  chunks_open y i f ps (part q (part x qs)) (within p d) = chunk_opens p

  pattern_opens : {o : ℕ} {c : Bool} {f : Start} {n : Tree} {s e : S} {P : List Pair} → Spells ways S Next behind o (pattern c f) n s e P →
      (kind_of n ≡ ArrayPattern → Opens with_bracket s) × (kind_of n ≡ ObjectPattern → Opens with_brace s)
  unfolding spellings
  pattern_opens {c = c} {f = f} {n = node ArrayPattern w g a b ps} (direct qs h pl d) = let v = way_of h in
      ((λ k. by_sign qs (ap first_of v.is ∙ ap (λ x. first_of (settled (pattern c f) x)) (one v.listed)) refl refl d), (λ k. cc))
  pattern_opens {c = c} {f = f} {n = node ObjectPattern w g a b ps} (direct qs h pl d) = let v = way_of h in
      ((λ k. cc), (λ k. by_sign qs (ap first_of v.is ∙ ap (λ x. first_of (settled (pattern c f) x)) (one v.listed)) refl refl d))
  pattern_opens {n = node _ w g a b ps} (direct qs h pl d) = elim ((way_of h).listed) [ ]

  kind_bare : (n : Tree) (ps : Parts) {k : Kind} → lead_kind (bare_parts (part n ps)) ≡ k → kind_of n ≡ k
  kind_bare (node k w g s e qs) ps h = h

  text_bare : (n : Tree) (v : String) (ps : Parts) → lead_is (bare_parts (part n ps)) v ≡ true → text_of n ≡ codes v
  text_bare (node k w g s e qs) v ps h = (bytes_eq-Decides w (codes v)).0 h

  opened_opens : {o : ℕ} {qs : List (PieceOf Role)} {ps : Parts} {s e : S} {P : List Pair} → Runs ways S Next behind o (open_parameters ∷ qs) ps s e P → Opens with_parenthesis s
  opened_opens (opened {t = u} {m = m} k d) =
      let al : IsTrue (allows Goal.RegExp u.class u.text) = subst (λ c. IsTrue (allows Goal.RegExp c u.text)) (sym k.class) (subst (λ z. IsTrue (allows Goal.RegExp Punctuator z)) (sym k.text) refl) in
      record { token = u; mid = m; read = record { next = k.next; allowed = al }; opens = opens u k.class k.text refl }
  opened_opens (step p d) = elim p [ ]

  -- the first token of a way is what the view says
  pub headed_read : {y : Rank} {i : Bool} {f : Start} {k : Kind} {w : List ℕ} {g : Flags} {ps : Parts} {qs : List (PieceOf Role)} {x : ExpressionStart} {o : ℕ} {s e : S} {P : List Pair} →
      Headed y i f k w g (bare_parts ps) qs x → Runs ways S Next behind o qs ps s e P → Opens x s
  headed_read {w = w} {qs = qs} (head_identifier k c q) d = by_free qs (ap first_of q) refl (identifier_opens w c) d
  headed_read {w = w} (head_literal k c q) d = by_literal w c (retell S Next behind q d)
  headed_read {qs = qs} (head_this k q) d = by_free qs (ap first_of q) refl refl d
  headed_read {qs = qs} (head_array k q) d = by_sign qs (ap first_of q) refl refl d
  headed_read {qs = qs} (head_object k b q) d = by_sign qs (ap first_of q) refl refl d
  headed_read {qs = qs} (head_function k z b q) d = by_free qs (ap first_of q) refl refl d
  headed_read {qs = qs} (head_class k b q) d = by_free qs (ap first_of q) refl refl d
  headed_read {y} {i} {f} {ps = ps} (head_template k q) d = chunks_open y i f ps (bare_parts ps) (retell S Next behind q d)
  headed_read (head_short_arrow k z p n tk q) d = at_first (λ n e' Q qs' e u. name_opens u) (retell S Next behind q d)
  headed_read {qs = qs} (head_async u st q) d = by_free qs (ap first_of q) refl (identifier_opens (codes "async") async_free) d
  headed_read (head_arrow k z tk q) d = opened_opens (retell S Next behind q d)
  headed_read (head_super_member k o s tk q) d = at_first (λ n e' Q qs' e u. base_opens u) (retell S Next behind q d)
  headed_read (head_super_call k o s tk q) d = at_first (λ n e' Q qs' e u. base_opens u) (retell S Next behind q d)
  headed_read {qs = qs} (head_new_with k tk q) d = by_free qs (ap first_of q) refl refl d
  headed_read {qs = qs} (head_new_without k n tk q) d = by_free qs (ap first_of q) refl refl d
  headed_read {ps = ps} (head_new_target k c tk q) d = at_first (λ n e' Q qs' e u. word_opens (text_bare n "new" qs' (ap (λ z. lead_is (bare_parts z) "new") (sym e) ∙ (and_parts _ _ c).0)) new_unreserved refl u) (retell S Next behind q d)
  headed_read {ps = ps} (head_import_meta k c tk q) d = at_first (λ n e' Q qs' e u. word_opens (text_bare n "import" qs' (ap (λ z. lead_is (bare_parts z) "import") (sym e) ∙ (and_parts _ _ c).0)) import_unreserved refl u) (retell S Next behind q d)
  headed_read {qs = qs} (head_import k tk q) d = by_free qs (ap first_of q) refl refl d
  headed_read {qs = qs} (head_yield k tk q) d = by_free qs (ap first_of q) refl refl d
  headed_read {w = w} {qs = qs} (head_step k o t p tk q) d = let u = step_opens w o in by_sign qs (ap first_of q) u.1 u.0 d
  headed_read {qs = qs} (head_await k tk q) d = by_free qs (ap first_of q) refl await_opens d
  headed_read (head_private k p t tk b q) d = at_first (λ n e' Q qs' e u. private_opens u) (retell S Next behind q d)
  headed_read {w = w} {qs = qs} (head_word k h v tk q) d = by_free qs (ap first_of q) refl (prefix_word_opens w h v) d
  headed_read {w = w} {qs = qs} (head_sign k h v tk q) d = let u = prefix_sign_opens w h v in by_sign qs (ap first_of q) u.1 u.0 d
  headed_read (head_array_pattern k o e l tk q) d = at_first (λ n e' Q qs' z u. (pattern_opens u).0 (kind_bare n qs' (ap (λ v. lead_kind (bare_parts v)) (sym z) ∙ l))) (retell S Next behind q d)
  headed_read (head_object_pattern k o e l tk q) d = at_first (λ n e' Q qs' z u. (pattern_opens u).1 (kind_bare n qs' (ap (λ v. lead_kind (bare_parts v)) (sym z) ∙ l))) (retell S Next behind q d)

  -- so the token that the goal for operands reads is that one
  pub opens_with : {x : ExpressionStart} {s m : S} {t : Token} → Opens x s → ReadBy S Next behind Goal.RegExp s t m → expression_start t ≡ x
  opens_with {s = s} {m = m} {t = t} u r = ap expression_start (det.same Goal.RegExp s t u.token m u.mid r.next u.read.next r.allowed u.read.allowed).0 ∙ u.opens
