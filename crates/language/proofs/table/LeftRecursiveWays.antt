-- The view of the left-recursive ways: what stands at their head, what follows it, and which operator that begins with.
use Rattle.std.proofs.Common.{◌≡◌, ℕ, Bool, true, false, cond, List, [], ◌∷◌, ◌++◌, refl, sym, ap, ◌∙◌, subst}
use Rattle.std.specs.Prelude.{IsTrue, codes}
use Rattle.std.proofs.lemmas.Bool.{and_parts, false≢true}
use Rattle.tokens.specs.declared.token.TokenClass.TheVariants.{IdentifierName, Punctuator}
use Rattle.tree.specs.declared.kind.Kind.{Kind}
use Rattle.tree.specs.declared.kind.Kind.TheVariants.{TaggedTemplateExpression, MemberExpression, CallExpression, ChainExpression, UpdateExpression, BinaryExpression, LogicalExpression, ConditionalExpression, AssignmentExpression, SequenceExpression}
use Rattle.language.specs.declared.Rank.{Rank}
use Rattle.language.specs.declared.Rank.TheVariants.{Expression, Assignment, Conditional, ShortCircuit, Exponentiation, Update, LeftHandSide, Call, Member}
use Rattle.language.specs.declared.Start.{Start}
use Rattle.language.specs.declared.Start.TheVariants.{Any}
use Rattle.tree.specs.declared.kind.Flags.{Flags}
use Rattle.tree.specs.declared.kind.Form.{Form}
use Rattle.tree.specs.declared.kind.Form.TheVariants.{Init, Generator, Async, AsyncGenerator}
use Rattle.tree.specs.Tree.{Parts}
use Rattle.language.specs.FirstPart.{lead as lead_kind, others}
use Rattle.language.specs.Vocabulary.{is, takes, is_target, is_super, is_private, is_word_operator, Operator, op_binary, op_power, op_assign, op_update, op_comma, op_question, op_dot, op_call, op_index, op_optional, op_template, op_none, operator_of}
use Rattle.language.specs.Pieces.{Role, expr, chain_part, tagged_quasi, word, private_name, PieceOf, Piece, tok, lay, sub, unbroken, space, is_tight, Spelling, is_none, sign}
use Rattle.language.specs.Expressions.{arguments, property_name, after_number, in_brackets, first_has_optional, chain_parts, chain_element, member_link, call_link, sequence}
use Rattle.tree.specs.Uses.{implies}
use Rattle.language.specs.Derivation.{Among}
use Rattle.language.specs.Chosen as chosen
use Rattle.language.specs.Chosen.{Chosen}
use Rattle.language.specs.Forms as made
use Rattle.language.specs.Forms.{Production, form, spelling_of}
use Rattle.language.proofs.table.NodeForms.{Made, steps_target, assigns}
use Rattle.language.proofs.lower_bound.Domination.{settled, fits}
use Rattle.language.proofs.table.ViewIsComplete.{one, cases}
use Rattle.language.proofs.climbing.Spine.{is_led}
use Rattle.language.proofs.table.Begins.{chunks_unled, goes_to, AllLaid, no_piece, one_laid, number_laid}

-- an operator, with a space on either side
abbrev pub between : List ℕ → Role → List (PieceOf Role)
between w a = lay space ∷ tok (cond (is_word_operator w) IdentifierName Punctuator) w ∷ lay space ∷ sub a ∷ []

-- where the object of a member, a callee or a tag stands
abbrev pub callee_rank : Rank → Rank
callee_rank y = cond (is_tight y) Member Call

abbrev pub bracketed : List (PieceOf Role)
bracketed = tok Punctuator (codes "[") ∷ sub (expr Expression true Any) ∷ tok Punctuator (codes "]") ∷ []

-- where a property stands behind a dot: a private name, or any name
abbrev pub property_role : Kind → Role
property_role kind = cond (is_private kind) private_name word

abbrev pub dotted : Kind → List (PieceOf Role)
dotted kind = tok Punctuator (codes ".") ∷ sub (property_role kind) ∷ []

-- The ways of a node that are led by an expression or by a part of a chain, at the position `expr y i f`: the head stands at b,
-- the rest follows it; the last index is what the rest begins with.
pub data Led (y : Rank) (i : Bool) (f : Start) (k : Kind) (w : List ℕ) (g : Flags) (ps : Parts) (b : Role) (rest : List (PieceOf Role)) : Operator → Type 0 where
  led_binary : {l : Bool} {z q : Rank} → k ≡ cond l LogicalExpression BinaryExpression → operator_of w ≡ op_binary l z q → IsTrue (takes y z) → IsTrue (implies (is w "in") i) →
      b ≡ expr z i f → rest ≡ between w (expr q i Any) → Led y i f k w g ps b rest (op_binary l z q)
  led_power : k ≡ BinaryExpression → operator_of w ≡ op_power → IsTrue (takes y Exponentiation) → b ≡ expr Update true f → rest ≡ between w (expr Exponentiation true Any) →
      Led y i f k w g ps b rest op_power
  led_assign : k ≡ AssignmentExpression → operator_of w ≡ op_assign → is_target (lead_kind ps) ≡ true → IsTrue (takes y Assignment) → b ≡ expr LeftHandSide true f →
      rest ≡ between w (expr Assignment i Any) → Led y i f k w g ps b rest op_assign
  led_postfix : k ≡ UpdateExpression → operator_of w ≡ op_update → is_target (lead_kind ps) ≡ true → g.prefix ≡ false → IsTrue (takes y Update) → b ≡ expr LeftHandSide true f →
      rest ≡ unbroken ∷ tok Punctuator w ∷ [] → Led y i f k w g ps b rest op_update
  led_sequence : k ≡ SequenceExpression → is_none (others ps) ≡ false → IsTrue (takes y Expression) → b ≡ expr Assignment i f → rest ≡ goes_to y i f (sequence (others ps)) →
      Led y i f k w g ps b rest op_comma
  led_conditional : k ≡ ConditionalExpression → IsTrue (takes y Conditional) → b ≡ expr ShortCircuit i f →
      rest ≡ lay space ∷ tok Punctuator (codes "?") ∷ lay space ∷ sub (expr Assignment true Any) ∷ lay space ∷ tok Punctuator (codes ":") ∷ lay space ∷ sub (expr Assignment i Any) ∷ [] →
      Led y i f k w g ps b rest op_question
  led_dot : k ≡ MemberExpression → g.optional ≡ false → g.computed ≡ false → is_super (lead_kind ps) ≡ false → IsTrue (takes y Member) → b ≡ expr (callee_rank y) true f →
      rest ≡ goes_to y i f (after_number ps g) ++ dotted (lead_kind (others ps)) → Led y i f k w g ps b rest op_dot
  led_index : k ≡ MemberExpression → g.optional ≡ false → g.computed ≡ true → is_super (lead_kind ps) ≡ false → IsTrue (takes y Member) → b ≡ expr (callee_rank y) true f →
      rest ≡ goes_to y i f (after_number ps g) ++ bracketed → Led y i f k w g ps b rest op_index
  led_call : k ≡ CallExpression → g.optional ≡ false → is_super (lead_kind ps) ≡ false → IsTrue (takes y Call) → b ≡ expr Call true f → rest ≡ goes_to y i f (arguments (others ps)) →
      Led y i f k w g ps b rest op_call
  led_tag : k ≡ TaggedTemplateExpression → IsTrue (takes y Member) → b ≡ expr (callee_rank y) true f → rest ≡ sub tagged_quasi ∷ [] → Led y i f k w g ps b rest op_template
  -- a chain ends, with no token
  led_chain : k ≡ ChainExpression → first_has_optional ps ≡ true → IsTrue (takes y LeftHandSide) → b ≡ chain_part f → rest ≡ [] → Led y i f k w g ps b rest op_none

-- a way that is led, with what its rest begins with
pub record LedWay (y : Rank) (i : Bool) (f : Start) (k : Kind) (w : List ℕ) (g : Flags) (ps : Parts) (b : Role) (rest : List (PieceOf Role)) : Type 0 where
  pub operator : Operator
  pub led : Led y i f k w g ps b rest operator

pub tail_is : {a b : Role} {qs rs : List (PieceOf Role)} → ◌≡◌ {A = List (PieceOf Role)} (sub a ∷ qs) (sub b ∷ rs) → qs ≡ rs
tail_is e = cc

pub head_is : {a b : Role} {qs rs : List (PieceOf Role)} → ◌≡◌ {A = List (PieceOf Role)} (sub a ∷ qs) (sub b ∷ rs) → a ≡ b
head_is e = cc

not_led : {A : Type 0} {qs : List (PieceOf Role)} {rs : List (PieceOf Role)} → qs ≡ rs → is_led rs ≡ false → is_led qs ≡ true → A
not_led e h k = absurd (false≢true (sym h ∙ sym (ap is_led e) ∙ k))

laid_apart : (y : Rank) (i : Bool) (f : Start) {qs : List Piece} → AllLaid qs → (rs : List Piece) → goes_to y i f (qs ++ rs) ≡ goes_to y i f qs ++ goes_to y i f rs
laid_apart y i f no_piece rs = refl
laid_apart y i f one_laid rs = refl

module _ (y : Rank) (i : Bool) (f : Start) where
  by_selector : {w : List ℕ} {g : Flags} {ps : Parts} {b : Role} {rest : List (PieceOf Role)} (c : Bool) → g.computed ≡ c → g.optional ≡ false → is_super (lead_kind ps) ≡ false → IsTrue (takes y Member) → b ≡ expr (callee_rank y) true f →
      rest ≡ goes_to y i f (after_number ps g ++ cond c in_brackets (sign "." ∷ property_name (lead_kind (others ps)) ∷ [])) → LedWay y i f MemberExpression w g ps b rest
  by_selector {g = g} {ps = ps} true c o s t h e = record { operator = op_index; led = led_index refl o c s t h (e ∙ laid_apart y i f (number_laid ps g) in_brackets) }
  by_selector {g = g} {ps = ps} false c o s t h e = record { operator = op_dot; led = led_dot refl o c s t h (e ∙ laid_apart y i f (number_laid ps g) (sign "." ∷ property_name (lead_kind (others ps)) ∷ [])) }

  -- functions and arrows begin with their words
  function_unled : {A : Type 0} (w : List ℕ) (g : Flags) (ps : Parts) {qs : List (PieceOf Role)} (x : Form) → qs ≡ settled (expr y i f) (spelling_of (form (made.function x)) w g ps) → is_led qs ≡ true → A
  function_unled w g ps Init eq led = not_led eq refl led
  function_unled w g ps Generator eq led = not_led eq refl led
  function_unled w g ps Async eq led = not_led eq refl led
  function_unled w g ps AsyncGenerator eq led = not_led eq refl led
  function_unled w g ps _ eq led = not_led eq refl led

  arrow_unled : {A : Type 0} (w : List ℕ) (g : Flags) (ps : Parts) {qs : List (PieceOf Role)} (x : Form) → qs ≡ settled (expr y i f) (spelling_of (form (made.arrow x)) w g ps) → is_led qs ≡ true → A
  arrow_unled w g ps Init eq led = not_led eq refl led
  arrow_unled w g ps Async eq led = not_led eq refl led
  arrow_unled w g ps _ eq led = not_led eq refl led

  short_unled : {A : Type 0} (w : List ℕ) (g : Flags) (ps : Parts) {qs : List (PieceOf Role)} (x : Form) → qs ≡ settled (expr y i f) (spelling_of (form (made.short_arrow x)) w g ps) → is_led qs ≡ true → A
  short_unled w g ps Init eq led = not_led eq refl led
  short_unled w g ps Async eq led = not_led eq refl led
  short_unled w g ps _ eq led = not_led eq refl led

  form_led : {k : Kind} {w : List ℕ} {g : Flags} {ps : Parts} {b : Role} {rest : List (PieceOf Role)} {p : Production} → Chosen w g ps (expr Expression true Any) k p → IsTrue (fits (expr y i f) (spelling_of (form p) w g ps)) → sub b ∷ rest ≡ settled (expr y i f) (spelling_of (form p) w g ps) → is_led (sub b ∷ rest) ≡ true → LedWay y i f k w g ps b rest
  form_led (chosen.binary p h) fit eq led = record { operator = _; led = led_binary refl h (and_parts _ _ (and_parts _ _ fit).0).0 (and_parts _ _ (and_parts _ _ (and_parts _ _ fit).0).1).0 (head_is eq) (tail_is eq) }
  form_led (chosen.logical h) fit eq led = record { operator = _; led = led_binary refl h (and_parts _ _ (and_parts _ _ fit).0).0 (and_parts _ _ (and_parts _ _ (and_parts _ _ fit).0).1).0 (head_is eq) (tail_is eq) }
  form_led (chosen.power p h) fit eq led = record { operator = _; led = led_power refl h (and_parts _ _ (and_parts _ _ fit).0).0 (head_is eq) (tail_is eq) }
  form_led {w = w} (chosen.assign h t) fit eq led = record { operator = _; led = led_assign refl (assigns w h) t (and_parts _ _ (and_parts _ _ fit).0).0 (head_is eq) (tail_is eq) }
  form_led {w = w} {ps = ps} (chosen.postfix h p) fit eq led = let u = steps_target w (lead_kind ps) h in record { operator = _; led = led_postfix refl u.0 u.1 p (and_parts _ _ (and_parts _ _ fit).0).0 (head_is eq) (tail_is eq) }
  form_led (chosen.several h) fit eq led = record { operator = _; led = led_sequence refl h (and_parts _ _ (and_parts _ _ fit).0).0 (head_is eq) (tail_is eq) }
  form_led chosen.conditional fit eq led = record { operator = _; led = led_conditional refl (and_parts _ _ (and_parts _ _ fit).0).0 (head_is eq) (tail_is eq) }
  form_led {g = g} (chosen.member_access o s) fit eq led = by_selector g.computed refl o s (and_parts _ _ (and_parts _ _ fit).0).0 (head_is eq) (tail_is eq)
  form_led (chosen.call o s) fit eq led = record { operator = _; led = led_call refl o s (and_parts _ _ (and_parts _ _ fit).0).0 (head_is eq) (tail_is eq) }
  form_led chosen.tagged fit eq led = record { operator = _; led = led_tag refl (and_parts _ _ (and_parts _ _ fit).0).0 (head_is eq) (tail_is eq) }
  form_led (chosen.chain c) fit eq led = record { operator = _; led = led_chain refl c (and_parts _ _ (and_parts _ _ fit).0).0 (head_is eq) (tail_is eq) }
  form_led {ps = ps} chosen.template fit eq led = not_led eq (chunks_unled y i f true ps) led
  form_led {w = w} {g = g} {ps = ps} (chosen.short_arrow e h) fit eq led = short_unled w g ps g.form eq led
  form_led (chosen.super_member o s) fit eq led = not_led eq refl led
  form_led (chosen.super_call o s) fit eq led = not_led eq refl led
  form_led (chosen.new_target h) fit eq led = not_led eq refl led
  form_led (chosen.import_meta h) fit eq led = not_led eq refl led
  form_led (chosen.private_left p h) fit eq led = not_led eq refl led
  form_led {w = w} {g = g} {ps = ps} chosen.function fit eq led = function_unled w g ps g.form eq led
  form_led {w = w} {g = g} {ps = ps} chosen.arrow fit eq led = arrow_unled w g ps g.form eq led
  form_led (chosen.assign_pattern h p q) fit eq led = not_led eq refl led
  form_led (chosen.of_statement s c) fit eq led = elim s [ ]
  form_led (chosen.of_declaration s c) fit eq led = elim s [ ]
  form_led _ fit eq led = cc

  -- each way that is led is one of the view
  pub led_of : {k : Kind} {w : List ℕ} {g : Flags} {ps : Parts} {b : Role} {rest : List (PieceOf Role)} {x : Spelling} → Made k w g ps x → IsTrue (fits (expr y i f) x) → sub b ∷ rest ≡ settled (expr y i f) x → is_led (sub b ∷ rest) ≡ true → LedWay y i f k w g ps b rest
  led_of m fit eq led = form_led m.chosen (subst (λ x. IsTrue (fits (expr y i f) x)) m.is fit) (eq ∙ ap (settled (expr y i f)) m.is) led

-- The ways of a part of a chain, above its base: the base has `?.` behind it.
pub data Below (f : Start) (o : Bool) (ps : Parts) (b : Role) : Type 0 where
  on_part : first_has_optional ps ≡ true → b ≡ chain_part f → Below f o ps b
  on_base : first_has_optional ps ≡ false → o ≡ true → b ≡ expr Call true f → Below f o ps b

pub data Linked (f : Start) (k : Kind) (g : Flags) (ps : Parts) (b : Role) (rest : List (PieceOf Role)) : Operator → Type 0 where
  link_dot : k ≡ MemberExpression → g.optional ≡ false → g.computed ≡ false → first_has_optional ps ≡ true → b ≡ chain_part f → rest ≡ dotted (lead_kind (others ps)) → Linked f k g ps b rest op_dot
  link_index : k ≡ MemberExpression → g.optional ≡ false → g.computed ≡ true → first_has_optional ps ≡ true → b ≡ chain_part f → rest ≡ bracketed → Linked f k g ps b rest op_index
  link_call : k ≡ CallExpression → g.optional ≡ false → first_has_optional ps ≡ true → b ≡ chain_part f → rest ≡ goes_to Expression true f (arguments (others ps)) → Linked f k g ps b rest op_call
  link_chained_name : k ≡ MemberExpression → g.optional ≡ true → g.computed ≡ false → Below f true ps b → rest ≡ tok Punctuator (codes "?.") ∷ sub (property_role (lead_kind (others ps))) ∷ [] → Linked f k g ps b rest op_optional
  link_chained_index : k ≡ MemberExpression → g.optional ≡ true → g.computed ≡ true → Below f true ps b → rest ≡ tok Punctuator (codes "?.") ∷ bracketed → Linked f k g ps b rest op_optional
  link_chained_call : k ≡ CallExpression → g.optional ≡ true → Below f true ps b → rest ≡ tok Punctuator (codes "?.") ∷ goes_to Expression true f (arguments (others ps)) → Linked f k g ps b rest op_optional

pub record LinkedWay (f : Start) (k : Kind) (g : Flags) (ps : Parts) (b : Role) (rest : List (PieceOf Role)) : Type 0 where
  pub operator : Operator
  pub linked : Linked f k g ps b rest operator

module _ (f : Start) where
  -- what stands below a part of a chain
  below : {ps : Parts} {b : Role} {rest : List (PieceOf Role)} {x : Spelling} (o : Bool) (qs : List Piece) → Among x (chain_element o ps qs) → sub b ∷ rest ≡ settled (chain_part f) x → Below f o ps b × (rest ≡ goes_to Expression true f qs)
  below {ps = ps} o qs h eq = cases (first_has_optional ps) h (λ c k. let u = eq ∙ ap (settled (chain_part f)) (one k) in (on_part c (head_is u), tail_is u)) (λ c k. cases o k (λ d j. let u = eq ∙ ap (settled (chain_part f)) (one j) in (on_base c d (head_is u), tail_is u)) (λ d j. elim j [ ]))

  member_linked : {g : Flags} {ps : Parts} {b : Role} {rest : List (PieceOf Role)} (o c : Bool) → g.optional ≡ o → g.computed ≡ c → Below f o ps b →
      rest ≡ goes_to Expression true f (cond o (sign "?." ∷ cond c in_brackets (property_name (lead_kind (others ps)) ∷ [])) (cond c in_brackets (sign "." ∷ property_name (lead_kind (others ps)) ∷ []))) → LinkedWay f MemberExpression g ps b rest
  member_linked true true o c h e = record { operator = op_optional; linked = link_chained_index refl o c h e }
  member_linked true false o c h e = record { operator = op_optional; linked = link_chained_name refl o c h e }
  member_linked false true o c (on_part t h) e = record { operator = op_index; linked = link_index refl o c t h e }
  member_linked false false o c (on_part t h) e = record { operator = op_dot; linked = link_dot refl o c t h e }
  member_linked false c o d (on_base t u h) e = cc

  call_linked : {g : Flags} {ps : Parts} {b : Role} {rest : List (PieceOf Role)} (o : Bool) → g.optional ≡ o → Below f o ps b → rest ≡ goes_to Expression true f (cond o (sign "?." ∷ []) [] ++ arguments (others ps)) → LinkedWay f CallExpression g ps b rest
  call_linked true o h e = record { operator = op_optional; linked = link_chained_call refl o h e }
  call_linked false o (on_part t h) e = record { operator = op_call; linked = link_call refl o t h e }
  call_linked false o (on_base t u h) e = cc

  -- each way of a part of a chain that is led is one of these
  pub linked_of : {x : Spelling} (k : Kind) {g : Flags} {ps : Parts} {b : Role} {rest : List (PieceOf Role)} → Among x (chain_parts k g ps) → sub b ∷ rest ≡ settled (chain_part f) x → LinkedWay f k g ps b rest
  linked_of MemberExpression {g = g} {ps = ps} h eq = let u = below g.optional (member_link g (lead_kind (others ps))) h eq in member_linked g.optional g.computed refl refl u.0 u.1
  linked_of CallExpression {g = g} {ps = ps} h eq = let u = below g.optional (call_link g ps) h eq in call_linked g.optional refl u.0 u.1
  linked_of _ h eq = elim h [ ]
