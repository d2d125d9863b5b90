-- The outlines of expressions are those of the table.
use Rattle.std.proofs.Common.{◌≡◌, ℕ, Bool, true, false, cond, List, [], ◌∷◌, ◌++◌, refl, sym, ap, ap₂, ◌∙◌}
use Rattle.std.specs.Prelude.{Some, None, ◌&&◌, ◌||◌, not, codes}
use Rattle.tree.specs.declared.kind.Kind.{Kind}
use Rattle.tree.specs.declared.kind.Kind.TheVariants as kind
use Rattle.tree.specs.declared.kind.Flags.{Flags}
use Rattle.tree.specs.declared.kind.Form.{Form}
use Rattle.tree.specs.declared.kind.Form.TheVariants as form
use Rattle.tree.specs.Tree.{Tree, node, Parts, none, part, gap, kind_of, text_of}
use Rattle.tokens.specs.declared.token.TokenClass.TheVariants as class
use Rattle.language.specs.declared.Rank.{Rank}
use Rattle.language.specs.declared.Rank.TheVariants.{Expression, Assignment, Conditional, ShortCircuit, Exponentiation, Unary, Update, Shift, LeftHandSide, Call, Member, Primary}
use Rattle.language.specs.declared.Start.{Start}
use Rattle.language.specs.declared.Start.TheVariants.{Any, NoBrace, Statement}
use Rattle.language.specs.FirstPart.{lead as lead_kind, others}
use Rattle.language.specs.Vocabulary.{is, among, Operator, op_binary, op_power, operator_of, is_assignment, is_update_operator, is_prefix, is_reserved, literal_class, is_name, is_target, is_pattern, is_super, is_private, is_word_operator, is_open_number}
use Rattle.language.specs.Pieces as piece
use Rattle.language.specs.Pieces.{Role, Piece, Slot, Spelling, at, at_in, only, put, sub, tok, lay, fixed, left, lead, tail, callee, lead_chain, lead_pattern, sign, term, sp, nothing, is_none, listed, elements, argument, parameters, never, absent, unbroken, no_operand, open_parameters, close_parameters}
use Rattle.language.specs.Expressions.{yields, private_in, arrow_words, arrow_opening, arrow_closing, expressions, arguments, selector, after_number, in_brackets, template_elements, object_part, function_pieces, class_pieces, arrow_end, op_arrow, infix_pieces, joined, sequence, lead_is, first_has_optional, binary_ways, logical_ways}
use Rattle.language.specs.Grammar.{starts}
use Rattle.language.proofs.table.LooserPositions.{same}
use Rattle.language.proofs.table.TidyTable.{new-fits, arrow-fits, bare_arrow, closed_arrow, comma}
use Rattle.spelling_table.specs.declared.position.Position.TheVariants as position
use Rattle.spelling_table.specs.declared.position.Slot.TheVariants as own
use Rattle.spelling_table.specs.declared.outline.FixedSlots.TheVariants.{Zero, One, Two, Three}
use Rattle.spelling_table.specs.declared.outline.ListSlots.TheVariants as tails
use Rattle.spelling_table.specs.declared.outline.FirstToken.TheVariants.{FunctionOrClass, Other}
use Rattle.spelling_table.specs.Productions.{private_in_outline}
use Rattle.spelling_table.specs.Outlines.{slot_of, before, tail_slots, outline_slots, opens_at, assignment_at, whole_at, leaf, fronted, lined}
use Rattle.spellings.specs.Entries.{entry_at, text_at, around}
use Rattle.grammar.specs.Operations.{operation, operation_at}
use Rattle.spellings.specs.Expressions.{named_function, plain_arrow, yield_outline, kind_at, is_past, expression_outline, selected, joined_outline, binary_outline, logical_outline, function_outline, class_outline, arrow_outline}
use Rattle.spellings.proofs.SlotPositions.{named, named-closed}
use Rattle.spellings.proofs.Lists.{arguments-named, object-named, elements-named, parameters-named, chunks-named, sequence-named}
use Rattle.spellings.proofs.OutlineWays.{Describes, Outlined, no_way, never_runs, neither_runs, one_way, two_ways, by_case, lists, fronts, sub_starts, word_starts, sign_starts, nothing_slots}
use Rattle.spellings.proofs.FirstTokens.{name_starts, literal_starts, prefix_word, prefix_sign, step_sign}

pub lead_entry : (ps : Parts) → lead_kind ps ≡ kind_at (entry_at ps 0)
lead_entry none = refl
lead_entry (part n ps) = refl
lead_entry (gap ps) = refl

lead_text : (ps : Parts) (s : Prim.Native.String.String) → is [] s ≡ false → lead_is ps s ≡ is (text_at ps 0) s
lead_text none s h = sym h
lead_text (part n ps) s h = refl
lead_text (gap ps) s h = sym h

second_text : (ps : Parts) → text_at (others ps) 0 ≡ text_at ps 1
second_text none = refl
second_text (part n ps) = refl
second_text (gap ps) = refl

second_past : (ps : Parts) → is_none (others ps) ≡ is_past (entry_at ps 1)
second_past none = refl
second_past (part n none) = refl
second_past (part n (part m ps)) = refl
second_past (part n (gap ps)) = refl
second_past (gap none) = refl
second_past (gap (part m ps)) = refl
second_past (gap (gap ps)) = refl

pub second_kind : (ps : Parts) → lead_kind (others ps) ≡ kind_at (entry_at ps 1)
second_kind none = refl
second_kind (part n none) = refl
second_kind (part n (part m ps)) = refl
second_kind (part n (gap ps)) = refl
second_kind (gap none) = refl
second_kind (gap (part m ps)) = refl
second_kind (gap (gap ps)) = refl

loose_free : (b : Bool) (qs : List Piece) → named (cond b (lay piece.loose ∷ []) [] ++ qs) ≡ named qs
loose_free true qs = refl
loose_free false qs = refl

after : (ps : Parts) (g : Flags) (qs : List Piece) → named (after_number ps g ++ qs) ≡ named qs
after none g qs = refl
after (gap ps) g qs = refl
after (part (node kind.Literal w h s e us) ps) g qs = loose_free (not g.computed && is_open_number (literal_class w) w) qs
after (part (node _ w h s e us) ps) g qs = loose_free (not g.computed && false) qs

-- arguments in their parentheses
pub arguments_names : (ps : Parts) → named (arguments ps) ≡ tail_slots (tails.Arguments false) ps
arguments_names ps = named-closed (listed argument ps) (sign ")" ∷ []) refl ∙ arguments-named ps

-- the property of a member, by its kind
pub selector_named : (g : Flags) (p : Kind) → named (selector g p) ≡ Some (slot_of (selected g p) ∷ [])
selector_named g p = of g.computed (is_private p)
  where
    of : (b c : Bool) → named (cond b in_brackets (sign "." ∷ put (cond c piece.private_name piece.word) ∷ [])) ≡ Some (slot_of (own.Fixed (cond b whole_at (cond c position.PrivateName position.IdentifierName))) ∷ [])
    of true c = refl
    of false true = refl
    of false false = refl

-- the space behind a sign
sign_space : (a b : Bool) (x y : ℕ) (qs : List Piece) → named (cond a (lay (piece.apart x) ∷ []) (cond b (lay (piece.apart y) ∷ []) []) ++ qs) ≡ named qs
sign_space true b x y qs = refl
sign_space false true x y qs = refl
sign_space false false x y qs = refl

arrow_named : (x : Form) (g : Flags) → named (arrow_closing x ∷ arrow_end g) ≡ Some (slot_of (cond g.expression (own.Tail Assignment NoBrace) (own.Fixed position.Body)) ∷ [])
arrow_named x g = behind x ∙ of g.expression
  where
    behind : (x : Form) → named (arrow_closing x ∷ arrow_end g) ≡ named (arrow_end g)
    behind form.Async = refl
    behind _ = refl

    of : (b : Bool) → named (unbroken ∷ sp ∷ sign "=>" ∷ sp ∷ cond b (sub (tail Assignment NoBrace)) (put piece.body) ∷ []) ≡ Some (slot_of (cond b (own.Tail Assignment NoBrace) (own.Fixed position.Body)) ∷ [])
    of true = refl
    of false = refl

body_named : named (sign ")" ∷ sp ∷ put piece.body ∷ []) ≡ Some (slot_of (own.Fixed position.Body) ∷ [])
body_named = refl

free_opens : (f : Start) → true ≡ opens_at f Rattle.spelling_table.specs.declared.outline.FirstToken.TheVariants.Other
free_opens Any = refl
free_opens NoBrace = refl
free_opens Statement = refl

module _ (ps : Parts) where
  identifier : (w : List ℕ) → Outlined ps (cond (is_reserved w) [] (at Primary (tok class.IdentifierName w ∷ []) ∷ [])) (cond (is_reserved w) None (Some (leaf Primary)))
  identifier w = by_case (is_reserved w) (λ e. no_way) (λ e. fronts Primary Zero (tok class.IdentifierName w ∷ []) refl (name_starts w e))

  literal : (w : List ℕ) → Outlined ps (expressions kind.Literal w Rattle.tree.specs.Tree.plain ps) (expression_outline kind.Literal w Rattle.tree.specs.Tree.plain (around ps))
  unfolding expressions
  literal w = by_case (is_name (literal_class w) && not (among w ("true" ∷ "false" ∷ "null" ∷ []))) (λ e. no_way) (λ e. fronts Primary Zero (tok (literal_class w) w ∷ []) refl (literal_starts w e))

  pub bracket_starts : (f : Start) (qs : List Piece) → starts f (sign "[" ∷ qs) ≡ true
  bracket_starts f qs = sign_starts f (codes "[") qs refl

  member : (g : Flags) (p : Kind) → (x : Slot) (y : Rattle.spelling_table.specs.declared.position.Slot.Slot) → x ≡ slot_of y → (qs : List Piece) → named qs ≡ named (selector g p) → Outlined ps (at Member (sub x ∷ qs) ∷ []) (Some (fronted Member (Two y (selected g p))))
  member g p x y e qs h = fronts Member (Two y (selected g p)) (sub x ∷ qs) (ap₂ (λ u v. before u v) e (h ∙ selector_named g p)) (λ f. sub_starts f x qs)

  call : (x : Slot) (y : Rattle.spelling_table.specs.declared.position.Slot.Slot) → x ≡ slot_of y → Outlined ps (at Call (sub x ∷ arguments (others ps)) ∷ []) (Some (lined Call (One y) (tails.Arguments false) 1))
  call x y e = lists Call (One y) (tails.Arguments false) 1 (sub x ∷ arguments (others ps)) (ap₂ (λ u v. before u v) e (arguments_names (others ps))) (λ f. sub_starts f x (arguments (others ps)))

  members : (g : Flags) → Outlined ps (expressions kind.MemberExpression [] g ps) (expression_outline kind.MemberExpression [] g (around ps))
  unfolding expressions
  members g = by_case g.optional (λ e. no_way) (λ e. rw (lead_entry ps, second_kind ps) (by_case (is_super (kind_at (entry_at ps 0)))
      (λ h. member g kind.Identifier (fixed piece.base) (own.Fixed position.Super) refl (selector g kind.Identifier) refl)
      (λ h. member g (kind_at (entry_at ps 1)) callee own.Callee refl (after_number ps g ++ selector g (kind_at (entry_at ps 1))) (after ps g (selector g (kind_at (entry_at ps 1)))))))

  calls : (g : Flags) → Outlined ps (expressions kind.CallExpression [] g ps) (expression_outline kind.CallExpression [] g (around ps))
  unfolding expressions
  calls g = by_case g.optional (λ e. no_way) (λ e. go (is_super (lead_kind ps)) (ap is_super (lead_entry ps)))
    where
      go : (b : Bool) → b ≡ is_super (kind_at (entry_at ps 0)) →
          Outlined ps (cond b (at Call (put piece.base ∷ arguments (others ps)) ∷ []) (at Call (sub (lead Call) ∷ arguments (others ps)) ∷ []))
          (Some (lined Call (One (cond (is_super (kind_at (entry_at ps 0))) (own.Fixed position.Super) (own.Lead Call))) (tails.Arguments false) 1))
      go true e = rw (← e) (call (fixed piece.base) (own.Fixed position.Super) refl)
      go false e = rw (← e) (call (lead Call) (own.Lead Call) refl)

  updates : (w : List ℕ) (g : Flags) → Outlined ps (expressions kind.UpdateExpression w g ps) (expression_outline kind.UpdateExpression w g (around ps))
  unfolding expressions
  updates w g = go (is_update_operator w) refl (is_target (lead_kind ps)) (ap is_target (lead_entry ps))
    where
      steps : is_update_operator w ≡ true → (b : Bool) → Outlined ps (cond b
          (at Update (tok class.Punctuator w ∷ lay (piece.apart (cond (is w "++") 43 45)) ∷ put (piece.expr LeftHandSide true Any) ∷ []) ∷ [])
          (at Update (sub (lead LeftHandSide) ∷ unbroken ∷ tok class.Punctuator w ∷ []) ∷ []))
          (Some (fronted Update (One (cond b (own.Fixed (position.Expression LeftHandSide true Any)) (own.Lead LeftHandSide)))))
      steps e true = fronts Update (One (own.Fixed (position.Expression LeftHandSide true Any))) _ refl (step_sign w _ e)
      steps e false = fronts Update (One (own.Lead LeftHandSide)) _ refl (λ f. sub_starts f (lead LeftHandSide) _)

      go : (a : Bool) → is_update_operator w ≡ a → (b : Bool) → b ≡ is_target (kind_at (entry_at ps 0)) →
          Outlined ps (cond (not (a && b)) [] (cond g.prefix
          (at Update (tok class.Punctuator w ∷ lay (piece.apart (cond (is w "++") 43 45)) ∷ put (piece.expr LeftHandSide true Any) ∷ []) ∷ [])
          (at Update (sub (lead LeftHandSide) ∷ unbroken ∷ tok class.Punctuator w ∷ []) ∷ [])))
          (cond (a && is_target (kind_at (entry_at ps 0))) (Some (fronted Update (One (cond g.prefix (own.Fixed (position.Expression LeftHandSide true Any)) (own.Lead LeftHandSide))))) None)
      go false d b e = no_way
      go true d true e = rw (← e) (steps d g.prefix)
      go true d false e = rw (← e) no_way

  unaries : (w : List ℕ) → Outlined ps (expressions kind.UnaryExpression w Rattle.tree.specs.Tree.plain ps) (expression_outline kind.UnaryExpression w Rattle.tree.specs.Tree.plain (around ps))
  unfolding expressions
  unaries w = go (is_prefix w) refl
    where
      either : is_prefix w ≡ true → (b : Bool) → Outlined ps (cond b
          (at Unary (tok class.IdentifierName w ∷ sp ∷ put (piece.expr Unary true Any) ∷ []) ∷ [])
          (at Unary (tok class.Punctuator w ∷ cond (is w "+") (lay (piece.apart 43) ∷ []) (cond (is w "-") (lay (piece.apart 45) ∷ []) []) ++ put (piece.expr Unary true Any) ∷ []) ∷ []))
          (Some (fronted Unary (One (own.Fixed (position.Expression Unary true Any)))))
      either e true = fronts Unary (One (own.Fixed (position.Expression Unary true Any))) _ refl (prefix_word w _ refl e)
      either e false = fronts Unary (One (own.Fixed (position.Expression Unary true Any))) _ (sign_space (is w "+") (is w "-") 43 45 (put (piece.expr Unary true Any) ∷ [])) (prefix_sign w _ e)

      go : (a : Bool) → is_prefix w ≡ a → Outlined ps (cond (not a) [] (cond (is_word_operator w)
          (at Unary (tok class.IdentifierName w ∷ sp ∷ put (piece.expr Unary true Any) ∷ []) ∷ [])
          (at Unary (tok class.Punctuator w ∷ cond (is w "+") (lay (piece.apart 43) ∷ []) (cond (is w "-") (lay (piece.apart 45) ∷ []) []) ++ put (piece.expr Unary true Any) ∷ []) ∷ [])))
          (cond a (Some (fronted Unary (One (own.Fixed (position.Expression Unary true Any))))) None)
      go false e = no_way
      go true e = either e (is_word_operator w)

  join : (w : List ℕ) (z q : Rank) → Outlined ps (joined w z q ∷ []) (Some (joined_outline w z q))
  join w z q = one_way (record { rank = refl; needs_in = refl; opens = free; names = ap (λ x. before (left z) (before (tail q Any) x)) (sym (nothing_slots ps)) })
    where
      free : (f : Start) → starts f (sub (left z) ∷ infix_pieces w ++ sub (tail q Any) ∷ []) ≡ opens_at f Rattle.spelling_table.specs.declared.outline.FirstToken.TheVariants.Other
      free Any = refl
      free NoBrace = refl
      free Statement = refl

  binaries : (w : List ℕ) (o : Operator) → Outlined ps (binary_ways w o) (binary_outline w (operation o))
  binaries w (op_binary false z q) = join w z q
  binaries w (op_binary true z q) = no_way
  binaries w op_power = fronts Exponentiation (Two (own.Lead Update) (own.Fixed (position.Expression Exponentiation true Any))) _ refl (λ f. sub_starts f (lead Update) _)
  binaries w _ = no_way

  private_before_in : Outlined ps (private_in ∷ []) (Some private_in_outline)
  private_before_in = one_way (record { rank = refl; needs_in = refl; opens = λ f. sub_starts f (fixed piece.private_name) _ ∙ free_opens f; names = ap (λ x. before (fixed piece.private_name) (before (tail Shift Any) x)) (sym (nothing_slots ps)) })

  -- a private name stands before `in` alone
  binaries_by : (w : List ℕ) → Outlined ps (expressions kind.BinaryExpression w Rattle.tree.specs.Tree.plain ps) (expression_outline kind.BinaryExpression w Rattle.tree.specs.Tree.plain (around ps))
  unfolding expressions operation_at
  binaries_by w = rw (lead_entry ps) (by_case (is_private (kind_at (entry_at ps 0))) (λ e. by_case (is w "in") (λ h. private_before_in) (λ h. no_way)) (λ e. binaries w (operator_of w)))

  logicals : (w : List ℕ) (o : Operator) → Outlined ps (logical_ways w o) (logical_outline w (operation o))
  logicals w (op_binary true z q) = join w z q
  logicals w (op_binary false z q) = no_way
  logicals w _ = no_way

  assigns : (x : Slot) (y : Rattle.spelling_table.specs.declared.position.Slot.Slot) (w : List ℕ) → x ≡ slot_of y →
      Outlined ps (at Assignment (sub x ∷ infix_pieces w ++ sub (tail Assignment Any) ∷ []) ∷ []) (Some (fronted Assignment (Two y (own.Tail Assignment Any))))
  assigns x y w e = fronts Assignment (Two y (own.Tail Assignment Any)) _ (ap (λ u. before u (Some (tail Assignment Any ∷ []))) e) (λ f. sub_starts f x _)

  assignments : (w : List ℕ) → Outlined ps (expressions kind.AssignmentExpression w Rattle.tree.specs.Tree.plain ps) (expression_outline kind.AssignmentExpression w Rattle.tree.specs.Tree.plain (around ps))
  unfolding expressions
  assignments w = go (is_assignment w) (is_target (lead_kind ps)) (ap is_target (lead_entry ps)) (is_pattern (lead_kind ps)) (ap is_pattern (lead_entry ps))
    where
      go : (a b : Bool) → b ≡ is_target (kind_at (entry_at ps 0)) → (c : Bool) → c ≡ is_pattern (kind_at (entry_at ps 0)) →
          Outlined ps (cond (not a) [] (cond b (at Assignment (sub (lead LeftHandSide) ∷ infix_pieces w ++ sub (tail Assignment Any) ∷ []) ∷ []) (
          cond (is w "=" && c) (at Assignment (sub lead_pattern ∷ infix_pieces w ++ sub (tail Assignment Any) ∷ []) ∷ []) [])))
          (cond a (cond (is_target (kind_at (entry_at ps 0))) (Some (fronted Assignment (Two (own.Lead LeftHandSide) (own.Tail Assignment Any)))) (cond (is w "=" && is_pattern (kind_at (entry_at ps 0))) (Some (fronted Assignment (Two own.LeadPattern (own.Tail Assignment Any)))) None)) None)
      go false b d c e = no_way
      go true true d c e = rw (← d) (assigns (lead LeftHandSide) (own.Lead LeftHandSide) w refl)
      go true false d c e = rw (← d, ← e) (by_case (is w "=" && c) (λ h. assigns lead_pattern own.LeadPattern w refl) (λ h. no_way))

  sequences : Outlined ps (expressions kind.SequenceExpression [] Rattle.tree.specs.Tree.plain ps) (expression_outline kind.SequenceExpression [] Rattle.tree.specs.Tree.plain (around ps))
  unfolding expressions
  sequences = go (is_none (others ps)) (second_past ps)
    where
      go : (b : Bool) → b ≡ is_past (entry_at ps 1) → Outlined ps (cond b [] (at Expression (sub (left Assignment) ∷ sequence (others ps)) ∷ [])) (cond (is_past (entry_at ps 1)) None (Some (lined Expression (One (own.Left Assignment)) (tails.Each (own.Tail Assignment Any)) 1)))
      go true e = rw (← e) no_way
      go false e = rw (← e) (lists Expression (One (own.Left Assignment)) (tails.Each (own.Tail Assignment Any)) 1 _ (ap (before (left Assignment)) (sequence-named (others ps))) (λ f. sub_starts f (left Assignment) _))

  metas : Outlined ps (expressions kind.MetaProperty [] Rattle.tree.specs.Tree.plain ps) (expression_outline kind.MetaProperty [] Rattle.tree.specs.Tree.plain (around ps))
  unfolding expressions
  metas = rw (lead_text ps "new" refl, lead_text (others ps) "target" refl, lead_text ps "import" refl, lead_text (others ps) "meta" refl, second_text ps)
      (of (is (text_at ps 0) "new" && is (text_at ps 1) "target") (is (text_at ps 0) "import" && is (text_at ps 1) "meta"))
    where
      of : (a b : Bool) → Outlined ps (cond a (at Member (put piece.word ∷ sign "." ∷ put piece.word ∷ []) ∷ []) (cond b (at Member (put piece.word ∷ sign "." ∷ put piece.word ∷ []) ∷ []) []))
          (cond (a || b) (Some (fronted Member (Two (own.Fixed position.IdentifierName) (own.Fixed position.IdentifierName)))) None)
      of true b = fronts Member (Two (own.Fixed position.IdentifierName) (own.Fixed position.IdentifierName)) _ refl (λ f. sub_starts f (fixed piece.word) _)
      of false true = fronts Member (Two (own.Fixed position.IdentifierName) (own.Fixed position.IdentifierName)) _ refl (λ f. sub_starts f (fixed piece.word) _)
      of false false = no_way

  chains : Outlined ps (expressions kind.ChainExpression [] Rattle.tree.specs.Tree.plain ps) (expression_outline kind.ChainExpression [] Rattle.tree.specs.Tree.plain (around ps))
  unfolding expressions
  chains = by_case (first_has_optional ps) (λ e. fronts LeftHandSide (One own.LeadSpine) _ refl (λ f. sub_starts f lead_chain _)) (λ e. no_way)

-- functions and classes

function_opens : (f : Start) (qs : List Piece) → starts f (term "function" ∷ sp ∷ qs) ≡ opens_at f FunctionOrClass
function_opens Any qs = refl
function_opens NoBrace qs = refl
function_opens Statement qs = refl

star_opens : (f : Start) (qs : List Piece) → starts f (term "function" ∷ sign "*" ∷ qs) ≡ opens_at f FunctionOrClass
star_opens Any qs = refl
star_opens NoBrace qs = refl
star_opens Statement qs = refl

async_opens : (f : Start) (qs : List Piece) → starts f (term "async" ∷ unbroken ∷ sp ∷ term "function" ∷ qs) ≡ opens_at f FunctionOrClass
async_opens Any qs = refl
async_opens NoBrace qs = refl
async_opens Statement qs = refl

class_opens : (f : Start) (qs : List Piece) → starts f (term "class" ∷ sp ∷ qs) ≡ opens_at f FunctionOrClass
class_opens Any qs = refl
class_opens NoBrace qs = refl
class_opens Statement qs = refl

pub brace_opens : (f : Start) (qs : List Piece) → starts f (sign "{" ∷ qs) ≡ opens_at f Rattle.spelling_table.specs.declared.outline.FirstToken.TheVariants.Brace
brace_opens Any qs = refl
brace_opens NoBrace qs = refl
brace_opens Statement qs = refl

parameters_of : (ps : Parts) → named (parameters (sign ")" ∷ sp ∷ put piece.body ∷ []) ps) ≡ tail_slots (tails.Parameters (own.Fixed position.Body)) ps
parameters_of ps = parameters-named (own.Fixed position.Body) (sign ")" ∷ sp ∷ put piece.body ∷ []) refl ps

-- of each form, where its words name nothing
formed : (x : Form) (ps : Parts) → ((f : Start) → starts f (function_pieces x ps) ≡ opens_at f FunctionOrClass) → named (function_pieces x ps) ≡ named (function_pieces form.Init ps) →
    Outlined ps (at Primary (function_pieces x ps) ∷ []) (named_function (entry_at ps 0))
formed x none s e = never_runs e
formed x (gap ps) s e = one_way (record { rank = refl; needs_in = refl; opens = s; names = e ∙ parameters_of ps })
formed x (part n ps) s e = one_way (record { rank = refl; needs_in = refl; opens = s; names = e ∙ ap (before (fixed piece.name)) (parameters_of ps) })

pub functions : (x : Form) (ps : Parts) → Outlined ps (at Primary (function_pieces x ps) ∷ []) (function_outline x (entry_at ps 0))
functions form.Init ps = formed form.Init ps (λ f. function_opens f _) refl
functions form.Generator ps = formed form.Generator ps (λ f. star_opens f _) refl
functions form.Async ps = formed form.Async ps (λ f. async_opens f _) refl
functions form.AsyncGenerator ps = formed form.AsyncGenerator ps (λ f. async_opens f _) refl
functions _ ps = never_runs refl

pub classes : (ps : Parts) → Outlined ps (at Primary (class_pieces ps) ∷ []) (class_outline (entry_at ps 0) (entry_at ps 1))
classes none = never_runs refl
classes (gap none) = never_runs refl
classes (gap (gap ps)) = one_way (record { rank = refl; needs_in = refl; opens = λ f. class_opens f _; names = refl })
classes (gap (part m ps)) = one_way (record { rank = refl; needs_in = refl; opens = λ f. class_opens f _; names = refl })
classes (part n none) = never_runs refl
classes (part n (gap ps)) = one_way (record { rank = refl; needs_in = refl; opens = λ f. class_opens f _; names = refl })
classes (part n (part m ps)) = one_way (record { rank = refl; needs_in = refl; opens = λ f. class_opens f _; names = refl })

open_starts : (f : Start) (qs : List Piece) → starts f (open_parameters ∷ qs) ≡ true
open_starts Any qs = refl
open_starts NoBrace qs = refl
open_starts Statement qs = refl

async_open_starts : (f : Start) (qs : List Piece) → starts f (term "async" ∷ unbroken ∷ sp ∷ sign "(" ∷ qs) ≡ true
async_open_starts Any qs = refl
async_open_starts NoBrace qs = refl
async_open_starts Statement qs = refl

async_name_starts : (f : Start) (qs : List Piece) → starts f (term "async" ∷ unbroken ∷ sp ∷ put piece.name ∷ qs) ≡ opens_at f Other
async_name_starts Any qs = refl
async_name_starts NoBrace qs = refl
async_name_starts Statement qs = refl

abbrev in_parameters : Form → Flags → Parts → List Piece
in_parameters x g ps = arrow_words x ++ arrow_opening x ∷ parameters (arrow_closing x ∷ arrow_end g) ps

abbrev with_form : Form → Flags → Flags
with_form x g = record g { form = x }

enclosed : (x : Form) (g : Flags) (ps : Parts) → named (parameters (arrow_closing x ∷ arrow_end g) ps) ≡ tail_slots (tails.Parameters (cond g.expression (own.Tail Assignment NoBrace) (own.Fixed position.Body))) ps
enclosed x g ps = parameters-named (cond g.expression (own.Tail Assignment NoBrace) (own.Fixed position.Body)) (arrow_closing x ∷ arrow_end g) (arrow_named x g) ps

with_parameters : (x : Form) (g : Flags) (ps : Parts) → Outlined ps (at Assignment (in_parameters x g ps) ∷ []) (arrow_outline (with_form x g))
with_parameters form.Init g ps = lists Assignment Zero (tails.Parameters (cond g.expression (own.Tail Assignment NoBrace) (own.Fixed position.Body))) 0 _ (enclosed form.Init g ps) (λ f. open_starts f _)
with_parameters form.Async g ps = lists Assignment Zero (tails.Parameters (cond g.expression (own.Tail Assignment NoBrace) (own.Fixed position.Body))) 0 _ (enclosed form.Async g ps) (λ f. async_open_starts f _)
with_parameters _ g ps = never_runs refl

-- one name, with or without parentheses
named_alone : (g : Flags) (w : List ℕ) (h : Flags) (s e : ℕ) (qs : Parts) (b : Tree) → named (put piece.name ∷ arrow_end g) ≡ outline_slots (plain_arrow g) (part (node kind.Identifier w h s e qs) (part b none))
named_alone g w h s e qs b = ap (before (fixed piece.name)) (arrow_named form.Init g)

with_name : (x : Form) (g : Flags) (w : List ℕ) (h : Flags) (s e : ℕ) (qs : Parts) (b : Tree) →
    Outlined (part (node kind.Identifier w h s e qs) (part b none)) (at Assignment (bare_arrow x g) ∷ at Assignment (closed_arrow x g comma) ∷ []) (arrow_outline (with_form x g))
with_name form.Init g w h s e qs b = two_ways (record { rank = refl; needs_in = refl; opens = λ f. sub_starts f (fixed piece.name) _ ∙ free_opens f; names = named_alone g w h s e qs b }) (λ a i. arrow-fits form.Init a g i)
with_name form.Async g w h s e qs b = two_ways (record { rank = refl; needs_in = refl; opens = λ f. async_name_starts f _; names = named_alone g w h s e qs b }) (λ a i. arrow-fits form.Async a g i)
with_name _ g w h s e qs b = neither_runs refl refl

arrows_outlined : (x : Form) (g : Flags) (ps : Parts) → Outlined ps (op_arrow (with_form x g) ps) (arrow_outline (with_form x g))
arrows_outlined x g none = with_parameters x g none
arrows_outlined x g (gap ps) = with_parameters x g (gap ps)
arrows_outlined x g (part n none) = with_parameters x g (part n none)
arrows_outlined x g (part n (gap ps)) = with_parameters x g (part n (gap ps))
arrows_outlined x g (part n (part b (part m ps))) = with_parameters x g (part n (part b (part m ps)))
arrows_outlined x g (part n (part b (gap ps))) = with_parameters x g (part n (part b (gap ps)))
arrows_outlined x g (part (node kind.Identifier w h s e qs) (part b none)) = with_name x g w h s e qs b
arrows_outlined x g (part (node k w h s e qs) (part b none)) = with_parameters x g (part (node k w h s e qs) (part b none))

new_arguments : (ps : Parts) → Describes ps (at Member (term "new" ∷ sp ∷ put (piece.expr Member true Any) ∷ arguments (others ps))) (lined Member (One (own.Fixed (position.Expression Member true Any))) (tails.Arguments false) 1)
new_arguments ps = record { rank = refl; needs_in = refl; opens = λ f. word_starts f (codes "new") _ refl refl ∙ free_opens f; names = ap (before (fixed (piece.expr Member true Any))) (arguments_names (others ps)) }

news : (ps : Parts) → Outlined ps (expressions kind.NewExpression [] Rattle.tree.specs.Tree.plain ps) (expression_outline kind.NewExpression [] Rattle.tree.specs.Tree.plain (around ps))
unfolding expressions
news none = two_ways (new_arguments none) (λ a h. new-fits {a = a} {c = a} same h)
news (gap none) = two_ways (new_arguments (gap none)) (λ a h. new-fits {a = a} {c = a} same h)
news (part n none) = two_ways (new_arguments (part n none)) (λ a h. new-fits {a = a} {c = a} same h)
news (gap (gap ps)) = one_way (new_arguments (gap (gap ps)))
news (gap (part m ps)) = one_way (new_arguments (gap (part m ps)))
news (part n (gap ps)) = one_way (new_arguments (part n (gap ps)))
news (part n (part m ps)) = one_way (new_arguments (part n (part m ps)))

chunk_starts : (f : Start) (ps : Parts) → starts f (template_elements true ps) ≡ true
chunk_starts Any ps = refl
chunk_starts NoBrace none = refl
chunk_starts NoBrace (gap ps) = refl
chunk_starts NoBrace (part q none) = refl
chunk_starts NoBrace (part q (gap ps)) = refl
chunk_starts NoBrace (part q (part e ps)) = refl
chunk_starts Statement none = refl
chunk_starts Statement (gap ps) = refl
chunk_starts Statement (part q none) = refl
chunk_starts Statement (part q (gap ps)) = refl
chunk_starts Statement (part q (part e ps)) = refl

yields_outlined : (x : Form) (ps : Parts) → Outlined ps (yields x ps) (yield_outline x (entry_at ps 0) (entry_at ps 1))
yields_outlined form.Init none = no_way
yields_outlined form.Init (gap none) = fronts Assignment Zero _ refl (λ f. word_starts f (codes "yield") _ refl refl)
yields_outlined form.Init (gap (gap ps)) = no_way
yields_outlined form.Init (gap (part m ps)) = no_way
yields_outlined form.Init (part n none) = fronts Assignment (One (own.Tail Assignment Any)) _ refl (λ f. word_starts f (codes "yield") _ refl refl)
yields_outlined form.Init (part n (gap ps)) = no_way
yields_outlined form.Init (part n (part m ps)) = no_way
yields_outlined form.Generator none = no_way
yields_outlined form.Generator (gap ps) = no_way
yields_outlined form.Generator (part n none) = fronts Assignment (One (own.Tail Assignment Any)) _ refl (λ f. word_starts f (codes "yield") _ refl refl)
yields_outlined form.Generator (part n (gap ps)) = no_way
yields_outlined form.Generator (part n (part m ps)) = no_way
yields_outlined _ ps = no_way

keyword_starts : (f : Start) (w : List ℕ) (qs : List Piece) → starts f (tok class.Keyword w ∷ qs) ≡ true
keyword_starts Any w qs = refl
keyword_starts NoBrace w qs = refl
keyword_starts Statement w qs = refl

pub expressions_outlined : (k : Kind) (w : List ℕ) (g : Flags) (ps : Parts) → Outlined ps (expressions k w g ps) (expression_outline k w g (around ps))
unfolding expressions operation_at
expressions_outlined kind.Identifier w g ps = identifier ps w
expressions_outlined kind.Literal w g ps = literal ps w
expressions_outlined kind.ThisExpression w g ps = fronts Primary Zero (term "this" ∷ []) refl (λ f. word_starts f (codes "this") [] refl refl)
expressions_outlined kind.ArrayExpression w g ps = lists Primary Zero (tails.Arguments true) 0 _ (named-closed (elements argument ps) (sign "]" ∷ []) refl ∙ elements-named ps) (λ f. bracket_starts ps f _)
expressions_outlined kind.ObjectExpression w g ps = one_way (record { rank = refl; needs_in = refl; opens = λ f. brace_opens f _; names = named-closed (listed object_part ps) (sign "}" ∷ []) refl ∙ object-named ps })
expressions_outlined kind.FunctionExpression w g ps = functions g.form ps
expressions_outlined kind.ClassExpression w g ps = classes ps
expressions_outlined kind.TemplateLiteral w g ps = lists Primary Zero (tails.Chunks true) 0 _ (chunks-named true ps) (λ f. chunk_starts f ps)
expressions_outlined kind.ArrowFunctionExpression w g ps = arrows_outlined g.form g ps
expressions_outlined kind.TaggedTemplateExpression w g ps = fronts Member (Two own.Callee (own.Fixed position.TaggedQuasi)) _ refl (λ f. sub_starts f callee _)
expressions_outlined kind.MemberExpression w g ps = members ps g
expressions_outlined kind.CallExpression w g ps = calls ps g
expressions_outlined kind.NewExpression w g ps = news ps
expressions_outlined kind.MetaProperty w g ps = metas ps
expressions_outlined kind.ImportExpression w g ps = fronts Call (One (own.Fixed assignment_at)) _ refl (λ f. word_starts f (codes "import") _ refl refl)
expressions_outlined kind.ChainExpression w g ps = chains ps
expressions_outlined kind.UpdateExpression w g ps = updates ps w g
expressions_outlined kind.UnaryExpression w g ps = unaries ps w
expressions_outlined kind.AwaitExpression w g ps = fronts Unary (One (own.Fixed (position.Expression Unary true Any))) _ refl (λ f. keyword_starts f (codes "await") _)
expressions_outlined kind.BinaryExpression w g ps = binaries_by ps w
expressions_outlined kind.LogicalExpression w g ps = logicals ps w (operator_of w)
expressions_outlined kind.YieldExpression w g ps = yields_outlined g.form ps
expressions_outlined kind.ConditionalExpression w g ps = fronts Conditional (Three (own.Left ShortCircuit) (own.Fixed assignment_at) (own.Tail Assignment Any)) _ refl (λ f. sub_starts f (left ShortCircuit) _)
expressions_outlined kind.AssignmentExpression w g ps = assignments ps w
expressions_outlined kind.SequenceExpression w g ps = sequences ps
expressions_outlined _ w g ps = no_way
