-- What an operator with a right side makes: a binary or logical node, an assignment, a conditional (ECMA-262 12.5 to 12.15).
use Rattle.std.proofs.Common.{◌≡◌, ℕ, ◌≤◌, arith, Bool, true, false, cond, List, [], ◌∷◌, ◌++◌, refl, sym, ap, ◌∙◌, subst}
use Rattle.std.specs.Prelude.{IsTrue, Some, None, codes, not, ◌&&◌, nat_le, if◌then◌else◌}
use Rattle.std.proofs.lemmas.Bool.{and_parts, false≢true}
use Rattle.std.proofs.lemmas.Bool.Decides.{nat_tests}
use Rattle.std.proofs.lemmas.List.{append-nil}
use Rattle.std.proofs.lemmas.Slice.Eq.{bytes_eq-Decides}
use Rattle.std.proofs.lemmas.Option.{none-some}
use Rattle.tokens.specs.Tokens.{LexicalToken}
use Rattle.tokens.specs.declared.token.TokenClass.{TokenClass}
use Rattle.tokens.specs.declared.token.TokenClass.TheVariants.{IdentifierName, Punctuator}
use Rattle.tree.specs.declared.kind.Kind.{Kind}
use Rattle.tree.specs.declared.kind.Kind.TheVariants.{Identifier, BinaryExpression, LogicalExpression, AssignmentExpression, AssignmentPattern, MemberExpression}
use Rattle.tree.specs.declared.kind.Pair.{Pair}
use Rattle.tree.specs.Tree.{Tree, node, plain, Parts, none, part, kind_of, push}
use Rattle.covers.specs.declared.shape.CoverShape.{CoverShape}
use Rattle.covers.specs.declared.shape.TargetForm.{TargetForm}
use Rattle.covers.specs.declared.shape.TargetForm.TheVariants as assigned
use Rattle.tree.specs.Patterns.{pattern_tree}
use Rattle.covers.specs.Shapes.{is_element, is_bound, value, defaulted}
use Rattle.covers.specs.Shapes as shapes
use Rattle.language.specs.declared.Rank.{Rank}
use Rattle.language.specs.declared.Rank.TheVariants.{Assignment, Exponentiation, Update, LeftHandSide}
use Rattle.language.specs.declared.Start.{Start}
use Rattle.language.specs.declared.Start.TheVariants.{Any}
use Rattle.language.specs.declared.Edge.{Edge}
use Rattle.language.specs.Vocabulary.{is, takes, takes_number, precedence, is_word_operator, is_target, is_pattern, is_identifier, operator_of, Operator, op_binary, op_power, op_assign, op_question, op_template, op_none}
use Rattle.language.specs.Covers.{as_pattern}
use Rattle.language.specs.Pieces.{Role, expr, name, pattern, element, bound, sub, at, tail, lead_pattern}
use Rattle.language.specs.Token.{Token, as_read, table_text}
use Rattle.language.specs.Edges.{edge, edge_as_written}
use Rattle.language.specs.Expressions.{infix_pieces}
use Rattle.language.specs.Continuations.{operation, rank_made_by}
use Rattle.language.specs.Derivation.{placed, step, within, token, laid}
use Rattle.language.proofs.table.NodeForms.{assign_pattern}
use Rattle.language.proofs.table.OperatorFacts.{binding}
use Rattle.language.proofs.table.OperatorTokens.{op_reads, reads_question}
use Rattle.language.proofs.climbing.OperatorNodes.{kind_bare, last_runs, power_grows, assign_grows}
use Rattle.language.proofs.table.Productions.{spell, starts_led}
use Rattle.language.proofs.covers.CoverElements.{default_spells}
use Rattle.token_cursor.proofs.SeenTokens.{seen_determined}
use Rattle.parser_tables.specs.declared.operand.Operand.{Operand}
use Rattle.parser_tables.specs.declared.expression_context.ExpressionContext.{ExpressionContext}
use Rattle.recursive_descent.specs.declared.expressions.LeftOperand.{LeftOperand}
use Rattle.grammar.specs.declared.infix.BinaryOperator.{BinaryOperator}
use Rattle.grammar.specs.declared.infix.InfixOperator.{InfixOperator as Coded}
use Rattle.grammar.specs.declared.infix.InfixOperator.TheVariants as code
use Rattle.recursive_descent.specs.Soundness.{Begins, SpelledAs, assigned_at, fits_as, minds_in, takes_new, PartAt, ReadAt, GoesOn, Adds}
use Rattle.grammar.specs.Infix.{coded_operator, meant}
use Rattle.parser_tables.specs.Operands.{part_from}
use Rattle.token_cursor.specs.Seen.{ReadsHere}
use Rattle.recursive_descent.specs.LeftOperands.{left_of, takes_left, operator_text_of}
use Rattle.parser_tables.specs.StatementNodes.{is_closed}
use Rattle.token_cursor.specs.CursorState.{CursorState}
use Rattle.recursive_descent.proofs.reading.AddedPairs.{adds_both, adds_behind, adds_none}
use Rattle.recursive_descent.proofs.sound_expressions.ExpressionParts.{placed_at, value_part, binary_part, conditional_part}
use Rattle.token_cursor.specs.SourceText.{SourceText, SeenNext, behind_in}
use Rattle.recursive_descent.specs.Spelled.{SpellsIn}
use Rattle.recursive_descent.proofs.reading.SeenClasses.{as_here}

-- the symbol of what an operator makes is that of its node
pub rank_of : (x : Coded) (l : Operand) (b : Bool) → takes_left x l ≡ true → rank_made_by (meant x) b ≡ Some (left_of x l).own
rank_of (code.Binary sign) l b h = refl
rank_of (code.Assign true) l b h = refl
rank_of (code.Assign false) l b h = refl
rank_of code.Question l b h = refl
rank_of _ l b h = absurd (false≢true (and_parts _ _ h).1)

-- what the code has for an operator between two expressions
abbrev pub binds_sign : Bool → Rank → Rank → BinaryOperator
binds_sign b z q = record { kind = cond b LogicalExpression BinaryExpression; own = z; left = z; right = q }

abbrev pub powers_sign : BinaryOperator
powers_sign = record { kind = BinaryExpression; own = Exponentiation; left = Update; right = Exponentiation }

data JoinsBy (x : Operator) (sign : BinaryOperator) : Type 0 where
  by_binds : (b : Bool) (z q : Rank) → x ≡ op_binary b z q → sign ≡ binds_sign b z q → JoinsBy x sign
  by_powers : x ≡ op_power → sign ≡ powers_sign → JoinsBy x sign

same_sign : {a b : BinaryOperator} → Some (code.Binary a) ≡ Some (code.Binary b) → b ≡ a
same_sign h = cc

joins_by : (x : Operator) (w : List ℕ) (sign : BinaryOperator) → coded_operator x w ≡ Some (code.Binary sign) → JoinsBy x sign
joins_by (op_binary b z q) w sign h = by_binds b z q refl (same_sign h)
joins_by op_power w sign h = by_powers refl (same_sign h)
joins_by _ w sign h = cc

same_plain : {a b : Bool} → Some (code.Assign a) ≡ Some (code.Assign b) → a ≡ b
same_plain h = cc

assigns_by : (x : Operator) (w : List ℕ) (b : Bool) → coded_operator x w ≡ Some (code.Assign b) → (x ≡ op_assign) × (is w "=" ≡ b)
assigns_by op_assign w b h = (refl, same_plain h)
assigns_by _ w b h = cc

asks_by : (x : Operator) (w : List ℕ) → coded_operator x w ≡ Some code.Question → x ≡ op_question
asks_by op_question w h = refl
asks_by _ w h = cc

-- a word or a sign is read with its own characters
pub own_text : (b : Bool) (c : TokenClass) (w : List ℕ) → c ≡ cond b IdentifierName Punctuator → table_text c w ≡ w
own_text true c w h = ap (λ k. table_text k w) h
own_text false c w h = ap (λ k. table_text k w) h

nothing_there : {A X : Type 0} {x : X} → Some x ≡ None → A
nothing_there e = cc

-- In matters at each symbol that takes an Assignment
assignment_number : (h : ℕ) → IsTrue (takes_number h 1) → nat_le h 14 ≡ true
assignment_number h t = grind (arith, nat_tests)

assignment_minds : (h : Rank) → IsTrue (takes h Assignment) → minds_in h ≡ true
assignment_minds h t = assignment_number (precedence h) t

-- the right side of an operator takes what is read to its end
new_number : (n : ℕ) → n ≤ 15 → takes_number n 19 ≡ true
new_number n h = grind (arith, nat_tests)

binds_new : (w : List ℕ) {b : Bool} {z q : Rank} → operator_of w ≡ op_binary b z q → takes_new q ≡ true
binds_new w {q = q} op = new_number (precedence q) (binding w op).most

-- a target or a pattern is an element
element_fits : (a : TargetForm) (m b : Bool) → shapes.is_pattern a ≡ true → cond b (m && true) true ≡ true → cond b (m && is_element a) (is_element a) ≡ true
element_fits assigned.Target m b p h = h
element_fits assigned.Pattern m b p h = h
element_fits _ m b p h = absurd (false≢true p)

no_default : (a : TargetForm) → shapes.is_pattern a ≡ true → a ≡ assigned.Defaulted → ⊥
no_default assigned.Defaulted p e = cc
no_default assigned.Target p e = cc
no_default assigned.Pattern p e = cc
no_default assigned.Nothing p e = cc

pub target_is_pattern : (a : TargetForm) → shapes.is_target a ≡ true → shapes.is_pattern a ≡ true
target_is_pattern assigned.Target h = refl
target_is_pattern _ h = absurd (false≢true h)

identifier_no_pattern : (k : Kind) → is_identifier k ≡ true → is_pattern k ≡ false
identifier_no_pattern Identifier h = refl
identifier_no_pattern _ h = absurd (false≢true h)

target_no_pattern : (k : Kind) → is_target k ≡ true → is_pattern k ≡ false
target_no_pattern Identifier h = refl
target_no_pattern MemberExpression h = refl
target_no_pattern _ h = absurd (false≢true h)

-- what a position by a test says
chosen : {b : Bool} {a r : Role} → cond b (Some r) None ≡ Some a → (b ≡ true) × (r ≡ a)
chosen {b} {a} {r} h = go b refl h
  where
    same : Some r ≡ Some a → r ≡ a
    same k = cc

    go : (c : Bool) → b ≡ c → cond c (Some r) None ≡ Some a → (b ≡ true) × (r ≡ a)
    go true e k = (e, same k)
    go false e k = absurd (none-some _ k)

-- the position of what is assigned to, and of the left part of a default
pub bound_at : (a : TargetForm) (b : Bool) (k : Kind) {r : Role} → shapes.is_pattern a ≡ true → assigned_at a Any b k ≡ Some r → bound b k ≡ Some r
bound_at assigned.Target true k p h = ap (λ x. cond x (Some (pattern true Any)) (cond (is_identifier k) (Some name) None)) (identifier_no_pattern k (chosen h).0) ∙ h
bound_at assigned.Target false k p h = ap (λ x. cond x (Some (pattern false Any)) (cond (is_target k) (Some (expr LeftHandSide true Any)) None)) (target_no_pattern k (chosen h).0) ∙ h
bound_at assigned.Pattern true k p h = let c = chosen h in ap (λ x. cond x (Some (pattern true Any)) (cond (is_identifier k) (Some name) None)) c.0 ∙ ap Some c.1
bound_at assigned.Pattern false k p h = let c = chosen h in ap (λ x. cond x (Some (pattern false Any)) (cond (is_target k) (Some (expr LeftHandSide true Any)) None)) c.0 ∙ ap Some c.1
bound_at _ b k p h = absurd (false≢true p)

-- with a default
abbrev pub with_default : CoverShape → CoverShape
with_default s = record { is_expression = true; assigned = assigned.Defaulted; binds = s.binds }

defaulted_is : (s : CoverShape) → shapes.is_pattern s.assigned ≡ true → defaulted s ≡ with_default s
defaulted_is s h = ap (λ v. let r : CoverShape = record { is_expression = true; assigned = if v then assigned.Defaulted else assigned.Nothing; binds = s.binds } in r) h

no_target : (f : Start) (a : TargetForm) (k : Kind) {r : Role} → shapes.is_target a ≡ true → assigned_at a f false k ≡ Some r → is_pattern k ≡ true → ⊥
no_target f assigned.Target k t h p = false≢true (sym (target_no_pattern k (chosen h).0) ∙ p)
no_target f _ k t h p = absurd (false≢true t)

module _ (text : SourceText) where
  -- a target or a pattern, where one is assigned to
  data AssignedTo (f : Start) (o : ℕ) (n : Tree) (s m : Token) (P : List Pair) : Type 0 where
    a_target : is_target (kind_of n) ≡ true → SpellsIn text o (expr LeftHandSide true f) n s m P → AssignedTo f o n s m P
    a_pattern : is_pattern (kind_of n) ≡ true → SpellsIn text o (pattern false f) n s m P → AssignedTo f o n s m P

  assigned_to : {f : Start} {o : ℕ} {n : Tree} {s m : Token} {P : List Pair} (a : TargetForm) → shapes.is_pattern a ≡ true → SpelledAs (assigned_at a f false) text o n s m P → AssignedTo f o n s m P
  assigned_to {f} {o} {n} {s} {m} {P} assigned.Target p v = let c = chosen v.it_is in a_target c.0 (subst (λ r. SpellsIn text o r n s m P) (sym c.1) v.spelled)
  assigned_to {f} {o} {n} {s} {m} {P} assigned.Pattern p v = let c = chosen v.it_is in a_pattern c.0 (subst (λ r. SpellsIn text o r n s m P) (sym c.1) v.spelled)
  assigned_to _ p v = absurd (false≢true p)

  module _ {i : Bool} {f : Start} {l : Operand} {o : ℕ} {s m : Token} {P : List Pair} (left : PartAt text i f l o s m P) (is_left : shapes.is_pattern l.cover.shape.assigned ≡ true) where
    left_as : (b : Bool) → cond b (l.cover.shape.binds && true) true ≡ true → SpelledAs (assigned_at l.cover.shape.assigned f b) text o (pattern_tree l.cover.node) s m P
    left_as b h = left.assigned b (element_fits l.cover.shape.assigned l.cover.shape.binds b is_left h) (λ e. absurd (no_default l.cover.shape.assigned is_left e))

    left_to : AssignedTo f o (pattern_tree l.cover.node) s m P
    left_to = assigned_to l.cover.shape.assigned is_left (left_as false refl)

  -- a target
  pub target_spelled : {i : Bool} {f : Start} {l : Operand} {o : ℕ} {s m : Token} {P : List Pair} → PartAt text i f l o s m P → shapes.is_target l.cover.shape.assigned ≡ true → (is_target (kind_of (pattern_tree l.cover.node)) ≡ true) × SpellsIn text o (expr LeftHandSide true f) (pattern_tree l.cover.node) s m P
  target_spelled {f = f} {l = l} {o = o} {s = s} {m = m} {P = P} left is = of (left_to left (target_is_pattern l.cover.shape.assigned is))
    where
      of : AssignedTo f o (pattern_tree l.cover.node) s m P → (is_target (kind_of (pattern_tree l.cover.node)) ≡ true) × SpellsIn text o (expr LeftHandSide true f) (pattern_tree l.cover.node) s m P
      of (a_target is_target_kind d) = (is_target_kind, d)
      of (a_pattern is_pattern_kind d) = absurd (no_target f l.cover.shape.assigned (kind_of (pattern_tree l.cover.node)) is (left_as left (target_is_pattern l.cover.shape.assigned is) false refl).it_is is_pattern_kind)

  -- `**`
  pub power_part : {i : Bool} {f : Start} {l : Operand} {o : ℕ} {s m x e : Token} {P Q : List Pair} {w : List ℕ} {u : Tree} {right : Edge} → PartAt text i f l o s m P → l.cover.shape.is_expression ≡ true → IsTrue (takes Update l.rank) → operator_of w ≡ op_power →
      ReadsHere text (cond (is_word_operator w) IdentifierName Punctuator) w m x → SpellsIn text o (expr Exponentiation true Any) u x e Q → right ≡ edge_as_written (edge u) e → is_closed right ≡ false →
      PartAt text i f (part_from (node BinaryExpression w plain l.start e.stop (part l.cover.node (part u none))) value l.start Exponentiation right) o s e (P ++ Q)
  power_part {i} {f} {l} {o} {s} {m} {x} {e} {P} {Q} {w} {u} {right} left value tk op sign side edge_is open_edge =
      value_part text refl left.begins edge_is open_edge (λ h. cc)
      (λ h j t lo. power_grows Token (SeenNext text) (behind_in text) op t (left.stands value Update true tk (λ k. cc)) sign side (placed_at text left.begins))

  -- an assignment to a target; to a target or a pattern by `=`
  assign_spelled : {i : Bool} {f : Start} {n u : Tree} {at o : ℕ} {s m x e : Token} {P Q : List Pair} {w : List ℕ} → Begins text at s → is_target (kind_of n) ≡ true → SpellsIn text o (expr LeftHandSide true f) n s m P → operator_of w ≡ op_assign →
      ReadsHere text (cond (is_word_operator w) IdentifierName Punctuator) w m x → SpellsIn text o (expr Assignment i Any) u x e Q → (h : Rank) → IsTrue (takes h Assignment) →
      SpellsIn text o (expr h i f) (node AssignmentExpression w plain at e.stop (part n (part u none))) s e (P ++ Q)
  assign_spelled begins is d op sign side h t = assign_grows Token (SeenNext text) (behind_in text) op is t d sign side (placed_at text begins)

  pattern_spelled : {i : Bool} {f : Start} {n u : Tree} {at o : ℕ} {s m x e : Token} {P Q : List Pair} → Begins text at s → is_pattern (kind_of n) ≡ true → SpellsIn text o (pattern false f) n s m P →
      ReadsHere text Punctuator (codes "=") m x → SpellsIn text o (expr Assignment i Any) u x e Q → (h : Rank) → IsTrue (takes h Assignment) →
      SpellsIn text o (expr h i f) (node AssignmentExpression (codes "=") plain at e.stop (part n (part u none))) s e (P ++ Q)
  pattern_spelled {f = f} {n = n} begins is d sign side h t =
      spell Token (SeenNext text) (behind_in text) (Rattle.language.specs.Pieces.at Assignment (sub lead_pattern ∷ infix_pieces (codes "=") ++ sub (tail Assignment Any) ∷ [])) (assign_pattern refl refl (ap is_pattern (kind_bare n) ∙ is)) refl t refl (starts_led f lead_pattern _)
      (placed_at text begins) (within d (step laid (step (token sign) (step laid (last_runs Token (SeenNext text) (behind_in text) side)))))

  either_spelled : {i : Bool} {f : Start} {n u : Tree} {at o : ℕ} {s m x e : Token} {P Q : List Pair} → Begins text at s → AssignedTo f o n s m P →
      ReadsHere text Punctuator (codes "=") m x → SpellsIn text o (expr Assignment i Any) u x e Q → (h : Rank) → IsTrue (takes h Assignment) →
      SpellsIn text o (expr h i f) (node AssignmentExpression (codes "=") plain at e.stop (part n (part u none))) s e (P ++ Q)
  either_spelled begins (a_target is d) sign side h t = assign_spelled begins is d refl sign side h t
  either_spelled begins (a_pattern is d) sign side h t = pattern_spelled begins is d sign side h t

  -- an assignment by another operator, which is no default
  pub target_part : {i : Bool} {f : Start} {l : Operand} {o : ℕ} {s m x e : Token} {P Q : List Pair} {w : List ℕ} {u : Tree} {right : Edge} → PartAt text i f l o s m P → shapes.is_target l.cover.shape.assigned ≡ true → operator_of w ≡ op_assign →
      ReadsHere text (cond (is_word_operator w) IdentifierName Punctuator) w m x → SpellsIn text o (expr Assignment i Any) u x e Q → right ≡ edge_as_written (edge u) e → is_closed right ≡ false →
      PartAt text i f (part_from (node AssignmentExpression w plain l.start e.stop (part (pattern_tree l.cover.node) (part u none))) value l.start Assignment right) o s e (P ++ Q)
  target_part {i} {f} {l} {o} {s} {m} {x} {e} {P} {Q} {w} {u} {right} left is op sign side edge_is open_edge =
      value_part text refl left.begins edge_is open_edge (λ h. cc)
      (λ h j t lo. let same : j ≡ i = lo (assignment_minds h t) in
      subst (λ c. SpellsIn text o (expr h c f) (node AssignmentExpression w plain l.start e.stop (part (pattern_tree l.cover.node) (part u none))) s e (P ++ Q)) (sym same)
      (let d = target_spelled left is in assign_spelled left.begins d.0 d.1 op sign side h t))

  -- an assignment by `=`, which may be a default too
  default_part : {i : Bool} {f : Start} {l : Operand} {o : ℕ} {s m x e : Token} {P Q : List Pair} {u : Tree} {right : Edge} → PartAt text i f l o s m P → shapes.is_pattern l.cover.shape.assigned ≡ true →
      ReadsHere text Punctuator (codes "=") m x → SpellsIn text o (expr Assignment i Any) u x e Q → right ≡ edge_as_written (edge u) e → is_closed right ≡ false →
      PartAt text i f (part_from (node AssignmentExpression (codes "=") plain l.start e.stop (part (pattern_tree l.cover.node) (part u none))) (with_default l.cover.shape) l.start Assignment right) o s e (P ++ Q)
  default_part {i} {f} {l} {o} {s} {m} {x} {e} {P} {Q} {u} {right} left is sign side edge_is open_edge = record {
    begins = left.begins;
    edge = edge_is;
    goes_on = open_edge;
    stands = λ fits h j t lo. let same : j ≡ i = lo (assignment_minds h t) in
        subst (λ c. SpellsIn text o (expr h c f) (node AssignmentExpression (codes "=") plain l.start e.stop (part (pattern_tree l.cover.node) (part u none))) s e (P ++ Q)) (sym same)
        (either_spelled left.begins (left_to left is) sign side h t);
    assigned = as_default;
    bare = λ a g h. nothing_there (sym h);
    newly = λ h. cc;
  }
    where
      default : (b : Bool) → f ≡ Any → i ≡ true → SpelledAs (assigned_at l.cover.shape.assigned f b) text o (pattern_tree l.cover.node) s m P → SpellsIn text o (element b) (node AssignmentPattern [] plain l.start e.stop (part (pattern_tree l.cover.node) (part u none))) s e (P ++ Q)
      default b any has_in v =
          let role : assigned_at l.cover.shape.assigned Any b (kind_of (pattern_tree l.cover.node)) ≡ Some v.role = subst (λ c. assigned_at l.cover.shape.assigned c b (kind_of (pattern_tree l.cover.node)) ≡ Some v.role) any v.it_is in
          default_spells Token (SeenNext text) (behind_in text) (seen_determined text) b (bound_at l.cover.shape.assigned b (kind_of (pattern_tree l.cover.node)) is role) v.spelled sign
          (subst (λ c. SpellsIn text o (expr Assignment c Any) u x e Q) has_in side) (placed left.begins.next (ap (λ (c : ℕ). (c, e.stop)) left.begins.start))

      as_default : (b : Bool) → fits_as (with_default l.cover.shape) (as_pattern b) ≡ true → (◌≡◌ {A = TargetForm} assigned.Defaulted assigned.Defaulted → (f ≡ Any) × (i ≡ true)) →
          SpelledAs (assigned_at assigned.Defaulted f b) text o (node AssignmentPattern [] plain l.start e.stop (part (pattern_tree l.cover.node) (part u none))) s e (P ++ Q)
      as_default b fits d = let k = d refl in record { role = element b; it_is = refl; spelled = default b k.0 k.1 (left_as left is b fits) }

-- where the right side of an operator stands
abbrev pub right_at : Rank → Bool → ExpressionContext
right_at q i = record { rank = q; has_in = i; start = Any }

-- the node of an operator, with the right side
abbrev pub sided_part : LeftOperand → List ℕ → Operand → Parts → Operand → ℕ → Operand
sided_part left w l nodes p stop = part_from (node left.kind (operator_text_of left.kind w) plain l.start stop (push nodes p.cover.node)) left.shape l.start left.own p.edge

-- what an operator makes of what stands before it and of each right side
abbrev pub SidedOn : SourceText → Bool → Operand → LeftOperand → List ℕ → Parts → ℕ → Token → Token → List Pair → Type 0
SidedOn text i l left w nodes o m x Q = (p : Operand) (e : Token) (R : List Pair) → p.cover.shape.is_expression ≡ true → ReadAt text (right_at left.right i) p o x e R → GoesOn text i l (sided_part left w l nodes p e.stop) o m e (Q ++ R)

module _ (text : SourceText) where
  right_spelled : {q : Rank} {i : Bool} {p : Operand} {o : ℕ} {x e : Token} {R : List Pair} → p.cover.shape.is_expression ≡ true → ReadAt text (right_at q i) p o x e R → takes_new q ≡ true → (j : Bool) → (minds_in q ≡ true → j ≡ i) → SpellsIn text o (expr q j Any) p.cover.node x e R
  right_spelled {q} value read new j lo = read.part.stands value q j (read.taken new) lo

  -- the token of an operator is read with its own characters
  pub sign_here : {s t : Token} (v : LexicalToken) {op : Operator} → SeenNext text s (as_read v) t → operation (as_read v) ≡ op → (op ≡ op_none → ⊥) → (op ≡ op_template → ⊥) →
      ReadsHere text (cond (is_word_operator v.text) IdentifierName Punctuator) v.text s t × (operator_of v.text ≡ op)
  sign_here v next op n m =
      let r = op_reads (as_read v) op n m in
      let same : table_text v.class v.text ≡ v.text = own_text (is_word_operator (as_read v).text) v.class v.text r.0 in
      (as_here text (record { next = next; class = r.0 ∙ ap (λ w. cond (is_word_operator w) IdentifierName Punctuator) same; text = same }), sym (ap operator_of same) ∙ r.1)

  module _ {i : Bool} {l : Operand} {o : ℕ} {s t : Token} (w : List ℕ) where
    binds_on : (b : Bool) (z q : Rank) → operator_of w ≡ op_binary b z q → IsTrue (takes z l.rank) → l.cover.shape.is_expression ≡ true → (is w "in" && not i) ≡ false → ReadsHere text (cond (is_word_operator w) IdentifierName Punctuator) w s t →
        SidedOn text i l (left_of (code.Binary (binds_sign b z q)) l) w (part l.cover.node none) o s t []
    binds_on true z q op tk value has_in sign p e R right read f a P left = binary_part text left value tk op has_in sign (right_spelled right read (binds_new w op) i (λ k. refl)) read.part.edge read.part.goes_on
    binds_on false z q op tk value has_in sign p e R right read f a P left = binary_part text left value tk op has_in sign (right_spelled right read (binds_new w op) i (λ k. refl)) read.part.edge read.part.goes_on

    powers_on : operator_of w ≡ op_power → IsTrue (takes Update l.rank) → l.cover.shape.is_expression ≡ true → ReadsHere text (cond (is_word_operator w) IdentifierName Punctuator) w s t → SidedOn text i l (left_of (code.Binary powers_sign) l) w (part l.cover.node none) o s t []
    powers_on op tk value sign p e R right read f a P left = power_part text left value tk op sign (right_spelled right read refl true (λ k. cc)) read.part.edge read.part.goes_on

    target_on : operator_of w ≡ op_assign → shapes.is_target l.cover.shape.assigned ≡ true → ReadsHere text (cond (is_word_operator w) IdentifierName Punctuator) w s t → SidedOn text i l (left_of (code.Assign false) l) w (part (pattern_tree l.cover.node) none) o s t []
    target_on op is sign p e R right read f a P left = target_part text left is op sign (right_spelled right read refl i (λ k. refl)) read.part.edge read.part.goes_on

  default_on : {i : Bool} {l : Operand} {o : ℕ} {s t : Token} → shapes.is_pattern l.cover.shape.assigned ≡ true → ReadsHere text Punctuator (codes "=") s t → SidedOn text i l (left_of (code.Assign true) l) (codes "=") (part (pattern_tree l.cover.node) none) o s t []
  default_on {i} {l} {o} {s} {t} is sign p e R right read f a P left =
      subst (λ (y : CoverShape). PartAt text i f (part_from (node AssignmentExpression (codes "=") plain l.start e.stop (part (pattern_tree l.cover.node) (part p.cover.node none))) y l.start Assignment p.edge) o a e (P ++ R)) (sym (defaulted_is l.cover.shape is))
      (default_part text left is sign (right_spelled right read refl i (λ k. refl)) read.part.edge read.part.goes_on)

  -- an operator but `?`, behind its token
  pub sided_before : (i : Bool) (l : Operand) (x : Coded) (v : LexicalToken) (o : ℕ) {s t : Token} → SeenNext text s (as_read v) t → coded_operator (operation (as_read v)) v.text ≡ Some x → (is v.text "in" && not i) ≡ false → takes_left x l ≡ true → (x ≡ code.Question → ⊥) →
      SidedOn text i l (left_of x l) v.text (part (left_of x l).node none) o s t []
  sided_before i l (code.Binary sign) v o {s} {t} next op has_in fits other = of (joins_by (operation (as_read v)) v.text sign op)
    where
      both : (takes sign.left l.rank ≡ true) × (l.cover.shape.is_expression ≡ true)
      both = and_parts _ _ fits

      of : JoinsBy (operation (as_read v)) sign → SidedOn text i l (left_of (code.Binary sign) l) v.text (part l.cover.node none) o s t []
      of (by_binds b z q h k) =
          let r = sign_here v next h (λ e. cc) (λ e. cc) in
          subst (λ g. SidedOn text i l (left_of (code.Binary g) l) v.text (part l.cover.node none) o s t []) (sym k)
          (binds_on v.text b z q r.1 (subst (λ (g : BinaryOperator). IsTrue (takes g.left l.rank)) k both.0) both.1 has_in r.0)
      of (by_powers h k) =
          let r = sign_here v next h (λ e. cc) (λ e. cc) in
          subst (λ g. SidedOn text i l (left_of (code.Binary g) l) v.text (part l.cover.node none) o s t []) (sym k)
          (powers_on v.text r.1 (subst (λ (g : BinaryOperator). IsTrue (takes g.left l.rank)) k both.0) both.1 r.0)
  sided_before i l (code.Assign true) v o {s} {t} next op has_in fits other =
      let a = assigns_by (operation (as_read v)) v.text true op in
      let r = sign_here v next a.0 (λ e. cc) (λ e. cc) in
      let equals : v.text ≡ codes "=" = (bytes_eq-Decides v.text (codes "=")).0 a.1 in
      subst (λ (w : List ℕ). SidedOn text i l (left_of (code.Assign true) l) w (part (pattern_tree l.cover.node) none) o s t []) (sym equals)
      (default_on (and_parts _ _ fits).1 (subst (λ (w : List ℕ). ReadsHere text (cond (is_word_operator w) IdentifierName Punctuator) w s t) equals r.0))
  sided_before i l (code.Assign false) v o next op has_in fits other =
      let a = assigns_by (operation (as_read v)) v.text false op in
      let r = sign_here v next a.0 (λ e. cc) (λ e. cc) in
      target_on v.text r.1 (and_parts _ _ fits).1 r.0
  sided_before i l code.Question v o next op has_in fits other = absurd (other refl)
  sided_before i l _ v o next op has_in fits other = absurd (false≢true (and_parts _ _ fits).1)

  -- a conditional, behind its `:`
  pub asked_before : (i : Bool) (l : Operand) (v : LexicalToken) (o : ℕ) {s t b x : Token} {p : Operand} {Q : List Pair} → SeenNext text s (as_read v) t → coded_operator (operation (as_read v)) v.text ≡ Some code.Question → takes_left code.Question l ≡ true →
      ReadAt text (right_at Assignment true) p o t b Q → p.cover.shape.is_expression ≡ true → ReadsHere text Punctuator (codes ":") b x → SidedOn text i l (left_of code.Question l) v.text (part l.cover.node (part p.cover.node none)) o s x Q
  asked_before i l v o {s} {t} next op fits one value colon p e R right read f a P left =
      let question : ReadsHere text Punctuator (codes "?") s t = as_here text (reads_question Token (SeenNext text) (behind_in text) next (asks_by (operation (as_read v)) v.text op)) in
      conditional_part text left (and_parts _ _ fits).1 (and_parts _ _ fits).0 question (right_spelled value one refl true (λ k. refl)) colon (right_spelled right read refl i (λ k. refl)) read.part.edge read.part.goes_on

-- behind the token, or behind the first of two right sides and its `:`
pub record SidedFrom (s e : CursorState) (old new : List Pair) (i : Bool) (l : Operand) (left : LeftOperand) (w : List ℕ) (nodes : Parts) : Type 0 where
  pub same_text : e.text ≡ s.text
  pub adds : Adds s e old new (SidedOn s.text i l left w nodes)

same_left : {s e : CursorState} {old new : List Pair} {i : Bool} {l : Operand} {left left' : LeftOperand} {w : List ℕ} {nodes nodes' : Parts} → left' ≡ left → nodes' ≡ nodes → SidedFrom s e old new i l left w nodes → SidedFrom s e old new i l left' w nodes'
same_left {s} {e} {old} {new} {i} {l} {left} {left'} {w} {nodes} {nodes'} a b h =
    subst (λ (k : LeftOperand). SidedFrom s e old new i l k w nodes') (sym a) (subst (λ (n : Parts). SidedFrom s e old new i l left w n) (sym b) h)

pub sided_one : {s m : CursorState} {old mid : List Pair} (i : Bool) (l : Operand) (x : Coded) (v : LexicalToken) {left : LeftOperand} {nodes : Parts} → m.text ≡ s.text → m.opened ≡ s.opened → mid ≡ old → SeenNext s.text s.last (as_read v) m.last →
    coded_operator (operation (as_read v)) v.text ≡ Some x → (is v.text "in" && not i) ≡ false → takes_left x l ≡ true → left ≡ left_of x l → nodes ≡ part left.node none → (x ≡ code.Question → ⊥) → SidedFrom s m old mid i l left v.text nodes
sided_one {s} i l x v text open_same same next op has_in fits of_left of_nodes other =
    same_left of_left (of_nodes ∙ ap (λ (k : LeftOperand). part k.node none) of_left) (record { same_text = text; adds = adds_none open_same same (λ o. sided_before s.text i l x v o next op has_in fits other) })

pub sided_two : {s m b e : CursorState} {old mid new last : List Pair} (i : Bool) (l : Operand) (x : Coded) (v : LexicalToken) (p : Operand) {left : LeftOperand} {nodes : Parts} → m.text ≡ s.text → m.opened ≡ s.opened → mid ≡ old → SeenNext s.text s.last (as_read v) m.last →
    coded_operator (operation (as_read v)) v.text ≡ Some x → takes_left x l ≡ true → left ≡ left_of x l → nodes ≡ push (part left.node none) p.cover.node → x ≡ code.Question → b.text ≡ m.text → Adds m b mid new (ReadAt m.text (right_at Assignment true) p) → p.cover.shape.is_expression ≡ true →
    e.text ≡ b.text → e.opened ≡ b.opened → last ≡ new → ReadsHere b.text Punctuator (codes ":") b.last e.last → SidedFrom s e old last i l left v.text nodes
sided_two {s} {m} {b} {e} {old} {mid} {new} {last} i l x v p {left} {nodes} text open_same same next op fits of_left of_nodes question one_text one value colon_text colon_open colon_same colon =
    let op' : coded_operator (operation (as_read v)) v.text ≡ Some code.Question = op ∙ ap Some question in
    let fits' : takes_left code.Question l ≡ true = ap (λ k. takes_left k l) (sym question) ∙ fits in
    let of_left' : left ≡ left_of code.Question l = of_left ∙ ap (λ k. left_of k l) question in
    let here : ReadsHere s.text Punctuator (codes ":") b.last e.last = subst (λ c. ReadsHere c Punctuator (codes ":") b.last e.last) (one_text ∙ text) colon in
    let to_colon : Adds b e new last (λ o u z Q. (u ≡ b.last) × (z ≡ e.last) × (Q ≡ [])) = adds_none colon_open colon_same (λ o. (refl, refl, refl)) in
    let first : Adds s b old new (λ o u z Q. ReadAt s.text (right_at Assignment true) p o m.last z Q) = adds_behind open_same same one (λ o Q d. subst (λ c. ReadAt c (right_at Assignment true) p o m.last b.last Q) text d) in
    same_left of_left' (of_nodes ∙ ap (λ (k : LeftOperand). push (part k.node none) p.cover.node) of_left')
    (record {
      same_text = colon_text ∙ one_text ∙ text;
      adds = adds_both first to_colon (λ o P Q u z. subst (λ c. SidedOn s.text i l (left_of code.Question l) v.text (part l.cover.node (part p.cover.node none)) o s.last e.last c) (sym (ap (λ c. P ++ c) z.2 ∙ append-nil P)) (asked_before s.text i l v o next op' fits' u value here));
    })

-- with the right side
pub sided_whole : {s m e : CursorState} {old mid new : List Pair} {i : Bool} {l : Operand} {left : LeftOperand} {w : List ℕ} {nodes : Parts} (p r : Operand) {place : ExpressionContext} → SidedFrom s m old mid i l left w nodes → place ≡ right_at left.right i → Adds m e mid new (ReadAt m.text place p) → p.cover.shape.is_expression ≡ true →
    r ≡ sided_part left w l nodes p e.last.stop → Adds s e old new (GoesOn s.text i l r)
sided_whole {s} {m} {e} {i = i} {l = l} {left = left} {w = w} {nodes = nodes} p r {place} before there right value tree =
    adds_both before.adds right (λ o P Q u v. subst (λ (k : Operand). GoesOn s.text i l k o s.last e.last (P ++ Q)) (sym tree)
    (u p e.last Q value (subst (λ (k : ExpressionContext). ReadAt s.text k p o m.last e.last Q) there (subst (λ c. ReadAt c place p o m.last e.last Q) before.same_text v))))
