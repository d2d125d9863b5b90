-- The right sides of an operator that stands ahead, at a stage of what is given, and the next stage.
use Rattle.std.proofs.Common.{◌≡◌, ℕ, ◌≤◌, Bool, true, false, cond, List, [], ◌++◌, refl, sym, ap, ◌∙◌, subst, arith}
use Rattle.std.specs.Prelude.{IsTrue, codes, Option, Some, None, if◌then◌else◌, not, ◌&&◌, ◌||◌}
use Rattle.std.proofs.lemmas.Bool.{false≢true, and_from, and_parts}
use Rattle.std.proofs.lemmas.Slice.Eq.{bytes_eq-Decides}
use Rattle.tokens.specs.declared.token.Goal.TheVariants.{Div}
use Rattle.tree.specs.declared.kind.Kind.TheVariants.{AssignmentPattern, AssignmentExpression, BinaryExpression, LogicalExpression, ConditionalExpression}
use Rattle.tree.specs.declared.kind.Pair.{Pair}
use Rattle.tree.specs.Tree.{Tree, node, plain, Parts, part, none, kind_of, text_of, height}
use Rattle.language.specs.declared.Rank.{Rank}
use Rattle.language.specs.declared.Rank.TheVariants.{Assignment, Conditional, ShortCircuit, LeftHandSide, Update, Exponentiation}
use Rattle.language.specs.declared.Start.TheVariants.{Any}
use Rattle.language.specs.declared.Edge.{Edge}
use Rattle.language.specs.Vocabulary.{is, takes, is_target as is_simple, is_pattern, op_binary, op_power, op_assign, op_question}
use Rattle.language.specs.Token.{Token}
use Rattle.language.specs.Edges.{edge, edge_as_written}
use Rattle.language.specs.Pieces.{expr}
use Rattle.language.specs.Continuations.{operation, rank_made_by, holds, stops_at, stops}
use Rattle.language.specs.Promises.{ReadBy}
use Rattle.language.specs.Covers.{Reading, as_expression, as_pattern}
use Rattle.token_cursor.proofs.SeenTokens.{seen_determined}
use Rattle.language.proofs.table.Tails.{tails_conditional}
use Rattle.language.proofs.climbing.Turns.{not_conditional}
use Rattle.language.proofs.climbing.OperatorLoop.{Leads, grows_height, stops_inside}
use Rattle.language.proofs.climbing.BinaryTurns.{two_binds, two_powers, two_assigns}
use Rattle.language.proofs.climbing.Conditionals.{ask_on, read_there}
use Rattle.tree.specs.Patterns.{pattern_tree}
use Rattle.covers.specs.Shapes.{is_element, is_bound, is_target, is_pattern as is_listed, defaulted}
use Rattle.covers.specs.declared.shape.CoverShape.{CoverShape}
use Rattle.covers.specs.declared.shape.TargetForm.TheVariants as assigned
use Rattle.parser_tables.specs.declared.operand.Operand.{Operand}
use Rattle.parser_tables.specs.declared.expression_context.ExpressionContext.{ExpressionContext}
use Rattle.grammar.specs.declared.infix.InfixOperator.{InfixOperator as Coded}
use Rattle.grammar.specs.declared.infix.InfixOperator.TheVariants as code
use Rattle.recursive_descent.specs.Soundness.{Begins, fits_as}
use Rattle.recursive_descent.specs.Completeness.{SidesGiven, one_side, two_sides, StopsIn}
use Rattle.recursive_descent.specs.LeftOperands.{left_of, takes_left, operator_text_of}
use Rattle.recursive_descent.specs.Stages.{SpineAs, IsLeft, AssignedAs, DefaultAs, Serves, as_it_is, StageAs, on_spine, at_end, an_element}
use Rattle.recursive_descent.proofs.reading.PowersIn.{power_in}
use Rattle.recursive_descent.proofs.reading.LanguageTrees.{parts_of_language, others_of_language, grown_language}
use Rattle.recursive_descent.proofs.complete_expressions.Agreement.{read_here}
use Rattle.recursive_descent.proofs.reading.PatternEnds.{simple_itself, target_listed, over_stopped}
use Rattle.recursive_descent.proofs.complete_expressions.BinaryNodesOnSpine.{two_on}
use Rattle.recursive_descent.proofs.complete_expressions.SpineTurns.{on_further, on_language, node_there}
use Rattle.token_cursor.specs.SourceText.{SourceText, SeenNext, behind_in}
use Rattle.recursive_descent.specs.Spelled.{OfLanguage, AllOfLanguage, SpellsIn}

rank_same : {a b : Rank} → Some a ≡ Some b → a ≡ b
rank_same h = cc

text_made : (l : Bool) (w : List ℕ) → operator_text_of (cond l LogicalExpression BinaryExpression) w ≡ w
text_made true w = refl
text_made false w = refl

not_simple : (l : Bool) → is_simple (cond l LogicalExpression BinaryExpression) ≡ false
not_simple true = refl
not_simple false = refl

not_assignment : (l : Bool) → cond l LogicalExpression BinaryExpression ≡ AssignmentExpression → ⊥
not_assignment true e = cc
not_assignment false e = cc

listed_element : (s : CoverShape) → is_listed s.assigned ≡ true → is_element (defaulted s).assigned ≡ true
listed_element s h = ap (λ b. is_element (if b then assigned.Defaulted else assigned.Nothing)) h

-- In doesn't matter at `**`
exponent_in : {text : SourceText} {o : ℕ} {u : Tree} {s e : Token} {P : List Pair} (i : Bool) → SpellsIn text o (expr Exponentiation true Any) u s e P → SpellsIn text o (expr Exponentiation i Any) u s e P
exponent_in {text} i d = power_in Token (SeenNext text) (behind_in text) (seen_determined text) true i d

exponent_at : (i : Bool) (x : Edge) (t : Token) (z : Option Rank) → stops_at Exponentiation true x t z ≡ true → stops_at Exponentiation i x t z ≡ true
exponent_at i x t None h = refl
exponent_at true x t (Some z) h = h
exponent_at false x t (Some z) h = either (takes Exponentiation z) (is t.text "in") (holds x z) h
  where
    either : (a b c : Bool) → (not a || ((b && false) || not c)) ≡ true → (not a || ((b && true) || not c)) ≡ true
    either false b c h = refl
    either true true c h = refl
    either true false c h = h

module _ (text : SourceText) (p : ExpressionContext) (o : ℕ) (s e : Token) (P : List Pair) (l : Operand) (m : Token) (Q : List Pair) (a : Reading) (n : Tree) where
  -- the right sides of the operator with this text, behind its token, and the next stage
  pub record SidesOn (c : Coded) (w : List ℕ) (x : Token) (z : Option Rank) : Type 0 where
    pub sides : Parts
    pub to : Token
    pub more : List Pair
    pub given : SidesGiven text p.has_in o x to c (left_of c l).right sides more
    pub fits : takes_left c l ≡ true
    pub of_language : OfLanguage text n → AllOfLanguage text sides
    pub low : height (node (left_of c l).kind (operator_text_of (left_of c l).kind w) plain l.start to.stop (part (left_of c l).node sides)) ≤ height n
    pub next : (r : Operand) → r.cover.node ≡ node (left_of c l).kind (operator_text_of (left_of c l).kind w) plain l.start to.stop (part (left_of c l).node sides) → r.cover.shape ≡ (left_of c l).shape → z ≡ Some r.rank → StageAs text p o s e P r to (Q ++ more) a n

  module _ {k : Tree} (serves : Serves text p o s e P l m Q a n k) (high : height k ≡ height n) (u : SpineAs text p o s e P l m Q k) (begins : Begins text l.start s) {t x : Token} (r : ReadBy Token (SeenNext text) (behind_in text) Div m t x) (goes : stops p.rank p.has_in (edge l.cover.node) (behind_in text m) t ≡ false) where
    pub binary_on : {lg : Bool} {z q : Rank} → operation t ≡ op_binary lg z q → SidesOn (code.Binary (record { kind = cond lg LogicalExpression BinaryExpression; own = z; left = z; right = q })) t.text x (Some z)
    binary_on {lg} {z} {q} is_op =
        let w = two_on Token (SeenNext text) (behind_in text) (seen_determined text) two_binds r is_op goes u.stopped u.leads in
        let leads = λ (c : Rank) (fits : IsTrue (takes w.h c)). node_there text {c = c} begins w.places fits w.spelled w.grows in
        let same : node (cond lg LogicalExpression BinaryExpression) (operator_text_of (cond lg LogicalExpression BinaryExpression) t.text) plain l.start w.to.stop (part l.cover.node (part w.operand none)) ≡ node (cond lg LogicalExpression BinaryExpression) t.text plain l.start w.to.stop (part l.cover.node (part w.operand none)) =
        ap (λ v. node (cond lg LogicalExpression BinaryExpression) v plain l.start w.to.stop (part l.cover.node (part w.operand none))) (text_made lg t.text) in
        let below = grows_height Token (SeenNext text) (behind_in text) (seen_determined text) (leads z w.stands).grows in
        let level = ap height same in
        record {
          sides = part w.operand none;
          to = w.to;
          more = w.right;
          given = one_side (λ k. cc) w.side w.stopped;
          fits = and_from (takes z l.rank) l.cover.shape.is_expression w.fits u.value;
          of_language = λ own. others_of_language (parts_of_language (on_language text serves w.grows own));
          low = omega arith;
          next = λ q tree shape rank. on_further text serves high u
              (subst (λ v. Leads Token (SeenNext text) (behind_in text) (seen_determined text) o s p.rank p.has_in p.start k e P q.rank v w.to (Q ++ w.right)) (sym (tree ∙ same)) (leads q.rank (subst (λ v. IsTrue (takes w.h v)) (rank_same rank) w.stands)))
              (ap (λ (v : CoverShape). v.is_expression) shape) (λ h. absurd (false≢true (sym (not_simple lg) ∙ sym (ap (λ v. is_simple (kind_of v)) (tree ∙ same)) ∙ h))) (λ h k. absurd (not_assignment lg (sym (ap kind_of (tree ∙ same)) ∙ h)));
        }

    pub power_on : operation t ≡ op_power → SidesOn (code.Binary (record { kind = BinaryExpression; own = Exponentiation; left = Update; right = Exponentiation })) t.text x (Some Exponentiation)
    power_on is_op =
        let w = two_on Token (SeenNext text) (behind_in text) (seen_determined text) two_powers r is_op goes u.stopped u.leads in
        let leads = λ (c : Rank) (fits : IsTrue (takes w.h c)). node_there text {c = c} begins w.places fits w.spelled w.grows in
        let below = grows_height Token (SeenNext text) (behind_in text) (seen_determined text) (leads Exponentiation w.stands).grows in
        record {
          sides = part w.operand none;
          to = w.to;
          more = w.right;
          given = one_side (λ k. cc) (exponent_in p.has_in w.side) (record { before = λ v q d. exponent_at p.has_in (edge_as_written (edge w.operand) (behind_in text w.to)) v (rank_made_by (operation v) v.after_break) (w.stopped.before v q d); apart = w.stopped.apart });
          fits = and_from (takes Update l.rank) l.cover.shape.is_expression w.fits u.value;
          of_language = λ own. others_of_language (parts_of_language (on_language text serves w.grows own));
          low = omega arith;
          next = λ q tree shape rank. on_further text serves high u
              (subst (λ v. Leads Token (SeenNext text) (behind_in text) (seen_determined text) o s p.rank p.has_in p.start k e P q.rank v w.to (Q ++ w.right)) (sym tree) (leads q.rank (subst (λ v. IsTrue (takes w.h v)) (rank_same rank) w.stands)))
              (ap (λ (v : CoverShape). v.is_expression) shape) (λ h. absurd (false≢true (sym (ap (λ v. is_simple (kind_of v)) tree) ∙ h))) (λ h c. let clash : BinaryExpression ≡ AssignmentExpression = sym (ap kind_of tree) ∙ h in cc);
        }

    pub assign_on : operation t ≡ op_assign → (b : Bool) → (b ≡ false → is t.text "=" ≡ false) → SidesOn (code.Assign b) t.text x (Some Assignment)
    assign_on is_op true plainly =
        let w = two_on Token (SeenNext text) (behind_in text) (seen_determined text) two_assigns r is_op goes u.stopped u.leads in
        let target = w.target refl in
        let own : pattern_tree l.cover.node ≡ l.cover.node = simple_itself l.cover.node target in
        let same : node AssignmentExpression t.text plain l.start w.to.stop (part (pattern_tree l.cover.node) (part w.operand none)) ≡ node AssignmentExpression t.text plain l.start w.to.stop (part l.cover.node (part w.operand none)) =
        ap (λ v. node AssignmentExpression t.text plain l.start w.to.stop (part v (part w.operand none))) own in
        let leads = λ (c : Rank) (fits : IsTrue (takes w.h c)). node_there text {c = c} begins w.places fits w.spelled w.grows in
        let below = grows_height Token (SeenNext text) (behind_in text) (seen_determined text) (leads Assignment w.stands).grows in
        let level = ap height same in
        let listed = target_listed l.cover.shape.assigned (u.target target) in
        record {
          sides = part w.operand none;
          to = w.to;
          more = w.right;
          given = one_side (λ k. cc) w.side w.stopped;
          fits = and_from (takes LeftHandSide l.rank) (is_listed l.cover.shape.assigned) w.fits listed;
          of_language = λ own. others_of_language (parts_of_language (on_language text serves w.grows own));
          low = omega arith;
          next = λ q tree shape rank. on_further text serves high u
              (subst (λ v. Leads Token (SeenNext text) (behind_in text) (seen_determined text) o s p.rank p.has_in p.start k e P q.rank v w.to (Q ++ w.right)) (sym (tree ∙ same)) (leads q.rank (subst (λ v. IsTrue (takes w.h v)) (rank_same rank) w.stands)))
              (ap (λ (v : CoverShape). v.is_expression) shape) (λ h. absurd (false≢true (sym (ap (λ v. is_simple (kind_of v)) tree) ∙ h))) (λ h c. ap (λ (v : CoverShape). is_element v.assigned) shape ∙ listed_element l.cover.shape listed);
        }
    assign_on is_op false plainly =
        let w = two_on Token (SeenNext text) (behind_in text) (seen_determined text) two_assigns r is_op goes u.stopped u.leads in
        let target = w.target refl in
        let own : pattern_tree l.cover.node ≡ l.cover.node = simple_itself l.cover.node target in
        let same : node AssignmentExpression t.text plain l.start w.to.stop (part (pattern_tree l.cover.node) (part w.operand none)) ≡ node AssignmentExpression t.text plain l.start w.to.stop (part l.cover.node (part w.operand none)) =
        ap (λ v. node AssignmentExpression t.text plain l.start w.to.stop (part v (part w.operand none))) own in
        let leads = λ (c : Rank) (fits : IsTrue (takes w.h c)). node_there text {c = c} begins w.places fits w.spelled w.grows in
        let below = grows_height Token (SeenNext text) (behind_in text) (seen_determined text) (leads Assignment w.stands).grows in
        let level = ap height same in
        record {
          sides = part w.operand none;
          to = w.to;
          more = w.right;
          given = one_side (λ k. cc) w.side w.stopped;
          fits = and_from (takes LeftHandSide l.rank) (is_target l.cover.shape.assigned) w.fits (u.target target);
          of_language = λ own. others_of_language (parts_of_language (on_language text serves w.grows own));
          low = omega arith;
          next = λ q tree shape rank. on_further text serves high u
              (subst (λ v. Leads Token (SeenNext text) (behind_in text) (seen_determined text) o s p.rank p.has_in p.start k e P q.rank v w.to (Q ++ w.right)) (sym (tree ∙ same)) (leads q.rank (subst (λ v. IsTrue (takes w.h v)) (rank_same rank) w.stands)))
              (ap (λ (v : CoverShape). v.is_expression) shape) (λ h. absurd (false≢true (sym (ap (λ v. is_simple (kind_of v)) tree) ∙ h)))
              (λ h c. absurd (false≢true (sym (plainly refl) ∙ (bytes_eq-Decides t.text (codes "=")).1 (sym (ap text_of tree) ∙ c))));
        }

    pub ask_sides : operation t ≡ op_question → SidesOn code.Question t.text x (Some Conditional)
    ask_sides is_op =
        let w = ask_on Token (SeenNext text) (behind_in text) (seen_determined text) r is_op goes u.stopped u.leads in
        let is_no = not_conditional p.rank u.no_test in
        let ends = stops_inside Token (SeenNext text) (behind_in text) (seen_determined text) Conditional Assignment p.has_in w.alternate tails_conditional (λ c d. is_no c) w.stands (λ c. refl) refl u.stopped w.grows in
        let leads = λ (c : Rank) (fits : IsTrue (takes w.h c)). node_there text {c = c} begins w.places fits w.spelled w.grows in
        let below = grows_height Token (SeenNext text) (behind_in text) (seen_determined text) (leads Conditional w.stands).grows in
        record {
          sides = part w.consequent (part w.alternate none);
          to = w.to;
          more = w.first_pairs ++ w.more_pairs;
          given = two_sides w.one (read_here text w.divides) w.other ends;
          fits = and_from (takes ShortCircuit l.rank) l.cover.shape.is_expression w.fits u.value;
          of_language = λ own. others_of_language (parts_of_language (on_language text serves w.grows own));
          low = omega arith;
          next = λ q tree shape rank. on_further text serves high u
              (subst (λ v. Leads Token (SeenNext text) (behind_in text) (seen_determined text) o s p.rank p.has_in p.start k e P q.rank v w.to (Q ++ (w.first_pairs ++ w.more_pairs))) (sym tree) (leads q.rank (subst (λ v. IsTrue (takes w.h v)) (rank_same rank) w.stands)))
              (ap (λ (v : CoverShape). v.is_expression) shape) (λ h. absurd (false≢true (sym (ap (λ v. is_simple (kind_of v)) tree) ∙ h))) (λ h c. let clash : ConditionalExpression ≡ AssignmentExpression = sym (ap kind_of tree) ∙ h in cc);
        }

  module _ (begins : Begins text l.start s) {t x : Token} (r : ReadBy Token (SeenNext text) (behind_in text) Div m t x) where
    -- the sign behind a pattern is the token that is read
    same_sign : {b : Bool} {left : Tree} {y : Token} → IsLeft text p o s e P l m Q b left y → (t ≡ behind_in text y) × (x ≡ y)
    same_sign v = read_there Token (SeenNext text) (behind_in text) (seen_determined text) v.sign refl r

    pub pattern_on : a ≡ as_expression → AssignedAs text p o s e P l m Q n → SidesOn (code.Assign true) t.text x (Some Assignment)
    pattern_on reading u =
        let is = same_sign u.is_left in
        let text_is : t.text ≡ codes "=" = ap (λ (v : Token). v.text) is.0 ∙ u.is_left.sign.text in
        let tree_is : pattern_tree l.cover.node ≡ u.left = u.is_left.read.tree in
        let same : node AssignmentExpression t.text plain l.start u.to.stop (part (pattern_tree l.cover.node) (part u.right none)) ≡ node AssignmentExpression (codes "=") plain l.start u.to.stop (part u.left (part u.right none)) =
        (λ i. node AssignmentExpression (text_is i) plain l.start u.to.stop (part (tree_is i) (part u.right none))) in
        let leads = λ (c : Rank) (fits : IsTrue (takes u.h c)). node_there text {c = c} begins u.placed fits u.spelled u.grows in
        let below = grows_height Token (SeenNext text) (behind_in text) (seen_determined text) (leads Assignment u.stands).grows in
        let level = ap height same in
        record {
          sides = part u.right none;
          to = u.to;
          more = u.more;
          given = one_side (λ k. cc) (subst (λ v. SpellsIn text o (expr Assignment p.has_in Any) u.right v u.to u.more) (sym is.1) u.side) u.right_stops;
          fits = and_from (takes LeftHandSide l.rank) (is_listed l.cover.shape.assigned) u.is_left.rank u.is_left.listed;
          of_language = λ own. others_of_language (parts_of_language (grown_language u.grows own));
          low = omega arith;
          next = λ q tree shape rank. on_spine (as_it_is reading refl) refl (record {
            no_test = u.no_test;
            stopped = u.stopped;
            leads = subst (λ v. Leads Token (SeenNext text) (behind_in text) (seen_determined text) o s p.rank p.has_in p.start n e P q.rank v u.to (Q ++ u.more)) (sym (tree ∙ same)) (leads q.rank (subst (λ v. IsTrue (takes u.h v)) (rank_same rank) u.stands));
            value = ap (λ (v : CoverShape). v.is_expression) shape;
            target = λ h. absurd (false≢true (sym (ap (λ v. is_simple (kind_of v)) tree) ∙ h));
          });
        }

    pub default_on : {b : Bool} → a ≡ as_pattern b → DefaultAs text p o s e P l m Q b n → SidesOn (code.Assign true) t.text x (Some Assignment)
    default_on {b} reading u =
        let is = same_sign u.is_left in
        let tree_is : pattern_tree l.cover.node ≡ u.left = u.is_left.read.tree in
        let starts : u.st ≡ l.start = sym u.starts ∙ (seen_determined text).start s u.start begins.token u.behind_start begins.place u.next begins.next ∙ begins.start in
        let whole : node AssignmentPattern [] plain l.start e.stop (part (pattern_tree l.cover.node) (part u.right none)) ≡ n =
        (λ i. node AssignmentPattern [] plain (sym starts i) (u.stops i) (part (tree_is i) (part u.right none))) ∙ sym u.tree in
        let level = ap height whole in
        record {
          sides = part u.right none;
          to = e;
          more = u.more;
          given = one_side (λ k. cc) (subst (λ (v : ExpressionContext). SpellsIn text o (expr Assignment v.has_in Any) u.right x e u.more) (sym u.position) (subst (λ v. SpellsIn text o (expr Assignment true Any) u.right v e u.more) (sym is.1) u.side))
              (subst (λ (v : ExpressionContext). StopsIn text Assignment v.has_in u.right e) (sym u.position) (over_stopped text Assignment true u.right refl u.over));
          fits = and_from (takes LeftHandSide l.rank) (is_listed l.cover.shape.assigned) u.is_left.rank u.is_left.listed;
          of_language = λ own. others_of_language (parts_of_language (subst (OfLanguage text) u.tree own));
          low = omega arith;
          next = λ q tree shape rank. at_end reading (record {
            fits = fit b u.is_left q shape;
            tree = ap pattern_tree tree ∙ whole;
            target = λ h. absurd (false≢true (ap (λ v. is_simple (kind_of v)) (sym u.tree) ∙ h));
            pattern = λ c d h. absurd (false≢true (ap (λ v. is_pattern (kind_of v)) (sym u.tree) ∙ h));
          }) refl (sym u.pairs) (an_element u.position u.over);
        }
      where
        fit : (b : Bool) → IsLeft text p o s e P l m Q b u.left u.x → (q : Operand) → q.cover.shape ≡ defaulted l.cover.shape → fits_as q.cover.shape (as_pattern b) ≡ true
        fit false v q shape = ap (λ (v : CoverShape). is_element v.assigned) shape ∙ listed_element l.cover.shape v.listed
        fit true v q shape = ap is_bound shape ∙ and_from l.cover.shape.binds (is_element (defaulted l.cover.shape).assigned) (and_parts l.cover.shape.binds (is_element l.cover.shape.assigned) v.read.fits).0 (listed_element l.cover.shape v.listed)
