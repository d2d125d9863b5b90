-- Nodes with operators are of the text's language where their sides are.
use Rattle.std.proofs.Common.{◌≡◌, ℕ, Bool, true, false, cond, List, refl, sym, subst}
use Rattle.std.specs.Prelude.{Some}
use Rattle.std.proofs.lemmas.Bool.{false≢true}
use Rattle.tree.specs.declared.kind.Kind.{Kind}
use Rattle.tree.specs.declared.kind.Kind.TheVariants.{BinaryExpression, LogicalExpression, AssignmentExpression, ConditionalExpression}
use Rattle.tree.specs.Tree.{node, plain, Parts}
use Rattle.language.specs.Later.{is_later}
use Rattle.language.specs.Vocabulary.{is, Operator, op_binary, op_power, op_assign, op_update, op_comma, op_question, op_dot, op_call, op_index, op_optional, op_arrow, op_template, op_none}
use Rattle.grammar.specs.Infix.{coded_operator}
use Rattle.grammar.specs.declared.infix.InfixOperator.{InfixOperator as Coded}
use Rattle.grammar.specs.declared.infix.InfixOperator.TheVariants as code
use Rattle.parser_tables.specs.declared.operand.Operand.{Operand}
use Rattle.token_cursor.specs.SourceText.{SourceText}
use Rattle.recursive_descent.specs.declared.expressions.LeftOperand.{LeftOperand}
use Rattle.recursive_descent.specs.LeftOperands.{left_of}
use Rattle.recursive_descent.specs.Spelled.{OfLanguage, AllOfLanguage}
use Rattle.recursive_descent.proofs.reading.LanguageTrees.{of_node, pattern_of_language}

coded_same : {a b : Coded} → Some a ≡ Some b → a ≡ b
coded_same h = cc

-- the kinds of nodes with an operator between sides
abbrev is_sided : Kind → Bool
is_sided BinaryExpression = true
is_sided LogicalExpression = true
is_sided AssignmentExpression = true
is_sided ConditionalExpression = true
is_sided _ = false

sided_base : (k : Kind) (w : List ℕ) (st en : ℕ) (ps : Parts) → is_sided k ≡ true → is_later (node k w plain st en ps) ≡ false
sided_base BinaryExpression w st en ps h = refl
sided_base LogicalExpression w st en ps h = refl
sided_base AssignmentExpression w st en ps h = refl
sided_base ConditionalExpression w st en ps h = refl
sided_base _ w st en ps h = absurd (false≢true h)

either : (b : Bool) → is_sided (cond b LogicalExpression BinaryExpression) ≡ true
either true = refl
either false = refl

assigned : (b : Bool) (l : Operand) → is_sided (left_of (code.Assign b) l).kind ≡ true
assigned true l = refl
assigned false l = refl

coded_sided : (z : Operator) (w : List ℕ) {c : Coded} (l : Operand) → coded_operator z w ≡ Some c → is_sided (left_of c l).kind ≡ true
coded_sided (op_binary b y q) w l h = subst (λ c. is_sided (left_of c l).kind ≡ true) (coded_same h) (either b)
coded_sided op_power w l h = subst (λ c. is_sided (left_of c l).kind ≡ true) (coded_same h) refl
coded_sided op_assign w l h = subst (λ c. is_sided (left_of c l).kind ≡ true) (coded_same h) (assigned (is w "=") l)
coded_sided op_update w l h = subst (λ c. is_sided (left_of c l).kind ≡ true) (coded_same h) refl
coded_sided op_comma w l h = subst (λ c. is_sided (left_of c l).kind ≡ true) (coded_same h) refl
coded_sided op_question w l h = subst (λ c. is_sided (left_of c l).kind ≡ true) (coded_same h) refl
coded_sided op_dot w l h = subst (λ c. is_sided (left_of c l).kind ≡ true) (coded_same h) refl
coded_sided op_call w l h = subst (λ c. is_sided (left_of c l).kind ≡ true) (coded_same h) refl
coded_sided op_index w l h = subst (λ c. is_sided (left_of c l).kind ≡ true) (coded_same h) refl
coded_sided op_optional w l h = subst (λ c. is_sided (left_of c l).kind ≡ true) (coded_same h) refl
coded_sided op_arrow w l h = subst (λ c. is_sided (left_of c l).kind ≡ true) (coded_same h) refl
coded_sided op_template w l h = subst (λ c. is_sided (left_of c l).kind ≡ true) (coded_same h) refl
coded_sided op_none w l h = cc

-- the left side
pub left_language : {text : SourceText} (c : Coded) (l : Operand) {left : LeftOperand} → left ≡ left_of c l → OfLanguage text l.cover.node → OfLanguage text left.node
left_language {text} c l is own = subst (λ (x : LeftOperand). OfLanguage text x.node) (sym is) (of c)
  where
    of : (c : Coded) → OfLanguage text (left_of c l).node
    of (code.Assign true) = pattern_of_language l.cover.node own
    of (code.Assign false) = pattern_of_language l.cover.node own
    of (code.Binary x) = own
    of c = own

-- the node
pub sided_language : {text : SourceText} (z : Operator) (w : List ℕ) {c : Coded} (l : Operand) {left : LeftOperand} {v : List ℕ} {st en : ℕ} {ps : Parts} → coded_operator z w ≡ Some c → left ≡ left_of c l → AllOfLanguage text ps → OfLanguage text (node left.kind v plain st en ps)
sided_language {text} z w {c} l {v = v} {st = st} {en = en} {ps = ps} coded is own =
    of_node (λ b. subst (λ (x : LeftOperand). is_later (node x.kind v plain st en ps) ≡ false) (sym is) (sided_base (left_of c l).kind v st en ps (coded_sided z w l coded))) own
