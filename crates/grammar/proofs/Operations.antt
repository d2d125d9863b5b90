-- What the code's operators make, as what those of the definition make.
use Rattle.std.proofs.Common.{◌≡◌, ℕ, Bool, true, false, List, [], ◌∷◌, refl, sym, ap, ◌∙◌}
use Rattle.std.specs.Prelude.{cond, Option, Some, None}
use Rattle.std.proofs.lemmas.Bool.{false≢true}
use Prim.Native.String.{String}
use Rattle.language.specs.declared.Rank.TheVariants.{Update}
use Rattle.language.specs.Vocabulary.{among, Operator, op_binary, op_power, op_assign, op_update, op_comma, op_question, op_dot, op_call, op_index, op_optional, op_arrow, op_template, op_none, is_assign_op, is_assignment, operators, operator_among, operator_of}
use Rattle.grammar.specs.declared.operators.Operation.{Operation}
use Rattle.grammar.specs.declared.operators.Operation.TheVariants.{Other}
use Rattle.grammar.specs.declared.infix.InfixOperator.{InfixOperator as Coded}
use Rattle.grammar.specs.Ranks.{binary_symbol, logical_symbol}
use Rattle.grammar.specs.Infix.{coded_operator, meant}
use Rattle.grammar.specs.Operations.{operation, operation_at, operation_by, rank_of_binary, rank_of_logical}

-- no row has a left side at the symbol of an update
abbrev holds_update : Operator → Bool
holds_update (op_binary l Update q) = true
holds_update _ = false

abbrev no_update : List (List String × Operator) → Bool
no_update [] = true
no_update (row ∷ rows) = cond (holds_update row.1) false (no_update rows)

update_chosen : (b c : Bool) (o p : Operator) (r : Bool) → holds_update o ≡ c → cond c false r ≡ true → (r ≡ true → holds_update p ≡ false) → holds_update (cond b o p) ≡ false
update_chosen b true o p r e h f = absurd (false≢true h)
update_chosen true false o p r e h f = e
update_chosen false false o p r e h f = f h

never_update : (w : List ℕ) (rows : List (List String × Operator)) → no_update rows ≡ true → holds_update (operator_among w rows) ≡ false
never_update w [] h = refl
never_update w (row ∷ rows) h = update_chosen (among w row.0) (holds_update row.1) row.1 (operator_among w rows) (no_update rows) refl h (never_update w rows)

-- what the code makes of what it has for an operator
operation_if : Option Coded → Operation
operation_if None = Other
operation_if (Some x) = operation_by x

read_back : (o : Operator) (w : List ℕ) → holds_update o ≡ false → operation_if (coded_operator o w) ≡ operation o
unfolding operation_if
read_back (op_binary true Update q) w h = absurd (false≢true (sym h))
read_back (op_binary true _ q) w h = refl
read_back (op_binary false Update q) w h = absurd (false≢true (sym h))
read_back (op_binary false _ q) w h = refl
read_back op_power w h = refl
read_back op_assign w h = refl
read_back op_update w h = refl
read_back op_comma w h = refl
read_back op_question w h = refl
read_back op_dot w h = refl
read_back op_call w h = refl
read_back op_index w h = refl
read_back op_optional w h = refl
read_back op_arrow w h = refl
read_back op_template w h = refl
read_back op_none w h = refl

pub made_of : (w : List ℕ) (x : Coded) → Some x ≡ coded_operator (operator_of w) w → operation_by x ≡ operation_at w
unfolding operation_if operation_at
made_of w x h = ap operation_if h ∙ read_back (operator_of w) w (never_update w operators refl)

pub made_of_none : (w : List ℕ) → None ≡ coded_operator (operator_of w) w → Other ≡ operation_at w
unfolding operation_if operation_at
made_of_none w h = ap operation_if h ∙ read_back (operator_of w) w (never_update w operators refl)

-- the code has an assignment for an assignment alone
assigns_if : Option Coded → Bool
assigns_if None = false
assigns_if (Some x) = is_assign_op (meant x)

assigns_same : (x : Operator) (w : List ℕ) → assigns_if (coded_operator x w) ≡ is_assign_op x
unfolding assigns_if
assigns_same (op_binary true z q) w = refl
assigns_same (op_binary false z q) w = refl
assigns_same op_power w = refl
assigns_same op_assign w = refl
assigns_same op_update w = refl
assigns_same op_comma w = refl
assigns_same op_question w = refl
assigns_same op_dot w = refl
assigns_same op_call w = refl
assigns_same op_index w = refl
assigns_same op_optional w = refl
assigns_same op_arrow w = refl
assigns_same op_template w = refl
assigns_same op_none w = refl

pub assigned : (w : List ℕ) (x : Coded) → Some x ≡ coded_operator (operator_of w) w → is_assign_op (meant x) ≡ is_assignment w
unfolding assigns_if
assigned w x h = ap assigns_if h ∙ assigns_same (operator_of w) w

pub unassigned : (w : List ℕ) → None ≡ coded_operator (operator_of w) w → false ≡ is_assignment w
unfolding assigns_if
unassigned w h = ap assigns_if h ∙ assigns_same (operator_of w) w

-- the symbol of a text's node is that of what it makes
pub plain_same : (w : List ℕ) → rank_of_binary (operation_at w) ≡ binary_symbol (operator_of w)
unfolding operation_at
plain_same w = of (operator_of w)
  where
    of : (o : Operator) → rank_of_binary (operation o) ≡ binary_symbol o
    of (op_binary false z q) = refl
    of (op_binary true z q) = refl
    of op_power = refl
    of _ = refl

pub joined_same : (w : List ℕ) → rank_of_logical (operation_at w) ≡ logical_symbol (operator_of w)
unfolding operation_at
joined_same w = of (operator_of w)
  where
    of : (o : Operator) → rank_of_logical (operation o) ≡ logical_symbol o
    of (op_binary true z q) = refl
    of (op_binary false z q) = refl
    of _ = refl
