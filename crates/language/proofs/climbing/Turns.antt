-- Further forms of the turns of the loop: at `.` within the limits, at `=>` behind what is no arrow's parameters; and limits that nothing meets.
use Rattle.std.proofs.Common.{◌≡◌, ℕ, Bool, false, List, refl, ap, arith}
use Rattle.tokens.specs.declared.token.Goal.TheVariants.{Div}
use Rattle.tree.specs.declared.kind.Kind.{Kind}
use Rattle.language.specs.declared.Rank.{Rank}
use Rattle.language.specs.declared.Rank.TheVariants.{Conditional, New}
use Rattle.language.specs.declared.Start.{Start}
use Rattle.tree.specs.declared.kind.Flags.{Flags}
use Rattle.tree.specs.declared.kind.Pair.{Pair}
use Rattle.tree.specs.Tree.{Tree, Parts}
use Rattle.language.specs.Vocabulary.{precedence, Operator, op_arrow, operator_of}
use Rattle.language.specs.Pieces.{Role, PieceOf}
use Rattle.language.specs.Token.{Token}
use Rattle.language.specs.Edges.{edge}
use Rattle.language.specs.Continuations.{operation, stops}
use Rattle.language.specs.Promises.{IsDetermined, ReadBy, Absent, AbsentWithin}
use Rattle.language.proofs.table.OperatorFacts.{binding}
use Rattle.language.proofs.table.LeftRecursiveWays.{Led}
use Rattle.language.proofs.climbing.NoContinuation.{goes_where_not}
use Rattle.language.proofs.climbing.OperatorLoop.{Climbing, led_on}
use Rattle.language.proofs.climbing.BinaryTurns.{TwoSided, two_binds, two_powers, two_assigns}

-- nothing is led by what stands before `=>`
none_led : {y : Rank} {i : Bool} {f : Start} {k : Kind} {w : List ℕ} {g : Flags} {ps : Parts} {b : Role} {rest : List (PieceOf Role)} → Led y i f k w g ps b rest op_arrow → ⊥
none_led l = elim l [ ]

-- The turn at `?` wants a position other than Conditional. There two derivations of `a ? b : c = d` can't go on: `a ? b : c`, since an
-- assignment doesn't stand at Conditional, and the whole; so Conditional has forms of its own.
pub not_conditional : (y : Rank) → (y ≡ Conditional → ⊥) → precedence y ≡ 2 → ⊥
not_conditional Conditional other e = other refl
not_conditional _ other e = absurd (omega (arith, e))

-- the right side of an operator stands neither there nor behind `new`
pub right_position : {op : Operator} {K : Kind} {a z q : Rank} {b : Bool} → (w : List ℕ) → operator_of w ≡ op → TwoSided op K a z q b → (precedence q ≡ 2 → ⊥) × (q ≡ New → ⊥)
right_position w op (two_binds {z = z} {q = q}) =
    let v = binding w op in
    let low = v.least in
    let up = v.rises.0 in
    let most = v.most in
    ((λ e. omega arith), (λ e. (let at : precedence q ≡ precedence New = ap precedence e in omega arith)))
right_position w op two_powers = ((λ e. omega arith), (λ e. cc))
right_position w op two_assigns = ((λ e. omega arith), (λ e. cc))

module _ (S : Type 0) (Next : S → Token → S → Type 0) (behind : S → Token) where
  -- what is absent is so within any limits
  pub within : {o hi : ℕ} {y : Rank} {i : Bool} {f : Start} {s : S} → Absent S Next behind y i f s → AbsentWithin S Next behind o hi y i f s
  within {o} missed = record { nothing = λ e' n' P' d st le. missed.nothing o e' n' P' d st }

module _ (S : Type 0) (Next : S → Token → S → Type 0) (behind : S → Token) (det : IsDetermined S Next behind) where
  -- `=>` behind what is no arrow's parameters
  pub climb_arrows : {o : ℕ} {y : Rank} {i : Bool} {f : Start} {c : Rank} {s0 mid x : S} {m : Tree} {Q : List Pair} {t : Token} → ReadBy S Next behind Div mid t x → operation t ≡ op_arrow → stops y i (edge m) (behind mid) t ≡ false → Climbing S Next behind det o y i f c s0 m mid Q → Absent S Next behind y i f s0
  climb_arrows {y = y} {i = i} r is_op goes climb = record {
    nothing = λ o' e' n' P' d stopped. let v = climb.leads o' e' n' P' d stopped in
        none_led (led_on S Next behind det r is_op (λ q. cc) (goes_where_not S Next behind det y i r stopped goes) v.spelled v.grows).led;
  }
