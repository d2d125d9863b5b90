-- What becomes of what was read: a value, or how it is refused.
use Rattle.std.specs.Prelude.{◌≡◌, ℕ, ◌≤◌, ◌<◌, Bool, true, false, Result, Ok, Err}
use Rattle.source_text.specs.declared.fault.Fault.{Fault}
use Rattle.source_text.specs.declared.fault.Fault.TheVariants.{Syntax, TooDeep, OutOfMemory}
use Rattle.tokens.specs.declared.token.Goal.TheVariants.{RegExp}
use Rattle.language.specs.Token.{Token}
use Rattle.language.specs.Promises.{ReadBy}
use Rattle.language.specs.Claims.{max_open}
use Rattle.token_cursor.specs.CursorState.{CursorState, IsSyntaxHere}
use Rattle.token_cursor.specs.SourceText.{SeenNext, behind_in}

-- where what the goal for operands reads begins
abbrev pub BeginsBy : CursorState → ℕ → Type 0
BeginsBy p at = (t m : Token) → ReadBy Token (SeenNext p.text) (behind_in p.text) RegExp p.last t m → at ≡ t.start

-- What doesn't fit is a syntax error at such a place; what fits, but is higher than allowed, is too deep; and memory may be refused.
abbrev pub RefusedWhere : (ℕ → Type 0) → Bool → ℕ → ℕ → Fault → Type 0
RefusedWhere At fits levels high (Syntax at) = At at × (fits ≡ false)
RefusedWhere At fits levels high TooDeep = (fits ≡ true) × (high < levels)
RefusedWhere At fits levels high OutOfMemory = Unit {0}
RefusedWhere At fits levels high _ = ⊥

-- this where it fits and is no higher than allowed, else it is refused so
abbrev pub YieldsWhere : {X : Type 0} → X → (ℕ → Type 0) → Bool → ℕ → ℕ → Result X Fault → Type 0
YieldsWhere x At fits levels high (Ok made) = (made ≡ x) × (fits ≡ true) × (levels ≤ high)
YieldsWhere x At fits levels high (Err fault) = RefusedWhere At fits levels high fault

-- what is higher than allowed is too deep; and memory may be refused
abbrev pub RefusedAbove : ℕ → ℕ → Fault → Type 0
RefusedAbove levels high TooDeep = high < levels
RefusedAbove levels high OutOfMemory = Unit {0}
RefusedAbove levels high _ = ⊥

-- this where it is no higher than allowed, else it is refused so
abbrev pub Yields : {X : Type 0} → X → ℕ → ℕ → Result X Fault → Type 0
Yields x levels high (Ok made) = (made ≡ x) × (levels ≤ high)
Yields x levels high (Err fault) = RefusedAbove levels high fault

-- what doesn't fit is a syntax error at such a place; and memory may be refused
abbrev pub RefusedUnless : (ℕ → Type 0) → Bool → Fault → Type 0
RefusedUnless At fits (Syntax at) = At at × (fits ≡ false)
RefusedUnless At fits OutOfMemory = Unit {0}
RefusedUnless At fits _ = ⊥

-- this where it fits, else a syntax error at what stands ahead
abbrev pub BecomesHere : {X : Type 0} → X → Bool → CursorState → Result X Fault → Type 0
BecomesHere x fits p (Ok made) = (made ≡ x) × (fits ≡ true)
BecomesHere x fits p (Err fault) = IsSyntaxHere p fault × (fits ≡ false)

-- this where it is no higher than allowed, else it is too deep
abbrev pub MakesAs : {X : Type 0} → X → ℕ → ℕ → Result X Fault → Type 0
MakesAs x levels high (Ok made) = (made ≡ x) × (levels ≤ high)
MakesAs x levels high (Err fault) = (fault ≡ TooDeep) × (high < levels)

-- too deep where as many parentheses are open as may be; and memory may be refused
abbrev pub RefusedUnder : ℕ → Fault → Type 0
RefusedUnder opened TooDeep = opened ≡ max_open
RefusedUnder opened OutOfMemory = Unit {0}
RefusedUnder opened _ = ⊥
