-- What is shown by induction on the height of a tree: what a position spells at a place, and what can't go on, is the only thing there.
use Rattle.std.proofs.Common.{◌≡◌, ℕ, suc, ◌≤◌, ◌<◌, Bool, true, List}
use Rattle.std.specs.Prelude.{Some, codes, false}
use Rattle.tokens.specs.declared.token.Goal.TheVariants.{Div, RegExp}
use Rattle.tree.specs.declared.kind.Pair.{Pair}
use Rattle.tree.specs.Tree.{Tree, Parts, kind_of, height, parts_height}
use Rattle.language.specs.declared.Rank.{Rank}
use Rattle.language.specs.declared.Rank.TheVariants.{Expression, Conditional, New}
use Rattle.language.specs.declared.Start.{Start}
use Rattle.language.specs.declared.Start.TheVariants.{Any}
use Rattle.language.specs.Vocabulary.{Operator}
use Rattle.language.specs.Pieces.{Role, expr, tagged_quasi, pattern, method, body, block, handler, class_body, member, declarator, PieceOf}
use Rattle.language.specs.Token.{Token}
use Rattle.language.specs.ExpressionStart.{ExpressionStart, with_new, expression_start}
use Rattle.language.specs.StatementStart.{StatementStart, statement_start}
use Rattle.language.specs.Edges.{edge}
use Rattle.language.specs.Continuations.{operation, stops}
use Rattle.language.specs.Promises.{IsDetermined, ReadBy, Stops, Found, FoundAt, FoundParts, Callee, FoundCallee}
use Rattle.language.specs.Following.{Finished, Declared, FoundWhere}
use Rattle.language.specs.Covers.{Reading, element_as, property_as, FoundItem}
use Rattle.language.specs.Grammar.{ways}
use Rattle.language.specs.Derivation.{Spells, Runs}
use Rattle.language.proofs.climbing.OperatorLoop.{Climbing}
use Rattle.language.proofs.climbing.FirstTurn.{Begun}
use Rattle.language.proofs.climbing.Callees.{ClimbingCallee}
use Rattle.language.proofs.list_loops.CommaLists.{Separated}
use Rattle.language.proofs.covers.CoverEnds.{Closing}
use Rattle.language.proofs.table.StatementWays.{Stands}
use Rattle.unambiguity_laws.proofs.list_items.MemberEnds.{MemberEnds}

-- positions that end with a token of their own, or whose ways alone say where they end
abbrev pub is_closed : Role → Bool
is_closed tagged_quasi = true
is_closed (pattern b f) = true
is_closed (method x) = true
is_closed body = true
is_closed (block r) = true
is_closed (handler r) = true
is_closed class_body = true
is_closed _ = false

module _ (S : Type 0) (Next : S → Token → S → Type 0) (behind : S → Token) (det : IsDetermined S Next behind) where
  -- Expressions with trees of at most this height, at each symbol but Conditional, at which no part stands, and New; and what stands behind `new`.
  pub record Expressions (h : ℕ) : Type 0 where
    pub found : {o : ℕ} {y : Rank} {i : Bool} {f : Start} {n : Tree} {s e : S} {P : List Pair} → height n ≤ h → (y ≡ Conditional → ⊥) → (y ≡ New → ⊥) → Spells ways S Next behind o (expr y i f) n s e P → Stops S Next behind y i n e → Found S Next behind o y i f s e n P
    pub callee : {o : ℕ} {n : Tree} {s e : S} {P : List Pair} → height n ≤ h → Callee S Next behind o n s e P → Stops S Next behind New true n e → FoundCallee S Next behind o s e n P

  -- Each position spells one node only. An element or a property, by each of its readings, where a comma or the closing sign
  -- follows, is the only one by this reading, and by each other reading there is none that ends elsewhere.
  pub record Unique (h : ℕ) : Type 0 where
    pub expressions : Expressions h
    pub closed : {a : Role} {o : ℕ} {n : Tree} {s e : S} {P : List Pair} → is_closed a ≡ true → height n ≤ h → Spells ways S Next behind o a n s e P → FoundAt S Next behind o a s e n P
    pub member : {o : ℕ} {n : Tree} {s e : S} {P : List Pair} → height n ≤ h → Spells ways S Next behind o member n s e P → MemberEnds S Next behind det e → FoundWhere S Next behind (λ n e. MemberEnds S Next behind det e) o member s e n P
    pub statement : {a : Role} {p d r : Bool} {o : ℕ} {n : Tree} {s e : S} {P : List Pair} → Stands a p d r → height n ≤ h → Spells ways S Next behind o a n s e P → Finished S Next behind n e → FoundWhere S Next behind (Finished S Next behind) o a s e n P
    pub declarator : {i b : Bool} {o : ℕ} {n : Tree} {s e : S} {P : List Pair} → height n ≤ h → Spells ways S Next behind o (declarator i b) n s e P → Declared S Next behind i n e → FoundWhere S Next behind (Declared S Next behind i) o (declarator i b) s e n P
    pub element : (x : Reading) {w : List ℕ} {a : Role} {o : ℕ} {n : Tree} {s e : S} {P : List Pair} → Closing w → height n ≤ h → element_as x (kind_of n) ≡ Some a → Spells ways S Next behind o a n s e P → Separated S Next behind det w e → FoundItem S Next behind (Separated S Next behind det w) (element_as x) o s e n P
    pub element_ends : (x z : Reading) {w : List ℕ} {a b : Role} {o o' : ℕ} {n m : Tree} {s e k : S} {P Q : List Pair} → Closing w → height n ≤ h → element_as x (kind_of n) ≡ Some a → Spells ways S Next behind o a n s e P → Separated S Next behind det w e →
        element_as z (kind_of m) ≡ Some b → Spells ways S Next behind o' b m s k Q → Separated S Next behind det w k → k ≡ e
    pub property : (x : Reading) {a : Role} {o : ℕ} {n : Tree} {s e : S} {P : List Pair} → height n ≤ h → property_as x (kind_of n) ≡ Some a → Spells ways S Next behind o a n s e P → Separated S Next behind det (codes "}") e → FoundItem S Next behind (Separated S Next behind det (codes "}")) (property_as x) o s e n P
    pub property_ends : (x z : Reading) {a b : Role} {o o' : ℕ} {n m : Tree} {s e k : S} {P Q : List Pair} → height n ≤ h → property_as x (kind_of n) ≡ Some a → Spells ways S Next behind o a n s e P → Separated S Next behind det (codes "}") e →
        property_as z (kind_of m) ≡ Some b → Spells ways S Next behind o' b m s k Q → Separated S Next behind det (codes "}") k → k ≡ e

  -- parts over which these pieces run, of at most this height, are the only ones
  pub record UniqueParts (h : ℕ) (pieces : Parts → List (PieceOf Role)) : Type 0 where
    pub gives : {o : ℕ} {s e : S} {ps : Parts} {P : List Pair} → parts_height ps ≤ h → Runs ways S Next behind o (pieces ps) ps s e P → FoundParts S Next behind o pieces s e ps P

  -- what stands in a pair of parentheses that groups: a tree as high, with fewer parentheses left
  pub record Inner (o h : ℕ) : Type 0 where
    pub gives : {less : ℕ} {n : Tree} {s e : S} {P : List Pair} → o ≡ suc less → height n ≤ h → Spells ways S Next behind less (expr Expression true Any) n s e P → Stops S Next behind Expression true n e → Found S Next behind less Expression true Any s e n P

  -- the loop has read this much, with some symbol; the same behind `new`
  pub record Climbed (o : ℕ) (y : Rank) (i : Bool) (f : Start) (s0 : S) (m : Tree) (mid : S) (Q : List Pair) : Type 0 where
    pub symbol : Rank
    pub climbing : Climbing S Next behind det o y i f symbol s0 m mid Q

  pub record ClimbedCallee (o : ℕ) (s0 : S) (m : Tree) (mid : S) (Q : List Pair) : Type 0 where
    pub symbol : Rank
    pub climbing : ClimbingCallee S Next behind det o symbol s0 m mid Q

  -- one turn more: what was read has grown
  pub record Turned (o : ℕ) (y : Rank) (i : Bool) (f : Start) (s0 : S) (m : Tree) : Type 0 where
    pub tree : Tree
    pub place : S
    pub pairs : List Pair
    pub taller : height m < height tree
    pub climbed : Climbed o y i f s0 tree place pairs

  pub record TurnedCallee (o : ℕ) (s0 : S) (m : Tree) : Type 0 where
    pub tree : Tree
    pub place : S
    pub pairs : List Pair
    pub taller : height m < height tree
    pub climbed : ClimbedCallee o s0 tree place pairs

  -- What a turn of the loop with this operator needs and gives: the whole, which can't go on and is no higher, what was read of it, and the token.
  pub record Turn (h : ℕ) (z : Operator) : Type 0 where
    pub gives : {o : ℕ} {y : Rank} {i : Bool} {f : Start} {n : Tree} {s0 e : S} {P : List Pair} {c : Rank} {m : Tree} {mid x : S} {Q : List Pair} {t : Token} → (y ≡ Conditional → ⊥) → (y ≡ New → ⊥) → height n ≤ suc h → Spells ways S Next behind o (expr y i f) n s0 e P →
        Stops S Next behind y i n e → Climbing S Next behind det o y i f c s0 m mid Q → ReadBy S Next behind Div mid t x → operation t ≡ z → stops y i (edge m) (behind mid) t ≡ false → Turned o y i f s0 m

  pub record TurnCallee (h : ℕ) (z : Operator) : Type 0 where
    pub gives : {o : ℕ} {n : Tree} {s0 e : S} {P : List Pair} {c : Rank} {m : Tree} {mid x : S} {Q : List Pair} {t : Token} → height n ≤ suc h → Callee S Next behind o n s0 e P → Stops S Next behind New true n e → ClimbingCallee S Next behind det o c s0 m mid Q →
        ReadBy S Next behind Div mid t x → operation t ≡ z → stops New true (edge m) (behind mid) t ≡ false → TurnedCallee o s0 m

  -- What the loop begins with, by the first token: the leftmost part of a whole that can't go on and is no higher. The same of `new` behind another.
  pub record CoreStep (h : ℕ) (z : ExpressionStart) : Type 0 where
    pub gives : {o : ℕ} {y : Rank} {i : Bool} {f : Start} {n : Tree} {s0 e : S} {P : List Pair} {q : Rank} {j : Bool} {m : Tree} {mid m0 : S} {Q : List Pair} {t : Token} → (z ≡ with_new → y ≡ New → ⊥) → Inner o (suc h) → height n ≤ suc h →
        Begun S Next behind det o s0 y i f n e P q j m mid Q → ReadBy S Next behind RegExp s0 t m0 → expression_start t ≡ z → Climbed o y i f s0 m mid Q

  -- what is read behind `new` begins here
  pub record BegunCallee (o : ℕ) (s0 : S) : Type 0 where
    pub tree : Tree
    pub place : S
    pub pairs : List Pair
    pub climbed : ClimbedCallee o s0 tree place pairs

  pub record NewCallee (h : ℕ) : Type 0 where
    pub gives : {o : ℕ} {n : Tree} {s0 e m0 : S} {P : List Pair} {t : Token} → height n ≤ suc h → Callee S Next behind o n s0 e P → Stops S Next behind New true n e → ReadBy S Next behind RegExp s0 t m0 → expression_start t ≡ with_new → BegunCallee o s0

  -- a statement or declaration by its first token
  pub record StatementStep (h : ℕ) (b : StatementStart) : Type 0 where
    pub gives : {a : Role} {p d r : Bool} {o : ℕ} {n : Tree} {s m e : S} {P : List Pair} {t : Token} → Stands a p d r → height n ≤ suc h → Spells ways S Next behind o a n s e P → Finished S Next behind n e → ReadBy S Next behind RegExp s t m →
        statement_start d r t ≡ b → FoundWhere S Next behind (Finished S Next behind) o a s e n P
