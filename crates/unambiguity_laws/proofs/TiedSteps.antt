-- The steps for each position tied together: by induction on the height of a tree, what each position spells at a place is the only thing there; so a text derives at most one script.
use Rattle.std.proofs.Common.{◌≡◌, ℕ, zero, suc, ◌≤◌, Bool, true, List, arith}
use Rattle.std.specs.Prelude.{Some, codes}
use Rattle.std.proofs.lemmas.Bool.{false≢true}
use Rattle.tree.specs.declared.kind.Form.{Form}
use Rattle.tree.specs.declared.kind.Pair.{Pair}
use Rattle.tree.specs.Tree.{Tree, node, height, kind_of, text_of}
use Rattle.language.specs.declared.Start.{Start}
use Rattle.language.specs.Vocabulary.{op_optional}
use Rattle.language.specs.Pieces.{Role, tagged_quasi, pattern, method, body, block, handler, class_body, member, declarator, script}
use Rattle.language.specs.Token.{Token}
use Rattle.language.specs.ExpressionStart.{ExpressionStart}
use Rattle.language.specs.Promises.{IsDetermined, FoundAt}
use Rattle.language.specs.Following.{IsAlike, Finished, Declared, FoundWhere}
use Rattle.language.specs.Covers.{Reading, element_as, property_as, FoundItem}
use Rattle.language.specs.Grammar.{ways}
use Rattle.language.specs.Derivation.{Spells}
use Rattle.language.proofs.list_loops.CommaLists.{Separated}
use Rattle.language.proofs.covers.CoverEnds.{Closing}
use Rattle.language.proofs.table.StatementWays.{Stands}
use Rattle.language.proofs.climbing.Suffixes.{argument_pieces}
use Rattle.unambiguity_laws.proofs.Unique.{is_closed, Expressions, Unique, UniqueParts, Turn, CoreStep, NewCallee}
use Rattle.unambiguity_laws.proofs.list_items.MemberEnds.{MemberEnds}
use Rattle.unambiguity_laws.proofs.turns.OperatorLoop.{expressions_step}

-- a tree has a node
some_height : (n : Tree) → 1 ≤ height n
some_height (node k w g st en ps) = omega arith

module _ (S : Type 0) (Next : S → Token → S → Type 0) (behind : S → Token) (det : IsDetermined S Next behind) where
  -- What expressions of the next height need: what they begin with, by their first token, chains and arguments.
  pub record ExpressionSteps (h : ℕ) : Type 0 where
    pub arguments : UniqueParts S Next behind det h argument_pieces
    pub chain_turn : Turn S Next behind det h op_optional
    pub core : (z : ExpressionStart) → CoreStep S Next behind det h z
    pub new_callee : NewCallee S Next behind det h

  -- The other positions of the next height.
  pub record OtherSteps (h : ℕ) : Type 0 where
    pub quasi_closed : {o : ℕ} {n : Tree} {s e : S} {P : List Pair} → height n ≤ suc h → Spells ways S Next behind o tagged_quasi n s e P → FoundAt S Next behind o tagged_quasi s e n P
    pub pattern_closed : {b : Bool} {f : Start} {o : ℕ} {n : Tree} {s e : S} {P : List Pair} → height n ≤ suc h → Spells ways S Next behind o (pattern b f) n s e P → FoundAt S Next behind o (pattern b f) s e n P
    pub method_closed : {x : Form} {o : ℕ} {n : Tree} {s e : S} {P : List Pair} → height n ≤ suc h → Spells ways S Next behind o (method x) n s e P → FoundAt S Next behind o (method x) s e n P
    pub body_closed : {o : ℕ} {n : Tree} {s e : S} {P : List Pair} → height n ≤ suc h → Spells ways S Next behind o body n s e P → FoundAt S Next behind o body s e n P
    pub block_closed : {r : Bool} {o : ℕ} {n : Tree} {s e : S} {P : List Pair} → height n ≤ suc h → Spells ways S Next behind o (block r) n s e P → FoundAt S Next behind o (block r) s e n P
    pub handler_closed : {r : Bool} {o : ℕ} {n : Tree} {s e : S} {P : List Pair} → height n ≤ suc h → Spells ways S Next behind o (handler r) n s e P → FoundAt S Next behind o (handler r) s e n P
    pub class_body_closed : {o : ℕ} {n : Tree} {s e : S} {P : List Pair} → height n ≤ suc h → Spells ways S Next behind o class_body n s e P → FoundAt S Next behind o class_body s e n P
    pub member : {o : ℕ} {n : Tree} {s e : S} {P : List Pair} → height n ≤ suc h → Spells ways S Next behind o member n s e P → MemberEnds S Next behind det e → FoundWhere S Next behind (λ n e. MemberEnds S Next behind det e) o member s e n P
    pub statement : {a : Role} {p d r : Bool} {o : ℕ} {n : Tree} {s e : S} {P : List Pair} → Stands a p d r → height n ≤ suc h → Spells ways S Next behind o a n s e P → Finished S Next behind n e → FoundWhere S Next behind (Finished S Next behind) o a s e n P
    pub declarator : {i b : Bool} {o : ℕ} {n : Tree} {s e : S} {P : List Pair} → height n ≤ suc h → Spells ways S Next behind o (declarator i b) n s e P → Declared S Next behind i n e → FoundWhere S Next behind (Declared S Next behind i) o (declarator i b) s e n P
    pub element : (x : Reading) {w : List ℕ} {a : Role} {o : ℕ} {n : Tree} {s e : S} {P : List Pair} → Closing w → height n ≤ suc h → element_as x (kind_of n) ≡ Some a → Spells ways S Next behind o a n s e P → Separated S Next behind det w e → FoundItem S Next behind (Separated S Next behind det w) (element_as x) o s e n P
    pub element_ends : (x z : Reading) {w : List ℕ} {a b : Role} {o o' : ℕ} {n m : Tree} {s e k : S} {P Q : List Pair} → Closing w → height n ≤ suc h → element_as x (kind_of n) ≡ Some a → Spells ways S Next behind o a n s e P → Separated S Next behind det w e →
        element_as z (kind_of m) ≡ Some b → Spells ways S Next behind o' b m s k Q → Separated S Next behind det w k → k ≡ e
    pub property : (x : Reading) {a : Role} {o : ℕ} {n : Tree} {s e : S} {P : List Pair} → height n ≤ suc h → property_as x (kind_of n) ≡ Some a → Spells ways S Next behind o a n s e P → Separated S Next behind det (codes "}") e → FoundItem S Next behind (Separated S Next behind det (codes "}")) (property_as x) o s e n P
    pub property_ends : (x z : Reading) {a b : Role} {o o' : ℕ} {n m : Tree} {s e k : S} {P Q : List Pair} → height n ≤ suc h → property_as x (kind_of n) ≡ Some a → Spells ways S Next behind o a n s e P → Separated S Next behind det (codes "}") e →
        property_as z (kind_of m) ≡ Some b → Spells ways S Next behind o' b m s k Q → Separated S Next behind det (codes "}") k → k ≡ e

  -- each of the positions that end with a token of their own
  any_closed : {h : ℕ} {a : Role} {o : ℕ} {n : Tree} {s e : S} {P : List Pair} → OtherSteps h → is_closed a ≡ true → height n ≤ suc h → Spells ways S Next behind o a n s e P → FoundAt S Next behind o a s e n P
  any_closed {a = tagged_quasi} c is low d = c.quasi_closed low d
  any_closed {a = pattern b f} c is low d = c.pattern_closed low d
  any_closed {a = method x} c is low d = c.method_closed low d
  any_closed {a = body} c is low d = c.body_closed low d
  any_closed {a = block r} c is low d = c.block_closed low d
  any_closed {a = handler r} c is low d = c.handler_closed low d
  any_closed {a = class_body} c is low d = c.class_body_closed low d
  any_closed c is low d = absurd (false≢true is)

  -- All positions of the next height.
  together : {h : ℕ} → Expressions S Next behind det (suc h) → OtherSteps h → Unique S Next behind det (suc h)
  together x c = record {
    expressions = x;
    closed = λ {a} {o} {n} {s} {e} {P} is low d. any_closed c is low d;
    member = λ {o} {n} {s} {e} {P} low d ends. c.member low d ends;
    statement = λ {a} {p} {d} {r} {o} {n} {s} {e} {P} st low d1 fine. c.statement st low d1 fine;
    declarator = λ {i} {b} {o} {n} {s} {e} {P} low d fine. c.declarator low d fine;
    element = λ x {w} {a} {o} {n} {s} {e} {P} w1 low is d ends. c.element x w1 low is d ends;
    element_ends = λ x z {w} {a} {b} {o} {o'} {n} {m} {s} {e} {k} {P} {Q} w1 low is d ends it l other. c.element_ends x z w1 low is d ends it l other;
    property = λ x {a} {o} {n} {s} {e} {P} low is d ends. c.property x low is d ends;
    property_ends = λ x z {a} {b} {o} {o'} {n} {m} {s} {e} {k} {P} {Q} low is d ends it l other. c.property_ends x z low is d ends it l other;
  }

  no_tree : {A : Type 0} (n : Tree) → height n ≤ 0 → A
  no_tree n low = let some = some_height n in absurd (omega arith)

  -- no tree has the height 0
  none_so_low : Unique S Next behind det 0
  none_so_low = record {
    expressions = record { found = λ {o} {y} {i} {f} {n} low a b d st. no_tree n low; callee = λ {o} {n} low d st. no_tree n low };
    closed = λ {a} {o} {n} is low d. no_tree n low;
    member = λ {o} {n} low d ends. no_tree n low;
    statement = λ {a} {p} {d} {r} {o} {n} st low d1 fine. no_tree n low;
    declarator = λ {i} {b} {o} {n} low d fine. no_tree n low;
    element = λ x {w} {a} {o} {n} w1 low is d ends. no_tree n low;
    element_ends = λ x z {w} {a} {b} {o} {o'} {n} w1 low is d ends it l other. no_tree n low;
    property = λ x {a} {o} {n} low is d ends. no_tree n low;
    property_ends = λ x z {a} {b} {o} {o'} {n} low is d ends it l other. no_tree n low;
  }

module _ (S : Type 0) (Next : S → Token → S → Type 0) (behind : S → Token) (det : IsDetermined S Next behind) (alike : IsAlike S Next behind) where
  -- All steps, from what holds of lower trees.
  pub record Steps : Type 0 where
    pub expression_steps : {h : ℕ} → Unique S Next behind det h → ExpressionSteps S Next behind det h
    pub other_steps : {h : ℕ} → Unique S Next behind det h → Expressions S Next behind det (suc h) → OtherSteps S Next behind det h
    pub script_unique : {h : ℕ} {o : ℕ} {n : Tree} {s e : S} {P : List Pair} → Unique S Next behind det h → height n ≤ suc h → Spells ways S Next behind o script n s e P → FoundWhere S Next behind (λ m e. text_of m ≡ text_of n) o script s e n P

  -- trees of each height are unique
  pub unique : Steps → (h : ℕ) → Unique S Next behind det h
  unique steps zero = none_so_low S Next behind det
  unique steps (suc h) = next (unique steps h)
    where
      next : Unique S Next behind det h → Unique S Next behind det (suc h)
      next u =
          let c = steps.expression_steps u in
          let x = expressions_step S Next behind det alike u c.arguments c.chain_turn c.core c.new_callee in
          together S Next behind det x (steps.other_steps u x)

  -- so is a script, among those with its text
  pub any_script : Steps → {o : ℕ} {n : Tree} {s e : S} {P : List Pair} → Spells ways S Next behind o script n s e P → FoundWhere S Next behind (λ m e. text_of m ≡ text_of n) o script s e n P
  any_script steps {n = n} d = steps.script_unique (unique steps (height n)) (omega arith) d
