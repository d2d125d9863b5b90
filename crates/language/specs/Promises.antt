-- What a function promises that reads an expression at a place, or something else: that it is found, the only one there; or that there is none.
use Rattle.std.specs.Prelude.{◌≡◌, ℕ, ◌≤◌, Bool, true, false, List, [], ◌∷◌, IsTrue, map, codes}
use Rattle.tokens.specs.declared.token.TokenClass.{TokenClass}
use Rattle.tokens.specs.declared.token.TokenClass.TheVariants.{IdentifierName, Punctuator, NumericLiteral, StringLiteral, PrivateName, Keyword, End}
use Rattle.tokens.specs.declared.token.Goal.{Goal}
use Rattle.tokens.specs.declared.token.Goal.TheVariants.{Div}
use Rattle.tokens.specs.Goals.{allows}
use Rattle.tree.specs.declared.kind.Pair.{Pair}
use Rattle.tree.specs.Tree.{Tree, Parts, none, part, gap, height, bare_parts}
use Rattle.language.specs.declared.Rank.{Rank}
use Rattle.language.specs.declared.Rank.TheVariants.{Expression, Assignment, New, Member}
use Rattle.language.specs.declared.Start.{Start}
use Rattle.language.specs.declared.Start.TheVariants.{Any}
use Rattle.language.specs.Pieces.{Role, expr, PieceOf, sub, never, settle_piece}
use Rattle.language.specs.Token.{Token}
use Rattle.language.specs.Edges.{edge, last_edge}
use Rattle.language.specs.Expressions.{sequence}
use Rattle.language.specs.Vocabulary.{op_none}
use Rattle.language.specs.Continuations.{operation, stops}
use Rattle.language.specs.Grammar.{ways}
use Rattle.language.specs.Derivation.{Reads, Spells, Runs}

-- the classes that every goal reads
abbrev pub is_free : TokenClass → Bool
is_free IdentifierName = true
is_free NumericLiteral = true
is_free StringLiteral = true
is_free PrivateName = true
is_free Keyword = true
is_free End = true
is_free _ = false

-- the pieces of a sequence behind its first comma (12.16)
abbrev pub later_parts : Bool → Parts → List (PieceOf Role)
later_parts i none = never ∷ []
later_parts i (gap rest) = never ∷ []
later_parts i (part tree rest) = sub (expr Assignment i Any) ∷ map (settle_piece Expression i Any) (sequence (bare_parts rest))

module _ (S : Type 0) (Next : S → Token → S → Type 0) (behind : S → Token) where
  -- Where tokens are determined once a goal is chosen: by a goal at most one is read at a place; behind it, it is the token before;
  -- all that are read at a place start at one place, with the same line break before them; and names, numbers, strings and the end are
  -- read by every goal.
  pub record IsDetermined : Type 0 where
    pub same : (g : Goal) (s : S) (a b : Token) (e f : S) → Next s a e → Next s b f → IsTrue (allows g a.class a.text) → IsTrue (allows g b.class b.text) → (a ≡ b) × (e ≡ f)
    pub last : (s : S) (t : Token) (e : S) → Next s t e → behind e ≡ t
    pub start : (s : S) (a b : Token) (e f : S) → Next s a e → Next s b f → a.start ≡ b.start
    pub break : (s : S) (a b : Token) (e f : S) → Next s a e → Next s b f → a.after_break ≡ b.after_break
    pub free : (g : Goal) (s : S) (t : Token) (e : S) → Next s t e → is_free t.class ≡ true → IsTrue (allows g t.class t.text)

  -- the token that a goal reads at a place
  pub record ReadBy (g : Goal) (s : S) (t : Token) (e : S) : Type 0 where
    pub next : Next s t e
    pub allowed : IsTrue (allows g t.class t.text)

  -- A name behind an expression, on its line: an operator; or the `of` in the head of a `for`, behind which no `=>` stands.
  pub data NameBehind (t : Token) (m : S) : Type 0 where
    an_operator : (operation t ≡ op_none → ⊥) → NameBehind t m
    an_of : t.text ≡ codes "of" → ((v : Token) (k : S) → Reads S Next behind Punctuator (codes "=>") m v k → ⊥) → NameBehind t m

  -- No other name stands there where an expression of a script ends: so a name `async` that ends one isn't the word of a function or of an arrow.
  pub record Apart (e : S) : Type 0 where
    pub name : (t : Token) (m : S) → Next e t m → t.class ≡ IdentifierName → t.after_break ≡ false → NameBehind t m

  -- the expression that ends here, at this symbol and with this In, can't go on with the token that is read behind an operand
  pub record Stops (rank : Rank) (i : Bool) (tree : Tree) (e : S) : Type 0 where
    pub before : (t : Token) (m : S) → ReadBy Div e t m → IsTrue (stops rank i (edge tree) (behind e) t)
    pub apart : Apart e

  -- the only thing that the position spells here and that can't go on
  pub record Found (o : ℕ) (y : Rank) (i : Bool) (f : Start) (s e : S) (n : Tree) (P : List Pair) : Type 0 where
    pub spelled : Spells ways S Next behind o (expr y i f) n s e P
    pub stopped : Stops y i n e
    pub only : (o' : ℕ) (e' : S) (n' : Tree) (P' : List Pair) → Spells ways S Next behind o' (expr y i f) n' s e' P' → Stops y i n' e' → (e' ≡ e) × (n' ≡ n) × (P' ≡ P)

  -- the position spells nothing here, of any nesting, that can't go on
  pub record Absent (y : Rank) (i : Bool) (f : Start) (s : S) : Type 0 where
    pub nothing : (o' : ℕ) (e' : S) (n' : Tree) (P' : List Pair) → Spells ways S Next behind o' (expr y i f) n' s e' P' → Stops y i n' e' → ⊥

  -- nothing with at most o open parentheses and a tree of height h
  pub record AbsentWithin (o h : ℕ) (y : Rank) (i : Bool) (f : Start) (s : S) : Type 0 where
    pub nothing : (e' : S) (n' : Tree) (P' : List Pair) → Spells ways S Next behind o (expr y i f) n' s e' P' → Stops y i n' e' → height n' ≤ h → ⊥

  -- the only thing that another position spells here; nothing; nothing within the limits
  pub record FoundAt (o : ℕ) (a : Role) (s e : S) (n : Tree) (P : List Pair) : Type 0 where
    pub spelled : Spells ways S Next behind o a n s e P
    pub only : (o' : ℕ) (e' : S) (n' : Tree) (P' : List Pair) → Spells ways S Next behind o' a n' s e' P' → (e' ≡ e) × (n' ≡ n) × (P' ≡ P)

  pub record AbsentAt (a : Role) (s : S) : Type 0 where
    pub nothing : (o' : ℕ) (e' : S) (n' : Tree) (P' : List Pair) → Spells ways S Next behind o' a n' s e' P' → ⊥

  -- the only parts over which pieces run here, which the parts decide; none; none within the limits
  pub record FoundParts (o : ℕ) (pieces : Parts → List (PieceOf Role)) (s e : S) (ps : Parts) (P : List Pair) : Type 0 where
    pub runs : Runs ways S Next behind o (pieces ps) ps s e P
    pub only : (o' : ℕ) (e' : S) (ps' : Parts) (P' : List Pair) → Runs ways S Next behind o' (pieces ps') ps' s e' P' → (e' ≡ e) × (ps' ≡ ps) × (P' ≡ P)

  -- What stands behind `new` (12.3.5): a MemberExpression; or a NewExpression behind which no `(` follows, since a `new` without
  -- arguments in it would have taken those.
  pub data Callee (o : ℕ) (n : Tree) (s e : S) (P : List Pair) : Type 0 where
    at_member : Spells ways S Next behind o (expr Member true Any) n s e P → Callee o n s e P
    at_new : Spells ways S Next behind o (expr New true Any) n s e P → ((t : Token) (m : S) → Reads S Next behind Punctuator (codes "(") e t m → ⊥) → Callee o n s e P

  -- the only one here that can't go on; none; none within the limits
  pub record FoundCallee (o : ℕ) (s e : S) (n : Tree) (P : List Pair) : Type 0 where
    pub callee : Callee o n s e P
    pub stopped : Stops New true n e
    pub only : (o' : ℕ) (e' : S) (n' : Tree) (P' : List Pair) → Callee o' n' s e' P' → Stops New true n' e' → (e' ≡ e) × (n' ≡ n) × (P' ≡ P)

  -- the sequence that ends here can't go on, with a comma neither
  pub record LaterStop (i : Bool) (parts : Parts) (e : S) : Type 0 where
    pub before : (t : Token) (m : S) → ReadBy Div e t m → IsTrue (stops Expression i (last_edge parts) (behind e) t)
    pub apart : Apart e

  -- the only parts of a sequence behind its first comma that can't go on; none; none within the limits
  pub record FoundLater (o : ℕ) (i : Bool) (s e : S) (ps : Parts) (P : List Pair) : Type 0 where
    pub runs : Runs ways S Next behind o (later_parts i ps) ps s e P
    pub stopped : LaterStop i ps e
    pub only : (o' : ℕ) (e' : S) (ps' : Parts) (P' : List Pair) → Runs ways S Next behind o' (later_parts i ps') ps' s e' P' → LaterStop i ps' e' → (e' ≡ e) × (ps' ≡ ps) × (P' ≡ P)
