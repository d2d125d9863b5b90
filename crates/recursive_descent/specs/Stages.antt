-- What is left of what is given where its first part was read, or more, up to some turn of the loop (ECMA-262 12.3 to 12.16).
use Rattle.std.specs.Prelude.{◌≡◌, ◌⊎◌, ℕ, ◌-◌, ◌<◌, Bool, true, false, ◌||◌, List, [], ◌++◌, Result, IsTrue, codes}
use Rattle.source_text.specs.declared.fault.Fault.{Fault}
use Rattle.tokens.specs.declared.token.TokenClass.TheVariants.{Punctuator}
use Rattle.tokens.specs.declared.token.Goal.TheVariants.{Div}
use Rattle.token_cursor.specs.CursorState.{CursorState}
use Rattle.tree.specs.declared.kind.Kind.TheVariants.{AssignmentExpression, AssignmentPattern}
use Rattle.tree.specs.declared.kind.Pair.{Pair}
use Rattle.tree.specs.Tree.{Tree, node, plain, part, none, kind_of, text_of, height}
use Rattle.language.specs.declared.Rank.{Rank}
use Rattle.language.specs.declared.Rank.TheVariants.{Expression, Assignment, Conditional, LeftHandSide}
use Rattle.language.specs.declared.Start.TheVariants.{Any}
use Rattle.language.specs.Vocabulary.{takes, is_target as is_simple, is_pattern}
use Rattle.language.specs.Token.{Token}
use Rattle.language.specs.Pieces.{expr}
use Rattle.language.specs.Derivation.{Placed}
use Rattle.language.specs.Covers.{Reading, as_expression, as_pattern}
use Rattle.language.specs.Claims.{max_open}
use Rattle.token_cursor.proofs.SeenTokens.{seen_determined}
use Rattle.language.proofs.climbing.Spine.{Grows}
use Rattle.language.proofs.climbing.OperatorLoop.{Leads}
use Rattle.language.specs.Promises.{Apart}
use Rattle.tree.specs.Patterns.{pattern_tree}
use Rattle.covers.specs.Shapes.{is_element, is_target, is_pattern as is_listed}
use Rattle.parser_tables.specs.declared.operand.Operand.{Operand}
use Rattle.parser_tables.specs.declared.expression_context.ExpressionContext.{ExpressionContext}
use Rattle.recursive_descent.specs.Soundness.{ReadAt, grouping}
use Rattle.recursive_descent.specs.Completeness.{Agrees, Room, StopsIn, Over, IsRead}
use Rattle.token_cursor.specs.Seen.{ReadsHere, SeesBy}
use Rattle.parser_tables.specs.Tests.{is_each}
use Rattle.token_cursor.specs.SourceText.{SourceText, SeenNext, behind_in}
use Rattle.recursive_descent.specs.Spelled.{OfLanguage, SpellsIn}

-- where a pattern or a name ends nothing goes on
pub data EndsOver (text : SourceText) (p : ExpressionContext) (e : Token) : Type 0 where
  an_element : p ≡ record { rank = Assignment; has_in = true; start = Any } → Over text e → EndsOver text p e
  a_target : p ≡ record { rank = Expression; has_in = false; start = Any } → SeesBy text Div is_each e → Apart Token (SeenNext text) (behind_in text) e → EndsOver text p e

module _ (text : SourceText) (p : ExpressionContext) (o : ℕ) (s e : Token) (P : List Pair) (l : Operand) (m : Token) (Q : List Pair) where
  -- from s on, l was read up to m, with these pairs: it stands on the spine of an expression up to e that can't go on
  pub record SpineAs (n : Tree) : Type 0 where
    pub no_test : p.rank ≡ Conditional → ⊥
    pub stopped : StopsIn text p.rank p.has_in n e
    pub leads : Leads Token (SeenNext text) (behind_in text) (seen_determined text) o s p.rank p.has_in p.start n e P l.rank l.cover.node m Q
    pub value : l.cover.shape.is_expression ≡ true
    pub target : is_simple (kind_of l.cover.node) ≡ true → is_target l.cover.shape.assigned ≡ true

  -- a pattern that was read; behind it stands its `=`
  pub record IsLeft (b : Bool) (left : Tree) (x : Token) : Type 0 where
    pub read : IsRead (as_pattern b) l left
    pub listed : is_listed l.cover.shape.assigned ≡ true
    pub rank : IsTrue (takes LeftHandSide l.rank)
    pub sign : ReadsHere text Punctuator (codes "=") m x
    pub kind : (is_pattern (kind_of left) || is_simple (kind_of left)) ≡ true

  -- in an expression such an assignment stands on the spine
  pub record AssignedAs (n : Tree) : Type 0 where
    pub no_test : p.rank ≡ Conditional → ⊥
    pub stopped : StopsIn text p.rank p.has_in n e
    pub left : Tree
    pub right : Tree
    pub x : Token
    pub is_left : IsLeft false left x
    pub h : Rank
    pub st : ℕ
    pub en : ℕ
    pub to : Token
    pub more : List Pair
    pub stands : IsTrue (takes h Assignment)
    pub side : SpellsIn text o (expr Assignment p.has_in Any) right x to more
    pub right_stops : StopsIn text Assignment p.has_in right to
    pub placed : Placed Token (SeenNext text) (behind_in text) (expr h p.has_in p.start) (node AssignmentExpression (codes "=") plain st en (part left (part right none))) s to
    pub spelled : SpellsIn text o (expr h p.has_in p.start) (node AssignmentExpression (codes "=") plain st en (part left (part right none))) s to (Q ++ more)
    pub grows : Grows Token (SeenNext text) (behind_in text) o s (expr p.rank p.has_in p.start) n e P (expr h p.has_in p.start) (node AssignmentExpression (codes "=") plain st en (part left (part right none))) to (Q ++ more)

  -- an element of a pattern has it as its default
  pub record DefaultAs (b : Bool) (n : Tree) : Type 0 where
    pub position : p ≡ record { rank = Assignment; has_in = true; start = Any }
    pub left : Tree
    pub right : Tree
    pub x : Token
    pub is_left : IsLeft b left x
    pub st : ℕ
    pub en : ℕ
    pub start : Token
    pub behind_start : Token
    pub next : SeenNext text s start behind_start
    pub starts : start.start ≡ st
    pub stops : e.stop ≡ en
    pub more : List Pair
    pub tree : n ≡ node AssignmentPattern [] plain st en (part left (part right none))
    pub side : SpellsIn text o (expr Assignment true Any) right x e more
    pub over : Over text e
    pub pairs : P ≡ Q ++ more

  -- an expression that is given; or one whose pattern is given: a simple target, with a default or without, of which less was read, or which is an element
  pub data Serves (a : Reading) (n k : Tree) : Type 0 where
    as_it_is : a ≡ as_expression → k ≡ n → Serves a n k
    as_element : a ≡ as_pattern false → pattern_tree k ≡ n → is_pattern (kind_of n) ≡ false → (is_simple (kind_of k) ≡ true) ⊎ ((kind_of k ≡ AssignmentExpression) × (text_of k ≡ codes "=")) → (height l.cover.node < height k) ⊎ (is_element l.cover.shape.assigned ≡ true) → Serves a n k

  -- what is given, in a reading, from the stage on where the part was read
  pub data StageAs (a : Reading) (n : Tree) : Type 0 where
    on_spine : {k : Tree} → Serves a n k → height k ≡ height n → SpineAs k → StageAs a n
    at_pattern : a ≡ as_expression → AssignedAs n → StageAs a n
    at_default : {b : Bool} → a ≡ as_pattern b → DefaultAs b n → StageAs a n
    at_end : {b : Bool} → a ≡ as_pattern b → IsRead (as_pattern b) l n → m ≡ e → Q ≡ P → EndsOver text p e → StageAs a n

-- the next stage, with what was added to the pairs
pub record Staged (text : SourceText) (p : ExpressionContext) (o : ℕ) (s e : Token) (P : List Pair) (r : Operand) (m : Token) (Q old new : List Pair) (a : Reading) (n : Tree) : Type 0 where
  pub more : List Pair
  pub added : new ≡ old ++ more
  pub stage : StageAs text p o s e P r m (Q ++ grouping more) a n

-- an operator that stands ahead: from one stage to the next
abbrev pub InfixComplete : CursorState → CursorState → List Pair → List Pair → ℕ → ExpressionContext → Operand → Result Operand Fault → Type 0
InfixComplete s e old new high p left result = (a : Reading) (o : ℕ) (n : Tree) (from to : Token) (P Q R : List Pair) → ReadAt s.text p left (max_open - s.opened) from s.last R → StageAs s.text p o from to P left s.last Q a n → OfLanguage s.text n →
    Agrees (Room s o (height n) high) (λ r. Staged s.text p o from to P r e.last Q old new a n) result
