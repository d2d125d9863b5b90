-- What a function makes of a derivation that is given of what stands ahead (ECMA-262 clauses 12 to 15): it answers what the derivation has, or is refused
-- for a reason. A syntax error is none, and too deep is only what isn't within the limits.
use Rattle.std.specs.Prelude.{◌≡◌, ℕ, ◌≤◌, ◌-◌, Bool, true, false, List, [], ◌∷◌, ◌++◌, Option, Some, None, IsTrue, Result, Ok, Err, codes, ◌⊎◌}
use Rattle.source_text.specs.declared.fault.Fault.{Fault}
use Rattle.source_text.specs.declared.fault.Fault.TheVariants.{TooDeep, OutOfMemory}
use Rattle.tokens.specs.declared.token.TokenClass.TheVariants.{IdentifierName, Punctuator}
use Rattle.tokens.specs.declared.token.Goal.TheVariants.{Div}
use Rattle.token_cursor.specs.CursorState.{CursorState}
use Rattle.tree.specs.declared.kind.Kind.TheVariants.{AssignmentExpression, CallExpression, Identifier}
use Rattle.tree.specs.declared.kind.Pair.{Pair}
use Rattle.tree.specs.Tree.{Tree, Parts, part, none, kind_of, node, plain}
use Rattle.language.specs.declared.Rank.{Rank}
use Rattle.language.specs.declared.Rank.TheVariants.{Expression, Assignment, Conditional, Call, New, Primary, Member}
use Rattle.language.specs.declared.Start.{Start}
use Rattle.language.specs.declared.Start.TheVariants.{Any}
use Rattle.language.specs.Vocabulary.{takes, is_target as is_simple, op_arrow, is_pattern}
use Rattle.language.specs.Token.{Token}
use Rattle.language.specs.Pieces.{Role, expr, name, pattern, with_default, bound, Piece, sign, put, tagged_quasi, nothing}
use Rattle.language.specs.FirstPart.{lead}
use Rattle.language.specs.Expressions.{arguments, in_brackets, property_name}
use Rattle.language.specs.Continuations.{operation, rank_made_by}
use Rattle.language.specs.Promises.{ReadBy, Stops, Apart, Callee}
use Rattle.language.specs.Following.{Finished, Declared}
use Rattle.language.specs.Covers.{Reading, as_expression, as_pattern}
use Rattle.language.specs.Claims.{max_open}
use Rattle.language.specs.Languages.{is_of_2022}
use Rattle.token_cursor.proofs.SeenTokens.{seen_determined}
use Rattle.language.proofs.climbing.Spine.{Grows}
use Rattle.language.proofs.climbing.FirstTurn.{Begun}
use Rattle.language.proofs.climbing.Callees.{Uncalled}
use Rattle.covers.specs.Shapes.{is_target, is_pattern as is_listed}
use Rattle.recursive_descent.specs.declared.subscripts.Subscript.{Subscript}
use Rattle.recursive_descent.specs.declared.subscripts.Subscript.TheVariants as link
use Rattle.grammar.specs.declared.infix.InfixOperator.{InfixOperator}
use Rattle.grammar.specs.declared.infix.InfixOperator.TheVariants as code
use Rattle.parser_tables.specs.declared.operand.Operand.{Operand}
use Rattle.parser_tables.specs.declared.expression_context.ExpressionContext.{ExpressionContext}
use Rattle.recursive_descent.specs.Soundness.{grouping, fits_as, read_as, RunsIn, anywhere}
use Rattle.token_cursor.specs.Seen.{ReadsHere, SeesBy, Sees, MissesBy}
use Rattle.parser_tables.specs.Tests.{is_each, is_link}
use Rattle.recursive_descent.specs.Subscripts.{link_kind, link_flags}
use Rattle.parser_tables.specs.Operands.{is_group}
use Rattle.token_cursor.specs.SourceText.{SourceText, SeenNext, behind_in}
use Rattle.recursive_descent.specs.Spelled.{SpellsIn}

-- the answer is this; a refusal is no syntax error, and it is too deep only where it isn't within the limits
abbrev pub Agrees : {X : Type 0} → Type 0 → (X → Type 0) → Result X Fault → Type 0
Agrees W Same (Ok x) = Same x
Agrees W Same (Err TooDeep) = W → ⊥
Agrees W Same (Err OutOfMemory) = Unit {0}
Agrees W Same (Err _) = ⊥

-- as many parentheses are left as are open at one point, and the tree is no higher than allowed
abbrev pub Room : CursorState → ℕ → ℕ → ℕ → Type 0
Room s o levels high = (o ≤ max_open - s.opened) × (levels ≤ high)

-- what was read ends there, and these pairs group in it
pub record EndsWith (s e : CursorState) (old new : List Pair) (to : Token) (P : List Pair) : Type 0 where
  pub place : e.last ≡ to
  pub more : List Pair
  pub added : new ≡ old ++ more
  pub pairs : grouping more ≡ P

-- an expression that ends here can't go on; a statement is followed by what may follow it; a declarator can't go on
abbrev pub StopsIn : SourceText → Rank → Bool → Tree → Token → Type 0
StopsIn text = Stops Token (SeenNext text) (behind_in text)

abbrev pub FinishedIn : SourceText → Tree → Token → Type 0
FinishedIn text = Finished Token (SeenNext text) (behind_in text)

abbrev pub DeclaredIn : SourceText → Bool → Tree → Token → Type 0
DeclaredIn text = Declared Token (SeenNext text) (behind_in text)

-- nothing goes on there but a comma
abbrev pub is_over : Option Rank → Bool
is_over None = true
is_over (Some Expression) = true
is_over _ = false

pub record Over (text : SourceText) (e : Token) : Type 0 where
  pub before : (t m : Token) → ReadBy Token (SeenNext text) (behind_in text) Div e t m → is_over (rank_made_by (operation t) t.after_break) ≡ true
  pub apart : Apart Token (SeenNext text) (behind_in text) e

-- What is given where an expression may stand, in one of its readings, and can't go on: an expression at the position; what stands behind `new`; an element of
-- a pattern where an AssignmentExpression may stand; what is assigned to before `in` or `of` in the head of a `for`.
pub data GivenAs (text : SourceText) (p : ExpressionContext) (o : ℕ) (n : Tree) (s e : Token) (P : List Pair) : Reading → Type 0 where
  an_expression : (p.rank ≡ Conditional → ⊥) → (p.rank ≡ New → ⊥) → SpellsIn text o (expr p.rank p.has_in p.start) n s e P → StopsIn text p.rank p.has_in n e → GivenAs text p o n s e P as_expression
  a_callee : p ≡ record { rank = New; has_in = true; start = Any } → Callee Token (SeenNext text) (behind_in text) o n s e P → StopsIn text New true n e → GivenAs text p o n s e P as_expression
  an_element : {b : Bool} {a : Role} → p ≡ record { rank = Assignment; has_in = true; start = Any } → with_default b (kind_of n) ≡ Some a → SpellsIn text o a n s e P → Over text e → GivenAs text p o n s e P (as_pattern b)
  a_target : {a : Role} → p ≡ record { rank = Expression; has_in = false; start = Any } → bound false (kind_of n) ≡ Some a → SpellsIn text o a n s e P → SeesBy text Div is_each e → Apart Token (SeenNext text) (behind_in text) e → GivenAs text p o n s e P (as_pattern false)

-- the part is this tree in this reading; a name or a member is a target, an array or an object of a pattern has no default
pub record IsRead (a : Reading) (r : Operand) (n : Tree) : Type 0 where
  pub fits : fits_as r.cover.shape a ≡ true
  pub tree : read_as a r.cover.node ≡ n
  pub target : is_simple (kind_of n) ≡ true → is_target r.cover.shape.assigned ≡ true
  pub pattern : (b : Bool) → a ≡ as_pattern b → is_pattern (kind_of n) ≡ true → is_listed r.cover.shape.assigned ≡ true

-- no `=>` goes on there
abbrev pub Unarrowed : SourceText → Token → Type 0
Unarrowed text e = (t m : Token) → ReadBy Token (SeenNext text) (behind_in text) Div e t m → operation t ≡ op_arrow → t.after_break ≡ true

-- nor does a `(`
abbrev pub Unparenthesized : SourceText → Token → Type 0
Unparenthesized text e = (x : Token) → ReadsHere text Punctuator (codes "(") e x → x.after_break ≡ true

-- a name that isn't followed by an arrow's `=>`, by what `async` begins, or by another name
pub record NameEnds (text : SourceText) (p : ExpressionContext) (e : Token) : Type 0 where
  pub arrow : IsTrue (takes p.rank Assignment) → Unarrowed text e
  pub parenthesis : IsTrue (takes p.rank Assignment) → Unparenthesized text e
  pub apart : Apart Token (SeenNext text) (behind_in text) e

-- where the position takes an arrow, no `(` stands on its line behind the name `async`
abbrev pub Unasync : SourceText → ExpressionContext → Tree → Token → Token → Type 0
Unasync text p t s e = is_of_2022 text.language ≡ true → IsTrue (takes p.rank Assignment) → kind_of t ≡ Identifier → (k : Token) → ReadsHere text IdentifierName (codes "async") s k → Unparenthesized text e

-- there a call of `async` is read at once, with its arguments (15.9 of the 13th edition)
pub record AsyncCalled (text : SourceText) (o : ℕ) (n : Tree) (s e : Token) (P : List Pair) : Type 0 where
  pub later : is_of_2022 text.language ≡ true
  pub word : Token
  pub paren : Token
  pub given : Parts
  pub name : ReadsHere text IdentifierName (codes "async") s word
  pub sign : ReadsHere text Punctuator (codes "(") word paren
  pub line : paren.after_break ≡ false
  pub tree : n ≡ node CallExpression [] plain word.start e.stop (part (node Identifier (codes "async") plain word.start word.stop none) given)
  pub runs : RunsIn text o (anywhere (arguments given)) given word e P

-- the symbol of the position, or of what stands behind `new` with arguments
abbrev pub Wholly : Rank → Rank → Type 0
Wholly y r = (y ≡ r) ⊎ ((y ≡ Member) × (r ≡ New))

-- What stands first in what is given, at a symbol: the leftmost part of an expression that can't go on, but for a pattern that is assigned to, which is read
-- first, and for a name `async` that is called; such a pattern, or one that is an element or is bound; a name that is bound; the call of `async` on the
-- expression's spine.
pub data FirstAs (text : SourceText) (p : ExpressionContext) (o : ℕ) (t : Tree) (s m : Token) (Q : List Pair) : Reading → Rank → Type 0 where
  a_core : {y : Rank} {n : Tree} {e : Token} {P : List Pair} {h : Rank} {j : Bool} → (p.rank ≡ Conditional → ⊥) → Wholly y p.rank → Begun Token (SeenNext text) (behind_in text) (seen_determined text) o s y p.has_in p.start n e P h j t m Q →
      Uncalled Token (SeenNext text) (behind_in text) (seen_determined text) h t m → (kind_of t ≡ AssignmentExpression → Sees text Punctuator (codes "(") s) → Unasync text p t s m → FirstAs text p o t s m Q as_expression h
  a_pattern : {b : Bool} → SpellsIn text o (pattern b p.start) t s m Q → FirstAs text p o t s m Q (as_pattern b) Primary
  a_name : SpellsIn text o name t s m Q → NameEnds text p m → FirstAs text p o t s m Q (as_pattern true) Primary
  an_async_call : {n : Tree} {e : Token} {P : List Pair} {h : Rank} {j : Bool} {g : Start} → IsTrue (takes p.rank Assignment) → AsyncCalled text o t s m Q → IsTrue (takes h Call) → SpellsIn text o (expr h j g) t s m Q → StopsIn text p.rank p.has_in n e →
      Grows Token (SeenNext text) (behind_in text) o s (expr p.rank p.has_in p.start) n e P (expr h j g) t m Q → FirstAs text p o t s m Q as_expression h

-- it is read so, at a symbol that its position takes
pub record IsFirst (a : Reading) (h : Rank) (r : Operand) (t : Tree) : Type 0 where
  pub read : IsRead a r t
  pub taken : IsTrue (takes h r.rank)
  pub alone : (b : Bool) → a ≡ as_pattern b → is_group r.rank ≡ false

-- the right sides of an operator that was passed: of a conditional two, with a `:` between them, else one, at its symbol
pub data SidesGiven (text : SourceText) (i : Bool) (o : ℕ) (s e : Token) : InfixOperator → Rank → Parts → List Pair → Type 0 where
  one_side : {x : InfixOperator} {q : Rank} {u : Tree} {P : List Pair} → (x ≡ code.Question → ⊥) → SpellsIn text o (expr q i Any) u s e P → StopsIn text q i u e → SidesGiven text i o s e x q (part u none) P
  two_sides : {t u : Tree} {k x : Token} {P Q : List Pair} → SpellsIn text o (expr Assignment true Any) t s k P → ReadsHere text Punctuator (codes ":") k x → SpellsIn text o (expr Assignment i Any) u x e Q → StopsIn text Assignment i u e →
      SidesGiven text i o s e code.Question Assignment (part t (part u none)) (P ++ Q)

-- a member, arguments or a template, with a `?.` before it or without
abbrev pub subscript_after : Subscript → Bool → Parts → List Piece
subscript_after link.Name true ps = sign "?." ∷ property_name (lead ps) ∷ []
subscript_after link.Name false ps = sign "." ∷ property_name (lead ps) ∷ []
subscript_after link.Index true ps = sign "?." ∷ in_brackets
subscript_after link.Index false ps = in_brackets
subscript_after link.Arguments true ps = sign "?." ∷ arguments ps
subscript_after link.Arguments false ps = arguments ps
subscript_after link.Quasi true ps = nothing
subscript_after link.Quasi false ps = put tagged_quasi ∷ []

-- The links of a chain from a part of it on: each makes the next part, and behind the last nothing goes on, a template neither.
pub data LinksGiven (text : SourceText) (o start : ℕ) (n : Tree) (e : Token) : Tree → Token → List Pair → Type 0 where
  no_link : MissesBy text Div is_link e → LinksGiven text o start n e n e []
  one_link : {m : Tree} {ps : Parts} {s k : Token} {P Q : List Pair} → (l : Subscript) → (optional : Bool) → (l ≡ link.Quasi → ⊥) → RunsIn text o (anywhere (subscript_after l optional ps)) ps s k P →
      LinksGiven text o start n e (node (link_kind l) [] (link_flags l optional) start k.stop (part m ps)) k Q → LinksGiven text o start n e m s (P ++ Q)

-- a chain from its base on: its first link has `?.`
pub record ChainGiven (text : SourceText) (o start : ℕ) (base n : Tree) (s e : Token) (P : List Pair) : Type 0 where
  pub first : Subscript
  pub parts : Parts
  pub mid : Token
  pub one : List Pair
  pub more : List Pair
  pub named : first ≡ link.Quasi → ⊥
  pub runs : RunsIn text o (anywhere (subscript_after first true parts)) parts s mid one
  pub rest : LinksGiven text o start n e (node (link_kind first) [] (link_flags first true) start mid.stop (part base parts)) mid more
  pub pairs : P ≡ one ++ more
