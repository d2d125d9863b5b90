-- What is derived: which part of the text was read, and what it spells there, at the text's own places (ECMA-262 clauses 12 to 15).
use Rattle.std.specs.Prelude.{◌≡◌, ◌⊎◌, ℕ, ◌-◌, Bool, true, false, cond, List, [], ◌++◌, filter, nat_le, nat_lt, Option, Some, None, IsTrue, codes, map}
use Rattle.tokens.specs.declared.token.TokenClass.TheVariants.{Punctuator, PrivateName}
use Rattle.tokens.specs.declared.token.Goal.TheVariants.{Div}
use Rattle.tokens.specs.declared.token.Token.{Token as Scanned}
use Rattle.tokens.specs.Scanned.{token_of}
use Rattle.token_cursor.specs.CursorState.{CursorState}
use Rattle.tree.specs.declared.kind.Kind.{Kind}
use Rattle.tree.specs.declared.kind.Kind.TheVariants.{Super, AssignmentPattern, ArrowFunctionExpression}
use Rattle.tree.specs.declared.kind.Flags.{Flags}
use Rattle.tree.specs.declared.kind.Form.{Form}
use Rattle.tree.specs.declared.kind.Pair.{Pair}
use Rattle.tree.specs.Tree.{Tree, node, plain, Parts, part, none, push, kind_of, text_of, flags_of}
use Rattle.language.specs.declared.Rank.{Rank}
use Rattle.language.specs.declared.Rank.TheVariants.{Expression, Assignment, LeftHandSide, New}
use Rattle.language.specs.declared.Start.{Start}
use Rattle.language.specs.declared.Start.TheVariants.{Any}
use Rattle.language.specs.Vocabulary.{takes, precedence, is_target, is_pattern, is_identifier}
use Rattle.language.specs.Token.{Token, as_read, same_class}
use Rattle.language.specs.Languages.{is_of_2022}
use Rattle.language.specs.Pieces.{Role, expr, chain_part, name, directive_string, base, pattern, element, Piece, PieceOf, settle_piece}
use Rattle.language.specs.Edges.{edge, edge_as_written}
use Rattle.language.specs.Expressions.{has_optional, arguments, arrow_end}
use Rattle.language.specs.Statements.{is_string_literal}
use Rattle.language.specs.Covers.{Reading, as_expression, as_pattern, shaped}
use Rattle.language.specs.Grammar.{ways}
use Rattle.language.specs.Derivation.{Runs}
use Rattle.language.specs.Continuations.{operation, rank_made_by}
use Rattle.language.specs.Promises.{ReadBy}
use Rattle.language.specs.Claims.{max_open}
use Rattle.covers.specs.declared.shape.CoverShape.{CoverShape}
use Rattle.covers.specs.declared.shape.TargetForm.{TargetForm}
use Rattle.covers.specs.declared.shape.TargetForm.TheVariants as assigned
use Rattle.tree.specs.Patterns.{pattern_tree, pattern_parts}
use Rattle.covers.specs.Shapes.{is_bound, is_element}
use Rattle.parser_tables.specs.declared.operand.Operand.{Operand}
use Rattle.parser_tables.specs.declared.expression_context.ExpressionContext.{ExpressionContext}
use Rattle.parser_tables.specs.declared.expression_starts.ExpressionStart.{ExpressionStart}
use Rattle.parser_tables.specs.ExpressionStarts.{coded_in, opens_at, MetaAhead}
use Rattle.parser_tables.specs.declared.expression_starts.ExpressionStart.TheVariants as begun
use Rattle.parser_tables.specs.Operands.{is_group}
use Rattle.token_cursor.specs.Seen.{ReadsHere, Sees, Misses, MissesBy}
use Rattle.parser_tables.specs.StatementNodes.{is_closed}
use Rattle.parser_tables.specs.Tests.{is_template}
use Rattle.token_cursor.specs.SourceText.{SourceText, SeenNext, behind_in}
use Rattle.recursive_descent.specs.Spelled.{SpellsIn}

-- from one place of a text to another the parts run over the pieces
abbrev pub RunsIn : SourceText → ℕ → List (PieceOf Role) → Parts → Token → Token → List Pair → Type 0
RunsIn text = Runs ways Token (SeenNext text) (behind_in text)

-- pieces that are the same wherever their node stands
abbrev pub anywhere : List Piece → List (PieceOf Role)
anywhere qs = map (settle_piece Expression true Any) qs

-- a pair that groups
abbrev pub groups : Pair → Bool
groups p = nat_lt p.left p.right

abbrev pub grouping : List Pair → List Pair
grouping ps = filter groups ps

-- From one point to another something was read that Is so, with so many parentheses left to be opened, and with those of the pairs that were added that
-- group; as many are open as before.
pub record Adds (s e : CursorState) (old new : List Pair) (Is : ℕ → Token → Token → List Pair → Type 0) : Type 0 where
  pub more : List Pair
  pub same_open : e.opened ≡ s.opened
  pub pairs : new ≡ old ++ more
  pub is : Is (max_open - s.opened) s.last e.last (grouping more)

-- the first token behind a place begins here
pub record Begins (text : SourceText) (at : ℕ) (s : Token) : Type 0 where
  pub token : Token
  pub place : Token
  pub next : SeenNext text s token place
  pub start : token.start ≡ at

-- the node is spelled at the position that its kind has
pub record SpelledAs (r : Kind → Option Role) (text : SourceText) (o : ℕ) (n : Tree) (s e : Token) (P : List Pair) : Type 0 where
  pub role : Role
  pub it_is : r (kind_of n) ≡ Some role
  pub spelled : SpellsIn text o role n s e P

-- what a shape says of each reading, with the tree and the parts of the reading
abbrev pub fits_as : CoverShape → Reading → Bool
fits_as s a = shaped s.is_expression (is_element s.assigned) (is_bound s) a

abbrev pub read_as : Reading → Tree → Tree
read_as as_expression n = n
read_as (as_pattern b) n = pattern_tree n

abbrev pub all_read_as : Reading → Parts → Parts
all_read_as as_expression ps = ps
all_read_as (as_pattern b) ps = pattern_parts 0 ps

-- the position of a simple target or a name, of a pattern, and of either with a default (12.15.5); the flag says that it binds names
abbrev pub target_at : Start → Bool → Kind → Option Role
target_at f true k = cond (is_identifier k) (Some name) None
target_at f false k = cond (is_target k) (Some (expr LeftHandSide true f)) None

abbrev pub pattern_at : Start → Bool → Kind → Option Role
pattern_at f b k = cond (is_pattern k) (Some (pattern b f)) None

abbrev pub default_at : Bool → Kind → Option Role
default_at b AssignmentPattern = Some (element b)
default_at b _ = None

abbrev pub assigned_at : TargetForm → Start → Bool → Kind → Option Role
assigned_at assigned.Nothing f b k = None
assigned_at assigned.Target f b k = target_at f b k
assigned_at assigned.Pattern f b k = pattern_at f b k
assigned_at assigned.Defaulted f b k = default_at b k

-- at this symbol, or at a looser one, In matters: not at `**`, whose sides have it
abbrev pub minds_in : Rank → Bool
minds_in y = nat_le (precedence y) 14

-- the position of a name, and of a string, that stands in no parentheses
abbrev pub bare_role : Tree → Option Role
bare_role n = cond (is_identifier (kind_of n)) (Some name) (cond (is_string_literal (kind_of n) (text_of n)) (Some directive_string) None)

-- What was read where an expression with this In and this start may stand. As an expression it is spelled at each symbol that takes its own, with the same
-- In where In matters; as a pattern or a target, where its shape says so, at the position of such. Behind a `new` without arguments stands no `(`.
pub record PartAt (text : SourceText) (i : Bool) (f : Start) (p : Operand) (o : ℕ) (s e : Token) (P : List Pair) : Type 0 where
  pub begins : Begins text p.start s
  pub edge : p.edge ≡ edge_as_written (edge p.cover.node) e
  pub goes_on : is_closed p.edge ≡ false
  pub stands : p.cover.shape.is_expression ≡ true → (h : Rank) (j : Bool) → IsTrue (takes h p.rank) → (minds_in h ≡ true → j ≡ i) → SpellsIn text o (expr h j f) p.cover.node s e P
  pub assigned : (b : Bool) → fits_as p.cover.shape (as_pattern b) ≡ true → (p.cover.shape.assigned ≡ assigned.Defaulted → (f ≡ Any) × (i ≡ true)) → SpelledAs (assigned_at p.cover.shape.assigned f b) text o (pattern_tree p.cover.node) s e P
  pub bare : (a : Role) → is_group p.rank ≡ false → bare_role p.cover.node ≡ Some a → SpellsIn text o a p.cover.node s e P
  pub newly : p.rank ≡ New → Misses text Punctuator (codes "(") e

-- the symbols at which an expression is read to its end, of which each takes all that an expression begins with
abbrev pub takes_new : Rank → Bool
takes_new y = takes y New

-- what was read at a position, up to where something may go on with it, or to where nothing does
pub record ReadAt (text : SourceText) (p : ExpressionContext) (r : Operand) (o : ℕ) (s e : Token) (P : List Pair) : Type 0 where
  pub taken : takes_new p.rank ≡ true → IsTrue (takes p.rank r.rank)
  pub part : PartAt text p.has_in p.start r o s e P

-- what goes on with what was read at a position; with an expression with this In, from wherever that begins
abbrev pub ReadsOn : SourceText → ExpressionContext → Operand → Operand → ℕ → Token → Token → List Pair → Type 0
ReadsOn text p l r o m e Q = (s : Token) (P : List Pair) → ReadAt text p l o s m P → ReadAt text p r o s e (P ++ Q)

abbrev pub GoesOn : SourceText → Bool → Operand → Operand → ℕ → Token → Token → List Pair → Type 0
GoesOn text i l r o m e Q = (f : Start) (s : Token) (P : List Pair) → PartAt text i f l o s m P → PartAt text i f r o s e (P ++ Q)

-- a part of a chain above its base (12.3.9); `super` before its member or its arguments (12.3.7)
pub record LinkAt (text : SourceText) (f : Start) (p : Operand) (o : ℕ) (s e : Token) (P : List Pair) : Type 0 where
  pub begins : Begins text p.start s
  pub chained : has_optional p.cover.node ≡ true
  pub spelled : SpellsIn text o (chain_part f) p.cover.node s e P

pub record SuperAt (text : SourceText) (p : Operand) (o : ℕ) (s e : Token) (P : List Pair) : Type 0 where
  pub begins : Begins text p.start s
  pub kind : kind_of p.cover.node ≡ Super
  pub spelled : SpellsIn text o base p.cover.node s e P

-- behind the next token stands no private name, which `super` hasn't (13.3.7 of the 13th edition)
abbrev pub UnprivateBehind : SourceText → Token → Type 0
UnprivateBehind text s = is_of_2022 text.language ≡ true → (u m e : Token) → ReadsHere text Punctuator (codes ".") s m → SeenNext text m u e → same_class PrivateName u.class ≡ false

-- A member, arguments or a template behind what was read: behind an expression an expression, or with a `?.` the first part of a chain; where no template
-- follows, behind a part of a chain the next, and behind `super` an expression.
pub record Links (text : SourceText) (l r : Operand) (o : ℕ) (m e : Token) (Q : List Pair) : Type 0 where
  pub optional : cond (flags_of r.cover.node).optional (Sees text Punctuator (codes "?.") m) (Misses text Punctuator (codes "?.") m)
  pub onward : (flags_of r.cover.node).optional ≡ false → (i : Bool) → GoesOn text i l r o m e Q
  pub taken : (flags_of r.cover.node).optional ≡ false → (t x : Token) (y z : Rank) → ReadBy Token (SeenNext text) (behind_in text) Div m t x → rank_made_by (operation t) t.after_break ≡ Some z → IsTrue (takes y l.rank) → IsTrue (takes y z) → IsTrue (takes y r.rank)
  pub begun : (flags_of r.cover.node).optional ≡ true → (i : Bool) (f : Start) (s : Token) (P : List Pair) → PartAt text i f l o s m P → LinkAt text f r o s e (P ++ Q)
  pub further : MissesBy text Div is_template m → (f : Start) (s : Token) (P : List Pair) → LinkAt text f l o s m P → LinkAt text f r o s e (P ++ Q)
  pub super : MissesBy text Div is_template m → UnprivateBehind text m → (flags_of r.cover.node).optional ≡ false → (i : Bool) (f : Start) (s : Token) (P : List Pair) → SuperAt text l o s m P → PartAt text i f r o s e (P ++ Q)

-- arguments with their parentheses (12.3.8)
abbrev pub ArgumentsAt : SourceText → Parts → ℕ → Token → Token → List Pair → Type 0
ArgumentsAt text ps o s e P = RunsIn text o (anywhere (arguments ps)) ps s e P

-- An arrow function (14.2) from its `=>` on, which stands on the same line, behind its parameters, which begin here.
pub record ArrowAt (text : SourceText) (x : Form) (i : Bool) (parameters : Parts) (from : ℕ) (r : Operand) (o : ℕ) (m e : Token) (Q : List Pair) : Type 0 where
  pub flags : Flags
  pub lean : flags ≡ record plain { expression = flags.expression; form = x }
  pub body : Tree
  pub tree : r.cover.node ≡ node ArrowFunctionExpression [] flags from e.stop (push parameters body)
  pub start : r.start ≡ from
  pub rank : r.rank ≡ Assignment
  pub edge : r.edge ≡ edge_as_written (edge r.cover.node) e
  pub goes_on : is_closed r.edge ≡ false
  pub simple : (r.cover.shape.is_expression ≡ true) × (r.cover.shape.assigned ≡ assigned.Nothing)
  pub runs : ((t : Token) (e : Token) → SeenNext text m t e → t.after_break ≡ false) → (j : Bool) → j ≡ i → RunsIn text o (map (settle_piece Assignment j Any) (arrow_end flags)) (part body none) m e Q

-- the position takes what begins so, or `import.meta` stands there
abbrev pub Stands : SourceText → ExpressionContext → Token → ExpressionStart → Token → Type 0
Stands text p t opening s = (opens_at p t ≡ true) ⊎ ((opening ≡ begun.Import) × (is_of_2022 text.language ≡ true) × MetaAhead text s)

-- what a word begins that was passed
abbrev pub WordedAt : SourceText → ExpressionContext → Scanned → ExpressionStart → Operand → ℕ → Token → Token → List Pair → Type 0
WordedAt text p t opening r o m e Q = (s : Token) → SeenNext text s (as_read (token_of t)) m → coded_in text.language (as_read (token_of t)) ≡ Some opening → Stands text p (as_read (token_of t)) opening s → ReadAt text p r o s e Q
