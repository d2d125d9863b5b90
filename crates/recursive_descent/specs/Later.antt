-- What later editions add to what is read: the words of functions, private names, `async` and `yield`, fields, and the items of modules
-- (ECMA-262, 13th edition, 12.6, 15.5 to 15.9, 16.2).
use Rattle.std.specs.Prelude.{◌≡◌, ◌⊎◌, ℕ, suc, Bool, true, false, cond, List, [], ◌∷◌, Option, Some, None, Result, codes, IsTrue, IsFalse}
use Rattle.source_text.specs.declared.fault.Fault.{Fault}
use Rattle.tokens.specs.declared.token.TokenClass.TheVariants.{IdentifierName, Punctuator}
use Rattle.tokens.specs.declared.token.Goal.TheVariants.{Div}
use Rattle.token_cursor.specs.CursorState.{CursorState}
use Rattle.token_cursor.specs.SourceText.{SourceText, SeenNext}
use Rattle.recursive_descent.specs.Spelled.{AllOfLanguage, OfLanguage}
use Rattle.token_cursor.specs.Seen.{ReadsHere, NameHere, Sees, Misses, SeesBy, is_word_class, is_free_name}
use Rattle.tree.specs.declared.kind.Pair.{Pair}
use Rattle.tree.specs.declared.kind.Kind.TheVariants.{Identifier, CallExpression, PropertyDefinition, ForOfStatement}
use Rattle.tree.specs.declared.kind.Form.{Form}
use Rattle.tree.specs.declared.kind.Form.TheVariants.{Init, Generator, Async, AsyncGenerator}
use Rattle.tree.specs.Tree.{Tree, node, plain, Parts, part, gap, none, kind_of, height, parts_height}
use Rattle.language.specs.declared.Rank.{Rank}
use Rattle.language.specs.declared.Rank.TheVariants.{Assignment}
use Rattle.language.specs.Covers.{Reading}
use Rattle.parser_tables.specs.Tokens.{single_node}
use Rattle.tokens.specs.Tokens.{LexicalToken}
use Rattle.language.specs.Vocabulary.{takes}
use Rattle.language.specs.declared.Language.TheVariants.{Base}
use Rattle.language.specs.Languages.{is_of_2022}
use Rattle.language.specs.Later.{is_later_form}
use Rattle.tokens.specs.declared.token.Token.{Token as Scanned}
use Rattle.parser_tables.specs.ExpressionStarts.{takes_function_or_class}
use Rattle.recursive_descent.specs.declared.async_and_yield.AsyncStart.{AsyncStart}
use Rattle.recursive_descent.specs.declared.async_and_yield.AsyncStart.TheVariants as begun
use Rattle.language.specs.Token.{Token, as_read, same_class}
use Rattle.language.specs.Edges.{edge, ends_in_if, begins_no_operand}
use Rattle.language.specs.Pieces.{Piece, Role, tok, sign, term, sp, put, absent, ending, behind_value, behind_key, never, statement, module_item}
use Rattle.language.specs.Expressions.{assignment, property_name, function_words}
use Rattle.language.specs.Statements.{for_left, is_module_item, module_prologue}
use Rattle.covers.specs.declared.list.ListItem.{ListItem}
use Rattle.parser_tables.specs.Methods.{member_flags}
use Rattle.parser_tables.specs.declared.operand.Operand.{Operand}
use Rattle.parser_tables.specs.declared.expression_context.ExpressionContext.{ExpressionContext}
use Rattle.parser_tables.specs.Tests.{ends}
use Rattle.parser_tables.specs.declared.functions_and_classes.FunctionOrClass.{FunctionOrClass}
use Rattle.parser_tables.specs.declared.functions_and_classes.FunctionOrClass.TheVariants as closure
use Rattle.parser_tables.specs.declared.statements.StatementListEnd.TheVariants as until
use Rattle.parser_tables.specs.declared.statements.StatementContext.{StatementContext}
use Rattle.recursive_descent.specs.declared.properties.PropertyName.{PropertyName}
use Rattle.recursive_descent.specs.Soundness.{RunsIn, anywhere, ReadAt}
use Rattle.recursive_descent.specs.Expectations.{IsUnbroken}
use Rattle.recursive_descent.specs.SoundnessOfStatements.{context_role}
use Rattle.recursive_descent.specs.Completeness.{Agrees, Room, EndsWith, FinishedIn, FirstAs, IsFirst}
use Rattle.recursive_descent.specs.CompletenessOfLists.{DefinitionEnds}
use Rattle.covers.specs.Shapes as shapes
use Rattle.language.specs.declared.Edge.TheVariants.{Closed}
use Rattle.tokens.specs.declared.token.TokenClass.{TokenClass}
use Rattle.tokens.specs.declared.token.TokenClass.TheVariants as class
use Rattle.tree.specs.Uses.{is_function_form, is_async}
use Rattle.tokens.specs.Scanned.{token_of}

-- the form with the `*` of a generator
abbrev pub with_star : Form → Form
with_star Async = AsyncGenerator
with_star form = Generator

-- a `*` was passed, or none stands there that may
abbrev pub StarredAt : CursorState → CursorState → Form → Form → Type 0
StarredAt s e x y =
    ((is_of_2022 s.text.language ≡ true) × ReadsHere s.text Punctuator (codes "*") s.last e.last × (y ≡ with_star x))
    ⊎ ((e.last ≡ s.last) × (y ≡ x) × (is_of_2022 s.text.language ≡ true → Misses s.text Punctuator (codes "*") s.last))

-- the words of a function behind the first of them
abbrev pub behind_first : List Piece → List Piece
behind_first [] = []
behind_first (q ∷ qs) = qs

-- the `*` of a generator, a word of 2022, is passed where it stands
abbrev pub is_starred : Form → Bool
is_starred Generator = true
is_starred AsyncGenerator = true
is_starred form = false

abbrev pub StarTold : SourceText → Token → Form → Type 0
StarTold text e y = (is_starred y ≡ true → is_of_2022 text.language ≡ true) × (is_starred y ≡ false → is_of_2022 text.language ≡ true → Misses text Punctuator (codes "*") e)

abbrev pub WordsAt : CursorState → CursorState → Form → Type 0
WordsAt s e y = (is_function_form y ≡ true) × ((o : ℕ) → RunsIn s.text o (anywhere (behind_first (function_words y))) none s.last e.last []) × StarTold s.text e.last y

-- the first word of a function was passed: `function`, or `async` with what stands on its line
abbrev pub FirstWord : CursorState → Form → Type 0
FirstWord s x = (x ≡ Init) ⊎ ((x ≡ Async) × IsUnbroken s)

abbrev pub FirstWordOf : CursorState → FunctionOrClass → Type 0
FirstWordOf s (closure.FunctionDeclaration x) = FirstWord s x
FirstWordOf s (closure.DefaultFunction x) = FirstWord s x
FirstWordOf s c = Unit {0}

-- the word `function` is missing behind `async`
abbrev pub MissesWord : CursorState → Form → Type 0
MissesWord s x = (x ≡ Async) × Misses s.text IdentifierName (codes "function") s.last

abbrev pub MissesWordOf : CursorState → FunctionOrClass → Type 0
MissesWordOf s (closure.FunctionDeclaration x) = MissesWord s x
MissesWordOf s (closure.DefaultFunction x) = MissesWord s x
MissesWordOf s c = ⊥

-- the language has functions of this form
abbrev pub FormOfLanguage : SourceText → Form → Type 0
FormOfLanguage text x = text.language ≡ Base → is_later_form x ≡ false

-- a declaration whose first word was passed, and what it then is, with its other words
abbrev pub WordsOf : FunctionOrClass → FunctionOrClass → CursorState → CursorState → Type 0
WordsOf (closure.FunctionDeclaration x) (closure.FunctionDeclaration y) s e = WordsAt s e y × (is_async y ≡ is_async x)
WordsOf (closure.DefaultFunction x) (closure.DefaultFunction y) s e = WordsAt s e y × (is_async y ≡ is_async x)
WordsOf c d s e = (d ≡ c) × (e.last ≡ s.last)

-- the name behind a dot, and that none stands there
abbrev pub MemberNameAt : CursorState → CursorState → Tree → Type 0
MemberNameAt s e n = (o : ℕ) → RunsIn s.text o (anywhere (property_name (kind_of n) ∷ [])) (part n none) s.last e.last []

abbrev pub is_member_name : SourceText → TokenClass → Bool
is_member_name text class.PrivateName = is_of_2022 text.language
is_member_name text c = is_word_class c

abbrev pub NoMemberName : CursorState → Type 0
NoMemberName s = (t e : Token) → SeenNext s.text s.last t e → is_member_name s.text t.class ≡ false

-- behind a `yield` a token is read, by some goal, that begins no operand; each that is read may begin one
abbrev pub SeesNoOperand : SourceText → Token → Type 0
SeesNoOperand text s = (t : Token) × (m : Token) × SeenNext text s t m × (begins_no_operand t ≡ true)

abbrev pub MaySeeOperand : SourceText → Token → Type 0
MaySeeOperand text s = (t m : Token) → SeenNext text s t m → begins_no_operand t ≡ false

-- the text of a key that is a name, of whose token it is told
abbrev pub field_word : Option Scanned → List ℕ
field_word None = []
field_word (Some t) = cond (same_class IdentifierName t.class) t.text.now []

-- what an `async` begins that was passed
abbrev pub AsyncBegun : SourceText → ExpressionContext → Token → AsyncStart → Type 0
AsyncBegun text p s begun.Function = (e : Token) × ReadsHere text IdentifierName (codes "function") s e × (e.after_break ≡ false) × (takes_function_or_class p.start ≡ true)
AsyncBegun text p s begun.Parameter = (m : Token) × (e : Token) × NameHere text is_free_name s m × (m.after_break ≡ false) × ReadsHere text Punctuator (codes "=>") m e × (e.after_break ≡ false) × IsTrue (takes p.rank Assignment)
AsyncBegun text p s begun.Parentheses = (e : Token) × ReadsHere text Punctuator (codes "(") s e × (e.after_break ≡ false) × IsTrue (takes p.rank Assignment)
AsyncBegun text p s begun.Name =
    ((e : Token) → ReadsHere text IdentifierName (codes "function") s e → e.after_break ≡ false → takes_function_or_class p.start ≡ false)
    × ((m e : Token) → NameHere text is_free_name s m → m.after_break ≡ false → ReadsHere text Punctuator (codes "=>") m e → e.after_break ≡ false → IsFalse (takes p.rank Assignment))
    × ((e : Token) → ReadsHere text Punctuator (codes "(") s e → e.after_break ≡ false → IsFalse (takes p.rank Assignment))

-- a static block begins there
abbrev pub BeginsStaticBlock : SourceText → Token → Type 0
BeginsStaticBlock text s = (is_of_2022 text.language ≡ true) × ((m : Token) × ReadsHere text IdentifierName (codes "static") s m × Sees text Punctuator (codes "{") m)

-- a field behind its key, which is this word or another: without a value, or with one
abbrev pub field_pieces : List ℕ → Bool → Parts → List Piece
field_pieces w is_static (gap none) = absent ∷ ending (behind_key w is_static) ∷ []
field_pieces w is_static (part v none) = sp ∷ sign "=" ∷ sp ∷ assignment ∷ ending (behind_value (edge v)) ∷ []
field_pieces w is_static _ = never ∷ []

pub record FieldAt (text : SourceText) (k : PropertyName) (is_static : Bool) (from : ℕ) (item : ListItem) (o : ℕ) (m e : Token) (Q : List Pair) : Type 0 where
  pub value : Parts
  pub tree : item.node ≡ node PropertyDefinition [] (member_flags k.computed is_static Init) from e.stop (part k.node value)
  pub plain : item ≡ record { node = item.node; shape = shapes.value; spreads = false; is_flagged = false; edge = Closed }
  pub runs : RunsIn text o (anywhere (field_pieces (field_word k.token) is_static value)) value m e Q

-- what begins with the name `async`, which was passed, at a position
abbrev pub NamedAsync : SourceText → ExpressionContext → Operand → ℕ → Token → Token → List Pair → Type 0
NamedAsync text p r o m e Q = (s : Token) → ReadsHere text IdentifierName (codes "async") s m → ReadAt text p r o s e Q

-- `async` as the token that it is, where parentheses stand behind it on its line and the position takes an arrow
abbrev pub AsyncAt : SourceText → ExpressionContext → Scanned → Operand → ℕ → Token → Token → List Pair → Type 0
AsyncAt text p t r o m e Q = (s : Token) → SeenNext text s (as_read (token_of t)) m → t.class ≡ IdentifierName → (as_read (token_of t)).text ≡ codes "async" → AsyncBegun text p m begun.Parentheses → ReadAt text p r o s e Q

-- the call of what this token names
abbrev pub async_call_node : LexicalToken → ℕ → Parts → Tree
async_call_node t end given = node CallExpression [] plain t.start end (part (single_node Identifier t) given)

-- a `for await` behind its `for` (14.7.5 of the 13th edition); behind one that ends in an `if` without `else` stands no `else`
abbrev pub for_await_pieces : Bool → Parts → List Piece
for_await_pieces r ps = tok class.Keyword (codes "await") ∷ sp ∷ sign "(" ∷ for_left ps ∷ sp ∷ term "of" ∷ sp ∷ assignment ∷ sign ")" ∷ sp ∷ put (statement r) ∷ []

pub record ForAwaitAt (text : SourceText) (r : Bool) (from : ℕ) (n : Tree) (o : ℕ) (m e : Token) (Q : List Pair) : Type 0 where
  pub parts : Parts
  pub tree : n ≡ node ForOfStatement [] (record plain { form = Async }) from e.stop parts
  pub runs : RunsIn text o (anywhere (for_await_pieces r parts)) parts m e Q
  pub dangles : ends_in_if n ≡ true → Misses text IdentifierName (codes "else") e

-- the position of an item of a module
abbrev pub item_of_module : StatementContext → Tree → Role
item_of_module c n = cond (is_module_item (kind_of n)) module_item (context_role c)

module _ (s e : CursorState) (old new : List Pair) (high : ℕ) where
  -- a field behind its key, where what may follow a member follows
  abbrev pub FieldComplete : PropertyName → Bool → ℕ → Result ListItem Fault → Type 0
  FieldComplete k is_static from result = (value : Parts) (o : ℕ) (to : Token) (P : List Pair) → RunsIn s.text o (anywhere (field_pieces (field_word k.token) is_static value)) value s.last to P → DefinitionEnds s.text true to → AllOfLanguage s.text value →
      let made = node PropertyDefinition [] (member_flags k.computed is_static Init) from to.stop (part k.node value) in
      Agrees (Room s o (height made) high) (λ item. (item.node ≡ made) × EndsWith s e old new to P) result

  -- what begins with the name `async`, which was passed; the same where parentheses stand behind it on its line and the position takes an arrow
  abbrev pub AsyncComplete : ExpressionContext → Result Operand Fault → Type 0
  AsyncComplete p result = (a : Reading) (h : Rank) (o : ℕ) (n : Tree) (from to : Token) (P : List Pair) → is_of_2022 s.text.language ≡ true → ReadsHere s.text IdentifierName (codes "async") from s.last → FirstAs s.text p o n from to P a h → OfLanguage s.text n →
      Agrees (Room s o (height n) high) (λ r. IsFirst a h r n × EndsWith s e old new to P) result

  abbrev pub AsyncCallComplete : Scanned → ExpressionContext → Result Operand Fault → Type 0
  AsyncCallComplete t p result = (a : Reading) (h : Rank) (o : ℕ) (n : Tree) (from to : Token) (P : List Pair) → is_of_2022 s.text.language ≡ true → SeenNext s.text from (as_read (token_of t)) s.last → t.class ≡ IdentifierName → (as_read (token_of t)).text ≡ codes "async" →
      AsyncBegun s.text p s.last begun.Parentheses → FirstAs s.text p o n from to P a h → OfLanguage s.text n → Agrees (Room s o (height n) high) (λ r. IsFirst a h r n × EndsWith s e old new to P) result

  -- a `for await` behind its `for`, where what may follow it follows
  abbrev pub ForAwaitComplete : Bool → ℕ → Result Tree Fault → Type 0
  ForAwaitComplete r from result = (ps : Parts) (o : ℕ) (to : Token) (P : List Pair) → RunsIn s.text o (anywhere (for_await_pieces r ps)) ps s.last to P →
      let made = node ForOfStatement [] (record plain { form = Async }) from to.stop ps in
      FinishedIn s.text made to → AllOfLanguage s.text ps → Agrees (Room s o (suc (parts_height ps)) high) (λ n. (n ≡ made) × EndsWith s e old new to P) result

  -- the items of a module
  abbrev pub ModuleComplete : Result Parts Fault → Type 0
  ModuleComplete result = (ps : Parts) (o : ℕ) (to : Token) (P : List Pair) → RunsIn s.text o (anywhere (module_prologue true ps)) ps s.last to P → SeesBy s.text Div (ends until.EndOfText) to → AllOfLanguage s.text ps →
      Agrees (Room s o (parts_height ps) high) (λ nodes. (nodes ≡ ps) × EndsWith s e old new to P) result
