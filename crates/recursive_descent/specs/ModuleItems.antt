-- Imports and exports (ECMA-262, 13th edition, 16.2): what is read of them, from their word on or from behind it.
use Rattle.std.specs.Prelude.{◌≡◌, ℕ, ◌≤◌, Bool, true, false, ◌&&◌, ◌||◌, List, [], ◌∷◌, Result, codes}
use Rattle.source_text.specs.declared.fault.Fault.{Fault}
use Rattle.tokens.specs.declared.token.TokenClass.{TokenClass}
use Rattle.tokens.specs.declared.token.TokenClass.TheVariants.{IdentifierName, Punctuator, StringLiteral}
use Rattle.tokens.specs.declared.token.Token.{Token as Scanned}
use Rattle.tree.specs.declared.kind.Kind.{Kind}
use Rattle.tree.specs.declared.kind.Kind.TheVariants.{Identifier, Literal, ImportDeclaration, ImportSpecifier, ImportDefaultSpecifier, ImportNamespaceSpecifier, ExportSpecifier}
use Rattle.tree.specs.declared.kind.Form.TheVariants.{Init, Async}
use Rattle.tree.specs.declared.kind.Pair.{Pair}
use Rattle.tree.specs.Tree.{Tree, node, plain, Parts, part, gap, none, push, join, kind_of, height, parts_height}
use Rattle.language.specs.Token.{Token, same_class}
use Rattle.language.specs.Vocabulary.{among}
use Rattle.language.specs.Pieces.{sign, absent, ending, of_export, name, directive_string, specifier, module_item}
use Rattle.language.specs.Expressions.{module_name}
use Rattle.language.specs.Statements.{from_source, named_imports, export_list}
use Rattle.token_cursor.specs.CursorState.{CursorState}
use Rattle.token_cursor.specs.SourceText.{SourceText}
use Rattle.token_cursor.specs.Seen.{ReadsHere, Misses, declares, is_word_class}
use Rattle.parser_tables.specs.declared.functions_and_classes.FunctionOrClass.{FunctionOrClass}
use Rattle.parser_tables.specs.declared.functions_and_classes.FunctionOrClass.TheVariants as closure
use Rattle.parser_tables.specs.declared.statements.StatementContext.{StatementContext}
use Rattle.parser_tables.specs.StatementStarts.{AsyncFunctionAhead}
use Rattle.recursive_descent.specs.Later.{item_of_module}
use Rattle.recursive_descent.specs.Spelled.{SpellsIn, OfLanguage}
use Rattle.recursive_descent.specs.Soundness.{RunsIn, anywhere}
use Rattle.recursive_descent.specs.Completeness.{Agrees, Room, EndsWith, FinishedIn}

-- a name or a string, and the kind of its node
abbrev pub names_module : TokenClass → Bool
names_module c = is_word_class c || same_class StringLiteral c

abbrev pub name_kind : TokenClass → Kind
name_kind StringLiteral = Literal
name_kind _ = Identifier

abbrev pub is_module_name : Token → Bool
is_module_name t = names_module t.class

-- a string; the word of a declaration
abbrev pub is_quoted : Token → Bool
is_quoted t = same_class StringLiteral t.class

abbrev pub begins_declaration : Token → Bool
begins_declaration t = same_class IdentifierName t.class && (declares t.text || among t.text ("function" ∷ "class" ∷ []))

-- an import or export whose word, which begins it here, was passed; one behind whose word a further token was passed
abbrev pub ItemAt : SourceText → List ℕ → ℕ → Tree → ℕ → Token → Token → List Pair → Type 0
ItemAt text w from n o m e P = (b : Token) → ReadsHere text IdentifierName w b m → m.start ≡ from → SpellsIn text o module_item n b e P

abbrev pub ExportBehind : SourceText → TokenClass → List ℕ → ℕ → Tree → ℕ → Token → Token → List Pair → Type 0
ExportBehind text c w from n o m e P = (b k : Token) → ReadsHere text IdentifierName (codes "export") b k → k.start ≡ from → ReadsHere text c w k m → SpellsIn text o module_item n b e P

-- one of tokens alone, wherever it stands
abbrev pub ReadWhole : CursorState → CursorState → List ℕ → ℕ → Tree → Type 0
ReadWhole s e w from n = (o : ℕ) → ItemAt s.text w from n o s.last e.last []

abbrev pub ReadBehind : CursorState → CursorState → TokenClass → List ℕ → ℕ → Tree → Type 0
ReadBehind s e c w from n = (o : ℕ) → ExportBehind s.text c w from n o s.last e.last []

-- the specifiers that stand in braces
abbrev pub is_listed : Kind → Bool
is_listed ImportSpecifier = true
is_listed ExportSpecifier = true
is_listed _ = false

-- the names in the braces of an import, before its source; of an export, before its source or without one
abbrev pub SpecifiersAt : Kind → CursorState → CursorState → Parts → Type 0
SpecifiersAt ImportSpecifier s e ps = (source : Tree) (o : ℕ) (to : Token) → RunsIn s.text o (anywhere from_source) (part source none) e.last to [] →
    RunsIn s.text o (anywhere (named_imports (push ps source))) (push ps source) s.last to []
SpecifiersAt ExportSpecifier s e ps = (source : Tree) (o : ℕ) (to : Token) →
    (RunsIn s.text o (anywhere from_source) (part source none) e.last to [] → RunsIn s.text o (anywhere (sign "{" ∷ export_list (push ps source))) (push ps source) s.last to [])
    × (RunsIn s.text o (anywhere (absent ∷ ending of_export ∷ [])) (gap none) e.last to [] → RunsIn s.text o (anywhere (sign "{" ∷ export_list (join ps (gap none)))) (join ps (gap none)) s.last to [])
SpecifiersAt _ s e ps = Unit {0}

abbrev pub SpecifierAt : Kind → CursorState → CursorState → Tree → Type 0
SpecifierAt kind s e n = is_listed kind ≡ true → (kind_of n ≡ kind) × ((o : ℕ) → SpellsIn s.text o specifier n s.last e.last [])

-- a name or a string, and a string
abbrev pub ModuleNameAt : CursorState → CursorState → Tree → Type 0
ModuleNameAt s e n = (o : ℕ) → RunsIn s.text o (anywhere (module_name n ∷ [])) (part n none) s.last e.last []

abbrev pub SourceAt : CursorState → CursorState → Tree → Type 0
SourceAt s e n = (o : ℕ) → SpellsIn s.text o directive_string n s.last e.last []

-- the name behind the `as` of an import or an export
abbrev pub SecondAt : Kind → CursorState → CursorState → Tree → Type 0
SecondAt ImportSpecifier s e n = (o : ℕ) → SpellsIn s.text o name n s.last e.last []
SecondAt _ s e n = ModuleNameAt s e n

-- a specifier that begins at this place and has one part, a name that it binds
abbrev pub binding : Kind → ℕ → Token → Tree → Tree
binding kind start e left = node kind [] plain start e.stop (part left none)

abbrev pub BindingAt : Kind → ℕ → CursorState → CursorState → Tree → Type 0
BindingAt kind start s e n = (left : Tree) × (n ≡ binding kind start e.last left) × ((o : ℕ) → SpellsIn s.text o name left s.last e.last [])

-- what an import has before its source
abbrev pub ClauseAt : CursorState → CursorState → Parts → Type 0
ClauseAt s e ps = (source : Tree) (o from : ℕ) (to : Token) → RunsIn s.text o (anywhere from_source) (part source none) e.last to [] → ItemAt s.text (codes "import") from (node ImportDeclaration [] plain from to.stop (push ps source)) o s.last to []

-- specifiers that are given behind a brace, up to the other
pub data NamesGiven (text : SourceText) (kind : Kind) : Parts → Token → Token → Type 0 where
  closing : {s e : Token} → ReadsHere text Punctuator (codes "}") s e → NamesGiven text kind none s e
  one_more : {o : ℕ} {n : Tree} {ps : Parts} {s k x e : Token} → kind_of n ≡ kind → SpellsIn text o specifier n s k [] → ReadsHere text Punctuator (codes ",") k x → NamesGiven text kind ps x e → NamesGiven text kind (part n ps) s e
  last_one : {o : ℕ} {n : Tree} {s k e : Token} → kind_of n ≡ kind → SpellsIn text o specifier n s k [] → ReadsHere text Punctuator (codes "}") k e → NamesGiven text kind (part n none) s e

-- a whole module's name, or names in braces
pub data FurtherGiven (text : SourceText) : Parts → Token → Token → Type 0 where
  namespace : {o : ℕ} {n : Tree} {s e : Token} → kind_of n ≡ ImportNamespaceSpecifier → SpellsIn text o specifier n s e [] → FurtherGiven text (part n none) s e
  in_braces : {ps : Parts} {s x e : Token} → ReadsHere text Punctuator (codes "{") s x → NamesGiven text ImportSpecifier ps x e → FurtherGiven text ps s e

-- an ImportClause
pub data ClauseGiven (text : SourceText) : Parts → Token → Token → Type 0 where
  default_name : {o : ℕ} {n : Tree} {s e : Token} → kind_of n ≡ ImportDefaultSpecifier → SpellsIn text o specifier n s e [] → Misses text Punctuator (codes ",") e → ClauseGiven text (part n none) s e
  default_and : {o : ℕ} {n : Tree} {ps : Parts} {s k x e : Token} → kind_of n ≡ ImportDefaultSpecifier → SpellsIn text o specifier n s k [] → ReadsHere text Punctuator (codes ",") k x → FurtherGiven text ps x e → ClauseGiven text (part n ps) s e
  no_default : {ps : Parts} {s e : Token} → FurtherGiven text ps s e → ClauseGiven text ps s e

-- The function or class that begins behind `export default`, by its first token, for an async function its first two.
abbrev pub begins_default : Token → Bool
begins_default t = same_class IdentifierName t.class && among t.text ("function" ∷ "class" ∷ [])

abbrev pub DefaultBegun : SourceText → Token → Scanned → FunctionOrClass → Type 0
DefaultBegun text s t (closure.DefaultFunction Init) = (t.class ≡ IdentifierName) × (t.text.now ≡ codes "function")
DefaultBegun text s t (closure.DefaultFunction Async) = (t.class ≡ IdentifierName) × (t.text.now ≡ codes "async") × AsyncFunctionAhead text s
DefaultBegun text s t closure.DefaultClass = (t.class ≡ IdentifierName) × (t.text.now ≡ codes "class")
DefaultBegun text s t c = ⊥

-- What is given of single tokens: a name or a string, a string, a name with what it is a part of, a specifier with no `as` behind it, specifiers, a clause.
module _ (s e : CursorState) (high : ℕ) where
  abbrev pub ModuleNameComplete : Result Tree Fault → Type 0
  ModuleNameComplete result = (o : ℕ) (n : Tree) (to : Token) (P : List Pair) → RunsIn s.text o (anywhere (module_name n ∷ [])) (part n none) s.last to P → Agrees (height n ≤ high) (λ m. (m ≡ n) × (e.last ≡ to)) result

  abbrev pub SourceComplete : Result Tree Fault → Type 0
  SourceComplete result = (o : ℕ) (n : Tree) (to : Token) (P : List Pair) → SpellsIn s.text o directive_string n s.last to P → Agrees (height n ≤ high) (λ m. (m ≡ n) × (e.last ≡ to)) result

  abbrev pub SecondComplete : Kind → Result Tree Fault → Type 0
  SecondComplete ImportSpecifier result = (o : ℕ) (n : Tree) (to : Token) (P : List Pair) → SpellsIn s.text o name n s.last to P → Agrees (height n ≤ high) (λ m. (m ≡ n) × (e.last ≡ to)) result
  SecondComplete _ result = ModuleNameComplete result

  abbrev pub BindingComplete : Kind → ℕ → Result Tree Fault → Type 0
  BindingComplete kind start result = (o : ℕ) (left : Tree) (to : Token) (P : List Pair) → SpellsIn s.text o name left s.last to P → Agrees (height (binding kind start to left) ≤ high) (λ m. (m ≡ binding kind start to left) × (e.last ≡ to)) result

  abbrev pub SpecifierComplete : Kind → Result Tree Fault → Type 0
  SpecifierComplete kind result = (o : ℕ) (n : Tree) (to : Token) (P : List Pair) → is_listed kind ≡ true → kind_of n ≡ kind → SpellsIn s.text o specifier n s.last to P → Misses s.text IdentifierName (codes "as") to → Agrees (height n ≤ high) (λ m. (m ≡ n) × (e.last ≡ to)) result

  abbrev pub SpecifiersComplete : Kind → Parts → Parts → Result (Unit {0}) Fault → Type 0
  SpecifiersComplete kind before after result = (ps : Parts) (x to : Token) → is_listed kind ≡ true → ReadsHere s.text Punctuator (codes "{") s.last x → NamesGiven s.text kind ps x to → Agrees (parts_height ps ≤ high) (λ _. (after ≡ join before ps) × (e.last ≡ to)) result

  abbrev pub ClauseComplete : Parts → Parts → Result (Unit {0}) Fault → Type 0
  ClauseComplete before after result = (ps : Parts) (to : Token) → ClauseGiven s.text ps s.last to → Agrees (parts_height ps ≤ high) (λ _. (after ≡ join before ps) × (e.last ≡ to)) result

module _ (s e : CursorState) (old new : List Pair) (high : ℕ) where
  -- of a given one, whose word was passed
  abbrev pub ItemComplete : List ℕ → ℕ → Result Tree Fault → Type 0
  ItemComplete w from result = (o : ℕ) (n : Tree) (b to : Token) (P : List Pair) → ReadsHere s.text IdentifierName w b s.last → s.last.start ≡ from → SpellsIn s.text o module_item n b to P → OfLanguage s.text n →
      Agrees (Room s o (height n) high) (λ m. (m ≡ n) × EndsWith s e old new to P) result

  -- of a given export, behind whose word a further token was passed
  abbrev pub BehindComplete : TokenClass → List ℕ → ℕ → Result Tree Fault → Type 0
  BehindComplete c w from result = (o : ℕ) (n : Tree) (b k to : Token) (P : List Pair) → ReadsHere s.text IdentifierName (codes "export") b k → k.start ≡ from → ReadsHere s.text c w k s.last → SpellsIn s.text o module_item n b to P → OfLanguage s.text n →
      Agrees (Room s o (height n) high) (λ m. (m ≡ n) × EndsWith s e old new to P) result

  -- An export that ends where the next token says, so what may follow follows: a declaration; behind `default` a function, class or value.
  abbrev pub ExportComplete : ℕ → Result Tree Fault → Type 0
  ExportComplete from result = (o : ℕ) (n : Tree) (b to : Token) (P : List Pair) → ReadsHere s.text IdentifierName (codes "export") b s.last → s.last.start ≡ from → SpellsIn s.text o module_item n b to P → FinishedIn s.text n to → OfLanguage s.text n →
      Agrees (Room s o (height n) high) (λ m. (m ≡ n) × EndsWith s e old new to P) result

  abbrev pub DefaultComplete : ℕ → Result Tree Fault → Type 0
  DefaultComplete from result = (o : ℕ) (n : Tree) (b k to : Token) (P : List Pair) → ReadsHere s.text IdentifierName (codes "export") b k → k.start ≡ from → ReadsHere s.text IdentifierName (codes "default") k s.last → SpellsIn s.text o module_item n b to P → FinishedIn s.text n to → OfLanguage s.text n →
      Agrees (Room s o (height n) high) (λ m. (m ≡ n) × EndsWith s e old new to P) result

  -- an item of a module, at the position of one of a script
  abbrev pub ModuleItemComplete : StatementContext → Result Tree Fault → Type 0
  ModuleItemComplete c result = (o : ℕ) (n : Tree) (to : Token) (P : List Pair) → c.is_item ≡ true → c.returns ≡ false → SpellsIn s.text o (item_of_module c n) n s.last to P → FinishedIn s.text n to → OfLanguage s.text n →
      Agrees (Room s o (height n) high) (λ m. (m ≡ n) × EndsWith s e old new to P) result
