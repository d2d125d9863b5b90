-- What functions that read tokens and make nodes of them leave behind.
use Rattle.std.specs.Prelude.{◌+◌, ◌-◌, ◌++◌, length, ◌≡◌, ℕ, ◌≤◌, ◌<◌, ◌⊎◌, Bool, true, false, ◌&&◌, List, [], Option, Some, None, codes}
use Rattle.source_text.specs.declared.fault.Fault.{Fault}
use Rattle.source_text.specs.declared.fault.Fault.TheVariants.{Syntax, TooDeep, OutOfMemory}
use Rattle.tokens.specs.declared.token.TokenClass.TheVariants.{IdentifierName, Punctuator, Template}
use Rattle.tokens.specs.declared.token.Goal.TheVariants.{Div, TemplateTail}
use Rattle.tokens.specs.Tokens.{LexicalToken}
use Rattle.token_cursor.specs.CursorState.{CursorState, IsAhead, NoneAhead}
use Rattle.tree.specs.declared.kind.Kind.TheVariants.{Identifier, MetaProperty, TemplateElement}
use Rattle.tree.specs.Tree.{Tree, node, Parts, part, gap, none, plain, part_count}
use Rattle.covers.specs.declared.list.ListKind.{ListKind}
use Rattle.covers.specs.declared.list.ListItem.{ListItem}
use Rattle.covers.specs.declared.list.ListBuilder.{ListBuilder as ListOf}
use Rattle.covers.specs.Lists.{opening, closing, is_ended}
use Rattle.parser_tables.specs.declared.functions_and_classes.FunctionOrClass.{FunctionOrClass}
use Rattle.parser_tables.specs.declared.functions_and_classes.FunctionOrClass.TheVariants as closure
use Rattle.recursive_descent.specs.declared.subscripts.Subscript.{Subscript}
use Rattle.recursive_descent.specs.declared.subscripts.Subscript.TheVariants as link
use Rattle.parser_tables.specs.Items.{is_unseparated, list_from, with_item}
use Rattle.covers.specs.declared.list.ListKind.TheVariants as listed
use Rattle.language.specs.Token.{Token}
use Rattle.recursive_descent.specs.TemplateElements.{front, back}
use Rattle.recursive_descent.specs.Subscripts.{link_by}
use Rattle.token_cursor.specs.CursorState.{IsPlaceHere}
use Rattle.token_cursor.specs.Seen.{MissesBy, SeesBy, Sees, ReadsHere, Misses, NameHere, NoName, is_free_name}
use Rattle.parser_tables.specs.Tests.{is_later_part, is_template}
use Rattle.parser_tables.specs.Tokens.{single_node}
use Rattle.token_cursor.specs.SourceText.{SourceText}

-- a declaration has a name; a method has none
abbrev pub asks_name : FunctionOrClass → Bool
asks_name (closure.FunctionDeclaration form) = true
asks_name closure.ClassDeclaration = true
asks_name _ = false

abbrev pub may_name : FunctionOrClass → Bool
may_name (closure.Method form) = false
may_name _ = true

-- the name as the first part, or a gap where there is none
abbrev pub NamedAt : FunctionOrClass → CursorState → CursorState → ℕ → Parts → Type 0
NamedAt c s e high ps =
    ((may_name c ≡ true) × NameHere s.text is_free_name s.last e.last × (ps ≡ part (single_node Identifier e.last) none) × (1 ≤ high))
    ⊎ ((asks_name c ≡ false) × (may_name c ≡ true → NoName s.text is_free_name s.last) × (ps ≡ gap none) × (e.last ≡ s.last))

abbrev pub NotNamed : FunctionOrClass → CursorState → ℕ → Fault → Type 0
NotNamed c s high (Syntax at) = (asks_name c ≡ true) × NoName s.text is_free_name s.last
NotNamed c s high TooDeep = high < 1
NotNamed c s high OutOfMemory = Unit {0}
NotNamed c s high _ = ⊥

-- what stands before the first item was passed; a template is begun by its first part, which `chunk` reads
abbrev pub BegunAt : CursorState → CursorState → ListOf → Type 0
BegunAt s e l =
    IsPlaceHere s l.span.start
    × ((w : List ℕ) → opening l.listed ≡ Some w → ReadsHere s.text Punctuator w s.last e.last × (l ≡ list_from l.listed l.span.start))
    × (opening l.listed ≡ None → is_unseparated l.listed ≡ false → (e.last ≡ s.last) × (l ≡ list_from l.listed l.span.start))

-- no punctuator stands there that the list begins with
abbrev pub NotBegun : ListKind → CursorState → ℕ → Fault → Type 0
NotBegun l s high (Syntax at) = (w : List ℕ) → opening l ≡ Some w → Misses s.text Punctuator w s.last
NotBegun l s high TooDeep = (is_unseparated l ≡ true) × (high < 1)
NotBegun l s high OutOfMemory = Unit {0}
NotBegun l s high _ = ⊥

-- no template stands there
abbrev pub NoTemplate : ListKind → CursorState → Fault → Type 0
NoTemplate l s (Syntax at) = l ≡ listed.Template → MissesBy s.text Div is_template s.last
NoTemplate l s fault = Unit {0}

-- a list that begins with no sign is begun always, but for a template
abbrev pub Unopened : ListKind → Fault → Type 0
Unopened l (Syntax at) = opening l ≡ None → l ≡ listed.Template
Unopened l TooDeep = l ≡ listed.Template
Unopened l _ = Unit {0}

-- a comma was passed behind the last item; nothing was, where it ends the list, or where nothing stands between items
abbrev pub CommaAt : CursorState → CursorState → ListOf → Bool → Type 0
CommaAt s e l true = (is_ended l.listed l.seen (part_count l.nodes) ≡ false) × ((is_unseparated l.listed ≡ true → e.last ≡ s.last) × (is_unseparated l.listed ≡ false → ReadsHere s.text Punctuator (codes ",") s.last e.last))
CommaAt s e l false = (e.last ≡ s.last) × ((is_ended l.listed l.seen (part_count l.nodes) ≡ true) ⊎ ((is_unseparated l.listed ≡ false) × Misses s.text Punctuator (codes ",") s.last))

-- behind what was read: a `.`, a `?.`, or neither, and then what follows by its first token
abbrev pub PassedSign : CursorState → CursorState → Subscript → Bool → Type 0
PassedSign s e link.Name false = ReadsHere s.text Punctuator (codes ".") s.last e.last
PassedSign s e l true = ReadsHere s.text Punctuator (codes "?.") s.last e.last
PassedSign s e l false = (e.last ≡ s.last) × Misses s.text Punctuator (codes "?.") s.last × Misses s.text Punctuator (codes ".") s.last

abbrev pub is_quasi : Subscript → Bool
is_quasi link.Quasi = true
is_quasi _ = false

abbrev pub LinkedAt : CursorState → CursorState → Subscript → Bool → Type 0
LinkedAt s e link.Name false = PassedSign s e link.Name false
LinkedAt s e l optional = PassedSign s e l optional × ((is_quasi l && optional) ≡ false) × ((t : LexicalToken) × IsAhead Div e.text e.last.stop t × (link_by t.class t.text ≡ Some l))

-- the first token is none of those that go on so: behind a `?.` no template, and without a sign no name
abbrev pub unlinks : Bool → Option Subscript → Bool
unlinks optional None = true
unlinks true (Some link.Quasi) = true
unlinks false (Some link.Name) = true
unlinks optional (Some l) = false

abbrev pub Unlinked : Bool → CursorState → Type 0
Unlinked optional e = NoneAhead Div e.text e.last.stop ⊎ ((t : LexicalToken) × IsAhead Div e.text e.last.stop t × (unlinks optional (link_by t.class t.text) ≡ true))

-- nothing follows so, behind a `?.` or without a sign
abbrev pub NotLinked : CursorState → CursorState → Fault → Type 0
NotLinked s e (Syntax at) = (ReadsHere s.text Punctuator (codes "?.") s.last e.last × Unlinked true e) ⊎ ((e.last ≡ s.last) × Misses s.text Punctuator (codes "?.") s.last × Misses s.text Punctuator (codes ".") s.last × Unlinked false e)
NotLinked s e fault = ⊥

-- `new.target` or `import.meta`, whose words are these tokens
abbrev pub target_node : LexicalToken → LexicalToken → Tree
target_node new target = node MetaProperty [] plain new.start target.stop (part (single_node Identifier new) (part (single_node Identifier target) none))

-- the word isn't there, or there is no room for the two levels
abbrev pub NotTarget : CursorState → List ℕ → ℕ → Fault → Type 0
NotTarget s name high (Syntax at) = Misses s.text IdentifierName name s.last
NotTarget s name high TooDeep = high < 2
NotTarget s name high OutOfMemory = Unit {0}
NotTarget s name high _ = ⊥

-- no part of a template stands there but a first one, or there is no room for it
abbrev pub NoChunk : CursorState → ℕ → Fault → Type 0
NoChunk s high (Syntax at) = MissesBy s.text TemplateTail is_later_part s.last
NoChunk s high TooDeep = high < 1
NoChunk s high OutOfMemory = Unit {0}
NoChunk s high _ = ⊥

-- a part of a template that isn't the first: its characters stand between `}` and what is behind them
abbrev pub chunk_node : List ℕ → Bool → Token → Tree
chunk_node w last t = node TemplateElement w plain (t.start + 1) (t.stop - length (back last)) none

abbrev pub ChunkAt : SourceText → Token → Token → Tree → Bool → Type 0
ChunkAt text s e n last = (w : List ℕ) × ReadsHere text Template (front false ++ (w ++ back last)) s e × (n ≡ chunk_node w last e)

-- the first part: its characters stand between "`" and what is behind them
abbrev pub FirstChunkAt : SourceText → Token → Token → Tree → Bool → Type 0
FirstChunkAt text s e n last = (w : List ℕ) × ReadsHere text Template (front true ++ (w ++ back last)) s e × (n ≡ chunk_node w last e)

-- a template is begun by its first part, where a template stands ahead
pub record BegunTemplate (s e : CursorState) (l : ListOf) : Type 0 where
  pub chunk : ListItem
  pub list : l ≡ with_item (list_from listed.Template l.span.start) chunk
  pub read : FirstChunkAt s.text s.last e.last chunk.node chunk.is_flagged
  pub plain : (chunk.shape.is_expression ≡ true) × (chunk.spreads ≡ false)

abbrev pub TemplateAt : CursorState → CursorState → ListOf → Type 0
TemplateAt s e l = l.listed ≡ listed.Template → SeesBy s.text Div is_template s.last → BegunTemplate s e l

-- semicolons that were passed, one by one
pub data Semicolons (text : SourceText) (s : Token) : Token → Type 0 where
  none_passed : Semicolons text s s
  one_more : {t e : Token} → Semicolons text s t → ReadsHere text Punctuator (codes ";") t e → Semicolons text s e

-- between members they stand for nothing (14.6)
abbrev pub PassedBefore : ListKind → CursorState → CursorState → Type 0
PassedBefore listed.Members s e = Semicolons s.text s.last e.last
PassedBefore _ s e = e.last ≡ s.last

-- the punctuator before which no item stands; a setter's parameter always does
abbrev pub end_before : ListKind → Option (List ℕ)
end_before listed.OneParameter = None
end_before l = closing l

abbrev pub MissesEnd : Option (List ℕ) → CursorState → Type 0
MissesEnd None e = Unit {0}
MissesEnd (Some w) e = Misses e.text Punctuator w e.last

abbrev pub SeesEnd : Option (List ℕ) → CursorState → Type 0
SeesEnd None e = ⊥
SeesEnd (Some w) e = Sees e.text Punctuator w e.last

-- no semicolon stands before the next member
abbrev pub FirstMisses : SourceText → ListKind → Token → Type 0
FirstMisses text listed.Members s = Misses text Punctuator (codes ";") s
FirstMisses text _ s = Unit {0}
