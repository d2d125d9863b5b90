-- What is proved of the definitions.
use Rattle.std.specs.Prelude.{◌≡◌, ◌↔◌, ◌≤◌, ℕ, Bool, true, false, ◌&&◌, List, ◌++◌, length, map, ◌∷◌, []}
use Rattle.tree.specs.declared.kind.Kind.{Kind}
use Rattle.tree.specs.declared.kind.Kind.TheVariants.{Literal, ArrowFunctionExpression, NewExpression, ImportDeclaration, ImportDefaultSpecifier}
use Rattle.tree.specs.declared.kind.Pair.{Pair}
use Rattle.tree.specs.Tree.{Tree, node, Parts, none, part, kind_of, bare, height, SameTree}
use Rattle.language.specs.FirstPart.{others}
use Rattle.language.specs.Vocabulary.{is_identifier}
use Rattle.language.specs.Pieces.{Role, script, PieceOf, is_none}
use Rattle.language.specs.Grammar.{ways}
use Rattle.language.specs.Token.{Token, as_read}
use Rattle.language.specs.Cursor.{beginning, Next, behind}
use Rattle.language.specs.Derivation.{Among, Spells}
use Rattle.language.specs.Search.{spelled}
use Rattle.language.specs.Cost.{AtMost, least}
use Rattle.language.specs.Layout.{wrapped_rows, has_number, fixed_text}
use Rattle.language.specs.LayoutFits.{fits}
use Rattle.language.specs.Printed.{items_text, printed, open_in, pair_count, Follows, GoesOn}
use Rattle.std.specs.Str.{IsUtf8}
use Rattle.language.specs.Places.{NextIn, itself}
use Rattle.tokens.specs.Reading.{any_goal}
use Rattle.language.specs.Claims.{Derives, DerivesOpen, WithinLimits, max_height, max_open}
use Rattle.language.specs.declared.Language.{Language}
use Rattle.language.specs.Languages.{DerivesOpenIn, DerivesIn}
use Rattle.tokens.specs.Tokens.{LexicalToken, IsReading}
use Rattle.std.specs.Str.{chars, IsUtf8}

-- Two ways to spell a node: an arrow with one plain parameter, with its parentheses or without; a `new` without arguments,
-- with its parentheses or without; an import without names in braces, with empty braces or without.
abbrev pub is_literal : Kind → Bool
is_literal Literal = true
is_literal _ = false

abbrev pub is_default : Kind → Bool
is_default ImportDefaultSpecifier = true
is_default _ = false

abbrev pub two_ways_at : Kind → Parts → Bool
two_ways_at ArrowFunctionExpression (part tree (part b none)) = is_identifier (kind_of tree)
two_ways_at NewExpression parts = is_none (others parts)
two_ways_at ImportDeclaration (part tree none) = is_literal (kind_of tree)
two_ways_at ImportDeclaration (part tree (part source none)) = is_default (kind_of tree) && is_literal (kind_of source)
two_ways_at _ parts = false

abbrev pub has_two_ways : Tree → Bool
has_two_ways (node kind text flags from to parts) = two_ways_at kind parts

-- any other node has at most one way at a position
abbrev pub AtMostOneWay : Type 0
AtMostOneWay = (a : Role) (n : Tree) (qs rs : List (PieceOf Role)) → has_two_ways n ≡ false → Among qs (ways a n) → Among rs (ways a n) → qs ≡ rs

-- the search finds what the tokens spell, all of it and nothing else
abbrev pub FindsDerivations : Type 0
FindsDerivations = (n : Tree) (a : Role) (ts us : List Token) (P : List Pair) → Among (us, P) (spelled n a ts) ↔ ((o : ℕ) × Spells ways (List Token) Next behind o a n ts us P)

-- however tokens spell the same tree at a position, there are at least as many pairs as its cost there
abbrev pub NoFewerPairsOfTokens : Type 0
NoFewerPairsOfTokens =
    (n m : Tree) (a : Role) (o : ℕ) (ts us : List Token) (P : List Pair) → SameTree m n → Spells ways (List Token) Next behind o a m ts us P → AtMost (least n a) (length P)

-- so every derivation of every text with the same tree has at least the computed cost of pairs
abbrev pub NoFewerPairs : Type 0
NoFewerPairs = (n m : Tree) (text : List ℕ) (P : List Pair) → SameTree m n → Derives text m P → AtMost (least n script) (length P)

-- and in each language
abbrev pub NoFewerPairsIn : Type 0
NoFewerPairsIn = (language : Language) (n m : Tree) (text : List ℕ) (P : List Pair) → SameTree m n → DerivesIn language text m P → AtMost (least n script) (length P)

-- a derivation stays one when tokens are added behind those that it looks at
abbrev pub StaysWithMoreTokens : Type 0
StaysWithMoreTokens =
    (n : Tree) (a : Role) (o : ℕ) (ts us vs : List Token) (P : List Pair) →
    Spells ways (List Token) Next behind o a n ts us P → Spells ways (List Token) Next behind o a n (ts ++ vs) (us ++ vs) P

-- places change no way
abbrev pub PlacesChangeNoWay : Type 0
PlacesChangeNoWay = (a : Role) (n : Tree) → ways a (bare n) ≡ ways a n

-- a reading of a text is one way to read it at its own places: what its tokens spell, the text derives
abbrev pub ReadingsAreDerived : Type 0
ReadingsAreDerived =
    (o : ℕ) (text : List ℕ) (n : Tree) (P : List Pair) (tokens : List LexicalToken) (final : Token) → IsUtf8 text → IsReading 0 (chars text) tokens →
    Spells ways (List Token) Next behind o script n (beginning ∷ map as_read tokens) (final ∷ []) P → DerivesOpen o text n P

-- what a text derives can be laid out: each node can be spelled where it stands, or in a pair where it is wrapped
abbrev pub DerivedFits : Type 0
DerivedFits = (text : List ℕ) (n : Tree) (P : List Pair) → Derives text n P → fits (has_number (wrapped_rows n script 1)) n script 1 ≡ true

-- and in each language
abbrev pub DerivedFitsIn : Type 0
DerivedFitsIn = (language : Language) (text : List ℕ) (n : Tree) (P : List Pair) → DerivesIn language text n P → fits (has_number (wrapped_rows n script 1)) n script 1 ≡ true

-- the layout's text is that of its items
abbrev pub LayoutIsItems : Type 0
LayoutIsItems = (n : Tree) → items_text (printed (has_number (wrapped_rows n script 1)) n script 1 0) ≡ fixed_text n

-- what reads the items of a layout spells the same tree, with a pair for each node in parentheses
abbrev pub LayoutIsSpelled : Type 0
LayoutIsSpelled =
    (W : ℕ → Bool) (n : Tree) (a : Role) (r d o : ℕ) (ts us : List Token) → fits W n a r ≡ true → open_in W n a r ≤ o →
    Follows (List Token) Next behind (printed W n a r d) ts us → GoesOn (List Token) Next behind us →
    (m : Tree) × (P : List Pair) × SameTree m n × Spells ways (List Token) Next behind o a m ts us P × (length P ≡ pair_count W n a r)

-- where a text is read as the layout of a tree that some text derives, it derives the same tree, with a pair for each wrapped node
abbrev pub LayoutDerives : Type 0
LayoutDerives =
    (other : List ℕ) (n : Tree) (P : List Pair) → Derives other n P → (text : List ℕ) (last : Token) (o : ℕ) →
    Follows Token (NextIn text any_goal) itself (printed (has_number (wrapped_rows n script 1)) n script 1 0) beginning last → GoesOn Token (NextIn text any_goal) itself last →
    open_in (has_number (wrapped_rows n script 1)) n script 1 ≤ o →
    (m : Tree) × (Q : List Pair) × SameTree m n × DerivesOpen o text m Q × (length Q ≡ length (wrapped_rows n script 1))

-- the fixed text of a script that some text derives derives the script, with a pair for each wrapped node
abbrev pub FixedTextDerives : Type 0
FixedTextDerives =
    (other : List ℕ) (n : Tree) (P : List Pair) → IsUtf8 other → Derives other n P →
    (m : Tree) × (Q : List Pair) × SameTree m n × DerivesOpen (open_in (has_number (wrapped_rows n script 1)) n script 1) (fixed_text n) m Q × (length Q ≡ length (wrapped_rows n script 1))

-- and in each language
abbrev pub FixedTextDerivesIn : Type 0
FixedTextDerivesIn =
    (language : Language) (other : List ℕ) (n : Tree) (P : List Pair) → IsUtf8 other → DerivesIn language other n P →
    (m : Tree) × (Q : List Pair) × SameTree m n × DerivesOpenIn language (open_in (has_number (wrapped_rows n script 1)) n script 1) (fixed_text n) m Q × (length Q ≡ length (wrapped_rows n script 1))

abbrev pub FixedTextWithinLimitsIn : Type 0
FixedTextWithinLimitsIn =
    (language : Language) (other : List ℕ) (n : Tree) (P : List Pair) → IsUtf8 other → height n ≤ max_height → DerivesOpenIn language max_open other n P →
    (m : Tree) × (Q : List Pair) × SameTree m n × (height m ≤ max_height) × DerivesOpenIn language max_open (fixed_text n) m Q × (length Q ≡ length (wrapped_rows n script 1))

-- a fixed text is refused neither for height nor for open parentheses
abbrev pub FixedTextWithinLimits : Type 0
FixedTextWithinLimits =
    (other : List ℕ) (n : Tree) (P : List Pair) → IsUtf8 other → WithinLimits other n P →
    (m : Tree) × (Q : List Pair) × SameTree m n × WithinLimits (fixed_text n) m Q × (length Q ≡ length (wrapped_rows n script 1))

-- places change neither the wrapped nodes nor the fixed text
abbrev pub PlacesChangeNoLayout : Type 0
PlacesChangeNoLayout = (m n : Tree) → SameTree m n → (wrapped_rows m script 1 ≡ wrapped_rows n script 1) × (fixed_text m ≡ fixed_text n)
