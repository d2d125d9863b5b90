-- Cells that are the least numbers of pairs, each attained by the node's own layout.
use Rattle.std.specs.Prelude.{◌≡◌, ◌≤◌, ℕ, suc, false, List, [], ◌∷◌, ◌++◌, map, codes, length, slice_get, Option, Some, None}
use Rattle.tokens.specs.declared.token.TokenClass.{TokenClass}
use Rattle.tokens.specs.declared.token.TokenClass.TheVariants.{Punctuator}
use Rattle.tree.specs.declared.kind.Pair.{Pair}
use Rattle.tree.specs.Tree.{Tree, parts_of, kind_of, SameTree}
use Rattle.tokens.specs.Reading.{any_goal}
use Rattle.language.specs.Places.{NextIn, itself}
use Rattle.language.specs.Derivation.{Among, Runs}
use Rattle.language.specs.Token.{Token}
use Rattle.language.specs.Cursor.{beginning}
use Rattle.language.specs.Pieces.{Role, script, PieceOf}
use Rattle.language.specs.Grammar.{ways}
use Rattle.language.specs.RowPositions.{first_roles}
use Rattle.language.specs.Layout.{parts_wrapped, has_number, first_way, parts_layout}
use Rattle.language.specs.Printed.{Item, word, parts_printed}
use Rattle.language.specs.Claims.{Table, table_cell, row_nodes, contexts, SpellsDirectly, Fewest}

-- a token without its place, with no line break before it
abbrev pub token_of : TokenClass → List ℕ → Token
token_of token_class w = record { class = token_class; text = w; start = 0; stop = 0; after_break = false }

-- the tokens of a layout's items
abbrev pub item_tokens : List Item → List Token
item_tokens [] = []
item_tokens (word c w ∷ is) = token_of c w ∷ item_tokens is
item_tokens (_ ∷ is) = item_tokens is

-- the rows of the wrapped nodes in a node that is spelled directly at a position; its own row counts as the first
unfoldable pub inner_wrapped : Tree → Role → List ℕ
inner_wrapped tree role = parts_wrapped (parts_of tree) (first_roles (ways role tree)) 2

-- the layout of the node itself, without a pair round it, with its nodes wrapped as the position asks
unfoldable pub laid_directly : Tree → Role → List Item
laid_directly tree role = parts_printed (has_number (inner_wrapped tree role)) (parts_of tree) (first_way (ways role tree)) 2 0 false

-- what stands behind it
abbrev pub closing : Token
closing = token_of Punctuator (codes ")")

abbrev pub laid_tokens : Tree → Role → List Token
laid_tokens tree role = beginning ∷ (item_tokens (laid_directly tree role) ++ closing ∷ [])

-- the tokens of its layout spell the node directly there, with so many pairs
abbrev pub SpelledAsLaid : Role → Tree → ℕ → Type 0
SpelledAsLaid role tree c = (last : Token) × (P : List Pair) × SpellsDirectly role tree (laid_tokens tree role) (last ∷ closing ∷ []) P × (length P ≡ c)

-- the text of the same layout, and the `)` behind it
abbrev pub laid_text : Tree → Role → List ℕ
laid_text tree role = parts_layout (has_number (inner_wrapped tree role)) (parts_of tree) (first_way (ways role tree)) 2 0 false ++ codes ")"

-- so does the text, at its own places
abbrev pub SpelledInText : Role → Tree → ℕ → Type 0
SpelledInText role tree c =
    (last : Token) × (P : List Pair) × (m : Tree) × (o : ℕ) × (qs : List (PieceOf Role)) × SameTree m tree × Among qs (ways role m) ×
    Runs ways Token (NextIn (laid_text tree role) any_goal) itself o qs (parts_of m) beginning last P × (length P ≡ c)

-- the cell is the least number of pairs over all direct spellings, attained by the layout; none where there is no spelling
abbrev pub IsLeast : Role → Tree → Option ℕ → Type 0
IsLeast role tree None = (ts us : List Token) (P : List Pair) → SpellsDirectly role tree ts us P → ⊥
IsLeast role tree (Some c) = ((ts us : List Token) (P : List Pair) → SpellsDirectly role tree ts us P → c ≤ length P) × SpelledAsLaid role tree c × SpelledInText role tree c

pub record Exact (t : Table) (n : Tree) : Type 0 where
  pub shape : Rattle.std.specs.Prelude.map (λ x. x.0) t.rows ≡ Rattle.std.specs.Prelude.map kind_of (row_nodes n script)
  pub cells : (r : ℕ) (m : Tree) → slice_get (row_nodes n script) r ≡ Some m → (c : ℕ) (a : Role) → slice_get contexts c ≡ Some a → IsLeast a m (table_cell t (suc r) c)
  pub total : Fewest n t.total
