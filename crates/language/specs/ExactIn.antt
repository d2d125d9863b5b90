-- Cost tables that are exact in a language: each cell is the least number of pairs, attained by the node's own layout.
use Rattle.std.specs.Prelude.{◌≡◌, ◌≤◌, ℕ, suc, List, map, length, slice_get, Option, Some, None}
use Rattle.tokens.specs.Reading.{any_goal}
use Rattle.tree.specs.declared.kind.Pair.{Pair}
use Rattle.tree.specs.Tree.{Tree, parts_of, kind_of, SameTree}
use Rattle.language.specs.declared.Language.{Language}
use Rattle.language.specs.Languages.{Seen, seen_in, DerivesIn}
use Rattle.language.specs.Places.{NextIn}
use Rattle.language.specs.Derivation.{Among, Runs}
use Rattle.language.specs.Token.{Token}
use Rattle.language.specs.Cursor.{beginning}
use Rattle.language.specs.Pieces.{Role, script, PieceOf}
use Rattle.language.specs.Grammar.{ways}
use Rattle.language.specs.Claims.{Table, table_cell, row_nodes, contexts, SpellsDirectly}
use Rattle.language.specs.ExactCells.{laid_text, SpelledAsLaid}

-- the text of the node's layout, read in the language, spells it directly, at its own places, with so many pairs
abbrev pub SpelledInTextIn : Language → Role → Tree → ℕ → Type 0
SpelledInTextIn language role tree c =
    (last : Token) × (P : List Pair) × (m : Tree) × (o : ℕ) × (qs : List (PieceOf Role)) × SameTree m tree × Among qs (ways role m) ×
    Runs ways Token (Seen Token (NextIn (laid_text tree role) any_goal) language) (seen_in language) o qs (parts_of m) beginning last P × (length P ≡ c)

-- the cell is the least number of pairs over all direct spellings, attained by the layout; none where there is no spelling
abbrev pub IsLeastIn : Language → Role → Tree → Option ℕ → Type 0
IsLeastIn language role tree None = (ts us : List Token) (P : List Pair) → SpellsDirectly role tree ts us P → ⊥
IsLeastIn language role tree (Some c) = ((ts us : List Token) (P : List Pair) → SpellsDirectly role tree ts us P → c ≤ length P) × SpelledAsLaid role tree c × SpelledInTextIn language role tree c

-- some text of the language derives the tree with this number of pairs, and none of any language derives it with fewer
pub record FewestIn (language : Language) (n : Tree) (count : ℕ) : Type 0 where
  pub attained : (text : List ℕ) × (m : Tree) × (P : List Pair) × SameTree m n × DerivesIn language text m P × (length P ≡ count)
  pub least : (other : Language) (text : List ℕ) (m : Tree) (P : List Pair) → SameTree m n → DerivesIn other text m P → count ≤ length P

pub record ExactIn (language : Language) (t : Table) (n : Tree) : Type 0 where
  pub shape : Rattle.std.specs.Prelude.map (λ x. x.0) t.rows ≡ Rattle.std.specs.Prelude.map kind_of (row_nodes n script)
  pub cells : (r : ℕ) (m : Tree) → slice_get (row_nodes n script) r ≡ Some m → (c : ℕ) (a : Role) → slice_get contexts c ≡ Some a → IsLeastIn language a m (table_cell t (suc r) c)
  pub total : FewestIn language n t.total
