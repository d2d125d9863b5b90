-- Trees whose first ways have words as their tokens, each shorthand key before a name of its text.
use Rattle.std.proofs.Common.{ℕ, ◌+◌, Bool, true, not, ◌&&◌, nat_eq, List, [], ◌∷◌}
use Rattle.tokens.specs.declared.token.TokenClass.{TokenClass}
use Rattle.tokens.specs.declared.token.TokenClass.TheVariants.{IdentifierName, Keyword}
use Rattle.tree.specs.Tree.{Tree, node, Parts, none, part, gap, text_of}
use Rattle.language.specs.Pieces.{Role, shorthand_key, PieceOf, tok, ahead}
use Rattle.language.specs.Grammar.{ways}
use Rattle.language.specs.Vocabulary.{is_keyword}
use Rattle.language.specs.RowPositions.{has_row, rows, first_roles}
use Rattle.language.specs.Layout.{inside, first_way}
use Rattle.language.specs.Printed.{Item, word, printed}
use Rattle.language.proofs.layout.WordsApart.{Word}

-- each token of these pieces is a word
abbrev pub PieceWords : List (PieceOf Role) → Type 0
PieceWords [] = Unit {0}
PieceWords (tok c w ∷ qs) = Word c w × PieceWords qs
PieceWords (_ ∷ qs) = PieceWords qs

-- where keywords are told apart, none of these is a name; elsewhere none is a keyword
abbrev pub name_stays : Bool → TokenClass → List ℕ → Bool
name_stays told IdentifierName w = not (told && is_keyword w)
name_stays told Keyword w = told
name_stays told _ w = true

abbrev pub names_stay : Bool → List (PieceOf Role) → Bool
names_stay told [] = true
names_stay told (tok c w ∷ qs) = name_stays told c w && names_stay told qs
names_stay told (ahead w ∷ qs) = name_stays told IdentifierName w && names_stay told qs
names_stay told (_ ∷ qs) = names_stay told qs

-- the first item is a name of this text
pub data NameFirst (w : List ℕ) : List Item → Type 0 where
  name_first : {is : List Item} → NameFirst w (word IdentifierName w ∷ is)

unfoldable mutual
  -- of a node and all below it, at their first ways
  pub Worded : (ℕ → Bool) → Tree → Role → ℕ → Type 0
  Worded W (node k w g s e ps) a r =
      let qss = ways (inside (nat_eq (has_row a) 1 && W r) a) (node k w g s e ps) in
      PieceWords (first_way qss) × PartsWorded W ps (first_roles qss) (has_row a + r)

  pub PartsWorded : (ℕ → Bool) → Parts → List Role → ℕ → Type 0
  PartsWorded W none xs r = Unit {0}
  PartsWorded W (gap ps) xs r = PartsWorded W ps xs r
  PartsWorded W (part n ps) [] r = Unit {0}
  PartsWorded W (part n ps) (a ∷ xs) r = Worded W n a r × (Echoed W a n ps xs (r + rows n a) × PartsWorded W ps xs (r + rows n a))

  -- behind a shorthand key stands a name of its text
  pub Echoed : (ℕ → Bool) → Role → Tree → Parts → List Role → ℕ → Type 0
  Echoed W shorthand_key k (part v ps) (b ∷ xs) r = (d : ℕ) → NameFirst (text_of k) (printed W v b r d)
  Echoed W a k ps xs r = Unit {0}
