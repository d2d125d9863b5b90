-- Readable items, as tokens of a list.
use Rattle.std.proofs.Common.{◌≡◌, ℕ, true, false, List, [], ◌∷◌, ◌++◌, refl}
use Rattle.std.specs.Prelude.{codes}
use Rattle.std.proofs.lemmas.Bool.{and_parts}
use Rattle.tokens.specs.declared.token.TokenClass.TheVariants.{IdentifierName}
use Rattle.language.specs.Edges.{begins_no_operand}
use Rattle.language.specs.Token.{Token}
use Rattle.language.specs.Cursor.{Next, next, behind}
use Rattle.language.specs.Derivation.{Reads}
use Rattle.language.specs.Printed.{Item, word, blank, name_ahead, joined, sign_item, Follows, over, reads, passes, sees, stays, leaves}
use Rattle.language.specs.Printed as item
use Rattle.language.specs.Readable.{closes_next}
use Rattle.language.proofs.layout.ReadItems.{Readable, a_word, a_gap, a_name, a_line, a_close, closes_all}
use Rattle.language.proofs.table.TreesOfWords.{NameFirst, name_first}
use Rattle.language.specs.ExactCells.{token_of, item_tokens, closing}

abbrev pub closing_items : List Item
closing_items = sign_item (codes ")") ∷ []

-- the next token stands on the same line
record Unbroken (s : List Token) : Type 0 where
  ahead : Token
  place : List Token
  is_next : Next s ahead place
  unbroken : ahead.after_break ≡ false

next_unbroken : (xs : List Item) (b : Token) → Unbroken (b ∷ (item_tokens xs ++ closing ∷ []))
next_unbroken [] b = record { ahead = closing; place = closing ∷ []; is_next = next; unbroken = refl }
next_unbroken (word c w ∷ xs) b = record { ahead = token_of c w; place = token_of c w ∷ (item_tokens xs ++ closing ∷ []); is_next = next; unbroken = refl }
next_unbroken (blank w ∷ xs) b = next_unbroken xs b
next_unbroken (name_ahead w ∷ xs) b = next_unbroken xs b
next_unbroken (joined ∷ xs) b = next_unbroken xs b
next_unbroken (item.closing ∷ xs) b = next_unbroken xs b

-- the next token begins no operand
record Closed (s : List Token) : Type 0 where
  ahead : Token
  place : List Token
  is_next : Next s ahead place
  closes : begins_no_operand ahead ≡ true

next_closed : (xs : List Item) (b : Token) → closes_next (xs ++ closing_items) ≡ true → Closed (b ∷ (item_tokens xs ++ closing ∷ []))
next_closed [] b h = record { ahead = closing; place = closing ∷ []; is_next = next; closes = refl }
next_closed (word c w ∷ xs) b h = record { ahead = token_of c w; place = token_of c w ∷ (item_tokens xs ++ closing ∷ []); is_next = next; closes = h }
next_closed (blank w ∷ xs) b h = next_closed xs b h
next_closed (name_ahead w ∷ xs) b h = next_closed xs b h
next_closed (joined ∷ xs) b h = next_closed xs b h
next_closed (item.closing ∷ xs) b h = next_closed xs b h

-- the tokens of the items are what follows them, up to the `)`
pub record InFront (xs : List Item) (b : Token) : Type 0 where
  pub last : Token
  pub follows : Follows (List Token) Next behind xs (b ∷ (item_tokens xs ++ closing ∷ [])) (last ∷ closing ∷ [])

rest_of : {x : Item} {is : List Item} → Readable (x ∷ is) → Readable is
rest_of (a_word x r) = r
rest_of (a_gap x y r) = r
rest_of (a_name r) = r
rest_of (a_line x r) = r
rest_of (a_close r) = r

named_next : {w : List ℕ} {is : List Item} → Readable (name_ahead w ∷ is) → NameFirst w is
named_next (a_name r) = name_first

-- the next token is a name of this text
record NameAhead (w : List ℕ) (s : List Token) : Type 0 where
  ahead : Token
  place : List Token
  is_read : Reads (List Token) Next behind IdentifierName w s ahead place

name_next : (w : List ℕ) (xs : List Item) (b : Token) → NameFirst w (xs ++ closing_items) → NameAhead w (b ∷ (item_tokens xs ++ closing ∷ []))
name_next w [] b h = elim h [ ]
name_next w (word c v ∷ xs) b name_first = record { ahead = token_of IdentifierName w; place = token_of IdentifierName w ∷ (item_tokens xs ++ closing ∷ []); is_read = record { next = next; class = refl; text = refl } }
name_next w (blank v ∷ xs) b h = elim h [ ]
name_next w (name_ahead v ∷ xs) b h = elim h [ ]
name_next w (joined ∷ xs) b h = elim h [ ]
name_next w (item.closing ∷ xs) b h = elim h [ ]

pub in_front : (xs : List Item) (b : Token) → Readable (xs ++ closing_items) → closes_all (xs ++ closing_items) ≡ true → InFront xs b
in_front [] b r q = record { last = b; follows = over }
in_front (word c w ∷ xs) b r q = let z = in_front xs (token_of c w) (rest_of r) q in record { last = z.last; follows = reads (record { next = next; class = refl; text = refl }) z.follows }
in_front (blank w ∷ xs) b r q = let z = in_front xs b (rest_of r) q in record { last = z.last; follows = passes z.follows }
in_front (name_ahead w ∷ xs) b r q = let z = in_front xs b (rest_of r) q in let n = name_next w xs b (named_next r) in record { last = z.last; follows = sees n.is_read z.follows }
in_front (joined ∷ xs) b r q = let z = in_front xs b (rest_of r) q in let n = next_unbroken xs b in record { last = z.last; follows = stays n.is_next n.unbroken z.follows }
in_front (item.closing ∷ xs) b r q =
    let h = and_parts (closes_next (xs ++ closing_items)) _ q in
    let z = in_front xs b (rest_of r) h.1 in
    let n = next_closed xs b h.0 in
    record { last = z.last; follows = leaves n.is_next n.closes z.follows }
