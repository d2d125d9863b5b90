-- The layout of a tree as tokens and what stands between them, and what it is to read them, at any kind of places.
use Rattle.std.specs.Prelude.{◌≡◌, ℕ, suc, pred, ◌+◌, max, IsTrue, Bool, true, false, not, cond, ◌&&◌, List, [], ◌∷◌, ◌++◌, nat_eq, slice_index_or, codes}
use Rattle.tokens.specs.declared.token.TokenClass.{TokenClass}
use Rattle.tokens.specs.declared.token.TokenClass.TheVariants.{IdentifierName, Punctuator}
use Rattle.tree.specs.Tree.{Tree, node, Parts, none, part, gap}
use Rattle.language.specs.declared.Rank.TheVariants.{Expression}
use Rattle.language.specs.declared.Start.TheVariants.{Any}
use Rattle.language.specs.Token.{Token}
use Rattle.language.specs.Edges.{begins_no_operand}
use Rattle.language.specs.Pieces.{Role, expr, PieceOf, tok, ahead, unbroken, no_operand, ending, open_parameters, close_parameters, sub, absent, lay, space, line, feed, deeper, shallower, apart, loose}
use Rattle.language.specs.Grammar.{ways}
use Rattle.language.specs.RowPositions.{has_row, rows, roles, first_roles}
use Rattle.language.specs.Derivation.{Reads}
use Rattle.language.specs.Layout.{inside, indent, lead_depth, after_part, first_way, next_role}

pub data Item : Type 0 where
  -- a token of this class and text
  word : TokenClass → List ℕ → Item
  -- a space, or a line break and its indent
  blank : List ℕ → Item
  -- the next token is a name of this text, and stays
  name_ahead : List ℕ → Item
  -- no line break before the next token
  joined : Item
  -- the next token begins no operand on the same line
  closing : Item

abbrev pub items_text : List Item → List ℕ
items_text [] = []
items_text (word c w ∷ is) = w ++ items_text is
items_text (blank w ∷ is) = w ++ items_text is
items_text (_ ∷ is) = items_text is

abbrev pub sign_item : List ℕ → Item
sign_item text = word Punctuator text

-- pieces up to the next part, with the items that follow them; b says that the part before is not wrapped
abbrev pub lead_items : ℕ → Bool → List (PieceOf Role) → List Item → List Item
lead_items d b [] next = next
lead_items d b (sub a ∷ qs) next = next
lead_items d b (absent ∷ qs) next = next
lead_items d b (tok c w ∷ qs) next = word c w ∷ lead_items d b qs next
lead_items d b (ahead w ∷ qs) next = name_ahead w ∷ lead_items d b qs next
lead_items d b (unbroken ∷ qs) next = joined ∷ lead_items d b qs next
lead_items d b (no_operand ∷ qs) next = closing ∷ lead_items d b qs next
lead_items d b (ending e ∷ qs) next = sign_item (codes ";") ∷ lead_items d b qs next
lead_items d b (open_parameters ∷ qs) next = sign_item (codes "(") ∷ lead_items d b qs next
lead_items d b (close_parameters ∷ qs) next = sign_item (codes ")") ∷ lead_items d b qs next
lead_items d b (lay space ∷ qs) next = blank (32 ∷ []) ∷ lead_items d b qs next
lead_items d b (lay line ∷ qs) next = blank (10 ∷ indent d) ∷ lead_items d b qs next
lead_items d b (lay feed ∷ qs) next = blank (10 ∷ []) ∷ lead_items d b qs next
lead_items d b (lay deeper ∷ qs) next = lead_items (suc d) b qs next
lead_items (suc d) b (lay shallower ∷ qs) next = lead_items d b qs next
lead_items d b (lay (apart c) ∷ qs) next = let rest = lead_items d b qs next in cond (nat_eq (slice_index_or (items_text rest) 0 0) c) (blank (32 ∷ []) ∷ rest) rest
lead_items d b (lay loose ∷ qs) next = let rest = lead_items d b qs next in cond b (blank (32 ∷ []) ∷ rest) rest
lead_items d b (_ ∷ qs) next = lead_items d b qs next

unfoldable mutual
  -- the items of a node at a position, with these nodes wrapped, at a depth of two spaces each
  pub printed : (ℕ → Bool) → Tree → Role → ℕ → ℕ → List Item
  printed W (node kind text flags from to parts) role r d =
      cond (nat_eq (has_row role) 1 && W r)
      (sign_item (codes "(") ∷ parts_printed W parts (first_way (ways (expr Expression true Any) (node kind text flags from to parts))) (suc r) d false ++ sign_item (codes ")") ∷ [])
      (parts_printed W parts (first_way (ways role (node kind text flags from to parts))) (has_row role + r) d false)

  pub parts_printed : (ℕ → Bool) → Parts → List (PieceOf Role) → ℕ → ℕ → Bool → List Item
  parts_printed W none qs r d b = lead_items d b qs []
  parts_printed W (gap rest) qs r d b = lead_items d b qs (parts_printed W rest (after_part qs) r (lead_depth d qs) false)
  parts_printed W (part tree rest) qs r d b =
      let a = next_role (roles qs) in
      lead_items d b qs (printed W tree a r (lead_depth d qs) ++ parts_printed W rest (after_part qs) (r + rows tree a) (lead_depth d qs) (not (W r)))

-- how many parentheses stand open at one point, of those that group or hold the parameters of an arrow that isn't async, with so many
-- behind the pieces
abbrev pub lead_open : List (PieceOf Role) → ℕ → ℕ
lead_open [] k = k
lead_open (sub a ∷ qs) k = k
lead_open (absent ∷ qs) k = k
lead_open (open_parameters ∷ qs) k = suc (lead_open qs k)
lead_open (close_parameters ∷ qs) k = pred (lead_open qs k)
lead_open (_ ∷ qs) k = lead_open qs k

unfoldable mutual
  -- the greatest number of them in a node, with these nodes wrapped
  pub open_in : (ℕ → Bool) → Tree → Role → ℕ → ℕ
  open_in W (node kind text flags from to parts) role r =
      cond (nat_eq (has_row role) 1 && W r)
      (suc (parts_open W parts (first_way (ways (expr Expression true Any) (node kind text flags from to parts))) (suc r)))
      (parts_open W parts (first_way (ways role (node kind text flags from to parts))) (has_row role + r))

  pub parts_open : (ℕ → Bool) → Parts → List (PieceOf Role) → ℕ → ℕ
  parts_open W none qs r = lead_open qs 0
  parts_open W (gap rest) qs r = lead_open qs (parts_open W rest (after_part qs) r)
  parts_open W (part tree rest) qs r = let a = next_role (roles qs) in lead_open qs (max (open_in W tree a r) (parts_open W rest (after_part qs) (r + rows tree a)))

unfoldable mutual
  -- how many nodes are wrapped
  pub pair_count : (ℕ → Bool) → Tree → Role → ℕ → ℕ
  pair_count W (node kind text flags from to parts) role r =
      let b = nat_eq (has_row role) 1 && W r in
      cond b 1 0 + parts_pair_count W parts (first_roles (ways (inside b role) (node kind text flags from to parts))) (has_row role + r)

  pub parts_pair_count : (ℕ → Bool) → Parts → List Role → ℕ → ℕ
  parts_pair_count W none xs r = 0
  parts_pair_count W (gap rest) xs r = parts_pair_count W rest xs r
  parts_pair_count W (part tree rest) [] r = 0
  parts_pair_count W (part tree rest) (a ∷ xs) r = pair_count W tree a r + parts_pair_count W rest xs (r + rows tree a)

module _ (S : Type 0) (Next : S → Token → S → Type 0) (behind : S → Token) where
  -- from place to place the items are read
  pub data Follows : List Item → S → S → Type 0 where
    over : {s : S} → Follows [] s s
    reads : {c : TokenClass} {w : List ℕ} {is : List Item} {t : Token} {s m e : S} → Reads S Next behind c w s t m → Follows is m e → Follows (word c w ∷ is) s e
    passes : {w : List ℕ} {is : List Item} {s e : S} → Follows is s e → Follows (blank w ∷ is) s e
    sees : {w : List ℕ} {is : List Item} {t : Token} {s m e : S} → Reads S Next behind IdentifierName w s t m → Follows is s e → Follows (name_ahead w ∷ is) s e
    stays : {is : List Item} {t : Token} {s m e : S} → Next s t m → t.after_break ≡ false → Follows is s e → Follows (joined ∷ is) s e
    leaves : {is : List Item} {t : Token} {s m e : S} → Next s t m → IsTrue (begins_no_operand t) → Follows is s e → Follows (closing ∷ is) s e

  -- a token is read at the place
  pub record GoesOn (s : S) : Type 0 where
    pub token : Token
    pub place : S
    pub next : Next s token place
