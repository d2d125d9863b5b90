-- The layout's text is that of its items.
use Rattle.std.proofs.Common.{◌≡◌, ℕ, zero, suc, ◌+◌, Bool, true, false, not, cond, ◌&&◌, nat_eq, List, [], ◌∷◌, ◌++◌, refl, sym, ap, ap₂, ◌∙◌, append_assoc}
use Rattle.std.specs.Prelude.{slice_index_or, codes}
use Rattle.language.specs.declared.Rank.TheVariants.{Expression}
use Rattle.language.specs.declared.Start.TheVariants.{Any}
use Rattle.tree.specs.Tree.{Tree, node, Parts, none, part, gap}
use Rattle.language.specs.Pieces.{Role, expr, PieceOf, tok, may, many, ahead, unbroken, no_operand, ending, open_parameters, close_parameters, sub, absent, never, lay, space, line, feed, deeper, shallower, apart, loose}
use Rattle.language.specs.Grammar.{ways}
use Rattle.language.specs.RowPositions.{has_row, rows, roles}
use Rattle.language.specs.Layout.{layout, parts_layout, lead_text, lead_depth, after_part, first_way, next_role, indent, fixed_text, has_number, wrapped_rows}
use Rattle.language.specs.Printed.{Item, word, blank, name_ahead, joined, closing, items_text, sign_item, lead_items, printed, parts_printed}
use Rattle.language.specs.Pieces.{script}

pub text_join : (xs ys : List Item) → items_text (xs ++ ys) ≡ items_text xs ++ items_text ys
text_join [] ys = refl
text_join (word c w ∷ xs) ys = ap (λ t. w ++ t) (text_join xs ys) ∙ sym (append_assoc w (items_text xs) (items_text ys))
text_join (blank w ∷ xs) ys = ap (λ t. w ++ t) (text_join xs ys) ∙ sym (append_assoc w (items_text xs) (items_text ys))
text_join (name_ahead w ∷ xs) ys = text_join xs ys
text_join (joined ∷ xs) ys = text_join xs ys
text_join (closing ∷ xs) ys = text_join xs ys

space_text : (b : Bool) (is : List Item) → items_text (cond b (blank (32 ∷ []) ∷ is) is) ≡ cond b (32 ∷ items_text is) (items_text is)
space_text true is = refl
space_text false is = refl

pub lead_items_text : (d : ℕ) (b : Bool) (qs : List (PieceOf Role)) (is : List Item) → items_text (lead_items d b qs is) ≡ lead_text d b qs (items_text is)
lead_items_text d b [] is = refl
lead_items_text d b (sub a ∷ qs) is = refl
lead_items_text d b (absent ∷ qs) is = refl
lead_items_text d b (tok c w ∷ qs) is = ap (λ t. w ++ t) (lead_items_text d b qs is)
lead_items_text d b (may w ∷ qs) is = lead_items_text d b qs is
lead_items_text d b (many w ∷ qs) is = lead_items_text d b qs is
lead_items_text d b (ahead w ∷ qs) is = lead_items_text d b qs is
lead_items_text d b (unbroken ∷ qs) is = lead_items_text d b qs is
lead_items_text d b (no_operand ∷ qs) is = lead_items_text d b qs is
lead_items_text d b (ending e ∷ qs) is = ap (λ t. codes ";" ++ t) (lead_items_text d b qs is)
lead_items_text d b (open_parameters ∷ qs) is = ap (λ t. codes "(" ++ t) (lead_items_text d b qs is)
lead_items_text d b (close_parameters ∷ qs) is = ap (λ t. codes ")" ++ t) (lead_items_text d b qs is)
lead_items_text d b (never ∷ qs) is = lead_items_text d b qs is
lead_items_text d b (lay space ∷ qs) is = ap (λ t. 32 ∷ t) (lead_items_text d b qs is)
lead_items_text d b (lay line ∷ qs) is = ap (λ t. 10 ∷ (indent d ++ t)) (lead_items_text d b qs is)
lead_items_text d b (lay feed ∷ qs) is = ap (λ t. 10 ∷ t) (lead_items_text d b qs is)
lead_items_text d b (lay deeper ∷ qs) is = lead_items_text (suc d) b qs is
lead_items_text (suc d) b (lay shallower ∷ qs) is = lead_items_text d b qs is
lead_items_text zero b (lay shallower ∷ qs) is = lead_items_text zero b qs is
lead_items_text d b (lay (apart c) ∷ qs) is =
    space_text (nat_eq (slice_index_or (items_text (lead_items d b qs is)) 0 0) c) (lead_items d b qs is) ∙
    ap (λ t. cond (nat_eq (slice_index_or t 0 0) c) (32 ∷ t) t) (lead_items_text d b qs is)
lead_items_text d b (lay loose ∷ qs) is = space_text b (lead_items d b qs is) ∙ ap (λ t. cond b (32 ∷ t) t) (lead_items_text d b qs is)

module _ (W : ℕ → Bool) where
  wrapped_text : (b : Bool) (xs ys : List Item) (u v : List ℕ) → items_text xs ≡ u → items_text ys ≡ v →
      items_text (cond b (sign_item (codes "(") ∷ xs ++ sign_item (codes ")") ∷ []) ys) ≡ cond b (codes "(" ++ u ++ codes ")") v
  wrapped_text true xs ys u v h k = ap (λ t. 40 ∷ t) (text_join xs (sign_item (codes ")") ∷ []) ∙ ap (λ t. t ++ codes ")") h)
  wrapped_text false xs ys u v h k = k

  mutual
    unfolding printed parts_printed layout parts_layout

    pub printed_text : (n : Tree) (a : Role) (r d : ℕ) → items_text (printed W n a r d) ≡ layout W n a r d
    printed_text (node k w g s e ps) a r d =
        wrapped_text (nat_eq (has_row a) 1 && W r) _ _ _ _ (parts_printed_text ps (first_way (ways (expr Expression true Any) (node k w g s e ps))) (suc r) d false) (parts_printed_text ps (first_way (ways a (node k w g s e ps))) (has_row a + r) d false)

    pub parts_printed_text : (ps : Parts) (qs : List (PieceOf Role)) (r d : ℕ) (b : Bool) → items_text (parts_printed W ps qs r d b) ≡ parts_layout W ps qs r d b
    parts_printed_text none qs r d b = lead_items_text d b qs []
    parts_printed_text (gap ps) qs r d b =
        lead_items_text d b qs (parts_printed W ps (after_part qs) r (lead_depth d qs) false) ∙ ap (λ t. lead_text d b qs t) (parts_printed_text ps (after_part qs) r (lead_depth d qs) false)
    parts_printed_text (part n ps) qs r d b =
        let a = next_role (roles qs) in
        let q = lead_depth d qs in
        lead_items_text d b qs (printed W n a r q ++ parts_printed W ps (after_part qs) (r + rows n a) q (not (W r))) ∙
        ap (λ t. lead_text d b qs t) (text_join (printed W n a r q) (parts_printed W ps (after_part qs) (r + rows n a) q (not (W r))) ∙
        ap₂ (λ t u. t ++ u) (printed_text n a r q) (parts_printed_text ps (after_part qs) (r + rows n a) q (not (W r))))

pub fixed_items : (n : Tree) → items_text (printed (has_number (wrapped_rows n script 1)) n script 1 0) ≡ fixed_text n
unfolding fixed_text
fixed_items n = printed_text (has_number (wrapped_rows n script 1)) n script 1 0
