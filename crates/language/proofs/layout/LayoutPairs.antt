-- There are as many pairs as wrapped rows; so what reads a layout's items derives the tree, with a pair for each of them.
use Rattle.std.proofs.Common.{◌≡◌, ℕ, ◌+◌, ◌≤◌, Bool, true, false, cond, ◌&&◌, nat_eq, List, [], ◌∷◌, ◌++◌, length, refl, ap, ◌∙◌, arith, length-append}
use Rattle.tree.specs.declared.kind.Pair.{Pair}
use Rattle.tree.specs.Tree.{Tree, node, Parts, none, part, gap, SameTree}
use Rattle.tokens.specs.Reading.{any_goal}
use Rattle.language.specs.Pieces.{Role, script}
use Rattle.language.specs.Token.{Token}
use Rattle.language.specs.Grammar.{ways}
use Rattle.language.specs.RowPositions.{has_row, rows, first_roles}
use Rattle.language.specs.Derivation.{Spells}
use Rattle.language.specs.Cursor.{beginning, Next, behind}
use Rattle.language.specs.Places.{NextIn, itself}
use Rattle.language.specs.Claims.{Derives, DerivesOpen}
use Rattle.language.specs.Layout.{wants_pair, inside, wrapped_rows, parts_wrapped, has_number}
use Rattle.language.specs.LayoutFits.{fits, Marks, PartsMark}
use Rattle.language.specs.Printed.{printed, open_in, pair_count, parts_pair_count, Follows, GoesOn}
use Rattle.language.proofs.layout.WrappedRows.{wrapped_marks, text_fits}
use Rattle.language.proofs.layout.PrintedSpells.{printed_spells}

module _ (W : ℕ → Bool) where
  own_pair : (t b : Bool) (r : ℕ) (below : List ℕ) (x : ℕ) → t ≡ b → x ≡ length below → cond t 1 0 + x ≡ length (cond b (r ∷ []) [] ++ below)
  own_pair t true r below x h k = let z = ap {B = ℕ} (λ c. cond c 1 0) h in omega (arith, k, z)
  own_pair t false r below x h k = let z = ap {B = ℕ} (λ c. cond c 1 0) h in omega (arith, k, z)

  mutual
    unfolding Marks PartsMark pair_count parts_pair_count wrapped_rows parts_wrapped

    pub counted_rows : (n : Tree) (a : Role) (r : ℕ) → Marks W n a r → pair_count W n a r ≡ length (wrapped_rows n a r)
    counted_rows (node k w g s e ps) a r m =
        let n = node k w g s e ps in
        own_pair (nat_eq (has_row a) 1 && W r) (wants_pair n a) r _ _ m.0
        (ap (λ b. parts_pair_count W ps (first_roles (ways (inside b a) n)) (has_row a + r)) m.0 ∙ parts_counted ps (first_roles (ways (inside (wants_pair n a) a) n)) (has_row a + r) m.1)

    pub parts_counted : (ps : Parts) (xs : List Role) (r : ℕ) → PartsMark W ps xs r → parts_pair_count W ps xs r ≡ length (parts_wrapped ps xs r)
    parts_counted none xs r m = refl
    parts_counted (gap ps) xs r m = parts_counted ps xs r m
    parts_counted (part n ps) [] r m = refl
    parts_counted (part n ps) (a ∷ xs) r m = let h = counted_rows n a r m.0 in let k = parts_counted ps xs (r + rows n a) m.1 in let l = length-append (wrapped_rows n a r) (parts_wrapped ps xs (r + rows n a)) in omega (arith, h, k, l)

-- where a text is read as the layout of a script, it derives the script, with a pair for each wrapped node
pub layout_derives : (other : List ℕ) (n : Tree) (P : List Pair) → Derives other n P → (text : List ℕ) (last : Token) (o : ℕ) →
    Follows Token (NextIn text any_goal) itself (printed (has_number (wrapped_rows n script 1)) n script 1 0) beginning last → GoesOn Token (NextIn text any_goal) itself last →
    open_in (has_number (wrapped_rows n script 1)) n script 1 ≤ o → (m : Tree) × (Q : List Pair) × SameTree m n × DerivesOpen o text m Q × (length Q ≡ length (wrapped_rows n script 1))
layout_derives other n P d text last o f g low =
    let W = has_number (wrapped_rows n script 1) in
    let x = printed_spells Token (NextIn text any_goal) itself W n script 1 0 o (text_fits other n P d) low f g in
    (x.tree, x.pairs, x.same, (last, x.spells), x.counted ∙ counted_rows W n script 1 (wrapped_marks n script 1))

-- tokens that are read as a layout spell the node, at any position
pub layout_spelled : (W : ℕ → Bool) (n : Tree) (a : Role) (r d o : ℕ) (ts us : List Token) → fits W n a r ≡ true → open_in W n a r ≤ o →
    Follows (List Token) Next behind (printed W n a r d) ts us → GoesOn (List Token) Next behind us →
    (m : Tree) × (P : List Pair) × SameTree m n × Spells ways (List Token) Next behind o a m ts us P × (length P ≡ pair_count W n a r)
layout_spelled W n a r d o ts us h k f g =
    let x = printed_spells (List Token) Next behind W n a r d o h k f g in (x.tree, x.pairs, x.same, x.spells, x.counted)
