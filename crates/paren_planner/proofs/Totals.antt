-- As many nodes are wrapped as the script costs pairs.
use Rattle.std.proofs.Common.{◌≡◌, ℕ, ◌+◌, Bool, true, false, cond, min, nat_le, List, [], ◌∷◌, ◌++◌, length, Option, Some, None, refl, sym, ap, ◌∙◌, subst, arith}
use Rattle.std.specs.Prelude.{◌&&◌, map}
use Rattle.std.proofs.lemmas.Bool.{false≢true}
use Rattle.std.proofs.lemmas.Bool.Decides.{nat_tests}
use Rattle.std.proofs.lemmas.List.{length-append}
use Rattle.tree.specs.Tree.{Tree, node, Parts, none, part, gap, parts_of}
use Rattle.language.specs.declared.Rank.{Rank}
use Rattle.language.specs.declared.Rank.TheVariants.{Expression, New, Member, Primary, Grouped}
use Rattle.language.specs.declared.Start.{Start}
use Rattle.language.specs.declared.Start.TheVariants.{Any}
use Rattle.language.specs.Vocabulary.{precedence}
use Rattle.language.specs.Pieces.{Role, expr, script, PieceOf, Slot, fixed, left, lead, tail, callee, lead_chain, lead_pattern, settle, is_tight}
use Rattle.language.specs.Grammar.{ways, own_rank, own_in, own_start}
use Rattle.language.specs.RowPositions.{first_roles, rows}
use Rattle.language.specs.Layout.{some_way, exceeds, wants_pair, inside, wrapped_rows, parts_wrapped}
use Rattle.language.specs.Cost.{add_cost, lesser, if_any, least, parts_least, cell, cell_position}
use Rattle.spelling_table.specs.declared.outline.Outline.{Outline}
use Rattle.spelling_table.specs.Requirements.{fits_outline}
use Rattle.spellings.specs.Spelled.{settled_roles, Verdict}
use Rattle.spellings.proofs.Wherever.{found_roles, AnySpelling, any_spelling}
use Rattle.cost_table.proofs.Known.{fits_cell}
use Rattle.spellings.proofs.Slots.{is_plain, all_pass, parts_plain}

-- The cell that counts at a position

same_settle : (z y : Rank) (i j : Bool) (f : Start) → is_tight z ≡ is_tight y → i ≡ j → (s : Slot) → settle z i f s ≡ settle y j f s
same_settle z y i j f t e (fixed a) = refl
same_settle z y i j f t e (left r) = ap (λ u. expr r u f) e
same_settle z y i j f t e (lead r) = refl
same_settle z y i j f t e (tail r x) = ap (λ u. expr r u x) e
same_settle z y i j f t e callee = ap (λ u. expr (cond u Member Rattle.language.specs.declared.Rank.TheVariants.Call) true f) t
same_settle z y i j f t e lead_chain = refl
same_settle z y i j f t e lead_pattern = refl

has_in : (i : Bool) → (i && true) ≡ true → i ≡ true
has_in true h = refl
has_in false h = h

never_new : (i : Bool) → (i && false) ≡ true → false ≡ true
never_new true h = h
never_new false h = h

-- what the parts of a node at a plain position are settled at is what they are at that of its cell
settle_cell : (y : Rank) (i : Bool) (f : Start) → is_plain (expr y i f) ≡ true → (s : Slot) →
    settle y i f s ≡ settle (own_rank (cell_position (expr y i f))) (own_in (cell_position (expr y i f))) (own_start (cell_position (expr y i f))) s
settle_cell Member i f h s = same_settle Member Member i true f refl (has_in i h) s
settle_cell Primary i f h s = same_settle Primary Member i true f refl (has_in i h) s
settle_cell Grouped i f h s = same_settle Grouped Member i true f refl (has_in i h) s
settle_cell New i f h s = absurd (false≢true (never_new i h))
settle_cell y i f h s = same_settle y Expression i i f refl refl s

same_map : (f g : Slot → Role) → ((s : Slot) → f s ≡ g s) → (xs : List Slot) → map f xs ≡ map g xs
same_map f g h [] = refl
same_map f g h (s ∷ xs) = λ j. h s j ∷ same_map f g h xs j

pub cell_known : (n : Tree) (y : Rank) (i : Bool) (f : Start) → (x : AnySpelling (expr y i f) n) → Verdict (ways (cell_position (expr y i f)) n) (found_roles (cell_position (expr y i f)) x.found)
cell_known n y i f x = of (nat_le 21 (precedence y))
  where
    of : (b : Bool) → Verdict (ways (cond b (expr Member true f) (expr Expression i f)) n) (found_roles (cond b (expr Member true f) (expr Expression i f)) x.found)
    of true = x.known Member true f
    of false = x.known Expression i f

-- what is spelled at a plain position has the same positions of its parts as at that of its cell
pub cell_roles : (n : Tree) (y : Rank) (i : Bool) (f : Start) → is_plain (expr y i f) ≡ true → some_way (ways (expr y i f) n) ≡ true →
    (some_way (ways (cell_position (expr y i f)) n) ≡ true) × (first_roles (ways (cell_position (expr y i f)) n) ≡ first_roles (ways (expr y i f) n))
cell_roles n y i f p h = of s.found (s.known y i f) (cell_known n y i f s)
  where
    s : AnySpelling (expr y i f) n
    s = any_spelling (expr y i f) n

    b : Role
    b = cell_position (expr y i f)

    when : (x : Outline) (xs : List Slot) (v : Bool) → fits_outline (expr y i f) x ≡ v → Verdict (ways (expr y i f) n) (cond v (Some (settled_roles (expr y i f) xs)) None) →
        Verdict (ways (cell_position (expr y i f)) n) (cond (fits_outline (cell_position (expr y i f)) x) (Some (settled_roles (cell_position (expr y i f)) xs)) None) →
        (some_way (ways (cell_position (expr y i f)) n) ≡ true) × (first_roles (ways (cell_position (expr y i f)) n) ≡ first_roles (ways (expr y i f) n))
    when x xs true e k m =
        let w : Verdict (ways (cell_position (expr y i f)) n) (Some (settled_roles (cell_position (expr y i f)) xs)) =
        subst (λ u. Verdict (ways (cell_position (expr y i f)) n) (cond u (Some (settled_roles (cell_position (expr y i f)) xs)) None)) (fits_cell y i f (Some x) e) m in
        (w.0, w.1 ∙ sym (same_map (settle y i f) (settle (own_rank (cell_position (expr y i f))) (own_in (cell_position (expr y i f))) (own_start (cell_position (expr y i f)))) (settle_cell y i f p) xs) ∙ sym k.1)
    when x xs false e k m = absurd (false≢true (sym (ap some_way k) ∙ h))

    of : (o : Option (Outline × List Slot)) → Verdict (ways (expr y i f) n) (found_roles (expr y i f) o) → Verdict (ways (cell_position (expr y i f)) n) (found_roles (cell_position (expr y i f)) o) →
        (some_way (ways (cell_position (expr y i f)) n) ≡ true) × (first_roles (ways (cell_position (expr y i f)) n) ≡ first_roles (ways (expr y i f) n))
    of None k m = absurd (false≢true (sym (ap some_way k) ∙ h))
    of (Some x) k m = when x.0 x.1 (fits_outline (expr y i f) x.0) refl k m

-- Numbers that are given

record Added (x y : Option ℕ) (c : ℕ) : Type 0 where
  left : ℕ
  right : ℕ
  left-is : x ≡ Some left
  right-is : y ≡ Some right
  sum : left + right ≡ c

added : (x y : Option ℕ) (c : ℕ) → add_cost x y ≡ Some c → Added x y c
unfolding add_cost
added None y c h = absurd (cc)
added (Some m) None c h = absurd (cc)
added (Some m) (Some k) c h = let e : m + k ≡ c = cc in record { left = m; right = k; left-is = refl; right-is = refl; sum = e }

way_given : (xs : List (List (PieceOf Role))) (x : Option ℕ) (c : ℕ) → if_any xs x ≡ Some c → (some_way xs ≡ true) × (x ≡ Some c)
unfolding if_any
way_given [] x c h = absurd (cc)
way_given (y ∷ ys) x c h = (refl, h)

some_given : (v : Bool) (x : Option ℕ) (c : ℕ) → cond v x None ≡ Some c → (v ≡ true) × (x ≡ Some c)
some_given true x c h = (refl, h)
some_given false x c h = absurd (cc)

-- the lesser is the first, unless that exceeds the second
picked : (d a : Option ℕ) (c : ℕ) → lesser d a ≡ Some c → (b : Bool) → exceeds d a ≡ b → cond b a d ≡ Some c
unfolding lesser
picked None a c h true e = h
picked None a c h false e = absurd (cc)
picked (Some m) None c h true e = absurd (cc)
picked (Some m) None c h false e = h
picked (Some m) (Some k) c h true e = let q : k ≡ min m k = grind (arith, nat_tests) in ap (λ u. Some u) q ∙ h
picked (Some m) (Some k) c h false e = let q : m ≡ min m k = grind (arith, nat_tests) in ap (λ u. Some u) q ∙ h

direct_cell : (xs ys : List (List (PieceOf Role))) (x : Option ℕ) → (some_way xs ≡ true → some_way ys ≡ true) → if_any xs x ≡ cond (some_way xs) (if_any ys x) None
unfolding if_any
direct_cell [] ys x h = refl
direct_cell (z ∷ zs) [] x h = absurd (false≢true (h refl))
direct_cell (z ∷ zs) (y ∷ ys) x h = refl

-- Wrapped nodes

abbrev Counts : Tree → Parts → Role → ℕ → Type 0
Counts n ps a r = (m : ℕ) → parts_least ps (first_roles (ways a n)) ≡ Some m → length (parts_wrapped ps (first_roles (ways a n)) r) ≡ m

expression_count : (n : Tree) (y : Rank) (i : Bool) (f : Start) (r c : ℕ) → is_plain (expr y i f) ≡ true →
    lesser (if_any (ways (expr y i f) n) (parts_least (parts_of n) (first_roles (ways (cell_position (expr y i f)) n)))) (add_cost (Some 1) (cell n (expr Expression true Any))) ≡ Some c →
    Counts n (parts_of n) (expr Expression true Any) (1 + r) → Counts n (parts_of n) (expr y i f) (1 + r) →
    length (cond (wants_pair n (expr y i f)) (r ∷ []) [] ++ parts_wrapped (parts_of n) (first_roles (ways (inside (wants_pair n (expr y i f)) (expr y i f)) n)) (1 + r)) ≡ c
unfolding cell
expression_count n y i f r c p h wrapped direct = of (wants_pair n (expr y i f)) refl
  where
    cheap : lesser (cond (some_way (ways (expr y i f) n)) (cell n (cell_position (expr y i f))) None) (add_cost (Some 1) (cell n (expr Expression true Any))) ≡ Some c
    cheap = ap (λ u. lesser u (add_cost (Some 1) (cell n (expr Expression true Any)))) (sym (direct_cell (ways (expr y i f) n) (ways (cell_position (expr y i f)) n) (parts_least (parts_of n) (first_roles (ways (cell_position (expr y i f)) n))) (λ e. (cell_roles n y i f p e).0))) ∙ h

    of : (b : Bool) → wants_pair n (expr y i f) ≡ b → length (cond b (r ∷ []) [] ++ parts_wrapped (parts_of n) (first_roles (ways (cond b (expr Expression true Any) (expr y i f)) n)) (1 + r)) ≡ c
    of true e =
        let a : Added (Some 1) (cell n (expr Expression true Any)) c = added (Some 1) (cell n (expr Expression true Any)) c (picked _ _ c cheap true e) in
        let one : 1 ≡ a.left = cc (a.left-is) in
        let inner : length (parts_wrapped (parts_of n) (first_roles (ways (expr Expression true Any) n)) (1 + r)) ≡ a.right = wrapped a.right (way_given _ _ a.right a.right-is).1 in
        let sum = a.sum in
        omega (arith, inner, one, sum)
    of false e =
        let d = some_given (some_way (ways (expr y i f) n)) (cell n (cell_position (expr y i f))) c (picked _ _ c cheap false e) in
        direct c (ap (parts_least (parts_of n)) (sym (cell_roles n y i f p d.0).1) ∙ (way_given _ _ c d.1).1)

plain_count : (n : Tree) (a : Role) (r c : ℕ) → if_any (ways a n) (parts_least (parts_of n) (first_roles (ways a n))) ≡ Some c → Counts n (parts_of n) a r → length (parts_wrapped (parts_of n) (first_roles (ways a n)) r) ≡ c
plain_count n a r c h counts = counts c (way_given _ _ c h).1

parts_sum : (xs ys : List ℕ) (x y : Option ℕ) (c : ℕ) → add_cost x y ≡ Some c → ((m : ℕ) → x ≡ Some m → length xs ≡ m) → ((m : ℕ) → y ≡ Some m → length ys ≡ m) → length (xs ++ ys) ≡ c
parts_sum xs ys x y c h f g =
    let a : Added x y c = added x y c h in
    let p = f a.left a.left-is in
    let q = g a.right a.right-is in
    let sum = a.sum in
    length-append xs ys ∙ omega (arith, p, q, sum)

mutual
  unfolding least parts_least wrapped_rows parts_wrapped cell

  pub node_count : (n : Tree) (a : Role) (r c : ℕ) → is_plain a ≡ true → least n a ≡ Some c → length (wrapped_rows n a r) ≡ c
  node_count (node k w g s e ps) (expr y i f) r c p h =
      expression_count (node k w g s e ps) y i f r c p h
      (λ m q. parts_count ps (first_roles (ways (expr Expression true Any) (node k w g s e ps))) (1 + r) m (parts_plain (expr Expression true Any) (node k w g s e ps)) q)
      (λ m q. parts_count ps (first_roles (ways (expr y i f) (node k w g s e ps))) (1 + r) m (parts_plain (expr y i f) (node k w g s e ps)) q)
  node_count (node k w g s e ps) a r c p h =
      plain_count (node k w g s e ps) a (0 + r) c h (λ m q. parts_count ps (first_roles (ways a (node k w g s e ps))) (0 + r) m (parts_plain a (node k w g s e ps)) q)

  pub parts_count : (ps : Parts) (xs : List Role) (r c : ℕ) → all_pass is_plain xs ≡ true → parts_least ps xs ≡ Some c → length (parts_wrapped ps xs r) ≡ c
  parts_count none xs r c p h = cc
  parts_count (gap ps) xs r c p h = parts_count ps xs r c p h
  parts_count (part n ps) [] r c p h = absurd (cc)
  parts_count (part n ps) (a ∷ xs) r c p h =
      parts_sum (wrapped_rows n a r) (parts_wrapped ps xs (r + rows n a)) (least n a) (parts_least ps xs) c h
      (λ m q. node_count n a r m (Rattle.std.proofs.lemmas.Bool.and_parts _ _ p).0 q)
      (λ m q. parts_count ps xs (r + rows n a) m (Rattle.std.proofs.lemmas.Bool.and_parts _ _ p).1 q)

pub wrapped_count : (n : Tree) (c : ℕ) → least n script ≡ Some c → length (wrapped_rows n script 1) ≡ c
wrapped_count n c h = node_count n script 1 c refl h
