-- Rows that were passed, and those behind them.
use Rattle.std.proofs.Common.{◌≡◌, ℕ, zero, suc, ◌+◌, ◌<◌, ◌≤◌, true, false, cond, List, [], ◌∷◌, ◌++◌, length, drop, Option, Some, None, refl, sym, ap, ◌∙◌, subst, append_assoc, arith}
use Rattle.std.specs.Prelude.{map, option_map, slice_get}
use Rattle.std.specs.Option.{option_or}
use Rattle.std.proofs.lemmas.List.{map-append, length-append}
use Rattle.std.proofs.lemmas.Option.{slice_get-map}
use Rattle.source_text.specs.declared.fault.Reason.TheVariants as reason
use Rattle.tree.specs.declared.kind.Kind.{Kind}
use Rattle.tree.specs.Tree.{Tree, kind_of}
use Rattle.language.specs.Claims.{Table}
use Rattle.cost_table.specs.declared.table.Row.{Row}
use Rattle.cost_table.specs.Rows.{shown as shown_row}
use Rattle.cost_certificate.specs.declared.check.BadTable.{BadTable}
use Rattle.cost_certificate.specs.declared.check_rows.RowCheck.{RowCheck}
use Rattle.cost_certificate.specs.Types.{same_type}
use Rattle.cost_certificate.specs.Checked.{shown_any}
use Rattle.cost_certificate.specs.Faults.{TableFault, or_else, shape_fault, row_fault, rows_fault}
use Rattle.cost_certificate.specs.Walked.{Matched, IsBelow, IsPassed}

or_shown : (x y : Option BadTable) → shown_any (option_or x y) ≡ or_else (shown_any x) (shown_any y)
or_shown None y = refl
or_shown (Some x) y = refl

or_assoc : (x y z : Option TableFault) → or_else (or_else x y) z ≡ or_else x (or_else y z)
or_assoc None y z = refl
or_assoc (Some x) y z = refl

rows_fault-append : (t : Table) (xs ys : List Tree) (r : ℕ) → rows_fault t (xs ++ ys) r ≡ or_else (rows_fault t xs r) (rows_fault t ys (r + length xs))
rows_fault-append t [] ys r = let z : r ≡ r + 0 = omega arith in ap (rows_fault t ys) z
rows_fault-append t (x ∷ xs) ys r =
    let z : suc r + length xs ≡ r + suc (length xs) = omega arith in
    ap (or_else (row_fault t x r)) (rows_fault-append t xs ys (suc r) ∙ ap (λ q. or_else (rows_fault t xs (suc r)) (rows_fault t ys q)) z)
    ∙ sym (or_assoc (row_fault t x r) (rows_fault t xs (suc r)) (rows_fault t ys (r + suc (length xs))))

matched_join : (js ks ls : List Kind) (r n k : ℕ) (a b : Option ℕ) → Matched js ks r a n → Matched js ls n b k → Matched js (ks ++ ls) r (option_or a b) k
matched_join js ks ls r n k None None h g = λ zs. ap (λ u. shape_fault (drop r js) u (suc r)) (append_assoc ks ls zs) ∙ h (ls ++ zs) ∙ g zs
matched_join js ks ls r n k None (Some bad) h g = λ zs. ap (λ u. shape_fault (drop r js) u (suc r)) (append_assoc ks ls zs) ∙ h (ls ++ zs) ∙ g zs
matched_join js ks ls r n k (Some bad) b h g = λ zs. ap (λ u. shape_fault (drop r js) u (suc r)) (append_assoc ks ls zs) ∙ h (ls ++ zs)

below_join : (a b : Option ℕ) (n k : ℕ) → n ≤ k → IsBelow a n → IsBelow b k → IsBelow (option_or a b) k
below_join None b n k l h g = g
below_join (Some i) b n k l h g = omega (arith, l, h)

pub passed_join : (t : Table) (xs ys : List Tree) (r : ℕ) (p q : RowCheck) (m : Option ℕ) (f : Option BadTable) → m ≡ option_or p.misshapen q.misshapen → f ≡ option_or p.fault q.fault →
    IsPassed t xs r p → IsPassed t ys p.next q → IsPassed t (xs ++ ys) r (record { next = q.next; misshapen = m; fault = f })
passed_join t xs ys r p q m f em ef h g =
    let hn = h.next in
    let gn = g.next in
    let l = length-append xs ys in
    let start : suc p.next ≡ suc r + length xs = omega (arith, hn) in
    record {
      next = omega (arith, hn, gn, l);
      shape = subst (λ a. Matched (map (λ x. x.0) t.rows) (map kind_of (xs ++ ys)) r a q.next) (sym em)
          (subst (λ ks. Matched (map (λ x. x.0) t.rows) ks r (option_or p.misshapen q.misshapen) q.next) (sym (map-append kind_of xs ys))
          (matched_join (map (λ x. x.0) t.rows) (map kind_of xs) (map kind_of ys) r p.next q.next p.misshapen q.misshapen h.shape g.shape));
      within = subst (λ a. IsBelow a q.next) (sym em) (below_join p.misshapen q.misshapen p.next q.next (omega (arith, gn)) h.within g.within);
      fault = ap shown_any ef ∙ or_shown p.fault q.fault ∙ (λ j. or_else (h.fault j) (g.fault j)) ∙ ap (λ k. or_else (rows_fault t xs (suc r)) (rows_fault t ys k)) start ∙ sym (rows_fault-append t xs ys (suc r));
    }

or_none : {A : Type 0} (x : Option A) → x ≡ option_or x None
or_none None = refl
or_none (Some x) = refl

-- rows behind them in which nothing is wrong
pub passed_on : (t : Table) (xs ys : List Tree) (r next : ℕ) (p : RowCheck) → IsPassed t xs r p → IsPassed t ys p.next (record { next = next; misshapen = None; fault = None }) → IsPassed t (xs ++ ys) r (record { next = next; misshapen = p.misshapen; fault = p.fault })
passed_on t xs ys r next p h g = passed_join t xs ys r p (record { next = next; misshapen = None; fault = None }) p.misshapen p.fault (or_none p.misshapen) (or_none p.fault) h g

-- the same list
pub passed_same : (t : Table) (xs ys : List Tree) (r : ℕ) (p : RowCheck) → xs ≡ ys → IsPassed t xs r p → IsPassed t ys r p
passed_same t xs ys r p e h = subst (λ zs. IsPassed t zs r p) e h

-- One row

drop_at : (js : List Kind) (i : ℕ) (j : Kind) → slice_get js i ≡ Some j → drop i js ≡ j ∷ drop (suc i) js
drop_at [] i j h = absurd (cc)
drop_at (k ∷ ks) zero j h = let e : k ≡ j = cc in ap (λ x. x ∷ ks) e
drop_at (k ∷ ks) (suc i) j h = drop_at ks i j h

pub drop_all : (js : List Kind) (i : ℕ) → length js < suc i → drop i js ≡ []
drop_all [] zero h = refl
drop_all [] (suc i) h = refl
drop_all (k ∷ ks) zero h = absurd (omega (arith, h))
drop_all (k ∷ ks) (suc i) h = drop_all ks i (omega (arith, h))

drop_past : (js : List Kind) (i : ℕ) → slice_get js i ≡ None → drop i js ≡ []
drop_past [] zero h = refl
drop_past [] (suc i) h = refl
drop_past (k ∷ ks) zero h = absurd (cc)
drop_past (k ∷ ks) (suc i) h = drop_past ks i h

abbrev RowOf : Type 0
RowOf = Kind × List (Option ℕ)

kinds_at : (rows : List RowOf) (i : ℕ) (o : Option RowOf) → o ≡ slice_get rows i → slice_get (map (λ x. x.0) rows) i ≡ option_map (λ x. x.0) o
kinds_at rows i o h = slice_get-map (λ x. x.0) rows i ∙ ap (option_map (λ x. x.0)) (sym h)

pub kinds_length : (rows : List Row) → length (map (λ x. x.0) (map shown_row rows)) ≡ length rows
kinds_length [] = refl
kinds_length (x ∷ xs) = ap suc (kinds_length xs)

-- a row of the node's type
pub row_matched : (rows : List RowOf) (i : ℕ) (x : RowOf) (k : Kind) → Some x ≡ slice_get rows i → same_type x.0 k ≡ true → Matched (map (λ x. x.0) rows) (k ∷ []) i None (i + 1)
row_matched rows i x k h e = λ ls.
    let js = map (λ x. x.0) rows in
    let z : suc i ≡ i + 1 = omega arith in
    ap (λ u. shape_fault u (k ∷ ls) (suc i)) (drop_at js i x.0 (kinds_at rows i (Some x) h)) ∙ ap (λ b. cond b (shape_fault (drop (suc i) js) ls (suc (suc i))) (Some (suc i, reason.Shape))) e
    ∙ ap (λ m. shape_fault (drop m js) ls (suc m)) z

-- one of another type
pub row_mismatched : (rows : List RowOf) (i n : ℕ) (x : RowOf) (k : Kind) → Some x ≡ slice_get rows i → same_type x.0 k ≡ false → Matched (map (λ x. x.0) rows) (k ∷ []) i (Some i) n
row_mismatched rows i n x k h e = λ ls.
    let js = map (λ x. x.0) rows in
    ap (λ u. shape_fault u (k ∷ ls) (suc i)) (drop_at js i x.0 (kinds_at rows i (Some x) h)) ∙ ap (λ b. cond b (shape_fault (drop (suc i) js) ls (suc (suc i))) (Some (suc i, reason.Shape))) e

-- none
pub row_missing : (rows : List RowOf) (i n : ℕ) (k : Kind) → None ≡ slice_get rows i → Matched (map (λ x. x.0) rows) (k ∷ []) i (Some i) n
row_missing rows i n k h = λ ls. ap (λ u. shape_fault u (k ∷ ls) (suc i)) (drop_past (map (λ x. x.0) rows) i (kinds_at rows i None h))

-- what was passed of these nodes, with others behind
pub record Before (t : Table) (r : ℕ) (p : RowCheck) (rest whole : List Tree) : Type 0 where
  pub nodes : List Tree
  pub stand : nodes ++ rest ≡ whole
  pub passed : IsPassed t nodes r p

or_nothing : (x : Option TableFault) → or_else x None ≡ x
or_nothing None = refl
or_nothing (Some x) = refl

-- one row
pub one_passed : (t : Table) (n : Tree) (r : ℕ) (p : RowCheck) → p.next ≡ r + 1 → Matched (map (λ x. x.0) t.rows) (kind_of n ∷ []) r p.misshapen p.next → IsBelow p.misshapen p.next → shown_any p.fault ≡ row_fault t n (suc r) → IsPassed t (n ∷ []) r p
one_passed t n r p a b l c = record { next = a; shape = b; within = l; fault = c ∙ sym (or_nothing (row_fault t n (suc r))) }
