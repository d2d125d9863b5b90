-- The line that is refused is the first with which a text departs from all tables.
use Rattle.std.proofs.Common.{◌≡◌, ℕ, suc, ◌+◌, ◌≤◌, Bool, true, false, cond, ◌&&◌, nat_le, List, [], ◌∷◌, length, Option, Some, None, refl, sym, ap, ◌∙◌, subst, arith}
use Rattle.std.specs.Prelude.{codes, take}
use Rattle.std.specs.Str.{bytes_eq}
use Rattle.std.proofs.lemmas.Bool.{and_parts, and_from, false≢true, true≢false}
use Rattle.std.proofs.lemmas.Slice.Eq.{bytes_eq-Decides}
use Rattle.language.specs.Claims.{Table}
use Rattle.cost_certificate.specs.Forms.{Format, full, short, limit, header, row_line, total_line, row_lines, table_lines, is_row, all_rows, is_formed, split_lines, split_words, row_in, total_in, ReadTable, is_table, bad_line, at_total, read_line, read_rows, read_lines, read_text, SharesLines, IsBadLine}
use Rattle.cost_certificate.specs.Types.{type_name}
use Rattle.cost_certificate.proofs.Numerals.{number_back}
use Rattle.cost_certificate.proofs.LinesAndWords.{join_words, words_join}
use Rattle.cost_certificate.proofs.TableTexts.{RowOf, RowWords, row_is, total_is, row_split, total_split, row_back, row_no_total, row_joined, read_back, number_small, small_number}

-- What a line of a table is read as

row_read : (f : Format) (r : ℕ) (x : RowOf) (l : List ℕ) → r ≤ 16777216 → is_row x ≡ true → l ≡ row_line f r x → row_in f r (split_words l) ≡ Some x
row_read f r x l low h e = ap (λ z. row_in f r (split_words z)) e ∙ ap (row_in f r) (row_split f r x low h) ∙ row_back f r x low h

row_is_no_total : (f : Format) (r : ℕ) (x : RowOf) (l : List ℕ) → r ≤ 16777216 → is_row x ≡ true → l ≡ row_line f r x → total_in (split_words l) ≡ None
row_is_no_total f r x l low h e = ap (λ z. total_in (split_words z)) e ∙ ap total_in (row_split f r x low h) ∙ row_no_total r (type_name x.0) _ low

total_read : (c : ℕ) (l : List ℕ) → c ≤ 16777216 → l ≡ total_line c → total_in (split_words l) ≡ Some c
total_read c l g e = ap (λ z. total_in (split_words z)) e ∙ ap total_in (total_split c g) ∙ number_back c g

none_some : {X : Type 0} {o : Option X} {x : X} → o ≡ None → o ≡ Some x → ⊥
none_some h k = absurd (cc)

-- Rows

record Departs (f : Format) (r : ℕ) (ls : List (List ℕ)) (k : ℕ) : Type 0 where
  count : ℕ
  is : k ≡ r + count
  within : count ≤ length ls
  rows : List RowOf
  total : ℕ
  good : all_rows rows ≡ true
  few : r + length rows ≤ 16777217
  small : total ≤ 16777216
  shares : take count ls ≡ take count (row_lines f r rows total)
  no_more : (xs : List RowOf) (c : ℕ) → all_rows xs ≡ true → r + length xs ≤ 16777217 → c ≤ 16777216 → suc count ≤ length ls → take (suc count) ls ≡ take (suc count) (row_lines f r xs c) → ⊥

no_line : (f : Format) (r : ℕ) (ls : List (List ℕ)) → r ≤ 16777217 →
    ((xs : List RowOf) (c : ℕ) → all_rows xs ≡ true → r + length xs ≤ 16777217 → c ≤ 16777216 → 1 ≤ length ls → take 1 ls ≡ take 1 (row_lines f r xs c) → ⊥) → Departs f r ls r
no_line f r ls few h = record {
  count = 0;
  is = omega arith;
  within = omega arith;
  rows = [];
  total = 0;
  good = refl;
  few = omega (arith, few);
  small = omega arith;
  shares = refl;
  no_more = h;
}

bad_first : (f : Format) (r : ℕ) (l : List ℕ) (ls : List (List ℕ)) → total_in (split_words l) ≡ None → row_in f r (split_words l) ≡ None → (xs : List RowOf) (c : ℕ) → all_rows xs ≡ true → r + length xs ≤ 16777217 → c ≤ 16777216 →
    take 1 (l ∷ ls) ≡ take 1 (row_lines f r xs c) → ⊥
bad_first f r l ls e q [] c h few g same = let s : l ≡ total_line c = cc in none_some e (total_read c l g s)
bad_first f r l ls e q (x ∷ xs) c h few g same = let s : l ≡ row_line f r x = cc in none_some q (row_read f r x l (omega (arith, few)) (and_parts (is_row x) (all_rows xs) h).0 s)

more_behind : (f : Format) (r d : ℕ) (l : List ℕ) (ls : List (List ℕ)) → total_in (split_words l) ≡ Some d → (xs : List RowOf) (c : ℕ) → all_rows xs ≡ true → r + length xs ≤ 16777217 → c ≤ 16777216 → 2 ≤ length (l ∷ ls) →
    take 2 (l ∷ ls) ≡ take 2 (row_lines f r xs c) → ⊥
more_behind f r d l [] e xs c h few g two same = absurd (omega (arith, two))
more_behind f r d l (m ∷ ls) e [] c h few g two same = absurd (cc)
more_behind f r d l (m ∷ ls) e (x ∷ []) c h few g two same = let s : l ≡ row_line f r x = cc in none_some (row_is_no_total f r x l (omega (arith, few)) (and_parts (is_row x) true h).0 s) e
more_behind f r d l (m ∷ ls) e (x ∷ y ∷ xs) c h few g two same = let s : l ≡ row_line f r x = cc in none_some (row_is_no_total f r x l (omega (arith, few)) (and_parts (is_row x) (all_rows (y ∷ xs)) h).0 s) e

total_departs : (f : Format) (r d k : ℕ) (l : List ℕ) (ls : List (List ℕ)) (rest : List ℕ) → r ≤ 16777217 → total_in (split_words l) ≡ Some d → at_total f r d ls rest ≡ bad_line k → Departs f r (l ∷ ls) k
total_departs f r d k l ls rest few e h =
    let w = total_is (split_words l) d e in
    record {
      count = 1;
      is = after ls rest h;
      within = omega arith;
      rows = [];
      total = d;
      good = refl;
      few = omega (arith, few);
      small = w.small;
      shares = ap (λ z. z ∷ []) (sym (words_join l) ∙ ap join_words w.text);
      no_more = more_behind f r d l ls e;
    }
  where
    after : (ls : List (List ℕ)) (rest : List ℕ) → at_total f r d ls rest ≡ bad_line k → k ≡ r + 1
    after [] [] h = absurd (cc)
    after [] (c ∷ rest) h = let q : suc r ≡ k = cc in omega (arith, q)
    after (m ∷ ls) rest h = let q : suc r ≡ k = cc in omega (arith, q)

row_departs : (f : Format) (r k : ℕ) (x : RowOf) (l : List ℕ) (ls : List (List ℕ)) → total_in (split_words l) ≡ None → RowWords f r (split_words l) x → Departs f (suc r) ls k → Departs f r (l ∷ ls) k
row_departs f r k x l ls e w o =
    let is = o.is in
    let within = o.within in
    let few = o.few in
    record {
      count = suc o.count;
      is = omega (arith, is);
      within = omega (arith, within);
      rows = x ∷ o.rows;
      total = o.total;
      good = and_from (is_row x) (all_rows o.rows) w.row o.good;
      few = omega (arith, few);
      small = o.small;
      shares = λ i. (sym (words_join l) ∙ ap join_words w.text ∙ row_joined f r x) i ∷ o.shares i;
      no_more = λ xs c h less g long same. other xs c h less g long same;
    }
  where
    other : (xs : List RowOf) (c : ℕ) → all_rows xs ≡ true → r + length xs ≤ 16777217 → c ≤ 16777216 → suc (suc o.count) ≤ length (l ∷ ls) → take (suc (suc o.count)) (l ∷ ls) ≡ take (suc (suc o.count)) (row_lines f r xs c) → ⊥
    other [] c h less g long same = let s : l ≡ total_line c = cc in none_some e (total_read c l g s)
    other (y ∷ ys) c h less g long same =
        let u = and_parts (is_row y) (all_rows ys) h in
        let s : take (suc o.count) ls ≡ take (suc o.count) (row_lines f (suc r) ys c) = cc in
        o.no_more ys c u.1 (omega (arith, less)) g (omega (arith, long)) s

line_departs : (f : Format) (r k : ℕ) (c : Option ℕ) (x : Option RowOf) (l : List ℕ) (ls : List (List ℕ)) (rest : List ℕ) → r ≤ 16777217 → total_in (split_words l) ≡ c → row_in f r (split_words l) ≡ x →
    ((j : ℕ) → r ≤ 16777216 → read_rows f (suc r) ls rest ≡ bad_line j → Departs f (suc r) ls j) → (z : ReadTable) → z ≡ read_rows f (suc r) ls rest → read_line f r c x ls rest z ≡ bad_line k → Departs f r (l ∷ ls) k
line_departs f r k (Some d) x l ls rest few e q others z s h = total_departs f r d k l ls rest few e h
line_departs f r k None None l ls rest few e q others z s h = let same : r ≡ k = cc in subst (Departs f r (l ∷ ls)) same (no_line f r (l ∷ ls) few (λ xs c g less m one t. bad_first f r l ls e q xs c g less m t))
line_departs f r k None (Some x) l ls rest few e q others (bad_line j) s h =
    let w = row_is f r (split_words l) x q in let same : j ≡ k = cc in subst (Departs f r (l ∷ ls)) same (row_departs f r j x l ls e w (others j w.few (sym s)))
line_departs f r k None (Some x) l ls rest few e q others (is_table g t) s h = absurd (cc)

rows_depart : (f : Format) (r k : ℕ) (ls : List (List ℕ)) (rest : List ℕ) → r ≤ 16777217 → read_rows f r ls rest ≡ bad_line k → Departs f r ls k
rows_depart f r k [] rest few h = let same : r ≡ k = cc in subst (Departs f r []) same (no_line f r [] few (λ xs c g less m one t. absurd (omega (arith, one))))
rows_depart f r k (l ∷ ls) rest few h =
    line_departs f r k (total_in (split_words l)) (row_in f r (split_words l)) l ls rest few refl refl (λ j low g. rows_depart f (suc r) j ls rest (omega (arith, low)) g) (read_rows f (suc r) ls rest) refl h

-- The whole text

one_format : (f g : Format) → header f ≡ header g → f ≡ g
one_format full full h = refl
one_format short short h = refl
one_format full short h = absurd (of refl (ap (λ w. bytes_eq w (codes "jslint-cost 1")) h))
  where
    of : bytes_eq (header short) (codes "jslint-cost 1") ≡ false → true ≡ bytes_eq (header short) (codes "jslint-cost 1") → ⊥
    of a b = false≢true (sym a ∙ sym b)
one_format short full h = absurd (of refl (ap (λ w. bytes_eq w (codes "jslint-cost 2")) h))
  where
    of : bytes_eq (header full) (codes "jslint-cost 2") ≡ false → true ≡ bytes_eq (header full) (codes "jslint-cost 2") → ⊥
    of a b = false≢true (sym a ∙ sym b)

formed_from : (rows : List RowOf) (total : ℕ) → all_rows rows ≡ true → 1 + length rows ≤ 16777217 → total ≤ 16777216 → is_formed (record { rows = rows; total = total }) ≡ true
formed_from rows total h few g = and_from (nat_le (length rows) limit) _ (small_number (length rows) (omega (arith, few))) (and_from (all_rows rows) (nat_le total limit) h (small_number total g))

record Formed (t : Table) : Type 0 where
  few : length t.rows ≤ 16777216
  good : all_rows t.rows ≡ true
  small : t.total ≤ 16777216

formed_parts : (t : Table) → is_formed t ≡ true → Formed t
formed_parts t h =
    let u = and_parts (nat_le (length t.rows) limit) (all_rows t.rows && nat_le t.total limit) h in
    let v = and_parts (all_rows t.rows) (nat_le t.total limit) u.1 in
    record { few = number_small (length t.rows) u.0; good = v.0; small = number_small t.total v.1 }

abbrev AtLine : List (List ℕ) → ℕ → Type 0
AtLine ls r = SharesLines r ls × (SharesLines (suc r) ls → ⊥)

-- nothing is shared
at_start : (ls : List (List ℕ)) → ((f : Format) (t : Table) → 1 ≤ length ls → take 1 ls ≡ header f ∷ [] → ⊥) → AtLine ls 0
at_start ls h = (
  (full, record { rows = []; total = 0 }, refl, omega arith, refl),
  λ s. h s.0 s.1 s.3 s.4,
)

behind_header : (f : Format) (r : ℕ) (l : List ℕ) (ls : List (List ℕ)) → bytes_eq l (header f) ≡ true → Departs f 1 ls r → AtLine (l ∷ ls) r
behind_header f r l ls e o =
    let is = o.is in
    let within = o.within in
    let r' : suc o.count ≡ r = omega (arith, is) in
    subst (AtLine (l ∷ ls)) r' (
      (f, record { rows = o.rows; total = o.total }, formed_from o.rows o.total o.good o.few o.small, omega (arith, within), (λ i. (bytes_eq-Decides l (header f)).0 e i ∷ o.shares i)),
      λ s. no_more s.0 s.1 s.2 s.3 s.4,
    )
  where
    no_more : (g : Format) (t : Table) → is_formed t ≡ true → suc (suc o.count) ≤ length (l ∷ ls) → take (suc (suc o.count)) (l ∷ ls) ≡ take (suc (suc o.count)) (table_lines g t) → ⊥
    no_more g t h long same =
        let p = formed_parts t h in
        let few = p.few in
        let head : l ≡ header g = cc in
        let format : g ≡ f = one_format g f (sym head ∙ (bytes_eq-Decides l (header f)).0 e) in
        let rest : take (suc o.count) ls ≡ take (suc o.count) (row_lines g 1 t.rows t.total) = cc in
        o.no_more t.rows t.total p.good (omega (arith, few)) p.small (omega (arith, long)) (subst (λ k. take (suc o.count) ls ≡ take (suc o.count) (row_lines k 1 t.rows t.total)) format rest)

lines_depart : (ls : List (List ℕ)) (rest : List ℕ) (r : ℕ) → read_lines ls rest ≡ bad_line r → AtLine ls r
lines_depart [] rest r h = let same : 0 ≡ r = cc in subst (AtLine []) same (at_start [] (λ f t one s. absurd (omega (arith, one))))
lines_depart (l ∷ ls) rest r h = of (bytes_eq l (header full)) (bytes_eq l (header short)) refl refl h
  where
    no_header : (f : Format) → bytes_eq l (header full) ≡ false → bytes_eq l (header short) ≡ false → l ≡ header f → ⊥
    no_header full e q s = true≢false (sym ((bytes_eq-Decides l (header full)).1 s) ∙ e)
    no_header short e q s = true≢false (sym ((bytes_eq-Decides l (header short)).1 s) ∙ q)

    of : (a b : Bool) → bytes_eq l (header full) ≡ a → bytes_eq l (header short) ≡ b → cond a (read_rows full 1 ls rest) (cond b (read_rows short 1 ls rest) (bad_line 0)) ≡ bad_line r → AtLine (l ∷ ls) r
    of true b e q h = behind_header full r l ls e (rows_depart full 1 r ls rest (omega arith) h)
    of false true e q h = behind_header short r l ls q (rows_depart short 1 r ls rest (omega arith) h)
    of false false e q h = let same : 0 ≡ r = cc in subst (AtLine (l ∷ ls)) same (at_start (l ∷ ls) (λ f t one s. no_header f e q (cc)))

no_table : (r : ℕ) (f : Format) (t : Table) (z : ReadTable) → z ≡ bad_line r → z ≡ is_table f t → ⊥
no_table r f t z h k = absurd (cc)

pub departs : (text : List ℕ) (r : ℕ) → read_text text ≡ bad_line r → IsBadLine text r
departs text r h =
    let x = lines_depart (split_lines text).0 (split_lines text).1 r h in
    (x.0, x.1, λ t s. no_table r s.0 t (read_text text) h (read_back text s.0 t s.1 s.2))
