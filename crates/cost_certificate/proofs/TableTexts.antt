-- A text is read as a table exactly where it is the table's.
use Rattle.std.proofs.Common.{◌≡◌, ℕ, zero, suc, ◌+◌, ◌*◌, ◌-◌, ◌<◌, ◌≤◌, Bool, true, false, cond, ◌&&◌, nat_eq, nat_le, List, [], ◌∷◌, ◌++◌, length, Option, Some, None, refl, sym, ap, ap₂, ◌∙◌, subst, append-nil, arith}
use Rattle.std.specs.Prelude.{codes, map, not, option_map, replicate}
use Rattle.std.specs.Str.{bytes_eq}
use Rattle.std.specs.Fmt.{decimal}
use Rattle.std.proofs.lemmas.Bool.{and_parts, and_from, false≢true}
use Rattle.std.proofs.lemmas.Bool.Decides.{nat_tests}
use Rattle.std.proofs.lemmas.Slice.Eq.{bytes_eq-Decides}
use Rattle.tree.specs.declared.kind.Kind.{Kind}
use Rattle.tree.specs.declared.kind.Kind.TheVariants as kind
use Rattle.language.specs.Claims.{Table}
use Rattle.cost_certificate.specs.Types.{type_name, row_kinds, kind_among, kind_named, has_type}
use Rattle.cost_certificate.specs.Forms.{Format, full, short, limit, header, all_zero, is_short, cell_text, cells_text, row_line, total_line, row_lines, table_lines, lines_text, table_text, is_small, all_small, is_row, all_rows, is_formed, split_lines, split_words, is_digit, digits_value, number_of, cell_of, join_cell, cells_of, written_cells, cells_in, is_number, row_with, row_in, total_in, ReadTable, is_table, bad_line, with_row, at_total, read_line, read_rows, read_lines, read_text}
use Rattle.cost_certificate.proofs.KindNames.{named_back}
use Rattle.cost_certificate.proofs.Numerals.{Numeral, number_is, number_back}
use Rattle.cost_certificate.proofs.LinesAndWords.{lacks_byte, all_lack, lacks_join, lines_join, lines_split, join_words, words_join, words_split}

abbrev Cells : Type 0
Cells = List (Option ℕ)

abbrev pub RowOf : Type 0
RowOf = Kind × List (Option ℕ)

-- Words of a row, as they are written

join_cells : (w : List ℕ) (xs : Cells) → join_words (w ∷ map cell_text xs) ≡ w ++ cells_text xs
join_cells w [] = sym (append-nil w)
join_cells w (x ∷ xs) = ap (λ z. w ++ 32 ∷ z) (join_cells (cell_text x) xs)

abbrev pub row_words : Format → ℕ → RowOf → List (List ℕ)
row_words f r x = decimal r ∷ type_name x.0 ∷ cond (is_short f x.1) [] (map cell_text x.1)

pub row_joined : (f : Format) (r : ℕ) (x : RowOf) → join_words (row_words f r x) ≡ row_line f r x
row_joined f r x = of (is_short f x.1)
  where
    of : (b : Bool) → join_words (decimal r ∷ type_name x.0 ∷ cond b [] (map cell_text x.1)) ≡ decimal r ++ 32 ∷ (type_name x.0 ++ cond b [] (cells_text x.1))
    of true = ap (λ z. decimal r ++ 32 ∷ z) (sym (append-nil (type_name x.0)))
    of false = ap (λ z. decimal r ++ 32 ∷ z) (join_cells (type_name x.0) x.1)

-- What is read

cond_some : {X : Type 0} (b : Bool) (x : Option X) (v : X) → cond b x None ≡ Some v → (b ≡ true) × (x ≡ Some v)
cond_some true x v h = (refl, h)
cond_some false x v h = absurd (cc)

pub small_number : (m : ℕ) → m ≤ 16777216 → nat_le m limit ≡ true
small_number m h = grind (arith, nat_tests, h)

record CellWord (w : List ℕ) (x : Option ℕ) : Type 0 where
  text : w ≡ cell_text x
  small : is_small x ≡ true

number_cell : (w : List ℕ) (o : Option ℕ) (x : Option ℕ) → number_of w ≡ o → option_map (λ m. Some m) o ≡ Some x → CellWord w x
number_cell w None x e h = absurd (cc)
number_cell w (Some m) x e h =
    let n = number_is w m e in
    let q : Some m ≡ x = cc in
    record { text = n.digits ∙ ap cell_text q; small = subst (λ y. is_small y ≡ true) q (small_number m n.small) }

cell_is : (w : List ℕ) (x : Option ℕ) → cell_of w ≡ Some x → CellWord w x
cell_is w x h = of (bytes_eq w (codes "-")) refl h
  where
    of : (b : Bool) → bytes_eq w (codes "-") ≡ b → cond b (Some None) (option_map (λ m. Some m) (number_of w)) ≡ Some x → CellWord w x
    of true e h = let q : None ≡ x = cc in record { text = (bytes_eq-Decides w (codes "-")).0 e ∙ ap cell_text q; small = subst (λ y. is_small y ≡ true) q refl }
    of false e h = number_cell w (number_of w) x refl h

record CellWords (ws : List (List ℕ)) (xs : Cells) : Type 0 where
  text : ws ≡ map cell_text xs
  small : all_small xs ≡ true

join_some : (x : Option (Option ℕ)) (y : Option Cells) (xs : Cells) (G : Type 0) → join_cell x y ≡ Some xs → ((c : Option ℕ) (cs : Cells) → x ≡ Some c → y ≡ Some cs → c ∷ cs ≡ xs → G) → G
join_some None y xs G h f = absurd (cc)
join_some (Some c) None xs G h f = absurd (cc)
join_some (Some c) (Some cs) xs G h f = f c cs refl refl (cc)

cells_are : (ws : List (List ℕ)) (xs : Cells) → cells_of ws ≡ Some xs → CellWords ws xs
cells_are [] xs h = let q : [] ≡ xs = cc in subst (CellWords []) q (record { text = refl; small = refl })
cells_are (w ∷ ws) xs h =
    join_some (cell_of w) (cells_of ws) xs (CellWords (w ∷ ws) xs) h
    (λ c cs e g q. let u = cell_is w c e in let v = cells_are ws cs g in
    subst (CellWords (w ∷ ws)) q (record { text = λ j. u.text j ∷ v.text j; small = and_from (is_small c) (all_small cs) u.small v.small }))

record RowCells (f : Format) (ws : List (List ℕ)) (xs : Cells) : Type 0 where
  text : ws ≡ cond (is_short f xs) [] (map cell_text xs)
  eight : nat_eq (length xs) 8 ≡ true
  small : all_small xs ≡ true

not_true : (b : Bool) → not b ≡ true → b ≡ false
not_true true h = absurd (false≢true h)
not_true false h = refl

written_are : (f : Format) (ws : List (List ℕ)) (o : Option Cells) (xs : Cells) → cells_of ws ≡ o → written_cells f o ≡ Some xs → RowCells f ws xs
written_are f ws None xs e h = absurd (cc)
written_are f ws (Some ys) xs e h =
    let u = cond_some (nat_eq (length ys) 8 && not (is_short f ys)) (Some ys) xs h in
    let q : ys ≡ xs = (let z = u.1 in cc) in
    let v = and_parts (nat_eq (length ys) 8) (not (is_short f ys)) u.0 in
    let c = cells_are ws ys e in
    subst (RowCells f ws) q (record { text = c.text ∙ ap (λ b. cond b [] (map cell_text ys)) (sym (not_true (is_short f ys) v.1)); eight = v.0; small = c.small })

row_cells_are : (f : Format) (ws : List (List ℕ)) (xs : Cells) → cells_in f ws ≡ Some xs → RowCells f ws xs
row_cells_are short [] xs h = let q : replicate 8 (Some 0) ≡ xs = cc in subst (RowCells short []) q (record { text = refl; eight = refl; small = refl })
row_cells_are short (w ∷ ws) xs h = written_are short (w ∷ ws) (cells_of (w ∷ ws)) xs refl h
row_cells_are full ws xs h = written_are full ws (cells_of ws) xs refl h

abbrev all_typed : List Kind → Bool
all_typed [] = true
all_typed (k ∷ ks) = has_type k && all_typed ks

record KindWord (w : List ℕ) (k : Kind) : Type 0 where
  text : type_name k ≡ w
  typed : has_type k ≡ true

kind_on : (w : List ℕ) (j k : Kind) (b : Bool) (o : Option Kind) → bytes_eq (type_name j) w ≡ b → has_type j ≡ true → (o ≡ Some k → KindWord w k) → cond b (Some j) o ≡ Some k → KindWord w k
kind_on w j k true o e g others h = let q : j ≡ k = cc in subst (KindWord w) q (record { text = (bytes_eq-Decides (type_name j) w).0 e; typed = g })
kind_on w j k false o e g others h = others h

kind_is : (ks : List Kind) (w : List ℕ) (k : Kind) → all_typed ks ≡ true → kind_among ks w ≡ Some k → KindWord w k
kind_is [] w k g h = absurd (cc)
kind_is (j ∷ ks) w k g h = let u = and_parts (has_type j) (all_typed ks) g in kind_on w j k (bytes_eq (type_name j) w) (kind_among ks w) refl u.0 (λ z. kind_is ks w k u.1 z) h

pub record RowWords (f : Format) (r : ℕ) (ws : List (List ℕ)) (x : RowOf) : Type 0 where
  pub text : ws ≡ row_words f r x
  pub row : is_row x ≡ true
  pub few : r ≤ 16777216

row_some : (k : Option Kind) (y : Option Cells) (x : RowOf) (G : Type 0) → row_with k y ≡ Some x → ((j : Kind) (xs : Cells) → k ≡ Some j → y ≡ Some xs → (j, xs) ≡ x → G) → G
row_some None y x G h f = absurd (cc)
row_some (Some j) None x G h f = absurd (cc)
row_some (Some j) (Some xs) x G h f = f j xs refl refl (cc)

numbered : (w : List ℕ) (o : Option ℕ) (r : ℕ) → number_of w ≡ o → is_number o r ≡ true → Numeral w r
numbered w None r e h = absurd (false≢true h)
numbered w (Some m) r e h = let q : m ≡ r = grind (arith, nat_tests, h) in subst (Numeral w) q (number_is w m e)

pub row_is : (f : Format) (r : ℕ) (ws : List (List ℕ)) (x : RowOf) → row_in f r ws ≡ Some x → RowWords f r ws x
row_is f r [] x h = absurd (cc)
row_is f r (w ∷ []) x h = absurd (cc)
row_is f r (w ∷ k ∷ ws) x h =
    let u = cond_some (is_number (number_of w) r) (row_with (kind_named k) (cells_in f ws)) x h in
    let n = numbered w (number_of w) r refl u.0 in
    row_some (kind_named k) (cells_in f ws) x (RowWords f r (w ∷ k ∷ ws) x) u.1
    (λ j xs e g q.
    let a = kind_is row_kinds k j refl e in
    let b = row_cells_are f ws xs g in
    subst (RowWords f r (w ∷ k ∷ ws)) q
    (record { text = λ i. n.digits i ∷ sym a.text i ∷ b.text i; row = and_from (has_type j) (nat_eq (length xs) 8 && all_small xs) a.typed (and_from (nat_eq (length xs) 8) (all_small xs) b.eight b.small); few = n.small }))

pub record TotalWords (ws : List (List ℕ)) (c : ℕ) : Type 0 where
  pub text : ws ≡ codes "total" ∷ decimal c ∷ []
  pub small : c ≤ 16777216

pub total_is : (ws : List (List ℕ)) (c : ℕ) → total_in ws ≡ Some c → TotalWords ws c
total_is [] c h = absurd (cc)
total_is (w ∷ []) c h = absurd (cc)
total_is (w ∷ v ∷ []) c h =
    let u = cond_some (bytes_eq w (codes "total")) (number_of v) c h in
    let n = number_is v c u.1 in
    record { text = λ i. (bytes_eq-Decides w (codes "total")).0 u.0 i ∷ n.digits i ∷ []; small = n.small }
total_is (w ∷ v ∷ u ∷ ws) c h = absurd (cc)

record Lines (f : Format) (r : ℕ) (ls : List (List ℕ)) (rest : List ℕ) (g : Format) (t : Table) : Type 0 where
  format : g ≡ f
  lines : ls ≡ row_lines f r t.rows t.total
  over : rest ≡ []
  rows : all_rows t.rows ≡ true
  few : r + length t.rows ≤ 16777217
  total : t.total ≤ 16777216

total_lines : (f : Format) (r c : ℕ) (l : List ℕ) (ls : List (List ℕ)) (rest : List ℕ) (g : Format) (t : Table) → r ≤ 16777217 → TotalWords (split_words l) c → at_total f r c ls rest ≡ is_table g t → Lines f r (l ∷ ls) rest g t
total_lines f r c l [] [] g t few w h =
    let qf : f ≡ g = cc in
    let qt : record { rows = []; total = c } ≡ t = cc in
    subst (λ k. Lines f r (l ∷ []) [] k t) qf (subst (λ u. Lines f r (l ∷ []) [] f u) qt (record {
      format = refl;
      lines = ap (λ k. k ∷ []) (sym (words_join l) ∙ ap join_words w.text);
      over = refl;
      rows = refl;
      few = omega (arith, few);
      total = w.small;
    }))
total_lines f r c l [] (x ∷ rest) g t few w h = absurd (cc)
total_lines f r c l (k ∷ ls) rest g t few w h = absurd (cc)

row_on : (f : Format) (r : ℕ) (x : RowOf) (l : List ℕ) (ls : List (List ℕ)) (rest : List ℕ) (g : Format) (t : Table) (z : ReadTable) → RowWords f r (split_words l) x → ((u : Table) → z ≡ is_table g u → Lines f (suc r) ls rest g u) → with_row x z ≡ is_table g t → Lines f r (l ∷ ls) rest g t
row_on f r x l ls rest g t (bad_line k) w others h = absurd (cc)
row_on f r x l ls rest g t (is_table k u) w others h =
    let qf : k ≡ g = cc in
    let qt : record { rows = x ∷ u.rows; total = u.total } ≡ t = cc in
    let o = others u (ap (λ m. is_table m u) qf) in
    let few = o.few in
    subst (λ v. Lines f r (l ∷ ls) rest g v) qt (record {
      format = o.format;
      lines = λ i. (sym (words_join l) ∙ ap join_words w.text ∙ row_joined f r x) i ∷ o.lines i;
      over = o.over;
      rows = and_from (is_row x) (all_rows u.rows) w.row o.rows;
      few = omega (arith, few);
      total = o.total;
    })

line_on : (f : Format) (r : ℕ) (c : Option ℕ) (x : Option RowOf) (l : List ℕ) (ls : List (List ℕ)) (rest : List ℕ) (g : Format) (t : Table) → r ≤ 16777217 → total_in (split_words l) ≡ c → row_in f r (split_words l) ≡ x →
    (r ≤ 16777216 → (u : Table) → read_rows f (suc r) ls rest ≡ is_table g u → Lines f (suc r) ls rest g u) → read_line f r c x ls rest (read_rows f (suc r) ls rest) ≡ is_table g t → Lines f r (l ∷ ls) rest g t
line_on f r (Some c) x l ls rest g t few e q others h = total_lines f r c l ls rest g t few (total_is (split_words l) c e) h
line_on f r None None l ls rest g t few e q others h = absurd (cc)
line_on f r None (Some x) l ls rest g t few e q others h =
    let w = row_is f r (split_words l) x q in row_on f r x l ls rest g t (read_rows f (suc r) ls rest) w (λ u k. others w.few u k) h

rows_are : (f : Format) (r : ℕ) (ls : List (List ℕ)) (rest : List ℕ) (g : Format) (t : Table) → r ≤ 16777217 → read_rows f r ls rest ≡ is_table g t → Lines f r ls rest g t
rows_are f r [] rest g t few h = absurd (cc)
rows_are f r (l ∷ ls) rest g t few h =
    line_on f r (total_in (split_words l)) (row_in f r (split_words l)) l ls rest g t few refl refl (λ low u k. rows_are f (suc r) ls rest g u (omega (arith, low)) k) h

formed_of : (f : Format) (ls : List (List ℕ)) (rest : List ℕ) (g : Format) (t : Table) → Lines f 1 ls rest g t → is_formed t ≡ true
formed_of f ls rest g t x = let few = x.few in and_from (nat_le (length t.rows) limit) _ (small_number (length t.rows) (omega (arith, few))) (and_from (all_rows t.rows) (nat_le t.total limit) x.rows (small_number t.total x.total))

with_header : (f : Format) (l : List ℕ) (ls : List (List ℕ)) (rest : List ℕ) (g : Format) (t : Table) → bytes_eq l (header f) ≡ true → read_rows f 1 ls rest ≡ is_table g t → (is_formed t ≡ true) × (lines_text (l ∷ ls) ++ rest ≡ table_text g t)
with_header f l ls rest g t e h =
    let x = rows_are f 1 ls rest g t (omega arith) h in (
      formed_of f ls rest g t x,
      (λ i. lines_text ((bytes_eq-Decides l (header f)).0 e i ∷ x.lines i) ++ x.over i) ∙ append-nil (table_text f t) ∙ ap (λ k. table_text k t) (sym x.format),
    )

lines_are : (ls : List (List ℕ)) (rest : List ℕ) (g : Format) (t : Table) → read_lines ls rest ≡ is_table g t → (is_formed t ≡ true) × (lines_text ls ++ rest ≡ table_text g t)
lines_are [] rest g t h = absurd (cc)
lines_are (l ∷ ls) rest g t h = of (bytes_eq l (header full)) (bytes_eq l (header short)) refl refl h
  where
    of : (a b : Bool) → bytes_eq l (header full) ≡ a → bytes_eq l (header short) ≡ b → cond a (read_rows full 1 ls rest) (cond b (read_rows short 1 ls rest) (bad_line 0)) ≡ is_table g t → (is_formed t ≡ true) × (lines_text (l ∷ ls) ++ rest ≡ table_text g t)
    of true b e q h = with_header full l ls rest g t e h
    of false true e q h = with_header short l ls rest g t q h
    of false false e q h = absurd (cc)

pub read_is : (text : List ℕ) (f : Format) (t : Table) → read_text text ≡ is_table f t → (is_formed t ≡ true) × (text ≡ table_text f t)
read_is text f t h = let x = lines_are (split_lines text).0 (split_lines text).1 f t h in (x.0, sym (lines_join text) ∙ x.1)

-- What is written

digits_lack : (k m : ℕ) (cs : List ℕ) (v : ℕ) → k < 48 → digits_value m cs ≡ Some v → lacks_byte k cs ≡ true
digits_lack k m [] v l h = refl
digits_lack k m (c ∷ cs) v l h =
    let u = cond_some (is_digit c && nat_le m limit) (digits_value (m * 10 + (c - 48)) cs) v h in
    let d = and_parts (nat_le 48 c) (nat_le c 57) (and_parts (is_digit c) (nat_le m limit) u.0).0 in
    let a = d.0 in
    let t : not (nat_eq c k) ≡ true = grind (arith, nat_tests, a, l) in
    and_from (not (nat_eq c k)) (lacks_byte k cs) t (digits_lack k (m * 10 + (c - 48)) cs v l u.1)

unpadded : (c : ℕ) (cs : List ℕ) (v : ℕ) (b : Bool) → cond b None (digits_value 0 cs) ≡ Some v → digits_value 0 cs ≡ Some v
unpadded c cs v true h = absurd (cc)
unpadded c cs v false h = h

number_lacks : (k : ℕ) (w : List ℕ) (v : ℕ) → k < 48 → number_of w ≡ Some v → lacks_byte k w ≡ true
number_lacks k [] v l h = refl
number_lacks k (c ∷ []) v l h = digits_lack k 0 (c ∷ []) v l h
number_lacks k (c ∷ d ∷ cs) v l h = digits_lack k 0 (c ∷ d ∷ cs) v l (unpadded c (c ∷ d ∷ cs) v (nat_eq c 48) h)

decimal_lacks : (k m : ℕ) → k < 48 → m ≤ 16777216 → lacks_byte k (decimal m) ≡ true
decimal_lacks k m l h = number_lacks k (decimal m) m l (number_back m h)

space_in_type : (k : Kind) → lacks_byte 32 (type_name k) ≡ true
space_in_type kind.Program = refl
space_in_type _ = refl

feed_in_type : (k : Kind) → lacks_byte 10 (type_name k) ≡ true
feed_in_type kind.Program = refl
feed_in_type _ = refl

pub number_small : (m : ℕ) → nat_le m limit ≡ true → m ≤ 16777216
number_small m h = grind (arith, nat_tests, h)

cell_lacks : (k : ℕ) (x : Option ℕ) → k < 45 → is_small x ≡ true → lacks_byte k (cell_text x) ≡ true
cell_lacks k None l h = let t : not (nat_eq 45 k) ≡ true = grind (arith, nat_tests, l) in and_from (not (nat_eq 45 k)) true t refl
cell_lacks k (Some m) l h = decimal_lacks k m (omega (arith, l)) (number_small m h)

cells_lack : (k : ℕ) (xs : Cells) → k < 45 → all_small xs ≡ true → all_lack k (map cell_text xs) ≡ true
cells_lack k [] l h = refl
cells_lack k (x ∷ xs) l h = let u = and_parts (is_small x) (all_small xs) h in and_from (lacks_byte k (cell_text x)) (all_lack k (map cell_text xs)) (cell_lacks k x l u.0) (cells_lack k xs l u.1)

some_lack : (k : ℕ) (b : Bool) (xs : Cells) → k < 45 → all_small xs ≡ true → all_lack k (cond b [] (map cell_text xs)) ≡ true
some_lack k true xs l h = refl
some_lack k false xs l h = cells_lack k xs l h

record RowParts (x : RowOf) : Type 0 where
  typed : has_type x.0 ≡ true
  eight : nat_eq (length x.1) 8 ≡ true
  small : all_small x.1 ≡ true

row_parts : (x : RowOf) → is_row x ≡ true → RowParts x
row_parts x h = let u = and_parts (has_type x.0) (nat_eq (length x.1) 8 && all_small x.1) h in let v = and_parts (nat_eq (length x.1) 8) (all_small x.1) u.1 in record { typed = u.0; eight = v.0; small = v.1 }

pub row_split : (f : Format) (r : ℕ) (x : RowOf) → r ≤ 16777216 → is_row x ≡ true → split_words (row_line f r x) ≡ row_words f r x
row_split f r x l h =
    let p = row_parts x h in
    ap split_words (sym (row_joined f r x)) ∙
    words_split (decimal r) (type_name x.0 ∷ cond (is_short f x.1) [] (map cell_text x.1))
    (and_from (lacks_byte 32 (decimal r)) _ (decimal_lacks 32 r (omega arith) l) (and_from (lacks_byte 32 (type_name x.0)) _ (space_in_type x.0) (some_lack 32 (is_short f x.1) x.1 (omega arith) p.small)))

pub total_split : (c : ℕ) → c ≤ 16777216 → split_words (total_line c) ≡ codes "total" ∷ decimal c ∷ []
total_split c l = words_split (codes "total") (decimal c ∷ []) (and_from (lacks_byte 32 (codes "total")) _ refl (and_from (lacks_byte 32 (decimal c)) true (decimal_lacks 32 c (omega arith) l) refl))

none_some : {m : ℕ} → None ≡ Some m → ⊥
none_some h = absurd (cc)

cell_back : (x : Option ℕ) → is_small x ≡ true → cell_of (cell_text x) ≡ Some x
cell_back None h = refl
cell_back (Some m) h = of (bytes_eq (decimal m) (codes "-")) refl
  where
    n : number_of (decimal m) ≡ Some m
    n = number_back m (number_small m h)

    of : (b : Bool) → bytes_eq (decimal m) (codes "-") ≡ b → cond b (Some None) (option_map (λ k. Some k) (number_of (decimal m))) ≡ Some (Some m)
    of true e = let z : number_of (codes "-") ≡ None = refl in let w : None ≡ Some m = sym z ∙ ap number_of (sym ((bytes_eq-Decides (decimal m) (codes "-")).0 e)) ∙ n in absurd (none_some w)
    of false e = ap (option_map (λ k. Some k)) n

cells_back : (xs : Cells) → all_small xs ≡ true → cells_of (map cell_text xs) ≡ Some xs
cells_back [] h = refl
cells_back (x ∷ xs) h = let u = and_parts (is_small x) (all_small xs) h in ap₂ join_cell (cell_back x u.0) (cells_back xs u.1)

-- eight zeros are written in one way in format 2
zeros : (n : ℕ) (xs : Cells) → length xs ≡ n → all_zero xs ≡ true → xs ≡ replicate n (Some 0)
zeros zero [] e h = refl
zeros zero (x ∷ xs) e h = absurd (omega (arith, e))
zeros (suc n) [] e h = absurd (omega (arith, e))
zeros (suc n) (None ∷ xs) e h = absurd (false≢true h)
zeros (suc n) (Some m ∷ xs) e h =
    let u = and_parts (nat_eq m 0) (all_zero xs) h in
    let a = u.0 in
    let z : m ≡ 0 = grind (arith, nat_tests, a) in
    λ i. Some (z i) ∷ zeros n xs (omega (arith, e)) u.1 i

written_back : (f : Format) (xs : Cells) → is_short f xs ≡ false → nat_eq (length xs) 8 ≡ true → all_small xs ≡ true → written_cells f (cells_of (map cell_text xs)) ≡ Some xs
written_back f xs e g h =
    ap (written_cells f) (cells_back xs h) ∙ ap (λ b. cond b (Some xs) None) (and_from (nat_eq (length xs) 8) (not (is_short f xs)) g (ap not e))

row_cells_back : (f : Format) (xs : Cells) → nat_eq (length xs) 8 ≡ true → all_small xs ≡ true → (b : Bool) → is_short f xs ≡ b → cells_in f (cond b [] (map cell_text xs)) ≡ Some xs
row_cells_back full xs g h true e = absurd (false≢true e)
row_cells_back short xs g h true e = let l : length xs ≡ 8 = grind (arith, nat_tests, g) in ap (λ z. Some z) (sym (zeros 8 xs l e))
row_cells_back full xs g h false e = written_back full xs e g h
row_cells_back short [] g h false e = absurd (false≢true g)
row_cells_back short (x ∷ xs) g h false e = written_back short (x ∷ xs) e g h

same_number : (r : ℕ) → nat_eq r r ≡ true
same_number r = grind (arith, nat_tests)

pub row_back : (f : Format) (r : ℕ) (x : RowOf) → r ≤ 16777216 → is_row x ≡ true → row_in f r (row_words f r x) ≡ Some x
row_back f r x l h =
    let p = row_parts x h in
    ap (λ o. cond (is_number o r) (row_with (kind_named (type_name x.0)) (cells_in f (cond (is_short f x.1) [] (map cell_text x.1)))) None) (number_back r l)
    ∙ ap (λ b. cond b (row_with (kind_named (type_name x.0)) (cells_in f (cond (is_short f x.1) [] (map cell_text x.1)))) None) (same_number r)
    ∙ ap₂ row_with (named_back x.0 p.typed) (row_cells_back f x.1 p.eight p.small (is_short f x.1) refl)

no_total : (r : ℕ) → r ≤ 16777216 → bytes_eq (decimal r) (codes "total") ≡ false
no_total r l = of (bytes_eq (decimal r) (codes "total")) refl
  where
    of : (b : Bool) → bytes_eq (decimal r) (codes "total") ≡ b → b ≡ false
    of true e = let z : number_of (codes "total") ≡ None = refl in let w : None ≡ Some r = sym z ∙ ap number_of (sym ((bytes_eq-Decides (decimal r) (codes "total")).0 e)) ∙ number_back r l in absurd (none_some w)
    of false e = refl

pub row_no_total : (r : ℕ) (k : List ℕ) (ws : List (List ℕ)) → r ≤ 16777216 → total_in (decimal r ∷ k ∷ ws) ≡ None
row_no_total r k [] l = ap (λ b. cond b (number_of k) None) (no_total r l)
row_no_total r k (w ∷ ws) l = refl

lines_back : (f : Format) (r : ℕ) (xs : List RowOf) (c : ℕ) → all_rows xs ≡ true → r + length xs ≤ 16777217 → c ≤ 16777216 → read_rows f r (row_lines f r xs c) [] ≡ is_table f (record { rows = xs; total = c })
lines_back f r [] c h l g =
    (λ i. let ws = total_split c g i in read_line f r (total_in ws) (row_in f r ws) [] [] (read_rows f (suc r) [] []))
    ∙ ap (λ o. read_line f r o (row_in f r (codes "total" ∷ decimal c ∷ [])) [] [] (read_rows f (suc r) [] [])) (number_back c g)
lines_back f r (x ∷ xs) c h l g =
    let u = and_parts (is_row x) (all_rows xs) h in
    let low : r ≤ 16777216 = omega (arith, l) in
    (λ i. let ws = row_split f r x low u.0 i in read_line f r (total_in ws) (row_in f r ws) (row_lines f (suc r) xs c) [] (read_rows f (suc r) (row_lines f (suc r) xs c) []))
    ∙ (λ i. read_line f r (row_no_total r (type_name x.0) (cond (is_short f x.1) [] (map cell_text x.1)) low i) (row_back f r x low u.0 i) (row_lines f (suc r) xs c) [] (lines_back f (suc r) xs c u.1 (omega (arith, l)) g i))

-- no line has a line feed in it

cells_text_lack : (xs : Cells) → all_small xs ≡ true → lacks_byte 10 (cells_text xs) ≡ true
cells_text_lack [] h = refl
cells_text_lack (x ∷ xs) h = let u = and_parts (is_small x) (all_small xs) h in lacks_join 10 (cell_text x) (cells_text xs) (cell_lacks 10 x (omega arith) u.0) (cells_text_lack xs u.1)

row_lacks : (f : Format) (r : ℕ) (x : RowOf) → r ≤ 16777216 → is_row x ≡ true → lacks_byte 10 (row_line f r x) ≡ true
row_lacks f r x l h =
    let p = row_parts x h in
    lacks_join 10 (decimal r) (32 ∷ (type_name x.0 ++ cond (is_short f x.1) [] (cells_text x.1))) (decimal_lacks 10 r (omega arith) l)
    (lacks_join 10 (type_name x.0) (cond (is_short f x.1) [] (cells_text x.1)) (feed_in_type x.0) (of (is_short f x.1) p.small))
  where
    of : (b : Bool) → all_small x.1 ≡ true → lacks_byte 10 (cond b [] (cells_text x.1)) ≡ true
    of true g = refl
    of false g = cells_text_lack x.1 g

lines_lack : (f : Format) (r : ℕ) (xs : List RowOf) (c : ℕ) → all_rows xs ≡ true → r + length xs ≤ 16777217 → c ≤ 16777216 → all_lack 10 (row_lines f r xs c) ≡ true
lines_lack f r [] c h l g = and_from (lacks_byte 10 (total_line c)) true (decimal_lacks 10 c (omega arith) g) refl
lines_lack f r (x ∷ xs) c h l g =
    let u = and_parts (is_row x) (all_rows xs) h in
    and_from (lacks_byte 10 (row_line f r x)) (all_lack 10 (row_lines f (suc r) xs c)) (row_lacks f r x (omega (arith, l)) u.0) (lines_lack f (suc r) xs c u.1 (omega (arith, l)) g)

header_back : (f : Format) (ls : List (List ℕ)) (rest : List ℕ) → read_lines (header f ∷ ls) rest ≡ read_rows f 1 ls rest
header_back full ls rest = refl
header_back short ls rest = refl

header_lacks : (f : Format) → lacks_byte 10 (header f) ≡ true
header_lacks full = refl
header_lacks short = refl

pub read_back : (text : List ℕ) (f : Format) (t : Table) → is_formed t ≡ true → text ≡ table_text f t → read_text text ≡ is_table f t
read_back text f t h e =
    let u = and_parts (nat_le (length t.rows) limit) (all_rows t.rows && nat_le t.total limit) h in
    let v = and_parts (all_rows t.rows) (nat_le t.total limit) u.1 in
    let few = number_small (length t.rows) u.0 in
    let total = number_small t.total v.1 in
    let lack = and_from (lacks_byte 10 (header f)) (all_lack 10 (row_lines f 1 t.rows t.total)) (header_lacks f) (lines_lack f 1 t.rows t.total v.0 (omega (arith, few)) total) in
    ap read_text e ∙ ap (λ x. read_lines x.0 x.1) (lines_split (table_lines f t) lack) ∙ header_back f (row_lines f 1 t.rows t.total) [] ∙ lines_back f 1 t.rows t.total v.0 (omega (arith, few)) total
