-- What is written of a node's marks, one after the other.
use Rattle.std.proofs.Common.{◌≡◌, ℕ, suc, ◌+◌, Bool, true, false, not, List, [], ◌∷◌, ◌++◌, refl, sym, ap, ◌∙◌, subst, append_assoc, add_assoc, add-zero}
use Rattle.std.specs.Prelude.{Some, None, ◌&&◌}
use Rattle.tree.specs.Tree.{Tree, Parts, none, part, gap, part_at}
use Rattle.language.specs.Pieces.{Role}
use Rattle.language.specs.RowPositions.{rows, parts_rows}
use Rattle.language.specs.Layout.{layout}
use Rattle.spelling_table.specs.Outlines.{parts_after}
use Rattle.spellings.proofs.PartsAfter.{some-suc}
use Rattle.printer.specs.declared.site.Site.{Site}
use Rattle.printer.specs.Bits.{Mark, here, shallower, Bit, token, own_text, newline, feeding, loosely, chunk, Chain, nothing, joined, commas, lines, feeds, parameters}
use Rattle.printer.specs.Shapes.{inner}
use Rattle.printer.specs.Sheets.{View, Writes, flag_at}
use Rattle.printer.proofs.FusedTokens.{bit_text, bits_text}
use Rattle.language.specs.LayoutFits.{fits, parts_fit}
use Rattle.printer.proofs.WrittenTexts.{leads_then, leads_at, leads_same}
use Rattle.printer.specs.Printed.{mark_of, marks_in, marks_text, deep, Reads, Printed, Passed, Written}

module _ (W : ℕ → Bool) where
  bit_marks : (w : List ℕ) (x : Bit) (ms : List Mark) (ps : Parts) (xs : List Role) (r d : ℕ) (b : Bool) → marks_text W (mark_of w x ∷ ms) ps xs r d b ≡ bit_text w d b x ++ marks_text W ms ps xs r d b
  bit_marks w (token v) ms ps xs r d b = refl
  bit_marks w loosely ms ps xs r d true = refl
  bit_marks w loosely ms ps xs r d false = refl
  bit_marks w _ ms ps xs r d b = refl

  bits_marks : (w : List ℕ) (us : List Bit) (ms : List Mark) (ps : Parts) (xs : List Role) (r d : ℕ) (b : Bool) → marks_text W (marks_in w us ++ ms) ps xs r d b ≡ bits_text w d b us ++ marks_text W ms ps xs r d b
  bits_marks w [] ms ps xs r d b = refl
  bits_marks w (u ∷ us) ms ps xs r d b =
      bit_marks w u (marks_in w us ++ ms) ps xs r d b ∙ ap (λ t. bit_text w d b u ++ t) (bits_marks w us ms ps xs r d b)
      ∙ sym (append_assoc (bit_text w d b u) (bits_text w d b us) (marks_text W ms ps xs r d b))

  pub passed_nothing : {a : View} {ms : List Mark} {ps : Parts} {xs : List Role} {b : Bool} {d : ℕ} (r : ℕ) → Reads W r a.flags → parts_fit W ps xs r ≡ true → Passed W a a ms ms ps ps xs xs b b d r
  passed_nothing r h k = record { row = r; reads = h; counts = refl; fit = k; shows = λ next. leads_same }

  pub passed_then : {a b c : View} {ls ms ns : List Mark} {ps qs us : Parts} {xs ys zs : List Role} {x y z : Bool} {d r : ℕ} →
      (p : Passed W a b ls ms ps qs xs ys x y d r) → Passed W b c ms ns qs us ys zs y z d p.row → Passed W a c ls ns ps us xs zs x z d r
  passed_then p q = record { row = q.row; reads = q.reads; counts = q.counts ∙ p.counts; fit = q.fit; shows = λ next. leads_then (p.shows next) (q.shows next) }

  -- bits without parts
  pub passed_bits : {a b : View} (w : List ℕ) (us : List Bit) {ms : List Mark} {ps : Parts} {xs : List Role} {x : Bool} {d : ℕ} (r : ℕ) →
      Reads W r a.flags → parts_fit W ps xs r ≡ true → Writes a b (bits_text w d x us) → Passed W a b (marks_in w us ++ ms) ms ps ps xs xs x x d r
  passed_bits {a} {b} w us {ms} {ps} {xs} {x} {d} r h k p = record {
    row = r;
    reads = subst (Reads W r) (sym p.flags) h;
    counts = refl;
    fit = k;
    shows = λ next. leads_at (sym (append_assoc (bits_text w d x us) (marks_text W ms ps xs r d x) next) ∙ ap (λ t. t ++ next) (sym (bits_marks w us ms ps xs r d x))) (p.follows (marks_text W ms ps xs r d x ++ next));
  }

  abbrev pub raised : Chain → List Mark → List Mark
  raised lines ms = shallower ∷ ms
  raised _ ms = ms

  -- parts that stand deeper
  pub passed_deep : (t : Chain) {a b : View} (cm rest : List Mark) {ps qs : Parts} {xs ys : List Role} {x y : Bool} {d r : ℕ} →
      Passed W a b (cm ++ raised t rest) (raised t rest) ps qs xs ys x y (inner t d) r → Passed W a b (deep t cm rest) rest ps qs xs ys x y d r
  passed_deep lines cm rest p = record { row = p.row; reads = p.reads; counts = p.counts; fit = p.fit; shows = λ next. p.shows next }
  passed_deep nothing cm rest p = p
  passed_deep joined cm rest p = p
  passed_deep commas cm rest p = p
  passed_deep feeds cm rest p = p
  passed_deep (parameters us) cm rest p = p

  no_rows : (xs : List Role) → parts_rows none xs ≡ 0
  unfolding rows parts_rows
  no_rows xs = refl

  -- all marks
  pub passed_all : {a b : View} {ms : List Mark} {ps : Parts} {xs ys : List Role} {x y : Bool} {d r : ℕ} → Passed W a b ms [] ps none xs ys x y d r → Written W a b ms ps xs x d r
  passed_all {a} {b} {ms} {ps} {xs} {ys} {x} {y} {d} {r} p = record {
    reads = subst (λ n. Reads W n b.flags) (sym (add-zero p.row) ∙ ap (λ n. p.row + n) (sym (no_rows ys)) ∙ p.counts) p.reads;
    shows = λ next. p.shows next;
  }

  -- A part

  gap_rows : (ps : Parts) (xs : List Role) → parts_rows (gap ps) xs ≡ parts_rows ps xs
  unfolding rows parts_rows
  gap_rows ps xs = refl

  gap_fit : (ps : Parts) (xs : List Role) (r : ℕ) → parts_fit W (gap ps) xs r ≡ parts_fit W ps xs r
  unfolding fits parts_fit
  gap_fit ps xs r = refl

  none_fit : (xs : List Role) (r : ℕ) → parts_fit W none xs r ≡ true
  unfolding fits parts_fit
  none_fit xs r = refl

  part_rows : (n : Tree) (ps : Parts) (a : Role) (xs : List Role) → parts_rows (part n ps) (a ∷ xs) ≡ rows n a + parts_rows ps xs
  unfolding rows parts_rows
  part_rows n ps a xs = refl

  part_fit : (n : Tree) (ps : Parts) (a : Role) (xs : List Role) (r : ℕ) → parts_fit W (part n ps) (a ∷ xs) r ≡ (fits W n a r && parts_fit W ps xs (r + rows n a))
  unfolding fits parts_fit
  part_fit n ps a xs r = refl

  no_position : (n : Tree) (ps : Parts) (r : ℕ) → parts_fit W (part n ps) [] r ≡ false
  unfolding fits parts_fit
  no_position n ps r = refl

  both : (u v : Bool) → (u && v) ≡ true → (u ≡ true) × (v ≡ true)
  both true v h = (refl, h)
  both false v h = absurd (cc)

  pub passed_gap : {s : Site} {a : View} {ms : List Mark} {xs : List Role} {x : Bool} {d : ℕ} (r : ℕ) (ps : Parts) → Reads W r a.flags → parts_fit W (gap ps) xs r ≡ true → Passed W a a (here s ∷ ms) ms (gap ps) ps xs xs x false d r
  passed_gap {xs = xs} r ps h k = record { row = r; reads = h; counts = ap (λ n. r + n) (sym (gap_rows ps xs)); fit = sym (gap_fit ps xs r) ∙ k; shows = λ next. leads_same }

  pub passed_end : {s : Site} {a : View} {ms : List Mark} {xs : List Role} {x : Bool} {d : ℕ} (r : ℕ) → Reads W r a.flags → Passed W a a (here s ∷ ms) ms none none xs xs x false d r
  passed_end {xs = xs} r h = record { row = r; reads = h; counts = refl; fit = none_fit xs r; shows = λ next. leads_same }

  -- what stands at a place, where no part does
  missing : (ps : Parts) (i : ℕ) → None ≡ part_at ps i → (q : Parts → Parts → Type 0) → q none none → ((us : Parts) → q (gap us) us) → q (parts_after i ps) (parts_after (suc i) ps)
  missing none Prim.Native.Nat.zero h q e f = e
  missing none (suc i) h q e f = missing none i refl q e f
  missing (part n ps) Prim.Native.Nat.zero h q e f = absurd (cc)
  missing (part n ps) (suc i) h q e f = missing ps i h q e f
  missing (gap ps) Prim.Native.Nat.zero h q e f = f ps
  missing (gap ps) (suc i) h q e f = missing ps i h q e f

  pub passed_missing : {s : Site} {a : View} {ms : List Mark} {xs : List Role} {x : Bool} {d : ℕ} (ps : Parts) (i r : ℕ) → None ≡ part_at ps i → Reads W r a.flags → parts_fit W (parts_after i ps) xs r ≡ true →
      Passed W a a (here s ∷ ms) ms (parts_after i ps) (parts_after (suc i) ps) xs xs x false d r
  passed_missing {s} {a} {ms} {xs} {x} {d} ps i r h k = missing ps i h (λ us vs. parts_fit W us xs r ≡ true → Passed W a a (here s ∷ ms) ms us vs xs xs x false d r) (λ e. passed_end r k) (λ us e. passed_gap r us k e)

  pub passed_part : {s : Site} {a b : View} {ms : List Mark} {x : Bool} {d : ℕ} (r : ℕ) (n : Tree) (ps : Parts) (y : Role) (xs : List Role) (alone : Bool) → not (W r) ≡ alone → parts_fit W (part n ps) (y ∷ xs) r ≡ true →
      (fits W n y r ≡ true → Printed W a b n y r d) → Passed W a b (here s ∷ ms) ms (part n ps) ps (y ∷ xs) xs x alone d r
  passed_part {s} {a} {b} {ms} {x} {d} r n ps y xs alone e k p =
      let u = both (fits W n y r) (parts_fit W ps xs (r + rows n y)) (sym (part_fit n ps y xs r) ∙ k) in
      let q = p u.0 in
      subst (λ v. Passed W a b (here s ∷ ms) ms (part n ps) ps (y ∷ xs) xs x v d r) e (record {
        row = r + rows n y;
        reads = q.reads;
        counts = add_assoc r (rows n y) (parts_rows ps xs) ∙ ap (λ m. r + m) (sym (part_rows n ps y xs));
        fit = u.1;
        shows = λ next. leads_at (sym (append_assoc (layout W n y r d) (marks_text W ms ps xs (r + rows n y) d (not (W r))) next)) (q.shows (marks_text W ms ps xs (r + rows n y) d (not (W r)) ++ next));
      })

  pub passed_some : {s : Site} {a b : View} {ms : List Mark} {x : Bool} {d : ℕ} (ps : Parts) (i r : ℕ) (n : Tree) (y : Role) (xs : List Role) (alone : Bool) → Some n ≡ part_at ps i → Reads W r a.flags → not (flag_at a.flags 0) ≡ alone →
      parts_fit W (parts_after i ps) (y ∷ xs) r ≡ true → (fits W n y r ≡ true → Printed W a b n y r d) → Passed W a b (here s ∷ ms) ms (parts_after i ps) (parts_after (suc i) ps) (y ∷ xs) xs x alone d r
  passed_some {s} {a} {b} {ms} {x} {d} ps i r n y xs alone h g e k p =
      let step = some-suc ps i n h in
      subst (λ us. Passed W a b (here s ∷ ms) ms us (parts_after (suc i) ps) (y ∷ xs) xs x alone d r) (sym step)
      (passed_part r n (parts_after (suc i) ps) y xs alone (ap not (ap W (sym (add-zero r)) ∙ g 0) ∙ e) (ap (λ us. parts_fit W us (y ∷ xs) r) (sym step) ∙ k) p)

  pub no_position_left : (ps : Parts) (i r : ℕ) (n : Tree) → Some n ≡ part_at ps i → parts_fit W (parts_after i ps) [] r ≡ true → ⊥
  no_position_left ps i r n h k = let e : false ≡ true = sym (no_position n (parts_after (suc i) ps) r) ∙ ap (λ us. parts_fit W us [] r) (sym (some-suc ps i n h)) ∙ k in cc
