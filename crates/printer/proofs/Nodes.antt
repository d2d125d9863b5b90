-- A node with its parentheses, a sign with its operand, and the whole text.
use Rattle.std.proofs.Common.{◌≡◌, ℕ, suc, ◌+◌, Bool, true, false, nat_eq, cond, List, [], ◌∷◌, ◌++◌, refl, sym, ap, ap₂, ◌∙◌, subst, append_assoc, append-nil, arith, add-zero}
use Rattle.std.specs.Prelude.{◌&&◌, codes, Some, None, slice_index_or}
use Rattle.tree.specs.Tree.{Tree, node, Parts, none, part, gap, parts_of}
use Rattle.language.specs.declared.Rank.TheVariants.{Expression}
use Rattle.language.specs.declared.Start.TheVariants.{Any}
use Rattle.language.specs.Pieces.{Role, expr, script, is_none}
use Rattle.language.specs.Grammar.{ways}
use Rattle.language.specs.RowPositions.{has_row, rows, parts_rows}
use Rattle.language.specs.Layout.{inside, layout}
use Rattle.spelling_table.specs.declared.position.Position.{Position}
use Rattle.spelling_table.specs.declared.position.Position.TheVariants as at
use Rattle.spelling_table.specs.Outlines.{role_of, parts_after}
use Rattle.printer.specs.declared.fragments.SignOperator.{SignOperator}
use Rattle.printer.specs.Bits.{here}
use Rattle.printer.specs.Shapes.{sign_of_text}
use Rattle.printer.specs.Sheets.{View, Leads, Shows, Writes, held, sign_code, flag_at, other_flags}
use Rattle.language.specs.LayoutFits.{fits, parts_fit}
use Rattle.printer.specs.Fits.{wrapped_by}
use Rattle.printer.specs.Standings.{Stands, Puts}
use Rattle.printer.proofs.WrittenTexts.{leads_then, leads_at, nothing_held}
use Rattle.tree.specs.declared.node_use.NodeUse.{NodeUse}
use Rattle.printer.specs.declared.site.Site.TheVariants.{Plain}
use Rattle.printer.specs.Printed.{spelled_so, marks_text, signed_marks, Reads, Printed, Direct, Passed, Gone, Written}
use Rattle.printer.proofs.Whole.{spelled_parts, printed_direct, printed_wrapped}

-- what goes on to the next row
pub record NextRow (a b : View) (v : Bool) : Type 0 where
  pub flag : v ≡ flag_at a.flags 0
  pub others : b.flags ≡ other_flags a.flags
  pub out : b.out ≡ a.out
  pub apart : b.apart ≡ a.apart

module _ (W : ℕ → Bool) where
  pub fits_spelled : (n : Tree) (a : Role) (r : ℕ) → fits W n a r ≡ spelled_so W (parts_of n) (ways (inside (nat_eq (has_row a) 1 && W r) a) n) (has_row a + r)
  unfolding fits parts_fit
  fits_spelled (node k w g s e ps) a r = refl

  spelled_at : (n : Tree) (a : Role) (r : ℕ) (v : Bool) → (nat_eq (has_row a) 1 && W r) ≡ v → fits W n a r ≡ true → spelled_so W (parts_of n) (ways (inside v a) n) (has_row a + r) ≡ true
  spelled_at n a r v e h = subst (λ u. spelled_so W (parts_of n) (ways (inside u a) n) (has_row a + r) ≡ true) e (sym (fits_spelled n a r) ∙ h)

  -- what a call without parentheses promises
  abbrev Directly : View → View → Tree → Role → ℕ → Type 0
  Directly a b n y d = (r : ℕ) → Reads W r a.flags → spelled_so W (parts_of n) (ways y n) r ≡ true → Direct W a b (parts_of n) (ways y n) r d

  -- a node that isn't wrapped
  alone : {a b : View} (p : Position) (n : Tree) (r d : ℕ) → (nat_eq (has_row (role_of p)) 1 && W r) ≡ false → Reads W (has_row (role_of p) + r) a.flags → fits W n (role_of p) r ≡ true →
      Directly a b n (role_of p) d → Printed W a b n (role_of p) r d
  alone p n r d e h k f =
      let s = spelled_at n (role_of p) r false e k in
      printed_direct W p n r d e (spelled_parts W (parts_of n) (ways (role_of p) n) (has_row (role_of p) + r) s).0 (f (has_row (role_of p) + r) h s)

  rowless : (a : Role) → nat_eq (has_row a) 1 ≡ false → has_row a ≡ 0
  rowless (expr y i f) h = absurd (cc)
  rowless _ h = refl

  with_row : (a : Role) → nat_eq (has_row a) 1 ≡ true → has_row a ≡ 1
  with_row (expr y i f) h = refl
  with_row _ h = absurd (cc)

  -- a node without a row
  pub printed_rowless : {a b : View} (p : Position) (n : Tree) (r d : ℕ) → nat_eq (has_row (role_of p)) 1 ≡ false → Reads W r a.flags → fits W n (role_of p) r ≡ true →
      Directly a b n (role_of p) d → Printed W a b n (role_of p) r d
  printed_rowless {a} {b} p n r d e h k f =
      let z = rowless (role_of p) e in
      let m : r ≡ has_row (role_of p) + r = omega (arith, z) in
      alone p n r d (ap (λ u. u && W r) e) (subst (λ i. Reads W i a.flags) m h) k f

  -- Rows

  first_flag : (r : ℕ) (bs : List Bool) → Reads W r bs → flag_at bs 0 ≡ W r
  first_flag r bs h = sym (h 0) ∙ ap W (add-zero r)

  later : (bs : List Bool) (i : ℕ) → flag_at bs (suc i) ≡ flag_at (other_flags bs) i
  later [] i = refl
  later (b ∷ bs) i = refl

  next_reads : (r : ℕ) (bs : List Bool) → Reads W r bs → Reads W (suc r) (other_flags bs)
  next_reads r bs h i = let e : suc r + i ≡ r + suc i = omega arith in ap W e ∙ h (suc i) ∙ later bs i

  -- a view of the same shows the same
  same_shows : {a b : View} → b.out ≡ a.out → b.apart ≡ a.apart → (next : List ℕ) → Leads a b next next
  same_shows {a} {b} e f next = record { leads = λ before whole h. (h.0, subst (λ o. Stands before o h.0) (sym e) h.1, h.2 ∙ ap (λ p. h.0 ++ held p next) (sym f)) }

  printed_from : {a b c : View} (n : Tree) (y : Role) (r d : ℕ) → b.out ≡ a.out → b.apart ≡ a.apart → Printed W b c n y r d → Printed W a c n y r d
  printed_from n y r d e f p = record { reads = p.reads; shows = λ next. leads_then (same_shows e f (layout W n y r d ++ next)) (p.shows next) }

  reads_on : {a b : View} {v : Bool} (r : ℕ) → NextRow a b v → Reads W r a.flags → Reads W (1 + r) b.flags
  reads_on {a} {b} r x h = let e : suc r ≡ 1 + r = omega arith in subst (λ m. Reads W m b.flags) e (subst (Reads W (suc r)) (sym x.others) (next_reads r a.flags h))

  -- a node with a row that isn't wrapped
  pub printed_row : {a b c : View} (p : Position) (n : Tree) (r d : ℕ) → NextRow a b false → Reads W r a.flags → nat_eq (has_row (role_of p)) 1 ≡ true → fits W n (role_of p) r ≡ true →
      Directly b c n (role_of p) d → Printed W a c n (role_of p) r d
  printed_row {a} {b} {c} p n r d x h e k f =
      let w : W r ≡ false = sym (first_flag r a.flags h) ∙ sym x.flag in
      printed_from n (role_of p) r d x.out x.apart
      (alone p n r d (ap₂ (λ u v. u && v) e w) (subst (λ m. Reads W (m + r) b.flags) (sym (with_row (role_of p) e)) (reads_on r x h)) k f)

  wrapped_at : {a s t b : View} (p : Position) (n : Tree) (r d : ℕ) → nat_eq (has_row (role_of p)) 1 ≡ true → W r ≡ true → Reads W (1 + r) a.flags → fits W n (role_of p) r ≡ true →
      Writes a s (codes "(") → Directly s t n (expr Expression true Any) d → Writes t b (codes ")") → Printed W a b n (role_of p) r d
  wrapped_at {a} {s} {t} {b} (at.Expression y i f) n r d e w h k u v x =
      let z = spelled_at n (expr y i f) r true w k in
      let o : 1 + r ≡ suc r = omega arith in
      printed_wrapped W y i f n r d w (spelled_parts W (parts_of n) (ways (expr Expression true Any) n) (1 + r) z).0 u
      (subst (λ m. Direct W s t (parts_of n) (ways (expr Expression true Any) n) m d) o (v (1 + r) (subst (Reads W (1 + r)) (sym u.flags) h) z)) x
  wrapped_at _ n r d e w h k u v x = absurd (cc)

  -- a wrapped node
  pub printed_inside : {a b s t c : View} (p : Position) (n : Tree) (r d : ℕ) → NextRow a b true → Reads W r a.flags → nat_eq (has_row (role_of p)) 1 ≡ true → fits W n (role_of p) r ≡ true →
      Writes b s (codes "(") → Directly s t n (expr Expression true Any) d → Writes t c (codes ")") → Printed W a c n (role_of p) r d
  printed_inside {a} {b} p n r d x h e k u v y =
      let w : W r ≡ true = sym (first_flag r a.flags h) ∙ sym x.flag in
      printed_from n (role_of p) r d x.out x.apart (wrapped_at p n r d e w (reads_on r x h) k u v y)

  -- Signs

  abbrev apart_text : SignOperator → List ℕ → List ℕ
  apart_text s t = cond (nat_eq (slice_index_or t 0 0) (sign_code s)) (32 ∷ t) t

  -- behind the last part nothing has a row
  last_rows : (ps : Parts) (xs : List Role) → is_none ps ≡ true → parts_rows ps xs ≡ 0
  unfolding rows parts_rows
  last_rows none xs h = refl
  last_rows (part n ps) xs h = absurd (cc)
  last_rows (gap ps) xs h = absurd (cc)

  sign_has_text : (w : List ℕ) (s : SignOperator) → sign_of_text w ≡ Some s → ¬ (w ≡ [])
  sign_has_text w s h e = let k : sign_of_text [] ≡ Some s = ap sign_of_text (sym e) ∙ h in cc

  -- the sign's text, the sign that is pending, the operand, and nothing pending
  pub printed_signed : {a b c e g : View} (st : NodeUse) (top : Tree) (w : List ℕ) (s : SignOperator) (P : Parts) {xs : List Role} {x y : Bool} {d : ℕ} (r : ℕ) → sign_of_text w ≡ Some s → is_none (parts_after 1 P) ≡ true →
      Writes a b w → (¬ (w ≡ []) → b.apart ≡ None) →
      c.out ≡ b.out → c.apart ≡ Some s → c.flags ≡ b.flags →
      Reads W r a.flags → (Reads W r c.flags → Gone W st top c e (here Plain ∷ []) [] P (parts_after 1 P) xs x y d r) →
      g.out ≡ e.out → g.apart ≡ None → g.flags ≡ e.flags →
      Written W a g (signed_marks w s) P xs x d r
  printed_signed {a} {b} {c} {e} {g} st top w s P {xs} {x} {y} {d} r t one p q co ca cw h f go ga gw =
      let gone = f (subst (Reads W r) (sym (cw ∙ p.flags)) h) in
      let z = gone.passed in
      let counted : z.row ≡ r + parts_rows P xs = let n = last_rows (parts_after 1 P) gone.left one in let m = z.counts in omega (arith, n, m) in
      record {
        reads = subst (λ m. Reads W m g.flags) counted (subst (Reads W z.row) (sym gw) z.reads);
        shows = λ next. shown_then z next;
      }
    where
      T : List ℕ
      T = marks_text W (here Plain ∷ []) P xs r d x

      A : List ℕ
      A = apart_text s T

      -- the whole text behind the operand alone
      operand : {ys : List Role} (z : Passed W c e (here Plain ∷ []) [] P (parts_after 1 P) xs ys x y d r) (next : List ℕ) → Leads b g (A ++ next) next
      operand z next = record {
        leads = λ before whole h.
            let u = h.0 in
            let none : b.apart ≡ None = q (sign_has_text w s t) in
            let begun : Shows before c (u ++ A) (T ++ []) = (u, subst (λ o. Stands before o u) (sym co) h.1, ap (λ v. u ++ v) (ap (apart_text s) (sym (append-nil T)) ∙ ap (λ o. held o (T ++ [])) (sym ca))) in
            let done = (z.shows []).leads before (u ++ A) begun in
            let ended : u ++ A ≡ done.0 = done.2 ∙ ap (λ v. done.0 ++ v) (nothing_held e.apart) ∙ append-nil done.0 in (
              done.0,
              subst (λ o. Stands before o done.0) (sym go) done.1,
              h.2 ∙ ap (λ o. u ++ held o (A ++ next)) none ∙ sym (append_assoc u A next) ∙ ap (λ v. v ++ next) ended ∙ ap (λ o. done.0 ++ held o next) (sym ga),
            );
      }

      shown_then : {ys : List Role} (z : Passed W c e (here Plain ∷ []) [] P (parts_after 1 P) xs ys x y d r) (next : List ℕ) → Leads a g ((w ++ apart_text s T) ++ next) next
      shown_then z next = leads_at (sym (append_assoc w A next)) (leads_then (p.follows (A ++ next)) (operand z next))

-- The whole text

flags_read : (bs : List Bool) → Reads (wrapped_by bs) 1 bs
flags_read bs i = let e : 1 + i ≡ suc i = omega arith in ap (wrapped_by bs) e

-- from an emitter at its beginning, what was put in is the layout
pub whole_text : {a b : View} (bs : List Bool) (n : Tree) → a.apart ≡ None → a.flags ≡ bs →
    ((W : ℕ → Bool) (r : ℕ) → Reads W r a.flags → fits W n script r ≡ true → Printed W a b n script r 0) → fits (wrapped_by bs) n script 1 ≡ true → Puts a.out b.out (layout (wrapped_by bs) n script 1 0)
whole_text {a} {b} bs n f h p k = λ before sofar stands.
    let T = layout (wrapped_by bs) n script 1 0 in
    let z = p (wrapped_by bs) 1 (subst (Reads (wrapped_by bs) 1) (sym h) (flags_read bs)) k in
    let begun : Shows before a (sofar ++ T) (T ++ []) = (sofar, stands, ap (λ v. sofar ++ v) (sym (append-nil T)) ∙ ap (λ o. sofar ++ held o (T ++ [])) (sym f)) in
    let done = (z.shows []).leads before (sofar ++ T) begun in
    subst (Stands before b.out) (sym (done.2 ∙ ap (λ v. done.0 ++ v) (nothing_held b.apart) ∙ append-nil done.0)) done.1
