-- Turns of the printer's loops.
use Rattle.std.proofs.Common.{◌≡◌, ℕ, zero, suc, ◌+◌, ◌-◌, ◌<◌, ◌≤◌, Bool, true, false, not, nat_eq, nat_le, List, [], ◌∷◌, ◌++◌, length, drop, get_or, refl, sym, ap, ap₂, ◌∙◌, subst, append_assoc, append-nil, arith, add-one}
use Rattle.std.specs.Prelude.{Option, Some, None, option_map, is_some, is_none as is_missing}
use Rattle.std.proofs.lemmas.Bool.Decides.{nat_tests}
use Rattle.tree.specs.Tree.{Tree, Parts, none, part, gap, part_at, part_count, kind_of, parts_of}
use Rattle.language.specs.Pieces.{Role, is_none}
use Rattle.spelling_table.specs.Outlines.{role_of, parts_after, is_before_last}
use Rattle.spellings.proofs.PartsAfter.{some-suc, gap-suc, behind-past, last-behind, before-behind}
use Rattle.language.specs.FirstPart.{others}
use Rattle.printer.specs.Bits.{Mark, here, Bit, token, own_text, newline, feeding, loosely, chunk, Chain, nothing, joined, commas, lines, feeds, parameters, before_bits, after_bits}
use Rattle.printer.specs.Sheets.{View, Writes, flag_at}
use Rattle.printer.proofs.FusedTokens.{bits_text}
use Rattle.printer.specs.Shapes.{inner}
use Rattle.language.specs.LayoutFits.{fits, parts_fit}
use Rattle.printer.specs.declared.site.Site.{Site}
use Rattle.printer.specs.declared.part_sites.PartSites.{PartSites}
use Rattle.tree.specs.HeldRows.{use_below}
use Rattle.tree.specs.declared.node_use.NodeUse.{NodeUse}
use Rattle.row_laws.specs.Agreements.{agrees}
use Rattle.printer.specs.Sites.{site_of, site_in, site_at, UsesAgree}
use Rattle.printer.specs.Printed.{marks_in, front_marks, chain_marks, deep, shape_marks, Reads, Passed, Sited, Stands, Gone, Written, Printed}
use Rattle.spelling_table.specs.declared.position.Position.{Position}
use Rattle.spellings.proofs.Wherever.{position_of, role-position}
use Rattle.printer.proofs.NodeFragments.{passed_nothing, passed_bits, passed_then, passed_deep, passed_all, passed_some, passed_missing, raised, no_position_left}

others-after : (P : Parts) (i : ℕ) → others (parts_after i P) ≡ parts_after (suc i) P
others-after P zero = refl
others-after P (suc i) = others-after (others P) i

next_front : (fs : List (List Bit)) (i : ℕ) → i < length fs → drop i fs ≡ get_or fs i [] ∷ drop (i + 1) fs
next_front [] i h = absurd (omega (arith, h))
next_front (x ∷ fs) zero h = refl
next_front (x ∷ fs) (suc i) h = next_front fs i (omega (arith, h)) ∙ ap (λ u. get_or fs i [] ∷ u) (after i)
  where
    after : (j : ℕ) → drop (j + 1) fs ≡ drop (suc j + 1) (x ∷ fs)
    after j = ap (λ n. drop n fs) (add-one j) ∙ sym (ap (λ n. drop n (x ∷ fs)) (add-one (suc j)))

-- the next of the first parts
pub fronts-next : (w : List ℕ) (p : PartSites) (fs : List (List Bit)) (P : Parts) (i : ℕ) (ms : List Mark) → i < length fs →
    front_marks w p i (drop i fs) (parts_after i P) ms ≡ marks_in w (get_or fs i []) ++ here (site_at p i (parts_after i P)) ∷ front_marks w p (i + 1) (drop (i + 1) fs) (parts_after (i + 1) P) ms
fronts-next w p fs P i ms h =
    ap (λ u. front_marks w p i u (parts_after i P) ms) (next_front fs i h)
    ∙ ap (λ u. marks_in w (get_or fs i []) ++ here (site_at p i (parts_after i P)) ∷ front_marks w p (suc i) (drop (i + 1) fs) u ms) (others-after P i)
    ∙ ap (λ j. marks_in w (get_or fs i []) ++ here (site_at p i (parts_after i P)) ∷ front_marks w p j (drop (i + 1) fs) (parts_after j P) ms) (sym (add-one i))

pub fronts-past : (w : List ℕ) (p : PartSites) (j : ℕ) (fs : List (List Bit)) (i : ℕ) (ps : Parts) (ms : List Mark) → length fs ≤ i → front_marks w p j (drop i fs) ps ms ≡ ms
fronts-past w p j [] zero ps ms h = refl
fronts-past w p j [] (suc i) ps ms h = refl
fronts-past w p j (x ∷ fs) zero ps ms h = absurd (omega (arith, h))
fronts-past w p j (x ∷ fs) (suc i) ps ms h = fronts-past w p j fs i ps ms (omega (arith, h))

-- the next part of a list, with what stands round it
module _ (w : List ℕ) (p : PartSites) (t : Chain) where
  item_marks : (bs as' : List Mark) (x : Mark) (rest ms : List Mark) → (bs ++ x ∷ (as' ++ rest)) ++ ms ≡ bs ++ x ∷ (as' ++ (rest ++ ms))
  item_marks bs as' x rest ms = append_assoc bs (x ∷ (as' ++ rest)) ms ∙ ap (λ u. bs ++ x ∷ u) (append_assoc as' rest ms)

  pub chain-next : (ps : Parts) (i : ℕ) (o : Option Tree) (ms : List Mark) → o ≡ part_at ps i → i < part_count ps →
      chain_marks w p t i (parts_after i ps) ++ ms
      ≡ marks_in w (before_bits t (nat_eq ((part_count ps - i) - 1) 0)) ++ here (site_at p i (parts_after i ps)) ∷ (marks_in w (after_bits t (is_missing o) (nat_eq ((part_count ps - i) - 1) 0) (nat_eq ((part_count ps - i) - 1) 1)) ++ (chain_marks w p t (suc i) (parts_after (suc i) ps) ++ ms))
  chain-next ps i o ms h l = go o h ∙ item_marks _ _ (here (site_at p i (parts_after i ps))) (chain_marks w p t (suc i) (parts_after (suc i) ps)) ms
    where
      placed : (g : Bool) (x : Site) → x ≡ site_at p i (parts_after i ps) →
          marks_in w (before_bits t (is_none (parts_after (suc i) ps))) ++ here x ∷ (marks_in w (after_bits t g (is_none (parts_after (suc i) ps)) (is_before_last (parts_after (suc i) ps))) ++ chain_marks w p t (suc i) (parts_after (suc i) ps))
          ≡ marks_in w (before_bits t (nat_eq ((part_count ps - i) - 1) 0)) ++ here (site_at p i (parts_after i ps)) ∷ (marks_in w (after_bits t g (nat_eq ((part_count ps - i) - 1) 0) (nat_eq ((part_count ps - i) - 1) 1)) ++ chain_marks w p t (suc i) (parts_after (suc i) ps))
      placed g x e =
          ap (λ y. marks_in w (before_bits t (is_none (parts_after (suc i) ps))) ++ here y ∷ (marks_in w (after_bits t g (is_none (parts_after (suc i) ps)) (is_before_last (parts_after (suc i) ps))) ++ chain_marks w p t (suc i) (parts_after (suc i) ps))) e
          ∙ ap₂ (λ a b. marks_in w (before_bits t a) ++ here (site_at p i (parts_after i ps)) ∷ (marks_in w (after_bits t g a b) ++ chain_marks w p t (suc i) (parts_after (suc i) ps))) (sym (last-behind ps i l)) (sym (before-behind ps i l))

      go : (o : Option Tree) → o ≡ part_at ps i → chain_marks w p t i (parts_after i ps) ++ ms
          ≡ (marks_in w (before_bits t (nat_eq ((part_count ps - i) - 1) 0)) ++ here (site_at p i (parts_after i ps)) ∷ (marks_in w (after_bits t (is_missing o) (nat_eq ((part_count ps - i) - 1) 0) (nat_eq ((part_count ps - i) - 1) 1)) ++ chain_marks w p t (suc i) (parts_after (suc i) ps))) ++ ms
      go None e = ap (λ u. u ++ ms) (ap (chain_marks w p t i) (gap-suc ps i e l) ∙ placed true (site_at p i (gap (parts_after (suc i) ps))) (sym (ap (site_at p i) (gap-suc ps i e l))))
      go (Some n) e = ap (λ u. u ++ ms) (ap (chain_marks w p t i) (some-suc ps i n e) ∙ placed false (site_at p i (part n (parts_after (suc i) ps))) (sym (ap (site_at p i) (some-suc ps i n e))))

-- a gap, by the answer of `part`
pub missing_part : {X : Type 0} (f : X → Tree) (o : Option X) (b : Bool) → is_some o ≡ not b → b ≡ is_missing (option_map f o)
missing_part f None true h = refl
missing_part f None false h = absurd (cc)
missing_part f (Some x) true h = absurd (cc)
missing_part f (Some x) false h = refl

-- What is asked of the parts that are left

sited_bits : (w : List ℕ) (us : List Bit) (ms : List Mark) (ps : Parts) (xs : List Role) → Sited (marks_in w us ++ ms) ps xs → Sited ms ps xs
sited_bits w [] ms ps xs s = s
sited_bits w (token v ∷ us) ms ps xs s = sited_bits w us ms ps xs s
sited_bits w (_ ∷ us) ms ps xs s = sited_bits w us ms ps xs s

sited_deep : (W : ℕ → Bool) (t : Chain) (cm rest : List Mark) (ps : Parts) (xs : List Role) → Sited (deep t cm rest) ps xs → Sited (cm ++ raised W t rest) ps xs
sited_deep W lines cm rest ps xs s = s
sited_deep W nothing cm rest ps xs s = s
sited_deep W joined cm rest ps xs s = s
sited_deep W commas cm rest ps xs s = s
sited_deep W feeds cm rest ps xs s = s
sited_deep W (parameters us) cm rest ps xs s = s

sited_raised : (W : ℕ → Bool) (t : Chain) (rest : List Mark) (ps : Parts) (xs : List Role) → Sited (raised W t rest) ps xs → Sited rest ps xs
sited_raised W lines rest ps xs s = s
sited_raised W nothing rest ps xs s = s
sited_raised W joined rest ps xs s = s
sited_raised W commas rest ps xs s = s
sited_raised W feeds rest ps xs s = s
sited_raised W (parameters us) rest ps xs s = s

-- Steps

module _ (W : ℕ → Bool) (st : NodeUse) (top : Tree) where
  pub gone_nothing : {a : View} {ms : List Mark} {ps : Parts} (xs : List Role) {b : Bool} {d : ℕ} (r : ℕ) → Reads W r a.flags → parts_fit W ps xs r ≡ true → Stands st top ms ps xs → Gone W st top a a ms ms ps ps xs b b d r
  gone_nothing xs r h k s = record { left = xs; passed = passed_nothing W r h k; stands = s }

  pub gone_then : {a b e : View} {ls ms ns : List Mark} {ps qs vs : Parts} {xs : List Role} {x y z : Bool} {d r : ℕ} →
      Gone W st top a b ls ms ps qs xs x y d r → ((ys : List Role) (q : ℕ) → Reads W q b.flags → parts_fit W qs ys q ≡ true → Stands st top ms qs ys → Gone W st top b e ms ns qs vs ys y z d q) → Gone W st top a e ls ns ps vs xs x z d r
  gone_then g k = let h = k g.left g.passed.row g.passed.reads g.passed.fit g.stands in record { left = h.left; passed = passed_then W g.passed h.passed; stands = h.stands }

  -- pieces behind a part
  pub trail : {a b s : View} {w : List ℕ} (us : List Bit) {ls M ns : List Mark} {ps qs : Parts} {xs : List Role} {x y : Bool} {d r : ℕ} (v : List ℕ) → v ≡ w → M ≡ marks_in w us ++ ns →
      Gone W st top a b ls M ps qs xs x y d r → Writes b s (bits_text v d y us) → Gone W st top a s ls ns ps qs xs x y d r
  trail {a} {b} {s} {w} us {ls} {M} {ns} {ps} {qs} {xs} {x} {y} {d} {r} v f h g u =
      let p' = subst (λ t. Passed W a b ls t ps qs xs g.left x y d r) h g.passed in
      record {
        left = g.left;
        passed = passed_then W p' (passed_bits W w us g.passed.row g.passed.reads g.passed.fit (subst (λ t. Writes b s (bits_text t d y us)) f u));
        stands = (sited_bits w us ns qs g.left (subst (λ t. Sited t qs g.left) h g.stands.0), g.stands.1);
      }

  -- pieces, and then a part
  pub turn : {a b s e : View} {w : List ℕ} (us : List Bit) {ls M ns : List Mark} {ps qs vs : Parts} {xs : List Role} {x y z : Bool} {d r : ℕ} {p : Site} (v : List ℕ) → v ≡ w → M ≡ marks_in w us ++ here p ∷ ns →
      Gone W st top a b ls M ps qs xs x y d r → Writes b s (bits_text v d y us) →
      ((ys : List Role) (q : ℕ) → Reads W q s.flags → parts_fit W qs ys q ≡ true → Stands st top (here p ∷ ns) qs ys → Gone W st top s e (here p ∷ ns) ns qs vs ys y z d q) → Gone W st top a e ls ns ps vs xs x z d r
  turn {w = w} us {ns = ns} {p = p} v f h g u k = gone_then (trail {w = w} us {ns = here p ∷ ns} v f h g u) k

  -- what the first parts, and the others, are passed by
  abbrev FrontPassed : View → View → List ℕ → PartSites → List (List Bit) → Parts → ℕ → Bool → Bool → ℕ → Type 0
  FrontPassed a b w p fs P i x y d = (ms : List Mark) (ys : List Role) (q : ℕ) → Reads W q a.flags → parts_fit W P ys q ≡ true → Stands st top (front_marks w p 0 fs P ms) P ys → Gone W st top a b (front_marks w p 0 fs P ms) ms P (parts_after i P) ys x y d q

  abbrev ListPassed : View → View → List ℕ → PartSites → Chain → Parts → ℕ → Bool → Bool → ℕ → Type 0
  ListPassed a b w p t P i y z d = (ms : List Mark) (ys : List Role) (q : ℕ) → Reads W q a.flags → parts_fit W (parts_after i P) ys q ≡ true → Stands st top (chain_marks w p t i (parts_after i P) ++ ms) (parts_after i P) ys →
      Gone W st top a b (chain_marks w p t i (parts_after i P) ++ ms) ms (parts_after i P) none ys y z d q

  -- the first parts, what stands behind them, the other parts, and what stands behind these
  framed_by : {a b s e g : View} (w v : List ℕ) → v ≡ w → (p : PartSites) (fs : List (List Bit)) (os cs : List Bit) (t : Chain) (P : Parts) (xs : List Role) {x y z : Bool} {d r : ℕ} →
      Reads W r a.flags → parts_fit W P xs r ≡ true → Stands st top (shape_marks w (record { front = fs; opener = os; chain = t; closer = cs; sites = p }) P) P xs →
      FrontPassed a b w p fs P (length fs) x y d → Writes b s (bits_text v d y os) → ListPassed s e w p t P (length fs) y z (inner t d) → Writes e g (bits_text v d z cs) →
      Written W a g (shape_marks w (record { front = fs; opener = os; chain = t; closer = cs; sites = p }) P) P xs x d r
  framed_by {a} {b} {s} {e} {g} w v f p fs os cs t P xs {x} {y} {z} {d} {r} h k so front u list o =
      let closing = marks_in w cs in
      let cm = chain_marks w p t (length fs) (parts_after (length fs) P) in
      let l = front (marks_in w os ++ deep t cm closing) xs r h k so in
      let q = trail {w = w} os {ns = deep t cm closing} v f refl l u in
      let m = list (raised W t closing) q.left q.passed.row q.passed.reads q.passed.fit (sited_deep W t cm closing (parts_after (length fs) P) q.left q.stands.0, q.stands.1) in
      let whole : Gone W st top a e (front_marks w p 0 fs P (marks_in w os ++ deep t cm closing)) closing P none xs x z d r = record { left = m.left; passed = passed_then W q.passed (passed_deep W t cm closing m.passed); stands = (sited_raised W t closing none m.left m.stands.0, m.stands.1) } in
      passed_all W (trail {w = w} cs {ns = []} v f (sym (append-nil closing)) whole o).passed

  pub framed : {a b s e g : View} (w v : List ℕ) → v ≡ w → (p : PartSites) (fs : List (List Bit)) (os cs : List Bit) (t : Chain) (P : Parts) (xs : List Role) {x y z : Bool} {d r : ℕ} (i j : ℕ) → i ≡ length fs → j ≡ inner t d →
      Reads W r a.flags → parts_fit W P xs r ≡ true → Stands st top (shape_marks w (record { front = fs; opener = os; chain = t; closer = cs; sites = p }) P) P xs →
      FrontPassed a b w p fs P i x y d → Writes b s (bits_text v d y os) → ListPassed s e w p t P i y z j → Writes e g (bits_text v d z cs) →
      Written W a g (shape_marks w (record { front = fs; opener = os; chain = t; closer = cs; sites = p }) P) P xs x d r
  framed {a} {b} {s} {e} {g} w v f p fs os cs t P xs {x} {y} {z} {d} {r} i j ei ej h k so front u list o =
      framed_by w v f p fs os cs t P xs h k so
      (subst (λ n. FrontPassed a b w p fs P n x y d) ei front) u
      (subst (λ m. ListPassed s e w p t P (length fs) y z m) ej (subst (λ n. ListPassed s e w p t P n y z j) ei list)) o

  -- A part

  last_by_count : (c i : ℕ) → i < c → nat_eq ((c - i) - 1) 0 ≡ nat_le (c - 1) i
  last_by_count c i h = grind (arith, nat_tests)

  within : (ps : Parts) (i : ℕ) (n : Tree) → Some n ≡ part_at ps i → i < part_count ps
  within none i n h = absurd (cc)
  within (part m ps) zero n h = omega arith
  within (part m ps) (suc i) n h = omega (arith, within ps i n h)
  within (gap ps) zero n h = absurd (cc)
  within (gap ps) (suc i) n h = omega (arith, within ps i n h)

  -- no part behind it, by the number of parts
  last_there : (ps : Parts) (i : ℕ) (n : Tree) → Some n ≡ part_at ps i → nat_le (part_count ps - 1) i ≡ is_none (parts_after (suc i) ps)
  last_there ps i n h = let l = within ps i n h in sym (last_by_count (part_count ps) i l) ∙ last-behind ps i l

  -- as many parts are behind it as its place leaves
  counted : (ps : Parts) (i : ℕ) (n : Tree) → Some n ≡ part_at ps i → part_count ps ≡ i + suc (part_count (parts_after (suc i) ps))
  counted none i n h = absurd (cc)
  counted (part m ps) zero n h = omega arith
  counted (part m ps) (suc i) n h = let l = counted ps i n h in omega (arith, l)
  counted (gap ps) zero n h = absurd (cc)
  counted (gap ps) (suc i) n h = let l = counted ps i n h in omega (arith, l)

  -- the site of the part at a place
  pub site_there : (p : PartSites) (ps : Parts) (i : ℕ) (n : Tree) → Some n ≡ part_at ps i → site_in p i (kind_of n) (nat_le (part_count ps - 1) i) ≡ site_at p i (parts_after i ps)
  site_there p ps i n h = ap (site_in p i (kind_of n)) (last_there ps i n h) ∙ sym (ap (site_at p i) (some-suc ps i n h))

  pub part_turn : {a b : View} {ms : List Mark} {x : Bool} {d : ℕ} (ps : Parts) (i r : ℕ) (n : Tree) (xs : List Role) (s k : Site) (alone : Bool) → parts_of top ≡ ps → Some n ≡ part_at ps i → Reads W r a.flags → not (flag_at a.flags 0) ≡ alone →
      parts_fit W (parts_after i ps) xs r ≡ true → Stands st top (here k ∷ ms) (parts_after i ps) xs → s ≡ k →
      ((p : Position) → agrees (use_below st top i n) (role_of p) (kind_of n) ≡ true → site_of (role_of p) ≡ s → fits W n (role_of p) r ≡ true → Printed W a b n (role_of p) r d) → Gone W st top a b (here k ∷ ms) ms (parts_after i ps) (parts_after (suc i) ps) xs x alone d r
  part_turn ps i r n [] s k alone own h g e f so es p = absurd (no_position_left W ps i r n h f)
  part_turn {a} {b} {ms} {x} {d} ps i r n (y ∷ ys) s k alone own h g e f so es p =
      let step = some-suc ps i n h in
      let there : (site_of y ≡ k) × Sited ms (parts_after (suc i) ps) ys = subst (λ us. Sited (here k ∷ ms) us (y ∷ ys)) step so.0 in
      let used : (agrees (use_below st top (part_count (parts_of top) - suc (part_count (parts_after (suc i) ps))) n) y (kind_of n) ≡ true) × UsesAgree st top (parts_after (suc i) ps) ys = subst (λ us. UsesAgree st top us (y ∷ ys)) step so.1 in
      let place : part_count (parts_of top) - suc (part_count (parts_after (suc i) ps)) ≡ i = omega (arith, counted ps i n h, ap part_count own) in
      let agreed : agrees (use_below st top i n) y (kind_of n) ≡ true = subst (λ j. agrees (use_below st top j n) y (kind_of n) ≡ true) place used.0 in
      let printed : fits W n y r ≡ true → Printed W a b n y r d = λ z. subst (λ q. Printed W a b n q r d) (role-position y)
      (p (position_of y) (subst (λ q. agrees (use_below st top i n) q (kind_of n) ≡ true) (sym (role-position y)) agreed) (ap site_of (role-position y) ∙ there.0 ∙ sym es) (subst (λ q. fits W n q r ≡ true) (sym (role-position y)) z)) in
      record { left = ys; passed = passed_some W ps i r n y ys alone h g e f printed; stands = (there.1, used.1) }

  -- where no part stands
  missing_sited : (ps : Parts) (i : ℕ) (k : Site) (ms : List Mark) (xs : List Role) → None ≡ part_at ps i → Sited (here k ∷ ms) (parts_after i ps) xs → Sited ms (parts_after (suc i) ps) xs
  missing_sited none zero k ms xs h s = s
  missing_sited none (suc i) k ms xs h s = missing_sited none i k ms xs refl s
  missing_sited (part n ps) zero k ms xs h s = absurd (cc)
  missing_sited (part n ps) (suc i) k ms xs h s = missing_sited ps i k ms xs h s
  missing_sited (gap ps) zero k ms xs h s = s
  missing_sited (gap ps) (suc i) k ms xs h s = missing_sited ps i k ms xs h s

  missing_uses : (ps : Parts) (i : ℕ) (xs : List Role) → None ≡ part_at ps i → UsesAgree st top (parts_after i ps) xs → UsesAgree st top (parts_after (suc i) ps) xs
  missing_uses none zero xs h s = tt
  missing_uses none (suc i) xs h s = missing_uses none i xs refl s
  missing_uses (part n ps) zero xs h s = absurd (cc)
  missing_uses (part n ps) (suc i) xs h s = missing_uses ps i xs h s
  missing_uses (gap ps) zero xs h s = s
  missing_uses (gap ps) (suc i) xs h s = missing_uses ps i xs h s

  pub part_missing : {a : View} {ms : List Mark} {x : Bool} {d : ℕ} (ps : Parts) (i r : ℕ) (xs : List Role) (k : Site) → None ≡ part_at ps i → Reads W r a.flags → parts_fit W (parts_after i ps) xs r ≡ true → Stands st top (here k ∷ ms) (parts_after i ps) xs →
      Gone W st top a a (here k ∷ ms) ms (parts_after i ps) (parts_after (suc i) ps) xs x false d r
  part_missing {ms = ms} ps i r xs k h g f s = record { left = xs; passed = passed_missing W ps i r h g f; stands = (missing_sited ps i k ms xs h s.0, missing_uses ps i xs h s.1) }

  -- The turns of the loops

  pub stepped : {a b : View} {ls ns : List Mark} {ps : Parts} {xs : List Role} {x y : Bool} {d r : ℕ} (P : Parts) (i : ℕ) → Gone W st top a b ls ns ps (parts_after (suc i) P) xs x y d r → Gone W st top a b ls ns ps (parts_after (i + 1) P) xs x y d r
  stepped {a} {b} {ls} {ns} {ps} {xs} {x} {y} {d} {r} P i g = subst (λ j. Gone W st top a b ls ns ps (parts_after j P) xs x y d r) (sym (add-one i)) g

  pub stepped_chain : {a b : View} {ls : List Mark} {ps : Parts} {xs : List Role} {x y : Bool} {d r : ℕ} (w : List ℕ) (p : PartSites) (t : Chain) (P : Parts) (i : ℕ) (ms : List Mark) →
      Gone W st top a b ls (chain_marks w p t (suc i) (parts_after (suc i) P) ++ ms) ps (parts_after (suc i) P) xs x y d r → Gone W st top a b ls (chain_marks w p t (i + 1) (parts_after (i + 1) P) ++ ms) ps (parts_after (i + 1) P) xs x y d r
  stepped_chain {a} {b} {ls} {ps} {xs} {x} {y} {d} {r} w p t P i ms g = subst (λ j. Gone W st top a b ls (chain_marks w p t j (parts_after j P) ++ ms) ps (parts_after j P) xs x y d r) (sym (add-one i)) g

  pub fronts_done : {a b : View} {ls : List Mark} {ps : Parts} {xs : List Role} {x y : Bool} {d r : ℕ} (w : List ℕ) (p : PartSites) (fs : List (List Bit)) (P : Parts) (i j : ℕ) (ms : List Mark) → i ≡ length fs → i ≡ j →
      Gone W st top a b ls (front_marks w p i (drop i fs) (parts_after i P) ms) ps (parts_after i P) xs x y d r → Gone W st top a b ls ms ps (parts_after j P) xs x y d r
  fronts_done {a} {b} {ls} {ps} {xs} {x} {y} {d} {r} w p fs P i j ms e f g =
      subst (λ k. Gone W st top a b ls ms ps (parts_after k P) xs x y d r) f (subst (λ M. Gone W st top a b ls M ps (parts_after i P) xs x y d r) (fronts-past w p i fs i (parts_after i P) ms (omega (arith, e))) g)

  pub chain_done : {a b : View} {ls : List Mark} {ps : Parts} {xs : List Role} {x y : Bool} {d r : ℕ} (w : List ℕ) (p : PartSites) (t : Chain) (P : Parts) (i : ℕ) (ms : List Mark) → part_count P ≤ i →
      Gone W st top a b ls (chain_marks w p t i (parts_after i P) ++ ms) ps (parts_after i P) xs x y d r → Gone W st top a b ls ms ps none xs x y d r
  chain_done {a} {b} {ls} {ps} {xs} {x} {y} {d} {r} w p t P i ms e g = subst (λ q. Gone W st top a b ls (chain_marks w p t i q ++ ms) ps q xs x y d r) (behind-past P i e) g
