-- What is written, one text behind the other.
use Rattle.std.proofs.Common.{◌≡◌, ◌≤◌, ℕ, ◌+◌, ◌-◌, List, [], ◌∷◌, ◌++◌, refl, sym, ap, ◌∙◌, subst, append_assoc, append-nil, arith, replicate, take, take-suc, get_or, length, ◌<◌, add-one}
use Rattle.std.specs.Prelude.{codes, Bool, Option, Some, None}
use Rattle.std.proofs.lemmas.List.{replicate-append-replicate}
use Rattle.printer.specs.declared.fragments.Fragment.{Fragment}
use Rattle.printer.specs.Sheets.{View, Leads, Shows, Writes, held, piece_text, pieces_text}
use Rattle.printer.specs.declared.fragments.SignOperator.{SignOperator}
use Rattle.printer.specs.declared.fragments.SignOperator.TheVariants.{Plus, Minus}
use Rattle.printer.specs.Standings.{Stands, Adds}
use Rattle.language.specs.Layout.{indent}

pub leads_then : {a b c : View} {s t u : List ℕ} → Leads a b s t → Leads b c t u → Leads a c s u
leads_then p q = record { leads = λ before whole h. q.leads before whole (p.leads before whole h) }

pub leads_at : {a b : View} {s t u : List ℕ} → s ≡ t → Leads a b s u → Leads a b t u
leads_at {a} {b} {s} {t} {u} e p = subst (λ x. Leads a b x u) e p

pub leads_same : {a : View} {s : List ℕ} → Leads a a s s
leads_same = record { leads = λ before whole h. h }

pub writes_then : (a b c : View) (t u : List ℕ) → Writes a b t → Writes b c u → Writes a c (t ++ u)
writes_then a b c t u p q = record { follows = λ next. leads_at (sym (append_assoc t u next)) (leads_then (p.follows (u ++ next)) (q.follows next)); flags = q.flags ∙ p.flags }

pub writes_as : (a b : View) (t u : List ℕ) → t ≡ u → Writes a b t → Writes a b u
writes_as a b t u e p = subst (Writes a b) e p

-- eight levels deeper
pub indent-more : (i : ℕ) → 8 ≤ i → (10 ∷ indent (i - 8)) ++ codes "                " ≡ 10 ∷ indent i
indent-more i h = let e : ((i - 8) + (i - 8)) + 16 ≡ i + i = omega (arith, h) in ap (λ t. 10 ∷ t) (replicate-append-replicate ((i - 8) + (i - 8)) 16 32 ∙ ap (λ n. replicate n 32) e)

pub pieces_text-append : (w : List ℕ) (d : ℕ) (b : Bool) (ps qs : List Fragment) → pieces_text w d b (ps ++ qs) ≡ pieces_text w d b ps ++ pieces_text w d b qs
pieces_text-append w d b [] qs = refl
pieces_text-append w d b (p ∷ ps) qs = ap (λ t. piece_text w d b p ++ t) (pieces_text-append w d b ps qs) ∙ sym (append_assoc (piece_text w d b p) (pieces_text w d b ps) (pieces_text w d b qs))

pub pieces_text-one : (w : List ℕ) (d : ℕ) (b : Bool) (ps : List Fragment) (p : Fragment) → pieces_text w d b ps ++ piece_text w d b p ≡ pieces_text w d b (ps ++ p ∷ [])
pieces_text-one w d b ps p = ap (λ t. pieces_text w d b ps ++ t) (sym (append-nil (piece_text w d b p))) ∙ sym (pieces_text-append w d b ps (p ∷ []))

pub pieces_text-next : (w : List ℕ) (d : ℕ) (b : Bool) (ps : List Fragment) (i : ℕ) (z : Fragment) → i < length ps → pieces_text w d b (take i ps) ++ piece_text w d b (get_or ps i z) ≡ pieces_text w d b (take (i + 1) ps)
pieces_text-next w d b ps i z h = pieces_text-one w d b (take i ps) (get_or ps i z) ∙ ap (pieces_text w d b) (sym (take-suc ps i z h) ∙ ap (λ n. take n ps) (sym (add-one i)))

pub nothing_held : (o : Option SignOperator) → held o [] ≡ []
nothing_held None = refl
nothing_held (Some Plus) = refl
nothing_held (Some Minus) = refl

-- what was written was put in
pub writes_adds : {a b : View} {t : List ℕ} → Writes a b t → Adds a.out b.out
writes_adds {a} {b} {t} w = record {
  text = held a.apart (t ++ []);
  puts = λ before v h.
      let shown : Shows before a (v ++ held a.apart (t ++ [])) (t ++ []) = (v, h, refl) in
      let done = (w.follows []).leads before (v ++ held a.apart (t ++ [])) shown in
      subst (Stands before b.out) (sym (done.2 ∙ ap (λ u. done.0 ++ u) (nothing_held b.apart) ∙ append-nil done.0)) done.1;
}
