-- Where tokens stand: what is read goes forward, a punctuator is as long as its text, and where a place begins.
use Rattle.std.proofs.Common.{◌≡◌, ℕ, ◌+◌, ◌≤◌, List, length, refl, sym, ap, ◌∙◌, arith}
use Rattle.std.specs.Prelude.{IsTrue, encode_utf8_all}
use Rattle.tokens.specs.declared.token.TokenClass.TheVariants.{Punctuator}
use Rattle.tokens.specs.declared.token.Goal.TheVariants as goal
use Rattle.tokens.specs.Goals.{allows}
use Rattle.tokens.specs.Tokens.{LexicalToken}
use Rattle.tokens.specs.Reading.{any_goal, Reads as Scans}
use Rattle.token_cursor.specs.CursorState.{CursorState}
use Rattle.tree.specs.declared.kind.Pair.{Pair}
use Rattle.tree.specs.Tree.{Tree, Parts}
use Rattle.language.specs.Token.{Token, table_text}
use Rattle.language.specs.Pieces.{Role, PieceOf}
use Rattle.language.specs.Places.{NextIn, next_in}
use Rattle.language.specs.Languages.{seen_next}
use Rattle.token_cursor.proofs.SeenTokens.{allows_seen}
use Rattle.recursive_descent.proofs.reading.SeenClasses.{steady_class}
use Rattle.language.specs.Derivation.{Reads, Step, token, with_mark, without_mark, one_more, no_more, seen, same_line, left_bare, explicit, implicit, laid, direct, grouped, reserved_key, reserved_word, done, step, opened, closed, within, missing}
use Rattle.recursive_descent.specs.Soundness.{RunsIn, Begins}
use Rattle.token_cursor.specs.CursorState.{IsPlaceHere}
use Rattle.token_cursor.specs.Seen.{ReadsHere}
use Rattle.token_cursor.proofs.TokensAhead.{by_goal, mark_by, read_allows}
use Rattle.language.specs.Promises.{ReadBy}
use Rattle.token_cursor.specs.SourceText.{SourceText, SeenNext, behind_in}
use Rattle.recursive_descent.specs.Spelled.{SpellsIn}

module _ (text : SourceText) where
  pub next_forward : {s t e : Token} → SeenNext text s t e → (s.stop ≤ t.start) × (t.start ≤ t.stop) × (t ≡ behind_in text e)
  next_forward (seen_next x) = of x
    where
      of : {s u e : Token} → NextIn text.bytes any_goal s u e → (s.stop ≤ u.start) × (u.start ≤ u.stop) × (behind_in text u ≡ behind_in text e)
      of (next_in g any x) =
          let a = x.start in
          let b = x.stop in
          (omega arith, omega arith, refl)

  step_forward : {q : PieceOf Role} {s e : Token} → Step Token (SeenNext text) (behind_in text) q s e → s.stop ≤ e.stop
  step_forward {s} {e} (token {t = t} r) = let f = next_forward r.next in let same = ap (λ (x : Token). x.stop) f.2 in omega arith
  step_forward {s} {e} (with_mark {t = t} r) = let f = next_forward r.next in let same = ap (λ (x : Token). x.stop) f.2 in omega arith
  step_forward without_mark = omega arith
  step_forward {s} {e} (one_more {t = t} {m = m} r d) =
      let f = next_forward r.next in
      let same = ap (λ (x : Token). x.stop) f.2 in
      let rest = step_forward d in
      omega arith
  step_forward no_more = omega arith
  step_forward (seen r) = omega arith
  step_forward (same_line n h) = omega arith
  step_forward (left_bare n h) = omega arith
  step_forward {s} {e} (explicit {t = t} r) = let f = next_forward r.next in let same = ap (λ (x : Token). x.stop) f.2 in omega arith
  step_forward (implicit n h) = omega arith
  step_forward laid = omega arith

  mutual
    pub spells_forward : {o : ℕ} {a : Role} {n : Tree} {s e : Token} {P : List Pair} → SpellsIn text o a n s e P → s.stop ≤ e.stop
    spells_forward (direct qs h pl d) = runs_forward d
    spells_forward {s = s} {e = e} (grouped {left = left} {right = right} {m = m} {l = l} p d q) =
        let f = next_forward p.next in
        let same = ap (λ (x : Token). x.stop) f.2 in
        let g = next_forward q.next in
        let end = ap (λ (x : Token). x.stop) g.2 in
        let inner = spells_forward d in
        omega arith
    spells_forward {s = s} {e = e} (reserved_key {t = t} r k is) = let f = next_forward r.next in let same : t.stop ≡ e.stop = ap (λ (x : Token). x.stop) f.2 in omega arith
    spells_forward {s = s} {e = e} (reserved_word {t = t} r k is) = let f = next_forward r.next in let same : t.stop ≡ e.stop = ap (λ (x : Token). x.stop) f.2 in omega arith

    pub runs_forward : {o : ℕ} {qs : List (PieceOf Role)} {ps : Parts} {s e : Token} {P : List Pair} → RunsIn text o qs ps s e P → s.stop ≤ e.stop
    runs_forward done = omega arith
    runs_forward (step q d) = let a = step_forward q in let b = runs_forward d in omega arith
    runs_forward {s = s} {e = e} (opened {t = t} {m = m} p d) = let f = next_forward p.next in let same = ap (λ (x : Token). x.stop) f.2 in let b = runs_forward d in omega arith
    runs_forward {s = s} {e = e} (closed {t = t} {m = m} p d) = let f = next_forward p.next in let same = ap (λ (x : Token). x.stop) f.2 in let b = runs_forward d in omega arith
    runs_forward (within p d) = let a = spells_forward p in let b = runs_forward d in omega arith
    runs_forward (missing d) = runs_forward d

  -- a punctuator is as long as its text
  pub mark_long : {w : List ℕ} {s t e : Token} → Reads Token (SeenNext text) (behind_in text) Punctuator w s t e → t.stop ≡ t.start + length w
  mark_long {w} r = of r.next r.class r.text
    where
      by : {s t e : Token} → NextIn text.bytes any_goal s t e → t.class ≡ Punctuator → t.text ≡ w → t.stop ≡ t.start + length w
      by (next_in {t = u} g any x) class is =
          let long : length w ≡ length u.text = ap length (sym is ∙ ap (λ c. table_text c u.text) class) in
          let word : length u.text ≡ length (encode_utf8_all x.word) = ap length x.text in
          let stop = x.stop in
          omega arith

      of : {s t e : Token} → SeenNext text s t e → t.class ≡ Punctuator → t.text ≡ w → t.stop ≡ t.start + length w
      of (seen_next {t = u} x) class is = by x (steady_class text.language u.class Punctuator u.text refl class) is

  -- the place of what stands ahead is that of each token that the goal behind operands allows, and of a punctuator there
  pub place_by : {s t e : Token} {at : ℕ} → ((u : LexicalToken) → Scans text.bytes goal.Div s.stop u → at ≡ u.start) → ReadBy Token (SeenNext text) (behind_in text) goal.Div s t e → at ≡ t.start
  place_by {at = at} here r = of r.next r.allowed here
    where
      by : {s t e : Token} → NextIn text.bytes any_goal s t e → IsTrue (allows goal.Div t.class t.text) → ((u : LexicalToken) → Scans text.bytes goal.Div s.stop u → at ≡ u.start) → at ≡ t.start
      by (next_in {t = u} g any x) al here = here u (by_goal goal.Div x (sym (read_allows goal.Div u x.word x.text) ∙ al))

      of : {s t e : Token} → SeenNext text s t e → IsTrue (allows goal.Div t.class t.text) → ((u : LexicalToken) → Scans text.bytes goal.Div s.stop u → at ≡ u.start) → at ≡ t.start
      of (seen_next {t = u} x) al here = by x (sym (allows_seen goal.Div text.language u.class u.text) ∙ al) here

  pub begins_by : {at : ℕ} {s t e : Token} → ((u : LexicalToken) → Scans text.bytes goal.Div s.stop u → at ≡ u.start) → ReadBy Token (SeenNext text) (behind_in text) goal.Div s t e → Begins text at s
  begins_by {t = t} {e = e} f r = record { token = t; place = e; next = r.next; start = sym (place_by f r) }

  pub begins_mark : {w : List ℕ} {s m : Token} {at : ℕ} → at ≡ m.start → ReadsHere text Punctuator w s m → Begins text at s
  begins_mark {m = m} is r = record { token = behind_in text m; place = m; next = r.next; start = sym is }

pub place_mark : (p : CursorState) {w : List ℕ} {m : Token} {at : ℕ} → IsPlaceHere p at → ReadsHere p.text Punctuator w p.last m → at ≡ m.start
place_mark p here r = place_by p.text here.1 (mark_by p.text r)

pub place_token : (p : CursorState) {t m : Token} {at : ℕ} → IsPlaceHere p at → ReadBy Token (SeenNext p.text) (behind_in p.text) goal.Div p.last t m → at ≡ t.start
place_token p here r = place_by p.text here.1 r
