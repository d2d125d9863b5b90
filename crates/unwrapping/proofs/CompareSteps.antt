-- The turns of the loop over the tokens of two texts.
use Rattle.std.proofs.Common.{◌≡◌, ℕ, zero, suc, ◌+◌, ◌-◌, Bool, true, false, cond, ◌&&◌, ◌||◌, List, [], ◌∷◌, ◌++◌, length, IsTrue, Some, None, Ok, Err, refl, sym, ap, ◌∙◌, subst, arith}
use Rattle.std.proofs.lemmas.Bool.{and_parts, and_from}
use Rattle.std.proofs.lemmas.Slice.Eq.{bytes_eq-Decides}
use Prim.Native.String.{String}
use Rattle.std.specs.Prelude.{Result, slice_range, codes}
use Rattle.std.specs.Str.{bytes_eq}
use Rattle.std.specs.List.{slice_get}
use Rattle.std.specs.Result.{IfOk}
use Rattle.tokens.specs.Lexical.{is_one_of_words}
use Rattle.tokens.specs.Tokens.{LexicalToken}
use Rattle.tree.specs.Tree.{Tree}
use Rattle.tree.specs.declared.kind.Pair.{Pair}
use Rattle.reading_laws.specs.TreeReadings.{IsReadingBehind}
use Rattle.unwrapping.specs.declared.comment.CommentRow.{CommentRow}
use Rattle.unwrapping.specs.declared.keeping.Rest.{Rest}
use Rattle.unwrapping.specs.declared.keeping.Comparison.{Comparison}
use Rattle.unwrapping.specs.declared.reading.TokenRow.{TokenRow}
use Rattle.unwrapping.specs.declared.reading.TreeReading.{TreeReading}
use Rattle.unwrapping.specs.Keeps.{Comment, SpacedToken, spaced_tokens, AreKept, all, kept, moved_before, moved_after, gone, put, called, ended, IsSameToken, is_end_of, is_grouping, leads_to_group, is_from, comes_from, may_be_ended, is_semicolon, is_update, is_closing_brace, is_opening, is_closing, binds_next, binds_last, ends_line, last_ends_line, Keeps}
use Rattle.unwrapping.specs.Readings.{bytes_in, comment_in, comments_in, IsRow, AreRows, none, one, IsRead}
use Rattle.unwrapping.specs.Comparing.{next_is, next_is_grouping, leads_rows, from_rows, may_be_ended_before, begins_call, AreSameRows, PassesRow, Settles, BeginsWith, IsSameRest, IsLeft, IsKept, IsReduced, Leads, BeginsAlike, KeepsRows}
use Rattle.unwrapping.specs.Comparing as settles
use Rattle.unwrapping.proofs.OneReading.{same_readings}

module _ {pairs pairs_again : List Pair} where
  -- what is kept, said of equal things
  kept_by : {u v a b : Bool} {p q x y : List Comment} {ss ts : List SpacedToken} → u ≡ v → a ≡ b → p ≡ q → x ≡ y → AreKept pairs pairs_again u a p x ss ts → AreKept pairs pairs_again v b q y ss ts
  kept_by {u} {v} {a} {b} {p} {q} {x} {y} {ss} {ts} e f g h k =
      subst (λ z. AreKept pairs pairs_again v b q z ss ts) h (subst (λ z. AreKept pairs pairs_again v b z x ss ts) g (subst (λ z. AreKept pairs pairs_again v z p x ss ts) f (subst (λ z. AreKept pairs pairs_again z a p x ss ts) e k)))

  weaker : {updated alike : Bool} {p q : List Comment} {ss ts : List SpacedToken} → AreKept pairs pairs_again false alike p q ss ts → AreKept pairs pairs_again updated alike p q ss ts
  weaker all = all
  weaker (kept s g e k) = kept s g e k
  weaker (moved_before s h e k) = moved_before s h e k
  weaker (moved_after s h e k) = moved_after s h e k
  weaker (gone h k) = gone h (weaker k)
  weaker (put h k) = put h (weaker k)
  weaker (called h k) = called h k

  -- that a `;` may come behind the last token is noted only if it may
  noted : (b may : Bool) {alike : Bool} {p q : List Comment} {ss ts : List SpacedToken} → (b ≡ true → may ≡ true) → AreKept pairs pairs_again b alike p q ss ts → AreKept pairs pairs_again may alike p q ss ts
  noted true may {alike} {p} {q} {ss} {ts} h k = subst (λ x. AreKept pairs pairs_again x alike p q ss ts) (sym (h refl)) k
  noted false may h k = weaker k

rows_by : {text : List ℕ} {pairs : List Pair} {at bt stop : ℕ} {xs ys : List TokenRow} {ss : List SpacedToken} → at ≡ bt → xs ≡ ys → AreRows text pairs at xs ss stop → AreRows text pairs bt ys ss stop
rows_by {text} {pairs} {at} {bt} {stop} {xs} {ys} {ss} e f h = subst (λ zs. AreRows text pairs bt zs ss stop) f (subst (λ z. AreRows text pairs z xs ss stop) e h)

-- the row that was passed, with its token
record IsFirst (text : List ℕ) (pairs : List Pair) (at : ℕ) (row : TokenRow) (rest : List TokenRow) (ss : List SpacedToken) (stop : ℕ) : Type 0 where
  s : SpacedToken
  others : List SpacedToken
  is : ss ≡ s ∷ others
  row_is : IsRow text pairs at row s
  rows : AreRows text pairs row.span.end rest others stop

first_of : {text : List ℕ} {pairs : List Pair} {at : ℕ} {row : TokenRow} {rest : List TokenRow} {ss : List SpacedToken} {stop : ℕ} → AreRows text pairs at (row ∷ rest) ss stop → IsFirst text pairs at row rest ss stop
first_of (one {s = s} {ss = others} h hs) = record { s = s; others = others; is = refl; row_is = h; rows = hs }

-- a grouping parenthesis comes next, perhaps behind words that no line may end after
leads_by_rows : {text : List ℕ} {pairs : List Pair} {at : ℕ} {rows : List TokenRow} {ss : List SpacedToken} {stop : ℕ} → AreRows text pairs at rows ss stop → leads_rows text rows ≡ true → leads_to_group pairs ss ≡ true
leads_by_rows none h = h
leads_by_rows {text} {pairs} (one {row = row} {rows = rows} {s = s} {ss = ss} is hs) h = of (λ k. leads_by_rows hs k) row.is_grouping refl h
  where
    behind : (b : Bool) → binds_next s.token ≡ true → leads_to_group pairs ss ≡ true → (b || (binds_next s.token && leads_to_group pairs ss)) ≡ true
    behind true x y = refl
    behind false x y = and_from _ _ x y

    of : (leads_rows text rows ≡ true → leads_to_group pairs ss ≡ true) → (b : Bool) → row.is_grouping ≡ b → (b || (is_one_of_words ("return" ∷ "throw" ∷ "yield" ∷ []) (bytes_in text row.span) && leads_rows text rows)) ≡ true → leads_to_group pairs (s ∷ ss) ≡ true
    of others true e h = ap (λ x. x || (binds_next s.token && leads_to_group pairs ss)) (is.grouping e)
    of others false e h = let u = and_parts _ _ h in behind (is_grouping pairs s.token) (ap (is_one_of_words ("return" ∷ "throw" ∷ "yield" ∷ [])) is.bytes ∙ u.0) (others u.1)

-- grouping parentheses aside, the word `from` comes next
from_ungrouped : (pairs : List Pair) (token : LexicalToken) → is_from token ≡ true → is_grouping pairs token ≡ false
from_ungrouped pairs token h = ap (λ w. is_one_of_words ("(" ∷ ")" ∷ []) w && is_end_of pairs token.start) ((bytes_eq-Decides token.text (codes "from")).0 (first_true (bytes_eq token.text (codes "from")) h))
  where
    first_true : (b : Bool) → (b || false) ≡ true → b ≡ true
    first_true true e = refl
    first_true false e = e

from_by_rows : {text : List ℕ} {pairs : List Pair} {at : ℕ} {rows : List TokenRow} {ss : List SpacedToken} {stop : ℕ} → AreRows text pairs at rows ss stop → from_rows text rows ≡ true → comes_from pairs ss ≡ true
from_by_rows none h = h
from_by_rows {text} {pairs} (one {row = row} {rows = rows} {s = s} {ss = ss} is hs) h = of (λ k. from_by_rows hs k) row.is_grouping refl h
  where
    of : (from_rows text rows ≡ true → comes_from pairs ss ≡ true) → (b : Bool) → row.is_grouping ≡ b → cond b (from_rows text rows) (is_one_of_words ("from" ∷ []) (bytes_in text row.span)) ≡ true → comes_from pairs (s ∷ ss) ≡ true
    of others true e h = ap (λ x. cond x (comes_from pairs ss) (is_from s.token)) (is.grouping e) ∙ others h
    of others false e h = let word = ap (is_one_of_words ("from" ∷ [])) is.bytes ∙ h in ap (λ x. cond x (comes_from pairs ss) (is_from s.token)) (from_ungrouped pairs s.token word) ∙ word

-- ---- results and lists

-- what a call that answers true makes true
pub each_ok : {E : Type 0} {P Q : Type 0} (r : Result Bool E) → (P → Q) → IfOk r (λ is. is ≡ true → P) → IfOk r (λ is. is ≡ true → Q)
each_ok (Ok is) f h = λ e. f (h e)
each_ok (Err fault) f h = tt

pub both_ok : {E : Type 0} {P R Q : Type 0} (r : Result Bool E) → (P → R → Q) → IfOk r (λ is. is ≡ true → P) → IfOk r (λ is. is ≡ true → R) → IfOk r (λ is. is ≡ true → Q)
both_ok (Ok is) f h k = λ e. f (h e) (k e)
both_ok (Err fault) f h k = tt

no_some : {X : Type 0} (x : X) → Some x ≡ None → ⊥
no_some x e = cc

last_at : (text : List ℕ) (rows : List CommentRow) (row : CommentRow) (i : ℕ) → Some row ≡ slice_get rows i → i + 1 ≡ length rows → ends_line (comment_in text row) ≡ true → last_ends_line (comments_in text rows) ≡ true
last_at text [] row i e l h = absurd (no_some row e)
last_at text (r ∷ []) row zero e l h = let same : row ≡ r = cc in subst (λ x. ends_line (comment_in text x) ≡ true) same h
last_at text (r ∷ q ∷ rows) row zero e l h = absurd (omega arith)
last_at text (r ∷ []) row (suc i) e l h = absurd (omega arith)
last_at text (r ∷ q ∷ rows) row (suc i) e l h = last_at text (q ∷ rows) row i e (omega arith) h

pub last_some : (text : List ℕ) (rows : List CommentRow) (row : CommentRow) → Some row ≡ slice_get rows (length rows - 1) → ends_line (comment_in text row) ≡ true → last_ends_line (comments_in text rows) ≡ true
last_some text [] row e h = absurd (no_some row e)
last_some text (r ∷ rows) row e h = last_at text (r ∷ rows) row (length (r ∷ rows) - 1) e (omega arith) h

-- what settles, said of equal texts
pub settles_by : {stays before after alike : Bool} {t text u unwrapped : List ℕ} (old old_again new new_again : List CommentRow) → t ≡ text → u ≡ unwrapped →
    Settles stays before after (comments_in t old) (comments_in u old_again) (comments_in t new) (comments_in u new_again) alike →
    Settles stays before after (comments_in text old) (comments_in unwrapped old_again) (comments_in text new) (comments_in unwrapped new_again) alike
settles_by {stays} {before} {after} {alike} {t} {text} {u} {unwrapped} old old_again new new_again e f h =
    subst (λ x. Settles stays before after (comments_in text old) (comments_in x old_again) (comments_in text new) (comments_in x new_again) alike) f
    (subst (λ x. Settles stays before after (comments_in x old) (comments_in u old_again) (comments_in x new) (comments_in u new_again) alike) e h)

-- ---- turns

module _ {text unwrapped : List ℕ} (old new : Comparison) where
  -- a grouping parenthesis goes
  pub leads_gone : next_is_grouping old.text.rows.now ≡ true → PassesRow text old.text new.text → new.unwrapped ≡ old.unwrapped → new.may_end ≡ old.may_end → new.alike ≡ false → Leads text unwrapped old new
  leads_gone next passes other updated alike pairs pairs_again ss ts l =
      let f = first_of (rows_by refl passes.split l.rows) in
      let grouping = f.row_is.grouping (sym (ap next_is_grouping passes.split) ∙ next) in
      record {
        here = f.others;
        there = ts;
        left = record {
          stop = l.stop;
          stop_again = l.stop_again;
          rows = rows_by (sym passes.at) refl f.rows;
          rows_again = rows_by (ap (λ (r : Rest). r.at) (sym other)) (ap (λ (r : Rest). r.rows.now) (sym other)) l.rows_again;
        };
        kept = λ k. subst (λ zs. IsKept text pairs unwrapped pairs_again old zs ts) (sym f.is)
            (gone grouping (kept_by updated alike (f.row_is.comments _ _ passes.comments) (ap (λ (r : Rest). comments_in unwrapped r.passed.items) other) k));
      }

  -- what is left where only the unwrapped text was passed
  left_again : {pairs pairs_again : List Pair} {ss ts others : List SpacedToken} → (l : IsLeft text pairs unwrapped pairs_again old ss ts) → new.text ≡ old.text →
      AreRows unwrapped pairs_again new.unwrapped.at new.unwrapped.rows.now others l.stop_again → IsLeft text pairs unwrapped pairs_again new ss others
  left_again l same rows = record {
    stop = l.stop;
    stop_again = l.stop_again;
    rows = rows_by (ap (λ (r : Rest). r.at) (sym same)) (ap (λ (r : Rest). r.rows.now) (sym same)) l.rows;
    rows_again = rows;
  }

  -- a grouping parenthesis comes
  pub leads_put : next_is_grouping old.unwrapped.rows.now ≡ true → PassesRow unwrapped old.unwrapped new.unwrapped → new.text ≡ old.text → new.may_end ≡ old.may_end → new.alike ≡ false → Leads text unwrapped old new
  leads_put next passes other updated alike pairs pairs_again ss ts l =
      let f = first_of (rows_by refl passes.split l.rows_again) in
      let grouping = f.row_is.grouping (sym (ap next_is_grouping passes.split) ∙ next) in
      record {
        here = ss;
        there = f.others;
        left = left_again l other (rows_by (sym passes.at) refl f.rows);
        kept = λ k. subst (λ zs. IsKept text pairs unwrapped pairs_again old ss zs) (sym f.is)
            (put grouping (kept_by updated alike (ap (λ (r : Rest). comments_in text r.passed.items) other) (f.row_is.comments _ _ passes.comments) k));
      }

  -- a `;` comes
  pub leads_ended : old.may_end ≡ true → next_is (";" ∷ []) unwrapped old.unwrapped.rows.now ≡ true → PassesRow unwrapped old.unwrapped new.unwrapped → new.text ≡ old.text → new.may_end ≡ false → new.alike ≡ false → Leads text unwrapped old new
  leads_ended was next passes other updated alike pairs pairs_again ss ts l =
      let f = first_of (rows_by refl passes.split l.rows_again) in
      let semicolon : IsTrue (is_semicolon f.s.token) = ap (is_one_of_words (";" ∷ [])) f.row_is.bytes ∙ sym (ap (next_is (";" ∷ []) unwrapped) passes.split) ∙ next in
      record {
        here = ss;
        there = f.others;
        left = left_again l other (rows_by (sym passes.at) refl f.rows);
        kept = λ k. subst (λ zs. IsKept text pairs unwrapped pairs_again old ss zs) (sym f.is)
            (subst (λ u. AreKept pairs pairs_again u old.alike (comments_in text old.text.passed.items) (comments_in unwrapped old.unwrapped.passed.items) ss (f.s ∷ f.others)) (sym was)
            (ended semicolon (kept_by updated alike (ap (λ (r : Rest). comments_in text r.passed.items) other) (f.row_is.comments _ _ passes.comments) k)));
      }

  -- `()` comes
  pub leads_called : (mid : Rest) → begins_call unwrapped old.unwrapped.rows.now ≡ true → PassesRow unwrapped old.unwrapped mid → PassesRow unwrapped mid new.unwrapped → new.text ≡ old.text → new.may_end ≡ false → new.alike ≡ false → Leads text unwrapped old new
  leads_called mid next opens closes other updated alike pairs pairs_again ss ts l =
      let f = first_of (rows_by refl opens.split l.rows_again) in
      let g = first_of (rows_by (sym opens.at) closes.split f.rows) in
      let words = and_parts _ _ (sym (ap (begins_call unwrapped) (opens.split ∙ ap (λ zs. opens.row ∷ zs) closes.split)) ∙ next) in
      let opening : is_opening f.s.token ≡ true = ap (is_one_of_words ("(" ∷ [])) f.row_is.bytes ∙ words.0 in
      let closing : is_closing g.s.token ≡ true = ap (is_one_of_words (")" ∷ [])) g.row_is.bytes ∙ words.1 in
      let said = g.row_is.comments _ _ closes.comments ∙ ap (λ x. x ++ g.s.comments) (f.row_is.comments _ _ opens.comments) in
      record {
        here = ss;
        there = g.others;
        left = left_again l other (rows_by (sym closes.at) refl g.rows);
        kept = λ k. subst (λ zs. IsKept text pairs unwrapped pairs_again old ss zs) (sym (f.is ∙ ap (λ zs. f.s ∷ zs) g.is))
            (called (and_from _ _ opening closing) (kept_by updated alike (ap (λ (r : Rest). comments_in text r.passed.items) other) said k));
      }

  -- a token is kept; the lists of comments are `mid` before those that both have are taken off
  pub leads_kept : (mid mid_again : Rest) (row other : TokenRow) (stays before after : Bool) → BeginsWith old.text.rows.now row → BeginsWith old.unwrapped.rows.now other → AreSameRows text row unwrapped other →
      (stays ≡ true → old.alike ≡ true → bytes_in text (record { start = old.text.at; end = row.span.start }) ≡ bytes_in unwrapped (record { start = old.unwrapped.at; end = other.span.start })) →
      (before ≡ true → IsTrue (is_one_of_words ("return" ∷ "throw" ∷ "yield" ∷ []) (bytes_in text row.span) && leads_rows text mid.rows.now)) →
      (after ≡ true → (old.alike ≡ false) × IsTrue (is_one_of_words ("++" ∷ "--" ∷ ";" ∷ "," ∷ []) (bytes_in text row.span))) →
      (new.may_end ≡ true → may_be_ended_before (bytes_in unwrapped other.span) text mid.rows.now ≡ true) →
      PassesRow text old.text mid → PassesRow unwrapped old.unwrapped mid_again →
      Settles stays before after (comments_in text mid.passed.items) (comments_in unwrapped mid_again.passed.items) (comments_in text new.text.passed.items) (comments_in unwrapped new.unwrapped.passed.items) new.alike →
      new.text.rows.now ≡ mid.rows.now → new.text.at ≡ mid.at → new.unwrapped.rows.now ≡ mid_again.rows.now → new.unwrapped.at ≡ mid_again.at → Leads text unwrapped old new
  leads_kept mid mid_again row other stays before after begins begins_again same gaps leads follows is passes passes_again settled rows at rows_again at_again pairs pairs_again ss ts l =
      let f = first_of (rows_by refl passes.split l.rows) in
      let g = first_of (rows_by refl passes_again.split l.rows_again) in
      let here : passes.row ≡ row = first_row (sym passes.split ∙ begins.1) in
      let there : passes_again.row ≡ other = first_row (sym passes_again.split ∙ begins_again.1) in
      let left : IsLeft text pairs unwrapped pairs_again new f.others g.others = record {
        stop = l.stop;
        stop_again = l.stop_again;
        rows = rows_by (sym passes.at ∙ sym at) (sym rows) f.rows;
        rows_again = rows_by (sym passes_again.at ∙ sym at_again) (sym rows_again) g.rows;
      } in
      let token : IsSameToken f.s g.s = record {
        class = sym f.row_is.class ∙ ap (λ (r : TokenRow). r.class) here ∙ same.class ∙ sym (ap (λ (r : TokenRow). r.class) there) ∙ g.row_is.class;
        text = f.row_is.bytes ∙ ap (λ (r : TokenRow). bytes_in text r.span) here ∙ same.bytes ∙ sym (ap (λ (r : TokenRow). bytes_in unwrapped r.span) there) ∙ sym g.row_is.bytes;
      } in
      let word : f.s.token.text ≡ bytes_in text row.span = f.row_is.bytes ∙ ap (λ (r : TokenRow). bytes_in text r.span) here in
      let word_again : g.s.token.text ≡ bytes_in unwrapped other.span = g.row_is.bytes ∙ ap (λ (r : TokenRow). bytes_in unwrapped r.span) there in
      let said = f.row_is.comments _ _ passes.comments in
      let said_again = g.row_is.comments _ _ passes_again.comments in
      record {
        here = f.others;
        there = g.others;
        left = left;
        kept = λ k.
            let is_word : (words : List String) → IsTrue (is_one_of_words words (bytes_in text row.span)) → IsTrue (is_one_of_words words f.s.token.text) = λ words h. ap (is_one_of_words words) word ∙ h in
            let k_noted = noted new.may_end (may_be_ended pairs g.s.token f.others) (λ u. ended_by (is_update g.s.token) (is_closing_brace g.s.token) (comes_from pairs f.others) (from_rows text mid.rows.now) (from_by_rows f.rows)
            (ap (λ w. may_be_ended_before w text mid.rows.now) word_again ∙ is u)) k in
            subst (λ zs. IsKept text pairs unwrapped pairs_again old zs ts) (sym f.is) (subst (λ zs. IsKept text pairs unwrapped pairs_again old (f.s ∷ f.others) zs) (sym g.is)
            (settle f.s g.s f.others g.others token
            (λ st a. f.row_is.gap ∙ ap (λ (r : TokenRow). slice_range text old.text.at r.span.start) here ∙ gaps st a ∙ sym (ap (λ (r : TokenRow). slice_range unwrapped old.unwrapped.at r.span.start) there) ∙ sym g.row_is.gap)
            (λ b. let u = and_parts _ _ (leads b) in and_from _ _ (is_word ("return" ∷ "throw" ∷ "yield" ∷ []) u.0) (leads_by_rows f.rows u.1))
            (λ b. ((follows b).0, is_word ("++" ∷ "--" ∷ ";" ∷ "," ∷ []) (follows b).1))
            said said_again settled k_noted));
      }
    where
      first_row : {x y : TokenRow} {xs ys : List TokenRow} → x ∷ xs ≡ y ∷ ys → x ≡ y
      first_row e = cc

      ended_by : (a b may from : Bool) → (from ≡ true → may ≡ true) → (a || (b && from)) ≡ true → (a || (b && may)) ≡ true
      ended_by true b may from f h = refl
      ended_by false b may from f h = let u = and_parts b from h in and_from _ _ u.0 (f u.1)

      settle : {pairs pairs_again : List Pair} (s t : SpacedToken) (ss ts : List SpacedToken) → IsSameToken s t → (stays ≡ true → old.alike ≡ true → s.gap ≡ t.gap) →
          (before ≡ true → IsTrue (binds_next s.token && leads_to_group pairs ss)) → (after ≡ true → (old.alike ≡ false) × IsTrue (binds_last s.token)) →
          comments_in text mid.passed.items ≡ comments_in text old.text.passed.items ++ s.comments → comments_in unwrapped mid_again.passed.items ≡ comments_in unwrapped old.unwrapped.passed.items ++ t.comments →
          Settles stays before after (comments_in text mid.passed.items) (comments_in unwrapped mid_again.passed.items) (comments_in text new.text.passed.items) (comments_in unwrapped new.unwrapped.passed.items) new.alike →
          AreKept pairs pairs_again (may_be_ended pairs t.token ss) new.alike (comments_in text new.text.passed.items) (comments_in unwrapped new.unwrapped.passed.items) ss ts →
          AreKept pairs pairs_again old.may_end old.alike (comments_in text old.text.passed.items) (comments_in unwrapped old.unwrapped.passed.items) (s ∷ ss) (t ∷ ts)
      settle s t ss ts token gap leads follows said said_again (settles.all_found st e nil nil_again alike) k = kept token (gap st) (sym said ∙ e ∙ said_again) (kept_by refl alike nil nil_again k)
      settle s t ss ts token gap leads follows said said_again (settles.moved_before b h e nil alike) k =
          moved_before token (and_from _ _ (leads b) h) (sym (ap (λ x. x ++ comments_in unwrapped new.unwrapped.passed.items) said) ∙ e ∙ said_again) (kept_by refl alike nil refl k)
      settle {pairs} {pairs_again} s t ss ts token gap leads follows said said_again (settles.moved_after b h e nil alike) k =
          subst (λ z. AreKept pairs pairs_again old.may_end z (comments_in text old.text.passed.items) (comments_in unwrapped old.unwrapped.passed.items) (s ∷ ss) (t ∷ ts)) (sym (follows b).0)
          (moved_after token (and_from _ _ (follows b).1 h) (sym said ∙ e ∙ ap (λ x. x ++ comments_in text new.text.passed.items) said_again) (kept_by refl alike refl nil k))

-- ---- the whole comparison

-- rows of two texts: if what is left is kept, all is
pub record IsRest (text : List ℕ) (pairs : List Pair) (unwrapped : List ℕ) (pairs_again : List Pair) (left : Comparison) (ss ts : List SpacedToken) : Type 0 where
  pub here : List SpacedToken
  pub there : List SpacedToken
  pub is_left : IsLeft text pairs unwrapped pairs_again left here there
  pub kept : IsKept text pairs unwrapped pairs_again left here there → AreKept pairs pairs_again false true [] [] ss ts

abbrev pub Compares : ℕ → List ℕ → List TokenRow → ℕ → List ℕ → List TokenRow → Comparison → Type 0
Compares from text rows from_again unwrapped others left =
    (pairs pairs_again : List Pair) (ss ts : List SpacedToken) (stop stop_again : ℕ) → AreRows text pairs from rows ss stop → AreRows unwrapped pairs_again from_again others ts stop_again →
    IsRest text pairs unwrapped pairs_again left ss ts

pub begins_comparing : (from : ℕ) (text : List ℕ) (rows : List TokenRow) (from_again : ℕ) (unwrapped : List ℕ) (others : List TokenRow) (left : Comparison) → left.text.rows.now ≡ rows → left.text.at ≡ from → left.text.passed.items ≡ [] →
    left.unwrapped.rows.now ≡ others → left.unwrapped.at ≡ from_again → left.unwrapped.passed.items ≡ [] → left.may_end ≡ false → left.alike ≡ true → Compares from text rows from_again unwrapped others left
begins_comparing from text rows from_again unwrapped others left e f g e_again f_again g_again updated alike pairs pairs_again ss ts stop stop_again h h_again =
    record {
      here = ss;
      there = ts;
      is_left = record { stop = stop; stop_again = stop_again; rows = rows_by (sym f) (sym e) h; rows_again = rows_by (sym f_again) (sym e_again) h_again };
      kept = λ k. kept_by updated alike (ap (comments_in text) g) (ap (comments_in unwrapped) g_again) k;
    }

pub compares_on : (from : ℕ) (text : List ℕ) (rows : List TokenRow) (from_again : ℕ) (unwrapped : List ℕ) (others : List TokenRow) (old new : Comparison) → Compares from text rows from_again unwrapped others old → Leads text unwrapped old new →
    Compares from text rows from_again unwrapped others new
compares_on from text rows from_again unwrapped others old new compares leads pairs pairs_again ss ts stop stop_again h h_again =
    let l = compares pairs pairs_again ss ts stop stop_again h h_again in
    let m = leads pairs pairs_again l.here l.there l.is_left in
    record { here = m.here; there = m.there; is_left = m.left; kept = λ k. l.kept (m.kept k) }

-- where nothing is left, all is kept
pub ends_comparing : (from : ℕ) (text : List ℕ) (rows : List TokenRow) (from_again : ℕ) (unwrapped : List ℕ) (others : List TokenRow) (left : Comparison) → Compares from text rows from_again unwrapped others left → left.text.rows.now ≡ [] → left.unwrapped.rows.now ≡ [] →
    left.text.passed.items ≡ [] → left.unwrapped.passed.items ≡ [] → KeepsRows from text rows from_again unwrapped others
ends_comparing from text rows from_again unwrapped others left compares e e_again g g_again pairs pairs_again ss ts stop stop_again h h_again =
    let l = compares pairs pairs_again ss ts stop stop_again h h_again in
    l.kept (ended_by l.here l.there (no_token (rows_by refl e l.is_left.rows)) (no_token (rows_by refl e_again l.is_left.rows_again)))
  where
    no_token : {text : List ℕ} {pairs : List Pair} {at stop : ℕ} {zs : List SpacedToken} → AreRows text pairs at [] zs stop → zs ≡ []
    no_token none = refl

    ended_by : {pairs pairs_again : List Pair} (here there : List SpacedToken) → here ≡ [] → there ≡ [] → IsKept text pairs unwrapped pairs_again left here there
    ended_by {pairs} {pairs_again} here there x y =
        subst (λ zs. IsKept text pairs unwrapped pairs_again left zs there) (sym x) (subst (λ zs. IsKept text pairs unwrapped pairs_again left [] zs) (sym y)
        (kept_by {u = left.may_end} {a = left.alike} refl refl (sym (ap (comments_in text) g)) (sym (ap (comments_in unwrapped) g_again)) all))

-- what holds of what was read of both texts holds of all readings by their trees
pub keeps_read : (text : List ℕ) (n : Tree) (pairs : List Pair) (unwrapped : List ℕ) (again : Tree) (pairs_again : List Pair) (read read_again : TreeReading) → IsRead text n pairs read → IsRead unwrapped again pairs_again read_again →
    BeginsAlike text read.start unwrapped read_again.start → KeepsRows read.start text read.tokens.items read_again.start unwrapped read_again.tokens.items → Keeps text n pairs unwrapped again pairs_again
keeps_read text n pairs unwrapped again pairs_again read read_again r s begins keeps = (begins n again r.start s.start, all_kept)
  where
    all_kept : (before after : List LexicalToken) (reading : IsReadingBehind n text before) (reading_again : IsReadingBehind again unwrapped after) → AreKept pairs pairs_again false true [] [] (spaced_tokens reading) (spaced_tokens reading_again)
    all_kept before after reading reading_again =
        let here = same_readings n r.reading reading refl refl in
        let there = same_readings again s.reading reading_again refl refl in
        subst (λ x. AreKept pairs pairs_again false true [] [] x (spaced_tokens reading_again)) here
        (subst (λ x. AreKept pairs pairs_again false true [] [] (spaced_tokens r.reading) x) there (keeps pairs pairs_again _ _ r.stop s.stop r.rows s.rows))

-- a text keeps what it has
pub keeps_itself : (text : List ℕ) (n : Tree) (pairs : List Pair) → Keeps text n pairs text n pairs
keeps_itself text n pairs = (
  refl,
  λ before after reading reading_again.
      let same = same_readings n reading reading_again refl refl in
      subst (AreKept pairs pairs false true [] [] (spaced_tokens reading)) same (all_kept false (spaced_tokens reading)),
)
  where
    all_kept : (updated : Bool) (ss : List SpacedToken) → AreKept pairs pairs updated true [] [] ss ss
    all_kept updated [] = all
    all_kept updated (s ∷ ss) = kept (record { class = refl; text = refl }) (λ a. refl) refl (all_kept (may_be_ended pairs s.token ss) ss)
