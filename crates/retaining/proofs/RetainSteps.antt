-- The turns of the loop over the tokens of a text and of its formatted text.
use Rattle.std.proofs.Common.{◌≡◌, ℕ, Bool, true, false, ◌||◌, List, [], ◌∷◌, ◌++◌, true≢false, refl, sym, ap, ◌∙◌, subst}
use Rattle.std.proofs.lemmas.Bool.{and_from}
use Rattle.tokens.specs.Lexical.{is_one_of_words}
use Rattle.tokens.specs.Tokens.{LexicalToken}
use Rattle.tree.specs.Tree.{Tree}
use Rattle.tree.specs.declared.kind.Pair.{Pair}
use Rattle.reading_laws.specs.TreeReadings.{IsReadingBehind}
use Rattle.unwrapping.specs.declared.reading.TokenRow.{TokenRow}
use Rattle.unwrapping.specs.declared.reading.TreeReading.{TreeReading}
use Rattle.unwrapping.specs.Keeps.{SpacedToken, IsSameToken, spaced_tokens}
use Rattle.unwrapping.specs.Readings.{bytes_in, comments_in, IsRow, AreRows, none, one, IsRead}
use Rattle.unwrapping.specs.Comparing.{BeginsAlike}
use Rattle.unwrapping.proofs.OneReading.{same_readings}
use Rattle.retaining.specs.declared.side.Side.{Side}
use Rattle.retaining.specs.declared.retaining.Comparison.{Comparison}
use Rattle.retaining.specs.Retains.{Word, word, words, Recent, Passed, nothing_passed, ends_operand, breaks_behind, breaks_before, passing, settled, all_lines, begin_with, is, is_free, operators, may_move_over, AreRetained, all, kept, moved, gone, come, called, Retains}
use Rattle.retaining.specs.Comparing.{word_in, words_in, recent_in, breaks_row, PassesRow, IsSettled, BeginsWith, AreSameRows, IsAt, Leads, RetainsRows}

rows_by : {text : List ℕ} {pairs : List Pair} {at bt stop : ℕ} {xs ys : List TokenRow} {ss : List SpacedToken} → at ≡ bt → xs ≡ ys → AreRows text pairs at xs ss stop → AreRows text pairs bt ys ss stop
rows_by {text} {pairs} {at} {bt} {stop} {xs} {ys} {ss} e f h = subst (λ zs. AreRows text pairs bt zs ss stop) f (subst (λ z. AreRows text pairs z xs ss stop) e h)

-- the row that was passed, with its token
record IsFirst (text : List ℕ) (pairs : List Pair) (at : ℕ) (row : TokenRow) (rest : List TokenRow) (ss : List SpacedToken) (stop : ℕ) : Type 0 where
  s : SpacedToken
  others : List SpacedToken
  is : ss ≡ s ∷ others
  row_is : IsRow text pairs at row s
  rows : AreRows text pairs row.span.end rest others stop

first_of : {text : List ℕ} {pairs : List Pair} {at : ℕ} {row : TokenRow} {rest : List TokenRow} {ss : List SpacedToken} {stop : ℕ} → AreRows text pairs at (row ∷ rest) ss stop → IsFirst text pairs at row rest ss stop
first_of (one {s = s} {ss = others} h hs) = record { s = s; others = others; is = refl; row_is = h; rows = hs }

word_same : {text : List ℕ} {pairs : List Pair} {at : ℕ} {row : TokenRow} {s : SpacedToken} → IsRow text pairs at row s → word_in text row ≡ word s
word_same h = (λ i. record { class = h.class i; text = sym h.bytes i })

words_same : {text : List ℕ} {pairs : List Pair} {at : ℕ} {rows : List TokenRow} {ss : List SpacedToken} {stop : ℕ} → AreRows text pairs at rows ss stop → words_in text rows ≡ words ss
words_same none = refl
words_same (one is hs) = (λ i. word_same is i ∷ words_same hs i)

or_by : (a b c d : Bool) → (a ≡ true → c ≡ true) → b ≡ d → (a || b) ≡ true → (c || d) ≡ true
or_by true b c d f e h = ap (λ x. x || d) (f refl)
or_by false b true d f e h = refl
or_by false b false d f e h = sym e ∙ h

-- ---- one token further

record IsAhead (text : List ℕ) (pairs : List Pair) (old new : Side) (row : TokenRow) (p : Passed) (ss : List SpacedToken) : Type 0 where
  s : SpacedToken
  others : List SpacedToken
  is : ss ≡ s ∷ others
  at : IsAt text pairs new (passing p s) others
  word : word_in text row ≡ word s
  breaks : breaks_row text old row ≡ true → breaks_before p s ≡ true

passed_on : (text : List ℕ) (pairs : List Pair) (old new : Side) (p : Passed) (ss : List SpacedToken) (x : PassesRow text old new) → IsAt text pairs old p ss → IsAhead text pairs old new x.row p ss
passed_on text pairs old new p ss x h =
    let f = first_of (rows_by refl x.split h.rows) in
    let last : bytes_in text old.last ≡ p.recent.last = ap (λ (r : Recent). r.last) h.passed.recent in
    let second : bytes_in text old.second ≡ p.recent.second = ap (λ (r : Recent). r.second) h.passed.recent in
    let breaks : breaks_row text old x.row ≡ true → breaks_before p f.s ≡ true = or_by old.breaks _ p.breaks _ h.passed.breaks (λ i. breaks_behind (h.passed.comments i) (sym f.row_is.gap i)) in
    record {
      s = f.s;
      others = f.others;
      is = f.is;
      at = record {
        stop = h.stop;
        rows = rows_by (sym x.at) refl f.rows;
        passed = record {
          recent = (λ i. record { last = (ap (bytes_in text) x.last ∙ sym f.row_is.bytes) i; second = (ap (bytes_in text) x.second ∙ last) i; third = (ap (bytes_in text) x.third ∙ second) i });
          operand = λ e. (λ i. ends_operand (sym last i) (sym (word_same f.row_is) i)) ∙ x.operand e;
          comments = f.row_is.comments _ _ x.comments ∙ ap (λ c. c ++ f.s.comments) h.passed.comments;
          breaks = λ e. breaks (x.breaks e);
        };
      };
      word = word_same f.row_is;
      breaks = breaks;
    }

settled_at : {text : List ℕ} {pairs : List Pair} {old new : Side} {p : Passed} {ss : List SpacedToken} → IsSettled old new → IsAt text pairs old p ss → IsAt text pairs new (settled p) ss
settled_at {text} {pairs} {old} {new} {p} {ss} x h =
    record {
      stop = h.stop;
      rows = rows_by (sym x.at) (sym x.rows) h.rows;
      passed = record {
        recent = (λ i. record { last = bytes_in text (x.last i); second = bytes_in text (x.second i); third = bytes_in text (x.third i) }) ∙ h.passed.recent;
        operand = λ e. h.passed.operand (sym x.operand ∙ e);
        comments = ap (comments_in text) x.comments;
        breaks = λ e. sym x.breaks ∙ e;
      };
    }

-- ---- turns

first_row : {x y : TokenRow} {xs ys : List TokenRow} → x ∷ xs ≡ y ∷ ys → x ≡ y
first_row e = cc

or_more : (a b : Bool) → (a || false) ≡ true → (a || b) ≡ true
or_more true b h = refl
or_more false b h = absurd (true≢false (sym h))

over_by : (a b : Bool) (w : Word) → (a ≡ true → b ≡ true) → may_move_over a w ≡ true → may_move_over b w ≡ true
over_by true b w f h = subst (λ z. may_move_over z w ≡ true) (sym (f refl)) h
over_by false false w f h = h
over_by false true w f h = or_more (is "," w) (is_one_of_words operators w.text) h

module _ {text formatted : List ℕ} (old new : Comparison) where
  -- a token goes
  pub leads_gone : is_free (recent_in text old.text) (words_in text old.text.rows.now) ≡ true → PassesRow text old.text new.text → new.formatted ≡ old.formatted → Leads text formatted old new
  leads_gone free x other pairs pairs_again p q ss ts h k =
      let f = passed_on text pairs old.text new.text p ss x h in
      let is : is_free p.recent (words (f.s ∷ f.others)) ≡ true = (λ i. is_free (sym h.passed.recent i) (sym (words_same h.rows ∙ ap words f.is) i)) ∙ free in
      record {
        here = f.others;
        there = ts;
        passed = passing p f.s;
        passed_again = q;
        left = f.at;
        left_again = subst (λ z. IsAt formatted pairs_again z q ts) (sym other) k;
        retained = λ r. subst (λ zs. AreRetained p q zs ts) (sym f.is) (gone is r);
      }

  -- a token comes
  pub leads_come : is_free (recent_in formatted old.formatted) (words_in formatted old.formatted.rows.now) ≡ true → PassesRow formatted old.formatted new.formatted → new.text ≡ old.text → Leads text formatted old new
  leads_come free x other pairs pairs_again p q ss ts h k =
      let f = passed_on formatted pairs_again old.formatted new.formatted q ts x k in
      let is : is_free q.recent (words (f.s ∷ f.others)) ≡ true = (λ i. is_free (sym k.passed.recent i) (sym (words_same k.rows ∙ ap words f.is) i)) ∙ free in
      record {
        here = ss;
        there = f.others;
        passed = p;
        passed_again = passing q f.s;
        left = subst (λ z. IsAt text pairs z p ss) (sym other) h;
        left_again = f.at;
        retained = λ r. subst (λ zs. AreRetained p q ss zs) (sym f.is) (come is r);
      }

  -- `()` comes
  pub leads_called : (mid : Side) → begin_with ("(" ∷ ")" ∷ []) (words_in formatted old.formatted.rows.now) ≡ true → PassesRow formatted old.formatted mid → PassesRow formatted mid new.formatted → new.text ≡ old.text → Leads text formatted old new
  leads_called mid call x y other pairs pairs_again p q ss ts h k =
      let f = passed_on formatted pairs_again old.formatted mid q ts x k in
      let g = passed_on formatted pairs_again mid new.formatted (passing q f.s) f.others y f.at in
      let two : ts ≡ f.s ∷ g.s ∷ g.others = f.is ∙ ap (λ zs. f.s ∷ zs) g.is in
      let is : begin_with ("(" ∷ ")" ∷ []) (words (f.s ∷ g.s ∷ g.others)) ≡ true = ap (begin_with ("(" ∷ ")" ∷ [])) (sym (words_same k.rows ∙ ap words two)) ∙ call in
      record {
        here = ss;
        there = g.others;
        passed = p;
        passed_again = passing (passing q f.s) g.s;
        left = subst (λ z. IsAt text pairs z p ss) (sym other) h;
        left_again = g.at;
        retained = λ r. subst (λ zs. AreRetained p q ss zs) (sym two) (called is r);
      }

  same_token : {s t : SpacedToken} (row other : TokenRow) → word_in text row ≡ word s → word_in formatted other ≡ word t → AreSameRows text row formatted other → IsSameToken s t
  same_token row other e f same = record {
    class = ap (λ (w : Word). w.class) (sym e) ∙ same.class ∙ ap (λ (w : Word). w.class) f;
    text = ap (λ (w : Word). w.text) (sym e) ∙ same.bytes ∙ ap (λ (w : Word). w.text) f;
  }

  -- two rows that were passed are these
  same_rows : {mid mid_again : Side} (row other : TokenRow) → (x : PassesRow text old.text mid) → (y : PassesRow formatted old.formatted mid_again) → BeginsWith old.text.rows.now row → BeginsWith old.formatted.rows.now other →
      AreSameRows text row formatted other → AreSameRows text x.row formatted y.row
  same_rows row other x y begins begins_again same =
      let here : row ≡ x.row = first_row (sym begins.1 ∙ x.split) in
      let there : other ≡ y.row = first_row (sym begins_again.1 ∙ y.split) in
      subst (λ z. AreSameRows text z formatted y.row) here (subst (λ z. AreSameRows text row formatted z) there same)

  -- a token is kept, and all comments before it are found
  pub leads_kept : (mid mid_again : Side) (row other : TokenRow) → BeginsWith old.text.rows.now row → BeginsWith old.formatted.rows.now other → AreSameRows text row formatted other → PassesRow text old.text mid → PassesRow formatted old.formatted mid_again →
      all_lines (comments_in text mid.comments.items) ≡ all_lines (comments_in formatted mid_again.comments.items) → IsSettled mid new.text → IsSettled mid_again new.formatted → Leads text formatted old new
  leads_kept mid mid_again row other begins begins_again same x y found settles settles_again pairs pairs_again p q ss ts h k =
      let f = passed_on text pairs old.text mid p ss x h in
      let g = passed_on formatted pairs_again old.formatted mid_again q ts y k in
      let token = same_token x.row y.row f.word g.word (same_rows row other x y begins begins_again same) in
      let lines : all_lines (p.comments ++ f.s.comments) ≡ all_lines (q.comments ++ g.s.comments) = ap all_lines (sym f.at.passed.comments) ∙ found ∙ ap all_lines g.at.passed.comments in
      record {
        here = f.others;
        there = g.others;
        passed = settled (passing p f.s);
        passed_again = settled (passing q g.s);
        left = settled_at settles f.at;
        left_again = settled_at settles_again g.at;
        retained = λ r. subst (λ zs. AreRetained p q zs ts) (sym f.is) (subst (λ zs. AreRetained p q (f.s ∷ f.others) zs) (sym g.is) (kept token lines r));
      }

  -- a token is kept, and the comments before it move behind it
  pub leads_moved : (mid_again : Side) (row other : TokenRow) → BeginsWith old.text.rows.now row → BeginsWith old.formatted.rows.now other → AreSameRows text row formatted other → PassesRow text old.text new.text → PassesRow formatted old.formatted mid_again →
      may_move_over old.text.is_operand (word_in text row) ≡ true → breaks_row text old.text row ≡ true → mid_again.comments.items ≡ [] → IsSettled mid_again new.formatted → Leads text formatted old new
  leads_moved mid_again row other begins begins_again same x y over breaks nil settles_again pairs pairs_again p q ss ts h k =
      let f = passed_on text pairs old.text new.text p ss x h in
      let g = passed_on formatted pairs_again old.formatted mid_again q ts y k in
      let here : row ≡ x.row = first_row (sym begins.1 ∙ x.split) in
      let token = same_token x.row y.row f.word g.word (same_rows row other x y begins begins_again same) in
      let may : may_move_over p.is_operand (word f.s) ≡ true = over_by old.text.is_operand p.is_operand (word f.s) h.passed.operand (ap (may_move_over old.text.is_operand) (sym f.word ∙ ap (word_in text) (sym here)) ∙ over) in
      let ends : breaks_before p f.s ≡ true = f.breaks (ap (breaks_row text old.text) (sym here) ∙ breaks) in
      let none_there : q.comments ++ g.s.comments ≡ [] = sym g.at.passed.comments ∙ ap (comments_in formatted) nil in
      record {
        here = f.others;
        there = g.others;
        passed = passing p f.s;
        passed_again = settled (passing q g.s);
        left = f.at;
        left_again = settled_at settles_again g.at;
        retained = λ r. subst (λ zs. AreRetained p q zs ts) (sym f.is) (subst (λ zs. AreRetained p q (f.s ∷ f.others) zs) (sym g.is) (moved token (and_from _ _ may ends) none_there r));
      }

-- ---- the whole comparison

-- rows of two texts: if what is left is retained, all is
pub record IsRest (text : List ℕ) (pairs : List Pair) (formatted : List ℕ) (pairs_again : List Pair) (left : Comparison) (ss ts : List SpacedToken) : Type 0 where
  pub here : List SpacedToken
  pub there : List SpacedToken
  pub passed : Passed
  pub passed_again : Passed
  pub is_at : IsAt text pairs left.text passed here
  pub is_at_again : IsAt formatted pairs_again left.formatted passed_again there
  pub retained : AreRetained passed passed_again here there → AreRetained nothing_passed nothing_passed ss ts

abbrev pub Compares : ℕ → List ℕ → List TokenRow → ℕ → List ℕ → List TokenRow → Comparison → Type 0
Compares from text rows from_again formatted others left =
    (pairs pairs_again : List Pair) (ss ts : List SpacedToken) (stop stop_again : ℕ) → AreRows text pairs from rows ss stop → AreRows formatted pairs_again from_again others ts stop_again →
    IsRest text pairs formatted pairs_again left ss ts

-- a text from its beginning on
pub record IsBegun (from : ℕ) (tokens : List TokenRow) (side : Side) : Type 0 where
  pub rows : side.rows.now ≡ tokens
  pub at : side.at ≡ from
  pub last : side.last ≡ record { start = 0; end = 0 }
  pub second : side.second ≡ record { start = 0; end = 0 }
  pub third : side.third ≡ record { start = 0; end = 0 }
  pub operand : side.is_operand ≡ false
  pub comments : side.comments.items ≡ []
  pub breaks : side.breaks ≡ false

begun_at : (text : List ℕ) (pairs : List Pair) (from : ℕ) (rows : List TokenRow) (side : Side) (ss : List SpacedToken) (stop : ℕ) → IsBegun from rows side → AreRows text pairs from rows ss stop → IsAt text pairs side nothing_passed ss
begun_at text pairs from rows side ss stop x h =
    record {
      stop = stop;
      rows = rows_by (sym x.at) (sym x.rows) h;
      passed = record {
        recent = (λ i. record { last = bytes_in text (x.last i); second = bytes_in text (x.second i); third = bytes_in text (x.third i) });
        operand = λ e. sym x.operand ∙ e;
        comments = ap (comments_in text) x.comments;
        breaks = λ e. sym x.breaks ∙ e;
      };
    }

pub begins_comparing : (from : ℕ) (text : List ℕ) (rows : List TokenRow) (from_again : ℕ) (formatted : List ℕ) (others : List TokenRow) (left : Comparison) → IsBegun from rows left.text → IsBegun from_again others left.formatted → Compares from text rows from_again formatted others left
begins_comparing from text rows from_again formatted others left x y pairs pairs_again ss ts stop stop_again h k =
    record {
      here = ss;
      there = ts;
      passed = nothing_passed;
      passed_again = nothing_passed;
      is_at = begun_at text pairs from rows left.text ss stop x h;
      is_at_again = begun_at formatted pairs_again from_again others left.formatted ts stop_again y k;
      retained = λ r. r;
    }

pub compares_on : (from : ℕ) (text : List ℕ) (rows : List TokenRow) (from_again : ℕ) (formatted : List ℕ) (others : List TokenRow) (old new : Comparison) → Compares from text rows from_again formatted others old → Leads text formatted old new →
    Compares from text rows from_again formatted others new
compares_on from text rows from_again formatted others old new compares leads pairs pairs_again ss ts stop stop_again h k =
    let l = compares pairs pairs_again ss ts stop stop_again h k in
    let m = leads pairs pairs_again l.passed l.passed_again l.here l.there l.is_at l.is_at_again in
    record { here = m.here; there = m.there; passed = m.passed; passed_again = m.passed_again; is_at = m.left; is_at_again = m.left_again; retained = λ r. l.retained (m.retained r) }

-- where nothing is left, all is retained
pub ends_comparing : (from : ℕ) (text : List ℕ) (rows : List TokenRow) (from_again : ℕ) (formatted : List ℕ) (others : List TokenRow) (left : Comparison) → Compares from text rows from_again formatted others left → left.text.rows.now ≡ [] →
    left.formatted.rows.now ≡ [] → left.text.comments.items ≡ [] → left.formatted.comments.items ≡ [] → RetainsRows from text rows from_again formatted others
ends_comparing from text rows from_again formatted others left compares e f c d pairs pairs_again ss ts stop stop_again h k =
    let l = compares pairs pairs_again ss ts stop stop_again h k in
    l.retained (ended l.here l.there (no_token (rows_by refl e l.is_at.rows)) (no_token (rows_by refl f l.is_at_again.rows)) (sym l.is_at.passed.comments ∙ ap (comments_in text) c) (sym l.is_at_again.passed.comments ∙ ap (comments_in formatted) d))
  where
    no_token : {text : List ℕ} {pairs : List Pair} {at stop : ℕ} {zs : List SpacedToken} → AreRows text pairs at [] zs stop → zs ≡ []
    no_token none = refl

    ended : {p q : Passed} (here there : List SpacedToken) → here ≡ [] → there ≡ [] → p.comments ≡ [] → q.comments ≡ [] → AreRetained p q here there
    ended {p} {q} here there x y c d = subst (λ zs. AreRetained p q zs there) (sym x) (subst (λ zs. AreRetained p q [] zs) (sym y) (all c d))

-- what holds of what was read of both texts holds of all readings by their trees
pub retains_read : (text : List ℕ) (n : Tree) (pairs : List Pair) (formatted : List ℕ) (again : Tree) (pairs_again : List Pair) (read read_again : TreeReading) → IsRead text n pairs read → IsRead formatted again pairs_again read_again →
    BeginsAlike text read.start formatted read_again.start → RetainsRows read.start text read.tokens.items read_again.start formatted read_again.tokens.items → Retains text n pairs formatted again pairs_again
retains_read text n pairs formatted again pairs_again read read_again r s begins retains = (begins n again r.start s.start, all_retained)
  where
    all_retained : (before after : List LexicalToken) (reading : IsReadingBehind n text before) (reading_again : IsReadingBehind again formatted after) → AreRetained nothing_passed nothing_passed (spaced_tokens reading) (spaced_tokens reading_again)
    all_retained before after reading reading_again =
        let here = same_readings n r.reading reading refl refl in
        let there = same_readings again s.reading reading_again refl refl in
        subst (λ x. AreRetained nothing_passed nothing_passed x (spaced_tokens reading_again)) here
        (subst (λ x. AreRetained nothing_passed nothing_passed (spaced_tokens r.reading) x) there (retains pairs pairs_again _ _ r.stop s.stop r.rows s.rows))
