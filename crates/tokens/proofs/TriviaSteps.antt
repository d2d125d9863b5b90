-- Separators, step by step, and where they end.
use Rattle.std.proofs.Common.{◌≡◌, ℕ, ◌+◌, ◌-◌, ◌<◌, length, get_or, Bool, true, false, not, ◌&&◌, ◌||◌, ◌==◌, List, [], ◌∷◌, ◌++◌, IsTrue, IsFalse, refl, sym, ap, ◌∙◌, subst, arith, append_assoc, append-nil, inl, inr, ◌⊎◌, if◌then◌else◌}
use Rattle.std.specs.List.{list_all, list_any}
use Rattle.std.specs.Str.{IsUtf8}
use Rattle.std.proofs.lemmas.Bool.Decides.{nat_tests}
use Rattle.source_text.specs.Lines.{is_line_terminator}
use Rattle.tokens.specs.Alphabet.{one_of, begins_with, is_empty, is_white_space}
use Rattle.tokens.specs.Comments.{closes_comment, is_block_comment, is_comment, Separators, nothing, blank, comment}
use Rattle.tokens.specs.Closers.{closes_from, is_plain}
use Rattle.tokens.specs.Reading.{behind}
use Rattle.tokens.specs.Scanned.{Passed, AllPass, IsRun, IsBlockRest, NoBlockRest, IsCommentRest, NoCommentRest, IsSeparator, IsSolid, IsGap}
use Rattle.source_text.specs.Source.{IsPlace}
use Rattle.tokens.proofs.PassedCharacters.{pass_byte, passed_none, passed_on, passed_ordered}
use Rattle.tokens.proofs.Beginnings.{true_false}

pub any_append : (test : ℕ → Bool) (v w : List ℕ) → list_any test (v ++ w) ≡ (list_any test v || list_any test w)
any_append test [] w = refl
any_append test (c ∷ v) w = ap (λ x. test c || x) (any_append test v w) ∙ or_assoc (test c) (list_any test v) (list_any test w) where
  or_assoc : (a b c : Bool) → (a || (b || c)) ≡ ((a || b) || c)
  or_assoc true b c = refl
  or_assoc false b c = refl

pub all_append : (test : ℕ → Bool) (v w : List ℕ) → IsTrue (list_all test v) → IsTrue (list_all test w) → IsTrue (list_all test (v ++ w))
all_append test [] w h k = k
all_append test (c ∷ v) w h k = both (test c) (list_all test v) (list_all test (v ++ w)) h (λ t. all_append test v w t k) where
  both : (a b c : Bool) → IsTrue (a && b) → (IsTrue b → IsTrue c) → IsTrue (a && c)
  both true b c h f = f h
  both false b c h f = h

pub all_begins : (test : ℕ → Bool) (text : List ℕ) (at : ℕ) → IsPlace text at → AllPass test text at at
all_begins test text at p = record { word = []; passed = passed_none text at p; all = refl }

pub all_goes_on : (test : ℕ → Bool) (text : List ℕ) (at stop more c : ℕ) → AllPass test text at stop → Passed text stop more (c ∷ []) → IsTrue (test c) →
    AllPass test text at more
all_goes_on test text at stop more c h p t =
    record { word = h.word ++ c ∷ []; passed = passed_on text at stop more h.word (c ∷ []) h.passed p; all = all_append test h.word (c ∷ []) h.all (one (test c) t) } where
      one : (a : Bool) → IsTrue a → IsTrue (a && true)
      one true h = refl
      one false h = h

pub all_weaker : (test weaker : ℕ → Bool) → ((c : ℕ) → IsTrue (test c) → IsTrue (weaker c)) → (w : List ℕ) → IsTrue (list_all test w) → IsTrue (list_all weaker w)
all_weaker test weaker f [] h = refl
all_weaker test weaker f (c ∷ w) h = both (test c) (list_all test w) (weaker c) (list_all weaker w) h (f c) (all_weaker test weaker f w) where
  both : (a b d e : Bool) → IsTrue (a && b) → (IsTrue a → IsTrue d) → (IsTrue b → IsTrue e) → IsTrue (d && e)
  both true b d e h f g = two d e (f refl) (g h) where
    two : (d e : Bool) → IsTrue d → IsTrue e → IsTrue (d && e)
    two d e h k = grind (arith, nat_tests)
  both false b d e h f g = absurd (true_false _ h refl)

-- where a place is passed, less is left
pub all_shrinks : {test : ℕ → Bool} (text : List ℕ) (at stop more : ℕ) → at < stop → AllPass test text stop more → length text - more < length text - at
all_shrinks text at stop more lt h = let o = passed_ordered text stop more h.word h.passed in let i = h.passed.place.0 in omega arith

-- over one more byte of ASCII
pub over_byte : (test : ℕ → Bool) (text bytes : List ℕ) (at stop : ℕ) → IsUtf8 text → bytes ≡ text → AllPass test text at stop → stop < length bytes → get_or bytes stop 0 < 128 →
    IsTrue (test (get_or bytes stop 0)) → AllPass test text at (stop + 1)
over_byte test text bytes at stop u e h lt low t = all_goes_on test text at stop (stop + 1) (get_or bytes stop 0) h (pass_byte text bytes stop u e h.passed.place lt low) t

plain_no_line : (c : ℕ) → IsTrue (is_plain c) → IsTrue (not (is_line_terminator c))
plain_no_line c h = grind (arith, nat_tests)

plain_no_star : (c : ℕ) → IsTrue (is_plain c) → one_of "*" c ≡ false
plain_no_star c h = grind (arith, nat_tests)

-- plain characters end no line
pub plain_lines : (text : List ℕ) (at stop more : ℕ) → AllPass (λ c. not (is_line_terminator c)) text at stop → AllPass is_plain text stop more →
    AllPass (λ c. not (is_line_terminator c)) text at more
plain_lines text at stop more h p =
    record {
      word = h.word ++ p.word;
      passed = passed_on text at stop more h.word p.word h.passed p.passed;
      all = all_append (λ c. not (is_line_terminator c)) h.word p.word h.all (all_weaker is_plain (λ c. not (is_line_terminator c)) plain_no_line p.word p.all);
    }

-- a comment's rest behind its `/*`, as far as it has been read
pub record InBlock (text : List ℕ) (at stop : ℕ) (has_line_break starred : Bool) : Type 0 where
  pub word : List ℕ
  pub passed : Passed text at stop word
  pub unclosed : (more : List ℕ) → closes_from false (word ++ more) ≡ closes_from starred more
  pub breaks : has_line_break ≡ list_any is_line_terminator word

-- ---- comments of many lines

-- two texts that are the front of one list: one is a front of the other
pub fronts : (v w a b : List ℕ) → v ++ a ≡ w ++ b → ((m : List ℕ) × (w ≡ v ++ m) × (a ≡ m ++ b)) ⊎ ((m : List ℕ) × (v ≡ w ++ m) × (b ≡ m ++ a))
fronts [] w a b e = inl (w, refl, e)
fronts (c ∷ v) [] a b e = inr (c ∷ v, refl, sym e)
fronts (c ∷ v) (d ∷ w) a b e = grow (let q : c ≡ d = cc in q) (fronts v w a b cc) where
  grow : c ≡ d → ((m : List ℕ) × (w ≡ v ++ m) × (a ≡ m ++ b)) ⊎ ((m : List ℕ) × (v ≡ w ++ m) × (b ≡ m ++ a)) →
      ((m : List ℕ) × (d ∷ w ≡ (c ∷ v) ++ m) × (a ≡ m ++ b)) ⊎ ((m : List ℕ) × (c ∷ v ≡ (d ∷ w) ++ m) × (b ≡ m ++ a))
  grow r (inl h) = inl (h.0, (let q = h.1 in cc), h.2)
  grow r (inr h) = inr (h.0, (let q = h.1 in cc), h.2)

-- What closes has no front that closes. So where a text goes on by a state that can still close, and nothing closes from that state on
-- within what stands behind, no front of the whole closes.
pub no_front : (F G : List ℕ → Bool) (word behind tail : List ℕ) → ((m : List ℕ) → F (word ++ m) ≡ G m) →
    ((w m : List ℕ) → IsTrue (F w) → IsTrue (F (w ++ m)) → m ≡ []) → IsTrue (G tail) →
    ((m rest : List ℕ) → behind ≡ m ++ rest → IsTrue (G m) → ⊥) → (w rest : List ℕ) → word ++ behind ≡ w ++ rest → IsTrue (F w) → ⊥
no_front F G word behind tail same closed can none w rest e h =
    elim (fronts word w behind rest e) [
      | inl p ↦ none p.0 rest p.2 (subst IsTrue (ap F p.1 ∙ same p.0) h)
      | inr p ↦
          let whole : F (word ++ tail) ≡ F (w ++ (p.0 ++ tail)) = ap F (ap (λ x. x ++ tail) p.1 ∙ append_assoc w p.0 tail) in
          let nil = closed w (p.0 ++ tail) h (subst IsTrue (sym (same tail) ∙ whole) can) in
          none [] behind refl (subst IsTrue (ap F (sym (append-nil word ∙ p.1 ∙ ap (λ x. w ++ x) (left_nil p.0 tail nil) ∙ append-nil w)) ∙ same []) h)
    ] where
      left_nil : (a b : List ℕ) → a ++ b ≡ [] → a ≡ []
      left_nil [] b e = refl
      left_nil (c ∷ a) b e = cc

pub nil_only : (cs : List ℕ) → IsTrue (is_empty cs) → cs ≡ []
nil_only [] h = refl
nil_only (c ∷ cs) h = absurd (true_false _ h refl)

pub right_nil : (w m : List ℕ) → w ≡ [] → w ++ m ≡ [] → m ≡ []
right_nil w m e k = let q : w ++ m ≡ [] ++ m = ap (λ x. x ++ m) e in sym q ∙ k

pub closed_once : (s : Bool) (w m : List ℕ) → IsTrue (closes_from s w) → IsTrue (closes_from s (w ++ m)) → m ≡ []
closed_once s [] m h k = absurd (true_false _ h refl)
closed_once s (c ∷ w) m h k = by_test (s && one_of "/" c) (closes_from (one_of "*" c) w) (closes_from (one_of "*" c) (w ++ m)) h k (λ a b. closed_once (one_of "*" c) w m a b) where
  by_test : (t a b : Bool) → IsTrue (if t then is_empty w else a) → IsTrue (if t then is_empty (w ++ m) else b) → (IsTrue a → IsTrue b → m ≡ []) → m ≡ []
  by_test true a b h k f = right_nil w m (nil_only w h) (nil_only (w ++ m) k)
  by_test false a b h k f = f h k

-- the end of a comment, as `Comments` says it
pub closes_same : (c : ℕ) (cs : List ℕ) → closes_comment (c ∷ cs) ≡ closes_from (one_of "*" c) cs
closes_same c [] = refl
closes_same c (d ∷ []) = two (one_of "*" c && one_of "/" d) where
  two : (a : Bool) → a ≡ (if a then true else false)
  two true = refl
  two false = refl
closes_same c (d ∷ e ∷ cs) = ap (λ x. not (one_of "*" c && one_of "/" d) && x) (closes_same d (e ∷ cs)) ∙ more (one_of "*" c && one_of "/" d) (closes_from (one_of "*" d) (e ∷ cs)) where
  more : (a b : Bool) → (not a && b) ≡ (if a then false else b)
  more true b = refl
  more false b = refl

none_any : (test : ℕ → Bool) (w : List ℕ) → IsTrue (list_all (λ c. not (test c)) w) → list_any test w ≡ false
none_any test [] h = refl
none_any test (c ∷ w) h = step (test c) (list_all (λ d. not (test d)) w) (list_any test w) h (none_any test w) where
  step : (a b d : Bool) → IsTrue (not a && b) → (IsTrue b → d ≡ false) → (a || d) ≡ false
  step true b d h f = absurd (true_false _ h refl)
  step false b d h f = f h

-- ---- the turns of the loop over a comment's rest

pub block_begins : (text : List ℕ) (at : ℕ) → IsPlace text at → InBlock text at at false false
block_begins text at p = record { word = []; passed = passed_none text at p; unclosed = λ more. refl; breaks = refl }

one_more : (has_line_break : Bool) (test : ℕ → Bool) (word : List ℕ) (c : ℕ) → has_line_break ≡ list_any test word → (has_line_break || test c) ≡ list_any test (word ++ c ∷ [])
one_more has_line_break test word c e = ap (λ x. x || test c) e ∙ ap (λ x. list_any test word || x) (or_false (test c)) ∙ sym (any_append test word (c ∷ [])) where
  or_false : (a : Bool) → a ≡ (a || false)
  or_false true = refl
  or_false false = refl

-- over a character that doesn't close it
pub block_goes_on : (text : List ℕ) (at stop more c : ℕ) (has_line_break starred : Bool) → InBlock text at stop has_line_break starred → Passed text stop more (c ∷ []) →
    (starred && one_of "/" c) ≡ false → InBlock text at more (has_line_break || is_line_terminator c) (one_of "*" c)
block_goes_on text at stop more c has_line_break starred h p t =
    record {
      word = h.word ++ c ∷ [];
      passed = passed_on text at stop more h.word (c ∷ []) h.passed p;
      unclosed = λ m. ap (closes_from false) (append_assoc h.word (c ∷ []) m) ∙ h.unclosed (c ∷ m)
          ∙ ap (λ b. if b then is_empty m else closes_from (one_of "*" c) m) t;
      breaks = one_more has_line_break is_line_terminator h.word c h.breaks;
    }

-- over plain characters, unless `*` stands before them
pub block_plain : (text : List ℕ) (at stop more : ℕ) (has_line_break starred : Bool) → InBlock text at stop has_line_break starred → AllPass is_plain text stop more →
    (IsTrue starred → more ≡ stop) → InBlock text at more has_line_break starred
block_plain text at stop more has_line_break true h p e = subst (λ n. InBlock text at n has_line_break true) (sym (e refl)) h
block_plain text at stop more has_line_break false h p e =
    record {
      word = h.word ++ p.word;
      passed = passed_on text at stop more h.word p.word h.passed p.passed;
      unclosed = λ m. ap (closes_from false) (append_assoc h.word p.word m) ∙ h.unclosed (p.word ++ m) ∙ passes p.word m p.all;
      breaks = h.breaks ∙ none_more (list_any is_line_terminator h.word) ∙ ap (λ x. list_any is_line_terminator h.word || x) (sym (none_any is_line_terminator p.word (all_weaker is_plain (λ c. not (is_line_terminator c)) plain_no_line p.word p.all)))
          ∙ sym (any_append is_line_terminator h.word p.word);
    } where
      none_more : (a : Bool) → a ≡ (a || false)
      none_more true = refl
      none_more false = refl

      first : (a d : Bool) → IsTrue (a && d) → IsTrue a
      first true d h = refl
      first false d h = h

      rest : (a d : Bool) → IsTrue (a && d) → IsTrue d
      rest true d h = h
      rest false d h = cc

      passes : (w m : List ℕ) → IsTrue (list_all is_plain w) → closes_from false (w ++ m) ≡ closes_from false m
      passes [] m h = refl
      passes (c ∷ w) m h =
          ap (λ s. closes_from s (w ++ m)) (plain_no_star c (first (is_plain c) (list_all is_plain w) h)) ∙ passes w m (rest (is_plain c) (list_all is_plain w) h)

-- over the `/` that closes it
pub block_closes : (text : List ℕ) (at stop more c : ℕ) (has_line_break starred : Bool) → InBlock text at stop has_line_break starred → Passed text stop more (c ∷ []) →
    (starred && one_of "/" c) ≡ true → IsBlockRest text at more (has_line_break || is_line_terminator c)
block_closes text at stop more c has_line_break starred h p t =
    let e = h.unclosed (c ∷ []) ∙ ap (λ b. if b then true else closes_from (one_of "*" c) []) t in
    record {
      word = h.word ++ c ∷ [];
      passed = passed_on text at stop more h.word (c ∷ []) h.passed p;
      closes = subst IsTrue (sym e) refl;
      breaks = one_more has_line_break is_line_terminator h.word c h.breaks;
    }

-- at the end of the text none closes
pub block_ends : (text : List ℕ) (at stop : ℕ) (has_line_break starred : Bool) → InBlock text at stop has_line_break starred → behind text stop ≡ [] → NoBlockRest text at
block_ends text at stop has_line_break starred h e = λ w rest q k.
    no_front (closes_from false) (closes_from starred) h.word [] (codes_end starred) h.unclosed (closed_once false) (can starred)
    (λ m r d g. none m r d g) w rest (sym (h.passed.split ∙ ap (λ x. h.word ++ x) e) ∙ q) k where
      codes_end : Bool → List ℕ
      codes_end b = 0x2A ∷ 0x2F ∷ []

      can : (b : Bool) → IsTrue (closes_from b (0x2A ∷ 0x2F ∷ []))
      can true = refl
      can false = refl

      none : (m r : List ℕ) → [] ≡ m ++ r → IsTrue (closes_from starred m) → ⊥
      none [] r d g = true_false _ g refl
      none (c ∷ m) r d g = cc

-- ---- comments behind their `/`

empty_or_begins : (cs : List ℕ) → IsFalse (begins_with (λ c. not (is_line_terminator c)) cs) → IsTrue (is_empty cs || begins_with is_line_terminator cs)
empty_or_begins [] h = refl
empty_or_begins (c ∷ cs) h = twice (is_line_terminator c) h where
  twice : (a : Bool) → IsFalse (not a) → IsTrue a
  twice true h = refl
  twice false h = sym h

-- a comment up to the end of the line
pub line_rest : (text : List ℕ) (at start stop : ℕ) → Passed text at start (0x2F ∷ []) → IsRun (λ c. not (is_line_terminator c)) text start stop →
    IsCommentRest text at stop false
line_rest text at start stop p r =
    let n = none_any is_line_terminator r.run.word r.run.all in
    record {
      word = 0x2F ∷ r.run.word;
      passed = passed_on text at start stop (0x2F ∷ []) r.run.word p r.run.passed;
      comment = line (list_any is_line_terminator r.run.word) (is_empty (behind text stop) || begins_with is_line_terminator (behind text stop)) (is_block_comment (0x2F ∷ 0x2F ∷ r.run.word)) n (empty_or_begins (behind text stop) r.ends);
      breaks = sym n;
    } where
      line : (a b d : Bool) → a ≡ false → IsTrue b → IsTrue ((not a && b) || d)
      line a b d e h = grind (arith, nat_tests)

-- a comment up to its `*/`
pub block_rest_comment : (text : List ℕ) (at start stop : ℕ) (has_line_break : Bool) → Passed text at start (0x2A ∷ []) → IsBlockRest text start stop has_line_break →
    IsCommentRest text at stop has_line_break
block_rest_comment text at start stop has_line_break p r =
    record {
      word = 0x2A ∷ r.word;
      passed = passed_on text at start stop (0x2A ∷ []) r.word p r.passed;
      comment = closes r.word r.closes;
      breaks = r.breaks;
    } where
      closes : (w : List ℕ) → IsTrue (closes_from false w) → IsTrue (is_comment (0x2F ∷ 0x2A ∷ w) (behind text stop))
      closes [] h = absurd (true_false _ h refl)
      closes (c ∷ w) h = subst IsTrue (sym (closes_same c w)) (first c w h) where
        first : (c : ℕ) (w : List ℕ) → IsTrue (closes_from false (c ∷ w)) → IsTrue (closes_from (one_of "*" c) w)
        first c w h = h

-- none where no `*/` follows
pub no_block_comment : (text : List ℕ) (at start : ℕ) → Passed text at start (0x2A ∷ []) → NoBlockRest text start → NoCommentRest text at
no_block_comment text at start p none = λ w rest e h. at_star w rest (sym p.split ∙ e) h where
  at_star : (w rest : List ℕ) → 0x2A ∷ behind text start ≡ w ++ rest → IsTrue (is_comment (0x2F ∷ w) rest) → ⊥
  at_star [] rest e h = true_false _ h refl
  at_star (c ∷ []) rest e h = let q : c ≡ 0x2A = cc in true_false _ (subst (λ x. IsTrue (is_comment (0x2F ∷ x ∷ []) rest)) q h) refl
  at_star (c ∷ d ∷ w) rest e h =
      let q : c ≡ 0x2A = cc in
      let r : behind text start ≡ (d ∷ w) ++ rest = cc in
      none (d ∷ w) rest r (subst IsTrue (closes_same d w) (subst (λ x. IsTrue (is_comment (0x2F ∷ x ∷ d ∷ w) rest)) q h))

-- ---- separators

-- separators with more behind them
pub separators_on : (gap more rest : List ℕ) → Separators gap (more ++ rest) → Separators more rest → Separators (gap ++ more) rest
separators_on gap more rest s t = on gap (more ++ rest) s refl where
  on : (gap tail : List ℕ) → Separators gap tail → tail ≡ more ++ rest → Separators (gap ++ more) rest
  on gap tail nothing e = t
  on gap tail (blank {c = c} {gap = g} h s) e = blank h (on g tail s e)
  on gap tail (comment {gap = g} body behind q h s) e =
      comment body (behind ++ more) (ap (λ x. x ++ more) q ∙ append_assoc body behind more)
      (subst (λ x. IsTrue (is_comment body x)) (ap (λ x. behind ++ x) e ∙ sym (append_assoc behind more rest)) h) (on behind tail s e)

pub gap_begins : (text : List ℕ) (at : ℕ) → IsPlace text at → IsGap text at at false
gap_begins text at p = record { gap = []; passed = passed_none text at p; separated = nothing; breaks = refl }

pub gap_goes_on : (text : List ℕ) (at stop more : ℕ) (has_line_break new : Bool) → IsGap text at stop has_line_break → IsSeparator text stop more new → IsGap text at more (has_line_break || new)
gap_goes_on text at stop more has_line_break new g s =
    record {
      gap = g.gap ++ s.word;
      passed = passed_on text at stop more g.gap s.word g.passed s.passed;
      separated = separators_on g.gap s.word (behind text more) (subst (λ x. Separators g.gap x) s.passed.split g.separated) s.separated;
      breaks = ap (λ x. x || new) g.breaks ∙ ap (λ x. list_any is_line_terminator g.gap || x) s.breaks ∙ sym (any_append is_line_terminator g.gap s.word);
    }

abbrev pub is_blank : ℕ → Bool
is_blank c = is_white_space c || is_line_terminator c

pub blank_separator : (text : List ℕ) (at stop c : ℕ) → Passed text at stop (c ∷ []) → IsTrue (is_blank c) → IsSeparator text at stop (is_line_terminator c)
blank_separator text at stop c p h = record { word = c ∷ []; passed = p; separated = blank h nothing; breaks = or_false (is_line_terminator c) } where
  or_false : (a : Bool) → a ≡ (a || false)
  or_false true = refl
  or_false false = refl

-- over a blank
pub blank_goes_on : (text : List ℕ) (at stop more c : ℕ) (has_line_break : Bool) → IsGap text at stop has_line_break → Passed text stop more (c ∷ []) → IsTrue (is_blank c) →
    IsGap text at more (has_line_break || is_line_terminator c)
blank_goes_on text at stop more c has_line_break g p h = gap_goes_on text at stop more has_line_break (is_line_terminator c) g (blank_separator text stop more c p h)

-- over a byte that is a space or a tab
pub over_space : (text bytes : List ℕ) (at stop : ℕ) → IsUtf8 text → bytes ≡ text → IsGap text at stop false → stop < length bytes → ((get_or bytes stop 0 == 9) || (get_or bytes stop 0 == 32)) ≡ true →
    IsGap text at (stop + 1) false
over_space text bytes at stop u e g lt s =
    let c = get_or bytes stop 0 in
    subst (λ b. IsGap text at (stop + 1) b) (no_line c s)
    (blank_goes_on text at stop (stop + 1) c false g (pass_byte text bytes stop u e g.passed.place lt (low c s)) (white c s)) where
      no_line : (c : ℕ) → ((c == 9) || (c == 32)) ≡ true → is_line_terminator c ≡ false
      no_line c s = grind (arith, nat_tests)

      low : (c : ℕ) → ((c == 9) || (c == 32)) ≡ true → c < 128
      low c s = grind (arith, nat_tests)

      white : (c : ℕ) → ((c == 9) || (c == 32)) ≡ true → IsTrue (is_blank c)
      white c s = grind (arith, nat_tests)

-- separators behind separators
pub gap_joins : (text : List ℕ) (at stop more : ℕ) (has_line_break new : Bool) → IsGap text at stop has_line_break → IsGap text stop more new → IsGap text at more (has_line_break || new)
gap_joins text at stop more has_line_break new g s =
    gap_goes_on text at stop more has_line_break new g (record { word = s.gap; passed = s.passed; separated = s.separated; breaks = s.breaks })

-- spaces and tabs behind separators
pub gap_spaces : (text : List ℕ) (at stop more : ℕ) (has_line_break : Bool) → IsGap text at stop has_line_break → IsGap text stop more false → IsGap text at more has_line_break
gap_spaces text at stop more has_line_break g s = subst (λ b. IsGap text at more b) (or_false has_line_break) (gap_joins text at stop more has_line_break false g s) where
  or_false : (a : Bool) → (a || false) ≡ a
  or_false true = refl
  or_false false = refl

pub gap_shrinks : (text : List ℕ) (at stop more : ℕ) (has_line_break : Bool) → at < stop → IsGap text stop more has_line_break → length text - more < length text - at
gap_shrinks text at stop more has_line_break lt g = let o = passed_ordered text stop more g.gap g.passed in let i = g.passed.place.0 in omega arith

pub comment_separator : (text : List ℕ) (at start stop : ℕ) (has_line_break : Bool) → Passed text at start (0x2F ∷ []) → IsCommentRest text start stop has_line_break →
    IsSeparator text at stop has_line_break
comment_separator text at start stop has_line_break p r =
    record {
      word = 0x2F ∷ r.word;
      passed = passed_on text at start stop (0x2F ∷ []) r.word p r.passed;
      separated = comment (0x2F ∷ r.word) [] (sym (append-nil (0x2F ∷ r.word))) r.comment nothing;
      breaks = r.breaks;
    }

-- a comment begins with `/`
pub begins_slash : (word rest : List ℕ) → IsTrue (is_comment word rest) → (w : List ℕ) × (word ≡ 0x2F ∷ w)
begins_slash [] rest h = absurd (true_false _ h refl)
begins_slash (c ∷ []) rest h = absurd (tests (one_of "/" c) (is_empty rest || begins_with is_line_terminator rest) h) where
  tests : (a b : Bool) → IsTrue ((((a && false) && true) && b) || false) → ⊥
  tests a b h = grind (arith, nat_tests)
begins_slash (c ∷ d ∷ w) rest h =
    (d ∷ w, let q : c ≡ 0x2F = tests c (one_of "/" d) (not (list_any is_line_terminator (d ∷ w))) (is_empty rest || begins_with is_line_terminator rest) (one_of "*" d) (closes_comment w) h in cc) where
      tests : (c : ℕ) (a b e f g : Bool) → IsTrue ((((one_of "/" c && a) && b) && e) || ((one_of "/" c && f) && g)) → c ≡ 0x2F
      tests c a b e f g h = grind (arith, nat_tests)

pub solid_slash : (text : List ℕ) (at start : ℕ) → Passed text at start (0x2F ∷ []) → NoCommentRest text start → IsSolid (behind text at)
solid_slash text at start p none =
    subst IsSolid (sym p.split) (record { no_blank = refl; no_comment = λ w r q h. no w r q h }) where
      no : (w r : List ℕ) → 0x2F ∷ behind text start ≡ w ++ r → IsTrue (is_comment w r) → ⊥
      no [] r q h = true_false _ h refl
      no (c ∷ w) r q h = let e : c ≡ 0x2F = cc in let k : behind text start ≡ w ++ r = cc in none w r k (subst (λ x. IsTrue (is_comment (x ∷ w) r)) e h)

pub solid_other : (text : List ℕ) (at stop c : ℕ) → Passed text at stop (c ∷ []) → is_blank c ≡ false → one_of "/" c ≡ false → IsSolid (behind text at)
solid_other text at stop c p t s =
    subst IsSolid (sym p.split) (record { no_blank = t; no_comment = λ w r q h. no w r q h }) where
      no : (w r : List ℕ) → c ∷ behind text stop ≡ w ++ r → IsTrue (is_comment w r) → ⊥
      no w r q h = let k = begins_slash w r h in slash k.0 (sym (ap (λ x. x ++ r) k.1) ∙ sym q) where
        slash : (v : List ℕ) → 0x2F ∷ v ++ r ≡ c ∷ behind text stop → ⊥
        slash v e = let q : c ≡ 0x2F = cc in true_false (one_of "/" c) (subst (λ x. IsTrue (one_of "/" x)) (sym q) refl) s

-- what begins no separator, a character of ASCII
pub solid_none : (text : List ℕ) (at stop c : ℕ) → Passed text at stop (c ∷ []) → not (one_of "/" c || is_white_space c || is_line_terminator c) ≡ true → IsSolid (behind text at)
solid_none text at stop c p h = solid_other text at stop c p (blank (one_of "/" c) (is_white_space c) (is_line_terminator c) h) (slash (one_of "/" c) (is_white_space c) (is_line_terminator c) h) where
  blank : (a b d : Bool) → not (a || b || d) ≡ true → (b || d) ≡ false
  blank a b d h = grind (arith, nat_tests)

  slash : (a b d : Bool) → not (a || b || d) ≡ true → a ≡ false
  slash a b d h = grind (arith, nat_tests)
