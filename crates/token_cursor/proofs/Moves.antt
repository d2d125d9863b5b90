-- A token that begins with neither `/` nor `}` is read by every goal, and where one that does is read, the goal Div reads one too.
use Rattle.std.proofs.Common.{◌≡◌, ◌≢◌, ℕ, ◌+◌, ◌<◌, ◌≤◌, Bool, true, false, not, ◌&&◌, ◌||◌, ◌==◌, List, [], ◌∷◌, ◌++◌, length, IsTrue, IsFalse, refl, sym, ap, ◌∙◌, subst, append_assoc, arith, inl, inr, ◌⊎◌}
use Rattle.std.specs.Prelude.{encode_utf8_all, nat_eq, slice_index_or, codes, if◌then◌else◌}
use Rattle.std.specs.Str.{IsUtf8, bytes_eq}
use Rattle.std.proofs.Math.Utf8.{scalars}
use Rattle.std.proofs.lemmas.Str.{chars_from_encodes, encode_ascii, IsCharBoundary-start, len_utf8_bounds}
use Rattle.std.proofs.lemmas.Bool.{cases_lt, eqb-true}
use Rattle.std.proofs.lemmas.Bool.Decides.{nat_tests}
use Rattle.source_text.specs.Source.{IsPlace}
use Rattle.tokens.specs.Comments.{begins_comment, Separators}
use Rattle.tokens.specs.declared.token.TokenClass.{TokenClass as LexicalClass}
use Rattle.tokens.specs.declared.token.TokenClass.TheVariants.{IdentifierName, Punctuator, NumericLiteral, StringLiteral, Template, End}
use Rattle.tokens.specs.declared.token.Goal.{Goal}
use Rattle.tokens.specs.declared.token.Goal.TheVariants.{Div}
use Rattle.tokens.specs.Lexical.{is_of, is_at, none_longer, is_token}
use Rattle.tokens.specs.Goals.{allows}
use Rattle.tokens.specs.Tokens.{LexicalToken, IsTokenAt, size}
use Rattle.tokens.specs.Reading.{behind, Reads}
use Rattle.tokens.proofs.Beginnings.{true_false}
use Rattle.tokens.proofs.Bounds.{rest_of_word, token_places}
use Rattle.tokens.proofs.Classes.{token_is}
use Rattle.tokens.proofs.TokenUniqueness.{determined}
use Rattle.tokens.proofs.Longest.{none_is_longer}
use Rattle.tokens.proofs.PassedCharacters.{size_one, size_append, pass_ascii}
use Rattle.tokens.proofs.Utf8Tokens.{word_scalars}
use Rattle.token_cursor.specs.CursorState.{depends}

-- the first byte of a text is its first character where either is an ASCII one
low_first : (c : ℕ) (cs : List ℕ) → c < 128 → slice_index_or (encode_utf8_all (c ∷ cs)) 0 0 ≡ c
low_first c cs h = ap (λ x. slice_index_or (x ++ encode_utf8_all cs) 0 0) (encode_ascii c h)

first_low : (c : ℕ) (cs : List ℕ) → scalars (c ∷ cs) ≡ true → slice_index_or (encode_utf8_all (c ∷ cs)) 0 0 < 128 → c < 128
first_low c cs s h =
    let word = c ∷ cs in
    let text = encode_utf8_all word in
    let utf8 : IsUtf8 text = (word, (s, refl)) in
    let n = size_append (c ∷ []) cs in
    let m = size_one c in
    let k = (len_utf8_bounds c).0 in
    let there : 0 < length text = omega arith in
    let passed = pass_ascii text 0 utf8 (IsCharBoundary-start text utf8) there h in
    let same : c ∷ cs ≡ slice_index_or text 0 0 ∷ behind text (0 + 1) = chars_from_encodes word text utf8 refl ∙ passed.split in
    let e : c ≡ slice_index_or text 0 0 = cc in
    omega arith

-- what the first byte says of the first character
same_first : (c : ℕ) (cs : List ℕ) → scalars (c ∷ cs) ≡ true → depends (encode_utf8_all (c ∷ cs)) ≡ ((c == 47) || (c == 125))
same_first c cs s = by (slice_index_or (encode_utf8_all (c ∷ cs)) 0 0) (cases_lt c 128) (low_first c cs) (first_low c cs s) where
  by : (b : ℕ) → (c < 128) ⊎ (128 ≤ c) → (c < 128 → b ≡ c) → (b < 128 → c < 128) → (nat_eq b 47 || nat_eq b 125) ≡ ((c == 47) || (c == 125))
  by b (inl lt) f g = let e = f lt in grind (arith, nat_tests)
  by b (inr ge) f g = high b (cases_lt b 128) g where
    high : (b : ℕ) → (b < 128) ⊎ (128 ≤ b) → (b < 128 → c < 128) → (nat_eq b 47 || nat_eq b 125) ≡ ((c == 47) || (c == 125))
    high b (inl lt) g = let l = g lt in absurd (omega arith)
    high b (inr hi) g = grind (arith, nat_tests)

-- every goal reads a word that begins with neither
free_word : (goal : Goal) (class : LexicalClass) (word : List ℕ) → scalars word ≡ true → depends (encode_utf8_all word) ≡ false → IsTrue (allows goal class word)
free_word goal class [] s h = refl
free_word goal class (c ∷ cs) s h = plain (c == 47) (c == 125) _ _ (sym (same_first c cs s) ∙ h) where
  plain : (a b x y : Bool) → (a || b) ≡ false → IsTrue (if a then x else if b then y else true)
  plain a b x y e = grind (arith, nat_tests)

-- a token that begins with neither is read by every goal
pub moved : (text : List ℕ) (goal other : Goal) (at : ℕ) (t : LexicalToken) → IsUtf8 text → IsPlace text at → depends t.text ≡ false → Reads text goal at t → Reads text other at t
moved text goal other at t u p d h = record {
  gap = h.gap;
  word = h.word;
  split = h.split;
  separated = h.separated;
  no_comment = h.no_comment;
  longest = h.longest;
  allowed = free_word other t.class h.word (word_scalars text goal at t u p h) (ap depends (sym h.text) ∙ d);
  text = h.text;
  start = h.start;
  stop = h.stop;
  after_break = h.after_break;
}

-- then one alone is read there, whatever the goals
pub moved_same : (text : List ℕ) (goal other : Goal) (at : ℕ) (a b : LexicalToken) → IsUtf8 text → IsPlace text at → depends a.text ≡ false → Reads text goal at a → Reads text other at b → a ≡ b
moved_same text goal other at a b u p d h k = (determined other at (behind text at) a b (behind text a.stop) (behind text b.stop) (moved text goal other at a u p d h) k).0

-- a word that begins with `/` or `}`
begins_either : (word : List ℕ) → scalars word ≡ true → depends (encode_utf8_all word) ≡ true → (cs : List ℕ) × ((word ≡ 47 ∷ cs) ⊎ (word ≡ 125 ∷ cs))
begins_either [] s h = cc
begins_either (c ∷ cs) s h = by (c == 47) (c == 125) refl refl (sym (same_first c cs s) ∙ h) where
  by : (a b : Bool) → (c == 47) ≡ a → (c == 125) ≡ b → (a || b) ≡ true → (ds : List ℕ) × ((c ∷ cs ≡ 47 ∷ ds) ⊎ (c ∷ cs ≡ 125 ∷ ds))
  by true b p q e = (cs, inl (ap (λ x. x ∷ cs) (eqb-true c 47 p)))
  by false true p q e = (cs, inr (ap (λ x. x ∷ cs) (eqb-true c 125 q)))
  by false false p q e = cc

-- the punctuator that stands in front of a text
record Mark (cs : List ℕ) : Type 0 where
  word : List ℕ
  rest : List ℕ
  split : cs ≡ word ++ rest
  longest : IsTrue (is_token Punctuator word rest)
  allowed : IsTrue (allows Div Punctuator word)
  first : (word ≡ codes "}") ⊎ ((ws : List ℕ) × (word ≡ 47 ∷ ws))

stands : (word rest : List ℕ) → IsTrue (is_at Punctuator word rest) → ((c : ℕ) (more behind : List ℕ) → rest ≡ c ∷ more ++ behind → IsFalse (is_at Punctuator (word ++ c ∷ more) behind)) → IsTrue (is_token Punctuator word rest)
stands word rest h longer = whole (is_at Punctuator word rest) (none_longer Punctuator word rest) h (none_is_longer Punctuator word rest longer) where
  whole : (a n : Bool) → IsTrue a → IsTrue n → IsTrue ((a && n) && true)
  whole a n h k = grind (arith, nat_tests)

brace : (rest : List ℕ) → Mark (125 ∷ rest)
brace rest = record { word = codes "}"; rest = rest; split = refl; longest = stands (codes "}") rest refl (λ c more behind e. refl); allowed = refl; first = inl refl }

divided : (rest : List ℕ) → Mark (47 ∷ 61 ∷ rest)
divided rest = record { word = codes "/="; rest = rest; split = refl; longest = stands (codes "/=") rest refl (λ c more behind e. refl); allowed = refl; first = inr (61 ∷ [], refl) }

not_longer : (c : ℕ) (more behind : List ℕ) → (c == 61) ≡ false → IsFalse (is_at Punctuator (47 ∷ c ∷ more) behind)
not_longer c more behind h = by (c == 61) (bytes_eq more []) h where
  by : (a b : Bool) → a ≡ false → IsFalse (((a && b) || false) && true)
  by a b e = grind (arith, nat_tests)

slash : (rest : List ℕ) → Mark (47 ∷ rest)
slash [] = record { word = codes "/"; rest = []; split = refl; longest = refl; allowed = refl; first = inr ([], refl) }
slash (d ∷ rest) = by (d == 61) refl where
  by : (b : Bool) → (d == 61) ≡ b → Mark (47 ∷ d ∷ rest)
  by true e = subst (λ x. Mark (47 ∷ x ∷ rest)) (sym (eqb-true d 61 e)) (divided rest)
  by false e = record {
    word = codes "/";
    rest = d ∷ rest;
    split = refl;
    longest = stands (codes "/") (d ∷ rest) refl (λ c more behind q. (let same : d ≡ c = cc in not_longer c more behind (ap (λ x. x == 61) (sym same) ∙ e)));
    allowed = refl;
    first = inr ([], refl);
  }

-- where a goal reads a token that begins with `/` or `}`, Div reads a punctuator that begins so
pub record DivReads (text : List ℕ) (at : ℕ) (a : LexicalToken) : Type 0 where
  pub token : LexicalToken
  pub read : Reads text Div at token
  pub break : token.after_break ≡ a.after_break
  pub class : token.class ≡ Punctuator
  pub goes_on : a.class ≢ End
  pub first : (token.text ≡ codes "}") ⊎ ((slice_index_or a.text 0 0 ≡ 47) × (slice_index_or token.text 0 0 ≡ 47))

no_end : (class : LexicalClass) (c : ℕ) (cs : List ℕ) → IsTrue (is_of class (c ∷ cs)) → class ≢ End
no_end End c cs h e = true_false _ h refl
no_end IdentifierName c cs h e = cc
no_end Punctuator c cs h e = cc
no_end NumericLiteral c cs h e = cc
no_end StringLiteral c cs h e = cc
no_end Template c cs h e = cc
no_end LexicalClass.RegularExpressionLiteral c cs h e = cc
no_end LexicalClass.PrivateName c cs h e = cc
no_end LexicalClass.Keyword c cs h e = cc

brace_text : encode_utf8_all (codes "}") ≡ codes "}"
brace_text = ap (λ x. x ++ encode_utf8_all []) (encode_ascii 125 (omega arith))

-- the punctuator stands where the token does
mark_read : (text : List ℕ) (goal : Goal) (at : ℕ) (a : LexicalToken) → IsUtf8 text → IsPlace text at → (h : Reads text goal at a) → (m : Mark (h.word ++ behind text a.stop)) →
    Reads text Div at (record { class = Punctuator; text = encode_utf8_all m.word; start = a.start; stop = a.start + size m.word; after_break = a.after_break })
mark_read text goal at a u p h m =
    let front : behind text at ≡ h.gap ++ (h.word ++ behind text a.stop) = h.split ∙ append_assoc h.gap h.word (behind text a.stop) in
    let here : behind text a.start ≡ h.word ++ behind text a.stop =
    subst (λ n. behind text n ≡ h.word ++ behind text a.stop) (sym h.start) (rest_of_word text at h.gap (h.word ++ behind text a.stop) u p front) in
    let rest : behind text (a.start + size m.word) ≡ m.rest = rest_of_word text a.start m.word m.rest u (token_places text goal at a u p h).0 (here ∙ m.split) in
    subst (λ r. IsTokenAt Div at (behind text at) (record { class = Punctuator; text = encode_utf8_all m.word; start = a.start; stop = a.start + size m.word; after_break = a.after_break }) r) (sym rest) (record {
      gap = h.gap;
      word = m.word;
      split = front ∙ ap (λ w. h.gap ++ w) m.split ∙ sym (append_assoc h.gap m.word m.rest);
      separated = subst (λ w. Separators h.gap w) m.split h.separated;
      no_comment = subst (λ w. IsTrue (not (begins_comment w))) m.split h.no_comment;
      longest = m.longest;
      allowed = m.allowed;
      text = refl;
      start = h.start;
      stop = refl;
      after_break = h.after_break;
    })

first_of : (a : List ℕ) (c : ℕ) (cs word : List ℕ) → c < 128 → word ≡ c ∷ cs → a ≡ encode_utf8_all word → slice_index_or a 0 0 ≡ c
first_of a c cs word low e f = ap (λ x. slice_index_or x 0 0) (f ∙ ap encode_utf8_all e) ∙ low_first c cs low

-- what Div reads there
pub div_reads : (text : List ℕ) (goal : Goal) (at : ℕ) (a : LexicalToken) → IsUtf8 text → IsPlace text at → depends a.text ≡ true → Reads text goal at a → DivReads text at a
div_reads text goal at a u p d h = by (begins_either h.word (word_scalars text goal at a u p h) (ap depends (sym h.text) ∙ d)) where
  of : (c : ℕ) (cs : List ℕ) → h.word ≡ c ∷ cs → IsTrue (is_of a.class (c ∷ cs))
  of c cs e = subst (λ w. IsTrue (is_of a.class w)) e (token_is a.class h.word (behind text a.stop) h.longest)

  made : (c : ℕ) (cs : List ℕ) → h.word ≡ c ∷ cs → (m : Mark (h.word ++ behind text a.stop)) → ((encode_utf8_all m.word ≡ codes "}") ⊎ ((slice_index_or a.text 0 0 ≡ 47) × (slice_index_or (encode_utf8_all m.word) 0 0 ≡ 47))) → DivReads text at a
  made c cs e m f = record {
    token = record { class = Punctuator; text = encode_utf8_all m.word; start = a.start; stop = a.start + size m.word; after_break = a.after_break };
    read = mark_read text goal at a u p h m;
    break = refl;
    class = refl;
    goes_on = no_end a.class c cs (of c cs e);
    first = f;
  }

  text_of : (m : Mark (h.word ++ behind text a.stop)) → (cs : List ℕ) → h.word ≡ 47 ∷ cs → (m.word ≡ codes "}") ⊎ ((ws : List ℕ) × (m.word ≡ 47 ∷ ws)) →
      (encode_utf8_all m.word ≡ codes "}") ⊎ ((slice_index_or a.text 0 0 ≡ 47) × (slice_index_or (encode_utf8_all m.word) 0 0 ≡ 47))
  text_of m cs e (inl q) = inl (ap encode_utf8_all q ∙ brace_text)
  text_of m cs e (inr q) = inr (first_of a.text 47 cs h.word (omega arith) e h.text, first_of (encode_utf8_all m.word) 47 q.0 m.word (omega arith) q.1 refl)

  brace_of : (m : Mark (h.word ++ behind text a.stop)) → (cs : List ℕ) → h.word ≡ 125 ∷ cs → (m.word ≡ codes "}") ⊎ ((ws : List ℕ) × (m.word ≡ 47 ∷ ws)) → m.word ≡ codes "}"
  brace_of m cs e (inl q) = q
  brace_of m cs e (inr q) = let z : 125 ∷ (cs ++ behind text a.stop) ≡ 47 ∷ (q.0 ++ m.rest) = sym (ap (λ w. w ++ behind text a.stop) e) ∙ m.split ∙ ap (λ w. w ++ m.rest) q.1 in cc

  by : (cs : List ℕ) × ((h.word ≡ 47 ∷ cs) ⊎ (h.word ≡ 125 ∷ cs)) → DivReads text at a
  by (cs, inl e) =
      let m : Mark (h.word ++ behind text a.stop) = subst (λ w. Mark (w ++ behind text a.stop)) (sym e) (slash (cs ++ behind text a.stop)) in
      made 47 cs e m (text_of m cs e m.first)
  by (cs, inr e) =
      let m : Mark (h.word ++ behind text a.stop) = subst (λ w. Mark (w ++ behind text a.stop)) (sym e) (brace (cs ++ behind text a.stop)) in
      made 125 cs e m (inl (ap encode_utf8_all (brace_of m cs e m.first) ∙ brace_text))
