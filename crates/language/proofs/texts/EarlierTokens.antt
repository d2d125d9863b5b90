-- What an earlier token is today: itself, or the beginning of a logical assignment.
use Rattle.std.proofs.Common.{◌≡◌, ℕ, ◌+◌, Bool, true, false, not, ◌&&◌, List, [], ◌∷◌, ◌++◌, length, refl, sym, ap, ◌∙◌, subst, arith, IsTrue, IsFalse, append_assoc, length-append}
use Rattle.std.specs.Prelude.{encode_utf8_all}
use Rattle.std.specs.Char.{encode_utf8}
use Rattle.std.specs.Str.{IsUtf8, IsCharBoundary}
use Rattle.std.proofs.lemmas.Str.{encodes-append}
use Rattle.std.proofs.lemmas.Bool.{false≢true, and_parts}
use Rattle.tokens.specs.Alphabet.{one_of, begins_with}
use Rattle.tokens.specs.Comments.{begins_comment, Separators}
use Rattle.tokens.specs.declared.token.TokenClass.{TokenClass}
use Rattle.tokens.specs.declared.token.TokenClass.TheVariants.{IdentifierName, Punctuator, NumericLiteral, StringLiteral, Template, RegularExpressionLiteral, PrivateName, Keyword, End}
use Rattle.tokens.specs.declared.token.Goal.{Goal}
use Rattle.tokens.specs.Goals.{allows}
use Rattle.tokens.specs.Lexical.{is_one_of_words, is_at, is_token}
use Rattle.tokens.specs.Tokens.{LexicalToken, size}
use Rattle.tokens.specs.Reading.{behind, any_goal}
use Rattle.tokens.specs.Earlier.{EarlierTokenAt}
use Rattle.tokens.proofs.Classes.{words_all, all_words}
use Rattle.tokens.proofs.Beginnings.{true_false}
use Rattle.tokens.proofs.Longest.{none_is_longer}
use Rattle.tokens.proofs.EarlierWords.{longer_today, meets_equals, earlier_stays}
use Rattle.language.specs.Vocabulary.{among}
use Rattle.language.specs.Token.{Token, as_read, table_text}
use Rattle.language.specs.Places.{NextIn, next_in}
use Rattle.language.specs.Earlier.{EarlierNextIn, earlier_next_in}
use Rattle.language.proofs.texts.Readings.{past}

-- the token with the `=` behind it
abbrev pub joined : Token → Token
joined t = record { class = Punctuator; text = t.text ++ 61 ∷ []; start = t.start; stop = t.stop + 1; after_break = t.after_break }

-- today another token is read, which goes on with the `=` behind the earlier one
pub record GoesOn (text : List ℕ) (s t : Token) : Type 0 where
  pub next : NextIn text any_goal s (joined t) (joined t)
  pub class : t.class ≡ Punctuator
  pub word : among t.text longer_today ≡ true
  pub equals : IsTrue (begins_with (one_of "=") (behind text t.stop))

pub data Today (text : List ℕ) (s t : Token) : Type 0 where
  as_it_is : NextIn text any_goal s t t → Today text s t
  goes_on : GoesOn text s t → Today text s t

-- the three words with `=`
joined_token : (w r : List ℕ) → IsTrue (is_one_of_words longer_today w) → IsTrue (is_token Punctuator (w ++ 61 ∷ []) r)
joined_token w r h = words_all longer_today (λ v. is_token Punctuator (v ++ 61 ∷ []) r) w every h
  where
    one : (k : ℕ) → IsTrue (is_at Punctuator (k ∷ k ∷ 61 ∷ []) r) →
        ((c : ℕ) (more behind : List ℕ) → IsFalse (is_at Punctuator (k ∷ k ∷ 61 ∷ c ∷ more) behind)) → IsTrue (is_token Punctuator (k ∷ k ∷ 61 ∷ []) r)
    one k a none = both _ _ a (none_is_longer Punctuator (k ∷ k ∷ 61 ∷ []) r (λ c more behind e. none c more behind))
      where
        both : (a n : Bool) → IsTrue a → IsTrue n → IsTrue ((a && n) && true)
        both true true h k = refl
        both true false h k = k
        both false n h k = h

    all_three : (a b c : Bool) → IsTrue a → IsTrue b → IsTrue c → IsTrue (a && (b && (c && true)))
    all_three true true true h k l = refl
    all_three true true false h k l = l
    all_three true false c h k l = k
    all_three false b c h k l = h

    every : IsTrue (all_words (λ v. is_token Punctuator (v ++ 61 ∷ []) r) longer_today)
    every = all_three _ _ _ (one 38 refl (λ c more behind. refl)) (one 124 refl (λ c more behind. refl)) (one 63 refl (λ c more behind. refl))

joined_allowed : (goal : Goal) (w : List ℕ) → IsTrue (is_one_of_words longer_today w) → IsTrue (allows goal Punctuator (w ++ 61 ∷ []))
joined_allowed goal w h = words_all longer_today (λ v. allows goal Punctuator (v ++ 61 ∷ [])) w refl h

among_bytes : (w : List ℕ) → IsTrue (is_one_of_words longer_today w) → IsTrue (among (encode_utf8_all w) longer_today)
unfolding encode_utf8
among_bytes w h = words_all longer_today (λ v. among (encode_utf8_all v) longer_today) w refl h

equals_bytes : encode_utf8_all (61 ∷ []) ≡ 61 ∷ []
unfolding encode_utf8
equals_bytes = refl

sizes : (v w : List ℕ) → size (v ++ w) ≡ size v + size w
sizes v w = ap length (encodes-append v w) ∙ length-append (encode_utf8_all v) (encode_utf8_all w)

one_byte : size (61 ∷ []) ≡ 1
one_byte = ap length equals_bytes

pub first_is : (test : ℕ → Bool) (cs : List ℕ) → IsTrue (begins_with test cs) → (c : ℕ) × (rest : List ℕ) × (cs ≡ c ∷ rest) × IsTrue (test c)
first_is test [] h = absurd (true_false _ h refl)
first_is test (c ∷ cs) h = (c, cs, refl, h)

pub equals_is : (c : ℕ) → IsTrue (one_of "=" c) → c ≡ 61
equals_is c h = grind arith

module _ (text : List ℕ) (u : IsUtf8 text) where
  abbrev pub Good : Token → Type 0
  Good s = IsCharBoundary text s.stop

  -- behind an earlier token
  past_earlier : (goal : Goal) (at : ℕ) (t : LexicalToken) (rest : List ℕ) → IsCharBoundary text at → EarlierTokenAt goal at (behind text at) t rest → IsCharBoundary text t.stop
  past_earlier goal at t rest p r =
      let s = r.start in
      let e = r.stop in
      let z = sizes r.gap r.word in
      let n : at + size (r.gap ++ r.word) ≡ t.stop = omega arith in
      subst (IsCharBoundary text) n (past text (r.gap ++ r.word) rest at u p r.split).1

  pub stays_good : (s t e : Token) → Good s → EarlierNextIn text s t e → Good e
  stays_good s t e g (earlier_next_in {t = k} goal r) = past_earlier goal s.stop k (behind text k.stop) g r

  -- today's token
  pub read_today : (s t e : Token) → Good s → EarlierNextIn text s t e → Today text s t
  read_today s t e g (earlier_next_in {t = k} goal x) = by_meeting (meets_equals k.class x.word (behind text k.stop)) refl
    where
      is_mark : (c : TokenClass) (w r : List ℕ) → meets_equals c w r ≡ true → (c ≡ Punctuator) × (IsTrue (is_one_of_words longer_today w) × IsTrue (begins_with (one_of "=") r))
      is_mark Punctuator w r h = let p = and_parts _ _ h in (refl, (p.0, p.1))
      is_mark IdentifierName w r h = absurd (false≢true h)
      is_mark NumericLiteral w r h = absurd (false≢true h)
      is_mark StringLiteral w r h = absurd (false≢true h)
      is_mark Template w r h = absurd (false≢true h)
      is_mark RegularExpressionLiteral w r h = absurd (false≢true h)
      is_mark PrivateName w r h = absurd (false≢true h)
      is_mark Keyword w r h = absurd (false≢true h)
      is_mark End w r h = absurd (false≢true h)

      by_meeting : (m : Bool) → meets_equals k.class x.word (behind text k.stop) ≡ m → Today text s (as_read k)
      by_meeting false h = as_it_is (next_in goal refl (record {
        gap = x.gap;
        word = x.word;
        split = x.split;
        separated = x.separated;
        no_comment = x.no_comment;
        longest = earlier_stays k.class x.word (behind text k.stop) x.longest h;
        allowed = x.allowed;
        text = x.text;
        start = x.start;
        stop = x.stop;
        after_break = x.after_break;
      }))
      by_meeting true h =
          let m = is_mark k.class x.word (behind text k.stop) h in
          let f = first_is (one_of "=") (behind text k.stop) m.1.1 in
          let is : behind text k.stop ≡ 61 ∷ f.1 = f.2 ∙ ap (λ c. c ∷ f.1) (equals_is f.0 f.3) in
          let over : x.word ++ behind text k.stop ≡ (x.word ++ 61 ∷ []) ++ f.1 = ap (λ r. x.word ++ r) is ∙ sym (append_assoc x.word (61 ∷ []) f.1) in
          let split : behind text s.stop ≡ x.gap ++ (x.word ++ 61 ∷ []) ++ f.1 = x.split ∙ append_assoc x.gap x.word (behind text k.stop) ∙ ap (λ r. x.gap ++ r) over ∙ sym (append_assoc x.gap (x.word ++ 61 ∷ []) f.1) in
          let st = x.start in
          let en = x.stop in
          let a = sizes x.gap (x.word ++ 61 ∷ []) in
          let b = sizes x.word (61 ∷ []) in
          let one = one_byte in
          let place : s.stop + size (x.gap ++ (x.word ++ 61 ∷ [])) ≡ k.stop + 1 = omega arith in
          let last : k.stop + 1 ≡ k.start + size (x.word ++ 61 ∷ []) = omega arith in
          let rest : f.1 ≡ behind text (k.stop + 1) = (past text (x.gap ++ (x.word ++ 61 ∷ [])) f.1 s.stop u g split).0 ∙ ap (behind text) place in
          let same : table_text k.class k.text ≡ k.text = ap (λ c. table_text c k.text) m.0 in
          goes_on (record {
            next = subst (λ v. NextIn text any_goal s (record { class = Punctuator; text = v ++ 61 ∷ []; start = k.start; stop = k.stop + 1; after_break = k.after_break }) (record { class = Punctuator; text = v ++ 61 ∷ []; start = k.start; stop = k.stop + 1; after_break = k.after_break })) (sym same)
                (next_in {t = record { class = Punctuator; text = k.text ++ 61 ∷ []; start = k.start; stop = k.stop + 1; after_break = k.after_break }} goal refl (record {
                  gap = x.gap;
                  word = x.word ++ 61 ∷ [];
                  split = split ∙ ap (λ r. x.gap ++ (x.word ++ 61 ∷ []) ++ r) rest;
                  separated = subst (λ r. Separators x.gap r) (over ∙ ap (λ r. (x.word ++ 61 ∷ []) ++ r) rest) x.separated;
                  no_comment = subst (λ r. IsTrue (not (begins_comment r))) (over ∙ ap (λ r. (x.word ++ 61 ∷ []) ++ r) rest) x.no_comment;
                  longest = joined_token x.word (behind text (k.stop + 1)) m.1.0;
                  allowed = joined_allowed goal x.word m.1.0;
                  text = ap (λ v. v ++ 61 ∷ []) x.text ∙ ap (λ v. encode_utf8_all x.word ++ v) (sym equals_bytes) ∙ sym (encodes-append x.word (61 ∷ []));
                  start = x.start;
                  stop = last;
                  after_break = x.after_break;
                }));
            class = m.0;
            word = ap (λ v. among v longer_today) (same ∙ x.text) ∙ among_bytes x.word m.1.0;
            equals = m.1.1;
          })
