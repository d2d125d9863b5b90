-- What a goal reads ahead is what is read there in the words of derivations.
use Rattle.std.proofs.Common.{◌≡◌, ◌≢◌, ℕ, Bool, true, false, List, refl, sym, ap, ◌∙◌, subst, arith}
use Rattle.std.specs.Str.{bytes_eq}
use Rattle.std.specs.Prelude.{IsTrue, cond, codes, not, encode_utf8_all, ◌&&◌, ◌||◌, if◌then◌else◌}
use Rattle.std.specs.Bool.{beq}
use Rattle.std.proofs.lemmas.Bool.{false≢true}
use Rattle.std.proofs.lemmas.Slice.Eq.{bytes_eq-Decides}
use Rattle.tokens.specs.declared.token.TokenClass.{TokenClass}
use Rattle.tokens.specs.declared.token.TokenClass.TheVariants.{IdentifierName, Punctuator, NumericLiteral, StringLiteral, Template, RegularExpressionLiteral, PrivateName, Keyword, End}
use Rattle.tokens.specs.declared.token.Goal.{Goal}
use Rattle.tokens.specs.declared.token.Goal.TheVariants as goal
use Rattle.tokens.specs.Alphabet.{one_of, begins_with}
use Rattle.tokens.specs.Templates.{raw_value}
use Rattle.tokens.specs.Goals.{allows, is_regexp, is_template_part, reads_regexps, reads_template_parts}
use Rattle.tokens.specs.Tokens.{LexicalToken, IsTokenAt}
use Rattle.tokens.specs.Reading.{any_goal, Reads as Scans}
use Rattle.language.specs.Token.{Token, table_text, as_read, same_class, is_token}
use Rattle.language.specs.Places.{NextIn, next_in}
use Rattle.language.specs.declared.Language.{Language}
use Rattle.language.specs.Vocabulary.{is, is_keyword}
use Rattle.language.specs.Languages.{is_of_2022, class_in, seen_next}
use Rattle.language.specs.Derivation.{Reads}
use Rattle.language.specs.Promises.{ReadBy}
use Rattle.language.proofs.table.Begins.{div_allows}
use Rattle.language.proofs.texts.TextOffsets.{begins_same, turned_same}
use Rattle.token_cursor.specs.SourceText.{SourceText, SeenNext, behind_in, unseen_class, unseen}
use Rattle.token_cursor.specs.CursorState.{IsAhead, NoneAhead}
use Rattle.token_cursor.specs.Seen.{ReadsHere, Sees, Misses, NameHere, NoName, is_word_class, WordHere, NoWord, SeesBy, MissesBy}
use Rattle.token_cursor.proofs.SeenTokens.{seen_determined, allows_seen, read_as_seen, unseen_again, no_keyword}

-- a goal allows by the first character alone, so a token as it is read where it allows its characters
allows_same : (g : Goal) (c : TokenClass) (v w : List ℕ) → begins_with (one_of "/") v ≡ begins_with (one_of "/") w → begins_with (one_of "}") v ≡ begins_with (one_of "}") w → allows g c v ≡ allows g c w
allows_same g c v w a b =
    ap (λ x. if x then beq (is_regexp c) (reads_regexps g) else if begins_with (one_of "}") v then beq (is_template_part c) (reads_template_parts g) else true) a
    ∙ ap (λ x. if begins_with (one_of "/") w then beq (is_regexp c) (reads_regexps g) else if x then beq (is_template_part c) (reads_template_parts g) else true) b

table_allows : (g : Goal) (c : TokenClass) (w : List ℕ) → allows g c (table_text c w) ≡ allows g c w
table_allows g Template w = allows_same g Template (raw_value w) w (turned_same 47 refl refl w) (turned_same 125 refl refl w)
table_allows g IdentifierName w = refl
table_allows g Punctuator w = refl
table_allows g NumericLiteral w = refl
table_allows g StringLiteral w = refl
table_allows g RegularExpressionLiteral w = refl
table_allows g PrivateName w = refl
table_allows g Keyword w = refl
table_allows g End w = refl

pub read_allows : (g : Goal) (t : LexicalToken) (w : List ℕ) → t.text ≡ encode_utf8_all w → allows g (as_read t).class (as_read t).text ≡ allows g t.class w
read_allows g t w e = table_allows g t.class t.text ∙ ap (allows g t.class) e ∙ allows_same g t.class (encode_utf8_all w) w (begins_same 47 (omega arith) w) (begins_same 125 (omega arith) w)

-- the same token, by another goal that allows it
pub by_goal : {at : ℕ} {cs : List ℕ} {g : Goal} {t : LexicalToken} {rest : List ℕ} (h : Goal) (x : IsTokenAt g at cs t rest) → IsTrue (allows h t.class x.word) → IsTokenAt h at cs t rest
by_goal h x al = record {
  gap = x.gap;
  word = x.word;
  split = x.split;
  separated = x.separated;
  no_comment = x.no_comment;
  longest = x.longest;
  allowed = al;
  text = x.text;
  start = x.start;
  stop = x.stop;
  after_break = x.after_break;
}

pub not_true : (b : Bool) → not b ≡ true → b ≡ false
not_true false h = refl
not_true true h = cc

pub not_false : (b : Bool) → not b ≡ false → b ≡ true
not_false true h = refl
not_false false h = cc

-- what is seen as a keyword, and none is scanned, is `await`
keyword_text : (l : Language) (v : List ℕ) (c : TokenClass) (w : List ℕ) → v ≡ w → class_in l c w ≡ Keyword → c ≢ Keyword → v ≡ codes "await"
unfolding is_keyword
keyword_text l v IdentifierName w e h n = e ∙ by (is_of_2022 l) (is w "await") refl h
  where
    by : (a b : Bool) → is w "await" ≡ b → cond (a && (b || false)) Keyword IdentifierName ≡ Keyword → w ≡ codes "await"
    by true true k h = (bytes_eq-Decides w (codes "await")).0 k
    by true false k h = cc
    by false b k h = cc
keyword_text l v c w e h n = absurd (n h)

module _ (text : SourceText) where
  abbrev By : Goal → Token → Token → Token → Type 0
  By = ReadBy Token (SeenNext text) (behind_in text)

  -- the token ahead as it is read, and the place behind it
  module _ {g : Goal} {at : ℕ} {u : LexicalToken} (a : IsAhead g text at u) where
    pub ahead_seen : as_read u ≡ behind_in text (as_read a.scanned)
    ahead_seen = ap as_read a.seen ∙ read_as_seen text.language a.scanned

    pub ahead_place : unseen (as_read u) ≡ as_read a.scanned
    ahead_place = ap unseen ahead_seen ∙ unseen_again text.language (as_read a.scanned) (no_keyword text.bytes g at a.scanned a.read)

    pub place_seen : behind_in text (unseen (as_read u)) ≡ as_read u
    place_seen = ap (behind_in text) ahead_place ∙ sym ahead_seen

  scanned_next : (g : Goal) (s : Token) (v : LexicalToken) → Scans text.bytes g s.stop v → SeenNext text s (behind_in text (as_read v)) (as_read v)
  scanned_next g s v x = seen_next (next_in g refl x)

  pub ahead_next : (g : Goal) (s : Token) (u : LexicalToken) → IsAhead g text s.stop u → SeenNext text s (as_read u) (unseen (as_read u))
  ahead_next g s u a = subst (λ t. SeenNext text s t (unseen (as_read u))) (sym (ahead_seen a)) (subst (λ e. SeenNext text s (behind_in text (as_read a.scanned)) e) (sym (ahead_place a)) (scanned_next g s a.scanned a.read))

  -- the token ahead is read there
  pub ahead_read : (g : Goal) (s : Token) (u : LexicalToken) → IsAhead g text s.stop u → By g s (as_read u) (unseen (as_read u))
  ahead_read g s u a = record {
    next = ahead_next g s u a;
    allowed = subst (λ t. IsTrue (allows g t.class t.text)) (sym (ahead_seen a))
        (allows_seen g text.language (as_read a.scanned).class (as_read a.scanned).text ∙ read_allows g a.scanned a.read.word a.read.text ∙ a.read.allowed);
  }

  -- what the goal reads there is the token ahead
  pub same_ahead : (g : Goal) (s : Token) (u : LexicalToken) → IsAhead g text s.stop u → (t m : Token) → By g s t m → t ≡ as_read u
  same_ahead g s u a t m r = let b = ahead_read g s u a in ((seen_determined text).same g s t (as_read u) m (unseen (as_read u)) r.next b.next r.allowed b.allowed).0

  -- where the goal reads none, none is read
  pub none_ahead : (g : Goal) (s : Token) → NoneAhead g text s.stop → (t m : Token) → By g s t m → ⊥
  none_ahead g s none t m r = of t m r.next r.allowed
    where
      by : (v : Token) (m : Token) → NextIn text.bytes any_goal s v m → IsTrue (allows g v.class v.text) → ⊥
      by v m (next_in {t = w} other any x) al = none w (by_goal g x (sym (read_allows g w x.word x.text) ∙ al))

      of : (t m : Token) → SeenNext text s t m → IsTrue (allows g t.class t.text) → ⊥
      of t m (seen_next {t = v} x) al = by v m x (sym (allows_seen g text.language v.class v.text) ∙ al)

  -- what holds of the token ahead holds of each that the goal reads
  pub of_ahead : (P : Token → Type 0) (g : Goal) (s : Token) (u : LexicalToken) → IsAhead g text s.stop u → P (as_read u) → (t m : Token) → By g s t m → P t
  of_ahead P g s u a h t m r = subst P (sym (same_ahead g s u a t m r)) h

  pub seen_by : (p : Token → Bool) (g : Goal) (s : Token) (u : LexicalToken) → IsAhead g text s.stop u → p (as_read u) ≡ true → SeesBy text g p s
  seen_by p g s u a h = (unseen (as_read u), (subst (λ t. By g s t (unseen (as_read u)) × (p t ≡ true)) (sym (place_seen a)) (ahead_read g s u a, h)))

  pub missed_by : (p : Token → Bool) (g : Goal) (s : Token) (u : LexicalToken) → IsAhead g text s.stop u → p (as_read u) ≡ false → MissesBy text g p s
  missed_by p g s u a h = of_ahead (λ t. p t ≡ false) g s u a h

  pub none_by : (p : Token → Bool) (g : Goal) (s : Token) → NoneAhead g text s.stop → MissesBy text g p s
  none_by p g s none t m r = absurd (none_ahead g s none t m r)

  -- the goal behind an operand reads each punctuator and each name
  pub mark_by : {w : List ℕ} {s t e : Token} → Reads Token (SeenNext text) (behind_in text) Punctuator w s t e → By goal.Div s t e
  mark_by {t = t} r = record { next = r.next; allowed = subst (λ c. IsTrue (allows goal.Div c t.text)) (sym r.class) (div_allows false t.text) }

  pub name_by : {w : List ℕ} {s t e : Token} → Reads Token (SeenNext text) (behind_in text) IdentifierName w s t e → By goal.Div s t e
  name_by {t = t} r = record { next = r.next; allowed = subst (λ c. IsTrue (allows goal.Div c t.text)) (sym r.class) (div_allows true t.text) }

  pub class_of : (c d : TokenClass) (b : Bool) → (same_class c d && b) ≡ true → (d ≡ c) × (b ≡ true)
  class_of IdentifierName IdentifierName b h = (refl, h)
  class_of Punctuator Punctuator b h = (refl, h)
  class_of NumericLiteral NumericLiteral b h = (refl, h)
  class_of StringLiteral StringLiteral b h = (refl, h)
  class_of Template Template b h = (refl, h)
  class_of RegularExpressionLiteral RegularExpressionLiteral b h = (refl, h)
  class_of PrivateName PrivateName b h = (refl, h)
  class_of Keyword Keyword b h = (refl, h)
  class_of End End b h = (refl, h)
  class_of _ _ b h = cc

  class_same : (c : TokenClass) → same_class c c ≡ true
  class_same IdentifierName = refl
  class_same Punctuator = refl
  class_same NumericLiteral = refl
  class_same StringLiteral = refl
  class_same Template = refl
  class_same RegularExpressionLiteral = refl
  class_same PrivateName = refl
  class_same Keyword = refl
  class_same End = refl

  -- a token ahead that is the one asked for is read up to the place behind it
  pub read_here : {g : Goal} (c : TokenClass) (w : List ℕ) (s : Token) (u : LexicalToken) → IsAhead g text s.stop u → Reads Token (SeenNext text) (behind_in text) c w s (as_read u) (unseen (as_read u)) → ReadsHere text c w s (unseen (as_read u))
  read_here c w s u a r = subst (λ t. Reads Token (SeenNext text) (behind_in text) c w s t (unseen (as_read u))) (sym (place_seen a)) r

  pub seen : (g : Goal) (c : TokenClass) (w : List ℕ) (s : Token) (u : LexicalToken) → IsAhead g text s.stop u → is_token c w (as_read u) ≡ true → ReadsHere text c w s (unseen (as_read u))
  seen g c w s u a h =
      let k = class_of c u.class (is_text w (as_read u)) h in
      read_here c w s u a (record { next = ahead_next g s u a; class = k.0; text = (bytes_eq-Decides (as_read u).text w).0 k.1 })
    where
      is_text : List ℕ → Token → Bool
      is_text w t = bytes_eq t.text w

  pub sees : (g : Goal) (c : TokenClass) (w : List ℕ) (s : Token) (u : LexicalToken) → IsAhead g text s.stop u → is_token c w (as_read u) ≡ true → Sees text c w s
  sees g c w s u a h = (unseen (as_read u), seen g c w s u a h)

  is_one : {c : TokenClass} {w : List ℕ} {s t e : Token} → Reads Token (SeenNext text) (behind_in text) c w s t e → is_token c w t ≡ true
  is_one {c} {w} {t = t} r = ap (λ d. same_class c d && bytes_eq t.text w) r.class ∙ ap (λ b. b && bytes_eq t.text w) (class_same c) ∙ (bytes_eq-Decides t.text w).1 r.text

  -- one that isn't is not
  pub mark_missed : (w : List ℕ) (s : Token) (u : LexicalToken) → IsAhead goal.Div text s.stop u → is_token Punctuator w (as_read u) ≡ false → Misses text Punctuator w s
  mark_missed w s u a h t e r = false≢true (sym h ∙ ap (is_token Punctuator w) (sym (same_ahead goal.Div s u a t e (mark_by r))) ∙ is_one r)

  pub word_missed : (w : List ℕ) (s : Token) (u : LexicalToken) → IsAhead goal.Div text s.stop u → is_token IdentifierName w (as_read u) ≡ false → Misses text IdentifierName w s
  word_missed w s u a h t e r = false≢true (sym h ∙ ap (is_token IdentifierName w) (sym (same_ahead goal.Div s u a t e (name_by r))) ∙ is_one r)

  pub mark_none : (w : List ℕ) (s : Token) → NoneAhead goal.Div text s.stop → Misses text Punctuator w s
  mark_none w s none t e r = none_ahead goal.Div s none t e (mark_by r)

  pub word_none : (w : List ℕ) (s : Token) → NoneAhead goal.Div text s.stop → Misses text IdentifierName w s
  word_none w s none t e r = none_ahead goal.Div s none t e (name_by r)

  pub name_none : (p : List ℕ → Bool) (s : Token) → NoneAhead goal.Div text s.stop → NoName text p s
  name_none p s none t e r k = none_ahead goal.Div s none t e (name_by r)

  -- the keyword `await`: only that is seen as a keyword
  keyword_by : {w : List ℕ} {s t e : Token} → Reads Token (SeenNext text) (behind_in text) Keyword w s t e → By goal.Div s t e
  keyword_by {t = t} r = record { next = r.next; allowed = subst (λ c. IsTrue (allows goal.Div c t.text)) (sym r.class) (div_allows true t.text) }

  pub await_ahead : (g : Goal) (s : Token) (u : LexicalToken) → IsAhead g text s.stop u → same_class Keyword u.class ≡ true → ReadsHere text Keyword (codes "await") s (unseen (as_read u))
  await_ahead g s u a h =
      let class = keyword_class u.class h in
      read_here Keyword (codes "await") s u a (record {
        next = ahead_next g s u a;
        class = class;
        text = ap (λ c. table_text c u.text) class ∙ keyword_text text.language u.text a.scanned.class a.scanned.text
            (ap (λ (t : LexicalToken). t.text) a.seen) (ap (λ (t : LexicalToken). t.class) (sym a.seen) ∙ class) (no_keyword text.bytes g s.stop a.scanned a.read);
      })
    where
      keyword_class : (c : TokenClass) → same_class Keyword c ≡ true → c ≡ Keyword
      keyword_class Keyword h = refl
      keyword_class _ h = cc

  pub sees_await : (g : Goal) (s : Token) (u : LexicalToken) → IsAhead g text s.stop u → same_class Keyword u.class ≡ true → Sees text Keyword (codes "await") s
  sees_await g s u a h = (unseen (as_read u), await_ahead g s u a h)

  pub await_missed : (s : Token) (u : LexicalToken) → IsAhead goal.Div text s.stop u → same_class Keyword u.class ≡ false → Misses text Keyword (codes "await") s
  await_missed s u a h t e r = false≢true (sym h ∙ ap (λ (x : Token). same_class Keyword x.class) (sym (same_ahead goal.Div s u a t e (keyword_by r))) ∙ ap (same_class Keyword) r.class)

  pub await_none : (s : Token) → NoneAhead goal.Div text s.stop → Misses text Keyword (codes "await") s
  await_none s none t e r = none_ahead goal.Div s none t e (keyword_by r)

  -- any name, one that the language reserves too
  word_class_by : {s t e : Token} → SeenNext text s t e → is_word_class t.class ≡ true → By goal.Div s t e
  word_class_by {t = t} n h = record { next = n; allowed = by t.class t.text h }
    where
      by : (c : TokenClass) (w : List ℕ) → is_word_class c ≡ true → IsTrue (allows goal.Div c w)
      by IdentifierName w h = div_allows true w
      by Keyword w h = div_allows true w
      by _ w h = cc

  pub any_word_seen : (g : Goal) (s : Token) (u : LexicalToken) → IsAhead g text s.stop u → is_word_class u.class ≡ true → WordHere text s (unseen (as_read u))
  any_word_seen g s u a h = subst (λ t. SeenNext text s t (unseen (as_read u)) × (is_word_class t.class ≡ true)) (sym (place_seen a)) (ahead_next g s u a, h)

  pub no_word : (s : Token) (u : LexicalToken) → IsAhead goal.Div text s.stop u → is_word_class u.class ≡ false → NoWord text s
  no_word s u a h t e n = by (is_word_class t.class) refl
    where
      by : (b : Bool) → is_word_class t.class ≡ b → is_word_class t.class ≡ false
      by false k = k
      by true k = ap (λ (x : Token). is_word_class x.class) (same_ahead goal.Div s u a t e (word_class_by n k)) ∙ h

  pub word_class_none : (s : Token) → NoneAhead goal.Div text s.stop → NoWord text s
  word_class_none s none t e n = by (is_word_class t.class) refl
    where
      by : (b : Bool) → is_word_class t.class ≡ b → is_word_class t.class ≡ false
      by false k = k
      by true k = absurd (none_ahead goal.Div s none t e (word_class_by n k))

  -- a name that passes a test is read as it stands
  name_of : (u : LexicalToken) → u.class ≡ IdentifierName → (as_read u).text ≡ u.text
  name_of u e = ap (λ c. table_text c u.text) e

  pub name_ends : (u : LexicalToken) → u.class ≡ IdentifierName → unseen (as_read u) ≡ as_read u
  name_ends u e = ap (λ c. record (as_read u) { class = unseen_class c }) e ∙ sym (ap (λ c. record (as_read u) { class = c }) e)

  pub name_seen : (p : List ℕ → Bool) (g : Goal) (s : Token) (u : LexicalToken) → IsAhead g text s.stop u → (same_class IdentifierName u.class && p u.text) ≡ true → NameHere text p s (unseen (as_read u))
  name_seen p g s u a h =
      let k = class_of IdentifierName u.class (p u.text) h in
      (read_here IdentifierName (as_read u).text s u a (record { next = ahead_next g s u a; class = k.0; text = refl }), ap p (name_of u k.0) ∙ k.1)

  pub sees_name : (p : List ℕ → Bool) (g : Goal) (s : Token) (u : LexicalToken) → IsAhead g text s.stop u → (same_class IdentifierName u.class && p u.text) ≡ true → (t : Token) × NameHere text p s t
  sees_name p g s u a h = (unseen (as_read u), name_seen p g s u a h)

  pub name_missed : (p : List ℕ → Bool) (s : Token) (u : LexicalToken) → IsAhead goal.Div text s.stop u → (same_class IdentifierName u.class && p u.text) ≡ false → NoName text p s
  name_missed p s u a h t e r k =
      let same = same_ahead goal.Div s u a t e (name_by r) in
      let class : u.class ≡ IdentifierName = sym (ap (λ (x : Token). x.class) same) ∙ r.class in
      let word : p u.text ≡ true = ap p (sym (name_of u class)) ∙ sym (ap (λ (x : Token). p x.text) same) ∙ k in
      false≢true (sym h ∙ ap (λ c. same_class IdentifierName c && p u.text) class ∙ word)

  -- all that is read at one place has the same line break before it
  pub break_seen : (g : Goal) (s : Token) (u : LexicalToken) → IsAhead g text s.stop u → (t e : Token) → SeenNext text s t e → t.after_break ≡ u.after_break
  break_seen g s u a t e n = (seen_determined text).break s t (as_read u) e (unseen (as_read u)) n (ahead_next g s u a)

  -- a mark on the same line
  pub sees_line : (w : List ℕ) (s : Token) (u : LexicalToken) → IsAhead goal.Div text s.stop u → is_token Punctuator w (as_read u) ≡ true → not u.after_break ≡ true → (t : Token) × ReadsHere text Punctuator w s t × (t.after_break ≡ false)
  sees_line w s u a h k = (unseen (as_read u), seen goal.Div Punctuator w s u a h, is_false u.after_break k)
    where
      is_false : (b : Bool) → not b ≡ true → b ≡ false
      is_false false k = refl
      is_false true k = cc

  pub missed_line : (w : List ℕ) (s : Token) (u : LexicalToken) → IsAhead goal.Div text s.stop u → not u.after_break ≡ false → (t e : Token) → Reads Token (SeenNext text) (behind_in text) Punctuator w s t e → t.after_break ≡ true
  missed_line w s u a k t e r = break_seen goal.Div s u a t e r.next ∙ is_true u.after_break k
    where
      is_true : (b : Bool) → not b ≡ false → b ≡ true
      is_true true k = refl
      is_true false k = cc

  pub no_line : (w : List ℕ) (s : Token) (u : LexicalToken) → IsAhead goal.Div text s.stop u → is_token Punctuator w (as_read u) ≡ false → (t e : Token) → Reads Token (SeenNext text) (behind_in text) Punctuator w s t e → t.after_break ≡ true
  no_line w s u a h t e r = absurd (mark_missed w s u a h t e r)
