-- Given names of properties and members, with the words before them (ECMA-262 12.2.6, 14.3, 14.6; 15.5 to 15.8 of the 13th edition).
use Rattle.std.proofs.Common.{◌≡◌, ℕ, ◌-◌, ◌≤◌, ◌<◌, Bool, true, false, List, Result, Ok, Err, refl, sym, ap, ◌∙◌, subst, arith}
use Rattle.std.specs.Prelude.{Option, Some, None, IsTrue, codes, not, ◌&&◌, ◌||◌}
use Rattle.std.specs.Result.{IsErrAnd}
use Rattle.std.proofs.lemmas.Bool.{false≢true}
use Rattle.source_text.specs.declared.fault.Fault.{Fault}
use Rattle.source_text.specs.declared.fault.Fault.TheVariants.{Syntax, TooDeep, OutOfMemory}
use Rattle.tokens.specs.Goals.{allows}
use Rattle.tokens.specs.Scanned.{token_of}
use Rattle.tokens.specs.declared.token.Token.{Token as Scanned}
use Rattle.tokens.specs.declared.token.TokenClass.{TokenClass}
use Rattle.tokens.specs.declared.token.TokenClass.TheVariants.{IdentifierName, NumericLiteral, StringLiteral, Punctuator, Keyword, PrivateName}
use Rattle.tokens.specs.declared.token.Goal.{Goal}
use Rattle.tokens.specs.declared.token.Goal.TheVariants.{Div}
use Rattle.token_cursor.specs.CursorState.{CursorState}
use Rattle.tree.specs.declared.kind.Form.{Form}
use Rattle.tree.specs.declared.kind.Form.TheVariants.{Method}
use Rattle.tree.specs.declared.kind.Pair.{Pair}
use Rattle.tree.specs.Tree.{Tree, node, kind_of, text_of, height}
use Rattle.language.specs.declared.Rank.TheVariants.{Assignment}
use Rattle.language.specs.declared.Start.TheVariants.{Any}
use Rattle.language.specs.Vocabulary.{is, is_identifier}
use Rattle.language.specs.Pieces.{expr, key, private_name}
use Rattle.language.specs.Promises.{is_free, ReadBy}
use Rattle.language.specs.Languages.{is_of_2022}
use Rattle.language.specs.Token.{Token, as_read, is_mark, same_class}
use Rattle.language.specs.Covers.{as_expression}
use Rattle.language.specs.Derivation.{Reads}
use Rattle.language.specs.Claims.{max_open}
use Rattle.language.proofs.covers.CoverKeys.{key_or_sign, key_at_sign}
use Rattle.language.proofs.covers.CoverProperties.{plain_key, computed_key}
use Rattle.language.proofs.covers.CoverReadings.{name_or_sign}
use Rattle.language.proofs.climbing.Conditionals.{stops_before}
use Rattle.language.proofs.climbing.Leaves.{private_form}
use Rattle.language.proofs.table.PropertyNameWays as ways
use Rattle.language.proofs.table.PropertyNameWays.{key_form, key_free, name_key_found}
use Rattle.token_cursor.proofs.SeenTokens.{seen_determined}
use Rattle.parser_tables.specs.declared.operand.Operand.{Operand}
use Rattle.parser_tables.specs.declared.expression_context.ExpressionContext.{ExpressionContext}
use Rattle.recursive_descent.specs.declared.properties.PropertyName.{PropertyName}
use Rattle.recursive_descent.specs.declared.properties.Modifiers.{Modifiers}
use Rattle.recursive_descent.specs.Complete.{ExpressionComplete, NameComplete}
use Rattle.recursive_descent.specs.Completeness.{Room, GivenAs, an_expression}
use Rattle.recursive_descent.specs.CompletenessOfProperties.{AccessGiven, WordsGiven, NamedAt, a_key, a_private, NameGiven, TokenIs, names_more}
use Rattle.recursive_descent.specs.CompletenessOfProperties as given
use Rattle.recursive_descent.specs.Members.{KeyRead, NoKey}
use Rattle.recursive_descent.specs.Modifiers.{follows, follows_async, MethodWords, no_words, a_star, async_word, async_star, async_named, Accessed, gets, sets, get_named, set_named, neither, Modifying, in_object, not_static, static_named, static}
use Rattle.recursive_descent.specs.Spelled.{SpellsIn, OfLanguage}
use Rattle.parser_tables.specs.Outcomes.{BecomesHere}
use Rattle.token_cursor.specs.CursorState.{IsSyntaxHere}
use Rattle.token_cursor.specs.Seen.{ReadsHere, Misses, SeesBy, MissesBy, TokenHere, is_key_class}
use Rattle.parser_tables.specs.Tests.{begins_key, is_key}
use Rattle.recursive_descent.proofs.reading.FreeRanks.{no_conditional, no_new}
use Rattle.recursive_descent.proofs.reading.SeenClasses.{name_place}
use Rattle.recursive_descent.proofs.complete_expressions.Agreement.{Refuses, agrees_on, agrees_err, refuses_unfit, refuses_high, refuses_syntax, not_missed, marks_same, words_same}
use Rattle.token_cursor.proofs.TokensAhead.{mark_by, name_by}
use Rattle.token_cursor.specs.SourceText.{SourceText, SeenNext, behind_in, unseen_class}

some_height : (n : Tree) → 1 ≤ height n
some_height (node k w g s e ps) = omega arith

key_class : (c : TokenClass) → ways.is_key_class c ≡ true → is_key_class c ≡ true
key_class IdentifierName h = refl
key_class Keyword h = refl
key_class NumericLiteral h = refl
key_class StringLiteral h = refl
key_class _ h = absurd (false≢true h)

or_true : (b : Bool) → (b || true) ≡ true
or_true true = refl
or_true false = refl

either_false : (a b : Bool) → (a || (b && false)) ≡ true → a ≡ true
either_false true b h = refl
either_false false true h = absurd (false≢true h)
either_false false false h = absurd (false≢true h)

unlike : {v w : List ℕ} {A : Type 0} (s : List ℕ → Bool) → s v ≡ true → s w ≡ false → v ≡ w → A
unlike s h k e = absurd (false≢true (sym k ∙ ap s (sym e) ∙ h))

-- what is a key's token begins one
key_begins : (t : Token) → (is_key_class t.class ≡ true) → begins_key t ≡ true
key_begins t h = of t.class h
  where
    of : (c : TokenClass) → is_key_class c ≡ true → begins_key (record t { class = c }) ≡ true
    of IdentifierName h = refl
    of Keyword h = refl
    of NumericLiteral h = refl
    of StringLiteral h = refl
    of _ h = absurd (false≢true h)

private_begins : (t : Token) → t.class ≡ PrivateName → begins_key t ≡ true
private_begins t h = ap (λ c. begins_key (record t { class = c })) h

bracket_begins : (t : Token) → t.class ≡ Punctuator → t.text ≡ codes "[" → begins_key t ≡ true
bracket_begins t h k = (λ i. begins_key (record t { class = h i; text = k i }))

star_is : (t : Token) → t.class ≡ Punctuator → t.text ≡ codes "*" → is_mark (codes "*") t ≡ true
star_is t h k = (λ i. is_mark (codes "*") (record t { class = h i; text = k i }))

-- a key begins behind `async` on its line
async_follows : (t : Token) → t.after_break ≡ false → (begins_key t || is_mark (codes "*") t) ≡ true → follows_async t ≡ true
async_follows t line h = ap (λ b. not b && (begins_key t || is_mark (codes "*") t)) line ∙ h

follows_begins : (text : SourceText) (w : List ℕ) (t : Token) → begins_key t ≡ true → follows text w t ≡ true
follows_begins text w t h = ap (λ b. b || (is_of_2022 text.language && (is w "static" && is_mark (codes "*") t))) h

-- the token of a name that was read
pub token_there : {text : SourceText} {w : List ℕ} {s e : Token} (t : Scanned) → ReadsHere text IdentifierName w s e → e ≡ as_read (token_of t) → TokenIs text (Some t) e
token_there {text = text} {e = e} t r same =
    let shown : behind_in text e ≡ as_read (token_of t) = name_place text e r.class ∙ same in
    let class : t.class ≡ IdentifierName = sym (ap (λ (x : Token). x.class) shown) ∙ r.class in
    (same ∙ (λ i. record (as_read (token_of t)) { class = (class ∙ sym (ap unseen_class class)) i }), shown)

module _ (text : SourceText) where
  abbrev By : Token → Token → Token → Type 0
  By = ReadBy Token (SeenNext text) (behind_in text) Div

  abbrev Sign : List ℕ → Token → Token → Token → Type 0
  Sign = Reads Token (SeenNext text) (behind_in text) Punctuator

  abbrev Word : List ℕ → Token → Token → Token → Type 0
  Word = Reads Token (SeenNext text) (behind_in text) IdentifierName

  -- the token of a key is read by any goal
  record KeyToken (in_class : Bool) (s e : Token) : Type 0 where
    token : Token
    by : By s token e
    is : is_key text in_class token ≡ true
    begins : begins_key token ≡ true

  plain_token : {in_class : Bool} {o : ℕ} {k : Tree} {s e : Token} {P : List Pair} → SpellsIn text o key k s e P → KeyToken in_class s e
  plain_token {in_class} {s = s} {e = e} d =
      let u = key_form Token (SeenNext text) (behind_in text) (seen_determined text) d in
      let class : is_key_class u.leaf.sign.class ≡ true = ap is_key_class u.leaf.reads.class ∙ key_class u.class u.is_key in
      record {
        token = u.leaf.sign;
        by = record { next = u.leaf.reads.next; allowed = (seen_determined text).free Div s u.leaf.sign e u.leaf.reads.next (ap is_free u.leaf.reads.class ∙ key_free u.class u.is_key) };
        is = ap (λ b. b || (in_class && (is_of_2022 text.language && same_class PrivateName u.leaf.sign.class))) class;
        begins = key_begins u.leaf.sign class;
      }

  private_by : {o : ℕ} {k : Tree} {s e : Token} {P : List Pair} (d : SpellsIn text o private_name k s e P) → By s (private_form Token (SeenNext text) (behind_in text) (seen_determined text) d).sign e
  private_by {s = s} {e = e} d =
      let u = private_form Token (SeenNext text) (behind_in text) (seen_determined text) d in
      record { next = u.reads.next; allowed = (seen_determined text).free Div s u.sign e u.reads.next (ap is_free u.reads.class) }

  private_token : {in_class : Bool} {o : ℕ} {k : Tree} {s e : Token} {P : List Pair} → in_class ≡ true → is_of_2022 text.language ≡ true → SpellsIn text o private_name k s e P → KeyToken in_class s e
  private_token {in_class} {s = s} {e = e} i l d =
      let u = private_form Token (SeenNext text) (behind_in text) (seen_determined text) d in
      record {
        token = u.sign;
        by = private_by d;
        is = (λ j. is_key_class u.sign.class || (i j && (l j && same_class PrivateName (u.reads.class j)))) ∙ or_true (is_key_class u.sign.class);
        begins = private_begins u.sign u.reads.class;
      }

  -- two tokens that the goal reads at one place are one
  by_same : {s t e u k : Token} → By s t e → By s u k → (t ≡ u) × (e ≡ k)
  by_same {s} {t} {e} {u} {k} a b = (seen_determined text).same Div s t u e k a.next b.next a.allowed b.allowed

  -- a key begins with a token that begins one
  pub key_sees : {i c : Bool} {o : ℕ} {k : Tree} {s e : Token} {P : List Pair} → NamedAt text i o k s e P c → (t : Token) × (m : Token) × By s t m × (begins_key t ≡ true)
  key_sees {e = e} (a_key (plain_key d)) = let u = plain_token {in_class = false} d in (u.token, e, u.by, u.begins)
  key_sees (a_key (computed_key {x = x} {t = t} h d l)) = (t, x, mark_by text h, bracket_begins t h.class h.text)
  key_sees {e = e} (a_private i l d) = let u = private_token i l d in (u.token, e, u.by, u.begins)

  unseen_by : {A : Type 0} {p : Token → Bool} {s t m : Token} → MissesBy text Div p s → By s t m → p t ≡ true → A
  unseen_by {t = t} {m = m} none r h = absurd (false≢true (sym (none t m r) ∙ h))

  key_unseen : {A : Type 0} (w : List ℕ) {i c : Bool} {o : ℕ} {k : Tree} {s e : Token} {P : List Pair} → MissesBy text Div (follows text w) s → NamedAt text i o k s e P c → A
  key_unseen w none d = let u = key_sees d in unseen_by none u.2 (follows_begins text w u.0 u.3)

  word_begins : {w : List ℕ} {s t e : Token} → Word w s t e → begins_key t ≡ true
  word_begins {t = t} r = key_begins t (ap is_key_class r.class)

  word_unseen : {A : Type 0} (v : List ℕ) {w : List ℕ} {s t e : Token} → MissesBy text Div (follows text v) s → Word w s t e → A
  word_unseen v {t = t} none r = unseen_by none (name_by text r) (follows_begins text v t (word_begins r))

  -- a sign but `[` begins no key
  pub key_sign : {A : Type 0} {w : List ℕ} {i c : Bool} {o : ℕ} {k : Tree} {s to t e : Token} {P : List Pair} → IsTrue (allows Goal.RegExp Punctuator w) → IsTrue (allows Div Punctuator w) → (w ≡ codes "[" → ⊥) → NamedAt text i o k s to P c → Sign w s t e → A
  key_sign p q h (a_key d) r = absurd (key_at_sign Token (SeenNext text) (behind_in text) (seen_determined text) p q h d r)
  key_sign p q h (a_private i l d) r =
      let u = private_form Token (SeenNext text) (behind_in text) (seen_determined text) d in
      let same = (by_same (private_by d) (mark_by text r)).0 in
      absurd (false≢true (sym (ap (λ c. same_class Punctuator c) u.reads.class) ∙ ap (λ (x : Token). same_class Punctuator x.class) same ∙ ap (λ c. same_class Punctuator c) r.class))

  no_bracket : codes "*" ≡ codes "[" → ⊥
  no_bracket e = false≢true (ap (λ w. is w "[") e)

  key_star : {A : Type 0} {i c : Bool} {o : ℕ} {k : Tree} {s to t e : Token} {P : List Pair} → NamedAt text i o k s to P c → Sign (codes "*") s t e → A
  key_star = key_sign refl refl no_bracket

  -- a key where a name is read is that name
  pub record IsWord (c : Bool) (k : Tree) (w : List ℕ) (to e : Token) : Type 0 where
    pub not_computed : c ≡ false
    pub place : e ≡ to
    kind : is_identifier (kind_of k) ≡ true
    text_is : text_of k ≡ w

  key_word : {i c : Bool} {o : ℕ} {k : Tree} {w : List ℕ} {s to t e : Token} {P : List Pair} → NamedAt text i o k s to P c → Word w s t e → IsWord c k w to e
  key_word {o = o} {k = k} {to = to} {P = P} (a_key (plain_key d)) r =
      let u = (name_key_found Token (SeenNext text) (behind_in text) (seen_determined text) {o = o} (record { next = r.next; class = r.class; text = refl })).only o to k P d in
      record { not_computed = refl; place = sym u.0; kind = ap (λ n. is_identifier (kind_of n)) u.1; text_is = ap text_of u.1 ∙ r.text }
  key_word (a_key (computed_key h d l)) r = absurd (name_or_sign Token (SeenNext text) (behind_in text) (seen_determined text) refl r h)
  key_word (a_private i l d) r =
      let u = private_form Token (SeenNext text) (behind_in text) (seen_determined text) d in
      let same = (by_same (private_by d) (name_by text r)).0 in
      absurd (false≢true (sym (ap (λ c. same_class IdentifierName c) u.reads.class) ∙ ap (λ (x : Token). same_class IdentifierName x.class) same ∙ ap (λ c. same_class IdentifierName c) r.class))

  two_words : {A : Type 0} {v w : List ℕ} {s t e u k : Token} (x : List ℕ → Bool) → x v ≡ true → x w ≡ false → Word v s t e → Word w s u k → A
  two_words x h k a b = unlike x h k (sym a.text ∙ ap (λ (z : Token). z.text) (words_same text a b).0 ∙ b.text)

  no_sign : {A : Type 0} {v w : List ℕ} {s t e u k : Token} → IsTrue (allows Div Punctuator w) → Word v s t e → Sign w s u k → A
  no_sign p r h = absurd (name_or_sign Token (SeenNext text) (behind_in text) (seen_determined text) p r h)

  -- where the words end, or where the name does that is one of them
  abbrev Behind : Option Scanned → Bool → Token → Token → Token → Type 0
  Behind None c mid to e = e ≡ mid
  Behind (Some t) c mid to e = (c ≡ false) × (e ≡ to) × TokenIs text (Some t) e

  module _ {i c : Bool} {o : ℕ} {k : Tree} {mid to : Token} {P : List Pair} (key : NamedAt text i o k mid to P c) (x : Bool) (last : c ≡ false → is_identifier (kind_of k) ≡ true → MissesBy text Div (names_more text x (text_of k)) to) where
    -- the key isn't a word behind which this stands
    word_goes_on : {A : Type 0} (w : List ℕ) (p : Token → Bool) {e : Token} → ((t : Token) → p t ≡ true → names_more text x w t ≡ true) → IsWord c k w to e → SeesBy text Div p e → A
    word_goes_on w p {e} more u sees =
        let t = behind_in text sees.0 in
        let there : By to t sees.0 = subst (λ z. By z t sees.0) u.place sees.1.0 in
        absurd (false≢true (sym (last u.not_computed u.kind t sees.0 there) ∙ ap (λ v. names_more text x v t) u.text_is ∙ more t sees.1.1))

    get_goes_on : (t : Token) → follows text (codes "get") t ≡ true → names_more text x (codes "get") t ≡ true
    get_goes_on t h = ap (λ b. b || ((x && false) || (is_of_2022 text.language && false))) (either_false (begins_key t) (is_of_2022 text.language) h)

    set_goes_on : (t : Token) → follows text (codes "set") t ≡ true → names_more text x (codes "set") t ≡ true
    set_goes_on t h = ap (λ b. b || ((x && false) || (is_of_2022 text.language && false))) (either_false (begins_key t) (is_of_2022 text.language) h)

    async_goes_on : is_of_2022 text.language ≡ true → (t : Token) → follows_async t ≡ true → names_more text x (codes "async") t ≡ true
    async_goes_on l t h = (λ j. (x && false) || (l j && h j)) ∙ or_true (x && false)

    static_goes_on : x ≡ true → (t : Token) → follows text (codes "static") t ≡ true → names_more text x (codes "static") t ≡ true
    static_goes_on y t h = (λ j. (y j && h j) || (is_of_2022 text.language && false))

    -- a key begins behind `async`, on its line
    line_seen : {A : Type 0} {e : Token} → given.OnItsLine text e → e ≡ mid → MissesBy text Div follows_async e → A
    line_seen {e = e} line there none =
        let u = key_sees (subst (λ z. NamedAt text i o k z to P c) (sym there) key) in
        unseen_by none u.2 (async_follows u.0 ((seen_determined text).break e u.0 line.0 u.1 line.1 u.2.next line.2 ∙ line.3) (ap (λ b. b || is_mark (codes "*") u.0) u.3))

    -- a `*` stands behind it on its line
    star_seen : {A : Type 0} {e s u m : Token} → given.OnItsLine text s → s ≡ e → Sign (codes "*") s u m → MissesBy text Div follows_async e → A
    star_seen {e = e} {s = s} {u = u} {m = m} line there r none =
        unseen_by (subst (λ z. MissesBy text Div follows_async z) (sym there) none) (mark_by text r)
        (async_follows u ((seen_determined text).break s u line.0 m line.1 r.next line.2 ∙ line.3) (ap (λ b. begins_key u || b) (star_is u r.class r.text) ∙ or_true (begins_key u)))

    -- the words of a method
    method_same : {s e : Token} {f g : Form} {name : Option Scanned} → AccessGiven text s mid f → Misses text IdentifierName (codes "get") s → Misses text IdentifierName (codes "set") s → MethodWords text s e g name → (g ≡ f) × Behind name c mid to e
    method_same (given.gets r) p q h = absurd (not_missed p r)
    method_same (given.sets r) p q h = absurd (not_missed q r)
    method_same (given.a_star l r) p q (no_words n m) = absurd (not_missed (n l).1 r)
    method_same (given.a_star l r) p q (a_star l' r') = (refl, (marks_same text r' r).1)
    method_same (given.a_star l r) p q (async_word l' r' sees n) = no_sign refl r' r
    method_same (given.a_star l r) p q (async_star l' r' sees st) = no_sign refl r' r
    method_same (given.a_star l r) p q (async_named l' r' none t) = no_sign refl r' r
    method_same (given.async_word l r line) p q (no_words n m) = absurd (not_missed (n l).0 r)
    method_same (given.async_word l r line) p q (a_star l' r') = no_sign refl r r'
    method_same (given.async_word l r line) p q (async_word l' r' sees n) = (refl, (words_same text r' r).1)
    method_same {e = e} (given.async_word l r line) p q (async_star l' r' sees st) = key_star key (subst (λ z. Sign (codes "*") z (behind_in text e) e) (words_same text r' r).1 st)
    method_same (given.async_word l r line) p q (async_named l' r' none t) = line_seen (subst (λ z. given.OnItsLine text z) (sym (words_same text r' r).1) line) (words_same text r' r).1 none
    method_same (given.async_star l r line st) p q (no_words n m) = absurd (not_missed (n l).0 r)
    method_same (given.async_star l r line st) p q (a_star l' r') = no_sign refl r r'
    method_same (given.async_star l r line st) p q (async_word l' r' sees n) = absurd (not_missed (subst (λ z. Misses text Punctuator (codes "*") z) (words_same text r' r).1 n) st)
    method_same {e = e} (given.async_star {m} l r line st) p q (async_star l' r' sees st') = (refl, (marks_same text (subst (λ z. Sign (codes "*") z (behind_in text e) e) (words_same text r' r).1 st') st).1)
    method_same (given.async_star l r line st) p q (async_named l' r' none t) = star_seen line (sym (words_same text r' r).1) st none
    method_same (given.neither m) p q (no_words n h) = (refl, h ∙ sym m)
    method_same {e = e} (given.neither m) p q (a_star l r) = key_star key (subst (λ z. Sign (codes "*") z (behind_in text e) e) (sym m) r)
    method_same {e = e} (given.neither m) p q (async_word l r sees n) = word_goes_on (codes "async") follows_async (async_goes_on l) (key_word key (subst (λ z. ReadsHere text IdentifierName (codes "async") z e) (sym m) r)) sees
    method_same (given.neither m) p q (async_star {m = y} l r sees st) = word_goes_on (codes "async") follows_async (async_goes_on l) (key_word key (subst (λ z. ReadsHere text IdentifierName (codes "async") z y) (sym m) r)) sees
    method_same {e = e} (given.neither m) p q (async_named {name = name} l r none t) = let u = key_word key (subst (λ z. ReadsHere text IdentifierName (codes "async") z e) (sym m) r) in (refl, (u.not_computed, u.place, token_there name r t))

    access_same : {s e : Token} {f g : Form} {name : Option Scanned} → AccessGiven text s mid f → Accessed text s e g name → (g ≡ f) × Behind name c mid to e
    access_same (given.gets r) (gets h) = (refl, (words_same text h.read r).1)
    access_same (given.gets r) (sets h) = two_words (λ x. is x "get") refl refl r h.read
    access_same (given.gets r) (get_named h) = let same = (words_same text h.read r).1 in key_unseen (codes "get") (subst (λ z. MissesBy text Div (follows text (codes "get")) z) same h.none) key
    access_same (given.gets r) (set_named h) = two_words (λ x. is x "get") refl refl r h.read
    access_same (given.sets r) (gets h) = two_words (λ x. is x "set") refl refl r h.read
    access_same (given.sets r) (sets h) = (refl, (words_same text h.read r).1)
    access_same (given.sets r) (get_named h) = two_words (λ x. is x "set") refl refl r h.read
    access_same (given.sets r) (set_named h) = let same = (words_same text h.read r).1 in key_unseen (codes "set") (subst (λ z. MissesBy text Div (follows text (codes "set")) z) same h.none) key
    access_same (given.a_star l r) (gets h) = no_sign refl h.read r
    access_same (given.a_star l r) (sets h) = no_sign refl h.read r
    access_same (given.a_star l r) (get_named h) = no_sign refl h.read r
    access_same (given.a_star l r) (set_named h) = no_sign refl h.read r
    access_same (given.async_word l r line) (gets h) = two_words (λ x. is x "async") refl refl r h.read
    access_same (given.async_word l r line) (sets h) = two_words (λ x. is x "async") refl refl r h.read
    access_same (given.async_word l r line) (get_named h) = two_words (λ x. is x "async") refl refl r h.read
    access_same (given.async_word l r line) (set_named h) = two_words (λ x. is x "async") refl refl r h.read
    access_same (given.async_star l r line st) (gets h) = two_words (λ x. is x "async") refl refl r h.read
    access_same (given.async_star l r line st) (sets h) = two_words (λ x. is x "async") refl refl r h.read
    access_same (given.async_star l r line st) (get_named h) = two_words (λ x. is x "async") refl refl r h.read
    access_same (given.async_star l r line st) (set_named h) = two_words (λ x. is x "async") refl refl r h.read
    access_same {e = e} (given.neither m) (gets h) = word_goes_on (codes "get") (follows text (codes "get")) get_goes_on (key_word key (subst (λ z. ReadsHere text IdentifierName (codes "get") z e) (sym m) h.read)) h.key
    access_same {e = e} (given.neither m) (sets h) = word_goes_on (codes "set") (follows text (codes "set")) set_goes_on (key_word key (subst (λ z. ReadsHere text IdentifierName (codes "set") z e) (sym m) h.read)) h.key
    access_same {e = e} (given.neither m) (get_named {name} h) = let u = key_word key (subst (λ z. ReadsHere text IdentifierName (codes "get") z e) (sym m) h.read) in (refl, (u.not_computed, u.place, token_there name h.read h.is))
    access_same {e = e} (given.neither m) (set_named {name} h) = let u = key_word key (subst (λ z. ReadsHere text IdentifierName (codes "set") z e) (sym m) h.read) in (refl, (u.not_computed, u.place, token_there name h.read h.is))
    access_same a (neither p q h) = method_same a p q h

    access_unseen : {A : Type 0} {s : Token} {f : Form} → MissesBy text Div (follows text (codes "static")) s → AccessGiven text s mid f → A
    access_unseen none (given.gets r) = word_unseen (codes "static") none r
    access_unseen none (given.sets r) = word_unseen (codes "static") none r
    access_unseen none (given.a_star l r) = unseen_by none (mark_by text r) ((λ j. begins_key (behind_in text mid) || (l j && star_is (behind_in text mid) r.class r.text j)) ∙ or_true (begins_key (behind_in text mid)))
    access_unseen none (given.async_word l r line) = word_unseen (codes "static") none r
    access_unseen none (given.async_star l r line st) = word_unseen (codes "static") none r
    access_unseen none (given.neither m) = key_unseen (codes "static") (subst (λ z. MissesBy text Div (follows text (codes "static")) z) (sym m) none) key

    -- `static` where no such word is given
    pub static_key : {s e : Token} {f : Form} → AccessGiven text s mid f → ReadsHere text IdentifierName (codes "static") s e → (Method ≡ f) × IsWord c k (codes "static") to e
    static_key (given.gets r) h = two_words (λ x. is x "get") refl refl r h
    static_key (given.sets r) h = two_words (λ x. is x "set") refl refl r h
    static_key (given.a_star l r) h = no_sign refl h r
    static_key (given.async_word l r line) h = two_words (λ x. is x "async") refl refl r h
    static_key (given.async_star l r line st) h = two_words (λ x. is x "async") refl refl r h
    static_key {e = e} (given.neither m) h = (refl, key_word key (subst (λ z. ReadsHere text IdentifierName (codes "static") z e) (sym m) h))

  pub words_match : {i b c : Bool} {o : ℕ} {k : Tree} {mid to : Token} {P : List Pair} (k1 : NamedAt text i o k mid to P c) → (c ≡ false → is_identifier (kind_of k) ≡ true → MissesBy text Div (names_more text (i && not b) (text_of k)) to) → {x : Bool} {s e : Token} {f g : Form} {name : Option Scanned} →
      WordsGiven text i s mid b f → Modifying text s e i x g name → (x ≡ b) × (g ≡ f) × Behind name c mid to e
  words_match k1 last (given.not_static a) (in_object h) = (let u = access_same k1 false last a h in (refl, u.0, u.1))
  words_match k1 last (given.not_static a) (not_static p h) = (let u = access_same k1 true last a h in (refl, u.0, u.1))
  words_match k1 last (given.not_static a) (static_named {name} h) = let u = static_key k1 true last a h.read in (refl, u.0, (u.1.not_computed, u.1.place, token_there name h.read h.is))
  words_match k1 last (given.not_static a) (static h p) = let u = static_key k1 true last a h.read in word_goes_on k1 true last (codes "static") (follows text (codes "static")) (static_goes_on k1 true last refl) u.1 h.key
  words_match k1 last (given.static j r a) (in_object h) = absurd (false≢true j)
  words_match k1 last (given.static j r a) (not_static p h) = absurd (not_missed p r)
  words_match k1 last (given.static j r a) (static_named h) = access_unseen k1 false last (subst (λ z. MissesBy text Div (follows text (codes "static")) z) (words_same text h.read r).1 h.none) a
  words_match k1 last {e = e} {g = g} {name = name} (given.static j r a) (static h p) = (let u = access_same k1 false last a (subst (λ z. Accessed text z e g name) (words_same text h.read r).1 p) in (refl, u.0, u.1))

abbrev pub element_position : ExpressionContext
element_position = record { rank = Assignment; has_in = true; start = Any }

module _ (s e : CursorState) (old new : List Pair) (high : ℕ) (in_class : Bool) where
  abbrev Whole : Result (Modifiers × PropertyName) Fault → Type 0
  Whole = NameComplete s e old new high in_class

  abbrev Same : Bool → Form → Bool → Token → Modifiers × PropertyName → Type 0
  Same is_static f computed to = λ named. (named.0.is_static ≡ is_static) × (named.0.form ≡ f) × (named.1.computed ≡ computed) × (computed ≡ false → TokenIs s.text named.1.token to) × (e.last ≡ to)

  pub name_made : (answer : Result (Modifiers × PropertyName) Fault) (fault : Fault) → IsErrAnd answer (λ z. z ≡ fault) → fault ≡ TooDeep → high < 1 → Whole answer
  name_made answer fault err is above = λ b f c o k to P d own.
      agrees_err (Room s o (height k) high) (Same b f c to) answer fault err (refuses_high (Room s o (height k) high) 1 high fault is above (λ room. (let within : height k ≤ high = room.1 in let some = some_height k in omega arith)))

  module _ (y : CursorState) (m : Modifiers) (words : Modifying s.text s.last y.last in_class m.is_static m.form m.name) where
    -- the name is one of the words
    pub name_alone : (k : PropertyName) (t : Scanned) → m.name ≡ Some t → k.computed ≡ false → k.token ≡ Some t → e.last ≡ y.last → Whole (Ok (m, k))
    name_alone k t named computed token stays = λ b f c o n to P d own.
        let u = words_match s.text d.key d.last d.words words in
        let v : Behind s.text (Some t) c d.mid to y.last = subst (λ z. Behind s.text z c d.mid to y.last) named u.2 in
        (u.0, u.1, computed ∙ sym v.0, (λ h. subst (λ z. TokenIs s.text z to) (sym token) (subst (λ z. TokenIs s.text (Some t) z) v.1 v.2)), stays ∙ v.1)

    module _ (unnamed : m.name ≡ None) where
      key_there : {b c : Bool} {f : Form} {o : ℕ} {k : Tree} {to : Token} {P : List Pair} → NameGiven s.text in_class b f c o k s.last to P → (m.is_static ≡ b) × (m.form ≡ f) × NamedAt s.text in_class o k y.last to P c
      key_there {b} {c} {f} {o} {k} {to} {P} d =
          let u = words_match s.text d.key d.last d.words words in
          let v : y.last ≡ d.mid = subst (λ z. Behind s.text z c d.mid to y.last) unnamed u.2 in
          (u.0, u.1, subst (λ z. NamedAt s.text in_class o k z to P c) (sym v) d.key)

      -- no `[` is read
      module _ (missed : Misses s.text Punctuator (codes "[") y.last) where
        plain_there : {b c : Bool} {f : Form} {o : ℕ} {k : Tree} {to : Token} {P : List Pair} → NameGiven s.text in_class b f c o k s.last to P → (c ≡ false) × KeyToken s.text in_class y.last to
        plain_there {to = to} d = of (key_there d).2
          where
            of : {c : Bool} {o : ℕ} {k : Tree} {P : List Pair} → NamedAt s.text in_class o k y.last to P c → (c ≡ false) × KeyToken s.text in_class y.last to
            of (a_key (plain_key p)) = (refl, plain_token s.text p)
            of (a_key (computed_key h p l)) = absurd (not_missed missed h)
            of (a_private i l p) = (refl, private_token s.text i l p)

        pub name_no_key : (z : CursorState) (answer : Result (Modifiers × PropertyName) Fault) (fault : Fault) → IsErrAnd answer (λ x. x ≡ fault) → z.text ≡ s.text → z.last ≡ y.last → NoKey in_class z high fault → Whole answer
        name_no_key z answer fault err there stays none = λ b f c o k to P d own. agrees_err (Room s o (height k) high) (Same b f c to) answer fault err ((of o fault none (plain_there d).1 k))
          where
            of : (o : ℕ) {to : Token} (x : Fault) → NoKey in_class z high x → KeyToken s.text in_class y.last to → (k : Tree) → Refuses (Room s o (height k) high) x
            of o {to} (Syntax at) none u k = absurd (false≢true (sym (none u.token to (subst (λ v. ReadBy Token (SeenNext v) (behind_in v) Div z.last u.token to) (sym there) (subst (λ v. By s.text v u.token to) (sym stays) u.by))) ∙ ap (λ v. is_key v in_class u.token) there ∙ u.is))
            of o TooDeep none u k = λ room. (let within : height k ≤ high = room.1 in let some = some_height k in absurd (omega arith))
            of o OutOfMemory none u k = tt
            of o _ none u k = absurd none

        pub name_plain : (z : CursorState) (k : PropertyName) → z.text ≡ s.text → z.last ≡ y.last → TokenHere z.text Div (is_key z.text in_class) z.last e.last → KeyRead z.text in_class e.last k k.token → Whole (Ok (m, k))
        name_plain z k there stays here read = λ b f c o n to P d own.
            let u = key_there d in
            let v = plain_there d in
            let place : e.last ≡ to = (by_same s.text (subst (λ x. By x y.last (behind_in x e.last) e.last) there (subst (λ x. ReadBy Token (SeenNext z.text) (behind_in z.text) Div x (behind_in z.text e.last) e.last) stays here.0)) v.1.by).1 in
            let w = of k.token (subst (λ x. KeyRead x in_class e.last k k.token) there read) in
            (u.0, u.1, w.0 ∙ sym v.0, (λ h. subst (λ x. TokenIs s.text k.token x) place w.1), place)
          where
            of : (x : Option Scanned) → KeyRead s.text in_class e.last k x → (k.computed ≡ false) × TokenIs s.text k.token e.last
            of None r = absurd r
            of (Some t) r = (ap (λ (x : PropertyName). x.computed) r.2, subst (λ (x : PropertyName). TokenIs s.text x.token e.last) (sym r.2) (r.0, r.1))

      -- `[` was read
      module _ (z : CursorState) (opens : ReadsHere s.text Punctuator (codes "[") y.last z.last) where
        record Inside (c : Bool) (o : ℕ) (k : Tree) (to : Token) (P : List Pair) : Type 0 where
          computed : c ≡ true
          mid : Token
          spelled : SpellsIn s.text o (expr Assignment true Any) k z.last mid P
          sign : Token
          closes : Reads Token (SeenNext s.text) (behind_in s.text) Punctuator (codes "]") mid sign to

        inside : {b c : Bool} {f : Form} {o : ℕ} {k : Tree} {to : Token} {P : List Pair} → NameGiven s.text in_class b f c o k s.last to P → Inside c o k to P
        inside {to = to} d = of (key_there d).2
          where
            of : {c : Bool} {o : ℕ} {k : Tree} {P : List Pair} → NamedAt s.text in_class o k y.last to P c → Inside c o k to P
            of (a_key (plain_key p)) = absurd (key_or_sign Token (SeenNext s.text) (behind_in s.text) (seen_determined s.text) refl p opens)
            of {o = o} {k} {P} (a_key (computed_key {m = w} {u = u} h p l)) = record { computed = refl; mid = w; spelled = subst (λ v. SpellsIn s.text o (expr Assignment true Any) k v w P) (marks_same s.text h opens).1 p; sign = u; closes = l }
            of (a_private i l p) =
                let u = private_form Token (SeenNext s.text) (behind_in s.text) (seen_determined s.text) p in
                let same = (by_same s.text (private_by s.text p) (mark_by s.text opens)).0 in
                absurd (false≢true (sym (ap (λ c. same_class Punctuator c) u.reads.class) ∙ ap (λ (x : Token). same_class Punctuator x.class) same ∙ ap (λ c. same_class Punctuator c) opens.class))

        module _ (x : CursorState) (next last : List Pair) {q : ExpressionContext} (q_is : q ≡ element_position) (there : z.text ≡ s.text) where
          given_index : {c : Bool} {o : ℕ} {k : Tree} {to : Token} {P : List Pair} (v : Inside c o k to P) → GivenAs z.text q o k z.last v.mid P as_expression
          given_index {o = o} {k} {P = P} v = subst (λ w. GivenAs w q o k z.last v.mid P as_expression) (sym there) (subst (λ w. GivenAs s.text w o k z.last v.mid P as_expression) (sym q_is)
              (an_expression (no_conditional refl) (no_new refl) v.spelled (stops_before Token (SeenNext s.text) (behind_in s.text) (seen_determined s.text) Assignment true k v.closes refl refl (λ c u. refl))))

          in_text : {k : Tree} → OfLanguage s.text k → OfLanguage z.text k
          in_text {k} own = subst (λ v. OfLanguage v k) (sym there) own

          pub name_index : (answer : Result (Modifiers × PropertyName) Fault) (fault : Fault) → IsErrAnd answer (λ w. w ≡ fault) → z.opened ≡ s.opened → ExpressionComplete z x next last high q (Err fault) → Whole answer
          name_index answer fault err opened complete = λ b f c o k to P d own.
              let v = inside d in
              agrees_on (Room z o (height k) high) (Room s o (height k) high) (Same b f c to) answer fault err (complete as_expression o k v.mid P (given_index v) (in_text own)) (λ room. (subst (λ w. o ≤ max_open - w) (sym opened) room.0, room.1))

          module _ (r : Operand) (read : ExpressionComplete z x next last high q (Ok r)) where
            pub name_settled : (p : CursorState) (answer : Result (Modifiers × PropertyName) Fault) (fault : Fault) → IsErrAnd answer (λ w. w ≡ fault) → BecomesHere r.cover.node r.cover.shape.is_expression p (Err fault) → Whole answer
            name_settled p answer fault err becomes = λ b f c o k to P d own.
                let v = inside d in
                agrees_err (Room s o (height k) high) (Same b f c to) answer fault err (refuses_unfit (Room s o (height k) high) r.cover.node r.cover.shape.is_expression p fault becomes (read as_expression o k v.mid P (given_index v) (in_text own)).0.fits)

            pub name_closed : (p : CursorState) (answer : Result (Modifiers × PropertyName) Fault) (fault : Fault) → IsErrAnd answer (λ w. w ≡ fault) → x.text ≡ s.text → IsSyntaxHere p fault → Misses x.text Punctuator (codes "]") x.last → Whole answer
            name_closed p answer fault err text here none = λ b f c o k to P d own.
                let v = inside d in
                let place = (read as_expression o k v.mid P (given_index v) (in_text own)).1.place in
                agrees_err (Room s o (height k) high) (Same b f c to) answer fault err
                (refuses_syntax (Room s o (height k) high) p fault here (none v.sign to (subst (λ w. Reads Token (SeenNext w) (behind_in w) Punctuator (codes "]") x.last v.sign to) (sym text) (subst (λ w. Reads Token (SeenNext s.text) (behind_in s.text) Punctuator (codes "]") w v.sign to) (sym place) v.closes))))

            pub name_computed : (k : PropertyName) → x.text ≡ s.text → k.computed ≡ true → ReadsHere x.text Punctuator (codes "]") x.last e.last → Whole (Ok (m, k))
            name_computed k text computed closes = λ b f c o n to P d own.
                let u = key_there d in
                let v = inside d in
                let place = (read as_expression o n v.mid P (given_index v) (in_text own)).1.place in
                (u.0, u.1, computed ∙ sym v.computed, (λ h. absurd (false≢true (sym h ∙ v.computed))), (marks_same s.text (subst (λ w. ReadsHere w Punctuator (codes "]") v.mid e.last) text (subst (λ w. ReadsHere x.text Punctuator (codes "]") w e.last) place closes)) v.closes).1)
