-- At a text's own places several goals may read a token behind one place. What a look at the next token asks for is the same of each of them, as a
-- language sees them.
use Rattle.std.proofs.Common.{◌≡◌, ℕ, Bool, true, false, not, ◌&&◌, ◌||◌, List, [], ◌∷◌, ◌++◌, refl, sym, ap, ◌∙◌, subst, arith, inl, inr, ◌⊎◌}
use Rattle.std.specs.Prelude.{nat_eq, slice_index_or, IsTrue, codes, encode_utf8_all, if◌then◌else◌}
use Rattle.std.proofs.lemmas.Bool.{eqb-true}
use Rattle.std.proofs.lemmas.Bool.Decides.{nat_tests}
use Rattle.std.specs.Str.{bytes_eq}
use Rattle.std.proofs.lemmas.Bool.{true≢false, false≢true}
use Rattle.std.proofs.lemmas.Slice.Eq.{bytes_eq-Decides}
use Rattle.tokens.specs.declared.token.TokenClass.{TokenClass}
use Rattle.tokens.specs.declared.token.TokenClass.TheVariants.{IdentifierName, Punctuator, Template, RegularExpressionLiteral}
use Rattle.tokens.specs.declared.token.Goal.{Goal}
use Rattle.tokens.specs.declared.token.Goal.TheVariants.{Div, TemplateTail}
use Rattle.tokens.specs.declared.token.Goal.TheVariants as goal
use Rattle.tokens.specs.Goals.{allows, is_regexp, is_template_part}
use Rattle.std.specs.Bool.{beq}
use Rattle.language.specs.Promises.{is_free, IsDetermined}
use Rattle.tokens.specs.Alphabet.{one_of, begins_with, is_decimal_digit}
use Rattle.tokens.specs.Lexical.{is_of, punctuators}
use Rattle.tokens.specs.TokenStarts.{class_of, class_by}
use Rattle.tokens.specs.Tokens.{LexicalToken, IsTokenAt}
use Rattle.tokens.specs.Reading.{any_goal}
use Rattle.tokens.proofs.Classes.{token_is, words_all, class_fits}
use Rattle.language.specs.Token.{Token, table_text, as_read}
use Rattle.language.specs.declared.Edge.{Edge}
use Rattle.language.specs.declared.Edge.TheVariants.{Arrow, Postfix, Other, Closed}
use Rattle.language.specs.Pieces.{Ending, of_do, of_export, behind_value, behind_key}
use Rattle.language.specs.Pieces as Pieces
use Rattle.language.specs.Vocabulary.{is, among}
use Rattle.language.specs.Edges.{is_end, is_sign, begins_no_operand, may_omit_semicolon, goes_on, value_goes_on, edge_as_written}
use Rattle.language.specs.declared.Language.{Language}
use Rattle.language.specs.Languages.{class_in, seen_in, Seen, seen_next}
use Rattle.language.specs.Places.{NextIn, next_in, itself}
use Rattle.language.proofs.texts.SeenTokens.{seen_behind, seen_determined, seen_alike}
use Rattle.language.proofs.texts.TextOffsets.{begins_same, turned_same, text_determined}
use Rattle.language.proofs.texts.TextAlike.{word_begins, same_rest, text_alike}
use Rattle.reading_laws.proofs.TailTable.{is_template_tail}

-- what one goal reads begins with `/` where what another reads does

table_slash : (c : TokenClass) (w : List ℕ) → begins_with (one_of "/") (table_text c w) ≡ begins_with (one_of "/") w
table_slash Template w = turned_same 47 refl refl w
table_slash _ w = refl

table_brace : (c : TokenClass) (w : List ℕ) → begins_with (one_of "}") (table_text c w) ≡ begins_with (one_of "}") w
table_brace Template w = turned_same 125 refl refl w
table_brace _ w = refl

module _ {g : Goal} {at : ℕ} {cs : List ℕ} {t : LexicalToken} {rest : List ℕ} (x : IsTokenAt g at cs t rest) where
  read_slash : begins_with (one_of "/") (as_read t).text ≡ begins_with (one_of "/") (x.word ++ rest)
  read_slash = table_slash t.class t.text ∙ ap (begins_with (one_of "/")) x.text ∙ begins_same 47 (omega arith) x.word ∙ sym (word_begins (one_of "/") t.class x.word rest x.longest)

  read_brace : begins_with (one_of "}") (as_read t).text ≡ begins_with (one_of "}") (x.word ++ rest)
  read_brace = table_brace t.class t.text ∙ ap (begins_with (one_of "}")) x.text ∙ begins_same 125 (omega arith) x.word ∙ sym (word_begins (one_of "}") t.class x.word rest x.longest)

  -- the class of what begins with `}` and with `/`
  brace_class : begins_with (one_of "}") (as_read t).text ≡ true → (t.class ≡ Template) ⊎ (t.class ≡ Punctuator)
  brace_class b = of (x.word ++ rest) (sym read_brace ∙ b) (class_fits g t.class x.word rest x.longest x.allowed)
    where
      at_first : (g : Goal) (c : ℕ) (d : Bool) → c ≡ 125 → t.class ≡ class_by g c d → (t.class ≡ Template) ⊎ (t.class ≡ Punctuator)
      at_first Div c d e h = inr (h ∙ ap (λ z. class_by Div z d) e)
      at_first goal.RegExp c d e h = inr (h ∙ ap (λ z. class_by goal.RegExp z d) e)
      at_first TemplateTail c d e h = inl (h ∙ ap (λ z. class_by TemplateTail z d) e)

      of : (w : List ℕ) → begins_with (one_of "}") w ≡ true → t.class ≡ class_of g w → (t.class ≡ Template) ⊎ (t.class ≡ Punctuator)
      of [] b h = absurd (false≢true b)
      of (c ∷ w) b h = at_first g c (begins_with is_decimal_digit w) (eqb-true c 125 b) h

  slash_class : begins_with (one_of "/") (as_read t).text ≡ true → (t.class ≡ RegularExpressionLiteral) ⊎ (t.class ≡ Punctuator)
  slash_class b = of (x.word ++ rest) (sym read_slash ∙ b) (class_fits g t.class x.word rest x.longest x.allowed)
    where
      at_first : (g : Goal) (c : ℕ) (d : Bool) → c ≡ 47 → t.class ≡ class_by g c d → (t.class ≡ RegularExpressionLiteral) ⊎ (t.class ≡ Punctuator)
      at_first Div c d e h = inr (h ∙ ap (λ z. class_by Div z d) e)
      at_first TemplateTail c d e h = inr (h ∙ ap (λ z. class_by TemplateTail z d) e)
      at_first goal.RegExp c d e h = inl (h ∙ ap (λ z. class_by goal.RegExp z d) e)

      of : (w : List ℕ) → begins_with (one_of "/") w ≡ true → t.class ≡ class_of g w → (t.class ≡ RegularExpressionLiteral) ⊎ (t.class ≡ Punctuator)
      of [] b h = absurd (false≢true b)
      of (c ∷ w) b h = at_first g c (begins_with is_decimal_digit w) (eqb-true c 47 b) h

  -- a punctuator that begins with `}` is `}`
  brace_text : t.class ≡ Punctuator → begins_with (one_of "}") (as_read t).text ≡ true → (as_read t).text ≡ codes "}"
  unfolding lib.Utf8.encode
  brace_text c b = ap (λ k. table_text k t.text) c ∙ x.text ∙ ap encode_utf8_all is_word
    where
      test : List ℕ → Bool
      test w = not (begins_with (one_of "}") w) || bytes_eq w (codes "}")

      second : (a d : Bool) → a ≡ true → IsTrue (not a || d) → d ≡ true
      second true d e h = h
      second false d e h = absurd (false≢true e)

      of_sign : IsTrue (is_of Punctuator x.word)
      of_sign = subst (λ k. IsTrue (is_of k x.word)) c (token_is t.class x.word rest x.longest)

      begun : begins_with (one_of "}") x.word ≡ true
      begun = sym (word_begins (one_of "}") t.class x.word rest x.longest) ∙ sym read_brace ∙ b

      is_word : x.word ≡ codes "}"
      is_word = (bytes_eq-Decides x.word (codes "}")).0 (second (begins_with (one_of "}") x.word) (bytes_eq x.word (codes "}")) begun (words_all punctuators test x.word refl of_sign))

module _ (text : List ℕ) (language : Language) where
  -- behind a place of the text a token is read, and seen by the language
  abbrev pub NextAny : Token → Token → Token → Type 0
  NextAny = Seen Token (NextIn text any_goal) language

  determined_here : IsDetermined Token NextAny (seen_behind Token (NextIn text any_goal) itself language)
  determined_here = seen_determined Token (NextIn text any_goal) itself language (text_determined text)

  same_slash : {s a b e f : Token} → NextAny s a e → NextAny s b f → begins_with (one_of "/") a.text ≡ begins_with (one_of "/") b.text
  same_slash (seen_next (next_in goal any x)) (seen_next (next_in other any' y)) = read_slash x ∙ ap (begins_with (one_of "/")) (same_rest x y) ∙ sym (read_slash y)

  same_brace : {s a b e f : Token} → NextAny s a e → NextAny s b f → begins_with (one_of "}") a.text ≡ begins_with (one_of "}") b.text
  same_brace x y = (seen_alike Token (NextIn text any_goal) itself language (text_alike text)).brace _ _ _ _ _ x y

  pub same_break : {s a b e f : Token} → NextAny s a e → NextAny s b f → a.after_break ≡ b.after_break
  same_break x y = determined_here.break _ _ _ _ _ x y

  pub same_start : {s a b e f : Token} → NextAny s a e → NextAny s b f → a.start ≡ b.start
  same_start x y = determined_here.start _ _ _ _ _ x y

  -- what begins with neither `/` nor `}` is the only token there
  plain_same : {s a b e f : Token} → NextAny s a e → NextAny s b f → begins_with (one_of "/") a.text ≡ false → begins_with (one_of "}") a.text ≡ false → a ≡ b
  plain_same {a = a} {b = b} x y p q =
      (determined_here.same Div _ _ _ _ _ x y (plain_allows a.class a.text p q) (plain_allows b.class b.text (sym (same_slash x y) ∙ p) (sym (same_brace x y) ∙ q))).0
    where
      plain_allows : (c : TokenClass) (w : List ℕ) → begins_with (one_of "/") w ≡ false → begins_with (one_of "}") w ≡ false → IsTrue (allows Div c w)
      plain_allows c [] p q = refl
      plain_allows c (d ∷ w) p q = of (one_of "/" d) (one_of "}" d) p q
        where
          of : (x y : Bool) → x ≡ false → y ≡ false → IsTrue (if x then beq (is_regexp c) false else if y then beq (is_template_part c) false else true)
          of true y p q = absurd (true≢false p)
          of false true p q = absurd (true≢false q)
          of false false p q = refl

  -- a name begins with neither
  pub name_same : {s a b e f : Token} → NextAny s a e → NextAny s b f → a.class ≡ IdentifierName → a ≡ b
  name_same {a = a} x y c = plain_same x y no_slash no_brace
    where
      free : (g : Goal) → IsTrue (allows g a.class a.text)
      free g = determined_here.free g _ _ _ x (ap is_free c)

      no_slash : begins_with (one_of "/") a.text ≡ false
      no_slash = of (begins_with (one_of "/") a.text) (begins_with (one_of "}") a.text) (subst (λ k. IsTrue (allows goal.RegExp k a.text)) c (free goal.RegExp))
        where
          of : (x y : Bool) → IsTrue (if x then beq (is_regexp IdentifierName) true else if y then beq (is_template_part IdentifierName) false else true) → x ≡ false
          of true y h = absurd (false≢true h)
          of false y h = refl

      no_brace : begins_with (one_of "}") a.text ≡ false
      no_brace = of (begins_with (one_of "/") a.text) (begins_with (one_of "}") a.text) no_slash (subst (λ k. IsTrue (allows TemplateTail k a.text)) c (free TemplateTail))
        where
          of : (x y : Bool) → x ≡ false → IsTrue (if x then beq (is_regexp IdentifierName) false else if y then beq (is_template_part IdentifierName) true else true) → y ≡ false
          of true y p h = absurd (true≢false p)
          of false true p h = absurd (false≢true h)
          of false false p h = refl

  -- before `}` the ending may be missing, unless that begins a TemplateMiddle or TemplateTail
  brace_misses : {s t e : Token} (x : Ending) (l : Token) → NextAny s t e → begins_with (one_of "}") t.text ≡ true → is_template_tail t.class t.text ≡ false → IsTrue (may_omit_semicolon x l t)
  brace_misses x l (seen_next (next_in {t = u} goal any y)) b n = of (brace_class y b)
    where
      of : (u.class ≡ Template) ⊎ (u.class ≡ Punctuator) → IsTrue (may_omit_semicolon x l (seen_in language (as_read u)))
      of (inl c) = absurd (true≢false (sym b ∙ sym (ap (λ k. is_template_tail (class_in language k (as_read u).text) (as_read u).text) c) ∙ n))
      of (inr c) = let z = brace_text y c b in subst (λ v. IsTrue (may_omit_semicolon x l (seen_in language v))) (sym (λ i. record (as_read u) { class = c i; text = z i })) refl

  -- before `/` the edge alone and the line break say whether it may
  is_held : Edge → Bool
  is_held Arrow = false
  is_held Closed = false
  is_held Postfix = true
  is_held Other = true

  slash_misses : Ending → Token → Bool → Bool
  slash_misses of_do l b = true
  slash_misses of_export l b = b && true
  slash_misses (Pieces.behind e) l b = b && not (is_held (edge_as_written e l))
  slash_misses (behind_value e) l b = b && not (is_held (edge_as_written e l))
  slash_misses (behind_key w s) l b = b && not ((among w ("get" ∷ "set" ∷ []) && false) || ((is w "static" && not s) && false))

  abbrev slashed : TokenClass → List ℕ → Token → Token
  slashed k w t = record t { class = k; text = 47 ∷ w }

  held_sign : (e : Edge) (w : List ℕ) (t : Token) → goes_on e (slashed Punctuator w t) ≡ is_held e
  unfolding is_held
  held_sign Arrow w t = refl
  held_sign Closed w t = refl
  held_sign Postfix w t = refl
  held_sign Other w t = refl

  held_regexp : (e : Edge) (w : List ℕ) (t : Token) → goes_on e (slashed RegularExpressionLiteral w t) ≡ is_held e
  unfolding is_held
  held_regexp Arrow w t = refl
  held_regexp Closed w t = refl
  held_regexp Postfix w t = refl
  held_regexp Other w t = refl

  value_sign : (e : Edge) (w : List ℕ) (t : Token) → value_goes_on e (slashed Punctuator w t) ≡ is_held e
  unfolding is_held
  value_sign Arrow w t = refl
  value_sign Closed w t = refl
  value_sign Postfix w t = refl
  value_sign Other w t = refl

  value_regexp : (e : Edge) (w : List ℕ) (t : Token) → value_goes_on e (slashed RegularExpressionLiteral w t) ≡ is_held e
  unfolding is_held
  value_regexp Arrow w t = refl
  value_regexp Closed w t = refl
  value_regexp Postfix w t = refl
  value_regexp Other w t = refl

  sign_misses : (x : Ending) (l : Token) (w : List ℕ) (t : Token) → may_omit_semicolon x l (slashed Punctuator w t) ≡ slash_misses x l t.after_break
  unfolding slash_misses
  sign_misses of_do l w t = refl
  sign_misses of_export l w t = refl
  sign_misses (Pieces.behind e) l w t = ap (λ z. t.after_break && not z) (held_sign (edge_as_written e l) w t)
  sign_misses (behind_value e) l w t = ap (λ z. t.after_break && not z) (value_sign (edge_as_written e l) w t)
  sign_misses (behind_key v s) l w t = refl

  regexp_misses : (x : Ending) (l : Token) (w : List ℕ) (t : Token) → may_omit_semicolon x l (slashed RegularExpressionLiteral w t) ≡ slash_misses x l t.after_break
  unfolding slash_misses
  regexp_misses of_do l w t = refl
  regexp_misses of_export l w t = refl
  regexp_misses (Pieces.behind e) l w t = ap (λ z. t.after_break && not z) (held_regexp (edge_as_written e l) w t)
  regexp_misses (behind_value e) l w t = ap (λ z. t.after_break && not z) (value_regexp (edge_as_written e l) w t)
  regexp_misses (behind_key v s) l w t = refl

  misses_slash : {s t e : Token} (x : Ending) (l : Token) → NextAny s t e → begins_with (one_of "/") t.text ≡ true → may_omit_semicolon x l t ≡ slash_misses x l t.after_break
  misses_slash x l (seen_next (next_in {t = u} goal any y)) b = of (as_read u).text refl b
    where
      of : (w : List ℕ) → (as_read u).text ≡ w → begins_with (one_of "/") w ≡ true → may_omit_semicolon x l (seen_in language (as_read u)) ≡ slash_misses x l u.after_break
      of [] z h = absurd (false≢true h)
      of (c ∷ w) z h = by (slash_class y b)
        where
          front : (as_read u).text ≡ 47 ∷ w
          front = z ∙ ap (λ d. d ∷ w) (eqb-true c 47 h)

          by : (u.class ≡ RegularExpressionLiteral) ⊎ (u.class ≡ Punctuator) → may_omit_semicolon x l (seen_in language (as_read u)) ≡ slash_misses x l u.after_break
          by (inl k) = ap (λ z. may_omit_semicolon x l (seen_in language z)) (λ i. record (as_read u) { class = k i; text = front i }) ∙ regexp_misses x l w (as_read u)
          by (inr k) = ap (λ z. may_omit_semicolon x l (seen_in language z)) (λ i. record (as_read u) { class = k i; text = front i }) ∙ sign_misses x l w (as_read u)

  -- where the ending may be missing before one token that is read here, it may be before each that is no TemplateMiddle or TemplateTail
  pub may_keep : {s t u e f : Token} (x : Ending) (l : Token) → NextAny s t e → NextAny s u f → is_template_tail u.class u.text ≡ false → IsTrue (may_omit_semicolon x l t) → IsTrue (may_omit_semicolon x l u)
  may_keep {s} {t} {u} x l a b n h = of (begins_with (one_of "}") u.text) (begins_with (one_of "/") u.text) refl refl
    where
      of : (p q : Bool) → begins_with (one_of "}") u.text ≡ p → begins_with (one_of "/") u.text ≡ q → IsTrue (may_omit_semicolon x l u)
      of true q e g = brace_misses x l b e n
      of false false e g = subst (λ z. IsTrue (may_omit_semicolon x l z)) (sym (plain_same b a g e)) h
      of false true e g = misses_slash x l b g ∙ ap (slash_misses x l) (same_break b a) ∙ sym (misses_slash x l a (same_slash a b ∙ g)) ∙ h

  first_brace : (w : List ℕ) → begins_with (one_of "}") w ≡ true → nat_eq (slice_index_or w 0 0) 125 ≡ true
  first_brace [] h = absurd (false≢true h)
  first_brace (c ∷ cs) h = h

  slash_first : (w : List ℕ) → begins_with (one_of "/") w ≡ true → (v : List ℕ) × (w ≡ 47 ∷ v)
  slash_first [] h = absurd (false≢true h)
  slash_first (c ∷ cs) h = (cs, ap (λ z. z ∷ cs) (is_slash c h))
    where
      is_slash : (c : ℕ) → one_of "/" c ≡ true → c ≡ 47
      is_slash c h = grind (arith, nat_tests)

  -- before what begins with `/` only a line break closes
  slash_closes : {s t e : Token} → NextAny s t e → begins_with (one_of "/") t.text ≡ true → begins_no_operand t ≡ true → t.after_break ≡ true
  slash_closes (seen_next (next_in {t = k} goal any x)) h c = of (slash_class x h)
    where
      v : (v : List ℕ) × ((as_read k).text ≡ 47 ∷ v)
      v = slash_first (as_read k).text h

      with_text : begins_no_operand (seen_in language (record (as_read k) { text = 47 ∷ v.0 })) ≡ true
      with_text = ap (λ w. begins_no_operand (seen_in language (record (as_read k) { text = w }))) (sym v.1) ∙ c

      by : (d : TokenClass) → k.class ≡ d → begins_no_operand (seen_in language (record (as_read k) { class = d; text = 47 ∷ v.0 })) ≡ true
      by d e = ap (λ z. begins_no_operand (seen_in language (record (as_read k) { class = z; text = 47 ∷ v.0 }))) (sym e) ∙ with_text

      only_break : (b : Bool) → (b || false) ≡ true → b ≡ true
      only_break true e = refl
      only_break false e = e

      of : (k.class ≡ RegularExpressionLiteral) ⊎ (k.class ≡ Punctuator) → k.after_break ≡ true
      of (inl e) = only_break k.after_break (by RegularExpressionLiteral e)
      of (inr e) = only_break k.after_break (by Punctuator e)

  -- what begins no operand by one goal begins none by another
  pub bare_keep : {s t u e f : Token} → NextAny s t e → NextAny s u f → begins_no_operand t ≡ true → begins_no_operand u ≡ true
  bare_keep {t = t} {u = u} x y h = of (begins_with (one_of "}") u.text) (begins_with (one_of "/") u.text) refl refl
    where
      or_on : (a b : Bool) → b ≡ true → (a || (b || (is_sign u && among u.text (")" ∷ "]" ∷ "," ∷ ";" ∷ ":" ∷ [])))) ≡ true
      or_on true b e = refl
      or_on false true e = refl
      or_on false false e = absurd (false≢true e)

      braced : (z : Bool) → nat_eq (slice_index_or u.text 0 0) 125 ≡ true → (z || (is_end u || (nat_eq (slice_index_or u.text 0 0) 125 || (is_sign u && among u.text (")" ∷ "]" ∷ "," ∷ ";" ∷ ":" ∷ []))))) ≡ true
      braced true e = refl
      braced false e = or_on (is_end u) (nat_eq (slice_index_or u.text 0 0) 125) e

      broken : (z w : Bool) → z ≡ true → (z || w) ≡ true
      broken true w e = refl
      broken false w e = absurd (false≢true e)

      of : (p q : Bool) → begins_with (one_of "}") u.text ≡ p → begins_with (one_of "/") u.text ≡ q → begins_no_operand u ≡ true
      of true q e f = braced u.after_break (first_brace u.text e)
      of false false e f = subst (λ z. begins_no_operand z ≡ true) (sym (plain_same y x f e)) h
      of false true e f = broken u.after_break _ (same_break y x ∙ slash_closes x (same_slash x y ∙ f) h)
