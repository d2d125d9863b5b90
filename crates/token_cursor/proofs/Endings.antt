-- Where a statement ends, by what the goal Div reads ahead.
use Rattle.std.proofs.Common.{◌≡◌, ◌≢◌, ℕ, ◌<◌, Bool, true, false, not, ◌&&◌, ◌||◌, ◌==◌, List, [], ◌∷◌, ◌++◌, IsTrue, refl, sym, ap, ◌∙◌, subst, arith, inl, inr, ◌⊎◌}
use Rattle.std.specs.Prelude.{cond, nat_eq, slice_index_or, codes, if◌then◌else◌}
use Rattle.std.specs.Str.{IsUtf8, bytes_eq}
use Rattle.std.proofs.lemmas.Bool.{eqb-true}
use Rattle.std.proofs.lemmas.Bool.Decides.{nat_tests}
use Rattle.std.proofs.lemmas.Slice.Eq.{bytes_eq-Decides}
use Rattle.source_text.specs.Source.{IsPlace}
use Rattle.tokens.specs.declared.token.TokenClass.{TokenClass}
use Rattle.tokens.specs.declared.token.TokenClass.TheVariants.{IdentifierName, Punctuator, Template, Keyword, End}
use Rattle.tokens.specs.declared.token.Goal.{Goal}
use Rattle.tokens.specs.declared.token.Goal.TheVariants.{Div}
use Rattle.tokens.specs.Templates.{raw_value, raw_after}
use Rattle.tokens.specs.Tokens.{LexicalToken}
use Rattle.tokens.specs.Reading.{behind, Reads as ReadsToken}
use Rattle.tokens.proofs.TokenUniqueness.{determined}
use Rattle.language.specs.declared.Edge.{Edge}
use Rattle.language.specs.declared.Edge.TheVariants.{Arrow, Postfix, Other, Closed}
use Rattle.language.specs.Vocabulary.{is, is_keyword}
use Rattle.language.specs.Token.{Token, as_read, table_text}
use Rattle.language.specs.declared.Language.{Language}
use Rattle.language.specs.Languages.{is_of_2022, class_in, seen_in, seen_next}
use Rattle.language.specs.Edges.{may_omit_semicolon, is_semicolon, is_sign, is_sign_class, is_end, edge_as_written, goes_on, value_goes_on, key_goes_on, begins_key, is_word, begins}
use Rattle.language.specs.Derivation.{Reads, explicit, implicit}
use Rattle.language.specs.Places.{next_in}
use Rattle.token_cursor.specs.declared.semicolon.StatementEnd.{StatementEnd}
use Rattle.token_cursor.specs.declared.semicolon.StatementEnd.TheVariants.{DoWhile, AfterExpression, AfterExport, AfterValue, AfterKey}
use Rattle.token_cursor.specs.declared.semicolon.FieldKey.{FieldKey}
use Rattle.token_cursor.specs.declared.semicolon.FieldKey.TheVariants.{Accessor, Static, Other as OtherKey}
use Rattle.token_cursor.specs.SourceText.{SourceText, SeenNext, behind_in, unseen}
use Rattle.token_cursor.specs.CursorState.{depends, IsAhead, NoneAhead}
use Rattle.token_cursor.specs.StatementEnds.{ending_of, EndsAt, IsEnd}
use Rattle.token_cursor.proofs.Moves.{moved, moved_same, DivReads, div_reads}
use Rattle.token_cursor.proofs.SeenTokens.{read_as_seen}
use Rattle.token_cursor.proofs.TokensAhead.{ahead_place, ahead_next}

-- a punctuator's text is read as it stands
sign_text : (t : LexicalToken) → t.class ≡ Punctuator → (as_read t).text ≡ t.text
sign_text t e = ap (λ c. table_text c t.text) e

-- the first byte that is read, where it is none of a line end
begins_same : (t : LexicalToken) (k : ℕ) → 13 < k → begins (as_read t) k ≡ nat_eq (slice_index_or t.text 0 0) k
begins_same t k h = by t.class t.text where
  neither : (k : ℕ) → 13 < k → nat_eq 10 k ≡ nat_eq 13 k
  neither k h = grind (arith, nat_tests)

  by : (c : TokenClass) (w : List ℕ) → nat_eq (slice_index_or (table_text c w) 0 0) k ≡ nat_eq (slice_index_or w 0 0) k
  by Template [] = refl
  by Template (d ∷ w) = turned (d == 13) refl where
    kept : (b : Bool) (rest : List ℕ) → b ≡ false → nat_eq (slice_index_or ((if b then 10 ∷ [] else d ∷ []) ++ rest) 0 0) k ≡ nat_eq d k
    kept false rest e = refl
    kept true rest e = cc

    turned : (b : Bool) → (d == 13) ≡ b → nat_eq (slice_index_or (raw_value (d ∷ w)) 0 0) k ≡ nat_eq d k
    turned true e = subst (λ y. nat_eq (slice_index_or (raw_value (y ∷ w)) 0 0) k ≡ nat_eq y k) (sym (eqb-true d 13 e)) (neither k h)
    turned false e = kept (d == 13) (raw_after (d == 13) w) e
  by _ w = refl

-- a `)` is read as it stands
pub close_same : (t : LexicalToken) → is (as_read t).text ")" ≡ is t.text ")"
close_same t = by t.class t.text where
  rest_empty : (w : List ℕ) → bytes_eq (raw_after false w) [] ≡ bytes_eq w []
  rest_empty [] = refl
  rest_empty (d ∷ w) = by (d == 13) (raw_after (d == 13) w) where
    by : (b : Bool) (rest : List ℕ) → bytes_eq ((if b then 10 ∷ [] else d ∷ []) ++ rest) [] ≡ false
    by true rest = refl
    by false rest = refl

  turned : (d : ℕ) (w : List ℕ) (b : Bool) → (d == 13) ≡ b → is (raw_value (d ∷ w)) ")" ≡ is (d ∷ w) ")"
  turned d w true e = subst (λ y. is (raw_value (y ∷ w)) ")" ≡ is (y ∷ w) ")") (sym (eqb-true d 13 e)) refl
  turned d w false e = kept (d == 13) e where
    kept : (b : Bool) → b ≡ false → is ((if b then 10 ∷ [] else d ∷ []) ++ raw_after b w) ")" ≡ is (d ∷ w) ")"
    kept false e = ap (λ x. (d == 41) && x) (rest_empty w)
    kept true e = cc

  by : (c : TokenClass) (w : List ℕ) → is (table_text c w) ")" ≡ is w ")"
  by Template [] = refl
  by Template (d ∷ w) = turned d w (d == 13) refl
  by _ w = refl

-- what is read behind a place, by some goal, before the language sees it
record ReadThere (text : SourceText) (s t e : Token) : Type 0 where
  goal : Goal
  token : LexicalToken
  read : ReadsToken text.bytes goal s.stop token
  is : t ≡ as_read (seen_in text.language token)
  stops : e ≡ as_read token

from_next : {text : SourceText} {s t e : Token} → SeenNext text s t e → ReadThere text s t e
from_next {text} (seen_next (next_in {t = u} goal allowed h)) = record { goal = goal; token = u; read = h; is = sym (read_as_seen text.language u); stops = refl }

-- a semicolon, as it is read and as it stands
semicolon_is : (t : LexicalToken) → t.class ≡ Punctuator → t.text ≡ codes ";" → is_semicolon (as_read t) ≡ true
semicolon_is t e f = ap (λ c. is_sign_class c && is (table_text c t.text) ";") e ∙ ap (λ w. is w ";") f

record IsSemicolon (t : LexicalToken) : Type 0 where
  class : t.class ≡ Punctuator
  text : t.text ≡ codes ";"

semicolon_from : (t : LexicalToken) → is_semicolon (as_read t) ≡ true → IsSemicolon t
semicolon_from t h = let u = by t.class t.text h in record { class = u.0; text = u.1 } where
  by : (c : TokenClass) (w : List ℕ) → (is_sign_class c && is (table_text c w) ";") ≡ true → (c ≡ Punctuator) × (w ≡ codes ";")
  by Punctuator w h = (refl, (bytes_eq-Decides w (codes ";")).0 h)
  by _ w h = cc

semicolon_free : (t : LexicalToken) → IsSemicolon t → depends t.text ≡ false
semicolon_free t h = ap depends h.text

-- a `;` that is read where the table asks for one
semicolon_read : {text : SourceText} {s t e : Token} → (r : Reads Token (SeenNext text) (behind_in text) Punctuator (codes ";") s t e) → (u : LexicalToken) → t ≡ as_read u → IsSemicolon u
semicolon_read r u q =
    let class : u.class ≡ Punctuator = sym (ap (λ (x : Token). x.class) q) ∙ r.class in
    record { class = class; text = sym (sign_text u class) ∙ sym (ap (λ (x : Token). x.text) q) ∙ r.text }

missing_no_semicolon : (b c : Bool) → IsTrue (not b && c) → b ≡ true → ⊥
missing_no_semicolon b c h e = grind (arith, nat_tests)

no_both : (b : Bool) → b ≡ true → b ≡ false → ⊥
no_both b p q = cc

-- a class that is seen as the end is that
end_seen : (l : Language) (c : TokenClass) (w : List ℕ) → c ≢ End → class_in l c w ≢ End
end_seen l IdentifierName w h e = by (is_of_2022 l && is_keyword w) e where
  by : (b : Bool) → cond b Keyword IdentifierName ≡ End → ⊥
  by true h = cc
  by false h = cc
end_seen l c w h e = h e

module _ (text : SourceText) (x : StatementEnd) (s : Token) (t : LexicalToken) (utf8 : IsUtf8 text.bytes) (p : IsPlace text.bytes s.stop) (a : IsAhead Div text s.stop t) where
  -- the token that another goal reads there, where that doesn't depend on the goal
  same_scanned : (goal : Goal) (w : LexicalToken) → ReadsToken text.bytes goal s.stop w → depends w.text ≡ false → w ≡ a.scanned
  same_scanned goal w h d = moved_same text.bytes goal Div s.stop w a.scanned utf8 p d h a.read

  seen_same : (w : LexicalToken) → w ≡ a.scanned → seen_in text.language w ≡ t
  seen_same w e = ap (seen_in text.language) e ∙ sym a.seen

  -- the `;` ends it there, and nowhere else
  pub ends_behind_semicolon : is_semicolon (as_read t) ≡ true → IsEnd text x s (unseen (as_read t))
  ends_behind_semicolon q =
      let c = semicolon_from t q in
      record { ends = explicit (record { next = ahead_next text Div s t a; class = c.class; text = sign_text t c.class ∙ c.text }); only = λ other h. alone c h }
    where
      same : IsSemicolon t → (goal : Goal) (w : LexicalToken) → ReadsToken text.bytes goal s.stop w → a.scanned ≡ w
      same c goal w h = moved_same text.bytes Div goal s.stop a.scanned w utf8 p (ap (λ (y : LexicalToken). depends y.text) (sym a.seen) ∙ semicolon_free t c) a.read h

      alone : IsSemicolon t → {other : Token} → EndsAt text x s other → other ≡ unseen (as_read t)
      alone c (explicit r) = let f = from_next r.next in f.stops ∙ ap as_read (sym (same c f.goal f.token f.read)) ∙ sym (ahead_place text a)
      alone c (implicit n m) =
          let f = from_next n in
          absurd (missing_no_semicolon (is_semicolon (as_read t)) _ (subst (λ y. IsTrue (may_omit_semicolon (ending_of x) (behind_in text s) y)) (f.is ∙ ap as_read (seen_same f.token (sym (same c f.goal f.token f.read)))) m) q)

  -- no `;` is read where Div reads none
  no_explicit : is_semicolon (as_read t) ≡ false → {v e : Token} → Reads Token (SeenNext text) (behind_in text) Punctuator (codes ";") s v e → ⊥
  no_explicit q r =
      let f = from_next r.next in
      let c = semicolon_read r (seen_in text.language f.token) f.is in
      let same = seen_same f.token (same_scanned f.goal f.token f.read (semicolon_free (seen_in text.language f.token) c)) in
      no_both (is_semicolon (as_read t)) (ap (λ y. is_semicolon (as_read y)) (sym same) ∙ semicolon_is (seen_in text.language f.token) c.class c.text) q

  -- where it may be missing it ends here, and nowhere else
  pub ends_here : is_semicolon (as_read t) ≡ false → may_omit_semicolon (ending_of x) (behind_in text s) (as_read t) ≡ true → IsEnd text x s s
  ends_here q m = record { ends = implicit (ahead_next text Div s t a) m; only = λ other h. alone h } where
    alone : {other : Token} → EndsAt text x s other → other ≡ s
    alone (explicit r) = absurd (no_explicit q r)
    alone (implicit n k) = refl

-- ---- where it doesn't end

not_end : (t : Token) → t.class ≢ End → is_end t ≡ false
not_end t h = by t.class h where
  by : (c : TokenClass) → c ≢ End → is_end (record t { class = c }) ≡ false
  by End h = absurd (h refl)
  by _ h = refl

no_brace : (w : List ℕ) → nat_eq (slice_index_or w 0 0) 47 ≡ true → is w "}" ≡ false
no_brace [] h = cc
no_brace (b ∷ bs) h = by (bytes_eq bs []) h where
  by : (z : Bool) → nat_eq b 47 ≡ true → ((b == 125) && z) ≡ false
  by z e = grind (arith, nat_tests)

loud : (a b c d g k : Bool) → c ≡ false → d ≡ false → g ≡ true → IsTrue (not b && ((c || (a && d)) || (k && not g))) → ⊥
loud a b c d g k p q r h = grind (arith, nat_tests)

-- what begins with `/` is no text that begins otherwise
other_text : (w : List ℕ) (d : ℕ) (ds : List ℕ) → nat_eq (slice_index_or w 0 0) 47 ≡ true → nat_eq d 47 ≡ false → bytes_eq w (d ∷ ds) ≡ false
other_text [] d ds h k = refl
other_text (b ∷ bs) d ds h k = by (bytes_eq bs ds) h k where
  by : (z : Bool) → nat_eq b 47 ≡ true → nat_eq d 47 ≡ false → ((b == d) && z) ≡ false
  by z e f = grind (arith, nat_tests)

-- where all that begins with `/` is seen, they are the same
slash_misses : (x : StatementEnd) (s : Token) (w t : LexicalToken) → t.after_break ≡ w.after_break → w.class ≢ End → t.class ≡ Punctuator → slice_index_or w.text 0 0 ≡ 47 → slice_index_or t.text 0 0 ≡ 47 →
    is_semicolon (as_read t) ≡ false → IsTrue (may_omit_semicolon (ending_of x) s (as_read w)) → may_omit_semicolon (ending_of x) s (as_read t) ≡ true
slash_misses x s w t broken solid sign fw ft q m = by x m where
  seen : (v : LexicalToken) → slice_index_or v.text 0 0 ≡ 47 → begins (as_read v) 47 ≡ true
  seen v f = begins_same v 47 (omega arith) ∙ ap (λ b. nat_eq b 47) f

  end : is_end (as_read w) ≡ false
  end = not_end (as_read w) solid

  brace : is (as_read w).text "}" ≡ false
  brace = no_brace (as_read w).text (seen w fw)

  always : (a b c : Bool) → a ≡ false → (not a && (b || true)) ≡ true
  always a b c e = grind (arith, nat_tests)

  either : (a b c : Bool) → b ≡ true → (a || b) ≡ true
  either a b c e = grind (arith, nat_tests)

  front : (a b c : Bool) → b ≡ true → (a || (b || c)) ≡ true
  front a b c e = grind (arith, nat_tests)

  quietly : IsTrue (not (is_semicolon (as_read w)) && ((is_end (as_read w) || (is_sign (as_read w) && is (as_read w).text "}")) || (w.after_break && not false))) →
      (not (is_semicolon (as_read t)) && ((is_end (as_read t) || (is_sign (as_read t) && is (as_read t).text "}")) || (t.after_break && not false))) ≡ true
  quietly h = quietly_by (is_sign (as_read w)) (is_semicolon (as_read w)) (is_end (as_read w)) (is (as_read w).text "}") (is_semicolon (as_read t)) (is_end (as_read t) || (is_sign (as_read t) && is (as_read t).text "}")) w.after_break t.after_break end brace q broken h where
    quietly_by : (a b c d e f k l : Bool) → c ≡ false → d ≡ false → e ≡ false → l ≡ k → IsTrue (not b && ((c || (a && d)) || (k && not false))) → (not e && (f || (l && not false))) ≡ true
    quietly_by a b c d e f k l p q r s h = grind (arith, nat_tests)

  loudly : (g : Bool) → g ≡ true → IsTrue (not (is_semicolon (as_read w)) && ((is_end (as_read w) || (is_sign (as_read w) && is (as_read w).text "}")) || (w.after_break && not g))) → ⊥
  loudly g e h = loud (is_sign (as_read w)) (is_semicolon (as_read w)) (is_end (as_read w)) (is (as_read w).text "}") g w.after_break end brace e h

  by_edge : (e : Edge) → IsTrue (not (is_semicolon (as_read w)) && ((is_end (as_read w) || (is_sign (as_read w) && is (as_read w).text "}")) || (w.after_break && not (goes_on e (as_read w))))) →
      (not (is_semicolon (as_read t)) && ((is_end (as_read t) || (is_sign (as_read t) && is (as_read t).text "}")) || (t.after_break && not (goes_on e (as_read t))))) ≡ true
  by_edge Arrow h = quietly h
  by_edge Closed h = quietly h
  by_edge Postfix h = absurd (loudly (goes_on Postfix (as_read w)) (either _ (begins (as_read w) 47) true (seen w fw)) h)
  by_edge Other h = absurd (loudly (goes_on Other (as_read w)) (front _ (begins (as_read w) 47) (begins (as_read w) 96) (seen w fw)) h)

  -- where the token that Div reads doesn't go on
  silent : (g k : Bool) → k ≡ false → IsTrue (not (is_semicolon (as_read w)) && ((is_end (as_read w) || (is_sign (as_read w) && is (as_read w).text "}")) || (w.after_break && not g))) →
      (not (is_semicolon (as_read t)) && ((is_end (as_read t) || (is_sign (as_read t) && is (as_read t).text "}")) || (t.after_break && not k))) ≡ true
  silent g k e h = silent_by (is_sign (as_read w)) (is_semicolon (as_read w)) (is_end (as_read w)) (is (as_read w).text "}") (is_semicolon (as_read t)) (is_end (as_read t) || (is_sign (as_read t) && is (as_read t).text "}")) w.after_break t.after_break g k end brace q broken e h where
    silent_by : (a b c d e f m l g k : Bool) → c ≡ false → d ≡ false → e ≡ false → l ≡ m → k ≡ false → IsTrue (not b && ((c || (a && d)) || (m && not g))) → (not e && (f || (l && not k))) ≡ true
    silent_by a b c d e f m l g k p q r s u h = grind (arith, nat_tests)

  unlike : (d : ℕ) (ds : List ℕ) → nat_eq d 47 ≡ false → bytes_eq (as_read t).text (d ∷ ds) ≡ false
  unlike d ds k = other_text (as_read t).text d ds (seen t ft) k

  by_value : (e : Edge) → IsTrue (not (is_semicolon (as_read w)) && ((is_end (as_read w) || (is_sign (as_read w) && is (as_read w).text "}")) || (w.after_break && not (value_goes_on e (as_read w))))) →
      (not (is_semicolon (as_read t)) && ((is_end (as_read t) || (is_sign (as_read t) && is (as_read t).text "}")) || (t.after_break && not (value_goes_on e (as_read t))))) ≡ true
  by_value Arrow h = quietly h
  by_value Closed h = quietly h
  by_value Postfix h = absurd (loudly (value_goes_on Postfix (as_read w)) (front_or _ (begins (as_read w) 47) _ (seen w fw)) h) where
    front_or : (a b c : Bool) → b ≡ true → ((a || b) || c) ≡ true
    front_or a b c e = grind (arith, nat_tests)
  by_value Other h = absurd (loudly (value_goes_on Other (as_read w)) (front_or _ (begins (as_read w) 47) (begins (as_read w) 96) _ (seen w fw)) h) where
    front_or : (a b c d : Bool) → b ≡ true → ((a || (b || c)) || d) ≡ true
    front_or a b c d e = grind (arith, nat_tests)

  no_begin : begins_key (as_read t) ≡ false
  no_begin = ap (λ c. begins_key (record (as_read t) { class = c })) sign ∙ unlike 91 [] refl

  no_key : key_goes_on (codes "get") false (as_read t) ≡ false
  no_key = or_false (begins_key (as_read t)) no_begin where
    or_false : (b : Bool) → b ≡ false → (b || false) ≡ false
    or_false b e = grind (arith, nat_tests)

  no_static : key_goes_on (codes "static") false (as_read t) ≡ false
  no_static = neither (begins_key (as_read t)) (is_sign (as_read t)) (is (as_read t).text "*") no_begin (unlike 42 [] refl) where
    neither : (a b c : Bool) → a ≡ false → c ≡ false → (a || (b && c)) ≡ false
    neither a b c e f = grind (arith, nat_tests)

  by_key : (k : FieldKey) → IsTrue (may_omit_semicolon (ending_of (AfterKey k)) s (as_read w)) → may_omit_semicolon (ending_of (AfterKey k)) s (as_read t) ≡ true
  by_key Accessor h = silent (key_goes_on (codes "get") false (as_read w)) _ no_key h
  by_key Static h = silent (key_goes_on (codes "static") false (as_read w)) _ no_static h
  by_key OtherKey h = quietly h

  by : (x : StatementEnd) → IsTrue (may_omit_semicolon (ending_of x) s (as_read w)) → may_omit_semicolon (ending_of x) s (as_read t) ≡ true
  by DoWhile h = always (is_semicolon (as_read t)) _ true q
  by (AfterExpression e) h = by_edge (edge_as_written e s) h
  by AfterExport h = silent (is_word (as_read w) && is (as_read w).text "from") (is_word (as_read t) && is (as_read t).text "from") (no_from (is_word (as_read t)) (is (as_read t).text "from") (unlike 102 (codes "rom") refl)) h where
    no_from : (a b : Bool) → b ≡ false → (a && b) ≡ false
    no_from a b e = grind (arith, nat_tests)
  by (AfterValue e) h = by_value (edge_as_written e s) h
  by (AfterKey k) h = by_key k h

module _ (text : SourceText) (x : StatementEnd) (s : Token) (t : LexicalToken) (utf8 : IsUtf8 text.bytes) (p : IsPlace text.bytes s.stop) (a : IsAhead Div text s.stop t) where
  -- it doesn't end where neither is there
  pub ends_nowhere : is_semicolon (as_read t) ≡ false → may_omit_semicolon (ending_of x) (behind_in text s) (as_read t) ≡ false → (e : Token) → EndsAt text x s e → ⊥
  ends_nowhere q m e (explicit r) = no_explicit text x s t utf8 p a q r
  ends_nowhere q m e (implicit n k) =
      let f = from_next n in
      let k : IsTrue (may_omit_semicolon (ending_of x) (behind_in text s) (as_read (seen_in text.language f.token))) = subst (λ y. IsTrue (may_omit_semicolon (ending_of x) (behind_in text s) y)) f.is k in
      by f.goal f.token f.read k (depends f.token.text) refl
    where
      there : (w : LexicalToken) → w ≡ a.scanned → IsTrue (may_omit_semicolon (ending_of x) (behind_in text s) (as_read (seen_in text.language w))) → ⊥
      there w same k = no_both (may_omit_semicolon (ending_of x) (behind_in text s) (as_read t)) (subst (λ y. IsTrue (may_omit_semicolon (ending_of x) (behind_in text s) (as_read y))) (seen_same text x s t utf8 p a w same) k) m

      brace_misses : t.class ≡ Punctuator → t.text ≡ codes "}" → may_omit_semicolon (ending_of x) (behind_in text s) (as_read t) ≡ true
      brace_misses c w = all (is_semicolon (as_read t)) (is_end (as_read t)) (is_sign (as_read t) && is (as_read t).text "}") _ q
          (ap (λ c. is_sign_class c && is (table_text c t.text) "}") c ∙ ap (λ w. is w "}") w) where
            all : (a b c d : Bool) → a ≡ false → c ≡ true → (not a && ((b || c) || d)) ≡ true
            all a b c d e f = grind (arith, nat_tests)

      sign : (d : LexicalToken) → d ≡ a.scanned → d.class ≡ Punctuator → t.class ≡ Punctuator
      sign d same c = ap (λ (y : LexicalToken). y.class) (sym (seen_same text x s t utf8 p a d same)) ∙ ap (λ e. class_in text.language e d.text) c

      other : (w : LexicalToken) → IsTrue (may_omit_semicolon (ending_of x) (behind_in text s) (as_read (seen_in text.language w))) → (d : DivReads text.bytes s.stop w) → d.token ≡ a.scanned → ⊥
      other w k d same = of d.first where
        text_is : t.text ≡ d.token.text
        text_is = ap (λ (y : LexicalToken). y.text) (a.seen ∙ ap (seen_in text.language) (sym same))

        of : (d.token.text ≡ codes "}") ⊎ ((slice_index_or w.text 0 0 ≡ 47) × (slice_index_or d.token.text 0 0 ≡ 47)) → ⊥
        of (inl b) = no_both (may_omit_semicolon (ending_of x) (behind_in text s) (as_read t)) (brace_misses (sign d.token same d.class) (text_is ∙ b)) m
        of (inr b) = no_both (may_omit_semicolon (ending_of x) (behind_in text s) (as_read t))
            (slash_misses x (behind_in text s) (seen_in text.language w) t (ap (λ (y : LexicalToken). y.after_break) (a.seen ∙ ap (seen_in text.language) (sym same)) ∙ d.break) (end_seen text.language w.class w.text d.goes_on)
            (sign d.token same d.class) b.0 (ap (λ y. slice_index_or y 0 0) text_is ∙ b.1) q k) m

      by : (g : Goal) (w : LexicalToken) → ReadsToken text.bytes g s.stop w → IsTrue (may_omit_semicolon (ending_of x) (behind_in text s) (as_read (seen_in text.language w))) → (b : Bool) → depends w.text ≡ b → ⊥
      by g w h k false e = there w (same_scanned text x s t utf8 p a g w h e) k
      by g w h k true e =
          let d = div_reads text.bytes g s.stop w utf8 p e h in
          other w k d (determined Div s.stop (behind text.bytes s.stop) d.token a.scanned (behind text.bytes d.token.stop) (behind text.bytes a.scanned.stop) d.read a.read).0

-- nor where Div reads nothing
pub ends_at_none : (text : SourceText) (x : StatementEnd) (s : Token) → IsUtf8 text.bytes → IsPlace text.bytes s.stop → NoneAhead Div text s.stop → (e : Token) → EndsAt text x s e → ⊥
ends_at_none text x s u p none e h = by h where
  any : (g : Goal) (w : LexicalToken) → ReadsToken text.bytes g s.stop w → (b : Bool) → depends w.text ≡ b → ⊥
  any g w h false e = none w (moved text.bytes g Div s.stop w u p e h)
  any g w h true e = let d = div_reads text.bytes g s.stop w u p e h in none d.token d.read

  by : {e : Token} → EndsAt text x s e → ⊥
  by (explicit r) = let f = from_next r.next in any f.goal f.token f.read (depends f.token.text) refl
  by (implicit n k) = let f = from_next n in any f.goal f.token f.read (depends f.token.text) refl
