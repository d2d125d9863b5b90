-- From what stands at a place to the token that a goal reads there.
use Rattle.std.proofs.Common.{◌≡◌, ℕ, ◌+◌, ◌<◌, Bool, true, false, not, ◌&&◌, ◌==◌, List, [], ◌∷◌, ◌++◌, IsTrue, refl, sym, ap, ◌∙◌, subst, append_assoc, arith, if◌then◌else◌}
use Rattle.std.specs.Prelude.{slice_range, ◌≢◌}
use Rattle.std.specs.Str.{chars, IsUtf8}
use Rattle.std.proofs.lemmas.Str.{len_utf8_bounds, chars_from_encodes}
use Rattle.std.proofs.lemmas.Bool.Decides.{nat_tests}
use Rattle.std.proofs.lemmas.List.{append_cancel_left}
use Rattle.source_text.specs.Source.{IsPlace}
use Rattle.tokens.specs.Alphabet.{one_of, begins_with, is_decimal_digit}
use Rattle.tokens.specs.Comments.{begins_comment, Separators}
use Rattle.tokens.specs.Lexical.{LexicalClass, IdentifierName, Punctuator, NumericLiteral, StringLiteral, Template, PrivateName, Keyword, End, is_of, is_token}
use Rattle.tokens.specs.Goals.{Goal, Div, TemplateTail, allows, reads_regexps, reads_template_parts}
use Rattle.tokens.specs.Strings.{is_string}
use Rattle.tokens.specs.TokenStarts.{class_by, class_of, is_mark}
use Rattle.tokens.specs.Tokens.{LexicalToken, IsTokenAt, size}
use Rattle.tokens.specs.Reading.{behind, Reads}
use Rattle.tokens.specs.Scanned.{IsWordAt, NoWordAt, IsGap, IsSolid}
use Rattle.tokens.proofs.Beginnings.{true_false}
use Rattle.tokens.proofs.PassedCharacters.{passed_none, passed_slice, size_append, size_one}
use Rattle.tokens.proofs.Classes.{token_is, class_fits}
use Rattle.tokens.proofs.TokenUniqueness.{gap_same, token_solid}

-- a digit behind anything but a point changes no class
pub class_at_point : (goal : Goal) (c : ℕ) (cs : List ℕ) (d : Bool) → d ≡ ((c == 46) && begins_with is_decimal_digit cs) → class_by goal c d ≡ class_of goal (c ∷ cs)
class_at_point goal c cs d e = by_point (c == 46) refl e where
  same : (t x y : Bool) → t ≡ false → (if t then (if x then NumericLiteral else Punctuator) else IdentifierName) ≡ (if t then (if y then NumericLiteral else Punctuator) else IdentifierName)
  same t x y e = cc

  by_point : (t : Bool) → (c == 46) ≡ t → d ≡ (t && begins_with is_decimal_digit cs) → class_by goal c d ≡ class_of goal (c ∷ cs)
  by_point true f e = ap (class_by goal c) e
  by_point false f e =
      let Z : Bool → Bool → LexicalClass = λ t x.
      if is_decimal_digit c then NumericLiteral else if one_of "'\"" c then StringLiteral else if one_of "`" c then Template
      else if one_of "}" c then (if reads_template_parts goal then Template else Punctuator)
      else if one_of "/" c then (if reads_regexps goal then LexicalClass.RegularExpressionLiteral else Punctuator)
      else if t then (if x then NumericLiteral else Punctuator) else if one_of "#" c then PrivateName else if is_mark c then Punctuator else IdentifierName in
      ap (λ t. Z t d) f ∙ sym (ap (λ t. Z t (begins_with is_decimal_digit cs)) f)

-- the end is a word of its class where nothing stands behind
pub end_word : (text : List ℕ) (at : ℕ) → IsPlace text at → behind text at ≡ [] → IsWordAt End text at at
end_word text at p e = record { word = []; passed = passed_none text at p; longest = subst (λ x. IsTrue (is_token End [] x)) (sym e) refl }

-- the class of no character is End
pub class_not_end : (goal : Goal) (c : ℕ) (digit : Bool) → class_by goal c digit ≡ End → ⊥
class_not_end goal c digit e =
    never (is_decimal_digit c) (one_of "'\"" c) (one_of "`" c) (one_of "}" c) (one_of "/" c) (one_of "." c) (one_of "#" c) (is_mark c) (reads_template_parts goal) (reads_regexps goal) digit e where
      pick : (t : Bool) (x y : LexicalClass) → (x ≡ End → ⊥) → (y ≡ End → ⊥) → (if t then x else y) ≡ End → ⊥
      pick true x y f g e = f e
      pick false x y f g e = g e

      number_no : NumericLiteral ≡ End → ⊥
      number_no e = cc

      text_no : StringLiteral ≡ End → ⊥
      text_no e = cc

      template_no : Template ≡ End → ⊥
      template_no e = cc

      regexp_no : LexicalClass.RegularExpressionLiteral ≡ End → ⊥
      regexp_no e = cc

      private_no : PrivateName ≡ End → ⊥
      private_no e = cc

      punctuator_no : Punctuator ≡ End → ⊥
      punctuator_no e = cc

      name_no : IdentifierName ≡ End → ⊥
      name_no e = cc

      never : (a b d e f g n h t r p : Bool) → (if a then NumericLiteral else if b then StringLiteral else if d then Template else if e then (if t then Template else Punctuator) else if f then (if r then LexicalClass.RegularExpressionLiteral else Punctuator)
          else if g then (if p then NumericLiteral else Punctuator) else if n then PrivateName else if h then Punctuator else IdentifierName) ≡ End → ⊥
      never a b d e f g n h t r p =
          pick a _ _ number_no (pick b _ _ text_no (pick d _ _ template_no (pick e _ _ (pick t _ _ template_no punctuator_no) (pick f _ _ (pick r _ _ regexp_no punctuator_no)
          (pick g _ _ (pick p _ _ number_no punctuator_no) (pick n _ _ private_no (pick h _ _ punctuator_no name_no)))))))

-- where the class is that of the first character, the goal allows the word
pub allowed : (goal : Goal) (class : LexicalClass) (word rest : List ℕ) → class ≡ class_of goal (word ++ rest) → IsTrue (is_token class word rest) → IsTrue (allows goal class word)
allowed goal class [] rest e h = refl
allowed goal class (c ∷ cs) rest e h = by_first (one_of "/" c) (one_of "}" c) refl refl where
  at_slash : (goal : Goal) (class : LexicalClass) (xs : List ℕ) → class ≡ class_of goal (47 ∷ xs) → IsTrue (allows goal class (47 ∷ cs))
  at_slash Div class xs e = subst (λ x. IsTrue (allows Div x (47 ∷ cs))) (sym e) refl
  at_slash Goal.RegExp class xs e = subst (λ x. IsTrue (allows Goal.RegExp x (47 ∷ cs))) (sym e) refl
  at_slash TemplateTail class xs e = subst (λ x. IsTrue (allows TemplateTail x (47 ∷ cs))) (sym e) refl

  at_brace : (goal : Goal) (class : LexicalClass) (xs : List ℕ) → class ≡ class_of goal (125 ∷ xs) → IsTrue (allows goal class (125 ∷ cs))
  at_brace Div class xs e = subst (λ x. IsTrue (allows Div x (125 ∷ cs))) (sym e) refl
  at_brace Goal.RegExp class xs e = subst (λ x. IsTrue (allows Goal.RegExp x (125 ∷ cs))) (sym e) refl
  at_brace TemplateTail class xs e = subst (λ x. IsTrue (allows TemplateTail x (125 ∷ cs))) (sym e) refl

  is_47 : (c : ℕ) → one_of "/" c ≡ true → c ≡ 47
  is_47 c e = grind (arith, nat_tests)

  is_125 : (c : ℕ) → one_of "}" c ≡ true → c ≡ 125
  is_125 c e = grind (arith, nat_tests)

  by_first : (a b : Bool) → one_of "/" c ≡ a → one_of "}" c ≡ b → IsTrue (allows goal class (c ∷ cs))
  by_first true b p q =
      subst (λ x. IsTrue (allows goal class (x ∷ cs))) (sym (is_47 c p)) (at_slash goal class (cs ++ rest) (subst (λ x. class ≡ class_of goal (x ∷ cs ++ rest)) (is_47 c p) e))
  by_first false true p q =
      subst (λ x. IsTrue (allows goal class (x ∷ cs))) (sym (is_125 c q)) (at_brace goal class (cs ++ rest) (subst (λ x. class ≡ class_of goal (x ∷ cs ++ rest)) (is_125 c q) e))
  by_first false false p q = plain (one_of "/" c) (one_of "}" c) _ _ p q where
    plain : (a b x y : Bool) → a ≡ false → b ≡ false → IsTrue (if a then x else if b then y else true)
    plain a b x y p q = grind (arith, nat_tests)

-- ---- what is scanned

-- the token of a class whose word stands behind separators
pub token_reads : (text : List ℕ) (goal : Goal) (at start stop : ℕ) (has_line_break : Bool) (class : LexicalClass) (slice : List ℕ) → IsUtf8 text → IsPlace text start →
    IsGap text at start has_line_break → begins_comment (behind text start) ≡ false → class ≡ class_of goal (behind text start) → IsWordAt class text start stop → slice ≡ slice_range text start stop →
    Reads text goal at (record { class = class; text = slice; start = start; stop = stop; after_break = has_line_break })
token_reads text goal at start stop has_line_break class slice u p g n c w s =
    let front = w.passed.split in
    record {
      gap = g.gap;
      word = w.word;
      split = g.passed.split ∙ ap (λ x. g.gap ++ x) front ∙ sym (append_assoc g.gap w.word (behind text stop));
      separated = subst (λ x. Separators g.gap x) front g.separated;
      no_comment = ap not (sym (ap begins_comment front) ∙ n);
      longest = w.longest;
      allowed = allowed goal class w.word (behind text stop) (c ∙ ap (class_of goal) front) w.longest;
      text = s ∙ sym (passed_slice text start stop w.word u p w.passed);
      start = g.passed.reaches;
      stop = w.passed.reaches;
      after_break = g.breaks;
    }

-- the text of a string that is read is one, by its characters
pub string_read : (text : List ℕ) (goal : Goal) (at : ℕ) (t : LexicalToken) → IsUtf8 t.text → Reads text goal at t → t.class ≡ StringLiteral → IsTrue (is_string (chars t.text))
string_read text goal at t u h e =
    let of_class : IsTrue (is_of StringLiteral h.word) = token_is StringLiteral h.word (behind text t.stop) (subst (λ c. IsTrue (is_token c h.word (behind text t.stop))) e h.longest) in
    subst (λ x. IsTrue (is_string x)) (chars_from_encodes h.word t.text u (sym h.text)) of_class

-- a token at a place stands behind the separators that are there
pub token_behind : (text : List ℕ) (goal : Goal) (at start : ℕ) (has_line_break : Bool) (t : LexicalToken) (rest : List ℕ) → IsGap text at start has_line_break → IsSolid (behind text start) →
    (x : IsTokenAt goal at (behind text at) t rest) → behind text start ≡ x.word ++ rest
token_behind text goal at start has_line_break t rest g solid x =
    let e : g.gap ++ behind text start ≡ x.gap ++ (x.word ++ rest) = sym g.passed.split ∙ x.split ∙ append_assoc x.gap x.word rest in
    let gaps = gap_same g.gap x.gap (behind text start) (x.word ++ rest) g.separated x.separated e solid (token_solid t.class x.word rest x.longest x.no_comment) in
    append_cancel_left x.gap (behind text start) (x.word ++ rest) (ap (λ w. w ++ behind text start) (sym gaps) ∙ e)

-- none where a comment begins that doesn't end
pub none_in_comment : (text : List ℕ) (goal : Goal) (at start : ℕ) (has_line_break : Bool) → IsGap text at start has_line_break → IsSolid (behind text start) → begins_comment (behind text start) ≡ true →
    (t : LexicalToken) (rest : List ℕ) → IsTokenAt goal at (behind text at) t rest → ⊥
none_in_comment text goal at start has_line_break g solid c t rest x =
    no (begins_comment (x.word ++ rest)) x.no_comment (sym (ap begins_comment (token_behind text goal at start has_line_break t rest g solid x)) ∙ c) where
      no : (a : Bool) → IsTrue (not a) → a ≡ true → ⊥
      no true h e = true_false _ h refl
      no false h e = cc

-- none where no word of the class that the goal reads stands
pub none_of_class : (text : List ℕ) (goal : Goal) (at start : ℕ) (has_line_break : Bool) (class : LexicalClass) → IsGap text at start has_line_break → IsSolid (behind text start) →
    class ≡ class_of goal (behind text start) → NoWordAt class text start → (t : LexicalToken) (rest : List ℕ) → IsTokenAt goal at (behind text at) t rest → ⊥
none_of_class text goal at start has_line_break class g solid c none t rest x =
    let e = token_behind text goal at start has_line_break t rest g solid x in
    let same : t.class ≡ class = class_fits goal t.class x.word rest x.longest x.allowed ∙ sym (ap (class_of goal) e) ∙ sym c in
    none x.word rest e (subst (λ k. IsTrue (is_token k x.word rest)) same x.longest)

-- a token that is not the end is not empty
pub word_forward : (class : LexicalClass) (text : List ℕ) (at stop : ℕ) → IsWordAt class text at stop → class ≢ End → at < stop
word_forward class text at stop w ne = by_word w.word (token_is class w.word (behind text stop) w.longest) w.passed.reaches where
  by_word : (word : List ℕ) → IsTrue (is_of class word) → stop ≡ at + size word → at < stop
  by_word [] h e = absurd (empty class ne h) where
    empty : (class : LexicalClass) → class ≢ End → IsTrue (is_of class []) → ⊥
    empty IdentifierName ne h = true_false _ h refl
    empty Punctuator ne h = true_false _ h refl
    empty NumericLiteral ne h = true_false _ h refl
    empty StringLiteral ne h = true_false _ h refl
    empty Template ne h = true_false _ h refl
    empty LexicalClass.RegularExpressionLiteral ne h = true_false _ h refl
    empty PrivateName ne h = true_false _ h refl
    empty Keyword ne h = true_false _ h refl
    empty End ne h = ne refl
  by_word (c ∷ cs) h e =
      let s = size_append (c ∷ []) cs in
      let o = size_one c in
      let b = (len_utf8_bounds c).0 in
      omega arith
