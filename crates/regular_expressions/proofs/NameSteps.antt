-- Names of groups, character by character.
use Rattle.std.proofs.Common.{◌≡◌, ℕ, ◌-◌, Bool, true, false, not, List, [], ◌∷◌, ◌++◌, length, drop, Option, Some, None, is_some, unwrap_or, if◌then◌else◌, inl, inr, IsTrue, IsFalse, refl, sym, ap, ◌∙◌, subst, arith, append_assoc, append-nil}
use Rattle.std.specs.Prelude.{option_map, encode_utf8_all, slice_range, ◌&&◌, ◌||◌}
use Rattle.std.specs.List.{list_any, take_while}
use Rattle.std.specs.Char.{encode_utf8, OutOfScalarRange}
use Rattle.std.specs.Str.{chars, IsUtf8}
use Rattle.std.proofs.lemmas.Bool.Decides.{nat_tests}
use Rattle.std.proofs.lemmas.List.Folds.{list_any-append}
use Rattle.std.proofs.lemmas.Str.{encodes-append, encodes-chars}
use Rattle.source_text.specs.Source.{IsPlace}
use Rattle.tokens.specs.Alphabet.{one_of, begins_with}
use Rattle.tokens.specs.Reading.{behind}
use Rattle.tokens.specs.Scanned.{Passed, IsRun}
use Rattle.tokens.proofs.PassedCharacters.{passed_none, passed_on}
use Rattle.regular_expressions.specs.Names.{name_escape, name_character, is_start, is_part, is_character, stands_in_name, with_character, read_of, name_end, name_from, is_no_end, name_before, name_between, group_name}
use Rattle.regular_expressions.specs.Scanned.{IsRead, spelled}
use Rattle.regular_expressions.proofs.Productions.{read_length, run_word, run_rest, passed_chars}

pub name_skip : (first : Bool) (word rest : List ℕ) → name_from first (length word) (word ++ rest) ≡ name_from first 0 rest
name_skip first [] rest = refl
name_skip first (c ∷ word) rest = name_skip first word rest

-- one character of a name
pub name_next : (first : Bool) (text : List ℕ) (at more stop c value : ℕ) → Passed text at more (c ∷ []) → IsRead (name_character c (behind text more)) value text more stop →
    name_from first 0 (behind text at) ≡ (if stands_in_name first value then option_map (λ cs. value ∷ cs) (name_from false 0 (behind text stop)) else None)
name_next first text at more stop c value p h =
    let cs = behind text more in
    let rest = behind text stop in
    ap (λ x. name_from first 0 x) p.split
    ∙ ap (λ o. with_character first o (name_from false (read_of cs o) cs)) h.found
    ∙ ap (λ k. with_character first (Some (value, rest)) (name_from false k cs)) (read_length text more stop h.word h.passed)
    ∙ ap (λ x. with_character first (Some (value, rest)) (name_from false (length h.word) x)) h.passed.split
    ∙ ap (λ x. with_character first (Some (value, rest)) x) (name_skip false h.word rest)

pub name_fails : (first : Bool) (text : List ℕ) (at more c : ℕ) → Passed text at more (c ∷ []) → name_character c (behind text more) ≡ None → name_from first 0 (behind text at) ≡ None
name_fails first text at more c p e =
    let cs = behind text more in
    ap (λ x. name_from first 0 x) p.split ∙ ap (λ o. with_character first o (name_from false (read_of cs o) cs)) e

pub name_stops : (first : Bool) (text : List ℕ) (at : ℕ) → behind text at ≡ [] → name_from first 0 (behind text at) ≡ name_end first
name_stops first text at e = ap (λ x. name_from first 0 x) e

-- ---- whether a text is a name

pub record InName (text : List ℕ) (at : ℕ) (first : Bool) : Type 0 where
  pub place : IsPlace text at
  pub same : is_some (name_from true 0 (chars text)) ≡ is_some (name_from first 0 (behind text at))

pub is_name_begins : (text : List ℕ) → IsPlace text 0 → InName text 0 true
is_name_begins text p = record { place = p; same = refl }

some_mapped : (value : ℕ) (o : Option (List ℕ)) → is_some (option_map (λ cs. value ∷ cs) o) ≡ is_some o
some_mapped value None = refl
some_mapped value (Some cs) = refl

chosen : (b : Bool) (o : Option (List ℕ)) → b ≡ true → (if b then o else None) ≡ o
chosen true o e = refl
chosen false o e = absurd (false_is_true e) where
  false_is_true : false ≡ true → ⊥
  false_is_true e = cc

not_chosen : (b : Bool) (o : Option (List ℕ)) → b ≡ false → (if b then o else None) ≡ None
not_chosen false o e = refl
not_chosen true o e = absurd (true_is_false e) where
  true_is_false : true ≡ false → ⊥
  true_is_false e = cc

pub is_name_goes_on : (text : List ℕ) (at more stop c value : ℕ) (first : Bool) → InName text at first → Passed text at more (c ∷ []) →
    IsRead (name_character c (behind text more)) value text more stop → stands_in_name first value ≡ true → InName text stop false
is_name_goes_on text at more stop c value first h p r e = record {
  place = r.passed.place;
  same = h.same ∙ ap is_some (name_next first text at more stop c value p r)
      ∙ ap is_some (chosen (stands_in_name first value) (option_map (λ cs. value ∷ cs) (name_from false 0 (behind text stop))) e)
      ∙ some_mapped value (name_from false 0 (behind text stop));
}

pub is_name_refused : (text : List ℕ) (at more stop c value : ℕ) (first : Bool) → InName text at first → Passed text at more (c ∷ []) →
    IsRead (name_character c (behind text more)) value text more stop → stands_in_name first value ≡ false → is_some (name_from true 0 (chars text)) ≡ false
is_name_refused text at more stop c value first h p r e =
    h.same ∙ ap is_some (name_next first text at more stop c value p r)
    ∙ ap is_some (not_chosen (stands_in_name first value) (option_map (λ cs. value ∷ cs) (name_from false 0 (behind text stop))) e)

pub is_name_fails : (text : List ℕ) (at more c : ℕ) (first : Bool) → InName text at first → Passed text at more (c ∷ []) → name_character c (behind text more) ≡ None →
    is_some (name_from true 0 (chars text)) ≡ false
is_name_fails text at more c first h p e = h.same ∙ ap is_some (name_fails first text at more c p e)

pub is_name_ends : (text : List ℕ) (at : ℕ) (first : Bool) → InName text at first → behind text at ≡ [] → is_some (name_from true 0 (chars text)) ≡ not first
is_name_ends text at first h e = h.same ∙ ap is_some (name_stops first text at e) ∙ end first where
  end : (b : Bool) → is_some (name_end b) ≡ not b
  end true = refl
  end false = refl

-- ---- what it spells

abbrev pub behind_name : List ℕ → Option (List ℕ) → Option (List ℕ)
behind_name out o = option_map (λ cs. out ++ cs) o

pub record InSpelled (text : List ℕ) (at : ℕ) (bytes : List ℕ) : Type 0 where
  pub place : IsPlace text at
  pub first : Bool
  pub out : List ℕ
  pub same : name_from true 0 (chars text) ≡ behind_name out (name_from first 0 (behind text at))
  pub encoded : bytes ≡ encode_utf8_all out

pub spelled_begins : (text : List ℕ) → IsPlace text 0 → InSpelled text 0 []
spelled_begins text p = record { place = p; first = true; out = []; same = alone (name_from true 0 (chars text)); encoded = refl } where
  alone : (o : Option (List ℕ)) → o ≡ behind_name [] o
  alone None = refl
  alone (Some cs) = refl

twice : (out : List ℕ) (value : ℕ) (o : Option (List ℕ)) → behind_name out (option_map (λ cs. value ∷ cs) o) ≡ behind_name (out ++ value ∷ []) o
twice out value None = refl
twice out value (Some cs) = ap (λ x. Some x) (sym (append_assoc out (value ∷ []) cs))

pub spelled_goes_on : (text bytes : List ℕ) (at more stop c value : ℕ) → InSpelled text at bytes → IsTrue (is_some (name_from true 0 (chars text))) → Passed text at more (c ∷ []) →
    IsRead (name_character c (behind text more)) value text more stop → InSpelled text stop (bytes ++ encode_utf8 value)
spelled_goes_on text bytes at more stop c value h t p r = record {
  place = r.passed.place;
  first = false;
  out = h.out ++ value ∷ [];
  same = by_test (stands_in_name h.first value) refl;
  encoded = ap (λ x. x ++ encode_utf8 value) h.encoded ∙ sym (encodes-append h.out (value ∷ []) ∙ ap (λ x. encode_utf8_all h.out ++ x) (append-nil (encode_utf8 value)));
} where
  next : name_from true 0 (chars text) ≡ behind_name h.out (if stands_in_name h.first value then option_map (λ cs. value ∷ cs) (name_from false 0 (behind text stop)) else None)
  next = h.same ∙ ap (λ o. behind_name h.out o) (name_next h.first text at more stop c value p r)

  by_test : (b : Bool) → stands_in_name h.first value ≡ b → name_from true 0 (chars text) ≡ behind_name (h.out ++ value ∷ []) (name_from false 0 (behind text stop))
  by_test true e =
      next ∙ ap (λ o. behind_name h.out o) (chosen (stands_in_name h.first value) (option_map (λ cs. value ∷ cs) (name_from false 0 (behind text stop))) e)
      ∙ twice h.out value (name_from false 0 (behind text stop))
  by_test false e =
      let n : name_from true 0 (chars text) ≡ None = next ∙ ap (λ o. behind_name h.out o) (not_chosen (stands_in_name h.first value) (option_map (λ cs. value ∷ cs) (name_from false 0 (behind text stop))) e) in
      absurd (no_name (sym (ap is_some n) ∙ t)) where
        no_name : false ≡ true → ⊥
        no_name e = cc

pub spelled_ends : (text bytes : List ℕ) (at : ℕ) → InSpelled text at bytes → IsTrue (is_some (name_from true 0 (chars text))) → behind text at ≡ [] → bytes ≡ spelled text
spelled_ends text bytes at h t e = h.encoded ∙ ap encode_utf8_all (by_first h.first (h.same ∙ ap (λ o. behind_name h.out o) (name_stops h.first text at e))) where
  by_first : (b : Bool) → name_from true 0 (chars text) ≡ behind_name h.out (name_end b) → h.out ≡ unwrap_or (name_from true 0 (chars text)) []
  by_first true f = absurd (no_name (sym (ap is_some f) ∙ t)) where
    no_name : false ≡ true → ⊥
    no_name e = cc
  by_first false f = sym (ap (λ o. unwrap_or o []) f ∙ append-nil h.out)

-- neither can fail within a name
pub spelled_reads : (text bytes : List ℕ) (at more c : ℕ) → InSpelled text at bytes → IsTrue (is_some (name_from true 0 (chars text))) → Passed text at more (c ∷ []) →
    name_character c (behind text more) ≡ None → ⊥
spelled_reads text bytes at more c h t p e = no_name (sym (ap is_some (h.same ∙ ap (λ o. behind_name h.out o) (name_fails h.first text at more c p e))) ∙ t) where
  no_name : false ≡ true → ⊥
  no_name e = cc

pub spelled_stands : (text bytes : List ℕ) (at more stop c value : ℕ) → InSpelled text at bytes → IsTrue (is_some (name_from true 0 (chars text))) → Passed text at more (c ∷ []) →
    IsRead (name_character c (behind text more)) value text more stop → IsTrue (is_character value)
spelled_stands text bytes at more stop c value h t p r = by_test (is_character value) refl where
  by_first : (first : Bool) → is_character value ≡ false → stands_in_name first value ≡ false
  by_first true e = ap (λ b. b && is_start value) e
  by_first false e = ap (λ b. b && is_part value) e

  none : is_character value ≡ false → false ≡ true
  none e =
      sym (ap is_some (h.same ∙ ap (λ o. behind_name h.out o)
      (name_next h.first text at more stop c value p r
      ∙ not_chosen (stands_in_name h.first value) (option_map (λ cs. value ∷ cs) (name_from false 0 (behind text stop))) (by_first h.first e)))) ∙ t

  by_test : (b : Bool) → is_character value ≡ b → IsTrue b
  by_test true e = refl
  by_test false e = none e

pub is_in_range : (value : ℕ) → IsTrue (is_character value) → OutOfScalarRange value → ⊥
is_in_range value t (inl h) = grind (arith, nat_tests)
is_in_range value t (inr h) = grind (arith, nat_tests)

-- ---- a name without escapes

pub record InPlain (text : List ℕ) (at : ℕ) : Type 0 where
  pub word : List ℕ
  pub passed : Passed text 0 at word
  pub plain : list_any (one_of "\\") word ≡ false

pub plain_begins : (text : List ℕ) → IsPlace text 0 → InPlain text 0
plain_begins text p = record { word = []; passed = passed_none text 0 p; plain = refl }

any_more : (w : List ℕ) (c : ℕ) → list_any (one_of "\\") (w ++ c ∷ []) ≡ (list_any (one_of "\\") w || (one_of "\\" c || false))
any_more w c = list_any-append (one_of "\\") w (c ∷ [])

pub plain_goes_on : (text : List ℕ) (at more c : ℕ) → InPlain text at → Passed text at more (c ∷ []) → ¬ (c ≡ 0x5C) → InPlain text more
plain_goes_on text at more c h p n = record {
  word = h.word ++ c ∷ [];
  passed = passed_on text 0 at more h.word (c ∷ []) h.passed p;
  plain = any_more h.word c ∙ ap (λ b. b || (one_of "\\" c || false)) h.plain ∙ ap (λ b. b || false) (no_escape c n);
} where
  no_escape : (c : ℕ) → ¬ (c ≡ 0x5C) → one_of "\\" c ≡ false
  no_escape c n = grind (arith, nat_tests)

pub plain_ends : (text : List ℕ) (at : ℕ) → InPlain text at → behind text at ≡ [] → false ≡ list_any (one_of "\\") (chars text)
plain_ends text at h e = sym (ap (λ w. list_any (one_of "\\") w) (h.passed.split ∙ ap (λ x. h.word ++ x) e ∙ append-nil h.word) ∙ h.plain)

pub plain_stops : (text : List ℕ) (at more : ℕ) → InPlain text at → Passed text at more (0x5C ∷ []) → true ≡ list_any (one_of "\\") (chars text)
plain_stops text at more h p =
    sym (ap (λ w. list_any (one_of "\\") w) (h.passed.split ∙ ap (λ x. h.word ++ x) p.split)
    ∙ list_any-append (one_of "\\") h.word (0x5C ∷ behind text more) ∙ ap (λ b. b || true) h.plain)

plain_character : (c : ℕ) (cs : List ℕ) → one_of "\\" c ≡ false → name_character c cs ≡ Some (c, cs)
plain_character c cs e = ap (λ b. if b then name_escape cs else Some (c, cs)) e

plain_next : (first : Bool) (c : ℕ) (cs : List ℕ) → one_of "\\" c ≡ false →
    name_from first 0 (c ∷ cs) ≡ (if stands_in_name first c then option_map (λ x. c ∷ x) (name_from false 0 cs) else None)
plain_next first c cs e =
    let n : length cs - length cs ≡ 0 = omega arith in
    ap (λ o. with_character first o (name_from false (read_of cs o) cs)) (plain_character c cs e)
    ∙ ap (λ k. with_character first (Some (c, cs)) (name_from false k cs)) n

either_false : (a b : Bool) → (a || b) ≡ false → (a ≡ false) × (b ≡ false)
either_false true b e = cc
either_false false b e = (refl, e)

-- by whether its first character may stand there
plain_with : (c : ℕ) (cs : List ℕ) (b : Bool) (o : Option (List ℕ)) → is_some (if b then option_map (λ x. c ∷ x) o else None) ≡ true → (is_some o ≡ true → o ≡ Some cs) →
    (if b then option_map (λ x. c ∷ x) o else None) ≡ Some (c ∷ cs)
plain_with c cs false o t f = cc
plain_with c cs true o t f = ap (λ x. option_map (λ y. c ∷ y) x) (f (sym (some_mapped c o) ∙ t))

plain_name : (first : Bool) (cs : List ℕ) → list_any (one_of "\\") cs ≡ false → is_some (name_from first 0 cs) ≡ true → name_from first 0 cs ≡ Some cs
plain_name true [] e t = cc
plain_name false [] e t = refl
plain_name first (c ∷ cs) e t =
    let b = either_false (one_of "\\" c) (list_any (one_of "\\") cs) e in
    let n = plain_next first c cs b.0 in
    n ∙ plain_with c cs (stands_in_name first c) (name_from false 0 cs) (sym (ap is_some n) ∙ t) (λ s. plain_name false cs b.1 s)

pub spelled_plain : (word : List ℕ) → IsUtf8 word → list_any (one_of "\\") (chars word) ≡ false → is_some (name_from true 0 (chars word)) ≡ true → word ≡ spelled word
spelled_plain word u e t = sym (ap (λ o. encode_utf8_all (unwrap_or o [])) (plain_name true (chars word) e t) ∙ encodes-chars word u)

-- a text that is no name spells nothing
pub spelled_none : (word : List ℕ) → is_some (name_from true 0 (chars word)) ≡ false → [] ≡ spelled word
spelled_none word e = of (name_from true 0 (chars word)) e where
  of : (o : Option (List ℕ)) → is_some o ≡ false → [] ≡ encode_utf8_all (unwrap_or o [])
  of None e = refl
  of (Some cs) e = cc

-- ---- GroupName

pub group_as : (text : List ℕ) (at stop : ℕ) (h : IsRun is_no_end text at stop) → group_name (behind text at) ≡ name_between h.run.word (behind text stop)
group_as text at stop h =
    ap (λ rest. name_between (take_while is_no_end (behind text at)) rest) (run_rest is_no_end text at stop h)
    ∙ ap (λ w. name_between w (behind text stop)) (run_word is_no_end text at stop h)

pub group_open : (text : List ℕ) (at stop : ℕ) → IsRun is_no_end text at stop → behind text stop ≡ [] → group_name (behind text at) ≡ None
group_open text at stop h e = group_as text at stop h ∙ ap (λ cs. name_between h.run.word cs) e

between_none : (b : Bool) (o : Option (List ℕ)) (rest : List ℕ) → is_some o ≡ false → (if b then name_before o rest else None) ≡ None
between_none false o rest e = refl
between_none true None rest e = refl
between_none true (Some cs) rest e = cc

-- with the part before the `>` as the program has it
pub group_refused : (text part : List ℕ) (at stop : ℕ) → IsUtf8 text → IsPlace text at → IsRun is_no_end text at stop → part ≡ slice_range text at stop →
    is_some (name_from true 0 (chars part)) ≡ false → group_name (behind text at) ≡ None
group_refused text part at stop u p h s e =
    let w = ap chars s ∙ passed_chars text at stop h.run.word u p h.run.passed in
    group_as text at stop h
    ∙ between_none (begins_with (one_of ">") (behind text stop)) (name_from true 0 h.run.word) (drop 1 (behind text stop)) (ap (λ x. is_some (name_from true 0 x)) (sym w) ∙ e)

pub group_found : (text part : List ℕ) (at stop more c : ℕ) → IsUtf8 text → IsPlace text at → IsRun is_no_end text at stop → Passed text stop more (c ∷ []) → part ≡ slice_range text at stop →
    is_some (name_from true 0 (chars part)) ≡ true → IsRead (group_name (behind text at)) (spelled part) text at more
group_found text part at stop more c u p h q s t =
    let w = ap chars s ∙ passed_chars text at stop h.run.word u p h.run.passed in
    record {
      word = h.run.word ++ c ∷ [];
      passed = passed_on text at stop more h.run.word (c ∷ []) h.run.passed q;
      found = group_as text at stop h ∙ ap (λ cs. name_between h.run.word cs) q.split
          ∙ closing (one_of ">" c) (name_from true 0 h.run.word) (subst (λ cs. IsFalse (begins_with is_no_end cs)) q.split h.ends) (ap (λ x. is_some (name_from true 0 x)) (sym w) ∙ t)
          ∙ ap (λ x. Some (encode_utf8_all (unwrap_or (name_from true 0 x) []), behind text more)) (sym w);
    } where
      closing : (b : Bool) (o : Option (List ℕ)) → IsFalse (not b) → is_some o ≡ true →
          (if b then name_before o (behind text more) else None) ≡ Some (encode_utf8_all (unwrap_or o []), behind text more)
      closing true (Some cs) f t = refl
      closing true None f t = cc
      closing false o f t = cc
