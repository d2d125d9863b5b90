-- A token of a text, as the table has it, is a word, and reading goes on at a place of the text.
use Rattle.std.proofs.Common.{◌≡◌, ℕ, true, List, [], refl, sym, ap, ◌∙◌, subst}
use Rattle.std.specs.Prelude.{IsTrue}
use Rattle.std.specs.Str.{chars, IsUtf8}
use Rattle.std.proofs.lemmas.Str.{chars_from_encodes}
use Rattle.source_text.specs.Source.{IsPlace}
use Rattle.tokens.specs.declared.token.TokenClass.{TokenClass}
use Rattle.tokens.specs.declared.token.TokenClass.TheVariants.{Template}
use Rattle.tokens.specs.declared.token.Goal.{Goal}
use Rattle.tokens.specs.Lexical.{is_of}
use Rattle.tokens.specs.Tokens.{LexicalToken}
use Rattle.tokens.specs.Reading.{behind, any_goal}
use Rattle.tokens.specs.Reading as reading
use Rattle.tokens.proofs.Bounds.{token_places}
use Rattle.tokens.proofs.Classes.{token_is}
use Rattle.language.specs.Token.{Token, table_text}
use Rattle.language.specs.Derivation.{Reads}
use Rattle.language.specs.Places.{NextIn, next_in, itself}
use Rattle.language.proofs.layout.WordsApart.{Word}
use Rattle.language.proofs.layout.RawTemplateValues.{raw_word}
use Rattle.std.specs.Prelude.{◌++◌, ◌∷◌, drop}
use Rattle.std.specs.Str.{all_scalars}
use Rattle.std.proofs.lemmas.Bool.{and_parts, and_from, false≢true}
use Rattle.std.proofs.lemmas.Str.{scalars-chars, IsUtf8-drop}

front_scalars : (xs ys : List ℕ) → all_scalars (xs ++ ys) ≡ true → all_scalars xs ≡ true
front_scalars [] ys h = refl
front_scalars (x ∷ xs) ys h = and_from _ _ (and_parts _ _ h).0 (front_scalars xs ys (and_parts _ _ h).1)

back_scalars : (xs ys : List ℕ) → all_scalars (xs ++ ys) ≡ true → all_scalars ys ≡ true
back_scalars [] ys h = h
back_scalars (x ∷ xs) ys h = back_scalars xs ys (and_parts _ _ h).1

-- what is read at a place, by itself
record Raw (c : TokenClass) (w : List ℕ) : Type 0 where
  utf8 : IsUtf8 w
  is : IsTrue (is_of c (chars w))

raw_token : (text : List ℕ) (goal : Goal) (at : ℕ) (t : LexicalToken) → IsUtf8 text → IsPlace text at → reading.Reads text goal at t → Raw t.class t.text
raw_token text goal at t u p h =
    let s : all_scalars ((h.gap ++ h.word) ++ behind text t.stop) ≡ true = sym (ap all_scalars h.split) ∙ scalars-chars (drop at text) (IsUtf8-drop text at u p) in
    let k : IsUtf8 t.text = (h.word, (back_scalars h.gap h.word (front_scalars (h.gap ++ h.word) (behind text t.stop) s), sym h.text)) in
    record {
      utf8 = k;
      is = subst (λ x. IsTrue (is_of t.class x)) (chars_from_encodes h.word t.text k (sym h.text)) (token_is t.class h.word (behind text t.stop) h.longest);
    }

table_word : (c : TokenClass) (w : List ℕ) → Raw c w → Word c (table_text c w)
table_word Template w r = raw_word w r.utf8 r.is
table_word TokenClass.Keyword w r = absurd (false≢true r.is)
table_word _ w r = record { utf8 = r.utf8; is = r.is; kept = refl }

pub read_place : {text : List ℕ} {s t e : Token} → IsUtf8 text → IsPlace text s.stop → NextIn text any_goal s t e → IsPlace text e.stop
read_place {text} {s} u p (next_in {t = t} goal any h) = (token_places text goal s.stop t u p h).1

pub token_word : {text : List ℕ} {c : TokenClass} {w : List ℕ} {s t e : Token} → IsUtf8 text → IsPlace text s.stop → Reads Token (NextIn text any_goal) itself c w s t e → Word c w
token_word {text} {c} {w} {s} u p r = of r.next r.class r.text
  where
    of : {t e : Token} → NextIn text any_goal s t e → t.class ≡ c → t.text ≡ w → Word c w
    of (next_in {t = t} goal any h) k x =
        subst (λ v. Word c v) x (subst (λ d. Word d (table_text t.class t.text)) k (table_word t.class t.text (raw_token text goal s.stop t u p h)))
