-- What is read of a keyword and of a private name (ECMA-262, 13th edition, 12.7).
use Rattle.std.proofs.Common.{◌≡◌, ℕ, Bool, true, false, cond, List, [], ◌∷◌, ◌++◌, drop, refl, sym, ap, ◌∙◌, subst, arith}
use Rattle.std.specs.Prelude.{IsTrue, codes, encode_utf8_all, ◌&&◌}
use Rattle.std.proofs.lemmas.Bool.{false≢true, and_parts}
use Rattle.std.proofs.lemmas.Bool.Decides.{nat_tests}
use Rattle.std.proofs.lemmas.Str.{encode_ascii}
use Rattle.tokens.specs.declared.token.TokenClass.{TokenClass}
use Rattle.tokens.specs.declared.token.TokenClass.TheVariants.{IdentifierName, PrivateName, Keyword}
use Rattle.tokens.specs.Alphabet.{one_of}
use Rattle.tokens.specs.Lexical.{is_of, is_private_name}
use Rattle.tokens.specs.Reading.{behind, any_goal}
use Rattle.tokens.proofs.Classes.{token_is}
use Rattle.language.specs.Vocabulary.{is_keyword}
use Rattle.language.specs.Token.{Token, table_text}
use Rattle.language.specs.Languages.{is_of_2022, class_in, seen_next}
use Rattle.language.specs.Places.{NextIn, next_in}
use Rattle.token_cursor.specs.SourceText.{SourceText, SeenNext}
use Rattle.token_cursor.proofs.SeenTokens.{no_keyword}
use Rattle.recursive_descent.proofs.reading.SeenClasses.{steady_class}

-- a keyword that is seen is one of the language's
pub keyword_told : {text : SourceText} {s t e : Token} → SeenNext text s t e → t.class ≡ Keyword → is_keyword t.text ≡ true
keyword_told {text} (seen_next {t = v} x) h = of v.class refl h x
  where
    reserved : (a b : Bool) → cond (a && b) Keyword IdentifierName ≡ Keyword → b ≡ true
    reserved true true k = refl
    reserved true false k = cc
    reserved false b k = cc

    never : {s v e : Token} → NextIn text.bytes any_goal s v e → v.class ≡ Keyword → is_keyword v.text ≡ true
    never (next_in {s = s} {t = u} g any y) k = absurd (no_keyword text.bytes g s.stop u y k)

    of : {s e : Token} (c : TokenClass) → v.class ≡ c → class_in text.language v.class v.text ≡ Keyword → NextIn text.bytes any_goal s v e → is_keyword v.text ≡ true
    of IdentifierName is k y = reserved (is_of_2022 text.language) (is_keyword v.text) (ap (λ c. class_in text.language c v.text) (sym is) ∙ k)
    of Keyword is k y = never y is
    of c is k y = (let q = ap (λ c. class_in text.language c v.text) (sym is) ∙ k in cc)

hash : (c : ℕ) → one_of "#" c ≡ true → c ≡ 35
hash c h = grind (arith, nat_tests)

hashed : (w : List ℕ) → is_private_name w ≡ true → encode_utf8_all w ≡ codes "#" ++ drop 1 (encode_utf8_all w)
hashed [] h = absurd (false≢true h)
hashed (c ∷ cs) h =
    let first : c ≡ 35 = hash c (and_parts (one_of "#" c) _ h).0 in
    let whole : encode_utf8_all (c ∷ cs) ≡ 35 ∷ encode_utf8_all cs = ap (λ d. encode_utf8_all (d ∷ cs)) first ∙ ap (λ x. x ++ encode_utf8_all cs) (encode_ascii 35 (omega arith)) in
    whole ∙ ap (λ x. codes "#" ++ drop 1 x) (sym whole)

-- a private name begins with `#`
pub private_told : {text : SourceText} {s t e : Token} → SeenNext text s t e → t.class ≡ PrivateName → t.text ≡ codes "#" ++ drop 1 t.text
private_told {text} (seen_next {t = v} x) h = of x (steady_class text.language v.class PrivateName v.text refl h)
  where
    of : {s v e : Token} → NextIn text.bytes any_goal s v e → v.class ≡ PrivateName → v.text ≡ codes "#" ++ drop 1 v.text
    of (next_in {t = u} g any y) k =
        let plain : table_text u.class u.text ≡ u.text = ap (λ c. table_text c u.text) k in
        let told : u.text ≡ codes "#" ++ drop 1 u.text = y.text ∙ hashed y.word (subst (λ c. IsTrue (is_of c y.word)) k (token_is u.class y.word (behind text.bytes u.stop) y.longest)) ∙ ap (λ x. codes "#" ++ drop 1 x) (sym y.text) in
        plain ∙ told ∙ ap (λ x. codes "#" ++ drop 1 x) (sym plain)
