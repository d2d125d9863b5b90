-- Private names: `#` and the longest name behind it.
use Rattle.std.proofs.Common.{◌≡◌, ℕ, Bool, true, false, not, ◌&&◌, List, [], ◌∷◌, ◌++◌, IsTrue, refl, sym, ap, ◌∙◌, subst, arith}
use Rattle.std.proofs.lemmas.Bool.{eqb-true}
use Rattle.std.proofs.lemmas.Bool.Decides.{nat_tests}
use Rattle.tokens.specs.Alphabet.{one_of}
use Rattle.tokens.specs.Lexical.{IdentifierName, PrivateName, Keyword, is_name, none_longer, is_token}
use Rattle.tokens.specs.Reading.{behind}
use Rattle.tokens.specs.Scanned.{Passed, IsWordAt, NoWordAt}
use Rattle.tokens.proofs.PassedCharacters.{passed_on}

-- behind `#` a private name is as long as the name
same_longer : (w rest : List ℕ) → none_longer PrivateName (35 ∷ w) rest ≡ none_longer IdentifierName w rest
same_longer w [] = refl
same_longer w (c ∷ rest) = ap (λ b. not (is_name (w ++ c ∷ []) && true) && b) (same_longer (w ++ c ∷ []) rest)

same_token : (w rest : List ℕ) → is_token PrivateName (35 ∷ w) rest ≡ is_token IdentifierName w rest
same_token w rest = ap (λ b. ((is_name w && true) && b) && true) (same_longer w rest)

pub private_word : (text : List ℕ) (at start stop c : ℕ) → Passed text at start (c ∷ []) → c ≡ 35 → IsWordAt IdentifierName text start stop → IsWordAt PrivateName text at stop
private_word text at start stop c p e w =
    record {
      word = c ∷ w.word;
      passed = passed_on text at start stop (c ∷ []) w.word p w.passed;
      longest = subst (λ x. IsTrue (is_token PrivateName (x ∷ w.word) (behind text stop))) (sym e) (subst IsTrue (sym (same_token w.word (behind text stop))) w.longest);
    }

pub no_private_word : (text : List ℕ) (at start c : ℕ) → Passed text at start (c ∷ []) → (c ≡ 35 → NoWordAt IdentifierName text start) → NoWordAt PrivateName text at
no_private_word text at start c p none = λ w rest e h. other w rest (sym p.split ∙ e) h where
  first : (a b n : Bool) → IsTrue ((((a && b) && true) && n) && true) → IsTrue a
  first a b n h = grind (arith, nat_tests)

  nothing : (n : Bool) → IsTrue ((false && n) && true) → ⊥
  nothing n h = grind (arith, nat_tests)

  other : (w rest : List ℕ) → c ∷ behind text start ≡ w ++ rest → IsTrue (is_token PrivateName w rest) → ⊥
  other [] rest e h = nothing (none_longer PrivateName [] rest) h
  other (d ∷ w) rest e h =
      let q : d ≡ c = cc in
      let z : behind text start ≡ w ++ rest = cc in
      let k : d ≡ 35 = eqb-true d 35 (first (one_of "#" d) (is_name w) (none_longer PrivateName (d ∷ w) rest) h) in
      none (sym q ∙ k) w rest z (subst IsTrue (same_token w rest) (subst (λ x. IsTrue (is_token PrivateName (x ∷ w) rest)) k h))

pub no_name_nothing : (text : List ℕ) (at : ℕ) → behind text at ≡ [] → NoWordAt IdentifierName text at
no_name_nothing text at q = λ w rest e h. other w rest (sym q ∙ e) h where
  nothing : (n : Bool) → IsTrue ((false && n) && true) → ⊥
  nothing n h = grind (arith, nat_tests)

  other : (w rest : List ℕ) → [] ≡ w ++ rest → IsTrue (is_token IdentifierName w rest) → ⊥
  other [] rest e h = nothing (none_longer IdentifierName [] rest) h
  other (c ∷ w) rest e h = cc

-- no scan gives a keyword
pub no_keyword : (text : List ℕ) (at : ℕ) → NoWordAt Keyword text at
no_keyword text at = λ w rest e h. nothing (none_longer Keyword w rest) h where
  nothing : (n : Bool) → IsTrue ((false && n) && true) → ⊥
  nothing n h = grind (arith, nat_tests)
