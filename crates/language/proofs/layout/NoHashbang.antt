-- No text of readable items begins with a line of `#!`.
use Rattle.std.proofs.Common.{◌≡◌, ℕ, Bool, true, false, cond, ◌&&◌, List, [], ◌∷◌, ◌++◌, refl, sym, ap, ◌∙◌, subst, arith, IsTrue, IsFalse}
use Rattle.std.specs.List.{list_all}
use Rattle.std.specs.Str.{chars}
use Rattle.std.proofs.lemmas.Str.{chars-append, chars-nil}
use Rattle.std.proofs.lemmas.Bool.{and_parts, false≢true, true≢false}
use Rattle.std.proofs.lemmas.Bool.Decides.{nat_tests}
use Rattle.tokens.specs.declared.token.TokenClass.{TokenClass}
use Rattle.tokens.specs.declared.token.TokenClass.TheVariants.{PrivateName}
use Rattle.tokens.specs.declared.token.Goal.{Goal}
use Rattle.tokens.specs.Alphabet.{one_of}
use Rattle.tokens.specs.Comments.{hashbang}
use Rattle.tokens.specs.Lexical.{is_of, is_token}
use Rattle.tokens.specs.Goals.{allows}
use Rattle.tokens.specs.TokenStarts.{class_of}
use Rattle.tokens.proofs.Classes.{class_fits, token_is, start_plain, is_special}
use Rattle.tokens.proofs.Beginnings.{true_false}
use Rattle.language.specs.Readable.{scanned, is_blank}
use Rattle.language.specs.Printed.{Item, items_text}
use Rattle.language.proofs.layout.ReadItems.{Readable, ends, a_word, a_gap, a_name, a_line, a_close}

-- what begins with `#` is a private name, whose second character is no `!`
private_bang : (w rest : List ℕ) → IsTrue (is_of PrivateName w) → (x y : ℕ) (zs : List ℕ) → w ++ rest ≡ x ∷ y ∷ zs → one_of "!" y ≡ false
private_bang [] rest h x y zs e = absurd (true_false _ h refl)
private_bang (c ∷ []) rest h x y zs e = absurd (ends_none (one_of "#" c) h)
  where
    ends_none : (b : Bool) → IsTrue (b && false) → ⊥
    ends_none true h = false≢true h
    ends_none false h = false≢true h
private_bang (c ∷ d ∷ cs) rest h x y zs e = let same : d ≡ y = cc in subst (λ z. one_of "!" z ≡ false) same (plain d (start_plain d (and_parts _ _ (and_parts (one_of "#" c) _ h).1).0))
  where
    plain : (c : ℕ) → IsFalse (is_special c) → one_of "!" c ≡ false
    plain c h = grind (arith, nat_tests)

no_bang : (goal : Goal) (class : TokenClass) (w rest : List ℕ) → IsTrue (is_token class w rest) → IsTrue (allows goal class w) → hashbang (w ++ rest) ≡ []
no_bang goal class w rest h k = go (w ++ rest) refl
  where
    is_private : (x : ℕ) (ys : List ℕ) → w ++ rest ≡ x ∷ ys → one_of "#" x ≡ true → class ≡ PrivateName
    is_private x ys e t = class_fits goal class w rest h k ∙ (ap (class_of goal) e ∙ subst (λ z. class_of goal (z ∷ ys) ≡ PrivateName) (sym (hash x t)) refl)
      where
        hash : (x : ℕ) → one_of "#" x ≡ true → x ≡ 35
        hash x t = grind (arith, nat_tests)

    go : (cs : List ℕ) → w ++ rest ≡ cs → hashbang cs ≡ []
    go [] e = refl
    go (x ∷ []) e = refl
    go (x ∷ y ∷ zs) e = of (one_of "#" x) (one_of "!" y) refl refl
      where
        of : (a b : Bool) → one_of "#" x ≡ a → one_of "!" y ≡ b → cond (a && b) (x ∷ y ∷ Rattle.tokens.specs.Comments.first_line zs) [] ≡ []
        of true true t b = absurd (true≢false (sym b ∙ private_bang w rest (subst (λ c. IsTrue (is_of c w)) (is_private x (y ∷ zs) e t) (token_is class w rest h)) x y zs e))
        of true false t b = refl
        of false b t c = refl

blank_bang : (cs rest : List ℕ) → list_all is_blank cs ≡ true → hashbang rest ≡ [] → hashbang (cs ++ rest) ≡ []
blank_bang [] rest h e = e
blank_bang (c ∷ cs) rest h e = go (cs ++ rest)
  where
    no_hash : (c : ℕ) → is_blank c ≡ true → one_of "#" c ≡ false
    no_hash c h = grind (arith, nat_tests)

    go : (ys : List ℕ) → hashbang (c ∷ ys) ≡ []
    go [] = refl
    go (y ∷ ys) = ap (λ b. cond (b && one_of "!" y) (c ∷ y ∷ Rattle.tokens.specs.Comments.first_line ys) []) (no_hash c (and_parts (is_blank c) _ h).0)

pub no_hashbang : {is : List Item} → Readable is → hashbang (chars (items_text is)) ≡ []
no_hashbang ends = ap hashbang chars-nil
no_hashbang (a_word {c = c} {w = w} {is = is} a r) = ap hashbang (chars-append w (items_text is) a.utf8) ∙ no_bang a.goal (scanned c) (chars w) (chars (items_text is)) a.longest a.allowed
no_hashbang (a_gap {w = w} {is = is} a j r) = ap hashbang (chars-append w (items_text is) a.utf8) ∙ blank_bang (chars w) (chars (items_text is)) a.blank (no_hashbang r)
no_hashbang (a_name r) = no_hashbang r
no_hashbang (a_line h r) = no_hashbang r
no_hashbang (a_close r) = no_hashbang r
