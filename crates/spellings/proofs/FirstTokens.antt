-- What names, literals and operators begin with.
use Rattle.std.proofs.Common.{◌≡◌, ℕ, Bool, true, false, List, [], ◌∷◌, refl, sym, ap, ◌∙◌, subst}
use Rattle.std.specs.Prelude.{not, cond, ◌||◌, ◌&&◌, nat_eq, nat_le, slice_index_or}
use Rattle.std.proofs.lemmas.Bool.{false≢true}
use Rattle.tokens.specs.declared.token.TokenClass.{TokenClass}
use Rattle.tokens.specs.declared.token.TokenClass.TheVariants as class
use Rattle.language.specs.declared.Start.{Start}
use Rattle.language.specs.declared.Start.TheVariants.{Any, NoBrace, Statement}
use Rattle.language.specs.Vocabulary.{is, among, is_reserved, is_prefix, is_update_operator, is_name, literal_class}
use Rattle.language.specs.Pieces.{Piece, tok}
use Rattle.language.specs.Grammar.{starts}
use Rattle.language.proofs.table.Begins.{among_by, Each}
use Rattle.spellings.proofs.OutlineWays.{is_word_behind, word_starts, sign_starts}

-- of a text among these, what holds of each
by_words : (f : List ℕ → Bool) (w : List ℕ) (ss : List Prim.Native.String.String) → among w ss ≡ true → Each (λ v. f v ≡ false) ss → f w ≡ false
by_words f w ss e h = among_by (λ v. f v ≡ false) w ss e h

abbrev opens_function : List ℕ → Bool
opens_function w = among w ("function" ∷ "class" ∷ [])

not_reserved : (w : List ℕ) → is_reserved w ≡ false → opens_function w ≡ false
unfolding is_reserved
not_reserved w r = go (opens_function w) refl
  where
    go : (b : Bool) → opens_function w ≡ b → opens_function w ≡ false
    go false e = e
    go true e = absurd (false≢true (sym r ∙ among_by (λ v. is_reserved v ≡ true) w ("function" ∷ "class" ∷ []) e (refl, (refl, tt))))

pub name_starts : (w : List ℕ) → is_reserved w ≡ false → (f : Start) → starts f (tok class.IdentifierName w ∷ []) ≡ true
name_starts w r f = word_starts f w [] refl (not_reserved w r)

-- a literal
class_starts : (c : TokenClass) (w : List ℕ) (f : Start) → is_name c ≡ false → (c ≡ class.Punctuator → ⊥) → starts f (tok c w ∷ []) ≡ true
class_starts class.IdentifierName w f h k = absurd (cc)
class_starts class.Punctuator w f h k = absurd (k refl)
class_starts _ w Any h k = refl
class_starts _ w NoBrace h k = refl
class_starts _ w Statement h k = refl

literal_sign : (w : List ℕ) → literal_class w ≡ class.Punctuator → ⊥
literal_sign w = of (nat_eq (slice_index_or w 0 0) 34 || nat_eq (slice_index_or w 0 0) 39) (nat_eq (slice_index_or w 0 0) 47) (nat_eq (slice_index_or w 0 0) 46 || (nat_le 48 (slice_index_or w 0 0) && nat_le (slice_index_or w 0 0) 57))
  where
    of : (a b c : Bool) → cond a class.StringLiteral (cond b class.RegularExpressionLiteral (cond c class.NumericLiteral class.IdentifierName)) ≡ class.Punctuator → ⊥
    of true b c e = cc
    of false true c e = cc
    of false false true e = cc
    of false false false e = cc

word_literal : (w : List ℕ) → among w ("true" ∷ "false" ∷ "null" ∷ []) ≡ true → opens_function w ≡ false
word_literal w e = by_words opens_function w ("true" ∷ "false" ∷ "null" ∷ []) e (refl, (refl, (refl, tt)))

pub literal_starts : (w : List ℕ) → (is_name (literal_class w) && not (among w ("true" ∷ "false" ∷ "null" ∷ []))) ≡ false → (f : Start) → starts f (tok (literal_class w) w ∷ []) ≡ true
literal_starts w h f = of (is_name (literal_class w)) refl (among w ("true" ∷ "false" ∷ "null" ∷ [])) refl h
  where
    name_of : (c : TokenClass) → is_name c ≡ true → c ≡ class.IdentifierName
    name_of class.IdentifierName e = refl
    name_of _ e = cc

    of : (a : Bool) → is_name (literal_class w) ≡ a → (b : Bool) → among w ("true" ∷ "false" ∷ "null" ∷ []) ≡ b → (a && not b) ≡ false → starts f (tok (literal_class w) w ∷ []) ≡ true
    of false e b d k = class_starts (literal_class w) w f e (literal_sign w)
    of true e true d k = subst (λ c. starts f (tok c w ∷ []) ≡ true) (sym (name_of (literal_class w) e)) (word_starts f w [] refl (word_literal w d))
    of true e false d k = absurd (false≢true (sym k))

-- operators
pub prefix_word : (w : List ℕ) (qs : List Piece) → is_word_behind qs ≡ false → is_prefix w ≡ true → (f : Start) → starts f (tok class.IdentifierName w ∷ qs) ≡ true
prefix_word w qs h e f = word_starts f w qs h (by_words opens_function w ("delete" ∷ "void" ∷ "typeof" ∷ "+" ∷ "-" ∷ "~" ∷ "!" ∷ []) e (refl, (refl, (refl, (refl, (refl, (refl, (refl, tt))))))))

pub prefix_sign : (w : List ℕ) (qs : List Piece) → is_prefix w ≡ true → (f : Start) → starts f (tok class.Punctuator w ∷ qs) ≡ true
prefix_sign w qs e f = sign_starts f w qs (by_words (λ v. is v "{") w ("delete" ∷ "void" ∷ "typeof" ∷ "+" ∷ "-" ∷ "~" ∷ "!" ∷ []) e (refl, (refl, (refl, (refl, (refl, (refl, (refl, tt))))))))

-- `{` is no operator
no_brace : (w : List ℕ) → is_update_operator w ≡ true → is w "{" ≡ false
no_brace w h = of (is w "{") refl
  where
    of : (b : Bool) → is w "{" ≡ b → is w "{" ≡ false
    of false e = e
    of true e = absurd (false≢true (sym (among_by (λ v. is_update_operator v ≡ false) w ("{" ∷ []) (ap (λ b. b || false) e) (refl, tt)) ∙ h))

pub step_sign : (w : List ℕ) (qs : List Piece) → is_update_operator w ≡ true → (f : Start) → starts f (tok class.Punctuator w ∷ qs) ≡ true
step_sign w qs e f = sign_starts f w qs (no_brace w e)
