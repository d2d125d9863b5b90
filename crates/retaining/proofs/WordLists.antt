-- Words of a list, and the tokens that may go or come.
use Rattle.std.proofs.Common.{◌≡◌, ℕ, Bool, true, false, ◌||◌, List, [], ◌∷◌, ◌++◌, Some, None, slice_get, codes, bytes_eq, refl, sym, ap, ◌∙◌}
use Prim.Native.String.{String}
use Rattle.std.proofs.lemmas.Bool.{or_left, or_right}
use Rattle.std.proofs.lemmas.Slice.Eq.{bytes_eq-Decides}
use Rattle.tokens.specs.Lexical.{is_one_of_words}
use Rattle.unwrapping.specs.declared.reading.ByteSpan.{ByteSpan}
use Rattle.unwrapping.specs.declared.reading.TokenRow.{TokenRow}
use Rattle.unwrapping.specs.Readings.{bytes_in}
use Rattle.retaining.specs.Retains.{Word, Recent, is_free, is_of_same_name, next_has, operators}
use Rattle.retaining.specs.Comparing.{words_in}

-- ---- words

-- the words before an operand, in three lists
abbrev before_expression : List String
before_expression = "case" ∷ "typeof" ∷ "void" ∷ "delete" ∷ "in" ∷ []

abbrev before_statement : List String
before_statement = "instanceof" ∷ "else" ∷ "do" ∷ "default" ∷ []

abbrev before_star : List String
before_star = "extends" ∷ "function" ∷ "import" ∷ "export" ∷ []

abbrev pub before_operand : List String
before_operand = before_expression ++ (before_statement ++ before_star)

-- the operators, in four lists
abbrev logical : List String
logical = "??" ∷ "||" ∷ "&&" ∷ "|" ∷ "^" ∷ "&" ∷ []

abbrev equality : List String
equality = "==" ∷ "!=" ∷ "===" ∷ "!==" ∷ []

abbrev relational : List String
relational = "<" ∷ ">" ∷ "<=" ∷ ">=" ∷ "in" ∷ "instanceof" ∷ []

abbrev arithmetic : List String
arithmetic = "<<" ∷ ">>" ∷ ">>>" ∷ "+" ∷ "-" ∷ "*" ∷ "/" ∷ "%" ∷ "**" ∷ []

one_more : (a b c : Bool) → (a || (b || c)) ≡ ((a || b) || c)
one_more true b c = refl
one_more false b c = refl

or_else : (a b : Bool) → a ≡ false → (a || b) ≡ b
or_else a b e = ap (λ x. x || b) e

one_of_either : (xs ys : List String) (t : List ℕ) → is_one_of_words (xs ++ ys) t ≡ (is_one_of_words xs t || is_one_of_words ys t)
one_of_either [] ys t = refl
one_of_either (x ∷ xs) ys t = ap (λ b. bytes_eq t (codes x) || b) (one_of_either xs ys t) ∙ one_more (bytes_eq t (codes x)) (is_one_of_words xs t) (is_one_of_words ys t)

pub operator_logical : (t : List ℕ) → is_one_of_words logical t ≡ true → is_one_of_words operators t ≡ true
operator_logical t h = one_of_either logical (equality ++ (relational ++ arithmetic)) t ∙ or_left _ _ h

pub operator_equality : (t : List ℕ) → is_one_of_words equality t ≡ true → is_one_of_words operators t ≡ true
operator_equality t h = one_of_either logical (equality ++ (relational ++ arithmetic)) t ∙ or_right _ _ (one_of_either equality (relational ++ arithmetic) t ∙ or_left _ _ h)

pub operator_relational : (t : List ℕ) → is_one_of_words relational t ≡ true → is_one_of_words operators t ≡ true
operator_relational t h =
    one_of_either logical (equality ++ (relational ++ arithmetic)) t
    ∙ or_right _ _ (one_of_either equality (relational ++ arithmetic) t ∙ or_right _ _ (one_of_either relational arithmetic t ∙ or_left _ _ h))

pub operator_arithmetic : (t : List ℕ) → is_one_of_words arithmetic t ≡ true → is_one_of_words operators t ≡ true
operator_arithmetic t h =
    one_of_either logical (equality ++ (relational ++ arithmetic)) t
    ∙ or_right _ _ (one_of_either equality (relational ++ arithmetic) t ∙ or_right _ _ (one_of_either relational arithmetic t ∙ or_right _ _ h))

pub operand_expression : (t : List ℕ) (a : Bool) → a ≡ is_one_of_words before_expression t → a ≡ true → true ≡ is_one_of_words before_operand t
operand_expression t a e h = sym (one_of_either before_expression (before_statement ++ before_star) t ∙ or_left _ _ (sym e ∙ h))

pub operand_statement : (t : List ℕ) (a : Bool) → a ≡ is_one_of_words before_statement t → a ≡ true → true ≡ is_one_of_words before_operand t
operand_statement t a e h = sym (one_of_either before_expression (before_statement ++ before_star) t ∙ or_right _ _ (one_of_either before_statement before_star t ∙ or_left _ _ (sym e ∙ h)))

pub operand_star : (t : List ℕ) (a b c : Bool) → a ≡ is_one_of_words before_expression t → b ≡ is_one_of_words before_statement t → c ≡ is_one_of_words before_star t → a ≡ false → b ≡ false → c ≡ is_one_of_words before_operand t
operand_star t a b c e f g h k = g ∙ sym (one_of_either before_expression (before_statement ++ before_star) t ∙ or_else _ _ (sym e ∙ h) ∙ one_of_either before_statement before_star t ∙ or_else _ _ (sym f ∙ k))

-- ---- what may go or come

no_some : {X : Type 0} (x : X) → Some x ≡ None → ⊥
no_some x e = cc

pub next_same : (text : List ℕ) (span : ByteSpan) (rows : List TokenRow) (row : TokenRow) → Some row ≡ slice_get rows 0 → bytes_in text row.span ≡ bytes_in text span → next_has (bytes_in text span) (words_in text rows) ≡ true
next_same text span [] row e h = absurd (no_some row e)
next_same text span (r ∷ rows) row e h =
    let same : row ≡ r = cc in
    (bytes_eq-Decides (bytes_in text r.span) (bytes_in text span)).1 (ap (λ (x : TokenRow). bytes_in text x.span) (sym same) ∙ h)

pub free_same : (r : Recent) (w : Word) (ws : List Word) → is_of_same_name r w ws ≡ true → is_free r (w ∷ ws) ≡ true
free_same r w ws h = or_right _ _ h
