-- What a token opens, from its class and its text (ECMA-262 12.2 to 12.5).
use Rattle.std.proofs.Common.{◌≡◌, ℕ, Bool, true, false, cond, List, [], ◌∷◌, ◌++◌, refl, sym, ap, ◌∙◌, subst, arith}
use Rattle.std.specs.Prelude.{IsTrue, ◌||◌, nat_eq, slice_index_or}
use Prim.Native.String.{String}
use Rattle.std.proofs.lemmas.Bool.{false≢true}
use Rattle.std.proofs.lemmas.Bool.Decides.{nat_tests}
use Rattle.tokens.specs.declared.token.TokenClass.{TokenClass}
use Rattle.tokens.specs.declared.token.TokenClass.TheVariants.{IdentifierName, Punctuator, NumericLiteral, StringLiteral, Template, RegularExpressionLiteral, End, PrivateName, Keyword}
use Rattle.tokens.specs.declared.token.Goal.TheVariants as goal
use Rattle.tokens.specs.Goals.{allows}
use Rattle.language.specs.Vocabulary.{is, among, is_reserved, is_keyword}
use Rattle.language.specs.ExpressionStart.{ExpressionStart, with_name, with_literal, with_this, with_template, with_step, with_word, with_sign, no_start, expression_start_by, start_among, start_words, start_punctuators}
use Rattle.recursive_descent.proofs.reading.LiteralTokens.{is_literal_class}

-- the texts of the rows that pass a test
abbrev pub texts : (ExpressionStart → Bool) → List (List String × ExpressionStart) → List String
texts p [] = []
texts p (r ∷ rows) = cond (p r.1) (r.0 ++ texts p rows) (texts p rows)

among_left : (w : List ℕ) (ss ts : List String) → among w ss ≡ true → among w (ss ++ ts) ≡ true
among_left w [] ts h = absurd (false≢true h)
among_left w (s ∷ ss) ts h = go (is w s) h (among_left w ss ts)
  where
    go : (b : Bool) → (b || among w ss) ≡ true → (among w ss ≡ true → among w (ss ++ ts) ≡ true) → (b || among w (ss ++ ts)) ≡ true
    go true k f = refl
    go false k f = f k

among_right : (w : List ℕ) (ss ts : List String) → among w ts ≡ true → among w (ss ++ ts) ≡ true
among_right w [] ts h = h
among_right w (s ∷ ss) ts h = go (is w s) (among_right w ss ts h)
  where
    go : (b : Bool) → among w (ss ++ ts) ≡ true → (b || among w (ss ++ ts)) ≡ true
    go true k = refl
    go false k = k

-- the text is one of those
pub by_texts : (p : ExpressionStart → Bool) (w : List ℕ) (rows : List (List String × ExpressionStart)) (other : ExpressionStart) → p other ≡ false → p (start_among w rows other) ≡ true → among w (texts p rows) ≡ true
by_texts p w [] other k h = absurd (false≢true (sym k ∙ h))
by_texts p w (r ∷ rows) other k h = go (among w r.0) (p r.1) refl refl h (by_texts p w rows other k)
  where
    go : (a b : Bool) → among w r.0 ≡ a → p r.1 ≡ b → p (cond a r.1 (start_among w rows other)) ≡ true → (p (start_among w rows other) ≡ true → among w (texts p rows) ≡ true) → among w (cond b (r.0 ++ texts p rows) (texts p rows)) ≡ true
    go true true e q h f = among_left w r.0 (texts p rows) e
    go true false e q h f = absurd (false≢true (sym q ∙ h))
    go false true e q h f = among_right w r.0 (texts p rows) (f h)
    go false false e q h f = f h

name_other : (p : ExpressionStart → Bool) (b : Bool) → p no_start ≡ false → p with_name ≡ false → p (cond b no_start with_name) ≡ false
name_other p true h k = h
name_other p false h k = k

no_template : {A : Type 0} (p : ExpressionStart → Bool) (b : Bool) → p with_template ≡ false → p no_start ≡ false → p (cond b with_template no_start) ≡ true → A
no_template p true h k e = absurd (false≢true (sym h ∙ e))
no_template p false h k e = absurd (false≢true (sym k ∙ e))

abbrev is_word : ExpressionStart → Bool
is_word with_word = true
is_word _ = false

abbrev is_sign : ExpressionStart → Bool
is_sign with_sign = true
is_sign _ = false

abbrev is_step : ExpressionStart → Bool
is_step with_step = true
is_step _ = false

abbrev is_name : ExpressionStart → Bool
is_name with_name = true
is_name _ = false

abbrev is_this : ExpressionStart → Bool
is_this with_this = true
is_this _ = false

abbrev is_literal : ExpressionStart → Bool
is_literal with_literal = true
is_literal _ = false

abbrev is_template : ExpressionStart → Bool
is_template with_template = true
is_template _ = false

no_keyword : {X : Type 0} (f : ExpressionStart → Bool) (b : Bool) → f with_word ≡ false → f no_start ≡ false → f (cond b with_word no_start) ≡ true → X
no_keyword f true p q h = absurd (false≢true (sym p ∙ h))
no_keyword f false p q h = absurd (false≢true (sym q ∙ h))

a_keyword : (b : Bool) → is_word (cond b with_word no_start) ≡ true → b ≡ true
a_keyword true h = refl
a_keyword false h = absurd (false≢true h)

-- an operator that is a word is one of three names, or a keyword
pub data WordBy (c : TokenClass) (w : List ℕ) : Type 0 where
  a_name : c ≡ IdentifierName → among w ("delete" ∷ "void" ∷ "typeof" ∷ []) ≡ true → WordBy c w
  a_keyword_of : c ≡ Keyword → is_keyword w ≡ true → WordBy c w

pub word_of : (c : TokenClass) (w : List ℕ) → expression_start_by c w ≡ with_word → WordBy c w
word_of IdentifierName w h = a_name refl (by_texts is_word w start_words (cond (is_reserved w) no_start with_name) (name_other is_word (is_reserved w) refl refl) (ap is_word h))
word_of Punctuator w h = absurd (false≢true (by_texts is_word w start_punctuators no_start refl (ap is_word h)))
word_of NumericLiteral w h = cc
word_of StringLiteral w h = cc
word_of PrivateName w h = cc
word_of Keyword w h = a_keyword_of refl (a_keyword (is_keyword w) (ap is_word h))
word_of RegularExpressionLiteral w h = cc
word_of Template w h = no_template is_word (nat_eq (slice_index_or w 0 0) 96) refl refl (ap is_word h)
word_of End w h = cc

pub sign_of : (c : TokenClass) (w : List ℕ) → expression_start_by c w ≡ with_sign → (c ≡ Punctuator) × (among w ("+" ∷ "-" ∷ "~" ∷ "!" ∷ []) ≡ true)
sign_of IdentifierName w h = absurd (false≢true (by_texts is_sign w start_words (cond (is_reserved w) no_start with_name) (name_other is_sign (is_reserved w) refl refl) (ap is_sign h)))
sign_of Punctuator w h = (refl, by_texts is_sign w start_punctuators no_start refl (ap is_sign h))
sign_of NumericLiteral w h = cc
sign_of StringLiteral w h = cc
sign_of PrivateName w h = cc
sign_of Keyword w h = no_keyword is_sign (is_keyword w) refl refl (ap is_sign h)
sign_of RegularExpressionLiteral w h = cc
sign_of Template w h = no_template is_sign (nat_eq (slice_index_or w 0 0) 96) refl refl (ap is_sign h)
sign_of End w h = cc

pub step_of : (c : TokenClass) (w : List ℕ) → expression_start_by c w ≡ with_step → (c ≡ Punctuator) × (among w ("++" ∷ "--" ∷ []) ≡ true)
step_of IdentifierName w h = absurd (false≢true (by_texts is_step w start_words (cond (is_reserved w) no_start with_name) (name_other is_step (is_reserved w) refl refl) (ap is_step h)))
step_of Punctuator w h = (refl, by_texts is_step w start_punctuators no_start refl (ap is_step h))
step_of NumericLiteral w h = cc
step_of StringLiteral w h = cc
step_of PrivateName w h = cc
step_of Keyword w h = no_keyword is_step (is_keyword w) refl refl (ap is_step h)
step_of RegularExpressionLiteral w h = cc
step_of Template w h = no_template is_step (nat_eq (slice_index_or w 0 0) 96) refl refl (ap is_step h)
step_of End w h = cc

pub this_of : (c : TokenClass) (w : List ℕ) → expression_start_by c w ≡ with_this → (c ≡ IdentifierName) × (among w ("this" ∷ []) ≡ true)
this_of IdentifierName w h = (refl, by_texts is_this w start_words (cond (is_reserved w) no_start with_name) (name_other is_this (is_reserved w) refl refl) (ap is_this h))
this_of Punctuator w h = absurd (false≢true (by_texts is_this w start_punctuators no_start refl (ap is_this h)))
this_of NumericLiteral w h = cc
this_of StringLiteral w h = cc
this_of PrivateName w h = cc
this_of Keyword w h = no_keyword is_this (is_keyword w) refl refl (ap is_this h)
this_of RegularExpressionLiteral w h = cc
this_of Template w h = no_template is_this (nat_eq (slice_index_or w 0 0) 96) refl refl (ap is_this h)
this_of End w h = cc

pub name_of : (c : TokenClass) (w : List ℕ) → expression_start_by c w ≡ with_name → (c ≡ IdentifierName) × (is_reserved w ≡ false)
name_of IdentifierName w h = (refl, go (is_reserved w) refl)
  where
    go : (b : Bool) → is_reserved w ≡ b → b ≡ false
    go false e = refl
    go true e = absurd (false≢true (by_texts is_name w start_words (cond (is_reserved w) no_start with_name) (ap (λ x. is_name (cond x no_start with_name)) e) (ap is_name h)))
name_of Punctuator w h = absurd (false≢true (by_texts is_name w start_punctuators no_start refl (ap is_name h)))
name_of NumericLiteral w h = cc
name_of StringLiteral w h = cc
name_of PrivateName w h = cc
name_of Keyword w h = no_keyword is_name (is_keyword w) refl refl (ap is_name h)
name_of RegularExpressionLiteral w h = cc
name_of Template w h = no_template is_name (nat_eq (slice_index_or w 0 0) 96) refl refl (ap is_name h)
name_of End w h = cc

-- a literal is a number, a string, a regular expression or one of three words
pub data LiteralBy (c : TokenClass) (w : List ℕ) : Type 0 where
  a_word : c ≡ IdentifierName → among w ("true" ∷ "false" ∷ "null" ∷ []) ≡ true → LiteralBy c w
  a_token : is_literal_class c ≡ true → LiteralBy c w

pub literal_of : (c : TokenClass) (w : List ℕ) → expression_start_by c w ≡ with_literal → LiteralBy c w
literal_of IdentifierName w h = a_word refl (by_texts is_literal w start_words (cond (is_reserved w) no_start with_name) (name_other is_literal (is_reserved w) refl refl) (ap is_literal h))
literal_of Punctuator w h = absurd (false≢true (by_texts is_literal w start_punctuators no_start refl (ap is_literal h)))
literal_of NumericLiteral w h = a_token refl
literal_of StringLiteral w h = a_token refl
literal_of PrivateName w h = cc
literal_of Keyword w h = no_keyword is_literal (is_keyword w) refl refl (ap is_literal h)
literal_of RegularExpressionLiteral w h = a_token refl
literal_of Template w h = no_template is_literal (nat_eq (slice_index_or w 0 0) 96) refl refl (ap is_literal h)
literal_of End w h = cc

-- the first part of a template is read by the goal behind operands too
starts_template : (w : List ℕ) → nat_eq (slice_index_or w 0 0) 96 ≡ true → IsTrue (allows goal.Div Template w)
starts_template [] h = absurd (false≢true h)
starts_template (c ∷ cs) h = let e : c ≡ 96 = grind (arith, nat_tests) in subst (λ x. IsTrue (allows goal.Div Template (x ∷ cs))) (sym e) refl

pub template_of : (c : TokenClass) (w : List ℕ) → expression_start_by c w ≡ with_template → (c ≡ Template) × IsTrue (allows goal.Div Template w)
template_of IdentifierName w h = absurd (false≢true (by_texts is_template w start_words (cond (is_reserved w) no_start with_name) (name_other is_template (is_reserved w) refl refl) (ap is_template h)))
template_of Punctuator w h = absurd (false≢true (by_texts is_template w start_punctuators no_start refl (ap is_template h)))
template_of NumericLiteral w h = cc
template_of StringLiteral w h = cc
template_of PrivateName w h = cc
template_of Keyword w h = no_keyword is_template (is_keyword w) refl refl (ap is_template h)
template_of RegularExpressionLiteral w h = cc
template_of Template w h = (refl, starts_template w (go (nat_eq (slice_index_or w 0 0) 96) (ap is_template h)))
  where
    go : (b : Bool) → is_template (cond b with_template no_start) ≡ true → b ≡ true
    go true k = refl
    go false k = absurd (false≢true k)
template_of End w h = cc
