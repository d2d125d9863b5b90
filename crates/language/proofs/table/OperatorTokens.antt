-- The signs of operators: what the token is that makes one.
use Rattle.std.proofs.Common.{◌≡◌, ℕ, Bool, true, false, cond, List, [], ◌∷◌, refl, sym, ap, ◌∙◌}
use Rattle.std.specs.Prelude.{codes, ◌||◌, nat_eq, slice_index_or}
use Prim.Native.String.{String}
use Rattle.std.proofs.lemmas.Slice.Eq.{bytes_eq-Decides}
use Rattle.tokens.specs.declared.token.TokenClass.{TokenClass}
use Rattle.tokens.specs.declared.token.TokenClass.TheVariants.{IdentifierName, Punctuator, NumericLiteral, StringLiteral, Template, RegularExpressionLiteral, PrivateName, Keyword, End}
use Rattle.language.specs.Vocabulary.{is, among, is_word_operator, Operator, op_update, op_comma, op_question, op_dot, op_call, op_index, op_optional, op_template, op_none, operators, operator_of}
use Rattle.language.specs.Token.{Token}
use Rattle.language.specs.Continuations.{of_class, operation}
use Rattle.language.specs.Derivation.{Reads}
use Rattle.language.proofs.table.OperatorFacts.{texts_of, text_among}
use Rattle.language.proofs.climbing.SpineContinuations.{steps_no_word}

-- the token of an operator is a word or a sign, whose text says what it makes
pub op_reads : (t : Token) {x : Operator} → operation t ≡ x → (x ≡ op_none → ⊥) → (x ≡ op_template → ⊥) → (t.class ≡ cond (is_word_operator t.text) IdentifierName Punctuator) × (operator_of t.text ≡ x)
op_reads t {x} h n m = go t.class refl h
  where
    named : (b : Bool) → t.class ≡ IdentifierName → is_word_operator t.text ≡ b → cond b (operator_of t.text) op_none ≡ x → (t.class ≡ cond (is_word_operator t.text) IdentifierName Punctuator) × (operator_of t.text ≡ x)
    named true e p k = (e ∙ sym (ap (λ b. cond b IdentifierName Punctuator) p), k)
    named false e p k = absurd (n (sym k))

    signed : (b : Bool) → t.class ≡ Punctuator → is_word_operator t.text ≡ b → cond b op_none (operator_of t.text) ≡ x → (t.class ≡ cond (is_word_operator t.text) IdentifierName Punctuator) × (operator_of t.text ≡ x)
    signed true e p k = absurd (n (sym k))
    signed false e p k = (e ∙ sym (ap (λ b. cond b IdentifierName Punctuator) p), k)

    tagged : (b : Bool) {A : Type 0} → cond b op_template op_none ≡ x → A
    tagged true k = absurd (m (sym k))
    tagged false k = absurd (n (sym k))

    go : (c : TokenClass) → t.class ≡ c → of_class c t.text ≡ x → (t.class ≡ cond (is_word_operator t.text) IdentifierName Punctuator) × (operator_of t.text ≡ x)
    go IdentifierName e k = named (is_word_operator t.text) e refl k
    go Punctuator e k = signed (is_word_operator t.text) e refl k
    go Template e k = tagged (nat_eq (slice_index_or t.text 0 0) 96) k
    go NumericLiteral e k = absurd (n (sym k))
    go StringLiteral e k = absurd (n (sym k))
    go RegularExpressionLiteral e k = absurd (n (sym k))
    go PrivateName e k = absurd (n (sym k))
    go Keyword e k = absurd (n (sym k))
    go End e k = absurd (n (sym k))

abbrev pub is_comma : Operator → Bool
is_comma op_comma = true
is_comma _ = false

abbrev pub is_question : Operator → Bool
is_question op_question = true
is_question _ = false

abbrev pub is_dot : Operator → Bool
is_dot op_dot = true
is_dot _ = false

abbrev pub is_call : Operator → Bool
is_call op_call = true
is_call _ = false

abbrev pub is_index : Operator → Bool
is_index op_index = true
is_index _ = false

abbrev pub is_chain : Operator → Bool
is_chain op_optional = true
is_chain _ = false

one_text : (w : List ℕ) (s : String) → among w (s ∷ []) ≡ true → w ≡ codes s
one_text w s h = go (is w s) refl h
  where
    go : (b : Bool) → is w s ≡ b → (b || false) ≡ true → w ≡ codes s
    go true e h = (bytes_eq-Decides w (codes s)).0 e
    go false e h = cc

module _ (S : Type 0) (Next : S → Token → S → Type 0) (behind : S → Token) where
  -- the token of an operator with one sign is that sign
  one_sign : {s e : S} (t : Token) (v : String) (test : Operator → Bool) {x : Operator} → texts_of test operators ≡ v ∷ [] → test op_none ≡ false → test x ≡ true → is_word_operator (codes v) ≡ false → Next s t e → operation t ≡ x →
      (x ≡ op_none → ⊥) → (x ≡ op_template → ⊥) → Reads S Next behind Punctuator (codes v) s t e
  one_sign t v test {x} texts other it sign nx op n m =
      let r = op_reads t op n m in
      let text : t.text ≡ codes v = one_text t.text v (sym (ap (among t.text) texts) ∙ text_among test t.text operators other (ap test r.1 ∙ it)) in
      record { next = nx; class = r.0 ∙ ap (λ w. cond (is_word_operator w) IdentifierName Punctuator) text ∙ ap (λ b. cond b IdentifierName Punctuator) sign; text = text }

  -- `?`
  pub reads_question : {s e : S} {t : Token} → Next s t e → operation t ≡ op_question → Reads S Next behind Punctuator (codes "?") s t e
  reads_question {t = t} nx op = one_sign t "?" is_question refl refl refl refl nx op (λ e. cc) (λ e. cc)

  -- `,`
  pub reads_comma : {s e : S} {t : Token} → Next s t e → operation t ≡ op_comma → Reads S Next behind Punctuator (codes ",") s t e
  reads_comma {t = t} nx op = one_sign t "," is_comma refl refl refl refl nx op (λ e. cc) (λ e. cc)

  -- `.`
  pub reads_dot : {s e : S} {t : Token} → Next s t e → operation t ≡ op_dot → Reads S Next behind Punctuator (codes ".") s t e
  reads_dot {t = t} nx op = one_sign t "." is_dot refl refl refl refl nx op (λ e. cc) (λ e. cc)

  -- `(`
  pub reads_call : {s e : S} {t : Token} → Next s t e → operation t ≡ op_call → Reads S Next behind Punctuator (codes "(") s t e
  reads_call {t = t} nx op = one_sign t "(" is_call refl refl refl refl nx op (λ e. cc) (λ e. cc)

  -- `[`
  pub reads_index : {s e : S} {t : Token} → Next s t e → operation t ≡ op_index → Reads S Next behind Punctuator (codes "[") s t e
  reads_index {t = t} nx op = one_sign t "[" is_index refl refl refl refl nx op (λ e. cc) (λ e. cc)

  -- `?.`
  pub reads_chain : {s e : S} {t : Token} → Next s t e → operation t ≡ op_optional → Reads S Next behind Punctuator (codes "?.") s t e
  reads_chain {t = t} nx op = one_sign t "?." is_chain refl refl refl refl nx op (λ e. cc) (λ e. cc)

  -- `++` or `--`
  pub reads_step : {s e : S} {t : Token} → Next s t e → operation t ≡ op_update → Reads S Next behind Punctuator t.text s t e × (operator_of t.text ≡ op_update)
  reads_step {t = t} nx op =
      let r = op_reads t op (λ e. cc) (λ e. cc) in
      (record { next = nx; class = r.0 ∙ ap (λ b. cond b IdentifierName Punctuator) (steps_no_word t.text r.1); text = refl }, r.1)
