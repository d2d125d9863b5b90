-- Where an item ends: before a comma or a closing sign, what the lemmas of covers ask of such a place.
use Rattle.std.proofs.Common.{◌≡◌, ℕ, Bool, true, false, List, refl, sym, ap, ◌∙◌}
use Rattle.std.specs.Prelude.{codes, not, ◌&&◌, ◌||◌}
use Rattle.std.proofs.lemmas.Bool.{false≢true}
use Rattle.tokens.specs.declared.token.TokenClass.TheVariants.{Punctuator}
use Rattle.tree.specs.Tree.{Tree}
use Rattle.language.specs.declared.Rank.{Rank}
use Rattle.language.specs.declared.Rank.TheVariants.{Expression}
use Rattle.language.specs.Vocabulary.{is, takes}
use Rattle.language.specs.Continuations.{holds}
use Rattle.language.specs.Token.{Token}
use Rattle.language.specs.Promises.{IsDetermined, Stops}
use Rattle.language.specs.Derivation.{Reads}
use Rattle.language.proofs.climbing.Conditionals.{stops_before}
use Rattle.language.proofs.list_loops.CommaLists.{Separated, by_comma, by_closing}
use Rattle.language.proofs.covers.CoverSpreads.{two_texts}
use Rattle.language.proofs.covers.CoverObjects.{Mark}

not_taken : (a b : Bool) → a ≡ false → (not a || b) ≡ true
not_taken false b h = refl
not_taken true b h = cc

-- the sign that ends a list
pub data Closing : List ℕ → Type 0 where
  a_bracket : Closing (codes "]")
  a_parenthesis : Closing (codes ")")
  a_brace : Closing (codes "}")

apart : {v w : List ℕ} (s : List ℕ → Bool) → s v ≡ true → s w ≡ false → v ≡ w → ⊥
apart s h k e = false≢true (sym k ∙ ap s (sym e) ∙ h)

module _ (S : Type 0) (Next : S → Token → S → Type 0) (behind : S → Token) (det : IsDetermined S Next behind) where
  -- nothing goes on there
  pub item_stops : {w : List ℕ} → Closing w → (y : Rank) (n : Tree) (e : S) → takes y Expression ≡ false → Separated S Next behind det w e → Stops S Next behind y true n e
  item_stops c y n e h (by_comma k) = stops_before S Next behind det y true n k refl refl (λ x u. not_taken (takes y Expression) ((is u.text "in" && not true) || not (holds x Expression)) h)
  item_stops a_bracket y n e h (by_closing k) = stops_before S Next behind det y true n k refl refl (λ x u. refl)
  item_stops a_parenthesis y n e h (by_closing k) = stops_before S Next behind det y true n k refl refl (λ x u. refl)
  item_stops a_brace y n e h (by_closing k) = stops_before S Next behind det y true n k refl refl (λ x u. refl)

  -- nothing is assigned there
  pub item_quiet : {w : List ℕ} → Closing w → (e : S) (v : Token) (k : S) → Separated S Next behind det w e → Reads S Next behind Punctuator (codes "=") e v k → ⊥
  item_quiet c e v k (by_comma h) eq = apart (λ x. is x "=") refl refl (two_texts S Next behind det refl refl eq h)
  item_quiet a_bracket e v k (by_closing h) eq = apart (λ x. is x "=") refl refl (two_texts S Next behind det refl refl eq h)
  item_quiet a_parenthesis e v k (by_closing h) eq = apart (λ x. is x "=") refl refl (two_texts S Next behind det refl refl eq h)
  item_quiet a_brace e v k (by_closing h) eq = apart (λ x. is x "=") refl refl (two_texts S Next behind det refl refl eq h)

  -- a property ends there
  pub item_marks : {w : List ℕ} → Closing w → (e : S) → Separated S Next behind det w e → Mark S Next behind det e
  item_marks c e (by_comma {t = t} {m = m} h) = record {
    text = codes ",";
    sign = t;
    mid = m;
    reads = h;
    allowed = refl;
    operand = refl;
    no_colon = apart (λ x. is x ",") refl refl;
    no_equals = apart (λ x. is x ",") refl refl;
    no_call = apart (λ x. is x ",") refl refl;
    no_bracket = apart (λ x. is x ",") refl refl;
    no_star = apart (λ x. is x ",") refl refl;
  }
  item_marks a_bracket e (by_closing {t = t} {m = m} h) = record {
    text = codes "]";
    sign = t;
    mid = m;
    reads = h;
    allowed = refl;
    operand = refl;
    no_colon = apart (λ x. is x "]") refl refl;
    no_equals = apart (λ x. is x "]") refl refl;
    no_call = apart (λ x. is x "]") refl refl;
    no_bracket = apart (λ x. is x "]") refl refl;
    no_star = apart (λ x. is x "]") refl refl;
  }
  item_marks a_parenthesis e (by_closing {t = t} {m = m} h) = record {
    text = codes ")";
    sign = t;
    mid = m;
    reads = h;
    allowed = refl;
    operand = refl;
    no_colon = apart (λ x. is x ")") refl refl;
    no_equals = apart (λ x. is x ")") refl refl;
    no_call = apart (λ x. is x ")") refl refl;
    no_bracket = apart (λ x. is x ")") refl refl;
    no_star = apart (λ x. is x ")") refl refl;
  }
  item_marks a_brace e (by_closing {t = t} {m = m} h) = record {
    text = codes "}";
    sign = t;
    mid = m;
    reads = h;
    allowed = refl;
    operand = refl;
    no_colon = apart (λ x. is x "}") refl refl;
    no_equals = apart (λ x. is x "}") refl refl;
    no_call = apart (λ x. is x "}") refl refl;
    no_bracket = apart (λ x. is x "}") refl refl;
    no_star = apart (λ x. is x "}") refl refl;
  }
