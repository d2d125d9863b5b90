-- No item of a list of covers begins with a comma or with what closes the list.
use Rattle.std.proofs.Common.{◌≡◌, ℕ, Bool, true, false, cond, List, refl, sym, ap, ◌∙◌, subst}
use Rattle.std.specs.Prelude.{IsTrue, Option, Some, codes}
use Rattle.std.proofs.lemmas.Bool.{false≢true}
use Rattle.tokens.specs.declared.token.TokenClass.TheVariants.{Punctuator}
use Rattle.tokens.specs.declared.token.Goal.{Goal}
use Rattle.tokens.specs.declared.token.Goal.TheVariants.{Div}
use Rattle.tokens.specs.Goals.{allows}
use Rattle.tree.specs.declared.kind.Kind.{Kind}
use Rattle.tree.specs.declared.kind.Kind.TheVariants.{SpreadElement, RestElement, Property}
use Rattle.tree.specs.declared.kind.Pair.{Pair}
use Rattle.tree.specs.Tree.{Tree, node, kind_of}
use Rattle.language.specs.declared.Rank.{Rank}
use Rattle.language.specs.declared.Rank.TheVariants.{Assignment}
use Rattle.language.specs.declared.Start.{Start}
use Rattle.language.specs.declared.Start.TheVariants.{Any}
use Rattle.language.specs.Vocabulary.{is, is_spread, is_rest}
use Rattle.language.specs.Pieces.{Role, expr, spread, pattern, rest, with_default}
use Rattle.language.specs.Token.{Token}
use Rattle.language.specs.ExpressionStart.{no_start, expression_start_by}
use Rattle.language.specs.Covers.{Reading, as_expression, as_pattern, element_as, property_as}
use Rattle.language.specs.Promises.{IsDetermined}
use Rattle.language.specs.Grammar.{ways}
use Rattle.language.specs.Derivation.{Reads, Spells}
use Rattle.language.proofs.table.TokenFirstWays.{opens}
use Rattle.language.proofs.climbing.Supers.{none_begins}
use Rattle.language.proofs.covers.PatternsByToken.{no_pattern}
use Rattle.language.proofs.covers.CoverElements.{Simple, simple_expression, ElementForm, bare_pattern, bare_simple, pattern_default, simple_default, element_form}
use Rattle.language.proofs.covers.CoverSpreads.{two_texts, spread_form, rest_form}
use Rattle.language.proofs.covers.CoverReadings.{name_or_sign}
use Rattle.language.proofs.covers.CoverProperties.{PropertyAt, by_value, by_name, by_method, by_star, by_async, by_async_star, by_accessor, PatternPropertyAt, with_value, with_name, with_element, property_at, pattern_property_at}
use Rattle.language.proofs.table.KindViews.{InObject, a_spread, a_property, in_object, InPattern, a_rest, a_property_there, in_pattern}
use Rattle.language.proofs.covers.CoverKeys.{key_at_sign, echo_form}

some_same : {a b : Role} → Some a ≡ Some b → a ≡ b
some_same e = cc

apart : {v w : List ℕ} (s : List ℕ → Bool) → s v ≡ true → s w ≡ false → v ≡ w → ⊥
apart s h k e = false≢true (sym k ∙ ap s (sym e) ∙ h)

-- a sign with which no item begins
pub record Separates (w : List ℕ) : Type 0 where
  pub operand : IsTrue (allows Goal.RegExp Punctuator w)
  pub allowed : IsTrue (allows Div Punctuator w)
  pub opens_none : expression_start_by Punctuator w ≡ no_start
  pub no_bracket : w ≡ codes "[" → ⊥
  pub no_brace : w ≡ codes "{" → ⊥
  pub no_dots : w ≡ codes "..." → ⊥
  pub no_star : w ≡ codes "*" → ⊥

pub comma_separates : Separates (codes ",")
comma_separates = record { operand = refl; allowed = refl; opens_none = refl; no_bracket = apart (λ x. is x ",") refl refl; no_brace = apart (λ x. is x ",") refl refl; no_dots = apart (λ x. is x ",") refl refl; no_star = apart (λ x. is x ",") refl refl }

pub bracket_separates : Separates (codes "]")
bracket_separates = record { operand = refl; allowed = refl; opens_none = refl; no_bracket = apart (λ x. is x "]") refl refl; no_brace = apart (λ x. is x "]") refl refl; no_dots = apart (λ x. is x "]") refl refl; no_star = apart (λ x. is x "]") refl refl }

pub parenthesis_separates : Separates (codes ")")
parenthesis_separates = record { operand = refl; allowed = refl; opens_none = refl; no_bracket = apart (λ x. is x ")") refl refl; no_brace = apart (λ x. is x ")") refl refl; no_dots = apart (λ x. is x ")") refl refl; no_star = apart (λ x. is x ")") refl refl }

pub brace_separates : Separates (codes "}")
brace_separates = record { operand = refl; allowed = refl; opens_none = refl; no_bracket = apart (λ x. is x "}") refl refl; no_brace = apart (λ x. is x "}") refl refl; no_dots = apart (λ x. is x "}") refl refl; no_star = apart (λ x. is x "}") refl refl }

module _ (S : Type 0) (Next : S → Token → S → Type 0) (behind : S → Token) (det : IsDetermined S Next behind) {w : List ℕ} (sep : Separates w) {s x : S} {t : Token} (sign : Reads S Next behind Punctuator w s t x) where
  pub no_expression_begins : {y : Rank} {i : Bool} {f : Start} {o : ℕ} {n : Tree} {e : S} {P : List Pair} → Spells ways S Next behind o (expr y i f) n s e P → ⊥
  no_expression_begins d =
      let al : IsTrue (allows Goal.RegExp t.class t.text) = subst (λ c. IsTrue (allows Goal.RegExp c t.text)) (sym sign.class) (subst (λ z. IsTrue (allows Goal.RegExp Punctuator z)) (sym sign.text) sep.operand) in
      none_begins S Next behind det (record { next = sign.next; allowed = al }) (opens t sign.class sign.text sep.opens_none) d

  pub no_pattern_begins : {b : Bool} {f : Start} {o : ℕ} {n : Tree} {e : S} {P : List Pair} → Spells ways S Next behind o (pattern b f) n s e P → ⊥
  no_pattern_begins {b} {f} {o} {n} {e} {P} d =
      (no_pattern S Next behind det {b = b} {f = f} {s = s} (λ t' m' h. sep.no_bracket (two_texts S Next behind det sep.allowed refl sign h)) (λ t' m' h. sep.no_brace (two_texts S Next behind det sep.allowed refl sign h))).nothing o e n P d

  no_simple : (b : Bool) {o : ℕ} {n : Tree} {e : S} {P : List Pair} → Simple S Next behind det b o n s e P → ⊥
  no_simple b u = no_expression_begins (simple_expression S Next behind det b u)

  no_form : (b : Bool) {o : ℕ} {n : Tree} {e : S} {P : List Pair} → ElementForm S Next behind det b o n s e P → ⊥
  no_form b (bare_pattern d) = no_pattern_begins d
  no_form b (bare_simple u) = no_simple b u
  no_form b (pattern_default u) = no_pattern_begins u.stands
  no_form b (simple_default u) = no_simple b u.stands

  no_dotted : {v : Token} {k : S} → Reads S Next behind Punctuator (codes "...") s v k → ⊥
  no_dotted h = sep.no_dots (two_texts S Next behind det sep.allowed refl sign h)

  no_spread : {o : ℕ} {n : Tree} {e : S} {P : List Pair} → Spells ways S Next behind o spread n s e P → ⊥
  no_spread d = let u = (spread_form S Next behind det d).0 in no_dotted u.reads

  no_rest : {b c : Bool} {o : ℕ} {n : Tree} {e : S} {P : List Pair} → Spells ways S Next behind o (rest b c) n s e P → ⊥
  no_rest d = let u = (rest_form S Next behind det d).dotted in no_dotted u.reads

  -- no element, argument or parameter, in no reading
  pub no_element_begins : (a : Reading) (o : ℕ) (r : Role) (e : S) (n : Tree) (P : List Pair) → element_as a (kind_of n) ≡ Some r → Spells ways S Next behind o r n s e P → ⊥
  no_element_begins as_expression o r e n P h d = of (is_spread (kind_of n)) h
    where
      of : (c : Bool) → ◌≡◌ {A = Option Role} (Some (cond c spread (expr Assignment true Any))) (Some r) → ⊥
      of true k = no_spread (subst (λ z. Spells ways S Next behind o z n s e P) (sym (some_same k)) d)
      of false k = no_expression_begins (subst (λ z. Spells ways S Next behind o z n s e P) (sym (some_same k)) d)
  no_element_begins (as_pattern b) o r e n P h d = of (is_rest (kind_of n)) h
    where
      of : (c : Bool) → cond c (Some (rest b false)) (with_default b (kind_of n)) ≡ Some r → ⊥
      of true k = no_rest (subst (λ z. Spells ways S Next behind o z n s e P) (sym (some_same k)) d)
      of false k = no_form b (element_form S Next behind det b n k d)

  no_property : {o : ℕ} {n : Tree} {e : S} {P : List Pair} → PropertyAt S Next behind det o n s e P → ⊥
  no_property (by_value u) = key_at_sign S Next behind det sep.operand sep.allowed sep.no_bracket u.key sign
  no_property (by_name u) = name_or_sign S Next behind det sep.allowed (echo_form S Next behind det u.echoes).reads sign
  no_property (by_method u) = key_at_sign S Next behind det sep.operand sep.allowed sep.no_bracket u.key sign
  no_property (by_star star u) = sep.no_star (two_texts S Next behind det sep.allowed refl sign star)
  no_property (by_async word nx line u) = name_or_sign S Next behind det sep.allowed word sign
  no_property (by_async_star word star line u) = name_or_sign S Next behind det sep.allowed word sign
  no_property (by_accessor f h word u) = name_or_sign S Next behind det sep.allowed word sign

  no_pattern_property : {b : Bool} {o : ℕ} {n : Tree} {e : S} {P : List Pair} → PatternPropertyAt S Next behind det b o n s e P → ⊥
  no_pattern_property (with_value u) = key_at_sign S Next behind det sep.operand sep.allowed sep.no_bracket u.key sign
  no_pattern_property (with_name u) = name_or_sign S Next behind det sep.allowed (echo_form S Next behind det u.echoes).reads sign
  no_pattern_property (with_element u) = name_or_sign S Next behind det sep.allowed (echo_form S Next behind det u.echoes).reads sign

  -- nor a part of an object
  pub no_part_begins : (a : Reading) (o : ℕ) (r : Role) (e : S) (n : Tree) (P : List Pair) → property_as a (kind_of n) ≡ Some r → Spells ways S Next behind o r n s e P → ⊥
  no_part_begins as_expression o r e (node k v g st en ps) P h d = of (in_object k h) h d
    where
      of : {k : Kind} → InObject k → property_as as_expression k ≡ Some r → Spells ways S Next behind o r (node k v g st en ps) s e P → ⊥
      of a_spread h d = no_spread (subst (λ z. Spells ways S Next behind o z (node SpreadElement v g st en ps) s e P) (sym (some_same h)) d)
      of a_property h d = no_property (property_at S Next behind det (subst (λ z. Spells ways S Next behind o z (node Property v g st en ps) s e P) (sym (some_same h)) d))
  no_part_begins (as_pattern b) o r e (node k v g st en ps) P h d = of (in_pattern b k h) h d
    where
      of : {k : Kind} → InPattern k → property_as (as_pattern b) k ≡ Some r → Spells ways S Next behind o r (node k v g st en ps) s e P → ⊥
      of a_rest h d = no_rest (subst (λ z. Spells ways S Next behind o z (node RestElement v g st en ps) s e P) (sym (some_same h)) d)
      of a_property_there h d = no_pattern_property (pattern_property_at S Next behind det b (subst (λ z. Spells ways S Next behind o z (node Property v g st en ps) s e P) (sym (some_same h)) d))
