-- The list in parentheses, as it is given: what they group, or an arrow's parameters (ECMA-262 12.2.10, 14.2).
use Rattle.std.proofs.Common.{◌≡◌, ℕ, suc, ◌≤◌, true, List, [], ◌∷◌, refl, sym, ap, subst, arith}
use Rattle.std.specs.Prelude.{codes}
use Rattle.std.proofs.lemmas.List.{append-nil}
use Rattle.tokens.specs.declared.token.TokenClass.TheVariants.{Punctuator}
use Rattle.tree.specs.declared.kind.Pair.{Pair}
use Rattle.tree.specs.Tree.{Tree, Parts, none, part, gap, height, parts_height, bare_parts}
use Rattle.covers.specs.declared.list.ListKind.TheVariants as listed
use Rattle.language.specs.declared.Rank.TheVariants.{Expression}
use Rattle.language.specs.declared.Start.TheVariants.{Any}
use Rattle.language.specs.Covers.{as_expression, as_pattern}
use Rattle.language.specs.Expressions.{assignment}
use Rattle.language.specs.Pieces.{expr, sign, listed as listing, pattern_element}
use Rattle.language.specs.Token.{Token}
use Rattle.language.specs.Derivation.{done, within}
use Rattle.language.proofs.table.Begins.{goes_to}
use Rattle.language.proofs.list_loops.ParameterLists.{parameter_list}
use Rattle.token_cursor.proofs.SeenTokens.{seen_determined}
use Rattle.language.proofs.climbing.Wholes.{AtExpression, single, sequenced, at_expression}
use Rattle.recursive_descent.specs.Soundness.{RunsIn}
use Rattle.recursive_descent.specs.SoundnessOfLists.{stood_in, several}
use Rattle.recursive_descent.specs.CompletenessOfLists.{ListGiven}
use Rattle.parser_tables.specs.Items.{list_from, group_levels}
use Rattle.token_cursor.specs.Seen.{ReadsHere}
use Rattle.recursive_descent.proofs.reading.PiecesBeforeToken.{run_before, Before}
use Rattle.recursive_descent.proofs.sound_expressions.GroupContents.{sequence_bare, listed_bare, element_bare, goes_on}
use Rattle.token_cursor.specs.SourceText.{SourceText, SeenNext, behind_in}
use Rattle.recursive_descent.specs.Spelled.{SpellsIn, OfLanguage, AllOfLanguage}
use Rattle.recursive_descent.proofs.reading.LanguageTrees.{of_none, of_part, parts_of_language}

module _ (text : SourceText) where
  -- an expression, or those of a sequence
  pub record Several (o : ℕ) (t : Tree) (s e : Token) (P : List Pair) : Type 0 where
    pub parts : Parts
    pub runs : RunsIn text o (stood_in Any listed.ParenthesizedItems (several assignment parts)) parts s e P
    pub low : parts_height parts ≤ height t
    pub levels : group_levels parts ≤ height t
    pub own : OfLanguage text t → AllOfLanguage text parts

  levels_of : (m : Tree) (ps : Parts) → group_levels (part m ps) ≤ suc (parts_height (part m ps))
  levels_of m none = omega arith
  levels_of m (part n ps) = omega arith
  levels_of m (gap ps) = omega arith

  pub several_of : {o : ℕ} {t : Tree} {s e : Token} {P : List Pair} → SpellsIn text o (expr Expression true Any) t s e P → Several o t s e P
  several_of {o} {t} {s} {e} {P} d = of (at_expression Token (SeenNext text) (behind_in text) (seen_determined text) d)
    where
      of : AtExpression Token (SeenNext text) (behind_in text) (seen_determined text) o true Any t s e P → Several o t s e P
      of (single d) = record {
        parts = part t none;
        runs = subst (λ x. RunsIn text o (stood_in Any listed.ParenthesizedItems (several assignment (part t none))) (part t none) s e x) (append-nil P) (within d done);
        low = omega arith;
        levels = omega arith;
        own = λ l. of_part l of_none;
      }
      of (sequenced {st = st} {en = en} {m = m} {rest = rest} {k = k} {Q = A} {R = B} tree pl d some r pairs) =
          let tall : height t ≡ suc (parts_height (part m rest)) = ap height tree in
          let below = levels_of m rest in
          record {
            parts = part m rest;
            runs = subst (λ x. RunsIn text o (stood_in Any listed.ParenthesizedItems (several assignment (part m rest))) (part m rest) s e x) (sym pairs) (within d (subst (λ x. RunsIn text o (goes_to Expression true Any x) rest k e B) (sequence_bare rest) r));
            low = omega arith;
            levels = omega arith;
            own = λ l. parts_of_language (subst (OfLanguage text) tree l);
          }

  pub group_listed : {o at : ℕ} {t : Tree} {s k e : Token} {P : List Pair} (v : Several o t s k P) → ReadsHere text Punctuator (codes ")") k e → ListGiven text (list_from listed.ParenthesizedItems at) as_expression o v.parts s e P
  group_listed {k = k} v closes = record { left = refl; mid = k; runs = v.runs; closes = closes; last = tt; no_rest = refl; lone = refl; one_default = refl }

  -- parameters
  pub parameters_before : {o : ℕ} {ps : Parts} {s e : Token} {P : List Pair} → RunsIn text o (parameter_list ps) ps s e P → Before text o (goes_to Expression true Any (listing (pattern_element true) ps)) Punctuator (codes ")") ps s e P
  parameters_before {o} {ps} {s} {e} {P} d =
      let names : listing (pattern_element true) ps ≡ listing (pattern_element true) (bare_parts ps) = sym (listed_bare (pattern_element true) (element_bare true) ps) in
      let qs = goes_to Expression true Any (listing (pattern_element true) (bare_parts ps)) in
      let b = run_before text qs (subst (λ x. RunsIn text o x ps s e P) (goes_on Expression true Any (listing (pattern_element true) (bare_parts ps)) (sign ")" ∷ [])) d) in
      record { mid = b.mid; runs = subst (λ x. RunsIn text o (goes_to Expression true Any x) ps s b.mid P) (sym names) b.runs; sign = b.sign }

  pub parameters_listed : {o at : ℕ} {ps : Parts} {s e : Token} {P : List Pair} → RunsIn text o (parameter_list ps) ps s e P → ListGiven text (list_from listed.ParenthesizedItems at) (as_pattern true) o ps s e P
  parameters_listed d = let b = parameters_before d in record { left = refl; mid = b.mid; runs = b.runs; closes = b.sign; last = tt; no_rest = refl; lone = refl; one_default = refl }
