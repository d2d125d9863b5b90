-- Flags of regular expressions, and the parts of a template.
use Rattle.std.proofs.Common.{◌≡◌, ℕ, zero, suc, ◌+◌, ◌-◌, ◌<◌, ◌≤◌, Bool, true, false, not, List, [], ◌∷◌, length, drop, take, get_or, Option, Some, None, is_some, option_map, refl, sym, ap, ◌∙◌, arith, add-one}
use Rattle.std.specs.Prelude.{◌||◌, ◌&&◌, ◌==◌}
use Rattle.std.specs.List.{list_any}
use Rattle.std.specs.Str.{chars}
use Rattle.std.proofs.lemmas.List.{drop_more, take_rest}
use Rattle.tokens.specs.Templates.{cooked_value}
use Rattle.tree.specs.declared.kind.Kind.{Kind}
use Rattle.tree.specs.declared.kind.Kind.TheVariants.{TemplateElement}
use Rattle.tree.specs.Tree.{Tree, Parts, none, part, gap, kind_of, text_of, part_at, part_count, parts_drop}
use Rattle.early_errors.specs.Cooked.{cooks}
use Rattle.early_errors.specs.Literals.{holds, are_among, some_uncooked, is_uncooked}
use Rattle.early_errors.specs.Owns.{is_element, uncooked_at}
use Rattle.early_errors.proofs.Points.{points_are_chars}

pub holds-any : (w : List ℕ) (c : ℕ) → list_any (λ d. d == c) w ≡ holds w c
holds-any [] c = refl
holds-any (d ∷ w) c = ap (λ b. (d == c) || b) (holds-any w c)

module _ (among : List ℕ) where
  flags-step : (w : List ℕ) (i : ℕ) → i < length w → are_among among (drop i w) ≡ (holds among (get_or w i 0) && (not (holds (drop (i + 1) w) (get_or w i 0)) && are_among among (drop (i + 1) w)))
  flags-step w i l = ap (are_among among) (drop_more w i 0 l)

  and-turns : (a b c : Bool) → ((a && b) && c) ≡ (a && (b && c))
  and-turns true b c = refl
  and-turns false b c = refl

  pub flags-turn : (w : List ℕ) (i : ℕ) (b c : Bool) → i < length w → b ≡ (holds among (get_or w i 0) && not (holds (take (length w - (i + 1)) (drop (i + 1) w)) (get_or w i 0))) → b ≡ c →
      are_among among (drop i w) ≡ (c && are_among among (drop (i + 1) w))
  flags-turn w i b c l e h =
      let flag = get_or w i 0 in
      let known = holds among flag in
      let rest = drop (i + 1) w in
      flags-step w i l ∙ sym (and-turns known (not (holds rest flag)) (are_among among rest)) ∙ ap (λ x. x && are_among among rest) (sym (e ∙ ap (λ v. known && not (holds v flag)) (take_rest w (i + 1))) ∙ h)

more-uncooked : (ps : Parts) (i : ℕ) (o : Option Tree) → i < part_count ps → o ≡ part_at ps i → some_uncooked (parts_drop i ps) ≡ (uncooked_at o || some_uncooked (parts_drop (suc i) ps))
more-uncooked none i o l e = absurd (omega (arith, l))
more-uncooked (part t ps) zero o l e = ap (λ p. uncooked_at p || some_uncooked ps) (sym e)
more-uncooked (gap ps) zero o l e = ap (λ p. uncooked_at p || some_uncooked ps) (sym e)
more-uncooked (part t ps) (suc i) o l e = more-uncooked ps i o (omega (arith, l)) e
more-uncooked (gap ps) (suc i) o l e = more-uncooked ps i o (omega (arith, l)) e

pub uncooked-step : (ps : Parts) (i : ℕ) (o : Option Tree) (b c : Bool) → i < part_count ps → o ≡ part_at ps i → b ≡ uncooked_at o → b ≡ c → some_uncooked (parts_drop i ps) ≡ (c || some_uncooked (parts_drop (i + 1) ps))
uncooked-step ps i o b c l e f g = rw (add-one i) (more-uncooked ps i o l e ∙ ap (λ x. x || some_uncooked (parts_drop (suc i) ps)) (sym f ∙ g))

pub uncooked-past : (ps : Parts) (i : ℕ) → part_count ps ≤ i → false ≡ some_uncooked (parts_drop i ps)
uncooked-past none zero l = refl
uncooked-past none (suc i) l = refl
uncooked-past (part t ps) zero l = absurd (omega (arith, l))
uncooked-past (gap ps) zero l = absurd (omega (arith, l))
uncooked-past (part t ps) (suc i) l = uncooked-past ps i (omega (arith, l))
uncooked-past (gap ps) (suc i) l = uncooked-past ps i (omega (arith, l))

element : (k : Kind) (w : List ℕ) → is_element k ≡ true → is_uncooked k w ≡ not (cooks w)
element TemplateElement w e = refl
element _ w e = absurd (cc)

pub element_cooks : {X : Type 0} (f : X → List ℕ) (t : Tree) (k : Kind) (w : List ℕ) (b c : Bool) (o : Option X) → k ≡ kind_of t → c ≡ is_element k → c ≡ true → w ≡ text_of t →
    option_map f o ≡ cooked_value (chars w) → is_some o ≡ not b → b ≡ uncooked_at (Some t)
element_cooks {X} f t k w b c o e g h m n p =
    twice_not b ∙ ap not (sym p ∙ mapped o ∙ ap is_some (n ∙ ap cooked_value (ap chars m ∙ sym (points_are_chars (text_of t))))) ∙ sym (element (kind_of t) (text_of t) (ap is_element (sym e) ∙ sym g ∙ h))
  where
    mapped : (o : Option X) → is_some o ≡ is_some (option_map f o)
    mapped None = refl
    mapped (Some v) = refl

    twice_not : (b : Bool) → b ≡ not (not b)
    twice_not true = refl
    twice_not false = refl
