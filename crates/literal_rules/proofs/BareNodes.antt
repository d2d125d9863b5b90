-- Rules say nothing of nodes without a text that they read.
use Rattle.std.proofs.Common.{◌≡◌, ℕ, ◌+◌, ◌<◌, ◌≤◌, Bool, true, false, List, [], ◌∷◌, ◌++◌, Some, None, refl, sym, ap, ◌∙◌, append-nil}
use Rattle.std.specs.Prelude.{not, ◌&&◌, ◌||◌, cond}
use Rattle.std.proofs.lemmas.Bool.{false≢true}
use Rattle.tree.specs.Tree.{Tree, Parts, none, part, gap, kind_of, parts_of, part_at, part_count}
use Rattle.tree.proofs.PartWalk.{parts_drop, parts_drop-some, parts_drop-gap, parts_drop-past}
use Rattle.name_tables.specs.BoundNames.{each_part}
use Rattle.rule_words.specs.Reports.{Report}
use Rattle.literal_rules.specs.declared.literal_rule.LiteralRule.{LiteralRule}
use Rattle.literal_rules.specs.Bare.{has_template, is_bare}
use Rattle.literal_rules.specs.Rows.{is_each}
use Rattle.literal_rules.specs.Found.{each, is_literal, is_tagged, is_template, of_element, of_literal, of_node, of_part, of_template, of_templates}

both-true : (a b : Bool) → (a && b) ≡ true → (a ≡ true) × (b ≡ true)
both-true true b h = (refl, h)
both-true false b h = absurd (false≢true h)

not-true : (a : Bool) → not a ≡ true → a ≡ false
not-true false h = refl
not-true true h = absurd (false≢true h)

none-true : (a b : Bool) → (a || b) ≡ false → (a ≡ false) × (b ≡ false)
none-true false b h = (refl, h)
none-true true b h = absurd (false≢true (sym h))

-- of another node than a template
no-template : (rule : LiteralRule) (t : Tree) → is_template (kind_of t) ≡ false → of_template rule t ≡ []
no-template rule t h = ap (λ b. cond b (each_part (of_element rule) (parts_of t)) []) h

of-first : (rule : LiteralRule) (ps : Parts) → has_template ps ≡ false → of_part rule (part_at ps 0) ≡ []
of-first rule none h = refl
of-first rule (part t ps) h = no-template rule t ((none-true _ _ h).0)
of-first rule (gap ps) h = refl

of-all : (rule : LiteralRule) (ps : Parts) → has_template ps ≡ false → each_part (of_template rule) ps ≡ []
of-all rule none h = refl
of-all rule (part t ps) h = let p = none-true _ _ h in ap (λ l. l ++ each_part (of_template rule) ps) (no-template rule t p.0) ∙ of-all rule ps p.1
of-all rule (gap ps) h = of-all rule ps h

either : (b : Bool) (x y : List Report) → x ≡ [] → y ≡ [] → cond b x y ≡ []
either true x y h g = h
either false x y h g = g

no-text : (rule : LiteralRule) (t : Tree) → is_bare t ≡ true → of_node rule t ≡ []
no-text rule t h =
    let p = both-true _ _ h in
    let f = not-true _ p.1 in
    ap (λ b. cond b (of_literal rule t) (cond (is_each rule) (of_templates rule t) [])) (not-true _ p.0)
    ∙ either (is_each rule) (of_templates rule t) [] (either (is_tagged (kind_of t)) (of_part rule (part_at (parts_of t) 0)) (each_part (of_template rule) (parts_of t)) (of-first rule (parts_of t) f) (of-all rule (parts_of t) f)) refl

no-texts : (rules : List LiteralRule) (t : Tree) → is_bare t ≡ true → each (λ rule. of_node rule t) rules ≡ []
no-texts [] t h = refl
no-texts (rule ∷ rules) t h = ap (λ l. l ++ each (λ rule. of_node rule t) rules) (no-text rule t h) ∙ no-texts rules t h

pub bare-found : (rules : List LiteralRule) (t : Tree) (old : List Report) → is_bare t ≡ true → old ≡ old ++ each (λ rule. of_node rule t) rules
bare-found rules t old h = sym (append-nil old) ∙ ap (λ l. old ++ l) (sym (no-texts rules t h))

-- ---- the search for a template, part by part

module _ (ps : Parts) (i : ℕ) (total : Bool) (so : has_template (parts_drop i ps) ≡ total) where
  template-step : (u : Tree) → Some u ≡ part_at ps i → has_template (parts_drop i ps) ≡ (is_template (kind_of u) || has_template (parts_drop (i + 1) ps))
  template-step u h = ap has_template (parts_drop-some ps i u h)

  pub template-found : (u : Tree) → Some u ≡ part_at ps i → is_template (kind_of u) ≡ true → true ≡ total
  template-found u e h = sym (ap (λ b. b || has_template (parts_drop (i + 1) ps)) h) ∙ sym (template-step u e) ∙ so

  pub template-turn : (u : Tree) → Some u ≡ part_at ps i → is_template (kind_of u) ≡ false → has_template (parts_drop (i + 1) ps) ≡ total
  template-turn u e h = sym (ap (λ b. b || has_template (parts_drop (i + 1) ps)) h) ∙ sym (template-step u e) ∙ so

  pub template-gap : None ≡ part_at ps i → i < part_count ps → has_template (parts_drop (i + 1) ps) ≡ total
  template-gap e l = sym (ap has_template (parts_drop-gap ps i e l)) ∙ so

  pub template-end : part_count ps ≤ i → false ≡ total
  template-end l = sym (ap has_template (parts_drop-past ps i l)) ∙ so
