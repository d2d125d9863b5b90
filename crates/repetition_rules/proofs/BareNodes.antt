-- Rules say nothing of nodes whose parts none compares, and among whose parts no `if` stands.
use Rattle.std.proofs.Common.{◌≡◌, ℕ, zero, suc, ◌+◌, ◌<◌, ◌≤◌, Bool, true, false, List, [], ◌∷◌, ◌++◌, Option, Some, None, map, refl, sym, ap, ◌∙◌, append-nil}
use Rattle.std.specs.Prelude.{not, ◌&&◌, ◌||◌, cond}
use Rattle.std.proofs.lemmas.Bool.{false≢true}
use Rattle.tree.specs.declared.kind.Kind.{Kind}
use Rattle.tree.specs.declared.kind.Kind.TheVariants.{ClassBody, ObjectExpression, SwitchStatement}
use Rattle.tree.specs.Tree.{Tree, Parts, none, part, gap, kind_of, parts_of, part_at, part_count}
use Rattle.tree.proofs.PartWalk.{parts_drop, parts_drop-some, parts_drop-gap, parts_drop-past}
use Rattle.name_tables.specs.BoundNames.{each_part}
use Rattle.rule_words.specs.Reports.{Report}
use Rattle.repetition_rules.specs.declared.repetition_rule.RepetitionRule.{RepetitionRule}
use Rattle.repetition_rules.specs.declared.repetition_rule.RepetitionRule.TheVariants.{NoDupeClassMembers, NoDupeElseIf, NoDupeKeys, NoDuplicateCase}
use Rattle.repetition_rules.specs.Bare.{has_if, is_bare, is_compared}
use Rattle.repetition_rules.specs.Found.{each}
use Rattle.repetition_rules.specs.Rows.{entries_of, looks, of_node, of_parts, of_test, reported}
use Rattle.repetition_rules.specs.Tests.{is_if, moot_at, moot_below, moot_tests}
use Rattle.repetition_rules.proofs.Chaining.{no-chain}

both-true : (a b : Bool) → (a && b) ≡ true → (a ≡ true) × (b ≡ true)
both-true true b h = (refl, h)
both-true false b h = absurd (false≢true h)

not-true : (a : Bool) → not a ≡ true → a ≡ false
not-true false h = refl
not-true true h = absurd (false≢true h)

none-true : (a b : Bool) → (a || b) ≡ false → (a ≡ false) × (b ≡ false)
none-true false b h = (refl, h)
none-true true b h = absurd (false≢true (sym h))

-- a kind whose parts no rule compares
not-looked : (rule : RepetitionRule) (k : Kind) → is_compared k ≡ false → looks rule k ≡ false
not-looked NoDupeElseIf k h = refl
not-looked rule ClassBody h = absurd (false≢true (sym h))
not-looked rule ObjectExpression h = absurd (false≢true (sym h))
not-looked rule SwitchStatement h = absurd (false≢true (sym h))
not-looked NoDupeClassMembers _ h = refl
not-looked NoDupeKeys _ h = refl
not-looked NoDuplicateCase _ h = refl

nothing-again : (rule : RepetitionRule) (t : Tree) → is_compared (kind_of t) ≡ false → of_parts rule t ≡ []
nothing-again rule t h = ap (λ b. cond b (reported rule [] (each_part (entries_of rule) (parts_of t))) []) (not-looked rule (kind_of t) h)

-- no chain begins among parts without an `if`
no-chains : (ps : Parts) → has_if ps ≡ false → each_part moot_tests ps ≡ []
no-chains none h = refl
no-chains (part t ps) h = let p = none-true _ _ h in ap (λ l. l ++ each_part moot_tests ps) (no-chain t p.0) ∙ no-chains ps p.1
no-chains (gap ps) h = no-chains ps h

no-chain-at : (i : ℕ) (ps : Parts) → has_if ps ≡ false → moot_at (part_at ps i) ≡ []
no-chain-at i none h = refl
no-chain-at zero (part t ps) h = no-chain t ((none-true _ _ h).0)
no-chain-at zero (gap ps) h = refl
no-chain-at (suc i) (part t ps) h = no-chain-at i ps ((none-true _ _ h).1)
no-chain-at (suc i) (gap ps) h = no-chain-at i ps h

either : (b : Bool) (x y : List Tree) → x ≡ [] → y ≡ [] → cond b x y ≡ []
either true x y h g = h
either false x y h g = g

nothing-moot : (t : Tree) → has_if (parts_of t) ≡ false → moot_below t ≡ []
nothing-moot t h = either (is_if (kind_of t)) (moot_at (part_at (parts_of t) 1)) (each_part moot_tests (parts_of t)) (no-chain-at 1 (parts_of t) h) (no-chains (parts_of t) h)

nothing-said : (rule : RepetitionRule) (t : Tree) → is_compared (kind_of t) ≡ false → has_if (parts_of t) ≡ false → of_node rule t ≡ []
nothing-said NoDupeElseIf t k h = ap (map (of_test NoDupeElseIf)) (nothing-moot t h)
nothing-said NoDupeClassMembers t k h = nothing-again NoDupeClassMembers t k
nothing-said NoDupeKeys t k h = nothing-again NoDupeKeys t k
nothing-said NoDuplicateCase t k h = nothing-again NoDuplicateCase t k

none-said : (rules : List RepetitionRule) (t : Tree) → is_compared (kind_of t) ≡ false → has_if (parts_of t) ≡ false → each (λ rule. of_node rule t) rules ≡ []
none-said [] t k h = refl
none-said (rule ∷ rules) t k h = ap (λ l. l ++ each (λ rule. of_node rule t) rules) (nothing-said rule t k h) ∙ none-said rules t k h

pub bare-found : (rules : List RepetitionRule) (t : Tree) (old : List Report) → is_bare t ≡ true → old ≡ old ++ each (λ rule. of_node rule t) rules
bare-found rules t old h =
    let p = both-true _ _ h in
    sym (append-nil old) ∙ ap (λ l. old ++ l) (sym (none-said rules t (not-true _ p.0) (not-true _ p.1)))

-- ---- the search for an `if`, part by part

module _ (ps : Parts) (i : ℕ) (total : Bool) (so : has_if (parts_drop i ps) ≡ total) where
  if-step : (u : Tree) → Some u ≡ part_at ps i → has_if (parts_drop i ps) ≡ (is_if (kind_of u) || has_if (parts_drop (i + 1) ps))
  if-step u h = ap has_if (parts_drop-some ps i u h)

  pub if-found : (u : Tree) → Some u ≡ part_at ps i → is_if (kind_of u) ≡ true → true ≡ total
  if-found u e h = sym (ap (λ b. b || has_if (parts_drop (i + 1) ps)) h) ∙ sym (if-step u e) ∙ so

  pub if-turn : (u : Tree) → Some u ≡ part_at ps i → is_if (kind_of u) ≡ false → has_if (parts_drop (i + 1) ps) ≡ total
  if-turn u e h = sym (ap (λ b. b || has_if (parts_drop (i + 1) ps)) h) ∙ sym (if-step u e) ∙ so

  pub if-gap : None ≡ part_at ps i → i < part_count ps → has_if (parts_drop (i + 1) ps) ≡ total
  if-gap e l = sym (ap has_if (parts_drop-gap ps i e l)) ∙ so

  pub if-end : part_count ps ≤ i → false ≡ total
  if-end l = sym (ap has_if (parts_drop-past ps i l)) ∙ so
