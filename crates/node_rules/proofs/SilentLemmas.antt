-- Nodes at which no rule looks, nor at any below them.
use Rattle.std.proofs.Common.{◌≡◌, ℕ, ◌+◌, ◌<◌, ◌≤◌, true, nat_eq, List, [], ◌++◌, Some, None, length, refl, sym, ap, ◌∙◌, arith, append-nil}
use Rattle.std.specs.Prelude.{◌&&◌}
use Rattle.std.proofs.lemmas.Bool.{and_parts, eqb-true}
use Rattle.std.proofs.lemmas.List.{nil_from_length}
use Rattle.tree.specs.Tree.{Tree, node, Parts, none, part, gap, kind_of, part_at, part_count, parts_of}
use Rattle.tree.proofs.PartWalk.{parts_drop, parts_drop-some, parts_drop-gap, parts_drop-past}
use Rattle.rule_words.specs.Reports.{Report}
use Rattle.node_rules.specs.declared.around.Around.{Around}
use Rattle.node_rules.specs.declared.due_rules.DueRules.{DueRules}
use Rattle.node_rules.specs.declared.node_rule.NodeRule.{NodeRule}
use Rattle.node_rules.specs.declared.node_rule.NodeOptions.{NodeOptions}
use Rattle.node_rules.specs.Arounds.{at_place, inside}
use Rattle.node_rules.specs.Due.{are_silent, due_at, is_silent, of_due}
use Rattle.node_rules.specs.Over.{over_nodes, over_parts}
use Rattle.node_rules.specs.Rows.{of_rules}

-- no rule reports anything
none-due : (options : NodeOptions) (source : List ℕ) (rules : List NodeRule) (a : Around) (t : Tree) → nat_eq (length rules) 0 ≡ true → of_rules options source rules a t ≡ []
none-due options source rules a t h = ap (λ rs. of_rules options source rs a t) (nil_from_length rules (eqb-true (length rules) 0 h))

pub due-of-none : (options : NodeOptions) (source : List ℕ) (due : DueRules) (a : Around) (t : Tree) (old : List Report) → nat_eq (length (due_at due (kind_of t))) 0 ≡ true → old ≡ old ++ of_due options source due a t
due-of-none options source due a t old h = sym (append-nil old) ∙ ap (λ l. old ++ l) (sym (none-due options source (due_at due (kind_of t)) a t h))

mutual
  unfolding over_nodes over_parts is_silent are_silent

  silent-nodes : (options : NodeOptions) (source : List ℕ) (due : DueRules) (a : Around) (t : Tree) → is_silent due t ≡ true → over_nodes (of_due options source due) a t ≡ []
  silent-nodes options source due a (node k w g s e ps) h =
      let p = and_parts _ _ h in
      ap (λ l. l ++ over_parts (of_due options source due) (inside a (node k w g s e ps)) 0 ps) (none-due options source (due_at due k) a (node k w g s e ps) p.0)
      ∙ silent-parts options source due (inside a (node k w g s e ps)) 0 ps p.1

  pub silent-parts : (options : NodeOptions) (source : List ℕ) (due : DueRules) (a : Around) (i : ℕ) (ps : Parts) → are_silent due ps ≡ true → over_parts (of_due options source due) a i ps ≡ []
  silent-parts options source due a i none h = refl
  silent-parts options source due a i (part t ps) h =
      let p = and_parts _ _ h in
      ap (λ l. l ++ over_parts (of_due options source due) a (i + 1) ps) (silent-nodes options source due (at_place a i) t p.0) ∙ silent-parts options source due a (i + 1) ps p.1
  silent-parts options source due a i (gap ps) h = silent-parts options source due a (i + 1) ps h

-- ---- one node, by its parts

no-parts : (due : DueRules) (ps : Parts) → part_count ps ≡ 0 → are_silent due ps ≡ true
unfolding are_silent
no-parts due none l = refl
no-parts due (part t ps) l = absurd (omega (arith, l))
no-parts due (gap ps) l = absurd (omega (arith, l))

pub by-parts : (due : DueRules) (t : Tree) → nat_eq (length (due_at due (kind_of t))) 0 ≡ true → are_silent due (parts_of t) ≡ true → is_silent due t ≡ true
unfolding is_silent
by-parts due (node k w g s e ps) h p = ap (λ b. b && are_silent due ps) h ∙ p

pub silent-leaf : (due : DueRules) (t : Tree) → nat_eq (length (due_at due (kind_of t))) 0 ≡ true → part_count (parts_of t) ≡ 0 → is_silent due t ≡ true
silent-leaf due t h l = by-parts due t h (no-parts due (parts_of t) l)

module _ (due : DueRules) (ps : Parts) (i : ℕ) (so : are_silent due (parts_drop i ps) ≡ are_silent due ps) where
  pub silent-turn : (u : Tree) → Some u ≡ part_at ps i → is_silent due u ≡ true → are_silent due (parts_drop (i + 1) ps) ≡ are_silent due ps
  unfolding are_silent
  silent-turn u e h = sym (ap (λ b. b && are_silent due (parts_drop (i + 1) ps)) h) ∙ sym (ap (are_silent due) (parts_drop-some ps i u e)) ∙ so

  pub silent-gap : None ≡ part_at ps i → i < part_count ps → are_silent due (parts_drop (i + 1) ps) ≡ are_silent due ps
  unfolding are_silent
  silent-gap e l = sym (ap (are_silent due) (parts_drop-gap ps i e l)) ∙ so

  pub silent-end : part_count ps ≤ i → are_silent due ps ≡ true
  unfolding are_silent
  silent-end l = sym so ∙ ap (are_silent due) (parts_drop-past ps i l)
