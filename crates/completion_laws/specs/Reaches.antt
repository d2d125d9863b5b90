-- Which statements of a list are evaluated.
use Rattle.std.specs.Prelude.{◌≡◌, ℕ, suc, true, [], Some}
use Rattle.tree.specs.Tree.{Tree, Parts, part, gap, kind_of, part_at, parts_of}
use Rattle.rule_words.specs.Reports.{Report}
use Rattle.flow_rules.specs.declared.flow_rule.FlowRule.TheVariants.{NoUnreachable}
use Rattle.flow_rules.specs.KindSets.{is_list}
use Rattle.flow_rules.specs.Rows.{own_place, report_at}
use Rattle.completion_laws.specs.Completions.{Completes, Normal}

-- Evaluation of a list of statements (13.2.13) comes to the one behind so many: those complete normally. Before the statements of a case
-- stands its test, or a gap.
pub data Reaches : Parts → ℕ → Type 0 where
  first : {parts : Parts} → Reaches parts 0
  behind : {tree : Tree} {rest : Parts} {n : ℕ} → Completes [] tree Normal → Reaches rest n → Reaches (part tree rest) (suc n)
  behind_gap : {rest : Parts} {n : ℕ} → Reaches rest n → Reaches (gap rest) (suc n)

-- a report of `no-unreachable` is of a statement, of a list at some node of a tree, that evaluation of the list never comes to
pub data ReportsUnreached (report : Report) : Tree → Type 0 where
  here : {tree reported : Tree} (n : ℕ) → is_list (kind_of tree) ≡ true → part_at (parts_of tree) n ≡ Some reported →
      report ≡ report_at (own_place reported) NoUnreachable reported → (Reaches (parts_of tree) n → ⊥) → ReportsUnreached report tree
  below : {tree inner : Tree} (n : ℕ) → part_at (parts_of tree) n ≡ Some inner → ReportsUnreached report inner → ReportsUnreached report tree
