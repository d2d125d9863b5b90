-- Which rules look at which kind, made once for a walk.
use Rattle.std.specs.Prelude.{◌≡◌, ℕ, Bool, true, ◌&&◌, cond, length, nat_eq, List, [], ◌∷◌, map, get_or}
use Rattle.tree.specs.declared.kind.Kind.{Kind}
use Rattle.tree.specs.Tree.{Tree, node, Parts, none, part, gap, kind_of}
use Rattle.rule_words.specs.Reports.{Report}
use Rattle.node_rules.specs.declared.around.Around.{Around}
use Rattle.node_rules.specs.declared.due_rules.DueRules.{DueRules}
use Rattle.node_rules.specs.declared.node_rule.NodeRule.{NodeRule}
use Rattle.node_rules.specs.declared.node_rule.NodeOptions.{NodeOptions}
use Rattle.node_rules.specs.KindNumbers.{all_kinds, kind_number}
use Rattle.node_rules.specs.Rows.{looks, of_rules}

-- those of the rules that look at a kind
abbrev pub looking_at : List NodeRule → Kind → List NodeRule
looking_at [] kind = []
looking_at (rule ∷ rules) kind = cond (looks rule kind) (rule ∷ looking_at rules kind) (looking_at rules kind)

-- the lists of a table, kind by kind
abbrev pub lists_of : DueRules → List (List NodeRule)
lists_of due = map (λ list. list.items) due.lists.items

-- what a table has for a kind
abbrev pub due_at : DueRules → Kind → List NodeRule
due_at due kind = get_or (lists_of due) (kind_number kind) []

-- a table of these rules
abbrev pub IsDue : List NodeRule → DueRules → Type 0
IsDue rules due = lists_of due ≡ map (looking_at rules) all_kinds

-- what the rules that a table has for a node report of it
abbrev pub of_due : NodeOptions → List ℕ → DueRules → Around → Tree → List Report
of_due options source due around tree = of_rules options source (due_at due (kind_of tree)) around tree

unfoldable mutual
  -- no rule looks at a node, nor at one below it
  pub is_silent : DueRules → Tree → Bool
  is_silent due (node kind text flags from to parts) = nat_eq (length (due_at due kind)) 0 && are_silent due parts

  pub are_silent : DueRules → Parts → Bool
  are_silent due none = true
  are_silent due (part tree rest) = is_silent due tree && are_silent due rest
  are_silent due (gap rest) = are_silent due rest
