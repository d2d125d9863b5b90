-- `break`, `continue` and labels.
use Rattle.std.specs.Prelude.{ℕ, Bool, true, false, not, ◌&&◌, ◌||◌, List, [], ◌∷◌, filter}
use Rattle.std.specs.Str.{bytes_eq}
use Rattle.tree.specs.declared.kind.Kind.TheVariants.{BreakStatement, ContinueStatement, LabeledStatement}
use Rattle.tree.specs.Tree.{Tree, node, Parts, part}
use Rattle.early_errors.specs.Names.{places, when, first_names}
use Rattle.early_errors.specs.Around.{Around, Label}

abbrev pub is_bare : Parts → Bool
is_bare (part tree rest) = false
is_bare _ = true

-- A `break` without label outside loop and switch (13.9.1), a `continue` without label outside a loop (13.8.1): the statement.
unfoldable pub misplaced_jump : Around → Tree → List ℕ
misplaced_jump z (node BreakStatement text flags from to parts) = when (is_bare parts && not (z.in_loop || z.in_switch)) (from ∷ [])
misplaced_jump z (node ContinueStatement text flags from to parts) = when (is_bare parts && not z.in_loop) (from ∷ [])
misplaced_jump z (node _ text flags from to parts) = []

-- the name labels a statement round the node
abbrev pub labels_statement : List Label → List ℕ → Bool
labels_statement [] text = false
labels_statement (l ∷ ls) text = bytes_eq l.0 text || labels_statement ls text

-- the name labels a loop round the node
abbrev pub labels_a_loop : List Label → List ℕ → Bool
labels_a_loop [] text = false
labels_a_loop (l ∷ ls) text = (bytes_eq l.0 text && l.1) || labels_a_loop ls text

-- A label after `break` that labels no statement round it, or after `continue` no loop (13.1.2, 13.1.3 with 14.1.2, 15.1.1):
-- the label after the word.
unfoldable pub undefined_label : Around → Tree → List ℕ
undefined_label z (node BreakStatement text flags from to parts) = places (filter (λ x. not (labels_statement z.labels x.0)) (first_names parts))
undefined_label z (node ContinueStatement text flags from to parts) = places (filter (λ x. not (labels_a_loop z.labels x.0)) (first_names parts))
undefined_label z (node _ text flags from to parts) = []

-- A label inside a statement with the same label (13.1.1 with 14.1.2, 15.1.1): the inner label.
unfoldable pub duplicate_label : Around → Tree → List ℕ
duplicate_label z (node LabeledStatement text flags from to parts) = places (filter (λ x. labels_statement z.labels x.0) (first_names parts))
duplicate_label z (node _ text flags from to parts) = []
