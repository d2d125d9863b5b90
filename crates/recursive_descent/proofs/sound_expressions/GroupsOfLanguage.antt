-- What parentheses hold is of the text's language: what they group, and the parameters of an arrow function.
use Rattle.std.proofs.Common.{ℕ, [], refl}
use Rattle.tree.specs.Tree.{Parts, none, part, gap, plain}
use Rattle.tree.specs.declared.kind.Kind.TheVariants.{SequenceExpression}
use Rattle.tree.specs.Patterns.{pattern_tree, pattern_parts}
use Rattle.parser_tables.specs.Items.{group_node}
use Rattle.token_cursor.specs.SourceText.{SourceText}
use Rattle.recursive_descent.specs.Spelled.{OfLanguage, AllOfLanguage}
use Rattle.recursive_descent.proofs.reading.LanguageTrees.{of_node, of_none, of_part, of_gap, first_of_language, others_of_language, behind_gap_of_language, pattern_of_language}

module _ (text : SourceText) where
  -- one expression, or the sequence of several
  pub group_language : (ps : Parts) (s e : ℕ) → AllOfLanguage text ps → OfLanguage text (group_node ps s e)
  group_language none s e h = of_node {k = SequenceExpression} {w = []} {g = plain} {st = s} {en = e} {ps = none} (λ b. refl) h
  group_language (gap ps) s e h = of_node {k = SequenceExpression} {w = []} {g = plain} {st = s} {en = e} {ps = gap ps} (λ b. refl) h
  group_language (part n none) s e h = first_of_language {n = n} {ps = none} h
  group_language (part n (part m ps)) s e h = of_node {k = SequenceExpression} {w = []} {g = plain} {st = s} {en = e} {ps = part n (part m ps)} (λ b. refl) h
  group_language (part n (gap ps)) s e h = of_node {k = SequenceExpression} {w = []} {g = plain} {st = s} {en = e} {ps = part n (gap ps)} (λ b. refl) h

  -- the patterns that are made of them
  pub patterns_language : (ps : Parts) → AllOfLanguage text ps → AllOfLanguage text (pattern_parts 0 ps)
  patterns_language none h = of_none
  patterns_language (part n ps) h = of_part {n = pattern_tree n} {ps = pattern_parts 0 ps} (pattern_of_language n (first_of_language {n = n} {ps = ps} h)) (patterns_language ps (others_of_language {n = n} {ps = ps} h))
  patterns_language (gap ps) h = of_gap {ps = pattern_parts 0 ps} (patterns_language ps (behind_gap_of_language {ps = ps} h))
