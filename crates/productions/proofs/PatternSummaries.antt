-- What is kept of a pattern, by what it covers.
use Rattle.std.proofs.Common.{◌≡◌, ℕ, zero, suc, Bool, false, List, Option, Some, None, refl, ap, sym, ◌∙◌, arith, ◌+◌}
use Rattle.std.specs.Prelude.{option_map}
use Rattle.tree.specs.declared.kind.Kind.{Kind}
use Rattle.tree.specs.declared.kind.Kind.TheVariants.{ArrayExpression, ObjectExpression, SpreadElement, AssignmentExpression, Property}
use Rattle.tree.specs.Tree.{Tree, node, Parts, none, part, gap, kind_of, height, parts_height, part_count}
use Rattle.tree.specs.Patterns.{chosen, pattern_kind, pattern_text, pattern_tree, pattern_parts}
use Rattle.productions.specs.Summaries.{becomes_another, is_string, pattern_summary, summary_of, last_or, last_part, last_summary}

chosen_has : (P : Parts → Type 0) (k : Kind) (ps all behind : Parts) → P ps → P all → P behind → P (chosen k ps all behind)
chosen_has P ArrayExpression ps all behind a b c = b
chosen_has P ObjectExpression ps all behind a b c = b
chosen_has P SpreadElement ps all behind a b c = b
chosen_has P Property ps all behind a b c = c
chosen_has P _ ps all behind a b c = a

mutual
  pub same_height : (t : Tree) → height (pattern_tree t) ≡ height t
  same_height (node k w g s e ps) = ap suc (chosen_has (λ qs. parts_height qs ≡ parts_height ps) k ps (pattern_parts 0 ps) (pattern_parts 1 ps) refl (same_parts_height 0 ps) (same_parts_height 1 ps))

  pub same_parts_height : (n : ℕ) (ps : Parts) → parts_height (pattern_parts n ps) ≡ parts_height ps
  same_parts_height n none = refl
  same_parts_height zero (part t ps) = omega (arith, same_height t, same_parts_height zero ps)
  same_parts_height (suc n) (part t ps) = omega (arith, same_parts_height n ps)
  same_parts_height zero (gap ps) = same_parts_height zero ps
  same_parts_height (suc n) (gap ps) = same_parts_height n ps

pub same_count : (ps : Parts) → part_count (pattern_parts 0 ps) ≡ part_count ps
same_count none = refl
same_count (part t ps) = ap (λ n. n + 1) (same_count ps)
same_count (gap ps) = ap (λ n. n + 1) (same_count ps)

same_string : (k : Kind) (w : List ℕ) → is_string (pattern_kind k) (pattern_text k w) ≡ is_string k w
same_string AssignmentExpression w = refl
same_string _ w = refl

-- the summary of a pattern
pub summary_of-pattern : (t : Tree) → summary_of (pattern_tree t) ≡ pattern_summary (summary_of t)
summary_of-pattern (node k w g s e ps) =
    ap (λ (n : ℕ). record { start = s; levels = n; kind = pattern_kind k; is_optional = g.optional; is_directive = g.directive; is_string = is_string (pattern_kind k) (pattern_text k w) }) (same_height (node k w g s e ps))
    ∙ ap (λ (b : Bool). record { start = s; levels = height (node k w g s e ps); kind = pattern_kind k; is_optional = g.optional; is_directive = g.directive; is_string = b }) (same_string k w)

last_or-patterns : (ps : Parts) (o : Option Tree) → last_or (option_map pattern_tree o) (pattern_parts 0 ps) ≡ option_map pattern_tree (last_or o ps)
last_or-patterns none o = refl
last_or-patterns (part t ps) o = last_or-patterns ps (Some t)
last_or-patterns (gap ps) o = last_or-patterns ps None

mapped : (o : Option Tree) → option_map summary_of (option_map pattern_tree o) ≡ option_map pattern_summary (option_map summary_of o)
mapped None = refl
mapped (Some t) = ap Some (summary_of-pattern t)

pub last_summary-patterns : (ps : Parts) → last_summary (pattern_parts 0 ps) ≡ option_map pattern_summary (last_summary ps)
last_summary-patterns ps = ap (option_map summary_of) (last_or-patterns ps None) ∙ mapped (last_part ps)
