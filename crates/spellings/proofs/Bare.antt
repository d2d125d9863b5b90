-- Outlines and their positions don't depend on places.
use Rattle.std.proofs.Common.{◌≡◌, ℕ, zero, suc, ◌+◌, false, cond, List, [], refl, ap, ap₂, ◌∙◌}
use Rattle.std.specs.Prelude.{Option, Some, None, not, nat_le, ◌||◌, ◌&&◌}
use Rattle.tree.specs.declared.kind.Kind.{Kind}
use Rattle.tree.specs.declared.kind.Kind.TheVariants as kind
use Rattle.tree.specs.Tree.{Tree, node, Parts, none, part, gap, bare, bare_parts}
use Rattle.language.specs.FirstPart.{lead, others, goes_left, is_braced, begins_with_brace, first_begins_with_brace}
use Rattle.language.specs.Pieces.{is_none}
use Rattle.language.specs.Edges.{trails, ends_in_if, last_ends_in_if}
use Rattle.language.specs.Statements.{defaults}
use Rattle.language.specs.Expressions.{has_optional, first_has_optional, is_chain_part, value_form}
use Rattle.spelling_table.specs.declared.position.Slot.{Slot}
use Rattle.spelling_table.specs.declared.outline.ListSlots.{ListSlots}
use Rattle.spelling_table.specs.declared.outline.Outline.{Outline}
use Rattle.spelling_table.specs.Outlines.{tail_slots, tail_at, part_of_tail, is_before_last, going, is_over, skips_gap, parts_after, front_before, outline_slots}
use Rattle.spellings.specs.Entries.{entry_at, text_at, dangles_at, is_import_specifier, is_export_specifier, specifiers_fit, behind_default_fits, import_fits, export_fits, around}

pub none-bare : (ps : Parts) → is_none (bare_parts ps) ≡ is_none ps
none-bare none = refl
none-bare (part n ps) = refl
none-bare (gap ps) = refl

lead-bare : (ps : Parts) → lead (bare_parts ps) ≡ lead ps
lead-bare none = refl
lead-bare (part (node k w g s e us) ps) = refl
lead-bare (gap ps) = refl

pub others-bare : (ps : Parts) → others (bare_parts ps) ≡ bare_parts (others ps)
others-bare none = refl
others-bare (part n ps) = refl
others-bare (gap ps) = refl

before_last-bare : (ps : Parts) → is_before_last (bare_parts ps) ≡ is_before_last ps
before_last-bare none = refl
before_last-bare (part n ps) = none-bare ps
before_last-bare (gap ps) = none-bare ps

part_of_tail-bare : (t : ListSlots) (n : Tree) (ps : Parts) → part_of_tail t (bare n) (bare_parts ps) ≡ part_of_tail t n ps
part_of_tail-bare t (node k w g s e us) ps = ap₂ (λ a b. tail_at t k g.directive a b) (none-bare ps) (before_last-bare ps)

going-alike : (f g : ListSlots → Option (List Rattle.language.specs.Pieces.Slot)) (u : Option (Slot × ListSlots)) → ((t : ListSlots) → f t ≡ g t) → going f u ≡ going g u
going-alike f g None h = refl
going-alike f g (Some x) h = ap (Rattle.spelling_table.specs.Outlines.before (Rattle.spelling_table.specs.Outlines.slot_of x.0)) (h x.1)

pub tail_slots-bare : (t : ListSlots) (ps : Parts) → tail_slots t (bare_parts ps) ≡ tail_slots t ps
tail_slots-bare t none = refl
tail_slots-bare t (gap ps) = ap (λ x. cond (is_over t) (Some []) (cond (skips_gap t) x None)) (tail_slots-bare t ps)
tail_slots-bare t (part n ps) =
    ap (cond (is_over t) (Some [])) (ap (going (λ u. tail_slots u (bare_parts ps))) (part_of_tail-bare t n ps) ∙ going-alike (λ u. tail_slots u (bare_parts ps)) (λ u. tail_slots u ps) (part_of_tail t n ps) (λ u. tail_slots-bare u ps))

behind-bare : (i : ℕ) (ps : Parts) → parts_after i (bare_parts ps) ≡ bare_parts (parts_after i ps)
behind-bare zero ps = refl
behind-bare (suc i) ps = ap (parts_after i) (others-bare ps) ∙ behind-bare i (others ps)

pub outline_slots-bare : (x : Outline) (ps : Parts) → outline_slots x (bare_parts ps) ≡ outline_slots x ps
outline_slots-bare x ps = ap (front_before x.front) (ap (tail_slots x.tail) (behind-bare x.from ps) ∙ tail_slots-bare x.tail (parts_after x.from ps))

entry-bare : (ps : Parts) (i : ℕ) → entry_at (bare_parts ps) i ≡ entry_at ps i
entry-bare none i = refl
entry-bare (part (node k w g s e us) ps) zero = refl
entry-bare (part n ps) (suc i) = entry-bare ps i
entry-bare (gap ps) zero = refl
entry-bare (gap ps) (suc i) = entry-bare ps i

text-bare : (ps : Parts) (i : ℕ) → text_at (bare_parts ps) i ≡ text_at ps i
text-bare none i = refl
text-bare (part (node k w g s e us) ps) zero = refl
text-bare (part n ps) (suc i) = text-bare ps i
text-bare (gap ps) zero = refl
text-bare (gap ps) (suc i) = text-bare ps i

mutual
  chained-bare : (n : Tree) → has_optional (bare n) ≡ has_optional n
  chained-bare (node k w g s e ps) = ap (λ b. is_chain_part k && (g.optional || b)) (first_chained-bare ps)

  pub first_chained-bare : (ps : Parts) → first_has_optional (bare_parts ps) ≡ first_has_optional ps
  first_chained-bare none = refl
  first_chained-bare (part n ps) = chained-bare n
  first_chained-bare (gap ps) = refl

mutual
  ends-bare : (n : Tree) → ends_in_if (bare n) ≡ ends_in_if n
  ends-bare (node k w g s e ps) = ap (λ b. cond (trails k) b false) (last_ends-bare ps)

  last_ends-bare : (ps : Parts) → last_ends_in_if (bare_parts ps) ≡ last_ends_in_if ps
  last_ends-bare none = refl
  last_ends-bare (part n none) = ends-bare n
  last_ends-bare (part n (part m ps)) = last_ends-bare (part m ps)
  last_ends-bare (part n (gap ps)) = last_ends-bare ps
  last_ends-bare (gap ps) = last_ends-bare ps

dangles-bare : (ps : Parts) (i : ℕ) → dangles_at (bare_parts ps) i ≡ dangles_at ps i
dangles-bare none i = refl
dangles-bare (part n ps) zero = ends-bare n
dangles-bare (part n ps) (suc i) = dangles-bare ps i
dangles-bare (gap ps) zero = refl
dangles-bare (gap ps) (suc i) = dangles-bare ps i

defaults-bare : (ps : Parts) → defaults (bare_parts ps) ≡ defaults ps
defaults-bare none = refl
defaults-bare (part (node k w g s e none) ps) = ap (λ n. 0 + n) (defaults-bare ps)
defaults-bare (part (node k w g s e (part m us)) ps) = ap (λ n. 0 + n) (defaults-bare ps)
defaults-bare (part (node k w g s e (gap us)) ps) = ap (λ n. 1 + n) (defaults-bare ps)
defaults-bare (gap ps) = defaults-bare ps

twice-bare : (ps : Parts) → not (nat_le (defaults (others (bare_parts ps))) 1) ≡ not (nat_le (defaults (others ps)) 1)
twice-bare ps = ap (λ n. not (nat_le n 1)) (ap defaults (others-bare ps) ∙ defaults-bare (others ps))

value_form-bare : (ps : Parts) → value_form (bare_parts ps) ≡ value_form ps
value_form-bare none = refl
value_form-bare (gap ps) = refl
value_form-bare (part n none) = refl
value_form-bare (part n (gap ps)) = refl
value_form-bare (part n (part (node k w g s e us) ps)) = refl

mutual
  braced-bare : (n : Tree) → begins_with_brace (bare n) ≡ begins_with_brace n
  braced-bare (node k w g s e ps) = ap (λ b. cond (goes_left k g) b (is_braced k)) (first_braced-bare ps)

  first_braced-bare : (ps : Parts) → first_begins_with_brace (bare_parts ps) ≡ first_begins_with_brace ps
  first_braced-bare none = refl
  first_braced-bare (part n ps) = braced-bare n
  first_braced-bare (gap ps) = refl

specifiers_fit-bare : (ps : Parts) → specifiers_fit (bare_parts ps) ≡ specifiers_fit ps
specifiers_fit-bare none = refl
specifiers_fit-bare (gap ps) = refl
specifiers_fit-bare (part n none) = refl
specifiers_fit-bare (part n (gap ps)) = refl
specifiers_fit-bare (part (node k w g s e us) (part m ps)) = ap (λ b. is_import_specifier k && b) (specifiers_fit-bare (part m ps))

behind_default-bare : (k : Kind) (ps : Parts) → behind_default_fits k (bare_parts ps) ≡ behind_default_fits k ps
behind_default-bare kind.ImportSpecifier ps = specifiers_fit-bare ps
behind_default-bare kind.ImportNamespaceSpecifier none = refl
behind_default-bare kind.ImportNamespaceSpecifier (gap ps) = refl
behind_default-bare kind.ImportNamespaceSpecifier (part n none) = refl
behind_default-bare kind.ImportNamespaceSpecifier (part n (gap ps)) = refl
behind_default-bare kind.ImportNamespaceSpecifier (part n (part m none)) = refl
behind_default-bare kind.ImportNamespaceSpecifier (part n (part m (gap ps))) = refl
behind_default-bare kind.ImportNamespaceSpecifier (part n (part m (part l ps))) = refl
behind_default-bare kind.Literal none = refl
behind_default-bare kind.Literal (gap ps) = refl
behind_default-bare kind.Literal (part n none) = refl
behind_default-bare kind.Literal (part n (gap ps)) = refl
behind_default-bare kind.Literal (part n (part m ps)) = refl
behind_default-bare _ ps = refl

imports-bare : (k : Kind) (ps : Parts) → import_fits k (bare_parts ps) ≡ import_fits k ps
imports-bare kind.ImportDefaultSpecifier none = refl
imports-bare kind.ImportDefaultSpecifier (gap ps) = refl
imports-bare kind.ImportDefaultSpecifier (part n ps) = ap (λ j. behind_default_fits j (bare_parts ps)) (lead-bare ps) ∙ behind_default-bare (lead ps) ps
imports-bare kind.ImportSpecifier ps = specifiers_fit-bare ps
imports-bare kind.ImportNamespaceSpecifier ps = behind_default-bare kind.ImportNamespaceSpecifier ps
imports-bare kind.Literal ps = behind_default-bare kind.Literal ps
imports-bare _ ps = refl

imports_fit-bare : (ps : Parts) → import_fits (lead (bare_parts ps)) (bare_parts ps) ≡ import_fits (lead ps) ps
imports_fit-bare ps = ap (λ j. import_fits j (bare_parts ps)) (lead-bare ps) ∙ imports-bare (lead ps) ps

exports_fit-bare : (ps : Parts) → export_fits (bare_parts ps) ≡ export_fits ps
exports_fit-bare none = refl
exports_fit-bare (gap none) = refl
exports_fit-bare (gap (gap ps)) = refl
exports_fit-bare (gap (part n ps)) = refl
exports_fit-bare (part n none) = refl
exports_fit-bare (part (node k w g s e us) (gap ps)) = ap (λ b. is_export_specifier k && b) (exports_fit-bare (gap ps))
exports_fit-bare (part (node k w g s e us) (part m ps)) = ap (λ b. is_export_specifier k && b) (exports_fit-bare (part m ps))

exports_fit-others : (ps : Parts) → export_fits (others (bare_parts ps)) ≡ export_fits (others ps)
exports_fit-others ps = ap export_fits (others-bare ps) ∙ exports_fit-bare (others ps)

pub around-bare : (ps : Parts) → around (bare_parts ps) ≡ around ps
around-bare ps = λ i. record {
  first = entry-bare ps 0 i;
  second = entry-bare ps 1 i;
  third = entry-bare ps 2 i;
  fourth = entry-bare ps 3 i;
  first_text = text-bare ps 0 i;
  second_text = text-bare ps 1 i;
  chained = first_chained-bare ps i;
  dangling = dangles-bare ps 1 i;
  defaults_twice = twice-bare ps i;
  second_form = value_form-bare ps i;
  braced = first_braced-bare ps i;
  imports_fit = imports_fit-bare ps i;
  exports_fit = exports_fit-others ps i;
}
