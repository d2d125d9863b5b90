use Rattle.std.proofs.Common.{◌≡◌, ◌++◌, map, drop}
use Rattle.scopes.specs.Shown.{reference_shown}
use Rattle.rule_words.specs.Appends.{Grows}
use Rattle.rules.specs.Rules.{each_undefined}
use Rattle.rules.proofs.no_undef.push_all_undefined.Given as goal

abbrev pub invariant-loop-reference : goal.invariant-loop-reference
invariant-loop-reference l = record {
  found : l.out.items ++ each_undefined l.known.is_2022 l.known.settings.now (map reference_shown (drop l.reference-index l.references)) ≡ l.fn.out.items ++ each_undefined l.known.is_2022 l.known.settings.now (map reference_shown l.references);
  kept : Grows l.fn.out.items l.out.items;
}
