use Rattle.std.proofs.Common.{◌≡◌, ◌++◌, map, drop}
use Rattle.rule_words.specs.Appends.{Grows}
use Rattle.rules.specs.Rules.{of_extra}
use Rattle.rules.proofs.no_extra_parens.push_extra.Given as goal

abbrev pub invariant-loop-span : goal.invariant-loop-span
invariant-loop-span l = record {
  found : l.out.items ++ map of_extra (drop l.span-index l.extra) ≡ l.fn.out.items ++ map of_extra l.extra;
  kept : Grows l.fn.out.items l.out.items;
}
