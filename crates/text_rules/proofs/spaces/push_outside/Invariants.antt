use Rattle.std.proofs.Common.{◌≡◌, ◌++◌, drop}
use Rattle.std.specs.Str.{chars}
use Rattle.tree.specs.Flat.{post_order}
use Rattle.rule_words.specs.Appends.{Grows}
use Rattle.text_rules.specs.Found.{opening, outside}
use Rattle.text_rules.proofs.spaces.push_outside.Given as goal

abbrev pub invariant-loop-number : goal.invariant-loop-number
invariant-loop-number l = record {
  found : l.out.items ++ outside l.look.source.now l.look.rule l.from (drop l.number (post_order l.program)) ≡ l.fn.out.items ++ outside l.look.source.now l.look.rule (opening (chars l.look.source.now)) (post_order l.program);
  kept : Grows l.fn.out.items l.out.items;
}
