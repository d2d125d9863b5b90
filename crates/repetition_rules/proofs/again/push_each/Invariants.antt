use Rattle.std.proofs.Common.{◌≡◌, ◌++◌, [], List, drop}
use Rattle.rule_words.specs.Appends.{Grows}
use Rattle.repetition_rules.specs.Entries.{Entry}
use Rattle.repetition_rules.specs.Rows.{reported}
use Rattle.repetition_rules.specs.Seen.{Holds}
use Rattle.repetition_rules.proofs.again.push_each.Given as goal

-- the sets have the labels of those before
abbrev pub invariant-loop-entry : goal.invariant-loop-entry
invariant-loop-entry l = record {
  before : (before : List Entry) × (Holds l.seen before × (l.out.items ++ reported l.rule before (drop l.entry-index l.entries) ≡ l.fn.out.items ++ reported l.rule [] l.entries));
  kept : Grows l.fn.out.items l.out.items;
}
