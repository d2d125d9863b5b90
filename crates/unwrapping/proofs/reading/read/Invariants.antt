use Rattle.std.proofs.Common.{◌≡◌, ◌-◌, length}
use Rattle.source_text.specs.Source.{IsPlace}
use Rattle.tokens.specs.Tokens.{size}
use Rattle.tree.specs.Tree.{Tree}
use Rattle.tree.specs.Flat.{post_order}
use Rattle.reading_laws.specs.TreeReadings.{hashbang_line}
use Rattle.unwrapping.specs.Readings.{AreNoted, InOrder}
use Rattle.unwrapping.proofs.ReadSteps.{IsReadTo}
use Rattle.unwrapping.proofs.reading.read.Given as goal

abbrev pub invariant-loop-step : goal.invariant-loop-step
invariant-loop-step l = record {
  here : IsPlace l.source l.at;
  order : InOrder l.rest;
  pairs : l.walk.pairs.now ≡ l.pairs;
  noted : (n : Tree) → AreNoted (post_order n) 0 l.notes → AreNoted (post_order n) l.at l.rest;
  read : (n : Tree) → AreNoted (post_order n) 0 l.notes → l.start ≡ size (hashbang_line n l.source) → IsReadTo l.source n l.pairs l.start l.at l.tokens.items;
}

abbrev pub decreases-loop-step : goal.decreases-loop-step
decreases-loop-step l = length l.source - l.at
