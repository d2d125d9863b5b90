-- What the walk, and what stands round a node, know of what holds beside the node.
use Rattle.early_errors.specs.declared.own.Surroundings.{Surroundings}
use Rattle.early_errors.specs.declared.walk.Walk.{Walk}
use Rattle.early_errors.specs.Owns.{Beside, Knows}
use Rattle.early_errors.specs.Walk.{look}

abbrev pub KnownIn : Walk → Beside → Type 0
KnownIn w r = Knows (look w.labels) (look w.privates) w.language r

abbrev pub KnownRound : Surroundings → Beside → Type 0
KnownRound s r = Knows (look s.labels.now) (look s.privates.now) s.language r
