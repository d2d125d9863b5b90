use Rattle.completion_laws.proofs.RuleLaws.{consistent}
use Rattle.completion_laws.proofs.laws.returns_are_consistent.Goals as goal

pub returns : goal.returns
returns c = λ source around body completion other b h d e v. consistent source around body completion other b h d e v
