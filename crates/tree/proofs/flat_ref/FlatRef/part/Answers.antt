use Rattle.tree.proofs.PartRows.{named_holds, named_holds_from}
use Rattle.tree.proofs.flat_ref.FlatRef.part.Goals as goal

pub returns-clause-rows : goal.returns-clause-rows
returns-clause-rows c = named_holds c.args.self c.parts-parts.result c.args.index c.get.result c.parts-parts.ensures.within c.parts-parts.ensures.run c.parts-parts.ensures.parts c.get.ensures.tree c.get.ensures.found

pub returns-clause-numbered : goal.returns-clause-numbered
returns-clause-numbered c = named_holds_from c.args.self c.parts-parts.result c.args.index c.get.result c.parts-parts.ensures.within c.parts-parts.ensures.run c.parts-parts.ensures.parts c.get.ensures.tree c.get.ensures.found
