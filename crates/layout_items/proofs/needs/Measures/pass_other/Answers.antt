use Rattle.std.proofs.Common.{refl}
use Rattle.layout_items.proofs.PassSteps.{passed-other}
use Rattle.layout_items.proofs.needs.Measures.pass_other.Goals as goal

pub returns : goal.returns
returns c is s o h = passed-other c.args.item is c.args.self.now _ o s h c.note.ensures refl c.with-self.ensures refl
