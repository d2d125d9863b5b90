use Rattle.std.proofs.lemmas.Str.{IsCharBoundary-start}
use Rattle.item_builder.proofs.gap.Gap.read_between.Goals as goal

pub loop-part-init : goal.loop-part-init
loop-part-init c = IsCharBoundary-start c.args.between.now c.utf8.between
