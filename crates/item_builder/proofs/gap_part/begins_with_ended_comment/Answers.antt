use Rattle.std.proofs.lemmas.Str.{IsCharBoundary-start}
use Rattle.item_builder.proofs.gap_part.begins_with_ended_comment.Goals as goal

pub loop-part-init : goal.loop-part-init
loop-part-init c = IsCharBoundary-start c.args.text.now c.utf8.text
