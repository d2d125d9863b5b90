use Rattle.std.proofs.Common.{◌∙◌, ap, nat_eq, sym}
use Rattle.spelling_table.specs.Outlines.{tail_at}
use Rattle.spellings.proofs.PartsAfter.{none-count, before-count}
use Rattle.spellings.proofs.walk.slot_of_part.Goals as goal

pub returns : goal.returns
returns c = λ ps e.
    c.next_slot.ensures
    ∙ (λ i. tail_at c.args.tail (c.kind.ensures i) ((c.flags.ensures i).directive) ((ap (λ n. nat_eq n 0) (sym e) ∙ none-count ps) i) ((ap (λ n. nat_eq n 1) (sym e) ∙ before-count ps) i))
