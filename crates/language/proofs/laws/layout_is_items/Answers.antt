use Rattle.language.proofs.layout.LaidItems.{fixed_items}
use Rattle.language.proofs.laws.layout_is_items.Goals as goal

pub returns : goal.returns
returns c = λ n. fixed_items n
