use Rattle.std.proofs.Common.{sym, ◌∙◌}
use Rattle.spelling_table.specs.Productions.{outline_of}
use Rattle.spellings.proofs.PartsAfter.{over_runs}
use Rattle.spellings.proofs.Productions.{without_list}
use Rattle.spellings.proofs.spelled_node.goes_over.Goals as goal

pub returns-then-not-has_list : goal.returns-then-not-has_list
returns-then-not-has_list c = over_runs (outline_of c.args.production).tail _ (without_list c.args.production (sym c.has_list.ensures ∙ c.if-not-has_list.true))
