use Rattle.std.proofs.Common.{◌∙◌, sym}
use Rattle.spellings.proofs.PartsAfter.{whole_over, plain_over}
use Rattle.spellings.proofs.walk.list_fits.Goals as goal

pub returns-then-takes_all : goal.returns-then-takes_all
returns-then-takes_all c = c.is_whole.ensures ∙ whole_over c.args.tail _ (sym c.takes_all.ensures ∙ c.if-takes_all.true)

pub returns-then-has_plain : goal.returns-then-has_plain
returns-then-has_plain c = sym (plain_over c.args.tail _ (sym c.is_of_arguments.ensures ∙ c.if-is_of_arguments.true) (sym c.has_plain.ensures ∙ c.if-has_plain.true))
