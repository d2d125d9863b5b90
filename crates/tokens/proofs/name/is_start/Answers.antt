use Rattle.std.proofs.Common.{sym, ◌∙◌}
use Rattle.tokens.proofs.Names.{ascii_start}
use Rattle.tokens.proofs.name.is_start.Goals as goal

pub returns-then-is_ascii : goal.returns-then-is_ascii
returns-then-is_ascii c = c.is_ascii_start.ensures ∙ ascii_start c.args.c (sym c.is_ascii.ensures ∙ c.if-is_ascii.true)
