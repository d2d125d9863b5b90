use Rattle.std.proofs.Common.{sym, ◌∙◌}
use Rattle.tokens.proofs.QuickLexemes.{brace_lexeme}
use Rattle.tokens.proofs.scanner.closing_brace.Goals as goal

pub returns : goal.returns
returns c = λ text at u p. brace_lexeme c.args.goal text at c.args.first.end c.args.first.c u p c.requires (sym c.reads_template_parts-is_part.ensures ∙ c.if-is_part.false)
