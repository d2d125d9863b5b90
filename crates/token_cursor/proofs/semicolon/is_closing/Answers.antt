use Rattle.std.proofs.Common.{sym, ◌∙◌}
use Rattle.tokens.specs.Scanned.{token_of}
use Rattle.token_cursor.proofs.Endings.{close_same}
use Rattle.token_cursor.proofs.semicolon.is_closing.Goals as goal

pub returns : goal.returns
returns c = c.is_byte.ensures ∙ sym (close_same (token_of c.args.token.now))
