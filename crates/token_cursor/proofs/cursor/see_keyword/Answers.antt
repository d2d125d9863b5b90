use Rattle.std.proofs.Common.{sym, ◌∙◌}
use Rattle.tokens.specs.Scanned.{token_of}
use Rattle.token_cursor.proofs.ScanResults.{await_seen, seen_otherwise}
use Rattle.token_cursor.proofs.cursor.see_keyword.Goals as goal

pub returns-then-is_name_token : goal.returns-then-is_name_token
returns-then-is_name_token c = rw c.in-Ok.is (λ l of_2022. await_seen (token_of c.in-Ok.token) (sym c.is_name_token.ensures.is ∙ c.if-is_name_token.true) l of_2022)

pub returns-else-is_name_token : goal.returns-else-is_name_token
returns-else-is_name_token c = rw c.in-Ok.is (λ l of_2022. seen_otherwise (token_of c.in-Ok.token) (sym c.is_name_token.ensures.is ∙ c.if-is_name_token.false) l)
