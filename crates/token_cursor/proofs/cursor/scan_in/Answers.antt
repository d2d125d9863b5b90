use Rattle.std.proofs.Common.{sym, ◌∙◌}
use Rattle.tokens.specs.declared.token.Goal.TheVariants.{Div}
use Rattle.token_cursor.proofs.ScanResults.{seen_scan, base_scan}
use Rattle.token_cursor.proofs.cursor.scan_in.Goals as goal

pub returns-then-is_of_2022 : goal.returns-then-is_of_2022
returns-then-is_of_2022 c = seen_scan Div _ _ _ _ _ (sym c.is_of_2022.ensures ∙ c.if-is_of_2022.true) c.see_keyword.ensures c.scan_after-scanned.ensures

pub returns-else-is_of_2022 : goal.returns-else-is_of_2022
returns-else-is_of_2022 c = base_scan Div _ _ _ _ (sym c.is_of_2022.ensures ∙ c.if-is_of_2022.false) c.scan_after-scanned.ensures
