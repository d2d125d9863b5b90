use Rattle.std.proofs.Common.{sym, ◌∙◌, subst, rules}
use Rattle.tokens.specs.declared.token.Goal.TheVariants.{Div}
use Rattle.tokens.specs.Scanned.{token_of}
use Rattle.token_cursor.specs.CursorState.{CursorState, IsAheadBySome}
use Rattle.token_cursor.proofs.TokensAhead.{ahead_next, place_seen}
use Rattle.token_cursor.proofs.ScanResults.{scanned, seen_scan, base_scan}
use Rattle.token_cursor.proofs.cursor.Cursor.advance.Goals as goal

pub invariant_of-self : goal.invariant_of-self
invariant_of-self c =
    let e = c.scan-self-inside.ensures in
    let a = subst (λ (p : CursorState). IsAheadBySome p.text p.last.stop (token_of c.args.token)) (sym c.self.view_is) c.requires in
    (search rules, search rules, seen_scan Div _ _ _ _ _ (sym c.is_of_2022.ensures ∙ c.if-is_of_2022.true) c.see_keyword.ensures (scanned Div _ _ _ e.ok e.within e.goes_on e.string e.err e.fault_place), place_seen _ a.1)

pub invariant_of-self-else-is_of_2022 : goal.invariant_of-self-else-is_of_2022
invariant_of-self-else-is_of_2022 c =
    let e = c.scan-self-inside.ensures in
    let a = subst (λ (p : CursorState). IsAheadBySome p.text p.last.stop (token_of c.args.token)) (sym c.self.view_is) c.requires in
    (search rules, search rules, base_scan Div _ _ _ _ (sym c.is_of_2022.ensures ∙ c.if-is_of_2022.false) (scanned Div _ _ _ e.ok e.within e.goes_on e.string e.err e.fault_place), place_seen _ a.1)

pub returns-then-is_of_2022-clause-reads : goal.returns-then-is_of_2022-clause-reads
returns-then-is_of_2022-clause-reads c = ahead_next _ c.requires.0 _ _ c.requires.1

pub returns-else-is_of_2022-clause-reads : goal.returns-else-is_of_2022-clause-reads
returns-else-is_of_2022-clause-reads c = ahead_next _ c.requires.0 _ _ c.requires.1
