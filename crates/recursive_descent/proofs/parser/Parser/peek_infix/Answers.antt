use Rattle.std.proofs.Common.{sym, ◌∙◌}
use Rattle.tokens.specs.Scanned.{token_of}
use Rattle.language.specs.Continuations.{operation}
use Rattle.language.specs.Token.{as_read}
use Rattle.parser_tables.proofs.InfixOperators.{symbol_same, decides, stops_unmade, stops_unplaced, stops_ahead, stops_none}
use Rattle.recursive_descent.proofs.parser.Parser.peek_infix.Goals as goal

pub returns-in_default-clause-none : goal.returns-in_default-clause-none
returns-in_default-clause-none c = stops_none _ c.args.position c.args.edge _ c.in_default.ensures.none

pub returns-in_default-infix_operator_of-clause-none : goal.returns-in_default-infix_operator_of-clause-none
returns-in_default-infix_operator_of-clause-none c =
    let t = as_read (token_of c.in-Some.token) in
    stops_ahead _ c.args.position c.args.edge _ _ c.in-Some.ensures.some (stops_unmade c.args.position c.args.edge t _ (sym c.in_default-infix_operator_of.ensures.coded))

pub returns-in_default-rank-clause-none : goal.returns-in_default-rank-clause-none
returns-in_default-rank-clause-none c =
    let t = as_read (token_of c.in-Some.token) in
    stops_ahead _ c.args.position c.args.edge _ _ c.in-Some.ensures.some (stops_unplaced c.args.position c.args.edge t (symbol_same c.in-Some-infix_operator_of.operator t.after_break (operation t) _ (sym c.in-Some-infix_operator_of.ensures.coded) ∙ sym c.in_default-rank.ensures))

pub returns-then-cannot_continue-clause-none : goal.returns-then-cannot_continue-clause-none
returns-then-cannot_continue-clause-none c =
    let t = as_read (token_of c.in-Some.token) in
    stops_ahead _ c.args.position c.args.edge _ _ c.in-Some.ensures.some
    (decides c.args.position c.args.edge t c.in-Some-rank.symbol _ (symbol_same c.in-Some-infix_operator_of.operator t.after_break (operation t) _ (sym c.in-Some-infix_operator_of.ensures.coded) ∙ sym c.in-Some-rank.ensures) (sym c.cannot_continue.ensures ∙ c.if-cannot_continue.true))

pub returns-clause-coded : goal.returns-clause-coded
returns-clause-coded c = sym c.in-Some-infix_operator_of.ensures.coded

pub returns-clause-goes : goal.returns-clause-goes
returns-clause-goes c =
    let t = as_read (token_of c.in-Some.token) in
    decides c.args.position c.args.edge t c.in-Some-rank.symbol _ (symbol_same c.in-Some-infix_operator_of.operator t.after_break (operation t) _ (sym c.in-Some-infix_operator_of.ensures.coded) ∙ sym c.in-Some-rank.ensures) (sym c.cannot_continue.ensures ∙ c.if-cannot_continue.false)
