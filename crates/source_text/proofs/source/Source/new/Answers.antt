use Rattle.std.proofs.Common.{sym, subst}
use Rattle.source_text.specs.Source.{IsFirstFault}
use Rattle.source_text.proofs.source.Source.new.Goals as goal

pub returns-in-Err-clause-refused : goal.returns-in-Err-clause-refused
returns-in-Err-clause-refused c =
    let fault = c.in-Err.ensures.cases.1 in
    let first : IsFirstFault c.args.bytes.now c.in-Err.error.valid_up_to = record { within = fault.short; before = fault.front; longest = fault.longest } in
    (c.if-bytes-gt-MAX_BYTES.false, subst (λ n. IsFirstFault c.args.bytes.now n) (sym c.valid_up_to.ensures) first)
