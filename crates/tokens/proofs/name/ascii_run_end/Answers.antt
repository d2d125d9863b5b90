use Rattle.tokens.proofs.Names.{ascii_run}
use Rattle.tokens.proofs.name.ascii_run_end.Goals as goal

pub returns-in-Some : goal.returns-in-Some
returns-in-Some c =
    ascii_run c.args.text.now c.args.at c.ascii_parts_end-end.result c.in-Some.field-0.end c.in-Some.field-0.c c.ascii_parts_end-end.ensures.run c.ascii_parts_end-end.ensures.stops c.in-Some.ensures.some
    c.in-Some.ensures.ascii
