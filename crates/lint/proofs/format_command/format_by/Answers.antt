use Rattle.std.proofs.Common.{string_bytes, subst, true, false}
use Rattle.std.specs.Result.{IfOk}
use Rattle.layout_items.specs.declared.style.Style.{Style}
use Rattle.lint.specs.Formats.{FormatsWith}
use Rattle.lint.proofs.Formatting.{either_refused}
use Rattle.lint.proofs.format_command.format_by.Goals as goal

pub returns-in-true-clause-formatted : goal.returns-in-true-clause-formatted
returns-in-true-clause-formatted c =
    rw c.in-true.is (subst (λ (s : Style). IfOk c.format_fewest.result (λ t. FormatsWith true c.args.language s c.args.source.now (string_bytes t))) c.style_of.ensures c.format_fewest.ensures.formatted)

pub returns-in-true-clause-refused : goal.returns-in-true-clause-refused
returns-in-true-clause-refused c = rw c.in-true.is c.format_fewest.ensures.refused

pub returns-in-false-clause-formatted : goal.returns-in-false-clause-formatted
returns-in-false-clause-formatted c =
    rw c.in-false.is (subst (λ (s : Style). IfOk c.format_parsed.result (λ t. FormatsWith false c.args.language s c.args.source.now (string_bytes t))) c.style_of.ensures c.format_parsed.ensures.formatted)

pub returns-in-false-clause-refused : goal.returns-in-false-clause-refused
returns-in-false-clause-refused c =
    rw c.in-false.is (either_refused false c.args.source.now c.args.parsed.now.program c.args.parsed.now.pairs.items c.format_parsed.result c.format_parsed.ensures.refused)
