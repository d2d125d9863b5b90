use Rattle.std.proofs.Common.{string_bytes}
use Rattle.lint.proofs.Formatting.{format_answered, format_refused}
use Rattle.lint.proofs.format_command.format.Goals as goal

pub returns-in-Ok-clause-answer : goal.returns-in-Ok-clause-answer
returns-in-Ok-clause-answer c =
    format_answered c.args.language c.args.choice c.args.source.now c.args.parsed.now.program c.args.parsed.now.pairs.items (string_bytes c.in-Ok.text) c.told.result c.in-Ok.ensures.formatted c.told.ensures.told

pub returns-in-Err-clause-answer : goal.returns-in-Err-clause-answer
returns-in-Err-clause-answer c = format_refused c.args.language c.args.choice c.args.source.now c.args.parsed.now.program c.args.parsed.now.pairs.items c.in-Err.fault c.in-Err.ensures.refused
