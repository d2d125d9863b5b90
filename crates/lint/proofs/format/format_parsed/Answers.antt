use Rattle.std.proofs.Common.{string_bytes}
use Rattle.lint.proofs.Formatting.{formats_either}
use Rattle.lint.proofs.format.format_parsed.Goals as goal

pub returns-clause-formatted : goal.returns-clause-formatted
returns-clause-formatted c =
    let parsed = c.args.parsed.now in
    formats_either (λ text. string_bytes text) c.args.terms.language c.args.terms.style c.args.source.now parsed.program c.program-program.result.now parsed.pairs.items c.grouping_pairs-pairs.result.now
    c.lay_out_and_check.result c.requires.reading.accepted c.requires.reading.only c.program-program.ensures c.grouping_pairs-pairs.ensures c.lay_out_and_check.ensures.laid c.lay_out_and_check.ensures.spells
