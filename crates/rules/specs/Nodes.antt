-- What the code's own calls say of references.
use Rattle.scopes.specs.Found.{Reference}
use Rattle.rule_words.specs.Reports.{Report, quoted, report}

abbrev pub undefined_at : Reference → Report
undefined_at r = report "no-undef" r.start r.stop (quoted r.name "is not defined")
