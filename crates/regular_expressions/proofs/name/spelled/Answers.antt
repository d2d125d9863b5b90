use Rattle.std.proofs.Common.{sym, ◌∙◌}
use Rattle.regular_expressions.proofs.NameSteps.{spelled_none, spelled_plain}
use Rattle.regular_expressions.proofs.name.spelled.Goals as goal

pub returns-then-not-is_name : goal.returns-then-not-is_name
returns-then-not-is_name c = spelled_none c.args.word.now (sym c.is_name.ensures ∙ c.if-not-is_name.true)

pub returns-then-not-has_escape : goal.returns-then-not-has_escape
returns-then-not-has_escape c =
    spelled_plain c.args.word.now c.utf8.word (sym c.has_escape.ensures ∙ c.if-not-has_escape.true) (sym c.is_name.ensures ∙ c.if-not-is_name.false)

pub unescaped-requires : goal.unescaped-requires
unescaped-requires c = sym c.is_name.ensures ∙ c.if-not-is_name.false
