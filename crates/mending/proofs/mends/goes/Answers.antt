use Rattle.std.proofs.Common.{sym, ◌∙◌}
use Rattle.mending.proofs.mends.goes.Goals as goal

pub returns : goal.returns
returns c = λ e. record {
  rule = c.in-Some.rule;
  listed = sym c.has_statements.ensures ∙ c.if-not-has_statements.false;
  goes = c.in-Some.ensures;
  asked = c.is_asked.ensures e;
}
