use Rattle.std.proofs.Common.{ap, sym, ◌∙◌}
use Rattle.std.specs.Str.{chars}
use Rattle.text_rules.specs.Gaps.{piece}
use Rattle.text_rules.specs.Quiet.{may_mark}
use Rattle.text_rules.proofs.QuietTexts.{unread}
use Rattle.text_rules.proofs.gap.push_between.Goals as goal

-- what the rule doesn't read has nothing that it reports
pub returns-else-may_mark-clause-found : goal.returns-else-may_mark-clause-found
returns-else-may_mark-clause-found c =
    unread c.args.look.rule c.args.from (chars (piece c.args.look.source.now c.args.from c.args.to)) c.args.out.now.items
    (sym (c.may_mark.ensures ∙ ap (λ t. may_mark c.args.look.rule (chars t)) c.piece-text.ensures.value) ∙ c.if-may_mark.false)
