use Rattle.rules.specs.RuleViews.{seen}
use Rattle.rule_words.proofs.Results.{on_ok}
use Rattle.rules.proofs.InGroups.{appended-groups}
use Rattle.rules.proofs.run.gather_named.Goals as goal

pub returns : goal.returns
returns c =
    on_ok c.push_alone.result
    (appended-groups c.args.names.now (seen c.args.view.now) c.args.out.now.items c.push_group.new.out.items c.push_group-2.new.out.items c.push_group-3.new.out.items c.push_group-4.new.out.items c.push_group-5.new.out.items c.push_group-6.new.out.items c.push_group-7.new.out.items c.push_alone.new.out.items
    c.in_ok-push_group.ensures c.in_ok-push_group-2.ensures c.in_ok-push_group-3.ensures c.in_ok-push_group-4.ensures c.in_ok-push_group-5.ensures c.in_ok-push_group-6.ensures c.in_ok-push_group-7.ensures)
    c.push_alone.ensures
