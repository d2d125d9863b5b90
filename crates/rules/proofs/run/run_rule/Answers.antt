use Rattle.std.proofs.Common.{◌++◌, sym, subst, IsPermutation}
use Rattle.rules.specs.NodeRules.{found_on_nodes}
use Rattle.rules.specs.Rules.{on_nodes}
use Rattle.rules.specs.RuleViews.{seen}
use Rattle.rule_words.proofs.Results.{on_ok}
use Rattle.rules.proofs.Together.{is-on, joins, after-joining, after-running}
use Rattle.rules.proofs.run.run_rule.Goals as goal

pub returns : goal.returns
returns g c = on_ok c.run_alone.result (after-running c.args.out.now.items (found_on_nodes c.args.together.now.items (seen c.args.view.now)) c.run_alone.new.out.items _) c.run_alone.ensures

pub returns-in-Some : goal.returns-in-Some
returns-in-Some g c =
    let v = seen c.args.view.now in
    after-joining c.args.out.now.items (found_on_nodes c.args.together.now.items v) (found_on_nodes c.push.new.self.items v) _ (on_nodes c.in-Some.joining v) (is-on _ _ _ c.in-Some.ensures.on (c.in-Some.ensures.finds v))
    (subst (λ rs. IsPermutation (found_on_nodes c.args.together.now.items v ++ on_nodes c.in-Some.joining v) (found_on_nodes rs v)) (sym c.in_ok-push.ensures.items) (joins c.args.together.now.items c.in-Some.joining v))
