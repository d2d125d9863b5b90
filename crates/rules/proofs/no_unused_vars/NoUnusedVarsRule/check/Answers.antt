use Rattle.std.proofs.Common.{◌≡◌, ◌++◌, false, sym, ap, ◌∙◌, option_map, subst}
use Rattle.std.specs.Prelude.{OnOk}
use Rattle.scopes.specs.Found.{Found}
use Rattle.rules.specs.LeftAlone.{is_left_alone}
use Rattle.rules.specs.RuleViews.{found_or_nothing}
use Rattle.rules.specs.Rules.{is_used, of_scopes, of_unused}
use Rattle.rules.proofs.no_unused_vars.NoUnusedVarsRule.check.Goals as goal

pub returns-clause-found : goal.returns-clause-found
returns-clause-found c =
    let settings = c.args.view.now.settings.now in
    let tree = c.args.view.now.program.now in
    let alone = is_left_alone settings.options tree in
    subst (λ (f : Found). OnOk c.push_by_use.result (c.push_by_use.new.out.items ≡ c.args.out.now.items ++ of_scopes (of_unused settings alone (is_used false f.references)) 0 f.scopes))
    (sym (ap (λ o. found_or_nothing (option_map (λ s. s.now) o)) c.in-Some.is))
    (c.push_by_use.ensures.found alone (λ at. c.in_ok-left_alone.ensures at ∙ ap (λ o. is_left_alone o tree at) c.options.ensures))
