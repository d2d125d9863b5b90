use Rattle.std.proofs.Common.{◌≡◌, ◌++◌, true, refl, sym, ap, option_map, subst}
use Rattle.std.specs.Prelude.{OnOk}
use Rattle.scopes.specs.Found.{Found}
use Rattle.rules.specs.RuleViews.{found_or_nothing}
use Rattle.rules.specs.Rules.{is_used, of_const, of_scopes}
use Rattle.rules.specs.Used.{is_in}
use Rattle.rules.proofs.prefer_const.PreferConstRule.check.Goals as goal

pub returns-clause-found : goal.returns-clause-found
returns-clause-found c =
    subst (λ (f : Found). OnOk c.push_by_use.result (c.push_by_use.new.out.items ≡ c.args.out.now.items ++ of_scopes (λ m b bs. of_const (is_used true f.references) m b) 0 f.scopes))
    (sym (ap (λ o. found_or_nothing (option_map (λ s. s.now) o)) c.in-Some.is)) (c.push_by_use.ensures.found (is_in c.new.result.keys) (λ at. refl))
