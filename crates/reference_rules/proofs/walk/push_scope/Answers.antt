use Rattle.std.proofs.Common.{◌++◌, ap, ◌∙◌, append_assoc}
use Rattle.scopes.specs.Shown.{all_shown}
use Rattle.rule_words.proofs.Results.{on_ok}
use Rattle.reference_rules.specs.declared.reference_rule.Standing.TheVariants.{Again}
use Rattle.reference_rules.specs.Found.{over_declarations}
use Rattle.reference_rules.proofs.Passes.{grown}
use Rattle.reference_rules.proofs.walk.push_scope.Goals as goal

pub returns-clause-found : goal.returns-clause-found
returns-clause-found c =
    let p = c.args.pass.profile in
    let rules = c.args.pass.rules.now in
    on_ok c.push_declarations-2.result
    (λ h. h ∙ ap (λ l. l ++ over_declarations p rules Again (all_shown c.args.redeclared.now)) c.in_ok-push_declarations.ensures.found
    ∙ append_assoc c.args.out.now.items (over_declarations p rules c.args.standing (all_shown c.args.bindings.now)) (over_declarations p rules Again (all_shown c.args.redeclared.now)))
    c.push_declarations-2.ensures.found

pub returns-clause-kept : goal.returns-clause-kept
returns-clause-kept c = grown c.args.out.now.items c.push_declarations.new.out.items c.push_declarations-2.new.out.items c.in_ok-push_declarations.ensures.kept c.push_declarations-2.ensures.kept
