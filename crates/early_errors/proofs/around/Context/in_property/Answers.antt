use Rattle.std.proofs.Common.{false, cond, sym, ap, ◌∙◌}
use Rattle.early_errors.specs.Around.{in_method, is_method, within}
use Rattle.early_errors.specs.Owns.{round, unlabelled}
use Rattle.early_errors.proofs.around.Context.in_property.Goals as goal

pub returns-then-is_method-clause-around : goal.returns-then-is_method-clause-around
returns-then-is_method-clause-around c = λ r g ps f.
    let m = ap is_method f ∙ sym c.is_method.ensures ∙ c.if-is_method.true in
    (λ i. round c.in_method.result (cond (m i) (unlabelled r) r)) ∙ c.in_method.ensures.around r c.args.self ∙ sym (λ i. cond (m i) (in_method (round c.args.self r) false) (within (round c.args.self r)))

pub returns-else-is_method-clause-around : goal.returns-else-is_method-clause-around
returns-else-is_method-clause-around c = λ r g ps f.
    let m = ap is_method f ∙ sym c.is_method.ensures ∙ c.if-is_method.false in
    (λ i. round c.within.result (cond (m i) (unlabelled r) r)) ∙ c.within.ensures.around r ∙ sym (λ i. cond (m i) (in_method (round c.args.self r) false) (within (round c.args.self r)))
