use Rattle.std.proofs.Common.{◌≡◌, zero, suc, None, length, ◌∙◌, arith}
use Rattle.layout_items.specs.Passes.{all_flat, count}
use Rattle.layout_items.specs.Reach.{columns_to_break, first_line}
use Rattle.layout_items.proofs.GroupTails.{first_tail, more_tails}
use Rattle.layout_items.proofs.needs.Measures.pass_start.Goals as goal

pub returns-clause-tails : goal.returns-clause-tails
unfolding all_flat count columns_to_break first_line
returns-clause-tails c zero =
    let v = c.args.self.now.outer in
    let none : c.pop.result ≡ None → length v.items ≡ 0 = λ n. omega (arith, (rw n at c.pop.ensures.cases).0, v.ok.0) in
    c.unwrap_or-self.ensures ∙ (rw c.new.ensures (first_tail v.items c.pop.new.self.items c.pop.result c.pop.ensures.items none))
returns-clause-tails c (suc n) =
    let v = c.args.self.now.outer in
    let none : c.pop.result ≡ None → length v.items ≡ 0 = λ n. omega (arith, (rw n at c.pop.ensures.cases).0, v.ok.0) in
    more_tails v.items c.pop.new.self.items c.pop.result n c.pop.ensures.items none
