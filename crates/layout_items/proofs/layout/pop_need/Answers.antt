use Rattle.std.proofs.Common.{◌≡◌, true, false, None, length, sym, ◌∙◌, arith}
use Rattle.layout_items.specs.Items.{is_start}
use Rattle.layout_items.proofs.GroupNeeds.{needs_started, needs_of-other}
use Rattle.layout_items.proofs.layout.pop_need.Goals as goal

pub returns-then-is_group_start : goal.returns-then-is_group_start
returns-then-is_group_start c is h =
    let v = c.args.needs.now in
    let start : is_start c.args.item ≡ true = sym c.is_group_start.ensures ∙ c.if-is_group_start.true in
    let none : c.pop.result ≡ None → length v.items ≡ 0 = λ n. omega (arith, (rw n at c.pop.ensures.cases).0, v.ok.0) in
    let p = needs_started c.args.item is v.items c.pop.new.self.items c.pop.result _ c.pop.ensures.items none start h in
    (p.0, λ s. c.unwrap_or.ensures ∙ p.1)

pub returns : goal.returns
returns c is h =
    let other : is_start c.args.item ≡ false = sym c.is_group_start.ensures ∙ c.if-is_group_start.false in
    (needs_of-other c.args.item is c.args.needs.now.items other h, λ s. cc)
