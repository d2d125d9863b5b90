use Rattle.std.proofs.Common.{Some, sym, ap, ◌∙◌}
use Rattle.rules.proofs.Lists.{set-turn}
use Rattle.rules.proofs.settings_from_toml.set.Goals as goal

pub loop-value-preserved : goal.loop-value-preserved
loop-value-preserved c =
    set-turn c.args.values.now c.loop-value.value-index c.value-item.result c.loop-value.set.keys c.insert.new.self.keys c.in_ok-string.string _ c.loop-value-test.true c.value-item.is (sym c.in-Some.ensures ∙ ap Some (sym c.in_ok-string.ensures.ok))
    c.in_ok-insert.ensures.keys c.loop-value.invariant
