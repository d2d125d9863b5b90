use Rattle.early_errors.specs.PrivateUses.{undone_privates}
use Rattle.early_errors.specs.Walk.{look}
use Rattle.name_tables.proofs.Undone.{leave-turn}
use Rattle.early_errors.proofs.private_names.close_class.Goals as goal

pub loop-last-preserved : goal.loop-last-preserved
loop-last-preserved c =
    leave-turn (λ x. x.name.now) (λ x. x.value) (undone_privates (look c.args.privates.now) c.args.saved.now.items) (look c.loop-last.privates) (look c.replace.new.self) c.in-Some.last c.loop-last.saved.items c.pop.new.self.items c.in-Some.ensures.items c.in_ok-replace.ensures.after c.loop-last.invariant
