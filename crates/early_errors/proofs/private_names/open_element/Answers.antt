use Rattle.std.proofs.Common.{Some, option_map, refl}
use Rattle.tree.specs.Node.{node_tree}
use Rattle.early_errors.specs.PrivateUses.{undone_privates}
use Rattle.early_errors.specs.Walk.{look}
use Rattle.name_tables.proofs.Undone.{kept-turn}
use Rattle.early_errors.proofs.Privates.{kept_out, let_in}
use Rattle.early_errors.proofs.private_names.open_element.Goals as goal

pub returns-in_default-clause-entered : goal.returns-in_default-clause-entered
returns-in_default-clause-entered c = kept_out (option_map node_tree c.args.element) (look c.args.privates.now) c.in_default.ensures

pub returns-clause-entered : goal.returns-clause-entered
returns-clause-entered c =
    let_in (option_map node_tree c.args.element) (node_tree c.in-Some.key) c.text-name.result.now (look c.args.privates.now) (look c.replace.new.self) c.in-Some.ensures c.text-name.ensures c.in_ok-value.ensures.after

pub returns-clause-kept : goal.returns-clause-kept
returns-clause-kept c =
    kept-turn (λ x. x.name.now) (λ x. x.value) (undone_privates (look c.args.privates.now) c.args.saved.now.items) (look c.args.privates.now) (look c.replace.new.self) _ c.args.saved.now.items c.push.new.self.items (Some tt) c.in_ok-push.ensures.items
    c.in_ok-value.ensures.before c.in_ok-value.ensures.after (λ w. refl)
