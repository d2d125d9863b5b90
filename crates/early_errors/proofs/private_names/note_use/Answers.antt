use Rattle.std.proofs.Common.{Some, option_map, sym, ap, ◌∙◌}
use Rattle.tree.specs.Node.{node_tree}
use Rattle.name_tables.specs.Tables.{with_value}
use Rattle.early_errors.specs.PrivateUses.{joined_use}
use Rattle.early_errors.specs.Walk.{look}
use Rattle.early_errors.proofs.Privates.{noted_key}
use Rattle.early_errors.proofs.private_names.note_use.Goals as goal

pub returns : goal.returns
returns c = λ w.
    let f = look c.args.uses.now in
    let k = node_tree c.in-Some.key in
    c.in_ok-replace.ensures.after w
    ∙ (λ i. with_value f (c.text-name.ensures i) (Some ((c.joined_use-joined.ensures ∙ (λ j. joined_use ((c.value.ensures ∙ ap f c.text-name.ensures) j) (c.use_at.ensures j))) i)) w)
    ∙ sym (ap (λ g. g w) (noted_key f (option_map node_tree c.args.element) k c.in-Some.ensures))
