use Rattle.std.proofs.Common.{◌<◌, ◌≤◌, [], cond, subst, sym, ap, ◌∙◌}
use Rattle.tree.specs.Node.{node_tree}
use Rattle.tree.specs.Tree.{parts_of, part_at, part_count}
use Rattle.name_tables.specs.BoundNames.{each_part}
use Rattle.name_tables.specs.Keys.{identifier_name, may_declare, read_names}
use Rattle.name_tables.proofs.DeclarableNames.{part-turn, part-end}
use Rattle.name_tables.proofs.key.add_declarable_names.Goals as goal

pub loop-index-preserved : goal.loop-index-preserved
loop-index-preserved c =
    let ps = parts_of (node_tree c.args.node) in
    let i = c.loop-index.index in
    part-turn ps i c.loop-index.builder.hasher _ c.loop-index.invariant _ c.add_name.new.builder.hasher
    (subst (λ k. i < k) (c.len-index-end.ensures ∙ ap part_count c.parts-parts.ensures) c.loop-index-test.true) (c.get.ensures ∙ ap (λ q. part_at q i) c.parts-parts.ensures) c.add_name.ensures

pub returns : goal.returns
returns c =
    let t = node_tree c.args.node in
    let i = c.loop-index.index in
    let declares = sym (c.may_declare.ensures ∙ ap may_declare c.kind.ensures) ∙ c.if-not-may_declare.false in
    part-end (parts_of t) i c.loop-index.builder.hasher _ c.loop-index.invariant (subst (λ k. k ≤ i) (c.len-index-end.ensures ∙ ap part_count c.parts-parts.ensures) c.loop-index-test.false)
    ∙ ap (λ b. read_names c.args.builder.now.hasher (cond b (each_part identifier_name (parts_of t)) [])) (sym declares)
