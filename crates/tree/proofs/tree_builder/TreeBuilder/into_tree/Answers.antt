use Rattle.std.proofs.Common.{◌≡◌, ap, ◌∙◌, refl, arith, subst, Some}
use Rattle.tree.specs.Tree.{Tree, Parts, none, node, plain, part_count}
use Rattle.tree.specs.TooLarge.{AreTooLarge}
use Rattle.tree.specs.declared.build_error.BuildError.{BuildError}
use Rattle.tree.proofs.BuiltNodes.{built_tree, all_wait}
use Rattle.tree.proofs.TreesTooLarge.{made_too_large}
use Rattle.tree.proofs.tree_builder.TreeBuilder.into_tree.Goals as goal

pub returns-in-None-clause-built : goal.returns-in-None-clause-built
returns-in-None-clause-built c =
    let g = c.builder.inside.building in
    let t : Tree = node c.args.kind c.args.text.now plain c.args.span.start c.args.span.end c.args.self in
    let count : part_count c.args.self ≡ c.len-count.result =
    omega (arith, c.len-count.ensures, g.waiting.ok.0, all_wait g c.builder.inside.shown.parts (c.builder.invariant.nodes c.in_default.is), ap part_count c.builder.view_is) in
    built_tree c.builder-2.inside.building c.builder-2.inside.shown.parts t _ (c.builder-2.invariant.nodes c.in-None.is) (c.builder-2.view_is ∙ c.finish.ensures none c.args.self (cc) count) refl refl

pub returns-clause-refused : goal.returns-clause-refused
returns-clause-refused c = λ h.
    let g = c.builder.inside.building in
    let t : Tree = node c.args.kind c.args.text.now plain c.args.span.start c.args.span.end c.args.self in
    let count : part_count c.args.self ≡ c.len-count.result =
    omega (arith, c.len-count.ensures, g.waiting.ok.0, all_wait g c.builder.inside.shown.parts (c.builder.invariant.nodes c.in_default.is), ap part_count c.builder.view_is) in
    made_too_large t
    (subst (λ (u : Parts). AreTooLarge u) (c.builder-2.view_is ∙ c.finish.ensures none c.args.self (cc) count) (c.builder-2.invariant.too_large (c.in-Some-refused.is ∙ ap (λ (e : BuildError). Some e) h)))
