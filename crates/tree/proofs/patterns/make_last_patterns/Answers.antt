use Rattle.std.proofs.Common.{◌≡◌, ◌-◌, length, take, drop, sym, ap, ◌∙◌, refl, subst, arith}
use Rattle.std.proofs.lemmas.List.{take_rest}
use Rattle.tree.specs.declared.flat_builder.FlatBuilder.{FlatBuilder}
use Rattle.tree.specs.Flat.{AreBefore}
use Rattle.tree.specs.Repatterned.{MakesPatterns}
use Rattle.tree.proofs.FlatTrees.{Pool, AreBefore-drop, AreBefore-take}
use Rattle.tree.proofs.PatternNodes.{last_made}
use Rattle.tree.proofs.patterns.make_last_patterns.Goals as goal

pub make_patterns-requires-clause-before : goal.make_patterns-requires-clause-before
make_patterns-requires-clause-before c =
    let os = c.deref.result.now in
    let kept = c.saturating_sub-kept.result in
    let n = length c.args.building.now.nodes.items in
    AreBefore-take n (length os - kept) (drop kept os) (AreBefore-drop n kept os (subst (λ (us : Pool). AreBefore n us) (sym c.deref.ensures.value) c.requires.waiting))

pub returns : goal.returns
returns c = λ w h.
    let a = c.args.building.now in
    let b : FlatBuilder = record { nodes = c.make_patterns.new.nodes; parts = a.parts; waiting = a.waiting } in
    let os = c.deref.result.now in
    let kept = c.saturating_sub-kept.result in
    let run = take (length os - kept) (drop kept os) in
    let at : kept ≡ length a.waiting.items - c.args.count = omega (arith, c.saturating_sub-kept.ensures, c.len.ensures, a.waiting.ok.0) in
    let is : run ≡ drop (length a.waiting.items - c.args.count) a.waiting.items =
    take_rest os kept ∙ ap (drop kept) c.deref.ensures.value ∙ ap (λ n. drop n a.waiting.items) at in
    last_made a b c.args.count run w h is refl refl c.make_patterns.ensures.shape
    (subst (λ (pool : Pool). MakesPatterns pool a.nodes.items b.nodes.items run 0) c.deref-2.ensures.value c.make_patterns.ensures.made)
