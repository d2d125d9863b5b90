use Rattle.std.proofs.Common.{◌≡◌, ◌+◌, ◌-◌, arith, ap, ◌∙◌}
use Rattle.tree.specs.Node.{node_tree}
use Rattle.tree.specs.Tree.{parts_of}
use Rattle.tree.proofs.PartWalk.{parts_drop}
use Rattle.early_errors.specs.ExportsRead.{first_parts}
use Rattle.early_errors.specs.Modules.{lone_parts}
use Rattle.early_errors.specs.Walk.{after}
use Rattle.early_errors.proofs.Exports.{lone_of, lone-given, lone-missing, lone-end}
use Rattle.early_errors.proofs.modules.lone_surrogates.Goals as goal
use Rattle.early_errors.proofs.modules.lone_surrogates.Goals.{in-Some+in_ok-is_lone, in_default}

pub loop-index-init : goal.loop-index-init
loop-index-init c = let whole : c.args.count - 0 ≡ c.args.count = omega arith in ap (λ k. after c.args.found (lone_of (lone_parts (first_parts k (parts_of (node_tree c.args.node)))))) whole

pub loop-index-preserved : goal.loop-index-preserved
loop-index-preserved c =
    let ps = parts_of (node_tree c.args.node) in
    let i = c.loop-index.index in
    let n = c.args.count in
    let so = c.loop-index.invariant in
    elim c.match-part.branch [
      | in-Some+in_ok-is_lone w ↦
          ap (λ q. after q (lone_of (lone_parts (first_parts (n - (i + 1)) (parts_drop (i + 1) ps))))) w.found-is
          ∙ lone-given ps i n (node_tree w.in-Some.name) w.in_ok-is_lone.is_lone w.span.result.start c.loop-index.found w.with_error_if-found.result _ c.loop-index-test.true w.in-Some.ensures w.in_ok-is_lone.ensures w.span.ensures.starts
          w.with_error_if-found.ensures so
      | in_default w ↦
          ap (λ q. after q (lone_of (lone_parts (first_parts (n - (i + 1)) (parts_drop (i + 1) ps))))) w.found-is ∙ lone-missing ps i n c.loop-index.found _ c.loop-index-test.true w.in_default.ensures so
    ]

pub returns : goal.returns
returns c = lone-end (parts_of (node_tree c.args.node)) c.loop-index.index c.args.count c.loop-index.found _ c.loop-index-test.false c.loop-index.invariant
