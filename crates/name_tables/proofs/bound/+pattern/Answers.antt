use Rattle.std.proofs.Common.{sym, ap, ◌∙◌, ◌++◌, ◌≤◌, ◌<◌, subst, append-nil}
use Rattle.tree.specs.Node.{node_tree}
use Rattle.tree.specs.Tree.{parts_of}
use Rattle.name_tables.specs.declared.bound.PatternNames.TheVariants.{Name, AllParts, FirstPart, LastPart, Nothing}
use Rattle.name_tables.specs.PatternParts.{all_bound, at_part, bound_as}
use Rattle.name_tables.specs.BoundNames.{bound_names}
use Rattle.name_tables.proofs.EachPart.{push-turn, push-end}
use Rattle.name_tables.proofs.Patterns.{names_given}
use Rattle.name_tables.proofs.Results.{on_ok}
use Rattle.name_tables.proofs.bound.+pattern.Goals as goal

pub push_all_names-loop-index-preserved : goal.push_all_names-loop-index-preserved
push_all_names-loop-index-preserved g t c =
    let ps = parts_of (node_tree c.args.node) in
    push-turn (bound_names (bound_as c.args.how)) ps c.loop-index.index _ (all_bound c.loop-index.names.items) (all_bound c.push_part_names.new.names.items) _
    (subst (λ n. c.loop-index.index < n) c.part_count-index-end.ensures c.loop-index-test.true) c.part.ensures c.in_ok-push_part_names.ensures c.loop-index.invariant

pub push_all_names-returns : goal.push_all_names-returns
push_all_names-returns g t c =
    let ps = parts_of (node_tree c.args.node) in
    push-end (bound_names (bound_as c.args.how)) ps c.loop-index.index (all_bound c.loop-index.names.items) _ (subst (λ n. n ≤ c.loop-index.index) c.part_count-index-end.ensures c.loop-index-test.false) c.loop-index.invariant

pub push_names-returns-in-Name : goal.push_names-returns-in-Name
push_names-returns-in-Name g t c =
    let e = names_given (bound_as c.args.how) (node_tree c.args.node) c.kind.result Name c.kind.ensures (sym c.in-Name.is ∙ c.pattern_names_of.ensures) in
    on_ok c.push_name.result (λ h. h ∙ ap (λ l. all_bound c.args.names.now.items ++ l) (sym e)) c.push_name.ensures

pub push_names-returns-in-AllParts : goal.push_names-returns-in-AllParts
push_names-returns-in-AllParts g t c =
    let e = names_given (bound_as c.args.how) (node_tree c.args.node) c.kind.result AllParts c.kind.ensures (sym c.in-AllParts.is ∙ c.pattern_names_of.ensures) in
    on_ok c.push_all_names.result (λ h. h ∙ ap (λ l. all_bound c.args.names.now.items ++ l) (sym e)) c.push_all_names.ensures

pub push_names-returns-in-FirstPart : goal.push_names-returns-in-FirstPart
push_names-returns-in-FirstPart g t c =
    let f = bound_names (bound_as c.args.how) in
    let old = all_bound c.args.names.now.items in
    let e = names_given (bound_as c.args.how) (node_tree c.args.node) c.kind.result FirstPart c.kind.ensures (sym c.in-FirstPart.is ∙ c.pattern_names_of.ensures) in
    on_ok c.push_part_names.result (λ h. h ∙ ap (λ o. old ++ at_part f o) c.part.ensures ∙ ap (λ l. old ++ l) (sym e)) c.push_part_names.ensures

pub push_names-returns-in-LastPart : goal.push_names-returns-in-LastPart
push_names-returns-in-LastPart g t c =
    let f = bound_names (bound_as c.args.how) in
    let old = all_bound c.args.names.now.items in
    let e = names_given (bound_as c.args.how) (node_tree c.args.node) c.kind.result LastPart c.kind.ensures (sym c.in-LastPart.is ∙ c.pattern_names_of.ensures) in
    on_ok c.push_part_names-in-LastPart.result (λ h. h ∙ ap (λ o. old ++ at_part f o) c.last_part.ensures ∙ ap (λ l. old ++ l) (sym e)) c.push_part_names-in-LastPart.ensures

pub push_names-returns-in-Nothing : goal.push_names-returns-in-Nothing
push_names-returns-in-Nothing g t c =
    let old = all_bound c.args.names.now.items in
    let e = names_given (bound_as c.args.how) (node_tree c.args.node) c.kind.result Nothing c.kind.ensures (sym c.in-Nothing.is ∙ c.pattern_names_of.ensures) in
    sym (append-nil old) ∙ ap (λ l. old ++ l) (sym e)
