use Rattle.std.proofs.Common.{◌++◌, List, map, ap, ◌∙◌}
use Rattle.tree.specs.Node.{node_tree}
use Rattle.tree.specs.Tree.{start_of}
use Rattle.name_tables.specs.BoundNames.{bound_names}
use Rattle.name_tables.specs.PatternParts.{Bound}
use Rattle.name_tables.specs.declared.bound.BoundName.{BoundName}
use Rattle.name_tables.proofs.Retold.{retold}
use Rattle.rule_words.proofs.Results.{on_ok}
use Rattle.rules.proofs.left_alone.push_bound.Goals as goal

pub returns : goal.returns
returns c =
    let tree = node_tree c.args.pattern in
    let told = retold (λ (b : Bound Unit). b.start) tt c.push_names.new.names.items c.new-names.result.items tree c.in_ok-push_names.ensures in
    let old = c.args.starts.now.items in
    on_ok c.push_all_places.result
    (λ e. e ∙ ap (λ (ns : List (BoundName Unit)). old ++ map (λ n. n.start) ns) c.deref.ensures.value
    ∙ ap (λ ys. old ++ ys) (told ∙ ap (λ (ns : List (BoundName Unit)). map (λ n. n.start) ns ++ bound_names start_of tree) c.new-names.ensures.items))
    c.push_all_places.ensures
