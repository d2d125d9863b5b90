use Rattle.std.proofs.Common.{◌≡◌, ◌++◌, [], ◌∷◌, true, sym, ap, ◌∙◌}
use Rattle.std.specs.Prelude.{cond}
use Rattle.rule_words.proofs.Results.{on_ok}
use Rattle.tree.specs.Node.{node_tree}
use Rattle.tree.specs.Tree.{start_of, stop_of}
use Rattle.name_tables.specs.Sets.{contains}
use Rattle.native_prototypes.specs.Found.{called, extended_by, is_native, says}
use Rattle.native_prototypes.proofs.walk.push_of_node.Goals as goal

pub returns-clause-found : goal.returns-clause-found
returns-clause-found c =
    let out = c.args.out.now.items in
    let tree = node_tree c.args.node in
    let native = is_native c.args.is_2022 (contains c.args.bound.now) in
    let yes : native (extended_by tree) ≡ true = ap native (sym c.extended_by.ensures) ∙ sym c.is_native.ensures ∙ c.if-not-is_native.false in
    on_ok c.push_fixed_report.result
    (λ h.
    h ∙ ap (λ at. out ++ record { start = at; stop = c.span.result.end; rule = called; text = says } ∷ []) c.span.ensures.starts
    ∙ ap (λ at. out ++ record { start = start_of tree; stop = at; rule = called; text = says } ∷ []) c.span.ensures.ends
    ∙ ap (λ b. out ++ cond b (record { start = start_of tree; stop = stop_of tree; rule = called; text = says } ∷ []) []) (sym yes))
    c.push_fixed_report.ensures.found
