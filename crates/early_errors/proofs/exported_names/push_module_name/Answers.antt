use Rattle.std.proofs.Common.{◌++◌, [], ◌∷◌, option_map, sym, ap, ◌∙◌}
use Rattle.std.proofs.lemmas.List.{map-append}
use Rattle.tree.specs.Node.{node_tree}
use Rattle.early_errors.specs.ExportsRead.{all_exported, exported_shown, module_names_at}
use Rattle.name_tables.proofs.Results.{on_ok}
use Rattle.early_errors.proofs.Exports.{quoted_name, word_name}
use Rattle.early_errors.proofs.exported_names.push_module_name.Goals as goal

pub returns-then-not-is_quoted : goal.returns-then-not-is_quoted
returns-then-not-is_quoted c =
    let old = all_exported c.args.names.now.items in
    on_ok c.push_name.result
    (λ h. h ∙ ap (λ l. old ++ l) (word_name (node_tree c.in-Some.name) c.is_quoted.result c.text.result.now c.span-start.result.start c.is_quoted.ensures c.if-not-is_quoted.true c.text.ensures c.span-start.ensures.starts)
    ∙ ap (λ o. old ++ module_names_at (option_map node_tree o)) (sym c.in-Some.is))
    c.push_name.ensures

pub returns : goal.returns
returns c =
    let old = c.args.names.now.items in
    ap all_exported c.in_ok-push.ensures.items ∙ map-append exported_shown old (_ ∷ [])
    ∙ ap (λ l. all_exported old ++ l) (quoted_name (node_tree c.in-Some.name) c.is_quoted.result c.text-2.result.now c.in_ok-units.units.items c.span-start.result.start c.is_quoted.ensures c.if-not-is_quoted.false c.text-2.ensures c.in_ok-units.ensures c.span-start.ensures.starts)
    ∙ ap (λ o. all_exported old ++ module_names_at (option_map node_tree o)) (sym c.in-Some.is)
