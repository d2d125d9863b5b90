use Rattle.std.proofs.Common.{ℕ, List, ◌++◌, true, is_some, ap, ◌∙◌}
use Rattle.std.specs.Prelude.{◌||◌}
use Rattle.tree.specs.Node.{node_tree}
use Rattle.tree.specs.Tree.{parts_of}
use Rattle.name_tables.specs.BoundNames.{each_part}
use Rattle.early_errors.specs.Names.{has_name, lexical_names, var_names}
use Rattle.early_errors.specs.Walk.{after, all_named, look}
use Rattle.early_errors.proofs.Exports.{or_none, undeclared_found}
use Rattle.early_errors.proofs.modules.undeclared_exports.Goals as goal

pub returns : goal.returns
returns c =
    let ps = parts_of (node_tree c.args.program) in
    let names =
    ap all_named c.as_slice.ensures.value ∙ c.in_ok-push_vars.ensures ∙ ap (λ l. l ++ var_names (node_tree c.args.program)) (c.in_ok-push_lexical_parts.ensures ∙ ap (λ l. all_named l ++ each_part (lexical_names true) ps) c.requires.declared)
    in
    let known = λ (w : List ℕ). c.in_ok-note_names.ensures w ∙ ap (λ o. has_name w (all_named c.as_slice.result.now) || is_some o) (c.requires.there w) ∙ or_none (has_name w (all_named c.as_slice.result.now)) in
    c.undeclared_items.ensures ∙ ap (after c.args.found) (undeclared_found (look c.note_names.new.there) (node_tree c.args.program) (all_named c.as_slice.result.now) c.requires.kind known names)
