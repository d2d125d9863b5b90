use Rattle.std.proofs.Common.{◌∙◌, sym, ap, arith}
use Rattle.std.specs.Prelude.{option_map}
use Rattle.tree.specs.Node.{node_tree}
use Rattle.tree.specs.Tree.{parts_of}
use Rattle.language.specs.Vocabulary.{is_identifier}
use Rattle.printer.proofs.Arrows.{same_as_identifier, single_by_kind}
use Rattle.printer.proofs.definitions.is_single.Goals as goal

pub returns-in-Some-Some : goal.returns-in-Some-Some
returns-in-Some-Some c =
    let ps = parts_of (node_tree c.args.node) in
    c.eq.ensures ∙ same_as_identifier c.kind.result ∙ ap is_identifier c.kind.ensures ∙ sym (single_by_kind ps (node_tree c.in-Some-Some.part) (node_tree c.in-Some-Some.field-0-1) (omega (arith, c.part_count.ensures, c.if-part_count-ne2.false)) (sym c.part.ensures ∙ ap (option_map node_tree) c.in-Some-Some.is-0) (sym c.part-2.ensures ∙ ap (option_map node_tree) c.in-Some-Some.is-1))
