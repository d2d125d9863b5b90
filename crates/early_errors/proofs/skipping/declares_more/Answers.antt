use Rattle.std.proofs.Common.{◌≤◌, subst, sym, ap, ◌∙◌}
use Rattle.tree.specs.Node.{node_tree}
use Rattle.language.specs.Vocabulary.{is}
use Rattle.early_errors.proofs.DeclarationKinds.{declaration_given}
use Rattle.early_errors.proofs.skipping.declares_more.Goals as goal

pub returns-in-Some : goal.returns-in-Some
returns-in-Some c =
    declaration_given (node_tree c.args.declaration) (node_tree c.in-Some.declarator) c.binds_more.result c.requires (ap (λ w. is w "var") (sym c.text.ensures) ∙ sym c.eq.ensures ∙ c.if-eq.false)
    (subst (λ n. n ≤ 1) c.part_count.ensures c.if-part_count-gt1.false) c.in-Some.ensures c.binds_more.ensures
