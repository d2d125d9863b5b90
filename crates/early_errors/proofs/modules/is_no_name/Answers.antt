use Rattle.std.proofs.Common.{ap, ◌∙◌}
use Rattle.tree.specs.Node.{node_tree}
use Rattle.language.specs.Vocabulary.{is_identifier}
use Rattle.early_errors.proofs.Exports.{other_local, word_local}
use Rattle.early_errors.proofs.modules.is_no_name.Goals as goal

pub returns-then-not-is_identifier : goal.returns-then-not-is_identifier
returns-then-not-is_identifier c = other_local (node_tree c.args.local) c.is_identifier.result (c.is_identifier.ensures ∙ ap is_identifier c.kind.ensures) c.if-not-is_identifier.true

pub returns : goal.returns
returns c =
    word_local (node_tree c.args.local) c.is_identifier.result c.is_reserved.result c.eq.result c.either.result c.text.result.now c.text-2.result.now (c.is_identifier.ensures ∙ ap is_identifier c.kind.ensures) c.if-not-is_identifier.false
    c.text.ensures c.is_reserved.ensures c.text-2.ensures c.eq.ensures c.either.ensures
