use Rattle.std.proofs.Common.{refl, ◌∙◌}
use Rattle.tree.specs.Node.{node_tree}
use Rattle.early_errors.proofs.MemberKeys.{plain_key, quoted_key}
use Rattle.early_errors.proofs.classes.key_is.Goals as goal

pub returns-then-not-is_quoted : goal.returns-then-not-is_quoted
returns-then-not-is_quoted c = c.eq.ensures ∙ plain_key (node_tree c.args.key) c.text.result.now c.args.word.now c.is_quoted.result c.is_quoted.ensures c.if-not-is_quoted.true c.text.ensures

pub returns : goal.returns
returns c = c.string_is.ensures ∙ quoted_key (node_tree c.args.key) _ c.text-2.result.now c.args.word.now c.is_quoted.result c.is_quoted.ensures c.if-not-is_quoted.false c.text-2.ensures refl
