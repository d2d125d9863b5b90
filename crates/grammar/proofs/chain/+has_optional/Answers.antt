use Rattle.std.proofs.Common.{◌≡◌, ◌∙◌, sym, ap, true, false, option_map, rules}
use Rattle.tree.specs.Node.{node_tree}
use Rattle.tree.specs.Tree.{kind_of, flags_of}
use Rattle.language.specs.Expressions.{is_chain_part, has_optional}
use Rattle.grammar.specs.Chains.{part_has_optional}
use Rattle.grammar.proofs.ChainParts.{chained_below}
use Rattle.grammar.proofs.chain.+has_optional.Goals as goal

pub returns : goal.returns
returns t c =
    let n = node_tree c.in-Some.node in
    let whole : part_has_optional (option_map node_tree c.args.part) ≡ has_optional n = ap (λ o. part_has_optional (option_map node_tree o)) c.in-Some.is in
    let link : is_chain_part (kind_of n) ≡ true = sym (c.is_chain_part.ensures ∙ ap is_chain_part c.kind.ensures) ∙ c.if-not-is_chain_part.false in
    let joined : (flags_of n).optional ≡ false = sym (ap (λ g. g.optional) c.flags.ensures) ∙ c.if-flags.false in
    c.has_optional.ensures ∙ chained_below n _ link joined c.part.ensures ∙ sym whole

pub returns-then-flags : goal.returns-then-flags
returns-then-flags t c = search rules
