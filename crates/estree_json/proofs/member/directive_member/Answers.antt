use Rattle.std.proofs.Common.{◌≡◌, true, codes, Some, sym, ap, ◌∙◌}
use Rattle.serde_json.specs.Data.{string}
use Rattle.tree.specs.Node.{node_tree}
use Rattle.tree.specs.Tree.{flags_of}
use Rattle.estree_json.specs.Texts.{unquoted}
use Rattle.estree_json.specs.Fields.{directive}
use Rattle.estree_json.specs.Json.{label_of}
use Rattle.estree_json.proofs.Steps.{is_set}
use Rattle.estree_json.proofs.Sent.{option_as, directive_some}
use Rattle.estree_json.proofs.member.directive_member.Goals as goal

pub returns : goal.returns
returns g c =
    let l = label_of (node_tree c.args.node) in
    let log = g.S.Serializer.written in
    let flag : (flags_of (node_tree c.args.node)).directive ≡ true = sym (ap (λ f. f.directive) c.flags.ensures) ∙ is_set _ c.if-not-flags.false in
    let said : Some (string c.unquoted.result.now) ≡ directive l = ap (λ w. Some (string w)) (c.unquoted.ensures ∙ ap unquoted c.first_text.ensures) ∙ directive_some l flag in
    option_as c.text_member.result (codes "directive") (Some (string c.unquoted.result.now)) (directive l) (log c.args.out.now) (log c.text_member.new.out) said c.text_member.ensures
