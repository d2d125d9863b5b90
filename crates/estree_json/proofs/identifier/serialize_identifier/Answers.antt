use Rattle.tree.specs.Node.{node_tree}
use Rattle.estree_json.proofs.Identifiers.{identifier_sent}
use Rattle.estree_json.proofs.identifier.serialize_identifier.Goals as goal

pub returns : goal.returns
returns g c = λ b.
    let log = g.S.Serializer.written in
    identifier_sent c.end_object.result b (node_tree c.args.node) c.text.result.now c.span-span.result.start c.span-span.result.end (log c.args.out.now) (log c.begin_object.new.out) (log c.end_member.new.out) (log c.text_member.new.out) (log c.start_member.new.out) (log c.type_member.new.out) (log c.end_object.new.out)
    c.requires c.text.ensures c.span-span.ensures.starts c.span-span.ensures.ends c.in_ok-begin_object.ensures c.in_ok-end_member.ensures c.in_ok-text_member.ensures c.in_ok-start_member.ensures c.in_ok-type_member.ensures c.end_object.ensures
