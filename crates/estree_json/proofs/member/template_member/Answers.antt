use Rattle.estree_json.proofs.Sent.{template_sent}
use Rattle.estree_json.proofs.member.template_member.Goals as goal

pub returns : goal.returns
returns g c =
    let log = g.S.Serializer.written in
    template_sent c.end_object.result c.args.raw.now _ (log c.args.out.now) (log c.serialize_key.new.out) (log c.begin_object.new.out) (log c.primitive_member.new.out) (log c.text_member.new.out) (log c.end_object.new.out)
    c.in_ok-cooked.ensures c.in_ok-serialize_key.ensures c.in_ok-begin_object.ensures c.in_ok-primitive_member.ensures c.in_ok-text_member.ensures c.end_object.ensures
