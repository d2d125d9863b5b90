use Rattle.estree_json.proofs.Sent.{regex_sent}
use Rattle.estree_json.proofs.member.regex_object.Goals as goal

pub returns : goal.returns
returns g c =
    let log = g.S.Serializer.written in
    regex_sent c.end_object.result c.args.rest.now c.regex_parts.result.0.now c.regex_parts.result.1.now (log c.args.out.now) (log c.serialize_key.new.out) (log c.begin_object.new.out) (log c.text_member.new.out) (log c.text_member-2.new.out) (log c.end_object.new.out)
    c.regex_parts.ensures.pattern c.regex_parts.ensures.flags c.in_ok-serialize_key.ensures c.in_ok-begin_object.ensures c.in_ok-text_member.ensures c.in_ok-text_member-2.ensures c.end_object.ensures
