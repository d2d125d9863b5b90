use Rattle.std.proofs.Common.{ap}
use Rattle.serde_json.specs.View.{members_view}
use Rattle.serde_json.proofs.Views.{view-Object}
use Rattle.estree_json.proofs.Steps.{regex_made}
use Rattle.estree_json.proofs.values.regex_value.Goals as goal

pub returns : goal.returns
returns c =
    regex_made c.args.rest.now _ _ _ _ _ _ (ap members_view c.new-members.ensures.empty) c.in_ok-put_text.ensures c.in_ok-put_text-2.ensures (view-Object c.put_text-2.new.members) c.regex_parts.ensures.pattern c.regex_parts.ensures.flags
