use Rattle.std.proofs.Common.{Some, ap}
use Rattle.serde_json.specs.View.{members_view}
use Rattle.serde_json.proofs.Views.{view-Object}
use Rattle.estree_json.proofs.Steps.{template_made}
use Rattle.estree_json.proofs.values.template_value.Goals as goal

pub returns : goal.returns
returns c =
    ap Some (template_made c.args.raw.now _ _ _ _ _ (ap members_view c.new-members.ensures.empty) c.in_ok-put_primitive.ensures c.in_ok-put_text.ensures (view-Object c.put_text.new.members) c.in_ok-cooked.ensures)
