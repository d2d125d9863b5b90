use Rattle.recursive_descent.specs.declared.properties.PropertyName.{PropertyName}
use Rattle.recursive_descent.proofs.reading.WaitingNodes.{waits_behind}
use Rattle.recursive_descent.proofs.sound_properties.MemberWords.{key_owned}
use Rattle.recursive_descent.proofs.parser.Parser.plain_property_name.Goals as goal

pub returns-clause-own : goal.returns-clause-own
returns-clause-own c = key_owned c.args.self.now.cursor.text c.args.in_class c.in_ok-token.token c.if-in_class.is_constructor _ _ c.property_name_of.result c.in_ok-token.ensures.accepted.0 c.in_ok-token.ensures.accepted.2 c.property_name_of.ensures.made

pub returns-clause-waits : goal.returns-clause-waits
returns-clause-waits c = waits_behind _ (λ (k : PropertyName). k.node) c.property_name_of.result c.key_token.ensures.same_tree c.property_name_of.ensures.waits
