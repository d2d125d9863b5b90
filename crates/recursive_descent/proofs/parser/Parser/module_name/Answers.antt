use Rattle.tokens.specs.Scanned.{token_of}
use Rattle.recursive_descent.proofs.reading.WaitingNodes.{waits_behind}
use Rattle.recursive_descent.proofs.complete_modules.NamesGiven.{name_answered, name_derived, name_unread}
use Rattle.recursive_descent.proofs.parser.Parser.module_name.Goals as goal

pub returns-in_err-token-clause-complete : goal.returns-in_err-token-clause-complete
returns-in_err-token-clause-complete c = name_unread c.args.self.now.cursor c.module_name_token.new.self.cursor c.args.high _ c.in_err-token.ensures.missed

pub returns-clause-derived : goal.returns-clause-derived
returns-clause-derived c = name_derived c.args.self.now.cursor c.module_name_token.new.self.cursor c.args.high (token_of c.in_ok-token.token) _ c.in_ok-token.ensures.accepted.0 c.in_ok-token.ensures.accepted.1 c.module_name_node.ensures.made

pub returns-clause-complete : goal.returns-clause-complete
returns-clause-complete c = name_answered c.args.self.now.cursor c.module_name_token.new.self.cursor c.args.high (token_of c.in_ok-token.token) _ c.in_ok-token.ensures.accepted.0 c.in_ok-token.ensures.accepted.1 c.module_name_node.ensures.made

pub returns-clause-waits : goal.returns-clause-waits
returns-clause-waits c = waits_behind _ (λ n. n) c.module_name_node.result c.module_name_token.ensures.same_tree c.module_name_node.ensures.waits
