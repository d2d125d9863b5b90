use Rattle.std.proofs.Common.{sym, subst}
use Rattle.std.specs.Prelude.{IfOk}
use Rattle.tokens.specs.Scanned.{token_of}
use Rattle.recursive_descent.proofs.reading.WaitingNodes.{waits_behind}
use Rattle.recursive_descent.specs.ModuleItems.{SecondAt, SecondComplete}
use Rattle.recursive_descent.proofs.complete_modules.NamesGiven.{local_answered, local_derived, local_unread}
use Rattle.recursive_descent.proofs.parser.Parser.second_name.Goals as goal

pub returns-in_err-local-in-ImportSpecifier-clause-complete : goal.returns-in_err-local-in-ImportSpecifier-clause-complete
returns-in_err-local-in-ImportSpecifier-clause-complete c =
    subst (λ k. SecondComplete c.args.self.now.cursor c.identifier.new.self.cursor c.args.high k c.from_residual.result) (sym c.in-ImportSpecifier.is)
    (local_unread c.args.self.now.cursor c.identifier.new.self.cursor c.args.high c.from_residual.result c.in_err-local-in-ImportSpecifier.ensures.missed.0)

pub returns-in_ok-local-in-ImportSpecifier-clause-derived : goal.returns-in_ok-local-in-ImportSpecifier-clause-derived
returns-in_ok-local-in-ImportSpecifier-clause-derived c =
    subst (λ k. IfOk c.rare_token_node.result (SecondAt k c.args.self.now.cursor c.identifier.new.self.cursor)) (sym c.in-ImportSpecifier.is)
    (local_derived c.args.self.now.cursor c.identifier.new.self.cursor c.args.high (token_of c.in_ok-local-in-ImportSpecifier.local) c.rare_token_node.result c.in_ok-local-in-ImportSpecifier.ensures.accepted.0 c.in_ok-local-in-ImportSpecifier.ensures.accepted.1 c.rare_token_node.ensures.made)

pub returns-in_ok-local-in-ImportSpecifier-clause-complete : goal.returns-in_ok-local-in-ImportSpecifier-clause-complete
returns-in_ok-local-in-ImportSpecifier-clause-complete c =
    subst (λ k. SecondComplete c.args.self.now.cursor c.identifier.new.self.cursor c.args.high k c.rare_token_node.result) (sym c.in-ImportSpecifier.is)
    (local_answered c.args.self.now.cursor c.identifier.new.self.cursor c.args.high (token_of c.in_ok-local-in-ImportSpecifier.local) c.rare_token_node.result c.in_ok-local-in-ImportSpecifier.ensures.accepted.0 c.in_ok-local-in-ImportSpecifier.ensures.accepted.1 c.rare_token_node.ensures.made)

pub returns-in_ok-local-in-ImportSpecifier-clause-waits : goal.returns-in_ok-local-in-ImportSpecifier-clause-waits
returns-in_ok-local-in-ImportSpecifier-clause-waits c = waits_behind _ (λ n. n) c.rare_token_node.result c.identifier.ensures.same_tree c.rare_token_node.ensures.waits
