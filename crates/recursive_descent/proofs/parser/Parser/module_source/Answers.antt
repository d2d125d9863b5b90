use Rattle.std.proofs.Common.{Err}
use Rattle.std.proofs.lemmas.Bool.{OnTrue_at, OnFalse_at}
use Rattle.recursive_descent.proofs.complete_modules.NamesGiven.{source_answered, source_derived, source_unread}
use Rattle.recursive_descent.proofs.parser.Parser.module_source.Goals as goal

pub returns-then-not-sees_string-clause-complete : goal.returns-then-not-sees_string-clause-complete
returns-then-not-sees_string-clause-complete c = source_unread c.args.self.now.cursor c.args.self.now.cursor c.args.high (Err c.syntax_error.result) (OnFalse_at c.if-not-sees_string.true c.sees_string.ensures.missed)

pub returns-clause-derived : goal.returns-clause-derived
returns-clause-derived c = source_derived c.args.self.now.cursor c.module_name.new.self.cursor c.args.high c.module_name.result (OnTrue_at c.if-not-sees_string.false c.sees_string.ensures.seen) c.module_name.ensures.derived

pub returns-clause-complete : goal.returns-clause-complete
returns-clause-complete c = source_answered c.args.self.now.cursor c.module_name.new.self.cursor c.args.high c.module_name.result c.module_name.ensures.complete
