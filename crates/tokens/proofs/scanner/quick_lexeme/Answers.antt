use Rattle.std.proofs.Common.{IsTrue, subst}
use Rattle.tokens.specs.TokenStarts.{begins_so}
use Rattle.tokens.proofs.QuickLexemes.{name_start}
use Rattle.tokens.proofs.scanner.quick_lexeme.Goals as goal

pub ascii_name-requires-clause-start : goal.ascii_name-requires-clause-start
ascii_name-requires-clause-start c = name_start c.in-Some.first.c c.in-Some.ensures.ascii (subst (λ s. IsTrue (begins_so s c.in-Some.first.c)) c.in-Name.is c.start_of.ensures)

pub mark-requires : goal.mark-requires
mark-requires c = subst (λ s. IsTrue (begins_so s c.in-Some.first.c)) c.in-Mark.is c.start_of.ensures

pub closing_brace-requires : goal.closing_brace-requires
closing_brace-requires c = subst (λ s. IsTrue (begins_so s c.in-Some.first.c)) c.in-Brace.is c.start_of.ensures

pub lone_operator-requires-clause-operator : goal.lone_operator-requires-clause-operator
lone_operator-requires-clause-operator c = subst (λ s. IsTrue (begins_so s c.in-Some.first.c)) c.in-Operator.is c.start_of.ensures

pub returns-in-Name : goal.returns-in-Name
returns-in-Name c = c.ascii_name.ensures c.args.goal c.args.at c.in-Some.ensures.some

pub returns-in-Mark : goal.returns-in-Mark
returns-in-Mark c = c.mark.ensures c.args.text.now c.args.goal c.args.at c.utf8.text c.in-Some.ensures.some

pub returns-in-Brace : goal.returns-in-Brace
returns-in-Brace c = c.closing_brace.ensures c.args.text.now c.args.at c.utf8.text c.in-Some.ensures.some

pub returns-in-Operator : goal.returns-in-Operator
returns-in-Operator c = c.lone_operator.ensures c.args.goal c.args.at c.in-Some.ensures.some
