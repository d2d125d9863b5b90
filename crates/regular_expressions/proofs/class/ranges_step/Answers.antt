use Rattle.std.proofs.Common.{sym}
use Rattle.tokens.specs.Reading.{behind}
use Rattle.regular_expressions.specs.Scanned.{ranges_as}
use Rattle.regular_expressions.proofs.ClassSteps.{atom_steps}
use Rattle.regular_expressions.proofs.class.ranges_step.Goals as goal

pub returns-clause-some : goal.returns-clause-some
returns-clause-some c =
    let text = c.args.text.now in
    let atom = c.in-Some-class_atom.atom in
    atom_steps c.args.is_unicode (ranges_as c.args.ranges) (ranges_as c.in-Some-next_atom.next) c.args.first.c atom.value text c.args.first.end atom.end c.requires.open c.if-first-eq45.false
    c.in-Some-class_atom.ensures.some (sym (c.in-Some-next_atom.ensures (behind text atom.end)))
