use Rattle.std.proofs.Common.{sym, subst}
use Rattle.tokens.specs.Reading.{behind}
use Rattle.pattern_analysis.specs.declared.class_values.Seen.TheVariants.{Apart}
use Rattle.pattern_analysis.specs.Read.{IsAtomRead}
use Rattle.pattern_analysis.proofs.ReadSteps.{atom_read, no_atom}
use Rattle.pattern_analysis.proofs.class_values.read_atom.Goals as goal

pub returns-in-Some : goal.returns-in-Some
returns-in-Some c =
    let text = c.args.text.now in
    let atom = c.in-Some.atom in
    subst (λ next. IsAtomRead c.args.is_unicode c.args.standing c.args.first.c c.seen_of.result next text c.args.first.end atom.end) (sym c.behind_atom.ensures)
    (atom_read c.args.is_unicode c.args.standing c.args.first.c atom.value c.seen_of.result text c.args.first.end atom.end c.in-Some.ensures.some
    (c.seen_of.ensures c.args.is_unicode (behind text atom.end)))

pub returns-in-None : goal.returns-in-None
returns-in-None c =
    let text = c.args.text.now in
    subst (λ next. IsAtomRead c.args.is_unicode c.args.standing c.args.first.c Apart next text c.args.first.end c.args.first.end) (sym c.behind_atom-in-None.ensures)
    (no_atom c.args.is_unicode c.args.standing c.args.first.c text c.args.first.end c.requires c.in-None.ensures.none)
