use Rattle.std.proofs.Common.{sym, subst}
use Rattle.std.proofs.Math.Dec.{eqb}
use Rattle.pattern_analysis.specs.ReadReferences.{IsMarkRead}
use Rattle.pattern_analysis.proofs.MarkSteps.{plain_mark, no_backslash, is_bracket}
use Rattle.pattern_analysis.proofs.marks.mark_at.Goals as goal

pub returns : goal.returns
returns c =
    let text = c.args.text.now in
    let d = c.args.first.c in
    let end = c.args.first.end in
    subst (λ b. IsMarkRead b d c.mark_of.result (eqb d 0x5B) text end end) (sym c.if-in_class.false)
    (plain_mark text end d c.mark_of.result (eqb d 0x5B) c.requires (no_backslash d c.if-first-eq92.false) c.mark_of.ensures (is_bracket d))
