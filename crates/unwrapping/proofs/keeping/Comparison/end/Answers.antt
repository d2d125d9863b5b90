use Rattle.std.proofs.Common.{false, refl}
use Rattle.unwrapping.proofs.CompareSteps.{each_ok, leads_ended}
use Rattle.unwrapping.proofs.keeping.Comparison.end.Goals as goal

pub returns-clause-leads : goal.returns-clause-leads
returns-clause-leads c =
    let old = c.args.self.now in
    each_ok c.pass.result (λ passes text. leads_ended {text = text} {unwrapped = c.args.unwrapped.now} old (record { text = old.text; unwrapped = c.pass.new.self; comment_count = old.comment_count; may_end = false; alike = false }) c.requires.may_end c.requires.semicolon
    passes refl refl refl) c.pass.ensures
