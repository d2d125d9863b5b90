use Rattle.std.proofs.Common.{◌≡◌, true, sym, ap, ◌∙◌, subst}
use Rattle.unwrapping.proofs.CompareSteps.{each_ok}
use Rattle.mending.specs.Mends.{Mends, is_reported}
use Rattle.mending.specs.Making.{are_reported, is_made}
use Rattle.mending.specs.Splices.{IsSpliced}
use Rattle.mending.proofs.ReportedChanges.{covers, mends_more}
use Rattle.mending.proofs.check.is_mended.Goals as goal

pub returns : goal.returns
returns c =
    let reports = c.args.reports.now in
    let changes = c.args.round.now.changes.items in
    let edits = c.args.round.now.edits.items in
    let reported : are_reported reports changes ≡ true = ap (are_reported reports) (sym c.deref.ensures.value) ∙ c.are_reported.ensures c.if-not-are_reported.false in
    let mended = subst (λ xs. Mends (is_made xs) c.args.program.now c.args.again.now) c.deref-else-not-are_reported.ensures.value (c.mends.ensures c.if-not-mends.false) in
    let spliced : IsSpliced c.args.source.now edits c.args.next.now =
    subst (λ t. IsSpliced t edits c.args.next.now) c.bytes.ensures.value (subst (λ es. IsSpliced c.bytes.result.now es c.args.next.now) c.deref-2.ensures.value
    (subst (λ t. IsSpliced c.bytes.result.now c.deref-2.result.now t) c.bytes-2.ensures.value (c.is_spliced.ensures c.if-not-is_spliced.false))) in
    each_ok c.keeps_comments.result
    (λ kept. record { changed = mends_more (is_made changes) (is_reported reports) (covers reports changes reported) mended; edits = edits; spliced = spliced; comments = kept })
    c.keeps_comments.ensures
