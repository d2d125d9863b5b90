use Rattle.std.proofs.Common.{◌≡◌, false, sym, subst, Err}
use Rattle.std.specs.Io.KnownBytes.{Appends}
use Rattle.language.specs.Languages.{DerivesIn}
use Rattle.language.specs.Layout.{fixed_text}
use Rattle.printer.specs.Fits.{IsPlanned}
use Rattle.printer.specs.Texts.{IsWritten}
use Rattle.lint.proofs.FixAnswers.{is_planned, begun}
use Rattle.lint.proofs.fix_command.write_fixed.Goals as goal

pub returns-in-Ok : goal.returns-in-Ok
returns-in-Ok g c =
    let n = c.args.parsed.now.program in
    let is = c.requires.script in
    let same = c.program.ensures in
    let flags = c.args.wraps.now.flags.items in
    let derived : DerivesIn is.language is.text c.program.result.now c.args.parsed.now.pairs.items = subst (λ m. DerivesIn is.language is.text m c.args.parsed.now.pairs.items) (sym same) is.derived in
    let planned : IsPlanned flags c.program.result.now = subst (IsPlanned flags) (sym same) (is_planned n flags c.requires.wraps) in
    subst (λ m. Appends (g.W.Sink.taken c.args.writer.now) (g.W.Sink.taken c.print.new.writer) (fixed_text m) × (g.W.Sink.failed c.print.new.writer ≡ false)) same
    (c.in-Ok.ensures.fixed is.language is.text c.args.parsed.now.pairs.items derived planned)

pub returns-in-Err : goal.returns-in-Err
returns-in-Err g c =
    let n = c.args.parsed.now.program in
    let is = c.requires.script in
    let same = c.program.ensures in
    let flags = c.args.wraps.now.flags.items in
    let derived : DerivesIn is.language is.text c.program.result.now c.args.parsed.now.pairs.items = subst (λ m. DerivesIn is.language is.text m c.args.parsed.now.pairs.items) (sym same) is.derived in
    let planned : IsPlanned flags c.program.result.now = subst (IsPlanned flags) (sym same) (is_planned n flags c.requires.wraps) in
    begun (fixed_text n) c.in-Err.field-0 _ _ _
    (subst (λ m. IsWritten (fixed_text m) (Err c.in-Err.field-0) (g.W.Sink.taken c.args.writer.now) (g.W.Sink.taken c.print.new.writer) (g.W.Sink.failed c.print.new.writer)) same
    (c.in-Err.ensures.fixed is.language is.text c.args.parsed.now.pairs.items derived planned))
