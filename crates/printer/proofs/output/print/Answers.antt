use Rattle.std.proofs.Common.{◌≡◌, ◌∙◌, List, ℕ, true, false, Ok, Err, Option, Bool, [], sym, subst}
use Rattle.source_text.specs.declared.fault.Fault.TheVariants.{WriteFailed}
use Rattle.language.specs.Pieces.{script}
use Rattle.language.specs.Layout.{layout}
use Rattle.printer.specs.Fits.{wrapped_by}
use Rattle.printer.specs.Texts.{IsWritten}
use Rattle.printer.specs.Standings.{Puts, of_writer}
use Rattle.printer.proofs.Standings.{puts_all}
use Rattle.printer.proofs.PlannedLayout.{planned_fits, planned_layout}
use Rattle.printer.proofs.output.print.Goals as goal

failed_written : (a b : Option (List ℕ)) (was failed : Bool) (t : List ℕ) → was ≡ false → failed ≡ true → Puts (of_writer a was []) (of_writer b failed []) t → IsWritten t (Err WriteFailed) a b failed
failed_written a b was failed t e f p = ((puts_all a b was failed t e p).1 f, f)

whole_written : (a b : Option (List ℕ)) (was failed : Bool) (t : List ℕ) → was ≡ false → failed ≡ false → Puts (of_writer a was []) (of_writer b failed []) t → IsWritten t (Ok tt) a b failed
whole_written a b was failed t e f p = ((puts_all a b was failed t e p).0 f, f)

pub returns-then-has_failed-clause-laid : goal.returns-then-has_failed-clause-laid
returns-then-has_failed-clause-laid g c k = failed_written _ _ _ _ (layout (wrapped_by c.args.wraps.now.flags.items) c.args.program.now script 1 0) c.requires.ready (sym c.has_failed.ensures ∙ c.if-has_failed.true) (c.print_whole.ensures.laid k)

pub returns-then-has_failed-clause-fixed : goal.returns-then-has_failed-clause-fixed
returns-then-has_failed-clause-fixed g c language text pairs derived planned =
    subst (λ t. IsWritten t (Err WriteFailed) (g.W.Sink.taken c.args.writer.now) (g.W.Sink.taken c.print_whole.new.out) (g.W.Sink.failed c.print_whole.new.out)) (planned_layout c.args.wraps.now.flags.items c.args.program.now planned)
    (returns-then-has_failed-clause-laid g c (planned_fits c.args.wraps.now.flags.items c.args.program.now planned language text pairs derived))

pub returns-clause-laid : goal.returns-clause-laid
returns-clause-laid g c k = whole_written _ _ _ _ (layout (wrapped_by c.args.wraps.now.flags.items) c.args.program.now script 1 0) c.requires.ready (sym c.has_failed.ensures ∙ c.if-has_failed.false) (c.print_whole.ensures.laid k)

pub returns-clause-fixed : goal.returns-clause-fixed
returns-clause-fixed g c language text pairs derived planned =
    subst (λ t. IsWritten t (Ok tt) (g.W.Sink.taken c.args.writer.now) (g.W.Sink.taken c.print_whole.new.out) (g.W.Sink.failed c.print_whole.new.out)) (planned_layout c.args.wraps.now.flags.items c.args.program.now planned)
    (returns-clause-laid g c (planned_fits c.args.wraps.now.flags.items c.args.program.now planned language text pairs derived))

pub returns-then-has_failed-clause-some : goal.returns-then-has_failed-clause-some
returns-then-has_failed-clause-some g c = let p = c.print_whole.ensures.adds in (p.text, failed_written _ _ _ _ p.text c.requires.ready (sym c.has_failed.ensures ∙ c.if-has_failed.true) p.puts)

pub returns-clause-some : goal.returns-clause-some
returns-clause-some g c = let p = c.print_whole.ensures.adds in (p.text, whole_written _ _ _ _ p.text c.requires.ready (sym c.has_failed.ensures ∙ c.if-has_failed.false) p.puts)
