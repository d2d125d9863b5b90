use Rattle.std.proofs.Common.{◌≤◌, ◌∙◌, ℕ, List, length, refl, sym, ap, subst, Ok, Err}
use Rattle.tree.specs.declared.kind.Pair.{Pair}
use Rattle.tree.specs.Tree.{Tree, SameTree}
use Rattle.language.specs.declared.Language.{Language}
use Rattle.language.specs.Languages.{DerivesIn}
use Rattle.language.specs.Pieces.{script}
use Rattle.language.specs.RowPositions.{rows}
use Rattle.cost_table.specs.Tables.{table_of}
use Rattle.cost_certificate.specs.Checked.{Answers as Judges}
use Rattle.cost_certificate.specs.Faults.{first_fault}
use Rattle.lint.specs.Outputs.{pairs_line}
use Rattle.lint.specs.declared.answer.Answer.TheVariants.{Text}
use Rattle.lint.proofs.PlannedScripts.{script_few}
use Rattle.lint.proofs.VerifyAnswers.{no_table, sound_table, faulty_table}
use Rattle.lint.proofs.cost_commands.verify.Goals as goal

pub returns-in-Err-clause-answer : goal.returns-in-Err-clause-answer
returns-in-Err-clause-answer g c = λ finds language text. no_table finds language text c.args.parsed.now.program c.args.parsed.now.pairs.items _ c.in-Err.fault _ c.in-Err.ensures.table

pub check_table-requires-clause-few : goal.check_table-requires-clause-few
check_table-requires-clause-few g c = subst (λ m. rows m script ≤ 16777216) (sym c.program.ensures) (script_few c.args.parsed.now.program c.args.parsed.now.pairs.items c.requires.script)

pub returns-in-Err-check_table-clause-answer : goal.returns-in-Err-check_table-clause-answer
returns-in-Err-check_table-clause-answer g c = λ finds language text.
    faulty_table finds language text c.args.parsed.now.program c.args.parsed.now.pairs.items _ _ c.in-Ok.table c.in-Err-check_table.field-0 c.in-Ok.ensures.table
    (subst (λ m. Judges (first_fault (table_of c.in-Ok.table.rows.items c.in-Ok.table.total) m) c.in-Ok.table.total (Err c.in-Err-check_table.field-0)) c.program.ensures c.in-Err-check_table.ensures.answer)

pub returns-in-Ok-pairs_line-clause-answer : goal.returns-in-Ok-pairs_line-clause-answer
returns-in-Ok-pairs_line-clause-answer g c = λ finds language text.
    let n = c.args.parsed.now.program in
    let least = c.in-Ok-check_table.least in
    sound_table finds language text n c.args.parsed.now.pairs.items _ _ c.in-Ok.table least (Text c.in-Ok-pairs_line.line 0) c.in-Ok.ensures.table
    (subst (λ m. Judges (first_fault (table_of c.in-Ok.table.rows.items c.in-Ok.table.total) m) c.in-Ok.table.total (Ok least)) c.program.ensures c.in-Ok-check_table.ensures.answer)
    (subst (λ m. (language : Language) (text : List ℕ) (t : Tree) (Q : List Pair) → SameTree t m → DerivesIn language text t Q → least ≤ length Q) c.program.ensures c.in-Ok-check_table.ensures.bound)
    (c.in-Ok-pairs_line.ensures ∙ ap (λ (ps : List Pair). pairs_line (length ps) least) c.grouping_pairs.ensures)
    refl
