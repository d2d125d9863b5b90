use Rattle.std.proofs.Common.{◌≡◌, ◌∙◌, ◌<◌, suc, sym, ap, arith, add-one}
use Rattle.tree.specs.Node.{node_tree}
use Rattle.tree.specs.Tree.{parts_of, part_count}
use Rattle.spelling_table.specs.Outlines.{parts_after}
use Rattle.spellings.specs.Entries.{export_fits, is_export_specifier}
use Rattle.spellings.specs.Expressions.{kind_at}
use Rattle.spellings.proofs.ModuleParts.{exported-past, exported-stop, exported-on, exported-end}
use Rattle.spellings.proofs.modules.export_fits.Goals as goal

pub returns-then-count-lt2 : goal.returns-then-count-lt2
returns-then-count-lt2 c = exported-past (parts_of (node_tree c.args.export)) 1 (omega (arith, c.part_count-count.ensures, c.if-count-lt2.true))

pub returns-then-not-is_export_specifier : goal.returns-then-not-is_export_specifier
returns-then-not-is_export_specifier c =
    let ps = parts_of (node_tree c.args.export) in
    let i = c.loop-index.index in
    let within : suc i < part_count ps = omega (arith, c.part_count-count.ensures, c.loop-index-test.true) in
    exported-stop ps i within (sym (c.is_export_specifier.ensures ∙ ap is_export_specifier (c.kind_at.ensures ∙ ap kind_at c.part_at.ensures)) ∙ c.if-not-is_export_specifier.true) ∙ c.loop-index.invariant

pub loop-index-preserved : goal.loop-index-preserved
loop-index-preserved c =
    let ps = parts_of (node_tree c.args.export) in
    let i = c.loop-index.index in
    let within : suc i < part_count ps = omega (arith, c.part_count-count.ensures, c.loop-index-test.true) in
    ap (λ j. export_fits (parts_after j ps)) (add-one i)
    ∙ exported-on ps i within (sym (c.is_export_specifier.ensures ∙ ap is_export_specifier (c.kind_at.ensures ∙ ap kind_at c.part_at.ensures)) ∙ c.if-not-is_export_specifier.false) ∙ c.loop-index.invariant

pub returns : goal.returns
returns c =
    let ps = parts_of (node_tree c.args.export) in
    let i = c.loop-index.index in
    let ended : part_count ps ≡ suc i = omega (arith, c.part_count-count.ensures, c.loop-index-test.false, c.loop-index.auto.index-end, c.if-count-lt2.false) in
    exported-end ps i ended ∙ c.loop-index.invariant
