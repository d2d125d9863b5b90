use Rattle.std.proofs.Common.{◌≡◌, ◌∙◌, ◌-◌, ◌<◌, suc, sym, ap, arith, add-one}
use Rattle.tree.specs.Node.{node_tree}
use Rattle.tree.specs.Tree.{parts_of, part_count}
use Rattle.spelling_table.specs.Outlines.{parts_after}
use Rattle.spellings.specs.Entries.{specifiers_fit, is_import_specifier}
use Rattle.spellings.specs.Expressions.{kind_at}
use Rattle.spellings.proofs.ModuleParts.{imported-past, imported-stop, imported-on, imported-end, imported-gap}
use Rattle.spellings.proofs.modules.specifiers_fit.Goals as goal

pub returns-then-count-from : goal.returns-then-count-from
returns-then-count-from c = imported-past (parts_of (node_tree c.args.import)) c.args.from (omega (arith, c.part_count-count.ensures, c.if-count-from.true))

pub returns-then-not-is_import_specifier : goal.returns-then-not-is_import_specifier
returns-then-not-is_import_specifier c =
    let ps = parts_of (node_tree c.args.import) in
    let i = c.loop-index.index in
    let within : suc i < part_count ps = omega (arith, c.part_count-count.ensures, c.loop-index-test.true) in
    imported-stop ps i within (sym (c.is_import_specifier.ensures ∙ ap is_import_specifier (c.kind_at.ensures ∙ ap kind_at c.part_at.ensures)) ∙ c.if-not-is_import_specifier.true) ∙ c.loop-index.invariant

pub loop-index-preserved : goal.loop-index-preserved
loop-index-preserved c =
    let ps = parts_of (node_tree c.args.import) in
    let i = c.loop-index.index in
    let within : suc i < part_count ps = omega (arith, c.part_count-count.ensures, c.loop-index-test.true) in
    ap (λ j. specifiers_fit (parts_after j ps)) (add-one i)
    ∙ imported-on ps i within (sym (c.is_import_specifier.ensures ∙ ap is_import_specifier (c.kind_at.ensures ∙ ap kind_at c.part_at.ensures)) ∙ c.if-not-is_import_specifier.false) ∙ c.loop-index.invariant

pub returns-in-Some : goal.returns-in-Some
returns-in-Some c =
    let ps = parts_of (node_tree c.args.import) in
    let last = c.part_count-count.result - 1 in
    let counted : part_count ps ≡ suc last = omega (arith, c.part_count-count.ensures, c.if-count-from.false) in
    let ended : last ≡ c.loop-index.index = omega (arith, c.loop-index-test.false, c.loop-index.auto.index-end, c.if-count-from.false) in
    imported-end ps last (node_tree c.in-Some.field-0) counted c.in-Some.ensures ∙ ap (λ j. specifiers_fit (parts_after j ps)) ended ∙ c.loop-index.invariant

pub returns-in-None : goal.returns-in-None
returns-in-None c =
    let ps = parts_of (node_tree c.args.import) in
    let last = c.part_count-count.result - 1 in
    let ended : last ≡ c.loop-index.index = omega (arith, c.loop-index-test.false, c.loop-index.auto.index-end, c.if-count-from.false) in
    imported-gap ps last c.in-None.ensures ∙ ap (λ j. specifiers_fit (parts_after j ps)) ended ∙ c.loop-index.invariant
