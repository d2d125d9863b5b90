use Rattle.std.proofs.Common.{◌∙◌, sym, ap, subst, map}
use Rattle.spellings.specs.Groupings.{grouping, row_starts}
use Rattle.paren_planner.specs.Extra.{extra_spans}
use Rattle.paren_planner.specs.Plans.{AreWraps}
use Rattle.lint.proofs.CheckAnswers.{are_extra}
use Rattle.lint.proofs.PlannedScripts.{script_derived}
use Rattle.lint.proofs.check_command.extra_spans.Goals as goal

pub wraps_by_pairs-requires : goal.wraps_by_pairs-requires
wraps_by_pairs-requires c = script_derived _ _ _ _ (sym c.program-program.ensures) (sym c.grouping_pairs-pairs.ensures) c.requires.script

pub returns : goal.returns
returns c = λ language text utf8.
    let n = c.args.parsed.now.program in
    let P = c.args.parsed.now.pairs.items in
    let wrapped : AreWraps n c.in_ok-wraps.wraps.flags.items = subst (λ m. AreWraps m c.in_ok-wraps.wraps.flags.items) c.program-program.ensures c.in_ok-wraps.ensures in
    are_extra language text n P c.in_ok-wraps.wraps.flags.items c.in_ok-spans.spans.items utf8 wrapped
    (c.in_ok-spans.ensures ∙ ap (λ gs. extra_spans c.in_ok-wraps.wraps.flags.items gs)
    (c.deref.ensures.value ∙ c.in_ok-pair_rows.ensures ∙ ap (λ m. map (grouping (row_starts m)) c.grouping_pairs-pairs.result.now) c.program-program.ensures
    ∙ ap (λ ps. map (grouping (row_starts n)) ps) c.grouping_pairs-pairs.ensures))
