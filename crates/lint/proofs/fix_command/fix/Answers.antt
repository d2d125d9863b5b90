use Rattle.std.proofs.Common.{◌≡◌, sym, subst, string_bytes}
use Rattle.std.proofs.lemmas.Str.{IsUtf8-string_bytes}
use Rattle.language.specs.Languages.{DerivesIn}
use Rattle.language.specs.Layout.{fixed_text}
use Rattle.lint.proofs.FixAnswers.{fixes, is_planned}
use Rattle.lint.proofs.PlannedScripts.{script_derived}
use Rattle.lint.proofs.fix_command.fix.Goals as goal

pub wraps_by_pairs-requires : goal.wraps_by_pairs-requires
wraps_by_pairs-requires c = script_derived _ _ _ _ (sym c.program-program.ensures) (sym c.grouping_pairs.ensures) c.requires.script

pub returns-clause-laid : goal.returns-clause-laid
returns-clause-laid c =
    let n = c.args.parsed.now.program in
    let is = c.requires.script in
    let same = c.program-program.ensures in
    subst (λ m. string_bytes c.in_ok-text.text ≡ fixed_text m) same
    (c.in_ok-text.ensures.fixed is.language is.text c.args.parsed.now.pairs.items (subst (λ m. DerivesIn is.language is.text m c.args.parsed.now.pairs.items) (sym same) is.derived)
    (is_planned c.program-program.result.now _ c.in_ok-wraps.ensures))

pub returns-clause-fixed : goal.returns-clause-fixed
returns-clause-fixed c =
    let n = c.args.parsed.now.program in
    let laid : string_bytes c.in_ok-text.text ≡ fixed_text n = returns-clause-laid c in
    λ language text accepted. fixes language text _ n c.args.parsed.now.pairs.items (IsUtf8-string_bytes c.in_ok-text.text) accepted laid
