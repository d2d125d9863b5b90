use Rattle.std.proofs.Common.{◌≡◌, ◌∙◌, ap, refl, codes}
use Rattle.clap.specs.Words.{rows_of, found_of, first_of}
use Rattle.clap.proofs.WalkLemmas.{first_value-rows}
use Rattle.command_line.specs.AskedLanguage.{commas_or_all}
use Rattle.command_line.proofs.line.format_met.Goals as goal

pub returns : goal.returns
returns c =
    let found = found_of c.args.met.now in
    let commas : c.commas_or_all.result ≡ commas_or_all (first_of (codes "commas") (rows_of found)) = c.commas_or_all.ensures ∙ ap commas_or_all (c.get_str.ensures ∙ first_value-rows found (codes "commas")) in
    rw (c.from.ensures, c.number_met.ensures, c.number_met-2.ensures, c.is_set.ensures, commas, c.is_set-2.ensures, c.is_set-3.ensures, c.is_set-4.ensures) refl
