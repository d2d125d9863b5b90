use Rattle.std.proofs.Common.{◌≡◌, ◌∙◌, Bool, false, Option, Some, None, bytes_eq, codes, refl, sym, ap}
use Rattle.std.specs.Option.{option_map, option_map_or}
use Rattle.std.specs.Borrow.{Bor}
use Rattle.clap.specs.Words.{Text, rows_of, found_of, first_of, first_value}
use Rattle.clap.specs.declared.parser.matches.Found.{Found}
use Rattle.clap.proofs.WalkLemmas.{first_value-rows}
use Rattle.command_line.specs.CommandLine.{is_set}
use Rattle.command_line.proofs.line.is_set.Goals as goal

abbrev is_true : Option Text → Bool
is_true o = option_map_or (λ (value : Text). bytes_eq value (codes "true")) o false

-- whether a flag is set, by its value
by_value : (found : Found) (flag : Text) (o : Option (Bor Text)) (value : Option Text) (b : Bool) → option_map (λ s. s.now) o ≡ first_value found flag
    → option_map (λ s. s.now) o ≡ value → is_true value ≡ b → b ≡ is_set flag (rows_of found)
by_value found flag o value b e is set =
    let first : first_of flag (rows_of found) ≡ value = sym (e ∙ first_value-rows found flag) ∙ is in
    sym (ap is_true first ∙ set)

pub returns-in_default : goal.returns-in_default
returns-in_default c = by_value (found_of c.args.met.now) c.args.flag.now c.get_str.result None false c.get_str.ensures (ap (option_map (λ s. s.now)) c.in_default.is) refl

pub returns : goal.returns
returns c = by_value (found_of c.args.met.now) c.args.flag.now c.get_str.result (Some c.in-Some.value.now) c.eq.result c.get_str.ensures (ap (option_map (λ s. s.now)) c.in-Some.is) (sym c.eq.ensures)
