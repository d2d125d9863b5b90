use Rattle.std.proofs.Common.{◌≡◌, ◌∙◌, ◌&&◌, sym, refl, subst, map, Bool, List, [], true, false}
use Rattle.std.proofs.lemmas.Result.{err_from_is_err_and}
use Rattle.clap.specs.Words.{App, app_of, HasKind, HasMatchesOf, Text, fault_of, is_simple, subcommand_of, subcommand_rows_of}
use Rattle.clap.specs.Faults.{is_simple_and_free}
use Rattle.clap.specs.declared.error.Error.{Error}
use Rattle.clap.specs.declared.parser.matches.ArgMatches.{ArgMatches}
use Rattle.command_line.specs.CommandLine.{Chooses, MeetsCommand, ReadsAlike, jslint_app}
use Rattle.command_line.specs.declared.line.Line.{Line}
use Rattle.command_line.proofs.MetCommand.{meets_command}
use Rattle.command_line.proofs.line.command_line.Goals as goal

pub returns-in_err-matches-clause-passes : goal.returns-in_err-matches-clause-passes
returns-in_err-matches-clause-passes c =
    let (_, _, same, _) = c.in_ok-jslint.ensures in
    let p = err_from_is_err_and c.from_residual-in_err-matches.result c.from_residual-in_err-matches.ensures.1 in
    rw (p.1, p.2) (λ taken. c.in_err-matches.ensures.passes (same ∙ taken))

simple_part : (app : App) → is_simple_and_free app ≡ true → is_simple app ≡ true
simple_part app both = first (is_simple app) _ both
  where
    first : (a b : Bool) → (a && b) ≡ true → a ≡ true
    first true b e = refl
    first false b e = e

-- a line that `clap` takes has no fault
no_fault : (app : App) (words : List Text) → ReadsAlike app words → (is_simple_and_free app ≡ true → fault_of app words ≡ []) → fault_of jslint_app words ≡ []
no_fault app words (simple, faults, _, _) none = sym faults ∙ none simple

-- and so it meets a command
met : (app : App) (words : List Text) (m : ArgMatches) → ReadsAlike app words → HasMatchesOf app words m → (is_simple_and_free app ≡ true → fault_of app words ≡ []) → MeetsCommand (subcommand_rows_of m)
met app words m (simple, faults, taken, found) matches none =
    let same = matches (simple_part app simple) in
    subst MeetsCommand (sym (same.1 ∙ found)) (meets_command words (no_fault app words (simple, faults, taken, found) none))

-- the line that was chosen of what was met is that of the words
chosen : (app : App) (words : List Text) (m : ArgMatches) (line : Line) → ReadsAlike app words → HasMatchesOf app words m → Chooses (subcommand_rows_of m) line → Chooses (subcommand_of jslint_app words) line
chosen app words m line (simple, _, _, found) matches chooses =
    let same = matches (simple_part app simple) in
    subst (λ met. Chooses met line) (same.1 ∙ found) chooses

pub returns-clause-ok : goal.returns-clause-ok
returns-clause-ok c = chosen (app_of c.in_ok-jslint.jslint) (map (λ w. w.now) c.args.words.now) c.in_ok-matches.matches c.line_of.result c.in_ok-jslint.ensures c.in_ok-matches.ensures.matches c.line_of.ensures

-- a line that `clap` refuses has one of its faults
fails : (app : App) (words : List Text) (e : Error) → ReadsAlike app words → (is_simple_and_free app ≡ true → HasKind (fault_of app words) e) → HasKind (fault_of jslint_app words) e
fails app words e (simple, faults, _, _) kinds = subst (λ ks. HasKind ks e) faults (kinds simple)

pub returns-in_err-matches-clause-kinds : goal.returns-in_err-matches-clause-kinds
returns-in_err-matches-clause-kinds c =
    let p = err_from_is_err_and c.from_residual-in_err-matches.result c.from_residual-in_err-matches.ensures.1 in
    rw (p.1, p.2) (fails (app_of c.in_ok-jslint.jslint) (map (λ w. w.now) c.args.words.now) c.in_err-matches.field-0.0 c.in_ok-jslint.ensures c.in_err-matches.ensures.kinds)

pub returns-clause-meets : goal.returns-clause-meets
returns-clause-meets c = meets_command (map (λ w. w.now) c.args.words.now)

pub returns-clause-kinds : goal.returns-clause-kinds
returns-clause-kinds c = no_fault (app_of c.in_ok-jslint.jslint) (map (λ w. w.now) c.args.words.now) c.in_ok-jslint.ensures c.in_ok-matches.ensures.kinds

pub line_of-requires : goal.line_of-requires
line_of-requires c = met (app_of c.in_ok-jslint.jslint) (map (λ w. w.now) c.args.words.now) c.in_ok-matches.matches c.in_ok-jslint.ensures c.in_ok-matches.ensures.matches c.in_ok-matches.ensures.kinds

pub returns-in_err-jslint-clause-meets : goal.returns-in_err-jslint-clause-meets
returns-in_err-jslint-clause-meets c = meets_command (map (λ w. w.now) c.args.words.now)

pub returns-in_err-matches-clause-meets : goal.returns-in_err-matches-clause-meets
returns-in_err-matches-clause-meets c = meets_command (map (λ w. w.now) c.args.words.now)
