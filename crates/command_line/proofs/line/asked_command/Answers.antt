-- The command line with one command reads the words as the whole one does.
use Rattle.std.proofs.Common.{◌≡◌, ◌∙◌, ap, sym, refl, subst, map, List, [], ◌∷◌, Result, Ok, Err, IfOk, IsOkAnd, Some, is_some, slice_get, true≢false}
use Rattle.std.specs.Option.{option_map, option_map_or}
use Rattle.clap.specs.Words.{App, Text, app_of, with_subcommand}
use Rattle.commands.specs.Commands.{word_of}
use Rattle.commands.specs.declared.command.Command.{Command}
use Rattle.command_line.specs.CommandLine.{ReadsAlike, bare_app, command_app, jslint_app, with_command}
use Rattle.command_line.proofs.AskedCommand.{asks_alike}
use Rattle.command_line.proofs.Tips.{word_at}
use Rattle.command_line.proofs.line.asked_command.Goals as goal

whole : {X E : Type 0} (of : X → App) (made : Result X E) (words : List Text) → IfOk made (λ c. of c ≡ jslint_app) → IfOk made (λ c. ReadsAlike (of c) words)
whole of (Ok c) words shape = rw shape (refl, refl, refl, refl)
whole of (Err e) words shape = shape

pub returns-in_default : goal.returns-in_default
returns-in_default c = whole app_of c.jslint_command.result (map (λ w. w.now) c.args.words.now) c.jslint_command.ensures.shape

pub returns-in_default-command_of : goal.returns-in_default-command_of
returns-in_default-command_of c = whole app_of c.jslint_command-in_default-command_of.result (map (λ w. w.now) c.args.words.now) c.jslint_command-in_default-command_of.ensures.shape

-- words whose second is the command's
begins : (word : Text) (command : Command) (words : List Text) → slice_get words 1 ≡ Some word → word_of command ≡ word → ReadsAlike (with_command bare_app command) words
begins word command [] here same = absurd (true≢false (sym (ap is_some here)))
begins word command (name ∷ []) here same = absurd (true≢false (sym (ap is_some here)))
begins word command (name ∷ x ∷ rest) here same =
    subst (λ t. ReadsAlike (with_command bare_app command) (name ∷ t ∷ rest)) (same ∙ sym (ap (λ o. option_map_or (λ y. y) o word) here)) (asks_alike command name rest)

made : {X E Y F : Type 0} (of : X → App) (to : Y → App) (added : Result X E) (result : Result Y F) (command : Command) (words : List Text) (before : App) → before ≡ bare_app
    → IfOk added (λ a. of a ≡ command_app command) → IfOk result (λ r. IsOkAnd added (λ a. to r ≡ with_subcommand before (of a).top))
    → ReadsAlike (with_command bare_app command) words → IfOk result (λ r. ReadsAlike (to r) words)
made of to added (Err e) command words before bare shape h reads = tt
made of to (Err e) (Ok r) command words before bare shape h reads = absurd h
made of to (Ok a) (Ok r) command words before bare shape h reads =
    subst (λ app. ReadsAlike app words) (sym (h ∙ ap (λ b. with_subcommand b (of a).top) bare ∙ ap (λ (x : App). with_subcommand bare_app x.top) shape)) reads

pub returns : goal.returns
returns c =
    let words = map (λ w. w.now) c.args.words.now in
    let there = word_at c.args.words.now 1 c.get.result c.get.ensures.lookup ∙ ap (option_map (λ w. w.now.now)) c.in-Some.is in
    let reads = begins c.in-Some.word.now.now c.in-Some-command_of.command words there c.in-Some-command_of.ensures.named in
    made app_of app_of c.command_of_jslint.result c.with_command.result c.in-Some-command_of.command words _ c.bare_command.ensures c.command_of_jslint.ensures.shape c.with_command.ensures reads
