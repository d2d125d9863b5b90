use Rattle.std.proofs.Common.{◌≡◌, refl, Result, Ok, Err, IfOk, IsOkAnd}
use Rattle.clap.specs.Words.{App, app_of, with_subcommand}
use Rattle.commands.specs.declared.command.Command.TheVariants.{Check, Tree, Fix, Unwrap, Mend, Format, Cost, Verify, Same}
use Rattle.commands.specs.Commands.{default_format}
use Rattle.commands.specs.declared.command.ReportForm.TheVariants.{Places}
use Rattle.command_line.specs.CommandLine.{bare_app, command_app}
use Rattle.command_line.proofs.line.jslint_command.Goals as goal

-- one command more, where it was made
one_more : {X E : Type 0} (of : X → App) (added : Result X E) (app known before after : App) → before ≡ known
    → IfOk added (λ a. of a ≡ app) → IsOkAnd added (λ a. after ≡ with_subcommand before (of a).top) → after ≡ with_subcommand known app.top
one_more of (Ok a) app known before after p q r = rw (r, p, q) refl
one_more of (Err e) app known before after p q r = absurd r

-- the last
last : {X E Y F : Type 0} (of : X → App) (to : Y → App) (added : Result X E) (result : Result Y F) (app known before : App) → before ≡ known
    → IfOk added (λ a. of a ≡ app) → IfOk result (λ r. IsOkAnd added (λ a. to r ≡ with_subcommand before (of a).top))
    → IfOk result (λ r. to r ≡ with_subcommand known app.top)
last of to added (Ok r) app known before p q h = one_more of added app known before (to r) p q h
last of to added (Err e) app known before p q h = h

pub returns : goal.returns
returns c =
    let one = one_more app_of c.command_of_jslint.result (command_app (Check Places)) bare_app _ _ c.bare_command.ensures c.command_of_jslint.ensures.shape c.in_ok-jslint.ensures in
    let two = one_more app_of c.command_of_jslint-2.result (command_app Tree) _ _ _ one c.command_of_jslint-2.ensures.shape c.in_ok-jslint-2.ensures in
    let three = one_more app_of c.command_of_jslint-3.result (command_app Fix) _ _ _ two c.command_of_jslint-3.ensures.shape c.in_ok-jslint-3.ensures in
    let four = one_more app_of c.command_of_jslint-4.result (command_app Unwrap) _ _ _ three c.command_of_jslint-4.ensures.shape c.in_ok-jslint-4.ensures in
    let five = one_more app_of c.command_of_jslint-5.result (command_app Mend) _ _ _ four c.command_of_jslint-5.ensures.shape c.in_ok-jslint-5.ensures in
    let six = one_more app_of c.command_of_jslint-6.result (command_app (Format default_format)) _ _ _ five c.command_of_jslint-6.ensures.shape c.in_ok-jslint-6.ensures in
    let seven = one_more app_of c.command_of_jslint-7.result (command_app Cost) _ _ _ six c.command_of_jslint-7.ensures.shape c.in_ok-jslint-7.ensures in
    let eight = one_more app_of c.command_of_jslint-8.result (command_app Verify) _ _ _ seven c.command_of_jslint-8.ensures.shape c.in_ok-jslint-8.ensures in
    record { shape = last app_of app_of c.command_of_jslint-9.result c.with_command-9.result (command_app Same) _ _ eight c.command_of_jslint-9.ensures.shape c.with_command-9.ensures }
