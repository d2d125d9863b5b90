use Rattle.std.proofs.Common.{◌≡◌, ℕ, List, subst}
use Rattle.std.specs.Prelude.{Some, IfOk, IfErr}
use Rattle.std.specs.Str.{IsUtf8}
use Rattle.rules.specs.Toml.{settings_of_text}
use Rattle.lint.specs.Steps.{RefusesSettingsBy}
use Rattle.lint.proofs.CheckAnswers.{settings_told, unread_settings}
use Rattle.lint.proofs.check_command.read_settings.Goals as goal

pub returns-in-Ok : goal.returns-in-Ok
returns-in-Ok g c =
    let same = c.deref.ensures.value in
    let told = c.settings_of.ensures in
    settings_told (g.S.Feed.left c.args.second.now) _ c.in-Ok.bytes.items c.settings_of.result c.in-Ok.ensures.1 c.in-Ok.ensures.0
    (subst (λ (bytes : List ℕ). IfOk c.settings_of.result (λ _. IsUtf8 bytes)) same told.utf8)
    (subst (λ (bytes : List ℕ). IfOk c.settings_of.result (λ settings. settings_of_text bytes ≡ Some settings)) same told.settings)
    (subst (λ (bytes : List ℕ). IfErr c.settings_of.result (RefusesSettingsBy bytes)) same told.refused)

pub returns-in-Err : goal.returns-in-Err
returns-in-Err g c = unread_settings (g.S.Feed.left c.args.second.now) c.in-Err.fault _ c.at_no_place.result c.in-Err.ensures c.at_no_place.ensures
