-- What runs by the rules of a command say of the devices, for the crates above: they needn't look into such a run.
use Rattle.std.proofs.Common.{◌≡◌, ◌≢◌, ◌⊎◌, ℕ, Bool, true, false, Result, Ok, Err, inl, inr, refl, subst}
use Rattle.source_text.specs.declared.fault.Fault.{Fault}
use Rattle.source_text.specs.declared.fault.Fault.TheVariants.{NotUtf8, TooLong, OutOfMemory, ReadFailed, WriteFailed, BadSettings, BadTable, UnwrapFailed, FormatFailed}
use Rattle.commands.specs.declared.command.Command.{Command}
use Rattle.commands.specs.declared.asked_language.AskedLanguage.{AskedLanguage}
use Rattle.commands.specs.declared.asked_language.AskedLanguage.TheVariants.{Said, Any}
use Rattle.commands.specs.declared.language_choice.LanguageChoice.{LanguageChoice}
use Rattle.commands.specs.declared.hint.Hint.{Hint}
use Rattle.commands.specs.declared.refused.Refused.{Refused}
use Rattle.commands.specs.Refused.{at_no_place}
use Rattle.lint.specs.AnyRuns.{RefusesAnyIn, RunsAsked}
use Rattle.lint.specs.Run.{NoneFailed, NothingWritten, RefusesIn, Seen, SettingsUnread}
use Rattle.shipped_rules.specs.ShippedRules.{RunsByRules, finds_of}

module _ (command : Command) where
  none_or_unread : (seen : Seen) → NoneFailed seen ⊎ SettingsUnread command seen → seen.writer_failed ≡ false
  none_or_unread seen (inl none) = none.2
  none_or_unread seen (inr unread) = unread.3

  nothing_said : (choice : LanguageChoice) (in_second : Bool) (seen : Seen) (fault : Fault) (place : ℕ × ℕ) (hint : Hint) → fault ≢ WriteFailed
      → RefusesIn in_second (finds_of command) command choice seen fault place hint → (seen.writer_failed ≡ false) × NothingWritten seen
  nothing_said choice true seen fault place hint other refused = (refused.2.2, refused.3)
  nothing_said choice false seen ReadFailed place hint other refused = (refused.0, refused.1)
  nothing_said choice false seen WriteFailed place hint other refused = absurd (other refl)
  nothing_said choice false seen OutOfMemory place hint other refused = (none_or_unread seen refused.0, refused.1)
  nothing_said choice false seen BadSettings place hint other refused = (refused.0.2, refused.1)
  nothing_said choice false seen (BadTable row why) place hint other refused = (refused.0.2, refused.1)
  nothing_said choice false seen UnwrapFailed place hint other refused = (refused.0.2, refused.1)
  nothing_said choice false seen FormatFailed place hint other refused = (refused.0.2, refused.1)
  nothing_said choice false seen (NotUtf8 at) place hint other refused = (refused.0.2, refused.1)
  nothing_said choice false seen TooLong place hint other refused = (refused.0.2, refused.1)
  nothing_said choice false seen _ place hint other (kept, (text, is, source, (language, inl (none, read), why, hinted), at)) = (none.2, kept)
  nothing_said choice false seen _ place hint other (kept, (text, is, source, (language, inr (inl unread, asked), why, hinted), at)) = (unread.3, kept)
  nothing_said choice false seen _ place hint other (kept, (text, is, source, (language, inr (inr refused, asked), why, hinted), at)) = (refused.1.2, kept)

  -- where each language is tried
  nothing_any : (in_second : Bool) (seen : Seen) (fault : Fault) (place : ℕ × ℕ) (hint : Hint) → fault ≢ WriteFailed → RefusesAnyIn in_second (finds_of command) command seen fault place hint
      → (seen.writer_failed ≡ false) × NothingWritten seen
  nothing_any true seen fault place hint other refused = (refused.2.2, refused.3)
  nothing_any false seen ReadFailed place hint other refused = (refused.0, refused.1)
  nothing_any false seen WriteFailed place hint other refused = absurd (other refl)
  nothing_any false seen _ place hint other refused = (refused.0.2, refused.1)

  -- a refusal but that of a writer that failed: it didn't, and nothing was written
  pub nothing_written : (asked : AskedLanguage) (seen : Seen) (refused : Refused) → refused.fault ≢ WriteFailed → RunsByRules command asked seen (Err refused)
      → (seen.writer_failed ≡ false) × NothingWritten seen
  unfolding RunsByRules RunsAsked
  nothing_written (Said choice) seen refused other run = nothing_said choice refused.in_second seen refused.fault (refused.line, refused.column) refused.hint other run
  nothing_written Any seen refused other run = nothing_any refused.in_second seen refused.fault (refused.line, refused.column) refused.hint other run

  -- where a run has a status, its writer didn't fail
  pub well_written : (asked : AskedLanguage) (seen : Seen) (status : ℕ) → RunsByRules command asked seen (Ok status) → seen.writer_failed ≡ false
  unfolding RunsByRules RunsAsked
  well_written (Said choice) seen status run = run.0.2
  well_written Any seen status run = run.0.2

  -- a run that was refused since a file failed has no place and no hint, and is refused for no script
  pub without_place : (in_second : Bool) (fault : Fault) (line column : ℕ) (hint : Hint) (asked : AskedLanguage) (seen : Seen) → fault ≡ ReadFailed
      → RunsByRules command asked seen (Err (record { fault = fault; in_second = in_second; line = line; column = column; hint = hint }))
      → RunsByRules command asked seen (Err (at_no_place ReadFailed))
  unfolding RunsByRules RunsAsked
  without_place false fault line column hint (Said choice) seen is run =
      let none = subst (λ (f : Fault). RunsByRules command (Said choice) seen (Err (record { fault = f; in_second = false; line = line; column = column; hint = hint }))) is run in
      (none.0, none.1, none.2, (refl, refl))
  without_place false fault line column hint Any seen is run =
      let none = subst (λ (f : Fault). RunsByRules command Any seen (Err (record { fault = f; in_second = false; line = line; column = column; hint = hint }))) is run in
      (none.0, none.1, none.2, (refl, refl))
  without_place true fault line column hint (Said choice) seen is run =
      absurd (subst (λ (f : Fault). RunsByRules command (Said choice) seen (Err (record { fault = f; in_second = true; line = line; column = column; hint = hint }))) is run).4.1.1
  without_place true fault line column hint Any seen is run =
      absurd (subst (λ (f : Fault). RunsByRules command Any seen (Err (record { fault = f; in_second = true; line = line; column = column; hint = hint }))) is run).4.1.1

  -- which reader of a run failed that was refused since one did
  pub failed_reader : (asked : AskedLanguage) (seen : Seen) → RunsByRules command asked seen (Err (at_no_place ReadFailed))
      → ((seen.reader_failed ≡ true) × (seen.second_failed ≡ false)) ⊎ (seen.second_failed ≡ true)
  unfolding RunsByRules RunsAsked
  failed_reader (Said choice) seen (writer, kept, inl first, bare) = inl first
  failed_reader (Said choice) seen (writer, kept, inr other, bare) = inr other.1
  failed_reader Any seen (writer, kept, inl first, bare) = inl first
  failed_reader Any seen (writer, kept, inr other, bare) = inr other.1
