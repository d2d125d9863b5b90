-- A run whose devices are memory: but where its writer failed, no device did; and where it is refused, nothing was written.
use Rattle.std.proofs.Common.{◌≡◌, ◌≢◌, ◌⊎◌, ℕ, List, [], Bool, false, Result, Ok, Err, Some, inl, inr, sym, subst, ◌∙◌}
use Rattle.source_text.specs.declared.fault.Fault.TheVariants.{WriteFailed}
use Rattle.commands.specs.declared.command.Command.{Command}
use Rattle.commands.specs.declared.asked_language.AskedLanguage.{AskedLanguage}
use Rattle.commands.specs.declared.refused.Refused.{Refused}
use Rattle.commands.specs.Refused.{no_memory}
use Rattle.lint.specs.Run.{Seen}
use Rattle.shipped_rules.specs.ShippedRules.{RunsByRules}
use Rattle.shipped_rules.proofs.RuleRuns.{nothing_written, well_written}
use Rattle.embedding.specs.Answers.{in_memory}

module _ (command : Command) (asked : AskedLanguage) where
  abbrev over : (text second before after : List ℕ) → Bool → Seen
  over text second before after failed = record {
    given = Some text;
    second = Some second;
    before = Some before;
    after = Some after;
    reader_failed = false;
    second_failed = false;
    writer_failed = failed;
  }

  abbrev RunsSo : Result ℕ Refused → Seen → Type 0
  RunsSo result seen = RunsByRules command asked seen result

  -- the same run, by what its devices are
  same_run : (text second given other before after written : List ℕ) (failed : Bool) (result : Result ℕ Refused) → given ≡ text → other ≡ second → before ≡ [] → after ≡ written
      → failed ≡ false → RunsSo result (over given other before after failed) → RunsSo result (in_memory text second written)
  same_run text second given other before after written failed result is_text is_second empty is_written well run =
      subst (λ (t : List ℕ). RunsSo result (over t second [] written false)) is_text (
      subst (λ (t : List ℕ). RunsSo result (over given t [] written false)) is_second (
      subst (λ (t : List ℕ). RunsSo result (over given other t written false)) empty (
      subst (λ (t : List ℕ). RunsSo result (over given other before t false)) is_written (subst (λ (b : Bool). RunsSo result (over given other before after b)) well run)
      )
      )
      )

  -- a status is that of a run over just these texts
  pub ran_in_memory : (text second given other before after written : List ℕ) (failed : Bool) (status : ℕ) → given ≡ text → other ≡ second → before ≡ [] → after ≡ written
      → RunsSo (Ok status) (over given other before after failed) → RunsSo (Ok status) (in_memory text second written)
  ran_in_memory text second given other before after written failed status is_text is_second empty is_written run =
      same_run text second given other before after written failed (Ok status) is_text is_second empty is_written (well_written command asked (over given other before after failed) status run) run

  -- a refusal is that of one over just these texts, which wrote nothing; or memory was refused
  pub refused_in_memory : (text second given other before after : List ℕ) (failed : Bool) (refused answer : Refused) → given ≡ text → other ≡ second → before ≡ []
      → ((refused.fault ≢ WriteFailed) × (answer ≡ refused)) ⊎ (answer ≡ no_memory) → RunsSo (Err refused) (over given other before after failed)
      → RunsSo (Err answer) (in_memory text second []) ⊎ (answer ≡ no_memory)
  refused_in_memory text second given other before after failed refused answer is_text is_second empty (inl (well, is)) run =
      let found = nothing_written command asked (over given other before after failed) refused well run in
      inl (subst (λ (r : Refused). RunsSo (Err r) (in_memory text second [])) (sym is) (
      same_run text second given other before after [] failed (Err refused) is_text is_second empty (found.1 ∙ empty) found.0 run
      ))
  refused_in_memory text second given other before after failed refused answer is_text is_second empty (inr memory) run = inr memory
