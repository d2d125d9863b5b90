-- Runs over opened files, and files that can't be opened or read.
use Rattle.std.proofs.Common.{◌≡◌, ◌⊎◌, ◌∙◌, ℕ, List, [], Bool, true, false, Option, None, Some, is_some, IfSome, Result, Ok, Err, inl, inr, refl, sym, ap, subst, true≢false}
use Rattle.std.specs.Borrow.{Bor}
use Rattle.std.specs.Option.{option_map}
use Rattle.clap.specs.Words.{Text}
use Rattle.source_text.specs.declared.fault.Fault.TheVariants.{ReadFailed}
use Rattle.commands.specs.declared.asked_language.AskedLanguage.{AskedLanguage}
use Rattle.commands.specs.declared.refused.Refused.{Refused}
use Rattle.command_line.specs.declared.line.Line.{Line}
use Rattle.shipped_rules.proofs.RuleRuns.{failed_reader, without_place}
use Rattle.jslint.specs.Opened.{Contents}
use Rattle.jslint.specs.Program.{IsOfFailed, RunsOnce, RunsOpened, RunsOver, StopsBy, no_file, second_name}
use Rattle.jslint.specs.declared.files.Stop.{Stop}
use Rattle.jslint.specs.declared.files.Stop.TheVariants.{Refuses, Unread}

-- a line that names a second file has one
has_second : (line : Line) (name : Text) → second_name line ≡ Some name → line.second ≡ None → ⊥
has_second line name named none = true≢false (sym (ap is_some named) ∙ ap (λ (second : Option (Bor Text)). is_some (option_map (λ s. s.now) second)) none)

-- a run over one file
pub run_of_one : (gives : Contents) (line : Line) (asked : AskedLanguage) (before after given : Option (List ℕ)) (failed reader_failed : Bool) (result : Result ℕ Refused) → line.second ≡ None → gives line.file.now (Ok given)
    → RunsOver line asked given (Some []) before after reader_failed false failed result → RunsOpened gives line asked before after failed result
run_of_one gives line asked before after given failed reader_failed result alone is runs = record {
  given = given;
  second = Some [];
  reader_failed = reader_failed;
  second_failed = false;
  is_given = is;
  is_second = subst (λ (s : Option (Bor Text)). IfSome (option_map (λ s. s.now) s) (λ name. gives name (Ok (Some [])))) (sym alone) tt;
  unnamed = λ none. (refl, refl);
  runs = runs;
}

-- a run over two
pub run_of_two : (gives : Contents) (line : Line) (asked : AskedLanguage) (name : Text) (before after given second : Option (List ℕ)) (failed reader_failed second_failed : Bool) (result : Result ℕ Refused)
    → second_name line ≡ Some name → gives line.file.now (Ok given) → gives name (Ok second)
    → RunsOver line asked given second before after reader_failed second_failed failed result → RunsOpened gives line asked before after failed result
run_of_two gives line asked name before after given second failed reader_failed second_failed result named is also runs = record {
  given = given;
  second = second;
  reader_failed = reader_failed;
  second_failed = second_failed;
  is_given = is;
  is_second = subst (λ (s : Option Text). IfSome s (λ n. gives n (Ok second))) (sym named) also;
  unnamed = λ none. absurd (has_second line name named none);
  runs = runs;
}

-- the same run, with the refusal that says no more than this
same_run : (gives : Contents) (line : Line) (asked : AskedLanguage) (before after : Option (List ℕ)) (failed : Bool) (refused : Refused) → refused.fault ≡ ReadFailed → (run : RunsOpened gives line asked before after failed (Err refused))
    → RunsOver line asked run.given run.second before after run.reader_failed run.second_failed failed (Err no_file)
same_run gives line asked before after failed refused is run =
    without_place line.command refused.in_second refused.fault refused.line refused.column refused.hint asked _ is run.runs

-- which of the two files failed, by whether the second did
which_failed : (gives : Contents) (line : Line) (asked : AskedLanguage) (before after : Option (List ℕ)) (failed : Bool) (refused : Refused) (unread : Text) (run : RunsOpened gives line asked before after failed (Err refused))
    → (run.second_failed ≡ true → second_name line ≡ Some unread) → (run.second_failed ≡ false → unread ≡ line.file.now)
    → refused.fault ≡ ReadFailed → IsOfFailed line run.reader_failed run.second_failed unread
which_failed gives line asked before after failed refused unread run named alone is =
    elim (failed_reader line.command asked _ (same_run gives line asked before after failed refused is run)) [
      | inl first ↦ inl (first.0, alone first.1)
      | inr second ↦ inr (second, named second)
    ]

-- what becomes of a refusal
stopped : (gives : Contents) (line : Line) (asked : AskedLanguage) (before after : Option (List ℕ)) (failed : Bool) (refused : Refused) (unread : Text) (run : RunsOpened gives line asked before after failed (Err refused))
    → (refused.fault ≡ ReadFailed → IsOfFailed line run.reader_failed run.second_failed unread) → (stop : Stop) → StopsBy refused unread stop → RunsOnce gives line asked before after failed (Err stop)
stopped gives line asked before after failed refused unread run which (Refuses same) (other, is) =
    (subst (λ r. r.fault ≡ ReadFailed → ⊥) (sym is) other, subst (λ r. RunsOpened gives line asked before after failed (Err r)) (sym is) run)
stopped gives line asked before after failed refused unread run which (Unread name failure) (is, named, behind) = inr (
  record {
    given = run.given;
    second = run.second;
    reader_failed = run.reader_failed;
    second_failed = run.second_failed;
    is_given = run.is_given;
    is_second = run.is_second;
    unnamed = run.unnamed;
    runs = same_run gives line asked before after failed refused is run;
  },
  subst (IsOfFailed line run.reader_failed run.second_failed) (sym named) (which is),
  behind,
)

-- of a run over one file
pub stopped_one : (gives : Contents) (line : Line) (asked : AskedLanguage) (before after given : Option (List ℕ)) (failed reader_failed : Bool) (refused : Refused) → line.second ≡ None → gives line.file.now (Ok given)
    → RunsOver line asked given (Some []) before after reader_failed false failed (Err refused) → (stop : Stop) → StopsBy refused line.file.now stop → RunsOnce gives line asked before after failed (Err stop)
unfolding run_of_one
stopped_one gives line asked before after given failed reader_failed refused alone is runs stop by =
    let run = run_of_one gives line asked before after given failed reader_failed (Err refused) alone is runs in
    stopped gives line asked before after failed refused line.file.now run (which_failed gives line asked before after failed refused line.file.now run (λ fails. absurd (true≢false (sym fails))) (λ well. refl)) stop by

-- and of one over two
pub stopped_two : (gives : Contents) (line : Line) (asked : AskedLanguage) (name unread : Text) (before after given second : Option (List ℕ)) (failed reader_failed second_failed : Bool) (refused : Refused)
    → second_name line ≡ Some name → gives line.file.now (Ok given) → gives name (Ok second)
    → RunsOver line asked given second before after reader_failed second_failed failed (Err refused)
    → (second_failed ≡ true → second_name line ≡ Some unread) → (second_failed ≡ false → unread ≡ line.file.now) → (stop : Stop) → StopsBy refused unread stop → RunsOnce gives line asked before after failed (Err stop)
unfolding run_of_two
stopped_two gives line asked name unread before after given second failed reader_failed second_failed refused named is also runs of_second of_first stop by =
    let run = run_of_two gives line asked name before after given second failed reader_failed second_failed (Err refused) named is also runs in
    stopped gives line asked before after failed refused unread run (which_failed gives line asked before after failed refused unread run of_second of_first) stop by
