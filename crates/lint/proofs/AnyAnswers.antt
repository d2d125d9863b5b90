-- From what was read to the answer of a run where each language is tried.
use Rattle.std.proofs.Common.{◌≡◌, ◌≢◌, ◌∙◌, ℕ, List, Bool, false, true, Option, Result, Ok, Err, inl, inr, refl, sym, subst}
use Rattle.std.specs.Prelude.{IsSome}
use Rattle.std.specs.Io.KnownBytes.{Appends, Keeps}
use Rattle.source_text.specs.Source.{IsRefusal, max_bytes}
use Rattle.source_text.specs.Writing.{AppendsBeginning}
use Rattle.source_text.specs.declared.fault.Fault.{Fault}
use Rattle.source_text.specs.declared.fault.Fault.TheVariants.{NotUtf8, TooLong, Syntax, TooDeep, Early, OutOfMemory, ReadFailed, BadTable, UnwrapFailed, FormatFailed, WriteFailed}
use Rattle.commands.specs.declared.asked_language.AskedLanguage.{AskedLanguage}
use Rattle.commands.specs.declared.asked_language.AskedLanguage.TheVariants.{Said, Any}
use Rattle.commands.specs.declared.command.Command.{Command}
use Rattle.commands.specs.declared.command.Command.TheVariants.{Check, Mend, Same}
use Rattle.commands.specs.declared.command.ReportForm.{ReportForm}
use Rattle.commands.specs.declared.hint.Hint.{Hint}
use Rattle.commands.specs.declared.hint.Hint.TheVariants.{Nothing}
use Rattle.commands.specs.declared.refused.Refused.{Refused}
use Rattle.commands.specs.Refused.{at_no_place, place_of}
use Rattle.commands.specs.WholeTexts.{ReadsUpTo}
use Rattle.language.specs.declared.Language.{Language}
use Rattle.tree.specs.declared.kind.Pair.{Pair}
use Rattle.tree.specs.Tree.{Tree}
use Rattle.rules.specs.Reports.{Report}
use Rattle.rules.specs.Rules.{View}
use Rattle.rules.specs.Settings.{Settings}
use Rattle.lint.specs.declared.answer.Answer.{Answer}
use Rattle.lint.specs.declared.any_language.RefusedIn.{RefusedIn}
use Rattle.lint.specs.AnyLanguage.{IsFirst, IsTold, RefusesEach, Tries, hint_in}
use Rattle.lint.specs.AnyRuns.{ReadsFirst, RefusesAny, RefusesAnyIn, RunsAsked}
use Rattle.lint.specs.AnySteps.{AnswersAny, AnswersAsked, AnswersRead, AnswersUnder, RefusesRead}
use Rattle.lint.specs.Mendings.{Mended}
use Rattle.lint.specs.Outputs.{HasSettings, IsSecond, second_limit}
use Rattle.lint.specs.ReadScripts.{IsReading, RefusesReading}
use Rattle.lint.specs.Run.{IsSource, NoneFailed, Seen}
use Rattle.lint.specs.Steps.{Answers, AnswersSame, IsBefore, IsRead, LacksSettings, ReadsSettings, ReportsLines, output_of, status_of}
use Rattle.lint.proofs.AnyLanguages.{furthest_refuses}
use Rattle.lint.proofs.CheckAnswers.{outputs}
use Rattle.lint.proofs.RunAnswers.{all_read, more_given, script_read, settled_limit, settled_second}

-- ---- commands with settings

-- what `check` answers under settings that were read
pub check_read : (finds : View → List Report) (form : ReportForm) (language : Language) (text : List ℕ) (n : Tree) (P : List Pair) (given : Option (List ℕ)) (settings : Settings) (answer : Answer) (failed : Bool)
    → ReadsSettings given (Ok settings) failed → ReportsLines finds form language text n P settings answer → Answers finds language (Check form) text n P given (Ok answer) failed
check_read finds form language text n P given settings answer failed (well, (second, is, utf8, are)) lines =
    (well, (second, is, outputs finds form language text n P second settings answer utf8 are lines))

-- what `mend` answers
pub mend_read : (finds : View → List Report) (language : Language) (text : List ℕ) (n : Tree) (P : List Pair) (given : Option (List ℕ)) (settings : Settings) (answer : Answer) (failed : Bool)
    → ReadsSettings given (Ok settings) failed → Mended finds language settings text (output_of answer) → status_of answer ≡ 0 → Answers finds language Mend text n P given (Ok answer) failed
mend_read finds language text n P given settings answer failed (well, (second, is, utf8, are)) mended status =
    (well, (second, is, (record { settings = settings; utf8 = utf8; are_settings = are; mended = mended }, status)))

-- a command with settings, or one that is `same`, answers as that does
pub under_is_read : (finds : View → List Report) (command own : Command) (language : Language) (text : List ℕ) (n : Tree) (P : List Pair) (given : Option (List ℕ)) (result : Result Answer Refused) (failed : Bool)
    → command ≡ own → HasSettings own → AnswersUnder finds own language text n P given result failed → AnswersRead finds language command text n P given result failed
under_is_read finds command own language text n P given (Ok answer) failed is settled answers = subst (λ (k : Command). Answers finds language k text n P given (Ok answer) failed) (sym is) answers
under_is_read finds command own language text n P given (Err refused) failed is settled lacks = inr (inl (subst HasSettings (sym is) settled, lacks))

pub same_is_read : (finds : View → List Report) (command : Command) (language : Language) (text : List ℕ) (n : Tree) (P : List Pair) (given : Option (List ℕ)) (result : Result Answer Refused) (failed : Bool)
    → command ≡ Same → AnswersSame language n given result failed → AnswersRead finds language command text n P given result failed
same_is_read finds command language text n P given (Ok answer) failed is (well, (second, of_second, compares, empty)) =
    subst (λ (k : Command). Answers finds language k text n P given (Ok answer) failed) (sym is) (well, (second, of_second, (compares, empty)))
same_is_read finds command language text n P given (Err refused) failed is answers = inr (inr (is, answers))

-- ---- a script that was read

module _ (finds : View → List Report) (command : Command) (bytes : List ℕ) (second : Option (List ℕ)) (language : Language) (n : Tree) (P : List Pair) (source : IsSource bytes) (first : IsFirst bytes language) (reading : IsReading language bytes n P) where
  -- the script and its second file, in the first language
  reads_first : (given : Option (List ℕ)) (read : List ℕ) → IsRead given bytes → IsSecond command second read → ReadsFirst command given second
  unfolding script_read
  reads_first given read is also = record {
    language = language;
    read = record { script = script_read language given bytes n P is source reading; second = read; is_second = also };
    is_first = first;
  }

  pub read_answers : (answer : Answer) (failed : Bool) → Answers finds language command bytes n P second (Ok answer) failed → AnswersAny finds command bytes second (Ok answer) failed
  unfolding reads_first script_read
  read_answers answer failed (well, (read, is, output)) = (well, λ given given_is. (reads_first given read given_is is, output))

  module _ (failed : Bool) (seen : Seen) (before : IsBefore bytes second failed seen) where
    none : failed ≡ false → NoneFailed seen
    none well = (before.reader, before.of_failed ∙ well, before.writer)

    reads_seen : (read : List ℕ) → IsSecond command second read → ReadsFirst command seen.given seen.second
    unfolding script_read
    reads_seen read is = record {
      language = language;
      read = record { script = script_read language seen.given bytes n P before.read source reading; second = read; is_second = subst (λ o. IsSecond command o read) (sym before.of_second) is };
      is_first = first;
    }

    -- it is refused by its command
    fault_refused : (fault : Fault) → Answers finds language command bytes n P second (Err fault) failed → RefusesAny finds command seen fault (0, 0) Nothing
    unfolding reads_seen script_read
    fault_refused ReadFailed (fails, some) =
        (before.writer, before.kept, inr (before.reader, before.of_failed ∙ fails, some, (language, script_read language seen.given bytes n P before.read source reading, first)), (refl, refl))
    fault_refused OutOfMemory well = (none well, before.kept, (refl, refl))
    fault_refused (BadTable row why) (well, (read, is, refuses)) = (none well, before.kept, (reads_seen read is, refuses), (refl, refl))
    fault_refused UnwrapFailed (well, (read, is, refuses)) = (none well, before.kept, (reads_seen read is, refuses), (refl, refl))
    fault_refused FormatFailed (well, (read, is, refuses)) = (none well, before.kept, (reads_seen read is, refuses), (refl, refl))
    fault_refused TooLong (well, (read, is, refuses)) = (none well, before.kept, inr (reads_seen read is, refuses), (refl, refl))
    fault_refused _ answers = absurd answers.1.2

    abbrev RefusesSo : Refused → Type 0
    RefusesSo refused = RefusesAnyIn refused.in_second finds command seen refused.fault (refused.line, refused.column) refused.hint

    -- it lacks its settings
    settings_refused : (refused : Refused) → HasSettings command → LacksSettings second refused failed → RefusesSo refused
    unfolding reads_seen script_read
    settings_refused refused settled (inl (fails, same)) =
        subst RefusesSo (sym same)
        (before.writer, before.kept, inr (before.reader, before.of_failed ∙ fails, settled_limit command settled, (language, script_read language seen.given bytes n P before.read source reading, first)), (refl, refl))
    settings_refused refused settled (inr (well, inl same)) = subst RefusesSo (sym same) (none well, before.kept, (refl, refl))
    settings_refused refused settled (inr (well, inr (read, of_second, why))) =
        subst (λ (b : Bool). RefusesAnyIn b finds command seen refused.fault (refused.line, refused.column) refused.hint) (sym why.1)
        (subst (λ (f : Fault). RefusesAny finds command seen f (refused.line, refused.column) refused.hint) (sym why.0)
        (none well, before.kept, (reads_seen read (settled_second command settled second read of_second), settled, why.3), why.2))

    -- `same` has no other script for it
    other_refused : (refused : Refused) → command ≡ Same → AnswersSame language n second (Err refused) failed → RefusesSo refused
    unfolding reads_seen script_read
    other_refused refused is (inl (fails, same)) =
        subst RefusesSo (sym same)
        (before.writer, before.kept, inr (before.reader, before.of_failed ∙ fails, subst (λ (k : Command). IsSome (second_limit k)) (sym is) refl, (language, script_read language seen.given bytes n P before.read source reading, first)), (refl, refl))
    other_refused refused is (inr (well, inl same)) = subst RefusesSo (sym same) (none well, before.kept, (refl, refl))
    other_refused refused is (inr (well, inr (read, of_second, why))) =
        subst (λ (b : Bool). RefusesAnyIn b finds command seen refused.fault (refused.line, refused.column) refused.hint) (sym why.0)
        (is, why.1, none well, before.kept, (reads_seen read (subst (λ (k : Command). IsSecond k second read) (sym is) of_second), why.2, why.3, why.4))

    refused_read : (refused : Refused) → RefusesRead finds language command bytes n P second refused failed → RefusesSo refused
    refused_read refused (inl (fault, same, answers)) = subst RefusesSo (sym same) (fault_refused fault answers)
    refused_read refused (inr (inl (settled, lacks))) = settings_refused refused settled lacks
    refused_read refused (inr (inr (is, answers))) = other_refused refused is answers

  -- what is answered of it
  pub script_answers : (result : Result Answer Refused) (failed : Bool) → AnswersRead finds language command bytes n P second result failed → AnswersAny finds command bytes second result failed
  script_answers (Ok answer) failed answers = read_answers answer failed answers
  script_answers (Err refused) failed refuses = λ seen before. refused_read failed seen before refused refuses

-- ---- a text that is refused

module _ (finds : View → List Report) (command : Command) (bytes : List ℕ) (second : Option (List ℕ)) where
  -- bytes that are no source text
  pub bytes_refused : (fault : Fault) (failed : Bool) (seen : Seen) → failed ≡ false → IsRefusal bytes fault → IsBefore bytes second failed seen → RefusesAny finds command seen fault (0, 0) Nothing
  bytes_refused TooLong failed seen well refused before =
      let found = more_given seen.given bytes before.read refused in
      ((before.reader, before.of_failed ∙ well, before.writer), before.kept, inl found, (refl, refl))
  bytes_refused (NotUtf8 at) failed seen well refused before =
      ((before.reader, before.of_failed ∙ well, before.writer), before.kept, (bytes, all_read seen.given bytes before.read refused.0, refused), (refl, refl))
  bytes_refused _ failed seen well refused before = absurd refused

  -- a text that each language refuses
  each_refused : (language : Language) (fault : Fault) (place : ℕ × ℕ) (hint : Hint) (failed : Bool) (seen : Seen) → failed ≡ false → IsSource bytes → IsBefore bytes second failed seen
      → RefusesReading language bytes fault → fault ≢ OutOfMemory → RefusesEach bytes (record { language = language; fault = fault }) → place ≡ place_of bytes fault → hint ≡ hint_in language
      → RefusesAny finds command seen fault place hint
  each_refused language (Syntax at) place hint failed seen well source before why other each is said =
      ((before.reader, before.of_failed ∙ well, before.writer), before.kept, (bytes, all_read seen.given bytes before.read source.1, source, (language, each, said), is))
  each_refused language TooDeep place hint failed seen well source before why other each is said =
      ((before.reader, before.of_failed ∙ well, before.writer), before.kept, (bytes, all_read seen.given bytes before.read source.1, source, (language, each, said), is))
  each_refused language (Early number at) place hint failed seen well source before why other each is said =
      ((before.reader, before.of_failed ∙ well, before.writer), before.kept, (bytes, all_read seen.given bytes before.read source.1, source, (language, each, said), is))
  each_refused language OutOfMemory place hint failed seen well source before why other each is said = absurd (other refl)
  each_refused language _ place hint failed seen well source before why other each is said = absurd why

  abbrev RunRefuses : Seen → Refused → Type 0
  RunRefuses seen refused = RefusesAnyIn refused.in_second finds command seen refused.fault (refused.line, refused.column) refused.hint

  -- so the run is refused
  pub text_refused : (refused : RefusedIn) (told : Refused) (failed : Bool) → failed ≡ false → IsSource bytes → Tries bytes (Err refused) → IsTold bytes refused told → AnswersAny finds command bytes second (Err told) failed
  text_refused refused told failed well source tries (inl (memory, same)) = λ seen before.
      subst (RunRefuses seen) (sym same) ((before.reader, before.of_failed ∙ well, before.writer), before.kept, (refl, refl))
  text_refused refused told failed well source (inl memory) (inr is) = absurd (is.0 memory)
  text_refused refused told failed well source (inr each) (inr (other, fault, second_is, place, hint)) = λ seen before.
      subst (λ (b : Bool). RefusesAnyIn b finds command seen told.fault (told.line, told.column) told.hint) (sym second_is)
      (subst (λ (f : Fault). RefusesAny finds command seen f (told.line, told.column) told.hint) (sym fault)
      (each_refused refused.language refused.fault (told.line, told.column) told.hint failed seen well source before (furthest_refuses bytes refused each).1 other each place hint))

-- what is answered of a text is answered of the bytes that it is
pub any_of_bytes : (finds : View → List Report) (command : Command) (text bytes : List ℕ) (second : Option (List ℕ)) (result : Result Answer Refused) (failed : Bool) → text ≡ bytes
    → AnswersAny finds command text second result failed → AnswersAny finds command bytes second result failed
any_of_bytes finds command text bytes second result failed same answers = subst (λ (t : List ℕ). AnswersAny finds command t second result failed) same answers

-- ---- the run

module _ (finds : View → List Report) (command : Command) (asked : AskedLanguage) (bytes : List ℕ) (given second before after : Option (List ℕ)) (reader_failed second_failed writer_failed : Bool) where
  abbrev seen : Seen
  seen = record {
    given = given;
    second = second;
    before = before;
    after = after;
    reader_failed = reader_failed;
    second_failed = second_failed;
    writer_failed = writer_failed;
  }

  -- the whole output was written
  pub asked_writes : (answer : Answer) (status : ℕ) → IsRead given bytes → reader_failed ≡ false → writer_failed ≡ false → status ≡ status_of answer → Appends before after (output_of answer)
      → AnswersAsked finds command asked bytes second (Ok answer) second_failed → RunsAsked finds command asked seen (Ok status)
  unfolding RunsAsked
  asked_writes answer status read reader writer is appends answers = of asked answers
    where
      of : (how : AskedLanguage) → AnswersAsked finds command how bytes second (Ok answer) second_failed → RunsAsked finds command how seen (Ok status)
      of (Said choice) (well, has) = ((reader, well, writer), (output_of answer, rw is (has given read), appends))
      of Any (well, has) = ((reader, well, writer), (output_of answer, rw is (has given read), appends))

  -- a beginning of it was
  pub asked_begins : (answer : Answer) → IsRead given bytes → reader_failed ≡ false → writer_failed ≡ true → AppendsBeginning before after (output_of answer)
      → AnswersAsked finds command asked bytes second (Ok answer) second_failed → RunsAsked finds command asked seen (Err (at_no_place WriteFailed))
  unfolding RunsAsked
  asked_begins answer read reader writer begins answers = of asked answers
    where
      of : (how : AskedLanguage) → AnswersAsked finds command how bytes second (Ok answer) second_failed → RunsAsked finds command how seen (Err (at_no_place WriteFailed))
      of (Said choice) (well, has) = (reader, well, writer, (output_of answer, status_of answer, has given read, begins), (refl, refl))
      of Any (well, has) = (reader, well, writer, (output_of answer, status_of answer, has given read, begins), (refl, refl))

  -- nothing was
  pub asked_refuses : (refused : Refused) → IsBefore bytes second second_failed seen → AnswersAsked finds command asked bytes second (Err refused) second_failed → RunsAsked finds command asked seen (Err refused)
  unfolding RunsAsked
  asked_refuses refused is answers = of asked answers
    where
      of : (how : AskedLanguage) → AnswersAsked finds command how bytes second (Err refused) second_failed → RunsAsked finds command how seen (Err refused)
      of (Said choice) refuses = refuses seen is
      of Any refuses = refuses seen is

  -- the first file can't be read
  pub asked_unread : (fault : Fault) → ReadsUpTo max_bytes given (Err fault) reader_failed → second_failed ≡ false → writer_failed ≡ false → Keeps before after
      → RunsAsked finds command asked seen (Err (at_no_place fault))
  unfolding RunsAsked
  asked_unread fault read well writer kept = of asked fault read
    where
      of : (how : AskedLanguage) (why : Fault) → ReadsUpTo max_bytes given (Err why) reader_failed → RunsAsked finds command how seen (Err (at_no_place why))
      of (Said choice) ReadFailed fails = (writer, kept, inl (fails, well), (refl, refl))
      of (Said choice) OutOfMemory none = (inl (none, well, writer), kept, (refl, refl))
      of (Said choice) _ other = absurd other
      of Any ReadFailed fails = (writer, kept, inl (fails, well), (refl, refl))
      of Any OutOfMemory none = ((none, well, writer), kept, (refl, refl))
      of Any _ other = absurd other
