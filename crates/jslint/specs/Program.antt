-- Runs of a command by the program.
use Rattle.std.specs.Prelude.{◌≡◌, ◌≢◌, ◌⊎◌, List, [], ℕ, Bool, false, true, Option, None, Some, IfSome, Result, Ok, Err, option_map}
use Rattle.std.specs.Io.KnownBytes.{Keeps}
use Rattle.clap.specs.Words.{HasKind, Text, fault_of, kind_of, subcommand_of}
use Rattle.clap.specs.declared.error.Error.{Error}
use Rattle.clap.specs.declared.error.kind.ErrorKind.{ErrorKind}
use Rattle.clap.specs.declared.error.kind.ErrorKind.TheVariants as error_kind
use Rattle.source_text.specs.declared.fault.Fault.{Fault}
use Rattle.source_text.specs.declared.fault.Fault.TheVariants.{OutOfMemory, ReadFailed, Usage, WriteFailed}
use Rattle.command_line.specs.CommandLine.{Chooses, is_asked_for, jslint_app, not_utf8_line}
use Rattle.command_line.specs.AskedLanguage.{asked_of, mistake_line}
use Rattle.command_line.specs.declared.asked_language.OptionMistake.{OptionMistake}
use Rattle.command_line.specs.Tip.{WritesMistake, tip_of}
use Rattle.command_line.specs.Unread.{unread_line}
use Rattle.command_line.specs.declared.line.Line.{Line}
use Rattle.command_line.specs.declared.unread.ReadFailure.{ReadFailure}
use Rattle.command_line.specs.declared.unread.ReadFailure.TheVariants.{Twice}
use Rattle.shipped_rules.specs.ShippedRules.{RunsByRules}
use Rattle.commands.specs.Refusal.{WritesLine, refusal_line, status_of}
use Rattle.commands.specs.Refused.{at_no_place}
use Rattle.commands.specs.declared.asked_language.AskedLanguage.{AskedLanguage}
use Rattle.commands.specs.declared.refused.Refused.{Refused}
use Rattle.commands.specs.Refused.{no_memory}
use Rattle.commands.specs.declared.command.Command.{Command}
use Rattle.many_files.specs.ManyFiles.{Seen, TellsEach}
use Rattle.many_files.specs.Names.{names_of}
use Rattle.jslint.specs.ListRun.{StopsList, TellsFile, TellsListed}
pub use Rattle.jslint.specs.LineFiles.{IsFailure, IsNamed, IsOfOpened, failure_of, is_twice, second_name}
use Rattle.jslint.specs.Opened.{Contents}
use Rattle.jslint.specs.declared.files.Stop.{Stop}
use Rattle.jslint.specs.declared.files.Stop.TheVariants.{Refuses, Unread}

-- a file can't be opened or read
abbrev pub no_file : Refused
no_file = at_no_place ReadFailed

-- a run of a line's command in a language, by what its two readers have to give and what its writer took, and which of them has failed
abbrev pub RunsOver : Line → AskedLanguage → (given second before after : Option (List ℕ)) → (reader_failed second_failed writer_failed : Bool) → Result ℕ Refused → Type 0
RunsOver line asked given second before after reader_failed second_failed writer_failed result = RunsByRules line.command asked (record {
  given = given;
  second = second;
  before = before;
  after = after;
  reader_failed = reader_failed;
  second_failed = second_failed;
  writer_failed = writer_failed;
}) result

-- A run over the files of a line, which were opened, by what the writer took before and after, and whether it has failed. What was read is
-- what there is to read under their names; a second file that isn't named is empty, and doesn't fail.
pub record RunsOpened (gives : Contents) (line : Line) (asked : AskedLanguage) (before after : Option (List ℕ)) (failed : Bool) (result : Result ℕ Refused) : Type 0 where
  pub given : Option (List ℕ)
  pub second : Option (List ℕ)
  pub reader_failed : Bool
  pub second_failed : Bool
  pub is_given : gives line.file.now (Ok given)
  pub is_second : IfSome (second_name line) (λ name. gives name (Ok second))
  pub unnamed : line.second ≡ None → (second ≡ Some []) × (second_failed ≡ false)
  pub runs : RunsOver line asked given second before after reader_failed second_failed failed result

-- a file that can't be opened is one of the line, its opening failed, and nothing was written
abbrev pub IsUnopened : Contents → Line → Option (List ℕ) → Option (List ℕ) → Bool → Text → ReadFailure → Type 0
IsUnopened gives line before after failed name failure =
    (failed ≡ false) × Keeps before after × IsNamed line name × IsFailure gives name failure

-- the name is that of the file whose reader failed
abbrev pub IsOfFailed : Line → Bool → Bool → Text → Type 0
IsOfFailed line reader_failed second_failed name =
    ((reader_failed ≡ true) × (name ≡ line.file.now)) ⊎ ((second_failed ≡ true) × (second_name line ≡ Some name))

-- a run over opened files was refused since one failed, and that is the file of this name
abbrev pub IsUnread : Contents → Line → AskedLanguage → Option (List ℕ) → Option (List ℕ) → Bool → Text → ReadFailure → Type 0
IsUnread gives line asked before after failed name failure =
    (run : RunsOpened gives line asked before after failed (Err no_file)) × IsOfFailed line run.reader_failed run.second_failed name × IsOfOpened failure

-- A run over the files of a line: its status; or its refusal; or the name of the file that can't be opened or read, for which there is no
-- other refusal.
abbrev pub RunsOnce : Contents → Line → AskedLanguage → Option (List ℕ) → Option (List ℕ) → Bool → Result ℕ Stop → Type 0
RunsOnce gives line asked before after failed (Ok status) = RunsOpened gives line asked before after failed (Ok status)
RunsOnce gives line asked before after failed (Err (Refuses refused)) = (refused.fault ≢ ReadFailed) × RunsOpened gives line asked before after failed (Err refused)
RunsOnce gives line asked before after failed (Err (Unread name failure)) = IsUnopened gives line before after failed name.now failure ⊎ IsUnread gives line asked before after failed name.now failure

-- a line whose files are both standard input is refused for that; nothing was written
abbrev pub RefusesTwice : Line → Option (List ℕ) → Option (List ℕ) → Bool → Result ℕ Stop → Type 0
RefusesTwice line before after failed (Err (Unread name Twice)) = (failed ≡ false) × Keeps before after × (name.now ≡ line.file.now)
RefusesTwice line before after failed other = ⊥

-- a run over the files of a line: standard input is read once
abbrev pub RunsOnFiles : Contents → Line → AskedLanguage → Option (List ℕ) → Option (List ℕ) → Bool → Result ℕ Stop → Type 0
RunsOnFiles gives line asked before after failed result =
    ((is_twice line ≡ true) × RefusesTwice line before after failed result) ⊎ ((is_twice line ≡ false) × RunsOnce gives line asked before after failed result)

-- what becomes of a refusal of a run over opened files, by the name of the file that failed, where one did
abbrev pub StopsBy : Refused → Text → Stop → Type 0
StopsBy refused unread (Refuses same) = (refused.fault ≢ ReadFailed) × (same ≡ refused)
StopsBy refused unread (Unread name failure) = (refused.fault ≡ ReadFailed) × (name.now ≡ unread) × IsOfOpened failure

-- a refusal has words of its own
abbrev pub IsTold : Stop → Type 0
IsTold (Refuses refused) = refused.fault ≢ Usage
IsTold (Unread name failure) = Unit {0}

-- ---- the program

-- What is seen of a writer: the bytes that it took before and after, where it tells them, and whether it has failed.
pub record Written : Type 0 where
  pub before : Option (List ℕ)
  pub after : Option (List ℕ)
  pub failed : Bool

-- what is seen of a writer, by what it tells before a call and after it
abbrev pub written : {W : Type 0} → (W → Option (List ℕ)) → (W → Bool) → W → W → Written
written taken failed old new = record { before = taken old; after = taken new; failed = failed new }

-- nothing was written
abbrev pub IsKept : Written → Type 0
IsKept writer = writer.after ≡ writer.before

-- a line, or a beginning of it and the writer has failed
abbrev pub GetsLine : List ℕ → Written → Type 0
GetsLine line writer = WritesLine line writer.before writer.after writer.failed

-- a run's status is the program's, or its refusal is, which is said in a line; for a file that can't be opened or read the line has its
-- name, and why, as far as the system told
abbrev pub Ends : Result ℕ Stop → Written → ℕ → Type 0
Ends (Ok done) errors status = (status ≡ done) × IsKept errors
Ends (Err (Refuses refused)) errors status = (status ≡ status_of refused.fault) × GetsLine (refusal_line refused) errors
Ends (Err (Unread name failure)) errors status = (status ≡ status_of ReadFailed) × GetsLine (unread_line name.now failure) errors

-- a line was run over its files
abbrev pub RunsFiles : Contents → Line → AskedLanguage → Written → Written → ℕ → Type 0
RunsFiles gives line asked output errors status =
    (answer : Result ℕ Stop) × RunsOnFiles gives line asked output.before output.after output.failed answer × Ends answer errors status

-- what is seen of a writer that hadn't failed before
abbrev pub seen_of : Written → Seen
seen_of writer = record { before = writer.before; after = writer.after; had_failed = false; failed = writer.failed }

-- each file that a list names was told of, or it was said that memory was refused for their places
abbrev pub TellsNames : Contents → Command → AskedLanguage → (settings list : List ℕ) → Written → Written → ℕ → Type 0
TellsNames gives command asked settings list output errors status =
    TellsEach (TellsFile gives command asked settings) (names_of list) (seen_of output) (seen_of errors) status
    ⊎ (IsKept output × Ends (Err (Refuses no_memory)) errors status)

-- each file of the line's list was told of; or why none was is said, and nothing was written
abbrev pub RunsList : Contents → Line → AskedLanguage → Written → Written → ℕ → Type 0
RunsList gives line asked output errors status =
    TellsListed gives line asked (seen_of output) (seen_of errors) status
    ⊎ ((stop : Stop) × StopsList gives line asked stop × IsKept output × Ends (Err stop) errors status)

-- a line was run over its files, or over those of its list
abbrev pub RunsInLanguage : Bool → Contents → Line → AskedLanguage → Written → Written → ℕ → Type 0
RunsInLanguage false gives line asked output errors status = RunsFiles gives line asked output errors status
RunsInLanguage true gives line asked output errors status = RunsList gives line asked output errors status

-- it was run in the language that it asks for, or it was said that its options ask for none
abbrev pub RunsLineIn : Contents → Line → Result AskedLanguage OptionMistake → Written → Written → ℕ → Type 0
RunsLineIn gives line (Ok asked) output errors status = RunsInLanguage line.is_list gives line asked output errors status
RunsLineIn gives line (Err mistake) output errors status = IsKept output × (status ≡ 2) × GetsLine (mistake_line mistake) errors

abbrev pub RunsLine : Contents → Line → Written → Written → ℕ → Type 0
RunsLine gives line output errors status =
    RunsLineIn gives line (asked_of (option_map (λ s. s.now) line.commas) (option_map (λ s. s.now) line.edition) line.is_module line.is_any) output errors status

-- the words are a line, which was run
abbrev pub RunsWords : Contents → List Text → Written → Written → ℕ → Type 0
RunsWords gives words output errors status =
    (line : Line) × Chooses (subcommand_of jslint_app words) line × RunsLine gives line output errors status

-- Why the words are no line was said: memory was refused, which has its line; help or the version was asked for, and shown or not, which
-- has its line too; or the words are wrong, and what is said ends with a tip, where there is one.
abbrev pub Explains : List Text → ErrorKind → Written → ℕ → Type 0
Explains words kind errors status =
    (kind ≡ error_kind.OutOfMemory → GetsLine (refusal_line (at_no_place OutOfMemory)) errors)
    × (is_asked_for kind ≡ false → (status ≡ 2) × WritesMistake (tip_of kind words) errors.before errors.after errors.failed)
    × (is_asked_for kind ≡ true → ((status ≡ 0) × IsKept errors) ⊎ ((status ≡ 2) × GetsLine (refusal_line (at_no_place WriteFailed)) errors))

-- the words are no line, for a reason that they have or for want of memory
abbrev pub ExplainsWords : List Text → Written → Written → ℕ → Type 0
ExplainsWords words output errors status =
    IsKept output × ((error : Error) × HasKind (fault_of jslint_app words) error × Explains words (kind_of error) errors status)

-- what the program does by its words, its name first
abbrev pub Obeys : Contents → List Text → Written → Written → ℕ → Type 0
Obeys gives words output errors status = RunsWords gives words output errors status ⊎ ExplainsWords words output errors status

-- why there are no words was said: memory was refused for them, or one isn't UTF-8
abbrev pub NoWordsSaid : Written → ℕ → Type 0
NoWordsSaid errors status = (status ≡ 2) × (GetsLine (refusal_line (at_no_place OutOfMemory)) errors ⊎ GetsLine not_utf8_line errors)

-- what the program does by the words that the system has for it
abbrev pub Answers : Contents → Written → Written → ℕ → Type 0
Answers gives output errors status = ((words : List Text) × Obeys gives words output errors status) ⊎ (IsKept output × NoWordsSaid errors status)
