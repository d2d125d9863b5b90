-- Runs over the files of a list.
use Rattle.std.proofs.Common.{◌≡◌, ◌∙◌, ℕ, List, Bool, true, false, Option, Some, inl, inr, refl, sym, ap, subst}
use Rattle.std.specs.Borrow.{Bor}
use Rattle.std.specs.Option.{option_map}
use Rattle.std.specs.Prelude.{IfErr, IfOk, Result, Ok, Err, Vec}
use Rattle.std.specs.declared.alloc.Global.{Global}
use Rattle.std.specs.Str.{IsUtf8}
use Rattle.std.specs.declared.alloc.AllocError.{AllocError}
use Rattle.clap.specs.Words.{Text}
use Rattle.source_text.specs.Source.{max_bytes}
use Rattle.source_text.specs.declared.fault.Fault.{Fault}
use Rattle.source_text.specs.declared.fault.Fault.TheVariants.{OutOfMemory, ReadFailed, Usage}
use Rattle.commands.specs.Refused.{at_no_place, no_memory}
use Rattle.commands.specs.WholeTexts.{ReadsUpTo}
use Rattle.commands.specs.declared.command.Command.{Command}
use Rattle.commands.specs.declared.asked_language.AskedLanguage.{AskedLanguage}
use Rattle.commands.specs.declared.refused.Refused.{Refused}
use Rattle.command_line.specs.Shown.{escaped_name, shown_bytes}
use Rattle.command_line.specs.declared.line.Line.{Line}
use Rattle.command_line.specs.declared.unread.ReadFailure.{ReadFailure}
use Rattle.command_line.specs.declared.unread.ReadFailure.TheVariants.{InList, NotUtf8}
use Rattle.many_files.specs.ManyFiles.{Alone, Seen, TellsEach, TellsOne, Told}
use Rattle.named_answers.specs.NamedAnswers.{Answers, Tells, told_of, told_unread}
use Rattle.named_answers.specs.declared.Telling.{Telling}
use Rattle.jslint.specs.ListRun.{CannotRead, HasSettings, Holds, HoldsAny, IsTelling, StopsFile, StopsList, StopsReading, answered, input, misnamed, no_memory_for, told_stop, unread}
use Rattle.jslint.specs.Opened.{Contents, is_input}
use Rattle.jslint.specs.Program.{IsTold, RunsList, StopsBy, TellsNames, Written}
use Rattle.jslint.specs.declared.files.Stop.{Stop}
use Rattle.jslint.specs.declared.files.Stop.TheVariants.{Refuses, Unread}

-- what a read of an opened file stops at
pub stops_reading : (gives : Contents) (name : Text) (given : Option (List ℕ)) (fault : Fault) (failed : Bool) (refused : Refused) (stop : Stop)
    → gives name (Ok given) → refused ≡ at_no_place fault → ReadsUpTo max_bytes given (Err fault) failed → StopsBy refused name stop → StopsReading gives name stop
stops_reading gives name given fault failed refused (Unread other failure) is at reads (of, named, behind) = (named, inr (behind, (given, is)))
stops_reading gives name given OutOfMemory failed refused (Refuses same) is at reads (other, e) = e ∙ at
stops_reading gives name given ReadFailed failed refused (Refuses same) is at reads (other, e) = absurd (other (ap (λ r. r.fault) at))
stops_reading gives name given fault failed refused (Refuses same) is at reads by = absurd reads

same_told : (told : Told) (output errors : List ℕ) (status : ℕ) → output ≡ told.output → errors ≡ told.errors → status ≡ told.status
    → record { output = output; errors = errors; status = status } ≡ told
same_told told output errors status o e s = rw (o, e, s) refl

-- what was written of a file is what is told of it alone
pub told_alone : (alone : Alone) (name other : List ℕ) (told : Told) (output errors : List ℕ) (status : ℕ) (o e : Seen) (result : ℕ)
    → alone name told → output ≡ told.output → errors ≡ told.errors → status ≡ told.status
    → TellsOne (λ _ t. t ≡ record { output = output; errors = errors; status = status }) other o e result → TellsOne alone name o e result
told_alone alone name other told output errors status o e result is oe ee se (t, at, written) =
    let same : t ≡ told = at ∙ same_told told output errors status oe ee se in
    (t, subst (alone name) (sym same) is, written)

-- the names that were found in a list are its names, and neither writer had failed before
pub tells_names : (alone : Alone) (names listed : List (List ℕ)) (o p e f : Option (List ℕ)) (had_o had_e failed_o failed_e : Bool) (status : ℕ) → names ≡ listed → had_o ≡ false → had_e ≡ false
    → TellsEach alone names (record { before = o; after = p; had_failed = had_o; failed = failed_o }) (record { before = e; after = f; had_failed = had_e; failed = failed_e }) status
    → TellsEach alone listed (record { before = o; after = p; had_failed = false; failed = failed_o }) (record { before = e; after = f; had_failed = false; failed = failed_e }) status
tells_names alone names listed o p e f had_o had_e failed_o failed_e status are well good tells =
    subst (λ ns. TellsEach alone ns (record { before = o; after = p; had_failed = false; failed = failed_o }) (record { before = e; after = f; had_failed = false; failed = failed_e }) status) are
    (subst (λ b. TellsEach alone names (record { before = o; after = p; had_failed = false; failed = failed_o }) (record { before = e; after = f; had_failed = b; failed = failed_e }) status) good
    (subst (λ b. TellsEach alone names (record { before = o; after = p; had_failed = b; failed = failed_o }) (record { before = e; after = f; had_failed = had_e; failed = failed_e }) status) well tells))

-- ---- what is told of a file, by its name and what that is shown as

-- an answer
pub telling_answered : (gives : Contents) (command : Command) (asked : AskedLanguage) (settings name shown text held : List ℕ) (result : Result Telling AllocError)
    → text ≡ held → Holds gives name held → shown ≡ escaped_name name → IfOk result (λ telling. Answers command asked shown text settings telling)
    → IfOk result (λ telling. IsTelling gives command asked settings name telling)
telling_answered gives command asked settings name shown text held (Ok telling) read holds same (answer, is, tells) =
    (told_of shown answer, answered text answer (subst (Holds gives name) (sym read) holds) is (ap (λ (s : List ℕ). told_of s answer) same), tells)
telling_answered gives command asked settings name shown text held (Err e) read holds same made = tt

-- a file that can't be read
telling_unread : (gives : Contents) (command : Command) (asked : AskedLanguage) (settings name shown : List ℕ) (failure : ReadFailure) (result : Result Telling AllocError)
    → CannotRead gives name failure → shown ≡ escaped_name name → IfOk result (λ telling. Tells telling (told_unread shown failure))
    → IfOk result (λ telling. IsTelling gives command asked settings name telling)
telling_unread gives command asked settings name shown failure (Ok telling) cannot same tells =
    (told_unread shown failure, unread failure cannot (ap (λ (s : List ℕ). told_unread s failure) same), tells)
telling_unread gives command asked settings name shown failure (Err e) cannot same tells = tt

-- one for which memory was refused
telling_refused : (gives : Contents) (command : Command) (asked : AskedLanguage) (settings name shown : List ℕ) (refused : Refused) (result : Result Telling AllocError)
    → refused ≡ no_memory → shown ≡ escaped_name name → IfOk result (λ telling. Tells telling (told_of shown (Err refused)))
    → IfOk result (λ telling. IsTelling gives command asked settings name telling)
telling_refused gives command asked settings name shown refused (Ok telling) is same tells =
    (told_of shown (Err refused), no_memory_for (ap (λ (s : List ℕ). told_of s (Err refused)) same ∙ ap (λ (r : Refused). told_of (escaped_name name) (Err r)) is), tells)
telling_refused gives command asked settings name shown refused (Err e) is same tells = tt

-- one whose read stopped
pub telling_stopped : (gives : Contents) (command : Command) (asked : AskedLanguage) (settings name shown : List ℕ) (stop : Stop) (result : Result Telling AllocError)
    → StopsReading gives name stop → shown ≡ escaped_name name → IfOk result (λ telling. Tells telling (told_stop shown stop))
    → IfOk result (λ telling. IsTelling gives command asked settings name telling)
telling_stopped gives command asked settings name shown (Unread _ failure) result stops = telling_unread gives command asked settings name shown failure result stops.1
telling_stopped gives command asked settings name shown (Refuses refused) result stops = telling_refused gives command asked settings name shown refused result stops

-- standard input
pub telling_input : (gives : Contents) (command : Command) (asked : AskedLanguage) (settings name shown : List ℕ) (result : Result Telling AllocError)
    → is_input name ≡ true → shown ≡ escaped_name name → IfOk result (λ telling. Tells telling (told_unread shown InList))
    → IfOk result (λ telling. IsTelling gives command asked settings name telling)
telling_input gives command asked settings name shown (Ok telling) is same tells =
    (told_unread shown InList, input is (ap (λ (s : List ℕ). told_unread s InList) same), tells)
telling_input gives command asked settings name shown (Err e) is same tells = tt

-- a name that isn't UTF-8
pub telling_misnamed : (gives : Contents) (command : Command) (asked : AskedLanguage) (settings name : List ℕ) (result : Result Telling AllocError)
    → ¬ (IsUtf8 name) → IfOk result (λ telling. Tells telling (told_unread (shown_bytes name) NotUtf8))
    → IfOk result (λ telling. IsTelling gives command asked settings name telling)
telling_misnamed gives command asked settings name (Ok telling) bad tells = (told_unread (shown_bytes name) NotUtf8, misnamed bad refl, tells)
telling_misnamed gives command asked settings name (Err e) bad tells = tt

-- the name is the same by another word
pub telling_renamed : (gives : Contents) (command : Command) (asked : AskedLanguage) (settings name other : List ℕ) (result : Result Telling AllocError) → other ≡ name
    → IfOk result (λ telling. IsTelling gives command asked settings other telling) → IfOk result (λ telling. IsTelling gives command asked settings name telling)
telling_renamed gives command asked settings name other result same = subst (λ (n : List ℕ). IfOk result (λ telling. IsTelling gives command asked settings n telling)) same

-- ---- the list and the settings

-- those that it names
pub named_settings : (gives : Contents) (line : Line) (name : Bor Text) (result : Result (Vec ℕ Global) Stop) → line.second ≡ Some name
    → IfOk result (λ bytes. Holds gives name.now bytes.items) → IfOk result (λ bytes. HasSettings gives line bytes.items)
named_settings gives line name (Ok bytes) named holds =
    subst (λ (second : Option (Bor Text)). HoldsAny gives (option_map (λ s. s.now) second) bytes.items) (sym named) holds
named_settings gives line name (Err stop) named holds = tt

-- what reading the second file of a line stops at
pub stops_second : (gives : Contents) (line : Line) (name : Bor Text) (result : Result (Vec ℕ Global) Stop) → line.second ≡ Some name
    → IfErr result (λ stop. StopsReading gives name.now stop) → IfErr result (λ stop. StopsFile gives line stop)
stops_second gives line name (Ok bytes) named stops = tt
stops_second gives line name (Err (Unread other failure)) named (is, cannot) =
    (inr (ap (option_map (λ s. s.now)) named ∙ ap Some (sym is)), subst (λ (n : Text). CannotRead gives n failure) (sym is) cannot)
stops_second gives line name (Err (Refuses refused)) named stops = stops

-- and the first
pub stops_first : (gives : Contents) (line : Line) (asked : AskedLanguage) (stop : Stop) → StopsReading gives line.file.now stop → StopsList gives line asked stop
stops_first gives line asked (Unread other failure) (is, cannot) = inl (inl is, subst (λ (n : Text). CannotRead gives n failure) (sym is) cannot)
stops_first gives line asked (Refuses refused) stops = inr (inr stops)

-- want of memory has words of its own
pub told_reading : (gives : Contents) (name : Text) (stop : Stop) → StopsReading gives name stop → IsTold stop
told_reading gives name (Unread other failure) stops = tt
told_reading gives name (Refuses refused) is = λ usage. no_usage (sym (ap (λ r. r.fault) is) ∙ usage)
  where
    no_usage : OutOfMemory ≡ Usage → ⊥
    no_usage e = cc

-- the files of a list were told of, or memory was refused for their names
pub runs_list : (gives : Contents) (line : Line) (asked : AskedLanguage) (list settings held named : List ℕ) (output errors : Written) (status : ℕ)
    → list ≡ held → settings ≡ named → Holds gives line.file.now held → HasSettings gives line named → TellsNames gives line.command asked settings list output errors status
    → RunsList gives line asked output errors status
runs_list gives line asked list settings held named output errors status read also holds has (inl tells) =
    inl (list, settings, subst (Holds gives line.file.now) (sym read) holds, subst (HasSettings gives line) (sym also) has, tells)
runs_list gives line asked list settings held named output errors status read also holds has (inr (kept, ends)) = inr (Refuses no_memory, inr (inr refl), kept, ends)
