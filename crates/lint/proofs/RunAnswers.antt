-- From what was read to the answer of a run.
use Rattle.std.proofs.Common.{◌≡◌, ◌≢◌, ◌<◌, ◌≤◌, ◌+◌, ℕ, List, [], length, take, arith, refl, ap, sym, subst, ◌∙◌, Bool, false, Some, None, IsSome, Result, Ok, Err, inl, inr, ◌⊎◌}
use Rattle.std.proofs.lemmas.List.{length-take, take_all}
use Rattle.std.specs.declared.option.Option.{Option}
use Rattle.source_text.specs.Source.{max_bytes, IsRefusal}
use Rattle.source_text.specs.declared.fault.Fault.{Fault}
use Rattle.source_text.specs.declared.fault.Fault.TheVariants.{NotUtf8, TooLong, Syntax, TooDeep, Early, OutOfMemory, BadSettings, BadTable, ReadFailed, UnwrapFailed, FormatFailed, Usage}
use Rattle.commands.specs.declared.command.Command.{Command}
use Rattle.commands.specs.declared.command.Command.TheVariants.{Check, Mend, Same}
use Rattle.commands.specs.declared.command.ReportForm.{ReportForm}
use Rattle.commands.specs.declared.command.ReportForm.TheVariants.{Places}
use Rattle.commands.specs.declared.language_choice.LanguageChoice.{LanguageChoice}
use Rattle.commands.specs.declared.hint.Hint.{Hint}
use Rattle.commands.specs.declared.hint.Hint.TheVariants.{Nothing}
use Rattle.commands.specs.declared.refused.Refused.{Refused}
use Rattle.commands.specs.Refused.{place_of}
use Rattle.language.specs.declared.Language.{Language}
use Rattle.tree.specs.declared.kind.Pair.{Pair}
use Rattle.tree.specs.Tree.{Tree as SyntaxTree}
use Rattle.rules.specs.Reports.{Report}
use Rattle.rules.specs.Rules.{View}
use Rattle.lint.specs.declared.answer.Answer.{Answer}
use Rattle.lint.specs.Languages.{asked_language}
use Rattle.lint.specs.Outputs.{HasSettings, IsLanguage, IsSecond, IsSecondTo, second_limit}
use Rattle.lint.specs.ReadScripts.{IsReading, RefusesReading}
use Rattle.lint.specs.Hints.{IsHint}
use Rattle.lint.specs.Run.{IsSource, IsGiven, IsTried, NoneFailed, SettingsUnread, SettingsRefused, ReadsScript, ReadsBoth, HasOutput, Seen, Refuses, RefusesIn}
use Rattle.lint.specs.Steps.{IsRead, IsBefore, Answers, AnswersBytes, AnswersSame, LacksLanguage, RefusesChecked, output_of, status_of}

-- where the bytes are no more than a text may have, they are all
pub all_read : (given : Option (List ℕ)) (bytes : List ℕ) → IsRead given bytes → length bytes ≤ max_bytes → IsGiven given bytes
all_read None bytes read short = tt
all_read (Some xs) bytes read short =
    let l = length-take (max_bytes + 1) xs in
    read ∙ take_all (max_bytes + 1) xs (omega (arith, l, ap length read))

-- where they are more, so is what is given
pub more_given : (given : Option (List ℕ)) (bytes : List ℕ) → IsRead given bytes → max_bytes < length bytes
    → (text : List ℕ) × IsGiven given text × (max_bytes < length text)
more_given None bytes read long = (bytes, tt, long)
more_given (Some xs) bytes read long =
    (xs, refl, omega (arith, length-take (max_bytes + 1) xs, ap length read, long))

-- a script that was read of the bytes was read of what is given
unfoldable pub script_read : (language : Language) (given : Option (List ℕ)) (bytes : List ℕ) (n : SyntaxTree) (P : List Pair) → IsRead given bytes → IsSource bytes → IsReading language bytes n P
    → ReadsScript language given
script_read language given bytes n P read source reading = record {
  text = bytes;
  is_given = all_read given bytes read source.1;
  source = source;
  tree = n;
  pairs = P;
  reading = reading;
}

-- a command can take as much of a second file as there is
some_second : (limit : Option ℕ) (given : Option (List ℕ)) → (second : List ℕ) × IsSecondTo limit given second
some_second None given = ([], refl)
some_second (Some limit) None = ([], tt)
some_second (Some limit) (Some bytes) = (take (limit + 1) bytes, refl)

-- a command without settings reads the language that is asked for
own_language : (command : Command) (choice : LanguageChoice) (read : List ℕ) → ((form : ReportForm) → command ≢ Check form) → command ≢ Mend → IsLanguage command choice read (asked_language choice)
own_language (Check form) choice read unchecked unmended = absurd (unchecked form refl)
own_language Mend choice read unchecked unmended = absurd (unmended refl)
own_language command choice read unchecked unmended = refl

module _ (finds : View → List Report) (command : Command) (choice : LanguageChoice) (bytes : List ℕ) (second : Option (List ℕ)) where
  abbrev own : Language
  own = asked_language choice

  -- where the second reader hasn't failed, no device has
  pub none_failed : (failed : Bool) (seen : Seen) → IsBefore bytes second failed seen → failed ≡ false → NoneFailed seen
  none_failed failed seen before well = (before.reader, before.of_failed ∙ well, before.writer)

  -- which devices may have failed before the text is read
  tried_failed : (language : Language) (seen : Seen) → IsTried command choice seen language → NoneFailed seen ⊎ SettingsUnread command seen
  tried_failed language seen (inl tried) = inl tried.0
  tried_failed language seen (inr (inl unread, is)) = inr unread
  tried_failed language seen (inr (inr refused, is)) = inl refused.1

  -- a command without settings reads the text in the language that is asked for
  pub own_tried : (language : Language) (failed : Bool) (seen : Seen) → ((form : ReportForm) → command ≢ Check form) → command ≢ Mend → language ≡ own → IsBefore bytes second failed seen → failed ≡ false → IsTried command choice seen language
  own_tried language failed seen unchecked unmended is before well =
      let read = some_second (second_limit command) seen.second in
      inl (none_failed failed seen before well, (read.0, read.1, subst (λ l. IsLanguage command choice read.0 l) (sym is) (own_language command choice read.0 unchecked unmended)))

  -- bytes that are no source text are refused
  pub bytes_refused : (fault : Fault) (seen : Seen) → IsRefusal bytes fault → IsBefore bytes second false seen → Refuses finds command choice seen fault (0, 0) Nothing
  bytes_refused TooLong seen refused before =
      let found = more_given seen.given bytes before.read refused in
      (none_failed false seen before refl, before.kept, inl found, (refl, refl))
  bytes_refused (NotUtf8 at) seen refused before =
      (none_failed false seen before refl, before.kept, (bytes, all_read seen.given bytes before.read refused.0, refused), (refl, refl))
  bytes_refused _ seen refused before = absurd refused

  -- source text that is no script in the language in which it is read is refused, at its place and with its hint
  pub script_refused : (language : Language) (fault : Fault) (place : ℕ × ℕ) (hint : Hint) (failed : Bool) (seen : Seen) → IsSource bytes → RefusesReading language bytes fault → place ≡ place_of bytes fault
      → IsHint language bytes fault hint → IsBefore bytes second failed seen → IsTried command choice seen language → Refuses finds command choice seen fault place hint
  script_refused language (Syntax at) place hint failed seen source refused is hinted before tried =
      (before.kept, (bytes, all_read seen.given bytes before.read source.1, source, (language, tried, refused, hinted), is))
  script_refused language TooDeep place hint failed seen source refused is hinted before tried =
      (before.kept, (bytes, all_read seen.given bytes before.read source.1, source, (language, tried, refused, hinted), is))
  script_refused language (Early number at) place hint failed seen source refused is hinted before tried =
      (before.kept, (bytes, all_read seen.given bytes before.read source.1, source, (language, tried, refused, hinted), is))
  script_refused language OutOfMemory place hint failed seen source refused is hinted before tried = (tried_failed language seen tried, before.kept, (is, hinted))
  script_refused language _ place hint failed seen source refused is hinted before tried = absurd refused

  -- what a script and its second file were read as
  both_read : (language : Language) (seen : Seen) (n : SyntaxTree) (P : List Pair) (failed : Bool) (read : List ℕ) → IsSource bytes → IsReading language bytes n P → IsBefore bytes second failed seen
      → IsSecond command second read → ReadsBoth language command seen.given seen.second
  both_read language seen n P failed read source reading before is = record {
    script = script_read language seen.given bytes n P before.read source reading;
    second = read;
    is_second = subst (λ o. IsSecond command o read) (sym before.of_second) is;
  }

  -- what a command refuses behind a script
  pub command_refused : (n : SyntaxTree) (P : List Pair) (fault : Fault) (failed : Bool) (seen : Seen) → IsSource bytes → IsReading own bytes n P → Answers finds own command bytes n P second (Err fault) failed
      → IsBefore bytes second failed seen → Refuses finds command choice seen fault (0, 0) Nothing
  unfolding both_read script_read
  command_refused n P ReadFailed failed seen source reading answers before =
      (before.writer, before.kept, inr (before.reader, before.of_failed ∙ answers.0, answers.1, script_read own seen.given bytes n P before.read source reading), (refl, refl))
  command_refused n P OutOfMemory failed seen source reading answers before = (inl (none_failed failed seen before answers), before.kept, (refl, refl))
  command_refused n P (BadTable row why) failed seen source reading answers before =
      ((before.reader, before.of_failed ∙ answers.0, before.writer), before.kept, (both_read own seen n P failed answers.1.0 source reading before answers.1.1, answers.1.2), (refl, refl))
  command_refused n P UnwrapFailed failed seen source reading answers before =
      ((before.reader, before.of_failed ∙ answers.0, before.writer), before.kept, (both_read own seen n P failed answers.1.0 source reading before answers.1.1, answers.1.2), (refl, refl))
  command_refused n P FormatFailed failed seen source reading answers before =
      ((before.reader, before.of_failed ∙ answers.0, before.writer), before.kept, (both_read own seen n P failed answers.1.0 source reading before answers.1.1, answers.1.2), (refl, refl))
  command_refused n P TooLong failed seen source reading answers before = (
    (before.reader, before.of_failed ∙ answers.0, before.writer),
    before.kept,
    inr (both_read own seen n P failed answers.1.0 source reading before answers.1.1, answers.1.2),
    (refl, refl),
  )
  command_refused n P _ failed seen source reading answers before = absurd answers.1.2

  -- what a command without settings answers behind a script
  pub command_answers : (n : SyntaxTree) (P : List Pair) (answer : Answer) (failed : Bool) (given : Option (List ℕ)) → ((form : ReportForm) → command ≢ Check form) → command ≢ Mend → IsSource bytes → IsReading own bytes n P
      → Answers finds own command bytes n P second (Ok answer) failed → IsRead given bytes → HasOutput finds command choice given second (output_of answer) (status_of answer)
  unfolding script_read
  command_answers n P answer failed given unchecked unmended source reading answers read = record {
    language = own;
    read = record { script = script_read own given bytes n P read source reading; second = answers.1.0; is_second = answers.1.1 };
    is_language = own_language command choice answers.1.0 unchecked unmended;
    is_output = answers.1.2;
  }

  -- what a command without settings refuses behind a script, in a language that is the one that is asked for
  pub refused_behind : (language : Language) (n : SyntaxTree) (P : List Pair) (fault : Fault) (failed : Bool) (seen : Seen) → language ≡ own → IsSource bytes → IsReading language bytes n P
      → ((found : View → List Report) → Answers found language command bytes n P second (Err fault) failed) → IsBefore bytes second failed seen → Refuses finds command choice seen fault (0, 0) Nothing
  refused_behind language n P fault failed seen is source reading answers before =
      command_refused n P fault failed seen source (subst (λ l. IsReading l bytes n P) is reading) (subst (λ l. Answers finds l command bytes n P second (Err fault) failed) is (answers finds)) before

  pub answers_behind : (language : Language) (n : SyntaxTree) (P : List Pair) (answer : Answer) (failed : Bool) (given : Option (List ℕ)) → language ≡ own → ((form : ReportForm) → command ≢ Check form) → command ≢ Mend → IsSource bytes
      → IsReading language bytes n P → Answers finds language command bytes n P second (Ok answer) failed → IsRead given bytes → HasOutput finds command choice given second (output_of answer) (status_of answer)
  answers_behind language n P answer failed given is unchecked unmended source reading answers read =
      command_answers n P answer failed given unchecked unmended source (subst (λ l. IsReading l bytes n P) is reading) (subst (λ l. Answers finds l command bytes n P second (Ok answer) failed) is answers) read

  -- what it refuses has words of its own
  pub told_behind : (language : Language) (n : SyntaxTree) (P : List Pair) (fault : Fault) (failed : Bool) (text : List ℕ) → Answers finds language command text n P second (Err fault) failed → fault ≢ Usage
  told_behind language n P fault failed text answers usage = absurd (subst (λ (f : Fault). Answers finds language command text n P second (Err f) failed) usage answers).1.2

  pub refused_bytes : (fault : Fault) (failed : Bool) (seen : Seen) → failed ≡ false → IsRefusal bytes fault → IsBefore bytes second failed seen → Refuses finds command choice seen fault (0, 0) Nothing
  refused_bytes fault failed seen none refused before = bytes_refused fault seen refused (subst (λ f. IsBefore bytes second f seen) none before)

-- ---- commands with settings

-- their second file is read as that of `check`
pub settled_second : (command : Command) → HasSettings command → (given : Option (List ℕ)) (second : List ℕ) → IsSecond (Check Places) given second → IsSecond command given second
settled_second (Check form) settled given second is = is
settled_second Mend settled given second is = is
settled_second _ settled given second is = absurd settled

pub settled_limit : (command : Command) → HasSettings command → IsSome (second_limit command)
settled_limit (Check form) settled = refl
settled_limit Mend settled = refl
settled_limit _ settled = absurd settled

unlike_memory : (fault : Fault) (refused : Refused) → refused.fault ≡ fault → refused.fault ≡ OutOfMemory → fault ≢ OutOfMemory → ⊥
unlike_memory fault refused is memory other = other (sym is ∙ memory)

module _ (finds : View → List Report) (command : Command) (settled : HasSettings command) (choice : LanguageChoice) (bytes : List ℕ) (second : Option (List ℕ)) where
  -- it has no settings, though memory was not refused
  no_settings : (refused : Refused) (failed : Bool) (seen : Seen) → LacksLanguage choice second refused failed → refused.fault ≢ OutOfMemory → IsBefore bytes second failed seen
      → SettingsUnread command seen ⊎ SettingsRefused command choice seen
  no_settings refused failed seen (inl (inl unread)) other before = inl (settled, before.reader, before.of_failed ∙ unread.0, before.writer)
  no_settings refused failed seen (inl (inr (well, inl memory))) other before = absurd (other (ap (λ (r : Refused). r.fault) memory))
  no_settings refused failed seen (inl (inr (well, inr (read, is, why)))) other before = inr (
    settled,
    none_failed finds command choice bytes second failed seen before well,
    (read, subst (λ o. IsSecond command o read) (sym before.of_second) (settled_second command settled second read is), ((refused.line, refused.column), inl why.3)),
  )
  no_settings refused failed seen (inr (well, is, (read, second_is, contradicts))) other before = inr (
    settled,
    none_failed finds command choice bytes second failed seen before well,
    (read, subst (λ o. IsSecond command o read) (sym before.of_second) (settled_second command settled second read second_is), ((0, 0), inr (refl, contradicts))),
  )

  -- memory was refused while they were read
  no_memory_for : (refused : Refused) (failed : Bool) (seen : Seen) → refused.fault ≡ OutOfMemory → LacksLanguage choice second refused failed → IsBefore bytes second failed seen
      → RefusesIn refused.in_second finds command choice seen refused.fault (refused.line, refused.column) refused.hint
  no_memory_for refused failed seen is (inl (inl unread)) before = absurd (unlike_memory ReadFailed refused (ap (λ (r : Refused). r.fault) unread.1) is (λ e. cc))
  no_memory_for refused failed seen is (inl (inr (well, inl memory))) before =
      subst (λ (r : Refused). RefusesIn r.in_second finds command choice seen r.fault (r.line, r.column) r.hint) (sym memory)
      (inl (none_failed finds command choice bytes second failed seen before well), before.kept, (refl, refl))
  no_memory_for refused failed seen is (inl (inr (well, inr (read, second_is, why)))) before = absurd (unlike_memory BadSettings refused why.0 is (λ e. cc))
  no_memory_for refused failed seen is (inr (well, same, contradicts)) before = absurd (unlike_memory BadSettings refused (ap (λ (r : Refused). r.fault) same) is (λ e. cc))

  -- its settings are refused, of a script in the language that is asked for
  check_lacks : (n : SyntaxTree) (P : List Pair) (refused : Refused) (failed : Bool) (seen : Seen) → IsSource bytes → IsReading (asked_language choice) bytes n P
      → LacksLanguage choice second refused failed → IsBefore bytes second failed seen → RefusesIn refused.in_second finds command choice seen refused.fault (refused.line, refused.column) refused.hint
  unfolding both_read script_read
  check_lacks n P refused failed seen source reading (inl (inl unread)) before =
      subst (λ (r : Refused). RefusesIn r.in_second finds command choice seen r.fault (r.line, r.column) r.hint) (sym unread.1)
      (before.writer, before.kept, inr (before.reader, before.of_failed ∙ unread.0, settled_limit command settled, script_read (asked_language choice) seen.given bytes n P before.read source reading), (refl, refl))
  check_lacks n P refused failed seen source reading (inl (inr (well, inl memory))) before =
      subst (λ (r : Refused). RefusesIn r.in_second finds command choice seen r.fault (r.line, r.column) r.hint) (sym memory)
      (inl (none_failed finds command choice bytes second failed seen before well), before.kept, (refl, refl))
  check_lacks n P refused failed seen source reading (inl (inr (well, inr other))) before =
      subst (λ (b : Bool). RefusesIn b finds command choice seen refused.fault (refused.line, refused.column) refused.hint) (sym other.2.1)
      (subst (λ (f : Fault). Refuses finds command choice seen f (refused.line, refused.column) refused.hint) (sym other.2.0) (
        (before.reader, before.of_failed ∙ well, before.writer),
        before.kept,
        (both_read finds command choice bytes second (asked_language choice) seen n P failed other.0 source reading before (settled_second command settled second other.0 other.1), settled, inl other.2.3),
        other.2.2,
      ))
  check_lacks n P refused failed seen source reading (inr (well, is, (read, second_is, contradicts))) before =
      subst (λ (r : Refused). RefusesIn r.in_second finds command choice seen r.fault (r.line, r.column) r.hint) (sym is) (
        (before.reader, before.of_failed ∙ well, before.writer),
        before.kept,
        (both_read finds command choice bytes second (asked_language choice) seen n P failed read source reading before (settled_second command settled second read second_is), settled, inr (refl, contradicts)),
        refl,
      )

  -- so it refuses its settings, or the text
  pub check_refuses : (of_settings refused : Refused) (failed : Bool) (seen : Seen) → IsSource bytes → RefusesChecked choice bytes of_settings refused → LacksLanguage choice second of_settings failed
      → IsBefore bytes second failed seen → RefusesIn refused.in_second finds command choice seen refused.fault (refused.line, refused.column) refused.hint
  check_refuses of_settings refused failed seen source (inl (same, inl memory)) lacks before =
      subst (λ (r : Refused). RefusesIn r.in_second finds command choice seen r.fault (r.line, r.column) r.hint) (sym same) (no_memory_for of_settings failed seen memory lacks before)
  check_refuses of_settings refused failed seen source (inl (same, inr (n, P, reading))) lacks before =
      subst (λ (r : Refused). RefusesIn r.in_second finds command choice seen r.fault (r.line, r.column) r.hint) (sym same) (check_lacks n P of_settings failed seen source reading lacks before)
  check_refuses of_settings refused failed seen source (inr (other, first, why, place, hinted)) lacks before =
      subst (λ (b : Bool). RefusesIn b finds command choice seen refused.fault (refused.line, refused.column) refused.hint) (sym first)
      (script_refused finds command choice bytes second (asked_language choice) refused.fault (refused.line, refused.column) refused.hint failed seen source why place hinted before
      (inr (no_settings of_settings failed seen lacks other before, refl)))

-- ---- `same`

module _ (finds : View → List Report) (choice : LanguageChoice) (bytes : List ℕ) (second : Option (List ℕ)) where
  -- what `same` refuses behind a script
  same_refused : (n : SyntaxTree) (P : List Pair) (refused : Refused) (failed : Bool) (seen : Seen) → IsSource bytes → IsReading (asked_language choice) bytes n P
      → AnswersSame (asked_language choice) n second (Err refused) failed → IsBefore bytes second failed seen → RefusesIn refused.in_second finds Same choice seen refused.fault (refused.line, refused.column) refused.hint
  unfolding both_read script_read
  same_refused n P refused failed seen source reading (inl answers) before =
      subst (λ (r : Refused). RefusesIn r.in_second finds Same choice seen r.fault (r.line, r.column) r.hint) (sym answers.1)
      (before.writer, before.kept, inr (before.reader, before.of_failed ∙ answers.0, refl, script_read (asked_language choice) seen.given bytes n P before.read source reading), (refl, refl))
  same_refused n P refused failed seen source reading (inr (well, inl memory)) before =
      subst (λ (r : Refused). RefusesIn r.in_second finds Same choice seen r.fault (r.line, r.column) r.hint) (sym memory)
      (inl (none_failed finds Same choice bytes second failed seen before well), before.kept, (refl, refl))
  same_refused n P refused failed seen source reading (inr (well, inr other)) before =
      subst (λ (b : Bool). RefusesIn b finds Same choice seen refused.fault (refused.line, refused.column) refused.hint) (sym other.2.0) (
        refl,
        other.2.1,
        (before.reader, before.of_failed ∙ well, before.writer),
        before.kept,
        (both_read finds Same choice bytes second (asked_language choice) seen n P failed other.0 source reading before other.1, other.2.2, other.2.3, other.2.4),
      )

  -- what it answers
  pub same_answers : (n : SyntaxTree) (P : List Pair) (result : Result Answer Refused) (failed : Bool) → IsSource bytes → IsReading (asked_language choice) bytes n P
      → AnswersSame (asked_language choice) n second result failed → AnswersBytes finds Same choice bytes second result failed
  unfolding script_read
  same_answers n P (Ok answer) failed source reading answers = (
    answers.0,
    λ given read. record {
      language = asked_language choice;
      read = record { script = script_read (asked_language choice) given bytes n P read source reading; second = answers.1.0; is_second = answers.1.1 };
      is_language = refl;
      is_output = (answers.1.2, answers.1.3);
    },
  )
  same_answers n P (Err refused) failed source reading answers = λ seen before. same_refused n P refused failed seen source reading answers before

-- what a command that is `same` answers, in a language that is the one that is asked for
pub same_behind : (finds : View → List Report) (command : Command) (choice : LanguageChoice) (bytes : List ℕ) (second : Option (List ℕ)) (language : Language) (n : SyntaxTree) (P : List Pair) (result : Result Answer Refused)
    (failed : Bool) → command ≡ Same → language ≡ asked_language choice → IsSource bytes → IsReading language bytes n P → AnswersSame language n second result failed → AnswersBytes finds command choice bytes second result failed
same_behind finds command choice bytes second language n P result failed is own source reading answers =
    subst (λ (k : Command). AnswersBytes finds k choice bytes second result failed) (sym is)
    (same_answers finds choice bytes second n P result failed source (subst (λ (l : Language). IsReading l bytes n P) own reading) (subst (λ (l : Language). AnswersSame l n second result failed) own answers))

-- what is answered of a text is answered of the bytes that it is
pub of_bytes : (finds : View → List Report) (command asked : Command) (choice : LanguageChoice) (text bytes : List ℕ) (second : Option (List ℕ)) (result : Result Answer Refused) (failed : Bool) → command ≡ asked → text ≡ bytes
    → AnswersBytes finds asked choice text second result failed → AnswersBytes finds command choice bytes second result failed
of_bytes finds command asked choice text bytes second result failed is same answers =
    subst (λ (k : Command). AnswersBytes finds k choice bytes second result failed) (sym is) (subst (λ (t : List ℕ). AnswersBytes finds asked choice t second result failed) same answers)
