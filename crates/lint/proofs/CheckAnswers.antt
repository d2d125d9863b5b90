-- From what is read and found to what `check` answers.
use Rattle.std.proofs.Common.{◌≡◌, ◌≢◌, ◌∙◌, ℕ, List, Bool, false, map, refl, sym, ap, subst, inl, inr, Option, None, Some, Result, Ok, Err}
use Rattle.std.specs.Prelude.{◌++◌, [], IfOk, IfErr}
use Rattle.std.specs.List.Sorted.{IsPermutation, IsSorted}
use Rattle.std.specs.Str.{IsUtf8}
use Rattle.tree.specs.declared.kind.Pair.{Pair}
use Rattle.tree.specs.declared.kind.Span.{Span}
use Rattle.tree.specs.Tree.{Tree}
use Rattle.language.specs.declared.Language.{Language}
use Rattle.spellings.specs.Groupings.{grouping, row_starts}
use Rattle.paren_planner.specs.Plans.{AreWraps}
use Rattle.paren_planner.specs.Extra.{extra_spans}
use Rattle.paren_planner.proofs.PairRows.{extra_pairs_are_extra}
use Rattle.paren_planner.specs.Wrapped.{flags}
use Rattle.paren_planner.proofs.WrappedRows.{flagged_wrapped}
use Rattle.language.specs.Pieces.{script}
use Rattle.source_text.specs.Source.{max_bytes}
use Rattle.source_text.specs.declared.fault.Fault.{Fault}
use Rattle.source_text.specs.declared.fault.Fault.TheVariants.{OutOfMemory, BadSettings, ReadFailed}
use Rattle.commands.specs.declared.command.Command.{Command}
use Rattle.commands.specs.declared.command.Command.TheVariants.{Check, Mend}
use Rattle.commands.specs.declared.command.ReportForm.{ReportForm}
use Rattle.commands.specs.declared.command.ReportForm.TheVariants.{Places, Spans}
use Rattle.commands.specs.declared.refused.Refused.{Refused}
use Rattle.commands.specs.WholeTexts.{ReadsUpTo}
use Rattle.scopes.specs.Found.{Found, found}
use Rattle.rules.specs.Order.{report_cmp}
use Rattle.rules.specs.Reports.{Report}
use Rattle.rules.specs.Lines.{report_lines}
use Rattle.rules.specs.Rules.{View}
use Rattle.rules.specs.RuleViews.{found_or_nothing}
use Rattle.rules.specs.Run.{found_by_names, found_with}
use Rattle.rules.specs.declared.rule_list.RuleName.{RuleName}
use Rattle.rules.proofs.Views.{same_without_pairs, same_without_scopes, with_extra, with_found}
use Rattle.rules.specs.Settings.{Settings}
use Rattle.rules.specs.Toml.{settings_of_text}
use Rattle.lint.specs.declared.answer.Answer.{Answer}
use Rattle.commands.specs.declared.hint.Hint.{Hint}
use Rattle.commands.specs.Refused.{at_no_place, place_of}
use Rattle.commands.specs.declared.language_choice.LanguageChoice.{LanguageChoice}
use Rattle.lint.specs.declared.check_command.Checked.{Checked}
use Rattle.lint.specs.Languages.{asked_language, language_of}
use Rattle.lint.specs.Asked.{HasExtra, HasScopes}
use Rattle.lint.specs.Mendings.{Mended}
use Rattle.lint.specs.Reported.{IsExtra, Reports}
use Rattle.lint.specs.Outputs.{Checks, HasSettings, IsLanguage, IsLeft, IsOutput, IsSecond}
use Rattle.lint.specs.ReadScripts.{IsReading, RefusesReading}
use Rattle.lint.specs.Hints.{IsHint}
use Rattle.lint.specs.Run.{IsSource, Refuses, Seen}
use Rattle.lint.specs.Steps.{AnswersBytes, IsBefore, LacksLanguage, LacksSettings, ReadsLanguage, ReadsSettings, RefusesChecked, RefusesSettingsBy, ReportsLines, output_of, status_of}
use Rattle.lint.proofs.RunAnswers.{none_failed, script_read, script_refused, settled_second}

-- the pairs that are extra by the wrapped nodes are all of the derivation but the innermost of each wrapped node
pub are_extra : (language : Language) (text : List ℕ) (n : Tree) (P : List Pair) (wraps : List Bool) (spans : List Span) → IsUtf8 text → AreWraps n wraps
    → spans ≡ extra_spans wraps (map (grouping (row_starts n)) P) → IsExtra language text n P spans
are_extra language text n P wraps spans utf8 wrapped is = record {
  wrapped = wraps;
  is_wrapped = wrapped;
  but_needed = λ o last d. is ∙ extra_pairs_are_extra language text o n last P utf8 d wraps;
}

-- ---- rules find the same where scopes and extra pairs are there at which none of them looks

-- the extra pairs of a script, by its tree
abbrev all_extra : Tree → List Pair → List Span
all_extra n P = extra_spans (flags n script) (map (grouping (row_starts n)) P)

module _ {B : Type 0} (called : B → List ℕ) (finds : B → View → List Report) (names : List RuleName) (bs : List B) where
  abbrev finds_all : View → List Report
  finds_all = found_with called finds names bs

  -- with the others, of which there are none
  names_alone : (v w : View) → bs ≡ [] → found_by_names names v ≡ found_by_names names w → finds_all v ≡ finds_all w
  names_alone v w empty same =
      ap (λ rest. found_with called finds names rest v) empty ∙ ap (λ l. l ++ []) same ∙ sym (ap (λ rest. found_with called finds names rest w) empty)

  scoped : (v : View) (scopes : Option Found) (n : Tree) → v.found ≡ found_or_nothing scopes → HasScopes names bs v.settings n scopes → finds_all v ≡ finds_all (with_found v (found n))
  scoped v (Some f) n is has = ap (λ g. finds_all (with_found v g)) (is ∙ has)
  scoped v None n is (empty, off) = names_alone v (with_found v (found n)) empty (sym (same_without_scopes names v (found n) off))

  -- the pairs that a script has, whether or not they were looked for
  pub paired : (v : View) (n : Tree) (P : List Pair) → HasExtra names bs v.settings n P v.extra → (spans : List Span) × ((language text : _) → IsUtf8 text → IsExtra language text n P spans) × (finds_all v ≡ finds_all (with_extra v spans))
  paired v n P (inl are) = (v.extra, are, refl)
  paired v n P (inr (empty, off)) =
      let spans : List Span = all_extra n P in
      (spans, (λ language text utf8. are_extra language text n P (flags n script) spans utf8 (flagged_wrapped n script) refl), names_alone v (with_extra v spans) empty (sym (same_without_pairs names v spans off)))

  -- so what they find in the view that was made is what they find in a view of which all is there
  pub whole_reports : (language : Language) (text : List ℕ) (n : Tree) (P : List Pair) (settings : Settings) (v : View) (scopes : Option Found) (reports : List Report) → IsUtf8 text
      → v.tree ≡ n → v.text ≡ text → v.settings ≡ settings → v.found ≡ found_or_nothing scopes → HasScopes names bs settings n scopes → HasExtra names bs settings n P v.extra
      → IsPermutation (finds_all v) reports → IsSorted report_cmp reports → Reports finds_all language text n P settings reports
  whole_reports language text n P settings v scopes reports utf8 tree is_text given is has extra all sorted =
      let pairs = paired v n P (subst (λ s. HasExtra names bs s n P v.extra) (sym given) extra) in
      let w : View = with_extra v pairs.0 in
      let same : finds_all v ≡ finds_all (with_found w (found n)) = pairs.2 ∙ scoped w scopes n is (subst (λ s. HasScopes names bs s n scopes) (sym given) has) in
      record {
        view = with_found w (found n);
        is_view = record { of_tree = tree; of_text = is_text; of_scopes = refl; of_extra = pairs.1 language text utf8; of_settings = given };
        all = subst (λ l. IsPermutation l reports) same all;
        sorted = sorted;
      }

-- what `check` answers for settings that were read
checked : (finds : View → List Report) (form : ReportForm) (language : Language) (text : List ℕ) (n : Tree) (P : List Pair) (second output : List ℕ) (settings : Settings) (answer : Answer) → IsUtf8 second
    → settings_of_text second ≡ Some settings → (lines : ReportsLines finds form language text n P settings answer) → output ≡ report_lines settings text lines.reports → Checks finds language text n P second output (status_of answer)
checked finds form language text n P second output settings answer utf8 are lines is = record {
  settings = settings;
  utf8 = utf8;
  are_settings = are;
  reports = lines.reports;
  are_reports = lines.are_reports;
  are_lines = is;
  is_status = lines.is_status;
}

pub outputs : (finds : View → List Report) (form : ReportForm) (language : Language) (text : List ℕ) (n : Tree) (P : List Pair) (second : List ℕ) (settings : Settings) (answer : Answer) → IsUtf8 second
    → settings_of_text second ≡ Some settings → ReportsLines finds form language text n P settings answer → IsOutput finds language (Check form) text n P second (output_of answer) (status_of answer)
unfolding checked
outputs finds Places language text n P second settings answer utf8 are lines = checked finds Places language text n P second (output_of answer) settings answer utf8 are lines lines.are_lines
outputs finds Spans language text n P second settings answer utf8 are lines = record {
  with_places = report_lines settings text lines.reports;
  checks = checked finds Spans language text n P second (report_lines settings text lines.reports) settings answer utf8 are lines refl;
  are_spans = lines.are_lines;
}

-- what `check` answers of a script in the language that is asked for and that its settings leave
pub check_answers : (finds : View → List Report) (form : ReportForm) (choice : LanguageChoice) (text : List ℕ) (n : Tree) (P : List Pair) (second : Option (List ℕ)) (checked : Checked) (answer : Answer) (failed : Bool)
    → IsSource text → IsReading checked.language text n P → ReadsLanguage choice second (Ok checked) failed → ReportsLines finds form checked.language text n P checked.settings answer
    → AnswersBytes finds (Check form) choice text second (Ok answer) failed
unfolding script_read
check_answers finds form choice text n P second checked answer failed source reading ((well, (other, is, utf8, are)), language_is) lines = (
  well,
  λ given read. record {
    language = checked.language;
    read = record { script = script_read checked.language given text n P read source reading; second = other; is_second = is };
    is_language = (checked.settings, are, language_is);
    is_output = outputs finds form checked.language text n P other checked.settings answer utf8 are lines;
  },
)

-- what `mend` answers
pub mend_answers : (finds : View → List Report) (choice : LanguageChoice) (text : List ℕ) (n : Tree) (P : List Pair) (second : Option (List ℕ)) (checked : Checked) (answer : Answer) (failed : Bool)
    → IsSource text → IsReading checked.language text n P → ReadsLanguage choice second (Ok checked) failed → Mended finds checked.language checked.settings text (output_of answer) → status_of answer ≡ 0
    → AnswersBytes finds Mend choice text second (Ok answer) failed
unfolding script_read
mend_answers finds choice text n P second checked answer failed source reading ((well, (other, is, utf8, are)), language_is) mended status = (
  well,
  λ given read. record {
    language = checked.language;
    read = record { script = script_read checked.language given text n P read source reading; second = other; is_second = is };
    is_language = (checked.settings, are, language_is);
    is_output = (record { settings = checked.settings; utf8 = utf8; are_settings = are; mended = mended }, status);
  },
)

left_language : (command : Command) → HasSettings command → (choice : LanguageChoice) (second : List ℕ) (language : Language) → IsLeft choice second language → IsLanguage command choice second language
left_language (Check form) settled choice second language is = is
left_language Mend settled choice second language is = is
left_language _ settled choice second language is = absurd settled

-- a text that is no script in that language is refused
pub check_unread : (finds : View → List Report) (command : Command) (settled : HasSettings command) (choice : LanguageChoice) (text : List ℕ) (second : Option (List ℕ)) (checked : Checked) (fault : Fault) (place : ℕ × ℕ) (hint : Hint) (failed : Bool) (seen : Seen)
    → IsSource text → ReadsLanguage choice second (Ok checked) failed → RefusesReading checked.language text fault → place ≡ place_of text fault → IsHint checked.language text fault hint → IsBefore text second failed seen
    → Refuses finds command choice seen fault place hint
check_unread finds command settled choice text second checked fault place hint failed seen source ((well, (other, is, utf8, are)), language_is) why at hinted before =
    script_refused finds command choice text second checked.language fault place hint failed seen source why at hinted before
    (inl (
      none_failed finds command choice text second failed seen before well,
      (other, subst (λ o. IsSecond command o other) (sym before.of_second) (settled_second command settled second other is), left_language command settled choice other checked.language (checked.settings, are, language_is)),
    ))

-- ---- the second file

-- it can't be read
pub unread_settings : (given : Option (List ℕ)) (fault : Fault) (failed : Bool) (refused : Refused) → ReadsUpTo max_bytes given (Err fault) failed
    → refused ≡ at_no_place fault → LacksSettings given refused failed
unread_settings given ReadFailed failed refused read is = inl (read, is)
unread_settings given OutOfMemory failed refused read is = inr (read, inl is)
unread_settings given _ failed refused read is = absurd read

-- it was read, and is refused
pub refused_settings : (given : Option (List ℕ)) (failed : Bool) (second : List ℕ) (refused : Refused) → failed ≡ false → IsSecond (Check Places) given second → RefusesSettingsBy second refused → LacksSettings given refused failed
refused_settings given failed second refused well is (inl memory) = inr (well, inl memory)
refused_settings given failed second refused well is (inr why) = inr (well, inr (second, is, why))

-- what was read of it gives settings, or is refused
pub settings_told : (given : Option (List ℕ)) (failed : Bool) (second : List ℕ) (result : Result Settings Refused) → failed ≡ false → IsSecond (Check Places) given second
    → IfOk result (λ _. IsUtf8 second) → IfOk result (λ settings. settings_of_text second ≡ Some settings) → IfErr result (RefusesSettingsBy second) → ReadsSettings given result failed
settings_told given failed second (Ok settings) well is utf8 are why = (well, (second, is, utf8, are))
settings_told given failed second (Err refused) well is utf8 are why = refused_settings given failed second refused well is why

-- settings that were read leave no language that a call asks for
pub contradicted : (choice : LanguageChoice) (given : Option (List ℕ)) (settings : Settings) (failed : Bool) (refused : Refused) → ReadsSettings given (Ok settings) failed → language_of choice settings.languages ≡ None
    → refused ≡ at_no_place BadSettings → LacksLanguage choice given refused failed
contradicted choice given settings failed refused (well, (second, is, utf8, are)) none same = inr (well, same, (second, is, (utf8, (settings, are, none))))

-- settings are refused of a text that is a script in the language that is asked for
pub settings_refused : (choice : LanguageChoice) (text : List ℕ) (language : Language) (n : Tree) (P : List Pair) (of_settings refused : Refused) → language ≡ asked_language choice → IsReading language text n P → refused ≡ of_settings
    → RefusesChecked choice text of_settings refused
settings_refused choice text language n P of_settings refused is reading same = inl (same, inr (n, P, subst (λ (l : Language). IsReading l text n P) is reading))

-- else the text is
pub text_refused : (choice : LanguageChoice) (text : List ℕ) (language : Language) (fault : Fault) (of_settings refused : Refused) → of_settings.fault ≢ OutOfMemory → language ≡ asked_language choice → RefusesReading language text fault → refused.in_second ≡ false → refused.fault ≡ fault
    → (refused.line, refused.column) ≡ place_of text fault → IsHint language text fault refused.hint → RefusesChecked choice text of_settings refused
text_refused choice text language fault of_settings refused other is why first same place hinted = inr (
  other,
  first,
  subst (RefusesReading (asked_language choice) text) (sym same) (subst (λ (l : Language). RefusesReading l text fault) is why),
  place ∙ ap (place_of text) (sym same),
  subst (λ (f : Fault). IsHint (asked_language choice) text f refused.hint) (sym same) (subst (λ (l : Language). IsHint l text fault refused.hint) is hinted),
)
