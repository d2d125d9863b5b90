-- From a text that is read again and compared to what formatting promises.
use Rattle.std.proofs.Common.{◌≡◌, ◌∙◌, ℕ, Bool, true, List, [], length, refl, sym, ap, subst, inl, Result, Ok, Err}
use Rattle.std.specs.Result.{IfErr, IfOk}
use Rattle.tree.specs.Tree.{Tree}
use Rattle.tree.specs.declared.kind.Pair.{Pair}
use Rattle.source_text.specs.declared.fault.Fault.{Fault}
use Rattle.source_text.specs.declared.fault.Fault.TheVariants.{TooLong, OutOfMemory, UnwrapFailed, FormatFailed}
use Rattle.early_errors.specs.Accepted.{Accepted}
use Rattle.early_errors.proofs.Placeless.{none_either}
use Rattle.language.specs.declared.Language.{Language}
use Rattle.language.specs.Claims.{max_open}
use Rattle.layout_items.specs.declared.style.Style.{Style}
use Rattle.commands.specs.declared.command.FormatChoice.{FormatChoice}
use Rattle.commands.specs.declared.command.Command.TheVariants.{Format}
use Rattle.lint.specs.ReadScripts.{FewestInAny, IsOnly}
use Rattle.lint.specs.Unwraps.{Unwraps}
use Rattle.lint.specs.Formats.{Formats, FormatsBy, FormatsFewest, IsLaid, IsUnlaid, RefusesFormat, Respells, WritesFormatted}
use Rattle.lint.specs.Steps.{AnswersAlone, output_of, status_of}
use Rattle.lint.specs.declared.answer.Answer.{Answer}
use Rattle.lint.proofs.OneScript.{only_script}

-- a script is formatted to a layout that spells its tree with as many pairs
pub formats_to : (language : Language) (style : Style) (text out : List ℕ) (n : Tree) (P : List Pair) → Accepted language text n P → IsOnly language text n P
    → Respells language text out n P → IsLaid style out → Formats language style text out
formats_to language style text out n P is only spells laid = record {
  tree = n;
  pairs = P;
  accepted = is;
  only = only;
  again = spells.again;
  pairs_again = spells.pairs;
  same = spells.same;
  accepted_again = record { source = spells.source; derived = spells.derived; lawful = none_either n spells.again (sym spells.same) is.lawful };
  only_again = only_script language out spells.again spells.pairs spells.derived;
  as_many = sym spells.counted;
  kept = spells.kept;
  laid = laid;
}

-- in a result
pub formats_either : {X : Type 0} (bytes : X → List ℕ) (language : Language) (style : Style) (text : List ℕ) (n m : Tree) (P Q : List Pair) (result : Result X Fault) → Accepted language text n P → IsOnly language text n P
    → m ≡ n → Q ≡ P → IfOk result (λ t. IsLaid style (bytes t)) → IfOk result (λ t. Respells language text (bytes t) m Q) → IfOk result (λ t. Formats language style text (bytes t))
formats_either bytes language style text n m P Q (Ok t) is only same alike laid spells =
    formats_to language style text (bytes t) n P is only
    (subst (λ (R : List Pair). Respells language text (bytes t) n R) alike (subst (λ (k : Tree). Respells language text (bytes t) k Q) same spells)) laid
formats_either bytes language style text n m P Q (Err fault) is only same alike laid spells = tt

-- what holds anyway holds if a call says so
pub if_said : {X : Type 0} (result : Result Bool Fault) → X → IfOk result (λ said. said ≡ true → X)
if_said (Ok said) x = λ is. x
if_said (Err fault) x = tt

-- where the unwrapped text is formatted, the fewest pairs stay
pub formats_fewest : (language : Language) (style : Style) (text between out : List ℕ) → Unwraps language text between → Formats language style between out
    → FormatsFewest language style text out
formats_fewest language style text between out u f =
    let is = u.only_again f.tree f.pairs (max_open, f.accepted.derived.1) in
    let as_many : length u.pairs_again ≡ length f.pairs_again = sym (ap (λ (ps : List Pair). length ps) is.1) ∙ f.as_many in
    record { between = between; unwraps = u; formats = f; fewest = subst (λ k. FewestInAny u.tree k) as_many u.fewest }

-- and in a result
pub fewest_either : {X : Type 0} (bytes : X → List ℕ) (language : Language) (style : Style) (text between : List ℕ) (result : Result X Fault) → Unwraps language text between
    → IfOk result (λ t. Formats language style between (bytes t)) → IfOk result (λ t. FormatsFewest language style text (bytes t))
fewest_either bytes language style text between (Ok t) unwraps formats = formats_fewest language style text between (bytes t) unwraps formats
fewest_either bytes language style text between (Err fault) unwraps formats = tt

-- ---- refusals

-- a script whose layout is refused isn't formatted
pub unlaid_refused : (fewest : Bool) (text : List ℕ) (n : Tree) (P : List Pair) (fault : Fault) → IsUnlaid text fault → RefusesFormat fewest text n P fault
unlaid_refused fewest text n P TooLong unlaid = inl unlaid
unlaid_refused fewest text n P FormatFailed unlaid = tt
unlaid_refused fewest text n P OutOfMemory unlaid = tt
unlaid_refused fewest text n P _ unlaid = absurd unlaid

-- a refusal of a layout, in a result
pub either_refused : {X : Type 0} (fewest : Bool) (text : List ℕ) (n : Tree) (P : List Pair) (result : Result X Fault) → IfErr result (IsUnlaid text)
    → IfErr result (RefusesFormat fewest text n P)
either_refused fewest text n P (Ok x) refused = tt
either_refused fewest text n P (Err fault) refused = unlaid_refused fewest text n P fault refused

-- what `format` answers of a script
pub format_answered : (language : Language) (choice : FormatChoice) (text : List ℕ) (n : Tree) (P : List Pair) (formatted : List ℕ) (answer : Answer) → FormatsBy choice language text formatted
    → WritesFormatted choice.check text formatted (output_of answer) (status_of answer) → AnswersAlone language (Format choice) text n P (Ok answer)
format_answered language choice text n P formatted answer formats writes = λ finds given. (refl, ([], refl, (formatted, formats, writes)))

-- and where it is refused
pub format_refused : (language : Language) (choice : FormatChoice) (text : List ℕ) (n : Tree) (P : List Pair) (fault : Fault) → RefusesFormat choice.fewest text n P fault
    → AnswersAlone language (Format choice) text n P (Err fault)
format_refused language choice text n P TooLong refused = λ finds given. (refl, ([], refl, refused))
format_refused language choice text n P UnwrapFailed refused = λ finds given. (refl, ([], refl, refused))
format_refused language choice text n P FormatFailed refused = λ finds given. (refl, ([], refl, refused))
format_refused language choice text n P OutOfMemory refused = λ finds given. refl
format_refused language choice text n P _ refused = absurd refused
