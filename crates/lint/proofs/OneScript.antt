-- What is derived is the only script of its text; why a text is refused.
use Rattle.std.proofs.Common.{◌≡◌, ◌∙◌, ◌≤◌, ℕ, List, sym, ap, Some, None, Result, Ok, Err, arith, subst, refl, length}
use Rattle.std.specs.Result.{IfErr, IsErrAnd}
use Rattle.source_text.specs.declared.fault.Fault.{Fault}
use Rattle.source_text.specs.declared.fault.Fault.TheVariants.{Syntax, TooDeep, OutOfMemory}
use Rattle.tree.specs.declared.kind.Pair.{Pair}
use Rattle.tree.specs.Tree.{Tree, height}
use Rattle.language.specs.declared.Language.{Language}
use Rattle.language.specs.Claims.{max_height, max_open, short_bytes}
use Rattle.language.specs.Languages.{DerivesOpenIn}
use Rattle.recursive_descent.specs.Limits.{WithinLimitsIn}
use Rattle.early_errors.specs.Early.{Error, least, least_error}
use Rattle.unambiguity_laws.proofs.Steps.{one_script_in}
use Rattle.recursive_descent.specs.Completeness.{Agrees}
use Rattle.token_cursor.specs.Refusals.{IsRefusal}
use Rattle.lint.specs.ReadScripts.{IsOnly, HasEarlyError, RefusesReading}

unlike : {x : Error} → None ≡ Some x → ⊥
unlike h = cc

pub only_script : (language : Language) (text : List ℕ) (n : Tree) (P : List Pair) → WithinLimitsIn language text n P → IsOnly language text n P
only_script language text n P within = λ m Q d. one_script_in language text n m P Q (max_open, within.1) d

-- the least early error of a tree that the text derives
pub has_early_error : (language : Language) (text : List ℕ) (n : Tree) (P : List Pair) (number at : ℕ) → WithinLimitsIn language text n P → least_error n ≡ Some (number, at) → HasEarlyError language text number at
has_early_error language text n P number at within is =
    let only = only_script language text n P within in
    record {
      tree = n;
      pairs = P;
      derived = within;
      only = only;
      least = is;
      unlawful = λ m Q d none. unlike (sym (ap least none) ∙ ap least_error (only m Q d).0 ∙ is);
    }

-- a refusal that agrees with each derivation of the text: a syntax error, where there is none; too deep, where none is within the limits, of a text that is long
pub refused_reading : (language : Language) (text : List ℕ) (fault : Fault) → IsRefusal (record { bytes = text; language = language }) fault →
    ((o : ℕ) (n : Tree) (P : List Pair) → DerivesOpenIn language o text n P → Agrees {X = Unit {0}} ((o ≤ max_open) × (height n ≤ max_height)) (λ x. Unit {0}) (Err fault)) → (fault ≡ TooDeep → short_bytes ≤ length text) → RefusesReading language text fault
refused_reading language text (Syntax at) is agrees long = (is, λ n P d. agrees d.0 n P d.1)
refused_reading language text TooDeep is agrees long = (long refl, λ n P within. agrees max_open n P within.1 (omega arith, within.0))
refused_reading language text OutOfMemory is agrees long = tt
refused_reading language text _ is agrees long = absurd is

-- behind a `?` the fault is the same
pub passed_on : {X : Type 0} (R : Fault → Type 0) (answer : Result X Fault) (fault : Fault) → IsErrAnd answer (λ e. e ≡ fault) → R fault → IfErr answer R
passed_on R (Ok x) fault is h = tt
passed_on R (Err other) fault is h = subst R (sym is) h
