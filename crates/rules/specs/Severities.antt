-- Severities: whether a rule is on, and whether its reports are errors.
use Rattle.std.specs.Prelude.{ℕ, ℤ, pos, Bool, true, false, cond, List, Option, Some, None}
use Rattle.std.specs.Ordering.{int_eq}
use Rattle.language.specs.Vocabulary.{is}
use Rattle.rules.specs.declared.severity.Severity.{Severity}
use Rattle.rules.specs.declared.severity.Severity.TheVariants.{Off, Warn, Error}

abbrev pub severity_named : List ℕ → Option Severity
severity_named text =
    cond (is text "off") (Some Off)
    (cond (is text "warn") (Some Warn)
    (cond (is text "error") (Some Error) None))

abbrev pub severity_numbered : ℤ → Option Severity
severity_numbered n =
    cond (int_eq n (pos 0)) (Some Off)
    (cond (int_eq n (pos 1)) (Some Warn)
    (cond (int_eq n (pos 2)) (Some Error) None))

-- what is on without more is an error
abbrev pub severity_of_flag : Bool → Severity
severity_of_flag is_on = cond is_on Error Off

-- where only some rules are asked for, those are on, also if something else turns them off, and no others
abbrev pub narrowed : Bool → Severity → Severity
narrowed false severity = Off
narrowed true Off = Error
narrowed true Warn = Warn
narrowed true Error = Error

abbrev pub is_severity : Severity → Severity → Bool
is_severity Off Off = true
is_severity Warn Warn = true
is_severity Error Error = true
is_severity a b = false
