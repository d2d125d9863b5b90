-- The directives: the first word of a comment that turns reports off, or on again.
use Rattle.std.specs.Prelude.{ℕ, Bool, true, false, cond, codes, List, Option, Some, None}
use Rattle.std.specs.Str.{bytes_eq}
use Rattle.suppressions.specs.declared.directive.Directive.{Directive}
use Rattle.suppressions.specs.declared.directive.Directive.TheVariants.{Disable, DisableLine, DisableNextLine, Enable}
use Rattle.suppressions.specs.declared.directive.Reach.{Reach}
use Rattle.suppressions.specs.declared.directive.Reach.TheVariants.{Line, NextLine, Region}

abbrev pub own_directive : List ℕ → Option Directive
own_directive word =
    cond (bytes_eq word (codes "jslint-disable")) (Some Disable)
    (cond (bytes_eq word (codes "jslint-disable-line")) (Some DisableLine)
    (cond (bytes_eq word (codes "jslint-disable-next-line")) (Some DisableNextLine)
    (cond (bytes_eq word (codes "jslint-enable")) (Some Enable) None)))

-- ESLint's
abbrev pub eslint_directive : List ℕ → Option Directive
eslint_directive word =
    cond (bytes_eq word (codes "eslint-disable")) (Some Disable)
    (cond (bytes_eq word (codes "eslint-disable-line")) (Some DisableLine)
    (cond (bytes_eq word (codes "eslint-disable-next-line")) (Some DisableNextLine)
    (cond (bytes_eq word (codes "eslint-enable")) (Some Enable) None)))

abbrev pub or_else : {A : Type 0} → Option A → Option A → Option A
or_else None other = other
or_else (Some a) other = Some a

-- the directive of a word, where ESLint's are taken too or not
abbrev pub directive_of : Bool → List ℕ → Option Directive
directive_of eslint word = or_else (own_directive word) (cond eslint (eslint_directive word) None)

-- what a directive reaches: all that follows it, up to a directive that says otherwise, its own line, or the line after it; in a `//` comment only lines are reached
abbrev pub reaches : Reach → (is_block : Bool) → Directive → Bool
reaches Region is_block Disable = is_block
reaches Region is_block Enable = is_block
reaches Region is_block DisableLine = false
reaches Region is_block DisableNextLine = false
reaches Line is_block Disable = false
reaches Line is_block Enable = false
reaches Line is_block DisableLine = true
reaches Line is_block DisableNextLine = false
reaches NextLine is_block Disable = false
reaches NextLine is_block Enable = false
reaches NextLine is_block DisableLine = false
reaches NextLine is_block DisableNextLine = true

abbrev pub turns_off : Directive → Bool
turns_off Disable = true
turns_off DisableLine = true
turns_off DisableNextLine = true
turns_off Enable = false
