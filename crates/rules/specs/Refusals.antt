-- How the reading of settings is refused.
use Rattle.std.specs.Prelude.{◌≡◌, ◌<◌, ◌≤◌, ℕ, List, length, Some, None}
use Rattle.toml.specs.Data.{Members}
use Rattle.toml.specs.Errors.{IsMemory, span_start}
use Rattle.toml.specs.Parse.{parse_document}
use Rattle.toml.specs.declared.de.error.Error.{Error}
use Rattle.source_text.specs.Source.{IsPlace, max_bytes}
use Rattle.rules.specs.declared.settings_error.SettingsError.{SettingsError}
use Rattle.rules.specs.declared.settings_error.SettingsError.TheVariants.{Memory, NotToml, TooLong, Unfit}
use Rattle.rules.specs.Misfits.{KeyFault, fault_of, shown_fault}
use Rattle.rules.specs.Toml.{settings_of}

-- the two refusals of a table: that of memory, and one for a fault
abbrev pub RefusesBy : (KeyFault → Type 0) → SettingsError → Type 0
RefusesBy Faulty Memory = Unit {0}
RefusesBy Faulty (NotToml at) = ⊥
RefusesBy Faulty TooLong = ⊥
RefusesBy Faulty (Unfit fault) = Faulty (shown_fault fault)

-- the last place of a text that isn't behind an offset
pub record IsPlaceBefore (text : List ℕ) (offset at : ℕ) : Type 0 where
  pub is_place : IsPlace text at
  pub before : at ≤ offset
  pub last : (i : ℕ) → at < i → i ≤ offset → ¬ (IsPlace text i)

-- what an error of `toml` says of a text: memory is refused, or the text is no TOML, and where its span starts
abbrev pub IsTomlRefusal : List ℕ → Error → SettingsError → Type 0
IsTomlRefusal text error Memory = IsMemory error
IsTomlRefusal text error (NotToml at) = (¬ (IsMemory error)) × IsPlaceBefore text (span_start error) at
IsTomlRefusal text error TooLong = ⊥
IsTomlRefusal text error (Unfit fault) = ⊥

-- a TOML text that gives no settings
abbrev pub GivesNone : List ℕ → Type 0
GivesNone text = (ms : Members) × (parse_document text ≡ Some ms) × (settings_of ms ≡ None)

-- and its first fault
abbrev pub GivesFault : List ℕ → KeyFault → Type 0
GivesFault text fault = (given : GivesNone text) × (fault_of given.0 ≡ Some fault)

-- why a text is refused, but for memory: its length is looked at first; where it is no TOML, a place of it is told; where it is TOML, the first key that doesn't fit
abbrev pub RefusesToml : List ℕ → SettingsError → Type 0
RefusesToml text Memory = Unit {0}
RefusesToml text (NotToml at) = (length text ≤ max_bytes) × (parse_document text ≡ None) × IsPlace text at
RefusesToml text TooLong = max_bytes < length text
RefusesToml text (Unfit fault) = GivesFault text (shown_fault fault)
