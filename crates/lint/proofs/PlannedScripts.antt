-- What a script that a text derives gives the planner.
use Rattle.std.proofs.Common.{◌≡◌, ◌≤◌, ℕ, List, length, arith, subst}
use Rattle.std.specs.Prelude.{IsSome}
use Rattle.tree.specs.declared.kind.Pair.{Pair}
use Rattle.tree.specs.Tree.{Tree}
use Rattle.language.specs.Pieces.{script}
use Rattle.language.specs.RowPositions.{rows}
use Rattle.language.specs.Cost.{least}
use Rattle.language.specs.declared.Language.{Language}
use Rattle.language.specs.Claims.{max_open}
use Rattle.language.specs.Languages.{DerivesIn}
use Rattle.paren_planner.proofs.Bytes.{rows_within, derived_least}
use Rattle.paren_planner.specs.Plans.{IsDerived}
use Rattle.lint.specs.ReadScripts.{IsReading, IsScript}

-- some number of pairs spells it
pub script_spelled : (n : Tree) (P : List Pair) → IsScript n P → IsSome (least n script)
script_spelled n P is = derived_least is.language is.text n P is.derived

-- it has no more rows than a text may have bytes
pub script_few : (n : Tree) (P : List Pair) → IsScript n P → rows n script ≤ 16777216
script_few n P is =
    let within : rows n script ≤ length is.text = rows_within is.language is.text n P is.utf8 is.derived in
    let short = is.short in
    omega (arith, within, short)

-- what is read of a text is a script
pub reading_script : (language : Language) (text : List ℕ) (n : Tree) (P : List Pair) → IsReading language text n P → length text ≤ 16777216 → IsScript n P
reading_script language text n P reading short = record { language = language; text = text; utf8 = reading.accepted.source; short = short; derived = (max_open, reading.accepted.derived.1) }

-- it is derived, with its own pairs
pub script_derived : (n m : Tree) (P Q : List Pair) → n ≡ m → P ≡ Q → IsScript n P → IsDerived m Q
script_derived n m P Q same alike is = record { language = is.language; text = is.text; utf8 = is.utf8; short = is.short; derived = subst (λ R. DerivesIn is.language is.text m R) alike (subst (λ k. DerivesIn is.language is.text k P) same is.derived) }
