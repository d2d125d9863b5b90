-- A short text that is nested too deep is no script.
use Rattle.std.proofs.Common.{◌≡◌, ◌<◌, ℕ, List, length, Result, Err, subst, arith}
use Rattle.std.specs.Str.{IsUtf8}
use Rattle.source_text.specs.declared.fault.Fault.{Fault}
use Rattle.source_text.specs.declared.fault.Fault.TheVariants.{TooDeep}
use Rattle.tree.specs.declared.kind.Pair.{Pair}
use Rattle.tree.specs.Tree.{Tree}
use Rattle.language.specs.declared.Language.{Language}
use Rattle.language.specs.Claims.{max_open, short_bytes}
use Rattle.language.specs.Languages.{DerivesOpenIn}
use Rattle.unambiguity_laws.proofs.heights.Heights.{short_fits_in}
use Rattle.recursive_descent.specs.declared.script.Script.{Script}
use Rattle.recursive_descent.specs.Scripts.{IsAnswered}

pub short_refused : (language : Language) (text : List ℕ) (r : Result Script Fault) → IsUtf8 text → length text < short_bytes → r ≡ Err TooDeep → IsAnswered language text r →
    (o : ℕ) (n : Tree) (P : List Pair) → DerivesOpenIn language o text n P → ⊥
short_refused language text r utf8 less is answered o n P d =
    let within = short_fits_in language text n P utf8 less (o, d) in
    subst (IsAnswered language text) is answered max_open n P within.1 (omega arith, within.0)
