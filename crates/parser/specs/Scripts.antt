-- What reading a whole text answers (ECMA-262 15.1).
use Rattle.std.specs.Prelude.{◌≡◌, ◌≤◌, ℕ, List, Result}
use Rattle.source_text.specs.declared.fault.Fault.{Fault}
use Rattle.tree.specs.declared.kind.Pair.{Pair}
use Rattle.tree.specs.Tree.{Tree, height}
use Rattle.language.specs.declared.Language.{Language}
use Rattle.language.specs.Claims.{max_height, max_open}
use Rattle.language.specs.Languages.{DerivesOpenIn}
use Rattle.language.specs.Earlier.{EarlierDerivesOpen}
use Rattle.parser.specs.declared.script.Parsed.{Parsed}
use Rattle.recursive_descent.specs.Completeness.{Agrees}

-- For each derivation of the text in the language, of any height and nesting, the answer is its tree with its pairs; a refusal is no syntax error, and it is too deep only
-- where the derivation isn't within the limits.
abbrev pub IsAnswered : Language → List ℕ → Result Parsed Fault → Type 0
IsAnswered language text result = (o : ℕ) (n : Tree) (P : List Pair) → DerivesOpenIn language o text n P →
    Agrees ((o ≤ max_open) × (height n ≤ max_height)) (λ parsed. (parsed.program ≡ n) × (parsed.pairs.items ≡ P)) result

-- In the base profile the same for each derivation by the 11th edition, without separators in numbers and without logical assignments.
abbrev pub IsAnsweredAsBefore : List ℕ → Result Parsed Fault → Type 0
IsAnsweredAsBefore text result = (o : ℕ) (n : Tree) (P : List Pair) → EarlierDerivesOpen o text n P →
    Agrees ((o ≤ max_open) × (height n ≤ max_height)) (λ parsed. (parsed.program ≡ n) × (parsed.pairs.items ≡ P)) result
