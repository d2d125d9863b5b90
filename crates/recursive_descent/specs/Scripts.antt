-- What reading a whole text answers (ECMA-262 15.1).
use Rattle.std.specs.Prelude.{◌≡◌, ◌≤◌, ℕ, List, [], Result, codes}
use Rattle.source_text.specs.declared.fault.Fault.{Fault}
use Rattle.tree.specs.declared.kind.Pair.{Pair}
use Rattle.tree.specs.Tree.{Tree, height}
use Rattle.language.specs.declared.Language.{Language}
use Rattle.language.specs.declared.Language.TheVariants.{Base, Script as strict_script, Module}
use Rattle.language.specs.Claims.{max_height, max_open}
use Rattle.language.specs.Languages.{DerivesOpenIn}
use Rattle.recursive_descent.specs.declared.script.Script.{Script}
use Rattle.recursive_descent.specs.Completeness.{Agrees}

-- the text of a Program, which says its language
abbrev pub program_text : Language → List ℕ
program_text Base = []
program_text strict_script = codes "2022"
program_text Module = codes "module"

-- For each derivation of the text in the language, of any height and nesting, the answer is its tree with its pairs; a refusal is no syntax error, and it is too deep only
-- where the derivation isn't within the limits.
abbrev pub IsAnswered : Language → List ℕ → Result Script Fault → Type 0
IsAnswered language text result = (o : ℕ) (n : Tree) (P : List Pair) → DerivesOpenIn language o text n P →
    Agrees ((o ≤ max_open) × (height n ≤ max_height)) (λ script. (script.program ≡ n) × (script.pairs.items ≡ P)) result
