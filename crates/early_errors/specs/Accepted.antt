-- What is accepted: a source text that derives a script or module of a language within the limits, where no early error applies (ECMA-262
-- 5.2.4, 15.1; 16.1.1, 16.2.1.1 of the 13th edition).
use Rattle.std.specs.Prelude.{◌≡◌, ◌≤◌, ℕ, List, []}
use Rattle.std.specs.Str.{IsUtf8}
use Rattle.tree.specs.declared.kind.Pair.{Pair}
use Rattle.tree.specs.Tree.{Tree, height}
use Rattle.language.specs.declared.Language.{Language}
use Rattle.language.specs.Claims.{max_height, max_open}
use Rattle.language.specs.Languages.{DerivesOpenIn}
use Rattle.early_errors.specs.Early.{errors}

-- the text is UTF-8 and derives this tree in the language within the limits, with these grouping pairs, and the tree has no early error
pub record Accepted (language : Language) (text : List ℕ) (n : Tree) (P : List Pair) : Type 0 where
  pub source : IsUtf8 text
  pub derived : (height n ≤ max_height) × DerivesOpenIn language max_open text n P
  pub lawful : errors n ≡ []
