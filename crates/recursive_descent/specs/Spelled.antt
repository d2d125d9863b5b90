-- What the tokens of a text spell, in its language.
use Rattle.std.specs.Prelude.{◌≡◌, ℕ, false, List}
use Rattle.tree.specs.declared.kind.Pair.{Pair}
use Rattle.tree.specs.Tree.{Tree, Parts}
use Rattle.language.specs.declared.Language.TheVariants.{Base}
use Rattle.language.specs.Token.{Token}
use Rattle.language.specs.Pieces.{Role}
use Rattle.language.specs.Grammar.{ways}
use Rattle.language.specs.Derivation.{Spells}
use Rattle.language.specs.Later.{has_later, some_has_later}
use Rattle.token_cursor.specs.SourceText.{SourceText, SeenNext, behind_in}

-- from one place of the text to another the tokens spell the node
abbrev pub SpellsIn : SourceText → ℕ → Role → Tree → Token → Token → List Pair → Type 0
SpellsIn text = Spells ways Token (SeenNext text) (behind_in text)

-- the node, the parts are of the language: in the base profile none of later editions is in them
pub record OfLanguage (text : SourceText) (tree : Tree) : Type 0 where
  pub none_later : text.language ≡ Base → has_later tree ≡ false

pub record AllOfLanguage (text : SourceText) (parts : Parts) : Type 0 where
  pub none_later : text.language ≡ Base → some_has_later parts ≡ false
