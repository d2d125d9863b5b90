-- What is proved of the JSON of trees.
use Rattle.std.specs.Prelude.{◌≡◌, ◌↔◌, ℕ, List}
use Rattle.tree.specs.declared.kind.Pair.{Pair}
use Rattle.tree.specs.Tree.{Tree, SameTree}
use Rattle.language.specs.declared.Language.{Language}
use Rattle.language.specs.Languages.{DerivesIn}
use Rattle.estree_json.specs.Json.{json_of}
use Rattle.json_laws.specs.Placeless.{without_places, specifier_forms}

-- two trees have one JSON, places aside, and the same forms of specifiers, which ESTree doesn't say
pub record SameJson (m n : Tree) : Type 0 where
  pub values : without_places (json_of m) ≡ without_places (json_of n)
  pub specifiers : specifier_forms m ≡ specifier_forms n

-- one tree, places aside, has one JSON, whether or not a text derives it
abbrev pub OneTreeHasOneJson : Type 0
OneTreeHasOneJson = (m n : Tree) → SameTree m n → SameJson m n

-- what two texts derive in one language is one tree, places aside, if they have one JSON
abbrev pub OneJsonHasOneTree : Type 0
OneJsonHasOneTree =
    (language : Language) (text other : List ℕ) (m n : Tree) (P Q : List Pair) → DerivesIn language text m P → DerivesIn language other n Q → SameJson m n → SameTree m n

-- so just where they have
abbrev pub JsonTellsTrees : Type 0
JsonTellsTrees =
    (language : Language) (text other : List ℕ) (m n : Tree) (P Q : List Pair) → DerivesIn language text m P → DerivesIn language other n Q → SameTree m n ↔ SameJson m n
