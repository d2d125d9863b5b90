-- What mending a script promises.
use Rattle.std.specs.Prelude.{ℕ, List}
use Rattle.tree.specs.declared.kind.Pair.{Pair}
use Rattle.tree.specs.Tree.{Tree}
use Rattle.language.specs.declared.Language.{Language}
use Rattle.early_errors.specs.Accepted.{Accepted}
use Rattle.rules.specs.Reports.{Report}
use Rattle.rules.specs.Rules.{View}
use Rattle.rules.specs.Settings.{Settings}
use Rattle.mending.specs.Mended.{IsMended}
use Rattle.lint.specs.ReadScripts.{HasReading, IsOnly}
use Rattle.lint.specs.Reported.{Reports}

-- A text, with its tree, is changed to one that is accepted in a language and derives one tree there: both trees, and both texts, are the same but
-- for changes at places of these reports.
pub record MendsTo (language : Language) (reports : List Report) (text : List ℕ) (n : Tree) (next : List ℕ) : Type 0 where
  pub again : Tree
  pub pairs_again : List Pair
  pub accepted_again : Accepted language next again pairs_again
  pub only_again : IsOnly language next again pairs_again
  pub mended : IsMended reports text n next again

-- One round: the text is accepted in a language with a tree, and derives no other there; the next text is the same but for changes where the
-- rules report something of it under the settings.
pub record MendsOnce (finds : View → List Report) (language : Language) (settings : Settings) (text next : List ℕ) : Type 0 where
  pub tree : Tree
  pub pairs : List Pair
  pub accepted : Accepted language text tree pairs
  pub only : IsOnly language text tree pairs
  pub reports : List Report
  pub are_reports : Reports finds language text tree pairs settings reports
  pub next_is : MendsTo language reports text tree next

-- Rounds, one after another: the mended text is the last one's, or the text itself. Each of these texts is accepted and derives one tree.
pub data Mended (finds : View → List Report) (language : Language) (settings : Settings) : (text mended : List ℕ) → Type 0 where
  stays : {text : List ℕ} → HasReading language text → Mended finds language settings text text
  goes_on : {text next mended : List ℕ} → MendsOnce finds language settings text next → Mended finds language settings next mended → Mended finds language settings text mended
