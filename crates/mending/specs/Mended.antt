-- What one round of mending promises of a text.
use Rattle.std.specs.Prelude.{ℕ, List}
use Rattle.tree.specs.Tree.{Tree}
use Rattle.rule_words.specs.Reports.{Report}
use Rattle.mending.specs.declared.splice.Edit.{Edit}
use Rattle.mending.specs.Mends.{Mends, is_reported}
use Rattle.mending.specs.Splices.{IsSpliced}
use Rattle.mending.specs.KeptComments.{KeepsComments}

-- A text with its tree, and the next one: the trees are the same but for changes of rules at places that they report, the texts but for some
-- edits, and the comments stay.
pub record IsMended (reports : List Report) (text : List ℕ) (n : Tree) (next : List ℕ) (again : Tree) : Type 0 where
  pub changed : Mends (is_reported reports) n again
  pub edits : List Edit
  pub spliced : IsSpliced text edits next
  pub comments : KeepsComments text n next again
