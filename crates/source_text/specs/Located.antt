-- A place of a text with its line and column.
use Rattle.std.specs.Prelude.{◌≡◌, ◌≤◌, ◌+◌, ℕ, List, length}
use Rattle.source_text.specs.LineBytes.{after_bytes}
use Rattle.source_text.specs.declared.line_walker.LineWalker.{LineWalker}

-- line and column are those behind the bytes before it, and neither passes their number and 1
pub record IsLocated (text : List ℕ) (walker : LineWalker) : Type 0 where
  pub within : walker.at ≤ length text
  pub walked : (walker.line, walker.column) ≡ after_bytes (1, 1) walker.at text
  pub few_lines : walker.line ≤ walker.at + 1
  pub few_columns : walker.column ≤ walker.at + 1
