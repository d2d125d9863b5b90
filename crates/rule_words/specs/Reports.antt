-- A report.
use Rattle.std.specs.Prelude.{ℕ, List, ◌++◌, codes}
use Prim.Native.String.{String}

-- rule and text are bytes
pub record Report : Type 0 where
  pub start : ℕ
  pub stop : ℕ
  pub rule : List ℕ
  pub text : List ℕ

abbrev pub report : String → ℕ → ℕ → List ℕ → Report
report rule s e text = record { start = s; stop = e; rule = codes rule; text = text }

-- a name between quotes, and words behind it
abbrev pub quoted : List ℕ → String → List ℕ
quoted text rest = codes "'" ++ (text ++ (codes "' " ++ codes rest))
