-- What is proved of the definitions.
use Rattle.std.specs.Prelude.{◌≡◌, ◌≤◌, ◌↔◌, ℕ, true, List, length, IsTrue, None}
use Rattle.tree.specs.declared.kind.Pair.{Pair}
use Rattle.tree.specs.Tree.{Tree, SameTree}
use Rattle.language.specs.Claims.{Table, Sound}
use Rattle.language.specs.declared.Language.{Language}
use Rattle.language.specs.Languages.{DerivesIn}
use Rattle.cost_certificate.specs.Types.{all_typed}
use Rattle.cost_certificate.specs.Faults.{first_fault}
use Rattle.cost_certificate.specs.Forms.{Format, is_formed, is_table, bad_line, IsBadLine, read_text, table_text}

-- the total of a sound table bounds every derivation in each language of every text with the same tree from below
abbrev pub SoundIsLowerBound : Type 0
SoundIsLowerBound = (t : Table) (n : Tree) → Sound t n → (language : Language) (text : List ℕ) (m : Tree) (P : List Pair) → SameTree m n → DerivesIn language text m P → t.total ≤ length P

-- a table, whose rows have types, has no fault exactly where it is sound
abbrev pub FaultlessIsSound : Type 0
FaultlessIsSound = (t : Table) (n : Tree) → all_typed t.rows ≡ true → (first_fault t n ≡ None) ↔ Sound t n

-- a text is read as a table exactly where it is that of the table, in its format
abbrev pub ReadsTables : Type 0
ReadsTables = (text : List ℕ) (f : Format) (t : Table) → (read_text text ≡ is_table f t) ↔ (IsTrue (is_formed t) × (text ≡ table_text f t))

-- a text that is read as no table is refused at the first line with which it departs from all tables
abbrev pub RefusesFirstLine : Type 0
RefusesFirstLine = (text : List ℕ) (r : ℕ) → read_text text ≡ bad_line r → IsBadLine text r
