-- What is compared with those before it in one node: properties, members, cases.
use Rattle.std.specs.Prelude.{ℕ, Bool, ◌&&◌, ◌||◌, List}
use Rattle.std.specs.List.{list_any}
use Rattle.std.specs.Str.{bytes_eq}

-- what it is compared by; whether it says what is read, and what is done when something is written (a setter doesn't, a getter doesn't)
pub record Entry : Type 0 where
  pub label : List ℕ
  pub is_read : Bool
  pub is_written : Bool
  pub start : ℕ
  pub stop : ℕ

-- one with this label that says what is read is among these
abbrev pub reads_among : List Entry → List ℕ → Bool
reads_among entries label = list_any (λ e. e.is_read && bytes_eq label e.label) entries

abbrev pub writes_among : List Entry → List ℕ → Bool
writes_among entries label = list_any (λ e. e.is_written && bytes_eq label e.label) entries

-- what it says is said by one of these that stand before it
abbrev pub is_again : List Entry → Entry → Bool
is_again before e = (e.is_read && reads_among before e.label) || (e.is_written && writes_among before e.label)
