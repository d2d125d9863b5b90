-- What reading a script promises, in each language: the one tree that the text derives, within the limits, and no early error of it; a refusal names the
-- reason why there is none (ECMA-262 5.2.4, clause 16).
use Rattle.std.specs.Prelude.{◌≡◌, ◌≤◌, ℕ, List, [], Some, length}
use Rattle.std.specs.Str.{IsUtf8}
use Rattle.source_text.specs.Source.{IsPlace, max_bytes}
use Rattle.source_text.specs.declared.fault.Fault.{Fault}
use Rattle.source_text.specs.declared.fault.Fault.TheVariants.{Syntax, TooDeep, Early, OutOfMemory}
use Rattle.tree.specs.declared.kind.Pair.{Pair}
use Rattle.tree.specs.Tree.{SameTree, Tree}
use Rattle.language.specs.declared.Language.{Language}
use Rattle.language.specs.Claims.{short_bytes}
use Rattle.language.specs.Languages.{DerivesIn}
use Rattle.language_laws.specs.Laws.{SameItems}
use Rattle.recursive_descent.specs.Limits.{WithinLimitsIn}
use Rattle.early_errors.specs.Accepted.{Accepted}
use Rattle.early_errors.specs.Early.{errors, least_error}

-- any script that the text derives in the language, of any height and nesting, is this one, with these pairs
abbrev pub IsOnly : Language → List ℕ → Tree → List Pair → Type 0
IsOnly language text n P = (m : Tree) (Q : List Pair) → DerivesIn language text m Q → (m ≡ n) × (Q ≡ P)

-- The text is accepted in the language with this tree and these grouping pairs, and derives nothing else there.
pub record IsReading (language : Language) (text : List ℕ) (n : Tree) (P : List Pair) : Type 0 where
  pub accepted : Accepted language text n P
  pub only : IsOnly language text n P

-- and it has such a tree
abbrev pub HasReading : Language → List ℕ → Type 0
HasReading language text = (n : Tree) × (P : List Pair) × IsReading language text n P

-- the text derives no script of the language, of whatever height and nesting
abbrev pub NoScript : Language → List ℕ → Type 0
NoScript language text = (m : Tree) (Q : List Pair) → DerivesIn language text m Q → ⊥

-- it derives none within the limits
abbrev pub NoneWithin : Language → List ℕ → Type 0
NoneWithin language text = (m : Tree) (Q : List Pair) → WithinLimitsIn language text m Q → ⊥

-- The text derives in the language a tree within the limits and no other, and this is the tree's least early error: so it is that of each tree that the
-- text derives, and none of them is without early errors.
pub record HasEarlyError (language : Language) (text : List ℕ) (number at : ℕ) : Type 0 where
  pub tree : Tree
  pub pairs : List Pair
  pub derived : WithinLimitsIn language text tree pairs
  pub only : IsOnly language text tree pairs
  pub least : least_error tree ≡ Some (number, at)
  pub unlawful : (m : Tree) (Q : List Pair) → DerivesIn language text m Q → errors m ≡ [] → ⊥

-- A syntax error names a place of a text that is no script; a text that is nested too deep is no script within the limits, and isn't short; an early
-- error is the least of the one tree that the text derives, and names a place of it; else memory is refused.
abbrev pub RefusesReading : Language → List ℕ → Fault → Type 0
RefusesReading language text (Syntax at) = IsPlace text at × NoScript language text
RefusesReading language text TooDeep = (short_bytes ≤ length text) × NoneWithin language text
RefusesReading language text (Early number at) = IsPlace text at × HasEarlyError language text number at
RefusesReading language text OutOfMemory = Unit {0}
RefusesReading language text other = ⊥

-- some source text derives this tree in a language, of any height and nesting, with these pairs
pub record IsScript (n : Tree) (P : List Pair) : Type 0 where
  pub language : Language
  pub text : List ℕ
  pub utf8 : IsUtf8 text
  pub short : length text ≤ max_bytes
  pub derived : DerivesIn language text n P

-- some text of a language derives the tree, places aside, with this number of pairs, and none of any language derives one with the same items with fewer
pub record FewestInAny (n : Tree) (count : ℕ) : Type 0 where
  pub attained : (language : Language) × (text : List ℕ) × (m : Tree) × (P : List Pair) × SameTree m n × DerivesIn language text m P × (length P ≡ count)
  pub least : (language : Language) (text : List ℕ) (m : Tree) (P : List Pair) → SameItems m n → DerivesIn language text m P → count ≤ length P
