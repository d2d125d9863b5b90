-- The languages: scripts of the base profile, and strict scripts and modules of 2022. One table spells all of them. A language says which
-- names are keywords, what a text may begin with, and which trees are its own.
use Rattle.std.specs.Prelude.{◌≡◌, ◌↔◌, ℕ, Bool, true, false, not, cond, ◌&&◌, List, []}
use Rattle.std.specs.Str.{chars}
use Rattle.tokens.specs.declared.token.TokenClass.{TokenClass}
use Rattle.tokens.specs.declared.token.TokenClass.TheVariants.{IdentifierName, Keyword}
use Rattle.tokens.specs.Comments.{hashbang}
use Rattle.tokens.specs.Tokens.{size}
use Rattle.tokens.specs.Reading.{any_goal}
use Rattle.tree.specs.declared.kind.Pair.{Pair}
use Rattle.tree.specs.Tree.{Tree, text_of}
use Rattle.language.specs.declared.Language.{Language}
use Rattle.language.specs.declared.Language.TheVariants.{Base, Script, Module}
use Rattle.language.specs.Token.{Token}
use Rattle.language.specs.Vocabulary.{is, is_keyword}
use Rattle.language.specs.Pieces.{Role, script, PieceOf}
use Rattle.language.specs.Grammar.{ways}
use Rattle.language.specs.Cursor.{beginning}
use Rattle.language.specs.Places.{NextIn, itself}
use Rattle.language.specs.Derivation.{Spells}
use Rattle.language.specs.Later.{is_later, has_later}
use Rattle.language.specs.Claims.{DerivesOpen}

abbrev pub is_of_2022 : Language → Bool
is_of_2022 Base = false
is_of_2022 Script = true
is_of_2022 Module = true

-- the class of a token in a language
abbrev pub class_in : Language → TokenClass → List ℕ → TokenClass
class_in language IdentifierName text = cond (is_of_2022 language && is_keyword text) Keyword IdentifierName
class_in language class text = class

abbrev pub seen_in : Language → Token → Token
seen_in language token = record token { class = class_in language token.class token.text }

-- a token is read, and seen by the language
pub data Seen (S : Type 0) (Next : S → Token → S → Type 0) (language : Language) : S → Token → S → Type 0 where
  seen_next : {s : S} {t : Token} {e : S} → Next s t e → Seen S Next language s (seen_in language t) e

-- the place before the first token: behind the line of `#!` in the language of 2022
abbrev pub beginning_in : Language → List ℕ → Token
beginning_in language text = cond (is_of_2022 language) (record beginning { stop = size (hashbang (chars text)) }) beginning

-- the tree is one of the language: the Program's text says it, and the base profile has no later node
abbrev pub is_tree_of : Language → Tree → Bool
is_tree_of Base tree = not (has_later tree)
is_tree_of Script tree = is (text_of tree) "2022"
is_tree_of Module tree = is (text_of tree) "module"

-- the text, in UTF-8, spells the tree in the language, with at most o parentheses open at one point
abbrev pub DerivesOpenIn : Language → ℕ → List ℕ → Tree → List Pair → Type 0
DerivesOpenIn language o text tree P =
    (is_tree_of language tree ≡ true) × (last : Token) × Spells ways Token (Seen Token (NextIn text any_goal) language) (seen_in language) o script tree (beginning_in language text) last P

abbrev pub DerivesIn : Language → List ℕ → Tree → List Pair → Type 0
DerivesIn language text tree P = (o : ℕ) × DerivesOpenIn language o text tree P

-- the table of the base profile
abbrev pub base_ways : Role → Tree → List (List (PieceOf Role))
base_ways role tree = cond (is_later tree) [] (ways role tree)

abbrev pub BaseDerivesOpen : ℕ → List ℕ → Tree → List Pair → Type 0
BaseDerivesOpen o text tree P = (last : Token) × Spells base_ways Token (NextIn text any_goal) itself o script tree beginning last P

-- a text derives a tree without later productions just where it derives the tree and that is one of the base profile
abbrev pub BaseScriptsStay : Type 0
BaseScriptsStay = (o : ℕ) (text : List ℕ) (n : Tree) (P : List Pair) → BaseDerivesOpen o text n P ↔ (DerivesOpen o text n P × (has_later n ≡ false))

-- and what it derives as a text of the base profile, as each language is told, is that
abbrev pub BaseIsALanguage : Type 0
BaseIsALanguage = (o : ℕ) (text : List ℕ) (n : Tree) (P : List Pair) → DerivesOpenIn Base o text n P ↔ (DerivesOpen o text n P × (has_later n ≡ false))
