-- Scripts of the 11th edition of ECMA-262: tokens of that edition, and no logical assignments.
use Rattle.std.specs.Prelude.{ℕ, Bool, cond, List, []}
use Rattle.std.specs.Str.{IsUtf8}
use Rattle.tree.specs.declared.kind.Kind.TheVariants.{AssignmentExpression}
use Rattle.tree.specs.declared.kind.Pair.{Pair}
use Rattle.tree.specs.Tree.{Tree, node}
use Rattle.tokens.specs.declared.token.Goal.{Goal}
use Rattle.tokens.specs.Tokens.{LexicalToken}
use Rattle.tokens.specs.Earlier.{EarlierReads, new_punctuators}
use Rattle.language.specs.Token.{Token, as_read}
use Rattle.language.specs.Vocabulary.{among}
use Rattle.language.specs.Later.{is_later}
use Rattle.language.specs.Pieces.{Role, script, PieceOf}
use Rattle.language.specs.Grammar.{ways}
use Rattle.language.specs.Cursor.{beginning}
use Rattle.language.specs.Places.{itself}
use Rattle.language.specs.Derivation.{Spells}
use Rattle.language.specs.Claims.{DerivesOpen}

-- behind `s` a token of that edition is read, by any goal, and reading goes on behind it
pub data EarlierNextIn (text : List ℕ) : Token → Token → Token → Type 0 where
  earlier_next_in : {s : Token} {t : LexicalToken} → (goal : Goal) → EarlierReads text goal s.stop t → EarlierNextIn text s (as_read t) (as_read t)

-- an assignment by one of the new operators, or a node of the language of 2022
abbrev pub is_new_node : Tree → Bool
is_new_node (node AssignmentExpression text flags from to parts) = among text new_punctuators
is_new_node (node kind text flags from to parts) = is_later (node kind text flags from to parts)

abbrev pub earlier_ways : Role → Tree → List (List (PieceOf Role))
earlier_ways role tree = cond (is_new_node tree) [] (ways role tree)

-- the text, in UTF-8, spelled the tree as a Script, with at most o parentheses open at one point
abbrev pub EarlierDerivesOpen : ℕ → List ℕ → Tree → List Pair → Type 0
EarlierDerivesOpen o text tree P = (last : Token) × Spells earlier_ways Token (EarlierNextIn text) itself o script tree beginning last P

-- a text that derived before derives the same tree now, with the same places and pairs
abbrev pub EarlierScriptsStay : Type 0
EarlierScriptsStay = (o : ℕ) (text : List ℕ) (n : Tree) (P : List Pair) → IsUtf8 text → EarlierDerivesOpen o text n P → DerivesOpen o text n P
