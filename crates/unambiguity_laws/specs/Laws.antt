-- The grammar is unambiguous, short scripts are within the limits, and grouping pairs come in order.
use Rattle.std.specs.Prelude.{◌≡◌, ℕ, ◌<◌, ◌≤◌, false, List, [], ◌∷◌, length}
use Rattle.std.specs.Str.{IsUtf8}
use Rattle.tree.specs.declared.kind.Pair.{Pair}
use Rattle.tree.specs.Tree.{Tree, height}
use Rattle.language.specs.Claims.{Derives, WithinLimits, max_height, max_open, short_bytes}
use Rattle.language.specs.declared.Language.{Language}
use Rattle.language.specs.Languages.{DerivesOpenIn, DerivesIn}
use Rattle.language.specs.Later.{has_later}
use Rattle.language.specs.Earlier.{EarlierDerivesOpen}

-- any two derivations of a text in a language agree in tree, places and pairs
abbrev pub AtMostOneScriptIn : Type 0
AtMostOneScriptIn =
    (language : Language) (text : List ℕ) (n m : Tree) (P Q : List Pair) → DerivesIn language text n P → DerivesIn language text m Q → (m ≡ n) × (Q ≡ P)

-- so do those of the base profile, told by their trees
abbrev pub AtMostOneScript : Type 0
AtMostOneScript =
    (text : List ℕ) (n m : Tree) (P Q : List Pair) → has_later n ≡ false → Derives text n P → has_later m ≡ false → Derives text m Q → (m ≡ n) × (Q ≡ P)

-- what a text derived by the 11th edition is all that it derives in the base profile
abbrev pub EarlierScriptIsTheOne : Type 0
EarlierScriptIsTheOne =
    (o : ℕ) (text : List ℕ) (n m : Tree) (P Q : List Pair) → IsUtf8 text → EarlierDerivesOpen o text n P → has_later m ≡ false → Derives text m Q → (m ≡ n) × (Q ≡ P)

-- a script of a short text is within the limits
abbrev pub ShortScriptsFit : Type 0
ShortScriptsFit = (text : List ℕ) (n : Tree) (P : List Pair) → IsUtf8 text → length text < short_bytes → Derives text n P → WithinLimits text n P

-- in each language, a short text derives only scripts that are within the limits
abbrev pub ShortScriptsFitIn : Type 0
ShortScriptsFitIn =
    (language : Language) (text : List ℕ) (n : Tree) (P : List Pair) → IsUtf8 text → length text < short_bytes → DerivesIn language text n P → (height n ≤ max_height) × DerivesOpenIn language max_open text n P

-- each `(` stands before the next one's, and each pair closes behind it
abbrev pub InOrder : List Pair → Type 0
InOrder [] = Unit {0}
InOrder (p ∷ []) = p.left < p.right
InOrder (p ∷ q ∷ P) = (p.left < p.right) × (p.left < q.left) × InOrder (q ∷ P)

-- the grouping pairs of a derivation come in order of their `(`
abbrev pub PairsInOrder : Type 0
PairsInOrder = (text : List ℕ) (n : Tree) (P : List Pair) → IsUtf8 text → Derives text n P → InOrder P

-- in each language, the pairs of a derivation are in order
abbrev pub PairsInOrderIn : Type 0
PairsInOrderIn = (language : Language) (text : List ℕ) (n : Tree) (P : List Pair) → IsUtf8 text → DerivesIn language text n P → InOrder P
