-- The fixed text of each script that some text derives derives it, within the limits too, and so in each language.
use Rattle.std.proofs.Common.{◌≡◌, ℕ, ◌≤◌, List, length, sym, subst, arith}
use Rattle.std.specs.Str.{IsUtf8}
use Rattle.std.proofs.lemmas.Str.{IsCharBoundary-start}
use Rattle.tokens.specs.Reading.{any_goal}
use Rattle.tree.specs.declared.kind.Pair.{Pair}
use Rattle.tree.specs.Tree.{Tree, height, SameTree}
use Rattle.language.specs.declared.Language.{Language}
use Rattle.language.specs.declared.Language.TheVariants.{Base}
use Rattle.language.specs.Languages.{Seen, seen_in, DerivesOpenIn, DerivesIn}
use Rattle.language.specs.Token.{Token}
use Rattle.language.specs.Places.{NextIn}
use Rattle.language.specs.Pieces.{script}
use Rattle.language.specs.Grammar.{ways}
use Rattle.language.specs.Derivation.{Spells}
use Rattle.language.specs.Claims.{Derives, DerivesOpen, WithinLimits, max_height, max_open}
use Rattle.language.specs.Layout.{wrapped_rows, has_number, fixed_text}
use Rattle.language.specs.Printed.{open_in}
use Rattle.language.proofs.languages.BaseTrees.{same_language}
use Rattle.language.proofs.layout.WithinLimits.{height_within, open_within}
use Rattle.language.proofs.layout.LaidTexts.{laid}
use Rattle.language.proofs.texts.BaseLanguage.{seen_spells, unseen_spells}
use Rattle.language.proofs.texts.StartPlaces.{starting_place}

open_derives : (k : ℕ) (other : List ℕ) (n : Tree) (P : List Pair) → IsUtf8 other → DerivesOpen k other n P → (o : ℕ) → open_in (has_number (wrapped_rows n script 1)) n script 1 ≤ o →
    (m : Tree) × (Q : List Pair) × SameTree m n × DerivesOpen o (fixed_text n) m Q × (length Q ≡ length (wrapped_rows n script 1))
open_derives k other n P u d o low =
    let x = laid Base other n u (IsCharBoundary-start other u) (seen_spells other d.1) o low in
    (x.tree, x.pairs, x.same_tree, (x.last, unseen_spells (fixed_text n) x.spells), x.counted)

open_derives_in : (m : Language) (k : ℕ) (other : List ℕ) (n : Tree) (P : List Pair) → IsUtf8 other → DerivesOpenIn m k other n P → (o : ℕ) → open_in (has_number (wrapped_rows n script 1)) n script 1 ≤ o →
    (t : Tree) × (Q : List Pair) × SameTree t n × DerivesOpenIn m o (fixed_text n) t Q × (length Q ≡ length (wrapped_rows n script 1))
open_derives_in m k other n P u d o low =
    let x = laid m other n u (starting_place m other u) d.2 o low in
    (x.tree, x.pairs, x.same_tree, (same_language m x.tree n x.same_tree d.0, x.last, subst (λ s. Spells ways Token (Seen Token (NextIn (fixed_text n) any_goal) m) (seen_in m) o script x.tree s x.last x.pairs) (sym x.start) x.spells), x.counted)

pub fixed_always : (other : List ℕ) (n : Tree) (P : List Pair) → IsUtf8 other → Derives other n P →
    (m : Tree) × (Q : List Pair) × SameTree m n × DerivesOpen (open_in (has_number (wrapped_rows n script 1)) n script 1) (fixed_text n) m Q × (length Q ≡ length (wrapped_rows n script 1))
fixed_always other n P u d = open_derives d.0 other n P u d.1 (open_in (has_number (wrapped_rows n script 1)) n script 1) (omega arith)

pub within_always : (other : List ℕ) (n : Tree) (P : List Pair) → IsUtf8 other → WithinLimits other n P →
    (m : Tree) × (Q : List Pair) × SameTree m n × WithinLimits (fixed_text n) m Q × (length Q ≡ length (wrapped_rows n script 1))
within_always other n P u d = let x = open_derives max_open other n P u d.1 max_open (open_within n d.0) in (x.0, x.1, x.2, (height_within x.0 n x.2 d.0, x.3), x.4)

pub fixed_always_in : (m : Language) (other : List ℕ) (n : Tree) (P : List Pair) → IsUtf8 other → DerivesIn m other n P →
    (t : Tree) × (Q : List Pair) × SameTree t n × DerivesOpenIn m (open_in (has_number (wrapped_rows n script 1)) n script 1) (fixed_text n) t Q × (length Q ≡ length (wrapped_rows n script 1))
fixed_always_in m other n P u d = open_derives_in m d.0 other n P u d.1 (open_in (has_number (wrapped_rows n script 1)) n script 1) (omega arith)

pub within_always_in : (m : Language) (other : List ℕ) (n : Tree) (P : List Pair) → IsUtf8 other → height n ≤ max_height → DerivesOpenIn m max_open other n P →
    (t : Tree) × (Q : List Pair) × SameTree t n × (height t ≤ max_height) × DerivesOpenIn m max_open (fixed_text n) t Q × (length Q ≡ length (wrapped_rows n script 1))
within_always_in m other n P u low d = let x = open_derives_in m max_open other n P u d max_open (open_within n low) in (x.0, x.1, x.2, height_within x.0 n x.2 low, x.3, x.4)
