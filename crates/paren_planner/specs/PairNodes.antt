-- The node in each grouping pair of a derivation, and what a row's number says of it.
use Rattle.std.specs.Prelude.{◌≡◌, ℕ, zero, suc, ◌+◌, Bool, true, false, cond, ◌&&◌, List, [], ◌∷◌, ◌++◌, Option, Some, None, map, slice_get}
use Rattle.std.specs.Str.{IsUtf8}
use Rattle.tree.specs.declared.kind.Pair.{Pair}
use Rattle.tree.specs.Tree.{Tree, Parts}
use Rattle.tokens.specs.Reading.{any_goal}
use Rattle.language.specs.Token.{Token}
use Rattle.language.specs.Pieces.{Role, PieceOf, script}
use Rattle.language.specs.declared.Language.{Language}
use Rattle.language.specs.Languages.{Seen, seen_in, beginning_in}
use Rattle.language.specs.Places.{NextIn}
use Rattle.language.specs.Grammar.{ways}
use Rattle.language.specs.Derivation.{Spells, direct, grouped, reserved_key, reserved_word, Runs, done, step, opened, closed, within, missing}
use Rattle.language.specs.RowPositions.{has_row, rows}
use Rattle.language.specs.Claims.{row_nodes}
use Rattle.tree.specs.declared.kind.Span.{Span}
use Rattle.spellings.specs.Groupings.{grouping, row_starts}
use Rattle.wrap_flags.specs.Flags.{is_flagged}
use Rattle.paren_planner.specs.Extra.{extra_spans, span_of}

module _ (Ways : Role → Tree → List (List (PieceOf Role))) (S : Type 0) (Next : S → Token → S → Type 0) (behind : S → Token) where
  abbrev mutual
    -- the nodes in the grouping pairs of a derivation, in the order of the pairs
    pub pair_nodes : {o : ℕ} {a : Role} {n : Tree} {s e : S} {P : List Pair} → Spells Ways S Next behind o a n s e P → List Tree
    pair_nodes (direct qs h p d) = run_pair_nodes d
    pair_nodes (grouped {n = n} p d q) = n ∷ pair_nodes d
    pair_nodes (reserved_key r h p) = []
    pair_nodes (reserved_word r h p) = []

    pub run_pair_nodes : {o : ℕ} {qs : List (PieceOf Role)} {ps : Parts} {s e : S} {P : List Pair} → Runs Ways S Next behind o qs ps s e P → List Tree
    run_pair_nodes done = []
    run_pair_nodes (step p d) = run_pair_nodes d
    run_pair_nodes (opened p d) = run_pair_nodes d
    run_pair_nodes (closed p d) = run_pair_nodes d
    run_pair_nodes (within p d) = pair_nodes p ++ run_pair_nodes d
    run_pair_nodes (missing d) = run_pair_nodes d

  -- no pair stands round the node
  abbrev pub is_direct : {o : ℕ} {a : Role} {n : Tree} {s e : S} {P : List Pair} → Spells Ways S Next behind o a n s e P → Bool
  is_direct (direct qs h p d) = true
  is_direct (grouped p d q) = false
  is_direct (reserved_key r h p) = true
  is_direct (reserved_word r h p) = true

  abbrev mutual
    -- of each grouping pair, where the first row has this number: the row of its node, and whether it is the innermost of the node's pairs
    pub pair_rows : {o : ℕ} {a : Role} {n : Tree} {s e : S} {P : List Pair} → Spells Ways S Next behind o a n s e P → ℕ → List (ℕ × Bool)
    pair_rows {a = a} (direct qs h p d) r = run_pair_rows d (has_row a + r)
    pair_rows (grouped p d q) r = (r, is_direct d) ∷ pair_rows d r
    pair_rows (reserved_key x h p) r = []
    pair_rows (reserved_word x h p) r = []

    pub run_pair_rows : {o : ℕ} {qs : List (PieceOf Role)} {ps : Parts} {s e : S} {P : List Pair} → Runs Ways S Next behind o qs ps s e P → ℕ → List (ℕ × Bool)
    run_pair_rows done r = []
    run_pair_rows (step p d) r = run_pair_rows d r
    run_pair_rows (opened p d) r = run_pair_rows d r
    run_pair_rows (closed p d) r = run_pair_rows d r
    run_pair_rows (within {a = a} {n = n} p d) r = pair_rows p r ++ run_pair_rows d (r + rows n a)
    run_pair_rows (missing d) r = run_pair_rows d r

-- the node with a row's number, counted from 1
abbrev pub node_of_row : Tree → ℕ → Option Tree
node_of_row n zero = None
node_of_row n (suc r) = slice_get (row_nodes n script) r

-- the text spells a script or module as a language sees it
abbrev pub SpellsAll : Language → List ℕ → ℕ → Tree → Token → List Pair → Type 0
SpellsAll language text o n last P = Spells ways Token (Seen Token (NextIn text any_goal) language) (seen_in language) o script n (beginning_in language text) last P

-- the row of each grouping pair is that of the node which the derivation has in the pair
abbrev pub PairsHaveTheirRows : Type 0
PairsHaveTheirRows =
    (language : Language) (text : List ℕ) (o : ℕ) (n : Tree) (last : Token) (P : List Pair) → IsUtf8 text → (d : SpellsAll language text o n last P) →
    map (λ p. node_of_row n (grouping (row_starts n) p).row) P ≡ map Some (pair_nodes ways Token (Seen Token (NextIn text any_goal) language) (seen_in language) d)

-- the spans of the pairs but for the innermost of each wrapped node
abbrev pub spans_but_needed : List Bool → List Pair → List (ℕ × Bool) → List Span
spans_but_needed wrapped [] xs = []
spans_but_needed wrapped (p ∷ P) [] = []
spans_but_needed wrapped (p ∷ P) (x ∷ xs) =
    cond (x.1 && is_flagged wrapped x.0) [] (span_of (record { left = p.left; right = p.right; row = x.0 }) ∷ []) ++ spans_but_needed wrapped P xs

-- the extra pairs of a script are all but the innermost of each wrapped node
abbrev pub ExtraPairsAreExtra : Type 0
ExtraPairsAreExtra =
    (language : Language) (text : List ℕ) (o : ℕ) (n : Tree) (last : Token) (P : List Pair) → IsUtf8 text → (d : SpellsAll language text o n last P) → (wrapped : List Bool) →
    extra_spans wrapped (map (grouping (row_starts n)) P) ≡ spans_but_needed wrapped P (pair_rows ways Token (Seen Token (NextIn text any_goal) language) (seen_in language) d 1)
