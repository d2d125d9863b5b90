-- What an outline says of the ways to spell a node.
use Rattle.std.proofs.Common.{◌≡◌, ℕ, Bool, true, false, cond, List, [], ◌∷◌, refl, sym, ap, ◌∙◌}
use Rattle.std.specs.Prelude.{Option, Some, None, not, IsTrue}
use Rattle.std.proofs.lemmas.Bool.{true≢false}
use Rattle.tree.specs.Tree.{Parts, none, part, gap}
use Rattle.tokens.specs.declared.token.TokenClass.TheVariants.{IdentifierName, Punctuator}
use Rattle.language.specs.declared.Rank.{Rank}
use Rattle.language.specs.declared.Start.{Start}
use Rattle.language.specs.declared.Start.TheVariants.{Any, NoBrace, Statement}
use Rattle.language.specs.Vocabulary.{is, among}
use Rattle.language.specs.Pieces.{Role, Slot, Piece, tok, sub, unbroken, lay, space, Spelling, at}
use Rattle.language.specs.Grammar.{starts}
use Rattle.language.proofs.lower_bound.Domination.{fits}
use Rattle.spelling_table.specs.declared.outline.FixedSlots.{FixedSlots}
use Rattle.spelling_table.specs.declared.outline.ListSlots.{ListSlots}
use Rattle.spelling_table.specs.declared.outline.ListSlots.TheVariants as tail
use Rattle.spelling_table.specs.declared.outline.Outline.{Outline}
use Rattle.spelling_table.specs.Outlines.{opens_at, outline_slots, front_before, tail_slots, parts_after, lined, fronted}
use Rattle.spellings.proofs.SlotPositions.{named}

-- a spelling is as the outline says
pub record Describes (ps : Parts) (s : Spelling) (x : Outline) : Type 0 where
  pub rank : s.rank ≡ x.rank
  pub needs_in : s.needs_in ≡ x.needs_in
  pub opens : (f : Start) → starts f s.pieces ≡ opens_at f x.opens
  pub names : named s.pieces ≡ outline_slots x ps

-- the outline is that of the first way; a second one fits only where the first does
pub data Outlined (ps : Parts) : List Spelling → Option Outline → Type 0 where
  no_way : Outlined ps [] None
  never_runs : {s : Spelling} → named s.pieces ≡ None → Outlined ps (s ∷ []) None
  neither_runs : {s r : Spelling} → named s.pieces ≡ None → named r.pieces ≡ None → Outlined ps (s ∷ r ∷ []) None
  one_way : {s : Spelling} {x : Outline} → Describes ps s x → Outlined ps (s ∷ []) (Some x)
  two_ways : {s r : Spelling} {x : Outline} → Describes ps s x → ((a : Role) → IsTrue (fits a r) → IsTrue (fits a s)) → Outlined ps (s ∷ r ∷ []) (Some x)

pub nothing_slots : (ps : Parts) → tail_slots tail.Nothing ps ≡ Some []
nothing_slots none = refl
nothing_slots (part n ps) = refl
nothing_slots (gap ps) = refl

-- First tokens

pub sub_starts : (f : Start) (s : Slot) (qs : List Piece) → starts f (sub s ∷ qs) ≡ true
sub_starts Any s qs = refl
sub_starts NoBrace s qs = refl
sub_starts Statement s qs = refl

-- behind a word, a word on its line
abbrev pub is_word_behind : List Piece → Bool
is_word_behind (unbroken ∷ lay space ∷ tok IdentifierName v ∷ qs) = true
is_word_behind _ = false

pub word_starts : (f : Start) (w : List ℕ) (qs : List Piece) → is_word_behind qs ≡ false → among w ("function" ∷ "class" ∷ []) ≡ false → starts f (tok IdentifierName w ∷ qs) ≡ true
word_starts Any w qs e h = refl
word_starts NoBrace w qs e h = refl
word_starts Statement w (unbroken ∷ lay space ∷ tok IdentifierName v ∷ qs) e h = absurd (true≢false e)
word_starts Statement w qs e h = ap not h

pub sign_starts : (f : Start) (w : List ℕ) (qs : List Piece) → is w "{" ≡ false → starts f (tok Punctuator w ∷ qs) ≡ true
sign_starts Any w qs h = refl
sign_starts NoBrace w qs h = ap not h
sign_starts Statement w qs h = ap not h

module _ {ps : Parts} where
  pub by_case : {xs ys : List Spelling} {u v : Option Outline} (b : Bool) → (b ≡ true → Outlined ps xs u) → (b ≡ false → Outlined ps ys v) → Outlined ps (cond b xs ys) (cond b u v)
  by_case true h k = h refl
  by_case false h k = k refl

  -- a list of parts behind first ones, opening with nothing that a start asks of
  pub lists : (z : Rank) (f : FixedSlots) (t : ListSlots) (n : ℕ) (qs : List Piece) → named qs ≡ front_before f (tail_slots t (parts_after n ps)) → ((g : Start) → starts g qs ≡ true) → Outlined ps (at z qs ∷ []) (Some (lined z f t n))
  lists z f t n qs e h = one_way (record { rank = refl; needs_in = refl; opens = λ g. h g ∙ free g; names = e })
    where
      free : (g : Start) → true ≡ opens_at g Rattle.spelling_table.specs.declared.outline.FirstToken.TheVariants.Other
      free Any = refl
      free NoBrace = refl
      free Statement = refl

  pub fronts : (z : Rank) (f : FixedSlots) (qs : List Piece) → named qs ≡ front_before f (Some []) → ((g : Start) → starts g qs ≡ true) → Outlined ps (at z qs ∷ []) (Some (fronted z f))
  fronts z f qs e h = lists z f tail.Nothing 0 qs (e ∙ sym (ap (front_before f) (nothing_slots ps))) h
