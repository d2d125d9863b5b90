-- Readings of one place end alike: arrays, objects, their patterns, arguments and parameters, from their items.
use Rattle.std.proofs.Common.{◌≡◌, ℕ, ◌≤◌, List, ◌∷◌, refl, sym, ap, subst}
use Rattle.std.specs.Prelude.{IsTrue, Some, codes}
use Rattle.std.proofs.lemmas.Bool.{false≢true}
use Rattle.tokens.specs.declared.token.TokenClass.TheVariants.{Punctuator}
use Rattle.tokens.specs.declared.token.Goal.TheVariants.{Div}
use Rattle.tokens.specs.Goals.{allows}
use Rattle.tree.specs.declared.kind.Pair.{Pair}
use Rattle.tree.specs.Tree.{Tree, Parts, kind_of, parts_height}
use Rattle.language.specs.Vocabulary.{is}
use Rattle.language.specs.Pieces.{Role, PieceOf, tok}
use Rattle.language.specs.Token.{Token}
use Rattle.language.specs.Covers.{Reading, element_as, property_as}
use Rattle.language.specs.Promises.{IsDetermined}
use Rattle.language.specs.Following.{IsAlike}
use Rattle.language.specs.Grammar.{ways}
use Rattle.language.specs.Derivation.{Spells, Runs}
use Rattle.language.proofs.list_loops.FirstPieces.{run_token}
use Rattle.language.proofs.climbing.Conditionals.{same_sign}
use Rattle.language.proofs.list_loops.FirstItems.{list_pieces, element_pieces}
use Rattle.language.proofs.list_loops.CommaLists.{Separated, by_comma, by_closing}
use Rattle.language.proofs.covers.CoverEnds.{Closing, a_bracket, a_parenthesis, a_brace}
use Rattle.language.proofs.covers.CoverPunctuators.{Separates, comma_separates, bracket_separates, parenthesis_separates, brace_separates, no_element_begins, no_part_begins}
use Rattle.unambiguity_laws.proofs.Unique.{Unique}
use Rattle.unambiguity_laws.proofs.list_items.ListEnds.{list_view, element_view, Crossing, lists_end}

pub closing_separates : {w : List ℕ} → Closing w → Separates w
closing_separates a_bracket = bracket_separates
closing_separates a_parenthesis = parenthesis_separates
closing_separates a_brace = brace_separates

-- no closing sign is a comma
pub no_comma : {w : List ℕ} → Closing w → codes "," ≡ w → ⊥
no_comma a_bracket e = false≢true (sym (ap (λ x. is x ",") e))
no_comma a_parenthesis e = false≢true (sym (ap (λ x. is x ",") e))
no_comma a_brace e = false≢true (sym (ap (λ x. is x ",") e))

-- the pieces of an array and of its pattern; of an object and of its pattern; of arguments and of parameters
abbrev pub array_pieces_as : Reading → Parts → List (PieceOf Role)
array_pieces_as x ps = tok Punctuator (codes "[") ∷ element_pieces (element_as x) (codes "]") ps

abbrev pub object_pieces_as : Reading → Parts → List (PieceOf Role)
object_pieces_as x ps = tok Punctuator (codes "{") ∷ list_pieces (property_as x) (codes "}") ps

module _ (S : Type 0) (Next : S → Token → S → Type 0) (behind : S → Token) (det : IsDetermined S Next behind) where
  -- no element and no property begins with a comma or with a closing sign
  pub no_element_there : {w : List ℕ} → Closing w → (x : Reading) {a : Role} {o : ℕ} {n : Tree} {s e : S} {P : List Pair} → element_as x (kind_of n) ≡ Some a → Spells ways S Next behind o a n s e P → Separated S Next behind det w s → ⊥
  no_element_there c x {a} {o} {n} {s} {e} {P} it d (by_comma h) = no_element_begins S Next behind det comma_separates h x o a e n P it d
  no_element_there c x {a} {o} {n} {s} {e} {P} it d (by_closing h) = no_element_begins S Next behind det (closing_separates c) h x o a e n P it d

  pub no_property_there : {w : List ℕ} → Closing w → (x : Reading) {a : Role} {o : ℕ} {n : Tree} {s e : S} {P : List Pair} → property_as x (kind_of n) ≡ Some a → Spells ways S Next behind o a n s e P → Separated S Next behind det w s → ⊥
  no_property_there c x {a} {o} {n} {s} {e} {P} it d (by_comma h) = no_part_begins S Next behind det comma_separates h x o a e n P it d
  no_property_there c x {a} {o} {n} {s} {e} {P} it d (by_closing h) = no_part_begins S Next behind det (closing_separates c) h x o a e n P it d

  -- behind one sign, what runs by both readings ends alike
  pub behind_sign : {w : List ℕ} {o o' : ℕ} {ps qs : Parts} {one two : List (PieceOf Role)} {s e k : S} {P Q : List Pair} → IsTrue (allows Div Punctuator w) →
      ((m : S) → Runs ways S Next behind o one ps m e P → Runs ways S Next behind o' two qs m k Q → k ≡ e) → Runs ways S Next behind o (tok Punctuator w ∷ one) ps s e P → Runs ways S Next behind o' (tok Punctuator w ∷ two) qs s k Q → k ≡ e
  behind_sign {o' = o'} {qs = qs} {two = two} {k = k} {Q = Q} al further d d' =
      let a = run_token S Next behind d in
      let b = run_token S Next behind d' in
      further a.mid a.runs (subst (λ v. Runs ways S Next behind o' two qs v k Q) (same_sign S Next behind det b.reads a.reads al).1 b.runs)

module _ (S : Type 0) (Next : S → Token → S → Type 0) (behind : S → Token) (det : IsDetermined S Next behind) (alike : IsAlike S Next behind) {h : ℕ} (u : Unique S Next behind det h) where
  element_crossing : {w : List ℕ} (c : Closing w) (x z : Reading) → Crossing S Next behind det h w (element_as x) (element_as z)
  element_crossing c x z = record {
    other = no_comma c;
    allowed = (closing_separates c).allowed;
    one_begins = λ {a} {o} {n} {s} {e} {P} it d sep. no_element_there S Next behind det c x it d sep;
    two_begins = λ {a} {o} {n} {s} {e} {P} it d sep. no_element_there S Next behind det c z it d sep;
    ends = λ {a} {b} {o} {o'} {n} {m} {s} {e} {k} {P} {Q} low it d sep it' d' sep'. u.element_ends x z c low it d sep it' d' sep';
  }

  property_crossing : (x z : Reading) → Crossing S Next behind det h (codes "}") (property_as x) (property_as z)
  property_crossing x z = record {
    other = no_comma a_brace;
    allowed = refl;
    one_begins = λ {a} {o} {n} {s} {e} {P} it d sep. no_property_there S Next behind det a_brace x it d sep;
    two_begins = λ {a} {o} {n} {s} {e} {P} it d sep. no_property_there S Next behind det a_brace z it d sep;
    ends = λ {a} {b} {o} {o'} {n} {m} {s} {e} {k} {P} {Q} low it d sep it' d' sep'. u.property_ends x z low it d sep it' d' sep';
  }

  -- lists of arguments or parameters
  pub list_ends : {w : List ℕ} (c : Closing w) (x z : Reading) {o o' : ℕ} {ps qs : Parts} {s e k : S} {P Q : List Pair} → parts_height ps ≤ h → Runs ways S Next behind o (list_pieces (element_as x) w ps) ps s e P → Runs ways S Next behind o' (list_pieces (element_as z) w qs) qs s k Q → k ≡ e
  list_ends {w} c x z {ps = ps} {qs = qs} low d d' = lists_end S Next behind det (element_crossing c x z) (list_pieces (element_as x) w) (list_pieces (element_as z) w) (list_view S Next behind (element_as x) w) (list_view S Next behind (element_as z) w) ps qs low d d'

  pub array_ends : (x z : Reading) {o o' : ℕ} {ps qs : Parts} {s e k : S} {P Q : List Pair} → parts_height ps ≤ h → Runs ways S Next behind o (array_pieces_as x ps) ps s e P → Runs ways S Next behind o' (array_pieces_as z qs) qs s k Q → k ≡ e
  array_ends x z {ps = ps} {qs = qs} low d d' =
      behind_sign S Next behind det refl (λ m a b. lists_end S Next behind det (element_crossing a_bracket x z) (element_pieces (element_as x) (codes "]")) (element_pieces (element_as z) (codes "]")) (element_view S Next behind (element_as x) (codes "]")) (element_view S Next behind (element_as z) (codes "]")) ps qs low a b) d d'

  pub object_ends : (x z : Reading) {o o' : ℕ} {ps qs : Parts} {s e k : S} {P Q : List Pair} → parts_height ps ≤ h → Runs ways S Next behind o (object_pieces_as x ps) ps s e P → Runs ways S Next behind o' (object_pieces_as z qs) qs s k Q → k ≡ e
  object_ends x z {ps = ps} {qs = qs} low d d' =
      behind_sign S Next behind det refl (λ m a b. lists_end S Next behind det (property_crossing x z) (list_pieces (property_as x) (codes "}")) (list_pieces (property_as z) (codes "}")) (list_view S Next behind (property_as x) (codes "}")) (list_view S Next behind (property_as z) (codes "}")) ps qs low a b) d d'
