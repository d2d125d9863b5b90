-- The next part of neat pieces, as if nothing stood before it.
use Rattle.std.proofs.Common.{◌≡◌, Bool, true, false, List, [], ◌∷◌, refl}
use Rattle.std.specs.Prelude.{codes}
use Rattle.std.proofs.lemmas.Bool.{and_parts, false≢true}
use Rattle.tree.specs.Tree.{Tree, Parts, part}
use Rattle.language.specs.Pieces.{Role, Piece, tok, may, many, ahead, unbroken, no_operand, ending, open_parameters, close_parameters, sub, absent, never, lay, space, line, feed, deeper, shallower, apart, loose}
use Rattle.language.specs.Grammar.{can_run}
use Rattle.language.specs.LayoutFits.{lines_up}
use Rattle.language.proofs.table.Alike.{standing_at}
use Rattle.language.proofs.table.NeatPieces.{Touch, fresh, apart_from, broken, solid, closed, signed, slot_sort, takes_token, takes_part, takes_sign, takes_space, takes_line, takes_joined, takes_apart, takes_loose, is_loose, goes_on_here, no_pieces, echo_followed, goes_behind, behind_token, neat}
use Rattle.language.proofs.table.WayPieces.{TailOf, whole_tail, is_tail}
use Rattle.language.proofs.layout.WalkLead.{is_lead, pass}

pub record NextFresh (a : Role) (qs : List Piece) : Type 0 where
  pub pieces : List Piece
  pub number : Bool
  pub within : Bool
  pub tail : TailOf a qs pieces
  pub is : is_tail pieces ≡ true
  pub neat : Rattle.language.proofs.table.NeatPieces.neat number within fresh pieces ≡ true

further : (a : Role) (q : Piece) (qs : List Piece) → is_lead q ≡ true → NextFresh a qs → NextFresh a (q ∷ qs)
further a q qs h x = record { pieces = x.pieces; number = x.number; within = x.within; tail = pass a q qs x.pieces h x.tail; is = x.is; neat = x.neat }

pub next_fresh : (a : Role) (n : Tree) (ps : Parts) (s : Touch) (b o : Bool) (qs : List Piece) → neat b o s qs ≡ true → can_run qs ≡ true → lines_up (standing_at a qs) (part n ps) ≡ true → NextFresh a qs
next_fresh a n ps s b o [] h k l = absurd (false≢true l)
next_fresh a n ps s b o (absent ∷ qs) h k l = absurd (false≢true l)
next_fresh a n ps s b o (sub x ∷ qs) h k l = record { pieces = sub x ∷ qs; number = b; within = o; tail = whole_tail a (sub x ∷ qs); is = refl; neat = (and_parts (takes_part s (slot_sort x)) _ h).1 }
next_fresh a n ps s b o (tok x v ∷ qs) h k l =
    let u = and_parts (takes_token s x v) _ h in let g = and_parts (goes_behind x v qs) _ u.1 in further a (tok x v) qs refl (next_fresh a n ps (behind_token x v) b o qs g.1 k l)
next_fresh a n ps s b o (may v ∷ qs) h k l = further a (may v) qs refl (next_fresh a n ps s b o qs h k l)
next_fresh a n ps s b o (many v ∷ qs) h k l = further a (many v) qs refl (next_fresh a n ps s b o qs h k l)
next_fresh a n ps s b o (ahead v ∷ qs) h k l = absurd (false≢true h)
next_fresh a n ps s b o (unbroken ∷ qs) h k l = further a unbroken qs refl (next_fresh a n ps s b o qs (and_parts (goes_on_here qs) _ (and_parts (takes_joined s) _ h).1).1 k l)
next_fresh a n ps s b o (no_operand ∷ qs) h k l = further a no_operand qs refl (next_fresh a n ps s b o qs (and_parts (no_pieces qs) _ h).1 k l)
next_fresh a n ps s b o (ending e ∷ qs) h k l = further a (ending e) qs refl (next_fresh a n ps solid b o qs (and_parts (takes_sign s (codes ";")) _ h).1 k l)
next_fresh a n ps s b true (open_parameters ∷ qs) h k l = absurd (false≢true h)
next_fresh a n ps s b false (open_parameters ∷ qs) h k l = further a open_parameters qs refl (next_fresh a n ps solid b true qs (and_parts (is_loose s) _ h).1 k l)
next_fresh a n ps s b true (close_parameters ∷ qs) h k l = further a close_parameters qs refl (next_fresh a n ps solid b false qs (and_parts (takes_sign s (codes ")")) _ h).1 k l)
next_fresh a n ps s b false (close_parameters ∷ qs) h k l = absurd (false≢true h)
next_fresh a n ps s b o (never ∷ qs) h k l = absurd (false≢true k)
next_fresh a n ps s b o (lay space ∷ qs) h k l = further a (lay space) qs refl (next_fresh a n ps apart_from b o qs (and_parts (takes_space s) _ h).1 k l)
next_fresh a n ps s b o (lay line ∷ qs) h k l = further a (lay line) qs refl (next_fresh a n ps broken b o qs (and_parts (takes_line s) _ h).1 k l)
next_fresh a n ps s b o (lay feed ∷ qs) h k l = further a (lay feed) qs refl (next_fresh a n ps broken b o qs (and_parts (takes_line s) _ h).1 k l)
next_fresh a n ps s b o (lay (apart x) ∷ qs) h k l = further a (lay (apart x)) qs refl (next_fresh a n ps signed b o qs (and_parts (takes_apart s) _ h).1 k l)
next_fresh a n ps s b o (lay loose ∷ qs) h k l = further a (lay loose) qs refl (next_fresh a n ps closed b o qs (and_parts (takes_loose s) _ h).1 k l)
next_fresh a n ps s b o (lay deeper ∷ qs) h k l = further a (lay deeper) qs refl (next_fresh a n ps s b o qs h k l)
next_fresh a n ps s b o (lay shallower ∷ qs) h k l = further a (lay shallower) qs refl (next_fresh a n ps s b o qs h k l)
