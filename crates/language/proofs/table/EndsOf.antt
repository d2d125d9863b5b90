-- What is asked of the items behind a node by what its pieces end in.
use Rattle.std.proofs.Common.{◌≡◌, Bool, true, false, not, List, [], ◌∷◌, sym, ap, ◌∙◌}
use Rattle.std.specs.Prelude.{codes}
use Rattle.std.proofs.lemmas.Bool.{and_parts, false≢true}
use Rattle.tokens.specs.declared.token.TokenClass.{TokenClass}
use Rattle.tokens.specs.declared.token.TokenClass.TheVariants.{NumericLiteral}
use Rattle.language.specs.Pieces.{Role, PieceOf, Piece, tok, may, many, ahead, unbroken, no_operand, ending, open_parameters, close_parameters, sub, absent, never, lay, space, line, feed, deeper, shallower, apart, loose}
use Rattle.language.specs.Grammar.{can_run}
use Rattle.language.specs.Printed.{Item, items_text}
use Rattle.language.proofs.layout.ReadItems.{Apart}
use Rattle.language.proofs.layout.WordsApart.{closes, closes_word}
use Rattle.language.proofs.table.Alike.{standing_at}
use Rattle.language.proofs.table.NeatPieces.{Touch, fresh, apart_from, broken, solid, named, valued, closed, stated, dotted, starred, signed, echoed, Sort, an_operand, a_tight, a_name, an_ended, a_quasi, a_method, a_chunk, a_key, an_echo, a_script, another, slot_sort, behind_part, takes_token, takes_part, takes_sign, takes_space, takes_line, takes_joined, takes_apart, takes_loose, is_loose, goes_on_here, no_pieces, loose_first, echo_followed, goes_behind, behind_token, is_item_touch, neat}
use Rattle.language.proofs.table.TreesOfWords.{PieceWords}
use Rattle.language.proofs.layout.TextAfter.{Behind, closes_any, last_apart}

abbrev pub EndsOk : Touch → Bool → List Piece → List Item → Type 0
EndsOk s b [] is = Behind s [] is
EndsOk s b (tok c w ∷ []) is = Apart c w (items_text is)
EndsOk s b (tok c w ∷ q ∷ qs) is = EndsOk (behind_token c w) b (q ∷ qs) is
EndsOk s b (may w ∷ qs) is = EndsOk s b qs is
EndsOk s b (many w ∷ qs) is = EndsOk s b qs is
EndsOk s b (ahead w ∷ qs) is = EndsOk s b qs is
EndsOk s b (unbroken ∷ qs) is = EndsOk s b qs is
EndsOk s b (no_operand ∷ qs) is = EndsOk s b qs is
EndsOk s b (ending e ∷ qs) is = EndsOk solid b qs is
EndsOk s b (open_parameters ∷ qs) is = EndsOk solid b qs is
EndsOk s b (close_parameters ∷ qs) is = EndsOk solid b qs is
EndsOk s b (sub x ∷ qs) is = EndsOk (behind_part b (slot_sort x)) true qs is
EndsOk s b (absent ∷ qs) is = EndsOk s true qs is
EndsOk s b (never ∷ qs) is = EndsOk s b qs is
EndsOk s b (lay space ∷ qs) is = EndsOk apart_from b qs is
EndsOk s b (lay line ∷ qs) is = EndsOk broken b qs is
EndsOk s b (lay feed ∷ qs) is = EndsOk broken b qs is
EndsOk s b (lay (apart c) ∷ qs) is = EndsOk signed b qs is
EndsOk s b (lay loose ∷ qs) is = EndsOk closed b qs is
EndsOk s b (lay h ∷ qs) is = EndsOk s b qs is

end_closes : (s : Touch) (is : List Item) → is_item_touch s ≡ true → closes (items_text is) ≡ true → Behind s [] is
end_closes apart_from is i h = tt
end_closes solid is i h = tt
end_closes named is i h = closes_any (items_text is) h
end_closes closed is i h = closes_any (items_text is) h
end_closes valued is i h = h
end_closes stated is i h = h
end_closes fresh is i h = absurd (false≢true i)
end_closes broken is i h = absurd (false≢true i)
end_closes dotted is i h = absurd (false≢true i)
end_closes starred is i h = absurd (false≢true i)
end_closes signed is i h = absurd (false≢true i)
end_closes echoed is i h = absurd (false≢true i)

-- what may stand behind a number may stand behind a node
pub ends_closes : (a : Role) (s : Touch) (b o : Bool) (qs : List Piece) (is : List Item) → neat b o s qs ≡ true → can_run qs ≡ true → PieceWords (standing_at a qs) → closes (items_text is) ≡ true → EndsOk s b qs is
ends_closes a s b o [] is h k w c = end_closes s is (and_parts (is_item_touch s) _ h).0 c
ends_closes a s b o (tok x v ∷ []) is h k w c =
    let u = and_parts (takes_token s x v) _ h in let g = and_parts (goes_behind {R = Rattle.language.specs.Pieces.Slot} x v []) _ u.1 in
    last_apart x v (items_text is) w.0 g.0 (and_parts (is_item_touch (behind_token x v)) _ g.1).0 (closes_any (items_text is) c) (λ e. c)
ends_closes a s b o (tok x v ∷ q ∷ qs) is h k w c =
    let u = and_parts (takes_token s x v) _ h in let g = and_parts (goes_behind x v (q ∷ qs)) _ u.1 in ends_closes a (behind_token x v) b o (q ∷ qs) is g.1 k w.1 c
ends_closes a s b o (may v ∷ qs) is h k w c = ends_closes a s b o qs is h k w c
ends_closes a s b o (many v ∷ qs) is h k w c = ends_closes a s b o qs is h k w c
ends_closes a s b o (ahead v ∷ qs) is h k w c = absurd (false≢true h)
ends_closes a s b o (unbroken ∷ qs) is h k w c = ends_closes a s b o qs is (and_parts (goes_on_here qs) _ (and_parts (takes_joined s) _ h).1).1 k w c
ends_closes a s b o (no_operand ∷ qs) is h k w c = ends_closes a s b o qs is (and_parts (no_pieces qs) _ h).1 k w c
ends_closes a s b o (ending e ∷ qs) is h k w c = ends_closes a solid b o qs is (and_parts (takes_sign s (codes ";")) _ h).1 k w c
ends_closes a s b true (open_parameters ∷ qs) is h k w c = absurd (false≢true h)
ends_closes a s b false (open_parameters ∷ qs) is h k w c = ends_closes a solid b true qs is (and_parts (is_loose s) _ h).1 k w c
ends_closes a s b true (close_parameters ∷ qs) is h k w c = ends_closes a solid b false qs is (and_parts (takes_sign s (codes ")")) _ h).1 k w c
ends_closes a s b false (close_parameters ∷ qs) is h k w c = absurd (false≢true h)
ends_closes a s b o (sub x ∷ qs) is h k w c = ends_closes a (behind_part b (slot_sort x)) true o qs is (and_parts (echo_followed (slot_sort x) qs) _ (and_parts (takes_part s (slot_sort x)) _ h).1).1 k w c
ends_closes a s b o (absent ∷ qs) is h k w c = ends_closes a s true o qs is (and_parts (not (loose_first qs)) _ h).1 k w c
ends_closes a s b o (never ∷ qs) is h k w c = absurd (false≢true k)
ends_closes a s b o (lay space ∷ qs) is h k w c = ends_closes a apart_from b o qs is (and_parts (takes_space s) _ h).1 k w c
ends_closes a s b o (lay line ∷ qs) is h k w c = ends_closes a broken b o qs is (and_parts (takes_line s) _ h).1 k w c
ends_closes a s b o (lay feed ∷ qs) is h k w c = ends_closes a broken b o qs is (and_parts (takes_line s) _ h).1 k w c
ends_closes a s b o (lay (apart x) ∷ qs) is h k w c = ends_closes a signed b o qs is (and_parts (takes_apart s) _ h).1 k w c
ends_closes a s b o (lay loose ∷ qs) is h k w c = ends_closes a closed b o qs is (and_parts (takes_loose s) _ h).1 k w c
ends_closes a s b o (lay deeper ∷ qs) is h k w c = ends_closes a s b o qs is h k w c
ends_closes a s b o (lay shallower ∷ qs) is h k w c = ends_closes a s b o qs is h k w c

-- Ends that are no number

abbrev pub shut_class : TokenClass → Bool
shut_class NumericLiteral = false
shut_class _ = true

abbrev pub shut_sort : Sort → Bool
shut_sort a_name = true
shut_sort an_ended = true
shut_sort a_quasi = true
shut_sort a_method = true
shut_sort a_chunk = true
shut_sort _ = false

abbrev pub shut_piece : Piece → Bool
shut_piece (tok c w) = shut_class c
shut_piece (sub x) = shut_sort (slot_sort x)
shut_piece _ = false

-- the last piece is no number
abbrev pub ends_shut : List Piece → Bool
ends_shut [] = false
ends_shut (q ∷ []) = shut_piece q
ends_shut (q ∷ r ∷ qs) = ends_shut (r ∷ qs)

shut_behind : (b : Bool) (x : Sort) (is : List Item) → shut_sort x ≡ true → closes_word (items_text is) ≡ true → Behind (behind_part b x) [] is
shut_behind b a_name is h c = c
shut_behind b an_ended is h c = c
shut_behind b a_quasi is h c = c
shut_behind b a_method is h c = c
shut_behind b a_chunk is h c = tt
shut_behind b an_operand is h c = absurd (false≢true h)
shut_behind b a_tight is h c = absurd (false≢true h)
shut_behind b a_key is h c = absurd (false≢true h)
shut_behind b an_echo is h c = absurd (false≢true h)
shut_behind b a_script is h c = absurd (false≢true h)
shut_behind b another is h c = absurd (false≢true h)

-- what may stand behind any word but a number may stand behind such a node
pub shut_closes : (a : Role) (s : Touch) (b o : Bool) (qs : List Piece) (is : List Item) → neat b o s qs ≡ true → can_run qs ≡ true → PieceWords (standing_at a qs) → ends_shut qs ≡ true → closes_word (items_text is) ≡ true → EndsOk s b qs is
shut_closes a s b o [] is h k w e c = absurd (false≢true e)
shut_closes a s b o (tok x v ∷ []) is h k w e c =
    let u = and_parts (takes_token s x v) _ h in let g = and_parts (goes_behind {R = Rattle.language.specs.Pieces.Slot} x v []) _ u.1 in
    last_apart x v (items_text is) w.0 g.0 (and_parts (is_item_touch (behind_token x v)) _ g.1).0 c (λ i. absurd (false≢true (sym (ap shut_class i) ∙ e)))
shut_closes a s b o (sub x ∷ []) is h k w e c = shut_behind b (slot_sort x) is e c
shut_closes a s b o (may v ∷ []) is h k w e c = absurd (false≢true e)
shut_closes a s b o (many v ∷ []) is h k w e c = absurd (false≢true e)
shut_closes a s b o (ahead v ∷ []) is h k w e c = absurd (false≢true e)
shut_closes a s b o (unbroken ∷ []) is h k w e c = absurd (false≢true e)
shut_closes a s b o (no_operand ∷ []) is h k w e c = absurd (false≢true e)
shut_closes a s b o (ending v ∷ []) is h k w e c = absurd (false≢true e)
shut_closes a s b o (open_parameters ∷ []) is h k w e c = absurd (false≢true e)
shut_closes a s b o (close_parameters ∷ []) is h k w e c = absurd (false≢true e)
shut_closes a s b o (absent ∷ []) is h k w e c = absurd (false≢true e)
shut_closes a s b o (never ∷ []) is h k w e c = absurd (false≢true e)
shut_closes a s b o (lay v ∷ []) is h k w e c = absurd (false≢true e)
shut_closes a s b o (tok x v ∷ q ∷ qs) is h k w e c =
    let u = and_parts (takes_token s x v) _ h in let g = and_parts (goes_behind x v (q ∷ qs)) _ u.1 in shut_closes a (behind_token x v) b o (q ∷ qs) is g.1 k w.1 e c
shut_closes a s b o (may v ∷ q ∷ qs) is h k w e c = shut_closes a s b o (q ∷ qs) is h k w e c
shut_closes a s b o (many v ∷ q ∷ qs) is h k w e c = shut_closes a s b o (q ∷ qs) is h k w e c
shut_closes a s b o (ahead v ∷ q ∷ qs) is h k w e c = absurd (false≢true h)
shut_closes a s b o (unbroken ∷ q ∷ qs) is h k w e c = shut_closes a s b o (q ∷ qs) is (and_parts (goes_on_here (q ∷ qs)) _ (and_parts (takes_joined s) _ h).1).1 k w e c
shut_closes a s b o (no_operand ∷ q ∷ qs) is h k w e c = absurd (false≢true h)
shut_closes a s b o (ending z ∷ q ∷ qs) is h k w e c = shut_closes a solid b o (q ∷ qs) is (and_parts (takes_sign s (codes ";")) _ h).1 k w e c
shut_closes a s b true (open_parameters ∷ q ∷ qs) is h k w e c = absurd (false≢true h)
shut_closes a s b false (open_parameters ∷ q ∷ qs) is h k w e c = shut_closes a solid b true (q ∷ qs) is (and_parts (is_loose s) _ h).1 k w e c
shut_closes a s b true (close_parameters ∷ q ∷ qs) is h k w e c = shut_closes a solid b false (q ∷ qs) is (and_parts (takes_sign s (codes ")")) _ h).1 k w e c
shut_closes a s b false (close_parameters ∷ q ∷ qs) is h k w e c = absurd (false≢true h)
shut_closes a s b o (sub x ∷ q ∷ qs) is h k w e c = shut_closes a (behind_part b (slot_sort x)) true o (q ∷ qs) is (and_parts (echo_followed (slot_sort x) (q ∷ qs)) _ (and_parts (takes_part s (slot_sort x)) _ h).1).1 k w e c
shut_closes a s b o (absent ∷ q ∷ qs) is h k w e c = shut_closes a s true o (q ∷ qs) is (and_parts (not (loose_first (q ∷ qs))) _ h).1 k w e c
shut_closes a s b o (never ∷ q ∷ qs) is h k w e c = absurd (false≢true k)
shut_closes a s b o (lay space ∷ q ∷ qs) is h k w e c = shut_closes a apart_from b o (q ∷ qs) is (and_parts (takes_space s) _ h).1 k w e c
shut_closes a s b o (lay line ∷ q ∷ qs) is h k w e c = shut_closes a broken b o (q ∷ qs) is (and_parts (takes_line s) _ h).1 k w e c
shut_closes a s b o (lay feed ∷ q ∷ qs) is h k w e c = shut_closes a broken b o (q ∷ qs) is (and_parts (takes_line s) _ h).1 k w e c
shut_closes a s b o (lay (apart x) ∷ q ∷ qs) is h k w e c = shut_closes a signed b o (q ∷ qs) is (and_parts (takes_apart s) _ h).1 k w e c
shut_closes a s b o (lay loose ∷ q ∷ qs) is h k w e c = shut_closes a closed b o (q ∷ qs) is (and_parts (takes_loose s) _ h).1 k w e c
shut_closes a s b o (lay deeper ∷ q ∷ qs) is h k w e c = shut_closes a s b o (q ∷ qs) is h k w e c
shut_closes a s b o (lay shallower ∷ q ∷ qs) is h k w e c = shut_closes a s b o (q ∷ qs) is h k w e c
