-- Pieces up to the next part: each item stands apart from what follows it.
use Rattle.std.proofs.Common.{◌≡◌, ℕ, zero, suc, ◌+◌, Bool, true, false, List, [], ◌∷◌, ◌++◌, refl, sym, ◌∙◌, subst}
use Rattle.std.specs.Prelude.{codes}
use Rattle.std.proofs.lemmas.Bool.{and_parts, false≢true, true≢false}
use Rattle.language.specs.Pieces.{Role, Piece, tok, may, many, ahead, unbroken, no_operand, ending, open_parameters, close_parameters, sub, absent, never, lay, space, line, feed, deeper, shallower, apart, loose}
use Rattle.language.specs.Grammar.{can_run}
use Rattle.language.specs.Layout.{indent}
use Rattle.language.specs.Printed.{Item, items_text, lead_items}
use Rattle.language.proofs.layout.ReadItems.{Apart, Readable, a_word, a_gap, a_line, a_close, readable_utf8}
use Rattle.language.proofs.table.Alike.{standing_at}
use Rattle.language.proofs.table.NeatPieces.{Touch, apart_from, broken, solid, closed, signed, takes_token, takes_sign, takes_space, takes_line, takes_joined, takes_apart, takes_loose, is_loose, goes_on_here, leads_part, goes_behind, behind_token, neat}
use Rattle.language.proofs.table.TreesOfWords.{PieceWords}
use Rattle.language.proofs.table.FirstWords.{FrontIs, Starts}
use Rattle.language.proofs.table.WayPieces.{TailOf, whole_tail}
use Rattle.language.proofs.layout.TextAfter.{BehindSign, token_apart, token_unvalued, token_behind, sign_behind}
use Rattle.language.proofs.table.EndsOf.{EndsOk}
use Rattle.language.proofs.layout.WalkPieces.{Seen, sign_seen, loose_seen, apart_seen, lead_line, AtTail, line_gap, line_precedes, space_readable, space_behind, line_behind, skip_behind, joined_behind, closing_behind, open_behind}

abbrev pub is_lead : Piece → Bool
is_lead (sub x) = false
is_lead absent = false
is_lead _ = true

pub pass : (a : Role) (q : Piece) (qs rs : List Piece) → is_lead q ≡ true → TailOf a qs rs → TailOf a (q ∷ qs) rs
pass a (tok c w) qs rs h u = record { roles = u.roles; behind = u.behind; lines = u.lines }
pass a (may w) qs rs h u = record { roles = u.roles; behind = u.behind; lines = u.lines }
pass a (many w) qs rs h u = record { roles = u.roles; behind = u.behind; lines = u.lines }
pass a (ahead w) qs rs h u = record { roles = u.roles; behind = u.behind; lines = u.lines }
pass a unbroken qs rs h u = record { roles = u.roles; behind = u.behind; lines = u.lines }
pass a no_operand qs rs h u = record { roles = u.roles; behind = u.behind; lines = u.lines }
pass a (ending w) qs rs h u = record { roles = u.roles; behind = u.behind; lines = u.lines }
pass a open_parameters qs rs h u = record { roles = u.roles; behind = u.behind; lines = u.lines }
pass a close_parameters qs rs h u = record { roles = u.roles; behind = u.behind; lines = u.lines }
pass a never qs rs h u = record { roles = u.roles; behind = u.behind; lines = u.lines }
pass a (lay w) qs rs h u = record { roles = u.roles; behind = u.behind; lines = u.lines }
pass a (sub x) qs rs h u = absurd (false≢true h)
pass a absent qs rs h u = absurd (false≢true h)

pass_tail : (a : Role) (b : Bool) (q : Piece) (qs : List Piece) (is xs : List Item) → is_lead q ≡ true → AtTail a b (q ∷ qs) is xs → AtTail a b qs is xs
pass_tail a b q qs is xs h x = record {
  starts = λ rs u k. x.starts rs (pass a q qs rs h u) k;
  empty = λ u. x.empty (pass a q qs [] h u);
  end = x.end;
  go = λ s o rs u i j k w e. x.go s o rs (pass a q qs rs h u) i j k w e;
}

lead_first : (a : Role) (b : Bool) (qs : List Piece) (d : ℕ) (t : Bool) (is xs : List Item) → AtTail a b qs is xs → leads_part qs ≡ true → Starts (lead_items d t (standing_at a qs) is)
lead_first a b (sub x ∷ qs) d t is xs y h = y.starts (sub x ∷ qs) (whole_tail a (sub x ∷ qs)) refl
lead_first a b [] d t is xs y h = absurd (false≢true h)
lead_first a b (tok c w ∷ qs) d t is xs y h = absurd (false≢true h)
lead_first a b (may w ∷ qs) d t is xs y h = absurd (false≢true h)
lead_first a b (many w ∷ qs) d t is xs y h = absurd (false≢true h)
lead_first a b (ahead w ∷ qs) d t is xs y h = absurd (false≢true h)
lead_first a b (unbroken ∷ qs) d t is xs y h = absurd (false≢true h)
lead_first a b (no_operand ∷ qs) d t is xs y h = absurd (false≢true h)
lead_first a b (ending w ∷ qs) d t is xs y h = absurd (false≢true h)
lead_first a b (open_parameters ∷ qs) d t is xs y h = absurd (false≢true h)
lead_first a b (close_parameters ∷ qs) d t is xs y h = absurd (false≢true h)
lead_first a b (never ∷ qs) d t is xs y h = absurd (false≢true h)
lead_first a b (absent ∷ qs) d t is xs y h = absurd (false≢true h)
lead_first a b (lay w ∷ qs) d t is xs y h = absurd (false≢true h)

sign_front : (qs : List Piece) (t : List ℕ) → leads_part qs ≡ true → BehindSign qs t → FrontIs t
sign_front (sub x ∷ qs) t h f = f
sign_front [] t h f = absurd (false≢true h)
sign_front (tok c w ∷ qs) t h f = absurd (false≢true h)
sign_front (may w ∷ qs) t h f = absurd (false≢true h)
sign_front (many w ∷ qs) t h f = absurd (false≢true h)
sign_front (ahead w ∷ qs) t h f = absurd (false≢true h)
sign_front (unbroken ∷ qs) t h f = absurd (false≢true h)
sign_front (no_operand ∷ qs) t h f = absurd (false≢true h)
sign_front (ending w ∷ qs) t h f = absurd (false≢true h)
sign_front (open_parameters ∷ qs) t h f = absurd (false≢true h)
sign_front (close_parameters ∷ qs) t h f = absurd (false≢true h)
sign_front (never ∷ qs) t h f = absurd (false≢true h)
sign_front (absent ∷ qs) t h f = absurd (false≢true h)
sign_front (lay w ∷ qs) t h f = absurd (false≢true h)

pub walk_lead : (a : Role) (qs : List Piece) (d : ℕ) (t b o : Bool) (s : Touch) (is xs : List Item) → AtTail a b qs is xs → neat b o s qs ≡ true → can_run qs ≡ true → PieceWords (standing_at a qs) → EndsOk s b qs xs →
    Seen t s qs (lead_items d t (standing_at a qs) is ++ xs)
walk_lead a [] d t b o s is xs x h k w e = let u = x.go s o [] (whole_tail a []) refl h k w e in record { readable = u.0; behind = λ f. u.1 }
walk_lead a (sub v ∷ qs) d t b o s is xs x h k w e = let u = x.go s o (sub v ∷ qs) (whole_tail a (sub v ∷ qs)) refl h k w e in record { readable = u.0; behind = λ f. u.1 }
walk_lead a (absent ∷ qs) d t b o s is xs x h k w e = let u = x.go s o (absent ∷ qs) (whole_tail a (absent ∷ qs)) refl h k w e in record { readable = u.0; behind = λ f. u.1 }
walk_lead a (tok c v ∷ []) d t b o s is xs x h k w e =
    let u = and_parts (takes_token s c v) _ h in
    let n = sym (x.empty (record { roles = refl; behind = refl; lines = λ ps. refl })) in
    record { readable = a_word (subst (λ z. Apart c v (items_text (z ++ xs))) n e) (subst (λ z. Readable (z ++ xs)) n x.end); behind = λ f. token_behind s c v (tok c v ∷ []) (is ++ xs) u.0 }
walk_lead a (tok c v ∷ q ∷ qs) d t b o s is xs x h k w e =
    let u = and_parts (takes_token s c v) _ h in
    let g = and_parts (goes_behind c v (q ∷ qs)) _ u.1 in
    let y = walk_lead a (q ∷ qs) d t b o (behind_token c v) is xs (pass_tail a b (tok c v) (q ∷ qs) is xs refl x) g.1 k w.1 e in
    let m = y.behind (λ i j. absurd (true≢false (sym j ∙ token_unvalued c v q qs g.0))) in
    record { readable = a_word (token_apart c v q qs _ w.0 (readable_utf8 y.readable) g.0 m) y.readable; behind = λ f. token_behind s c v (tok c v ∷ q ∷ qs) _ u.0 }
walk_lead a (ahead v ∷ qs) d t b o s is xs x h k w e = absurd (false≢true h)
walk_lead a (never ∷ qs) d t b o s is xs x h k w e = absurd (false≢true k)
walk_lead a (unbroken ∷ qs) d t b o s is xs x h k w e =
    let u = and_parts (takes_joined s) _ h in
    let g = and_parts (goes_on_here qs) _ u.1 in
    let z = pass_tail a b unbroken qs is xs refl x in
    let y = walk_lead a qs d t b o s is xs z g.1 k w e in
    record { readable = a_line (lead_line a qs d t is xs g.0 z.starts) y.readable; behind = λ f. joined_behind s qs _ u.0 (y.behind f) }
walk_lead a (no_operand ∷ q ∷ qs) d t b o s is xs x h k w e = absurd (false≢true h)
walk_lead a (no_operand ∷ []) d t b o s is xs x h k w e =
    let y = walk_lead a [] d t b o s is xs (pass_tail a b no_operand [] is xs refl x) h k w e in
    record { readable = a_close y.readable; behind = λ f. closing_behind s _ (y.behind f) }
walk_lead a (ending v ∷ qs) d t b o s is xs x h k w e =
    let u = and_parts (takes_sign s (codes ";")) _ h in
    sign_seen t s solid (codes ";") (ending v) qs _ refl (sign_behind s (codes ";") (ending v ∷ qs) _ u.0) (walk_lead a qs d t b o solid is xs (pass_tail a b (ending v) qs is xs refl x) u.1 k w e)
walk_lead a (open_parameters ∷ qs) d t b true s is xs x h k w e = absurd (false≢true h)
walk_lead a (open_parameters ∷ qs) d t b false s is xs x h k w e =
    let u = and_parts (is_loose s) _ h in
    sign_seen t s solid (codes "(") open_parameters qs _ refl (open_behind s (open_parameters ∷ qs) _ u.0) (walk_lead a qs d t b true solid is xs (pass_tail a b open_parameters qs is xs refl x) u.1 k w e)
walk_lead a (close_parameters ∷ qs) d t b false s is xs x h k w e = absurd (false≢true h)
walk_lead a (close_parameters ∷ qs) d t b true s is xs x h k w e =
    let u = and_parts (takes_sign s (codes ")")) _ h in
    sign_seen t s solid (codes ")") close_parameters qs _ refl (sign_behind s (codes ")") (close_parameters ∷ qs) _ u.0) (walk_lead a qs d t b false solid is xs (pass_tail a b close_parameters qs is xs refl x) u.1 k w e)
walk_lead a (lay space ∷ qs) d t b o s is xs x h k w e =
    let u = and_parts (takes_space s) _ h in
    let y = walk_lead a qs d t b o apart_from is xs (pass_tail a b (lay space) qs is xs refl x) u.1 k w e in
    record { readable = space_readable y.readable; behind = λ f. space_behind s qs _ u.0 }
walk_lead a (lay line ∷ qs) d t b o s is xs x h k w e =
    let u = and_parts (takes_line s) _ h in
    let y = walk_lead a qs d t b o broken is xs (pass_tail a b (lay line) qs is xs refl x) u.1 k w e in
    record { readable = a_gap (line_gap (d + d)) (line_precedes (10 ∷ indent d) (lead_items d t (standing_at a qs) is ++ xs) (y.behind (λ i j. absurd (false≢true j)))) y.readable; behind = λ f. line_behind s line qs (indent d) _ u.0 }
walk_lead a (lay feed ∷ qs) d t b o s is xs x h k w e =
    let u = and_parts (takes_line s) _ h in
    let y = walk_lead a qs d t b o broken is xs (pass_tail a b (lay feed) qs is xs refl x) u.1 k w e in
    record { readable = a_gap (line_gap 0) (line_precedes (10 ∷ []) (lead_items d t (standing_at a qs) is ++ xs) (y.behind (λ i j. absurd (false≢true j)))) y.readable; behind = λ f. line_behind s feed qs [] _ u.0 }
walk_lead a (lay (apart c) ∷ qs) d t b o s is xs x h k w e =
    let u = and_parts (takes_apart s) _ h in
    let z = pass_tail a b (lay (apart c)) qs is xs refl x in
    let y = walk_lead a qs d t b o signed is xs z u.1 k w e in
    apart_seen t s c qs (lead_items d t (standing_at a qs) is) xs u.0 y.readable (λ i. lead_first a b qs d t is xs z i) (λ i. sign_front qs _ i (y.behind (λ m j. absurd (false≢true j))))
walk_lead a (lay loose ∷ qs) d t b o s is xs x h k w e =
    let u = and_parts (takes_loose s) _ h in
    let y = walk_lead a qs d t b o closed is xs (pass_tail a b (lay loose) qs is xs refl x) u.1 k w e in
    loose_seen t s qs (lead_items d t (standing_at a qs) is) xs u.0 y.readable (y.behind (λ i j. absurd (false≢true j)))
walk_lead a (may v ∷ qs) d t b o s is xs x h k w e =
    let y = walk_lead a qs d t b o s is xs (pass_tail a b (may v) qs is xs refl x) h k w e in record { readable = y.readable; behind = λ f. skip_behind s (may v) qs _ refl (y.behind f) }
walk_lead a (many v ∷ qs) d t b o s is xs x h k w e =
    let y = walk_lead a qs d t b o s is xs (pass_tail a b (many v) qs is xs refl x) h k w e in record { readable = y.readable; behind = λ f. skip_behind s (many v) qs _ refl (y.behind f) }
walk_lead a (lay deeper ∷ qs) d t b o s is xs x h k w e =
    let y = walk_lead a qs (suc d) t b o s is xs (pass_tail a b (lay deeper) qs is xs refl x) h k w e in record { readable = y.readable; behind = λ f. skip_behind s (lay deeper) qs _ refl (y.behind f) }
walk_lead a (lay shallower ∷ qs) zero t b o s is xs x h k w e =
    let y = walk_lead a qs zero t b o s is xs (pass_tail a b (lay shallower) qs is xs refl x) h k w e in record { readable = y.readable; behind = λ f. skip_behind s (lay shallower) qs _ refl (y.behind f) }
walk_lead a (lay shallower ∷ qs) (suc d) t b o s is xs x h k w e =
    let y = walk_lead a qs d t b o s is xs (pass_tail a b (lay shallower) qs is xs refl x) h k w e in record { readable = y.readable; behind = λ f. skip_behind s (lay shallower) qs _ refl (y.behind f) }
