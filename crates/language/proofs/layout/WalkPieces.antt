-- The items of pieces up to the next part are readable, where those behind are.
use Rattle.std.proofs.Common.{◌≡◌, ℕ, zero, suc, Bool, true, false, cond, not, ◌||◌, nat_eq, List, [], ◌∷◌, ◌++◌, refl, sym, ap, ◌∙◌, arith}
use Rattle.std.specs.Prelude.{slice_index_or, replicate}
use Rattle.std.specs.List.{list_any, list_all}
use Rattle.std.specs.Str.{IsAscii}
use Rattle.std.proofs.lemmas.Str.{chars-IsAscii, chars-nil, IsUtf8-from_ascii}
use Rattle.std.proofs.lemmas.Bool.{and_from, false≢true, true≢false}
use Rattle.std.proofs.lemmas.Bool.Decides.{nat_tests}
use Rattle.language.specs.Pieces.{Role, Slot, PieceOf, Piece, tok, may, many, ahead, unbroken, no_operand, ending, open_parameters, close_parameters, sub, absent, never, lay, space, line, feed, deeper, shallower, apart, loose}
use Rattle.language.specs.Grammar.{can_run}
use Rattle.language.specs.Readable.{is_blank, breaks, on_this_line, joins_none, may_precede}
use Rattle.language.specs.Printed.{Item, blank, joined, closing, items_text, sign_item, lead_items}
use Rattle.language.proofs.layout.ReadItems.{IsGap, Readable, a_word, a_gap}
use Rattle.language.proofs.layout.WordsApart.{closes_word}
use Rattle.language.proofs.layout.PunctuatorsApart.{closed_sign_apart}
use Rattle.language.proofs.table.Alike.{standing_at}
use Rattle.language.proofs.table.NeatPieces.{Touch, fresh, apart_from, broken, solid, named, valued, closed, stated, dotted, starred, signed, echoed, takes_space, takes_line, takes_joined, takes_apart, takes_loose, is_loose, is_valued, goes_on_here, loose_first, leads_part, neat}
use Rattle.language.proofs.table.TreesOfWords.{PieceWords}
use Rattle.language.proofs.table.FirstWords.{FrontIs, Starts, starts_on, starts_line, a_word_first, a_name_seen}
use Rattle.language.proofs.table.WayPieces.{TailOf, whole_tail, is_tail}
use Rattle.language.proofs.layout.TextAfter.{Behind, space_first, a_space, another_front, undotted_code, unstarred_code}
use Rattle.language.proofs.table.EndsOf.{EndsOk}

-- Blanks

all_blank : (n : ℕ) → list_all is_blank (replicate n 32) ≡ true
all_blank zero = refl
all_blank (suc n) = all_blank n

spaces_ascii : (n : ℕ) → IsAscii (replicate n 32)
spaces_ascii zero i = omega arith
spaces_ascii (suc n) zero = omega arith
spaces_ascii (suc n) (suc i) = spaces_ascii n i

line_ascii : (n : ℕ) → IsAscii (10 ∷ replicate n 32)
line_ascii n zero = omega arith
line_ascii n (suc i) = spaces_ascii n i

pub line_gap : (n : ℕ) → IsGap (10 ∷ replicate n 32)
line_gap n = record { utf8 = IsUtf8-from_ascii (10 ∷ replicate n 32) (line_ascii n); blank = ap (list_all is_blank) (chars-IsAscii (10 ∷ replicate n 32) (line_ascii n)) ∙ all_blank n }

pub space_gap : IsGap (32 ∷ [])
space_gap = record { utf8 = IsUtf8-from_ascii (32 ∷ []) (spaces_ascii 1); blank = ap (list_all is_blank) (chars-IsAscii (32 ∷ []) (spaces_ascii 1)) }

space_stays : breaks (32 ∷ []) ≡ false
space_stays = ap (list_any Rattle.source_text.specs.Lines.is_line_terminator) (chars-IsAscii (32 ∷ []) (spaces_ascii 1))

space_precedes : (is : List Item) → may_precede (32 ∷ []) is ≡ true
space_precedes is = ap (λ b. not b || joins_none is) space_stays

pub line_precedes : (w : List ℕ) (is : List Item) → joins_none is ≡ true → may_precede w is ≡ true
line_precedes w is h = ap (λ b. not (breaks w) || b) h ∙ go (not (breaks w))
  where
    go : (b : Bool) → (b || true) ≡ true
    go true = refl
    go false = refl

pub space_readable : {is : List Item} → Readable is → Readable (blank (32 ∷ []) ∷ is)
space_readable {is} r = a_gap space_gap (space_precedes is) r

-- A blank behind what stands before

pub space_behind : (s : Touch) (qs : List Piece) (is : List Item) → takes_space s ≡ true → Behind s (lay space ∷ qs) (blank (32 ∷ []) ∷ is)
space_behind fresh qs is h = tt
space_behind apart_from qs is h = tt
space_behind broken qs is h = absurd (false≢true h)
space_behind solid qs is h = tt
space_behind named qs is h = refl
space_behind valued qs is h = refl
space_behind closed qs is h = refl
space_behind stated qs is h = refl
space_behind dotted qs is h = undotted_code 32 (items_text is) (omega arith) refl refl
space_behind starred qs is h = unstarred_code 32 (items_text is) (omega arith) refl refl
space_behind signed qs is h = space_first
space_behind echoed qs is h = tt

pub line_behind : (s : Touch) (x : Rattle.language.specs.Pieces.Hint) (qs : List Piece) (w : List ℕ) (is : List Item) → takes_line s ≡ true → Behind s (lay x ∷ qs) (blank (10 ∷ w) ∷ is)
line_behind fresh x qs w is h = tt
line_behind apart_from x qs w is h = tt
line_behind broken x qs w is h = absurd (false≢true h)
line_behind solid x qs w is h = tt
line_behind named x qs w is h = refl
line_behind valued x qs w is h = refl
line_behind closed x qs w is h = refl
line_behind stated x qs w is h = refl
line_behind dotted x qs w is h = undotted_code 10 (w ++ items_text is) (omega arith) refl refl
line_behind starred x qs w is h = absurd (false≢true h)
line_behind signed x qs w is h = absurd (false≢true h)
line_behind echoed x qs w is h = tt

-- pieces without an item, but for those that a sign looks at
abbrev is_skipped : PieceOf Slot → Bool
is_skipped (may w) = true
is_skipped (many w) = true
is_skipped (lay deeper) = true
is_skipped (lay shallower) = true
is_skipped absent = true
is_skipped _ = false

pub skip_behind : (s : Touch) (q : Piece) (qs : List Piece) (is : List Item) → is_skipped q ≡ true → Behind s qs is → Behind s (q ∷ qs) is
skip_behind signed (may w) qs is k h = tt
skip_behind signed (many w) qs is k h = tt
skip_behind signed (lay deeper) qs is k h = tt
skip_behind signed (lay shallower) qs is k h = tt
skip_behind signed absent qs is k h = tt
skip_behind signed (tok c w) qs is k h = absurd (false≢true k)
skip_behind signed (ahead w) qs is k h = absurd (false≢true k)
skip_behind signed unbroken qs is k h = absurd (false≢true k)
skip_behind signed no_operand qs is k h = absurd (false≢true k)
skip_behind signed (ending e) qs is k h = absurd (false≢true k)
skip_behind signed open_parameters qs is k h = absurd (false≢true k)
skip_behind signed close_parameters qs is k h = absurd (false≢true k)
skip_behind signed (sub x) qs is k h = absurd (false≢true k)
skip_behind signed never qs is k h = absurd (false≢true k)
skip_behind signed (lay _) qs is k h = absurd (false≢true k)
skip_behind fresh q qs is k h = tt
skip_behind apart_from q qs is k h = tt
skip_behind broken q qs is k h = h
skip_behind solid q qs is k h = tt
skip_behind named q qs is k h = h
skip_behind valued q qs is k h = h
skip_behind closed q qs is k h = h
skip_behind stated q qs is k h = h
skip_behind dotted q qs is k h = h
skip_behind starred q qs is k h = h
skip_behind echoed q qs is k h = tt

pub joined_behind : (s : Touch) (qs : List Piece) (is : List Item) → takes_joined s ≡ true → Behind s qs is → Behind s (unbroken ∷ qs) (joined ∷ is)
joined_behind fresh qs is k h = tt
joined_behind apart_from qs is k h = tt
joined_behind broken qs is k h = absurd (false≢true k)
joined_behind solid qs is k h = tt
joined_behind named qs is k h = h
joined_behind valued qs is k h = h
joined_behind closed qs is k h = h
joined_behind stated qs is k h = h
joined_behind dotted qs is k h = h
joined_behind starred qs is k h = h
joined_behind signed qs is k h = tt
joined_behind echoed qs is k h = tt

pub closing_behind : (s : Touch) (is : List Item) → Behind s [] is → Behind s (no_operand ∷ []) (closing ∷ is)
closing_behind fresh is h = tt
closing_behind apart_from is h = tt
closing_behind broken is h = h
closing_behind solid is h = tt
closing_behind named is h = h
closing_behind valued is h = h
closing_behind closed is h = h
closing_behind stated is h = h
closing_behind dotted is h = h
closing_behind starred is h = h
closing_behind signed is h = tt
closing_behind echoed is h = tt

pub open_behind : (s : Touch) (qs : List Piece) (is : List Item) → is_loose s ≡ true → Behind s qs is
open_behind fresh qs is h = tt
open_behind apart_from qs is h = tt
open_behind broken qs is h = absurd (false≢true h)
open_behind solid qs is h = absurd (false≢true h)
open_behind named qs is h = absurd (false≢true h)
open_behind valued qs is h = absurd (false≢true h)
open_behind closed qs is h = absurd (false≢true h)
open_behind stated qs is h = absurd (false≢true h)
open_behind dotted qs is h = absurd (false≢true h)
open_behind starred qs is h = absurd (false≢true h)
open_behind signed qs is h = absurd (false≢true h)
open_behind echoed qs is h = absurd (false≢true h)

-- Pieces up to the next part

-- the items are readable, and may stand behind what stands before; t says that the part before is not wrapped
pub record Seen (t : Bool) (s : Touch) (qs : List Piece) (is : List Item) : Type 0 where
  pub readable : Readable is
  pub behind : (loose_first qs ≡ true → is_valued s ≡ true → t ≡ true) → Behind s qs is

pub sign_seen : (t : Bool) (s u : Touch) (w : List ℕ) (q : Piece) (qs : List Piece) (is : List Item) → Rattle.tokens.specs.Lexical.is_one_of_words Rattle.language.proofs.layout.PunctuatorsApart.closed_signs w ≡ true →
    Behind s (q ∷ qs) (sign_item w ∷ is) → Seen t u qs is → Seen t s (q ∷ qs) (sign_item w ∷ is)
sign_seen t s u w q qs is h b x = record { readable = a_word (closed_sign_apart w (items_text is) h) x.readable; behind = λ e. b }

pub loose_seen : (t : Bool) (s : Touch) (qs : List Piece) (is xs : List Item) → takes_loose s ≡ true → Readable (is ++ xs) → closes_word (items_text (is ++ xs)) ≡ true → Seen t s (lay loose ∷ qs) (cond t (blank (32 ∷ []) ∷ is) is ++ xs)
loose_seen true valued qs is xs h r c = record { readable = space_readable r; behind = λ e. refl }
loose_seen true closed qs is xs h r c = record { readable = space_readable r; behind = λ e. refl }
loose_seen false valued qs is xs h r c = record { readable = r; behind = λ e. absurd (false≢true (e refl refl)) }
loose_seen false closed qs is xs h r c = record { readable = r; behind = λ e. c }
loose_seen t fresh qs is xs h r c = absurd (false≢true h)
loose_seen t apart_from qs is xs h r c = absurd (false≢true h)
loose_seen t broken qs is xs h r c = absurd (false≢true h)
loose_seen t solid qs is xs h r c = absurd (false≢true h)
loose_seen t named qs is xs h r c = absurd (false≢true h)
loose_seen t stated qs is xs h r c = absurd (false≢true h)
loose_seen t dotted qs is xs h r c = absurd (false≢true h)
loose_seen t starred qs is xs h r c = absurd (false≢true h)
loose_seen t signed qs is xs h r c = absurd (false≢true h)
loose_seen t echoed qs is xs h r c = absurd (false≢true h)

word_bytes : (w t u : List ℕ) (y : ℕ) → FrontIs w → nat_eq (slice_index_or (w ++ t) 0 0) y ≡ false → slice_index_or (w ++ u) 0 0 ≡ y → ⊥
word_bytes [] t u y f h e = no_code (sym chars-nil ∙ f.is)
  where
    is_empty : List ℕ → Bool
    is_empty [] = true
    is_empty (c ∷ cs) = false

    no_code : {c : ℕ} {cs : List ℕ} → [] ≡ c ∷ cs → ⊥
    no_code k = true≢false (ap is_empty k)
word_bytes (c ∷ cs) t u y f h e = absurd (false≢true (sym h ∙ same c y e))
  where
    same : (c y : ℕ) → c ≡ y → nat_eq c y ≡ true
    same c y e = grind (arith, nat_tests, e)

-- the first byte, with or without what stands behind
first_bytes : (is xs : List Item) (y : ℕ) → Starts is → (nat_eq (slice_index_or (items_text is) 0 0) y ≡ false) → slice_index_or (items_text (is ++ xs)) 0 0 ≡ y → ⊥
first_bytes _ xs y (a_word_first {w = w} {is = is} h f) k e = word_bytes w (items_text is) (items_text (is ++ xs)) y f k e
first_bytes _ xs y (a_name_seen {w = w} {is = is} h f) k e = word_bytes w (items_text is) (items_text (is ++ xs)) y f k e

pub apart_seen : (t : Bool) (s : Touch) (y : ℕ) (qs : List Piece) (is xs : List Item) → takes_apart s ≡ true → Readable (is ++ xs) → (leads_part qs ≡ true → Starts is) → (leads_part qs ≡ true → FrontIs (items_text (is ++ xs))) →
    Seen t s (lay (apart y) ∷ qs) (cond (nat_eq (slice_index_or (items_text is) 0 0) y) (blank (32 ∷ []) ∷ is) is ++ xs)
apart_seen t s y qs is xs h r st f = go (nat_eq (slice_index_or (items_text is) 0 0) y) refl
  where
    behind_space : (s : Touch) → takes_apart s ≡ true → Behind s (lay (apart y) ∷ qs) (blank (32 ∷ []) ∷ (is ++ xs))
    behind_space solid h = tt
    behind_space signed h = λ k. a_space
    behind_space fresh h = absurd (false≢true h)
    behind_space apart_from h = absurd (false≢true h)
    behind_space broken h = absurd (false≢true h)
    behind_space named h = absurd (false≢true h)
    behind_space valued h = absurd (false≢true h)
    behind_space closed h = absurd (false≢true h)
    behind_space stated h = absurd (false≢true h)
    behind_space dotted h = absurd (false≢true h)
    behind_space starred h = absurd (false≢true h)
    behind_space echoed h = absurd (false≢true h)

    behind_none : (s : Touch) → takes_apart s ≡ true → nat_eq (slice_index_or (items_text is) 0 0) y ≡ false → Behind s (lay (apart y) ∷ qs) (is ++ xs)
    behind_none solid h e = tt
    behind_none signed h e = λ k. another_front (f k) (first_bytes is xs y (st k) e)
    behind_none fresh h e = absurd (false≢true h)
    behind_none apart_from h e = absurd (false≢true h)
    behind_none broken h e = absurd (false≢true h)
    behind_none named h e = absurd (false≢true h)
    behind_none valued h e = absurd (false≢true h)
    behind_none closed h e = absurd (false≢true h)
    behind_none stated h e = absurd (false≢true h)
    behind_none dotted h e = absurd (false≢true h)
    behind_none starred h e = absurd (false≢true h)
    behind_none echoed h e = absurd (false≢true h)

    go : (b : Bool) → nat_eq (slice_index_or (items_text is) 0 0) y ≡ b → Seen t s (lay (apart y) ∷ qs) (cond b (blank (32 ∷ []) ∷ is) is ++ xs)
    go true e = record { readable = space_readable r; behind = λ k. behind_space s h }
    go false e = record { readable = r; behind = λ k. behind_none s h e }

-- what follows on the same line
pub lead_line : (a : Role) (qs : List Piece) (d : ℕ) (t : Bool) (is xs : List Item) → goes_on_here qs ≡ true → ((rs : List Piece) → TailOf a qs rs → leads_part rs ≡ true → Starts is) → on_this_line (lead_items d t (standing_at a qs) is ++ xs) ≡ true
lead_line a (tok c w ∷ qs) d t is xs h st = refl
lead_line a (sub x ∷ qs) d t is xs h st = starts_line (starts_on xs (st (sub x ∷ qs) (whole_tail a (sub x ∷ qs)) refl))
lead_line a (lay space ∷ qs) d t is xs h st = and_from _ _ (ap not space_stays) (lead_line a qs d t is xs h (λ rs u k. st rs (record { roles = u.roles; behind = u.behind; lines = u.lines }) k))
lead_line a [] d t is xs h st = absurd (false≢true h)
lead_line a (may w ∷ qs) d t is xs h st = absurd (false≢true h)
lead_line a (many w ∷ qs) d t is xs h st = absurd (false≢true h)
lead_line a (ahead w ∷ qs) d t is xs h st = absurd (false≢true h)
lead_line a (unbroken ∷ qs) d t is xs h st = absurd (false≢true h)
lead_line a (no_operand ∷ qs) d t is xs h st = absurd (false≢true h)
lead_line a (ending e ∷ qs) d t is xs h st = absurd (false≢true h)
lead_line a (open_parameters ∷ qs) d t is xs h st = refl
lead_line a (close_parameters ∷ qs) d t is xs h st = absurd (false≢true h)
lead_line a (absent ∷ qs) d t is xs h st = absurd (false≢true h)
lead_line a (never ∷ qs) d t is xs h st = absurd (false≢true h)
lead_line a (lay _ ∷ qs) d t is xs h st = absurd (false≢true h)

-- what is known at the next part
pub record AtTail (a : Role) (b : Bool) (qs : List Piece) (is xs : List Item) : Type 0 where
  pub starts : (rs : List Piece) → TailOf a qs rs → leads_part rs ≡ true → Starts is
  pub empty : TailOf a qs [] → is ≡ []
  pub end : Readable xs
  pub go : (s : Touch) (o : Bool) (rs : List Piece) → TailOf a qs rs → is_tail rs ≡ true → neat b o s rs ≡ true → can_run rs ≡ true → PieceWords (standing_at a rs) → EndsOk s b rs xs → Readable (is ++ xs) × Behind s rs (is ++ xs)
