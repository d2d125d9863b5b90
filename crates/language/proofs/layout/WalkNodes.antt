-- The items of a node are readable, where those behind are and may stand there.
use Rattle.std.proofs.Common.{◌≡◌, ℕ, suc, ◌+◌, Bool, true, false, cond, not, ◌&&◌, nat_eq, List, [], ◌∷◌, ◌++◌, refl, sym, ap, ◌∙◌, subst, arith, append_assoc, inl, inr, ◌⊎◌}
use Rattle.std.specs.Prelude.{codes}
use Rattle.std.proofs.lemmas.Bool.{and_parts, false≢true, true≢false}
use Rattle.tokens.specs.declared.token.TokenClass.TheVariants.{IdentifierName}
use Rattle.tree.specs.Tree.{Tree, node, Parts, none, part, gap, parts_of, text_of, kind_of}
use Rattle.language.specs.declared.Rank.TheVariants.{Expression}
use Rattle.language.specs.declared.Start.TheVariants.{Any}
use Rattle.language.specs.Pieces.{Role, expr, shorthand_key, Slot, Piece, tok, may, many, ahead, unbroken, no_operand, ending, open_parameters, close_parameters, sub, absent, never, lay}
use Rattle.language.specs.Grammar.{ways, can_run, own_rank, own_in, own_start}
use Rattle.language.specs.RowPositions.{has_row, rows, roles, first_roles}
use Rattle.language.specs.Layout.{some_way, inside, lead_depth, after_part, first_way, next_role}
use Rattle.language.specs.LayoutFits.{lines_up, fits, parts_fit}
use Rattle.language.specs.Printed.{Item, word, name_ahead, items_text, sign_item, printed, parts_printed}
use Rattle.language.proofs.layout.DerivedFits.{first_roles_are}
use Rattle.language.proofs.layout.ReadItems.{Readable, a_word, a_name}
use Rattle.language.proofs.layout.WordsApart.{closes, closes_word}
use Rattle.language.proofs.layout.PunctuatorsApart.{closed_sign_apart}
use Rattle.language.proofs.table.Alike.{standing_at}
use Rattle.language.proofs.table.NeatPieces.{Touch, fresh, apart_from, broken, solid, named, valued, closed, stated, dotted, starred, signed, echoed, Sort, an_operand, a_tight, a_name, an_ended, a_quasi, a_method, a_chunk, a_key, an_echo, a_script, another, slot_sort, sort_of, takes_part, is_valued, loose_first, leads_part, echo_followed, neat}
use Rattle.language.proofs.table.NeatPieces.{behind_part as touch_behind}
use Rattle.language.proofs.table.NeatExpressions.{first_is_open, is_open_literal}
use Rattle.language.proofs.table.NeatTable.{is_plain}
use Rattle.language.proofs.table.TreesOfWords.{PieceWords, NameFirst, name_first, Worded, PartsWorded, Echoed}
use Rattle.language.proofs.table.FirstWords.{Starts, starts_free, starts_front}
use Rattle.language.proofs.table.WayPieces.{settled_sort, placed, part_position, FirstWay, first_is_neat, is_tail}
use Rattle.language.proofs.table.BeginsNodes.{echo_items, node_starts, part_starts, next_start}
use Rattle.language.proofs.layout.TextAfter.{Behind, Undotted, Unstarred, closes_any}
use Rattle.language.proofs.table.EndsOf.{EndsOk, ends_closes}
use Rattle.language.proofs.layout.WalkPieces.{Seen, skip_behind}
use Rattle.language.proofs.layout.WalkLead.{walk_lead}
use Rattle.language.proofs.layout.NextFresh.{next_fresh}

-- a number that `.` would join
abbrev pub is_open_node : Tree → Bool
is_open_node n = is_open_literal (kind_of n) (text_of n)

-- what may stand behind a part, by its sort and whether it is such a number
abbrev pub After : Sort → Bool → List ℕ → Bool
After an_operand o t = closes t
After a_tight true t = closes t
After a_tight false t = closes_word t
After a_name o t = closes_word t
After an_ended o t = closes_word t
After a_quasi o t = closes_word t
After a_method o t = closes_word t
After a_chunk o t = true
After a_key o t = closes t
After an_echo o t = true
After a_script o t = true
After another o t = closes t

after_of : (b : Bool) (x : Sort) (o : Bool) (qs : List Piece) (is : List Item) → (b ≡ false → o ≡ false) → Behind (touch_behind b x) qs is → After x o (items_text is) ≡ true
after_of b an_operand o qs is f h = h
after_of true a_tight true qs is f h = h
after_of true a_tight false qs is f h = closes_any (items_text is) h
after_of false a_tight true qs is f h = absurd (true≢false (f refl))
after_of false a_tight false qs is f h = h
after_of b a_name o qs is f h = h
after_of b an_ended o qs is f h = h
after_of b a_quasi o qs is f h = h
after_of b a_method o qs is f h = h
after_of b a_chunk o qs is f h = refl
after_of b a_key o qs is f h = h
after_of b an_echo o qs is f h = refl
after_of b a_script o qs is f h = refl
after_of b another o qs is f h = h

-- behind an expression that isn't wrapped the space is put
unwrapped_loose : (e : Role) (b w : Bool) → (nat_eq (has_row e) 1 && w) ≡ false → is_valued (touch_behind b (sort_of e)) ≡ true → not w ≡ true
unwrapped_loose (expr y i f) b true h k = absurd (true≢false h)
unwrapped_loose (expr y i f) b false h k = refl
unwrapped_loose _ b w h k = absurd (false≢true k)

-- What a part begins with, behind what stands before

-- what a part of a sort begins with, where it may touch what stands before
pub record Fronts (e : Role) (is : List Item) : Type 0 where
  pub starts : Starts is
  pub closer : (sort_of e ≡ a_quasi) ⊎ ((sort_of e ≡ a_method) ⊎ (sort_of e ≡ a_chunk)) → closes (items_text is) ≡ true
  pub undotted : sort_of e ≡ a_name → Undotted (items_text is)
  pub unstarred : (sort_of e ≡ a_name) ⊎ (sort_of e ≡ a_key) → Unstarred (items_text is)

touched : (x : Sort) (t : List ℕ) → takes_part valued x ≡ true → ((x ≡ a_quasi) ⊎ ((x ≡ a_method) ⊎ (x ≡ a_chunk)) → closes t ≡ true) → closes t ≡ true
touched a_quasi t h f = f (inl refl)
touched a_method t h f = f (inr (inl refl))
touched a_chunk t h f = f (inr (inr refl))
touched _ t h f = absurd (false≢true h)

dotted_name : (x : Sort) (t : List ℕ) → takes_part dotted x ≡ true → (x ≡ a_name → Undotted t) → Undotted t
dotted_name a_name t h f = f refl
dotted_name _ t h f = absurd (false≢true h)

starred_key : (x : Sort) (t : List ℕ) → takes_part starred x ≡ true → ((x ≡ a_name) ⊎ (x ≡ a_key) → Unstarred t) → Unstarred t
starred_key a_name t h f = f (inl refl)
starred_key a_key t h f = f (inr refl)
starred_key _ t h f = absurd (false≢true h)

part_behind : (s : Touch) (e : Role) (x : Slot) (qs : List Piece) (is : List Item) → takes_part s (sort_of e) ≡ true → Fronts e is → Behind s (sub x ∷ qs) is
part_behind fresh e x qs is h f = tt
part_behind apart_from e x qs is h f = tt
part_behind solid e x qs is h f = tt
part_behind echoed e x qs is h f = tt
part_behind broken e x qs is h f = starts_free f.starts
part_behind signed e x qs is h f = starts_front f.starts
part_behind valued e x qs is h f = touched (sort_of e) (items_text is) h f.closer
part_behind stated e x qs is h f = touched (sort_of e) (items_text is) (same (sort_of e) h) f.closer
  where
    same : (x : Sort) → takes_part stated x ≡ true → takes_part valued x ≡ true
    same x h = h
part_behind named e x qs is h f = closes_any (items_text is) (touched (sort_of e) (items_text is) h f.closer)
part_behind closed e x qs is h f = closes_any (items_text is) (touched (sort_of e) (items_text is) h f.closer)
part_behind dotted e x qs is h f = dotted_name (sort_of e) (items_text is) h f.undotted
part_behind starred e x qs is h f = starred_key (sort_of e) (items_text is) h f.unstarred

echo_behind : (s : Touch) (x : Slot) (qs : List Piece) (w v : List ℕ) (is : List Item) → takes_part s an_echo ≡ true → Behind s (sub x ∷ qs) (name_ahead w ∷ word IdentifierName v ∷ is)
echo_behind fresh x qs w v is h = tt
echo_behind apart_from x qs w v is h = tt
echo_behind solid x qs w v is h = tt
echo_behind broken x qs w v is h = refl
echo_behind echoed x qs w v is h = tt
echo_behind signed x qs w v is h = absurd (false≢true h)
echo_behind valued x qs w v is h = absurd (false≢true h)
echo_behind stated x qs w v is h = absurd (false≢true h)
echo_behind named x qs w v is h = absurd (false≢true h)
echo_behind closed x qs w v is h = absurd (false≢true h)
echo_behind dotted x qs w v is h = absurd (false≢true h)
echo_behind starred x qs w v is h = absurd (false≢true h)

-- a shorthand key before a name of its text
pub record KeySeen (s : Touch) (x : Slot) (qs : List Piece) (is : List Item) : Type 0 where
  pub readable : Readable is
  pub behind : Behind s (sub x ∷ qs) is

key_seen : (s : Touch) (x : Slot) (qs : List Piece) (w : List ℕ) {is : List Item} (ys : List Item) → takes_part s an_echo ≡ true → NameFirst w is → Readable (is ++ ys) → KeySeen s x qs (name_ahead w ∷ (is ++ ys))
key_seen s x qs w ys h (name_first {is = is}) r = record { readable = a_name r; behind = echo_behind s x qs w w (is ++ ys) h }

-- nothing is left behind the last piece
at_end : (a : Role) (s : Touch) (b o : Bool) (rs : List Piece) (xs : List Item) → is_tail rs ≡ true → lines_up (standing_at a rs) none ≡ true → Readable xs → EndsOk s b rs xs → Readable xs × Behind s rs xs
at_end a s b o [] xs h l r e = (r, e)
at_end a s b o (sub x ∷ qs) xs h l r e = absurd (false≢true l)
at_end a s b o (absent ∷ qs) xs h l r e = absurd (false≢true l)
at_end a s b o (tok c w ∷ qs) xs h l r e = absurd (false≢true h)
at_end a s b o (may w ∷ qs) xs h l r e = absurd (false≢true h)
at_end a s b o (many w ∷ qs) xs h l r e = absurd (false≢true h)
at_end a s b o (ahead w ∷ qs) xs h l r e = absurd (false≢true h)
at_end a s b o (unbroken ∷ qs) xs h l r e = absurd (false≢true h)
at_end a s b o (no_operand ∷ qs) xs h l r e = absurd (false≢true h)
at_end a s b o (ending w ∷ qs) xs h l r e = absurd (false≢true h)
at_end a s b o (open_parameters ∷ qs) xs h l r e = absurd (false≢true h)
at_end a s b o (close_parameters ∷ qs) xs h l r e = absurd (false≢true h)
at_end a s b o (never ∷ qs) xs h l r e = absurd (false≢true h)
at_end a s b o (lay w ∷ qs) xs h l r e = absurd (false≢true h)

not_led : (a : Role) (rs : List Piece) → leads_part rs ≡ true → lines_up (standing_at a rs) none ≡ true → ⊥
not_led a (sub x ∷ qs) h l = false≢true l
not_led a [] h l = false≢true h
not_led a (tok c w ∷ qs) h l = false≢true h
not_led a (may w ∷ qs) h l = false≢true h
not_led a (many w ∷ qs) h l = false≢true h
not_led a (ahead w ∷ qs) h l = false≢true h
not_led a (unbroken ∷ qs) h l = false≢true h
not_led a (no_operand ∷ qs) h l = false≢true h
not_led a (ending w ∷ qs) h l = false≢true h
not_led a (open_parameters ∷ qs) h l = false≢true h
not_led a (close_parameters ∷ qs) h l = false≢true h
not_led a (absent ∷ qs) h l = false≢true h
not_led a (never ∷ qs) h l = false≢true h
not_led a (lay w ∷ qs) h l = false≢true h

not_led_gap : (a : Role) (ps : Parts) (rs : List Piece) → leads_part rs ≡ true → lines_up (standing_at a rs) (gap ps) ≡ true → ⊥
not_led_gap a ps (sub x ∷ qs) h l = false≢true l
not_led_gap a ps [] h l = false≢true h
not_led_gap a ps (tok c w ∷ qs) h l = false≢true h
not_led_gap a ps (may w ∷ qs) h l = false≢true h
not_led_gap a ps (many w ∷ qs) h l = false≢true h
not_led_gap a ps (ahead w ∷ qs) h l = false≢true h
not_led_gap a ps (unbroken ∷ qs) h l = false≢true h
not_led_gap a ps (no_operand ∷ qs) h l = false≢true h
not_led_gap a ps (ending w ∷ qs) h l = false≢true h
not_led_gap a ps (open_parameters ∷ qs) h l = false≢true h
not_led_gap a ps (close_parameters ∷ qs) h l = false≢true h
not_led_gap a ps (absent ∷ qs) h l = false≢true h
not_led_gap a ps (never ∷ qs) h l = false≢true h
not_led_gap a ps (lay w ∷ qs) h l = false≢true h

not_true : (b : Bool) → not b ≡ true → b ≡ false
not_true true h = absurd (false≢true h)
not_true false h = refl

named_on : {w : List ℕ} {is : List Item} (ys : List Item) → NameFirst w is → NameFirst w (is ++ ys)
named_on ys name_first = name_first

-- what closes a node
abbrev pub NodeEnds : Type 0
NodeEnds = (a : Role) (n : Tree) (x : FirstWay a n) → is_plain a ≡ true → PieceWords (standing_at a x.spelling.pieces) → (is : List Item) → After (sort_of a) (is_open_node n) (items_text is) ≡ true → EndsOk fresh (first_is_open (parts_of n)) x.spelling.pieces is

module _ (W : ℕ → Bool) where
  -- what a node begins with, at any row and depth
  abbrev pub NodeFronts : Type 0
  NodeFronts = (n : Tree) (e : Role) (r d : ℕ) (ys : List Item) → is_plain e ≡ true → fits W n e r ≡ true → Worded W n e r → Fronts e (printed W n e r d ++ ys)

module _ (W : ℕ → Bool) (node_ends : NodeEnds) (node_fronts : NodeFronts W) where
  abbrev PartsWalk : Parts → Type 0
  PartsWalk ps = (a : Role) (qs : List Piece) (r d : ℕ) (t b o : Bool) (s : Touch) (xs : List Item) → neat b o s qs ≡ true → can_run qs ≡ true → lines_up (standing_at a qs) ps ≡ true → PieceWords (standing_at a qs) →
      parts_fit W ps (roles (standing_at a qs)) r ≡ true → PartsWorded W ps (roles (standing_at a qs)) r → (b ≡ false → first_is_open ps ≡ false) → Readable xs → EndsOk s b qs xs →
      Seen t s qs (parts_printed W ps (standing_at a qs) r d t ++ xs)

  abbrev NodeWalk : Tree → Type 0
  NodeWalk n = (a : Role) (r d : ℕ) (xs : List Item) → is_plain a ≡ true → fits W n a r ≡ true → Worded W n a r → Readable xs →
      ((nat_eq (has_row a) 1 && W r) ≡ false → After (sort_of a) (is_open_node n) (items_text xs) ≡ true) → Readable (printed W n a r d ++ xs)

  -- at the first way, without a pair
  bare_walk : (n : Tree) (a : Role) (r d : ℕ) (xs : List Item) → is_plain a ≡ true → PartsWalk (parts_of n) → some_way (ways a n) ≡ true → lines_up (first_way (ways a n)) (parts_of n) ≡ true →
      parts_fit W (parts_of n) (first_roles (ways a n)) r ≡ true → PieceWords (first_way (ways a n)) → PartsWorded W (parts_of n) (first_roles (ways a n)) r → Readable xs →
      ((x : FirstWay a n) → PieceWords (standing_at a x.spelling.pieces) → EndsOk fresh (first_is_open (parts_of n)) x.spelling.pieces xs) →
      Readable (parts_printed W (parts_of n) (first_way (ways a n)) r d false ++ xs)
  bare_walk n a r d xs p go some lines fit words parts reads last =
      let x = first_is_neat a n p some in
      let e = sym (first_roles_are (ways a n)) ∙ ap roles x.is in
      let w = subst PieceWords x.is words in
      subst (λ qs. Readable (parts_printed W (parts_of n) qs r d false ++ xs)) (sym x.is)
      (go a x.spelling.pieces r d false (first_is_open (parts_of n)) false fresh xs x.neat x.runs
      (subst (λ qs. lines_up qs (parts_of n) ≡ true) x.is lines) w
      (subst (λ zs. parts_fit W (parts_of n) zs r ≡ true) e fit) (subst (λ zs. PartsWorded W (parts_of n) zs r) e parts) (λ h. h) reads (last x w)).readable

  a_node : (n : Tree) (a : Role) (r d : ℕ) (t : Bool) (xs : List Item) → (nat_eq (has_row a) 1 && W r) ≡ t → is_plain a ≡ true → PartsWalk (parts_of n) → some_way (ways (inside t a) n) ≡ true → lines_up (first_way (ways (inside t a) n)) (parts_of n) ≡ true →
      parts_fit W (parts_of n) (first_roles (ways (inside t a) n)) (has_row a + r) ≡ true → PieceWords (first_way (ways (inside t a) n)) → PartsWorded W (parts_of n) (first_roles (ways (inside t a) n)) (has_row a + r) → Readable xs →
      (t ≡ false → After (sort_of a) (is_open_node n) (items_text xs) ≡ true) →
      Readable (cond t (sign_item (codes "(") ∷ parts_printed W (parts_of n) (first_way (ways (expr Expression true Any) n)) (suc r) d false ++ sign_item (codes ")") ∷ []) (parts_printed W (parts_of n) (first_way (ways a n)) (has_row a + r) d false) ++ xs)
  a_node n a r d false xs is p go some lines fit words parts reads after =
      bare_walk n a (has_row a + r) d xs p go some lines fit words parts reads (λ x w. node_ends a n x p w xs (after refl))
  a_node n (expr y i f) r d true xs is p go some lines fit words parts reads after =
      let E = expr Expression true Any in
      let z : 1 + r ≡ suc r = omega arith in
      let X = parts_printed W (parts_of n) (first_way (ways E n)) (suc r) d false in
      let close = sign_item (codes ")") ∷ xs in
      let r' : Readable close = a_word (closed_sign_apart (codes ")") (items_text xs) refl) reads in
      let m : Readable (X ++ close) = bare_walk n E (suc r) d close refl go some lines (subst (λ q. parts_fit W (parts_of n) (first_roles (ways E n)) q ≡ true) z fit) words (subst (λ q. PartsWorded W (parts_of n) (first_roles (ways E n)) q) z parts) r'
      (λ x w. ends_closes E fresh (first_is_open (parts_of n)) false x.spelling.pieces close x.neat x.runs w refl) in
      subst (λ is. Readable (sign_item (codes "(") ∷ is)) (sym (append_assoc X (sign_item (codes ")") ∷ []) xs)) (a_word (closed_sign_apart (codes "(") (items_text (X ++ close)) refl) m)
  a_node n _ r d true xs is p go some lines fit words parts reads after = absurd (false≢true is)

  -- a shorthand key, with the part behind it
  after_key : (n : Tree) (ps : Parts) (a : Role) (x : Slot) (qs : List Piece) (r d : ℕ) (t : Bool) (s : Touch) (xs : List Item) → leads_part qs ≡ true → takes_part s an_echo ≡ true → lines_up (standing_at a qs) ps ≡ true → fits W n shorthand_key r ≡ true →
      Echoed W shorthand_key n ps (roles (standing_at a qs)) (r + rows n shorthand_key) → Readable (parts_printed W ps (standing_at a qs) (r + rows n shorthand_key) d t ++ xs) →
      Readable ((printed W n shorthand_key r d ++ parts_printed W ps (standing_at a qs) (r + rows n shorthand_key) d t) ++ xs) × Behind s (sub x ∷ qs) ((printed W n shorthand_key r d ++ parts_printed W ps (standing_at a qs) (r + rows n shorthand_key) d t) ++ xs)
  unfolding parts_printed Echoed
  after_key n none a x (sub y ∷ qs) r d t s xs lead takes lines fit shown reads = absurd (false≢true lines)
  after_key n (gap ps) a x (sub y ∷ qs) r d t s xs lead takes lines fit shown reads = absurd (false≢true lines)
  after_key n (part v ps) a x (sub y ∷ qs) r d t s xs lead takes lines fit shown reads =
      let e = placed a y in
      let rest = parts_printed W ps (standing_at a qs) ((r + rows n shorthand_key) + rows v e) d (not (W (r + rows n shorthand_key))) in
      let key = key_seen s x (sub y ∷ qs) (text_of n) xs takes (named_on rest (shown d)) reads in
      subst (λ is. Readable ((is ++ (printed W v e (r + rows n shorthand_key) d ++ rest)) ++ xs) × Behind s (sub x ∷ sub y ∷ qs) ((is ++ (printed W v e (r + rows n shorthand_key) d ++ rest)) ++ xs)) (sym (echo_items W n r d fit)) (key.readable, key.behind)
  after_key n ps a x [] r d t s xs lead takes lines fit shown reads = absurd (false≢true lead)
  after_key n ps a x (tok c w ∷ qs) r d t s xs lead takes lines fit shown reads = absurd (false≢true lead)
  after_key n ps a x (may w ∷ qs) r d t s xs lead takes lines fit shown reads = absurd (false≢true lead)
  after_key n ps a x (many w ∷ qs) r d t s xs lead takes lines fit shown reads = absurd (false≢true lead)
  after_key n ps a x (ahead w ∷ qs) r d t s xs lead takes lines fit shown reads = absurd (false≢true lead)
  after_key n ps a x (unbroken ∷ qs) r d t s xs lead takes lines fit shown reads = absurd (false≢true lead)
  after_key n ps a x (no_operand ∷ qs) r d t s xs lead takes lines fit shown reads = absurd (false≢true lead)
  after_key n ps a x (ending w ∷ qs) r d t s xs lead takes lines fit shown reads = absurd (false≢true lead)
  after_key n ps a x (open_parameters ∷ qs) r d t s xs lead takes lines fit shown reads = absurd (false≢true lead)
  after_key n ps a x (close_parameters ∷ qs) r d t s xs lead takes lines fit shown reads = absurd (false≢true lead)
  after_key n ps a x (absent ∷ qs) r d t s xs lead takes lines fit shown reads = absurd (false≢true lead)
  after_key n ps a x (never ∷ qs) r d t s xs lead takes lines fit shown reads = absurd (false≢true lead)
  after_key n ps a x (lay w ∷ qs) r d t s xs lead takes lines fit shown reads = absurd (false≢true lead)

  -- a part at a position, and what stands behind it
  at_position : (n : Tree) (ps : Parts) (a : Role) (x : Slot) (qs : List Piece) (e : Role) (r d : ℕ) (b o : Bool) (s : Touch) (xs : List Item) → NodeWalk n →
      (is_plain e ≡ true) ⊎ (e ≡ shorthand_key) → takes_part s (sort_of e) ≡ true → echo_followed (sort_of e) qs ≡ true → neat true o (touch_behind b (sort_of e)) qs ≡ true → lines_up (standing_at a qs) ps ≡ true → fits W n e r ≡ true →
      parts_fit W ps (roles (standing_at a qs)) (r + rows n e) ≡ true → Worded W n e r × (Echoed W e n ps (roles (standing_at a qs)) (r + rows n e) × PartsWorded W ps (roles (standing_at a qs)) (r + rows n e)) →
      (b ≡ false → is_open_node n ≡ false) → Seen (not (W r)) (touch_behind b (sort_of e)) qs (parts_printed W ps (standing_at a qs) (r + rows n e) d (not (W r)) ++ xs) →
      Readable ((printed W n e r d ++ parts_printed W ps (standing_at a qs) (r + rows n e) d (not (W r))) ++ xs) × Behind s (sub x ∷ qs) ((printed W n e r d ++ parts_printed W ps (standing_at a qs) (r + rows n e) d (not (W r))) ++ xs)
  at_position n ps a x qs e r d b o s xs walk (inl p) takes followed ok lines fit others words flag seen =
      let rest = parts_printed W ps (standing_at a qs) (r + rows n e) d (not (W r)) in
      let j = append_assoc (printed W n e r d) rest xs in
      subst (λ is. Readable is × Behind s (sub x ∷ qs) is) (sym j) (
        walk e r d (rest ++ xs) p fit words.0 seen.readable (λ h. after_of b (sort_of e) (is_open_node n) qs (rest ++ xs) flag (seen.behind (λ l v. unwrapped_loose e b (W r) h v))),
        part_behind s e x qs (printed W n e r d ++ (rest ++ xs)) takes (node_fronts n e r d (rest ++ xs) p fit words.0),
      )
  at_position n ps a x qs e r d b o s xs walk (inr p) takes followed ok lines fit others words flag seen =
      subst (λ e. takes_part s (sort_of e) ≡ true → echo_followed (sort_of e) qs ≡ true → fits W n e r ≡ true → Echoed W e n ps (roles (standing_at a qs)) (r + rows n e) →
      Readable (parts_printed W ps (standing_at a qs) (r + rows n e) d (not (W r)) ++ xs) →
      Readable ((printed W n e r d ++ parts_printed W ps (standing_at a qs) (r + rows n e) d (not (W r))) ++ xs) × Behind s (sub x ∷ qs) ((printed W n e r d ++ parts_printed W ps (standing_at a qs) (r + rows n e) d (not (W r))) ++ xs)) (sym p)
      (λ i j k l m. after_key n ps a x qs r d (not (W r)) s xs j i lines k l m) takes followed fit words.1.0 seen.readable

  -- the next part, with what stands behind it
  a_part : (n : Tree) (ps : Parts) (a : Role) (rs : List Piece) (r d : ℕ) (b o : Bool) (s : Touch) (xs : List Item) → NodeWalk n → PartsWalk ps → is_tail rs ≡ true → neat b o s rs ≡ true → can_run rs ≡ true → lines_up (standing_at a rs) (part n ps) ≡ true →
      PieceWords (standing_at a rs) → parts_fit W (part n ps) (roles (standing_at a rs)) r ≡ true → PartsWorded W (part n ps) (roles (standing_at a rs)) r → (b ≡ false → is_open_node n ≡ false) → Readable xs → EndsOk s b rs xs →
      Readable ((printed W n (next_role (roles (standing_at a rs))) r d ++ parts_printed W ps (after_part (standing_at a rs)) (r + rows n (next_role (roles (standing_at a rs)))) d (not (W r))) ++ xs) ×
      Behind s rs ((printed W n (next_role (roles (standing_at a rs))) r d ++ parts_printed W ps (after_part (standing_at a rs)) (r + rows n (next_role (roles (standing_at a rs)))) d (not (W r))) ++ xs)
  unfolding parts_fit PartsWorded
  a_part n ps a (sub x ∷ qs) r d b o s xs walk go tail ok runs lines words fit parts flag reads last =
      let e = placed a x in
      let sort = sym (settled_sort (own_rank a) (own_in a) (own_start a) x) in
      let u = and_parts (takes_part s (slot_sort x)) _ ok in
      let v = and_parts (echo_followed (slot_sort x) qs) _ u.1 in
      let f = and_parts (fits W n e r) _ fit in
      let followed = subst (λ y. echo_followed y qs ≡ true) sort v.0 in
      let seen = go a qs (r + rows n e) d (not (W r)) true o (touch_behind b (slot_sort x)) xs v.1 runs lines words f.1 parts.1.1 (λ h. absurd (true≢false h)) reads last in
      at_position n ps a x qs e r d b o s xs walk (part_position e qs followed) (subst (λ y. takes_part s y ≡ true) sort u.0) followed (subst (λ y. neat true o (touch_behind b y) qs ≡ true) sort v.1) lines f.0 f.1 parts flag
      (subst (λ y. Seen (not (W r)) (touch_behind b y) qs (parts_printed W ps (standing_at a qs) (r + rows n e) d (not (W r)) ++ xs)) sort seen)
  a_part n ps a [] r d b o s xs walk go tail ok runs lines words fit parts flag reads last = absurd (false≢true lines)
  a_part n ps a (absent ∷ qs) r d b o s xs walk go tail ok runs lines words fit parts flag reads last = absurd (false≢true lines)
  a_part n ps a (tok c w ∷ qs) r d b o s xs walk go tail ok runs lines words fit parts flag reads last = absurd (false≢true tail)
  a_part n ps a (may w ∷ qs) r d b o s xs walk go tail ok runs lines words fit parts flag reads last = absurd (false≢true tail)
  a_part n ps a (many w ∷ qs) r d b o s xs walk go tail ok runs lines words fit parts flag reads last = absurd (false≢true tail)
  a_part n ps a (ahead w ∷ qs) r d b o s xs walk go tail ok runs lines words fit parts flag reads last = absurd (false≢true tail)
  a_part n ps a (unbroken ∷ qs) r d b o s xs walk go tail ok runs lines words fit parts flag reads last = absurd (false≢true tail)
  a_part n ps a (no_operand ∷ qs) r d b o s xs walk go tail ok runs lines words fit parts flag reads last = absurd (false≢true tail)
  a_part n ps a (ending w ∷ qs) r d b o s xs walk go tail ok runs lines words fit parts flag reads last = absurd (false≢true tail)
  a_part n ps a (open_parameters ∷ qs) r d b o s xs walk go tail ok runs lines words fit parts flag reads last = absurd (false≢true tail)
  a_part n ps a (close_parameters ∷ qs) r d b o s xs walk go tail ok runs lines words fit parts flag reads last = absurd (false≢true tail)
  a_part n ps a (never ∷ qs) r d b o s xs walk go tail ok runs lines words fit parts flag reads last = absurd (false≢true tail)
  a_part n ps a (lay w ∷ qs) r d b o s xs walk go tail ok runs lines words fit parts flag reads last = absurd (false≢true tail)

  -- a gap
  a_gap_part : (ps : Parts) (a : Role) (rs : List Piece) (r d : ℕ) (b o : Bool) (s : Touch) (xs : List Item) → PartsWalk ps → is_tail rs ≡ true → neat b o s rs ≡ true → can_run rs ≡ true → lines_up (standing_at a rs) (gap ps) ≡ true →
      PieceWords (standing_at a rs) → parts_fit W ps (roles (standing_at a rs)) r ≡ true → PartsWorded W ps (roles (standing_at a rs)) r → Readable xs → EndsOk s b rs xs →
      Readable (parts_printed W ps (after_part (standing_at a rs)) r d false ++ xs) × Behind s rs (parts_printed W ps (after_part (standing_at a rs)) r d false ++ xs)
  a_gap_part ps a (absent ∷ qs) r d b o s xs go tail ok runs lines words fit parts reads last =
      let u = and_parts (not (loose_first qs)) _ ok in
      let y = go a qs r d false true o s xs u.1 runs lines words fit parts (λ h. absurd (true≢false h)) reads last in
      (y.readable, skip_behind s absent qs _ refl (y.behind (λ l v. absurd (true≢false (sym l ∙ not_true (loose_first qs) u.0)))))
  a_gap_part ps a [] r d b o s xs go tail ok runs lines words fit parts reads last = absurd (false≢true lines)
  a_gap_part ps a (sub x ∷ qs) r d b o s xs go tail ok runs lines words fit parts reads last = absurd (false≢true lines)
  a_gap_part ps a (tok c w ∷ qs) r d b o s xs go tail ok runs lines words fit parts reads last = absurd (false≢true tail)
  a_gap_part ps a (may w ∷ qs) r d b o s xs go tail ok runs lines words fit parts reads last = absurd (false≢true tail)
  a_gap_part ps a (many w ∷ qs) r d b o s xs go tail ok runs lines words fit parts reads last = absurd (false≢true tail)
  a_gap_part ps a (ahead w ∷ qs) r d b o s xs go tail ok runs lines words fit parts reads last = absurd (false≢true tail)
  a_gap_part ps a (unbroken ∷ qs) r d b o s xs go tail ok runs lines words fit parts reads last = absurd (false≢true tail)
  a_gap_part ps a (no_operand ∷ qs) r d b o s xs go tail ok runs lines words fit parts reads last = absurd (false≢true tail)
  a_gap_part ps a (ending w ∷ qs) r d b o s xs go tail ok runs lines words fit parts reads last = absurd (false≢true tail)
  a_gap_part ps a (open_parameters ∷ qs) r d b o s xs go tail ok runs lines words fit parts reads last = absurd (false≢true tail)
  a_gap_part ps a (close_parameters ∷ qs) r d b o s xs go tail ok runs lines words fit parts reads last = absurd (false≢true tail)
  a_gap_part ps a (never ∷ qs) r d b o s xs go tail ok runs lines words fit parts reads last = absurd (false≢true tail)
  a_gap_part ps a (lay w ∷ qs) r d b o s xs go tail ok runs lines words fit parts reads last = absurd (false≢true tail)

  mutual
    unfolding fits parts_fit printed parts_printed Worded PartsWorded

    -- a node before what may stand behind it
    pub node_walk : (n : Tree) → NodeWalk n
    node_walk (node k w g x y ps) a r d xs p fit words reads after =
        let n = node k w g x y ps in
        let t = nat_eq (has_row a) 1 && W r in
        let u = and_parts (some_way (ways (inside t a) n)) _ fit in
        let v = and_parts (lines_up (first_way (ways (inside t a) n)) ps) _ u.1 in
        a_node n a r d t xs refl p (λ c qs q e m b o s ys h i j l f z g q' e'. parts_walk ps c qs q e m b o s ys h i j l f z g q' e') u.0 v.0 v.1 words.0 words.1 reads after

    pub parts_walk : (ps : Parts) → PartsWalk ps
    parts_walk none a qs r d t b o s xs ok runs lines words fit parts flag reads last =
        walk_lead a qs d t b o s [] xs
        (record {
          starts = λ rs u k. absurd (not_led a rs k (sym (u.lines none) ∙ lines));
          empty = λ u. refl;
          end = reads;
          go = λ z q rs u tail h i j e. at_end a z b q rs xs tail (sym (u.lines none) ∙ lines) reads e;
        }) ok runs words last
    parts_walk (gap ps) a qs r d t b o s xs ok runs lines words fit parts flag reads last =
        let c = lead_depth d (standing_at a qs) in
        walk_lead a qs d t b o s (parts_printed W ps (after_part (standing_at a qs)) r c false) xs
        (record {
          starts = λ rs u k. absurd (not_led_gap a ps rs k (sym (u.lines (gap ps)) ∙ lines));
          empty = λ u. absurd (false≢true (sym (u.lines (gap ps)) ∙ lines));
          end = reads;
          go = λ z q rs u tail h j w e.
              subst (λ zs. Readable (parts_printed W ps zs r c false ++ xs) × Behind z rs (parts_printed W ps zs r c false ++ xs)) (sym u.behind)
              (a_gap_part ps a rs r c b q z xs (λ a' qs' r' d' t' b' o' s' ys h' i' j' l' f' z' g' q' e'. parts_walk ps a' qs' r' d' t' b' o' s' ys h' i' j' l' f' z' g' q' e') tail h j (sym (u.lines (gap ps)) ∙ lines) w
              (subst (λ zs. parts_fit W ps zs r ≡ true) u.roles fit) (subst (λ zs. PartsWorded W ps zs r) u.roles parts) reads e);
        }) ok runs words last
    parts_walk (part n ps) a qs r d t b o s xs ok runs lines words fit parts flag reads last =
        let c = lead_depth d (standing_at a qs) in
        let m = next_fresh a n ps s b o qs ok runs lines in
        walk_lead a qs d t b o s (printed W n (next_role (roles (standing_at a qs))) r c ++ parts_printed W ps (after_part (standing_at a qs)) (r + rows n (next_role (roles (standing_at a qs)))) c (not (W r))) xs
        (record {
          starts = λ rs u k.
              subst (λ zs. Starts (printed W n (next_role zs) r c ++ parts_printed W ps (after_part (standing_at a qs)) (r + rows n (next_role zs)) c (not (W r)))) (sym m.tail.roles)
              (subst (λ zs. Starts (printed W n (next_role (roles (standing_at a m.pieces))) r c ++ parts_printed W ps zs (r + rows n (next_role (roles (standing_at a m.pieces)))) c (not (W r)))) (sym m.tail.behind)
              (part_starts W n ps a m.pieces r c (not (W r)) m.number m.within (node_starts W n) (next_start W ps) m.is m.neat (sym (m.tail.lines (part n ps)) ∙ lines)
              (subst (λ zs. parts_fit W (part n ps) zs r ≡ true) m.tail.roles fit) (subst (λ zs. PartsWorded W (part n ps) zs r) m.tail.roles parts)));
          empty = λ u. absurd (false≢true (sym (u.lines (part n ps)) ∙ lines));
          end = reads;
          go = λ z q rs u tail h j w e.
              subst (λ zs. Readable ((printed W n (next_role zs) r c ++ parts_printed W ps (after_part (standing_at a qs)) (r + rows n (next_role zs)) c (not (W r))) ++ xs) ×
              Behind z rs ((printed W n (next_role zs) r c ++ parts_printed W ps (after_part (standing_at a qs)) (r + rows n (next_role zs)) c (not (W r))) ++ xs)) (sym u.roles)
              (subst (λ zs. Readable ((printed W n (next_role (roles (standing_at a rs))) r c ++ parts_printed W ps zs (r + rows n (next_role (roles (standing_at a rs)))) c (not (W r))) ++ xs) ×
              Behind z rs ((printed W n (next_role (roles (standing_at a rs))) r c ++ parts_printed W ps zs (r + rows n (next_role (roles (standing_at a rs)))) c (not (W r))) ++ xs)) (sym u.behind)
              (a_part n ps a rs r c b q z xs (λ a' r' d' ys p' f' w' q' g'. node_walk n a' r' d' ys p' f' w' q' g') (λ a' qs' r' d' t' b' o' s' ys h' i' j' l' f' z' g' q' e'. parts_walk ps a' qs' r' d' t' b' o' s' ys h' i' j' l' f' z' g' q' e')
              tail h j (sym (u.lines (part n ps)) ∙ lines) w (subst (λ zs. parts_fit W (part n ps) zs r ≡ true) u.roles fit) (subst (λ zs. PartsWorded W (part n ps) zs r) u.roles parts) flag reads e));
        }) ok runs words last
