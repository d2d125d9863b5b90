-- What stands behind a part that may end in a `yield` without operand closes it, in every list of pieces.

use Rattle.tree.specs.declared.kind.Form.{Form}
use Rattle.tree.specs.declared.kind.Form.TheVariants as form
use Rattle.std.proofs.Common.{◌≡◌, Bool, true, false, cond, not, ◌&&◌, ◌||◌, List, [], ◌∷◌, ◌++◌, refl, ap, ◌∙◌}
use Rattle.language.specs.declared.Start.TheVariants.{NoBrace}
use Rattle.language.specs.declared.Rank.TheVariants.{Assignment}
use Rattle.std.specs.Prelude.{codes}
use Rattle.std.proofs.lemmas.Bool.{and_parts, and_from}
use Rattle.tree.specs.declared.kind.Kind.{Kind}
use Rattle.tree.specs.declared.kind.Flags.{Flags}
use Rattle.tree.specs.Tree.{Tree, Parts, none, part, gap, kind_of}
use Rattle.language.specs.declared.Rank.{Rank}
use Rattle.language.specs.FirstPart.{others}
use Rattle.language.specs.Vocabulary.{is_rest, is_private}
use Rattle.language.specs.Pieces.{Role, name, element, template_element, declarator, property, pattern_property, Slot, fixed, left, lead, tail, callee, lead_chain, lead_pattern, PieceOf, Piece, tok, may, many, ahead, unbroken, no_operand, ending, open_parameters, close_parameters, sub, absent, never, lay, put, deeper, shallower, line, sign, sp, is_none, listed, elements, argument, pattern_element, parameters, settle, body, spread, expr, word, loose, opening, item, private_name, listed_before, module_item, feed}
use Rattle.language.specs.Expressions.{arguments, in_brackets, selector, after_number, member_link, call_link, template_elements, function_pieces, class_pieces, arrow_end, sequence, given, function_words, method_words, arrow_words}
use Rattle.language.specs.Statements.{lines, braced, prologue, declarators, member_lines, is_directive, exported, export_list, is_module_item, module_prologue}
use Rattle.language.proofs.table.Alike.{standing_at}
use Rattle.language.specs.Grammar.{own_rank, own_in, own_start}
use Rattle.std.specs.Prelude.{nat_le}
use Rattle.std.proofs.lemmas.Bool.{false≢true}
use Rattle.std.proofs.lemmas.List.{append-nil}
use Rattle.std.proofs.Common.{subst}
use Rattle.language.specs.declared.Rank.TheVariants.{Member, Call}
use Rattle.language.specs.Vocabulary.{precedence}
use Rattle.language.specs.Pieces.{is_tight, settle, head}
use Rattle.language.specs.Grammar.{can_run}
use Rattle.language.specs.Readable.{closes_here}

-- a symbol at which a `yield` stands, or a node that ends in one
abbrev pub is_loose_rank : Rank → Bool
is_loose_rank y = nat_le (precedence y) 2

abbrev pub is_loose : Role → Bool
is_loose (expr y i f) = is_loose_rank y
is_loose spread = true
is_loose property = true
is_loose (pattern_property b) = true
is_loose (element b) = true
is_loose (declarator i b) = b
is_loose (head b) = b
is_loose _ = false

abbrev pub slot_loose : Slot → Bool
slot_loose (fixed a) = is_loose a
slot_loose (left y) = is_loose_rank y
slot_loose (lead y) = is_loose_rank y
slot_loose (tail y x) = is_loose_rank y
slot_loose callee = false
slot_loose lead_chain = false
slot_loose lead_pattern = false

-- a later part of a template begins with `}`
abbrev pub role_closes : Role → Bool
role_closes (template_element false b) = true
role_closes _ = false

abbrev pub slot_closes : Slot → Bool
slot_closes (fixed a) = role_closes a
slot_closes _ = false

-- what stands here closes; the flag says that what follows all pieces does
abbrev pub closed_by : Bool → List (PieceOf Slot) → Bool
closed_by l [] = l
closed_by l (tok c w ∷ qs) = closes_here c w
closed_by l (may w ∷ qs) = closed_by l qs
closed_by l (many w ∷ qs) = closed_by l qs
closed_by l (ahead w ∷ qs) = false
closed_by l (unbroken ∷ qs) = closed_by l qs
closed_by l (no_operand ∷ qs) = closed_by l qs
closed_by l (ending e ∷ qs) = true
closed_by l (open_parameters ∷ qs) = false
closed_by l (close_parameters ∷ qs) = true
closed_by l (sub x ∷ qs) = slot_closes x
closed_by l (absent ∷ qs) = closed_by l qs
closed_by l (never ∷ qs) = true
closed_by l (lay z ∷ qs) = closed_by l qs

-- so does what stands behind each part that may end in such a `yield`, and behind such a `yield` itself
abbrev pub shuts : Bool → List (PieceOf Slot) → Bool
shuts l [] = true
shuts l (tok c w ∷ qs) = shuts l qs
shuts l (may w ∷ qs) = shuts l qs
shuts l (many w ∷ qs) = shuts l qs
shuts l (ahead w ∷ qs) = shuts l qs
shuts l (unbroken ∷ qs) = shuts l qs
shuts l (no_operand ∷ qs) = closed_by l qs && shuts l qs
shuts l (ending e ∷ qs) = shuts l qs
shuts l (open_parameters ∷ qs) = shuts l qs
shuts l (close_parameters ∷ qs) = shuts l qs
shuts l (sub x ∷ qs) = (not (slot_loose x) || closed_by l qs) && shuts l qs
shuts l (absent ∷ qs) = shuts l qs
shuts l (never ∷ qs) = shuts l qs
shuts l (lay z ∷ qs) = shuts l qs

-- whether settled pieces that can run are closed
abbrev pub closed_at : Bool → List (PieceOf Role) → Bool
closed_at l [] = l
closed_at l (tok c w ∷ qs) = closes_here c w
closed_at l (may w ∷ qs) = closed_at l qs
closed_at l (many w ∷ qs) = closed_at l qs
closed_at l (ahead w ∷ qs) = false
closed_at l (unbroken ∷ qs) = closed_at l qs
closed_at l (no_operand ∷ qs) = closed_at l qs
closed_at l (ending e ∷ qs) = true
closed_at l (open_parameters ∷ qs) = false
closed_at l (close_parameters ∷ qs) = true
closed_at l (sub x ∷ qs) = role_closes x
closed_at l (absent ∷ qs) = closed_at l qs
closed_at l (never ∷ qs) = true
closed_at l (lay z ∷ qs) = closed_at l qs

abbrev pub shuts_at : Bool → List (PieceOf Role) → Bool
shuts_at l [] = true
shuts_at l (tok c w ∷ qs) = shuts_at l qs
shuts_at l (may w ∷ qs) = shuts_at l qs
shuts_at l (many w ∷ qs) = shuts_at l qs
shuts_at l (ahead w ∷ qs) = shuts_at l qs
shuts_at l (unbroken ∷ qs) = shuts_at l qs
shuts_at l (no_operand ∷ qs) = closed_at l qs && shuts_at l qs
shuts_at l (ending e ∷ qs) = shuts_at l qs
shuts_at l (open_parameters ∷ qs) = shuts_at l qs
shuts_at l (close_parameters ∷ qs) = shuts_at l qs
shuts_at l (sub x ∷ qs) = (not (is_loose x) || closed_at l qs) && shuts_at l qs
shuts_at l (absent ∷ qs) = shuts_at l qs
shuts_at l (never ∷ qs) = false
shuts_at l (lay z ∷ qs) = shuts_at l qs

callee_loose : (b : Bool) → is_loose_rank (cond b Member Call) ≡ false
callee_loose true = refl
callee_loose false = refl

pub loose_settled : (a : Role) (x : Slot) → is_loose (settle (own_rank a) (own_in a) (own_start a) x) ≡ slot_loose x
loose_settled a (fixed x) = refl
loose_settled a (left y) = refl
loose_settled a (lead y) = refl
loose_settled a (tail y x) = refl
loose_settled a callee = callee_loose (is_tight (own_rank a))
loose_settled a lead_chain = refl
loose_settled a lead_pattern = refl

closes_settled : (a : Role) (x : Slot) → role_closes (settle (own_rank a) (own_in a) (own_start a) x) ≡ slot_closes x
closes_settled a (fixed x) = refl
closes_settled a (left y) = refl
closes_settled a (lead y) = refl
closes_settled a (tail y x) = refl
closes_settled a callee = refl
closes_settled a lead_chain = refl
closes_settled a lead_pattern = refl

closed_settled : (a : Role) (l : Bool) (qs : List Piece) → closed_at l (standing_at a qs) ≡ closed_by l qs
closed_settled a l [] = refl
closed_settled a l (tok c w ∷ qs) = refl
closed_settled a l (may w ∷ qs) = closed_settled a l qs
closed_settled a l (many w ∷ qs) = closed_settled a l qs
closed_settled a l (ahead w ∷ qs) = refl
closed_settled a l (unbroken ∷ qs) = closed_settled a l qs
closed_settled a l (no_operand ∷ qs) = closed_settled a l qs
closed_settled a l (ending e ∷ qs) = refl
closed_settled a l (open_parameters ∷ qs) = refl
closed_settled a l (close_parameters ∷ qs) = refl
closed_settled a l (sub x ∷ qs) = closes_settled a x
closed_settled a l (absent ∷ qs) = closed_settled a l qs
closed_settled a l (never ∷ qs) = refl
closed_settled a l (lay z ∷ qs) = closed_settled a l qs

pub shuts_settled : (a : Role) (l : Bool) (qs : List Piece) → can_run qs ≡ true → shuts_at l (standing_at a qs) ≡ shuts l qs
shuts_settled a l [] k = refl
shuts_settled a l (tok c w ∷ qs) k = shuts_settled a l qs k
shuts_settled a l (may w ∷ qs) k = shuts_settled a l qs k
shuts_settled a l (many w ∷ qs) k = shuts_settled a l qs k
shuts_settled a l (ahead w ∷ qs) k = shuts_settled a l qs k
shuts_settled a l (unbroken ∷ qs) k = shuts_settled a l qs k
shuts_settled a l (no_operand ∷ qs) k = ap (λ b. b && shuts_at l (standing_at a qs)) (closed_settled a l qs) ∙ ap (λ b. closed_by l qs && b) (shuts_settled a l qs k)
shuts_settled a l (ending e ∷ qs) k = shuts_settled a l qs k
shuts_settled a l (open_parameters ∷ qs) k = shuts_settled a l qs k
shuts_settled a l (close_parameters ∷ qs) k = shuts_settled a l qs k
shuts_settled a l (sub x ∷ qs) k = ap (λ b. (not b || closed_at l (standing_at a qs)) && shuts_at l (standing_at a qs)) (loose_settled a x) ∙ ap (λ b. (not (slot_loose x) || b) && shuts_at l (standing_at a qs)) (closed_settled a l qs) ∙ ap (λ b. (not (slot_loose x) || closed_by l qs) && b) (shuts_settled a l qs k)
shuts_settled a l (absent ∷ qs) k = shuts_settled a l qs k
shuts_settled a l (never ∷ qs) k = absurd (false≢true k)
shuts_settled a l (lay z ∷ qs) k = shuts_settled a l qs k

pub closed_join : (m l : Bool) (xs ys : List Piece) → closed_by m xs ≡ true → (m ≡ true → closed_by l ys ≡ true) → closed_by l (xs ++ ys) ≡ true
closed_join m l [] ys h k = k h
closed_join m l (tok c w ∷ qs) ys h k = h
closed_join m l (may w ∷ qs) ys h k = closed_join m l qs ys h k
closed_join m l (many w ∷ qs) ys h k = closed_join m l qs ys h k
closed_join m l (ahead w ∷ qs) ys h k = absurd (false≢true h)
closed_join m l (unbroken ∷ qs) ys h k = closed_join m l qs ys h k
closed_join m l (no_operand ∷ qs) ys h k = closed_join m l qs ys h k
closed_join m l (ending e ∷ qs) ys h k = refl
closed_join m l (open_parameters ∷ qs) ys h k = absurd (false≢true h)
closed_join m l (close_parameters ∷ qs) ys h k = refl
closed_join m l (sub x ∷ qs) ys h k = h
closed_join m l (absent ∷ qs) ys h k = closed_join m l qs ys h k
closed_join m l (never ∷ qs) ys h k = refl
closed_join m l (lay z ∷ qs) ys h k = closed_join m l qs ys h k

or_on : (b : Bool) {x y : Bool} → (not b || x) ≡ true → (x ≡ true → y ≡ true) → (not b || y) ≡ true
or_on true h f = f h
or_on false h f = refl

or_yes : (b : Bool) {x : Bool} → x ≡ true → (not b || x) ≡ true
or_yes true h = h
or_yes false h = refl

pub shuts_join : (m l : Bool) (xs ys : List Piece) → shuts m xs ≡ true → (m ≡ true → closed_by l ys ≡ true) → shuts l ys ≡ true → shuts l (xs ++ ys) ≡ true
shuts_join m l [] ys h k g = g
shuts_join m l (tok c w ∷ qs) ys h k g = shuts_join m l qs ys h k g
shuts_join m l (may w ∷ qs) ys h k g = shuts_join m l qs ys h k g
shuts_join m l (many w ∷ qs) ys h k g = shuts_join m l qs ys h k g
shuts_join m l (ahead w ∷ qs) ys h k g = shuts_join m l qs ys h k g
shuts_join m l (unbroken ∷ qs) ys h k g = shuts_join m l qs ys h k g
shuts_join m l (no_operand ∷ qs) ys h k g = let u = and_parts _ _ h in and_from _ _ (closed_join m l qs ys u.0 k) (shuts_join m l qs ys u.1 k g)
shuts_join m l (ending e ∷ qs) ys h k g = shuts_join m l qs ys h k g
shuts_join m l (open_parameters ∷ qs) ys h k g = shuts_join m l qs ys h k g
shuts_join m l (close_parameters ∷ qs) ys h k g = shuts_join m l qs ys h k g
shuts_join m l (sub x ∷ qs) ys h k g = let u = and_parts _ _ h in and_from _ _ (or_on (slot_loose x) u.0 (λ c. closed_join m l qs ys c k)) (shuts_join m l qs ys u.1 k g)
shuts_join m l (absent ∷ qs) ys h k g = shuts_join m l qs ys h k g
shuts_join m l (never ∷ qs) ys h k g = shuts_join m l qs ys h k g
shuts_join m l (lay z ∷ qs) ys h k g = shuts_join m l qs ys h k g

-- before what closes
pub shuts_before : (l : Bool) (xs ys : List Piece) → shuts true xs ≡ true → closed_by l ys ≡ true → shuts l ys ≡ true → shuts l (xs ++ ys) ≡ true
shuts_before l xs ys h k g = shuts_join true l xs ys h (λ e. k) g

-- what closes more is no harm
pub shuts_more : (m l : Bool) (xs : List Piece) → (m ≡ true → l ≡ true) → shuts m xs ≡ true → shuts l xs ≡ true
shuts_more m l xs f h = subst (λ z. shuts l z ≡ true) (append-nil xs) (shuts_join m l xs [] h f refl)

-- any piece, before what closes
pub shuts_next : (l : Bool) (q : Piece) (qs : List Piece) → closed_by l qs ≡ true → shuts l qs ≡ true → shuts l (q ∷ qs) ≡ true
shuts_next l (tok c w) qs k g = g
shuts_next l (may w) qs k g = g
shuts_next l (many w) qs k g = g
shuts_next l (ahead w) qs k g = g
shuts_next l unbroken qs k g = g
shuts_next l no_operand qs k g = and_from _ _ k g
shuts_next l (ending e) qs k g = g
shuts_next l open_parameters qs k g = g
shuts_next l close_parameters qs k g = g
shuts_next l (sub x) qs k g = and_from _ _ (or_yes (slot_loose x) k) g
shuts_next l absent qs k g = g
shuts_next l never qs k g = g
shuts_next l (lay z) qs k g = g

-- Lists

behind_rest : (b : Bool) (ys : List Piece) → shuts true ys ≡ true → (q : Piece) → shuts true (q ∷ (cond b (never ∷ []) (sign "," ∷ sp ∷ []) ++ ys)) ≡ true
behind_rest true ys h q = shuts_next true q (never ∷ ys) refl h
behind_rest false ys h q = shuts_next true q (sign "," ∷ sp ∷ ys) refl h

behind_last : (b : Bool) (q : Piece) → shuts true (q ∷ (cond b [] (may (codes ",") ∷ []) ++ [])) ≡ true
behind_last true q = shuts_next true q [] refl refl
behind_last false q = shuts_next true q (may (codes ",") ∷ []) refl refl

pub shuts_listed : (f : Tree → Piece) (ps : Parts) → shuts true (listed f ps) ≡ true
shuts_listed f none = refl
shuts_listed f (gap ps) = refl
shuts_listed f (part n none) = behind_last (is_rest (kind_of n)) (f n)
shuts_listed f (part n (part m ps)) = behind_rest (is_rest (kind_of n)) (listed f (part m ps)) (shuts_listed f (part m ps)) (f n)
shuts_listed f (part n (gap ps)) = behind_rest (is_rest (kind_of n)) (listed f (gap ps)) refl (f n)

behind_hole : (b : Bool) (ys : List Piece) → shuts true ys ≡ true → shuts true (cond b [] (sp ∷ []) ++ ys) ≡ true
behind_hole true ys h = h
behind_hole false ys h = h

pub shuts_elements : (f : Tree → Piece) (ps : Parts) → shuts true (elements f ps) ≡ true
shuts_elements f none = refl
shuts_elements f (gap ps) = behind_hole (is_none ps) (elements f ps) (shuts_elements f ps)
shuts_elements f (part n none) = behind_last (is_rest (kind_of n)) (f n)
shuts_elements f (part n (part m ps)) = behind_rest (is_rest (kind_of n)) (elements f (part m ps)) (shuts_elements f (part m ps)) (f n)
shuts_elements f (part n (gap ps)) = behind_rest (is_rest (kind_of n)) (elements f (gap ps)) (shuts_elements f (gap ps)) (f n)

parameter_on : (l b : Bool) (ys : List Piece) → shuts l ys ≡ true → (q : Piece) → shuts l (q ∷ (cond b (never ∷ []) (sign "," ∷ sp ∷ []) ++ ys)) ≡ true
parameter_on l true ys h q = shuts_next l q (never ∷ ys) refl h
parameter_on l false ys h q = shuts_next l q (sign "," ∷ sp ∷ ys) refl h

parameter_last : (l b : Bool) (ys : List Piece) → closed_by l ys ≡ true → shuts l ys ≡ true → (q : Piece) → shuts l (q ∷ (cond b [] (may (codes ",") ∷ []) ++ ys)) ≡ true
parameter_last l true ys k h q = shuts_next l q ys k h
parameter_last l false ys k h q = shuts_next l q (may (codes ",") ∷ ys) k h

pub shuts_parameters : (l : Bool) (after : List Piece) (ps : Parts) → closed_by l after ≡ true → shuts l after ≡ true → shuts l (parameters after ps) ≡ true
shuts_parameters l after none k h = refl
shuts_parameters l after (gap ps) k h = refl
shuts_parameters l after (part n none) k h = h
shuts_parameters l after (part n (gap ps)) k h = refl
shuts_parameters l after (part n (part m none)) k h = parameter_last l (is_rest (kind_of n)) after k h (pattern_element true n)
shuts_parameters l after (part n (part m (part b ps))) k h = parameter_on l (is_rest (kind_of n)) (parameters after (part m (part b ps))) (shuts_parameters l after (part m (part b ps)) k h) (pattern_element true n)
shuts_parameters l after (part n (part m (gap ps))) k h = parameter_on l (is_rest (kind_of n)) (parameters after (part m (gap ps))) refl (pattern_element true n)

pub shuts_given : (l : Bool) (ps : Parts) (qs ys : List Piece) → shuts l (qs ++ ys) ≡ true → shuts l ys ≡ true → shuts l (given ps qs ++ ys) ≡ true
shuts_given l none qs ys h g = g
shuts_given l (part n ps) qs ys h g = h
shuts_given l (gap ps) qs ys h g = g

pub shuts_arguments : (l : Bool) (ps : Parts) → shuts l (arguments ps) ≡ true
shuts_arguments l ps = shuts_before l (listed argument ps) (sign ")" ∷ []) (shuts_listed argument ps) refl refl

pub shuts_selector : (l : Bool) (g : Flags) (k : Kind) → shuts l (selector g k) ≡ true
shuts_selector l g k = of g.computed (is_private k)
  where
    of : (b p : Bool) → shuts l (cond b in_brackets (sign "." ∷ put (cond p private_name word) ∷ [])) ≡ true
    of true p = refl
    of false true = refl
    of false false = refl

pub shuts_member_link : (l : Bool) (g : Flags) (k : Kind) → shuts l (member_link g k) ≡ true
shuts_member_link l g k = of g.optional g.computed (is_private k)
  where
    of : (a b p : Bool) → shuts l (cond a (sign "?." ∷ cond b in_brackets (put (cond p private_name word) ∷ [])) (cond b in_brackets (sign "." ∷ put (cond p private_name word) ∷ []))) ≡ true
    of true true p = refl
    of true false true = refl
    of true false false = refl
    of false true p = refl
    of false false true = refl
    of false false false = refl

pub shuts_call_link : (l : Bool) (g : Flags) (ps : Parts) → shuts l (call_link g ps) ≡ true
shuts_call_link l g ps = of g.optional
  where
    of : (b : Bool) → shuts l (cond b (sign "?." ∷ []) [] ++ arguments (others ps)) ≡ true
    of true = shuts_arguments l (others ps)
    of false = shuts_arguments l (others ps)

pub shuts_after_number : (l : Bool) (ps : Parts) (g : Flags) (ys : List Piece) → shuts l ys ≡ true → shuts l (after_number ps g ++ ys) ≡ true
shuts_after_number l none g ys h = h
shuts_after_number l (gap ps) g ys h = h
shuts_after_number l (part n ps) g ys h = of _
  where
    of : (b : Bool) → shuts l (cond b (lay loose ∷ []) [] ++ ys) ≡ true
    of true = h
    of false = h

closed_chunks : (l : Bool) (ps : Parts) → closed_by l (template_elements false ps) ≡ true
closed_chunks l none = refl
closed_chunks l (gap ps) = refl
closed_chunks l (part q none) = refl
closed_chunks l (part q (gap ps)) = refl
closed_chunks l (part q (part e ps)) = refl

pub shuts_chunks : (l b : Bool) (ps : Parts) → shuts l (template_elements b ps) ≡ true
shuts_chunks l b none = refl
shuts_chunks l b (gap ps) = refl
shuts_chunks l b (part q none) = refl
shuts_chunks l b (part q (gap ps)) = refl
shuts_chunks l b (part q (part e ps)) = and_from _ _ (closed_chunks l ps) (shuts_chunks l false ps)

closed_sequence : (ps : Parts) → closed_by true (sequence ps) ≡ true
closed_sequence none = refl
closed_sequence (part n ps) = refl
closed_sequence (gap ps) = refl

pub shuts_sequence : (ps : Parts) → shuts true (sub (left Assignment) ∷ sequence ps) ≡ true
shuts_sequence ps = and_from _ _ (closed_sequence ps) (of ps)
  where
    of : (qs : Parts) → shuts true (sequence qs) ≡ true
    of none = refl
    of (part n qs) = and_from _ _ (closed_sequence qs) (of qs)
    of (gap qs) = refl

-- words alone
pub function_words_shut : (x : Form) → shuts false (function_words x) ≡ true
function_words_shut form.Init = refl
function_words_shut form.Generator = refl
function_words_shut form.Async = refl
function_words_shut form.AsyncGenerator = refl
function_words_shut _ = refl

pub method_words_shut : (x : Form) → shuts false (method_words x) ≡ true
method_words_shut form.Init = refl
method_words_shut form.Generator = refl
method_words_shut form.Async = refl
method_words_shut form.AsyncGenerator = refl
method_words_shut _ = refl

pub arrow_words_shut : (x : Form) → shuts false (arrow_words x) ≡ true
arrow_words_shut form.Init = refl
arrow_words_shut form.Async = refl
arrow_words_shut _ = refl

-- pieces among which nothing is loose, before others
pub shuts_behind : (l : Bool) (xs ys : List Piece) → shuts false xs ≡ true → shuts l ys ≡ true → shuts l (xs ++ ys) ≡ true
shuts_behind l xs ys h k = shuts_join false l xs ys h (λ e. absurd (false≢true e)) k

pub shuts_function : (l : Bool) (x : Form) (ps : Parts) → shuts l (function_pieces x ps) ≡ true
shuts_function l x ps =
    shuts_behind l (function_words x ++ sp ∷ given ps (put name ∷ [])) (sign "(" ∷ parameters (sign ")" ∷ sp ∷ put body ∷ []) (others ps))
    (shuts_behind false (function_words x) (sp ∷ given ps (put name ∷ [])) (function_words_shut x) (named ps))
    (shuts_parameters l (sign ")" ∷ sp ∷ put body ∷ []) (others ps) refl refl)
  where
    named : (qs : Parts) → shuts false (sp ∷ given qs (put name ∷ [])) ≡ true
    named none = refl
    named (part n qs) = refl
    named (gap qs) = refl

pub shuts_class : (l : Bool) (ps : Parts) → shuts l (class_pieces ps) ≡ true
shuts_class l none = refl
shuts_class l (part n none) = refl
shuts_class l (part n (part h ps)) = refl
shuts_class l (part n (gap ps)) = refl
shuts_class l (gap none) = refl
shuts_class l (gap (part h ps)) = refl
shuts_class l (gap (gap ps)) = refl

pub shuts_arrow_end : (g : Flags) → shuts true (arrow_end g) ≡ true
shuts_arrow_end g = of g.expression
  where
    of : (t : Bool) → shuts true (cond t (sub (tail Assignment NoBrace)) (put body) ∷ []) ≡ true
    of true = refl
    of false = refl

-- statements

pub shuts_lines : (l : Bool) (a : Role) (ps : Parts) → is_loose a ≡ false → shuts l (lines a ps) ≡ true
shuts_lines l a none h = refl
shuts_lines l a (part n ps) h = and_from _ _ (ap (λ b. not b || closed_by l (lines a ps)) h) (shuts_lines l a ps h)
shuts_lines l a (gap ps) h = refl

pub shuts_braced : (l : Bool) (ps : Parts) (qs : List Piece) → shuts true qs ≡ true → shuts l (braced ps qs) ≡ true
shuts_braced l ps qs h = of (is_none ps)
  where
    of : (b : Bool) → shuts l (((cond b [] (lay deeper ∷ []) ++ qs) ++ cond b [] (lay shallower ∷ lay line ∷ [])) ++ sign "}" ∷ []) ≡ true
    of true = shuts_before l (qs ++ []) (sign "}" ∷ []) (shuts_before true qs [] h refl refl) refl refl
    of false = shuts_before l (qs ++ lay shallower ∷ lay line ∷ []) (sign "}" ∷ []) (shuts_before true qs (lay shallower ∷ lay line ∷ []) h refl refl) refl refl

-- items, none of which is loose
pub shuts_prologue : (r b : Bool) (before after : List Piece) (ps : Parts) → shuts false before ≡ true → shuts false after ≡ true → shuts true (prologue r b before after ps) ≡ true
shuts_prologue r b before after none h k = refl
shuts_prologue r b before after (gap ps) h k = refl
shuts_prologue r b before after (part n ps) h k =
    shuts_join false true (before ++ put (cond b (opening r) (item r)) ∷ after) (prologue r (b && is_directive n) before after ps)
    (shuts_join false false before (put (cond b (opening r) (item r)) ∷ after) h (λ e. absurd (false≢true e)) (one b)) (λ e. absurd (false≢true e)) (shuts_prologue r (b && is_directive n) before after ps h k)
  where
    one : (b : Bool) → shuts false (put (cond b (opening r) (item r)) ∷ after) ≡ true
    one true = k
    one false = k

pub shuts_declarators : (i b : Bool) (ps : Parts) → shuts b (declarators (declarator i b) ps) ≡ true
shuts_declarators i true none = refl
shuts_declarators i true (gap ps) = refl
shuts_declarators i true (part n none) = refl
shuts_declarators i true (part n (part m ps)) = shuts_declarators i true (part m ps)
shuts_declarators i true (part n (gap ps)) = refl
shuts_declarators i false none = refl
shuts_declarators i false (gap ps) = refl
shuts_declarators i false (part n none) = refl
shuts_declarators i false (part n (part m ps)) = shuts_declarators i false (part m ps)
shuts_declarators i false (part n (gap ps)) = refl

pub shuts_member_lines : (l : Bool) (ps : Parts) → shuts l (member_lines ps) ≡ true
shuts_member_lines l none = refl
shuts_member_lines l (part n ps) = shuts_member_lines l ps
shuts_member_lines l (gap ps) = refl

-- imports and exports
pub shuts_listed_before : (l : Bool) (f : Tree → Piece) (after : List Piece) (ps : Parts) → closed_by l after ≡ true → shuts l after ≡ true → shuts l (listed_before f after ps) ≡ true
shuts_listed_before l f after none k h = refl
shuts_listed_before l f after (gap ps) k h = refl
shuts_listed_before l f after (part n none) k h = h
shuts_listed_before l f after (part n (gap ps)) k h = refl
shuts_listed_before l f after (part n (part m none)) k h = parameter_last l (is_rest (kind_of n)) after k h (f n)
shuts_listed_before l f after (part n (part m (part b ps))) k h = parameter_on l (is_rest (kind_of n)) (listed_before f after (part m (part b ps))) (shuts_listed_before l f after (part m (part b ps)) k h) (f n)
shuts_listed_before l f after (part n (part m (gap ps))) k h = parameter_on l (is_rest (kind_of n)) (listed_before f after (part m (gap ps))) refl (f n)

pub shuts_exports : (l : Bool) (ps : Parts) → shuts l (export_list ps) ≡ true
shuts_exports l none = refl
shuts_exports l (gap none) = refl
shuts_exports l (gap (part n ps)) = refl
shuts_exports l (gap (gap ps)) = refl
shuts_exports l (part n none) = refl
shuts_exports l (part n (part m none)) = parameter_last l (is_rest (kind_of n)) (export_list (part m none)) refl refl (exported n)
shuts_exports l (part n (part m (part k ps))) = parameter_on l (is_rest (kind_of n)) (export_list (part m (part k ps))) (shuts_exports l (part m (part k ps))) (exported n)
shuts_exports l (part n (part m (gap ps))) = parameter_on l (is_rest (kind_of n)) (export_list (part m (gap ps))) (shuts_exports l (part m (gap ps))) (exported n)
shuts_exports l (part n (gap none)) = parameter_last l (is_rest (kind_of n)) (export_list (gap none)) refl refl (exported n)
shuts_exports l (part n (gap (part m ps))) = parameter_on l (is_rest (kind_of n)) (export_list (gap (part m ps))) refl (exported n)
shuts_exports l (part n (gap (gap ps))) = parameter_on l (is_rest (kind_of n)) (export_list (gap (gap ps))) refl (exported n)

pub shuts_module_prologue : (b : Bool) (ps : Parts) → shuts true (module_prologue b ps) ≡ true
shuts_module_prologue b none = refl
shuts_module_prologue b (gap ps) = refl
shuts_module_prologue b (part n ps) = one (is_module_item (kind_of n)) b (shuts_module_prologue (b && is_directive n) ps)
  where
    one : (c d : Bool) → shuts true (module_prologue (b && is_directive n) ps) ≡ true → shuts true (put (cond c module_item (cond d (opening false) (item false))) ∷ lay feed ∷ module_prologue (b && is_directive n) ps) ≡ true
    one true d h = h
    one false true h = h
    one false false h = h
