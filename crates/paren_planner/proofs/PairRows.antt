-- The row of each grouping pair is that of its node.
use Rattle.std.proofs.Common.{◌≡◌, ℕ, zero, suc, ◌+◌, ◌≤◌, ◌<◌, Bool, true, false, cond, List, [], ◌∷◌, ◌++◌, refl, sym, ap, ap₂, ◌∙◌, subst, arith, append_assoc, append-nil, Option, Some, None, ◌⊎◌, inl, inr}
use Rattle.std.specs.Prelude.{map, filter, nat_lt, nat_eq, not, ◌&&◌, slice_get, drop, length, IsTrue}
use Rattle.std.specs.Str.{IsUtf8, IsCharBoundary}
use Rattle.std.proofs.lemmas.Bool.{and_parts, and_from}
use Rattle.std.proofs.lemmas.Bool.Decides.{nat_tests}
use Rattle.std.proofs.lemmas.List.{map-append, length-append}
use Rattle.tokens.specs.declared.token.TokenClass.{TokenClass}
use Rattle.tokens.specs.declared.token.TokenClass.TheVariants.{Punctuator, End}
use Rattle.tokens.specs.Reading.{any_goal}
use Rattle.tokens.proofs.Bounds.{IsWithin, token_within, token_places, token_goes_on}
use Rattle.tree.specs.declared.kind.Pair.{Pair}
use Rattle.tree.specs.declared.kind.Kind.TheVariants.{Identifier}
use Rattle.tree.specs.Tree.{Tree, node, plain, Parts, none, part, gap, parts_of, start_of, bare}
use Rattle.tree.specs.Uses.{implies, is_lean}
use Rattle.language.specs.declared.Rank.{Rank}
use Rattle.language.specs.declared.Rank.TheVariants.{Expression}
use Rattle.language.specs.declared.Start.{Start}
use Rattle.language.specs.declared.Start.TheVariants.{Any}
use Rattle.language.specs.Pieces.{Role, expr, word, key, script, chain_part, pattern, Slot, fixed, left, lead, tail, callee, lead_chain, lead_pattern, PieceOf, Piece, tok, may, many, ahead, unbroken, no_operand, ending, open_parameters, close_parameters, sub, absent, never, lay, Spelling, settle, settle_piece}
use Rattle.language.specs.Token.{Token}
use Rattle.language.specs.declared.Language.{Language}
use Rattle.language.specs.Languages.{seen_in, Seen, seen_next}
use Rattle.language.specs.Places.{NextIn, next_in, itself}
use Rattle.language.proofs.texts.StartPlaces.{starting_place}
use Rattle.language.specs.Derivation.{Among, Step, token, with_mark, without_mark, one_more, no_more, seen, same_line, left_bare, explicit, implicit, laid, Placed, placed, Spells, direct, grouped, reserved_key, reserved_word, Runs, done, step, opened, closed, within, missing}
use Rattle.language.specs.Grammar.{ways, ways_bare, spellings, fits_position, can_run, own_rank, own_in, own_start}
use Rattle.language.specs.RowPositions.{roles, first_roles, widest, has_row, rows, parts_rows}
use Rattle.language.specs.Claims.{row_nodes, parts_row_nodes}
use Rattle.language.proofs.table.LooserPositions.{Looser, same, looser, looser_spine, looser_pattern, AllLooser, end, next}
use Rattle.language.proofs.lower_bound.Domination.{settled, fits, ways_of, Tidy, none_at_all, one_way, two_ways, Among-one, Among-two}
use Rattle.language.proofs.table.TidyTable.{tidy_table}
use Rattle.language.proofs.lower_bound.LowerBound.{Step-roles}
use Rattle.language.proofs.texts.TextOffsets.{text_determined}
use Rattle.language.proofs.texts.SeenTokens.{seen_determined}
use Rattle.pairless_laws.proofs.PairPlaces.{punctuator_seen}
use Rattle.row_laws.specs.Lined.{lined}
use Rattle.spellings.specs.Groupings.{grouping, row_starts, row_after}
use Rattle.spellings.proofs.Slots.{is_wide, all_pass, parts_wide}
use Rattle.cost_table.proofs.Known.{takes_all}
use Rattle.cost_table.proofs.RowNodes.{wide_itself, wide_start, nodes-length}
use Rattle.paren_planner.proofs.RowStarts.{row_by_position, spelled_lined_in}
use Rattle.paren_planner.specs.PairNodes.{pair_nodes, run_pair_nodes, node_of_row, PairsHaveTheirRows, SpellsAll, is_direct, pair_rows, run_pair_rows, spans_but_needed, ExtraPairsAreExtra}
use Rattle.paren_planner.specs.Extra.{extra_spans, span_of, is_innermost}
use Rattle.wrap_flags.specs.Flags.{is_flagged}
use Rattle.paren_planner.proofs.Bytes.{way-rows, node-rows}

-- The rows of a node don't depend on the way in which it is spelled.

slot-wide : (a b : Role) (s : Slot) → widest (settle (own_rank a) (own_in a) (own_start a) s) ≡ widest (settle (own_rank b) (own_in b) (own_start b) s)
slot-wide a b (fixed c) = refl
slot-wide a b (left y) = refl
slot-wide a b (lead y) = refl
slot-wide a b (tail y x) = refl
slot-wide a b callee = refl
slot-wide a b lead_chain = refl
slot-wide a b lead_pattern = refl

pieces-wide : (a b : Role) (qs : List Piece) → map widest (roles (map (settle_piece (own_rank a) (own_in a) (own_start a)) qs)) ≡ map widest (roles (map (settle_piece (own_rank b) (own_in b) (own_start b)) qs))
pieces-wide a b [] = refl
pieces-wide a b (tok c w ∷ qs) = pieces-wide a b qs
pieces-wide a b (may w ∷ qs) = pieces-wide a b qs
pieces-wide a b (many w ∷ qs) = pieces-wide a b qs
pieces-wide a b (ahead w ∷ qs) = pieces-wide a b qs
pieces-wide a b (unbroken ∷ qs) = pieces-wide a b qs
pieces-wide a b (no_operand ∷ qs) = pieces-wide a b qs
pieces-wide a b (ending e ∷ qs) = pieces-wide a b qs
pieces-wide a b (open_parameters ∷ qs) = pieces-wide a b qs
pieces-wide a b (close_parameters ∷ qs) = pieces-wide a b qs
pieces-wide a b (sub s ∷ qs) = ap₂ (λ u v. u ∷ v) (slot-wide a b s) (pieces-wide a b qs)
pieces-wide a b (absent ∷ qs) = pieces-wide a b qs
pieces-wide a b (never ∷ qs) = pieces-wide a b qs
pieces-wide a b (lay h ∷ qs) = pieces-wide a b qs

looser-wide : {a b : Role} → Looser a b → widest a ≡ widest b
looser-wide same = refl
looser-wide (looser u v x) = refl
looser-wide (looser_spine x) = refl
looser-wide (looser_pattern x) = refl

all-wide : {xs ys : List Role} → AllLooser xs ys → map widest xs ≡ map widest ys
all-wide end = refl
all-wide (next l h) = ap₂ (λ u v. u ∷ v) (looser-wide l) (all-wide h)

implies_true : (b : Bool) → IsTrue (implies b true)
implies_true true = refl
implies_true false = refl

fits-widest : (a : Role) (x : Spelling) → IsTrue (fits a x) → IsTrue (fits (widest a) x)
fits-widest (expr y i f) x h =
    and_from _ _ (and_from _ _ (takes_all x.rank) (and_from _ _ (implies_true x.needs_in) refl)) (and_parts (fits_position (expr y i f) x) (can_run x.pieces) h).1
fits-widest (chain_part f) x h = h
fits-widest (pattern b f) x h = and_from _ _ refl (and_parts (fits_position (pattern b f) x) (can_run x.pieces) h).1
fits-widest _ x h = h

first_fits : (b : Role) (x : Spelling) (v : Bool) (A B : List Spelling) → v ≡ true → first_roles (map (settled b) (cond v (x ∷ A) B)) ≡ roles (settled b x)
first_fits b x true A B h = refl
first_fits b x false A B h = absurd (cc)

spelled-wide : {t : Bool} (a : Role) (xs : List Spelling) (qs : List (PieceOf Role)) → Tidy t xs → Among qs (ways_of a xs) → map widest (first_roles (ways_of (widest a) xs)) ≡ map widest (roles qs)
spelled-wide a _ qs none_at_all h = elim h [ ]
spelled-wide a _ qs (one_way {x = x} n) h =
    let p = Among-one a x (fits a x) refl h in
    ap (map widest) (first_fits (widest a) x (fits (widest a) x) [] [] (fits-widest a x p.0)) ∙ pieces-wide (widest a) a x.pieces ∙ ap (λ u. map widest (roles u)) (sym p.1)
spelled-wide a _ qs (two_ways {x = x} {y = y} n covers alike) h = of (Among-two a x y (fits a x) (fits a y) refl refl h)
  where
    whole : IsTrue (fits a x) → map widest (first_roles (ways_of (widest a) (x ∷ y ∷ []))) ≡ map widest (roles (settled a x))
    whole p = ap (map widest) (first_fits (widest a) x (fits (widest a) x) (filter (fits (widest a)) (y ∷ [])) (filter (fits (widest a)) (y ∷ [])) (fits-widest a x p)) ∙ pieces-wide (widest a) a x.pieces

    of : (IsTrue (fits a x) × (qs ≡ settled a x)) ⊎ (IsTrue (fits a y) × (qs ≡ settled a y)) → map widest (first_roles (ways_of (widest a) (x ∷ y ∷ []))) ≡ map widest (roles qs)
    of (inl p) = whole p.0 ∙ ap (λ u. map widest (roles u)) (sym p.1)
    of (inr p) = whole (covers a a same p.0).0 ∙ sym (all-wide (covers a a same p.0).1) ∙ ap (λ u. map widest (roles u)) (sym p.1)

spellings-widest : (a : Role) (n : Tree) → spellings (widest a) n ≡ spellings a n
unfolding spellings
spellings-widest (expr y i f) (node k w g s e ps) = refl
spellings-widest (chain_part f) (node k w g s e ps) = refl
spellings-widest (pattern b f) (node k w g s e ps) = refl
spellings-widest _ n = refl

way-wide : (a : Role) (n : Tree) (qs : List (PieceOf Role)) → Among qs (ways a n) → map widest (first_roles (ways (widest a) n)) ≡ map widest (roles qs)
unfolding ways ways_bare
way-wide a n qs h = of (is_lean (bare n)) h
  where
    of : (t : Bool) → Among qs (cond t (ways_of a (spellings a (bare n))) []) → map widest (first_roles (cond t (ways_of (widest a) (spellings (widest a) (bare n))) [])) ≡ map widest (roles qs)
    of true k = ap (λ u. map widest (first_roles (ways_of (widest a) u))) (spellings-widest a (bare n)) ∙ spelled-wide a (spellings a (bare n)) qs (tidy_table a (bare n)) k
    of false k = elim k [ ]

-- The nodes with rows in a node at a position, and in parts at theirs.

nodes : Tree → Role → List Tree
nodes n a = row_nodes n (widest a)

parts_nodes : Parts → List Role → List Tree
parts_nodes ps xs = parts_row_nodes ps (map widest xs)

own : Role → Tree → List Tree
own (expr y i f) n = n ∷ []
own _ n = []

node-widest : (n : Tree) (a : Role) → is_wide a ≡ true → row_nodes n a ≡ row_nodes n (widest a)
unfolding row_nodes
node-widest (node k w g s e ps) (expr y i f) h = refl
node-widest n a h = ap (row_nodes n) (sym (wide_itself a h refl))

parts-widest : (ps : Parts) (xs : List Role) → all_pass is_wide xs ≡ true → parts_row_nodes ps xs ≡ parts_row_nodes ps (map widest xs)
unfolding parts_row_nodes
parts-widest none xs h = refl
parts-widest (gap ps) xs h = parts-widest ps xs h
parts-widest (part n ps) [] h = refl
parts-widest (part n ps) (a ∷ xs) h = let u = and_parts _ _ h in ap₂ (λ u v. u ++ v) (node-widest n a u.0) (parts-widest ps xs u.1)

node-split : (n : Tree) (a : Role) → row_nodes n (widest a) ≡ own a n ++ parts_row_nodes (parts_of n) (first_roles (ways (widest a) n))
unfolding row_nodes own
node-split (node k w g s e ps) (expr y i f) = refl
node-split (node k w g s e ps) (chain_part f) = refl
node-split (node k w g s e ps) (pattern b f) = refl
node-split (node k w g s e ps) _ = refl

way-split : (a : Role) (n : Tree) (qs : List (PieceOf Role)) → Among qs (ways a n) → nodes n a ≡ own a n ++ parts_nodes (parts_of n) (roles qs)
unfolding nodes parts_nodes
way-split a n qs h =
    node-split n a ∙ ap (λ u. own a n ++ u) (parts-widest (parts_of n) (first_roles (ways (widest a) n)) (parts_wide (widest a) n (wide_start a)) ∙ ap (parts_row_nodes (parts_of n)) (way-wide a n qs h))

-- a name that may be reserved has none
key_nodes : (w : List ℕ) (s e : ℕ) → nodes (node Identifier w plain s e none) key ≡ []
unfolding nodes row_nodes parts_row_nodes
key_nodes w s e = refl

word_nodes : (w : List ℕ) (s e : ℕ) → nodes (node Identifier w plain s e none) word ≡ []
unfolding nodes row_nodes parts_row_nodes
word_nodes w s e = refl

-- The first of nodes that starts behind a place.

first_behind : List Tree → ℕ → Option Tree
first_behind [] at = None
first_behind (n ∷ ns) at = cond (nat_lt at (start_of n)) (Some n) (first_behind ns at)

AllUpTo : List Tree → ℕ → Type 0
AllUpTo [] k = Unit {0}
AllUpTo (n ∷ ns) k = (start_of n ≤ k) × AllUpTo ns k

up_to_more : (ns : List Tree) (k l : ℕ) → k ≤ l → AllUpTo ns k → AllUpTo ns l
unfolding AllUpTo
up_to_more [] k l h u = tt
up_to_more (n ∷ ns) k l h u = let x = u.0 in (omega (arith, x, h), up_to_more ns k l h u.1)

up_to_one : (n : Tree) (k : ℕ) → start_of n ≤ k → AllUpTo (n ∷ []) k
unfolding AllUpTo
up_to_one n k h = (h, tt)

up_to_append : (ms ns : List Tree) (k : ℕ) → AllUpTo ms k → AllUpTo ns k → AllUpTo (ms ++ ns) k
unfolding AllUpTo
up_to_append [] ns k u v = v
up_to_append (m ∷ ms) ns k u v = (u.0, up_to_append ms ns k u.1 v)

not_before : (k s : ℕ) → s ≤ k → nat_lt k s ≡ false
not_before k s h = grind (arith, nat_tests)

before : (k s : ℕ) → k < s → nat_lt k s ≡ true
before k s h = grind (arith, nat_tests)

cond_false : {X : Type 0} (b : Bool) (x y : X) → b ≡ false → cond b x y ≡ y
cond_false false x y h = refl
cond_false true x y h = absurd (cc)

cond_true : {X : Type 0} (b : Bool) (x y : X) → b ≡ true → cond b x y ≡ x
cond_true true x y h = refl
cond_true false x y h = absurd (cc)

first_skips : (ms ns : List Tree) (k : ℕ) → AllUpTo ms k → first_behind (ms ++ ns) k ≡ first_behind ns k
unfolding first_behind AllUpTo
first_skips [] ns k u = refl
first_skips (m ∷ ms) ns k u = cond_false (nat_lt k (start_of m)) (Some m) (first_behind (ms ++ ns) k) (not_before k (start_of m) u.0) ∙ first_skips ms ns k u.1

first_here : (n : Tree) (ns : List Tree) (k : ℕ) → k < start_of n → first_behind (n ∷ ns) k ≡ Some n
unfolding first_behind
first_here n ns k h = cond_true (nat_lt k (start_of n)) (Some n) (first_behind ns k) (before k (start_of n) h)

-- it is the node of the row that starts first behind the place

at_number : List Tree → ℕ → Option Tree
at_number L zero = None
at_number L (suc r) = slice_get L r

number_is : (n : Tree) (r : ℕ) → node_of_row n r ≡ at_number (row_nodes n script) r
unfolding at_number
number_is n zero = refl
number_is n (suc r) = refl

got : (L : List Tree) (k : ℕ) (n : Tree) (ns : List Tree) → drop k L ≡ n ∷ ns → slice_get L k ≡ Some n
got [] zero n ns h = cc
got [] (suc k) n ns h = cc
got (x ∷ L) zero n ns h = ap Some (cc)
got (x ∷ L) (suc k) n ns h = got L k n ns h

later_drop : (L : List Tree) (k : ℕ) (n : Tree) (ns : List Tree) → drop k L ≡ n ∷ ns → drop (suc k) L ≡ ns
later_drop [] zero n ns h = cc
later_drop [] (suc k) n ns h = cc
later_drop (x ∷ L) zero n ns h = cc
later_drop (x ∷ L) (suc k) n ns h = later_drop L k n ns h

numbered : (L ns : List Tree) (k at : ℕ) → drop k L ≡ ns → at_number L (row_after (map start_of ns) at (suc k)) ≡ first_behind ns at
unfolding at_number first_behind
numbered L [] k at h = refl
numbered L (n ∷ ns) k at h = of (nat_lt at (start_of n)) (numbered L ns (suc k) at (later_drop L k n ns h))
  where
    of : (b : Bool) → at_number L (row_after (map start_of ns) at (suc (suc k))) ≡ first_behind ns at → at_number L (cond b (suc k) (row_after (map start_of ns) at (suc (suc k)))) ≡ cond b (Some n) (first_behind ns at)
    of true e = got L k n ns h
    of false e = e

-- The numbers of the rows

row_skips : (ms ns : List Tree) (k r : ℕ) → AllUpTo ms k → row_after (map start_of (ms ++ ns)) k r ≡ row_after (map start_of ns) k (r + length ms)
unfolding AllUpTo
row_skips [] ns k r u = ap (row_after (map start_of ns) k) (let e : r ≡ r + 0 = omega arith in e)
row_skips (m ∷ ms) ns k r u =
    cond_false (nat_lt k (start_of m)) r (row_after (map start_of (ms ++ ns)) k (suc r)) (not_before k (start_of m) u.0)
    ∙ row_skips ms ns k (suc r) u.1 ∙ ap (row_after (map start_of ns) k) (let e : suc r + length ms ≡ r + suc (length ms) = omega arith in e)

row_here : (n : Tree) (ns : List Tree) (k r : ℕ) → k < start_of n → row_after (map start_of (n ∷ ns)) k r ≡ r
row_here n ns k r h = cond_true (nat_lt k (start_of n)) r (row_after (map start_of ns) k (suc r)) (before k (start_of n) h)

own_length : (a : Role) (n : Tree) → length (own a n) ≡ has_row a
unfolding own
own_length (expr y i f) n = refl
own_length _ n = refl

wide_widest : (a : Role) → is_wide (widest a) ≡ true
wide_widest (expr y i f) = refl
wide_widest (chain_part f) = refl
wide_widest (pattern b f) = refl
wide_widest _ = refl

rows_widest : (n : Tree) (a : Role) → rows n (widest a) ≡ rows n a
unfolding rows
rows_widest (node k w g s e ps) (expr y i f) = refl
rows_widest (node k w g s e ps) (chain_part f) = refl
rows_widest (node k w g s e ps) (pattern b f) = refl
rows_widest (node k w g s e ps) _ = refl

nodes_count : (n : Tree) (a : Role) → length (nodes n a) ≡ rows n a
unfolding nodes
nodes_count n a = nodes-length n (widest a) (wide_widest a) ∙ rows_widest n a

-- Places go forward; what is read at a place starts there or behind it, whatever the goal at the same place.

record Past (S : Type 0) (Ok : S → Type 0) (at : S → ℕ) (s e : S) (t : Token) : Type 0 where
  ok : Ok e
  from : at s ≤ t.start
  on : t.start ≤ at e
  further : t.class ≡ Punctuator → t.start < at e

module _ (S : Type 0) (Next : S → Token → S → Type 0) (behind : S → Token) (Ok : S → Type 0) (at : S → ℕ) (reads : (s e : S) (t : Token) → Next s t e → Ok s → Past S Ok at s e t) (same_start : (s : S) (t u : Token) (e f : S) → Next s t e → Next s u f → t.start ≡ u.start) where
  -- the nodes start no later than what is read next
  UpTo : List Tree → S → Type 0
  UpTo B s = (t : Token) (e : S) → Next s t e → AllUpTo B t.start

  read_upto : {s : S} (B : List Tree) (t : Token) (e : S) → Next s t e → UpTo B s → AllUpTo B t.start
  unfolding UpTo
  read_upto B t e n u = u t e n

  record On (B : List Tree) (e : S) : Type 0 where
    ok : Ok e
    upto : UpTo B e

  next_on : {s e : S} {t : Token} (B : List Tree) → Next s t e → Ok s → UpTo B s → On B e
  unfolding UpTo
  next_on {s = s} {e = e} {t = t} B n k u =
      let p = reads s e t n k in
      let x = p.on in
      record { ok = p.ok; upto = λ t' e' n'. let q = reads e e' t' n' p.ok in let y = q.from in up_to_more B t.start t'.start (omega (arith, x, y)) (u t e n) }

  step_on : {q : PieceOf Role} {s e : S} (B : List Tree) → Step S Next behind q s e → Ok s → UpTo B s → On B e
  step_on B (token r) k u = next_on B r.next k u
  step_on B (with_mark r) k u = next_on B r.next k u
  step_on B without_mark k u = record { ok = k; upto = u }
  step_on B (one_more r d) k u = let f = next_on B r.next k u in step_on B d f.ok f.upto
  step_on B no_more k u = record { ok = k; upto = u }
  step_on B (seen r) k u = record { ok = k; upto = u }
  step_on B (same_line r h) k u = record { ok = k; upto = u }
  step_on B (left_bare r h) k u = record { ok = k; upto = u }
  step_on B (explicit r) k u = next_on B r.next k u
  step_on B (implicit r h) k u = record { ok = k; upto = u }
  step_on B laid k u = record { ok = k; upto = u }

  -- an expression's node starts where its first token does
  started : {y : Rank} {i : Bool} {f : Start} {n : Tree} {s e : S} → Placed S Next behind (expr y i f) n s e → (t : Token) (m : S) → Next s t m → start_of n ≡ t.start
  started {s = s} (placed {t = u} {m = k} p h) t m q = sym (ap (λ x. x.0) h) ∙ same_start s u t k m p q

  starts_from : {o : ℕ} {y : Rank} {i : Bool} {f : Start} {n : Tree} {s e : S} {P : List Pair} → Spells ways S Next behind o (expr y i f) n s e P → Ok s → at s ≤ start_of n
  starts_from {s = s} (direct qs h (placed {t = u} {m = k} p q) d) ok =
      let x = (reads s k u p ok).from in
      let e : u.start ≡ _ = ap (λ x. x.0) q in
      omega (arith, x, e)
  starts_from {s = s} (grouped {left = l} {m = m} p d q) ok =
      let u = reads s m l p.next ok in
      let x = u.from in
      let y = u.on in
      let z = starts_from d u.ok in
      omega (arith, x, y, z)

  -- between two places, behind the nodes B, the nodes N have rows: of each pair the first of all that starts behind its `(` is its own node
  record Found (s e : S) (B N : List Tree) (P : List Pair) (M : List Tree) : Type 0 where
    ok : Ok e
    past : UpTo (B ++ N) e
    rows : (C : List Tree) → map (λ p. first_behind (B ++ (N ++ C)) p.left) P ≡ map Some M

  own_upto : (a : Role) (n : Tree) {s e : S} (B : List Tree) → Placed S Next behind a n s e → UpTo B s → UpTo (B ++ own a n) s
  unfolding UpTo own
  own_upto (expr y i f) n B p u = λ t m q. up_to_append B (n ∷ []) t.start (u t m q) (let x : start_of n ≡ t.start = started p t m q in up_to_one n t.start (omega (arith, x)))
  own_upto _ n B p u = λ t m q. subst (λ x. AllUpTo x t.start) (sym (append-nil B)) (u t m q)

  joined : {s e : S} (B X Y N : List Tree) {P : List Pair} {M : List Tree} → N ≡ X ++ Y → Found s e (B ++ X) Y P M → Found s e B N P M
  joined {e = e} B X Y N {P = P} {M = M} h f = record {
    ok = f.ok;
    past = subst (λ u. UpTo u e) (append_assoc B X Y ∙ ap (λ u. B ++ u) (sym h)) f.past;
    rows = λ C. ap (λ u. map (λ p. first_behind u p.left) P) (ap (λ u. B ++ (u ++ C)) h ∙ ap (λ u. B ++ u) (append_assoc X Y C) ∙ sym (append_assoc B X (Y ++ C))) ∙ f.rows C;
  }

  -- one token, of a node without rows
  name_found : {s e : S} {t : Token} {N : List Tree} (B : List Tree) → N ≡ [] → Next s t e → Ok s → UpTo B s → Found s e B N [] []
  name_found {s = s} {e = e} B h q k u =
      let v = next_on B q k u in
      subst (λ M. Found s e B M [] []) (sym h) (record { ok = v.ok; past = subst (λ x. UpTo x e) (sym (append-nil B)) v.upto; rows = λ C. refl })

  -- a group's pair is its node's
  group_row : (n : Tree) (y : Rank) (i : Bool) (f : Start) (B C : List Tree) (k : ℕ) → AllUpTo B k → k < start_of n → first_behind (B ++ (nodes n (expr y i f) ++ C)) k ≡ Some n
  unfolding nodes own
  group_row n y i f B C k u h =
      first_skips B (nodes n (expr y i f) ++ C) k u ∙ ap (λ v. first_behind (v ++ C) k) (node-split n (expr y i f))
      ∙ first_here n (parts_row_nodes (parts_of n) (first_roles (ways (expr Expression true Any) n)) ++ C) k h

  mutual
    unfolding nodes parts_nodes parts_row_nodes own

    spells_found : {o : ℕ} {a : Role} {n : Tree} {s e : S} {P : List Pair} (d : Spells ways S Next behind o a n s e P) → Ok s → (B : List Tree) → UpTo B s → Found s e B (nodes n a) P (pair_nodes ways S Next behind d)
    spells_found {a = a} {n = n} (direct qs h p d) k B u =
        joined B (own a n) (parts_nodes (parts_of n) (roles qs)) (nodes n a) (way-split a n qs h) (runs_found d k (B ++ own a n) (own_upto a n B p u))
    spells_found {n = n} {s = s} (grouped {y = y} {i = i} {f = f} {left = l} {m = m} {P = P} p d q) k B u =
        let v = next_on B p.next k u in
        let w = spells_found d v.ok B v.upto in
        let x = next_on (B ++ nodes n (expr Expression true Any)) q.next w.ok w.past in
        let g = reads s m l p.next k in
        let c = g.further p.class in
        let z = starts_from d v.ok in
        record {
          ok = x.ok;
          past = x.upto;
          rows = λ C. ap₂ (λ a b. a ∷ b) (group_row n y i f B C l.start (read_upto B l m p.next u) (omega (arith, c, z))) (w.rows C);
        }
    spells_found (reserved_key {w = w} {t = t} {e = e} r h p) k B u = name_found B (ap (λ x. nodes x key) p ∙ key_nodes w t.start (behind e).stop) r.next k u
    spells_found (reserved_word {w = w} {t = t} {e = e} r h p) k B u = name_found B (ap (λ x. nodes x word) p ∙ word_nodes w t.start (behind e).stop) r.next k u

    runs_found : {o : ℕ} {qs : List (PieceOf Role)} {ps : Parts} {s e : S} {P : List Pair} (d : Runs ways S Next behind o qs ps s e P) → Ok s → (B : List Tree) → UpTo B s → Found s e B (parts_nodes ps (roles qs)) P (run_pair_nodes ways S Next behind d)
    runs_found {e = e} done k B u = record { ok = k; past = subst (λ x. UpTo x e) (sym (append-nil B)) u; rows = λ C. refl }
    runs_found {s = s} {e = e} {P = P} (step {qs = qs} {ps = ps} p d) k B u =
        let v = step_on B p k u in
        let w = runs_found d v.ok B v.upto in
        subst (λ x. Found s e B (parts_nodes ps x) P (run_pair_nodes ways S Next behind d)) (sym (Step-roles S Next behind qs p)) record { ok = w.ok; past = w.past; rows = w.rows }
    runs_found (opened p d) k B u =
        let v = next_on B p.next k u in
        let w = runs_found d v.ok B v.upto in
        record { ok = w.ok; past = w.past; rows = w.rows }
    runs_found (closed p d) k B u =
        let v = next_on B p.next k u in
        let w = runs_found d v.ok B v.upto in
        record { ok = w.ok; past = w.past; rows = w.rows }
    runs_found {e = e} (within {a = a} {qs = qs} {n = n} {ps = ps} {P = P} {Q = Q} p d) k B u =
        let N = nodes n a in
        let M = parts_nodes ps (roles qs) in
        let v = spells_found p k B u in
        let w = runs_found d v.ok (B ++ N) v.past in
        record {
          ok = w.ok;
          past = subst (λ x. UpTo x e) (append_assoc B N M) w.past;
          rows = λ C.
              map-append (λ p. first_behind (B ++ ((N ++ M) ++ C)) p.left) P Q
              ∙ ap₂ (λ x y. x ++ y)
              (ap (λ x. map (λ p. first_behind (B ++ x) p.left) P) (append_assoc N M C) ∙ v.rows (M ++ C))
              (ap (λ x. map (λ p. first_behind x p.left) Q) (ap (λ x. B ++ x) (append_assoc N M C) ∙ sym (append_assoc B N (M ++ C))) ∙ w.rows C)
              ∙ sym (map-append Some (pair_nodes ways S Next behind p) (run_pair_nodes ways S Next behind d));
        }
    runs_found (missing d) k B u =
        let w = runs_found d k B u in
        record { ok = w.ok; past = w.past; rows = w.rows }

  -- so the number of each pair's row is that of its node
  Numbered : (B N : List Tree) (P : List Pair) (X : List (ℕ × Bool)) → Type 0
  Numbered B N P X = (C : List Tree) → map (λ p. row_after (map start_of (B ++ (N ++ C))) p.left 1) P ≡ map (λ x. x.0) X

  group_number : (n : Tree) (y : Rank) (i : Bool) (f : Start) (B C : List Tree) (k r : ℕ) → AllUpTo B k → k < start_of n → r ≡ suc (length B) → row_after (map start_of (B ++ (nodes n (expr y i f) ++ C))) k 1 ≡ r
  unfolding nodes own
  group_number n y i f B C k r u h e =
      row_skips B (nodes n (expr y i f) ++ C) k 1 u ∙ ap (λ v. row_after (map start_of (v ++ C)) k (1 + length B)) (node-split n (expr y i f))
      ∙ row_here n (parts_row_nodes (parts_of n) (first_roles (ways (expr Expression true Any) n)) ++ C) k (1 + length B) h ∙ (let g : 1 + length B ≡ r = omega (arith, e) in g)

  mutual
    unfolding Numbered nodes parts_nodes parts_row_nodes own

    spells_numbered : {o : ℕ} {a : Role} {n : Tree} {s e : S} {P : List Pair} (d : Spells ways S Next behind o a n s e P) → Ok s → (B : List Tree) → UpTo B s → (r : ℕ) → r ≡ suc (length B) → Numbered B (nodes n a) P (pair_rows ways S Next behind d r)
    spells_numbered {a = a} {n = n} {P = P} (direct qs h p d) k B u r e =
        let N = parts_nodes (parts_of n) (roles qs) in
        let l = length-append B (own a n) in
        let m = own_length a n in
        let w = runs_numbered d k (B ++ own a n) (own_upto a n B p u) (has_row a + r) (omega (arith, e, l, m)) in
        λ C. ap (λ x. map (λ p. row_after (map start_of x) p.left 1) P) (ap (λ x. B ++ (x ++ C)) (way-split a n qs h) ∙ ap (λ x. B ++ x) (append_assoc (own a n) N C) ∙ sym (append_assoc B (own a n) (N ++ C))) ∙ w C
    spells_numbered {n = n} {s = s} (grouped {y = y} {i = i} {f = f} {left = l} {m = m} p d q) k B u r e =
        let v = next_on B p.next k u in
        let w = spells_numbered d v.ok B v.upto r e in
        let c = (reads s m l p.next k).further p.class in
        let z = starts_from d v.ok in
        λ C. ap₂ (λ a b. a ∷ b) (group_number n y i f B C l.start r (read_upto B l m p.next u) (omega (arith, c, z)) e) (w C)
    spells_numbered (reserved_key x h p) k B u r e = λ C. refl
    spells_numbered (reserved_word x h p) k B u r e = λ C. refl

    runs_numbered : {o : ℕ} {qs : List (PieceOf Role)} {ps : Parts} {s e : S} {P : List Pair} (d : Runs ways S Next behind o qs ps s e P) → Ok s → (B : List Tree) → UpTo B s → (r : ℕ) → r ≡ suc (length B) → Numbered B (parts_nodes ps (roles qs)) P (run_pair_rows ways S Next behind d r)
    runs_numbered done k B u r e = λ C. refl
    runs_numbered {P = P} (step {qs = qs} {ps = ps} p d) k B u r e =
        let v = step_on B p k u in
        let w = runs_numbered d v.ok B v.upto r e in
        λ C. ap (λ x. map (λ p. row_after (map start_of (B ++ (parts_nodes ps x ++ C))) p.left 1) P) (Step-roles S Next behind qs p) ∙ w C
    runs_numbered (opened p d) k B u r e = let v = next_on B p.next k u in runs_numbered d v.ok B v.upto r e
    runs_numbered (closed p d) k B u r e = let v = next_on B p.next k u in runs_numbered d v.ok B v.upto r e
    runs_numbered (within {a = a} {qs = qs} {n = n} {ps = ps} {P = P} {Q = Q} p d) k B u r e =
        let N = nodes n a in
        let M = parts_nodes ps (roles qs) in
        let f = spells_found p k B u in
        let l = length-append B N in
        let c = nodes_count n a in
        let v = spells_numbered p k B u r e in
        let w = runs_numbered d f.ok (B ++ N) f.past (r + rows n a) (omega (arith, e, l, c)) in
        λ C.
        map-append (λ p. row_after (map start_of (B ++ ((N ++ M) ++ C))) p.left 1) P Q
        ∙ ap₂ (λ x y. x ++ y)
        (ap (λ x. map (λ p. row_after (map start_of (B ++ x)) p.left 1) P) (append_assoc N M C) ∙ v (M ++ C))
        (ap (λ x. map (λ p. row_after (map start_of x) p.left 1) Q) (ap (λ x. B ++ x) (append_assoc N M C) ∙ sym (append_assoc B N (M ++ C))) ∙ w C)
        ∙ sym (map-append (λ x. x.0) (pair_rows ways S Next behind p r) (run_pair_rows ways S Next behind d (r + rows n a)))
    runs_numbered (missing d) k B u r e = runs_numbered d k B u r e

-- In a text

no_end : (c : TokenClass) → c ≡ Punctuator → c ≡ End → ⊥
no_end c p q = let e : Punctuator ≡ End = sym p ∙ q in absurd (cc)

text_past : (text : List ℕ) → IsUtf8 text → (s e t : Token) → NextIn text any_goal s t e → IsCharBoundary text s.stop → Past Token (λ p. IsCharBoundary text p.stop) (λ p. p.stop) s e t
text_past text u s _ _ (next_in {t = t} goal g h) p =
    let w : IsWithin text s.stop t = token_within text goal s.stop t u p h in
    record {
      ok = (token_places text goal s.stop t u p h).1;
      from = w.behind_place;
      on = w.ordered;
      further = λ c. token_goes_on text goal s.stop t u p h (λ f. no_end t.class c f);
    }

seen_past : (language : Language) (text : List ℕ) → IsUtf8 text → (s e t : Token) → Seen Token (NextIn text any_goal) language s t e → IsCharBoundary text s.stop → Past Token (λ p. IsCharBoundary text p.stop) (λ p. p.stop) s e t
seen_past language text u s e _ (seen_next {t = t} n) p =
    let v = text_past text u s e t n p in
    record { ok = v.ok; from = v.from; on = v.on; further = λ c. v.further (punctuator_seen language t.class t.text c) }

starts_same : (language : Language) (text : List ℕ) (s : Token) (t u : Token) (e f : Token) → Seen Token (NextIn text any_goal) language s t e → Seen Token (NextIn text any_goal) language s u f → t.start ≡ u.start
starts_same language text = (seen_determined Token (NextIn text any_goal) itself language (text_determined text)).start

-- the nodes in the pairs, by the first that start behind the `(`
first_rows : (language : Language) (text : List ℕ) (o : ℕ) (n : Tree) (last : Token) (P : List Pair) → IsUtf8 text → (d : SpellsAll language text o n last P) →
    map (λ p. first_behind (row_nodes n script) p.left) P ≡ map Some (pair_nodes ways Token (Seen Token (NextIn text any_goal) language) (seen_in language) d)
unfolding nodes UpTo AllUpTo
first_rows language text o n last P u d =
    let f = spells_found Token (Seen Token (NextIn text any_goal) language) (seen_in language) (λ p. IsCharBoundary text p.stop) (λ p. p.stop) (seen_past language text u) (starts_same language text) d (starting_place language text u) [] (λ t e q. tt) in
    ap (λ x. map (λ p. first_behind x p.left) P) (sym (append-nil (row_nodes n script))) ∙ f.rows []

row_found : (n : Tree) → lined n script ≡ true → (p : Pair) → node_of_row n (grouping (row_starts n) p).row ≡ first_behind (row_nodes n script) p.left
row_found n h p =
    ap (node_of_row n) (row_by_position n h p.left) ∙ number_is n (row_after (map start_of (row_nodes n script)) p.left 1)
    ∙ numbered (row_nodes n script) (row_nodes n script) 0 p.left refl

pub pairs_have_rows : PairsHaveTheirRows
pairs_have_rows language text o n last P u d = (λ j. map (λ p. row_found n (spelled_lined_in language text d) p j) P) ∙ first_rows language text o n last P u d

-- Which pair is the innermost of its node, by the rows of neighbours

-- the next pair stands round another node
stands_alone : ℕ → List (ℕ × Bool) → Bool
stands_alone r [] = true
stands_alone r (x ∷ xs) = not (nat_eq x.0 r)

Told : List (ℕ × Bool) → Type 0
Told [] = Unit {0}
Told (x ∷ xs) = (x.1 ≡ stands_alone x.0 xs) × Told xs

-- the rows have this number or greater ones
AllFrom : ℕ → List (ℕ × Bool) → Type 0
AllFrom k [] = Unit {0}
AllFrom k (x ∷ xs) = (k ≤ x.0) × AllFrom k xs

from_less : (j k : ℕ) (xs : List (ℕ × Bool)) → j ≤ k → AllFrom k xs → AllFrom j xs
unfolding AllFrom
from_less j k [] h u = tt
from_less j k (x ∷ xs) h u = let y = u.0 in (omega (arith, y, h), from_less j k xs h u.1)

from_append : (k : ℕ) (xs ys : List (ℕ × Bool)) → AllFrom k xs → AllFrom k ys → AllFrom k (xs ++ ys)
unfolding AllFrom
from_append k [] ys u v = v
from_append k (x ∷ xs) ys u v = (u.0, from_append k xs ys u.1 v)

not_same : (k r : ℕ) → suc r ≤ k → not (nat_eq k r) ≡ true
not_same k r h = grind (arith, nat_tests)

is_same : (r : ℕ) → not (nat_eq r r) ≡ false
is_same r = grind (arith, nat_tests)

alone_from : (r : ℕ) (xs : List (ℕ × Bool)) → AllFrom (suc r) xs → stands_alone r xs ≡ true
unfolding AllFrom stands_alone
alone_from r [] u = refl
alone_from r (x ∷ xs) u = not_same x.0 r u.0

module _ (S : Type 0) (Next : S → Token → S → Type 0) (behind : S → Token) where
  mutual
    unfolding AllFrom

    rows_from : {o : ℕ} {a : Role} {n : Tree} {s e : S} {P : List Pair} (d : Spells ways S Next behind o a n s e P) (r : ℕ) → AllFrom r (pair_rows ways S Next behind d r)
    rows_from {a = a} (direct qs h p d) r = from_less r (has_row a + r) (run_pair_rows ways S Next behind d (has_row a + r)) (omega arith) (runs_from d (has_row a + r))
    rows_from (grouped p d q) r = (omega arith, rows_from d r)
    rows_from (reserved_key x h p) r = tt
    rows_from (reserved_word x h p) r = tt

    runs_from : {o : ℕ} {qs : List (PieceOf Role)} {ps : Parts} {s e : S} {P : List Pair} (d : Runs ways S Next behind o qs ps s e P) (r : ℕ) → AllFrom r (run_pair_rows ways S Next behind d r)
    runs_from done r = tt
    runs_from (step p d) r = runs_from d r
    runs_from (opened p d) r = runs_from d r
    runs_from (closed p d) r = runs_from d r
    runs_from (within {a = a} {n = n} p d) r =
        from_append r (pair_rows ways S Next behind p r) (run_pair_rows ways S Next behind d (r + rows n a)) (rows_from p r)
        (from_less r (r + rows n a) (run_pair_rows ways S Next behind d (r + rows n a)) (omega arith) (runs_from d (r + rows n a)))
    runs_from (missing d) r = runs_from d r

  -- a pair round a node at an expression's position, with what follows in the node and behind it
  first_told : {o : ℕ} {y : Rank} {i : Bool} {f : Start} {n : Tree} {s e : S} {P : List Pair} (d : Spells ways S Next behind o (expr y i f) n s e P) (r : ℕ) (F : List (ℕ × Bool)) → AllFrom (suc r) F →
      is_direct ways S Next behind d ≡ stands_alone r (pair_rows ways S Next behind d r ++ F)
  unfolding stands_alone
  first_told (direct qs h p d) r F u =
      let X = run_pair_rows ways S Next behind d (1 + r) in
      sym (alone_from r (X ++ F) (from_append (suc r) X F (from_less (suc r) (1 + r) X (omega arith) (runs_from d (1 + r))) u))
  first_told (grouped p d q) r F u = sym (is_same r)

  rows_at : (n : Tree) (y : Rank) (i : Bool) (f : Start) → 1 ≤ rows n (expr y i f)
  rows_at n y i f = let e = node-rows n (expr y i f) in omega (arith, e)

  rows_alike : (n : Tree) (y : Rank) (i : Bool) (f : Start) → rows n (expr y i f) ≡ rows n (expr Expression true Any)
  unfolding rows
  rows_alike (node k w g s e ps) y i f = refl

  mutual
    unfolding Told parts_rows

    rows_told : {o : ℕ} {a : Role} {n : Tree} {s e : S} {P : List Pair} (d : Spells ways S Next behind o a n s e P) (r : ℕ) (F : List (ℕ × Bool)) → AllFrom (r + rows n a) F → Told F → Told (pair_rows ways S Next behind d r ++ F)
    rows_told {a = a} {n = n} (direct qs h p d) r F u t =
        let x = node-rows n a in
        let y = way-rows a n (parts_of n) qs h in
        runs_told d (has_row a + r) F (from_less (has_row a + r + parts_rows (parts_of n) (roles qs)) (r + rows n a) F (omega (arith, x, y)) u) t
    rows_told {n = n} (grouped {y = y} {i = i} {f = f} p d q) r F u t =
        let x = rows_alike n y i f in
        let z = rows_at n y i f in (
          first_told d r F (from_less (suc r) (r + rows n (expr y i f)) F (omega (arith, z)) u),
          rows_told d r F (from_less (r + rows n (expr Expression true Any)) (r + rows n (expr y i f)) F (omega (arith, x)) u) t,
        )
    rows_told (reserved_key x h p) r F u t = t
    rows_told (reserved_word x h p) r F u t = t

    runs_told : {o : ℕ} {qs : List (PieceOf Role)} {ps : Parts} {s e : S} {P : List Pair} (d : Runs ways S Next behind o qs ps s e P) (r : ℕ) (F : List (ℕ × Bool)) → AllFrom (r + parts_rows ps (roles qs)) F → Told F → Told (run_pair_rows ways S Next behind d r ++ F)
    runs_told done r F u t = t
    runs_told (step {qs = qs} {ps = ps} p d) r F u t = runs_told d r F (subst (λ x. AllFrom (r + parts_rows ps x) F) (Step-roles S Next behind qs p) u) t
    runs_told (opened p d) r F u t = runs_told d r F u t
    runs_told (closed p d) r F u t = runs_told d r F u t
    runs_told (within {a = a} {qs = qs} {n = n} {ps = ps} p d) r F u t =
        let X = pair_rows ways S Next behind p r in
        let Y = run_pair_rows ways S Next behind d (r + rows n a) in
        let e : r + rows n a + parts_rows ps (roles qs) ≡ r + (rows n a + parts_rows ps (roles qs)) = omega arith in
        let v = subst (λ k. AllFrom k F) (sym e) u in
        subst Told (sym (append_assoc X Y F))
        (rows_told p r (Y ++ F) (from_append (r + rows n a) Y F (runs_from d (r + rows n a)) (from_less (r + rows n a) (r + rows n a + parts_rows ps (roles qs)) F (omega arith) v)) (runs_told d (r + rows n a) F v t))
    runs_told (missing d) r F u t = runs_told d r F u t

-- The extra pairs

row_in : List ℕ → Pair → ℕ
row_in ss p = row_after ss p.left 1

innermost_told : (ss : List ℕ) (p : Pair) (P : List Pair) (x : ℕ × Bool) (X : List (ℕ × Bool)) → row_in ss p ≡ x.0 → map (row_in ss) P ≡ map (λ z. z.0) X → is_innermost (map (grouping ss) (p ∷ P)) ≡ stands_alone x.0 X
unfolding row_in stands_alone
innermost_told ss p [] x [] e h = refl
innermost_told ss p [] x (z ∷ X) e h = absurd (cc)
innermost_told ss p (q ∷ P) x [] e h = absurd (cc)
innermost_told ss p (q ∷ P) x (z ∷ X) e h = let f : row_after ss q.left 1 ≡ z.0 = cc in ap₂ (λ u v. not (nat_eq u v)) f e

extra_told : (wrapped : List Bool) (ss : List ℕ) (P : List Pair) (X : List (ℕ × Bool)) → map (row_in ss) P ≡ map (λ x. x.0) X → Told X → extra_spans wrapped (map (grouping ss) P) ≡ spans_but_needed wrapped P X
unfolding row_in Told
extra_told wrapped ss [] X h t = refl
extra_told wrapped ss (p ∷ P) [] h t = absurd (cc)
extra_told wrapped ss (p ∷ P) (x ∷ X) h t =
    let e : row_after ss p.left 1 ≡ x.0 = cc in
    let f : map (row_in ss) P ≡ map (λ z. z.0) X = cc in
    ap₂ (λ u v. cond (u && is_flagged wrapped v) [] (span_of (grouping ss p) ∷ []) ++ extra_spans wrapped (map (grouping ss) P)) (innermost_told ss p P x X e f ∙ sym t.0) e
    ∙ ap (λ u. cond (x.1 && is_flagged wrapped x.0) [] (span_of (grouping ss p) ∷ []) ++ u) (extra_told wrapped ss P X f t.1)

-- the rows of a script's pairs, by number
script_rows : (language : Language) (text : List ℕ) (o : ℕ) (n : Tree) (last : Token) (P : List Pair) → IsUtf8 text → (d : SpellsAll language text o n last P) →
    map (row_in (row_starts n)) P ≡ map (λ x. x.0) (pair_rows ways Token (Seen Token (NextIn text any_goal) language) (seen_in language) d 1)
unfolding nodes UpTo AllUpTo Numbered row_in
script_rows language text o n last P u d =
    let f = spells_numbered Token (Seen Token (NextIn text any_goal) language) (seen_in language) (λ p. IsCharBoundary text p.stop) (λ p. p.stop) (seen_past language text u) (starts_same language text) d (starting_place language text u) [] (λ t e q. tt) 1 refl in
    (λ j. map (λ p. row_by_position n (spelled_lined_in language text d) p.left j) P) ∙ ap (λ x. map (λ p. row_after (map start_of x) p.left 1) P) (sym (append-nil (row_nodes n script))) ∙ f []

script_told : (language : Language) (text : List ℕ) (o : ℕ) (n : Tree) (last : Token) (P : List Pair) → (d : SpellsAll language text o n last P) → Told (pair_rows ways Token (Seen Token (NextIn text any_goal) language) (seen_in language) d 1)
unfolding AllFrom Told
script_told language text o n last P d = subst Told (append-nil _) (rows_told Token (Seen Token (NextIn text any_goal) language) (seen_in language) d 1 [] tt tt)

pub extra_pairs_are_extra : ExtraPairsAreExtra
extra_pairs_are_extra language text o n last P u d wrapped =
    extra_told wrapped (row_starts n) P (pair_rows ways Token (Seen Token (NextIn text any_goal) language) (seen_in language) d 1) (script_rows language text o n last P u d) (script_told language text o n last P d)
