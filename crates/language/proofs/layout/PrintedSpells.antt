-- What reads the items of a tree's layout spells the tree, with a pair for each wrapped node.
use Rattle.std.proofs.Common.{◌≡◌, ℕ, zero, suc, pred, ◌+◌, ◌≤◌, max, Bool, true, false, not, cond, ◌&&◌, nat_eq, List, [], ◌∷◌, ◌++◌, length, refl, sym, ap, ap₂, subst, arith, length-append, map, filter}
use Rattle.std.specs.Prelude.{codes, slice_index_or}
use Rattle.std.proofs.lemmas.Bool.{and_parts, false≢true}
use Rattle.tokens.specs.declared.token.TokenClass.TheVariants.{Punctuator}
use Rattle.tree.specs.declared.kind.Pair.{Pair}
use Rattle.tree.specs.Tree.{Tree, node, Parts, none, part, gap, parts_of, bare, bare_parts, SameTree}
use Rattle.tree.specs.Uses.{is_lean}
use Rattle.language.specs.declared.Rank.TheVariants.{Expression}
use Rattle.language.specs.declared.Start.TheVariants.{Any}
use Rattle.language.specs.Pieces.{Role, expr, PieceOf, Piece, tok, may, many, ahead, unbroken, no_operand, ending, open_parameters, close_parameters, sub, absent, never, lay, space, line, feed, deeper, shallower, apart, loose, Spelling, settle_piece}
use Rattle.language.specs.Token.{Token}
use Rattle.language.specs.Grammar.{ways, ways_bare, spellings, can_run, own_rank, own_in, own_start}
use Rattle.language.specs.RowPositions.{has_row, rows, roles, first_roles}
use Rattle.language.specs.Search.{tail_pieces}
use Rattle.language.specs.Derivation.{Among, first, later, Reads, Spells, direct, grouped, Runs, done, step, opened, closed, within, missing, token, without_mark, no_more, seen, same_line, left_bare, explicit, laid, placed, place, pair_of}
use Rattle.language.specs.Layout.{some_way, inside, lead_depth, after_part, first_way, next_role}
use Rattle.language.specs.LayoutFits.{lines_up, fits, parts_fit}
use Rattle.language.specs.Printed.{Item, word, blank, sign_item, items_text, lead_items, printed, parts_printed, lead_open, open_in, parts_open, pair_count, parts_pair_count, Follows, over, reads, passes, sees, stays, leaves, GoesOn}
use Rattle.language.proofs.lower_bound.Domination.{ways_of, settled}
use Rattle.language.proofs.lower_bound.Domination.{fits as fits_at}
use Rattle.language.proofs.layout.DerivedFits.{first_among, first_roles_are}

-- Ways run

abbrev pub has_no_never : List (PieceOf Role) → Bool
has_no_never [] = true
has_no_never (never ∷ qs) = false
has_no_never (q ∷ qs) = has_no_never qs

settled_run : (a : Role) (qs : List Piece) → can_run qs ≡ true → has_no_never (map (settle_piece (own_rank a) (own_in a) (own_start a)) qs) ≡ true
settled_run a [] h = refl
settled_run a (tok c w ∷ qs) h = settled_run a qs h
settled_run a (may w ∷ qs) h = settled_run a qs h
settled_run a (many w ∷ qs) h = settled_run a qs h
settled_run a (ahead w ∷ qs) h = settled_run a qs h
settled_run a (unbroken ∷ qs) h = settled_run a qs h
settled_run a (no_operand ∷ qs) h = settled_run a qs h
settled_run a (ending e ∷ qs) h = settled_run a qs h
settled_run a (open_parameters ∷ qs) h = settled_run a qs h
settled_run a (close_parameters ∷ qs) h = settled_run a qs h
settled_run a (sub s ∷ qs) h = settled_run a qs h
settled_run a (absent ∷ qs) h = settled_run a qs h
settled_run a (never ∷ qs) h = h
settled_run a (lay x ∷ qs) h = settled_run a qs h

among_run : (a : Role) (xs : List Spelling) {qs : List (PieceOf Role)} → Among qs (ways_of a xs) → has_no_never qs ≡ true
among_run a [] h = elim h [ ]
among_run a (x ∷ xs) {qs} h = go (fits_at a x) qs refl (λ k. among_run a xs k) h
  where
    go : (t : Bool) (rs : List (PieceOf Role)) → fits_at a x ≡ t → (Among rs (ways_of a xs) → has_no_never rs ≡ true) → Among rs (map (settled a) (cond t (x ∷ filter (fits_at a) xs) (filter (fits_at a) xs))) → has_no_never rs ≡ true
    go true rs e others first = settled_run a x.pieces (and_parts _ _ e).1
    go true rs e others (later k) = others k
    go false rs e others k = others k

pub way_runs : (a : Role) (n : Tree) {qs : List (PieceOf Role)} → Among qs (ways a n) → has_no_never qs ≡ true
unfolding ways ways_bare
way_runs a n {qs} h = go (is_lean (bare n)) h
  where
    go : (t : Bool) → Among qs (cond t (ways_of a (spellings a (bare n))) []) → has_no_never qs ≡ true
    go false h = elim h [ ]
    go true h = among_run a (spellings a (bare n)) h

-- the same tree has the same ways
pub same_ways : (a : Role) (m n : Tree) → SameTree m n → ways a m ≡ ways a n
unfolding ways
same_ways a m n h = ap (ways_bare a) h

-- The pieces from the next part on

record NextPart (qs : List (PieceOf Role)) (ps : Parts) : Type 0 where
  tail : tail_pieces qs ≡ sub (next_role (roles qs)) ∷ after_part qs
  lines : lines_up (after_part qs) ps ≡ true
  names : roles qs ≡ next_role (roles qs) ∷ roles (after_part qs)
  runs : has_no_never qs ≡ true → has_no_never (after_part qs) ≡ true

next_part : (qs : List (PieceOf Role)) (n : Tree) (ps : Parts) → lines_up qs (part n ps) ≡ true → NextPart qs ps
next_part [] n ps h = absurd (false≢true h)
next_part (tok c w ∷ qs) n ps h = let x = next_part qs n ps h in record { tail = x.tail; lines = x.lines; names = x.names; runs = x.runs }
next_part (may w ∷ qs) n ps h = let x = next_part qs n ps h in record { tail = x.tail; lines = x.lines; names = x.names; runs = x.runs }
next_part (many w ∷ qs) n ps h = let x = next_part qs n ps h in record { tail = x.tail; lines = x.lines; names = x.names; runs = x.runs }
next_part (ahead w ∷ qs) n ps h = let x = next_part qs n ps h in record { tail = x.tail; lines = x.lines; names = x.names; runs = x.runs }
next_part (unbroken ∷ qs) n ps h = let x = next_part qs n ps h in record { tail = x.tail; lines = x.lines; names = x.names; runs = x.runs }
next_part (no_operand ∷ qs) n ps h = let x = next_part qs n ps h in record { tail = x.tail; lines = x.lines; names = x.names; runs = x.runs }
next_part (ending e ∷ qs) n ps h = let x = next_part qs n ps h in record { tail = x.tail; lines = x.lines; names = x.names; runs = x.runs }
next_part (open_parameters ∷ qs) n ps h = let x = next_part qs n ps h in record { tail = x.tail; lines = x.lines; names = x.names; runs = x.runs }
next_part (close_parameters ∷ qs) n ps h = let x = next_part qs n ps h in record { tail = x.tail; lines = x.lines; names = x.names; runs = x.runs }
next_part (sub a ∷ qs) n ps h = record { tail = refl; lines = h; names = refl; runs = λ k. k }
next_part (absent ∷ qs) n ps h = absurd (false≢true h)
next_part (never ∷ qs) n ps h = let x = next_part qs n ps h in record { tail = x.tail; lines = x.lines; names = x.names; runs = λ k. absurd (false≢true k) }
next_part (lay y ∷ qs) n ps h = let x = next_part qs n ps h in record { tail = x.tail; lines = x.lines; names = x.names; runs = x.runs }

record NextGap (qs : List (PieceOf Role)) (ps : Parts) : Type 0 where
  tail : tail_pieces qs ≡ absent ∷ after_part qs
  lines : lines_up (after_part qs) ps ≡ true
  names : roles qs ≡ roles (after_part qs)
  runs : has_no_never qs ≡ true → has_no_never (after_part qs) ≡ true

next_gap : (qs : List (PieceOf Role)) (ps : Parts) → lines_up qs (gap ps) ≡ true → NextGap qs ps
next_gap [] ps h = absurd (false≢true h)
next_gap (tok c w ∷ qs) ps h = let x = next_gap qs ps h in record { tail = x.tail; lines = x.lines; names = x.names; runs = x.runs }
next_gap (may w ∷ qs) ps h = let x = next_gap qs ps h in record { tail = x.tail; lines = x.lines; names = x.names; runs = x.runs }
next_gap (many w ∷ qs) ps h = let x = next_gap qs ps h in record { tail = x.tail; lines = x.lines; names = x.names; runs = x.runs }
next_gap (ahead w ∷ qs) ps h = let x = next_gap qs ps h in record { tail = x.tail; lines = x.lines; names = x.names; runs = x.runs }
next_gap (unbroken ∷ qs) ps h = let x = next_gap qs ps h in record { tail = x.tail; lines = x.lines; names = x.names; runs = x.runs }
next_gap (no_operand ∷ qs) ps h = let x = next_gap qs ps h in record { tail = x.tail; lines = x.lines; names = x.names; runs = x.runs }
next_gap (ending e ∷ qs) ps h = let x = next_gap qs ps h in record { tail = x.tail; lines = x.lines; names = x.names; runs = x.runs }
next_gap (open_parameters ∷ qs) ps h = let x = next_gap qs ps h in record { tail = x.tail; lines = x.lines; names = x.names; runs = x.runs }
next_gap (close_parameters ∷ qs) ps h = let x = next_gap qs ps h in record { tail = x.tail; lines = x.lines; names = x.names; runs = x.runs }
next_gap (sub a ∷ qs) ps h = absurd (false≢true h)
next_gap (absent ∷ qs) ps h = record { tail = refl; lines = h; names = refl; runs = λ k. k }
next_gap (never ∷ qs) ps h = let x = next_gap qs ps h in record { tail = x.tail; lines = x.lines; names = x.names; runs = λ k. absurd (false≢true k) }
next_gap (lay y ∷ qs) ps h = let x = next_gap qs ps h in record { tail = x.tail; lines = x.lines; names = x.names; runs = x.runs }

next_none : (qs : List (PieceOf Role)) → lines_up qs none ≡ true → tail_pieces qs ≡ []
next_none [] h = refl
next_none (tok c w ∷ qs) h = next_none qs h
next_none (may w ∷ qs) h = next_none qs h
next_none (many w ∷ qs) h = next_none qs h
next_none (ahead w ∷ qs) h = next_none qs h
next_none (unbroken ∷ qs) h = next_none qs h
next_none (no_operand ∷ qs) h = next_none qs h
next_none (ending e ∷ qs) h = next_none qs h
next_none (open_parameters ∷ qs) h = next_none qs h
next_none (close_parameters ∷ qs) h = next_none qs h
next_none (sub a ∷ qs) h = absurd (false≢true h)
next_none (absent ∷ qs) h = absurd (false≢true h)
next_none (never ∷ qs) h = next_none qs h
next_none (lay y ∷ qs) h = next_none qs h

module _ (S : Type 0) (Next : S → Token → S → Type 0) (behind : S → Token) where
  -- Items that are read

  record Halves (xs ys : List Item) (s e : S) : Type 0 where
    mid : S
    left : Follows S Next behind xs s mid
    right : Follows S Next behind ys mid e

  halves : (xs : List Item) {ys : List Item} {s e : S} → Follows S Next behind (xs ++ ys) s e → Halves xs ys s e
  halves [] {s = s} f = record { mid = s; left = over; right = f }
  halves (word c w ∷ xs) (reads r f) = let h = halves xs f in record { mid = h.mid; left = reads r h.left; right = h.right }
  halves (blank w ∷ xs) (passes f) = let h = halves xs f in record { mid = h.mid; left = passes h.left; right = h.right }
  halves (Item.name_ahead w ∷ xs) (sees r f) = let h = halves xs f in record { mid = h.mid; left = sees r h.left; right = h.right }
  halves (Item.joined ∷ xs) (stays n b f) = let h = halves xs f in record { mid = h.mid; left = stays n b h.left; right = h.right }
  halves (Item.closing ∷ xs) (leaves n b f) = let h = halves xs f in record { mid = h.mid; left = leaves n b h.left; right = h.right }

  -- where something is read behind them, something is read before them
  goes_on_before : {is : List Item} {s e : S} → Follows S Next behind is s e → GoesOn S Next behind e → GoesOn S Next behind s
  goes_on_before over g = g
  goes_on_before (reads {t = t} {m = m} r f) g = record { token = t; place = m; next = r.next }
  goes_on_before (passes f) g = goes_on_before f g
  goes_on_before (sees {t = t} {m = m} r f) g = record { token = t; place = m; next = r.next }
  goes_on_before (stays {t = t} {m = m} n b f) g = record { token = t; place = m; next = n }
  goes_on_before (leaves {t = t} {m = m} n b f) g = record { token = t; place = m; next = n }

  space_follows : (b : Bool) {is : List Item} {s e : S} → Follows S Next behind (cond b (blank (32 ∷ []) ∷ is) is) s e → Follows S Next behind is s e
  space_follows true (passes f) = f
  space_follows false f = f

  -- What they spell

  -- the pieces run over the same parts, with so many pairs
  pub record Ran (o : ℕ) (qs : List (PieceOf Role)) (ps : Parts) (s e : S) (count : ℕ) : Type 0 where
    pub parts : Parts
    pub pairs : List Pair
    pub runs : Runs ways S Next behind o qs parts s e pairs
    pub same : bare_parts parts ≡ bare_parts ps
    pub counted : length pairs ≡ count

  -- the node, places aside, is spelled, with so many pairs
  pub record Spelled (o : ℕ) (a : Role) (n : Tree) (s e : S) (count : ℕ) : Type 0 where
    pub tree : Tree
    pub pairs : List Pair
    pub spells : Spells ways S Next behind o a tree s e pairs
    pub same : SameTree tree n
    pub counted : length pairs ≡ count

  -- pieces up to the next part
  leads : (d : ℕ) (b : Bool) (qs : List (PieceOf Role)) (is : List Item) (ps : Parts) (k o count : ℕ) {s e : S} → has_no_never qs ≡ true → lead_open qs k ≤ o → Follows S Next behind (lead_items d b qs is) s e →
      ((m : S) (j : ℕ) → k ≤ j → Follows S Next behind is m e → Ran j (tail_pieces qs) ps m e count) → Ran o qs ps s e count
  leads d b [] is ps k o count {s} h l f go = go s o l f
  leads d b (sub a ∷ qs) is ps k o count {s} h l f go = go s o l f
  leads d b (absent ∷ qs) is ps k o count {s} h l f go = go s o l f
  leads d b (tok c w ∷ qs) is ps k o count h l (reads r f) go = let x = leads d b qs is ps k o count h l f go in record { parts = x.parts; pairs = x.pairs; runs = step (token r) x.runs; same = x.same; counted = x.counted }
  leads d b (may w ∷ qs) is ps k o count h l f go = let x = leads d b qs is ps k o count h l f go in record { parts = x.parts; pairs = x.pairs; runs = step without_mark x.runs; same = x.same; counted = x.counted }
  leads d b (many w ∷ qs) is ps k o count h l f go = let x = leads d b qs is ps k o count h l f go in record { parts = x.parts; pairs = x.pairs; runs = step no_more x.runs; same = x.same; counted = x.counted }
  leads d b (ahead w ∷ qs) is ps k o count h l (sees r f) go = let x = leads d b qs is ps k o count h l f go in record { parts = x.parts; pairs = x.pairs; runs = step (seen r) x.runs; same = x.same; counted = x.counted }
  leads d b (unbroken ∷ qs) is ps k o count h l (stays n u f) go = let x = leads d b qs is ps k o count h l f go in record { parts = x.parts; pairs = x.pairs; runs = step (same_line n u) x.runs; same = x.same; counted = x.counted }
  leads d b (no_operand ∷ qs) is ps k o count h l (leaves n u f) go = let x = leads d b qs is ps k o count h l f go in record { parts = x.parts; pairs = x.pairs; runs = step (left_bare n u) x.runs; same = x.same; counted = x.counted }
  leads d b (ending y ∷ qs) is ps k o count h l (reads r f) go = let x = leads d b qs is ps k o count h l f go in record { parts = x.parts; pairs = x.pairs; runs = step (explicit r) x.runs; same = x.same; counted = x.counted }
  leads d b (open_parameters ∷ qs) is ps k zero count h l (reads r f) go = absurd (omega (arith, l))
  leads d b (open_parameters ∷ qs) is ps k (suc o) count h l (reads r f) go = let x = leads d b qs is ps k o count h (omega (arith, l)) f go in record { parts = x.parts; pairs = x.pairs; runs = opened r x.runs; same = x.same; counted = x.counted }
  leads d b (close_parameters ∷ qs) is ps k o count h l (reads r f) go = let x = leads d b qs is ps k (suc o) count h (below_pred (lead_open qs k) o l) f go in record { parts = x.parts; pairs = x.pairs; runs = closed r x.runs; same = x.same; counted = x.counted }
    where
      below_pred : (i j : ℕ) → pred i ≤ j → i ≤ suc j
      below_pred zero j h = omega arith
      below_pred (suc i) j h = omega (arith, h)
  leads d b (never ∷ qs) is ps k o count h l f go = absurd (false≢true h)
  leads d b (lay space ∷ qs) is ps k o count h l (passes f) go = let x = leads d b qs is ps k o count h l f go in record { parts = x.parts; pairs = x.pairs; runs = step laid x.runs; same = x.same; counted = x.counted }
  leads d b (lay line ∷ qs) is ps k o count h l (passes f) go = let x = leads d b qs is ps k o count h l f go in record { parts = x.parts; pairs = x.pairs; runs = step laid x.runs; same = x.same; counted = x.counted }
  leads d b (lay feed ∷ qs) is ps k o count h l (passes f) go = let x = leads d b qs is ps k o count h l f go in record { parts = x.parts; pairs = x.pairs; runs = step laid x.runs; same = x.same; counted = x.counted }
  leads d b (lay deeper ∷ qs) is ps k o count h l f go = let x = leads (suc d) b qs is ps k o count h l f go in record { parts = x.parts; pairs = x.pairs; runs = step laid x.runs; same = x.same; counted = x.counted }
  leads zero b (lay shallower ∷ qs) is ps k o count h l f go = let x = leads zero b qs is ps k o count h l f go in record { parts = x.parts; pairs = x.pairs; runs = step laid x.runs; same = x.same; counted = x.counted }
  leads (suc d) b (lay shallower ∷ qs) is ps k o count h l f go = let x = leads d b qs is ps k o count h l f go in record { parts = x.parts; pairs = x.pairs; runs = step laid x.runs; same = x.same; counted = x.counted }
  leads d b (lay (apart c) ∷ qs) is ps k o count h l f go =
      let x = leads d b qs is ps k o count h l (space_follows (nat_eq (slice_index_or (items_text (lead_items d b qs is)) 0 0) c) f) go in record { parts = x.parts; pairs = x.pairs; runs = step laid x.runs; same = x.same; counted = x.counted }
  leads d b (lay loose ∷ qs) is ps k o count h l f go =
      let x = leads d b qs is ps k o count h l (space_follows b f) go in record { parts = x.parts; pairs = x.pairs; runs = step laid x.runs; same = x.same; counted = x.counted }

  -- a way over the same parts spells the same node
  spelled_directly : (o : ℕ) (a : Role) (n : Tree) (qs : List (PieceOf Role)) {s e : S} {count : ℕ} → Among qs (ways a n) → Ran o qs (parts_of n) s e count → GoesOn S Next behind s → Spelled o a n s e count
  spelled_directly o a (node k w g x y ps) qs {s} {e} h r g' =
      let at = place a g'.token (behind e) in
      let same : SameTree (node k w g at.0 at.1 r.parts) (node k w g x y ps) = ap (λ z. node k w g 0 0 z) r.same in
      record {
        tree = node k w g at.0 at.1 r.parts;
        pairs = r.pairs;
        spells = direct qs (subst (λ z. Among qs z) (sym (same_ways a (node k w g at.0 at.1 r.parts) (node k w g x y ps) same)) h) (placed g'.next refl) r.runs;
        same = same;
        counted = r.counted;
      }

  module _ (W : ℕ → Bool) where
    -- what a node's parts do, at the pieces of its first way
    abbrev PartsRun : Parts → Type 0
    PartsRun ps = (qs : List (PieceOf Role)) (r d : ℕ) (b : Bool) (o : ℕ) (s e : S) → lines_up qs ps ≡ true → has_no_never qs ≡ true → parts_fit W ps (roles qs) r ≡ true → parts_open W ps qs r ≤ o →
        Follows S Next behind (parts_printed W ps qs r d b) s e → GoesOn S Next behind e → Ran o qs ps s e (parts_pair_count W ps (roles qs) r)

    record Closing (k e : S) : Type 0 where
      token : Token
      reads : Reads S Next behind Punctuator (codes ")") k token e

    closing : {k e : S} → Follows S Next behind (sign_item (codes ")") ∷ []) k e → Closing k e
    closing (reads {t = t} r over) = record { token = t; reads = r }

    a_gap : (qs : List (PieceOf Role)) (ps : Parts) {o : ℕ} {m e : S} {x : ℕ} → tail_pieces qs ≡ absent ∷ after_part qs → Ran o (after_part qs) ps m e x → Ran o (tail_pieces qs) (gap ps) m e x
    a_gap qs ps {o} {m} {e} {x} h u = subst (λ xs. Ran o xs (gap ps) m e x) (sym h) (record { parts = gap u.parts; pairs = u.pairs; runs = missing u.runs; same = ap gap u.same; counted = u.counted })

    -- a node without a pair
    bare_node : (n : Tree) (a : Role) (r d o : ℕ) {s e : S} → PartsRun (parts_of n) → some_way (ways a n) ≡ true → lines_up (first_way (ways a n)) (parts_of n) ≡ true →
        parts_fit W (parts_of n) (first_roles (ways a n)) r ≡ true → parts_open W (parts_of n) (first_way (ways a n)) r ≤ o →
        Follows S Next behind (parts_printed W (parts_of n) (first_way (ways a n)) r d false) s e → GoesOn S Next behind e → Spelled o a n s e (parts_pair_count W (parts_of n) (first_roles (ways a n)) r)
    bare_node n a r d o {s} {e} run some lines fit low f g =
        let h = first_among (ways a n) some in
        let x = run (first_way (ways a n)) r d false o s e lines (way_runs a n h) (subst (λ xs. parts_fit W (parts_of n) xs r ≡ true) (sym (first_roles_are (ways a n))) fit) low f g in
        subst (λ xs. Spelled o a n s e (parts_pair_count W (parts_of n) xs r)) (first_roles_are (ways a n)) (spelled_directly o a n (first_way (ways a n)) h x (goes_on_before f g))

    -- a node in a pair
    in_pair : (n : Tree) (a : Role) (r d o : ℕ) {s e : S} → has_row a ≡ 1 → PartsRun (parts_of n) → some_way (ways (expr Expression true Any) n) ≡ true → lines_up (first_way (ways (expr Expression true Any) n)) (parts_of n) ≡ true →
        parts_fit W (parts_of n) (first_roles (ways (expr Expression true Any) n)) (suc r) ≡ true → suc (parts_open W (parts_of n) (first_way (ways (expr Expression true Any) n)) (suc r)) ≤ o →
        Follows S Next behind (sign_item (codes "(") ∷ parts_printed W (parts_of n) (first_way (ways (expr Expression true Any) n)) (suc r) d false ++ sign_item (codes ")") ∷ []) s e →
        Spelled o a n s e (1 + parts_pair_count W (parts_of n) (first_roles (ways (expr Expression true Any) n)) (suc r))
    in_pair n (expr y i v) r d zero row run some lines fit low f = absurd (omega (arith, low))
    in_pair n (expr y i v) r d (suc o) {s} {e} row run some lines fit low (reads {t = t} left f) =
        let z = halves (parts_printed W (parts_of n) (first_way (ways (expr Expression true Any) n)) (suc r) d false) f in
        let c = closing z.right in
        let x = bare_node n (expr Expression true Any) (suc r) d o run some lines fit (omega (arith, low)) z.left (record { token = c.token; place = e; next = c.reads.next }) in
        let counted = x.counted in
        record { tree = x.tree; pairs = pair_of t c.token ∷ x.pairs; spells = grouped left x.spells c.reads; same = x.same; counted = omega (arith, counted) }
    in_pair n _ r d o row run some lines fit low f = absurd (omega (arith, row))

    -- a node, in a pair or not
    a_node : (n : Tree) (a : Role) (r d o : ℕ) {s e : S} (t : Bool) → (nat_eq (has_row a) 1 && W r) ≡ t → PartsRun (parts_of n) → some_way (ways (inside t a) n) ≡ true →
        lines_up (first_way (ways (inside t a) n)) (parts_of n) ≡ true → parts_fit W (parts_of n) (first_roles (ways (inside t a) n)) (has_row a + r) ≡ true →
        cond t (suc (parts_open W (parts_of n) (first_way (ways (expr Expression true Any) n)) (suc r))) (parts_open W (parts_of n) (first_way (ways a n)) (has_row a + r)) ≤ o →
        Follows S Next behind (cond t (sign_item (codes "(") ∷ parts_printed W (parts_of n) (first_way (ways (expr Expression true Any) n)) (suc r) d false ++ sign_item (codes ")") ∷ []) (parts_printed W (parts_of n) (first_way (ways a n)) (has_row a + r) d false)) s e →
        GoesOn S Next behind e → Spelled o a n s e (cond t 1 0 + parts_pair_count W (parts_of n) (first_roles (ways (inside t a) n)) (has_row a + r))
    a_node n a r d o {s} {e} false h run some lines fit low f g =
        subst (λ c. Spelled o a n s e c) (let z : parts_pair_count W (parts_of n) (first_roles (ways a n)) (has_row a + r) ≡ 0 + parts_pair_count W (parts_of n) (first_roles (ways a n)) (has_row a + r) = omega arith in z)
        (bare_node n a (has_row a + r) d o run some lines fit low f g)
    a_node n (expr y i v) r d o {s} {e} true h run some lines fit low f g =
        let E = expr Expression true Any in
        let z : 1 + r ≡ suc r = omega arith in
        subst (λ q. Spelled o (expr y i v) n s e (1 + parts_pair_count W (parts_of n) (first_roles (ways E n)) q)) (sym z)
        (in_pair n (expr y i v) r d o refl run some lines (subst (λ q. parts_fit W (parts_of n) (first_roles (ways E n)) q ≡ true) z fit) low f)
    a_node n _ r d o true h run some lines fit low f g = absurd (false≢true h)

    none_follows : {m e : S} → Follows S Next behind [] m e → m ≡ e
    none_follows over = refl

    -- a part, and what stands behind it
    a_part : (n : Tree) (ps : Parts) (a : Role) (qs : List (PieceOf Role)) {o : ℕ} {m k e : S} {x y : ℕ} → Spelled o a n m k x → Ran o qs ps k e y → Ran o (sub a ∷ qs) (part n ps) m e (x + y)
    a_part n ps a qs u v =
        let i = u.counted in let j = v.counted in let l = length-append u.pairs v.pairs in
        record { parts = part u.tree v.parts; pairs = u.pairs ++ v.pairs; runs = within u.spells v.runs; same = ap₂ (λ t ts. part t ts) u.same v.same; counted = omega (arith, i, j, l) }

    mutual
      unfolding fits parts_fit printed parts_printed open_in parts_open pair_count parts_pair_count

      pub printed_spells : (n : Tree) (a : Role) (r d o : ℕ) {s e : S} → fits W n a r ≡ true → open_in W n a r ≤ o → Follows S Next behind (printed W n a r d) s e → GoesOn S Next behind e → Spelled o a n s e (pair_count W n a r)
      printed_spells (node k w g x y ps) a r d o fit low f g' =
          let n = node k w g x y ps in
          let t = nat_eq (has_row a) 1 && W r in
          let u = and_parts (some_way (ways (inside t a) n)) _ fit in
          let v = and_parts (lines_up (first_way (ways (inside t a) n)) ps) _ u.1 in
          a_node n a r d o t refl (λ qs q c b j s e h i l m z goes. parts_run ps qs q c b j s e h i l m z goes) u.0 v.0 v.1 low f g'

      pub parts_run : (ps : Parts) → PartsRun ps
      parts_run none qs r d b o s e lines never_in fit low f g =
          leads d b qs [] none 0 o 0 never_in low f (λ m j l z. record { parts = none; pairs = []; runs = subst (λ xs. Runs ways S Next behind j xs none m e []) (sym (next_none qs lines)) (subst (λ q. Runs ways S Next behind j [] none m q []) (none_follows z) done); same = refl; counted = refl })
      parts_run (gap ps) qs r d b o s e lines never_in fit low f g =
          let x = next_gap qs ps lines in
          leads d b qs (parts_printed W ps (after_part qs) r (lead_depth d qs) false) (gap ps) (parts_open W ps (after_part qs) r) o (parts_pair_count W ps (roles qs) r) never_in low f
          (λ m j l z. a_gap qs ps x.tail (subst (λ xs. Ran j (after_part qs) ps m e (parts_pair_count W ps xs r)) (sym x.names) (parts_run ps (after_part qs) r (lead_depth d qs) false j m e x.lines (x.runs never_in) (subst (λ xs. parts_fit W ps xs r ≡ true) x.names fit) l z g)))
      parts_run (part n ps) qs r d b o s e lines never_in fit low f g =
          let x = next_part qs n ps lines in
          let a = next_role (roles qs) in
          let u = and_parts (fits W n a r) (parts_fit W ps (roles (after_part qs)) (r + rows n a)) (subst (λ xs. parts_fit W (part n ps) xs r ≡ true) x.names fit) in
          subst (λ xs. Ran o qs (part n ps) s e (parts_pair_count W (part n ps) xs r)) (sym x.names)
          (leads d b qs (printed W n a r (lead_depth d qs) ++ parts_printed W ps (after_part qs) (r + rows n a) (lead_depth d qs) (not (W r))) (part n ps)
          (max (open_in W n a r) (parts_open W ps (after_part qs) (r + rows n a))) o (pair_count W n a r + parts_pair_count W ps (roles (after_part qs)) (r + rows n a)) never_in low f
          (λ m j l z.
          let h = halves (printed W n a r (lead_depth d qs)) z in
          subst (λ xs. Ran j xs (part n ps) m e (pair_count W n a r + parts_pair_count W ps (roles (after_part qs)) (r + rows n a))) (sym x.tail)
          (a_part n ps a (after_part qs) (printed_spells n a r (lead_depth d qs) j u.0 (omega (arith, l)) h.left (goes_on_before h.right g))
          (parts_run ps (after_part qs) (r + rows n a) (lead_depth d qs) (not (W r)) j h.mid e x.lines (x.runs never_in) u.1 (omega (arith, l)) h.right g))))
