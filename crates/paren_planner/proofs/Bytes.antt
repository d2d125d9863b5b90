-- A script has no more rows than a text that derives it has bytes.
use Rattle.std.proofs.Common.{◌≡◌, ◌≢◌, ℕ, ◌+◌, ◌≤◌, ◌<◌, Bool, true, false, cond, List, [], ◌∷◌, length, Option, refl, sym, ap, ap₂, ◌∙◌, arith, ◌⊎◌, inl, inr}
use Rattle.std.specs.Prelude.{IsTrue, IsSome, map, filter}
use Rattle.std.specs.Str.{IsUtf8, IsCharBoundary}
use Rattle.std.proofs.lemmas.Bool.{and_parts, and_from}
use Rattle.tokens.specs.declared.token.TokenClass.{TokenClass}
use Rattle.tokens.specs.declared.token.TokenClass.TheVariants.{End, IdentifierName}
use Rattle.tokens.specs.Reading.{any_goal}
use Rattle.tokens.proofs.Bounds.{IsWithin, token_within, token_places, token_goes_on}
use Rattle.tree.specs.declared.kind.Pair.{Pair}
use Rattle.tree.specs.declared.kind.Kind.TheVariants.{Identifier}
use Rattle.tree.specs.Tree.{Tree, node, plain, Parts, none, part, gap, parts_of, bare}
use Rattle.tree.specs.Uses.{implies, is_lean}
use Rattle.language.specs.declared.Rank.{Rank}
use Rattle.language.specs.declared.Rank.TheVariants.{Expression}
use Rattle.language.specs.declared.Start.{Start}
use Rattle.language.specs.declared.Start.TheVariants.{Any}
use Rattle.language.specs.Pieces.{Role, expr, word, key, script, chain_part, pattern, Slot, PieceOf, Piece, tok, may, many, ahead, unbroken, no_operand, ending, open_parameters, close_parameters, sub, absent, never, lay, Spelling, settle, settle_piece}
use Rattle.language.specs.Token.{Token}
use Rattle.language.specs.declared.Language.{Language}
use Rattle.language.specs.Languages.{class_in, seen_in, Seen, seen_next, DerivesIn}
use Rattle.language.specs.Places.{NextIn, next_in}
use Rattle.language.proofs.texts.StartPlaces.{starting_place}
use Rattle.language.specs.Derivation.{Among, Reads, Step, token, with_mark, without_mark, one_more, no_more, seen, same_line, left_bare, explicit, implicit, laid, Spells, direct, grouped, reserved_key, reserved_word, Runs, done, step, opened, closed, within, missing}
use Rattle.language.specs.Grammar.{ways, ways_bare, spellings, fits_position, can_run, own_rank, own_in, own_start}
use Rattle.language.specs.RowPositions.{roles, first_roles, widest, has_row, rows, parts_rows}
use Rattle.language.specs.Cost.{AtMost, at_most, least}
use Rattle.language.proofs.table.LooserPositions.{Looser, same, looser, looser_spine, looser_pattern, AllLooser, end, next}
use Rattle.language.proofs.lower_bound.Domination.{settled, fits, ways_of, Tidy, none_at_all, one_way, two_ways, Among-one, Among-two}
use Rattle.language.proofs.table.TidyTable.{tidy_table}
use Rattle.language.proofs.lower_bound.LowerBound.{Step-roles, at_least}
use Rattle.spellings.specs.Spelled.{settled_roles}
use Rattle.cost_table.proofs.Known.{takes_all}
use Rattle.paren_planner.proofs.WrappedRows.{parts-rows}
use Rattle.paren_planner.proofs.Heavy.{own_tokens, is_end, piece_tokens, tokens, way_tokens}

-- The rows of a node don't depend on the way in which it is spelled.

rows-looser : {a b : Role} (n : Tree) → Looser a b → rows n a ≡ rows n b
unfolding rows
rows-looser n same = refl
rows-looser (node k w g s e ps) (looser u v x) = refl
rows-looser (node k w g s e ps) (looser_spine x) = refl
rows-looser (node k w g s e ps) (looser_pattern x) = refl

parts_rows-looser : {xs ys : List Role} (ps : Parts) → AllLooser xs ys → parts_rows ps xs ≡ parts_rows ps ys
unfolding parts_rows
parts_rows-looser none h = refl
parts_rows-looser (gap ps) h = parts_rows-looser ps h
parts_rows-looser (part n ps) end = refl
parts_rows-looser (part n ps) (next l h) = ap₂ (λ u v. u + v) (rows-looser n l) (parts_rows-looser ps h)

abbrev slots_in : List Piece → List Slot
slots_in [] = []
slots_in (sub s ∷ qs) = s ∷ slots_in qs
slots_in (_ ∷ qs) = slots_in qs

roles-settled : (a : Role) (qs : List Piece) → roles (map (settle_piece (own_rank a) (own_in a) (own_start a)) qs) ≡ settled_roles a (slots_in qs)
roles-settled a [] = refl
roles-settled a (tok c w ∷ qs) = roles-settled a qs
roles-settled a (may w ∷ qs) = roles-settled a qs
roles-settled a (many w ∷ qs) = roles-settled a qs
roles-settled a (ahead w ∷ qs) = roles-settled a qs
roles-settled a (unbroken ∷ qs) = roles-settled a qs
roles-settled a (no_operand ∷ qs) = roles-settled a qs
roles-settled a (ending e ∷ qs) = roles-settled a qs
roles-settled a (open_parameters ∷ qs) = roles-settled a qs
roles-settled a (close_parameters ∷ qs) = roles-settled a qs
roles-settled a (sub s ∷ qs) = ap (λ u. settle (own_rank a) (own_in a) (own_start a) s ∷ u) (roles-settled a qs)
roles-settled a (absent ∷ qs) = roles-settled a qs
roles-settled a (never ∷ qs) = roles-settled a qs
roles-settled a (lay h ∷ qs) = roles-settled a qs

settled-rows : (ps : Parts) (a b : Role) (x : Spelling) → parts_rows ps (roles (settled a x)) ≡ parts_rows ps (roles (settled b x))
settled-rows ps a b x = ap (parts_rows ps) (roles-settled a x.pieces) ∙ parts-rows ps a b (slots_in x.pieces) ∙ ap (parts_rows ps) (sym (roles-settled b x.pieces))

implies_true : (b : Bool) → IsTrue (implies b true)
implies_true true = refl
implies_true false = refl

-- what fits a position fits the widest
fits-widest : (a : Role) (x : Spelling) → IsTrue (fits a x) → IsTrue (fits (widest a) x)
fits-widest (expr y i f) x h =
    and_from _ _ (and_from _ _ (takes_all x.rank) (and_from _ _ (implies_true x.needs_in) refl)) (and_parts (fits_position (expr y i f) x) (can_run x.pieces) h).1
fits-widest (chain_part f) x h = h
fits-widest (pattern b f) x h = and_from _ _ refl (and_parts (fits_position (pattern b f) x) (can_run x.pieces) h).1
fits-widest _ x h = h

first_fits : (b : Role) (x : Spelling) (v : Bool) (A B : List Spelling) → v ≡ true → first_roles (map (settled b) (cond v (x ∷ A) B)) ≡ roles (settled b x)
first_fits b x true A B h = refl
first_fits b x false A B h = absurd (cc)

spelled-rows : {t : Bool} (ps : Parts) (a : Role) (xs : List Spelling) (qs : List (PieceOf Role)) → Tidy t xs → Among qs (ways_of a xs) → parts_rows ps (first_roles (ways_of (widest a) xs)) ≡ parts_rows ps (roles qs)
spelled-rows ps a _ qs none_at_all h = elim h [ ]
spelled-rows ps a _ qs (one_way {x = x} n) h =
    let p = Among-one a x (fits a x) refl h in
    ap (parts_rows ps) (first_fits (widest a) x (fits (widest a) x) [] [] (fits-widest a x p.0)) ∙ settled-rows ps (widest a) a x ∙ ap (λ u. parts_rows ps (roles u)) (sym p.1)
spelled-rows ps a _ qs (two_ways {x = x} {y = y} n covers alike) h = of (Among-two a x y (fits a x) (fits a y) refl refl h)
  where
    whole : IsTrue (fits a x) → parts_rows ps (first_roles (ways_of (widest a) (x ∷ y ∷ []))) ≡ parts_rows ps (roles (settled a x))
    whole p = ap (parts_rows ps) (first_fits (widest a) x (fits (widest a) x) (filter (fits (widest a)) (y ∷ [])) (filter (fits (widest a)) (y ∷ [])) (fits-widest a x p)) ∙ settled-rows ps (widest a) a x

    of : (IsTrue (fits a x) × (qs ≡ settled a x)) ⊎ (IsTrue (fits a y) × (qs ≡ settled a y)) → parts_rows ps (first_roles (ways_of (widest a) (x ∷ y ∷ []))) ≡ parts_rows ps (roles qs)
    of (inl p) = whole p.0 ∙ ap (λ u. parts_rows ps (roles u)) (sym p.1)
    of (inr p) = whole (covers a a same p.0).0 ∙ sym (parts_rows-looser ps (covers a a same p.0).1) ∙ ap (λ u. parts_rows ps (roles u)) (sym p.1)

spellings-widest : (a : Role) (n : Tree) → spellings (widest a) n ≡ spellings a n
unfolding spellings
spellings-widest (expr y i f) (node k w g s e ps) = refl
spellings-widest (chain_part f) (node k w g s e ps) = refl
spellings-widest (pattern b f) (node k w g s e ps) = refl
spellings-widest _ n = refl

pub way-rows : (a : Role) (n : Tree) (ps : Parts) (qs : List (PieceOf Role)) → Among qs (ways a n) → parts_rows ps (first_roles (ways (widest a) n)) ≡ parts_rows ps (roles qs)
unfolding ways ways_bare
way-rows a n ps qs h = of (is_lean (bare n)) h
  where
    of : (t : Bool) → Among qs (cond t (ways_of a (spellings a (bare n))) []) → parts_rows ps (first_roles (cond t (ways_of (widest a) (spellings (widest a) (bare n))) [])) ≡ parts_rows ps (roles qs)
    of true k = ap (λ u. parts_rows ps (first_roles (ways_of (widest a) u))) (spellings-widest a (bare n)) ∙ spelled-rows ps a (spellings a (bare n)) qs (tidy_table a (bare n)) k
    of false k = elim k [ ]

pub node-rows : (n : Tree) (a : Role) → rows n a ≡ has_row a + parts_rows (parts_of n) (first_roles (ways (widest a) n))
unfolding rows
node-rows (node k w g s e ps) a = refl

pub group-rows : (n : Tree) (y : Rank) (i : Bool) (f : Start) → rows n (expr y i f) ≡ rows n (expr Expression true Any)
unfolding rows
group-rows (node k w g s e ps) y i f = refl

rows_key : (w : List ℕ) (s e : ℕ) → rows (node Identifier w plain s e none) key ≡ 0
unfolding rows parts_rows
rows_key w s e = refl

rows_word : (w : List ℕ) (s e : ℕ) → rows (node Identifier w plain s e none) word ≡ 0
unfolding rows parts_rows
rows_word w s e = refl

-- Places go forward, by one at least behind each token but the end.

record Moves (S : Type 0) (Ok : S → Type 0) (at : S → ℕ) (s e : S) (c : TokenClass) : Type 0 where
  ok : Ok e
  on : at s ≤ at e
  further : is_end c ≡ false → at s < at e

module _ (S : Type 0) (Next : S → Token → S → Type 0) (behind : S → Token) (Ok : S → Type 0) (at : S → ℕ) (moves : (s e : S) (t : Token) → Next s t e → Ok s → Moves S Ok at s e t.class) where
  record Forward (s e : S) (k : ℕ) : Type 0 where
    ok : Ok e
    far : at s + k ≤ at e

  read_forward : {c : TokenClass} {w : List ℕ} {s e : S} {t : Token} → Reads S Next behind c w s t e → Ok s → Forward s e (cond (is_end c) 0 1)
  read_forward {c = c} {s = s} {e = e} {t = t} r k =
      let m = moves s e t r.next k in
      record { ok = m.ok; far = of (is_end c) refl m.on (λ h. m.further (ap is_end r.class ∙ h)) }
    where
      of : (b : Bool) → is_end c ≡ b → at s ≤ at e → (is_end c ≡ false → at s < at e) → at s + cond b 0 1 ≤ at e
      of true h u v = omega (arith, u)
      of false h u v = let x = v h in omega (arith, x)

  step_forward : {q : PieceOf Role} {s e : S} → Step S Next behind q s e → Ok s → Forward s e (piece_tokens own_tokens q)
  step_forward (token r) k = read_forward r k
  step_forward (with_mark r) k = let f = read_forward r k in let x = f.far in record { ok = f.ok; far = omega (arith, x) }
  step_forward without_mark k = record { ok = k; far = omega arith }
  step_forward (one_more r d) k =
      let f = read_forward r k in
      let g = step_forward d f.ok in
      let x = f.far in
      let y = g.far in
      record { ok = g.ok; far = omega (arith, x, y) }
  step_forward no_more k = record { ok = k; far = omega arith }
  step_forward (seen r) k = record { ok = k; far = omega arith }
  step_forward (same_line r h) k = record { ok = k; far = omega arith }
  step_forward (left_bare r h) k = record { ok = k; far = omega arith }
  step_forward (explicit r) k = let f = read_forward r k in let x = f.far in record { ok = f.ok; far = omega (arith, x) }
  step_forward (implicit r h) k = record { ok = k; far = omega arith }
  step_forward laid k = record { ok = k; far = omega arith }

  direct_forward : (a : Role) (n : Tree) {s e : S} (qs : List (PieceOf Role)) → Among qs (ways a n) → Forward s e (tokens own_tokens qs + parts_rows (parts_of n) (roles qs)) → Forward s e (own_tokens a + rows n a)
  direct_forward a n qs h f =
      let x = f.far in
      let t = way_tokens a n qs h in
      let r = way-rows a n (parts_of n) qs h in
      let m = node-rows n a in
      record { ok = f.ok; far = omega (arith, x, t, r, m) }

  mutual
    unfolding parts_rows

    spells_forward : {o : ℕ} {a : Role} {n : Tree} {s e : S} {P : List Pair} → Spells ways S Next behind o a n s e P → Ok s → Forward s e (own_tokens a + rows n a)
    spells_forward {a = a} {n = n} (direct qs h p d) k = direct_forward a n qs h (runs_forward d k)
    spells_forward {n = n} (grouped {y = y} {i = i} {f = f} p d q) k =
        let u = read_forward p k in
        let v = spells_forward d u.ok in
        let w = read_forward q v.ok in
        let x = u.far in
        let z = v.far in
        let t = w.far in
        let r = group-rows n y i f in
        record { ok = w.ok; far = omega (arith, x, z, t, r) }
    spells_forward {n = n} (reserved_key {w = w} {t = t} {e = e} r h p) k =
        let u = read_forward r k in
        let x = u.far in
        let z : rows n key ≡ 0 = ap (λ v. rows v key) p ∙ rows_key w t.start (behind e).stop in
        record { ok = u.ok; far = omega (arith, x, z) }
    spells_forward {n = n} (reserved_word {w = w} {t = t} {e = e} r h p) k =
        let u = read_forward r k in
        let x = u.far in
        let z : rows n word ≡ 0 = ap (λ v. rows v word) p ∙ rows_word w t.start (behind e).stop in
        record { ok = u.ok; far = omega (arith, x, z) }

    runs_forward : {o : ℕ} {qs : List (PieceOf Role)} {ps : Parts} {s e : S} {P : List Pair} → Runs ways S Next behind o qs ps s e P → Ok s → Forward s e (tokens own_tokens qs + parts_rows ps (roles qs))
    runs_forward done k = record { ok = k; far = omega arith }
    runs_forward (step {q = q} {qs = qs} {ps = ps} p d) k =
        let u = step_forward p k in
        let v = runs_forward d u.ok in
        let x = u.far in
        let y = v.far in
        let r = ap (parts_rows ps) (Step-roles S Next behind qs p) in
        record { ok = v.ok; far = omega (arith, x, y, r) }
    runs_forward (opened p d) k =
        let u = read_forward p k in
        let v = runs_forward d u.ok in
        let x = u.far in
        let y = v.far in
        record { ok = v.ok; far = omega (arith, x, y) }
    runs_forward (closed p d) k =
        let u = read_forward p k in
        let v = runs_forward d u.ok in
        let x = u.far in
        let y = v.far in
        record { ok = v.ok; far = omega (arith, x, y) }
    runs_forward (within p d) k =
        let u = spells_forward p k in
        let v = runs_forward d u.ok in
        let x = u.far in
        let y = v.far in
        record { ok = v.ok; far = omega (arith, x, y) }
    runs_forward (missing d) k =
        let u = runs_forward d k in
        let x = u.far in
        record { ok = u.ok; far = omega (arith, x) }

-- In a text

not_end : (c : TokenClass) → is_end c ≡ false → c ≢ End
not_end End h = λ e. absurd (cc)
not_end _ h = λ e. absurd (cc)

text_moves : (text : List ℕ) → IsUtf8 text → (s e t : Token) → NextIn text any_goal s t e → IsCharBoundary text s.stop → Moves Token (λ p. IsCharBoundary text p.stop) (λ p. p.stop) s e t.class
text_moves text u s _ _ (next_in {t = t} goal g h) p =
    let w : IsWithin text s.stop t = token_within text goal s.stop t u p h in
    let a = w.behind_place in
    let b = w.ordered in
    record {
      ok = (token_places text goal s.stop t u p h).1;
      on = omega (arith, a, b);
      further = λ e. let c = token_goes_on text goal s.stop t u p h (not_end t.class e) in omega (arith, a, c);
    }

-- a language sees an end where one stands
end_seen : (language : Language) (c : TokenClass) (w : List ℕ) → is_end (class_in language c w) ≡ false → is_end c ≡ false
end_seen language IdentifierName w h = refl
end_seen language _ w h = h

seen_moves : (language : Language) (text : List ℕ) → IsUtf8 text → (s e t : Token) → Seen Token (NextIn text any_goal) language s t e → IsCharBoundary text s.stop → Moves Token (λ p. IsCharBoundary text p.stop) (λ p. p.stop) s e t.class
seen_moves language text u s e _ (seen_next {t = t} n) p =
    let v = text_moves text u s e t n p in
    record { ok = v.ok; on = v.on; further = λ h. v.further (end_seen language t.class t.text h) }

pub rows_within : (language : Language) (text : List ℕ) (n : Tree) (P : List Pair) → IsUtf8 text → DerivesIn language text n P → rows n script ≤ length text
rows_within language text n P u d =
    let f = spells_forward Token (Seen Token (NextIn text any_goal) language) (seen_in language) (λ p. IsCharBoundary text p.stop) (λ p. p.stop) (seen_moves language text u) d.1.2 (starting_place language text u) in
    let x = f.far in
    let y = f.ok.0 in
    omega (arith, x, y)

some_least : (x : Option ℕ) (m : ℕ) → AtMost x m → IsSome x
some_least _ m (at_most h) = refl

pub derived_least : (language : Language) (text : List ℕ) (n : Tree) (P : List Pair) → DerivesIn language text n P → IsSome (least n script)
derived_least language text n P d = some_least (least n script) (length P) (at_least Token (Seen Token (NextIn text any_goal) language) (seen_in language) d.1.2)
