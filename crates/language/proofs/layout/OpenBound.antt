-- A layout has at most two parentheses open at one point for each node on a path: a pair, and an arrow's parameters.
use Rattle.std.proofs.Common.{◌≡◌, ℕ, zero, suc, pred, ◌+◌, ◌≤◌, max, Bool, true, false, cond, not, ◌&&◌, nat_eq, List, [], ◌∷◌, ◌++◌, refl, arith, map, filter}
use Rattle.std.proofs.lemmas.Bool.{and_parts, false≢true}
use Rattle.tree.specs.Tree.{Tree, node, Parts, none, part, gap, bare, height, parts_height}
use Rattle.tree.specs.Uses.{is_lean, is_empty}
use Rattle.language.specs.declared.Rank.TheVariants.{Expression}
use Rattle.language.specs.declared.Start.TheVariants.{Any}
use Rattle.tree.specs.declared.kind.Kind.TheVariants as kind
use Rattle.tokens.specs.declared.token.TokenClass.TheVariants.{End}
use Rattle.language.specs.declared.Rank.TheVariants.{Primary}
use Rattle.language.specs.Statements.{prologue, is_directive, module_prologue}
use Rattle.language.specs.Pieces.{at, shorthand_key, script, Role, expr, PieceOf, Piece, tok, may, many, ahead, unbroken, no_operand, ending, open_parameters, close_parameters, sub, absent, never, lay, space, line, feed, deeper, shallower, apart, loose, Spelling, only}
use Rattle.language.specs.Grammar.{ways, ways_bare, spellings}
use Rattle.language.specs.RowPositions.{has_row, rows, roles}
use Rattle.language.specs.Derivation.{Among, first}
use Rattle.language.specs.Layout.{after_part, first_way, next_role}
use Rattle.language.specs.Printed.{lead_open, open_in, parts_open}
use Rattle.language.proofs.lower_bound.Domination.{ways_of, settled}
use Rattle.language.proofs.lower_bound.Domination.{fits as fits_at}
use Rattle.language.proofs.table.Alike.{standing_at}
use Rattle.language.proofs.layout.PrintedSpells.{has_no_never, way_runs}
use Rattle.language.proofs.table.NeatPieces.{Touch, fresh, neat, takes_token, behind_token, takes_part, behind_part as touch_behind, slot_sort, takes_sign, is_loose, takes_space, takes_line, goes_on_here, no_pieces, solid, apart_from, signed, closed, is_item_touch, goes_behind, takes_joined, echo_followed, loose_first, broken, takes_apart, takes_loose}
use Rattle.language.proofs.table.NeatExpressions.{Neat, no_spelling, a_spelling}
use Rattle.language.proofs.table.NeatTable.{table_neat}
use Rattle.std.specs.Prelude.{◌||◌}
use Rattle.language.specs.Vocabulary.{is}

-- parameters stand open, or don't; each way closes what it opens
abbrev pub nested : Bool → List (PieceOf Role) → Bool
nested o [] = not o
nested o (open_parameters ∷ qs) = not o && nested true qs
nested o (close_parameters ∷ qs) = o && nested false qs
nested o (never ∷ qs) = true
nested o (q ∷ qs) = nested o qs

neat_nested : (a : Role) (b o : Bool) (s : Touch) (qs : List Piece) → neat b o s qs ≡ true → nested o (standing_at a qs) ≡ true
neat_nested a b o s [] h = (and_parts (is_item_touch s) (not o) h).1
neat_nested a b o s (tok c w ∷ qs) h = neat_nested a b o (behind_token c w) qs (and_parts (goes_behind c w qs) _ (and_parts (takes_token s c w) _ h).1).1
neat_nested a b o s (may w ∷ qs) h = neat_nested a b o s qs h
neat_nested a b o s (many w ∷ qs) h = neat_nested a b o s qs h
neat_nested a b o s (ahead w ∷ qs) h = absurd (false≢true h)
neat_nested a b o s (unbroken ∷ qs) h = neat_nested a b o s qs (and_parts (goes_on_here qs) _ (and_parts (takes_joined s) _ h).1).1
neat_nested a b o s (no_operand ∷ qs) h = neat_nested a b o s qs (and_parts (no_pieces qs) _ h).1
neat_nested a b o s (ending e ∷ qs) h = neat_nested a b o solid qs (and_parts (takes_sign s _) _ h).1
neat_nested a b true s (open_parameters ∷ qs) h = absurd (false≢true h)
neat_nested a b false s (open_parameters ∷ qs) h = neat_nested a b true solid qs (and_parts (is_loose s) _ h).1
neat_nested a b true s (close_parameters ∷ qs) h = neat_nested a b false solid qs (and_parts (takes_sign s _) _ h).1
neat_nested a b false s (close_parameters ∷ qs) h = absurd (false≢true h)
neat_nested a b o s (sub x ∷ qs) h = neat_nested a true o (touch_behind b (slot_sort x)) qs (and_parts (echo_followed (slot_sort x) qs) _ (and_parts (takes_part s (slot_sort x)) _ h).1).1
neat_nested a b o s (absent ∷ qs) h = neat_nested a true o s qs (and_parts (not (loose_first qs)) _ h).1
neat_nested a b o s (never ∷ qs) h = refl
neat_nested a b o s (lay space ∷ qs) h = neat_nested a b o apart_from qs (and_parts (takes_space s) _ h).1
neat_nested a b o s (lay line ∷ qs) h = neat_nested a b o broken qs (and_parts (takes_line s) _ h).1
neat_nested a b o s (lay feed ∷ qs) h = neat_nested a b o broken qs (and_parts (takes_line s) _ h).1
neat_nested a b o s (lay (apart c) ∷ qs) h = neat_nested a b o signed qs (and_parts (takes_apart s) _ h).1
neat_nested a b o s (lay loose ∷ qs) h = neat_nested a b o closed qs (and_parts (takes_loose s) _ h).1
neat_nested a b o s (lay deeper ∷ qs) h = neat_nested a b o s qs h
neat_nested a b o s (lay shallower ∷ qs) h = neat_nested a b o s qs h

first_of_neat : (a : Role) {b : Bool} {xs : List Spelling} → Neat b xs → nested false (first_way (ways_of a xs)) ≡ true
first_of_neat a no_spelling = refl
first_of_neat a {b} (a_spelling {x = x} {xs = xs} h k) = go (fits_at a x) (first_of_neat a k)
  where
    go : (t : Bool) → nested false (first_way (ways_of a xs)) ≡ true → nested false (first_way (map (settled a) (cond t (x ∷ filter (fits_at a) xs) (filter (fits_at a) xs)))) ≡ true
    go true others = neat_nested a b false fresh x.pieces h
    go false others = others

pub way_nested : (a : Role) (n : Tree) → nested false (first_way (ways a n)) ≡ true
unfolding ways ways_bare spellings
way_nested a n = go (is_lean (bare n))
  where
    -- a script's statements, and the end
    script_nested : (b : Bool) (ps : Parts) → nested false (standing_at script (prologue false b [] (lay feed ∷ []) ps ++ tok End [] ∷ [])) ≡ true
    script_nested b none = refl
    script_nested b (gap ps) = refl
    script_nested b (part m ps) = script_nested (b && is_directive m) ps

    module_nested : (b : Bool) (ps : Parts) → nested false (standing_at script (module_prologue b ps ++ tok End [] ∷ [])) ≡ true
    module_nested b none = refl
    module_nested b (gap ps) = refl
    module_nested b (part m ps) = module_nested (b && is_directive m) ps

    of : (a : Role) (m : Tree) → nested false (first_way (ways_of a (spellings a m))) ≡ true
    of shorthand_key (node kind.Identifier w g s e ps) = refl
    of shorthand_key (node _ w g s e ps) = refl
    of script (node kind.Program w g s e ps) = by_text (is_empty w || is w "2022") (is w "module")
      where
        one_nested : (x : Spelling) → nested false (standing_at script x.pieces) ≡ true → nested false (first_way (ways_of script (x ∷ []))) ≡ true
        one_nested x h = of_one (fits_at script x)
          where
            of_one : (t : Bool) → nested false (first_way (map (settled script) (cond t (x ∷ []) []))) ≡ true
            of_one true = h
            of_one false = refl

        by_text : (t u : Bool) → nested false (first_way (ways_of script (cond t (only (prologue false true [] (lay feed ∷ []) ps ++ tok End [] ∷ [])) (cond u (only (module_prologue true ps ++ tok End [] ∷ [])) [])))) ≡ true
        by_text true u = one_nested (at Primary (prologue false true [] (lay feed ∷ []) ps ++ tok End [] ∷ [])) (script_nested true ps)
        by_text false true = one_nested (at Primary (module_prologue true ps ++ tok End [] ∷ [])) (module_nested true ps)
        by_text false false = refl
    of script (node _ w g s e ps) = refl
    of a m = first_of_neat a (table_neat a m refl)

    go : (t : Bool) → nested false (first_way (cond t (ways_of a (spellings a (bare n))) [])) ≡ true
    go false = refl
    go true = of a (bare n)

first_runs : (a : Role) (n : Tree) → has_no_never (first_way (ways a n)) ≡ true
first_runs a n = go (ways a n) (λ qs h. way_runs a n h)
  where
    go : (qss : List (List (PieceOf Role))) → ((qs : List (PieceOf Role)) → Among qs qss → has_no_never qs ≡ true) → has_no_never (first_way qss) ≡ true
    go [] f = refl
    go (qs ∷ qss) f = f qs first

behind_runs : (qs : List (PieceOf Role)) → has_no_never qs ≡ true → has_no_never (after_part qs) ≡ true
behind_runs [] h = refl
behind_runs (tok c w ∷ qs) h = behind_runs qs h
behind_runs (may w ∷ qs) h = behind_runs qs h
behind_runs (many w ∷ qs) h = behind_runs qs h
behind_runs (ahead w ∷ qs) h = behind_runs qs h
behind_runs (unbroken ∷ qs) h = behind_runs qs h
behind_runs (no_operand ∷ qs) h = behind_runs qs h
behind_runs (ending e ∷ qs) h = behind_runs qs h
behind_runs (open_parameters ∷ qs) h = behind_runs qs h
behind_runs (close_parameters ∷ qs) h = behind_runs qs h
behind_runs (sub x ∷ qs) h = h
behind_runs (absent ∷ qs) h = h
behind_runs (never ∷ qs) h = absurd (false≢true h)
behind_runs (lay x ∷ qs) h = behind_runs qs h

-- with one more where parameters may still be opened
abbrev room : Bool → ℕ → ℕ
room o m = cond o m (suc m)

lead_bound : (qs : List (PieceOf Role)) (o : Bool) (k m : ℕ) → nested o qs ≡ true → has_no_never qs ≡ true → ((b : Bool) → nested b (after_part qs) ≡ true → k ≤ room b m) → lead_open qs k ≤ room o m
lead_bound [] true k m h r f = absurd (false≢true h)
lead_bound [] false k m h r f = f false refl
lead_bound (tok c w ∷ qs) o k m h r f = lead_bound qs o k m h r f
lead_bound (may w ∷ qs) o k m h r f = lead_bound qs o k m h r f
lead_bound (many w ∷ qs) o k m h r f = lead_bound qs o k m h r f
lead_bound (ahead w ∷ qs) o k m h r f = lead_bound qs o k m h r f
lead_bound (unbroken ∷ qs) o k m h r f = lead_bound qs o k m h r f
lead_bound (no_operand ∷ qs) o k m h r f = lead_bound qs o k m h r f
lead_bound (ending e ∷ qs) o k m h r f = lead_bound qs o k m h r f
lead_bound (open_parameters ∷ qs) true k m h r f = absurd (false≢true h)
lead_bound (open_parameters ∷ qs) false k m h r f = let x = lead_bound qs true k m h r f in omega (arith, x)
lead_bound (close_parameters ∷ qs) true k m h r f = below (lead_open qs k) (lead_bound qs false k m h r f)
  where
    below : (i : ℕ) → i ≤ suc m → pred i ≤ m
    below zero l = omega arith
    below (suc i) l = omega (arith, l)
lead_bound (close_parameters ∷ qs) false k m h r f = absurd (false≢true h)
lead_bound (sub x ∷ qs) o k m h r f = f o h
lead_bound (absent ∷ qs) o k m h r f = f o h
lead_bound (never ∷ qs) o k m h r f = absurd (false≢true r)
lead_bound (lay x ∷ qs) o k m h r f = lead_bound qs o k m h r f

room_least : (b : Bool) (m : ℕ) → m ≤ room b m
room_least true m = omega arith
room_least false m = omega arith

both_below : (b : Bool) (x y m i j : ℕ) → x ≤ i → y ≤ room b j → i ≤ m → j ≤ m → max x y ≤ room b m
both_below true x y m i j h k l p = omega (arith, h, k, l, p)
both_below false x y m i j h k l p = omega (arith, h, k, l, p)

module _ (W : ℕ → Bool) where
  node_open : (t : Bool) (x y h : ℕ) → x ≤ suc (h + h) → y ≤ suc (h + h) → cond t (suc x) y ≤ suc h + suc h
  node_open true x y h k l = omega (arith, k)
  node_open false x y h k l = omega (arith, l)

  mutual
    unfolding open_in parts_open

    pub open_bound : (n : Tree) (a : Role) (r : ℕ) → open_in W n a r ≤ height n + height n
    open_bound (node k w g s e ps) a r =
        let n = node k w g s e ps in
        node_open (nat_eq (has_row a) 1 && W r) _ _ (parts_height ps)
        (parts_open_bound ps (first_way (ways (expr Expression true Any) n)) false (suc r) (way_nested (expr Expression true Any) n) (first_runs (expr Expression true Any) n))
        (parts_open_bound ps (first_way (ways a n)) false (has_row a + r) (way_nested a n) (first_runs a n))

    pub parts_open_bound : (ps : Parts) (qs : List (PieceOf Role)) (o : Bool) (r : ℕ) → nested o qs ≡ true → has_no_never qs ≡ true → parts_open W ps qs r ≤ room o (parts_height ps + parts_height ps)
    parts_open_bound none qs o r h k = lead_bound qs o 0 0 h k (λ b x. room_least b 0)
    parts_open_bound (gap ps) qs o r h k = lead_bound qs o _ _ h k (λ b x. parts_open_bound ps (after_part qs) b r x (behind_runs qs k))
    parts_open_bound (part n ps) qs o r h k =
        let a = next_role (roles qs) in
        lead_bound qs o _ _ h k (λ b x. both_below b _ _ (max (height n) (parts_height ps) + max (height n) (parts_height ps)) (height n + height n) (parts_height ps + parts_height ps)
        (open_bound n a r) (parts_open_bound ps (after_part qs) b (r + rows n a) x (behind_runs qs k)) (omega arith) (omega arith))
