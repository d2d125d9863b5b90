-- The items of a script are readable.
use Rattle.std.proofs.Common.{◌≡◌, ℕ, ◌+◌, Bool, true, false, cond, not, ◌&&◌, nat_eq, List, [], ◌∷◌, ◌++◌, refl, sym, ap, ◌∙◌, subst, append_assoc}
use Rattle.std.proofs.lemmas.Bool.{and_parts, false≢true}
use Rattle.tokens.specs.declared.token.TokenClass.TheVariants.{End}
use Rattle.tree.specs.declared.kind.Kind.TheVariants as kind
use Rattle.tree.specs.Tree.{Tree, node, Parts, none, part, gap, bare, bare_parts, kind_of}
use Rattle.tree.specs.Uses.{is_lean, is_empty}
use Rattle.language.specs.Pieces.{Role, script, item, opening, PieceOf, Piece, tok, lay, feed, never, sub, put, Spelling, module_item, only}
use Rattle.language.specs.Grammar.{ways, ways_bare, spellings, can_run}
use Rattle.language.specs.Statements.{prologue, is_directive, module_prologue, is_module_item}
use Rattle.language.specs.RowPositions.{rows, roles, first_roles}
use Rattle.language.specs.Layout.{some_way, first_way}
use Rattle.language.specs.LayoutFits.{lines_up, fits, parts_fit}
use Rattle.language.specs.Readable.{joins_none}
use Rattle.language.specs.Printed.{Item, blank, items_text, printed, parts_printed}
use Rattle.language.proofs.layout.ReadItems.{Readable, ends, a_word, a_gap, end_apart}
use Rattle.language.proofs.table.Alike.{standing_at}
use Rattle.language.proofs.table.NeatTable.{is_plain}
use Rattle.language.proofs.table.TreesOfWords.{PieceWords, Worded, PartsWorded}
use Rattle.language.proofs.table.FirstWords.{starts_on, starts_free}
use Rattle.language.proofs.table.BeginsNodes.{node_starts}
use Rattle.language.proofs.layout.WalkPieces.{line_gap, line_precedes}
use Rattle.language.proofs.layout.WalkNodes.{node_walk}
use Rattle.language.proofs.table.NodeEnds.{node_ends}
use Rattle.language.proofs.table.NodeFronts.{node_fronts}
use Rattle.std.specs.Prelude.{◌||◌}
use Rattle.language.specs.Vocabulary.{is}
use Rattle.language.proofs.lower_bound.Domination.{ways_of}

abbrev pub statements_then_end : Bool → Parts → List Piece
statements_then_end b ps = prologue false b [] (lay feed ∷ []) ps ++ tok End [] ∷ []

abbrev pub module_then_end : Bool → Parts → List Piece
module_then_end b ps = module_prologue b ps ++ tok End [] ∷ []

-- the position of a module's item
abbrev item_role : Bool → Bool → Role
item_role t b = cond t module_item (cond b (opening false) (item false))

item_plain : (t b : Bool) → is_plain (item_role t b) ≡ true
item_plain true b = refl
item_plain false true = refl
item_plain false false = refl

item_sort : (t b : Bool) → Rattle.language.proofs.table.NeatPieces.sort_of (item_role t b) ≡ Rattle.language.proofs.table.NeatPieces.another
item_sort true b = refl
item_sort false true = refl
item_sort false false = refl

module _ (W : ℕ → Bool) where
  -- what stands behind a statement is on a line of its own
  record Lines (is : List Item) : Type 0 where
    readable : Readable is
    free : joins_none is ≡ true

  a_statement : (n : Tree) (a : Role) (r d : ℕ) (rest : List Item) → is_plain a ≡ true → Rattle.language.proofs.table.NeatPieces.sort_of a ≡ Rattle.language.proofs.table.NeatPieces.another → fits W n a r ≡ true → Worded W n a r → Lines rest → Lines (printed W n a r d ++ (blank (10 ∷ []) ∷ rest))
  a_statement n a r d rest p sort f w x = record {
    readable = node_walk W node_ends (node_fronts W) n a r d (blank (10 ∷ []) ∷ rest) p f w (a_gap (line_gap 0) (line_precedes (10 ∷ []) rest x.free) x.readable)
        (λ h. subst (λ z. Rattle.language.proofs.layout.WalkNodes.After z (Rattle.language.proofs.layout.WalkNodes.is_open_node n) (10 ∷ items_text rest) ≡ true) (sym sort) refl);
    free = starts_free (starts_on (blank (10 ∷ []) ∷ rest) (node_starts W n a r d p f w));
  }

  feed_first : (ps : Parts) (qs : List (PieceOf Role)) (r d : ℕ) (t : Bool) → parts_printed W ps (lay feed ∷ qs) r d t ≡ blank (10 ∷ []) ∷ parts_printed W ps qs r d t
  unfolding parts_printed
  feed_first none qs r d t = refl
  feed_first (gap ps) qs r d t = refl
  feed_first (part n ps) qs r d t = refl

  -- a statement, and those behind it
  next_statement : (n : Tree) (ps : Parts) (a : Role) (qs : List Piece) (r d : ℕ) (t : Bool) → is_plain a ≡ true → Rattle.language.proofs.table.NeatPieces.sort_of a ≡ Rattle.language.proofs.table.NeatPieces.another → fits W n a r ≡ true → Worded W n a r →
      Lines (parts_printed W ps (standing_at script qs) (r + rows n a) d t) → Lines (printed W n a r d ++ parts_printed W ps (lay feed ∷ standing_at script qs) (r + rows n a) d t)
  next_statement n ps a qs r d t p sort f w x = subst (λ is. Lines (printed W n a r d ++ is)) (sym (feed_first ps (standing_at script qs) (r + rows n a) d t)) (a_statement n a r d _ p sort f w x)

  statements : (b : Bool) (ps qs : Parts) (r d : ℕ) (t : Bool) → can_run (statements_then_end b qs) ≡ true → lines_up (standing_at script (statements_then_end b qs)) ps ≡ true →
      parts_fit W ps (roles (standing_at script (statements_then_end b qs))) r ≡ true → PartsWorded W ps (roles (standing_at script (statements_then_end b qs))) r →
      Lines (parts_printed W ps (standing_at script (statements_then_end b qs)) r d t)
  unfolding parts_fit PartsWorded parts_printed
  statements b none none r d t k l f w = record { readable = a_word end_apart ends; free = refl }
  statements true (part n ps) (part m qs) r d t k l f w =
      let u = and_parts (fits W n (opening false) r) _ f in
      next_statement n ps (opening false) (statements_then_end (is_directive m) qs) r d (not (W r)) refl refl u.0 w.0 (statements (is_directive m) ps qs (r + rows n (opening false)) d (not (W r)) k l u.1 w.1.1)
  statements false (part n ps) (part m qs) r d t k l f w =
      let u = and_parts (fits W n (item false) r) _ f in
      next_statement n ps (item false) (statements_then_end false qs) r d (not (W r)) refl refl u.0 w.0 (statements false ps qs (r + rows n (item false)) d (not (W r)) k l u.1 w.1.1)
  statements b none (part m qs) r d t k l f w = absurd (false≢true l)
  statements b none (gap qs) r d t k l f w = absurd (false≢true k)
  statements b (part n ps) none r d t k l f w = absurd (false≢true l)
  statements b (part n ps) (gap qs) r d t k l f w = absurd (false≢true k)
  statements b (gap ps) none r d t k l f w = absurd (false≢true l)
  statements b (gap ps) (part m qs) r d t k l f w = absurd (false≢true l)
  statements b (gap ps) (gap qs) r d t k l f w = absurd (false≢true k)

  items : (b : Bool) (ps qs : Parts) (r d : ℕ) (t : Bool) → can_run (module_then_end b qs) ≡ true → lines_up (standing_at script (module_then_end b qs)) ps ≡ true →
      parts_fit W ps (roles (standing_at script (module_then_end b qs))) r ≡ true → PartsWorded W ps (roles (standing_at script (module_then_end b qs))) r →
      Lines (parts_printed W ps (standing_at script (module_then_end b qs)) r d t)
  unfolding parts_fit PartsWorded parts_printed
  items b none none r d t k l f w = record { readable = a_word end_apart ends; free = refl }
  items b (part n ps) (part m qs) r d t k l f w =
      let a = item_role (is_module_item (kind_of m)) b in
      let u = and_parts (fits W n a r) _ f in
      next_statement n ps a (module_then_end (b && is_directive m) qs) r d (not (W r)) (item_plain (is_module_item (kind_of m)) b) (item_sort (is_module_item (kind_of m)) b) u.0 w.0 (items (b && is_directive m) ps qs (r + rows n a) d (not (W r)) k l u.1 w.1.1)
  items b none (part m qs) r d t k l f w = absurd (false≢true l)
  items b none (gap qs) r d t k l f w = absurd (false≢true k)
  items b (part n ps) none r d t k l f w = absurd (false≢true l)
  items b (part n ps) (gap qs) r d t k l f w = absurd (false≢true k)
  items b (gap ps) none r d t k l f w = absurd (false≢true l)
  items b (gap ps) (part m qs) r d t k l f w = absurd (false≢true l)
  items b (gap ps) (gap qs) r d t k l f w = absurd (false≢true k)

-- one way, where its pieces can run
abbrev one_way : List Piece → Bool → List (List (PieceOf Role))
one_way qs c = Rattle.std.proofs.Common.map (Rattle.language.proofs.lower_bound.Domination.settled script) (cond c (Rattle.language.specs.Pieces.at Rattle.language.specs.declared.Rank.TheVariants.Primary qs ∷ []) [])

-- those of a Program, by its text
abbrev program_ways : Bool → Bool → Bool → Parts → List (List (PieceOf Role))
program_ways t a b ps = cond t (cond a (one_way (statements_then_end true (bare_parts ps)) (can_run (statements_then_end true (bare_parts ps)))) (cond b (one_way (module_then_end true (bare_parts ps)) (can_run (module_then_end true (bare_parts ps)))) [])) []

ways_are : (t a b : Bool) (ps : Parts) → cond t (ways_of script (cond a (only (statements_then_end true (bare_parts ps))) (cond b (only (module_then_end true (bare_parts ps))) []))) [] ≡ program_ways t a b ps
ways_are true true b ps = refl
ways_are true false true ps = refl
ways_are true false false ps = refl
ways_are false a b ps = refl

-- the items of a Program that can be laid out, with words as its tokens
pub script_readable : (W : ℕ → Bool) (n : Tree) → fits W n script 1 ≡ true → Worded W n script 1 → Readable (printed W n script 1 0)
unfolding fits Worded printed ways ways_bare spellings
script_readable W (node kind.Program w g s e ps) f x =
    subst (λ z. Readable (parts_printed W ps (first_way z) 1 0 false)) (sym given)
    (lean (is_lean (bare (node kind.Program w g s e ps))) (is_empty w || is w "2022") (is w "module")
    (subst (λ z. (some_way z && (lines_up (first_way z) ps && parts_fit W ps (first_roles z) 1)) ≡ true) given f)
    (subst (λ z. PieceWords (first_way z) × PartsWorded W ps (first_roles z) 1) given x))
  where
    given : ways script (node kind.Program w g s e ps) ≡ program_ways (is_lean (bare (node kind.Program w g s e ps))) (is_empty w || is w "2022") (is w "module") ps
    given = ways_are (is_lean (bare (node kind.Program w g s e ps))) (is_empty w || is w "2022") (is w "module") ps

    scripted : (c : Bool) → can_run (statements_then_end true (bare_parts ps)) ≡ c → (some_way (one_way (statements_then_end true (bare_parts ps)) c) && (lines_up (first_way (one_way (statements_then_end true (bare_parts ps)) c)) ps && parts_fit W ps (first_roles (one_way (statements_then_end true (bare_parts ps)) c)) 1)) ≡ true →
        PieceWords (first_way (one_way (statements_then_end true (bare_parts ps)) c)) × PartsWorded W ps (first_roles (one_way (statements_then_end true (bare_parts ps)) c)) 1 → Readable (parts_printed W ps (first_way (one_way (statements_then_end true (bare_parts ps)) c)) 1 0 false)
    scripted true k f x = let u = and_parts (lines_up (standing_at script (statements_then_end true (bare_parts ps))) ps) _ f in (statements W true ps (bare_parts ps) 1 0 false k u.0 u.1 x.1).readable
    scripted false k f x = absurd (false≢true f)

    moduled : (c : Bool) → can_run (module_then_end true (bare_parts ps)) ≡ c → (some_way (one_way (module_then_end true (bare_parts ps)) c) && (lines_up (first_way (one_way (module_then_end true (bare_parts ps)) c)) ps && parts_fit W ps (first_roles (one_way (module_then_end true (bare_parts ps)) c)) 1)) ≡ true →
        PieceWords (first_way (one_way (module_then_end true (bare_parts ps)) c)) × PartsWorded W ps (first_roles (one_way (module_then_end true (bare_parts ps)) c)) 1 → Readable (parts_printed W ps (first_way (one_way (module_then_end true (bare_parts ps)) c)) 1 0 false)
    moduled true k f x = let u = and_parts (lines_up (standing_at script (module_then_end true (bare_parts ps))) ps) _ f in (items W true ps (bare_parts ps) 1 0 false k u.0 u.1 x.1).readable
    moduled false k f x = absurd (false≢true f)

    lean : (t a b : Bool) → (some_way (program_ways t a b ps) && (lines_up (first_way (program_ways t a b ps)) ps && parts_fit W ps (first_roles (program_ways t a b ps)) 1)) ≡ true →
        PieceWords (first_way (program_ways t a b ps)) × PartsWorded W ps (first_roles (program_ways t a b ps)) 1 → Readable (parts_printed W ps (first_way (program_ways t a b ps)) 1 0 false)
    lean true true b f x = scripted (can_run (statements_then_end true (bare_parts ps))) refl f x
    lean true false true f x = moduled (can_run (module_then_end true (bare_parts ps))) refl f x
    lean true false false f x = absurd (false≢true f)
    lean false a b f x = absurd (false≢true f)
script_readable W (node _ w g s e ps) f x = absurd (no_way _ _ f)
  where
    no_way : (t y : Bool) → (some_way (cond {A = List (List (PieceOf Role))} t [] []) && y) ≡ true → ⊥
    no_way true y h = false≢true h
    no_way false y h = false≢true h
