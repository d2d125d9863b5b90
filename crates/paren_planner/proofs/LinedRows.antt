-- The rows of a node that stands as its position asks are those of the position.
use Rattle.std.proofs.Common.{◌≡◌, ◌+◌, Bool, true, false, cond, List, [], ◌∷◌, length, refl, sym, ap, ap₂, ◌∙◌, arith, length-append}
use Rattle.std.specs.Prelude.{◌&&◌, map, filter}
use Rattle.std.proofs.lemmas.Bool.{and_parts, false≢true}
use Rattle.tree.specs.Tree.{Tree, node, Parts, none, part, gap, kind_of, bare_parts}
use Rattle.tree.specs.Uses.{is_lean}
use Rattle.tree.specs.NodeUses.{rows_in}
use Rattle.tree.specs.declared.kind.Kind.{Kind}
use Rattle.tree.specs.declared.kind.Kind.TheVariants as kind
use Rattle.tree.specs.declared.node_use.NodeUse.{NodeUse}
use Rattle.language.specs.declared.Rank.TheVariants.{Expression}
use Rattle.language.specs.declared.Start.{Start}
use Rattle.language.specs.declared.Start.TheVariants.{Any}
use Rattle.language.specs.Pieces.{Role, expr, chain_part, pattern, Piece, sub, settle_piece, Spelling}
use Rattle.language.specs.Grammar.{ways, ways_bare, spellings, patterns, starts, can_run}
use Rattle.language.specs.RowPositions.{roles, first_roles, widest, rows, parts_rows}
use Rattle.language.specs.Layout.{some_way, first_way}
use Rattle.language.specs.LayoutFits.{lines_up}
use Rattle.language.specs.Claims.{row_nodes, parts_row_nodes}
use Rattle.language.proofs.lower_bound.Domination.{settled, ways_of}
use Rattle.row_laws.specs.Agreements.{agrees}
use Rattle.row_laws.specs.Lined.{leads, lined, parts_lined}
use Rattle.row_laws.proofs.Walk.{node_rowed}
use Rattle.row_laws.proofs.WidestRows.{parts_rows-widest, settle-widest}

-- Rows don't depend on a start

abbrev roles_from : Start → List Piece → List Role
roles_from f qs = roles (map (settle_piece Expression true f) qs)

roles-widest : (f g : Start) (qs : List Piece) → map widest (roles_from f qs) ≡ map widest (roles_from g qs)
roles-widest f g [] = refl
roles-widest f g (sub s ∷ qs) = ap₂ (λ u v. u ∷ v) (settle-widest Expression Expression true true f g s) (roles-widest f g qs)
roles-widest f g (_ ∷ qs) = roles-widest f g qs

same_rows : (f g : Start) (ps : Parts) (qs : List Piece) → parts_rows ps (roles_from f qs) ≡ parts_rows ps (roles_from g qs)
same_rows f g ps qs = parts_rows-widest ps (roles_from f qs) ∙ ap (parts_rows ps) (roles-widest f g qs) ∙ sym (parts_rows-widest ps (roles_from g qs))

-- at a part of a chain
chain_rows : (f : Start) (n : Tree) (ps : Parts) → parts_rows ps (first_roles (ways (chain_part f) n)) ≡ parts_rows ps (first_roles (ways (chain_part Any) n))
unfolding ways ways_bare spellings
chain_rows f (node k w g s e qs) ps = of (is_lean (node k w g 0 0 (bare_parts qs)))
  where
    first : (xs : List Spelling) → parts_rows ps (first_roles (map (settled (chain_part f)) xs)) ≡ parts_rows ps (first_roles (map (settled (chain_part Any)) xs))
    first [] = refl
    first (x ∷ xs) = same_rows f Any ps x.pieces

    of : (v : Bool) → parts_rows ps (first_roles (cond v (ways_of (chain_part f) (spellings (chain_part f) (node k w g 0 0 (bare_parts qs)))) [])) ≡ parts_rows ps (first_roles (cond v (ways_of (chain_part Any) (spellings (chain_part Any) (node k w g 0 0 (bare_parts qs)))) []))
    of true = first (filter (λ x. true && can_run x.pieces) (spellings (chain_part Any) (node k w g 0 0 (bare_parts qs))))
    of false = refl

-- at a pattern, of which there is one spelling at most
abbrev is_one : List Spelling → Bool
is_one (x ∷ y ∷ zs) = false
is_one xs = true

one_pattern : (b : Bool) (k : Kind) (ps : Parts) → is_one (patterns b k ps) ≡ true
one_pattern b kind.ArrayPattern ps = refl
one_pattern b kind.ObjectPattern ps = refl
one_pattern b _ ps = refl

pattern_rows : (b : Bool) (f : Start) (n : Tree) (ps : Parts) → some_way (ways (pattern b f) n) ≡ true → parts_rows ps (first_roles (ways (pattern b f) n)) ≡ parts_rows ps (first_roles (ways (pattern b Any) n))
unfolding ways ways_bare spellings
pattern_rows b f (node k w g s e qs) ps h = of (is_lean (node k w g 0 0 (bare_parts qs))) h
  where
    one : (x : Spelling) (u v : Bool) → some_way (map (settled (pattern b f)) (cond (u && v) (x ∷ []) [])) ≡ true →
        parts_rows ps (first_roles (map (settled (pattern b f)) (cond (u && v) (x ∷ []) []))) ≡ parts_rows ps (first_roles (map (settled (pattern b Any)) (cond v (x ∷ []) [])))
    one x true true h = same_rows f Any ps x.pieces
    one x true false h = refl
    one x false v h = absurd (false≢true h)

    first : (xs : List Spelling) → is_one xs ≡ true → some_way (ways_of (pattern b f) xs) ≡ true → parts_rows ps (first_roles (ways_of (pattern b f) xs)) ≡ parts_rows ps (first_roles (ways_of (pattern b Any) xs))
    first [] l h = refl
    first (x ∷ []) l h = one x (starts f x.pieces) (can_run x.pieces) h
    first (x ∷ y ∷ zs) l h = absurd (false≢true l)

    of : (v : Bool) → some_way (cond v (ways_of (pattern b f) (patterns b k (bare_parts qs))) []) ≡ true →
        parts_rows ps (first_roles (cond v (ways_of (pattern b f) (patterns b k (bare_parts qs))) [])) ≡ parts_rows ps (first_roles (cond v (ways_of (pattern b Any) (patterns b k (bare_parts qs))) []))
    of true h = first (patterns b k (bare_parts qs)) (one_pattern b k (bare_parts qs)) h
    of false h = refl

-- The nodes with rows are as many

mutual
  unfolding lined parts_lined row_nodes parts_row_nodes rows parts_rows

  nodes_counted : (n : Tree) (a : Role) → lined n a ≡ true → length (row_nodes n a) ≡ rows n a
  nodes_counted (node k w g s e ps) (expr y i f) h =
      let l = and_parts (leads (ways (expr Expression true Any) (node k w g s e ps)) ps) (parts_lined ps (first_roles (ways (expr Expression true Any) (node k w g s e ps)))) h in
      let u = parts_counted ps (first_roles (ways (expr Expression true Any) (node k w g s e ps))) l.1 in
      omega (arith, u)
  nodes_counted (node k w g s e ps) (chain_part f) h =
      let l = and_parts (leads (ways (chain_part f) (node k w g s e ps)) ps) (parts_lined ps (first_roles (ways (chain_part f) (node k w g s e ps)))) h in
      let u = parts_counted ps (first_roles (ways (chain_part f) (node k w g s e ps))) l.1 ∙ chain_rows f (node k w g s e ps) ps in
      omega (arith, u)
  nodes_counted (node k w g s e ps) (pattern b f) h =
      let l = and_parts (leads (ways (pattern b f) (node k w g s e ps)) ps) (parts_lined ps (first_roles (ways (pattern b f) (node k w g s e ps)))) h in
      let way = and_parts (some_way (ways (pattern b f) (node k w g s e ps))) (lines_up (first_way (ways (pattern b f) (node k w g s e ps))) ps) l.0 in
      let u = parts_counted ps (first_roles (ways (pattern b f) (node k w g s e ps))) l.1 ∙ pattern_rows b f (node k w g s e ps) ps way.0 in
      omega (arith, u)
  nodes_counted (node k w g s e ps) a h =
      let l = and_parts (leads (ways a (node k w g s e ps)) ps) (parts_lined ps (first_roles (ways a (node k w g s e ps)))) h in
      let u = parts_counted ps (first_roles (ways a (node k w g s e ps))) l.1 in
      omega (arith, u)

  parts_counted : (ps : Parts) (xs : List Role) → parts_lined ps xs ≡ true → length (parts_row_nodes ps xs) ≡ parts_rows ps xs
  parts_counted none xs h = refl
  parts_counted (gap ps) xs h = parts_counted ps xs h
  parts_counted (part n ps) [] h = absurd (false≢true h)
  parts_counted (part n ps) (a ∷ xs) h =
      let l = and_parts (lined n a) (parts_lined ps xs) h in
      length-append (row_nodes n a) (parts_row_nodes ps xs) ∙ ap₂ (λ u v. u + v) (nodes_counted n a l.0) (parts_counted ps xs l.1)

pub rows_agree : (st : NodeUse) (a : Role) (n : Tree) → agrees st a (kind_of n) ≡ true → lined n a ≡ true → rows_in st n ≡ rows n a
rows_agree st a n h l = (node_rowed st a n h l).count ∙ nodes_counted n a l
