-- Whatever the parts of a node cost at the first way of a looser position, each way of a tighter one costs as much.
use Rattle.std.proofs.Common.{◌≡◌, ℕ, Bool, true, false, cond, List, [], Option, refl, subst}
use Rattle.std.proofs.lemmas.Bool.{false≢true}
use Rattle.tree.specs.Tree.{Tree, bare}
use Rattle.tree.specs.Uses.{is_lean}
use Rattle.language.specs.Pieces.{Role, expr, chain_part, pattern, PieceOf}
use Rattle.language.specs.Grammar.{ways, ways_bare, spellings}
use Rattle.language.specs.RowPositions.{roles, first_roles, widest}
use Rattle.language.specs.Layout.{some_way}
use Rattle.language.specs.Derivation.{Among, first, later}
use Rattle.language.specs.Cost.{AtMost, if_any}
use Rattle.language.proofs.table.LooserPositions.{Looser, AllLooser}
use Rattle.language.proofs.lower_bound.Domination.{ways_of, spellings-looser, dominated-list}
use Rattle.language.proofs.table.TidyTable.{tidy_table}
use Rattle.language.proofs.table.Alike.{Like, same as alike_same, at_expressions, at_chains, at_patterns, AllLike}
use Rattle.language.proofs.layout.DerivedFits.{first_alike}
use Rattle.language.proofs.layout.WrappedRows.{some_widest}

widest_like : (a : Role) → Like false a (widest a)
widest_like (expr y i f) = at_expressions
widest_like (chain_part f) = at_chains
widest_like (pattern b f) = at_patterns
widest_like _ = alike_same

among_some : {qs : List (PieceOf Role)} {qss : List (List (PieceOf Role))} → Among qs qss → some_way qss ≡ true
among_some first = refl
among_some (later h) = refl

-- the positions of the parts are alike from any two positions of one sort
pub parts_alike : (n : Tree) (a b : Role) {qs : List (PieceOf Role)} → Like false a b → Among qs (ways a n) → AllLike false (roles qs) (first_roles (ways (widest b) n))
parts_alike n a b {qs} l h =
    subst (λ c. AllLike false (roles qs) (first_roles (ways c n))) (widest_of l)
    (first_alike {b = false} n (widest_like a) (λ e. absurd (false≢true e)) h (some_widest a n (among_some h))).0
  where
    widest_of : {x y : Role} → Like false x y → widest x ≡ widest y
    widest_of alike_same = refl
    widest_of at_expressions = refl
    widest_of at_chains = refl
    widest_of at_patterns = refl

-- whatever the first way of a position costs by its parts, each way of a tighter one costs as much
pub dominated_at : (n : Tree) (a b c : Role) (qs : List (PieceOf Role)) (cost : List Role → Option ℕ) (m : ℕ) → Looser a b → Looser a c → Among qs (ways a n) →
    ((xs : List Role) → AllLooser (roles qs) xs → AtMost (cost xs) m) → AtMost (if_any (ways b n) (cost (first_roles (ways c n)))) m
unfolding ways ways_bare
dominated_at n a b c qs cost m l k h f = go (is_lean (bare n)) h
  where
    go : (t : Bool) → Among qs (cond t (ways_of a (spellings a (bare n))) []) →
        AtMost (if_any (cond t (ways_of b (spellings b (bare n))) []) (cost (first_roles (cond t (ways_of c (spellings c (bare n))) [])))) m
    go false q = elim q [ ]
    go true q =
        rw (← spellings-looser a b (bare n) l, ← spellings-looser a c (bare n) k)
        (dominated-list cost m b c (spellings a (bare n)) (tidy_table a (bare n)) a qs l k q f)
