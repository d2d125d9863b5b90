-- What holds of the positions of a way's parts, and of looser ones, holds of the positions that the first way at the widest position names.
use Rattle.std.proofs.Common.{◌≡◌, ℕ, Bool, true, false, cond, List, [], ◌∷◌, refl, sym, subst, ◌⊎◌, inl, inr}
use Rattle.std.specs.Prelude.{IsTrue, map}
use Rattle.std.proofs.lemmas.Bool.{false≢true}
use Rattle.tree.specs.Tree.{Tree, node, parts_of, bare}
use Rattle.tree.specs.Uses.{implies, is_lean}
use Rattle.language.specs.declared.Start.{Start}
use Rattle.language.specs.declared.Start.TheVariants.{Any}
use Rattle.language.specs.Vocabulary.{precedence}
use Rattle.language.specs.Pieces.{Role, expr, chain_part, pattern, PieceOf, Spelling}
use Rattle.language.specs.Grammar.{ways, ways_bare, spellings}
use Rattle.language.specs.Derivation.{Among}
use Rattle.language.specs.RowPositions.{roles, first_roles, widest}
use Rattle.language.specs.Cost.{AtMost, least, parts_least, if_any}
use Rattle.language.proofs.table.Ranks.{looser_all}
use Rattle.language.proofs.table.LooserPositions.{Looser, same, looser, looser_spine, looser_pattern, AllLooser, least-direct}
use Rattle.language.proofs.table.TidyTable.{tidy_table}
use Rattle.language.proofs.lower_bound.Domination.{settled, fits, fits-looser, roles-looser, ways_of, Tidy, none_at_all, one_way, two_ways, Among-one, Among-two, dominated, dominated-list, spellings-looser}

-- a position and a wider one
pub data Widens : Role → Role → Type 0 where
  by_looser : {a c : Role} → Looser a c → Widens a c
  bound_pattern : {f : Start} → Widens (pattern true f) (pattern true Any)

any_in : (b : Bool) → IsTrue (implies b true)
any_in true = refl
any_in false = refl

pub widens_widest : (a b : Role) → Looser a b → Widens a (widest b)
widens_widest (expr y i f) b same = by_looser (looser (looser_all (precedence y)) (any_in i) refl)
widens_widest (chain_part f) b same = by_looser (looser_spine refl)
widens_widest (pattern true f) b same = bound_pattern
widens_widest (pattern false f) b same = by_looser (looser_pattern refl)
widens_widest a b same = by_looser same
widens_widest a b (looser {y = y} {i = i} u v w) = by_looser (looser (looser_all (precedence y)) (any_in i) refl)
widens_widest a b (looser_spine w) = by_looser (looser_spine refl)
widens_widest a b (looser_pattern w) = by_looser (looser_pattern refl)

module _ (Holds : List Role → Type 0) (c : Role) where
  first_holds : (w : Bool) (x : Spelling) (A B : List Spelling) → w ≡ true → Holds (roles (settled c x)) → Holds (first_roles (map (settled c) (cond w (x ∷ A) B)))
  first_holds true x A B p h = h
  first_holds false x A B p h = absurd (false≢true p)

  holds-list : {t : Bool} (xs : List Spelling) → Tidy t xs → (a : Role) (qs : List (PieceOf Role)) → Looser a c → Among qs (ways_of a xs) →
      ((rs : List Role) → AllLooser (roles qs) rs → Holds rs) → Holds (first_roles (ways_of c xs))
  holds-list _ none_at_all a qs l h f = elim h [ ]
  holds-list _ (one_way {x = x} n) a qs l h f =
      let p = Among-one a x (fits a x) refl h in
      first_holds (fits c x) x [] [] (fits-looser x n l p.0) (f _ (subst (λ ys. AllLooser (roles ys) (roles (settled c x))) (sym p.1) (roles-looser x.pieces l)))
  holds-list _ (two_ways {x = x} {y = y} n covers alike) a qs l h f = choose (Among-two a x y (fits a x) (fits a y) refl refl h)
    where
      choose : (IsTrue (fits a x) × (qs ≡ settled a x)) ⊎ (IsTrue (fits a y) × (qs ≡ settled a y)) → Holds (first_roles (ways_of c (x ∷ y ∷ [])))
      choose (inl p) = first_holds (fits c x) x _ _ (fits-looser x n l p.0) (f _ (subst (λ ys. AllLooser (roles ys) (roles (settled c x))) (sym p.1) (roles-looser x.pieces l)))
      choose (inr p) = first_holds (fits c x) x _ _ (covers a c l p.0).0 (f _ (subst (λ ys. AllLooser (roles ys) (roles (settled c x))) (sym p.1) (covers a c l p.0).1))

-- a pattern that binds has the same table at each start
bound_same : (f : Start) (n : Tree) → spellings (pattern true f) n ≡ spellings (pattern true Any) n
unfolding spellings
bound_same f (node k w g s e ps) = refl

pub holds_first : (Holds : List Role → Type 0) (n : Tree) (a c : Role) (qs : List (PieceOf Role)) → Widens a c → Among qs (ways a n) → ((rs : List Role) → AllLooser (roles qs) rs → Holds rs) → Holds (first_roles (ways c n))
unfolding ways ways_bare
holds_first Holds n a c qs (by_looser l) h f = go (is_lean (bare n)) h
  where
    go : (t : Bool) → Among qs (cond t (ways_of a (spellings a (bare n))) []) → Holds (first_roles (cond t (ways_of c (spellings c (bare n))) []))
    go false k = elim k [ ]
    go true k = rw (← spellings-looser a c (bare n) l) (holds-list Holds c (spellings a (bare n)) (tidy_table a (bare n)) a qs l k f)
holds_first Holds n a c qs (bound_pattern {f = g}) h f = go (is_lean (bare n)) h
  where
    go : (t : Bool) → Among qs (cond t (ways_of (pattern true g) (spellings (pattern true g) (bare n))) []) → Holds (first_roles (cond t (ways_of (pattern true Any) (spellings (pattern true Any) (bare n))) []))
    go false k = elim k [ ]
    go true k = rw (← bound_same g (bare n)) (holds-list Holds (pattern false Any) (spellings (pattern true g) (bare n)) (tidy_table (pattern true g) (bare n)) (pattern false g) qs (looser_pattern refl) k f)

-- and a node costs no more there
pub cost_first : (n : Tree) (a c : Role) (qs : List (PieceOf Role)) → Widens a c → Among qs (ways a n) → (m : ℕ) → ((rs : List Role) → AllLooser (roles qs) rs → AtMost (parts_least (parts_of n) rs) m) → AtMost (least n c) m
unfolding ways ways_bare
cost_first n a c qs (by_looser l) h m f = least-direct n c m (dominated tidy_table n a c qs l h m f)
cost_first n a c qs (bound_pattern {f = g}) h m f = least-direct n (pattern true Any) m (go (is_lean (bare n)) h)
  where
    go : (t : Bool) → Among qs (cond t (ways_of (pattern true g) (spellings (pattern true g) (bare n))) []) →
        AtMost (if_any (cond t (ways_of (pattern true Any) (spellings (pattern true Any) (bare n))) []) (parts_least (parts_of n) (first_roles (cond t (ways_of (pattern true Any) (spellings (pattern true Any) (bare n))) [])))) m
    go false k = elim k [ ]
    go true k = rw (← bound_same g (bare n)) (dominated-list (parts_least (parts_of n)) m (pattern false Any) (pattern false Any) (spellings (pattern true g) (bare n)) (tidy_table (pattern true g) (bare n)) (pattern false g) qs (looser_pattern refl) (looser_pattern refl) k f)
