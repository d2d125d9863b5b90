-- No text derives a tree with fewer pairs than its cost.
use Rattle.std.proofs.Common.{◌≡◌, ℕ, List, ◌∷◌, [], length, refl, sym, ap, ◌∙◌, subst, Bool}
use Rattle.tree.specs.declared.kind.Pair.{Pair}
use Rattle.tree.specs.Tree.{Tree, node, Parts, none, part, gap, bare, bare_parts, SameTree}
use Rattle.language.specs.Pieces.{Role, expr, script}
use Rattle.language.specs.Token.{Token}
use Rattle.language.specs.Grammar.{ways, ways_bare}
use Rattle.language.specs.RowPositions.{first_roles}
use Rattle.language.specs.Cursor.{Next, behind}
use Rattle.language.specs.Derivation.{Spells}
use Rattle.tokens.specs.Reading.{any_goal}
use Rattle.language.specs.Places.{NextIn, itself}
use Rattle.language.specs.declared.Language.{Language}
use Rattle.language.specs.Languages.{DerivesIn, Seen, seen_in}
use Rattle.language.specs.Cost.{AtMost, least, parts_least, cell_position, add_cost}
use Rattle.language.specs.Claims.{Derives}
use Rattle.language.proofs.lower_bound.LowerBound.{at_least}

mutual
  pub bare_bare : (n : Tree) → bare (bare n) ≡ bare n
  bare_bare (node k w g s e ps) = ap (λ x. node k w g 0 0 x) (bare_bare_parts ps)

  pub bare_bare_parts : (ps : Parts) → bare_parts (bare_parts ps) ≡ bare_parts ps
  bare_bare_parts none = refl
  bare_bare_parts (part n ps) = λ i. part (bare_bare n i) (bare_bare_parts ps i)
  bare_bare_parts (gap ps) = ap gap (bare_bare_parts ps)

pub ways-bare : (a : Role) (n : Tree) → ways a (bare n) ≡ ways a n
unfolding ways
ways-bare a n = ap (ways_bare a) (bare_bare n)

mutual
  unfolding least parts_least

  pub least-bare : (n : Tree) (a : Role) → least (bare n) a ≡ least n a
  least-bare (node k w g s e ps) (expr y i f) = rw (ways-bare (expr y i f) (node k w g s e ps), ways-bare (expr Rattle.language.specs.declared.Rank.TheVariants.Expression Bool.true Rattle.language.specs.declared.Start.TheVariants.Any) (node k w g s e ps), ways-bare (cell_position (expr y i f)) (node k w g s e ps), parts_least-bare ps (first_roles (ways (cell_position (expr y i f)) (node k w g s e ps))), parts_least-bare ps (first_roles (ways (expr Rattle.language.specs.declared.Rank.TheVariants.Expression Bool.true Rattle.language.specs.declared.Start.TheVariants.Any) (node k w g s e ps)))) refl
  least-bare (node k w g s e ps) a = rw (ways-bare a (node k w g s e ps), parts_least-bare ps) refl

  pub parts_least-bare : (ps : Parts) (xs : List Role) → parts_least (bare_parts ps) xs ≡ parts_least ps xs
  parts_least-bare none xs = refl
  parts_least-bare (gap ps) xs = parts_least-bare ps xs
  parts_least-bare (part n ps) [] = refl
  parts_least-bare (part n ps) (a ∷ xs) = λ i. add_cost (least-bare n a i) (parts_least-bare ps xs i)

pub same_least : (n m : Tree) (a : Role) → SameTree m n → least m a ≡ least n a
same_least n m a h = sym (least-bare m a) ∙ ap (λ x. least x a) h ∙ least-bare n a

-- however tokens spell the same tree
pub spelled_at_least : {o : ℕ} {ts us : List Token} (n m : Tree) (a : Role) (P : List Pair) → SameTree m n → Spells ways (List Token) Next behind o a m ts us P → AtMost (least n a) (length P)
spelled_at_least n m a P h d = subst (λ c. AtMost c (length P)) (same_least n m a h) (at_least (List Token) Next behind d)

-- every derivation of every text with the same tree
pub derived_at_least : (n m : Tree) (text : List ℕ) (P : List Pair) → SameTree m n → Derives text m P → AtMost (least n script) (length P)
derived_at_least n m text P h d = subst (λ c. AtMost c (length P)) (same_least n m script h) (at_least Token (NextIn text any_goal) itself d.1.1)

-- in each language
pub derived_at_least_in : (language : Language) (n m : Tree) (text : List ℕ) (P : List Pair) → SameTree m n → DerivesIn language text m P → AtMost (least n script) (length P)
derived_at_least_in language n m text P h d = subst (λ c. AtMost c (length P)) (same_least n m script h) (at_least Token (Seen Token (NextIn text any_goal) language) (seen_in language) d.1.2)
