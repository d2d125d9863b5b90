-- How a node is spelled at its own position.
use Rattle.std.proofs.Common.{◌≡◌, Option, refl, subst}
use Rattle.tree.specs.Tree.{Tree}
use Rattle.language.specs.Pieces.{Role, expr, chain_part, pattern}
use Rattle.language.specs.Grammar.{ways, own_rank, own_in, own_start}
use Rattle.spellings.specs.Spelled.{Verdict}
use Rattle.spellings.specs.Wherever.{NodeSpelling, with_own, spelled_roles, IsSpelledWherever}

-- a position with its own symbol, In and start
pub own_again : (a : Role) → with_own (own_rank a) (own_in a) (own_start a) a ≡ a
own_again (expr y i f) = refl
own_again (chain_part f) = refl
own_again (pattern b f) = refl
own_again _ = refl

-- what is spelled wherever is spelled at the position itself
pub spelled_here : (b : Role) (n : Tree) (r : Option NodeSpelling) → IsSpelledWherever b n r → Verdict (ways b n) (spelled_roles b r)
spelled_here b n r h = subst (λ u. Verdict (ways u n) (spelled_roles u r)) (own_again b) (h (own_rank b) (own_in b) (own_start b))
