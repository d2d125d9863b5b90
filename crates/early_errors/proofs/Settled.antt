-- What holds at the body of a function is settled once.
use Rattle.std.proofs.Common.{◌≡◌, Bool, true, false, not, cond, ◌++◌, refl, sym, ap, ◌∙◌}
use Rattle.std.specs.Prelude.{◌&&◌}
use Rattle.tree.specs.declared.kind.Kind.{Kind}
use Rattle.tree.specs.Tree.{Tree, node, kind_of}
use Rattle.early_errors.specs.Around.{Around, settled, is_parameter, around_first, around_others, within}
use Rattle.early_errors.specs.Early.{own_errors, errors_within, parts_errors}

-- in the body of a function
abbrev bodied : Around → Around
bodied z = record z { yields = z.of_generator; awaits = z.of_async }

either_way : (b : Bool) (z : Around) → cond b z z ≡ z
either_way true z = refl
either_way false z = refl

pub settled_twice : (z : Around) (k : Kind) → settled (settled z k) k ≡ settled z k
settled_twice z k = pick (z.is_body && not (is_parameter k)) refl
  where
    pick : (b : Bool) → (z.is_body && not (is_parameter k)) ≡ b → settled (cond b (bodied z) z) k ≡ cond b (bodied z) z
    pick true h = either_way (z.is_body && not (is_parameter k)) (bodied z)
    pick false h = ap (λ c. cond c (bodied z) z) h

pub settled_arguments : (z : Around) (k : Kind) → (settled z k).no_arguments ≡ z.no_arguments
settled_arguments z k = pick (z.is_body && not (is_parameter k))
  where
    pick : (b : Bool) → (cond b (bodied z) z).no_arguments ≡ z.no_arguments
    pick true = refl
    pick false = refl

-- so a node has the errors that it has behind that
pub settled_errors : (z : Around) (t : Tree) → errors_within z t ≡ errors_within (settled z (kind_of t)) t
unfolding errors_within
settled_errors z (node k w g s e ps) =
    sym (ap (λ y. own_errors y (node k w g s e ps) ++ parts_errors (around_first y k g ps) (around_others y k g ps) ps) (settled_twice z k))

-- what is handed on is settled
pub settled_within : (z : Around) (k : Kind) → within z ≡ z → settled z k ≡ z
settled_within z k h = sym (ap (λ y. settled y k) h) ∙ h
