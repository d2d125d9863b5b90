-- What is written down of trees, as the walk over parts goes.
use Rattle.std.proofs.Common.{◌≡◌, ℕ, ◌+◌, ◌<◌, ◌≤◌, List, ◌++◌, Option, Some, None, refl, sym, ap, ◌∙◌, append_assoc}
use Rattle.std.specs.Prelude.{codes}
use Rattle.tree.specs.Tree.{Tree, node, Parts, flags_of, kind_of, text_of, parts_of, part_at, part_count}
use Rattle.tree.proofs.PartWalk.{parts_drop, parts_drop-some, parts_drop-gap, parts_drop-past}
use Rattle.repetition_rules.specs.Written.{head, written, written_part, written_parts}

pub written-is : (t : Tree) → written t ≡ head (kind_of t) (flags_of t) (text_of t) ++ (written_parts (parts_of t) ++ codes ")")
unfolding written
written-is (node k w g s e ps) = refl

pub written-init : (t : Tree) (old new : List ℕ) → new ≡ old ++ head (kind_of t) (flags_of t) (text_of t) → new ++ (written_parts (parts_of t) ++ codes ")") ≡ old ++ written t
written-init t old new e =
    ap (λ l. l ++ (written_parts (parts_of t) ++ codes ")")) e ∙ append_assoc old (head (kind_of t) (flags_of t) (text_of t)) (written_parts (parts_of t) ++ codes ")") ∙ ap (λ l. old ++ l) (sym (written-is t))

-- the old text, one piece, the rest
further : (acc piece rest all new total : List ℕ) → new ≡ acc ++ piece → all ≡ piece ++ rest → acc ++ (all ++ codes ")") ≡ total → new ++ (rest ++ codes ")") ≡ total
further acc piece rest all new total n e so =
    ap (λ l. l ++ (rest ++ codes ")")) n ∙ append_assoc acc piece (rest ++ codes ")") ∙ ap (λ l. acc ++ l) (sym (append_assoc piece rest (codes ")"))) ∙ ap (λ l. acc ++ (l ++ codes ")")) (sym e) ∙ so

module _ (ps : Parts) (i : ℕ) (acc new total : List ℕ) (so : acc ++ (written_parts (parts_drop i ps) ++ codes ")") ≡ total) where
  pub written-turn : (o : Option Tree) → i < part_count ps → o ≡ part_at ps i → new ≡ acc ++ written_part o → new ++ (written_parts (parts_drop (i + 1) ps) ++ codes ")") ≡ total
  unfolding written_parts
  written-turn (Some u) l e n = further acc (written u) (written_parts (parts_drop (i + 1) ps)) (written_parts (parts_drop i ps)) new total n (ap written_parts (parts_drop-some ps i u e)) so
  written-turn None l e n = further acc (codes ",") (written_parts (parts_drop (i + 1) ps)) (written_parts (parts_drop i ps)) new total n (ap written_parts (parts_drop-gap ps i e l)) so

  pub written-end : part_count ps ≤ i → new ≡ acc ++ codes ")" → new ≡ total
  unfolding written_parts
  written-end l n = n ∙ ap (λ p. acc ++ (written_parts p ++ codes ")")) (sym (parts_drop-past ps i l)) ∙ so
