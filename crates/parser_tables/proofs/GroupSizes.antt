-- What parentheses group, by how many parts stand there.
use Rattle.std.proofs.Common.{◌≡◌, ◌≤◌, false, refl, arith}
use Rattle.tree.specs.Tree.{Tree, Parts, none, part, gap, part_count}
use Rattle.parser_tables.specs.Items.{are_some}

-- one that is no part is a hole
pub some_hole : (ps : Parts) → part_count ps ≤ 1 → ((t : Tree) → ps ≡ part t none → ⊥) → are_some ps ≡ false
some_hole none h other = refl
some_hole (gap none) h other = refl
some_hole (gap (part n ps)) h other = absurd (omega arith)
some_hole (gap (gap ps)) h other = absurd (omega arith)
some_hole (part n none) h other = absurd (other n refl)
some_hole (part n (part m ps)) h other = absurd (omega arith)
some_hole (part n (gap ps)) h other = absurd (omega arith)
