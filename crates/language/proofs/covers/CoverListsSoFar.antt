-- A list of covers, as a loop reads it: each reading of the list is right so far, or nothing runs over it; an item keeps it where it fits.
use Rattle.std.proofs.Common.{◌≡◌, ℕ, Bool, List, sym, ap, ◌∙◌}
use Rattle.std.specs.Prelude.{Option, Some, None}
use Rattle.tree.specs.declared.kind.Kind.{Kind}
use Rattle.tree.specs.declared.kind.Flags.{Flags}
use Rattle.tree.specs.Tree.{Tree, Parts, kind_of}
use Rattle.language.specs.Vocabulary.{is_rest}
use Rattle.language.specs.Covers.{with_parts}

some_trees : {m n : Tree} → Some m ≡ Some n → m ≡ n
some_trees e = cc

-- only a spread is a rest
kept : (k : Kind) (w : List ℕ) (g : Flags) (st en : ℕ) {m : Tree} (b : Bool) (x : Option Parts) → is_rest k ≡ b → with_parts k w g st en x ≡ Some m → is_rest (kind_of m) ≡ b
kept k w g st en b None f h = cc
kept k w g st en b (Some qs) f h = ap (λ c. is_rest (kind_of c)) (sym (some_trees h)) ∙ f
