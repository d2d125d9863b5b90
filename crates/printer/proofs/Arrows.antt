-- An arrow with one parameter that is a name.
use Rattle.std.proofs.Common.{◌≡◌, Some, ap, arith, refl}
use Rattle.std.proofs.lemmas.Option.{none-some, same_Some}
use Rattle.tree.specs.Tree.{Tree, Parts, none, part, gap, part_at, part_count, kind_of}
use denote.Enum.Bare.{sameb}
use Rattle.tree.specs.contracts.kind.Kind.{the_type}
use Rattle.tree.specs.declared.kind.Kind.{Kind}
use Rattle.tree.specs.declared.kind.Kind.TheVariants.{Identifier}
use Rattle.language.specs.Vocabulary.{is_identifier}
use Rattle.printer.specs.Shapes.{is_single}

pub same_as_identifier : (k : Kind) → sameb the_type k Identifier ≡ is_identifier k
same_as_identifier Identifier = refl
same_as_identifier _ = refl

pub single_by_kind : (ps : Parts) (n b : Tree) → part_count ps ≡ 2 → part_at ps 0 ≡ Some n → part_at ps 1 ≡ Some b → is_single ps ≡ is_identifier (kind_of n)
single_by_kind none n b c p q = absurd (none-some _ p)
single_by_kind (gap ps) n b c p q = absurd (none-some _ p)
single_by_kind (part m none) n b c p q = absurd (none-some _ q)
single_by_kind (part m (gap ps)) n b c p q = absurd (none-some _ q)
single_by_kind (part m (part x none)) n b c p q = ap (λ t. is_identifier (kind_of t)) (same_Some m n p)
single_by_kind (part m (part x (part y ps))) n b c p q = absurd (omega (arith, c))
single_by_kind (part m (part x (gap ps))) n b c p q = absurd (omega (arith, c))
