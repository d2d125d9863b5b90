-- What is none since a part is missing that must be there, whatever the kind.
use Rattle.std.proofs.Common.{◌≡◌, None, refl}
use Rattle.std.proofs.lemmas.Option.{none-some}
use Rattle.tree.specs.Tree.{Tree, node, none, part, gap}
use Rattle.tree.specs.Fields.{field}
use Rattle.tree.specs.declared.kind.Kind.{Kind}
use Rattle.tree.specs.declared.kind.Kind.TheVariants as kind
use Rattle.typed_nodes.specs.Expressions as e
use Rattle.typed_nodes.specs.Statements as s

-- no statement without a first part, and none without a second
pub headed_missing : (k : Kind) (t : Tree) → None ≡ field 0 t → None ≡ s.headed_by k t
headed_missing kind.Program (node j w g from to none) h = refl
headed_missing _ (node j w g from to none) h = refl
headed_missing kind.Program (node j w g from to (gap ps)) h = refl
headed_missing _ (node j w g from to (gap ps)) h = refl
headed_missing _ (node j w g from to (part a ps)) h = absurd (none-some _ h)

pub paired_missing : (k : Kind) (t : Tree) → None ≡ field 1 t → None ≡ s.paired_by k t
paired_missing kind.Program (node j w g from to none) h = refl
paired_missing _ (node j w g from to none) h = refl
paired_missing kind.Program (node j w g from to (gap none)) h = refl
paired_missing _ (node j w g from to (gap none)) h = refl
paired_missing kind.Program (node j w g from to (gap (gap ps))) h = refl
paired_missing _ (node j w g from to (gap (gap ps))) h = refl
paired_missing kind.Program (node j w g from to (part a none)) h = refl
paired_missing _ (node j w g from to (part a none)) h = refl
paired_missing kind.Program (node j w g from to (part a (gap ps))) h = refl
paired_missing _ (node j w g from to (part a (gap ps))) h = refl
paired_missing _ (node j w g from to (gap (part a ps))) h = absurd (none-some _ h)
paired_missing _ (node j w g from to (part a (part b ps))) h = absurd (none-some _ h)

-- and no expression
pub member_missing : (k : Kind) (t : Tree) → None ≡ field 0 t → None ≡ e.member_by k t
member_missing kind.Program (node j w g from to none) h = refl
member_missing _ (node j w g from to none) h = refl
member_missing kind.Program (node j w g from to (gap ps)) h = refl
member_missing _ (node j w g from to (gap ps)) h = refl
member_missing _ (node j w g from to (part a ps)) h = absurd (none-some _ h)

pub paired_expression_missing : (k : Kind) (t : Tree) → None ≡ field 1 t → None ≡ e.paired_by k t
paired_expression_missing kind.Program (node j w g from to none) h = refl
paired_expression_missing _ (node j w g from to none) h = refl
paired_expression_missing kind.Program (node j w g from to (gap none)) h = refl
paired_expression_missing _ (node j w g from to (gap none)) h = refl
paired_expression_missing kind.Program (node j w g from to (gap (gap ps))) h = refl
paired_expression_missing _ (node j w g from to (gap (gap ps))) h = refl
paired_expression_missing kind.Program (node j w g from to (part a none)) h = refl
paired_expression_missing _ (node j w g from to (part a none)) h = refl
paired_expression_missing kind.Program (node j w g from to (part a (gap ps))) h = refl
paired_expression_missing _ (node j w g from to (part a (gap ps))) h = refl
paired_expression_missing _ (node j w g from to (gap (part a ps))) h = absurd (none-some _ h)
paired_expression_missing _ (node j w g from to (part a (part b ps))) h = absurd (none-some _ h)
