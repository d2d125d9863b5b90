-- Names and literals that are leaves.
use Rattle.std.proofs.Common.{◌≡◌, ℕ, Bool, true, false, List, Option, Some, None, refl, sym}
use Rattle.std.specs.Prelude.{not, cond, ◌&&◌, ◌||◌}
use Rattle.std.proofs.lemmas.Bool.{false≢true}
use Rattle.tree.specs.declared.kind.Kind.{Kind}
use Rattle.tree.specs.declared.kind.Kind.TheVariants as kind
use Rattle.tree.specs.declared.node.Node.{Node}
use Rattle.tree.specs.Node.{node_tree}
use Rattle.tree.specs.Tree.{Tree, node, kind_of, text_of, flags_of, parts_of}
use Rattle.tree.specs.Uses.{has_text, is_empty, used_flags, is_lean}
use Rattle.language.specs.Vocabulary.{is_reserved}
use Rattle.language.specs.declared.Rank.TheVariants.{Primary}
use Rattle.spelling_table.specs.declared.position.Position.{Position}
use Rattle.spelling_table.specs.declared.position.Position.TheVariants as at
use Rattle.spelling_table.specs.declared.outline.Outline.{Outline}
use Rattle.spelling_table.specs.declared.production.Production.TheVariants.{Leaf}
use Rattle.spelling_table.specs.Outlines.{role_of, leaf}
use Rattle.spellings.specs.Positions.{outline_at}
use Rattle.spellings.specs.Spelled.{has_no_flags}
use Rattle.spellings.specs.Leaves.{leaf_at}
use Rattle.spellings.specs.Wherever.{IsSpelledWherever, spelled_by}
use Rattle.spellings.proofs.Plain.{plain_within}
use Rattle.spellings.proofs.PartsAfter.{over_runs}
use Rattle.spellings.proofs.Wherever.{spelled_wherever}

abbrev plainly : Option Outline
plainly = Some (leaf Primary)

unless : (b : Bool) → not b ≡ true → cond b None plainly ≡ plainly
unless true h = absurd (false≢true h)
unless false h = refl

only_if : (b : Bool) → b ≡ true → cond b plainly None ≡ plainly
only_if true h = refl
only_if false h = absurd (false≢true h)

leaf_outline : (p : Position) (n : Tree) → leaf_at p (kind_of n) (text_of n) ≡ true → outline_at p n ≡ plainly
leaf_outline (at.Expression y i f) (node kind.Identifier w g s e ps) h = unless (is_reserved w) h
leaf_outline (at.Expression y i f) (node kind.Literal w g s e ps) h = unless _ h
leaf_outline at.Name (node kind.Identifier w g s e ps) h = only_if _ h
leaf_outline at.IdentifierName (node kind.Identifier w g s e ps) h = refl
leaf_outline at.PropertyName (node kind.Identifier w g s e ps) h = refl
leaf_outline at.PropertyName (node kind.Literal w g s e ps) h = only_if _ h
leaf_outline at.ShorthandKey (node kind.Identifier w g s e ps) h = refl
leaf_outline _ (node kind.Identifier w g s e ps) h = absurd (false≢true h)
leaf_outline _ (node kind.Literal w g s e ps) h = absurd (false≢true h)
leaf_outline _ (node _ w g s e ps) h = absurd (false≢true h)

named_text : (p : Position) (k : Kind) (w : List ℕ) → leaf_at p k w ≡ true → has_text k ≡ true
named_text p kind.Identifier w h = refl
named_text p kind.Literal w h = refl
named_text p _ w h = absurd (false≢true h)

lean_leaf : (p : Position) (n : Tree) → leaf_at p (kind_of n) (text_of n) ≡ true → has_no_flags (flags_of n) ≡ true → is_lean n ≡ true
lean_leaf p (node k w g s e ps) h f = (λ i. (named_text p k w h i || is_empty w) && plain_within g (used_flags k g) f i)

pub spelled_leaf : (m : Node) (p : Position) → leaf_at p (kind_of (node_tree m)) (text_of (node_tree m)) ≡ true → has_no_flags (flags_of (node_tree m)) ≡ true → IsSpelledWherever (role_of p) (node_tree m) (Some (spelled_by m p Leaf))
spelled_leaf m p h f = spelled_wherever p (node_tree m) (spelled_by m p Leaf) (leaf_outline p (node_tree m) h) (lean_leaf p (node_tree m) h f) (sym (over_runs Rattle.spelling_table.specs.declared.outline.ListSlots.TheVariants.Nothing (parts_of (node_tree m)) refl)) refl
