-- What is proved of places.
use Rattle.std.specs.Prelude.{◌≡◌, ℕ, ◌<◌, true, List, length, map, slice_get, slice_range, Some}
use Rattle.std.specs.Str.{IsUtf8}
use Rattle.tree.specs.declared.kind.Kind.TheVariants.{Identifier}
use Rattle.tree.specs.declared.kind.Pair.{Pair}
use Rattle.tree.specs.Tree.{Tree, kind_of, text_of, start_of, stop_of}
use Rattle.tree.specs.Flat.{post_order}
use Rattle.language.specs.declared.Language.{Language}
use Rattle.language.specs.Languages.{DerivesIn}
use Rattle.language.specs.Derivation.{Among}
use Rattle.scopes.specs.Bindings.{Binding}
use Rattle.scopes.specs.Found.{Scope, Reference, found}
use Rattle.location_laws.specs.InOrder.{in_order}
use Rattle.location_laws.specs.ScopeRanges.{SourceRange, scope_ranges, are_nested, are_disjoint_from, is_within}

-- of a script that a UTF-8 text derives in a language
abbrev pub OfDerived : (List ℕ → Tree → Type 0) → Type 0
OfDerived P = (language : Language) (text : List ℕ) (n : Tree) (pairs : List Pair) → IsUtf8 text → DerivesIn language text n pairs → P text n

-- the parts of each node stand in its span, one behind the other
abbrev pub NodesAreInOrder : Type 0
NodesAreInOrder = OfDerived (λ text n. in_order n ≡ true)

-- in an identifier's span stands its name
abbrev pub IdentifiersAreAtTheirNames : Type 0
IdentifiersAreAtTheirNames = OfDerived (λ text n. (m : Tree) → Among m (post_order n) → kind_of m ≡ Identifier → (start_of m < stop_of m) × (slice_range text (start_of m) (stop_of m) ≡ text_of m))

-- the scopes are in the order of their places, outer before inner
abbrev pub ScopesAreInOrder : Type 0
ScopesAreInOrder = OfDerived (λ text n. (length (scope_ranges n) ≡ length (found n).scopes) × (are_nested (scope_ranges n) ≡ true))

-- and each stands in the place of the one round it
abbrev pub ScopesAreWithinTheirParents : Type 0
ScopesAreWithinTheirParents = OfDerived (λ text n. (i q : ℕ) (s : Scope) (x : SourceRange) → slice_get (found n).scopes i ≡ Some s → slice_get (scope_ranges n) i ≡ Some x → s.parent ≡ Some q → is_within (slice_get (scope_ranges n) q) x.0 x.1 ≡ true)

-- a reference stands in the place of its scope
abbrev pub ReferencesAreInTheirScopes : Type 0
ReferencesAreInTheirScopes = OfDerived (λ text n. (r : Reference) → Among r (found n).references → is_within (slice_get (scope_ranges n) r.scope) r.start r.stop ≡ true)

-- the references stand one behind the other, each at its name
abbrev pub ReferencesAreInOrder : Type 0
ReferencesAreInOrder = OfDerived (λ text n. are_disjoint_from 0 (map (λ r. (r.start, r.stop)) (found n).references) ≡ true)

abbrev pub ReferencesAreAtTheirNames : Type 0
ReferencesAreAtTheirNames = OfDerived (λ text n. (r : Reference) → Among r (found n).references → slice_range text r.start r.stop ≡ r.name)

-- and so do the bindings of each scope, by the first identifier of each
abbrev pub BindingsAreInOrder : Type 0
BindingsAreInOrder = OfDerived (λ text n. (s : Scope) → Among s (found n).scopes → are_disjoint_from 0 (map (λ b. (b.start, b.stop)) s.bindings) ≡ true)

abbrev pub BindingsAreAtTheirNames : Type 0
BindingsAreAtTheirNames = OfDerived (λ text n. (s : Scope) (b : Binding) → Among s (found n).scopes → Among b s.bindings → slice_range text b.start b.stop ≡ b.name)
