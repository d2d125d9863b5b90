-- When one tree is another but for changes at reported places.
use Rattle.std.specs.Prelude.{◌≡◌, ℕ, Bool, true, false, ◌&&◌, nat_eq, List, [], Some}
use Rattle.std.specs.List.{list_any}
use Rattle.std.specs.Str.{bytes_eq}
use Rattle.tree.specs.declared.kind.Flags.{Flags}
use Rattle.tree.specs.declared.kind.Kind.{Kind}
use Rattle.tree.specs.declared.kind.Kind.TheVariants.{BlockStatement}
use Rattle.tree.specs.declared.kind.Span.{Span}
use Rattle.tree.specs.Tree.{Tree, node, Parts, none, part, gap, parts_of, plain}
use Rattle.rule_words.specs.Reports.{Report}
use Rattle.mending.specs.declared.change.MendRule.{MendRule}
use Rattle.mending.specs.declared.change.MendRule.TheVariants.{PreferConst}
use Rattle.mending.specs.Changes.{called, place, change, goes, is_wrapped}
use Rattle.mending.specs.Words.{nth, span_at, kind_at, is_identifier, has_statements}

-- a report says that its rule reports this place
abbrev pub is_report_of : MendRule → Span → Report → Bool
is_report_of rule span r = bytes_eq r.rule (called rule) && (nat_eq r.start span.start && nat_eq r.stop span.end)

-- some report does
abbrev pub is_reported : List Report → MendRule → Span → Bool
is_reported reports rule span = list_any (is_report_of rule span) reports

-- each declarator has just a name, at a place that `asked` is true of
abbrev pub are_names : (asked : Span → Bool) → Parts → Bool
are_names asked none = true
are_names asked (part d ds) = is_identifier (kind_at (nth 0 d)) && (asked (span_at d (nth 0 d)) && are_names asked ds)
are_names asked (gap ds) = false

-- a rule's change is asked for at a node, by the places at which it is asked for
abbrev pub is_asked : (asked : MendRule → Span → Bool) → MendRule → Tree → Bool
is_asked asked PreferConst n = are_names (asked PreferConst) (parts_of n)
is_asked asked rule n = asked rule (place rule n)

-- The second tree is the first, places aside, but for changes that are asked for: what a rule's change makes of a node stands in the
-- node's place, a block comes round bodies, and statements of lists go.
mutual
  pub data Mends (asked : MendRule → Span → Bool) : Tree → Tree → Type 0 where
    kept : {kind : Kind} {text : List ℕ} {flags : Flags} {from to start stop : ℕ} {ps qs : Parts} →
        MendsParts asked kind ps qs → Mends asked (node kind text flags from to ps) (node kind text flags start stop qs)
    changed : {n c m : Tree} → (rule : MendRule) → is_asked asked rule n ≡ true → Some c ≡ change rule n → Mends asked c m → Mends asked n m

  -- parts of a node of this kind
  pub data MendsParts (asked : MendRule → Span → Bool) : Kind → Parts → Parts → Type 0 where
    all : {kind : Kind} → MendsParts asked kind none none
    one : {kind : Kind} {n m : Tree} {ps qs : Parts} → Mends asked n m → MendsParts asked kind ps qs → MendsParts asked kind (part n ps) (part m qs)
    hole : {kind : Kind} {ps qs : Parts} → MendsParts asked kind ps qs → MendsParts asked kind (gap ps) (gap qs)
    wrapped : {kind : Kind} {n m : Tree} {ps qs : Parts} {start stop : ℕ} → (rule : MendRule) → is_wrapped rule kind n ≡ true → is_asked asked rule n ≡ true → Mends asked n m →
        MendsParts asked kind ps qs → MendsParts asked kind (part n ps) (part (node BlockStatement [] plain start stop (part m none)) qs)
    gone : {kind : Kind} {n : Tree} {ps qs : Parts} → (rule : MendRule) → has_statements kind ≡ true → goes rule n ≡ true → is_asked asked rule n ≡ true →
        MendsParts asked kind ps qs → MendsParts asked kind (part n ps) qs
