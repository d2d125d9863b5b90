-- What the pieces of statements, expressions and classes have has fewer nodes than the piece.
use Rattle.std.proofs.Common.{◌≡◌, ℕ, ◌+◌, ◌<◌, Some, sym, arith, ap}
use Rattle.std.proofs.lemmas.Option.{none-some}
use Rattle.tree.specs.Tree.{Tree, kind_of, flags_of, parts_of, node_total, parts_total}
use Rattle.tree.specs.Fields.{field, list_from}
use Rattle.tree.specs.declared.kind.Kind.{Kind}
use Rattle.tree.specs.declared.kind.Kind.TheVariants as kind
use Rattle.typed_nodes.specs.Arity.{is_whole}
use Rattle.typed_nodes.specs.Pieces.{PropertyView, property, property_by, property_of, SpreadElementView, spread, spread_by, spread_of, ClassBodyView, members, members_by, members_of, MethodDefinitionView, method, method_by, method_of, VariableDeclaratorView, declarator, declarator_by, declarator_of, SwitchCaseView, switch_case, switch_case_by, switch_case_of, CatchClauseView, catch_clause, catch_clause_by, catch_clause_of}
use Rattle.typed_nodes.specs.ClassElements.{PropertyDefinitionView, property_definition, property_definition_by, property_definition_of, StaticBlockView, static_block, static_block_by, static_block_of}
use Rattle.node_parts.specs.Sizes.{option_total}
use Rattle.node_parts.proofs.SmallerFields.{four_fields, parts_smaller, first_and_list, one_smaller, two_smaller, some_smaller}
use Rattle.node_parts.proofs.SmallerViews.{if_whole}

abbrev pub property_total : PropertyView → ℕ
property_total (property key value form computed) = node_total key + node_total value

property_smaller_by : (k : Kind) (t : Tree) (v : PropertyView) → Some v ≡ property_by k t → property_total v < node_total t
property_smaller_by kind.Property t v h = two_smaller property_total (node_total t) (field 0 t) (field 1 t) (λ key value. property key value (flags_of t).form (flags_of t).computed) v h (λ a b e i. omega (arith, ap option_total e, ap option_total i, four_fields t))
property_smaller_by _ t v h = absurd (none-some v (sym h))

pub property_smaller : (t : Tree) (v : PropertyView) → Some v ≡ property_of t → property_total v < node_total t
property_smaller t v h = property_smaller_by (kind_of t) t v (if_whole (is_whole t) (property_by (kind_of t) t) v h)

abbrev pub spread_total : SpreadElementView → ℕ
spread_total (spread argument) = node_total argument

spread_smaller_by : (k : Kind) (t : Tree) (v : SpreadElementView) → Some v ≡ spread_by k t → spread_total v < node_total t
spread_smaller_by kind.SpreadElement t v h = one_smaller spread_total (node_total t) (field 0 t) (λ argument. spread argument) v h (λ a e. omega (arith, ap option_total e, four_fields t))
spread_smaller_by _ t v h = absurd (none-some v (sym h))

pub spread_smaller : (t : Tree) (v : SpreadElementView) → Some v ≡ spread_of t → spread_total v < node_total t
spread_smaller t v h = spread_smaller_by (kind_of t) t v (if_whole (is_whole t) (spread_by (kind_of t) t) v h)

abbrev pub members_total : ClassBodyView → ℕ
members_total (members body) = parts_total body

members_smaller_by : (k : Kind) (t : Tree) (v : ClassBodyView) → Some v ≡ members_by k t → members_total v < node_total t
members_smaller_by kind.ClassBody t v h = some_smaller members_total (node_total t) (members (parts_of t)) v h (parts_smaller t)
members_smaller_by _ t v h = absurd (none-some v (sym h))

pub members_smaller : (t : Tree) (v : ClassBodyView) → Some v ≡ members_of t → members_total v < node_total t
members_smaller t v h = members_smaller_by (kind_of t) t v (if_whole (is_whole t) (members_by (kind_of t) t) v h)

abbrev pub method_total : MethodDefinitionView → ℕ
method_total (method key value form computed is_static) = node_total key + node_total value

method_smaller_by : (k : Kind) (t : Tree) (v : MethodDefinitionView) → Some v ≡ method_by k t → method_total v < node_total t
method_smaller_by kind.MethodDefinition t v h = two_smaller method_total (node_total t) (field 0 t) (field 1 t) (λ key value. method key value (flags_of t).form (flags_of t).computed (flags_of t).is_static) v h (λ a b e i. omega (arith, ap option_total e, ap option_total i, four_fields t))
method_smaller_by _ t v h = absurd (none-some v (sym h))

pub method_smaller : (t : Tree) (v : MethodDefinitionView) → Some v ≡ method_of t → method_total v < node_total t
method_smaller t v h = method_smaller_by (kind_of t) t v (if_whole (is_whole t) (method_by (kind_of t) t) v h)

abbrev pub declarator_total : VariableDeclaratorView → ℕ
declarator_total (declarator id init) = node_total id + option_total init

declarator_smaller_by : (k : Kind) (t : Tree) (v : VariableDeclaratorView) → Some v ≡ declarator_by k t → declarator_total v < node_total t
declarator_smaller_by kind.VariableDeclarator t v h = one_smaller declarator_total (node_total t) (field 0 t) (λ id. declarator id (field 1 t)) v h (λ a e. omega (arith, ap option_total e, four_fields t))
declarator_smaller_by _ t v h = absurd (none-some v (sym h))

pub declarator_smaller : (t : Tree) (v : VariableDeclaratorView) → Some v ≡ declarator_of t → declarator_total v < node_total t
declarator_smaller t v h = declarator_smaller_by (kind_of t) t v (if_whole (is_whole t) (declarator_by (kind_of t) t) v h)

abbrev pub switch_case_total : SwitchCaseView → ℕ
switch_case_total (switch_case test consequent) = option_total test + parts_total consequent

switch_case_smaller_by : (k : Kind) (t : Tree) (v : SwitchCaseView) → Some v ≡ switch_case_by k t → switch_case_total v < node_total t
switch_case_smaller_by kind.SwitchCase t v h = some_smaller switch_case_total (node_total t) (switch_case (field 0 t) (list_from 1 t)) v h (first_and_list t)
switch_case_smaller_by _ t v h = absurd (none-some v (sym h))

pub switch_case_smaller : (t : Tree) (v : SwitchCaseView) → Some v ≡ switch_case_of t → switch_case_total v < node_total t
switch_case_smaller t v h = switch_case_smaller_by (kind_of t) t v (if_whole (is_whole t) (switch_case_by (kind_of t) t) v h)

abbrev pub catch_clause_total : CatchClauseView → ℕ
catch_clause_total (catch_clause param body) = option_total param + node_total body

catch_clause_smaller_by : (k : Kind) (t : Tree) (v : CatchClauseView) → Some v ≡ catch_clause_by k t → catch_clause_total v < node_total t
catch_clause_smaller_by kind.CatchClause t v h = one_smaller catch_clause_total (node_total t) (field 1 t) (λ body. catch_clause (field 0 t) body) v h (λ a e. omega (arith, ap option_total e, four_fields t))
catch_clause_smaller_by _ t v h = absurd (none-some v (sym h))

pub catch_clause_smaller : (t : Tree) (v : CatchClauseView) → Some v ≡ catch_clause_of t → catch_clause_total v < node_total t
catch_clause_smaller t v h = catch_clause_smaller_by (kind_of t) t v (if_whole (is_whole t) (catch_clause_by (kind_of t) t) v h)

abbrev pub property_definition_total : PropertyDefinitionView → ℕ
property_definition_total (property_definition key value computed is_static) = node_total key + option_total value

property_definition_smaller_by : (k : Kind) (t : Tree) (v : PropertyDefinitionView) → Some v ≡ property_definition_by k t → property_definition_total v < node_total t
property_definition_smaller_by kind.PropertyDefinition t v h = one_smaller property_definition_total (node_total t) (field 0 t) (λ key. property_definition key (field 1 t) (flags_of t).computed (flags_of t).is_static) v h (λ a e. omega (arith, ap option_total e, four_fields t))
property_definition_smaller_by _ t v h = absurd (none-some v (sym h))

pub property_definition_smaller : (t : Tree) (v : PropertyDefinitionView) → Some v ≡ property_definition_of t → property_definition_total v < node_total t
property_definition_smaller t v h = property_definition_smaller_by (kind_of t) t v (if_whole (is_whole t) (property_definition_by (kind_of t) t) v h)

abbrev pub static_block_total : StaticBlockView → ℕ
static_block_total (static_block body) = parts_total body

static_block_smaller_by : (k : Kind) (t : Tree) (v : StaticBlockView) → Some v ≡ static_block_by k t → static_block_total v < node_total t
static_block_smaller_by kind.StaticBlock t v h = some_smaller static_block_total (node_total t) (static_block (parts_of t)) v h (parts_smaller t)
static_block_smaller_by _ t v h = absurd (none-some v (sym h))

pub static_block_smaller : (t : Tree) (v : StaticBlockView) → Some v ≡ static_block_of t → static_block_total v < node_total t
static_block_smaller t v h = static_block_smaller_by (kind_of t) t v (if_whole (is_whole t) (static_block_by (kind_of t) t) v h)
