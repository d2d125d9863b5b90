-- Parts of expressions and statements that are neither: which part is which field.
use Rattle.std.specs.Prelude.{ℕ, Bool, List, Option, Some, None, option_map, if◌then◌else◌}
use Rattle.tree.specs.Tree.{Tree, Parts, kind_of, text_of, flags_of, parts_of}
use Rattle.tree.specs.Node.{node_tree, list_parts}
use Rattle.tree.specs.Fields.{field, list_from, with_one, with_two}
use Rattle.typed_nodes.specs.Arity.{is_whole}
use Rattle.tree.specs.declared.kind.Kind.{Kind}
use Rattle.tree.specs.declared.kind.Kind.TheVariants as kind
use Rattle.tree.specs.declared.kind.Form.{Form}
use Rattle.typed_nodes.specs.declared.pieces.Property.{Property}
use Rattle.typed_nodes.specs.declared.pieces.SpreadElement.{SpreadElement}
use Rattle.typed_nodes.specs.declared.pieces.TemplateElement.{TemplateElement}
use Rattle.typed_nodes.specs.declared.pieces.ClassBody.{ClassBody}
use Rattle.typed_nodes.specs.declared.pieces.MethodDefinition.{MethodDefinition}
use Rattle.typed_nodes.specs.declared.pieces.VariableDeclarator.{VariableDeclarator}
use Rattle.typed_nodes.specs.declared.pieces.SwitchCase.{SwitchCase}
use Rattle.typed_nodes.specs.declared.pieces.CatchClause.{CatchClause}

pub data PropertyView : Type 0 where
  property : (key : Tree) (value : Tree) (form : Form) (computed : Bool) → PropertyView

abbrev pub property_by : Kind → Tree → Option PropertyView
property_by kind.Property t = with_two (field 0 t) (field 1 t) (λ key value. property key value (flags_of t).form (flags_of t).computed)
property_by _ t = None

abbrev pub property_of : Tree → Option PropertyView
property_of t = if is_whole t then property_by (kind_of t) t else None

abbrev pub property_seen : Property → PropertyView
property_seen v = property (node_tree v.key) (node_tree v.value) v.form v.computed

pub data SpreadElementView : Type 0 where
  spread : (argument : Tree) → SpreadElementView

abbrev pub spread_by : Kind → Tree → Option SpreadElementView
spread_by kind.SpreadElement t = with_one (field 0 t) (λ argument. spread argument)
spread_by _ t = None

abbrev pub spread_of : Tree → Option SpreadElementView
spread_of t = if is_whole t then spread_by (kind_of t) t else None

abbrev pub spread_seen : SpreadElement → SpreadElementView
spread_seen v = spread (node_tree v.argument)

pub data TemplateElementView : Type 0 where
  chunk : (raw : List ℕ) → TemplateElementView

abbrev pub chunk_by : Kind → Tree → Option TemplateElementView
chunk_by kind.TemplateElement t = Some (chunk (text_of t))
chunk_by _ t = None

abbrev pub chunk_of : Tree → Option TemplateElementView
chunk_of t = if is_whole t then chunk_by (kind_of t) t else None

abbrev pub chunk_seen : TemplateElement → TemplateElementView
chunk_seen v = chunk v.raw.now

pub data ClassBodyView : Type 0 where
  members : (body : Parts) → ClassBodyView

abbrev pub members_by : Kind → Tree → Option ClassBodyView
members_by kind.ClassBody t = Some (members (parts_of t))
members_by _ t = None

abbrev pub members_of : Tree → Option ClassBodyView
members_of t = if is_whole t then members_by (kind_of t) t else None

abbrev pub members_seen : ClassBody → ClassBodyView
members_seen v = members (list_parts v.body)

pub data MethodDefinitionView : Type 0 where
  method : (key : Tree) (value : Tree) (form : Form) (computed : Bool) (is_static : Bool) → MethodDefinitionView

abbrev pub method_by : Kind → Tree → Option MethodDefinitionView
method_by kind.MethodDefinition t = with_two (field 0 t) (field 1 t) (λ key value. method key value (flags_of t).form (flags_of t).computed (flags_of t).is_static)
method_by _ t = None

abbrev pub method_of : Tree → Option MethodDefinitionView
method_of t = if is_whole t then method_by (kind_of t) t else None

abbrev pub method_seen : MethodDefinition → MethodDefinitionView
method_seen v = method (node_tree v.key) (node_tree v.value) v.form v.computed v.is_static

pub data VariableDeclaratorView : Type 0 where
  declarator : (id : Tree) (init : Option Tree) → VariableDeclaratorView

abbrev pub declarator_by : Kind → Tree → Option VariableDeclaratorView
declarator_by kind.VariableDeclarator t = with_one (field 0 t) (λ id. declarator id (field 1 t))
declarator_by _ t = None

abbrev pub declarator_of : Tree → Option VariableDeclaratorView
declarator_of t = if is_whole t then declarator_by (kind_of t) t else None

abbrev pub declarator_seen : VariableDeclarator → VariableDeclaratorView
declarator_seen v = declarator (node_tree v.id) (option_map node_tree v.init)

pub data SwitchCaseView : Type 0 where
  switch_case : (test : Option Tree) (consequent : Parts) → SwitchCaseView

abbrev pub switch_case_by : Kind → Tree → Option SwitchCaseView
switch_case_by kind.SwitchCase t = Some (switch_case (field 0 t) (list_from 1 t))
switch_case_by _ t = None

abbrev pub switch_case_of : Tree → Option SwitchCaseView
switch_case_of t = if is_whole t then switch_case_by (kind_of t) t else None

abbrev pub switch_case_seen : SwitchCase → SwitchCaseView
switch_case_seen v = switch_case (option_map node_tree v.test) (list_parts v.consequent)

pub data CatchClauseView : Type 0 where
  catch_clause : (param : Option Tree) (body : Tree) → CatchClauseView

abbrev pub catch_clause_by : Kind → Tree → Option CatchClauseView
catch_clause_by kind.CatchClause t = with_one (field 1 t) (λ body. catch_clause (field 0 t) body)
catch_clause_by _ t = None

abbrev pub catch_clause_of : Tree → Option CatchClauseView
catch_clause_of t = if is_whole t then catch_clause_by (kind_of t) t else None

abbrev pub catch_clause_seen : CatchClause → CatchClauseView
catch_clause_seen v = catch_clause (option_map node_tree v.param) (node_tree v.body)
