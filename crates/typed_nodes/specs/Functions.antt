-- Functions and classes: which part is which field.
use Rattle.std.specs.Prelude.{Bool, true, false, Option, None, option_map, if◌then◌else◌}
use Rattle.tree.specs.Tree.{Tree, Parts, kind_of, flags_of, parts_of}
use Rattle.tree.specs.Uses.{is_generator, is_async}
use Rattle.tree.specs.Node.{node_tree, list_parts}
use Rattle.tree.specs.Fields.{field, list_from, last_part, before_last, with_one}
use Rattle.typed_nodes.specs.Arity.{is_whole}
use Rattle.tree.specs.declared.kind.Kind.{Kind}
use Rattle.tree.specs.declared.kind.Kind.TheVariants as kind
use Rattle.typed_nodes.specs.declared.function.Function.{Function}
use Rattle.typed_nodes.specs.declared.function.Class.{Class}

pub data FunctionView : Type 0 where
  function : (id : Option Tree) (params : Parts) (body : Tree) (is_arrow expression generator is_async : Bool) → FunctionView

pub data ClassView : Type 0 where
  class_of_body : (id super_class : Option Tree) (body : Tree) → ClassView

abbrev pub function_by : Kind → Tree → Option FunctionView
function_by kind.FunctionDeclaration t = with_one (last_part (list_from 1 t)) (λ body. function (field 0 t) (before_last (list_from 1 t)) body false false (is_generator (flags_of t).form) (is_async (flags_of t).form))
function_by kind.FunctionExpression t = with_one (last_part (list_from 1 t)) (λ body. function (field 0 t) (before_last (list_from 1 t)) body false false (is_generator (flags_of t).form) (is_async (flags_of t).form))
function_by kind.ArrowFunctionExpression t = with_one (last_part (parts_of t)) (λ body. function None (before_last (parts_of t)) body true (flags_of t).expression (is_generator (flags_of t).form) (is_async (flags_of t).form))
function_by _ t = None

-- the tree as a function
abbrev pub function_of : Tree → Option FunctionView
function_of t = if is_whole t then function_by (kind_of t) t else None

abbrev pub class_by : Kind → Tree → Option ClassView
class_by kind.ClassDeclaration t = with_one (field 2 t) (λ body. class_of_body (field 0 t) (field 1 t) body)
class_by kind.ClassExpression t = with_one (field 2 t) (λ body. class_of_body (field 0 t) (field 1 t) body)
class_by _ t = None

-- the tree as a class
abbrev pub class_of : Tree → Option ClassView
class_of t = if is_whole t then class_by (kind_of t) t else None

-- what a view shows
abbrev pub function_seen : Function → FunctionView
function_seen f = function (option_map node_tree f.id) (list_parts f.params) (node_tree f.body) f.is_arrow f.expression f.generator f.is_async

abbrev pub class_seen : Class → ClassView
class_seen c = class_of_body (option_map node_tree c.id) (option_map node_tree c.super_class) (node_tree c.body)
