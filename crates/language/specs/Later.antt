-- Nodes that the base profile doesn't have: of the language of 2022.
use Rattle.std.specs.Prelude.{Bool, true, false, not, ◌||◌}
use Rattle.tree.specs.declared.kind.Kind.{Kind}
use Rattle.tree.specs.declared.kind.Kind.TheVariants.{Program, PrivateIdentifier, PropertyDefinition, StaticBlock, MetaProperty, AwaitExpression, YieldExpression, ImportDeclaration, ImportSpecifier, ImportDefaultSpecifier, ImportNamespaceSpecifier, ExportNamedDeclaration, ExportSpecifier, ExportDefaultDeclaration, ExportAllDeclaration}
use Rattle.tree.specs.declared.kind.Form.{Form}
use Rattle.tree.specs.declared.kind.Form.TheVariants.{Generator, Async, AsyncGenerator}
use Rattle.tree.specs.Tree.{Tree, node, Parts, none, part, gap, text_of}
use Rattle.tree.specs.Uses.{is_empty}
use Rattle.language.specs.Vocabulary.{is}

abbrev pub is_later_kind : Kind → Bool
is_later_kind PrivateIdentifier = true
is_later_kind PropertyDefinition = true
is_later_kind StaticBlock = true
is_later_kind AwaitExpression = true
is_later_kind YieldExpression = true
is_later_kind ImportDeclaration = true
is_later_kind ImportSpecifier = true
is_later_kind ImportDefaultSpecifier = true
is_later_kind ImportNamespaceSpecifier = true
is_later_kind ExportNamedDeclaration = true
is_later_kind ExportSpecifier = true
is_later_kind ExportDefaultDeclaration = true
is_later_kind ExportAllDeclaration = true
is_later_kind _ = false

abbrev pub is_later_form : Form → Bool
is_later_form Generator = true
is_later_form Async = true
is_later_form AsyncGenerator = true
is_later_form _ = false

-- of a meta property: `import.meta`
abbrev pub is_of_import : Parts → Bool
is_of_import (part tree rest) = is (text_of tree) "import"
is_of_import _ = false

-- a node that the base profile doesn't have: by its kind or form, `import.meta`, and a Program of another language
abbrev pub is_later : Tree → Bool
is_later (node Program text flags from to parts) = not (is_empty text)
is_later (node MetaProperty text flags from to parts) = is_of_import parts
is_later (node kind text flags from to parts) = is_later_kind kind || is_later_form flags.form

unfoldable mutual
  -- such a node is in the tree
  pub has_later : Tree → Bool
  has_later (node kind text flags from to parts) = is_later (node kind text flags from to parts) || some_has_later parts

  pub some_has_later : Parts → Bool
  some_has_later none = false
  some_has_later (part tree rest) = has_later tree || some_has_later rest
  some_has_later (gap rest) = some_has_later rest
