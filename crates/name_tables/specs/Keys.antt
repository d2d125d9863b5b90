-- The key under which names are hashed, and the names that it is drawn from.
use Rattle.std.specs.Prelude.{ℕ, Bool, true, false, cond, List, [], ◌∷◌, ◌++◌}
use Rattle.std.specs.List.{fold}
use Rattle.std.specs.Hash as fed
use Rattle.std.specs.Hash.DefaultHasher as sip
use Rattle.std.specs.declared.hash.DefaultHasher.{DefaultHasher}
use Rattle.tree.specs.declared.kind.Kind.{Kind}
use Rattle.tree.specs.declared.kind.Kind.TheVariants.{VariableDeclarator, FunctionDeclaration, FunctionExpression, ArrowFunctionExpression, ClassDeclaration, ClassExpression, CatchClause, ArrayPattern, ObjectPattern, Property, RestElement, AssignmentPattern, ImportSpecifier, ImportDefaultSpecifier, ImportNamespaceSpecifier}
pub use Rattle.tree.specs.Kinds.{is_identifier}
use Rattle.tree.specs.Tree.{Tree, kind_of, parts_of, text_of}
use Rattle.tree.specs.Flat.{post_order}
use Rattle.name_tables.specs.BoundNames.{each_part}

-- SipHash when it has read nothing yet, one more name, or some more
abbrev pub nothing_read : DefaultHasher
nothing_read = sip.initial

abbrev pub read_name : DefaultHasher → List ℕ → DefaultHasher
read_name h w = fold sip.write h (fed.str w)

abbrev pub read_names : DefaultHasher → List (List ℕ) → DefaultHasher
read_names h ws = fold read_name h ws

-- SipHash when it has read a key: two words, as a hash that has read names gives them
abbrev pub second_word : DefaultHasher → ℕ
second_word h = sip.finish (fold sip.write h (fed.u64 (sip.finish h)))

abbrev pub keyed_by : DefaultHasher → DefaultHasher
keyed_by h = fold sip.write (fold sip.write nothing_read (fed.u64 (sip.finish h))) (fed.u64 (second_word h))

-- what each hash begins with under the key of some names
abbrev pub key_of : List (List ℕ) → DefaultHasher
key_of ws = keyed_by (read_names nothing_read ws)

-- the kinds whose parts may be names that scopes declare
abbrev pub may_declare : Kind → Bool
may_declare VariableDeclarator = true
may_declare FunctionDeclaration = true
may_declare FunctionExpression = true
may_declare ArrowFunctionExpression = true
may_declare ClassDeclaration = true
may_declare ClassExpression = true
may_declare CatchClause = true
may_declare ArrayPattern = true
may_declare ObjectPattern = true
may_declare Property = true
may_declare RestElement = true
may_declare AssignmentPattern = true
may_declare ImportSpecifier = true
may_declare ImportDefaultSpecifier = true
may_declare ImportNamespaceSpecifier = true
may_declare _ = false

-- the name that a node is, if it is one
abbrev pub identifier_name : Tree → List (List ℕ)
identifier_name t = cond (is_identifier (kind_of t)) (text_of t ∷ []) []

-- the names among a node's parts that scopes may declare
abbrev pub declarable_among : Tree → List (List ℕ)
declarable_among t = cond (may_declare (kind_of t)) (each_part identifier_name (parts_of t)) []

abbrev pub among_each : List Tree → List (List ℕ)
among_each [] = []
among_each (t ∷ ts) = declarable_among t ++ among_each ts

-- the names in a tree that scopes may declare, node by node, each behind its parts
abbrev pub declarable_names : Tree → List (List ℕ)
declarable_names t = among_each (post_order t)
