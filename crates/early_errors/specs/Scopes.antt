-- Names that clash: of a Program, a body, a block or a switch; of a catch clause; of a `for` head.
use Rattle.std.specs.Prelude.{ℕ, Bool, true, false, not, cond, ◌&&◌, List, [], ◌∷◌, ◌++◌}
use Rattle.tree.specs.declared.kind.Kind.{Kind}
use Rattle.tree.specs.declared.kind.Kind.TheVariants.{StaticBlock, Program, BlockStatement, SwitchStatement, CatchClause, ForStatement, ForInStatement, ForOfStatement, VariableDeclaration}
use Rattle.tree.specs.Tree.{Tree, node, Parts, part, parts_of, start_of}
use Rattle.language.specs.FirstPart.{others}
use Rattle.language.specs.Vocabulary.{is}
use Rattle.name_tables.specs.BoundNames.{each_part}
use Rattle.early_errors.specs.Names.{Named, places, when, twice, shared, first_names, declared_names, parts_vars, lexical_names, function_names, body_items}
use Rattle.early_errors.specs.Around.{Around}

-- the lexical names of a scope; at the top of a Program or body functions are var names
abbrev pub scope_lexical : Around → Kind → Parts → List Named
scope_lexical z Program parts = each_part (lexical_names z.in_module) parts
scope_lexical z StaticBlock parts = each_part (lexical_names false) parts
scope_lexical z BlockStatement parts = each_part (lexical_names (not z.is_body)) parts
scope_lexical z SwitchStatement parts = each_part (λ c. each_part (lexical_names true) (others (parts_of c))) (others parts)
scope_lexical z _ parts = []

abbrev pub scope_vars : Around → Kind → Parts → List Named
scope_vars z Program parts = cond z.in_module [] (each_part function_names parts) ++ parts_vars parts
scope_vars z StaticBlock parts = each_part function_names parts ++ parts_vars parts
scope_vars z BlockStatement parts = cond z.is_body (each_part function_names parts) [] ++ parts_vars parts
scope_vars z SwitchStatement parts = parts_vars (others parts)
scope_vars z _ parts = []

-- the names of a `let` or `const` declaration
abbrev pub declaration_names : Kind → List ℕ → Parts → List Named
declaration_names VariableDeclaration text parts = cond (is text "var") [] (declared_names parts)
declaration_names _ text parts = []

-- A lexical name twice in one scope (13.2.1, 13.12.1, 14.1.2, 15.1.1), or a name twice in one `let` or `const` declaration
-- (13.3.1.1, 13.7.5.1): the second and later names.
unfoldable pub duplicate_lexical_name : Around → Tree → List ℕ
duplicate_lexical_name z (node kind text flags from to parts) = places (twice (scope_lexical z kind parts) ++ twice (declaration_names kind text parts))

-- A lexical name that is a var name of the same scope (13.2.1, 13.12.1, 14.1.2, 15.1.1): the lexical name.
unfoldable pub lexical_name_is_var : Around → Tree → List ℕ
lexical_name_is_var z (node kind text flags from to parts) = places (shared (scope_lexical z kind parts) (scope_vars z kind parts))

abbrev pub without_initializer : Tree → List ℕ
without_initializer tree = when (is_missing (others (parts_of tree))) (start_of tree ∷ [])
  where
    is_missing : Parts → Bool
    is_missing (part m ps) = false
    is_missing _ = true

-- A `const` without initializer outside the head of a for-in or for-of loop (13.3.1.1): the declarator.
unfoldable pub const_without_initializer : Around → Tree → List ℕ
const_without_initializer z (node VariableDeclaration text flags from to parts) = when (is text "const" && not z.in_head) (each_part without_initializer parts)
const_without_initializer z (node _ text flags from to parts) = []

-- A name of a catch parameter twice, or also a lexical or var name of its block (13.15.1): the parameter's name.
unfoldable pub catch_parameter_conflict : Tree → List ℕ
catch_parameter_conflict (node CatchClause text flags from to parts) =
    places (twice (first_names parts) ++ shared (first_names parts) (each_part (lexical_names true) (body_items parts) ++ parts_vars (body_items parts)))
catch_parameter_conflict (node _ text flags from to parts) = []

abbrev pub head_lexical : Parts → List Named
head_lexical (part tree rest) = lexical_names false tree
head_lexical _ = []

-- A lexical name of a `for` head that is a var name of the loop's body (13.7.4.1, 13.7.5.1): the head's name.
unfoldable pub for_name_is_var : Tree → List ℕ
for_name_is_var (node ForStatement text flags from to parts) = places (shared (head_lexical parts) (parts_vars (others (others (others parts)))))
for_name_is_var (node ForInStatement text flags from to parts) = places (shared (head_lexical parts) (parts_vars (others (others parts))))
for_name_is_var (node ForOfStatement text flags from to parts) = places (shared (head_lexical parts) (parts_vars (others (others parts))))
for_name_is_var (node _ text flags from to parts) = []
