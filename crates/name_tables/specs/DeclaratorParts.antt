-- What declarators bind, and what items declare lexically, as the code goes through them.
use Rattle.std.specs.Prelude.{ℕ, cond, codes, List, Option, Some, None, is_some, unwrap_or}
use Rattle.std.specs.Str.{bytes_eq}
use Rattle.tree.specs.declared.kind.Kind.TheVariants.{VariableDeclaration, FunctionDeclaration, ClassDeclaration, ImportDeclaration}
use Rattle.tree.specs.Tree.{Tree, node, Parts, parts_of, part_at}
use Rattle.name_tables.specs.declared.declared.DeclaratorAs.{DeclaratorAs}
use Rattle.name_tables.specs.declared.declared.LexicalAs.{LexicalAs}
use Rattle.name_tables.specs.declared.declared.Lexical.{Lexical}
use Rattle.name_tables.specs.declared.declared.Lexical.TheVariants as lexical
use Rattle.name_tables.specs.PatternParts.{Bound, bound_as}
use Rattle.name_tables.specs.BoundNames.{first_bound_names}
use Rattle.name_tables.specs.DeclaredNames.{lexically_declared_names}

-- the names of a declarator, each made as its parts say
abbrev pub named_by : {B : Type 0} → (Parts → Tree → B) → Tree → List B
named_by f d = first_bound_names (f (parts_of d)) (parts_of d)

-- as what they are bound
abbrev pub how_of : {H : Type 0} → DeclaratorAs H → Parts → H
how_of how parts = cond (is_some (part_at parts 1)) how.initialized how.bare

abbrev pub declarator_as : {H : Type 0} → DeclaratorAs H → Parts → Tree → Bound H
declarator_as how parts = bound_as (how_of how parts)

-- the declarators of a `let`, or else of a `const`
abbrev pub declarators_as : {H : Type 0} → LexicalAs H → List ℕ → DeclaratorAs H
declarators_as how text = cond (bytes_eq text (codes "let")) how.by_let how.by_const

-- the names that an item declares lexically; of functions where they are bound so
abbrev pub lexical_as : {H : Type 0} → LexicalAs H → Tree → List (Bound H)
lexical_as how tree = lexically_declared_names (is_some how.function) (λ text. declarator_as (declarators_as how text)) (bound_as (unwrap_or how.function how.class)) (bound_as how.class) (bound_as how.import) tree

-- which names that are: of a declaration by its word, and of an item that exports nothing
abbrev pub by_word : {H : Type 0} → LexicalAs H → List ℕ → Lexical H
by_word how text = cond (bytes_eq text (codes "var")) lexical.Nothing (lexical.Declarators (declarators_as how text))

abbrev pub by_name : {H : Type 0} → Option H → Lexical H
by_name None = lexical.Nothing
by_name (Some how) = lexical.FirstPart how

abbrev pub lexical_of : {H : Type 0} → LexicalAs H → Tree → Lexical H
lexical_of how (node VariableDeclaration text flags from to parts) = by_word how text
lexical_of how (node ClassDeclaration text flags from to parts) = lexical.FirstPart how.class
lexical_of how (node FunctionDeclaration text flags from to parts) = by_name how.function
lexical_of how (node ImportDeclaration text flags from to parts) = lexical.Specifiers how.import
lexical_of how (node _ text flags from to parts) = lexical.Nothing
