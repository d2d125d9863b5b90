-- Parameters of functions.
use Rattle.std.specs.Prelude.{ℕ, Bool, true, false, not, ◌&&◌, List, [], ◌∷◌}
use Rattle.tree.specs.Tree.{Tree, node, Parts, none, part, gap, kind_of, text_of, flags_of, start_of, parts_of}
use Rattle.language.specs.Vocabulary.{among, is_identifier}
use Rattle.name_tables.specs.BoundNames.{each_part}
use Rattle.early_errors.specs.Names.{places, when, twice, shared, lexical_names, parameter_names, parameters_on, body_items}

-- A parameter name twice (14.1.2, 14.2.1, 14.3.1): the second and later names.
unfoldable pub duplicate_parameter : Tree → List ℕ
duplicate_parameter (node kind text flags from to parts) = places (twice (parameter_names (parameters_on kind parts)))

-- A parameter name that is a lexical name of the body (14.1.2, 14.2.1, 14.3.1): the lexical name.
unfoldable pub parameter_is_lexical_name : Tree → List ℕ
parameter_is_lexical_name (node kind text flags from to parts) =
    places (shared (each_part (lexical_names false) (body_items (parameters_on kind parts))) (parameter_names (parameters_on kind parts)))

-- all parameters are names without more (14.1.13)
abbrev pub is_simple : Parts → Bool
is_simple none = true
is_simple (part tree none) = true
is_simple (part tree rest) = is_identifier (kind_of tree) && is_simple rest
is_simple (gap rest) = is_simple rest

-- a directive that is spelled so, without escapes (14.1.1)
abbrev pub use_strict : Tree → List ℕ
use_strict tree = when ((flags_of tree).directive && says_it (parts_of tree)) (start_of tree ∷ [])
  where
    says_it : Parts → Bool
    says_it (part m ps) = among (text_of m) ("'use strict'" ∷ "\"use strict\"" ∷ [])
    says_it _ = false

-- A directive `use strict` in a function with a parameter that isn't a plain name (14.1.2, 14.2.1, 14.3.1): the directive.
unfoldable pub use_strict_after_pattern : Tree → List ℕ
use_strict_after_pattern (node kind text flags from to parts) =
    when (not (is_simple (parameters_on kind parts))) (each_part use_strict (body_items (parameters_on kind parts)))
