-- How a node stands beside the position that the grammar gives it.
use Rattle.std.specs.Prelude.{◌≡◌, ℕ, ◌+◌, Bool, true, false, ◌&&◌, ◌||◌, List, [], ◌∷◌}
use Rattle.tree.specs.Tree.{Parts, none, part, gap, kind_of}
use Rattle.tree.specs.declared.kind.Kind.{Kind}
use Rattle.tree.specs.declared.node_use.NodeUse.{NodeUse}
use Rattle.tree.specs.declared.node_use.NodeUse.TheVariants.{Evaluated, ChainPart, Assigned, Bound, NotEvaluated}
use Rattle.tree.specs.declared.node_use.ParentUse.{ParentUse}
use Rattle.tree.specs.NodeUses.{use_in}
use Rattle.language.specs.Vocabulary.{is_target}
use Rattle.language.specs.Pieces.{Role, expr, chain_part, name, word, key, shorthand_key, directive_string, tagged_quasi, property, pattern, pattern_property, element, rest, method, member}

abbrev pub is_evaluated : NodeUse → Bool
is_evaluated Evaluated = true
is_evaluated _ = false

abbrev pub is_above : NodeUse → Bool
is_above ChainPart = true
is_above _ = false

abbrev pub is_assigned : NodeUse → Bool
is_assigned Assigned = true
is_assigned _ = false

abbrev pub is_quiet : NodeUse → Bool
is_quiet Bound = true
is_quiet NotEvaluated = true
is_quiet _ = false

-- what is bound, or else assigned, stands so
abbrev pub carries : Bool → NodeUse → Bool
carries true st = is_quiet st
carries false st = is_assigned st

-- a node of this kind stands so at the position
abbrev pub agrees : NodeUse → Role → Kind → Bool
agrees st (expr y i f) k = is_evaluated st || (is_assigned st && is_target k)
agrees st (chain_part f) k = is_above st
agrees st name k = is_quiet st
agrees st word k = is_quiet st
agrees st key k = is_quiet st
agrees st shorthand_key k = is_quiet st
agrees st directive_string k = is_quiet st
agrees st tagged_quasi k = is_quiet st
agrees st property k = is_evaluated st
agrees st (pattern b f) k = carries b st
agrees st (pattern_property b) k = carries b st
agrees st (element b) k = carries b st
agrees st (rest b o) k = carries b st
agrees st (method x) k = is_quiet st
agrees st member k = is_evaluated st
agrees st _ k = true

-- parts stand so as these positions ask
abbrev pub PartsAgree : ParentUse → ℕ → ℕ → Parts → List Role → Type 0
PartsAgree a c i none xs = Unit {0}
PartsAgree a c i (gap ps) xs = PartsAgree a c (i + 1) ps xs
PartsAgree a c i (part t ps) [] = Unit {0}
PartsAgree a c i (part t ps) (x ∷ xs) = (agrees (use_in a c i t) x (kind_of t) ≡ true) × PartsAgree a c (i + 1) ps xs
