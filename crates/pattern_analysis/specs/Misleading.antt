-- Characters that stand side by side in a class of a pattern and are seen as one: the class matches each of them, never the one that is seen.
use Rattle.std.specs.Prelude.{ℕ, Bool, false, not, ◌&&◌, ◌||◌, List, [], ◌∷◌, nat_eq, nat_le, Option, Some, None}
use Rattle.ucd_category.specs.GeneralCategory.{general_category}
use Rattle.ucd_category.specs.GeneralCategoryGroup.{in_group}
use Rattle.ucd_category.specs.declared.GeneralCategoryGroup.TheVariants.{Mark}
use Rattle.regular_expressions.specs.Characters.{is_lead, is_trail}
use Rattle.regular_expressions.specs.Names.{is_character}
use Rattle.regular_expressions.specs.Patterns.{has_u, pattern_of}
use Rattle.pattern_analysis.specs.ClassValues.{class_values}

-- General_Category Mark
abbrev pub is_combining : ℕ → Bool
is_combining v = is_character v && in_group Mark (general_category v)

-- Emoji_Modifier: a skin tone
abbrev pub is_emoji_modifier : ℕ → Bool
is_emoji_modifier v = nat_le 0x1F3FB v && nat_le v 0x1F3FF

-- Regional_Indicator: two are a flag
abbrev pub is_regional_indicator : ℕ → Bool
is_regional_indicator v = nat_le 0x1F1E6 v && nat_le v 0x1F1FF

-- U+200D, zero width joiner
abbrev pub is_joiner : ℕ → Bool
is_joiner v = nat_eq v 0x200D

-- side by side
abbrev pub are_seen_as_one : (first second : ℕ) → Bool
are_seen_as_one first second =
    (is_lead first && is_trail second)
    || (is_combining second && not (is_combining first))
    || (is_emoji_modifier second && not (is_emoji_modifier first))
    || (is_regional_indicator first && is_regional_indicator second)

-- a joiner between two other characters
abbrev pub is_joined : Option ℕ → (second third : ℕ) → Bool
is_joined None second third = false
is_joined (Some first) second third = is_joiner second && not (is_joiner first) && not (is_joiner third)

-- the last of three with those before it
abbrev pub are_one : (first second third : Option ℕ) → Bool
are_one first None third = false
are_one first (Some b) None = false
are_one first (Some b) (Some c) = are_seen_as_one b c || is_joined first b c

-- any of these, behind two others
abbrev pub misleads : (first second : Option ℕ) → List (Option ℕ) → Bool
misleads first second [] = false
misleads first second (third ∷ values) = are_one first second third || misleads second third values

-- of the raw text of a RegularExpressionLiteral
abbrev pub has_misleading_class : List ℕ → Bool
has_misleading_class literal = misleads None None (class_values (has_u literal) (pattern_of literal))
