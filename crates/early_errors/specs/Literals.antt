-- Templates and regular expressions.
use Rattle.std.specs.Prelude.{ℕ, Bool, true, false, not, cond, ◌&&◌, ◌||◌, List, [], ◌∷◌, nat_eq, is_some, codes}
use Rattle.tree.specs.declared.kind.Kind.{Kind}
use Rattle.tree.specs.declared.kind.Kind.TheVariants.{Literal, TemplateLiteral, TemplateElement}
use Rattle.tokens.specs.declared.token.TokenClass.{TokenClass}
use Rattle.tokens.specs.declared.token.TokenClass.TheVariants.{RegularExpressionLiteral}
use Rattle.tree.specs.Tree.{Tree, node, Parts, none, part, gap, kind_of, text_of}
use Rattle.language.specs.Vocabulary.{literal_class}
use Rattle.language.specs.Strings.{points}
use Rattle.regular_expressions.specs.Patterns.{first_fault}
use Rattle.early_errors.specs.Cooked.{cooks}
use Rattle.early_errors.specs.Names.{when}
use Rattle.early_errors.specs.Around.{Around}

abbrev pub is_uncooked : Kind → List ℕ → Bool
is_uncooked TemplateElement text = not (cooks text)
is_uncooked _ text = false

abbrev pub some_uncooked : Parts → Bool
some_uncooked none = false
some_uncooked (part tree rest) = is_uncooked (kind_of tree) (text_of tree) || some_uncooked rest
some_uncooked (gap rest) = some_uncooked rest

-- An untagged template with a part that has no cooked value (12.2.9.1): the template.
unfoldable pub uncooked_template : Around → Tree → List ℕ
uncooked_template z (node TemplateLiteral text flags from to parts) = when (not z.tagged && some_uncooked parts) (from ∷ [])
uncooked_template z (node _ text flags from to parts) = []

abbrev pub holds : List ℕ → ℕ → Bool
holds [] c = false
holds (d ∷ w) c = nat_eq d c || holds w c

-- what stands behind the last `/`
abbrev pub flags_part : List ℕ → List ℕ → List ℕ
flags_part found [] = found
flags_part found (c ∷ w) = flags_part (cond (nat_eq c 47) w found) w

-- each is one of the known, and none stands twice
abbrev pub are_among : List ℕ → List ℕ → Bool
are_among known [] = true
are_among known (c ∷ w) = holds known c && (not (holds w c) && are_among known w)

-- the flags of the base profile, and of the language of 2022 (22.2.3.4 of the 13th edition)
abbrev pub known_flags : Bool → List ℕ
known_flags false = codes "gimsuy"
known_flags true = codes "dgimsuy"

abbrev pub is_reg_exp : TokenClass → Bool
is_reg_exp RegularExpressionLiteral = true
is_reg_exp _ = false

-- a literal that isn't a regular expression, or one with good flags (12.2.8.1)
abbrev pub good_flags_in : Bool → List ℕ → Bool
good_flags_in of_2022 text = not (is_reg_exp (literal_class text)) || are_among (known_flags of_2022) (flags_part [] text)

abbrev pub good_flags : List ℕ → Bool
good_flags text = good_flags_in false text

-- Flags other than these, or one twice (12.2.8.1): the literal.
unfoldable pub reg_exp_flags : Around → Tree → List ℕ
reg_exp_flags z (node Literal text flags from to parts) = when (not (good_flags_in z.of_2022 text)) (from ∷ [])
reg_exp_flags z (node _ text flags from to parts) = []

-- a regular expression's pattern can't be derived, or has an early error (22.2.1 and 22.2.1.1 of the 13th edition)
unfoldable pub has_pattern_fault : List ℕ → Bool
has_pattern_fault text = is_some (first_fault (points text))

-- A pattern that isn't one, in the language of 2022 (13.2.7.1): the literal.
unfoldable pub reg_exp_pattern : Around → Tree → List ℕ
reg_exp_pattern z (node Literal text flags from to parts) = when (z.of_2022 && (is_reg_exp (literal_class text) && has_pattern_fault text)) (from ∷ [])
reg_exp_pattern z (node _ text flags from to parts) = []
