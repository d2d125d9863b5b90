-- What the JSON of a tree doesn't tell: places, and of a specifier whether it has two names; of a tree that no text derives also others.
use Rattle.std.specs.Prelude.{◌≡◌, ℕ, ◌+◌, List, [], ◌∷◌, codes, bytes_eq, false}
use Rattle.std.proofs.Common.{refl}
use Rattle.std.specs.Fmt.{digits}
use Rattle.std.specs.Str.{chars}
use Rattle.std.specs.Char.Utf16.{utf16_chars}
use Rattle.serde_json.proofs.OnLiterals.{serde_json_on_literals}
use Rattle.tree.specs.declared.kind.Kind.TheVariants.{Program, Identifier, Literal, ExpressionStatement, EmptyStatement, ImportDeclaration, ImportSpecifier}
use Rattle.tree.specs.declared.kind.Form.TheVariants.{Init, Shorthand}
use Rattle.tree.specs.Tree.{Tree, node, Parts, none, part, plain}
use Rattle.serde_json.specs.Written.{compact_text}
use Rattle.estree_json.specs.Json.{json_of, node_json, parts_json, with_value, with_part, with_list, with_ends, with_turns, with_option}
use Rattle.json_laws.specs.Placeless.{without_places, specifier_forms}

unfoldable computing : ℕ
unfolding digits serde_json_on_literals chars utf16_chars node_json parts_json with_value with_part with_list with_ends with_turns with_option
computing = 0

abbrev one : Tree → Parts
one n = part n none

abbrev name : ℕ → Tree
name s = node Identifier (codes "a") plain s (s + 1) none

abbrev source : ℕ → Tree
source s = node Literal (codes "'x'") plain s (s + 3) none

-- import {a} from 'x', and import {a as a} from 'x'
one_name : Tree
one_name = node Program (codes "module") plain 0 20 (one (node ImportDeclaration [] plain 0 19 (part (node ImportSpecifier [] (record plain { form = Shorthand }) 8 9 (one (name 8))) (one (source 16)))))

two_names : Tree
two_names = node Program (codes "module") plain 0 25 (one (node ImportDeclaration [] plain 0 24 (part (node ImportSpecifier [] plain 8 14 (part (name 8) (one (name 13)))) (one (source 21)))))

same_values : without_places (json_of one_name) ≡ without_places (json_of two_names)
unfolding computing one_name two_names
same_values = refl

one_form : specifier_forms one_name ≡ Shorthand ∷ []
unfolding one_name
one_form = refl

other_form : specifier_forms two_names ≡ Init ∷ []
unfolding two_names
other_form = refl

-- `;`, in two languages
empty_in : List ℕ → Tree
empty_in language = node Program language plain 0 1 (one (node EmptyStatement [] plain 0 1 none))

same_in_languages : without_places (json_of (empty_in [])) ≡ without_places (json_of (empty_in (codes "2022")))
unfolding computing empty_in
same_in_languages = refl

-- a text that no derivation has
same_of_no_text : without_places (json_of (node EmptyStatement (codes "a") plain 0 1 none)) ≡ without_places (json_of (node EmptyStatement [] plain 0 1 none))
unfolding computing
same_of_no_text = refl

-- `a` and ` a` are one tree; their places are left out
placeless : compact_text (without_places (json_of (node Program [] plain 0 2 (one (node ExpressionStatement [] plain 1 2 (one (name 1))))))) ≡
    codes "{\"body\":[{\"expression\":{\"name\":\"a\",\"type\":\"Identifier\"},\"type\":\"ExpressionStatement\"}],\"sourceType\":\"script\",\"type\":\"Program\"}"
unfolding computing
placeless = refl

-- 'x' and "x" aren't, though they have one value
other_quotes : bytes_eq (compact_text (without_places (json_of (source 0)))) (compact_text (without_places (json_of (node Literal (codes "\"x\"") plain 0 3 none)))) ≡ false
unfolding computing
other_quotes = refl
