-- Names and literals, which are leaves where they stand as expressions, names and keys.
use Rattle.std.specs.Prelude.{ℕ, Bool, true, false, not, List}
use Rattle.tree.specs.declared.kind.Kind.{Kind}
use Rattle.tree.specs.declared.kind.Kind.TheVariants as kind
use Rattle.language.specs.Vocabulary.{is_reserved, literal_class}
use Rattle.grammar.specs.Ranks.{is_spelled_literal}
use Rattle.spelling_table.specs.declared.position.Position.{Position}
use Rattle.spelling_table.specs.declared.position.Position.TheVariants as at
use Rattle.spellings.specs.Others.{is_key_class}

-- an identifier of this name may stand there
abbrev pub names_at : Position → List ℕ → Bool
names_at (at.Expression y i f) w = not (is_reserved w)
names_at at.Name w = not (is_reserved w)
names_at at.IdentifierName w = true
names_at at.PropertyName w = true
names_at at.ShorthandKey w = true
names_at _ w = false

-- a literal of this text may stand there
abbrev pub literal_at : Position → List ℕ → Bool
literal_at (at.Expression y i f) w = is_spelled_literal w
literal_at at.PropertyName w = is_key_class (literal_class w)
literal_at _ w = false

abbrev pub leaf_at : Position → Kind → List ℕ → Bool
leaf_at p kind.Identifier w = names_at p w
leaf_at p kind.Literal w = literal_at p w
leaf_at p _ w = false
