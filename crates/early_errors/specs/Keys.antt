-- The value of a key that isn't computed.
use Rattle.std.specs.Prelude.{ℕ, cond, List}
use Rattle.tree.specs.Tree.{Tree, kind_of, text_of}
use Rattle.language.specs.Statements.{is_string_literal}
use Rattle.language.specs.Strings.{literal_units}

-- the code units of a string literal's value (SV in 11.8.4)
abbrev pub key_units : List ℕ → List ℕ
key_units text = literal_units text

-- a string's value, else the name or the number's raw text (12.2.6.5)
abbrev pub key_value : Tree → List ℕ
key_value tree = cond (is_string_literal (kind_of tree) (text_of tree)) (key_units (text_of tree)) (text_of tree)
