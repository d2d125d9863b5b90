-- What the two bytes of a node's flags say.
use Rattle.std.specs.Prelude.{ℕ, ◌+◌, ◌*◌, Bool, not, nat_eq, bit_and}
use mir.Val.{bool_byte}
use Rattle.tree.specs.declared.kind.Flags.{Flags}
use Rattle.tree.specs.declared.kind.Form.{Form}

-- whether a bit is set, named by its power of two
abbrev pub has_bit : ℕ → ℕ → Bool
has_bit n power = not (nat_eq (bit_and n power) 0)

abbrev pub flags_in : Form → ℕ → Flags
flags_in form n = record {
  computed = has_bit n 1;
  optional = has_bit n 2;
  is_static = has_bit n 4;
  prefix = has_bit n 8;
  directive = has_bit n 16;
  expression = has_bit n 32;
  form = form;
}

abbrev pub bits_of : Flags → ℕ
bits_of g = bool_byte g.computed + 2 * bool_byte g.optional + 4 * bool_byte g.is_static + 8 * bool_byte g.prefix + 16 * bool_byte g.directive + 32 * bool_byte g.expression
