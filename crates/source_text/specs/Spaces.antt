-- White space (ECMA-262 11.2), as code points.
use Rattle.std.specs.Prelude.{ℕ, Bool, false, ◌&&◌, ◌||◌, ◌==◌, List, [], ◌∷◌, nat_le}

-- the character is one of these
abbrev pub is_among : ℕ → List ℕ → Bool
is_among c [] = false
is_among c (x ∷ []) = c == x
is_among c (x ∷ y ∷ ys) = (c == x) || is_among c (y ∷ ys)

-- WhiteSpace: TAB, VT, FF, ZWNBSP, and the space separators of Unicode, SP and NBSP among them
abbrev pub is_white_space : ℕ → Bool
is_white_space c = is_among c (0x9 ∷ 0xB ∷ 0xC ∷ 0x20 ∷ 0xA0 ∷ 0xFEFF ∷ 0x1680 ∷ 0x202F ∷ 0x205F ∷ 0x3000 ∷ []) || (nat_le 0x2000 c && nat_le c 0x200A)
