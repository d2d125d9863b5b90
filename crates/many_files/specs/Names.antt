-- The names that a list has.
use Rattle.std.specs.Prelude.{ℕ, zero, suc, List, [], ◌∷◌, ◌++◌}

-- what is left at the end of a list: a name, if it has a byte
abbrev pub last_name : List ℕ → List (List ℕ)
last_name [] = []
last_name (byte ∷ name) = (byte ∷ name) ∷ []

-- the names of a list, behind the beginning of one: a zero byte ends each; the last may lack it
abbrev pub names_from : List ℕ → List ℕ → List (List ℕ)
names_from name [] = last_name name
names_from name (zero ∷ bytes) = name ∷ names_from [] bytes
names_from name (suc n ∷ bytes) = names_from (name ++ suc n ∷ []) bytes

abbrev pub names_of : List ℕ → List (List ℕ)
names_of list = names_from [] list
