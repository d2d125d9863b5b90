-- Lists of tokens as places: the head stands behind, the others stand ahead.
use Rattle.std.specs.Prelude.{false, List, [], ◌∷◌}
use Rattle.tokens.specs.declared.token.TokenClass.TheVariants.{End}
use Rattle.language.specs.Token.{Token}

-- the token before the first
abbrev pub beginning : Token
beginning = record { class = End; text = []; start = 0; stop = 0; after_break = false }

pub data Next : List Token → Token → List Token → Type 0 where
  next : {b t : Token} {ts : List Token} → Next (b ∷ t ∷ ts) t (t ∷ ts)

abbrev pub behind : List Token → Token
behind [] = beginning
behind (t ∷ ts) = t
