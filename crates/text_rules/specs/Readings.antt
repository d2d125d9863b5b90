-- What is known of what stands between two tokens, as its characters are read.
use Rattle.std.specs.Prelude.{ℕ, Bool, false, not, ◌&&◌, ◌||◌, cond, List, fold}
use Rattle.std.specs.Str.{chars}
use Rattle.source_text.specs.Lines.{is_line_terminator}
use Rattle.tokens.specs.Alphabet.{one_of}
use Rattle.text_rules.specs.declared.pairs.Pairs.{Pairs}
use Rattle.text_rules.specs.declared.pairs.Pairs.TheVariants.{NoPair, OnePair, MorePairs}
use Rattle.text_rules.specs.declared.reading.Reading.{Reading}
use Rattle.text_rules.specs.declared.spot.Spot.TheVariants.{Outside}
use Rattle.text_rules.specs.Spots.{is_token, spot_after}

abbrev pub more : Pairs → Pairs
more NoPair = OnePair
more OnePair = MorePairs
more MorePairs = MorePairs

abbrev pub opens : ℕ → Bool
opens c = one_of "([" c

-- the `(` that stand one behind the other, with nothing but white space and comments between
abbrev pub pairs_after : Pairs → (is_token : Bool) → ℕ → Pairs
pairs_after pairs is_token c = cond is_token (cond (one_of "(" c) (more pairs) NoPair) pairs

abbrev pub start : Reading
start = record { spot = Outside; pairs = NoPair; opened = false; broken = false }

-- behind one character more: the `(` right before, whether a `(` or `[` was read, and whether a line ends behind the last token
abbrev pub after : Reading → ℕ → Reading
after r c =
    let token : Bool = is_token r.spot c in
    record { spot = spot_after r.spot c; pairs = pairs_after r.pairs token c; opened = r.opened || (token && opens c); broken = is_line_terminator c || (r.broken && not token) }

-- behind a text
abbrev pub read_through : List ℕ → Reading
read_through text = fold after start (chars text)
