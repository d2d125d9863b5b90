-- Comments in what stands between two tokens, character by character (ECMA-262 11.2 to 11.4).
use Rattle.std.specs.Prelude.{ℕ, Bool, true, false, not, ◌&&◌, cond}
use Rattle.source_text.specs.Lines.{is_line_terminator}
use Rattle.tokens.specs.Alphabet.{one_of, is_white_space}
use Rattle.text_rules.specs.declared.spot.Spot.{Spot}
use Rattle.text_rules.specs.declared.spot.Spot.TheVariants.{Outside, Slash, LineComment, BlockComment, Star}

abbrev pub behind_slash : ℕ → Spot
behind_slash c = cond (one_of "/" c) LineComment (cond (one_of "*" c) BlockComment Outside)

abbrev pub behind_star : ℕ → Spot
behind_star c = cond (one_of "/" c) Outside (cond (one_of "*" c) Star BlockComment)

-- where a reading is behind a character
abbrev pub spot_after : Spot → ℕ → Spot
spot_after Outside c = cond (one_of "/" c) Slash Outside
spot_after Slash c = behind_slash c
spot_after LineComment c = cond (is_line_terminator c) Outside LineComment
spot_after BlockComment c = cond (one_of "*" c) Star BlockComment
spot_after Star c = behind_star c

-- the character is in no comment; a line terminator ends one, and isn't in it
abbrev pub is_outside : Spot → ℕ → Bool
is_outside Outside c = true
is_outside Slash c = not (one_of "/*" c)
is_outside LineComment c = is_line_terminator c
is_outside BlockComment c = false
is_outside Star c = false

-- it is a token's, `/` aside, with which a comment may begin
abbrev pub is_token : Spot → ℕ → Bool
is_token spot c = is_outside spot c && (not (one_of "/" c) && (not (is_white_space c) && not (is_line_terminator c)))
