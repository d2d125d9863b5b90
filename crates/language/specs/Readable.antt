-- A test of items: each word stands apart from what follows it, and what is looked for is there.
use Rattle.std.specs.Prelude.{ℕ, Bool, true, false, not, ◌&&◌, ◌||◌, List, [], ◌∷◌, ◌++◌}
use Rattle.std.specs.Str.{chars, bytes_eq, is_utf8}
use Rattle.std.specs.List.{list_any, list_all}
use Rattle.source_text.specs.Lines.{is_line_terminator}
use Rattle.tokens.specs.Alphabet.{is_white_space}
use Rattle.tokens.specs.Comments.{begins_comment}
use Rattle.tokens.specs.Lexical.{is_token}
use Rattle.tokens.specs.Goals.{allows}
use Rattle.tokens.specs.declared.token.Goal.{Goal}
use Rattle.tokens.specs.declared.token.Goal.TheVariants.{Div, TemplateTail}
use Rattle.tokens.specs.declared.token.TokenClass.{TokenClass}
use Rattle.tokens.specs.declared.token.TokenClass.TheVariants.{IdentifierName, Template, RegularExpressionLiteral, Keyword}
use Rattle.language.specs.Token.{table_text}
use Rattle.language.specs.Edges.{begins_no_operand}
use Rattle.language.specs.Cursor.{beginning}
use Rattle.language.specs.Printed.{Item, word, blank, name_ahead, joined, closing, items_text}

-- the goal that reads a token of a class, whatever it begins with
abbrev pub goal_of : TokenClass → Goal
goal_of RegularExpressionLiteral = Goal.RegExp
goal_of Template = TemplateTail
goal_of _ = Div

-- the class that a scan gives such a token
abbrev pub scanned : TokenClass → TokenClass
scanned Keyword = IdentifierName
scanned class = class

-- a word of a class in front of a rest, with which it makes no longer token
abbrev pub stands : TokenClass → List ℕ → List ℕ → Bool
stands class w rest =
    is_utf8 w && (is_token (scanned class) (chars w) (chars rest) && (not (begins_comment (chars w ++ chars rest)) && (allows (goal_of class) class (chars w) && bytes_eq (table_text class w) w)))

abbrev pub is_blank : ℕ → Bool
is_blank c = is_white_space c || is_line_terminator c

abbrev pub breaks : List ℕ → Bool
breaks gap = list_any is_line_terminator (chars gap)

-- no line break stands before the next word
abbrev pub on_this_line : List Item → Bool
on_this_line [] = false
on_this_line (word c w ∷ is) = true
on_this_line (blank w ∷ is) = not (breaks w) && on_this_line is
on_this_line (_ ∷ is) = on_this_line is

-- the next word isn't asked to stand on the same line
abbrev pub joins_none : List Item → Bool
joins_none [] = true
joins_none (word c w ∷ is) = true
joins_none (joined ∷ is) = false
joins_none (_ ∷ is) = joins_none is

abbrev pub may_precede : List ℕ → List Item → Bool
may_precede gap is = not (breaks gap) || joins_none is

abbrev pub is_name_next : List ℕ → List Item → Bool
is_name_next text (word IdentifierName v ∷ is) = bytes_eq v text
is_name_next text _ = false

-- a word that closes: it begins no operand
abbrev pub closes_here : TokenClass → List ℕ → Bool
closes_here class text = begins_no_operand (record beginning { class = class; text = text })

-- the next word begins no operand, on whatever line it stands
abbrev pub closes_next : List Item → Bool
closes_next [] = true
closes_next (word c w ∷ is) = closes_here c w
closes_next (_ ∷ is) = closes_next is

abbrev pub stand_apart : List Item → Bool
stand_apart [] = true
stand_apart (word c w ∷ is) = stands c w (items_text is) && stand_apart is
stand_apart (blank w ∷ is) = (is_utf8 w && (list_all is_blank (chars w) && may_precede w is)) && stand_apart is
stand_apart (name_ahead w ∷ is) = is_name_next w is && stand_apart is
stand_apart (joined ∷ is) = on_this_line is && stand_apart is
stand_apart (closing ∷ is) = closes_next is && stand_apart is
