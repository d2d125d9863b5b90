-- Worked examples of the tokens at places, right and wrong ones.
use Rattle.std.specs.Prelude.{◌≡◌, ℕ, ◌+◌, Bool, true, false, not, ◌&&◌, ◌||◌, List, [], ◌∷◌, ◌++◌, encode_utf8_all, codes, IsTrue, refl}
use Rattle.std.specs.Char.{encode_utf8}
use Rattle.std.specs.List.{list_any}
use Prim.Native.String.{String}
use Rattle.unicode_ident.proofs.Computing.{unicode_ident}
use Rattle.source_text.specs.Lines.{is_line_terminator}
use Rattle.tokens.specs.Comments.{begins_comment, Separators, nothing, blank, comment}
use Rattle.tokens.specs.Lexical.{LexicalClass, IdentifierName, Punctuator, NumericLiteral, StringLiteral, Template, RegularExpressionLiteral, PrivateName, Keyword, End, is_token}
use Rattle.tokens.specs.Goals.{Goal, Div, TemplateTail, allows}
use Rattle.tokens.proofs.Beginnings.{none_begins, none_fronts, has_separator}
use Rattle.tokens.specs.Tokens.{LexicalToken, IsTokenAt, IsReading, more, last, size}

-- the token of a class and a word behind a gap
abbrev token_of : ℕ → LexicalClass → List ℕ → List ℕ → LexicalToken
token_of at class gap word = record { class = class; text = encode_utf8_all word; start = at + size gap; stop = at + size gap + size word; after_break = list_any is_line_terminator gap }

found : (goal : Goal) (at : ℕ) (class : LexicalClass) (gap word rest : List ℕ) → Separators gap (word ++ rest) → IsTrue (not (begins_comment (word ++ rest))) →
    IsTrue (is_token class word rest) → IsTrue (allows goal class word) → IsTokenAt goal at (gap ++ word ++ rest) (token_of at class gap word) rest
found goal at class gap word rest separated no_comment longest allowed =
    record { gap = gap; word = word; split = refl; separated = separated; no_comment = no_comment; longest = longest; allowed = allowed; text = refl; start = refl; stop = refl; after_break = refl }

-- what a goal reads in front of some characters: the class, and how long a text
abbrev reads : Goal → LexicalClass → String → String → Bool
reads goal class word rest = not (begins_comment (codes word ++ codes rest)) && is_token class (codes word) (codes rest) && allows goal class (codes word)

-- nothing, whatever the goal
abbrev refuses : String → Bool
refuses s = not (has_separator (codes s)) && none_fronts Div (codes s) && none_fronts Goal.RegExp (codes s) && none_fronts TemplateTail (codes s)

-- `a?.5:1` and `a?.b`, behind the name
conditional : IsTokenAt Div 1 (codes "?.5:1") (record { class = Punctuator; text = codes "?"; start = 1; stop = 2; after_break = false }) (codes ".5:1")
unfolding encode_utf8
conditional = found Div 1 Punctuator [] (codes "?") (codes ".5:1") nothing refl refl refl

chained : IsTokenAt Div 1 (codes "?.b") (record { class = Punctuator; text = codes "?."; start = 1; stop = 3; after_break = false }) (codes "b")
unfolding encode_utf8
chained = found Div 1 Punctuator [] (codes "?.") (codes "b") nothing refl refl refl

-- `/` by goal
divides : IsTokenAt Div 0 (codes "/=x/") (record { class = Punctuator; text = codes "/="; start = 0; stop = 2; after_break = false }) (codes "x/")
unfolding encode_utf8
divides = found Div 0 Punctuator [] (codes "/=") (codes "x/") nothing refl refl refl

matches : IsTokenAt Goal.RegExp 0 (codes "/=x/") (record { class = RegularExpressionLiteral; text = codes "/=x/"; start = 0; stop = 4; after_break = false }) []
unfolding encode_utf8
matches = found Goal.RegExp 0 RegularExpressionLiteral [] (codes "/=x/") [] nothing refl refl refl

-- `}` by goal
goes_on : IsTokenAt TemplateTail 0 (codes "}x${") (record { class = Template; text = codes "}x${"; start = 0; stop = 4; after_break = false }) []
unfolding encode_utf8
goes_on = found TemplateTail 0 Template [] (codes "}x${") [] nothing refl refl refl

closes : IsTokenAt Div 0 (codes "}x${") (record { class = Punctuator; text = codes "}"; start = 0; stop = 1; after_break = false }) (codes "x${")
unfolding encode_utf8
closes = found Div 0 Punctuator [] (codes "}") (codes "x${") nothing refl refl refl

-- a line feed inside a comment before x
has_line_break : IsTokenAt Div 0 (codes "/*\n*/ x") (record { class = IdentifierName; text = codes "x"; start = 6; stop = 7; after_break = true }) []
unfolding encode_utf8 unicode_ident
has_line_break = found Div 0 IdentifierName (codes "/*\n*/ ") (codes "x") [] (comment (codes "/*\n*/") (codes " ") refl refl (blank refl nothing)) refl refl refl

-- the end behind `é // b`, in bytes
ends : IsTokenAt Div 0 (codes " é// b") (record { class = IdentifierName; text = 0xC3 ∷ 0xA9 ∷ []; start = 1; stop = 3; after_break = false }) (codes "// b")
unfolding encode_utf8 unicode_ident
ends = found Div 0 IdentifierName (codes " ") (codes "é") (codes "// b") (blank refl nothing) refl refl refl

at_end : IsTokenAt Div 3 (codes "// b") (record { class = End; text = []; start = 7; stop = 7; after_break = false }) []
unfolding encode_utf8
at_end = found Div 3 End (codes "// b") [] [] (comment (codes "// b") [] refl refl nothing) refl refl refl

-- no token begins
no_number : (token : LexicalToken) (rest : List ℕ) → ¬ (IsTokenAt Div 0 (codes "3in") token rest)
unfolding unicode_ident
no_number token rest = none_begins Div 0 (codes "3in") token rest refl refl

no_string : (token : LexicalToken) (rest : List ℕ) → ¬ (IsTokenAt Div 0 (codes "'\\08'") token rest)
unfolding unicode_ident
no_string token rest = none_begins Div 0 (codes "'\\08'") token rest refl refl

refused : refuses "3in" && refuses "010" && refuses "08" && refuses "\\u0061" && refuses "'\\08'" && refuses "1.a" && refuses "1_" && refuses "1__0" && refuses "0_1" && refuses "0x_F" && refuses "1_.5" && refuses "1._5" && refuses "1e_5" && refuses "0x1nin" && refuses "0b12" && refuses "1e" && refuses "1n1" && refuses ".5a"
    && refuses "'abc" && refuses "`abc" && refuses "#" && refuses "# a" && refuses "#1" && refuses "##a" && refuses "@a" && refuses "/*" && refuses "/* a" && refuses "/*/" && refuses "²" ≡ true
unfolding unicode_ident
refused = refl

-- texts that a goal refuses, and another does not
by_goal : none_fronts Goal.RegExp (codes "/[/") && none_fronts Goal.RegExp (codes "/a") && none_fronts Goal.RegExp (codes "/") && none_fronts TemplateTail (codes "}x")
    && not (none_fronts Div (codes "/[/")) && not (none_fronts Div (codes "}x")) && not (none_fronts TemplateTail (codes "/a")) ≡ true
unfolding unicode_ident
by_goal = refl

longest_ones : reads Div Punctuator ">>>=" "a" && reads Div Punctuator "&&=" "=" && reads Div Punctuator "??=" "a" && reads Div Punctuator "||" "|=" && reads Div NumericLiteral "1_0" ";_" && reads Div NumericLiteral "1_0." "/2_" && reads Div Punctuator "." "." && reads Div Punctuator "." ".5" && reads Div Punctuator "..." "5" && reads Div NumericLiteral "1." ".5" && reads Div NumericLiteral "1." "/2"
    && reads Div NumericLiteral "0" "?" && reads Div IdentifierName "a" "\\" && reads Div IdentifierName "if" "(" && reads Goal.RegExp RegularExpressionLiteral "/[\\]/]/" "]/" && reads Goal.RegExp RegularExpressionLiteral "/a/g" "-i" && reads Div StringLiteral "'a'" "'b'"
    && reads Div Template "`a${" "b}`" && reads TemplateTail Template "}`" "`" && reads Div Punctuator "/" "[/" && reads Goal.RegExp Punctuator "}" "`" && reads Goal.RegExp Punctuator "+" "/" && reads TemplateTail Punctuator "/" "a/" ≡ true
unfolding unicode_ident
longest_ones = refl

shorter_ones : reads Div Punctuator ">>" ">=" || reads Div Punctuator "&&" "=" || reads Div Punctuator "??" "=a" || reads Div NumericLiteral "1" "_0" || reads Div NumericLiteral "1_0" "_" || reads Div IdentifierName "a" "b" || reads Div NumericLiteral "1" "0" || reads Div NumericLiteral "1" "." || reads Goal.RegExp RegularExpressionLiteral "/a/" "g" || reads Div Punctuator "." "5" || reads Div Punctuator "?." "5"
    || reads Div Punctuator "/" "/a" || reads Div RegularExpressionLiteral "/a/" "" || reads Goal.RegExp Punctuator "/" "a/" || reads Goal.RegExp Punctuator "/=" "a/" || reads TemplateTail Punctuator "}" "`" || reads Div Template "}`" "" ≡ false
unfolding unicode_ident
shorter_ones = refl

private_names : reads Div PrivateName "#a" ".b" && reads Goal.RegExp PrivateName "#if" "" && reads TemplateTail PrivateName "#a1" " in" && reads Div PrivateName "#a" "#b" ≡ true
unfolding unicode_ident
private_names = refl

no_private_names : reads Div PrivateName "#a" "b" || reads Div PrivateName "#" "a" || reads Div Punctuator "#" "a" || reads Div Keyword "await" "" ≡ false
unfolding unicode_ident
no_private_names = refl

-- whole texts, the last one with a choice of two readings
abbrev plain : LexicalClass → String → ℕ → ℕ → LexicalToken
plain class word start stop = record { class = class; text = codes word; start = start; stop = stop; after_break = false }

chosen : IsReading 0 (codes "a?.5:b") (plain IdentifierName "a" 0 1 ∷ plain Punctuator "?" 1 2 ∷ plain NumericLiteral ".5" 2 4 ∷ plain Punctuator ":" 4 5 ∷ plain IdentifierName "b" 5 6 ∷ plain End "" 6 6 ∷ [])
unfolding encode_utf8 unicode_ident
chosen =
    more Div (found Div 0 IdentifierName [] (codes "a") (codes "?.5:b") nothing refl refl refl) refl (
    more Div (found Div 1 Punctuator [] (codes "?") (codes ".5:b") nothing refl refl refl) refl (
    more Div (found Div 2 NumericLiteral [] (codes ".5") (codes ":b") nothing refl refl refl) refl (
    more Div (found Div 4 Punctuator [] (codes ":") (codes "b") nothing refl refl refl) refl (
    more Div (found Div 5 IdentifierName [] (codes "b") [] nothing refl refl refl) refl (
    last Div (found Div 6 End [] [] [] nothing refl refl refl) refl)))))

template_in_parts : IsReading 0 (codes "`a${b}`") (plain Template "`a${" 0 4 ∷ plain IdentifierName "b" 4 5 ∷ plain Template "}`" 5 7 ∷ plain End "" 7 7 ∷ [])
unfolding encode_utf8 unicode_ident
template_in_parts =
    more Div (found Div 0 Template [] (codes "`a${") (codes "b}`") nothing refl refl refl) refl (
    more Div (found Div 4 IdentifierName [] (codes "b") (codes "}`") nothing refl refl refl) refl (
    more TemplateTail (found TemplateTail 5 Template [] (codes "}`") [] nothing refl refl refl) refl (
    last Div (found Div 7 End [] [] [] nothing refl refl refl) refl)))

either_way : IsReading 0 (codes "/a/") (plain RegularExpressionLiteral "/a/" 0 3 ∷ plain End "" 3 3 ∷ [])
    × IsReading 0 (codes "/a/") (plain Punctuator "/" 0 1 ∷ plain IdentifierName "a" 1 2 ∷ plain Punctuator "/" 2 3 ∷ plain End "" 3 3 ∷ [])
unfolding encode_utf8 unicode_ident
either_way = (
  more Goal.RegExp (found Goal.RegExp 0 RegularExpressionLiteral [] (codes "/a/") [] nothing refl refl refl) refl (last Div (found Div 3 End [] [] [] nothing refl refl refl) refl),
  more Div (found Div 0 Punctuator [] (codes "/") (codes "a/") nothing refl refl refl) refl (
      more Div (found Div 1 IdentifierName [] (codes "a") (codes "/") nothing refl refl refl) refl (
      more Div (found Div 2 Punctuator [] (codes "/") [] nothing refl refl refl) refl (
      last Div (found Div 3 End [] [] [] nothing refl refl refl) refl))),
)
