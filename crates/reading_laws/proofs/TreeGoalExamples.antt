-- Examples: the goals that trees give, right and wrong ones, and a text that two trees read differently.
use Rattle.std.specs.Prelude.{◌≡◌, ℕ, ◌+◌, Bool, false, not, List, [], ◌∷◌, ◌++◌, encode_utf8_all, codes, IsTrue, refl}
use Rattle.std.proofs.Common.{ap}
use Rattle.std.specs.Char.{encode_utf8}
use Rattle.std.specs.List.{list_any}
use Rattle.std.proofs.lemmas.Bool.{true≢false}
use Prim.Native.String.{String}
use Rattle.source_text.specs.Lines.{is_line_terminator}
use Rattle.tokens.specs.declared.token.TokenClass.{TokenClass}
use Rattle.tokens.specs.declared.token.TokenClass.TheVariants.{Punctuator, StringLiteral, Template, RegularExpressionLiteral, End}
use Rattle.tokens.specs.declared.token.Goal.{Goal}
use Rattle.tokens.specs.declared.token.Goal.TheVariants.{Div, RegExp, TemplateTail}
use Rattle.tokens.specs.Comments.{begins_comment, Separators, nothing, blank}
use Rattle.tokens.specs.Lexical.{is_token}
use Rattle.tokens.specs.Goals.{allows, is_regexp}
use Rattle.tokens.specs.Tokens.{LexicalToken, IsTokenAt, size}
use Rattle.tree.specs.declared.kind.Kind.TheVariants.{BinaryExpression, BlockStatement, TemplateElement, TemplateLiteral}
use Rattle.tree.specs.Tree.{Tree, none, part}
use Rattle.language.proofs.examples.Trees.{id, lit, n, one, program, st, t, three, two}
use Rattle.reading_laws.specs.TreeReadings.{tree_goal, IsTreeReading, last, more}
use Rattle.reading_laws.proofs.TreeReadings.{one_tree_reading}

-- `/a/ / b`: a regular expression, then a division
abbrev matched_tree : Tree
matched_tree = program 7 (one (st 0 7 (t BinaryExpression "/" 0 7 (two (lit "/a/" 0) (id "b" 6)))))

matched_first : tree_goal matched_tree 0 ≡ RegExp
matched_first = refl

divided_next : tree_goal matched_tree 4 ≡ Div
divided_next = refl

-- the `/` that ends it isn't where it begins
ends_no_regexp : tree_goal matched_tree 2 ≡ Div
ends_no_regexp = refl

-- `1 / 2`: a literal that is a number asks for no goal
number_asks_none : tree_goal (program 5 (one (st 0 5 (t BinaryExpression "/" 0 5 (two (lit "1" 0) (lit "2" 4)))))) 0 ≡ Div
number_asks_none = refl

-- "`x${a}${b}`": the elements begin at 1, 6 and 10, and their tokens at 0, 5 and 9
abbrev template_tree : Tree
template_tree = program 11 (one (st 0 11 (n TemplateLiteral 0 11 (part (t TemplateElement "x" 1 2 none) (part (id "a" 4) (three (t TemplateElement "" 6 6 none) (id "b" 8) (t TemplateElement "" 10 10 none)))))))

middle : tree_goal template_tree 5 ≡ TemplateTail
middle = refl

tail : tree_goal template_tree 9 ≡ TemplateTail
tail = refl

-- an element's own start is none of a token's
behind_middle : tree_goal template_tree 6 ≡ Div
behind_middle = refl

name_in_template : tree_goal template_tree 4 ≡ Div
name_in_template = refl

-- `{ a }`
block_end : tree_goal (program 5 (one (n BlockStatement 0 5 (one (st 2 3 (id "a" 2)))))) 4 ≡ Div
block_end = refl

-- the token of a class and a word behind a gap
abbrev token_of : ℕ → TokenClass → List ℕ → List ℕ → LexicalToken
token_of at class gap word = record { class = class; text = encode_utf8_all word; start = at + size gap; stop = at + size gap + size word; after_break = list_any is_line_terminator gap }

found : (goal : Goal) (at : ℕ) (class : TokenClass) (gap word rest : List ℕ) → Separators gap (word ++ rest) → IsTrue (not (begins_comment (word ++ rest))) →
    IsTrue (is_token class word rest) → IsTrue (allows goal class word) → IsTokenAt goal at (gap ++ word ++ rest) (token_of at class gap word) rest
found goal at class gap word rest separated no_comment longest allowed =
    record { gap = gap; word = word; split = refl; separated = separated; no_comment = no_comment; longest = longest; allowed = allowed; text = refl; start = refl; stop = refl; after_break = refl }

abbrev token : TokenClass → String → ℕ → ℕ → LexicalToken
token class text start stop = record { class = class; text = codes text; start = start; stop = stop; after_break = false }

-- ` '' /''`: a division
read_as_division : IsTreeReading (program 7 (one (st 1 7 (t BinaryExpression "/" 1 7 (two (lit "''" 1) (lit "''" 5)))))) 0 (codes " '' /''") (token StringLiteral "''" 1 3 ∷ token Punctuator "/" 4 5 ∷ token StringLiteral "''" 5 7 ∷ token End "" 7 7 ∷ [])
unfolding encode_utf8
read_as_division =
    more (found Div 0 StringLiteral (codes " ") (codes "''") (codes " /''") (blank refl nothing) refl refl refl) refl
    (more (found Div 3 Punctuator (codes " ") (codes "/") (codes "''") (blank refl nothing) refl refl refl) refl
    (more (found Div 5 StringLiteral [] (codes "''") [] nothing refl refl refl) refl
    (last (found Div 7 End [] [] [] nothing refl refl refl) refl)))

-- "`${''/''}`": a division, then the end of the template
read_as_template : IsTreeReading (program 10 (one (st 0 10 (n TemplateLiteral 0 10 (three (t TemplateElement "" 1 1 none) (t BinaryExpression "/" 3 8 (two (lit "''" 3) (lit "''" 6))) (t TemplateElement "" 9 9 none)))))) 0 (codes "`${''/''}`")
    (token Template "`${" 0 3 ∷ token StringLiteral "''" 3 5 ∷ token Punctuator "/" 5 6 ∷ token StringLiteral "''" 6 8 ∷ token Template "}`" 8 10 ∷ token End "" 10 10 ∷ [])
unfolding encode_utf8
read_as_template =
    more (found TemplateTail 0 Template [] (codes "`${") (codes "''/''}`") nothing refl refl refl) refl
    (more (found Div 3 StringLiteral [] (codes "''") (codes "/''}`") nothing refl refl refl) refl
    (more (found Div 5 Punctuator [] (codes "/") (codes "''}`") nothing refl refl refl) refl
    (more (found Div 6 StringLiteral [] (codes "''") (codes "}`") nothing refl refl refl) refl
    (more (found TemplateTail 8 Template [] (codes "}`") [] nothing refl refl refl) refl
    (last (found Div 10 End [] [] [] nothing refl refl refl) refl)))))

-- `/''/`: a regular expression, and what a tree with a string there, which the text doesn't derive, reads
abbrev expression_tree : Tree
expression_tree = program 4 (one (st 0 4 (lit "/''/" 0)))

abbrev string_tree : Tree
string_tree = program 4 (one (st 1 3 (lit "''" 1)))

abbrev expression_tokens : List LexicalToken
expression_tokens = token RegularExpressionLiteral "/''/" 0 4 ∷ token End "" 4 4 ∷ []

abbrev string_tokens : List LexicalToken
string_tokens = token Punctuator "/" 0 1 ∷ token StringLiteral "''" 1 3 ∷ token Punctuator "/" 3 4 ∷ token End "" 4 4 ∷ []

read_as_expression : IsTreeReading expression_tree 0 (codes "/''/") expression_tokens
unfolding encode_utf8
read_as_expression = more (found RegExp 0 RegularExpressionLiteral [] (codes "/''/") [] nothing refl refl refl) refl (last (found Div 4 End [] [] [] nothing refl refl refl) refl)

read_as_string : IsTreeReading string_tree 0 (codes "/''/") string_tokens
unfolding encode_utf8
read_as_string =
    more (found Div 0 Punctuator [] (codes "/") (codes "''/") nothing refl refl refl) refl
    (more (found Div 1 StringLiteral [] (codes "''") (codes "/") nothing refl refl refl) refl
    (more (found Div 3 Punctuator [] (codes "/") [] nothing refl refl refl) refl
    (last (found Div 4 End [] [] [] nothing refl refl refl) refl)))

-- neither tree reads what the other does
abbrev first_is_regexp : List LexicalToken → Bool
first_is_regexp [] = false
first_is_regexp (t ∷ ts) = is_regexp t.class

no_expression : IsTreeReading string_tree 0 (codes "/''/") expression_tokens → ⊥
no_expression r = true≢false (ap first_is_regexp (one_tree_reading string_tree 0 (codes "/''/") expression_tokens string_tokens r read_as_string))

no_string : IsTreeReading expression_tree 0 (codes "/''/") string_tokens → ⊥
no_string r = true≢false (ap first_is_regexp (one_tree_reading expression_tree 0 (codes "/''/") expression_tokens string_tokens read_as_expression r))
