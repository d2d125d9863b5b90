-- Examples: what a statement begins with, and what may follow one.
use Rattle.std.specs.Prelude.{◌≡◌, Bool, true, false, not, ◌&&◌, List, [], ◌∷◌, refl, codes}
use Prim.Native.String.{String}
use Rattle.tokens.specs.declared.token.TokenClass.{TokenClass}
use Rattle.tokens.specs.declared.token.TokenClass.TheVariants.{IdentifierName, Punctuator, NumericLiteral, StringLiteral, Template, End}
use Rattle.language.specs.Vocabulary.{is_reserved}
use Rattle.language.specs.Token.{Token}
use Rattle.language.specs.StatementStart.{a_block, a_variable, a_return, a_class, an_expression, statement_start, begins_item}
use Rattle.language.specs.Following.{ends_list, may_follow}

abbrev tk : TokenClass → String → Token
tk c s = record { class = c; text = codes s; start = 0; stop = 0; after_break = false }

abbrev all_begin : TokenClass → List String → Bool
all_begin c [] = true
all_begin c (w ∷ ws) = begins_item (tk c w) && all_begin c ws

abbrev none_begin : TokenClass → List String → Bool
none_begin c [] = true
none_begin c (w ∷ ws) = not (begins_item (tk c w)) && none_begin c ws

-- `let` declares among items, and begins no statement; `return` stands in functions alone
let_item : statement_start true false (tk IdentifierName "let") ≡ a_variable
let_item = refl

let_statement : statement_start false true (tk IdentifierName "let") ≡ an_expression
let_statement = refl

var_statement : statement_start false false (tk IdentifierName "var") ≡ a_variable
var_statement = refl

return_in_function : statement_start false true (tk IdentifierName "return") ≡ a_return
return_in_function = refl

return_outside : statement_start true false (tk IdentifierName "return") ≡ an_expression
return_outside = refl

-- braces are a block, a class a declaration, and a name may be a label
brace : statement_start true false (tk Punctuator "{") ≡ a_block
brace = refl

class_item : statement_start true false (tk IdentifierName "class") ≡ a_class
class_item = refl

name_item : statement_start true true (tk IdentifierName "iff") ≡ an_expression
name_item = refl

-- what begins an item
words_begin : all_begin IdentifierName ("a" ∷ "async" ∷ "this" ∷ "new" ∷ "typeof" ∷ "if" ∷ "for" ∷ "let" ∷ "function" ∷ "class" ∷ "super" ∷ "import" ∷ "true" ∷ []) ≡ true
unfolding is_reserved
words_begin = refl

words_that_do_not : none_begin IdentifierName ("else" ∷ "case" ∷ "default" ∷ "in" ∷ "instanceof" ∷ "catch" ∷ "finally" ∷ "extends" ∷ "with" ∷ "static" ∷ []) ≡ true
unfolding is_reserved
words_that_do_not = refl

signs_begin : all_begin Punctuator ("{" ∷ ";" ∷ "(" ∷ "[" ∷ "++" ∷ "--" ∷ "+" ∷ "-" ∷ "~" ∷ "!" ∷ []) ≡ true
signs_begin = refl

signs_that_do_not : none_begin Punctuator ("}" ∷ ")" ∷ "]" ∷ "," ∷ "." ∷ "=>" ∷ "=" ∷ "*" ∷ "/" ∷ "?" ∷ ":" ∷ "..." ∷ []) ≡ true
signs_that_do_not = refl

others_begin : begins_item (tk NumericLiteral "1") && begins_item (tk StringLiteral "'a'") && begins_item (tk TokenClass.RegularExpressionLiteral "/a/") && begins_item (tk Template "`a`") ≡ true
others_begin = refl

tail_begins_none : begins_item (tk Template "}`") ≡ false
tail_begins_none = refl

-- what ends a list, and what may follow a statement: `else` where it doesn't end in an `if` without one
lists_end : ends_list (tk Punctuator "}") && ends_list (tk End "") && ends_list (tk IdentifierName "case") && ends_list (tk IdentifierName "default") ≡ true
lists_end = refl

lists_go_on : not (ends_list (tk IdentifierName "else")) && not (ends_list (tk Punctuator ")")) && not (ends_list (tk StringLiteral "'}'")) ≡ true
lists_go_on = refl

else_follows : may_follow false (tk IdentifierName "else") ≡ true
unfolding is_reserved
else_follows = refl

else_dangles : may_follow true (tk IdentifierName "else") ≡ false
unfolding is_reserved
else_dangles = refl

dot_follows_none : may_follow false (tk Punctuator ".") ≡ false
dot_follows_none = refl
