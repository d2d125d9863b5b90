-- Symbols, operators, words and kinds (ECMA-262 11.6.2, 12.5 to 12.15).
use Rattle.std.specs.Prelude.{ℕ, Bool, true, false, not, cond, ◌&&◌, ◌||◌, List, [], ◌∷◌, nat_le, nat_eq, codes, slice_index_or}
use Rattle.std.specs.Str.{bytes_eq}
use Prim.Native.String.{String}
pub use Rattle.tree.specs.Kinds.{is_identifier, is_private, is_pattern, is_rest, is_spread, is_super, is_target}
use Rattle.language.specs.declared.Rank.{Rank}
use Rattle.language.specs.declared.Rank.TheVariants.{Expression, Assignment, Conditional, ShortCircuit, Coalesce, LogicalOr, LogicalAnd, BitwiseOr, BitwiseXor, BitwiseAnd, Equality, Relational, Shift, Additive, Multiplicative, Exponentiation, Unary, Update, LeftHandSide, New, Call, Member, Primary, Grouped}
use Rattle.tokens.specs.declared.token.TokenClass.{TokenClass}
use Rattle.tokens.specs.declared.token.TokenClass.TheVariants.{IdentifierName, NumericLiteral, StringLiteral, RegularExpressionLiteral}

abbrev pub is : List ℕ → String → Bool
is text s = bytes_eq text (codes s)

abbrev pub among : List ℕ → List String → Bool
among text [] = false
among text (s ∷ ss) = is text s || among text ss

-- from the loosest symbol to the tightest; `Grouped` is tighter than any, so nothing stands there but a group
abbrev pub precedence : Rank → ℕ
precedence Expression = 0
precedence Assignment = 1
precedence Conditional = 2
precedence ShortCircuit = 3
precedence Coalesce = 4
precedence LogicalOr = 5
precedence LogicalAnd = 6
precedence BitwiseOr = 7
precedence BitwiseXor = 8
precedence BitwiseAnd = 9
precedence Equality = 10
precedence Relational = 11
precedence Shift = 12
precedence Additive = 13
precedence Multiplicative = 14
precedence Exponentiation = 15
precedence Unary = 16
precedence Update = 17
precedence LeftHandSide = 18
precedence New = 19
precedence Call = 20
precedence Member = 21
precedence Primary = 22
precedence Grouped = 23

-- A position takes what stands at its symbol or at a tighter one. `Coalesce`, the left side of `??`, takes no `||` and no `&&`;
-- `New`, behind a `new` without arguments, takes no call.
abbrev pub takes_number : ℕ → ℕ → Bool
takes_number y z = nat_le y z && (not (nat_eq y 4 && (nat_eq z 5 || nat_eq z 6)) && not (nat_eq y 19 && nat_eq z 20))

abbrev pub takes : Rank → Rank → Bool
takes y z = takes_number (precedence y) (precedence z)

-- What a token between two expressions, or behind one, makes: each text has one meaning. `op_binary` has a flag for a logical
-- operator, the symbol of the node and of its left side, and the symbol of its right side. Then `**`, an assignment, `++` and
-- `--`, a comma, the `?` of a conditional, `.`, arguments, `[`, `?.`, `=>`, and a template behind a tag, which isn't told by its text.
pub data Operator : Type 0 where
  op_binary : Bool → Rank → Rank → Operator
  op_power op_assign op_update op_comma op_question op_dot op_call op_index op_optional op_arrow op_template op_none : Operator

-- the texts of each operator
abbrev pub operators : List (List String × Operator)
operators =
    ("|" ∷ [], op_binary false BitwiseOr BitwiseXor) ∷
    ("^" ∷ [], op_binary false BitwiseXor BitwiseAnd) ∷
    ("&" ∷ [], op_binary false BitwiseAnd Equality) ∷
    ("==" ∷ "!=" ∷ "===" ∷ "!==" ∷ [], op_binary false Equality Relational) ∷
    ("<" ∷ ">" ∷ "<=" ∷ ">=" ∷ "instanceof" ∷ "in" ∷ [], op_binary false Relational Shift) ∷
    ("<<" ∷ ">>" ∷ ">>>" ∷ [], op_binary false Shift Additive) ∷
    ("+" ∷ "-" ∷ [], op_binary false Additive Multiplicative) ∷
    ("*" ∷ "/" ∷ "%" ∷ [], op_binary false Multiplicative Exponentiation) ∷
    ("??" ∷ [], op_binary true Coalesce BitwiseOr) ∷
    ("||" ∷ [], op_binary true LogicalOr LogicalAnd) ∷
    ("&&" ∷ [], op_binary true LogicalAnd BitwiseOr) ∷
    ("**" ∷ [], op_power) ∷
    ("++" ∷ "--" ∷ [], op_update) ∷
    ("=" ∷ "+=" ∷ "-=" ∷ "*=" ∷ "/=" ∷ "%=" ∷ "**=" ∷ "<<=" ∷ ">>=" ∷ ">>>=" ∷ "&=" ∷ "|=" ∷ "^=" ∷ "&&=" ∷ "||=" ∷ "??=" ∷ [], op_assign) ∷
    ("," ∷ [], op_comma) ∷
    ("?" ∷ [], op_question) ∷
    ("." ∷ [], op_dot) ∷
    ("(" ∷ [], op_call) ∷
    ("[" ∷ [], op_index) ∷
    ("?." ∷ [], op_optional) ∷
    ("=>" ∷ [], op_arrow) ∷
    []

abbrev pub operator_among : List ℕ → List (List String × Operator) → Operator
operator_among text [] = op_none
operator_among text (row ∷ rows) = cond (among text row.0) row.1 (operator_among text rows)

abbrev pub operator_of : List ℕ → Operator
operator_of text = operator_among text operators

abbrev pub is_assign_op : Operator → Bool
is_assign_op op_assign = true
is_assign_op _ = false

abbrev pub is_update_op : Operator → Bool
is_update_op op_update = true
is_update_op _ = false

abbrev pub is_assignment : List ℕ → Bool
is_assignment text = is_assign_op (operator_of text)

abbrev pub is_update_operator : List ℕ → Bool
is_update_operator text = is_update_op (operator_of text)

abbrev pub is_word_operator : List ℕ → Bool
is_word_operator text = among text ("delete" ∷ "void" ∷ "typeof" ∷ "in" ∷ "instanceof" ∷ [])

abbrev pub is_prefix : List ℕ → Bool
is_prefix text = among text ("delete" ∷ "void" ∷ "typeof" ∷ "+" ∷ "-" ∷ "~" ∷ "!" ∷ [])

unfoldable pub is_reserved : List ℕ → Bool
is_reserved text = among text ("break" ∷ "case" ∷ "catch" ∷ "class" ∷ "const" ∷ "continue" ∷ "debugger" ∷ "default" ∷ "delete" ∷ "do" ∷ "else" ∷ "enum" ∷ "export" ∷ "extends" ∷ "false" ∷ "finally" ∷ "for" ∷ "function" ∷ "if" ∷ "import" ∷ "in" ∷ "instanceof" ∷ "new" ∷ "null" ∷ "return" ∷ "super" ∷ "switch" ∷ "this" ∷ "throw" ∷ "true" ∷ "try" ∷ "typeof" ∷ "var" ∷ "void" ∷ "while" ∷ "with" ∷ "yield" ∷ "let" ∷ "static" ∷ "implements" ∷ "interface" ∷ "package" ∷ "private" ∷ "protected" ∷ "public" ∷ [])

-- these words, for what is shown of each of them
abbrev pub reserved_words : List String
reserved_words = "break" ∷ "case" ∷ "catch" ∷ "class" ∷ "const" ∷ "continue" ∷ "debugger" ∷ "default" ∷ "delete" ∷ "do" ∷ "else" ∷ "enum" ∷ "export" ∷ "extends" ∷ "false" ∷ "finally" ∷ "for" ∷ "function" ∷ "if" ∷ "import" ∷ "in" ∷ "instanceof" ∷ "new" ∷ "null" ∷ "return" ∷ "super" ∷ "switch" ∷ "this" ∷ "throw" ∷ "true" ∷ "try" ∷ "typeof" ∷ "var" ∷ "void" ∷ "while" ∷ "with" ∷ "yield" ∷ "let" ∷ "static" ∷ "implements" ∷ "interface" ∷ "package" ∷ "private" ∷ "protected" ∷ "public" ∷ []

-- what the language of 2022 reserves and the base profile doesn't
unfoldable pub is_keyword : List ℕ → Bool
is_keyword text = among text ("await" ∷ [])

-- what a literal's text is: its first character tells
abbrev pub literal_class : List ℕ → TokenClass
literal_class text =
    let c = slice_index_or text 0 0 in
    cond (nat_eq c 34 || nat_eq c 39) StringLiteral (cond (nat_eq c 47) RegularExpressionLiteral (cond (nat_eq c 46 || (nat_le 48 c && nat_le c 57)) NumericLiteral IdentifierName))

abbrev pub is_string : TokenClass → Bool
is_string StringLiteral = true
is_string _ = false

abbrev pub is_name : TokenClass → Bool
is_name IdentifierName = true
is_name _ = false

-- a number that a `.` behind it would join: any but one with the suffix n
abbrev pub is_open_number : TokenClass → List ℕ → Bool
is_open_number NumericLiteral text = not (ends_in_n text)
  where
    ends_in_n : List ℕ → Bool
    ends_in_n [] = false
    ends_in_n (c ∷ []) = nat_eq c 110
    ends_in_n (c ∷ d ∷ cs) = ends_in_n (d ∷ cs)
is_open_number _ text = false
