-- Examples: reserved words and names, which symbols positions take, and tokens as the table has them.
use Rattle.std.specs.Prelude.{◌≡◌, Bool, true, false, not, ◌&&◌, List, [], ◌∷◌, refl, codes}
use Prim.Native.String.{String}
use Rattle.language.specs.declared.Rank.TheVariants.{Expression, Assignment, ShortCircuit, Coalesce, LogicalOr, LogicalAnd, BitwiseOr, Exponentiation, Unary, LeftHandSide, New, Call, Member, Grouped}
use Rattle.tokens.specs.declared.token.TokenClass.TheVariants.{Template, StringLiteral}
use Rattle.language.specs.Vocabulary.{is_reserved, takes}
use Rattle.language.specs.Token.{as_read}

abbrev all_reserved : List String → Bool
all_reserved [] = true
all_reserved (w ∷ ws) = is_reserved (codes w) && all_reserved ws

abbrev none_reserved : List String → Bool
none_reserved [] = true
none_reserved (w ∷ ws) = not (is_reserved (codes w)) && none_reserved ws

reserved : all_reserved ("break" ∷ "case" ∷ "catch" ∷ "class" ∷ "const" ∷ "continue" ∷ "debugger" ∷ "default" ∷ "delete" ∷ "do" ∷ "else" ∷ "enum" ∷ "export" ∷ "extends" ∷ "false" ∷ "finally" ∷ "for" ∷ "function" ∷ "if" ∷ "import" ∷ "in" ∷ "instanceof" ∷ "new" ∷ "null" ∷ "return" ∷ "super" ∷ "switch" ∷ "this" ∷ "throw" ∷ "true" ∷ "try" ∷ "typeof" ∷ "var" ∷ "void" ∷ "while" ∷ "with" ∷ "yield" ∷ "let" ∷ "static" ∷ "implements" ∷ "interface" ∷ "package" ∷ "private" ∷ "protected" ∷ "public" ∷ []) ≡ true
unfolding is_reserved
reserved = refl

not_reserved : none_reserved ("await" ∷ "async" ∷ "of" ∷ "get" ∷ "set" ∷ "eval" ∷ "arguments" ∷ "undefined" ∷ "target" ∷ "constructor" ∷ "If" ∷ "i" ∷ "iff" ∷ "" ∷ []) ≡ true
unfolding is_reserved
not_reserved = refl

-- looser positions take tighter symbols
taken : takes Expression Grouped && takes Coalesce BitwiseOr && takes New New && takes New Member && takes Unary Unary && takes ShortCircuit Coalesce && takes ShortCircuit LogicalOr && takes LeftHandSide Call ≡ true
taken = refl

not_taken : not (takes Assignment Expression) && not (takes Coalesce LogicalOr) && not (takes Coalesce LogicalAnd) && not (takes New Call) && not (takes Unary Exponentiation) && not (takes Member Call) && not (takes LogicalAnd LogicalOr) ≡ true
not_taken = refl

-- a template token with a CR LF and a CR, as the table has it
template_as_read : (as_read (record { class = Template; text = 96 ∷ 13 ∷ 10 ∷ 97 ∷ 13 ∷ 96 ∷ []; start = 0; stop = 6; after_break = false })).text ≡ 96 ∷ 10 ∷ 97 ∷ 10 ∷ 96 ∷ []
template_as_read = refl

-- any other token as it stands
string_as_read : (as_read (record { class = StringLiteral; text = 39 ∷ 92 ∷ 13 ∷ 10 ∷ 39 ∷ []; start = 0; stop = 5; after_break = false })).text ≡ 39 ∷ 92 ∷ 13 ∷ 10 ∷ 39 ∷ []
string_as_read = refl
