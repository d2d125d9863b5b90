-- Where a statement ends without `;` (ECMA-262 11.9.1).
use Rattle.std.specs.Prelude.{ℕ, List, Bool, true, false, not, cond, ◌&&◌, ◌||◌, [], ◌∷◌, nat_eq, slice_index_or}
use Rattle.tree.specs.declared.kind.Kind.{Kind}
use Rattle.tree.specs.declared.kind.Kind.TheVariants.{SequenceExpression, AssignmentExpression, BinaryExpression, LogicalExpression, ConditionalExpression, UnaryExpression, AwaitExpression, YieldExpression, UpdateExpression, ArrowFunctionExpression, VariableDeclaration, VariableDeclarator, IfStatement, LabeledStatement, WhileStatement, ForStatement, ForInStatement, ForOfStatement}
use Rattle.language.specs.declared.Edge.{Edge}
use Rattle.language.specs.declared.Edge.TheVariants.{Arrow, Postfix, Other, Closed}
use Rattle.tokens.specs.declared.token.TokenClass.{TokenClass}
use Rattle.tokens.specs.declared.token.TokenClass.TheVariants.{IdentifierName, NumericLiteral, StringLiteral, PrivateName, Keyword, Punctuator, End}
use Rattle.tree.specs.Tree.{Tree, node, Parts, none, part, gap}
use Rattle.language.specs.Vocabulary.{is, among}
use Rattle.language.specs.Pieces.{Ending, of_do, of_export, behind, behind_value, behind_key}
use Rattle.language.specs.Token.{Token}

-- nodes whose right edge is that of their last part
abbrev pub goes_right : Kind → Bool
goes_right SequenceExpression = true
goes_right AssignmentExpression = true
goes_right BinaryExpression = true
goes_right LogicalExpression = true
goes_right ConditionalExpression = true
goes_right UnaryExpression = true
goes_right AwaitExpression = true
goes_right VariableDeclaration = true
goes_right VariableDeclarator = true
goes_right _ = false

abbrev pub is_arrow : Kind → Bool
is_arrow ArrowFunctionExpression = true
is_arrow _ = false

abbrev pub is_update : Kind → Bool
is_update UpdateExpression = true
is_update _ = false

abbrev pub is_yield : Kind → Bool
is_yield YieldExpression = true
is_yield _ = false

-- that of a `yield`, by its operand's: without one nothing goes on, as behind an arrow with a body in braces
abbrev pub operand_edge : Edge → Edge
operand_edge Closed = Arrow
operand_edge x = x

abbrev mutual
  -- the right edge of a tree, groups aside
  pub edge : Tree → Edge
  edge (node kind text flags from to parts) =
      cond (goes_right kind) (last_edge parts) (
      cond (is_arrow kind) (cond flags.expression (last_edge parts) Arrow) (
      cond (is_update kind) (cond flags.prefix Other Postfix) (
      cond (is_yield kind) (operand_edge (last_edge parts)) Other)))

  pub last_edge : Parts → Edge
  last_edge none = Closed
  last_edge (part tree none) = edge tree
  last_edge (part tree (part m ps)) = last_edge (part m ps)
  last_edge (part tree (gap ps)) = last_edge ps
  last_edge (gap rest) = last_edge rest

-- statements that end as their last part does
abbrev pub trails : Kind → Bool
trails IfStatement = true
trails LabeledStatement = true
trails WhileStatement = true
trails ForStatement = true
trails ForInStatement = true
trails ForOfStatement = true
trails _ = false

abbrev mutual
  -- it ends in an `if` without `else`
  pub ends_in_if : Tree → Bool
  ends_in_if (node kind text flags from to parts) = cond (trails kind) (last_ends_in_if parts) false

  pub last_ends_in_if : Parts → Bool
  last_ends_in_if none = true
  last_ends_in_if (part tree none) = ends_in_if tree
  last_ends_in_if (part tree (part m ps)) = last_ends_in_if (part m ps)
  last_ends_in_if (part tree (gap ps)) = last_ends_in_if ps
  last_ends_in_if (gap rest) = last_ends_in_if rest

abbrev pub is_sign_class : TokenClass → Bool
is_sign_class Punctuator = true
is_sign_class _ = false

abbrev pub is_sign : Token → Bool
is_sign token = is_sign_class token.class

abbrev pub is_end : Token → Bool
is_end token = at_end token.class
  where
    at_end : TokenClass → Bool
    at_end End = true
    at_end _ = false

abbrev pub is_word : Token → Bool
is_word token = of_name token.class
  where
    of_name : TokenClass → Bool
    of_name IdentifierName = true
    of_name _ = false

-- the right edge as it stands: behind a `)` it is that of a grouped node
abbrev pub edge_as_written : Edge → Token → Edge
edge_as_written Arrow last = cond (is last.text ")") Other Arrow
edge_as_written Postfix last = cond (is last.text ")") Other Postfix
edge_as_written Other last = Other
edge_as_written Closed last = Closed

abbrev pub begins : Token → ℕ → Bool
begins token c = nat_eq (slice_index_or token.text 0 0) c

-- what may stand behind a `yield` without operand: what closes it, or something behind a line break
abbrev pub begins_no_operand : Token → Bool
begins_no_operand token = token.after_break || (is_end token || (begins token 125 || (is_sign token && among token.text (")" ∷ "]" ∷ "," ∷ ";" ∷ ":" ∷ []))))

-- the ending goes on with the token
abbrev pub goes_on : Edge → Token → Bool
goes_on Arrow token = false
goes_on Closed token = false
goes_on Postfix token = (is_sign token && among token.text ("+" ∷ "-" ∷ [])) || begins token 47
goes_on Other token = (is_sign token && among token.text ("+" ∷ "-" ∷ "(" ∷ "[" ∷ [])) || (begins token 47 || begins token 96)

-- the value of a field goes on with the token: what begins members counts too, since no statement begins so
abbrev pub value_goes_on : Edge → Token → Bool
value_goes_on x token = goes_on x token || (takes_operators x && ((is_sign token && is token.text "*") || (is_word token && among token.text ("in" ∷ "instanceof" ∷ []))))
  where
    takes_operators : Edge → Bool
    takes_operators Postfix = true
    takes_operators Other = true
    takes_operators _ = false

-- a member's key may begin with the token
abbrev pub begins_key : Token → Bool
begins_key token = of_class token.class || (is_sign token && is token.text "[")
  where
    of_class : TokenClass → Bool
    of_class IdentifierName = true
    of_class NumericLiteral = true
    of_class StringLiteral = true
    of_class PrivateName = true
    of_class Keyword = true
    of_class _ = false

-- a field without value goes on with the token: its key is the word of another member
abbrev pub key_goes_on : List ℕ → Bool → Token → Bool
key_goes_on text is_static token =
    (among text ("get" ∷ "set" ∷ []) && begins_key token)
    || ((is text "static" && not is_static) && (begins_key token || (is_sign token && is token.text "*")))

abbrev pub is_semicolon : Token → Bool
is_semicolon token = is_sign token && is token.text ";"

-- the `;` may be missing between these two tokens
abbrev pub may_omit_semicolon : Ending → Token → Token → Bool
may_omit_semicolon e last t = not (is_semicolon t) && ((is_end t || (is_sign t && is t.text "}")) || there e)
  where
    there : Ending → Bool
    there of_do = true
    there (behind_value x) = t.after_break && not (value_goes_on (edge_as_written x last) t)
    there (behind_key w s) = t.after_break && not (key_goes_on w s t)
    there of_export = t.after_break && not (is_word t && is t.text "from")
    there (behind x) = t.after_break && not (goes_on (edge_as_written x last) t)
