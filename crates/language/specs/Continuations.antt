-- What can go on behind an expression: a test on its symbol and In, its right edge, the token with which it ends and the token that follows.
use Rattle.std.specs.Prelude.{ℕ, Bool, true, false, not, cond, ◌&&◌, ◌||◌, List, nat_le, nat_eq, slice_index_or, Option, Some, None}
use Rattle.language.specs.declared.Rank.{Rank}
use Rattle.language.specs.declared.Rank.TheVariants.{Expression, Assignment, Conditional, Exponentiation, Update, LeftHandSide, Call, Member}
use Rattle.language.specs.declared.Edge.{Edge}
use Rattle.language.specs.declared.Edge.TheVariants.{Arrow, Postfix, Other, Closed}
use Rattle.tokens.specs.declared.token.TokenClass.{TokenClass}
use Rattle.tokens.specs.declared.token.TokenClass.TheVariants.{IdentifierName, Punctuator, Template}
use Rattle.language.specs.Vocabulary.{is, takes, precedence, is_word_operator, Operator, op_binary, op_power, op_assign, op_update, op_comma, op_question, op_dot, op_call, op_index, op_optional, op_arrow, op_template, op_none, operator_of}
use Rattle.language.specs.Edges.{edge_as_written}
use Rattle.language.specs.Token.{Token}

-- what a token makes of what stands before it: a word or a sign by its text, a template as one behind a tag
abbrev pub of_class : TokenClass → List ℕ → Operator
of_class IdentifierName text = cond (is_word_operator text) (operator_of text) op_none
of_class Punctuator text = cond (is_word_operator text) op_none (operator_of text)
of_class Template text = cond (nat_eq (slice_index_or text 0 0) 96) op_template op_none
of_class _ text = op_none

abbrev pub operation : Token → Operator
operation token = of_class token.class token.text

-- the symbol of the node that it makes; `++`, `--` and `=>` make none behind a line break
abbrev pub rank_made_by : Operator → Bool → Option Rank
rank_made_by (op_binary l z q) b = Some z
rank_made_by op_power b = Some Exponentiation
rank_made_by op_assign b = Some Assignment
rank_made_by op_update b = cond b None (Some Update)
rank_made_by op_comma b = Some Expression
rank_made_by op_question b = Some Conditional
rank_made_by op_dot b = Some Member
rank_made_by op_call b = Some Call
rank_made_by op_index b = Some Member
rank_made_by op_optional b = Some LeftHandSide
rank_made_by op_arrow b = cond b None (Some Assignment)
rank_made_by op_template b = Some Member
rank_made_by op_none b = None

-- the right edge can be the left part of a node at the symbol
abbrev pub holds : Edge → Rank → Bool
holds Arrow rank = nat_eq (precedence rank) 0
holds Postfix rank = nat_le (precedence rank) 15 && not (nat_eq (precedence rank) 1)
holds Other rank = true
holds Closed rank = false

abbrev pub stops_at : Rank → Bool → Edge → Token → Option Rank → Bool
stops_at rank i edge token None = true
stops_at rank i edge token (Some z) = not (takes rank z) || ((is token.text "in" && not i) || not (holds edge z))

-- nothing goes on behind the last token with t, of what stands at the symbol
abbrev pub stops : Rank → Bool → Edge → Token → Token → Bool
stops rank i edge last t = stops_at rank i (edge_as_written edge last) t (rank_made_by (operation t) t.after_break)
