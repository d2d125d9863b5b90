-- What an operator between two operands makes.
use Rattle.std.specs.Prelude.{ℕ, true, false, List, Option, Some, None}
use Rattle.language.specs.declared.Rank.{Rank}
use Rattle.language.specs.declared.Rank.TheVariants.{Exponentiation, Update}
use Rattle.language.specs.Vocabulary.{Operator, op_binary, op_power, operator_of}
use Rattle.language.specs.Grammar.{production_rank}
use Rattle.grammar.specs.Infix.{is_logical}
use Rattle.grammar.specs.declared.infix.BinaryOperator.{BinaryOperator}
use Rattle.grammar.specs.declared.infix.InfixOperator.{InfixOperator as Coded}
use Rattle.grammar.specs.declared.infix.InfixOperator.TheVariants as code
use Rattle.grammar.specs.declared.operators.Operation.{Operation}
use Rattle.grammar.specs.declared.operators.Operation.TheVariants.{Binds, Powers, Other}

abbrev pub operation : Operator → Operation
operation (op_binary l z q) = Binds l z q
operation op_power = Powers
operation _ = Other

-- what a text makes
unfoldable pub operation_at : List ℕ → Operation
operation_at w = operation (operator_of w)

-- what a binary or logical operator of the code makes: only `**` has a side at the symbol of an update
abbrev pub operation_by_sign : BinaryOperator → Operation
operation_by_sign sign = by sign.left
  where
    by : Rank → Operation
    by Update = Powers
    by z = Binds (is_logical sign.kind) sign.own sign.right

abbrev pub operation_by : Coded → Operation
operation_by (code.Binary sign) = operation_by_sign sign
operation_by _ = Other

-- the symbol of its node, where it is a binary operator, and where it is a logical one
abbrev pub rank_of_binary : Operation → Option Rank
rank_of_binary (Binds false z q) = Some (production_rank z)
rank_of_binary Powers = Some Exponentiation
rank_of_binary _ = None

abbrev pub rank_of_logical : Operation → Option Rank
rank_of_logical (Binds true z q) = Some (production_rank z)
rank_of_logical _ = None
