-- What an operator makes of what stands before it, or behind it.
use Rattle.std.specs.Prelude.{ℕ, Bool, true, false, cond, ◌&&◌, List, [], ◌∷◌}
use Rattle.language.specs.declared.Rank.{Rank}
use Rattle.language.specs.declared.Rank.TheVariants.{Assignment, Conditional, ShortCircuit, LeftHandSide, Unary, Update}
use Rattle.language.specs.declared.Edge.TheVariants.{Other}
use Rattle.language.specs.Vocabulary.{among, is_keyword, takes}
use Rattle.tree.specs.declared.kind.Kind.{Kind}
use Rattle.tree.specs.declared.kind.Kind.TheVariants.{UpdateExpression, UnaryExpression, AwaitExpression, ConditionalExpression, AssignmentExpression}
use Rattle.tree.specs.declared.kind.Flags.{Flags}
use Rattle.tree.specs.Tree.{Tree, node, part, none, plain}
use Rattle.covers.specs.declared.shape.CoverShape.{CoverShape}
use Rattle.tree.specs.Patterns.{pattern_tree}
use Rattle.covers.specs.Shapes.{defaulted, is_pattern, is_target, value}
use Rattle.parser_tables.specs.declared.operand.Operand.{Operand}
use Rattle.grammar.specs.declared.infix.InfixOperator.{InfixOperator}
use Rattle.grammar.specs.declared.infix.InfixOperator.TheVariants.{Binary, Assign, Question}
use Rattle.recursive_descent.specs.declared.expressions.LeftOperand.{LeftOperand}
use Rattle.parser_tables.specs.Operands.{plain_part}

-- the symbol of the left side
abbrev pub left_rank : InfixOperator → Rank
left_rank (Binary sign) = sign.left
left_rank Question = ShortCircuit
left_rank _ = LeftHandSide

-- the operator has a left side, which may have this shape
abbrev pub takes_shape : InfixOperator → CoverShape → Bool
takes_shape (Binary sign) s = s.is_expression
takes_shape Question s = s.is_expression
takes_shape (Assign true) s = is_pattern s.assigned
takes_shape (Assign false) s = is_target s.assigned
takes_shape _ s = false

abbrev pub takes_left : InfixOperator → Operand → Bool
takes_left o p = takes (left_rank o) p.rank && takes_shape o p.cover.shape

-- what it makes of it: of an operator between two expressions by its sign, of an assignment the target or the pattern, else the test of a
-- conditional
abbrev pub left_of : InfixOperator → Operand → LeftOperand
left_of (Binary sign) p = record { node = p.cover.node; kind = sign.kind; own = sign.own; right = sign.right; shape = value }
left_of (Assign true) p = record { node = pattern_tree p.cover.node; kind = AssignmentExpression; own = Assignment; right = Assignment; shape = defaulted p.cover.shape }
left_of (Assign false) p = record { node = pattern_tree p.cover.node; kind = AssignmentExpression; own = Assignment; right = Assignment; shape = value }
left_of _ p = record { node = p.cover.node; kind = ConditionalExpression; own = Conditional; right = Assignment; shape = value }

-- the text of the node: a conditional has none
abbrev pub operator_text_of : Kind → List ℕ → List ℕ
operator_text_of ConditionalExpression w = []
operator_text_of k w = w

-- the flags of `++` and `--` before their operand
abbrev pub before : Flags
before = record plain { prefix = true }

-- an operator before its operand steps it, or is unary
abbrev pub is_prefix_update : List ℕ → Bool
is_prefix_update w = among w ("++" ∷ "--" ∷ [])

-- the operand may have this shape
abbrev pub takes_operand : Bool → CoverShape → Bool
takes_operand true s = is_target s.assigned
takes_operand false s = s.is_expression

-- with its operand
abbrev pub prefixed_node : Bool → List ℕ → ℕ → ℕ → Tree → Tree
prefixed_node true w s e n = node UpdateExpression w before s e (part (pattern_tree n) none)
prefixed_node false w s e n = cond (is_keyword w) (node AwaitExpression [] plain s e (part n none)) (node UnaryExpression w plain s e (part n none))

abbrev pub prefixed_part : Bool → List ℕ → ℕ → ℕ → Operand → Operand
prefixed_part true w s e p = plain_part (prefixed_node true w s e p.cover.node) Update Other
prefixed_part false w s e p = plain_part (prefixed_node false w s e p.cover.node) Unary p.edge
