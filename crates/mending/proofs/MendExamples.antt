-- Changes of nodes that are written down, and nodes that have none.
use Rattle.std.proofs.Common.{◌≡◌, true, false, [], Some, None, refl}
use Rattle.std.specs.Prelude.{codes}
use Prim.Native.String.{String}
use Rattle.tree.specs.declared.kind.Flags.{Flags}
use Rattle.tree.specs.declared.kind.Form.TheVariants.{Shorthand}
use Rattle.tree.specs.declared.kind.Kind.{Kind}
use Rattle.tree.specs.declared.kind.Kind.TheVariants.{AssignmentExpression, BinaryExpression, BlockStatement, DebuggerStatement, EmptyStatement, Identifier, IfStatement, ImportSpecifier, LabeledStatement, Literal, MemberExpression, Property, ReturnStatement, UnaryExpression, VariableDeclaration}
use Rattle.tree.specs.Tree.{Tree, node, none, part, gap, plain}
use Rattle.mending.specs.declared.change.MendRule.TheVariants.{DotNotation, EqEqEq, NoDebugger, NoExtraBooleanCast, NoExtraSemi, NoLonelyIf, NoUnusedLabels, NoUselessComputedKey, NoUselessRename, NoUselessReturn, ObjectShorthand, OperatorAssignment, PreferConst}
use Rattle.mending.specs.Changes.{change, goes}

abbrev of_two : Kind → String → Flags → Tree → Tree → Tree
of_two kind text flags a b = node kind (codes text) flags 0 9 (part a (part b none))

abbrev name : String → Tree
name text = node Identifier (codes text) plain 0 1 none

abbrev literal : String → Tree
literal text = node Literal (codes text) plain 0 1 none

abbrev unary : String → Tree → Tree
unary text a = node UnaryExpression (codes text) plain 0 9 (part a none)

abbrev computed : Flags
computed = record plain { computed = true }

abbrev shorthand : Flags
shorthand = record plain { form = Shorthand }

strict : change EqEqEq (of_two BinaryExpression "==" plain (unary "typeof" (name "a")) (literal "'b'")) ≡ Some (of_two BinaryExpression "===" plain (unary "typeof" (name "a")) (literal "'b'"))
strict = refl

strict_not : change EqEqEq (of_two BinaryExpression "!=" plain (literal "\"a\"") (literal "'b'")) ≡ Some (of_two BinaryExpression "!==" plain (literal "\"a\"") (literal "'b'"))
strict_not = refl

not_strict : change EqEqEq (of_two BinaryExpression "==" plain (name "a") (literal "'b'")) ≡ None
not_strict = refl

not_strict_number : change EqEqEq (of_two BinaryExpression "==" plain (literal "1") (literal "'b'")) ≡ None
not_strict_number = refl

const : change PreferConst (node VariableDeclaration (codes "let") plain 0 9 none) ≡ Some (node VariableDeclaration (codes "const") plain 0 9 none)
const = refl

not_const : change PreferConst (node VariableDeclaration (codes "var") plain 0 9 none) ≡ None
not_const = refl

dot : change DotNotation (of_two MemberExpression "" computed (name "a") (literal "'b'")) ≡ Some (of_two MemberExpression "" plain (name "a") (name "b"))
dot = refl

no_dot : change DotNotation (of_two MemberExpression "" computed (name "a") (literal "'b-c'")) ≡ None
no_dot = refl

no_dot_before_name : change DotNotation (of_two MemberExpression "" computed (name "a") (name "b")) ≡ None
no_dot_before_name = refl

brackets_round_name : change NoUselessComputedKey (of_two Property "" computed (name "a") (name "b")) ≡ None
brackets_round_name = refl

short : change ObjectShorthand (of_two Property "" plain (name "a") (name "a")) ≡ Some (of_two Property "" shorthand (name "a") (name "a"))
short = refl

not_short : change ObjectShorthand (of_two Property "" plain (name "a") (name "b")) ≡ None
not_short = refl

not_short_proto : change ObjectShorthand (of_two Property "" plain (name "__proto__") (name "__proto__")) ≡ None
not_short_proto = refl

not_short_computed : change ObjectShorthand (of_two Property "" computed (name "a") (name "a")) ≡ None
not_short_computed = refl

one_name : change NoUselessRename (of_two ImportSpecifier "" plain (name "a") (name "a")) ≡ Some (node ImportSpecifier [] shorthand 0 9 (part (name "a") none))
one_name = refl

two_names : change NoUselessRename (of_two ImportSpecifier "" plain (name "a") (name "b")) ≡ None
two_names = refl

no_label : change NoUnusedLabels (of_two LabeledStatement "" plain (name "a") (node EmptyStatement [] plain 3 4 none)) ≡ Some (node EmptyStatement [] plain 3 4 none)
no_label = refl

no_cast : change NoExtraBooleanCast (unary "!" (unary "!" (name "a"))) ≡ Some (name "a")
no_cast = refl

one_not : change NoExtraBooleanCast (unary "!" (unary "-" (name "a"))) ≡ None
one_not = refl

lonely : change NoLonelyIf (node BlockStatement [] plain 0 9 (part (node IfStatement [] plain 1 8 none) none)) ≡ Some (node IfStatement [] plain 1 8 none)
lonely = refl

not_lonely : change NoLonelyIf (of_two BlockStatement "" plain (node IfStatement [] plain 1 8 none) (node EmptyStatement [] plain 8 9 none)) ≡ None
not_lonely = refl

added : change OperatorAssignment (of_two AssignmentExpression "=" plain (name "a") (of_two BinaryExpression "+" plain (name "a") (name "b"))) ≡ Some (of_two AssignmentExpression "+=" plain (name "a") (name "b"))
added = refl

added_before : change OperatorAssignment (of_two AssignmentExpression "=" plain (name "a") (of_two BinaryExpression "+" plain (name "b") (name "a"))) ≡ None
added_before = refl

compared : change OperatorAssignment (of_two AssignmentExpression "=" plain (name "a") (of_two BinaryExpression "<" plain (name "a") (name "b"))) ≡ None
compared = refl

-- statements that go, and stay
goes_debugger : goes NoDebugger (node DebuggerStatement [] plain 0 9 none) ≡ true
goes_debugger = refl

goes_empty : goes NoExtraSemi (node EmptyStatement [] plain 0 1 none) ≡ true
goes_empty = refl

goes_return : goes NoUselessReturn (node ReturnStatement [] plain 0 9 (gap none)) ≡ true
goes_return = refl

stays_return : goes NoUselessReturn (node ReturnStatement [] plain 0 9 (part (name "a") none)) ≡ false
stays_return = refl

stays_debugger : goes NoExtraSemi (node DebuggerStatement [] plain 0 9 none) ≡ false
stays_debugger = refl
