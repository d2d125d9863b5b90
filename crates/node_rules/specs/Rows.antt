-- Rules that look at single nodes, row by row: the name, the kinds of nodes that a rule looks at, which of these it reports, where, and what it says.
use Rattle.std.specs.Prelude.{ℕ, Bool, true, false, not, cond, ◌&&◌, ◌||◌, nat_eq, List, [], ◌∷◌, ◌++◌, Option, Some, None, is_none, is_some, codes}
use Rattle.tree.specs.declared.kind.Kind.{Kind}
use Rattle.tree.specs.declared.kind.Kind.TheVariants.{BinaryExpression, SwitchStatement}
use Rattle.tree.specs.declared.kind.Span.{Span}
use Rattle.tree.specs.declared.kind.Flags.{Flags}
use Rattle.tree.specs.Tree.{Tree, flags_of, kind_of, text_of, parts_of}
use Rattle.tree.specs.Fields.{last_part}
use Rattle.language.specs.Vocabulary.{is}
use Rattle.rule_words.specs.Reports.{Report}
use Rattle.node_rules.specs.declared.around.Around.{Around}
use Rattle.node_rules.specs.declared.node_rule.NodeOptions.{NodeOptions}
use Rattle.node_rules.specs.declared.node_rule.NodeRule.{NodeRule}
use Rattle.node_rules.specs.declared.node_rule.NodeRule.TheVariants.{Curly, DefaultCaseLast, DotNotation, EqEqEq, ForDirection, NoArrayConstructor, NoAsyncPromiseExecutor, NoCaller, NoCaseDeclarations, NoCompareNegZero, NoConstantBinaryExpression, NoConstantCondition, NoContinue, NoDebugger, NoEmpty, NoEmptyPattern, NoEmptyStaticBlock, NoEval, NoExtraBooleanCast, NoExtraSemi, NoImplicitCoercion, NoInnerDeclarations, NoLabels, NoLonelyIf, NoMultiAssign, NoMultiStr, NoNestedTernary, NoNew, NoNewFunc, NoNewObject, NoNewWrappers, NoPlusplus, NoProto, NoPrototypeBuiltins, NoReturnAwait, NoSelfAssign, NoSelfCompare, NoSetterReturn, NoSparseArrays, NoTernary, NoThrowLiteral, NoUndefInit, NoUnneededTernary, NoUnsafeFinally, NoUnsafeNegation, NoUnsafeOptionalChaining, NoUnusedExpressions, NoUnusedLabels, NoUselessCatch, NoUselessComputedKey, NoUselessConcat, NoUselessConstructor, NoUselessRename, NoVar, NoVoid, ObjectShorthand, OperatorAssignment, PreferExponentiationOperator, PreferObjectHasOwn, PreferTemplate, Radix, RequireYield, SymbolDescription, UseIsNan, ValidTypeof, Yoda}
use Rattle.node_rules.specs.declared.search.Sought.TheVariants.{Jump}
use Rattle.node_rules.specs.Arounds.{is_const_remark, is_returned}
use Rattle.node_rules.specs.ClassTests.{is_useless_constructor}
use Rattle.node_rules.specs.Paths.{are_same}
use Rattle.node_rules.specs.PartTests.{any_part, is_default, is_gap, is_null}
use Rattle.node_rules.specs.KindSets.{compares, declares, destructures, gets_value, has_body, has_statement_list, is_array, is_assignment, is_await, is_binary, is_binary_operation, is_call, is_case, is_conditional, is_continue, is_debugger, is_declarator, is_empty_statement, is_expression_statement, is_for, is_function_declaration, is_if, is_labelled, is_literal_kind, is_member_expression, is_method, is_new, is_object, is_operation, is_own_function, is_plain_call, is_property, is_return, is_short_body, is_static_block, is_switch, is_test_of_statement, is_throw, is_try, is_unary_kind, is_update, is_variable_declaration, jumps, makes_boolean, may_have_label, needs_object, renames}
use Rattle.node_rules.specs.Searches.{has_sought}
use Rattle.node_rules.specs.Words.{is_async_function, is_comparison, is_empty, is_equality, is_identifier, is_key_part, is_name, is_string, kind_at, nth, span_at, span_of, text_at, unchained}
use Rattle.node_rules.specs.Tests.{compares_nan, first_of, is_builtin_test, is_cast, is_empty_node, is_lexical, is_minus_zero, is_never_typeof, is_outermost, never_yields, only_throws, runs_away, tested}
use Rattle.node_rules.specs.Values.{is_boolean, is_constant_key, is_fixed, is_name_as_key, is_split_string}
use Rattle.node_rules.specs.ValueTests.{is_constant_operation, is_constant_test, is_long_assignment, is_mixed_sum, is_self_assignment, is_unsafe_chain, leaves_finalizer, risked, throws_no_error}
use Rattle.node_rules.specs.ExpressionTests.{adds_texts, calls_has_own, coercion_words, is_bare_body, is_caller, is_coercion, is_lonely_if, is_long_property, is_negated_side, is_parse_int, is_power, is_used, is_wrapper, keeps_name, lacks_radix, may_rename, start_of_sum}

abbrev pub called : NodeRule → List ℕ
called Curly = codes "curly"
called DefaultCaseLast = codes "default-case-last"
called DotNotation = codes "dot-notation"
called EqEqEq = codes "eqeqeq"
called ForDirection = codes "for-direction"
called NoArrayConstructor = codes "no-array-constructor"
called NoAsyncPromiseExecutor = codes "no-async-promise-executor"
called NoCaller = codes "no-caller"
called NoCaseDeclarations = codes "no-case-declarations"
called NoCompareNegZero = codes "no-compare-neg-zero"
called NoConstantBinaryExpression = codes "no-constant-binary-expression"
called NoConstantCondition = codes "no-constant-condition"
called NoContinue = codes "no-continue"
called NoDebugger = codes "no-debugger"
called NoEmpty = codes "no-empty"
called NoEmptyPattern = codes "no-empty-pattern"
called NoEmptyStaticBlock = codes "no-empty-static-block"
called NoEval = codes "no-eval"
called NoExtraBooleanCast = codes "no-extra-boolean-cast"
called NoExtraSemi = codes "no-extra-semi"
called NoImplicitCoercion = codes "no-implicit-coercion"
called NoInnerDeclarations = codes "no-inner-declarations"
called NoLabels = codes "no-labels"
called NoLonelyIf = codes "no-lonely-if"
called NoMultiAssign = codes "no-multi-assign"
called NoMultiStr = codes "no-multi-str"
called NoNestedTernary = codes "no-nested-ternary"
called NoNew = codes "no-new"
called NoNewFunc = codes "no-new-func"
called NoNewObject = codes "no-new-object"
called NoNewWrappers = codes "no-new-wrappers"
called NoPlusplus = codes "no-plusplus"
called NoProto = codes "no-proto"
called NoPrototypeBuiltins = codes "no-prototype-builtins"
called NoReturnAwait = codes "no-return-await"
called NoSelfAssign = codes "no-self-assign"
called NoSelfCompare = codes "no-self-compare"
called NoSetterReturn = codes "no-setter-return"
called NoSparseArrays = codes "no-sparse-arrays"
called NoTernary = codes "no-ternary"
called NoThrowLiteral = codes "no-throw-literal"
called NoUndefInit = codes "no-undef-init"
called NoUnneededTernary = codes "no-unneeded-ternary"
called NoUnsafeFinally = codes "no-unsafe-finally"
called NoUnsafeNegation = codes "no-unsafe-negation"
called NoUnsafeOptionalChaining = codes "no-unsafe-optional-chaining"
called NoUnusedExpressions = codes "no-unused-expressions"
called NoUnusedLabels = codes "no-unused-labels"
called NoUselessCatch = codes "no-useless-catch"
called NoUselessComputedKey = codes "no-useless-computed-key"
called NoUselessConcat = codes "no-useless-concat"
called NoUselessConstructor = codes "no-useless-constructor"
called NoUselessRename = codes "no-useless-rename"
called NoVar = codes "no-var"
called NoVoid = codes "no-void"
called ObjectShorthand = codes "object-shorthand"
called OperatorAssignment = codes "operator-assignment"
called PreferExponentiationOperator = codes "prefer-exponentiation-operator"
called PreferObjectHasOwn = codes "prefer-object-has-own"
called PreferTemplate = codes "prefer-template"
called Radix = codes "radix"
called RequireYield = codes "require-yield"
called SymbolDescription = codes "symbol-description"
called UseIsNan = codes "use-isnan"
called ValidTypeof = codes "valid-typeof"
called Yoda = codes "yoda"

abbrev pub looks : NodeRule → Kind → Bool
looks Curly kind = is_short_body kind
looks DefaultCaseLast kind = is_switch kind
looks DotNotation kind = is_member_expression kind
looks EqEqEq kind = is_binary kind
looks ForDirection kind = is_for kind
looks NoArrayConstructor kind = is_call kind
looks NoAsyncPromiseExecutor kind = is_new kind
looks NoCaller kind = is_member_expression kind
looks NoCaseDeclarations kind = declares kind
looks NoCompareNegZero kind = is_binary kind
looks NoConstantBinaryExpression kind = is_binary_operation kind
looks NoConstantCondition kind = is_test_of_statement kind
looks NoContinue kind = is_continue kind
looks NoDebugger kind = is_debugger kind
looks NoEmpty kind = has_statement_list kind
looks NoEmptyPattern kind = destructures kind
looks NoEmptyStaticBlock kind = is_static_block kind
looks NoEval kind = is_plain_call kind
looks NoExtraBooleanCast kind = makes_boolean kind
looks NoExtraSemi kind = is_empty_statement kind
looks NoImplicitCoercion kind = is_operation kind
looks NoInnerDeclarations kind = is_function_declaration kind
looks NoLabels kind = may_have_label kind
looks NoLonelyIf kind = is_if kind
looks NoMultiAssign kind = is_assignment kind
looks NoMultiStr kind = is_literal_kind kind
looks NoNestedTernary kind = is_conditional kind
looks NoNew kind = is_expression_statement kind
looks NoNewFunc kind = is_call kind
looks NoNewObject kind = is_new kind
looks NoNewWrappers kind = is_new kind
looks NoPlusplus kind = is_update kind
looks NoProto kind = is_member_expression kind
looks NoPrototypeBuiltins kind = is_plain_call kind
looks NoReturnAwait kind = is_await kind
looks NoSelfAssign kind = is_assignment kind
looks NoSelfCompare kind = is_binary kind
looks NoSetterReturn kind = is_return kind
looks NoSparseArrays kind = is_array kind
looks NoTernary kind = is_conditional kind
looks NoThrowLiteral kind = is_throw kind
looks NoUndefInit kind = is_declarator kind
looks NoUnneededTernary kind = is_conditional kind
looks NoUnsafeFinally kind = jumps kind
looks NoUnsafeNegation kind = is_binary kind
looks NoUnsafeOptionalChaining kind = needs_object kind
looks NoUnusedExpressions kind = is_expression_statement kind
looks NoUnusedLabels kind = is_labelled kind
looks NoUselessCatch kind = is_try kind
looks NoUselessComputedKey kind = is_property kind
looks NoUselessConcat kind = is_binary kind
looks NoUselessConstructor kind = is_method kind
looks NoUselessRename kind = renames kind
looks NoVar kind = is_variable_declaration kind
looks NoVoid kind = is_unary_kind kind
looks ObjectShorthand kind = is_property kind
looks OperatorAssignment kind = is_assignment kind
looks PreferExponentiationOperator kind = is_plain_call kind
looks PreferObjectHasOwn kind = is_plain_call kind
looks PreferTemplate kind = is_binary kind
looks Radix kind = is_plain_call kind
looks RequireYield kind = is_own_function kind
looks SymbolDescription kind = is_plain_call kind
looks UseIsNan kind = compares kind
looks ValidTypeof kind = is_binary kind
looks Yoda kind = is_binary kind

-- the source is the text of the script
abbrev pub holds : NodeOptions → (source : List ℕ) → NodeRule → Around → Tree → Bool
holds options source Curly around tree = is_bare_body around tree
holds options source DefaultCaseLast around tree = any_part is_default (parts_of tree) && not (is_default (last_part (parts_of tree)))
holds options source DotNotation around tree = (flags_of tree).computed && is_name_as_key (nth 1 tree)
holds options source EqEqEq around tree = (is (text_of tree) "==" || is (text_of tree) "!=") && not (options.allow_null && any_part is_null (parts_of tree))
holds options source ForDirection around tree = runs_away (nth 1 tree) (nth 2 tree)
holds options source NoArrayConstructor around tree = is_name (codes "Array") (nth 0 tree) && (is_none (nth 1 tree) || is_some (nth 2 tree))
holds options source NoAsyncPromiseExecutor around tree = is_name (codes "Promise") (nth 0 tree) && is_async_function (nth 1 tree)
holds options source NoCaller around tree = is_caller tree
holds options source NoCaseDeclarations around tree = is_case around.parent && is_lexical tree
holds options source NoCompareNegZero around tree = is_comparison (text_of tree) && (is_minus_zero (nth 0 tree) || is_minus_zero (nth 1 tree))
holds options source NoConstantBinaryExpression around tree = is_constant_operation tree
holds options source NoConstantCondition around tree = is_constant_test tree
holds options source NoContinue around tree = true
holds options source NoDebugger around tree = true
holds options source NoEmpty around tree = is_empty_node options source around tree
holds options source NoEmptyPattern around tree = is_empty (parts_of tree)
holds options source NoEmptyStaticBlock around tree = is_empty (parts_of tree)
holds options source NoEval around tree = is_name (codes "eval") (nth 0 tree)
holds options source NoExtraBooleanCast around tree = is_cast tree
holds options source NoExtraSemi around tree = not (has_body around.parent)
holds options source NoImplicitCoercion around tree = is_coercion tree
holds options source NoInnerDeclarations around tree = not (is_outermost around.parent around.grandparent)
holds options source NoLabels around tree = is_some (nth 0 tree)
holds options source NoLonelyIf around tree = is_lonely_if tree
holds options source NoMultiAssign around tree = gets_value around.parent && nat_eq around.place 1
holds options source NoMultiStr around tree = is_split_string (text_of tree)
holds options source NoNestedTernary around tree = is_conditional (kind_at (nth 1 tree)) || is_conditional (kind_at (nth 2 tree))
holds options source NoNew around tree = is_new (kind_at (nth 0 tree))
holds options source NoNewFunc around tree = is_name (codes "Function") (nth 0 tree)
holds options source NoNewObject around tree = is_name (codes "Object") (nth 0 tree)
holds options source NoNewWrappers around tree = is_wrapper (nth 0 tree)
holds options source NoPlusplus around tree = true
holds options source NoProto around tree = is_key_part (codes "__proto__") (flags_of tree).computed (nth 1 tree)
holds options source NoPrototypeBuiltins around tree = is_builtin_test (unchained (nth 0 tree))
holds options source NoReturnAwait around tree = is_returned around
holds options source NoSelfAssign around tree = is_self_assignment tree
holds options source NoSelfCompare around tree = is_comparison (text_of tree) && are_same (nth 0 tree) (nth 1 tree)
holds options source NoSetterReturn around tree = around.in_setter && is_some (nth 0 tree)
holds options source NoSparseArrays around tree = any_part is_gap (parts_of tree)
holds options source NoTernary around tree = true
holds options source NoThrowLiteral around tree = throws_no_error tree
holds options source NoUndefInit around tree = not (is_const_remark around.remark) && (is_identifier (nth 0 tree) && is_name (codes "undefined") (nth 1 tree))
holds options source NoUnneededTernary around tree = is_boolean (nth 1 tree) && is_boolean (nth 2 tree)
holds options source NoUnsafeFinally around tree = leaves_finalizer around tree
holds options source NoUnsafeNegation around tree = is_negated_side tree
holds options source NoUnsafeOptionalChaining around tree = is_unsafe_chain around tree
holds options source NoUnusedExpressions around tree = not (flags_of tree).directive && not (is_used (unchained (nth 0 tree)))
holds options source NoUnusedLabels around tree = not (has_sought Jump (text_at (nth 0 tree)) (nth 1 tree))
holds options source NoUselessCatch around tree = only_throws (nth 1 tree)
holds options source NoUselessComputedKey around tree = (flags_of tree).computed && (is_constant_key (nth 0 tree) && not (is_string (codes "__proto__") (nth 0 tree)))
holds options source NoUselessConcat around tree = adds_texts source tree
holds options source NoUselessConstructor around tree = is_useless_constructor around tree
holds options source NoUselessRename around tree = may_rename around.parent (kind_of tree) && keeps_name tree
holds options source NoVar around tree = is (text_of tree) "var"
holds options source NoVoid around tree = is (text_of tree) "void"
holds options source ObjectShorthand around tree = is_object around.parent && is_long_property tree
holds options source OperatorAssignment around tree = is_long_assignment tree
holds options source PreferExponentiationOperator around tree = is_power (unchained (nth 0 tree))
holds options source PreferObjectHasOwn around tree = calls_has_own (unchained (nth 0 tree))
holds options source PreferTemplate around tree = is_mixed_sum around tree
holds options source Radix around tree = is_parse_int (unchained (nth 0 tree)) && lacks_radix tree
holds options source RequireYield around tree = never_yields tree
holds options source SymbolDescription around tree = is_name (codes "Symbol") (nth 0 tree) && is_none (nth 1 tree)
holds options source UseIsNan around tree = compares_nan tree
holds options source ValidTypeof around tree = is_equality (text_of tree) && (is_never_typeof (nth 0 tree) (nth 1 tree) || is_never_typeof (nth 1 tree) (nth 0 tree))
holds options source Yoda around tree = is_comparison (text_of tree) && (is_fixed (nth 0 tree) && not (is_fixed (nth 1 tree)))

-- the `catch`, or the whole statement where nothing follows it
abbrev pub useless_catch : Tree → Span
useless_catch tree = cond (is_some (nth 2 tree)) (span_at tree (nth 1 tree)) (span_of tree)

-- the member's key
abbrev pub key_place : Tree → Option Tree → Span
key_place tree None = span_of tree
key_place tree (Some member) = span_at tree (nth 1 member)

-- a report stands at the node, unless said otherwise
abbrev pub place : NodeRule → Tree → Span
place DotNotation tree = span_at tree (nth 1 tree)
place NoAsyncPromiseExecutor tree = span_at tree (nth 1 tree)
place NoConstantCondition tree = span_at tree (tested tree)
place NoEval tree = span_at tree (nth 0 tree)
place NoExtraBooleanCast tree = span_at tree (tested tree)
place NoLonelyIf tree = span_at tree (first_of (nth 2 tree))
place NoPrototypeBuiltins tree = key_place tree (unchained (nth 0 tree))
place NoSelfAssign tree = span_at tree (nth 1 tree)
place NoUnsafeOptionalChaining tree = span_at tree (risked tree)
place NoUnusedLabels tree = span_at tree (nth 0 tree)
place NoUselessCatch tree = useless_catch tree
place NoUselessConcat tree = span_at tree (start_of_sum (nth 1 tree))
place ValidTypeof tree = span_at tree (cond (is_never_typeof (nth 0 tree) (nth 1 tree)) (nth 1 tree) (nth 0 tree))
place _ tree = span_of tree

abbrev pub empty_words : Kind → List ℕ
empty_words SwitchStatement = codes "empty switch"
empty_words _ = codes "empty block"

abbrev pub nan_words : Kind → List ℕ
nan_words BinaryExpression = codes "use Number.isNaN"
nan_words _ = codes "no case equals NaN"

abbrev pub says : NodeRule → Tree → List ℕ
says Curly tree = codes "expected a block"
says DefaultCaseLast tree = codes "default before another case"
says DotNotation tree = codes "use a dot"
says EqEqEq tree = cond (is (text_of tree) "==") (codes "use '===' instead of '=='") (codes "use '!==' instead of '!='")
says ForDirection tree = codes "the counter goes away from its bound"
says NoArrayConstructor tree = codes "use an array literal"
says NoAsyncPromiseExecutor tree = codes "async executor"
says NoCaller tree = codes "throws in strict code"
says NoCaseDeclarations tree = codes "declaration in a case"
says NoCompareNegZero tree = codes "no comparison tells -0 from 0"
says NoConstantBinaryExpression tree = codes "constant operation"
says NoConstantCondition tree = codes "constant condition"
says NoContinue tree = codes "continue"
says NoDebugger tree = codes "debugger statement"
says NoEmpty tree = empty_words (kind_of tree)
says NoEmptyPattern tree = codes "empty pattern"
says NoEmptyStaticBlock tree = codes "empty static block"
says NoEval tree = codes "code from text"
says NoExtraBooleanCast tree = codes "a condition is made a boolean anyway"
says NoExtraSemi tree = codes "empty statement"
says NoImplicitCoercion tree = coercion_words tree
says NoInnerDeclarations tree = codes "function declaration in a block"
says NoLabels tree = codes "label"
says NoLonelyIf tree = codes "'if' alone in 'else'"
says NoMultiAssign tree = codes "chained assignment"
says NoMultiStr tree = codes "string over several lines"
says NoNestedTernary tree = codes "conditional in a conditional"
says NoNew tree = codes "new object without use"
says NoNewFunc tree = codes "code from text"
says NoNewObject tree = codes "use an object literal"
says NoNewWrappers tree = codes "wrapper object"
says NoPlusplus tree = codes "use an assignment"
says NoProto tree = codes "use Object.getPrototypeOf"
says NoPrototypeBuiltins tree = codes "call it by Object.prototype"
says NoReturnAwait tree = codes "await of what is returned"
says NoSelfAssign tree = codes "assigned to itself"
says NoSelfCompare tree = codes "both sides are the same"
says NoSetterReturn tree = codes "setter returns a value"
says NoSparseArrays tree = codes "array with a hole"
says NoTernary tree = codes "conditional expression"
says NoThrowLiteral tree = codes "throw an Error"
says NoUndefInit tree = codes "undefined anyway"
says NoUnneededTernary tree = codes "the test says it"
says NoUnsafeFinally tree = codes "leaves finally"
says NoUnsafeNegation tree = codes "'!' belongs to the left side alone"
says NoUnsafeOptionalChaining tree = codes "throws where the chain is cut short"
says NoUnusedExpressions tree = codes "expression without use"
says NoUnusedLabels tree = codes "label is never used"
says NoUselessCatch tree = codes "catch that only throws again"
says NoUselessComputedKey tree = codes "brackets round a constant key"
says NoUselessConcat tree = codes "two texts side by side"
says NoUselessConstructor tree = codes "does what is done anyway"
says NoUselessRename tree = codes "renamed to its own name"
says NoVar tree = codes "use let or const instead of var"
says NoVoid tree = codes "void"
says ObjectShorthand tree = codes "use a shorthand"
says OperatorAssignment tree = codes "use the operator's assignment"
says PreferExponentiationOperator tree = codes "use '**'"
says PreferObjectHasOwn tree = codes "use Object.hasOwn"
says PreferTemplate tree = codes "use a template"
says Radix tree = codes "no radix from 2 to 36"
says RequireYield tree = codes "generator without yield"
says SymbolDescription tree = codes "no description"
says UseIsNan tree = nan_words (kind_of tree)
says ValidTypeof tree = codes "typeof is never this"
says Yoda tree = codes "the constant stands first"

abbrev pub report_of : NodeRule → Tree → Report
report_of rule tree = record { start = (place rule tree).start; stop = (place rule tree).end; rule = called rule; text = says rule tree }

-- what a rule reports of a node
abbrev pub of_node : NodeOptions → List ℕ → NodeRule → Around → Tree → List Report
of_node options source rule around tree = cond (looks rule (kind_of tree) && holds options source rule around tree) (report_of rule tree ∷ []) []

-- what rules report of a node, rule after rule
abbrev pub of_rules : NodeOptions → List ℕ → List NodeRule → Around → Tree → List Report
of_rules options source [] around tree = []
of_rules options source (rule ∷ rules) around tree = of_node options source rule around tree ++ of_rules options source rules around tree
