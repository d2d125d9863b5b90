-- The names of the rules, and sets of rules. From rules/NAME.toml tools/rules writes the imports of rows, and the lists that say so.
use Rattle.std.specs.Prelude.{ℕ, Bool, true, false, cond, ◌||◌, List, [], ◌∷◌, Option, Some, None, codes}
use Rattle.std.specs.List.{list_any}
use Rattle.std.specs.Str.{bytes_eq}
use Rattle.language.specs.Vocabulary.{is}
use Rattle.node_rules.specs.Rows.{called as row_called}
use Rattle.node_rules.specs.declared.node_rule.NodeRule.TheVariants.{Curly, DefaultCaseLast, DotNotation, EqEqEq, ForDirection, NoArrayConstructor, NoAsyncPromiseExecutor, NoCaller, NoCaseDeclarations, NoCompareNegZero, NoConstantBinaryExpression, NoConstantCondition, NoContinue, NoDebugger, NoEmpty, NoEmptyPattern, NoEmptyStaticBlock, NoEval, NoExtraBooleanCast, NoExtraSemi, NoImplicitCoercion, NoInnerDeclarations, NoLabels, NoLonelyIf, NoMultiAssign, NoMultiStr, NoNestedTernary, NoNew, NoNewFunc, NoNewObject, NoNewWrappers, NoPlusplus, NoProto, NoPrototypeBuiltins, NoReturnAwait, NoSelfAssign, NoSelfCompare, NoSetterReturn, NoSparseArrays, NoTernary, NoThrowLiteral, NoUndefInit, NoUnneededTernary, NoUnsafeFinally, NoUnsafeNegation, NoUnsafeOptionalChaining, NoUnusedExpressions, NoUnusedLabels, NoUselessCatch, NoUselessComputedKey, NoUselessConcat, NoUselessConstructor, NoUselessRename, NoVar, NoVoid, ObjectShorthand, OperatorAssignment, PreferExponentiationOperator, PreferObjectHasOwn, PreferTemplate, Radix, RequireYield, SymbolDescription, UseIsNan, ValidTypeof, Yoda}
use Rattle.reference_rules.specs.Rows.{called as name_called}
use Rattle.reference_rules.specs.declared.reference_rule.ReferenceRule.TheVariants.{NoAlert, NoClassAssign, NoConstAssign, NoExAssign, NoFuncAssign, NoGlobalAssign, NoImplicitGlobals, NoImportAssign, NoNewNativeNonconstructor, NoNewSymbol, NoObjCalls, NoParamReassign, NoRedeclare, NoShadowRestrictedNames, NoUndefined, NoUseBeforeDefine}
use Rattle.repetition_rules.specs.Rows.{called as part_called}
use Rattle.repetition_rules.specs.declared.repetition_rule.RepetitionRule.TheVariants.{NoDupeClassMembers, NoDupeElseIf, NoDupeKeys, NoDuplicateCase}
use Rattle.flow_rules.specs.Rows.{called as flow_rule_called}
use Rattle.flow_rules.specs.declared.flow_rule.FlowRule.TheVariants.{ArrayCallbackReturn, ConsistentReturn, ConstructorSuper, GetterReturn, NoElseReturn, NoFallthrough, NoThisBeforeSuper, NoUnreachable, NoUnreachableLoop, NoUselessReturn}
use Rattle.literal_rules.specs.Rows.{called as literal_rule_called}
use Rattle.literal_rules.specs.declared.literal_rule.LiteralRule.TheVariants.{NoControlRegex, NoDivRegex, NoEmptyCharacterClass, NoRegexSpaces, NoScriptUrl, NoTemplateCurlyInString, NoUselessEscape}
use Rattle.text_rules.specs.Rows.{called as text_rule_called}
use Rattle.text_rules.specs.declared.text_rule.TextRule.TheVariants.{NoCondAssign, NoIrregularWhitespace, NoSequences, NoUnexpectedMultiline}
use Rattle.value_rules.specs.Rows.{called as value_rule_called}
use Rattle.value_rules.specs.declared.value_rule.ValueRule.TheVariants.{NoLossOfPrecision, NoMisleadingCharacterClass, NoUselessBackreference}
use Rattle.rules.specs.declared.rule_list.RuleName.{RuleName}
use Rattle.rules.specs.declared.rule_list.RuleName.TheVariants.{OnNodes, OnReferences, OnRepetitions, OnFlow, OnLiterals, OnTexts, NoExtraParens, NoShadow, NoUndef, NoUnusedPrivateClassMembers, NoUnusedVars, PreferConst, OnValues, NoExtendNative}
use Rattle.rules.specs.declared.rule_set.RuleSet.{RuleSet}
use Rattle.rules.specs.declared.rule_set.RuleSet.TheVariants.{Nine, Recommended, Every, Nothing}

-- what settings and reports call a rule
abbrev pub called : RuleName → List ℕ
called (OnNodes rule) = row_called rule
called (OnReferences rule) = name_called rule
called (OnRepetitions rule) = part_called rule
called (OnFlow rule) = flow_rule_called rule
called (OnLiterals rule) = literal_rule_called rule
called (OnTexts rule) = text_rule_called rule
called (OnValues rule) = value_rule_called rule
called NoExtendNative = codes "no-extend-native"
called NoExtraParens = codes "no-extra-parens"
called NoShadow = codes "no-shadow"
called NoUndef = codes "no-undef"
called NoUnusedPrivateClassMembers = codes "no-unused-private-class-members"
called NoUnusedVars = codes "no-unused-vars"
called PreferConst = codes "prefer-const"

-- a rule looks at scopes
abbrev pub looks_at_scopes : RuleName → Bool
looks_at_scopes (OnReferences rule) = true
looks_at_scopes NoExtendNative = true
looks_at_scopes NoShadow = true
looks_at_scopes NoUndef = true
looks_at_scopes NoUnusedVars = true
looks_at_scopes PreferConst = true
looks_at_scopes _ = false

-- and at the extra pairs of parentheses
abbrev pub looks_at_pairs : RuleName → Bool
looks_at_pairs NoExtraParens = true
looks_at_pairs _ = false

-- the rules, in the order of their names: tools/rules writes them
abbrev pub all_rules : List RuleName
all_rules =
    OnFlow ArrayCallbackReturn
    ∷ OnFlow ConsistentReturn
    ∷ OnFlow ConstructorSuper
    ∷ OnNodes Curly
    ∷ OnNodes DefaultCaseLast
    ∷ OnNodes DotNotation
    ∷ OnNodes EqEqEq
    ∷ OnNodes ForDirection
    ∷ OnFlow GetterReturn
    ∷ OnReferences NoAlert
    ∷ OnNodes NoArrayConstructor
    ∷ OnNodes NoAsyncPromiseExecutor
    ∷ OnNodes NoCaller
    ∷ OnNodes NoCaseDeclarations
    ∷ OnReferences NoClassAssign
    ∷ OnNodes NoCompareNegZero
    ∷ OnTexts NoCondAssign
    ∷ OnReferences NoConstAssign
    ∷ OnNodes NoConstantBinaryExpression
    ∷ OnNodes NoConstantCondition
    ∷ OnNodes NoContinue
    ∷ OnLiterals NoControlRegex
    ∷ OnNodes NoDebugger
    ∷ OnLiterals NoDivRegex
    ∷ OnRepetitions NoDupeClassMembers
    ∷ OnRepetitions NoDupeElseIf
    ∷ OnRepetitions NoDupeKeys
    ∷ OnRepetitions NoDuplicateCase
    ∷ OnFlow NoElseReturn
    ∷ OnNodes NoEmpty
    ∷ OnLiterals NoEmptyCharacterClass
    ∷ OnNodes NoEmptyPattern
    ∷ OnNodes NoEmptyStaticBlock
    ∷ OnNodes NoEval
    ∷ OnReferences NoExAssign
    ∷ NoExtendNative
    ∷ OnNodes NoExtraBooleanCast
    ∷ NoExtraParens
    ∷ OnNodes NoExtraSemi
    ∷ OnFlow NoFallthrough
    ∷ OnReferences NoFuncAssign
    ∷ OnReferences NoGlobalAssign
    ∷ OnNodes NoImplicitCoercion
    ∷ OnReferences NoImplicitGlobals
    ∷ OnReferences NoImportAssign
    ∷ OnNodes NoInnerDeclarations
    ∷ OnTexts NoIrregularWhitespace
    ∷ OnNodes NoLabels
    ∷ OnNodes NoLonelyIf
    ∷ OnValues NoLossOfPrecision
    ∷ OnValues NoMisleadingCharacterClass
    ∷ OnNodes NoMultiAssign
    ∷ OnNodes NoMultiStr
    ∷ OnNodes NoNestedTernary
    ∷ OnNodes NoNew
    ∷ OnNodes NoNewFunc
    ∷ OnReferences NoNewNativeNonconstructor
    ∷ OnNodes NoNewObject
    ∷ OnReferences NoNewSymbol
    ∷ OnNodes NoNewWrappers
    ∷ OnReferences NoObjCalls
    ∷ OnReferences NoParamReassign
    ∷ OnNodes NoPlusplus
    ∷ OnNodes NoProto
    ∷ OnNodes NoPrototypeBuiltins
    ∷ OnReferences NoRedeclare
    ∷ OnLiterals NoRegexSpaces
    ∷ OnNodes NoReturnAwait
    ∷ OnLiterals NoScriptUrl
    ∷ OnNodes NoSelfAssign
    ∷ OnNodes NoSelfCompare
    ∷ OnTexts NoSequences
    ∷ OnNodes NoSetterReturn
    ∷ NoShadow
    ∷ OnReferences NoShadowRestrictedNames
    ∷ OnNodes NoSparseArrays
    ∷ OnLiterals NoTemplateCurlyInString
    ∷ OnNodes NoTernary
    ∷ OnFlow NoThisBeforeSuper
    ∷ OnNodes NoThrowLiteral
    ∷ NoUndef
    ∷ OnNodes NoUndefInit
    ∷ OnReferences NoUndefined
    ∷ OnTexts NoUnexpectedMultiline
    ∷ OnNodes NoUnneededTernary
    ∷ OnFlow NoUnreachable
    ∷ OnFlow NoUnreachableLoop
    ∷ OnNodes NoUnsafeFinally
    ∷ OnNodes NoUnsafeNegation
    ∷ OnNodes NoUnsafeOptionalChaining
    ∷ OnNodes NoUnusedExpressions
    ∷ OnNodes NoUnusedLabels
    ∷ NoUnusedPrivateClassMembers
    ∷ NoUnusedVars
    ∷ OnReferences NoUseBeforeDefine
    ∷ OnValues NoUselessBackreference
    ∷ OnNodes NoUselessCatch
    ∷ OnNodes NoUselessComputedKey
    ∷ OnNodes NoUselessConcat
    ∷ OnNodes NoUselessConstructor
    ∷ OnLiterals NoUselessEscape
    ∷ OnNodes NoUselessRename
    ∷ OnFlow NoUselessReturn
    ∷ OnNodes NoVar
    ∷ OnNodes NoVoid
    ∷ OnNodes ObjectShorthand
    ∷ OnNodes OperatorAssignment
    ∷ PreferConst
    ∷ OnNodes PreferExponentiationOperator
    ∷ OnNodes PreferObjectHasOwn
    ∷ OnNodes PreferTemplate
    ∷ OnNodes Radix
    ∷ OnNodes RequireYield
    ∷ OnNodes SymbolDescription
    ∷ OnNodes UseIsNan
    ∷ OnNodes ValidTypeof
    ∷ OnNodes Yoda
    ∷ []

-- those that are on where settings say nothing: tools/rules writes them
abbrev pub nine_rules : List RuleName
nine_rules =
    OnNodes EqEqEq
    ∷ OnNodes NoDebugger
    ∷ OnNodes NoEmpty
    ∷ NoExtraParens
    ∷ NoShadow
    ∷ NoUndef
    ∷ NoUnusedVars
    ∷ OnNodes NoVar
    ∷ PreferConst
    ∷ []

-- those that ESLint recommends, by its 8th version or by its 9th: tools/rules writes them
abbrev pub recommended_rules : List RuleName
recommended_rules =
    OnFlow ConstructorSuper
    ∷ OnNodes ForDirection
    ∷ OnFlow GetterReturn
    ∷ OnNodes NoAsyncPromiseExecutor
    ∷ OnNodes NoCaseDeclarations
    ∷ OnReferences NoClassAssign
    ∷ OnNodes NoCompareNegZero
    ∷ OnTexts NoCondAssign
    ∷ OnReferences NoConstAssign
    ∷ OnNodes NoConstantBinaryExpression
    ∷ OnNodes NoConstantCondition
    ∷ OnLiterals NoControlRegex
    ∷ OnNodes NoDebugger
    ∷ OnRepetitions NoDupeClassMembers
    ∷ OnRepetitions NoDupeElseIf
    ∷ OnRepetitions NoDupeKeys
    ∷ OnRepetitions NoDuplicateCase
    ∷ OnNodes NoEmpty
    ∷ OnLiterals NoEmptyCharacterClass
    ∷ OnNodes NoEmptyPattern
    ∷ OnNodes NoEmptyStaticBlock
    ∷ OnReferences NoExAssign
    ∷ OnNodes NoExtraBooleanCast
    ∷ OnNodes NoExtraSemi
    ∷ OnFlow NoFallthrough
    ∷ OnReferences NoFuncAssign
    ∷ OnReferences NoGlobalAssign
    ∷ OnReferences NoImportAssign
    ∷ OnNodes NoInnerDeclarations
    ∷ OnTexts NoIrregularWhitespace
    ∷ OnValues NoLossOfPrecision
    ∷ OnValues NoMisleadingCharacterClass
    ∷ OnReferences NoNewNativeNonconstructor
    ∷ OnReferences NoNewSymbol
    ∷ OnReferences NoObjCalls
    ∷ OnNodes NoPrototypeBuiltins
    ∷ OnReferences NoRedeclare
    ∷ OnLiterals NoRegexSpaces
    ∷ OnNodes NoSelfAssign
    ∷ OnNodes NoSetterReturn
    ∷ OnReferences NoShadowRestrictedNames
    ∷ OnNodes NoSparseArrays
    ∷ OnFlow NoThisBeforeSuper
    ∷ NoUndef
    ∷ OnTexts NoUnexpectedMultiline
    ∷ OnFlow NoUnreachable
    ∷ OnNodes NoUnsafeFinally
    ∷ OnNodes NoUnsafeNegation
    ∷ OnNodes NoUnsafeOptionalChaining
    ∷ OnNodes NoUnusedLabels
    ∷ NoUnusedPrivateClassMembers
    ∷ NoUnusedVars
    ∷ OnValues NoUselessBackreference
    ∷ OnNodes NoUselessCatch
    ∷ OnLiterals NoUselessEscape
    ∷ OnNodes RequireYield
    ∷ OnNodes UseIsNan
    ∷ OnNodes ValidTypeof
    ∷ []

-- one of these rules has a name
abbrev pub has_name : List RuleName → List ℕ → Bool
has_name rules text = list_any (λ rule. bytes_eq text (called rule)) rules

unfoldable pub is_rule : List ℕ → Bool
is_rule text = has_name all_rules text

-- names of ESLint's rules that find nothing in strict code: what they look for is a syntax error or an early error there
unfoldable pub is_moot : List ℕ → Bool
is_moot text =
    bytes_eq text (codes "no-delete-var")
    || (bytes_eq text (codes "no-dupe-args") || (bytes_eq text (codes "no-nonoctal-decimal-escape") || (bytes_eq text (codes "no-octal") || (bytes_eq text (codes "no-octal-escape") || bytes_eq text (codes "no-with")))))

-- a name that settings may give a rule
abbrev pub is_known : List ℕ → Bool
is_known text = is_rule text || is_moot text

-- the rules of a set
abbrev pub rules_in : RuleSet → List RuleName
rules_in Nine = nine_rules
rules_in Recommended = recommended_rules
rules_in Every = all_rules
rules_in Nothing = []

abbrev pub set_named : List ℕ → Option RuleSet
set_named text =
    cond (is text "nine") (Some Nine)
    (cond (is text "recommended") (Some Recommended)
    (cond (is text "all") (Some Every)
    (cond (is text "none") (Some Nothing) None)))
