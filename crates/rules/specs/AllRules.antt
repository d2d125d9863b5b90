-- What each rule finds.
use Rattle.std.specs.Prelude.{List}
use Rattle.rule_words.specs.Reports.{Report}
use Rattle.rules.specs.declared.rule_list.RuleName.{RuleName}
use Rattle.rules.specs.declared.rule_list.RuleName.TheVariants.{OnNodes, OnReferences, OnRepetitions, OnFlow, OnLiterals, OnTexts, NoExtraParens, NoShadow, NoUndef, NoUnusedPrivateClassMembers, NoUnusedVars, PreferConst, OnValues, NoExtendNative}
use Rattle.rules.specs.Rules.{View, no_extra_parens, no_shadow, no_undef, no_unused_private_class_members, no_unused_vars, on_references, on_nodes, on_repetitions, on_flow, on_literals, on_texts, prefer_const, on_values, no_extend_native}

abbrev pub finds : RuleName → View → List Report
finds (OnNodes rule) v = on_nodes rule v
finds (OnReferences rule) v = on_references rule v
finds (OnRepetitions rule) v = on_repetitions rule v
finds (OnFlow rule) v = on_flow rule v
finds (OnLiterals rule) v = on_literals rule v
finds (OnTexts rule) v = on_texts rule v
finds (OnValues rule) v = on_values rule v
finds NoExtendNative v = no_extend_native v
finds NoExtraParens v = no_extra_parens v
finds NoShadow v = no_shadow v
finds NoUndef v = no_undef v
finds NoUnusedPrivateClassMembers v = no_unused_private_class_members v
finds NoUnusedVars v = no_unused_vars v
finds PreferConst v = prefer_const v
