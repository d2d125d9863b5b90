-- Texts of which a rule may report a character, told without knowing what is a comment.
use Rattle.std.specs.Prelude.{ℕ, Bool, true, false, not, ◌&&◌, ◌||◌, nat_eq, nat_le, nat_lt, List}
use Rattle.std.specs.List.{list_any}
use Rattle.source_text.specs.Lines.{is_line_terminator}
use Rattle.text_rules.specs.declared.text_rule.TextRule.{TextRule}
use Rattle.text_rules.specs.declared.text_rule.TextRule.TheVariants.{NoCondAssign, NoIrregularWhitespace, NoSequences, NoUnexpectedMultiline}
use Rattle.text_rules.specs.Rows.{is_irregular}

-- a character of ASCII, and none of U+000A to U+000D
abbrev pub is_quiet : ℕ → Bool
is_quiet c = nat_lt c 128 && not (nat_le 10 c && nat_le c 13)

-- a byte that may belong to irregular white space: it is no character of ASCII, or it is U+000B or U+000C
abbrev pub is_odd : ℕ → Bool
is_odd b = nat_le 128 b || (nat_eq b 11 || nat_eq b 12)

-- A rule reports a character of a text only if the text has a character without which there is nothing to report.
abbrev pub may_mark : TextRule → List ℕ → Bool
may_mark NoCondAssign cs = false
may_mark NoIrregularWhitespace cs = list_any is_irregular cs
may_mark NoSequences cs = true
may_mark NoUnexpectedMultiline cs = list_any is_line_terminator cs
