use Rattle.std.proofs.Common.{◌≡◌, List, ◌++◌, ◌∙◌, ℕ, ap, rules}
use Rattle.source_text.specs.declared.fault.Fault.{Fault}
use Rattle.commands.specs.Refusal.{fault_words}
use Rattle.commands.specs.declared.refused.Refused.{Refused}
use Rattle.commands.proofs.JoinedTexts.{one_piece, two_pieces, four_pieces}
use Rattle.commands.proofs.refusal.push_words.Goals as goal

said : (refused : Refused) (fault : Fault) → refused.fault ≡ fault → fault_words refused.fault refused.line refused.column ≡ fault_words fault refused.line refused.column
said refused fault is = ap (λ (f : Fault). fault_words f refused.line refused.column) is

pub returns-in-NotUtf8-clause-words : goal.returns-in-NotUtf8-clause-words
returns-in-NotUtf8-clause-words c =
    two_pieces _ _ _ _ _ _ c.push_text.ensures c.push_number.ensures.digits (said c.args.refused.now _ c.in-NotUtf8.is)

pub returns-in-TooLong-clause-words : goal.returns-in-TooLong-clause-words
returns-in-TooLong-clause-words c =
    one_piece _ _ _ _ c.push_text-in-TooLong.ensures (said c.args.refused.now _ c.in-TooLong.is)

pub returns-in-Syntax-clause-words : goal.returns-in-Syntax-clause-words
returns-in-Syntax-clause-words c =
    two_pieces _ _ _ _ _ _ c.push_text-in-Syntax.ensures c.push_line_column.ensures.words (said c.args.refused.now _ c.in-Syntax.is)

pub returns-in-BadSettings-clause-words : goal.returns-in-BadSettings-clause-words
returns-in-BadSettings-clause-words c =
    two_pieces _ _ _ _ _ _ c.push_text-in-BadSettings.ensures c.push_any_place.ensures.words (said c.args.refused.now _ c.in-BadSettings.is)

pub returns-in-BadTable-clause-words : goal.returns-in-BadTable-clause-words
returns-in-BadTable-clause-words c =
    let named = ap (λ (w : List ℕ). c.push_text-in-BadTable-2.new.self ++ w) c.reason_name.ensures in
    four_pieces _ _ _ _ _ _ _ _ _ _ c.push_text-in-BadTable.ensures c.push_number-in-BadTable.ensures.digits c.push_text-in-BadTable-2.ensures
    (c.push_text-in-BadTable-3.ensures ∙ named)
    (said c.args.refused.now _ c.in-BadTable.is)

pub returns-in-TooDeep-clause-words : goal.returns-in-TooDeep-clause-words
returns-in-TooDeep-clause-words c = search rules
