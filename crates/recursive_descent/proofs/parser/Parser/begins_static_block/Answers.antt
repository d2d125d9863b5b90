use Rattle.std.proofs.Common.{sym, codes, ◌∙◌}
use Rattle.std.proofs.lemmas.Bool.{OnTrue_from, OnFalse_from}
use Rattle.token_cursor.proofs.TokensAhead.{word_missed, word_none}
use Rattle.recursive_descent.proofs.sound_properties.MemberWords.{block_seen, no_word_block, no_brace_block, none_block}
use Rattle.recursive_descent.proofs.parser.Parser.begins_static_block.Goals as goal

pub returns-in_default-clause-other : goal.returns-in_default-clause-other
returns-in_default-clause-other c = no_word_block c.args.self.now.cursor.text c.args.self.now.cursor.last (word_none _ (codes "static") _ c.in_default.ensures.none)

pub returns-then-not-is_name_token-clause-other : goal.returns-then-not-is_name_token-clause-other
returns-then-not-is_name_token-clause-other c = no_word_block c.args.self.now.cursor.text c.args.self.now.cursor.last (word_missed _ (codes "static") _ _ c.in-Some.ensures.some (sym c.is_name_token.ensures.is ∙ c.if-not-is_name_token.true))

pub returns-in-Some-peek_behind-clause-begins : goal.returns-in-Some-peek_behind-clause-begins
returns-in-Some-peek_behind-clause-begins c = OnTrue_from _ _ (λ h. block_seen _ _ _ _ (sym c.is_of_2022.ensures ∙ c.if-not-is_of_2022.false) c.in-Some.ensures.some (sym c.is_name_token.ensures.is ∙ c.if-not-is_name_token.false) c.in-Some-peek_behind.ensures.some (sym c.is_punctuator.ensures.is ∙ h))

pub returns-in-Some-peek_behind-clause-other : goal.returns-in-Some-peek_behind-clause-other
returns-in-Some-peek_behind-clause-other c = OnFalse_from _ _ (λ h. no_brace_block _ _ _ _ c.in-Some.ensures.some (sym c.is_name_token.ensures.is ∙ c.if-not-is_name_token.false) c.in-Some-peek_behind.ensures.some (sym c.is_punctuator.ensures.is ∙ h))

pub returns-in-None-clause-other : goal.returns-in-None-clause-other
returns-in-None-clause-other c = none_block _ _ _ c.in-Some.ensures.some (sym c.is_name_token.ensures.is ∙ c.if-not-is_name_token.false) c.in-None.ensures.none
