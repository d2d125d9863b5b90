use Rattle.std.proofs.Common.{sym, ◌∙◌}
use Rattle.std.proofs.lemmas.Bool.{OnTrue_from, OnFalse_from}
use Rattle.tokens.specs.Scanned.{token_of}
use Rattle.language.specs.Token.{as_read}
use Rattle.tokens.specs.declared.token.Goal.TheVariants.{Div}
use Rattle.token_cursor.proofs.TokensAhead.{seen_by, missed_by, none_by}
use Rattle.recursive_descent.specs.Modifiers.{follows_async}
use Rattle.recursive_descent.proofs.sound_properties.MemberWords.{async_seen, async_missed, async_broken, key_or, star_or}
use Rattle.recursive_descent.proofs.parser.Parser.sees_async_method.Goals as goal

pub returns-then-begins_key-clause-seen : goal.returns-then-begins_key-clause-seen
returns-then-begins_key-clause-seen c = OnTrue_from _ _ (λ h. seen_by _ follows_async Div _ _ c.in-Some.ensures.some (async_seen (as_read (token_of c.in-Some.token)) c.if-not-token.true (key_or (as_read (token_of c.in-Some.token)) (sym c.begins_key.ensures ∙ h))))

pub returns-else-begins_key-clause-seen : goal.returns-else-begins_key-clause-seen
returns-else-begins_key-clause-seen c = OnTrue_from _ _ (λ h. seen_by _ follows_async Div _ _ c.in-Some.ensures.some (async_seen (as_read (token_of c.in-Some.token)) c.if-not-token.true (star_or (as_read (token_of c.in-Some.token)) (sym c.is_punctuator.ensures.is ∙ h))))

pub returns-else-begins_key-clause-missed : goal.returns-else-begins_key-clause-missed
returns-else-begins_key-clause-missed c = OnFalse_from _ _ (λ h. missed_by _ follows_async Div _ _ c.in-Some.ensures.some (async_missed (as_read (token_of c.in-Some.token)) (sym c.begins_key.ensures ∙ c.if-begins_key.false) (sym c.is_punctuator.ensures.is ∙ h)))

pub returns-else-not-token-clause-missed : goal.returns-else-not-token-clause-missed
returns-else-not-token-clause-missed c = OnFalse_from _ _ (λ h. missed_by _ follows_async Div _ _ c.in-Some.ensures.some (async_broken (as_read (token_of c.in-Some.token)) h))

pub returns-in-None-clause-missed : goal.returns-in-None-clause-missed
returns-in-None-clause-missed c = none_by _ follows_async Div _ c.in-None.ensures.none
