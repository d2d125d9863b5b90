use Rattle.std.proofs.Common.{true, false}
use Rattle.std.proofs.lemmas.Bool.{OnTrue_from, OnFalse_from}
use Rattle.tokens.specs.declared.token.Goal.TheVariants.{RegExp}
use Rattle.tokens.specs.Scanned.{token_of}
use Rattle.token_cursor.proofs.LineBreaks.{all_broken, each_broken}
use Rattle.token_cursor.proofs.TokensAhead.{none_ahead}
use Rattle.token_cursor.proofs.cursor.Cursor.sees_line_break.Goals as goal

pub returns-in-Some-clause-seen : goal.returns-in-Some-clause-seen
returns-in-Some-clause-seen c = OnTrue_from _ _ (λ h. all_broken c.args.self.now.text RegExp c.args.self.now.last (token_of c.in-Some.token) c.in-Some.ensures.some true h)

pub returns-in-Some-clause-missed : goal.returns-in-Some-clause-missed
returns-in-Some-clause-missed c = OnFalse_from _ _ (λ h. each_broken c.args.self.now.text RegExp c.args.self.now.last (token_of c.in-Some.token) c.in-Some.ensures.some false h)

pub returns-in-None-clause-missed : goal.returns-in-None-clause-missed
returns-in-None-clause-missed c t e r = absurd (none_ahead _ RegExp _ c.in-None.ensures.none t e r)
