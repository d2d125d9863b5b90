use Rattle.std.proofs.Common.{sym, ◌∙◌}
use Rattle.std.proofs.lemmas.Bool.{OnTrue_from, OnFalse_from}
use Rattle.tokens.specs.Scanned.{token_of}
use Rattle.recursive_descent.proofs.sound_modules.ModuleTests.{ImportGoesOn, ImportStops, call_behind, dot_behind, neither_behind, nothing_behind}
use Rattle.recursive_descent.proofs.parser.Parser.begins_import_expression.Goals as goal

pub returns-then-is_punctuator-clause-seen : goal.returns-then-is_punctuator-clause-seen
returns-then-is_punctuator-clause-seen c = OnTrue_from _ (ImportGoesOn c.args.self.now.cursor.text c.args.self.now.cursor.last (token_of c.args.token.now) c.requires) (λ h.
    call_behind c.args.self.now.cursor.text c.args.self.now.cursor.last (token_of c.args.token.now) c.requires (token_of c.in-Some.second) c.in-Some.ensures.some (sym c.is_punctuator.ensures.is ∙ h))

pub returns-else-is_punctuator-clause-seen : goal.returns-else-is_punctuator-clause-seen
returns-else-is_punctuator-clause-seen c = OnTrue_from _ (ImportGoesOn c.args.self.now.cursor.text c.args.self.now.cursor.last (token_of c.args.token.now) c.requires) (λ h.
    dot_behind c.args.self.now.cursor.text c.args.self.now.cursor.last (token_of c.args.token.now) c.requires (token_of c.in-Some.second) c.in-Some.ensures.some (sym c.is_punctuator-else-is_punctuator.ensures.is ∙ h))

pub returns-else-is_punctuator-clause-missed : goal.returns-else-is_punctuator-clause-missed
returns-else-is_punctuator-clause-missed c = OnFalse_from _ (ImportStops c.args.self.now.cursor.text c.args.self.now.cursor.last (token_of c.args.token.now) c.requires) (λ h.
    neither_behind c.args.self.now.cursor.text c.args.self.now.cursor.last (token_of c.args.token.now) c.requires (token_of c.in-Some.second) c.in-Some.ensures.some (sym c.is_punctuator.ensures.is ∙ c.if-is_punctuator.false) (sym c.is_punctuator-else-is_punctuator.ensures.is ∙ h))

pub returns-in-None-clause-missed : goal.returns-in-None-clause-missed
returns-in-None-clause-missed c = nothing_behind c.args.self.now.cursor.text c.args.self.now.cursor.last (token_of c.args.token.now) c.requires c.in-None.ensures.none
