use Rattle.std.proofs.Common.{sym, ◌∙◌, subst}
use Rattle.recursive_descent.specs.Later.{StarredAt}
use Rattle.recursive_descent.proofs.sound_statements.FunctionWords.{words_plain, words_async}
use Rattle.recursive_descent.proofs.parser.Parser.function_form.Goals as goal
use Rattle.recursive_descent.proofs.parser.Parser.function_form.Goals.{then-is_async+in_ok-expect_word, else-is_async}

pub returns-clause-words : goal.returns-clause-words
returns-clause-words c =
    let s = c.args.self.now.cursor in
    let e = c.starred.new.self.cursor in
    elim c.if-is_async.branch [
      | then-is_async+in_ok-expect_word w ↦ words_async s w.expect_word.new.self.cursor e c.args.form c.starred.result (sym c.is_async.ensures ∙ w.if-is_async.true) c.requires.first w.in_ok-expect_word.ensures.text w.in_ok-expect_word.ensures.accepted.0 (subst (λ p. StarredAt p.cursor e c.args.form c.starred.result) w.self-is c.starred.ensures.starred)
      | else-is_async w ↦ words_plain s e c.args.form c.starred.result (sym c.is_async.ensures ∙ w.if-is_async.false) c.requires.first (subst (λ p. StarredAt p.cursor e c.args.form c.starred.result) w.self-is c.starred.ensures.starred)
    ]
