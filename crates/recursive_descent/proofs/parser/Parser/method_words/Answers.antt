use Rattle.std.proofs.Common.{sym, codes, ap, subst, ◌∙◌}
use Rattle.tokens.specs.Scanned.{token_of}
use Rattle.tokens.specs.declared.token.Goal.TheVariants.{Div}
use Rattle.token_cursor.specs.Seen.{SeesBy}
use Rattle.recursive_descent.specs.Modifiers.{follows_async}
use Rattle.std.proofs.lemmas.Bool.{OnTrue_at, OnFalse_at}
use Rattle.token_cursor.proofs.TokensAhead.{word_missed, word_none}
use Rattle.recursive_descent.proofs.sound_properties.MemberWords.{async_alone, async_starred, plain_starred}
use Rattle.recursive_descent.proofs.parser.Parser.method_words.Goals.{in-Some+then-is_name_token+else-not-sees_async_method, in-Some+else-is_name_token, in_default}
use Rattle.recursive_descent.proofs.parser.Parser.method_words.Goals as goal

pub returns-then-not-sees_async_method-clause-words : goal.returns-then-not-sees_async_method-clause-words
returns-then-not-sees_async_method-clause-words c =
    async_alone c.args.self.now.cursor.text c.advance.new.self.cursor.text c.args.self.now.cursor.last c.advance.new.self.cursor.last c.in-Some.token c.unless_name.result.form c.unless_name.result.name c.requires c.in-Some.ensures.some (sym c.is_name_token.ensures.is ∙ c.if-is_name_token.true) c.advance.ensures.last c.advance.ensures.text
    (OnFalse_at c.if-not-sees_async_method.true c.sees_async_method.ensures.missed) c.unless_name.ensures.form c.unless_name.ensures.name

pub returns-clause-words : goal.returns-clause-words
returns-clause-words c = elim c.match-peek.branch [
  | in-Some+then-is_name_token+else-not-sees_async_method w ↦
      let at = ap (λ x. x.cursor.last) w.self-is ∙ w.advance.ensures.last in
      let sees = OnTrue_at w.if-not-sees_async_method.false w.sees_async_method.ensures.seen in
      async_starred c.args.self.now.cursor.text c.args.self.now.cursor.last (token_of w.in-Some.token) c.match-peek.self.cursor c.starred.new.self.cursor c.match-peek.form c.starred.result c.unless_name-2.result.form c.unless_name-2.result.name c.requires w.in-Some.ensures.some (sym w.is_name_token.ensures.is ∙ w.if-is_name_token.true) at
      (ap (λ x. x.cursor.text) w.self-is ∙ w.advance.ensures.text) (subst (λ x. SeesBy x.cursor.text Div follows_async x.cursor.last) (sym w.self-is) sees) w.form-is c.starred.ensures.starred c.unless_name-2.ensures.form c.unless_name-2.ensures.name
  | in-Some+else-is_name_token w ↦
      let none = word_missed c.args.self.now.cursor.text (codes "async") c.args.self.now.cursor.last (token_of w.in-Some.token) w.in-Some.ensures.some (sym w.is_name_token.ensures.is ∙ w.if-is_name_token.false) in
      plain_starred c.args.self.now.cursor.text c.args.self.now.cursor.last c.match-peek.self.cursor c.starred.new.self.cursor c.match-peek.form c.starred.result c.unless_name-2.result.form c.unless_name-2.result.name c.requires none (ap (λ x. x.cursor.last) w.self-is) (ap (λ x. x.cursor.text) w.self-is) w.form-is c.starred.ensures.starred c.unless_name-2.ensures.form c.unless_name-2.ensures.name
  | in_default w ↦
      let none = word_none c.args.self.now.cursor.text (codes "async") c.args.self.now.cursor.last w.in_default.ensures.none in
      plain_starred c.args.self.now.cursor.text c.args.self.now.cursor.last c.match-peek.self.cursor c.starred.new.self.cursor c.match-peek.form c.starred.result c.unless_name-2.result.form c.unless_name-2.result.name c.requires none (ap (λ x. x.cursor.last) w.self-is) (ap (λ x. x.cursor.text) w.self-is) w.form-is c.starred.ensures.starred c.unless_name-2.ensures.form c.unless_name-2.ensures.name
]
