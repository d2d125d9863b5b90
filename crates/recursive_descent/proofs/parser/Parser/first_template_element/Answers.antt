use Rattle.tokens.specs.Scanned.{token_of}
use Rattle.covers.specs.declared.list.ListKind.TheVariants.{Template}
use Rattle.recursive_descent.specs.Follows.{NoTemplate}
use Rattle.recursive_descent.proofs.reading.ReadRefusals.{passed_on}
use Rattle.recursive_descent.proofs.complete_subscripts.TemplatesGiven.{no_template}
use Rattle.recursive_descent.proofs.sound_lists.TemplateElements.{first_read}
use Rattle.recursive_descent.proofs.parser.Parser.first_template_element.Goals as goal

pub returns-clause-read : goal.returns-clause-read
returns-clause-read c = first_read c.args.self.now.cursor.text c.args.self.now.cursor.last c.take.new.self.last (token_of c.in_ok-token.token) _ c.in_ok-token.ensures.ok.0 c.in_ok-token.ensures.ok.2 c.template_element.ensures.made

pub returns-in_err-token-clause-untemplated : goal.returns-in_err-token-clause-untemplated
returns-in_err-token-clause-untemplated c = passed_on (NoTemplate Template c.args.self.now.cursor) _ c.in_err-token.field-0.0 c.from_residual.ensures.1 (no_template c.args.self.now.cursor c.in_err-token.field-0.0 c.in_err-token.ensures.err.1)

pub returns-clause-waits : goal.returns-clause-waits
returns-clause-waits c = c.template_element.ensures.waits
