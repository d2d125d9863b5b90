use Rattle.tokens.specs.Scanned.{token_of}
use Rattle.covers.specs.declared.list.ListItem.{ListItem}
use Rattle.recursive_descent.proofs.reading.WaitingNodes.{waits_behind}
use Rattle.recursive_descent.proofs.sound_lists.TemplateElements.{chunk_read, later_passed}
use Rattle.recursive_descent.proofs.parser.Parser.next_template_element.Goals as goal

pub returns-clause-read : goal.returns-clause-read
returns-clause-read c =
    let passed = later_passed c.args.self.now.cursor.text c.template_element_token.new.self.cursor.last (token_of c.in_ok-token.token) c.in_ok-token.ensures.accepted.1 c.in_ok-token.ensures.accepted.0.1 in
    chunk_read c.args.self.now.cursor.text c.args.self.now.cursor.last c.template_element_token.new.self.cursor.last (token_of c.in_ok-token.token) _ c.in_ok-token.ensures.ahead passed.0 passed.1 c.template_element.ensures.made

pub returns-clause-waits : goal.returns-clause-waits
returns-clause-waits c = waits_behind _ (λ (i : ListItem). i.node) c.template_element.result c.template_element_token.ensures.same_tree c.template_element.ensures.waits
