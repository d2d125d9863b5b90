use Rattle.std.proofs.Common.{ap, ◌∙◌}
use Rattle.covers.specs.declared.list.ListItem.{ListItem}
use Rattle.recursive_descent.proofs.sound_lists.TemplateDelimiters.{part_made, part_own}
use Rattle.recursive_descent.proofs.template_elements.template_element.Goals as goal

pub returns-clause-made : goal.returns-clause-made
returns-clause-made c first last word h e =
    let inside = c.without_delimiters-is_tail.ensures first last word h in
    (part_made c.args.token.start c.args.token.end c.args.token.text.now word c.without_delimiters-is_tail.result.0.now c.in_ok-raw.raw.now first last c.span_inside-span.result c.plain-item.result.node h e inside.0 c.span_inside-span.ensures c.in_ok-raw.ensures.raw (ap (λ (i : ListItem). i.node) c.plain-item.ensures ∙ c.in_ok-leaf.ensures.made.0), inside.1)

pub returns-clause-own : goal.returns-clause-own
returns-clause-own c = part_own (ap (λ (i : ListItem). i.node) c.plain-item.ensures ∙ c.in_ok-leaf.ensures.made.0)
