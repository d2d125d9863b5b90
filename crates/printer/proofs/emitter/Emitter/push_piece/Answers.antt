use Rattle.std.proofs.Common.{sym, ap, ◌∙◌, ◌++◌}
use Rattle.std.specs.Prelude.{codes}
use Rattle.tree.specs.Node.{node_tree}
use Rattle.tree.specs.Tree.{text_of}
use Rattle.printer.specs.Sheets.{chunk_text, piece_text}
use Rattle.printer.proofs.WrittenTexts.{writes_as}
use Rattle.printer.proofs.emitter.Emitter.push_piece.Goals as goal

pub returns-in-NodeText : goal.returns-in-NodeText
returns-in-NodeText g c = writes_as _ _ _ _ (c.text.ensures ∙ sym (ap (piece_text (text_of (node_tree c.args.framed.node)) c.args.framed.depth c.args.previous_is_bare) c.in-NodeText.is)) c.push-in-NodeText.ensures.written

pub returns-in-TemplateElement : goal.returns-in-TemplateElement
returns-in-TemplateElement g c = writes_as _ _ _ _ (ap (chunk_text c.in-TemplateElement.is_first c.in-TemplateElement.is_last) c.text-in-TemplateElement.ensures ∙ sym (ap (piece_text (text_of (node_tree c.args.framed.node)) c.args.framed.depth c.args.previous_is_bare) c.in-TemplateElement.is)) c.push_template_element.ensures

pub returns-in-PrivateText : goal.returns-in-PrivateText
returns-in-PrivateText g c = writes_as _ _ _ _ (ap (λ t. codes "#" ++ t) c.text-in-PrivateText.ensures ∙ sym (ap (piece_text (text_of (node_tree c.args.framed.node)) c.args.framed.depth c.args.previous_is_bare) c.in-PrivateText.is)) c.push_private_text.ensures
