use Rattle.std.proofs.Common.{Some, None, arith}
use Rattle.std.proofs.lemmas.Str.Pattern.{strip_prefix_char}
use Rattle.recursive_descent.proofs.sound_lists.TemplateDelimiters.{behind_accent, behind_brace}
use Rattle.recursive_descent.proofs.template_elements.after_front.Goals as goal

pub returns-in-Some : goal.returns-in-Some
returns-in-Some c = behind_accent _ _ (strip_prefix_char 96 c.args.text.now (Some c.in-Some.rest) c.in-Some.ensures.cases (omega arith))

pub returns-in-None : goal.returns-in-None
returns-in-None c = behind_brace _ _ (strip_prefix_char 96 c.args.text.now None c.in-None.ensures.cases (omega arith)) c.after_delimiter.ensures
