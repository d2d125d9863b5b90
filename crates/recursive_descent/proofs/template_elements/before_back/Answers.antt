use Rattle.std.proofs.Common.{Some, None, arith}
use Rattle.std.proofs.lemmas.Str.Pattern.{strip_suffix_char}
use Rattle.recursive_descent.proofs.sound_lists.TemplateDelimiters.{before_accent, before_dollar}
use Rattle.recursive_descent.proofs.template_elements.before_back.Goals as goal

pub returns-in-Some : goal.returns-in-Some
returns-in-Some c = before_accent _ _ (strip_suffix_char 96 c.args.text.now (Some c.in-Some.word) c.in-Some.ensures.cases (omega arith))

pub returns-in-None : goal.returns-in-None
returns-in-None c = before_dollar _ _ _ (strip_suffix_char 96 c.args.text.now None c.in-None.ensures.cases (omega arith)) c.before_delimiter.ensures c.before_delimiter-in-None.ensures
