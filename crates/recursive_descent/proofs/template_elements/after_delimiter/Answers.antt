use Rattle.std.proofs.Common.{Some, None}
use Rattle.std.proofs.lemmas.Str.Pattern.{strip_prefix_char}
use Rattle.recursive_descent.proofs.template_elements.after_delimiter.Goals as goal

pub returns-in-Some : goal.returns-in-Some
returns-in-Some c rest e = let h = strip_prefix_char c.args.first c.args.text.now (Some c.in-Some.rest) c.in-Some.ensures.cases c.requires in cc

pub returns-in-None : goal.returns-in-None
returns-in-None c rest e = absurd (strip_prefix_char c.args.first c.args.text.now None c.in-None.ensures.cases c.requires rest e)
