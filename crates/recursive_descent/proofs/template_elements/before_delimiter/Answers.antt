use Rattle.std.proofs.Common.{[], ◌∷◌, Some, None, sym, ◌∙◌}
use Rattle.std.proofs.lemmas.List.{append_cancel_right}
use Rattle.std.proofs.lemmas.Str.Pattern.{strip_suffix_char}
use Rattle.recursive_descent.proofs.template_elements.before_delimiter.Goals as goal

pub returns-in-Some : goal.returns-in-Some
returns-in-Some c word e = let h = strip_suffix_char c.args.last c.args.text.now (Some c.in-Some.word) c.in-Some.ensures.cases c.requires in append_cancel_right c.in-Some.word.now word (c.args.last ∷ []) (sym h ∙ e)

pub returns-in-None : goal.returns-in-None
returns-in-None c word e = absurd (strip_suffix_char c.args.last c.args.text.now None c.in-None.ensures.cases c.requires word e)
