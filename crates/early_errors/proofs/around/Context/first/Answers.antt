use Rattle.std.proofs.Common.{sym, ◌∙◌}
use Rattle.early_errors.proofs.Surrounds.{first_surrounds, word_surrounds, key_surrounds, head_surrounds, like_surrounds}
use Rattle.early_errors.proofs.around.Context.first.Goals as goal

pub returns-in-Plain-clause-around : goal.returns-in-Plain-clause-around
returns-in-Plain-clause-around c = λ r g ps d h. first_surrounds c.args.self c.within.result c.args.kind r g ps c.within.ensures.around (sym c.first_part.ensures ∙ c.in-Plain.is)

pub returns-in-Word-clause-around : goal.returns-in-Word-clause-around
returns-in-Word-clause-around c = λ r g ps d h. word_surrounds c.args.self c.as_word.result c.args.kind r g ps c.as_word.ensures.around (sym c.first_part.ensures ∙ c.in-Word.is)

pub returns-in-Key-clause-around : goal.returns-in-Key-clause-around
returns-in-Key-clause-around c = λ r g ps d h. key_surrounds c.args.self c.key_of.result c.args.kind c.args.computed r g ps c.key_of.ensures.around (sym c.first_part.ensures ∙ c.in-Key.is) d

pub returns-in-Head-clause-around : goal.returns-in-Head-clause-around
returns-in-Head-clause-around c = λ r g ps d h. head_surrounds c.args.self c.within-in-Head.result c.args.kind r g ps c.within-in-Head.ensures.around (sym c.first_part.ensures ∙ c.in-Head.is)

pub returns-in-LikeOthers-clause-around : goal.returns-in-LikeOthers-clause-around
returns-in-LikeOthers-clause-around c = λ r g ps d h. like_surrounds c.args.self c.args.others c.args.kind r g ps (sym c.first_part.ensures ∙ c.in-LikeOthers.is) h
