use Rattle.std.proofs.Common.{sym, ◌∙◌, arith}
use Rattle.std.proofs.lemmas.Bool.{false≢true}
use Rattle.std.proofs.lemmas.Str.Pattern.{contains_char}
use Rattle.recursive_descent.proofs.sound_lists.TemplateDelimiters.{raw_same, raw_bytes}
use Rattle.recursive_descent.proofs.template_elements.raw_of.Goals as goal

pub returns-then-not-contains-clause-raw : goal.returns-then-not-contains-clause-raw
returns-then-not-contains-clause-raw c =
    sym (raw_same c.args.text.now (λ k l e. false≢true (sym c.if-not-contains.true ∙ (contains_char 13 c.args.text.now c.contains.result c.contains.ensures.cases (omega arith)).1 k l e)))

pub returns-clause-raw : goal.returns-clause-raw
returns-clause-raw c = c.in_ok-keep.ensures ∙ c.as_str.ensures.value ∙ c.in_ok-raw.ensures.raw ∙ raw_bytes c.args.text.now c.utf8.text
