use Rattle.std.proofs.Common.{subst, sym, ap, ◌∙◌, ◌++◌}
use Rattle.std.proofs.lemmas.Str.{IsCharBoundary-start}
use Rattle.std.specs.Char.{encode_utf8}
use Rattle.std.specs.String.{string_bytes}
use Rattle.regular_expressions.proofs.NameSteps.{InSpelled, spelled_begins, spelled_goes_on, spelled_ends, spelled_reads, spelled_stands, is_in_range}
use Rattle.regular_expressions.proofs.name.unescaped.Goals as goal

pub loop-step-init : goal.loop-step-init
loop-step-init c =
    subst (λ x. InSpelled c.args.word.now 0 x) (sym c.new-name.ensures.bytes) (spelled_begins c.args.word.now (IsCharBoundary-start c.args.word.now c.utf8.word))

pub returns-in_default-name_character : goal.returns-in_default-name_character
returns-in_default-name_character c =
    absurd (spelled_reads c.args.word.now (string_bytes c.loop-step.name) c.loop-step.at c.in-Some.step.end c.in-Some.step.c c.loop-step.invariant c.requires c.in-Some.ensures.some c.in_default-name_character.ensures.none)

pub returns-in_default-from_u32 : goal.returns-in_default-from_u32
returns-in_default-from_u32 c =
    let s = spelled_stands c.args.word.now (string_bytes c.loop-step.name) c.loop-step.at c.in-Some.step.end c.in-Some-name_character.character.end c.in-Some.step.c c.in-Some-name_character.character.value c.loop-step.invariant c.requires
    c.in-Some.ensures.some c.in-Some-name_character.ensures.some in absurd (is_in_range c.in-Some-name_character.character.value s c.in_default-from_u32.ensures.cases)

pub loop-step-preserved : goal.loop-step-preserved
loop-step-preserved c =
    let s = spelled_goes_on c.args.word.now (string_bytes c.loop-step.name) c.loop-step.at c.in-Some.step.end c.in-Some-name_character.character.end c.in-Some.step.c c.in-Some-name_character.character.value c.loop-step.invariant c.requires
    c.in-Some.ensures.some c.in-Some-name_character.ensures.some in
    subst (λ x. InSpelled c.args.word.now c.in-Some-name_character.character.end x)
    (sym (c.in_ok-push.ensures.bytes ∙ ap (λ x. string_bytes c.loop-step.name ++ encode_utf8 x) c.in-Some-from_u32.ensures.value.1)) s

pub returns : goal.returns
returns c = spelled_ends c.args.word.now (string_bytes c.loop-step.name) c.loop-step.at c.loop-step.invariant c.requires c.in_default.ensures.none
