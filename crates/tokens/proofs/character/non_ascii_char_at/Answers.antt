use Rattle.std.proofs.Common.{◌≡◌, ◌+◌, ◌∷◌, ◌++◌, [], drop, sym, ◌∙◌, subst}
use Rattle.std.specs.Char.{encode_utf8}
use Rattle.tokens.specs.Scanned.{Passed}
use Rattle.tokens.proofs.PassedCharacters.{pass_char}
use Rattle.tokens.proofs.character.non_ascii_char_at.Goals as goal

pub returns-clause-some : goal.returns-clause-some
returns-clause-some c =
    let rest = c.next.new.self.rest.now in
    let e : drop c.args.at c.args.text.now ≡ encode_utf8 c.in-Some.c ++ rest = sym (c.chars-rest.ensures.rest ∙ c.range_from.ensures.value) ∙ c.in-Some.ensures.steps.0 in
    subst (λ n. Passed c.args.text.now c.args.at (c.args.at + n) (c.in-Some.c ∷ [])) (sym c.len_utf8.ensures.value)
    (pass_char c.args.text.now rest c.args.at c.in-Some.c c.utf8.text c.requires e)
