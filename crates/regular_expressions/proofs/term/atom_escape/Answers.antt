use Rattle.std.proofs.Common.{◌≡◌, false, [], ◌∷◌, ap, ◌∙◌, subst, arith}
use Rattle.std.proofs.lemmas.Bool.Decides.{nat_tests}
use Rattle.tokens.specs.Alphabet.{one_of, is_decimal_digit, is_non_zero_digit}
use Rattle.tokens.specs.Reading.{behind}
use Rattle.tokens.specs.Scanned.{Passed}
use Rattle.tokens.proofs.PassedCharacters.{some_gives}
use Rattle.regular_expressions.specs.Terms.{atom_escape}
use Rattle.regular_expressions.specs.Scanned.{IsRead, piece_as}
use Rattle.regular_expressions.proofs.Productions.{read_behind, none_through}
use Rattle.regular_expressions.proofs.Words.{digit_is_ascii, run_slice}
use Rattle.regular_expressions.proofs.TermSteps.{digits_referred, escape_atom}
use Rattle.regular_expressions.proofs.term.atom_escape.Goals as goal
use Rattle.regular_expressions.proofs.term.atom_escape.Goals.{in_default-c-via-then-first-lt49, in_default-c-via-else-first-lt49+else-first-lt58}

pub returns-in-k-clause-some : goal.returns-in-k-clause-some
returns-in-k-clause-some c =
    let text = c.args.text.now in
    let at = c.args.at in
    let u = c.args.is_unicode in
    let end = c.in-Some.first.end in
    let p = subst (λ x. Passed text at end (x ∷ [])) c.in-k.is c.in-Some.ensures.some in
    some_gives (λ r. IsRead (atom_escape u (0x6B ∷ behind text end)) (piece_as r.piece) text end r.end) (λ r. IsRead (atom_escape u (behind text at)) (piece_as r.piece) text at r.end) c.name_reference.result
    (λ r h. read_behind (atom_escape u (behind text at)) (atom_escape u (0x6B ∷ behind text end)) (piece_as r.piece) text at end r.end 0x6B p (ap (atom_escape u) p.split) h)
    (c.name_reference.ensures.some u)

pub returns-in-k-clause-none : goal.returns-in-k-clause-none
returns-in-k-clause-none c =
    let text = c.args.text.now in
    let u = c.args.is_unicode in
    let end = c.in-Some.first.end in
    let p = subst (λ x. Passed text c.args.at end (x ∷ [])) c.in-k.is c.in-Some.ensures.some in
    none_through (atom_escape u (behind text c.args.at)) (atom_escape u (0x6B ∷ behind text end)) c.name_reference.result (ap (atom_escape u) p.split) (c.name_reference.ensures.none u)

pub returns-in-1-to-9-clause-some : goal.returns-in-1-to-9-clause-some
returns-in-1-to-9-clause-some c =
    let text = c.args.text.now in
    let h = c.digits_end-end.ensures in
    digits_referred c.args.is_unicode text c.range.result.now c.args.at c.in-Some.first.end c.digits_end-end.result c.in-Some.first.c c.in-Some.ensures.some (omega arith) (omega arith) h
    (c.range.ensures.value ∙ run_slice is_decimal_digit digit_is_ascii text c.args.at c.digits_end-end.result c.utf8.text c.requires h)

pub returns-in-Some-escape_by-clause-some : goal.returns-in-Some-escape_by-clause-some
returns-in-Some-escape_by-clause-some c =
    let text = c.args.text.now in
    let d = c.in-Some.first.c in
    elim c.in_default-c.branch [
      | in_default-c-via-then-first-lt49 w ↦
          let a : one_of "bB" d ≡ false = grind (arith, nat_tests) in
          let b : is_non_zero_digit d ≡ false = grind (arith, nat_tests) in
          let k : one_of "k" d ≡ false = grind (arith, nat_tests) in
          escape_atom c.args.is_unicode text c.args.at c.in-Some.first.end c.in-Some-escape_by.valued.end d c.in-Some-escape_by.valued.value c.in-Some.ensures.some a b k c.in-Some-escape_by.ensures.some
      | in_default-c-via-else-first-lt49+else-first-lt58 w ↦
          let a : one_of "bB" d ≡ false = grind (arith, nat_tests) in
          let b : is_non_zero_digit d ≡ false = grind (arith, nat_tests) in
          let k : one_of "k" d ≡ false = grind (arith, nat_tests) in
          escape_atom c.args.is_unicode text c.args.at c.in-Some.first.end c.in-Some-escape_by.valued.end d c.in-Some-escape_by.valued.value c.in-Some.ensures.some a b k c.in-Some-escape_by.ensures.some
    ]
