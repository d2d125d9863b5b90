use Rattle.std.proofs.Common.{◌==◌, IsTrue, refl, sym, subst}
use Rattle.std.proofs.lemmas.Bool.{ne_eqb, or_from}
use Rattle.tokens.specs.Alphabet.{one_of}
use Rattle.tokens.specs.Lexical.{StringLiteral}
use Rattle.tokens.specs.Escaped.{IsStringRest, NoStringRest}
use Rattle.tokens.specs.Scanned.{IsWordAt, NoWordAt}
use Rattle.tokens.proofs.PassedCharacters.{some_gives, none_gives}
use Rattle.tokens.proofs.StringScans.{string_word, no_string, no_string_end, no_quote}
use Rattle.tokens.proofs.string.string_end.Goals as goal
use Rattle.tokens.proofs.string.string_end.Goals.{then-first-eq34-via-then-first-eq34, then-first-eq34-via-else-first-eq34+then-first-eq39}

pub returns-then-first-eq34-clause-some : goal.returns-then-first-eq34-clause-some
returns-then-first-eq34-clause-some c =
    let q = c.in-Some.first.c in
    let t : IsTrue (one_of "'\"" q) = elim c.then-first-eq34.branch [
      | then-first-eq34-via-then-first-eq34 w ↦ subst (λ x. IsTrue (one_of "'\"" x)) (sym w.if-first-eq34.true) refl
      | then-first-eq34-via-else-first-eq34+then-first-eq39 w ↦ subst (λ x. IsTrue (one_of "'\"" x)) (sym w.if-first-eq39.true) refl
    ] in
    let text = c.args.text.now in
    let start = c.in-Some.first.end in
    let p = c.in-Some.ensures.some in
    some_gives (λ e. IsStringRest q text start e) (λ e. IsWordAt StringLiteral text c.args.at e) c.closed_end.result (λ e r. string_word text c.args.at start e q p t r) c.closed_end.ensures.some

pub returns-then-first-eq34-clause-none : goal.returns-then-first-eq34-clause-none
returns-then-first-eq34-clause-none c =
    let q = c.in-Some.first.c in
    let text = c.args.text.now in
    let start = c.in-Some.first.end in
    let p = c.in-Some.ensures.some in
    none_gives (NoStringRest q text start) (NoWordAt StringLiteral text c.args.at) c.closed_end.result (λ n. no_string text c.args.at start q p n) c.closed_end.ensures.none

pub returns-in_default-clause-none : goal.returns-in_default-clause-none
returns-in_default-clause-none c = no_string_end c.args.text.now c.args.at c.in_default.ensures.none

pub returns-clause-none : goal.returns-clause-none
returns-clause-none c = no_quote c.args.text.now c.args.at c.in-Some.first.end c.in-Some.first.c c.in-Some.ensures.some
    (or_from (c.in-Some.first.c == 39) (c.in-Some.first.c == 34) (ne_eqb c.in-Some.first.c 39 c.if-first-eq39.false) (ne_eqb c.in-Some.first.c 34 c.if-first-eq34.false))
