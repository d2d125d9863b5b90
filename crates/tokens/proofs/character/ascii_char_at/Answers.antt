use Rattle.std.proofs.Common.{◌≡◌, ◌+◌, ◌<◌, ◌≤◌, ◌∷◌, [], ℕ, List, get_or, length, sym, ap, ◌∙◌, subst}
use Rattle.tokens.specs.Scanned.{Passed}
use Rattle.tokens.proofs.PassedCharacters.{pass_ascii, no_ascii_end, no_ascii_far}
use Rattle.tokens.proofs.character.ascii_char_at.Goals as goal

pub returns-clause-some : goal.returns-clause-some
returns-clause-some c =
    let text = c.args.text.now in
    let same = c.as_bytes-bytes.ensures.value in
    let within = subst (λ (x : List ℕ). c.args.at < length x) same c.if-at-bytes.false in
    let ascii = subst (λ (x : List ℕ). get_or x c.args.at 0 < 128) same c.if-byte-ge128.false in
    let e : get_or text c.args.at 0 ≡ c.from.result = sym (c.from.ensures ∙ ap (λ (x : List ℕ). get_or x c.args.at 0) same) in
    subst (λ n. Passed text c.args.at (c.args.at + 1) (n ∷ [])) e (pass_ascii text c.args.at c.utf8.text c.requires within ascii)

pub returns-then-at-bytes-clause-none : goal.returns-then-at-bytes-clause-none
returns-then-at-bytes-clause-none c =
    no_ascii_end c.args.text.now c.args.at (subst (λ (x : List ℕ). length x ≤ c.args.at) c.as_bytes-bytes.ensures.value c.if-at-bytes.true)

pub returns-then-byte-ge128-clause-none : goal.returns-then-byte-ge128-clause-none
returns-then-byte-ge128-clause-none c =
    let text = c.args.text.now in
    let same = c.as_bytes-bytes.ensures.value in
    let within = subst (λ (x : List ℕ). c.args.at < length x) same c.if-at-bytes.false in
    let far = subst (λ (x : List ℕ). 128 ≤ get_or x c.args.at 0) same c.if-byte-ge128.true in
    no_ascii_far text c.args.at c.utf8.text c.requires within far
