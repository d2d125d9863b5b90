-- No character of a comment is a token's, and what follows one is read as if it weren't there.
use Rattle.std.proofs.Common.{◌≡◌, ℕ, Bool, true, false, cond, List, [], ◌∷◌, ◌++◌, refl, sym, ap, ◌∙◌, subst, arith}
use Rattle.std.specs.Prelude.{not, ◌&&◌, ◌||◌, if◌then◌else◌}
use Rattle.std.specs.List.{list_any}
use Rattle.std.proofs.lemmas.Bool.{eqb-true, false≢true}
use Rattle.std.proofs.lemmas.Bool.Decides.{nat_tests}
use Rattle.source_text.specs.Lines.{is_line_terminator}
use Rattle.tokens.specs.Alphabet.{begins_with, is_empty, is_white_space, one_of}
use Rattle.tokens.specs.Closers.{closes_from}
use Rattle.tokens.specs.Comments.{closes_comment, is_block_comment, is_line_comment}
use Rattle.tokens.proofs.TriviaSteps.{closes_same, nil_only}
use Rattle.text_rules.specs.declared.spot.Spot.{Spot}
use Rattle.text_rules.specs.declared.spot.Spot.TheVariants.{Outside, Slash, LineComment, BlockComment, Star}
use Rattle.text_rules.specs.Laws.{PassComments, token_characters}
use Rattle.text_rules.specs.Spots.{is_token, spot_after}

both-true : (a b : Bool) → (a && b) ≡ true → (a ≡ true) × (b ≡ true)
both-true true b h = (refl, h)
both-true false b h = absurd (false≢true h)

none-true : (a b : Bool) → (a || b) ≡ false → (a ≡ false) × (b ≡ false)
none-true false b h = (refl, h)
none-true true b h = absurd (false≢true (sym h))

not-true : (a : Bool) → not a ≡ true → a ≡ false
not-true false h = refl
not-true true h = absurd (false≢true h)

last-false : (o a b t : Bool) → t ≡ true → (o && (a && (b && not t))) ≡ false
last-false false a b t h = refl
last-false true false b t h = refl
last-false true true false t h = refl
last-false true true true t h = ap not h

-- a character of no token
step : (spot : Spot) (c : ℕ) (cs : List ℕ) → is_token spot c ≡ false → token_characters spot (c ∷ cs) ≡ token_characters (spot_after spot c) cs
step spot c cs h = ap (λ b. cond b (c ∷ token_characters (spot_after spot c) cs) (token_characters (spot_after spot c) cs)) h

-- ---- comments of many lines

star-step : (closed starred : Bool) (cs rest : List ℕ) → (if closed then is_empty cs else closes_from starred cs) ≡ true →
    (closes_from starred cs ≡ true → token_characters (cond starred Star BlockComment) (cs ++ rest) ≡ token_characters Outside rest) →
    token_characters (cond closed Outside (cond starred Star BlockComment)) (cs ++ rest) ≡ token_characters Outside rest
star-step true starred cs rest h more = ap (λ ds. token_characters Outside (ds ++ rest)) (nil_only cs h)
star-step false starred cs rest h more = more h

pass-block : (starred : Bool) (cs rest : List ℕ) → closes_from starred cs ≡ true → token_characters (cond starred Star BlockComment) (cs ++ rest) ≡ token_characters Outside rest
pass-block starred [] rest h = absurd (false≢true h)
pass-block false (c ∷ cs) rest h = pass-block (one_of "*" c) cs rest h
pass-block true (c ∷ cs) rest h = star-step (one_of "/" c) (one_of "*" c) cs rest h (pass-block (one_of "*" c) cs rest)

closing : (cs rest : List ℕ) → closes_comment cs ≡ true → token_characters BlockComment (cs ++ rest) ≡ token_characters Outside rest
closing [] rest h = absurd (false≢true h)
closing (c ∷ cs) rest h = pass-block false (c ∷ cs) rest (sym (closes_same c cs) ∙ h)

block : (cs rest : List ℕ) → is_block_comment cs ≡ true → token_characters Outside (cs ++ rest) ≡ token_characters Outside rest
block [] rest h = absurd (false≢true h)
block (c ∷ []) rest h = absurd (false≢true h)
block (c ∷ d ∷ cs) rest h =
    let all = both-true _ _ h in
    let marks = both-true _ _ all.0 in
    subst (λ x. token_characters Outside (x ∷ d ∷ cs ++ rest) ≡ token_characters Outside rest) (sym (eqb-true c 0x2F marks.0))
    (subst (λ x. token_characters Outside (0x2F ∷ x ∷ cs ++ rest) ≡ token_characters Outside rest) (sym (eqb-true d 0x2A marks.1)) (closing cs rest all.1))

-- ---- comments of one line

no-slash : (c : ℕ) → is_line_terminator c ≡ true → one_of "/" c ≡ false
no-slash c h = grind (arith, nat_tests)

no-token : (spot : Spot) (c : ℕ) → is_line_terminator c ≡ true → is_token spot c ≡ false
no-token Outside c h = last-false true (not (one_of "/" c)) (not (is_white_space c)) (is_line_terminator c) h
no-token Slash c h = last-false _ (not (one_of "/" c)) (not (is_white_space c)) (is_line_terminator c) h
no-token LineComment c h = last-false (is_line_terminator c) (not (one_of "/" c)) (not (is_white_space c)) (is_line_terminator c) h
no-token BlockComment c h = refl
no-token Star c h = refl

line-ends : (c : ℕ) (cs : List ℕ) → is_line_terminator c ≡ true → token_characters LineComment (c ∷ cs) ≡ token_characters Outside (c ∷ cs)
line-ends c cs h =
    step LineComment c cs (no-token LineComment c h) ∙ ap (λ b. token_characters (cond b Outside LineComment) cs) h
    ∙ sym (step Outside c cs (no-token Outside c h) ∙ ap (λ b. token_characters (cond b Slash Outside) cs) (no-slash c h))

pass-line : (cs rest : List ℕ) → list_any is_line_terminator cs ≡ false → (is_empty rest || begins_with is_line_terminator rest) ≡ true → token_characters LineComment (cs ++ rest) ≡ token_characters Outside rest
pass-line [] [] h e = refl
pass-line [] (d ∷ ds) h e = line-ends d ds e
pass-line (c ∷ cs) rest h e =
    let parts = none-true _ _ h in
    step LineComment c (cs ++ rest) (ap (λ b. b && (not (one_of "/" c) && (not (is_white_space c) && not (is_line_terminator c)))) parts.0)
    ∙ (ap (λ b. token_characters (cond b Outside LineComment) (cs ++ rest)) parts.0 ∙ pass-line cs rest parts.1 e)

line : (cs rest : List ℕ) → is_line_comment cs rest ≡ true → token_characters Outside (cs ++ rest) ≡ token_characters Outside rest
line [] rest h = absurd (false≢true h)
line (c ∷ []) rest h = absurd (false≢true ((both-true (one_of "/" c) false ((both-true _ true ((both-true _ _ h).0)).0)).1))
line (c ∷ d ∷ cs) rest h =
    let all = both-true _ _ h in
    let words = both-true _ _ all.0 in
    let marks = both-true _ _ words.0 in
    subst (λ x. token_characters Outside (x ∷ d ∷ cs ++ rest) ≡ token_characters Outside rest) (sym (eqb-true c 0x2F marks.0))
    (subst (λ x. token_characters Outside (0x2F ∷ x ∷ cs ++ rest) ≡ token_characters Outside rest) (sym (eqb-true d 0x2F marks.1))
    (pass-line cs rest ((none-true (is_line_terminator d) _ (not-true _ words.1)).1) all.1))

either : (a b : Bool) (X : Type 0) → (a || b) ≡ true → (a ≡ true → X) → (b ≡ true → X) → X
either true b X h f g = f refl
either false b X h f g = g h

pub passed : PassComments
passed body rest h = either (is_line_comment body rest) (is_block_comment body) _ h (line body rest) (block body rest)
