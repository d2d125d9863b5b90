-- The number of a value is that of its definition.
use Rattle.std.proofs.Common.{◌≡◌, ◌∙◌, ℕ, Bool, cond, true, false, Option, Some, None, Result, Ok, Err, refl, sym, ap, arith, true≢false}
use Rattle.std.specs.Option.{option_map}
use Rattle.std.specs.Borrow.{Bor}
use Rattle.std.specs.Str.Parse.{ParsesUnsigned, digits_value, without_leading_plus}
use Rattle.clap.specs.ValueTests.{is_unsigned_in}
use Rattle.clap.specs.Words.{Text, rows_of, found_of, first_of, first_value}
use Rattle.clap.specs.declared.builder.value_parser.ValueParser.TheVariants.{Unsigned}
use Rattle.clap.specs.declared.parser.matches.Found.{Found}
use Rattle.clap.proofs.ValueTestLemmas.{Accepts-accepts, accepts-Accepts}
use Rattle.clap.proofs.WalkLemmas.{first_value-rows}
use Rattle.command_line.specs.CommandLine.{number_of}
use Rattle.command_line.proofs.line.number_met.Goals as goal

by_value : (found : Found) (id : Text) (o : Option (Bor Text)) (value : Option Text) (default number : ℕ) → option_map (λ s. s.now) o ≡ first_value found id → option_map (λ s. s.now) o ≡ value
    → number ≡ number_of default value → number ≡ number_of default (first_of id (rows_of found))
by_value found id o value default number e is at =
    let first : value ≡ first_of id (rows_of found) = sym is ∙ e ∙ first_value-rows found id in
    at ∙ ap (number_of default) first

abbrev is_ok : {A B : Type 0} → Result A B → Bool
is_ok (Ok x) = true
is_ok (Err e) = false

ok_value : {E : Type 0} {x y : ℕ} → ◌≡◌ {A = Result ℕ E} (Ok x) (Ok y) → x ≡ y
ok_value e = cc

-- what is read is the number that the text writes
read : {E : Type 0} (text : Text) (result : Result ℕ E) (default number : ℕ) → ParsesUnsigned 8 10 text result → result ≡ Ok number → number ≡ number_of default (Some text)
read {E} text (Err e) default number h is = absurd (true≢false (sym (ap (λ (r : Result ℕ E). is_ok r) is)))
read {E} text (Ok x) default number h is =
    let small = h.0.1 in
    let taken : is_unsigned_in 0 255 text ≡ true = Accepts-accepts false (Unsigned 0 255) text (h.0.0, omega (arith, small), omega arith, omega (arith, small)) in
    rw taken (sym (ok_value is) ∙ h.1)

-- a text of which nothing is read writes no number
unread : {E : Type 0} (text : Text) (result : Result ℕ E) (default : ℕ) (error : E) → ParsesUnsigned 8 10 text result → result ≡ Err error → default ≡ number_of default (Some text)
unread {E} text (Ok x) default error h is = absurd (true≢false (ap (λ (r : Result ℕ E). is_ok r) is))
unread {E} text (Err e) default error h is = go (is_unsigned_in 0 255 text) (λ taken.
    let a = accepts-Accepts false (Unsigned 0 255) text taken in
    let small = a.3 in
    h (a.0, omega (arith, small)))
  where
    go : (b : Bool) → (b ≡ true → ⊥) → default ≡ cond b (digits_value 10 (without_leading_plus text)) default
    go true untaken = absurd (untaken refl)
    go false untaken = refl

pub returns-in_default : goal.returns-in_default
returns-in_default c = by_value (found_of c.args.met.now) c.args.id.now c.get_str.result None c.args.default c.args.default c.get_str.ensures (ap (option_map (λ s. s.now)) c.in_default.is) refl

pub returns-in-Ok : goal.returns-in-Ok
returns-in-Ok c =
    by_value (found_of c.args.met.now) c.args.id.now c.get_str.result (Some c.in-Some.text.now) c.args.default c.in-Ok.number c.get_str.ensures (ap (option_map (λ s. s.now)) c.in-Some.is)
    (read c.in-Some.text.now c.parse.result c.args.default c.in-Ok.number c.parse.ensures.value.0 c.in-Ok.is)

pub returns-in-Err : goal.returns-in-Err
returns-in-Err c =
    by_value (found_of c.args.met.now) c.args.id.now c.get_str.result (Some c.in-Some.text.now) c.args.default c.args.default c.get_str.ensures (ap (option_map (λ s. s.now)) c.in-Some.is)
    (unread c.in-Some.text.now c.parse.result c.args.default c.in-Err.field-0 c.parse.ensures.value.0 c.in-Err.is)
