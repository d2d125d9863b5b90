use Rattle.std.proofs.Common.{◌≡◌, ◌∙◌, ℕ, zero, suc, ◌+◌, ◌<◌, false, sym, ap, arith, List, [], ◌∷◌, bytes_eq, inl, inr, slice_index_or, true≢false, length, refl, Some, cond}
use Rattle.std.proofs.lemmas.Bool.{cases_lt}
use Rattle.std.proofs.lemmas.List.{get_or_default}
use Rattle.std.proofs.lemmas.Slice.Eq.{bytes_eq-Decides}
use Rattle.commands.specs.Commands.{default_format, word_of}
use Rattle.commands.specs.declared.command.Command.{Command}
use Rattle.commands.specs.declared.command.Command.TheVariants.{Check, Tree, Fix, Unwrap, Mend, Format, Cost, Verify, Same}
use Rattle.commands.specs.declared.command.ReportForm.TheVariants.{Places}
use Rattle.command_line.specs.CommandLine.{plain}
use Rattle.command_line.proofs.line.command_of.Goals as goal

abbrev commands : List Command
commands = Check Places ∷ Tree ∷ Fix ∷ Unwrap ∷ Mend ∷ Format default_format ∷ Cost ∷ Verify ∷ Same ∷ []

-- the word that was said is not this command's, nor those of the commands before it
one_more : (word said : List ℕ) (i : ℕ) (e : Command) → i < length commands → said ≡ word_of (slice_index_or commands i e) → bytes_eq said word ≡ false
    → ((k : ℕ) (d : Command) → k < i → word_of (slice_index_or commands k d) ≡ word → ⊥) → (k : ℕ) (d : Command) → k < i + 1 → word_of (slice_index_or commands k d) ≡ word → ⊥
one_more word said i e lt at miss before k d below is = elim (cases_lt k i) [
  | inl earlier ↦ before k d earlier is
  | inr here ↦
      let same : i ≡ k = omega (arith, here, below) in
      let this = at ∙ ap word_of (ap (λ n. slice_index_or commands n e) same ∙ get_or_default commands k e d (omega (arith, same, lt))) ∙ is in
      true≢false (sym ((bytes_eq-Decides said word).1 this) ∙ miss)
]

pub loop-command-preserved : goal.loop-command-preserved
loop-command-preserved c = one_more c.args.word.now c.word.result.now c.loop-command.command-index _ c.loop-command-test.true c.word.ensures (sym c.eq.ensures ∙ c.if-eq.false) c.loop-command.invariant

-- a word that none of them has is no command's
none : (word : List ℕ) → ((k : ℕ) (d : Command) → k < 9 → word_of (slice_index_or commands k d) ≡ word → ⊥) → (command : Command) → word_of command ≡ word → ⊥
none word before (Check form) = before 0 (Check form) (omega arith)
none word before Tree = before 1 Tree (omega arith)
none word before Fix = before 2 Fix (omega arith)
none word before Unwrap = before 3 Unwrap (omega arith)
none word before Mend = before 4 Mend (omega arith)
none word before (Format choice) = before 5 (Format choice) (omega arith)
none word before Cost = before 6 Cost (omega arith)
none word before Verify = before 7 Verify (omega arith)
none word before Same = before 8 Same (omega arith)

pub returns-clause-found : goal.returns-clause-found
returns-clause-found c = λ command is. absurd (none c.args.word.now (λ k d lt. c.loop-command.invariant k d (omega (arith, c.loop-command-test.false, lt))) command is)

abbrev by_word : List ℕ → Command
by_word word =
    cond (bytes_eq word (word_of (Check Places))) (Check Places) (cond (bytes_eq word (word_of Tree)) Tree (cond (bytes_eq word (word_of Fix)) Fix
    (cond (bytes_eq word (word_of Unwrap)) Unwrap (cond (bytes_eq word (word_of Mend)) Mend (cond (bytes_eq word (word_of (Format default_format))) (Format default_format)
    (cond (bytes_eq word (word_of Cost)) Cost (cond (bytes_eq word (word_of Verify)) Verify Same)))))))

plain_by_word : (command : Command) → by_word (word_of command) ≡ plain command
plain_by_word (Check form) = refl
plain_by_word Tree = refl
plain_by_word Fix = refl
plain_by_word Unwrap = refl
plain_by_word Mend = refl
plain_by_word (Format choice) = refl
plain_by_word Cost = refl
plain_by_word Verify = refl
plain_by_word Same = refl

-- those of the list are plain
plain_listed : (i : ℕ) (d : Command) → i < 9 → plain (slice_index_or commands i d) ≡ slice_index_or commands i d
plain_listed zero d lt = refl
plain_listed (suc zero) d lt = refl
plain_listed (suc (suc zero)) d lt = refl
plain_listed (suc (suc (suc zero))) d lt = refl
plain_listed (suc (suc (suc (suc zero)))) d lt = refl
plain_listed (suc (suc (suc (suc (suc zero))))) d lt = refl
plain_listed (suc (suc (suc (suc (suc (suc zero)))))) d lt = refl
plain_listed (suc (suc (suc (suc (suc (suc (suc zero))))))) d lt = refl
plain_listed (suc (suc (suc (suc (suc (suc (suc (suc zero)))))))) d lt = refl
plain_listed (suc (suc (suc (suc (suc (suc (suc (suc (suc i))))))))) d lt = absurd (omega (arith, lt))

pub returns-then-eq-clause-named : goal.returns-then-eq-clause-named
returns-then-eq-clause-named c = sym c.word.ensures ∙ (bytes_eq-Decides c.word.result.now c.args.word.now).0 (sym c.eq.ensures ∙ c.if-eq.true)

-- two plain commands of one word are one
pub returns-then-eq-clause-found : goal.returns-then-eq-clause-found
returns-then-eq-clause-found c = λ command is.
    let at = sym c.word.ensures ∙ (bytes_eq-Decides c.word.result.now c.args.word.now).0 (sym c.eq.ensures ∙ c.if-eq.true) in
    ap Some (sym (plain_listed c.loop-command.command-index _ c.loop-command-test.true) ∙ sym (plain_by_word _) ∙ ap by_word (at ∙ sym is) ∙ plain_by_word command)
