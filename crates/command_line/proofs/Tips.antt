-- The tip behind what is said of wrong words.
use Rattle.std.proofs.Common.{◌≡◌, ℕ, List, [], ◌++◌, Bool, Option, Some, None, Result, Ok, Err, IfOk, is_ok, cond, map, refl, sym, ap, ◌∙◌, subst, append_assoc, inl}
use Rattle.std.specs.Prelude.{slice_get}
use Rattle.std.specs.Borrow.{Bor}
use Rattle.std.specs.Option.{option_map, option_map_or}
use Rattle.std.specs.Slice.{IsItemAt}
use Rattle.std.proofs.lemmas.Option.{slice_get_past, slice_get-get_or, slice_get-map}
use Rattle.clap.specs.Words.{Text}
use Rattle.clap.specs.declared.error.kind.ErrorKind.{ErrorKind}
use Rattle.clap.specs.declared.error.kind.ErrorKind.TheVariants.{InvalidSubcommand}
use Rattle.source_text.specs.declared.sink.DeviceFault.{DeviceFault}
use Rattle.source_text.specs.Writing.{WritesText}
use Rattle.commands.specs.Refusal.{WritesLine}
use Rattle.command_line.specs.Shown.{escaped}
use Rattle.command_line.specs.Tip.{WritesMistake, tip_for, tip_of}

-- the word that was looked up, by what it says
pub word_at : (words : List (Bor Text)) (i : ℕ) (found : Option (Bor (Bor Text))) → IsItemAt words i found
    → slice_get (map (λ w. w.now) words) i ≡ option_map (λ w. w.now.now) found
word_at words i None (same, item, there, past, default) = slice_get-map (λ w. w.now) words i ∙ ap (option_map (λ w. w.now)) (slice_get_past words i past)
word_at words i (Some w) (same, item, there, within, default) =
    slice_get-map (λ w. w.now) words i ∙ ap (option_map (λ w. w.now)) (slice_get-get_or words i w.now within.0 ∙ ap Some (sym item))

-- the tip for the word in a command's place
pub tip_there : (kind : ErrorKind) (words : List Text) (word : Text) → kind ≡ InvalidSubcommand → slice_get words 1 ≡ Some word → tip_of kind words ≡ tip_for word
tip_there kind words word wanted there = ap (λ k. tip_of k words) wanted ∙ ap (λ o. option_map_or tip_for o []) there

-- there is no such word
pub no_word : (kind : ErrorKind) (words : List Text) → kind ≡ InvalidSubcommand → slice_get words 1 ≡ None → tip_of kind words ≡ []
no_word kind words wanted none = ap (λ k. tip_of k words) wanted ∙ ap (λ o. option_map_or tip_for o []) none

-- no command was wanted
pub no_tip : (kind : ErrorKind) (words : List Text) → (kind ≡ InvalidSubcommand → ⊥) → tip_of kind words ≡ []
no_tip InvalidSubcommand words other = absurd (other refl)
no_tip kind words other = refl

-- the last piece was put behind what was there, unless memory was refused
pub pushed : {E : Type 0} (result : Result (Unit {0}) E) (new old last whole : List ℕ) → new ≡ cond (is_ok result) (old ++ last) old → old ++ last ≡ whole → IfOk result (λ _. new ≡ whole)
pushed (Ok u) new old last whole is same = is ∙ same
pushed (Err e) new old last whole is same = tt

-- three pieces, one behind the other
pub three : (start one two first second third : List ℕ) → one ≡ start ++ first → two ≡ one ++ second → two ++ third ≡ start ++ (first ++ second ++ third)
three start one two first second third e f =
    ap (λ w. w ++ third) (f ∙ ap (λ w. w ++ second) e ∙ append_assoc start first second) ∙ append_assoc start (first ++ second) third

-- what was said, with the tip behind it
pub mistake_said : (tip said text : List ℕ) (before after : Option (List ℕ)) (failed : Bool) → text ≡ said ++ tip → WritesLine (escaped text) before after failed → WritesMistake tip before after failed
mistake_said tip said text before after failed is written = (text, inl (said, is), written)

-- a line of which all or a beginning was written
pub line_written : (line : List ℕ) (result : Result (Unit {0}) DeviceFault) (before after : Option (List ℕ)) (failed : Bool) → WritesText line result before after failed → WritesLine line before after failed
line_written line (Ok u) before after failed (whole, well) = subst (WritesLine line before after) (sym well) whole
line_written line (Err e) before after failed (begun, ill) = subst (WritesLine line before after) (sym ill) begun
