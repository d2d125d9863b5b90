-- A command line that has one command alone reads words that begin with that command's word as the whole command line does.
use Rattle.std.proofs.Common.{◌≡◌, ◌∙◌, ◌&&◌, ap, sym, refl, Bool, true, false, List, [], ◌∷◌, ◌++◌, Option, Some, option_map, is_some, fold, find}
use Rattle.std.proofs.lemmas.List.{append-nil, append_assoc}
use Rattle.std.specs.List.{list_all}
use Rattle.std.specs.Option.{option_map_or}
use Rattle.clap.specs.Kinds.{Kinds, or_else}
use Rattle.clap.specs.Walk.{Names, Row, Rule, Text, Walk, after_step, answers_to, Held, Step, finished, idle, stop_after, nothing_held, settled, subcommand_met, subcommand_or_other, walk, walk_from, walked}
use Rattle.clap.specs.Simple.{App, Shape, built, entered, is_simple, label_of, names_of, rows_at}
use Rattle.clap.specs.Faults.{built_fault, check_fault, defaults_fault, entered_fault, is_simple_and_free, level_fault, other_fault, settle_fault, step_fault, walk_fault}
use Rattle.clap.specs.Takes.{built_takes, default_passes, entered_passes, is_valid, level_passes, other_passes, settle_passes, step_passes, walk_passes}
use Rattle.commands.specs.Commands.{word_of}
use Rattle.commands.specs.declared.command.Command.{Command}
use Rattle.commands.specs.declared.command.Command.TheVariants.{Tree}
use Rattle.command_line.specs.CommandLine.{ReadsAlike, bare_app, jslint_app, with_command}

-- the walk that has met a subcommand, with the words behind its own
abbrev met_walk : Text → List Text → Walk
met_walk name rest = record { held = nothing_held; waiting = idle; position = 1; is_trailing = false; stopped = Some (name, rest) }

-- it goes on to the end, and takes each word for the subcommand's
goes_on : (c : List Rule) (names : Names) (name : Text) (before rest : List Text) → fold (walked c names) (met_walk name before) rest ≡ met_walk name (before ++ rest)
unfolding walked
goes_on c names name before [] = ap (met_walk name) (sym (append-nil before))
goes_on c names name before (word ∷ rest) = goes_on c names name (before ++ word ∷ []) rest ∙ ap (met_walk name) (append_assoc before (word ∷ []) rest)

no_fault : (s : Shape) (names : Names) (name : Text) (before rest : List Text) → walk_fault s names (met_walk name before) rest ≡ []
unfolding walked walk_fault
no_fault s names name before [] = refl
no_fault s names name before (word ∷ rest) = no_fault s names name (before ++ word ∷ []) rest

all_passes : (s : Shape) (names : Names) (name : Text) (before rest : List Text) → walk_passes s names (met_walk name before) rest ≡ true
unfolding walked walk_passes
all_passes s names name before [] = refl
all_passes s names name before (word ∷ rest) = all_passes s names name (before ++ word ∷ []) rest

-- what a first word that names a subcommand gives
abbrev asked_fault : Shape → Text → Text → Kinds
asked_fault s word name = or_else (or_else (other_fault s (Some name) word nothing_held) []) []

abbrev asked_passes : Shape → Text → Text → Bool
asked_passes s word name = (other_passes s (Some name) word nothing_held && true) && true

module _ (s : Shape) (names : Names) (word name : Text) (met : subcommand_met names idle word ≡ Some name) where
  meets : walked s.rules names (walk_from nothing_held) word ≡ met_walk name []
  unfolding walked
  meets = ap (λ o. let step = subcommand_or_other s.rules o idle 1 word nothing_held in after_step s.rules word (walk_from nothing_held) step.0 step.1) met

  walks : (rest : List Text) → walk s.rules names nothing_held (word ∷ rest) ≡ met_walk name rest
  walks rest = ap (λ w. fold (walked s.rules names) w rest) meets ∙ goes_on s.rules names name [] rest

  abbrev step : Option Text → Held × Step
  step met = subcommand_or_other s.rules met idle 1 word nothing_held

  faults : (rest : List Text) → walk_fault s names (walk_from nothing_held) (word ∷ rest) ≡ asked_fault s word name
  unfolding walk_fault
  faults rest =
      ap (λ o. or_else (or_else (other_fault s o word nothing_held) (step_fault s 1 (step o).0 (step o).1)) (walk_fault s names (walked s.rules names (walk_from nothing_held) word) rest)) met
      ∙ ap (or_else (or_else (other_fault s (Some name) word nothing_held) [])) (ap (λ w. walk_fault s names w rest) meets ∙ no_fault s names name [] rest)

  passes : (rest : List Text) → walk_passes s names (walk_from nothing_held) (word ∷ rest) ≡ asked_passes s word name
  unfolding walk_passes
  passes rest =
      ap (λ o. (other_passes s o word nothing_held && step_passes s 1 (step o).0 (step o).1) && walk_passes s names (walked s.rules names (walk_from nothing_held) word) rest) met
      ∙ ap (λ b. (other_passes s (Some name) word nothing_held && true) && b) (ap (λ w. walk_passes s names w rest) meets ∙ all_passes s names name [] rest)

-- what a built command line that meets the subcommand at the first word makes of the words, by its top and that subcommand
module _ (word name : Text) (rest : List Text) where
  abbrev made_met : Option Shape → Option (Text × List Row)
  made_met found = option_map (λ s. rows_at s rest) found

  abbrev level : Shape → Held → Kinds → Bool → Kinds → Kinds
  level s end walk has below =
      or_else walk (or_else below (or_else (settle_fault s.rules s.args_override_self end) (or_else (defaults_fault (settled s.rules end).rows s.rules) (check_fault s (finished s.rules end) has))))

  abbrev made_fault : Shape → Option Shape → Kinds
  made_fault s found = level s nothing_held (asked_fault s word name) (is_some (made_met found)) (option_map_or (λ t. level_fault t [] nothing_held rest false []) found [])

  abbrev level_takes : Shape → Held → Bool → Bool → Bool
  level_takes s end walk has = walk && (settle_passes s.rules s.args_override_self end && (list_all default_passes s.rules && is_valid s (finished s.rules end) has))

  abbrev made_takes : Shape → Option Shape → Bool
  made_takes s found =
      option_map_or (λ t. level_passes t [] nothing_held rest false) found true && level_takes s nothing_held (asked_passes s word name) (is_some (made_met found))

  module _ (a : App) (met : subcommand_met (names_of a) idle word ≡ Some name) where
    abbrev own : Option Shape
    own = find (λ s. answers_to name (label_of s)) a.subs

    enters : entered a (stop_after a.top.rules (names_of a) (word ∷ rest)) ≡ made_met own
    enters = ap (λ w. entered a w.stopped) (walks a.top (names_of a) word name met rest)

    fails : built_fault a nothing_held (word ∷ rest) ≡ made_fault a.top own
    fails =
        ap (λ w. level a.top w.held (walk_fault a.top (names_of a) (walk_from nothing_held) (word ∷ rest)) (is_some (entered a w.stopped)) (entered_fault a w.stopped)) (walks a.top (names_of a) word name met rest)
        ∙ ap (λ k. level a.top nothing_held k (is_some (made_met own)) (entered_fault a (Some (name, rest)))) (faults a.top (names_of a) word name met rest)

    is_taken : built_takes a nothing_held (word ∷ rest) ≡ made_takes a.top own
    is_taken =
        ap (λ w. entered_passes a w.stopped && level_takes a.top w.held (walk_passes a.top (names_of a) (walk_from nothing_held) (word ∷ rest)) (is_some (entered a w.stopped))) (walks a.top (names_of a) word name met rest)
        ∙ ap (λ b. entered_passes a (Some (name, rest)) && level_takes a.top nothing_held b (is_some (made_met own))) (passes a.top (names_of a) word name met rest)

-- the whole command line and that of one command read words alike that begin with the command's own
module _ (command : Command) (name : Text) (rest : List Text) where
  abbrev asked : App
  asked = with_command bare_app command

  abbrev IsAlike : Type 0
  IsAlike =
      ((built jslint_app).top ≡ (built asked).top) × (find (λ s. answers_to (word_of command) (label_of s)) (built jslint_app).subs ≡ find (λ s. answers_to (word_of command) (label_of s)) (built asked).subs)
      × (subcommand_met (names_of (built jslint_app)) idle (word_of command) ≡ Some (word_of command)) × (subcommand_met (names_of (built asked)) idle (word_of command) ≡ Some (word_of command))
      × (is_simple_and_free asked ≡ true) × (is_simple asked ≡ is_simple jslint_app) × (asked.top.no_binary_name ≡ false)

  reads_alike : IsAlike → ReadsAlike asked (name ∷ word_of command ∷ rest)
  reads_alike (top, found, here, there, free, simple, _) =
      let word = word_of command in (
        free,
        fails word word rest (built asked) there ∙ sym (fails word word rest (built jslint_app) here ∙ ap (λ s. made_fault word word rest s (own word word rest (built jslint_app) here)) top ∙ ap (made_fault word word rest (built asked).top) found),
        ap (λ b. is_simple asked && b) (is_taken word word rest (built asked) there) ∙ ap (λ b. b && made_takes word word rest (built asked).top (own word word rest (built asked) there)) simple
            ∙ sym (ap (λ b. is_simple jslint_app && b) (is_taken word word rest (built jslint_app) here ∙ ap (λ s. made_takes word word rest s (own word word rest (built jslint_app) here)) top ∙ ap (made_takes word word rest (built asked).top) found)),
        enters word word rest (built asked) there ∙ ap (made_met word word rest) (sym found) ∙ sym (enters word word rest (built jslint_app) here),
      )

pub asks_alike : (command : Command) (name : Text) (rest : List Text) → ReadsAlike (with_command bare_app command) (name ∷ word_of command ∷ rest)
asks_alike Tree name rest = reads_alike Tree name rest (refl, refl, refl, refl, refl, refl, refl)
asks_alike command name rest = reads_alike command name rest (refl, refl, refl, refl, refl, refl, refl)
