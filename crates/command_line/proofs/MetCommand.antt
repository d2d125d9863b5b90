-- Words in which `clap` finds no fault name a command, and give it its files.
use Rattle.std.proofs.Common.{◌≡◌, ◌&&◌, ◌||◌, not, ℕ, Bool, cond, true, false, refl, sym, ap, subst, List, [], ◌∷◌, Option, Some, None, is_some, IfSome, find, fold, codes, bytes_eq, option_map, true≢false}
use Rattle.std.specs.Prelude.{⊤}
use Rattle.std.specs.List.{AllByRecursion, list_all, list_any}
use Rattle.std.specs.Option.{option_map_or}
use Rattle.std.proofs.lemmas.Slice.Eq.{bytes_eq-Decides}
use Rattle.clap.specs.Lexer.{long_of, short_of}
use Rattle.clap.specs.Takes.{is_given}
use Rattle.clap.specs.Walk.{done, next, option, subcommand, trailing, value, waits, Held, Names, Outcome, Row, Rule, Step, Text, Waiting, Walk, after_flag, after_step, answers_to, arg_by_index, arg_by_long, bundle, finished, first_of, long_met, long_or_other, nothing_held, plain_word, rows_after, settled, short_or_plain, stop_after, subcommand_met, subcommand_or_other, to_positional, walk, walk_from, walked, walked_from, word_met}
use Rattle.clap.specs.Simple.{App, Shape, argument_words, built, built_leaf, entered, help_shape, inherited, label_of, names_of, rows_at, subcommand_of}
use Rattle.clap.specs.Kinds.{Kinds, check_kinds, or_else}
use Rattle.clap.specs.Faults.{built_fault, check_fault, defaults_fault, entered_fault, fault_of, level_fault, other_fault, settle_fault, step_fault, turn_fault, walk_fault, word_fault}
use Rattle.clap.specs.declared.error.kind.ErrorKind.{ErrorKind}
use Rattle.clap.specs.declared.error.kind.ErrorKind.TheVariants.{DisplayHelp, InvalidSubcommand}
use Rattle.commands.specs.Commands.{default_format, word_of}
use Rattle.commands.specs.declared.command.Command.{Command}
use Rattle.commands.specs.declared.command.Command.TheVariants.{Check, Tree, Fix, Unwrap, Mend, Format, Cost, Verify, Same}
use Rattle.commands.specs.declared.command.ReportForm.TheVariants.{Places}
use Rattle.command_line.specs.CommandLine.{HasFiles, MeetsCommand, command_app, jslint_app}
use Rattle.command_line.proofs.GivenValues.{is_unflagged, value_of_given}

-- ---- kinds of error

some_kind : (k : ErrorKind) (ks : Kinds) → k ∷ ks ≡ [] → ⊥
some_kind k ks e = true≢false (ap (λ (xs : Kinds). list_any (λ _. true) xs) e)

no_kind : (a b : Kinds) → or_else a b ≡ [] → (a ≡ []) × (b ≡ [])
no_kind [] b e = (refl, e)
no_kind (k ∷ ks) b e = absurd (some_kind k ks e)

-- what the last checks ask, where they find nothing
checks_pass : (help command argument : Bool) → check_kinds help command argument ≡ [] → (command ≡ false) × (argument ≡ false)
checks_pass true command argument e = absurd (some_kind _ _ e)
checks_pass false true argument e = absurd (some_kind _ _ e)
checks_pass false false true e = absurd (some_kind _ _ e)
checks_pass false false false e = (refl, refl)

-- what a level without a fault has: words without one, none below it, and none in what it found
level_passes : (s : Shape) (names : Names) (words : List Text) (has : Bool) (below : Kinds) → level_fault s names nothing_held words has below ≡ []
    → (walk_fault s names (walk_from nothing_held) words ≡ []) × (below ≡ []) × (check_fault s (finished s.rules (walk s.rules names nothing_held words).held) has ≡ [])
level_passes s names words has below e =
    let end = (walk s.rules names nothing_held words).held in
    let p = no_kind (walk_fault s names (walk_from nothing_held) words) _ e in
    let q = no_kind below _ p.1 in
    let r = no_kind (settle_fault s.rules s.args_override_self end) _ q.1 in
    let t = no_kind (defaults_fault (settled s.rules end).rows s.rules) _ r.1 in
    (p.0, q.0, t.1)

-- ---- `help`, which would answer with help, is not entered

abbrev help : Text
help = codes "help"

abbrev IsNotHelp : Text → Type 0
IsNotHelp name = bytes_eq name help ≡ true → ⊥

abbrev StepsPastHelp : Step → Type 0
StepsPastHelp (subcommand name) = IsNotHelp name
StepsPastHelp other = ⊤

abbrev StopsPastHelp : Option (Text × List Text) → Type 0
StopsPastHelp stop = IfSome stop (λ p. IsNotHelp p.0)

plain_step : (c : List Rule) (waiting : Waiting) (word : Text) (h : Held) → StepsPastHelp (plain_word c waiting word h).1
plain_step c (option id) word h = tt
plain_step c other word h = tt

flag_step : (c : List Rule) (waiting : Waiting) (word : Text) (h : Held) (o : Outcome) → StepsPastHelp (after_flag c waiting word h o).1
flag_step c waiting word h done = tt
flag_step c waiting word h (waits id) = tt
flag_step c waiting word h other = plain_step c waiting word h

short_step : (c : List Rule) (waiting : Waiting) (word : Text) (o : Option Text) (h : Held) → StepsPastHelp (short_or_plain c waiting word o h).1
short_step c waiting word None h = plain_step c waiting word h
short_step c waiting word (Some flags) h = flag_step c waiting word (bundle c flags h).0 (bundle c flags h).1

long_step : (c : List Rule) (waiting : Waiting) (word : Text) (o : Option (Text × Option Text)) (h : Held) → StepsPastHelp (long_or_other c waiting word o h).1
long_step c waiting word None h = short_step c waiting word (short_of word) h
long_step c waiting word (Some p) h =
    let met = long_met c (arg_by_long c p.0) p.1 h in
    flag_step c waiting word met.0 met.1

module _ (s : Shape) (names : Names) (has_help : s.disable_help_subcommand ≡ false) where
  other_step : (o : Option Text) (waiting : Waiting) (position : ℕ) (word : Text) (h : Held) → other_fault s o word h ≡ []
      → StepsPastHelp (subcommand_or_other s.rules o waiting position word h).1
  other_step (Some name) waiting position word h e = go (bytes_eq name help) s.disable_help_subcommand has_help e
    where
      go : (is disabled : Bool) → disabled ≡ false → cond (is && not disabled) (DisplayHelp ∷ InvalidSubcommand ∷ []) [] ≡ [] → is ≡ true → ⊥
      go true true off e = λ _. true≢false off
      go true false off e = λ _. some_kind _ _ e
      go false disabled off e = λ is. true≢false (sym is)
  other_step None waiting position word h e = go (bytes_eq word (45 ∷ 45 ∷ []))
    where
      go : (b : Bool) → StepsPastHelp (cond b (h, trailing position) (long_or_other s.rules waiting word (long_of word) h)).1
      go true = tt
      go false = long_step s.rules waiting word (long_of word) h

  word_step : (is_trailing : Bool) (waiting : Waiting) (position : ℕ) (word : Text) (h : Held) → word_fault s names is_trailing waiting word h ≡ []
      → StepsPastHelp (word_met s.rules names is_trailing waiting position word h).1
  word_step true waiting position word h e = tt
  word_step false waiting position word h e = other_step (subcommand_met names waiting word) waiting position word h e

  positional_stop : (o : Option Rule) (word : Text) (w : Walk) (h : Held) → StopsPastHelp w.stopped → StopsPastHelp (to_positional s.rules o word w h).stopped
  positional_stop None word w h p = p
  positional_stop (Some a) word w h p = tt

  step_stop : (word : Text) (w : Walk) (h : Held) (step : Step) → StepsPastHelp step → StopsPastHelp w.stopped → StopsPastHelp (after_step s.rules word w h step).stopped
  step_stop word w h (next waiting) past p = p
  step_stop word w h (trailing position) past p = p
  step_stop word w h (subcommand name) past p = past
  step_stop word w h value past p = positional_stop (arg_by_index s.rules w.position) word w h p

  turn_stop : (w : Walk) (word : Text) → turn_fault s names w word ≡ [] → StopsPastHelp w.stopped → StopsPastHelp (walked s.rules names w word).stopped
  unfolding walked
  turn_stop w word e p = go w.stopped e p
    where
      met : Held × Step
      met = word_met s.rules names w.is_trailing w.waiting w.position word w.held

      go : (o : Option (Text × List Text))
          → cond (is_some o) [] (or_else (word_fault s names w.is_trailing w.waiting word w.held) (step_fault s w.position met.0 met.1)) ≡ []
          → StopsPastHelp o → StopsPastHelp (walked_from s.rules names o w word).stopped
      go (Some q) e h = h
      go None e h = step_stop word w met.0 met.1 (word_step w.is_trailing w.waiting w.position word w.held (no_kind _ _ e).0) p

  walk_stop : (words : List Text) (w : Walk) → walk_fault s names w words ≡ [] → StopsPastHelp w.stopped → StopsPastHelp (fold (walked s.rules names) w words).stopped
  unfolding walk_fault
  walk_stop [] w e p = p
  walk_stop (word ∷ rest) w e p =
      let turn = no_kind (turn_fault s names w word) _ e in
      walk_stop rest (walked s.rules names w word) turn.1 (turn_stop w word turn.0 p)

-- ---- what a command must have was given

abbrev wants : Text → List Rule → Bool
wants x rules = list_any (λ a. a.required && bytes_eq a.id x) rules

neither : (a b : Bool) → (a || b) ≡ false → (a ≡ false) × (b ≡ false)
neither true b e = absurd (true≢false e)
neither false b e = (refl, e)

not_false : (b : Bool) → not b ≡ false → b ≡ true
not_false true e = refl
not_false false e = absurd (true≢false e)

given_here : (required is : Bool) (given : Bool) → (required && is) ≡ true → (required && not given) ≡ false → (is ≡ true) × (given ≡ true)
given_here true is given e f = (e, not_false given f)
given_here false is given e f = absurd (true≢false (sym e))

wanted_given : (x : Text) (rows : List Row) (rules : List Rule) → wants x rules ≡ true → list_any (λ a. a.required && not (is_given a.id rows)) rules ≡ false → is_given x rows ≡ true
wanted_given x rows [] w e = absurd (true≢false (sym w))
wanted_given x rows (a ∷ rest) w e =
    let none = neither (a.required && not (is_given a.id rows)) _ e in
    go (a.required && bytes_eq a.id x) refl none.0 (λ more. wanted_given x rows rest more none.1) w
  where
    go : (here : Bool) → (a.required && bytes_eq a.id x) ≡ here → (a.required && not (is_given a.id rows)) ≡ false → (wants x rest ≡ true → is_given x rows ≡ true)
        → (here || wants x rest) ≡ true → is_given x rows ≡ true
    go true is none later more =
        let p = given_here a.required (bytes_eq a.id x) (is_given a.id rows) is none in
        subst (λ t. is_given t rows ≡ true) ((bytes_eq-Decides a.id x).0 p.0) p.1
    go false is none later more = later more

abbrev leaf_fault : Shape → List Text → Kinds
leaf_fault s words = level_fault s [] nothing_held words false []

-- a command without a fault has a value of an argument that it must have and no flag names
value_of_wanted : (x : Text) (s : Shape) (words : List Text) → s.subcommand_negates_reqs ≡ false → wants x s.rules ≡ true → list_all (is_unflagged x) s.rules ≡ true
    → leaf_fault s words ≡ [] → is_some (first_of x (rows_after s.rules [] words)) ≡ true
value_of_wanted x s words demands wanted unflagged e =
    let rows = rows_after s.rules [] words in
    let checks = checks_pass _ _ _ (level_passes s [] words false [] e).2 in
    let missing : list_any (λ a. a.required && not (is_given a.id rows)) s.rules ≡ false = rw demands at checks.1 in
    value_of_given x s.rules [] words unflagged (wanted_given x rows s.rules wanted missing)

-- ---- the command that is entered

-- the subcommand is `help`, or a command, whose words give it its files where it has no fault
abbrev Serves : Shape → Type 0
Serves s = (word : Text) (words : List Text) → answers_to word (label_of s) ≡ true → IsNotHelp word → leaf_fault s words ≡ [] → MeetsCommand (Some (rows_at s words))

find_one : {X : Type 0} (p : X → Bool) (P : X → Type 0) (xs : List X) → AllByRecursion P xs → IfSome (find p xs) (λ y. P y × (p y ≡ true))
find_one p P [] all = tt
find_one p P (y ∷ ys) all = go (p y) refl (find_one p P ys all.1)
  where
    go : (b : Bool) → p y ≡ b → IfSome (find p ys) (λ z. P z × (p z ≡ true)) → IfSome (cond b (Some y) (find p ys)) (λ z. P z × (p z ≡ true))
    go true e rest = (all.0, e)
    go false e rest = rest

enters : (a : App) (stop : Option (Text × List Text)) → AllByRecursion Serves a.subs → StopsPastHelp stop → entered_fault a stop ≡ [] → is_some (entered a stop) ≡ true
    → MeetsCommand (entered a stop)
enters a None serves past e has = absurd (true≢false (sym has))
enters a (Some q) serves past e has = go (find (λ s. answers_to q.0 (label_of s)) a.subs) (find_one (λ s. answers_to q.0 (label_of s)) Serves a.subs serves) e has
  where
    go : (o : Option Shape) → IfSome o (λ s. Serves s × (answers_to q.0 (label_of s) ≡ true)) → option_map_or (λ s. leaf_fault s q.1) o [] ≡ []
        → is_some (option_map (λ s. rows_at s q.1) o) ≡ true → MeetsCommand (option_map (λ s. rows_at s q.1) o)
    go None f e has = absurd (true≢false (sym has))
    go (Some s) f e has = f.0 q.0 q.1 f.1 past e

-- a command that wants one of its subcommands meets one, and not `help`
meets : (a : App) (words : List Text) → a.top.disable_help_subcommand ≡ false → a.top.subcommand_required ≡ true → AllByRecursion Serves a.subs
    → built_fault a nothing_held words ≡ [] → MeetsCommand (entered a (stop_after a.top.rules (names_of a) words))
meets a words has_help required serves e =
    let stop = stop_after a.top.rules (names_of a) words in
    let level = level_passes a.top (names_of a) words (is_some (entered a stop)) (entered_fault a stop) e in
    let wanted = rw required at (checks_pass _ _ _ level.2).0 in
    enters a stop serves (walk_stop a.top (names_of a) has_help words (walk_from nothing_held) level.0 tt) level.1 (met (is_some (entered a stop)) wanted)
  where
    met : (b : Bool) → (not b && true) ≡ false → b ≡ true
    met true e = refl
    met false e = absurd (true≢false e)

-- ---- `jslint`

serves_help : (s : Shape) → s.name ≡ help → s.aliases ≡ [] → Serves s
serves_help s name aliases = λ word words answers past e. absurd (past (go word (rw (name, aliases) at answers)))
  where
    go : (word : Text) → (bytes_eq help word || false) ≡ true → bytes_eq word help ≡ true
    go word is = (bytes_eq-Decides word help).1 (sym ((bytes_eq-Decides help word).0 (only (bytes_eq help word) is)))
      where
        only : (b : Bool) → (b || false) ≡ true → b ≡ true
        only true e = refl
        only false e = e

serves : (command : Command) (s : Shape) → s.name ≡ word_of command → ((words : List Text) → leaf_fault s words ≡ [] → HasFiles command (rows_after s.rules [] words)) → Serves s
serves command s name files = λ word words answers past e.
    let rows = rows_after s.rules [] words in
    (command, rows, ap (λ (n : Text). Some (n, rows)) name, files words e)

-- a command as it is built
abbrev leaf : Command → Shape
leaf command = built_leaf (inherited jslint_app.top (command_app command).top)

abbrev file : Text
file = codes "file"

all_serve : AllByRecursion Serves (built jslint_app).subs
all_serve =
    let one_file : (command : Command) → Type 0 = λ command. (words : List Text) → leaf_fault (leaf command) words ≡ [] → is_some (first_of file (rows_after (leaf command).rules [] words)) ≡ true in
    let check : one_file (Check Places) = λ words. value_of_wanted file (leaf (Check Places)) words refl refl refl in
    let tree : one_file Tree = λ words. value_of_wanted file (leaf Tree) words refl refl refl in
    let fix : one_file Fix = λ words. value_of_wanted file (leaf Fix) words refl refl refl in
    let unwrap : one_file Unwrap = λ words. value_of_wanted file (leaf Unwrap) words refl refl refl in
    let mend : one_file Mend = λ words. value_of_wanted file (leaf Mend) words refl refl refl in
    let format : one_file (Format default_format) = λ words. value_of_wanted file (leaf (Format default_format)) words refl refl refl in
    let cost : one_file Cost = λ words. value_of_wanted file (leaf Cost) words refl refl refl in
    let verify : one_file Verify = λ words. value_of_wanted file (leaf Verify) words refl refl refl in
    let same : one_file Same = λ words. value_of_wanted file (leaf Same) words refl refl refl in
    let table = λ (words : List Text) (e : leaf_fault (leaf Verify) words ≡ []). value_of_wanted (codes "table") (leaf Verify) words refl refl refl e in
    let other = λ (words : List Text) (e : leaf_fault (leaf Same) words ≡ []). value_of_wanted (codes "other") (leaf Same) words refl refl refl e in (
      serves (Check Places) (leaf (Check Places)) refl check,
      (
        serves Tree (leaf Tree) refl tree,
        (
          serves Fix (leaf Fix) refl fix,
          (
            serves Unwrap (leaf Unwrap) refl unwrap,
            (
              serves Mend (leaf Mend) refl mend,
              (
                serves (Format default_format) (leaf (Format default_format)) refl format,
                (
                  serves Cost (leaf Cost) refl cost,
                  (
                    serves Verify (leaf Verify) refl (λ words e. (verify words e, table words e)),
                    (serves Same (leaf Same) refl (λ words e. (same words e, other words e)), (serves_help (built_leaf help_shape) refl refl, tt)),
                  ),
                ),
              ),
            ),
          ),
        ),
      ),
    )

pub meets_command : (words : List Text) → fault_of jslint_app words ≡ [] → MeetsCommand (subcommand_of jslint_app words)
meets_command words e = meets (built jslint_app) (argument_words jslint_app words) refl refl all_serve e
