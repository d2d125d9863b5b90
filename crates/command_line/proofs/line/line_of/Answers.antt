use Rattle.std.proofs.Common.{◌≡◌, ◌⊎◌, ◌∙◌, List, Option, Some, None, IsSome, is_some, true, refl, sym, ap, subst, true≢false, unwrap_or, codes, inl, inr}
use Rattle.std.specs.Option.{option_map}
use Rattle.std.specs.Borrow.{Bor}
use Rattle.clap.specs.Words.{Row, Text, rows_of, found_of, first_of, first_value}
use Rattle.clap.specs.declared.parser.matches.ArgMatches.TheViews.{out-ArgMatches}
use Rattle.clap.specs.declared.parser.matches.Found.{Found}
use Rattle.clap.proofs.WalkLemmas.{first_value-rows}
use Rattle.commands.specs.Commands.{word_of}
use Rattle.commands.specs.declared.command.FormatChoice.{FormatChoice}
use Rattle.commands.specs.declared.command.Command.{Command}
use Rattle.commands.specs.declared.command.Command.TheVariants.{Check, Tree, Fix, Unwrap, Mend, Format, Cost, Verify, Same}
use Rattle.commands.specs.declared.command.ReportForm.{ReportForm}
use Rattle.command_line.specs.CommandLine.{HasFiles, HasForm, HasSecond, form_of, format_of, is_set, plain}
use Rattle.command_line.proofs.line.line_of.Goals as goal
use Rattle.command_line.proofs.line.line_of.Goals.{in-Check, in-Mend, in-Format, in-Verify, in-Same, in-Tree}

abbrev text_of : Option (Bor Text) → Option Text
text_of = option_map (λ s. s.now)

-- the value in an option that is known
same_value : {X : Type 0} (o : Option X) (a b : X) → o ≡ Some a → o ≡ Some b → a ≡ b
same_value o a b e f = ap (λ p. unwrap_or p a) (sym e ∙ f)

abbrev pair_of : {X : Type 0} → (X → Text) → (X → List Row) → X → Text × List Row
pair_of name rows x = (name x, rows x)

-- the word of what was met, by its name
word_met : {X : Type 0} (name : X → Text) (rows : X → List Row) (o : Option X) (word : Text) (r : List Row) → option_map (pair_of name rows) o ≡ Some (word, r)
    → option_map name o ≡ Some word
word_met name rows None word r e = absurd (true≢false (sym (ap is_some e)))
word_met name rows (Some x) word r e = ap (λ (o : Option (Text × List Row)). option_map (λ (p : Text × List Row). p.0) o) e

-- the rows of what was met
rows_met : {X : Type 0} (rows : X → List Row) (o : Option X) (x : X) (met : Option (Text × List Row)) (word : Text) (r : List Row) → o ≡ Some x
    → option_map rows o ≡ option_map (λ p. p.1) met → met ≡ Some (word, r) → rows x ≡ r
rows_met rows o x met word r e h is = ap (λ p. unwrap_or p r) (ap (option_map rows) (sym e) ∙ h ∙ ap (option_map (λ (p : Text × List Row). p.1)) is)

has_file : (command : Command) (rows : List Row) → HasFiles command rows → is_some (first_of (codes "file") rows) ≡ true
has_file (Check form) rows h = h
has_file Tree rows h = h
has_file Fix rows h = h
has_file Unwrap rows h = h
has_file Mend rows h = h
has_file (Format choice) rows h = h
has_file Cost rows h = h
has_file Verify rows h = h.0
has_file Same rows h = h.0

-- what a word gives before flags are looked at has that word, and its files
plain_word : (command : Command) → word_of (plain command) ≡ word_of command
plain_word (Check form) = refl
plain_word Tree = refl
plain_word Fix = refl
plain_word Unwrap = refl
plain_word Mend = refl
plain_word (Format choice) = refl
plain_word Cost = refl
plain_word Verify = refl
plain_word Same = refl

plain_files : (command : Command) (rows : List Row) → HasFiles command rows → HasFiles (plain command) rows
plain_files (Check form) rows h = h
plain_files Tree rows h = h
plain_files Fix rows h = h
plain_files Unwrap rows h = h
plain_files Mend rows h = h
plain_files (Format choice) rows h = h
plain_files Cost rows h = h
plain_files Verify rows h = h
plain_files Same rows h = h

some_text : (found : Found) (rows : List Row) (id : Text) (o : Option (Bor Text)) → text_of o ≡ first_value found id → rows_of found ≡ rows → text_of o ≡ first_of id rows
some_text found rows id o e same = e ∙ first_value-rows found id ∙ ap (first_of id) same

is_there : (o : Option (Bor Text)) (t : Option Text) → text_of o ≡ t → is_some t ≡ true → IsSome o
is_there None t e some = absurd (true≢false (sym (ap is_some e ∙ some)))
is_there (Some s) t e some = refl

-- a command with its second file and its form, by the command of its word
abbrev Serves : Command → List Row → Command → Option (Bor Text) → Type 0
Serves word rows command second = (word_of command ≡ word_of word) × HasSecond command rows (text_of second) × HasForm command rows

settings : (word : Command) (rows : List Row) (command : Command) (given second : Option (Bor Text)) (was form : ReportForm) → word ≡ Check was → command ≡ Check form → second ≡ given
    → text_of given ≡ first_of (codes "settings") rows → form ≡ form_of rows → Serves word rows command second
settings word rows command given second was form e d same h by_flag = rw (e, d, same) (refl, h, by_flag)

mending : (word : Command) (rows : List Row) (command : Command) (given second : Option (Bor Text)) → word ≡ Mend → command ≡ word → second ≡ given → text_of given ≡ first_of (codes "settings") rows
    → Serves word rows command second
mending word rows command given second e d same h = rw (d, e, same) (refl, h, tt)

choice : (word : Command) (rows : List Row) (command : Command) (second : Option (Bor Text)) (was is : FormatChoice) → word ≡ Format was → command ≡ Format is → second ≡ None
    → is ≡ format_of rows → Serves word rows command second
choice word rows command second was is e d same by_rows = rw (e, d, same) (refl, refl, by_rows)

table : (word : Command) (rows : List Row) (command : Command) (given second : Option (Bor Text)) → word ≡ Verify → command ≡ word → second ≡ given → text_of given ≡ first_of (codes "table") rows
    → HasFiles word rows → Serves word rows command second
table word rows command given second e d same h files =
    let both = rw e at files in
    rw (d, e, same) (refl, (h, ap is_some h ∙ both.1), tt)

other : (word : Command) (rows : List Row) (command : Command) (given second : Option (Bor Text)) → word ≡ Same → command ≡ word → second ≡ given → text_of given ≡ first_of (codes "other") rows
    → HasFiles word rows → Serves word rows command second
other word rows command given second e d same h files =
    let both = rw e at files in
    rw (d, e, same) (refl, (h, ap is_some h ∙ both.1), tt)

no_second : (word : Command) (rows : List Row) (command : Command) (second : Option (Bor Text)) → (word ≡ Tree) ⊎ ((word ≡ Fix) ⊎ ((word ≡ Unwrap) ⊎ (word ≡ Cost))) → command ≡ word → second ≡ None
    → Serves word rows command second
no_second word rows command second (inl e) d same = rw (d, e, same) (refl, refl, tt)
no_second word rows command second (inr (inl e)) d same = rw (d, e, same) (refl, refl, tt)
no_second word rows command second (inr (inr (inl e))) d same = rw (d, e, same) (refl, refl, tt)
no_second word rows command second (inr (inr (inr e))) d same = rw (d, e, same) (refl, refl, tt)

pub unwrap-file-requires : goal.unwrap-file-requires
unwrap-file-requires c =
    let found = found_of c.unwrap.result.1.now in
    let rows_are : rows_of found ≡ c.requires.1 = rows_met _ _ c.unwrap.result _ _ c.requires.1 c.unwrap.ensures c.subcommand.ensures.rows c.requires.2 in
    is_there c.get_str.result _ (some_text found c.requires.1 (codes "file") _ c.get_str.ensures rows_are) (has_file c.requires.0 c.requires.1 c.requires.3)

pub returns : goal.returns
returns c =
    let command = c.requires.0 in
    let rows = c.requires.1 in
    let found = found_of c.unwrap.result.1.now in
    let rows_are : rows_of found ≡ rows = rows_met _ _ c.unwrap.result _ _ rows c.unwrap.ensures c.subcommand.ensures.rows c.requires.2 in
    let named : Some (word_of command) ≡ Some c.unwrap.result.0.now = sym (ap (option_map (λ p. p.0.now)) (sym c.unwrap.ensures) ∙ c.subcommand.ensures.name ∙ word_met _ _ (out-ArgMatches c.args.matches.now).subcommand (word_of command) rows c.requires.2) in
    let word_is : word_of command ≡ c.unwrap.result.0.now = ap (λ o. unwrap_or o (word_of command)) named in
    let plain_is : c.unwrap-plain.result ≡ plain command = same_value c.command_of.result c.unwrap-plain.result (plain command) c.unwrap-plain.ensures (c.command_of.ensures.found command word_is) in
    let serves : Serves c.unwrap-plain.result rows c.match-plain.command.0 c.match-plain.command.1 = elim c.match-plain.branch [
      | in-Check w ↦ settings _ rows _ w.get_str-in-Check.result _ _ w.form_met.result w.in-Check.is (ap (λ p. p.0) w.command-is) (ap (λ p. p.1) w.command-is)
          (some_text found rows (codes "settings") _ w.get_str-in-Check.ensures rows_are) (w.form_met.ensures ∙ ap form_of rows_are)
      | in-Mend w ↦ mending _ rows _ w.get_str-in-Mend.result _ w.in-Mend.is (ap (λ p. p.0) w.command-is) (ap (λ p. p.1) w.command-is)
          (some_text found rows (codes "settings") _ w.get_str-in-Mend.ensures rows_are)
      | in-Format w ↦ choice _ rows _ _ _ w.format_met.result w.in-Format.is (ap (λ p. p.0) w.command-is) (ap (λ p. p.1) w.command-is) (w.format_met.ensures ∙ ap format_of rows_are)
      | in-Verify w ↦ table _ rows _ w.get_str-in-Verify.result _ w.in-Verify.is (ap (λ p. p.0) w.command-is) (ap (λ p. p.1) w.command-is)
          (some_text found rows (codes "table") _ w.get_str-in-Verify.ensures rows_are) (subst (λ k. HasFiles k rows) (sym plain_is) (plain_files command rows c.requires.3))
      | in-Same w ↦ other _ rows _ w.get_str-in-Same.result _ w.in-Same.is (ap (λ p. p.0) w.command-is) (ap (λ p. p.1) w.command-is)
          (some_text found rows (codes "other") _ w.get_str-in-Same.ensures rows_are) (subst (λ k. HasFiles k rows) (sym plain_is) (plain_files command rows c.requires.3))
      | in-Tree w ↦ no_second _ rows _ _ w.in-Tree.is (ap (λ p. p.0) w.command-is) (ap (λ p. p.1) w.command-is)
    ] in (
      rows,
      c.requires.2 ∙ ap (λ word. Some (word, rows)) (sym (serves.0 ∙ ap word_of plain_is ∙ plain_word command)),
      sym (some_text found rows (codes "file") _ c.get_str.ensures rows_are) ∙ ap text_of c.unwrap-file.ensures,
      serves.1,
      serves.2,
      (
        some_text found rows (codes "edition") _ c.get_str-edition.ensures rows_are,
        c.is_set-is_module.ensures ∙ ap (is_set (codes "module")) rows_are,
        c.is_set-is_any.ensures ∙ ap (is_set (codes "any")) rows_are,
      ),
      c.is_set-is_list.ensures ∙ ap (is_set (codes "list")) rows_are,
      some_text found rows (codes "commas") _ c.get_str-commas.ensures rows_are,
    )
