use Rattle.std.proofs.Common.{◌≡◌, ◌∙◌, ◌==◌, ◌&&◌, ◌||◌, ap, sym, rules, tests}
use Rattle.std.specs.List.{list_all, list_any}
use Rattle.std.specs.Str.{chars}
use Rattle.std.proofs.lemmas.Iterator.{YieldsList-from_chars}
use Rattle.std.proofs.lemmas.Iterator.Search.{all_from_yields_List, any_from_yields_List}
use Rattle.command_line.specs.Tip.{is_plain}
use Rattle.command_line.proofs.mistake.looks_like_file.Goals as goal

pub returns-then-all : goal.returns-then-all
returns-then-all c =
    let cs = chars c.args.word.now in
    let all : c.all.result ≡ list_all is_plain cs = all_from_yields_List is_plain _ _ c.all.result c.all.ensures.ran (YieldsList-from_chars c.args.word.now c.utf8.word cc) (λ x b q k. search (rules, tests)) in
    let any : c.any.result ≡ list_any (λ x. (x == 46) || (x == 47)) cs = any_from_yields_List (λ x. (x == 46) || (x == 47)) _ _ c.any.result c.any.ensures.ran (YieldsList-from_chars c.args.word.now c.utf8.word cc) (λ x b q k. search (rules, tests)) in
    any ∙ ap (λ b. b && list_any (λ x. (x == 46) || (x == 47)) cs) (sym c.if-all.true ∙ all)

pub returns-else-all : goal.returns-else-all
returns-else-all c =
    let cs = chars c.args.word.now in
    let all : c.all.result ≡ list_all is_plain cs = all_from_yields_List is_plain _ _ c.all.result c.all.ensures.ran (YieldsList-from_chars c.args.word.now c.utf8.word cc) (λ x b q k. search (rules, tests)) in
    c.if-all.false ∙ ap (λ b. b && list_any (λ x. (x == 46) || (x == 47)) cs) (sym c.if-all.false ∙ all)
