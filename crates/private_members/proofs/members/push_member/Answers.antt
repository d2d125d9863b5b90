use Rattle.std.proofs.Common.{◌≡◌, ◌++◌, [], ◌∷◌, false, Some, sym, ap, ◌∙◌, option_map}
use Rattle.rule_words.proofs.Results.{on_ok}
use Rattle.tree.specs.Node.{node_tree}
use Rattle.tree.specs.Tree.{flags_of, start_of, text_of}
use Rattle.name_tables.specs.PatternParts.{at_part}
use Rattle.private_members.specs.Found.{called, of_member, says}
use Rattle.private_members.specs.Sets.{is_known}
use Rattle.private_members.specs.Uses.{private_key}
use Rattle.private_members.proofs.Sets.{key-reported}
use Rattle.private_members.proofs.members.push_member.Goals as goal

pub returns-clause-found : goal.returns-clause-found
returns-clause-found c =
    let member = node_tree c.in-Some.member in
    let key = node_tree c.in-Some-private_key.key in
    let known = is_known c.args.names.now in
    let there : Some key ≡ private_key member = c.in-Some-private_key.ensures in
    let form = ap (λ f. f.form) c.flags.ensures in
    let unused : known (flags_of member).form (text_of key) ≡ false =
    sym (ap (λ f. known f (text_of key)) form) ∙ sym (ap (known c.flags.result.form) c.text.ensures) ∙ sym c.is_used.ensures ∙ c.if-is_used.false in
    let out = c.args.out.now.items in
    on_ok c.push_fixed_report.result
    (λ h.
    h ∙ ap (λ at. out ++ record { start = at; stop = c.span.result.end; rule = called; text = says } ∷ []) c.span.ensures.starts
    ∙ ap (λ at. out ++ record { start = start_of key; stop = at; rule = called; text = says } ∷ []) c.span.ensures.ends
    ∙ ap (λ l. out ++ l) (sym (key-reported known member key there unused)) ∙ ap (λ o. out ++ at_part (of_member known) (option_map node_tree o)) (sym c.in-Some.is))
    c.push_fixed_report.ensures.found
