use Rattle.std.proofs.Common.{ap, sym, ◌∙◌, ◌≤◌, subst}
use Rattle.scopes.specs.Shown.{all_shown, exported_at}
use Rattle.scopes.proofs.Nearest.{exported-set, exported-past}
use Rattle.scopes.proofs.meanings.export_binding.Goals as goal

pub returns-then-place-len : goal.returns-then-place-len
returns-then-place-len c =
    let bs = c.args.bindings.now.items in
    exported-set bs c.in-Some.place c.index_mut.result.now c.index_mut.ensures.value ∙ ap (λ o. exported_at o (all_shown bs)) (sym c.in-Some.is)

pub returns-else-place-len : goal.returns-else-place-len
returns-else-place-len c =
    let bs = c.args.bindings.now.items in
    exported-past bs c.in-Some.place (subst (λ n. n ≤ c.in-Some.place) (c.len.ensures ∙ c.args.bindings.now.ok.0) c.if-place-len.false) ∙ ap (λ o. exported_at o (all_shown bs)) (sym c.in-Some.is)
