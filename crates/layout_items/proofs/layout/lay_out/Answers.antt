use Rattle.std.proofs.Common.{◌≡◌, ◌∙◌, ap, arith}
use Rattle.std.specs.Prelude.{reverse}
use Rattle.layout_items.specs.Layout.{innermost}
use Rattle.layout_items.specs.Written.{Refuses}
use Rattle.layout_items.proofs.BackPass.{length-le}
use Rattle.layout_items.proofs.ForwardPass.{AreLaid, one_more_item, refused_on, refuses-at, refuses-at_end, laid-at_end}
use Rattle.layout_items.proofs.layout.lay_out.Goals as goal

pub append_item-requires : goal.append_item-requires
append_item-requires c = omega (arith, c.loop-item.invariant.deep.begins, length-le c.in_ok-listed.listed.now, c.in_ok-listed.ensures.few, c.loop-item-test.true)

pub behind-place-requires-clause-depth : goal.behind-place-requires-clause-depth
behind-place-requires-clause-depth c = omega (arith, c.loop-item.invariant.deep.lines, length-le c.in_ok-listed.listed.now, c.in_ok-listed.ensures.few, c.loop-item-test.true)

pub behind-place-requires-clause-line_depth : goal.behind-place-requires-clause-line_depth
behind-place-requires-clause-line_depth c = omega (arith, c.loop-item.invariant.deep.begins, length-le c.in_ok-listed.listed.now, c.in_ok-listed.ensures.few, c.loop-item-test.true)

pub behind-place-requires-clause-flat : goal.behind-place-requires-clause-flat
behind-place-requires-clause-flat c = omega (arith, c.loop-item.invariant.deep.groups, length-le c.in_ok-listed.listed.now, c.in_ok-listed.ensures.few, c.loop-item-test.true)

pub pass_form-requires : goal.pass_form-requires
pass_form-requires c = omega (arith, c.loop-item.invariant.deep.begins, length-le c.in_ok-listed.listed.now, c.in_ok-listed.ensures.few, c.loop-item-test.true)

pub loop-item-preserved : goal.loop-item-preserved
loop-item-preserved c =
    let now = c.loop-item in
    let form : c.innermost-form.result ≡ innermost (reverse now.forms.items) = c.innermost-form.ensures ∙ ap (λ fs. innermost (reverse fs)) c.deref.ensures.value in
    let before : AreLaid c.args.style c.args.limit c.in_ok-listed.listed.now now.output now.place (reverse now.forms.items) now.needs.items now.item-index = record { laid = now.invariant.laid; needs = now.invariant.needs; room = now.invariant.room; deep = now.invariant.deep; limit = now.invariant.limit } in
    let after = one_more_item c.args.style c.args.limit c.in_ok-listed.listed.now now.item-index _ now.place c.behind-place.result (reverse now.forms.items) (reverse c.pass_form.new.forms.items) now.output c.append_item.new.self now.needs.items c.pop_need-need.new.needs.items c.pop_need-need.result c.loop-item-test.true before (rw form at c.in_ok-append_item.ensures) c.pop_need-need.ensures c.in_ok-pass_form.ensures (rw form at c.behind-place.ensures) in
    record { laid = after.laid; needs = after.needs; room = after.room; deep = after.deep; limit = after.limit }

pub returns-in_err-append_item-clause-refused : goal.returns-in_err-append_item-clause-refused
returns-in_err-append_item-clause-refused c =
    let now = c.loop-item in
    let form : c.innermost-form.result ≡ innermost (reverse now.forms.items) = c.innermost-form.ensures ∙ ap (λ fs. innermost (reverse fs)) c.deref.ensures.value in
    let e = c.in_err-append_item.field-0.0 in
    refused_on (Refuses c.args.style c.args.limit c.args.items.now) c.from_residual-in_err-append_item.result e c.from_residual-in_err-append_item.ensures.1
    (refuses-at c.args.style c.args.limit c.args.items.now e now.output c.append_item.new.self now.place (reverse now.forms.items) c.in_ok-listed.listed.now now.item-index _ c.loop-item-test.true c.in_ok-listed.ensures.items now.invariant.limit now.invariant.laid (rw form at c.in_err-append_item.ensures))

pub returns-in_err-append_ending-clause-refused : goal.returns-in_err-append_ending-clause-refused
returns-in_err-append_ending-clause-refused c =
    let now = c.loop-item in
    let e = c.in_err-append_ending.field-0.0 in
    refused_on (Refuses c.args.style c.args.limit c.args.items.now) c.from_residual-in_err-append_ending.result e c.from_residual-in_err-append_ending.ensures.1
    (refuses-at_end c.args.style c.args.limit c.args.items.now e now.output c.append_ending.new.self now.place (reverse now.forms.items) c.in_ok-listed.listed.now now.item-index c.loop-item-test.false c.in_ok-listed.ensures.items now.invariant.limit now.invariant.laid c.in_err-append_ending.ensures)

pub returns-clause-laid : goal.returns-clause-laid
returns-clause-laid c =
    let now = c.loop-item in (
      c.in_ok-listed.ensures.refused,
      laid-at_end c.args.style c.args.items.now.items.items c.in_ok-listed.listed.now now.place (reverse now.forms.items) now.output c.append_ending.new.self now.item-index _ c.loop-item-test.false c.in_ok-listed.ensures.items now.invariant.laid c.in_ok-append_ending.ensures c.into_text.ensures.text,
    )

pub returns-clause-within : goal.returns-clause-within
returns-clause-within c = omega (arith, c.into_text.ensures.within, c.in_ok-append_ending.ensures.1, c.loop-item.invariant.limit)
