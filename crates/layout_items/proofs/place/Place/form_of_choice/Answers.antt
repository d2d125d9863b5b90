use Rattle.std.proofs.Common.{◌∙◌, sym}
use Rattle.layout_items.specs.Places.{is_in_flat}
use Rattle.layout_items.proofs.FlatGroups.{choice_of-need, when_flat, when_joined, when_cut}
use Rattle.layout_items.proofs.place.Place.form_of_choice.Goals as goal

pub returns-then-need-room : goal.returns-then-need-room
returns-then-need-room c is b h =
    let e = choice_of-need c.args.style c.args.self is c.args.need c.piece_room-room.result c.piece_room-room.ensures.value (c.piece_room-room.ensures.bound b) h in
    when_flat (is_in_flat c.args.self) c.args.need.flat c.piece_room-room.result _ (rw (← c.is_in_flat.ensures) c.if-need-room.either) ∙ sym e

pub returns-then-need-room-2 : goal.returns-then-need-room-2
returns-then-need-room-2 c is b h =
    let e = choice_of-need c.args.style c.args.self is c.args.need c.piece_room-room.result c.piece_room-room.ensures.value (c.piece_room-room.ensures.bound b) h in
    when_joined (is_in_flat c.args.self) c.args.need.flat c.args.need.joined c.piece_room-room.result (sym c.is_in_flat.ensures ∙ c.if-need-room.false.0) c.if-need-room.false.1 c.if-need-room-2.true ∙ sym e

pub returns-else-need-room-2 : goal.returns-else-need-room-2
returns-else-need-room-2 c is b h =
    let e = choice_of-need c.args.style c.args.self is c.args.need c.piece_room-room.result c.piece_room-room.ensures.value (c.piece_room-room.ensures.bound b) h in
    when_cut (is_in_flat c.args.self) c.args.need.flat c.args.need.joined c.piece_room-room.result (sym c.is_in_flat.ensures ∙ c.if-need-room.false.0) c.if-need-room.false.1 c.if-need-room-2.false ∙ sym e
