use Rattle.std.proofs.Common.{◌≡◌, ◌≤◌, ◌∙◌, sym, false, arith}
use Rattle.layout_items.specs.Places.{is_joined_form, piece_room}
use Rattle.layout_items.proofs.FlatGroups.{other_start, part_start, piece_room-le}
use Rattle.layout_items.proofs.place.Place.is_flat_group.Goals as goal

pub returns-then-not-is_joined : goal.returns-then-not-is_joined
returns-then-not-is_joined c is b s e =
    let room : piece_room c.args.style c.args.self ≤ 65536 = (let h = piece_room-le c.args.style c.args.self c.args.self.gap b in omega arith) in
    let joined : is_joined_form c.args.form ≡ false = sym c.is_joined.ensures ∙ c.if-not-is_joined.true in
    part_start c.args.style c.args.form c.args.self c.args.item is c.args.need c.fits-fits.result room c.in-JoinStart.is joined e c.fits-fits.ensures

pub returns-in_default : goal.returns-in_default
returns-in_default c is b s e =
    let room : piece_room c.args.style c.args.self ≤ 65536 = (let h = piece_room-le c.args.style c.args.self c.args.self.gap b in omega arith) in
    other_start c.args.style c.args.form c.args.self c.args.item is c.args.need c.fits-fits.result room c.in_default.not-WideStart c.in_default.not-JoinStart s e c.fits-fits.ensures
