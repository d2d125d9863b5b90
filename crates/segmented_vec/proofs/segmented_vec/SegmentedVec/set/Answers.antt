use Rattle.std.proofs.Common.{refl, ◌<◌, ◌+◌, ◌*◌, ◌/◌, ◌%◌, ◌∙◌, ap, sym, List, length, set, arith, length-set}
use Rattle.std.proofs.lemmas.Nat.{div-add-mod'}
use Rattle.std.proofs.Math.Nat.{mod-lt}
use Rattle.std.specs.Vec.{with_item}
use Rattle.segmented_vec.specs.declared.segmented_vec.Segment.{Segment}
use Rattle.segmented_vec.specs.SegmentedVec.{joined}
use Rattle.segmented_vec.proofs.SegmentItems.{chunk_there, item_there, replaced, room_at, HaveRoom-set}
use Rattle.segmented_vec.proofs.segmented_vec.SegmentedVec.set.Goals as goal

pub index_mut-chunk-requires : goal.index_mut-chunk-requires
index_mut-chunk-requires g c =
    let ps = c.self.inside.chunks.items in
    let i = c.args.index in
    let within : (i / g.row.N) * g.row.N + i % g.row.N < length (joined ps) = omega (arith, c.requires, ap length c.self.view_is, div-add-mod' i g.row.N) in
    omega (arith, chunk_there g.row.N ps (i / g.row.N) (i % g.row.N) c.self.invariant.1.0 within, c.self.inside.chunks.ok.0)

pub index_mut-requires : goal.index_mut-requires
index_mut-requires g c =
    let ps = c.self.inside.chunks.items in
    let i = c.args.index in
    let p = c.index_mut-chunk.result.now in
    let within : (i / g.row.N) * g.row.N + i % g.row.N < length (joined ps) = omega (arith, c.requires, ap length c.self.view_is, div-add-mod' i g.row.N) in
    omega (arith, item_there g.row.N ps (i / g.row.N) (i % g.row.N) p c.self.invariant.1.0 (mod-lt i c.self.invariant.0) within c.index_mut-chunk.ensures.value, p.items.ok.0)

pub invariant_of-self : goal.invariant_of-self
invariant_of-self g c =
    let ps = c.self.inside.chunks.items in
    let i = c.args.index in
    let e = c.args.item in
    let p = c.index_mut-chunk.result.now in
    let q : Segment g.row.T.Denot = record { items = with_item p.items (i % g.row.N) e } in
    let within : i < length (joined ps) = omega (arith, c.requires, ap length c.self.view_is) in
    let all : (i / g.row.N) * g.row.N + i % g.row.N < length (joined ps) = omega (arith, within, div-add-mod' i g.row.N) in
    let there : i / g.row.N < length ps = chunk_there g.row.N ps (i / g.row.N) (i % g.row.N) c.self.invariant.1.0 all in
    let r = replaced g.row.N ps (i / g.row.N) (i % g.row.N) i p q e c.self.invariant.1.0 (mod-lt i c.self.invariant.0) (sym (div-add-mod' i g.row.N)) within c.index_mut-chunk.ensures.value refl in (
      c.self.invariant.0,
      (
        r.0,
        (
          HaveRoom-set g.row.N ps (i / g.row.N) q c.self.invariant.1.1.0 (room_at g.row.N ps (i / g.row.N) p c.self.invariant.1.1.0 there c.index_mut-chunk.ensures.value),
          (
            omega (arith, c.self.invariant.1.1.1.0, ap length r.1, length-set (joined ps) i e),
            omega (arith, c.self.invariant.1.1.1.1, ap (λ k. k * g.row.N) (length-set ps (i / g.row.N) q)),
          ),
        ),
      ),
    )

pub returns : goal.returns
returns g c =
    let ps = c.self.inside.chunks.items in
    let i = c.args.index in
    let e = c.args.item in
    let p = c.index_mut-chunk.result.now in
    let q : Segment g.row.T.Denot = record { items = with_item p.items (i % g.row.N) e } in
    let within : i < length (joined ps) = omega (arith, c.requires, ap length c.self.view_is) in
    (replaced g.row.N ps (i / g.row.N) (i % g.row.N) i p q e c.self.invariant.1.0 (mod-lt i c.self.invariant.0) (sym (div-add-mod' i g.row.N)) within c.index_mut-chunk.ensures.value refl).1
    ∙ ap (λ (es : List g.row.T.Denot). set es i e) c.self.view_is
