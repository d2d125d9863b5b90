use Rattle.std.proofs.Common.{◌<◌, ◌+◌, ◌*◌, ◌/◌, ◌%◌, ◌∙◌, ap, sym, List, length, get_or, arith}
use Rattle.std.proofs.lemmas.Nat.{div-add-mod'}
use Rattle.std.proofs.Math.Nat.{mod-lt}
use Rattle.segmented_vec.specs.SegmentedVec.{joined}
use Rattle.segmented_vec.proofs.SegmentItems.{chunk_there, item_there, item_at}
use Rattle.segmented_vec.proofs.segmented_vec.SegmentedVec.at.Goals as goal

pub index-chunk-requires : goal.index-chunk-requires
index-chunk-requires g c =
    let ps = c.self.inside.chunks.items in
    let i = c.args.index in
    let within : (i / g.row.N) * g.row.N + i % g.row.N < length (joined ps) = omega (arith, c.requires, ap length c.self.view_is, div-add-mod' i g.row.N) in
    omega (arith, chunk_there g.row.N ps (i / g.row.N) (i % g.row.N) c.self.invariant.1.0 within, c.self.inside.chunks.ok.0)

pub index-requires : goal.index-requires
index-requires g c =
    let ps = c.self.inside.chunks.items in
    let i = c.args.index in
    let p = c.index-chunk.result.now in
    let within : (i / g.row.N) * g.row.N + i % g.row.N < length (joined ps) = omega (arith, c.requires, ap length c.self.view_is, div-add-mod' i g.row.N) in
    omega (arith, item_there g.row.N ps (i / g.row.N) (i % g.row.N) p c.self.invariant.1.0 (mod-lt i c.self.invariant.0) within c.index-chunk.ensures, p.items.ok.0)

pub returns : goal.returns
returns g c =
    let ps = c.self.inside.chunks.items in
    let i = c.args.index in
    let e = c.index.result.now in
    let within : i < length (joined ps) = omega (arith, c.requires, ap length c.self.view_is) in
    item_at g.row.N ps (i / g.row.N) (i % g.row.N) i c.index-chunk.result.now e c.self.invariant.1.0 (mod-lt i c.self.invariant.0) (sym (div-add-mod' i g.row.N)) within c.index-chunk.ensures c.index.ensures
    ∙ ap (λ (es : List g.row.T.Denot). get_or es i e) c.self.view_is
