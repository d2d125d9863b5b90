use Rattle.std.proofs.Common.{◌<◌, ◌≤◌, ◌/◌, ◌++◌, ◌∷◌, [], ◌∙◌, ap, List, length, arith}
use Rattle.segmented_vec.specs.declared.segmented_vec.Segment.{Segment}
use Rattle.segmented_vec.specs.declared.segmented_vec.SegmentedVec.TheInside.{Inside}
use Rattle.segmented_vec.proofs.SegmentItems.{Ready, ready, ready_behind, has_room, one_more, closed}
use Rattle.segmented_vec.proofs.segmented_vec.SegmentedVec.push.Goals as goal
use Rattle.segmented_vec.proofs.segmented_vec.SegmentedVec.push.Goals.{then-len-place+in_ok-push_segment, else-len-place}

pub index_mut-chunk-requires : goal.index_mut-chunk-requires
index_mut-chunk-requires g c =
    let ps = c.self.inside.chunks.items in
    let n = c.self.inside.count in
    let xs = c.if-len-place.self-inside.chunks.items in
    let m = c.if-len-place.self-inside.count in
    let all = c.self.invariant.1.1.1.0 in
    let given : Ready g.row.N ps xs n m = elim c.if-len-place.branch [
      | then-len-place+in_ok-push_segment w ↦
          let behind : length ps ≤ n / g.row.N = omega (arith, w.if-len-place.true, c.len.ensures, c.self.inside.chunks.ok.0) in
          ready_behind g.row.N ps _ xs n m c.self.invariant.0 w.in_ok-push_segment.ensures.begun c.self.invariant.1.0 c.self.invariant.1.1.0 all behind w.in_ok-push_segment.ensures.few (ap (λ (s : Inside g.row.T.Denot g.row.N). s.chunks.items) w.self-inside-is) (ap (λ (s : Inside g.row.T.Denot g.row.N). s.count) w.self-inside-is)
      | else-len-place w ↦
          let there : n / g.row.N < length ps = omega (arith, w.if-len-place.false, c.len.ensures, c.self.inside.chunks.ok.0) in
          ready g.row.N ps xs n m c.self.invariant.1.0 c.self.invariant.1.1.0 there c.self.invariant.1.1.1.1 (ap (λ (s : Inside g.row.T.Denot g.row.N). s.chunks.items) w.self-inside-is) (ap (λ (s : Inside g.row.T.Denot g.row.N). s.count) w.self-inside-is)
    ] in
    omega (arith, given.there, c.if-len-place.self-inside.chunks.ok.0)

pub push_reserved-requires : goal.push_reserved-requires
push_reserved-requires g c =
    let ps = c.self.inside.chunks.items in
    let n = c.self.inside.count in
    let xs = c.if-len-place.self-inside.chunks.items in
    let m = c.if-len-place.self-inside.count in
    let all = c.self.invariant.1.1.1.0 in
    let given : Ready g.row.N ps xs n m = elim c.if-len-place.branch [
      | then-len-place+in_ok-push_segment w ↦
          let behind : length ps ≤ n / g.row.N = omega (arith, w.if-len-place.true, c.len.ensures, c.self.inside.chunks.ok.0) in
          ready_behind g.row.N ps _ xs n m c.self.invariant.0 w.in_ok-push_segment.ensures.begun c.self.invariant.1.0 c.self.invariant.1.1.0 all behind w.in_ok-push_segment.ensures.few (ap (λ (s : Inside g.row.T.Denot g.row.N). s.chunks.items) w.self-inside-is) (ap (λ (s : Inside g.row.T.Denot g.row.N). s.count) w.self-inside-is)
      | else-len-place w ↦
          let there : n / g.row.N < length ps = omega (arith, w.if-len-place.false, c.len.ensures, c.self.inside.chunks.ok.0) in
          ready g.row.N ps xs n m c.self.invariant.1.0 c.self.invariant.1.1.0 there c.self.invariant.1.1.1.1 (ap (λ (s : Inside g.row.T.Denot g.row.N). s.chunks.items) w.self-inside-is) (ap (λ (s : Inside g.row.T.Denot g.row.N). s.count) w.self-inside-is)
    ] in
    let p = c.index_mut-chunk.result.now in
    omega (arith, has_room g.row.N ps xs n m p c.self.invariant.0 given all c.index_mut-chunk.ensures.value, p.items.ok.0)

pub invariant_of-self-2 : goal.invariant_of-self-2
invariant_of-self-2 g c =
    let ps = c.self.inside.chunks.items in
    let n = c.self.inside.count in
    let xs = c.if-len-place.self-inside.chunks.items in
    let m = c.if-len-place.self-inside.count in
    let all = c.self.invariant.1.1.1.0 in
    let given : Ready g.row.N ps xs n m = elim c.if-len-place.branch [
      | then-len-place+in_ok-push_segment w ↦
          let behind : length ps ≤ n / g.row.N = omega (arith, w.if-len-place.true, c.len.ensures, c.self.inside.chunks.ok.0) in
          ready_behind g.row.N ps _ xs n m c.self.invariant.0 w.in_ok-push_segment.ensures.begun c.self.invariant.1.0 c.self.invariant.1.1.0 all behind w.in_ok-push_segment.ensures.few (ap (λ (s : Inside g.row.T.Denot g.row.N). s.chunks.items) w.self-inside-is) (ap (λ (s : Inside g.row.T.Denot g.row.N). s.count) w.self-inside-is)
      | else-len-place w ↦
          let there : n / g.row.N < length ps = omega (arith, w.if-len-place.false, c.len.ensures, c.self.inside.chunks.ok.0) in
          ready g.row.N ps xs n m c.self.invariant.1.0 c.self.invariant.1.1.0 there c.self.invariant.1.1.1.1 (ap (λ (s : Inside g.row.T.Denot g.row.N). s.chunks.items) w.self-inside-is) (ap (λ (s : Inside g.row.T.Denot g.row.N). s.count) w.self-inside-is)
    ] in
    let p = c.index_mut-chunk.result.now in
    let q : Segment g.row.T.Denot = record { items = c.push_reserved.new.self } in
    (c.self.invariant.0, closed g.row.N ps xs n m p c.self.invariant.0 given all c.index_mut-chunk.ensures.value q c.args.item c.push_reserved.ensures.items c.push_reserved.ensures.capacity)

pub returns-clause-items : goal.returns-clause-items
returns-clause-items g c =
    let ps = c.self.inside.chunks.items in
    let n = c.self.inside.count in
    let xs = c.if-len-place.self-inside.chunks.items in
    let m = c.if-len-place.self-inside.count in
    let all = c.self.invariant.1.1.1.0 in
    let given : Ready g.row.N ps xs n m = elim c.if-len-place.branch [
      | then-len-place+in_ok-push_segment w ↦
          let behind : length ps ≤ n / g.row.N = omega (arith, w.if-len-place.true, c.len.ensures, c.self.inside.chunks.ok.0) in
          ready_behind g.row.N ps _ xs n m c.self.invariant.0 w.in_ok-push_segment.ensures.begun c.self.invariant.1.0 c.self.invariant.1.1.0 all behind w.in_ok-push_segment.ensures.few (ap (λ (s : Inside g.row.T.Denot g.row.N). s.chunks.items) w.self-inside-is) (ap (λ (s : Inside g.row.T.Denot g.row.N). s.count) w.self-inside-is)
      | else-len-place w ↦
          let there : n / g.row.N < length ps = omega (arith, w.if-len-place.false, c.len.ensures, c.self.inside.chunks.ok.0) in
          ready g.row.N ps xs n m c.self.invariant.1.0 c.self.invariant.1.1.0 there c.self.invariant.1.1.1.1 (ap (λ (s : Inside g.row.T.Denot g.row.N). s.chunks.items) w.self-inside-is) (ap (λ (s : Inside g.row.T.Denot g.row.N). s.count) w.self-inside-is)
    ] in
    let p = c.index_mut-chunk.result.now in
    let q : Segment g.row.T.Denot = record { items = c.push_reserved.new.self } in
    (one_more g.row.N ps xs n m p c.self.invariant.0 given all c.index_mut-chunk.ensures.value q c.args.item c.push_reserved.ensures.items).1 ∙ ap (λ (es : List g.row.T.Denot). es ++ c.args.item ∷ []) c.self.view_is
