use Rattle.std.proofs.Common.{◌≡◌, ◌+◌, ◌≤◌, ◌++◌, length, take, vec_len, vec_capacity}
use Rattle.tree.proofs.flat_builder.append.Given as goal

-- the parts so far are added, and there is room for the others
abbrev pub invariant-loop-part : goal.invariant-loop-part
invariant-loop-part l = record {
  added : l.parts.items ≡ l.fn.parts.items ++ take l.part-index l.waiting;
  room : vec_len l.parts + length l.waiting ≤ vec_capacity l.parts + l.part-index;
}
