use Rattle.std.proofs.Common.{◌≡◌, ◌≤◌, ◌++◌, ◌-◌, drop, length, map, take}
use Rattle.many_files.specs.Names.{names_from, names_of}
use Rattle.many_files.proofs.names.names_in.Given as goal

-- the names that are left come behind those that were found
abbrev pub invariant-loop-at : goal.invariant-loop-at
invariant-loop-at l = record {
  begun : l.start ≤ l.at;
  within : l.at ≤ length l.list;
  found : map (λ n. n.now) l.names.items ++ names_from (take (l.at - l.start) (drop l.start l.list)) (drop l.at l.list) ≡ names_of l.list;
}

abbrev pub decreases-loop-at : goal.decreases-loop-at
decreases-loop-at l = length l.list - l.at
