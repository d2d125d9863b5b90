use Rattle.std.proofs.Common.{◌≡◌, ◌+◌, ◌≤◌, ◌++◌, drop}
use Rattle.std.specs.Prelude.{reverse}
use Rattle.layout_items.specs.Passes.{needs_of, layout_from}
use Rattle.layout_items.specs.Written.{bytes_of}
use Rattle.layout_items.proofs.ForwardPass.{IsDeep, whole}
use Rattle.layout_items.proofs.layout.lay_out.Given as goal

abbrev pub invariant-loop-item : goal.invariant-loop-item
invariant-loop-item l = record {
  laid : bytes_of l.output ++ layout_from l.style l.place (reverse l.forms.items) (drop l.item-index l.listed) ≡ whole l.style l.listed;
  needs : l.needs.items ≡ reverse (needs_of (drop l.item-index l.listed));
  room : l.place.room ≤ l.style.width + 1;
  deep : IsDeep l.place l.item-index;
  limit : l.output.limit ≡ l.limit;
}
