use Rattle.std.proofs.Common.{arith, ◌++◌, length, take, ap, sym, ◌∙◌, rules}
use Rattle.std.proofs.lemmas.Bool.{eqb-true}
use Rattle.source_text.specs.Memory.{Stored}
use Rattle.source_text.specs.declared.memory_device.Calls.{Calls}
use Rattle.source_text.proofs.memory_device.MemorySinkSink.put.Goals as goal
use Rattle.source_text.proofs.memory_device.MemorySinkSink.put.Goals.{else-count-eq0-via-then-count-eq0+else-not-is_empty, else-count-eq0-via-else-count-eq0}

pub returns-clause-bytes : goal.returns-clause-bytes
returns-clause-bytes c =
    let grown = rw c.unwrap.ensures at c.extend_from_slice.ensures.items in (
      omega arith,
      λ some. elim c.else-count-eq0.branch [
        | else-count-eq0-via-then-count-eq0+else-not-is_empty w ↦ omega (arith, eqb-true (length c.args.piece.now) 0 (sym w.is_empty.ensures ∙ w.if-not-is_empty.false))
        | else-count-eq0-via-else-count-eq0 w ↦ omega (arith, w.if-count-eq0.false)
      ],
      grown ∙ ap (λ (s : Stored). s.bytes ++ take c.min-count.result c.args.piece.now) c.self.view_is,
      ap (λ (k : Calls). k.has_failed) c.next_fails.ensures.counted ∙ ap (λ (s : Stored). s.failed) c.self.view_is ∙ c.requires,
    )

pub returns-clause-exact : goal.returns-clause-exact
returns-clause-exact c = search rules
