use Rattle.std.proofs.Common.{◌≡◌, ◌+◌, ℕ, sym, ◌∙◌, arith}
use Rattle.source_text.proofs.Lines.{turn_inside, turn_on_line}
use Rattle.source_text.proofs.line_walker.LineWalker.along.Goals as goal
use Rattle.source_text.proofs.line_walker.LineWalker.along.Goals.{then-not-continues_character, else-not-continues_character}

pub loop-i-preserved : goal.loop-i-preserved
loop-i-preserved d =
    let i = d.loop-i.i in
    let bytes = d.args.bytes.now in
    let line = d.args.self.line in
    elim d.if-not-continues_character.branch [
      | then-not-continues_character w ↦
          let h = turn_on_line (line, d.loop-i.column) i bytes (omega arith) d.loop-i.invariant.walked (sym d.continues_character.ensures ∙ w.if-not-continues_character.true) (d.requires.same_line i (omega arith) (omega arith)) in
          let e : ◌≡◌ {A = ℕ × ℕ} (line, d.if-not-continues_character.column) (line, d.loop-i.column + 1) = cc in
          record { walked = e ∙ h; few_columns = omega arith }
      | else-not-continues_character w ↦
          let h = turn_inside (line, d.loop-i.column) i bytes (omega arith) d.loop-i.invariant.walked (sym d.continues_character.ensures ∙ w.if-not-continues_character.false) in
          let e : ◌≡◌ {A = ℕ × ℕ} (line, d.if-not-continues_character.column) (line, d.loop-i.column) = cc in
          record { walked = e ∙ h; few_columns = omega arith }
    ]
