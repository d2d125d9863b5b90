use Rattle.std.proofs.Common.{◌≡◌, ◌∙◌, List, ℕ, subst}
use Rattle.std.specs.Io.KnownBytes.{Appends}
use Rattle.source_text.specs.Writing.{AppendsBeginning}
use Rattle.estree_json.specs.Json.{json_text}
use Rattle.estree_json.proofs.write.write_tree.Goals as goal

pub returns-in-Ok : goal.returns-in-Ok
returns-in-Ok g c =
    let whole : c.as_bytes.result.now ≡ json_text c.args.program.now = c.as_bytes.ensures.value ∙ c.in_ok-text.ensures in
    let Writes : List ℕ → Type 0 = λ bytes. Appends (g.W.Sink.taken c.args.writer.now) (g.W.Sink.taken c.write_text.new.writer) bytes in
    (subst Writes whole c.in-Ok.ensures.0, c.in-Ok.ensures.1)

pub returns : goal.returns
returns g c =
    let whole : c.as_bytes.result.now ≡ json_text c.args.program.now = c.as_bytes.ensures.value ∙ c.in_ok-text.ensures in
    let Writes : List ℕ → Type 0 = λ bytes. AppendsBeginning (g.W.Sink.taken c.args.writer.now) (g.W.Sink.taken c.write_text.new.writer) bytes in
    (subst Writes whole c.in-Err.ensures.0, c.in-Err.ensures.1)
