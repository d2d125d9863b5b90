use Rattle.std.proofs.Common.{◌≡◌, true, ap, ◌∙◌}
use Rattle.std.specs.String.{string_bytes}
use Rattle.serde_json.specs.Written.{has_float, compact_text}
use Rattle.estree_json.specs.Json.{json_of}
use Rattle.estree_json.specs.Estree.{estree_data}
use Rattle.estree_json.proofs.Floatless.{node_fine, text_written}
use Rattle.estree_json.proofs.SentTexts.{text_of_sent}
use Rattle.estree_json.proofs.text.tree_text.Goals as goal

pub returns-in-Ok : goal.returns-in-Ok
returns-in-Ok c =
    let sent = c.in-Ok.ensures.events in
    let same : estree_data c.of_program.result ≡ json_of c.args.program.now = c.of_program.ensures in
    text_of_sent (estree_data c.of_program.result) sent.0 (string_bytes c.in-Ok.text) sent.1 sent.2 (ap has_float same ∙ node_fine true c.args.program.now) ∙ ap compact_text same

pub returns-in_ok-to_value-in-Err-2 : goal.returns-in_ok-to_value-in-Err-2
returns-in_ok-to_value-in-Err-2 c = text_written string_bytes _ _ _ c.in_ok-to_value-in-Err-2.ensures c.to_string-in-Err-2.ensures.text
