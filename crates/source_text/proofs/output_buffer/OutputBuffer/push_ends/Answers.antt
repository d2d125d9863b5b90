use Rattle.std.proofs.Common.{◌++◌, ◌-◌, length, drop, take, ap, ◌∙◌}
use Rattle.source_text.proofs.EndsMeet.{ends_meet, all_from}
use Rattle.source_text.proofs.output_buffer.OutputBuffer.push_ends.Goals as goal

pub returns : goal.returns
returns g c =
    let bytes = c.args.bytes.now in
    let fewer = length bytes - g.row.N in
    c.push_exactly-2.ensures
    ∙ ap (λ t. c.take_back.new.self ++ t) (all_from fewer bytes)
    ∙ (λ i. c.take_back.ensures i ++ drop fewer bytes)
    ∙ ap (λ t. take (length t - (g.row.N - fewer)) t ++ drop fewer bytes) c.push_exactly.ensures
    ∙ ends_meet c.args.self.now bytes g.row.N c.requires.least c.requires.most
