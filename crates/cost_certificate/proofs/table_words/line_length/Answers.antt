use Rattle.cost_certificate.proofs.Fronts.{line_by}
use Rattle.cost_certificate.proofs.table_words.line_length.Goals as goal

pub returns : goal.returns
returns c = line_by c.args.text.now c.min-end.result c.memchr.result c.min-end.ensures c.memchr.ensures
