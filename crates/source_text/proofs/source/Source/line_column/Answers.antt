use Rattle.source_text.proofs.source.Source.line_column.Goals as goal

pub returns : goal.returns
returns c = c.moved-walker.ensures.value c.requires
