use Rattle.std.proofs.Common.{◌∙◌, ap}
use Rattle.std.specs.List.{list_any}
use Rattle.std.specs.Str.{bytes_eq}
use Rattle.name_tables.proofs.Sets.{one_more}
use Rattle.name_tables.proofs.set.NameSet.insert.Goals as goal

pub returns-clause-after : goal.returns-clause-after
returns-clause-after c = λ w. ap (list_any (λ k. bytes_eq w k.now)) c.in_ok-is_new.ensures.keys ∙ one_more c.args.self.now.names.keys c.args.name w
