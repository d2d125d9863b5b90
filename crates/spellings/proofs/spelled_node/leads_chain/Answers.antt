use Rattle.std.proofs.Common.{rules}
use Rattle.spellings.proofs.spelled_node.leads_chain.Goals as goal

pub returns-then-holds_chain : goal.returns-then-holds_chain
returns-then-holds_chain c = search rules
