use Rattle.std.proofs.Common.{rules}
use Rattle.spellings.proofs.chain.chain_part_production.Goals as goal

pub returns-in-MemberExpression : goal.returns-in-MemberExpression
returns-in-MemberExpression c = search rules

pub returns-in-CallExpression : goal.returns-in-CallExpression
returns-in-CallExpression c = search rules
