use Rattle.std.proofs.Common.{arith}
use Rattle.std.proofs.lemmas.Str.Pattern.{strip_prefix_char}
use Rattle.parser_tables.proofs.PrivateNames.{hash_dropped, hash_missing}
use Rattle.parser_tables.proofs.expression_starts.private_name_text.Goals as goal

pub returns-in-Some : goal.returns-in-Some
returns-in-Some c = let s = strip_prefix_char 35 c.args.text.now c.strip_prefix.result c.strip_prefix.ensures.cases (omega arith) in hash_dropped _ _ (rw c.in-Some.is at s)

pub returns-in-None : goal.returns-in-None
returns-in-None c = let s = strip_prefix_char 35 c.args.text.now c.strip_prefix.result c.strip_prefix.ensures.cases (omega arith) in hash_missing _ (rw c.in-None.is at s)
