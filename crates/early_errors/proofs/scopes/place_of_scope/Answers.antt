use Rattle.std.proofs.Common.{rules}
use Rattle.early_errors.proofs.scopes.place_of_scope.Goals as goal

pub returns-in-Catch : goal.returns-in-Catch
returns-in-Catch c = search rules
