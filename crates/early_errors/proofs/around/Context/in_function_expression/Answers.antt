use Rattle.std.proofs.Common.{true, sym}
use Rattle.tree.specs.Uses.{is_async, is_generator}
use Rattle.early_errors.specs.Around.{fresh}
use Rattle.early_errors.specs.Owns.{round}
use Rattle.early_errors.proofs.around.Context.in_function_expression.Goals as goal

pub returns-clause-around : goal.returns-clause-around
returns-clause-around c = λ r g ps e. λ i.
    record (fresh (round c.args.self r)) {
      super_property = c.both.ensures i;
      super_call = c.both-2.ensures i;
      new_target = true;
      is_body = true;
      of_generator = is_generator (sym e i);
      of_async = is_async (sym e i);
    }
