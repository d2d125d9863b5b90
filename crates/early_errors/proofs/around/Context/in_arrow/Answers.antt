use Rattle.std.proofs.Common.{true, false, sym, ap, ◌∙◌}
use Rattle.tree.specs.Uses.{is_async}
use Rattle.early_errors.specs.Owns.{unlabelled}
use Rattle.early_errors.proofs.around.Context.in_arrow.Goals as goal

pub returns-clause-around : goal.returns-clause-around
returns-clause-around c = λ r g ps e. λ i.
    record (c.within.ensures.around (unlabelled r) i) {
      in_loop = false;
      in_switch = false;
      is_body = true;
      yields = false;
      awaits = false;
      of_generator = c.arrow_form.ensures.no_generator i;
      of_async = (c.arrow_form.ensures.asynchronous ∙ ap is_async (sym e)) i;
    }
