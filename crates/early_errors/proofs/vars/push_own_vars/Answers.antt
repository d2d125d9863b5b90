use Rattle.std.proofs.Common.{◌++◌, append-nil, sym, ap, ◌∙◌}
use Rattle.tree.specs.Node.{node_tree}
use Rattle.early_errors.specs.Walk.{all_named}
use Rattle.name_tables.proofs.Results.{on_ok}
use Rattle.early_errors.proofs.VarFree.{own_vars-given, own_vars-none}
use Rattle.early_errors.proofs.vars.push_own_vars.Goals as goal

pub returns-then-is_var : goal.returns-then-is_var
returns-then-is_var c =
    on_ok c.push_declared.result (λ h. h ∙ ap (λ l. all_named c.args.names.now.items ++ l) (own_vars-given (node_tree c.args.node) c.is_var.result c.is_var.ensures c.if-is_var.true)) c.push_declared.ensures

pub returns-else-is_var : goal.returns-else-is_var
returns-else-is_var c =
    sym (append-nil (all_named c.args.names.now.items)) ∙ ap (λ l. all_named c.args.names.now.items ++ l) (sym (own_vars-none (node_tree c.args.node) c.is_var.result c.is_var.ensures c.if-is_var.false))
