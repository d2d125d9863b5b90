use Rattle.std.proofs.Common.{◌++◌, ap, ◌∙◌}
use Rattle.rule_words.proofs.Results.{on_ok}
use Rattle.tree.specs.Node.{node_tree}
use Rattle.tree.specs.Tree.{parts_of}
use Rattle.name_tables.specs.Sets.{contains}
use Rattle.private_members.specs.Found.{is_used}
use Rattle.private_members.specs.Sets.{is_known}
use Rattle.private_members.specs.Uses.{declared_names, has_name}
use Rattle.private_members.proofs.Sets.{free-same, known-is, members-same}
use Rattle.private_members.proofs.members.leave_class.Goals as goal

pub returns-clause-uses : goal.returns-clause-uses
returns-clause-uses c =
    on_ok c.push_free.result
    (λ h. h ∙ ap (λ l. c.args.uses.now.items ++ l) (free-same (contains c.in_ok-declared.declared) (has_name (declared_names (parts_of (node_tree c.args.body)))) c.in_ok-declared.ensures c.args.inner.now))
    c.push_free.ensures

pub returns-clause-found : goal.returns-clause-found
returns-clause-found c =
    let names = c.in_ok-names.names in
    let us = c.args.inner.now in
    on_ok c.push_free.result
    (λ h. c.in_ok-push_unused.ensures.found ∙ ap (λ l. c.args.out.now.items ++ l) (members-same (is_known names) (is_used us) (known-is names us c.in_ok-names.ensures) (parts_of (node_tree c.args.body))))
    c.push_free.ensures
