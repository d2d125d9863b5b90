use Rattle.std.proofs.Common.{sym, ap, ◌∙◌, ◌++◌, append-nil}
use Rattle.tree.specs.Node.{node_tree}
use Rattle.name_tables.specs.BoundNames.{bound_names}
use Rattle.name_tables.specs.declared.declared.Lexical.TheVariants as lexical
use Rattle.name_tables.specs.PatternParts.{all_bound, at_part, bound_as}
use Rattle.name_tables.proofs.Lexically.{lexical_given}
use Rattle.name_tables.proofs.Results.{on_ok}
use Rattle.name_tables.proofs.declared.push_lexical.Goals as goal

pub returns-in-Declarators : goal.returns-in-Declarators
returns-in-Declarators t c =
    let e = lexical_given c.args.how.now (node_tree c.args.item) (node_tree c.declaration_of-declaration.result) (lexical.Declarators c.in-Declarators.how) c.declaration_of-declaration.ensures (sym c.in-Declarators.is ∙ c.lexical_of.ensures) in
    on_ok c.push_declarators.result (λ h. h ∙ ap (λ l. all_bound c.args.names.now.items ++ l) (sym e)) c.push_declarators.ensures

pub returns-in-FirstPart : goal.returns-in-FirstPart
returns-in-FirstPart t c =
    let e = lexical_given c.args.how.now (node_tree c.args.item) (node_tree c.declaration_of-declaration.result) (lexical.FirstPart c.in-FirstPart.how) c.declaration_of-declaration.ensures (sym c.in-FirstPart.is ∙ c.lexical_of.ensures) in
    on_ok c.push_part_names.result
    (λ h. h ∙ ap (λ o. all_bound c.args.names.now.items ++ at_part (bound_names (bound_as c.in-FirstPart.how)) o) c.part.ensures ∙ ap (λ l. all_bound c.args.names.now.items ++ l) (sym e))
    c.push_part_names.ensures

pub returns-in-Specifiers : goal.returns-in-Specifiers
returns-in-Specifiers t c =
    let e = lexical_given c.args.how.now (node_tree c.args.item) (node_tree c.declaration_of-declaration.result) (lexical.Specifiers c.in-Specifiers.how) c.declaration_of-declaration.ensures (sym c.in-Specifiers.is ∙ c.lexical_of.ensures) in
    on_ok c.push_specifiers.result (λ h. h ∙ ap (λ l. all_bound c.args.names.now.items ++ l) (sym e)) c.push_specifiers.ensures

pub returns-in-Nothing : goal.returns-in-Nothing
returns-in-Nothing t c =
    let e = lexical_given c.args.how.now (node_tree c.args.item) (node_tree c.declaration_of-declaration.result) lexical.Nothing c.declaration_of-declaration.ensures (sym c.in-Nothing.is ∙ c.lexical_of.ensures) in
    sym (append-nil (all_bound c.args.names.now.items)) ∙ ap (λ l. all_bound c.args.names.now.items ++ l) (sym e)
