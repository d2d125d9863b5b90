use Rattle.std.proofs.Common.{ap, ◌∙◌, subst}
use Rattle.tree.specs.Tree.{node, plain, push}
use Rattle.tokens.specs.Scanned.{token_of}
use Rattle.productions.specs.Made.{Makes}
use Rattle.recursive_descent.proofs.reading.WaitingNodes.{waits_one}
use Rattle.recursive_descent.specs.ModuleItems.{binding}
use Rattle.recursive_descent.proofs.complete_modules.NamesGiven.{binding_answered, binding_derived, binding_unread}
use Rattle.recursive_descent.proofs.parser.Parser.import_binding.Goals as goal

pub returns-in_err-name-clause-complete : goal.returns-in_err-name-clause-complete
returns-in_err-name-clause-complete c = binding_unread c.args.self.now.cursor c.identifier.new.self.cursor c.args.high c.args.kind c.args.start _ c.in_err-name.ensures.missed.0

made : (c : goal.After-finish_plain) → Makes (binding c.args.kind c.args.start c.identifier.new.self.cursor.last c.in_ok-local.local) c.args.high c.finish_plain.result
made c =
    subst (λ ps. Makes (node c.args.kind Rattle.std.specs.Prelude.[] plain c.args.start c.identifier.new.self.cursor.last.stop ps) c.args.high c.finish_plain.result) c.one-nodes.ensures
    (subst (λ span. Makes (node c.args.kind Rattle.std.specs.Prelude.[] plain span.start span.end c.one-nodes.result) c.args.high c.finish_plain.result) c.span_from-span.ensures c.finish_plain.ensures.made)

pub returns-clause-derived : goal.returns-clause-derived
returns-clause-derived c = binding_derived c.args.self.now.cursor c.identifier.new.self.cursor c.args.high c.args.kind c.args.start (token_of c.in_ok-name.name) c.in_ok-local.local _ c.in_ok-name.ensures.accepted.0 c.in_ok-name.ensures.accepted.1 c.in_ok-local.ensures.made.0 (made c)

pub returns-clause-complete : goal.returns-clause-complete
returns-clause-complete c = binding_answered c.args.self.now.cursor c.identifier.new.self.cursor c.args.high c.args.kind c.args.start (token_of c.in_ok-name.name) c.in_ok-local.local _ c.in_ok-name.ensures.accepted.0 c.in_ok-name.ensures.accepted.1 c.in_ok-local.ensures.made.0 (made c)

pub returns-clause-waits : goal.returns-clause-waits
returns-clause-waits c =
    let old = c.args.self.now.tree in
    c.finish_plain.ensures.waits old (waits_one old (c.in_ok-local.ensures.waits ∙ ap (λ ps. push ps c.in_ok-local.local) c.identifier.ensures.same_tree) c.one-nodes.ensures)
