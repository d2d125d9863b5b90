use Rattle.std.proofs.Common.{◌≡◌, ◌≤◌, true, refl, sym, ap, ◌∙◌, subst, arith}
use Rattle.std.specs.Prelude.{◌&&◌}
use Rattle.tree.specs.Tree.{parts_height}
use Rattle.language.specs.Statements.{is_directive}
use Rattle.recursive_descent.proofs.sound_statements.StatementLists.{all_directive, push_low, still}
use Rattle.recursive_descent.proofs.reading.WaitingNodes.{waits_none, waits_push}
use Rattle.recursive_descent.proofs.sound_modules.ModuleLoop.{ItemsOf, module_first, module_on}
use Rattle.recursive_descent.proofs.complete_modules.ModuleItemsGiven.{ModuleLeft, module_all, module_further, module_item_refused, module_read}
use Rattle.recursive_descent.proofs.parser.Parser.module_items.Goals as goal
use Rattle.recursive_descent.proofs.parser.Parser.module_items.Goals.{then-context, else-context}

pub items-init : goal.items-init
items-init c =
    let flat : parts_height c.new-nodes.result ≡ 0 = ap parts_height c.new-nodes.ensures in
    record {
      same = refl;
      derived = module_first c.new-nodes.result c.new-nodes.ensures;
      waits = waits_none c.new-nodes.ensures;
      items = refl;
      returns = refl;
      before = sym (ap all_directive c.new-nodes.ensures);
      low = omega arith;
      left = module_all c.args.self.now.cursor c.args.self.now.pairs.items true c.new-nodes.result refl c.new-nodes.ensures;
    }

pub items-preserved : goal.items-preserved
items-preserved c =
    let v = c.items.invariant in
    let n = c.in_ok-item.item in
    let pushed = c.in_ok-push.ensures.pushed in
    let further = c.module_item.ensures.forward in
    let context : c.if-context.context ≡ (c.items.context.is_prologue && is_directive n) =
    elim c.if-context.branch [
      | then-context w ↦ w.context-is ∙ w.is_directive.ensures ∙ sym (ap (λ x. x && is_directive n) w.if-context.true)
      | else-context w ↦ w.context-is ∙ w.if-context.false ∙ sym (ap (λ x. x && is_directive n) w.if-context.false)
    ] in
    record {
      same = c.module_item.ensures.text ∙ v.same;
      derived = subst (λ ps. ItemsOf c.args.self.now.cursor c.module_item.new.self.cursor c.args.self.now.pairs.items c.module_item.new.self.pairs.items ps) (sym pushed)
          (module_on c.items.context c.items.nodes n v.same v.items v.returns v.before v.derived c.in_ok-item.ensures.derived);
      waits = waits_push c.args.self.now.tree c.items.nodes n v.waits c.in_ok-item.ensures.waits pushed;
      items = v.items;
      returns = v.returns;
      before = context ∙ still c.items.context.is_prologue true c.items.nodes n v.before ∙ ap all_directive (sym pushed);
      low = subst (λ ps. parts_height ps ≤ c.args.high) (sym pushed) (push_low c.items.nodes n c.args.high v.low c.in_ok-item.ensures.low);
      left = subst (λ ps. ModuleLeft c.args.self.now.cursor c.module_item.new.self.cursor c.args.self.now.pairs.items c.module_item.new.self.pairs.items c.if-context.context ps) (sym pushed)
          (module_further c.args.self.now.cursor c.items.self.cursor c.module_item.new.self.cursor c.args.self.now.pairs.items c.items.self.pairs.items c.module_item.new.self.pairs.items c.args.high c.items.context c.items.nodes v.same v.items v.returns
          c.items-test.ensures.missed v.left c.if-context.context n context c.in_ok-item.ensures.complete);
    }

pub returns-in_err-item-clause-complete : goal.returns-in_err-item-clause-complete
returns-in_err-item-clause-complete c =
    let v = c.items.invariant in
    module_item_refused c.args.self.now.cursor c.items.self.cursor c.module_item.new.self.cursor c.args.self.now.pairs.items c.items.self.pairs.items c.module_item.new.self.pairs.items c.args.high c.items.context c.items.nodes v.same v.items v.returns
    c.items-test.ensures.missed v.left c.module_item.new.self.cursor c.module_item.new.self.pairs.items c.from_residual.result c.in_err-item.field-0.0 c.from_residual.ensures.1 v.derived.same_open c.in_err-item.ensures.complete

pub returns-clause-complete : goal.returns-clause-complete
returns-clause-complete c =
    module_read c.args.self.now.cursor c.items.self.cursor c.args.self.now.pairs.items c.items.self.pairs.items c.args.high c.items.context.is_prologue c.items.nodes c.items.invariant.same c.items-test.ensures.seen c.items.invariant.left
