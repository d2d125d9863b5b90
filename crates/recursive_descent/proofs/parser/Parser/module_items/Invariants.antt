use Rattle.std.proofs.Common.{◌≡◌, ◌-◌, ◌≤◌, true, false, length}
use Rattle.tree.specs.Tree.{parts_height, join}
use Rattle.recursive_descent.proofs.sound_statements.StatementLists.{all_directive}
use Rattle.recursive_descent.proofs.sound_modules.ModuleLoop.{ItemsOf}
use Rattle.recursive_descent.proofs.complete_modules.ModuleItemsGiven.{ModuleLeft}
use Rattle.recursive_descent.proofs.parser.Parser.module_items.Given as goal

abbrev pub invariant-items : goal.invariant-items
invariant-items l = record {
  same : l.self.cursor.text ≡ l.fn.self.cursor.text;
  derived : ItemsOf l.fn.self.cursor l.self.cursor l.fn.self.pairs.items l.self.pairs.items l.nodes;
  waits : l.self.tree ≡ join l.fn.self.tree l.nodes;
  items : l.context.is_item ≡ true;
  returns : l.context.returns ≡ false;
  before : l.context.is_prologue ≡ all_directive l.nodes;
  low : parts_height l.nodes ≤ l.fn.high;
  left : ModuleLeft l.fn.self.cursor l.self.cursor l.fn.self.pairs.items l.self.pairs.items l.context.is_prologue l.nodes;
}

abbrev pub decreases-items : goal.decreases-items
decreases-items l = length l.self.cursor.text.bytes - l.self.cursor.last.stop
