use Rattle.std.proofs.Common.{◌≡◌, ◌-◌, ◌≤◌, length}
use Rattle.recursive_descent.specs.Follows.{Semicolons}
use Rattle.recursive_descent.proofs.parser.Parser.pass_semicolons.Given as goal

abbrev pub invariant-empty : goal.invariant-empty
invariant-empty l = record {
  same : l.self.cursor.text ≡ l.fn.self.cursor.text;
  forward : l.fn.self.cursor.last.stop ≤ l.self.cursor.last.stop;
  same_open : l.self.cursor.opened ≡ l.fn.self.cursor.opened;
  same_pairs : l.self.pairs.items ≡ l.fn.self.pairs.items;
  same_tree : l.self.tree ≡ l.fn.self.tree;
  passed : Semicolons l.fn.self.cursor.text l.fn.self.cursor.last l.self.cursor.last;
}

abbrev pub decreases-empty : goal.decreases-empty
decreases-empty l = length l.self.cursor.text.bytes - l.self.cursor.last.stop
