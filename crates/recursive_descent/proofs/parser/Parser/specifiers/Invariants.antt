use Rattle.std.proofs.Common.{◌≡◌, ◌-◌, ◌≤◌, length}
use Rattle.tree.specs.Tree.{Parts, parts_height, join}
use Rattle.recursive_descent.proofs.sound_modules.SpecifierLoop.{SpecifiersRead}
use Rattle.recursive_descent.proofs.complete_modules.SpecifierLoopGiven.{SpecifiersLeft}
use Rattle.recursive_descent.proofs.parser.Parser.specifiers.Given as goal

abbrev pub invariant-specifiers : goal.invariant-specifiers
invariant-specifiers l = record {
  same : l.self.cursor.text ≡ l.fn.self.cursor.text;
  forward : l.fn.self.cursor.last.stop ≤ l.self.cursor.last.stop;
  same_open : l.self.cursor.opened ≡ l.fn.self.cursor.opened;
  same_pairs : l.self.pairs.items ≡ l.fn.self.pairs.items;
  waits : (base : Parts) → l.fn.self.tree ≡ join base l.fn.nodes → l.self.tree ≡ join base l.nodes;
  low : parts_height l.fn.nodes ≤ l.fn.high → parts_height l.nodes ≤ l.fn.high;
  derived : SpecifiersRead l.fn.self.cursor.text l.fn.kind l.fn.nodes l.nodes l.fn.self.cursor.last l.self.cursor.last;
  complete : SpecifiersLeft l.fn.self.cursor.text l.fn.kind l.fn.high l.fn.nodes l.nodes l.fn.self.cursor.last l.self.cursor.last;
}

abbrev pub decreases-specifiers : goal.decreases-specifiers
decreases-specifiers l = length l.self.cursor.text.bytes - l.self.cursor.last.stop
