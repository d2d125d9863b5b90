use Rattle.std.proofs.Common.{◌≡◌, ◌∙◌, ◌<◌, ◌≤◌, ap, sym, [], length, rules, get_or, Some}
use Rattle.tree.specs.Tree.{Tree}
use Rattle.tree.specs.Flat.{trees}
use Rattle.tree.proofs.Runs.{at_place, part_named, part_low, gap_named, past_named}
use Rattle.tree.proofs.flat_list.FlatList.get.Goals as goal

pub returns-in-None-clause-tree : goal.returns-in-None-clause-tree
returns-in-None-clause-tree c =
    let os = c.args.self.parts.now in
    let past : length os ≤ c.args.index = search rules in
    sym (past_named (trees c.args.self.tree.now.parts.items [] c.args.self.tree.now.nodes.items) os c.args.index past)

pub new-requires : goal.new-requires
new-requires c =
    let os = c.args.self.parts.now in
    let x = c.in-Some.part.now in
    let here : c.args.index < length os = search rules in
    let read : x ≡ get_or os c.args.index x = search rules in
    part_low (length c.args.self.tree.now.nodes.items) os c.args.index x c.in-Some-number.part c.args.self.before here read (sym c.number.ensures ∙ c.in-Some-number.is)

pub returns-in-Some-number-clause-tree : goal.returns-in-Some-number-clause-tree
returns-in-Some-number-clause-tree c =
    let os = c.args.self.parts.now in
    let x = c.in-Some.part.now in
    let here : c.args.index < length os = search rules in
    let read : x ≡ get_or os c.args.index x = search rules in
    ap (λ (t : Tree). Some t) c.new.ensures.tree ∙ sym (part_named c.args.self.tree.now.parts.items c.args.self.tree.now.nodes.items os c.args.index x c.in-Some-number.part c.args.self.before here read (sym c.number.ensures ∙ c.in-Some-number.is))

pub returns-in-None-number-clause-tree : goal.returns-in-None-number-clause-tree
returns-in-None-number-clause-tree c =
    let os = c.args.self.parts.now in
    let x = c.in-Some.part.now in
    let here : c.args.index < length os = search rules in
    let read : x ≡ get_or os c.args.index x = search rules in
    sym (gap_named (trees c.args.self.tree.now.parts.items [] c.args.self.tree.now.nodes.items) os c.args.index x here read (sym c.number.ensures ∙ c.in-None-number.is))

pub returns-in-Some-number-clause-found : goal.returns-in-Some-number-clause-found
returns-in-Some-number-clause-found c =
    let os = c.args.self.parts.now in
    let x = c.in-Some.part.now in
    let here : c.args.index < length os = search rules in
    let read : x ≡ get_or os c.args.index x = search rules in
    let named = sym c.number.ensures ∙ c.in-Some-number.is in
    record {
      number = c.in-Some-number.part;
      is = at_place os c.args.index x here read ∙ ap Some named;
      low = part_low (length c.args.self.tree.now.nodes.items) os c.args.index x c.in-Some-number.part c.args.self.before here read named;
      node = c.new.ensures.node;
      within = c.new.ensures.within;
    }
