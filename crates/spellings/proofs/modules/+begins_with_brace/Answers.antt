use Rattle.std.proofs.Common.{◌≡◌, ◌∙◌, sym, ap, true, false, option_map}
use Rattle.tree.specs.Node.{node_tree}
use Rattle.tree.specs.Tree.{kind_of, flags_of}
use Rattle.language.specs.FirstPart.{goes_left, is_braced, begins_with_brace}
use Rattle.spellings.specs.Entries.{part_begins_with_brace}
use Rattle.spellings.proofs.ModuleParts.{braced_below, braced_itself}
use Rattle.spellings.proofs.modules.+begins_with_brace.Goals as goal

pub returns-then-not-goes_left : goal.returns-then-not-goes_left
returns-then-not-goes_left t c =
    let n = node_tree c.in-Some.node in
    let whole : part_begins_with_brace (option_map node_tree c.args.part) ≡ begins_with_brace n = ap (λ o. part_begins_with_brace (option_map node_tree o)) c.in-Some.is in
    let stops : goes_left (kind_of n) (flags_of n) ≡ false = sym (c.goes_left.ensures ∙ (λ i. goes_left (c.kind.ensures i) (c.flags.ensures i))) ∙ c.if-not-goes_left.true in
    c.is_braced.ensures ∙ ap is_braced c.kind-then-not-goes_left.ensures ∙ braced_itself n stops ∙ sym whole

pub returns : goal.returns
returns t c =
    let n = node_tree c.in-Some.node in
    let whole : part_begins_with_brace (option_map node_tree c.args.part) ≡ begins_with_brace n = ap (λ o. part_begins_with_brace (option_map node_tree o)) c.in-Some.is in
    let goes : goes_left (kind_of n) (flags_of n) ≡ true = sym (c.goes_left.ensures ∙ (λ i. goes_left (c.kind.ensures i) (c.flags.ensures i))) ∙ c.if-not-goes_left.false in
    c.begins_with_brace.ensures ∙ braced_below n _ goes c.part.ensures ∙ sym whole
