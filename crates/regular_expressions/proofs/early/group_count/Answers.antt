use Rattle.std.proofs.Common.{◌+◌, ◌≤◌, length, sym, subst, arith}
use Rattle.std.proofs.lemmas.Str.{IsCharBoundary-start}
use Rattle.name_tables.specs.Sets.{contains}
use Rattle.regular_expressions.specs.Scanned.{piece_as}
use Rattle.regular_expressions.proofs.PatternSteps.{no_piece, pieces_end}
use Rattle.regular_expressions.proofs.EarlySteps.{InGroups, groups_begin, groups_go_on, groups_few, groups_counted, groups_named, groups_counted_none, groups_named_none}
use Rattle.regular_expressions.proofs.early.group_count.Goals as goal

pub loop-first-init : goal.loop-first-init
loop-first-init c = groups_begin c.args.is_unicode c.args.text.now (contains c.args.names.now) (IsCharBoundary-start c.args.text.now c.utf8.text)

pub returns-in_default-piece_at-clause-count : goal.returns-in_default-piece_at-clause-count
returns-in_default-piece_at-clause-count c =
    groups_counted_none c.args.is_unicode c.args.text.now c.loop-first.at c.loop-first.count (contains c.args.names.now) (contains c.loop-first.names) c.loop-first.invariant
    (no_piece c.args.is_unicode c.args.text.now c.loop-first.at c.in-Some.first.end c.in-Some.first.c c.in-Some.ensures.some c.in_default-piece_at.ensures.none)

pub returns-in_default-piece_at-clause-names : goal.returns-in_default-piece_at-clause-names
returns-in_default-piece_at-clause-names c =
    groups_named_none c.args.is_unicode c.args.text.now c.loop-first.at c.loop-first.count (contains c.args.names.now) (contains c.loop-first.names) c.loop-first.invariant
    (no_piece c.args.is_unicode c.args.text.now c.loop-first.at c.in-Some.first.end c.in-Some.first.c c.in-Some.ensures.some c.in_default-piece_at.ensures.none)

pub overflow_add-count : goal.overflow_add-count
overflow_add-count c =
    let f : c.loop-first.count + c.in_ok-count.field-0 ≤ length c.args.text.now =
    subst (λ k. c.loop-first.count + k ≤ length c.args.text.now) (sym c.in_ok-count.ensures.count)
    (groups_few c.args.is_unicode c.args.text.now c.loop-first.at c.loop-first.count (piece_as c.in-Some-piece_at.read.piece) (contains c.args.names.now) (contains c.loop-first.names) c.loop-first.invariant (omega (arith, c.in-Some.ensures.within))) in
    omega arith

pub loop-first-preserved : goal.loop-first-preserved
loop-first-preserved c =
    subst (λ k. InGroups c.args.is_unicode c.args.text.now c.in-Some-piece_at.read.end (c.loop-first.count + k) (contains c.args.names.now) (contains c.add_group.new.names)) (sym c.in_ok-count.ensures.count)
    (groups_go_on c.args.is_unicode c.args.text.now c.loop-first.at c.in-Some.first.end c.in-Some-piece_at.read.end c.in-Some.first.c c.loop-first.count (piece_as c.in-Some-piece_at.read.piece)
    (contains c.args.names.now) (contains c.loop-first.names) (contains c.add_group.new.names) c.loop-first.invariant (omega (arith, c.in-Some.ensures.within)) c.in-Some.ensures.some c.in-Some-piece_at.ensures.some c.in_ok-count.ensures.names)

pub returns-clause-count : goal.returns-clause-count
returns-clause-count c =
    groups_counted c.args.is_unicode c.args.text.now c.loop-first.at c.loop-first.count (contains c.args.names.now) (contains c.loop-first.names) c.loop-first.invariant
    (pieces_end c.args.is_unicode c.args.text.now c.loop-first.at c.in_default.ensures.none)

pub returns-clause-names : goal.returns-clause-names
returns-clause-names c =
    groups_named c.args.is_unicode c.args.text.now c.loop-first.at c.loop-first.count (contains c.args.names.now) (contains c.loop-first.names) c.loop-first.invariant
    (pieces_end c.args.is_unicode c.args.text.now c.loop-first.at c.in_default.ensures.none)
