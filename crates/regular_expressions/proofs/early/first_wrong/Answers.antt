use Rattle.std.proofs.lemmas.Str.{IsCharBoundary-start}
use Rattle.name_tables.specs.Sets.{contains}
use Rattle.regular_expressions.specs.Scanned.{piece_as}
use Rattle.regular_expressions.proofs.EarlySteps.{wrong_begins, wrong_found, wrong_goes_on, wrong_ends, wrong_none}
use Rattle.regular_expressions.proofs.early.first_wrong.Goals as goal

pub loop-first-init : goal.loop-first-init
loop-first-init c = wrong_begins c.args.is_unicode c.args.text.now c.args.groups (contains c.args.names.now) (contains c.args.before.now) (IsCharBoundary-start c.args.text.now c.utf8.text) c.requires

pub returns-in_default-piece_at-clause-wrong : goal.returns-in_default-piece_at-clause-wrong
returns-in_default-piece_at-clause-wrong c =
    wrong_none c.args.is_unicode c.args.text.now c.loop-first.at c.in-Some.first.end c.in-Some.first.c c.args.groups (contains c.args.names.now) (contains c.loop-first.before) c.loop-first.invariant
    c.in-Some.ensures.some c.in_default-piece_at.ensures.none

pub returns-then-branch-clause-wrong : goal.returns-then-branch-clause-wrong
returns-then-branch-clause-wrong c =
    wrong_found c.args.is_unicode c.args.text.now c.loop-first.at c.in-Some.first.end c.in-Some-piece_at.read.end c.in-Some.first.c c.args.groups (piece_as c.in-Some-piece_at.read.piece)
    (contains c.args.names.now) (contains c.loop-first.before) c.in_ok-is_wrong.field-0 c.loop-first.invariant c.in-Some.ensures.some c.in-Some-piece_at.ensures.some c.in_ok-is_wrong.ensures.wrong c.if-branch.true

pub loop-first-preserved : goal.loop-first-preserved
loop-first-preserved c =
    wrong_goes_on c.args.is_unicode c.args.text.now c.loop-first.at c.in-Some.first.end c.in-Some-piece_at.read.end c.in-Some.first.c c.args.groups (piece_as c.in-Some-piece_at.read.piece)
    (contains c.args.names.now) (contains c.loop-first.before) (contains c.is_wrong.new.before) c.in_ok-is_wrong.field-0 c.loop-first.invariant c.in-Some.ensures.some c.in-Some-piece_at.ensures.some
    c.in_ok-is_wrong.ensures.wrong c.if-branch.false c.in_ok-is_wrong.ensures.after

pub returns-clause-wrong : goal.returns-clause-wrong
returns-clause-wrong c = wrong_ends c.args.is_unicode c.args.text.now c.loop-first.at c.args.groups (contains c.args.names.now) (contains c.loop-first.before) c.loop-first.invariant c.in_default.ensures.none
