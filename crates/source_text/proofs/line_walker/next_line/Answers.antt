use Rattle.std.proofs.Common.{◌+◌, sym, ◌∙◌, arith, refl}
use Rattle.source_text.proofs.LineEnds.{found_within, none_found, none_at, none_left}
use Rattle.source_text.proofs.line_walker.next_line.Goals as goal

pub returns-then-ends_line-clause-some : goal.returns-then-ends_line-clause-some
returns-then-ends_line-clause-some c =
    let seen = c.loop-passed.seen in
    let passed = c.in-Some.passed in
    record {
      at = seen + passed;
      reaches = refl;
      ordered = omega arith;
      passed = none_found c.args.bytes.now c.args.from seen c.args.to passed c.loop-passed.invariant.within c.requires.within c.loop-passed.invariant.none c.in-Some.ensures.0;
      ends = sym c.ends_line.ensures ∙ c.if-ends_line.true;
    }

pub loop-passed-preserved : goal.loop-passed-preserved
loop-passed-preserved c =
    let seen = c.loop-passed.seen in
    let passed = c.in-Some.passed in
    record {
      ordered = omega arith;
      within = found_within c.args.bytes.now seen c.args.to passed c.loop-passed.invariant.within c.requires.within c.in-Some.ensures.0;
      none = none_at c.args.bytes.now c.args.from (seen + passed)
          (none_found c.args.bytes.now c.args.from seen c.args.to passed c.loop-passed.invariant.within c.requires.within c.loop-passed.invariant.none c.in-Some.ensures.0)
          (sym c.ends_line.ensures ∙ c.if-ends_line.false);
    }

pub returns-clause-none : goal.returns-clause-none
returns-clause-none c = none_left c.args.bytes.now c.args.from c.loop-passed.seen c.args.to c.loop-passed.invariant.within c.requires.within c.loop-passed.invariant.none c.in_default.ensures
