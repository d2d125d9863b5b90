use Rattle.std.proofs.Common.{◌∙◌, sym, ap}
use Rattle.estree_json.specs.Texts.{before_slash, after_slash}
use Rattle.estree_json.proofs.Quotes.{no_slash, none_before, none_behind, round_slash, stands_before, stands_behind}
use Rattle.estree_json.proofs.texts.regex_parts.Goals as goal

pub returns-in-Some-clause-pattern : goal.returns-in-Some-clause-pattern
returns-in-Some-clause-pattern c =
    let found = round_slash c.args.rest.now c.in-Some.pattern.now c.in-Some.flags.now (rw (c.in-Some.is, c.in-Some.pattern-is, c.in-Some.flags-is) at c.rsplit_once.ensures.cases) in
    stands_before c.in-Some.pattern.now c.in-Some.flags.now found.1 ∙ sym (ap before_slash found.0)

pub returns-in-Some-clause-flags : goal.returns-in-Some-clause-flags
returns-in-Some-clause-flags c =
    let found = round_slash c.args.rest.now c.in-Some.pattern.now c.in-Some.flags.now (rw (c.in-Some.is, c.in-Some.pattern-is, c.in-Some.flags-is) at c.rsplit_once.ensures.cases) in
    stands_behind c.in-Some.pattern.now c.in-Some.flags.now found.1 ∙ sym (ap after_slash found.0)

pub returns-in-None-clause-pattern : goal.returns-in-None-clause-pattern
returns-in-None-clause-pattern c =
    let found = rw c.in-None.is at c.rsplit_once.ensures.cases in
    none_before c.args.rest.now (no_slash c.args.rest.now found)

pub returns-in-None-clause-flags : goal.returns-in-None-clause-flags
returns-in-None-clause-flags c =
    let found = rw c.in-None.is at c.rsplit_once.ensures.cases in
    none_behind c.args.rest.now (no_slash c.args.rest.now found)
