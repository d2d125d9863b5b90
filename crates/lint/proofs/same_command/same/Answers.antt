use Rattle.std.proofs.Common.{ℕ, List, subst}
use Rattle.tree.specs.Tree.{Tree}
use Rattle.lint.specs.Outputs.{Compares}
use Rattle.lint.specs.Steps.{RefusesOther}
use Rattle.lint.proofs.SameAnswers.{other_told, refused_other, unread}
use Rattle.lint.proofs.same_command.same.Goals as goal

pub returns-in-Err-clause-answer : goal.returns-in-Err-clause-answer
returns-in-Err-clause-answer g c = unread c.args.language c.args.parsed.now.program (g.S.Feed.left c.args.second.now) c.in-Err.fault _ c.at_no_place.result c.in-Err.ensures c.at_no_place.ensures

pub returns-in-Ok-compare-clause-answer : goal.returns-in-Ok-compare-clause-answer
returns-in-Ok-compare-clause-answer g c =
    let compared = subst (λ (m : Tree). Compares c.args.language m c.in-Ok.bytes.items c.in-Ok-compare.status) c.program.ensures (subst (λ (bytes : List ℕ). Compares c.args.language c.program.result.now bytes c.in-Ok-compare.status) c.deref.ensures.value c.in-Ok-compare.ensures.status) in
    (c.in-Ok.ensures.1, (c.in-Ok.bytes.items, c.in-Ok.ensures.0, compared, c.new.ensures.bytes))

pub returns-clause-answer : goal.returns-clause-answer
returns-clause-answer g c =
    refused_other c.args.language c.args.parsed.now.program (g.S.Feed.left c.args.second.now) _ c.in-Ok.bytes.items c.in-Err-compare.refused c.in-Ok.ensures.1 c.in-Ok.ensures.0
    (subst (λ (bytes : List ℕ). RefusesOther c.args.language bytes c.in-Err-compare.refused) c.deref.ensures.value c.in-Err-compare.ensures.refused)

pub returns-clause-told : goal.returns-clause-told
returns-clause-told g c = other_told c.args.language _ c.in-Err-compare.refused c.in-Err-compare.ensures.refused
