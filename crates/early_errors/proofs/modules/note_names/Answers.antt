use Rattle.std.proofs.Common.{get_or, take, is_some, refl, sym, ap, ◌∙◌}
use Rattle.std.specs.Prelude.{◌||◌}
use Rattle.std.proofs.lemmas.List.{take_all}
use Rattle.early_errors.specs.Names.{has_name}
use Rattle.early_errors.specs.Walk.{all_named, look, named}
use Rattle.early_errors.proofs.Exports.{known_more}
use Rattle.early_errors.proofs.NameLoops.{one_more}
use Rattle.early_errors.proofs.modules.note_names.Goals as goal

pub loop-named-init : goal.loop-named-init
loop-named-init c = λ w. refl

pub loop-named-preserved : goal.loop-named-preserved
loop-named-preserved c = λ w.
    let i = c.loop-named.named-index in
    known_more (look c.loop-named.there) (look c.replace.new.self) (all_named (take i c.args.names.now)) (named (get_or c.args.names.now i _)) (look c.args.there.now) c.in_ok-replace.ensures.after c.loop-named.invariant w
    ∙ ap (λ ns. has_name w ns || is_some (look c.args.there.now w)) (sym (one_more c.args.names.now i _ c.loop-named-test.true))

pub returns : goal.returns
returns c = λ w. c.loop-named.invariant w ∙ ap (λ ns. has_name w (all_named ns) || is_some (look c.args.there.now w)) (take_all c.loop-named.named-index c.args.names.now c.loop-named-test.false)
