use Rattle.std.proofs.Common.{◌≡◌, ◌≤◌, sym, ap, ◌∙◌, subst}
use Rattle.std.specs.Prelude.{codes}
use Rattle.std.proofs.lemmas.Bool.{OnTrue_at, OnFalse_at}
use Rattle.tokens.specs.declared.token.TokenClass.TheVariants.{IdentifierName, Punctuator}
use Rattle.tree.specs.Tree.{parts_height, join}
use Rattle.token_cursor.specs.CursorState.{IsPlaceHere}
use Rattle.token_cursor.specs.Seen.{ReadsHere, Misses}
use Rattle.recursive_descent.proofs.reading.WaitingNodes.{waits_push}
use Rattle.recursive_descent.proofs.sound_statements.StatementLists.{push_low}
use Rattle.recursive_descent.proofs.sound_modules.ImportClauses.{ClauseBefore, at_first, before_default, clause_default, clause_all, clause_named}
use Rattle.recursive_descent.proofs.complete_modules.ClausesGiven.{ClauseLeft, no_default_left, default_refused, default_left, default_read, as_missed, namespace_refused, namespace_read, braces_agree, pushed_agrees, pushed_ok}
use Rattle.recursive_descent.proofs.parser.Parser.import_clause.Goals as goal
use Rattle.recursive_descent.proofs.parser.Parser.import_clause.Goals.{then-sees_identifier+in_ok-import_binding+in_ok-push+else-not-accept_punctuator, else-sees_identifier}

pub returns-in_err-import_binding-clause-complete : goal.returns-in_err-import_binding-clause-complete
returns-in_err-import_binding-clause-complete c =
    default_refused c.args.self.now.cursor c.import_binding.new.self.cursor c.args.high c.next_start-start.result c.args.nodes.now (c.next_start-start.ensures.place, c.next_start-start.ensures.starts) (OnTrue_at c.if-sees_identifier.true c.sees_identifier.ensures.seen)
    c.import_binding.new.self.cursor c.args.nodes.now c.from_residual.result c.in_err-import_binding.field-0.0 c.in_err-import_binding.ensures.complete c.from_residual.ensures.1

pub returns-then-not-accept_punctuator-clause-derived : goal.returns-then-not-accept_punctuator-clause-derived
returns-then-not-accept_punctuator-clause-derived c =
    clause_default c.args.self.now.cursor c.accept_punctuator.new.self.cursor c.args.nodes.now c.next_start-start.result c.in_ok-import_binding.field-0 c.import_binding.new.self.cursor c.push.new.self (c.next_start-start.ensures.place, c.next_start-start.ensures.starts)
    c.in_ok-import_binding.ensures.derived (OnFalse_at c.if-not-accept_punctuator.true c.accept_punctuator.ensures.missed).1 c.in_ok-push.ensures.pushed

pub returns-then-not-accept_punctuator-clause-low : goal.returns-then-not-accept_punctuator-clause-low
returns-then-not-accept_punctuator-clause-low c = λ h. subst (λ ps. parts_height ps ≤ c.args.high) (sym c.in_ok-push.ensures.pushed) (push_low c.args.nodes.now c.in_ok-import_binding.field-0 c.args.high h c.in_ok-import_binding.ensures.low)

pub returns-then-not-accept_punctuator-clause-complete : goal.returns-then-not-accept_punctuator-clause-complete
returns-then-not-accept_punctuator-clause-complete c =
    let s = c.args.self.now.cursor in
    let m = c.import_binding.new.self.cursor in
    let missed = OnFalse_at c.if-not-accept_punctuator.true c.accept_punctuator.ensures.missed in
    default_read s m c.args.high c.next_start-start.result c.args.nodes.now (c.next_start-start.ensures.place, c.next_start-start.ensures.starts) (OnTrue_at c.if-sees_identifier.true c.sees_identifier.ensures.seen)
    c.in_ok-import_binding.field-0 c.in_ok-import_binding.ensures.complete c.push.new.self c.in_ok-push.ensures.pushed c.accept_punctuator.new.self.cursor missed.1 (subst (λ x. Misses x Punctuator (codes ",") m.last) c.import_binding.ensures.text missed.0)

pub returns-in_err-expect_word-clause-complete : goal.returns-in_err-expect_word-clause-complete
returns-in_err-expect_word-clause-complete c =
    let s = c.args.self.now.cursor in
    let a = c.if-sees_identifier.self.cursor in
    let nodes = c.if-sees_identifier.nodes in
    let same : a.text ≡ s.text = elim c.if-sees_identifier.branch [
      | then-sees_identifier+in_ok-import_binding+in_ok-push+else-not-accept_punctuator w ↦ ap (λ x. x.cursor.text) w.self-is ∙ w.accept_punctuator.ensures.text ∙ w.import_binding.ensures.text
      | else-sees_identifier w ↦ ap (λ x. x.cursor.text) w.self-is
    ] in
    let left : ClauseLeft s.text c.args.high c.args.nodes.now nodes s.last a.last = elim c.if-sees_identifier.branch [
      | then-sees_identifier+in_ok-import_binding+in_ok-push+else-not-accept_punctuator w ↦
          let m = w.import_binding.new.self.cursor in
          let comma : ReadsHere s.text Punctuator (codes ",") m.last w.accept_punctuator.new.self.cursor.last = subst (λ x. ReadsHere x Punctuator (codes ",") m.last w.accept_punctuator.new.self.cursor.last) w.import_binding.ensures.text (OnTrue_at w.if-not-accept_punctuator.false w.accept_punctuator.ensures.accepted) in
          subst (λ x. ClauseLeft s.text c.args.high c.args.nodes.now nodes s.last x) (sym (ap (λ x. x.cursor.last) w.self-is))
          (default_left s m c.args.high c.next_start-start.result c.args.nodes.now (c.next_start-start.ensures.place, c.next_start-start.ensures.starts) (OnTrue_at w.if-sees_identifier.true c.sees_identifier.ensures.seen)
          w.in_ok-import_binding.field-0 w.in_ok-import_binding.ensures.complete nodes (w.nodes-is ∙ w.in_ok-push.ensures.pushed) comma)
      | else-sees_identifier w ↦
          subst (λ x. ClauseLeft s.text c.args.high c.args.nodes.now nodes s.last x) (sym (ap (λ x. x.cursor.last) w.self-is))
          (subst (λ ps. ClauseLeft s.text c.args.high c.args.nodes.now ps s.last s.last) (sym w.nodes-is) (no_default_left s.text c.args.high c.args.nodes.now (OnFalse_at w.if-sees_identifier.false c.sees_identifier.ensures.missed)))
    ] in
    let x = c.accept_punctuator-2.new.self.cursor in
    let star : ReadsHere s.text Punctuator (codes "*") a.last x.last = subst (λ v. ReadsHere v Punctuator (codes "*") a.last x.last) same (OnTrue_at c.if-accept_punctuator.true c.accept_punctuator-2.ensures.accepted) in
    let text : x.text ≡ s.text = c.accept_punctuator-2.ensures.text ∙ same in
    as_missed s a c.args.high c.args.nodes.now nodes same left x.last star c.expect_word.new.self.cursor nodes c.from_residual-in_err-expect_word.result (subst (λ v. Misses v IdentifierName (codes "as") x.last) text c.in_err-expect_word.ensures.missed.0)

pub returns-in_err-import_binding-2-clause-complete : goal.returns-in_err-import_binding-2-clause-complete
returns-in_err-import_binding-2-clause-complete c =
    let s = c.args.self.now.cursor in
    let a = c.if-sees_identifier.self.cursor in
    let nodes = c.if-sees_identifier.nodes in
    let same : a.text ≡ s.text = elim c.if-sees_identifier.branch [
      | then-sees_identifier+in_ok-import_binding+in_ok-push+else-not-accept_punctuator w ↦ ap (λ x. x.cursor.text) w.self-is ∙ w.accept_punctuator.ensures.text ∙ w.import_binding.ensures.text
      | else-sees_identifier w ↦ ap (λ x. x.cursor.text) w.self-is
    ] in
    let left : ClauseLeft s.text c.args.high c.args.nodes.now nodes s.last a.last = elim c.if-sees_identifier.branch [
      | then-sees_identifier+in_ok-import_binding+in_ok-push+else-not-accept_punctuator w ↦
          let m = w.import_binding.new.self.cursor in
          let comma : ReadsHere s.text Punctuator (codes ",") m.last w.accept_punctuator.new.self.cursor.last = subst (λ x. ReadsHere x Punctuator (codes ",") m.last w.accept_punctuator.new.self.cursor.last) w.import_binding.ensures.text (OnTrue_at w.if-not-accept_punctuator.false w.accept_punctuator.ensures.accepted) in
          subst (λ x. ClauseLeft s.text c.args.high c.args.nodes.now nodes s.last x) (sym (ap (λ x. x.cursor.last) w.self-is))
          (default_left s m c.args.high c.next_start-start.result c.args.nodes.now (c.next_start-start.ensures.place, c.next_start-start.ensures.starts) (OnTrue_at w.if-sees_identifier.true c.sees_identifier.ensures.seen)
          w.in_ok-import_binding.field-0 w.in_ok-import_binding.ensures.complete nodes (w.nodes-is ∙ w.in_ok-push.ensures.pushed) comma)
      | else-sees_identifier w ↦
          subst (λ x. ClauseLeft s.text c.args.high c.args.nodes.now nodes s.last x) (sym (ap (λ x. x.cursor.last) w.self-is))
          (subst (λ ps. ClauseLeft s.text c.args.high c.args.nodes.now ps s.last s.last) (sym w.nodes-is) (no_default_left s.text c.args.high c.args.nodes.now (OnFalse_at w.if-sees_identifier.false c.sees_identifier.ensures.missed)))
    ] in
    let x = c.accept_punctuator-2.new.self.cursor in
    let star : ReadsHere s.text Punctuator (codes "*") a.last x.last = subst (λ v. ReadsHere v Punctuator (codes "*") a.last x.last) same (OnTrue_at c.if-accept_punctuator.true c.accept_punctuator-2.ensures.accepted) in
    let text : x.text ≡ s.text = c.accept_punctuator-2.ensures.text ∙ same in
    let b = c.expect_word.new.self.cursor in
    let word : ReadsHere s.text IdentifierName (codes "as") x.last b.last = subst (λ v. ReadsHere v IdentifierName (codes "as") x.last b.last) text c.in_ok-expect_word.ensures.accepted.0 in
    let here : IsPlaceHere a c.next_start-start-2.result = (c.next_start-start-2.ensures.place, c.next_start-start-2.ensures.starts) in
    namespace_refused s a c.args.high c.args.nodes.now nodes same left x.last star b c.import_binding-then-accept_punctuator.new.self.cursor c.next_start-start-2.result here word (c.expect_word.ensures.text ∙ text)
    c.import_binding-then-accept_punctuator.new.self.cursor nodes c.from_residual-in_err-import_binding-2.result c.in_err-import_binding-2.field-0.0 c.in_err-import_binding-2.ensures.complete c.from_residual-in_err-import_binding-2.ensures.1

pub returns-then-accept_punctuator-clause-derived : goal.returns-then-accept_punctuator-clause-derived
returns-then-accept_punctuator-clause-derived c =
    let s = c.args.self.now.cursor in
    let a = c.if-sees_identifier.self.cursor in
    let nodes = c.if-sees_identifier.nodes in
    let same : a.text ≡ s.text = elim c.if-sees_identifier.branch [
      | then-sees_identifier+in_ok-import_binding+in_ok-push+else-not-accept_punctuator w ↦ ap (λ x. x.cursor.text) w.self-is ∙ w.accept_punctuator.ensures.text ∙ w.import_binding.ensures.text
      | else-sees_identifier w ↦ ap (λ x. x.cursor.text) w.self-is
    ] in
    let was : ClauseBefore s.text c.args.nodes.now nodes s.last a.last = elim c.if-sees_identifier.branch [
      | then-sees_identifier+in_ok-import_binding+in_ok-push+else-not-accept_punctuator w ↦
          let m = w.import_binding.new.self.cursor in
          let comma : ReadsHere s.text Punctuator (codes ",") m.last w.accept_punctuator.new.self.cursor.last = subst (λ x. ReadsHere x Punctuator (codes ",") m.last w.accept_punctuator.new.self.cursor.last) w.import_binding.ensures.text (OnTrue_at w.if-not-accept_punctuator.false w.accept_punctuator.ensures.accepted) in
          subst (λ x. ClauseBefore s.text c.args.nodes.now nodes s.last x) (sym (ap (λ x. x.cursor.last) w.self-is))
          (before_default s m c.next_start-start.result w.in_ok-import_binding.field-0 c.args.nodes.now nodes (c.next_start-start.ensures.place, c.next_start-start.ensures.starts) w.in_ok-import_binding.ensures.derived comma (w.nodes-is ∙ w.in_ok-push.ensures.pushed))
      | else-sees_identifier w ↦ at_first w.nodes-is (ap (λ x. x.cursor.last) w.self-is)
    ] in
    let x = c.accept_punctuator-2.new.self.cursor in
    let star : ReadsHere s.text Punctuator (codes "*") a.last x.last = subst (λ v. ReadsHere v Punctuator (codes "*") a.last x.last) same (OnTrue_at c.if-accept_punctuator.true c.accept_punctuator-2.ensures.accepted) in
    let text : x.text ≡ s.text = c.accept_punctuator-2.ensures.text ∙ same in
    let b = c.expect_word.new.self.cursor in
    let word : ReadsHere s.text IdentifierName (codes "as") x.last b.last = subst (λ v. ReadsHere v IdentifierName (codes "as") x.last b.last) text c.in_ok-expect_word.ensures.accepted.0 in
    let here : IsPlaceHere a c.next_start-start-2.result = (c.next_start-start-2.ensures.place, c.next_start-start-2.ensures.starts) in
    pushed_ok c.push-then-accept_punctuator.result c.push-then-accept_punctuator.ensures.pushed
    (clause_all s c.import_binding-then-accept_punctuator.new.self.cursor c.args.nodes.now a nodes same c.next_start-start-2.result c.in_ok-import_binding-2.field-0 b x.last c.push-then-accept_punctuator.new.self was here star word (c.expect_word.ensures.text ∙ text) c.in_ok-import_binding-2.ensures.derived)

pub returns-then-accept_punctuator-clause-low : goal.returns-then-accept_punctuator-clause-low
returns-then-accept_punctuator-clause-low c =
    let nodes = c.if-sees_identifier.nodes in
    let low : parts_height c.args.nodes.now ≤ c.args.high → parts_height nodes ≤ c.args.high = λ h. elim c.if-sees_identifier.branch [
      | then-sees_identifier+in_ok-import_binding+in_ok-push+else-not-accept_punctuator w ↦
          subst (λ ps. parts_height ps ≤ c.args.high) (sym (w.nodes-is ∙ w.in_ok-push.ensures.pushed)) (push_low c.args.nodes.now w.in_ok-import_binding.field-0 c.args.high h w.in_ok-import_binding.ensures.low)
      | else-sees_identifier w ↦ subst (λ ps. parts_height ps ≤ c.args.high) (sym w.nodes-is) h
    ] in
    pushed_ok c.push-then-accept_punctuator.result c.push-then-accept_punctuator.ensures.pushed (λ added h. subst (λ ps. parts_height ps ≤ c.args.high) (sym added) (push_low nodes c.in_ok-import_binding-2.field-0 c.args.high (low h) c.in_ok-import_binding-2.ensures.low))

pub returns-then-accept_punctuator-clause-complete : goal.returns-then-accept_punctuator-clause-complete
returns-then-accept_punctuator-clause-complete c =
    let s = c.args.self.now.cursor in
    let a = c.if-sees_identifier.self.cursor in
    let nodes = c.if-sees_identifier.nodes in
    let same : a.text ≡ s.text = elim c.if-sees_identifier.branch [
      | then-sees_identifier+in_ok-import_binding+in_ok-push+else-not-accept_punctuator w ↦ ap (λ x. x.cursor.text) w.self-is ∙ w.accept_punctuator.ensures.text ∙ w.import_binding.ensures.text
      | else-sees_identifier w ↦ ap (λ x. x.cursor.text) w.self-is
    ] in
    let left : ClauseLeft s.text c.args.high c.args.nodes.now nodes s.last a.last = elim c.if-sees_identifier.branch [
      | then-sees_identifier+in_ok-import_binding+in_ok-push+else-not-accept_punctuator w ↦
          let m = w.import_binding.new.self.cursor in
          let comma : ReadsHere s.text Punctuator (codes ",") m.last w.accept_punctuator.new.self.cursor.last = subst (λ x. ReadsHere x Punctuator (codes ",") m.last w.accept_punctuator.new.self.cursor.last) w.import_binding.ensures.text (OnTrue_at w.if-not-accept_punctuator.false w.accept_punctuator.ensures.accepted) in
          subst (λ x. ClauseLeft s.text c.args.high c.args.nodes.now nodes s.last x) (sym (ap (λ x. x.cursor.last) w.self-is))
          (default_left s m c.args.high c.next_start-start.result c.args.nodes.now (c.next_start-start.ensures.place, c.next_start-start.ensures.starts) (OnTrue_at w.if-sees_identifier.true c.sees_identifier.ensures.seen)
          w.in_ok-import_binding.field-0 w.in_ok-import_binding.ensures.complete nodes (w.nodes-is ∙ w.in_ok-push.ensures.pushed) comma)
      | else-sees_identifier w ↦
          subst (λ x. ClauseLeft s.text c.args.high c.args.nodes.now nodes s.last x) (sym (ap (λ x. x.cursor.last) w.self-is))
          (subst (λ ps. ClauseLeft s.text c.args.high c.args.nodes.now ps s.last s.last) (sym w.nodes-is) (no_default_left s.text c.args.high c.args.nodes.now (OnFalse_at w.if-sees_identifier.false c.sees_identifier.ensures.missed)))
    ] in
    let x = c.accept_punctuator-2.new.self.cursor in
    let star : ReadsHere s.text Punctuator (codes "*") a.last x.last = subst (λ v. ReadsHere v Punctuator (codes "*") a.last x.last) same (OnTrue_at c.if-accept_punctuator.true c.accept_punctuator-2.ensures.accepted) in
    let text : x.text ≡ s.text = c.accept_punctuator-2.ensures.text ∙ same in
    let b = c.expect_word.new.self.cursor in
    let word : ReadsHere s.text IdentifierName (codes "as") x.last b.last = subst (λ v. ReadsHere v IdentifierName (codes "as") x.last b.last) text c.in_ok-expect_word.ensures.accepted.0 in
    let here : IsPlaceHere a c.next_start-start-2.result = (c.next_start-start-2.ensures.place, c.next_start-start-2.ensures.starts) in
    let e = c.import_binding-then-accept_punctuator.new.self.cursor in
    pushed_agrees _ s e c.args.high c.args.nodes.now c.push-then-accept_punctuator.new.self c.push-then-accept_punctuator.result c.push-then-accept_punctuator.ensures.pushed c.push-then-accept_punctuator.ensures.kept
    (namespace_read s a c.args.high c.args.nodes.now nodes same left x.last star b e c.next_start-start-2.result here word (c.expect_word.ensures.text ∙ text) c.in_ok-import_binding-2.field-0 c.push-then-accept_punctuator.new.self c.in_ok-import_binding-2.ensures.complete)

pub returns-clause-derived : goal.returns-clause-derived
returns-clause-derived c =
    let s = c.args.self.now.cursor in
    let a = c.if-sees_identifier.self.cursor in
    let nodes = c.if-sees_identifier.nodes in
    let same : a.text ≡ s.text = elim c.if-sees_identifier.branch [
      | then-sees_identifier+in_ok-import_binding+in_ok-push+else-not-accept_punctuator w ↦ ap (λ x. x.cursor.text) w.self-is ∙ w.accept_punctuator.ensures.text ∙ w.import_binding.ensures.text
      | else-sees_identifier w ↦ ap (λ x. x.cursor.text) w.self-is
    ] in
    let was : ClauseBefore s.text c.args.nodes.now nodes s.last a.last = elim c.if-sees_identifier.branch [
      | then-sees_identifier+in_ok-import_binding+in_ok-push+else-not-accept_punctuator w ↦
          let m = w.import_binding.new.self.cursor in
          let comma : ReadsHere s.text Punctuator (codes ",") m.last w.accept_punctuator.new.self.cursor.last = subst (λ x. ReadsHere x Punctuator (codes ",") m.last w.accept_punctuator.new.self.cursor.last) w.import_binding.ensures.text (OnTrue_at w.if-not-accept_punctuator.false w.accept_punctuator.ensures.accepted) in
          subst (λ x. ClauseBefore s.text c.args.nodes.now nodes s.last x) (sym (ap (λ x. x.cursor.last) w.self-is))
          (before_default s m c.next_start-start.result w.in_ok-import_binding.field-0 c.args.nodes.now nodes (c.next_start-start.ensures.place, c.next_start-start.ensures.starts) w.in_ok-import_binding.ensures.derived comma (w.nodes-is ∙ w.in_ok-push.ensures.pushed))
      | else-sees_identifier w ↦ at_first w.nodes-is (ap (λ x. x.cursor.last) w.self-is)
    ] in
    let x = c.accept_punctuator-2.new.self.cursor in
    let missed = OnFalse_at c.if-accept_punctuator.false c.accept_punctuator-2.ensures.missed in
    let text : x.text ≡ s.text = c.accept_punctuator-2.ensures.text ∙ same in
    pushed_ok c.specifiers.result c.specifiers.ensures.derived (clause_named s c.specifiers.new.self.cursor c.args.nodes.now x nodes text c.specifiers.new.nodes (subst (λ v. ClauseBefore s.text c.args.nodes.now nodes s.last v) (sym missed.1) was))

pub returns-clause-low : goal.returns-clause-low
returns-clause-low c =
    let nodes = c.if-sees_identifier.nodes in
    let low : parts_height c.args.nodes.now ≤ c.args.high → parts_height nodes ≤ c.args.high = λ h. elim c.if-sees_identifier.branch [
      | then-sees_identifier+in_ok-import_binding+in_ok-push+else-not-accept_punctuator w ↦
          subst (λ ps. parts_height ps ≤ c.args.high) (sym (w.nodes-is ∙ w.in_ok-push.ensures.pushed)) (push_low c.args.nodes.now w.in_ok-import_binding.field-0 c.args.high h w.in_ok-import_binding.ensures.low)
      | else-sees_identifier w ↦ subst (λ ps. parts_height ps ≤ c.args.high) (sym w.nodes-is) h
    ] in
    pushed_ok c.specifiers.result c.specifiers.ensures.low (λ further h. further (low h))

pub returns-clause-complete : goal.returns-clause-complete
returns-clause-complete c =
    let s = c.args.self.now.cursor in
    let a = c.if-sees_identifier.self.cursor in
    let nodes = c.if-sees_identifier.nodes in
    let same : a.text ≡ s.text = elim c.if-sees_identifier.branch [
      | then-sees_identifier+in_ok-import_binding+in_ok-push+else-not-accept_punctuator w ↦ ap (λ x. x.cursor.text) w.self-is ∙ w.accept_punctuator.ensures.text ∙ w.import_binding.ensures.text
      | else-sees_identifier w ↦ ap (λ x. x.cursor.text) w.self-is
    ] in
    let left : ClauseLeft s.text c.args.high c.args.nodes.now nodes s.last a.last = elim c.if-sees_identifier.branch [
      | then-sees_identifier+in_ok-import_binding+in_ok-push+else-not-accept_punctuator w ↦
          let m = w.import_binding.new.self.cursor in
          let comma : ReadsHere s.text Punctuator (codes ",") m.last w.accept_punctuator.new.self.cursor.last = subst (λ x. ReadsHere x Punctuator (codes ",") m.last w.accept_punctuator.new.self.cursor.last) w.import_binding.ensures.text (OnTrue_at w.if-not-accept_punctuator.false w.accept_punctuator.ensures.accepted) in
          subst (λ x. ClauseLeft s.text c.args.high c.args.nodes.now nodes s.last x) (sym (ap (λ x. x.cursor.last) w.self-is))
          (default_left s m c.args.high c.next_start-start.result c.args.nodes.now (c.next_start-start.ensures.place, c.next_start-start.ensures.starts) (OnTrue_at w.if-sees_identifier.true c.sees_identifier.ensures.seen)
          w.in_ok-import_binding.field-0 w.in_ok-import_binding.ensures.complete nodes (w.nodes-is ∙ w.in_ok-push.ensures.pushed) comma)
      | else-sees_identifier w ↦
          subst (λ x. ClauseLeft s.text c.args.high c.args.nodes.now nodes s.last x) (sym (ap (λ x. x.cursor.last) w.self-is))
          (subst (λ ps. ClauseLeft s.text c.args.high c.args.nodes.now ps s.last s.last) (sym w.nodes-is) (no_default_left s.text c.args.high c.args.nodes.now (OnFalse_at w.if-sees_identifier.false c.sees_identifier.ensures.missed)))
    ] in
    let x = c.accept_punctuator-2.new.self.cursor in
    let missed = OnFalse_at c.if-accept_punctuator.false c.accept_punctuator-2.ensures.missed in
    let text : x.text ≡ s.text = c.accept_punctuator-2.ensures.text ∙ same in
    let none_there : Misses s.text Punctuator (codes "*") x.last = subst (λ v. Misses s.text Punctuator (codes "*") v) (sym missed.1) (subst (λ v. Misses v Punctuator (codes "*") a.last) same missed.0) in
    braces_agree s x c.args.high c.args.nodes.now nodes text (subst (λ v. ClauseLeft s.text c.args.high c.args.nodes.now nodes s.last v) (sym missed.1) left) c.specifiers.new.self.cursor c.specifiers.new.nodes c.specifiers.result none_there c.specifiers.ensures.complete

pub returns-then-not-accept_punctuator-clause-waits : goal.returns-then-not-accept_punctuator-clause-waits
returns-then-not-accept_punctuator-clause-waits c = λ base h.
    c.accept_punctuator.ensures.same_tree ∙ waits_push base c.args.nodes.now c.in_ok-import_binding.field-0 h c.in_ok-import_binding.ensures.waits c.in_ok-push.ensures.pushed

pub returns-then-accept_punctuator-clause-waits : goal.returns-then-accept_punctuator-clause-waits
returns-then-accept_punctuator-clause-waits c = λ base h.
    let first : c.if-sees_identifier.self.tree ≡ join base c.if-sees_identifier.nodes = elim c.if-sees_identifier.branch [
      | then-sees_identifier+in_ok-import_binding+in_ok-push+else-not-accept_punctuator w ↦
          ap (λ x. x.tree) w.self-is ∙ w.accept_punctuator.ensures.same_tree ∙ waits_push base c.args.nodes.now w.in_ok-import_binding.field-0 h w.in_ok-import_binding.ensures.waits (w.nodes-is ∙ w.in_ok-push.ensures.pushed)
      | else-sees_identifier w ↦ ap (λ x. x.tree) w.self-is ∙ h ∙ ap (join base) (sym w.nodes-is)
    ] in
    let before = c.expect_word.ensures.same_tree ∙ c.accept_punctuator-2.ensures.same_tree ∙ first in
    pushed_ok c.push-then-accept_punctuator.result c.push-then-accept_punctuator.ensures.pushed (λ pushed. waits_push base c.if-sees_identifier.nodes c.in_ok-import_binding-2.field-0 before c.in_ok-import_binding-2.ensures.waits pushed)

pub returns-clause-waits : goal.returns-clause-waits
returns-clause-waits c = λ base h.
    let first : c.if-sees_identifier.self.tree ≡ join base c.if-sees_identifier.nodes = elim c.if-sees_identifier.branch [
      | then-sees_identifier+in_ok-import_binding+in_ok-push+else-not-accept_punctuator w ↦
          ap (λ x. x.tree) w.self-is ∙ w.accept_punctuator.ensures.same_tree ∙ waits_push base c.args.nodes.now w.in_ok-import_binding.field-0 h w.in_ok-import_binding.ensures.waits (w.nodes-is ∙ w.in_ok-push.ensures.pushed)
      | else-sees_identifier w ↦ ap (λ x. x.tree) w.self-is ∙ h ∙ ap (join base) (sym w.nodes-is)
    ] in
    c.specifiers.ensures.waits base (c.accept_punctuator-2.ensures.same_tree ∙ first)
