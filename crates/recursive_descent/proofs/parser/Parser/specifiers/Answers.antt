use Rattle.std.proofs.Common.{◌≡◌, ◌≤◌, refl, sym, ap, ◌∙◌, subst, arith}
use Rattle.std.specs.Prelude.{codes}
use Rattle.std.proofs.lemmas.Bool.{OnTrue_at, OnFalse_at}
use Rattle.tokens.specs.declared.token.TokenClass.TheVariants.{Punctuator}
use Rattle.tree.specs.Tree.{parts_height, join}
use Rattle.token_cursor.specs.Seen.{ReadsHere, Sees, Misses}
use Rattle.recursive_descent.proofs.reading.WaitingNodes.{waits_push}
use Rattle.recursive_descent.proofs.sound_statements.StatementLists.{push_low}
use Rattle.recursive_descent.proofs.sound_modules.SpecifierLoop.{SpecifiersDone, no_specifiers, one_more_specifier, specifiers_closed, last_specifier}
use Rattle.recursive_descent.proofs.complete_modules.SpecifierLoopGiven.{BraceLeft, all_left, brace_left, specifier_refused, one_more_left, last_left, closing_read, closing_missed}
use Rattle.recursive_descent.proofs.parser.Parser.specifiers.Goals as goal
use Rattle.recursive_descent.proofs.parser.Parser.specifiers.Goals.{else-specifiers-test, then-specifiers-test+in_ok-specifier+in_ok-push+then-not-accept_punctuator}

pub specifiers-init : goal.specifiers-init
specifiers-init c =
    let brace = c.in_ok-expect_punctuator.ensures.accepted.0 in
    record {
      same = c.expect_punctuator.ensures.text;
      forward = c.expect_punctuator.ensures.forward;
      same_open = c.expect_punctuator.ensures.same_open;
      same_pairs = c.expect_punctuator.ensures.same_pairs;
      waits = λ base h. c.expect_punctuator.ensures.same_tree ∙ h;
      low = λ h. h;
      derived = no_specifiers c.args.self.now.cursor.text c.args.kind c.args.nodes.now brace;
      complete = all_left c.args.self.now.cursor.text c.args.kind c.args.high c.args.nodes.now brace;
    }

pub returns-in_err-specifier-clause-complete : goal.returns-in_err-specifier-clause-complete
returns-in_err-specifier-clause-complete c =
    let s = c.args.self.now.cursor in
    let a = c.specifiers.self.cursor.last in
    let open_there : Misses s.text Punctuator (codes "}") a = subst (λ x. Misses x Punctuator (codes "}") a) c.specifiers.invariant.same (OnFalse_at c.specifiers-test.true c.sees_punctuator.ensures.missed) in
    specifier_refused s c.args.kind c.args.high c.args.nodes.now c.specifiers.nodes a c.specifiers.invariant.complete open_there c.specifiers.self.cursor c.specifier.new.self.cursor c.specifiers.invariant.same refl
    c.specifier.new.self.cursor c.specifiers.nodes c.from_residual-in_err-specifier.result c.in_err-specifier.field-0.0 c.in_err-specifier.ensures.complete c.from_residual-in_err-specifier.ensures.1

pub specifiers-preserved : goal.specifiers-preserved
specifiers-preserved c =
    let s = c.args.self.now.cursor in
    let a = c.specifiers.self.cursor.last in
    let m = c.specifier.new.self.cursor in
    let text : m.text ≡ s.text = c.specifier.ensures.text ∙ c.specifiers.invariant.same in
    let open_there : Misses s.text Punctuator (codes "}") a = subst (λ x. Misses x Punctuator (codes "}") a) c.specifiers.invariant.same (OnFalse_at c.specifiers-test.true c.sees_punctuator.ensures.missed) in
    let comma : ReadsHere s.text Punctuator (codes ",") m.last c.accept_punctuator.new.self.cursor.last = subst (λ x. ReadsHere x Punctuator (codes ",") m.last c.accept_punctuator.new.self.cursor.last) text (OnTrue_at c.if-not-accept_punctuator.false c.accept_punctuator.ensures.accepted) in
    let forward = c.specifiers.invariant.forward in
    let further = c.specifier.ensures.forward in
    let behind = c.accept_punctuator.ensures.forward in
    record {
      same = c.accept_punctuator.ensures.text ∙ text;
      forward = omega arith;
      same_open = c.accept_punctuator.ensures.same_open ∙ c.specifier.ensures.same_open ∙ c.specifiers.invariant.same_open;
      same_pairs = c.accept_punctuator.ensures.same_pairs ∙ c.specifier.ensures.same_pairs ∙ c.specifiers.invariant.same_pairs;
      waits = λ base h. c.accept_punctuator.ensures.same_tree ∙ waits_push base c.specifiers.nodes c.in_ok-specifier.field-0 (c.specifiers.invariant.waits base h) c.in_ok-specifier.ensures.waits c.in_ok-push.ensures.pushed;
      low = λ h. subst (λ ps. parts_height ps ≤ c.args.high) (sym c.in_ok-push.ensures.pushed) (push_low c.specifiers.nodes c.in_ok-specifier.field-0 c.args.high (c.specifiers.invariant.low h) c.in_ok-specifier.ensures.low);
      derived = one_more_specifier s c.args.kind c.args.nodes.now c.specifiers.nodes c.specifiers.invariant.derived c.specifiers.self.cursor m c.push.new.self c.in_ok-specifier.field-0 c.specifiers.invariant.same refl c.in_ok-specifier.ensures.derived c.in_ok-push.ensures.pushed comma;
      complete = one_more_left s c.args.kind c.args.high c.args.nodes.now c.specifiers.nodes a c.specifiers.invariant.complete open_there c.specifiers.self.cursor m c.specifiers.invariant.same refl c.in_ok-specifier.field-0 c.in_ok-specifier.ensures.complete c.push.new.self c.in_ok-push.ensures.pushed comma;
    }

pub returns-in_err-expect_punctuator-2-clause-complete : goal.returns-in_err-expect_punctuator-2-clause-complete
returns-in_err-expect_punctuator-2-clause-complete c =
    let s = c.args.self.now.cursor in
    let a = c.specifiers.self.cursor.last in
    let at = c.specifiers-test.self.cursor in
    let left : BraceLeft s.text c.args.kind c.args.nodes.now c.specifiers-test.nodes s.last at.last = elim c.specifiers-test.branch [
      | else-specifiers-test w ↦
          let place : at.last ≡ a = ap (λ x. x.cursor.last) w.self-is in
          let sees : Sees s.text Punctuator (codes "}") a = subst (λ x. Sees x Punctuator (codes "}") a) c.specifiers.invariant.same (OnTrue_at w.specifiers-test.false c.sees_punctuator.ensures.seen) in
          subst (λ ps. BraceLeft s.text c.args.kind c.args.nodes.now ps s.last at.last) (sym w.nodes-is)
          (subst (λ x. BraceLeft s.text c.args.kind c.args.nodes.now c.specifiers.nodes s.last x) (sym place) (brace_left s c.args.kind c.args.high c.args.nodes.now c.specifiers.nodes a c.specifiers.invariant.complete sees))
      | then-specifiers-test+in_ok-specifier+in_ok-push+then-not-accept_punctuator w ↦
          let m = w.specifier.new.self.cursor in
          let text : m.text ≡ s.text = w.specifier.ensures.text ∙ c.specifiers.invariant.same in
          let missed = OnFalse_at w.if-not-accept_punctuator.true w.accept_punctuator.ensures.missed in
          let place : at.last ≡ m.last = ap (λ x. x.cursor.last) w.self-is ∙ missed.1 in
          let open_there : Misses s.text Punctuator (codes "}") a = subst (λ x. Misses x Punctuator (codes "}") a) c.specifiers.invariant.same (OnFalse_at w.specifiers-test.true c.sees_punctuator.ensures.missed) in
          subst (λ x. BraceLeft s.text c.args.kind c.args.nodes.now c.specifiers-test.nodes s.last x) (sym place)
          (last_left s c.args.kind c.args.high c.args.nodes.now c.specifiers.nodes a c.specifiers.invariant.complete open_there c.specifiers.self.cursor m c.specifiers.invariant.same refl w.in_ok-specifier.field-0 w.in_ok-specifier.ensures.complete c.specifiers-test.nodes (w.nodes-is ∙ w.in_ok-push.ensures.pushed)
          (subst (λ x. Misses x Punctuator (codes ",") m.last) text missed.0))
    ] in
    let text : at.text ≡ s.text = elim c.specifiers-test.branch [
      | else-specifiers-test w ↦ ap (λ x. x.cursor.text) w.self-is ∙ c.specifiers.invariant.same
      | then-specifiers-test+in_ok-specifier+in_ok-push+then-not-accept_punctuator w ↦ ap (λ x. x.cursor.text) w.self-is ∙ w.accept_punctuator.ensures.text ∙ w.specifier.ensures.text ∙ c.specifiers.invariant.same
    ] in
    closing_missed s c.expect_punctuator-2.new.self.cursor c.args.kind c.args.high c.args.nodes.now c.specifiers-test.nodes at.last left c.specifiers-test.nodes c.from_residual-in_err-expect_punctuator-2.result
    (subst (λ x. Misses x Punctuator (codes "}") at.last) text c.in_err-expect_punctuator-2.ensures.missed.0)

pub returns-clause-derived : goal.returns-clause-derived
returns-clause-derived c =
    let s = c.args.self.now.cursor in
    let z = c.expect_punctuator-2.new.self.cursor in
    let a = c.specifiers.self.cursor.last in
    elim c.specifiers-test.branch [
      | else-specifiers-test w ↦
          let text : c.specifiers-test.self.cursor.text ≡ s.text = ap (λ x. x.cursor.text) w.self-is ∙ c.specifiers.invariant.same in
          let place : c.specifiers-test.self.cursor.last ≡ a = ap (λ x. x.cursor.last) w.self-is in
          let brace : ReadsHere s.text Punctuator (codes "}") a z.last = subst (λ x. ReadsHere x Punctuator (codes "}") a z.last) text (subst (λ x. ReadsHere c.specifiers-test.self.cursor.text Punctuator (codes "}") x z.last) place c.in_ok-expect_punctuator-2.ensures.accepted.0) in
          subst (λ ps. SpecifiersDone c.args.kind s z c.args.nodes.now ps) (sym w.nodes-is) (specifiers_closed s c.args.kind c.args.nodes.now c.specifiers.nodes c.specifiers.invariant.derived z brace)
      | then-specifiers-test+in_ok-specifier+in_ok-push+then-not-accept_punctuator w ↦
          let m = w.specifier.new.self.cursor in
          let text : c.specifiers-test.self.cursor.text ≡ s.text = ap (λ x. x.cursor.text) w.self-is ∙ w.accept_punctuator.ensures.text ∙ w.specifier.ensures.text ∙ c.specifiers.invariant.same in
          let place : c.specifiers-test.self.cursor.last ≡ m.last = ap (λ x. x.cursor.last) w.self-is ∙ (OnFalse_at w.if-not-accept_punctuator.true w.accept_punctuator.ensures.missed).1 in
          let brace : ReadsHere s.text Punctuator (codes "}") m.last z.last = subst (λ x. ReadsHere x Punctuator (codes "}") m.last z.last) text (subst (λ x. ReadsHere c.specifiers-test.self.cursor.text Punctuator (codes "}") x z.last) place c.in_ok-expect_punctuator-2.ensures.accepted.0) in
          last_specifier s c.args.kind c.args.nodes.now c.specifiers.nodes c.specifiers.invariant.derived c.specifiers.self.cursor m z c.specifiers-test.nodes w.in_ok-specifier.field-0 c.specifiers.invariant.same refl w.in_ok-specifier.ensures.derived (w.nodes-is ∙ w.in_ok-push.ensures.pushed) brace
    ]

pub returns-clause-low : goal.returns-clause-low
returns-clause-low c = λ h.
    elim c.specifiers-test.branch [
      | else-specifiers-test w ↦ subst (λ ps. parts_height ps ≤ c.args.high) (sym w.nodes-is) (c.specifiers.invariant.low h)
      | then-specifiers-test+in_ok-specifier+in_ok-push+then-not-accept_punctuator w ↦
          subst (λ ps. parts_height ps ≤ c.args.high) (sym (w.nodes-is ∙ w.in_ok-push.ensures.pushed)) (push_low c.specifiers.nodes w.in_ok-specifier.field-0 c.args.high (c.specifiers.invariant.low h) w.in_ok-specifier.ensures.low)
    ]

pub returns-clause-complete : goal.returns-clause-complete
returns-clause-complete c =
    let s = c.args.self.now.cursor in
    let a = c.specifiers.self.cursor.last in
    let at = c.specifiers-test.self.cursor in
    let left : BraceLeft s.text c.args.kind c.args.nodes.now c.specifiers-test.nodes s.last at.last = elim c.specifiers-test.branch [
      | else-specifiers-test w ↦
          let place : at.last ≡ a = ap (λ x. x.cursor.last) w.self-is in
          let sees : Sees s.text Punctuator (codes "}") a = subst (λ x. Sees x Punctuator (codes "}") a) c.specifiers.invariant.same (OnTrue_at w.specifiers-test.false c.sees_punctuator.ensures.seen) in
          subst (λ ps. BraceLeft s.text c.args.kind c.args.nodes.now ps s.last at.last) (sym w.nodes-is)
          (subst (λ x. BraceLeft s.text c.args.kind c.args.nodes.now c.specifiers.nodes s.last x) (sym place) (brace_left s c.args.kind c.args.high c.args.nodes.now c.specifiers.nodes a c.specifiers.invariant.complete sees))
      | then-specifiers-test+in_ok-specifier+in_ok-push+then-not-accept_punctuator w ↦
          let m = w.specifier.new.self.cursor in
          let text : m.text ≡ s.text = w.specifier.ensures.text ∙ c.specifiers.invariant.same in
          let missed = OnFalse_at w.if-not-accept_punctuator.true w.accept_punctuator.ensures.missed in
          let place : at.last ≡ m.last = ap (λ x. x.cursor.last) w.self-is ∙ missed.1 in
          let open_there : Misses s.text Punctuator (codes "}") a = subst (λ x. Misses x Punctuator (codes "}") a) c.specifiers.invariant.same (OnFalse_at w.specifiers-test.true c.sees_punctuator.ensures.missed) in
          subst (λ x. BraceLeft s.text c.args.kind c.args.nodes.now c.specifiers-test.nodes s.last x) (sym place)
          (last_left s c.args.kind c.args.high c.args.nodes.now c.specifiers.nodes a c.specifiers.invariant.complete open_there c.specifiers.self.cursor m c.specifiers.invariant.same refl w.in_ok-specifier.field-0 w.in_ok-specifier.ensures.complete c.specifiers-test.nodes (w.nodes-is ∙ w.in_ok-push.ensures.pushed)
          (subst (λ x. Misses x Punctuator (codes ",") m.last) text missed.0))
    ] in
    let text : at.text ≡ s.text = elim c.specifiers-test.branch [
      | else-specifiers-test w ↦ ap (λ x. x.cursor.text) w.self-is ∙ c.specifiers.invariant.same
      | then-specifiers-test+in_ok-specifier+in_ok-push+then-not-accept_punctuator w ↦ ap (λ x. x.cursor.text) w.self-is ∙ w.accept_punctuator.ensures.text ∙ w.specifier.ensures.text ∙ c.specifiers.invariant.same
    ] in
    closing_read s c.expect_punctuator-2.new.self.cursor c.args.kind c.args.high c.args.nodes.now c.specifiers-test.nodes at.last left (subst (λ x. ReadsHere x Punctuator (codes "}") at.last c.expect_punctuator-2.new.self.cursor.last) text c.in_ok-expect_punctuator-2.ensures.accepted.0)

pub returns-clause-waits : goal.returns-clause-waits
returns-clause-waits c = λ base h.
    let items : c.specifiers-test.self.tree ≡ join base c.specifiers-test.nodes = elim c.specifiers-test.branch [
      | else-specifiers-test w ↦ ap (λ x. x.tree) w.self-is ∙ c.specifiers.invariant.waits base h ∙ ap (join base) (sym w.nodes-is)
      | then-specifiers-test+in_ok-specifier+in_ok-push+then-not-accept_punctuator w ↦
          ap (λ x. x.tree) w.self-is ∙ w.accept_punctuator.ensures.same_tree ∙ waits_push base c.specifiers.nodes w.in_ok-specifier.field-0 (c.specifiers.invariant.waits base h) w.in_ok-specifier.ensures.waits (w.nodes-is ∙ w.in_ok-push.ensures.pushed)
    ] in
    c.expect_punctuator-2.ensures.same_tree ∙ items
