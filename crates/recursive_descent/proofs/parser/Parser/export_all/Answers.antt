use Rattle.std.proofs.Common.{◌≡◌, [], ap, ◌∙◌, subst}
use Rattle.std.specs.Prelude.{codes}
use Rattle.std.proofs.lemmas.Bool.{OnTrue_at, OnFalse_at}
use Rattle.tokens.specs.declared.token.TokenClass.TheVariants.{IdentifierName, Punctuator}
use Rattle.tree.specs.Tree.{node, plain, part, none, gap, push, push_gap, join}
use Rattle.tree.specs.declared.kind.Kind.TheVariants.{ExportAllDeclaration}
use Rattle.language.specs.declared.Edge.TheVariants.{Closed}
use Rattle.language.specs.Token.{Token}
use Rattle.token_cursor.specs.Seen.{ReadsHere, Misses}
use Rattle.token_cursor.specs.StatementEnds.{EndsAt, IsEnd}
use Rattle.token_cursor.specs.declared.semicolon.StatementEnd.TheVariants.{AfterExpression}
use Rattle.productions.specs.Made.{Makes}
use Rattle.recursive_descent.proofs.reading.WaitingNodes.{waits_none, waits_push, waits_gap}
use Rattle.recursive_descent.specs.ModuleItems.{ReadBehind}
use Rattle.recursive_descent.proofs.sound_modules.ExportReads.{AllBefore, unnamed, named, all_read}
use Rattle.recursive_descent.proofs.complete_modules.NamesGiven.{made_ok}
use Rattle.recursive_descent.proofs.complete_modules.ExportNodes.{OfAll, SourceLeft, unnamed_left, unnamed_missed, named_left, named_missed, name_refused, source_refused, source_read, end_answered}
use Rattle.recursive_descent.proofs.parser.Parser.export_all.Goals as goal
use Rattle.recursive_descent.proofs.parser.Parser.export_all.Goals.{in-true+in_ok-module_name-in-true+in_ok-push-in-true, in-false+in_ok-push_gap-in-false}

pub returns-in_err-module_name-in-true-clause-complete : goal.returns-in_err-module_name-in-true-clause-complete
returns-in_err-module_name-in-true-clause-complete c =
    let s = c.args.self.now.cursor in
    let e = c.module_name.new.self.cursor in
    name_refused s c.args.start c.accept_word.new.self.cursor e (OnTrue_at c.in-true.is c.accept_word.ensures.accepted) c.accept_word.ensures.text c.saturating_sub-inner.result e c.args.self.now.pairs.items c.module_name.new.self.pairs.items c.args.high c.from_residual.result c.in_err-module_name-in-true.field-0.0
    c.saturating_sub-inner.ensures c.in_err-module_name-in-true.ensures.complete c.from_residual.ensures.1

pub returns-in_err-expect_word-clause-complete : goal.returns-in_err-expect_word-clause-complete
returns-in_err-expect_word-clause-complete c =
    let s = c.args.self.now.cursor in
    let m = c.if-accept_word.self.cursor in
    let nodes = c.if-accept_word.nodes in
    let text : m.text ≡ s.text = elim c.if-accept_word.branch [
      | in-true+in_ok-module_name-in-true+in_ok-push-in-true w ↦ ap (λ x. x.cursor.text) w.self-is ∙ w.module_name.ensures.text ∙ c.accept_word.ensures.text
      | in-false+in_ok-push_gap-in-false w ↦ ap (λ x. x.cursor.text) w.self-is ∙ c.accept_word.ensures.text
    ] in
    let missed_here : Misses s.text IdentifierName (codes "from") m.last = subst (λ x. Misses x IdentifierName (codes "from") m.last) text c.in_err-expect_word.ensures.missed.0 in
    let never : OfAll s c.args.start (λ n to P. ⊥) = elim c.if-accept_word.branch [
      | in-true+in_ok-module_name-in-true+in_ok-push-in-true w ↦
          let place : m.last ≡ w.module_name.new.self.cursor.last = ap (λ x. x.cursor.last) w.self-is in
          named_missed s c.args.start c.accept_word.new.self.cursor w.module_name.new.self.cursor (OnTrue_at w.in-true.is c.accept_word.ensures.accepted) c.accept_word.ensures.text c.saturating_sub-inner.result w.in_ok-module_name-in-true.field-0 w.in_ok-module_name-in-true.ensures.complete (subst (λ v. Misses s.text IdentifierName (codes "from") v) place missed_here)
      | in-false+in_ok-push_gap-in-false w ↦
          let missed = OnFalse_at w.in-false.is c.accept_word.ensures.missed in
          let place : m.last ≡ s.last = ap (λ x. x.cursor.last) w.self-is ∙ missed.1 in
          unnamed_missed s c.args.start missed.0 (subst (λ v. Misses s.text IdentifierName (codes "from") v) place missed_here)
    ] in
    λ o n b k to P word stands star d own. absurd (never o n b k to P word stands star d)

pub returns-in_err-module_source-clause-complete : goal.returns-in_err-module_source-clause-complete
returns-in_err-module_source-clause-complete c =
    let s = c.args.self.now.cursor in
    let m = c.if-accept_word.self.cursor in
    let nodes = c.if-accept_word.nodes in
    let text : m.text ≡ s.text = elim c.if-accept_word.branch [
      | in-true+in_ok-module_name-in-true+in_ok-push-in-true w ↦ ap (λ x. x.cursor.text) w.self-is ∙ w.module_name.ensures.text ∙ c.accept_word.ensures.text
      | in-false+in_ok-push_gap-in-false w ↦ ap (λ x. x.cursor.text) w.self-is ∙ c.accept_word.ensures.text
    ] in
    let k = c.expect_word.new.self.cursor in
    let word : ReadsHere s.text IdentifierName (codes "from") m.last k.last = subst (λ x. ReadsHere x IdentifierName (codes "from") m.last k.last) text c.in_ok-expect_word.ensures.accepted.0 in
    let left : OfAll s c.args.start (λ n to P. SourceLeft s.text ExportAllDeclaration n c.args.start nodes k.last to P) = elim c.if-accept_word.branch [
      | in-true+in_ok-module_name-in-true+in_ok-push-in-true w ↦
          let a = c.accept_word.new.self.cursor in
          let e = w.module_name.new.self.cursor in
          let one : nodes ≡ part w.in_ok-module_name-in-true.field-0 none = w.nodes-is ∙ w.in_ok-push-in-true.ensures.pushed ∙ ap (λ ps. push ps w.in_ok-module_name-in-true.field-0) c.new-nodes.ensures in
          let place : m.last ≡ e.last = ap (λ x. x.cursor.last) w.self-is in
          named_left s c.args.start a e (OnTrue_at w.in-true.is c.accept_word.ensures.accepted) c.accept_word.ensures.text c.saturating_sub-inner.result w.in_ok-module_name-in-true.field-0 w.in_ok-module_name-in-true.ensures.complete nodes k.last one (subst (λ v. ReadsHere s.text IdentifierName (codes "from") v k.last) place word)
      | in-false+in_ok-push_gap-in-false w ↦
          let missed = OnFalse_at w.in-false.is c.accept_word.ensures.missed in
          let one : nodes ≡ gap none = w.nodes-is ∙ w.in_ok-push_gap-in-false.ensures.pushed ∙ ap push_gap c.new-nodes.ensures in
          let place : m.last ≡ s.last = ap (λ x. x.cursor.last) w.self-is ∙ missed.1 in
          unnamed_left s c.args.start missed.0 nodes k.last one (subst (λ v. ReadsHere s.text IdentifierName (codes "from") v k.last) place word)
    ] in
    let after : k.text ≡ s.text = c.expect_word.ensures.text ∙ text in
    let e = c.module_source.new.self.cursor in
    λ o n b x to P w stands star d own. source_refused s k e after (left o n b x to P w stands star d) o c.args.high c.saturating_sub-inner.result _ c.from_residual-in_err-module_source.result c.in_err-module_source.field-0.0 c.saturating_sub-inner.ensures c.in_err-module_source.ensures.complete c.from_residual-in_err-module_source.ensures.1

pub returns-in_err-semicolon-clause-complete : goal.returns-in_err-semicolon-clause-complete
returns-in_err-semicolon-clause-complete c =
    let s = c.args.self.now.cursor in
    let m = c.if-accept_word.self.cursor in
    let nodes = c.if-accept_word.nodes in
    let text : m.text ≡ s.text = elim c.if-accept_word.branch [
      | in-true+in_ok-module_name-in-true+in_ok-push-in-true w ↦ ap (λ x. x.cursor.text) w.self-is ∙ w.module_name.ensures.text ∙ c.accept_word.ensures.text
      | in-false+in_ok-push_gap-in-false w ↦ ap (λ x. x.cursor.text) w.self-is ∙ c.accept_word.ensures.text
    ] in
    let k = c.expect_word.new.self.cursor in
    let word : ReadsHere s.text IdentifierName (codes "from") m.last k.last = subst (λ x. ReadsHere x IdentifierName (codes "from") m.last k.last) text c.in_ok-expect_word.ensures.accepted.0 in
    let left : OfAll s c.args.start (λ n to P. SourceLeft s.text ExportAllDeclaration n c.args.start nodes k.last to P) = elim c.if-accept_word.branch [
      | in-true+in_ok-module_name-in-true+in_ok-push-in-true w ↦
          let a = c.accept_word.new.self.cursor in
          let e = w.module_name.new.self.cursor in
          let one : nodes ≡ part w.in_ok-module_name-in-true.field-0 none = w.nodes-is ∙ w.in_ok-push-in-true.ensures.pushed ∙ ap (λ ps. push ps w.in_ok-module_name-in-true.field-0) c.new-nodes.ensures in
          let place : m.last ≡ e.last = ap (λ x. x.cursor.last) w.self-is in
          named_left s c.args.start a e (OnTrue_at w.in-true.is c.accept_word.ensures.accepted) c.accept_word.ensures.text c.saturating_sub-inner.result w.in_ok-module_name-in-true.field-0 w.in_ok-module_name-in-true.ensures.complete nodes k.last one (subst (λ v. ReadsHere s.text IdentifierName (codes "from") v k.last) place word)
      | in-false+in_ok-push_gap-in-false w ↦
          let missed = OnFalse_at w.in-false.is c.accept_word.ensures.missed in
          let one : nodes ≡ gap none = w.nodes-is ∙ w.in_ok-push_gap-in-false.ensures.pushed ∙ ap push_gap c.new-nodes.ensures in
          let place : m.last ≡ s.last = ap (λ x. x.cursor.last) w.self-is ∙ missed.1 in
          unnamed_left s c.args.start missed.0 nodes k.last one (subst (λ v. ReadsHere s.text IdentifierName (codes "from") v k.last) place word)
    ] in
    let after : k.text ≡ s.text = c.expect_word.ensures.text ∙ text in
    let e = c.module_source.new.self.cursor in
    let same : e.text ≡ s.text = c.module_source.ensures.text ∙ after in
    let missed = subst (λ x. (k : Token) → EndsAt x (AfterExpression Closed) e.last k → ⊥) same c.in_err-semicolon.ensures.err.1 in
    λ o n b x to P w stands star d own.
    let u = source_read s k e after (left o n b x to P w stands star d) c.saturating_sub-inner.result c.in_ok-module_source.field-0 c.push-2.new.self c.in_ok-module_source.ensures.complete c.in_ok-push.ensures.pushed in
    absurd (missed to u.ends)

made : (c : goal.After-finish_plain) → Makes (node ExportAllDeclaration [] plain c.args.start c.semicolon.new.self.last.stop c.push-2.new.self) c.args.high c.finish_plain.result
made c = subst (λ span. Makes (node ExportAllDeclaration [] plain span.start span.end c.push-2.new.self) c.args.high c.finish_plain.result) c.span_from-span.ensures c.finish_plain.ensures.made

pub returns-clause-derived : goal.returns-clause-derived
returns-clause-derived c =
    let s = c.args.self.now.cursor in
    let m = c.if-accept_word.self.cursor in
    let nodes = c.if-accept_word.nodes in
    let text : m.text ≡ s.text = elim c.if-accept_word.branch [
      | in-true+in_ok-module_name-in-true+in_ok-push-in-true w ↦ ap (λ x. x.cursor.text) w.self-is ∙ w.module_name.ensures.text ∙ c.accept_word.ensures.text
      | in-false+in_ok-push_gap-in-false w ↦ ap (λ x. x.cursor.text) w.self-is ∙ c.accept_word.ensures.text
    ] in
    let k = c.expect_word.new.self.cursor in
    let word : ReadsHere s.text IdentifierName (codes "from") m.last k.last = subst (λ x. ReadsHere x IdentifierName (codes "from") m.last k.last) text c.in_ok-expect_word.ensures.accepted.0 in
    let e = c.module_source.new.self.cursor in
    let z = c.semicolon.new.self in
    let after : k.text ≡ s.text = c.expect_word.ensures.text ∙ text in
    let end : IsEnd s.text (AfterExpression Closed) e.last z.last = subst (λ x. IsEnd x (AfterExpression Closed) e.last z.last) (c.module_source.ensures.text ∙ after) c.in_ok-semicolon.ensures.ok in
    let was : AllBefore s nodes k.last = elim c.if-accept_word.branch [
      | in-true+in_ok-module_name-in-true+in_ok-push-in-true w ↦
          let a = c.accept_word.new.self.cursor in
          let e = w.module_name.new.self.cursor in
          let one : nodes ≡ part w.in_ok-module_name-in-true.field-0 none = w.nodes-is ∙ w.in_ok-push-in-true.ensures.pushed ∙ ap (λ ps. push ps w.in_ok-module_name-in-true.field-0) c.new-nodes.ensures in
          let place : m.last ≡ e.last = ap (λ x. x.cursor.last) w.self-is in
          named a e w.in_ok-module_name-in-true.field-0 one (OnTrue_at w.in-true.is c.accept_word.ensures.accepted) c.accept_word.ensures.text w.in_ok-module_name-in-true.ensures.derived (subst (λ v. ReadsHere s.text IdentifierName (codes "from") v k.last) place word)
      | in-false+in_ok-push_gap-in-false w ↦
          let missed = OnFalse_at w.in-false.is c.accept_word.ensures.missed in
          let one : nodes ≡ gap none = w.nodes-is ∙ w.in_ok-push_gap-in-false.ensures.pushed ∙ ap push_gap c.new-nodes.ensures in
          let place : m.last ≡ s.last = ap (λ x. x.cursor.last) w.self-is ∙ missed.1 in
          unnamed one (subst (λ v. ReadsHere s.text IdentifierName (codes "from") v k.last) place word)
    ] in
    made_ok (node ExportAllDeclaration [] plain c.args.start z.last.stop c.push-2.new.self) c.args.high c.finish_plain.result (ReadBehind s z Punctuator (codes "*") c.args.start) (made c)
    (all_read s k e z c.args.start nodes c.push-2.new.self c.in_ok-module_source.field-0 was after c.in_ok-module_source.ensures.derived end.ends c.in_ok-push.ensures.pushed)

pub returns-clause-complete : goal.returns-clause-complete
returns-clause-complete c =
    let s = c.args.self.now.cursor in
    let m = c.if-accept_word.self.cursor in
    let nodes = c.if-accept_word.nodes in
    let text : m.text ≡ s.text = elim c.if-accept_word.branch [
      | in-true+in_ok-module_name-in-true+in_ok-push-in-true w ↦ ap (λ x. x.cursor.text) w.self-is ∙ w.module_name.ensures.text ∙ c.accept_word.ensures.text
      | in-false+in_ok-push_gap-in-false w ↦ ap (λ x. x.cursor.text) w.self-is ∙ c.accept_word.ensures.text
    ] in
    let pairs : c.if-accept_word.self.pairs.items ≡ c.args.self.now.pairs.items = elim c.if-accept_word.branch [
      | in-true+in_ok-module_name-in-true+in_ok-push-in-true w ↦ ap (λ x. x.pairs.items) w.self-is ∙ w.module_name.ensures.same_pairs ∙ c.accept_word.ensures.same_pairs
      | in-false+in_ok-push_gap-in-false w ↦ ap (λ x. x.pairs.items) w.self-is ∙ c.accept_word.ensures.same_pairs
    ] in
    let k = c.expect_word.new.self.cursor in
    let word : ReadsHere s.text IdentifierName (codes "from") m.last k.last = subst (λ x. ReadsHere x IdentifierName (codes "from") m.last k.last) text c.in_ok-expect_word.ensures.accepted.0 in
    let left : OfAll s c.args.start (λ n to P. SourceLeft s.text ExportAllDeclaration n c.args.start nodes k.last to P) = elim c.if-accept_word.branch [
      | in-true+in_ok-module_name-in-true+in_ok-push-in-true w ↦
          let a = c.accept_word.new.self.cursor in
          let e = w.module_name.new.self.cursor in
          let one : nodes ≡ part w.in_ok-module_name-in-true.field-0 none = w.nodes-is ∙ w.in_ok-push-in-true.ensures.pushed ∙ ap (λ ps. push ps w.in_ok-module_name-in-true.field-0) c.new-nodes.ensures in
          let place : m.last ≡ e.last = ap (λ x. x.cursor.last) w.self-is in
          named_left s c.args.start a e (OnTrue_at w.in-true.is c.accept_word.ensures.accepted) c.accept_word.ensures.text c.saturating_sub-inner.result w.in_ok-module_name-in-true.field-0 w.in_ok-module_name-in-true.ensures.complete nodes k.last one (subst (λ v. ReadsHere s.text IdentifierName (codes "from") v k.last) place word)
      | in-false+in_ok-push_gap-in-false w ↦
          let missed = OnFalse_at w.in-false.is c.accept_word.ensures.missed in
          let one : nodes ≡ gap none = w.nodes-is ∙ w.in_ok-push_gap-in-false.ensures.pushed ∙ ap push_gap c.new-nodes.ensures in
          let place : m.last ≡ s.last = ap (λ x. x.cursor.last) w.self-is ∙ missed.1 in
          unnamed_left s c.args.start missed.0 nodes k.last one (subst (λ v. ReadsHere s.text IdentifierName (codes "from") v k.last) place word)
    ] in
    let after : k.text ≡ s.text = c.expect_word.ensures.text ∙ text in
    let e = c.module_source.new.self.cursor in
    let z = c.semicolon.new.self in
    let end : IsEnd s.text (AfterExpression Closed) e.last z.last = subst (λ x. IsEnd x (AfterExpression Closed) e.last z.last) (c.module_source.ensures.text ∙ after) c.in_ok-semicolon.ensures.ok in
    λ o n b x to P w stands star d own.
    let u = source_read s k e after (left o n b x to P w stands star d) c.saturating_sub-inner.result c.in_ok-module_source.field-0 c.push-2.new.self c.in_ok-module_source.ensures.complete c.in_ok-push.ensures.pushed in
    end_answered s e z c.args.self.now.pairs.items c.module_source.new.self.pairs.items o c.args.high ExportAllDeclaration (AfterExpression Closed) n c.args.start c.push-2.new.self to P c.finish_plain.result u end (c.module_source.ensures.same_pairs ∙ c.expect_word.ensures.same_pairs ∙ pairs) (made c)

pub returns-clause-waits : goal.returns-clause-waits
returns-clause-waits c =
    let old = c.args.self.now.tree in
    let none = c.accept_word.ensures.same_tree ∙ waits_none c.new-nodes.ensures in
    let first : c.if-accept_word.self.tree ≡ join old c.if-accept_word.nodes = elim c.if-accept_word.branch [
      | in-true+in_ok-module_name-in-true+in_ok-push-in-true w ↦ ap (λ x. x.tree) w.self-is ∙ waits_push old c.new-nodes.result w.in_ok-module_name-in-true.field-0 none w.in_ok-module_name-in-true.ensures.waits (w.nodes-is ∙ w.in_ok-push-in-true.ensures.pushed)
      | in-false+in_ok-push_gap-in-false w ↦ ap (λ x. x.tree) w.self-is ∙ waits_gap old c.new-nodes.result none w.in_ok-push_gap-in-false.ensures.waits (w.nodes-is ∙ w.in_ok-push_gap-in-false.ensures.pushed)
    ] in
    let whole = waits_push old c.if-accept_word.nodes c.in_ok-module_source.field-0 (c.expect_word.ensures.same_tree ∙ first) c.in_ok-module_source.ensures.waits c.in_ok-push.ensures.pushed in
    c.finish_plain.ensures.waits old whole
