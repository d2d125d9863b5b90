use Rattle.std.proofs.Common.{◌≡◌, [], Ok, Err, sym, ap, ◌∙◌, subst}
use Rattle.std.specs.Prelude.{codes}
use Rattle.std.proofs.lemmas.Bool.{OnTrue_at, OnFalse_at}
use Rattle.tokens.specs.declared.token.TokenClass.TheVariants.{IdentifierName, Punctuator}
use Rattle.tree.specs.Tree.{node, plain, none, gap, push_gap, join}
use Rattle.tree.specs.declared.kind.Kind.TheVariants.{ExportNamedDeclaration, ExportSpecifier}
use Rattle.language.specs.declared.Edge.TheVariants.{Closed}
use Rattle.language.specs.Token.{Token}
use Rattle.token_cursor.specs.Seen.{ReadsHere, Misses, Sees}
use Rattle.token_cursor.specs.StatementEnds.{EndsAt, IsEnd}
use Rattle.token_cursor.specs.declared.semicolon.StatementEnd.TheVariants.{AfterExpression, AfterExport}
use Rattle.productions.specs.Made.{Makes}
use Rattle.recursive_descent.proofs.reading.WaitingNodes.{waits_none, waits_push, waits_gap}
use Rattle.recursive_descent.specs.ModuleItems.{ReadWhole, SpecifiersComplete}
use Rattle.recursive_descent.proofs.sound_modules.ExportReads.{list_sourced, list_ended}
use Rattle.recursive_descent.proofs.sound_modules.SpecifierLoop.{SpecifiersDone}
use Rattle.recursive_descent.proofs.complete_modules.NamesGiven.{made_ok}
use Rattle.recursive_descent.proofs.complete_modules.ExportNodes.{OfLists, EndLeft, names_refused, list_left, list_ends, source_refused, source_read, end_answered}
use Rattle.recursive_descent.proofs.parser.Parser.export_list.Goals as goal
use Rattle.recursive_descent.proofs.parser.Parser.export_list.Goals.{then-accept_word+in_ok-module_source+in_ok-push, else-accept_word+in_ok-push_gap-2}

pub returns-in_err-specifiers-clause-complete : goal.returns-in_err-specifiers-clause-complete
returns-in_err-specifiers-clause-complete c =
    let s = c.args.self.now.cursor in
    let e = c.specifiers.new.self.cursor in
    let inner = c.saturating_sub-inner.result in
    let opened : c.push_gap.new.self ≡ gap none = c.in_ok-push_gap.ensures.pushed ∙ ap push_gap c.new-nodes.ensures in
    λ there. names_refused s c.args.start there e inner c.specifiers.new.nodes e c.args.self.now.pairs.items c.specifiers.new.self.pairs.items c.args.high c.from_residual-in_err-specifiers.result c.in_err-specifiers.field-0.0 c.saturating_sub-inner.ensures
    (subst (λ ps. SpecifiersComplete s e inner ExportSpecifier ps c.specifiers.new.nodes (Err c.in_err-specifiers.field-0.0)) opened c.in_err-specifiers.ensures.complete) c.from_residual-in_err-specifiers.ensures.1

pub returns-in_err-module_source-clause-complete : goal.returns-in_err-module_source-clause-complete
returns-in_err-module_source-clause-complete c =
    let s = c.args.self.now.cursor in
    let e = c.specifiers.new.self.cursor in
    let inner = c.saturating_sub-inner.result in
    let opened : c.push_gap.new.self ≡ gap none = c.in_ok-push_gap.ensures.pushed ∙ ap push_gap c.new-nodes.ensures in
    let complete : SpecifiersComplete s e inner ExportSpecifier (gap none) c.specifiers.new.nodes (Ok tt) = subst (λ ps. SpecifiersComplete s e inner ExportSpecifier ps c.specifiers.new.nodes (Ok tt)) opened c.in_ok-specifiers.ensures.complete in
    let k = c.accept_word.new.self.cursor in
    let text : k.text ≡ s.text = c.accept_word.ensures.text ∙ c.specifiers.ensures.text in
    let m = c.module_source.new.self.cursor in
    let word : ReadsHere s.text IdentifierName (codes "from") e.last k.last = subst (λ x. ReadsHere x IdentifierName (codes "from") e.last k.last) c.specifiers.ensures.text (OnTrue_at c.if-accept_word.true c.accept_word.ensures.accepted) in
    λ there o n b to P r stands d own. source_refused s k m text (list_left s c.args.start there e inner c.specifiers.new.nodes complete k.last word o n b to P r stands d) o c.args.high inner _ c.from_residual-in_err-module_source.result c.in_err-module_source.field-0.0 c.saturating_sub-inner.ensures c.in_err-module_source.ensures.complete c.from_residual-in_err-module_source.ensures.1

pub returns-in_err-semicolon-clause-complete : goal.returns-in_err-semicolon-clause-complete
returns-in_err-semicolon-clause-complete c =
    let s = c.args.self.now.cursor in
    let e = c.specifiers.new.self.cursor in
    let inner = c.saturating_sub-inner.result in
    let opened : c.push_gap.new.self ≡ gap none = c.in_ok-push_gap.ensures.pushed ∙ ap push_gap c.new-nodes.ensures in
    let complete : SpecifiersComplete s e inner ExportSpecifier (gap none) c.specifiers.new.nodes (Ok tt) = subst (λ ps. SpecifiersComplete s e inner ExportSpecifier ps c.specifiers.new.nodes (Ok tt)) opened c.in_ok-specifiers.ensures.complete in
    let k = c.accept_word.new.self.cursor in
    let text : k.text ≡ s.text = c.accept_word.ensures.text ∙ c.specifiers.ensures.text in
    let left : (there : Sees s.text Punctuator (codes "{") s.last) → OfLists s c.args.start (λ n to P. EndLeft s.text ExportNamedDeclaration c.if-accept_word.ending n c.args.start c.if-accept_word.nodes c.if-accept_word.self.cursor.last to P) = λ there. elim c.if-accept_word.branch [
      | then-accept_word+in_ok-module_source+in_ok-push w ↦
          let m = w.module_source.new.self.cursor in
          let word : ReadsHere s.text IdentifierName (codes "from") e.last k.last = subst (λ x. ReadsHere x IdentifierName (codes "from") e.last k.last) c.specifiers.ensures.text (OnTrue_at w.if-accept_word.true c.accept_word.ensures.accepted) in
          λ o n b to P r stands d.
          let u = source_read s k m text (list_left s c.args.start there e inner c.specifiers.new.nodes complete k.last word o n b to P r stands d) inner w.in_ok-module_source.field-0 c.if-accept_word.nodes w.in_ok-module_source.ensures.complete (w.nodes-is ∙ w.in_ok-push.ensures.pushed) in
          subst (λ x. EndLeft s.text ExportNamedDeclaration x n c.args.start c.if-accept_word.nodes c.if-accept_word.self.cursor.last to P) (sym w.ending-is)
          (subst (λ v. EndLeft s.text ExportNamedDeclaration (AfterExpression Closed) n c.args.start c.if-accept_word.nodes v to P) (sym (ap (λ x. x.cursor.last) w.self-is)) u)
      | else-accept_word+in_ok-push_gap-2 w ↦
          let missed = OnFalse_at w.if-accept_word.false c.accept_word.ensures.missed in
          λ o n b to P r stands d.
          let u = list_ends s c.args.start there e inner c.specifiers.new.nodes complete c.if-accept_word.nodes (w.nodes-is ∙ w.in_ok-push_gap-2.ensures.pushed) (subst (λ x. Misses x IdentifierName (codes "from") e.last) c.specifiers.ensures.text missed.0) o n b to P r stands d in
          subst (λ x. EndLeft s.text ExportNamedDeclaration x n c.args.start c.if-accept_word.nodes c.if-accept_word.self.cursor.last to P) (sym w.ending-is)
          (subst (λ v. EndLeft s.text ExportNamedDeclaration AfterExport n c.args.start c.if-accept_word.nodes v to P) (sym (ap (λ x. x.cursor.last) w.self-is ∙ missed.1)) u)
    ] in
    let after : c.if-accept_word.self.cursor.text ≡ s.text = elim c.if-accept_word.branch [
      | then-accept_word+in_ok-module_source+in_ok-push w ↦ ap (λ x. x.cursor.text) w.self-is ∙ w.module_source.ensures.text ∙ text
      | else-accept_word+in_ok-push_gap-2 w ↦ ap (λ x. x.cursor.text) w.self-is ∙ text
    ] in
    let m = c.if-accept_word.self.cursor in
    let ending = c.if-accept_word.ending in
    let z = c.semicolon.new.self in
    let missed = subst (λ x. (k : Token) → EndsAt x ending m.last k → ⊥) after c.in_err-semicolon.ensures.err.1 in
    λ there o n b to P r stands d own. absurd (missed to (left there o n b to P r stands d).ends)

made : (c : goal.After-finish_plain) → Makes (node ExportNamedDeclaration [] plain c.args.start c.semicolon.new.self.last.stop c.if-accept_word.nodes) c.args.high c.finish_plain.result
made c = subst (λ span. Makes (node ExportNamedDeclaration [] plain span.start span.end c.if-accept_word.nodes) c.args.high c.finish_plain.result) c.span_from-span.ensures c.finish_plain.ensures.made

pub returns-clause-derived : goal.returns-clause-derived
returns-clause-derived c =
    let s = c.args.self.now.cursor in
    let e = c.specifiers.new.self.cursor in
    let inner = c.saturating_sub-inner.result in
    let opened : c.push_gap.new.self ≡ gap none = c.in_ok-push_gap.ensures.pushed ∙ ap push_gap c.new-nodes.ensures in
    let k = c.accept_word.new.self.cursor in
    let text : k.text ≡ s.text = c.accept_word.ensures.text ∙ c.specifiers.ensures.text in
    let after : c.if-accept_word.self.cursor.text ≡ s.text = elim c.if-accept_word.branch [
      | then-accept_word+in_ok-module_source+in_ok-push w ↦ ap (λ x. x.cursor.text) w.self-is ∙ w.module_source.ensures.text ∙ text
      | else-accept_word+in_ok-push_gap-2 w ↦ ap (λ x. x.cursor.text) w.self-is ∙ text
    ] in
    let m = c.if-accept_word.self.cursor in
    let ending = c.if-accept_word.ending in
    let z = c.semicolon.new.self in
    let whole : SpecifiersDone ExportSpecifier s e (gap none) c.specifiers.new.nodes = subst (λ ps. SpecifiersDone ExportSpecifier s e ps c.specifiers.new.nodes) opened c.in_ok-specifiers.ensures.derived in
    let end : IsEnd s.text ending m.last z.last = subst (λ x. IsEnd x ending m.last z.last) after c.in_ok-semicolon.ensures.ok in
    let read : ReadWhole s z (codes "export") c.args.start (node ExportNamedDeclaration [] plain c.args.start z.last.stop c.if-accept_word.nodes) = elim c.if-accept_word.branch [
      | then-accept_word+in_ok-module_source+in_ok-push w ↦
          let l = w.module_source.new.self.cursor in
          let word : ReadsHere s.text IdentifierName (codes "from") e.last k.last = subst (λ x. ReadsHere x IdentifierName (codes "from") e.last k.last) c.specifiers.ensures.text (OnTrue_at w.if-accept_word.true c.accept_word.ensures.accepted) in
          let ends : EndsAt s.text (AfterExpression Closed) l.last z.last = subst (λ v. EndsAt s.text (AfterExpression Closed) v z.last) (ap (λ x. x.cursor.last) w.self-is) (subst (λ x. EndsAt s.text x m.last z.last) w.ending-is end.ends) in
          list_sourced s e c.args.start c.specifiers.new.nodes whole k l z w.in_ok-module_source.field-0 c.if-accept_word.nodes word text w.in_ok-module_source.ensures.derived ends (w.nodes-is ∙ w.in_ok-push.ensures.pushed)
      | else-accept_word+in_ok-push_gap-2 w ↦
          let missed = OnFalse_at w.if-accept_word.false c.accept_word.ensures.missed in
          let ends : EndsAt s.text AfterExport e.last z.last = subst (λ v. EndsAt s.text AfterExport v z.last) (ap (λ x. x.cursor.last) w.self-is ∙ missed.1) (subst (λ x. EndsAt s.text x m.last z.last) w.ending-is end.ends) in
          list_ended s e c.args.start c.specifiers.new.nodes whole z c.if-accept_word.nodes ends (w.nodes-is ∙ w.in_ok-push_gap-2.ensures.pushed)
    ] in
    made_ok (node ExportNamedDeclaration [] plain c.args.start z.last.stop c.if-accept_word.nodes) c.args.high c.finish_plain.result (ReadWhole s z (codes "export") c.args.start) (made c) read

pub returns-clause-complete : goal.returns-clause-complete
returns-clause-complete c =
    let s = c.args.self.now.cursor in
    let e = c.specifiers.new.self.cursor in
    let inner = c.saturating_sub-inner.result in
    let opened : c.push_gap.new.self ≡ gap none = c.in_ok-push_gap.ensures.pushed ∙ ap push_gap c.new-nodes.ensures in
    let complete : SpecifiersComplete s e inner ExportSpecifier (gap none) c.specifiers.new.nodes (Ok tt) = subst (λ ps. SpecifiersComplete s e inner ExportSpecifier ps c.specifiers.new.nodes (Ok tt)) opened c.in_ok-specifiers.ensures.complete in
    let k = c.accept_word.new.self.cursor in
    let text : k.text ≡ s.text = c.accept_word.ensures.text ∙ c.specifiers.ensures.text in
    let left : (there : Sees s.text Punctuator (codes "{") s.last) → OfLists s c.args.start (λ n to P. EndLeft s.text ExportNamedDeclaration c.if-accept_word.ending n c.args.start c.if-accept_word.nodes c.if-accept_word.self.cursor.last to P) = λ there. elim c.if-accept_word.branch [
      | then-accept_word+in_ok-module_source+in_ok-push w ↦
          let m = w.module_source.new.self.cursor in
          let word : ReadsHere s.text IdentifierName (codes "from") e.last k.last = subst (λ x. ReadsHere x IdentifierName (codes "from") e.last k.last) c.specifiers.ensures.text (OnTrue_at w.if-accept_word.true c.accept_word.ensures.accepted) in
          λ o n b to P r stands d.
          let u = source_read s k m text (list_left s c.args.start there e inner c.specifiers.new.nodes complete k.last word o n b to P r stands d) inner w.in_ok-module_source.field-0 c.if-accept_word.nodes w.in_ok-module_source.ensures.complete (w.nodes-is ∙ w.in_ok-push.ensures.pushed) in
          subst (λ x. EndLeft s.text ExportNamedDeclaration x n c.args.start c.if-accept_word.nodes c.if-accept_word.self.cursor.last to P) (sym w.ending-is)
          (subst (λ v. EndLeft s.text ExportNamedDeclaration (AfterExpression Closed) n c.args.start c.if-accept_word.nodes v to P) (sym (ap (λ x. x.cursor.last) w.self-is)) u)
      | else-accept_word+in_ok-push_gap-2 w ↦
          let missed = OnFalse_at w.if-accept_word.false c.accept_word.ensures.missed in
          λ o n b to P r stands d.
          let u = list_ends s c.args.start there e inner c.specifiers.new.nodes complete c.if-accept_word.nodes (w.nodes-is ∙ w.in_ok-push_gap-2.ensures.pushed) (subst (λ x. Misses x IdentifierName (codes "from") e.last) c.specifiers.ensures.text missed.0) o n b to P r stands d in
          subst (λ x. EndLeft s.text ExportNamedDeclaration x n c.args.start c.if-accept_word.nodes c.if-accept_word.self.cursor.last to P) (sym w.ending-is)
          (subst (λ v. EndLeft s.text ExportNamedDeclaration AfterExport n c.args.start c.if-accept_word.nodes v to P) (sym (ap (λ x. x.cursor.last) w.self-is ∙ missed.1)) u)
    ] in
    let after : c.if-accept_word.self.cursor.text ≡ s.text = elim c.if-accept_word.branch [
      | then-accept_word+in_ok-module_source+in_ok-push w ↦ ap (λ x. x.cursor.text) w.self-is ∙ w.module_source.ensures.text ∙ text
      | else-accept_word+in_ok-push_gap-2 w ↦ ap (λ x. x.cursor.text) w.self-is ∙ text
    ] in
    let m = c.if-accept_word.self.cursor in
    let ending = c.if-accept_word.ending in
    let z = c.semicolon.new.self in
    let pairs : c.if-accept_word.self.pairs.items ≡ c.args.self.now.pairs.items = elim c.if-accept_word.branch [
      | then-accept_word+in_ok-module_source+in_ok-push w ↦ ap (λ x. x.pairs.items) w.self-is ∙ w.module_source.ensures.same_pairs ∙ c.accept_word.ensures.same_pairs ∙ c.specifiers.ensures.same_pairs
      | else-accept_word+in_ok-push_gap-2 w ↦ ap (λ x. x.pairs.items) w.self-is ∙ c.accept_word.ensures.same_pairs ∙ c.specifiers.ensures.same_pairs
    ] in
    let end : IsEnd s.text ending m.last z.last = subst (λ x. IsEnd x ending m.last z.last) after c.in_ok-semicolon.ensures.ok in
    λ there o n b to P r stands d own.
    end_answered s m z c.args.self.now.pairs.items c.if-accept_word.self.pairs.items o c.args.high ExportNamedDeclaration ending n c.args.start c.if-accept_word.nodes to P c.finish_plain.result (left there o n b to P r stands d) end pairs (made c)

pub returns-clause-waits : goal.returns-clause-waits
returns-clause-waits c =
    let old = c.args.self.now.tree in
    let names = c.in_ok-specifiers.ensures.waits old (waits_gap old c.new-nodes.result (waits_none c.new-nodes.ensures) c.in_ok-push_gap.ensures.waits c.in_ok-push_gap.ensures.pushed) in
    let from = c.accept_word.ensures.same_tree ∙ names in
    let whole : c.if-accept_word.self.tree ≡ join old c.if-accept_word.nodes = elim c.if-accept_word.branch [
      | then-accept_word+in_ok-module_source+in_ok-push w ↦ ap (λ x. x.tree) w.self-is ∙ waits_push old c.specifiers.new.nodes w.in_ok-module_source.field-0 from w.in_ok-module_source.ensures.waits (w.nodes-is ∙ w.in_ok-push.ensures.pushed)
      | else-accept_word+in_ok-push_gap-2 w ↦ ap (λ x. x.tree) w.self-is ∙ waits_gap old c.specifiers.new.nodes from w.in_ok-push_gap-2.ensures.waits (w.nodes-is ∙ w.in_ok-push_gap-2.ensures.pushed)
    ] in
    c.finish_plain.ensures.waits old whole
