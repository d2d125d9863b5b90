use Rattle.std.proofs.Common.{◌≡◌, [], refl, sym, ap, ◌∙◌, subst}
use Rattle.std.specs.Prelude.{codes}
use Rattle.tokens.specs.declared.token.TokenClass.TheVariants.{IdentifierName}
use Rattle.tree.specs.Tree.{node, plain, part, none, push}
use Rattle.tree.specs.declared.kind.Kind.TheVariants.{ExportDefaultDeclaration}
use Rattle.productions.specs.Made.{Makes}
use Rattle.recursive_descent.proofs.reading.WaitingNodes.{waits_one}
use Rattle.recursive_descent.specs.Soundness.{Adds}
use Rattle.recursive_descent.specs.ModuleItems.{ExportBehind, DefaultComplete}
use Rattle.recursive_descent.proofs.complete_modules.DefaultGiven.{value_refused, value_unfit, value_unended, value_answered}
use Rattle.recursive_descent.proofs.complete_modules.DefaultClosures.{closure_refused, closure_answered}
use Rattle.recursive_descent.proofs.complete_modules.NamesGiven.{made_ok}
use Rattle.recursive_descent.proofs.sound_modules.DefaultReads.{default_first, default_words_there, closure_exported, value_exported}
use Rattle.recursive_descent.proofs.parser.Parser.export_default.Goals as goal
use Rattle.recursive_descent.proofs.parser.Parser.export_default.Goals.{in-Some+in_ok-closure-in-Some+in_ok-exported-in-Some, in-None+in_ok-part-in-None+in_ok-value-in-None+in_ok-semicolon-in-None}

pub function_words-requires : goal.function_words-requires
function_words-requires c = record {
  first = default_first c.args.self.now.cursor c.advance.new.self.cursor c.in-Some.token c.in-Some.ensures.ahead c.advance.ensures.text c.advance.ensures.last c.in-Some.closure c.in-Some.ensures.begun;
}

pub returns-in_err-closure-in-Some-clause-complete : goal.returns-in_err-closure-in-Some-clause-complete
returns-in_err-closure-in-Some-clause-complete c = λ o n b k to P word stands default d fine own.
    absurd (default_words_there c.args.self.now.cursor c.advance.new.self.cursor c.in-Some.token c.in-Some.ensures.ahead c.advance.ensures.text c.advance.ensures.last c.in-Some.closure c.in-Some.ensures.begun c.in_err-closure-in-Some.ensures.missed)

pub returns-in_err-exported-in-Some-clause-complete : goal.returns-in_err-exported-in-Some-clause-complete
returns-in_err-exported-in-Some-clause-complete c =
    let s = c.args.self.now.cursor in
    let m = c.advance.new.self.cursor in
    let k = c.function_words.new.self in
    let e = c.function_or_class.new.self in
    closure_refused s m k.cursor c.in-Some.token c.in-Some.closure c.in_ok-closure-in-Some.closure c.in-Some.ensures.ahead c.in-Some.ensures.begun c.advance.ensures.text c.advance.ensures.last c.in_ok-closure-in-Some.ensures.words c.args.start
    e.cursor c.args.self.now.pairs.items k.pairs.items e.pairs.items c.saturating_sub-inner.result c.args.high c.saturating_sub-inner.ensures (c.function_words.ensures.text ∙ c.advance.ensures.text) (c.function_words.ensures.same_open ∙ c.advance.ensures.same_open) (c.function_words.ensures.same_pairs ∙ c.advance.ensures.same_pairs)
    c.from_residual-in_err-exported-in-Some.result c.in_err-exported-in-Some.field-0.0 c.from_residual-in_err-exported-in-Some.ensures.1 c.in_err-exported-in-Some.ensures.complete

pub returns-in_err-part-in-None-clause-complete : goal.returns-in_err-part-in-None-clause-complete
returns-in_err-part-in-None-clause-complete c =
    let s = c.args.self.now.cursor in
    let m = c.expression.new.self in
    value_refused s m.cursor c.args.self.now.pairs.items m.pairs.items c.saturating_sub-inner.result c.args.high c.args.start c.saturating_sub-inner.ensures c.in-None.ensures.other
    m.cursor m.pairs.items c.from_residual-in_err-part-in-None.result c.in_err-part-in-None.field-0.0 c.from_residual-in_err-part-in-None.ensures.1 c.in_err-part-in-None.ensures.complete

pub returns-in_err-value-in-None-clause-complete : goal.returns-in_err-value-in-None-clause-complete
returns-in_err-value-in-None-clause-complete c =
    let s = c.args.self.now.cursor in
    let m = c.expression.new.self in
    value_unfit s m.cursor c.args.self.now.pairs.items m.pairs.items c.saturating_sub-inner.result c.args.high c.args.start c.saturating_sub-inner.ensures c.in-None.ensures.other
    c.in_ok-part-in-None.part c.expression.ensures.text c.in_ok-part-in-None.ensures.complete c.in_ok-part-in-None.ensures.derived m.cursor m.pairs.items c.from_residual-in_err-value-in-None.result c.in_err-value-in-None.ensures.settled.1

pub returns-in_err-semicolon-in-None-clause-complete : goal.returns-in_err-semicolon-in-None-clause-complete
returns-in_err-semicolon-in-None-clause-complete c =
    let s = c.args.self.now.cursor in
    let m = c.expression.new.self in
    value_unended s m.cursor c.args.self.now.pairs.items m.pairs.items c.saturating_sub-inner.result c.args.high c.args.start c.saturating_sub-inner.ensures c.in-None.ensures.other
    c.in_ok-part-in-None.part c.expression.ensures.text c.in_ok-part-in-None.ensures.complete c.in_ok-part-in-None.ensures.derived c.semicolon.new.self m.pairs.items c.from_residual-in_err-semicolon-in-None.result c.in_err-semicolon-in-None.ensures.err.1

made : (c : goal.After-finish_plain) → Makes (node ExportDefaultDeclaration [] plain c.args.start c.match-default_declaration.self.cursor.last.stop c.one-nodes.result) c.args.high c.finish_plain.result
made c = subst (λ span. Makes (node ExportDefaultDeclaration [] plain span.start span.end c.one-nodes.result) c.args.high c.finish_plain.result) c.span_from-span.ensures c.finish_plain.ensures.made

one_part : (c : goal.After-finish_plain) → c.one-nodes.result ≡ part c.match-default_declaration.exported none
one_part c = c.one-nodes.ensures

pub returns-clause-derived : goal.returns-clause-derived
returns-clause-derived c =
    let s = c.args.self.now.cursor in
    let old = c.args.self.now.pairs.items in
    let z = c.match-default_declaration.self in
    let exported : Adds s z.cursor old z.pairs.items (ExportBehind s.text IdentifierName (codes "default") c.args.start (node ExportDefaultDeclaration [] plain c.args.start z.cursor.last.stop (part c.match-default_declaration.exported none))) = elim c.match-default_declaration.branch [
      | in-Some+in_ok-closure-in-Some+in_ok-exported-in-Some w ↦
          let e = w.function_or_class.new.self in
          let n = w.in_ok-exported-in-Some.exported in
          let m = w.advance.new.self in
          let k = w.function_words.new.self in
          subst (λ x. Adds s x.cursor old x.pairs.items (ExportBehind s.text IdentifierName (codes "default") c.args.start (node ExportDefaultDeclaration [] plain c.args.start x.cursor.last.stop (part c.match-default_declaration.exported none)))) (sym w.self-is)
          (subst (λ v. Adds s e.cursor old e.pairs.items (ExportBehind s.text IdentifierName (codes "default") c.args.start (node ExportDefaultDeclaration [] plain c.args.start e.cursor.last.stop (part v none)))) (sym w.exported-is)
          (closure_exported s m.cursor k.cursor e.cursor old k.pairs.items e.pairs.items c.args.start w.in-Some.token w.in-Some.closure w.in_ok-closure-in-Some.closure n w.in-Some.ensures.ahead w.in-Some.ensures.begun w.advance.ensures.text w.advance.ensures.last w.in_ok-closure-in-Some.ensures.words (w.function_words.ensures.text ∙ w.advance.ensures.text) (w.function_words.ensures.same_open ∙ w.advance.ensures.same_open) (w.function_words.ensures.same_pairs ∙ w.advance.ensures.same_pairs) w.in_ok-exported-in-Some.ensures.derived))
      | in-None+in_ok-part-in-None+in_ok-value-in-None+in_ok-semicolon-in-None w ↦
          let m = w.expression.new.self in
          let e = w.semicolon.new.self in
          let n = w.in_ok-value-in-None.value in
          subst (λ x. Adds s x.cursor old x.pairs.items (ExportBehind s.text IdentifierName (codes "default") c.args.start (node ExportDefaultDeclaration [] plain c.args.start x.cursor.last.stop (part c.match-default_declaration.exported none)))) (sym w.self-is)
          (subst (λ v. Adds s e old m.pairs.items (ExportBehind s.text IdentifierName (codes "default") c.args.start (node ExportDefaultDeclaration [] plain c.args.start e.last.stop (part v none)))) (sym w.exported-is)
          (value_exported s m.cursor e old m.pairs.items m.pairs.items c.args.start w.in_ok-part-in-None.part n w.in-None.ensures.other w.in_ok-part-in-None.ensures.derived w.in_ok-value-in-None.ensures.settled w.expression.ensures.text w.in_ok-semicolon-in-None.ensures.ok w.semicolon.ensures.same_open refl))
    ] in
    made_ok (node ExportDefaultDeclaration [] plain c.args.start z.cursor.last.stop c.one-nodes.result) c.args.high c.finish_plain.result (λ n. Adds s z.cursor old z.pairs.items (ExportBehind s.text IdentifierName (codes "default") c.args.start n)) (made c)
    (subst (λ ps. Adds s z.cursor old z.pairs.items (ExportBehind s.text IdentifierName (codes "default") c.args.start (node ExportDefaultDeclaration [] plain c.args.start z.cursor.last.stop ps))) (sym (one_part c)) exported)

pub returns-clause-complete : goal.returns-clause-complete
returns-clause-complete c =
    let s = c.args.self.now.cursor in
    let old = c.args.self.now.pairs.items in
    let z = c.match-default_declaration.self in
    let result = c.finish_plain.result in
    let made_one : Makes (node ExportDefaultDeclaration [] plain c.args.start z.cursor.last.stop (part c.match-default_declaration.exported none)) c.args.high result = subst (λ ps. Makes (node ExportDefaultDeclaration [] plain c.args.start z.cursor.last.stop ps) c.args.high result) (one_part c) (made c) in
    elim c.match-default_declaration.branch [
      | in-Some+in_ok-closure-in-Some+in_ok-exported-in-Some w ↦
          let m = w.advance.new.self in
          let k = w.function_words.new.self in
          let e = w.function_or_class.new.self in
          subst (λ x. DefaultComplete s x.cursor old x.pairs.items c.args.high c.args.start result) (sym w.self-is)
          (closure_answered s m.cursor k.cursor w.in-Some.token w.in-Some.closure w.in_ok-closure-in-Some.closure w.in-Some.ensures.ahead w.in-Some.ensures.begun w.advance.ensures.text w.advance.ensures.last w.in_ok-closure-in-Some.ensures.words c.args.start
          e.cursor old k.pairs.items e.pairs.items c.saturating_sub-inner.result c.args.high c.saturating_sub-inner.ensures (w.function_words.ensures.text ∙ w.advance.ensures.text) (w.function_words.ensures.same_open ∙ w.advance.ensures.same_open) (w.function_words.ensures.same_pairs ∙ w.advance.ensures.same_pairs)
          w.in_ok-exported-in-Some.exported result w.in_ok-exported-in-Some.ensures.complete
          (subst (λ v. Makes (node ExportDefaultDeclaration [] plain c.args.start e.cursor.last.stop (part v none)) c.args.high result) w.exported-is (subst (λ x. Makes (node ExportDefaultDeclaration [] plain c.args.start x.cursor.last.stop (part c.match-default_declaration.exported none)) c.args.high result) w.self-is made_one)))
      | in-None+in_ok-part-in-None+in_ok-value-in-None+in_ok-semicolon-in-None w ↦
          let m = w.expression.new.self in
          let e = w.semicolon.new.self in
          subst (λ x. DefaultComplete s x.cursor old x.pairs.items c.args.high c.args.start result) (sym w.self-is)
          (value_answered s m.cursor old m.pairs.items c.saturating_sub-inner.result c.args.high c.args.start c.saturating_sub-inner.ensures w.in-None.ensures.other
          w.in_ok-part-in-None.part w.expression.ensures.text w.in_ok-part-in-None.ensures.complete w.in_ok-part-in-None.ensures.derived e m.pairs.items w.in_ok-value-in-None.value result w.in_ok-value-in-None.ensures.settled.0 w.in_ok-semicolon-in-None.ensures.ok refl
          (subst (λ v. Makes (node ExportDefaultDeclaration [] plain c.args.start e.last.stop (part v none)) c.args.high result) w.exported-is (subst (λ x. Makes (node ExportDefaultDeclaration [] plain c.args.start x.cursor.last.stop (part c.match-default_declaration.exported none)) c.args.high result) w.self-is made_one)))
    ]

pub returns-clause-waits : goal.returns-clause-waits
returns-clause-waits c =
    let old = c.args.self.now.tree in
    let exported : c.match-default_declaration.self.tree ≡ push old c.match-default_declaration.exported = elim c.match-default_declaration.branch [
      | in-Some+in_ok-closure-in-Some+in_ok-exported-in-Some w ↦
          ap (λ x. x.tree) w.self-is ∙ w.in_ok-exported-in-Some.ensures.waits ∙ (λ i. push ((w.function_words.ensures.same_tree ∙ w.advance.ensures.same_tree) i) (sym w.exported-is i))
      | in-None+in_ok-part-in-None+in_ok-value-in-None+in_ok-semicolon-in-None w ↦
          ap (λ x. x.tree) w.self-is ∙ w.in_ok-part-in-None.ensures.waits ∙ ap (push old) (sym (w.exported-is ∙ w.in_ok-value-in-None.ensures.settled.0))
    ] in
    c.finish_plain.ensures.waits old (waits_one old exported c.one-nodes.ensures)
