use Rattle.std.proofs.Common.{◌≡◌, [], Ok, Err, sym, ap, ◌∙◌, subst}
use Rattle.std.specs.Prelude.{codes}
use Rattle.std.proofs.lemmas.Bool.{OnTrue_at, OnFalse_at}
use Rattle.tokens.specs.declared.token.TokenClass.TheVariants.{IdentifierName}
use Rattle.tree.specs.Tree.{node, plain, none, join}
use Rattle.tree.specs.declared.kind.Kind.TheVariants.{ImportDeclaration}
use Rattle.language.specs.declared.Edge.TheVariants.{Closed}
use Rattle.language.specs.Token.{Token}
use Rattle.token_cursor.specs.Seen.{ReadsHere, Misses}
use Rattle.token_cursor.specs.StatementEnds.{EndsAt, IsEnd}
use Rattle.token_cursor.specs.declared.semicolon.StatementEnd.TheVariants.{AfterExpression}
use Rattle.productions.specs.Made.{Makes}
use Rattle.recursive_descent.proofs.reading.WaitingNodes.{waits_none, waits_push}
use Rattle.recursive_descent.specs.ModuleItems.{ClauseComplete, ReadWhole}
use Rattle.recursive_descent.proofs.sound_modules.ImportReads.{SourceBefore, at_first, behind_clause, import_read}
use Rattle.recursive_descent.proofs.sound_modules.ImportClauses.{ClauseDone}
use Rattle.recursive_descent.proofs.complete_modules.NamesGiven.{made_ok}
use Rattle.recursive_descent.proofs.complete_modules.ImportNodes.{OfImports, SourceLeft, EndLeft, string_first, clause_refused, from_missed, from_read, source_refused, source_read, end_missed, import_answered}
use Rattle.recursive_descent.proofs.parser.Parser.import_declaration.Goals as goal
use Rattle.recursive_descent.proofs.parser.Parser.import_declaration.Goals.{then-not-sees_string+in_ok-import_clause+in_ok-expect_word, else-not-sees_string}

pub returns-in_err-import_clause-clause-complete : goal.returns-in_err-import_clause-clause-complete
returns-in_err-import_clause-clause-complete c =
    let s = c.args.self.now.cursor in
    let e = c.import_clause.new.self.cursor in
    clause_refused s c.args.start (OnFalse_at c.if-not-sees_string.true c.sees_string.ensures.missed) e e c.args.self.now.pairs.items c.import_clause.new.self.pairs.items c.args.high c.saturating_sub-inner.result c.import_clause.new.nodes c.from_residual.result c.in_err-import_clause.field-0.0 c.saturating_sub-inner.ensures
    (subst (λ ps. ClauseComplete s e c.saturating_sub-inner.result ps c.import_clause.new.nodes (Err c.in_err-import_clause.field-0.0)) c.new-nodes.ensures c.in_err-import_clause.ensures.complete) c.from_residual.ensures.1

pub returns-in_err-expect_word-clause-complete : goal.returns-in_err-expect_word-clause-complete
returns-in_err-expect_word-clause-complete c =
    let s = c.args.self.now.cursor in
    let e = c.import_clause.new.self.cursor in
    let complete : ClauseComplete s e c.saturating_sub-inner.result none c.import_clause.new.nodes (Ok tt) = subst (λ ps. ClauseComplete s e c.saturating_sub-inner.result ps c.import_clause.new.nodes (Ok tt)) c.new-nodes.ensures c.in_ok-import_clause.ensures.complete in
    from_missed s c.args.start (OnFalse_at c.if-not-sees_string.true c.sees_string.ensures.missed) e c.saturating_sub-inner.result c.import_clause.new.nodes complete c.expect_word.new.self.cursor c.args.self.now.pairs.items c.expect_word.new.self.pairs.items c.args.high c.from_residual-in_err-expect_word.result
    (subst (λ x. Misses x IdentifierName (codes "from") e.last) c.import_clause.ensures.text c.in_err-expect_word.ensures.missed.0)

pub returns-in_err-module_source-clause-complete : goal.returns-in_err-module_source-clause-complete
returns-in_err-module_source-clause-complete c =
    let s = c.args.self.now.cursor in
    let m = c.if-not-sees_string.self.cursor in
    let nodes = c.if-not-sees_string.nodes in
    let text : m.text ≡ s.text = elim c.if-not-sees_string.branch [
      | then-not-sees_string+in_ok-import_clause+in_ok-expect_word w ↦ ap (λ x. x.cursor.text) w.self-is ∙ w.expect_word.ensures.text ∙ w.import_clause.ensures.text
      | else-not-sees_string w ↦ ap (λ x. x.cursor.text) w.self-is
    ] in
    let left : OfImports s c.args.start (λ n to P. SourceLeft s.text n c.args.start nodes m.last to P) = elim c.if-not-sees_string.branch [
      | then-not-sees_string+in_ok-import_clause+in_ok-expect_word w ↦
          let e = w.import_clause.new.self.cursor in
          let k = w.expect_word.new.self.cursor.last in
          let word : ReadsHere s.text IdentifierName (codes "from") e.last k = subst (λ x. ReadsHere x IdentifierName (codes "from") e.last k) w.import_clause.ensures.text w.in_ok-expect_word.ensures.accepted.0 in
          let complete : ClauseComplete s e c.saturating_sub-inner.result none nodes (Ok tt) = subst (λ ps. ClauseComplete s e c.saturating_sub-inner.result none ps (Ok tt)) (sym w.nodes-is) (subst (λ ps. ClauseComplete s e c.saturating_sub-inner.result ps w.import_clause.new.nodes (Ok tt)) c.new-nodes.ensures w.in_ok-import_clause.ensures.complete) in
          subst (λ v. OfImports s c.args.start (λ n to P. SourceLeft s.text n c.args.start nodes v to P)) (sym (ap (λ x. x.cursor.last) w.self-is))
          (from_read s c.args.start (OnFalse_at w.if-not-sees_string.true c.sees_string.ensures.missed) e c.saturating_sub-inner.result nodes complete k word)
      | else-not-sees_string w ↦
          subst (λ v. OfImports s c.args.start (λ n to P. SourceLeft s.text n c.args.start nodes v to P)) (sym (ap (λ x. x.cursor.last) w.self-is))
          (subst (λ ps. OfImports s c.args.start (λ n to P. SourceLeft s.text n c.args.start ps s.last to P)) (sym (w.nodes-is ∙ c.new-nodes.ensures)) (string_first s c.args.start (OnTrue_at w.if-not-sees_string.false c.sees_string.ensures.seen)))
    ] in
    let e = c.module_source.new.self.cursor in
    source_refused s c.args.start m e nodes text left e c.args.self.now.pairs.items c.module_source.new.self.pairs.items c.args.high c.saturating_sub-inner.result c.from_residual-in_err-module_source.result c.in_err-module_source.field-0.0 c.saturating_sub-inner.ensures c.in_err-module_source.ensures.complete c.from_residual-in_err-module_source.ensures.1

pub returns-in_err-semicolon-clause-complete : goal.returns-in_err-semicolon-clause-complete
returns-in_err-semicolon-clause-complete c =
    let s = c.args.self.now.cursor in
    let m = c.if-not-sees_string.self.cursor in
    let nodes = c.if-not-sees_string.nodes in
    let text : m.text ≡ s.text = elim c.if-not-sees_string.branch [
      | then-not-sees_string+in_ok-import_clause+in_ok-expect_word w ↦ ap (λ x. x.cursor.text) w.self-is ∙ w.expect_word.ensures.text ∙ w.import_clause.ensures.text
      | else-not-sees_string w ↦ ap (λ x. x.cursor.text) w.self-is
    ] in
    let left : OfImports s c.args.start (λ n to P. SourceLeft s.text n c.args.start nodes m.last to P) = elim c.if-not-sees_string.branch [
      | then-not-sees_string+in_ok-import_clause+in_ok-expect_word w ↦
          let e = w.import_clause.new.self.cursor in
          let k = w.expect_word.new.self.cursor.last in
          let word : ReadsHere s.text IdentifierName (codes "from") e.last k = subst (λ x. ReadsHere x IdentifierName (codes "from") e.last k) w.import_clause.ensures.text w.in_ok-expect_word.ensures.accepted.0 in
          let complete : ClauseComplete s e c.saturating_sub-inner.result none nodes (Ok tt) = subst (λ ps. ClauseComplete s e c.saturating_sub-inner.result none ps (Ok tt)) (sym w.nodes-is) (subst (λ ps. ClauseComplete s e c.saturating_sub-inner.result ps w.import_clause.new.nodes (Ok tt)) c.new-nodes.ensures w.in_ok-import_clause.ensures.complete) in
          subst (λ v. OfImports s c.args.start (λ n to P. SourceLeft s.text n c.args.start nodes v to P)) (sym (ap (λ x. x.cursor.last) w.self-is))
          (from_read s c.args.start (OnFalse_at w.if-not-sees_string.true c.sees_string.ensures.missed) e c.saturating_sub-inner.result nodes complete k word)
      | else-not-sees_string w ↦
          subst (λ v. OfImports s c.args.start (λ n to P. SourceLeft s.text n c.args.start nodes v to P)) (sym (ap (λ x. x.cursor.last) w.self-is))
          (subst (λ ps. OfImports s c.args.start (λ n to P. SourceLeft s.text n c.args.start ps s.last to P)) (sym (w.nodes-is ∙ c.new-nodes.ensures)) (string_first s c.args.start (OnTrue_at w.if-not-sees_string.false c.sees_string.ensures.seen)))
    ] in
    let e = c.module_source.new.self.cursor in
    let z = c.semicolon.new.self in
    let further : OfImports s c.args.start (λ n to P. EndLeft s.text n c.args.start c.push.new.self e.last to P) =
    source_read s c.args.start m e nodes text left c.saturating_sub-inner.result c.in_ok-module_source.field-0 c.push.new.self c.in_ok-module_source.ensures.complete c.in_ok-push.ensures.pushed in
    let same : e.text ≡ s.text = c.module_source.ensures.text ∙ text in
    end_missed s c.args.start e z c.args.self.now.pairs.items c.module_source.new.self.pairs.items c.args.high c.push.new.self further c.from_residual-in_err-semicolon.result (subst (λ x. (k : Token) → EndsAt x (AfterExpression Closed) e.last k → ⊥) same c.in_err-semicolon.ensures.err.1)

made : (c : goal.After-finish_plain) → Makes (node ImportDeclaration [] plain c.args.start c.semicolon.new.self.last.stop c.push.new.self) c.args.high c.finish_plain.result
made c = subst (λ span. Makes (node ImportDeclaration [] plain span.start span.end c.push.new.self) c.args.high c.finish_plain.result) c.span_from-span.ensures c.finish_plain.ensures.made

pub returns-clause-derived : goal.returns-clause-derived
returns-clause-derived c =
    let s = c.args.self.now.cursor in
    let m = c.if-not-sees_string.self.cursor in
    let nodes = c.if-not-sees_string.nodes in
    let text : m.text ≡ s.text = elim c.if-not-sees_string.branch [
      | then-not-sees_string+in_ok-import_clause+in_ok-expect_word w ↦ ap (λ x. x.cursor.text) w.self-is ∙ w.expect_word.ensures.text ∙ w.import_clause.ensures.text
      | else-not-sees_string w ↦ ap (λ x. x.cursor.text) w.self-is
    ] in
    let e = c.module_source.new.self.cursor in
    let z = c.semicolon.new.self in
    let same : e.text ≡ s.text = c.module_source.ensures.text ∙ text in
    let end : IsEnd s.text (AfterExpression Closed) e.last z.last = subst (λ x. IsEnd x (AfterExpression Closed) e.last z.last) same c.in_ok-semicolon.ensures.ok in
    let was : SourceBefore s nodes m.last = elim c.if-not-sees_string.branch [
      | then-not-sees_string+in_ok-import_clause+in_ok-expect_word w ↦
          let e = w.import_clause.new.self.cursor in
          let k = w.expect_word.new.self.cursor.last in
          let word : ReadsHere s.text IdentifierName (codes "from") e.last k = subst (λ x. ReadsHere x IdentifierName (codes "from") e.last k) w.import_clause.ensures.text w.in_ok-expect_word.ensures.accepted.0 in
          let clause : ClauseDone s e none nodes = subst (λ ps. ClauseDone s e none ps) (sym w.nodes-is) (subst (λ ps. ClauseDone s e ps w.import_clause.new.nodes) c.new-nodes.ensures w.in_ok-import_clause.ensures.derived) in
          subst (λ v. SourceBefore s nodes v) (sym (ap (λ x. x.cursor.last) w.self-is)) (behind_clause e clause word)
      | else-not-sees_string w ↦ at_first (w.nodes-is ∙ c.new-nodes.ensures) (ap (λ x. x.cursor.last) w.self-is)
    ] in
    made_ok (node ImportDeclaration [] plain c.args.start z.last.stop c.push.new.self) c.args.high c.finish_plain.result (ReadWhole s z (codes "import") c.args.start) (made c)
    (import_read s m e z c.args.start nodes c.push.new.self c.in_ok-module_source.field-0 was text c.in_ok-module_source.ensures.derived end.ends c.in_ok-push.ensures.pushed)

pub returns-clause-complete : goal.returns-clause-complete
returns-clause-complete c =
    let s = c.args.self.now.cursor in
    let m = c.if-not-sees_string.self.cursor in
    let nodes = c.if-not-sees_string.nodes in
    let text : m.text ≡ s.text = elim c.if-not-sees_string.branch [
      | then-not-sees_string+in_ok-import_clause+in_ok-expect_word w ↦ ap (λ x. x.cursor.text) w.self-is ∙ w.expect_word.ensures.text ∙ w.import_clause.ensures.text
      | else-not-sees_string w ↦ ap (λ x. x.cursor.text) w.self-is
    ] in
    let pairs : c.if-not-sees_string.self.pairs.items ≡ c.args.self.now.pairs.items = elim c.if-not-sees_string.branch [
      | then-not-sees_string+in_ok-import_clause+in_ok-expect_word w ↦ ap (λ x. x.pairs.items) w.self-is ∙ w.expect_word.ensures.same_pairs ∙ w.import_clause.ensures.same_pairs
      | else-not-sees_string w ↦ ap (λ x. x.pairs.items) w.self-is
    ] in
    let left : OfImports s c.args.start (λ n to P. SourceLeft s.text n c.args.start nodes m.last to P) = elim c.if-not-sees_string.branch [
      | then-not-sees_string+in_ok-import_clause+in_ok-expect_word w ↦
          let e = w.import_clause.new.self.cursor in
          let k = w.expect_word.new.self.cursor.last in
          let word : ReadsHere s.text IdentifierName (codes "from") e.last k = subst (λ x. ReadsHere x IdentifierName (codes "from") e.last k) w.import_clause.ensures.text w.in_ok-expect_word.ensures.accepted.0 in
          let complete : ClauseComplete s e c.saturating_sub-inner.result none nodes (Ok tt) = subst (λ ps. ClauseComplete s e c.saturating_sub-inner.result none ps (Ok tt)) (sym w.nodes-is) (subst (λ ps. ClauseComplete s e c.saturating_sub-inner.result ps w.import_clause.new.nodes (Ok tt)) c.new-nodes.ensures w.in_ok-import_clause.ensures.complete) in
          subst (λ v. OfImports s c.args.start (λ n to P. SourceLeft s.text n c.args.start nodes v to P)) (sym (ap (λ x. x.cursor.last) w.self-is))
          (from_read s c.args.start (OnFalse_at w.if-not-sees_string.true c.sees_string.ensures.missed) e c.saturating_sub-inner.result nodes complete k word)
      | else-not-sees_string w ↦
          subst (λ v. OfImports s c.args.start (λ n to P. SourceLeft s.text n c.args.start nodes v to P)) (sym (ap (λ x. x.cursor.last) w.self-is))
          (subst (λ ps. OfImports s c.args.start (λ n to P. SourceLeft s.text n c.args.start ps s.last to P)) (sym (w.nodes-is ∙ c.new-nodes.ensures)) (string_first s c.args.start (OnTrue_at w.if-not-sees_string.false c.sees_string.ensures.seen)))
    ] in
    let e = c.module_source.new.self.cursor in
    let z = c.semicolon.new.self in
    let further : OfImports s c.args.start (λ n to P. EndLeft s.text n c.args.start c.push.new.self e.last to P) =
    source_read s c.args.start m e nodes text left c.saturating_sub-inner.result c.in_ok-module_source.field-0 c.push.new.self c.in_ok-module_source.ensures.complete c.in_ok-push.ensures.pushed in
    let same : e.text ≡ s.text = c.module_source.ensures.text ∙ text in
    let end : IsEnd s.text (AfterExpression Closed) e.last z.last = subst (λ x. IsEnd x (AfterExpression Closed) e.last z.last) same c.in_ok-semicolon.ensures.ok in
    import_answered s c.args.start e z c.args.self.now.pairs.items c.module_source.new.self.pairs.items c.args.high c.push.new.self further c.finish_plain.result end (c.module_source.ensures.same_pairs ∙ pairs) (made c)

pub returns-clause-waits : goal.returns-clause-waits
returns-clause-waits c =
    let old = c.args.self.now.tree in
    let none = waits_none c.new-nodes.ensures in
    let first : c.if-not-sees_string.self.tree ≡ join old c.if-not-sees_string.nodes = elim c.if-not-sees_string.branch [
      | then-not-sees_string+in_ok-import_clause+in_ok-expect_word w ↦ ap (λ x. x.tree) w.self-is ∙ w.expect_word.ensures.same_tree ∙ w.in_ok-import_clause.ensures.waits old none ∙ ap (join old) (sym w.nodes-is)
      | else-not-sees_string w ↦ ap (λ x. x.tree) w.self-is ∙ none ∙ ap (join old) (sym w.nodes-is)
    ] in
    c.finish_plain.ensures.waits old (waits_push old c.if-not-sees_string.nodes c.in_ok-module_source.field-0 first c.in_ok-module_source.ensures.waits c.in_ok-push.ensures.pushed)
