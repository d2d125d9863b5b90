use Rattle.std.proofs.Common.{sym, ap, ◌∙◌, subst}
use Rattle.std.specs.Prelude.{codes}
use Rattle.std.proofs.lemmas.Bool.{OnTrue_at, OnFalse_at}
use Rattle.tokens.specs.Scanned.{token_of}
use Rattle.tokens.specs.declared.token.TokenClass.TheVariants.{IdentifierName}
use Rattle.tokens.specs.declared.token.Goal.TheVariants.{Div}
use Rattle.language.specs.Token.{Token}
use Rattle.token_cursor.specs.Seen.{ReadsHere, Misses}
use Rattle.token_cursor.proofs.TokensAhead.{seen, word_missed, word_none}
use Rattle.recursive_descent.proofs.reading.WaitingNodes.{waits_behind}
use Rattle.recursive_descent.proofs.sound_modules.ModuleItemKinds.{statement_item, begun_item, whole_item}
use Rattle.recursive_descent.proofs.complete_modules.ModuleItemGiven.{NoItem, no_item_words, no_item_called, statement_given, export_given, import_given}
use Rattle.recursive_descent.proofs.parser.Parser.module_item.Goals as goal
use Rattle.recursive_descent.proofs.parser.Parser.module_item.Goals.{else-is_name_token-2-via-else-is_name_token-2, else-is_name_token-2-via-then-is_name_token-2+else-not-begins_import_expression}

pub returns-in_default-clause-derived : goal.returns-in_default-clause-derived
returns-in_default-clause-derived c = statement_item c.args.self.now.cursor c.statement.new.self.cursor c.args.self.now.pairs.items c.statement.new.self.pairs.items c.args.context c.statement.result c.statement.ensures.derived

pub returns-in_default-clause-complete : goal.returns-in_default-clause-complete
returns-in_default-clause-complete c =
    let s = c.args.self.now.cursor in
    statement_given s c.statement.new.self.cursor c.args.self.now.pairs.items c.statement.new.self.pairs.items c.args.high c.args.context c.statement.result
    (no_item_words s.text s.last (word_none s.text (codes "export") s.last c.in_default.ensures.none) (word_none s.text (codes "import") s.last c.in_default.ensures.none)) c.statement.ensures.complete

pub returns-then-is_name_token-clause-derived : goal.returns-then-is_name_token-clause-derived
returns-then-is_name_token-clause-derived c =
    let s = c.args.self.now.cursor in
    let m = c.advance.new.self.cursor in
    let word : ReadsHere s.text IdentifierName (codes "export") s.last m.last = subst (λ x. ReadsHere s.text IdentifierName (codes "export") s.last x) (sym c.advance.ensures.last) (seen s.text Div IdentifierName (codes "export") s.last (token_of c.in-Some.token) c.in-Some.ensures.some (sym c.is_name_token.ensures.is ∙ c.if-is_name_token.true)) in
    begun_item s c.export_item.new.self.cursor c.args.self.now.pairs.items c.export_item.new.self.pairs.items c.args.context m c.advance.new.self.pairs.items (codes "export") c.in-Some.token.start c.advance.ensures.text c.advance.ensures.same_open c.advance.ensures.same_pairs word
    (ap (λ (x : Token). x.start) c.advance.ensures.last) c.export_item.result c.export_item.ensures.derived

pub returns-then-is_name_token-clause-complete : goal.returns-then-is_name_token-clause-complete
returns-then-is_name_token-clause-complete c =
    let s = c.args.self.now.cursor in
    let m = c.advance.new.self.cursor in
    let word : ReadsHere s.text IdentifierName (codes "export") s.last m.last = subst (λ x. ReadsHere s.text IdentifierName (codes "export") s.last x) (sym c.advance.ensures.last) (seen s.text Div IdentifierName (codes "export") s.last (token_of c.in-Some.token) c.in-Some.ensures.some (sym c.is_name_token.ensures.is ∙ c.if-is_name_token.true)) in
    export_given s c.export_item.new.self.cursor c.args.self.now.pairs.items c.export_item.new.self.pairs.items c.args.high c.args.context c.export_item.result m c.advance.new.self.pairs.items c.in-Some.token.start c.advance.ensures.text c.advance.ensures.same_open c.advance.ensures.same_pairs
    (ap (λ (x : Token). x.start) c.advance.ensures.last) word c.export_item.ensures.complete

pub returns-then-not-begins_import_expression-clause-derived : goal.returns-then-not-begins_import_expression-clause-derived
returns-then-not-begins_import_expression-clause-derived c =
    let s = c.args.self.now.cursor in
    let m = c.advance-then-not-begins_import_expression.new.self.cursor in
    let word : ReadsHere s.text IdentifierName (codes "import") s.last m.last = subst (λ x. ReadsHere s.text IdentifierName (codes "import") s.last x) (sym c.advance-then-not-begins_import_expression.ensures.last) (seen s.text Div IdentifierName (codes "import") s.last (token_of c.in-Some.token) c.in-Some.ensures.some (sym c.is_name_token-2.ensures.is ∙ c.if-is_name_token-2.true)) in
    whole_item s c.import_declaration.new.self.cursor c.args.self.now.pairs.items c.import_declaration.new.self.pairs.items c.args.context m c.advance-then-not-begins_import_expression.new.self.pairs.items (codes "import") c.in-Some.token.start c.advance-then-not-begins_import_expression.ensures.text c.advance-then-not-begins_import_expression.ensures.same_open c.advance-then-not-begins_import_expression.ensures.same_pairs word
    (ap (λ (x : Token). x.start) c.advance-then-not-begins_import_expression.ensures.last) c.import_declaration.result c.import_declaration.ensures.same_open c.import_declaration.ensures.same_pairs c.import_declaration.ensures.derived

pub returns-then-not-begins_import_expression-clause-complete : goal.returns-then-not-begins_import_expression-clause-complete
returns-then-not-begins_import_expression-clause-complete c =
    let s = c.args.self.now.cursor in
    let m = c.advance-then-not-begins_import_expression.new.self.cursor in
    let word : ReadsHere s.text IdentifierName (codes "import") s.last m.last = subst (λ x. ReadsHere s.text IdentifierName (codes "import") s.last x) (sym c.advance-then-not-begins_import_expression.ensures.last) (seen s.text Div IdentifierName (codes "import") s.last (token_of c.in-Some.token) c.in-Some.ensures.some (sym c.is_name_token-2.ensures.is ∙ c.if-is_name_token-2.true)) in
    import_given s c.import_declaration.new.self.cursor c.args.self.now.pairs.items c.import_declaration.new.self.pairs.items c.args.high c.args.context c.import_declaration.result m c.advance-then-not-begins_import_expression.new.self.pairs.items c.in-Some.token.start c.advance-then-not-begins_import_expression.ensures.text c.advance-then-not-begins_import_expression.ensures.same_open c.advance-then-not-begins_import_expression.ensures.same_pairs
    (ap (λ (x : Token). x.start) c.advance-then-not-begins_import_expression.ensures.last) (token_of c.in-Some.token) c.in-Some.ensures.some c.advance-then-not-begins_import_expression.ensures.reads (OnFalse_at c.if-not-begins_import_expression.true c.begins_import_expression.ensures.missed) word c.import_declaration.ensures.complete

pub returns-clause-derived : goal.returns-clause-derived
returns-clause-derived c = statement_item c.args.self.now.cursor c.statement-2.new.self.cursor c.args.self.now.pairs.items c.statement-2.new.self.pairs.items c.args.context c.statement-2.result c.statement-2.ensures.derived

pub returns-clause-complete : goal.returns-clause-complete
returns-clause-complete c =
    let s = c.args.self.now.cursor in
    let no_export : Misses s.text IdentifierName (codes "export") s.last = word_missed s.text (codes "export") s.last (token_of c.in-Some.token) c.in-Some.ensures.some (sym c.is_name_token.ensures.is ∙ c.if-is_name_token.false) in
    let none : NoItem s.text s.last = elim c.else-is_name_token-2.branch [
      | else-is_name_token-2-via-else-is_name_token-2 w ↦
          no_item_words s.text s.last no_export (word_missed s.text (codes "import") s.last (token_of c.in-Some.token) c.in-Some.ensures.some (sym c.is_name_token-2.ensures.is ∙ w.if-is_name_token-2.false))
      | else-is_name_token-2-via-then-is_name_token-2+else-not-begins_import_expression w ↦
          no_item_called s.text s.last (token_of c.in-Some.token) c.in-Some.ensures.some no_export (OnTrue_at w.if-not-begins_import_expression.false w.begins_import_expression.ensures.seen)
    ] in
    statement_given s c.statement-2.new.self.cursor c.args.self.now.pairs.items c.statement-2.new.self.pairs.items c.args.high c.args.context c.statement-2.result none c.statement-2.ensures.complete

pub returns-then-is_name_token-clause-waits : goal.returns-then-is_name_token-clause-waits
returns-then-is_name_token-clause-waits c = waits_behind _ (λ n. n) c.export_item.result c.advance.ensures.same_tree c.export_item.ensures.waits

pub returns-then-not-begins_import_expression-clause-waits : goal.returns-then-not-begins_import_expression-clause-waits
returns-then-not-begins_import_expression-clause-waits c = waits_behind _ (λ n. n) c.import_declaration.result c.advance-then-not-begins_import_expression.ensures.same_tree c.import_declaration.ensures.waits
