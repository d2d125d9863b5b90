use Rattle.std.proofs.Common.{◌≡◌, true, Err, sym, ap, ◌∙◌, subst}
use Rattle.std.specs.Prelude.{[], codes, ◌&&◌}
use Rattle.std.proofs.lemmas.Bool.{OnTrue_at, OnFalse_at, false≢true}
use Rattle.tokens.specs.Scanned.{token_of}
use Rattle.tokens.specs.declared.token.TokenClass.TheVariants.{IdentifierName}
use Rattle.tree.specs.Tree.{node, plain, part, none, push}
use Rattle.tree.specs.declared.kind.Kind.TheVariants.{ImportSpecifier}
use Rattle.tree.specs.declared.kind.Form.TheVariants.{Shorthand}
use Rattle.language.specs.Token.{same_class}
use Rattle.language.proofs.table.Beginnings.{form_flags}
use Rattle.token_cursor.specs.Seen.{ReadsHere, Misses, is_free_name}
use Rattle.productions.specs.Made.{Makes}
use Rattle.recursive_descent.proofs.reading.WaitingNodes.{waits_one, waits_push}
use Rattle.recursive_descent.proofs.sound_modules.SpecifierReads.{alone_derived, renamed_derived}
use Rattle.recursive_descent.proofs.complete_modules.SpecifiersGiven.{specifier_unread, specifier_high, specifier_unbound, alone_answered, second_refused, renamed_answered}
use Rattle.recursive_descent.proofs.parser.Parser.specifier.Goals as goal
use Rattle.recursive_descent.proofs.parser.Parser.specifier.Goals.{in-ImportSpecifier, in_default, else-matches-via-then-matches+else-not-is_identifier, else-matches-via-else-matches}

pub returns-in_err-token-clause-complete : goal.returns-in_err-token-clause-complete
returns-in_err-token-clause-complete c = specifier_unread c.args.self.now.cursor c.module_name_token.new.self.cursor c.args.high c.args.kind _ c.in_err-token.ensures.missed

pub returns-in_err-name-clause-complete : goal.returns-in_err-name-clause-complete
returns-in_err-name-clause-complete c =
    specifier_high c.args.self.now.cursor c.module_name_token.new.self.cursor c.args.high c.args.kind c.from_residual-in_err-name.result (token_of c.in_ok-token.token) c.module_name_token.new.self.cursor.last c.in_ok-token.ensures.accepted.0 c.in_ok-token.ensures.accepted.1
    c.saturating_sub-inner.result c.in_err-name.field-0.0 c.saturating_sub-inner.ensures c.in_err-name.ensures.made c.from_residual-in_err-name.ensures.1

pub returns-in_err-second_name-clause-complete : goal.returns-in_err-second_name-clause-complete
returns-in_err-second_name-clause-complete c =
    let s = c.args.self.now.cursor in
    let k = c.module_name_token.new.self.cursor.last in
    let b = c.accept_word.new.self.cursor in
    let word : ReadsHere s.text IdentifierName (codes "as") k b.last = subst (λ x. ReadsHere x IdentifierName (codes "as") k b.last) c.module_name_token.ensures.text (OnTrue_at c.if-accept_word.true c.accept_word.ensures.accepted) in
    second_refused s c.second_name.new.self.cursor c.args.high c.args.kind c.from_residual-in_err-second_name.result (token_of c.in_ok-token.token) k c.in_ok-token.ensures.accepted.0 c.in_ok-token.ensures.accepted.1
    b word (c.accept_word.ensures.text ∙ c.module_name_token.ensures.text) c.saturating_sub-inner.result c.saturating_sub-inner.ensures c.in_err-second_name.field-0.0 c.in_err-second_name.ensures.complete c.from_residual-in_err-second_name.ensures.1

both : (c : goal.After-finish_plain) → Makes (node c.args.kind [] plain c.in_ok-token.token.start c.second_name.new.self.cursor.last.stop (part c.in_ok-name.name (part c.in_ok-second_name.field-0 none))) c.args.high c.finish_plain.result
both c =
    let one : c.one-nodes.result ≡ part c.in_ok-name.name none = c.one-nodes.ensures in
    let nodes : c.push.new.self ≡ part c.in_ok-name.name (part c.in_ok-second_name.field-0 none) = c.in_ok-push.ensures.pushed ∙ ap (λ ps. push ps c.in_ok-second_name.field-0) one in
    subst (λ ps. Makes (node c.args.kind [] plain c.in_ok-token.token.start c.second_name.new.self.cursor.last.stop ps) c.args.high c.finish_plain.result) nodes
    (subst (λ span. Makes (node c.args.kind [] plain span.start span.end c.push.new.self) c.args.high c.finish_plain.result) c.span_from-span.ensures c.finish_plain.ensures.made)

pub returns-then-accept_word-clause-derived : goal.returns-then-accept_word-clause-derived
returns-then-accept_word-clause-derived c =
    let s = c.args.self.now.cursor in
    let k = c.module_name_token.new.self.cursor.last in
    let b = c.accept_word.new.self.cursor in
    let word : ReadsHere s.text IdentifierName (codes "as") k b.last = subst (λ x. ReadsHere x IdentifierName (codes "as") k b.last) c.module_name_token.ensures.text (OnTrue_at c.if-accept_word.true c.accept_word.ensures.accepted) in
    renamed_derived s c.second_name.new.self.cursor c.args.high c.args.kind c.finish_plain.result (token_of c.in_ok-token.token) k c.in_ok-token.ensures.accepted.0 c.in_ok-token.ensures.accepted.1
    c.in_ok-name.name c.in_ok-second_name.field-0 b c.in_ok-name.ensures.made.0 word (c.accept_word.ensures.text ∙ c.module_name_token.ensures.text) c.in_ok-second_name.ensures.derived (both c)

pub returns-then-accept_word-clause-complete : goal.returns-then-accept_word-clause-complete
returns-then-accept_word-clause-complete c =
    let s = c.args.self.now.cursor in
    let k = c.module_name_token.new.self.cursor.last in
    let b = c.accept_word.new.self.cursor in
    let word : ReadsHere s.text IdentifierName (codes "as") k b.last = subst (λ x. ReadsHere x IdentifierName (codes "as") k b.last) c.module_name_token.ensures.text (OnTrue_at c.if-accept_word.true c.accept_word.ensures.accepted) in
    renamed_answered s c.second_name.new.self.cursor c.args.high c.args.kind c.finish_plain.result (token_of c.in_ok-token.token) k c.in_ok-token.ensures.accepted.0 c.in_ok-token.ensures.accepted.1
    b word (c.accept_word.ensures.text ∙ c.module_name_token.ensures.text) c.saturating_sub-inner.result c.saturating_sub-inner.ensures c.in_ok-name.name c.in_ok-second_name.field-0 c.in_ok-name.ensures.made.0 c.in_ok-second_name.ensures.complete (both c)

pub returns-then-not-is_identifier-clause-complete : goal.returns-then-not-is_identifier-clause-complete
returns-then-not-is_identifier-clause-complete c =
    let s = c.args.self.now.cursor in
    let k = c.module_name_token.new.self.cursor.last in
    let missed : Misses s.text IdentifierName (codes "as") k = subst (λ x. Misses x IdentifierName (codes "as") k) c.module_name_token.ensures.text (OnFalse_at c.if-accept_word.false c.accept_word.ensures.missed).0 in
    let import : c.args.kind ≡ ImportSpecifier = elim c.match-matches.branch [ in-ImportSpecifier w ↦ w.in-ImportSpecifier.is | in_default w ↦ absurd (false≢true (sym w.matches-is ∙ c.if-matches.true)) ] in
    specifier_unbound s c.accept_word.new.self.cursor c.args.high c.args.kind (Err c.syntax_error.result) (token_of c.in_ok-token.token) k c.in_ok-token.ensures.accepted.0 c.in_ok-token.ensures.accepted.1 missed import (sym c.is_identifier.ensures.is ∙ c.if-not-is_identifier.true)

alone : (c : goal.After-finish_node) → Makes (node c.args.kind [] (form_flags Shorthand) c.in_ok-token.token.start c.accept_word.new.self.cursor.last.stop (part c.in_ok-name.name none)) c.args.high c.finish_node.result
alone c =
    let nodes : c.one-nodes.result ≡ part c.in_ok-name.name none = c.one-nodes.ensures in
    subst (λ ps. Makes (node c.args.kind [] (form_flags Shorthand) c.in_ok-token.token.start c.accept_word.new.self.cursor.last.stop ps) c.args.high c.finish_node.result) nodes
    (subst (λ span. Makes (node c.args.kind [] (form_flags Shorthand) span.start span.end c.one-nodes.result) c.args.high c.finish_node.result) c.span_from-span-2.ensures c.finish_node.ensures.made)

pub returns-clause-derived : goal.returns-clause-derived
returns-clause-derived c =
    let s = c.args.self.now.cursor in
    let k = c.module_name_token.new.self.cursor.last in
    let t = token_of c.in_ok-token.token in
    let place : k ≡ c.accept_word.new.self.cursor.last = sym (OnFalse_at c.if-accept_word.false c.accept_word.ensures.missed).1 in
    let free : c.args.kind ≡ ImportSpecifier → (same_class IdentifierName t.class && is_free_name t.text) ≡ true = λ import.
    elim c.else-matches.branch [
      | else-matches-via-then-matches+else-not-is_identifier w ↦ sym w.is_identifier.ensures.is ∙ w.if-not-is_identifier.false
      | else-matches-via-else-matches w ↦ elim c.match-matches.branch [ in-ImportSpecifier v ↦ absurd (false≢true (sym w.if-matches.false ∙ v.matches-is)) | in_default v ↦ absurd (v.in_default.not-ImportSpecifier import) ]
    ] in
    alone_derived s c.accept_word.new.self.cursor c.args.high c.args.kind c.finish_node.result t k c.in_ok-token.ensures.accepted.0 c.in_ok-token.ensures.accepted.1 c.in_ok-name.name free c.in_ok-name.ensures.made.0 place (alone c)

pub returns-clause-complete : goal.returns-clause-complete
returns-clause-complete c =
    let s = c.args.self.now.cursor in
    let k = c.module_name_token.new.self.cursor.last in
    let missed : Misses s.text IdentifierName (codes "as") k = subst (λ x. Misses x IdentifierName (codes "as") k) c.module_name_token.ensures.text (OnFalse_at c.if-accept_word.false c.accept_word.ensures.missed).0 in
    let place : k ≡ c.accept_word.new.self.cursor.last = sym (OnFalse_at c.if-accept_word.false c.accept_word.ensures.missed).1 in
    alone_answered s c.accept_word.new.self.cursor c.args.high c.args.kind c.finish_node.result (token_of c.in_ok-token.token) k c.in_ok-token.ensures.accepted.0 c.in_ok-token.ensures.accepted.1 missed c.in_ok-name.name c.in_ok-name.ensures.made.0 place (alone c)

pub returns-then-accept_word-clause-waits : goal.returns-then-accept_word-clause-waits
returns-then-accept_word-clause-waits c =
    let old = c.args.self.now.tree in
    let first = c.accept_word.ensures.same_tree ∙ waits_one old (c.in_ok-name.ensures.waits ∙ ap (λ ps. push ps c.in_ok-name.name) c.module_name_token.ensures.same_tree) c.one-nodes.ensures in
    c.finish_plain.ensures.waits old (waits_push old c.one-nodes.result c.in_ok-second_name.field-0 first c.in_ok-second_name.ensures.waits c.in_ok-push.ensures.pushed)

pub returns-clause-waits : goal.returns-clause-waits
returns-clause-waits c =
    let old = c.args.self.now.tree in
    c.finish_node.ensures.waits old (c.accept_word.ensures.same_tree ∙ waits_one old (c.in_ok-name.ensures.waits ∙ ap (λ ps. push ps c.in_ok-name.name) c.module_name_token.ensures.same_tree) c.one-nodes.ensures)
