use Rattle.std.proofs.Common.{◌≡◌, true, false, suc, [], refl, sym, ap, ◌∙◌, subst}
use Rattle.tree.specs.declared.kind.Kind.TheVariants.{MemberExpression}
use Rattle.tree.specs.Tree.{node, part, none, push, parts_height}
use Rattle.tokens.specs.Scanned.{token_of}
use Rattle.language.specs.declared.Rank.TheVariants.{Call}
use Rattle.language.specs.declared.Edge.TheVariants.{Other}
use Rattle.language.specs.Vocabulary.{takes}
use Rattle.parser_tables.specs.Operands.{plain_part}
use Rattle.parser_tables.specs.Tokens.{key_node}
use Rattle.recursive_descent.proofs.reading.WaitingNodes.{waits_first, waits_push}
use Rattle.recursive_descent.specs.Subscripts.{link_kind, link_flags, link_rank}
use Rattle.recursive_descent.specs.declared.subscripts.Subscript.TheVariants.{Name}
use Rattle.recursive_descent.proofs.sound_subscripts.SubscriptNodes.{is_call}
use Rattle.recursive_descent.proofs.sound_subscripts.SubscriptReads.{name_read, call_is, call_is_not, links_read, link_own}
use Rattle.recursive_descent.proofs.complete_subscripts.SubscriptAgreement.{linked_answered, linked_high, link_once, name_high, word_refused}
use Rattle.recursive_descent.proofs.complete_expressions.Agreement.{not_missed}
use Rattle.parser_tables.specs.declared.operand.Operand.{Operand}
use Rattle.recursive_descent.specs.Spelled.{OfLanguage}
use Rattle.recursive_descent.proofs.reading.LanguageTrees.{of_part, of_none}
use Rattle.recursive_descent.proofs.reading.PassedTokens.{passes_further}
use Rattle.recursive_descent.proofs.parser.Parser.dot_member.Goals as goal
use Rattle.recursive_descent.proofs.parser.Parser.dot_member.Goals.{in-Call, in_default}

pub returns-in_err-expect_punctuator-clause-complete : goal.returns-in_err-expect_punctuator-clause-complete
returns-in_err-expect_punctuator-clause-complete c = absurd (not_missed c.in_err-expect_punctuator.ensures.missed.0 c.requires.dot.1)

pub returns-in_err-name-clause-complete : goal.returns-in_err-name-clause-complete
returns-in_err-name-clause-complete c = word_refused c.args.self.now.cursor c.expect_punctuator.new.self.cursor c.member_name.new.self.cursor c.args.self.now.pairs.items c.member_name.new.self.pairs.items c.args.high c.args.left Name false _ c.in_err-name.field-0.0 c.from_residual-in_err-name.ensures.1 c.expect_punctuator.ensures.text c.expect_punctuator.ensures.same_open c.in_ok-expect_punctuator.ensures.accepted.0 refl c.in_err-name.ensures.none

pub returns-in_err-node-clause-complete : goal.returns-in_err-node-clause-complete
returns-in_err-node-clause-complete c =
    let s = c.args.self.now.cursor in
    let m = c.expect_punctuator.new.self.cursor in
    let passed = c.in_ok-expect_punctuator.ensures.accepted.0 in
    let one : c.one-nodes.result ≡ part c.args.left.cover.node none = c.one-nodes.ensures ∙ ap (λ n. part n none) c.in_ok-into_expression.ensures.settled.0 in
    let nodes : c.push.new.self ≡ part c.args.left.cover.node (part (key_node (token_of c.in_ok-name.name)) none) = c.in_ok-push.ensures.pushed ∙ (λ i. push (one i) ((c.in_ok-token_node.ensures.made.0 ∙ c.member_kind.ensures c.in_ok-name.ensures.named) i)) in
    let read = name_read Name false (key_node (token_of c.in_ok-name.name)) c.expect_punctuator.ensures.text c.expect_punctuator.ensures.same_open c.expect_punctuator.ensures.same_pairs refl passed c.member_name.ensures.same_open c.member_name.ensures.same_pairs c.in_ok-name.ensures.derived c.in_ok-name.ensures.own in
    linked_high c.args.high _ c.args.left _ c.in_err-node.field-0.0 c.from_residual-in_err-node.ensures.1 (link_once s m c.expect_punctuator.ensures.text passed read) c.in_err-node.ensures.made.0 c.in_err-node.ensures.made.1 (ap (λ ps. suc (parts_height ps)) nodes)

pub returns-clause-complete : goal.returns-clause-complete
returns-clause-complete c =
    let s = c.args.self.now.cursor in
    let m = c.expect_punctuator.new.self.cursor in
    let passed = c.in_ok-expect_punctuator.ensures.accepted.0 in
    let one : c.one-nodes.result ≡ part c.args.left.cover.node none = c.one-nodes.ensures ∙ ap (λ n. part n none) c.in_ok-into_expression.ensures.settled.0 in
    let nodes : c.push.new.self ≡ part c.args.left.cover.node (part (key_node (token_of c.in_ok-name.name)) none) = c.in_ok-push.ensures.pushed ∙ (λ i. push (one i) ((c.in_ok-token_node.ensures.made.0 ∙ c.member_kind.ensures c.in_ok-name.ensures.named) i)) in
    let read = name_read Name false (key_node (token_of c.in_ok-name.name)) c.expect_punctuator.ensures.text c.expect_punctuator.ensures.same_open c.expect_punctuator.ensures.same_pairs refl passed c.member_name.ensures.same_open c.member_name.ensures.same_pairs c.in_ok-name.ensures.derived c.in_ok-name.ensures.own in
    let called : c.match-matches.matches ≡ is_call c.args.left.rank = elim c.match-matches.branch [ in-Call w ↦ w.matches-is ∙ call_is c.args.left.rank w.in-Call.is | in_default w ↦ w.matches-is ∙ call_is_not c.args.left.rank w.in_default.not-Call ] in
    let span = c.span_from-span.ensures in
    let tree : c.in_ok-node.node ≡ node (link_kind Name) [] (link_flags Name false) c.args.left.start c.member_name.new.self.cursor.last.stop c.push.new.self = c.in_ok-node.ensures.made.0 ∙ (λ i. node MemberExpression [] (c.flags-flags.ensures i) (span i).start (span i).end c.push.new.self) in
    let made : c.plain.result ≡ plain_part (node (link_kind Name) [] (link_flags Name false) c.args.left.start c.member_name.new.self.cursor.last.stop c.push.new.self) (link_rank Name c.match-matches.matches) Other = c.plain.ensures ∙ (λ i. plain_part (tree i) (c.rank.ensures i) Other) in
    linked_answered c.args.high c.args.left c.plain.result (link_once s m c.expect_punctuator.ensures.text passed read) called nodes made

pub returns-clause-derived : goal.returns-clause-derived
returns-clause-derived c =
    let passed = c.in_ok-expect_punctuator.ensures.accepted.0 in
    let one : c.one-nodes.result ≡ part c.args.left.cover.node none = c.one-nodes.ensures ∙ ap (λ n. part n none) c.in_ok-into_expression.ensures.settled.0 in
    let nodes : c.push.new.self ≡ part c.args.left.cover.node (part (key_node (token_of c.in_ok-name.name)) none) = c.in_ok-push.ensures.pushed ∙ (λ i. push (one i) ((c.in_ok-token_node.ensures.made.0 ∙ c.member_kind.ensures c.in_ok-name.ensures.named) i)) in
    let read = name_read Name false (key_node (token_of c.in_ok-name.name)) c.expect_punctuator.ensures.text c.expect_punctuator.ensures.same_open c.expect_punctuator.ensures.same_pairs refl passed c.member_name.ensures.same_open c.member_name.ensures.same_pairs c.in_ok-name.ensures.derived c.in_ok-name.ensures.own in
    let object : takes Call c.args.left.rank ≡ true = sym c.accepts_rank.ensures ∙ c.if-not-accepts_rank.false in
    let called : c.match-matches.matches ≡ is_call c.args.left.rank = elim c.match-matches.branch [ in-Call w ↦ w.matches-is ∙ call_is c.args.left.rank w.in-Call.is | in_default w ↦ w.matches-is ∙ call_is_not c.args.left.rank w.in_default.not-Call ] in
    let span = c.span_from-span.ensures in
    let tree : c.in_ok-node.node ≡ node (link_kind Name) [] (link_flags Name false) c.args.left.start c.member_name.new.self.cursor.last.stop c.push.new.self = c.in_ok-node.ensures.made.0 ∙ (λ i. node MemberExpression [] (c.flags-flags.ensures i) (span i).start (span i).end c.push.new.self) in
    let made : c.plain.result ≡ plain_part (node (link_kind Name) [] (link_flags Name false) c.args.left.start c.member_name.new.self.cursor.last.stop c.push.new.self) (link_rank Name c.match-matches.matches) Other = c.plain.ensures ∙ (λ i. plain_part (tree i) (c.rank.ensures i) Other) in
    links_read Name false c.match-matches.matches c.in_ok-into_expression.ensures.settled.1 object called nodes made read

pub returns-clause-passes : goal.returns-clause-passes
returns-clause-passes c = passes_further c.args.self.now.cursor c.expect_punctuator.new.self.cursor c.member_name.new.self.cursor c.in_ok-expect_punctuator.ensures.passes c.member_name.ensures.forward

pub returns-in_err-token_node-clause-complete : goal.returns-in_err-token_node-clause-complete
returns-in_err-token_node-clause-complete c = name_high c.args.self.now.cursor c.member_name.new.self.cursor c.args.self.now.pairs.items c.member_name.new.self.pairs.items c.args.high c.saturating_sub-inner.result c.args.left _ c.in_err-token_node.field-0.0 c.from_residual-in_err-token_node.ensures.1 c.saturating_sub-inner.ensures c.in_err-token_node.ensures.made.0 c.in_err-token_node.ensures.made.1

pub returns-clause-own : goal.returns-clause-own
returns-clause-own c object =
    let text = c.args.self.now.cursor.text in
    let one : c.one-nodes.result ≡ part c.args.left.cover.node none = c.one-nodes.ensures ∙ ap (λ n. part n none) c.in_ok-into_expression.ensures.settled.0 in
    let nodes : c.push.new.self ≡ part c.args.left.cover.node (part (key_node (token_of c.in_ok-name.name)) none) = c.in_ok-push.ensures.pushed ∙ (λ i. push (one i) ((c.in_ok-token_node.ensures.made.0 ∙ c.member_kind.ensures c.in_ok-name.ensures.named) i)) in
    let span = c.span_from-span.ensures in
    let tree : c.in_ok-node.node ≡ node (link_kind Name) [] (link_flags Name false) c.args.left.start c.member_name.new.self.cursor.last.stop c.push.new.self = c.in_ok-node.ensures.made.0 ∙ (λ i. node MemberExpression [] (c.flags-flags.ensures i) (span i).start (span i).end c.push.new.self) in
    subst (OfLanguage text) (sym (ap (λ (p : Operand). p.cover.node) c.plain.ensures ∙ tree)) (link_own Name false nodes (of_part (subst (λ x. OfLanguage x (key_node (token_of c.in_ok-name.name))) c.expect_punctuator.ensures.text c.in_ok-name.ensures.own) of_none) object)

pub returns-clause-waits : goal.returns-clause-waits
returns-clause-waits c = λ base h.
    let first = c.member_name.ensures.same_tree ∙ c.expect_punctuator.ensures.same_tree ∙ waits_first base h c.in_ok-into_expression.ensures.settled.0 c.one-nodes.ensures in
    let whole = waits_push base c.one-nodes.result c.in_ok-token_node.field-0 first c.in_ok-token_node.ensures.waits c.in_ok-push.ensures.pushed in
    c.in_ok-node.ensures.waits base whole ∙ ap (λ (p : Operand). push base p.cover.node) (sym c.plain.ensures)
