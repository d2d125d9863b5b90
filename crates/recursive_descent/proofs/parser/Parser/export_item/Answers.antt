use Rattle.std.proofs.Common.{◌≡◌, sym, ◌∙◌, subst}
use Rattle.std.specs.Prelude.{codes}
use Rattle.std.proofs.lemmas.Bool.{OnTrue_at, OnFalse_at}
use Rattle.tokens.specs.declared.token.TokenClass.TheVariants.{IdentifierName, Punctuator}
use Rattle.token_cursor.specs.Seen.{ReadsHere, Misses}
use Rattle.recursive_descent.proofs.reading.WaitingNodes.{waits_behind}
use Rattle.recursive_descent.proofs.sound_modules.ExportStarts.{behind_whole, behind_added, stayed_whole, stayed_added, all_complete, default_complete, stayed_list, stayed_complete, ok_each}
use Rattle.recursive_descent.proofs.parser.Parser.export_item.Goals as goal

pub returns-then-accept_punctuator-clause-derived : goal.returns-then-accept_punctuator-clause-derived
returns-then-accept_punctuator-clause-derived c =
    let s = c.args.self.now.cursor in
    let x = c.accept_punctuator.new.self.cursor in
    let e = c.export_all.new.self.cursor in
    ok_each c.export_all.result c.export_all.ensures.derived (λ n u. behind_whole s x e c.args.self.now.pairs.items c.accept_punctuator.new.self.pairs.items c.export_all.new.self.pairs.items c.args.start c.accept_punctuator.ensures.text c.accept_punctuator.ensures.same_open c.accept_punctuator.ensures.same_pairs Punctuator (codes "*") n
    (OnTrue_at c.if-accept_punctuator.true c.accept_punctuator.ensures.accepted) c.export_all.ensures.same_open c.export_all.ensures.same_pairs u)

pub returns-then-accept_punctuator-clause-complete : goal.returns-then-accept_punctuator-clause-complete
returns-then-accept_punctuator-clause-complete c =
    let s = c.args.self.now.cursor in
    let x = c.accept_punctuator.new.self.cursor in
    let e = c.export_all.new.self.cursor in
    all_complete s x e c.args.self.now.pairs.items c.accept_punctuator.new.self.pairs.items c.export_all.new.self.pairs.items c.args.start c.accept_punctuator.ensures.text c.accept_punctuator.ensures.same_open c.accept_punctuator.ensures.same_pairs c.args.high c.export_all.result (OnTrue_at c.if-accept_punctuator.true c.accept_punctuator.ensures.accepted) c.export_all.ensures.complete

pub returns-then-sees_punctuator-clause-derived : goal.returns-then-sees_punctuator-clause-derived
returns-then-sees_punctuator-clause-derived c =
    let s = c.args.self.now.cursor in
    let x = c.accept_punctuator.new.self.cursor in
    let e = c.export_list.new.self.cursor in
    let missed = OnFalse_at c.if-accept_punctuator.false c.accept_punctuator.ensures.missed in
    ok_each c.export_list.result c.export_list.ensures.derived (λ n u. stayed_whole s x e c.args.self.now.pairs.items c.accept_punctuator.new.self.pairs.items c.export_list.new.self.pairs.items c.args.start c.accept_punctuator.ensures.text c.accept_punctuator.ensures.same_open c.accept_punctuator.ensures.same_pairs missed.1 n
    c.export_list.ensures.same_open c.export_list.ensures.same_pairs u)

pub returns-then-sees_punctuator-clause-complete : goal.returns-then-sees_punctuator-clause-complete
returns-then-sees_punctuator-clause-complete c =
    let s = c.args.self.now.cursor in
    let x = c.accept_punctuator.new.self.cursor in
    let e = c.export_list.new.self.cursor in
    let missed = OnFalse_at c.if-accept_punctuator.false c.accept_punctuator.ensures.missed in
    stayed_list s x e c.args.self.now.pairs.items c.accept_punctuator.new.self.pairs.items c.export_list.new.self.pairs.items c.args.start c.accept_punctuator.ensures.text c.accept_punctuator.ensures.same_open c.accept_punctuator.ensures.same_pairs missed.1 c.args.high c.export_list.result
    (c.export_list.ensures.complete (OnTrue_at c.if-sees_punctuator.true c.sees_punctuator.ensures.seen))

pub returns-then-accept_word-clause-derived : goal.returns-then-accept_word-clause-derived
returns-then-accept_word-clause-derived c =
    let s = c.args.self.now.cursor in
    let a = c.accept_punctuator.new.self.cursor in
    let x = c.accept_word.new.self.cursor in
    let e = c.export_default.new.self.cursor in
    let missed = OnFalse_at c.if-accept_punctuator.false c.accept_punctuator.ensures.missed in
    let passed : ReadsHere s.text IdentifierName (codes "default") s.last x.last = subst (λ v. ReadsHere v IdentifierName (codes "default") s.last x.last) c.accept_punctuator.ensures.text (subst (λ v. ReadsHere a.text IdentifierName (codes "default") v x.last) missed.1 (OnTrue_at c.if-accept_word.true c.accept_word.ensures.accepted)) in
    ok_each c.export_default.result c.export_default.ensures.derived (λ n u. behind_added s x e c.args.self.now.pairs.items c.accept_word.new.self.pairs.items c.export_default.new.self.pairs.items c.args.start (c.accept_word.ensures.text ∙ c.accept_punctuator.ensures.text) (c.accept_word.ensures.same_open ∙ c.accept_punctuator.ensures.same_open) (c.accept_word.ensures.same_pairs ∙ c.accept_punctuator.ensures.same_pairs) IdentifierName (codes "default") n passed u)

pub returns-then-accept_word-clause-complete : goal.returns-then-accept_word-clause-complete
returns-then-accept_word-clause-complete c =
    let s = c.args.self.now.cursor in
    let a = c.accept_punctuator.new.self.cursor in
    let x = c.accept_word.new.self.cursor in
    let e = c.export_default.new.self.cursor in
    let missed = OnFalse_at c.if-accept_punctuator.false c.accept_punctuator.ensures.missed in
    let passed : ReadsHere s.text IdentifierName (codes "default") s.last x.last = subst (λ v. ReadsHere v IdentifierName (codes "default") s.last x.last) c.accept_punctuator.ensures.text (subst (λ v. ReadsHere a.text IdentifierName (codes "default") v x.last) missed.1 (OnTrue_at c.if-accept_word.true c.accept_word.ensures.accepted)) in
    default_complete s x e c.args.self.now.pairs.items c.accept_word.new.self.pairs.items c.export_default.new.self.pairs.items c.args.start (c.accept_word.ensures.text ∙ c.accept_punctuator.ensures.text) (c.accept_word.ensures.same_open ∙ c.accept_punctuator.ensures.same_open) (c.accept_word.ensures.same_pairs ∙ c.accept_punctuator.ensures.same_pairs) c.args.high c.export_default.result passed c.export_default.ensures.complete

pub returns-clause-derived : goal.returns-clause-derived
returns-clause-derived c =
    let s = c.args.self.now.cursor in
    let x = c.accept_word.new.self.cursor in
    let e = c.export_declaration.new.self.cursor in
    let missed = OnFalse_at c.if-accept_punctuator.false c.accept_punctuator.ensures.missed in
    let unworded = OnFalse_at c.if-accept_word.false c.accept_word.ensures.missed in
    ok_each c.export_declaration.result c.export_declaration.ensures.derived (λ n u. stayed_added s x e c.args.self.now.pairs.items c.accept_word.new.self.pairs.items c.export_declaration.new.self.pairs.items c.args.start (c.accept_word.ensures.text ∙ c.accept_punctuator.ensures.text) (c.accept_word.ensures.same_open ∙ c.accept_punctuator.ensures.same_open) (c.accept_word.ensures.same_pairs ∙ c.accept_punctuator.ensures.same_pairs) (unworded.1 ∙ missed.1) n u)

pub returns-clause-complete : goal.returns-clause-complete
returns-clause-complete c =
    let s = c.args.self.now.cursor in
    let a = c.accept_punctuator.new.self.cursor in
    let x = c.accept_word.new.self.cursor in
    let e = c.export_declaration.new.self.cursor in
    let missed = OnFalse_at c.if-accept_punctuator.false c.accept_punctuator.ensures.missed in
    let unworded = OnFalse_at c.if-accept_word.false c.accept_word.ensures.missed in
    let brace = OnFalse_at c.if-sees_punctuator.false c.sees_punctuator.ensures.missed in
    let text : x.text ≡ a.text = c.accept_word.ensures.text in
    let star_there : Misses x.text Punctuator (codes "*") x.last = subst (λ v. Misses v Punctuator (codes "*") x.last) (sym (text ∙ c.accept_punctuator.ensures.text)) (subst (λ v. Misses s.text Punctuator (codes "*") v) (sym (unworded.1 ∙ missed.1)) missed.0) in
    let brace_there : Misses x.text Punctuator (codes "{") x.last = subst (λ v. Misses v Punctuator (codes "{") x.last) (sym text) (subst (λ v. Misses a.text Punctuator (codes "{") v) (sym unworded.1) brace) in
    let default_there : Misses x.text IdentifierName (codes "default") x.last = subst (λ v. Misses v IdentifierName (codes "default") x.last) (sym text) (subst (λ v. Misses a.text IdentifierName (codes "default") v) (sym unworded.1) unworded.0) in
    stayed_complete s x e c.args.self.now.pairs.items c.accept_word.new.self.pairs.items c.export_declaration.new.self.pairs.items c.args.start (text ∙ c.accept_punctuator.ensures.text) (c.accept_word.ensures.same_open ∙ c.accept_punctuator.ensures.same_open) (c.accept_word.ensures.same_pairs ∙ c.accept_punctuator.ensures.same_pairs) (unworded.1 ∙ missed.1) c.args.high c.export_declaration.result
    (c.export_declaration.ensures.complete star_there brace_there default_there)

pub returns-then-accept_punctuator-clause-waits : goal.returns-then-accept_punctuator-clause-waits
returns-then-accept_punctuator-clause-waits c = waits_behind _ (λ n. n) c.export_all.result c.accept_punctuator.ensures.same_tree c.export_all.ensures.waits

pub returns-then-sees_punctuator-clause-waits : goal.returns-then-sees_punctuator-clause-waits
returns-then-sees_punctuator-clause-waits c = waits_behind _ (λ n. n) c.export_list.result c.accept_punctuator.ensures.same_tree c.export_list.ensures.waits

pub returns-then-accept_word-clause-waits : goal.returns-then-accept_word-clause-waits
returns-then-accept_word-clause-waits c = waits_behind _ (λ n. n) c.export_default.result (c.accept_word.ensures.same_tree ∙ c.accept_punctuator.ensures.same_tree) c.export_default.ensures.waits

pub returns-clause-waits : goal.returns-clause-waits
returns-clause-waits c = waits_behind _ (λ n. n) c.export_declaration.result (c.accept_word.ensures.same_tree ∙ c.accept_punctuator.ensures.same_tree) c.export_declaration.ensures.waits
