use Rattle.std.proofs.Common.{◌≡◌, Ok, Err, sym, ap, ◌∙◌, length, rules, subst}
use Rattle.std.proofs.lemmas.List.Elements.{filter_from_retain}
use Rattle.source_text.specs.Source.{IsPlace}
use Rattle.tree.specs.Tree.{program_tree, join}
use Rattle.language.proofs.texts.StartPlaces.{starting_place}
use Rattle.token_cursor.specs.SourceText.{SourceText}
use Rattle.recursive_descent.specs.Soundness.{groups, grouping}
use Rattle.recursive_descent.specs.Scripts.{program_text}
use Rattle.token_cursor.specs.Refusals.{IsRefusal}
use Rattle.recursive_descent.proofs.reading.ReadRefusals.{passed_on}
use Rattle.recursive_descent.proofs.sound_statements.Scripts.{parsed}
use Rattle.recursive_descent.proofs.complete_statements.ScriptGiven.{ItemsComplete, script_refused, script_read}
use Rattle.recursive_descent.proofs.complete_statements.WholeItems.{WholeItems, script_items, script_complete, module_items, module_complete}
use Rattle.recursive_descent.specs.declared.script.Script.{Script}
use Rattle.recursive_descent.proofs.script.read.Goals as goal
use Rattle.recursive_descent.proofs.script.read.Goals.{in-Module+in_ok-module_items-in-Module, in-Base+in_ok-statements-in-Base}

pub returns-clause-derived : goal.returns-clause-derived
returns-clause-derived c =
    let text : SourceText = record { bytes = c.args.source.now; language = c.args.language } in
    let s = c.new.result in
    let kept : c.retain.new.self.items ≡ grouping c.match-language.parser.pairs.items = filter_from_retain _ groups (λ p x b q h. search rules) _ _ _ c.retain.ensures.filtered in
    let whole : WholeItems text s c.match-language.parser.cursor c.new-2.result.items c.match-language.parser.pairs.items c.match-language.parser.tree = elim c.match-language.branch [
      | in-Module+in_ok-module_items-in-Module w ↦
          let items = w.in_ok-module_items-in-Module.ensures in
          let nodes = w.in_ok-module_items-in-Module.field-0 in
          rw w.parser-is (subst (WholeItems text s w.module_items.new.self.cursor c.new-2.result.items w.module_items.new.self.pairs.items) (sym (items.waits ∙ ap (λ ps. join ps nodes) c.new-3.ensures)) (module_items text s w.module_items.new.self.cursor c.new-2.result.items w.module_items.new.self.pairs.items c.new.ensures.text w.in-Module.is nodes items.text items.derived items.ended items.low))
      | in-Base+in_ok-statements-in-Base w ↦
          let items = w.in_ok-statements-in-Base.ensures in
          let nodes = w.in_ok-statements-in-Base.field-0 in
          rw w.parser-is (subst (WholeItems text s w.statements.new.self.cursor c.new-2.result.items w.statements.new.self.pairs.items) (sym (items.waits ∙ ap (λ ps. join ps nodes) c.new-3.ensures)) (script_items text s w.statements.new.self.cursor c.new-2.result.items w.statements.new.self.pairs.items c.new.ensures.text w.in-Base.is nodes items.text items.derived items.ended items.low items.own))
    ] in
    let begins : IsPlace c.args.source.now s.last.stop = subst (λ m. IsPlace c.args.source.now m.stop) (sym c.new.ensures.last) (starting_place c.args.language c.args.source.now c.text.ensures.utf8) in
    parsed text c.match-language.parser.tree c.in_ok-program.program c.text.ensures.utf8 c.new.ensures.text c.new.ensures.last begins c.new.ensures.none c.new-2.ensures.items whole.derived whole.same whole.ended whole.own kept
    (c.in_ok-program.ensures.built ∙ (λ i. program_tree (program_text c.args.language) c.match-language.parser.tree (record { start = 0; end = length (c.text.ensures.value i) }))) whole.low

pub returns-clause-complete : goal.returns-clause-complete
returns-clause-complete c =
    let text : SourceText = record { bytes = c.args.source.now; language = c.args.language } in
    let s = c.new.result in
    let kept : c.retain.new.self.items ≡ grouping c.match-language.parser.pairs.items = filter_from_retain _ groups (λ p x b q h. search rules) _ _ _ c.retain.ensures.filtered in
    let begins : IsPlace c.args.source.now s.last.stop = subst (λ m. IsPlace c.args.source.now m.stop) (sym c.new.ensures.last) (starting_place c.args.language c.args.source.now c.text.ensures.utf8) in
    let complete : ItemsComplete s c.match-language.parser.cursor c.new-2.result.items c.match-language.parser.pairs.items text c.new.ensures.text c.new.ensures.last (Ok c.match-language.parser.tree) = elim c.match-language.branch [
      | in-Module+in_ok-module_items-in-Module w ↦
          let nodes = w.in_ok-module_items-in-Module.field-0 in
          rw w.parser-is (subst (λ ps. ItemsComplete s w.module_items.new.self.cursor c.new-2.result.items w.module_items.new.self.pairs.items text c.new.ensures.text c.new.ensures.last (Ok ps)) (sym (w.in_ok-module_items-in-Module.ensures.waits ∙ ap (λ ps. join ps nodes) c.new-3.ensures)) (module_complete text s w.module_items.new.self.cursor c.new-2.result.items w.module_items.new.self.pairs.items c.new.ensures.text w.in-Module.is c.new.ensures.last (Ok nodes) w.in_ok-module_items-in-Module.ensures.complete))
      | in-Base+in_ok-statements-in-Base w ↦
          let nodes = w.in_ok-statements-in-Base.field-0 in
          rw w.parser-is (subst (λ ps. ItemsComplete s w.statements.new.self.cursor c.new-2.result.items w.statements.new.self.pairs.items text c.new.ensures.text c.new.ensures.last (Ok ps)) (sym (w.in_ok-statements-in-Base.ensures.waits ∙ ap (λ ps. join ps nodes) c.new-3.ensures)) (script_complete text s w.statements.new.self.cursor c.new-2.result.items w.statements.new.self.pairs.items c.new.ensures.text w.in-Base.is c.new.ensures.last (Ok nodes) w.in_ok-statements-in-Base.ensures.complete))
    ] in
    script_read s c.match-language.parser.cursor c.new-2.result.items c.match-language.parser.pairs.items text c.new.ensures.text c.new.ensures.last c.match-language.parser.tree c.in_ok-program.program c.retain.new.self.items c.text.ensures.utf8 begins c.new-2.ensures.items kept
    (c.in_ok-program.ensures.built ∙ (λ i. program_tree (program_text c.args.language) c.match-language.parser.tree (record { start = 0; end = length (c.text.ensures.value i) }))) complete

pub returns-in_err-module_items-in-Module-clause-complete : goal.returns-in_err-module_items-in-Module-clause-complete
returns-in_err-module_items-in-Module-clause-complete c =
    let text : SourceText = record { bytes = c.args.source.now; language = c.args.language } in
    let s = c.new.result in
    let e = c.module_items.new.self in
    let fault = c.in_err-module_items-in-Module.field-0.0 in
    script_refused s e.cursor c.new-2.result.items e.pairs.items text c.new.ensures.text c.new.ensures.last (λ n P (script : Script). (script.program ≡ n) × (script.pairs.items ≡ P)) c.from_residual.result fault c.new.ensures.none c.from_residual.ensures.1
    (module_complete text s e.cursor c.new-2.result.items e.pairs.items c.new.ensures.text c.in-Module.is c.new.ensures.last (Err fault) c.in_err-module_items-in-Module.ensures.complete)

pub returns-in_err-statements-in-Base : goal.returns-in_err-statements-in-Base
returns-in_err-statements-in-Base c =
    let text : SourceText = record { bytes = c.args.source.now; language = c.args.language } in
    let s = c.new.result in
    let e = c.statements.new.self in
    let fault = c.in_err-statements-in-Base.field-0.0 in
    record {
      source = search rules;
      derived = search rules;
      complete = script_refused s e.cursor c.new-2.result.items e.pairs.items text c.new.ensures.text c.new.ensures.last (λ n P (script : Script). (script.program ≡ n) × (script.pairs.items ≡ P)) c.from_residual-in_err-statements-in-Base.result fault c.new.ensures.none c.from_residual-in_err-statements-in-Base.ensures.1
          (script_complete text s e.cursor c.new-2.result.items e.pairs.items c.new.ensures.text c.in-Base.is c.new.ensures.last (Err fault) c.in_err-statements-in-Base.ensures.complete);
      refused = passed_on (IsRefusal text) c.from_residual-in_err-statements-in-Base.result fault c.from_residual-in_err-statements-in-Base.ensures.1 (subst (λ x. IsRefusal x fault) (c.in_err-statements-in-Base.ensures.text ∙ c.new.ensures.text) c.in_err-statements-in-Base.ensures.refused);
    }
