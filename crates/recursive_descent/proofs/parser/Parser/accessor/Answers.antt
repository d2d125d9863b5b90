use Rattle.std.proofs.Common.{sym, ap, subst, ◌∙◌}
use Rattle.language.specs.Languages.{is_of_2022}
use Rattle.recursive_descent.specs.Modifiers.{MethodWords}
use Rattle.recursive_descent.proofs.sound_properties.MemberWords.{base_words}
use Rattle.recursive_descent.proofs.sound_properties.Modifiers.{get_accessed, set_behind, neither_behind}
use Rattle.recursive_descent.proofs.parser.Parser.accessor.Goals as goal

pub returns-in-Some-clause-accessed : goal.returns-in-Some-clause-accessed
returns-in-Some-clause-accessed c = get_accessed _ _ _ c.in-Some.name _ _ c.unless_name.ensures.form c.unless_name.ensures.name c.in-Some.ensures.modified

pub returns-in-Some-modifier-clause-accessed : goal.returns-in-Some-modifier-clause-accessed
returns-in-Some-modifier-clause-accessed c =
    set_behind _ _ _ _ _ c.modifier.ensures.text c.in-Some-modifier.name _ _ c.in_default.ensures.modified.1 c.unless_name-in-Some-modifier.ensures.form c.unless_name-in-Some-modifier.ensures.name c.in-Some-modifier.ensures.modified

pub returns-then-is_of_2022-clause-accessed : goal.returns-then-is_of_2022-clause-accessed
returns-then-is_of_2022-clause-accessed c =
    neither_behind _ _ _ _ _ c.modifier.ensures.text _ _ c.in_default.ensures.modified.1 (subst (λ z. MethodWords c.modifier.new.self.cursor.text z c.method_words.new.self.cursor.last c.method_words.result.form c.method_words.result.name) c.in_default-modifier.ensures.modified.1 (subst (λ z. MethodWords z c.modifier-2.new.self.cursor.last c.method_words.new.self.cursor.last c.method_words.result.form c.method_words.result.name) c.modifier-2.ensures.text c.method_words.ensures.words)) c.in_default.ensures.modified.0 c.in_default-modifier.ensures.modified.0

pub returns-clause-accessed : goal.returns-clause-accessed
returns-clause-accessed c =
    let words = base_words c.modifier.new.self.cursor.text c.modifier.new.self.cursor.last c.modifier-2.new.self.cursor.last c.unless_name-2.result.form c.unless_name-2.result.name (ap (λ z. is_of_2022 z.language) (sym c.modifier-2.ensures.text) ∙ sym c.is_of_2022.ensures ∙ c.if-is_of_2022.false) c.in_default-modifier.ensures.modified.1 c.unless_name-2.ensures.form c.unless_name-2.ensures.name in
    neither_behind _ _ _ _ _ c.modifier.ensures.text _ _ c.in_default.ensures.modified.1 words c.in_default.ensures.modified.0 c.in_default-modifier.ensures.modified.0
