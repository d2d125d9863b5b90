use Rattle.std.specs.Prelude.{codes}
use Rattle.recursive_descent.proofs.sound_properties.Modifiers.{modifies_by, named_by, object_modifying, named_modifying, static_behind, not_static_behind}
use Rattle.recursive_descent.proofs.parser.Parser.modifiers.Goals as goal

pub returns-then-not-in_class-clause-modified : goal.returns-then-not-in_class-clause-modified
returns-then-not-in_class-clause-modified c = object_modifying _ _ _ _ _ _ _ c.if-not-in_class.true c.accessor.ensures.handed c.accessor.ensures.accessed

pub returns-in-None-clause-modified : goal.returns-in-None-clause-modified
returns-in-None-clause-modified c =
    not_static_behind _ _ _ _ _ c.modifier.ensures.text _ _ _ _ c.in-None.ensures.modified.1 c.if-not-in_class.false c.accessor-in-None.ensures.handed c.in-None.ensures.modified.0 c.accessor-in-None.ensures.accessed

pub returns-in-Some-None-clause-modified : goal.returns-in-Some-None-clause-modified
returns-in-Some-None-clause-modified c =
    let read = modifies_by c.args.self.now.cursor.text (codes "static") c.args.self.now.cursor.last c.modifier.new.self.cursor.last c.in-Some-None.field-0 c.in-Some-None.field-0-is c.in-Some-None.ensures.modified in
    static_behind _ _ _ _ _ c.modifier.ensures.text _ _ _ _ c.if-not-in_class.false c.accessor-in-Some-None.ensures.handed read c.accessor-in-Some-None.ensures.accessed

pub returns-in-Some-Some-clause-modified : goal.returns-in-Some-Some-clause-modified
returns-in-Some-Some-clause-modified c =
    let read = named_by c.args.self.now.cursor.text (codes "static") c.args.self.now.cursor.last c.modifier.new.self.cursor.last c.in-Some-Some.field-0 c.in-Some-Some.name c.in-Some-Some.field-0-is c.in-Some-Some.ensures.modified in
    named_modifying _ _ _ _ _ _ _ c.in-Some-Some.name c.if-not-in_class.false c.unless_name.ensures.handed c.unless_name.ensures.form c.unless_name.ensures.name read
