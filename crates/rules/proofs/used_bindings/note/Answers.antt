use Rattle.std.proofs.Common.{sym, ap, ◌∙◌}
use Rattle.std.specs.Prelude.{◌&&◌, ◌||◌, nat_eq}
use Rattle.scopes.specs.Shown.{reference_shown}
use Rattle.rules.proofs.Flags.{means-it, notes-same}
use Rattle.rules.proofs.used_bindings.note.Goals as goal

pub returns-then-uses : goal.returns-then-uses
returns-then-uses c p notes =
    notes-same c.args.scopes.now.scopes c.note_binding.new.used (λ m. p m || (nat_eq c.in-Some.scope m.0 && nat_eq c.in-Some.place m.1)) _
    (λ m. ap (λ b. p m || b) (means-it c.args.writes (reference_shown c.args.reference) c.in-Some.scope c.in-Some.place (sym c.uses.ensures ∙ c.if-uses.true) c.in-Some.is m))
    (c.note_binding.ensures p notes)
