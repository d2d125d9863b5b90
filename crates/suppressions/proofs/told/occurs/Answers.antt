use Rattle.std.proofs.Common.{◌≡◌, ℕ, List, [], ◌∷◌, Option, ap, ◌∙◌}
use Rattle.std.specs.Option.{is_some}
use Rattle.memchr.specs.Find.{first_of, matches}
use Rattle.memchr.proofs.lemmas.ValueLemmas.{FindsNeedle-value}
use Rattle.suppressions.specs.Told.{is_some_place}
use Rattle.suppressions.proofs.told.occurs.Goals as goal

placed : (ms : List ℕ) (r : Option ℕ) → r ≡ first_of ms → is_some r ≡ is_some_place ms
unfolding first_of
placed [] r e = ap is_some e
placed (m ∷ ms) r e = ap is_some e

pub returns : goal.returns
returns c = c.is_some.ensures ∙ placed (matches c.args.text.now c.args.bytes.now 0) c.find.result (FindsNeedle-value c.args.text.now c.args.bytes.now c.find.result c.find.ensures)
