-- Words of short comments, the directives among them, and what they ask for.
use Rattle.std.proofs.Common.{◌≡◌, true, false, [], ◌∷◌, Some, None, refl}
use Rattle.std.specs.Prelude.{codes}
use Rattle.suppressions.specs.declared.directive.Directive.TheVariants.{Disable, DisableLine, DisableNextLine, Enable}
use Rattle.suppressions.specs.declared.directive.Reach.TheVariants.{Line, Region}
use Rattle.suppressions.specs.declared.suppression.Origin.{Origin}
use Rattle.suppressions.specs.Directives.{directive_of, reaches}
use Rattle.suppressions.specs.Suppressions.{for_rules, suppression}
use Rattle.suppressions.specs.Words.{begins_reason, is_block}

block : is_block (codes "/* a */") ≡ true
block = refl

line : is_block (codes "// a *") ≡ false
line = refl

reason : begins_reason (codes "--why") ≡ true
reason = refl

no-reason : begins_reason (codes "-a--") ≡ false
no-reason = refl

own : directive_of false (codes "jslint-disable-next-line") ≡ Some DisableNextLine
own = refl

longer : directive_of true (codes "jslint-disable-lines") ≡ None
longer = refl

eslint : directive_of true (codes "eslint-disable-line") ≡ Some DisableLine
eslint = refl

eslint-unasked : directive_of false (codes "eslint-disable-line") ≡ None
eslint-unasked = refl

eslint-enable : directive_of true (codes "eslint-enable") ≡ Some Enable
eslint-enable = refl

region-in-a-line-comment : reaches Region false Disable ≡ false
region-in-a-line-comment = refl

region-in-a-block : reaches Region true Enable ≡ true
region-in-a-block = refl

its-own-line : reaches Line false DisableLine ≡ true
its-own-line = refl

not-its-own-line : reaches Line false DisableNextLine ≡ false
not-its-own-line = refl

module _ (o : Origin) where
  all-rules : for_rules o [] ≡ suppression o None ∷ []
  all-rules = refl

  with-a-reason : for_rules o (codes "--" ∷ codes "no-var" ∷ []) ≡ suppression o None ∷ []
  with-a-reason = refl

  named : for_rules o (codes "no-var" ∷ codes "yoda" ∷ codes "--" ∷ codes "why" ∷ []) ≡ suppression o (Some (codes "no-var")) ∷ suppression o (Some (codes "yoda")) ∷ []
  named = refl
