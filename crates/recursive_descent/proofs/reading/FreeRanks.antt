-- The symbols of an expression that are neither a conditional's nor that of what stands behind `new`.
use Rattle.std.proofs.Common.{◌≡◌, Bool, true, false, sym, ap, ◌∙◌}
use Rattle.std.proofs.lemmas.Bool.{false≢true}
use Rattle.language.specs.declared.Rank.{Rank}
use Rattle.language.specs.declared.Rank.TheVariants.{Conditional, New}

abbrev pub is_free : Rank → Bool
is_free Conditional = false
is_free New = false
is_free _ = true

pub no_conditional : {y : Rank} → is_free y ≡ true → y ≡ Conditional → ⊥
no_conditional h e = false≢true (sym (ap is_free e) ∙ h)

pub no_new : {y : Rank} → is_free y ≡ true → y ≡ New → ⊥
no_new h e = false≢true (sym (ap is_free e) ∙ h)
