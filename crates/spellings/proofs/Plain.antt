-- A node without flags has those of its kind.
use Rattle.std.proofs.Common.{◌≡◌, Bool, true, false, refl}
use Rattle.std.specs.Prelude.{not, ◌&&◌}
use Rattle.std.proofs.lemmas.Bool.{false≢true}
use Rattle.tree.specs.declared.kind.Flags.{Flags}
use Rattle.tree.specs.Uses.{implies, within, is_init}
use Rattle.spellings.specs.Spelled.{has_no_flags}

or_true : (b : Bool) → implies b true ≡ true
or_true true = refl
or_true false = refl

pub plain_within : (g u : Flags) → has_no_flags g ≡ true → within g u ≡ true
plain_within g u h = of g.computed g.optional g.is_static g.prefix g.directive g.expression (is_init g.form) h
  where
    of : (a b c d e f i : Bool) → (not a && (not b && (not c && (not d && (not e && (not f && i)))))) ≡ true →
        (implies a u.computed && (implies b u.optional && (implies c u.is_static && (implies d u.prefix && (implies e u.directive && (implies f u.expression && implies (is_init u.form) i)))))) ≡ true
    of true b c d e f i h = absurd (false≢true h)
    of false true c d e f i h = absurd (false≢true h)
    of false false true d e f i h = absurd (false≢true h)
    of false false false true e f i h = absurd (false≢true h)
    of false false false false true f i h = absurd (false≢true h)
    of false false false false false true i h = absurd (false≢true h)
    of false false false false false false false h = absurd (false≢true h)
    of false false false false false false true h = or_true (is_init u.form)
