-- Of a position an outline asks by its symbol, whether it needs In, and what it opens with.
use Rattle.std.proofs.Common.{◌≡◌, refl}
use Rattle.language.specs.Pieces.{Role, expr, pattern}
use Rattle.spelling_table.specs.declared.outline.Outline.{Outline}
use Rattle.spelling_table.specs.Requirements.{asking, fits_outline}

pub asked : (a : Role) (x : Outline) → fits_outline a (asking x.rank x.needs_in x.opens) ≡ fits_outline a x
asked (expr y i f) x = refl
asked (pattern b f) x = refl
asked _ x = refl
