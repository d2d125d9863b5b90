-- What an outline requires of its node's position.
use Rattle.std.specs.Prelude.{Bool, true, false, cond, ◌&&◌}
use Rattle.tree.specs.Uses.{implies}
use Rattle.language.specs.declared.Rank.{Rank}
use Rattle.language.specs.declared.Rank.TheVariants.{Member, Call}
use Rattle.language.specs.Vocabulary.{takes}
use Rattle.language.specs.Pieces.{Role, expr, pattern, is_tight}
use Rattle.spelling_table.specs.declared.outline.FirstToken.{FirstToken}
use Rattle.spelling_table.specs.declared.outline.FirstToken.TheVariants.{Other}
use Rattle.spelling_table.specs.declared.outline.Outline.{Outline}
use Rattle.spelling_table.specs.declared.requirements.Requirements.{Requirements}
use Rattle.spelling_table.specs.Outlines.{opens_at, leaf}

-- what an outline requires of its node's position
abbrev pub requirements_of : Outline → Requirements
requirements_of x = record { rank = x.rank; needs_in = x.needs_in; opens = x.opens }

-- no more than the symbol
abbrev pub rank_alone : Rank → Requirements
rank_alone z = record { rank = z; needs_in = false; opens = Other }

-- an outline at this symbol that needs In or not and opens so
abbrev pub asking : Rank → Bool → FirstToken → Outline
asking z i o = record (leaf z) { needs_in = i; opens = o }

-- the symbol of an object's position
abbrev pub callee_at : Rank → Rank
callee_at y = cond (is_tight y) Member Call

abbrev pub fits_outline : Role → Outline → Bool
fits_outline (expr y i f) x = takes y x.rank && (implies x.needs_in i && opens_at f x.opens)
fits_outline (pattern b f) x = opens_at f x.opens
fits_outline _ x = true
