-- Where a token goes on with what stands before it.
use Rattle.std.specs.Prelude.{Bool, IsTrue}
use Rattle.tokens.specs.declared.token.Goal.TheVariants.{Div}
use Rattle.language.specs.declared.Edge.{Edge}
use Rattle.language.specs.Token.{Token}
use Rattle.language.specs.Continuations.{operation, rank_made_by, stops_at}
use Rattle.language.specs.Promises.{ReadBy}
use Rattle.parser_tables.specs.declared.expression_context.ExpressionContext.{ExpressionContext}
use Rattle.token_cursor.specs.SourceText.{SourceText, SeenNext, behind_in}

-- with the token nothing goes on at the position, behind a right edge as it stands
abbrev pub stops_by : ExpressionContext → Edge → Token → Bool
stops_by p x t = stops_at p.rank p.has_in x t (rank_made_by (operation t) t.after_break)

-- so with what is read behind a place
abbrev pub StopsHere : SourceText → ExpressionContext → Edge → Token → Type 0
StopsHere text p x s = (t m : Token) → ReadBy Token (SeenNext text) (behind_in text) Div s t m → IsTrue (stops_by p x t)
