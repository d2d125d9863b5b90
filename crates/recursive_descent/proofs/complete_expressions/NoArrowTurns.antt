-- No `=>` goes on with what is given: an arrow function's parameters are read with it.
use Rattle.std.proofs.Common.{◌≡◌, ℕ, ◌-◌, Bool, false, List, refl, sym, ap, ◌∙◌}
use Rattle.std.specs.Prelude.{Some}
use Rattle.tokens.specs.declared.token.Goal.TheVariants.{Div}
use Rattle.tokens.specs.Tokens.{LexicalToken}
use Rattle.token_cursor.specs.CursorState.{CursorState, IsAhead}
use Rattle.tree.specs.declared.kind.Kind.{Kind}
use Rattle.tree.specs.declared.kind.Flags.{Flags}
use Rattle.tree.specs.declared.kind.Pair.{Pair}
use Rattle.tree.specs.Tree.{Tree, Parts}
use Rattle.language.specs.declared.Rank.{Rank}
use Rattle.language.specs.declared.Start.{Start}
use Rattle.language.specs.Vocabulary.{Operator, op_assign, op_arrow}
use Rattle.language.specs.Token.{Token, as_read}
use Rattle.language.specs.Pieces.{Role, PieceOf}
use Rattle.language.specs.Continuations.{operation}
use Rattle.language.specs.Promises.{ReadBy}
use Rattle.language.specs.Covers.{Reading}
use Rattle.language.specs.Claims.{max_open}
use Rattle.token_cursor.proofs.SeenTokens.{seen_determined}
use Rattle.language.proofs.table.LeftRecursiveWays.{Led}
use Rattle.language.proofs.climbing.NoContinuation.{goes_where_not}
use Rattle.language.proofs.climbing.OperatorLoop.{led_on}
use Rattle.parser_tables.specs.declared.operand.Operand.{Operand}
use Rattle.parser_tables.specs.declared.expression_context.ExpressionContext.{ExpressionContext}
use Rattle.grammar.specs.declared.infix.InfixOperator.{InfixOperator as Coded}
use Rattle.grammar.specs.declared.infix.InfixOperator.TheVariants as code
use Rattle.recursive_descent.specs.Soundness.{ReadAt}
use Rattle.grammar.specs.Infix.{coded_operator}
use Rattle.parser_tables.specs.Operators.{stops_by}
use Rattle.recursive_descent.specs.Stages.{StageAs}
use Rattle.token_cursor.proofs.TokensAhead.{ahead_read}
use Rattle.recursive_descent.proofs.complete_expressions.SpineTurns.{goes_there}
use Rattle.recursive_descent.proofs.complete_expressions.StageTurns.{OnSpine, spined, spine_only}
use Rattle.token_cursor.specs.SourceText.{SeenNext, behind_in, unseen}

arrows_by : (x : Operator) (w : List ℕ) → coded_operator x w ≡ Some code.FatArrow → x ≡ op_arrow
arrows_by op_arrow w h = refl
arrows_by _ w h = cc

-- no way is led so
arrows_led : {y : Rank} {i : Bool} {f : Start} {k : Kind} {w : List ℕ} {g : Flags} {ps : Parts} {b : Role} {rest : List (PieceOf Role)} → Led y i f k w g ps b rest op_arrow → ⊥
arrows_led l = elim l [ ]

pub no_arrow : (s : CursorState) (p : ExpressionContext) (l : Operand) (v : LexicalToken) {c : Coded} → IsAhead Div s.text s.last.stop v → coded_operator (operation (as_read v)) v.text ≡ Some c → c ≡ code.FatArrow → stops_by p l.edge (as_read v) ≡ false →
    (a : Reading) (o : ℕ) (n : Tree) (from to : Token) (P Q R : List Pair) → ReadAt s.text p l (max_open - s.opened) from s.last R → StageAs s.text p o from to P l s.last Q a n → ⊥
no_arrow s p l v ahead coded is goes a o n from to P Q R read stage = of (spine_only s.text p o from to P l s.last Q a n read.part.begins read.part.edge r goes (λ h. let k : op_arrow ≡ op_assign = sym op ∙ h in cc) stage)
  where
    r : ReadBy Token (SeenNext s.text) (behind_in s.text) Div s.last (as_read v) (unseen (as_read v))
    r = ahead_read s.text Div s.last v ahead

    op : operation (as_read v) ≡ op_arrow
    op = arrows_by (operation (as_read v)) v.text (coded ∙ ap Some is)

    of : OnSpine s.text p o from to P l s.last Q a n read.part.begins read.part.edge r goes → ⊥
    of (spined serves high u) =
        let on = led_on Token (SeenNext s.text) (behind_in s.text) (seen_determined s.text) r op (λ q. cc) (goes_where_not Token (SeenNext s.text) (behind_in s.text) (seen_determined s.text) p.rank p.has_in r u.stopped (goes_there s.text p l s.last (as_read v) read.part.edge goes)) u.leads.spelled u.leads.grows in
        arrows_led on.led
