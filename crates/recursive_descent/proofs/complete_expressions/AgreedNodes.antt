-- What a maker made or refused, against a derivation that is given.
use Rattle.std.proofs.Common.{◌≡◌, ℕ, ◌≤◌, Bool, true, List, Result, Ok, Err, refl, sym, subst}
use Rattle.source_text.specs.declared.fault.Fault.{Fault}
use Rattle.tree.specs.declared.kind.Pair.{Pair}
use Rattle.tree.specs.Tree.{Tree}
use Rattle.language.specs.declared.Rank.{Rank}
use Rattle.language.specs.declared.Rank.TheVariants.{Conditional, New}
use Rattle.language.specs.declared.Start.{Start}
use Rattle.language.specs.Covers.{Reading, as_expression}
use Rattle.language.specs.Pieces.{expr}
use Rattle.language.specs.Token.{Token}
use Rattle.parser_tables.specs.declared.operand.Operand.{Operand}
use Rattle.parser_tables.specs.declared.expression_context.ExpressionContext.{ExpressionContext}
use Rattle.recursive_descent.specs.Completeness.{Agrees, EndsWith, IsFirst, StopsIn, GivenAs, an_expression}
use Rattle.parser_tables.specs.Outcomes.{MakesAs, YieldsWhere}
use Rattle.recursive_descent.proofs.complete_expressions.Agreement.{refuses_where, refuses_made_as}
use Rattle.token_cursor.specs.CursorState.{CursorState}
use Rattle.recursive_descent.specs.Spelled.{SpellsIn}
use Rattle.token_cursor.specs.SourceText.{SourceText}

-- this where it fits, which it does
pub agrees_where : {X : Type 0} (W : Type 0) (Same : X → Type 0) (x : X) (At : ℕ → Type 0) (fits : Bool) (levels high : ℕ) (r : Result X Fault) → YieldsWhere x At fits levels high r → fits ≡ true → (W → levels ≤ high) → Same x → Agrees W Same r
agrees_where W Same x At fits levels high (Ok made) h so f same = subst Same (sym h.0) same
agrees_where W Same x At fits levels high (Err fault) h so f same = refuses_where W At fits levels high fault h so f

pub agrees_made_as : {X : Type 0} (W : Type 0) (Same : X → Type 0) (x : X) (levels high : ℕ) (r : Result X Fault) → MakesAs x levels high r → (W → levels ≤ high) → Same x → Agrees W Same r
agrees_made_as W Same x levels high (Ok made) h f same = subst Same (sym h.0) same
agrees_made_as W Same x levels high (Err fault) h f same = refuses_made_as W x levels high fault h f

-- an answer of a callee agrees so, with more that is known of it
pub agrees_more : {X : Type 0} (V W : Type 0) (Same More : X → Type 0) (r : Result X Fault) → Agrees V Same r → (W → V) → ((x : X) → r ≡ Ok x → Same x → More x) → Agrees W More r
agrees_more V W Same More (Ok x) h f g = g x refl h
agrees_more V W Same More (Err Rattle.source_text.specs.declared.fault.Fault.TheVariants.TooDeep) h f g = λ w. h (f w)
agrees_more V W Same More (Err Rattle.source_text.specs.declared.fault.Fault.TheVariants.OutOfMemory) h f g = tt
agrees_more V W Same More (Err _) h f g = absurd h

-- an expression that is given at a position by its parts
pub expression_given : {text text' : SourceText} {y : Rank} {i : Bool} {f : Start} {p : ExpressionContext} {o : ℕ} {n : Tree} {s s' e : Token} {P : List Pair} → text' ≡ text → s' ≡ s → p ≡ record { rank = y; has_in = i; start = f } → (y ≡ Conditional → ⊥) → (y ≡ New → ⊥) → SpellsIn text o (expr y i f) n s e P → StopsIn text y i n e → GivenAs text' p o n s' e P as_expression
expression_given {text} {y = y} {i} {f} {p} {o} {n} {s} {s'} {e} {P} texts places is no_test no_new d stopped =
    subst (λ x. GivenAs x p o n s' e P as_expression) (sym texts) (subst (λ x. GivenAs text p o n x e P as_expression) (sym places) (subst (λ (x : ExpressionContext). GivenAs text x o n s e P as_expression) (sym is) (an_expression no_test no_new d stopped)))

-- what stands first is read so, and ends there
abbrev pub FirstWith : CursorState → CursorState → List Pair → List Pair → Reading → Rank → Tree → Token → List Pair → Operand → Type 0
FirstWith s e old new a h n to P r = IsFirst a h r n × EndsWith s e old new to P
