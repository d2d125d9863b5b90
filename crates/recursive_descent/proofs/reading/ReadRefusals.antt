-- How functions that read tokens and make nodes of them refuse.
use Rattle.std.proofs.Common.{◌≡◌, ℕ, true, List, Some, Result, Ok, Err, sym, ap, subst, ◌⊎◌, inl, inr}
use Rattle.std.specs.Result.{IfErr, IsErrAnd}
use Rattle.source_text.specs.declared.fault.Fault.{Fault}
use Rattle.source_text.specs.declared.fault.Fault.TheVariants.{Syntax}
use Rattle.tokens.specs.declared.token.TokenClass.TheVariants.{Punctuator}
use Rattle.token_cursor.specs.CursorState.{CursorState}
use Rattle.covers.specs.declared.list.ListKind.{ListKind}
use Rattle.covers.specs.Lists.{opening}
use Rattle.parser_tables.specs.declared.functions_and_classes.FunctionOrClass.{FunctionOrClass}
use Rattle.parser_tables.specs.declared.functions_and_classes.FunctionOrClass.TheVariants as closure
use Rattle.recursive_descent.specs.Follows.{asks_name, NotNamed, NotBegun}
use Rattle.tree.specs.declared.kind.Form.{Form}
use Rattle.token_cursor.specs.CursorState.{IsSyntaxHere}
use Rattle.token_cursor.specs.Seen.{Misses, NoName, is_free_name}

-- behind a `?` the fault is the same
pub passed_on : {X : Type 0} (P : Fault → Type 0) (answer : Result X Fault) (fault : Fault) → IsErrAnd answer (λ e. e ≡ fault) → P fault → IfErr answer P
passed_on P (Ok x) fault e f = absurd e
passed_on P (Err other) fault e f = subst P (sym e) f

-- a declaration asks for a name
pub asked : (c : FunctionOrClass) → ((x : Form) × c ≡ closure.FunctionDeclaration x) ⊎ (c ≡ closure.ClassDeclaration) → asks_name c ≡ true
asked c (inl e) = ap asks_name e.1
asked c (inr e) = ap asks_name e

pub not_named : (c : FunctionOrClass) (s p : CursorState) (high : ℕ) (fault : Fault) → IsSyntaxHere p fault → asks_name c ≡ true → NoName s.text is_free_name s.last → NotNamed c s high fault
not_named c s p high (Syntax at) h a none = (a, none)
not_named c s p high _ h a none = absurd h

pub not_begun : (l : ListKind) (s p : CursorState) (high : ℕ) (w : List ℕ) (fault : Fault) → IsSyntaxHere p fault → opening l ≡ Some w → Misses s.text Punctuator w s.last → NotBegun l s high fault
not_begun l s p high w (Syntax at) h o none =
    λ (v : List ℕ) (e : opening l ≡ Some v).
    let same : w ≡ v = cc in
    subst (λ x. Misses s.text Punctuator x s.last) same none
not_begun l s p high w _ h o none = absurd h
