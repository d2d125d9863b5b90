-- Given arguments, as a list that was begun behind its parenthesis (ECMA-262 12.3.8).
use Rattle.std.proofs.Common.{◌≡◌, ℕ, true, List, [], ◌∷◌, Result, Ok, Err, refl, sym, ap, ◌∙◌, subst}
use Rattle.std.specs.Prelude.{codes}
use Rattle.std.specs.Result.{IsErrAnd}
use Rattle.source_text.specs.declared.fault.Fault.{Fault}
use Rattle.tokens.specs.declared.token.TokenClass.TheVariants.{Punctuator}
use Rattle.token_cursor.specs.CursorState.{CursorState}
use Rattle.tree.specs.declared.kind.Pair.{Pair}
use Rattle.tree.specs.Tree.{Parts, join, parts_height}
use Rattle.covers.specs.declared.list.ListKind.TheVariants as listed
use Rattle.covers.specs.declared.list.ListBuilder.{ListBuilder as ListOf}
use Rattle.covers.specs.Lists.{opening}
use Rattle.language.specs.declared.Rank.TheVariants.{Expression}
use Rattle.language.specs.declared.Start.TheVariants.{Any}
use Rattle.language.specs.Covers.{as_expression}
use Rattle.language.specs.Derivation.{step, token}
use Rattle.language.specs.Expressions.{arguments}
use Rattle.language.specs.Pieces.{sign, listed, argument}
use Rattle.language.specs.Token.{Token}
use Rattle.recursive_descent.specs.Complete.{ListComplete, ArgumentsComplete}
use Rattle.recursive_descent.specs.Soundness.{RunsIn, anywhere}
use Rattle.recursive_descent.specs.Follows.{BegunAt}
use Rattle.recursive_descent.specs.Completeness.{Room, EndsWith}
use Rattle.recursive_descent.specs.CompletenessOfLists.{ListGiven}
use Rattle.parser_tables.specs.Items.{list_from}
use Rattle.token_cursor.specs.Seen.{ReadsHere}
use Rattle.recursive_descent.proofs.complete_expressions.Agreement.{agrees_on, read_here, marks_same, ends_behind, room_part}
use Rattle.token_cursor.specs.SourceText.{SourceText}
use Rattle.recursive_descent.specs.Spelled.{AllOfLanguage}
use Rattle.recursive_descent.proofs.reading.PiecesBeforeToken.{run_before}
use Rattle.recursive_descent.proofs.sound_expressions.GroupContents.{goes_on}

-- what is given of arguments: the parenthesis, the items, the parenthesis
pub record ArgumentsGiven (text : SourceText) (o : ℕ) (ps : Parts) (s e : Token) (P : List Pair) : Type 0 where
  pub left : Token
  pub opens : ReadsHere text Punctuator (codes "(") s left
  pub mid : Token
  pub runs : RunsIn text o (anywhere (listed argument ps)) ps left mid P
  pub closes : ReadsHere text Punctuator (codes ")") mid e

pub arguments_given : {text : SourceText} {o : ℕ} {ps : Parts} {s e : Token} {P : List Pair} → RunsIn text o (anywhere (arguments ps)) ps s e P → ArgumentsGiven text o ps s e P
arguments_given {text} {o} {ps} {s} {e} {P} (step (token {e = m} r) d) =
    let v = run_before text (anywhere (listed argument ps)) (subst (λ qs. RunsIn text o qs ps m e P) (goes_on Expression true Any (listed argument ps) (sign ")" ∷ [])) d) in
    record { left = m; opens = read_here text r; mid = v.mid; runs = v.runs; closes = v.sign }

arguments_list : (text : SourceText) (at o : ℕ) (ps : Parts) (s m e : Token) (P : List Pair) → RunsIn text o (anywhere (listed argument ps)) ps s m P → ReadsHere text Punctuator (codes ")") m e → ListGiven text (list_from listed.Arguments at) as_expression o ps s e P
arguments_list text at o ps s m e P runs closes = record { left = refl; mid = m; runs = runs; closes = closes; last = tt; no_rest = refl; lone = refl; one_default = refl }

-- what the list, behind its parenthesis, makes of what is given
module _ (s m e : CursorState) (old mid new : List Pair) (high : ℕ) (l : ListOf) (text : m.text ≡ s.text) (open_same : m.opened ≡ s.opened) (same : mid ≡ old) (is : l.listed ≡ listed.Arguments) (begun : BegunAt s m l) where
  list_is : l ≡ list_from listed.Arguments l.span.start
  list_is = (begun.1 (codes "(") (ap opening is)).1 ∙ ap (λ x. list_from x l.span.start) is

  given_list : {ps : Parts} {o : ℕ} {to : Token} {P : List Pair} → RunsIn s.text o (anywhere (arguments ps)) ps s.last to P → ListGiven m.text l as_expression o ps m.last to P
  given_list {ps} {o} {to} {P} given =
      let v = arguments_given given in
      let at : v.left ≡ m.last = (marks_same s.text v.opens (begun.1 (codes "(") (ap opening is)).0).1 in
      let whole = arguments_list s.text l.span.start o ps m.last v.mid to P (subst (λ x. RunsIn s.text o (anywhere (listed argument ps)) ps x v.mid P) at v.runs) v.closes in
      subst (λ x. ListGiven m.text x as_expression o ps m.last to P) (sym list_is) (subst (λ x. ListGiven x (list_from listed.Arguments l.span.start) as_expression o ps m.last to P) (sym text) whole)

  own_here : {ps : Parts} → AllOfLanguage s.text ps → AllOfLanguage m.text ps
  own_here {ps} own = subst (λ x. AllOfLanguage x ps) (sym text) own

  -- a refusal in the list
  pub arguments_refused : (answer : Result Parts Fault) (fault : Fault) → IsErrAnd answer (λ x. x ≡ fault) → ListComplete m e mid new high l (Err fault) → ArgumentsComplete s e old new high answer
  arguments_refused answer fault err complete = λ ps o to P given own.
      agrees_on (Room m o (parts_height ps) high) (Room s o (parts_height ps) high) (λ nodes. (nodes ≡ ps) × EndsWith s e old new to P) answer fault err (complete as_expression o ps to P (given_list given) (own_here own)) (λ room. room_part s m open_same (λ low. low) room)

  -- the list
  pub arguments_answered : (k : ListOf) → ListComplete m e mid new high l (Ok k) → ArgumentsComplete s e old new high (Ok k.nodes)
  arguments_answered k complete = λ ps o to P given own.
      let u = complete as_expression o ps to P (given_list given) (own_here own) in
      (u.1 ∙ ap (λ (x : ListOf). join x.nodes ps) list_is, ends_behind same u.2)
