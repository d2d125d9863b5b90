-- `async (..)` with `=>` behind it on its line is no call: arguments and parameters at one place end alike.
use Rattle.std.proofs.Common.{◌≡◌, ℕ, suc, ◌≤◌, Bool, true, false, List, refl, sym, ap, ◌∙◌, subst, ◌⊎◌, inl, inr, arith, not, ◌&&◌, ◌||◌}
use Rattle.std.specs.Prelude.{IsTrue, codes}
use Rattle.tokens.specs.declared.token.TokenClass.TheVariants.{IdentifierName, Punctuator}
use Rattle.tokens.specs.declared.token.Goal.{Goal}
use Rattle.tokens.specs.declared.token.Goal.TheVariants.{Div}
use Rattle.tokens.specs.Goals.{allows}
use Rattle.tree.specs.declared.kind.Kind.{Kind}
use Rattle.tree.specs.declared.kind.Kind.TheVariants.{CallExpression}
use Rattle.tree.specs.declared.kind.Flags.{Flags}
use Rattle.tree.specs.declared.kind.Pair.{Pair}
use Rattle.tree.specs.Tree.{Tree, node, Parts, part, height, parts_height, bare_parts}
use Rattle.language.specs.declared.Rank.{Rank}
use Rattle.language.specs.declared.Rank.TheVariants.{Expression, Assignment, Call}
use Rattle.language.specs.declared.Start.{Start}
use Rattle.language.specs.declared.Edge.TheVariants.{Other}
use Rattle.language.specs.FirstPart.{others}
use Rattle.language.specs.Vocabulary.{is, takes, op_arrow, op_call}
use Rattle.language.specs.Pieces.{Role, expr, PieceOf}
use Rattle.language.specs.Token.{Token}
use Rattle.language.specs.Edges.{edge, edge_as_written}
use Rattle.language.specs.Expressions.{arguments}
use Rattle.language.specs.Continuations.{operation, rank_made_by, stops_at, stops}
use Rattle.language.specs.Covers.{as_expression, as_pattern}
use Rattle.language.specs.Promises.{IsDetermined, ReadBy, Stops}
use Rattle.language.specs.Following.{IsAlike}
use Rattle.language.specs.Grammar.{ways}
use Rattle.language.specs.Derivation.{Reads, Spells, Runs}
use Rattle.language.proofs.table.Begins.{goes_to, retell}
use Rattle.language.proofs.table.LeftRecursiveWays.{Led, led_call}
use Rattle.language.proofs.climbing.SpineContinuations.{makes}
use Rattle.language.proofs.climbing.Spine.{Grows}
use Rattle.language.proofs.climbing.NoContinuation.{goes_where_not}
use Rattle.language.proofs.climbing.OperatorLoop.{led_on, grows_height}
use Rattle.language.proofs.climbing.FirstTurn.{Begun, core_spelled}
use Rattle.language.proofs.climbing.Suffixes.{argument_pieces, arguments_fixed}
use Rattle.language.proofs.climbing.RightOperands.{called}
use Rattle.language.proofs.climbing.NamesBehind.{apart_inside, no_function_behind, no_arrow_behind}
use Rattle.language.proofs.climbing.Leaves.{by_name, AsyncNext, function_next, name_next, parameters_next}
use Rattle.language.proofs.covers.CoverEnds.{a_parenthesis}
use Rattle.language.proofs.list_loops.ParameterLists.{parameter_list}
use Rattle.unambiguity_laws.proofs.Unique.{Unique}
use Rattle.unambiguity_laws.proofs.list_items.Crossings.{list_ends}

-- nothing is led by what stands before `=>`
none_led : {y : Rank} {i : Bool} {f : Start} {k : Kind} {w : List ℕ} {g : Flags} {ps : Parts} {b : Role} {rest : List (PieceOf Role)} → Led y i f k w g ps b rest op_arrow → ⊥
none_led l = elim l [ ]

call_way : {y : Rank} {i : Bool} {f : Start} {k : Kind} {w : List ℕ} {g : Flags} {ps : Parts} {b : Role} {rest : List (PieceOf Role)} → Led y i f k w g ps b rest op_call → (k ≡ CallExpression) × (rest ≡ goes_to y i f (arguments (others ps)))
call_way (led_call k o s tk b e) = (k, e)

refused : (a b c d : Bool) → a ≡ true → b ≡ false → d ≡ true → (not a || ((b && not c) || not d)) ≡ false
refused true false c true h k l = refl
refused true true c d h k l = cc
refused false b c d h k l = cc
refused a b c false h k l = cc

-- where an arrow may stand, so may a call
takes_call : (y : Rank) → IsTrue (takes y Assignment) → takes y Call ≡ true
takes_call Expression h = refl
takes_call Assignment h = refl
takes_call _ h = cc

module _ (S : Type 0) (Next : S → Token → S → Type 0) (behind : S → Token) (det : IsDetermined S Next behind) where
  -- `=>` on its line goes on behind what stands so far
  arrow_goes : (y : Rank) (i : Bool) (m : Tree) {mid x : S} {v : Token} → IsTrue (takes y Assignment) → edge m ≡ Other → Reads S Next behind Punctuator (codes "=>") mid v x → v.after_break ≡ false → stops y i (edge m) (behind mid) v ≡ false
  arrow_goes y i m {mid} {v = v} tk at eq line =
      ap (λ c. stops_at y i (edge_as_written c (behind mid)) v (rank_made_by (operation v) v.after_break)) at ∙ ap (λ c. stops_at y i Other v (rank_made_by c v.after_break)) (makes v eq.class eq.text refl) ∙ ap (λ c. stops_at y i Other v (rank_made_by op_arrow c)) line
      ∙ refused (takes y Assignment) (is v.text "in") i true tk (ap (λ w. is w "in") eq.text) refl

  -- so nothing that can't go on has it behind a part of its spine
  pub arrow_behind : {o : ℕ} {s0 e : S} {y : Rank} {i : Bool} {f : Start} {n : Tree} {P : List Pair} {h : Rank} {j : Bool} {f' : Start} {m : Tree} {mid x : S} {Q : List Pair} {v : Token} → Stops S Next behind y i n e → IsTrue (takes y Assignment) → edge m ≡ Other →
      Reads S Next behind Punctuator (codes "=>") mid v x → v.after_break ≡ false → Spells ways S Next behind o (expr h j f') m s0 mid Q → Grows S Next behind o s0 (expr y i f) n e P (expr h j f') m mid Q → ⊥
  arrow_behind {y = y} {i = i} {m = m} {mid = mid} {x = x} {v = v} stopped tk at eq line sp gs =
      let al : IsTrue (allows Div v.class v.text) = subst (λ c. IsTrue (allows Div c v.text)) (sym eq.class) (subst (λ c. IsTrue (allows Div Punctuator c)) (sym eq.text) refl) in
      let r : ReadBy S Next behind Div mid v x = record { next = eq.next; allowed = al } in
      none_led (led_on S Next behind det r (makes v eq.class eq.text refl) (λ c. cc) (goes_where_not S Next behind det y i r stopped (arrow_goes y i m tk at eq line)) sp gs).led

module _ (S : Type 0) (Next : S → Token → S → Type 0) (behind : S → Token) (det : IsDetermined S Next behind) (alike : IsAlike S Next behind) {h : ℕ} (u : Unique S Next behind det h) where
  -- a name with parameters and `=>` behind it on its line is the leftmost part of nothing that can't go on
  pub no_arrow_call : {o o' : ℕ} {s0 e : S} {y : Rank} {i : Bool} {f : Start} {n : Tree} {P : List Pair} {q : Rank} {j : Bool} {m : Tree} {mid x z k : S} {Q R : List Pair} {v a : Token} {qs : Parts} → (height n ≤ suc h) ⊎ (parts_height qs ≤ h) → Begun S Next behind det o s0 y i f n e P q j m mid Q →
      IsTrue (takes y Assignment) → edge m ≡ Other → Reads S Next behind Punctuator (codes "(") mid v x → Runs ways S Next behind o' (parameter_list qs) qs x z R → Reads S Next behind Punctuator (codes "=>") z a k → a.after_break ≡ false → ⊥
  no_arrow_call {o} {o'} {s0} {e} {y} {i} {f} {n} {P} {q} {j} {m} {mid} {x} {z} {k} {Q} {R} {v} {a} {qs} low b tk at r d eq line =
      let al : IsTrue (allows Div v.class v.text) = subst (λ c. IsTrue (allows Div c v.text)) (sym r.class) (subst (λ c. IsTrue (allows Div Punctuator c)) (sym r.text) refl) in
      let read : ReadBy S Next behind Div mid v x = record { next = r.next; allowed = al } in
      let op : operation v ≡ op_call = makes v r.class r.text refl in
      let goes : stops y i (edge m) (behind mid) v ≡ false = ap (λ c. stops_at y i (edge_as_written c (behind mid)) v (rank_made_by (operation v) v.after_break)) at ∙ ap (λ c. stops_at y i Other v (rank_made_by c v.after_break)) op
      ∙ refused (takes y Call) (is v.text "in") i true (takes_call y tk) (ap (λ w. is w "in") r.text) refl in
      let on = led_on S Next behind det read op (λ c. cc) (goes_where_not S Next behind det y i read b.stopped goes) (core_spelled S Next behind b.core) b.grows in
      let way = call_way on.led in
      let args : Runs ways S Next behind o (argument_pieces on.ps) on.ps x on.to on.more = retell S Next behind (arguments_fixed on.y on.i on.f (bare_parts on.ps)) (called S Next behind det on.y on.i on.f (bare_parts on.ps) (retell S Next behind way.1 on.runs) read) in
      let high = grows_height S Next behind det on.grows in
      let ends : z ≡ on.to = of (omega arith) args low in
      arrow_behind S Next behind det b.stopped tk (ap (λ c. edge (node c on.w on.g on.st on.en (part m on.ps))) way.0) (subst (λ c. Reads S Next behind Punctuator (codes "=>") c a k) ends eq) line on.spelled on.grows
    where
      of : {ps : Parts} {to : S} {A : List Pair} → suc (parts_height ps) ≤ height n → Runs ways S Next behind o (argument_pieces ps) ps x to A → (height n ≤ suc h) ⊎ (parts_height qs ≤ h) → z ≡ to
      of high args (inl l) = list_ends S Next behind det alike u a_parenthesis as_expression (as_pattern true) (omega arith) args d
      of high args (inr l) = sym (list_ends S Next behind det alike u a_parenthesis (as_pattern true) as_expression l d args)

  -- nor is `async` with a function or an arrow behind it
  pub no_async_name : {o : ℕ} {s0 e x : S} {y : Rank} {i : Bool} {f : Start} {n : Tree} {P : List Pair} {q : Rank} {j : Bool} {m : Tree} {mid : S} {Q : List Pair} {t : Token} → height n ≤ suc h → Begun S Next behind det o s0 y i f n e P q j m mid Q → ReadBy S Next behind Goal.RegExp s0 t x → mid ≡ x → edge m ≡ Other → AsyncNext S Next behind det y s0 → ⊥
  no_async_name {s0 = s0} {x = x} {mid = mid} low b r there at (function_next {v = v} {e = k} ra rb line) =
      no_function_behind S Next behind det (apart_inside S Next behind det b.grows b.stopped.apart) (subst (λ c. Reads S Next behind IdentifierName (codes "function") c v k) ((by_name S Next behind det r _ _ ra).1 ∙ sym there) rb) line
  no_async_name low b r there at (name_next {w = w} {v = v} {x = k} ra rb free line c on tk) =
      no_arrow_behind S Next behind det (apart_inside S Next behind det b.grows b.stopped.apart) (subst (λ z. Reads S Next behind IdentifierName w z v k) ((by_name S Next behind det r _ _ ra).1 ∙ sym there) rb) free line c
  no_async_name low b r there at (parameters_next {v = v} {x = k} ra rb line d c on tk) =
      no_arrow_call (inl low) b tk at (subst (λ z. Reads S Next behind Punctuator (codes "(") z v k) ((by_name S Next behind det r _ _ ra).1 ∙ sym there) rb) d c on
