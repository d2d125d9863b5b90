-- How what was answered, or refused, agrees with a derivation that is given, from how its parts do.
use Rattle.std.proofs.Common.{◌≡◌, ℕ, suc, ◌≤◌, ◌<◌, ◌-◌, Bool, true, List, [], ◌++◌, Result, Ok, Err, refl, sym, ap, ◌∙◌, subst, arith, append_assoc}
use Rattle.std.specs.Result.{IfOk, IsErrAnd}
use Rattle.std.proofs.lemmas.Bool.{false≢true}
use Rattle.std.proofs.lemmas.List.{append-nil}
use Rattle.source_text.specs.declared.fault.Fault.{Fault}
use Rattle.source_text.specs.declared.fault.Fault.TheVariants.{Syntax, TooDeep, OutOfMemory}
use Rattle.tokens.specs.declared.token.TokenClass.{TokenClass}
use Rattle.tokens.specs.declared.token.TokenClass.TheVariants.{IdentifierName, Punctuator}
use Rattle.tokens.specs.declared.token.Goal.TheVariants.{Div}
use Rattle.token_cursor.specs.CursorState.{CursorState}
use Rattle.tree.specs.declared.kind.Pair.{Pair}
use Rattle.tree.specs.Tree.{Tree, height}
use Rattle.language.specs.Token.{Token}
use Rattle.language.specs.Derivation.{Reads}
use Rattle.language.specs.Claims.{max_open}
use Rattle.token_cursor.proofs.SeenTokens.{seen_determined}
use Rattle.productions.specs.Made.{Makes}
use Rattle.recursive_descent.specs.Completeness.{Agrees, Room, EndsWith}
use Rattle.token_cursor.specs.CursorState.{IsSyntaxHere}
use Rattle.parser_tables.specs.Outcomes.{BecomesHere, MakesAs, RefusedAbove, RefusedUnless, RefusedWhere, RefusedUnder}
use Rattle.token_cursor.specs.Seen.{ReadsHere, Misses}
use Rattle.recursive_descent.proofs.reading.AddedPairs.{grouping_both}
use Rattle.token_cursor.proofs.TokensAhead.{mark_by, name_by}
use Rattle.token_cursor.specs.SourceText.{SourceText, SeenNext, behind_in}

-- how this fault agrees with what is given: what is left of `Agrees W Same (Err fault)`
abbrev pub Refuses : Type 0 → Fault → Type 0
Refuses W fault = Agrees {X = Unit {0}} W (λ _. Unit {0}) (Err fault)

-- a callee's refusal is passed on, where what it read lies within the limits if the whole does
pub refuses_on : (Inner W : Type 0) (fault : Fault) → Refuses Inner fault → (W → Inner) → Refuses W fault
refuses_on Inner W (Syntax at) h f = absurd h
refuses_on Inner W TooDeep h f = λ w. h (f w)
refuses_on Inner W OutOfMemory h f = tt
refuses_on Inner W _ h f = absurd h

-- behind a `?` the fault is the same
pub agrees_err : {X : Type 0} (W : Type 0) (Same : X → Type 0) (answer : Result X Fault) (fault : Fault) → IsErrAnd answer (λ e. e ≡ fault) → Refuses W fault → Agrees W Same answer
agrees_err W Same (Ok x) fault is h = absurd is
agrees_err W Same (Err other) fault is h = subst (λ (x : Fault). Refuses W x) (sym is) h

-- both in one
pub agrees_on : {X : Type 0} (Inner W : Type 0) (Same : X → Type 0) (answer : Result X Fault) (fault : Fault) → IsErrAnd answer (λ e. e ≡ fault) → Refuses Inner fault → (W → Inner) → Agrees W Same answer
agrees_on Inner W Same answer fault is h f = agrees_err W Same answer fault is (refuses_on Inner W fault h f)

-- an answer to what is given, as one to more; with what else is known of it
pub agrees_map : {X : Type 0} (W V : Type 0) (Same Also : X → Type 0) (result : Result X Fault) → Agrees W Same result → (V → W) → ((x : X) → Same x → Also x) → Agrees V Also result
agrees_map W V Same Also (Ok x) h g f = f x h
agrees_map W V Same Also (Err fault) h g f = refuses_on W V fault h g

pub agrees_as : {X : Type 0} (Inner W : Type 0) (D SameInner Same : X → Type 0) (result : Result X Fault) → IfOk result D → Agrees Inner SameInner result → (W → Inner) → ((x : X) → D x → SameInner x → Same x) → Agrees W Same result
agrees_as Inner W D SameInner Same (Ok x) d h room f = f x d h
agrees_as Inner W D SameInner Same (Err fault) d h room f = refuses_on Inner W fault h room

-- memory is refused
pub refuses_memory : (W : Type 0) (fault : Fault) → fault ≡ OutOfMemory → Refuses W fault
refuses_memory W fault is = subst (λ (x : Fault). Refuses W x) (sym is) tt

-- a leaf refuses by a syntax error alone, against what is given
pub refuses_syntax : (W : Type 0) (p : CursorState) (fault : Fault) → IsSyntaxHere p fault → ⊥ → Refuses W fault
refuses_syntax W p fault h none = absurd none

-- what becomes something where it fits, which it does
pub refuses_unfit : {X : Type 0} (W : Type 0) (x : X) (fits : Bool) (p : CursorState) (fault : Fault) → BecomesHere x fits p (Err fault) → fits ≡ true → Refuses W fault
refuses_unfit W x fits p fault h fit = absurd (false≢true (sym h.1 ∙ fit))

-- a node that is higher than allowed
pub refuses_high : (W : Type 0) (levels high : ℕ) (fault : Fault) → fault ≡ TooDeep → high < levels → (W → levels ≤ high) → Refuses W fault
refuses_high W levels high fault is above f = subst (λ (x : Fault). Refuses W x) (sym is) (λ (w : W). let u : levels ≤ high = f w in absurd (omega arith))

pub refuses_made : (W : Type 0) (t : Tree) (high : ℕ) (fault : Fault) → Makes t high (Err fault) → (W → height t ≤ high) → Refuses W fault
refuses_made W t high fault h f = refuses_high W (height t) high fault h.0 h.1 f

pub refuses_made_as : {X : Type 0} (W : Type 0) (x : X) (levels high : ℕ) (fault : Fault) → MakesAs x levels high (Err fault) → (W → levels ≤ high) → Refuses W fault
refuses_made_as W x levels high fault h f = refuses_high W levels high fault h.0 h.1 f

pub refuses_above : (W : Type 0) (levels high : ℕ) (fault : Fault) → RefusedAbove levels high fault → (W → levels ≤ high) → Refuses W fault
refuses_above W levels high (Syntax at) h f = absurd h
refuses_above W levels high TooDeep h f = λ (w : W). let u : levels ≤ high = f w in absurd (omega arith)
refuses_above W levels high OutOfMemory h f = tt
refuses_above W levels high _ h f = absurd h

pub refuses_where : (W : Type 0) (At : ℕ → Type 0) (fits : Bool) (levels high : ℕ) (fault : Fault) → RefusedWhere At fits levels high fault → fits ≡ true → (W → levels ≤ high) → Refuses W fault
refuses_where W At fits levels high (Syntax at) h fit f = absurd (false≢true (sym h.1 ∙ fit))
refuses_where W At fits levels high TooDeep h fit f = let above = h.1 in λ (w : W). let u : levels ≤ high = f w in absurd (omega arith)
refuses_where W At fits levels high OutOfMemory h fit f = tt
refuses_where W At fits levels high _ h fit f = absurd h

pub refuses_unless : (W : Type 0) (At : ℕ → Type 0) (fits : Bool) (fault : Fault) → RefusedUnless At fits fault → fits ≡ true → Refuses W fault
refuses_unless W At fits (Syntax at) h fit = absurd (false≢true (sym h.1 ∙ fit))
refuses_unless W At fits OutOfMemory h fit = tt
refuses_unless W At fits _ h fit = absurd h

-- no more parentheses may be open
pub refuses_under : (W : Type 0) (opened : ℕ) (fault : Fault) → RefusedUnder opened fault → (W → suc opened ≤ max_open) → Refuses W fault
refuses_under W opened (Syntax at) h f = absurd h
refuses_under W opened TooDeep h f = λ (w : W). let u : suc opened ≤ max_open = f w in absurd (omega arith)
refuses_under W opened OutOfMemory h f = tt
refuses_under W opened _ h f = absurd h

-- a part lies within the limits where the whole does: as many parentheses are open, and it is lower
pub room_part : (s m : CursorState) {o levels high less lower : ℕ} → m.opened ≡ s.opened → (levels ≤ high → less ≤ lower) → Room s o levels high → Room m o less lower
room_part s m {o} same f room = (subst (λ k. o ≤ max_open - k) (sym same) room.0, f room.1)

-- where a token is read that another doesn't miss
pub not_missed : {text : SourceText} {c : TokenClass} {w : List ℕ} {s t e : Token} → Misses text c w s → Reads Token (SeenNext text) (behind_in text) c w s t e → ⊥
not_missed {t = t} {e = e} misses read = misses t e read

-- two signs, and two words, that are read at one place are one token, behind which reading goes on at one place
module _ (text : SourceText) where
  pub marks_same : {v w : List ℕ} {s t e u k : Token} → Reads Token (SeenNext text) (behind_in text) Punctuator v s t e → Reads Token (SeenNext text) (behind_in text) Punctuator w s u k → (t ≡ u) × (e ≡ k)
  marks_same {s = s} {t = t} {e = e} {u = u} {k = k} a b = (seen_determined text).same Div s t u e k a.next b.next (mark_by text a).allowed (mark_by text b).allowed

  pub words_same : {v w : List ℕ} {s t e u k : Token} → Reads Token (SeenNext text) (behind_in text) IdentifierName v s t e → Reads Token (SeenNext text) (behind_in text) IdentifierName w s u k → (t ≡ u) × (e ≡ k)
  words_same {s = s} {t = t} {e = e} {u = u} {k = k} a b = (seen_determined text).same Div s t u e k a.next b.next (name_by text a).allowed (name_by text b).allowed

  -- the place behind a token that is read is the token
  pub read_here : {c : TokenClass} {w : List ℕ} {s t e : Token} → Reads Token (SeenNext text) (behind_in text) c w s t e → ReadsHere text c w s e
  read_here {c} {w} {s} {t} {e} r = subst (λ x. Reads Token (SeenNext text) (behind_in text) c w s x e) (sym ((seen_determined text).last s t e r.next)) r

-- the same pairs
pub ends_same : {s e : CursorState} {old new : List Pair} {to : Token} {P Q : List Pair} → P ≡ Q → EndsWith s e old new to P → EndsWith s e old new to Q
ends_same is a = record { place = a.place; more = a.more; added = a.added; pairs = a.pairs ∙ is }

-- nothing was added to the pairs
pub ends_none : {s e : CursorState} {old new : List Pair} {to : Token} → e.last ≡ to → new ≡ old → EndsWith s e old new to []
ends_none {old = old} place same = record { place = place; more = []; added = same ∙ sym (append-nil old); pairs = refl }

-- one read behind the other
pub ends_both : {s m e : CursorState} {old mid new : List Pair} {at to : Token} {P Q : List Pair} → EndsWith s m old mid at P → EndsWith m e mid new to Q → EndsWith s e old new to (P ++ Q)
ends_both {old = old} a b = record {
  place = b.place;
  more = a.more ++ b.more;
  added = b.added ∙ ap (λ x. x ++ b.more) a.added ∙ append_assoc old a.more b.more;
  pairs = grouping_both a.more b.more ∙ (λ i. a.pairs i ++ b.pairs i);
}

-- behind what added nothing
pub ends_behind : {s m e : CursorState} {old mid new : List Pair} {to : Token} {P : List Pair} → mid ≡ old → EndsWith m e mid new to P → EndsWith s e old new to P
ends_behind same a = record { place = a.place; more = a.more; added = a.added ∙ ap (λ x. x ++ a.more) same; pairs = a.pairs }

-- before what adds nothing
pub ends_before : {s m e : CursorState} {old mid new : List Pair} {at to : Token} {P : List Pair} → EndsWith s m old mid at P → e.last ≡ to → new ≡ mid → EndsWith s e old new to P
ends_before a place same = record { place = place; more = a.more; added = same ∙ a.added; pairs = a.pairs }
