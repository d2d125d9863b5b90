-- What stands behind an expression of a script says that no name does, on its line, but an operator or the `of` of a `for` (`Apart`).
use Rattle.std.proofs.Common.{◌≡◌, ◌⊎◌, inl, inr, ℕ, Bool, true, false, List, [], ◌∷◌, refl, sym, ap, ◌∙◌, subst}
use Rattle.std.specs.Prelude.{IsTrue, cond, codes, not, ◌&&◌, ◌||◌}
use Rattle.std.proofs.lemmas.Bool.{false≢true, and_parts}
use Rattle.std.proofs.lemmas.Slice.Eq.{bytes_eq-Decides}
use Rattle.tokens.specs.declared.token.TokenClass.TheVariants.{IdentifierName, Punctuator}
use Rattle.tokens.specs.declared.token.Goal.{Goal}
use Rattle.tokens.specs.declared.token.Goal.TheVariants.{Div}
use Rattle.tokens.specs.Goals.{allows}
use Rattle.tree.specs.declared.kind.Pair.{Pair}
use Rattle.tree.specs.declared.kind.Kind.{Kind}
use Rattle.tree.specs.declared.kind.Flags.{Flags}
use Rattle.tree.specs.Tree.{Tree, Parts}
use Rattle.language.specs.declared.Rank.{Rank}
use Rattle.language.specs.declared.Start.{Start}
use Rattle.language.specs.Vocabulary.{is, is_reserved, is_word_operator, Operator, operator_of, op_binary, op_none}
use Rattle.language.specs.declared.Rank.TheVariants.{Relational, Shift}
use Rattle.language.specs.Token.{Token}
use Rattle.language.specs.Edges.{is_end, is_sign, is_semicolon}
use Rattle.language.specs.Pieces.{Role, expr, PieceOf, Ending, of_do, of_export, behind_value, behind_key, ending}
use Rattle.language.specs.Continuations.{of_class, operation}
use Rattle.language.specs.Promises.{IsDetermined, ReadBy, is_free, NameBehind, an_operator, an_of, Apart}
use Rattle.language.specs.Derivation.{Reads, Step, explicit, implicit}
use Rattle.language.proofs.table.Begins.{among_by}
use Rattle.language.proofs.table.LeftRecursiveWays.{Linked, link_dot, link_index, link_call, link_chained_name, link_chained_index, link_chained_call}
use Rattle.language.proofs.climbing.Spine.{Grows}
use Rattle.language.proofs.climbing.NoContinuation.{no_spine}
use Rattle.language.proofs.climbing.SpineContinuations.{Onward, ended, by_led, by_link, by_chain, onward, makes}
use Rattle.language.proofs.statements.MissingSemicolons.{either, ended_class, signed_class}

-- a name that isn't reserved makes nothing
word_reserved : (w : List ℕ) → is_word_operator w ≡ true → is_reserved w ≡ true
unfolding is_reserved
word_reserved w h = among_by (λ w. is_reserved w ≡ true) w ("delete" ∷ "void" ∷ "typeof" ∷ "in" ∷ "instanceof" ∷ []) h (refl, (refl, (refl, (refl, (refl, tt)))))

unreserved : (w : List ℕ) → is_reserved w ≡ false → of_class IdentifierName w ≡ op_none
unreserved w free = of (is_word_operator w) refl
  where
    of : (b : Bool) → is_word_operator w ≡ b → of_class IdentifierName w ≡ op_none
    of false h = ap (λ b. cond b (operator_of w) op_none) h
    of true h = absurd (false≢true (sym free ∙ word_reserved w h))

-- the endings behind an expression: all but that of a `do`
abbrev pub is_behind_expression : Ending → Bool
is_behind_expression of_do = false
is_behind_expression _ = true

module _ (S : Type 0) (Next : S → Token → S → Type 0) (behind : S → Token) (det : IsDetermined S Next behind) where
  -- a name is the token that any goal reads
  name_is : {g : Goal} {e m k : S} {t u : Token} → ReadBy S Next behind g e t k → Next e u m → u.class ≡ IdentifierName → u ≡ t
  name_is {g} {e} {m} {k} {t} {u} r next class = (det.same g e u t m k next r.next (det.free g e u m next (ap is_free class)) r.allowed).0

  -- where another token is read
  pub apart_read : {g : Goal} {e k : S} {t : Token} → ReadBy S Next behind g e t k → (t.class ≡ IdentifierName → ⊥) → Apart S Next behind e
  apart_read r other = record { name = λ u m next class line. absurd (other (ap (λ (v : Token). v.class) (sym (name_is r next class)) ∙ class)) }

  pub apart_sign : {w : List ℕ} {e k : S} {t : Token} → Reads S Next behind Punctuator w e t k → IsTrue (allows Div Punctuator w) → Apart S Next behind e
  apart_sign {w} {e} {k} {t} h al =
      let al' : IsTrue (allows Div t.class t.text) = subst (λ c. IsTrue (allows Div c t.text)) (sym h.class) (subst (λ c. IsTrue (allows Div Punctuator c)) (sym h.text) al) in
      let r : ReadBy S Next behind Div e t k = record { next = h.next; allowed = al' } in
      apart_read r (λ c. (let clash : IdentifierName ≡ Punctuator = sym c ∙ h.class in cc))

  -- behind a line break
  pub apart_break : {e k : S} {t : Token} → Next e t k → t.after_break ≡ true → Apart S Next behind e
  apart_break {e} {k} {t} next broken = record { name = λ u m nx class line. absurd (false≢true (sym line ∙ det.break e u t m k nx next ∙ broken)) }

  -- where an operator is read
  pub apart_operator : {g : Goal} {e k : S} {t : Token} → ReadBy S Next behind g e t k → (operation t ≡ op_none → ⊥) → Apart S Next behind e
  apart_operator r some = record { name = λ u m next class line. an_operator (λ none. some (ap operation (sym (name_is r next class)) ∙ none)) }

  pub apart_in : {e k : S} {t : Token} → Reads S Next behind IdentifierName (codes "in") e t k → Apart S Next behind e
  apart_in {e} {k} {t} h =
      let r : ReadBy S Next behind Div e t k = record { next = h.next; allowed = det.free Div e t k h.next (ap is_free h.class) } in
      apart_operator r (λ none. (let clash : op_binary false Relational Shift ≡ op_none = sym (makes t h.class h.text refl) ∙ none in cc))

  -- the `of` of a `for`, behind which no `=>` stands
  pub apart_of : {e k : S} {t : Token} → Reads S Next behind IdentifierName (codes "of") e t k → ((v : Token) (j : S) → Reads S Next behind Punctuator (codes "=>") k v j → ⊥) → Apart S Next behind e
  apart_of {e = e} {k = k} {t = t} h no_arrow = record { name = λ u m next class line. an_of (ap (λ (v : Token). v.text) (same next class).0 ∙ h.text) (λ v j arrow. no_arrow v j (subst (λ z. Reads S Next behind Punctuator (codes "=>") z v j) (same next class).1 arrow)) }
    where
      same : {u : Token} {m : S} → Next e u m → u.class ≡ IdentifierName → (u ≡ t) × (m ≡ k)
      same {u} {m} next class = det.same Div e u t m k next h.next (det.free Div e u m next (ap is_free class)) (det.free Div e t k h.next (ap is_free h.class))

  -- where a `;` may be missing, but behind a `do`
  apart_missing : {e k : S} {t : Token} (b : Bool) → Next e t k → (not (is_semicolon t) && ((is_end t || (is_sign t && is t.text "}")) || (t.after_break && b))) ≡ true → Apart S Next behind e
  apart_missing {e} {k} {t} b next h = of (either _ _ (and_parts (not (is_semicolon t)) _ h).1)
    where
      of : ((is_end t || (is_sign t && is t.text "}")) ≡ true) ⊎ ((t.after_break && b) ≡ true) → Apart S Next behind e
      of (inr u) = apart_break next (and_parts t.after_break b u).0
      of (inl u) = elim (either (is_end t) (is_sign t && is t.text "}") u) [
        | inl ends ↦ apart_read {g = Div} (record { next = next; allowed = det.free Div e t k next (ap is_free (ended_class t ends)) }) (λ c. (let clash = sym c ∙ ended_class t ends in cc))
        | inr brace ↦ (let v = and_parts (is_sign t) (is t.text "}") brace in apart_sign (record { next = next; class = signed_class t v.0; text = (bytes_eq-Decides t.text (codes "}")).0 v.1 }) refl)
      ]

  -- where a `;` stands or may be missing behind an expression
  pub apart_ended : {x : Ending} {e k : S} → is_behind_expression x ≡ true → Step S Next behind (ending x) e k → Apart S Next behind e
  apart_ended h (explicit r) = apart_sign r refl
  apart_ended {x = of_do} h (implicit next may) = absurd (false≢true h)
  apart_ended {x = of_export} h (implicit next may) = apart_missing _ next may
  apart_ended {x = Rattle.language.specs.Pieces.behind y} h (implicit next may) = apart_missing _ next may
  apart_ended {x = behind_value y} h (implicit next may) = apart_missing _ next may
  apart_ended {x = behind_key w b} h (implicit next may) = apart_missing _ next may

  linked_some : {f : Start} {k : Kind} {g : Flags} {ps : Parts} {b : Role} {rest : List (PieceOf Role)} {x : Operator} → Linked f k g ps b rest x → x ≡ op_none → ⊥
  linked_some (link_dot k o c fc b e) h = cc
  linked_some (link_index k o c fc b e) h = cc
  linked_some (link_call k o fc b e) h = cc
  linked_some (link_chained_name k o c b e) h = cc
  linked_some (link_chained_index k o c b e) h = cc
  linked_some (link_chained_call k o b e) h = cc

  -- so it is inside of an expression, behind what stands on its spine
  pub apart_inside : {o : ℕ} {s0 e : S} {y : Rank} {i : Bool} {f : Start} {n : Tree} {P : List Pair} {h : Rank} {j : Bool} {f' : Start} {m : Tree} {mid : S} {Q : List Pair} →
      Grows S Next behind o s0 (expr y i f) n e P (expr h j f') m mid Q → Apart S Next behind e → Apart S Next behind mid
  apart_inside {o} {s0} {e} {y} {i} {f} {n} {P} {h} {j} {f'} {m} {mid} {Q} gs a = record { name = λ t x next class line. of next class line (onward S Next behind det refl (record { next = next; allowed = det.free Div mid t x next (ap is_free class) }) gs) }
    where
      of : {t : Token} {x : S} → Next mid t x → t.class ≡ IdentifierName → t.after_break ≡ false → Onward S Next behind det o s0 (expr y i f) n e P (expr h j f') m mid Q t → NameBehind S Next behind t x
      of {t} {x} next class line (ended role tree place pairs) = a.name t x (subst (λ z. Next z t x) (sym place) next) class line
      of next class line (by_led led some op lean d pl grown gs') = an_operator (λ none. some (sym op ∙ none))
      of next class line (by_link linked op lean d pl grown gs') = an_operator (λ none. linked_some linked (sym op ∙ none))
      of next class line (by_chain b tk lean pl grown gs') = absurd (no_spine b)

  -- behind a name that ends an expression no word `function` stands on its line, and no name with `=>` behind it
  pub no_function_behind : {e k : S} {t : Token} → Apart S Next behind e → Reads S Next behind IdentifierName (codes "function") e t k → t.after_break ≡ false → ⊥
  no_function_behind {e} {k} {t} a r line = of (a.name t k r.next r.class line)
    where
      of : NameBehind S Next behind t k → ⊥
      of (an_operator some) = some (makes t r.class r.text refl)
      of (an_of text none) = false≢true (sym (ap (λ w. is w "of") (sym text ∙ r.text)))

  pub no_arrow_behind : {w : List ℕ} {e k x : S} {t v : Token} → Apart S Next behind e → Reads S Next behind IdentifierName w e t k → is_reserved w ≡ false → t.after_break ≡ false → Reads S Next behind Punctuator (codes "=>") k v x → ⊥
  no_arrow_behind {w} {e} {k} {x} {t} {v} a r free line arrow = of (a.name t k r.next r.class line)
    where
      of : NameBehind S Next behind t k → ⊥
      of (an_operator some) = some (makes t r.class r.text (unreserved w free))
      of (an_of text none) = none v x arrow
