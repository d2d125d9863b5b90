-- Leftmost parts that begin with `yield`.
use Rattle.std.proofs.Common.{◌≡◌, inl, inr, ℕ, suc, ◌≤◌, max, Bool, true, false, List, [], ◌∷◌, refl, sym, ap, ◌∙◌, subst, arith}
use Rattle.std.specs.Prelude.{IsTrue, codes, ◌&&◌, ◌||◌, nat_eq, slice_index_or, ◌⊎◌}
use Rattle.std.proofs.lemmas.Bool.{and_parts, false≢true}
use Rattle.tokens.specs.declared.token.TokenClass.{TokenClass}
use Rattle.tokens.specs.declared.token.TokenClass.TheVariants.{Punctuator, Template, End}
use Rattle.tokens.specs.declared.token.Goal.{Goal}
use Rattle.tokens.specs.Goals.{allows}
use Rattle.tokens.specs.Alphabet.{one_of, begins_with}
use Rattle.tree.specs.declared.kind.Kind.TheVariants.{YieldExpression}
use Rattle.tree.specs.declared.kind.Form.{Form}
use Rattle.tree.specs.declared.kind.Pair.{Pair}
use Rattle.tree.specs.Tree.{Tree, node, Parts, height}
use Rattle.language.specs.declared.Rank.{Rank}
use Rattle.language.specs.declared.Rank.TheVariants.{Assignment}
use Rattle.language.specs.declared.Start.{Start}
use Rattle.language.specs.declared.Start.TheVariants.{Any}
use Rattle.language.specs.Vocabulary.{among}
use Rattle.language.specs.Pieces.{expr}
use Rattle.language.specs.Token.{Token}
use Rattle.language.specs.Edges.{is_sign, is_sign_class, is_end, begins, begins_no_operand}
use Rattle.language.specs.ExpressionStart.{ExpressionStart, no_start, with_yield, expression_start, expression_start_by}
use Rattle.language.specs.Promises.{is_free, IsDetermined, ReadBy, Stops, Found}
use Rattle.language.specs.Following.{IsAlike}
use Rattle.language.specs.Derivation.{Reads, Placed}
use Rattle.language.proofs.table.Begins.{among_by}
use Rattle.language.proofs.climbing.LeftmostParts.{core_by}
use Rattle.language.proofs.climbing.OperatorLoop.{Climbing, grows_height}
use Rattle.language.proofs.climbing.BinaryTurns.{replaced}
use Rattle.language.proofs.climbing.FirstTurn.{Begun}
use Rattle.language.proofs.table.Reaches.{loose_of}
use Rattle.language.proofs.statements.MissingSemicolons.{ended_class}
use Rattle.language.proofs.texts.EarlierScripts.{opens_any, operand}
use Rattle.language.proofs.climbing.Yields.{yield_flags, YieldApart, YieldRest, with_operand, with_star, without, YieldCore, yield_core, YieldFound, operand_found, star_found, bare_found, yield_stops, climb_yield}
use Rattle.unambiguity_laws.proofs.Unique.{Unique, CoreStep, Climbed}
use Rattle.std.proofs.lemmas.Bool.Decides.{nat_tests}

-- what closes: the end, a `}`, or a sign
data Closes (t : Token) : Type 0 where
  ends : is_end t ≡ true → Closes t
  braces : begins t 125 ≡ true → Closes t
  signs : is_sign t ≡ true → among t.text (")" ∷ "]" ∷ "," ∷ ";" ∷ ":" ∷ []) ≡ true → Closes t

closes : (t : Token) → begins_no_operand t ≡ true → t.after_break ≡ false → Closes t
closes t h k = of t.after_break (is_end t) (begins t 125) (is_sign t) (among t.text (")" ∷ "]" ∷ "," ∷ ";" ∷ ":" ∷ [])) refl refl refl refl refl h
  where
    of : (a b c d e : Bool) → t.after_break ≡ a → is_end t ≡ b → begins t 125 ≡ c → is_sign t ≡ d → among t.text (")" ∷ "]" ∷ "," ∷ ";" ∷ ":" ∷ []) ≡ e → (a || (b || (c || (d && e)))) ≡ true → Closes t
    of true b c d e p q r s u h = absurd (false≢true (sym k ∙ p))
    of false true c d e p q r s u h = ends q
    of false false true d e p q r s u h = braces r
    of false false false true true p q r s u h = signs s u
    of false false false true false p q r s u h = absurd (false≢true h)
    of false false false false e p q r s u h = absurd (false≢true h)

sign_is : (c : TokenClass) → is_sign_class c ≡ true → c ≡ Punctuator
sign_is Punctuator e = refl
sign_is _ e = cc

brace_first : (w : List ℕ) → nat_eq (slice_index_or w 0 0) 125 ≡ true → begins_with (one_of "}") w ≡ true
brace_first [] h = absurd (false≢true h)
brace_first (c ∷ cs) h = h

first_brace : (w : List ℕ) → begins_with (one_of "}") w ≡ true → nat_eq (slice_index_or w 0 0) 125 ≡ true
first_brace [] h = absurd (false≢true h)
first_brace (c ∷ cs) h = h

is_brace : (c : ℕ) → nat_eq c 125 ≡ true → c ≡ 125
is_brace c h = grind (arith, nat_tests)

-- no operand begins with `}`, whether it is read as a sign or as a part of a template
brace_starts_none : (c : TokenClass) (w : List ℕ) → begins_with (one_of "}") w ≡ true → (c ≡ Punctuator) ⊎ (c ≡ Template) → expression_start_by c w ≡ no_start
brace_starts_none c [] h k = absurd (false≢true h)
brace_starts_none c (d ∷ w) h k = subst (λ x. expression_start_by c (x ∷ w) ≡ no_start) (sym (is_brace d (first_brace (d ∷ w) h))) (of k)
  where
    of : (c ≡ Punctuator) ⊎ (c ≡ Template) → expression_start_by c (125 ∷ w) ≡ no_start
    of (inl e) = ap (λ x. expression_start_by x (125 ∷ w)) e
    of (inr e) = ap (λ x. expression_start_by x (125 ∷ w)) e

no_opening : {x : ExpressionStart} → x ≡ no_start → opens_any x ≡ true → ⊥
no_opening e h = false≢true (sym (ap opens_any e) ∙ h)

module _ (S : Type 0) (Next : S → Token → S → Type 0) (behind : S → Token) (det : IsDetermined S Next behind) (alike : IsAlike S Next behind) where
  sign_allowed : (t : Token) (w : List ℕ) → t.class ≡ Punctuator → t.text ≡ w → IsTrue (allows Goal.RegExp Punctuator w) → IsTrue (allows Goal.RegExp t.class t.text)
  sign_allowed t w c e h = subst (λ z. IsTrue (allows Goal.RegExp z t.text)) (sym c) (subst (λ z. IsTrue (allows Goal.RegExp Punctuator z)) (sym e) h)

  listed_allowed : (w : List ℕ) → among w (")" ∷ "]" ∷ "," ∷ ";" ∷ ":" ∷ []) ≡ true → IsTrue (allows Goal.RegExp Punctuator w) × (expression_start_by Punctuator w ≡ no_start)
  listed_allowed w h = among_by (λ v. IsTrue (allows Goal.RegExp Punctuator v) × (expression_start_by Punctuator v ≡ no_start)) w (")" ∷ "]" ∷ "," ∷ ";" ∷ ":" ∷ []) h ((refl, refl), ((refl, refl), ((refl, refl), ((refl, refl), ((refl, refl), tt)))))

  -- the token by which an operand begins doesn't close
  operand_open : {x m k : S} {t u : Token} → Next x t m → Closes t → ReadBy S Next behind Goal.RegExp x u k → expression_start u ≡ no_start
  operand_open {x} {m} {k} {t} {u} nx (ends h) r =
      let c : t.class ≡ End = ended_class t h in
      let same : t ≡ u = (det.same Goal.RegExp x t u m k nx r.next (det.free Goal.RegExp x t m nx (ap is_free c)) r.allowed).0 in
      ap expression_start (sym same) ∙ ap (λ z. expression_start_by z t.text) c
  operand_open {x} {m} {k} {t} {u} nx (braces h) r =
      let b : begins_with (one_of "}") u.text ≡ true = alike.brace x u t k m r.next nx ∙ brace_first t.text h in
      brace_starts_none u.class u.text b (alike.sort x u k r.next b)
  operand_open {x} {m} {k} {t} {u} nx (signs h l) r =
      let c : t.class ≡ Punctuator = sign_is t.class h in
      let v = listed_allowed t.text l in
      let same : t ≡ u = (det.same Goal.RegExp x t u m k nx r.next (sign_allowed t t.text c refl v.0) r.allowed).0 in
      ap expression_start (sym same) ∙ ap (λ z. expression_start_by z t.text) c ∙ v.1

  star_no_close : {x m k : S} {t v : Token} → Next x t m → Closes t → Reads S Next behind Punctuator (codes "*") x v k → ⊥
  star_no_close {x} {m} {k} {t} {v} nx (ends h) r =
      let c : t.class ≡ End = ended_class t h in
      let same : t ≡ v = (det.same Goal.RegExp x t v m k nx r.next (det.free Goal.RegExp x t m nx (ap is_free c)) (sign_allowed v (codes "*") r.class r.text refl)).0 in
      let z : End ≡ Punctuator = sym c ∙ ap (λ (y : Token). y.class) same ∙ r.class in cc
  star_no_close {x} {m} {k} {t} {v} nx (braces h) r =
      false≢true (sym (ap (begins_with (one_of "}")) r.text) ∙ alike.brace x v t k m r.next nx ∙ brace_first t.text h)
  star_no_close {x} {m} {k} {t} {v} nx (signs h l) r =
      let c : t.class ≡ Punctuator = sign_is t.class h in
      let same : t ≡ v = (det.same Goal.RegExp x t v m k nx r.next (sign_allowed t t.text c refl (listed_allowed t.text l).0) (sign_allowed v (codes "*") r.class r.text refl)).0 in
      false≢true (sym (ap (λ (y : Token). among y.text (")" ∷ "]" ∷ "," ∷ ";" ∷ ":" ∷ [])) same ∙ ap (λ w. among w (")" ∷ "]" ∷ "," ∷ ";" ∷ ":" ∷ [])) r.text) ∙ l)

  -- behind `yield` only one of the three stands
  pub yield_apart : YieldApart S Next behind det
  yield_apart = record {
    bare_operand = λ {o} {j} {n} {x} {m} {k} {e} {t} {v} {P} nx bare nx' line d. (
        let a = operand S Next behind det d in
        no_opening (sym a.begins.opens ∙ operand_open nx (closes t bare (det.break x t v m k nx nx' ∙ line)) a.begins.read) a.any);
    bare_star = λ {x} {m} {k} {t} {v} nx bare r line. star_no_close nx (closes t bare (det.break x t v m k nx r.next ∙ line)) r;
    star_operand = λ {o} {j} {n} {x} {k} {e} {v} {P} r d. (
        let a = operand S Next behind det d in
        let same = (det.same Goal.RegExp x v a.begins.token k a.begins.mid r.next a.begins.read.next (sign_allowed v (codes "*") r.class r.text refl) a.begins.read.allowed).0 in
        no_opening (sym a.begins.opens ∙ ap expression_start (sym same) ∙ ap (λ z. expression_start_by z v.text) r.class ∙ ap (expression_start_by Punctuator) r.text) a.any);
  }

module _ (S : Type 0) (Next : S → Token → S → Type 0) (behind : S → Token) (det : IsDetermined S Next behind) (alike : IsAlike S Next behind) {h : ℕ} (u : Unique S Next behind det h) where
  -- `yield`, with the operand that is the only one, or with none
  pub yield_step : CoreStep S Next behind det h with_yield
  yield_step = record { gives = λ {o} {y} {i} {f} {n} {s0} {e} {P} {q} {j} {m} {mid} {m0} {Q} {t} no_new inner low b r op. of low b r op (yield_core S Next behind det r (core_by S Next behind det r op b.core)) }
    where
      of : {o : ℕ} {y : Rank} {i : Bool} {f : Start} {n : Tree} {s0 e : S} {P : List Pair} {q : Rank} {j : Bool} {m : Tree} {mid x : S} {Q : List Pair} {t : Token} → height n ≤ suc h → Begun S Next behind det o s0 y i f n e P q j m mid Q → ReadBy S Next behind Goal.RegExp s0 t x → expression_start t ≡ with_yield →
          YieldCore S Next behind det o q j f m s0 x mid Q t → Climbed S Next behind det o y i f s0 m mid Q
      of {o} {y} {i} {f} {n} {s0} {e} {P} {q} {j} {m} {mid} {x} {Q} {t} low b r op c = record {
        symbol = Assignment;
        climbing = subst (λ z. Climbing S Next behind det o y i f Assignment s0 z mid Q) (sym c.tree)
            (climb_yield S Next behind det (yield_apart S Next behind det alike) r c.word c.class op (b.reached.taken Assignment c.stands) (found b c.rest c.tree) (replaced S Next behind det (subst (λ z. Placed S Next behind (expr q j f) z s0 mid) c.tree c.places)));
      }
        where
          inside : j ≡ i
          inside = (b.reached.same_in (loose_of q Assignment c.stands refl)).1

          below : height m ≤ height n
          below = grows_height S Next behind det b.grows

          found : {d : Form} {ps : Parts} {R : List Pair} → Begun S Next behind det o s0 y i f n e P q j m mid R → YieldRest S Next behind det o j x mid d ps R → m ≡ node YieldExpression [] (yield_flags d) c.st c.en ps → YieldFound S Next behind det o i x mid d ps R
          found {d} {R = R} g (with_operand {u = v} nx line d1) tree =
              let high : height m ≡ suc (max (height v) 0) = ap height tree in
              operand_found nx line (subst (λ k. Found S Next behind o Assignment k Any x mid v R) inside (u.expressions.found (omega (arith, high, below, low)) (λ z. cc) (λ z. cc) d1 (yield_stops S Next behind det (yield_apart S Next behind det alike) r c.word c.class op g c.stands tree d1)))
          found {d} {R = R} g (with_star {u = v} {m = k0} r1 line d1) tree =
              let high : height m ≡ suc (max (height v) 0) = ap height tree in
              star_found r1 line (subst (λ k. Found S Next behind o Assignment k Any k0 mid v R) inside (u.expressions.found (omega (arith, high, below, low)) (λ z. cc) (λ z. cc) d1 (yield_stops S Next behind det (yield_apart S Next behind det alike) r c.word c.class op g c.stands tree d1)))
          found g (without nx left here) tree = bare_found nx left here
