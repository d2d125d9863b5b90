-- What stands behind `...`: a spread of an expression, a rest of a pattern (ECMA-262 12.2.5, 12.2.6, 12.15.5, 13.3.3).
use Rattle.std.proofs.Common.{◌≡◌, ℕ, Bool, true, false, cond, List, [], ◌∷◌, refl, sym, ap, ◌∙◌, subst}
use Rattle.std.specs.Prelude.{IsTrue, Option, Some, None, codes, ◌&&◌}
use Rattle.tokens.specs.declared.token.TokenClass.TheVariants.{Punctuator}
use Rattle.tokens.specs.declared.token.Goal.{Goal}
use Rattle.tokens.specs.declared.token.Goal.TheVariants.{Div}
use Rattle.tokens.specs.Goals.{allows}
use Rattle.tree.specs.declared.kind.Kind.{Kind}
use Rattle.tree.specs.declared.kind.Kind.TheVariants.{ArrayPattern, ObjectPattern, AssignmentPattern, SpreadElement, RestElement}
use Rattle.tree.specs.declared.kind.Pair.{Pair}
use Rattle.tree.specs.Tree.{Tree, node, Parts, none, part, kind_of, height, bare, bare_parts, plain}
use Rattle.tree.proofs.Lean.{lean_flags, lean_text}
use Rattle.language.specs.declared.Rank.{Rank}
use Rattle.language.specs.declared.Rank.TheVariants.{Assignment, Primary}
use Rattle.language.specs.declared.Start.{Start}
use Rattle.language.specs.declared.Start.TheVariants.{Any}
use Rattle.language.specs.FirstPart.{lead as lead_kind}
use Rattle.language.specs.Vocabulary.{is_pattern, is_spread, is_rest}
use Rattle.language.specs.Pieces.{Role, expr, pattern, rest, spread, Spelling, sign, at, only, put, put_at, bound, with_default}
use Rattle.language.specs.Token.{Token}
use Rattle.language.specs.Expressions.{assignment}
use Rattle.language.specs.Promises.{IsDetermined}
use Rattle.language.specs.Grammar.{ways, spellings, rests}
use Rattle.language.specs.Derivation.{Among, first, Reads, Spells, direct, grouped, step, token, placed}
use Rattle.language.proofs.lower_bound.Domination.{settled}
use Rattle.language.proofs.table.ViewIsComplete.{way_of, one}
use Rattle.language.proofs.table.Productions.{way_from}
use Rattle.language.proofs.table.Begins.{retell}
use Rattle.language.proofs.table.TokenFirstWays.{opens}
use Rattle.language.proofs.list_loops.FirstPieces.{run_token}
use Rattle.language.proofs.climbing.RightOperands.{one_part}
use Rattle.language.proofs.climbing.OperatorNodes.{kind_bare, last_runs}
use Rattle.language.proofs.climbing.Supers.{none_begins}
use Rattle.language.proofs.climbing.BinaryTurns.{same_node}
use Rattle.language.proofs.covers.PatternsByToken.{no_pattern}
use Rattle.language.proofs.covers.CoverElements.{Simple, simple_expression, ElementForm, bare_pattern, bare_simple, pattern_default, simple_default}

some_same : {a b : Role} → Some a ≡ Some b → a ≡ b
some_same e = cc

-- a default
abbrev pub has_default : Kind → Bool
has_default AssignmentPattern = true
has_default _ = false

pub plain_bound : (b : Bool) (k : Kind) {a : Role} → has_default k ≡ false → with_default b k ≡ Some a → bound b k ≡ Some a
plain_bound b AssignmentPattern f h = cc
plain_bound b _ f h = h

pub bound_plain : (b : Bool) (k : Kind) {a : Role} → bound b k ≡ Some a → has_default k ≡ false
bound_plain true AssignmentPattern h = cc
bound_plain false AssignmentPattern h = cc
bound_plain b _ h = refl

pub default_no_rest : (b : Bool) (k : Kind) {a : Role} → with_default b k ≡ Some a → is_rest k ≡ false
default_no_rest true RestElement h = cc
default_no_rest false RestElement h = cc
default_no_rest b _ h = refl

-- the way of a rest, by the kind of what is bound
rest_same : (b x : Bool) (ps : Parts) → (k : Kind) → lead_kind ps ≡ k → rests b x RestElement ps ≡ cond (x && is_pattern k) [] (only (sign "..." ∷ put_at (bound b (lead_kind ps)) ∷ []))
rest_same b x none k h = ap (λ c. cond (x && is_pattern c) [] (only (sign "..." ∷ put_at (bound b Rattle.tree.specs.declared.kind.Kind.TheVariants.Program) ∷ []))) h
rest_same b x (Rattle.tree.specs.Tree.gap ps) k h = ap (λ c. cond (x && is_pattern c) [] (only (sign "..." ∷ put_at (bound b Rattle.tree.specs.declared.kind.Kind.TheVariants.Program) ∷ []))) h
rest_same b x (part (node ArrayPattern w g s e qs) ps) k h = ap (λ c. cond (x && is_pattern c) [] (only (sign "..." ∷ put_at (bound b ArrayPattern) ∷ []))) h
rest_same b x (part (node ObjectPattern w g s e qs) ps) k h = ap (λ c. cond (x && is_pattern c) [] (only (sign "..." ∷ put_at (bound b ObjectPattern) ∷ []))) h
rest_same b x (part (node l w g s e qs) ps) k h = ap (λ c. cond (x && is_pattern c) [] (only (sign "..." ∷ put_at (bound b l) ∷ []))) h

module _ (S : Type 0) (Next : S → Token → S → Type 0) (behind : S → Token) (det : IsDetermined S Next behind) where
  -- a node with `...` before its one part
  pub record Dotted (K : Kind) (o : ℕ) (n : Tree) (s e : S) (P : List Pair) : Type 0 where
    pub st : ℕ
    pub en : ℕ
    pub inner : Tree
    pub role : Role
    pub x : S
    pub sign : Token
    pub tree : n ≡ node K [] plain st en (part inner none)
    pub starts : sign.start ≡ st
    pub stops : (behind e).stop ≡ en
    pub reads : Reads S Next behind Punctuator (codes "...") s sign x
    pub value : Spells ways S Next behind o role inner x e P

  pub spread_form : {o : ℕ} {n : Tree} {s e : S} {P : List Pair} → Spells ways S Next behind o spread n s e P → (u : Dotted SpreadElement o n s e P) × (u.role ≡ expr Assignment true Any)
  unfolding spellings
  spread_form {n = node SpreadElement w g st en ps} {s} (direct qs h (placed {t = t} {m = m} nx p) d) =
      let v = way_of h in
      let q = run_token S Next behind (retell S Next behind (v.is ∙ ap (settled spread) (one v.listed)) d) in
      let r = one_part S Next behind det q.runs in (
        record {
          st = st;
          en = en;
          inner = r.operand;
          role = expr Assignment true Any;
          x = q.mid;
          sign = q.sign;
          tree = same_node refl (lean_text (bare (node SpreadElement w g st en ps)) v.lean refl) (lean_flags (bare (node SpreadElement w g st en ps)) v.lean) refl refl r.parts;
          starts = det.start s q.sign t q.mid m q.reads.next nx ∙ ap (λ (c : ℕ × ℕ). c.0) p;
          stops = ap (λ (c : ℕ × ℕ). c.1) p;
          reads = q.reads;
          value = r.spelled;
        },
        refl,
      )
  spread_form {n = node _ w g st en ps} (direct qs h pl d) = elim ((way_of h).listed) [ ]

  -- a spread from its part
  pub spread_spells : {o : ℕ} {u : Tree} {s x e : S} {t : Token} {P : List Pair} → Reads S Next behind Punctuator (codes "...") s t x → Spells ways S Next behind o (expr Assignment true Any) u x e P →
      Spells ways S Next behind o spread (node SpreadElement [] plain t.start (behind e).stop (part u none)) s e P
  unfolding spellings
  spread_spells {u = u} {e = e} {t = t} h d =
      let y : Spelling = at Primary (sign "..." ∷ assignment ∷ []) in
      direct (settled spread y) (way_from spread (node SpreadElement [] plain t.start (behind e).stop (part u none)) y refl first refl) (placed h.next refl) (step (token h) (last_runs S Next behind d))

  -- a rest: what stands behind `...` is bound, without a default
  pub record RestForm (b x : Bool) (o : ℕ) (n : Tree) (s e : S) (P : List Pair) : Type 0 where
    pub dotted : Dotted RestElement o n s e P
    pub it_is : bound b (kind_of dotted.inner) ≡ Some dotted.role
    pub fits : (x && is_pattern (kind_of dotted.inner)) ≡ false

  pub rest_form : {b x : Bool} {o : ℕ} {n : Tree} {s e : S} {P : List Pair} → Spells ways S Next behind o (rest b x) n s e P → RestForm b x o n s e P
  unfolding spellings
  rest_form {b} {x} {o} {n = node RestElement w g st en ps} {s} {e} {P} (direct qs h (placed {t = t} {m = m} nx p) d) =
      cases (x && is_pattern (lead_kind (bare_parts ps))) refl (bound b (lead_kind (bare_parts ps))) refl (subst (λ c. Among (way_of h).spelling c) (rest_same b x (bare_parts ps) (lead_kind (bare_parts ps)) refl) (way_of h).listed)
    where
      cases : (c : Bool) → (x && is_pattern (lead_kind (bare_parts ps))) ≡ c → (y : Option Role) → bound b (lead_kind (bare_parts ps)) ≡ y → Among (way_of h).spelling (cond c [] (only (sign "..." ∷ put_at y ∷ []))) → RestForm b x o (node RestElement w g st en ps) s e P
      cases true c y k l = elim l [ ]
      cases false c None k l =
          let q = run_token S Next behind (retell S Next behind ((way_of h).is ∙ ap (settled (rest b x)) (one l)) d) in absurd (Rattle.language.proofs.list_loops.FirstPieces.run_never S Next behind q.runs)
      cases false c (Some a) k l =
          let v = way_of h in
          let q = run_token S Next behind (retell S Next behind (v.is ∙ ap (settled (rest b x)) (one l)) d) in
          let r = one_part S Next behind det q.runs in
          let kind : lead_kind (bare_parts ps) ≡ kind_of r.operand = ap (λ c. lead_kind (bare_parts c)) r.parts ∙ kind_bare r.operand in
          record {
            dotted = record {
              st = st;
              en = en;
              inner = r.operand;
              role = a;
              x = q.mid;
              sign = q.sign;
              tree = same_node refl (lean_text (bare (node RestElement w g st en ps)) v.lean refl) (lean_flags (bare (node RestElement w g st en ps)) v.lean) refl refl r.parts;
              starts = det.start s q.sign t q.mid m q.reads.next nx ∙ ap (λ (c : ℕ × ℕ). c.0) p;
              stops = ap (λ (c : ℕ × ℕ). c.1) p;
              reads = q.reads;
              value = r.spelled;
            };
            it_is = ap (bound b) (sym kind) ∙ k;
            fits = ap (λ z. x && is_pattern z) (sym kind) ∙ c;
          }
  rest_form {n = node _ w g st en ps} (direct qs h pl d) = elim ((way_of h).listed) [ ]

  -- and a rest from its part
  pub rest_spells : (b x : Bool) {o : ℕ} {a : Role} {u : Tree} {s z e : S} {t : Token} {P : List Pair} → bound b (kind_of u) ≡ Some a → (x && is_pattern (kind_of u)) ≡ false → Reads S Next behind Punctuator (codes "...") s t z → Spells ways S Next behind o a u z e P →
      Spells ways S Next behind o (rest b x) (node RestElement [] plain t.start (behind e).stop (part u none)) s e P
  unfolding spellings
  rest_spells b x {o} {a} {u} {s} {z} {e} {t} it fits h d =
      let y : Spelling = at Primary (sign "..." ∷ put a ∷ []) in
      let n : Tree = node RestElement [] plain t.start (behind e).stop (part u none) in
      direct (settled (rest b x) y) (way_from (rest b x) n y refl (subst (λ c. Among y c) (sym (rest_same b x (part (bare u) none) (kind_of u) (kind_bare u))) (there (x && is_pattern (kind_of u)) fits (bound b (kind_of (bare u))) (ap (bound b) (kind_bare u) ∙ it))) refl) (placed h.next refl) (step (token h) (last_runs S Next behind d))
    where
      there : (c : Bool) → c ≡ false → (w : Option Role) → w ≡ Some a → Among (at Primary (sign "..." ∷ put a ∷ [])) (cond c [] (only (sign "..." ∷ put_at w ∷ [])))
      there true k w l = cc
      there false k None l = cc
      there false k (Some c) l = subst (λ v. Among (at Primary (sign "..." ∷ put a ∷ [])) (only (sign "..." ∷ put_at (Some v) ∷ []))) (sym (some_same l)) first

  -- no expression is a spread
  pub expression_kind : {o : ℕ} {y : Rank} {i : Bool} {f : Start} {n : Tree} {s e : S} {P : List Pair} → Spells ways S Next behind o (expr y i f) n s e P → is_spread (kind_of n) ≡ false
  unfolding spellings Rattle.language.specs.Expressions.expressions
  expression_kind (grouped p d q) = expression_kind d
  expression_kind {n = node SpreadElement w g st en ps} (direct qs h pl d) = elim ((way_of h).listed) [ ]
  expression_kind {n = node _ w g st en ps} (direct qs h pl d) = refl

  -- two signs at one place are the same
  pub two_texts : {w w' : List ℕ} {s e e' : S} {t t' : Token} → IsTrue (allows Div Punctuator w) → IsTrue (allows Div Punctuator w') → Reads S Next behind Punctuator w s t e → Reads S Next behind Punctuator w' s t' e' → w ≡ w'
  two_texts {w} {w'} {s} {e} {e'} {t} {t'} al al' h k =
      let a : IsTrue (allows Div t.class t.text) = subst (λ v. IsTrue (allows Div v t.text)) (sym h.class) (subst (λ v. IsTrue (allows Div Punctuator v)) (sym h.text) al) in
      let a' : IsTrue (allows Div t'.class t'.text) = subst (λ v. IsTrue (allows Div v t'.text)) (sym k.class) (subst (λ v. IsTrue (allows Div Punctuator v)) (sym k.text) al') in
      sym h.text ∙ ap (λ (v : Token). v.text) (det.same Div s t t' e e' h.next k.next a a').0 ∙ k.text

  -- behind `...` before it, nothing of an element stands
  module _ {s x : S} {t : Token} (dots : Reads S Next behind Punctuator (codes "...") s t x) where
    no_expression : {o : ℕ} {n : Tree} {e : S} {P : List Pair} → Spells ways S Next behind o (expr Assignment true Any) n s e P → ⊥
    no_expression d =
        let al : IsTrue (allows Goal.RegExp t.class t.text) = subst (λ c. IsTrue (allows Goal.RegExp c t.text)) (sym dots.class) (subst (λ z. IsTrue (allows Goal.RegExp Punctuator z)) (sym dots.text) refl) in
        none_begins S Next behind det (record { next = dots.next; allowed = al }) (opens t dots.class dots.text refl) d

    no_simple : (b : Bool) {o : ℕ} {n : Tree} {e : S} {P : List Pair} → Simple S Next behind det b o n s e P → ⊥
    no_simple b u = no_expression (simple_expression S Next behind det b u)

    no_bare : (b : Bool) {o : ℕ} {n : Tree} {e : S} {P : List Pair} → Spells ways S Next behind o (pattern b Any) n s e P → ⊥
    no_bare b {o} {n} {e} {P} d = (no_pattern S Next behind det {b = b} {f = Any} {s = s} (λ t' m' h. of (two_texts refl refl dots h)) (λ t' m' h. of' (two_texts refl refl dots h))).nothing o e n P d
      where
        of : codes "..." ≡ codes "[" → ⊥
        of h = cc

        of' : codes "..." ≡ codes "{" → ⊥
        of' h = cc

    pub no_element : (b : Bool) {o : ℕ} {n : Tree} {e : S} {P : List Pair} → ElementForm S Next behind det b o n s e P → ⊥
    no_element b (bare_pattern d) = no_bare b d
    no_element b (bare_simple u) = no_simple b u
    no_element b (pattern_default u) = no_bare b u.stands
    no_element b (simple_default u) = no_simple b u.stands

    pub no_plain_expression : {o : ℕ} {n : Tree} {e : S} {P : List Pair} → Spells ways S Next behind o (expr Assignment true Any) n s e P → ⊥
    no_plain_expression d = no_expression d
