-- Keys of properties: the only one where one was read; and what stands behind it tells the property.
use Rattle.std.proofs.Common.{◌≡◌, ℕ, Bool, true, false, List, [], ◌∷◌, refl, sym, ap, ◌∙◌, subst}
use Rattle.std.specs.Prelude.{IsTrue, codes, if◌then◌else◌}
use Rattle.std.specs.Bool.{beq}
use Rattle.tokens.specs.Alphabet.{one_of, begins_with}
use Rattle.tokens.specs.declared.token.TokenClass.{TokenClass}
use Rattle.tokens.specs.declared.token.TokenClass.TheVariants.{IdentifierName, Punctuator}
use Rattle.tokens.specs.declared.token.Goal.{Goal}
use Rattle.tokens.specs.declared.token.Goal.TheVariants.{Div}
use Rattle.tokens.specs.Goals.{allows}
use Rattle.tree.specs.declared.kind.Kind.TheVariants.{Identifier}
use Rattle.tree.specs.declared.kind.Pair.{Pair}
use Rattle.tree.specs.Tree.{Tree, node, Parts, none, kind_of, bare_parts, plain}
use Rattle.language.specs.declared.Rank.TheVariants.{Assignment, Primary}
use Rattle.language.specs.declared.Start.TheVariants.{Any}
use Rattle.language.specs.Pieces.{expr, name, key, shorthand_key, Spelling, ahead, at}
use Rattle.language.specs.Token.{Token}
use Rattle.language.specs.Promises.{is_free, IsDetermined, Found, FoundAt}
use Rattle.language.specs.Grammar.{ways, spellings}
use Rattle.language.specs.Derivation.{first, Reads, Spells, direct, Runs, step, done, seen, placed}
use Rattle.language.proofs.lower_bound.Domination.{settled}
use Rattle.language.proofs.table.ViewIsComplete.{way_of, one}
use Rattle.language.proofs.table.Productions.{way_from}
use Rattle.language.proofs.table.Begins.{retell}
use Rattle.language.proofs.list_loops.FirstPieces.{run_none}
use Rattle.language.proofs.climbing.BinaryTurns.{same_node}
use Rattle.language.proofs.climbing.Conditionals.{stops_before, same_sign}
use Rattle.language.proofs.climbing.Leaves.{name_form}
use Rattle.language.proofs.table.PropertyNameWays.{is_key_class, key_free, key_form, word_key}
use Rattle.language.proofs.covers.CoverSpreads.{two_texts}
use Rattle.language.proofs.covers.CoverProperties.{KeyAt, plain_key, computed_key}

no_sign : (c : TokenClass) → is_key_class c ≡ true → c ≡ Punctuator → ⊥
no_sign Punctuator h e = cc
no_sign _ h e = cc

module _ (S : Type 0) (Next : S → Token → S → Type 0) (behind : S → Token) (det : IsDetermined S Next behind) where
  -- a key and a sign aren't read at one place: a key's token is read by every goal
  pub key_or_sign : {o : ℕ} {n : Tree} {w : List ℕ} {s e e' : S} {t : Token} {P : List Pair} → IsTrue (allows Goal.RegExp Punctuator w) → Spells ways S Next behind o key n s e P → Reads S Next behind Punctuator w s t e' → ⊥
  key_or_sign {w = w} {s} {e} {e'} {t} al d k =
      let u = key_form S Next behind det d in
      let v = u.leaf.reads in
      let a = subst (λ c. IsTrue (allows Goal.RegExp c t.text)) (sym k.class) (subst (λ c. IsTrue (allows Goal.RegExp Punctuator c)) (sym k.text) al) in
      let same = (det.same Goal.RegExp s u.leaf.sign t e e' v.next k.next (det.free Goal.RegExp s u.leaf.sign e v.next (ap is_free v.class ∙ key_free u.class u.is_key)) a).0 in
      no_sign u.class u.is_key (sym v.class ∙ ap (λ (x : Token). x.class) same ∙ k.class)

  -- unless it is the bracket of a computed key
  pub key_at_sign : {c : Bool} {o : ℕ} {n : Tree} {w : List ℕ} {s e e' : S} {t : Token} {P : List Pair} → IsTrue (allows Goal.RegExp Punctuator w) → IsTrue (allows Div Punctuator w) → (w ≡ codes "[" → ⊥) → KeyAt S Next behind det o n s e P c → Reads S Next behind Punctuator w s t e' → ⊥
  key_at_sign al al' other (plain_key d) k = key_or_sign al d k
  key_at_sign al al' other (computed_key h d l) k = other (two_texts S Next behind det al' refl k h)

  -- a name is a key
  pub name_key : {o : ℕ} {n : Tree} {s e : S} {P : List Pair} → Spells ways S Next behind o name n s e P → Spells ways S Next behind o key n s e P
  name_key {o} {n} {s} {e} {P} d =
      let u = (name_form S Next behind det d).0 in
      subst (λ c. Spells ways S Next behind o key c s e P) (sym u.tree) (subst (λ c. Spells ways S Next behind o key (node Identifier u.text plain u.sign.start (behind e).stop none) s e c) (sym u.pairs) (word_key S Next behind u.reads))

  -- the only key here
  pub record KeyFound (c : Bool) (o : ℕ) (s k : S) (n : Tree) (P : List Pair) : Type 0 where
    pub spelled : KeyAt S Next behind det o n s k P c
    pub only : (c' : Bool) (o' : ℕ) (e' : S) (n' : Tree) (P' : List Pair) → KeyAt S Next behind det o' n' s e' P' c' → (c' ≡ c) × (e' ≡ k) × (n' ≡ n) × (P' ≡ P)

  pub plain_key_found : {o : ℕ} {s k : S} {n : Tree} {P : List Pair} → FoundAt S Next behind o key s k n P → KeyFound false o s k n P
  plain_key_found {o} {s} {k} {n} {P} found = record { spelled = plain_key found.spelled; only = λ c' o' e' n' P' d. of d }
    where
      of : {c' : Bool} {o' : ℕ} {e' : S} {n' : Tree} {P' : List Pair} → KeyAt S Next behind det o' n' s e' P' c' → (c' ≡ false) × (e' ≡ k) × (n' ≡ n) × (P' ≡ P)
      of {c'} {o'} {e'} {n'} {P'} (plain_key d) = let u = found.only o' e' n' P' d in (refl, u.0, u.1, u.2)
      of (computed_key h d l) = absurd (key_or_sign refl found.spelled h)

  pub computed_key_found : {o : ℕ} {s x m k : S} {n : Tree} {P : List Pair} {t u : Token} → Reads S Next behind Punctuator (codes "[") s t x → Found S Next behind o Assignment true Any x m n P → Reads S Next behind Punctuator (codes "]") m u k → KeyFound true o s k n P
  computed_key_found {o} {s} {x} {m} {k} {n} {P} {t} {u} opens found closes = record { spelled = computed_key opens found.spelled closes; only = λ c' o' e' n' P' d. of d }
    where
      inside : {o' : ℕ} {e' x' m' : S} {n' : Tree} {P' : List Pair} {t' u' : Token} → Reads S Next behind Punctuator (codes "[") s t' x' → Spells ways S Next behind o' (expr Assignment true Any) n' x' m' P' → Reads S Next behind Punctuator (codes "]") m' u' e' → (e' ≡ k) × (n' ≡ n) × (P' ≡ P)
      inside {o'} {e'} {x'} {m'} {n'} {P'} {t'} {u'} h d l =
          let there = subst (λ z. Spells ways S Next behind o' (expr Assignment true Any) n' z m' P') (same_sign S Next behind det h opens refl).1 d in
          let same = found.only o' m' n' P' there (stops_before S Next behind det Assignment true n' l refl refl (λ c v. refl)) in
          ((same_sign S Next behind det (subst (λ z. Reads S Next behind Punctuator (codes "]") z u' e') same.0 l) closes refl).1, same.1, same.2)

      of : {c' : Bool} {o' : ℕ} {e' : S} {n' : Tree} {P' : List Pair} → KeyAt S Next behind det o' n' s e' P' c' → (c' ≡ true) × (e' ≡ k) × (n' ≡ n) × (P' ≡ P)
      of (plain_key d) = absurd (key_or_sign refl d opens)
      of (computed_key h d l) = let v = inside h d l in (refl, v.0, v.1, v.2)

  -- the key of a shorthand
  pub record Echo (n : Tree) (s m : S) (P : List Pair) : Type 0 where
    pub text : List ℕ
    pub sign : Token
    pub mid : S
    pub reads : Reads S Next behind IdentifierName text s sign mid
    pub tree : n ≡ node Identifier text plain sign.start sign.stop none
    pub place : s ≡ m
    pub pairs : P ≡ []

  pub echo_spells : {o : ℕ} {w : List ℕ} {s e : S} {t : Token} → Reads S Next behind IdentifierName w s t e → Spells ways S Next behind o shorthand_key (node Identifier w plain t.start t.stop none) s s []
  unfolding spellings
  echo_spells {w = w} {t = t} h =
      let x : Spelling = at Primary (ahead w ∷ []) in
      direct (settled shorthand_key x) (way_from shorthand_key (node Identifier w plain t.start t.stop none) x refl first refl) (placed h.next refl) (step (seen h) done)

  -- some goal reads each token
  some_goal : (c : TokenClass) (w : List ℕ) → (g : Goal) × IsTrue (allows g c w)
  some_goal c w = go (Rattle.tokens.specs.Goals.is_regexp c) (Rattle.tokens.specs.Goals.is_template_part c) (begins_with (one_of "/") w) (begins_with (one_of "}") w)
    where
      go : (p q x y : Bool) → (g : Goal) × IsTrue (if x then beq p (Rattle.tokens.specs.Goals.reads_regexps g) else if y then beq q (Rattle.tokens.specs.Goals.reads_template_parts g) else true)
      go true q true y = (Goal.RegExp, refl)
      go false q true y = (Div, refl)
      go p true false true = (Goal.TemplateTail, refl)
      go p false false true = (Div, refl)
      go p q false false = (Div, refl)

  -- so a name that is read is the only token there
  only_token : {w : List ℕ} {s e e' : S} {t t' : Token} → Reads S Next behind IdentifierName w s t e → Next s t' e' → t' ≡ t
  only_token {s = s} {e = e} {e' = e'} {t = t} {t' = t'} h nx = let g = some_goal t'.class t'.text in (det.same g.0 s t' t e' e nx h.next g.1 (det.free g.0 s t e h.next (ap is_free h.class))).0

  run_ahead : {o : ℕ} {w : List ℕ} {ps : Parts} {s e : S} {P : List Pair} → Runs ways S Next behind o (ahead w ∷ []) ps s e P → (t : Token) × (m : S) × Reads S Next behind IdentifierName w s t m × Runs ways S Next behind o [] ps s e P
  run_ahead (step (seen {t = t} {e = m} h) d) = (t, m, h, d)

  pub echo_form : {o : ℕ} {n : Tree} {s m : S} {P : List Pair} → Spells ways S Next behind o shorthand_key n s m P → Echo n s m P
  unfolding spellings
  echo_form {n = node Identifier w g st en ps} {s} (direct qs h (placed {t = t} nx p) d) =
      let a = run_ahead (retell S Next behind ((way_of h).is ∙ ap (settled shorthand_key) (one (way_of h).listed)) d) in
      let z = run_none S Next behind a.3 in
      let same = only_token a.2 nx in
      record {
        text = w;
        sign = a.0;
        mid = a.1;
        reads = a.2;
        tree = same_node refl refl (Rattle.tree.proofs.Lean.lean_flags (Rattle.tree.specs.Tree.bare (node Identifier w g st en ps)) (way_of h).lean) (sym (ap (λ (c : ℕ × ℕ). c.0) p) ∙ ap (λ (v : Token). v.start) same) (sym (ap (λ (c : ℕ × ℕ). c.1) p) ∙ ap (λ (v : Token). v.stop) same) z.parts;
        place = z.place;
        pairs = z.pairs;
      }
  echo_form {n = node _ w g st en ps} (direct qs h pl d) = elim ((way_of h).listed) [ ]
