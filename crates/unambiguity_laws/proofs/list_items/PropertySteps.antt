-- Two readings of what stands in an object at one place end alike.
use Rattle.std.proofs.Common.{◌≡◌, ℕ, suc, ◌≤◌, Bool, true, false, List, refl, sym, ap, ◌∙◌, subst, arith}
use Rattle.std.specs.Prelude.{IsTrue, Some, codes}
use Rattle.std.proofs.lemmas.Bool.{false≢true}
use Rattle.tokens.specs.declared.token.TokenClass.TheVariants.{IdentifierName, Punctuator}
use Rattle.tokens.specs.declared.token.Goal.TheVariants.{Div}
use Rattle.tokens.specs.Goals.{allows}
use Rattle.tree.specs.declared.kind.Form.{Form}
use Rattle.tree.specs.declared.kind.Form.TheVariants.{Method}
use Rattle.tree.specs.declared.kind.Pair.{Pair}
use Rattle.tree.specs.Tree.{Tree, kind_of, height}
use Rattle.language.specs.declared.Rank.TheVariants.{Assignment}
use Rattle.language.specs.declared.Start.TheVariants.{Any}
use Rattle.language.specs.Vocabulary.{is}
use Rattle.language.specs.Pieces.{Role, expr, key, method}
use Rattle.language.specs.Token.{Token}
use Rattle.language.specs.Covers.{Reading, property_as}
use Rattle.language.specs.Promises.{is_free, IsDetermined}
use Rattle.language.specs.Following.{IsAlike}
use Rattle.language.specs.Grammar.{ways}
use Rattle.language.specs.Derivation.{Reads, Spells}
use Rattle.language.proofs.climbing.Conditionals.{stops_before, same_sign}
use Rattle.language.proofs.table.PropertyNameWays.{key_free, key_form, word_key}
use Rattle.language.proofs.list_loops.CommaLists.{Separated, by_comma, by_closing}
use Rattle.language.proofs.covers.CoverSpreads.{two_texts}
use Rattle.language.proofs.covers.CoverReadings.{name_or_sign}
use Rattle.language.proofs.covers.CoverProperties.{accessor_word, KeyAt, plain_key, computed_key}
use Rattle.language.proofs.covers.CoverKeys.{key_or_sign, key_at_sign}
use Rattle.language.proofs.covers.CoverMethods.{word_tells}
use Rattle.language.proofs.covers.CoverEnds.{a_brace, item_stops}
use Rattle.unambiguity_laws.proofs.Unique.{Unique}
use Rattle.unambiguity_laws.proofs.list_items.PropertyForms.{BehindKey, nothing, a_value, a_default, a_function, PropertyIs, dotted, keyed, accessed, modified, Modifies, starred, asynchronous, both_modify, property_is}
use Rattle.unambiguity_laws.proofs.list_items.Properties.{unlike_async}

unlike : {v w : List ℕ} {A : Type 0} (s : List ℕ → Bool) → s v ≡ true → s w ≡ false → v ≡ w → A
unlike s h k e = absurd (false≢true (sym k ∙ ap s (sym e) ∙ h))

module _ (S : Type 0) (Next : S → Token → S → Type 0) (behind : S → Token) (det : IsDetermined S Next behind) where
  -- a sign isn't read where a property ends
  apart : {v : List ℕ} {A : Type 0} {s m : S} {t : Token} → IsTrue (allows Div Punctuator v) → (v ≡ codes "," → ⊥) → (v ≡ codes "}" → ⊥) → Reads S Next behind Punctuator v s t m → Separated S Next behind det (codes "}") s → A
  apart al no_comma no_brace h (by_comma k) = absurd (no_comma (two_texts S Next behind det al refl h k))
  apart al no_comma no_brace h (by_closing k) = absurd (no_brace (two_texts S Next behind det al refl h k))

  colon_apart : {A : Type 0} {s m : S} {t : Token} → Reads S Next behind Punctuator (codes ":") s t m → Separated S Next behind det (codes "}") s → A
  colon_apart h sep = apart refl (unlike (λ x. is x ":") refl refl) (unlike (λ x. is x ":") refl refl) h sep

  equals_apart : {A : Type 0} {s m : S} {t : Token} → Reads S Next behind Punctuator (codes "=") s t m → Separated S Next behind det (codes "}") s → A
  equals_apart h sep = apart refl (unlike (λ x. is x "=") refl refl) (unlike (λ x. is x "=") refl refl) h sep

  call_apart : {A : Type 0} {s m : S} {t : Token} → Reads S Next behind Punctuator (codes "(") s t m → Separated S Next behind det (codes "}") s → A
  call_apart h sep = apart refl (unlike (λ x. is x "(") refl refl) (unlike (λ x. is x "(") refl refl) h sep

  -- no key begins where a property ends, or with a sign behind one
  no_key_there : {c : Bool} {A : Type 0} {o : ℕ} {n : Tree} {s e : S} {P : List Pair} → KeyAt S Next behind det o n s e P c → Separated S Next behind det (codes "}") s → A
  no_key_there d (by_comma k) = absurd (key_at_sign S Next behind det refl refl (unlike (λ x. is x ",") refl refl) d k)
  no_key_there d (by_closing k) = absurd (key_at_sign S Next behind det refl refl (unlike (λ x. is x "}") refl refl) d k)

  no_key_behind : {c : Bool} {A : Type 0} {x : Reading} {o o' hi : ℕ} {n : Tree} {s e k : S} {P : List Pair} → KeyAt S Next behind det o n s e P c → BehindKey S Next behind det x o' hi s k → Separated S Next behind det (codes "}") k → A
  no_key_behind {c} {A} {o = o} {n = n} {e = e} {P = P} d (nothing same) sep = no_key_there (subst (λ z. KeyAt S Next behind det o n z e P c) same d) sep
  no_key_behind d (a_value h low it p) sep = absurd (key_at_sign S Next behind det refl refl (unlike (λ x. is x ":") refl refl) d h)
  no_key_behind d (a_default h low p) sep = absurd (key_at_sign S Next behind det refl refl (unlike (λ x. is x "=") refl refl) d h)
  no_key_behind d (a_function h low p) sep = absurd (key_at_sign S Next behind det refl refl (unlike (λ x. is x "(") refl refl) d h)

  -- a key of one token ends where that does
  pub tokens_end : {o o' : ℕ} {n m : Tree} {s e k : S} {P Q : List Pair} → Spells ways S Next behind o key n s e P → Spells ways S Next behind o' key m s k Q → k ≡ e
  tokens_end {s = s} {e = e} {k = k} d d' =
      let u = key_form S Next behind det d in
      let v = key_form S Next behind det d' in
      (det.same Div s v.leaf.sign u.leaf.sign k e v.leaf.reads.next u.leaf.reads.next (det.free Div s v.leaf.sign k v.leaf.reads.next (ap is_free v.leaf.reads.class ∙ key_free v.class v.is_key)) (det.free Div s u.leaf.sign e u.leaf.reads.next (ap is_free u.leaf.reads.class ∙ key_free u.class u.is_key))).1

  -- a word that is read is the key there
  word_end : {c : Bool} {o : ℕ} {n : Tree} {w : List ℕ} {s e k : S} {t : Token} {P : List Pair} → Reads S Next behind IdentifierName w s t e → KeyAt S Next behind det o n s k P c → k ≡ e
  word_end {o = o} word (plain_key d) = tokens_end (word_key S Next behind {o = o} word) d
  word_end {o = o} word (computed_key a d b) = absurd (key_or_sign S Next behind det refl (word_key S Next behind {o = o} word) a)

  two_words : {v w : List ℕ} {s e k : S} {t t' : Token} → Reads S Next behind IdentifierName w s t' k → Reads S Next behind IdentifierName v s t e → (w ≡ v) × (k ≡ e)
  two_words {s = s} {e = e} {k = k} {t = t} {t' = t'} a b =
      let same = det.same Div s t' t k e a.next b.next (det.free Div s t' k a.next (ap is_free a.class)) (det.free Div s t e b.next (ap is_free b.class)) in
      (sym a.text ∙ ap (λ (v : Token). v.text) same.0 ∙ b.text, same.1)

  -- nor `*`
  no_star_behind : {A : Type 0} {x : Reading} {o hi : ℕ} {s e k : S} {t : Token} → BehindKey S Next behind det x o hi s e → Separated S Next behind det (codes "}") e → Reads S Next behind Punctuator (codes "*") s t k → A
  no_star_behind {k = k} {t = t} (nothing same) sep star = apart refl (unlike (λ x. is x "*") refl refl) (unlike (λ x. is x "*") refl refl) (subst (λ v. Reads S Next behind Punctuator (codes "*") v t k) same star) sep
  no_star_behind (a_value h low it p) sep star = unlike (λ x. is x "*") refl refl (two_texts S Next behind det refl refl star h)
  no_star_behind (a_default h low p) sep star = unlike (λ x. is x "*") refl refl (two_texts S Next behind det refl refl star h)
  no_star_behind (a_function h low p) sep star = unlike (λ x. is x "*") refl refl (two_texts S Next behind det refl refl star h)

  -- a method's words stand before no other property
  modified_dots : {A : Type 0} {y : Form} {s z k : S} {t : Token} → Modifies S Next behind det s y z → Reads S Next behind Punctuator (codes "...") s t k → A
  modified_dots (starred star) dots = unlike (λ x. is x "*") refl refl (two_texts S Next behind det refl refl star dots)
  modified_dots (asynchronous word nx line) dots = absurd (name_or_sign S Next behind det refl word dots)
  modified_dots (both_modify word star line) dots = absurd (name_or_sign S Next behind det refl word dots)

  modified_keyed : {A : Type 0} {x : Reading} {y : Form} {c c' : Bool} {o o' o2 hi : ℕ} {n m : Tree} {s z mid k e : S} {P Q : List Pair} → Modifies S Next behind det s y z → KeyAt S Next behind det o n z mid P c → KeyAt S Next behind det o' m s k Q c' → BehindKey S Next behind det x o2 hi k e →
      Separated S Next behind det (codes "}") e → A
  modified_keyed (starred star) inner other after sep = absurd (key_at_sign S Next behind det refl refl (unlike (λ x. is x "*") refl refl) other star)
  modified_keyed {x = x} {o2 = o2} {hi = hi} {e = e} (asynchronous word nx line) inner other after sep = no_key_behind inner (subst (λ v. BehindKey S Next behind det x o2 hi v e) (word_end word other) after) sep
  modified_keyed {x = x} {o2 = o2} {hi = hi} {e = e} (both_modify word star line) inner other after sep = no_star_behind (subst (λ v. BehindKey S Next behind det x o2 hi v e) (word_end word other) after) sep star

  modified_accessed : {A : Type 0} {y : Form} {s z k : S} {t : Token} (f : Form) → Modifies S Next behind det s y z → Reads S Next behind IdentifierName (accessor_word f) s t k → A
  modified_accessed f (starred star) word = absurd (name_or_sign S Next behind det refl word star)
  modified_accessed f (asynchronous word' nx' line') word = absurd (unlike_async f (two_words word word').0)
  modified_accessed f (both_modify word' star line2) word = absurd (unlike_async f (two_words word word').0)

  -- and they tell the form
  modifiers_same : {y y' : Form} {c c' : Bool} {o o' : ℕ} {n m : Tree} {s z z' mid k : S} {P Q : List Pair} → Modifies S Next behind det s y z → KeyAt S Next behind det o n z mid P c → Modifies S Next behind det s y' z' → KeyAt S Next behind det o' m z' k Q c' → (y' ≡ y) × (z' ≡ z)
  modifiers_same (starred star) first (starred star') second = (refl, (same_sign S Next behind det star' star refl).1)
  modifiers_same (starred star) first (asynchronous word nx line) second = absurd (name_or_sign S Next behind det refl word star)
  modifiers_same (starred star) first (both_modify word star' line2) second = absurd (name_or_sign S Next behind det refl word star)
  modifiers_same (asynchronous word nx line) first (starred star) second = absurd (name_or_sign S Next behind det refl word star)
  modifiers_same (asynchronous word nx line) first (asynchronous word' nx' line') second = (refl, (two_words word' word).1)
  modifiers_same {z' = z'} (asynchronous word nx line) first (both_modify {v = v} word' star line2) second = absurd (key_at_sign S Next behind det refl refl (unlike (λ x. is x "*") refl refl) first (subst (λ c. Reads S Next behind Punctuator (codes "*") c v z') (two_words word' word).1 star))
  modifiers_same (both_modify word star line) first (starred star') second = absurd (name_or_sign S Next behind det refl word star')
  modifiers_same {z = z} (both_modify {v = v} word star line) first (asynchronous word' nx' line') second = absurd (key_at_sign S Next behind det refl refl (unlike (λ x. is x "*") refl refl) second (subst (λ c. Reads S Next behind Punctuator (codes "*") c v z) (two_words word word').1 star))
  modifiers_same {z' = z'} (both_modify word star line) first (both_modify {v = v} word' star' line2) second = (refl, (same_sign S Next behind det (subst (λ c. Reads S Next behind Punctuator (codes "*") c v z') (two_words word' word).1 star') star refl).1)

module _ (S : Type 0) (Next : S → Token → S → Type 0) (behind : S → Token) (det : IsDetermined S Next behind) (alike : IsAlike S Next behind) {h : ℕ} (u : Unique S Next behind det h) where
  -- keys end alike
  keys_end : {c c' : Bool} {o o' : ℕ} {n m : Tree} {s e k : S} {P Q : List Pair} → height n ≤ h → KeyAt S Next behind det o n s e P c → KeyAt S Next behind det o' m s k Q c' → k ≡ e
  keys_end low (plain_key d) (plain_key d') = tokens_end S Next behind det d d'
  keys_end low (plain_key d) (computed_key a' d' b') = absurd (key_or_sign S Next behind det refl d a')
  keys_end low (computed_key a d b) (plain_key d') = absurd (key_or_sign S Next behind det refl d' a)
  keys_end {o' = o'} {n = n} {m = m} {k = k} {Q = Q} low (computed_key {m = z} a d b) (computed_key {m = z'} {u = t'} a' d' b') =
      let there = subst (λ v. Spells ways S Next behind o' (expr Assignment true Any) m v z' Q) (same_sign S Next behind det a' a refl).1 d' in
      let same = ((u.expressions.found low (λ v. cc) (λ v. cc) d (stops_before S Next behind det Assignment true n b refl refl (λ c v. refl))).only o' z' m Q there (stops_before S Next behind det Assignment true m b' refl refl (λ c v. refl))).0 in
      (same_sign S Next behind det (subst (λ v. Reads S Next behind Punctuator (codes "]") v t' k) same b') b refl).1

  -- what stands behind a key
  behinds_end : (x z : Reading) {o o' hi : ℕ} {mid e k : S} → BehindKey S Next behind det x o h mid e → Separated S Next behind det (codes "}") e → BehindKey S Next behind det z o' hi mid k → Separated S Next behind det (codes "}") k → k ≡ e
  behinds_end x z (nothing same) sep (nothing same') there = sym same' ∙ same
  behinds_end x z (nothing same) sep (a_value {y = y} {t = t} a low it d) there = colon_apart S Next behind det (subst (λ v. Reads S Next behind Punctuator (codes ":") v t y) same a) sep
  behinds_end x z (nothing same) sep (a_default {y = y} {t = t} a low d) there = equals_apart S Next behind det (subst (λ v. Reads S Next behind Punctuator (codes "=") v t y) same a) sep
  behinds_end x z (nothing same) sep (a_function {y = y} {t = t} a low d) there = call_apart S Next behind det (subst (λ v. Reads S Next behind Punctuator (codes "(") v t y) same a) sep
  behinds_end x z (a_value {y = y} {t = t} a low it d) sep (nothing same) there = colon_apart S Next behind det (subst (λ v. Reads S Next behind Punctuator (codes ":") v t y) same a) there
  behinds_end x z {o' = o'} {k = k} (a_value a low it d) sep (a_value {a = b} {n = m} {P = Q} a' low' it' d') there =
      u.element_ends x z a_brace low it d sep it' (subst (λ v. Spells ways S Next behind o' b m v k Q) (same_sign S Next behind det a' a refl).1 d') there
  behinds_end x z (a_value a low it d) sep (a_default a' low' d') there = unlike (λ v. is v ":") refl refl (two_texts S Next behind det refl refl a a')
  behinds_end x z (a_value a low it d) sep (a_function a' low' d') there = unlike (λ v. is v ":") refl refl (two_texts S Next behind det refl refl a a')
  behinds_end x z (a_default {y = y} {t = t} a low d) sep (nothing same) there = equals_apart S Next behind det (subst (λ v. Reads S Next behind Punctuator (codes "=") v t y) same a) there
  behinds_end x z (a_default a low d) sep (a_value a' low' it' d') there = unlike (λ v. is v "=") refl refl (two_texts S Next behind det refl refl a a')
  behinds_end x z {o' = o'} {k = k} (a_default {n = n} a low d) sep (a_default {n = m} {P = Q} a' low' d') there =
      ((u.expressions.found low (λ v. cc) (λ v. cc) d (item_stops S Next behind det a_brace Assignment n _ refl sep)).only o' k m Q (subst (λ v. Spells ways S Next behind o' (expr Assignment true Any) m v k Q) (same_sign S Next behind det a' a refl).1 d') (item_stops S Next behind det a_brace Assignment m k refl there)).0
  behinds_end x z (a_default a low d) sep (a_function a' low' d') there = unlike (λ v. is v "=") refl refl (two_texts S Next behind det refl refl a a')
  behinds_end x z (a_function {y = y} {t = t} a low d) sep (nothing same) there = call_apart S Next behind det (subst (λ v. Reads S Next behind Punctuator (codes "(") v t y) same a) there
  behinds_end x z (a_function a low d) sep (a_value a' low' it' d') there = unlike (λ v. is v "(") refl refl (two_texts S Next behind det refl refl a a')
  behinds_end x z (a_function a low d) sep (a_default a' low' d') there = unlike (λ v. is v "(") refl refl (two_texts S Next behind det refl refl a a')
  behinds_end x z {o' = o'} {k = k} (a_function a low d) sep (a_function {n = m} {P = Q} a' low' d') there = ((u.closed {a = method Method} refl low d).only o' k m Q d').0

  both_properties : (x z : Reading) {o o' hi : ℕ} {s e k : S} → PropertyIs S Next behind det x o h s e → Separated S Next behind det (codes "}") e → PropertyIs S Next behind det z o' hi s k → Separated S Next behind det (codes "}") k → k ≡ e
  both_properties x z {o' = o'} {k = k} (dotted a low it d) sep (dotted {a = b} {n = m} {P = Q} a' low' it' d') there =
      u.element_ends x z a_brace low it d sep it' (subst (λ v. Spells ways S Next behind o' b m v k Q) (same_sign S Next behind det a' a refl).1 d') there
  both_properties x z (dotted a low it d) sep (keyed low' d' after) there = absurd (key_at_sign S Next behind det refl refl (unlike (λ v. is v "...") refl refl) d' a)
  both_properties x z (dotted a low it d) sep (accessed f acc word low' d' low2 q) there = absurd (name_or_sign S Next behind det refl word a)
  both_properties x z (keyed low d after) sep (dotted a' low' it' d') there = absurd (key_at_sign S Next behind det refl refl (unlike (λ v. is v "...") refl refl) d a')
  both_properties x z {o' = o'} {hi = hi} {k = k} (keyed low d after) sep (keyed low' d' after') there =
      behinds_end x z after sep (subst (λ v. BehindKey S Next behind det z o' hi v k) (keys_end low d d') after') there
  both_properties x z {o' = o'} (keyed low d after) sep (accessed f {c = c'} {n = m} {mid = mid'} {P = P'} acc word low' d' low2 q) there =
      let same = keys_end low d (plain_key (word_key S Next behind {o = o'} word)) in
      no_key_behind S Next behind det (subst (λ v. KeyAt S Next behind det o' m v mid' P' c') same d') after sep
  both_properties x z (accessed f acc word low d low2 q) sep (dotted a' low' it' d') there = absurd (name_or_sign S Next behind det refl word a')
  both_properties x z {o = o} {o' = o'} {hi = hi} {k = k} (accessed f {c = c} {n = m} {mid = mid} {P = P} acc word low d low2 q) sep (keyed low' d' after) there =
      no_key_behind S Next behind det d (subst (λ v. BehindKey S Next behind det z o' hi v k) (word_end S Next behind det word d') after) there
  both_properties x z {o' = o'} {k = k} (accessed f {mid = mid} acc word low d low2 q) sep (accessed g {c = c'} {n = n'} {m = m'} {mid = mid'} {P = P'} {Q = Q'} acc' word' low' d' low2' q') there =
      let words = two_words S Next behind det word' word in
      let form : g ≡ f = word_tells f g acc acc' words.0 in
      let same = keys_end low d (subst (λ v. KeyAt S Next behind det o' n' v mid' P' c') words.1 d') in
      ((u.closed {a = method f} refl low2 q).only o' k m' Q' (subst (λ v. Spells ways S Next behind o' (method v) m' mid k Q') form (subst (λ v. Spells ways S Next behind o' (method g) m' v k Q') same q'))).0
  both_properties x z (modified y words low d low2 q) sep (dotted a' low' it' d') there = modified_dots S Next behind det words a'
  both_properties x z (modified y words low d low2 q) sep (keyed low' d' after) there = modified_keyed S Next behind det words d d' after there
  both_properties x z (modified y words low d low2 q) sep (accessed f acc word low' d' low2' q') there = modified_accessed S Next behind det f words word
  both_properties x z (dotted a low it d) sep (modified y words low' d' low2 q) there = modified_dots S Next behind det words a
  both_properties x z (keyed low d after) sep (modified y words low' d' low2 q) there = modified_keyed S Next behind det words d' d after sep
  both_properties x z (accessed f acc word low d low2 q) sep (modified y words low' d' low2' q') there = modified_accessed S Next behind det f words word
  both_properties x z {o' = o'} {k = k} (modified y {mid = mid} words low d low2 q) sep (modified y' {c = c'} {n = n'} {m = m'} {mid = mid'} {P = P'} {Q = Q'} words' low' d' low2' q') there =
      let form = modifiers_same S Next behind det words d words' d' in
      let same = keys_end low d (subst (λ v. KeyAt S Next behind det o' n' v mid' P' c') form.1 d') in
      ((u.closed {a = method y} refl low2 q).only o' k m' Q' (subst (λ v. Spells ways S Next behind o' (method v) m' mid k Q') form.0 (subst (λ v. Spells ways S Next behind o' (method y') m' v k Q') same q'))).0

  -- two readings of a property end alike
  pub property_ends_step : (x z : Reading) {a b : Role} {o o' : ℕ} {n m : Tree} {s e k : S} {P Q : List Pair} → height n ≤ suc h → property_as x (kind_of n) ≡ Some a → Spells ways S Next behind o a n s e P → Separated S Next behind det (codes "}") e →
      property_as z (kind_of m) ≡ Some b → Spells ways S Next behind o' b m s k Q → Separated S Next behind det (codes "}") k → k ≡ e
  property_ends_step x z {n = n} {m = m} low it d sep it' d' there = both_properties x z (property_is S Next behind det x n low it d) sep (property_is S Next behind det z {hi = height m} m (omega arith) it' d') there
