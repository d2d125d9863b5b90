-- A member of a class is the only one at its place, where a member may end (ECMA-262 14.6; 15.7 of the 13th edition).
use Rattle.std.proofs.Common.{◌≡◌, ℕ, suc, ◌≤◌, max, Bool, true, false, List, [], ◌∷◌, ◌++◌, refl, sym, ap, ◌∙◌, subst, arith}
use Rattle.std.specs.Prelude.{IsTrue, codes}
use Rattle.std.proofs.lemmas.Bool.{false≢true}
use Rattle.tokens.specs.declared.token.TokenClass.{TokenClass}
use Rattle.tokens.specs.declared.token.TokenClass.TheVariants.{IdentifierName, Punctuator, PrivateName}
use Rattle.tokens.specs.declared.token.Goal.TheVariants.{Div}
use Rattle.tokens.specs.Goals.{allows}
use Rattle.tree.specs.declared.kind.Kind.{Kind}
use Rattle.tree.specs.declared.kind.Flags.{Flags}
use Rattle.tree.specs.declared.kind.Form.{Form}
use Rattle.tree.specs.declared.kind.Form.TheVariants.{Set}
use Rattle.tree.specs.declared.kind.Pair.{Pair}
use Rattle.tree.specs.Tree.{Tree, Parts, none, part, height, parts_height, bare, bare_parts}
use Rattle.language.specs.declared.Rank.TheVariants.{Expression, Assignment}
use Rattle.language.specs.declared.Start.TheVariants.{Any}
use Rattle.language.specs.Vocabulary.{is, among}
use Rattle.language.specs.Edges.{edge, begins_key}
use Rattle.language.specs.Pieces.{expr, private_name, method, member, item, Ending, behind_value, behind_key, ending}
use Rattle.language.specs.Statements.{key_word, lines}
use Rattle.language.specs.Token.{Token}
use Rattle.language.specs.Promises.{is_free, IsDetermined}
use Rattle.language.specs.Following.{IsAlike, FoundWhere}
use Rattle.language.specs.Grammar.{ways}
use Rattle.language.specs.Derivation.{Reads, Spells, Runs, Step, explicit, implicit, Placed}
use Rattle.language.proofs.table.PropertyNameWays.{is_key_class, key_free, key_form, name_key_found}
use Rattle.language.proofs.table.Begins.{goes_to}
use Rattle.language.proofs.table.StatementWays.{behind_brace}
use Rattle.language.proofs.table.PropertyWays.{member_flags}
use Rattle.language.proofs.table.SoleWays.{same_span}
use Rattle.language.proofs.table.ForDeclarationWays.{two_signs}
use Rattle.language.proofs.climbing.BinaryTurns.{same_node}
use Rattle.language.proofs.climbing.Conditionals.{same_sign}
use Rattle.language.proofs.climbing.Leaves.{private_form}
use Rattle.language.proofs.covers.CoverProperties.{accessor_word, KeyAt, plain_key, computed_key}
use Rattle.language.proofs.covers.CoverKeys.{plain_key_found}
use Rattle.language.proofs.covers.CoverMethods.{word_tells}
use Rattle.language.proofs.covers.CoverReadings.{name_or_sign}
use Rattle.unambiguity_laws.proofs.Unique.{Unique}
use Rattle.unambiguity_laws.proofs.list_items.UniqueRuns.{anyhow_found}
use Rattle.unambiguity_laws.proofs.list_items.WordsOnce.{private_unique}
use Rattle.unambiguity_laws.proofs.list_items.Properties.{unlike_async}
use Rattle.unambiguity_laws.proofs.list_items.PropertyForms.{Modifies, starred, asynchronous, both_modify}
use Rattle.unambiguity_laws.proofs.list_items.ClassMembers.{key_at_unique}
use Rattle.unambiguity_laws.proofs.list_items.MemberForms.{by_form, constructs, StaticWord, with_static, without_static, MethodWords, no_words, accessing, modifying, AnyKey, a_key, a_private, Tail, called, alone, valued, Keyed, StaticItems, MemberSeen, with_key, static_block, member_seen}
use Rattle.unambiguity_laws.proofs.list_items.MemberEnds.{token_as, begins_member, follows_member, MemberEnds, Ahead, Behind, on_line, a_brace, words_ahead, key_ahead, ends_sign, no_field_ends, no_call, no_value, static_goes_on, accessor_goes_on}
use Rattle.unambiguity_laws.proofs.list_items.MemberStops.{value_stops}
use Rattle.unambiguity_laws.proofs.statements.Bodies.{block_items}
use Rattle.unambiguity_laws.proofs.statements.StatementEnds.{end_once}
use Rattle.unambiguity_laws.proofs.statements.FunctionForms.{names_same}

static_async : codes "static" ≡ codes "async" → ⊥
static_async e = false≢true (sym (ap (λ w. is w "static") e))

static_accessor : (f : Form) → codes "static" ≡ accessor_word f → ⊥
static_accessor Set e = false≢true (sym (ap (λ w. is w "static") e))
static_accessor _ e = false≢true (sym (ap (λ w. is w "static") e))

accessor_words : (f : Form) → among (accessor_word f) ("get" ∷ "set" ∷ []) ≡ true
accessor_words Set = refl
accessor_words _ = refl

no_private_key : (c : TokenClass) → is_key_class c ≡ true → PrivateName ≡ c → ⊥
no_private_key PrivateName h e = cc
no_private_key _ h e = cc

module _ (S : Type 0) (Next : S → Token → S → Type 0) (behind : S → Token) (det : IsDetermined S Next behind) where
  sign_allowed : {w : List ℕ} {s e : S} {t : Token} → IsTrue (allows Div Punctuator w) → Reads S Next behind Punctuator w s t e → IsTrue (allows Div t.class t.text)
  sign_allowed {t = t} al r = subst (λ c. IsTrue (allows Div c t.text)) (sym r.class) (subst (λ v. IsTrue (allows Div Punctuator v)) (sym r.text) al)

  -- a private name isn't read where a name or another key is
  private_or_key : {A : Type 0} {o o' : ℕ} {n m : Tree} {s e k : S} {P Q : List Pair} {c : Bool} → Spells ways S Next behind o private_name n s e P → KeyAt S Next behind det o' m s k Q c → A
  private_or_key {s = s} {e} {k} d (plain_key p) =
      let u = private_form S Next behind det d in
      let v = key_form S Next behind det p in
      let same = det.same Div s u.sign v.leaf.sign e k u.reads.next v.leaf.reads.next (det.free Div s u.sign e u.reads.next (ap is_free u.reads.class)) (det.free Div s v.leaf.sign k v.leaf.reads.next (ap is_free v.leaf.reads.class ∙ key_free v.class v.is_key)) in
      absurd (no_private_key v.class v.is_key (sym u.reads.class ∙ ap (λ (x : Token). x.class) same.0 ∙ v.leaf.reads.class))
  private_or_key {s = s} {e} d (computed_key {x = x} {t = t} r p l) =
      let u = private_form S Next behind det d in
      let same = det.same Div s u.sign t e x u.reads.next r.next (det.free Div s u.sign e u.reads.next (ap is_free u.reads.class)) (sign_allowed refl r) in
      let clash : PrivateName ≡ Punctuator = sym u.reads.class ∙ ap (λ (x : Token). x.class) same.0 ∙ r.class in
      cc

  -- what a word is as a key
  record WordKey (w : List ℕ) (n : Tree) (z mid : S) (c : Bool) : Type 0 where
    place : mid ≡ z
    word : key_word c (bare n) ≡ w

  word_key_at : {w : List ℕ} {o : ℕ} {n : Tree} {s z mid : S} {t : Token} {P : List Pair} {c : Bool} → Reads S Next behind IdentifierName w s t z → AnyKey S Next behind det o n s mid P c → WordKey w n z mid c
  word_key_at {w} {o} {n} {s} {z} {mid} {t} {P} {c} r (a_key k) =
      let found = plain_key_found S Next behind det (name_key_found S Next behind det {o = o} (record { next = r.next; class = r.class; text = refl })) in
      let same = found.only c o mid n P k in
      record { place = same.1; word = (λ i. key_word (same.0 i) (bare (same.2 i))) ∙ r.text }
  word_key_at {s = s} {z} {mid} {t} r (a_private d) =
      let u = private_form S Next behind det d in
      let same = det.same Div s t u.sign z mid r.next u.reads.next (det.free Div s t z r.next (ap is_free r.class)) (det.free Div s u.sign mid u.reads.next (ap is_free u.reads.class)) in
      let clash : IdentifierName ≡ PrivateName = sym r.class ∙ ap (λ (x : Token). x.class) same.0 ∙ u.reads.class in
      cc

  -- behind such a word as a key nothing is right that stands there
  word_tail : {A : Type 0} {w : List ℕ} {y : Form} {s c : Bool} {n : Tree} {o : ℕ} {z mid e : S} {K : Kind} {g : Flags} {ps : Parts} {P : List Pair} → WordKey w n z mid c → Behind S Next behind det w s z → Tail S Next behind det y s c n o mid e K g ps P → MemberEnds S Next behind det e → A
  word_tail k there (called {x = x} {t = t} r d) ends = no_call S Next behind det there (subst (λ v. Reads S Next behind Punctuator (codes "(") v t x) k.place r)
  word_tail k there (valued {x = x} {t = t} kind r d end) ends = no_value S Next behind det there (subst (λ v. Reads S Next behind Punctuator (codes "=") v t x) k.place r)
  word_tail {w = w} {s = s} {mid = mid} {e = e} k there (alone kind end) ends =
      no_field_ends S Next behind det there (subst (λ v. Step S Next behind (ending (behind_key w s)) v e) k.place (subst (λ v. Step S Next behind (ending (behind_key v s)) mid e) k.word end)) ends

  -- no key begins with `*`, and no member with `{`
  key_star : {A : Type 0} {o : ℕ} {n : Tree} {s e k : S} {P : List Pair} {c : Bool} {t : Token} → AnyKey S Next behind det o n s e P c → Reads S Next behind Punctuator (codes "*") s t k → A
  key_star {s = s} {k = k} {t = t} d r =
      let u = key_ahead S Next behind det d in
      let same = (det.same Div s u.0.token t u.0.mid k u.0.next r.next (u.0.allowed Div) (sign_allowed refl r)).0 in
      absurd (false≢true (sym (ap begins_key same ∙ ap (λ c. begins_key (token_as c t.text)) r.class ∙ ap (λ v. begins_key (token_as Punctuator v)) r.text) ∙ u.1))

  ahead_brace : {A : Type 0} {s k : S} {t : Token} → Ahead S Next behind det s → Reads S Next behind Punctuator (codes "{") s t k → A
  ahead_brace {s = s} {k = k} {t = t} a r =
      let same = (det.same Div s a.token t a.mid k a.next r.next (a.allowed Div) (sign_allowed refl r)).0 in
      absurd (false≢true (sym (ap begins_member same ∙ ap (λ c. begins_member (token_as c t.text)) r.class ∙ ap (λ v. begins_member (token_as Punctuator v)) r.text) ∙ a.begins))

  -- a sign that no member goes on with isn't read where a field ends
  sign_no_end : {A : Type 0} {y : Ending} {w : List ℕ} {s e k : S} {t : Token} → IsTrue (allows Div Punctuator w) → follows_member (token_as Punctuator w) ≡ false → (w ≡ codes ";" → ⊥) → Reads S Next behind Punctuator w s t k → Step S Next behind (ending y) s e → MemberEnds S Next behind det e → A
  sign_no_end al idle other r (explicit h) ends = absurd (other (two_signs S Next behind det al refl r h).0)
  sign_no_end al idle other r (implicit nx may) ends = ends_sign S Next behind det al idle ends r

  -- what stands behind the words before a key
  record AfterWords (y : Form) (s : Bool) (o : ℕ) (z e : S) : Type 0 where
    computed : Bool
    left : Tree
    mid : S
    one : List Pair
    kind : Kind
    flags : Flags
    others : Parts
    more : List Pair
    keyed : AnyKey S Next behind det o left z mid one computed
    tail : Tail S Next behind det y s computed left o mid e kind flags others more
    ends : MemberEnds S Next behind det e

  -- where another has a word before its key, that word is no key
  word_apart : {A : Type 0} {w : List ℕ} {y : Form} {s : Bool} {o : ℕ} {x z e : S} {t : Token} → Reads S Next behind IdentifierName w x t z → Behind S Next behind det w s z → AfterWords y s o x e → A
  word_apart r there a = word_tail (word_key_at r a.keyed) there a.tail a.ends

  -- `static` before a key
  static_apart : {A : Type 0} {y : Form} {o : ℕ} {s x z e : S} {t : Token} → Reads S Next behind IdentifierName (codes "static") s t x → Behind S Next behind det (codes "static") false x → MethodWords S Next behind det s y z → AfterWords y false o z e → A
  static_apart r there no_words a = word_apart r there a
  static_apart r there (accessing f acc r') a = absurd (static_accessor f (names_same S Next behind det r r').0)
  static_apart r there (modifying (starred st)) a = absurd (name_or_sign S Next behind det refl r st)
  static_apart r there (modifying (asynchronous r' nx line)) a = absurd (static_async (names_same S Next behind det r r').0)
  static_apart r there (modifying (both_modify r' st line)) a = absurd (static_async (names_same S Next behind det r r').0)

  -- the words are the same
  accessor_apart : {A : Type 0} (f : Form) {y : Form} {x z k : S} {t : Token} → Reads S Next behind IdentifierName (accessor_word f) x t z → Modifies S Next behind det x y k → A
  accessor_apart f r (starred st) = absurd (name_or_sign S Next behind det refl r st)
  accessor_apart f r (asynchronous r' nx line) = absurd (unlike_async f (names_same S Next behind det r r').0)
  accessor_apart f r (both_modify r' st line) = absurd (unlike_async f (names_same S Next behind det r r').0)

  modifier_apart : {A : Type 0} {y y' : Form} {s : Bool} {o o' : ℕ} {n : Tree} {x z mid e : S} {P : List Pair} {c : Bool} → Modifies S Next behind det x y z → AnyKey S Next behind det o n z mid P c → AfterWords y' s o' x e → A
  modifier_apart (starred st) k a = key_star a.keyed st
  modifier_apart (asynchronous r nx line) k a = word_apart r (on_line (key_ahead S Next behind det k).0 nx line) a
  modifier_apart (both_modify r st line) k a = word_apart r (on_line (words_ahead S Next behind det (modifying (starred st)) k) st.next line) a

  modifiers_same : {y y' : Form} {o o' : ℕ} {n n' : Tree} {x z z' mid mid' : S} {P P' : List Pair} {c c' : Bool} → Modifies S Next behind det x y z → AnyKey S Next behind det o n z mid P c → Modifies S Next behind det x y' z' → AnyKey S Next behind det o' n' z' mid' P' c' → (y' ≡ y) × (z' ≡ z)
  modifiers_same (starred st) k (starred st') k' = (refl, (same_sign S Next behind det st' st refl).1)
  modifiers_same (starred st) k (asynchronous r nx line) k' = absurd (name_or_sign S Next behind det refl r st)
  modifiers_same (starred st) k (both_modify r st' line) k' = absurd (name_or_sign S Next behind det refl r st)
  modifiers_same (asynchronous r nx line) k (starred st) k' = absurd (name_or_sign S Next behind det refl r st)
  modifiers_same (asynchronous r nx line) k (asynchronous r' nx' line') k' = (refl, (names_same S Next behind det r' r).1)
  modifiers_same {z' = z'} (asynchronous r nx line) k (both_modify {v = v} r' st line') k' = key_star k (subst (λ c. Reads S Next behind Punctuator (codes "*") c v z') (names_same S Next behind det r' r).1 st)
  modifiers_same (both_modify r st line) k (starred st') k' = absurd (name_or_sign S Next behind det refl r st')
  modifiers_same {z = z} (both_modify {v = v} r st line) k (asynchronous r' nx' line') k' = key_star k' (subst (λ c. Reads S Next behind Punctuator (codes "*") c v z) (names_same S Next behind det r r').1 st)
  modifiers_same {z' = z'} (both_modify r st line) k (both_modify {v = v} r' st' line') k' = (refl, (same_sign S Next behind det (subst (λ c. Reads S Next behind Punctuator (codes "*") c v z') (names_same S Next behind det r' r).1 st') st refl).1)

  words_same : {y y' : Form} {s s' : Bool} {o o' : ℕ} {x z z' e e' : S} → MethodWords S Next behind det x y z → AfterWords y s o z e → MethodWords S Next behind det x y' z' → AfterWords y' s' o' z' e' → (y' ≡ y) × (z' ≡ z)
  words_same no_words a no_words b = (refl, refl)
  words_same no_words a (accessing f acc r) b = word_apart r (accessor_goes_on S Next behind det (accessor_word f) _ (accessor_words f) b.keyed) a
  words_same no_words a (modifying m) b = modifier_apart m b.keyed a
  words_same (accessing f acc r) a no_words b = word_apart r (accessor_goes_on S Next behind det (accessor_word f) _ (accessor_words f) a.keyed) b
  words_same (accessing f acc r) a (accessing g acc' r') b = let same = names_same S Next behind det r' r in (word_tells f g acc acc' same.0, same.1)
  words_same (accessing f acc r) a (modifying m) b = accessor_apart f r m
  words_same (modifying m) a no_words b = modifier_apart m a.keyed b
  words_same (modifying m) a (accessing f acc r) b = accessor_apart f r m
  words_same (modifying m) a (modifying m') b = modifiers_same m a.keyed m' b.keyed

  after_words : {o : ℕ} {n : Tree} {s e : S} {P : List Pair} (v : Keyed S Next behind det o n s e P) → MemberEnds S Next behind det e → AfterWords v.position v.is_static o v.z e
  after_words v ends = record { computed = v.computed; left = v.left; mid = v.mid; one = v.one; kind = v.kind; flags = v.flags; others = v.others; more = v.more; keyed = v.keyed; tail = v.tail; ends = ends }

  statics_same : {b b' : Bool} {y y' : Form} {o o' : ℕ} {s x x' z z' e e' : S} → StaticWord S Next behind det s b x → MethodWords S Next behind det x y z → AfterWords y b o z e → StaticWord S Next behind det s b' x' → MethodWords S Next behind det x' y' z' → AfterWords y' b' o' z' e' → (b' ≡ b) × (x' ≡ x)
  statics_same (with_static r) w a (with_static r') w' a' = (refl, (names_same S Next behind det r' r).1)
  statics_same without_static w a without_static w' a' = (refl, refl)
  statics_same (with_static r) w a without_static w' a' = static_apart r (static_goes_on S Next behind det (words_ahead S Next behind det w a.keyed)) w' a'
  statics_same without_static w a (with_static r') w' a' = static_apart r' (static_goes_on S Next behind det (words_ahead S Next behind det w' a'.keyed)) w a

  -- a static block isn't another member
  block_apart : {A : Type 0} {o o' : ℕ} {n n' : Tree} {s e e' : S} {P P' : List Pair} → StaticItems S Next behind det o n s e P → (w : Keyed S Next behind det o' n' s e' P') → MemberEnds S Next behind det e' → A
  block_apart {s = s} v w ends = of w.static_is w.words (after_words w ends)
    where
      of : {A : Type 0} {b : Bool} {y : Form} {o : ℕ} {x z e : S} → StaticWord S Next behind det s b x → MethodWords S Next behind det x y z → AfterWords y b o z e → A
      of (with_static r) w a = ahead_brace (words_ahead S Next behind det w a.keyed) (subst (λ c. Reads S Next behind Punctuator (codes "{") c v.opening v.mid) (names_same S Next behind det v.word r).1 v.opens)
      of without_static w a = static_apart v.word (a_brace v.opens) w a

module _ (S : Type 0) (Next : S → Token → S → Type 0) (behind : S → Token) (det : IsDetermined S Next behind) (alike : IsAlike S Next behind) {h : ℕ} (u : Unique S Next behind det h) where
  -- a key is the only one there
  keys_same : {c c' : Bool} {o o' : ℕ} {n n' : Tree} {s e e' : S} {P P' : List Pair} → height n ≤ h → AnyKey S Next behind det o n s e P c → AnyKey S Next behind det o' n' s e' P' c' → (c' ≡ c) × (e' ≡ e) × (n' ≡ n) × (P' ≡ P)
  keys_same {c' = c'} {o' = o'} {n' = n'} {e' = e'} {P' = P'} low (a_key k) (a_key k') = (key_at_unique S Next behind det alike u low k).only c' o' e' n' P' k'
  keys_same {o' = o'} {n' = n'} {e' = e'} {P' = P'} low (a_private d) (a_private d') = let same = (private_unique S Next behind det d).only o' e' n' P' d' in (refl, same.0, same.1, same.2)
  keys_same low (a_key k) (a_private d') = private_or_key S Next behind det d' k
  keys_same low (a_private d) (a_key k') = private_or_key S Next behind det d k'

  -- and so is what stands behind it
  record SameTail (e e' : S) (K K' : Kind) (g g' : Flags) (ps ps' : Parts) (P P' : List Pair) : Type 0 where
    place : e' ≡ e
    kind : K' ≡ K
    flags : g' ≡ g
    parts : ps' ≡ ps
    pairs : P' ≡ P

  tails_same : {y : Form} {s c : Bool} {n : Tree} {o o' : ℕ} {mid e e' : S} {K K' : Kind} {g g' : Flags} {ps ps' : Parts} {P P' : List Pair} → parts_height ps ≤ h → Tail S Next behind det y s c n o mid e K g ps P → MemberEnds S Next behind det e → Tail S Next behind det y s c n o' mid e' K' g' ps' P' → MemberEnds S Next behind det e' →
      SameTail e e' K K' g g' ps ps' P P'
  tails_same {y = y} {s} {c} {n} {o' = o'} {e' = e'} {P' = P'} low (called r d) ends (called {v = v} r' d') ends' =
      let same = (u.closed {a = method y} refl (omega arith) d).only o' e' v P' d' in
      record { place = same.0; kind = refl; flags = (λ i. member_flags c s (by_form y (constructs c s (bare_parts (part n (part (same.1 i) none)))))); parts = (λ i. part (same.1 i) none); pairs = same.2 }
  tails_same low (called r d) ends (alone kind end) ends' = sign_no_end S Next behind det refl refl (λ e. false≢true (ap (λ w. is w ";") e)) r end ends'
  tails_same low (called r d) ends (valued kind r' d' end) ends' = absurd (false≢true (ap (λ w. is w "=") (two_signs S Next behind det refl refl r r').0))
  tails_same low (alone kind end) ends (called r d) ends' = sign_no_end S Next behind det refl refl (λ e. false≢true (ap (λ w. is w ";") e)) r end ends
  tails_same low (alone kind end) ends (alone kind' end') ends' = record { place = end_once S Next behind det end end'; kind = refl; flags = refl; parts = refl; pairs = refl }
  tails_same low (alone kind end) ends (valued kind' r' d' end') ends' = sign_no_end S Next behind det refl refl (λ e. false≢true (ap (λ w. is w ";") e)) r' end ends
  tails_same low (valued kind r d end) ends (called r' d') ends' = absurd (false≢true (ap (λ w. is w "=") (two_signs S Next behind det refl refl r' r).0))
  tails_same low (valued kind r d end) ends (alone kind' end') ends' = sign_no_end S Next behind det refl refl (λ e. false≢true (ap (λ w. is w ";") e)) r end' ends'
  tails_same {o' = o'} {e' = e'} {P' = P'} low (valued {v = v} {k = k} kind r d end) ends (valued {v = v'} {k = k'} kind' r' d' end') ends' =
      let there = (same_sign S Next behind det r' r refl).1 in
      let found = u.expressions.found (omega arith) (λ z. cc) (λ z. cc) d (value_stops S Next behind det end ends) in
      let same = found.only o' k' v' P' (subst (λ z. Spells ways S Next behind o' (expr Assignment true Any) v' z k' P') there d') (value_stops S Next behind det end' ends') in
      let end'' : Step S Next behind (ending (behind_value (edge v))) k e' = subst (λ z. Step S Next behind (ending (behind_value (edge z))) k e') same.1 (subst (λ z. Step S Next behind (ending (behind_value (edge v'))) z e') same.0 end') in
      record { place = end_once S Next behind det end end''; kind = refl; flags = refl; parts = ap (λ v. part v none) same.1; pairs = same.2 }

  keyed_same : {o o' : ℕ} {n n' : Tree} {s e e' : S} {P P' : List Pair} → height n ≤ suc h → (v : Keyed S Next behind det o n s e P) → MemberEnds S Next behind det e → (w : Keyed S Next behind det o' n' s e' P') → MemberEnds S Next behind det e' → (e' ≡ e) × (n' ≡ n) × (P' ≡ P)
  keyed_same {o' = o'} {n} {n'} {s} {e} {e'} low v ends w ends' =
      let high : height n ≡ suc (max (height v.left) (parts_height v.others)) = ap height v.tree in
      let a = after_words S Next behind det v ends in
      let b = after_words S Next behind det w ends' in
      let first = statics_same S Next behind det v.static_is v.words a w.static_is w.words b in
      let second = words_same S Next behind det v.words a (subst (λ x. MethodWords S Next behind det x w.position w.z) first.1 w.words) b in
      let third = keys_same (omega arith) v.keyed (subst (λ z. AnyKey S Next behind det o' w.left z w.mid w.one w.computed) second.1 w.keyed) in
      let tail = subst (λ y. Tail S Next behind det y v.is_static v.computed v.left o' v.mid e' w.kind w.flags w.others w.more) second.0
      (subst (λ b. Tail S Next behind det w.position b v.computed v.left o' v.mid e' w.kind w.flags w.others w.more) first.0
      (subst (λ c. Tail S Next behind det w.position w.is_static c v.left o' v.mid e' w.kind w.flags w.others w.more) third.0
      (subst (λ n. Tail S Next behind det w.position w.is_static w.computed n o' v.mid e' w.kind w.flags w.others w.more) third.2
      (subst (λ m. Tail S Next behind det w.position w.is_static w.computed w.left o' m e' w.kind w.flags w.others w.more) third.1 w.tail)))) in
      let last = tails_same (omega arith) v.tail ends tail ends' in
      let span = same_span S Next behind det (λ t l. refl) (subst (λ m. Placed S Next behind member m s e') w.tree w.placed) (subst (λ m. Placed S Next behind member m s e) v.tree v.placed) last.place in
      (last.place, w.tree ∙ same_node last.kind refl last.flags span.0 span.1 (λ i. part (third.2 i) (last.parts i)) ∙ sym v.tree, w.pairs ∙ (λ i. third.3 i ++ last.pairs i) ∙ sym v.pairs)

  blocks_same : {o o' : ℕ} {n n' : Tree} {s e e' : S} {P P' : List Pair} → height n ≤ suc h → (v : StaticItems S Next behind det o n s e P) → (w : StaticItems S Next behind det o' n' s e' P') → (e' ≡ e) × (n' ≡ n) × (P' ≡ P)
  blocks_same {o' = o'} {n} {n'} {s} {e} {e'} {P' = P'} low v w =
      let high : height n ≡ suc (parts_height v.parts) = ap height v.tree in
      let there = (names_same S Next behind det w.word v.word).1 in
      let brace = (same_sign S Next behind det (subst (λ c. Reads S Next behind Punctuator (codes "{") c w.opening w.mid) there w.opens) v.opens refl).1 in
      let found = anyhow_found S Next behind det (block_items S Next behind det alike u false) (omega arith) v.runs in
      let same = found.only o' e' w.parts P' (subst (λ c. Runs ways S Next behind o' (goes_to Expression true Any (behind_brace (bare_parts w.parts) (lines (item false) (bare_parts w.parts)))) w.parts c e' P') brace w.runs) in
      let span = same_span S Next behind det (λ t l. refl) (subst (λ m. Placed S Next behind member m s e') w.tree w.placed) (subst (λ m. Placed S Next behind member m s e) v.tree v.placed) same.0 in
      (same.0, w.tree ∙ same_node refl refl refl span.0 span.1 same.1 ∙ sym v.tree, same.2)

  -- a member of a class
  pub member_unique : {o : ℕ} {n : Tree} {s e : S} {P : List Pair} → height n ≤ suc h → Spells ways S Next behind o member n s e P → MemberEnds S Next behind det e → FoundWhere S Next behind (λ n e. MemberEnds S Next behind det e) o member s e n P
  member_unique {o} {n} {s} {e} {P} low d ends = record { spelled = d; only = λ o' e' n' P' d' ends'. of (member_seen S Next behind det d) (member_seen S Next behind det d') ends' }
    where
      of : {o' : ℕ} {n' : Tree} {e' : S} {P' : List Pair} → MemberSeen S Next behind det o n s e P → MemberSeen S Next behind det o' n' s e' P' → MemberEnds S Next behind det e' → (e' ≡ e) × (n' ≡ n) × (P' ≡ P)
      of (with_key v) (with_key w) ends' = keyed_same low v ends w ends'
      of (static_block v) (static_block w) ends' = blocks_same low v w
      of (with_key v) (static_block w) ends' = block_apart S Next behind det w v ends
      of (static_block v) (with_key w) ends' = block_apart S Next behind det v w ends'
