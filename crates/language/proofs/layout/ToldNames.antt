-- A text may be read with its keywords as keywords or as names: what is derived so, each language derives as it sees the tokens, where
-- it keeps its names.
use Rattle.std.proofs.Common.{◌≡◌, ℕ, Bool, true, false, cond, not, ◌&&◌, ◌||◌, List, [], ◌∷◌, refl, sym, ap, ap₂, ◌∙◌, subst}
use Rattle.std.specs.Prelude.{codes, bytes_eq}
use Rattle.std.proofs.lemmas.Bool.{and_parts, and_from, false≢true}
use Rattle.std.proofs.lemmas.Slice.Eq.{bytes_eq-Decides}
use Rattle.tokens.specs.declared.token.TokenClass.{TokenClass}
use Rattle.tokens.specs.declared.token.TokenClass.TheVariants.{IdentifierName, Keyword}
use Rattle.tree.specs.declared.kind.Kind.{Kind}
use Rattle.tree.specs.declared.kind.Kind.TheVariants.{Identifier}
use Rattle.tree.specs.declared.kind.Flags.{Flags}
use Rattle.tree.specs.declared.kind.Pair.{Pair}
use Rattle.tree.specs.Tree.{Tree, node, Parts, none, plain, bare}
use Rattle.tree.proofs.Lean.{lean_flags}
use Rattle.language.specs.declared.Rank.TheVariants.{Primary}
use Rattle.language.specs.declared.Language.{Language}
use Rattle.language.specs.Languages.{is_of_2022, class_in, seen_in, Seen, seen_next}
use Rattle.language.specs.Vocabulary.{is, is_keyword}
use Rattle.language.specs.declared.Edge.{Edge}
use Rattle.language.specs.declared.Edge.TheVariants.{Arrow, Postfix, Other, Closed}
use Rattle.language.specs.Edges.{begins_no_operand, edge_as_written, goes_on, value_goes_on, is_semicolon, is_end, is_sign, may_omit_semicolon}
use Rattle.language.specs.Pieces.{Role, key, word, shorthand_key, template_element, script, PieceOf, Spelling, at, tok, Ending, of_do, behind_value, behind_key, of_export, behind as behind_edge}
use Rattle.language.specs.Grammar.{ways, spellings}
use Rattle.language.specs.RowPositions.{roles}
use Rattle.language.specs.Token.{Token}
use Rattle.language.specs.Derivation.{Among, first, Reads, Spells, direct, grouped, Runs, done, step, opened, closed, within, missing, Step, token, with_mark, without_mark, one_more, no_more, seen, same_line, left_bare, explicit, implicit, laid, reserved_key, reserved_word, Placed, placed, place, pair_of}
use Rattle.language.proofs.lower_bound.Domination.{settled}
use Rattle.language.proofs.lower_bound.LowerBound.{Step-roles}
use Rattle.language.proofs.table.Alike.{same, at_expressions}
use Rattle.language.proofs.table.ViewIsComplete.{way_of, one}
use Rattle.language.proofs.table.Productions.{way_from}
use Rattle.language.proofs.table.Begins.{retell}
use Rattle.language.proofs.table.PropertyNameWays.{word_key}
use Rattle.language.proofs.list_loops.FirstPieces.{run_none, run_token}
use Rattle.language.proofs.climbing.BinaryTurns.{same_node}
use Rattle.language.proofs.table.TreesOfWords.{name_stays, names_stay}
use Rattle.language.proofs.layout.LooseReadings.{Loose, plainly, reserved}
use Rattle.language.proofs.layout.KeptNames.{is_any_word, Kept, PartsKept, kept_like}

-- the one keyword
keyword_is : (w : List ℕ) → is_keyword w ≡ true → w ≡ codes "await"
unfolding is_keyword
keyword_is w h = go (bytes_eq w (codes "await")) refl h
  where
    go : (b : Bool) → bytes_eq w (codes "await") ≡ b → (b || false) ≡ true → w ≡ codes "await"
    go true e h = (bytes_eq-Decides w (codes "await")).0 e
    go false e h = absurd (false≢true h)

-- What asks nothing of a token's class but whether it is a sign, the end or such

abbrev worded : TokenClass → List ℕ → Token → Token
worded c w t = record t { class = c; text = w }

goes_same : (x : Edge) (t : Token) → goes_on x (worded Keyword (codes "await") t) ≡ goes_on x (worded IdentifierName (codes "await") t)
goes_same Arrow t = refl
goes_same Closed t = refl
goes_same Postfix t = refl
goes_same Other t = refl

value_same : (x : Edge) (t : Token) → value_goes_on x (worded Keyword (codes "await") t) ≡ value_goes_on x (worded IdentifierName (codes "await") t)
value_same Arrow t = refl
value_same Closed t = refl
value_same Postfix t = refl
value_same Other t = refl

omit_same : (x : Ending) (last t : Token) → may_omit_semicolon x last (worded Keyword (codes "await") t) ≡ may_omit_semicolon x last (worded IdentifierName (codes "await") t)
omit_same of_do last t = refl
omit_same (behind_value x) last t = ap (λ b. t.after_break && not b) (value_same (edge_as_written x last) t)
omit_same (behind_key w s) last t = refl
omit_same of_export last t = refl
omit_same (behind_edge x) last t = ap (λ b. t.after_break && not b) (goes_same (edge_as_written x last) t)

unlike : Keyword ≡ IdentifierName → ⊥
unlike e = cc

either : {X : Type 0} (b : Bool) → (b ≡ true → X) → (b ≡ false → X) → X
either true f g = f refl
either false f g = g refl

-- a test that is the same of a keyword and of its name
record Blind (f : Token → Bool) : Type 0 where
  same_test : (t : Token) → f (worded Keyword (codes "await") t) ≡ f (worded IdentifierName (codes "await") t)

blind_at : (f : Token → Bool) → Blind f → (t : Token) → is_keyword t.text ≡ true → f (record t { class = Keyword }) ≡ f (record t { class = IdentifierName })
blind_at f b t k = subst (λ w. f (worded Keyword w t) ≡ f (worded IdentifierName w t)) (sym (keyword_is t.text k)) (b.same_test t)

blind_class : (m : Language) (f : Token → Bool) → Blind f → (t : Token) (c : TokenClass) → f (record t { class = class_in m c t.text }) ≡ f (record t { class = c })
blind_class m f b t IdentifierName = of (is_of_2022 m && is_keyword t.text) refl
  where
    of : (x : Bool) → (is_of_2022 m && is_keyword t.text) ≡ x → f (record t { class = cond x Keyword IdentifierName }) ≡ f (record t { class = IdentifierName })
    of true e = blind_at f b t (and_parts (is_of_2022 m) _ e).1
    of false e = refl
blind_class m f b t _ = refl

class_stays : (m : Language) (c : TokenClass) (w : List ℕ) → name_stays (is_of_2022 m) c w ≡ true → class_in m c w ≡ c
class_stays m IdentifierName w h = of (is_of_2022 m && is_keyword w) h
  where
    of : (x : Bool) → not x ≡ true → cond x Keyword IdentifierName ≡ IdentifierName
    of true h = absurd (false≢true h)
    of false h = refl
class_stays m _ w h = refl

told_class : (m : Language) (w : List ℕ) → (is_of_2022 m && is_keyword w) ≡ true → class_in m IdentifierName w ≡ Keyword
told_class m w h = ap (λ x. cond x Keyword IdentifierName) h

-- the class of a token moves no node
place_class : (a : Role) (t l : Token) (c d c' d' : TokenClass) → place a (record t { class = c }) (record l { class = c' }) ≡ place a (record t { class = d }) (record l { class = d' })
place_class shorthand_key t l c d c' d' = refl
place_class (template_element x y) t l c d c' d' = refl
place_class script t l c d c' d' = refl
place_class _ t l c d c' d' = refl

-- nor that of the token before an ending
edge_seen : (m : Language) (x : Edge) (l : Token) → edge_as_written x (seen_in m l) ≡ edge_as_written x l
edge_seen m Arrow l = refl
edge_seen m Postfix l = refl
edge_seen m Other l = refl
edge_seen m Closed l = refl

omit_seen : (m : Language) (x : Ending) (l t : Token) → may_omit_semicolon x (seen_in m l) t ≡ may_omit_semicolon x l t
omit_seen m of_do l t = refl
omit_seen m (behind_value x) l t = ap (λ e. not (is_semicolon t) && ((is_end t || (is_sign t && is t.text "}")) || (t.after_break && not (value_goes_on e t)))) (edge_seen m x l)
omit_seen m (behind_key w s) l t = refl
omit_seen m of_export l t = refl
omit_seen m (behind_edge x) l t = ap (λ e. not (is_semicolon t) && ((is_end t || (is_sign t && is t.text "}")) || (t.after_break && not (goes_on e t)))) (edge_seen m x l)

module _ (S : Type 0) (Next : S → Token → S → Type 0) (behind : S → Token) (m : Language)
    (starts : (s : S) (a b : Token) (e f : S) → Next s a e → Next s b f → a.start ≡ b.start)
    (no_keyword : (s : S) (t : Token) (e : S) → Next s t e → t.class ≡ Keyword → ⊥) where
  abbrev told : Bool
  told = is_of_2022 m

  loose_starts : {s e f : S} {a b : Token} → Loose S Next s a e → Loose S Next s b f → a.start ≡ b.start
  loose_starts {s} {e} {f} (plainly {t = t} x) (plainly {t = u} y) = starts s t u e f x y
  loose_starts {s} {e} {f} (plainly {t = t} x) (reserved {t = u} y h k) = starts s t u e f x y
  loose_starts {s} {e} {f} (reserved {t = t} x h k) (plainly {t = u} y) = starts s t u e f x y
  loose_starts {s} {e} {f} (reserved {t = t} x h k) (reserved {t = u} y h' k') = starts s t u e f x y

  -- A token, as the language sees it

  record SeenRead (c : TokenClass) (w : List ℕ) (s e : S) (t : Token) : Type 0 where
    sign : Token
    reads : Reads S (Seen S Next m) (λ p. seen_in m (behind p)) c w s sign e
    start : sign.start ≡ t.start

  read_told : {c : TokenClass} {w : List ℕ} {s e : S} {t : Token} → Reads S (Loose S Next) behind c w s t e → name_stays told c w ≡ true → SeenRead c w s e t
  read_told {c} {w} {s} {e} r k = of r.next r.class r.text
    where
      of : {t : Token} → Loose S Next s t e → t.class ≡ c → t.text ≡ w → SeenRead c w s e t
      of (plainly {t = t} x) p q = record { sign = seen_in m t; reads = record { next = seen_next x; class = ap₂ (λ a b. class_in m a b) p q ∙ class_stays m c w k; text = q }; start = refl }
      of (reserved {t = t} x h i) p q = record {
        sign = seen_in m t;
        reads = record { next = seen_next x; class = ap (λ a. class_in m a t.text) h ∙ (told_class m t.text (and_from told _ (subst (λ a. name_stays told a w ≡ true) (sym p) k) i) ∙ p); text = q };
        start = refl;
      }

  -- any token that is read, by tests that don't tell keywords from names
  record SeenNext (f : Token → Bool) (s e : S) (t : Token) : Type 0 where
    sign : Token
    next : Seen S Next m s sign e
    break : sign.after_break ≡ t.after_break
    test : f sign ≡ f t
    place : (a : Role) (l : Token) → place a sign (seen_in m l) ≡ place a t l

  next_told : (f : Token → Bool) → Blind f → {s e : S} {t : Token} → Loose S Next s t e → SeenNext f s e t
  next_told f b (plainly {t = t} x) = record { sign = seen_in m t; next = seen_next x; break = refl; test = blind_class m f b t t.class; place = λ a l. place_class a t l (class_in m t.class t.text) t.class (class_in m l.class l.text) l.class }
  next_told f b (reserved {t = t} x h i) = record {
    sign = seen_in m t;
    next = seen_next x;
    break = refl;
    test = blind_class m f b t t.class ∙ (ap (λ c. f (record t { class = c })) h ∙ sym (blind_at f b t i));
    place = λ a l. place_class a t l (class_in m t.class t.text) Keyword (class_in m l.class l.text) l.class;
  }

  -- Pieces that are no nodes

  step_told : {q : PieceOf Role} (qs : List (PieceOf Role)) {s e : S} → Step S (Loose S Next) behind q s e → names_stay told (q ∷ qs) ≡ true → Step S (Seen S Next m) (λ p. seen_in m (behind p)) q s e × (names_stay told qs ≡ true)
  step_told qs (token {c = c} {w = w} r) h = let u = and_parts (name_stays told c w) _ h in let v = read_told r u.0 in (token v.reads, u.1)
  step_told qs (with_mark r) h = let v = read_told r refl in (with_mark v.reads, h)
  step_told qs without_mark h = (without_mark, h)
  step_told qs (one_more r y) h = let v = read_told r refl in let z = step_told qs y h in (one_more v.reads z.0, z.1)
  step_told qs no_more h = (no_more, h)
  step_told qs (seen {w = w} r) h = let u = and_parts (name_stays told IdentifierName w) _ h in let v = read_told r u.0 in (seen v.reads, u.1)
  step_told qs (same_line x y) h = let v = next_told (λ t. true) (record { same_test = λ t. refl }) x in (same_line v.next (v.break ∙ y), h)
  step_told qs (left_bare x y) h = let v = next_told begins_no_operand (record { same_test = λ t. refl }) x in (left_bare v.next (v.test ∙ y), h)
  step_told qs (explicit r) h = let v = read_told r refl in (explicit v.reads, h)
  step_told qs {s} (implicit {x = x} n y) h = let v = next_told (λ t. may_omit_semicolon x (behind s) t) (record { same_test = λ t. omit_same x (behind s) t }) n in (implicit v.next (omit_seen m x (behind s) v.sign ∙ (v.test ∙ y)), h)
  step_told qs laid h = (laid, h)

  placed_told : {a : Role} {n : Tree} {s e : S} → Placed S (Loose S Next) behind a n s e → Placed S (Seen S Next m) (λ p. seen_in m (behind p)) a n s e
  placed_told {a} {e = e} (placed x p) = let v = next_told (λ t. true) (record { same_test = λ t. refl }) x in placed v.next (v.place a (behind e) ∙ p)

  -- A name that may be any word

  any_key : {o : ℕ} {w : List ℕ} {s e : S} {t : Token} → Next s t e → t.class ≡ IdentifierName → t.text ≡ w → Spells ways S (Seen S Next m) (λ p. seen_in m (behind p)) o key (node Identifier w plain t.start (behind e).stop none) s e []
  any_key {o = o} {w = w} {s = s} {e = e} {t = t} x p q = of (told && is_keyword w) refl
    where
      of : (b : Bool) → (told && is_keyword w) ≡ b → Spells ways S (Seen S Next m) (λ p. seen_in m (behind p)) o key (node Identifier w plain t.start (behind e).stop none) s e []
      of true h = reserved_key (record { next = seen_next x; class = ap₂ (λ a b. class_in m a b) p q ∙ told_class m w h; text = q }) (and_parts told _ h).1 refl
      of false h = word_key S (Seen S Next m) (λ p. seen_in m (behind p)) (record { next = seen_next x; class = ap₂ (λ a b. class_in m a b) p q ∙ ap (λ b. cond b Keyword IdentifierName) h; text = q })

  any_word : {o : ℕ} {w : List ℕ} {s e : S} {t : Token} → Next s t e → t.class ≡ IdentifierName → t.text ≡ w → Spells ways S (Seen S Next m) (λ p. seen_in m (behind p)) o word (node Identifier w plain t.start (behind e).stop none) s e []
  unfolding spellings
  any_word {o = o} {w = w} {s = s} {e = e} {t = t} x p q = of (told && is_keyword w) refl
    where
      y : Spelling
      y = at Primary (tok IdentifierName w ∷ [])

      of : (b : Bool) → (told && is_keyword w) ≡ b → Spells ways S (Seen S Next m) (λ p. seen_in m (behind p)) o word (node Identifier w plain t.start (behind e).stop none) s e []
      of true h = reserved_word (record { next = seen_next x; class = ap₂ (λ a b. class_in m a b) p q ∙ told_class m w h; text = q }) (and_parts told _ h).1 refl
      of false h =
          let c : (seen_in m t).class ≡ IdentifierName = ap₂ (λ a b. class_in m a b) p q ∙ ap (λ b. cond b Keyword IdentifierName) h in
          direct (settled word y) (way_from word (node Identifier w plain t.start (behind e).stop none) y refl first refl) (placed (seen_next x) refl) (step (token (record { next = seen_next x; class = c; text = q })) done)

  -- the one token of such a name
  record OneName (w : List ℕ) (g : Flags) (st en : ℕ) (ps : Parts) (s e : S) (P : List Pair) : Type 0 where
    sign : Token
    next : Next s sign e
    class : sign.class ≡ IdentifierName
    text : sign.text ≡ w
    tree : node Identifier w g st en ps ≡ node Identifier w plain sign.start (behind e).stop none
    pairs : P ≡ []

  one_name : {o : ℕ} {w : List ℕ} {g : Flags} {st en : ℕ} {ps : Parts} {s e k : S} {P : List Pair} {t : Token} → Runs ways S (Loose S Next) behind o (tok IdentifierName w ∷ []) ps s e P → g ≡ plain →
      Loose S Next s t k → t.start ≡ st → (behind e).stop ≡ en → OneName w g st en ps s e P
  one_name {w = w} {g = g} {st = st} {en = en} {ps = ps} {s = s} {e = e} {P = P} d flags nx p q =
      let u = run_token S (Loose S Next) behind d in
      let z = run_none S (Loose S Next) behind u.runs in
      let r = u.reads in
      of u.mid z.place z.parts z.pairs r.next r.class r.text
    where
      of : {t' : Token} (mid : S) → mid ≡ e → ps ≡ none → P ≡ [] → Loose S Next s t' mid → t'.class ≡ IdentifierName → t'.text ≡ w → OneName w g st en ps s e P
      of mid i parts pairs (plainly {t = t'} x) c v = record {
        sign = t';
        next = subst (λ y. Next s t' y) i x;
        class = c;
        text = v;
        tree = same_node refl refl flags (sym p ∙ loose_starts nx (plainly x)) (sym q) parts;
        pairs = pairs;
      }
      of mid i parts pairs (reserved x h l) c v = absurd (unlike c)

  -- Nodes

  pair_told : {P : List Pair} {o : ℕ} {a : Role} {n : Tree} {s e : S} (l r l' r' : Token) → l'.start ≡ l.start → r'.start ≡ r.start →
      Spells ways S (Seen S Next m) (λ p. seen_in m (behind p)) o a n s e (pair_of l' r' ∷ P) → Spells ways S (Seen S Next m) (λ p. seen_in m (behind p)) o a n s e (pair_of l r ∷ P)
  pair_told {P} {o} {a} {n} {s} {e} l r l' r' p q d = subst (λ (x : Pair). Spells ways S (Seen S Next m) (λ p. seen_in m (behind p)) o a n s e (x ∷ P)) (ap₂ {C = Pair} (λ x y. record { left = x; right = y }) p q) d

  name_told : {o : ℕ} (a : Role) (k : Kind) {w : List ℕ} {g : Flags} {st en : ℕ} {ps : Parts} {qs : List (PieceOf Role)} {s e : S} {P : List Pair} → is_any_word a k ≡ true → Among qs (ways a (node k w g st en ps)) →
      Placed S (Loose S Next) behind a (node k w g st en ps) s e → Runs ways S (Loose S Next) behind o qs ps s e P → Spells ways S (Seen S Next m) (λ p. seen_in m (behind p)) o a (node k w g st en ps) s e P
  unfolding spellings
  name_told {o} key Identifier {w} {g} {st} {en} {ps} {qs} {s} {e} {P} i h (placed nx p) d =
      let v = way_of h in
      let u = one_name (retell S (Loose S Next) behind (v.is ∙ ap (settled key) (one v.listed)) d) (lean_flags (bare (node Identifier w g st en ps)) v.lean) nx (ap (λ (x : ℕ × ℕ). x.0) p) (ap (λ (x : ℕ × ℕ). x.1) p) in
      subst (λ Q. Spells ways S (Seen S Next m) (λ p. seen_in m (behind p)) o key (node Identifier w g st en ps) s e Q) (sym u.pairs) (subst (λ n. Spells ways S (Seen S Next m) (λ p. seen_in m (behind p)) o key n s e []) (sym u.tree) (any_key u.next u.class u.text))
  name_told {o} word Identifier {w} {g} {st} {en} {ps} {qs} {s} {e} {P} i h (placed nx p) d =
      let v = way_of h in
      let u = one_name (retell S (Loose S Next) behind (v.is ∙ ap (settled word) (one v.listed)) d) (lean_flags (bare (node Identifier w g st en ps)) v.lean) nx (ap (λ (x : ℕ × ℕ). x.0) p) (ap (λ (x : ℕ × ℕ). x.1) p) in
      subst (λ Q. Spells ways S (Seen S Next m) (λ p. seen_in m (behind p)) o word (node Identifier w g st en ps) s e Q) (sym u.pairs) (subst (λ n. Spells ways S (Seen S Next m) (λ p. seen_in m (behind p)) o word n s e []) (sym u.tree) (any_word u.next u.class u.text))
  name_told _ k i h pl d = absurd (false≢true i)

  keyword_key : {o : ℕ} {n : Tree} {w : List ℕ} {s e : S} {t : Token} → Loose S Next s t e → t.class ≡ Keyword → t.text ≡ w → n ≡ node Identifier w plain t.start (behind e).stop none → Spells ways S (Seen S Next m) (λ p. seen_in m (behind p)) o key n s e []
  keyword_key {s = s} {e = e} (plainly {t = t} x) c q p = absurd (no_keyword s t e x c)
  keyword_key {o} {s = s} {e = e} (reserved x h l) c q p = subst (λ z. Spells ways S (Seen S Next m) (λ p. seen_in m (behind p)) o key z s e []) (sym p) (any_key x h q)

  keyword_word : {o : ℕ} {n : Tree} {w : List ℕ} {s e : S} {t : Token} → Loose S Next s t e → t.class ≡ Keyword → t.text ≡ w → n ≡ node Identifier w plain t.start (behind e).stop none → Spells ways S (Seen S Next m) (λ p. seen_in m (behind p)) o word n s e []
  keyword_word {s = s} {e = e} (plainly {t = t} x) c q p = absurd (no_keyword s t e x c)
  keyword_word {o} {s = s} {e = e} (reserved x h l) c q p = subst (λ z. Spells ways S (Seen S Next m) (λ p. seen_in m (behind p)) o word z s e []) (sym p) (any_word x h q)

  mutual
    unfolding Kept PartsKept

    -- what is derived with either reading, the language derives
    pub spells_told : {o : ℕ} {a : Role} {n : Tree} {s e : S} {P : List Pair} → Spells ways S (Loose S Next) behind o a n s e P → Kept told n a → Spells ways S (Seen S Next m) (λ p. seen_in m (behind p)) o a n s e P
    spells_told {o} {a} {n = node k w g st en ps} {s} {e} {P} (direct qs h pl d) x = either (is_any_word a k) (λ i. name_told a k i h pl d) (λ i. (let u = x i a same qs h in direct qs h (placed_told pl) (runs_told d u.0 u.1)))
    spells_told {n = n} (grouped {left = t} {right = v} p d q) x =
        let l = read_told p refl in
        let r = read_told q refl in
        pair_told t v l.sign r.sign l.start r.start (grouped l.reads (spells_told d (kept_like told n at_expressions x)) r.reads)
    spells_told (reserved_key r k e) x = keyword_key r.next r.class r.text e
    spells_told (reserved_word r k e) x = keyword_word r.next r.class r.text e

    pub runs_told : {o : ℕ} {qs : List (PieceOf Role)} {ps : Parts} {s e : S} {P : List Pair} → Runs ways S (Loose S Next) behind o qs ps s e P → names_stay told qs ≡ true → PartsKept told ps (roles qs) → Runs ways S (Seen S Next m) (λ p. seen_in m (behind p)) o qs ps s e P
    runs_told done h x = done
    runs_told (step {qs = qs} {ps = ps} q d) h x = let u = step_told qs q h in step u.0 (runs_told d u.1 (subst (λ xs. PartsKept told ps xs) (Step-roles S (Loose S Next) behind qs q) x))
    runs_told (opened r d) h x = let u = read_told r refl in opened u.reads (runs_told d h x)
    runs_told (closed r d) h x = let u = read_told r refl in closed u.reads (runs_told d h x)
    runs_told (within p d) h x = within (spells_told p x.0) (runs_told d h x.1)
    runs_told (missing d) h x = missing (runs_told d h x)
