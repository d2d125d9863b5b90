-- Properties of objects and members of classes (ECMA-262 12.2.6, 14.3, 14.6), from their names on.
use Rattle.std.proofs.Common.{◌≡◌, ℕ, Bool, true, false, cond, List, [], ◌++◌, refl, sym, ap, ◌∙◌, subst}
use Rattle.std.specs.Prelude.{IsTrue, Some, codes, ◌&&◌, Result, Ok, Err, IfOk, cond}
use Rattle.std.proofs.lemmas.Bool.{false≢true}
use Rattle.std.proofs.lemmas.Option.{none-some}
use Rattle.tokens.specs.Tokens.{LexicalToken}
use Rattle.tokens.specs.Reading.{Reads as Scans}
use Rattle.tokens.specs.Goals.{allows}
use Rattle.tokens.specs.declared.token.TokenClass.TheVariants.{Punctuator}
use Rattle.tokens.specs.declared.token.Goal.TheVariants.{Div}
use Rattle.token_cursor.specs.CursorState.{CursorState}
use Rattle.tree.specs.declared.kind.Kind.{Kind}
use Rattle.tree.specs.declared.kind.Kind.TheVariants.{Identifier, MemberExpression, SpreadElement, RestElement}
use Rattle.tree.specs.declared.kind.Form.{Form}
use Rattle.tree.specs.declared.kind.Form.TheVariants.{Get, Set, Method, Init, Shorthand, Constructor, Generator, Async, AsyncGenerator}
use Rattle.tree.specs.declared.kind.Pair.{Pair}
use Rattle.tree.specs.Tree.{node, plain, none, part, kind_of}
use Rattle.covers.specs.declared.shape.CoverShape.{CoverShape}
use Rattle.covers.specs.declared.shape.TargetForm.{TargetForm}
use Rattle.covers.specs.declared.shape.TargetForm.TheVariants as assigned
use Rattle.covers.specs.declared.list.ListItem.{ListItem}
use Rattle.covers.specs.declared.list.ListKind.TheVariants as listed
use Rattle.tree.specs.Patterns.{pattern_tree}
use Rattle.covers.specs.Shapes as shapes
use Rattle.language.specs.declared.Start.TheVariants.{Any}
use Rattle.language.specs.Vocabulary.{is_pattern, is_private}
use Rattle.language.specs.Covers.{Reading, as_expression, as_pattern, property_as}
use Rattle.language.specs.Pieces.{Role, spread, rest, bound, private_name, key}
use Rattle.language.specs.Promises.{ReadBy, is_free}
use Rattle.language.specs.Token.{Token}
use Rattle.language.specs.Derivation.{done, step, token}
use Rattle.language.proofs.table.Begins.{div_allows}
use Rattle.language.proofs.covers.CoverSpreads.{spread_spells, rest_spells}
use Rattle.language.proofs.table.PropertyNameWays.{key_form, key_free}
use Rattle.token_cursor.proofs.SeenTokens.{seen_determined}
use Rattle.parser_tables.specs.declared.operand.Operand.{Operand}
use Rattle.recursive_descent.specs.declared.properties.PropertyName.{PropertyName}
use Rattle.recursive_descent.specs.declared.properties.Modifiers.{Modifiers}
use Rattle.recursive_descent.specs.Soundness.{RunsIn, anywhere, Adds, Begins, ReadAt, SpelledAs, assigned_at, target_at, fits_as, read_as}
use Rattle.recursive_descent.specs.SoundnessOfLists.{KeyAt, NamedSo, ItemReads, ValueAt, defined, item_fits, modifier_pieces}
use Rattle.token_cursor.specs.Seen.{ReadsHere}
use Rattle.recursive_descent.proofs.reading.AddedPairs.{adds_behind, adds_both}
use Rattle.recursive_descent.proofs.sound_subscripts.SubscriptReads.{spelled_at}
use Rattle.token_cursor.proofs.TokensAhead.{mark_by}
use Rattle.recursive_descent.proofs.sound_properties.PropertyValues.{at_assignment}
use Rattle.token_cursor.specs.SourceText.{SourceText, SeenNext, behind_in}
use Rattle.recursive_descent.proofs.reading.Forward.{begins_by, place_by}
use Rattle.language.proofs.climbing.Leaves.{private_form}
use Rattle.language.proofs.list_loops.FirstPieces.{run_token}
use Rattle.recursive_descent.specs.Spelled.{SpellsIn}

-- what stands behind `...` among properties, from a place to another
abbrev pub spread_of : Operand → ℕ → ℕ → ListItem
spread_of r st en = record { node = node SpreadElement [] plain st en (part r.cover.node none); shape = shapes.simple r.cover.shape; spreads = true; is_flagged = false; edge = r.edge }

-- a target behind `...` among properties is no pattern
target_bound : (b : Bool) (k : Kind) {a : Role} → target_at Any b k ≡ Some a → (bound b k ≡ Some a) × ((true && is_pattern k) ≡ false)
target_bound true Identifier h = (h, refl)
target_bound true _ h = absurd (none-some _ h)
target_bound false Identifier h = (h, refl)
target_bound false MemberExpression h = (h, refl)
target_bound false _ h = absurd (none-some _ h)

-- such a part has a target's shape
record TargetShape (s : CoverShape) (b : Bool) : Type 0 where
  is : s.assigned ≡ assigned.Target
  fits : fits_as s (as_pattern b) ≡ true

simple_target : (x : TargetForm) → shapes.is_pattern (shapes.simple (record { is_expression = true; assigned = x; binds = true })).assigned ≡ true → x ≡ assigned.Target
simple_target assigned.Target h = refl
simple_target assigned.Nothing h = absurd (false≢true h)
simple_target assigned.Pattern h = absurd (false≢true h)
simple_target assigned.Defaulted h = absurd (false≢true h)

and_left : (a b : Bool) → (a && b) ≡ true → a ≡ true
and_left true b h = refl
and_left false b h = absurd (false≢true h)

and_right : (a b : Bool) → (a && b) ≡ true → b ≡ true
and_right true b h = h
and_right false b h = absurd (false≢true h)

both : (a b : Bool) → a ≡ true → b ≡ true → (a && b) ≡ true
both true b h k = k
both false b h k = cc

target_shape : (s : CoverShape) (b : Bool) (it : ListItem) → it.shape ≡ shapes.simple s → it.spreads ≡ true → item_fits listed.Properties it (as_pattern b) ≡ true → TargetShape s b
target_shape s b it shape spreads fits = of b (sym (λ i. cond (spreads i) (Rattle.recursive_descent.specs.SoundnessOfLists.fits_rest listed.Properties (shape i) (as_pattern b)) (fits_as (shape i) (as_pattern b))) ∙ fits)
  where
    of : (b : Bool) → Rattle.recursive_descent.specs.SoundnessOfLists.fits_rest listed.Properties (shapes.simple s) (as_pattern b) ≡ true → TargetShape s b
    of false h = let t = simple_target s.assigned h in record { is = t; fits = ap shapes.is_element t }
    of true h = let t = simple_target s.assigned (and_right s.binds _ h) in record { is = t; fits = both s.binds (shapes.is_element s.assigned) (and_left s.binds _ h) (ap shapes.is_element t) }

module _ (text : SourceText) where
  -- the token that stands ahead, as the goal behind an operand reads it
  record First (s : Token) : Type 0 where
    sign : Token
    place : Token
    read : ReadBy Token (SeenNext text) (behind_in text) Div s sign place

  key_first : {in_class : Bool} {k : PropertyName} {o : ℕ} {s e : Token} {P : List Pair} → KeyAt text in_class k o s e P → First s
  key_first {k = k} {o = o} {s = s} {e = e} {P = P} d = of k.computed refl
    where
      named : (b : Bool) → SpellsIn text o (cond b private_name key) k.node s e P → First s
      named true p =
          let u = private_form Token (SeenNext text) (behind_in text) (seen_determined text) p in
          record { sign = u.sign; place = e; read = record { next = u.reads.next; allowed = (seen_determined text).free Div s u.sign e u.reads.next (ap is_free u.reads.class) } }
      named false p =
          let u = key_form Token (SeenNext text) (behind_in text) (seen_determined text) p in
          let v = u.leaf in
          record { sign = v.sign; place = e; read = record { next = v.reads.next; allowed = (seen_determined text).free Div s v.sign e v.reads.next (ap is_free v.reads.class ∙ key_free u.class u.is_key) } }

      of : (b : Bool) → k.computed ≡ b → First s
      of false h = named (is_private (kind_of k.node)) (d.plain h)
      of true h = let u = run_token Token (SeenNext text) (behind_in text) (d.computed h).1 in record { sign = u.sign; place = u.mid; read = record { next = u.reads.next; allowed = subst (λ c. IsTrue (allows Div c u.sign.text)) (sym u.reads.class) (div_allows false u.sign.text) } }

  words_first : (b : Bool) (f : Form) {o : ℕ} {s m : Token} → RunsIn text o (anywhere (modifier_pieces b f)) none s m [] → First m → First s
  words_first true f (step (token {t = t} {e = x} r) d) h = record { sign = t; place = x; read = record { next = r.next; allowed = subst (λ c. IsTrue (allows Div c t.text)) (sym r.class) (div_allows true t.text) } }
  words_first false Get (step (token {t = t} {e = x} r) d) h = record { sign = t; place = x; read = record { next = r.next; allowed = subst (λ c. IsTrue (allows Div c t.text)) (sym r.class) (div_allows true t.text) } }
  words_first false Generator (step (token {t = t} {e = x} r) d) h = record { sign = t; place = x; read = record { next = r.next; allowed = subst (λ c. IsTrue (allows Div c t.text)) (sym r.class) (div_allows true t.text) } }
  words_first false Async (step (token {t = t} {e = x} r) d) h = record { sign = t; place = x; read = record { next = r.next; allowed = subst (λ c. IsTrue (allows Div c t.text)) (sym r.class) (div_allows true t.text) } }
  words_first false AsyncGenerator (step (token {t = t} {e = x} r) d) h = record { sign = t; place = x; read = record { next = r.next; allowed = subst (λ c. IsTrue (allows Div c t.text)) (sym r.class) (div_allows true t.text) } }
  words_first false Set (step (token {t = t} {e = x} r) d) h = record { sign = t; place = x; read = record { next = r.next; allowed = subst (λ c. IsTrue (allows Div c t.text)) (sym r.class) (div_allows true t.text) } }
  words_first false Init done h = h
  words_first false Method done h = h
  words_first false Shorthand done h = h
  words_first false Constructor done h = h

  -- where it begins
  pub named_begins : {in_class : Bool} {m : Modifiers} {k : PropertyName} {o : ℕ} {s e : Token} {P : List Pair} {at : ℕ} → ((u : LexicalToken) → Scans text.bytes Div s.stop u → at ≡ u.start) → NamedSo text in_class m k o s e P → Begins text at s
  named_begins {m = m} here d = let h = words_first m.is_static m.form d.words (key_first d.key) in begins_by text here h.read

  -- `...` and an expression
  spread_reads : {r : Operand} {o st : ℕ} {s x e : Token} {Q : List Pair} (it : ListItem) → st ≡ x.start → ReadsHere text Punctuator (codes "...") s x → ReadAt text at_assignment r o x e Q → it ≡ spread_of r st e.stop →
      ItemReads text listed.Properties it o s e Q
  spread_reads {r} {o} {st} {s} {x} {e} {Q} it starts sign read is = subst (λ v. ItemReads text listed.Properties v o s e Q) (sym is) (record {
    reads = λ a has fits. of a fits;
    no_rest = λ a has fits trails. no_rest a trails;
    edge = λ h. absurd (false≢true h);
    is_default = refl;
  })
    where
      no_rest : (a : Reading) → Rattle.recursive_descent.specs.SoundnessOfLists.may_trail (spread_of r st e.stop) a ≡ true → Rattle.language.specs.Vocabulary.is_rest (kind_of (read_as a (node SpreadElement [] plain st e.stop (part r.cover.node none)))) ≡ false
      no_rest as_expression h = refl
      no_rest (as_pattern b) h = absurd (false≢true h)

      of : (a : Reading) → item_fits listed.Properties (spread_of r st e.stop) a ≡ true → SpelledAs (property_as a) text o (read_as a (node SpreadElement [] plain st e.stop (part r.cover.node none))) s e Q
      of as_expression fits = record {
        role = spread;
        it_is = refl;
        spelled = subst (λ v. SpellsIn text o spread (node SpreadElement [] plain v e.stop (part r.cover.node none)) s e Q) (sym starts) (spread_spells Token (SeenNext text) (behind_in text) (seen_determined text) sign (spelled_at refl fits read));
      }
      of (as_pattern b) fits =
          let t = target_shape r.cover.shape b (spread_of r st e.stop) refl refl fits in
          let v = read.part.assigned b t.fits (λ h. (refl, refl)) in
          let w = target_bound b (kind_of (pattern_tree r.cover.node)) (ap (λ y. assigned_at y Any b (kind_of (pattern_tree r.cover.node))) (sym t.is) ∙ v.it_is) in
          record {
            role = rest b true;
            it_is = refl;
            spelled = subst (λ u. SpellsIn text o (rest b true) (node RestElement [] plain u e.stop (part (pattern_tree r.cover.node) none)) s e Q) (sym starts) (rest_spells Token (SeenNext text) (behind_in text) (seen_determined text) b true w.0 w.1 sign v.spelled);
          }

pub spread_item : {s x e : CursorState} {old mid new : List Pair} (in_class : Bool) (r : Operand) (start : ℕ) (it : ListItem) → in_class ≡ false → ((u : LexicalToken) → Scans s.text.bytes Div s.last.stop u → start ≡ u.start) → x.text ≡ s.text → x.opened ≡ s.opened → mid ≡ old → ReadsHere s.text Punctuator (codes "...") s.last x.last →
    Adds x e mid new (ReadAt x.text at_assignment r) → it ≡ spread_of r start e.last.stop → Adds s e old new (ItemReads s.text (defined in_class) it)
spread_item {s} {x} {e} in_class r start it object here text open_same same sign a is =
    adds_behind open_same same a (λ o Q d. subst (λ c. ItemReads s.text (defined c) it o s.last e.last Q) (sym object)
    (spread_reads s.text it (place_by s.text here (mark_by s.text sign)) sign (subst (λ v. ReadAt v at_assignment r o x.last e.last Q) text d) is))

-- a key without words before it
bare_words : (text : SourceText) {m : Modifiers} {k : PropertyName} {o : ℕ} {s e : Token} {P : List Pair} → m.is_static ≡ false → m.form ≡ Method → NamedSo text false m k o s e P → KeyAt text false k o s e P
bare_words text {m} {k} {o} {s} {e} {P} static form d = of (subst (λ v. RunsIn text o (anywhere v) none s d.mid []) (λ i. modifier_pieces (static i) (form i)) d.words)
  where
    of : RunsIn text o [] none s d.mid [] → KeyAt text false k o s e P
    of r = let z = Rattle.language.proofs.list_loops.FirstPieces.run_none Token (SeenNext text) (behind_in text) r in subst (λ v. KeyAt text false k o v e P) (sym z.place) d.key

pub value_item : {s y m e : CursorState} {old p1 mid new : List Pair} (in_class : Bool) (ms : Modifiers) (k : PropertyName) (start : ℕ) (it : ListItem) → in_class ≡ false → ms.form ≡ Method → ((u : LexicalToken) → Scans s.text.bytes Div s.last.stop u → start ≡ u.start) → y.text ≡ s.text → y.opened ≡ s.opened → p1 ≡ old → y.last ≡ s.last →
    m.text ≡ y.text → Adds y m p1 mid (NamedSo y.text in_class ms k) → Adds m e mid new (ValueAt m.text k start it) → Adds s e old new (ItemReads s.text (defined in_class) it)
value_item {s} {y} {m} {e} in_class ms k start it object form here text0 open0 same0 stays text a b =
    adds_behind {s = s} {m = y} {e = e} {B = λ o z c R. ItemReads s.text (defined in_class) it o z c R} open0 same0 (adds_both {s = y} {m = m} {e = e} {C = λ o z c R. ItemReads s.text (defined in_class) it o s.last c R} a b (λ o P Q u v.
    let named : NamedSo s.text false ms k o s.last m.last P = subst (λ c. NamedSo s.text c ms k o s.last m.last P) object (subst (λ t. NamedSo t in_class ms k o s.last m.last P) text0 (subst (λ z. NamedSo y.text in_class ms k o z m.last P) stays u)) in
    subst (λ c. ItemReads s.text (defined c) it o s.last e.last (P ++ Q)) (sym object)
    (subst (λ t. ValueAt t k start it o m.last e.last Q) (text ∙ text0) v s.last P (named_begins s.text here named) (bare_words s.text (named.no_static refl) form named)))) (λ o R d. d)

-- what holds of a value holds of it in other words
pub map_ok : {X E : Type 0} (r : Result X E) {A B : X → Type 0} → ((x : X) → A x → B x) → IfOk r A → IfOk r B
map_ok (Ok x) f h = f x h
map_ok (Err e) f h = h
