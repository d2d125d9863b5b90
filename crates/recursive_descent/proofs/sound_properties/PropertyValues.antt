-- Properties of objects and their patterns that are no methods (ECMA-262 12.2.6, 12.15.5, 13.3.3).
use Rattle.std.proofs.Common.{◌≡◌, ℕ, Bool, true, false, List, [], ◌∷◌, ◌++◌, refl, sym, ap, ◌∙◌, subst}
use Rattle.std.specs.Prelude.{Some, IfSome, codes, not, ◌&&◌, cond}
use Rattle.std.proofs.lemmas.Bool.{false≢true}
use Rattle.std.proofs.lemmas.List.{append-nil}
use Rattle.std.proofs.lemmas.Option.{none-some}
use Rattle.tokens.specs.Scanned.{token_of}
use Rattle.tokens.specs.declared.token.Token.{Token as Scanned}
use Rattle.tokens.specs.declared.token.TokenClass.TheVariants.{IdentifierName, Punctuator}
use Rattle.token_cursor.specs.CursorState.{CursorState}
use Rattle.tree.specs.declared.kind.Kind.{Kind}
use Rattle.tree.specs.declared.kind.Kind.TheVariants.{Identifier, MemberExpression, Property, ArrayPattern, ObjectPattern, AssignmentPattern, AssignmentExpression}
use Rattle.tree.specs.declared.kind.Form.TheVariants.{Init, Shorthand}
use Rattle.tree.specs.declared.kind.Flags.{Flags}
use Rattle.tree.specs.declared.kind.Pair.{Pair}
use Rattle.tree.specs.Tree.{Tree, node, plain, Parts, none, part, kind_of}
use Rattle.covers.specs.declared.shape.CoverShape.{CoverShape}
use Rattle.covers.specs.declared.shape.TargetForm.{TargetForm}
use Rattle.covers.specs.declared.shape.TargetForm.TheVariants as assigned
use Rattle.covers.specs.declared.list.ListItem.{ListItem}
use Rattle.covers.specs.declared.list.ListKind.TheVariants as listed
use Rattle.tree.specs.Patterns.{pattern_tree}
use Rattle.covers.specs.Shapes as shapes
use Rattle.language.specs.declared.Rank.TheVariants.{Assignment, Primary}
use Rattle.language.specs.declared.Start.TheVariants.{Any}
use Rattle.language.specs.Vocabulary.{is_reserved, is_rest}
use Rattle.language.specs.Covers.{Reading, as_expression, as_pattern, property_as}
use Rattle.language.specs.Pieces.{Role, expr, name, shorthand_key, element, put, with_default, Spelling, at as at_symbol, private_name, key}
use Rattle.language.specs.Token.{Token, as_read, table_text}
use Rattle.language.specs.Grammar.{spellings}
use Rattle.language.specs.Derivation.{Placed, placed, direct, within, first}
use Rattle.language.proofs.covers.CoverElements.{default_spells}
use Rattle.language.proofs.covers.CoverKeys.{echo_spells}
use Rattle.language.proofs.covers.CoverObjects.{value_spells, property_role}
use Rattle.language.proofs.covers.CoverProperties.{flags_as, plain_key, computed_key, run_key}
use Rattle.language.proofs.covers.CoverProperties as properties
use Rattle.language.proofs.lower_bound.Domination.{settled}
use Rattle.language.proofs.climbing.OperatorNodes.{last_runs}
use Rattle.language.proofs.climbing.Leaves.{name_found}
use Rattle.language.proofs.table.Productions.{way_from}
use Rattle.language.proofs.list_loops.FirstPieces.{run_none}
use Rattle.token_cursor.proofs.SeenTokens.{seen_determined}
use Rattle.parser_tables.specs.declared.operand.Operand.{Operand}
use Rattle.parser_tables.specs.declared.expression_context.ExpressionContext.{ExpressionContext}
use Rattle.recursive_descent.specs.declared.properties.PropertyName.{PropertyName}
use Rattle.recursive_descent.specs.Soundness.{Adds, Begins, ReadAt, SpelledAs, assigned_at, fits_as, read_as}
use Rattle.recursive_descent.specs.SoundnessOfLists.{KeyAt, ItemReads, ValueAt}
use Rattle.parser_tables.specs.Items.{property_item}
use Rattle.parser_tables.specs.Methods.{member_flags}
use Rattle.token_cursor.specs.Seen.{ReadsHere, is_free_name}
use Rattle.parser_tables.specs.Tokens.{single_node, key_node, key_node_by}
use Rattle.recursive_descent.proofs.reading.AddedPairs.{adds_behind, adds_none}
use Rattle.recursive_descent.proofs.sound_subscripts.SubscriptReads.{spelled_at}
use Rattle.token_cursor.specs.SourceText.{SourceText, SeenNext, behind_in, unseen}
use Rattle.recursive_descent.specs.Spelled.{SpellsIn}
use Rattle.recursive_descent.proofs.reading.SeenClasses.{as_here}

-- the position of what stands behind `:` and `=`
abbrev pub at_assignment : ExpressionContext
at_assignment = record { rank = Assignment; has_in = true; start = Any }

-- where a target, a pattern or either with a default stands, an element does
pub with_default_of : (x : TargetForm) (b : Bool) (k : Kind) {a : Role} → assigned_at x Any b k ≡ Some a → with_default b k ≡ Some a
with_default_of assigned.Nothing b k h = absurd (none-some _ h)
with_default_of assigned.Target true Identifier h = h
with_default_of assigned.Target true _ h = absurd (none-some _ h)
with_default_of assigned.Target false Identifier h = h
with_default_of assigned.Target false MemberExpression h = h
with_default_of assigned.Target false _ h = absurd (none-some _ h)
with_default_of assigned.Pattern true ArrayPattern h = h
with_default_of assigned.Pattern true ObjectPattern h = h
with_default_of assigned.Pattern true _ h = absurd (none-some _ h)
with_default_of assigned.Pattern false ArrayPattern h = h
with_default_of assigned.Pattern false ObjectPattern h = h
with_default_of assigned.Pattern false _ h = absurd (none-some _ h)
with_default_of assigned.Defaulted b AssignmentPattern h = h
with_default_of assigned.Defaulted b _ h = absurd (none-some _ h)

-- a name that is key and value, and one with a default
data Short : Reading → Tree → Role → Type 0 where
  short_name : {a : Reading} {w : List ℕ} {g : Flags} {s e : ℕ} {ps : Parts} → Short a (node Identifier w g s e ps) name
  short_default : {b : Bool} {w : List ℕ} {g : Flags} {s e : ℕ} {ps : Parts} → Short (as_pattern b) (node AssignmentPattern w g s e ps) (element true)

module _ (text : SourceText) where
  -- a key as the tables have it
  pub key_known : {o : ℕ} {k : PropertyName} {s e : Token} {P : List Pair} → KeyAt text false k o s e P → properties.KeyAt Token (SeenNext text) (behind_in text) (seen_determined text) o k.node s e P k.computed
  key_known {o} {k} {s} {e} {P} d = of k.computed refl
    where
      first_is : {a b : Tree} {ps qs : Parts} → part a ps ≡ part b qs → b ≡ a
      first_is h = cc

      of : (b : Bool) → k.computed ≡ b → properties.KeyAt Token (SeenNext text) (behind_in text) (seen_determined text) o k.node s e P b
      of false h = plain_key (subst (λ b. SpellsIn text o (cond b private_name key) k.node s e P) (d.public refl h) (d.plain h))
      of true h =
          let w = run_key Token (SeenNext text) (behind_in text) (seen_determined text) true [] (d.computed h).1 in
          let z = run_none Token (SeenNext text) (behind_in text) w.runs in
          let pairs : P ≡ w.one = w.pairs ∙ ap (λ x. w.one ++ x) z.pairs ∙ append-nil w.one in
          subst (λ n. properties.KeyAt Token (SeenNext text) (behind_in text) (seen_determined text) o n s e P true) (first_is w.parts)
          (subst (λ v. properties.KeyAt Token (SeenNext text) (behind_in text) (seen_determined text) o w.item s v P true) z.place
          (subst (λ v. properties.KeyAt Token (SeenNext text) (behind_in text) (seen_determined text) o w.item s w.mid v true) (sym pairs) w.key))

  property_placed : (a : Reading) {w : List ℕ} {g : Flags} {st : ℕ} {ps : Parts} {s e : Token} → Begins text st s → Placed Token (SeenNext text) (behind_in text) (property_role a) (node Property w g st e.stop ps) s e
  property_placed as_expression {e = e} b = placed b.next (ap (λ (x : ℕ). (x, e.stop)) b.start)
  property_placed (as_pattern c) {e = e} b = placed b.next (ap (λ (x : ℕ). (x, e.stop)) b.start)

  -- a property, by each reading of its shape
  pub property_reads : {o st en : ℕ} {g : Flags} {ps : Parts} {s e : Token} {P : List Pair} (shape : CoverShape) → ((a : Reading) → fits_as shape a ≡ true → SpelledAs (property_as a) text o (read_as a (node Property [] g st en ps)) s e P) → ItemReads text listed.Properties (property_item (node Property [] g st en ps) shape) o s e P
  property_reads {st = st} {en = en} {g = g} {ps = ps} shape f = record {
    reads = λ a has fits. f a fits;
    no_rest = λ a has fits trails. of a;
    edge = λ h. absurd (false≢true h);
    is_default = refl;
  }
    where
      of : (a : Reading) → is_rest (kind_of (read_as a (node Property [] g st en ps))) ≡ false
      of as_expression = refl
      of (as_pattern b) = refl

  -- a key, `:` and a value
  pair_reads : {k : PropertyName} {r : Operand} {o st : ℕ} {s m x e : Token} {P Q : List Pair} → Begins text st s → KeyAt text false k o s m P → ReadsHere text Punctuator (codes ":") m x → ReadAt text at_assignment r o x e Q →
      ItemReads text listed.Properties (property_item (node Property [] (member_flags k.computed false Init) st e.stop (part k.node (part r.cover.node none))) r.cover.shape) o s e (P ++ Q)
  pair_reads {k} {r} {o} {st} {s} {m} {x} {e} {P} {Q} begins key_at colon read = property_reads r.cover.shape of
    where
      of : (a : Reading) → fits_as r.cover.shape a ≡ true → SpelledAs (property_as a) text o (read_as a (node Property [] (member_flags k.computed false Init) st e.stop (part k.node (part r.cover.node none)))) s e (P ++ Q)
      of as_expression fits = record {
        role = property_role as_expression;
        it_is = refl;
        spelled = value_spells Token (SeenNext text) (behind_in text) (seen_determined text) as_expression (key_known key_at) colon refl (spelled_at refl fits read) (property_placed as_expression begins);
      }
      of (as_pattern b) fits =
          let v = read.part.assigned b fits (λ h. (refl, refl)) in
          record {
            role = property_role (as_pattern b);
            it_is = refl;
            spelled = value_spells Token (SeenNext text) (behind_in text) (seen_determined text) (as_pattern b) (key_known key_at) colon (with_default_of r.cover.shape.assigned b (kind_of (pattern_tree r.cover.node)) v.it_is) v.spelled (property_placed (as_pattern b) begins);
          }

  short_spells : (a : Reading) {o st : ℕ} {r : Role} {n u : Tree} {s e : Token} {Q : List Pair} → Short a u r → SpellsIn text o shorthand_key n s s [] → SpellsIn text o r u s e Q → Begins text st s → SpellsIn text o (property_role a) (node Property [] (flags_as false Shorthand) st e.stop (part n (part u none))) s e Q
  unfolding spellings
  short_spells as_expression {o} {st} {n = n} {u = u} {e = e} short_name d k begins =
      let y : Spelling = at_symbol Primary (put shorthand_key ∷ put name ∷ []) in
      direct (settled (property_role as_expression) y) (way_from (property_role as_expression) (node Property [] (flags_as false Shorthand) st e.stop (part n (part u none))) y refl first refl) (property_placed as_expression begins) (within d (last_runs Token (SeenNext text) (behind_in text) k))
  short_spells (as_pattern b) {o} {st} {n = n} {u = u} {e = e} short_name d k begins =
      let y : Spelling = at_symbol Primary (put shorthand_key ∷ put name ∷ []) in
      direct (settled (property_role (as_pattern b)) y) (way_from (property_role (as_pattern b)) (node Property [] (flags_as false Shorthand) st e.stop (part n (part u none))) y refl first refl) (property_placed (as_pattern b) begins) (within d (last_runs Token (SeenNext text) (behind_in text) k))
  short_spells (as_pattern b) {o} {st} {n = n} {u = u} {e = e} short_default d k begins =
      let y : Spelling = at_symbol Primary (put shorthand_key ∷ put (element true) ∷ []) in
      direct (settled (property_role (as_pattern b)) y) (way_from (property_role (as_pattern b)) (node Property [] (flags_as false Shorthand) st e.stop (part n (part u none))) y refl first refl) (property_placed (as_pattern b) begins) (within d (last_runs Token (SeenNext text) (behind_in text) k))

  -- The one token that is key and value.
  record Lone (k : PropertyName) (t : Scanned) (s m : Token) (P : List Pair) : Type 0 where
    reads : ReadsHere text IdentifierName m.text s m
    free : is_reserved m.text ≡ false
    node_is : k.node ≡ single_node Identifier m
    value_is : single_node Identifier (token_of t) ≡ single_node Identifier m
    start_is : t.start ≡ m.start
    pairs : P ≡ []

  not_free : (b : Bool) → not b ≡ true → b ≡ false
  not_free false h = refl
  not_free true h = absurd (false≢true h)

  lone_key : {k : PropertyName} {o : ℕ} {s m : Token} {P : List Pair} (t : Scanned) → k.token ≡ Some t → t.class ≡ IdentifierName → is_free_name t.text.now ≡ true → KeyAt text false k o s m P → Lone k t s m P
  lone_key {k} {o} {s} {m} {P} t is class free d =
      let u = subst (λ v. IfSome v (λ t. (k.computed ≡ false) × SeenNext text s (as_read (token_of t)) m × (m ≡ unseen (as_read (token_of t))) × (P ≡ []) × (k.node ≡ key_node (token_of t)))) is d.token in
      let word : (as_read (token_of t)).text ≡ t.text.now = ap (λ c. table_text c t.text.now) class in
      let text_is : m.text ≡ t.text.now = ap (λ (x : Token). x.text) u.2 ∙ word in
      let value : single_node Identifier m ≡ single_node Identifier (token_of t) = ap (single_node Identifier) u.2 ∙ ap (λ w. node Identifier w plain t.start (token_of t).stop none) word in
      record {
        reads = as_here text (record { next = u.1; class = class; text = ap (λ (x : Token). x.text) (sym u.2) });
        free = not_free (is_reserved m.text) (ap is_free_name text_is ∙ free);
        node_is = u.4 ∙ ap (λ c. key_node_by c (token_of t)) class ∙ sym value;
        value_is = sym value;
        start_is = ap (λ (x : Token). x.start) (sym u.2);
        pairs = u.3;
      }

  lone_reads : {k : PropertyName} {o st : ℕ} {s m : Token} {P : List Pair} (t : Scanned) → k.token ≡ Some t → t.class ≡ IdentifierName → is_free_name t.text.now ≡ true → Begins text st s → KeyAt text false k o s m P →
      ItemReads text listed.Properties (property_item (node Property [] (member_flags false false Shorthand) st m.stop (part k.node (part (single_node Identifier (token_of t)) none))) shapes.name) o s m (P ++ [])
  lone_reads {k} {o} {st} {s} {m} {P} t is class free begins d =
      let v = lone_key t is class free d in
      subst (λ x. ItemReads text listed.Properties (property_item (node Property [] (member_flags false false Shorthand) st m.stop (part k.node (part (single_node Identifier (token_of t)) none))) shapes.name) o s m (x ++ [])) (sym v.pairs)
      (subst (λ x. ItemReads text listed.Properties (property_item x shapes.name) o s m []) (λ i. node Property [] (member_flags false false Shorthand) st m.stop (part (sym v.node_is i) (part (sym v.value_is i) none)))
      (property_reads shapes.name (λ a fits. of v a)))
    where
      of : Lone k t s m P → (a : Reading) → SpelledAs (property_as a) text o (read_as a (node Property [] (member_flags false false Shorthand) st m.stop (part (single_node Identifier m) (part (single_node Identifier m) none)))) s m []
      of v as_expression = record { role = property_role as_expression; it_is = refl; spelled = short_spells as_expression short_name (echo_spells Token (SeenNext text) (behind_in text) (seen_determined text) v.reads) (name_found Token (SeenNext text) (behind_in text) (seen_determined text) v.reads v.free).spelled begins }
      of v (as_pattern b) = record { role = property_role (as_pattern b); it_is = refl; spelled = short_spells (as_pattern b) short_name (echo_spells Token (SeenNext text) (behind_in text) (seen_determined text) v.reads) (name_found Token (SeenNext text) (behind_in text) (seen_determined text) v.reads v.free).spelled begins }

  default_reads : {k : PropertyName} {o st : ℕ} {s m x e : Token} {P Q : List Pair} {n : Tree} (t : Scanned) → k.token ≡ Some t → t.class ≡ IdentifierName → is_free_name t.text.now ≡ true → Begins text st s → KeyAt text false k o s m P → ReadsHere text Punctuator (codes "=") m x → SpellsIn text o (expr Assignment true Any) n x e Q →
      ItemReads text listed.Properties (property_item (node Property [] (member_flags false false Shorthand) st e.stop (part k.node (part (node AssignmentExpression (codes "=") plain t.start e.stop (part (single_node Identifier (token_of t)) (part n none))) none))) (shapes.initialized (shapes.defaulted shapes.name))) o s e (P ++ Q)
  default_reads {k} {o} {st} {s} {m} {x} {e} {P} {Q} {n} t is class free begins d sign right =
      let v = lone_key t is class free d in
      subst (λ y. ItemReads text listed.Properties (property_item (node Property [] (member_flags false false Shorthand) st e.stop (part k.node (part (node AssignmentExpression (codes "=") plain t.start e.stop (part (single_node Identifier (token_of t)) (part n none))) none))) (shapes.initialized (shapes.defaulted shapes.name))) o s e (y ++ Q)) (sym v.pairs)
      (subst (λ y. ItemReads text listed.Properties (property_item y (shapes.initialized (shapes.defaulted shapes.name))) o s e Q) (λ i. node Property [] (member_flags false false Shorthand) st e.stop (part (sym v.node_is i) (part (node AssignmentExpression (codes "=") plain (sym v.start_is i) e.stop (part (sym v.value_is i) (part n none))) none)))
      (property_reads (shapes.initialized (shapes.defaulted shapes.name)) (of v)))
    where
      of : Lone k t s m P → (a : Reading) → fits_as (shapes.initialized (shapes.defaulted shapes.name)) a ≡ true → SpelledAs (property_as a) text o (read_as a (node Property [] (member_flags false false Shorthand) st e.stop (part (single_node Identifier m) (part (node AssignmentExpression (codes "=") plain m.start e.stop (part (single_node Identifier m) (part n none))) none)))) s e Q
      of v as_expression fits = absurd (false≢true fits)
      of v (as_pattern b) fits =
          let target = (name_found Token (SeenNext text) (behind_in text) (seen_determined text) {o = o} v.reads v.free).spelled in
          let value = default_spells Token (SeenNext text) (behind_in text) (seen_determined text) true refl target sign right (placed v.reads.next refl) in
          record { role = property_role (as_pattern b); it_is = refl; spelled = short_spells (as_pattern b) short_default (echo_spells Token (SeenNext text) (behind_in text) (seen_determined text) v.reads) value begins }

-- an identifier is a name that isn't reserved
pub is_free : (a b : Bool) {x : Bool} → x ≡ true → x ≡ (a && b) → b ≡ true
is_free true b h k = sym k ∙ h
is_free false b h k = absurd (false≢true (sym k ∙ h))

-- what follows the key: `:` and a value
pub pair_value : {s x e : CursorState} {old mid new : List Pair} (k : PropertyName) (start : ℕ) (r : Operand) (it : ListItem) → x.text ≡ s.text → x.opened ≡ s.opened → mid ≡ old → ReadsHere s.text Punctuator (codes ":") s.last x.last → Adds x e mid new (ReadAt x.text at_assignment r) →
    it ≡ property_item (node Property [] (member_flags k.computed false Init) start e.last.stop (part k.node (part r.cover.node none))) r.cover.shape → Adds s e old new (ValueAt s.text k start it)
pair_value {s} {x} {e} k start r it text open_same same colon a is =
    adds_behind open_same same a (λ o Q d z P begins key_at. subst (λ v. ItemReads s.text listed.Properties v o z e.last (P ++ Q)) (sym is)
    (pair_reads s.text begins key_at colon (subst (λ v. ReadAt v at_assignment r o x.last e.last Q) text d)))

-- nothing: the key is a name, which is the value too
pub lone_value : {s e : CursorState} {old new : List Pair} (k : PropertyName) (start : ℕ) (t : Scanned) (n : Tree) (shape : CoverShape) (it : ListItem) → e.opened ≡ s.opened → new ≡ old → e.last ≡ s.last → k.token ≡ Some t → t.class ≡ IdentifierName → is_free_name t.text.now ≡ true →
    n ≡ single_node Identifier (token_of t) → shape ≡ shapes.name → it ≡ property_item (node Property [] (member_flags false false Shorthand) start e.last.stop (part k.node (part n none))) shape → Adds s e old new (ValueAt s.text k start it)
lone_value {s} {e} k start t n shape it open_same same stays token class free value_is shape_is is =
    let whole : property_item (node Property [] (member_flags false false Shorthand) start e.last.stop (part k.node (part (single_node Identifier (token_of t)) none))) shapes.name ≡ it = sym (is ∙ (λ i. property_item (node Property [] (member_flags false false Shorthand) start e.last.stop (part k.node (part (value_is i) none))) (shape_is i))) in
    adds_none open_same same (λ o z P begins key_at. subst (λ v. ItemReads s.text listed.Properties v o z e.last (P ++ [])) whole (lone_reads s.text t token class free begins (subst (λ v. KeyAt s.text false k o z v P) (sym stays) key_at)))

-- `=` and a default
pub default_value : {s x y e : CursorState} {old mid b1 new : List Pair} (k : PropertyName) (start : ℕ) (t : Scanned) (r : Operand) (n v : Tree) (shape : CoverShape) (it : ListItem) → x.text ≡ s.text → x.opened ≡ s.opened → mid ≡ old → x.last ≡ s.last → y.text ≡ x.text → y.opened ≡ x.opened → b1 ≡ mid → ReadsHere x.text Punctuator (codes "=") x.last y.last →
    Adds y e b1 new (ReadAt y.text at_assignment r) → n ≡ r.cover.node → r.cover.shape.is_expression ≡ true → k.token ≡ Some t → t.class ≡ IdentifierName → is_free_name t.text.now ≡ true → v ≡ node AssignmentExpression (codes "=") plain t.start e.last.stop (part (single_node Identifier (token_of t)) (part n none)) →
    shape ≡ shapes.initialized (shapes.defaulted shapes.name) → it ≡ property_item (node Property [] (member_flags false false Shorthand) start e.last.stop (part k.node (part v none))) shape → Adds s e old new (ValueAt s.text k start it)
default_value {s} {x} {y} {e} k start t r n v shape it text1 open1 same1 stays text2 open2 same2 sign a node_is value token class free value_is shape_is is =
    let whole : property_item (node Property [] (member_flags false false Shorthand) start e.last.stop (part k.node (part (node AssignmentExpression (codes "=") plain t.start e.last.stop (part (single_node Identifier (token_of t)) (part r.cover.node none))) none))) (shapes.initialized (shapes.defaulted shapes.name)) ≡ it =
    sym (is ∙ (λ i. property_item (node Property [] (member_flags false false Shorthand) start e.last.stop (part k.node (part (value_is i) none))) (shape_is i)) ∙ ap (λ u. property_item (node Property [] (member_flags false false Shorthand) start e.last.stop (part k.node (part (node AssignmentExpression (codes "=") plain t.start e.last.stop (part (single_node Identifier (token_of t)) (part u none))) none))) (shapes.initialized (shapes.defaulted shapes.name))) node_is) in
    adds_behind (open2 ∙ open1) (same2 ∙ same1) a (λ o Q d z P begins key_at.
    let here : ReadsHere s.text Punctuator (codes "=") s.last y.last = subst (λ u. ReadsHere u Punctuator (codes "=") s.last y.last) text1 (subst (λ u. ReadsHere x.text Punctuator (codes "=") u y.last) stays sign) in
    let right : SpellsIn s.text o (expr Assignment true Any) r.cover.node y.last e.last Q = subst (λ u. SpellsIn u o (expr Assignment true Any) r.cover.node y.last e.last Q) (text2 ∙ text1) (spelled_at refl value d) in
    subst (λ u. ItemReads s.text listed.Properties u o z e.last (P ++ Q)) whole (default_reads s.text t token class free begins key_at here right))
