-- A declarator, from what is bound and its value (ECMA-262 13.3.1, 13.3.2).
use Rattle.std.proofs.Common.{◌≡◌, ℕ, ◌-◌, Bool, true, false, cond, List, [], ◌++◌, refl, sym, ap, ◌∙◌, subst}
use Rattle.std.specs.Prelude.{IsTrue, Option, Some, None, codes, not, ◌&&◌, nat_le}
use Rattle.std.specs.Bool.{OnTrue}
use Rattle.std.proofs.lemmas.Bool.{and_parts, false≢true}
use Rattle.std.proofs.lemmas.Option.{none-some}
use Rattle.tokens.specs.Reading.{Reads}
use Rattle.tokens.specs.Tokens.{LexicalToken}
use Rattle.tokens.specs.declared.token.TokenClass.TheVariants.{Punctuator}
use Rattle.tokens.specs.declared.token.Goal.TheVariants.{Div}
use Rattle.tree.specs.declared.kind.Kind.{Kind}
use Rattle.tree.specs.declared.kind.Kind.TheVariants.{Identifier, VariableDeclarator}
use Rattle.tree.specs.declared.kind.Pair.{Pair}
use Rattle.tree.specs.Tree.{Tree, node, plain, Parts, none, part, gap, kind_of}
use Rattle.language.specs.declared.Rank.TheVariants.{Assignment, Primary}
use Rattle.language.specs.declared.Start.TheVariants.{Any}
use Rattle.language.specs.declared.Edge.TheVariants.{Closed}
use Rattle.language.specs.Vocabulary.{takes, is_identifier, is_pattern as is_pattern_kind, is_rest}
use Rattle.language.specs.Covers.{Reading, as_expression, as_pattern}
use Rattle.language.specs.Pieces.{Role, name, pattern, declarator, bound}
use Rattle.language.specs.Token.{Token}
use Rattle.language.specs.Promises.{ReadBy}
use Rattle.language.specs.Derivation.{Placed, placed}
use Rattle.language.specs.Claims.{max_open}
use Rattle.language.proofs.covers.CoverElements.{a_name, a_target, a_pattern, a_simple, bound_form, BoundForm}
use Rattle.language.proofs.statements.Declarators.{Target, valued_spells, alone_spells}
use Rattle.language.proofs.climbing.Leaves.{name_form}
use Rattle.language.proofs.covers.PatternsByToken.{as_array, as_object, pattern_core, PatternCore}
use Rattle.language.proofs.list_loops.FirstPieces.{run_token}
use Rattle.token_cursor.proofs.SeenTokens.{seen_determined}
use Rattle.covers.specs.declared.shape.TargetForm.{TargetForm}
use Rattle.covers.specs.declared.shape.TargetForm.TheVariants as assigned
use Rattle.covers.specs.declared.list.ListItem.{ListItem}
use Rattle.covers.specs.declared.list.ListKind.TheVariants as listed
use Rattle.tree.specs.Patterns.{pattern_tree}
use Rattle.covers.specs.Shapes.{is_pattern, is_element, value}
use Rattle.token_cursor.specs.CursorState.{CursorState}
use Rattle.parser_tables.specs.declared.operand.Operand.{Operand}
use Rattle.parser_tables.specs.declared.expression_context.ExpressionContext.{ExpressionContext}
use Rattle.recursive_descent.specs.Soundness.{Adds, grouping, Begins, PartAt, ReadAt, SpelledAs, assigned_at, read_as}
use Rattle.recursive_descent.specs.SoundnessOfLists.{ItemReads, has_reading, item_fits, item_role, may_trail}
use Rattle.token_cursor.specs.Seen.{ReadsHere}
use Rattle.recursive_descent.proofs.reading.AddedPairs.{adds_behind, adds_both}
use Rattle.token_cursor.proofs.TokensAhead.{mark_by, name_by}
use Rattle.token_cursor.specs.SourceText.{SourceText, SeenNext, behind_in}
use Rattle.recursive_descent.proofs.reading.Forward.{begins_by}

-- what is bound is a name or a pattern
bound_pattern : (k : Kind) {a : Role} → cond (is_pattern_kind k) (Some (pattern true Any)) None ≡ Some a → bound true k ≡ Some a
bound_pattern k h = of (is_pattern_kind k) (cond (is_identifier k) (Some name) None) h
  where
    of : {a : Role} (b : Bool) (x : Option Role) → cond b (Some (pattern true Any)) None ≡ Some a → cond b (Some (pattern true Any)) x ≡ Some a
    of true x h = h
    of false x h = absurd (none-some _ h)

bound_name : (k : Kind) {a : Role} → cond (is_identifier k) (Some name) None ≡ Some a → bound true k ≡ Some a
bound_name Identifier h = h
bound_name _ h = absurd (none-some _ h)

bound_role : (x : TargetForm) (k : Kind) {a : Role} → is_pattern x ≡ true → assigned_at x Any true k ≡ Some a → bound true k ≡ Some a
bound_role assigned.Target k p h = bound_name k h
bound_role assigned.Pattern k p h = bound_pattern k h
bound_role _ k p h = absurd (false≢true p)

binds_element : (x : TargetForm) → is_pattern x ≡ true → is_element x ≡ true
binds_element assigned.Target h = refl
binds_element assigned.Pattern h = refl
binds_element _ h = absurd (false≢true h)

not_defaulted : {X : Type 0} (x : TargetForm) → is_pattern x ≡ true → x ≡ assigned.Defaulted → X
not_defaulted assigned.Target h d = cc
not_defaulted assigned.Pattern h d = cc
not_defaulted _ h d = cc

both_true : (a b : Bool) → a ≡ true → b ≡ true → (a && b) ≡ true
both_true true true h k = refl
both_true true false h k = cc
both_true false b h k = cc

-- a name is no pattern
named_bare : (n : Tree) → kind_of n ≡ Identifier → is_pattern_kind (kind_of (pattern_tree n)) ≡ false
named_bare (node Identifier w g s e ps) h = refl
named_bare (node _ w g s e ps) h = cc

module _ (text : SourceText) where
  abbrev ByDiv : Token → Token → Token → Type 0
  ByDiv = ReadBy Token (SeenNext text) (behind_in text) Div

  -- the goal behind an operand reads the first token of what is bound
  pub bound_first : {o : ℕ} {n : Tree} {s e : Token} {P : List Pair} → BoundForm Token (SeenNext text) (behind_in text) (seen_determined text) true o n s e P → (t : Token) × (m : Token) × ByDiv s t m
  bound_first (a_simple (a_name b d)) = let u = (name_form Token (SeenNext text) (behind_in text) (seen_determined text) d).0 in (u.sign, _, name_by text u.reads)
  bound_first (a_simple (a_target b k d)) = cc
  bound_first {s = s} (a_pattern d) = of (pattern_core Token (SeenNext text) (behind_in text) (seen_determined text) d)
    where
      of : {o : ℕ} {n : Tree} {e : Token} {P : List Pair} → PatternCore Token (SeenNext text) (behind_in text) (seen_determined text) o true Any n s e P → (t : Token) × (m : Token) × ByDiv s t m
      of (as_array is pl r) = let u = run_token Token (SeenNext text) (behind_in text) r in (u.sign, u.mid, mark_by text u.reads)
      of (as_object is st pl r) = let u = run_token Token (SeenNext text) (behind_in text) r in (u.sign, u.mid, mark_by text u.reads)

  abbrev Bound : ℕ → Token → Token → Tree → List Pair → Type 0
  Bound = Target Token (SeenNext text) (behind_in text) (seen_determined text)

  target_begins : {at o : ℕ} {s e : Token} {n : Tree} {P : List Pair} → ((u : LexicalToken) → Reads text.bytes Div s.stop u → at ≡ u.start) → Bound o s e n P → Begins text at s
  target_begins {n = n} f u = begins_by text f (bound_first (bound_form Token (SeenNext text) (behind_in text) (seen_determined text) true n u.it_is u.spelled)).2

  -- what was read, as what is bound
  bound_target : {p : Operand} {o : ℕ} {s m : Token} {P : List Pair} → PartAt text true Any p o s m P → (p.cover.shape.binds && is_pattern p.cover.shape.assigned) ≡ true → Bound o s m (pattern_tree p.cover.node) P
  bound_target {p = p} a fits =
      let u = and_parts p.cover.shape.binds (is_pattern p.cover.shape.assigned) fits in
      let r = a.assigned true (both_true p.cover.shape.binds (is_element p.cover.shape.assigned) u.0 (binds_element p.cover.shape.assigned u.1)) (λ d. not_defaulted p.cover.shape.assigned u.1 d) in
      record { role = r.role; it_is = bound_role p.cover.shape.assigned (kind_of (pattern_tree p.cover.node)) u.1 r.it_is; spelled = r.spelled }

  abbrev Here : Role → Tree → Token → Token → Type 0
  Here = Placed Token (SeenNext text) (behind_in text)

  declared_at : {i b : Bool} {at : ℕ} {ps : Parts} {s e : Token} → Begins text at s → Here (declarator i b) (node VariableDeclarator [] plain at e.stop ps) s e
  declared_at {e = e} b = placed b.next (ap (λ (x : ℕ). (x, e.stop)) b.start)

  -- with a value
  pub valued_item : {i : Bool} {p v : Operand} {o at : ℕ} {s m x e : Token} {A V : List Pair} → ((u : LexicalToken) → Reads text.bytes Div s.stop u → at ≡ u.start) → PartAt text true Any p o s m A → (p.cover.shape.binds && is_pattern p.cover.shape.assigned) ≡ true →
      ReadsHere text Punctuator (codes "=") m x → PartAt text i Any v o x e V → v.cover.shape.is_expression ≡ true → IsTrue (takes Assignment v.rank) →
      (it : ListItem) → it ≡ record { node = node VariableDeclarator [] plain at e.stop (part (pattern_tree p.cover.node) (part v.cover.node none)); shape = value; spreads = false; is_flagged = false; edge = v.edge } →
      ItemReads text (listed.Declarators i) it o s e (A ++ V)
  valued_item {i} {p} {v} {o} {at} {s} {m} {x} {e} {A} {V} starts target fits equals right expression tk it is =
      subst (λ y. ItemReads text (listed.Declarators i) y o s e (A ++ V)) (sym is) (record {
        reads = reads;
        no_rest = no_rest;
        edge = λ h. right.edge;
        is_default = refl;
      })
    where
      n : Tree
      n = node VariableDeclarator [] plain at e.stop (part (pattern_tree p.cover.node) (part v.cover.node none))

      u : Bound o s m (pattern_tree p.cover.node) A
      u = bound_target target fits

      reads : (a : Reading) → has_reading (listed.Declarators i) a ≡ true → item_fits (listed.Declarators i) (record { node = n; shape = value; spreads = false; is_flagged = false; edge = v.edge }) a ≡ true →
          SpelledAs (item_role (listed.Declarators i) a) text o (read_as a n) s e (A ++ V)
      reads as_expression h k = record {
        role = declarator i true;
        it_is = refl;
        spelled = valued_spells Token (SeenNext text) (behind_in text) (seen_determined text) (pattern_tree p.cover.node) u equals (right.stands expression Assignment i tk (λ k. refl)) (declared_at (target_begins starts u));
      }
      reads (as_pattern b) h k = absurd (false≢true (sym right.goes_on ∙ k))

      no_rest : (a : Reading) → has_reading (listed.Declarators i) a ≡ true → item_fits (listed.Declarators i) (record { node = n; shape = value; spreads = false; is_flagged = false; edge = v.edge }) a ≡ true →
          may_trail (record { node = n; shape = value; spreads = false; is_flagged = false; edge = v.edge }) a ≡ true → is_rest (kind_of (read_as a n)) ≡ false
      no_rest as_expression h k t = refl
      no_rest (as_pattern b) h k t = refl

  -- and without; where it is marked, a pattern stands there, which wants one
  pub valueless_item : {i marked : Bool} {p : Operand} {o at : ℕ} {s e : Token} {A : List Pair} → ((u : LexicalToken) → Reads text.bytes Div s.stop u → at ≡ u.start) → PartAt text true Any p o s e A → (p.cover.shape.binds && is_pattern p.cover.shape.assigned) ≡ true →
      (marked ≡ false → kind_of p.cover.node ≡ Identifier) →
      (it : ListItem) → it ≡ record { node = node VariableDeclarator [] plain at e.stop (part (pattern_tree p.cover.node) (gap none)); shape = value; spreads = false; is_flagged = marked; edge = Closed } →
      ItemReads text (listed.Declarators i) it o s e A
  valueless_item {i} {marked} {p} {o} {at} {s} {e} {A} starts target fits named it is =
      subst (λ y. ItemReads text (listed.Declarators i) y o s e A) (sym is) (record {
        reads = reads;
        no_rest = no_rest;
        edge = λ h. refl;
        is_default = none_counted marked;
      })
    where
      n : Tree
      n = node VariableDeclarator [] plain at e.stop (part (pattern_tree p.cover.node) (gap none))

      u : Bound o s e (pattern_tree p.cover.node) A
      u = bound_target target fits

      none_counted : (b : Bool) → nat_le 0 (cond b 1 0) ≡ true
      none_counted true = refl
      none_counted false = refl

      not_marked : (b : Bool) → not b ≡ true → b ≡ false
      not_marked false h = refl
      not_marked true h = absurd (false≢true h)

      reads : (a : Reading) → has_reading (listed.Declarators i) a ≡ true → item_fits (listed.Declarators i) (record { node = n; shape = value; spreads = false; is_flagged = marked; edge = Closed }) a ≡ true →
          SpelledAs (item_role (listed.Declarators i) a) text o (read_as a n) s e A
      reads as_expression h k = record {
        role = declarator i true;
        it_is = refl;
        spelled = alone_spells Token (SeenNext text) (behind_in text) (seen_determined text) (pattern_tree p.cover.node) (named_bare p.cover.node (named (not_marked marked k))) u (declared_at (target_begins starts u));
      }
      reads (as_pattern b) h k = record {
        role = declarator i false;
        it_is = refl;
        spelled = alone_spells Token (SeenNext text) (behind_in text) (seen_determined text) (pattern_tree p.cover.node) refl u (declared_at (target_begins starts u));
      }

      no_rest : (a : Reading) → has_reading (listed.Declarators i) a ≡ true → item_fits (listed.Declarators i) (record { node = n; shape = value; spreads = false; is_flagged = marked; edge = Closed }) a ≡ true →
          may_trail (record { node = n; shape = value; spreads = false; is_flagged = marked; edge = Closed }) a ≡ true → is_rest (kind_of (read_as a n)) ≡ false
      no_rest as_expression h k t = refl
      no_rest (as_pattern b) h k t = refl

-- from the points between which they were read
pub declared_valued : {s m x e : CursorState} {old mid next new : List Pair} {i : Bool} {at : ℕ} {p v : Operand} {q r : ExpressionContext} (it : ListItem) → ((u : LexicalToken) → Reads s.text.bytes Div s.last.stop u → at ≡ u.start) → q ≡ record { rank = Primary; has_in = true; start = Any } → r ≡ record { rank = Assignment; has_in = i; start = Any } →
    Adds s m old mid (ReadAt s.text q p) → (p.cover.shape.binds && is_pattern p.cover.shape.assigned) ≡ true → m.text ≡ s.text → x.text ≡ s.text → x.opened ≡ m.opened → next ≡ mid → ReadsHere m.text Punctuator (codes "=") m.last x.last →
    Adds x e next new (ReadAt x.text r v) → v.cover.shape.is_expression ≡ true → it ≡ record { node = node VariableDeclarator [] plain at e.last.stop (part (pattern_tree p.cover.node) (part v.cover.node none)); shape = value; spreads = false; is_flagged = false; edge = v.edge } →
    Adds s e old new (ItemReads s.text (listed.Declarators i) it)
declared_valued {s} {m} {x} {e} {i = i} {p = p} {v = v} {q = q} {r = r} it starts q_is r_is a fits here there open_same same equals b expression is =
    adds_both a (adds_behind {B = λ o _ z Q. ReadAt x.text r v o x.last z Q} open_same same b (λ o P h. h)) (λ o P Q u w.
    let target : PartAt s.text true Any p o s.last m.last P = subst (λ (c : ExpressionContext). PartAt s.text c.has_in c.start p o s.last m.last P) q_is u.part in
    let right : ReadAt s.text (record { rank = Assignment; has_in = i; start = Any }) v o x.last e.last Q = subst (λ t. ReadAt t (record { rank = Assignment; has_in = i; start = Any }) v o x.last e.last Q) there (subst (λ c. ReadAt x.text c v o x.last e.last Q) r_is w) in
    valued_item s.text starts target fits (subst (λ t. ReadsHere t Punctuator (codes "=") m.last x.last) here equals) right.part expression (right.taken refl) it is)

pub declared_valueless : {s m e : CursorState} {old mid new : List Pair} {i marked : Bool} {at : ℕ} {p : Operand} {q : ExpressionContext} (it : ListItem) → ((u : LexicalToken) → Reads s.text.bytes Div s.last.stop u → at ≡ u.start) → q ≡ record { rank = Primary; has_in = true; start = Any } →
    Adds s m old mid (ReadAt s.text q p) → (p.cover.shape.binds && is_pattern p.cover.shape.assigned) ≡ true → e.opened ≡ m.opened → new ≡ mid → e.last ≡ m.last → (marked ≡ false → kind_of p.cover.node ≡ Identifier) →
    it ≡ record { node = node VariableDeclarator [] plain at e.last.stop (part (pattern_tree p.cover.node) (gap none)); shape = value; spreads = false; is_flagged = marked; edge = Closed } →
    Adds s e old new (ItemReads s.text (listed.Declarators i) it)
declared_valueless {s} {m} {e} {old} {mid} {new} {i} {marked} {at} {p} {q} it starts q_is a fits open_same same still named is = record {
  more = a.more;
  same_open = open_same ∙ a.same_open;
  pairs = same ∙ a.pairs;
  is = subst (λ z. ItemReads s.text (listed.Declarators i) it (max_open - s.opened) s.last z (grouping a.more)) (sym still)
      (valueless_item s.text {marked = marked} starts (subst (λ (c : ExpressionContext). PartAt s.text c.has_in c.start p (max_open - s.opened) s.last m.last (grouping a.more)) q_is a.is.part) fits named it
      (is ∙ ap (λ z. record { node = node VariableDeclarator [] plain at z.stop (part (pattern_tree p.cover.node) (gap none)); shape = value; spreads = false; is_flagged = marked; edge = Closed }) still));
}

-- where nothing marks it, it is a name
pub named_where : (marked named : Bool) {X : Type 0} → marked ≡ not named → OnTrue named X → marked ≡ false → X
named_where true true h x k = cc
named_where false true h x k = x
named_where true false h x k = cc
named_where false false h x k = cc
