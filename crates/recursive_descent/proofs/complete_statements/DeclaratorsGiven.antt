-- A given declarator: what is bound, its value, and the node that is made of them (ECMA-262 13.3).
use Rattle.std.proofs.Common.{◌≡◌, ◌⊎◌, inl, inr, ℕ, suc, ◌-◌, ◌≤◌, Bool, true, false, List, [], ◌++◌, Result, Ok, Err, refl, sym, ap, ◌∙◌, subst, arith}
use Rattle.std.specs.Prelude.{IsTrue, codes, not, ◌&&◌}
use Rattle.std.specs.Bool.{OnFalse}
use Rattle.std.specs.Result.{IsErrAnd}
use Rattle.std.proofs.lemmas.Bool.{false≢true, and_parts}
use Rattle.source_text.specs.declared.fault.Fault.{Fault}
use Rattle.tokens.specs.Reading.{Reads as Scans}
use Rattle.tokens.specs.Tokens.{LexicalToken}
use Rattle.tokens.specs.declared.token.TokenClass.TheVariants.{Punctuator}
use Rattle.tokens.specs.declared.token.Goal.TheVariants.{Div}
use Rattle.token_cursor.specs.CursorState.{CursorState}
use Rattle.tree.specs.declared.kind.Kind.{Kind}
use Rattle.tree.specs.declared.kind.Kind.TheVariants.{Identifier, VariableDeclarator}
use Rattle.tree.specs.declared.kind.Pair.{Pair}
use Rattle.tree.specs.Tree.{Tree, node, plain, Parts, none, part, gap, kind_of, height}
use Rattle.language.specs.declared.Edge.TheVariants.{Closed}
use Rattle.language.specs.declared.Rank.TheVariants.{Assignment, Primary}
use Rattle.language.specs.declared.Start.TheVariants.{Any}
use Rattle.language.specs.Vocabulary.{is_pattern as is_pattern_kind}
use Rattle.language.specs.Edges.{edge}
use Rattle.language.specs.Continuations.{stops}
use Rattle.language.specs.Pieces.{expr, declarator}
use Rattle.language.specs.Token.{Token}
use Rattle.language.specs.Covers.{Reading, as_expression, as_pattern}
use Rattle.language.specs.Derivation.{Reads, Placed, placed}
use Rattle.language.specs.Claims.{max_open}
use Rattle.language.proofs.covers.CoverElements.{BoundForm, a_pattern, a_simple, a_name, a_target, bound_form}
use Rattle.language.proofs.statements.Declarators.{Target, DeclaratorForm, with_value, alone, declarator_form}
use Rattle.language.proofs.climbing.Leaves.{name_form}
use Rattle.token_cursor.proofs.SeenTokens.{seen_determined}
use Rattle.covers.specs.declared.list.ListItem.{ListItem}
use Rattle.covers.specs.declared.list.ListKind.TheVariants as listed
use Rattle.covers.specs.declared.shape.TargetForm.{TargetForm}
use Rattle.covers.specs.declared.shape.TargetForm.TheVariants as assigned
use Rattle.tree.specs.Patterns.{pattern_tree}
use Rattle.covers.specs.Shapes.{is_pattern, is_target, is_element}
use Rattle.productions.specs.Made.{Makes}
use Rattle.language.specs.Promises.{Apart}
use Rattle.language.proofs.climbing.NamesBehind.{apart_sign}
use Rattle.parser_tables.specs.declared.operand.Operand.{Operand}
use Rattle.parser_tables.specs.declared.expression_context.ExpressionContext.{ExpressionContext}
use Rattle.recursive_descent.specs.Complete.{OperandComplete, ExpressionComplete, DeclaratorComplete}
use Rattle.recursive_descent.specs.SoundnessOfLists.{item_fits}
use Rattle.recursive_descent.specs.Completeness.{Room, EndsWith, StopsIn, DeclaredIn, GivenAs, an_expression, IsRead, FirstAs, a_pattern as pattern_first, a_name as name_first, IsFirst}
use Rattle.recursive_descent.specs.CompletenessOfLists.{declarator_as}
use Rattle.parser_tables.specs.Outcomes.{BecomesHere}
use Rattle.parser_tables.specs.Operands.{is_group}
use Rattle.token_cursor.specs.Seen.{ReadsHere, Misses}
use Rattle.recursive_descent.proofs.reading.FreeRanks.{no_conditional, no_new}
use Rattle.recursive_descent.proofs.complete_expressions.Agreement.{agrees_on, agrees_err, refuses_unfit, refuses_made, marks_same, ends_both, ends_before, ends_same, ends_behind, not_missed}
use Rattle.recursive_descent.proofs.sound_lists.Declarators.{bound_first}
use Rattle.token_cursor.specs.SourceText.{SourceText, SeenNext, behind_in}
use Rattle.recursive_descent.specs.Spelled.{SpellsIn, OfLanguage}
use Rattle.recursive_descent.proofs.reading.LanguageTrees.{first_of_language, others_of_language, parts_of_language}
use Rattle.recursive_descent.proofs.reading.Forward.{place_by}

abbrev pub first_position : ExpressionContext
first_position = record { rank = Primary; has_in = true; start = Any }

abbrev pub value_position : Bool → ExpressionContext
value_position i = record { rank = Assignment; has_in = i; start = Any }

module _ (text : SourceText) where
  abbrev Bound : ℕ → Token → Token → Tree → List Pair → Type 0
  Bound = Target Token (SeenNext text) (behind_in text) (seen_determined text)

  abbrev Form : Bool → Bool → ℕ → Tree → Token → Token → List Pair → Type 0
  Form = DeclaratorForm Token (SeenNext text) (behind_in text) (seen_determined text)

  -- what is bound stands first
  target_first : {o : ℕ} {s k : Token} {n : Tree} {A : List Pair} → Bound o s k n A → Apart Token (SeenNext text) (behind_in text) k → FirstAs text first_position o n s k A (as_pattern true) Primary
  target_first {o} {s} {k} {n} {A} t apart = of (bound_form Token (SeenNext text) (behind_in text) (seen_determined text) true n t.it_is t.spelled)
    where
      of : BoundForm Token (SeenNext text) (behind_in text) (seen_determined text) true o n s k A → FirstAs text first_position o n s k A (as_pattern true) Primary
      of (a_pattern d) = pattern_first d
      of (a_simple (a_name b d)) = name_first d (record { arrow = λ tk. cc; parenthesis = λ tk. cc; apart = apart })
      of (a_simple (a_target b i d)) = cc

  -- it is a name or a pattern
  target_kind : {o : ℕ} {s k : Token} {n : Tree} {A : List Pair} → Bound o s k n A → (kind_of n ≡ Identifier) ⊎ (is_pattern_kind (kind_of n) ≡ true)
  target_kind {o} {s} {k} {n} {A} t = of (bound_form Token (SeenNext text) (behind_in text) (seen_determined text) true n t.it_is t.spelled)
    where
      of : BoundForm Token (SeenNext text) (behind_in text) (seen_determined text) true o n s k A → (kind_of n ≡ Identifier) ⊎ (is_pattern_kind (kind_of n) ≡ true)
      of (a_pattern d) = inr (Rattle.language.proofs.climbing.Targets.pattern_is Token (SeenNext text) (behind_in text) d)
      of (a_simple (a_name b d)) = inl (ap kind_of (name_form Token (SeenNext text) (behind_in text) (seen_determined text) d).0.tree)
      of (a_simple (a_target b i d)) = cc

  -- the node begins where the place of what stands ahead is
  starts_there : {b i : Bool} {o st en at : ℕ} {s k e : Token} {n : Tree} {ps : Parts} {A : List Pair} → Bound o s k n A → Placed Token (SeenNext text) (behind_in text) (declarator i b) (node VariableDeclarator [] plain st en ps) s e → ((u : LexicalToken) → Scans text.bytes Div s.stop u → at ≡ u.start) → (at ≡ st) × (e.stop ≡ en)
  starts_there {s = s} {n = n} t (placed {t = v} {m = m} nx p) starts =
      let f = bound_first text (bound_form Token (SeenNext text) (behind_in text) (seen_determined text) true n t.it_is t.spelled) in
      (place_by text starts f.2 ∙ (seen_determined text).start s f.0 v f.1 m f.2.next nx ∙ ap (λ (c : ℕ × ℕ). c.0) p, ap (λ (c : ℕ × ℕ). c.1) p)

-- a pattern that may be bound
target_listed : (x : TargetForm) → is_target x ≡ true → is_pattern x ≡ true
target_listed assigned.Target h = refl
target_listed _ h = absurd (false≢true h)

name_simple : (k : Kind) → k ≡ Identifier → Rattle.language.specs.Vocabulary.is_target k ≡ true
name_simple k e = ap Rattle.language.specs.Vocabulary.is_target e

both : (a b : Bool) → a ≡ true → b ≡ true → (a && b) ≡ true
both true true h k = refl
both true false h k = cc
both false b h k = cc

pub bound_fits : (r : Operand) (n : Tree) → (kind_of n ≡ Identifier) ⊎ (is_pattern_kind (kind_of n) ≡ true) → IsRead (as_pattern true) r n → (r.cover.shape.binds && is_pattern r.cover.shape.assigned) ≡ true
bound_fits r n k read =
    let u = and_parts r.cover.shape.binds (is_element r.cover.shape.assigned) read.fits in
    both r.cover.shape.binds (is_pattern r.cover.shape.assigned) u.0 (of k)
  where
    of : (kind_of n ≡ Identifier) ⊎ (is_pattern_kind (kind_of n) ≡ true) → is_pattern r.cover.shape.assigned ≡ true
    of (inl h) = target_listed r.cover.shape.assigned (read.target (name_simple (kind_of n) h))
    of (inr h) = read.pattern true refl h

name_kind : (n : Tree) → kind_of (pattern_tree n) ≡ Identifier → kind_of n ≡ Identifier
name_kind (node Identifier w g s e ps) h = refl
name_kind (node _ w g s e ps) h = cc

-- with a value where it is read so, else alone
abbrev valued_as : Reading → Bool
valued_as as_expression = true
valued_as (as_pattern b) = false

form_as : (text : SourceText) (i : Bool) (a : Reading) {o : ℕ} {n : Tree} {s e : Token} {P : List Pair} → SpellsIn text o (declarator_as i a) n s e P → Form text i (valued_as a) o n s e P
form_as text i as_expression d = declarator_form Token (SeenNext text) (behind_in text) (seen_determined text) d
form_as text i (as_pattern b) d = declarator_form Token (SeenNext text) (behind_in text) (seen_determined text) d

module _ (s e : CursorState) (old new : List Pair) (high : ℕ) (i : Bool) where
  abbrev Whole : Result ListItem Fault → Type 0
  Whole = DeclaratorComplete s e old new high i

  abbrev Same : Reading → Tree → Token → List Pair → ListItem → Type 0
  Same a n to P = λ item. (item_fits (listed.Declarators i) item a ≡ true) × (item.shape.is_expression ≡ true) × (item.node ≡ n) × EndsWith s e old new to P

  -- what is bound in a given one
  record First (o : ℕ) (n : Tree) : Type 0 where
    target : Tree
    mid : Token
    one : List Pair
    bound : Bound s.text o s.last mid target one
    apart : Apart Token (SeenNext s.text) (behind_in s.text) mid
    low : suc (height target) ≤ height n
    own : OfLanguage s.text n → OfLanguage s.text target

  first_of : {b : Bool} {o : ℕ} {n : Tree} {to : Token} {P : List Pair} → Form s.text i b o n s.last to P → DeclaredIn s.text i n to → First o n
  first_of {n = n} (with_value {st} {en} {target = u} {value = v} {k = k} {A = A} on tree t eq d p pl) fine =
      let tall : height n ≡ height (node VariableDeclarator [] plain st en (part u (part v none))) = ap height tree in
      record { target = u; mid = k; one = A; bound = t; apart = apart_sign Token (SeenNext s.text) (behind_in s.text) (seen_determined s.text) eq refl; low = omega arith; own = λ l. first_of_language (parts_of_language (subst (OfLanguage s.text) tree l)) }
  first_of {n = n} {to} {P} (alone {st} {en} {target = u} fits tree t pl) fine =
      let tall : height n ≡ height (node VariableDeclarator [] plain st en (part u (gap none))) = ap height tree in
      record { target = u; mid = to; one = P; bound = t; apart = fine.stopped.apart; low = omega arith; own = λ l. first_of_language (parts_of_language (subst (OfLanguage s.text) tree l)) }

  -- what is bound is refused
  pub declarator_opening : (m : CursorState) (mid : List Pair) {q : ExpressionContext} {inner : ℕ} (answer : Result ListItem Fault) (fault : Fault) → IsErrAnd answer (λ x. x ≡ fault) → q ≡ first_position → inner ≡ high - 1 → OperandComplete s m old mid inner q (Err fault) → Whole answer
  declarator_opening m mid {q} {inner} answer fault err q_is inner_is complete = λ a o n to P d fine own.
      let f = first_of (form_as s.text i a d) fine in
      let low = f.low in
      agrees_on (Room s o (height f.target) inner) (Room s o (height n) high) (Same a n to P) answer fault err
      (complete (as_pattern true) Primary o f.target f.mid f.one (subst (λ c. FirstAs s.text c o f.target s.last f.mid f.one (as_pattern true) Primary) (sym q_is) (target_first s.text f.bound f.apart)) (f.own own))
      (λ room. (room.0, (let within : height n ≤ high = room.1 in omega arith)))

  -- what is bound was read
  module _ (m : CursorState) (mid : List Pair) {q : ExpressionContext} (inner : ℕ) (part1 : Operand) (q_is : q ≡ first_position) (read : OperandComplete s m old mid inner q (Ok part1)) where
    first_read : {o : ℕ} {n : Tree} (f : First o n) → OfLanguage s.text n → IsFirst (as_pattern true) Primary part1 f.target × EndsWith s m old mid f.mid f.one
    first_read {o} f own = read (as_pattern true) Primary o f.target f.mid f.one (subst (λ c. FirstAs s.text c o f.target s.last f.mid f.one (as_pattern true) Primary) (sym q_is) (target_first s.text f.bound f.apart)) (f.own own)

    pub declarator_bound : (p : CursorState) (answer : Result ListItem Fault) (fault : Fault) → IsErrAnd answer (λ x. x ≡ fault) → BecomesHere (pattern_tree part1.cover.node) (part1.cover.shape.binds && is_pattern part1.cover.shape.assigned) p (Err fault) → Whole answer
    declarator_bound p answer fault err becomes = λ a o n to P d fine own.
        let f = first_of (form_as s.text i a d) fine in
        agrees_err (Room s o (height n) high) (Same a n to P) answer fault err
        (refuses_unfit (Room s o (height n) high) (pattern_tree part1.cover.node) (part1.cover.shape.binds && is_pattern part1.cover.shape.assigned) p fault becomes (bound_fits part1 f.target (target_kind s.text f.bound) (first_read f own).0.read))

    -- `=` was read behind it
    module _ (x : CursorState) {at : ℕ} (equals : ReadsHere s.text Punctuator (codes "=") m.last x.last) (starts : (u : LexicalToken) → Scans s.text.bytes Div s.last.stop u → at ≡ u.start) where
      record Valued (a : Reading) (o : ℕ) (n : Tree) (to : Token) (P : List Pair) : Type 0 where
        first : First o n
        value : Tree
        more : List Pair
        is_value : valued_as a ≡ true
        spelled : SpellsIn s.text o (expr Assignment i Any) value x.last to more
        stopped : StopsIn s.text Assignment i value to
        low : suc (height value) ≤ height n
        tree : n ≡ node VariableDeclarator [] plain at to.stop (part first.target (part value none))
        pairs : P ≡ first.one ++ more
        own : OfLanguage s.text value

      valued : (a : Reading) {o : ℕ} {n : Tree} {to : Token} {P : List Pair} → SpellsIn s.text o (declarator_as i a) n s.last to P → DeclaredIn s.text i n to → OfLanguage s.text n → Valued a o n to P
      valued a {o} {n} {to} {P} d fine own = of (form_as s.text i a d)
        where
          of : Form s.text i (valued_as a) o n s.last to P → Valued a o n to P
          of (with_value {st} {en} {target = u} {value = v} {k = k} {x = y} {t = t} {A = A} {V = V} on tree b eq d1 p pl) =
              let tall : height n ≡ height (node VariableDeclarator [] plain st en (part u (part v none))) = ap height tree in
              let f : First o n = record { target = u; mid = k; one = A; bound = b; apart = apart_sign Token (SeenNext s.text) (behind_in s.text) (seen_determined s.text) eq refl; low = omega arith; own = λ l. first_of_language (parts_of_language (subst (OfLanguage s.text) tree l)) } in
              let there : m.last ≡ k = (first_read f own).1.place in
              let place : y ≡ x.last = (marks_same s.text eq (subst (λ z. ReadsHere s.text Punctuator (codes "=") z x.last) there equals)).1 in
              let spot = starts_there s.text b pl starts in
              record {
                first = f;
                value = v;
                more = V;
                is_value = on;
                spelled = subst (λ z. SpellsIn s.text o (expr Assignment i Any) v z to V) place d1;
                stopped = record { before = λ w c r. subst (λ z. IsTrue (stops Assignment i z (behind_in s.text to) w)) (ap edge tree) (fine.stopped.before w c r); apart = fine.stopped.apart };
                low = omega arith;
                tree = tree ∙ (λ j. node VariableDeclarator [] plain (sym spot.0 j) (sym spot.1 j) (part u (part v none)));
                pairs = p;
                own = first_of_language (others_of_language (parts_of_language (subst (OfLanguage s.text) tree own)));
              }
          of (alone {st} {en} {target = u} fits tree b pl) =
              let tall : height n ≡ height (node VariableDeclarator [] plain st en (part u (gap none))) = ap height tree in
              let f : First o n = record { target = u; mid = to; one = P; bound = b; apart = fine.stopped.apart; low = omega arith; own = λ l. first_of_language (parts_of_language (subst (OfLanguage s.text) tree l)) } in
              let there : m.last ≡ to = (first_read f own).1.place in
              absurd (not_missed fine.no_value (subst (λ z. ReadsHere s.text Punctuator (codes "=") z x.last) there equals))

      -- its value is refused
      module _ (y : CursorState) (next last : List Pair) {r : ExpressionContext} (r_is : r ≡ value_position i) (x_text : x.text ≡ s.text) where
        given_value : {a : Reading} {o : ℕ} {n : Tree} {to : Token} {P : List Pair} (v : Valued a o n to P) → GivenAs x.text r o v.value x.last to v.more as_expression
        given_value {o = o} {to = to} v = subst (λ z. GivenAs z r o v.value x.last to v.more as_expression) (sym x_text) (subst (λ z. GivenAs s.text z o v.value x.last to v.more as_expression) (sym r_is) (an_expression (no_conditional refl) (no_new refl) v.spelled v.stopped))

        given_own : {a : Reading} {o : ℕ} {n : Tree} {to : Token} {P : List Pair} (v : Valued a o n to P) → OfLanguage x.text v.value
        given_own v = subst (λ z. OfLanguage z v.value) (sym x_text) v.own

        pub declarator_value : (answer : Result ListItem Fault) (fault : Fault) → IsErrAnd answer (λ z. z ≡ fault) → inner ≡ high - 1 → x.opened ≡ s.opened → ExpressionComplete x y next last inner r (Err fault) → Whole answer
        declarator_value answer fault err inner_is opened complete = λ a o n to P d fine own.
            let v = valued a d fine own in
            let low = v.low in
            agrees_on (Room x o (height v.value) inner) (Room s o (height n) high) (Same a n to P) answer fault err (complete as_expression o v.value to v.more (given_value v) (given_own v))
            (λ room. (subst (λ k. o ≤ max_open - k) (sym opened) room.0, (let within : height n ≤ high = room.1 in omega arith)))

        -- its value was read
        module _ (part2 : Operand) (value_read : ExpressionComplete x y next last inner r (Ok part2)) where
          pub declarator_settled : (p : CursorState) (answer : Result ListItem Fault) (fault : Fault) → IsErrAnd answer (λ z. z ≡ fault) → BecomesHere part2.cover.node part2.cover.shape.is_expression p (Err fault) → Whole answer
          declarator_settled p answer fault err becomes = λ a o n to P d fine own.
              let v = valued a d fine own in
              agrees_err (Room s o (height n) high) (Same a n to P) answer fault err
              (refuses_unfit (Room s o (height n) high) part2.cover.node part2.cover.shape.is_expression p fault becomes (value_read as_expression o v.value to v.more (given_value v) (given_own v)).0.fits)

          valued_tree : {a : Reading} {o : ℕ} {n : Tree} {to : Token} {P : List Pair} → OfLanguage s.text n → Valued a o n to P → node VariableDeclarator [] plain at y.last.stop (part (pattern_tree part1.cover.node) (part part2.cover.node none)) ≡ n
          valued_tree {o = o} {to = to} own v =
              let w = value_read as_expression o v.value to v.more (given_value v) (given_own v) in
              (λ j. node VariableDeclarator [] plain at (w.1.place j).stop (part ((first_read v.first own).0.read.tree j) (part (w.0.tree j) none))) ∙ sym v.tree

          pub declarator_valued_made : (answer : Result ListItem Fault) (fault : Fault) (tree : Tree) → IsErrAnd answer (λ z. z ≡ fault) → tree ≡ node VariableDeclarator [] plain at y.last.stop (part (pattern_tree part1.cover.node) (part part2.cover.node none)) → Makes tree high (Err fault) → Whole answer
          declarator_valued_made answer fault tree err is makes = λ a o n to P d fine own.
              let same : tree ≡ n = is ∙ valued_tree own (valued a d fine own) in
              agrees_err (Room s o (height n) high) (Same a n to P) answer fault err (refuses_made (Room s o (height n) high) tree high fault makes (λ room. subst (λ z. height z ≤ high) (sym same) room.1))

          pub declarator_valued : (it : ListItem) → it.is_flagged ≡ false → it.shape.is_expression ≡ true → it.node ≡ node VariableDeclarator [] plain at y.last.stop (part (pattern_tree part1.cover.node) (part part2.cover.node none)) → next ≡ mid → e.last ≡ y.last → new ≡ last → Whole (Ok it)
          declarator_valued it marked value_is is same e_is new_is = λ a o n to P d fine own.
              let v = valued a d fine own in
              let w = value_read as_expression o v.value to v.more (given_value v) (given_own v) in
              let u = (first_read v.first own).1 in
              (fits a v.is_value, value_is, is ∙ valued_tree own v, ends_before (ends_same (sym v.pairs) (ends_both u (ends_behind same w.1))) (e_is ∙ w.1.place) new_is)
            where
              fits : (a : Reading) → valued_as a ≡ true → item_fits (listed.Declarators i) it a ≡ true
              fits as_expression h = ap not marked
              fits (as_pattern b) h = absurd (false≢true h)

    -- no `=` was read behind it
    module _ {at : ℕ} (missed : Misses s.text Punctuator (codes "=") m.last) (starts : (u : LexicalToken) → Scans s.text.bytes Div s.last.stop u → at ≡ u.start) where
      record Lone (a : Reading) (o : ℕ) (n : Tree) (to : Token) (P : List Pair) : Type 0 where
        target : Tree
        fits : (valued_as a && is_pattern_kind (kind_of target)) ≡ false
        bound : Bound s.text o s.last to target P
        tree : n ≡ node VariableDeclarator [] plain at to.stop (part target (gap none))
        read_first : IsFirst (as_pattern true) Primary part1 target
        ends_first : EndsWith s m old mid to P

      lone : (a : Reading) {o : ℕ} {n : Tree} {to : Token} {P : List Pair} → SpellsIn s.text o (declarator_as i a) n s.last to P → DeclaredIn s.text i n to → OfLanguage s.text n → Lone a o n to P
      lone a {o} {n} {to} {P} d fine own = of (form_as s.text i a d)
        where
          of : Form s.text i (valued_as a) o n s.last to P → Lone a o n to P
          of (with_value {st} {en} {target = u} {value = v} {k = k} {x = y} {t = t} {A = A} {V = V} on tree b eq d1 p pl) =
              let tall : height n ≡ height (node VariableDeclarator [] plain st en (part u (part v none))) = ap height tree in
              let f : First o n = record { target = u; mid = k; one = A; bound = b; apart = apart_sign Token (SeenNext s.text) (behind_in s.text) (seen_determined s.text) eq refl; low = omega arith; own = λ l. first_of_language (parts_of_language (subst (OfLanguage s.text) tree l)) } in
              let there : m.last ≡ k = (first_read f own).1.place in
              absurd (missed t y (subst (λ z. Reads Token (SeenNext s.text) (behind_in s.text) Punctuator (codes "=") z t y) (sym there) eq))
          of (alone {st} {en} {target = u} fits tree b pl) =
              let tall : height n ≡ height (node VariableDeclarator [] plain st en (part u (gap none))) = ap height tree in
              let spot = starts_there s.text b pl starts in
              let f : First o n = record { target = u; mid = to; one = P; bound = b; apart = fine.stopped.apart; low = omega arith; own = λ l. first_of_language (parts_of_language (subst (OfLanguage s.text) tree l)) } in
              let w = first_read f own in
              record { target = u; fits = fits; bound = b; tree = tree ∙ (λ j. node VariableDeclarator [] plain (sym spot.0 j) (sym spot.1 j) (part u (gap none))); read_first = w.0; ends_first = w.1 }

      lone_tree : {a : Reading} {o : ℕ} {n : Tree} {to : Token} {P : List Pair} → Lone a o n to P → node VariableDeclarator [] plain at m.last.stop (part (pattern_tree part1.cover.node) (gap none)) ≡ n
      lone_tree v = (λ j. node VariableDeclarator [] plain at (v.ends_first.place j).stop (part (v.read_first.read.tree j) (gap none))) ∙ sym v.tree

      pub declarator_lone_made : (answer : Result ListItem Fault) (fault : Fault) (tree : Tree) → IsErrAnd answer (λ z. z ≡ fault) → tree ≡ node VariableDeclarator [] plain at m.last.stop (part (pattern_tree part1.cover.node) (gap none)) → Makes tree high (Err fault) → Whole answer
      declarator_lone_made answer fault tree err is makes = λ a o n to P d fine own.
          let same : tree ≡ n = is ∙ lone_tree (lone a d fine own) in
          agrees_err (Room s o (height n) high) (Same a n to P) answer fault err (refuses_made (Room s o (height n) high) tree high fault makes (λ room. subst (λ z. height z ≤ high) (sym same) room.1))

      pub declarator_lone : (it : ListItem) → (kind_of part1.cover.node ≡ Identifier → is_group part1.rank ≡ false → it.is_flagged ≡ false) → it.edge ≡ Closed → it.shape.is_expression ≡ true → it.node ≡ node VariableDeclarator [] plain at m.last.stop (part (pattern_tree part1.cover.node) (gap none)) → e.last ≡ m.last → new ≡ mid → Whole (Ok it)
      declarator_lone it named edge_is value_is is e_is new_is = λ a o n to P d fine own.
          let v = lone a d fine own in
          (fits a v.fits (target_kind s.text v.bound) v.read_first, value_is, is ∙ lone_tree v, ends_before v.ends_first (e_is ∙ v.ends_first.place) new_is)
        where
          fits : (a : Reading) {n : Tree} → (valued_as a && is_pattern_kind (kind_of n)) ≡ false → (kind_of n ≡ Identifier) ⊎ (is_pattern_kind (kind_of n) ≡ true) → IsFirst (as_pattern true) Primary part1 n → item_fits (listed.Declarators i) it a ≡ true
          fits as_expression h (inl k) first = ap not (named (name_kind part1.cover.node (ap kind_of first.read.tree ∙ k)) (first.alone true refl))
          fits as_expression h (inr k) first = absurd (false≢true (sym h ∙ k))
          fits (as_pattern b) h k first = ap Rattle.parser_tables.specs.StatementNodes.is_closed edge_is

-- a name that stands in no parentheses isn't marked
pub unmarked_name : (marked named : Bool) (group : Bool) {X : Type 0} → marked ≡ not named → OnFalse named (X → group ≡ true) → X → group ≡ false → marked ≡ false
unmarked_name marked true group is h x ungrouped = is
unmarked_name marked false group is h x ungrouped = absurd (false≢true (sym ungrouped ∙ h x))
