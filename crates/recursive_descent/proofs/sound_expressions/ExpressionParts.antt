-- Parts of expressions, from what they are made of.
use Rattle.std.proofs.Common.{◌≡◌, ℕ, ◌≤◌, arith, Bool, true, false, cond, List, [], ◌++◌, refl, sym, ap, ◌∙◌, subst}
use Rattle.std.specs.Prelude.{IsTrue, Some, None, codes, not, ◌&&◌, nat_le}
use Rattle.std.proofs.lemmas.Bool.{false≢true, true≢false}
use Rattle.std.proofs.lemmas.Bool.Decides.{nat_tests}
use Rattle.std.proofs.lemmas.List.{append-nil}
use Rattle.tokens.specs.declared.token.TokenClass.TheVariants.{IdentifierName, Punctuator}
use Rattle.tree.specs.declared.kind.Kind.{Kind}
use Rattle.tree.specs.declared.kind.Kind.TheVariants.{MemberExpression, BinaryExpression, LogicalExpression, ConditionalExpression}
use Rattle.tree.specs.declared.kind.Flags.{Flags}
use Rattle.tree.specs.declared.kind.Pair.{Pair}
use Rattle.tree.specs.Tree.{Tree, node, plain, Parts, none, part, kind_of}
use Rattle.tree.specs.Uses.{implies}
use Rattle.covers.specs.declared.shape.CoverShape.{CoverShape}
use Rattle.tree.specs.Patterns.{pattern_tree}
use Rattle.covers.specs.Shapes.{shape_of, value, target}
use Rattle.language.specs.declared.Rank.{Rank}
use Rattle.language.specs.declared.Rank.TheVariants.{Expression, Assignment, Conditional, ShortCircuit, LeftHandSide, New, Call, Member}
use Rattle.language.specs.declared.Start.{Start}
use Rattle.language.specs.declared.Start.TheVariants.{Any}
use Rattle.language.specs.declared.Edge.{Edge}
use Rattle.language.specs.declared.Edge.TheVariants.{Other}
use Rattle.language.specs.Vocabulary.{is, takes, takes_number, precedence, is_word_operator, operator_of, op_binary}
use Rattle.language.specs.Covers.{as_pattern}
use Rattle.language.specs.Pieces.{Role, expr, is_tight}
use Rattle.language.specs.Token.{Token}
use Rattle.language.specs.Edges.{edge, edge_as_written}
use Rattle.language.specs.Derivation.{Placed, placed}
use Rattle.language.proofs.climbing.OperatorNodes.{binary_grows, conditional_grows, dot_grows, index_grows}
use Rattle.language.proofs.table.LeftRecursiveWays.{callee_rank, property_role}
use Rattle.language.proofs.table.OperatorFacts.{Rises, binding}
use Rattle.language.proofs.climbing.Suffixes.{suffix_rank, suffix_stands, no_super}
use Rattle.parser_tables.specs.declared.operand.Operand.{Operand}
use Rattle.recursive_descent.specs.Soundness.{Adds, Begins, SpelledAs, assigned_at, fits_as, minds_in, bare_role, PartAt, ReadAt, ReadsOn}
use Rattle.parser_tables.specs.Operands.{part_from, plain_part}
use Rattle.token_cursor.specs.Seen.{ReadsHere, Misses}
use Rattle.parser_tables.specs.StatementNodes.{is_closed}
use Rattle.token_cursor.specs.CursorState.{CursorState}
use Rattle.recursive_descent.proofs.reading.AddedPairs.{adds_both}
use Rattle.token_cursor.specs.SourceText.{SourceText, SeenNext, behind_in}
use Rattle.recursive_descent.specs.Spelled.{SpellsIn}

-- a turn behind what was read
pub turn_on : {s m e : CursorState} {old mid new : List Pair} {text : SourceText} {p : Rattle.parser_tables.specs.declared.expression_context.ExpressionContext.ExpressionContext} {l r : Operand} → text ≡ s.text → Adds s m old mid (ReadAt s.text p l) → Adds m e mid new (ReadsOn text p l r) → Adds s e old new (ReadAt s.text p r)
turn_on {s} {m} {e} {p = p} {l = l} {r = r} same a b = adds_both a b (λ o P Q u v. subst (λ x. ReadsOn x p l r o m.last e.last Q) same v s.last P u)

some_none : {A X : Type 0} {x : X} → Some x ≡ None → A
some_none e = cc

-- a shape that is no pattern
no_pattern : (b : Bool) → fits_as value (as_pattern b) ≡ false
no_pattern true = refl
no_pattern false = refl

-- In is the same where it matters, and isn't asked for where it doesn't
in_of : (a b : Bool) → (a && not b) ≡ false → implies a b ≡ true
in_of true true h = refl
in_of true false h = absurd (true≢false h)
in_of false b h = refl

-- what takes a symbol at which In matters is one
minds_number : (h z : ℕ) → IsTrue (takes_number h z) → nat_le z 14 ≡ true → nat_le h 14 ≡ true
minds_number h z t l = grind (arith, nat_tests)

pub minds_of : (h z : Rank) → IsTrue (takes h z) → minds_in z ≡ true → minds_in h ≡ true
minds_of h z t l = minds_number (precedence h) (precedence z) t l

below_fifteen : (y z : ℕ) → Rises y z → z ≤ 15 → nat_le y 14 ≡ true
below_fifteen y z r l = grind (arith, nat_tests)

binds_minds : (w : List ℕ) {b : Bool} {z q : Rank} → operator_of w ≡ op_binary b z q → minds_in z ≡ true
binds_minds w {z = z} {q = q} op = let v = binding w op in below_fifteen (precedence z) (precedence q) v.rises v.most

callee_tight : (b : Bool) → minds_in (cond b Member Call) ≡ true → ⊥
callee_tight true h = absurd (false≢true h)
callee_tight false h = absurd (false≢true h)

member_target : (c : Rank) → IsTrue (takes LeftHandSide (suffix_rank c))
member_target c = of (takes Member c)
  where
    of : (b : Bool) → IsTrue (takes LeftHandSide (cond b Member Call))
    of true = refl
    of false = refl

module _ (text : SourceText) where
  abbrev Here : Role → Tree → Token → Token → Type 0
  Here = Placed Token (SeenNext text) (behind_in text)

  -- from the first token to the last
  pub placed_at : {h : Rank} {j : Bool} {f : Start} {k : Kind} {w : List ℕ} {g : Flags} {at : ℕ} {ps : Parts} {s e : Token} → Begins text at s → Here (expr h j f) (node k w g at e.stop ps) s e
  placed_at {e = e} b = placed b.next (ap (λ (x : ℕ). (x, e.stop)) b.start)

  -- what is no name, no member, no array, no object and no assignment
  pub value_part : {i : Bool} {f : Start} {n : Tree} {at : ℕ} {y : Rank} {x : Edge} {o : ℕ} {s e : Token} {P : List Pair} → bare_role n ≡ None → Begins text at s → x ≡ edge_as_written (edge n) e → is_closed x ≡ false → (y ≡ New → Misses text Punctuator (codes "(") e) →
      ((h : Rank) (j : Bool) → IsTrue (takes h y) → (minds_in h ≡ true → j ≡ i) → SpellsIn text o (expr h j f) n s e P) → PartAt text i f (part_from n value at y x) o s e P
  value_part name begins right open_edge new st = record {
    begins = begins;
    edge = right;
    goes_on = open_edge;
    stands = λ fits h j tk lo. st h j tk lo;
    assigned = λ b fits d. absurd (false≢true (sym (no_pattern b) ∙ fits));
    bare = λ a g is. some_none (sym is ∙ name);
    newly = new;
  }

  -- a member
  pub member_part : {i : Bool} {f : Start} {g : Flags} {ps : Parts} {y : Rank} {o at : ℕ} {s e : Token} {P : List Pair} → shape_of (node MemberExpression [] g at e.stop ps) ≡ target → IsTrue (takes LeftHandSide y) → (y ≡ New → Misses text Punctuator (codes "(") e) → Begins text at s →
      ((h : Rank) (j : Bool) → IsTrue (takes h y) → SpellsIn text o (expr h j f) (node MemberExpression [] g at e.stop ps) s e P) → PartAt text i f (plain_part (node MemberExpression [] g at e.stop ps) y Other) o s e P
  member_part {i} {f} {g} {ps} {y} {o} {at} {s} {e} {P} sh tk new begins st =
      let n = node MemberExpression [] g at e.stop ps in
      subst (λ (z : CoverShape). PartAt text i f (part_from n z at y Other) o s e P) (sym sh) (record {
        begins = begins;
        edge = refl;
        goes_on = refl;
        stands = λ fits h j t lo. st h j t;
        assigned = as_target;
        bare = λ a h is. some_none (sym is);
        newly = new;
      })
    where
      as_target : (b : Bool) → fits_as target (as_pattern b) ≡ true → (target.assigned ≡ Rattle.covers.specs.declared.shape.TargetForm.TheVariants.Defaulted → (f ≡ Any) × (i ≡ true)) → SpelledAs (assigned_at target.assigned f b) text o (pattern_tree (node MemberExpression [] g at e.stop ps)) s e P
      as_target true h d = absurd (false≢true h)
      as_target false h d = record { role = expr LeftHandSide true f; it_is = refl; spelled = st LeftHandSide true tk }

  module _ {i : Bool} {f : Start} {l : Operand} {o : ℕ} {s m : Token} {P : List Pair} (left : PartAt text i f l o s m P) (value : l.cover.shape.is_expression ≡ true) (object : IsTrue (takes Call l.rank)) where
    -- the object of a member, and what is called
    callee_at : (h : Rank) → IsTrue (takes h (suffix_rank l.rank)) → SpellsIn text o (expr (callee_rank h) true f) l.cover.node s m P
    callee_at h tk = left.stands value (callee_rank h) true (suffix_stands h l.rank tk object).1 (λ k. absurd (callee_tight (is_tight h) k))

    not_new : {e : Token} → suffix_rank l.rank ≡ New → Misses text Punctuator (codes "(") e
    not_new {e} h = of (takes Member l.rank) h
      where
        of : (b : Bool) → cond b Member Call ≡ New → Misses text Punctuator (codes "(") e
        of true h = cc
        of false h = cc

    pub dot_part : {u : Tree} {x e : Token} → ReadsHere text Punctuator (codes ".") m x → SpellsIn text o (property_role (kind_of u)) u x e [] →
        PartAt text i f (plain_part (node MemberExpression [] plain l.start e.stop (part l.cover.node (part u none))) (suffix_rank l.rank) Other) o s e (P ++ [])
    dot_part sign name =
        member_part refl (member_target l.rank) not_new left.begins
        (λ h j tk. dot_grows Token (SeenNext text) (behind_in text) (no_super Token (SeenNext text) (behind_in text) (callee_at h tk)) (suffix_stands h l.rank tk object).0 (callee_at h tk) sign name (placed_at left.begins))

    pub index_part : {u : Tree} {x z e : Token} {Q : List Pair} → ReadsHere text Punctuator (codes "[") m x → SpellsIn text o (expr Expression true Any) u x z Q → ReadsHere text Punctuator (codes "]") z e →
        PartAt text i f (plain_part (node MemberExpression [] (record plain { computed = true }) l.start e.stop (part l.cover.node (part u none))) (suffix_rank l.rank) Other) o s e (P ++ Q)
    index_part {u} {x} {z} {e} {Q} sign index close =
        let n = node MemberExpression [] (record plain { computed = true }) l.start e.stop (part l.cover.node (part u none)) in
        member_part refl (member_target l.rank) not_new left.begins
        (λ h j tk. subst (λ R. SpellsIn text o (expr h j f) n s e (P ++ R)) (append-nil Q)
        (index_grows Token (SeenNext text) (behind_in text) (no_super Token (SeenNext text) (behind_in text) (callee_at h tk)) (suffix_stands h l.rank tk object).0 (callee_at h tk) sign index close (placed_at left.begins)))

  -- a binary or a logical node
  pub binary_part : {i : Bool} {f : Start} {l : Operand} {o : ℕ} {s m x e : Token} {P Q : List Pair} {w : List ℕ} {b : Bool} {z q : Rank} {u : Tree} {right : Edge} → PartAt text i f l o s m P → l.cover.shape.is_expression ≡ true → IsTrue (takes z l.rank) → operator_of w ≡ op_binary b z q →
      (is w "in" && not i) ≡ false → ReadsHere text (cond (is_word_operator w) IdentifierName Punctuator) w m x → SpellsIn text o (expr q i Any) u x e Q → right ≡ edge_as_written (edge u) e → is_closed right ≡ false →
      PartAt text i f (part_from (node (cond b LogicalExpression BinaryExpression) w plain l.start e.stop (part l.cover.node (part u none))) Rattle.covers.specs.Shapes.value l.start z right) o s e (P ++ Q)
  binary_part {i} {f} {l} {o} {s} {m} {x} {e} {P} {Q} {w} {b} {z} {q} {u} {right} left value tk op has_in sign side edge_is open_edge =
      value_part (of_kind b) left.begins (edge_is ∙ ap (λ y. edge_as_written y e) (sym (of_edge b))) open_edge (λ h. absurd (not_tight (sym (ap minds_in h) ∙ binds_minds w op)))
      (λ h j t lo. let same : j ≡ i = lo (minds_of h z t (binds_minds w op)) in
      subst (λ c. SpellsIn text o (expr h c f) (node (cond b LogicalExpression BinaryExpression) w plain l.start e.stop (part l.cover.node (part u none))) s e (P ++ Q)) (sym same)
      (binary_grows Token (SeenNext text) (behind_in text) op t (in_of (is w "in") i has_in) (left.stands value z i tk (λ k. refl)) sign side (placed_at left.begins)))
    where
      not_tight : false ≡ true → ⊥
      not_tight = false≢true

      of_kind : (b : Bool) → bare_role (node (cond b LogicalExpression BinaryExpression) w plain l.start e.stop (part l.cover.node (part u none))) ≡ None
      of_kind true = refl
      of_kind false = refl

      of_edge : (b : Bool) → edge (node (cond b LogicalExpression BinaryExpression) w plain l.start e.stop (part l.cover.node (part u none))) ≡ edge u
      of_edge true = refl
      of_edge false = refl

  -- a conditional
  pub conditional_part : {i : Bool} {f : Start} {l : Operand} {o : ℕ} {s m a b c e : Token} {P Q R : List Pair} {u n : Tree} {right : Edge} → PartAt text i f l o s m P → l.cover.shape.is_expression ≡ true → IsTrue (takes ShortCircuit l.rank) → ReadsHere text Punctuator (codes "?") m a →
      SpellsIn text o (expr Assignment true Any) u a b Q → ReadsHere text Punctuator (codes ":") b c → SpellsIn text o (expr Assignment i Any) n c e R → right ≡ edge_as_written (edge n) e → is_closed right ≡ false →
      PartAt text i f (part_from (node ConditionalExpression [] plain l.start e.stop (part l.cover.node (part u (part n none)))) Rattle.covers.specs.Shapes.value l.start Conditional right) o s e (P ++ (Q ++ R))
  conditional_part {i} {f} {l} {o} {s} {m} {a} {b} {c} {e} {P} {Q} {R} {u} {n} left value tk ask one colon other edge_is open_edge =
      value_part refl left.begins edge_is open_edge (λ h. cc)
      (λ h j t lo. let same : j ≡ i = lo (minds_of h Conditional t refl) in
      subst (λ v. SpellsIn text o (expr h v f) (node ConditionalExpression [] plain l.start e.stop (part l.cover.node (part u (part n none)))) s e (P ++ (Q ++ R))) (sym same)
      (conditional_grows Token (SeenNext text) (behind_in text) t (left.stands value ShortCircuit i tk (λ k. refl)) ask one colon other (placed_at left.begins)))
