-- Declarators, and the parts of a sequence, as items of a list that is given (ECMA-262 12.16, 13.3).
use Rattle.std.proofs.Common.{◌+◌, ◌≡◌, ℕ, Bool, true, false, List, Result, Ok, Err, refl, sym, ap, ◌∙◌, subst}
use Rattle.std.specs.Prelude.{IfOk, ◌||◌, nat_le, Some}
use Rattle.std.specs.Result.{IsErrAnd}
use Rattle.std.proofs.lemmas.Bool.{false≢true, true≢false}
use Rattle.source_text.specs.declared.fault.Fault.{Fault}
use Rattle.token_cursor.specs.CursorState.{CursorState}
use Rattle.tree.specs.declared.kind.Kind.{Kind}
use Rattle.tree.specs.declared.kind.Pair.{Pair}
use Rattle.tree.specs.Tree.{Tree, Parts, none, part, kind_of, height, parts_height}
use Rattle.language.specs.declared.Rank.TheVariants.{Assignment}
use Rattle.language.specs.declared.Start.TheVariants.{Any}
use Rattle.language.specs.Covers.{Reading, as_expression, as_pattern}
use Rattle.language.specs.Pieces.{Role}
use Rattle.language.specs.Vocabulary.{is_target as is_simple}
use Rattle.language.specs.Token.{Token}
use Rattle.language.proofs.statements.Blocks.{one_declarator}
use Rattle.language.proofs.table.OneKind.{one_kind}
use Rattle.language.proofs.table.SoleWays.{Anyhow}
use Rattle.token_cursor.proofs.SeenTokens.{seen_determined}
use Rattle.covers.specs.declared.list.ListItem.{ListItem}
use Rattle.covers.specs.declared.list.ListKind.{ListKind}
use Rattle.covers.specs.declared.list.ListKind.TheVariants as listed
use Rattle.covers.specs.declared.list.ListBuilder.{ListBuilder as ListOf}
use Rattle.covers.specs.Lists.{takes}
use Rattle.tree.specs.Patterns.{pattern_tree}
use Rattle.covers.specs.Refusals.{IsTaken}
use Rattle.covers.specs.Shapes.{is_target}
use Rattle.parser_tables.specs.declared.operand.Operand.{Operand}
use Rattle.parser_tables.specs.declared.expression_context.ExpressionContext.{ExpressionContext}
use Rattle.recursive_descent.specs.Complete.{ExpressionComplete, ItemComplete, DeclaratorComplete}
use Rattle.recursive_descent.specs.Soundness.{read_as}
use Rattle.recursive_descent.specs.SoundnessOfLists.{has_reading, item_fits, item_role, is_chunked, case_count}
use Rattle.recursive_descent.specs.Completeness.{Room, EndsWith, GivenAs, an_expression}
use Rattle.recursive_descent.specs.CompletenessOfLists.{ItemGiven, ItemRead, declarator_as, default_seen, is_last_rest, minds_rest}
use Rattle.parser_tables.specs.Items.{with_item, element_item}
use Rattle.recursive_descent.proofs.complete_expressions.Agreement.{agrees_on}
use Rattle.recursive_descent.proofs.complete_lists.ItemFits.{PlainItem, plain_item, is_plainly}
use Rattle.recursive_descent.proofs.complete_lists.ItemAnswers.{Fitting, item_taken, left_reads, one_high, own_tree}
use Rattle.token_cursor.specs.SourceText.{SourceText, SeenNext, behind_in}
use Rattle.recursive_descent.specs.Spelled.{SpellsIn}

-- one position
some_same : {a b : Role} → Some a ≡ Some b → a ≡ b
some_same e = cc

-- cases, and what parentheses hold
abbrev pub is_cases : ListKind → Bool
is_cases (listed.Cases r) = true
is_cases _ = false

abbrev pub is_covers : ListKind → Bool
is_covers listed.ParenthesizedItems = true
is_covers _ = false

-- no other list counts defaults
other_counts : (x : ListKind) (ps : Parts) (b c : Bool) → is_cases x ≡ false → nat_le (default_seen x b) (case_count x ps + default_seen x c) ≡ true
other_counts (listed.Cases r) ps b c h = absurd (true≢false h)
other_counts _ ps b c h = refl

-- an item of a list of no cases
pub fitting_of : (l : ListOf) (it : ListItem) (a : Reading) (n : Tree) → is_cases l.listed ≡ false → item_fits l.listed it a ≡ true → read_as a it.node ≡ n → (is_last_rest l.listed a (part n none) ≡ false → minds_rest l.listed a ≡ true → it.spreads ≡ false) → (is_plainly l.listed ≡ true → it.shape.is_expression ≡ true) →
    (l.listed ≡ listed.ParenthesizedItems → a ≡ as_expression → (it.shape.is_expression ≡ true) × (is_simple (kind_of it.node) ≡ true → is_target it.shape.assigned ≡ true)) → Fitting l it a n
fitting_of l it a n no_case fits tree trails plain target = record {
  fits = fits;
  tree = tree;
  trails = trails;
  plain = plain;
  once = λ r q. absurd (false≢true (sym no_case ∙ ap is_cases q));
  counted = other_counts l.listed (part n none) (l.seen.is_flagged || it.is_flagged) l.seen.is_flagged no_case;
  target = target;
}

-- the position of a declarator
declarator_role : (i : Bool) (a : Reading) (k : Kind) {r : Role} → item_role (listed.Declarators i) a k ≡ Some r → r ≡ declarator_as i a
declarator_role i as_expression k h = sym (some_same h)
declarator_role i (as_pattern b) k h = sym (some_same h)

-- a declarator is the same in each reading
declarator_same : (text : SourceText) (i : Bool) (a : Reading) (o : ℕ) (n : Tree) (s e : Token) (P : List Pair) → SpellsIn text o (declarator_as i a) n s e P → read_as a n ≡ n
declarator_same text i as_expression o n s e P d = refl
declarator_same text i (as_pattern b) o n s e P d =
    let w = (one_kind Token (SeenNext text) (behind_in text) (seen_determined text) {Fine = Anyhow} (one_declarator i false)).told d tt in
    ap pattern_tree w.tree ∙ sym w.tree

-- declarators are no elements
no_elements : {X : Type 0} (i : Bool) → listed.Declarators i ≡ listed.Elements → X
no_elements i h = absurd (false≢true (sym (ap is_plainly h)))

-- a declarator that is refused
pub declarator_refused : (s e : CursorState) (old new : List Pair) (l k : ListOf) (high : ℕ) (i : Bool) (answer : Result (Unit {0}) Fault) (fault : Fault) → l.listed ≡ listed.Declarators i → IsErrAnd answer (λ x. x ≡ fault) → DeclaratorComplete s e old new high i (Err fault) → ItemComplete s e old new high l k answer
declarator_refused s e old new l k high i answer fault is err h = λ a o last one to P some left lone once g own.
    let v = plain_item refl (λ q. no_elements i q) (subst (λ x. ItemGiven s.text x a o s.last to P last one) is g) in
    agrees_on (Room s o (height v.tree) high) (Room s o (parts_height one) high) (λ u. ItemRead a l k last one × EndsWith s e old new to P) answer fault err
    (h a o v.tree to P (subst (λ r. SpellsIn s.text o r v.tree s.last to P) (declarator_role i a (kind_of v.tree) v.it_is) v.spelled) v.ends (own_tree v.tree v.parts own)) (λ room. (room.0, one_high v.tree v.parts room.1))

-- a declarator that is read
pub declarator_taken : (s e : CursorState) (old new : List Pair) (l k : ListOf) (high : ℕ) (i : Bool) (it : ListItem) (at : ℕ) (answer : Result (Unit {0}) Fault) → l.listed ≡ listed.Declarators i → IfOk answer (λ u. k ≡ with_item l it) → IsTaken (takes l.listed l.seen it) at answer →
    DeclaratorComplete s e old new high i (Ok it) → ItemComplete s e old new high l k answer
declarator_taken s e old new l k high i it at answer is put taken h = item_taken s e old new l k high it at answer (ap is_chunked is) put taken (λ a o last one to P some reads once g own.
    let v = plain_item refl (λ q. no_elements i q) (subst (λ x. ItemGiven s.text x a o s.last to P last one) is g) in
    let d = subst (λ r. SpellsIn s.text o r v.tree s.last to P) (declarator_role i a (kind_of v.tree) v.it_is) v.spelled in
    let u = h a o v.tree to P d v.ends (own_tree v.tree v.parts own) in
    record {
      tree = v.tree;
      parts = v.parts;
      unmarked = v.unmarked;
      fitting = fitting_of l it a v.tree (ap is_cases is) (ap (λ x. item_fits x it a) is ∙ u.0) (ap (read_as a) u.2 ∙ declarator_same s.text i a o v.tree s.last to P d)
          (λ q m. absurd (false≢true (sym (ap (λ x. minds_rest x a) is) ∙ m))) (λ q. u.1) (λ p q. absurd (false≢true (sym (ap is_covers is) ∙ ap is_covers p)));
      ends = u.3;
    })

-- a part of a sequence is an expression that can't go on
sequence_given : (text : SourceText) (i : Bool) (a : Reading) (p : ExpressionContext) (o : ℕ) (s e : Token) (P : List Pair) (last : Bool) (one : Parts) → p ≡ record { rank = Assignment; has_in = i; start = Any } → has_reading (listed.Sequence i) a ≡ true → (v : PlainItem text (listed.Sequence i) a o s e P last one) → GivenAs text p o v.tree s e P a
sequence_given text i as_expression p o s e P last one is has v =
    subst (λ (x : ExpressionContext). GivenAs text x o v.tree s e P as_expression) (sym is) (an_expression (λ q. cc) (λ q. cc) (subst (λ r. SpellsIn text o r v.tree s e P) (sym (some_same v.it_is)) v.spelled) v.ends)
sequence_given text i (as_pattern b) p o s e P last one is has v = absurd (false≢true has)

-- parts of a sequence are no elements
abbrev is_sequence : ListKind → Bool
is_sequence (listed.Sequence j) = true
is_sequence _ = false

no_elements_there : {X : Type 0} (i : Bool) → listed.Sequence i ≡ listed.Elements → X
no_elements_there i h = absurd (false≢true (ap is_sequence (sym h)))

-- a part of a sequence that is refused
pub sequence_item_refused : (s e : CursorState) (old new : List Pair) (l k : ListOf) (high : ℕ) (i : Bool) (p : ExpressionContext) (answer : Result (Unit {0}) Fault) (fault : Fault) → p ≡ record { rank = Assignment; has_in = i; start = Any } → l.listed ≡ listed.Sequence i → IsErrAnd answer (λ x. x ≡ fault) →
    ExpressionComplete s e old new high p (Err fault) → ItemComplete s e old new high l k answer
sequence_item_refused s e old new l k high i p answer fault p_is is err h = λ a o last one to P some left lone once g own.
    let v = plain_item refl (λ q. no_elements_there i q) (subst (λ x. ItemGiven s.text x a o s.last to P last one) is g) in
    let reads : has_reading (listed.Sequence i) a ≡ true = ap (λ x. has_reading x a) (sym is) ∙ (left_reads l a left) in
    agrees_on (Room s o (height v.tree) high) (Room s o (parts_height one) high) (λ u. ItemRead a l k last one × EndsWith s e old new to P) answer fault err
    (h a o v.tree to P (sequence_given s.text i a p o s.last to P last one p_is reads v) (own_tree v.tree v.parts own)) (λ room. (room.0, one_high v.tree v.parts room.1))

-- a part of a sequence that is read
pub sequence_item_taken : (s e : CursorState) (old new : List Pair) (l k : ListOf) (high : ℕ) (i : Bool) (p : ExpressionContext) (r : Operand) (it : ListItem) (start stop at : ℕ) (answer : Result (Unit {0}) Fault) → p ≡ record { rank = Assignment; has_in = i; start = Any } → l.listed ≡ listed.Sequence i → it ≡ element_item false start stop r →
    IfOk answer (λ u. k ≡ with_item l it) → IsTaken (takes l.listed l.seen it) at answer → ExpressionComplete s e old new high p (Ok r) → ItemComplete s e old new high l k answer
sequence_item_taken s e old new l k high i p r it start stop at answer p_is is made put taken h = item_taken s e old new l k high it at answer (ap is_chunked is) put taken (λ a o last one to P some reads once g own.
    let v = plain_item refl (λ q. no_elements_there i q) (subst (λ x. ItemGiven s.text x a o s.last to P last one) is g) in
    let u = h a o v.tree to P (sequence_given s.text i a p o s.last to P last one p_is (ap (λ x. has_reading x a) (sym is) ∙ reads) v) (own_tree v.tree v.parts own) in
    record {
      tree = v.tree;
      parts = v.parts;
      unmarked = v.unmarked;
      fitting = fitting_of l it a v.tree (ap is_cases is) (ap (λ x. item_fits x it a) is ∙ ap (λ z. item_fits (listed.Sequence i) z a) made ∙ u.0.fits) (ap (λ (z : ListItem). read_as a z.node) made ∙ u.0.tree)
          (λ q m. ap (λ (z : ListItem). z.spreads) made) (λ q. absurd (false≢true (sym (ap is_plainly is) ∙ q))) (λ p q. absurd (false≢true (sym (ap is_covers is) ∙ ap is_covers p)));
      ends = u.1;
    })
