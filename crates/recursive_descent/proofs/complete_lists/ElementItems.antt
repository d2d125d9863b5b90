-- Elements, arguments and parameters as items of a list that is given: alone, or behind `...` (ECMA-262 12.2.5, 12.3.8, 12.15.5, 14.1).
use Rattle.std.proofs.Common.{◌≡◌, ◌≤◌, ℕ, suc, inl, inr, Bool, true, false, cond, List, [], refl, sym, ap, ◌∙◌, subst, arith}
use Rattle.std.specs.Prelude.{Option, Some, codes}
use Rattle.std.proofs.lemmas.Bool.{false≢true}
use Rattle.tokens.specs.declared.token.TokenClass.TheVariants.{Punctuator}
use Rattle.tokens.specs.declared.token.Goal.TheVariants.{Div}
use Rattle.tree.specs.declared.kind.Kind.{Kind}
use Rattle.tree.specs.declared.kind.Kind.TheVariants.{SpreadElement, RestElement}
use Rattle.tree.specs.declared.kind.Pair.{Pair}
use Rattle.tree.specs.Tree.{Tree, node, plain, none, part, kind_of, height}
use Rattle.language.specs.declared.Rank.TheVariants.{Assignment}
use Rattle.language.specs.declared.Start.TheVariants.{Any}
use Rattle.language.specs.Covers.{Reading, as_expression, as_pattern, element_as}
use Rattle.language.specs.Derivation.{Reads}
use Rattle.language.specs.Continuations.{of_class, rank_made_by}
use Rattle.language.specs.Pieces.{Role, expr, spread, rest, bound, with_default}
use Rattle.language.specs.Promises.{ReadBy}
use Rattle.language.specs.Token.{Token}
use Rattle.language.specs.Vocabulary.{is_rest, is_spread}
use Rattle.language.proofs.list_loops.CommaLists.{Separated, by_comma, by_closing}
use Rattle.language.proofs.covers.CoverElements.{bound_defaults, element_form}
use Rattle.language.proofs.covers.CoverEnds.{Closing, a_bracket, a_parenthesis, a_brace, item_stops}
use Rattle.language.proofs.covers.CoverSpreads.{spread_form, rest_form, no_element, no_plain_expression}
use Rattle.token_cursor.proofs.SeenTokens.{seen_determined}
use Rattle.covers.specs.declared.list.ListKind.{ListKind}
use Rattle.covers.specs.declared.list.ListKind.TheVariants as listed
use Rattle.parser_tables.specs.declared.expression_context.ExpressionContext.{ExpressionContext}
use Rattle.recursive_descent.specs.SoundnessOfLists.{has_reading, item_role, is_chunked}
use Rattle.recursive_descent.specs.Completeness.{GivenAs, an_expression, an_element, Over, is_over}
use Rattle.recursive_descent.specs.CompletenessOfLists.{CommaOr, ItemEnds, is_last_rest, minds_rest}
use Rattle.recursive_descent.specs.CompletenessOfProperties.{value_as}
use Rattle.token_cursor.specs.Seen.{ReadsHere, Misses}
use Rattle.recursive_descent.proofs.reading.FreeRanks.{no_conditional, no_new}
use Rattle.recursive_descent.proofs.complete_expressions.Agreement.{read_here, marks_same, not_missed}
use Rattle.token_cursor.proofs.TokensAhead.{mark_by}
use Rattle.language.proofs.table.Begins.{div_allows}
use Rattle.language.proofs.climbing.NamesBehind.{apart_sign}
use Rattle.token_cursor.specs.SourceText.{SourceText, SeenNext, behind_in}
use Rattle.recursive_descent.specs.Spelled.{SpellsIn}

-- one position
some_same : {a b : Role} → Some a ≡ Some b → a ≡ b
some_same e = cc

-- lists of elements, arguments and parameters, which may be there
abbrev pub is_elements : ListKind → Bool
is_elements listed.Arguments = true
is_elements listed.Elements = true
is_elements listed.ParenthesizedItems = true
is_elements listed.AsyncArguments = true
is_elements listed.Parameters = true
is_elements listed.OneParameter = true
is_elements _ = false

-- they are no parts of a template
pub elements_plain : (x : ListKind) → is_elements x ≡ true → is_chunked x ≡ false
elements_plain listed.Template h = absurd (false≢true h)
elements_plain _ h = refl

-- in each of them but for an expression in parentheses and a setter's parameter `...` may stand before one
abbrev pub is_dotted : ListKind → Reading → Bool
is_dotted listed.ParenthesizedItems as_expression = false
is_dotted listed.OneParameter a = false
is_dotted x a = true

-- what closes such a list
abbrev pub closing_sign : ListKind → List ℕ
closing_sign listed.Elements = codes "]"
closing_sign x = codes ")"

-- which is one of three signs
pub closing_of : (x : ListKind) → Closing (closing_sign x)
closing_of listed.Elements = a_bracket
closing_of _ = a_parenthesis

-- an item ends before it or before a comma
pub element_ends : (text : SourceText) (x : ListKind) (n : Tree) (e : Token) → is_elements x ≡ true → ItemEnds text x n e → CommaOr text (closing_sign x) e
element_ends text listed.Arguments n e h d = d
element_ends text listed.Elements n e h d = d
element_ends text listed.ParenthesizedItems n e h d = d
element_ends text listed.AsyncArguments n e h d = d
element_ends text listed.Parameters n e h d = d
element_ends text listed.OneParameter n e h d = d
element_ends text _ n e h d = absurd (false≢true h)

-- a spread of an expression, a rest of a pattern
abbrev pub dotted_node : Reading → ℕ → ℕ → Tree → Tree
dotted_node as_expression s e n = node SpreadElement [] plain s e (part n none)
dotted_node (as_pattern b) s e n = node RestElement [] plain s e (part n none)

-- it is higher than its part
pub dotted_high : (a : Reading) (s e : ℕ) (n : Tree) → suc (height n) ≤ height (dotted_node a s e n)
dotted_high as_expression s e n = omega arith
dotted_high (as_pattern b) s e n = omega arith

-- what stands behind `...` in a pattern has no default
abbrev pub BoundAs : Reading → Kind → Role → Type 0
BoundAs as_expression k r = Unit {0}
BoundAs (as_pattern b) k r = bound b k ≡ Some r

-- such a rest is the last item, or its comma counts for nothing
pub dotted_trails : {X : Type 0} (x : ListKind) (a : Reading) (n : Tree) (s e : ℕ) (u : Tree) → is_elements x ≡ true → has_reading x a ≡ true → is_dotted x a ≡ true → n ≡ dotted_node a s e u → is_last_rest x a (part n none) ≡ false → minds_rest x a ≡ true → X
dotted_trails listed.Arguments as_expression n s e u k has dots tree h m = absurd (false≢true m)
dotted_trails listed.Arguments (as_pattern b) n s e u k has dots tree h m = absurd (false≢true has)
dotted_trails listed.Elements as_expression n s e u k has dots tree h m = absurd (false≢true m)
dotted_trails listed.Elements (as_pattern b) n s e u k has dots tree h m = absurd (false≢true (sym h ∙ ap (λ z. is_rest (kind_of z)) tree))
dotted_trails listed.ParenthesizedItems as_expression n s e u k has dots tree h m = absurd (false≢true dots)
dotted_trails listed.ParenthesizedItems (as_pattern b) n s e u k has dots tree h m = absurd (false≢true (sym h ∙ ap (λ z. is_rest (kind_of z)) tree))
dotted_trails listed.AsyncArguments as_expression n s e u k has dots tree h m = absurd (false≢true m)
dotted_trails listed.AsyncArguments (as_pattern b) n s e u k has dots tree h m = absurd (false≢true (sym h ∙ ap (λ z. is_rest (kind_of z)) tree))
dotted_trails listed.Parameters as_expression n s e u k has dots tree h m = absurd (false≢true has)
dotted_trails listed.Parameters (as_pattern b) n s e u k has dots tree h m = absurd (false≢true (sym h ∙ ap (λ z. is_rest (kind_of z)) tree))
dotted_trails listed.OneParameter a n s e u k has dots tree h m = absurd (false≢true dots)
dotted_trails _ a n s e u k has dots tree h m = absurd (false≢true k)

module _ (text : SourceText) where
  -- behind `...` a node from its start to its end
  pub record Dotted (x : ListKind) (a : Reading) (o : ℕ) (n : Tree) (m e : Token) (P : List Pair) : Type 0 where
    pub role : Role
    pub value : Tree
    pub allowed : is_dotted x a ≡ true
    pub it_is : value_as a value ≡ Some role
    pub binds : BoundAs a (kind_of value) role
    pub spelled : SpellsIn text o role value m e P
    pub tree : n ≡ dotted_node a m.start e.stop value

  -- an item: alone, where no `...` stands, or behind it
  pub data Element (x : ListKind) (a : Reading) (o : ℕ) (n : Tree) (s e : Token) (P : List Pair) : Type 0 where
    alone : {r : Role} → Misses text Punctuator (codes "...") s → value_as a n ≡ Some r → SpellsIn text o r n s e P → Element x a o n s e P
    dotted : {m : Token} → ReadsHere text Punctuator (codes "...") s m → Dotted x a o n m e P → Element x a o n s e P

  -- before an expression, and before an element of a pattern, no `...` stands
  expression_alone : (x : ListKind) {o : ℕ} (n : Tree) {s e : Token} {P : List Pair} → SpellsIn text o (expr Assignment true Any) n s e P → Element x as_expression o n s e P
  expression_alone x n d = alone (λ t m r. no_plain_expression Token (SeenNext text) (behind_in text) (seen_determined text) r d) refl d

  pattern_alone : (x : ListKind) (b : Bool) {r : Role} {o : ℕ} (n : Tree) {s e : Token} {P : List Pair} → with_default b (kind_of n) ≡ Some r → SpellsIn text o r n s e P → Element x (as_pattern b) o n s e P
  pattern_alone x b n it d = alone (λ t m r. no_element Token (SeenNext text) (behind_in text) (seen_determined text) r b (element_form Token (SeenNext text) (behind_in text) (seen_determined text) b n it d)) it d

  -- a spread, and a rest, by their tokens and their part
  spread_there : (x : ListKind) {o : ℕ} (n : Tree) {s e : Token} {P : List Pair} → is_dotted x as_expression ≡ true → SpellsIn text o spread n s e P → Element x as_expression o n s e P
  spread_there x {o} n {s} {e} {P} ok d =
      let v = spread_form Token (SeenNext text) (behind_in text) (seen_determined text) d in
      let at : behind_in text v.0.x ≡ v.0.sign = (seen_determined text).last s v.0.sign v.0.x v.0.reads.next in
      let start : v.0.st ≡ v.0.x.start = sym (ap (λ (t : Token). t.start) at ∙ v.0.starts) in
      dotted (read_here text v.0.reads) (record {
        role = expr Assignment true Any;
        value = v.0.inner;
        allowed = ok;
        it_is = refl;
        binds = tt;
        spelled = subst (λ c. SpellsIn text o c v.0.inner v.0.x e P) v.1 v.0.value;
        tree = v.0.tree ∙ (λ i. node SpreadElement [] plain (start i) (sym v.0.stops i) (part v.0.inner none));
      })

  rest_there : (x : ListKind) (b : Bool) {o : ℕ} (n : Tree) {s e : Token} {P : List Pair} → is_dotted x (as_pattern b) ≡ true → SpellsIn text o (rest b false) n s e P → Element x (as_pattern b) o n s e P
  rest_there x b {o} n {s} {e} {P} ok d =
      let w = rest_form Token (SeenNext text) (behind_in text) (seen_determined text) d in
      let v = w.dotted in
      let at : behind_in text v.x ≡ v.sign = (seen_determined text).last s v.sign v.x v.reads.next in
      let start : v.st ≡ v.x.start = sym (ap (λ (t : Token). t.start) at ∙ v.starts) in
      dotted (read_here text v.reads) (record {
        role = v.role;
        value = v.inner;
        allowed = ok;
        it_is = bound_defaults b (kind_of v.inner) w.it_is;
        binds = w.it_is;
        spelled = v.value;
        tree = v.tree ∙ (λ i. node RestElement [] plain (start i) (sym v.stops i) (part v.inner none));
      })

  -- an element is alone or behind `...`
  of_element : (x : ListKind) (a : Reading) {r : Role} {o : ℕ} (n : Tree) {s e : Token} {P : List Pair} → is_dotted x a ≡ true → element_as a (kind_of n) ≡ Some r → SpellsIn text o r n s e P → Element x a o n s e P
  of_element x as_expression {r} {o} n {s} {e} {P} ok it d = of (is_spread (kind_of n)) it
    where
      of : (c : Bool) → ◌≡◌ {A = Option Role} (Some (cond c spread (expr Assignment true Any))) (Some r) → Element x as_expression o n s e P
      of true k = spread_there x n ok (subst (λ z. SpellsIn text o z n s e P) (sym (some_same k)) d)
      of false k = expression_alone x n (subst (λ z. SpellsIn text o z n s e P) (sym (some_same k)) d)
  of_element x (as_pattern b) {r} {o} n {s} {e} {P} ok it d = of (is_rest (kind_of n)) it
    where
      of : (c : Bool) → cond c (Some (rest b false)) (with_default b (kind_of n)) ≡ Some r → Element x (as_pattern b) o n s e P
      of true k = rest_there x b n ok (subst (λ z. SpellsIn text o z n s e P) (sym (some_same k)) d)
      of false k = pattern_alone x b n k d

  -- What is given of an item of such a list is one of these.
  pub element_given : (x : ListKind) (a : Reading) {r : Role} {o : ℕ} (n : Tree) {s e : Token} {P : List Pair} → is_elements x ≡ true → has_reading x a ≡ true → item_role x a (kind_of n) ≡ Some r → SpellsIn text o r n s e P → Element x a o n s e P
  element_given listed.Arguments as_expression n k has it d = of_element listed.Arguments as_expression n refl it d
  element_given listed.Arguments (as_pattern b) n k has it d = absurd (false≢true has)
  element_given listed.Elements a n k has it d = of_element listed.Elements a n refl it d
  element_given listed.ParenthesizedItems as_expression {o = o} n {s} {e} {P} k has it d = expression_alone listed.ParenthesizedItems n (subst (λ z. SpellsIn text o z n s e P) (sym (some_same it)) d)
  element_given listed.ParenthesizedItems (as_pattern b) n k has it d = of_element listed.ParenthesizedItems (as_pattern b) n refl it d
  element_given listed.AsyncArguments a n k has it d = of_element listed.AsyncArguments a n refl it d
  element_given listed.Parameters as_expression n k has it d = absurd (false≢true has)
  element_given listed.Parameters (as_pattern b) n k has it d = of_element listed.Parameters (as_pattern b) n refl it d
  element_given listed.OneParameter as_expression n k has it d = absurd (false≢true has)
  element_given listed.OneParameter (as_pattern b) n k has it d = pattern_alone listed.OneParameter b n it d
  element_given _ a n k has it d = absurd (false≢true k)

  -- it stands behind `...` where that was read, and alone where it is missed
  pub dotted_there : {x : ListKind} {a : Reading} {o : ℕ} {n : Tree} {s m e : Token} {P : List Pair} → ReadsHere text Punctuator (codes "...") s m → Element x a o n s e P → Dotted x a o n m e P
  dotted_there r (alone h it d) = absurd (not_missed h r)
  dotted_there {x} {a} {o} {n} {s} {m} {e} {P} r (dotted q v) = subst (λ z. Dotted x a o n z e P) (marks_same text q r).1 v

  pub record Alone (a : Reading) (o : ℕ) (n : Tree) (s e : Token) (P : List Pair) : Type 0 where
    pub role : Role
    pub it_is : value_as a n ≡ Some role
    pub spelled : SpellsIn text o role n s e P

  -- and so alone
  pub alone_there : {x : ListKind} {a : Reading} {o : ℕ} {n : Tree} {s e : Token} {P : List Pair} → Misses text Punctuator (codes "...") s → Element x a o n s e P → Alone a o n s e P
  alone_there misses (alone {r} h it d) = record { role = r; it_is = it; spelled = d }
  alone_there misses (dotted r v) = absurd (not_missed misses r)

  -- nothing but a comma goes on where an item ends
  separated : {w : List ℕ} {e : Token} → CommaOr text w e → Separated Token (SeenNext text) (behind_in text) (seen_determined text) w e
  separated (inl r) = by_comma r.1
  separated (inr r) = by_closing r.1

  -- the token that is read there is the comma or the closing sign
  same_token : {w : List ℕ} {e t k u m : Token} → Reads Token (SeenNext text) (behind_in text) Punctuator w e t k → ReadBy Token (SeenNext text) (behind_in text) Div e u m → u ≡ t
  same_token {e = e} {t} {k} {u} {m} r b = let a = mark_by text r in ((seen_determined text).same Div e u t m k b.next a.next b.allowed a.allowed).0

  over_sign : {w : List ℕ} {e t k : Token} → ((x : Bool) → is_over (rank_made_by (of_class Punctuator w) x) ≡ true) → Reads Token (SeenNext text) (behind_in text) Punctuator w e t k → Over text e
  over_sign {w} {t = t} h r = record {
    before = λ u m b. let same = same_token r b in (λ i. is_over (rank_made_by (of_class (same i).class (same i).text) (same i).after_break)) ∙ (λ i. is_over (rank_made_by (of_class (r.class i) (r.text i)) t.after_break)) ∙ h t.after_break;
    apart = apart_sign Token (SeenNext text) (behind_in text) (seen_determined text) r (div_allows false w);
  }

  -- so nothing goes on there
  over_there : {w : List ℕ} {e : Token} → Closing w → CommaOr text w e → Over text e
  over_there c (inl r) = over_sign (λ x. refl) r.1
  over_there a_bracket (inr r) = over_sign (λ x. refl) r.1
  over_there a_parenthesis (inr r) = over_sign (λ x. refl) r.1
  over_there a_brace (inr r) = over_sign (λ x. refl) r.1

  -- so a value is given where an AssignmentExpression may stand
  pub value_given : (a : Reading) {q : ExpressionContext} {r : Role} {w : List ℕ} {o : ℕ} {n : Tree} {s e : Token} {P : List Pair} → Closing w → q ≡ record { rank = Assignment; has_in = true; start = Any } → value_as a n ≡ Some r → SpellsIn text o r n s e P → CommaOr text w e → GivenAs text q o n s e P a
  value_given as_expression {q} {r} {w} {o} {n} {s} {e} {P} c q_is it d ends =
      subst (λ (z : ExpressionContext). GivenAs text z o n s e P as_expression) (sym q_is)
      (an_expression (no_conditional refl) (no_new refl) (subst (λ z. SpellsIn text o z n s e P) (sym (some_same it)) d) (item_stops Token (SeenNext text) (behind_in text) (seen_determined text) c Assignment n e refl (separated ends)))
  value_given (as_pattern b) c q_is it d ends = an_element q_is it d (over_there c ends)
