-- One item of a list, from what was read: an element, alone or behind `...` (ECMA-262 12.2.5, 12.3.8, 12.15.5, 14.1).
use Rattle.std.proofs.Common.{arith, ◌≡◌, ℕ, ◌-◌, ◌≤◌, Result, Ok, Err, Bool, true, false, cond, List, [], refl, sym, ap, ◌∙◌, subst}
use Rattle.std.specs.Prelude.{IsTrue, Some, codes, not, max, ◌&&◌, nat_le}
use Rattle.std.specs.Result.{IfOk}
use Rattle.source_text.specs.declared.fault.Fault.{Fault}
use Rattle.std.proofs.lemmas.Bool.{and_parts, false≢true, true≢false}
use Rattle.std.proofs.lemmas.Option.{none-some}
use Rattle.tokens.specs.Reading.{Reads}
use Rattle.tokens.specs.Tokens.{LexicalToken}
use Rattle.tokens.specs.declared.token.TokenClass.TheVariants.{Punctuator}
use Rattle.tokens.specs.declared.token.Goal.TheVariants.{Div}
use Rattle.tree.specs.declared.kind.Kind.{Kind}
use Rattle.tree.specs.declared.kind.Kind.TheVariants.{Identifier, MemberExpression, ArrayPattern, ObjectPattern, AssignmentPattern, RestElement, SpreadElement}
use Rattle.tree.specs.declared.kind.Pair.{Pair}
use Rattle.tree.specs.Tree.{Tree, node, plain, Parts, none, part, gap, push_gap, kind_of, height, parts_height}
use Rattle.language.specs.declared.Rank.{Rank}
use Rattle.language.specs.declared.Rank.TheVariants.{Expression, Assignment}
use Rattle.language.specs.declared.Start.{Start}
use Rattle.language.specs.declared.Start.TheVariants.{Any}
use Rattle.language.specs.declared.Edge.TheVariants.{Closed}
use Rattle.language.specs.Vocabulary.{takes as takes_rank, is_target as is_simple, is_rest, is_spread}
use Rattle.language.specs.Covers.{Reading, as_expression, as_pattern, element_as}
use Rattle.language.specs.Grammar.{ways}
use Rattle.language.specs.Pieces.{Role, expr, spread, rest, bound, with_default}
use Rattle.language.specs.Token.{Token}
use Rattle.language.specs.Derivation.{direct, grouped}
use Rattle.language.specs.Claims.{max_open}
use Rattle.language.proofs.covers.CoverSpreads.{spread_spells, rest_spells, expression_kind}
use Rattle.token_cursor.proofs.SeenTokens.{seen_determined}
use Rattle.language.proofs.table.ViewIsComplete.{way_of}
use Rattle.covers.specs.declared.shape.TargetForm.{TargetForm}
use Rattle.covers.specs.declared.shape.TargetForm.TheVariants as assigned
use Rattle.covers.specs.declared.shape.CoverShape.{CoverShape}
use Rattle.covers.specs.declared.list.ListItem.{ListItem}
use Rattle.covers.specs.declared.list.ListKind.{ListKind}
use Rattle.covers.specs.declared.list.ListKind.TheVariants as listed
use Rattle.covers.specs.declared.list.ListBuilder.{ListBuilder as ListOf}
use Rattle.covers.specs.Lists.{takes, with_hole}
use Rattle.covers.specs.Refusals.{IsTaken}
use Rattle.tree.specs.Patterns.{pattern_tree}
use Rattle.covers.specs.Shapes.{is_pattern, is_element, is_target, value}
use Rattle.token_cursor.specs.CursorState.{CursorState}
use Rattle.parser_tables.specs.declared.operand.Operand.{Operand}
use Rattle.parser_tables.specs.declared.expression_context.ExpressionContext.{ExpressionContext}
use Rattle.recursive_descent.specs.Soundness.{Adds, grouping, PartAt, ReadAt, SpelledAs, assigned_at, target_at, pattern_at, default_at, fits_as, read_as}
use Rattle.recursive_descent.specs.SoundnessOfLists.{ItemReads, ItemAt, an_item, a_chunk, is_chunked, has_reading, item_fits, item_role, fits_rest, may_trail, asks_edge, case_count, list_in}
use Rattle.parser_tables.specs.Items.{element_item, element_levels, item_from, with_item}
use Rattle.recursive_descent.specs.Follows.{ChunkAt}
use Rattle.token_cursor.specs.Seen.{ReadsHere}
use Rattle.recursive_descent.proofs.reading.AddedPairs.{adds_behind}
use Rattle.token_cursor.proofs.TokensAhead.{mark_by}
use Rattle.recursive_descent.proofs.sound_statements.StatementLists.{push_low}
use Rattle.token_cursor.specs.SourceText.{SourceText, SeenNext, behind_in}
use Rattle.recursive_descent.specs.Spelled.{SpellsIn}
use Rattle.recursive_descent.proofs.reading.Forward.{place_by}

-- lists whose items are expressions, alone or behind `...`
abbrev pub lists_elements : ListKind → Bool
lists_elements listed.Properties = false
lists_elements listed.Members = false
lists_elements listed.Template = false
lists_elements (listed.Declarators i) = false
lists_elements (listed.Cases r) = false
lists_elements _ = true

abbrev pub is_covers : ListKind → Bool
is_covers listed.ParenthesizedItems = true
is_covers _ = false

-- a target, a pattern, or either with a default, by its kind: an element of a pattern, which is no rest
target_element : (b : Bool) (k : Kind) {a : Role} → target_at Any b k ≡ Some a → (with_default b k ≡ Some a) × (is_rest k ≡ false)
target_element true Identifier h = (h, refl)
target_element true _ h = absurd (none-some _ h)
target_element false Identifier h = (h, refl)
target_element false MemberExpression h = (h, refl)
target_element false _ h = absurd (none-some _ h)

pattern_element_of : (b : Bool) (k : Kind) {a : Role} → pattern_at Any b k ≡ Some a → (with_default b k ≡ Some a) × (is_rest k ≡ false)
pattern_element_of true ArrayPattern h = (h, refl)
pattern_element_of true ObjectPattern h = (h, refl)
pattern_element_of true _ h = absurd (none-some _ h)
pattern_element_of false ArrayPattern h = (h, refl)
pattern_element_of false ObjectPattern h = (h, refl)
pattern_element_of false _ h = absurd (none-some _ h)

default_element : (b : Bool) (k : Kind) {a : Role} → default_at b k ≡ Some a → (with_default b k ≡ Some a) × (is_rest k ≡ false)
default_element true AssignmentPattern h = (h, refl)
default_element true _ h = absurd (none-some _ h)
default_element false AssignmentPattern h = (h, refl)
default_element false _ h = absurd (none-some _ h)

element_of : (x : TargetForm) (b : Bool) (k : Kind) {a : Role} → assigned_at x Any b k ≡ Some a → (with_default b k ≡ Some a) × (is_rest k ≡ false)
element_of assigned.Nothing b k h = absurd (none-some _ h)
element_of assigned.Target b k h = target_element b k h
element_of assigned.Pattern b k h = pattern_element_of b k h
element_of assigned.Defaulted b k h = default_element b k h

-- and without a default what is bound or assigned to
target_bound : (b : Bool) (k : Kind) {a : Role} → target_at Any b k ≡ Some a → bound b k ≡ Some a
target_bound true Identifier h = h
target_bound true _ h = absurd (none-some _ h)
target_bound false Identifier h = h
target_bound false MemberExpression h = h
target_bound false _ h = absurd (none-some _ h)

pattern_bound : (b : Bool) (k : Kind) {a : Role} → pattern_at Any b k ≡ Some a → bound b k ≡ Some a
pattern_bound true ArrayPattern h = h
pattern_bound true ObjectPattern h = h
pattern_bound true _ h = absurd (none-some _ h)
pattern_bound false ArrayPattern h = h
pattern_bound false ObjectPattern h = h
pattern_bound false _ h = absurd (none-some _ h)

bound_of : (x : TargetForm) (b : Bool) (k : Kind) {a : Role} → is_pattern x ≡ true → assigned_at x Any b k ≡ Some a → bound b k ≡ Some a
bound_of assigned.Target b k p h = target_bound b k h
bound_of assigned.Pattern b k p h = pattern_bound b k h
bound_of _ b k p h = absurd (false≢true p)

-- what is a rest or has no default is an element
rest_element : (s : CoverShape) (b : Bool) → cond b (s.binds && is_pattern s.assigned) (is_pattern s.assigned) ≡ true → (is_pattern s.assigned ≡ true) × (fits_as s (as_pattern b) ≡ true)
rest_element s true h = let u = and_parts s.binds (is_pattern s.assigned) h in (u.1, both s.binds (is_element s.assigned) u.0 (of s.assigned u.1))
  where
    of : (x : TargetForm) → is_pattern x ≡ true → is_element x ≡ true
    of assigned.Target h = refl
    of assigned.Pattern h = refl
    of _ h = absurd (false≢true h)

    both : (a b : Bool) → a ≡ true → b ≡ true → (a && b) ≡ true
    both true true h k = refl
    both true false h k = absurd (false≢true k)
    both false b h k = absurd (false≢true h)
rest_element s false h = (h, of s.assigned h)
  where
    of : (x : TargetForm) → is_pattern x ≡ true → is_element x ≡ true
    of assigned.Target h = refl
    of assigned.Pattern h = refl
    of _ h = absurd (false≢true h)

-- the target of a pattern is that of the expression
simple_tree : (n : Tree) → is_simple (kind_of (pattern_tree n)) ≡ true → is_simple (kind_of n) ≡ true
simple_tree (node Identifier w g s e ps) h = refl
simple_tree (node MemberExpression w g s e ps) h = refl
simple_tree (node _ w g s e ps) h = h

target_simple : (k : Kind) {a : Role} → target_at Any false k ≡ Some a → is_simple k ≡ true
target_simple Identifier h = refl
target_simple MemberExpression h = refl
target_simple _ h = absurd (none-some _ h)

module _ (text : SourceText) where
  -- no expression is a rest
  pub expression_no_rest : {o : ℕ} {y : Rank} {i : Bool} {f : Start} {n : Tree} {s e : Token} {P : List Pair} → SpellsIn text o (expr y i f) n s e P → is_rest (kind_of n) ≡ false
  unfolding Rattle.language.specs.Grammar.spellings Rattle.language.specs.Expressions.expressions
  expression_no_rest (grouped p d q) = expression_no_rest d
  expression_no_rest {n = node RestElement w g st en ps} (direct qs h pl d) = elim ((way_of h).listed) [ ]
  expression_no_rest {n = node _ w g st en ps} (direct qs h pl d) = refl

  module _ {i : Bool} {p : Operand} {o : ℕ} {m e : Token} {P : List Pair} (read : PartAt text i Any p o m e P) (tight : IsTrue (takes_rank Assignment p.rank)) where
    -- as an expression
    an_expression : p.cover.shape.is_expression ≡ true → SpellsIn text o (expr Assignment i Any) p.cover.node m e P
    an_expression fits = read.stands fits Assignment i tight (λ k. refl)

    -- as an element of a pattern
    an_element : (b : Bool) → i ≡ true → fits_as p.cover.shape (as_pattern b) ≡ true → SpelledAs (assigned_at p.cover.shape.assigned Any b) text o (pattern_tree p.cover.node) m e P
    an_element b in_true fits = read.assigned b fits (λ d. (refl, in_true))

    pub simple_item : is_target p.cover.shape.assigned ≡ true → i ≡ true → is_simple (kind_of p.cover.node) ≡ true
    simple_item target in_true = of p.cover.shape.assigned refl target
      where
        of : (x : TargetForm) → p.cover.shape.assigned ≡ x → is_target x ≡ true → is_simple (kind_of p.cover.node) ≡ true
        of assigned.Target q h =
            let fits : is_element p.cover.shape.assigned ≡ true = ap is_element q in
            let u = an_element false in_true fits in
            simple_tree p.cover.node (target_simple (kind_of (pattern_tree p.cover.node)) (ap (λ x. assigned_at x Any false (kind_of (pattern_tree p.cover.node))) (sym q) ∙ u.it_is))
        of _ q h = absurd (false≢true h)

-- where the list has patterns, its items are read with In
pattern_in : (l : ListKind) (b : Bool) → has_reading l (as_pattern b) ≡ true → list_in l ≡ true
pattern_in (listed.Sequence i) b h = absurd (false≢true h)
pattern_in _ b h = refl

none_counted : (l : ListKind) (n : Tree) → lists_elements l ≡ true → nat_le (case_count l (part n none)) 0 ≡ true
none_counted (listed.Cases r) n h = absurd (false≢true h)
none_counted _ n h = refl

module _ (at : ℕ) (p : Operand) (stop : ℕ) where
  alone_fits : (l : ListKind) (a : Reading) → lists_elements l ≡ true → item_fits l (element_item false at stop p) a ≡ true → fits_as p.cover.shape a ≡ true
  alone_fits (listed.Declarators i) a h k = absurd (false≢true h)
  alone_fits (listed.OneParameter) a h k = k
  alone_fits _ a h k = k

module _ (text : SourceText) (p : Operand) {o : ℕ} {s e : Token} {P : List Pair} where
  expression_element : {n : Tree} → SpellsIn text o (expr Assignment true Any) n s e P → SpelledAs (element_as as_expression) text o n s e P
  expression_element {n} d =
      let no_spread : is_spread (kind_of n) ≡ false = expression_kind Token (SeenNext text) (behind_in text) (seen_determined text) d in
      record { role = expr Assignment true Any; it_is = ap (λ c. Some (cond c spread (expr Assignment true Any))) no_spread; spelled = d }

  default_there : (b : Bool) (n : Tree) → SpelledAs (assigned_at p.cover.shape.assigned Any b) text o n s e P → SpelledAs (with_default b) text o n s e P
  default_there b n u = record { role = u.role; it_is = (element_of p.cover.shape.assigned b (kind_of n) u.it_is).0; spelled = u.spelled }

  element_there : (b : Bool) (n : Tree) → SpelledAs (assigned_at p.cover.shape.assigned Any b) text o n s e P → SpelledAs (element_as (as_pattern b)) text o n s e P
  element_there b n u =
      let v = element_of p.cover.shape.assigned b (kind_of n) u.it_is in
      record { role = u.role; it_is = ap (λ c. cond c (Some (rest b false)) (with_default b (kind_of n))) v.1 ∙ v.0; spelled = u.spelled }

  -- an element alone
  alone_reads : (l : ListKind) → lists_elements l ≡ true → PartAt text (list_in l) Any p o s e P → IsTrue (takes_rank Assignment p.rank) → (a : Reading) → has_reading l a ≡ true → fits_as p.cover.shape a ≡ true → SpelledAs (item_role l a) text o (read_as a p.cover.node) s e P
  alone_reads listed.Arguments h r tk as_expression k fits = expression_element (an_expression text r tk fits)
  alone_reads listed.Arguments h r tk (as_pattern b) k fits = absurd (false≢true k)
  alone_reads listed.Elements h r tk as_expression k fits = expression_element (an_expression text r tk fits)
  alone_reads listed.Elements h r tk (as_pattern b) k fits = element_there b (pattern_tree p.cover.node) (an_element text r tk b refl fits)
  alone_reads listed.ParenthesizedItems h r tk as_expression k fits = record { role = expr Assignment true Any; it_is = refl; spelled = an_expression text r tk fits }
  alone_reads listed.ParenthesizedItems h r tk (as_pattern b) k fits = element_there b (pattern_tree p.cover.node) (an_element text r tk b refl fits)
  alone_reads listed.AsyncArguments h r tk as_expression k fits = expression_element (an_expression text r tk fits)
  alone_reads listed.AsyncArguments h r tk (as_pattern b) k fits = element_there b (pattern_tree p.cover.node) (an_element text r tk b refl fits)
  alone_reads listed.Parameters h r tk as_expression k fits = absurd (false≢true k)
  alone_reads listed.Parameters h r tk (as_pattern b) k fits = element_there b (pattern_tree p.cover.node) (an_element text r tk b refl fits)
  alone_reads listed.NoParameter h r tk as_expression k fits = absurd (false≢true k)
  alone_reads listed.NoParameter h r tk (as_pattern b) k fits = element_there b (pattern_tree p.cover.node) (an_element text r tk b refl fits)
  alone_reads listed.OneParameter h r tk as_expression k fits = absurd (false≢true k)
  alone_reads listed.OneParameter h r tk (as_pattern b) k fits = default_there b (pattern_tree p.cover.node) (an_element text r tk b refl fits)
  alone_reads (listed.Sequence i) h r tk as_expression k fits = record { role = expr Assignment i Any; it_is = refl; spelled = an_expression text r tk fits }
  alone_reads (listed.Sequence i) h r tk (as_pattern b) k fits = absurd (false≢true k)
  alone_reads _ h r tk a k fits = absurd (false≢true h)

  pub element_alone : (l : ListKind) (at : ℕ) → lists_elements l ≡ true → PartAt text (list_in l) Any p o s e P → IsTrue (takes_rank Assignment p.rank) → ItemReads text l (element_item false at e.stop p) o s e P
  element_alone l at h r tk = record {
    reads = λ a k fits. alone_reads l h r tk a k (alone_fits at p e.stop l a h fits);
    no_rest = no_rest;
    edge = λ k. r.edge;
    is_default = none_counted l p.cover.node h;
  }
    where
      no_rest : (a : Reading) → has_reading l a ≡ true → item_fits l (element_item false at e.stop p) a ≡ true → may_trail (element_item false at e.stop p) a ≡ true → is_rest (kind_of (read_as a p.cover.node)) ≡ false
      no_rest as_expression k fits t = expression_no_rest text (an_expression text r tk (alone_fits at p e.stop l as_expression h fits))
      no_rest (as_pattern b) k fits t =
          let u = an_element text r tk b (pattern_in l b k) (alone_fits at p e.stop l (as_pattern b) h fits) in
          (element_of p.cover.shape.assigned b (kind_of (pattern_tree p.cover.node)) u.it_is).1

-- an element behind `...`
module _ (text : SourceText) (p : Operand) {o : ℕ} {s m e : Token} {P : List Pair} (at : ℕ) (starts : (u : LexicalToken) → Reads text.bytes Div s.stop u → at ≡ u.start) (dots : ReadsHere text Punctuator (codes "...") s m) where
  a_spread : SpellsIn text o (expr Assignment true Any) p.cover.node m e P → SpelledAs (element_as as_expression) text o (node SpreadElement [] plain at e.stop (part p.cover.node none)) s e P
  a_spread d = record { role = spread; it_is = refl; spelled = subst (λ x. SpellsIn text o spread (node SpreadElement [] plain x e.stop (part p.cover.node none)) s e P) (sym (place_by text starts (mark_by text dots))) (spread_spells Token (SeenNext text) (behind_in text) (seen_determined text) dots d) }

  a_rest : (b : Bool) → is_pattern p.cover.shape.assigned ≡ true → SpelledAs (assigned_at p.cover.shape.assigned Any b) text o (pattern_tree p.cover.node) m e P → SpelledAs (element_as (as_pattern b)) text o (node RestElement [] plain at e.stop (part (pattern_tree p.cover.node) none)) s e P
  a_rest b tight u = record {
    role = rest b false;
    it_is = refl;
    spelled = subst (λ x. SpellsIn text o (rest b false) (node RestElement [] plain x e.stop (part (pattern_tree p.cover.node) none)) s e P) (sym (place_by text starts (mark_by text dots)))
        (rest_spells Token (SeenNext text) (behind_in text) (seen_determined text) b false (bound_of p.cover.shape.assigned b (kind_of (pattern_tree p.cover.node)) tight u.it_is) refl dots u.spelled);
  }

  module _ (r : PartAt text true Any p o m e P) (tk : IsTrue (takes_rank Assignment p.rank)) where
    rest_there : (b : Bool) → cond b (p.cover.shape.binds && is_pattern p.cover.shape.assigned) (is_pattern p.cover.shape.assigned) ≡ true → SpelledAs (element_as (as_pattern b)) text o (node RestElement [] plain at e.stop (part (pattern_tree p.cover.node) none)) s e P
    rest_there b h = let u = rest_element p.cover.shape b h in a_rest b u.0 (an_element text r tk b refl u.1)

    rest_reads : (b : Bool) → fits_rest listed.Elements p.cover.shape (as_pattern b) ≡ true → SpelledAs (element_as (as_pattern b)) text o (node RestElement [] plain at e.stop (part (pattern_tree p.cover.node) none)) s e P
    rest_reads true h = rest_there true h
    rest_reads false h = rest_there false h

    fit_cover : (b : Bool) → fits_rest listed.ParenthesizedItems p.cover.shape (as_pattern b) ≡ true → fits_rest listed.Elements p.cover.shape (as_pattern b) ≡ true
    fit_cover true h = h
    fit_cover false h = h

    fit_async : (b : Bool) → fits_rest listed.AsyncArguments p.cover.shape (as_pattern b) ≡ true → fits_rest listed.Elements p.cover.shape (as_pattern b) ≡ true
    fit_async true h = h
    fit_async false h = h

    fit_parameter : (b : Bool) → fits_rest listed.Parameters p.cover.shape (as_pattern b) ≡ true → fits_rest listed.Elements p.cover.shape (as_pattern b) ≡ true
    fit_parameter true h = h
    fit_parameter false h = h

    fit_none : (b : Bool) → fits_rest listed.NoParameter p.cover.shape (as_pattern b) ≡ true → fits_rest listed.Elements p.cover.shape (as_pattern b) ≡ true
    fit_none true h = h
    fit_none false h = h

    spread_reads : (l : ListKind) → lists_elements l ≡ true → asks_edge l ≡ false → (a : Reading) → has_reading l a ≡ true → item_fits l (element_item true at e.stop p) a ≡ true → SpelledAs (item_role l a) text o (read_as a (element_item true at e.stop p).node) s e P
    spread_reads listed.Arguments h n as_expression k fits = a_spread (an_expression text r tk fits)
    spread_reads listed.Arguments h n (as_pattern b) k fits = absurd (false≢true k)
    spread_reads listed.Elements h n as_expression k fits = a_spread (an_expression text r tk fits)
    spread_reads listed.Elements h n (as_pattern b) k fits = rest_reads b fits
    spread_reads listed.ParenthesizedItems h n as_expression k fits = absurd (false≢true fits)
    spread_reads listed.ParenthesizedItems h n (as_pattern b) k fits = rest_reads b (fit_cover b fits)
    spread_reads listed.AsyncArguments h n as_expression k fits = a_spread (an_expression text r tk fits)
    spread_reads listed.AsyncArguments h n (as_pattern b) k fits = rest_reads b (fit_async b fits)
    spread_reads listed.Parameters h n as_expression k fits = absurd (false≢true k)
    spread_reads listed.Parameters h n (as_pattern b) k fits = rest_reads b (fit_parameter b fits)
    spread_reads listed.NoParameter h n as_expression k fits = absurd (false≢true k)
    spread_reads listed.NoParameter h n (as_pattern b) k fits = rest_reads b (fit_none b fits)
    spread_reads listed.OneParameter h n a k fits = absurd (false≢true fits)
    spread_reads (listed.Sequence i) h n a k fits = absurd (true≢false n)
    spread_reads _ h n a k fits = absurd (false≢true h)

    pub element_spread : (l : ListKind) → lists_elements l ≡ true → asks_edge l ≡ false → ItemReads text l (element_item true at e.stop p) o s e P
    element_spread l h n = record {
      reads = spread_reads l h n;
      no_rest = no_rest;
      edge = λ k. absurd (false≢true (sym n ∙ k));
      is_default = none_counted l (element_item true at e.stop p).node h;
    }
      where
        no_rest : (a : Reading) → has_reading l a ≡ true → item_fits l (element_item true at e.stop p) a ≡ true → may_trail (element_item true at e.stop p) a ≡ true → is_rest (kind_of (read_as a (element_item true at e.stop p).node)) ≡ false
        no_rest as_expression k fits t = refl
        no_rest (as_pattern b) k fits t = absurd (false≢true t)

-- What is pushed onto the list, from the points between which it was read.
pub taken_item : {s e : CursorState} {old new : List Pair} (l k : ListOf) (it : ListItem) (at : ℕ) (r : Result (Unit {0}) Fault) → is_chunked l.listed ≡ false → IfOk r (λ u. k ≡ with_item l it) → IsTaken (takes l.listed l.seen it) at r →
    (l.listed ≡ listed.ParenthesizedItems → it.spreads ≡ false → is_target it.shape.assigned ≡ true → is_simple (kind_of it.node) ≡ true) → Adds s e old new (ItemReads s.text l.listed it) → IfOk r (λ u. Adds s e old new (ItemAt s.text l k))
taken_item l k' it at (Ok u) c k t target a = adds_behind refl refl a (λ o P d. an_item it c k t d target)
taken_item l k' it at (Err f) c k t target a = tt

pub low_item : (l k : ListOf) (it : ListItem) (high : ℕ) (r : Result (Unit {0}) Fault) → IfOk r (λ u. k ≡ with_item l it) → height it.node ≤ high → IfOk r (λ u. parts_height l.nodes ≤ high → parts_height k.nodes ≤ high)
low_item l k' it high (Ok u) k h = λ b. subst (λ (x : ListOf). parts_height x.nodes ≤ high) (sym k) (push_low l.nodes it.node high b h)
low_item l k' it high (Err f) k h = tt

gap_height : (ps : Parts) → parts_height (push_gap ps) ≡ parts_height ps
gap_height none = refl
gap_height (part n ps) = ap (λ x. max (height n) x) (gap_height ps)
gap_height (gap ps) = gap_height ps

pub low_hole : (l k : ListOf) (high : ℕ) (r : Result (Unit {0}) Fault) → IfOk r (λ u. k ≡ record l { nodes = push_gap l.nodes; seen = with_hole l.seen }) → IfOk r (λ u. parts_height l.nodes ≤ high → parts_height k.nodes ≤ high)
low_hole l k' high (Ok u) k = λ b. subst (λ (x : ListOf). parts_height x.nodes ≤ high) (sym k) (subst (λ x. x ≤ high) (sym (gap_height l.nodes)) b)
low_hole l k' high (Err f) k = tt

-- an expression in a template, and the part behind it
pub chunk_item : {s m : CursorState} (e : CursorState) {old mid new : List Pair} (l l1 k : ListOf) {q : ExpressionContext} (p : Operand) (c : ListItem) (r : Result (Unit {0}) Fault) → q ≡ record { rank = Expression; has_in = true; start = Any } → l.listed ≡ listed.Template → l1 ≡ with_item l (item_from p.cover.node value false Closed) →
    IfOk r (λ u. k ≡ with_item l1 c) → m.text ≡ s.text → Adds s m old mid (ReadAt s.text q p) → p.cover.shape.is_expression ≡ true → e.opened ≡ m.opened → new ≡ mid → ChunkAt m.text m.last e.last c.node c.is_flagged → IfOk r (λ u. Adds s e old new (ItemAt s.text l k))
chunk_item e l l1 k' p c (Err f) q_is template first k here a fits open_same same chunk = tt
chunk_item {s} {m} e l l1 k' {q = q} p c (Ok u) q_is template first k here a fits open_same same chunk = record {
  more = a.more;
  same_open = open_same ∙ a.same_open;
  pairs = same ∙ a.pairs;
  is =
      let read : ReadAt s.text (record { rank = Expression; has_in = true; start = Any }) p (max_open - s.opened) s.last m.last (grouping a.more) = subst (λ (x : ExpressionContext). ReadAt s.text x p (max_open - s.opened) s.last m.last (grouping a.more)) q_is a.is in
      a_chunk template p.cover.node c m.last (k ∙ ap (λ x. with_item x c) first) (read.part.stands fits Expression true (read.taken refl) (λ h. refl)) (subst (λ t. ChunkAt t m.last e.last c.node c.is_flagged) here chunk);
}

-- an element, alone and behind `...`
pub alone_item : {s e : CursorState} {old new : List Pair} (l : ListKind) {q : ExpressionContext} (at : ℕ) (p : Operand) (it : ListItem) → q ≡ record { rank = Assignment; has_in = list_in l; start = Any } → lists_elements l ≡ true → it ≡ element_item false at e.last.stop p → Adds s e old new (ReadAt s.text q p) → Adds s e old new (ItemReads s.text l it)
alone_item {s} {e} l {q = q} at p it q_is el is a = adds_behind refl refl a (λ o P d.
    let read : ReadAt s.text (record { rank = Assignment; has_in = list_in l; start = Any }) p o s.last e.last P = subst (λ (x : ExpressionContext). ReadAt s.text x p o s.last e.last P) q_is d in
    subst (λ x. ItemReads s.text l x o s.last e.last P) (sym is) (element_alone s.text p l at el read.part (read.taken refl)))

pub spread_item : {s m e : CursorState} {old mid new : List Pair} (l : ListKind) {q : ExpressionContext} (at : ℕ) (p : Operand) (it : ListItem) → q ≡ record { rank = Assignment; has_in = true; start = Any } → lists_elements l ≡ true → asks_edge l ≡ false → it ≡ element_item true at e.last.stop p →
    ((u : LexicalToken) → Reads s.text.bytes Div s.last.stop u → at ≡ u.start) → ReadsHere s.text Punctuator (codes "...") s.last m.last → m.text ≡ s.text → m.opened ≡ s.opened → mid ≡ old → Adds m e mid new (ReadAt m.text q p) → Adds s e old new (ItemReads s.text l it)
spread_item {s} {m} {e} l {q = q} at p it q_is el bare is starts dots here open_same same a = adds_behind open_same same a (λ o P d.
    let read : ReadAt s.text (record { rank = Assignment; has_in = true; start = Any }) p o m.last e.last P = subst (λ t. ReadAt t (record { rank = Assignment; has_in = true; start = Any }) p o m.last e.last P) here (subst (λ (x : ExpressionContext). ReadAt m.text x p o m.last e.last P) q_is d) in
    subst (λ x. ItemReads s.text l x o s.last e.last P) (sym is) (element_spread s.text p at starts dots read.part (read.taken refl) l el bare))

-- an expression that is a target is a name or a member
pub simple_part : {s e : CursorState} {old new : List Pair} {q : ExpressionContext} (p : Operand) → q ≡ record { rank = Assignment; has_in = true; start = Any } → Adds s e old new (ReadAt s.text q p) → is_target p.cover.shape.assigned ≡ true → is_simple (kind_of p.cover.node) ≡ true
simple_part {s} {e} {q = q} p q_is a target =
    let read : ReadAt s.text (record { rank = Assignment; has_in = true; start = Any }) p (max_open - s.opened) s.last e.last (grouping a.more) = subst (λ (x : ExpressionContext). ReadAt s.text x p (max_open - s.opened) s.last e.last (grouping a.more)) q_is a.is in
    simple_item s.text read.part (read.taken refl) target refl

pub not_covers : {X : Type 0} (l x : ListKind) → l ≡ x → is_covers x ≡ false → l ≡ listed.ParenthesizedItems → X
not_covers l x is h k = absurd (false≢true (sym h ∙ ap is_covers (sym is ∙ k)))

-- with what was read of the same text
pub of_text : {s e : CursorState} {old new : List Pair} {l x : ListKind} (it : ListItem) → l ≡ x → Adds s e old new (ItemReads s.text x it) → Adds s e old new (ItemReads s.text l it)
of_text {s} {e} {old} {new} it is a = subst (λ y. Adds s e old new (ItemReads s.text y it)) (sym is) a

-- it is no higher than what was read may be
pub element_low : (spreads : Bool) (s e : ℕ) (p : Operand) (it : ListItem) (high : ℕ) → it ≡ element_item spreads s e p → element_levels spreads p.cover.node ≤ high → (spreads ≡ false → height p.cover.node ≤ high) → height it.node ≤ high
element_low true s e p it high is a b = subst (λ (x : ListItem). height x.node ≤ high) (sym is) a
element_low false s e p it high is a b = subst (λ (x : ListItem). height x.node ≤ high) (sym is) (b refl)

-- what the list's kind says of its items: they are elements, with In, and their edge isn't asked for
pub is_an_element : (l x : ListKind) → l ≡ x → (lists_elements x && not (asks_edge x)) ≡ true → (lists_elements l && not (asks_edge l)) ≡ true
is_an_element l x is h = ap (λ y. lists_elements y && not (asks_edge y)) is ∙ h

some_height : (n : Tree) (high : ℕ) → height n ≤ high → 1 ≤ high
some_height (node k w g s e ps) high h = omega arith

pub low_chunk : (text : SourceText) (s e : Token) (l l1 k : ListOf) (p : Operand) (c : ListItem) (high : ℕ) (r : Result (Unit {0}) Fault) → l1 ≡ with_item l (item_from p.cover.node value false Closed) → IfOk r (λ u. k ≡ with_item l1 c) → height p.cover.node ≤ high → ChunkAt text s e c.node c.is_flagged →
    IfOk r (λ u. parts_height l.nodes ≤ high → parts_height k.nodes ≤ high)
low_chunk text s e l l1 k' p c high (Err f) first k h chunk = tt
low_chunk text s e l l1 k' p c high (Ok u) first k h chunk = λ b.
    let one : 1 ≤ high = some_height p.cover.node high h in
    let flat : height c.node ≤ high = subst (λ x. height x ≤ high) (sym chunk.2) one in
    low_item l1 k' c high (Ok u) k flat (low_item l l1 (item_from p.cover.node value false Closed) high (Ok u) first h b)

pub elements_only : (l : ListKind) → (lists_elements l && not (asks_edge l)) ≡ true → (lists_elements l ≡ true) × (asks_edge l ≡ false) × (is_chunked l ≡ false)
elements_only listed.Arguments h = (refl, refl, refl)
elements_only listed.Elements h = (refl, refl, refl)
elements_only listed.ParenthesizedItems h = (refl, refl, refl)
elements_only listed.AsyncArguments h = (refl, refl, refl)
elements_only listed.Parameters h = (refl, refl, refl)
elements_only listed.NoParameter h = (refl, refl, refl)
elements_only listed.OneParameter h = (refl, refl, refl)
elements_only _ h = absurd (false≢true h)

pub with_in : (l : ListKind) → asks_edge l ≡ false → lists_elements l ≡ true → list_in l ≡ true
with_in (listed.Sequence i) h k = absurd (true≢false h)
with_in _ h k = refl

pub never_spreads : {X : Type 0} (s e : ℕ) (p : Operand) (it : ListItem) → it ≡ element_item true s e p → it.spreads ≡ false → X
never_spreads s e p it is h = absurd (false≢true (sym h ∙ ap (λ (x : ListItem). x.spreads) is))

pub default_kind : (l : ListKind) → (l ≡ listed.Properties → ⊥) → (l ≡ listed.Members → ⊥) → (l ≡ listed.Template → ⊥) → ((i : Bool) → l ≡ listed.Sequence i → ⊥) → ((i : Bool) → l ≡ listed.Declarators i → ⊥) → ((r : Bool) → l ≡ listed.Cases r → ⊥) → (lists_elements l && not (asks_edge l)) ≡ true
default_kind listed.Properties a b c d e f = absurd (a refl)
default_kind listed.Members a b c d e f = absurd (b refl)
default_kind listed.Template a b c d e f = absurd (c refl)
default_kind (listed.Sequence i) a b c d e f = absurd (d i refl)
default_kind (listed.Declarators i) a b c d e f = absurd (e i refl)
default_kind (listed.Cases r) a b c d e f = absurd (f r refl)
default_kind _ a b c d e f = refl

pub alone_behind : {s m e : CursorState} {old mid new : List Pair} (l : ListKind) {q : ExpressionContext} (at : ℕ) (p : Operand) (it : ListItem) → q ≡ record { rank = Assignment; has_in = true; start = Any } → lists_elements l ≡ true → asks_edge l ≡ false → it ≡ element_item false at e.last.stop p → m.last ≡ s.last → m.text ≡ s.text → m.opened ≡ s.opened → mid ≡ old →
    Adds m e mid new (ReadAt m.text q p) → Adds s e old new (ItemReads s.text l it)
alone_behind {s} {m} {e} l {q = q} at p it q_is el bare is still here open_same same a = adds_behind open_same same a (λ o P d.
    let there : ReadAt s.text (record { rank = Assignment; has_in = true; start = Any }) p o m.last e.last P = subst (λ t. ReadAt t (record { rank = Assignment; has_in = true; start = Any }) p o m.last e.last P) here (subst (λ (x : ExpressionContext). ReadAt m.text x p o m.last e.last P) q_is d) in
    let read : ReadAt s.text (record { rank = Assignment; has_in = true; start = Any }) p o s.last e.last P = subst (λ t. ReadAt s.text (record { rank = Assignment; has_in = true; start = Any }) p o t e.last P) still there in
    let part : PartAt s.text (list_in l) Any p o s.last e.last P = subst (λ c. PartAt s.text c Any p o s.last e.last P) (sym (with_in l bare el)) read.part in
    subst (λ x. ItemReads s.text l x o s.last e.last P) (sym is) (element_alone s.text p l at el part (read.taken refl)))
