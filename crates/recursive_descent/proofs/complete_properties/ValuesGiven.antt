-- What is given behind the key of a property that is no method: a value, nothing, or in a pattern a default (ECMA-262 12.2.6, 12.15.5, 13.3.3).
use Rattle.std.proofs.Common.{◌≡◌, inl, inr, ℕ, suc, ◌-◌, ◌≤◌, ◌<◌, Bool, true, false, cond, List, Result, Ok, Err, refl, sym, ap, ◌∙◌, subst, arith}
use Rattle.std.specs.Prelude.{Some, None, IsTrue, codes, ◌&&◌}
use Rattle.std.specs.Result.{IsErrAnd}
use Rattle.std.proofs.lemmas.Bool.{false≢true}
use Rattle.source_text.specs.declared.fault.Fault.{Fault}
use Rattle.source_text.specs.declared.fault.Fault.TheVariants.{TooDeep}
use Rattle.tokens.specs.Goals.{allows}
use Rattle.tokens.specs.Scanned.{token_of}
use Rattle.tokens.specs.declared.token.Token.{Token as Scanned}
use Rattle.tokens.specs.declared.token.TokenClass.TheVariants.{IdentifierName, Punctuator}
use Rattle.tokens.specs.declared.token.Goal.TheVariants.{Div}
use Rattle.token_cursor.specs.CursorState.{CursorState}
use Rattle.tree.specs.declared.kind.Flags.{Flags}
use Rattle.tree.specs.declared.kind.Kind.{Kind}
use Rattle.tree.specs.declared.kind.Pair.{Pair}
use Rattle.tree.specs.Tree.{Tree, node, part, none, height}
use Rattle.language.specs.declared.Rank.TheVariants.{Assignment}
use Rattle.language.specs.declared.Start.TheVariants.{Any}
use Rattle.language.specs.Vocabulary.{is}
use Rattle.language.specs.Pieces.{Role, expr}
use Rattle.language.specs.Promises.{ReadBy}
use Rattle.language.specs.Continuations.{of_class, rank_made_by}
use Rattle.language.specs.Token.{Token, as_read, same_class}
use Rattle.language.specs.Covers.{Reading, as_expression, as_pattern}
use Rattle.language.specs.Derivation.{Reads}
use Rattle.language.specs.Claims.{max_open}
use Rattle.language.proofs.list_loops.CommaLists.{Separated, by_comma, by_closing}
use Rattle.language.proofs.covers.CoverEnds.{a_brace, item_stops}
use Rattle.language.proofs.climbing.NamesBehind.{apart_sign}
use Rattle.language.proofs.table.Begins.{div_allows}
use Rattle.token_cursor.proofs.SeenTokens.{seen_determined}
use Rattle.covers.specs.declared.list.ListItem.{ListItem}
use Rattle.covers.specs.declared.list.ListKind.TheVariants as listed
use Rattle.covers.specs.Shapes as shapes
use Rattle.productions.specs.Made.{Makes}
use Rattle.parser_tables.specs.declared.operand.Operand.{Operand}
use Rattle.parser_tables.specs.declared.expression_context.ExpressionContext.{ExpressionContext}
use Rattle.recursive_descent.specs.declared.properties.PropertyName.{PropertyName}
use Rattle.recursive_descent.specs.Complete.{ExpressionComplete, ValueComplete}
use Rattle.recursive_descent.specs.Soundness.{fits_as}
use Rattle.recursive_descent.specs.SoundnessOfLists.{item_fits, fits_rest}
use Rattle.recursive_descent.specs.Completeness.{Room, Over, is_over, GivenAs, an_expression, an_element}
use Rattle.recursive_descent.specs.CompletenessOfLists.{CommaOr}
use Rattle.recursive_descent.specs.CompletenessOfProperties.{TokenIs, value_as, ValueGiven, a_value, a_name, a_default}
use Rattle.parser_tables.specs.Outcomes.{BecomesHere}
use Rattle.token_cursor.specs.Seen.{ReadsHere, Misses, is_free_name}
use Rattle.recursive_descent.proofs.reading.FreeRanks.{no_conditional, no_new}
use Rattle.recursive_descent.proofs.complete_expressions.Agreement.{agrees_on, agrees_err, refuses_unfit, refuses_high, refuses_made, not_missed, marks_same}
use Rattle.recursive_descent.proofs.complete_properties.NamesGiven.{element_position}
use Rattle.token_cursor.proofs.TokensAhead.{mark_by}
use Rattle.token_cursor.specs.SourceText.{SourceText, SeenNext, behind_in}
use Rattle.recursive_descent.specs.Spelled.{SpellsIn, OfLanguage}

unlike : {v w : List ℕ} {A : Type 0} (s : List ℕ → Bool) → s v ≡ true → s w ≡ false → v ≡ w → A
unlike s h k e = absurd (false≢true (sym k ∙ ap s (sym e) ∙ h))

some_same : {a b : Role} → Some a ≡ Some b → a ≡ b
some_same e = cc

module _ (text : SourceText) where
  pub separated_there : {w : List ℕ} {e : Token} → CommaOr text w e → Separated Token (SeenNext text) (behind_in text) (seen_determined text) w e
  separated_there (inl r) = by_comma r.1
  separated_there (inr r) = by_closing r.1

  -- nothing but a comma goes on there
  same_token : {w : List ℕ} {e t k u m : Token} → Reads Token (SeenNext text) (behind_in text) Punctuator w e t k → ReadBy Token (SeenNext text) (behind_in text) Div e u m → u ≡ t
  same_token {e = e} {t} {k} {u} {m} r b = let a = mark_by text r in ((seen_determined text).same Div e u t m k b.next a.next b.allowed a.allowed).0

  over_sign : {w : List ℕ} {e t k : Token} → is_over (rank_made_by (of_class Punctuator w) true) ≡ true → is_over (rank_made_by (of_class Punctuator w) false) ≡ true → IsTrue (allows Div Punctuator w) → Reads Token (SeenNext text) (behind_in text) Punctuator w e t k → Over text e
  over_sign {w} {e} {t} {k} h l al r = record { before = λ u m b. let same = same_token r b in ap (λ (z : Token). is_over (rank_made_by (of_class z.class z.text) z.after_break)) same ∙ (λ i. is_over (rank_made_by (of_class (r.class i) (r.text i)) t.after_break)) ∙ of t.after_break; apart = apart_sign Token (SeenNext text) (behind_in text) (seen_determined text) r al }
    where
      of : (b : Bool) → is_over (rank_made_by (of_class Punctuator w) b) ≡ true
      of true = h
      of false = l

  pub over_there : {e : Token} → CommaOr text (codes "}") e → Over text e
  over_there (inl r) = over_sign refl refl (div_allows false (codes ",")) r.1
  over_there (inr r) = over_sign refl refl (div_allows false (codes "}")) r.1

  -- another sign isn't read where a property ends
  pub apart_there : {A : Type 0} {w : List ℕ} {s t e : Token} → is w "," ≡ false → is w "}" ≡ false → Reads Token (SeenNext text) (behind_in text) Punctuator w s t e → CommaOr text (codes "}") s → A
  apart_there h k r (inl q) = unlike (λ x. is x ",") refl h (sym q.1.text ∙ ap (λ (z : Token). z.text) (marks_same text q.1 r).0 ∙ r.text)
  apart_there h k r (inr q) = unlike (λ x. is x "}") refl k (sym q.1.text ∙ ap (λ (z : Token). z.text) (marks_same text q.1 r).0 ∙ r.text)

  two_signs : {A : Type 0} {v w : List ℕ} {s t e u k : Token} (x : List ℕ → Bool) → x v ≡ true → x w ≡ false → Reads Token (SeenNext text) (behind_in text) Punctuator v s t e → Reads Token (SeenNext text) (behind_in text) Punctuator w s u k → A
  two_signs x h k a b = unlike x h k (sym a.text ∙ ap (λ (z : Token). z.text) (marks_same text a b).0 ∙ b.text)

  -- the value at the position of an element
  pub element_given : (a : Reading) {q : ExpressionContext} {r : Role} {o : ℕ} {n : Tree} {s e : Token} {P : List Pair} → q ≡ element_position → value_as a n ≡ Some r → SpellsIn text o r n s e P → CommaOr text (codes "}") e → GivenAs text q o n s e P a
  element_given as_expression {q} {r} {o} {n} {s} {e} {P} q_is it d ends =
      subst (λ z. GivenAs text z o n s e P as_expression) (sym q_is)
      (an_expression (no_conditional refl) (no_new refl) (subst (λ z. SpellsIn text o z n s e P) (sym (some_same it)) d) (item_stops Token (SeenNext text) (behind_in text) (seen_determined text) a_brace Assignment n e refl (separated_there ends)))
  element_given (as_pattern b) q_is it d ends = an_element q_is it d (over_there ends)

-- a name fits each reading, a name with a default each pattern
name_fits : (a : Reading) → fits_as shapes.name a ≡ true
name_fits as_expression = refl
name_fits (as_pattern true) = refl
name_fits (as_pattern false) = refl

default_fits : (a : Reading) (b : Bool) → a ≡ as_pattern b → fits_as (shapes.initialized (shapes.defaulted shapes.name)) a ≡ true
default_fits as_expression b h = cc
default_fits (as_pattern true) b h = refl
default_fits (as_pattern false) b h = refl

-- it is as high as there is room for
pub fits_in : (v w : Tree) {k : Kind} {x : List ℕ} {g : Flags} {s e high inner : ℕ} (t : Tree) → t ≡ node k x g s e (part v (part w none)) → inner ≡ high - 1 → 1 ≤ high → height v ≤ inner → height w ≤ inner → height t ≤ high
fits_in v w {k} {x} {g} {s} {e} t is inner_is some a b = let tall : height t ≡ height (node k x g s e (part v (part w none))) = ap height is in omega arith

module _ (s e : CursorState) (old new : List Pair) (high : ℕ) (key : PropertyName) where
  abbrev Whole : Result ListItem Fault → Type 0
  Whole = ValueComplete s e old new high key

  abbrev Same : Reading → Token → ListItem → Type 0
  Same a to = λ item. (item_fits listed.Properties item a ≡ true) × (item.spreads ≡ false) × (e.last ≡ to)

  some_room : {a : Reading} {o levels : ℕ} {to : Token} → ValueGiven s.text key.computed a o levels s.last to → 1 ≤ levels
  some_room (a_value r low it d own ends) = omega arith
  some_room (a_name c n f low p ends) = omega arith
  some_room (a_default i c n f low r l d own ends) = omega arith

  -- the property is no higher than its parts let it be
  pub value_made : (v tree : Tree) {k : Kind} {x : List ℕ} {g : Flags} {st en inner : ℕ} (answer : Result ListItem Fault) (fault : Fault) → IsErrAnd answer (λ z. z ≡ fault) → inner ≡ high - 1 → tree ≡ node k x g st en (part key.node (part v none)) → height v ≤ inner → Makes tree high (Err fault) → Whole answer
  value_made v tree answer fault err inner_is is low makes = λ a o levels to key_low token d.
      let some = some_room d in
      agrees_err (Room s o levels high) (Same a to) answer fault err (refuses_made (Room s o levels high) tree high fault makes (λ room. (let within : levels ≤ high = room.1 in fits_in key.node v tree is inner_is (omega arith) (omega arith) low)))

  -- `:` was read
  module _ (x : CursorState) (colon : ReadsHere s.text Punctuator (codes ":") s.last x.last) where
    record Valued (a : Reading) (o levels : ℕ) (to : Token) : Type 0 where
      role : Role
      value : Tree
      more : List Pair
      low : suc (height value) ≤ levels
      it_is : value_as a value ≡ Some role
      spelled : SpellsIn s.text o role value x.last to more
      own : OfLanguage s.text value
      ends : CommaOr s.text (codes "}") to

    valued : {a : Reading} {o levels : ℕ} {to : Token} → ValueGiven s.text key.computed a o levels s.last to → Valued a o levels to
    valued {o = o} {to = to} (a_value {r = r} {n = n} {P = P} h low it d own ends) = record { own = own; role = r; value = n; more = P; low = low; it_is = it; spelled = subst (λ z. SpellsIn s.text o r n z to P) (marks_same s.text h colon).1 d; ends = ends }
    valued (a_name c n f low p ends) = apart_there s.text refl refl colon (subst (λ z. CommaOr s.text (codes "}") z) p ends)
    valued (a_default i c n f low r l d own ends) = two_signs s.text (λ z. is z "=") refl refl r colon

    module _ (y : CursorState) (next last : List Pair) {q : ExpressionContext} (q_is : q ≡ element_position) (there : x.text ≡ s.text) where
      given_value : {a : Reading} {o levels : ℕ} {to : Token} (v : Valued a o levels to) → GivenAs x.text q o v.value x.last to v.more a
      given_value {a} {o} {to = to} v = subst (λ z. GivenAs z q o v.value x.last to v.more a) (sym there) (element_given s.text a q_is v.it_is v.spelled v.ends)

      pub value_refused : {inner : ℕ} (answer : Result ListItem Fault) (fault : Fault) → IsErrAnd answer (λ z. z ≡ fault) → inner ≡ high - 1 → x.opened ≡ s.opened → ExpressionComplete x y next last inner q (Err fault) → Whole answer
      value_refused {inner} answer fault err inner_is opened complete = λ a o levels to key_low token d.
          let v = valued d in
          let low = v.low in
          agrees_on (Room x o (height v.value) inner) (Room s o levels high) (Same a to) answer fault err (complete a o v.value to v.more (given_value v) (subst (λ z. OfLanguage z v.value) (sym there) v.own))
          (λ room. (subst (λ z. o ≤ max_open - z) (sym opened) room.0, (let within : levels ≤ high = room.1 in omega arith)))

      pub value_answered : (inner : ℕ) (r : Operand) (it : ListItem) → ExpressionComplete x y next last inner q (Ok r) → e.last ≡ y.last → it.shape ≡ r.cover.shape → it.spreads ≡ false → Whole (Ok it)
      value_answered inner r it read stays shape_is spreads_is = λ a o levels to key_low token d.
          let v = valued d in
          let w = read a o v.value to v.more (given_value v) (subst (λ z. OfLanguage z v.value) (sym there) v.own) in
          ((λ i. cond (spreads_is i) (fits_rest listed.Properties it.shape a) (fits_as (shape_is i) a)) ∙ w.0.fits, spreads_is, stays ∙ w.1.place)

  -- no `:` was read
  module _ (missed : Misses s.text Punctuator (codes ":") s.last) where
    record Named (a : Reading) (o levels : ℕ) (to : Token) : Type 0 where
      token_class : (behind_in s.text s.last).class ≡ IdentifierName
      free : is_free_name s.last.text ≡ true
      low : 2 ≤ levels
      not_computed : key.computed ≡ false

    named : {a : Reading} {o levels : ℕ} {to : Token} → ValueGiven s.text key.computed a o levels s.last to → Named a o levels to
    named (a_value h low it d own ends) = absurd (not_missed missed h)
    named (a_name c n f low p ends) = record { token_class = n; free = f; low = low; not_computed = c }
    named (a_default i c n f low r l d own ends) = record { token_class = n; free = f; low = omega arith; not_computed = c }

    -- a key that is no token
    pub value_no_token : (answer : Result ListItem Fault) → key.token ≡ None → Whole answer
    value_no_token answer is = λ a o levels to key_low token d. absurd (subst (λ z. TokenIs s.text z s.last) is (token (named d).not_computed))

    -- a token that is no name, or a reserved one
    pub value_no_name : (answer : Result ListItem Fault) (t : Scanned) (b : Bool) → key.token ≡ Some t → b ≡ (same_class IdentifierName t.class && is_free_name t.text.now) → b ≡ false → Whole answer
    value_no_name answer t b is tells unfit = λ a o levels to key_low token d.
        let v = named d in
        let shown : behind_in s.text s.last ≡ as_read (token_of t) = (subst (λ z. TokenIs s.text z s.last) is (token v.not_computed)).1 in
        let class : t.class ≡ IdentifierName = sym (ap (λ (z : Token). z.class) shown) ∙ v.token_class in
        let word : s.last.text ≡ t.text.now = ap (λ (z : Token). z.text) shown ∙ (λ i. Rattle.language.specs.Token.table_text (class i) t.text.now) in
        absurd (false≢true (sym unfit ∙ tells ∙ (λ i. same_class IdentifierName (class i) && is_free_name t.text.now) ∙ ap is_free_name (sym word) ∙ v.free))

    pub value_single : {inner : ℕ} (answer : Result ListItem Fault) (fault : Fault) → IsErrAnd answer (λ z. z ≡ fault) → inner ≡ high - 1 → fault ≡ TooDeep → inner < 1 → Whole answer
    value_single {inner} answer fault err inner_is is above = λ a o levels to key_low token d.
        let low = (named d).low in
        agrees_err (Room s o levels high) (Same a to) answer fault err (refuses_high (Room s o levels high) 1 inner fault is above (λ room. (let within : levels ≤ high = room.1 in omega arith)))

    -- nothing is read behind the name
    pub value_lone : (it : ListItem) → Misses s.text Punctuator (codes "=") s.last → e.last ≡ s.last → it.shape ≡ shapes.name → it.spreads ≡ false → Whole (Ok it)
    value_lone it quiet stays shape_is spreads_is = λ a o levels to key_low token d.
        ((λ i. cond (spreads_is i) (fits_rest listed.Properties it.shape a) (fits_as (shape_is i) a)) ∙ name_fits a, spreads_is, of d)
      where
        of : {a : Reading} {o levels : ℕ} {to : Token} → ValueGiven s.text key.computed a o levels s.last to → e.last ≡ to
        of (a_value h low it d own ends) = absurd (not_missed missed h)
        of (a_name c n f low p ends) = stays ∙ sym p
        of (a_default i c n f low r l d own ends) = absurd (not_missed quiet r)

    -- `=` is read behind it
    module _ (x : CursorState) (equals : ReadsHere s.text Punctuator (codes "=") s.last x.last) where
      record Default (a : Reading) (o levels : ℕ) (to : Token) : Type 0 where
        binds : Bool
        reading : a ≡ as_pattern binds
        value : Tree
        more : List Pair
        high_enough : 3 ≤ levels
        low : suc (suc (height value)) ≤ levels
        spelled : SpellsIn s.text o (expr Assignment true Any) value x.last to more
        own : OfLanguage s.text value
        ends : CommaOr s.text (codes "}") to

      default : {a : Reading} {o levels : ℕ} {to : Token} → ValueGiven s.text key.computed a o levels s.last to → Default a o levels to
      default (a_value h low it d own ends) = absurd (not_missed missed h)
      default (a_name c n f low p ends) = apart_there s.text refl refl equals (subst (λ z. CommaOr s.text (codes "}") z) p ends)
      default {o = o} {to = to} (a_default {b = b} {n = n} {P = P} i c m f low r l d own ends) =
          record { own = own; binds = b; reading = i; value = n; more = P; high_enough = low; low = l; spelled = subst (λ z. SpellsIn s.text o (expr Assignment true Any) n z to P) (marks_same s.text r equals).1 d; ends = ends }

      -- the assignment is no higher than its parts let it be
      pub value_default_made : (left right tree : Tree) {k : Kind} {w : List ℕ} {g : Flags} {st en inner : ℕ} (answer : Result ListItem Fault) (fault : Fault) → IsErrAnd answer (λ z. z ≡ fault) → inner ≡ high - 1 → tree ≡ node k w g st en (part left (part right none)) → height left ≡ 1 → height right ≤ inner - 1 → Makes tree inner (Err fault) → Whole answer
      value_default_made left right tree {k} {w} {g} {st} {en} {inner} answer fault err inner_is is one low makes = λ a o levels to key_low token d.
          let some = (default d).high_enough in
          let tall : height tree ≡ height (node k w g st en (part left (part right none))) = ap height is in
          agrees_err (Room s o levels high) (Same a to) answer fault err (refuses_made (Room s o levels high) tree inner fault makes (λ room. (let within : levels ≤ high = room.1 in omega arith)))

      module _ (y : CursorState) (next last : List Pair) {q : ExpressionContext} (q_is : q ≡ element_position) (there : x.text ≡ s.text) where
        given_default : {a : Reading} {o levels : ℕ} {to : Token} (v : Default a o levels to) → GivenAs x.text q o v.value x.last to v.more as_expression
        given_default {a} {o} {to = to} v = subst (λ z. GivenAs z q o v.value x.last to v.more as_expression) (sym there) (element_given s.text as_expression q_is refl v.spelled v.ends)

        pub value_right : {inner less : ℕ} (answer : Result ListItem Fault) (fault : Fault) → IsErrAnd answer (λ z. z ≡ fault) → inner ≡ high - 1 → less ≡ inner - 1 → x.opened ≡ s.opened → ExpressionComplete x y next last less q (Err fault) → Whole answer
        value_right {inner} {less} answer fault err inner_is less_is opened complete = λ a o levels to key_low token d.
            let v = default d in
            let low = v.low in
            agrees_on (Room x o (height v.value) less) (Room s o levels high) (Same a to) answer fault err (complete as_expression o v.value to v.more (given_default v) (subst (λ z. OfLanguage z v.value) (sym there) v.own))
            (λ room. (subst (λ z. o ≤ max_open - z) (sym opened) room.0, (let within : levels ≤ high = room.1 in omega arith)))

        module _ (less : ℕ) (r : Operand) (read : ExpressionComplete x y next last less q (Ok r)) where
          pub value_settled : (p : CursorState) (answer : Result ListItem Fault) (fault : Fault) → IsErrAnd answer (λ z. z ≡ fault) → BecomesHere r.cover.node r.cover.shape.is_expression p (Err fault) → Whole answer
          value_settled p answer fault err becomes = λ a o levels to key_low token d.
              let v = default d in
              agrees_err (Room s o levels high) (Same a to) answer fault err (refuses_unfit (Room s o levels high) r.cover.node r.cover.shape.is_expression p fault becomes (read as_expression o v.value to v.more (given_default v) (subst (λ z. OfLanguage z v.value) (sym there) v.own)).0.fits)

          pub value_default : (it : ListItem) → e.last ≡ y.last → it.shape ≡ shapes.initialized (shapes.defaulted shapes.name) → it.spreads ≡ false → Whole (Ok it)
          value_default it stays shape_is spreads_is = λ a o levels to key_low token d.
              let v = default d in
              ((λ i. cond (spreads_is i) (fits_rest listed.Properties it.shape a) (fits_as (shape_is i) a)) ∙ default_fits a v.binds v.reading, spreads_is, stays ∙ (read as_expression o v.value to v.more (given_default v) (subst (λ z. OfLanguage z v.value) (sym there) v.own)).1.place)
