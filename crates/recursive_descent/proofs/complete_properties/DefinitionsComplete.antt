-- A given property or member is answered, path by path (ECMA-262 12.2.6, 12.15.5, 14.3, 14.6).
use Rattle.std.proofs.Common.{◌≡◌, ◌⊎◌, inl, inr, ℕ, suc, ◌-◌, ◌≤◌, Bool, true, false, cond, List, [], Result, Ok, Err, refl, sym, ap, ◌∙◌, subst, arith}
use Rattle.std.specs.Prelude.{IfOk, Some, None, codes, not, ◌&&◌, if◌then◌else◌}
use Rattle.std.specs.Bool.{OnTrue, OnFalse}
use Rattle.std.specs.Result.{IsErrAnd}
use Rattle.std.proofs.lemmas.Bool.{false≢true, and_parts, true≢false}
use Rattle.source_text.specs.declared.fault.Fault.{Fault}
use Rattle.source_text.specs.declared.fault.Fault.TheVariants.{Syntax, TooDeep, OutOfMemory}
use Rattle.tokens.specs.declared.token.TokenClass.TheVariants.{Punctuator}
use Rattle.token_cursor.specs.CursorState.{CursorState}
use Rattle.tree.specs.declared.kind.Flags.{Flags}
use Rattle.tree.specs.declared.kind.Kind.{Kind}
use Rattle.tree.specs.declared.kind.Form.{Form}
use Rattle.tree.specs.declared.kind.Form.TheVariants.{Method}
use Rattle.tree.specs.declared.kind.Pair.{Pair}
use Rattle.tree.specs.Tree.{Tree, node, part, none, kind_of, height, parts_height}
use Rattle.language.specs.Vocabulary.{is_target as is_simple, is_rest}
use Rattle.language.specs.Pieces.{Role}
use Rattle.language.specs.Token.{Token}
use Rattle.language.specs.Covers.{Reading, as_expression, as_pattern}
use Rattle.language.specs.Claims.{max_open}
use Rattle.covers.specs.declared.list.ListItem.{ListItem}
use Rattle.covers.specs.declared.list.ListKind.TheVariants as listed
use Rattle.covers.specs.declared.shape.CoverShape.{CoverShape}
use Rattle.covers.specs.declared.shape.TargetForm.TheVariants as assigned
use Rattle.tree.specs.Patterns.{pattern_tree}
use Rattle.covers.specs.Shapes as shapes
use Rattle.productions.proofs.PatternSummaries.{same_height}
use Rattle.productions.specs.Made.{Makes}
use Rattle.parser_tables.specs.declared.functions_and_classes.FunctionOrClass.TheVariants as closure
use Rattle.parser_tables.specs.declared.operand.Operand.{Operand}
use Rattle.parser_tables.specs.declared.expression_context.ExpressionContext.{ExpressionContext}
use Rattle.recursive_descent.specs.declared.properties.PropertyName.{PropertyName}
use Rattle.recursive_descent.specs.declared.properties.Modifiers.{Modifiers}
use Rattle.recursive_descent.specs.Complete.{ExpressionComplete, NameComplete, ValueComplete, PropertyOrMemberComplete, FunctionOrClassComplete}
use Rattle.recursive_descent.specs.Soundness.{Adds, grouping, fits_as, read_as}
use Rattle.recursive_descent.specs.SoundnessOfLists.{ItemReads, defined, has_reading, item_role, item_fits, fits_rest, may_trail}
use Rattle.recursive_descent.specs.Completeness.{Agrees, Room, EndsWith, GivenAs}
use Rattle.recursive_descent.specs.CompletenessOfLists.{DefinitionEnds}
use Rattle.recursive_descent.specs.CompletenessOfProperties.{NamedAt, NameGiven, TokenIs, ValueGiven}
use Rattle.parser_tables.specs.Items.{element_levels}
use Rattle.parser_tables.specs.Outcomes.{RefusedAbove}
use Rattle.token_cursor.specs.Seen.{ReadsHere, Sees, Misses}
use Rattle.recursive_descent.proofs.complete_expressions.Agreement.{agrees_on, agrees_err, refuses_above, refuses_made, not_missed}
use Rattle.recursive_descent.proofs.complete_properties.DefinitionsGiven.{FunctionGiven, FieldGiven, BehindGiven, a_function, no_method, a_field, DefinitionGiven, dotted, keyed, a_block, definition_given, definition_same}
use Rattle.recursive_descent.proofs.complete_properties.FieldsGiven.{word_told}
use Rattle.recursive_descent.proofs.sound_properties.FieldKeys.{field_moved}
use Rattle.recursive_descent.proofs.complete_properties.NamesGiven.{element_position}
use Rattle.recursive_descent.proofs.complete_properties.ValuesGiven.{element_given, fits_in}
use Rattle.recursive_descent.specs.Spelled.{SpellsIn, OfLanguage, AllOfLanguage}
use Rattle.recursive_descent.specs.Later.{FieldComplete, BeginsStaticBlock, field_word, field_pieces}
use Rattle.language.specs.Languages.{is_of_2022}
use Rattle.language.specs.Edges.{key_goes_on}
use Rattle.language.specs.Statements.{key_word}
use Rattle.recursive_descent.specs.Soundness.{RunsIn, anywhere}

-- an answer that is handed on
agrees_map : {X : Type 0} {Inner W : Type 0} {SameInner Same : X → Type 0} {D : X → Type 0} (r : Result X Fault) → IfOk r D → Agrees Inner SameInner r → (W → Inner) → ((x : X) → D x → SameInner x → Same x) → Agrees W Same r
agrees_map (Ok x) d h g f = f x d h
agrees_map (Err TooDeep) d h g f = λ w. h (g w)
agrees_map (Err OutOfMemory) d h g f = tt
agrees_map (Err (Syntax at)) d h g f = absurd h
agrees_map (Err _) d h g f = absurd h

-- a test that was true, or false
pub when_true : {X : Type 0} (b : Bool) → b ≡ true → OnTrue b X → X
when_true true h x = x
when_true false h x = absurd (false≢true h)

pub when_false : {X : Type 0} (b : Bool) → b ≡ false → OnFalse b X → X
when_false false h x = x
when_false true h x = absurd (true≢false h)

pub not_true : (b : Bool) → not b ≡ true → b ≡ false
not_true false h = refl
not_true true h = absurd (false≢true h)

pub not_untrue : (b : Bool) → not b ≡ false → b ≡ true
not_untrue true h = refl
not_untrue false h = absurd (true≢false h)

-- two facts of one answer
both_ok : {X : Type 0} (A B : X → Type 0) (r : Result X Fault) → IfOk r A → IfOk r B → IfOk r (λ x. A x × B x)
both_ok A B (Ok x) a b = (a, b)
both_ok A B (Err fault) a b = tt

-- what stands behind `...` among properties fits as it did alone
rest_fits : (a : Reading) (s : CoverShape) → fits_as s a ≡ true → ((b : Bool) → a ≡ as_pattern b → shapes.is_target s.assigned ≡ true) → fits_rest listed.Properties (shapes.simple s) a ≡ true
rest_fits as_expression s h k = h
rest_fits (as_pattern false) s h k = ap (λ x. shapes.is_pattern (if x then assigned.Target else assigned.Nothing)) (k false refl)
rest_fits (as_pattern true) s h k =
    let u = and_parts s.binds (shapes.is_element s.assigned) h in
    (λ i. u.0 i && shapes.is_pattern (if k true refl i then assigned.Target else assigned.Nothing))

read_height : (a : Reading) (n : Tree) → height (read_as a n) ≡ height n
read_height as_expression n = refl
read_height (as_pattern b) n = same_height n

module _ (s e : CursorState) (old new : List Pair) (high : ℕ) (in_class : Bool) where
  abbrev Whole : Result ListItem Fault → Type 0
  Whole = PropertyOrMemberComplete s e old new high in_class

  abbrev Same : Reading → Tree → Token → List Pair → ListItem → Type 0
  Same a n to P = λ item. (item_fits (defined in_class) item a ≡ true) × (read_as a item.node ≡ n) × (is_rest (kind_of n) ≡ false → may_trail item a ≡ true) × EndsWith s e old new to P

  abbrev Given : Reading → ℕ → ℕ → Token → Type 0
  Given a o levels to = DefinitionGiven s.text in_class a o levels s.last to

  -- what was read fits, and ends where the given one does: so it is that
  pub answered : (a : Reading) {r : Role} {o : ℕ} (n : Tree) {to : Token} {P : List Pair} → has_reading (defined in_class) a ≡ true → item_role (defined in_class) a (kind_of n) ≡ Some r → SpellsIn s.text o r n s.last to P → DefinitionEnds s.text in_class to →
      (it : ListItem) → Adds s e old new (ItemReads s.text (defined in_class) it) → item_fits (defined in_class) it a ≡ true → (is_rest (kind_of n) ≡ false → may_trail it a ≡ true) → e.last ≡ to → Same a n to P it
  answered a n has it d ends item adds fits trail place =
      let same = definition_same s.text in_class a n has it d ends item (subst (λ z. ItemReads s.text (defined in_class) item (max_open - s.opened) s.last z (grouping adds.more)) place adds.is) fits in
      (fits, same.0, trail, record { place = place; more = adds.more; added = adds.pairs; pairs = same.1 })

  -- `...` was read
  module _ (x : CursorState) (not_class : in_class ≡ false) (dots : ReadsHere s.text Punctuator (codes "...") s.last x.last) (y : CursorState) (next last : List Pair) {q : ExpressionContext} (q_is : q ≡ element_position) (there : x.text ≡ s.text) where
    record Dots (a : Reading) (o levels : ℕ) (to : Token) : Type 0 where
      value : Tree
      more : List Pair
      low : suc (height value) ≤ levels
      given : GivenAs x.text q o value x.last to more a
      own : OfLanguage x.text value
      target : (b : Bool) → a ≡ as_pattern b → is_simple (kind_of value) ≡ true

    dots_given : {a : Reading} {o levels : ℕ} {to : Token} → Given a o levels to → Dots a o levels to
    dots_given {a} {o} {to = to} (dotted {r} {n} {m} {P} c h low it d own t ends) =
        let place = (Rattle.recursive_descent.proofs.complete_expressions.Agreement.marks_same s.text h dots).1 in
        record { value = n; more = P; low = low; own = subst (λ z. OfLanguage z n) (sym there) own; given = subst (λ z. GivenAs z q o n x.last to P a) (sym there) (element_given s.text a q_is it (subst (λ z. SpellsIn s.text o r n z to P) place d) ends); target = t }
    dots_given (keyed quiet low own name behind) = absurd (not_missed quiet dots)
    dots_given (a_block k l r v) = absurd (false≢true (sym not_class ∙ k))

    pub definition_argument : {inner : ℕ} (answer : Result ListItem Fault) (fault : Fault) → IsErrAnd answer (λ z. z ≡ fault) → inner ≡ high - 1 → x.opened ≡ s.opened → ExpressionComplete x y next last inner q (Err fault) → Whole answer
    definition_argument {inner} answer fault err inner_is opened complete = λ a o r n to P has it d ends own.
        let v = dots_given (definition_given s.text in_class a n has it d ends own) in
        let low = v.low in
        agrees_on (Room x o (height v.value) inner) (Room s o (height n) high) (Same a n to P) answer fault err (complete a o v.value to v.more v.given v.own)
        (λ room. (subst (λ z. o ≤ max_open - z) (sym opened) room.0, (let within : height n ≤ high = room.1 in omega arith)))

    module _ (inner : ℕ) (part1 : Operand) (read : ExpressionComplete x y next last inner q (Ok part1)) where
      pub definition_element : (answer : Result ListItem Fault) (fault : Fault) → IsErrAnd answer (λ z. z ≡ fault) → RefusedAbove (element_levels true part1.cover.node) high fault → Whole answer
      definition_element answer fault err above = λ a o r n to P has it d ends own.
          let v = dots_given (definition_given s.text in_class a n has it d ends own) in
          let low = v.low in
          let same : height part1.cover.node ≡ height v.value = sym (read_height a part1.cover.node) ∙ ap height (read a o v.value to v.more v.given v.own).0.tree in
          agrees_err (Room s o (height n) high) (Same a n to P) answer fault err
          (refuses_above (Room s o (height n) high) (element_levels true part1.cover.node) high fault above (λ room. (let within : height n ≤ high = room.1 in omega arith)))

      pub definition_spread : (item : ListItem) → Adds s e old new (ItemReads s.text (defined in_class) item) → item.shape ≡ shapes.simple part1.cover.shape → item.spreads ≡ true → e.last ≡ y.last → ((a : Reading) → is_rest (kind_of (read_as a item.node)) ≡ false → may_trail item a ≡ true) → Whole (Ok item)
      definition_spread item adds shape_is spreads_is stays trail = λ a o r n to P has it d ends own.
          let v = dots_given (definition_given s.text in_class a n has it d ends own) in
          let w = read a o v.value to v.more v.given v.own in
          let fits : item_fits (defined in_class) item a ≡ true = fits_there in_class not_class a (λ b h. w.0.target (v.target b h)) w.0.fits in
          let place = stays ∙ w.1.place in
          let same = definition_same s.text in_class a n has it d ends item (subst (λ z. ItemReads s.text (defined in_class) item (max_open - s.opened) s.last z (grouping adds.more)) place adds.is) fits in
          answered a n has it d ends item adds fits (λ h. trail a (ap (λ z. is_rest (kind_of z)) same.0 ∙ h)) place
        where
          fits_there : (c : Bool) → c ≡ false → (a : Reading) → ((b : Bool) → a ≡ as_pattern b → shapes.is_target part1.cover.shape.assigned ≡ true) → fits_as part1.cover.shape a ≡ true → item_fits (defined c) item a ≡ true
          fits_there true h a t f = cc
          fits_there false h a t f = (λ i. cond (spreads_is i) (fits_rest listed.Properties (shape_is i) a) (fits_as (shape_is i) a)) ∙ rest_fits a part1.cover.shape f t

  -- no `...` was read
  module _ (h : CursorState) (h_text : h.text ≡ s.text) (h_opened : h.opened ≡ s.opened) (h_last : h.last ≡ s.last) (no_dots : (in_class ≡ true) ⊎ Misses s.text Punctuator (codes "...") s.last) (no_block : in_class ≡ true → BeginsStaticBlock s.text s.last → ⊥) where
    record Keyed (a : Reading) (o levels : ℕ) (to : Token) : Type 0 where
      is_static : Bool
      computed : Bool
      form : Form
      name : Tree
      mid : Token
      one : List Pair
      low : suc (height name) ≤ levels
      given : NameGiven h.text in_class is_static form computed o name h.last mid one
      own : OfLanguage h.text name
      behind : BehindGiven s.text in_class is_static computed name a o levels mid to form

    keyed_given : {a : Reading} {o levels : ℕ} {to : Token} → Given a o levels to → Keyed a o levels to
    keyed_given (dotted c d low it v own t ends) = of no_dots
      where
        of : {X : Type 0} → (in_class ≡ true) ⊎ Misses s.text Punctuator (codes "...") s.last → X
        of (inl k) = absurd (false≢true (sym c ∙ k))
        of (inr k) = absurd (not_missed k d)
    keyed_given (a_block k l r v) = absurd (no_block k (l, (v.word, v.reads, (v.mid, v.opens))))
    keyed_given {a} {o} (keyed {b} {c} {f} {k} {m} {P} quiet low own name behind) =
        record { own = subst (λ z. OfLanguage z k) (sym h_text) own; is_static = b; computed = c; form = f; name = k; mid = m; one = P; low = low; given = subst (λ z. NameGiven z in_class b f c o k h.last m P) (sym h_text) (subst (λ z. NameGiven s.text in_class b f c o k z m P) (sym h_last) name); behind = behind }

    module _ (m : CursorState) (from mid : List Pair) {inner : ℕ} (inner_is : inner ≡ high - 1) where
      pub definition_name : (answer : Result ListItem Fault) (fault : Fault) → IsErrAnd answer (λ z. z ≡ fault) → NameComplete h m from mid inner in_class (Err fault) → Whole answer
      definition_name answer fault err complete = λ a o r n to P has it d ends own.
          let v = keyed_given (definition_given s.text in_class a n has it d ends own) in
          let low = v.low in
          agrees_on (Room h o (height v.name) inner) (Room s o (height n) high) (Same a n to P) answer fault err (complete v.is_static v.form v.computed o v.name v.mid v.one v.given v.own)
          (λ room. (subst (λ z. o ≤ max_open - z) (sym h_opened) room.0, (let within : height n ≤ high = room.1 in omega arith)))

      -- the name was read
      module _ (words : Modifiers) (key : PropertyName) (read : NameComplete h m from mid inner in_class (Ok (words, key))) (m_text : m.text ≡ s.text) (m_opened : m.opened ≡ s.opened) where
        pub definition_value : (answer : Result ListItem Fault) → IfOk answer (λ item. Adds s e old new (ItemReads s.text (defined in_class) item)) → in_class ≡ false → words.form ≡ Method → Misses m.text Punctuator (codes "(") m.last → height key.node ≤ inner → ValueComplete m e mid new high key answer → Whole answer
        definition_value answer derived not_class plain no_call key_low complete = λ a o r n to P has it d ends own.
            let v = keyed_given (definition_given s.text in_class a n has it d ends own) in
            let w = read v.is_static v.form v.computed o v.name v.mid v.one v.given v.own in
            let place : m.last ≡ v.mid = w.4 in
            let value : ValueGiven m.text key.computed a o (height n) m.last to = subst (λ z. ValueGiven z key.computed a o (height n) m.last to) (sym m_text) (subst (λ z. ValueGiven s.text z a o (height n) m.last to) (sym w.2) (subst (λ z. ValueGiven s.text v.computed a o (height n) z to) (sym place) (of v.form v.behind (subst (λ z. Misses z Punctuator (codes "(") v.mid) m_text (subst (λ z. Misses m.text Punctuator (codes "(") z) place no_call))))) in
            agrees_map answer derived (complete a o (height n) to (omega arith) (λ c. subst (λ z. TokenIs z key.token m.last) (h_text ∙ sym m_text) (subst (λ z. TokenIs h.text key.token z) (sym place) (w.3 (sym w.2 ∙ c)))) value)
            (λ room. (subst (λ z. o ≤ max_open - z) (sym m_opened) room.0, room.1))
            (λ item adds u. answered a n has it d ends item adds (fits_there in_class not_class item a u.0) (λ k. trail a item u.1) u.2)
          where
            of : {x c : Bool} {k : Tree} {a : Reading} {o levels : ℕ} {b to : Token} (f : Form) → BehindGiven s.text in_class x c k a o levels b to f → Misses s.text Punctuator (codes "(") b → ValueGiven s.text c a o levels b to
            of f (a_function reading g) quiet = absurd (not_missed quiet g.opens.1)
            of f (a_field k l r g) quiet = absurd (false≢true (sym not_class ∙ k))
            of f (no_method c quiet value) missed = value

            fits_there : (c : Bool) → c ≡ false → (item : ListItem) (a : Reading) → item_fits listed.Properties item a ≡ true → item_fits (defined c) item a ≡ true
            fits_there true k item a f = cc
            fits_there false k item a f = f

            trail : (a : Reading) (item : ListItem) → item.spreads ≡ false → may_trail item a ≡ true
            trail as_expression item k = refl
            trail (as_pattern b) item k = ap not k

        -- a field
        pub definition_field : (answer : Result ListItem Fault) (start : ℕ) → IfOk answer (λ item. Adds s e old new (ItemReads s.text (defined in_class) item)) → IfOk answer (λ item. (item.shape ≡ shapes.value) × (item.spreads ≡ false)) → in_class ≡ true → words.form ≡ Method → Misses m.text Punctuator (codes "(") m.last → height key.node ≤ inner →
            (key.computed ≡ true → key.token ≡ None) → FieldComplete m e mid new high key words.is_static start answer → Whole answer
        definition_field answer start derived facts is_class plain no_call key_low untold complete = λ a o r n to P has it d ends own.
            let v = keyed_given (definition_given s.text in_class a n has it d ends own) in
            let w = read v.is_static v.form v.computed o v.name v.mid v.one v.given v.own in
            let place : m.last ≡ v.mid = w.4 in
            let f = of v.form v.behind (subst (λ z. Misses z Punctuator (codes "(") v.mid) m_text (subst (λ z. Misses m.text Punctuator (codes "(") z) place no_call)) in
            let g : FieldGiven s.text v.is_static v.computed v.name o (height n) v.mid to = f.1 in
            let tall = g.low in
            let same : (t : Token) → key_goes_on (key_word v.computed v.name) v.is_static t ≡ key_goes_on (field_word key.token) words.is_static t = λ t.
            word_told s.text v.computed (subst (λ z. NamedAt z in_class o v.name v.given.mid v.mid v.one v.computed) h_text v.given.key) key.token (λ c. subst (λ z. TokenIs z key.token v.mid) h_text (w.3 c)) (λ c. untold (w.2 ∙ c)) v.is_static t ∙ ap (λ b. key_goes_on (field_word key.token) b t) (sym w.0) in
            let runs = subst (λ z. RunsIn z o (anywhere (field_pieces (field_word key.token) words.is_static g.value)) g.value m.last to g.pairs) (sym m_text) (subst (λ z. RunsIn s.text o (anywhere (field_pieces (field_word key.token) words.is_static g.value)) g.value z to g.pairs) (sym place) (field_moved s.text (key_word v.computed v.name) (field_word key.token) v.is_static words.is_static same g.value g.runs)) in
            agrees_map answer (both_ok (λ item. Adds s e old new (ItemReads s.text (defined in_class) item)) (λ item. (item.shape ≡ shapes.value) × (item.spreads ≡ false)) answer derived facts) (complete g.value o to g.pairs runs (subst (λ z. DefinitionEnds z true to) (sym m_text) g.ends) (subst (λ z. AllOfLanguage z g.value) (sym m_text) g.own))
            (λ room. (subst (λ z. o ≤ max_open - z) (sym m_opened) room.0, (let within : height n ≤ high = room.1 in omega arith)))
            (λ item u x. answered a n has it d ends item u.0 (fits_there in_class a f.0 item u.1.0 u.1.1) (λ k. trail a f.0 item) x.1.place)
          where
            of : {x c : Bool} {k : Tree} {a : Reading} {o levels : ℕ} {b to : Token} (f : Form) → BehindGiven s.text in_class x c k a o levels b to f → Misses s.text Punctuator (codes "(") b → (a ≡ as_expression) × FieldGiven s.text x c k o levels b to
            of f (a_function reading g) quiet = absurd (not_missed quiet g.opens.1)
            of f (no_method c quiet value) missed = absurd (false≢true (sym c ∙ is_class))
            of f (a_field k l reading g) missed = (reading, g)

            fits_there : (c : Bool) (a : Reading) → a ≡ as_expression → (item : ListItem) → item.shape ≡ shapes.value → item.spreads ≡ false → item_fits (defined c) item a ≡ true
            fits_there true as_expression k item shape_is spreads_is = (λ i. cond (spreads_is i) (fits_rest listed.Members (shape_is i) as_expression) (fits_as (shape_is i) as_expression))
            fits_there false as_expression k item shape_is spreads_is = (λ i. cond (spreads_is i) (fits_rest listed.Properties (shape_is i) as_expression) (fits_as (shape_is i) as_expression))
            fits_there c (as_pattern b) k item shape_is spreads_is = cc

            trail : (a : Reading) → a ≡ as_expression → (item : ListItem) → may_trail item a ≡ true
            trail as_expression k item = refl
            trail (as_pattern b) k item = cc

        -- a method
        module _ (called : ((in_class ≡ true) × (is_of_2022 s.text.language ≡ false)) ⊎ ((words.form ≡ Method → ⊥) ⊎ Sees m.text Punctuator (codes "(") m.last)) where
          record Function (a : Reading) (o levels : ℕ) (to : Token) : Type 0 where
            reading : a ≡ as_expression
            function : FunctionGiven m.text o levels words.form m.last to

          function_of : {a : Reading} {o levels : ℕ} {to : Token} → Keyed a o levels to → Function a o levels to
          function_of {a} {o} {levels} {to} v = of v.form (read v.is_static v.form v.computed o v.name v.mid v.one v.given v.own).1 (read v.is_static v.form v.computed o v.name v.mid v.one v.given v.own).4 v.behind
            where
              none_called : {X : Type 0} → (in_class ≡ false) ⊎ (is_of_2022 s.text.language ≡ true) → words.form ≡ Method → Misses m.text Punctuator (codes "(") m.last → X
              none_called c f quiet = go called c
                where
                  go : {X : Type 0} → ((in_class ≡ true) × (is_of_2022 s.text.language ≡ false)) ⊎ ((words.form ≡ Method → ⊥) ⊎ Sees m.text Punctuator (codes "(") m.last) → (in_class ≡ false) ⊎ (is_of_2022 s.text.language ≡ true) → X
                  go (inl k) (inl c) = absurd (false≢true (sym c ∙ k.0))
                  go (inl k) (inr l) = absurd (false≢true (sym k.1 ∙ l))
                  go (inr (inl k)) c = absurd (k f)
                  go (inr (inr k)) c = absurd (not_missed quiet k.1)

              moved : {b : Token} → m.last ≡ b → Misses s.text Punctuator (codes "(") b → Misses m.text Punctuator (codes "(") m.last
              moved place quiet = subst (λ z. Misses z Punctuator (codes "(") m.last) (sym m_text) (subst (λ z. Misses s.text Punctuator (codes "(") z) (sym place) quiet)

              of : {x c : Bool} {k : Tree} {b : Token} (f : Form) → words.form ≡ f → m.last ≡ b → BehindGiven s.text in_class x c k a o levels b to f → Function a o levels to
              of f form place (a_function reading g) = record { reading = reading; function = subst (λ z. FunctionGiven z o levels words.form m.last to) (sym m_text) (subst (λ z. FunctionGiven s.text o levels z m.last to) (sym form) (subst (λ z. FunctionGiven s.text o levels f z to) (sym place) g)) }
              of f form place (no_method c quiet value) = none_called (inl c) form (moved place quiet)
              of f form place (a_field k l reading g) = none_called (inr l) form (moved place g.quiet)

          module _ (x : CursorState) (last : List Pair) (start : ℕ) where
            pub definition_function : (answer : Result ListItem Fault) (fault : Fault) → IsErrAnd answer (λ z. z ≡ fault) → FunctionOrClassComplete m x mid last inner (closure.Method words.form) start (Err fault) → Whole answer
            definition_function answer fault err complete = λ a o r n to P has it d ends own.
                let v = (function_of (keyed_given (definition_given s.text in_class a n has it d ends own))).function in
                let low = v.low in
                agrees_on (Room m o (suc (parts_height v.parts)) inner) (Room s o (height n) high) (Same a n to P) answer fault err (complete v.parts o to v.pairs v.runs (λ k. absurd (false≢true k)) v.own)
                (λ room. (subst (λ z. o ≤ max_open - z) (sym m_opened) room.0, (let within : height n ≤ high = room.1 in omega arith)))

            pub definition_made : (function tree : Tree) {k : Kind} {w : List ℕ} {g : Flags} {st en : ℕ} (answer : Result ListItem Fault) (fault : Fault) → IsErrAnd answer (λ z. z ≡ fault) → tree ≡ node k w g st en (part key.node (part function none)) → height key.node ≤ inner → height function ≤ inner → Makes tree high (Err fault) → Whole answer
            definition_made function tree answer fault err is key_low low makes = λ a o r n to P has it d ends own.
                let some = some_height n in
                agrees_err (Room s o (height n) high) (Same a n to P) answer fault err (refuses_made (Room s o (height n) high) tree high fault makes (λ room. (let within : height n ≤ high = room.1 in fits_in key.node function tree is inner_is (omega arith) key_low low)))
              where
                some_height : (n : Tree) → 1 ≤ height n
                some_height (node k w g s e ps) = omega arith

            pub definition_method : (function : Tree) (item : ListItem) → Adds s e old new (ItemReads s.text (defined in_class) item) → FunctionOrClassComplete m x mid last inner (closure.Method words.form) start (Ok function) → item.shape ≡ shapes.value → item.spreads ≡ false → e.last ≡ x.last → Whole (Ok item)
            definition_method function item adds complete shape_is spreads_is stays = λ a o r n to P has it d ends own.
                let v = function_of (keyed_given (definition_given s.text in_class a n has it d ends own)) in
                let g = v.function in
                let w = complete g.parts o to g.pairs g.runs (λ k. absurd (false≢true k)) g.own in
                answered a n has it d ends item adds (fits_there in_class a v.reading) (λ k. trail a v.reading) (stays ∙ w.1.place)
              where
                fits_there : (c : Bool) (a : Reading) → a ≡ as_expression → item_fits (defined c) item a ≡ true
                fits_there true as_expression k = (λ i. cond (spreads_is i) (fits_rest listed.Members (shape_is i) as_expression) (fits_as (shape_is i) as_expression))
                fits_there false as_expression k = (λ i. cond (spreads_is i) (fits_rest listed.Properties (shape_is i) as_expression) (fits_as (shape_is i) as_expression))
                fits_there c (as_pattern b) k = cc

                trail : (a : Reading) → a ≡ as_expression → may_trail item a ≡ true
                trail as_expression k = refl
                trail (as_pattern b) k = cc

-- a spread is a rest in a pattern
pub spread_trails : (item : ListItem) {s e : ℕ} {n : Tree} → item.node ≡ node Rattle.tree.specs.declared.kind.Kind.TheVariants.SpreadElement [] Rattle.tree.specs.Tree.plain s e (part n none) → (a : Reading) → is_rest (kind_of (read_as a item.node)) ≡ false → may_trail item a ≡ true
spread_trails item is as_expression h = refl
spread_trails item is (as_pattern b) h = absurd (false≢true (sym h ∙ ap (λ z. is_rest (kind_of (pattern_tree z))) is))
