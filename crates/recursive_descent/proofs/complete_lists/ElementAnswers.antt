-- An element, an argument or a parameter that is given as an item of a list is refused, or taken (ECMA-262 12.2.5, 12.3.8, 12.15.5, 14.1).
use Rattle.std.proofs.Common.{◌+◌, ◌-◌, ◌≤◌, ◌≡◌, ℕ, suc, Bool, true, false, not, cond, List, [], Result, Ok, Err, refl, sym, ap, ◌∙◌, subst, arith}
use Rattle.std.specs.Prelude.{IfOk, IfErr, ◌&&◌, ◌||◌, nat_le, Some, None, codes}
use Rattle.std.specs.Result.{IsErrAnd}
use Rattle.std.proofs.lemmas.Bool.{false≢true, and_parts}
use Rattle.std.proofs.lemmas.Option.{none-some}
use Rattle.source_text.specs.declared.fault.Fault.{Fault}
use Rattle.source_text.specs.declared.fault.Fault.TheVariants.{OutOfMemory}
use Rattle.tokens.specs.Reading.{Reads}
use Rattle.tokens.specs.Tokens.{LexicalToken}
use Rattle.tokens.specs.declared.token.TokenClass.TheVariants.{Punctuator}
use Rattle.tokens.specs.declared.token.Goal.TheVariants.{Div}
use Rattle.token_cursor.specs.CursorState.{CursorState}
use Rattle.tree.specs.declared.kind.Kind.{Kind}
use Rattle.tree.specs.declared.kind.Pair.{Pair}
use Rattle.tree.specs.declared.kind.Kind.TheVariants.{SpreadElement, RestElement}
use Rattle.tree.specs.Tree.{Tree, plain, Parts, none, part, gap, push_gap, kind_of, part_count, height, parts_height}
use Rattle.language.specs.declared.Rank.TheVariants.{Assignment, LeftHandSide}
use Rattle.language.specs.declared.Start.TheVariants.{Any}
use Rattle.language.specs.Covers.{Reading, as_expression, as_pattern}
use Rattle.language.specs.Pieces.{Role, expr, name, pattern, bound}
use Rattle.language.specs.Token.{Token}
use Rattle.language.specs.Vocabulary.{is, is_target as is_simple, is_pattern as is_pattern_kind, is_identifier}
use Rattle.language.specs.Claims.{max_open}
use Rattle.language.proofs.covers.CoverElements.{simple_target}
use Rattle.language.proofs.covers.CoverPunctuators.{comma_separates, no_element_begins}
use Rattle.token_cursor.proofs.SeenTokens.{seen_determined}
use Rattle.covers.specs.declared.shape.TargetForm.{TargetForm}
use Rattle.covers.specs.declared.shape.TargetForm.TheVariants as assigned
use Rattle.covers.specs.declared.shape.CoverShape.{CoverShape}
use Rattle.covers.specs.declared.list.ListItem.{ListItem}
use Rattle.covers.specs.declared.list.ListKind.{ListKind}
use Rattle.covers.specs.declared.list.ListKind.TheVariants as listed
use Rattle.covers.specs.declared.list.ListBuilder.{ListBuilder as ListOf}
use Rattle.covers.specs.declared.list.ListSummary.{ListSummary}
use Rattle.covers.specs.Lists.{takes, with_hole, reads, is_ended}
use Rattle.covers.specs.Refusals.{IsTaken, IsMemory}
use Rattle.covers.specs.Shapes.{is_pattern, is_element, is_target}
use Rattle.parser_tables.specs.declared.operand.Operand.{Operand}
use Rattle.parser_tables.specs.declared.expression_context.ExpressionContext.{ExpressionContext}
use Rattle.recursive_descent.specs.Complete.{ExpressionComplete, ItemComplete}
use Rattle.recursive_descent.specs.Soundness.{fits_as, read_as, all_read_as}
use Rattle.recursive_descent.specs.SoundnessOfLists.{has_reading, seen_fits, item_fits, fits_rest, is_chunked, item_role, case_count, asks_edge}
use Rattle.recursive_descent.specs.Completeness.{Agrees, Room, EndsWith, GivenAs, IsRead}
use Rattle.recursive_descent.specs.CompletenessOfLists.{CommaOr, ItemGiven, an_item, a_hole, a_chunk, ItemRead, default_seen}
use Rattle.parser_tables.specs.Items.{with_item, element_item, element_node}
use Rattle.token_cursor.specs.Seen.{ReadsHere, Sees, Misses}
use Rattle.recursive_descent.proofs.complete_expressions.Agreement.{agrees_on, ends_behind, ends_none, marks_same}
use Rattle.recursive_descent.proofs.sound_lists.OneMoreItem.{join_none, read_gap}
use Rattle.recursive_descent.proofs.complete_lists.DeclaratorItems.{is_cases, is_covers, fitting_of}
use Rattle.recursive_descent.proofs.complete_lists.ElementItems.{is_elements, elements_plain, is_dotted, closing_sign, closing_of, element_ends, dotted_node, dotted_high, BoundAs, dotted_trails, Dotted, Element, element_given, dotted_there, alone_there, value_given}
use Rattle.recursive_descent.proofs.complete_lists.ItemFits.{plain_item, is_plainly}
use Rattle.recursive_descent.proofs.complete_lists.ItemAnswers.{item_taken, left_reads, one_high, own_tree}
use Rattle.recursive_descent.proofs.sound_lists.ReadItems.{lists_elements}
use Rattle.token_cursor.proofs.TokensAhead.{mark_by}
use Rattle.token_cursor.specs.SourceText.{SourceText, SeenNext, behind_in}
use Rattle.recursive_descent.specs.Spelled.{SpellsIn, OfLanguage, AllOfLanguage}
use Rattle.recursive_descent.proofs.reading.LanguageTrees.{first_of_language, parts_of_language}
use Rattle.recursive_descent.proofs.reading.Forward.{place_by}

-- what is bound or assigned to without a default is a target or a pattern
bound_kind : (b : Bool) (k : Kind) {r : Role} → bound b k ≡ Some r → (is_pattern_kind k || is_simple k) ≡ true
bound_kind true k {r} h = of (is_pattern_kind k) (is_identifier k) refl h
  where
    of : (x y : Bool) → is_identifier k ≡ y → cond x (Some (pattern true Any)) (cond y (Some name) None) ≡ Some r → (x || is_simple k) ≡ true
    of true y i q = refl
    of false true i q = simple_target true k i
    of false false i q = absurd (none-some _ q)
bound_kind false k {r} h = of (is_pattern_kind k) (is_simple k) h
  where
    of : (x y : Bool) → cond x (Some (pattern false Any)) (cond y (Some (expr LeftHandSide true Any)) None) ≡ Some r → (x || y) ≡ true
    of true y q = refl
    of false true q = refl
    of false false q = absurd (none-some _ q)

-- what stands behind `...` fits as it did alone, without a default
target_pattern : (x : TargetForm) → is_target x ≡ true → is_pattern x ≡ true
target_pattern assigned.Target h = refl
target_pattern _ h = absurd (false≢true h)

-- so what was read fits as one
bound_fits : (b : Bool) (n : Tree) (r : Operand) → IsRead (as_pattern b) r n → (is_pattern_kind (kind_of n) || is_simple (kind_of n)) ≡ true → is_pattern r.cover.shape.assigned ≡ true
bound_fits b n r read h = of (is_pattern_kind (kind_of n)) (is_simple (kind_of n)) refl refl h
  where
    of : (x y : Bool) → is_pattern_kind (kind_of n) ≡ x → is_simple (kind_of n) ≡ y → (x || y) ≡ true → is_pattern r.cover.shape.assigned ≡ true
    of true y p q k = read.pattern b refl p
    of false true p q k = target_pattern r.cover.shape.assigned (read.target q)
    of false false p q k = absurd (false≢true k)

and_both : {b c : Bool} → b ≡ true → c ≡ true → (b && c) ≡ true
and_both {b} {c} h k = ap (λ x. x && c) h ∙ k

-- in each reading
rest_fits : (x : ListKind) (a : Reading) (n : Tree) (role : Role) (r : Operand) → is_elements x ≡ true → is_dotted x a ≡ true → BoundAs a (kind_of n) role → IsRead a r n → fits_rest x r.cover.shape a ≡ true
rest_fits listed.ParenthesizedItems as_expression n role r k dots binds read = absurd (false≢true dots)
rest_fits listed.OneParameter a n role r k dots binds read = absurd (false≢true dots)
rest_fits listed.ParenthesizedItems (as_pattern false) n role r k dots binds read = bound_fits false n r read (bound_kind false (kind_of n) binds)
rest_fits listed.ParenthesizedItems (as_pattern true) n role r k dots binds read = and_both (and_parts r.cover.shape.binds (is_element r.cover.shape.assigned) read.fits).0 (bound_fits true n r read (bound_kind true (kind_of n) binds))
rest_fits _ as_expression n role r k dots binds read = read.fits
rest_fits _ (as_pattern false) n role r k dots binds read = bound_fits false n r read (bound_kind false (kind_of n) binds)
rest_fits _ (as_pattern true) n role r k dots binds read = and_both (and_parts r.cover.shape.binds (is_element r.cover.shape.assigned) read.fits).0 (bound_fits true n r read (bound_kind true (kind_of n) binds))

-- an item that stands behind `...`, and one that doesn't
rest_item_fits : (x : ListKind) (a : Reading) (it : ListItem) → is_elements x ≡ true → is_dotted x a ≡ true → it.spreads ≡ true → fits_rest x it.shape a ≡ true → item_fits x it a ≡ true
rest_item_fits listed.OneParameter a it k dots s h = absurd (false≢true dots)
rest_item_fits listed.Arguments a it k dots s h = ap (λ z. cond z (fits_rest listed.Arguments it.shape a) (fits_as it.shape a)) s ∙ h
rest_item_fits listed.Elements a it k dots s h = ap (λ z. cond z (fits_rest listed.Elements it.shape a) (fits_as it.shape a)) s ∙ h
rest_item_fits listed.ParenthesizedItems a it k dots s h = ap (λ z. cond z (fits_rest listed.ParenthesizedItems it.shape a) (fits_as it.shape a)) s ∙ h
rest_item_fits listed.AsyncArguments a it k dots s h = ap (λ z. cond z (fits_rest listed.AsyncArguments it.shape a) (fits_as it.shape a)) s ∙ h
rest_item_fits listed.Parameters a it k dots s h = ap (λ z. cond z (fits_rest listed.Parameters it.shape a) (fits_as it.shape a)) s ∙ h
rest_item_fits _ a it k dots s h = absurd (false≢true k)

alone_item_fits : (x : ListKind) (a : Reading) (it : ListItem) → is_elements x ≡ true → it.spreads ≡ false → fits_as it.shape a ≡ true → item_fits x it a ≡ true
alone_item_fits listed.OneParameter a it k s h = ap (λ z. cond z false (fits_as it.shape a)) s ∙ h
alone_item_fits listed.Arguments a it k s h = ap (λ z. cond z (fits_rest listed.Arguments it.shape a) (fits_as it.shape a)) s ∙ h
alone_item_fits listed.Elements a it k s h = ap (λ z. cond z (fits_rest listed.Elements it.shape a) (fits_as it.shape a)) s ∙ h
alone_item_fits listed.ParenthesizedItems a it k s h = ap (λ z. cond z (fits_rest listed.ParenthesizedItems it.shape a) (fits_as it.shape a)) s ∙ h
alone_item_fits listed.AsyncArguments a it k s h = ap (λ z. cond z (fits_rest listed.AsyncArguments it.shape a) (fits_as it.shape a)) s ∙ h
alone_item_fits listed.Parameters a it k s h = ap (λ z. cond z (fits_rest listed.Parameters it.shape a) (fits_as it.shape a)) s ∙ h
alone_item_fits _ a it k s h = absurd (false≢true k)

-- the node in each reading
dotted_read : (a : Reading) (s e : ℕ) (n : Tree) → read_as a (element_node true s e n) ≡ dotted_node a s e (read_as a n)
dotted_read as_expression s e n = refl
dotted_read (as_pattern b) s e n = refl

-- what such a list isn't
elements_no_cases : (x : ListKind) → is_elements x ≡ true → is_cases x ≡ false
elements_no_cases (listed.Cases r) h = absurd (false≢true h)
elements_no_cases _ h = refl

elements_no_values : (x : ListKind) → is_elements x ≡ true → is_plainly x ≡ false
elements_no_values (listed.Cases r) h = absurd (false≢true h)
elements_no_values (listed.Declarators i) h = absurd (false≢true h)
elements_no_values _ h = refl

dotted_own : (text : SourceText) (a : Reading) (s e : ℕ) (n : Tree) → OfLanguage text (dotted_node a s e n) → OfLanguage text n
dotted_own text as_expression s e n own = first_of_language {text = text} {n = n} {ps = none} (parts_of_language {text = text} {k = SpreadElement} {w = []} {g = plain} {st = s} {en = e} own)
dotted_own text (as_pattern b) s e n own = first_of_language {text = text} {n = n} {ps = none} (parts_of_language {text = text} {k = RestElement} {w = []} {g = plain} {st = s} {en = e} own)

covers_dotless : (x : ListKind) (a : Reading) → x ≡ listed.ParenthesizedItems → a ≡ as_expression → is_dotted x a ≡ true → ⊥
covers_dotless x a h k d = false≢true (ap (λ z. is_dotted z as_expression) (sym h) ∙ ap (is_dotted x) (sym k) ∙ d)

module _ (s e : CursorState) (old new : List Pair) (l k : ListOf) (high : ℕ) (kind : is_elements l.listed ≡ true) where
  -- what is given of the item, as it stands
  record Plain (a : Reading) (o : ℕ) (last : Bool) (one : Parts) (to : Token) (P : List Pair) : Type 0 where
    tree : Tree
    parts : one ≡ part tree none
    unmarked : last ≡ false
    ends : CommaOr s.text (closing_sign l.listed) to
    element : Element s.text l.listed a o tree s.last to P

  plain_given : (a : Reading) (o : ℕ) (last : Bool) (one : Parts) (to : Token) (P : List Pair) → (l.listed ≡ listed.Elements → Misses s.text Punctuator (codes ",") s.last) → has_reading l.listed a ≡ true → ItemGiven s.text l.listed a o s.last to P last one → Plain a o last one to P
  plain_given a o last one to P miss reads g =
      let v = plain_item (elements_plain l.listed kind) miss g in
      record { tree = v.tree; parts = v.parts; unmarked = v.unmarked; ends = element_ends s.text l.listed v.tree to kind v.ends; element = element_given s.text l.listed a v.tree kind reads v.it_is v.spelled }

  -- `...` was read
  module _ (x : CursorState) (mid : List Pair) (inner : ℕ) (q : ExpressionContext) (dots : ReadsHere s.text Punctuator (codes "...") s.last x.last) (there : x.text ≡ s.text) (opened : x.opened ≡ s.opened) (inner_is : inner ≡ high - 1) (q_is : q ≡ record { rank = Assignment; has_in = true; start = Any }) where
    no_comma : l.listed ≡ listed.Elements → Misses s.text Punctuator (codes ",") s.last
    no_comma h t m r = absurd (false≢true (ap (λ w. is w ",") (sym dots.text ∙ sym (ap (λ (z : Token). z.text) (marks_same s.text r dots).0) ∙ r.text)))

    record Behind (a : Reading) (o : ℕ) (last : Bool) (one : Parts) (to : Token) (P : List Pair) : Type 0 where
      given : Plain a o last one to P
      value : Dotted s.text l.listed a o given.tree x.last to P
      expression : GivenAs x.text q o value.value x.last to P a
      low : suc (height value.value) ≤ height given.tree
      own : AllOfLanguage s.text one → OfLanguage x.text value.value

    behind_given : (a : Reading) (o : ℕ) (last : Bool) (one : Parts) (to : Token) (P : List Pair) → has_reading l.listed a ≡ true → ItemGiven s.text l.listed a o s.last to P last one → Behind a o last one to P
    behind_given a o last one to P reads g =
        let v = plain_given a o last one to P no_comma reads g in
        let w = dotted_there s.text dots v.element in
        let tall : height v.tree ≡ height (dotted_node a x.last.start to.stop w.value) = ap height w.tree in
        let low = dotted_high a x.last.start to.stop w.value in
        record {
          given = v;
          value = w;
          expression = subst (λ z. GivenAs z q o w.value x.last to P a) (sym there) (value_given s.text a (closing_of l.listed) q_is w.it_is w.spelled v.ends);
          low = omega arith;
          own = λ whole. subst (λ z. OfLanguage z w.value) (sym there) (dotted_own s.text a x.last.start to.stop w.value (subst (λ z. OfLanguage s.text z) w.tree (own_tree v.tree v.parts whole)));
        }

    pub dotted_refused : (answer : Result (Unit {0}) Fault) (fault : Fault) → IsErrAnd answer (λ z. z ≡ fault) → ExpressionComplete x e mid new inner q (Err fault) → ItemComplete s e old new high l k answer
    dotted_refused answer fault err h = λ a o last one to P some left lone once g own.
        let v = behind_given a o last one to P (left_reads l a left) g in
        let low = v.low in
        agrees_on (Room x o (height v.value.value) inner) (Room s o (parts_height one) high) (λ u. ItemRead a l k last one × EndsWith s e old new to P) answer fault err (h a o v.value.value to P v.expression (v.own own))
        (λ room. (subst (λ z. o ≤ max_open - z) (sym opened) room.0, (let within : height v.given.tree ≤ high = one_high v.given.tree v.given.parts room.1 in omega arith)))

    pub dotted_taken : (r : Operand) (it : ListItem) (start at : ℕ) (answer : Result (Unit {0}) Fault) → ((u : LexicalToken) → Reads s.text.bytes Div s.last.stop u → start ≡ u.start) → it ≡ element_item true start e.last.stop r → mid ≡ old →
        IfOk answer (λ u. k ≡ with_item l it) → IsTaken (takes l.listed l.seen it) at answer → ExpressionComplete x e mid new inner q (Ok r) → ItemComplete s e old new high l k answer
    dotted_taken r it start at answer starts made same put taken h = item_taken s e old new l k high it at answer (elements_plain l.listed kind) put taken (λ a o last one to P some reads once g own.
        let v = behind_given a o last one to P reads g in
        let u = h a o v.value.value to P v.expression (v.own own) in
        let w = v.value in
        let first : start ≡ x.last.start = place_by s.text starts (mark_by s.text dots) in
        let tree : read_as a it.node ≡ v.given.tree = ap (λ (z : ListItem). read_as a z.node) made ∙ dotted_read a start e.last.stop r.cover.node ∙ (λ i. dotted_node a (first i) ((u.1.place i).stop) (u.0.tree i)) ∙ sym w.tree in
        let spreads : it.spreads ≡ true = ap (λ (z : ListItem). z.spreads) made in
        let shape : it.shape ≡ r.cover.shape = ap (λ (z : ListItem). z.shape) made in
        record {
          tree = v.given.tree;
          parts = v.given.parts;
          unmarked = v.given.unmarked;
          fitting = fitting_of l it a v.given.tree (elements_no_cases l.listed kind)
              (rest_item_fits l.listed a it kind w.allowed spreads (ap (λ z. fits_rest l.listed z a) shape ∙ rest_fits l.listed a w.value w.role r kind w.allowed w.binds u.0)) tree
              (λ p m. dotted_trails l.listed a v.given.tree x.last.start to.stop w.value kind reads w.allowed w.tree p m) (λ p. absurd (false≢true (sym (elements_no_values l.listed kind) ∙ p))) (λ p m. absurd (covers_dotless l.listed a p m w.allowed));
          ends = ends_behind {s = s} {m = x} same u.1;
        })

  -- none was
  module _ (x : CursorState) (mid : List Pair) (q : ExpressionContext) (missed : Misses s.text Punctuator (codes "...") s.last) (stays : x.last ≡ s.last) (no_comma : l.listed ≡ listed.Elements → Misses s.text Punctuator (codes ",") s.last) (there : x.text ≡ s.text) (q_is : q ≡ record { rank = Assignment; has_in = true; start = Any }) where
    record Here (a : Reading) (o : ℕ) (last : Bool) (one : Parts) (to : Token) (P : List Pair) : Type 0 where
      given : Plain a o last one to P
      expression : GivenAs x.text q o given.tree x.last to P a

    here_given : (a : Reading) (o : ℕ) (last : Bool) (one : Parts) (to : Token) (P : List Pair) → has_reading l.listed a ≡ true → ItemGiven s.text l.listed a o s.last to P last one → Here a o last one to P
    here_given a o last one to P reads g =
        let v = plain_given a o last one to P no_comma reads g in
        let w = alone_there s.text missed v.element in
        record {
          given = v;
          expression = subst (λ z. GivenAs z q o v.tree x.last to P a) (sym there) (subst (λ z. GivenAs s.text q o v.tree z to P a) (sym stays) (value_given s.text a (closing_of l.listed) q_is w.it_is w.spelled v.ends));
        }

    pub alone_refused : (answer : Result (Unit {0}) Fault) (fault : Fault) → x.opened ≡ s.opened → IsErrAnd answer (λ z. z ≡ fault) → ExpressionComplete x e mid new high q (Err fault) → ItemComplete s e old new high l k answer
    alone_refused answer fault opened err h = λ a o last one to P some left lone once g own.
        let v = here_given a o last one to P (left_reads l a left) g in
        agrees_on (Room x o (height v.given.tree) high) (Room s o (parts_height one) high) (λ u. ItemRead a l k last one × EndsWith s e old new to P) answer fault err (h a o v.given.tree to P v.expression (subst (λ z. OfLanguage z v.given.tree) (sym there) (own_tree v.given.tree v.given.parts own)))
        (λ room. (subst (λ z. o ≤ max_open - z) (sym opened) room.0, one_high v.given.tree v.given.parts room.1))

    pub alone_taken : (r : Operand) (it : ListItem) (start stop at : ℕ) (answer : Result (Unit {0}) Fault) → it ≡ element_item false start stop r → mid ≡ old →
        IfOk answer (λ u. k ≡ with_item l it) → IsTaken (takes l.listed l.seen it) at answer → ExpressionComplete x e mid new high q (Ok r) → ItemComplete s e old new high l k answer
    alone_taken r it start stop at answer made same put taken h = item_taken s e old new l k high it at answer (elements_plain l.listed kind) put taken (λ a o last one to P some reads once g own.
        let v = here_given a o last one to P reads g in
        let u = h a o v.given.tree to P v.expression (subst (λ z. OfLanguage z v.given.tree) (sym there) (own_tree v.given.tree v.given.parts own)) in
        let spreads : it.spreads ≡ false = ap (λ (z : ListItem). z.spreads) made in
        let shape : it.shape ≡ r.cover.shape = ap (λ (z : ListItem). z.shape) made in
        let tree : read_as a it.node ≡ v.given.tree = ap (λ (z : ListItem). read_as a z.node) made ∙ u.0.tree in
        record {
          tree = v.given.tree;
          parts = v.given.parts;
          unmarked = v.given.unmarked;
          fitting = fitting_of l it a v.given.tree (elements_no_cases l.listed kind) (alone_item_fits l.listed a it kind spreads (ap (λ z. fits_as z a) shape ∙ u.0.fits)) tree
              (λ p m. spreads) (λ p. absurd (false≢true (sym (elements_no_values l.listed kind) ∙ p)))
              (λ p m. (
                ap (λ (z : CoverShape). z.is_expression) shape ∙ ap (fits_as r.cover.shape) (sym m) ∙ u.0.fits,
                λ f. ap (λ (z : CoverShape). is_target z.assigned) shape ∙ u.0.target (ap (λ n. is_simple (kind_of n)) (sym tree ∙ ap (λ z. read_as z it.node) m) ∙ f),
              ));
          ends = ends_behind {s = s} {m = x} same u.1;
        })

-- a hole of an array is pushed
hole_left : (x : ListKind) (l : ListOf) (a : Reading) → x ≡ listed.Elements → ((has_reading x a && seen_fits x l a) && reads x l.seen.shape) ≡ true → ((has_reading x a && seen_fits x (record l { nodes = push_gap l.nodes; seen = with_hole l.seen }) a) && reads x (with_hole l.seen).shape) ≡ true
hole_left listed.Elements l a is h = h
hole_left _ l a is h = cc

-- it is taken where a comma stands
pub hole_taken : (s e : CursorState) (old new : List Pair) (l k : ListOf) (high : ℕ) (answer : Result (Unit {0}) Fault) → l.listed ≡ listed.Elements → Sees s.text Punctuator (codes ",") s.last → e.last ≡ s.last → new ≡ old →
    IfOk answer (λ u. k ≡ record l { nodes = push_gap l.nodes; seen = with_hole l.seen }) → IfErr answer IsMemory → ItemComplete s e old new high l k answer
hole_taken s e old new l k high answer is comma stays same put held a o last one to P some left lone once g own = of g answer put held
  where
    whole : ListOf
    whole = record l { nodes = push_gap l.nodes; seen = with_hole l.seen }

    pushed : to ≡ s.last → P ≡ [] → (r : Result (Unit {0}) Fault) → IfOk r (λ u. k ≡ whole) → IfErr r IsMemory → Agrees (Room s o 0 high) (λ u. ItemRead a l k false (gap none) × EndsWith s e old new to P) r
    pushed at pairs (Ok u) put held = (
      subst (λ z. ItemRead a l z false (gap none)) (sym put) (record {
        left = hole_left l.listed l a is left;
        nodes = sym (join_none (all_read_as a (push_gap l.nodes))) ∙ sym (read_gap a l.nodes none);
        no_rest = λ p m. refl;
        marked = λ p. absurd (false≢true (sym (ap is_chunked is) ∙ p));
        counted = ap (λ x. nat_le (default_seen x l.seen.is_flagged) (case_count x (gap none) + default_seen x l.seen.is_flagged)) is;
        lone = λ p m. absurd (false≢true (sym (ap is_covers is) ∙ ap is_covers p));
        no_comma = λ p. absurd (false≢true (sym (ap is_covers is) ∙ ap is_covers p));
      }),
      subst (λ z. EndsWith s e old new to z) (sym pairs) (ends_none (stays ∙ sym at) same),
    )
    pushed at pairs (Err OutOfMemory) put held = tt
    pushed at pairs (Err _) put held = absurd held

    no_item : (n : Tree) {r : Role} → item_role l.listed a (kind_of n) ≡ Some r → SpellsIn s.text o r n s.last to P → ⊥
    no_item n {r} it d = no_element_begins Token (SeenNext s.text) (behind_in s.text) (seen_determined s.text) comma_separates comma.1 a o r to n P (ap (λ x. item_role x a (kind_of n)) (sym is) ∙ it) d

    of : {last : Bool} {one : Parts} → ItemGiven s.text l.listed a o s.last to P last one → (r : Result (Unit {0}) Fault) → IfOk r (λ u. k ≡ whole) → IfErr r IsMemory → Agrees (Room s o (parts_height one) high) (λ u. ItemRead a l k last one × EndsWith s e old new to P) r
    of (an_item {n = n} ch it d en) r put held = absurd (no_item n it d)
    of (a_hole el c at pairs) r put held = pushed at pairs r put held
    of (a_chunk t d st c) r put held = absurd (false≢true (sym (ap is_chunked is) ∙ ap is_chunked t))

-- a list in which elements are read, and which isn't ended, is one of these
elements_kind : (x : ListKind) (s : ListSummary) (n : ℕ) → (lists_elements x && not (asks_edge x)) ≡ true → is_ended x s n ≡ false → is_elements x ≡ true
elements_kind listed.NoParameter s n h open_list = cc
elements_kind listed.Arguments s n h open_list = refl
elements_kind listed.Elements s n h open_list = refl
elements_kind listed.ParenthesizedItems s n h open_list = refl
elements_kind listed.AsyncArguments s n h open_list = refl
elements_kind listed.Parameters s n h open_list = refl
elements_kind listed.OneParameter s n h open_list = refl
elements_kind _ s n h open_list = absurd (false≢true h)

-- so what is shown of these lists is shown of it
pub of_kind : (s e : CursorState) (old new : List Pair) (l k : ListOf) (high : ℕ) (answer : Result (Unit {0}) Fault) → (lists_elements l.listed && not (asks_edge l.listed)) ≡ true → (is_elements l.listed ≡ true → ItemComplete s e old new high l k answer) → ItemComplete s e old new high l k answer
of_kind s e old new l k high answer kind f = λ a o last one to P some left lone once g own. f (elements_kind l.listed l.seen (part_count l.nodes) kind some) a o last one to P some left lone once g own
