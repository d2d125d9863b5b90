-- An expression in a template that is given, and the part behind it, as an item of its list (ECMA-262 12.2.9).
use Rattle.std.proofs.Common.{◌+◌, ◌≤◌, ◌≡◌, ℕ, Bool, true, false, List, [], ◌++◌, Result, Ok, Err, refl, sym, ap, ◌∙◌, subst, arith}
use Rattle.std.specs.Prelude.{IfOk, IsTrue, ◌&&◌, ◌||◌, nat_le, nat_eq, slice_index_or}
use Rattle.std.specs.Result.{IsErrAnd}
use Rattle.std.proofs.lemmas.Bool.{false≢true, and_parts}
use Rattle.source_text.specs.declared.fault.Fault.{Fault}
use Rattle.source_text.specs.declared.fault.Fault.TheVariants.{Syntax, TooDeep, OutOfMemory}
use Rattle.tokens.specs.Goals.{allows}
use Rattle.tokens.specs.declared.token.TokenClass.TheVariants.{Template}
use Rattle.tokens.specs.declared.token.Goal.TheVariants.{TemplateTail}
use Rattle.token_cursor.specs.CursorState.{CursorState}
use Rattle.tree.specs.declared.kind.Pair.{Pair}
use Rattle.tree.specs.Tree.{Tree, node, Parts, none, part, join, push, part_count, height, parts_height}
use Rattle.language.specs.declared.Edge.TheVariants.{Closed}
use Rattle.language.specs.declared.Rank.TheVariants.{Expression}
use Rattle.language.specs.declared.Start.TheVariants.{Any}
use Rattle.language.specs.Covers.{Reading, as_expression, as_pattern}
use Rattle.language.specs.Pieces.{expr}
use Rattle.language.specs.Promises.{ReadBy}
use Rattle.language.specs.Token.{Token, same_class}
use Rattle.language.proofs.list_loops.TemplateElements.{chunk_found, chunk_not_last, chunk_last_one}
use Rattle.token_cursor.proofs.SeenTokens.{seen_determined}
use Rattle.covers.specs.declared.list.ListItem.{ListItem}
use Rattle.covers.specs.declared.list.ListKind.{ListKind}
use Rattle.covers.specs.declared.list.ListKind.TheVariants as listed
use Rattle.covers.specs.declared.list.ListBuilder.{ListBuilder as ListOf}
use Rattle.covers.specs.declared.shape.CoverShape.{CoverShape}
use Rattle.covers.specs.Lists.{takes, reads, is_ended, shape_with}
use Rattle.covers.specs.Refusals.{IsTaken}
use Rattle.covers.specs.Shapes.{value}
use Rattle.parser_tables.specs.declared.operand.Operand.{Operand}
use Rattle.parser_tables.specs.declared.expression_context.ExpressionContext.{ExpressionContext}
use Rattle.recursive_descent.specs.TemplateElements.{front, back}
use Rattle.recursive_descent.specs.Complete.{ExpressionComplete, ItemComplete}
use Rattle.recursive_descent.specs.Soundness.{all_read_as}
use Rattle.recursive_descent.specs.SoundnessOfLists.{has_reading, seen_fits, is_chunked, case_count}
use Rattle.recursive_descent.specs.Follows.{ChunkAt, NoChunk}
use Rattle.recursive_descent.specs.Completeness.{Room, EndsWith, GivenAs, an_expression, StopsIn}
use Rattle.recursive_descent.specs.CompletenessOfLists.{ItemGiven, an_item, a_hole, a_chunk, ItemRead, default_seen, minds_rest}
use Rattle.parser_tables.specs.Items.{item_from, with_item}
use Rattle.parser_tables.specs.Outcomes.{BecomesHere}
use Rattle.token_cursor.specs.Seen.{ReadsHere}
use Rattle.parser_tables.specs.Tests.{is_later_part}
use Rattle.recursive_descent.proofs.reading.FreeRanks.{no_conditional, no_new}
use Rattle.recursive_descent.proofs.complete_expressions.Agreement.{Refuses, agrees_on, agrees_err, refuses_unfit, ends_before}
use Rattle.recursive_descent.proofs.sound_lists.OneMoreItem.{join_none, read_push}
use Rattle.recursive_descent.proofs.complete_lists.DeclaratorItems.{is_covers}
use Rattle.recursive_descent.proofs.complete_lists.ItemFits.{agrees_pushed}
use Rattle.recursive_descent.proofs.complete_lists.ItemAnswers.{left_reads}
use Rattle.token_cursor.specs.SourceText.{SourceText, SeenNext, behind_in}
use Rattle.recursive_descent.specs.Spelled.{SpellsIn, OfLanguage, AllOfLanguage}
use Rattle.recursive_descent.proofs.reading.LanguageTrees.{first_of_language}

module _ (text : SourceText) where
  -- What is given there: an expression, and the part behind it.
  pub record Chunk (o : ℕ) (s e : Token) (P : List Pair) (last : Bool) (one : Parts) : Type 0 where
    pub value : Tree
    pub next : Tree
    pub mid : Token
    pub parts : one ≡ part value (part next none)
    pub spelled : SpellsIn text o (expr Expression true Any) value s mid P
    pub stopped : StopsIn text Expression true value mid
    pub chunk : ChunkAt text mid e next last

  -- an item of a template is such
  pub chunk_given : {x : ListKind} {a : Reading} {o : ℕ} {s e : Token} {P : List Pair} {last : Bool} {one : Parts} → is_chunked x ≡ true → ItemGiven text x a o s e P last one → Chunk o s e P last one
  chunk_given h (an_item other it d en) = absurd (false≢true (sym other ∙ h))
  chunk_given h (a_hole is c z q) = absurd (false≢true (sym (ap is_chunked is) ∙ h))
  chunk_given h (a_chunk {n = n} {c = c} {m = m} is d st ch) = record { value = n; next = c; mid = m; parts = refl; spelled = d; stopped = st; chunk = ch }

  -- a part that isn't the first is read by the goal for it
  later_read : (last : Bool) (w : List ℕ) {s e : Token} → ReadsHere text Template (front false ++ (w ++ back last)) s e → ReadBy Token (SeenNext text) (behind_in text) TemplateTail s (behind_in text e) e × (is_later_part (behind_in text e) ≡ true)
  later_read last w {s} {e} r =
      let allowed : IsTrue (allows TemplateTail (behind_in text e).class e.text) = subst (λ c. IsTrue (allows TemplateTail c e.text)) (sym r.class) (subst (λ v. IsTrue (allows TemplateTail Template v)) (sym r.text) refl) in
      (record { next = r.next; allowed = allowed }, (λ i. same_class Template (r.class i) && nat_eq (slice_index_or (r.text i) 0 0) 125))

  -- it is one node, of one token
  pub chunk_ahead : (last : Bool) {s e : Token} {n : Tree} → ChunkAt text s e n last → ReadBy Token (SeenNext text) (behind_in text) TemplateTail s (behind_in text e) e × (is_later_part (behind_in text e) ≡ true)
  chunk_ahead last c = later_read last c.0 c.1

-- a node has a level
some_height : (n : Tree) → 1 ≤ height n
some_height (node k w g s e ps) = omega arith

-- one token at one place is one part
pub chunk_same : (text : SourceText) (s u v : Token) (n m : Tree) (b c : Bool) → ChunkAt text s u n b → ChunkAt text s v m c → (u ≡ v) × (n ≡ m) × (b ≡ c)
chunk_same text s u v n m true true h k =
    let same = (chunk_found Token (SeenNext text) (behind_in text) (seen_determined text) {b = false} {l = true} {o = 0} {w = k.0} k.1).only 0 u _ [] (chunk_found Token (SeenNext text) (behind_in text) (seen_determined text) {b = false} {l = true} {o = 0} {w = h.0} h.1).spelled in
    (same.0, h.2 ∙ same.1 ∙ sym k.2, refl)
chunk_same text s u v n m false false h k =
    let same = (chunk_found Token (SeenNext text) (behind_in text) (seen_determined text) {b = false} {l = false} {o = 0} {w = k.0} k.1).only 0 u _ [] (chunk_found Token (SeenNext text) (behind_in text) (seen_determined text) {b = false} {l = false} {o = 0} {w = h.0} h.1).spelled in
    (same.0, h.2 ∙ same.1 ∙ sym k.2, refl)
chunk_same text s u v n m true false h k =
    absurd ((chunk_not_last Token (SeenNext text) (behind_in text) (seen_determined text) {b = false} k.0 k.1).nothing 0 u _ [] (chunk_found Token (SeenNext text) (behind_in text) (seen_determined text) {b = false} {l = true} {o = 0} {w = h.0} h.1).spelled)
chunk_same text s u v n m false true h k =
    absurd ((chunk_last_one Token (SeenNext text) (behind_in text) (seen_determined text) {b = false} k.0 k.1).nothing 0 u _ [] (chunk_found Token (SeenNext text) (behind_in text) (seen_determined text) {b = false} {l = false} {o = 0} {w = h.0} h.1).spelled)

-- a part that is given is refused for its height or for memory alone
no_chunk_refuses : (W : Type 0) (m : CursorState) (high : ℕ) (fault : Fault) (e : Token) (n : Tree) (last : Bool) → NoChunk m high fault → ChunkAt m.text m.last e n last → (W → 1 ≤ high) → Refuses W fault
no_chunk_refuses W m high (Syntax at) e n last h c f = let u = chunk_ahead m.text last c in absurd (false≢true (sym (h (behind_in m.text e) e u.0) ∙ u.1))
no_chunk_refuses W m high TooDeep e n last h c f = λ (w : W). let room : 1 ≤ high = f w in absurd (omega arith)
no_chunk_refuses W m high OutOfMemory e n last h c f = tt
no_chunk_refuses W m high _ e n last h c f = absurd h

-- an item of a template has one reading
only_expression : (a : Reading) → has_reading listed.Template a ≡ true → a ≡ as_expression
only_expression as_expression h = refl
only_expression (as_pattern b) h = absurd (false≢true h)

-- such a list with an item that is an expression
value_kept : (x : ListKind) (b : Bool) (s p : CoverShape) → b ≡ false → s.is_expression ≡ true → p.is_expression ≡ true → (shape_with b x s p).is_expression ≡ true
value_kept x true s p h k q = cc
value_kept x false s p h k q = (λ i. k i && q i)

-- the list with the expression and the part
abbrev with_chunk : ListOf → Tree → ListItem → ListOf
with_chunk l n c = with_item (with_item l (item_from n value false Closed)) c

-- it is an expression
chunk_value : (l : ListOf) (n : Tree) (c : ListItem) → l.seen.shape.is_expression ≡ true → c.shape.is_expression ≡ true → c.spreads ≡ false → (with_chunk l n c).seen.shape.is_expression ≡ true
chunk_value l n c h k q = value_kept l.listed c.spreads (shape_with false l.listed l.seen.shape value) c.shape q (value_kept l.listed false l.seen.shape value refl h refl) k

-- so its one reading is left, and the part is taken
chunk_left : (x : ListKind) (k : ListOf) (a : Reading) → x ≡ listed.Template → a ≡ as_expression → k.seen.shape.is_expression ≡ true → ((has_reading x a && seen_fits x k a) && reads x k.seen.shape) ≡ true
chunk_left x k a is reading h = (λ i. (has_reading (is i) (reading i) && seen_fits (is i) k (reading i)) && reads (is i) k.seen.shape) ∙ h

chunk_took : (x : ListKind) (l : ListOf) (n : Tree) (c : ListItem) → x ≡ listed.Template → (shape_with c.spreads listed.Template l.seen.shape c.shape).is_expression ≡ true → takes x l.seen c ≡ true
chunk_took x l n c is h = ap (λ y. takes y l.seen c) is ∙ h

-- the parts of the list with both
two_pushed : (qs : Parts) (n m : Tree) → push (push qs n) m ≡ join qs (part n (part m none))
two_pushed qs n m = sym (join_none (push (push qs n) m)) ∙ sym (read_push as_expression (push qs n) m none) ∙ sym (read_push as_expression qs n (part m none))

module _ (s : CursorState) (old : List Pair) (l k : ListOf) (high : ℕ) (is : l.listed ≡ listed.Template) (q : ExpressionContext) (q_is : q ≡ record { rank = Expression; has_in = true; start = Any }) where
  -- the expression is given where one may stand
  value_there : (o : ℕ) (to : Token) (P : List Pair) (last : Bool) (one : Parts) (v : Chunk s.text o s.last to P last one) → GivenAs s.text q o v.value s.last v.mid P as_expression
  value_there o to P last one v = subst (λ (z : ExpressionContext). GivenAs s.text z o v.value s.last v.mid P as_expression) (sym q_is) (an_expression (no_conditional refl) (no_new refl) v.spelled v.stopped)

  -- the whole is as high as its parts
  chunk_high : {o : ℕ} {to : Token} {P : List Pair} {last : Bool} {one : Parts} (v : Chunk s.text o s.last to P last one) → parts_height one ≤ high → (height v.value ≤ high) × (1 ≤ high)
  chunk_high v h =
      let u : parts_height (part v.value (part v.next none)) ≤ high = subst (λ x. parts_height x ≤ high) v.parts h in
      let some = some_height v.next in
      (omega arith, omega arith)

  -- the expression is of the language with it
  value_own : {o : ℕ} {to : Token} {P : List Pair} {last : Bool} {one : Parts} (v : Chunk s.text o s.last to P last one) → AllOfLanguage s.text one → OfLanguage s.text v.value
  value_own v own = first_of_language {text = s.text} {n = v.value} {ps = part v.next none} (subst (λ x. AllOfLanguage s.text x) v.parts own)

  -- the expression is refused
  pub chunk_refused : (e : CursorState) (new : List Pair) (answer : Result (Unit {0}) Fault) (fault : Fault) → IsErrAnd answer (λ x. x ≡ fault) → ExpressionComplete s e old new high q (Err fault) → ItemComplete s e old new high l k answer
  chunk_refused e new answer fault err h = λ a o last one to P some left lone once g own.
      let v = chunk_given s.text (ap is_chunked is) g in
      agrees_on (Room s o (height v.value) high) (Room s o (parts_height one) high) (λ u. ItemRead a l k last one × EndsWith s e old new to P) answer fault err (h as_expression o v.value v.mid P (value_there o to P last one v) (value_own v own)) (λ room. (room.0, (chunk_high v room.1).0))

  module _ (m : CursorState) (mid : List Pair) (r : Operand) (read : ExpressionComplete s m old mid high q (Ok r)) where
    pub chunk_unsettled : (e p : CursorState) (new : List Pair) (answer : Result (Unit {0}) Fault) (fault : Fault) → IsErrAnd answer (λ x. x ≡ fault) → BecomesHere r.cover.node r.cover.shape.is_expression p (Err fault) → ItemComplete s e old new high l k answer
    chunk_unsettled e p new answer fault err becomes = λ a o last one to P some left lone once g own.
        let v = chunk_given s.text (ap is_chunked is) g in
        let u = read as_expression o v.value v.mid P (value_there o to P last one v) (value_own v own) in
        agrees_err (Room s o (parts_height one) high) (λ u. ItemRead a l k last one × EndsWith s e old new to P) answer fault err (refuses_unfit (Room s o (parts_height one) high) r.cover.node r.cover.shape.is_expression p fault becomes u.0.fits)

    pub chunk_missing : (e : CursorState) (new : List Pair) (answer : Result (Unit {0}) Fault) (fault : Fault) → m.text ≡ s.text → IsErrAnd answer (λ x. x ≡ fault) → NoChunk m high fault → ItemComplete s e old new high l k answer
    chunk_missing e new answer fault there err none_there = λ a o last one to P some left lone once g own.
        let v = chunk_given s.text (ap is_chunked is) g in
        let u = read as_expression o v.value v.mid P (value_there o to P last one v) (value_own v own) in
        let here : ChunkAt m.text m.last to v.next last = subst (λ z. ChunkAt z m.last to v.next last) (sym there) (subst (λ z. ChunkAt s.text z to v.next last) (sym u.1.place) v.chunk) in
        agrees_err (Room s o (parts_height one) high) (λ u. ItemRead a l k last one × EndsWith s e old new to P) answer fault err
        (no_chunk_refuses (Room s o (parts_height one) high) m high fault to v.next last none_there here (λ room. (chunk_high v room.1).1))

    pub chunk_taken : (e : CursorState) (new : List Pair) (l1 : ListOf) (c : ListItem) (at : ℕ) (answer : Result (Unit {0}) Fault) → m.text ≡ s.text → l1 ≡ with_item l (item_from r.cover.node value false Closed) → ChunkAt m.text m.last e.last c.node c.is_flagged → c.shape.is_expression ≡ true → c.spreads ≡ false → new ≡ mid →
        IfOk answer (λ u. k ≡ with_item l1 c) → IsTaken (takes l1.listed l1.seen c) at answer → ItemComplete s e old new high l k answer
    chunk_taken e new l1 c at answer there first chunk plain alone same put taken = λ a o last one to P some left lone once g own.
        let v = chunk_given s.text (ap is_chunked is) g in
        let u = read as_expression o v.value v.mid P (value_there o to P last one v) (value_own v own) in
        let here : ChunkAt s.text v.mid e.last c.node c.is_flagged = subst (λ z. ChunkAt s.text z e.last c.node c.is_flagged) u.1.place (subst (λ z. ChunkAt z m.last e.last c.node c.is_flagged) there chunk) in
        let once_there = chunk_same s.text v.mid e.last to c.node v.next c.is_flagged last here v.chunk in
        let reading : a ≡ as_expression = only_expression a (ap (λ x. has_reading x a) (sym is) ∙ left_reads l a left) in
        let value_seen : l.seen.shape.is_expression ≡ true = ap (λ x. reads x l.seen.shape) (sym is) ∙ (and_parts _ _ left).1 in
        let whole : ListOf = with_chunk l r.cover.node c in
        let shape : whole.seen.shape.is_expression ≡ true = chunk_value l r.cover.node c value_seen plain alone in
        let one_is : one ≡ part r.cover.node (part c.node none) = v.parts ∙ (λ i. part (sym u.0.tree i) (part (sym once_there.1 i) none)) in
        let unmarked : l.seen.is_flagged ≡ false = ap (λ x. is_ended x l.seen (part_count l.nodes)) (sym is) ∙ some in
        let it : ItemRead a l whole last one = record {
          left = chunk_left l.listed whole a is reading shape;
          nodes = (λ i. all_read_as (reading i) whole.nodes) ∙ two_pushed l.nodes r.cover.node c.node ∙ (λ i. join (all_read_as (sym reading i) l.nodes) (sym one_is i));
          no_rest = λ p y. absurd (false≢true ((λ i. minds_rest (sym is i) (sym reading i)) ∙ y));
          marked = λ p. (λ i. (unmarked i || false) || once_there.2 i);
          counted = (λ i. nat_le (default_seen (is i) whole.seen.is_flagged) (case_count (is i) one + default_seen (is i) l.seen.is_flagged));
          lone = λ p y. absurd (false≢true (sym (ap is_covers is) ∙ ap is_covers p));
          no_comma = λ p. refl;
        } in
        let took : takes l1.listed l1.seen c ≡ true = ap (λ (z : ListOf). takes z.listed z.seen c) first ∙ chunk_took l.listed (with_item l (item_from r.cover.node value false Closed)) r.cover.node c is
        (value_kept listed.Template c.spreads (shape_with false l.listed l.seen.shape value) c.shape alone (value_kept l.listed false l.seen.shape value refl value_seen refl) plain) in
        agrees_pushed (Room s o (parts_height one) high) (λ z. ItemRead a l z last one × EndsWith s e old new to P) k (with_item l1 c) (takes l1.listed l1.seen c) at answer put taken took
        (subst (λ z. ItemRead a l (with_item z c) last one) (sym first) it, ends_before u.1 once_there.0 same)
