-- A turn of the loop at the first comma of a sequence (ECMA-262 12.16): the list that is given behind it, and what the list's answer, a refusal or the node makes.
use Rattle.std.proofs.Common.{◌≡◌, ℕ, suc, ◌<◌, ◌-◌, Bool, false, List, [], Result, Ok, Err, refl, sym, ap, ◌∙◌, subst, arith}
use Rattle.std.specs.Prelude.{Some, ◌&&◌}
use Rattle.std.specs.Result.{IsErrAnd}
use Rattle.std.proofs.lemmas.Bool.{and_from}
use Rattle.source_text.specs.declared.fault.Fault.{Fault}
use Rattle.source_text.specs.declared.fault.Fault.TheVariants.{TooDeep}
use Rattle.tokens.specs.declared.token.Goal.TheVariants.{Div}
use Rattle.tokens.specs.Tokens.{LexicalToken}
use Rattle.token_cursor.specs.CursorState.{CursorState, IsAhead}
use Rattle.tree.specs.declared.kind.Kind.TheVariants.{SequenceExpression}
use Rattle.tree.specs.declared.kind.Pair.{Pair}
use Rattle.tree.specs.Tree.{Tree, node, plain, part, join, height, parts_height}
use Rattle.language.specs.declared.Edge.{Edge}
use Rattle.language.specs.declared.Rank.TheVariants.{Expression, Assignment}
use Rattle.language.specs.Vocabulary.{takes, op_assign, op_comma}
use Rattle.language.specs.Token.{Token, as_read}
use Rattle.language.specs.Continuations.{operation}
use Rattle.language.specs.Promises.{ReadBy}
use Rattle.language.specs.Covers.{Reading, as_expression}
use Rattle.language.specs.Claims.{max_open}
use Rattle.covers.specs.declared.list.ListKind.TheVariants as listed
use Rattle.covers.specs.declared.list.ListBuilder.{ListBuilder as ListOf}
use Rattle.parser_tables.specs.declared.operand.Operand.{Operand}
use Rattle.parser_tables.specs.declared.expression_context.ExpressionContext.{ExpressionContext}
use Rattle.grammar.specs.declared.infix.InfixOperator.{InfixOperator as Coded}
use Rattle.grammar.specs.declared.infix.InfixOperator.TheVariants as code
use Rattle.recursive_descent.specs.Complete.{ListComplete}
use Rattle.recursive_descent.specs.Soundness.{ReadAt}
use Rattle.recursive_descent.specs.Completeness.{Room, EndsWith}
use Rattle.recursive_descent.specs.CompletenessOfLists.{ListGiven}
use Rattle.parser_tables.specs.Items.{item_from, list_from, with_item}
use Rattle.grammar.specs.Infix.{coded_operator}
use Rattle.parser_tables.specs.Operators.{stops_by}
use Rattle.parser_tables.specs.Outcomes.{RefusedUnless}
use Rattle.parser_tables.specs.Operands.{plain_part}
use Rattle.recursive_descent.specs.Stages.{StageAs, Staged, InfixComplete}
use Rattle.recursive_descent.proofs.complete_expressions.Agreement.{agrees_err, agrees_on, ends_behind, refuses_high, refuses_unless, room_part}
use Rattle.token_cursor.proofs.TokensAhead.{ahead_read}
use Rattle.recursive_descent.proofs.complete_expressions.SequencesOnSpine.{CommasOn, commas_on}
use Rattle.recursive_descent.proofs.complete_expressions.SpineTurns.{goes_there}
use Rattle.recursive_descent.proofs.complete_expressions.StageTurns.{OnSpine, spined, spine_only, staged}
use Rattle.recursive_descent.proofs.sound_expressions.InfixTurns.{sequences_by}
use Rattle.token_cursor.specs.SourceText.{SeenNext, behind_in, unseen}
use Rattle.recursive_descent.specs.Spelled.{OfLanguage, AllOfLanguage}

-- the list with the first part
abbrev first_list : Bool → Operand → ListOf
first_list i l = with_item (list_from (listed.Sequence i) l.start) (item_from l.cover.node l.cover.shape false l.edge)

module _ (s : CursorState) (high : ℕ) (p : ExpressionContext) (l : Operand) (v : LexicalToken) {c : Coded} (ahead : IsAhead Div s.text s.last.stop v) (coded : coded_operator (operation (as_read v)) v.text ≡ Some c) (is : c ≡ code.Comma) (goes : stops_by p l.edge (as_read v) ≡ false) where
  -- the parts behind the comma
  commas : (a : Reading) (o : ℕ) (n : Tree) (from to : Token) (P Q R : List Pair) → ReadAt s.text p l (max_open - s.opened) from s.last R → StageAs s.text p o from to P l s.last Q a n → CommasOn s.text p o from to P l s.last Q a n (unseen (as_read v))
  commas a o n from to P Q R read stage = of (spine_only s.text p o from to P l s.last Q a n read.part.begins read.part.edge r goes (λ h. let k : op_comma ≡ op_assign = sym op ∙ h in cc) stage)
    where
      r : ReadBy Token (SeenNext s.text) (behind_in s.text) Div s.last (as_read v) (unseen (as_read v))
      r = ahead_read s.text Div s.last v ahead

      op : operation (as_read v) ≡ op_comma
      op = sequences_by (operation (as_read v)) v.text (coded ∙ ap Some is)

      of : OnSpine s.text p o from to P l s.last Q a n read.part.begins read.part.edge r goes → CommasOn s.text p o from to P l s.last Q a n (unseen (as_read v))
      of (spined serves high u) = commas_on s.text p o from to P l s.last Q a n serves high u read.part.begins r (goes_there s.text p l s.last (as_read v) read.part.edge goes) op

  -- the first part is refused
  pub sequence_refused : (e : CursorState) (old new : List Pair) (answer : Result Operand Fault) (fault : Fault) (At : ℕ → Type 0) → IsErrAnd answer (λ x. x ≡ fault) → RefusedUnless At (takes Assignment l.rank && l.cover.shape.is_expression) fault → InfixComplete s e old new high p l answer
  sequence_refused e old new answer fault At err refused = λ a o n from to P Q R read stage own.
      let u = commas a o n from to P Q R read stage in
      agrees_err (Room s o (height n) high) (λ r. Staged s.text p o from to P r e.last Q old new a n) answer fault err
      (refuses_unless (Room s o (height n) high) At (takes Assignment l.rank && l.cover.shape.is_expression) fault refused (and_from (takes Assignment l.rank) l.cover.shape.is_expression u.fits u.value))

  module _ (m : CursorState) (first : ListOf) (begun : first ≡ first_list p.has_in l) (text : m.text ≡ s.text) (last : m.last ≡ unseen (as_read v)) (open_same : m.opened ≡ s.opened) where
    -- the rest of the list
    list_given : {a : Reading} {o : ℕ} {n : Tree} {from to : Token} {P Q : List Pair} (u : CommasOn s.text p o from to P l s.last Q a n (unseen (as_read v))) → ListGiven m.text first as_expression o (part u.later u.rest) m.last u.to u.more
    list_given {o = o} u =
        subst (λ (k : ListOf). ListGiven m.text k as_expression o (part u.later u.rest) m.last u.to u.more) (sym begun)
        (subst (λ t. ListGiven t (first_list p.has_in l) as_expression o (part u.later u.rest) m.last u.to u.more) (sym text)
        (subst (λ x. ListGiven s.text (first_list p.has_in l) as_expression o (part u.later u.rest) x u.to u.more) (sym last) (record {
          left = u.value;
          mid = u.to;
          runs = u.runs;
          closes = refl;
          last = u.last;
          no_rest = refl;
          lone = refl;
          one_default = refl;
        })))

    -- it is refused
    pub commas_refused : (e e' : CursorState) (old new mid new' : List Pair) (inner : ℕ) (answer : Result Operand Fault) (fault : Fault) → inner ≡ high - 1 → IsErrAnd answer (λ x. x ≡ fault) → ListComplete m e' mid new' inner first (Err fault) → InfixComplete s e old new high p l answer
    commas_refused e e' old new mid new' inner answer fault inner_is err complete = λ a o n from to P Q R read stage own.
        let u = commas a o n from to P Q R read stage in
        let low = u.low in
        agrees_on (Room m o (parts_height (part u.later u.rest)) inner) (Room s o (height n) high) (λ r. Staged s.text p o from to P r e.last Q old new a n) answer fault err
        (complete as_expression o (part u.later u.rest) u.to u.more (list_given u) (subst (λ t. AllOfLanguage t (part u.later u.rest)) (sym text) (u.of_language own))) (λ room. room_part s m open_same (λ fits. omega arith) room)

    module _ (e : CursorState) (old mid new : List Pair) (inner : ℕ) (all : ListOf) (same : mid ≡ old) (complete : ListComplete m e mid new inner first (Ok all)) where
      -- the parts of the whole
      nodes_are : {a : Reading} {o : ℕ} {n : Tree} {from to : Token} {P Q : List Pair} (u : CommasOn s.text p o from to P l s.last Q a n (unseen (as_read v))) → OfLanguage s.text n → (all.nodes ≡ part l.cover.node (part u.later u.rest)) × EndsWith m e mid new u.to u.more
      nodes_are {o = o} u own =
          let k = complete as_expression o (part u.later u.rest) u.to u.more (list_given u) (subst (λ t. AllOfLanguage t (part u.later u.rest)) (sym text) (u.of_language own)) in
          (k.1 ∙ ap (λ (x : ListOf). join x.nodes (part u.later u.rest)) begun, k.2)

      node_is : {a : Reading} {o : ℕ} {n : Tree} {from to : Token} {P Q : List Pair} (u : CommasOn s.text p o from to P l s.last Q a n (unseen (as_read v))) → OfLanguage s.text n → node SequenceExpression [] plain l.start e.last.stop all.nodes ≡ node SequenceExpression [] plain l.start u.to.stop (part l.cover.node (part u.later u.rest))
      node_is u own = let k = nodes_are u own in λ i. node SequenceExpression [] plain l.start (k.1.place i).stop (k.0 i)

      -- the node is refused
      pub sequence_high : (e' : CursorState) (new' : List Pair) (answer : Result Operand Fault) (fault : Fault) (levels : ℕ) → levels ≡ suc (parts_height all.nodes) → IsErrAnd answer (λ x. x ≡ fault) → fault ≡ TooDeep → high < levels → InfixComplete s e' old new' high p l answer
      sequence_high e' new' answer fault levels levels_are err deep above = λ a o n from to P Q R read stage own.
          let u = commas a o n from to P Q R read stage in
          let low = u.low in
          let level : suc (parts_height all.nodes) ≡ suc (parts_height (part l.cover.node (part u.later u.rest))) = ap (λ ps. suc (parts_height ps)) (nodes_are u own).0 in
          agrees_err (Room s o (height n) high) (λ r. Staged s.text p o from to P r e'.last Q old new' a n) answer fault err
          (refuses_high (Room s o (height n) high) levels high fault deep above (λ (room : Room s o (height n) high). let fits = room.1 in omega arith))

      -- the sequence
      pub sequence_staged : (r : Operand) (x : Edge) → r ≡ plain_part (node SequenceExpression [] plain l.start e.last.stop all.nodes) Expression x → InfixComplete s e old new high p l (Ok r)
      sequence_staged r x tree = λ a o n from to P Q R read stage own.
          let u = commas a o n from to P Q R read stage in
          let k = nodes_are u own in
          staged s e (ends_behind same k.1) (u.next r (ap (λ (c : Operand). c.cover.node) tree ∙ node_is u own) (ap (λ (c : Operand). c.rank) tree) (ap (λ (c : Operand). c.cover.shape.is_expression) tree))
