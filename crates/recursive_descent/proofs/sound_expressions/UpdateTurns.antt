-- A turn of the loop at `++` or `--`, and the texts of operators.
use Rattle.std.proofs.Common.{◌≡◌, ℕ, suc, ◌≤◌, ◌<◌, ◌-◌, true, false, List, [], ◌++◌, Result, Err, refl, sym, ap, ◌∙◌, subst, arith}
use Rattle.std.specs.Prelude.{Some}
use Rattle.std.specs.Result.{IsErrAnd}
use Rattle.std.proofs.lemmas.List.{append-nil}
use Rattle.source_text.specs.declared.fault.Fault.{Fault}
use Rattle.source_text.specs.declared.fault.Fault.TheVariants.{TooDeep}
use Rattle.tokens.specs.declared.token.Goal.TheVariants.{Div}
use Rattle.tokens.specs.Tokens.{LexicalToken}
use Rattle.token_cursor.specs.CursorState.{CursorState, IsAhead}
use Rattle.tree.specs.declared.kind.Kind.TheVariants.{UpdateExpression}
use Rattle.tree.specs.declared.kind.Pair.{Pair}
use Rattle.tree.specs.Tree.{Tree, node, plain, Parts, part, none, height, parts_height}
use Rattle.language.specs.declared.Rank.TheVariants.{Update}
use Rattle.language.specs.declared.Edge.TheVariants.{Postfix}
use Rattle.language.specs.Vocabulary.{is_word_operator, op_assign, op_update}
use Rattle.language.specs.Token.{Token, as_read}
use Rattle.language.specs.Continuations.{operation}
use Rattle.language.specs.Promises.{ReadBy}
use Rattle.language.specs.Covers.{Reading}
use Rattle.language.specs.Claims.{max_open}
use Rattle.token_cursor.proofs.SeenTokens.{seen_determined}
use Rattle.language.proofs.table.OperatorTokens.{op_reads}
use Rattle.language.proofs.climbing.OperatorLoop.{Leads, grows_height}
use Rattle.tree.specs.Patterns.{pattern_tree}
use Rattle.covers.specs.Shapes.{is_target}
use Rattle.parser_tables.specs.declared.operand.Operand.{Operand}
use Rattle.parser_tables.specs.declared.expression_context.ExpressionContext.{ExpressionContext}
use Rattle.grammar.specs.declared.infix.InfixOperator.{InfixOperator as Coded}
use Rattle.grammar.specs.declared.infix.InfixOperator.TheVariants as code
use Rattle.recursive_descent.specs.Soundness.{ReadAt}
use Rattle.recursive_descent.specs.Completeness.{Room}
use Rattle.grammar.specs.Infix.{coded_operator}
use Rattle.parser_tables.specs.Operators.{stops_by}
use Rattle.parser_tables.specs.Operands.{plain_part}
use Rattle.parser_tables.specs.Outcomes.{BecomesHere}
use Rattle.recursive_descent.specs.Stages.{StageAs, Staged, InfixComplete}
use Rattle.recursive_descent.proofs.complete_expressions.Agreement.{agrees_err, refuses_high, refuses_unfit}
use Rattle.token_cursor.proofs.TokensAhead.{ahead_read}
use Rattle.recursive_descent.proofs.sound_expressions.BinaryNodes.{own_text}
use Rattle.recursive_descent.proofs.reading.PatternEnds.{simple_itself}
use Rattle.recursive_descent.proofs.complete_expressions.SpineTurns.{goes_there, on_further}
use Rattle.recursive_descent.proofs.sound_expressions.InfixTurns.{some_operator, no_tag, steps_by}
use Rattle.recursive_descent.proofs.complete_subscripts.SubscriptsOnSpine.{step_on}
use Rattle.recursive_descent.proofs.complete_expressions.StageTurns.{OnSpine, spined, spine_only}
use Rattle.token_cursor.specs.SourceText.{SeenNext, behind_in, unseen}

-- an operator that is no tag has the text of its token
pub own_there : (v : LexicalToken) {c : Coded} → coded_operator (operation (as_read v)) v.text ≡ Some c → (c ≡ code.TemplateHead → ⊥) → (as_read v).text ≡ v.text
own_there v op other =
    let r = op_reads (as_read v) refl (some_operator (operation (as_read v)) v.text op) (no_tag (operation (as_read v)) v.text op other) in
    own_text (is_word_operator (as_read v).text) v.class v.text r.0

module _ (s : CursorState) (p : ExpressionContext) (l : Operand) (v : LexicalToken) {c : Coded} (ahead : IsAhead Div s.text s.last.stop v) (coded : coded_operator (operation (as_read v)) v.text ≡ Some c) (is : c ≡ code.PostUpdate) (goes : stops_by p l.edge (as_read v) ≡ false) where
  no_tags : c ≡ code.TemplateHead → ⊥
  no_tags e = let k = sym is ∙ e in cc

  abbrev pub stepped : Tree
  stepped = node UpdateExpression v.text plain l.start v.stop (part (pattern_tree l.cover.node) none)

  -- what stands before it is a target; it is no higher than what is given; and the next stage
  pub record Stepping (o : ℕ) (from to : Token) (P Q : List Pair) (a : Reading) (n : Tree) : Type 0 where
    pub target : is_target l.cover.shape.assigned ≡ true
    pub low : height stepped ≤ height n
    pub next : StageAs s.text p o from to P (plain_part stepped Update Postfix) (unseen (as_read v)) (Q ++ []) a n

  pub stepping : (a : Reading) (o : ℕ) (n : Tree) (from to : Token) (P Q R : List Pair) → ReadAt s.text p l (max_open - s.opened) from s.last R → StageAs s.text p o from to P l s.last Q a n → Stepping o from to P Q a n
  stepping a o n from to P Q R read stage = of (spine_only s.text p o from to P l s.last Q a n read.part.begins read.part.edge r goes (λ h. let k : op_update ≡ op_assign = sym op ∙ h in cc) stage)
    where
      r : ReadBy Token (SeenNext s.text) (behind_in s.text) Div s.last (as_read v) (unseen (as_read v))
      r = ahead_read s.text Div s.last v ahead

      op : operation (as_read v) ≡ op_update
      op = steps_by (operation (as_read v)) v.text (coded ∙ ap Some is)

      of : OnSpine s.text p o from to P l s.last Q a n read.part.begins read.part.edge r goes → Stepping o from to P Q a n
      of (spined {k = k} serves high u) =
          let w = step_on s.text p o from to P l s.last Q a n serves high u read.part.begins r (goes_there s.text p l s.last (as_read v) read.part.edge goes) op in
          let same : node UpdateExpression (as_read v).text plain l.start v.stop (part l.cover.node none) ≡ stepped =
          (let back : l.cover.node ≡ pattern_tree l.cover.node = sym (simple_itself l.cover.node w.target) in let texts = own_there v coded no_tags in λ i. node UpdateExpression (texts i) plain l.start v.stop (part (back i) none)) in
          let leads : Leads Token (SeenNext s.text) (behind_in s.text) (seen_determined s.text) o from p.rank p.has_in p.start k to P Update stepped (unseen (as_read v)) (Q ++ []) = subst (λ d. Leads Token (SeenNext s.text) (behind_in s.text) (seen_determined s.text) o from p.rank p.has_in p.start k to P Update d (unseen (as_read v)) (Q ++ [])) same w.leads in
          let below = grows_height Token (SeenNext s.text) (behind_in s.text) (seen_determined s.text) leads.grows in
          record {
            target = u.target w.target;
            low = omega arith;
            next = on_further s.text {r = plain_part stepped Update Postfix} serves high u leads refl (λ h. cc) (λ h d. cc);
          }

  pub step_staged : {a : Reading} {o : ℕ} {n : Tree} {from to : Token} {P Q : List Pair} → Stepping o from to P Q a n → (r : Operand) (e : CursorState) (old new : List Pair) → e.last ≡ unseen (as_read v) → new ≡ old → r ≡ plain_part (node UpdateExpression v.text plain l.start e.last.stop (part (pattern_tree l.cover.node) none)) Update Postfix →
      Staged s.text p o from to P r e.last Q old new a n
  step_staged {a} {o} {n} {from} {to} {P} {Q} u r e old new last same tree =
      let made : plain_part stepped Update Postfix ≡ r = sym (tree ∙ ap (λ (k : Token). plain_part (node UpdateExpression v.text plain l.start k.stop (part (pattern_tree l.cover.node) none)) Update Postfix) last) in
      record {
        more = [];
        added = same ∙ sym (append-nil old);
        stage = subst (λ d. StageAs s.text p o from to P r d (Q ++ []) a n) (sym last) (subst (λ d. StageAs s.text p o from to P d (unseen (as_read v)) (Q ++ []) a n) made u.next);
      }

  -- what stands before it is no target, or the node is higher than allowed
  module _ (high : ℕ) (e : CursorState) (old new : List Pair) (answer : Result Operand Fault) (fault : Fault) (err : IsErrAnd answer (λ x. x ≡ fault)) where
    pub step_unfit : (t : Tree) → BecomesHere t (is_target l.cover.shape.assigned) s (Err fault) → InfixComplete s e old new high p l answer
    step_unfit t unfit = λ a o n from to P Q R read stage own.
        let u = stepping a o n from to P Q R read stage in
        agrees_err (Room s o (height n) high) (λ r. Staged s.text p o from to P r e.last Q old new a n) answer fault err (refuses_unfit (Room s o (height n) high) t (is_target l.cover.shape.assigned) s fault unfit u.target)

    pub step_high : (levels : ℕ) {nodes : Parts} → nodes ≡ part (pattern_tree l.cover.node) none → levels ≡ suc (parts_height nodes) → fault ≡ TooDeep → high < levels → InfixComplete s e old new high p l answer
    step_high levels {nodes} nodes_are levels_are deep above = λ a o n from to P Q R read stage own.
        let u = stepping a o n from to P Q R read stage in
        let low = u.low in
        let level : suc (parts_height nodes) ≡ suc (parts_height (part (pattern_tree l.cover.node) none)) = ap (λ ps. suc (parts_height ps)) nodes_are in
        agrees_err (Room s o (height n) high) (λ r. Staged s.text p o from to P r e.last Q old new a n) answer fault err
        (refuses_high (Room s o (height n) high) levels high fault deep above (λ (room : Room s o (height n) high). let fits = room.1 in omega arith))
