-- A turn of the loop: from a stage of what is given to the next, by what the operator that stands ahead makes.
use Rattle.std.proofs.Common.{◌≡◌, ◌⊎◌, ℕ, Bool, true, false, List, [], ◌++◌, Result, Ok, Err, refl, sym, ap, ◌∙◌, subst, inl, inr, arith}
use Rattle.std.specs.Prelude.{IfOk, codes, Option, Some}
use Rattle.std.proofs.lemmas.Bool.{false≢true}
use Rattle.std.proofs.lemmas.Slice.Eq.{bytes_eq-Decides}
use Rattle.source_text.specs.declared.fault.Fault.{Fault}
use Rattle.tokens.specs.declared.token.Goal.TheVariants.{Div}
use Rattle.tokens.specs.declared.token.Token.{Token as Scanned}
use Rattle.tokens.specs.Scanned.{token_of}
use Rattle.tokens.specs.Tokens.{LexicalToken}
use Rattle.token_cursor.specs.CursorState.{CursorState, IsAhead}
use Rattle.tree.specs.declared.kind.Pair.{Pair}
use Rattle.tree.specs.Tree.{Tree, node, plain, part, height}
use Rattle.language.specs.declared.Rank.{Rank}
use Rattle.language.specs.declared.Edge.{Edge}
use Rattle.language.specs.declared.Edge.TheVariants.{Other}
use Rattle.language.specs.Vocabulary.{is, Operator, op_binary, op_power, op_assign, op_update, op_comma, op_question, op_dot, op_call, op_index, op_optional, op_arrow, op_template, op_none}
use Rattle.language.specs.Token.{Token, as_read}
use Rattle.language.specs.Edges.{edge, edge_as_written}
use Rattle.language.specs.Continuations.{operation, rank_made_by}
use Rattle.language.specs.Promises.{ReadBy}
use Rattle.language.specs.Covers.{Reading}
use Rattle.token_cursor.proofs.SeenTokens.{seen_determined}
use Rattle.language.proofs.climbing.SpineContinuations.{makes}
use Rattle.language.proofs.climbing.Conditionals.{read_there}
use Rattle.parser_tables.specs.declared.operand.Operand.{Operand}
use Rattle.parser_tables.specs.declared.expression_context.ExpressionContext.{ExpressionContext}
use Rattle.grammar.specs.declared.infix.InfixOperator.{InfixOperator as Coded}
use Rattle.grammar.specs.declared.infix.InfixOperator.TheVariants as code
use Rattle.grammar.specs.declared.infix.BinaryOperator.{BinaryOperator}
use Rattle.recursive_descent.specs.Soundness.{Begins, grouping}
use Rattle.recursive_descent.specs.Completeness.{Agrees, Room, EndsWith}
use Rattle.recursive_descent.specs.Complete.{BinaryRestComplete, SubscriptComplete}
use Rattle.grammar.specs.Infix.{coded_operator, meant}
use Rattle.parser_tables.specs.Operators.{stops_by}
use Rattle.recursive_descent.specs.Subscripts.{link_kind, link_flags, link_rank, is_calling}
use Rattle.parser_tables.specs.Operands.{plain_part}
use Rattle.recursive_descent.specs.LeftOperands.{left_of, operator_text_of}
use Rattle.recursive_descent.specs.Stages.{SpineAs, IsLeft, EndsOver, an_element, a_target, Serves, StageAs, on_spine, at_pattern, at_default, at_end, Staged, InfixComplete}
use Rattle.recursive_descent.proofs.complete_expressions.Agreement.{refuses_on}
use Rattle.token_cursor.proofs.TokensAhead.{ahead_read}
use Rattle.recursive_descent.proofs.reading.PatternEnds.{over_stops_at, each_stops, each_there}
use Rattle.recursive_descent.proofs.complete_expressions.SpineTurns.{goes_there}
use Rattle.recursive_descent.proofs.complete_expressions.RightOperandStages.{SidesOn, binary_on, power_on, assign_on, ask_sides, pattern_on, default_on}
use Rattle.recursive_descent.proofs.complete_subscripts.SubscriptsOnSpine.{LinkOn, dot_link, index_link, call_link, tag_link}
use Rattle.token_cursor.specs.SourceText.{SourceText, SeenNext, behind_in, unseen}

coded_same : {a b : Coded} → Some a ≡ Some b → a ≡ b
coded_same h = cc

-- an operator with right sides
abbrev pub IsSided : Coded → Type 0
IsSided c = ((x : BinaryOperator) × c ≡ code.Binary x) ⊎ (((x : Bool) × c ≡ code.Assign x) ⊎ (c ≡ code.Question))

abbrev pub IsLinked : Coded → Type 0
IsLinked c = (c ≡ code.Dot) ⊎ ((c ≡ code.OpenParen) ⊎ ((c ≡ code.OpenBracket) ⊎ (c ≡ code.TemplateHead)))

abbrev is_sided : Coded → Bool
is_sided (code.Binary x) = true
is_sided (code.Assign b) = true
is_sided code.Question = true
is_sided _ = false

sided_is : {c : Coded} → IsSided c → is_sided c ≡ true
sided_is (inl h) = ap is_sided h.1
sided_is (inr (inl h)) = ap is_sided h.1
sided_is (inr (inr h)) = ap is_sided h

abbrev is_linked : Coded → Bool
is_linked code.Dot = true
is_linked code.OpenParen = true
is_linked code.OpenBracket = true
is_linked code.TemplateHead = true
is_linked _ = false

linked_is : {c : Coded} → IsLinked c → is_linked c ≡ true
linked_is (inl h) = ap is_linked h
linked_is (inr (inl h)) = ap is_linked h
linked_is (inr (inr (inl h))) = ap is_linked h
linked_is (inr (inr (inr h))) = ap is_linked h

no_sided : {A : Type 0} {c d : Coded} → Some d ≡ Some c → is_sided d ≡ false → is_sided c ≡ true → A
no_sided h k l = absurd (false≢true (sym k ∙ ap is_sided (coded_same h) ∙ l))

no_linked : {A : Type 0} {c d : Coded} → Some d ≡ Some c → is_linked d ≡ false → is_linked c ≡ true → A
no_linked h k l = absurd (false≢true (sym k ∙ ap is_linked (coded_same h) ∙ l))

-- what was answered is told in other words
pub agrees_through : {X : Type 0} (Inner W : Type 0) (SameInner Same : X → Type 0) (result : Result X Fault) → Agrees Inner SameInner result → (W → Inner) → ((x : X) → result ≡ Ok x → SameInner x → Same x) → Agrees W Same result
agrees_through Inner W SameInner Same (Ok x) h f g = g x refl h
agrees_through Inner W SameInner Same (Err fault) h f g = refuses_on Inner W fault h f

ok_then : {X : Type 0} (B : X → Type 0) (result : Result X Fault) {x : X} → IfOk result B → result ≡ Ok x → B x
ok_then B result {x} h e = subst (λ r. IfOk r B) e h

pub staged : {text : SourceText} {p : ExpressionContext} {o : ℕ} {s to at : Token} {P Q M : List Pair} {r : Operand} {a : Reading} {n : Tree} (m e : CursorState) {old new : List Pair} → EndsWith m e old new at M → StageAs text p o s to P r at (Q ++ M) a n → Staged text p o s to P r e.last Q old new a n
staged {text} {p} {o} {s} {to} {at} {P} {Q} {M} {r} {a} {n} m e ends stage = record {
  more = ends.more;
  added = ends.added;
  stage = subst (λ v. StageAs text p o s to P r v (Q ++ grouping ends.more) a n) (sym ends.place) (subst (λ v. StageAs text p o s to P r at (Q ++ v) a n) (sym ends.pairs) stage);
}

module _ (text : SourceText) where
  -- where it has ended nothing goes on
  pub no_end : {p : ExpressionContext} {e m t x : Token} (c : Edge) → EndsOver text p e → m ≡ e → ReadBy Token (SeenNext text) (behind_in text) Div m t x → stops_by p c t ≡ false → ⊥
  no_end {p} {e} {m} {t} {x} c (an_element is over) place r goes =
      let r' = subst (λ v. ReadBy Token (SeenNext text) (behind_in text) Div v t x) place r in
      false≢true (sym (subst (λ q. stops_by q c t ≡ false) is goes) ∙ over_stops_at Rattle.language.specs.declared.Rank.TheVariants.Assignment true c t (rank_made_by (operation t) t.after_break) refl (over.before t x r'))
  no_end {p} {e} {m} {t} {x} c (a_target is each apart) place r goes =
      let r' = subst (λ v. ReadBy Token (SeenNext text) (behind_in text) Div v t x) place r in
      false≢true (sym (subst (λ q. stops_by q c t ≡ false) is goes) ∙ each_stops c t (each_there text each r'))

  -- behind a pattern an assignment goes on
  pub left_op : {p : ExpressionContext} {o : ℕ} {s e : Token} {P : List Pair} {l : Operand} {m : Token} {Q : List Pair} {b : Bool} {left : Tree} {y t x : Token} → IsLeft text p o s e P l m Q b left y → ReadBy Token (SeenNext text) (behind_in text) Div m t x → (operation t ≡ op_assign) × (t.text ≡ codes "=")
  left_op {y = y} v r = let same = read_there Token (SeenNext text) (behind_in text) (seen_determined text) v.sign refl r in (ap operation same.0 ∙ makes (behind_in text y) v.sign.class v.sign.text refl, ap (λ k. k.text) same.0 ∙ v.sign.text)

  module _ (p : ExpressionContext) (o : ℕ) (s e : Token) (P : List Pair) (l : Operand) (m : Token) (Q : List Pair) (a : Reading) (n : Tree) (begins : Begins text l.start s) (at : l.edge ≡ edge_as_written (edge l.cover.node) m) {t x : Token} (r : ReadBy Token (SeenNext text) (behind_in text) Div m t x) (goes : stops_by p l.edge t ≡ false) where
    told : {c d : Coded} {w v : List ℕ} {z y : Option Rank} → c ≡ d → w ≡ v → z ≡ y → SidesOn text p o s e P l m Q a n c w x z → SidesOn text p o s e P l m Q a n d v x y
    told {c} {d} {w} {v} {z} {y} h k j u = subst (λ i. SidesOn text p o s e P l m Q a n d v x i) j (subst (λ i. SidesOn text p o s e P l m Q a n d i x z) k (subst (λ i. SidesOn text p o s e P l m Q a n i w x z) h u))

    equal_coded : (w : List ℕ) → w ≡ codes "=" → code.Assign true ≡ code.Assign (is w "=")
    equal_coded w h = ap code.Assign (sym ((bytes_eq-Decides w (codes "=")).1 h))

    pub sides_on : (c : Coded) (w : List ℕ) → t.text ≡ w → coded_operator (operation t) w ≡ Some c → is_sided c ≡ true → StageAs text p o s e P l m Q a n → SidesOn text p o s e P l m Q a n c w x (rank_made_by (operation t) t.after_break)
    sides_on c w is_w coded sided (on_spine {k = k} serves high u) = go (operation t) refl coded
      where
        there : {y : Option Rank} {z : Operator} → operation t ≡ z → rank_made_by z t.after_break ≡ y → y ≡ rank_made_by (operation t) t.after_break
        there op h = sym (ap (λ v. rank_made_by v t.after_break) op ∙ h)

        go : (z : Operator) → operation t ≡ z → coded_operator z w ≡ Some c → SidesOn text p o s e P l m Q a n c w x (rank_made_by (operation t) t.after_break)
        go (op_binary lg y q) op h = told (coded_same h) is_w (there op refl) (binary_on text p o s e P l m Q a n serves high u begins r (goes_there text p l m t at goes) op)
        go op_power op h = told (coded_same h) is_w (there op refl) (power_on text p o s e P l m Q a n serves high u begins r (goes_there text p l m t at goes) op)
        go op_assign op h = told (ap (λ v. code.Assign (is v "=")) is_w ∙ coded_same h) is_w (there op refl) (assign_on text p o s e P l m Q a n serves high u begins r (goes_there text p l m t at goes) op (is t.text "=") (λ v. v))
        go op_question op h = told (coded_same h) is_w (there op refl) (ask_sides text p o s e P l m Q a n serves high u begins r (goes_there text p l m t at goes) op)
        go op_update op h = no_sided h refl sided
        go op_comma op h = no_sided h refl sided
        go op_dot op h = no_sided h refl sided
        go op_call op h = no_sided h refl sided
        go op_index op h = no_sided h refl sided
        go op_optional op h = no_sided h refl sided
        go op_arrow op h = no_sided h refl sided
        go op_template op h = no_sided h refl sided
        go op_none op h = cc
    sides_on c w is_w coded sided (at_pattern reading u) =
        let op = left_op u.is_left r in
        told (equal_coded w (sym is_w ∙ op.1) ∙ coded_same (sym (ap (λ v. coded_operator v w) op.0) ∙ coded)) is_w (sym (ap (λ v. rank_made_by v t.after_break) op.0)) (pattern_on text p o s e P l m Q a n begins r reading u)
    sides_on c w is_w coded sided (at_default reading u) =
        let op = left_op u.is_left r in
        told (equal_coded w (sym is_w ∙ op.1) ∙ coded_same (sym (ap (λ v. coded_operator v w) op.0) ∙ coded)) is_w (sym (ap (λ v. rank_made_by v t.after_break) op.0)) (default_on text p o s e P l m Q a n begins r reading u)
    sides_on c w is_w coded sided (at_end reading read place pairs over) = absurd (no_end l.edge over place r goes)

    -- an operator other than `=` goes on on the spine of an expression
    pub data OnSpine : Type 0 where
      spined : {k : Tree} → Serves text p o s e P l m Q a n k → height k ≡ height n → SpineAs text p o s e P l m Q k → OnSpine

    pub spine_only : (operation t ≡ op_assign → ⊥) → StageAs text p o s e P l m Q a n → OnSpine
    spine_only other (on_spine serves high u) = spined serves high u
    spine_only other (at_pattern reading u) = absurd (other (left_op u.is_left r).0)
    spine_only other (at_default reading u) = absurd (other (left_op u.is_left r).0)
    spine_only other (at_end reading read place pairs over) = absurd (no_end l.edge over place r goes)

    pub link_on : (c : Coded) (w : List ℕ) → coded_operator (operation t) w ≡ Some c → is_linked c ≡ true → StageAs text p o s e P l m Q a n → LinkOn text p o s e P l m Q a n
    link_on c w coded linked stage = of (spine_only (λ op. no_linked (sym (ap (λ v. coded_operator v w) op) ∙ coded) refl linked) stage)
      where
        of : OnSpine → LinkOn text p o s e P l m Q a n
        of (spined {k = k} serves high u) = go (operation t) refl coded
          where
            go : (z : Operator) → operation t ≡ z → coded_operator z w ≡ Some c → LinkOn text p o s e P l m Q a n
            go op_dot op h = dot_link text p o s e P l m Q a n serves high u begins r (goes_there text p l m t at goes) op
            go op_index op h = index_link text p o s e P l m Q a n serves high u begins r (goes_there text p l m t at goes) op
            go op_call op h = call_link text p o s e P l m Q a n serves high u begins r (goes_there text p l m t at goes) op
            go op_template op h = tag_link text p o s e P l m Q a n serves high u begins r (goes_there text p l m t at goes) op
            go (op_binary lg y q) op h = no_linked h refl linked
            go op_power op h = no_linked h refl linked
            go op_assign op h = no_linked h refl linked
            go op_question op h = no_linked h refl linked
            go op_update op h = no_linked h refl linked
            go op_comma op h = no_linked h refl linked
            go op_optional op h = no_linked h refl linked
            go op_arrow op h = no_linked h refl linked
            go op_none op h = cc

-- an operator with right sides
pub turn_sided : (s e : CursorState) (old new : List Pair) (high : ℕ) (p : ExpressionContext) (l : Operand) (t : Scanned) (c : Coded) (result : Result Operand Fault) → IsAhead Div s.text s.last.stop (token_of t) → (as_read (token_of t)).text ≡ t.text.now → coded_operator (operation (as_read (token_of t))) t.text.now ≡ Some c → IsSided c →
    stops_by p l.edge (as_read (token_of t)) ≡ false → BinaryRestComplete s e old new high l t c p.has_in result → IfOk result (λ q. rank_made_by (meant c) t.after_break ≡ Some q.rank) → rank_made_by (meant c) t.after_break ≡ rank_made_by (operation (as_read (token_of t))) t.after_break → InfixComplete s e old new high p l result
turn_sided s e old new high p l t c result ahead texts coded sided goes complete rank symbol a o n from to P Q R read stage own =
    let r = ahead_read s.text Div s.last (token_of t) ahead in
    let u = sides_on s.text p o from to P l s.last Q a n read.part.begins read.part.edge r goes c t.text.now texts coded (sided_is sided) stage in
    let low = u.low in
    let made = node (left_of c l).kind (operator_text_of (left_of c l).kind t.text.now) plain l.start u.to.stop (part (left_of c l).node u.sides) in
    agrees_through (Room s o (height made) high) (Room s o (height n) high) (λ r. (r.cover.node ≡ made) × (r.cover.shape ≡ (left_of c l).shape) × EndsWith s e old new u.to u.more) (λ r. Staged s.text p o from to P r e.last Q old new a n) result (complete u.sides o (unseen (as_read (token_of t))) u.to u.more r.next u.given u.fits (u.of_language own)) (λ room. (room.0, let high = room.1 in omega arith))
    (λ q ok h. staged s e h.2 (u.next q h.0 h.1 (sym symbol ∙ ok_then (λ (d : Operand). rank_made_by (meant c) t.after_break ≡ Some d.rank) result rank ok)))

-- a member, arguments or a template
pub turn_linked : (s e : CursorState) (old new : List Pair) (high : ℕ) (p : ExpressionContext) (l : Operand) (v : LexicalToken) (c : Coded) (result : Result Operand Fault) → IsAhead Div s.text s.last.stop v → coded_operator (operation (as_read v)) v.text ≡ Some c → IsLinked c →
    stops_by p l.edge (as_read v) ≡ false → SubscriptComplete s e old new high l result → InfixComplete s e old new high p l result
turn_linked s e old new high p l v c result ahead coded linked goes complete a o n from to P Q R read stage own =
    let r = ahead_read s.text Div s.last v ahead in
    let u = link_on s.text p o from to P l s.last Q a n read.part.begins read.part.edge r goes c v.text coded (linked_is linked) stage in
    let low = u.low in
    let made = node (link_kind u.linked) [] (link_flags u.linked false) l.start u.to.stop (part l.cover.node u.parts) in
    agrees_through (Room s o (height made) high) (Room s o (height n) high) (λ r. (r ≡ plain_part made (link_rank u.linked (is_calling l.rank)) Other) × EndsWith s e old new u.to u.more) (λ r. Staged s.text p o from to P r e.last Q old new a n) result (complete u.linked false u.parts o u.to u.more u.runs u.fits u.value (u.of_language own)) (λ room. (room.0, let high = room.1 in omega arith))
    (λ q ok h. staged s e h.1 (u.next q h.0))
