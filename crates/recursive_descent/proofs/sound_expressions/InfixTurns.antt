-- What goes on with an expression, turn by turn (ECMA-262 12.3, 12.4, 12.16).
use Rattle.std.proofs.Common.{◌≡◌, ℕ, Bool, true, false, cond, List, [], ◌∷◌, ◌++◌, refl, sym, ap, ◌∙◌, subst, ◌⊎◌, inl, inr, Result, Ok, Err}
use Rattle.std.specs.Prelude.{IsTrue, IfOk, Option, Some, None, codes, not, ◌&&◌, ◌||◌}
use Rattle.std.proofs.lemmas.Bool.{and_parts, false≢true, true≢false}
use Rattle.std.proofs.lemmas.Slice.Eq.{bytes_eq-Decides}
use Rattle.std.proofs.lemmas.Option.{none-some}
use Rattle.source_text.specs.declared.fault.Fault.{Fault}
use Rattle.tokens.specs.Tokens.{LexicalToken}
use Rattle.tokens.specs.declared.token.TokenClass.TheVariants.{IdentifierName, Punctuator}
use Rattle.tokens.specs.declared.token.Goal.TheVariants.{Div}
use Rattle.token_cursor.specs.CursorState.{CursorState, IsAhead}
use Rattle.tree.specs.declared.kind.Kind.TheVariants.{UpdateExpression, SequenceExpression}
use Rattle.tree.specs.declared.kind.Pair.{Pair}
use Rattle.tree.specs.Tree.{Tree, node, plain, Parts, none, part, gap, bare_parts, flags_of}
use Rattle.tree.specs.Patterns.{pattern_tree}
use Rattle.covers.specs.Shapes as shapes
use Rattle.covers.specs.Lists.{closing}
use Rattle.covers.specs.declared.list.ListKind.TheVariants as listed
use Rattle.covers.specs.declared.list.ListBuilder.{ListBuilder as ListOf}
use Rattle.language.specs.declared.Rank.{Rank}
use Rattle.language.specs.declared.Rank.TheVariants.{Expression, Assignment, Update, LeftHandSide}
use Rattle.language.specs.declared.Start.{Start}
use Rattle.language.specs.declared.Start.TheVariants.{Any}
use Rattle.language.specs.declared.Edge.{Edge}
use Rattle.language.specs.declared.Edge.TheVariants.{Arrow, Postfix, Other, Closed}
use Rattle.language.specs.Vocabulary.{is, takes, is_word_operator, operator_of, Operator, op_binary, op_power, op_assign, op_update, op_comma, op_question, op_dot, op_call, op_index, op_optional, op_arrow, op_template, op_none}
use Rattle.language.specs.Covers.{as_expression, as_pattern}
use Rattle.language.specs.Pieces.{expr, Piece, sub, left, tail, sign, sp}
use Rattle.language.specs.Token.{Token, as_read, table_text, is_token}
use Rattle.language.specs.Edges.{last_edge, edge_as_written}
use Rattle.language.specs.Expressions.{sequence}
use Rattle.language.specs.Continuations.{operation, rank_made_by, holds}
use Rattle.language.specs.Derivation.{step, within, token, laid, Reads}
use Rattle.language.proofs.table.Begins.{goes_to}
use Rattle.language.proofs.climbing.OperatorNodes.{postfix_grows, sequence_grows}
use Rattle.language.proofs.climbing.SpineContinuations.{makes, steps_no_word}
use Rattle.language.proofs.table.RightEdges.{edged}
use Rattle.language.proofs.list_loops.FirstPieces.{run_never}
use Rattle.language.proofs.table.OperatorTokens.{op_reads, reads_call, reads_chain, reads_comma, reads_dot}
use Rattle.token_cursor.proofs.SeenTokens.{seen_determined}
use Rattle.parser_tables.specs.declared.operand.Operand.{Operand}
use Rattle.parser_tables.specs.declared.expression_context.ExpressionContext.{ExpressionContext}
use Rattle.grammar.specs.declared.infix.BinaryOperator.{BinaryOperator}
use Rattle.grammar.specs.declared.infix.InfixOperator.{InfixOperator as Coded}
use Rattle.grammar.specs.declared.infix.InfixOperator.TheVariants as code
use Rattle.recursive_descent.specs.declared.subscripts.Subscript.TheVariants as link
use Rattle.recursive_descent.specs.Follows.{LinkedAt}
use Rattle.recursive_descent.specs.Subscripts.{link_by}
use Rattle.recursive_descent.specs.Soundness.{RunsIn, Begins, minds_in, PartAt, ReadsOn, GoesOn, Links, Adds}
use Rattle.recursive_descent.specs.SoundnessOfLists.{several, two_or_more, stood_in, item_pieces, is_whole, whole_of, asks_edge, SoFarAt, ListAt, ClosedBy}
use Rattle.parser_tables.specs.Items.{list_from, with_item, item_from}
use Rattle.grammar.specs.Infix.{coded_operator, meant}
use Rattle.parser_tables.specs.Operators.{stops_by}
use Rattle.parser_tables.specs.Operands.{plain_part}
use Rattle.token_cursor.specs.Seen.{ReadsHere, Sees, Misses}
use Rattle.parser_tables.specs.StatementNodes.{is_closed}
use Rattle.recursive_descent.proofs.reading.AddedPairs.{adds_behind, adds_none}
use Rattle.token_cursor.proofs.TokensAhead.{ahead_read, class_of, mark_missed, ahead_next}
use Rattle.recursive_descent.proofs.sound_expressions.BinaryNodes.{own_text, sign_here, target_spelled}
use Rattle.recursive_descent.proofs.reading.RemainingArms.{enclosed_ahead}
use Rattle.recursive_descent.proofs.sound_expressions.ExpressionParts.{placed_at, value_part}
use Rattle.token_cursor.specs.SourceText.{SourceText, SeenNext, behind_in, unseen}
use Rattle.recursive_descent.specs.Spelled.{SpellsIn}
use Rattle.recursive_descent.proofs.reading.SeenClasses.{as_here}
use Rattle.language.specs.declared.Language.TheVariants.{Base}

-- what the code has for an operator
coded_same : {a b : Coded} → Some a ≡ Some b → a ≡ b
coded_same h = cc

pub meant_symbol : (x : Operator) (w : List ℕ) (b : Bool) {c : Coded} → coded_operator x w ≡ Some c → rank_made_by (meant c) b ≡ rank_made_by x b
meant_symbol (op_binary l z q) w b h = ap (λ k. rank_made_by (meant k) b) (sym (coded_same h))
meant_symbol op_power w b h = ap (λ k. rank_made_by (meant k) b) (sym (coded_same h))
meant_symbol op_assign w b h = ap (λ k. rank_made_by (meant k) b) (sym (coded_same h))
meant_symbol op_update w b h = ap (λ k. rank_made_by (meant k) b) (sym (coded_same h))
meant_symbol op_comma w b h = ap (λ k. rank_made_by (meant k) b) (sym (coded_same h))
meant_symbol op_question w b h = ap (λ k. rank_made_by (meant k) b) (sym (coded_same h))
meant_symbol op_dot w b h = ap (λ k. rank_made_by (meant k) b) (sym (coded_same h))
meant_symbol op_call w b h = ap (λ k. rank_made_by (meant k) b) (sym (coded_same h))
meant_symbol op_index w b h = ap (λ k. rank_made_by (meant k) b) (sym (coded_same h))
meant_symbol op_optional w b h = ap (λ k. rank_made_by (meant k) b) (sym (coded_same h))
meant_symbol op_arrow w b h = ap (λ k. rank_made_by (meant k) b) (sym (coded_same h))
meant_symbol op_template w b h = ap (λ k. rank_made_by (meant k) b) (sym (coded_same h))
meant_symbol op_none w b h = cc

pub steps_by : (x : Operator) (w : List ℕ) → coded_operator x w ≡ Some code.PostUpdate → x ≡ op_update
steps_by op_update w h = refl
steps_by _ w h = cc

pub sequences_by : (x : Operator) (w : List ℕ) → coded_operator x w ≡ Some code.Comma → x ≡ op_comma
sequences_by op_comma w h = refl
sequences_by _ w h = cc

pub chains_by : (x : Operator) (w : List ℕ) → coded_operator x w ≡ Some code.QuestionDot → x ≡ op_optional
chains_by op_optional w h = refl
chains_by _ w h = cc

pub selects_by : (x : Operator) (w : List ℕ) → coded_operator x w ≡ Some code.Dot → x ≡ op_dot
selects_by op_dot w h = refl
selects_by _ w h = cc

pub calls_by : (x : Operator) (w : List ℕ) → coded_operator x w ≡ Some code.OpenParen → x ≡ op_call
calls_by op_call w h = refl
calls_by _ w h = cc

-- an operator that the code has is none but a tag, if that is excluded
pub some_operator : (x : Operator) (w : List ℕ) {c : Coded} → coded_operator x w ≡ Some c → x ≡ op_none → ⊥
some_operator x w {c} h e = of (sym (ap (λ k. coded_operator k w) e) ∙ h)
  where
    of : None ≡ Some c → ⊥
    of k = cc

pub no_tag : (x : Operator) (w : List ℕ) {c : Coded} → coded_operator x w ≡ Some c → (c ≡ code.TemplateHead → ⊥) → x ≡ op_template → ⊥
no_tag x w h other e = other (sym (coded_same (sym (ap (λ k. coded_operator k w) e) ∙ h)))

-- what the test says where something goes on
record GoesBy (p : ExpressionContext) (x : Edge) (t : Token) : Type 0 where
  symbol : Rank
  makes_it : rank_made_by (operation t) t.after_break ≡ Some symbol
  taken : takes p.rank symbol ≡ true
  has_in : (is t.text "in" && not p.has_in) ≡ false

both_fit : (a b d : Bool) → (not a || (b || not d)) ≡ false → (a ≡ true) × (b ≡ false)
both_fit true false d h = (refl, refl)
both_fit true true d h = absurd (true≢false h)
both_fit false b d h = absurd (true≢false h)

goes_by : (p : ExpressionContext) (x : Edge) (t : Token) → stops_by p x t ≡ false → GoesBy p x t
goes_by p x t h = go (rank_made_by (operation t) t.after_break) refl h
  where
    go : (z : Option Rank) → rank_made_by (operation t) t.after_break ≡ z → Rattle.language.specs.Continuations.stops_at p.rank p.has_in x t z ≡ false → GoesBy p x t
    go None e k = absurd (true≢false k)
    go (Some z) e k = let u = both_fit (takes p.rank z) (is t.text "in" && not p.has_in) (holds x z) k in record { symbol = z; makes_it = e; taken = u.0; has_in = u.1 }

-- an operator with a right side is no tag
pub no_tag_there : {c : Coded} → ((x : BinaryOperator) × c ≡ code.Binary x) ⊎ (((x : Bool) × c ≡ code.Assign x) ⊎ (c ≡ code.Question)) → c ≡ code.TemplateHead → ⊥
no_tag_there {c} (inl h) e = of h.0 (sym h.1 ∙ e)
  where
    of : (x : BinaryOperator) → code.Binary x ≡ code.TemplateHead → ⊥
    of x k = cc
no_tag_there {c} (inr (inl h)) e = of h.0 (sym h.1 ∙ e)
  where
    of : (x : Bool) → code.Assign x ≡ code.TemplateHead → ⊥
    of x k = cc
no_tag_there (inr (inr h)) e = let k = sym h ∙ e in cc

-- so In matters by its own characters
pub in_there : (p : ExpressionContext) (x : Edge) (v : LexicalToken) {c : Coded} → coded_operator (operation (as_read v)) v.text ≡ Some c → (c ≡ code.TemplateHead → ⊥) → stops_by p x (as_read v) ≡ false → (is v.text "in" && not p.has_in) ≡ false
in_there p x v op other goes =
    let r = op_reads (as_read v) refl (some_operator (operation (as_read v)) v.text op) (no_tag (operation (as_read v)) v.text op other) in
    let same : table_text v.class v.text ≡ v.text = own_text (is_word_operator (as_read v).text) v.class v.text r.0 in
    subst (λ (w : List ℕ). (is w "in" && not p.has_in) ≡ false) same (goes_by p x (as_read v) goes).has_in

rank_same : {a b : Rank} → Some a ≡ Some b → b ≡ a
rank_same h = cc

-- the symbol of what the operator makes is taken
symbol_taken : (p : ExpressionContext) (x : Edge) (v : LexicalToken) {z : Rank} → stops_by p x (as_read v) ≡ false → rank_made_by (operation (as_read v)) v.after_break ≡ Some z → takes p.rank z ≡ true
symbol_taken p x v goes is = let g = goes_by p x (as_read v) goes in subst (λ (y : Rank). takes p.rank y ≡ true) (rank_same (sym is ∙ g.makes_it)) g.taken

-- what was read at the position goes on as an expression does
reads_on : {text : SourceText} {p : ExpressionContext} {l r : Operand} {o : ℕ} {m e : Token} {Q : List Pair} → takes p.rank r.rank ≡ true → GoesOn text p.has_in l r o m e Q → ReadsOn text p l r o m e Q
reads_on {p = p} tk u s P v = record { taken = λ n. tk; part = u p.start s P v.part }

-- an operator with a right side
pub sided_on : (s e : CursorState) (old new : List Pair) (p : ExpressionContext) (l : Operand) (v : LexicalToken) {c : Coded} (r : Result Operand Fault) → coded_operator (operation (as_read v)) v.text ≡ Some c → stops_by p l.edge (as_read v) ≡ false →
    IfOk r (λ q. Adds s e old new (GoesOn s.text p.has_in l q)) → IfOk r (λ q. rank_made_by (meant c) v.after_break ≡ Some q.rank) → IfOk r (λ q. Adds s e old new (ReadsOn s.text p l q))
sided_on s e old new p l v (Ok q) op goes a rank = adds_behind refl refl a (λ o Q u. reads_on (symbol_taken p l.edge v goes (sym (meant_symbol (operation (as_read v)) v.text v.after_break op) ∙ rank)) u)
sided_on s e old new p l v (Err fault) op goes a rank = tt

-- a chain
pub chain_there : (s : CursorState) (v : LexicalToken) {c : Coded} → IsAhead Div s.text s.last.stop v → coded_operator (operation (as_read v)) v.text ≡ Some c → c ≡ code.QuestionDot → Sees s.text Punctuator (codes "?.") s.last
chain_there s v ahead op is = (unseen (as_read v), as_here s.text (reads_chain Token (SeenNext s.text) (behind_in s.text) (ahead_next s.text Div s.last v ahead) (chains_by (operation (as_read v)) v.text (op ∙ ap Some is))))

-- a member or a call
pub dot_there : (s : CursorState) (v : LexicalToken) {c : Coded} → IsAhead Div s.text s.last.stop v → coded_operator (operation (as_read v)) v.text ≡ Some c → c ≡ code.Dot → Sees s.text Punctuator (codes ".") s.last
dot_there s v ahead op is = (unseen (as_read v), as_here s.text (reads_dot Token (SeenNext s.text) (behind_in s.text) (ahead_next s.text Div s.last v ahead) (selects_by (operation (as_read v)) v.text (op ∙ ap Some is))))

pub call_there : (s : CursorState) (v : LexicalToken) {c : Coded} → IsAhead Div s.text s.last.stop v → coded_operator (operation (as_read v)) v.text ≡ Some c → c ≡ code.OpenParen → LinkedAt s s link.Arguments false
call_there s v ahead op is =
    let r : Reads Token (SeenNext s.text) (behind_in s.text) Punctuator (codes "(") s.last (as_read v) (unseen (as_read v)) = reads_call Token (SeenNext s.text) (behind_in s.text) (ahead_next s.text Div s.last v ahead) (calls_by (operation (as_read v)) v.text (op ∙ ap Some is)) in
    enclosed_ahead link.Arguments s v refl ahead (linked_by v r.class r.text)
  where
    linked_by : (v : LexicalToken) → v.class ≡ Punctuator → (as_read v).text ≡ codes "(" → link_by v.class v.text ≡ Some link.Arguments
    linked_by v c t = ap (λ d. link_by d v.text) c ∙ ap (link_by Punctuator) (sym (ap (λ d. table_text d v.text) c) ∙ t)

pub chain_reads : (s e : CursorState) (old new : List Pair) (p : ExpressionContext) (l : Operand) (v : LexicalToken) {c : Coded} (r : Result Operand Fault) → coded_operator (operation (as_read v)) v.text ≡ Some c → c ≡ code.QuestionDot → stops_by p l.edge (as_read v) ≡ false →
    IfOk r (λ q. Adds s e old new (λ o m z Q. (i : Bool) → GoesOn s.text i l q o m z Q)) → IfOk r (λ q. q.rank ≡ LeftHandSide) → IfOk r (λ q. Adds s e old new (ReadsOn s.text p l q))
chain_reads s e old new p l v (Ok q) op is goes a rank =
    adds_behind refl refl a (λ o Q u. reads_on (symbol_taken p l.edge v goes (ap (λ x. rank_made_by x v.after_break) (chains_by (operation (as_read v)) v.text (op ∙ ap Some is)) ∙ ap Some (sym rank))) (u p.has_in))
chain_reads s e old new p l v (Err fault) op is goes a rank = tt

-- a member, a call or a template
pub no_chain_there : {c : Coded} → (c ≡ code.Dot) ⊎ ((c ≡ code.OpenParen) ⊎ ((c ≡ code.OpenBracket) ⊎ (c ≡ code.TemplateHead))) → c ≡ code.QuestionDot → ⊥
no_chain_there (inl h) e = let k = sym h ∙ e in cc
no_chain_there (inr (inl h)) e = let k = sym h ∙ e in cc
no_chain_there (inr (inr (inl h))) e = let k = sym h ∙ e in cc
no_chain_there (inr (inr (inr h))) e = let k = sym h ∙ e in cc

no_chain : (x : Operator) (w : List ℕ) {c : Coded} → coded_operator x w ≡ Some c → (c ≡ code.QuestionDot → ⊥) → x ≡ op_optional → ⊥
no_chain x w h other e = other (sym (coded_same (sym (ap (λ k. coded_operator k w) e) ∙ h)))

no_chain_sign : (t : Token) → (operation t ≡ op_optional → ⊥) → is_token Punctuator (codes "?.") t ≡ false
no_chain_sign t other = go (is_token Punctuator (codes "?.") t) refl
  where
    go : (b : Bool) → is_token Punctuator (codes "?.") t ≡ b → is_token Punctuator (codes "?.") t ≡ false
    go false e = e
    go true e = let k = class_of (record { bytes = []; language = Base }) Punctuator t.class (Rattle.std.specs.Str.bytes_eq t.text (codes "?.")) e in absurd (other (makes t k.0 ((bytes_eq-Decides t.text (codes "?.")).0 k.1) refl))

not_optional : {text : SourceText} {m : Token} (b : Bool) → cond b (Sees text Punctuator (codes "?.") m) (Misses text Punctuator (codes "?.") m) → Misses text Punctuator (codes "?.") m → b ≡ false
not_optional false h misses = refl
not_optional {text} true h misses = absurd (misses (behind_in text h.0) h.0 h.1)

pub linked_reads : (s e : CursorState) (old new : List Pair) (p : ExpressionContext) (l : Operand) (v : LexicalToken) {c : Coded} (r : Result Operand Fault) → IsAhead Div s.text s.last.stop v → coded_operator (operation (as_read v)) v.text ≡ Some c → (c ≡ code.QuestionDot → ⊥) → stops_by p l.edge (as_read v) ≡ false →
    IfOk r (λ q. Adds s e old new (Links s.text l q)) → IfOk r (λ q. Adds s e old new (ReadsOn s.text p l q))
linked_reads s e old new p l v (Ok q) ahead op other goes a =
    let misses : Misses s.text Punctuator (codes "?.") s.last = mark_missed s.text (codes "?.") s.last v ahead (no_chain_sign (as_read v) (no_chain (operation (as_read v)) v.text op other)) in
    let g = goes_by p l.edge (as_read v) goes in
    adds_behind refl refl a (λ o Q u z P read.
    let plainly = not_optional (flags_of q.cover.node).optional u.optional misses in
    record {
      taken = λ n. u.taken plainly (as_read v) (unseen (as_read v)) p.rank g.symbol (ahead_read s.text Div s.last v ahead) g.makes_it (read.taken n) g.taken;
      part = u.onward plainly p.has_in p.start z P read.part;
    })
linked_reads s e old new p l v (Err fault) ahead op other goes a = tt

-- `++` and `--` are no `)`
step_sign : (w : List ℕ) → operator_of w ≡ op_update → is w ")" ≡ false
step_sign w h = go (is w ")") refl
  where
    never : op_none ≡ op_update → ⊥
    never e = cc

    go : (b : Bool) → is w ")" ≡ b → is w ")" ≡ false
    go false e = e
    go true e = absurd (never (sym (ap operator_of ((bytes_eq-Decides w (codes ")")).0 e)) ∙ h))

-- they go on with what stands on the same line
same_line : (b : Bool) {z : Rank} → cond b None (Some Update) ≡ Some z → b ≡ false
same_line false h = refl
same_line true h = absurd (none-some _ h)

-- the right edge of what isn't nothing is open
open_standing : (x : Edge) (last : Token) → (x ≡ Closed → ⊥) → is_closed (edge_as_written x last) ≡ false
open_standing Other last h = refl
open_standing Closed last h = absurd (h refl)
open_standing Arrow last h = of (is last.text ")")
  where
    of : (b : Bool) → is_closed (cond b Other Arrow) ≡ false
    of true = refl
    of false = refl
open_standing Postfix last h = of (is last.text ")")
  where
    of : (b : Bool) → is_closed (cond b Other Postfix) ≡ false
    of true = refl
    of false = refl

expression_only : (h : Rank) → IsTrue (takes h Expression) → h ≡ Expression
expression_only Expression t = refl
expression_only _ t = absurd (false≢true t)

-- the pieces behind a comma don't ask for the parts
same_sequence : (ps : Parts) → sequence (bare_parts ps) ≡ sequence ps
same_sequence none = refl
same_sequence (gap ps) = refl
same_sequence (part n ps) = ap (λ (qs : List Piece). sign "," ∷ sp ∷ sub (tail Assignment Any) ∷ qs) (same_sequence ps)

module _ (text : SourceText) where
  -- `++` or `--` behind a simple target
  step_part : {i : Bool} {f : Start} {l : Operand} {o : ℕ} {s m e : Token} {P : List Pair} {w : List ℕ} → PartAt text i f l o s m P → shapes.is_target l.cover.shape.assigned ≡ true → operator_of w ≡ op_update → e.after_break ≡ false → ReadsHere text Punctuator w m e →
      PartAt text i f (plain_part (node UpdateExpression w plain l.start e.stop (part (pattern_tree l.cover.node) none)) Update Postfix) o s e (P ++ [])
  step_part {e = e} {w = w} first target op line read =
      let d = target_spelled text first target in
      value_part text refl first.begins (sym (ap (λ b. cond b Other Postfix) (ap (λ (v : List ℕ). is v ")") read.text ∙ step_sign w op))) refl (λ h. cc)
      (λ h j t lo. postfix_grows Token (SeenNext text) (behind_in text) op d.0 t line d.1 read (placed_at text first.begins))

  -- the parts of a sequence from the first on, where those behind its comma are read
  second : {i : Bool} {f : Start} {o : ℕ} {n : Tree} {s m z e : Token} {P Q : List Pair} (ps : Parts) → SpellsIn text o (expr Assignment i f) n s m P → ReadsHere text Punctuator (codes ",") m z →
      RunsIn text o (goes_to Expression i f (several (sub (tail Assignment Any)) ps)) ps z e Q → RunsIn text o (goes_to Expression i f (two_or_more (sub (left Assignment)) (part n ps))) (part n ps) s e (P ++ Q)
  second none d comma runs = absurd (run_never Token (SeenNext text) (behind_in text) runs)
  second (gap ps) d comma runs = absurd (run_never Token (SeenNext text) (behind_in text) runs)
  second (part k ps) d comma runs = within d (step (token comma) (step laid runs))

  so_far : {i : Bool} {f : Start} {l : Operand} {o : ℕ} {s m z : Token} {P : List Pair} → PartAt text i f l o s m P → l.cover.shape.is_expression ≡ true → IsTrue (takes Assignment l.rank) → ReadsHere text Punctuator (codes ",") m z →
      SoFarAt text f (with_item (list_from (listed.Sequence i) l.start) (item_from l.cover.node l.cover.shape false l.edge)) o s z P
  so_far first value tk comma (as_pattern b) fits = cc
  so_far {i} first value tk comma as_expression fits = λ ps e Q runs. second ps (first.stands value Assignment i tk (λ h. refl)) comma runs

  -- the whole
  sequence_spelled : (i : Bool) (f : Start) (ps : Parts) {at o : ℕ} {s e : Token} {P : List Pair} → Begins text at s → RunsIn text o (goes_to Expression i f (two_or_more (sub (left Assignment)) ps)) ps s e P →
      SpellsIn text o (expr Expression i f) (node SequenceExpression [] plain at e.stop ps) s e P
  sequence_spelled i f none begins runs = absurd (run_never Token (SeenNext text) (behind_in text) runs)
  sequence_spelled i f (gap ps) begins runs = absurd (run_never Token (SeenNext text) (behind_in text) runs)
  sequence_spelled i f (part n none) begins runs = absurd (run_never Token (SeenNext text) (behind_in text) runs)
  sequence_spelled i f (part n (gap ps)) begins runs = absurd (run_never Token (SeenNext text) (behind_in text) runs)
  sequence_spelled i f (part n (part k ps)) begins (step p d) = elim p [ ]
  sequence_spelled i f (part n (part k ps)) {o = o} {e = e} begins (within {m = m} {Q = Q} d runs) =
      sequence_grows Token (SeenNext text) (behind_in text) refl refl d (subst (λ (qs : List Piece). RunsIn text o (goes_to Expression i f qs) (part k ps) m e Q) (sym (same_sequence (part k ps))) runs) (placed_at text begins)

  sequence_part : {i : Bool} {f : Start} {at o : ℕ} {s e : Token} {P : List Pair} (ps : Parts) {x : Edge} → Begins text at s → RunsIn text o (goes_to Expression i f (two_or_more (sub (left Assignment)) ps)) ps s e P → x ≡ edge_as_written (last_edge ps) e →
      PartAt text i f (plain_part (node SequenceExpression [] plain at e.stop ps) Expression x) o s e P
  sequence_part {i} {f} {at} {o} {s} {e} {P} ps begins runs edge_is =
      let d = sequence_spelled i f ps begins runs in
      let ends = edged Token (SeenNext text) (behind_in text) (seen_determined text) d in
      value_part text refl begins edge_is (ap is_closed edge_is ∙ open_standing (last_edge ps) e ends.ends) (λ h. cc)
      (λ h j t lo. let only = expression_only h t in
      let same : j ≡ i = lo (ap minds_in only) in
      subst (λ (y : Rank). SpellsIn text o (expr y j f) (node SequenceExpression [] plain at e.stop ps) s e P) (sym only) (subst (λ (c : Bool). SpellsIn text o (expr Expression c f) (node SequenceExpression [] plain at e.stop ps) s e P) (sym same) d))

  -- by what a list says of it
  listed_part : {i : Bool} {f : Start} {at o : ℕ} {s e : Token} {P : List Pair} (k : ListOf) → k.listed ≡ listed.Sequence i → Begins text at s → ListAt text f k o s e P → PartAt text i f (plain_part (node SequenceExpression [] plain at e.stop k.nodes) Expression k.seen.edge) o s e P
  listed_part {i} {f} {at} {o} {s} {e} {P} k is begins w =
      let whole : is_whole k as_expression ≡ true = ap (λ x. whole_of x k as_expression) is in
      let ends : e ≡ w.mid = subst (λ x. ClosedBy text (closing x) w.mid e) is w.closes in
      let items : RunsIn text o (goes_to Expression i f (two_or_more (sub (left Assignment)) k.nodes)) k.nodes s w.mid P = subst (λ x. RunsIn text o (stood_in f x (item_pieces x as_expression k.nodes)) k.nodes s w.mid P) is (w.runs as_expression whole) in
      sequence_part k.nodes begins (subst (λ x. RunsIn text o (goes_to Expression i f (two_or_more (sub (left Assignment)) k.nodes)) k.nodes s x P) (sym ends) items)
      (w.edge (ap asks_edge is) ∙ ap (λ x. edge_as_written (last_edge k.nodes) x) (sym ends))

-- `++` and `--`
pub step_reads : (s e : CursorState) (old new : List Pair) (p : ExpressionContext) (l : Operand) (v : LexicalToken) {c : Coded} (r : Operand) → coded_operator (operation (as_read v)) v.text ≡ Some c → c ≡ code.PostUpdate → stops_by p l.edge (as_read v) ≡ false → shapes.is_target l.cover.shape.assigned ≡ true →
    SeenNext s.text s.last (as_read v) e.last → e.opened ≡ s.opened → new ≡ old → r ≡ plain_part (node UpdateExpression v.text plain l.start e.last.stop (part (pattern_tree l.cover.node) none)) Update Postfix → Adds s e old new (ReadsOn s.text p l r)
step_reads s e old new p l v r op is goes target next open_same same tree =
    let op' : operation (as_read v) ≡ op_update = steps_by (operation (as_read v)) v.text (op ∙ ap Some is) in
    let here = sign_here s.text v next op' (λ k. cc) (λ k. cc) in
    let sign : ReadsHere s.text Punctuator v.text s.last e.last = subst (λ b. ReadsHere s.text (cond b IdentifierName Punctuator) v.text s.last e.last) (steps_no_word v.text here.1) here.0 in
    let line : v.after_break ≡ false = same_line v.after_break (ap (λ x. rank_made_by x v.after_break) (sym op') ∙ (goes_by p l.edge (as_read v) goes).makes_it) in
    let low : rank_made_by (operation (as_read v)) v.after_break ≡ Some Update = ap (λ x. rank_made_by x v.after_break) op' ∙ ap (λ b. cond b None (Some Update)) line in
    adds_none open_same same (λ o. subst (λ (x : Operand). ReadsOn s.text p l x o s.last e.last []) (sym tree)
    (reads_on (symbol_taken p l.edge v goes low) (λ f z P first. step_part s.text first target here.1 (ap (λ (t : Token). t.after_break) ((seen_determined s.text).last s.last (as_read v) e.last next) ∙ line) sign)))

-- a sequence
pub sequence_reads : (s m e : CursorState) (old mid new : List Pair) (p : ExpressionContext) (l : Operand) (v : LexicalToken) {c : Coded} (r : Operand) (first whole : ListOf) → coded_operator (operation (as_read v)) v.text ≡ Some c → c ≡ code.Comma → stops_by p l.edge (as_read v) ≡ false →
    first ≡ with_item (list_from (listed.Sequence p.has_in) l.start) (item_from l.cover.node l.cover.shape false l.edge) → (takes Assignment l.rank && l.cover.shape.is_expression) ≡ true → first.listed ≡ listed.Sequence p.has_in → whole.listed ≡ first.listed →
    m.text ≡ s.text → m.opened ≡ s.opened → mid ≡ old → SeenNext s.text s.last (as_read v) m.last → Adds m e mid new (λ o a b Q. (f : Start) (z : Token) (P : List Pair) → SoFarAt m.text f first o z a P → ListAt m.text f whole o z b (P ++ Q)) →
    r ≡ plain_part (node SequenceExpression [] plain l.start e.last.stop whole.nodes) Expression whole.seen.edge → Adds s e old new (ReadsOn s.text p l r)
sequence_reads s m e old mid new p l v r first whole op is goes begun fits listed_is kept text open_same same next rest tree =
    let op' : operation (as_read v) ≡ op_comma = sequences_by (operation (as_read v)) v.text (op ∙ ap Some is) in
    let comma : ReadsHere s.text Punctuator (codes ",") s.last m.last = as_here s.text (reads_comma Token (SeenNext s.text) (behind_in s.text) next op') in
    let both = and_parts (takes Assignment l.rank) l.cover.shape.is_expression fits in
    adds_behind open_same same rest (λ o Q d. subst (λ (x : Operand). ReadsOn s.text p l x o s.last e.last Q) (sym tree)
    (reads_on (symbol_taken p l.edge v goes (ap (λ x. rank_made_by x v.after_break) op')) (λ f z P before_it.
    let before : SoFarAt s.text f first o z m.last P = subst (λ (k : ListOf). SoFarAt s.text f k o z m.last P) (sym begun) (so_far s.text before_it both.1 both.0 comma) in
    let list : ListAt s.text f whole o z e.last (P ++ Q) = subst (λ x. SoFarAt x f first o z m.last P → ListAt x f whole o z e.last (P ++ Q)) text (d f z P) before in
    listed_part s.text whole (kept ∙ listed_is) before_it.begins list)))
