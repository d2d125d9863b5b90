-- What the code makes of one token, or of an arrow with a name for its parameter, is what is given (ECMA-262 12.1, 12.2, 14.2).
use Rattle.std.proofs.Common.{◌≡◌, ℕ, ◌≤◌, Bool, true, false, List, [], Result, refl, sym, ap, ◌∙◌, subst}
use Rattle.std.specs.Prelude.{IsTrue, codes}
use Rattle.std.specs.Result.{IfOk}
use Rattle.std.proofs.lemmas.List.{append-nil}
use Rattle.std.proofs.lemmas.Bool.{false≢true}
use Rattle.source_text.specs.declared.fault.Fault.{Fault}
use Rattle.tokens.specs.Tokens.{LexicalToken}
use Rattle.tokens.specs.declared.token.TokenClass.TheVariants.{Punctuator}
use Rattle.token_cursor.specs.CursorState.{CursorState}
use Rattle.tree.specs.declared.kind.Kind.{Kind}
use Rattle.tree.specs.declared.kind.Kind.TheVariants.{Identifier, MemberExpression, ArrowFunctionExpression}
use Rattle.tree.specs.declared.kind.Flags.{Flags}
use Rattle.tree.specs.declared.kind.Form.TheVariants.{Init}
use Rattle.tree.specs.declared.kind.Pair.{Pair}
use Rattle.tree.specs.Tree.{Tree, node, Parts, none, part, push, height, kind_of, plain}
use Rattle.covers.specs.Shapes.{shape_of, is_target}
use Rattle.language.specs.declared.Rank.{Rank}
use Rattle.language.specs.declared.Rank.TheVariants.{Assignment, Primary}
use Rattle.language.specs.declared.Start.TheVariants.{Any}
use Rattle.language.specs.declared.Edge.TheVariants.{Other}
use Rattle.language.specs.Covers.{Reading, as_expression, as_pattern}
use Rattle.language.specs.Expressions.{arrow_end}
use Rattle.language.specs.Token.{Token, as_read}
use Rattle.language.specs.Vocabulary.{takes, is_target as is_simple, is_pattern}
use Rattle.language.specs.Derivation.{Reads}
use Rattle.language.proofs.table.Begins.{goes_to}
use Rattle.parser_tables.specs.declared.operand.Operand.{Operand}
use Rattle.parser_tables.specs.declared.expression_context.ExpressionContext.{ExpressionContext}
use Rattle.recursive_descent.specs.Complete.{ArrowComplete}
use Rattle.recursive_descent.specs.Soundness.{RunsIn, Adds, ArrowAt}
use Rattle.recursive_descent.specs.Completeness.{Agrees, Room, EndsWith, IsFirst, StopsIn}
use Rattle.parser_tables.specs.Operands.{plain_part}
use Rattle.parser_tables.specs.Tokens.{single_node, single_text}
use Rattle.recursive_descent.proofs.complete_expressions.AgreedNodes.{agrees_more}
use Rattle.recursive_descent.proofs.complete_expressions.Agreement.{room_part, ends_behind}
use Rattle.recursive_descent.proofs.complete_expressions.OneTokenGiven.{NoArrow, SingleGiven, one_token, an_arrow}
use Rattle.recursive_descent.proofs.reading.LanguageTrees.{parts_of_language, push_of_language}
use Rattle.token_cursor.specs.SourceText.{SourceText, SeenNext, behind_in}
use Rattle.recursive_descent.specs.Spelled.{OfLanguage}

value_kind : (k : Kind) (w : List ℕ) (st en : ℕ) → (shape_of (node k w plain st en none)).is_expression ≡ true
value_kind Identifier w st en = refl
value_kind MemberExpression w st en = refl
value_kind _ w st en = refl

target_kind : (k : Kind) (w : List ℕ) (st en : ℕ) → is_simple k ≡ true → is_target (shape_of (node k w plain st en none)).assigned ≡ true
target_kind Identifier w st en h = refl
target_kind MemberExpression w st en h = refl
target_kind _ w st en h = absurd (false≢true h)

bound_first : {h : Rank} {n : Tree} (u : LexicalToken) → n ≡ single_node Identifier u → IsTrue (takes h Primary) → IsFirst (as_pattern true) h (plain_part (single_node Identifier u) Primary Other) n
bound_first u is tk = record { read = record { fits = refl; tree = sym is; target = λ k. refl; pattern = λ b e k. (let z = sym (ap (λ c. is_pattern (kind_of c)) is) ∙ k in cc) }; taken = tk; alone = λ b e. refl }

-- a token is read as it is given
pub single_first : {h : Rank} {n : Tree} (a : Reading) (k : Kind) (u : LexicalToken) → n ≡ single_node k u → IsTrue (takes h Primary) → ((b : Bool) → a ≡ as_pattern b → (b ≡ true) × (k ≡ Identifier)) → IsFirst a h (plain_part (single_node k u) Primary Other) n
single_first as_expression k u is tk told = record {
  read = record {
    fits = value_kind k (single_text k u.text) u.start u.stop;
    tree = sym is;
    target = λ s. target_kind k (single_text k u.text) u.start u.stop (sym (ap (λ c. is_simple (kind_of c)) is) ∙ s);
    pattern = λ b e s. cc;
  };
  taken = tk;
  alone = λ b e. cc;
}
single_first {h} {n} (as_pattern b) k u is tk told =
    let z = told b refl in
    subst (λ c. n ≡ single_node c u → IsFirst (as_pattern b) h (plain_part (single_node c u) Primary Other) n) (sym z.1) (λ e. subst (λ d. IsFirst (as_pattern d) h (plain_part (single_node Identifier u) Primary Other) n) (sym z.0) (bound_first u e tk)) is

-- where no arrow is read
pub single_read : {text : SourceText} {p : ExpressionContext} {o : ℕ} {n : Tree} {to : Token} {Q : List Pair} {a : Reading} {h : Rank} {s m : CursorState} {old new : List Pair} (u : LexicalToken) (k : Kind) → SingleGiven text p o u k n to Q a h → (k ≡ Identifier → IsTrue (takes p.rank Assignment) → NoArrow text (as_read u)) → m.last ≡ as_read u → new ≡ old →
    (r : Operand) → r ≡ plain_part (single_node k u) Primary Other → IsFirst a h r n × EndsWith s m old new to Q
single_read {n = n} {to = to} {Q = Q} {a = a} {h = h} {s = s} {m} {old} {new} u k (one_token is place pairs tk told arrow) without last same r part_is =
    (subst (λ x. IsFirst a h x n) (sym part_is) (single_first a k u is tk told), record { place = last ∙ sym place; more = []; added = same ∙ sym (append-nil old); pairs = sym pairs })
single_read u k (an_arrow {v = v} {x = x} e reading tk takes_it sign line lean is runs stopped) without last same r part_is = absurd (without e takes_it v x sign line)

-- an arrow is given
pub record ArrowGiven (text : SourceText) (p : ExpressionContext) (o : ℕ) (u : LexicalToken) (n : Tree) (to : Token) (Q : List Pair) (a : Reading) (h : Rank) : Type 0 where
  pub flags : Flags
  pub inner : Tree
  pub reading : a ≡ as_expression
  pub taken : IsTrue (takes h Assignment)
  pub lean : flags ≡ record plain { expression = flags.expression }
  pub tree : n ≡ node ArrowFunctionExpression [] flags u.start to.stop (push (part (single_node Identifier u) none) inner)
  pub runs : RunsIn text o (goes_to Assignment p.has_in Any (arrow_end flags)) (part inner none) (as_read u) to Q
  pub stopped : flags.expression ≡ true → StopsIn text Assignment p.has_in inner to

-- where one is read
pub arrow_given : {text : SourceText} {p : ExpressionContext} {o : ℕ} {n : Tree} {to v x : Token} {Q : List Pair} {a : Reading} {h : Rank} (u : LexicalToken) (k : Kind) → SingleGiven text p o u k n to Q a h → k ≡ Identifier → IsTrue (takes p.rank Assignment) → Reads Token (SeenNext text) (behind_in text) Punctuator (codes "=>") (as_read u) v x → v.after_break ≡ false →
    ArrowGiven text p o u n to Q a h
arrow_given {v = v} {x = x} u k (one_token is place pairs tk told without) e takes_it sign line = absurd (without e takes_it v x sign line)
arrow_given u k (an_arrow {flags = flags} {inner = inner} e reading tk takes_it sign line lean is runs stopped) e' takes_it' sign' line' = record { flags = flags; inner = inner; reading = reading; taken = tk; lean = lean; tree = is; runs = runs; stopped = stopped }

arrow_is : {a : Reading} {h : Rank} {r : Operand} {n : Tree} {w : List ℕ} {g : Flags} {st en : ℕ} {ps : Parts} → a ≡ as_expression → IsTrue (takes h Assignment) → r.cover.shape.is_expression ≡ true → r.rank ≡ Assignment → r.cover.node ≡ n → n ≡ node ArrowFunctionExpression w g st en ps → IsFirst a h r n
arrow_is {a} {h} {r} {n} reading tk fits rank tree is = subst (λ c. IsFirst c h r n) (sym reading) (record {
  read = record { fits = fits; tree = tree; target = λ k. (let z = sym (ap (λ c. is_simple (kind_of c)) is) ∙ k in cc); pattern = λ b e k. cc };
  taken = subst (λ c. IsTrue (takes h c)) (sym rank) tk;
  alone = λ b e. cc;
})

-- what `arrow` answers agrees with it
pub arrow_agrees : {o : ℕ} {n : Tree} {to : Token} {Q : List Pair} {a : Reading} {h : Rank} (s m e : CursorState) (old mid new : List Pair) (p : ExpressionContext) (u : LexicalToken) (parameters : Parts) (high : ℕ) (result : Result Operand Fault) → ArrowGiven s.text p o u n to Q a h → OfLanguage s.text n → m.text ≡ s.text → m.last ≡ as_read u → m.opened ≡ s.opened → mid ≡ old →
    parameters ≡ part (single_node Identifier u) none → ArrowComplete m e mid new high parameters u.start Init p.has_in result → IfOk result (λ r. Adds m e mid new (ArrowAt m.text Init p.has_in parameters u.start r)) → Agrees (Room s o (height n) high) (λ r. IsFirst a h r n × EndsWith s e old new to Q) result
arrow_agrees {o} {n} {to} {Q} {a} {h} s m e old mid new p u parameters high result v own text last opened same are complete derived =
    let made : Tree = node ArrowFunctionExpression [] v.flags u.start to.stop (push parameters v.inner) in
    let is : n ≡ made = v.tree ∙ ap (λ ps. node ArrowFunctionExpression [] v.flags u.start to.stop (push ps v.inner)) (sym are) in
    let runs : RunsIn m.text o (goes_to Assignment p.has_in Any (arrow_end v.flags)) (part v.inner none) m.last to Q =
    subst (λ x. RunsIn x o (goes_to Assignment p.has_in Any (arrow_end v.flags)) (part v.inner none) m.last to Q) (sym text) (subst (λ x. RunsIn s.text o (goes_to Assignment p.has_in Any (arrow_end v.flags)) (part v.inner none) x to Q) (sym last) v.runs) in
    let inner_own : OfLanguage m.text v.inner = subst (λ x. OfLanguage x v.inner) (sym text) (push_of_language (part (single_node Identifier u) none) v.inner (parts_of_language (subst (OfLanguage s.text) v.tree own))).1 in
    agrees_more (Room m o (height made) high) (Room s o (height n) high) (λ r. (r.cover.node ≡ made) × EndsWith m e mid new to Q) (λ r. IsFirst a h r n × EndsWith s e old new to Q) result
    (complete v.flags v.inner o to Q v.lean runs (λ k. subst (λ x. StopsIn x Assignment p.has_in v.inner to) (sym text) (v.stopped k)) inner_own)
    (λ room. room_part s m opened (λ low. subst (λ (x : Tree). height x ≤ high) is low) room)
    (λ r is_ok found. let at : Adds m e mid new (ArrowAt m.text Init p.has_in parameters u.start r) = subst (λ x. IfOk x (λ r. Adds m e mid new (ArrowAt m.text Init p.has_in parameters u.start r))) is_ok derived in
    (arrow_is v.reading v.taken at.is.simple.0 at.is.rank (found.0 ∙ sym is) v.tree, ends_behind same found.1))
