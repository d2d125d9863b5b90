-- Arrow functions from their `=>` on (ECMA-262 14.2).
use Rattle.std.proofs.Common.{◌≡◌, ℕ, Bool, true, false, cond, List, [], ◌∷◌, ◌++◌, refl, sym, ap, ◌∙◌, subst}
use Rattle.std.specs.Prelude.{codes}
use Rattle.tokens.specs.declared.token.TokenClass.TheVariants.{Punctuator}
use Rattle.token_cursor.specs.CursorState.{CursorState}
use Rattle.tree.specs.declared.kind.Kind.TheVariants.{ArrowFunctionExpression}
use Rattle.tree.specs.declared.kind.Flags.{Flags}
use Rattle.tree.specs.declared.kind.Pair.{Pair}
use Rattle.tree.specs.Tree.{Tree, node, plain, Parts, none, part, gap, push, join}
use Rattle.language.specs.Vocabulary.{is}
use Rattle.language.specs.declared.Rank.TheVariants.{Assignment}
use Rattle.language.specs.declared.Start.TheVariants.{NoBrace}
use Rattle.language.specs.declared.Edge.{Edge}
use Rattle.language.specs.declared.Edge.TheVariants.{Arrow, Other}
use Rattle.language.specs.Edges.{edge, last_edge, edge_as_written}
use Rattle.language.specs.Pieces.{expr, body}
use Rattle.language.specs.Token.{Token}
use Rattle.language.specs.Derivation.{step, token, laid, same_line}
use Rattle.language.proofs.climbing.OperatorNodes.{last_runs}
use Rattle.parser_tables.specs.declared.operand.Operand.{Operand}
use Rattle.parser_tables.specs.declared.symbol_lists.PartialStatement.{PartialStatement}
use Rattle.parser_tables.specs.declared.expression_context.ExpressionContext.{ExpressionContext}
use Rattle.recursive_descent.specs.Soundness.{Adds, ArrowAt, ReadAt}
use Rattle.recursive_descent.specs.SoundnessOfStatements.{BuiltAt}
use Rattle.parser_tables.specs.Operands.{plain_part}
use Rattle.parser_tables.specs.StatementSymbols as Piece
use Rattle.token_cursor.specs.Seen.{ReadsHere}
use Rattle.parser_tables.specs.StatementNodes.{partial_of, is_closed}
use Rattle.recursive_descent.proofs.reading.AddedPairs.{adds_behind}
use Rattle.std.proofs.lemmas.List.{append-nil}
use Rattle.token_cursor.specs.SourceText.{SourceText, SeenNext, behind_in}
use Rattle.recursive_descent.specs.Spelled.{SpellsIn}
use Rattle.tree.specs.declared.kind.Form.{Form}

-- the flags of an arrow whose body is an expression
abbrev pub flagged : Form → Bool → Flags
flagged x b = record plain { expression = b; form = x }

abbrev pub concise : Form → Flags
concise x = flagged x true

abbrev pub bodied : Form → Flags
bodied x = flagged x false

-- the right edge of parts is that of the last
pub push_edge : (ps : Parts) (n : Tree) → last_edge (push ps n) ≡ edge n
push_edge none n = refl
push_edge (part k none) n = refl
push_edge (part k (part l ps)) n = push_edge (part l ps) n
push_edge (part k (gap ps)) n = push_edge ps n
push_edge (gap ps) n = push_edge ps n

-- one more part, as parts that are put behind others
pub join_one : (ps : Parts) (n : Tree) → join ps (part n none) ≡ push ps n
join_one none n = refl
join_one (part k ps) n = ap (part k) (join_one ps n)
join_one (gap ps) n = ap gap (join_one ps n)

-- behind a brace an arrow goes on as such
brace_stands : (w : Token) → w.text ≡ codes "}" → Arrow ≡ edge_as_written Arrow w
brace_stands w h = sym (ap (λ x. cond (is x ")") Other Arrow) h)

module _ (text : SourceText) where
  -- a body that is a block
  block_at : {x : Form} {i : Bool} {ps : Parts} {from o : ℕ} {s m e : Token} {P : List Pair} {u : Tree} → ReadsHere text Punctuator (codes "=>") s m → SpellsIn text o body u m e P → e.text ≡ codes "}" →
      ArrowAt text x i ps from (plain_part (node ArrowFunctionExpression [] (bodied x) from e.stop (push ps u)) Assignment Arrow) o s e P
  block_at {x} {i} {ps} {from} {o} {s} {m} {e} {P} {u} sign d close = record {
    flags = bodied x;
    lean = refl;
    body = u;
    tree = refl;
    start = refl;
    rank = refl;
    edge = brace_stands e close;
    goes_on = refl;
    simple = (refl, refl);
    runs = λ line j same. step (same_line sign.next (line (behind_in text m) m sign.next)) (step laid (step (token sign) (step laid (last_runs Token (SeenNext text) (behind_in text) d))));
  }

  -- a body that is an expression
  concise_at : {x : Form} {i : Bool} {ps : Parts} {from o : ℕ} {s m e : Token} {P : List Pair} {u : Tree} {right : Edge} → ReadsHere text Punctuator (codes "=>") s m → ((j : Bool) → j ≡ i → SpellsIn text o (expr Assignment j NoBrace) u m e P) → right ≡ edge_as_written (edge u) e → is_closed right ≡ false →
      ArrowAt text x i ps from (plain_part (node ArrowFunctionExpression [] (concise x) from e.stop (push ps u)) Assignment right) o s e P
  concise_at {x} {i} {ps} {from} {o} {s} {m} {e} {P} {u} sign d edge_is open_edge = record {
    flags = concise x;
    lean = refl;
    body = u;
    tree = refl;
    start = refl;
    rank = refl;
    edge = edge_is ∙ ap (λ x. edge_as_written x e) (sym (push_edge ps u));
    goes_on = open_edge;
    simple = (refl, refl);
    runs = λ line j same. step (same_line sign.next (line (behind_in text m) m sign.next)) (step laid (step (token sign) (step laid (last_runs Token (SeenNext text) (behind_in text) (d j same)))));
  }

  -- the body that is read piece by piece
  record BodyRead (o : ℕ) (m e : Token) (b c : PartialStatement) (P : List Pair) : Type 0 where
    put : Tree
    nodes : c.nodes ≡ push b.nodes put
    spelled : SpellsIn text o body put m e P
    close : e.text ≡ codes "}"

  body_read : {o : ℕ} {m e : Token} {b c : PartialStatement} {P : List Pair} → BuiltAt text true (Piece.body ∷ []) b c o m e P → BodyRead o m e b c P
  body_read {o} {m} {e} {b} {c} {P} w =
      let u = w.read in
      let v = u.first.0 in
      let end : e ≡ u.mid = u.others.0 in
      let pairs : P ≡ u.put_pairs = u.pairs ∙ ap (λ x. u.put_pairs ++ x) u.others.3 ∙ append-nil u.put_pairs in
      let added : w.added ≡ part v.put none = u.parts ∙ (λ k. join (v.parts k) (u.others.2 k)) in
      record {
        put = v.put;
        nodes = w.nodes ∙ ap (join b.nodes) added ∙ join_one b.nodes v.put;
        spelled = subst (λ x. SpellsIn text o body v.put m x P) (sym end) (subst (λ x. SpellsIn text o body v.put m u.mid x) (sym pairs) v.spelled);
        close = ap (λ (x : Token). x.text) end ∙ u.first.1;
      }

pub arrow_block : {s m e : CursorState} {old mid new : List Pair} {x : Form} {i : Bool} {ps : Parts} {from : ℕ} {qs : List Piece.Piece} (b c : PartialStatement) (n : Tree) (r : Operand) → m.text ≡ s.text → m.opened ≡ s.opened → mid ≡ old → ReadsHere s.text Punctuator (codes "=>") s.last m.last → b ≡ partial_of ps → qs ≡ Piece.body ∷ [] →
    Adds m e mid new (BuiltAt m.text true qs b c) → n ≡ node ArrowFunctionExpression [] (bodied x) from e.last.stop c.nodes → r ≡ plain_part n Assignment Arrow → Adds s e old new (ArrowAt s.text x i ps from r)
arrow_block {s} {m} {e} {x = x} {i = i} {ps = ps} {from = from} b c n r text open_same same sign begun pieces a tree result =
    adds_behind open_same same a (λ o P w.
    let v = body_read s.text (subst (λ t. BuiltAt t true (Piece.body ∷ []) b c o m.last e.last P) text (subst (λ q. BuiltAt m.text true q b c o m.last e.last P) pieces w)) in
    let parts : c.nodes ≡ push ps v.put = v.nodes ∙ ap (λ (b : PartialStatement). push b.nodes v.put) begun in
    let whole : r ≡ plain_part (node ArrowFunctionExpression [] (bodied x) from e.last.stop (push ps v.put)) Assignment Arrow = result ∙ ap (λ n. plain_part n Assignment Arrow) (tree ∙ ap (node ArrowFunctionExpression [] (bodied x) from e.last.stop) parts) in
    subst (λ r. ArrowAt s.text x i ps from r o s.last e.last P) (sym whole) (block_at s.text sign v.spelled v.close))

pub arrow_concise : {s m e : CursorState} {old mid new : List Pair} {x : Form} {i : Bool} {ps qs : Parts} {from : ℕ} {p : ExpressionContext} (q : Operand) (n u : Tree) (r : Operand) → m.text ≡ s.text → m.opened ≡ s.opened → mid ≡ old → ReadsHere s.text Punctuator (codes "=>") s.last m.last → p ≡ record { rank = Assignment; has_in = i; start = NoBrace } →
    Adds m e mid new (ReadAt m.text p q) → u ≡ q.cover.node → q.cover.shape.is_expression ≡ true → qs ≡ push ps u → n ≡ node ArrowFunctionExpression [] (concise x) from e.last.stop qs → r ≡ plain_part n Assignment q.edge → Adds s e old new (ArrowAt s.text x i ps from r)
arrow_concise {s} {m} {e} {x = x} {i = i} {ps = ps} {qs = qs} {from = from} {p = p} q n u r text open_same same sign position a settled value pushed tree result =
    adds_behind open_same same a (λ o P w.
    let here : ExpressionContext = record { rank = Assignment; has_in = i; start = NoBrace } in
    let v : ReadAt s.text here q o m.last e.last P = subst (λ t. ReadAt t here q o m.last e.last P) text (subst (λ y. ReadAt m.text y q o m.last e.last P) position w) in
    let parts : qs ≡ push ps q.cover.node = pushed ∙ ap (push ps) settled in
    let whole : r ≡ plain_part (node ArrowFunctionExpression [] (concise x) from e.last.stop (push ps q.cover.node)) Assignment q.edge = result ∙ ap (λ n. plain_part n Assignment q.edge) (tree ∙ ap (node ArrowFunctionExpression [] (concise x) from e.last.stop) parts) in
    subst (λ r. ArrowAt s.text x i ps from r o s.last e.last P) (sym whole) (concise_at s.text sign (λ j same. v.part.stands value Assignment j (v.taken refl) (λ h. same)) v.part.edge v.part.goes_on))
