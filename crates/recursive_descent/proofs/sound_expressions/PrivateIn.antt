-- A private name before `in` (ECMA-262, 13th edition, 13.10).
use Rattle.std.proofs.Common.{◌≡◌, ℕ, true, List, [], ◌++◌, drop, refl, sym, ap, ◌∙◌, subst}
use Rattle.std.specs.Prelude.{IsTrue, codes, Some}
use Rattle.std.proofs.lemmas.Bool.{and_parts}
use Rattle.tokens.specs.declared.token.TokenClass.TheVariants.{IdentifierName, PrivateName}
use Rattle.tokens.specs.declared.token.Token.{Token as Scanned}
use Rattle.tokens.specs.Scanned.{token_of}
use Rattle.tokens.specs.Tokens.{LexicalToken}
use Rattle.token_cursor.specs.CursorState.{CursorState}
use Rattle.tree.specs.declared.kind.Kind.TheVariants.{PrivateIdentifier, BinaryExpression}
use Rattle.tree.specs.declared.kind.Pair.{Pair}
use Rattle.tree.specs.Tree.{Tree, node, none, part, plain}
use Rattle.language.specs.declared.Rank.TheVariants.{Relational, Shift}
use Rattle.language.specs.declared.Start.TheVariants.{Any}
use Rattle.language.specs.declared.Language.{Language}
use Rattle.language.specs.Vocabulary.{takes}
use Rattle.language.specs.Expressions.{private_in}
use Rattle.language.specs.ExpressionStart.{ExpressionStart, with_private_name, expression_start}
use Rattle.language.specs.Pieces.{private_name, fixed}
use Rattle.language.specs.Token.{Token, as_read, table_text}
use Rattle.language.specs.Derivation.{step, within, token, laid}
use Rattle.language.proofs.table.NodeForms.{private_left}
use Rattle.language.proofs.table.Productions.{spell, starts_led}
use Rattle.language.proofs.climbing.Leaves.{private_found}
use Rattle.language.proofs.climbing.OperatorNodes.{last_runs}
use Rattle.token_cursor.proofs.SeenTokens.{seen_determined}
use Rattle.parser_tables.specs.declared.operand.Operand.{Operand}
use Rattle.parser_tables.specs.declared.expression_context.ExpressionContext.{ExpressionContext}
use Rattle.parser_tables.specs.declared.expression_starts.ExpressionStart.TheVariants as code
use Rattle.parser_tables.specs.ExpressionStarts.{coded_start, coded_in, stands_at, opens_at}
use Rattle.parser_tables.specs.Operands.{plain_part}
use Rattle.parser_tables.specs.Tokens.{single_node, without_hash}
use Rattle.token_cursor.specs.Seen.{ReadsHere}
use Rattle.recursive_descent.specs.Soundness.{Adds, ReadAt, WordedAt, Begins}
use Rattle.recursive_descent.proofs.reading.AddedPairs.{adds_behind}
use Rattle.recursive_descent.proofs.reading.SeenNames.{private_told}
use Rattle.recursive_descent.proofs.sound_expressions.CodedStarts.{coded_plain}
use Rattle.recursive_descent.proofs.sound_expressions.ExpressionParts.{minds_of, placed_at, value_part}
use Rattle.recursive_descent.proofs.sound_expressions.KeywordExpressions.{private_passed, stands_plainly}
use Rattle.token_cursor.specs.SourceText.{SourceText, SeenNext, behind_in}
use Rattle.recursive_descent.specs.Spelled.{SpellsIn}

-- its position takes a RelationalExpression with In
pub private_taken : (l : Language) (p : ExpressionContext) (t : Token) → coded_in l t ≡ Some code.PrivateName → opens_at p t ≡ true → IsTrue (takes p.rank Relational) × (p.has_in ≡ true)
private_taken l p t coded stands = of (expression_start t) (coded_plain l (expression_start t) t.text code.PrivateName coded refl) stands
  where
    of : (x : ExpressionStart) → coded_start x ≡ Some code.PrivateName → stands_at p.rank p.has_in p.start x ≡ true → IsTrue (takes p.rank Relational) × (p.has_in ≡ true)
    of with_private_name h k = and_parts _ _ k
    of _ h k = cc

-- the node of a private name that was passed
pub private_spelled : (text : SourceText) (u : LexicalToken) {o : ℕ} {s m : Token} → SeenNext text s (as_read u) m → u.class ≡ PrivateName → SpellsIn text o private_name (single_node PrivateIdentifier u) s m []
private_spelled text u {o} {s} {m} next class =
    let plainly : (as_read u).text ≡ u.text = ap (λ c. table_text c u.text) class in
    let told : (as_read u).text ≡ codes "#" ++ drop 1 (as_read u).text = private_told next class in
    let ends : (behind_in text m).stop ≡ u.stop = ap (λ (x : Token). x.stop) ((seen_determined text).last s (as_read u) m next) in
    let name : drop 1 (as_read u).text ≡ without_hash u.text = ap without_hash (sym told) ∙ ap without_hash plainly in
    subst (λ n. SpellsIn text o private_name n s m []) (λ i. node PrivateIdentifier (name i) plain u.start (ends i) none)
    (private_found Token (SeenNext text) (behind_in text) (seen_determined text) {o = o} {w = drop 1 (as_read u).text} (record { next = next; class = class; text = told })).spelled

module _ (text : SourceText) {p : ExpressionContext} (t : Scanned) {o : ℕ} {s m x e : Token} {Q : List Pair} {l : Operand} where
  private_part : SeenNext text s (as_read (token_of t)) m → t.class ≡ PrivateName → IsTrue (takes p.rank Relational) → p.has_in ≡ true → ReadsHere text IdentifierName (codes "in") m x → l.cover.shape.is_expression ≡ true → ReadAt text (record { rank = Shift; has_in = p.has_in; start = Any }) l o x e Q →
      ReadAt text p (plain_part (node BinaryExpression (codes "in") plain t.start e.stop (part (single_node PrivateIdentifier (token_of t)) (part l.cover.node none))) Relational l.edge) o s e Q
  private_part next class tk has_in word value v =
      let begins : Begins text t.start s = record { token = as_read (token_of t); place = m; next = next; start = refl } in
      record {
        taken = λ h. tk;
        part = value_part text refl begins v.part.edge v.part.goes_on (λ h. cc)
            (λ h j taken lo. let inside : j ≡ p.has_in = lo (minds_of h Relational taken refl) in
            spell Token (SeenNext text) (behind_in text) private_in (private_left refl refl) refl taken (inside ∙ has_in) (starts_led p.start (fixed private_name) _) (placed_at text begins)
            (within (private_spelled text (token_of t) next class) (step laid (step (token word) (step laid (last_runs Token (SeenNext text) (behind_in text) (v.part.stands value Shift j (v.taken refl) (λ k. inside))))))));
      }

-- what `private_in` makes
pub private_worded : {s m e : CursorState} {old mid new : List Pair} (t : Scanned) (p q : ExpressionContext) {l : Operand} (k u n : Tree) {r : Operand} → m.text ≡ s.text → m.opened ≡ s.opened → mid ≡ old → k ≡ single_node PrivateIdentifier (token_of t) → ReadsHere s.text IdentifierName (codes "in") s.last m.last →
    q ≡ record { rank = Shift; has_in = p.has_in; start = Any } → Adds m e mid new (ReadAt m.text q l) → l.cover.shape.is_expression ≡ true → u ≡ l.cover.node → n ≡ node BinaryExpression (codes "in") plain t.start e.last.stop (part k (part u none)) → r ≡ plain_part n Relational l.edge →
    Adds s e old new (WordedAt s.text p t code.PrivateName r)
private_worded {s} {m} {e} t p q {l} k u n {r} text open_same same named word position a value settled tree made = adds_behind open_same same a (λ o Q v z next coded stands.
    let taken = private_taken s.text.language p (as_read (token_of t)) coded (stands_plainly s.text p (as_read (token_of t)) code.PrivateName refl (λ e. cc) stands) in
    subst (λ k. ReadAt s.text p k o z e.last Q) (sym (made ∙ ap (λ n. plain_part n Relational l.edge) (tree ∙ (λ i. node BinaryExpression (codes "in") plain t.start e.last.stop (part (named i) (part (settled i) none))))))
    (private_part s.text t next (private_passed s.text.language (as_read (token_of t)) coded) taken.0 taken.1 word value
    (subst (λ k. ReadAt k (record { rank = Shift; has_in = p.has_in; start = Any }) l o m.last e.last Q) text (subst (λ k. ReadAt m.text k l o m.last e.last Q) position v))))
