-- A private name before `in`, as it is given (ECMA-262, 13th edition, 13.10).
use Rattle.std.proofs.Common.{◌≡◌, ℕ, Bool, true, List, ◌++◌, suc, max, refl, sym, ap, ◌∙◌, subst, arith}
use Rattle.std.specs.Prelude.{IsTrue, codes}
use Rattle.std.proofs.lemmas.Bool.{false≢true}
use Rattle.tokens.specs.declared.token.TokenClass.TheVariants.{IdentifierName, PrivateName}
use Rattle.tokens.specs.declared.token.Goal.TheVariants.{RegExp}
use Rattle.tokens.specs.Tokens.{LexicalToken}
use Rattle.tree.specs.declared.kind.Kind.TheVariants.{PrivateIdentifier, BinaryExpression}
use Rattle.tree.specs.declared.kind.Pair.{Pair}
use Rattle.tree.specs.Tree.{Tree, node, none, part, bare, kind_of, plain, height}
use Rattle.tree.specs.Uses.{is_lean, used_flags}
use Rattle.tree.proofs.Lean.{lean_flags}
use Rattle.language.specs.declared.Edge.{Edge}
use Rattle.language.specs.declared.Rank.{Rank}
use Rattle.language.specs.declared.Rank.TheVariants.{Relational, Shift}
use Rattle.language.specs.declared.Start.TheVariants.{Any}
use Rattle.language.specs.Covers.{Reading, as_expression}
use Rattle.language.specs.Edges.{edge, edge_as_written}
use Rattle.language.specs.ExpressionStart.{with_private_name, expression_start}
use Rattle.language.specs.Pieces.{expr}
use Rattle.language.specs.Promises.{ReadBy, is_free}
use Rattle.language.specs.Token.{Token, as_read, table_text}
use Rattle.language.specs.Vocabulary.{takes, is_target as is_simple}
use Rattle.language.specs.Derivation.{Reads, Placed}
use Rattle.language.proofs.table.Begins.{retell}
use Rattle.language.proofs.table.OperatorFacts.{binding}
use Rattle.language.proofs.table.Reaches.{loose_of}
use Rattle.language.proofs.table.Tails.{tails_binary}
use Rattle.language.proofs.table.TokenFirstWays.{head_private}
use Rattle.language.proofs.climbing.BinaryTurns.{same_node}
use Rattle.language.proofs.climbing.FirstTurn.{begun_stops}
use Rattle.language.proofs.climbing.Leaves.{by_class, private_form}
use Rattle.language.proofs.climbing.LeftmostParts.{Cored, in_way, core_by}
use Rattle.language.proofs.climbing.RightOperands.{one_part}
use Rattle.language.proofs.list_loops.FirstPieces.{run_token, run_laid, run_part}
use Rattle.token_cursor.proofs.SeenTokens.{seen_determined}
use Rattle.parser_tables.specs.declared.operand.Operand.{Operand}
use Rattle.parser_tables.specs.declared.expression_context.ExpressionContext.{ExpressionContext}
use Rattle.parser_tables.specs.Operands.{plain_part}
use Rattle.parser_tables.specs.Tokens.{single_node, without_hash}
use Rattle.token_cursor.specs.Seen.{ReadsHere}
use Rattle.recursive_descent.specs.Completeness.{FirstAs, IsFirst, StopsIn}
use Rattle.recursive_descent.proofs.complete_expressions.Agreement.{read_here}
use Rattle.recursive_descent.proofs.complete_expressions.FunctionsAndClassesGiven.{edged_first}
use Rattle.recursive_descent.proofs.complete_expressions.PrefixesGiven.{placed_ends}
use Rattle.recursive_descent.proofs.complete_expressions.StartsGiven.{CoreGiven, given_core, is_bracket, is_named}
use Rattle.token_cursor.specs.SourceText.{SourceText, SeenNext, behind_in}
use Rattle.recursive_descent.specs.Spelled.{SpellsIn, OfLanguage}
use Rattle.recursive_descent.proofs.reading.LanguageTrees.{parts_of_language, others_of_language, first_of_language}

-- What stands behind a private name, which is this token and ends here.
pub record PrivateGiven (text : SourceText) (i : Bool) (o : ℕ) (h : Rank) (u : LexicalToken) (m : Token) (n : Tree) (to : Token) (Q : List Pair) : Type 0 where
  pub operand : Tree
  pub mid : Token
  pub tree : n ≡ node BinaryExpression (codes "in") plain u.start to.stop (part (single_node PrivateIdentifier u) (part operand none))
  pub taken : IsTrue (takes h Relational)
  pub word : ReadsHere text IdentifierName (codes "in") m mid
  pub spelled : SpellsIn text o (expr Shift i Any) operand mid to Q
  pub stopped : StopsIn text Shift i operand to

module _ (text : SourceText) where
  pub private_given : {p : ExpressionContext} {o : ℕ} {n : Tree} {s m to : Token} {Q : List Pair} {a : Reading} {h : Rank} (u : LexicalToken) → SeenNext text s (as_read u) m → u.class ≡ PrivateName → expression_start (as_read u) ≡ with_private_name → FirstAs text p o n s to Q a h → (a ≡ as_expression) × PrivateGiven text p.has_in o h u m n to Q
  private_given {p} {o} {n} {s} {m} {to} {Q} {a} {h} u next class opens g =
      let v = given_core text r (ap is_bracket opens) (ap is_named opens) g in (v.reading, of v (core_by Token (SeenNext text) (behind_in text) (seen_determined text) r opens v.begun.core))
    where
      r : ReadBy Token (SeenNext text) (behind_in text) RegExp s (as_read u) m
      r = record { next = next; allowed = (seen_determined text).free RegExp s (as_read u) m next (ap is_free class) }

      of : (v : CoreGiven text p o n s to Q a h) → Cored Token (SeenNext text) (behind_in text) (seen_determined text) o h v.j p.start n s to Q with_private_name → PrivateGiven text p.has_in o h u m n to Q
      of v (in_way {k = k} {w = w} {g = g} {st = st} {en = en} {ps = ps} is (head_private kind private operator tk has_in q) lean pl d) =
          let bares : is_lean (bare (node k w g st en ps)) ≡ true = ap (λ v. is_lean (bare v)) (sym is) ∙ lean in
          let ends = placed_ends text r (subst (λ c. Placed Token (SeenNext text) (behind_in text) (expr h v.j p.start) c s to) is pl) in
          let a = run_part Token (SeenNext text) (behind_in text) (retell Token (SeenNext text) (behind_in text) q d) in
          let name = private_form Token (SeenNext text) (behind_in text) (seen_determined text) a.spelled in
          let here = by_class Token (SeenNext text) (behind_in text) (seen_determined text) refl r name.sign a.mid name.reads in
          let word = run_token Token (SeenNext text) (behind_in text) (run_laid Token (SeenNext text) (behind_in text) a.runs) in
          let c = one_part Token (SeenNext text) (behind_in text) (seen_determined text) (run_laid Token (SeenNext text) (behind_in text) word.runs) in
          let plainly : u.text ≡ (as_read u).text = sym (ap (λ c. table_text c u.text) class) in
          let characters : name.text ≡ without_hash u.text = sym (ap without_hash (plainly ∙ ap (λ (t : Token). t.text) (sym here.0) ∙ name.reads.text)) in
          let name_is : a.item ≡ single_node PrivateIdentifier u = name.tree ∙ same_node refl characters refl (ap (λ (t : Token). t.start) here.0) (ap (λ (t : Token). t.stop) (ap (behind_in text) here.1 ∙ (seen_determined text).last s (as_read u) m next)) refl in
          let tree : n ≡ node BinaryExpression (codes "in") plain u.start to.stop (part (single_node PrivateIdentifier u) (part c.operand none)) =
          is ∙ same_node kind operator (lean_flags (bare (node k w g st en ps)) bares ∙ ap (λ v. used_flags v g) kind) ends.0 ends.1 (a.parts ∙ (λ i. part (name_is i) (c.parts i))) in
          let inside : v.j ≡ p.has_in = (v.begun.reached.same_in (loose_of h Relational tk refl)).1 in
          record {
            operand = c.operand;
            mid = word.mid;
            tree = tree;
            taken = tk;
            word = read_here text (subst (λ c. Reads Token (SeenNext text) (behind_in text) IdentifierName (codes "in") c word.sign word.mid) here.1 word.reads);
            spelled = subst (λ k. SpellsIn text o (expr Shift k Any) c.operand word.mid to Q) inside (subst (λ c1. SpellsIn text o (expr Shift v.j Any) c.operand word.mid to c1) (sym (a.pairs ∙ ap (λ x. x ++ a.more) name.pairs)) c.spelled);
            stopped = subst (λ k. StopsIn text Shift k c.operand to) inside
                (begun_stops Token (SeenNext text) (behind_in text) (seen_determined text) Relational Shift v.j c.operand (tails_binary Relational Shift (binding (codes "in") refl)) (λ l. omega arith) tk (λ k. refl) (ap (λ v. edge_as_written (edge v) (behind_in text to)) tree) v.begun);
          }

-- its parts are lower
pub private_low : {text : SourceText} {i : Bool} {o : ℕ} {h : Rank} {u : LexicalToken} {m : Token} {n : Tree} {to : Token} {Q : List Pair} (v : PrivateGiven text i o h u m n to Q) → height n ≡ suc (max (height (single_node PrivateIdentifier u)) (max (height v.operand) 0))
private_low v = ap height v.tree

-- what the code makes is what is given
pub private_first : {a : Reading} {h : Rank} {n x y m : Tree} {st en : ℕ} (w : Edge) (r : Operand) → a ≡ as_expression → m ≡ n → n ≡ node BinaryExpression (codes "in") plain st en (part x (part y none)) → IsTrue (takes h Relational) → r ≡ plain_part m Relational w → IsFirst a h r n
private_first {a} {h} {n} {m = m} w r reading same tree tk made = subst (λ c. IsFirst a h c n) (sym made) (edged_first w reading same (λ k. absurd (false≢true (sym (ap (λ c. is_simple (kind_of c)) tree) ∙ k))) tk)

-- and its operand is of the language
pub private_own : {text m_text : SourceText} {i : Bool} {o : ℕ} {h : Rank} {u : LexicalToken} {m : Token} {n : Tree} {to : Token} {Q : List Pair} (v : PrivateGiven text i o h u m n to Q) → m_text ≡ text → OfLanguage text n → OfLanguage m_text v.operand
private_own {text} v same own = subst (λ x. OfLanguage x v.operand) (sym same) (first_of_language (others_of_language (parts_of_language (subst (OfLanguage text) v.tree own))))
