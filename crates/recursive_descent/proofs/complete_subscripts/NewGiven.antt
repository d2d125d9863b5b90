-- What is given behind `new` (ECMA-262 12.3.5, 12.3.12): `target`; a callee and its arguments; or a callee alone.
use Rattle.std.proofs.Common.{◌≡◌, ℕ, true, false, List, [], ◌∷◌, ◌++◌, refl, sym, ap, ◌∙◌, subst, arith}
use Rattle.std.specs.Prelude.{IsTrue, codes, ◌&&◌}
use Prim.Native.String.{String}
use Rattle.std.proofs.lemmas.Bool.{and_parts, false≢true}
use Rattle.tokens.specs.declared.token.TokenClass.TheVariants.{IdentifierName, Punctuator}
use Rattle.tokens.specs.declared.token.Goal.TheVariants.{RegExp}
use Rattle.tree.specs.declared.kind.Kind.{Kind}
use Rattle.tree.specs.declared.kind.Kind.TheVariants.{Identifier, NewExpression, MetaProperty}
use Rattle.tree.specs.declared.kind.Flags.{Flags}
use Rattle.tree.specs.declared.kind.Pair.{Pair}
use Rattle.tree.specs.Tree.{Tree, node, Parts, none, part, text_of, bare, bare_parts, plain}
use Rattle.tree.specs.Uses.{is_lean, used_flags, has_text}
use Rattle.tree.proofs.Lean.{lean_flags, lean_text}
use Rattle.language.specs.declared.Rank.{Rank}
use Rattle.language.specs.declared.Rank.TheVariants.{New, Member}
use Rattle.language.specs.declared.Start.TheVariants.{Any}
use Rattle.language.specs.Covers.{Reading, as_expression}
use Rattle.language.specs.Edges.{edge, edge_as_written}
use Rattle.language.specs.Expressions.{arguments, lead_is}
use Rattle.language.specs.FirstPart.{others}
use Rattle.language.specs.ExpressionStart.{with_new, with_import, expression_start}
use Rattle.language.specs.Languages.{is_of_2022}
use Rattle.language.specs.Pieces.{expr, word, sub, tok}
use Rattle.language.specs.Promises.{ReadBy}
use Rattle.language.specs.Token.{Token}
use Rattle.language.specs.Vocabulary.{takes, is_keyword}
use Rattle.language.specs.Derivation.{Reads, Placed, step, token}
use Rattle.language.proofs.table.Begins.{goes_to, retell}
use Rattle.language.proofs.climbing.Callees.{standing_tight}
use Rattle.language.proofs.climbing.Conditionals.{stops_before}
use Rattle.language.proofs.climbing.LeftmostParts.{Cored, in_way, core_by}
use Rattle.language.proofs.table.TokenFirstWays.{head_new_with, head_new_without, head_new_target, head_import, head_import_meta}
use Rattle.language.proofs.climbing.Leaves.{by_name, by_class, worded_free, named_class, word_form}
use Rattle.language.proofs.table.RightEdges.{edged}
use Rattle.language.proofs.list_loops.FirstPieces.{run_token, run_laid, run_part}
use Rattle.language.proofs.climbing.RightOperands.{one_part}
use Rattle.language.proofs.climbing.FirstTurn.{begun_stops}
use Rattle.language.proofs.climbing.Suffixes.{argument_pieces, arguments_fixed}
use Rattle.language.proofs.table.Tails.{tails_new}
use Rattle.token_cursor.proofs.SeenTokens.{seen_determined}
use Rattle.language.proofs.climbing.BinaryTurns.{same_node}
use Rattle.recursive_descent.specs.Soundness.{RunsIn, anywhere}
use Rattle.parser_tables.specs.declared.expression_context.ExpressionContext.{ExpressionContext}
use Rattle.recursive_descent.specs.Follows.{target_node}
use Rattle.recursive_descent.specs.Completeness.{FirstAs, StopsIn}
use Rattle.token_cursor.specs.Seen.{ReadsHere, Misses}
use Rattle.parser_tables.specs.Tokens.{single_node}
use Rattle.recursive_descent.proofs.complete_expressions.Agreement.{read_here}
use Rattle.recursive_descent.proofs.reading.SeenClasses.{name_place}
use Rattle.recursive_descent.proofs.complete_expressions.StartsGiven.{CoreGiven, given_core, is_bracket, is_named, text_is, meta_later}
use Rattle.recursive_descent.proofs.complete_expressions.FunctionsAndClassesGiven.{ImportGiven, import_given}
use Rattle.recursive_descent.proofs.complete_expressions.PrefixesGiven.{placed_ends}
use Rattle.token_cursor.specs.SourceText.{SourceText, SeenNext, behind_in}
use Rattle.recursive_descent.specs.Spelled.{SpellsIn, OfLanguage}
use Rattle.recursive_descent.proofs.sound_expressions.GroupContents.{arguments_bare}

-- What stands behind `new`, which is this token.
pub data NewGiven (text : SourceText) (o : ℕ) (h : Rank) (u : Token) (n : Tree) (to : Token) (Q : List Pair) : Type 0 where
  new_target : {x : Token} → ReadsHere text Punctuator (codes ".") u x → ReadsHere text IdentifierName (codes "target") x to → n ≡ target_node u to → Q ≡ [] → IsTrue (takes h Member) → NewGiven text o h u n to Q
  new_given : {callee : Tree} {ps : Parts} {mid x : Token} {A B : List Pair} → n ≡ node NewExpression [] plain u.start to.stop (part callee ps) → IsTrue (takes h Member) → SpellsIn text o (expr Member true Any) callee u mid A → StopsIn text New true callee mid → ReadsHere text Punctuator (codes "(") mid x →
      RunsIn text o (anywhere (arguments ps)) ps mid to B → Q ≡ A ++ B → NewGiven text o h u n to Q
  new_alone : {callee : Tree} → n ≡ node NewExpression [] plain u.start to.stop (part callee none) → IsTrue (takes h New) → SpellsIn text o (expr New true Any) callee u to Q → StopsIn text New true callee to → Misses text Punctuator (codes "(") to → NewGiven text o h u n to Q

made_node : {k K : Kind} {w : List ℕ} {g : Flags} {st en st' en' : ℕ} {ps qs : Parts} {m : Tree} → m ≡ node k w g st en ps → k ≡ K → has_text K ≡ false → used_flags K g ≡ plain → is_lean (bare m) ≡ true → st ≡ st' → en ≡ en' → ps ≡ qs → m ≡ node K [] plain st' en' qs
made_node {k} {K} {w} {g} {st} {en} {st'} {en'} {ps} tree kind texts flags lean a b parts =
    let bares : is_lean (bare (node k w g st en ps)) ≡ true = ap (λ v. is_lean (bare v)) (sym tree) ∙ lean in
    tree ∙ same_node kind (lean_text (bare (node k w g st en ps)) bares (ap has_text kind ∙ texts)) (lean_flags (bare (node k w g st en ps)) bares ∙ ap (λ v. used_flags v g) kind ∙ flags) a b parts

ap_keyword : {v w : List ℕ} → v ≡ w → is_keyword v ≡ is_keyword w
ap_keyword e = ap is_keyword e

target_free : is_keyword (codes "target") ≡ false
unfolding is_keyword
target_free = refl

meta_free : is_keyword (codes "meta") ≡ false
unfolding is_keyword
meta_free = refl

-- two words with a `.` between them, of which the first is this token
pub record MetaGiven (text : SourceText) (u : Token) (n : Tree) (to : Token) (Q : List Pair) (second : List ℕ) : Type 0 where
  pub mid : Token
  pub dot : ReadsHere text Punctuator (codes ".") u mid
  pub name : ReadsHere text IdentifierName second mid to
  pub tree : n ≡ target_node u to
  pub pairs : Q ≡ []

-- `import.meta`, or a call of `import`
pub data ImportBegun (text : SourceText) (o : ℕ) (h : Rank) (u : Token) (n : Tree) (to : Token) (Q : List Pair) (a : Reading) : Type 0 where
  a_call : ImportGiven text o h u n to Q a → ImportBegun text o h u n to Q a
  a_meta : is_of_2022 text.language ≡ true → a ≡ as_expression → IsTrue (takes h Member) → MetaGiven text u n to Q (codes "meta") → ImportBegun text o h u n to Q a

module _ (text : SourceText) where
  meta_parts : {o : ℕ} {n : Tree} {s u to : Token} {ps : Parts} {Q : List Pair} (first second : String) → is_keyword (codes second) ≡ false → ReadBy Token (SeenNext text) (behind_in text) RegExp s u u → ((qs : Parts) → ps ≡ qs → n ≡ node MetaProperty [] plain u.start to.stop qs) →
      (lead_is (bare_parts ps) first && lead_is (others (bare_parts ps)) second) ≡ true → RunsIn text o (sub word ∷ tok Punctuator (codes ".") ∷ sub word ∷ []) ps s to Q → MetaGiven text u n to Q (codes second)
  meta_parts {u = u} {to = to} first second plain_word r made c d =
      let b = run_part Token (SeenNext text) (behind_in text) d in
      let one = word_form Token (SeenNext text) (behind_in text) (seen_determined text) b.spelled in
      let here = by_class Token (SeenNext text) (behind_in text) (seen_determined text) (worded_free one.class one.text one.is_word) r one.sign b.mid one.reads in
      let dot = run_token Token (SeenNext text) (behind_in text) b.runs in
      let e = one_part Token (SeenNext text) (behind_in text) (seen_determined text) dot.runs in
      let two = word_form Token (SeenNext text) (behind_in text) (seen_determined text) e.spelled in
      let parts = b.parts ∙ ap (part b.item) e.parts in
      let said = and_parts _ _ (ap (λ v. lead_is (bare_parts v) first && lead_is (others (bare_parts v)) second) (sym parts) ∙ c) in
      let last : two.text ≡ codes second = sym (ap text_of two.tree) ∙ text_is none second e.operand said.1 in
      let name : ReadsHere text IdentifierName (codes second) dot.mid to = read_here text (record { next = two.reads.next; class = two.reads.class ∙ named_class two.class two.text two.is_word (ap_keyword last ∙ plain_word); text = two.reads.text ∙ last }) in
      let first_is : b.item ≡ single_node Identifier u = one.tree ∙ same_node refl (sym one.reads.text ∙ ap (λ (t : Token). t.text) here.0) refl (ap (λ (t : Token). t.start) here.0) (ap (λ (t : Token). t.stop) here.1) refl in
      let at : two.sign ≡ to = sym ((seen_determined text).last dot.mid two.sign to two.reads.next) ∙ name_place text to name.class in
      let last_is : e.operand ≡ single_node Identifier to = two.tree ∙ same_node refl (sym two.reads.text ∙ ap (λ (t : Token). t.text) at) refl (ap (λ (t : Token). t.start) at) refl refl in
      record {
        mid = dot.mid;
        dot = read_here text (subst (λ c. Reads Token (SeenNext text) (behind_in text) Punctuator (codes ".") c dot.sign dot.mid) here.1 dot.reads);
        name = name;
        tree = made (part (single_node Identifier u) (part (single_node Identifier to) none)) (parts ∙ (λ i. part (first_is i) (part (last_is i) none)));
        pairs = b.pairs ∙ (λ i. one.pairs i ++ b.more) ∙ two.pairs;
      }

  new_cored : {p : ExpressionContext} {o : ℕ} {m : Tree} {s u mid : Token} {Q : List Pair} {a : Reading} {h : Rank} → ReadBy Token (SeenNext text) (behind_in text) RegExp s u u → (v : CoreGiven text p o m s mid Q a h) → Cored Token (SeenNext text) (behind_in text) (seen_determined text) o h v.j p.start m s mid Q with_new → NewGiven text o h u m mid Q
  new_cored {p} {o} {m} {s} {u} {mid} {Q} {a} {h} r v (in_way {k = k0} {w = w} {g = g} {st = st} {en = en} {ps = ps} tree (head_new_with k tk q) lean pl d) =
      let f = p.start in
      let j = v.j in
      let ends = placed_ends text r (subst (λ c. Placed Token (SeenNext text) (behind_in text) (expr h j f) c s mid) tree pl) in
      let one = run_token Token (SeenNext text) (behind_in text) (retell Token (SeenNext text) (behind_in text) q d) in
      let here = by_name Token (SeenNext text) (behind_in text) (seen_determined text) r one.sign one.mid one.reads in
      let b = run_part Token (SeenNext text) (behind_in text) (run_laid Token (SeenNext text) (behind_in text) one.runs) in
      let paren = run_token Token (SeenNext text) (behind_in text) (retell Token (SeenNext text) (behind_in text) (ap (λ v. goes_to h j f (arguments (others (bare_parts v)))) b.parts) b.runs) in
      let same = made_node tree k refl refl lean ends.0 ends.1 b.parts in
      let left = read_here text paren.reads in
      let rest : RunsIn text o (argument_pieces b.rest) b.rest paren.mid mid b.more = retell Token (SeenNext text) (behind_in text) (arguments_fixed h j f (bare_parts b.rest)) paren.runs in
      new_given same tk (subst (λ c. SpellsIn text o (expr Member true Any) b.item c b.mid b.one) here.1 b.spelled) (stops_before Token (SeenNext text) (behind_in text) (seen_determined text) New true b.item paren.reads refl refl (λ c z. refl)) left
      (retell Token (SeenNext text) (behind_in text) (ap anywhere (arguments_bare b.rest)) (step (token left) rest)) b.pairs
  new_cored {p} {o} {m} {s} {u} {mid} {Q} {a} {h} r v (in_way {k = k0} {w = w} {g = g} {st = st} {en = en} {ps = ps} tree (head_new_without k n tk q) lean pl d) =
      let f = p.start in
      let j = v.j in
      let ends = placed_ends text r (subst (λ c. Placed Token (SeenNext text) (behind_in text) (expr h j f) c s mid) tree pl) in
      let one = run_token Token (SeenNext text) (behind_in text) (retell Token (SeenNext text) (behind_in text) q d) in
      let here = by_name Token (SeenNext text) (behind_in text) (seen_determined text) r one.sign one.mid one.reads in
      let b = one_part Token (SeenNext text) (behind_in text) (seen_determined text) (run_laid Token (SeenNext text) (behind_in text) one.runs) in
      let same = made_node tree k refl refl lean ends.0 ends.1 b.parts in
      let spelled : SpellsIn text o (expr New true Any) b.operand u mid Q = subst (λ c. SpellsIn text o (expr New true Any) b.operand c mid Q) here.1 b.spelled in
      new_alone same tk spelled
      (begun_stops Token (SeenNext text) (behind_in text) (seen_determined text) New New true b.operand tails_new (λ l. omega arith) tk (λ k. absurd (false≢true k)) (ap (λ v. edge_as_written (edge v) (behind_in text mid)) same ∙ sym (standing_tight (edged Token (SeenNext text) (behind_in text) (seen_determined text) spelled) (omega arith))) v.begun)
      (v.uncalled tk (ap edge same))
  new_cored {p} {o} {m} {s} {u} {mid} {Q} {a} {h} r v (in_way {k = k0} {w = w} {g = g} {st = st} {en = en} {ps = ps} tree (head_new_target k c tk q) lean pl d) =
      let f = p.start in
      let j = v.j in
      let ends = placed_ends text r (subst (λ c. Placed Token (SeenNext text) (behind_in text) (expr h j f) c s mid) tree pl) in
      let v = meta_parts "new" "target" target_free r (λ qs. made_node tree k refl refl lean ends.0 ends.1) c (retell Token (SeenNext text) (behind_in text) q d) in
      new_target v.dot v.name v.tree v.pairs tk

  pub new_given_so : {p : ExpressionContext} {o : ℕ} {n : Tree} {s u to : Token} {Q : List Pair} {a : Reading} {h : Rank} → ReadBy Token (SeenNext text) (behind_in text) RegExp s u u → expression_start u ≡ with_new → FirstAs text p o n s to Q a h → (a ≡ as_expression) × NewGiven text o h u n to Q
  new_given_so r opens g = let v = given_core text r (ap is_bracket opens) (ap is_named opens) g in (v.reading, new_cored r v (core_by Token (SeenNext text) (behind_in text) (seen_determined text) r opens v.begun.core))

  -- what is given behind `import`
  pub import_begun : {p : ExpressionContext} {o : ℕ} {n : Tree} {s u to : Token} {Q : List Pair} {a : Reading} {h : Rank} → ReadBy Token (SeenNext text) (behind_in text) RegExp s u u → expression_start u ≡ with_import → FirstAs text p o n s to Q a h → OfLanguage text n → ImportBegun text o h u n to Q a
  import_begun {p} {o} {n} {s} {u} {to} {Q} {a} {h} r opens g own = let v = given_core text r (ap is_bracket opens) (ap is_named opens) g in of v (core_by Token (SeenNext text) (behind_in text) (seen_determined text) r opens v.begun.core)
    where
      of : (v : CoreGiven text p o n s to Q a h) → Cored Token (SeenNext text) (behind_in text) (seen_determined text) o h v.j p.start n s to Q with_import → ImportBegun text o h u n to Q a
      of v (in_way tree (head_import k tk q) lean pl d) =
          let word = run_token Token (SeenNext text) (behind_in text) (retell Token (SeenNext text) (behind_in text) q d) in
          let here = by_name Token (SeenNext text) (behind_in text) (seen_determined text) r word.sign word.mid word.reads in
          let left = run_token Token (SeenNext text) (behind_in text) word.runs in
          a_call (import_given text r opens (read_here text (subst (λ c. Reads Token (SeenNext text) (behind_in text) Punctuator (codes "(") c left.sign left.mid) here.1 left.reads)) g)
      of v (in_way {k = k} {w = w} {g = g} {st = st} {en = en} {ps = ps} tree (head_import_meta kind c tk q) lean pl d) =
          let ends = placed_ends text r (subst (λ c. Placed Token (SeenNext text) (behind_in text) (expr h v.j p.start) c s to) tree pl) in
          let m = meta_parts "import" "meta" meta_free r (λ qs. made_node tree kind refl refl lean ends.0 ends.1) c (retell Token (SeenNext text) (behind_in text) q d) in
          a_meta (meta_later text own tree kind (and_parts (lead_is (bare_parts ps) "import") _ c).0) v.reading tk m
