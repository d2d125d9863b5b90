-- An operator before its operand, as it is given (ECMA-262 12.4, 12.5).
use Rattle.std.proofs.Common.{◌≡◌, ℕ, suc, ◌≤◌, Bool, true, false, cond, List, [], ◌∷◌, ◌++◌, refl, sym, ap, ◌∙◌, subst, arith}
use Rattle.std.specs.Prelude.{IsTrue, cond, codes, ◌||◌, Some}
use Rattle.std.proofs.lemmas.Slice.Eq.{bytes_eq-Decides}
use Rattle.std.proofs.lemmas.Bool.{false≢true}
use Rattle.tokens.specs.Tokens.{LexicalToken}
use Rattle.tokens.specs.declared.token.TokenClass.TheVariants.{Punctuator}
use Rattle.tokens.specs.declared.token.Goal.TheVariants.{RegExp}
use Rattle.tokens.specs.Goals.{allows}
use Rattle.token_cursor.specs.CursorState.{IsAhead}
use Rattle.tree.specs.declared.kind.Kind.{Kind}
use Rattle.tree.specs.declared.kind.Kind.TheVariants.{Identifier, MemberExpression, UnaryExpression, AwaitExpression, UpdateExpression}
use Rattle.tree.specs.declared.kind.Flags.{Flags}
use Rattle.tree.specs.declared.kind.Pair.{Pair}
use Rattle.tree.specs.Tree.{Tree, node, Parts, none, part, height, bare, bare_parts, kind_of, plain}
use Rattle.tree.specs.Uses.{has_text, is_lean, used_flags}
use Rattle.tree.proofs.Lean.{lean_flags, lean_text}
use Rattle.tree.specs.Patterns.{pattern_tree}
use Rattle.language.specs.declared.Rank.{Rank}
use Rattle.language.specs.declared.Rank.TheVariants.{Conditional, Unary, Update, LeftHandSide, New, Relational}
use Rattle.language.specs.declared.Start.{Start}
use Rattle.language.specs.declared.Start.TheVariants.{Any}
use Rattle.language.specs.declared.Edge.TheVariants.{Other}
use Rattle.language.specs.FirstPart.{lead as lead_kind}
use Rattle.language.specs.Vocabulary.{is, among, is_prefix, is_keyword, takes, precedence, is_target as is_simple}
use Rattle.language.specs.Covers.{Reading, as_expression}
use Rattle.language.specs.Pieces.{expr, Piece, put, lay, apart}
use Rattle.language.specs.Token.{Token, as_read, table_text}
use Rattle.language.specs.Edges.{edge, edge_as_written}
use Rattle.language.specs.ExpressionStart.{ExpressionStart, with_word, with_sign, with_step, expression_start}
use Rattle.language.specs.Promises.{ReadBy}
use Rattle.language.specs.Derivation.{Reads, Placed, placed}
use Rattle.language.proofs.table.Begins.{AllLaid, no_piece, one_laid, goes_to, retell, among_by}
use Rattle.language.proofs.table.TokenFirstWays.{unary_space, head_word, head_await, head_sign, head_step, prefix_sign_opens, step_opens}
use Rattle.language.proofs.climbing.LeftmostParts.{Cored, in_way, core_by}
use Rattle.language.proofs.climbing.RightOperands.{OnePart, one_part}
use Rattle.language.proofs.list_loops.FirstPieces.{run_token, run_laid}
use Rattle.language.proofs.climbing.OperatorNodes.{kind_bare}
use Rattle.language.proofs.table.Tails.{Tails, tails_unary, tails_step}
use Rattle.language.proofs.climbing.BinaryTurns.{same_node}
use Rattle.language.proofs.climbing.FirstTurn.{Begun, begun_stops}
use Rattle.language.proofs.climbing.Leaves.{by_name, by_class}
use Rattle.token_cursor.proofs.SeenTokens.{seen_determined}
use Rattle.parser_tables.specs.declared.operand.Operand.{Operand}
use Rattle.parser_tables.specs.declared.expression_context.ExpressionContext.{ExpressionContext}
use Rattle.parser_tables.specs.declared.expression_starts.ExpressionStart.TheVariants as code
use Rattle.recursive_descent.specs.Soundness.{RunsIn}
use Rattle.recursive_descent.specs.Completeness.{StopsIn, FirstAs, IsRead, IsFirst}
use Rattle.parser_tables.specs.ExpressionStarts.{coded_in}
use Rattle.parser_tables.specs.Operands.{plain_part}
use Rattle.language.specs.declared.Language.{Language}
use Rattle.recursive_descent.proofs.sound_expressions.CodedStarts.{coded_plain}
use Rattle.recursive_descent.specs.LeftOperands.{before, is_prefix_update, takes_operand, prefixed_node, prefixed_part}
use Rattle.recursive_descent.proofs.complete_expressions.StartsGiven.{CoreGiven, given_core, is_bracket, is_named}
use Rattle.recursive_descent.proofs.sound_expressions.StartsByToken.{WordBy, a_name as of_name, a_keyword_of, word_of, sign_of, step_of}
use Rattle.token_cursor.proofs.TokensAhead.{ahead_read}
use Rattle.token_cursor.specs.SourceText.{SourceText, SeenNext, behind_in, unseen}
use Rattle.recursive_descent.specs.Spelled.{SpellsIn, OfLanguage}
use Rattle.recursive_descent.proofs.reading.LanguageTrees.{first_of_language, parts_of_language}
use Rattle.recursive_descent.proofs.sound_expressions.PrefixOperators.{PrefixBegun, a_step, a_word, a_sign, prefix_begun}

target_edge : (u : Tree) → is_simple (kind_of u) ≡ true → edge u ≡ Other
target_edge (node Identifier w g st en ps) h = refl
target_edge (node MemberExpression w g st en ps) h = refl
target_edge (node k0 w g st en ps) h = absurd (false≢true h)

unary_laid : (w : List ℕ) → AllLaid (unary_space w)
unary_laid w = of (is w "+") (is w "-")
  where
    of : (b c : Bool) → AllLaid (cond b (lay (apart 43) ∷ []) (cond c (lay (apart 45) ∷ []) []))
    of true c = one_laid
    of false true = one_laid
    of false false = no_piece

-- the symbol of what it makes
abbrev pub prefix_rank : Bool → Rank
prefix_rank true = Update
prefix_rank false = Unary

-- the symbol of its operand
abbrev pub operand_rank : Bool → Rank
operand_rank true = LeftHandSide
operand_rank false = Unary

-- the node of the operator with what stands behind it
abbrev with_operand : Bool → List ℕ → ℕ → ℕ → Tree → Tree
with_operand true w s e n = node UpdateExpression w before s e (part n none)
with_operand false w s e n = cond (is_keyword w) (node AwaitExpression [] plain s e (part n none)) (node UnaryExpression w plain s e (part n none))

-- An operator with its operand, which can't go on.
pub record PrefixGiven (text : SourceText) (o : ℕ) (h : Rank) (b : Bool) (u x : Token) (n : Tree) (s to : Token) (Q : List Pair) : Type 0 where
  pub operand : Tree
  pub tree : n ≡ with_operand b u.text u.start to.stop operand
  pub simple : b ≡ true → is_simple (kind_of operand) ≡ true
  pub spelled : SpellsIn text o (expr (operand_rank b) true Any) operand x to Q
  pub stopped : StopsIn text (operand_rank b) true operand to
  pub taken : IsTrue (takes h (prefix_rank b))

tails_of : (b : Bool) → Tails (prefix_rank b) (operand_rank b)
tails_of true = tails_step
tails_of false = tails_unary

no_conditional : (b : Bool) → precedence (prefix_rank b) ≡ 2 → ⊥
no_conditional true e = omega arith
no_conditional false e = omega arith

no_relation : (b : Bool) {j : Bool} → takes (operand_rank b) Relational ≡ true → true ≡ j
no_relation true e = absurd (false≢true e)
no_relation false e = absurd (false≢true e)

operand_edge : (b : Bool) (w : List ℕ) (st en : ℕ) (v : Tree) → (b ≡ true → is_simple (kind_of v) ≡ true) → edge (with_operand b w st en v) ≡ edge v
operand_edge true w st en v s = sym (target_edge v (s refl))
operand_edge false w st en v s = of (is_keyword w)
  where
    of : (b : Bool) → edge (cond b (node AwaitExpression [] plain st en (part v none)) (node UnaryExpression w plain st en (part v none))) ≡ edge v
    of true = refl
    of false = refl

-- no operator of the table is the keyword
no_await : (w : List ℕ) → is_prefix w ≡ true → is_keyword w ≡ false
unfolding is_keyword
no_await w h = of (is w "await") refl
  where
    of : (b : Bool) → is w "await" ≡ b → (b || false) ≡ false
    of true e = absurd (false≢true (sym (ap is_prefix ((bytes_eq-Decides w (codes "await")).0 e)) ∙ h))
    of false e = refl

await_no_step : (w : List ℕ) → is_keyword w ≡ true → is_prefix_update w ≡ false
unfolding is_keyword
await_no_step w h = of (is w "await") refl h
  where
    of : (b : Bool) → is w "await" ≡ b → (b || false) ≡ true → is_prefix_update w ≡ false
    of true e k = ap is_prefix_update ((bytes_eq-Decides w (codes "await")).0 e)
    of false e k = cc

unary_is : (w : List ℕ) (st en : ℕ) (v : Tree) → is_keyword w ≡ false → node UnaryExpression w plain st en (part v none) ≡ with_operand false w st en v
unary_is w st en v h = sym (ap (λ b. cond b (node AwaitExpression [] plain st en (part v none)) (node UnaryExpression w plain st en (part v none))) h)

await_is : (w : List ℕ) (st en : ℕ) (v : Tree) → w ≡ codes "await" → node AwaitExpression [] plain st en (part v none) ≡ with_operand false w st en v
unfolding is_keyword
await_is w st en v h = sym (ap (λ z. with_operand false z st en v) h)

module _ (text : SourceText) where
  strip : {o : ℕ} (y : Rank) (j : Bool) (f : Start) {qs : List Piece} (rs : List Piece) {ps : Parts} {s e : Token} {P : List Pair} → AllLaid qs → RunsIn text o (goes_to y j f (qs ++ rs)) ps s e P → RunsIn text o (goes_to y j f rs) ps s e P
  strip y j f rs no_piece d = d
  strip y j f rs one_laid d = run_laid Token (SeenNext text) (behind_in text) d

  by_mark : {s0 x : Token} {t : Token} {w : List ℕ} → ReadBy Token (SeenNext text) (behind_in text) RegExp s0 t x → IsTrue (allows RegExp Punctuator w) → (t1 m1 : Token) → Reads Token (SeenNext text) (behind_in text) Punctuator w s0 t1 m1 → (t1 ≡ t) × (m1 ≡ x)
  by_mark {s0} {x} {t} {w} r al t1 m1 h =
      let al' : IsTrue (allows RegExp t1.class t1.text) = subst (λ v. IsTrue (allows RegExp v t1.text)) (sym h.class) (subst (λ v. IsTrue (allows RegExp Punctuator v)) (sym h.text) al) in
      (seen_determined text).same RegExp s0 t1 t m1 x h.next r.next al' r.allowed

  -- from the first token to the last
  pub placed_ends : {q : Rank} {j : Bool} {f : Start} {k : Kind} {w : List ℕ} {g : Flags} {st en : ℕ} {ps : Parts} {s m t x : Token} → ReadBy Token (SeenNext text) (behind_in text) RegExp s t x → Placed Token (SeenNext text) (behind_in text) (expr q j f) (node k w g st en ps) s m → (st ≡ t.start) × (en ≡ m.stop)
  placed_ends {s = s} {t = t} {x = x} r (placed {t = v} {m = k} nx p) = (sym (ap (λ (x : ℕ × ℕ). x.0) p) ∙ (seen_determined text).start s v t k x nx r.next, sym (ap (λ (x : ℕ × ℕ). x.1) p))

  -- the node of the token that is read, with its operand
  made : (b : Bool) {o : ℕ} {y : Rank} {i : Bool} {f : Start} {n : Tree} {s e : Token} {P : List Pair} {q : Rank} {j : Bool} {m : Tree} {mid m1 : Token} {Q : List Pair} {t x : Token} {k : Kind} {w : List ℕ} {g : Flags} {st en : ℕ} {ps : Parts} →
      Begun Token (SeenNext text) (behind_in text) (seen_determined text) o s y i f n e P q j m mid Q → ReadBy Token (SeenNext text) (behind_in text) RegExp s t x → m ≡ node k w g st en ps → m1 ≡ x →
      ((v : Tree) (st en : ℕ) → node k w g st en (part v none) ≡ with_operand b t.text st en v) → IsTrue (takes q (prefix_rank b)) → (v : OnePart Token (SeenNext text) (behind_in text) (seen_determined text) o (expr (operand_rank b) true Any) ps m1 mid Q) →
      (b ≡ true → is_simple (kind_of v.operand) ≡ true) → Placed Token (SeenNext text) (behind_in text) (expr q j f) m s mid → PrefixGiven text o q b t x m s mid Q
  made b {o} {f = f} {s = s} {q = q} {j = j} {m = m} {mid = mid} {Q = Q} {t = t} {k = k} {w = w} {g = g} {st = st} {en = en} {ps = ps} begun r is same node_is tk v simple pl =
      let at = placed_ends r (subst (λ c. Placed Token (SeenNext text) (behind_in text) (expr q j f) c s mid) is pl) in
      let tree : m ≡ with_operand b t.text t.start mid.stop v.operand = is ∙ same_node refl refl refl at.0 at.1 v.parts ∙ node_is v.operand t.start mid.stop in
      record {
        operand = v.operand;
        tree = tree;
        simple = simple;
        spelled = subst (λ c. SpellsIn text o (expr (operand_rank b) true Any) v.operand c mid Q) same v.spelled;
        stopped = begun_stops Token (SeenNext text) (behind_in text) (seen_determined text) (prefix_rank b) (operand_rank b) true v.operand (tails_of b) (no_conditional b) tk (no_relation b) (ap (λ c. edge_as_written (edge c) (behind_in text mid)) tree ∙ ap (λ c. edge_as_written c (behind_in text mid)) (operand_edge b t.text t.start mid.stop v.operand simple)) begun;
        taken = tk;
      }

  cored_word : {o : ℕ} {y : Rank} {i : Bool} {f : Start} {n : Tree} {s e : Token} {P : List Pair} {q : Rank} {j : Bool} {m : Tree} {mid : Token} {Q : List Pair} {t x : Token} → Begun Token (SeenNext text) (behind_in text) (seen_determined text) o s y i f n e P q j m mid Q → ReadBy Token (SeenNext text) (behind_in text) RegExp s t x →
      Cored Token (SeenNext text) (behind_in text) (seen_determined text) o q j f m s mid Q with_word → PrefixGiven text o q false t x m s mid Q
  cored_word b r (in_way {k = k} {w = w} {g = g} {st = st} {en = en} {ps = ps} is (head_word kind p v tk d1) lean pl d) =
      let bares : is_lean (bare (node k w g st en ps)) ≡ true = ap (λ c. is_lean (bare c)) (sym is) ∙ lean in
      let a = run_token Token (SeenNext text) (behind_in text) (retell Token (SeenNext text) (behind_in text) d1 d) in
      let same = by_name Token (SeenNext text) (behind_in text) (seen_determined text) r a.sign a.mid a.reads in
      let flags : g ≡ plain = lean_flags (bare (node k w g st en ps)) bares ∙ ap (λ c. used_flags c g) kind in
      let word : w ≡ _ = sym a.reads.text ∙ ap (λ (t : Token). t.text) same.0 in
      made false b r is same.1 (λ c st en. same_node kind word flags refl refl refl ∙ unary_is _ st en c (ap is_keyword (sym word) ∙ no_await w p)) tk
      (one_part Token (SeenNext text) (behind_in text) (seen_determined text) (run_laid Token (SeenNext text) (behind_in text) a.runs)) (λ e. cc) pl
  cored_word b r (in_way {k = k} {w = w} {g = g} {st = st} {en = en} {ps = ps} is (head_await kind tk d1) lean pl d) =
      let bares : is_lean (bare (node k w g st en ps)) ≡ true = ap (λ c. is_lean (bare c)) (sym is) ∙ lean in
      let a = run_token Token (SeenNext text) (behind_in text) (retell Token (SeenNext text) (behind_in text) d1 d) in
      let same = by_class Token (SeenNext text) (behind_in text) (seen_determined text) refl r a.sign a.mid a.reads in
      let flags : g ≡ plain = lean_flags (bare (node k w g st en ps)) bares ∙ ap (λ c. used_flags c g) kind in
      made false b r is same.1 (λ c st en. same_node kind (lean_text (bare (node k w g st en ps)) bares (ap has_text kind)) flags refl refl refl ∙ await_is _ st en c (sym (ap (λ (t : Token). t.text) same.0) ∙ a.reads.text)) tk
      (one_part Token (SeenNext text) (behind_in text) (seen_determined text) (run_laid Token (SeenNext text) (behind_in text) a.runs)) (λ e. cc) pl

  cored_sign : {o : ℕ} {y : Rank} {i : Bool} {f : Start} {n : Tree} {s e : Token} {P : List Pair} {q : Rank} {j : Bool} {m : Tree} {mid : Token} {Q : List Pair} {t x : Token} → Begun Token (SeenNext text) (behind_in text) (seen_determined text) o s y i f n e P q j m mid Q → ReadBy Token (SeenNext text) (behind_in text) RegExp s t x →
      Cored Token (SeenNext text) (behind_in text) (seen_determined text) o q j f m s mid Q with_sign → PrefixGiven text o q false t x m s mid Q
  cored_sign {f = f} {q = q} {j = j} b r (in_way {k = k} {w = w} {g = g} {st = st} {en = en} {ps = ps} is (head_sign kind p v tk d1) lean pl d) =
      let bares : is_lean (bare (node k w g st en ps)) ≡ true = ap (λ c. is_lean (bare c)) (sym is) ∙ lean in
      let a = run_token Token (SeenNext text) (behind_in text) (retell Token (SeenNext text) (behind_in text) d1 d) in
      let same = by_mark r (prefix_sign_opens w p v).1 a.sign a.mid a.reads in
      let flags : g ≡ plain = lean_flags (bare (node k w g st en ps)) bares ∙ ap (λ c. used_flags c g) kind in
      let word : w ≡ _ = sym a.reads.text ∙ ap (λ (t : Token). t.text) same.0 in
      made false b r is same.1 (λ c st en. same_node kind word flags refl refl refl ∙ unary_is _ st en c (ap is_keyword (sym word) ∙ no_await w p)) tk
      (one_part Token (SeenNext text) (behind_in text) (seen_determined text) (strip q j f (put (expr Unary true Any) ∷ []) (unary_laid w) a.runs)) (λ e. cc) pl

  cored_step : {o : ℕ} {y : Rank} {i : Bool} {f : Start} {n : Tree} {s e : Token} {P : List Pair} {q : Rank} {j : Bool} {m : Tree} {mid : Token} {Q : List Pair} {t x : Token} → Begun Token (SeenNext text) (behind_in text) (seen_determined text) o s y i f n e P q j m mid Q → ReadBy Token (SeenNext text) (behind_in text) RegExp s t x →
      Cored Token (SeenNext text) (behind_in text) (seen_determined text) o q j f m s mid Q with_step → PrefixGiven text o q true t x m s mid Q
  cored_step b r (in_way {k = k} {w = w} {g = g} {st = st} {en = en} {ps = ps} is (head_step kind p ta fl tk d1) lean pl d) =
      let bares : is_lean (bare (node k w g st en ps)) ≡ true = ap (λ c. is_lean (bare c)) (sym is) ∙ lean in
      let a = run_token Token (SeenNext text) (behind_in text) (retell Token (SeenNext text) (behind_in text) d1 d) in
      let same = by_mark r (step_opens w p).1 a.sign a.mid a.reads in
      let one = one_part Token (SeenNext text) (behind_in text) (seen_determined text) (run_laid Token (SeenNext text) (behind_in text) a.runs) in
      let flags : g ≡ before = lean_flags (bare (node k w g st en ps)) bares ∙ ap (λ c. used_flags c g) kind ∙ (λ c. record plain { prefix = fl c }) in
      made true b r is same.1 (λ c st en. same_node kind (sym a.reads.text ∙ ap (λ (t : Token). t.text) same.0) flags refl refl refl) tk one
      (λ e. ap is_simple (sym (kind_bare one.operand)) ∙ sym (ap (λ c. is_simple (lead_kind (bare_parts c))) one.parts) ∙ ta) pl

  -- such an operator, by what is given and its token
  pub prefix_given : {p : ExpressionContext} {o : ℕ} {n : Tree} {s to : Token} {Q : List Pair} {a : Reading} {h : Rank} (u : LexicalToken) (own side : Rank) → IsAhead RegExp text s.stop u → coded_in text.language (as_read u) ≡ Some (code.Prefix own side) → FirstAs text p o n s to Q a h →
      (a ≡ as_expression) × (side ≡ operand_rank (is_prefix_update u.text)) × PrefixGiven text o h (is_prefix_update u.text) (as_read u) (unseen (as_read u)) n s to Q
  prefix_given {p} {o} {n} {s} {to} {Q} {a} {h} u own side ahead coded g = of (prefix_begun (expression_start (as_read u)) own side (coded_plain text.language (expression_start (as_read u)) (as_read u).text (code.Prefix own side) coded refl)) refl
    where
      r : ReadBy Token (SeenNext text) (behind_in text) RegExp s (as_read u) (unseen (as_read u))
      r = ahead_read text RegExp s u ahead

      word_no_step : WordBy u.class (as_read u).text → is_prefix_update u.text ≡ false
      word_no_step (of_name class word) = among_by (λ v. is_prefix_update v ≡ false) u.text ("delete" ∷ "void" ∷ "typeof" ∷ []) (ap (λ w. among w ("delete" ∷ "void" ∷ "typeof" ∷ [])) (sym (ap (λ c. table_text c u.text) class)) ∙ word) (refl, (refl, (refl, tt)))
      word_no_step (a_keyword_of class word) = await_no_step u.text (ap is_keyword (sym (ap (λ c. table_text c u.text) class)) ∙ word)

      core : {x : ExpressionStart} → expression_start (as_read u) ≡ x → is_bracket x ≡ false → is_named x ≡ false → CoreGiven text p o n s to Q a h
      core opens b c = given_core text r (ap is_bracket opens ∙ b) (ap is_named opens ∙ c) g

      of : {x : ExpressionStart} {own side : Rank} → PrefixBegun x own side → expression_start (as_read u) ≡ x → (a ≡ as_expression) × (side ≡ operand_rank (is_prefix_update u.text)) × PrefixGiven text o h (is_prefix_update u.text) (as_read u) (unseen (as_read u)) n s to Q
      of a_word opens =
          let no_step = word_no_step (word_of u.class (as_read u).text opens) in
          let v = core opens refl refl in
          (v.reading, ap operand_rank (sym no_step), subst (λ c. PrefixGiven text o h c (as_read u) (unseen (as_read u)) n s to Q) (sym no_step) (cored_word v.begun r (core_by Token (SeenNext text) (behind_in text) (seen_determined text) r opens v.begun.core)))
      of a_sign opens =
          let by = sign_of u.class (as_read u).text opens in
          let no_step : is_prefix_update u.text ≡ false = among_by (λ v. is_prefix_update v ≡ false) u.text ("+" ∷ "-" ∷ "~" ∷ "!" ∷ []) (ap (λ w. among w ("+" ∷ "-" ∷ "~" ∷ "!" ∷ [])) (sym (ap (λ c. table_text c u.text) by.0)) ∙ by.1) (refl, (refl, (refl, (refl, tt)))) in
          let v = core opens refl refl in
          (v.reading, ap operand_rank (sym no_step), subst (λ c. PrefixGiven text o h c (as_read u) (unseen (as_read u)) n s to Q) (sym no_step) (cored_sign v.begun r (core_by Token (SeenNext text) (behind_in text) (seen_determined text) r opens v.begun.core)))
      of a_step opens =
          let by = step_of u.class (as_read u).text opens in
          let is_step : is_prefix_update u.text ≡ true = ap (λ w. among w ("++" ∷ "--" ∷ [])) (sym (ap (λ c. table_text c u.text) by.0)) ∙ by.1 in
          let v = core opens refl refl in
          (v.reading, ap operand_rank (sym is_step), subst (λ c. PrefixGiven text o h c (as_read u) (unseen (as_read u)) n s to Q) (sym is_step) (cored_step v.begun r (core_by Token (SeenNext text) (behind_in text) (seen_determined text) r opens v.begun.core)))

made_low : (b : Bool) (w : List ℕ) (st en : ℕ) (v : Tree) → suc (height v) ≤ height (with_operand b w st en v)
made_low true w st en v = omega arith
made_low false w st en v = of (is_keyword w)
  where
    of : (b : Bool) → suc (height v) ≤ height (cond b (node AwaitExpression [] plain st en (part v none)) (node UnaryExpression w plain st en (part v none)))
    of true = omega arith
    of false = omega arith

-- its operand is lower
pub operand_low : {text : SourceText} {o : ℕ} {h : Rank} {b : Bool} {u x : Token} {n : Tree} {s to : Token} {Q : List Pair} (v : PrefixGiven text o h b u x n s to Q) → suc (height v.operand) ≤ height n
operand_low {b = b} {u = u} {n = n} {to = to} v = let low = made_low b u.text u.start to.stop v.operand in let high : height n ≡ height (with_operand b u.text u.start to.stop v.operand) = ap height v.tree in omega arith

pub operand_symbols : (b : Bool) → (operand_rank b ≡ Conditional → ⊥) × (operand_rank b ≡ New → ⊥)
operand_symbols true = (λ e. cc, λ e. cc)
operand_symbols false = (λ e. cc, λ e. cc)

simple_same : (v : Tree) → is_simple (kind_of v) ≡ true → (q : Tree) → q ≡ v → pattern_tree q ≡ v
simple_same (node Identifier w g st en ps) h q e = ap pattern_tree e
simple_same (node MemberExpression w g st en ps) h q e = ap pattern_tree e
simple_same (node _ w g st en ps) h q e = absurd (false≢true h)

node_same : (b : Bool) (w : List ℕ) (st en : ℕ) {q v : Tree} → q ≡ v → (b ≡ true → is_simple (kind_of v) ≡ true) → prefixed_node b w st en q ≡ with_operand b w st en v
node_same true w st en {q} {v} e s = ap (λ c. node UpdateExpression w before st en (part c none)) (simple_same v (s refl) q e)
node_same false w st en e s = ap (λ c. cond (is_keyword w) (node AwaitExpression [] plain st en (part c none)) (node UnaryExpression w plain st en (part c none))) e

fits_so : (b : Bool) {q : Operand} {v : Tree} → IsRead as_expression q v → (b ≡ true → is_simple (kind_of v) ≡ true) → takes_operand b q.cover.shape ≡ true
fits_so true r s = r.target (s refl)
fits_so false r s = r.fits

first_so : (b : Bool) (w : List ℕ) (st en : ℕ) (q : Operand) {h : Rank} {n v : Tree} → q.cover.node ≡ v → (b ≡ true → is_simple (kind_of v) ≡ true) → n ≡ with_operand b w st en v → IsTrue (takes h (prefix_rank b)) → IsFirst as_expression h (prefixed_part b w st en q) n
first_so true w st en q {n = n} e s is tk = record { read = record { fits = refl; tree = node_same true w st en e s ∙ sym is; target = λ k. (let z = sym (ap (λ c. is_simple (kind_of c)) is) ∙ k in cc); pattern = λ b k l. cc }; taken = tk; alone = λ b k. cc }
first_so false w st en q {h} {n = n} {v = v} e s is tk = record {
  read = record { fits = fits (is_keyword w); tree = node_same false w st en e s ∙ sym is; target = λ k. absurd (false≢true (sym (simple (is_keyword w)) ∙ sym (ap (λ c. is_simple (kind_of c)) is) ∙ k)); pattern = λ b k l. cc };
  taken = tk;
  alone = λ b k. cc;
}
  where
    fits : (b : Bool) → (plain_part (cond b (node AwaitExpression [] plain st en (part q.cover.node none)) (node UnaryExpression w plain st en (part q.cover.node none))) Unary q.edge).cover.shape.is_expression ≡ true
    fits true = refl
    fits false = refl

    simple : (b : Bool) → is_simple (kind_of (cond b (node AwaitExpression [] plain st en (part v none)) (node UnaryExpression w plain st en (part v none)))) ≡ false
    simple true = refl
    simple false = refl

-- What the code makes of the operand is what is given.
pub prefix_made : {text : SourceText} {o : ℕ} {h : Rank} {n : Tree} {s to : Token} {Q : List Pair} (u : LexicalToken) (en : ℕ) (q : Operand) → (as_read u).text ≡ u.text → en ≡ to.stop → (v : PrefixGiven text o h (is_prefix_update u.text) (as_read u) (unseen (as_read u)) n s to Q) → IsRead as_expression q v.operand →
    (takes_operand (is_prefix_update u.text) q.cover.shape ≡ true) × (height (prefixed_node (is_prefix_update u.text) u.text u.start en q.cover.node) ≡ height n) × IsFirst as_expression h (prefixed_part (is_prefix_update u.text) u.text u.start en q) n
prefix_made {n = n} {to = to} u en q texts ends v r =
    let tree : n ≡ with_operand (is_prefix_update u.text) u.text u.start en v.operand = v.tree ∙ (λ i. with_operand (is_prefix_update u.text) (texts i) u.start (sym ends i) v.operand) in
    (fits_so (is_prefix_update u.text) r v.simple, ap height (node_same (is_prefix_update u.text) u.text u.start en r.tree v.simple ∙ sym tree), first_so (is_prefix_update u.text) u.text u.start en q r.tree v.simple tree v.taken)

-- its characters are those of the token as it is read
pub prefix_text : (l : Language) (u : LexicalToken) (own side : Rank) → coded_in l (as_read u) ≡ Some (code.Prefix own side) → (as_read u).text ≡ u.text
prefix_text l u own side coded = of (prefix_begun (expression_start (as_read u)) own side (coded_plain l (expression_start (as_read u)) (as_read u).text (code.Prefix own side) coded refl)) refl
  where
    worded : WordBy u.class (as_read u).text → (as_read u).text ≡ u.text
    worded (of_name class word) = ap (λ c. table_text c u.text) class
    worded (a_keyword_of class word) = ap (λ c. table_text c u.text) class

    of : {x : ExpressionStart} {own side : Rank} → PrefixBegun x own side → expression_start (as_read u) ≡ x → (as_read u).text ≡ u.text
    of a_word opens = worded (word_of u.class (as_read u).text opens)
    of a_sign opens = ap (λ c. table_text c u.text) (sign_of u.class (as_read u).text opens).0
    of a_step opens = ap (λ c. table_text c u.text) (step_of u.class (as_read u).text opens).0

-- its operand is of the language
pub prefix_own : {text m_text : SourceText} {o : ℕ} {h : Rank} {b : Bool} {u x : Token} {n : Tree} {s to : Token} {Q : List Pair} (v : PrefixGiven text o h b u x n s to Q) → m_text ≡ text → OfLanguage text n → OfLanguage m_text v.operand
prefix_own {text} {b = b} {u = u} {to = to} v same own = subst (λ x. OfLanguage x v.operand) (sym same) (of b (subst (OfLanguage text) v.tree own))
  where
    either : (k : Bool) → OfLanguage text (cond k (node AwaitExpression [] plain u.start to.stop (part v.operand none)) (node UnaryExpression u.text plain u.start to.stop (part v.operand none))) → OfLanguage text v.operand
    either true h = first_of_language (parts_of_language h)
    either false h = first_of_language (parts_of_language h)

    of : (b : Bool) → OfLanguage text (with_operand b u.text u.start to.stop v.operand) → OfLanguage text v.operand
    of true h = first_of_language (parts_of_language h)
    of false h = either (is_keyword u.text) h
