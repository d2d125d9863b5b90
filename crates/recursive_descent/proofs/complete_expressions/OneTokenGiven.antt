-- What is given of one token: a name, a literal or `this`; and an arrow function with a name for its parameter (ECMA-262 12.1, 12.2, 14.2).
use Rattle.std.proofs.Common.{◌≡◌, ◌⊎◌, ℕ, Bool, true, false, cond, List, [], ◌∷◌, ◌++◌, refl, sym, ap, ◌∙◌, subst, arith, inl, inr}
use Rattle.std.specs.Prelude.{IsTrue, Some, codes, not, ◌&&◌, ◌||◌}
use Rattle.tokens.specs.Tokens.{LexicalToken}
use Rattle.std.proofs.lemmas.Bool.{false≢true}
use Rattle.tokens.specs.declared.token.TokenClass.{TokenClass}
use Rattle.tokens.specs.declared.token.TokenClass.TheVariants.{IdentifierName, Punctuator, NumericLiteral, StringLiteral}
use Rattle.tokens.specs.declared.token.TokenClass.TheVariants as class
use Rattle.tokens.specs.Alphabet.{one_of, begins_with}
use Rattle.recursive_descent.proofs.reading.LiteralTokens.{is_literal_class}
use Rattle.tokens.specs.declared.token.Goal.TheVariants.{Div, RegExp}
use Rattle.tokens.specs.Goals.{allows}
use Rattle.token_cursor.specs.CursorState.{CursorState, IsAhead}
use Rattle.tree.specs.declared.kind.Kind.{Kind}
use Rattle.tree.specs.declared.kind.Kind.TheVariants.{Identifier, Literal, ThisExpression, ArrowFunctionExpression}
use Rattle.tree.specs.declared.kind.Flags.{Flags}
use Rattle.tree.specs.declared.kind.Pair.{Pair}
use Rattle.tree.specs.Tree.{Tree, node, Parts, none, part, push, bare, bare_parts, plain}
use Rattle.tree.specs.Uses.{is_lean, used_flags, has_text}
use Rattle.tree.proofs.Lean.{lean_flags, lean_text}
use Rattle.language.specs.declared.Rank.{Rank}
use Rattle.language.specs.declared.Rank.TheVariants.{Assignment, New, Primary}
use Rattle.language.specs.declared.Start.{Start}
use Rattle.language.specs.declared.Start.TheVariants.{Any, NoBrace}
use Rattle.language.specs.declared.Edge.TheVariants.{Other}
use Rattle.language.specs.Covers.{Reading, as_expression, as_pattern}
use Rattle.language.specs.Edges.{edge, edge_as_written}
use Rattle.language.specs.Expressions.{arrow_end, async_word}
use Rattle.language.specs.Grammar.{starts}
use Rattle.language.specs.Later.{has_later}
use Rattle.language.specs.declared.Language.{Language}
use Rattle.language.specs.declared.Language.TheVariants.{Base, Script, Module}
use Rattle.language.specs.Languages.{is_of_2022}
use Rattle.language.proofs.languages.BaseHeads.{base_async}
use Rattle.language.specs.Continuations.{operation, rank_made_by, stops_at, stops}
use Rattle.language.specs.ExpressionStart.{ExpressionStart, with_name, with_literal, with_this, expression_start}
use Rattle.language.specs.Pieces.{Role, expr, body, Piece, sub, tail, put, settle_piece, name}
use Rattle.language.specs.Promises.{ReadBy, is_free}
use Rattle.language.specs.Token.{Token, as_read, table_text}
use Rattle.language.specs.Vocabulary.{is, takes, among, is_name, literal_class, op_arrow}
use Rattle.language.specs.Derivation.{Reads, Placed}
use Rattle.language.proofs.climbing.Arrows.{arrow_flags}
use Rattle.language.proofs.table.Begins.{goes_to, retell}
use Rattle.language.proofs.climbing.OperatorLoop.{led_on}
use Rattle.language.proofs.climbing.LeftmostParts.{Cored, in_way, core_by}
use Rattle.language.proofs.table.TokenFirstWays.{either_class, BehindAsync, head_identifier, head_short_arrow, head_async, head_literal, head_this}
use Rattle.language.proofs.climbing.Leaves.{by_name, core_primary, name_form}
use Rattle.language.proofs.table.LeftRecursiveWays.{Led}
use Rattle.language.proofs.climbing.SpineContinuations.{makes}
use Rattle.language.proofs.table.Reaches.{loose_of}
use Rattle.language.proofs.list_loops.FirstPieces.{run_token, run_laid, run_unbroken, run_part}
use Rattle.language.proofs.climbing.RightOperands.{one_part}
use Rattle.language.proofs.climbing.FirstTurn.{Begun, begun_stops, core_spelled}
use Rattle.language.proofs.climbing.NoContinuation.{goes_where_not}
use Rattle.language.proofs.table.Tails.{tails_assign}
use Rattle.token_cursor.proofs.SeenTokens.{seen_determined}
use Rattle.language.proofs.climbing.BinaryTurns.{same_node}
use Rattle.unambiguity_laws.proofs.cores.WordCores.{leaf_same}
use Rattle.parser_tables.specs.declared.expression_context.ExpressionContext.{ExpressionContext}
use Rattle.parser_tables.specs.declared.expression_starts.ExpressionStart.TheVariants as code
use Rattle.recursive_descent.specs.Soundness.{RunsIn}
use Rattle.recursive_descent.specs.Completeness.{Wholly, Unarrowed, AsyncCalled, FirstAs, StopsIn}
use Rattle.parser_tables.specs.ExpressionStarts.{coded_start, start_in, with_async, coded_in}
use Rattle.parser_tables.specs.Tokens.{single_node}
use Rattle.recursive_descent.proofs.complete_expressions.StartsGiven.{CoreGiven, given_core, NameGiven, given_named, wholly_takes, is_bracket, is_named}
use Rattle.recursive_descent.proofs.complete_expressions.PrefixesGiven.{placed_ends}
use Rattle.recursive_descent.proofs.sound_expressions.StartsByToken.{name_of, this_of, LiteralBy, a_word, a_token, literal_of}
use Rattle.recursive_descent.proofs.sound_expressions.CodedStarts.{coded_plain}
use Rattle.token_cursor.proofs.TokensAhead.{ahead_read}
use Rattle.token_cursor.specs.SourceText.{SourceText, SeenNext, behind_in, unseen_class, unseen}
use Rattle.recursive_descent.specs.Spelled.{SpellsIn, OfLanguage}
use Rattle.recursive_descent.proofs.reading.LanguageTrees.{of_node, of_none}

-- no `=>` is read there on the same line
abbrev pub NoArrow : SourceText → Token → Type 0
NoArrow text s = (v x : Token) → Reads Token (SeenNext text) (behind_in text) Punctuator (codes "=>") s v x → v.after_break ≡ false → ⊥

-- One token is given; or an arrow with it for its parameter, and its body.
pub data SingleGiven (text : SourceText) (p : ExpressionContext) (o : ℕ) (u : LexicalToken) (k : Kind) (n : Tree) (to : Token) (Q : List Pair) (a : Reading) (h : Rank) : Type 0 where
  one_token : n ≡ single_node k u → to ≡ as_read u → Q ≡ [] → IsTrue (takes h Primary) → ((b : Bool) → a ≡ as_pattern b → (b ≡ true) × (k ≡ Identifier)) → (k ≡ Identifier → IsTrue (takes p.rank Assignment) → NoArrow text (as_read u)) → SingleGiven text p o u k n to Q a h
  an_arrow : {v x : Token} {flags : Flags} {inner : Tree} → k ≡ Identifier → a ≡ as_expression → IsTrue (takes h Assignment) → IsTrue (takes p.rank Assignment) → Reads Token (SeenNext text) (behind_in text) Punctuator (codes "=>") (as_read u) v x → v.after_break ≡ false → flags ≡ record plain { expression = flags.expression } →
      n ≡ node ArrowFunctionExpression [] flags u.start to.stop (push (part (single_node Identifier u) none) inner) → RunsIn text o (goes_to Assignment p.has_in Any (arrow_end flags)) (part inner none) (as_read u) to Q → (flags.expression ≡ true → StopsIn text Assignment p.has_in inner to) → SingleGiven text p o u k n to Q a h

-- What begins with the word `async`, which is this token.
pub record AsyncGiven (text : SourceText) (o : ℕ) (h : Rank) (j : Bool) (f : Start) (u : LexicalToken) (n : Tree) (s to : Token) (Q : List Pair) : Type 0 where
  pub kind : Kind
  pub characters : List ℕ
  pub flags : Flags
  pub parts : Parts
  pub rest : List Piece
  pub tree : n ≡ node kind characters flags u.start to.stop parts
  pub lean : is_lean (bare n) ≡ true
  pub behind : BehindAsync h flags (bare_parts parts) kind rest
  pub begins : IsTrue (starts f (async_word ++ rest))
  pub runs : RunsIn text o (goes_to h j f (async_word ++ rest)) parts s to Q

token_text : (c : TokenClass) (w : List ℕ) → is_literal_class c ≡ true → table_text c w ≡ w
token_text StringLiteral w h = refl
token_text NumericLiteral w h = refl
token_text class.RegularExpressionLiteral w h = refl
token_text _ w h = absurd (false≢true h)

token_place : (c : TokenClass) → is_literal_class c ≡ true → unseen_class c ≡ c
token_place StringLiteral h = refl
token_place NumericLiteral h = refl
token_place class.RegularExpressionLiteral h = refl
token_place _ h = absurd (false≢true h)

-- what is one token
data SingleBegun : ExpressionStart → Kind → Type 0 where
  name_begun : SingleBegun with_name Identifier
  literal_begun : SingleBegun with_literal Literal
  this_begun : SingleBegun with_this ThisExpression

single_begun : (x : ExpressionStart) (k : Kind) → coded_start x ≡ Some (code.OneToken k) → SingleBegun x k
single_begun with_name k h = let e : Identifier ≡ k = cc in subst (SingleBegun with_name) e name_begun
single_begun with_literal k h = let e : Literal ≡ k = cc in subst (SingleBegun with_literal) e literal_begun
single_begun with_this k h = let e : ThisExpression ≡ k = cc in subst (SingleBegun with_this) e this_begun
single_begun _ k h = cc

-- only in the base profile the code has one token for `async`
one_token_base : {w : List ℕ} {k : Kind} (l : Language) → w ≡ codes "async" → with_async l w (coded_start (start_in l with_name)) ≡ Some (code.OneToken k) → l ≡ Base
one_token_base Base e h = refl
one_token_base Script e h = (let z = ap (λ w. with_async Script w (coded_start (start_in Script with_name))) (sym e) ∙ h in cc)
one_token_base Module e h = (let z = ap (λ w. with_async Module w (coded_start (start_in Module with_name))) (sym e) ∙ h in cc)

-- nothing is led by what stands before `=>`
none_led : {y : Rank} {i : Bool} {f : Start} {k : Kind} {w : List ℕ} {g : Flags} {ps : Parts} {b : Role} {rest : List (Rattle.language.specs.Pieces.PieceOf Role)} → Led y i f k w g ps b rest op_arrow → ⊥
none_led l = elim l [ ]

refused : (a b c d : Bool) → a ≡ true → b ≡ false → d ≡ true → (not a || ((b && not c) || not d)) ≡ false
refused true false c true h k l = refl
refused true true c d h k l = cc
refused false b c d h k l = cc
refused a b c false h k l = cc

module _ (text : SourceText) where
  -- what stands before `=>` on its line isn't the leftmost part of anything that can't go on
  pub arrow_follows : {o : ℕ} {s0 e : Token} {y : Rank} {i : Bool} {f : Start} {n : Tree} {P : List Pair} {q : Rank} {j : Bool} {m : Tree} {mid x : Token} {Q : List Pair} {v : Token} → Begun Token (SeenNext text) (behind_in text) (seen_determined text) o s0 y i f n e P q j m mid Q → IsTrue (takes y Assignment) → edge m ≡ Other →
      Reads Token (SeenNext text) (behind_in text) Punctuator (codes "=>") mid v x → v.after_break ≡ false → ⊥
  arrow_follows {y = y} {i = i} {m = m} {mid = mid} {x = x} {v = v} b tk at eq line =
      let op : operation v ≡ op_arrow = makes v eq.class eq.text refl in
      let al : IsTrue (allows Div v.class v.text) = subst (λ c. IsTrue (allows Div c v.text)) (sym eq.class) (subst (λ c. IsTrue (allows Div Punctuator c)) (sym eq.text) refl) in
      let r : ReadBy Token (SeenNext text) (behind_in text) Div mid v x = record { next = eq.next; allowed = al } in
      let goes : stops_at y i Other v (Some Assignment) ≡ false = refused (takes y Assignment) (is v.text "in") i true tk (ap (λ w. is w "in") eq.text) refl in
      let goes' : stops y i (edge m) (behind_in text mid) v ≡ false = ap (λ c. stops_at y i (edge_as_written c (behind_in text mid)) v (rank_made_by (operation v) v.after_break)) at ∙ ap (λ c. stops_at y i Other v (rank_made_by c v.after_break)) op
      ∙ ap (λ c. stops_at y i Other v (rank_made_by op_arrow c)) line ∙ goes in
      none_led (led_on Token (SeenNext text) (behind_in text) (seen_determined text) r op (λ c. cc) (goes_where_not Token (SeenNext text) (behind_in text) (seen_determined text) y i r b.stopped goes') (core_spelled Token (SeenNext text) (behind_in text) b.core) b.grows).led

  arrow_edge : (mid : Token) (t l : Tree) (st en : ℕ) (c : Bool) → c ≡ true → edge_as_written (edge (node ArrowFunctionExpression [] (arrow_flags c) st en (part t (part l none)))) mid ≡ edge_as_written (edge l) mid
  arrow_edge mid t l st en true e = refl
  arrow_edge mid t l st en false e = absurd (false≢true e)

  -- the symbol of the whole takes an assignment where that of the position does
  pub wholly_back : {y r : Rank} → Wholly y r → IsTrue (takes r Assignment) → IsTrue (takes y Assignment)
  wholly_back (inl e) h = subst (λ k. IsTrue (takes k Assignment)) (sym e) h
  wholly_back (inr e) h = let z : IsTrue (takes New Assignment) = subst (λ k. IsTrue (takes k Assignment)) e.1 h in cc

  body_part : (q : Rank) (j : Bool) (f : Start) {o : ℕ} {s e : Token} {ps : Parts} {P : List Pair} (b : Bool) → RunsIn text o (goes_to q j f (cond b (sub (tail Assignment NoBrace)) (put body) ∷ [])) ps s e P → (n : Tree) × (ps ≡ part n none)
  body_part q j f true d = let v = one_part Token (SeenNext text) (behind_in text) (seen_determined text) d in (v.operand, v.parts)
  body_part q j f false d = let v = one_part Token (SeenNext text) (behind_in text) (seen_determined text) d in (v.operand, v.parts)

  arrow_pieces : (q : Rank) (j : Bool) (f : Start) (g : Flags) → goes_to q j f (arrow_end g) ≡ goes_to Assignment j Any (arrow_end g)
  arrow_pieces q j f g = of g.expression
    where
      of : (b : Bool) → goes_to q j f (arrow_end (record g { expression = b })) ≡ goes_to Assignment j Any (arrow_end (record g { expression = b }))
      of true = refl
      of false = refl

  -- a name, or an arrow with it; or what begins with `async`
  pub name_given : {p : ExpressionContext} {o : ℕ} {n : Tree} {s to : Token} {Q : List Pair} {a : Reading} {h : Rank} (u : LexicalToken) → ReadBy Token (SeenNext text) (behind_in text) RegExp s (as_read u) (as_read u) → expression_start (as_read u) ≡ with_name → (as_read u).text ≡ u.text → (v : CoreGiven text p o n s to Q a h) →
      Cored Token (SeenNext text) (behind_in text) (seen_determined text) o h v.j p.start n s to Q with_name → SingleGiven text p o u Identifier n to Q a h ⊎ AsyncGiven text o h v.j p.start u n s to Q
  name_given {p} {o} {n = m} {s} {to = mid} {Q} {a} {h = q} u r opens same v (in_way {k = k0} {w = w} {g = g} {st = st} {en = en} {ps = ps} whole (head_identifier k c d1) lean pl d) =
      let bares : is_lean (bare (node k0 w g st en ps)) ≡ true = ap (λ v. is_lean (bare v)) (sym whole) ∙ lean in
      let a1 = run_token Token (SeenNext text) (behind_in text) (retell Token (SeenNext text) (behind_in text) d1 d) in
      let here = (by_name Token (SeenNext text) (behind_in text) (seen_determined text) r a1.sign a1.mid a1.reads).0 in
      let word : w ≡ u.text = sym a1.reads.text ∙ ap (λ (t : Token). t.text) here ∙ same in
      let leaf = leaf_same Token (SeenNext text) (behind_in text) (seen_determined text) whole k (lean_flags (bare (node k0 w g st en ps)) bares ∙ ap (λ v. used_flags v g) k) pl (retell Token (SeenNext text) (behind_in text) d1 d) (by_name Token (SeenNext text) (behind_in text) (seen_determined text) r) in
      let tree : m ≡ single_node Identifier u = leaf.1 ∙ ap (λ v. node Identifier v plain u.start u.stop none) word in
      inl (one_token tree leaf.0 leaf.2 (core_primary Token (SeenNext text) (behind_in text) (seen_determined text) v.begun.core r (λ e. (let z = sym opens ∙ e in cc))) (λ b e. (let z = sym v.reading ∙ e in cc))
      (λ e tk x y eq line. arrow_follows v.begun (wholly_back v.whole tk) (ap edge tree) (subst (λ c. Reads Token (SeenNext text) (behind_in text) Punctuator (codes "=>") c x y) (sym leaf.0) eq) line))
  name_given {p} {o} {n = m} {s} {to = mid} {Q} {a} {h = q} u r opens same v (in_way {k = k0} {w = w} {g = g} {st = st} {en = en} {ps = ps} whole (head_async {rest = rest} b st' d1) lean pl d) =
      let ends = placed_ends text r (subst (λ c. Placed Token (SeenNext text) (behind_in text) (expr q v.j p.start) c s mid) whole pl) in
      inr (record { kind = k0; characters = w; flags = g; parts = ps; rest = rest; tree = whole ∙ same_node refl refl refl ends.0 ends.1 refl; lean = lean; behind = b; begins = st'; runs = retell Token (SeenNext text) (behind_in text) d1 d })
  name_given {p} {o} {n = m} {s} {to = mid} {Q} {a} {h = q} u r opens same v (in_way {k = k0} {w = w} {g = g} {st = st} {en = en} {ps = ps} whole (head_short_arrow k fm pp nm tk' d1) lean pl d) =
      let j = v.j in
      let f = p.start in
      let bares : is_lean (bare (node k0 w g st en ps)) ≡ true = ap (λ v. is_lean (bare v)) (sym whole) ∙ lean in
      let a1 = run_part Token (SeenNext text) (behind_in text) (retell Token (SeenNext text) (behind_in text) d1 d) in
      let first = name_form Token (SeenNext text) (behind_in text) (seen_determined text) a1.spelled in
      let here = by_name Token (SeenNext text) (behind_in text) (seen_determined text) r first.0.sign a1.mid first.0.reads in
      let name_text : first.0.text ≡ u.text = sym first.0.reads.text ∙ ap (λ (t : Token). t.text) here.0 ∙ same in
      let name_tree : a1.item ≡ single_node Identifier u = first.0.tree ∙ same_node refl name_text refl (ap (λ (t : Token). t.start) here.0) (ap (λ (c : Token). c.stop) here.1) refl in
      let on_line = run_unbroken Token (SeenNext text) (behind_in text) a1.runs in
      let sign = run_token Token (SeenNext text) (behind_in text) (run_laid Token (SeenNext text) (behind_in text) on_line.runs) in
      let eq : Reads Token (SeenNext text) (behind_in text) Punctuator (codes "=>") (as_read u) sign.sign sign.mid = subst (λ c. Reads Token (SeenNext text) (behind_in text) Punctuator (codes "=>") c sign.sign sign.mid) here.1 sign.reads in
      let line : sign.sign.after_break ≡ false = (seen_determined text).break a1.mid sign.sign on_line.sign sign.mid on_line.mid sign.reads.next on_line.next ∙ on_line.unbroken in
      let flags : g ≡ arrow_flags g.expression = lean_flags (bare (node k0 w g st en ps)) bares ∙ ap (λ v. used_flags v g) k ∙ (λ i. record plain { expression = g.expression; form = fm i }) in
      let no_text : w ≡ [] = lean_text (bare (node k0 w g st en ps)) bares (ap has_text k) in
      let z = body_part q j f g.expression (run_laid Token (SeenNext text) (behind_in text) sign.runs) in
      let parts : ps ≡ part (single_node Identifier u) (part z.0 none) = a1.parts ∙ ap (λ c. part c a1.rest) name_tree ∙ ap (part (single_node Identifier u)) z.1 in
      let pairs : a1.more ≡ Q = sym (a1.pairs ∙ ap (λ c. c ++ a1.more) first.0.pairs) in
      let ends = placed_ends text r (subst (λ c. Placed Token (SeenNext text) (behind_in text) (expr q j f) c s mid) whole pl) in
      let tree : m ≡ node ArrowFunctionExpression [] (arrow_flags g.expression) u.start mid.stop (part (single_node Identifier u) (part z.0 none)) = whole ∙ same_node k no_text flags ends.0 ends.1 parts in
      let inside : j ≡ p.has_in = (v.begun.reached.same_in (loose_of q Assignment tk' refl)).1 in
      let runs : RunsIn text o (goes_to Assignment p.has_in Any (arrow_end (arrow_flags g.expression))) (part z.0 none) (as_read u) mid Q =
      retell Token (SeenNext text) (behind_in text) (arrow_pieces q j f g ∙ (λ i. goes_to Assignment (inside i) Any (arrow_end (flags i)))) (subst (λ c. RunsIn text o (goes_to q j f (arrow_end g)) c (as_read u) mid Q) z.1 (subst (λ c. RunsIn text o (goes_to q j f (arrow_end g)) a1.rest c mid Q) here.1 (subst (λ c. RunsIn text o (goes_to q j f (arrow_end g)) a1.rest a1.mid mid c) pairs a1.runs))) in
      inl (an_arrow {flags = arrow_flags g.expression} {inner = z.0} refl v.reading tk' (wholly_takes v.whole Assignment (v.begun.reached.taken Assignment tk')) eq line refl tree runs
      (λ c. subst (λ k. StopsIn text Assignment k z.0 mid) inside (begun_stops Token (SeenNext text) (behind_in text) (seen_determined text) Assignment Assignment j z.0 tails_assign (λ l. omega arith) tk' (λ k. refl) (ap (λ v. edge_as_written (edge v) (behind_in text mid)) tree ∙ arrow_edge (behind_in text mid) (single_node Identifier u) z.0 u.start mid.stop g.expression c) v.begun)))

  -- `this`
  this_given : {p : ExpressionContext} {o : ℕ} {m : Tree} {s mid : Token} {Q : List Pair} {a : Reading} {q : Rank} (u : LexicalToken) → ReadBy Token (SeenNext text) (behind_in text) RegExp s (as_read u) (as_read u) → expression_start (as_read u) ≡ with_this → (v : CoreGiven text p o m s mid Q a q) →
      Cored Token (SeenNext text) (behind_in text) (seen_determined text) o q v.j p.start m s mid Q with_this → SingleGiven text p o u ThisExpression m mid Q a q
  this_given {m = m} u r opens v (in_way {k = k0} {w = w} {g = g} {st = st} {en = en} {ps = ps} whole (head_this k d1) lean pl d) =
      let bares : is_lean (bare (node k0 w g st en ps)) ≡ true = ap (λ v. is_lean (bare v)) (sym whole) ∙ lean in
      let leaf = leaf_same Token (SeenNext text) (behind_in text) (seen_determined text) whole k (lean_flags (bare (node k0 w g st en ps)) bares ∙ ap (λ v. used_flags v g) k) pl (retell Token (SeenNext text) (behind_in text) d1 d) (by_name Token (SeenNext text) (behind_in text) (seen_determined text) r) in
      let no_text : w ≡ [] = lean_text (bare (node k0 w g st en ps)) bares (ap has_text k) in
      one_token (leaf.1 ∙ ap (λ v. node ThisExpression v plain u.start u.stop none) no_text) leaf.0 leaf.2 (core_primary Token (SeenNext text) (behind_in text) (seen_determined text) v.begun.core r (λ e. (let z = sym opens ∙ e in cc))) (λ b e. (let z = sym v.reading ∙ e in cc)) (λ e. cc)

  -- by the goal for operands, what a literal's text is read as
  literal_allowed : {s m t : Token} (w : List ℕ) → (is_name (literal_class w) && not (among w ("true" ∷ "false" ∷ "null" ∷ []))) ≡ false → Reads Token (SeenNext text) (behind_in text) (literal_class w) w s t m → IsTrue (allows RegExp t.class t.text)
  literal_allowed {s} {m} {t} w h d = go _ _ _ h d
    where
      go : (a b c : Bool) → (is_name (cond a StringLiteral (cond b class.RegularExpressionLiteral (cond c NumericLiteral IdentifierName))) && not (among w ("true" ∷ "false" ∷ "null" ∷ []))) ≡ false → Reads Token (SeenNext text) (behind_in text) (cond a StringLiteral (cond b class.RegularExpressionLiteral (cond c NumericLiteral IdentifierName))) w s t m → IsTrue (allows RegExp t.class t.text)
      go true b c h d = (seen_determined text).free RegExp s t m d.next (ap is_free d.class)
      go false true c h d = subst (λ v. IsTrue (allows RegExp v t.text)) (sym d.class) (either_class (begins_with (one_of "/") t.text) (begins_with (one_of "}") t.text))
      go false false true h d = (seen_determined text).free RegExp s t m d.next (ap is_free d.class)
      go false false false h d = (seen_determined text).free RegExp s t m d.next (ap is_free d.class)

  literal_given : {p : ExpressionContext} {o : ℕ} {m : Tree} {s mid : Token} {Q : List Pair} {a : Reading} {q : Rank} (u : LexicalToken) → ReadBy Token (SeenNext text) (behind_in text) RegExp s (as_read u) (as_read u) → expression_start (as_read u) ≡ with_literal → (as_read u).text ≡ u.text → (v : CoreGiven text p o m s mid Q a q) →
      Cored Token (SeenNext text) (behind_in text) (seen_determined text) o q v.j p.start m s mid Q with_literal → SingleGiven text p o u Literal m mid Q a q
  literal_given {m = m} {s = s} u r opens texts v (in_way {k = k0} {w = w} {g = g} {st = st} {en = en} {ps = ps} whole (head_literal k c d1) lean pl d) =
      let bares : is_lean (bare (node k0 w g st en ps)) ≡ true = ap (λ v. is_lean (bare v)) (sym whole) ∙ lean in
      let same : (t1 m1 : Token) → Reads Token (SeenNext text) (behind_in text) (literal_class w) w s t1 m1 → (t1 ≡ as_read u) × (m1 ≡ as_read u) = λ t1 m1 b. (seen_determined text).same RegExp s t1 (as_read u) m1 (as_read u) b.next r.next (literal_allowed w c b) r.allowed in
      let a1 = run_token Token (SeenNext text) (behind_in text) (retell Token (SeenNext text) (behind_in text) d1 d) in
      let here = (same a1.sign a1.mid a1.reads).0 in
      let word : w ≡ u.text = sym a1.reads.text ∙ ap (λ (t : Token). t.text) here ∙ texts in
      let leaf = leaf_same Token (SeenNext text) (behind_in text) (seen_determined text) whole k (lean_flags (bare (node k0 w g st en ps)) bares ∙ ap (λ v. used_flags v g) k) pl (retell Token (SeenNext text) (behind_in text) d1 d) same in
      one_token (leaf.1 ∙ ap (λ v. node Literal v plain u.start u.stop none) word) leaf.0 leaf.2 (core_primary Token (SeenNext text) (behind_in text) (seen_determined text) v.begun.core r (λ e. (let z = sym opens ∙ e in cc))) (λ b e. (let z = sym v.reading ∙ e in cc)) (λ e. cc)

  -- a name that is an element of a pattern
  bound_name : {p : ExpressionContext} {o : ℕ} {m : Tree} {s mid : Token} {Q : List Pair} (u : LexicalToken) → ReadBy Token (SeenNext text) (behind_in text) RegExp s (as_read u) (as_read u) → (as_read u).text ≡ u.text → SpellsIn text o name m s mid Q → (IsTrue (takes p.rank Assignment) → Unarrowed text mid) → SingleGiven text p o u Identifier m mid Q (as_pattern true) Primary
  bound_name {p} {o} {m} {s} {mid} u r texts d arrow =
      let v = (name_form Token (SeenNext text) (behind_in text) (seen_determined text) d).0 in
      let here = by_name Token (SeenNext text) (behind_in text) (seen_determined text) r v.sign mid v.reads in
      let word : v.text ≡ u.text = sym v.reads.text ∙ ap (λ (t : Token). t.text) here.0 ∙ texts in
      one_token (v.tree ∙ same_node refl word refl (ap (λ (t : Token). t.start) here.0) (ap (λ (t : Token). t.stop) here.1) refl) here.1 v.pairs refl (λ b e. (bound_of b e, refl)) (λ e tk x y eq line.
      let al : IsTrue (allows Div x.class x.text) = subst (λ c. IsTrue (allows Div c x.text)) (sym eq.class) (subst (λ c. IsTrue (allows Div Punctuator c)) (sym eq.text) refl) in
      let read : ReadBy Token (SeenNext text) (behind_in text) Div (as_read u) x y = record { next = eq.next; allowed = al } in
      false≢true (sym line ∙ arrow tk x y (subst (λ k. ReadBy Token (SeenNext text) (behind_in text) Div k x y) (sym here.1) read) (makes x eq.class eq.text refl)))
    where
      bound_of : (b : Bool) → as_pattern true ≡ as_pattern b → b ≡ true
      bound_of true e = refl
      bound_of false e = cc

  -- its first word is `async`
  pub async_is : {o : ℕ} {h : Rank} {j : Bool} {f : Start} {n : Tree} {s to x : Token} {Q : List Pair} {u : LexicalToken} → AsyncGiven text o h j f u n s to Q → ReadBy Token (SeenNext text) (behind_in text) RegExp s (as_read u) x → (as_read u).text ≡ codes "async"
  async_is v r =
      let a = run_token Token (SeenNext text) (behind_in text) v.runs in
      ap (λ (t : Token). t.text) (sym (by_name Token (SeenNext text) (behind_in text) (seen_determined text) r a.sign a.mid a.reads).0) ∙ a.reads.text

  -- where the code has one token, it isn't such
  no_async : {o : ℕ} {h : Rank} {j : Bool} {f : Start} {n : Tree} {s to x : Token} {Q : List Pair} {u : LexicalToken} {k : Kind} → AsyncGiven text o h j f u n s to Q → ReadBy Token (SeenNext text) (behind_in text) RegExp s (as_read u) x → expression_start (as_read u) ≡ with_name →
      coded_in text.language (as_read u) ≡ Some (code.OneToken k) → OfLanguage text n → ⊥
  no_async {u = u} {k = k} v r opens coded own =
      base_async v.behind (record { none_later = ap has_later (sym v.tree) ∙ own.none_later (one_token_base text.language (async_is v r) (ap (λ x. with_async text.language (as_read u).text (coded_start (start_in text.language x))) (sym opens) ∙ coded)) })

  -- nor is it the name of a call that is read at once
  no_async_call : {o : ℕ} {n : Tree} {s to x : Token} {Q : List Pair} (u : LexicalToken) {k : Kind} → ReadBy Token (SeenNext text) (behind_in text) RegExp s (as_read u) x → expression_start (as_read u) ≡ with_name → coded_in text.language (as_read u) ≡ Some (code.OneToken k) → AsyncCalled text o n s to Q → ⊥
  no_async_call u {k = k} r opens coded c =
      let word : (as_read u).text ≡ codes "async" = ap (λ (t : Token). t.text) (sym (by_name Token (SeenNext text) (behind_in text) (seen_determined text) r (behind_in text c.word) c.word c.name).0) ∙ c.name.text in
      false≢true (sym (ap is_of_2022 (one_token_base text.language word (ap (λ x. with_async text.language (as_read u).text (coded_start (start_in text.language x))) (sym opens) ∙ coded))) ∙ c.later)

  -- what is given of such a token
  pub single_given : {p : ExpressionContext} {o : ℕ} {n : Tree} {s to : Token} {Q : List Pair} {a : Reading} {h : Rank} (u : LexicalToken) (k : Kind) → IsAhead RegExp text s.stop u → coded_in text.language (as_read u) ≡ Some (code.OneToken k) → FirstAs text p o n s to Q a h → OfLanguage text n →
      SingleGiven text p o u k n to Q a h
  single_given {p} {o} {n} {s} {to} {Q} {a} {h} u k ahead coded g own = of (single_begun (expression_start (as_read u)) k (coded_plain text.language (expression_start (as_read u)) (as_read u).text (code.OneToken k) coded refl)) refl coded g
    where
      read : unseen_class u.class ≡ u.class → ReadBy Token (SeenNext text) (behind_in text) RegExp s (as_read u) (as_read u)
      read h = subst (ReadBy Token (SeenNext text) (behind_in text) RegExp s (as_read u)) (λ i. record (as_read u) { class = h i }) (ahead_read text RegExp s u ahead)

      named : u.class ≡ IdentifierName → unseen_class u.class ≡ u.class
      named h = ap unseen_class h ∙ sym h

      core_by_it : {x : ExpressionStart} → ReadBy Token (SeenNext text) (behind_in text) RegExp s (as_read u) (as_read u) → expression_start (as_read u) ≡ x → (v : CoreGiven text p o n s to Q a h) → Cored Token (SeenNext text) (behind_in text) (seen_determined text) o h v.j p.start n s to Q x
      core_by_it r opens v = core_by Token (SeenNext text) (behind_in text) (seen_determined text) r opens v.begun.core

      of : {x : ExpressionStart} {k : Kind} → SingleBegun x k → expression_start (as_read u) ≡ x → coded_in text.language (as_read u) ≡ Some (code.OneToken k) → FirstAs text p o n s to Q a h → SingleGiven text p o u k n to Q a h
      of name_begun opens coded g = name_or (ap (λ c. table_text c u.text) class) (given_named text r (ap is_bracket opens) (no_async_call u r opens coded) g)
        where
          class : u.class ≡ IdentifierName
          class = (name_of u.class (as_read u).text opens).0

          r : ReadBy Token (SeenNext text) (behind_in text) RegExp s (as_read u) (as_read u)
          r = read (named class)

          alone : {j : Bool} → SingleGiven text p o u Identifier n to Q a h ⊎ AsyncGiven text o h j p.start u n s to Q → SingleGiven text p o u Identifier n to Q a h
          alone (inl v) = v
          alone (inr v) = absurd (no_async v r opens coded own)

          name_or : (as_read u).text ≡ u.text → CoreGiven text p o n s to Q a h ⊎ NameGiven text p o n s to Q a h → SingleGiven text p o u Identifier n to Q a h
          name_or texts (inl v) = alone (name_given u r opens texts v (core_by_it r opens v))
          name_or texts (inr v) = subst (λ c. SingleGiven text p o u Identifier n to Q c h) (sym v.reading) (subst (λ c. SingleGiven text p o u Identifier n to Q (as_pattern true) c) (sym v.rank) (bound_name u r texts v.spelled v.ends.arrow))
      of this_begun opens coded g =
          let r = read (named (this_of u.class (as_read u).text opens).0) in
          let v = given_core text r (ap is_bracket opens) (ap is_named opens) g in
          this_given u r opens v (core_by_it r opens v)
      of literal_begun opens coded g =
          let by = literal_of u.class (as_read u).text opens in
          let r = read (literal_class_here by) in
          let v = given_core text r (ap is_bracket opens) (ap is_named opens) g in
          literal_given u r opens (literal_text by) v (core_by_it r opens v)
        where
          literal_text : LiteralBy u.class (as_read u).text → (as_read u).text ≡ u.text
          literal_text (a_word c w) = ap (λ c. table_text c u.text) c
          literal_text (a_token c) = token_text u.class u.text c

          literal_class_here : LiteralBy u.class (as_read u).text → unseen_class u.class ≡ u.class
          literal_class_here (a_word c w) = named c
          literal_class_here (a_token c) = token_place u.class c

-- such a token is a place, and its node is of each language
steady : {x : ExpressionStart} {k : Kind} (u : LexicalToken) → SingleBegun x k → expression_start (as_read u) ≡ x → unseen_class u.class ≡ u.class
steady u name_begun opens = let h = (name_of u.class (as_read u).text opens).0 in ap unseen_class h ∙ sym h
steady u this_begun opens = let h = (this_of u.class (as_read u).text opens).0 in ap unseen_class h ∙ sym h
steady u literal_begun opens = of (literal_of u.class (as_read u).text opens)
  where
    of : LiteralBy u.class (as_read u).text → unseen_class u.class ≡ u.class
    of (a_word c w) = ap unseen_class c ∙ sym c
    of (a_token c) = token_place u.class c

pub single_place : (l : Language) (u : LexicalToken) (k : Kind) → coded_in l (as_read u) ≡ Some (code.OneToken k) → unseen (as_read u) ≡ as_read u
single_place l u k coded = λ i. record (as_read u) { class = steady u (single_begun (expression_start (as_read u)) k (coded_plain l (expression_start (as_read u)) (as_read u).text (code.OneToken k) coded refl)) refl i }

pub single_language : (text : SourceText) (l : Language) (u : LexicalToken) (k : Kind) → coded_in l (as_read u) ≡ Some (code.OneToken k) → OfLanguage text (single_node k u)
single_language text l u k coded = of (single_begun (expression_start (as_read u)) k (coded_plain l (expression_start (as_read u)) (as_read u).text (code.OneToken k) coded refl))
  where
    of : {x : ExpressionStart} {k : Kind} → SingleBegun x k → OfLanguage text (single_node k u)
    of name_begun = of_node (λ b. refl) of_none
    of this_begun = of_node (λ b. refl) of_none
    of literal_begun = of_node (λ b. refl) of_none

-- what is read behind the token that was passed
pub arrow_behind : (s m : CursorState) {u : Token} {v x : Token} → m.text ≡ s.text → m.last ≡ u → Reads Token (SeenNext s.text) (behind_in s.text) Punctuator (codes "=>") u v x → Reads Token (SeenNext m.text) (behind_in m.text) Punctuator (codes "=>") m.last v x
arrow_behind s m {u} {v} {x} text last h = subst (λ c. Reads Token (SeenNext c) (behind_in c) Punctuator (codes "=>") m.last v x) (sym text) (subst (λ c. Reads Token (SeenNext s.text) (behind_in s.text) Punctuator (codes "=>") c v x) (sym last) h)

pub arrow_before : (s m : CursorState) {u : Token} {v x : Token} → m.text ≡ s.text → m.last ≡ u → Reads Token (SeenNext m.text) (behind_in m.text) Punctuator (codes "=>") m.last v x → Reads Token (SeenNext s.text) (behind_in s.text) Punctuator (codes "=>") u v x
arrow_before s m {u} {v} {x} text last h = subst (λ c. Reads Token (SeenNext s.text) (behind_in s.text) Punctuator (codes "=>") c v x) last (subst (λ c. Reads Token (SeenNext c) (behind_in c) Punctuator (codes "=>") m.last v x) text h)
