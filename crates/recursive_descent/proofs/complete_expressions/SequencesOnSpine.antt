-- What stands behind the first comma of a sequence on the spine of what is given (ECMA-262 12.16).
use Rattle.std.proofs.Common.{◌≡◌, ℕ, ◌≤◌, Bool, true, false, cond, List, [], ◌∷◌, ◌++◌, refl, sym, ap, ◌∙◌, subst, arith}
use Rattle.std.specs.Prelude.{IsTrue, codes}
use Rattle.std.proofs.lemmas.Bool.{false≢true}
use Rattle.tokens.specs.declared.token.TokenClass.TheVariants.{Punctuator}
use Rattle.tokens.specs.declared.token.Goal.TheVariants.{Div}
use Rattle.tree.specs.declared.kind.Kind.{Kind}
use Rattle.tree.specs.declared.kind.Kind.TheVariants.{SequenceExpression, AssignmentExpression}
use Rattle.tree.specs.declared.kind.Flags.{Flags}
use Rattle.tree.specs.declared.kind.Pair.{Pair}
use Rattle.tree.specs.Tree.{Tree, node, plain, Parts, part, gap, none, kind_of, height, bare, bare_parts}
use Rattle.tree.specs.Uses.{has_text, used_flags}
use Rattle.tree.proofs.Lean.{lean_flags, lean_text}
use Rattle.language.specs.declared.Rank.{Rank}
use Rattle.language.specs.declared.Rank.TheVariants.{Expression, Assignment}
use Rattle.language.specs.declared.Start.{Start}
use Rattle.language.specs.declared.Start.TheVariants.{Any}
use Rattle.language.specs.FirstPart.{others}
use Rattle.language.specs.Vocabulary.{takes, takes_number, precedence, Operator, op_comma}
use Rattle.language.specs.Token.{Token}
use Rattle.language.specs.Edges.{edge}
use Rattle.language.specs.Pieces.{Role, expr, chain_part, PieceOf, tok, lay, sub, space, is_none, is_tight}
use Rattle.language.specs.Expressions.{sequence}
use Rattle.language.specs.Continuations.{operation, stops}
use Rattle.language.specs.Promises.{ReadBy, LaterStop}
use Rattle.language.specs.Covers.{Reading}
use Rattle.language.specs.Grammar.{spellings}
use Rattle.token_cursor.proofs.SeenTokens.{seen_determined}
use Rattle.language.proofs.table.OperatorFacts.{binding}
use Rattle.language.proofs.table.ViewIsComplete.{way_of, made}
use Rattle.language.proofs.climbing.Spine.{Grows, whole, grow, grows_on_spine}
use Rattle.language.proofs.table.Begins.{retell, goes_to}
use Rattle.language.proofs.list_loops.FirstPieces.{run_never, run_token, run_laid}
use Rattle.language.proofs.table.LeftRecursiveWays.{Led, led_binary, led_power, led_assign, led_postfix, led_sequence, led_conditional, led_dot, led_index, led_call, led_tag, led_chain, led_of, linked_of}
use Rattle.language.proofs.table.Reaches.{linked_base, reaches, is_loose}
use Rattle.language.proofs.table.OperatorTokens.{reads_comma}
use Rattle.language.proofs.climbing.Conditionals.{same_sign}
use Rattle.language.proofs.climbing.NoContinuation.{Ended, goes_where_not}
use Rattle.language.proofs.climbing.OperatorLoop.{Leads, led_on, grows_height}
use Rattle.language.proofs.climbing.Suffixes.{rank_is, leads_on}
use Rattle.language.proofs.climbing.BinaryTurns.{same_node}
use Rattle.parser_tables.specs.declared.operand.Operand.{Operand}
use Rattle.parser_tables.specs.declared.expression_context.ExpressionContext.{ExpressionContext}
use Rattle.recursive_descent.specs.Soundness.{Begins, RunsIn}
use Rattle.recursive_descent.specs.Completeness.{StopsIn}
use Rattle.recursive_descent.specs.Stages.{SpineAs, Serves, StageAs}
use Rattle.recursive_descent.proofs.sound_expressions.ExpressionParts.{placed_at}
use Rattle.recursive_descent.proofs.complete_expressions.SpineTurns.{on_further, on_language}
use Rattle.recursive_descent.proofs.reading.LanguageTrees.{parts_of_language, others_of_language}
use Rattle.token_cursor.specs.SourceText.{SourceText, SeenNext, behind_in}
use Rattle.recursive_descent.specs.Spelled.{OfLanguage, AllOfLanguage}

callee_some : (b : Bool) → 1 ≤ precedence (cond b Rattle.language.specs.declared.Rank.TheVariants.Member Rattle.language.specs.declared.Rank.TheVariants.Call)
callee_some true = omega arith
callee_some false = omega arith

-- no head stands at Expression
led_low : {y : Rank} {i : Bool} {f : Start} {k : Kind} {w : List ℕ} {g : Flags} {ps : Parts} {h : Rank} {j : Bool} {f' : Start} {rest : List (PieceOf Role)} {x : Operator} → Led y i f k w g ps (expr h j f') rest x → h ≡ Expression → ⊥
led_low {w = w} (led_binary k op tk im b e) h = let v = binding w op in let low = v.least in let u = ap precedence (sym h ∙ rank_is b) in omega arith
led_low (led_power k op tk b e) h = let u = sym h ∙ rank_is b in cc
led_low (led_assign k op ta tk b e) h = let u = sym h ∙ rank_is b in cc
led_low (led_postfix k op ta p tk b e) h = let u = sym h ∙ rank_is b in cc
led_low (led_sequence k c tk b e) h = let u = sym h ∙ rank_is b in cc
led_low (led_conditional k tk b e) h = let u = sym h ∙ rank_is b in cc
led_low {y} (led_dot k o c s tk b e) h = let u = ap precedence (sym h ∙ rank_is b) in let v = callee_some (is_tight y) in omega arith
led_low {y} (led_index k o c s tk b e) h = let u = ap precedence (sym h ∙ rank_is b) in let v = callee_some (is_tight y) in omega arith
led_low (led_call k o s tk b e) h = let u = sym h ∙ rank_is b in cc
led_low {y} (led_tag k tk b e) h = let u = ap precedence (sym h ∙ rank_is b) in let v = callee_some (is_tight y) in omega arith
led_low (led_chain k c tk b e) h = cc

record CommaLed (y : Rank) (i : Bool) (f : Start) (k : Kind) (ps : Parts) (h : Rank) (rest : List (PieceOf Role)) : Type 0 where
  kind : k ≡ SequenceExpression
  some : is_none (others ps) ≡ false
  head : h ≡ Assignment
  stands : IsTrue (takes y Expression)
  rest_is : rest ≡ goes_to y i f (sequence (others ps))

comma_led : {y : Rank} {i : Bool} {f : Start} {k : Kind} {w : List ℕ} {g : Flags} {ps : Parts} {h : Rank} {j : Bool} {f' : Start} {rest : List (PieceOf Role)} → Led y i f k w g ps (expr h j f') rest op_comma → CommaLed y i f k ps h rest
comma_led (led_sequence k c tk b e) = record { kind = k; some = c; head = rank_is b; stands = tk; rest_is = e }

expression_only : (y : Rank) → IsTrue (takes y Expression) → y ≡ Expression
expression_only Expression h = refl
expression_only _ h = absurd (false≢true h)

-- the pieces behind a comma ask for neither the start nor the parts
same_commas : (i : Bool) (f : Start) (ps : Parts) → goes_to Expression i f (sequence (bare_parts ps)) ≡ goes_to Expression i Any (sequence ps)
same_commas i f none = refl
same_commas i f (gap ps) = refl
same_commas i f (part n ps) = ap (λ qs. tok Punctuator (codes ",") ∷ lay space ∷ sub (expr Assignment i Any) ∷ qs) (same_commas i f ps)

module _ (text : SourceText) where
  -- what stands at Expression is led by nothing further
  none_above : {o : ℕ} {s0 e : Token} {y : Rank} {i : Bool} {f : Start} {n : Tree} {P : List Pair} {h : Rank} {j : Bool} {f' : Start} {m : Tree} {mid : Token} {Q : List Pair} → h ≡ Expression →
      Grows Token (SeenNext text) (behind_in text) o s0 (expr y i f) n e P (expr h j f') m mid Q → Ended Token (SeenNext text) (behind_in text) (seen_determined text) (expr y i f) n e P (expr h j f') m mid Q
  unfolding spellings
  none_above low whole = record { role = refl; tree = refl; place = refl; pairs = refl }
  none_above low (grow {c = expr y2 i2 f2} {l = node k w g st en ps} t led pl eq d gs) = let v = way_of t in absurd (led_low (led_of y2 i2 f2 (made k v.listed) v.fit v.is led).led low)
  none_above low (grow {c = chain_part f2} {l = node k w g st en ps} t led pl eq d gs) = let v = way_of t in let u = sym low ∙ linked_base (linked_of f2 k v.listed v.is).linked in cc
  none_above low (grow {c = _} t led pl eq d gs) = absurd (false≢true (grows_on_spine Token (SeenNext text) (behind_in text) refl gs))

  module _ (p : ExpressionContext) (o : ℕ) (s e : Token) (P : List Pair) (l : Operand) (m : Token) (Q : List Pair) (a : Reading) (n : Tree) where
    -- the parts behind the first, up to the end of what is given; and the next stage
    pub record CommasOn (x : Token) : Type 0 where
      pub fits : IsTrue (takes Assignment l.rank)
      pub value : l.cover.shape.is_expression ≡ true
      pub later : Tree
      pub rest : Parts
      pub more : List Pair
      pub to : Token
      pub runs : RunsIn text o (sub (expr Assignment p.has_in Any) ∷ goes_to Expression p.has_in Any (sequence rest)) (part later rest) x to more
      pub of_language : OfLanguage text n → AllOfLanguage text (part later rest)
      pub last : LaterStop Token (SeenNext text) (behind_in text) p.has_in (part later rest) to
      pub low : height (node SequenceExpression [] plain l.start to.stop (part l.cover.node (part later rest))) ≤ height n
      pub next : (r : Operand) → r.cover.node ≡ node SequenceExpression [] plain l.start to.stop (part l.cover.node (part later rest)) → r.rank ≡ Expression → r.cover.shape.is_expression ≡ true → StageAs text p o s e P r to (Q ++ more) a n

    module _ {k : Tree} (serves : Serves text p o s e P l m Q a n k) (high : height k ≡ height n) (u : SpineAs text p o s e P l m Q k) (begins : Begins text l.start s) {t x : Token} (r : ReadBy Token (SeenNext text) (behind_in text) Div m t x) (goes : stops p.rank p.has_in (edge l.cover.node) (behind_in text m) t ≡ false) where
      pub commas_on : operation t ≡ op_comma → CommasOn x
      commas_on is_op =
          let v = u.leads in
          let on = led_on Token (SeenNext text) (behind_in text) (seen_determined text) r is_op (λ q. cc) (goes_where_not Token (SeenNext text) (behind_in text) (seen_determined text) p.rank p.has_in r u.stopped goes) v.spelled v.grows in
          let led = comma_led on.led in
          let at = expression_only on.y led.stands in
          let all = none_above at on.grows in
          let reach = reaches Token (SeenNext text) (behind_in text) on.grows in
          let inside : on.i ≡ p.has_in = (reach.same_in (ap is_loose at)).1 in
          let whole_at : p.rank ≡ Expression = expression_only p.rank (reach.taken Expression led.stands) in
          let flags : on.g ≡ plain = lean_flags (bare (node on.k on.w on.g on.st on.en (part l.cover.node on.ps))) on.lean ∙ ap (λ c. used_flags c on.g) led.kind in
          let texts : on.w ≡ [] = lean_text (bare (node on.k on.w on.g on.st on.en (part l.cover.node on.ps))) on.lean (ap has_text led.kind) in
          let leads = leads_on Token (SeenNext text) (behind_in text) (seen_determined text) Expression on led.kind texts flags refl refl refl (placed_at text begins) led.stands in
          let pieces : goes_to on.y on.i on.f (sequence (bare_parts on.ps)) ≡ goes_to Expression p.has_in Any (sequence on.ps) = (λ c. goes_to (at c) (inside c) on.f (sequence (bare_parts on.ps))) ∙ same_commas p.has_in on.f on.ps in
          let tree : k ≡ node SequenceExpression [] plain on.st on.en (part l.cover.node on.ps) = all.tree ∙ same_node led.kind texts flags refl refl refl in
          let stopped : StopsIn text Expression p.has_in (node SequenceExpression [] plain on.st on.en (part l.cover.node on.ps)) on.to =
          subst (λ c. StopsIn text Expression p.has_in (node SequenceExpression [] plain on.st on.en (part l.cover.node on.ps)) c) all.place (subst (λ c. StopsIn text Expression p.has_in c e) tree (subst (λ c. StopsIn text c p.has_in k e) whole_at u.stopped)) in
          of on.st on.en on.ps led.some (retell Token (SeenNext text) (behind_in text) (led.rest_is ∙ pieces) on.runs) leads (subst (λ c. IsTrue (takes c l.rank)) led.head v.fits) stopped
        where
          of : (st en : ℕ) {to : Token} {R : List Pair} (ps : Parts) → is_none (bare_parts ps) ≡ false → RunsIn text o (goes_to Expression p.has_in Any (sequence ps)) ps m to R →
              Leads Token (SeenNext text) (behind_in text) (seen_determined text) o s p.rank p.has_in p.start k e P Expression (node SequenceExpression [] plain l.start to.stop (part l.cover.node ps)) to (Q ++ R) → IsTrue (takes Assignment l.rank) → StopsIn text Expression p.has_in (node SequenceExpression [] plain st en (part l.cover.node ps)) to → CommasOn x
          of st en none some d leads fits last = cc
          of st en (gap ps) some d leads fits last = absurd (run_never Token (SeenNext text) (behind_in text) d)
          of st en {to} {R} (part w ps) some d leads fits last =
              let comma = run_token Token (SeenNext text) (behind_in text) d in
              let same = same_sign Token (SeenNext text) (behind_in text) (seen_determined text) comma.reads (reads_comma Token (SeenNext text) (behind_in text) r.next is_op) refl in
              let below = grows_height Token (SeenNext text) (behind_in text) (seen_determined text) leads.grows in
              record {
                fits = fits;
                value = u.value;
                later = w;
                rest = ps;
                more = R;
                to = to;
                runs = subst (λ c. RunsIn text o (sub (expr Assignment p.has_in Any) ∷ goes_to Expression p.has_in Any (sequence ps)) (part w ps) c to R) same.1 (run_laid Token (SeenNext text) (behind_in text) comma.runs);
                last = record { before = last.before; apart = last.apart };
                of_language = λ own. others_of_language (parts_of_language (on_language text serves leads.grows own));
                low = omega arith;
                next = λ q tree rank value. on_further text {r = q} serves high u
                    (subst (λ c. Leads Token (SeenNext text) (behind_in text) (seen_determined text) o s p.rank p.has_in p.start k e P c q.cover.node to (Q ++ R)) (sym rank)
                    (subst (λ c. Leads Token (SeenNext text) (behind_in text) (seen_determined text) o s p.rank p.has_in p.start k e P Expression c to (Q ++ R)) (sym tree) leads)) value
                    (λ h. absurd (false≢true (ap (λ c. Rattle.language.specs.Vocabulary.is_target (kind_of c)) (sym tree) ∙ h))) (λ h c. let clash : SequenceExpression ≡ AssignmentExpression = sym (ap kind_of tree) ∙ h in cc);
              }
