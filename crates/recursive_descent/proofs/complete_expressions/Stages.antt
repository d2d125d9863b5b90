-- From what is given to what stands first in it, and to the stage at which that was read.
use Rattle.std.proofs.Common.{◌≡◌, ◌⊎◌, ℕ, ◌≤◌, ◌<◌, Bool, true, false, List, [], ◌∷◌, ◌++◌, refl, sym, ap, ◌∙◌, subst, inl, inr, arith}
use Rattle.std.specs.Prelude.{IsTrue, codes, ◌||◌}
use Rattle.tokens.specs.declared.token.TokenClass.TheVariants.{Punctuator}
use Rattle.tokens.specs.declared.token.Goal.TheVariants.{Div}
use Rattle.tokens.specs.Goals.{allows}
use Rattle.tree.specs.declared.kind.Kind.TheVariants.{AssignmentExpression, CallExpression}
use Rattle.tree.specs.declared.kind.Pair.{Pair}
use Rattle.tree.specs.Tree.{Tree, node, plain, part, none, kind_of, height}
use Rattle.language.specs.declared.Rank.{Rank}
use Rattle.language.specs.declared.Rank.TheVariants.{Expression, Assignment, Conditional, LeftHandSide, New, Member, Primary}
use Rattle.language.specs.declared.Start.{Start}
use Rattle.language.specs.declared.Start.TheVariants.{Any}
use Rattle.language.specs.Vocabulary.{takes, precedence, is_target as is_simple, is_pattern, op_call, is}
use Rattle.language.specs.Token.{Token}
use Rattle.language.specs.Edges.{edge, edge_as_written}
use Rattle.language.specs.Pieces.{expr, name, pattern, sub, at}
use Rattle.language.specs.Continuations.{operation, rank_made_by, stops_at, stops}
use Rattle.language.specs.Promises.{Apart, Callee, at_member, at_new}
use Rattle.language.specs.Covers.{Reading, as_expression, as_pattern}
use Rattle.language.specs.Derivation.{Among, Reads, Placed, placed, step, token, laid, within, done}
use Rattle.std.proofs.lemmas.List.{append-nil}
use Rattle.tree.specs.declared.kind.Kind.TheVariants.{AssignmentPattern}
use Rattle.recursive_descent.specs.Soundness.{RunsIn}
use Rattle.token_cursor.proofs.SeenTokens.{seen_determined}
use Rattle.language.proofs.climbing.SpineContinuations.{makes}
use Rattle.language.proofs.climbing.Spine.{Grows, outer}
use Rattle.language.proofs.climbing.NoContinuation.{ends_where_stops}
use Rattle.language.proofs.climbing.Conditionals.{stops_before}
use Rattle.language.proofs.climbing.OperatorLoop.{grows_height, Leads}
use Rattle.language.proofs.climbing.FirstTurn.{Begun, Begins, begins, core_spelled}
use Rattle.language.proofs.table.Reaches.{reaches}
use Rattle.language.proofs.table.LeftRecursiveWays.{between}
use Rattle.language.specs.Grammar.{ways}
use Rattle.language.proofs.climbing.Callees.{Uncalled, uncalled_at, member_stops, leads_begun}
use Rattle.language.proofs.climbing.Targets.{pattern_is}
use Rattle.language.proofs.covers.CoverElements.{ElementForm, bare_pattern, bare_simple, pattern_default, simple_default, element_form, BoundForm, a_pattern, a_simple, bound_form, Simple, a_name, a_target, Defaulted, name_target, target_moves}
use Rattle.unambiguity_laws.proofs.cores.BracketForms.{right_stops, inside}
use Rattle.unambiguity_laws.proofs.turns.BesidePatterns.{no_target_beside}
use Rattle.covers.specs.Shapes.{is_element, is_pattern as is_listed}
use Rattle.parser_tables.specs.declared.operand.Operand.{Operand}
use Rattle.parser_tables.specs.declared.expression_context.ExpressionContext.{ExpressionContext}
use Rattle.recursive_descent.specs.Completeness.{StopsIn, Over, GivenAs, FirstAs, IsFirst, AsyncCalled}
use Rattle.recursive_descent.specs.Completeness as given
use Rattle.token_cursor.specs.Seen.{ReadsHere, SeesBy}
use Rattle.recursive_descent.specs.Stages.{SpineAs, IsLeft, AssignedAs, EndsOver, as_it_is, as_element, StageAs, on_spine, at_pattern, at_default, at_end}
use Rattle.recursive_descent.specs.Stages as stage
use Rattle.parser_tables.specs.Tests.{is_each}
use Rattle.recursive_descent.proofs.complete_expressions.Agreement.{read_here}
use Rattle.recursive_descent.proofs.reading.OnlyDerivation.{alike, once}
use Rattle.recursive_descent.proofs.reading.LanguageTrees.{of_node, parts_of_language, first_of_language, grown_language}
use Rattle.recursive_descent.proofs.reading.AtMember.{leads_new}
use Rattle.recursive_descent.proofs.complete_expressions.AsyncCalls.{AsyncSplit, not_called, is_called, async_split}
use Rattle.recursive_descent.proofs.complete_expressions.SplitLeftmostParts.{SplitCore, not_assigned, is_assigned, split_core}
use Rattle.recursive_descent.proofs.reading.PatternEnds.{primary_number, target_listed, target_element, simple_no_pattern, simple_itself, identifier_simple, or_true, each_stops, each_left_stops, assign_way, over_stopped, over_name, sign_name, each_there, grows_or}
use Rattle.token_cursor.specs.SourceText.{SourceText, SeenNext, behind_in}
use Rattle.recursive_descent.specs.Spelled.{OfLanguage, SpellsIn}

module _ (text : SourceText) where
  -- what stands first, and what is left when it was read
  pub record Starts (p : ExpressionContext) (o : ℕ) (n : Tree) (s e : Token) (P : List Pair) (a : Reading) : Type 0 where
    pub reading : Reading
    pub rank : Rank
    pub tree : Tree
    pub mid : Token
    pub pairs : List Pair
    pub first : FirstAs text p o tree s mid pairs reading rank
    pub low : height tree ≤ height n
    pub of_language : OfLanguage text n → OfLanguage text tree
    pub next : (l : Operand) → IsFirst reading rank l tree → StageAs text p o s e P l mid pairs a n

  -- the leftmost part of an expression stands on its spine
  leads_first : {o : ℕ} {y : Rank} {i : Bool} {f : Start} {n : Tree} {s e : Token} {P : List Pair} {h : Rank} {j : Bool} {m : Tree} {mid : Token} {Q : List Pair} → Begun Token (SeenNext text) (behind_in text) (seen_determined text) o s y i f n e P h j m mid Q → (l : Operand) → IsFirst as_expression h l m →
      Leads Token (SeenNext text) (behind_in text) (seen_determined text) o s y i f n e P l.rank l.cover.node mid Q
  leads_first b l first = leads_begun Token (SeenNext text) (behind_in text) (seen_determined text) b (refl, sym first.read.tree, refl, first.taken)

  -- so does what stands further on it
  leads_at : {o : ℕ} {y : Rank} {i : Bool} {f g : Start} {n : Tree} {s e : Token} {P : List Pair} {h : Rank} {j : Bool} {m : Tree} {mid : Token} {Q : List Pair} → SpellsIn text o (expr h j g) m s mid Q → Grows Token (SeenNext text) (behind_in text) o s (expr y i f) n e P (expr h j g) m mid Q → (l : Operand) → IsFirst as_expression h l m →
      Leads Token (SeenNext text) (behind_in text) (seen_determined text) o s y i f n e P l.rank l.cover.node mid Q
  leads_at {o} {y} {i} {f} {g} {n} {s} {e} {P} {h} {j} {m} {mid} {Q} d gs l first = record {
    h = h;
    j = j;
    g = g;
    fits = first.taken;
    spelled = subst (λ v. SpellsIn text o (expr h j g) v s mid Q) (sym first.read.tree) d;
    grows = subst (λ v. Grows Token (SeenNext text) (behind_in text) o s (expr y i f) n e P (expr h j g) v mid Q) (sym first.read.tree) gs;
  }

  -- what was read as an expression, on a spine
  on_it : {p : ExpressionContext} {o : ℕ} {n : Tree} {s e : Token} {P : List Pair} {h : Rank} {m : Tree} {mid : Token} {Q : List Pair} → (p.rank ≡ Conditional → ⊥) → StopsIn text p.rank p.has_in n e → (l : Operand) → IsFirst as_expression h l m →
      Leads Token (SeenNext text) (behind_in text) (seen_determined text) o s p.rank p.has_in p.start n e P l.rank l.cover.node mid Q → SpineAs text p o s e P l mid Q n
  on_it no_test st l first leads = record { no_test = no_test; stopped = st; leads = leads; value = first.read.fits; target = λ k. first.read.target (subst (λ v. is_simple (kind_of v) ≡ true) first.read.tree k) }

  -- a pattern, or a name, that was read, behind which its `=` stands
  left_read : {p : ExpressionContext} {o : ℕ} {s e : Token} {P : List Pair} {l : Operand} {m : Token} {Q : List Pair} {left : Tree} {x : Token} (b : Bool) → IsFirst (as_pattern b) Primary l left → (is_pattern (kind_of left) ≡ true) ⊎ (is_simple (kind_of left) ≡ true) → ReadsHere text Punctuator (codes "=") m x →
      IsLeft text p o s e P l m Q b left x
  left_read {l = l} {left = left} b first kind sign = record { read = first.read; listed = of kind; rank = primary_number (precedence l.rank) first.taken; sign = sign; kind = either kind }
    where
      of : (is_pattern (kind_of left) ≡ true) ⊎ (is_simple (kind_of left) ≡ true) → is_listed l.cover.shape.assigned ≡ true
      of (inl k) = first.read.pattern b refl k
      of (inr k) = target_listed l.cover.shape.assigned (first.read.target k)

      either : (is_pattern (kind_of left) ≡ true) ⊎ (is_simple (kind_of left) ≡ true) → (is_pattern (kind_of left) || is_simple (kind_of left)) ≡ true
      either (inl k) = ap (λ c. c || is_simple (kind_of left)) k
      either (inr k) = or_true (is_pattern (kind_of left)) (is_simple (kind_of left)) k

  -- an assignment to a pattern stands on the spine of an expression
  assigned_next : {p : ExpressionContext} {o : ℕ} {n : Tree} {s e : Token} {P : List Pair} {h : Rank} {j : Bool} {m : Tree} {mid : Token} {Q : List Pair} {st en : ℕ} {left right : Tree} {place x : Token} {R V : List Pair} → (p.rank ≡ Conditional → ⊥) →
      Begun Token (SeenNext text) (behind_in text) (seen_determined text) o s p.rank p.has_in p.start n e P h j m mid Q → m ≡ node AssignmentExpression (codes "=") plain st en (part left (part right none)) → IsTrue (takes h Assignment) →
      Placed Token (SeenNext text) (behind_in text) (expr h j p.start) (node AssignmentExpression (codes "=") plain st en (part left (part right none))) s mid → SpellsIn text o (pattern false p.start) left s place R → ReadsHere text Punctuator (codes "=") place x → SpellsIn text o (expr Assignment j Any) right x mid V →
      Q ≡ R ++ V → (l : Operand) → IsFirst (as_pattern false) Primary l left → AssignedAs text p o s e P l place R n
  assigned_next {p} {o} {n} {s} {e} {P} {h} {j} {m} {mid} {Q} {st} {en} {left} {right} {place} {x} {R} {V} no_test b tree tk placed' spelt sign side pairs l first =
      let same : j ≡ p.has_in = inside Token (SeenNext text) (behind_in text) (seen_determined text) b tk in
      let made = node AssignmentExpression (codes "=") plain st en (part left (part right none)) in
      let stops' : StopsIn text Assignment j right mid = right_stops Token (SeenNext text) (behind_in text) (seen_determined text) b tree tk in
      let core : SpellsIn text o (expr h j p.start) made s mid (R ++ V) = subst (λ v. SpellsIn text o (expr h j p.start) made s mid v) pairs (subst (λ v. SpellsIn text o (expr h j p.start) v s mid Q) tree (core_spelled Token (SeenNext text) (behind_in text) b.core)) in
      let gs : Grows Token (SeenNext text) (behind_in text) o s (expr p.rank p.has_in p.start) n e P (expr h j p.start) made mid (R ++ V) =
      subst (λ v. Grows Token (SeenNext text) (behind_in text) o s (expr p.rank p.has_in p.start) n e P (expr h j p.start) made mid v) pairs (subst (λ v. Grows Token (SeenNext text) (behind_in text) o s (expr p.rank p.has_in p.start) n e P (expr h j p.start) v mid Q) tree b.grows) in
      record {
        no_test = no_test;
        stopped = b.stopped;
        left = left;
        right = right;
        x = x;
        is_left = left_read false first (inl (pattern_is Token (SeenNext text) (behind_in text) spelt)) sign;
        h = h;
        st = st;
        en = en;
        to = mid;
        more = V;
        stands = tk;
        side = subst (λ v. SpellsIn text o (expr Assignment v Any) right x mid V) same side;
        right_stops = subst (λ v. StopsIn text Assignment v right mid) same stops';
        placed = subst (λ v. Placed Token (SeenNext text) (behind_in text) (expr h v p.start) made s mid) same placed';
        spelled = subst (λ v. SpellsIn text o (expr h v p.start) made s mid (R ++ V)) same core;
        grows = subst (λ v. Grows Token (SeenNext text) (behind_in text) o s (expr p.rank p.has_in p.start) n e P (expr h v p.start) made mid (R ++ V)) same gs;
      }

  -- an expression that can't go on
  from_begun : {p : ExpressionContext} {o : ℕ} {n : Tree} {s e : Token} {P : List Pair} {h : Rank} {j : Bool} {m : Tree} {mid : Token} {Q : List Pair} → (p.rank ≡ Conditional → ⊥) → Uncalled Token (SeenNext text) (behind_in text) (seen_determined text) h m mid →
      Begun Token (SeenNext text) (behind_in text) (seen_determined text) o s p.rank p.has_in p.start n e P h j m mid Q → SplitCore text o h j p.start m s mid Q → Starts p o n s e P as_expression
  from_begun {p} {o} {n} {s} {e} {P} {h} {j} {m} {mid} {Q} no_test uncalled b (not_assigned grouped) = of (async_split text b)
    where
      of : AsyncSplit text p o m s mid n e P → Starts p o n s e P as_expression
      of (not_called unasync) = record {
        reading = as_expression;
        rank = h;
        tree = m;
        mid = mid;
        pairs = Q;
        first = given.a_core no_test (inl refl) b uncalled grouped unasync;
        low = grows_height Token (SeenNext text) (behind_in text) (seen_determined text) b.grows;
        of_language = grown_language b.grows;
        next = λ l first. on_spine (as_it_is refl refl) refl (on_it no_test b.stopped l first (leads_first b l first));
      }
      of (is_called {u = u} {h = c} {to = to} {R = R} tk call fits d gs) = record {
        reading = as_expression;
        rank = c;
        tree = u;
        mid = to;
        pairs = R;
        first = given.an_async_call tk call fits d b.stopped gs;
        low = grows_height Token (SeenNext text) (behind_in text) (seen_determined text) gs;
        of_language = grown_language gs;
        next = λ l first. on_spine (as_it_is refl refl) refl (on_it no_test b.stopped l first (leads_at d gs l first));
      }
  from_begun {p} {o} {n} {s} {e} {P} {h} {j} {m} {mid} {Q} no_test uncalled b (is_assigned {st = st} {en = en} {p = left} {u = right} {place = place} {R = R} tree tk placed' spelt sign side pairs) =
      let high = grows_height Token (SeenNext text) (behind_in text) (seen_determined text) b.grows in
      let same : height m ≡ height (node AssignmentExpression (codes "=") plain st en (part left (part right none))) = ap height tree in
      record {
        reading = as_pattern false;
        rank = Primary;
        tree = left;
        mid = place;
        pairs = R;
        first = given.a_pattern spelt;
        low = omega arith;
        of_language = λ own. first_of_language (parts_of_language (subst (OfLanguage text) tree (grown_language b.grows own)));
        next = λ l first. at_pattern refl (assigned_next no_test b tree tk placed' spelt sign side pairs l first);
      }

  from_expression : {p : ExpressionContext} {o : ℕ} {n : Tree} {s e : Token} {P : List Pair} → (p.rank ≡ Conditional → ⊥) → (p.rank ≡ New → ⊥) → SpellsIn text o (expr p.rank p.has_in p.start) n s e P → StopsIn text p.rank p.has_in n e → Starts p o n s e P as_expression
  from_expression no_test no_new d st =
      let b = begins Token (SeenNext text) (behind_in text) (seen_determined text) d st in
      from_begun no_test (uncalled_at Token (SeenNext text) (behind_in text) (seen_determined text) no_new b.begun) b.begun (split_core text b.begun.core)

  -- behind `new`
  uncalled_new : {o : ℕ} {s0 e : Token} {n : Tree} {P : List Pair} {h : Rank} {j : Bool} {m : Tree} {mid : Token} {Q : List Pair} → ((t k : Token) → Reads Token (SeenNext text) (behind_in text) Punctuator (codes "(") e t k → ⊥) →
      Begun Token (SeenNext text) (behind_in text) (seen_determined text) o s0 New true Any n e P h j m mid Q → Uncalled Token (SeenNext text) (behind_in text) (seen_determined text) h m mid
  uncalled_new {m = m} {mid = mid} closed b tk at t k reads =
      let al : IsTrue (allows Div t.class t.text) = subst (λ c. IsTrue (allows Div c t.text)) (sym reads.class) (subst (λ c. IsTrue (allows Div Punctuator c)) (sym reads.text) refl) in
      let op : operation t ≡ op_call = makes t reads.class reads.text refl in
      let stopped : stops New true (edge m) (behind_in text mid) t ≡ true = ap (λ v. stops_at New true (edge_as_written (edge m) (behind_in text mid)) t (rank_made_by v t.after_break)) op in
      let end = ends_where_stops Token (SeenNext text) (behind_in text) (seen_determined text) (core_spelled Token (SeenNext text) (behind_in text) b.core) (record { next = reads.next; allowed = al }) stopped b.grows in
      closed t k (subst (λ v. Reads Token (SeenNext text) (behind_in text) Punctuator (codes "(") v t k) (sym end.place) reads)

  from_callee : {o : ℕ} {n : Tree} {s e : Token} {P : List Pair} → Callee Token (SeenNext text) (behind_in text) o n s e P → StopsIn text New true n e → Starts (record { rank = New; has_in = true; start = Any }) o n s e P as_expression
  from_callee (at_new d closed) st = let b = begins Token (SeenNext text) (behind_in text) (seen_determined text) d st in from_begun (λ k. cc) (uncalled_new closed b.begun) b.begun (split_core text b.begun.core)
  from_callee {o} {n} {s} {e} {P} (at_member d) st = let b = begins Token (SeenNext text) (behind_in text) (seen_determined text) d (member_stops Token (SeenNext text) (behind_in text) n st) in of b.begun (split_core text b.begun.core)
    where
      of : {h : Rank} {j : Bool} {m : Tree} {mid : Token} {Q : List Pair} → Begun Token (SeenNext text) (behind_in text) (seen_determined text) o s Member true Any n e P h j m mid Q → SplitCore text o h j Any m s mid Q → Starts (record { rank = New; has_in = true; start = Any }) o n s e P as_expression
      of {h = h} {m = m} {mid = mid} {Q = Q} b (not_assigned grouped) = record {
        reading = as_expression;
        rank = h;
        tree = m;
        mid = mid;
        pairs = Q;
        first = given.a_core (λ k. cc) (inr (refl, refl)) b (uncalled_at Token (SeenNext text) (behind_in text) (seen_determined text) (λ k. cc) b) grouped (λ later tk kind k name x paren. cc);
        low = grows_height Token (SeenNext text) (behind_in text) (seen_determined text) b.grows;
        of_language = grown_language b.grows;
        next = λ l first. on_spine (as_it_is refl refl) refl (on_it (λ k. cc) st l first (leads_new Token (SeenNext text) (behind_in text) (seen_determined text) (leads_first b l first)));
      }
      of b (is_assigned tree tk placed' spelt sign side pairs) = let no : takes Member Assignment ≡ true = b.reached.taken Assignment tk in cc

  -- a name, or a pattern, alone
  alone : {o : ℕ} {n : Tree} {s e : Token} {P : List Pair} {p : ExpressionContext} (b : Bool) → EndsOver text p e → FirstAs text p o n s e P (as_pattern b) Primary → Starts p o n s e P (as_pattern b)
  alone {n = n} {e = e} {P = P} b ends first = record {
    reading = as_pattern b;
    rank = Primary;
    tree = n;
    mid = e;
    pairs = P;
    first = first;
    low = omega arith;
    of_language = λ own. own;
    next = λ l is_first. at_end refl is_first.read refl refl ends;
  }

  -- a name alone
  name_alone : {o : ℕ} {n : Tree} {s e : Token} {P : List Pair} → SpellsIn text o name n s e P → Over text e → Starts (record { rank = Assignment; has_in = true; start = Any }) o n s e P (as_pattern true)
  name_alone d over = alone true (stage.an_element refl over) (given.a_name d (over_name text over))

  -- beside a simple target that can't go on no pattern is assigned to
  no_pattern_there : {o o' : ℕ} {n left : Tree} {s e place x : Token} {P R : List Pair} → SpellsIn text o' (pattern false Any) left s place R → ReadsHere text Punctuator (codes "=") place x → is_simple (kind_of n) ≡ true → SpellsIn text o (expr LeftHandSide true Any) n s e P → StopsIn text LeftHandSide true n e → ⊥
  no_pattern_there {n = n} spelt sign t d st =
      no_target_beside Token (SeenNext text) (behind_in text) (seen_determined text) (alike text) (once text (height n))
      (inr (omega arith)) spelt (λ m. stops_before Token (SeenNext text) (behind_in text) (seen_determined text) LeftHandSide true m sign refl refl (λ c u. refl)) t d st

  -- a simple target alone, read as an expression
  target_alone : {p : ExpressionContext} {o : ℕ} {n : Tree} {s e : Token} {P : List Pair} → (p.rank ≡ Conditional → ⊥) → (p.rank ≡ New → ⊥) → p.start ≡ Any → is_simple (kind_of n) ≡ true → SpellsIn text o (expr LeftHandSide true Any) n s e P → StopsIn text LeftHandSide true n e →
      SpellsIn text o (expr p.rank p.has_in p.start) n s e P → StopsIn text p.rank p.has_in n e → Starts p o n s e P (as_pattern false)
  target_alone {p} {o} {n} {s} {e} {P} no_test no_new any t left left_st d st = let b = begins Token (SeenNext text) (behind_in text) (seen_determined text) d st in of b.begun (split_core text b.begun.core)
    where
      of : {h : Rank} {j : Bool} {m : Tree} {mid : Token} {Q : List Pair} → Begun Token (SeenNext text) (behind_in text) (seen_determined text) o s p.rank p.has_in p.start n e P h j m mid Q → SplitCore text o h j p.start m s mid Q → Starts p o n s e P (as_pattern false)
      of b (is_assigned {p = l} {place = place} {R = R} tree tk placed' spelt sign side pairs) = absurd (no_pattern_there (subst (λ v. SpellsIn text o (pattern false v) l s place R) any spelt) sign t left left_st)
      of {h = h} {j = j} {m = m} {mid = mid} {Q = Q} b (not_assigned grouped) = by (async_split text b)
        where
          so_far : {c : Rank} {u : Tree} (l : Operand) → IsFirst as_expression c l u → (u ≡ n) ⊎ (height u < height n) → (height l.cover.node < height n) ⊎ (is_element l.cover.shape.assigned ≡ true)
          so_far l first (inl k) = inr (target_element l.cover.shape.assigned (first.read.target (subst (λ v. is_simple (kind_of v) ≡ true) (sym k) t)))
          so_far {u = u} l first (inr k) = let same : height l.cover.node ≡ height u = ap height first.read.tree in inl (omega arith)

          by : AsyncSplit text p o m s mid n e P → Starts p o n s e P (as_pattern false)
          by (not_called unasync) = record {
            reading = as_expression;
            rank = h;
            tree = m;
            mid = mid;
            pairs = Q;
            first = given.a_core no_test (inl refl) b (uncalled_at Token (SeenNext text) (behind_in text) (seen_determined text) no_new b) grouped unasync;
            low = grows_height Token (SeenNext text) (behind_in text) (seen_determined text) b.grows;
            of_language = grown_language b.grows;
            next = λ l first. on_spine (as_element refl (simple_itself n t) (simple_no_pattern (kind_of n) t) (inl t) (so_far l first (grows_or text b.grows))) refl (on_it no_test b.stopped l first (leads_first b l first));
          }
          by (is_called {u = u} {h = c} {to = to} {R = R} tk call fits d gs) = record {
            reading = as_expression;
            rank = c;
            tree = u;
            mid = to;
            pairs = R;
            first = given.an_async_call tk call fits d b.stopped gs;
            low = grows_height Token (SeenNext text) (behind_in text) (seen_determined text) gs;
            of_language = grown_language gs;
            next = λ l first. on_spine (as_element refl (simple_itself n t) (simple_no_pattern (kind_of n) t) (inl t) (so_far l first (grows_or text gs))) refl (on_it no_test b.stopped l first (leads_at d gs l first));
          }

  -- a simple target with its default, read as an assignment
  target_default : {o : ℕ} {n : Tree} {s e : Token} {P : List Pair} (u : Defaulted Token (SeenNext text) (behind_in text) (seen_determined text) (Simple Token (SeenNext text) (behind_in text) (seen_determined text) false) o n s e P) → is_simple (kind_of u.left) ≡ true →
      SpellsIn text o (expr LeftHandSide true Any) u.left s u.mid u.one → Over text e → Starts (record { rank = Assignment; has_in = true; start = Any }) o n s e P (as_pattern false)
  target_default {o} {n} {s} {e} {P} u t d over = of b.begun (split_core text b.begun.core)
    where
      left_st : StopsIn text LeftHandSide true u.left u.mid
      left_st = stops_before Token (SeenNext text) (behind_in text) (seen_determined text) LeftHandSide true u.left u.reads refl refl (λ c k. refl)

      b : Begins Token (SeenNext text) (behind_in text) (seen_determined text) o s LeftHandSide true Any u.left u.mid u.one
      b = begins Token (SeenNext text) (behind_in text) (seen_determined text) d left_st

      st : StopsIn text Assignment true (node AssignmentExpression (codes "=") plain u.st u.en (part u.left (part u.right none))) e
      st = over_stopped text Assignment true (node AssignmentExpression (codes "=") plain u.st u.en (part u.left (part u.right none))) refl over

      way : Among (sub (expr LeftHandSide true Any) ∷ between (codes "=") (expr Assignment true Any)) (ways (expr Assignment true Any) (node AssignmentExpression (codes "=") plain u.st u.en (part u.left (part u.right none))))
      way = assign_way u.st u.en u.left u.right t

      runs : RunsIn text o (between (codes "=") (expr Assignment true Any)) (part u.right none) u.mid e u.more
      runs = subst (λ v. RunsIn text o (between (codes "=") (expr Assignment true Any)) (part u.right none) u.mid e v) (append-nil u.more) (step laid (step (token u.reads) (step laid (within u.value done))))

      gs : {h : Rank} {j : Bool} {m : Tree} {mid : Token} {Q : List Pair} → Begun Token (SeenNext text) (behind_in text) (seen_determined text) o s LeftHandSide true Any u.left u.mid u.one h j m mid Q → Grows Token (SeenNext text) (behind_in text) o s (expr Assignment true Any) (node AssignmentExpression (codes "=") plain u.st u.en (part u.left (part u.right none))) e P (expr h j Any) m mid Q
      gs {h} {j} {m} {mid} {Q} b = subst (λ v. Grows Token (SeenNext text) (behind_in text) o s (expr Assignment true Any) (node AssignmentExpression (codes "=") plain u.st u.en (part u.left (part u.right none))) e v (expr h j Any) m mid Q) (sym u.pairs) (outer Token (SeenNext text) (behind_in text) way refl (placed u.next (λ k. (u.starts k, u.stops k))) refl runs b.grows)

      begun : {h : Rank} {j : Bool} {m : Tree} {mid : Token} {Q : List Pair} → Begun Token (SeenNext text) (behind_in text) (seen_determined text) o s LeftHandSide true Any u.left u.mid u.one h j m mid Q → Begun Token (SeenNext text) (behind_in text) (seen_determined text) o s Assignment true Any (node AssignmentExpression (codes "=") plain u.st u.en (part u.left (part u.right none))) e P h j m mid Q
      begun b = record { stopped = st; reached = reaches Token (SeenNext text) (behind_in text) (gs b); core = b.core; grows = gs b }

      of : {h : Rank} {j : Bool} {m : Tree} {mid : Token} {Q : List Pair} → Begun Token (SeenNext text) (behind_in text) (seen_determined text) o s LeftHandSide true Any u.left u.mid u.one h j m mid Q → SplitCore text o h j Any m s mid Q →
          Starts (record { rank = Assignment; has_in = true; start = Any }) o n s e P (as_pattern false)
      of b (is_assigned tree tk placed' spelt sign side pairs) = let clash : takes LeftHandSide Assignment ≡ true = b.reached.taken Assignment tk in cc
      of {h = h} {m = m} {mid = mid} {Q = Q} b (not_assigned grouped) = by (async_split text (begun b))
        where
          made : Tree
          made = node AssignmentExpression (codes "=") plain u.st u.en (part u.left (part u.right none))

          high : height n ≡ height made
          high = ap height u.tree

          -- a call is no assignment
          lower : {q : Tree} {to : Token} {R : List Pair} → AsyncCalled text o q s to R → (q ≡ made) ⊎ (height q < height made) → height q < height made
          lower call (inl k) = (let clash : CallExpression ≡ AssignmentExpression = sym (ap kind_of call.tree) ∙ ap kind_of k in cc)
          lower call (inr k) = k

          by : AsyncSplit text (record { rank = Assignment; has_in = true; start = Any }) o m s mid made e P → Starts (record { rank = Assignment; has_in = true; start = Any }) o n s e P (as_pattern false)
          by (not_called unasync) =
              let below = grows_height Token (SeenNext text) (behind_in text) (seen_determined text) b.grows in
              let same = high in
              record {
                reading = as_expression;
                rank = h;
                tree = m;
                mid = mid;
                pairs = Q;
                first = given.a_core (λ k. cc) (inl refl) (begun b) (uncalled_at Token (SeenNext text) (behind_in text) (seen_determined text) (λ k. cc) (begun b)) grouped unasync;
                low = omega arith;
                of_language = λ own. grown_language b.grows (first_of_language (parts_of_language (subst (OfLanguage text) u.tree own)));
                next = λ l first. on_spine (as_element refl (sym u.tree) (ap (λ v. is_pattern (kind_of v)) u.tree) (inr (refl, refl)) (inl (let same : height l.cover.node ≡ height m = ap height first.read.tree in omega arith))) (sym high) (on_it (λ k. cc) st l first (leads_first (begun b) l first));
              }
          by (is_called {u = q} {h = c} {to = to} {R = R} tk call fits d gs) =
              let below = lower call (grows_or text gs) in
              let same = high in
              record {
                reading = as_expression;
                rank = c;
                tree = q;
                mid = to;
                pairs = R;
                first = given.an_async_call tk call fits d st gs;
                low = omega arith;
                of_language = λ own. grown_language gs (of_node (λ c. refl) (parts_of_language (subst (OfLanguage text) u.tree own)));
                next = λ l first. on_spine (as_element refl (sym u.tree) (ap (λ v. is_pattern (kind_of v)) u.tree) (inr (refl, refl)) (inl (let same : height l.cover.node ≡ height q = ap height first.read.tree in omega arith))) (sym high) (on_it (λ k. cc) st l first (leads_at d gs l first));
              }

  -- a pattern or a name with its default
  left_default : {o : ℕ} {n : Tree} {s e : Token} {P : List Pair} {L : ℕ → Tree → Token → Token → List Pair → Type 0} (b : Bool) (u : Defaulted Token (SeenNext text) (behind_in text) (seen_determined text) L o n s e P) → (is_pattern (kind_of u.left) ≡ true) ⊎ (is_simple (kind_of u.left) ≡ true) → Over text e →
      FirstAs text (record { rank = Assignment; has_in = true; start = Any }) o u.left s u.mid u.one (as_pattern b) Primary → Starts (record { rank = Assignment; has_in = true; start = Any }) o n s e P (as_pattern b)
  left_default {n = n} {s = s} b u kind over first =
      let high : height n ≡ height (node AssignmentPattern [] plain u.st u.en (part u.left (part u.right none))) = ap height u.tree in
      record {
        reading = as_pattern b;
        rank = Primary;
        tree = u.left;
        mid = u.mid;
        pairs = u.one;
        first = first;
        low = omega arith;
        of_language = λ own. first_of_language (parts_of_language (subst (OfLanguage text) u.tree own));
        next = λ l is_first. at_default refl (record {
          position = refl;
          left = u.left;
          right = u.right;
          x = u.x;
          is_left = left_read b is_first kind (read_here text u.reads);
          st = u.st;
          en = u.en;
          start = u.start;
          behind_start = u.behind_start;
          next = u.next;
          starts = u.starts;
          stops = u.stops;
          more = u.more;
          tree = u.tree;
          side = u.value;
          over = over;
          pairs = u.pairs;
        });
      }

  element_starts : (b : Bool) {o : ℕ} {n : Tree} {s e : Token} {P : List Pair} → ElementForm Token (SeenNext text) (behind_in text) (seen_determined text) b o n s e P → Over text e → Starts (record { rank = Assignment; has_in = true; start = Any }) o n s e P (as_pattern b)
  element_starts b (bare_pattern d) over = alone b (stage.an_element refl over) (given.a_pattern d)
  element_starts b {o} {n} {s} {e} {P} (bare_simple (a_name is d)) over = subst (λ c. Starts (record { rank = Assignment; has_in = true; start = Any }) o n s e P (as_pattern c)) (sym is) (name_alone d over)
  element_starts b {o} {n} {s} {e} {P} (bare_simple (a_target is t d)) over =
      subst (λ c. Starts (record { rank = Assignment; has_in = true; start = Any }) o n s e P (as_pattern c)) (sym is)
      (target_alone (λ k. cc) (λ k. cc) refl t d (over_stopped text LeftHandSide true n refl over) (target_moves Token (SeenNext text) (behind_in text) (seen_determined text) LeftHandSide Assignment refl refl refl t d) (over_stopped text Assignment true n refl over))
  element_starts b (pattern_default u) over = left_default b u (inl (pattern_is Token (SeenNext text) (behind_in text) u.stands)) over (given.a_pattern u.stands)
  element_starts b {o} {n} {s} {e} {P} (simple_default u) over = of b u u.stands
    where
      of : (b : Bool) (u : Defaulted Token (SeenNext text) (behind_in text) (seen_determined text) (Simple Token (SeenNext text) (behind_in text) (seen_determined text) b) o n s e P) → Simple Token (SeenNext text) (behind_in text) (seen_determined text) b o u.left s u.mid u.one →
          Starts (record { rank = Assignment; has_in = true; start = Any }) o n s e P (as_pattern b)
      of true u (a_name is d) = left_default true u (inr (identifier_simple (kind_of u.left) (name_target Token (SeenNext text) (behind_in text) (seen_determined text) d).0)) over (given.a_name d (sign_name text (read_here text u.reads)))
      of false u (a_target is t d) = target_default u t d over
      of true u (a_target is t d) = cc
      of false u (a_name is d) = cc

  target_starts : {o : ℕ} {n : Tree} {s e : Token} {P : List Pair} → BoundForm Token (SeenNext text) (behind_in text) (seen_determined text) false o n s e P → SeesBy text Div is_each e → Apart Token (SeenNext text) (behind_in text) e → Starts (record { rank = Expression; has_in = false; start = Any }) o n s e P (as_pattern false)
  target_starts (a_pattern d) each apart = alone false (stage.a_target refl each apart) (given.a_pattern d)
  target_starts {n = n} {e = e} (a_simple (a_target is t d)) each apart =
      target_alone (λ k. cc) (λ k. cc) refl t d (record { before = λ u m r. each_left_stops true (edge_as_written (edge n) (behind_in text e)) u (each_there text each r); apart = apart }) (target_moves Token (SeenNext text) (behind_in text) (seen_determined text) LeftHandSide Expression refl refl refl t d)
      (record { before = λ u m r. each_stops (edge_as_written (edge n) (behind_in text e)) u (each_there text each r); apart = apart })
  target_starts (a_simple (a_name is d)) each apart = cc

  -- what is given starts so
  pub starts : (p : ExpressionContext) (a : Reading) {o : ℕ} {n : Tree} {s e : Token} {P : List Pair} → GivenAs text p o n s e P a → Starts p o n s e P a
  starts p a (given.an_expression no_test no_new d st) = from_expression no_test no_new d st
  starts p a {o} {n} {s} {e} {P} (given.a_callee is d st) = subst (λ q. Starts q o n s e P as_expression) (sym is) (from_callee d st)
  starts p a {o} {n} {s} {e} {P} (given.an_element {b = b} is role d over) = subst (λ q. Starts q o n s e P (as_pattern b)) (sym is) (element_starts b (element_form Token (SeenNext text) (behind_in text) (seen_determined text) b n role d) over)
  starts p a {o} {n} {s} {e} {P} (given.a_target is role d each apart) = subst (λ q. Starts q o n s e P (as_pattern false)) (sym is) (target_starts (bound_form Token (SeenNext text) (behind_in text) (seen_determined text) false n role d) each apart)
