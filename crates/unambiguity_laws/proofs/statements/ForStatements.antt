-- A `for`, of each kind, is the only one at its place.
use Rattle.std.proofs.Common.{◌≡◌, ℕ, suc, ◌≤◌, Bool, true, false, List, [], ◌++◌, refl, sym, ap, ◌∙◌, subst, arith}
use Rattle.std.specs.Prelude.{IsTrue, codes}
use Rattle.tokens.specs.declared.token.TokenClass.TheVariants.{IdentifierName, Keyword, Punctuator}
use Rattle.tokens.specs.declared.token.Goal.{Goal}
use Rattle.tokens.specs.declared.token.Goal.TheVariants.{Div}
use Rattle.tokens.specs.Goals.{allows}
use Rattle.tree.specs.declared.kind.Kind.{Kind}
use Rattle.tree.specs.declared.kind.Kind.TheVariants.{ForStatement, ForInStatement, ForOfStatement}
use Rattle.tree.specs.declared.kind.Form.{Form}
use Rattle.tree.specs.declared.kind.Form.TheVariants.{Init, Async}
use Rattle.tree.specs.Uses.{is_init}
use Rattle.tree.specs.declared.kind.Pair.{Pair}
use Rattle.tree.specs.Tree.{Tree, node, Parts, none, part, height, parts_height, bare_parts, plain}
use Rattle.language.specs.declared.Rank.{Rank}
use Rattle.language.specs.declared.Rank.TheVariants.{Expression, Assignment, Conditional, New}
use Rattle.language.specs.declared.Start.TheVariants.{Any}
use Rattle.language.specs.StatementStart.{StatementStart, a_for, statement_start}
use Rattle.language.specs.Edges.{last_ends_in_if}
use Rattle.language.specs.Pieces.{Role, expr, statement, put}
use Rattle.language.specs.Token.{Token}
use Rattle.language.specs.Promises.{is_free, IsDetermined, ReadBy, Stops}
use Rattle.language.specs.Following.{IsAlike, Followed, Finished, FoundWhere, FoundPartsWhere, AbsentPartsWhere}
use Rattle.language.specs.Grammar.{ways}
use Rattle.language.specs.Derivation.{Reads, Spells, Runs, Placed}
use Rattle.language.proofs.table.Begins.{goes_to, behind_first}
use Rattle.language.proofs.climbing.BinaryTurns.{same_node}
use Rattle.language.proofs.list_loops.FirstPieces.{run_token, run_laid, run_never}
use Rattle.language.proofs.climbing.Conditionals.{same_sign}
use Rattle.language.proofs.table.TokenFirstWays.{opens}
use Rattle.language.proofs.climbing.Supers.{none_begins}
use Rattle.language.proofs.statements.StatementFollow.{idle_stops}
use Rattle.language.proofs.table.Beginnings.{form_flags, OwnWay, LaterWay, later_for, Viewed, its_own, another, later, viewed}
use Rattle.language.proofs.table.OwnTokenWays.{statement_spans, for_sole}
use Rattle.language.proofs.table.SoleWays.{same_span, sole_found}
use Rattle.language.proofs.table.StatementWays.{Stands, as_statement, begins_as, behind_own, for_of_pieces}
use Rattle.language.proofs.table.LoopKinds.{LoopKind, a_loop, a_loop_in, a_loop_of, loop_kind}
use Rattle.language.proofs.statements.ForHeads.{left_pieces, initial_pieces, Worded, Parted}
use Rattle.unambiguity_laws.proofs.Unique.{Unique, StatementStep}
use Rattle.unambiguity_laws.proofs.statements.StatementFacts.{found_as}
use Rattle.unambiguity_laws.proofs.statements.Tries.{two_words}
use Rattle.unambiguity_laws.proofs.statements.ForDeclarations.{HeadEnds, at_in, at_of, at_semicolon}
use Rattle.unambiguity_laws.proofs.statements.ForFirstParts.{of_first, head_part_begins, parts_end, first_unique, left_unique}
use Rattle.unambiguity_laws.proofs.statements.ForParts.{BeforeWord, before_in, before_of, HeadToken, token_ends, tokens_same, LoopHead, headed, unheaded, LeftLoop, left_loop, First, a_first, no_first, Test, a_test, no_test, first_high, test_high, loop_ends, TestLoop, test_loop, LoopBegins, loop_begins}

module _ (S : Type 0) (Next : S → Token → S → Type 0) (behind : S → Token) (det : IsDetermined S Next behind) where
  -- where a test ends
  data TestEnds (k : S) : Type 0 where
    by_semicolon : {t : Token} {m : S} → Reads S Next behind Punctuator (codes ";") k t m → TestEnds k
    by_parenthesis : {t : Token} {m : S} → Reads S Next behind Punctuator (codes ")") k t m → TestEnds k

  test_stops : (n : Tree) {k : S} → TestEnds k → Stops S Next behind Expression true n k
  test_stops n (by_semicolon r) = idle_stops S Next behind det Expression true n refl (λ x b. refl) r
  test_stops n (by_parenthesis r) = idle_stops S Next behind det Expression true n refl (λ x b. refl) r

  no_test_begins : {o : ℕ} {n : Tree} {s e : S} {P : List Pair} → Spells ways S Next behind o (expr Expression true Any) n s e P → TestEnds s → ⊥
  no_test_begins d (by_semicolon {t = t} r) =
      let al : IsTrue (allows Goal.RegExp t.class t.text) = subst (λ c. IsTrue (allows Goal.RegExp c t.text)) (sym r.class) (subst (λ z. IsTrue (allows Goal.RegExp Punctuator z)) (sym r.text) refl) in
      none_begins S Next behind det (record { next = r.next; allowed = al }) (opens t r.class r.text refl) d
  no_test_begins d (by_parenthesis {t = t} r) =
      let al : IsTrue (allows Goal.RegExp t.class t.text) = subst (λ c. IsTrue (allows Goal.RegExp c t.text)) (sym r.class) (subst (λ z. IsTrue (allows Goal.RegExp Punctuator z)) (sym r.text) refl) in
      none_begins S Next behind det (record { next = r.next; allowed = al }) (opens t r.class r.text refl) d

  -- a `for await`, behind that word
  record AwaitFor (r : Bool) (a : Role) (o : ℕ) (n : Tree) (s m e : S) (P : List Pair) : Type 0 where
    st : ℕ
    en : ℕ
    parts : Parts
    sign : Token
    mid : S
    tree : n ≡ node ForOfStatement [] (form_flags Async) st en parts
    placed : Placed S Next behind a n s e
    reads : Reads S Next behind Keyword (codes "await") m sign mid
    runs : Runs ways S Next behind o (goes_to Expression true Any (behind_own r ForOfStatement (bare_parts parts))) parts mid e P

  await_for : {r : Bool} {o : ℕ} {a : Role} {t : Token} {m : S} {n : Tree} {s e : S} {P : List Pair} → LaterWay S Next behind det r o a t m n s e P a_for → AwaitFor r a o n s m e P
  await_for {r} {o} {a} {m = m} {n = n} {s = s} {e = e} {P = P} (later_for {z = z} {st = st} {en = en} {ps = ps} h tree pl d) = of z h tree d
    where
      of : (z : Form) → is_init z ≡ false → n ≡ node ForOfStatement [] (form_flags z) st en ps → Runs ways S Next behind o (behind_first (goes_to Expression true Any (for_of_pieces r z (bare_parts ps)))) ps m e P → AwaitFor r a o n s m e P
      of Async h tree d = let v = run_token S Next behind (run_laid S Next behind d) in record { st = st; en = en; parts = ps; sign = v.sign; mid = v.mid; tree = tree; placed = pl; reads = v.reads; runs = v.runs }
      of Init h tree d = cc
      of _ h tree d = absurd (run_never S Next behind (run_laid S Next behind d))

  -- there no parenthesis stands behind `for`
  no_await : {r : Bool} {a : Role} {o : ℕ} {n : Tree} {s m e k : S} {P : List Pair} {t : Token} → AwaitFor r a o n s m e P → Reads S Next behind Punctuator (codes "(") m t k → ⊥
  no_await {m = m} {k = k} {t = t} v h =
      let al : IsTrue (allows Div t.class t.text) = subst (λ c. IsTrue (allows Div c t.text)) (sym h.class) (subst (λ z. IsTrue (allows Div Punctuator z)) (sym h.text) refl) in
      let same = det.same Div m v.sign t v.mid k v.reads.next h.next (det.free Div m v.sign v.mid v.reads.next (ap is_free v.reads.class)) al in
      let clash : Keyword ≡ Punctuator = sym v.reads.class ∙ ap (λ (c : Token). c.class) same.0 ∙ h.class in
      cc

module _ (S : Type 0) (Next : S → Token → S → Type 0) (behind : S → Token) (det : IsDetermined S Next behind) (alike : IsAlike S Next behind) {h : ℕ} (u : Unique S Next behind det h) where
  test_unique : {o o' : ℕ} {s k k' : S} {f f' : Parts → Parts} {A A' : List Pair} → parts_height (f none) ≤ h → Test S Next behind det o s f k A → TestEnds S Next behind det k → Test S Next behind det o' s f' k' A' → TestEnds S Next behind det k' → (k' ≡ k) × (f' ≡ f) × (A' ≡ A)
  test_unique {o' = o'} {k' = k'} {A' = A'} low (a_test {n} d) ends (a_test {n = n'} d') ends' =
      let same = (u.expressions.found (omega arith) (λ z. cc) (λ z. cc) d (test_stops S Next behind det n ends)).only o' k' n' A' d' (test_stops S Next behind det n' ends') in
      (same.0, (λ j ps. part (same.1 j) ps), same.2)
  test_unique low no_test ends no_test ends' = (refl, refl, refl)
  test_unique low (a_test d) ends no_test ends' = absurd (no_test_begins S Next behind det d ends')
  test_unique low no_test ends (a_test d) ends' = absurd (no_test_begins S Next behind det d ends)

  initial_unique : {o o' : ℕ} {s k k' : S} {f f' : Parts → Parts} {A A' : List Pair} → parts_height (f none) ≤ h → First S Next behind det o s f k A → Parted S Next behind det k → First S Next behind det o' s f' k' A' → Parted S Next behind det k' → (k' ≡ k) × (f' ≡ f) × (A' ≡ A)
  initial_unique low (a_first d) ends (a_first d') ends' = let same = first_unique S Next behind det alike u (omega arith) d (at_semicolon ends) d' (at_semicolon ends') in (same.0, (λ j ps. part (same.1 j) ps), same.2)
  initial_unique low no_first ends no_first ends' = (refl, refl, refl)
  initial_unique low (a_first d) ends no_first ends' = absurd (head_part_begins S Next behind det (of_first S Next behind det d) ends'.reads)
  initial_unique low no_first ends (a_first d) ends' = absurd (head_part_begins S Next behind det (of_first S Next behind det d) ends.reads)

  -- the kind of a loop is told by its head
  kinds_same : {c c' : Kind} {hi o o' : ℕ} {s : S} → LoopHead S Next behind det c h o s → LoopHead S Next behind det c' hi o' s → c' ≡ c
  kinds_same {c' = c'} (headed low d t) (headed low' d' t') =
      let same = parts_end S Next behind det alike u low d (token_ends S Next behind det t) d' (token_ends S Next behind det t') in
      tokens_same S Next behind det t (subst (λ k. HeadToken S Next behind det k c') same t')
  kinds_same (headed low d t) (unheaded is' p) = absurd (head_part_begins S Next behind det d p.reads)
  kinds_same (unheaded is' p) (headed low d t) = absurd (head_part_begins S Next behind det d p.reads)
  kinds_same (unheaded is p) (unheaded is' p') = is' ∙ sym is

  -- behind the `(`, by the kind
  left_parts : {w : List ℕ} {y : Rank} {r : Bool} {o o' : ℕ} {ps ps' : Parts} {s e e' : S} {P P' : List Pair} → (y ≡ Conditional → ⊥) → (y ≡ New → ⊥) → BeforeWord S Next behind det w y → ((k : S) → Worded S Next behind det w k → HeadEnds S Next behind det k) → parts_height ps ≤ h →
      LeftLoop S Next behind det w y r o ps s e P → Followed S Next behind (last_ends_in_if ps) e → LeftLoop S Next behind det w y r o' ps' s e' P' → Followed S Next behind (last_ends_in_if ps') e' → (e' ≡ e) × (ps' ≡ ps) × (P' ≡ P)
  left_parts {w} {y} {r} {o} {o'} {ps} {ps'} {s} {e} {e'} not_conditional not_new before ends low a fine b fine' =
      let high : parts_height ps ≡ parts_height (part a.left (part a.right (part a.body none))) = ap parts_height a.parts in
      let i1 = left_unique S Next behind det alike u (omega arith) a.stands (ends a.k (record { sign = a.t; mid = a.m; reads = a.word; apart = before _ _ _ _ _ _ _ a.word a.spelled })) b.stands (ends b.k (record { sign = b.t; mid = b.m; reads = b.word; apart = before _ _ _ _ _ _ _ b.word b.spelled })) in
      let i2 = (two_words S Next behind det (subst (λ v. Reads S Next behind IdentifierName w v b.t b.m) i1.0 b.word) a.word).1 in
      let found = u.expressions.found (omega arith) not_conditional not_new a.spelled (idle_stops S Next behind det y true a.right refl (λ x b. refl) a.closes) in
      let i3 = found.only o' b.k1 b.right b.two (subst (λ v. Spells ways S Next behind o' (expr y true Any) b.right v b.k1 b.two) i2 b.spelled) (idle_stops S Next behind det y true b.right refl (λ x b. refl) b.closes) in
      let i4 = (same_sign S Next behind det (subst (λ v. Reads S Next behind Punctuator (codes ")") v b.t1 b.m1) i3.0 b.closes) a.closes refl).1 in
      let body = u.statement as_statement (omega arith) a.last (subst (λ v. Followed S Next behind (last_ends_in_if v) e) a.parts fine) in
      let i5 = body.only o' e' b.body b.three (subst (λ v. Spells ways S Next behind o' (statement r) b.body v e' b.three) i4 b.last) (subst (λ v. Followed S Next behind (last_ends_in_if v) e') b.parts fine') in
      (i5.0, b.parts ∙ (λ j. part (i1.1 j) (part (i3.1 j) (part (i5.1 j) none))) ∙ sym a.parts, b.pairs ∙ (λ j. i1.2 j ++ (i3.2 j ++ i5.2 j)) ∙ sym a.pairs)

  test_parts : {r : Bool} {o o' : ℕ} {ps ps' : Parts} {s e e' : S} {P P' : List Pair} → parts_height ps ≤ h → TestLoop S Next behind det r o ps s e P → Followed S Next behind (last_ends_in_if ps) e → TestLoop S Next behind det r o' ps' s e' P' → Followed S Next behind (last_ends_in_if ps') e' → (e' ≡ e) × (ps' ≡ ps) × (P' ≡ P)
  test_parts {r} {o} {o'} {ps} {ps'} {s} {e} {e'} low a fine b fine' =
      let high : parts_height ps ≡ parts_height (a.f (a.f1 (a.f2 (part a.body none)))) = ap parts_height a.parts in
      let l0 = first_high S Next behind det a.initial (a.f1 (a.f2 (part a.body none))) in
      let l1 = test_high S Next behind det a.test (a.f2 (part a.body none)) in
      let l2 = test_high S Next behind det a.update (part a.body none) in
      let i0 = initial_unique (omega arith) a.initial (record { sign = a.t; mid = a.m; reads = a.parted }) b.initial (record { sign = b.t; mid = b.m; reads = b.parted }) in
      let j0 = (same_sign S Next behind det (subst (λ v. Reads S Next behind Punctuator (codes ";") v b.t b.m) i0.0 b.parted) a.parted refl).1 in
      let i1 = test_unique (omega arith) a.test (by_semicolon a.parted_again) (subst (λ v. Test S Next behind det o' v b.f1 b.k1 b.two) j0 b.test) (by_semicolon b.parted_again) in
      let j1 = (same_sign S Next behind det (subst (λ v. Reads S Next behind Punctuator (codes ";") v b.t1 b.m1) i1.0 b.parted_again) a.parted_again refl).1 in
      let i2 = test_unique (omega arith) a.update (by_parenthesis a.closes) (subst (λ v. Test S Next behind det o' v b.f2 b.k2 b.three) j1 b.update) (by_parenthesis b.closes) in
      let j2 = (same_sign S Next behind det (subst (λ v. Reads S Next behind Punctuator (codes ")") v b.t2 b.m2) i2.0 b.closes) a.closes refl).1 in
      let fine_a = subst (λ v. Followed S Next behind v e) (ap last_ends_in_if a.parts ∙ loop_ends S Next behind det a.body a.initial a.test a.update) fine in
      let fine_b = subst (λ v. Followed S Next behind v e') (ap last_ends_in_if b.parts ∙ loop_ends S Next behind det b.body b.initial b.test b.update) fine' in
      let i3 = (u.statement as_statement (omega arith) a.last fine_a).only o' e' b.body b.four (subst (λ v. Spells ways S Next behind o' (statement r) b.body v e' b.four) j2 b.last) fine_b in
      (i3.0, b.parts ∙ (λ j. i0.1 j (i1.1 j (i2.1 j (part (i3.1 j) none)))) ∙ sym a.parts, b.pairs ∙ (λ j. i0.2 j ++ (i1.2 j ++ (i2.2 j ++ i3.2 j))) ∙ sym a.pairs)

  -- behind the word
  found_by : (r : Bool) {c : Kind} {o : ℕ} {ps : Parts} {m e : S} {P : List Pair} → LoopKind c → parts_height ps ≤ h → Runs ways S Next behind o (goes_to Expression true Any (behind_own r c (bare_parts ps))) ps m e P → Finished S Next behind (node c [] plain 0 0 ps) e →
      FoundPartsWhere S Next behind (λ ps e. Finished S Next behind (node c [] plain 0 0 ps) e) o (λ ps. goes_to Expression true Any (behind_own r c (bare_parts ps))) m e ps P
  found_by r {o} {ps} {m} {e} {P} a_loop low d fine = record { runs = d; only = λ o' e' ps' P' d' fine'. of ps' d' fine' }
    where
      of : {o' : ℕ} {e' : S} (ps' : Parts) {P' : List Pair} → Runs ways S Next behind o' (goes_to Expression true Any (behind_own r ForStatement (bare_parts ps'))) ps' m e' P' → Finished S Next behind (node ForStatement [] plain 0 0 ps') e' → (e' ≡ e) × (ps' ≡ ps) × (P' ≡ P)
      of {o'} {e'} ps' {P'} d' fine' =
          let a = run_token S Next behind (run_laid S Next behind d) in
          let b = run_token S Next behind (run_laid S Next behind d') in
          let same = (same_sign S Next behind det b.reads a.reads refl).1 in
          test_parts low (test_loop S Next behind det {r = r} ps a.runs) fine (test_loop S Next behind det {r = r} ps' (subst (λ v. Runs ways S Next behind o' (initial_pieces r ps') ps' v e' P') same b.runs)) fine'
  found_by r {o} {ps} {m} {e} {P} a_loop_in low d fine = record { runs = d; only = λ o' e' ps' P' d' fine'. of ps' d' fine' }
    where
      of : {o' : ℕ} {e' : S} (ps' : Parts) {P' : List Pair} → Runs ways S Next behind o' (goes_to Expression true Any (behind_own r ForInStatement (bare_parts ps'))) ps' m e' P' → Finished S Next behind (node ForInStatement [] plain 0 0 ps') e' → (e' ≡ e) × (ps' ≡ ps) × (P' ≡ P)
      of {o'} {e'} ps' {P'} d' fine' =
          let a = run_token S Next behind (run_laid S Next behind d) in
          let b = run_token S Next behind (run_laid S Next behind d') in
          let same = (same_sign S Next behind det b.reads a.reads refl).1 in
          left_parts (λ z. cc) (λ z. cc) (before_in S Next behind det) (λ k w. at_in w) low (left_loop S Next behind det {w = codes "in"} {y = Expression} {r = r} ps a.runs) fine
          (left_loop S Next behind det {w = codes "in"} {y = Expression} {r = r} ps' (subst (λ v. Runs ways S Next behind o' (left_pieces r (codes "in") (put (expr Expression true Any)) ps') ps' v e' P') same b.runs)) fine'
  found_by r {o} {ps} {m} {e} {P} a_loop_of low d fine = record { runs = d; only = λ o' e' ps' P' d' fine'. of ps' d' fine' }
    where
      of : {o' : ℕ} {e' : S} (ps' : Parts) {P' : List Pair} → Runs ways S Next behind o' (goes_to Expression true Any (behind_own r ForOfStatement (bare_parts ps'))) ps' m e' P' → Finished S Next behind (node ForOfStatement [] plain 0 0 ps') e' → (e' ≡ e) × (ps' ≡ ps) × (P' ≡ P)
      of {o'} {e'} ps' {P'} d' fine' =
          let a = run_token S Next behind (run_laid S Next behind d) in
          let b = run_token S Next behind (run_laid S Next behind d') in
          let same = (same_sign S Next behind det b.reads a.reads refl).1 in
          left_parts (λ z. cc) (λ z. cc) (before_of S Next behind det) (λ k w. at_of w) low (left_loop S Next behind det {w = codes "of"} {y = Assignment} {r = r} ps a.runs) fine
          (left_loop S Next behind det {w = codes "of"} {y = Assignment} {r = r} ps' (subst (λ v. Runs ways S Next behind o' (left_pieces r (codes "of") (put (expr Assignment true Any)) ps') ps' v e' P') same b.runs)) fine'

  loop_found : (r : Bool) (c : Kind) {o : ℕ} {ps : Parts} {m e : S} {P : List Pair} → begins_as c ≡ a_for → parts_height ps ≤ h → Runs ways S Next behind o (goes_to Expression true Any (behind_own r c (bare_parts ps))) ps m e P → Finished S Next behind (node c [] plain 0 0 ps) e →
      FoundPartsWhere S Next behind (λ ps e. Finished S Next behind (node c [] plain 0 0 ps) e) o (λ ps. goes_to Expression true Any (behind_own r c (bare_parts ps))) m e ps P
  loop_found r c loop low d fine = found_by r (loop_kind c loop) low d fine

  -- a `for await` is the only one
  await_same : {p d r : Bool} {a : Role} {o o' : ℕ} {n n' : Tree} {s m e e' : S} {P P' : List Pair} → Stands a p d r → height n ≤ suc h → AwaitFor S Next behind det r a o n s m e P → Finished S Next behind n e → AwaitFor S Next behind det r a o' n' s m e' P' → Finished S Next behind n' e' → (e' ≡ e) × (n' ≡ n) × (P' ≡ P)
  await_same {r = r} {a = a} {o' = o'} {n = n} {s = s} {m = m} {e = e} {e' = e'} {P' = P'} stands low v fine w fine' =
      let high : height n ≡ suc (parts_height v.parts) = ap height v.tree in
      let there = (det.same Div m w.sign v.sign w.mid v.mid w.reads.next v.reads.next (det.free Div m w.sign w.mid w.reads.next (ap is_free w.reads.class)) (det.free Div m v.sign v.mid v.reads.next (ap is_free v.reads.class))).1 in
      let found = found_by r a_loop_of (omega arith) v.runs (subst (λ c. Finished S Next behind c e) v.tree fine) in
      let same = found.only o' e' w.parts P' (subst (λ c. Runs ways S Next behind o' (goes_to Expression true Any (behind_own r ForOfStatement (bare_parts w.parts))) w.parts c e' P') there w.runs) (subst (λ c. Finished S Next behind c e') w.tree fine') in
      let span = same_span S Next behind det (statement_spans stands) (subst (λ c. Placed S Next behind a c s e') w.tree w.placed) (subst (λ c. Placed S Next behind a c s e) v.tree v.placed) same.0 in
      (same.0, w.tree ∙ same_node refl refl refl span.0 span.1 same.1 ∙ sym v.tree, same.2)

  -- a `for`
  pub for_statement : StatementStep S Next behind det h a_for
  for_statement = record { gives = λ {a} {p} {d} {r} {o} {n} {s} {m} {e} {P} {t} stands low sp fine read begun. of stands low fine read begun sp (viewed S Next behind det stands read sp) begun }
    where
      higher : {c : Kind} {hi o : ℕ} {k : S} → hi ≤ h → LoopHead S Next behind det c hi o k → LoopHead S Next behind det c h o k
      higher low (headed l d t) = headed (omega arith) d t
      higher low (unheaded is p) = unheaded is p

      others : (r : Bool) (k : Kind) {hi o : ℕ} {m : S} → hi ≤ h → LoopBegins S Next behind det k hi o m → (c : Kind) → begins_as c ≡ a_for → (c ≡ k → ⊥) →
          AbsentPartsWhere S Next behind (λ ps e. Finished S Next behind (node c [] plain 0 0 ps) e) (λ ps. goes_to Expression true Any (behind_own r c (bare_parts ps))) m
      others r k {hi} {o} low a c loop other = record {
        nothing = λ o' e' ps' P' d fine.
            let b = loop_begins S Next behind det r c {ps = ps'} loop d in
            let same = (same_sign S Next behind det b.reads a.reads refl).1 in
            other (kinds_same (higher low a.begins) (subst (λ v. LoopHead S Next behind det c (parts_height ps') o' v) same b.begins));
      }

      own : {a : Role} {p d r : Bool} {o : ℕ} {n : Tree} {s m e : S} {P : List Pair} {t : Token} → Stands a p d r → height n ≤ suc h → Finished S Next behind n e → ReadBy S Next behind Goal.RegExp s t m → statement_start d r t ≡ a_for → Spells ways S Next behind o a n s e P → OwnWay S Next behind det r o a a_for t.text m n s e P →
          FoundWhere S Next behind (Finished S Next behind) o a s e n P
      own {a} {p} {d} {r} {o} {n} {s} {m} {e} {P} {t} stands low fine read begun sp w =
          let high : height n ≡ suc (parts_height w.parts) = ap height w.tree in
          let head = loop_begins S Next behind det r w.kind w.begins w.runs in
          let sole = for_sole S Next behind det {Fine = Finished S Next behind} stands read w.kind begun w.begins (λ o n e P l. no_await S Next behind det (await_for S Next behind det l) head.reads) (λ c loop other. others r w.kind (omega arith) head c loop other) (λ c st en ps e f. f) in
          found_as S Next behind det (sole_found S Next behind det sole {FineParts = λ ps e. Finished S Next behind (node w.kind [] plain 0 0 ps) e} (λ st en ps e f. f)
          (loop_found r w.kind w.begins (omega arith) w.runs (subst (λ v. Finished S Next behind v e) w.tree fine)) (subst (λ v. Placed S Next behind a v s e) w.tree w.placed)) sp fine

      of : {a : Role} {p d r : Bool} {o : ℕ} {n : Tree} {s m e : S} {P : List Pair} {t : Token} {b : StatementStart} → Stands a p d r → height n ≤ suc h → Finished S Next behind n e → ReadBy S Next behind Goal.RegExp s t m → statement_start d r t ≡ a_for →
          Spells ways S Next behind o a n s e P → Viewed S Next behind det p r o a t m n s e P b → b ≡ a_for → FoundWhere S Next behind (Finished S Next behind) o a s e n P
      of {a} {r = r} {o} {n} {s} {m} {e} {P} {t} st low fine read begun sp (its_own k w) is = own st low fine read begun sp (subst (λ c. OwnWay S Next behind det r o a c t.text m n s e P) is w)
      of st low fine read begun sp (another k w) is = cc
      of {a} {p} {d} {r} {o} {n} {s} {m} {e} {P} {t} st low fine read begun sp (later w) is = record { spelled = sp; only = λ o' e' n' P' d' fine'. same (viewed S Next behind det st read d') begun fine' }
        where
          first : AwaitFor S Next behind det r a o n s m e P
          first = await_for S Next behind det (subst (λ c. LaterWay S Next behind det r o a t m n s e P c) is w)

          same : {o' : ℕ} {n' : Tree} {e' : S} {P' : List Pair} {b' : StatementStart} → Viewed S Next behind det p r o' a t m n' s e' P' b' → b' ≡ a_for → Finished S Next behind n' e' → (e' ≡ e) × (n' ≡ n) × (P' ≡ P)
          same {o'} {n'} {e'} {P'} (its_own k w') is' fine' =
              let v = subst (λ c. OwnWay S Next behind det r o' a c t.text m n' s e' P') is' w' in
              absurd (no_await S Next behind det first (loop_begins S Next behind det r v.kind v.begins v.runs).reads)
          same (another k w') is' fine' = cc
          same {o'} {n'} {e'} {P'} (later w') is' fine' = await_same st low first fine (await_for S Next behind det (subst (λ c. LaterWay S Next behind det r o' a t m n' s e' P' c) is' w')) fine'
