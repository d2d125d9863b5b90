-- What stands behind `for`, by its kind: its parts, and the token that tells the kind.
use Rattle.std.proofs.Common.{◌≡◌, ℕ, ◌≤◌, Bool, true, List, [], ◌∷◌, ◌++◌, refl, ap, ◌∙◌, arith, append_assoc}
use Rattle.std.specs.Prelude.{codes}
use Rattle.std.proofs.lemmas.Bool.{false≢true}
use Rattle.tokens.specs.declared.token.TokenClass.TheVariants.{IdentifierName, Punctuator}
use Rattle.tree.specs.declared.kind.Kind.{Kind}
use Rattle.tree.specs.declared.kind.Kind.TheVariants.{ForStatement, ForInStatement, ForOfStatement}
use Rattle.tree.specs.declared.kind.Pair.{Pair}
use Rattle.tree.specs.Tree.{Tree, node, Parts, none, part, gap, height, parts_height, bare_parts}
use Rattle.language.specs.declared.Rank.{Rank}
use Rattle.language.specs.declared.Rank.TheVariants.{Expression, Assignment}
use Rattle.language.specs.declared.Start.TheVariants.{Any}
use Rattle.language.specs.Vocabulary.{is}
use Rattle.language.specs.StatementStart.{a_for}
use Rattle.language.specs.Edges.{ends_in_if, last_ends_in_if}
use Rattle.language.specs.Pieces.{expr, statement, Piece, put, sp, sign}
use Rattle.language.specs.Statements.{whole}
use Rattle.language.specs.Expressions.{given}
use Rattle.language.specs.FirstPart.{others}
use Rattle.language.specs.Token.{Token}
use Rattle.language.specs.Promises.{IsDetermined, Apart}
use Rattle.language.specs.Grammar.{ways}
use Rattle.language.specs.Derivation.{Reads, Spells, Runs}
use Rattle.language.proofs.table.Begins.{goes_to, retell}
use Rattle.language.proofs.climbing.NamesBehind.{apart_in, apart_of}
use Rattle.language.proofs.climbing.Supers.{no_arrow_begins}
use Rattle.language.proofs.list_loops.FirstPieces.{run_token, run_laid, run_never, run_the_part, run_the_gap, run_part}
use Rattle.language.proofs.list_loops.CommaLists.{an_item}
use Rattle.language.proofs.covers.CoverReadings.{name_or_sign}
use Rattle.language.proofs.table.StatementWays.{begins_as, behind_own}
use Rattle.language.proofs.table.LoopKinds.{LoopKind, a_loop, a_loop_in, a_loop_of, loop_kind}
use Rattle.language.proofs.statements.ForHeads.{first_role, left_role, left_pieces, initial_pieces, Worded, Parted}
use Rattle.language.proofs.statements.ForLoops.{test_pieces, behind_test, behind_update}
use Rattle.unambiguity_laws.proofs.statements.Tries.{two_words, last_part}
use Rattle.unambiguity_laws.proofs.statements.ForDeclarations.{HeadEnds, at_in, at_of, at_semicolon}
use Rattle.unambiguity_laws.proofs.statements.ForFirstParts.{FirstPart, LeftPart, HeadPart, first_part, left_part, of_first, of_left}

rejoined : (r : Bool) (ps : Parts) → goes_to Expression true Any ((given (bare_parts ps) (sp ∷ whole ∷ []) ++ (sign ";" ∷ given (others (bare_parts ps)) (sp ∷ whole ∷ []))) ++ (sign ")" ∷ sp ∷ put (statement r) ∷ [])) ≡ test_pieces (behind_test r) ps
rejoined r ps = ap (goes_to Expression true Any) (append_assoc (given (bare_parts ps) (sp ∷ whole ∷ [])) (sign ";" ∷ given (others (bare_parts ps)) (sp ∷ whole ∷ [])) (sign ")" ∷ sp ∷ put (statement r) ∷ []))

of_in : codes "of" ≡ codes "in" → ⊥
of_in e = false≢true (ap (λ w. is w "in") e)

module _ (S : Type 0) (Next : S → Token → S → Type 0) (behind : S → Token) (det : IsDetermined S Next behind) where
  -- the token behind the first part tells the kind of the loop
  pub data HeadToken (k : S) : Kind → Type 0 where
    in_token : Worded S Next behind det (codes "in") k → HeadToken k ForInStatement
    of_token : Worded S Next behind det (codes "of") k → HeadToken k ForOfStatement
    semicolon_token : Parted S Next behind det k → HeadToken k ForStatement

  pub token_ends : {c : Kind} {k : S} → HeadToken k c → HeadEnds S Next behind det k
  token_ends (in_token w) = at_in w
  token_ends (of_token w) = at_of w
  token_ends (semicolon_token w) = at_semicolon w

  pub tokens_same : {c d : Kind} {k : S} → HeadToken k c → HeadToken k d → d ≡ c
  tokens_same (in_token v) (in_token w) = refl
  tokens_same (of_token v) (of_token w) = refl
  tokens_same (semicolon_token v) (semicolon_token w) = refl
  tokens_same (in_token v) (of_token w) = absurd (of_in (two_words S Next behind det w.reads v.reads).0)
  tokens_same (of_token v) (in_token w) = absurd (of_in (two_words S Next behind det v.reads w.reads).0)
  tokens_same (in_token v) (semicolon_token w) = absurd (name_or_sign S Next behind det refl v.reads w.reads)
  tokens_same (of_token v) (semicolon_token w) = absurd (name_or_sign S Next behind det refl v.reads w.reads)
  tokens_same (semicolon_token w) (in_token v) = absurd (name_or_sign S Next behind det refl v.reads w.reads)
  tokens_same (semicolon_token w) (of_token v) = absurd (name_or_sign S Next behind det refl v.reads w.reads)

  -- what a loop begins with behind its `(`: a part no higher than hi, or none before `;`
  pub data LoopHead (c : Kind) (hi : ℕ) (o : ℕ) (s : S) : Type 0 where
    headed : {n : Tree} {k : S} {A : List Pair} → height n ≤ hi → HeadPart S Next behind det o n s k A → HeadToken k c → LoopHead c hi o s
    unheaded : c ≡ ForStatement → Parted S Next behind det s → LoopHead c hi o s

  -- behind the `(` of a loop with `in` or `of`
  pub record LeftLoop (w : List ℕ) (y : Rank) (r : Bool) (o : ℕ) (ps : Parts) (s e : S) (P : List Pair) : Type 0 where
    pub left : Tree
    pub right : Tree
    pub body : Tree
    pub k : S
    pub m : S
    pub k1 : S
    pub m1 : S
    pub t : Token
    pub t1 : Token
    pub one : List Pair
    pub two : List Pair
    pub three : List Pair
    pub stands : LeftPart S Next behind det o left s k one
    pub word : Reads S Next behind IdentifierName w k t m
    pub spelled : Spells ways S Next behind o (expr y true Any) right m k1 two
    pub closes : Reads S Next behind Punctuator (codes ")") k1 t1 m1
    pub last : Spells ways S Next behind o (statement r) body m1 e three
    pub parts : ps ≡ part left (part right (part body none))
    pub pairs : P ≡ one ++ (two ++ three)

  pub left_loop : {w : List ℕ} {y : Rank} {r : Bool} {o : ℕ} (ps : Parts) {s e : S} {P : List Pair} → Runs ways S Next behind o (left_pieces r w (put (expr y true Any)) ps) ps s e P → LeftLoop w y r o ps s e P
  left_loop none d = absurd (run_never S Next behind d)
  left_loop (gap ps) d = absurd (run_never S Next behind d)
  left_loop (part (node c w g st en qs) ps) d =
      let p = an_item S Next behind det (left_role c) d in
      let t = run_token S Next behind (run_laid S Next behind p.runs) in
      let v = run_part S Next behind (run_laid S Next behind t.runs) in
      let t1 = run_token S Next behind v.runs in
      let l = last_part S Next behind det (run_laid S Next behind t1.runs) in
      record {
        left = node c w g st en qs;
        right = v.item;
        body = l.item;
        k = p.mid;
        m = t.mid;
        k1 = v.mid;
        m1 = t1.mid;
        t = t.sign;
        t1 = t1.sign;
        one = p.one;
        two = v.one;
        three = v.more;
        stands = left_part S Next behind det (node c w g st en qs) p.it_is p.spelled;
        word = t.reads;
        spelled = v.spelled;
        closes = t1.reads;
        last = l.spelled;
        parts = ap (part (node c w g st en qs)) (v.parts ∙ ap (part v.item) l.parts);
        pairs = p.pairs ∙ ap (λ x. p.one ++ x) v.pairs;
      }

  -- a first part or none; a test or none
  pub data First (o : ℕ) (s : S) : (Parts → Parts) → S → List Pair → Type 0 where
    a_first : {n : Tree} {k : S} {A : List Pair} → FirstPart S Next behind det o n s k A → First o s (part n) k A
    no_first : First o s gap s []

  pub data Test (o : ℕ) (s : S) : (Parts → Parts) → S → List Pair → Type 0 where
    a_test : {n : Tree} {k : S} {A : List Pair} → Spells ways S Next behind o (expr Expression true Any) n s k A → Test o s (part n) k A
    no_test : Test o s gap s []

  pub first_high : {o : ℕ} {s k : S} {f : Parts → Parts} {A : List Pair} → First o s f k A → (qs : Parts) → (parts_height (f none) ≤ parts_height (f qs)) × (parts_height qs ≤ parts_height (f qs))
  first_high (a_first d) qs = (omega arith, omega arith)
  first_high no_first qs = (omega arith, omega arith)

  pub test_high : {o : ℕ} {s k : S} {f : Parts → Parts} {A : List Pair} → Test o s f k A → (qs : Parts) → (parts_height (f none) ≤ parts_height (f qs)) × (parts_height qs ≤ parts_height (f qs))
  test_high (a_test d) qs = (omega arith, omega arith)
  test_high no_test qs = (omega arith, omega arith)

  -- it ends as its statement does
  pub loop_ends : {o : ℕ} {s k s1 k1 s2 k2 : S} {f f1 f2 : Parts → Parts} {A A1 A2 : List Pair} (b : Tree) → First o s f k A → Test o s1 f1 k1 A1 → Test o s2 f2 k2 A2 → last_ends_in_if (f (f1 (f2 (part b none)))) ≡ ends_in_if b
  loop_ends b (a_first x) (a_test y) (a_test z) = refl
  loop_ends b (a_first x) (a_test y) no_test = refl
  loop_ends b (a_first x) no_test (a_test z) = refl
  loop_ends b (a_first x) no_test no_test = refl
  loop_ends b no_first (a_test y) (a_test z) = refl
  loop_ends b no_first (a_test y) no_test = refl
  loop_ends b no_first no_test (a_test z) = refl
  loop_ends b no_first no_test no_test = refl

  -- behind the `(` of a loop with `;`
  pub record TestLoop (r : Bool) (o : ℕ) (ps : Parts) (s e : S) (P : List Pair) : Type 0 where
    pub f : Parts → Parts
    pub f1 : Parts → Parts
    pub f2 : Parts → Parts
    pub body : Tree
    pub k : S
    pub m : S
    pub k1 : S
    pub m1 : S
    pub k2 : S
    pub m2 : S
    pub t : Token
    pub t1 : Token
    pub t2 : Token
    pub one : List Pair
    pub two : List Pair
    pub three : List Pair
    pub four : List Pair
    pub initial : First o s f k one
    pub parted : Reads S Next behind Punctuator (codes ";") k t m
    pub test : Test o m f1 k1 two
    pub parted_again : Reads S Next behind Punctuator (codes ";") k1 t1 m1
    pub update : Test o m1 f2 k2 three
    pub closes : Reads S Next behind Punctuator (codes ")") k2 t2 m2
    pub last : Spells ways S Next behind o (statement r) body m2 e four
    pub parts : ps ≡ f (f1 (f2 (part body none)))
    pub pairs : P ≡ one ++ (two ++ (three ++ four))

  record TestRuns (after : Parts → List Piece) (o : ℕ) (ps : Parts) (s e : S) (P : List Pair) : Type 0 where
    f : Parts → Parts
    place : S
    one : List Pair
    more : List Pair
    rest : Parts
    test : Test o s f place one
    parts : ps ≡ f rest
    pairs : P ≡ one ++ more
    runs : Runs ways S Next behind o (goes_to Expression true Any (after (bare_parts rest))) rest place e more

  test_runs : (after : Parts → List Piece) {o : ℕ} (ps : Parts) {s e : S} {P : List Pair} → Runs ways S Next behind o (test_pieces after ps) ps s e P → TestRuns after o ps s e P
  test_runs after none d = absurd (run_never S Next behind d)
  test_runs after (part n ps) d =
      let v = run_the_part S Next behind (run_laid S Next behind d) in
      record { f = part n; place = v.mid; one = v.one; more = v.more; rest = ps; test = a_test v.spelled; parts = refl; pairs = v.pairs; runs = v.runs }
  test_runs after (gap ps) {s} {e} {P} d = record { f = gap; place = s; one = []; more = P; rest = ps; test = no_test; parts = refl; pairs = refl; runs = run_the_gap S Next behind d }

  record FirstRuns (r : Bool) (o : ℕ) (ps : Parts) (s e : S) (P : List Pair) : Type 0 where
    f : Parts → Parts
    place : S
    one : List Pair
    more : List Pair
    rest : Parts
    initial : First o s f place one
    parts : ps ≡ f rest
    pairs : P ≡ one ++ more
    sign : Token
    mid : S
    reads : Reads S Next behind Punctuator (codes ";") place sign mid
    runs : Runs ways S Next behind o (test_pieces (behind_test r) rest) rest mid e more

  first_runs : {r : Bool} {o : ℕ} (ps : Parts) {s e : S} {P : List Pair} → Runs ways S Next behind o (initial_pieces r ps) ps s e P → FirstRuns r o ps s e P
  first_runs none d = absurd (run_never S Next behind d)
  first_runs {r} (part (node c w g st en qs) ps) d =
      let p = an_item S Next behind det (first_role c) d in
      let t = run_token S Next behind p.runs in
      record {
        f = part (node c w g st en qs);
        place = p.mid;
        one = p.one;
        more = p.more;
        rest = ps;
        initial = a_first (first_part S Next behind det (node c w g st en qs) p.it_is p.spelled);
        parts = refl;
        pairs = p.pairs;
        sign = t.sign;
        mid = t.mid;
        reads = t.reads;
        runs = retell S Next behind (rejoined r ps) t.runs;
      }
  first_runs {r} (gap ps) {s} {e} {P} d =
      let t = run_token S Next behind (run_the_gap S Next behind d) in
      record { f = gap; place = s; one = []; more = P; rest = ps; initial = no_first; parts = refl; pairs = refl; sign = t.sign; mid = t.mid; reads = t.reads; runs = retell S Next behind (rejoined r ps) t.runs }

  pub test_loop : {r : Bool} {o : ℕ} (ps : Parts) {s e : S} {P : List Pair} → Runs ways S Next behind o (initial_pieces r ps) ps s e P → TestLoop r o ps s e P
  test_loop {r} ps d =
      let a = first_runs ps d in
      let b = test_runs (behind_test r) a.rest a.runs in
      let s1 = run_token S Next behind b.runs in
      let c = test_runs (behind_update r) b.rest s1.runs in
      let s2 = run_token S Next behind c.runs in
      let l = last_part S Next behind det (run_laid S Next behind s2.runs) in
      record {
        f = a.f;
        f1 = b.f;
        f2 = c.f;
        body = l.item;
        k = a.place;
        m = a.mid;
        k1 = b.place;
        m1 = s1.mid;
        k2 = c.place;
        m2 = s2.mid;
        t = a.sign;
        t1 = s1.sign;
        t2 = s2.sign;
        one = a.one;
        two = b.one;
        three = c.one;
        four = c.more;
        initial = a.initial;
        parted = a.reads;
        test = b.test;
        parted_again = s1.reads;
        update = c.test;
        closes = s2.reads;
        last = l.spelled;
        parts = a.parts ∙ ap a.f (b.parts ∙ ap b.f (c.parts ∙ ap c.f l.parts));
        pairs = a.pairs ∙ ap (λ x. a.one ++ x) (b.pairs ∙ ap (λ x. b.one ++ x) c.pairs);
      }

  -- what any loop begins with
  pub record LoopBegins (c : Kind) (hi : ℕ) (o : ℕ) (s : S) : Type 0 where
    pub sign : Token
    pub mid : S
    pub reads : Reads S Next behind Punctuator (codes "(") s sign mid
    pub begins : LoopHead c hi o mid

  -- no other name stands before this word, behind which an expression stands
  abbrev pub BeforeWord : List ℕ → Rank → Type 0
  BeforeWord w y = (o : ℕ) (n : Tree) (k m e : S) (t : Token) (P : List Pair) → Reads S Next behind IdentifierName w k t m → Spells ways S Next behind o (expr y true Any) n m e P → Apart S Next behind k

  pub before_in : {y : Rank} → BeforeWord (codes "in") y
  before_in o n k m e t P r d = apart_in S Next behind det r

  pub before_of : {y : Rank} → BeforeWord (codes "of") y
  before_of o n k m e t P r d = apart_of S Next behind det r (no_arrow_begins S Next behind det d)

  left_head : {w : List ℕ} {y : Rank} {r : Bool} {o : ℕ} {ps : Parts} {s e : S} {P : List Pair} {c : Kind} → BeforeWord w y → ((k : S) → Worded S Next behind det w k → HeadToken k c) → LeftLoop w y r o ps s e P → LoopHead c (parts_height ps) o s
  left_head {ps = ps} before tells l =
      let high : parts_height ps ≡ parts_height (part l.left (part l.right (part l.body none))) = ap parts_height l.parts in
      headed (omega arith) (of_left S Next behind det l.stands) (tells l.k (record { sign = l.t; mid = l.m; reads = l.word; apart = before _ _ _ _ _ _ _ l.word l.spelled }))

  test_head : {r : Bool} {o : ℕ} {ps : Parts} {s e : S} {P : List Pair} → TestLoop r o ps s e P → LoopHead ForStatement (parts_height ps) o s
  test_head {r} {o} {ps} {s} {e} {P} l =
      let high : parts_height ps ≡ parts_height (l.f (l.f1 (l.f2 (part l.body none)))) = ap parts_height l.parts in
      let low = (first_high l.initial (l.f1 (l.f2 (part l.body none)))).0 in
      of l.initial l.parted (omega arith)
    where
      of : {f : Parts → Parts} {k m : S} {A : List Pair} {t : Token} → First o s f k A → Reads S Next behind Punctuator (codes ";") k t m → parts_height (f none) ≤ parts_height ps → LoopHead ForStatement (parts_height ps) o s
      of {m = m} {t = t} (a_first d) r low = headed (omega arith) (of_first S Next behind det d) (semicolon_token (record { sign = t; mid = m; reads = r }))
      of {m = m} {t = t} no_first r low = unheaded refl (record { sign = t; mid = m; reads = r })

  begins_by : (r : Bool) {o : ℕ} {c : Kind} {ps : Parts} {s e : S} {P : List Pair} → LoopKind c → Runs ways S Next behind o (goes_to Expression true Any (behind_own r c (bare_parts ps))) ps s e P → LoopBegins c (parts_height ps) o s
  begins_by r {ps} a_loop d = let a = run_token S Next behind (run_laid S Next behind d) in record { sign = a.sign; mid = a.mid; reads = a.reads; begins = test_head (test_loop ps a.runs) }
  begins_by r {ps} a_loop_in d = let a = run_token S Next behind (run_laid S Next behind d) in record { sign = a.sign; mid = a.mid; reads = a.reads; begins = left_head before_in (λ k w. in_token w) (left_loop {y = Expression} ps a.runs) }
  begins_by r {ps} a_loop_of d = let a = run_token S Next behind (run_laid S Next behind d) in record { sign = a.sign; mid = a.mid; reads = a.reads; begins = left_head before_of (λ k w. of_token w) (left_loop {y = Assignment} ps a.runs) }

  pub loop_begins : (r : Bool) {o : ℕ} (c : Kind) {ps : Parts} {s e : S} {P : List Pair} → begins_as c ≡ a_for → Runs ways S Next behind o (goes_to Expression true Any (behind_own r c (bare_parts ps))) ps s e P → LoopBegins c (parts_height ps) o s
  loop_begins r c loop d = begins_by r (loop_kind c loop) d
