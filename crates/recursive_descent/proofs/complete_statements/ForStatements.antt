-- A `for` that is given: what stands first in its head, what follows it there, and the pieces behind that (ECMA-262 13.7).
use Rattle.std.proofs.Common.{◌≡◌, inl, inr, ℕ, Bool, true, false, cond, List, [], ◌∷◌, ◌++◌, Some, refl, sym, ap, ◌∙◌, subst}
use Rattle.std.specs.Prelude.{IsTrue, codes, ◌&&◌, Option}
use Rattle.std.proofs.lemmas.List.{append-nil}
use Rattle.tokens.specs.declared.token.TokenClass.TheVariants.{IdentifierName, Punctuator}
use Rattle.tokens.specs.declared.token.Goal.{Goal}
use Rattle.tokens.specs.declared.token.Goal.TheVariants.{Div}
use Rattle.tokens.specs.Goals.{allows}
use Rattle.tree.specs.declared.kind.Kind.TheVariants as kind
use Rattle.tree.specs.declared.kind.Pair.{Pair}
use Rattle.tree.specs.Tree.{Tree, node, Parts, none, part, gap, join, bare_parts, kind_of}
use Rattle.language.specs.declared.Edge.{Edge}
use Rattle.language.specs.declared.Rank.{Rank}
use Rattle.language.specs.declared.Rank.TheVariants.{Expression, Assignment}
use Rattle.language.specs.declared.Start.TheVariants.{Any}
use Rattle.language.specs.Vocabulary.{among}
use Rattle.language.specs.Edges.{edge, edge_as_written, last_ends_in_if}
use Rattle.language.specs.Following.{Followed}
use Rattle.language.specs.ExpressionStart.{no_start, expression_start_by}
use Rattle.language.specs.Pieces.{Role, expr, head, bound, put}
use Rattle.language.specs.Statements.{is_declaration}
use Rattle.language.specs.Token.{Token, same_class}
use Rattle.language.specs.Promises.{Apart}
use Rattle.language.specs.Derivation.{Reads}
use Rattle.language.proofs.list_loops.CommaLists.{an_item}
use Rattle.language.proofs.statements.StatementFollow.{idle_stops}
use Rattle.language.proofs.statements.ForHeads.{left_role, left_pieces}
use Rattle.language.proofs.table.TokenFirstWays.{opens}
use Rattle.language.proofs.list_loops.FirstPieces.{run_token, run_laid, run_never, run_part}
use Rattle.language.proofs.table.StatementWays.{behind_own}
use Rattle.language.proofs.climbing.Supers.{none_begins, no_arrow_begins}
use Rattle.language.proofs.climbing.NamesBehind.{apart_in, apart_of}
use Rattle.token_cursor.proofs.SeenTokens.{seen_determined}
use Rattle.unambiguity_laws.proofs.statements.ForFirstParts.{first_declared, first_expression}
use Rattle.unambiguity_laws.proofs.statements.ForParts.{First, a_first, no_first, Test, a_test, no_test, test_loop, loop_ends}
use Rattle.parser_tables.specs.StatementStarts.{KindFollowed}
use Rattle.recursive_descent.specs.Soundness.{RunsIn, anywhere}
use Rattle.recursive_descent.specs.CompletenessOfStatements.{HeadGiven, a_declaration, an_expression, a_target}
use Rattle.parser_tables.specs.StatementSymbols as Parsed
use Rattle.parser_tables.specs.StatementSymbols.{statement_parts}
use Rattle.token_cursor.specs.Seen.{ReadsHere, SeesBy, MissesBy, Sees, Misses}
use Rattle.parser_tables.specs.Tests.{is_each}
use Rattle.parser_tables.specs.declared.statements.StatementKind.{StatementKind}
use Rattle.parser_tables.specs.declared.statements.StatementKind.TheVariants as headed
use Rattle.recursive_descent.proofs.complete_expressions.Agreement.{read_here}
use Rattle.token_cursor.proofs.TokensAhead.{name_by, mark_by}
use Rattle.recursive_descent.proofs.complete_statements.SymbolSteps as Steps
use Rattle.recursive_descent.proofs.complete_statements.SymbolSteps.{PiecesFrom, pieces_as, no_pieces, mark_first, word_first, put_first, gap_first, a_statement, last_part, last_statement}
use Rattle.token_cursor.specs.SourceText.{SourceText, SeenNext, behind_in}
use Rattle.recursive_descent.specs.Spelled.{SpellsIn}

-- a `for`, by what follows what stands first in its head
pub record ForGiven (text : SourceText) (r : Bool) (o : ℕ) (what : StatementKind) (x : Edge) (ps : Parts) (m e : Token) (P : List Pair) : Type 0 where
  pub lead : Parts
  pub others : Parts
  pub mid : Token
  pub one : List Pair
  pub more : List Pair
  pub parts : ps ≡ join lead others
  pub pairs : P ≡ one ++ more
  pub head : PiecesFrom text r o (statement_parts headed.For r) m mid x lead one
  pub followed : KindFollowed text mid what
  pub behind : (y : Edge) → PiecesFrom text r o (statement_parts what r) mid e y others more

some_role : {a b : Role} → ◌≡◌ {A = Option Role} (Some a) (Some b) → a ≡ b
some_role h = cc

module _ (text : SourceText) where
  abbrev FollowedBy : Bool → Token → Type 0
  FollowedBy = Followed Token (SeenNext text) (behind_in text)

  sees_each : {w : List ℕ} {k t : Token} → among w ("in" ∷ "of" ∷ []) ≡ true → ReadsHere text IdentifierName w k t → SeesBy text Div is_each k
  sees_each {t = t} each read = (t, (name_by text read, ap (λ c. same_class IdentifierName c && among t.text ("in" ∷ "of" ∷ [])) read.class ∙ ap (λ v. among v ("in" ∷ "of" ∷ [])) read.text ∙ each))

  misses_each : {k t m : Token} → Reads Token (SeenNext text) (behind_in text) Punctuator (codes ";") k t m → MissesBy text Div is_each k
  misses_each {k} {t} {m} read u j by =
      let a = mark_by text read in
      let same = ((seen_determined text).same Div k u t j m by.next a.next by.allowed a.allowed).0 in
      ap is_each same ∙ ap (λ c. same_class IdentifierName c && among t.text ("in" ∷ "of" ∷ [])) read.class

  -- behind what stands before this word and an expression no other name stands
  abbrev BeforeWord : List ℕ → Rank → Type 0
  BeforeWord w y = (o : ℕ) (n : Tree) (k m e t : Token) (P : List Pair) → Reads Token (SeenNext text) (behind_in text) IdentifierName w k t m → SpellsIn text o (expr y true Any) n m e P → Apart Token (SeenNext text) (behind_in text) k

  of_apart : {y : Rank} → BeforeWord (codes "of") y
  of_apart o n k m e t P r d = apart_of Token (SeenNext text) (behind_in text) (seen_determined text) r (no_arrow_begins Token (SeenNext text) (behind_in text) (seen_determined text) d)

-- what stands first before `;`, or nothing
record FirstGiven (text : SourceText) (r : Bool) (o : ℕ) (x : Edge) (f : Parts → Parts) (s k : Token) (A : List Pair) : Type 0 where
  given : PiecesFrom text r o (Parsed.head ∷ []) s k x (f none) A
  joined : (qs : Parts) → f qs ≡ join (f none) qs

module _ (text : SourceText) (r : Bool) {o : ℕ} where
  -- the left side before `in` or `of`
  left_head : {a : Role} {n : Tree} {s k : Token} {P : List Pair} → left_role (kind_of n) ≡ Some a → SpellsIn text o a n s k P → SeesBy text Div is_each k → Apart Token (SeenNext text) (behind_in text) k → HeadGiven text o s k (part n none) P
  left_head {a} {n} {s} {k} {P} is spelled each apart = of (is_declaration (kind_of n)) is
    where
      of : (b : Bool) → cond b (Some (head false)) (bound false (kind_of n)) ≡ Some a → HeadGiven text o s k (part n none) P
      of true h = a_declaration true each (λ c. cc) (λ c. apart) (record { put = n; parts = refl; spelled = subst (λ c. SpellsIn text o c n s k P) (sym (some_role h)) spelled })
      of false h = a_target each apart (record { put = n; parts = refl; target = record { role = a; it_is = h; spelled = spelled } })

  module _ {m e : Token} {P : List Pair} where
    -- before `in` or `of`
    left_given : (what : StatementKind) (w : List ℕ) (q : Parsed.Piece) (y : Rank) (x : Edge) (ps : Parts) {s : Token} → statement_parts what r ≡ Parsed.word w ∷ q ∷ Parsed.sign ")" ∷ Parsed.statement ∷ [] → among w ("in" ∷ "of" ∷ []) ≡ true → ((k : Token) → Sees text IdentifierName w k → KindFollowed text k what) → BeforeWord text w y →
        ((n : Tree) (a b t k : Token) (A : List Pair) (z : Edge) → SpellsIn text o (expr y true Any) n a b A → Reads Token (SeenNext text) (behind_in text) Punctuator (codes ")") b t k → Rattle.recursive_descent.specs.CompletenessOfStatements.PieceGiven text r o q a b z (edge_as_written (edge n) b) (part n none) A) →
        ReadsHere text Punctuator (codes "(") m s → FollowedBy text (last_ends_in_if ps) e → RunsIn text o (left_pieces r w (put (expr y true Any)) ps) ps s e P → ForGiven text r o what x ps m e P
    left_given what w q y x none is each follows before asked left fine d = absurd (run_never Token (SeenNext text) (behind_in text) d)
    left_given what w q y x (gap ps) is each follows before asked left fine d = absurd (run_never Token (SeenNext text) (behind_in text) d)
    left_given what w q y x (part (node c v g st en qs) ps) is each follows before asked left fine d =
        let n : Tree = node c v g st en qs in
        let p = an_item Token (SeenNext text) (behind_in text) (seen_determined text) (left_role c) d in
        let t = run_token Token (SeenNext text) (behind_in text) (run_laid Token (SeenNext text) (behind_in text) p.runs) in
        let u = run_part Token (SeenNext text) (behind_in text) (run_laid Token (SeenNext text) (behind_in text) t.runs) in
        let t1 = run_token Token (SeenNext text) (behind_in text) u.runs in
        let l = last_part text (run_laid Token (SeenNext text) (behind_in text) t1.runs) in
        let word = read_here text t.reads in
        let last : FollowedBy text (Rattle.language.specs.Edges.ends_in_if l.item) e = subst (λ b. FollowedBy text b e) (ap (λ k. last_ends_in_if (part n k)) (u.parts ∙ ap (part u.item) l.parts)) fine in
        record {
          lead = part n none;
          others = ps;
          mid = p.mid;
          one = p.one;
          more = p.more;
          parts = refl;
          pairs = p.pairs;
          head = mark_first left (pieces_as refl (sym (append-nil p.one)) (put_first {q = Parsed.head} x p.one (inl (left_head p.it_is p.spelled (sees_each text each word) (before o u.item p.mid t.mid u.mid t.sign u.one t.reads u.spelled))) (no_pieces refl refl refl)));
          followed = follows p.mid (t.mid, word);
          behind = λ z. subst (λ k. PiecesFrom text r o k p.mid e z ps p.more) (sym is) (word_first word (pieces_as u.parts u.pairs (put_first {q = q} (edge_as_written (edge u.item) u.mid) u.one (asked u.item _ _ _ _ _ z u.spelled t1.reads) (mark_first (read_here text t1.reads) (last_statement text (edge_as_written (edge u.item) u.mid) l last)))));
        }

    pub for_in_given : (x : Edge) (ps : Parts) → FollowedBy text (last_ends_in_if ps) e → RunsIn text o (anywhere (behind_own r kind.ForInStatement (bare_parts ps))) ps m e P → ForGiven text r o headed.ForIn x ps m e P
    for_in_given x ps fine d =
        let a = run_token Token (SeenNext text) (behind_in text) (run_laid Token (SeenNext text) (behind_in text) d) in
        left_given headed.ForIn (codes "in") Parsed.expression Expression x ps refl refl (λ k s. s) (λ o n k m e t P r d. apart_in Token (SeenNext text) (behind_in text) (seen_determined text) r) (λ n a b t k A z spelled read. Steps.an_expression spelled (idle_stops Token (SeenNext text) (behind_in text) (seen_determined text) Expression true n refl (λ v b. refl) read)) (read_here text a.reads) fine a.runs

    pub for_of_given : (x : Edge) (ps : Parts) → FollowedBy text (last_ends_in_if ps) e → RunsIn text o (anywhere (behind_own r kind.ForOfStatement (bare_parts ps))) ps m e P → ForGiven text r o headed.ForOf x ps m e P
    for_of_given x ps fine d =
        let a = run_token Token (SeenNext text) (behind_in text) (run_laid Token (SeenNext text) (behind_in text) d) in
        left_given headed.ForOf (codes "of") Parsed.assignment Assignment x ps refl refl (λ k s. s) (of_apart text) (λ n a b t k A z spelled read. Steps.an_expression spelled (idle_stops Token (SeenNext text) (behind_in text) (seen_determined text) Assignment true n refl (λ v b. refl) read)) (read_here text a.reads) fine a.runs

  first_given : (x : Edge) {f : Parts → Parts} {s k t m : Token} {A : List Pair} → First Token (SeenNext text) (behind_in text) (seen_determined text) o s f k A → Reads Token (SeenNext text) (behind_in text) Punctuator (codes ";") k t m → FirstGiven text r o x f s k A
  first_given x {m = m} {A = A} (a_first {n} {k} (first_declared d)) read = record {
    given = pieces_as refl (sym (append-nil A)) (put_first {q = Parsed.head} x A (inl (a_declaration false (misses_each text read) (λ h. (m, read_here text read)) (λ h. cc) (record { put = n; parts = refl; spelled = d }))) (no_pieces refl refl refl));
    joined = λ qs. refl;
  }
  first_given x {m = m} {A = A} (a_first {n} {k} (first_expression d)) read = record {
    given = pieces_as refl (sym (append-nil A)) (put_first {q = Parsed.head} x A (inl (an_expression {x = edge_as_written (edge n) k} (m, read_here text read) (record { put = n; parts = refl; right = refl; spelled = d; stopped = idle_stops Token (SeenNext text) (behind_in text) (seen_determined text) Expression false n refl (λ v b. refl) read }))) (no_pieces refl refl refl));
    joined = λ qs. refl;
  }
  first_given x {m = m} no_first read = record { given = gap_first {q = Parsed.head} (inr ((refl, refl, refl, refl), (m, read_here text read))) (no_pieces refl refl refl); joined = λ qs. refl }

  -- no expression begins with such a sign
  no_sign : {w : List ℕ} {n : Tree} {s e : Token} {P : List Pair} → IsTrue (allows Goal.RegExp Punctuator w) → expression_start_by Punctuator w ≡ no_start → SpellsIn text o (expr Expression true Any) n s e P → Misses text Punctuator w s
  no_sign al shut d t m read =
      none_begins Token (SeenNext text) (behind_in text) (seen_determined text) (record { next = read.next; allowed = subst (λ c. IsTrue (allows Goal.RegExp c t.text)) (sym read.class) (subst (λ z. IsTrue (allows Goal.RegExp Punctuator z)) (sym read.text) al) }) (opens t read.class read.text shut) d

  -- a test or none before `;`, and what is done behind each turn, or nothing, before `)`
  test_first : {f : Parts → Parts} {qs : List Parsed.Piece} {s k e t m : Token} (x : Edge) {ps : Parts} {A B : List Pair} → Test Token (SeenNext text) (behind_in text) (seen_determined text) o s f k A → Reads Token (SeenNext text) (behind_in text) Punctuator (codes ";") k t m →
      ((y : Edge) → PiecesFrom text r o qs k e y ps B) → PiecesFrom text r o (Parsed.test ∷ qs) s e x (f ps) (A ++ B)
  test_first {k = k} x {A = A} (a_test {n} d) read behind = put_first {q = Parsed.test} (edge_as_written (edge n) k) A (inl (Steps.an_expression d (idle_stops Token (SeenNext text) (behind_in text) (seen_determined text) Expression true n refl (λ v b. refl) read), no_sign refl refl d)) (behind (edge_as_written (edge n) k))
  test_first {m = m} x no_test read behind = gap_first {q = Parsed.test} (inr ((refl, refl, refl, refl), (m, read_here text read))) (behind x)

  update_first : {f : Parts → Parts} {qs : List Parsed.Piece} {s k e t m : Token} (x : Edge) {ps : Parts} {A B : List Pair} → Test Token (SeenNext text) (behind_in text) (seen_determined text) o s f k A → Reads Token (SeenNext text) (behind_in text) Punctuator (codes ")") k t m →
      ((y : Edge) → PiecesFrom text r o qs k e y ps B) → PiecesFrom text r o (Parsed.update ∷ qs) s e x (f ps) (A ++ B)
  update_first {k = k} x {A = A} (a_test {n} d) read behind = put_first {q = Parsed.update} (edge_as_written (edge n) k) A (inl (Steps.an_expression d (idle_stops Token (SeenNext text) (behind_in text) (seen_determined text) Expression true n refl (λ v b. refl) read), no_sign refl refl d)) (behind (edge_as_written (edge n) k))
  update_first {m = m} x no_test read behind = gap_first {q = Parsed.update} (inr ((refl, refl, refl, refl), (m, read_here text read))) (behind x)

  pub for_loop_given : {m e : Token} {P : List Pair} (x : Edge) (ps : Parts) → FollowedBy text (last_ends_in_if ps) e → RunsIn text o (anywhere (behind_own r kind.ForStatement (bare_parts ps))) ps m e P → ForGiven text r o headed.ForLoop x ps m e P
  for_loop_given {e = e} x ps fine d =
      let a = run_token Token (SeenNext text) (behind_in text) (run_laid Token (SeenNext text) (behind_in text) d) in
      let l = test_loop Token (SeenNext text) (behind_in text) (seen_determined text) {r = r} ps a.runs in
      let h = first_given x l.initial l.parted in
      let last = subst (λ b. FollowedBy text b e) (ap last_ends_in_if l.parts ∙ loop_ends Token (SeenNext text) (behind_in text) (seen_determined text) l.body l.initial l.test l.update) fine in
      record {
        lead = l.f none;
        others = l.f1 (l.f2 (part l.body none));
        mid = l.k;
        one = l.one;
        more = l.two ++ (l.three ++ l.four);
        parts = l.parts ∙ h.joined (l.f1 (l.f2 (part l.body none)));
        pairs = l.pairs;
        head = mark_first (read_here text a.reads) h.given;
        followed = (l.m, read_here text l.parted);
        behind = λ z. mark_first (read_here text l.parted) (test_first z l.test l.parted_again (λ y. mark_first (read_here text l.parted_again) (update_first y l.update l.closes (λ w. mark_first (read_here text l.closes)
            (pieces_as refl (sym (append-nil l.four)) (put_first {q = Parsed.statement} w l.four (a_statement l.last last) (no_pieces refl refl refl)))))));
      }
