-- Given blocks, bodies of functions and classes, and handlers, as their tokens and what stands between them (ECMA-262 13.2, 13.15, 14.1, 14.6).
use Rattle.std.proofs.Common.{◌≡◌, ℕ, Bool, true, false, cond, List, [], ◌∷◌, ◌++◌, refl, sym, ap, ◌∙◌, subst, append_assoc, inl, inr}
use Rattle.std.specs.Prelude.{codes, ◌&&◌}
use Rattle.std.proofs.lemmas.Bool.{false≢true}
use Rattle.std.proofs.lemmas.List.{append-nil}
use Rattle.tokens.specs.declared.token.TokenClass.TheVariants.{IdentifierName, Punctuator}
use Rattle.tree.specs.declared.kind.Kind.{Kind}
use Rattle.tree.specs.declared.kind.Kind.TheVariants.{BlockStatement, ClassBody, CatchClause}
use Rattle.tree.specs.declared.kind.Pair.{Pair}
use Rattle.tree.specs.Tree.{Tree, node, plain, Parts, none, part, gap, bare, bare_parts}
use Rattle.language.specs.Pieces.{Role, block, body, class_body, handler, item, bound, line, deeper, shallower, Piece, many, lay, put, sign, is_none}
use Rattle.language.specs.Statements.{prologue, lines, is_directive, member_lines}
use Rattle.language.specs.Token.{Token}
use Rattle.language.specs.declared.Edge.{Edge}
use Rattle.language.specs.Vocabulary.{is}
use Rattle.language.specs.Derivation.{Reads, done, step, within, laid, Placed}
use Rattle.language.proofs.statements.Blocks.{one_block, one_body, one_class_body, one_handler, handler_pieces}
use Rattle.language.proofs.table.OneKind.{OneKind, one_kind}
use Rattle.language.proofs.list_loops.CommaLists.{an_item}
use Rattle.language.proofs.list_loops.FirstPieces.{run_never, run_none, run_token, run_laid, run_the_part, run_the_gap}
use Rattle.language.proofs.table.SoleWays.{same_span, place_node}
use Rattle.language.proofs.table.StatementWays.{behind_brace}
use Rattle.token_cursor.proofs.SeenTokens.{seen_determined}
use Rattle.unambiguity_laws.proofs.statements.Tries.{last_part}
use Rattle.recursive_descent.specs.Soundness.{RunsIn, anywhere, SpelledAs}
use Rattle.recursive_descent.specs.CompletenessOfStatements.{PiecesGiven, has_edges}
use Rattle.language.proofs.climbing.NamesBehind.{apart_sign}
use Rattle.parser_tables.specs.StatementSymbols.{CatchParts}
use Rattle.parser_tables.specs.StatementSymbols as Parsed
use Rattle.token_cursor.specs.Seen.{ReadsHere, Sees}
use Rattle.recursive_descent.proofs.complete_expressions.Agreement.{read_here, marks_same, not_missed}
use Rattle.token_cursor.specs.SourceText.{SourceText, SeenNext, behind_in}
use Rattle.recursive_descent.specs.Spelled.{SpellsIn}

directive_bare : (n : Tree) → is_directive (bare n) ≡ is_directive n
directive_bare (node k w g s e ps) = refl

no_directives : (r : Bool) (ps : Parts) → prologue r false (lay line ∷ []) [] ps ≡ lines (item r) ps
no_directives r none = refl
no_directives r (part n ps) = ap (λ qs. lay line ∷ put (item r) ∷ qs) (no_directives r ps)
no_directives r (gap ps) = refl

module _ (text : SourceText) where
  -- some pieces with all parts, and those behind them
  record Split (o : ℕ) (qs rest : List Piece) (ps : Parts) (s e : Token) (P : List Pair) : Type 0 where
    mid : Token
    one : List Pair
    more : List Pair
    runs : RunsIn text o (anywhere qs) ps s mid one
    last : RunsIn text o (anywhere rest) none mid e more
    pairs : P ≡ one ++ more

  prologue_split : {o : ℕ} (r b c : Bool) → c ≡ b → (ps : Parts) (rest : List Piece) {s e : Token} {P : List Pair} → RunsIn text o (anywhere (prologue r c (lay line ∷ []) [] (bare_parts ps) ++ rest)) ps s e P → Split o (prologue r b [] [] ps) rest ps s e P
  prologue_split r b c same none rest {s} {e} {P} d = record { mid = s; one = []; more = P; runs = done; last = d; pairs = refl }
  prologue_split {o} r b c same (part n ps) rest {s} d =
      let v = run_the_part Token (SeenNext text) (behind_in text) (run_laid Token (SeenNext text) (behind_in text) d) in
      let w = prologue_split {o = o} r (b && is_directive n) (c && is_directive (bare n)) (λ i. same i && directive_bare n i) ps rest v.runs in
      let first = subst (λ x. SpellsIn text o (cond x (Rattle.language.specs.Pieces.opening r) (item r)) n s v.mid v.one) same v.spelled in
      record { mid = w.mid; one = v.one ++ w.one; more = w.more; runs = within first w.runs; last = w.last; pairs = v.pairs ∙ ap (λ k. v.one ++ k) w.pairs ∙ sym (append_assoc v.one w.one w.more) }
  prologue_split r b c same (gap ps) rest d = absurd (run_never Token (SeenNext text) (behind_in text) d)

  members_split : {o : ℕ} (ps : Parts) (rest : List Piece) {s e : Token} {P : List Pair} → RunsIn text o (anywhere (member_lines (bare_parts ps) ++ rest)) ps s e P → Split o (member_lines ps) rest ps s e P
  members_split none rest {s} {e} {P} d = record { mid = s; one = []; more = P; runs = done; last = d; pairs = refl }
  members_split {o} (part n ps) rest (step laid (within {P = A} h (step semicolons g))) =
      let w = members_split {o = o} ps rest g in
      record { mid = w.mid; one = A ++ w.one; more = w.more; runs = step laid (within h (step semicolons w.runs)); last = w.last; pairs = ap (λ k. A ++ k) w.pairs ∙ sym (append_assoc A w.one w.more) }
  members_split (part n ps) rest (step laid (step x g)) = elim x [ ]
  members_split (gap ps) rest d = absurd (run_never Token (SeenNext text) (behind_in text) d)

  class_split : {o : ℕ} (ps : Parts) (rest : List Piece) {s e : Token} {P : List Pair} → RunsIn text o (anywhere ((many (codes ";") ∷ member_lines (bare_parts ps)) ++ rest)) ps s e P → Split o (many (codes ";") ∷ member_lines ps) rest ps s e P
  class_split ps rest (step semicolons d) = let w = members_split ps rest d in record { mid = w.mid; one = w.one; more = w.more; runs = step semicolons w.runs; last = w.last; pairs = w.pairs }

  abbrev closing : Bool → List Piece
  closing c = cond c [] (lay shallower ∷ lay line ∷ []) ++ sign "}" ∷ []

  -- the closing brace
  record Closed (s e : Token) (P : List Pair) : Type 0 where
    reads : ReadsHere text Punctuator (codes "}") s e
    pairs : P ≡ []

  brace_read : {o : ℕ} {s e : Token} {P : List Pair} → RunsIn text o (anywhere (sign "}" ∷ [])) none s e P → Closed s e P
  brace_read {s = s} d =
      let a = run_token Token (SeenNext text) (behind_in text) d in
      let z = run_none Token (SeenNext text) (behind_in text) a.runs in
      record { reads = read_here text (subst (λ x. Reads Token (SeenNext text) (behind_in text) Punctuator (codes "}") s a.sign x) z.place a.reads); pairs = z.pairs }

  brace_closed : {o : ℕ} (c : Bool) {s e : Token} {P : List Pair} → RunsIn text o (anywhere (closing c)) none s e P → Closed s e P
  brace_closed true d = brace_read d
  brace_closed false d = brace_read (run_laid Token (SeenNext text) (behind_in text) (run_laid Token (SeenNext text) (behind_in text) d))

  first_laid : {o : ℕ} (c : Bool) (qs : List Piece) {ps : Parts} {s e : Token} {P : List Pair} → RunsIn text o (anywhere (cond c [] (lay deeper ∷ []) ++ qs)) ps s e P → RunsIn text o (anywhere qs) ps s e P
  first_laid true qs d = d
  first_laid false qs d = run_laid Token (SeenNext text) (behind_in text) d

  -- what stands in braces
  inside_braces : {o : ℕ} (ps : Parts) (qs : List Piece) {rs : Parts} {s e : Token} {P : List Pair} → RunsIn text o (anywhere (behind_brace ps qs)) rs s e P → RunsIn text o (anywhere (qs ++ closing (is_none ps))) rs s e P
  inside_braces {o} ps qs {rs} {s} {e} {P} d =
      let first : List Piece = cond (is_none ps) [] (lay deeper ∷ []) in
      let last : List Piece = cond (is_none ps) [] (lay shallower ∷ lay line ∷ []) in
      first_laid (is_none ps) (qs ++ closing (is_none ps)) (subst (λ zs. RunsIn text o (anywhere zs) rs s e P) (append_assoc (first ++ qs) last (sign "}" ∷ []) ∙ append_assoc first qs (closing (is_none ps))) d)

  -- a node in braces: its kind, its tokens, and the pieces between them
  pub record Braced (k : Kind) (o : ℕ) (pieces : Parts → List Piece) (n : Tree) (s e : Token) (P : List Pair) : Type 0 where
    pub left : Token
    pub parts : Parts
    pub mid : Token
    pub opens : ReadsHere text Punctuator (codes "{") s left
    pub runs : RunsIn text o (anywhere (pieces parts)) parts left mid P
    pub closes : ReadsHere text Punctuator (codes "}") mid e
    pub tree : n ≡ node k [] plain left.start e.stop parts

  braced : {a : Role} {k : Kind} {o : ℕ} {inner : Parts → List Piece} {pieces : Parts → List Piece} {n : Tree} {s e : Token} {P : List Pair} → OneKind a k plain (λ ps. sign "{" ∷ behind_brace ps (inner ps)) →
      ((ps : Parts) (s e : Token) → RunsIn text o (anywhere (inner (bare_parts ps) ++ closing (is_none (bare_parts ps)))) ps s e P → Split o (pieces ps) (closing (is_none (bare_parts ps))) ps s e P) → SpellsIn text o a n s e P → Braced k o pieces n s e P
  braced {a} {k} {o} {inner} {pieces} {n} {s} {e} {P} u split d =
      let sole = one_kind Token (SeenNext text) (behind_in text) (seen_determined text) {Fine = λ n v. Unit {0}} {s = s} u in
      let told = sole.told d tt in
      let t = run_token Token (SeenNext text) (behind_in text) told.runs in
      let v = split told.parts t.mid e (inside_braces (bare_parts told.parts) (inner (bare_parts told.parts)) t.runs) in
      let c = brace_closed (is_none (bare_parts told.parts)) v.last in
      let opens = read_here text t.reads in
      let span = same_span Token (SeenNext text) (behind_in text) (seen_determined text) sole.spans (subst (λ z. Placed Token (SeenNext text) (behind_in text) a z s e) told.tree told.placed)
      (place_node Token (SeenNext text) (behind_in text) (seen_determined text) {k = k} {w = []} {g = plain} {ps = told.parts} {e = e} sole.spans opens.next) refl in
      record {
        left = t.mid;
        parts = told.parts;
        mid = v.mid;
        opens = opens;
        runs = subst (λ z. RunsIn text o (anywhere (pieces told.parts)) told.parts t.mid v.mid z) (sym (v.pairs ∙ ap (λ z. v.one ++ z) c.pairs ∙ append-nil v.one)) v.runs;
        closes = c.reads;
        tree = told.tree ∙ (λ i. node k [] plain (span.0 i) (span.1 i) told.parts);
      }

  -- what stands behind `{` up to its `}`
  pub record Inside (o : ℕ) (r : Bool) (ps : Parts) (s e : Token) (P : List Pair) : Type 0 where
    pub mid : Token
    pub runs : RunsIn text o (anywhere (prologue r false [] [] ps)) ps s mid P
    pub closes : ReadsHere text Punctuator (codes "}") mid e

  pub items_given : {o : ℕ} (r : Bool) (ps : Parts) {s e : Token} {P : List Pair} → RunsIn text o (anywhere (behind_brace (bare_parts ps) (lines (item r) (bare_parts ps)))) ps s e P → Inside o r ps s e P
  items_given {o} r ps {s} {e} {P} d =
      let last : List Piece = closing (is_none (bare_parts ps)) in
      let v = prologue_split r false false refl ps last (subst (λ qs. RunsIn text o (anywhere (qs ++ last)) ps s e P) (sym (no_directives r (bare_parts ps))) (inside_braces (bare_parts ps) (lines (item r) (bare_parts ps)) d)) in
      let c = brace_closed (is_none (bare_parts ps)) v.last in
      record { mid = v.mid; runs = subst (λ z. RunsIn text o (anywhere (prologue r false [] [] ps)) ps s v.mid z) (sym (v.pairs ∙ ap (λ z. v.one ++ z) c.pairs ∙ append-nil v.one)) v.runs; closes = c.reads }

  pub block_given : {o : ℕ} (r : Bool) {n : Tree} {s e : Token} {P : List Pair} → SpellsIn text o (block r) n s e P → Braced BlockStatement o (prologue r false [] []) n s e P
  block_given {o} r {P = P} d = braced {inner = lines (item r)} {pieces = prologue r false [] []} (one_block r) (λ ps s e x. prologue_split r false false refl ps (closing (is_none (bare_parts ps)))
      (subst (λ qs. RunsIn text o (anywhere (qs ++ closing (is_none (bare_parts ps)))) ps s e P) (sym (no_directives r (bare_parts ps))) x)) d

  pub body_given : {o : ℕ} {n : Tree} {s e : Token} {P : List Pair} → SpellsIn text o body n s e P → Braced BlockStatement o (prologue true true [] []) n s e P
  body_given d = braced {inner = prologue true true (lay line ∷ []) []} {pieces = prologue true true [] []} one_body (λ ps s e x. prologue_split true true true refl ps (closing (is_none (bare_parts ps))) x) d

  pub class_body_given : {o : ℕ} {n : Tree} {s e : Token} {P : List Pair} → SpellsIn text o class_body n s e P → Braced ClassBody o (λ ps. many (codes ";") ∷ member_lines ps) n s e P
  class_body_given d = braced {inner = λ ps. many (codes ";") ∷ member_lines ps} {pieces = λ ps. many (codes ";") ∷ member_lines ps} one_class_body (λ ps s e x. class_split ps (closing (is_none (bare_parts ps))) x) d

  -- what stands behind `catch`
  pub data CaughtGiven (o : ℕ) (r : Bool) (s e : Token) : Parts → List Pair → Type 0 where
    with_parameter : {n b : Tree} {left mid right : Token} {A B : List Pair} → ReadsHere text Punctuator (codes "(") s left → SpelledAs (bound true) text o n left mid A → ReadsHere text Punctuator (codes ")") mid right → SpellsIn text o (block r) b right e B →
        CaughtGiven o r s e (part n (part b none)) (A ++ B)
    no_parameter : {b : Tree} {P : List Pair} → SpellsIn text o (block r) b s e P → CaughtGiven o r s e (gap (part b none)) P

  pub record HandlerGiven (o : ℕ) (r : Bool) (n : Tree) (s e : Token) (P : List Pair) : Type 0 where
    pub word : Token
    pub parts : Parts
    pub reads : ReadsHere text IdentifierName (codes "catch") s word
    pub caught : CaughtGiven o r word e parts P
    pub tree : n ≡ node CatchClause [] plain word.start e.stop parts

  caught_given : {o : ℕ} (r : Bool) (ps : Parts) {s e : Token} {P : List Pair} → RunsIn text o (anywhere (handler_pieces r (bare_parts ps))) ps s e P → (word : Token) × ReadsHere text IdentifierName (codes "catch") s word × CaughtGiven o r word e ps P
  caught_given r none d = absurd (run_never Token (SeenNext text) (behind_in text) d)
  caught_given {o} r (gap ps) {e = e} {P = P} d =
      let t = run_token Token (SeenNext text) (behind_in text) (run_the_gap Token (SeenNext text) (behind_in text) d) in
      let v = last_part Token (SeenNext text) (behind_in text) (seen_determined text) (run_laid Token (SeenNext text) (behind_in text) t.runs) in
      (t.mid, read_here text t.reads, subst (λ z. CaughtGiven o r t.mid e (gap z) P) (sym v.parts) (no_parameter v.spelled))
  caught_given {o} r (part (node c w g st en qs) ps) {e = e} {P = P} d =
      let t = run_token Token (SeenNext text) (behind_in text) d in
      let a = run_token Token (SeenNext text) (behind_in text) (run_laid Token (SeenNext text) (behind_in text) t.runs) in
      let p = an_item Token (SeenNext text) (behind_in text) (seen_determined text) (bound true c) a.runs in
      let b = run_token Token (SeenNext text) (behind_in text) p.runs in
      let v = last_part Token (SeenNext text) (behind_in text) (seen_determined text) (run_laid Token (SeenNext text) (behind_in text) b.runs) in (
        t.mid,
        read_here text t.reads,
        subst (λ z. CaughtGiven o r t.mid e (part (node c w g st en qs) ps) z) (sym p.pairs) (subst (λ z. CaughtGiven o r t.mid e (part (node c w g st en qs) z) (p.one ++ p.more)) (sym v.parts)
            (with_parameter (read_here text a.reads) (record { role = p.role; it_is = p.it_is; spelled = p.spelled }) (read_here text b.reads) v.spelled)),
      )

  pub handler_given : {o : ℕ} (r : Bool) {n : Tree} {s e : Token} {P : List Pair} → SpellsIn text o (handler r) n s e P → HandlerGiven o r n s e P
  handler_given {o} r {n} {s} {e} {P} d =
      let sole = one_kind Token (SeenNext text) (behind_in text) (seen_determined text) {Fine = λ n v. Unit {0}} {s = s} (one_handler r) in
      let told = sole.told d tt in
      let v = caught_given r told.parts told.runs in
      let span = same_span Token (SeenNext text) (behind_in text) (seen_determined text) sole.spans (subst (λ z. Placed Token (SeenNext text) (behind_in text) (handler r) z s e) told.tree told.placed)
      (place_node Token (SeenNext text) (behind_in text) (seen_determined text) {k = CatchClause} {w = []} {g = plain} {ps = told.parts} {e = e} sole.spans v.1.next) refl in
      record { word = v.0; parts = told.parts; reads = v.1; caught = v.2; tree = told.tree ∙ (λ i. node CatchClause [] plain (span.0 i) (span.1 i) told.parts) }

  -- a block doesn't begin with a parenthesis
  block_sign : {o : ℕ} {r : Bool} {n : Tree} {s e : Token} {P : List Pair} → SpellsIn text o (block r) n s e P → Sees text Punctuator (codes "(") s → ⊥
  block_sign {r = r} d sees =
      let v = block_given r d in
      let same = (marks_same text v.opens sees.1).0 in
      false≢true (ap (λ w. is w "{") (sym sees.1.text ∙ ap (λ (z : Token). z.text) (sym same) ∙ v.opens.text))

  -- what stands behind `catch` as its pieces
  pub caught_pieces : {o : ℕ} {r : Bool} {s e : Token} {ps : Parts} {P : List Pair} {pieces : List Parsed.Piece} (x : Edge) → CatchParts text s pieces → CaughtGiven o r s e ps P → (has_edges pieces ≡ true) × PiecesGiven text r o pieces s e x x ps P
  caught_pieces {o} {r} {s} {e} x (inl h) (with_parameter {n = n} {b = b} {left = left} {mid = mid} {right = right} {A = A} {B = B} opens target closes d) = (
    ap has_edges h.1,
    subst (λ z. PiecesGiven text r o z s e x x (part n (part b none)) (A ++ B)) (sym h.1) (record {
      mid = left;
      right = x;
      put = none;
      rest = part n (part b none);
      put_pairs = [];
      more_pairs = A ++ B;
      first = (opens, (refl, refl, refl));
      others = record {
        mid = mid;
        right = x;
        put = part n none;
        rest = part b none;
        put_pairs = A;
        more_pairs = B;
        first = (record { put = n; parts = refl; target = target }, apart_sign Token (SeenNext text) (behind_in text) (seen_determined text) closes refl);
        others = record {
          mid = right;
          right = x;
          put = none;
          rest = part b none;
          put_pairs = [];
          more_pairs = B;
          first = (closes, (refl, refl, refl));
          others = record { mid = e; right = x; put = part b none; rest = none; put_pairs = B; more_pairs = []; first = record { put = b; parts = refl; spelled = d }; others = (refl, refl, refl, refl); parts = refl; pairs = sym (append-nil B) };
          parts = refl;
          pairs = refl;
        };
        parts = refl;
        pairs = refl;
      };
      parts = refl;
      pairs = refl;
    }),
  )
  caught_pieces x (inr h) (with_parameter {left = left} opens target closes d) = absurd (not_missed h.0 opens)
  caught_pieces x (inl h) (no_parameter d) = absurd (block_sign d h.0)
  caught_pieces {o} {r} {s} {e} x (inr h) (no_parameter {b = b} {P = P} d) = (
    ap has_edges h.1,
    subst (λ z. PiecesGiven text r o z s e x x (gap (part b none)) P) (sym h.1) (record {
      mid = s;
      right = x;
      put = gap none;
      rest = part b none;
      put_pairs = [];
      more_pairs = P;
      first = (refl, refl, refl, refl);
      others = record { mid = e; right = x; put = part b none; rest = none; put_pairs = P; more_pairs = []; first = record { put = b; parts = refl; spelled = d }; others = (refl, refl, refl, refl); parts = refl; pairs = sym (append-nil P) };
      parts = refl;
      pairs = refl;
    }),
  )
