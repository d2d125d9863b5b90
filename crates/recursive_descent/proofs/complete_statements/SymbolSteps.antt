-- Pieces that are given, one by one: a token, an expression before what can't go on with it, a statement, a part that is missing.
use Rattle.std.proofs.Common.{◌≡◌, ℕ, Bool, true, List, [], ◌∷◌, ◌++◌, refl, sym, ap, ◌∙◌, subst}
use Rattle.std.specs.Prelude.{codes}
use Rattle.tokens.specs.declared.token.TokenClass.TheVariants.{IdentifierName, Punctuator}
use Rattle.tree.specs.declared.kind.Pair.{Pair}
use Rattle.tree.specs.Tree.{Tree, Parts, none, part, gap, join}
use Rattle.language.specs.declared.Edge.{Edge}
use Rattle.language.specs.declared.Rank.{Rank}
use Rattle.language.specs.declared.Rank.TheVariants.{Expression}
use Rattle.language.specs.declared.Start.TheVariants.{Any}
use Rattle.language.specs.Edges.{edge, edge_as_written}
use Rattle.language.specs.Pieces.{Role, expr, statement, PieceOf, tok, sub}
use Rattle.language.specs.Token.{Token}
use Rattle.language.specs.Derivation.{Reads}
use Rattle.language.proofs.statements.StatementFollow.{idle_stops}
use Rattle.language.proofs.list_loops.FirstPieces.{run_none, run_token, run_part}
use Rattle.token_cursor.proofs.SeenTokens.{seen_determined}
use Rattle.recursive_descent.specs.Soundness.{RunsIn}
use Rattle.recursive_descent.specs.Completeness.{StopsIn, FinishedIn}
use Rattle.recursive_descent.specs.CompletenessOfStatements.{PieceGiven, PiecesGiven, ExpressionGiven, StatementGiven}
use Rattle.parser_tables.specs.StatementSymbols as Piece
use Rattle.parser_tables.specs.StatementSymbols.{in_parentheses}
use Rattle.token_cursor.specs.Seen.{ReadsHere}
use Rattle.recursive_descent.proofs.complete_expressions.Agreement.{read_here}
use Rattle.token_cursor.specs.SourceText.{SourceText, SeenNext, behind_in}
use Rattle.recursive_descent.specs.Spelled.{SpellsIn}

-- what is given of a statement behind its first token, from any right edge on
pub record PiecesFrom (text : SourceText) (r : Bool) (o : ℕ) (qs : List Piece.Piece) (s e : Token) (x : Edge) (ps : Parts) (P : List Pair) : Type 0 where
  pub right : Edge
  pub given : PiecesGiven text r o qs s e x right ps P

module _ {text : SourceText} {r : Bool} {o : ℕ} where
  pub pieces_as : {qs : List Piece.Piece} {s e : Token} {x : Edge} {ps qs' : Parts} {P Q : List Pair} → ps ≡ qs' → P ≡ Q → PiecesFrom text r o qs s e x qs' Q → PiecesFrom text r o qs s e x ps P
  pieces_as {qs} {s} {e} {x} {ps} {qs'} {P} same pairs u = subst (λ k. PiecesFrom text r o qs s e x k P) (sym same) (subst (λ R. PiecesFrom text r o qs s e x qs' R) (sym pairs) u)

  -- none
  pub no_pieces : {s e : Token} {x : Edge} {ps : Parts} {P : List Pair} → s ≡ e → ps ≡ none → P ≡ [] → PiecesFrom text r o [] s e x ps P
  no_pieces {x = x} place parts pairs = record { right = x; given = (sym place, refl, parts, pairs) }

  -- a token
  pub mark_first : {w : List ℕ} {qs : List Piece.Piece} {s m e : Token} {x : Edge} {ps : Parts} {P : List Pair} → ReadsHere text Punctuator w s m → PiecesFrom text r o qs m e x ps P → PiecesFrom text r o (Piece.mark w ∷ qs) s e x ps P
  mark_first {m = m} {x = x} {ps} {P} read u = record { right = u.right; given = record { mid = m; right = x; put = none; rest = ps; put_pairs = []; more_pairs = P; first = (read, (refl, refl, refl)); others = u.given; parts = refl; pairs = refl } }

  pub word_first : {w : List ℕ} {qs : List Piece.Piece} {s m e : Token} {x : Edge} {ps : Parts} {P : List Pair} → ReadsHere text IdentifierName w s m → PiecesFrom text r o qs m e x ps P → PiecesFrom text r o (Piece.word w ∷ qs) s e x ps P
  word_first {m = m} {x = x} {ps} {P} read u = record { right = u.right; given = record { mid = m; right = x; put = none; rest = ps; put_pairs = []; more_pairs = P; first = (read, (refl, refl, refl)); others = u.given; parts = refl; pairs = refl } }

  -- what adds no part
  pub token_first : {q : Piece.Piece} {qs : List Piece.Piece} {s m e : Token} {x : Edge} {ps : Parts} {P : List Pair} → PieceGiven text r o q s m x x none [] → PiecesFrom text r o qs m e x ps P → PiecesFrom text r o (q ∷ qs) s e x ps P
  token_first {m = m} {x = x} {ps} {P} first u = record { right = u.right; given = record { mid = m; right = x; put = none; rest = ps; put_pairs = []; more_pairs = P; first = first; others = u.given; parts = refl; pairs = refl } }

  -- one part, behind which this is the right edge
  pub put_first : {q : Piece.Piece} {qs : List Piece.Piece} {s m e : Token} {x : Edge} (y : Edge) {n : Tree} {ps : Parts} (P : List Pair) {Q : List Pair} → PieceGiven text r o q s m x y (part n none) P → PiecesFrom text r o qs m e y ps Q → PiecesFrom text r o (q ∷ qs) s e x (part n ps) (P ++ Q)
  put_first {m = m} y {n} {ps} P {Q} first u = record { right = u.right; given = record { mid = m; right = y; put = part n none; rest = ps; put_pairs = P; more_pairs = Q; first = first; others = u.given; parts = refl; pairs = refl } }

  -- a part that is missing
  pub gap_first : {q : Piece.Piece} {qs : List Piece.Piece} {s e : Token} {x : Edge} {ps : Parts} {P : List Pair} → PieceGiven text r o q s s x x (gap none) [] → PiecesFrom text r o qs s e x ps P → PiecesFrom text r o (q ∷ qs) s e x (gap ps) P
  gap_first {s = s} {x = x} {ps} {P} first u = record { right = u.right; given = record { mid = s; right = x; put = gap none; rest = ps; put_pairs = []; more_pairs = P; first = first; others = u.given; parts = refl; pairs = refl } }

  -- all parts of a list
  pub parts_first : {q : Piece.Piece} {qs : List Piece.Piece} {s m e : Token} {x : Edge} (y : Edge) (ps : Parts) {qs' : Parts} (P : List Pair) {Q : List Pair} → PieceGiven text r o q s m x y ps P → PiecesFrom text r o qs m e y qs' Q → PiecesFrom text r o (q ∷ qs) s e x (join ps qs') (P ++ Q)
  parts_first {m = m} y ps {qs'} P {Q} first u = record { right = u.right; given = record { mid = m; right = y; put = ps; rest = qs'; put_pairs = P; more_pairs = Q; first = first; others = u.given; parts = refl; pairs = refl } }

  pub a_statement : {n : Tree} {s m : Token} {P : List Pair} → SpellsIn text o (statement r) n s m P → FinishedIn text n m → StatementGiven text r o s m (part n none) P
  a_statement {n = n} spelled finished = record { put = n; parts = refl; spelled = spelled; finished = finished }

module _ {text : SourceText} {o : ℕ} where
  pub an_expression : {y : Rank} {n : Tree} {s m : Token} {P : List Pair} → SpellsIn text o (expr y true Any) n s m P → StopsIn text y true n m → ExpressionGiven text o y true s m (edge_as_written (edge n) m) (part n none) P
  an_expression {n = n} spelled stopped = record { put = n; parts = refl; right = refl; spelled = spelled; stopped = stopped }

-- an expression before a sign that can't go on with it
pub before_sign : {text : SourceText} (n : Tree) {e k t : Token} → Reads Token (SeenNext text) (behind_in text) Punctuator (codes ")") e t k → StopsIn text Expression true n e
before_sign {text} n read = idle_stops Token (SeenNext text) (behind_in text) (seen_determined text) Expression true n refl (λ x b. refl) read

module _ (text : SourceText) where
  -- an Expression in parentheses
  pub record Condition (o : ℕ) (qs : List (PieceOf Role)) (ps : Parts) (s e : Token) (P : List Pair) : Type 0 where
    pub item : Tree
    pub rest : Parts
    pub from : Token
    pub mid : Token
    pub to : Token
    pub one : List Pair
    pub more : List Pair
    pub parts : ps ≡ part item rest
    pub pairs : P ≡ one ++ more
    pub left : ReadsHere text Punctuator (codes "(") s from
    pub spelled : SpellsIn text o (expr Expression true Any) item from mid one
    pub stopped : StopsIn text Expression true item mid
    pub right : ReadsHere text Punctuator (codes ")") mid to
    pub runs : RunsIn text o qs rest to e more

  pub condition_given : {o : ℕ} {qs : List (PieceOf Role)} {ps : Parts} {s e : Token} {P : List Pair} → RunsIn text o (tok Punctuator (codes "(") ∷ sub (expr Expression true Any) ∷ tok Punctuator (codes ")") ∷ qs) ps s e P → Condition o qs ps s e P
  condition_given d =
      let a = run_token Token (SeenNext text) (behind_in text) d in
      let v = run_part Token (SeenNext text) (behind_in text) a.runs in
      let b = run_token Token (SeenNext text) (behind_in text) v.runs in
      record { item = v.item; rest = v.rest; from = a.mid; mid = v.mid; to = b.mid; one = v.one; more = v.more; parts = v.parts; pairs = v.pairs; left = read_here text a.reads; spelled = v.spelled; stopped = before_sign v.item b.reads; right = read_here text b.reads; runs = b.runs }

  -- with the pieces behind it
  pub condition_first : {r : Bool} {o : ℕ} {qs : List (PieceOf Role)} {rest : List Piece.Piece} {ps : Parts} {s e : Token} {P : List Pair} (x : Edge) (c : Condition o qs ps s e P) → PiecesFrom text r o rest c.to e (edge_as_written (edge c.item) c.mid) c.rest c.more → PiecesFrom text r o (in_parentheses rest) s e x ps P
  condition_first x c u = pieces_as c.parts c.pairs (mark_first c.left (put_first {q = Piece.expression} (edge_as_written (edge c.item) c.mid) c.one (an_expression c.spelled c.stopped) (mark_first c.right u)))

  -- a part alone
  pub record LastPart (o : ℕ) (a : Role) (ps : Parts) (s e : Token) (P : List Pair) : Type 0 where
    pub item : Tree
    pub parts : ps ≡ part item none
    pub spelled : SpellsIn text o a item s e P

  pub last_part : {o : ℕ} {a : Role} {ps : Parts} {s e : Token} {P : List Pair} → RunsIn text o (sub a ∷ []) ps s e P → LastPart o a ps s e P
  last_part {o} {a} {ps} {s} {e} {P} d =
      let v = run_part Token (SeenNext text) (behind_in text) d in
      let z = run_none Token (SeenNext text) (behind_in text) v.runs in
      record { item = v.item; parts = v.parts ∙ ap (part v.item) z.parts; spelled = subst (λ c. SpellsIn text o a v.item s e c) (sym (v.pairs ∙ ap (λ c. v.one ++ c) z.pairs ∙ Rattle.std.proofs.lemmas.List.append-nil v.one)) (subst (λ c. SpellsIn text o a v.item s c v.one) z.place v.spelled) }

  -- a statement that is the last piece
  pub last_statement : {r : Bool} {o : ℕ} {ps : Parts} {s e : Token} (x : Edge) {P : List Pair} → (v : LastPart o (statement r) ps s e P) → FinishedIn text v.item e → PiecesFrom text r o (Piece.statement ∷ []) s e x ps P
  last_statement x {P} v finished = pieces_as v.parts (sym (Rattle.std.proofs.lemmas.List.append-nil P)) (put_first {q = Piece.statement} x P (a_statement v.spelled finished) (no_pieces refl refl refl))
