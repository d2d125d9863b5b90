-- Blocks, the bodies of functions and classes, and handlers, from what stands in them (ECMA-262 13.2, 13.15, 14.1, 14.6).
use Rattle.std.proofs.Common.{◌≡◌, ℕ, Bool, true, false, cond, List, [], ◌∷◌, ◌++◌, refl, sym, ap, ◌∙◌, subst, append_assoc, inl, inr}
use Rattle.std.specs.Prelude.{codes, ◌&&◌}
use Rattle.tokens.specs.declared.token.TokenClass.TheVariants.{IdentifierName, Punctuator}
use Rattle.tree.specs.declared.kind.Kind.{Kind}
use Rattle.tree.specs.declared.kind.Kind.TheVariants.{BlockStatement, ClassBody, CatchClause}
use Rattle.tree.specs.declared.kind.Pair.{Pair}
use Rattle.tree.specs.Tree.{Tree, node, plain, Parts, none, part, gap, join, bare, bare_parts, kind_of}
use Rattle.language.specs.declared.Edge.{Edge}
use Rattle.language.specs.Pieces.{Role, block, body, class_body, handler, item, member, bound, line, deeper, shallower, Piece, many, lay, put, put_at, sign, sp, term, is_none}
use Rattle.language.specs.Statements.{prologue, lines, is_directive, member_lines}
use Rattle.language.specs.Token.{Token}
use Rattle.language.specs.Derivation.{done, step, within, missing, token, laid, Placed, placed}
use Rattle.language.proofs.statements.Blocks.{one_block, one_body, one_class_body, one_handler}
use Rattle.language.proofs.table.OneKind.{OneKind, one_kind}
use Rattle.language.proofs.list_loops.FirstPieces.{run_never}
use Rattle.language.proofs.table.StatementWays.{behind_brace}
use Rattle.token_cursor.proofs.SeenTokens.{seen_determined}
use Rattle.recursive_descent.specs.Soundness.{RunsIn, anywhere, SpelledAs}
use Rattle.recursive_descent.specs.SoundnessOfStatements.{PiecesAt}
use Rattle.parser_tables.specs.StatementSymbols.{CatchParts, Piece as Parsed}
use Rattle.token_cursor.specs.Seen.{ReadsHere}
use Rattle.token_cursor.specs.SourceText.{SourceText, SeenNext, behind_in}
use Rattle.recursive_descent.specs.Spelled.{SpellsIn}

directive_bare : (n : Tree) → is_directive (bare n) ≡ is_directive n
directive_bare (node k w g s e ps) = refl

pub bare_kind : (n : Tree) → kind_of (bare n) ≡ kind_of n
bare_kind (node k w g s e ps) = refl

no_directives : (r : Bool) (ps : Parts) → prologue r false (lay line ∷ []) [] ps ≡ lines (item r) ps
no_directives r none = refl
no_directives r (part n ps) = ap (λ qs. lay line ∷ put (item r) ∷ qs) (no_directives r ps)
no_directives r (gap ps) = refl

module _ (text : SourceText) where
  -- the items, each on a line of its own, and what stands behind them
  prologue_laid : {o : ℕ} (r b c : Bool) → c ≡ b → (ps : Parts) (rest : List Piece) {s m e : Token} {P : List Pair} → RunsIn text o (anywhere (prologue r b [] [] ps)) ps s m P → RunsIn text o (anywhere rest) none m e [] → RunsIn text o (anywhere (prologue r c (lay line ∷ []) [] (bare_parts ps) ++ rest)) ps s e P
  prologue_laid r b c same none rest done d = d
  prologue_laid {o} r b c same (part n ps) rest {s} {m} {e} (within {m = k} {P = P} h g) d =
      let first = subst (λ x. SpellsIn text o (cond x (Rattle.language.specs.Pieces.opening r) (item r)) n s k P) (sym same) h in
      step laid (within first (prologue_laid r (b && is_directive n) (c && is_directive (bare n)) ((λ i. same i && directive_bare n i)) ps rest g d))
  prologue_laid r b c same (part n ps) rest (step x g) d = elim x [ ]
  prologue_laid r b c same (gap ps) rest g d = absurd (run_never Token (SeenNext text) (behind_in text) g)

  -- the closing brace, on a line of its own where anything stands before it
  brace_laid : {o : ℕ} (c : Bool) {m e : Token} → ReadsHere text Punctuator (codes "}") m e → RunsIn text o (anywhere (cond c [] (lay shallower ∷ lay line ∷ []) ++ sign "}" ∷ [])) none m e []
  brace_laid true close = step (token close) done
  brace_laid false close = step laid (step laid (step (token close) done))

  braces_laid : {o : ℕ} (c : Bool) (qs : List Piece) {ps : Parts} {s x e : Token} {P : List Pair} → ReadsHere text Punctuator (codes "{") s x → RunsIn text o (anywhere qs) ps x e P → RunsIn text o (anywhere (sign "{" ∷ (cond c [] (lay deeper ∷ []) ++ qs))) ps s e P
  braces_laid true qs open_brace d = step (token open_brace) d
  braces_laid false qs open_brace d = step (token open_brace) (step laid d)

  placed_brace : {a : Role} {k : Kind} {pieces : Parts → List Piece} {ps : Parts} {s x e : Token} {at : ℕ} → OneKind a k plain pieces → ReadsHere text Punctuator (codes "{") s x → x.start ≡ at → Placed Token (SeenNext text) (behind_in text) a (node k [] plain at e.stop ps) s e
  placed_brace {e = e} u open_brace start = placed open_brace.next (u.position.spans _ (behind_in text e) ∙ ap (λ (y : ℕ). (y, e.stop)) start)

  by_kind : {o : ℕ} {a : Role} {k : Kind} {pieces : Parts → List Piece} {ps : Parts} {s e : Token} {at : ℕ} {P : List Pair} → OneKind a k plain pieces → Placed Token (SeenNext text) (behind_in text) a (node k [] plain at e.stop ps) s e → RunsIn text o (anywhere (pieces (bare_parts ps))) ps s e P → SpellsIn text o a (node k [] plain at e.stop ps) s e P
  by_kind u pl d = (one_kind Token (SeenNext text) (behind_in text) (seen_determined text) {Fine = λ n v. Unit {0}} u).spells pl d

  abbrev closing : Bool → List Piece
  closing c = cond c [] (lay shallower ∷ lay line ∷ []) ++ sign "}" ∷ []

  -- in braces, as the table lays it out
  in_braces : {o : ℕ} (ps : Parts) (qs : List Piece) {rs : Parts} {s x e : Token} {P : List Pair} → ReadsHere text Punctuator (codes "{") s x → RunsIn text o (anywhere (qs ++ closing (is_none ps))) rs x e P → RunsIn text o (anywhere (sign "{" ∷ behind_brace ps qs)) rs s e P
  in_braces {o} ps qs {rs} {s} {x} {e} {P} open_brace d =
      let first : List Piece = cond (is_none ps) [] (lay deeper ∷ []) in
      let last : List Piece = cond (is_none ps) [] (lay shallower ∷ lay line ∷ []) in
      subst (λ zs. RunsIn text o (anywhere (sign "{" ∷ zs)) rs s e P) (sym (append_assoc (first ++ qs) last (sign "}" ∷ []) ∙ append_assoc first qs (closing (is_none ps)))) (braces_laid (is_none ps) (qs ++ closing (is_none ps)) open_brace d)

  -- items between braces
  pub items_laid : {o : ℕ} (r : Bool) (ps : Parts) {s x m e : Token} {P : List Pair} → ReadsHere text Punctuator (codes "{") s x → RunsIn text o (anywhere (prologue r false [] [] ps)) ps x m P → ReadsHere text Punctuator (codes "}") m e →
      RunsIn text o (anywhere (sign "{" ∷ behind_brace (bare_parts ps) (lines (item r) (bare_parts ps)))) ps s e P
  items_laid {o} r ps {s} {x} {m} {e} {P} open_brace d close =
      let none_left = is_none (bare_parts ps) in
      let items = prologue_laid r false false refl ps (closing none_left) d (brace_laid none_left close) in
      in_braces (bare_parts ps) (lines (item r) (bare_parts ps)) open_brace (subst (λ qs. RunsIn text o (anywhere (qs ++ closing none_left)) ps x e P) (no_directives r (bare_parts ps)) items)

  pub block_spelled : {o : ℕ} (r : Bool) (ps : Parts) {s x m e : Token} {at : ℕ} {P : List Pair} → ReadsHere text Punctuator (codes "{") s x → x.start ≡ at → RunsIn text o (anywhere (prologue r false [] [] ps)) ps x m P → ReadsHere text Punctuator (codes "}") m e → SpellsIn text o (block r) (node BlockStatement [] plain at e.stop ps) s e P
  block_spelled {o} r ps {s} {x} {m} {e} {at} {P} open_brace start d close =
      let none_left = is_none (bare_parts ps) in
      let items = prologue_laid r false false refl ps (closing none_left) d (brace_laid none_left close) in
      let items' = subst (λ qs. RunsIn text o (anywhere (qs ++ closing none_left)) ps x e P) (no_directives r (bare_parts ps)) items in
      by_kind (one_block r) (placed_brace (one_block r) open_brace start) (in_braces (bare_parts ps) (lines (item r) (bare_parts ps)) open_brace items')

  pub body_spelled : {o : ℕ} (ps : Parts) {s x m e : Token} {at : ℕ} {P : List Pair} → ReadsHere text Punctuator (codes "{") s x → x.start ≡ at → RunsIn text o (anywhere (prologue true true [] [] ps)) ps x m P → ReadsHere text Punctuator (codes "}") m e → SpellsIn text o body (node BlockStatement [] plain at e.stop ps) s e P
  body_spelled {o} ps {s} {x} {m} {e} {at} {P} open_brace start d close =
      let none_left = is_none (bare_parts ps) in
      let items = prologue_laid true true true refl ps (closing none_left) d (brace_laid none_left close) in
      by_kind one_body (placed_brace one_body open_brace start) (in_braces (bare_parts ps) (prologue true true (lay line ∷ []) [] (bare_parts ps)) open_brace items)

  -- the members of a class
  members_laid : {o : ℕ} (ps : Parts) (rest : List Piece) {s m e : Token} {P : List Pair} → RunsIn text o (anywhere (member_lines ps)) ps s m P → RunsIn text o (anywhere rest) none m e [] → RunsIn text o (anywhere (member_lines (bare_parts ps) ++ rest)) ps s e P
  members_laid none rest done d = d
  members_laid (part n ps) rest (step laid (within h (step semicolons g))) d = step laid (within h (step semicolons (members_laid ps rest g d)))
  members_laid (part n ps) rest (step laid (step x g)) d = elim x [ ]
  members_laid (gap ps) rest g d = absurd (run_never Token (SeenNext text) (behind_in text) g)

  class_members : {o : ℕ} (ps : Parts) (rest : List Piece) {s m e : Token} {P : List Pair} → RunsIn text o (anywhere (many (codes ";") ∷ member_lines ps)) ps s m P → RunsIn text o (anywhere rest) none m e [] → RunsIn text o (anywhere ((many (codes ";") ∷ member_lines (bare_parts ps)) ++ rest)) ps s e P
  class_members ps rest (step semicolons g) d = step semicolons (members_laid ps rest g d)

  pub class_body_spelled : {o : ℕ} (ps : Parts) {s x m e : Token} {at : ℕ} {P : List Pair} → ReadsHere text Punctuator (codes "{") s x → x.start ≡ at → RunsIn text o (anywhere (many (codes ";") ∷ member_lines ps)) ps x m P → ReadsHere text Punctuator (codes "}") m e → SpellsIn text o class_body (node ClassBody [] plain at e.stop ps) s e P
  class_body_spelled {o} ps {s} {x} {m} {e} {at} {P} open_brace start d close =
      let none_left = is_none (bare_parts ps) in
      by_kind one_class_body (placed_brace one_class_body open_brace start) (in_braces (bare_parts ps) (many (codes ";") ∷ member_lines (bare_parts ps)) open_brace (class_members ps (closing none_left) d (brace_laid none_left close)))

  -- a handler, with a parameter or without
  handler_placed : {r : Bool} {ps : Parts} {s m e : Token} {at : ℕ} → ReadsHere text IdentifierName (codes "catch") s m → m.start ≡ at → Placed Token (SeenNext text) (behind_in text) (handler r) (node CatchClause [] plain at e.stop ps) s e
  handler_placed {e = e} read start = placed read.next (ap (λ (y : ℕ). (y, e.stop)) start)

  handler_given : {o : ℕ} (r : Bool) (n k : Tree) {s m a b c e : Token} {at : ℕ} {P Q : List Pair} → ReadsHere text IdentifierName (codes "catch") s m → m.start ≡ at → ReadsHere text Punctuator (codes "(") m a → SpelledAs (bound true) text o n a b P → ReadsHere text Punctuator (codes ")") b c → SpellsIn text o (block r) k c e Q →
      SpellsIn text o (handler r) (node CatchClause [] plain at e.stop (part n (part k none))) s e (P ++ (Q ++ []))
  handler_given {o} r n k {s} {e = e} {P = P} {Q = Q} read start left_sign target right_sign inner =
      by_kind (one_handler r) (handler_placed {r = r} read start)
      (subst (λ x. RunsIn text o (anywhere (term "catch" ∷ sp ∷ sign "(" ∷ put_at x ∷ sign ")" ∷ sp ∷ put (block r) ∷ [])) (part n (part k none)) s e (P ++ (Q ++ []))) (sym (ap (bound true) (bare_kind n) ∙ target.it_is))
      (step (token read) (step laid (step (token left_sign) (within target.spelled (step (token right_sign) (step laid (within inner done))))))))

  handler_missing : {o : ℕ} (r : Bool) (k : Tree) {s m e : Token} {at : ℕ} {Q : List Pair} → ReadsHere text IdentifierName (codes "catch") s m → m.start ≡ at → SpellsIn text o (block r) k m e Q → SpellsIn text o (handler r) (node CatchClause [] plain at e.stop (gap (part k none))) s e (Q ++ [])
  handler_missing r k read start inner = by_kind (one_handler r) (handler_placed {r = r} read start) (missing (step (token read) (step laid (within inner done))))

  -- what its pieces are
  pub handler_spelled : {o : ℕ} (r : Bool) {s m e : Token} (x z : Edge) {at : ℕ} {ps : Parts} {P : List Pair} {pieces : List Parsed} → ReadsHere text IdentifierName (codes "catch") s m → m.start ≡ at → CatchParts text m pieces → PiecesAt text r o pieces m e x z ps P → SpellsIn text o (handler r) (node CatchClause [] plain at e.stop ps) s e P
  handler_spelled {o} r {s} {m} {e} x z {at} {ps} {P} read start (inl h) d =
      let a = subst (λ qs. PiecesAt text r o qs m e x z ps P) h.1 d in
      let b = a.others in
      let c = b.others in
      let f = c.others in
      let n = b.first.put in
      let k = f.first.put in
      let f_is : c.rest ≡ part k none = f.parts ∙ (λ i. join (f.first.parts i) (f.others.2 i)) in
      let c_is : b.rest ≡ part k none = c.parts ∙ (λ i. join (c.first.1.1 i) (f_is i)) in
      let b_is : a.rest ≡ part n (part k none) = b.parts ∙ (λ i. join (b.first.parts i) (c_is i)) in
      let a_is : ps ≡ part n (part k none) = a.parts ∙ (λ i. join (a.first.1.1 i) (b_is i)) in
      let f_pairs : c.more_pairs ≡ f.put_pairs ++ [] = f.pairs ∙ ap (λ y. f.put_pairs ++ y) f.others.3 in
      let c_pairs : b.more_pairs ≡ f.put_pairs ++ [] = c.pairs ∙ (λ i. c.first.1.2 i ++ f_pairs i) in
      let b_pairs : a.more_pairs ≡ b.put_pairs ++ (f.put_pairs ++ []) = b.pairs ∙ ap (λ y. b.put_pairs ++ y) c_pairs in
      let a_pairs : P ≡ b.put_pairs ++ (f.put_pairs ++ []) = a.pairs ∙ (λ i. a.first.1.2 i ++ b_pairs i) in
      let inner : SpellsIn text o (block r) k c.mid e f.put_pairs = subst (λ y. SpellsIn text o (block r) k c.mid y f.put_pairs) (sym f.others.0) f.first.spelled in
      let whole = handler_given r n k read start a.first.0 b.first.target c.first.0 inner in
      subst (λ y. SpellsIn text o (handler r) (node CatchClause [] plain at e.stop y) s e P) (sym a_is) (subst (λ y. SpellsIn text o (handler r) (node CatchClause [] plain at e.stop (part n (part k none))) s e y) (sym a_pairs) whole)
  handler_spelled {o} r {s} {m} {e} x z {at} {ps} {P} read start (inr h) d =
      let a = subst (λ qs. PiecesAt text r o qs m e x z ps P) h.1 d in
      let b = a.others in
      let k = b.first.put in
      let b_is : a.rest ≡ part k none = b.parts ∙ (λ i. join (b.first.parts i) (b.others.2 i)) in
      let a_is : ps ≡ gap (part k none) = a.parts ∙ (λ i. join (a.first.2 i) (b_is i)) in
      let b_pairs : a.more_pairs ≡ b.put_pairs ++ [] = b.pairs ∙ ap (λ y. b.put_pairs ++ y) b.others.3 in
      let a_pairs : P ≡ b.put_pairs ++ [] = a.pairs ∙ (λ i. a.first.3 i ++ b_pairs i) in
      let there : SpellsIn text o (block r) k m b.mid b.put_pairs = subst (λ y. SpellsIn text o (block r) k y b.mid b.put_pairs) a.first.0 b.first.spelled in
      let inner : SpellsIn text o (block r) k m e b.put_pairs = subst (λ y. SpellsIn text o (block r) k m y b.put_pairs) (sym b.others.0) there in
      let whole = handler_missing r k read start inner in
      subst (λ y. SpellsIn text o (handler r) (node CatchClause [] plain at e.stop y) s e P) (sym a_is) (subst (λ y. SpellsIn text o (handler r) (node CatchClause [] plain at e.stop (gap (part k none))) s e y) (sym a_pairs) whole)
