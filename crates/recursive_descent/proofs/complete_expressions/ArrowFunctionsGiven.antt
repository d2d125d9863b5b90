-- Arrow functions from their `=>` on, against what is given of them (ECMA-262 14.2).
use Rattle.std.proofs.Common.{◌≡◌, ℕ, suc, ◌-◌, ◌≤◌, Bool, true, false, cond, List, [], ◌∷◌, ◌++◌, refl, sym, ap, ◌∙◌, subst, arith, Result, Ok, Err}
use Rattle.std.specs.Prelude.{codes, map}
use Rattle.std.specs.Result.{IsErrAnd}
use Rattle.std.proofs.lemmas.Bool.{false≢true}
use Rattle.std.proofs.lemmas.List.{append-nil}
use Rattle.source_text.specs.declared.fault.Fault.{Fault}
use Rattle.tokens.specs.declared.token.TokenClass.TheVariants.{Punctuator}
use Rattle.token_cursor.specs.CursorState.{CursorState}
use Rattle.tree.specs.declared.kind.Kind.TheVariants.{ArrowFunctionExpression}
use Rattle.tree.specs.declared.kind.Flags.{Flags}
use Rattle.tree.specs.declared.kind.Pair.{Pair}
use Rattle.tree.specs.Tree.{Tree, node, Parts, none, part, push, join, height, parts_height}
use Rattle.tree.proofs.Shapes.{parts_height-push}
use Rattle.language.specs.declared.Rank.TheVariants.{Assignment}
use Rattle.language.specs.declared.Start.TheVariants.{Any, NoBrace}
use Rattle.language.specs.declared.Edge.{Edge}
use Rattle.language.specs.declared.Edge.TheVariants.{Arrow}
use Rattle.language.specs.Covers.{as_expression}
use Rattle.language.specs.Expressions.{arrow_end}
use Rattle.language.specs.Pieces.{Role, expr, body, sub, put, tail, settle_piece}
use Rattle.language.specs.Token.{Token}
use Rattle.language.specs.Claims.{max_open}
use Rattle.language.proofs.climbing.FunctionsAndClasses.{braced_absent, body_begins}
use Rattle.language.proofs.climbing.Conditionals.{same_sign}
use Rattle.language.proofs.list_loops.FirstPieces.{run_token, run_laid, run_unbroken, run_the_part, run_none}
use Rattle.token_cursor.proofs.SeenTokens.{seen_determined}
use Rattle.productions.specs.Made.{Makes}
use Rattle.parser_tables.specs.declared.operand.Operand.{Operand}
use Rattle.parser_tables.specs.declared.expression_context.ExpressionContext.{ExpressionContext}
use Rattle.parser_tables.specs.declared.symbol_lists.PartialStatement.{PartialStatement}
use Rattle.recursive_descent.specs.Complete.{ArrowComplete, ExpressionComplete, SymbolsComplete}
use Rattle.recursive_descent.specs.Soundness.{RunsIn}
use Rattle.recursive_descent.specs.Completeness.{Room, EndsWith, StopsIn, GivenAs, an_expression}
use Rattle.recursive_descent.specs.CompletenessOfStatements.{PiecesGiven, has_edges}
use Rattle.parser_tables.specs.Outcomes.{BecomesHere}
use Rattle.parser_tables.specs.Operands.{plain_part}
use Rattle.parser_tables.specs.StatementSymbols as Piece
use Rattle.token_cursor.specs.Seen.{ReadsHere, Sees, Misses}
use Rattle.parser_tables.specs.StatementNodes.{partial_of}
use Rattle.recursive_descent.proofs.reading.FreeRanks.{no_conditional, no_new}
use Rattle.recursive_descent.proofs.complete_expressions.Agreement.{read_here, refuses_on, agrees_err, refuses_high, not_missed, ends_behind}
use Rattle.recursive_descent.proofs.sound_expressions.ArrowFunctions.{flagged, concise, bodied, join_one}
use Rattle.token_cursor.specs.SourceText.{SourceText, SeenNext, behind_in}
use Rattle.recursive_descent.specs.Spelled.{SpellsIn, OfLanguage, AllOfLanguage}
use Rattle.recursive_descent.proofs.reading.LanguageTrees.{of_none, of_part}
use Rattle.tree.specs.declared.kind.Form.{Form}

module _ (text : SourceText) where
  -- the `=>`, and the body: an expression or a block
  pub record ArrowParts (o : ℕ) (i flag : Bool) (u : Tree) (s e : Token) (P : List Pair) : Type 0 where
    pub mid : Token
    pub sign : ReadsHere text Punctuator (codes "=>") s mid
    pub spelled : SpellsIn text o (cond flag (expr Assignment i NoBrace) body) u mid e P

  the_part : {o : ℕ} {a : Role} {u : Tree} {s e : Token} {P : List Pair} → RunsIn text o (sub a ∷ []) (part u none) s e P → SpellsIn text o a u s e P
  the_part {o} {a} {u} {s} {e} {P} d =
      let v = run_the_part Token (SeenNext text) (behind_in text) d in
      let z = run_none Token (SeenNext text) (behind_in text) v.runs in
      let pairs : P ≡ v.one = v.pairs ∙ ap (λ x. v.one ++ x) z.pairs ∙ append-nil v.one in
      subst (λ x. SpellsIn text o a u s e x) (sym pairs) (subst (λ x. SpellsIn text o a u s x v.one) z.place v.spelled)

  body_part : {o : ℕ} (i flag : Bool) {u : Tree} {s e : Token} {P : List Pair} → RunsIn text o (map (settle_piece Assignment i Any) (cond flag (sub (tail Assignment NoBrace)) (put body) ∷ [])) (part u none) s e P → SpellsIn text o (cond flag (expr Assignment i NoBrace) body) u s e P
  body_part i true d = the_part d
  body_part i false d = the_part d

  pub arrow_parts : {o : ℕ} (i : Bool) (g : Flags) {u : Tree} {s e : Token} {P : List Pair} → RunsIn text o (map (settle_piece Assignment i Any) (arrow_end g)) (part u none) s e P → ArrowParts o i g.expression u s e P
  arrow_parts i g d =
      let line = run_unbroken Token (SeenNext text) (behind_in text) d in
      let sign = run_token Token (SeenNext text) (behind_in text) (run_laid Token (SeenNext text) (behind_in text) line.runs) in
      record { mid = sign.mid; sign = read_here text sign.reads; spelled = body_part i g.expression (run_laid Token (SeenNext text) (behind_in text) sign.runs) }

  -- before `{` it is a block
  pub block_only : {o : ℕ} (i flag : Bool) {u : Tree} {s e : Token} {P : List Pair} → SpellsIn text o (cond flag (expr Assignment i NoBrace) body) u s e P → (flag ≡ true → StopsIn text Assignment i u e) → Sees text Punctuator (codes "{") s → (flag ≡ false) × SpellsIn text o body u s e P
  block_only {o} i true {u} {s} {e} {P} d stops sees = absurd ((braced_absent Token (SeenNext text) (behind_in text) (seen_determined text) {y = Assignment} sees.1).nothing o e u P d (stops refl))
  block_only i false d stops sees = (refl, d)

  -- else it is an expression
  pub value_only : {o : ℕ} (i flag : Bool) {u : Tree} {s e : Token} {P : List Pair} → SpellsIn text o (cond flag (expr Assignment i NoBrace) body) u s e P → Misses text Punctuator (codes "{") s → (flag ≡ true) × SpellsIn text o (expr Assignment i NoBrace) u s e P
  value_only i true d misses = (refl, d)
  value_only i false d misses = let b = body_begins Token (SeenNext text) (behind_in text) (seen_determined text) d in absurd (misses b.0 b.1 b.2)

-- a body that is one piece
pub body_given : {text : SourceText} (r : Bool) {o : ℕ} {u : Tree} {s e : Token} {x : Edge} {P : List Pair} → SpellsIn text o body u s e P → PiecesGiven text r o (Piece.body ∷ []) s e x x (part u none) P
body_given r {u = u} {e = e} {x = x} {P = P} d = record {
  mid = e;
  right = x;
  put = part u none;
  rest = none;
  put_pairs = P;
  more_pairs = [];
  first = record { put = u; parts = refl; spelled = d };
  others = (refl, refl, refl, refl);
  parts = refl;
  pairs = sym (append-nil P);
}

-- the flags by whether the body is an expression
flags_are : {flags : Flags} (x : Form) (b : Bool) → flags.expression ≡ b → flags ≡ flagged x flags.expression → flags ≡ flagged x b
flags_are x b is lean = lean ∙ ap (flagged x) is

module _ (s m : CursorState) (old mid : List Pair) (high inner : ℕ) (parameters : Parts) (start : ℕ) (x : Form) (i : Bool) where
  -- what stands behind `=>`
  pub record Behind (o : ℕ) (flag : Bool) (u : Tree) (to : Token) (P : List Pair) : Type 0 where
    pub spelled : SpellsIn m.text o (cond flag (expr Assignment i NoBrace) body) u m.last to P
    pub stops : flag ≡ true → StopsIn m.text Assignment i u to

  pub behind_sign : (flags : Flags) (u : Tree) (o : ℕ) (to : Token) (P : List Pair) → m.text ≡ s.text → ReadsHere s.text Punctuator (codes "=>") s.last m.last → RunsIn s.text o (map (settle_piece Assignment i Any) (arrow_end flags)) (part u none) s.last to P →
      (flags.expression ≡ true → StopsIn s.text Assignment i u to) → Behind o flags.expression u to P
  behind_sign flags u o to P text sign d stops =
      let v = arrow_parts s.text i flags d in
      let same : v.mid ≡ m.last = (same_sign Token (SeenNext s.text) (behind_in s.text) (seen_determined s.text) v.sign sign refl).1 in
      record {
        spelled = subst (λ x. SpellsIn x o (cond flags.expression (expr Assignment i NoBrace) body) u m.last to P) (sym text) (subst (λ x. SpellsIn s.text o (cond flags.expression (expr Assignment i NoBrace) body) u x to P) same v.spelled);
        stops = λ h. subst (λ x. StopsIn x Assignment i u to) (sym text) (stops h);
      }

  -- the body lies within the limits
  pub inner_room : (o : ℕ) (flags : Flags) (u : Tree) (to : Token) → m.opened ≡ s.opened → inner ≡ high - 1 → Room s o (height (node ArrowFunctionExpression [] flags start to.stop (push parameters u))) high → Room m o (height u) inner
  inner_room o flags u to same lower room =
      let all = parts_height-push parameters u in
      let high_is : height (node ArrowFunctionExpression [] flags start to.stop (push parameters u)) ≡ suc (parts_height (push parameters u)) = refl in
      let below = room.1 in
      (subst (λ k. o ≤ max_open - k) (sym same) room.0, omega arith)

  own_there : {u : Tree} → m.text ≡ s.text → OfLanguage s.text u → OfLanguage m.text u
  own_there {u} text own = subst (λ z. OfLanguage z u) (sym text) own

  own_parts : {u : Tree} → m.text ≡ s.text → OfLanguage s.text u → AllOfLanguage m.text (part u none)
  own_parts text own = of_part (own_there text own) of_none

  -- no `=>` there
  pub arrow_unsigned : (e : CursorState) (new : List Pair) (result : Result Operand Fault) (fault : Fault) → IsErrAnd result (λ z. z ≡ fault) → Misses s.text Punctuator (codes "=>") s.last → ArrowComplete s e old new high parameters start x i result
  arrow_unsigned e new result fault is misses = λ flags u o to P lean d stops own. let v = arrow_parts s.text i flags d in absurd (not_missed misses v.sign)

  module _ (text : m.text ≡ s.text) (same_open : m.opened ≡ s.opened) (same : mid ≡ old) (sign : ReadsHere s.text Punctuator (codes "=>") s.last m.last) (lower : inner ≡ high - 1) where
    -- the block is refused
    pub arrow_block_refused : (e : CursorState) (new : List Pair) (result : Result Operand Fault) (fault : Fault) (r : Bool) (qs : List Piece.Piece) (b c : PartialStatement) → IsErrAnd result (λ z. z ≡ fault) → Sees m.text Punctuator (codes "{") m.last → qs ≡ Piece.body ∷ [] →
        SymbolsComplete m e mid new inner qs r b c (Err fault) → ArrowComplete s e old new high parameters start x i result
    arrow_block_refused e new result fault r qs b c is sees pieces h = λ flags u o to P lean d stops own.
        let v = behind_sign flags u o to P text sign d stops in
        let w = block_only m.text i flags.expression v.spelled v.stops sees in
        let whole = node ArrowFunctionExpression [] flags start to.stop (push parameters u) in
        let g : PiecesGiven m.text r o qs m.last to b.edge b.edge (part u none) P = subst (λ x. PiecesGiven m.text r o x m.last to b.edge b.edge (part u none) P) (sym pieces) (body_given r w.1) in
        agrees_err (Room s o (height whole) high) (λ (z : Operand). (z.cover.node ≡ whole) × EndsWith s e old new to P) result fault is
        (refuses_on (Room m o (parts_height (part u none)) inner) (Room s o (height whole) high) fault (h o b.edge (part u none) to P (ap has_edges pieces) g (own_parts text own)) (λ room. let x = inner_room o flags u to same_open lower room in let y : height u ≤ inner = x.1 in (x.0, omega arith)))

    -- the block was read
    pub record BlockRead (e : CursorState) (new : List Pair) (c : PartialStatement) (o : ℕ) (flags : Flags) (u : Tree) (to : Token) (P : List Pair) : Type 0 where
      pub flags_are : flags ≡ bodied x
      pub nodes : c.nodes ≡ push parameters u
      pub ends : EndsWith s e old new to P

    pub block_read : (e : CursorState) (new : List Pair) (r : Bool) (qs : List Piece.Piece) (b c : PartialStatement) → Sees m.text Punctuator (codes "{") m.last → qs ≡ Piece.body ∷ [] → b ≡ partial_of parameters →
        SymbolsComplete m e mid new inner qs r b c (Ok tt) → (flags : Flags) (u : Tree) (o : ℕ) (to : Token) (P : List Pair) → flags ≡ flagged x flags.expression →
        RunsIn s.text o (map (settle_piece Assignment i Any) (arrow_end flags)) (part u none) s.last to P → (flags.expression ≡ true → StopsIn s.text Assignment i u to) → OfLanguage s.text u → BlockRead e new c o flags u to P
    block_read e new r qs b c sees pieces begun h flags u o to P lean d stops own =
        let v = behind_sign flags u o to P text sign d stops in
        let w = block_only m.text i flags.expression v.spelled v.stops sees in
        let g : PiecesGiven m.text r o qs m.last to b.edge b.edge (part u none) P = subst (λ x. PiecesGiven m.text r o x m.last to b.edge b.edge (part u none) P) (sym pieces) (body_given r w.1) in
        let k = h o b.edge (part u none) to P (ap has_edges pieces) g (own_parts text own) in
        record {
          flags_are = flags_are x false w.0 lean;
          nodes = k.0 ∙ ap (λ (x : PartialStatement). join x.nodes (part u none)) begun ∙ join_one parameters u;
          ends = ends_behind same k.1;
        }

    -- it is too high
    pub arrow_block_high : (e : CursorState) (new : List Pair) (result : Result Operand Fault) (fault : Fault) (r : Bool) (qs : List Piece.Piece) (b c : PartialStatement) (g : Flags) (st en : ℕ) → IsErrAnd result (λ z. z ≡ fault) → Sees m.text Punctuator (codes "{") m.last → qs ≡ Piece.body ∷ [] →
        b ≡ partial_of parameters → SymbolsComplete m e mid new inner qs r b c (Ok tt) → Makes (node ArrowFunctionExpression [] g st en c.nodes) high (Err fault) → ArrowComplete s e old new high parameters start x i result
    arrow_block_high e new result fault r qs b c g st en is sees pieces begun h made = λ flags u o to P lean d stops own.
        let k = block_read e new r qs b c sees pieces begun h flags u o to P lean d stops own in
        let whole = node ArrowFunctionExpression [] flags start to.stop (push parameters u) in
        let levels : height (node ArrowFunctionExpression [] g st en c.nodes) ≡ height whole = ap (λ x. suc (parts_height x)) k.nodes in
        agrees_err (Room s o (height whole) high) (λ (z : Operand). (z.cover.node ≡ whole) × EndsWith s e old new to P) result fault is
        (refuses_high (Room s o (height whole) high) (height (node ArrowFunctionExpression [] g st en c.nodes)) high fault made.0 made.1 (λ room. subst (λ x. x ≤ high) (sym levels) room.1))

    -- it is answered
    pub arrow_block_done : (e : CursorState) (new : List Pair) (r : Bool) (qs : List Piece.Piece) (b c : PartialStatement) (n : Tree) (k : Operand) → Sees m.text Punctuator (codes "{") m.last → qs ≡ Piece.body ∷ [] → b ≡ partial_of parameters → SymbolsComplete m e mid new inner qs r b c (Ok tt) →
        n ≡ node ArrowFunctionExpression [] (bodied x) start e.last.stop c.nodes → k ≡ plain_part n Assignment Arrow → ArrowComplete s e old new high parameters start x i (Ok k)
    arrow_block_done e new r qs b c n k sees pieces begun h tree part_is = λ flags u o to P lean d stops own.
        let k = block_read e new r qs b c sees pieces begun h flags u o to P lean d stops own in
        (ap (λ (y : Operand). y.cover.node) part_is ∙ tree ∙ (λ j. node ArrowFunctionExpression [] (sym k.flags_are j) start (ap (λ (t : Token). t.stop) k.ends.place j) (k.nodes j)), k.ends)

    -- an expression is refused
    value_given : {o : ℕ} {u : Tree} {to : Token} {P : List Pair} (p : ExpressionContext) → p ≡ record { rank = Assignment; has_in = i; start = NoBrace } → SpellsIn m.text o (expr Assignment i NoBrace) u m.last to P → StopsIn m.text Assignment i u to → GivenAs m.text p o u m.last to P as_expression
    value_given {o} {u} {to} {P} p is d stops = subst (λ x. GivenAs m.text x o u m.last to P as_expression) (sym is) (an_expression (no_conditional refl) (no_new refl) d stops)

    pub arrow_value_refused : (e : CursorState) (new : List Pair) (result : Result Operand Fault) (fault : Fault) (p : ExpressionContext) → IsErrAnd result (λ z. z ≡ fault) → Misses m.text Punctuator (codes "{") m.last → p ≡ record { rank = Assignment; has_in = i; start = NoBrace } →
        ExpressionComplete m e mid new inner p (Err fault) → ArrowComplete s e old new high parameters start x i result
    arrow_value_refused e new result fault p is misses position h = λ flags u o to P lean d stops own.
        let v = behind_sign flags u o to P text sign d stops in
        let w = value_only m.text i flags.expression v.spelled misses in
        let whole = node ArrowFunctionExpression [] flags start to.stop (push parameters u) in
        agrees_err (Room s o (height whole) high) (λ (z : Operand). (z.cover.node ≡ whole) × EndsWith s e old new to P) result fault is
        (refuses_on (Room m o (height u) inner) (Room s o (height whole) high) fault (h as_expression o u to P (value_given p position w.1 (v.stops w.0)) (own_there text own)) (inner_room o flags u to same_open lower))

    -- the expression was read
    pub record ValueRead (e : CursorState) (new : List Pair) (q : Operand) (flags : Flags) (u : Tree) (to : Token) (P : List Pair) : Type 0 where
      pub flags_are : flags ≡ concise x
      pub value : q.cover.shape.is_expression ≡ true
      pub tree : q.cover.node ≡ u
      pub ends : EndsWith s e old new to P

    pub value_read : (e : CursorState) (new : List Pair) (p : ExpressionContext) (q : Operand) → Misses m.text Punctuator (codes "{") m.last → p ≡ record { rank = Assignment; has_in = i; start = NoBrace } → ExpressionComplete m e mid new inner p (Ok q) →
        (flags : Flags) (u : Tree) (o : ℕ) (to : Token) (P : List Pair) → flags ≡ flagged x flags.expression → RunsIn s.text o (map (settle_piece Assignment i Any) (arrow_end flags)) (part u none) s.last to P →
        (flags.expression ≡ true → StopsIn s.text Assignment i u to) → OfLanguage s.text u → ValueRead e new q flags u to P
    value_read e new p q misses position h flags u o to P lean d stops own =
        let v = behind_sign flags u o to P text sign d stops in
        let w = value_only m.text i flags.expression v.spelled misses in
        let k = h as_expression o u to P (value_given p position w.1 (v.stops w.0)) (own_there text own) in
        record { flags_are = flags_are x true w.0 lean; value = k.0.fits; tree = k.0.tree; ends = ends_behind same k.1 }

    -- it is one
    pub arrow_value_settles : (e : CursorState) (new : List Pair) (result : Result Operand Fault) (fault : Fault) (p : ExpressionContext) (q : Operand) (at : CursorState) → Misses m.text Punctuator (codes "{") m.last → p ≡ record { rank = Assignment; has_in = i; start = NoBrace } →
        ExpressionComplete m e mid new inner p (Ok q) → BecomesHere q.cover.node q.cover.shape.is_expression at (Err fault) → ArrowComplete s e old new high parameters start x i result
    arrow_value_settles e new result fault p q at misses position h settled = λ flags u o to P lean d stops own.
        let k = value_read e new p q misses position h flags u o to P lean d stops own in
        absurd (false≢true (sym settled.1 ∙ k.value))

    -- it is too high
    pub arrow_value_high : (e : CursorState) (new : List Pair) (result : Result Operand Fault) (fault : Fault) (p : ExpressionContext) (q : Operand) (n : Tree) (ps : Parts) (g : Flags) (st en : ℕ) → IsErrAnd result (λ z. z ≡ fault) → Misses m.text Punctuator (codes "{") m.last →
        p ≡ record { rank = Assignment; has_in = i; start = NoBrace } → ExpressionComplete m e mid new inner p (Ok q) → n ≡ q.cover.node → ps ≡ push parameters n → Makes (node ArrowFunctionExpression [] g st en ps) high (Err fault) → ArrowComplete s e old new high parameters start x i result
    arrow_value_high e new result fault p q n ps g st en is misses position h settled pushed made = λ flags u o to P lean d stops own.
        let k = value_read e new p q misses position h flags u o to P lean d stops own in
        let whole = node ArrowFunctionExpression [] flags start to.stop (push parameters u) in
        let levels : height (node ArrowFunctionExpression [] g st en ps) ≡ height whole = ap (λ x. suc (parts_height x)) (pushed ∙ ap (push parameters) (settled ∙ k.tree)) in
        agrees_err (Room s o (height whole) high) (λ (z : Operand). (z.cover.node ≡ whole) × EndsWith s e old new to P) result fault is
        (refuses_high (Room s o (height whole) high) (height (node ArrowFunctionExpression [] g st en ps)) high fault made.0 made.1 (λ room. subst (λ x. x ≤ high) (sym levels) room.1))

    -- it is answered
    pub arrow_value_done : (e : CursorState) (new : List Pair) (p : ExpressionContext) (q : Operand) (n v : Tree) (ps : Parts) (k : Operand) → Misses m.text Punctuator (codes "{") m.last → p ≡ record { rank = Assignment; has_in = i; start = NoBrace } → ExpressionComplete m e mid new inner p (Ok q) → n ≡ q.cover.node →
        ps ≡ push parameters n → v ≡ node ArrowFunctionExpression [] (concise x) start e.last.stop ps → k ≡ plain_part v Assignment q.edge → ArrowComplete s e old new high parameters start x i (Ok k)
    arrow_value_done e new p q n v ps k misses position h settled pushed tree part_is = λ flags u o to P lean d stops own.
        let k = value_read e new p q misses position h flags u o to P lean d stops own in
        let nodes : ps ≡ push parameters u = pushed ∙ ap (push parameters) (settled ∙ k.tree) in
        (ap (λ (y : Operand). y.cover.node) part_is ∙ tree ∙ (λ j. node ArrowFunctionExpression [] (sym k.flags_are j) start (ap (λ (t : Token). t.stop) k.ends.place j) (nodes j)), k.ends)
