-- A statement that is given and begins with an expression: what that is, and a label's `:` or the end of the statement behind it (ECMA-262 13.5, 13.13).
use Rattle.std.proofs.Common.{◌≡◌, ℕ, suc, ◌≤◌, arith, Bool, true, false, List, [], ◌++◌, refl, sym, ap, ◌∙◌, subst}
use Rattle.std.specs.Prelude.{IsTrue, codes}
use Rattle.std.proofs.lemmas.Bool.{false≢true}
use Rattle.std.proofs.lemmas.List.{append-nil}
use Rattle.tokens.specs.declared.token.TokenClass.TheVariants.{Punctuator}
use Rattle.tokens.specs.declared.token.Goal.{Goal}
use Rattle.tokens.specs.Goals.{allows}
use Rattle.tree.specs.declared.kind.Kind.TheVariants as kind
use Rattle.tree.specs.declared.kind.Flags.{Flags}
use Rattle.tree.specs.declared.kind.Pair.{Pair}
use Rattle.tree.specs.Tree.{Tree, node, Parts, none, part, plain, bare_parts, height, parts_height, kind_of, text_of}
use Rattle.language.specs.declared.Edge.{Edge}
use Rattle.language.specs.declared.Edge.TheVariants.{Closed}
use Rattle.language.specs.declared.Rank.TheVariants.{Expression, Grouped}
use Rattle.language.specs.declared.Start.TheVariants.{Any, Statement}
use Rattle.language.specs.Vocabulary.{is}
use Rattle.language.specs.Edges.{edge, last_edge}
use Rattle.language.specs.Following.{Followed, may_follow}
use Rattle.language.specs.Pieces.{Role, expr, name, directive_string, ending, behind}
use Rattle.language.specs.Statements.{is_string_literal, first_is_string}
use Rattle.language.specs.Token.{Token}
use Rattle.language.specs.Covers.{as_expression}
use Rattle.language.specs.Derivation.{Step, Placed, explicit, implicit}
use Rattle.language.proofs.climbing.AsExpressions.{name_expression, quoted_form, quoted_expression, group_expression}
use Rattle.language.proofs.table.BareEdges.{edge_bare}
use Rattle.language.proofs.table.Beginnings.{OtherWay, a_label, evaluated, a_directive, a_group, directive_flags}
use Rattle.language.proofs.statements.StatementFollow.{idle_stops, end_stops}
use Rattle.language.proofs.table.ForDeclarationWays.{two_signs}
use Rattle.language.proofs.list_loops.FirstPieces.{run_laid, run_token, run_part}
use Rattle.language.proofs.list_loops.PiecesSoFar.{run_end}
use Rattle.recursive_descent.proofs.complete_subscripts.SubscriptsGiven.{alike}
use Rattle.token_cursor.proofs.SeenTokens.{seen_determined}
use Rattle.parser_tables.specs.declared.expression_context.ExpressionContext.{ExpressionContext}
use Rattle.parser_tables.specs.declared.statements.StatementKind.TheVariants as headed
use Rattle.recursive_descent.specs.Completeness.{GivenAs, an_expression, StopsIn, FinishedIn}
use Rattle.parser_tables.specs.StatementSymbols.{statement_parts}
use Rattle.token_cursor.specs.Seen.{Sees, Misses}
use Rattle.recursive_descent.proofs.complete_expressions.Agreement.{read_here}
use Rattle.recursive_descent.proofs.complete_statements.SymbolSteps.{PiecesFrom, mark_first, last_part, last_statement}
use Rattle.token_cursor.specs.SourceText.{SourceText, SeenNext, behind_in}
use Rattle.recursive_descent.specs.Spelled.{SpellsIn}

-- the position of a statement's expression
abbrev pub at_statement : ExpressionContext
at_statement = record { rank = Expression; has_in = true; start = Statement }

module _ (text : SourceText) where
  abbrev FollowedIn : Token → Type 0
  FollowedIn e = Followed Token (SeenNext text) (behind_in text) false e

  -- no `:` stands where a statement ends
  colon_semicolon : codes ":" ≡ codes ";" → ⊥
  colon_semicolon h = false≢true (ap (λ w. is w ";") h)

  colon_follows : (t : Token) → t.class ≡ Punctuator → t.text ≡ codes ":" → may_follow false t ≡ false
  colon_follows t c w = ap (λ x. may_follow false (record { class = x; text = t.text; start = 0; stop = 0; after_break = false })) c ∙ ap (λ x. may_follow false (record { class = Punctuator; text = x; start = 0; stop = 0; after_break = false })) w

  pub no_colon : {x : Edge} {a c : Token} → Step Token (SeenNext text) (behind_in text) (ending (behind x)) a c → FollowedIn c → Misses text Punctuator (codes ":") a
  no_colon (explicit k) fine t m r = colon_semicolon (two_signs Token (SeenNext text) (behind_in text) (seen_determined text) refl refl r k).0
  no_colon {x} {a} (implicit nx k) fine t m r =
      let al : IsTrue (allows Goal.RegExp t.class t.text) = subst (λ c. IsTrue (allows Goal.RegExp c t.text)) (sym r.class) (subst (λ w. IsTrue (allows Goal.RegExp Punctuator w)) (sym r.text) refl) in
      let same = ((seen_determined text).same Goal.RegExp a fine.token t fine.mid m fine.read.next r.next fine.read.allowed al).0 in
      false≢true (sym (colon_follows t r.class r.text) ∙ ap (may_follow false) (sym same) ∙ fine.follows)

  -- Which way an expression is a statement: as any; in a prologue a string by itself is a directive, and one in parentheses isn't.
  pub data EndedBy (p : Bool) (o : ℕ) (item : Tree) (s mid : Token) (one : List Pair) : Flags → Type 0 where
    by_itself : (p ≡ true → is_string_literal (kind_of item) (text_of item) ≡ false) → EndedBy p o item s mid one plain
    by_string : p ≡ true → is_string_literal (kind_of item) (text_of item) ≡ true → SpellsIn text o directive_string item s mid one → EndedBy p o item s mid one directive_flags
    by_group : p ≡ true → is_string_literal (kind_of item) (text_of item) ≡ true → SpellsIn text o (expr Grouped true Any) item s mid one → EndedBy p o item s mid one plain

  -- how a statement goes on behind its expression
  pub data LedOn (p r : Bool) (o : ℕ) (a : Role) (n item : Tree) (s mid to : Token) (one P : List Pair) : Type 0 where
    by_label : {st en : ℕ} (added : Parts) (more : List Pair) → n ≡ node kind.LabeledStatement [] plain st en (part item added) → Placed Token (SeenNext text) (behind_in text) a n s to → SpellsIn text o name item s mid one → Sees text Punctuator (codes ":") mid →
        PiecesFrom text r o (statement_parts headed.Label r) mid to Closed added more → P ≡ one ++ more → LedOn p r o a n item s mid to one P
    by_end : {st en : ℕ} (g : Flags) → n ≡ node kind.ExpressionStatement [] g st en (part item none) → Placed Token (SeenNext text) (behind_in text) a n s to → Step Token (SeenNext text) (behind_in text) (ending (behind (edge item))) mid to → Misses text Punctuator (codes ":") mid →
        EndedBy p o item s mid one g → P ≡ one → LedOn p r o a n item s mid to one P

  -- its expression, which can't go on
  pub record LedGiven (p r : Bool) (o : ℕ) (a : Role) (n : Tree) (s to : Token) (P : List Pair) : Type 0 where
    pub item : Tree
    pub mid : Token
    pub one : List Pair
    pub given : GivenAs text at_statement o item s mid one as_expression
    pub low : suc (height item) ≤ height n
    pub way : LedOn p r o a n item s mid to one P

  end_of_one : (n : Tree) {qs ps : Parts} {k e : Token} → qs ≡ part n ps → ps ≡ none → Step Token (SeenNext text) (behind_in text) (ending (behind (last_edge (bare_parts qs)))) k e → Step Token (SeenNext text) (behind_in text) (ending (behind (edge n))) k e
  end_of_one n {k = k} {e} parts alone end = subst (λ x. Step Token (SeenNext text) (behind_in text) (ending (behind x)) k e) (ap (λ x. last_edge (bare_parts x)) (parts ∙ ap (part n) alone) ∙ edge_bare n) end

  stops_at_end : (n : Tree) {k e : Token} → Step Token (SeenNext text) (behind_in text) (ending (behind (edge n))) k e → FollowedIn e → StopsIn text Expression true n k
  stops_at_end n end fine = end_stops Token (SeenNext text) (behind_in text) (seen_determined text) (alike text) Expression true n end fine

  bare_string : (n : Tree) {b : Bool} {qs : Parts} → qs ≡ part n none → first_is_string (bare_parts qs) ≡ b → is_string_literal (kind_of n) (text_of n) ≡ b
  bare_string n {b} {qs} parts h = of n (sym (ap (λ x. first_is_string (bare_parts x)) parts) ∙ h)
    where
      of : (m : Tree) → first_is_string (bare_parts (part m none)) ≡ b → is_string_literal (kind_of m) (text_of m) ≡ b
      of (node k w g st en ps) h = h

  module _ {a : Role} {p r : Bool} {o : ℕ} {n : Tree} {s to : Token} {P : List Pair} (fine : FinishedIn text n to) where
    -- an expression with its end
    led_ended : {st en : ℕ} {ps : Parts} (g : Flags) (item : Tree) (mid : Token) (one : List Pair) → n ≡ node kind.ExpressionStatement [] g st en ps → ps ≡ part item none → Placed Token (SeenNext text) (behind_in text) a n s to → SpellsIn text o (expr Expression true Statement) item s mid one →
        Step Token (SeenNext text) (behind_in text) (ending (behind (edge item))) mid to → EndedBy p o item s mid one g → P ≡ one → LedGiven p r o a n s to P
    led_ended {st} {en} {ps} g item mid one tree parts there spelled end sort pairs =
        let whole : n ≡ node kind.ExpressionStatement [] g st en (part item none) = tree ∙ ap (λ k. node kind.ExpressionStatement [] g st en k) parts in
        let tall : height n ≡ suc (parts_height (part item none)) = ap height whole in
        let last : FollowedIn to = subst (λ k. FinishedIn text k to) whole fine in
        record { item = item; mid = mid; one = one; given = an_expression (λ q. cc) (λ q. cc) spelled (stops_at_end item end last); low = omega arith; way = by_end g whole there end (no_colon end last) sort pairs }

    pub led_given : OtherWay Token (SeenNext text) (behind_in text) (seen_determined text) p r o a n s to P → LedGiven p r o a n s to P
    led_given (a_label {st} {en} {ps} tree there run) =
        let v = run_part Token (SeenNext text) (behind_in text) run in
        let t = run_token Token (SeenNext text) (behind_in text) v.runs in
        let l = last_part text (run_laid Token (SeenNext text) (behind_in text) t.runs) in
        let whole : n ≡ node kind.LabeledStatement [] plain st en (part v.item v.rest) = tree ∙ ap (λ k. node kind.LabeledStatement [] plain st en k) v.parts in
        let last : FinishedIn text l.item to = subst (λ k. FinishedIn text k to) (whole ∙ ap (λ k. node kind.LabeledStatement [] plain st en (part v.item k)) l.parts) fine in
        let tall : height n ≡ suc (parts_height (part v.item v.rest)) = ap height whole in
        record {
          item = v.item;
          mid = v.mid;
          one = v.one;
          given = an_expression (λ q. cc) (λ q. cc) (name_expression Token (SeenNext text) (behind_in text) (seen_determined text) v.spelled) (idle_stops Token (SeenNext text) (behind_in text) (seen_determined text) Expression true v.item refl (λ x b. refl) t.reads);
          low = omega arith;
          way = by_label v.rest v.more whole there v.spelled (t.mid, read_here text t.reads) (mark_first (read_here text t.reads) (last_statement text Closed l last)) v.pairs;
        }
    led_given (evaluated {st} {en} {ps} tree there single run) =
        let v = run_part Token (SeenNext text) (behind_in text) run in
        let z = run_end Token (SeenNext text) (behind_in text) (seen_determined text) v.runs in
        let parts : ps ≡ part v.item none = v.parts ∙ ap (part v.item) z.parts in
        led_ended plain v.item v.mid v.one tree parts there v.spelled (end_of_one v.item v.parts z.parts z.ends) (by_itself (λ h. bare_string v.item parts (single h))) (v.pairs ∙ ap (λ k. v.one ++ k) z.pairs ∙ append-nil v.one)
    led_given (a_directive {st} {en} {ps} first tree there string run) =
        let v = run_part Token (SeenNext text) (behind_in text) run in
        let z = run_end Token (SeenNext text) (behind_in text) (seen_determined text) v.runs in
        let parts : ps ≡ part v.item none = v.parts ∙ ap (part v.item) z.parts in
        let q = quoted_form Token (SeenNext text) (behind_in text) (seen_determined text) v.spelled in
        let end : Step Token (SeenNext text) (behind_in text) (ending (behind (edge v.item))) v.mid to = subst (λ x. Step Token (SeenNext text) (behind_in text) (ending (behind x)) v.mid to) (sym (ap edge q.tree)) z.ends in
        led_ended directive_flags v.item v.mid v.one tree parts there (quoted_expression Token (SeenNext text) (behind_in text) (seen_determined text) v.spelled) end (by_string first (bare_string v.item parts string) v.spelled) (v.pairs ∙ ap (λ k. v.one ++ k) z.pairs ∙ append-nil v.one)
    led_given (a_group {st} {en} {ps} first tree there string run) =
        let v = run_part Token (SeenNext text) (behind_in text) run in
        let z = run_end Token (SeenNext text) (behind_in text) (seen_determined text) v.runs in
        let parts : ps ≡ part v.item none = v.parts ∙ ap (part v.item) z.parts in
        led_ended plain v.item v.mid v.one tree parts there (group_expression Token (SeenNext text) (behind_in text) (seen_determined text) v.spelled) (end_of_one v.item v.parts z.parts z.ends) (by_group first (bare_string v.item parts string) v.spelled) (v.pairs ∙ ap (λ k. v.one ++ k) z.pairs ∙ append-nil v.one)
