-- A statement that is given whose first token is its own: its node, and its pieces behind that token (ECMA-262 13, 14.1, 14.6).
use Rattle.std.proofs.Common.{◌≡◌, inl, inr, ℕ, suc, ◌-◌, ◌≤◌, ◌<◌, arith, Bool, true, false, List, [], Result, refl, sym, ap, ◌∙◌, subst}
use Rattle.std.specs.Prelude.{codes}
use Rattle.std.proofs.lemmas.Bool.{false≢true}
use Rattle.std.specs.Result.{IsErrAnd}
use Rattle.source_text.specs.declared.fault.Fault.{Fault}
use Rattle.tokens.specs.declared.token.TokenClass.TheVariants.{Keyword}
use Rattle.tokens.specs.declared.token.Goal.{Goal}
use Rattle.tokens.specs.declared.token.Token.{Token as Scanned}
use Rattle.tokens.specs.Scanned.{token_of}
use Rattle.token_cursor.specs.CursorState.{CursorState, IsAhead}
use Rattle.tree.specs.declared.kind.Form.{Form}
use Rattle.tree.specs.declared.kind.Form.TheVariants as form
use Rattle.tree.specs.declared.kind.Form.TheVariants.{Init, Generator, Async, AsyncGenerator}
use Rattle.tree.specs.Uses.{is_init, is_async}
use Rattle.tree.specs.declared.kind.Kind.{Kind}
use Rattle.tree.specs.declared.kind.Kind.TheVariants as kind
use Rattle.tree.specs.declared.kind.Pair.{Pair}
use Rattle.tree.specs.Tree.{Tree, node, Parts, none, part, gap, plain, bare_parts, height, parts_height}
use Rattle.language.specs.declared.Edge.TheVariants.{Closed}
use Rattle.language.specs.declared.Rank.TheVariants.{Expression}
use Rattle.language.specs.declared.Start.TheVariants.{Any}
use Rattle.language.specs.Expressions.{function_words}
use Rattle.language.specs.Later.{is_later_form}
use Rattle.language.specs.Languages.{is_of_2022}
use Rattle.language.specs.StatementStart.{StatementStart, a_block, an_empty, a_variable, an_if, a_do, a_while, a_for, a_continue, a_break, a_return, a_throw, a_switch, a_try, a_debugger, a_function, a_class, an_expression, is_own, statement_start}
use Rattle.language.specs.Pieces.{Role}
use Rattle.language.specs.Promises.{ReadBy}
use Rattle.language.specs.Token.{Token, as_read}
use Rattle.language.specs.Derivation.{Placed}
use Rattle.language.specs.Following.{Finished}
use Rattle.language.specs.Claims.{max_open}
use Rattle.language.proofs.table.Beginnings.{text_as, own_way, LaterWay, later_for, later_generator, later_async, later_next, form_flags}
use Rattle.language.proofs.table.Begins.{goes_to}
use Rattle.language.proofs.table.Begins as begins
use Rattle.language.proofs.table.ItemTokens.{item_starts}
use Rattle.language.proofs.table.OwnTokenWays.{own_sole, statement_spans}
use Rattle.language.proofs.list_loops.FirstPieces.{run_token, run_laid, run_never}
use Rattle.language.proofs.table.SoleWays.{same_span, place_node}
use Rattle.language.proofs.table.StatementWays.{kind_as, begins_as, behind_own, for_of_pieces}
use Rattle.token_cursor.proofs.SeenTokens.{seen_determined}
use Rattle.parser_tables.specs.declared.functions_and_classes.FunctionOrClass.{FunctionOrClass}
use Rattle.parser_tables.specs.declared.functions_and_classes.FunctionOrClass.TheVariants as closure
use Rattle.parser_tables.specs.declared.statements.StatementStart.TheVariants as code
use Rattle.parser_tables.specs.declared.statements.StatementContext.{StatementContext}
use Rattle.parser_tables.specs.declared.statements.StatementKind.{StatementKind}
use Rattle.parser_tables.specs.declared.statements.StatementKind.TheVariants as headed
use Rattle.parser_tables.specs.StatementStarts.{coded_statement_start, NotBegun, BegunWith, NoAsyncFunction}
use Rattle.recursive_descent.specs.Complete.{FunctionOrClassComplete, StatementComplete}
use Rattle.recursive_descent.specs.Soundness.{RunsIn, anywhere}
use Rattle.recursive_descent.specs.SoundnessOfStatements.{context_role, closure_pieces, behind_words, begins_with_part}
use Rattle.recursive_descent.specs.Later.{WordsOf, StarTold, is_starred, behind_first}
use Rattle.recursive_descent.specs.Completeness.{Room, EndsWith, FinishedIn}
use Rattle.parser_tables.specs.StatementSymbols.{statement_parts, function_or_class_kind, function_or_class_flags}
use Rattle.parser_tables.specs.StatementNodes.{statement_node_kind}
use Rattle.recursive_descent.proofs.complete_expressions.Agreement.{agrees_err, refuses_high, ends_behind, not_missed, read_here, agrees_map}
use Rattle.recursive_descent.proofs.complete_expressions.FunctionsAndClassesGiven.{no_star_behind}
use Rattle.recursive_descent.proofs.complete_expressions.StartsGiven.{later_language}
use Rattle.recursive_descent.proofs.complete_statements.DeclarationsGiven.{item_declaration, WordsRead, words_read, same_words, FunctionTold, function_told, async_told}
use Rattle.recursive_descent.proofs.sound_statements.OwnTokenStatements.{coded_closure}
use Rattle.token_cursor.proofs.TokensAhead.{ahead_read}
use Rattle.recursive_descent.proofs.sound_statements.WholeStatements.{context_stands, headed_of, headed_begins, headed_text, text_told}
use Rattle.recursive_descent.proofs.complete_statements.ConditionStatements.{while_given, do_given, if_given}
use Rattle.recursive_descent.proofs.complete_statements.ListStatements.{block_given, variable_given, switch_given, try_given}
use Rattle.recursive_descent.proofs.complete_statements.ForStatements.{ForGiven, for_in_given, for_of_given, for_loop_given}
use Rattle.recursive_descent.proofs.complete_statements.SymbolSteps.{PiecesFrom}
use Rattle.recursive_descent.proofs.complete_statements.KeywordStatementsGiven.{empty_given, debugger_given, continue_given, break_given, return_given, throw_given}
use Rattle.token_cursor.specs.Seen.{Misses}
use Rattle.token_cursor.specs.SourceText.{SourceText, SeenNext, behind_in, unseen}
use Rattle.recursive_descent.specs.Spelled.{SpellsIn, OfLanguage, AllOfLanguage}
use Rattle.recursive_descent.proofs.reading.LanguageTrees.{parts_of_language, kind_of_language}

is_headed : (b : StatementStart) (h : StatementKind) → code.OfKind h ≡ coded_statement_start b → is_own b ≡ true
is_headed a_function h q = refl
is_headed a_class h q = refl
is_headed an_expression h q = cc
is_headed _ h q = refl

-- the kinds that a `for` has
abbrev is_for : Kind → Bool
is_for kind.ForStatement = true
is_for kind.ForInStatement = true
is_for kind.ForOfStatement = true
is_for _ = false

for_only : (k : Kind) → begins_as k ≡ a_for → is_for k ≡ true
for_only kind.ForStatement h = refl
for_only kind.ForInStatement h = refl
for_only kind.ForOfStatement h = refl
for_only _ h = cc

class_other : a_class ≡ a_for → ⊥
class_other h = cc

-- the pieces of a statement, by its first token
record OwnFrom (text : SourceText) (r : Bool) (o : ℕ) (m e : Token) (P : List Pair) (h : StatementKind) (b : StatementStart) (ps : Parts) : Type 0 where
  pieces : PiecesFrom text r o (statement_parts h r) m e Closed ps P
  kind_is : statement_node_kind h ≡ kind_as b
  named : (w : List ℕ) → headed_text h w ≡ text_as b w

module _ (text : SourceText) (r : Bool) {o : ℕ} {m e : Token} {P : List Pair} where
  turned : {h k : StatementKind} {b : StatementStart} {ps : Parts} → h ≡ k → OwnFrom text r o m e P k b ps → OwnFrom text r o m e P h b ps
  turned {b = b} {ps} q u = subst (λ j. OwnFrom text r o m e P j b ps) (sym q) u

  own_from : (b : StatementStart) (h : StatementKind) (w : List ℕ) (st en : ℕ) (ps : Parts) → code.OfKind h ≡ coded_statement_start b → (h ≡ headed.For → ⊥) → FinishedIn text (node (kind_as b) w plain st en ps) e → RunsIn text o (anywhere (behind_own r (kind_as b) (bare_parts ps))) ps m e P → OwnFrom text r o m e P h b ps
  own_from a_block h w st en ps q loop fine d = turned (ap headed_of q) (record { pieces = block_given text r Closed ps d; kind_is = refl; named = λ v. refl })
  own_from an_empty h w st en ps q loop fine d = turned (ap headed_of q) (record { pieces = empty_given text r ps d; kind_is = refl; named = λ v. refl })
  own_from a_variable h w st en ps q loop fine d = turned (ap headed_of q) (record { pieces = variable_given text r Closed ps fine d; kind_is = refl; named = λ v. refl })
  own_from an_if h w st en ps q loop fine d = turned (ap headed_of q) (record { pieces = if_given text r Closed ps fine d; kind_is = refl; named = λ v. refl })
  own_from a_do h w st en ps q loop fine d = turned (ap headed_of q) (record { pieces = do_given text r Closed ps d; kind_is = refl; named = λ v. refl })
  own_from a_while h w st en ps q loop fine d = turned (ap headed_of q) (record { pieces = while_given text r Closed ps fine d; kind_is = refl; named = λ v. refl })
  own_from a_for h w st en ps q loop fine d = absurd (loop (ap headed_of q))
  own_from a_continue h w st en ps q loop fine d = turned (ap headed_of q) (record { pieces = continue_given text r ps fine d; kind_is = refl; named = λ v. refl })
  own_from a_break h w st en ps q loop fine d = turned (ap headed_of q) (record { pieces = break_given text r ps fine d; kind_is = refl; named = λ v. refl })
  own_from a_return h w st en ps q loop fine d = turned (ap headed_of q) (record { pieces = return_given text r ps fine d; kind_is = refl; named = λ v. refl })
  own_from a_throw h w st en ps q loop fine d = turned (ap headed_of q) (record { pieces = throw_given text r ps fine d; kind_is = refl; named = λ v. refl })
  own_from a_switch h w st en ps q loop fine d = turned (ap headed_of q) (record { pieces = switch_given text r Closed ps d; kind_is = refl; named = λ v. refl })
  own_from a_try h w st en ps q loop fine d = turned (ap headed_of q) (record { pieces = try_given text r Closed ps fine d; kind_is = refl; named = λ v. refl })
  own_from a_debugger h w st en ps q loop fine d = turned (ap headed_of q) (record { pieces = debugger_given text r ps d; kind_is = refl; named = λ v. refl })
  own_from a_function h w st en ps q loop fine d = cc
  own_from a_class h w st en ps q loop fine d = cc
  own_from an_expression h w st en ps q loop fine d = cc

  -- a `for`, by its kind
  for_from : (k : Kind) (ps : Parts) → begins_as k ≡ a_for → FinishedIn text (node k [] plain 0 0 ps) e → RunsIn text o (anywhere (behind_own r k (bare_parts ps))) ps m e P → (what : StatementKind) × (statement_node_kind what ≡ k) × ((w : List ℕ) → headed_text what w ≡ []) × ForGiven text r o what Closed ps m e P
  for_from kind.ForStatement ps loop fine d = (headed.ForLoop, refl, (λ w. refl), for_loop_given text r Closed ps fine d)
  for_from kind.ForInStatement ps loop fine d = (headed.ForIn, refl, (λ w. refl), for_in_given text r Closed ps fine d)
  for_from kind.ForOfStatement ps loop fine d = (headed.ForOf, refl, (λ w. refl), for_of_given text r Closed ps fine d)
  for_from k ps loop fine d = absurd (false≢true (for_only k loop))

  -- a declaration behind its word
  class_given : (ps : Parts) → RunsIn text o (anywhere (behind_own r kind.ClassDeclaration (bare_parts ps))) ps m e P → (begins_with_part ps ≡ true) × RunsIn text o (anywhere (closure_pieces closure.ClassDeclaration ps)) ps m e P
  class_given (part n none) d = (refl, run_laid Token (SeenNext text) (behind_in text) d)
  class_given (part n (gap ps)) d = (refl, run_laid Token (SeenNext text) (behind_in text) d)
  class_given (part n (part k ps)) d = (refl, run_laid Token (SeenNext text) (behind_in text) d)
  class_given none d = absurd (run_never Token (SeenNext text) (behind_in text) d)
  class_given (gap ps) d = absurd (run_never Token (SeenNext text) (behind_in text) d)

async_later : (x : Form) → is_async x ≡ true → is_later_form x ≡ true
async_later Async h = refl
async_later AsyncGenerator h = refl
async_later _ h = absurd (false≢true h)

module _ (text : SourceText) (c : StatementContext) (t : Scanned) (s : Token) (ahead : IsAhead Goal.RegExp text s.stop (token_of t)) where
  abbrev pub Start : Token
  Start = as_read (token_of t)

  -- the place behind it
  abbrev pub Behind : Token
  Behind = unseen Start

  pub read : ReadBy Token (SeenNext text) (behind_in text) Goal.RegExp s Start Behind
  read = ahead_read text Goal.RegExp s (token_of t) ahead

  -- its places
  spans : {k : Kind} {w : List ℕ} {st en : ℕ} {ps : Parts} {n : Tree} {to : Token} → n ≡ node k w plain st en ps → Placed Token (SeenNext text) (behind_in text) (context_role c) n s to → (st ≡ t.start) × (en ≡ to.stop)
  spans {k = k} {w} {st} {en} {ps} {n} {to} tree there =
      same_span Token (SeenNext text) (behind_in text) (seen_determined text) {a = context_role c} (statement_spans (context_stands c)) (subst (λ v. Placed Token (SeenNext text) (behind_in text) (context_role c) v s to) tree there)
      (place_node Token (SeenNext text) (behind_in text) (seen_determined text) {k = k} {w = w} {g = plain} {ps = ps} (statement_spans (context_stands c)) read.next) refl

  -- a statement with its pieces, but for a `for`
  pub record OwnTold (h : StatementKind) (o : ℕ) (n : Tree) (to : Token) (P : List Pair) : Type 0 where
    pub parts : Parts
    pub tree : n ≡ node (statement_node_kind h) (headed_text h t.text.now) plain t.start to.stop parts
    pub pieces : PiecesFrom text c.returns o (statement_parts h c.returns) Behind to Closed parts P

  -- no other statement begins so
  abbrev Later : ℕ → Tree → Token → List Pair → StatementStart → Type 0
  Later o n to P b = LaterWay Token (SeenNext text) (behind_in text) (seen_determined text) c.returns o (context_role c) Start Behind n s to P b

  none_later : {b : StatementStart} {h : StatementKind} → code.OfKind h ≡ coded_statement_start b → (h ≡ headed.For → ⊥) → {o : ℕ} {n : Tree} {to : Token} {P : List Pair} → Later o n to P b → ⊥
  none_later coded loop (later_for z tree pl run) = loop (ap headed_of coded)
  none_later coded loop (later_generator tree pl run) = cc
  none_later coded loop (later_async k w z tree pl run) = cc

  -- so with what it begins with
  own_by : (b : StatementStart) (h : StatementKind) {o : ℕ} {n : Tree} {to : Token} {P : List Pair} → statement_start c.is_item c.returns Start ≡ b → code.OfKind h ≡ coded_statement_start b → headed_text h t.text.now ≡ headed_text h Start.text → (h ≡ headed.For → ⊥) → SpellsIn text o (context_role c) n s to P → FinishedIn text n to → OwnTold h o n to P
  own_by b h {o} {n} {to} {P} begun coded same loop spelled fine =
      let told = (own_sole Token (SeenNext text) (behind_in text) (seen_determined text) {Fine = Finished Token (SeenNext text) (behind_in text)} (context_stands c) read b begun (is_headed b h coded) (λ k. loop (ap headed_of (coded ∙ ap coded_statement_start k))) (λ o n e P w. none_later coded loop w)).told spelled fine in
      let v = own_from text c.returns b h (text_as b Start.text) told.st told.en told.parts coded loop (subst (λ k. FinishedIn text k to) told.tree fine) told.runs in
      let place = spans told.tree told.placed in
      let word : text_as b Start.text ≡ headed_text h t.text.now = sym (same ∙ v.named Start.text) in
      record { parts = told.parts; tree = told.tree ∙ (λ i. node (sym v.kind_is i) (word i) plain (place.0 i) (place.1 i) told.parts); pieces = v.pieces }

  pub own_told : (h : StatementKind) {o : ℕ} {n : Tree} {to : Token} {P : List Pair} → code.OfKind h ≡ coded_statement_start (statement_start c.is_item c.returns Start) → (h ≡ headed.For → ⊥) → SpellsIn text o (context_role c) n s to P → FinishedIn text n to → OwnTold h o n to P
  own_told h coded = own_by (statement_start c.is_item c.returns Start) h refl coded (text_told c.is_item c.returns t h (sym (headed_begins (statement_start c.is_item c.returns Start) h coded)))

  -- a `for`
  pub record ForTold (o : ℕ) (n : Tree) (to : Token) (P : List Pair) : Type 0 where
    pub what : StatementKind
    pub parts : Parts
    pub tree : n ≡ node (statement_node_kind what) (headed_text what t.text.now) plain t.start to.stop parts
    pub pieces : ForGiven text c.returns o what Closed parts Behind to P

  -- an async function begins with these two words
  pub no_async : (is_of_2022 text.language ≡ true → c.is_item ≡ true → NoAsyncFunction text s) → {b : StatementStart} → b ≡ an_expression → {o : ℕ} {n : Tree} {to : Token} {P : List Pair} → SpellsIn text o (context_role c) n s to P → OfLanguage text n → Later o n to P b → ⊥
  no_async other is spelled own (later_for z tree pl run) = cc
  no_async other is spelled own (later_generator tree pl run) = cc
  no_async other is {o} {n} {to} {P} spelled own (later_async {z = z} {st = st} {en = en} {ps = ps} class word h tree pl run) =
      let next = later_next Token (SeenNext text) (behind_in text) (seen_determined text) {r = c.returns} {o = o} {a = context_role c} {t = Start} {m = Behind} {n = n} {s = s} {e = to} {P = P} (later_async class word h tree pl run) in
      let line : next.1.after_break ≡ false = ap (λ (x : Token). x.after_break) ((seen_determined text).last Behind next.0 next.1 next.2.next) ∙ next.3 in
      other (later_language text.language (λ b. false≢true (sym (kind_of_language (subst (OfLanguage text) tree own) b) ∙ async_later z h))) (item_declaration text (context_stands c) (subst (λ x. SpellsIn text o (context_role c) x s to P) tree spelled))
      (record { mid = Behind; async = read_here text (record { next = read.next; class = class; text = word }); behind = next.1; function = read_here text next.2; same_line = line })

  -- where no `await` stands behind its word
  no_await : Misses text Keyword (codes "await") Behind → {b : StatementStart} → b ≡ a_for → {o : ℕ} {n : Tree} {to : Token} {P : List Pair} → Later o n to P b → ⊥
  no_await missed is {o} {n} {to} {P} (later_for {z = z} h tree pl run) = of z h run
    where
      of : (z : Form) {ps : Parts} → is_init z ≡ false → RunsIn text o (begins.behind_first (goes_to Expression true Any (for_of_pieces c.returns z (bare_parts ps)))) ps Behind to P → ⊥
      of Init h run = false≢true (sym h)
      of Async h run = not_missed missed (run_token Token (SeenNext text) (behind_in text) (run_laid Token (SeenNext text) (behind_in text) run)).reads
      of _ h run = run_never Token (SeenNext text) (behind_in text) (run_laid Token (SeenNext text) (behind_in text) run)
  no_await missed is (later_generator tree pl run) = cc
  no_await missed is (later_async k w z tree pl run) = cc

  pub for_told : {o : ℕ} {n : Tree} {to : Token} {P : List Pair} → Misses text Keyword (codes "await") Behind → statement_start c.is_item c.returns Start ≡ a_for → SpellsIn text o (context_role c) n s to P → FinishedIn text n to → ForTold o n to P
  for_told {o} {n} {to} {P} missed begun spelled fine =
      let w = own_way Token (SeenNext text) (behind_in text) (seen_determined text) (context_stands c) read begun refl (no_await missed refl) spelled in
      let v = for_from text c.returns w.kind w.parts w.begins (subst (λ k. FinishedIn text k to) w.tree fine) w.runs in
      let place = spans w.tree w.placed in
      record { what = v.0; parts = w.parts; tree = w.tree ∙ (λ i. node (sym v.1 i) (sym (v.2 t.text.now) i) plain (place.0 i) (place.1 i) w.parts); pieces = v.3 }

-- a function or a class that is declared, behind its words
record ClosureTold (text : SourceText) (o : ℕ) (a : Role) (v : FunctionOrClass) (n : Tree) (s k to : Token) (P : List Pair) : Type 0 where
  st : ℕ
  en : ℕ
  parts : Parts
  tree : n ≡ node (function_or_class_kind v) [] (function_or_class_flags v) st en parts
  placed : Placed Token (SeenNext text) (behind_in text) a n s to
  named : begins_with_part parts ≡ true
  runs : RunsIn text o (anywhere (closure_pieces v parts)) parts k to P

pub starred_later : (x : Form) → is_starred x ≡ true → is_later_form x ≡ true
starred_later Generator h = refl
starred_later AsyncGenerator h = refl
starred_later _ h = absurd (false≢true h)

-- a function, by the words that the code went past
function_told_so : {text : SourceText} {o : ℕ} {a : Role} {n : Tree} {s to : Token} {P : List Pair} (m k : CursorState) (x : Form) (v : FunctionOrClass) → m.text ≡ text → OfLanguage text n → WordsOf (closure.FunctionDeclaration x) v m k → FunctionTold text (is_async x) o a n s m.last to P → ClosureTold text o a v n s k.last to P
function_told_so {text} {o} {a} {n} {s} {to} {P} m k x (closure.FunctionDeclaration y) same own words f =
    let read : WordsRead text m.last y k.last = words_read text y words.0.0 (subst (λ z. RunsIn z 0 (anywhere (behind_first (function_words y))) none m.last k.last []) same (words.0.1 0)) in
    let told = subst (λ z. StarTold z k.last y) same words.0.2 in
    let own' : OfLanguage text (node kind.FunctionDeclaration [] (form_flags f.form) f.st f.en f.parts) = subst (OfLanguage text) f.tree own in
    let one = same_words text f.behind.words read (words.1 ∙ sym f.async_is) (λ t e r. no_star_behind text f.parts f.behind.runs r)
    (λ bare starred. told.1 bare (later_language text.language (λ b. false≢true (sym (kind_of_language own' b) ∙ starred_later f.form starred)))) in
    record {
      st = f.st;
      en = f.en;
      parts = f.parts;
      tree = f.tree ∙ ap (λ z. node kind.FunctionDeclaration [] (form_flags z) f.st f.en f.parts) (sym one.0);
      placed = f.placed;
      named = f.named;
      runs = subst (λ z. RunsIn text o (anywhere (behind_words f.parts)) f.parts z to P) (sym one.1) f.behind.runs;
    }
function_told_so m k x (closure.Function y) same own words f = (let q = words.0 in cc)
function_told_so m k x (closure.DefaultFunction y) same own words f = (let q = words.0 in cc)
function_told_so m k x (closure.Method y) same own words f = (let q = words.0 in cc)
function_told_so m k x closure.Class same own words f = (let q = words.0 in cc)
function_told_so m k x closure.ClassDeclaration same own words f = (let q = words.0 in cc)
function_told_so m k x closure.DefaultClass same own words f = (let q = words.0 in cc)

closure_is : {a b : FunctionOrClass} → code.FunctionOrClass a ≡ code.FunctionOrClass b → a ≡ b
closure_is q = cc

is_expression_start : (b : StatementStart) → coded_statement_start b ≡ code.Expression → b ≡ an_expression
is_expression_start an_expression h = refl
is_expression_start _ h = cc

module _ (s m k : CursorState) (c : StatementContext) (t : Scanned) (w v : FunctionOrClass) (ahead : IsAhead Goal.RegExp s.text s.last.stop (token_of t)) (begun : BegunWith s.text s.last c.is_item (coded_statement_start (statement_start c.is_item c.returns (as_read (token_of t)))) (code.FunctionOrClass w)) (text : m.text ≡ s.text) (last : m.last ≡ unseen (as_read (token_of t))) (words : WordsOf w v m k) where
  closure_told : {o : ℕ} {n : Tree} {to : Token} {P : List Pair} → SpellsIn s.text o (context_role c) n s.last to P → FinishedIn s.text n to → OfLanguage s.text n → ClosureTold s.text o (context_role c) v n s.last k.last to P
  closure_told {o} {n} {to} {P} spelled fine own = of begun
    where
      start : StatementStart
      start = statement_start c.is_item c.returns (as_read (token_of t))

      here : {b : Bool} → FunctionTold s.text b o (context_role c) n s.last (unseen (as_read (token_of t))) to P → FunctionTold s.text b o (context_role c) n s.last m.last to P
      here {b} f = subst (λ z. FunctionTold s.text b o (context_role c) n s.last z to P) (sym last) f

      of : BegunWith s.text s.last c.is_item (coded_statement_start start) (code.FunctionOrClass w) → ClosureTold s.text o (context_role c) v n s.last k.last to P
      of (inl h) =
          let f = async_told s.text (context_stands c) (read s.text c t s.last ahead) spelled (is_expression_start start h.1) fine h.4.async h.4.function h.4.same_line in
          function_told_so m k form.Async v text own (subst (λ z. WordsOf z v m k) (closure_is h.0) words) (here f)
      of (inr h) = elim (coded_closure w start h.0) [
        | inl u ↦ function_told_so m k form.Init v text own (subst (λ z. WordsOf z v m k) u.1 words) (here (function_told s.text (context_stands c) (read s.text c t s.last ahead) spelled u.0))
        | inr u ↦ (let at : WordsOf closure.ClassDeclaration v m k = subst (λ z. WordsOf z v m k) u.1 words in
            let told = (own_sole Token (SeenNext s.text) (behind_in s.text) (seen_determined s.text) {Fine = Finished Token (SeenNext s.text) (behind_in s.text)} (context_stands c) (read s.text c t s.last ahead) a_class u.0 refl class_other (λ o n e P w. elim w [ ])).told spelled fine in
            let g = class_given s.text c.returns told.parts told.runs in
            subst (λ z. ClosureTold s.text o (context_role c) z n s.last k.last to P) (sym at.0) (subst (λ z. ClosureTold s.text o (context_role c) closure.ClassDeclaration n s.last z to P) (sym (at.1 ∙ last)) (record {
              st = told.st;
              en = told.en;
              parts = told.parts;
              tree = told.tree;
              placed = told.placed;
              named = g.0;
              runs = g.1;
            })))
      ]

  pub closure_stated_given : (e : CursorState) (old mid new : List Pair) (high : ℕ) (result : Result Tree Fault) → k.text ≡ s.text → k.opened ≡ s.opened → mid ≡ old → FunctionOrClassComplete k e mid new high v t.start result → StatementComplete s e old new high c result
  closure_stated_given e old mid new high result text_k same_open same complete o n to P spelled fine own =
      let g = closure_told spelled fine own in
      let place = same_span Token (SeenNext s.text) (behind_in s.text) (seen_determined s.text) {a = context_role c} (statement_spans (context_stands c)) (subst (λ z. Placed Token (SeenNext s.text) (behind_in s.text) (context_role c) z s.last to) g.tree g.placed)
      (place_node Token (SeenNext s.text) (behind_in s.text) (seen_determined s.text) {k = function_or_class_kind v} {w = []} {g = function_or_class_flags v} {ps = g.parts} (statement_spans (context_stands c)) (read s.text c t s.last ahead).next) refl in
      let tree : n ≡ node (function_or_class_kind v) [] (function_or_class_flags v) t.start to.stop g.parts = g.tree ∙ (λ i. node (function_or_class_kind v) [] (function_or_class_flags v) (place.0 i) (place.1 i) g.parts) in
      let tall : height n ≡ suc (parts_height g.parts) = ap height g.tree in
      let parts_own : AllOfLanguage k.text g.parts = subst (λ z. AllOfLanguage z g.parts) (sym text_k) (parts_of_language (subst (OfLanguage s.text) g.tree own)) in
      agrees_map (Room k o (suc (parts_height g.parts)) high) (Room s o (height n) high) (λ x. (x ≡ node (function_or_class_kind v) [] (function_or_class_flags v) t.start to.stop g.parts) × EndsWith k e mid new to P) (λ x. (x ≡ n) × EndsWith s e old new to P) result
      (complete g.parts o to P (subst (λ z. RunsIn z o (anywhere (closure_pieces v g.parts)) g.parts k.last to P) (sym text_k) g.runs) (λ h. g.named) parts_own)
      (λ room. (subst (λ z. o ≤ max_open - z) (sym same_open) room.0, subst (λ z. z ≤ high) tall room.1)) (λ x h. (h.0 ∙ sym tree, ends_behind same h.1))

one_high : (n : Tree) → 0 < height n
one_high (node k w g s e ps) = omega arith

-- no statement begins there, or it is allowed no height
pub statement_unbegun : (s e : CursorState) (old new : List Pair) (high : ℕ) (c : StatementContext) (result : Result Tree Fault) (fault : Fault) → IsErrAnd result (λ x. x ≡ fault) → NotBegun s high fault → StatementComplete s e old new high c result
statement_unbegun s e old new high c result fault is begun o n to P spelled fine own =
    agrees_err (Room s o (height n) high) (λ k. (k ≡ n) × EndsWith s e old new to P) result fault is (elim begun [
      | inl h ↦ (let v = item_starts Token (SeenNext s.text) (behind_in s.text) (seen_determined s.text) (context_stands c) spelled in absurd (h v.token v.mid v.read))
      | inr h ↦ (let low : 0 < height n = one_high n in refuses_high (Room s o (height n) high) (height n) high fault h.0 (subst (λ x. x < height n) (sym h.1) low) (λ room. room.1))
    ])
