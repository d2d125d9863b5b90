-- Given functions and classes, behind their word or from their parameters on, as their name and their pieces (ECMA-262 14.1 to 14.3, 14.6).
use Rattle.std.proofs.Common.{◌≡◌, inl, inr, ℕ, suc, ◌-◌, ◌≤◌, Bool, true, false, not, cond, List, [], ◌∷◌, ◌++◌, Result, Ok, Err, refl, sym, ap, ◌∙◌, subst, arith}
use Rattle.std.specs.Result.{IsErrAnd}
use Rattle.std.proofs.lemmas.Bool.{false≢true}
use Rattle.std.proofs.lemmas.List.{append-nil}
use Rattle.source_text.specs.declared.fault.Fault.{Fault}
use Rattle.source_text.specs.declared.fault.Fault.TheVariants.{Syntax, TooDeep, OutOfMemory}
use Rattle.tokens.specs.declared.token.TokenClass.TheVariants.{IdentifierName, Punctuator}
use Rattle.tokens.specs.declared.token.Goal.TheVariants.{Div}
use Rattle.token_cursor.specs.CursorState.{CursorState}
use Rattle.tree.specs.declared.kind.Form.TheVariants as form
use Rattle.tree.specs.declared.kind.Pair.{Pair}
use Rattle.tree.specs.Tree.{Tree, node, Parts, none, part, gap, join, kind_of, height, parts_height}
use Rattle.tree.proofs.Shapes.{parts_height-join}
use Rattle.productions.specs.Made.{Makes}
use Rattle.covers.specs.declared.list.ListKind.{ListKind}
use Rattle.covers.specs.declared.list.ListKind.TheVariants as coded
use Rattle.language.specs.declared.Edge.{Edge}
use Rattle.language.specs.declared.Rank.TheVariants.{Expression, LeftHandSide}
use Rattle.language.specs.declared.Start.TheVariants.{Any}
use Rattle.language.specs.Edges.{edge, edge_as_written}
use Rattle.language.specs.Vocabulary.{is_reserved, is_rest, is}
use Rattle.language.specs.Pieces.{name, body, absent, put, put_at, sign, sp, with_default, only, parameters, pattern_element}
use Rattle.language.specs.Token.{Token}
use Rattle.language.specs.Derivation.{Reads, done, step, token}
use Rattle.language.proofs.table.Begins.{retell}
use Rattle.language.proofs.list_loops.CommaLists.{an_item, item_runs}
use Rattle.language.proofs.covers.CoverReadings.{name_or_sign}
use Rattle.language.proofs.statements.StatementFollow.{idle_stops}
use Rattle.language.proofs.climbing.Leaves.{name_form}
use Rattle.language.proofs.list_loops.ParameterLists.{parameters_split, function_closer}
use Rattle.language.proofs.list_loops.FirstPieces.{run_token, run_never, run_laid, run_the_part, run_the_gap}
use Rattle.language.proofs.climbing.RightOperands.{one_part}
use Rattle.token_cursor.proofs.SeenTokens.{seen_determined}
use Rattle.unambiguity_laws.proofs.statements.FunctionBodies.{name_unique}
use Rattle.parser_tables.specs.declared.functions_and_classes.FunctionOrClass.{FunctionOrClass}
use Rattle.parser_tables.specs.declared.functions_and_classes.FunctionOrClass.TheVariants as closure
use Rattle.parser_tables.specs.declared.symbol_lists.PartialStatement.{PartialStatement}
use Rattle.recursive_descent.specs.Complete.{FunctionOrClassComplete, SymbolsComplete}
use Rattle.recursive_descent.specs.Soundness.{RunsIn, anywhere}
use Rattle.recursive_descent.specs.SoundnessOfStatements.{closure_pieces, behind_words, is_declared, begins_with_part}
use Rattle.recursive_descent.specs.Follows.{asks_name, may_name, NamedAt, NotNamed}
use Rattle.recursive_descent.specs.Completeness.{Agrees, Room, EndsWith}
use Rattle.recursive_descent.specs.CompletenessOfStatements.{PiecesGiven, ListPieceGiven, has_edges}
use Rattle.parser_tables.specs.StatementSymbols as Coded
use Rattle.parser_tables.specs.StatementSymbols.{function_or_class_kind, function_or_class_parts, function_or_class_flags}
use Rattle.token_cursor.specs.Seen.{NoName, is_free_name}
use Rattle.parser_tables.specs.Tokens.{single_node}
use Rattle.recursive_descent.proofs.complete_expressions.Agreement.{Refuses, refuses_high, agrees_on, agrees_err, room_part, read_here, ends_behind, words_same}
use Rattle.recursive_descent.proofs.complete_statements.BlocksGiven.{class_body_given}
use Rattle.recursive_descent.proofs.sound_statements.FunctionsAndClasses.{parameters_bare, closing_and_body, heritage_and_body}
use Rattle.recursive_descent.proofs.sound_statements.TokenSymbols.{name_spelled}
use Rattle.token_cursor.proofs.TokensAhead.{mark_by, name_by}
use Rattle.token_cursor.specs.SourceText.{SourceText, SeenNext, behind_in}
use Rattle.recursive_descent.specs.Spelled.{SpellsIn, AllOfLanguage}
use Rattle.recursive_descent.proofs.reading.LanguageTrees.{others_of_language, behind_gap_of_language}
use Rattle.recursive_descent.proofs.sound_expressions.GroupContents.{element_bare, listed_bare}

-- where a sign stands no name does
sign_unnamed : (text : SourceText) {w : List ℕ} {s t e : Token} → Reads Token (SeenNext text) (behind_in text) Punctuator w s t e → NoName text is_free_name s
sign_unnamed text {s = s} {t = t} {e = e} r u k read free =
    let same = (seen_determined text).same Div s u t k e read.next r.next (name_by text read).allowed (mark_by text r).allowed in
    let no : IdentifierName ≡ Punctuator = sym read.class ∙ ap (λ (z : Token). z.class) same.0 ∙ r.class in
    cc

module _ (text : SourceText) (o : ℕ) where
  -- a list, and the body
  list_and_body : (l : ListKind) (r : Bool) (x : Edge) (given : Parts) (s : Token) (A : List Pair) {b : Tree} {m e : Token} {B : List Pair} → ListPieceGiven text o l s m x x given A → SpellsIn text o body b m e B → PiecesGiven text r o (Coded.list l ∷ Coded.body ∷ []) s e x x (join given (part b none)) (A ++ B)
  list_and_body l r x given s A {b} {m} {e} {B} f d = record {
    mid = m;
    right = x;
    put = given;
    rest = part b none;
    put_pairs = A;
    more_pairs = B;
    first = f;
    others = record { mid = e; right = x; put = part b none; rest = none; put_pairs = B; more_pairs = []; first = record { put = b; parts = refl; spelled = d }; others = (refl, refl, refl, refl); parts = refl; pairs = sym (append-nil B) };
    parts = refl;
    pairs = refl;
  }

  function_given : (r : Bool) (x : Edge) {s e : Token} {ps : Parts} {P : List Pair} → RunsIn text o (anywhere (sign "(" ∷ parameters closing_and_body ps)) ps s e P → PiecesGiven text r o (Coded.list coded.Parameters ∷ Coded.body ∷ []) s e x x ps P
  function_given r x {s} {e} {ps} {P} d =
      let left = run_token Token (SeenNext text) (behind_in text) d in
      let u = parameters_split Token (SeenNext text) (behind_in text) (sp ∷ put body ∷ []) (function_closer Token (SeenNext text) (behind_in text) Expression true Any o) ps
      (retell Token (SeenNext text) (behind_in text) (ap anywhere (sym (parameters_bare closing_and_body ps))) left.runs) in
      let b = one_part Token (SeenNext text) (behind_in text) (seen_determined text) (run_laid Token (SeenNext text) (behind_in text) u.runs) in
      let list = retell Token (SeenNext text) (behind_in text) (ap (λ z. anywhere (z ++ sign ")" ∷ [])) (listed_bare (pattern_element true) (element_bare true) u.given)) u.list in
      let parts : ps ≡ join u.given (part b.operand none) = u.parts ∙ ap (join u.given) b.parts in
      subst (λ z. PiecesGiven text r o (Coded.list coded.Parameters ∷ Coded.body ∷ []) s e x x ps z) (sym u.pairs)
      (subst (λ z. PiecesGiven text r o (Coded.list coded.Parameters ∷ Coded.body ∷ []) s e x x z (u.one ++ u.more)) (sym parts) (list_and_body coded.Parameters r x u.given s u.one (step (token left.reads) list) b.spelled))

  getter_given : (r : Bool) (x : Edge) {s e : Token} {b : Tree} {P : List Pair} → RunsIn text o (anywhere (absent ∷ sign "(" ∷ sign ")" ∷ sp ∷ put body ∷ [])) (gap (part b none)) s e P → PiecesGiven text r o (Coded.list coded.NoParameter ∷ Coded.body ∷ []) s e x x (part b none) P
  getter_given r x {s} {e} {b} {P} d =
      let left = run_token Token (SeenNext text) (behind_in text) (run_the_gap Token (SeenNext text) (behind_in text) d) in
      let right = run_token Token (SeenNext text) (behind_in text) left.runs in
      let v = one_part Token (SeenNext text) (behind_in text) (seen_determined text) (run_laid Token (SeenNext text) (behind_in text) right.runs) in
      subst (λ z. PiecesGiven text r o (Coded.list coded.NoParameter ∷ Coded.body ∷ []) s e x x z P) (sym v.parts) (list_and_body coded.NoParameter r x none s [] (step (token left.reads) (step (token right.reads) done), refl) v.spelled)

  setter_given : (r : Bool) (x : Edge) {s e : Token} {n b : Tree} {P : List Pair} → RunsIn text o (anywhere (absent ∷ sign "(" ∷ put_at (with_default true (kind_of n)) ∷ sign ")" ∷ sp ∷ put body ∷ [])) (gap (part n (part b none))) s e P →
      PiecesGiven text r o (Coded.list coded.OneParameter ∷ Coded.body ∷ []) s e x x (part n (part b none)) P
  setter_given r x {s} {e} {n} {b} {P} d =
      let left = run_token Token (SeenNext text) (behind_in text) (run_the_gap Token (SeenNext text) (behind_in text) d) in
      let p = an_item Token (SeenNext text) (behind_in text) (seen_determined text) (with_default true (kind_of n)) left.runs in
      let right = run_token Token (SeenNext text) (behind_in text) p.runs in
      let v = one_part Token (SeenNext text) (behind_in text) (seen_determined text) (run_laid Token (SeenNext text) (behind_in text) right.runs) in
      let one = item_runs Token (SeenNext text) (behind_in text) (seen_determined text) {ps = none} (with_default true (kind_of n)) p.it_is p.spelled (step (token right.reads) done) in
      subst (λ z. PiecesGiven text r o (Coded.list coded.OneParameter ∷ Coded.body ∷ []) s e x x (part n (part b none)) z) (sym p.pairs)
      (subst (λ z. PiecesGiven text r o (Coded.list coded.OneParameter ∷ Coded.body ∷ []) s e x x (part n z) (p.one ++ p.more)) (sym v.parts)
      (list_and_body coded.OneParameter r x (part n none) s p.one (subst (λ z. RunsIn text o (anywhere (sign "(" ∷ put_at (with_default true (kind_of n)) ∷ sign ")" ∷ [])) (part n none) s right.mid z) (append-nil p.one) (step (token left.reads) one)) v.spelled))

  -- a class behind its name
  class_given : (r : Bool) (x : Edge) {s e : Token} (ps : Parts) {P : List Pair} → RunsIn text o (anywhere (heritage_and_body ps)) ps s e P → (z : Edge) × PiecesGiven text r o (Coded.heritage ∷ Coded.list coded.Members ∷ []) s e x z ps P
  class_given r x none d = absurd (run_never Token (SeenNext text) (behind_in text) d)
  class_given r x {s} {e} (part n ps) {P} d =
      let word = run_token Token (SeenNext text) (behind_in text) d in
      let p = run_the_part Token (SeenNext text) (behind_in text) (run_laid Token (SeenNext text) (behind_in text) word.runs) in
      let v = one_part Token (SeenNext text) (behind_in text) (seen_determined text) (run_laid Token (SeenNext text) (behind_in text) p.runs) in
      let stops = idle_stops Token (SeenNext text) (behind_in text) (seen_determined text) LeftHandSide true n refl (λ y b. refl) (class_body_given text v.spelled).opens in (
        edge_as_written (edge n) p.mid,
        subst (λ z. PiecesGiven text r o (Coded.heritage ∷ Coded.list coded.Members ∷ []) s e x (edge_as_written (edge n) p.mid) (part n ps) z) (sym p.pairs)
            (subst (λ z. PiecesGiven text r o (Coded.heritage ∷ Coded.list coded.Members ∷ []) s e x (edge_as_written (edge n) p.mid) (part n z) (p.one ++ p.more)) (sym v.parts) (record {
              mid = p.mid;
              right = edge_as_written (edge n) p.mid;
              put = part n none;
              rest = part v.operand none;
              put_pairs = p.one;
              more_pairs = p.more;
              first = inl (word.mid, read_here text word.reads, record { put = n; parts = refl; right = refl; spelled = p.spelled; stopped = stops });
              others = record { mid = e; right = edge_as_written (edge n) p.mid; put = part v.operand none; rest = none; put_pairs = p.more; more_pairs = []; first = record { put = v.operand; parts = refl; spelled = v.spelled }; others = (refl, refl, refl, refl); parts = refl; pairs = sym (append-nil p.more) };
              parts = refl;
              pairs = refl;
            })),
      )
  class_given r x {s} {e} (gap ps) {P} d =
      let v = one_part Token (SeenNext text) (behind_in text) (seen_determined text) (run_the_gap Token (SeenNext text) (behind_in text) d) in
      let opens = (class_body_given text v.spelled).opens in (
        x,
        subst (λ z. PiecesGiven text r o (Coded.heritage ∷ Coded.list coded.Members ∷ []) s e x x (gap z) P) (sym v.parts) (record {
          mid = s;
          right = x;
          put = gap none;
          rest = part v.operand none;
          put_pairs = [];
          more_pairs = P;
          first = inr ((refl, refl, refl, refl), λ t k read. name_or_sign Token (SeenNext text) (behind_in text) (seen_determined text) refl read opens);
          others = record { mid = e; right = x; put = part v.operand none; rest = none; put_pairs = P; more_pairs = []; first = record { put = v.operand; parts = refl; spelled = v.spelled }; others = (refl, refl, refl, refl); parts = refl; pairs = sym (append-nil P) };
          parts = refl;
          pairs = refl;
        }),
      )

  -- where `extends` or a body stands no name does
  class_unnamed : (ps : Parts) {s e : Token} {P : List Pair} → RunsIn text o (anywhere (heritage_and_body ps)) ps s e P → NoName text is_free_name s
  unfolding is_reserved
  class_unnamed none d t k read free = absurd (run_never Token (SeenNext text) (behind_in text) d)
  class_unnamed (part n ps) d t k read free =
      let word = run_token Token (SeenNext text) (behind_in text) d in
      let same = (words_same text read word.reads).0 in
      false≢true (ap is_free_name (sym word.reads.text ∙ ap (λ (z : Token). z.text) (sym same)) ∙ free)
  class_unnamed (gap ps) d t k read free =
      let v = one_part Token (SeenNext text) (behind_in text) (seen_determined text) (run_the_gap Token (SeenNext text) (behind_in text) d) in
      sign_unnamed text (class_body_given text v.spelled).opens t k read free

  -- its name, or none, and its pieces behind it
  data ClosureForm (c : FunctionOrClass) (r : Bool) (x : Edge) (s e : Token) : Parts → List Pair → Type 0 where
    with_name : {n : Tree} {rest : Parts} {m : Token} {A : List Pair} (P : List Pair) (z : Edge) → may_name c ≡ true → SpellsIn text o name n s m A → PiecesGiven text r o (function_or_class_parts c) m e x z rest P → ClosureForm c r x s e (part n rest) (A ++ P)
    nameless : {rest : Parts} {P : List Pair} (z : Edge) → (may_name c ≡ true → NoName text is_free_name s) → PiecesGiven text r o (function_or_class_parts c) s e x z rest P → ClosureForm c r x s e (gap rest) P

  function_form : (c : FunctionOrClass) (r : Bool) (x : Edge) → may_name c ≡ true → function_or_class_parts c ≡ Coded.list coded.Parameters ∷ Coded.body ∷ [] → (ps : Parts) {s e : Token} {P : List Pair} → RunsIn text o (anywhere (behind_words ps)) ps s e P → ClosureForm c r x s e ps P
  function_form c r x may is none d = absurd (run_never Token (SeenNext text) (behind_in text) (run_laid Token (SeenNext text) (behind_in text) d))
  function_form c r x may is (part n ps) {s} {e} {P} d =
      let v = run_the_part Token (SeenNext text) (behind_in text) (run_laid Token (SeenNext text) (behind_in text) d) in
      subst (λ z. ClosureForm c r x s e (part n ps) z) (sym v.pairs) (with_name v.more x may v.spelled (subst (λ z. PiecesGiven text r o z v.mid e x x ps v.more) (sym is) (function_given r x v.runs)))
  function_form c r x may is (gap ps) {s} {e} {P} d =
      let v = run_the_gap Token (SeenNext text) (behind_in text) (run_laid Token (SeenNext text) (behind_in text) d) in
      nameless x (λ h. sign_unnamed text (run_token Token (SeenNext text) (behind_in text) v).reads) (subst (λ z. PiecesGiven text r o z s e x x ps P) (sym is) (function_given r x v))

  class_form : (c : FunctionOrClass) (r : Bool) (x : Edge) → may_name c ≡ true → function_or_class_parts c ≡ Coded.heritage ∷ Coded.list coded.Members ∷ [] → (ps : Parts) {s e : Token} {P : List Pair} → RunsIn text o (anywhere (closure_pieces closure.Class ps)) ps s e P → ClosureForm c r x s e ps P
  class_form c r x may is none d = absurd (run_never Token (SeenNext text) (behind_in text) d)
  class_form c r x may is (part n ps) {s} {e} {P} d =
      let v = run_the_part Token (SeenNext text) (behind_in text) d in
      let w = class_given r x ps (run_laid Token (SeenNext text) (behind_in text) v.runs) in
      subst (λ z. ClosureForm c r x s e (part n ps) z) (sym v.pairs) (with_name v.more w.0 may v.spelled (subst (λ z. PiecesGiven text r o z v.mid e x w.0 ps v.more) (sym is) w.1))
  class_form c r x may is (gap ps) {s} {e} {P} d =
      let v = run_the_gap Token (SeenNext text) (behind_in text) d in
      let w = class_given r x ps v in
      nameless w.0 (λ h. class_unnamed ps v) (subst (λ z. PiecesGiven text r o z s e x w.0 ps P) (sym is) w.1)

  method_form : (r : Bool) (x : Edge) (c : FunctionOrClass) → may_name c ≡ false → function_or_class_parts c ≡ Coded.list coded.Parameters ∷ Coded.body ∷ [] → (ps : Parts) {s e : Token} {P : List Pair} → RunsIn text o (anywhere (closure_pieces (closure.Method form.Method) ps)) ps s e P → ClosureForm c r x s e ps P
  method_form r x c may is none d = absurd (run_never Token (SeenNext text) (behind_in text) d)
  method_form r x c may is (part n ps) d = absurd (run_never Token (SeenNext text) (behind_in text) d)
  method_form r x c may is (gap ps) {s} {e} {P} d =
      let v = run_the_gap Token (SeenNext text) (behind_in text) d in
      nameless x (λ h. absurd (false≢true (sym may ∙ h))) (subst (λ z. PiecesGiven text r o z s e x x ps P) (sym is) (function_given r x v))

  closure_form : (c : FunctionOrClass) (r : Bool) (x : Edge) (ps : Parts) {s e : Token} {P : List Pair} → RunsIn text o (anywhere (closure_pieces c ps)) ps s e P → ClosureForm c r x s e ps P
  closure_form (closure.Function y) r x ps d = function_form (closure.Function y) r x refl refl ps d
  closure_form (closure.FunctionDeclaration y) r x ps d = function_form (closure.FunctionDeclaration y) r x refl refl ps d
  closure_form (closure.DefaultFunction y) r x ps d = function_form (closure.DefaultFunction y) r x refl refl ps d
  closure_form closure.DefaultClass r x ps d = class_form closure.DefaultClass r x refl refl ps d
  closure_form closure.Class r x ps d = class_form closure.Class r x refl refl ps d
  closure_form closure.ClassDeclaration r x ps d = class_form closure.ClassDeclaration r x refl refl ps d
  closure_form (closure.Method form.Get) r x (gap (part b none)) d = nameless x (λ h. cc) (getter_given r x d)
  closure_form (closure.Method form.Get) r x _ d = absurd (run_never Token (SeenNext text) (behind_in text) d)
  closure_form (closure.Method form.Set) r x (gap (part n (part b none))) {s} {e} {P} d = of (is_rest (kind_of n)) d
    where
      of : (k : Bool) → RunsIn text o (anywhere (Rattle.recursive_descent.specs.SoundnessOfStatements.pieces_of (cond k [] (only (absent ∷ sign "(" ∷ put_at (with_default true (kind_of n)) ∷ sign ")" ∷ sp ∷ put body ∷ []))))) (gap (part n (part b none))) s e P →
          ClosureForm (closure.Method form.Set) r x s e (gap (part n (part b none))) P
      of true g = absurd (run_never Token (SeenNext text) (behind_in text) g)
      of false g = nameless x (λ h. cc) (setter_given r x g)
  closure_form (closure.Method form.Set) r x _ d = absurd (run_never Token (SeenNext text) (behind_in text) d)
  closure_form (closure.Method form.Init) r x ps d = method_form r x (closure.Method form.Init) refl refl ps d
  closure_form (closure.Method form.Method) r x ps d = method_form r x (closure.Method form.Method) refl refl ps d
  closure_form (closure.Method form.Shorthand) r x ps d = method_form r x (closure.Method form.Shorthand) refl refl ps d
  closure_form (closure.Method form.Constructor) r x ps d = method_form r x (closure.Method form.Constructor) refl refl ps d
  closure_form (closure.Method form.Generator) r x ps d = method_form r x (closure.Method form.Generator) refl refl ps d
  closure_form (closure.Method form.Async) r x ps d = method_form r x (closure.Method form.Async) refl refl ps d
  closure_form (closure.Method form.AsyncGenerator) r x ps d = method_form r x (closure.Method form.AsyncGenerator) refl refl ps d

closure_edges : (c : FunctionOrClass) → has_edges (function_or_class_parts c) ≡ true
closure_edges (closure.Function y) = refl
closure_edges (closure.FunctionDeclaration y) = refl
closure_edges (closure.DefaultFunction y) = refl
closure_edges closure.DefaultClass = refl
closure_edges closure.Class = refl
closure_edges closure.ClassDeclaration = refl
closure_edges (closure.Method form.Get) = refl
closure_edges (closure.Method form.Set) = refl
closure_edges (closure.Method _) = refl

node_high : (n : Tree) → 1 ≤ height n
node_high (node k w g s e ps) = let tall : height (node k w g s e ps) ≡ suc (parts_height ps) = refl in omega arith

-- a function has a body, and a class too
last_high : (text : SourceText) (r : Bool) (o : ℕ) (f q : Coded.Piece) (s e : Token) (x z : Edge) (ps : Parts) (P : List Pair) → ((s m : Token) (y k : Edge) (put : Parts) (Q : List Pair) → Rattle.recursive_descent.specs.CompletenessOfStatements.PieceGiven text r o q s m y k put Q → 1 ≤ parts_height put) →
    PiecesGiven text r o (f ∷ q ∷ []) s e x z ps P → 1 ≤ parts_height ps
last_high text r o f q s e x z ps P high g =
    let last = high g.mid g.others.mid g.right g.others.right g.others.put g.others.put_pairs g.others.first in
    let one = ap parts_height g.parts ∙ parts_height-join g.put g.rest in
    let two = ap parts_height g.others.parts ∙ parts_height-join g.others.put g.others.rest in
    omega arith

body_high : (text : SourceText) (r : Bool) (o : ℕ) (s m : Token) (y k : Edge) (put : Parts) (Q : List Pair) → Rattle.recursive_descent.specs.CompletenessOfStatements.PieceGiven text r o Coded.body s m y k put Q → 1 ≤ parts_height put
body_high text r o s m y k put Q g = let one = node_high g.put in let whole : parts_height put ≡ parts_height (part g.put none) = ap parts_height g.parts in omega arith

members_high : (text : SourceText) (r : Bool) (o : ℕ) (s m : Token) (y k : Edge) (put : Parts) (Q : List Pair) → Rattle.recursive_descent.specs.CompletenessOfStatements.PieceGiven text r o (Coded.list coded.Members) s m y k put Q → 1 ≤ parts_height put
members_high text r o s m y k put Q g = let one = node_high g.put in let whole : parts_height put ≡ parts_height (part g.put none) = ap parts_height g.parts in omega arith

closure_high : (text : SourceText) (r : Bool) (o : ℕ) (s e : Token) (x z : Edge) (ps : Parts) (P : List Pair) (c : FunctionOrClass) → PiecesGiven text r o (function_or_class_parts c) s e x z ps P → 1 ≤ parts_height ps
closure_high text r o s e x z ps P (closure.Function w) g = last_high text r o (Coded.list coded.Parameters) Coded.body s e x z ps P (body_high text r o) g
closure_high text r o s e x z ps P (closure.FunctionDeclaration w) g = last_high text r o (Coded.list coded.Parameters) Coded.body s e x z ps P (body_high text r o) g
closure_high text r o s e x z ps P (closure.DefaultFunction w) g = last_high text r o (Coded.list coded.Parameters) Coded.body s e x z ps P (body_high text r o) g
closure_high text r o s e x z ps P closure.Class g = last_high text r o Coded.heritage (Coded.list coded.Members) s e x z ps P (members_high text r o) g
closure_high text r o s e x z ps P closure.ClassDeclaration g = last_high text r o Coded.heritage (Coded.list coded.Members) s e x z ps P (members_high text r o) g
closure_high text r o s e x z ps P closure.DefaultClass g = last_high text r o Coded.heritage (Coded.list coded.Members) s e x z ps P (members_high text r o) g
closure_high text r o s e x z ps P (closure.Method form.Get) g = last_high text r o (Coded.list coded.NoParameter) Coded.body s e x z ps P (body_high text r o) g
closure_high text r o s e x z ps P (closure.Method form.Set) g = last_high text r o (Coded.list coded.OneParameter) Coded.body s e x z ps P (body_high text r o) g
closure_high text r o s e x z ps P (closure.Method form.Init) g = last_high text r o (Coded.list coded.Parameters) Coded.body s e x z ps P (body_high text r o) g
closure_high text r o s e x z ps P (closure.Method form.Method) g = last_high text r o (Coded.list coded.Parameters) Coded.body s e x z ps P (body_high text r o) g
closure_high text r o s e x z ps P (closure.Method form.Shorthand) g = last_high text r o (Coded.list coded.Parameters) Coded.body s e x z ps P (body_high text r o) g
closure_high text r o s e x z ps P (closure.Method form.Constructor) g = last_high text r o (Coded.list coded.Parameters) Coded.body s e x z ps P (body_high text r o) g
closure_high text r o s e x z ps P (closure.Method form.Generator) g = last_high text r o (Coded.list coded.Parameters) Coded.body s e x z ps P (body_high text r o) g
closure_high text r o s e x z ps P (closure.Method form.Async) g = last_high text r o (Coded.list coded.Parameters) Coded.body s e x z ps P (body_high text r o) g
closure_high text r o s e x z ps P (closure.Method form.AsyncGenerator) g = last_high text r o (Coded.list coded.Parameters) Coded.body s e x z ps P (body_high text r o) g

asks_declared : (c : FunctionOrClass) → asks_name c ≡ true → is_declared c ≡ true
asks_declared (closure.FunctionDeclaration y) h = refl
asks_declared closure.ClassDeclaration h = refl
asks_declared _ h = absurd (false≢true h)

-- no name, or it is too high
pub name_refused : (s e : CursorState) (old new : List Pair) (high inner : ℕ) (c : FunctionOrClass) (start : ℕ) (result : Result Tree Fault) (fault : Fault) → IsErrAnd result (λ x. x ≡ fault) → inner ≡ high - 1 → NotNamed c s inner fault → FunctionOrClassComplete s e old new high c start result
name_refused s e old new high inner c start result fault is lower h ps o to P d begins own =
    agrees_err (Room s o (suc (parts_height ps)) high) (λ (n : Tree). (n ≡ node (function_or_class_kind c) [] (function_or_class_flags c) start to.stop ps) × EndsWith s e old new to P) result fault is (of fault h (closure_form s.text o c true Rattle.language.specs.declared.Edge.TheVariants.Closed ps d) begins)
  where
    unnamed : {n : Tree} {s' m : Token} {A : List Pair} → SpellsIn s.text o name n s' m A → NoName s.text is_free_name s' → ⊥
    unnamed k missed = let u = name_form Token (SeenNext s.text) (behind_in s.text) (seen_determined s.text) k in
        missed u.0.sign _ (record { next = u.0.reads.next; class = u.0.reads.class; text = refl }) (ap is_free_name u.0.reads.text ∙ ap not u.1)

    of : {ps : Parts} {P : List Pair} (fault : Fault) → NotNamed c s inner fault → ClosureForm s.text o c true Rattle.language.specs.declared.Edge.TheVariants.Closed s.last to ps P → (is_declared c ≡ true → begins_with_part ps ≡ true) → Refuses (Room s o (suc (parts_height ps)) high) fault
    of (Syntax at) h (with_name B z may k g) begins = absurd (unnamed k h.1)
    of (Syntax at) h (nameless z free g) begins = absurd (false≢true (begins (asks_declared c h.0)))
    of TooDeep h (with_name {n = n} {rest = rest} B z may k g) begins = λ room. (let low = room.1 in let one = node_high n in absurd (omega arith))
    of TooDeep h (nameless {rest = rest} {P = Q} z free g) begins = λ room. (let low = room.1 in let one = closure_high s.text true o s.last to Rattle.language.specs.declared.Edge.TheVariants.Closed z rest Q c g in absurd (omega arith))
    of OutOfMemory h g begins = tt
    of _ h g begins = absurd h

module _ (s m : CursorState) (old mid : List Pair) (high inner : ℕ) (c : FunctionOrClass) (start : ℕ) (nodes : Parts) (qs : List Coded.Piece) (b : PartialStatement) (same : m.text ≡ s.text) (open_same : m.opened ≡ s.opened) (pairs : mid ≡ old) (lower : inner ≡ high - 1) (name_read : NamedAt c s m inner nodes) (begun : b.nodes ≡ nodes) (pieces : qs ≡ function_or_class_parts c) where
  -- what stands behind the name
  record BehindName (r : Bool) (o : ℕ) (to : Token) (ps : Parts) (P : List Pair) : Type 0 where
    rest : Parts
    last : Edge
    given : PiecesGiven m.text r o qs m.last to b.edge last rest P
    parts : ps ≡ join nodes rest
    lower_parts : parts_height rest ≤ parts_height ps
    own : AllOfLanguage s.text ps → AllOfLanguage m.text rest

  behind_name : (r : Bool) {o : ℕ} {to : Token} {ps : Parts} {P : List Pair} → ClosureForm s.text o c r b.edge s.last to ps P → BehindName r o to ps P
  behind_name r {o} {to} f = of name_read f
    where
      turned : (z : Edge) (rest : Parts) (P : List Pair) → PiecesGiven s.text r o (function_or_class_parts c) m.last to b.edge z rest P → PiecesGiven m.text r o qs m.last to b.edge z rest P
      turned z rest P g = subst (λ k. PiecesGiven m.text r o k m.last to b.edge z rest P) (sym pieces) (subst (λ k. PiecesGiven k r o (function_or_class_parts c) m.last to b.edge z rest P) (sym same) g)

      of : {ps : Parts} {P : List Pair} → NamedAt c s m inner nodes → ClosureForm s.text o c r b.edge s.last to ps P → BehindName r o to ps P
      of (inl h) (with_name {n = n} {rest = rest} {m = k} {A = A} P z may d g) =
          let only = (name_unique Token (SeenNext s.text) (behind_in s.text) (seen_determined s.text) d).only o m.last (single_node Rattle.tree.specs.declared.kind.Kind.TheVariants.Identifier m.last) [] (name_spelled s.text {o = o} h.1) in
          record {
            rest = rest;
            last = z;
            given = turned z rest _ (subst (λ w. PiecesGiven s.text r o (function_or_class_parts c) m.last to b.edge z rest w) (ap (λ w. w ++ P) only.2) (subst (λ w. PiecesGiven s.text r o (function_or_class_parts c) w to b.edge z rest P) (sym only.0) g));
            parts = ap (λ w. part w rest) (sym only.1) ∙ ap (λ w. join w rest) (sym h.2);
            lower_parts = omega arith;
            own = λ l. subst (λ w. AllOfLanguage w rest) (sym same) (others_of_language l);
          }
      of (inl h) (nameless z free g) = absurd (free h.0 (behind_in s.text m.last) m.last h.1.0 h.1.1)
      of (inr h) (with_name P z may d g) =
          let u = name_form Token (SeenNext s.text) (behind_in s.text) (seen_determined s.text) d in
          absurd (h.1 may u.0.sign _ (record { next = u.0.reads.next; class = u.0.reads.class; text = refl }) (ap is_free_name u.0.reads.text ∙ ap not u.1))
      of (inr h) (nameless {rest = rest} {P = P} z free g) = record {
        rest = rest;
        last = z;
        given = turned z rest P (subst (λ w. PiecesGiven s.text r o (function_or_class_parts c) w to b.edge z rest P) (sym h.3) g);
        parts = ap (λ w. join w rest) (sym h.2);
        lower_parts = omega arith;
        own = λ l. subst (λ w. AllOfLanguage w rest) (sym same) (behind_gap_of_language l);
      }

  edges : has_edges qs ≡ true
  edges = ap has_edges pieces ∙ closure_edges c

  -- the pieces are refused
  pub closure_refused : (e : CursorState) (new : List Pair) (r : Bool) (d : PartialStatement) (result : Result Tree Fault) (fault : Fault) → IsErrAnd result (λ x. x ≡ fault) → SymbolsComplete m e mid new inner qs r b d (Err fault) → FunctionOrClassComplete s e old new high c start result
  closure_refused e new r d result fault is complete ps o to P run begins own =
      let v = behind_name r (closure_form s.text o c r b.edge ps run) in
      let low = v.lower_parts in
      agrees_on (Room m o (parts_height v.rest) inner) (Room s o (suc (parts_height ps)) high) (λ (n : Tree). (n ≡ node (function_or_class_kind c) [] (function_or_class_flags c) start to.stop ps) × EndsWith s e old new to P) result fault is (complete o v.last v.rest to P edges v.given (v.own own)) (λ room. room_part s m open_same (λ all. omega arith) room)

  -- what is made of them
  pub closure_made : (e : CursorState) (new : List Pair) (r : Bool) (d : PartialStatement) (result : Result Tree Fault) → SymbolsComplete m e mid new inner qs r b d (Ok tt) → Makes (node (function_or_class_kind c) [] (function_or_class_flags c) start e.last.stop d.nodes) high result → FunctionOrClassComplete s e old new high c start result
  closure_made e new r d result complete made ps o to P run begins own =
      let v = behind_name r (closure_form s.text o c r b.edge ps run) in
      let u = complete o v.last v.rest to P edges v.given (v.own own) in
      let parts : d.nodes ≡ ps = u.0 ∙ ap (λ w. join w v.rest) begun ∙ sym v.parts in
      of result made parts u.1
    where
      of : (result : Result Tree Fault) → Makes (node (function_or_class_kind c) [] (function_or_class_flags c) start e.last.stop d.nodes) high result → d.nodes ≡ ps → EndsWith m e mid new to P → Agrees (Room s o (suc (parts_height ps)) high) (λ n. (n ≡ node (function_or_class_kind c) [] (function_or_class_flags c) start to.stop ps) × EndsWith s e old new to P) result
      of (Ok n) k parts ends = (k.0 ∙ (λ i. node (function_or_class_kind c) [] (function_or_class_flags c) start ((ends.place i).stop) (parts i)), ends_behind pairs ends)
      of (Err fault) k parts ends = refuses_high (Room s o (suc (parts_height ps)) high) (suc (parts_height d.nodes)) high fault k.0 k.1 (λ room. subst (λ w. suc (parts_height w) ≤ high) (sym parts) room.1)
