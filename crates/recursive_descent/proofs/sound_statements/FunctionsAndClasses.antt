-- Functions and classes, and the functions of methods, behind their word or from their parameters on (ECMA-262 14.1 to 14.3, 14.6).
use Rattle.std.proofs.Common.{◌≡◌, inl, inr, ℕ, Bool, true, false, not, cond, List, [], ◌∷◌, ◌++◌, Option, Some, None, Result, Ok, Err, refl, sym, ap, ◌∙◌, subst}
use Rattle.std.specs.Prelude.{IfOk}
use Rattle.std.proofs.lemmas.List.{append-nil}
use Rattle.std.proofs.lemmas.Bool.{false≢true, true≢false}
use Rattle.source_text.specs.declared.fault.Fault.{Fault}
use Rattle.token_cursor.specs.CursorState.{CursorState}
use Rattle.tree.specs.declared.kind.Form.TheVariants as form
use Rattle.tree.specs.declared.kind.Kind.{Kind}
use Rattle.tree.specs.declared.kind.Kind.TheVariants.{Identifier, RestElement}
use Rattle.tree.specs.declared.kind.Pair.{Pair}
use Rattle.tree.specs.Tree.{Tree, node, Parts, none, part, gap, join, kind_of, bare_parts}
use Rattle.productions.specs.Made.{Makes}
use Rattle.covers.specs.declared.list.ListKind.TheVariants as coded
use Rattle.language.specs.declared.Edge.{Edge}
use Rattle.language.specs.declared.Rank.TheVariants.{Expression, LeftHandSide}
use Rattle.language.specs.declared.Start.TheVariants.{Any}
use Rattle.language.specs.Vocabulary.{is_reserved, is_rest}
use Rattle.language.specs.Pieces.{Role, expr, name, body, class_body, Piece, absent, put, put_at, sign, term, sp, listed, separator, pattern_element, with_default, only, parameters}
use Rattle.language.specs.Expressions.{given, methods}
use Rattle.language.specs.Token.{Token}
use Rattle.language.specs.Derivation.{done, step, within, missing, token, laid}
use Rattle.language.proofs.table.Begins.{retell}
use Rattle.language.proofs.climbing.OperatorNodes.{kind_bare, none_bare, last_runs}
use Rattle.language.proofs.climbing.Leaves.{name_found}
use Rattle.language.proofs.list_loops.ParameterLists.{parameters_join, function_closer}
use Rattle.language.proofs.list_loops.FirstPieces.{run_token, run_none, run_never, run_the_part}
use Rattle.token_cursor.proofs.SeenTokens.{seen_determined}
use Rattle.parser_tables.specs.declared.functions_and_classes.FunctionOrClass.{FunctionOrClass}
use Rattle.parser_tables.specs.declared.functions_and_classes.FunctionOrClass.TheVariants as closure
use Rattle.parser_tables.specs.declared.symbol_lists.PartialStatement.{PartialStatement}
use Rattle.recursive_descent.specs.Soundness.{RunsIn, anywhere, Adds}
use Rattle.recursive_descent.specs.SoundnessOfLists.{part_alone}
use Rattle.recursive_descent.specs.SoundnessOfStatements.{pieces_of, closure_pieces, is_declared, begins_with_part, ClosureAt, PiecesAt, BuiltAt}
use Rattle.recursive_descent.specs.Follows.{asks_name, may_name, NamedAt}
use Rattle.parser_tables.specs.StatementSymbols as Coded
use Rattle.parser_tables.specs.StatementSymbols.{function_or_class_kind, function_or_class_parts, function_or_class_flags}
use Rattle.parser_tables.specs.Tokens.{single_node}
use Rattle.recursive_descent.proofs.reading.AddedPairs.{adds_behind}
use Rattle.recursive_descent.proofs.reading.FirstOfPieces.{last_one, part_then, gap_then, part_runs}
use Rattle.token_cursor.specs.SourceText.{SourceText, SeenNext, behind_in}
use Rattle.recursive_descent.specs.Spelled.{SpellsIn}
use Rattle.recursive_descent.proofs.sound_expressions.GroupContents.{element_bare, listed_bare}

-- places aside, the pieces of parameters are the same
pub parameters_bare : (after : List Piece) (ps : Parts) → parameters after (bare_parts ps) ≡ parameters after ps
parameters_bare after none = refl
parameters_bare after (gap ps) = refl
parameters_bare after (part n none) = refl
parameters_bare after (part n (gap ps)) = refl
parameters_bare after (part n (part m ps)) = λ i. (element_bare true n i ∷ separator (kind_bare n i) (none_bare ps i)) ++ parameters_bare after (part m ps) i

-- what closes the parameters, and the body
abbrev pub closing_and_body : List Piece
closing_and_body = sign ")" ∷ sp ∷ put body ∷ []

-- a getter's and a setter's, from the `(` on
abbrev pub GetterPieces : Parts → List Piece
GetterPieces ps = pieces_of (methods form.Get (gap ps))

abbrev pub SetterPieces : Parts → List Piece
SetterPieces ps = pieces_of (methods form.Set (gap ps))

-- a class behind its name
abbrev pub heritage_and_body : Parts → List Piece
heritage_and_body ps = given ps (term "extends" ∷ sp ∷ put (expr LeftHandSide true Any) ∷ sp ∷ []) ++ put class_body ∷ []

no_rest : (k : Kind) {a : Role} → with_default true k ≡ Some a → is_rest k ≡ false
no_rest RestElement h = cc
no_rest _ h = refl

not_true : (b : Bool) → not b ≡ true → b ≡ false
not_true true h = absurd (false≢true h)
not_true false h = refl

module _ (text : SourceText) {o : ℕ} where
  -- parameters behind their `(`, and the body
  pub with_body : (ps : Parts) {b : Tree} {s m e : Token} {P Q : List Pair} → RunsIn text o (anywhere (listed (pattern_element true) ps ++ sign ")" ∷ [])) ps s m P → SpellsIn text o body b m e Q →
      RunsIn text o (anywhere (parameters closing_and_body (join ps (part b none)))) (join ps (part b none)) s e (P ++ Q)
  with_body ps {b} run spelled =
      retell Token (SeenNext text) (behind_in text) (ap anywhere (parameters_bare closing_and_body (join ps (part b none))))
      (parameters_join Token (SeenNext text) (behind_in text) (sp ∷ put body ∷ []) (function_closer Token (SeenNext text) (behind_in text) Expression true Any o) ps
      (retell Token (SeenNext text) (behind_in text) (ap (λ x. anywhere (x ++ sign ")" ∷ [])) (sym (listed_bare (pattern_element true) (element_bare true) ps))) run) (step laid (last_runs Token (SeenNext text) (behind_in text) spelled)))

  -- a function from its `(` on
  pub function_runs : (r : Bool) (x : Edge) {s e : Token} {z : Edge} {ps : Parts} {P : List Pair} → PiecesAt text r o (Coded.list coded.Parameters ∷ Coded.body ∷ []) s e x z ps P →
      RunsIn text o (anywhere (sign "(" ∷ parameters closing_and_body ps)) ps s e P
  function_runs r x {s} {e} {ps = ps} {P = P} u =
      let v = last_one u.others in
      let left = run_token Token (SeenNext text) (behind_in text) u.first in
      let parts : ps ≡ join u.put (part v.0.put none) = u.parts ∙ ap (join u.put) v.0.parts in
      subst (λ Q. RunsIn text o (anywhere (sign "(" ∷ parameters closing_and_body ps)) ps s e Q) (sym u.pairs)
      (subst (λ k. RunsIn text o (anywhere (sign "(" ∷ parameters closing_and_body k)) k s e (u.put_pairs ++ u.more_pairs)) (sym parts) (step (token left.reads) (with_body u.put left.runs v.0.spelled)))

  -- a getter's, from its `(` on
  getter_runs : (r : Bool) (x : Edge) {s e : Token} {z : Edge} {ps : Parts} {P : List Pair} → PiecesAt text r o (Coded.list coded.NoParameter ∷ Coded.body ∷ []) s e x z ps P → RunsIn text o (anywhere (GetterPieces ps)) (gap ps) s e P
  getter_runs r x {s} {e} {ps = ps} {P = P} u =
      let v = last_one u.others in
      let left = run_token Token (SeenNext text) (behind_in text) u.first.0 in
      let right = run_token Token (SeenNext text) (behind_in text) left.runs in
      let end = run_none Token (SeenNext text) (behind_in text) right.runs in
      let parts : ps ≡ part v.0.put none = u.parts ∙ ap (λ k. join k u.rest) u.first.1 ∙ v.0.parts in
      let pairs : P ≡ u.more_pairs = u.pairs ∙ ap (λ Q. Q ++ u.more_pairs) end.pairs in
      let spelled = subst (λ m. SpellsIn text o body v.0.put m e u.more_pairs) (sym end.place) v.0.spelled in
      subst (λ Q. RunsIn text o (anywhere (GetterPieces ps)) (gap ps) s e Q) (sym pairs)
      (subst (λ k. RunsIn text o (anywhere (GetterPieces k)) (gap k) s e u.more_pairs) (sym parts)
      (missing (step (token left.reads) (step (token right.reads) (step laid (last_runs Token (SeenNext text) (behind_in text) spelled))))))

  -- a setter's: one parameter, which is no rest
  one_parameter : {n b : Tree} {s m e : Token} {P Q : List Pair} (a : Option Role) → with_default true (kind_of n) ≡ a → RunsIn text o (anywhere (put_at a ∷ sign ")" ∷ [])) (part n none) s m P → SpellsIn text o body b m e Q →
      RunsIn text o (anywhere (put_at a ∷ closing_and_body)) (part n (part b none)) s e (P ++ Q)
  one_parameter None h run spelled = absurd (run_never Token (SeenNext text) (behind_in text) run)
  one_parameter {n} {b} {s = s} {e = e} {Q = Q} (Some a) h run spelled =
      let u = run_the_part Token (SeenNext text) (behind_in text) run in
      let right = run_token Token (SeenNext text) (behind_in text) u.runs in
      let end = run_none Token (SeenNext text) (behind_in text) right.runs in
      let there = subst (λ k. SpellsIn text o body b k e Q) (sym end.place) spelled in
      let pairs : u.one ≡ _ = sym (u.pairs ∙ ap (λ x. u.one ++ x) end.pairs ∙ append-nil u.one) in
      subst (λ x. RunsIn text o (anywhere (put_at (Some a) ∷ closing_and_body)) (part n (part b none)) s e (x ++ Q)) pairs
      (within u.spelled (step (token right.reads) (step laid (last_runs Token (SeenNext text) (behind_in text) there))))

  setter_of : {n b : Tree} {s e : Token} {P : List Pair} (a : Option Role) → with_default true (kind_of n) ≡ a → RunsIn text o (anywhere (sign "(" ∷ put_at a ∷ closing_and_body)) (part n (part b none)) s e P →
      RunsIn text o (anywhere (SetterPieces (part n (part b none)))) (gap (part n (part b none))) s e P
  setter_of {n} {b} None h run = (let u = run_token Token (SeenNext text) (behind_in text) run in absurd (run_never Token (SeenNext text) (behind_in text) u.runs))
  setter_of {n} {b} (Some a) h run =
      retell Token (SeenNext text) (behind_in text) (λ i. anywhere (pieces_of (cond (sym (no_rest (kind_of n) h) i) [] (only (absent ∷ sign "(" ∷ put_at (sym h i) ∷ closing_and_body))))) (missing run)

  setter_by : (put : Parts) {b : Tree} {s m e : Token} {P Q : List Pair} → RunsIn text o (anywhere (sign "(" ∷ part_alone put ++ sign ")" ∷ [])) put s m P → SpellsIn text o body b m e Q →
      RunsIn text o (anywhere (SetterPieces (join put (part b none)))) (gap (join put (part b none))) s e (P ++ Q)
  setter_by (part n none) run spelled =
      let left = run_token Token (SeenNext text) (behind_in text) run in
      setter_of (with_default true (kind_of n)) refl (step (token left.reads) (one_parameter (with_default true (kind_of n)) refl left.runs spelled))
  setter_by none run spelled = (let u = run_token Token (SeenNext text) (behind_in text) run in absurd (run_never Token (SeenNext text) (behind_in text) u.runs))
  setter_by (gap ps) run spelled = (let u = run_token Token (SeenNext text) (behind_in text) run in absurd (run_never Token (SeenNext text) (behind_in text) u.runs))
  setter_by (part n (part m ps)) run spelled = (let u = run_token Token (SeenNext text) (behind_in text) run in absurd (run_never Token (SeenNext text) (behind_in text) u.runs))
  setter_by (part n (gap ps)) run spelled = (let u = run_token Token (SeenNext text) (behind_in text) run in absurd (run_never Token (SeenNext text) (behind_in text) u.runs))

  setter_runs : (r : Bool) (x : Edge) {s e : Token} {z : Edge} {ps : Parts} {P : List Pair} → PiecesAt text r o (Coded.list coded.OneParameter ∷ Coded.body ∷ []) s e x z ps P → RunsIn text o (anywhere (SetterPieces ps)) (gap ps) s e P
  setter_runs r x {s} {e} {ps = ps} {P = P} u =
      let v = last_one u.others in
      let parts : ps ≡ join u.put (part v.0.put none) = u.parts ∙ ap (join u.put) v.0.parts in
      subst (λ Q. RunsIn text o (anywhere (SetterPieces ps)) (gap ps) s e Q) (sym u.pairs)
      (subst (λ k. RunsIn text o (anywhere (SetterPieces k)) (gap k) s e (u.put_pairs ++ u.more_pairs)) (sym parts) (setter_by u.put u.first v.0.spelled))

  -- a class behind its name
  pub class_runs : (r : Bool) (x : Edge) {s e : Token} {z : Edge} {ps : Parts} {P : List Pair} → PiecesAt text r o (Coded.heritage ∷ Coded.list coded.Members ∷ []) s e x z ps P → RunsIn text o (anywhere (heritage_and_body ps)) ps s e P
  class_runs r x {s} {e} {ps = ps} {P = P} u = elim u.first [
    | inl h ↦ (let v = part_then u {Is = λ n m y Q. SpellsIn text o (expr LeftHandSide true Any) n h.0 m Q} h.2.put h.2.parts h.2.spelled in
        let w = last_one v.others in
        subst (λ k. RunsIn text o (anywhere (heritage_and_body k)) k s e P) (sym v.parts)
        (step (token h.1) (step laid (part_runs text refl refl v.pairs v.first (step laid (part_runs text refl w.parts (sym (append-nil _)) w.spelled done))))))
    | inr h ↦ (let v = gap_then u h in
        let w = last_one v.others in
        subst (λ k. RunsIn text o (anywhere (heritage_and_body k)) k s e P) (sym v.parts) (missing (part_runs text refl w.parts (sym (append-nil _)) w.spelled done)))
  ]

-- the name, or none
data NameOf (text : SourceText) (c : FunctionOrClass) (s m : Token) : Parts → Type 0 where
  its_name : may_name c ≡ true → ((o : ℕ) → SpellsIn text o name (single_node Identifier m) s m []) → NameOf text c s m (part (single_node Identifier m) none)
  no_name : is_declared c ≡ false → m ≡ s → NameOf text c s m (gap none)

name_of : (c : FunctionOrClass) (s e : CursorState) (high : ℕ) (ps : Parts) → NamedAt c s e high ps → NameOf s.text c s.last e.last ps
name_of c s e high ps (inl h) = subst (NameOf s.text c s.last e.last) (sym h.2) (its_name h.0 (λ o. (name_found Token (SeenNext s.text) (behind_in s.text) (seen_determined s.text) {o = o} h.1.0 (not_true (is_reserved e.last.text) h.1.1)).spelled))
name_of c s e high ps (inr h) = subst (NameOf s.text c s.last e.last) (sym h.2) (no_name (declared c h.0) h.3)
  where
    declared : (c : FunctionOrClass) → asks_name c ≡ false → is_declared c ≡ false
    declared (closure.FunctionDeclaration x) h = absurd (true≢false h)
    declared closure.ClassDeclaration h = absurd (true≢false h)
    declared _ h = refl

module _ (text : SourceText) {o : ℕ} where
  -- the whole, from the name on
  closure_by : (c : FunctionOrClass) (r : Bool) (x z : Edge) (added : Parts) {s m e : Token} {b : Parts} {P : List Pair} → NameOf text c s m b → PiecesAt text r o (function_or_class_parts c) m e x z added P → RunsIn text o (anywhere (closure_pieces c (join b added))) (join b added) s e P
  closure_by (closure.Function y) r x z added (its_name h d) u = step laid (within (d o) (function_runs text r x u))
  closure_by (closure.Function y) r x z added {e = e} {P = P} (no_name h same) u = step laid (missing (subst (λ k. RunsIn text o (anywhere (sign "(" ∷ parameters closing_and_body added)) added k e P) same (function_runs text r x u)))
  closure_by (closure.FunctionDeclaration y) r x z added (its_name h d) u = step laid (within (d o) (function_runs text r x u))
  closure_by (closure.FunctionDeclaration y) r x z added (no_name h same) u = cc
  closure_by (closure.DefaultFunction y) r x z added (its_name h d) u = step laid (within (d o) (function_runs text r x u))
  closure_by (closure.DefaultFunction y) r x z added {e = e} {P = P} (no_name h same) u = step laid (missing (subst (λ k. RunsIn text o (anywhere (sign "(" ∷ parameters closing_and_body added)) added k e P) same (function_runs text r x u)))
  closure_by (closure.Method form.Get) r x z added (its_name h d) u = cc
  closure_by (closure.Method form.Get) r x z added {e = e} {P = P} (no_name h same) u = subst (λ k. RunsIn text o (anywhere (GetterPieces added)) (gap added) k e P) same (getter_runs text r x u)
  closure_by (closure.Method form.Set) r x z added (its_name h d) u = cc
  closure_by (closure.Method form.Set) r x z added {e = e} {P = P} (no_name h same) u = subst (λ k. RunsIn text o (anywhere (SetterPieces added)) (gap added) k e P) same (setter_runs text r x u)
  closure_by (closure.Method _) r x z added (its_name h d) u = cc
  closure_by (closure.Method _) r x z added {e = e} {P = P} (no_name h same) u = missing (subst (λ k. RunsIn text o (anywhere (sign "(" ∷ parameters closing_and_body added)) added k e P) same (function_runs text r x u))
  closure_by closure.Class r x z added (its_name h d) u = within (d o) (step laid (class_runs text r x u))
  closure_by closure.Class r x z added {e = e} {P = P} (no_name h same) u = missing (subst (λ k. RunsIn text o (anywhere (heritage_and_body added)) added k e P) same (class_runs text r x u))
  closure_by closure.ClassDeclaration r x z added (its_name h d) u = within (d o) (step laid (class_runs text r x u))
  closure_by closure.ClassDeclaration r x z added (no_name h same) u = cc
  closure_by closure.DefaultClass r x z added (its_name h d) u = within (d o) (step laid (class_runs text r x u))
  closure_by closure.DefaultClass r x z added {e = e} {P = P} (no_name h same) u = missing (subst (λ k. RunsIn text o (anywhere (heritage_and_body added)) added k e P) same (class_runs text r x u))

-- a declaration begins with its name
begins_named : (text : SourceText) (c : FunctionOrClass) {s m : Token} {b : Parts} (added : Parts) → NameOf text c s m b → is_declared c ≡ true → begins_with_part (join b added) ≡ true
begins_named text c added (its_name h d) k = refl
begins_named text c added (no_name h same) k = cc

-- what is made of them
pub closed : {s m e : CursorState} {old mid new : List Pair} (c : FunctionOrClass) (r : Bool) (at high inner : ℕ) (nodes : Parts) (b d : PartialStatement) (result : Result Tree Fault) {pieces : List Coded.Piece} →
    m.text ≡ s.text → m.opened ≡ s.opened → mid ≡ old → NamedAt c s m inner nodes → b.nodes ≡ nodes → pieces ≡ function_or_class_parts c → Adds m e mid new (BuiltAt m.text r pieces b d) → Makes (node (function_or_class_kind c) [] (function_or_class_flags c) at e.last.stop d.nodes) high result →
    IfOk result (λ n. Adds s e old new (ClosureAt s.text c at n))
closed {s} {m} {e} c r at high inner nodes b d (Ok n) {pieces} text open_same same given begun its built made =
    let name_is : NameOf s.text c s.last m.last b.nodes = subst (NameOf s.text c s.last m.last) (sym begun) (name_of c s m inner nodes given) in
    adds_behind open_same same built (λ o P v.
    let read : PiecesAt s.text r o (function_or_class_parts c) m.last e.last b.edge d.edge v.added P = subst (λ t. PiecesAt t r o (function_or_class_parts c) m.last e.last b.edge d.edge v.added P) text (subst (λ qs. PiecesAt m.text r o qs m.last e.last b.edge d.edge v.added P) its v.read) in
    record {
      parts = d.nodes;
      tree = made.0;
      named = λ k. ap begins_with_part v.nodes ∙ begins_named s.text c v.added name_is k;
      runs = subst (λ k. RunsIn s.text o (anywhere (closure_pieces c k)) k s.last e.last P) (sym v.nodes) (closure_by s.text c r b.edge d.edge v.added name_is read);
    })
closed c r at high inner nodes b d (Err fault) text open_same same given begun its built made = tt
