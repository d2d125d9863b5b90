-- The statement of an expression, and a directive (ECMA-262 13.5, 14.1.1).
use Rattle.std.proofs.Common.{◌≡◌, ℕ, ◌≤◌, Bool, true, false, not, cond, List, [], ◌∷◌, Some, None, Result, Ok, Err, refl, sym, ap, ◌∙◌, subst}
use Rattle.std.specs.Prelude.{IsTrue, IfOk, ◌&&◌}
use Rattle.std.proofs.lemmas.List.{append-nil}
use Rattle.source_text.specs.declared.fault.Fault.{Fault}
use Rattle.token_cursor.specs.CursorState.{CursorState}
use Rattle.token_cursor.specs.StatementEnds.{EndsAt, IsEnd}
use Rattle.token_cursor.specs.declared.semicolon.StatementEnd.TheVariants.{AfterExpression}
use Rattle.tree.specs.declared.kind.Kind.TheVariants.{Literal}
use Rattle.tree.specs.declared.kind.Pair.{Pair}
use Rattle.tree.specs.Tree.{Tree, node, none, part, bare, kind_of, text_of}
use Rattle.language.specs.declared.Edge.TheVariants.{Other}
use Rattle.language.specs.declared.Rank.{Rank}
use Rattle.language.specs.declared.Rank.TheVariants.{Expression, Grouped, Primary}
use Rattle.language.specs.declared.Start.TheVariants.{Any, Statement}
use Rattle.language.specs.Vocabulary.{takes, precedence}
use Rattle.language.specs.Edges.{edge, edge_as_written}
use Rattle.language.specs.Pieces.{expr, directive_string, statement, item, opening, Spelling, at, put, sub, ending, behind}
use Rattle.language.specs.Statements.{statements, items, openings, end_of, is_string_literal}
use Rattle.language.specs.Grammar.{spellings}
use Rattle.language.specs.Token.{Token}
use Rattle.language.specs.Derivation.{Step, first, direct, grouped, done, step, within, placed}
use Rattle.language.proofs.table.BareEdges.{edge_bare}
use Rattle.language.proofs.table.Beginnings.{made_rank, too_tight}
use Rattle.language.proofs.table.ViewIsComplete.{way_of, made}
use Rattle.std.proofs.lemmas.Bool.{and_parts, false≢true}
use Rattle.language.proofs.lower_bound.Domination.{settled}
use Rattle.language.proofs.table.Productions.{way_from, in_true, in_false}
use Rattle.parser_tables.specs.declared.operand.Operand.{Operand}
use Rattle.parser_tables.specs.declared.statements.StatementContext.{StatementContext}
use Rattle.recursive_descent.specs.Soundness.{RunsIn, Adds, ReadAt, bare_role}
use Rattle.recursive_descent.specs.SoundnessOfStatements.{StatementAt, context_role}
use Rattle.parser_tables.specs.Operands.{is_group, is_lone_string}
use Rattle.parser_tables.specs.StatementNodes.{expression_statement_node, expression_statement_height}
use Rattle.recursive_descent.proofs.sound_statements.OwnTokenStatements.{role_of}
use Rattle.recursive_descent.proofs.reading.FirstOfPieces.{adds_before}
use Rattle.recursive_descent.proofs.sound_statements.StatementWays.{end_standing}
use Rattle.token_cursor.specs.SourceText.{SourceText, SeenNext, behind_in}
use Rattle.recursive_descent.specs.Spelled.{SpellsIn}

-- a string literal
pub literal_role : (n : Tree) → is_string_literal (kind_of n) (text_of n) ≡ true → bare_role n ≡ Some directive_string
literal_role (node Literal w g s e ps) h = ap (λ b. cond b (Some directive_string) None) h
literal_role (node _ w g s e ps) h = absurd (false≢true h)

literal_edge : (n : Tree) → is_string_literal (kind_of n) (text_of n) ≡ true → edge n ≡ Other
literal_edge (node Literal w g s e ps) h = refl
literal_edge (node _ w g s e ps) h = absurd (false≢true h)

pub group_taken : (r : Rank) → is_group r ≡ true → IsTrue (takes Grouped r)
group_taken Grouped h = refl
group_taken _ h = absurd (false≢true h)

-- where a group begins doesn't matter
grouped_any : {text : SourceText} {o : ℕ} {n : Tree} {s e : Token} {P : List Pair} → SpellsIn text o (expr Grouped true Statement) n s e P → SpellsIn text o (expr Grouped true Any) n s e P
unfolding spellings
grouped_any (grouped p d q) = grouped p d q
grouped_any {n = node k w g st en ps} (direct qs h pl d) = let v = way_of h in absurd (too_tight (precedence v.spelling.rank) (made_rank (made k v.listed)) (and_parts _ _ (and_parts _ _ v.fit).0).0)

module _ (text : SourceText) {o : ℕ} {p : Operand} {s m e : Token} {P : List Pair} (read : ReadAt text (record { rank = Expression; has_in = true; start = Statement }) p o s m P) (fits : p.cover.shape.is_expression ≡ true) (end : EndsAt text (AfterExpression p.edge) m e) where
  ended : Step Token (SeenNext text) (behind_in text) (ending (behind (edge (bare p.cover.node)))) m e
  ended = end_standing text (read.part.edge ∙ ap (λ y. edge_as_written y m) (sym (edge_bare p.cover.node))) end

  plain_runs : RunsIn text o (sub (expr Expression true Statement) ∷ ending (behind (edge (bare p.cover.node))) ∷ []) (part p.cover.node none) s e P
  plain_runs = subst (λ Q. RunsIn text o (sub (expr Expression true Statement) ∷ ending (behind (edge (bare p.cover.node))) ∷ []) (part p.cover.node none) s e Q) (append-nil P)
      (within (read.part.stands fits Expression true (read.taken refl) (λ h. refl)) (step ended done))

  as_a_statement : (r : Bool) → SpellsIn text o (statement r) (expression_statement_node false p.start e.stop p.cover.node) s e P
  unfolding spellings statements
  as_a_statement r =
      let x : Spelling = at Primary (put (expr Expression true Statement) ∷ end_of (edge (bare p.cover.node)) ∷ []) in
      direct (settled (statement r) x) (way_from (statement r) (expression_statement_node false p.start e.stop p.cover.node) x refl first refl) (placed read.part.begins.next (ap (λ (c : ℕ). (c, e.stop)) read.part.begins.start)) plain_runs

  as_an_item : (r : Bool) → SpellsIn text o (item r) (expression_statement_node false p.start e.stop p.cover.node) s e P
  unfolding spellings items statements
  as_an_item r =
      let x : Spelling = at Primary (put (expr Expression true Statement) ∷ end_of (edge (bare p.cover.node)) ∷ []) in
      direct (settled (item r) x) (way_from (item r) (expression_statement_node false p.start e.stop p.cover.node) x refl first refl) (placed read.part.begins.next (ap (λ (c : ℕ). (c, e.stop)) read.part.begins.start)) plain_runs

  bare_string : is_string_literal (kind_of (bare p.cover.node)) (text_of (bare p.cover.node)) ≡ is_string_literal (kind_of p.cover.node) (text_of p.cover.node)
  bare_string = of p.cover.node
    where
      of : (n : Tree) → is_string_literal (kind_of (bare n)) (text_of (bare n)) ≡ is_string_literal (kind_of n) (text_of n)
      of (node k w g s e ps) = refl

  as_first : (r : Bool) → is_string_literal (kind_of p.cover.node) (text_of p.cover.node) ≡ false → SpellsIn text o (opening r) (expression_statement_node false p.start e.stop p.cover.node) s e P
  unfolding spellings openings
  as_first r h =
      let x : Spelling = at Primary (put (expr Expression true Statement) ∷ end_of (edge (bare p.cover.node)) ∷ []) in
      direct (settled (opening r) x) (way_from (opening r) (expression_statement_node false p.start e.stop p.cover.node) x refl (in_false _ _ (bare_string ∙ h) first) refl) (placed read.part.begins.next (ap (λ (c : ℕ). (c, e.stop)) read.part.begins.start)) plain_runs

  as_directive : (r : Bool) → is_string_literal (kind_of p.cover.node) (text_of p.cover.node) ≡ true → is_group p.rank ≡ false → SpellsIn text o (opening r) (expression_statement_node true p.start e.stop p.cover.node) s e P
  unfolding spellings openings
  as_directive r h alone =
      let x : Spelling = at Primary (put directive_string ∷ end_of Other ∷ []) in
      let last = end_standing text (read.part.edge ∙ ap (λ y. edge_as_written y m) (literal_edge p.cover.node h)) end in
      let run = subst (λ Q. RunsIn text o (sub directive_string ∷ ending (behind Other) ∷ []) (part p.cover.node none) s e Q) (append-nil P) (within (read.part.bare directive_string alone (literal_role p.cover.node h)) (step last done)) in
      direct (settled (opening r) x) (way_from (opening r) (expression_statement_node true p.start e.stop p.cover.node) x refl (in_true _ _ (bare_string ∙ h) first) refl) (placed read.part.begins.next (ap (λ (c : ℕ). (c, e.stop)) read.part.begins.start)) run

  as_group : (r : Bool) → is_string_literal (kind_of p.cover.node) (text_of p.cover.node) ≡ true → is_group p.rank ≡ true → SpellsIn text o (opening r) (expression_statement_node false p.start e.stop p.cover.node) s e P
  unfolding spellings openings
  as_group r h group =
      let x : Spelling = at Primary (put (expr Grouped true Any) ∷ end_of (edge (bare p.cover.node)) ∷ []) in
      let run = subst (λ Q. RunsIn text o (sub (expr Grouped true Any) ∷ ending (behind (edge (bare p.cover.node))) ∷ []) (part p.cover.node none) s e Q) (append-nil P)
      (within (grouped_any (read.part.stands fits Grouped true (group_taken p.rank group) (λ h. refl))) (step ended done)) in
      direct (settled (opening r) x) (way_from (opening r) (expression_statement_node false p.start e.stop p.cover.node) x refl (in_true _ _ (bare_string ∙ h) first) refl) (placed read.part.begins.next (ap (λ (c : ℕ). (c, e.stop)) read.part.begins.start)) run

  -- at each position
  evaluated_at : (i b r : Bool) → SpellsIn text o (role_of i b r) (expression_statement_node (i && (b && is_lone_string p)) p.start e.stop p.cover.node) s e P
  evaluated_at false b r = as_a_statement r
  evaluated_at true false r = as_an_item r
  evaluated_at true true r = go (is_string_literal (kind_of p.cover.node) (text_of p.cover.node)) (is_group p.rank) refl refl
    where
      go : (x y : Bool) → is_string_literal (kind_of p.cover.node) (text_of p.cover.node) ≡ x → is_group p.rank ≡ y → SpellsIn text o (opening r) (expression_statement_node (x && not y) p.start e.stop p.cover.node) s e P
      go false y a b = as_first r a
      go true false a b = as_directive r a b
      go true true a b = as_group r a b

pub evaluated_stated : (s m e : CursorState) (old mid new : List Pair) (c : StatementContext) (p : Operand) (high : ℕ) (result : Result Tree Fault) → Adds s m old mid (ReadAt s.text (record { rank = Expression; has_in = true; start = Statement }) p) → m.text ≡ s.text → e.opened ≡ m.opened → new ≡ mid →
    IfOk result (λ n. n ≡ expression_statement_node (c.is_item && (c.is_prologue && is_lone_string p)) p.start e.last.stop p.cover.node) → IfOk result (λ n. (p.cover.shape.is_expression ≡ true) × (expression_statement_height p ≤ high)) → IfOk result (λ n. IsEnd m.text (AfterExpression p.edge) m.last e.last) →
    IfOk result (λ n. Adds s e old new (StatementAt s.text (context_role c) n))
evaluated_stated s m e old mid new c p high (Ok n) a text open_same same made_so fits ends = adds_before a open_same same (λ o P u.
    subst (λ k. StatementAt s.text (context_role c) k o s.last e.last P) (sym made_so) (record {
      spelled = evaluated_at s.text u fits.0 (subst (λ t. EndsAt t (AfterExpression p.edge) m.last e.last) text ends.ends) c.is_item c.is_prologue c.returns;
      dangles = λ h. cc;
    }))
evaluated_stated s m e old mid new c p high (Err fault) a text open_same same made_so fits ends = tt
