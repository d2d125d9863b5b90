-- What is read of the pieces of a statement is of the text's language.
use Rattle.std.proofs.Common.{◌≡◌, inl, inr, ℕ, Bool, true, false, [], refl, sym, subst, ◌∙◌}
use Rattle.std.specs.Prelude.{Option, Some, None}
use Rattle.tokens.specs.declared.token.Token.{Token as Scanned}
use Rattle.token_cursor.specs.CursorState.{CursorState}
use Rattle.tree.specs.declared.kind.Kind.TheVariants.{BlockStatement, CatchClause, ClassBody, Identifier, VariableDeclaration}
use Rattle.tree.specs.declared.kind.Span.{Span}
use Rattle.tree.specs.Tree.{Tree, node, plain, Parts, none, join, push, push_gap}
use Rattle.covers.specs.declared.list.ListKind.{ListKind}
use Rattle.covers.specs.declared.list.ListKind.TheVariants as listed
use Rattle.covers.specs.declared.list.ListBuilder.{ListBuilder as ListOf}
use Rattle.tree.specs.Patterns.{pattern_parts}
use Rattle.covers.proofs.BasePatterns.{pattern_parts_later}
use Rattle.language.specs.declared.Edge.{Edge}
use Rattle.parser_tables.specs.declared.symbol_lists.PartialStatement.{PartialStatement}
use Rattle.parser_tables.specs.declared.symbol_lists.Symbol.{Symbol as Coded}
use Rattle.parser_tables.specs.declared.symbol_lists.Symbol.TheVariants as code
use Rattle.parser_tables.specs.StatementNodes.{with_part, with_list, list_parts, put_node, head_node}
use Rattle.parser_tables.specs.Tokens.{single_node}
use Rattle.recursive_descent.specs.declared.statement_symbols.Expected.{Expected}
use Rattle.recursive_descent.specs.Expectations.{ExpectedAt, LabelAt}
use Rattle.recursive_descent.specs.Spelled.{OfLanguage, AllOfLanguage}
use Rattle.recursive_descent.proofs.reading.LanguageTrees.{of_node, of_none, of_push, of_push_gap, of_join, pattern_of_language}
use Rattle.token_cursor.specs.SourceText.{SourceText}

module _ (text : SourceText) where
  -- the same parts
  same_parts : {b c : PartialStatement} → c ≡ b → AllOfLanguage text b.nodes → AllOfLanguage text c.nodes
  same_parts is own = subst (λ (x : PartialStatement). AllOfLanguage text x.nodes) (sym is) own

  -- a piece's own tokens add nothing but a label, or a gap
  label_own : (s e : CursorState) (b c : PartialStatement) (high : ℕ) → LabelAt s e b c high → AllOfLanguage text b.nodes → AllOfLanguage text c.nodes
  label_own s e b c high (inl u) own = same_parts u.2 (of_push b.nodes (single_node Identifier e.last) own (of_node {k = Identifier} {w = e.last.text} {g = plain} {ps = none} (λ x. refl) of_none))
  label_own s e b c high (inr u) own = same_parts u.2 (of_push_gap b.nodes own)

  pub expected_own : (p : Coded) (r : Bool) (s e : CursorState) (b c : PartialStatement) (high : ℕ) (want : Expected) → ExpectedAt p r s e b c high want → AllOfLanguage text b.nodes → AllOfLanguage text c.nodes
  expected_own (code.PunctuatorToken w) r s e b c high want h own = same_parts h.0.1 own
  expected_own (code.KeywordToken w) r s e b c high want h own = same_parts h.0.1 own
  expected_own code.NoLineTerminator r s e b c high want h own = same_parts h.0.2 own
  expected_own code.Label r s e b c high want h own = label_own s e b c high h.0 own
  expected_own code.DoWhileSemicolon r s e b c high want h own = same_parts h.0.1 own
  expected_own code.Semicolon r s e b c high want h own = same_parts h.0.1 own
  expected_own code.Test r s e b c high want h own = same_parts h.1.1 own
  expected_own code.Update r s e b c high want h own = same_parts h.1.1 own
  expected_own code.Argument r s e b c high want h own = same_parts h.1.1 own
  expected_own code.ForHead r s e b c high want h own = same_parts h.1 own
  expected_own code.Else r s e b c high want h own = same_parts h.1 own
  expected_own code.Finally r s e b c high want h own = same_parts h.1 own
  expected_own code.Catch r s e b c high want h own = same_parts h.1 own
  expected_own code.ClassHeritage r s e b c high want h own = same_parts h.1 own
  expected_own code.NoCatchParameter r s e b c high want h own = same_parts h.1.1 own
  expected_own _ r s e b c high want h own = same_parts h.1.1 own

  -- a gap; a part; the parts of a list
  pub gap_own : {ps qs : Parts} → qs ≡ push_gap ps → AllOfLanguage text ps → AllOfLanguage text qs
  gap_own {ps} is own = subst (λ x. AllOfLanguage text x) (sym is) (of_push_gap ps own)

  pub push_own : {ps qs : Parts} (n : Tree) → qs ≡ push ps n → OfLanguage text n → AllOfLanguage text ps → AllOfLanguage text qs
  push_own {ps} n is one own = subst (λ x. AllOfLanguage text x) (sym is) (of_push ps n own one)

  pub join_own : {ps qs : Parts} (more : Parts) → qs ≡ join ps more → AllOfLanguage text more → AllOfLanguage text ps → AllOfLanguage text qs
  join_own {ps} more is others own = subst (λ x. AllOfLanguage text x) (sym is) (of_join ps more own others)

  put_own : (p : Coded) (each : Bool) (n : Tree) → OfLanguage text n → OfLanguage text (put_node p each n)
  put_own code.ForHead true n own = pattern_of_language n own
  put_own code.ForHead false n own = own
  put_own code.Binding each n own = pattern_of_language n own
  put_own _ each n own = own

  pub part_own : (p : Coded) (each : Bool) (n : Tree) {x : Edge} (b : PartialStatement) {c : PartialStatement} → c ≡ with_part b (put_node p each n) x → OfLanguage text n → AllOfLanguage text b.nodes → AllOfLanguage text c.nodes
  part_own p each n b is one own = same_parts is (of_push b.nodes (put_node p each n) own (put_own p each n one))

  -- a block, and a handler
  pub block_own : {s e : ℕ} {n : Tree} {ps : Parts} → n ≡ node BlockStatement [] plain s e ps → AllOfLanguage text ps → OfLanguage text n
  block_own {s} {e} {ps = ps} tree own = subst (λ x. OfLanguage text x) (sym tree) (of_node {k = BlockStatement} {w = []} {g = plain} {st = s} {en = e} {ps = ps} (λ b. refl) own)

  pub handler_own : {s e : ℕ} {n : Tree} {before ps : Parts} → n ≡ node CatchClause [] plain s e ps → before ≡ none → (AllOfLanguage text before → AllOfLanguage text ps) → OfLanguage text n
  handler_own {s} {e} {ps = ps} tree empty own =
      subst (λ x. OfLanguage text x) (sym tree) (of_node {k = CatchClause} {w = []} {g = plain} {st = s} {en = e} {ps = ps} (λ b. refl) (own (subst (λ x. AllOfLanguage text x) (sym empty) of_none)))

  -- what is bound, part by part
  bound_own : (ps : Parts) → AllOfLanguage text ps → AllOfLanguage text (pattern_parts 0 ps)
  bound_own ps own = record { none_later = λ b. pattern_parts_later 0 ps ∙ own.none_later b }

  head_own : (word : Option Scanned) (e : ℕ) (ps : Parts) → AllOfLanguage text ps → OfLanguage text (head_node word e ps)
  head_own None e ps own = of_node {k = VariableDeclaration} {w = []} {g = plain} {st = 0} {en = e} {ps = ps} (λ b. refl) own
  head_own (Some t) e ps own = of_node {k = VariableDeclaration} {w = t.text.now} {g = plain} {st = t.start} {en = e} {ps = ps} (λ b. refl) own

  parts_own : (k : ListKind) (word : Option Scanned) (e : ℕ) (span : Span) (qs ps : Parts) → AllOfLanguage text ps → AllOfLanguage text qs → AllOfLanguage text (list_parts k word e span qs ps)
  parts_own (listed.Declarators false) word e span qs ps own before = of_push qs (head_node word e ps) before (head_own word e ps own)
  parts_own listed.Parameters word e span qs ps own before = of_join qs (pattern_parts 0 ps) before (bound_own ps own)
  parts_own listed.NoParameter word e span qs ps own before = of_join qs (pattern_parts 0 ps) before (bound_own ps own)
  parts_own listed.OneParameter word e span qs ps own before = of_join qs (pattern_parts 0 ps) before (bound_own ps own)
  parts_own listed.Members word e span qs ps own before = of_push qs (node ClassBody [] plain span.start span.end ps) before (of_node {k = ClassBody} {w = []} {g = plain} {st = span.start} {en = span.end} {ps = ps} (λ b. refl) own)
  parts_own (listed.Declarators true) word e span qs ps own before = of_join qs ps before own
  parts_own _ word e span qs ps own before = of_join qs ps before own

  pub with_list_own : (l : ListOf) (e : ℕ) (b : PartialStatement) {c : PartialStatement} → c ≡ with_list b l e → AllOfLanguage text l.nodes → AllOfLanguage text b.nodes → AllOfLanguage text c.nodes
  with_list_own l e b is own before = same_parts is (parts_own l.listed b.word e l.span b.nodes l.nodes own before)
