-- An item of a module by its kind: an import or export, or a statement (ECMA-262, 13th edition, 16.2).
use Rattle.std.proofs.Common.{◌≡◌, ℕ, Bool, true, false, cond, List, Result, Ok, Err, refl, sym, subst}
use Rattle.std.specs.Prelude.{IfOk}
use Rattle.source_text.specs.declared.fault.Fault.{Fault}
use Rattle.tree.specs.declared.kind.Pair.{Pair}
use Rattle.tree.specs.declared.kind.Kind.TheVariants.{ImportDeclaration, ExportNamedDeclaration, ExportDefaultDeclaration, ExportAllDeclaration}
use Rattle.tree.specs.Tree.{Tree, node, kind_of}
use Rattle.tokens.specs.declared.token.TokenClass.TheVariants.{IdentifierName}
use Rattle.token_cursor.specs.CursorState.{CursorState}
use Rattle.token_cursor.specs.Seen.{ReadsHere}
use Rattle.token_cursor.specs.SourceText.{SourceText}
use Rattle.language.specs.Pieces.{item, opening, statement, module_item}
use Rattle.language.specs.Token.{Token}
use Rattle.language.specs.Statements.{is_module_item, statements, items, openings}
use Rattle.language.specs.Grammar.{spellings}
use Rattle.language.specs.Derivation.{direct}
use Rattle.language.proofs.table.ViewIsComplete.{way_of}
use Rattle.parser_tables.specs.declared.statements.StatementContext.{StatementContext}
use Rattle.recursive_descent.specs.Later.{item_of_module}
use Rattle.recursive_descent.specs.ModuleItems.{ItemAt, ReadWhole}
use Rattle.recursive_descent.specs.Soundness.{Adds}
use Rattle.recursive_descent.specs.SoundnessOfStatements.{StatementAt, context_role}
use Rattle.recursive_descent.specs.Spelled.{SpellsIn}
use Rattle.recursive_descent.proofs.reading.AddedPairs.{adds_behind, adds_none}

module _ (text : SourceText) where
  -- no statement is of a kind of imports and exports
  no_statement_kind : {r : Bool} {o : ℕ} {n : Tree} {s e : Token} {P : List Pair} → SpellsIn text o (statement r) n s e P → is_module_item (kind_of n) ≡ false
  unfolding spellings statements
  no_statement_kind {n = node ImportDeclaration w g st en ps} (direct qs h pl d) = elim ((way_of h).listed) [ ]
  no_statement_kind {n = node ExportNamedDeclaration w g st en ps} (direct qs h pl d) = elim ((way_of h).listed) [ ]
  no_statement_kind {n = node ExportDefaultDeclaration w g st en ps} (direct qs h pl d) = elim ((way_of h).listed) [ ]
  no_statement_kind {n = node ExportAllDeclaration w g st en ps} (direct qs h pl d) = elim ((way_of h).listed) [ ]
  no_statement_kind {n = node _ w g st en ps} d = refl

  no_item_kind : {r : Bool} {o : ℕ} {n : Tree} {s e : Token} {P : List Pair} → SpellsIn text o (item r) n s e P → is_module_item (kind_of n) ≡ false
  unfolding spellings items statements
  no_item_kind {n = node ImportDeclaration w g st en ps} (direct qs h pl d) = elim ((way_of h).listed) [ ]
  no_item_kind {n = node ExportNamedDeclaration w g st en ps} (direct qs h pl d) = elim ((way_of h).listed) [ ]
  no_item_kind {n = node ExportDefaultDeclaration w g st en ps} (direct qs h pl d) = elim ((way_of h).listed) [ ]
  no_item_kind {n = node ExportAllDeclaration w g st en ps} (direct qs h pl d) = elim ((way_of h).listed) [ ]
  no_item_kind {n = node _ w g st en ps} d = refl

  no_opening_kind : {r : Bool} {o : ℕ} {n : Tree} {s e : Token} {P : List Pair} → SpellsIn text o (opening r) n s e P → is_module_item (kind_of n) ≡ false
  unfolding spellings openings items statements
  no_opening_kind {n = node ImportDeclaration w g st en ps} (direct qs h pl d) = elim ((way_of h).listed) [ ]
  no_opening_kind {n = node ExportNamedDeclaration w g st en ps} (direct qs h pl d) = elim ((way_of h).listed) [ ]
  no_opening_kind {n = node ExportDefaultDeclaration w g st en ps} (direct qs h pl d) = elim ((way_of h).listed) [ ]
  no_opening_kind {n = node ExportAllDeclaration w g st en ps} (direct qs h pl d) = elim ((way_of h).listed) [ ]
  no_opening_kind {n = node _ w g st en ps} d = refl

  pub no_module_kind : (c : StatementContext) {o : ℕ} {n : Tree} {s e : Token} {P : List Pair} → SpellsIn text o (context_role c) n s e P → is_module_item (kind_of n) ≡ false
  no_module_kind c d = of c.is_item c.is_prologue d
    where
      of : (i p : Bool) {o : ℕ} {n : Tree} {s e : Token} {P : List Pair} → SpellsIn text o (cond i (cond p (opening c.returns) (item c.returns)) (statement c.returns)) n s e P → is_module_item (kind_of n) ≡ false
      of true true d = no_opening_kind d
      of true false d = no_item_kind d
      of false p d = no_statement_kind d

  -- an import or export is of one
  module_kind : {o : ℕ} {n : Tree} {s e : Token} {P : List Pair} → SpellsIn text o module_item n s e P → is_module_item (kind_of n) ≡ true
  unfolding spellings
  module_kind {n = node ImportDeclaration w g st en ps} d = refl
  module_kind {n = node ExportNamedDeclaration w g st en ps} d = refl
  module_kind {n = node ExportDefaultDeclaration w g st en ps} d = refl
  module_kind {n = node ExportAllDeclaration w g st en ps} d = refl
  module_kind {n = node _ w g st en ps} (direct qs h pl d) = elim ((way_of h).listed) [ ]

-- so a statement that was read is an item, and an import or export behind its word
module _ (s e : CursorState) (old new : List Pair) (c : StatementContext) where
  abbrev Item : Tree → Type 0
  Item n = Adds s e old new (λ o b k P. SpellsIn s.text o (item_of_module c n) n b k P)

  pub statement_item : (result : Result Tree Fault) → IfOk result (λ n. Adds s e old new (StatementAt s.text (context_role c) n)) → IfOk result Item
  statement_item (Ok n) a = adds_behind refl refl a (λ o P u. subst (λ k. SpellsIn s.text o (cond k module_item (context_role c)) n s.last e.last P) (sym (no_module_kind s.text c u.spelled)) u.spelled)
  statement_item (Err f) a = tt

  module _ (m : CursorState) (mid : List Pair) (w : List ℕ) (from : ℕ) (same : m.text ≡ s.text) (open_same : m.opened ≡ s.opened) (pairs_same : mid ≡ old) (word : ReadsHere s.text IdentifierName w s.last m.last) (stands : m.last.start ≡ from) where
    begun : (n : Tree) → Adds m e mid new (ItemAt m.text w from n) → Item n
    begun n a =
        adds_behind open_same pairs_same a (λ o P u.
        let spelled : SpellsIn s.text o module_item n s.last e.last P = subst (λ t. ReadsHere t IdentifierName w s.last m.last → m.last.start ≡ from → SpellsIn t o module_item n s.last e.last P) same (u s.last) word stands in
        subst (λ k. SpellsIn s.text o (cond k module_item (context_role c)) n s.last e.last P) (sym (module_kind s.text spelled)) spelled)

    pub begun_item : (result : Result Tree Fault) → IfOk result (λ n. Adds m e mid new (ItemAt m.text w from n)) → IfOk result Item
    begun_item (Ok n) a = begun n a
    begun_item (Err f) a = tt

    pub whole_item : (result : Result Tree Fault) → e.opened ≡ m.opened → new ≡ mid → IfOk result (ReadWhole m e w from) → IfOk result Item
    whole_item (Ok n) opens pairs whole = begun n (adds_none opens pairs whole)
    whole_item (Err f) opens pairs whole = tt
