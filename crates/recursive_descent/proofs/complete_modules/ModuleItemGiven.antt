-- An item of a module that is given, by what begins it: a word of its own, or a statement (ECMA-262, 13th edition, 16.2).
use Rattle.std.proofs.Common.{◌≡◌, ℕ, ◌-◌, ◌≤◌, inl, inr, Bool, true, false, cond, List, Result, Ok, Err, refl, sym, subst}
use Rattle.std.specs.Prelude.{codes}
use Rattle.source_text.specs.declared.fault.Fault.{Fault}
use Rattle.source_text.specs.declared.fault.Fault.TheVariants.{TooDeep, OutOfMemory}
use Rattle.tokens.specs.Tokens.{LexicalToken}
use Rattle.tokens.specs.declared.token.TokenClass.TheVariants.{IdentifierName, Punctuator}
use Rattle.tokens.specs.declared.token.Goal.TheVariants.{Div}
use Rattle.tree.specs.declared.kind.Pair.{Pair}
use Rattle.tree.specs.Tree.{Tree, height, kind_of}
use Rattle.token_cursor.specs.CursorState.{CursorState, IsAhead}
use Rattle.token_cursor.specs.Seen.{ReadsHere, Misses}
use Rattle.token_cursor.specs.SourceText.{SourceText, SeenNext, behind_in}
use Rattle.token_cursor.proofs.SeenTokens.{seen_determined}
use Rattle.token_cursor.proofs.TokensAhead.{ahead_read, name_by}
use Rattle.language.specs.Pieces.{opening, item, statement, module_item}
use Rattle.language.specs.Claims.{max_open}
use Rattle.language.specs.Statements.{is_module_item}
use Rattle.language.specs.Token.{Token, as_read}
use Rattle.language.specs.Vocabulary.{is_reserved}
use Rattle.language.proofs.table.ItemTokens.{item_starts}
use Rattle.language.proofs.list_loops.StatementLists.{no_start}
use Rattle.unambiguity_laws.proofs.modules.Imports.{import_no_sign}
use Rattle.unambiguity_laws.proofs.modules.ModuleItems.{an_import, an_export, module_item_form}
use Rattle.parser_tables.specs.declared.statements.StatementContext.{StatementContext}
use Rattle.recursive_descent.specs.Complete.{StatementComplete}
use Rattle.recursive_descent.specs.Completeness.{Room, EndsWith, FinishedIn, Agrees}
use Rattle.recursive_descent.specs.ModuleItems.{ExportComplete, ItemComplete, ModuleItemComplete}
use Rattle.recursive_descent.specs.SoundnessOfStatements.{context_role}
use Rattle.recursive_descent.specs.Spelled.{SpellsIn, OfLanguage}
use Rattle.recursive_descent.proofs.complete_expressions.Agreement.{ends_behind, not_missed}
use Rattle.recursive_descent.proofs.complete_modules.ImportFirst.{no_import}
use Rattle.recursive_descent.proofs.complete_statements.StatementListsGiven.{first_stands}
use Rattle.recursive_descent.proofs.sound_modules.ModuleTests.{ImportGoesOn, ImportStops}

-- what is read behind what added nothing
agrees_behind : (s m e : CursorState) (old mid new : List Pair) (o levels high : ℕ) (n : Tree) (to : Token) (P : List Pair) (result : Result Tree Fault) → m.opened ≡ s.opened → mid ≡ old →
    Agrees (Room m o levels high) (λ k. (k ≡ n) × EndsWith m e mid new to P) result → Agrees (Room s o levels high) (λ k. (k ≡ n) × EndsWith s e old new to P) result
agrees_behind s m e old mid new o levels high n to P (Ok k) opens pairs a = (a.0, ends_behind pairs a.1)
agrees_behind s m e old mid new o levels high n to P (Err TooDeep) opens pairs a = λ room. a (subst (λ k. o ≤ max_open - k) (sym opens) room.0, room.1)
agrees_behind s m e old mid new o levels high n to P (Err OutOfMemory) opens pairs a = tt
agrees_behind s m e old mid new o levels high n to P (Err _) opens pairs a = absurd a

-- no import and no export begins behind the place
abbrev pub NoItem : SourceText → Token → Type 0
NoItem text s = (o : ℕ) (n : Tree) (e : Token) (P : List Pair) → SpellsIn text o module_item n s e P → ⊥

module _ (text : SourceText) (s : Token) where
  pub no_item_words : Misses text IdentifierName (codes "export") s → Misses text IdentifierName (codes "import") s → NoItem text s
  no_item_words no_export no_import o n e P d = elim (module_item_form Token (SeenNext text) (behind_in text) (seen_determined text) d) [
    | an_import tree pl r i ↦ not_missed no_import r
    | an_export tree pl r i ↦ not_missed no_export r
  ]

  module _ (u : LexicalToken) (ahead : IsAhead Div text s.stop u) where
    pub no_item_called : Misses text IdentifierName (codes "export") s → ImportGoesOn text s u ahead → NoItem text s
    no_item_called no_export (m, next, sees) o n e P d = elim (module_item_form Token (SeenNext text) (behind_in text) (seen_determined text) d) [
      | an_import {x = x} {t = t} tree pl r i ↦
          let place : m ≡ x = ((seen_determined text).same Div s (as_read u) t m x next r.next (ahead_read text Div s u ahead).allowed (name_by text r).allowed).1 in
          elim sees [
            | inl w ↦ import_no_sign Token (SeenNext text) (behind_in text) (seen_determined text) refl refl refl (subst (λ z. ReadsHere text Punctuator (codes "(") z w.0) place w.1) i
            | inr w ↦ import_no_sign Token (SeenNext text) (behind_in text) (seen_determined text) refl refl refl (subst (λ z. ReadsHere text Punctuator (codes ".") z w.0) place w.1) i
          ]
      | an_export tree pl r i ↦ not_missed no_export r
    ]

-- then a statement is read
module _ (s e : CursorState) (old new : List Pair) (high : ℕ) (c : StatementContext) (result : Result Tree Fault) where
  pub statement_given : NoItem s.text s.last → StatementComplete s e old new high c result → ModuleItemComplete s e old new high c result
  statement_given none complete o n to P items returns d fine own = of (is_module_item (kind_of n)) d
    where
      of : (k : Bool) → SpellsIn s.text o (cond k module_item (context_role c)) n s.last to P → Agrees (Room s o (height n) high) (λ m. (m ≡ n) × EndsWith s e old new to P) result
      of true d = absurd (none o n to P d)
      of false d = complete o n to P d fine own

  role : c.is_item ≡ true → c.returns ≡ false → context_role c ≡ cond c.is_prologue (opening false) (item false)
  role items returns = λ i. cond (items i) (cond c.is_prologue (opening (returns i)) (item (returns i))) (statement (returns i))

  module _ (m : CursorState) (mid : List Pair) (from : ℕ) (same : m.text ≡ s.text) (opens : m.opened ≡ s.opened) (pairs : mid ≡ old) (stands : m.last.start ≡ from) where
    module _ (w : List ℕ) (word : ReadsHere s.text IdentifierName w s.last m.last) (no_statement : (o : ℕ) (n : Tree) (to : Token) (P : List Pair) → SpellsIn s.text o (cond c.is_prologue (opening false) (item false)) n s.last to P → ⊥) where
      item_given : ((o : ℕ) (n : Tree) (to : Token) (P : List Pair) → ReadsHere m.text IdentifierName w s.last m.last → SpellsIn m.text o module_item n s.last to P → FinishedIn m.text n to → OfLanguage m.text n → Agrees (Room m o (height n) high) (λ k. (k ≡ n) × EndsWith m e mid new to P) result) → ModuleItemComplete s e old new high c result
      item_given complete o n to P items returns d fine own = of (is_module_item (kind_of n)) d
        where
          of : (k : Bool) → SpellsIn s.text o (cond k module_item (context_role c)) n s.last to P → Agrees (Room s o (height n) high) (λ m. (m ≡ n) × EndsWith s e old new to P) result
          of true d =
              agrees_behind s m e old mid new o (height n) high n to P result opens pairs
              (complete o n to P (subst (λ t. ReadsHere t IdentifierName w s.last m.last) (sym same) word) (subst (λ t. SpellsIn t o module_item n s.last to P) (sym same) d) (subst (λ t. FinishedIn t n to) (sym same) fine) (subst (λ t. OfLanguage t n) (sym same) own))
          of false d = absurd (no_statement o n to P (subst (λ a. SpellsIn s.text o a n s.last to P) (role items returns) d))

    pub export_given : ReadsHere s.text IdentifierName (codes "export") s.last m.last → ExportComplete m e mid new high from result → ModuleItemComplete s e old new high c result
    unfolding is_reserved
    export_given word complete =
        item_given (codes "export") word (λ o n to P d. no_start Token (SeenNext s.text) (behind_in s.text) (seen_determined s.text) refl refl word (item_starts Token (SeenNext s.text) (behind_in s.text) (seen_determined s.text) (first_stands false c.is_prologue) d))
        (λ o n to P r d fine own. complete o n s.last to P r stands d fine own)

    pub import_given : (u : LexicalToken) (ahead : IsAhead Div s.text s.last.stop u) → SeenNext s.text s.last (as_read u) m.last → ImportStops s.text s.last u ahead → ReadsHere s.text IdentifierName (codes "import") s.last m.last → ItemComplete m e mid new high (codes "import") from result →
        ModuleItemComplete s e old new high c result
    import_given u ahead next stops word complete =
        item_given (codes "import") word (λ o n to P d. no_import s.text (first_stands false c.is_prologue) d word (stops m.last next).0 (stops m.last next).1)
        (λ o n to P r d fine own. complete o n s.last to P r stands d own)
