-- What stands behind `export`, by what was passed first (ECMA-262, 13th edition, 16.2.3).
use Rattle.std.proofs.Common.{◌≡◌, ◌≤◌, ◌-◌, ℕ, List, [], Result, Ok, Err, sym, ap, ◌∙◌, subst}
use Rattle.std.specs.Prelude.{IfOk, codes}
use Rattle.source_text.specs.declared.fault.Fault.{Fault}
use Rattle.tokens.specs.declared.token.TokenClass.{TokenClass}
use Rattle.token_cursor.specs.CursorState.{CursorState}
use Rattle.tree.specs.declared.kind.Pair.{Pair}
use Rattle.tree.specs.Tree.{Tree, height}
use Rattle.language.specs.Token.{Token}
use Rattle.language.specs.Claims.{max_open}
use Rattle.token_cursor.specs.SourceText.{SourceText}
use Rattle.token_cursor.specs.Seen.{ReadsHere}
use Rattle.language.specs.Pieces.{module_item}
use Rattle.recursive_descent.specs.Spelled.{SpellsIn, OfLanguage}
use Rattle.recursive_descent.specs.Soundness.{Adds}
use Rattle.recursive_descent.specs.Completeness.{Agrees, Room, EndsWith, FinishedIn}
use Rattle.recursive_descent.specs.ModuleItems.{ItemAt, ExportBehind, ReadBehind, ReadWhole, BehindComplete, DefaultComplete, ExportComplete, ItemComplete}
use Rattle.tokens.specs.declared.token.TokenClass.TheVariants.{IdentifierName, Punctuator}
use Rattle.recursive_descent.proofs.reading.AddedPairs.{adds_behind, adds_none}
use Rattle.recursive_descent.proofs.complete_expressions.Agreement.{ends_behind, agrees_map}

-- where a further token was passed
module _ (s x e : CursorState) (old mid new : List Pair) (from : ℕ) (same : x.text ≡ s.text) (same_open : x.opened ≡ s.opened) (same_pairs : mid ≡ old) where
  pub behind_whole : (c : TokenClass) (w : List ℕ) (n : Tree) → ReadsHere s.text c w s.last x.last → e.opened ≡ x.opened → new ≡ mid → ReadBehind x e c w from n → Adds s e old new (ItemAt s.text (codes "export") from n)
  behind_whole c w n passed end_open end_pairs read =
      adds_none (end_open ∙ same_open) (end_pairs ∙ same_pairs) (λ o b r stands. subst (λ v. ExportBehind v c w from n o x.last e.last []) same (read o) b s.last r stands passed)

  pub behind_added : (c : TokenClass) (w : List ℕ) (n : Tree) → ReadsHere s.text c w s.last x.last → Adds x e mid new (ExportBehind x.text c w from n) → Adds s e old new (ItemAt s.text (codes "export") from n)
  behind_added c w n passed a = adds_behind {s = s} {m = x} {e = e} same_open same_pairs a (λ o P u b r stands. subst (λ v. ExportBehind v c w from n o x.last e.last P) same u b s.last r stands passed)

  there : (A : SourceText → Type 0) → A s.text → A x.text
  there A h = subst A (sym same) h

  -- the room that completeness asks for
  room_here : {o levels high : ℕ} → Room s o levels high → Room x o levels high
  room_here {o} room = (subst (λ k. o ≤ max_open - k) (sym same_open) room.0, room.1)

  moved : (o high : ℕ) (n : Tree) (to : Token) (P : List Pair) (result : Result Tree Fault) → Agrees (Room x o (height n) high) (λ m. (m ≡ n) × EndsWith x e mid new to P) result → Agrees (Room s o (height n) high) (λ m. (m ≡ n) × EndsWith s e old new to P) result
  moved o high n to P result h =
      agrees_map (Room x o (height n) high) (Room s o (height n) high) (λ m. (m ≡ n) × EndsWith x e mid new to P) (λ m. (m ≡ n) × EndsWith s e old new to P) result h room_here (λ m u. (u.0, ends_behind same_pairs u.1))

  pub all_complete : (high : ℕ) (result : Result Tree Fault) → ReadsHere s.text Punctuator (codes "*") s.last x.last → BehindComplete x e mid new high Punctuator (codes "*") from result → ExportComplete s e old new high from result
  all_complete high result passed complete o n b to P word stands d fine own =
      moved o high n to P result (complete o n b s.last to P (there (λ v. ReadsHere v IdentifierName (codes "export") b s.last) word) stands (there (λ v. ReadsHere v Punctuator (codes "*") s.last x.last) passed) (there (λ v. SpellsIn v o module_item n b to P) d) (there (λ v. OfLanguage v n) own))

  pub default_complete : (high : ℕ) (result : Result Tree Fault) → ReadsHere s.text IdentifierName (codes "default") s.last x.last → DefaultComplete x e mid new high from result → ExportComplete s e old new high from result
  default_complete high result passed complete o n b to P word stands d fine own =
      moved o high n to P result (complete o n b s.last to P (there (λ v. ReadsHere v IdentifierName (codes "export") b s.last) word) stands (there (λ v. ReadsHere v IdentifierName (codes "default") s.last x.last) passed) (there (λ v. SpellsIn v o module_item n b to P) d) (there (λ v. FinishedIn v n to) fine) (there (λ v. OfLanguage v n) own))

-- where the cursor stayed
module _ (s x e : CursorState) (old mid new : List Pair) (from : ℕ) (same : x.text ≡ s.text) (same_open : x.opened ≡ s.opened) (same_pairs : mid ≡ old) (place : x.last ≡ s.last) where
  pub stayed_whole : (n : Tree) → e.opened ≡ x.opened → new ≡ mid → ReadWhole x e (codes "export") from n → Adds s e old new (ItemAt s.text (codes "export") from n)
  stayed_whole n end_open end_pairs read =
      adds_none (end_open ∙ same_open) (end_pairs ∙ same_pairs) (λ o. subst (λ v. ItemAt s.text (codes "export") from n o v e.last []) place (subst (λ v. ItemAt v (codes "export") from n o x.last e.last []) same (read o)))

  pub stayed_added : (n : Tree) → Adds x e mid new (ItemAt x.text (codes "export") from n) → Adds s e old new (ItemAt s.text (codes "export") from n)
  stayed_added n a = adds_behind {s = s} {m = x} {e = e} same_open same_pairs a (λ o P u. subst (λ v. ItemAt s.text (codes "export") from n o v e.last P) place (subst (λ v. ItemAt v (codes "export") from n o x.last e.last P) same u))

  pub stayed_list : (high : ℕ) (result : Result Tree Fault) → ItemComplete x e mid new high (codes "export") from result → ExportComplete s e old new high from result
  stayed_list high result complete o n b to P word stands d fine own =
      moved s x e old mid new from same same_open same_pairs o high n to P result
      (complete o n b to P (subst (λ v. ReadsHere x.text IdentifierName (codes "export") b v) (sym place) (subst (λ v. ReadsHere v IdentifierName (codes "export") b s.last) (sym same) word)) (ap (λ (v : Token). v.start) place ∙ stands) (subst (λ v. SpellsIn v o module_item n b to P) (sym same) d) (subst (λ v. OfLanguage v n) (sym same) own))

  pub stayed_complete : (high : ℕ) (result : Result Tree Fault) → ExportComplete x e mid new high from result → ExportComplete s e old new high from result
  stayed_complete high result complete o n b to P word stands d fine own =
      moved s x e old mid new from same same_open same_pairs o high n to P result
      (complete o n b to P (subst (λ v. ReadsHere x.text IdentifierName (codes "export") b v) (sym place) (subst (λ v. ReadsHere v IdentifierName (codes "export") b s.last) (sym same) word)) (ap (λ (v : Token). v.start) place ∙ stands) (subst (λ v. SpellsIn v o module_item n b to P) (sym same) d) (subst (λ v. FinishedIn v n to) (sym same) fine) (subst (λ v. OfLanguage v n) (sym same) own))

pub ok_each : {P Q : Tree → Type 0} (result : Result Tree Fault) → IfOk result P → ((n : Tree) → P n → Q n) → IfOk result Q
ok_each (Ok n) h f = f n h
ok_each (Err fault) h f = tt
