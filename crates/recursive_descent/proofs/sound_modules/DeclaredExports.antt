-- An exported declaration: what begins with the words of one is one (ECMA-262, 13th edition, 16.2.3).
use Rattle.std.proofs.Common.{◌≡◌, ◌⊎◌, inl, inr, ℕ, Bool, true, false, List, [], ◌∷◌, refl, sym, ap, ◌∙◌, subst}
use Rattle.std.specs.Prelude.{codes, ◌||◌}
use Rattle.std.proofs.lemmas.Bool.{false≢true}
use Rattle.std.proofs.lemmas.List.{append-nil}
use Rattle.tokens.specs.declared.token.TokenClass.TheVariants.{IdentifierName, Punctuator}
use Rattle.tokens.specs.declared.token.Goal.TheVariants.{Div, RegExp}
use Rattle.tree.specs.declared.kind.Kind.{Kind}
use Rattle.tree.specs.declared.kind.Kind.TheVariants.{FunctionDeclaration, ClassDeclaration, VariableDeclaration, ExportNamedDeclaration}
use Rattle.tree.specs.declared.kind.Pair.{Pair}
use Rattle.tree.specs.Tree.{Tree, node, plain, none, part, gap, kind_of}
use Rattle.language.specs.declared.Rank.TheVariants.{Primary}
use Rattle.language.specs.Vocabulary.{among}
use Rattle.language.specs.Pieces.{item, module_item, at, put, absent, sp, term}
use Rattle.language.specs.Token.{Token}
use Rattle.language.specs.StatementStart.{StatementStart, a_variable, a_function, a_class, an_expression, is_own, statement_start_by}
use Rattle.language.specs.Promises.{is_free, ReadBy}
use Rattle.language.specs.Derivation.{Reads, first, step, within, missing, done, token, laid}
use Rattle.language.proofs.table.Begins.{among_by}
use Rattle.language.proofs.table.Beginnings.{OtherWay, a_label, evaluated, a_directive, a_group, Viewed, its_own, another, later, later_for, later_generator, later_async, viewed}
use Rattle.language.proofs.table.StatementWays.{begins_as, as_item}
use Rattle.language.proofs.climbing.AsyncNames.{no_async_function}
use Rattle.language.proofs.climbing.Leaves.{name_form}
use Rattle.language.proofs.climbing.NamesBehind.{apart_ended}
use Rattle.language.proofs.list_loops.FirstPieces.{run_token, run_part}
use Rattle.language.proofs.list_loops.PiecesSoFar.{run_end}
use Rattle.language.proofs.covers.CoverReadings.{name_or_sign}
use Rattle.token_cursor.specs.SourceText.{SourceText, SeenNext, behind_in}
use Rattle.token_cursor.specs.Seen.{ReadsHere, SeesBy, declares}
use Rattle.token_cursor.proofs.SeenTokens.{seen_determined}
use Rattle.token_cursor.proofs.TokensAhead.{class_of}
use Rattle.unambiguity_laws.proofs.modules.Exports.{is_exported}
use Rattle.parser_tables.specs.StatementStarts.{AsyncFunctionAhead}
use Rattle.recursive_descent.specs.Spelled.{SpellsIn}
use Rattle.recursive_descent.specs.ModuleItems.{begins_declaration, ItemAt}
use Rattle.recursive_descent.proofs.complete_expressions.Agreement.{words_same}
use Rattle.recursive_descent.proofs.sound_modules.ModuleEnds.{item_spelled}

-- the beginning of a declaration
abbrev pub declares_so : StatementStart → Bool
declares_so a_variable = true
declares_so a_function = true
declares_so a_class = true
declares_so _ = false

pub so_exported : (k : Kind) → declares_so (begins_as k) ≡ true → is_exported k ≡ true
so_exported VariableDeclaration h = refl
so_exported FunctionDeclaration h = refl
so_exported ClassDeclaration h = refl
so_exported _ h = absurd (false≢true h)

pub exported_so : (k : Kind) → is_exported k ≡ true → declares_so (begins_as k) ≡ true
exported_so VariableDeclaration h = refl
exported_so FunctionDeclaration h = refl
exported_so ClassDeclaration h = refl
exported_so _ h = absurd (false≢true h)

either_of : (a b : Bool) → (a || b) ≡ true → (a ≡ true) ⊎ (b ≡ true)
either_of true b h = inl refl
either_of false b h = inr h

-- the words say so
word_declares : (w : List ℕ) → (declares w || among w ("function" ∷ "class" ∷ [])) ≡ true → declares_so (statement_start_by true false IdentifierName w) ≡ true
word_declares w h = elim (either_of (declares w) (among w ("function" ∷ "class" ∷ [])) h) [
  | inl k ↦ among_by (λ v. declares_so (statement_start_by true false IdentifierName v) ≡ true) w ("var" ∷ "let" ∷ "const" ∷ []) k (refl, (refl, (refl, tt)))
  | inr k ↦ among_by (λ v. declares_so (statement_start_by true false IdentifierName v) ≡ true) w ("function" ∷ "class" ∷ []) k (refl, (refl, tt))
]

module _ (text : SourceText) where
  by_name : {w : List ℕ} {s k : Token} → ReadsHere text IdentifierName w s k → ReadBy Token (SeenNext text) (behind_in text) RegExp s (behind_in text k) k
  by_name {s = s} {k} r = record { next = r.next; allowed = (seen_determined text).free RegExp s (behind_in text k) k r.next (ap is_free r.class) }

  told : {o : ℕ} {n : Tree} {s m e : Token} {P : List Pair} {t : Token} {b : StatementStart} → declares_so b ≡ true → Viewed Token (SeenNext text) (behind_in text) (seen_determined text) false false o (item false) t m n s e P b → is_exported (kind_of n) ≡ true
  told h (its_own own u) = ap is_exported (ap kind_of u.tree) ∙ so_exported u.kind (ap declares_so u.begins ∙ h)
  told h (another e u) = absurd (false≢true (ap declares_so (sym e) ∙ h))
  told h (later (later_for z tree pl d)) = absurd (false≢true h)
  told h (later (later_generator tree pl d)) = ap is_exported (ap kind_of tree)
  told h (later (later_async c w z tree pl d)) = ap is_exported (ap kind_of tree)

  -- behind `async` and its `function` stands no label, and no expression
  no_other : {A : Type 0} {o : ℕ} {n : Tree} {s e : Token} {P : List Pair} → AsyncFunctionAhead text s → OtherWay Token (SeenNext text) (behind_in text) (seen_determined text) false false o (item false) n s e P → A
  no_other a (a_label tree pl d) =
      let u = run_part Token (SeenNext text) (behind_in text) d in
      let f = (name_form Token (SeenNext text) (behind_in text) (seen_determined text) u.spelled).0 in
      let r = run_token Token (SeenNext text) (behind_in text) u.runs in
      absurd (name_or_sign Token (SeenNext text) (behind_in text) (seen_determined text) refl a.function (subst (λ v. Reads Token (SeenNext text) (behind_in text) Punctuator (codes ":") v r.sign r.mid) (words_same text f.reads a.async).1 r.reads))
  no_other a (evaluated tree pl plainly d) =
      let u = run_part Token (SeenNext text) (behind_in text) d in
      let z = run_end Token (SeenNext text) (behind_in text) (seen_determined text) u.runs in
      absurd (no_async_function Token (SeenNext text) (behind_in text) (seen_determined text) (apart_ended Token (SeenNext text) (behind_in text) (seen_determined text) refl z.ends) u.spelled a.async a.function a.same_line)
  no_other a (a_directive prologue tree pl lit d) = absurd (false≢true prologue)
  no_other a (a_group prologue tree pl lit d) = absurd (false≢true prologue)

  async_told : {o : ℕ} {n : Tree} {s m e : Token} {P : List Pair} {t : Token} {b : StatementStart} → AsyncFunctionAhead text s → b ≡ an_expression → Viewed Token (SeenNext text) (behind_in text) (seen_determined text) false false o (item false) t m n s e P b → is_exported (kind_of n) ≡ true
  async_told a h (its_own own u) = absurd (false≢true (sym (ap is_own h) ∙ own))
  async_told a h (another e u) = no_other a u
  async_told a h (later (later_for z tree pl d)) = cc
  async_told a h (later (later_generator tree pl d)) = cc
  async_told a h (later (later_async c w z tree pl d)) = ap is_exported (ap kind_of tree)

  pub exported_kind : {o : ℕ} {n : Tree} {s e : Token} {P : List Pair} → SeesBy text Div begins_declaration s ⊎ AsyncFunctionAhead text s → SpellsIn text o (item false) n s e P → is_exported (kind_of n) ≡ true
  exported_kind {s = s} (inl (k, sees)) d =
      let t = behind_in text k in
      let both = class_of text IdentifierName t.class (declares t.text || among t.text ("function" ∷ "class" ∷ [])) sees.1 in
      let read : ReadBy Token (SeenNext text) (behind_in text) RegExp s t k = record { next = sees.0.next; allowed = (seen_determined text).free RegExp s t k sees.0.next (ap is_free both.0) } in
      told (ap (λ c. declares_so (statement_start_by true false c t.text)) both.0 ∙ word_declares t.text both.1) (viewed Token (SeenNext text) (behind_in text) (seen_determined text) as_item read d)
  exported_kind (inr a) d =
      async_told a (ap (λ c. statement_start_by true false c (behind_in text a.mid).text) a.async.class ∙ ap (statement_start_by true false IdentifierName) a.async.text) (viewed Token (SeenNext text) (behind_in text) (seen_determined text) as_item (by_name a.async) d)

  -- and it is exported
  pub declared_item : {o from : ℕ} {m e : Token} {P : List Pair} (d : Tree) → SpellsIn text o (item false) d m e P → is_exported (kind_of d) ≡ true → ItemAt text (codes "export") from (node ExportNamedDeclaration [] plain from e.stop (part d (gap none))) o m e P
  declared_item {o} {from} {m} {e} {P} (node k w g st en ns) d h b r stands = of k h d
    where
      of : (k : Kind) → is_exported k ≡ true → SpellsIn text o (item false) (node k w g st en ns) m e P → SpellsIn text o module_item (node ExportNamedDeclaration [] plain from e.stop (part (node k w g st en ns) (gap none))) b e P
      of VariableDeclaration h d =
          subst (λ v. SpellsIn text o module_item (node ExportNamedDeclaration [] plain v e.stop (part (node VariableDeclaration w g st en ns) (gap none))) b e P) stands
          (subst (λ v. SpellsIn text o module_item (node ExportNamedDeclaration [] plain m.start e.stop (part (node VariableDeclaration w g st en ns) (gap none))) b e v) (append-nil P)
          (item_spelled text {m = m} (at Primary (term "export" ∷ sp ∷ put (item false) ∷ absent ∷ [])) r.next refl first refl (step (token r) (step laid (within d (missing done))))))
      of FunctionDeclaration h d =
          subst (λ v. SpellsIn text o module_item (node ExportNamedDeclaration [] plain v e.stop (part (node FunctionDeclaration w g st en ns) (gap none))) b e P) stands
          (subst (λ v. SpellsIn text o module_item (node ExportNamedDeclaration [] plain m.start e.stop (part (node FunctionDeclaration w g st en ns) (gap none))) b e v) (append-nil P)
          (item_spelled text {m = m} (at Primary (term "export" ∷ sp ∷ put (item false) ∷ absent ∷ [])) r.next refl first refl (step (token r) (step laid (within d (missing done))))))
      of ClassDeclaration h d =
          subst (λ v. SpellsIn text o module_item (node ExportNamedDeclaration [] plain v e.stop (part (node ClassDeclaration w g st en ns) (gap none))) b e P) stands
          (subst (λ v. SpellsIn text o module_item (node ExportNamedDeclaration [] plain m.start e.stop (part (node ClassDeclaration w g st en ns) (gap none))) b e v) (append-nil P)
          (item_spelled text {m = m} (at Primary (term "export" ∷ sp ∷ put (item false) ∷ absent ∷ [])) r.next refl first refl (step (token r) (step laid (within d (missing done))))))
      of _ h d = absurd (false≢true h)
