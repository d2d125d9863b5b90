-- A given exported declaration (ECMA-262, 13th edition, 16.2.3).
use Rattle.std.proofs.Common.{◌≡◌, ◌⊎◌, inl, inr, ℕ, suc, max, ◌-◌, ◌≤◌, arith, Bool, true, false, cond, List, [], ◌∷◌, Result, Ok, Err, refl, sym, ap, ◌∙◌, subst}
use Rattle.std.specs.Prelude.{codes, IsTrue, ◌&&◌, ◌||◌}
use Prim.Native.String.{String}
use Rattle.std.specs.Result.{IsErrAnd}
use Rattle.std.proofs.lemmas.Bool.{false≢true}
use Rattle.source_text.specs.declared.fault.Fault.{Fault}
use Rattle.tokens.specs.declared.token.TokenClass.{TokenClass}
use Rattle.tokens.specs.declared.token.TokenClass.TheVariants.{IdentifierName, Punctuator}
use Rattle.tokens.specs.declared.token.Goal.TheVariants.{Div, RegExp}
use Rattle.token_cursor.specs.CursorState.{CursorState}
use Rattle.tree.specs.declared.kind.Kind.TheVariants.{FunctionDeclaration, ClassDeclaration, VariableDeclaration, ExportNamedDeclaration}
use Rattle.tree.specs.declared.kind.Pair.{Pair}
use Rattle.tree.specs.Tree.{Tree, node, plain, none, part, gap, kind_of, height}
use Rattle.productions.specs.Made.{Makes}
use Rattle.language.specs.Vocabulary.{among}
use Rattle.language.specs.Edges.{ends_in_if}
use Rattle.language.specs.Pieces.{item, module_item}
use Rattle.language.specs.Token.{Token, same_class}
use Rattle.language.specs.StatementStart.{StatementStart, an_expression, statement_start, statement_start_by, statement_start_among, a_variable, a_function, a_class}
use Rattle.language.specs.Promises.{is_free, ReadBy}
use Rattle.language.specs.Following.{Followed}
use Rattle.language.proofs.table.Begins.{among_by}
use Rattle.language.proofs.table.Beginnings.{a_label, evaluated, a_directive, a_group, Viewed, its_own, another, later, later_for, later_generator, later_async, later_next, viewed}
use Rattle.language.proofs.table.ItemTokens.{item_starts}
use Rattle.language.proofs.table.StatementWays.{as_item}
use Rattle.token_cursor.specs.SourceText.{SourceText, SeenNext, behind_in}
use Rattle.token_cursor.specs.Seen.{ReadsHere, SeesBy, MissesBy, Misses, declares}
use Rattle.token_cursor.proofs.SeenTokens.{seen_determined}
use Rattle.unambiguity_laws.proofs.modules.Exports.{is_exported}
use Rattle.parser_tables.specs.StatementStarts.{AsyncFunctionAhead, NoAsyncFunction}
use Rattle.parser_tables.specs.declared.statements.StatementContext.{StatementContext}
use Rattle.recursive_descent.specs.Spelled.{SpellsIn, OfLanguage}
use Rattle.recursive_descent.specs.Complete.{StatementComplete}
use Rattle.recursive_descent.specs.Completeness.{Agrees, Room, EndsWith, FinishedIn}
use Rattle.recursive_descent.specs.ModuleItems.{begins_declaration, ExportComplete}
use Rattle.recursive_descent.proofs.reading.LanguageTrees.{first_of_language, parts_of_language}
use Rattle.recursive_descent.proofs.complete_expressions.Agreement.{agrees_on, not_missed, read_here}
use Rattle.recursive_descent.proofs.sound_modules.DeclaredExports.{declares_so, exported_so}
use Rattle.recursive_descent.proofs.complete_modules.ImportNodes.{node_agrees}
use Rattle.recursive_descent.proofs.complete_modules.ExportsGiven.{ExportForm, of_names, of_all, of_declared, of_default, export_node}

-- What begins so begins with the word of a declaration

abbrev NoneDeclares : List (List String × StatementStart) → Type 0
NoneDeclares [] = Unit {0}
NoneDeclares (row ∷ rows) = (declares_so row.1 ≡ false) × NoneDeclares rows

rows_none : (w : List ℕ) (rows : List (List String × StatementStart)) → NoneDeclares rows → declares_so (statement_start_among w rows) ≡ false
rows_none w [] h = refl
rows_none w (row ∷ rows) h = of (among w row.0) (rows_none w rows h.1)
  where
    of : (b : Bool) → declares_so (statement_start_among w rows) ≡ false → declares_so (cond b row.1 (statement_start_among w rows)) ≡ false
    of true k = h.0
    of false k = k

abbrev word_of_declaration : List ℕ → Bool
word_of_declaration w = declares w || among w ("function" ∷ "class" ∷ [])

words_told : (w : List ℕ) → declares_so (statement_start_by true false IdentifierName w) ≡ true → word_of_declaration w ≡ true
words_told w h = go (among w ("function" ∷ [])) (among w ("class" ∷ [])) (among w ("let" ∷ "const" ∷ [])) (among w ("var" ∷ [])) refl refl refl refl h
  where
    rest : List (List String × StatementStart)
    rest = ("if" ∷ [], StatementStart.an_if) ∷ ("do" ∷ [], StatementStart.a_do) ∷ ("while" ∷ [], StatementStart.a_while) ∷ ("for" ∷ [], StatementStart.a_for) ∷ ("continue" ∷ [], StatementStart.a_continue) ∷ ("break" ∷ [], StatementStart.a_break) ∷ ("return" ∷ [], an_expression) ∷ ("throw" ∷ [], StatementStart.a_throw)
        ∷ ("switch" ∷ [], StatementStart.a_switch) ∷ ("try" ∷ [], StatementStart.a_try) ∷ ("debugger" ∷ [], StatementStart.a_debugger) ∷ []

    go : (a b c d : Bool) → among w ("function" ∷ []) ≡ a → among w ("class" ∷ []) ≡ b → among w ("let" ∷ "const" ∷ []) ≡ c → among w ("var" ∷ []) ≡ d →
        declares_so (cond a a_function (cond b a_class (cond c a_variable (cond d a_variable (statement_start_among w rest))))) ≡ true → word_of_declaration w ≡ true
    go true b c d e f g k h = among_by (λ v. word_of_declaration v ≡ true) w ("function" ∷ []) e (refl, tt)
    go false true c d e f g k h = among_by (λ v. word_of_declaration v ≡ true) w ("class" ∷ []) f (refl, tt)
    go false false true d e f g k h = among_by (λ v. word_of_declaration v ≡ true) w ("let" ∷ "const" ∷ []) g (refl, (refl, tt))
    go false false false true e f g k h = among_by (λ v. word_of_declaration v ≡ true) w ("var" ∷ []) k (refl, tt)
    go false false false false e f g k h = absurd (false≢true (sym (rows_none w rest (refl, (refl, (refl, (refl, (refl, (refl, (refl, (refl, (refl, (refl, (refl, tt)))))))))))) ∙ h))

starts_told : (c : TokenClass) (w : List ℕ) → declares_so (statement_start_by true false c w) ≡ true → (same_class IdentifierName c && word_of_declaration w) ≡ true
starts_told IdentifierName w h = words_told w h
starts_told Punctuator w h = absurd (false≢true (sym (rows_none w (("{" ∷ [], StatementStart.a_block) ∷ (";" ∷ [], StatementStart.an_empty) ∷ []) (refl, (refl, tt))) ∙ h))
starts_told _ w h = absurd (false≢true h)

word_free : (c : TokenClass) (b : Bool) → (same_class IdentifierName c && b) ≡ true → is_free c ≡ true
word_free IdentifierName b h = refl
word_free _ b h = absurd (false≢true h)

-- no `else` may follow one
declared_ends : (d : Tree) → is_exported (kind_of d) ≡ true → ends_in_if d ≡ false
declared_ends (node VariableDeclaration w g st en ps) h = refl
declared_ends (node FunctionDeclaration w g st en ps) h = refl
declared_ends (node ClassDeclaration w g st en ps) h = refl
declared_ends (node _ w g st en ps) h = absurd (false≢true h)

module _ (text : SourceText) where
  pub declared_sees : {o : ℕ} {n : Tree} {s e : Token} {P : List Pair} → SpellsIn text o (item false) n s e P → is_exported (kind_of n) ≡ true → SeesBy text Div begins_declaration s ⊎ AsyncFunctionAhead text s
  declared_sees {o} {n} {s} {e} {P} d h = let u = item_starts Token (SeenNext text) (behind_in text) (seen_determined text) as_item d in of u.read refl (viewed Token (SeenNext text) (behind_in text) (seen_determined text) as_item u.read d)
    where
      seen : {t m : Token} → ReadBy Token (SeenNext text) (behind_in text) RegExp s t m → declares_so (statement_start true false t) ≡ true → SeesBy text Div begins_declaration s
      seen {t} {m} r so =
          let told = starts_told t.class t.text so in
          let last : behind_in text m ≡ t = (seen_determined text).last s t m r.next in
          (m, (record { next = subst (λ x. SeenNext text s x m) (sym last) r.next; allowed = subst (λ (x : Token). IsTrue (Rattle.tokens.specs.Goals.allows Div x.class x.text)) (sym last) ((seen_determined text).free Div s t m r.next (word_free t.class (word_of_declaration t.text) told)) }, ap begins_declaration last ∙ told))

      of : {t m : Token} {b : StatementStart} → ReadBy Token (SeenNext text) (behind_in text) RegExp s t m → statement_start true false t ≡ b → Viewed Token (SeenNext text) (behind_in text) (seen_determined text) false false o (item false) t m n s e P b → SeesBy text Div begins_declaration s ⊎ AsyncFunctionAhead text s
      of r is (its_own own u) = inl (seen r (ap declares_so (is ∙ sym u.begins) ∙ exported_so u.kind (ap is_exported (sym (ap kind_of u.tree)) ∙ h)))
      of r is (another f (a_label tree pl d)) = absurd (false≢true (sym (ap is_exported (ap kind_of tree)) ∙ h))
      of r is (another f (evaluated tree pl p d)) = absurd (false≢true (sym (ap is_exported (ap kind_of tree)) ∙ h))
      of r is (another f (a_directive q tree pl l d)) = absurd (false≢true (sym (ap is_exported (ap kind_of tree)) ∙ h))
      of r is (another f (a_group q tree pl l d)) = absurd (false≢true (sym (ap is_exported (ap kind_of tree)) ∙ h))
      of r is (later (later_for z tree pl d)) = absurd (false≢true (sym (ap is_exported (ap kind_of tree)) ∙ h))
      of r is (later (later_generator tree pl d)) = inl (seen r (ap declares_so is))
      of {t} {m} r is (later (later_async c w z tree pl d)) =
          let v = later_next Token (SeenNext text) (behind_in text) (seen_determined text) {r = false} {o = o} {a = item false} {t = t} {m = m} {n = n} {s = s} {e = e} {P = P} (later_async c w z tree pl d) in
          inr (record { mid = m; async = read_here text (record { next = r.next; class = c; text = w }); behind = v.1; function = read_here text v.2; same_line = ap (λ (x : Token). x.after_break) ((seen_determined text).last m v.0 v.1 v.2.next) ∙ v.3 })

-- behind `export`, where no brace, no `*` and no `default` stands
module _ (s : CursorState) (from : ℕ) (star : Misses s.text Punctuator (codes "*") s.last) (brace : Misses s.text Punctuator (codes "{") s.last) (by_default : Misses s.text IdentifierName (codes "default") s.last) where
  record Declared (o : ℕ) (n : Tree) (to : Token) (P : List Pair) : Type 0 where
    d : Tree
    spelled : SpellsIn s.text o (item false) d s.last to P
    kind : is_exported (kind_of d) ≡ true
    tree : n ≡ node ExportNamedDeclaration [] plain from to.stop (part d (gap none))

  declared_node : (o : ℕ) (n : Tree) (b to : Token) (P : List Pair) → ReadsHere s.text IdentifierName (codes "export") b s.last → s.last.start ≡ from → SpellsIn s.text o module_item n b to P → Declared o n to P
  declared_node o n b to P word stands d = of (export_node s.text word d)
    where
      of : ExportForm s.text o n s.last to P → Declared o n to P
      of (of_names r l tree p) = absurd (not_missed brace r)
      of (of_all r a tree p) = absurd (not_missed star r)
      of (of_default r e tree) = absurd (not_missed by_default r)
      of (of_declared {d = k} e h tree) = record { d = k; spelled = e; kind = h; tree = tree ∙ ap (λ v. node ExportNamedDeclaration [] plain v to.stop (part k (gap none))) stands }

  pub declaration_missed : (z : CursorState) (old new : List Pair) (high : ℕ) (result : Result Tree Fault) → MissesBy s.text Div begins_declaration s.last → NoAsyncFunction s.text s.last → ExportComplete s z old new high from result
  declaration_missed z old new high result missed no_async o n b to P word stands d fine own = let u = declared_node o n b to P word stands d in absurd (of (declared_sees s.text u.spelled u.kind))
    where
      of : SeesBy s.text Div begins_declaration s.last ⊎ AsyncFunctionAhead s.text s.last → ⊥
      of (inl (k, sees)) = false≢true (sym (missed (behind_in s.text k) k sees.0) ∙ sees.1)
      of (inr a) = no_async a

  module _ (c : StatementContext) (its : c ≡ record { is_item = true; is_prologue = false; returns = false }) (e : CursorState) (old new : List Pair) (high inner : ℕ) (less : inner ≡ high - 1) where
    lower : {o : ℕ} {n : Tree} {to : Token} {P : List Pair} (u : Declared o n to P) → Room s o (height n) high → Room s o (height u.d) inner
    lower {n = n} u room =
        let tall : height n ≡ suc (max (height u.d) 0) = ap height u.tree in
        let low = room.1 in
        (room.0, subst (λ k. height u.d ≤ k) (sym less) (omega arith))

    given : (result : Result Tree Fault) → StatementComplete s e old new inner c result → (o : ℕ) (n : Tree) (to : Token) (P : List Pair) → FinishedIn s.text n to → OfLanguage s.text n → (u : Declared o n to P) → Agrees (Room s o (height u.d) inner) (λ m. (m ≡ u.d) × EndsWith s e old new to P) result
    given result complete o n to P fine own u =
        (subst (λ x. StatementComplete s e old new inner x result) its complete) o u.d to P u.spelled
        (subst (λ b. Followed Token (SeenNext s.text) (behind_in s.text) b to) (ap ends_in_if u.tree ∙ sym (declared_ends u.d u.kind)) fine) (first_of_language (parts_of_language (subst (λ x. OfLanguage s.text x) u.tree own)))

    pub declaration_refused : (z : CursorState) (newer : List Pair) (result : Result Tree Fault) (fault : Fault) → StatementComplete s e old new inner c (Err fault) → IsErrAnd result (λ x. x ≡ fault) → ExportComplete s z old newer high from result
    declaration_refused z newer result fault complete told o n b to P word stands d fine own =
        let u = declared_node o n b to P word stands d in
        agrees_on (Room s o (height u.d) inner) (Room s o (height n) high) _ result fault told (given (Err fault) complete o n to P fine own u) (lower u)

    pub declaration_answered : (k : Tree) (result : Result Tree Fault) → StatementComplete s e old new inner c (Ok k) → Makes (node ExportNamedDeclaration [] plain from e.last.stop (part k (gap none))) high result → ExportComplete s e old new high from result
    declaration_answered k result complete made o n b to P word stands d fine own =
        let u = declared_node o n b to P word stands d in
        let agrees = given (Ok k) complete o n to P fine own u in
        node_agrees s e old new o to P (node ExportNamedDeclaration [] plain from e.last.stop (part k (gap none))) n high result ((λ i. node ExportNamedDeclaration [] plain from ((agrees.1.place i).stop) (part (agrees.0 i) (gap none))) ∙ sym u.tree) agrees.1 made
