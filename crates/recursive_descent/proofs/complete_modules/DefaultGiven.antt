-- A given export by default: a function or a class whose name may be missing, or a value (ECMA-262, 13th edition, 16.2.3).
use Rattle.std.proofs.Common.{◌≡◌, ◌⊎◌, inl, inr, ℕ, suc, max, ◌-◌, ◌≤◌, arith, Bool, true, false, cond, List, [], ◌∷◌, Result, Ok, Err, refl, sym, ap, ◌∙◌, subst}
use Rattle.std.specs.Prelude.{codes, ◌&&◌, ◌||◌}
use Rattle.std.specs.Result.{IsErrAnd}
use Rattle.std.proofs.lemmas.Bool.{false≢true}
use Rattle.source_text.specs.declared.fault.Fault.{Fault}
use Rattle.tokens.specs.declared.token.TokenClass.TheVariants.{IdentifierName}
use Rattle.tokens.specs.declared.token.Goal.TheVariants.{Div}
use Rattle.token_cursor.specs.CursorState.{CursorState}
use Rattle.token_cursor.specs.StatementEnds.{EndsAt, IsEnd}
use Rattle.token_cursor.specs.declared.semicolon.StatementEnd.TheVariants.{AfterExpression}
use Rattle.tree.specs.declared.kind.Kind.TheVariants.{ExportDefaultDeclaration}
use Rattle.tree.specs.declared.kind.Pair.{Pair}
use Rattle.tree.specs.Tree.{Tree, node, plain, Parts, none, part, height}
use Rattle.productions.specs.Made.{Makes}
use Rattle.language.specs.declared.Rank.TheVariants.{Assignment}
use Rattle.language.specs.declared.Start.TheVariants.{Any, Statement}
use Rattle.language.specs.FirstPart.{begins_with_brace}
use Rattle.language.specs.Vocabulary.{is, among}
use Rattle.language.specs.Covers.{as_expression}
use Rattle.language.specs.Edges.{edge, edge_as_written}
use Rattle.language.specs.Pieces.{expr, module_item, ending, behind}
use Rattle.language.specs.Token.{Token, same_class}
use Rattle.language.specs.Derivation.{Step, Reads}
use Rattle.language.specs.Promises.{is_free}
use Rattle.language.proofs.climbing.OtherStarts.{start_moves, anything}
use Rattle.language.proofs.covers.CoverReadings.{name_or_sign}
use Rattle.language.proofs.statements.StatementFollow.{end_stops}
use Rattle.token_cursor.specs.SourceText.{SourceText, SeenNext, behind_in}
use Rattle.token_cursor.specs.Seen.{ReadsHere, SeesBy, MissesBy, declares}
use Rattle.token_cursor.proofs.SeenTokens.{seen_determined}
use Rattle.token_cursor.proofs.TokensAhead.{name_by}
use Rattle.unambiguity_laws.proofs.modules.Exports.{Default, an_item, a_value, DefaultItem, a_function, a_class}
use Rattle.unambiguity_laws.proofs.statements.FunctionForms.{AsyncWord, with_async, without_async}
use Rattle.parser_tables.specs.StatementStarts.{AsyncFunctionAhead, NoAsyncFunction}
use Rattle.parser_tables.specs.declared.expression_context.ExpressionContext.{ExpressionContext}
use Rattle.parser_tables.specs.declared.operand.Operand.{Operand}
use Rattle.recursive_descent.specs.Spelled.{SpellsIn, OfLanguage}
use Rattle.recursive_descent.specs.Soundness.{Adds, ReadAt}
use Rattle.recursive_descent.specs.Complete.{ExpressionComplete}
use Rattle.recursive_descent.specs.Completeness.{Room, EndsWith, FinishedIn, GivenAs, an_expression, IsRead}
use Rattle.recursive_descent.specs.ModuleItems.{begins_declaration, begins_default, DefaultComplete}
use Rattle.recursive_descent.proofs.reading.LanguageTrees.{first_of_language, parts_of_language}
use Rattle.recursive_descent.proofs.complete_expressions.Agreement.{agrees_on, read_here, words_same}
use Rattle.recursive_descent.proofs.complete_statements.KeywordStatementsGiven.{end_here}
use Rattle.recursive_descent.proofs.complete_subscripts.SubscriptsGiven.{alike}
use Rattle.recursive_descent.proofs.complete_modules.DeclaredGiven.{declared_sees}
use Rattle.recursive_descent.proofs.complete_modules.ImportNodes.{node_agrees}
use Rattle.recursive_descent.proofs.complete_modules.ExportsGiven.{ExportForm, of_names, of_all, of_declared, of_default, export_node}

abbrev pub at_value : ExpressionContext
at_value = record { rank = Assignment; has_in = true; start = Any }

module _ (text : SourceText) where
  -- behind `default`
  pub data DefaultForm (o : ℕ) (n : Tree) (from : ℕ) (s to : Token) (P : List Pair) : Type 0 where
    item_given : {d : Tree} → DefaultItem Token (SeenNext text) (behind_in text) (seen_determined text) o d s to P → n ≡ node ExportDefaultDeclaration [] plain from to.stop (part d none) → DefaultForm o n from s to P
    value_given : {d : Tree} {k : Token} → SpellsIn text o (expr Assignment true (cond (begins_with_brace d) Any Statement)) d s k P → Step Token (SeenNext text) (behind_in text) (ending (behind (edge d))) k to → n ≡ node ExportDefaultDeclaration [] plain from to.stop (part d none) → DefaultForm o n from s to P

  -- `default` begins no declaration
  default_declares_none : {s x : Token} → ReadsHere text IdentifierName (codes "default") s x → MissesBy text Div begins_declaration s
  default_declares_none {s} {x} r t m read =
      let u = behind_in text x in
      let same = (seen_determined text).same Div s t u m x read.next r.next read.allowed ((seen_determined text).free Div s u x r.next (ap is_free r.class)) in
      ap begins_declaration same.0 ∙ ap (λ c. same_class IdentifierName c && (declares u.text || among u.text ("function" ∷ "class" ∷ []))) r.class ∙ ap (λ w. declares w || among w ("function" ∷ "class" ∷ [])) r.text

  pub default_form : {o from : ℕ} {n : Tree} {b k s to : Token} {P : List Pair} → ReadsHere text IdentifierName (codes "export") b k → k.start ≡ from → ReadsHere text IdentifierName (codes "default") k s → SpellsIn text o module_item n b to P → DefaultForm o n from s to P
  default_form {o} {from} {n} {b} {k} {s} {to} {P} word stands default_word d = of (export_node text word d)
    where
      none_declared : SeesBy text Div begins_declaration k ⊎ AsyncFunctionAhead text k → ⊥
      none_declared (inl (m, sees)) = false≢true (sym (default_declares_none default_word (behind_in text m) m sees.0) ∙ sees.1)
      none_declared (inr a) = false≢true (ap (λ w. is w "default") (sym a.async.text ∙ ap (λ (x : Token). x.text) (words_same text a.async default_word).0 ∙ default_word.text))

      by : {ps : Parts} → Default Token (SeenNext text) (behind_in text) (seen_determined text) o s to ps P → n ≡ node ExportDefaultDeclaration [] plain from to.stop ps → DefaultForm o n from s to P
      by (an_item u p) tree = item_given u (tree ∙ ap (node ExportDefaultDeclaration [] plain from to.stop) p)
      by (a_value v e p) tree = value_given v e (tree ∙ ap (node ExportDefaultDeclaration [] plain from to.stop) p)

      of : ExportForm text o n k to P → DefaultForm o n from s to P
      of (of_names r l tree p) = absurd (name_or_sign Token (SeenNext text) (behind_in text) (seen_determined text) refl default_word r)
      of (of_all r a tree p) = absurd (name_or_sign Token (SeenNext text) (behind_in text) (seen_determined text) refl default_word r)
      of (of_declared {d = v} e h tree) = absurd (none_declared (declared_sees text e h))
      of (of_default {ps = ps} {x = x} r e tree) = by (subst (λ v. Default Token (SeenNext text) (behind_in text) (seen_determined text) o v to ps P) (words_same text r default_word).1 e) (tree ∙ ap (λ v. node ExportDefaultDeclaration [] plain v to.stop ps) stands)

  -- where neither `function` nor `class` stands, nor an async function
  word_missed : {s t m : Token} {w : List ℕ} → MissesBy text Div begins_default s → Reads Token (SeenNext text) (behind_in text) IdentifierName w s t m → among w ("function" ∷ "class" ∷ []) ≡ true → ⊥
  word_missed {s} {t} {m} missed r h = false≢true (sym (missed t m (name_by text r)) ∙ ap (λ c. same_class IdentifierName c && among t.text ("function" ∷ "class" ∷ [])) r.class ∙ ap (λ v. among v ("function" ∷ "class" ∷ [])) r.text ∙ h)

  no_item : {o : ℕ} {d : Tree} {s to : Token} {P : List Pair} → MissesBy text Div begins_default s × NoAsyncFunction text s → DefaultItem Token (SeenNext text) (behind_in text) (seen_determined text) o d s to P → ⊥
  no_item other (a_class tree pl r d) = word_missed other.0 r refl
  no_item {s = s} other (a_function tree pl w) = of w.word w.reads
    where
      of : {x : Bool} {p m : Token} {t : Token} → AsyncWord Token (SeenNext text) (behind_in text) (seen_determined text) x s p → Reads Token (SeenNext text) (behind_in text) IdentifierName (codes "function") p t m → ⊥
      of without_async r = word_missed other.0 r refl
      of {p = p} {m} {t} (with_async {v = v} {k = k} a nx line) r =
          other.1 (record { mid = p; async = read_here text a; behind = m; function = read_here text r; same_line = ap (λ (x : Token). x.after_break) ((seen_determined text).last p t m r.next) ∙ (seen_determined text).break p t v m k r.next nx ∙ line })

  pub record ValueGiven (o : ℕ) (n : Tree) (from : ℕ) (s to : Token) (P : List Pair) : Type 0 where
    pub d : Tree
    pub k : Token
    pub given : GivenAs text at_value o d s k P as_expression
    pub ends : Step Token (SeenNext text) (behind_in text) (ending (behind (edge d))) k to
    pub tree : n ≡ node ExportDefaultDeclaration [] plain from to.stop (part d none)

  pub value_form : {o from : ℕ} {n : Tree} {s to : Token} {P : List Pair} → MissesBy text Div begins_default s × NoAsyncFunction text s → FinishedIn text n to → DefaultForm o n from s to P → ValueGiven o n from s to P
  value_form other fine (item_given u tree) = absurd (no_item other u)
  value_form other fine (value_given {d = d} {k = k} v e tree) = record {
    d = d;
    k = k;
    given = an_expression (λ q. cc) (λ q. cc) (start_moves Token (SeenNext text) (behind_in text) (seen_determined text) anything refl v) (end_stops Token (SeenNext text) (behind_in text) (seen_determined text) (alike text) Assignment true d e fine);
    ends = e;
    tree = tree;
  }

module _ (s m : CursorState) (old mid : List Pair) (inner high from : ℕ) (less : inner ≡ high - 1) (other : MissesBy s.text Div begins_default s.last × NoAsyncFunction s.text s.last) where
  given_own : {o : ℕ} {n : Tree} {to : Token} {P : List Pair} (u : ValueGiven s.text o n from s.last to P) → OfLanguage s.text n → OfLanguage s.text u.d
  given_own u own = first_of_language (parts_of_language (subst (λ x. OfLanguage s.text x) u.tree own))

  pub value_refused : (e : CursorState) (new : List Pair) (result : Result Tree Fault) (fault : Fault) → IsErrAnd result (λ x. x ≡ fault) → ExpressionComplete s m old mid inner at_value (Err fault) → DefaultComplete s e old new high from result
  value_refused e new result fault told complete o n b k to P word stands default_word d fine own =
      let u = value_form s.text other fine (default_form s.text word stands default_word d) in
      let tall : height n ≡ suc (max (height u.d) 0) = ap height u.tree in
      agrees_on (Room s o (height u.d) inner) (Room s o (height n) high) (λ x. (x ≡ n) × EndsWith s e old new to P) result fault told (complete as_expression o u.d u.k P u.given (given_own u own))
      (λ room. let low = room.1 in (room.0, subst (λ k. height u.d ≤ k) (sym less) (omega arith)))

  module _ (p : Operand) (same : m.text ≡ s.text) (complete : ExpressionComplete s m old mid inner at_value (Ok p)) (read : Adds s m old mid (ReadAt s.text at_value p)) where
    agrees : {o : ℕ} {n : Tree} {to : Token} {P : List Pair} (u : ValueGiven s.text o n from s.last to P) → OfLanguage s.text n → IsRead as_expression p u.d × EndsWith s m old mid u.k P
    agrees {o} {P = P} u own = complete as_expression o u.d u.k P u.given (given_own u own)

    behind_it : {o : ℕ} {n : Tree} {to : Token} {P : List Pair} (u : ValueGiven s.text o n from s.last to P) → OfLanguage s.text n → EndsAt m.text (AfterExpression p.edge) m.last to
    behind_it {to = to} u own =
        let a = agrees u own in
        subst (λ x. EndsAt x (AfterExpression p.edge) m.last to) (sym same) (subst (λ y. EndsAt s.text (AfterExpression y) m.last to) (sym read.is.part.edge)
        (subst (λ k. EndsAt s.text (AfterExpression (edge_as_written (edge k) m.last)) m.last to) (sym a.0.tree) (subst (λ k. EndsAt s.text (AfterExpression (edge_as_written (edge u.d) k)) k to) (sym a.1.place) (end_here s.text u.ends))))

    -- it is no expression
    pub value_unfit : (e : CursorState) (new : List Pair) (result : Result Tree Fault) → p.cover.shape.is_expression ≡ false → DefaultComplete s e old new high from result
    value_unfit e new result unfit o n b k to P word stands default_word d fine own =
        let u = value_form s.text other fine (default_form s.text word stands default_word d) in
        absurd (false≢true (sym unfit ∙ (agrees u own).0.fits))

    -- its end is missing
    pub value_unended : (e : CursorState) (new : List Pair) (result : Result Tree Fault) → ((k : Token) → EndsAt m.text (AfterExpression p.edge) m.last k → ⊥) → DefaultComplete s e old new high from result
    value_unended e new result missed o n b k to P word stands default_word d fine own =
        let u = value_form s.text other fine (default_form s.text word stands default_word d) in
        absurd (missed to (behind_it u own))

    pub value_answered : (e : CursorState) (new : List Pair) (v : Tree) (result : Result Tree Fault) → v ≡ p.cover.node → IsEnd m.text (AfterExpression p.edge) m.last e.last → new ≡ mid → Makes (node ExportDefaultDeclaration [] plain from e.last.stop (part v none)) high result → DefaultComplete s e old new high from result
    value_answered e new v result made_of end kept made o n b k to P word stands default_word d fine own =
        let u = value_form s.text other fine (default_form s.text word stands default_word d) in
        let a = agrees u own in
        let at : e.last ≡ to = sym (end.only to (behind_it u own)) in
        let tree : v ≡ u.d = made_of ∙ a.0.tree in
        node_agrees s e old new o to P (node ExportDefaultDeclaration [] plain from e.last.stop (part v none)) n high result ((λ i. node ExportDefaultDeclaration [] plain from ((at i).stop) (part (tree i) none)) ∙ sym u.tree)
        (record { place = at; more = a.1.more; added = kept ∙ a.1.added; pairs = a.1.pairs }) made
