-- A given field of a class is answered, path by path (ECMA-262, 13th edition, 15.7).
use Rattle.std.proofs.Common.{◌≡◌, ℕ, ◌-◌, ◌≤◌, Bool, true, false, List, [], ◌++◌, Result, Ok, Err, refl, sym, ap, ◌∙◌, subst, arith}
use Rattle.std.specs.Prelude.{codes}
use Rattle.std.specs.Result.{IsErrAnd}
use Rattle.std.proofs.lemmas.Bool.{false≢true}
use Rattle.std.proofs.lemmas.List.{append-nil}
use Rattle.source_text.specs.declared.fault.Fault.{Fault}
use Rattle.tokens.specs.declared.token.TokenClass.TheVariants.{Punctuator}
use Rattle.token_cursor.specs.CursorState.{CursorState}
use Rattle.token_cursor.specs.Seen.{ReadsHere, Misses}
use Rattle.token_cursor.specs.SourceText.{SourceText, SeenNext, behind_in}
use Rattle.token_cursor.specs.StatementEnds.{EndsAt, IsEnd, key_word as ending_word}
use Rattle.token_cursor.specs.declared.semicolon.FieldKey.{FieldKey}
use Rattle.token_cursor.specs.declared.semicolon.StatementEnd.TheVariants.{AfterKey, AfterValue}
use Rattle.token_cursor.proofs.SeenTokens.{seen_determined}
use Rattle.tree.specs.declared.kind.Kind.TheVariants.{PropertyDefinition}
use Rattle.tree.specs.declared.kind.Form.TheVariants.{Init}
use Rattle.tree.specs.declared.kind.Pair.{Pair}
use Rattle.tree.specs.Tree.{Tree, node, Parts, none, part, gap, height, parts_height}
use Rattle.covers.specs.declared.list.ListItem.{ListItem}
use Rattle.productions.specs.Made.{Makes}
use Rattle.language.specs.declared.Rank.TheVariants.{Assignment}
use Rattle.language.specs.declared.Start.TheVariants.{Any}
use Rattle.language.specs.Claims.{max_open}
use Rattle.language.specs.Covers.{as_expression}
use Rattle.language.specs.Edges.{edge, edge_as_written, key_goes_on}
use Rattle.language.specs.Pieces.{expr, ending, behind_key, behind_value}
use Rattle.language.specs.Token.{Token}
use Rattle.language.specs.Vocabulary.{is}
use Rattle.language.specs.Derivation.{Step, explicit, implicit}
use Rattle.language.proofs.list_loops.FirstPieces.{run_token, run_laid, run_absent, run_never, run_part}
use Rattle.language.proofs.list_loops.PiecesSoFar.{run_end}
use Rattle.language.proofs.table.ForDeclarationWays.{two_signs}
use Rattle.unambiguity_laws.proofs.list_items.MemberEnds.{ends_sign}
use Rattle.unambiguity_laws.proofs.list_items.MemberStops.{value_stops}
use Rattle.parser_tables.specs.Methods.{member_flags}
use Rattle.parser_tables.specs.Outcomes.{BecomesHere}
use Rattle.parser_tables.specs.declared.operand.Operand.{Operand}
use Rattle.parser_tables.specs.declared.expression_context.ExpressionContext.{ExpressionContext}
use Rattle.recursive_descent.specs.declared.properties.PropertyName.{PropertyName}
use Rattle.recursive_descent.specs.Complete.{ExpressionComplete}
use Rattle.recursive_descent.specs.Completeness.{Room, EndsWith, GivenAs, an_expression}
use Rattle.recursive_descent.specs.CompletenessOfLists.{DefinitionEnds}
use Rattle.recursive_descent.specs.Later.{FieldComplete, field_word, field_pieces}
use Rattle.recursive_descent.specs.Soundness.{RunsIn, anywhere}
use Rattle.recursive_descent.specs.Spelled.{SpellsIn, OfLanguage, AllOfLanguage}
use Rattle.recursive_descent.proofs.reading.FreeRanks.{no_conditional, no_new}
use Rattle.recursive_descent.proofs.reading.LanguageTrees.{first_of_language}
use Rattle.recursive_descent.proofs.complete_expressions.Agreement.{agrees_on, agrees_err, refuses_unfit, refuses_made, marks_same, not_missed, read_here, ends_none, ends_behind, ends_before}
use Rattle.recursive_descent.proofs.complete_properties.MemberEndings.{member_ends}
use Rattle.recursive_descent.proofs.complete_properties.NamesGiven.{element_position}
use Rattle.recursive_descent.proofs.sound_properties.FieldKeys.{key_end}
use Rattle.recursive_descent.proofs.sound_properties.Fields.{standing_value}

module _ (text : SourceText) where
  -- what stands behind a field's key: its end, perhaps behind a value
  pub data FieldIs (w : List ℕ) (b : Bool) (o : ℕ) (s e : Token) : Parts → List Pair → Type 0 where
    no_value : Step Token (SeenNext text) (behind_in text) (ending (behind_key w b)) s e → FieldIs w b o s e (gap none) []
    with_value : {v : Tree} {x k : Token} {P : List Pair} → ReadsHere text Punctuator (codes "=") s x → SpellsIn text o (expr Assignment true Any) v x k P → Step Token (SeenNext text) (behind_in text) (ending (behind_value (edge v))) k e → FieldIs w b o s e (part v none) P

  pub field_is : (w : List ℕ) (b : Bool) {o : ℕ} (value : Parts) {s e : Token} {P : List Pair} → RunsIn text o (anywhere (field_pieces w b value)) value s e P → FieldIs w b o s e value P
  field_is w b {o} (gap none) {s} {e} d =
      let u = run_absent Token (SeenNext text) (behind_in text) d in
      let z = run_end Token (SeenNext text) (behind_in text) (seen_determined text) u.runs in
      subst (λ P. FieldIs w b o s e (gap none) P) (sym z.pairs) (no_value z.ends)
  field_is w b {o} (part v none) {s} {e} d =
      let q = run_token Token (SeenNext text) (behind_in text) (run_laid Token (SeenNext text) (behind_in text) d) in
      let p = run_part Token (SeenNext text) (behind_in text) (run_laid Token (SeenNext text) (behind_in text) q.runs) in
      let z = run_end Token (SeenNext text) (behind_in text) (seen_determined text) p.runs in
      let value : v ≡ p.item = first_same p.parts in
      subst (λ P. FieldIs w b o s e (part v none) P) (sym (p.pairs ∙ ap (λ c. p.one ++ c) z.pairs ∙ append-nil p.one))
      (with_value (read_here text q.reads) (subst (λ n. SpellsIn text o (expr Assignment true Any) n q.mid p.mid p.one) (sym value) p.spelled) z.ends)
    where
      first_same : {n m : Tree} {ps qs : Parts} → part n ps ≡ part m qs → n ≡ m
      first_same e = cc
  field_is w b none d = absurd (run_never Token (SeenNext text) (behind_in text) d)
  field_is w b (gap (gap ps)) d = absurd (run_never Token (SeenNext text) (behind_in text) d)
  field_is w b (gap (part n ps)) d = absurd (run_never Token (SeenNext text) (behind_in text) d)
  field_is w b (part n (gap ps)) d = absurd (run_never Token (SeenNext text) (behind_in text) d)
  field_is w b (part n (part m ps)) d = absurd (run_never Token (SeenNext text) (behind_in text) d)

module _ (s e : CursorState) (old new : List Pair) (high : ℕ) (key : PropertyName) (is_static : Bool) (start : ℕ) where
  abbrev Whole : Result ListItem Fault → Type 0
  Whole = FieldComplete s e old new high key is_static start

  abbrev made : Parts → Token → Tree
  made value to = node PropertyDefinition [] (member_flags key.computed is_static Init) start to.stop (part key.node value)

  abbrev Same : Parts → Token → List Pair → ListItem → Type 0
  Same value to P = λ item. (item.node ≡ made value to) × EndsWith s e old new to P

  abbrev Is_ : ℕ → Token → Parts → List Pair → Type 0
  Is_ o to value P = FieldIs s.text (field_word key.token) is_static o s.last to value P

  -- `=` was read
  module _ (x : CursorState) (equals : ReadsHere s.text Punctuator (codes "=") s.last x.last) where
    record Valued (o : ℕ) (to : Token) (value : Parts) (P : List Pair) : Type 0 where
      tree : Tree
      mid : Token
      alone : value ≡ part tree none
      spelled : SpellsIn s.text o (expr Assignment true Any) tree x.last mid P
      end : Step Token (SeenNext s.text) (behind_in s.text) (ending (behind_value (edge tree))) mid to
      own : OfLanguage s.text tree

    valued : {o : ℕ} {to : Token} {value : Parts} {P : List Pair} → Is_ o to value P → DefinitionEnds s.text true to → AllOfLanguage s.text value → Valued o to value P
    valued (no_value (explicit r)) ends own = absurd (false≢true (ap (λ w. is w ";") (two_signs Token (SeenNext s.text) (behind_in s.text) (seen_determined s.text) refl refl equals r).0))
    valued (no_value (implicit nx may)) ends own = ends_sign Token (SeenNext s.text) (behind_in s.text) (seen_determined s.text) refl refl (member_ends s.text ends) equals
    valued {o} {to} (with_value {v} {k = k} {P} r d end) ends own = record { tree = v; mid = k; alone = refl; spelled = subst (λ z. SpellsIn s.text o (expr Assignment true Any) v z k P) (marks_same s.text r equals).1 d; end = end; own = first_of_language own }

    module _ (y : CursorState) (mid next : List Pair) {q : ExpressionContext} (q_is : q ≡ element_position) (there : x.text ≡ s.text) where
      value_given : {o : ℕ} {to : Token} {value : Parts} {P : List Pair} (v : Valued o to value P) → DefinitionEnds s.text true to → GivenAs x.text q o v.tree x.last v.mid P as_expression
      value_given {o} {P = P} v ends = subst (λ z. GivenAs z q o v.tree x.last v.mid P as_expression) (sym there) (subst (λ z. GivenAs s.text z o v.tree x.last v.mid P as_expression) (sym q_is)
          (an_expression (no_conditional refl) (no_new refl) v.spelled (value_stops Token (SeenNext s.text) (behind_in s.text) (seen_determined s.text) v.end (member_ends s.text ends))))

      value_own : {o : ℕ} {to : Token} {value : Parts} {P : List Pair} (v : Valued o to value P) → OfLanguage x.text v.tree
      value_own v = subst (λ z. OfLanguage z v.tree) (sym there) v.own

      pub field_value_refused : {inner : ℕ} (answer : Result ListItem Fault) (fault : Fault) → IsErrAnd answer (λ z. z ≡ fault) → inner ≡ high - 1 → x.opened ≡ s.opened → ExpressionComplete x y mid next inner q (Err fault) → Whole answer
      field_value_refused {inner} answer fault err inner_is opened complete = λ value o to P runs ends own.
          let v = valued (field_is s.text (field_word key.token) is_static value runs) ends own in
          let tall : parts_height value ≡ parts_height (part v.tree none) = ap parts_height v.alone in
          agrees_on (Room x o (height v.tree) inner) (Room s o (height (made value to)) high) (Same value to P) answer fault err (complete as_expression o v.tree v.mid P (value_given v ends) (value_own v))
          (λ room. (subst (λ z. o ≤ max_open - z) (sym opened) room.0, (let within : height (made value to) ≤ high = room.1 in omega arith)))

      module _ (inner : ℕ) (r : Operand) (read : ExpressionComplete x y mid next inner q (Ok r)) where
        pub field_unsettled : (p : CursorState) (answer : Result ListItem Fault) (fault : Fault) → IsErrAnd answer (λ z. z ≡ fault) → BecomesHere r.cover.node r.cover.shape.is_expression p (Err fault) → Whole answer
        field_unsettled p answer fault err becomes = λ value o to P runs ends own.
            let v = valued (field_is s.text (field_word key.token) is_static value runs) ends own in
            agrees_err (Room s o (height (made value to)) high) (Same value to P) answer fault err
            (refuses_unfit (Room s o (height (made value to)) high) r.cover.node r.cover.shape.is_expression p fault becomes (read as_expression o v.tree v.mid P (value_given v ends) (value_own v)).0.fits)

        module _ (edged : r.edge ≡ edge_as_written (edge r.cover.node) y.last) (text_y : y.text ≡ s.text) where
          ended : {o : ℕ} {to : Token} {value : Parts} {P : List Pair} (v : Valued o to value P) → DefinitionEnds s.text true to → EndsAt y.text (AfterValue r.edge) y.last to
          ended {o} {to} {P = P} v ends =
              let w = read as_expression o v.tree v.mid P (value_given v ends) (value_own v) in
              subst (λ z. EndsAt z (AfterValue r.edge) y.last to) (sym text_y) (standing_value s.text edged (subst (λ n. Step Token (SeenNext s.text) (behind_in s.text) (ending (behind_value (edge n))) y.last to) (sym w.0.tree)
              (subst (λ z. Step Token (SeenNext s.text) (behind_in s.text) (ending (behind_value (edge v.tree))) z to) (sym w.1.place) v.end)))

          pub field_value_unended : (answer : Result ListItem Fault) (fault : Fault) → IsErrAnd answer (λ z. z ≡ fault) → ((t : Token) → EndsAt y.text (AfterValue r.edge) y.last t → ⊥) → Whole answer
          field_value_unended answer fault err quiet = λ value o to P runs ends own. absurd (quiet to (ended (valued (field_is s.text (field_word key.token) is_static value runs) ends own) ends))

          pub field_value_made : (tree : Tree) {st en : ℕ} (answer : Result ListItem Fault) (fault : Fault) → IsErrAnd answer (λ z. z ≡ fault) → tree ≡ node PropertyDefinition [] (member_flags key.computed is_static Init) st en (part key.node (part r.cover.node none)) → Makes tree high (Err fault) → Whole answer
          field_value_made tree {st} {en} answer fault err tree_is makes = λ value o to P runs ends own.
              let v = valued (field_is s.text (field_word key.token) is_static value runs) ends own in
              let w = read as_expression o v.tree v.mid P (value_given v ends) (value_own v) in
              let tall : height tree ≡ height (node PropertyDefinition [] (member_flags key.computed is_static Init) st en (part key.node (part r.cover.node none))) = ap height tree_is in
              let same : parts_height value ≡ parts_height (part r.cover.node none) = ap parts_height (v.alone ∙ ap (λ n. part n none) (sym w.0.tree)) in
              agrees_err (Room s o (height (made value to)) high) (Same value to P) answer fault err (refuses_made (Room s o (height (made value to)) high) tree high fault makes (λ room. (let within : height (made value to) ≤ high = room.1 in omega arith)))

          pub field_value_answered : (item : ListItem) → mid ≡ old → new ≡ next → IsEnd y.text (AfterValue r.edge) y.last e.last → item.node ≡ node PropertyDefinition [] (member_flags key.computed is_static Init) start e.last.stop (part key.node (part r.cover.node none)) → Whole (Ok item)
          field_value_answered item same1 same2 is_end node_is = λ value o to P runs ends own.
              let v = valued (field_is s.text (field_word key.token) is_static value runs) ends own in
              let w = read as_expression o v.tree v.mid P (value_given v ends) (value_own v) in
              let place : e.last ≡ to = sym (is_end.only to (ended v ends)) in
              (node_is ∙ (λ i. made ((ap (λ n. part n none) w.0.tree ∙ sym v.alone) i) (place i)), ends_before (ends_behind same1 w.1) place same2)

  -- no `=` was read
  module _ (x : CursorState) (text_x : x.text ≡ s.text) (stays : x.last ≡ s.last) (missed : Misses s.text Punctuator (codes "=") s.last) (f : FieldKey) (told : (t : Token) → key_goes_on (ending_word f) false t ≡ key_goes_on (field_word key.token) is_static t) where
    record Alone (to : Token) (value : Parts) (P : List Pair) : Type 0 where
      alone : value ≡ gap none
      end : EndsAt x.text (AfterKey f) x.last to
      pairs : P ≡ []

    alone : {o : ℕ} {to : Token} {value : Parts} {P : List Pair} → Is_ o to value P → Alone to value P
    alone {to = to} (no_value end) = record { alone = refl; end = subst (λ z. EndsAt z (AfterKey f) x.last to) (sym text_x) (subst (λ z. EndsAt s.text (AfterKey f) z to) (sym stays) (key_end s.text (λ t. sym (told t)) end)); pairs = refl }
    alone (with_value r d end) = absurd (not_missed missed r)

    pub field_unended : (answer : Result ListItem Fault) (fault : Fault) → IsErrAnd answer (λ z. z ≡ fault) → ((t : Token) → EndsAt x.text (AfterKey f) x.last t → ⊥) → Whole answer
    field_unended answer fault err quiet = λ value o to P runs ends own. absurd (quiet to (alone (field_is s.text (field_word key.token) is_static value runs)).end)

    pub field_made : (tree : Tree) {st en : ℕ} (answer : Result ListItem Fault) (fault : Fault) → IsErrAnd answer (λ z. z ≡ fault) → tree ≡ node PropertyDefinition [] (member_flags key.computed is_static Init) st en (part key.node (gap none)) → Makes tree high (Err fault) → Whole answer
    field_made tree {st} {en} answer fault err tree_is makes = λ value o to P runs ends own.
        let v = alone (field_is s.text (field_word key.token) is_static value runs) in
        let tall : height tree ≡ height (node PropertyDefinition [] (member_flags key.computed is_static Init) st en (part key.node (gap none))) = ap height tree_is in
        let same : parts_height value ≡ parts_height (gap none) = ap parts_height v.alone in
        agrees_err (Room s o (height (made value to)) high) (Same value to P) answer fault err (refuses_made (Room s o (height (made value to)) high) tree high fault makes (λ room. (let within : height (made value to) ≤ high = room.1 in omega arith)))

    pub field_answered : (item : ListItem) → new ≡ old → IsEnd x.text (AfterKey f) x.last e.last → item.node ≡ node PropertyDefinition [] (member_flags key.computed is_static Init) start e.last.stop (part key.node (gap none)) → Whole (Ok item)
    field_answered item same is_end node_is = λ value o to P runs ends own.
        let v = alone (field_is s.text (field_word key.token) is_static value runs) in
        let place : e.last ≡ to = sym (is_end.only to v.end) in
        (node_is ∙ (λ i. made (sym v.alone i) (place i)), subst (λ Q. EndsWith s e old new to Q) (sym v.pairs) (ends_none place same))
