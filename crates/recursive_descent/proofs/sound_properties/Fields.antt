-- Fields of classes, from behind their keys and with them (ECMA-262, 13th edition, 15.7).
use Rattle.std.proofs.Common.{◌≡◌, ℕ, Bool, true, false, cond, List, [], ◌∷◌, ◌++◌, refl, sym, ap, ◌∙◌, subst}
use Rattle.std.specs.Prelude.{IsTrue, nat_le, Option, Some, None, codes, not, ◌&&◌, ◌||◌, is_some, IfSome}
use Rattle.std.proofs.lemmas.Bool.{false≢true}
use Rattle.std.proofs.lemmas.List.{append-nil}
use Rattle.tokens.specs.Scanned.{token_of}
use Rattle.tokens.specs.Tokens.{LexicalToken}
use Rattle.tokens.specs.Reading.{Reads as Scans}
use Rattle.tokens.specs.declared.token.Token.{Token as Scanned}
use Rattle.tokens.specs.declared.token.TokenClass.TheVariants.{Punctuator}
use Rattle.tokens.specs.declared.token.Goal.TheVariants.{Div}
use Rattle.token_cursor.specs.CursorState.{CursorState}
use Rattle.token_cursor.specs.StatementEnds.{EndsAt, IsEnd, key_word as ending_word}
use Rattle.token_cursor.specs.declared.semicolon.FieldKey.{FieldKey}
use Rattle.token_cursor.specs.declared.semicolon.StatementEnd.TheVariants.{AfterKey, AfterValue}
use Rattle.tree.specs.declared.kind.Kind.TheVariants.{PropertyDefinition}
use Rattle.tree.specs.declared.kind.Form.TheVariants.{Init, Method}
use Rattle.tree.specs.declared.kind.Pair.{Pair}
use Rattle.tree.specs.Tree.{Tree, node, Parts, none, part, gap, kind_of, bare, bare_parts}
use Rattle.tree.specs.Uses.{is_lean}
use Rattle.covers.specs.declared.list.ListItem.{ListItem}
use Rattle.covers.specs.declared.list.ListKind.TheVariants as listed
use Rattle.covers.specs.Shapes as shapes
use Rattle.language.specs.declared.Edge.{Edge}
use Rattle.language.specs.declared.Edge.TheVariants.{Closed}
use Rattle.language.specs.declared.Rank.TheVariants.{Expression, Assignment, Primary}
use Rattle.language.specs.declared.Start.TheVariants.{Any}
use Rattle.language.specs.Covers.{Reading, as_expression, as_pattern}
use Rattle.language.specs.Edges.{edge, edge_as_written, is_end, is_sign, is_semicolon, value_goes_on, key_goes_on}
use Rattle.language.specs.Expressions.{assignment}
use Rattle.language.specs.Pieces.{Piece, Spelling, expr, member, key, private_name, at as at_symbol, absent, sign, sp, ending, behind_key, behind_value}
use Rattle.language.specs.Statements.{class_keyed, fields, static_word, key_word}
use Rattle.language.specs.Token.{Token, as_read}
use Rattle.language.specs.Vocabulary.{is, is_rest, is_private}
use Rattle.language.specs.Grammar.{spellings}
use Rattle.language.specs.Derivation.{Among, first, placed, direct, Step, explicit, implicit, done, step, missing, token, laid, within}
use Rattle.language.proofs.list_loops.FirstPieces.{run_never}
use Rattle.language.proofs.lower_bound.Domination.{settled}
use Rattle.language.proofs.table.BareEdges.{edge_bare}
use Rattle.language.proofs.table.Productions.{way_from, runs_can}
use Rattle.token_cursor.proofs.SeenTokens.{seen_determined}
use Rattle.parser_tables.specs.Methods.{member_flags}
use Rattle.parser_tables.specs.declared.operand.Operand.{Operand}
use Rattle.recursive_descent.specs.declared.properties.PropertyName.{PropertyName}
use Rattle.recursive_descent.specs.declared.properties.Modifiers.{Modifiers}
use Rattle.recursive_descent.specs.Later.{FieldAt, field_word, field_pieces}
use Rattle.recursive_descent.specs.Soundness.{RunsIn, anywhere, Adds, Begins, ReadAt, SpelledAs, read_as}
use Rattle.recursive_descent.specs.SoundnessOfLists.{KeyAt, NamedSo, ItemReads, defined, has_reading, item_role, modifier_pieces, key_role}
use Rattle.recursive_descent.specs.Spelled.{SpellsIn}
use Rattle.recursive_descent.proofs.reading.AddedPairs.{adds_behind, adds_both, adds_none}
use Rattle.recursive_descent.proofs.reading.SeenClasses.{edge_seen}
use Rattle.recursive_descent.proofs.sound_properties.Definitions.{named_begins}
use Rattle.recursive_descent.proofs.sound_properties.FieldKeys.{key_by_token, private_by_token, key_end, field_moved}
use Rattle.recursive_descent.proofs.sound_properties.MethodItems.{key_run}
use Rattle.recursive_descent.proofs.sound_properties.MethodWays.{key_part}
use Rattle.recursive_descent.proofs.sound_properties.PropertyValues.{at_assignment}
use Rattle.recursive_descent.proofs.sound_statements.StatementWays.{standing_twice}
use Rattle.recursive_descent.proofs.sound_subscripts.SubscriptReads.{spelled_at}
use Rattle.token_cursor.specs.Seen.{ReadsHere}
use Rattle.token_cursor.specs.SourceText.{SourceText, SeenNext, behind_in, unseen}

-- the item that a field is
abbrev pub field_item : Tree → ListItem
field_item n = record { node = n; shape = shapes.value; spreads = false; is_flagged = false; edge = Closed }

-- a value's right edge, as it stands or as the tree has it
module _ (text : SourceText) where
  value_edge : {x y : Edge} {s e : Token} → edge_as_written x (behind_in text s) ≡ edge_as_written y (behind_in text s) → Step Token (SeenNext text) (behind_in text) (ending (behind_value x)) s e → Step Token (SeenNext text) (behind_in text) (ending (behind_value y)) s e
  value_edge same (explicit r) = explicit r
  value_edge same (implicit {t = t} nx may) = implicit nx (subst (λ v. IsTrue (not (is_semicolon t) && ((is_end t || (is_sign t && is t.text "}")) || (t.after_break && not (value_goes_on v t))))) same may)

  same_edge : (x : Edge) (s : Token) → edge_as_written (edge_as_written x s) (behind_in text s) ≡ edge_as_written x (behind_in text s)
  same_edge x s = edge_seen text (edge_as_written x s) s ∙ standing_twice x s ∙ sym (edge_seen text x s)

  pub value_standing : {x y : Edge} {s e : Token} → y ≡ edge_as_written x s → EndsAt text (AfterValue y) s e → Step Token (SeenNext text) (behind_in text) (ending (behind_value x)) s e
  value_standing {x} {s = s} same d = value_edge (ap (λ v. edge_as_written v (behind_in text s)) same ∙ same_edge x s) d

  pub standing_value : {x y : Edge} {s e : Token} → y ≡ edge_as_written x s → Step Token (SeenNext text) (behind_in text) (ending (behind_value x)) s e → EndsAt text (AfterValue y) s e
  standing_value {x} {s = s} same d = value_edge (sym (ap (λ v. edge_as_written v (behind_in text s)) same ∙ same_edge x s)) d

module _ {s e : CursorState} {old new : List Pair} (k : PropertyName) (is_static : Bool) (start : ℕ) (item : ListItem) where
  -- a field without a value
  pub field_alone : {x : CursorState} {mid : List Pair} (f : FieldKey) → x.text ≡ s.text → x.opened ≡ s.opened → mid ≡ old → x.last ≡ s.last → ((t : Token) → key_goes_on (ending_word f) false t ≡ key_goes_on (field_word k.token) is_static t) → e.opened ≡ x.opened → new ≡ mid → IsEnd x.text (AfterKey f) x.last e.last →
      item ≡ field_item (node PropertyDefinition [] (member_flags k.computed is_static Init) start e.last.stop (part k.node (gap none))) → Adds s e old new (FieldAt s.text k is_static start item)
  field_alone {x} f text0 open0 same0 stays told open1 same1 ends is = adds_none (open1 ∙ open0) (same1 ∙ same0) (λ o.
      record {
        value = gap none;
        tree = ap (λ (i : ListItem). i.node) is;
        plain = is ∙ ap field_item (sym (ap (λ (i : ListItem). i.node) is));
        runs = missing (step (key_end s.text told (subst (λ v. EndsAt v (AfterKey f) s.last e.last) text0 (subst (λ v. EndsAt x.text (AfterKey f) v e.last) stays ends.ends))) done);
      })

  -- with a value
  pub field_valued : {x y : CursorState} {mid next : List Pair} {r : Operand} (n : Tree) → x.text ≡ s.text → x.opened ≡ s.opened → mid ≡ old → ReadsHere s.text Punctuator (codes "=") s.last x.last → y.text ≡ x.text → Adds x y mid next (ReadAt x.text at_assignment r) → n ≡ r.cover.node → r.cover.shape.is_expression ≡ true →
      e.opened ≡ y.opened → new ≡ next → IsEnd y.text (AfterValue r.edge) y.last e.last → item ≡ field_item (node PropertyDefinition [] (member_flags k.computed is_static Init) start e.last.stop (part k.node (part n none))) → Adds s e old new (FieldAt s.text k is_static start item)
  field_valued {x} {y} {r = r} n text0 open0 same0 sign_read text1 read node_is value open1 same1 ends is =
      Rattle.recursive_descent.proofs.sound_subscripts.SubscriptReads.adds_then (adds_behind {s = s} {m = x} {e = y} {B = λ o a c Q. (SpellsIn s.text o (expr Assignment true Any) n x.last y.last Q) × (r.edge ≡ edge_as_written (edge n) y.last)} open0 same0 read (λ o Q d. (
        subst (λ v. SpellsIn s.text o (expr Assignment true Any) v x.last y.last Q) (sym node_is) (subst (λ v. SpellsIn v o (expr Assignment true Any) r.cover.node x.last y.last Q) text0 (spelled_at refl value d)),
        d.part.edge ∙ ap (λ v. edge_as_written (edge v) y.last) (sym node_is),
      ))) open1 same1 (λ o Q d.
      record {
        value = part n none;
        tree = ap (λ (i : ListItem). i.node) is;
        plain = is ∙ ap field_item (sym (ap (λ (i : ListItem). i.node) is));
        runs = subst (λ z. RunsIn s.text o (anywhere (field_pieces (field_word k.token) is_static (part n none))) (part n none) s.last e.last z) (append-nil Q)
            (step laid (step (token sign_read) (step laid (within d.0 (step (value_standing s.text d.1 (subst (λ v. EndsAt v (AfterValue r.edge) y.last e.last) (text1 ∙ text0) ends.ends)) done)))));
      })

-- the word that a key is
told_key : (text : SourceText) {in_class : Bool} {k : PropertyName} {o : ℕ} {s e : Token} {P : List Pair} → KeyAt text in_class k o s e P → (b : Bool) (u : Token) → key_goes_on (field_word k.token) b u ≡ key_goes_on (key_word k.computed k.node) b u
told_key text {k = k} {o} {s} {e} {P} d b u = of k.computed refl k.token refl d.token
  where
    plain : (c : Bool) → is_private (kind_of k.node) ≡ c → SpellsIn text o (key_role (kind_of k.node)) k.node s e P → (t : Scanned) → behind_in text e ≡ as_read (token_of t) → key_goes_on (key_word false k.node) b u ≡ key_goes_on (field_word (Some t)) b u
    plain true h p t shown = private_by_token text (subst (λ c. SpellsIn text o (cond c private_name key) k.node s e P) h p) t shown b u
    plain false h p t shown = key_by_token text (subst (λ c. SpellsIn text o (cond c private_name key) k.node s e P) h p) t shown b u

    of : (c : Bool) → k.computed ≡ c → (got : Option Scanned) → k.token ≡ got → IfSome got (λ t. (k.computed ≡ false) × SeenNext text s (as_read (token_of t)) e × (e ≡ unseen (as_read (token_of t))) × (P ≡ []) × (k.node ≡ Rattle.parser_tables.specs.Tokens.key_node (token_of t))) → key_goes_on (field_word k.token) b u ≡ key_goes_on (key_word k.computed k.node) b u
    of true h got is known = ap (λ x. key_goes_on (field_word x) b u) (d.computed h).0 ∙ ap (λ c. key_goes_on (key_word c k.node) b u) (sym h)
    of false h None is known = absurd (false≢true (sym (ap is_some is) ∙ d.told h))
    of false h (Some t) is known =
        let shown : behind_in text e ≡ as_read (token_of t) = (seen_determined text).last s (as_read (token_of t)) e known.1 in
        ap (λ x. key_goes_on (field_word x) b u) is ∙ sym (plain (is_private (kind_of k.node)) refl (d.plain h) t shown) ∙ ap (λ c. key_goes_on (key_word c k.node) b u) (sym h)

word_bare : (c : Bool) (n : Tree) → key_word c (bare n) ≡ key_word c n
word_bare c (node k w g st en ps) = refl

keyed_way : (before : List Piece) (c : Bool) (k : Tree) (after : List Piece) → Among (at_symbol Primary (before ++ key_part c (is_private (kind_of k)) after)) (class_keyed before c (kind_of (bare k)) after)
keyed_way before true (node k w g st en ps) after = first
keyed_way before false (node k w g st en ps) after = first

field_lean : (c b : Bool) (st en : ℕ) (ps : Parts) → is_lean (bare (node PropertyDefinition [] (member_flags c b Init) st en ps)) ≡ true
field_lean true true st en ps = refl
field_lean true false st en ps = refl
field_lean false true st en ps = refl
field_lean false false st en ps = refl

module _ (text : SourceText) where
  static_run : {o : ℕ} (b : Bool) (qs : List Piece) {ps : Parts} {s m e : Token} {P : List Pair} → RunsIn text o (anywhere (modifier_pieces b Method)) none s m [] → RunsIn text o (anywhere qs) ps m e P → RunsIn text o (anywhere (static_word b ++ qs)) ps s e P
  static_run true qs (step r done) d = step r (step laid d)
  static_run false qs done d = d

  -- a field with its key, by the pieces behind this
  field_spelled : {m : Modifiers} {k : PropertyName} {o st : ℕ} {s y e : Token} {P Q : List Pair} (after : List Piece) (value : Parts) → Begins text st s → NamedSo text true m k o s y P → m.form ≡ Method →
      Among (at_symbol Primary (static_word m.is_static ++ key_part k.computed (is_private (kind_of k.node)) after)) (fields (member_flags k.computed m.is_static Init) (bare_parts (part k.node value))) → RunsIn text o (anywhere after) value y e Q →
      SpellsIn text o member (node PropertyDefinition [] (member_flags k.computed m.is_static Init) st e.stop (part k.node value)) s e (P ++ Q)
  unfolding spellings
  field_spelled {m} {k} {o} {st} {s} {y} {e} {P} {Q} after value begins named form there run =
      let way : Spelling = at_symbol Primary (static_word m.is_static ++ key_part k.computed (is_private (kind_of k.node)) after) in
      let tree : Tree = node PropertyDefinition [] (member_flags k.computed m.is_static Init) st e.stop (part k.node value) in
      let words : RunsIn text o (anywhere (modifier_pieces m.is_static Method)) none s named.mid [] = subst (λ f. RunsIn text o (anywhere (modifier_pieces m.is_static f)) none s named.mid []) form named.words in
      let whole : RunsIn text o (anywhere way.pieces) (part k.node value) s e (P ++ Q) = static_run m.is_static (key_part k.computed (is_private (kind_of k.node)) after) words (key_run text after named.key run) in
      direct (settled member way) (way_from member tree way (field_lean k.computed m.is_static st e.stop (part k.node value)) there (runs_can Token (SeenNext text) (behind_in text) Expression true Any way.pieces whole)) (placed begins.next (ap (λ (x : ℕ). (x, e.stop)) begins.start)) whole

  class_field : {m : Modifiers} {k : PropertyName} {item : ListItem} {o st : ℕ} {s y e : Token} {P Q : List Pair} → Begins text st s → NamedSo text true m k o s y P → m.form ≡ Method → FieldAt text k m.is_static st item o y e Q → SpellsIn text o member item.node s e (P ++ Q)
  class_field {m} {k} {item} {o} {st} {s} {y} {e} {P} {Q} begins named form f = subst (λ n. SpellsIn text o member n s e (P ++ Q)) (sym f.tree) (of f.value f.runs)
    where
      of : (value : Parts) → RunsIn text o (anywhere (field_pieces (field_word k.token) m.is_static value)) value y e Q → SpellsIn text o member (node PropertyDefinition [] (member_flags k.computed m.is_static Init) st e.stop (part k.node value)) s e (P ++ Q)
      of (gap none) d =
          let same : (u : Token) → key_goes_on (field_word k.token) m.is_static u ≡ key_goes_on (key_word k.computed (bare k.node)) m.is_static u = λ u. told_key text named.key m.is_static u ∙ ap (λ w. key_goes_on w m.is_static u) (sym (word_bare k.computed k.node)) in
          field_spelled (absent ∷ ending (behind_key (key_word k.computed (bare k.node)) m.is_static) ∷ []) (gap none) begins named form (keyed_way (static_word m.is_static) k.computed k.node (absent ∷ ending (behind_key (key_word k.computed (bare k.node)) m.is_static) ∷ []))
          (field_moved text (field_word k.token) (key_word k.computed (bare k.node)) m.is_static m.is_static same (gap none) d)
      of (part n none) d =
          field_spelled (sp ∷ sign "=" ∷ sp ∷ assignment ∷ ending (behind_value (edge (bare n))) ∷ []) (part n none) begins named form (keyed_way (static_word m.is_static) k.computed k.node (sp ∷ sign "=" ∷ sp ∷ assignment ∷ ending (behind_value (edge (bare n))) ∷ []))
          (subst (λ x. RunsIn text o (anywhere (sp ∷ sign "=" ∷ sp ∷ assignment ∷ ending (behind_value x) ∷ [])) (part n none) y e Q) (sym (edge_bare n)) d)
      of none d = absurd (run_never Token (SeenNext text) (behind_in text) d)
      of (gap (gap ps)) d = absurd (run_never Token (SeenNext text) (behind_in text) d)
      of (gap (part n ps)) d = absurd (run_never Token (SeenNext text) (behind_in text) d)
      of (part n (gap ps)) d = absurd (run_never Token (SeenNext text) (behind_in text) d)
      of (part n (part m ps)) d = absurd (run_never Token (SeenNext text) (behind_in text) d)

  -- a member of a kind that isn't a method's is read one way too
  pub member_item : {item : ListItem} {o : ℕ} {s e : Token} {P : List Pair} → is_rest (kind_of item.node) ≡ false → SpellsIn text o member item.node s e P → ItemReads text listed.Members item o s e P
  member_item {item} {o} {s} {e} {P} single d = record {
    reads = λ a has fits. of a has;
    no_rest = λ a has fits trails. last a has;
    edge = λ h. absurd (false≢true h);
    is_default = least item.is_flagged;
  }
    where
      least : (b : Bool) → nat_le 0 (cond b 1 0) ≡ true
      least true = refl
      least false = refl

      of : (a : Reading) → has_reading listed.Members a ≡ true → SpelledAs (item_role listed.Members a) text o (read_as a item.node) s e P
      of as_expression has = record { role = member; it_is = refl; spelled = d }
      of (as_pattern b) has = absurd (false≢true has)

      last : (a : Reading) → has_reading listed.Members a ≡ true → is_rest (kind_of (read_as a item.node)) ≡ false
      last as_expression has = single
      last (as_pattern b) has = absurd (false≢true has)

-- a field with its key
pub class_field_item : {s y m e : CursorState} {old p1 mid new : List Pair} (in_class : Bool) (ms : Modifiers) (k : PropertyName) (start : ℕ) (it : ListItem) → in_class ≡ true → ms.form ≡ Method → ((v : LexicalToken) → Scans s.text.bytes Div s.last.stop v → start ≡ v.start) → y.text ≡ s.text → y.opened ≡ s.opened → p1 ≡ old →
    y.last ≡ s.last → m.text ≡ y.text → Adds y m p1 mid (NamedSo y.text in_class ms k) → Adds m e mid new (FieldAt m.text k ms.is_static start it) → Adds s e old new (ItemReads s.text (defined in_class) it)
class_field_item {s} {y} {m} {e} in_class ms k start it is_class form here text0 open0 same0 stays text a b =
    adds_behind {s = s} {m = y} {e = e} {B = λ o z c R. ItemReads s.text (defined in_class) it o z c R} open0 same0 (adds_both {s = y} {m = m} {e = e} {C = λ o z c R. ItemReads s.text (defined in_class) it o s.last c R} a b (λ o P Q v w.
    let named : NamedSo s.text true ms k o s.last m.last P = subst (λ c. NamedSo s.text c ms k o s.last m.last P) is_class (subst (λ t. NamedSo t in_class ms k o s.last m.last P) text0 (subst (λ z. NamedSo y.text in_class ms k o z m.last P) stays v)) in
    let f = subst (λ t. FieldAt t k ms.is_static start it o m.last e.last Q) (text ∙ text0) w in
    subst (λ c. ItemReads s.text (defined c) it o s.last e.last (P ++ Q)) (sym is_class) (member_item s.text (ap (λ n. is_rest (kind_of n)) f.tree) (class_field s.text (named_begins s.text here named) named form f)))) (λ o R d. d)
