-- Methods of objects and members of classes as items of their lists (ECMA-262 12.2.6, 14.3, 14.6).
use Rattle.std.proofs.Common.{◌≡◌, ℕ, Bool, true, false, List, [], ◌∷◌, ◌++◌, refl, sym, ap, ◌∙◌, subst}
use Rattle.std.proofs.lemmas.Bool.{false≢true}
use Rattle.tokens.specs.Tokens.{LexicalToken}
use Rattle.tokens.specs.Reading.{Reads as Scans}
use Rattle.tokens.specs.declared.token.Goal.TheVariants.{Div}
use Rattle.token_cursor.specs.CursorState.{CursorState}
use Rattle.tree.specs.declared.kind.Kind.TheVariants.{Property, MethodDefinition}
use Rattle.tree.specs.declared.kind.Flags.{Flags}
use Rattle.tree.specs.declared.kind.Form.{Form}
use Rattle.tree.specs.declared.kind.Form.TheVariants.{Get, Set, Method, Init, Shorthand, Constructor, Generator, Async, AsyncGenerator}
use Rattle.tree.specs.declared.kind.Pair.{Pair}
use Rattle.tree.specs.Tree.{Tree, node, Parts, none, part, kind_of, bare, bare_parts}
use Rattle.tree.specs.Uses.{is_lean}
use Rattle.covers.specs.declared.list.ListItem.{ListItem}
use Rattle.covers.specs.declared.list.ListKind.TheVariants as listed
use Rattle.covers.specs.Shapes as shapes
use Rattle.language.specs.declared.Rank.TheVariants.{Expression}
use Rattle.language.specs.Covers.{Reading, as_expression, as_pattern, property_as}
use Rattle.language.specs.Expressions.{assignment}
use Rattle.language.specs.Pieces.{property, member, method, Spelling, put, Piece, sign}
use Rattle.language.specs.Token.{Token}
use Rattle.language.specs.Vocabulary.{is_rest, is_private}
use Rattle.language.specs.Grammar.{spellings}
use Rattle.language.specs.Derivation.{Among, placed, direct, done, step, laid, within}
use Rattle.language.proofs.lower_bound.Domination.{settled}
use Rattle.language.proofs.climbing.OperatorNodes.{last_runs}
use Rattle.language.proofs.table.Productions.{way_from, runs_can}
use Rattle.parser_tables.specs.declared.functions_and_classes.FunctionOrClass.TheVariants as closure
use Rattle.recursive_descent.specs.declared.properties.PropertyName.{PropertyName}
use Rattle.recursive_descent.specs.declared.properties.Modifiers.{Modifiers}
use Rattle.recursive_descent.specs.Soundness.{RunsIn, anywhere, Adds, Begins, SpelledAs, fits_as, read_as}
use Rattle.recursive_descent.specs.SoundnessOfLists.{NamedSo, ItemReads, defined, has_reading, item_role, is_called, form_pieces, modifier_pieces, KeyAt, names_constructor}
use Rattle.recursive_descent.specs.SoundnessOfStatements.{ClosureAt}
use Rattle.parser_tables.specs.Items.{property_item}
use Rattle.parser_tables.specs.Methods.{member_flags, member_kind, method_form}
use Rattle.recursive_descent.proofs.sound_properties.Definitions.{named_begins}
use Rattle.recursive_descent.proofs.reading.AddedPairs.{adds_behind, adds_both}
use Rattle.recursive_descent.proofs.sound_properties.Methods.{function_spelled}
use Rattle.recursive_descent.proofs.sound_properties.PropertyValues.{property_reads}
use Rattle.token_cursor.specs.SourceText.{SourceText, SeenNext, behind_in}
use Rattle.recursive_descent.specs.Spelled.{SpellsIn}
use Rattle.recursive_descent.proofs.sound_properties.MethodWays.{laid_words, key_part, object_way, member_way, function_at, object_listed, member_listed, member_lean}
use Rattle.language.specs.Statements.{class_members, static_word}
use Rattle.std.proofs.lemmas.List.{append-nil}
use Rattle.language.specs.declared.Start.TheVariants.{Any}

-- the member or the method, where it begins and ends
abbrev pub method_node : Bool → Modifiers → PropertyName → Tree → ℕ → ℕ → Tree
method_node in_class m k u st en = node (member_kind in_class) [] (member_flags k.computed m.is_static (method_form m.is_static m.form k.is_constructor)) st en (part k.node (part u none))

property_lean : (c : Bool) (f : Form) (st en : ℕ) (ps : Parts) → is_lean (bare (node Property [] (member_flags c false (method_form false f false)) st en ps)) ≡ true
property_lean true Init st en ps = refl
property_lean true _ st en ps = refl
property_lean false Init st en ps = refl
property_lean false _ st en ps = refl

listed_at : (b c : Bool) (f : Form) (con : Bool) (n : Tree) (w : List ℕ) (from to : ℕ) (qs : Parts) → is_called f ≡ true → con ≡ names_constructor c n → Among (member_way b c f (is_private (kind_of n))) (class_members MethodDefinition (member_flags c b (method_form b f con)) (bare_parts (part n (part (function_at f w from to qs) none))))
listed_at b c f con (node k v g st en ps) w from to qs h e = member_listed b c f con k v w g 0 0 0 0 (bare_parts ps) (bare_parts qs) h e

module _ (text : SourceText) where
  public_key : {o : ℕ} (after : List Piece) {ps : Parts} {s e : Token} {R : List Pair} (c p : Bool) → (c ≡ false → p ≡ false) → RunsIn text o (anywhere (key_part c p after)) ps s e R → RunsIn text o (anywhere (key_part c false after)) ps s e R
  public_key after true p h r = r
  public_key {o} after {ps} {s} {e} {R} false p h r = subst (λ x. RunsIn text o (anywhere (key_part false x after)) ps s e R) (h refl) r

  -- the words before the key, with what the table lays between them
  words_run : {o : ℕ} (qs : List Piece) {ps : Parts} {s z e : Token} {P : List Pair} (f : Form) → is_called f ≡ true → RunsIn text o (anywhere (form_pieces f)) none s z [] → RunsIn text o (anywhere qs) ps z e P → RunsIn text o (anywhere (laid_words f ++ qs)) ps s e P
  words_run qs Get h (step r done) d = step r (step laid d)
  words_run qs Set h (step r done) d = step r (step laid d)
  words_run qs Method h done d = d
  words_run qs Generator h (step r done) d = step r d
  words_run qs Async h (step a (step b (step c done))) d = step a (step b (step c d))
  words_run qs AsyncGenerator h (step a (step b (step c (step r done)))) d = step a (step b (step c (step r d)))
  words_run qs Init h w d = absurd (false≢true h)
  words_run qs Shorthand h w d = absurd (false≢true h)
  words_run qs Constructor h w d = absurd (false≢true h)

  member_words_run : {o : ℕ} (qs : List Piece) {ps : Parts} {s z e : Token} {P : List Pair} (b : Bool) (f : Form) → is_called f ≡ true → RunsIn text o (anywhere (modifier_pieces b f)) none s z [] → RunsIn text o (anywhere qs) ps z e P → RunsIn text o (anywhere ((static_word b ++ laid_words f) ++ qs)) ps s e P
  member_words_run qs true f h (step r w) d = step r (step laid (words_run qs f h w d))
  member_words_run qs false f h w d = words_run qs f h w d

  -- the key
  brackets_run : {o : ℕ} (qs : List Piece) {n : Tree} {ps : Parts} {s m e : Token} {P Q : List Pair} → RunsIn text o (anywhere (sign "[" ∷ assignment ∷ sign "]" ∷ [])) (part n none) s m P → RunsIn text o (anywhere qs) ps m e Q → RunsIn text o (anywhere (sign "[" ∷ assignment ∷ sign "]" ∷ qs)) (part n ps) s e (P ++ Q)
  brackets_run {o} qs {n} {ps} {s} {m} {e} {Q = Q} (step l (within {P = A} d (step r done))) rest =
      subst (λ x. RunsIn text o (anywhere (sign "[" ∷ assignment ∷ sign "]" ∷ qs)) (part n ps) s e (x ++ Q)) (sym (append-nil A)) (step l (within d (step r rest)))
  brackets_run qs (step l (step q d)) rest = elim q [ ]

  pub key_run : {in_class : Bool} {k : PropertyName} {o : ℕ} (qs : List Piece) {ps : Parts} {s m e : Token} {P Q : List Pair} → KeyAt text in_class k o s m P → RunsIn text o (anywhere qs) ps m e Q → RunsIn text o (anywhere (key_part k.computed (is_private (kind_of k.node)) qs)) (part k.node ps) s e (P ++ Q)
  key_run {k = k} {o = o} qs {ps = ps} {s = s} {e = e} {P = P} {Q = Q} d rest = of k.computed refl
    where
      of : (c : Bool) → k.computed ≡ c → RunsIn text o (anywhere (key_part c (is_private (kind_of k.node)) qs)) (part k.node ps) s e (P ++ Q)
      of true h = brackets_run qs (d.computed h).1 rest
      of false h = within (d.plain h) rest

  module _ {m : Modifiers} {k : PropertyName} {o st from : ℕ} {w : List ℕ} {qs : Parts} {s y e : Token} {P Q : List Pair} (begins : Begins text st s) (d : SpellsIn text o (method m.form) (function_at m.form w from e.stop qs) y e Q) where
    -- a method of an object
    object_method : NamedSo text false m k o s y P → SpellsIn text o property (method_node false m k (function_at m.form w from e.stop qs) st e.stop) s e (P ++ Q)
    unfolding spellings
    object_method named =
        let static : m.is_static ≡ false = named.no_static refl in
        let words : RunsIn text o (anywhere (form_pieces m.form)) none s named.mid [] = subst (λ b. RunsIn text o (anywhere (modifier_pieces b m.form)) none s named.mid []) static named.words in
        let u : Tree = function_at m.form w from e.stop qs in
        let form : method_form m.is_static m.form k.is_constructor ≡ method_form false m.form false = λ i. method_form (static i) m.form (named.key.constructor i) in
        let flags : Flags = member_flags k.computed false (method_form false m.form false) in
        let way : Spelling = object_way k.computed m.form in
        let last : RunsIn text o (anywhere (put (method m.form) ∷ [])) (part u none) y e Q = last_runs Token (SeenNext text) (behind_in text) d in
        let run : RunsIn text o (anywhere way.pieces) (part k.node (part u none)) s e (P ++ Q) = words_run (key_part k.computed false (put (method m.form) ∷ [])) m.form named.called words (public_key (put (method m.form) ∷ []) k.computed (is_private (kind_of k.node)) (named.key.public refl) (key_run (put (method m.form) ∷ []) named.key last)) in
        subst (λ g. SpellsIn text o property (node Property [] g st e.stop (part k.node (part u none))) s e (P ++ Q)) (sym (λ i. member_flags k.computed (static i) (form i)))
        (direct (settled property way) (way_from property (node Property [] flags st e.stop (part k.node (part u none))) way (property_lean k.computed m.form st e.stop (part k.node (part u none))) (object_listed false k.computed m.form named.called) (runs_can Token (SeenNext text) (behind_in text) Expression true Any way.pieces run))
        (placed begins.next (ap (λ (x : ℕ). (x, e.stop)) begins.start)) run)

    -- a member of a class
    class_method : NamedSo text true m k o s y P → SpellsIn text o member (method_node true m k (function_at m.form w from e.stop qs) st e.stop) s e (P ++ Q)
    unfolding spellings
    class_method named =
        let u : Tree = function_at m.form w from e.stop qs in
        let way : Spelling = member_way m.is_static k.computed m.form (is_private (kind_of k.node)) in
        let last : RunsIn text o (anywhere (put (method m.form) ∷ [])) (part u none) y e Q = last_runs Token (SeenNext text) (behind_in text) d in
        let run : RunsIn text o (anywhere way.pieces) (part k.node (part u none)) s e (P ++ Q) = member_words_run (key_part k.computed (is_private (kind_of k.node)) (put (method m.form) ∷ [])) m.is_static m.form named.called named.words (key_run (put (method m.form) ∷ []) named.key last) in
        direct (settled member way) (way_from member (method_node true m k u st e.stop) way (member_lean k.computed m.is_static (method_form m.is_static m.form k.is_constructor) st e.stop (part k.node (part u none)))
        (listed_at m.is_static k.computed m.form k.is_constructor k.node w from e.stop qs named.called named.key.constructor) (runs_can Token (SeenNext text) (behind_in text) Expression true Any way.pieces run))
        (placed begins.next (ap (λ (x : ℕ). (x, e.stop)) begins.start)) run

  -- a method of an object is no pattern
  object_item : {g : Flags} {ps : Parts} {o st en : ℕ} {s e : Token} {P : List Pair} → SpellsIn text o property (node Property [] g st en ps) s e P → ItemReads text listed.Properties (property_item (node Property [] g st en ps) shapes.value) o s e P
  object_item {g} {ps} {o} {st} {en} {s} {e} {P} d = property_reads text shapes.value of
    where
      of : (a : Reading) → fits_as shapes.value a ≡ true → SpelledAs (property_as a) text o (read_as a (node Property [] g st en ps)) s e P
      of as_expression fits = record { role = property; it_is = refl; spelled = d }
      of (as_pattern true) fits = absurd (false≢true fits)
      of (as_pattern false) fits = absurd (false≢true fits)

  -- a member is read one way
  class_item : {g : Flags} {ps : Parts} {o st en : ℕ} {s e : Token} {P : List Pair} → SpellsIn text o member (node MethodDefinition [] g st en ps) s e P → ItemReads text listed.Members (property_item (node MethodDefinition [] g st en ps) shapes.value) o s e P
  class_item {g} {ps} {o} {st} {en} {s} {e} {P} d = record {
    reads = λ a has fits. of a has;
    no_rest = λ a has fits trails. last a has;
    edge = λ h. absurd (false≢true h);
    is_default = refl;
  }
    where
      of : (a : Reading) → has_reading listed.Members a ≡ true → SpelledAs (item_role listed.Members a) text o (read_as a (node MethodDefinition [] g st en ps)) s e P
      of as_expression has = record { role = member; it_is = refl; spelled = d }
      of (as_pattern b) has = absurd (false≢true has)

      last : (a : Reading) → has_reading listed.Members a ≡ true → is_rest (kind_of (read_as a (node MethodDefinition [] g st en ps))) ≡ false
      last as_expression has = refl
      last (as_pattern b) has = absurd (false≢true has)

  -- either, by its list
  method_reads : (in_class : Bool) {m : Modifiers} {k : PropertyName} {u : Tree} {o st from : ℕ} {s y e : Token} {P Q : List Pair} → Begins text st s → NamedSo text in_class m k o s y P → ((v : LexicalToken) → Scans text.bytes Div y.stop v → from ≡ v.start) → ClosureAt text (closure.Method m.form) from u o y e Q →
      ItemReads text (defined in_class) (property_item (method_node in_class m k u st e.stop) shapes.value) o s e (P ++ Q)
  method_reads true {m} {k} {u} {o} {st} {s = s} {y = y} {e = e} {P} {Q} begins named here d =
      subst (λ v. ItemReads text listed.Members (property_item (method_node true m k v st e.stop) shapes.value) o s e (P ++ Q)) (sym d.tree)
      (class_item (class_method begins (subst (λ v. SpellsIn text o (method m.form) v y e Q) d.tree (function_spelled text named.called here d)) named))
  method_reads false {m} {k} {u} {o} {st} {s = s} {y = y} {e = e} {P} {Q} begins named here d =
      subst (λ v. ItemReads text listed.Properties (property_item (method_node false m k v st e.stop) shapes.value) o s e (P ++ Q)) (sym d.tree)
      (object_item (object_method begins (subst (λ v. SpellsIn text o (method m.form) v y e Q) d.tree (function_spelled text named.called here d)) named))

-- a method, getter or setter
pub method_item : {s y m e : CursorState} {old p1 mid new : List Pair} (in_class : Bool) (ms : Modifiers) (k : PropertyName) (u : Tree) (start from : ℕ) (it : ListItem) → ((v : LexicalToken) → Scans s.text.bytes Div s.last.stop v → start ≡ v.start) → y.text ≡ s.text → y.opened ≡ s.opened → p1 ≡ old → y.last ≡ s.last →
    m.text ≡ y.text → Adds y m p1 mid (NamedSo y.text in_class ms k) → ((v : LexicalToken) → Scans m.text.bytes Div m.last.stop v → from ≡ v.start) → Adds m e mid new (ClosureAt m.text (closure.Method ms.form) from u) → it ≡ property_item (method_node in_class ms k u start e.last.stop) shapes.value → Adds s e old new (ItemReads s.text (defined in_class) it)
method_item {s} {y} {m} {e} in_class ms k u start from it here text0 open0 same0 stays text a there b is =
    adds_behind {s = s} {m = y} {e = e} {B = λ o z c R. ItemReads s.text (defined in_class) it o z c R} open0 same0 (adds_both {s = y} {m = m} {e = e} {C = λ o z c R. ItemReads s.text (defined in_class) it o s.last c R} a b (λ o P Q v w.
    let named : NamedSo s.text in_class ms k o s.last m.last P = subst (λ t. NamedSo t in_class ms k o s.last m.last P) text0 (subst (λ z. NamedSo y.text in_class ms k o z m.last P) stays v) in
    let same = text ∙ text0 in
    subst (λ x. ItemReads s.text (defined in_class) x o s.last e.last (P ++ Q)) (sym is)
    (method_reads s.text in_class (named_begins s.text here named) named (subst (λ t. (v : LexicalToken) → Scans t.bytes Div m.last.stop v → from ≡ v.start) same there) (subst (λ t. ClosureAt t (closure.Method ms.form) from u o m.last e.last Q) same w)))) (λ o R d. d)
