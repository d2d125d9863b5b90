-- Names of properties and members, with the words before them (ECMA-262 12.2.6, 14.3, 14.6).
use Rattle.std.proofs.Common.{◌≡◌, ℕ, Bool, true, false, List, [], ◌∷◌, refl, sym, ap, ◌∙◌, subst, ◌++◌, drop}
use Rattle.std.specs.Prelude.{Option, Some, None, codes, ◌&&◌, ◌||◌, not}
use Rattle.std.proofs.lemmas.Bool.{false≢true, true≢false, and_parts}
use Rattle.std.proofs.lemmas.List.{append-nil}
use Rattle.tokens.specs.Scanned.{token_of}
use Rattle.tokens.specs.Tokens.{LexicalToken}
use Rattle.tokens.specs.Strings.{string_units}
use Rattle.tokens.specs.declared.token.Token.{Token as Scanned}
use Rattle.tokens.specs.declared.token.TokenClass.{TokenClass}
use Rattle.tokens.specs.declared.token.TokenClass.TheVariants.{IdentifierName, NumericLiteral, StringLiteral, Punctuator, Template, RegularExpressionLiteral, End, PrivateName, Keyword}
use Rattle.tokens.specs.declared.token.Goal.TheVariants.{Div}
use Rattle.token_cursor.specs.CursorState.{CursorState}
use Rattle.tree.specs.declared.kind.Kind.TheVariants.{Identifier, Literal, PrivateIdentifier}
use Rattle.tree.specs.declared.kind.Form.{Form}
use Rattle.tree.specs.declared.kind.Pair.{Pair}
use Rattle.tree.specs.Tree.{Tree, none, part, kind_of, node, plain}
use Rattle.language.specs.declared.Rank.TheVariants.{Assignment}
use Rattle.language.specs.declared.Start.TheVariants.{Any}
use Rattle.language.specs.Vocabulary.{is, is_string, literal_class, is_keyword, is_private}
use Rattle.language.specs.Strings.{literal_units}
use Rattle.language.specs.Pieces.{expr, key, private_name, sign, Role}
use Rattle.language.specs.Expressions.{assignment}
use Rattle.language.specs.Token.{Token, as_read, same_class, table_text}
use Rattle.language.specs.Derivation.{done, step, within, token, reserved_key, same_line, laid}
use Rattle.language.proofs.table.PropertyNameWays.{name_key_found, literal_key_found}
use Rattle.token_cursor.proofs.SeenTokens.{seen_determined}
use Rattle.parser_tables.specs.declared.operand.Operand.{Operand}
use Rattle.parser_tables.specs.declared.expression_context.ExpressionContext.{ExpressionContext}
use Rattle.recursive_descent.specs.declared.properties.PropertyName.{PropertyName}
use Rattle.recursive_descent.specs.declared.properties.Modifiers.{Modifiers}
use Rattle.recursive_descent.specs.Soundness.{RunsIn, anywhere, Adds, ReadAt, takes_new}
use Rattle.recursive_descent.specs.SoundnessOfLists.{KeyAt, NamedSo, is_called, names_constructor, form_pieces, modifier_pieces, key_role}
use Rattle.recursive_descent.specs.Members.{KeyRead}
use Rattle.parser_tables.specs.Methods.{is_constructor}
use Rattle.recursive_descent.specs.Modifiers.{Accessed, gets, sets, get_named, set_named, neither, Modifying, in_object, not_static, static_named, static, MethodWords, no_words, a_star, async_word, async_star, async_named, follows_async}
use Rattle.token_cursor.specs.Seen.{ReadsHere, TokenHere, is_key_class}
use Rattle.parser_tables.specs.Tests.{is_key}
use Rattle.parser_tables.specs.Tokens.{single_node, key_node, key_node_by, single_text, without_hash}
use Rattle.recursive_descent.proofs.reading.AddedPairs.{adds_behind, adds_none}
use Rattle.recursive_descent.proofs.sound_subscripts.SubscriptReads.{adds_then, spelled_at, no_template_text}
use Rattle.recursive_descent.proofs.reading.LiteralTokens.{is_literal_class, literal_read}
use Rattle.recursive_descent.proofs.reading.CodePoints.{points_are_chars}
use Rattle.token_cursor.specs.SourceText.{SourceText, SeenNext, behind_in, unseen, unseen_class}
use Rattle.recursive_descent.specs.Spelled.{SpellsIn}
use Rattle.language.proofs.table.Begins.{among_by}
use Rattle.recursive_descent.proofs.reading.SeenNames.{keyword_told, private_told}
use Rattle.tree.specs.declared.kind.Kind.{Kind}
use Rattle.language.proofs.climbing.Leaves.{private_found}
use Rattle.language.specs.Languages.{is_of_2022}
use Rattle.token_cursor.proofs.TokensAhead.{not_true}
use Rattle.recursive_descent.proofs.reading.SeenClasses.{name_place}

-- whether the value of a key of one token is `constructor`
or_nothing : (a : Bool) → (a || false) ≡ a
or_nothing true = refl
or_nothing false = refl

not_constructor : (w : List ℕ) → is_keyword w ≡ true → is w "constructor" ≡ false
unfolding is_keyword
not_constructor w h = among_by (λ v. is v "constructor" ≡ false) w ("await" ∷ []) h (refl, tt)

-- what is known of the text of a key's token
abbrev KeyText : TokenClass → List ℕ → Type 0
KeyText Keyword w = is_keyword w ≡ true
KeyText StringLiteral w = literal_class w ≡ StringLiteral
KeyText NumericLiteral w = literal_class w ≡ NumericLiteral
KeyText PrivateName w = w ≡ codes "#" ++ drop 1 w
KeyText _ w = Unit {0}

abbrev is_named : TokenClass → Bool
is_named c = is_key_class c || same_class PrivateName c

constructor_same : (c : TokenClass) (t : LexicalToken) → is_named c ≡ true → KeyText c t.text → is_constructor c t.text ≡ names_constructor false (key_node_by c t)
constructor_same IdentifierName t h k = sym (or_nothing (is t.text "constructor"))
constructor_same Keyword t h k = sym (or_nothing (is t.text "constructor") ∙ not_constructor t.text k)
constructor_same PrivateName t h k = refl
constructor_same StringLiteral t h k = sym ((λ i. is_string (k i) && is (string_units (points_are_chars t.text i)) "constructor"))
constructor_same NumericLiteral t h k = sym (ap (λ c. is_string c && is (literal_units t.text) "constructor") k)
constructor_same Punctuator t h k = absurd (false≢true h)
constructor_same Template t h k = absurd (false≢true h)
constructor_same RegularExpressionLiteral t h k = absurd (false≢true h)
constructor_same End t h k = absurd (false≢true h)

no_template : (c : TokenClass) → is_named c ≡ true → same_class Template c ≡ false
no_template Template h = absurd (false≢true h)
no_template _ h = refl

module _ (text : SourceText) where
  key_text : (t : LexicalToken) → is_named t.class ≡ true → (as_read t).text ≡ t.text
  key_text t kind = no_template_text t.class t.text (no_template t.class kind)

  -- what is read of a key's token tells its text
  text_told : {s e : Token} (t : LexicalToken) → SeenNext text s (as_read t) e → is_named t.class ≡ true → KeyText t.class t.text
  text_told t next kind = subst (KeyText t.class) (key_text t kind) (of t.class refl)
    where
      of : (c : TokenClass) → t.class ≡ c → KeyText c (as_read t).text
      of Keyword h = keyword_told next h
      of PrivateName h = private_told next h
      of StringLiteral h = literal_read next (ap is_literal_class h) ∙ h
      of NumericLiteral h = literal_read next (ap is_literal_class h) ∙ h
      of _ h = tt

  -- a key of one token
  key_spelled : {o : ℕ} {s e : Token} (t : LexicalToken) → SeenNext text s (as_read t) e → is_named t.class ≡ true → SpellsIn text o (key_role (kind_of (key_node t))) (key_node t) s e []
  key_spelled {o} {s} {e} t next kind = of t.class refl kind (text_told t next kind)
    where
      same_stop : t.stop ≡ e.stop
      same_stop = sym (ap (λ (x : Token). x.stop) ((seen_determined text).last s (as_read t) e next))

      reads : (c : TokenClass) → t.class ≡ c → Rattle.language.specs.Derivation.Reads Token (SeenNext text) (behind_in text) c t.text s (as_read t) e
      reads c h = record { next = next; class = h; text = key_text t kind }

      stopped : {a : Role} (k : Kind) → SpellsIn text o a (node k (single_text k t.text) plain t.start e.stop none) s e [] → SpellsIn text o a (single_node k t) s e []
      stopped {a} k d = subst (λ x. SpellsIn text o a (node k (single_text k t.text) plain t.start x none) s e []) (sym same_stop) d

      of : (c : TokenClass) → t.class ≡ c → is_named c ≡ true → KeyText c t.text → SpellsIn text o (key_role (kind_of (key_node_by c t))) (key_node_by c t) s e []
      of IdentifierName h k w = stopped Identifier (subst (λ v. SpellsIn text o key (node Identifier v plain t.start e.stop none) s e []) (key_text t kind) (name_key_found Token (SeenNext text) (behind_in text) (seen_determined text) {o = o} (record { next = next; class = h; text = refl })).spelled)
      of Keyword h k w = stopped Identifier (reserved_key (reads Keyword h) w refl)
      of PrivateName h k w = stopped PrivateIdentifier (subst (λ v. SpellsIn text o private_name (node PrivateIdentifier v plain t.start e.stop none) s e []) (sym (ap without_hash w))
          (private_found Token (SeenNext text) (behind_in text) (seen_determined text) {o = o} {w = drop 1 t.text} (record { next = next; class = h; text = key_text t kind ∙ w })).spelled)
      of NumericLiteral h k w = stopped Literal (subst (λ v. SpellsIn text o key (node Literal v plain t.start e.stop none) s e []) (key_text t kind)
          (literal_key_found Token (SeenNext text) (behind_in text) (seen_determined text) {o = o} NumericLiteral refl refl (literal_read next (ap is_literal_class h) ∙ h) (record { next = next; class = h; text = refl })).spelled)
      of StringLiteral h k w = stopped Literal (subst (λ v. SpellsIn text o key (node Literal v plain t.start e.stop none) s e []) (key_text t kind)
          (literal_key_found Token (SeenNext text) (behind_in text) (seen_determined text) {o = o} StringLiteral refl refl (literal_read next (ap is_literal_class h) ∙ h) (record { next = next; class = h; text = refl })).spelled)
      of Punctuator h k w = absurd (false≢true k)
      of Template h k w = absurd (false≢true k)
      of RegularExpressionLiteral h k w = absurd (false≢true k)
      of End h k w = absurd (false≢true k)

  -- only a class has a private key
  public_key : (in_class : Bool) (c : TokenClass) (t : LexicalToken) → (is_key_class c || (in_class && (is_of_2022 text.language && same_class PrivateName c))) ≡ true → in_class ≡ false → is_private (kind_of (key_node_by c t)) ≡ false
  public_key false IdentifierName t h k = refl
  public_key false Keyword t h k = refl
  public_key false StringLiteral t h k = refl
  public_key false NumericLiteral t h k = refl
  public_key false _ t h k = absurd (false≢true h)
  public_key true c t h k = absurd (true≢false k)

  named_key : (in_class : Bool) (c : TokenClass) → (is_key_class c || (in_class && (is_of_2022 text.language && same_class PrivateName c))) ≡ true → is_named c ≡ true
  named_key true PrivateName h = refl
  named_key false PrivateName h = refl
  named_key b IdentifierName h = refl
  named_key b Keyword h = refl
  named_key b StringLiteral h = refl
  named_key b NumericLiteral h = refl
  named_key b Punctuator h = absurd (never b (is_of_2022 text.language) h)
    where
      never : (b l : Bool) → (b && (l && false)) ≡ true → ⊥
      never true true h = false≢true h
      never true false h = false≢true h
      never false l h = false≢true h
  named_key b c h = absurd (never b (is_of_2022 text.language) h)
    where
      never : (b l : Bool) → (b && (l && false)) ≡ true → ⊥
      never true true h = false≢true h
      never true false h = false≢true h
      never false l h = false≢true h

  token_key : {o : ℕ} {s e : Token} (in_class : Bool) (k : PropertyName) (t : Scanned) (b : Bool) → k ≡ record { node = key_node (token_of t); computed = false; token = Some t; is_constructor = b } → b ≡ (in_class && names_constructor false (key_node (token_of t))) →
      SeenNext text s (as_read (token_of t)) e → e ≡ unseen (as_read (token_of t)) → is_key text in_class (as_read (token_of t)) ≡ true → KeyAt text in_class k o s e []
  token_key {o} {s} {e} in_class k t b is_k b_is next is_t kind = subst (λ x. KeyAt text in_class x o s e []) (sym is_k) (record {
    computed = λ h. absurd (false≢true h);
    plain = λ h. key_spelled (token_of t) next (named_key in_class t.class kind);
    told = λ h. refl;
    token = (refl, next, is_t, refl, refl);
    public = λ b h. public_key in_class t.class (token_of t) kind b;
    constructor = b_is;
  })

  -- a key of one token that was read as such
  plain_key : {o : ℕ} {s e : Token} (in_class : Bool) (k : PropertyName) (got : Option Scanned) → TokenHere text Div (is_key text in_class) s e → KeyRead text in_class e k got → KeyAt text in_class k o s e []
  plain_key in_class k None here read = absurd read
  plain_key {o} {s} {e} in_class k (Some t) here read =
      let next : SeenNext text s (as_read (token_of t)) e = subst (λ x. SeenNext text s x e) read.1 here.0.next in
      let kind : is_key text in_class (as_read (token_of t)) ≡ true = subst (λ x. is_key text in_class x ≡ true) read.1 here.1 in
      token_key in_class k t (in_class && is_constructor t.class t.text.now) read.2 (ap (λ b. in_class && b) (constructor_same t.class (token_of t) (named_key in_class t.class kind) (text_told (token_of t) next (named_key in_class t.class kind)))) next read.0 kind

  -- What stands behind the words: the key, which begins there, or the token that is the key itself.
  abbrev Rest : Option Scanned → Token → Token → Type 0
  Rest None m e = e ≡ m
  Rest (Some t) m e = (w : List ℕ) × ReadsHere text IdentifierName w m e × (e ≡ as_read (token_of t)) × (is w "constructor" ≡ false)

  on_line : (t : Token) → follows_async t ≡ true → t.after_break ≡ false
  on_line t h = not_true t.after_break (and_parts (not t.after_break) _ h).0

  record WordsRead (f : Form) (name : Option Scanned) (s e : Token) : Type 0 where
    mid : Token
    runs : (o : ℕ) → RunsIn text o (anywhere (form_pieces f)) none s mid []
    rest : Rest name mid e
    called : is_called f ≡ true

  method_words_read : {s e : Token} {f : Form} {name : Option Scanned} → MethodWords text s e f name → WordsRead f name s e
  method_words_read {s} (no_words p h) = record { mid = s; runs = λ o. done; rest = h; called = refl }
  method_words_read {e = e} (a_star l h) = record { mid = e; runs = λ o. step (token h) done; rest = refl; called = refl }
  method_words_read {e = e} (async_word l h sees m) = record { mid = e; runs = λ o. step (token h) (step (same_line sees.1.0.next (on_line (behind_in text sees.0) sees.1.1)) (step laid done)); rest = refl; called = refl }
  method_words_read {e = e} (async_star l h sees q) = record { mid = e; runs = λ o. step (token h) (step (same_line sees.1.0.next (on_line (behind_in text sees.0) sees.1.1)) (step laid (step (token q) done))); rest = refl; called = refl }
  method_words_read {s} (async_named l h m is) = record { mid = s; runs = λ o. done; rest = (codes "async", h, is, refl); called = refl }

  accessor_read : {s e : Token} {f : Form} {name : Option Scanned} → Accessed text s e f name → WordsRead f name s e
  accessor_read {e = e} (gets h) = record { mid = e; runs = λ o. step (token h.read) done; rest = refl; called = refl }
  accessor_read {e = e} (sets h) = record { mid = e; runs = λ o. step (token h.read) done; rest = refl; called = refl }
  accessor_read {s} (get_named h) = record { mid = s; runs = λ o. done; rest = (codes "get", h.read, h.is, refl); called = refl }
  accessor_read {s} (set_named h) = record { mid = s; runs = λ o. done; rest = (codes "set", h.read, h.is, refl); called = refl }
  accessor_read (neither p q h) = method_words_read h

  record ModifiersRead (in_class is_static : Bool) (f : Form) (name : Option Scanned) (s e : Token) : Type 0 where
    mid : Token
    runs : (o : ℕ) → RunsIn text o (anywhere (modifier_pieces is_static f)) none s mid []
    no_static : in_class ≡ false → is_static ≡ false
    rest : Rest name mid e
    called : is_called f ≡ true

  modifiers_read : {s e : Token} {in_class is_static : Bool} {f : Form} {name : Option Scanned} → Modifying text s e in_class is_static f name → ModifiersRead in_class is_static f name s e
  modifiers_read (in_object a) = let w = accessor_read a in record { mid = w.mid; runs = w.runs; no_static = λ h. refl; rest = w.rest; called = w.called }
  modifiers_read (not_static h a) = let w = accessor_read a in record { mid = w.mid; runs = w.runs; no_static = λ h. refl; rest = w.rest; called = w.called }
  modifiers_read {s} (static_named h) = record { mid = s; runs = λ o. done; no_static = λ h. refl; rest = (codes "static", h.read, h.is, refl); called = refl }
  modifiers_read (static h a) = let w = accessor_read a in record { mid = w.mid; runs = λ o. step (token h.read) (w.runs o); no_static = λ h. absurd (false≢true (sym h)); rest = w.rest; called = w.called }

  no_constructor : (in_class : Bool) (b : Bool) → b ≡ false → false ≡ (in_class && (b || false))
  no_constructor true true h = absurd (true≢false h)
  no_constructor true false h = refl
  no_constructor false b h = refl

  -- the word is the name itself
  word_key : {o : ℕ} {m e : Token} (in_class : Bool) (k : PropertyName) (t : Scanned) → Rest (Some t) m e → k ≡ record { node = key_node (token_of t); computed = false; token = Some t; is_constructor = false } → KeyAt text in_class k o m e []
  word_key {o} {m} {e} in_class k t rest is_k =
      let reads : ReadsHere text IdentifierName rest.0 m e = rest.1 in
      let shown : behind_in text e ≡ as_read (token_of t) = name_place text e reads.class ∙ rest.2 in
      let class : t.class ≡ IdentifierName = sym (ap (λ (x : Token). x.class) shown) ∙ reads.class in
      let next : SeenNext text m (as_read (token_of t)) e = subst (λ x. SeenNext text m x e) shown reads.next in
      let kind : is_key text in_class (as_read (token_of t)) ≡ true = ap (λ c. is_key_class c || (in_class && (is_of_2022 text.language && same_class PrivateName c))) class in
      let word : t.text.now ≡ rest.0 = sym (ap (λ c. table_text c t.text.now) class) ∙ sym (ap (λ (x : Token). x.text) shown) ∙ reads.text in
      let other : is t.text.now "constructor" ≡ false = ap (λ w. is w "constructor") word ∙ rest.3 in
      let place : e ≡ unseen (as_read (token_of t)) = rest.2 ∙ (λ i. record (as_read (token_of t)) { class = (class ∙ sym (ap unseen_class class)) i }) in
      token_key in_class k t false is_k (no_constructor in_class (is t.text.now "constructor") other ∙ (λ i. in_class && names_constructor false (key_node_by (sym class i) (token_of t)))) next place kind

  -- the class of a word that is the name itself
  pub word_class : {s e : Token} {in_class is_static : Bool} {f : Form} {name : Option Scanned} (t : Scanned) → name ≡ Some t → Modifying text s e in_class is_static f name → t.class ≡ IdentifierName
  word_class {e = e} t is words =
      let w = modifiers_read words in
      let rest : Rest (Some t) w.mid e = subst (λ x. Rest x w.mid e) is w.rest in
      sym (ap (λ (x : Token). x.class) (name_place text e rest.1.class ∙ rest.2)) ∙ rest.1.class

  -- a key in brackets
  bracket_key : {o : ℕ} {m x z e : Token} {n : Tree} {P : List Pair} (in_class : Bool) → ReadsHere text Punctuator (codes "[") m x → SpellsIn text o (expr Assignment true Any) n x z P → ReadsHere text Punctuator (codes "]") z e →
      KeyAt text in_class (record { node = n; computed = true; token = None; is_constructor = false }) o m e P
  bracket_key {o} {m} {e = e} {n = n} {P = P} in_class left inner right = record {
    computed = λ h. (refl, subst (λ x. RunsIn text o (anywhere (sign "[" ∷ assignment ∷ sign "]" ∷ [])) (part n none) m e x) (append-nil P) (step (token left) (within inner (step (token right) done))));
    plain = λ h. absurd (false≢true (sym h));
    told = λ h. absurd (false≢true (sym h));
    token = tt;
    public = λ b h. absurd (true≢false h);
    constructor = of in_class;
  }
    where
      of : (b : Bool) → false ≡ (b && false)
      of true = refl
      of false = refl

module _ {s x : CursorState} {old mid : List Pair} (in_class : Bool) (m : Modifiers) (opened : x.opened ≡ s.opened) (same : mid ≡ old) (words : Modifying s.text s.last x.last in_class m.is_static m.form m.name) where
  -- the name is one of the words
  pub named_alone : (k : PropertyName) (t : Scanned) → m.name ≡ Some t → k ≡ record { node = key_node (token_of t); computed = false; token = Some t; is_constructor = false } → Adds s x old mid (NamedSo s.text in_class m k)
  named_alone k t name is_k = adds_none opened same (λ o.
      let w = modifiers_read s.text words in
      record { mid = w.mid; words = w.runs o; no_static = w.no_static; key = word_key s.text in_class k t (subst (λ v. Rest s.text v w.mid x.last) name w.rest) is_k; called = w.called })

  module _ (text1 : x.text ≡ s.text) (unnamed : m.name ≡ None) where
    behind_words : (o : ℕ) → (w : Token) × (x.last ≡ w) × RunsIn s.text o (anywhere (modifier_pieces m.is_static m.form)) none s.last w [] × (in_class ≡ false → m.is_static ≡ false) × (is_called m.form ≡ true)
    behind_words o =
        let w = modifiers_read s.text words in
        (w.mid, subst (λ v. Rest s.text v w.mid x.last) unnamed w.rest, w.runs o, w.no_static, w.called)

    named_by_key : {k : PropertyName} {o : ℕ} {e : Token} {P : List Pair} → KeyAt s.text in_class k o x.last e P → NamedSo s.text in_class m k o s.last e P
    named_by_key {k} {o} {e} {P} d = let w = behind_words o in record { mid = w.0; words = w.2; no_static = w.3; key = subst (λ v. KeyAt s.text in_class k o v e P) w.1 d; called = w.4 }

    -- the name is one token
    pub named_plain : {y e : CursorState} {b1 new : List Pair} (k : PropertyName) → y.text ≡ x.text → y.opened ≡ x.opened → b1 ≡ mid → y.last ≡ x.last → e.opened ≡ y.opened → new ≡ b1 → TokenHere y.text Div (is_key y.text in_class) y.last e.last → KeyRead y.text in_class e.last k k.token → Adds s e old new (NamedSo s.text in_class m k)
    named_plain {y} {e} k text2 open2 same2 stays open3 same3 here read =
        adds_none (open3 ∙ open2 ∙ opened) (same3 ∙ same2 ∙ same) (λ o.
        named_by_key (plain_key s.text in_class k k.token (subst (λ v. TokenHere v Div (is_key v in_class) x.last e.last) (text2 ∙ text1) (subst (λ v. TokenHere y.text Div (is_key y.text in_class) v e.last) stays here)) (subst (λ v. KeyRead v in_class e.last k k.token) (text2 ∙ text1) read)))

    -- the name is an expression in brackets
    pub named_computed : {y z e : CursorState} {b1 b2 new : List Pair} {p : ExpressionContext} {r : Operand} (n : Tree) → y.text ≡ x.text → y.opened ≡ x.opened → b1 ≡ mid → ReadsHere x.text Punctuator (codes "[") x.last y.last → p.rank ≡ Assignment → p.has_in ≡ true → p.start ≡ Any →
        z.text ≡ y.text → Adds y z b1 b2 (ReadAt y.text p r) → n ≡ r.cover.node → r.cover.shape.is_expression ≡ true → e.opened ≡ z.opened → new ≡ b2 → ReadsHere z.text Punctuator (codes "]") z.last e.last →
        Adds s e old new (NamedSo s.text in_class m (record { node = n; computed = true; token = None; is_constructor = false }))
    named_computed {y} {z} {e} {p = p} {r = r} n text2 open2 same2 left rank_is in_is start_is text3 index node_is value open3 same3 right =
        adds_then (adds_behind {s = s} {m = y} {e = z} {B = λ o a c Q. SpellsIn s.text o (expr Assignment true Any) n y.last z.last Q} (open2 ∙ opened) (same2 ∙ same) index (λ o Q d.
        let loose : takes_new p.rank ≡ true = ap takes_new rank_is in
        subst (λ v. SpellsIn s.text o (expr Assignment true Any) v y.last z.last Q) (sym node_is)
        (subst (λ v. SpellsIn v o (expr Assignment true Any) r.cover.node y.last z.last Q) (text2 ∙ text1) (subst (λ a. SpellsIn y.text o a r.cover.node y.last z.last Q) (λ i. expr (rank_is i) (in_is i) (start_is i)) (spelled_at loose value d))))) open3 same3 (λ o Q d.
        named_by_key (bracket_key s.text in_class (subst (λ v. ReadsHere v Punctuator (codes "[") x.last y.last) text1 left) d (subst (λ v. ReadsHere v Punctuator (codes "]") z.last e.last) (text3 ∙ text2 ∙ text1) right)))
