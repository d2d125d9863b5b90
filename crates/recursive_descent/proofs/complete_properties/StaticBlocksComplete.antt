-- A given static block of a class is answered, path by path (ECMA-262, 13th edition, 15.7).
use Rattle.std.proofs.Common.{◌≡◌, ℕ, suc, ◌-◌, ◌≤◌, Bool, true, false, cond, List, [], Result, Ok, Err, refl, sym, ap, ◌∙◌, subst, arith}
use Rattle.std.specs.Prelude.{Some, codes, not}
use Rattle.std.specs.Result.{IsErrAnd}
use Rattle.std.proofs.lemmas.Bool.{false≢true}
use Rattle.source_text.specs.declared.fault.Fault.{Fault}
use Rattle.tokens.specs.declared.token.TokenClass.TheVariants.{IdentifierName, Punctuator}
use Rattle.tokens.specs.declared.token.Goal.TheVariants.{Div}
use Rattle.token_cursor.specs.CursorState.{CursorState}
use Rattle.token_cursor.specs.Seen.{ReadsHere, Sees, Misses, SeesBy, MissesBy}
use Rattle.token_cursor.specs.SourceText.{SourceText, SeenNext, behind_in}
use Rattle.token_cursor.proofs.SeenTokens.{seen_determined}
use Rattle.token_cursor.proofs.TokensAhead.{mark_by}
use Rattle.tree.specs.declared.kind.Kind.TheVariants.{StaticBlock}
use Rattle.tree.specs.declared.kind.Form.{Form}
use Rattle.tree.specs.declared.kind.Pair.{Pair}
use Rattle.tree.specs.Tree.{Tree, node, plain, Parts, kind_of, text_of, height, parts_height}
use Rattle.covers.specs.declared.list.ListItem.{ListItem}
use Rattle.covers.specs.declared.list.ListKind.TheVariants as listed
use Rattle.productions.specs.Made.{Makes}
use Rattle.language.specs.Claims.{max_open}
use Rattle.language.specs.Covers.{Reading, as_expression, as_pattern}
use Rattle.language.specs.Pieces.{Role}
use Rattle.language.specs.Languages.{is_of_2022}
use Rattle.language.specs.Statements.{prologue}
use Rattle.language.specs.Token.{Token, is_mark}
use Rattle.language.specs.Vocabulary.{is, is_identifier, is_rest}
use Rattle.language.specs.Derivation.{Reads, explicit, implicit}
use Rattle.language.proofs.covers.CoverReadings.{name_or_sign}
use Rattle.unambiguity_laws.proofs.list_items.MemberEnds.{ends_sign}
use Rattle.parser_tables.specs.Tests.{ends}
use Rattle.parser_tables.specs.declared.statements.StatementContext.{StatementContext}
use Rattle.parser_tables.specs.declared.statements.StatementListEnd.TheVariants as until
use Rattle.recursive_descent.specs.Complete.{PropertyOrMemberComplete, StatementsComplete}
use Rattle.recursive_descent.specs.Completeness.{Room, EndsWith}
use Rattle.recursive_descent.specs.CompletenessOfLists.{DefinitionEnds}
use Rattle.recursive_descent.specs.CompletenessOfProperties.{AccessGiven, gets, sets, a_star, async_word, async_star, neither, not_static, static, NamedAt, NameGiven, WordsGiven, names_more}
use Rattle.recursive_descent.specs.Later.{BeginsStaticBlock}
use Rattle.recursive_descent.specs.Soundness.{Adds, RunsIn, anywhere, fits_as}
use Rattle.recursive_descent.specs.SoundnessOfLists.{ItemReads, defined, has_reading, item_role, item_fits, fits_rest, may_trail}
use Rattle.recursive_descent.specs.Spelled.{SpellsIn, OfLanguage, AllOfLanguage}
use Rattle.recursive_descent.proofs.complete_expressions.Agreement.{agrees_on, agrees_err, refuses_made, marks_same, words_same, not_missed}
use Rattle.recursive_descent.proofs.complete_properties.DefinitionsComplete.{answered}
use Rattle.recursive_descent.proofs.complete_properties.DefinitionsGiven.{BehindGiven, a_function, no_method, a_field, BlockGiven, DefinitionGiven, dotted, keyed, a_block, definition_given}
use Rattle.recursive_descent.proofs.complete_properties.FieldsComplete.{FieldIs, no_value, with_value, field_is}
use Rattle.recursive_descent.proofs.complete_properties.MemberEndings.{member_ends}
use Rattle.recursive_descent.proofs.complete_properties.NamesGiven.{key_sign, static_key}
use Rattle.recursive_descent.proofs.sound_properties.Fields.{field_item}

module _ (text : SourceText) where
  abbrev Brace : Token → Type 0
  Brace = Sees text Punctuator (codes "{")

  other_brace : {A : Type 0} {w : List ℕ} {s t e : Token} → is w "{" ≡ false → Reads Token (SeenNext text) (behind_in text) Punctuator w s t e → Brace s → A
  other_brace h r b = absurd (false≢true (sym h ∙ ap (λ w. is w "{") (sym r.text ∙ ap (λ (z : Token). z.text) (marks_same text r b.1).0 ∙ b.1.text)))

  word_brace : {A : Type 0} {w : List ℕ} {s t e : Token} → Reads Token (SeenNext text) (behind_in text) IdentifierName w s t e → Brace s → A
  word_brace r b = absurd (name_or_sign Token (SeenNext text) (behind_in text) (seen_determined text) refl r b.1)

  key_brace : {A : Type 0} {i c : Bool} {o : ℕ} {k : Tree} {s e : Token} {P : List Pair} → NamedAt text i o k s e P c → Brace s → A
  key_brace k b = key_sign text refl refl (λ h. false≢true (sym (ap (λ w. is w "{") h))) k b.1

  -- where a brace stands no method's words and key do, nor what stands behind a key
  access_brace : {A : Type 0} {i c : Bool} {o : ℕ} {k : Tree} {s z e : Token} {f : Form} {P : List Pair} → AccessGiven text s z f → NamedAt text i o k z e P c → Brace s → A
  access_brace (gets r) k b = word_brace r b
  access_brace (sets r) k b = word_brace r b
  access_brace (a_star l r) k b = other_brace refl r b
  access_brace (async_word l r line) k b = word_brace r b
  access_brace (async_star l r line st) k b = word_brace r b
  access_brace (neither m) k b = key_brace k (subst (λ z. Brace z) (sym m) b)

  behind_brace : {A : Type 0} {x c : Bool} {k : Tree} {a : Reading} {o levels : ℕ} {s e : Token} {f : Form} → BehindGiven text true x c k a o levels s e f → Brace s → A
  behind_brace (a_function reading g) b = other_brace refl g.opens.1 b
  behind_brace (no_method c quiet value) b = absurd (false≢true (sym c))
  behind_brace {x = x} (a_field j l reading g) b = of (field_is text _ x g.value g.runs) g.ends b
    where
      of : {A : Type 0} {w : List ℕ} {o : ℕ} {value : Parts} {s e : Token} {P : List Pair} → FieldIs text w x o s e value P → DefinitionEnds text true e → Brace s → A
      of (no_value (explicit r)) ends b = other_brace refl r b
      of (no_value (implicit nx may)) ends b = ends_sign Token (SeenNext text) (behind_in text) (seen_determined text) refl refl (member_ends text ends) b.1
      of (with_value r d end) ends b = other_brace refl r b

  key_apart : {A : Type 0} {x c : Bool} {k : Tree} {a : Reading} {o levels : ℕ} {s m e : Token} {f : Form} {P : List Pair} → NameGiven text true x f c o k s m P → BehindGiven text true x c k a o levels m e f → BeginsStaticBlock text s → A
  key_apart {A} {x} {c} {k} {a} {o} {levels} {s} {m} {e} {P = P} name behind begins = of name.words name.last
    where
      of : {f' : Form} {x' : Bool} → WordsGiven text true s name.mid x' f' → (c ≡ false → is_identifier (kind_of k) ≡ true → MissesBy text Div (names_more text (not x') (text_of k)) m) → A
      of (static j r w) last = access_brace w name.key (subst (λ z. Brace z) (words_same text begins.1.1 r).1 begins.1.2)
      of (not_static w) last = let u = static_key text name.key true last w begins.1.1 in behind_brace behind (subst (λ z. Brace z) u.1.place begins.1.2)

  -- a member that begins so is a static block
  record Block (a : Reading) (o levels : ℕ) (s e : Token) : Type 0 where
    reading : a ≡ as_expression
    block : BlockGiven text o levels s e

  block_given : {a : Reading} {o levels : ℕ} {s e : Token} → BeginsStaticBlock text s → DefinitionGiven text true a o levels s e → Block a o levels s e
  block_given begins (dotted c h low it d own t ends) = absurd (false≢true (sym c))
  block_given begins (keyed quiet low own name behind) = key_apart name behind begins
  block_given begins (a_block j l reading v) = record { reading = reading; block = v }

-- none begins where none was seen
pub unbegun : (s h : CursorState) → h.text ≡ s.text → h.last ≡ s.last → (is_of_2022 h.text.language ≡ true → (m : Token) → ReadsHere h.text IdentifierName (codes "static") h.last m → Misses h.text Punctuator (codes "{") m) → BeginsStaticBlock s.text s.last → ⊥
unbegun s h text last none begins =
    let b : BeginsStaticBlock h.text h.last = subst (λ t. BeginsStaticBlock t h.last) (sym text) (subst (λ l. BeginsStaticBlock s.text l) (sym last) begins) in
    not_missed (none b.0 b.1.0 b.1.1) b.1.2.1

module _ (s e : CursorState) (old new : List Pair) (high : ℕ) (begins : BeginsStaticBlock s.text s.last) where
  abbrev Whole : Result ListItem Fault → Type 0
  Whole = PropertyOrMemberComplete s e old new high true

  abbrev Same : Reading → Tree → Token → List Pair → ListItem → Type 0
  Same a n to P = λ item. (item_fits (defined true) item a ≡ true) × (Rattle.recursive_descent.specs.Soundness.read_as a item.node ≡ n) × (is_rest (kind_of n) ≡ false → may_trail item a ≡ true) × EndsWith s e old new to P

  module _ (x : CursorState) (word : ReadsHere s.text IdentifierName (codes "static") s.last x.last) (text_x : x.text ≡ s.text) where
    opened_there : Sees s.text Punctuator (codes "{") x.last
    opened_there = subst (λ z. Sees s.text Punctuator (codes "{") z) (words_same s.text begins.1.1 word).1 begins.1.2

    pub block_no_brace : (answer : Result ListItem Fault) (fault : Fault) → IsErrAnd answer (λ z. z ≡ fault) → Misses x.text Punctuator (codes "{") x.last → Whole answer
    block_no_brace answer fault err missed = λ a o r n to P has it d ends own. absurd (not_missed (subst (λ z. Misses z Punctuator (codes "{") x.last) text_x missed) opened_there.1)

    module _ (y : CursorState) (opens : ReadsHere x.text Punctuator (codes "{") x.last y.last) (text_y : y.text ≡ s.text) (z : CursorState) (mid next : List Pair) (c : StatementContext) (is_item : c.is_item ≡ true) (returns : c.returns ≡ false) (is_prologue : c.is_prologue ≡ false) where
      record Items (o levels : ℕ) (to : Token) : Type 0 where
        parts : Parts
        last : Token
        pairs : List Pair
        low : suc (parts_height parts) ≤ levels
        runs : RunsIn y.text o (anywhere (prologue c.returns c.is_prologue [] [] parts)) parts y.last last pairs
        closes : ReadsHere s.text Punctuator (codes "}") last to
        ends_there : SeesBy y.text Div (ends until.ClosingBrace) last
        own : AllOfLanguage y.text parts

      items : {o levels : ℕ} {to : Token} → BlockGiven s.text o levels s.last to → Items o levels to
      items {o} {levels} {to} v =
          let at_x : v.word ≡ x.last = (words_same s.text v.reads word).1 in
          let at_y : v.mid ≡ y.last = (marks_same s.text (subst (λ q. ReadsHere s.text Punctuator (codes "{") q v.mid) at_x v.opens) (subst (λ q. ReadsHere q Punctuator (codes "{") x.last y.last) text_x opens)).1 in
          record {
            parts = v.parts;
            last = v.last;
            pairs = v.pairs;
            low = v.low;
            runs = subst (λ q. RunsIn q o (anywhere (prologue c.returns c.is_prologue [] [] v.parts)) v.parts y.last v.last v.pairs) (sym text_y) (subst (λ q. RunsIn s.text o (anywhere q) v.parts y.last v.last v.pairs) (λ i. prologue (sym returns i) (sym is_prologue i) [] [] v.parts) (subst (λ q. RunsIn s.text o (anywhere (prologue false false [] [] v.parts)) v.parts q v.last v.pairs) at_y v.runs));
            closes = v.closes;
            ends_there = subst (λ q. SeesBy q Div (ends until.ClosingBrace) v.last) (sym text_y) (to, (mark_by s.text v.closes, (λ i. is_mark (codes "}") (record (behind_in s.text to) { class = v.closes.class i; text = v.closes.text i }))));
            own = subst (λ q. AllOfLanguage q v.parts) (sym text_y) v.own;
          }

      given_items : (a : Reading) {r : Role} {o : ℕ} (n : Tree) {to : Token} {P : List Pair} → has_reading (defined true) a ≡ true → item_role (defined true) a (kind_of n) ≡ Some r → SpellsIn s.text o r n s.last to P → DefinitionEnds s.text true to → OfLanguage s.text n → (a ≡ as_expression) × Items o (height n) to
      given_items a n has it d ends own = let u = block_given s.text begins (definition_given s.text true a n has it d ends own) in (u.reading, items u.block)

      pub static_items_refused : {inner : ℕ} (answer : Result ListItem Fault) (fault : Fault) → IsErrAnd answer (λ q. q ≡ fault) → inner ≡ high - 1 → y.opened ≡ s.opened → StatementsComplete y z mid next inner until.ClosingBrace c (Err fault) → Whole answer
      static_items_refused {inner} answer fault err inner_is opened complete = λ a o r n to P has it d ends own.
          let v = (given_items a n has it d ends own).1 in
          let low = v.low in
          agrees_on (Room y o (parts_height v.parts) inner) (Room s o (height n) high) (Same a n to P) answer fault err (complete v.parts o v.last v.pairs is_item v.runs v.ends_there v.own)
          (λ room. (subst (λ q. o ≤ max_open - q) (sym opened) room.0, (let within : height n ≤ high = room.1 in omega arith)))

      module _ (inner : ℕ) (nodes : Parts) (read : StatementsComplete y z mid next inner until.ClosingBrace c (Ok nodes)) (text_z : z.text ≡ s.text) where
        pub block_made : (tree : Tree) {st en : ℕ} (answer : Result ListItem Fault) (fault : Fault) → IsErrAnd answer (λ q. q ≡ fault) → tree ≡ node StaticBlock [] plain st en nodes → Makes tree high (Err fault) → Whole answer
        block_made tree {st} {en} answer fault err tree_is makes = λ a o r n to P has it d ends own.
            let v = (given_items a n has it d ends own).1 in
            let w = read v.parts o v.last v.pairs is_item v.runs v.ends_there v.own in
            let low = v.low in
            let tall : height tree ≡ height (node StaticBlock [] plain st en nodes) = ap height tree_is in
            let same : parts_height nodes ≡ parts_height v.parts = ap parts_height w.0 in
            agrees_err (Room s o (height n) high) (Same a n to P) answer fault err (refuses_made (Room s o (height n) high) tree high fault makes (λ room. (let within : height n ≤ high = room.1 in omega arith)))

        pub block_answered : (item : ListItem) → Adds s e old new (ItemReads s.text (defined true) item) → item ≡ field_item item.node → ReadsHere z.text Punctuator (codes "}") z.last e.last → Whole (Ok item)
        block_answered item adds is_plain closes = λ a o r n to P has it d ends own.
            let u = given_items a n has it d ends own in
            let v = u.1 in
            let w = read v.parts o v.last v.pairs is_item v.runs v.ends_there v.own in
            let place : e.last ≡ to = (marks_same s.text (subst (λ q. ReadsHere q Punctuator (codes "}") z.last e.last) text_z closes) (subst (λ q. ReadsHere s.text Punctuator (codes "}") q to) (sym w.1.place) v.closes)).1 in
            answered s e old new high true a n has it d ends item adds (fits_there a u.0) (λ k. trail a u.0) place
          where
            fits_there : (a : Reading) → a ≡ as_expression → item_fits (defined true) item a ≡ true
            fits_there as_expression k = ap (λ (i : ListItem). cond i.spreads (fits_rest listed.Members i.shape as_expression) (fits_as i.shape as_expression)) is_plain
            fits_there (as_pattern b) k = cc

            trail : (a : Reading) → a ≡ as_expression → may_trail item a ≡ true
            trail as_expression k = refl
            trail (as_pattern b) k = cc
