-- Given properties of objects and members of classes, by their names and what stands behind these (ECMA-262 12.2.6, 12.15.5, 14.3, 14.6).
use Rattle.std.proofs.Common.{◌≡◌, inl, inr, ℕ, suc, ◌≤◌, Bool, true, false, cond, List, [], ◌∷◌, refl, sym, ap, ◌∙◌, subst, arith}
use Rattle.std.specs.Prelude.{Option, Some, codes, not, ◌&&◌, ◌||◌}
use Rattle.std.proofs.lemmas.List.{append-nil}
use Rattle.std.proofs.lemmas.Bool.{false≢true, true≢false}
use Rattle.std.proofs.lemmas.Option.{none-some, same_Some}
use Rattle.tokens.specs.declared.token.TokenClass.TheVariants.{IdentifierName, Punctuator}
use Rattle.tokens.specs.declared.token.Goal.TheVariants.{Div}
use Rattle.tree.specs.declared.kind.Kind.{Kind}
use Rattle.tree.specs.declared.kind.Kind.TheVariants.{Identifier, MemberExpression, ArrayPattern, ObjectPattern, FunctionExpression, Property, SpreadElement, RestElement, AssignmentPattern, PropertyDefinition, StaticBlock}
use Rattle.tree.specs.declared.kind.Flags.{Flags}
use Rattle.tree.specs.declared.kind.Form.{Form}
use Rattle.tree.specs.declared.kind.Form.TheVariants.{Get, Set, Method, Init, Shorthand, Constructor, Generator, Async, AsyncGenerator}
use Rattle.tree.specs.declared.kind.Pair.{Pair}
use Rattle.tree.specs.Tree.{Tree, node, plain, Parts, part, gap, none, bare, bare_parts, kind_of, text_of, height, parts_height}
use Rattle.language.specs.Vocabulary.{is_target as is_simple, is_pattern as is_pattern_kind, is_rest, is_identifier}
use Rattle.language.specs.Languages.{is_of_2022}
use Rattle.language.specs.Later.{is_later_form}
use Rattle.language.specs.Statements.{key_word, prologue}
use Rattle.language.specs.Pieces.{Role, name, key, element, method, member, property, bound, with_default, absent, sign, sp, put, put_at, nothing, Ending, ending, behind_key}
use Rattle.language.specs.Expressions.{methods}
use Rattle.language.specs.Token.{Token}
use Rattle.language.specs.Covers.{Reading, as_expression, as_pattern, property_as}
use Rattle.language.specs.Derivation.{Reads, Step, explicit, implicit, done, step, missing, token, laid, within}
use Rattle.language.proofs.statements.Blocks.{method_pieces, one_method, method_flags}
use Rattle.language.proofs.covers.CoverElements.{bound_defaults, BoundForm, a_pattern, a_simple, a_name as name_simple, a_target, Defaulted, default_core}
use Rattle.language.proofs.covers.CoverKeys.{key_at_sign, name_key, echo_form}
use Rattle.language.proofs.covers.CoverProperties.{KeyAt, plain_key, accessor_word, flags_as, Valued, Short, Called, PropertyAt, by_value, by_name, by_method, by_star, by_async, by_async_star, by_accessor, PatternPropertyAt, with_value, with_name, with_element, property_at, pattern_property_at}
use Rattle.language.proofs.covers.CoverReadings.{name_or_sign, named_unbracketed}
use Rattle.language.proofs.covers.CoverSpreads.{spread_form, rest_form}
use Rattle.language.proofs.table.PropertyNameWays.{is_accessor}
use Rattle.language.proofs.table.KindViews.{InObject, a_spread, a_property, in_object, InPattern, a_rest, a_property_there, in_pattern}
use Rattle.language.proofs.climbing.Leaves.{name_form}
use Rattle.language.proofs.table.OneKind.{one_kind}
use Rattle.language.proofs.table.SoleWays.{Anyhow}
use Rattle.token_cursor.proofs.SeenTokens.{seen_determined}
use Rattle.unambiguity_laws.proofs.Steps.{steps}
use Rattle.unambiguity_laws.proofs.TiedSteps.{unique}
use Rattle.unambiguity_laws.proofs.list_items.MemberForms as Members
use Rattle.unambiguity_laws.proofs.list_items.MemberEnds.{ends_sign}
use Rattle.unambiguity_laws.proofs.list_items.PropertyForms.{starred, asynchronous, both_modify}
use Rattle.covers.specs.declared.list.ListItem.{ListItem}
use Rattle.parser_tables.specs.declared.functions_and_classes.FunctionOrClass.TheVariants as closure
use Rattle.recursive_descent.specs.Soundness.{RunsIn, anywhere, read_as}
use Rattle.recursive_descent.specs.SoundnessOfLists.{ItemReads, defined, has_reading, item_role, item_fits, is_called}
use Rattle.recursive_descent.specs.SoundnessOfStatements.{closure_pieces, pieces_of, method_form}
use Rattle.recursive_descent.specs.CompletenessOfLists.{CommaOr, DefinitionEnds}
use Rattle.recursive_descent.specs.CompletenessOfProperties.{AccessGiven, gets, sets, a_star, async_word, async_star, neither, WordsGiven, not_static, static, NamedAt, a_key, a_private, NameGiven, names_more, value_as, ValueGiven, a_value, a_name, a_default}
use Rattle.recursive_descent.specs.Later.{field_pieces}
use Rattle.token_cursor.specs.Seen.{ReadsHere, Sees, Misses, MissesBy, is_free_name}
use Rattle.recursive_descent.proofs.complete_expressions.Agreement.{read_here}
use Rattle.recursive_descent.proofs.complete_properties.MemberEndings.{of_2022, function_language, private_language, member_ends, field_last, sign_last}
use Rattle.recursive_descent.proofs.complete_properties.NamesGiven.{key_sign}
use Rattle.recursive_descent.proofs.complete_statements.BlocksGiven.{items_given}
use Rattle.recursive_descent.proofs.reading.LanguageTrees.{kind_of_language, parts_of_language, first_of_language, others_of_language}
use Rattle.recursive_descent.proofs.reading.OnlyDerivation.{alike}
use Rattle.recursive_descent.proofs.sound_properties.Methods.{methods_bare}
use Rattle.recursive_descent.proofs.complete_properties.ValuesGiven.{separated_there}
use Rattle.token_cursor.specs.SourceText.{SourceText, SeenNext, behind_in}
use Rattle.recursive_descent.specs.Spelled.{SpellsIn, OfLanguage, AllOfLanguage}

some_same : {a b : Role} → Some a ≡ Some b → a ≡ b
some_same {a} {b} e = same_Some a b e

-- the word that a key is doesn't depend on places
word_bare : (c : Bool) (k : Tree) → key_word c (bare k) ≡ key_word c k
word_bare c (node k w g st en ps) = refl

-- the pieces of a method's function are those of its one way
pieces_same : (f : Form) (ps : Parts) → is_called f ≡ true → method_pieces f ps ≡ pieces_of (methods f ps)
pieces_same Get none h = refl
pieces_same Get (part n ps) h = refl
pieces_same Get (gap none) h = refl
pieces_same Get (gap (gap ps)) h = refl
pieces_same Get (gap (part b none)) h = refl
pieces_same Get (gap (part b (part c ps))) h = refl
pieces_same Get (gap (part b (gap ps))) h = refl
pieces_same Set none h = refl
pieces_same Set (part n ps) h = refl
pieces_same Set (gap none) h = refl
pieces_same Set (gap (gap ps)) h = refl
pieces_same Set (gap (part n none)) h = refl
pieces_same Set (gap (part n (gap ps))) h = refl
pieces_same Set (gap (part n (part b none))) h = of (is_rest (kind_of n))
  where
    of : (c : Bool) → cond c nothing (absent ∷ sign "(" ∷ put_at (with_default true (kind_of n)) ∷ sign ")" ∷ sp ∷ put Rattle.language.specs.Pieces.body ∷ []) ≡ pieces_of (cond c [] (Rattle.language.specs.Pieces.only (absent ∷ sign "(" ∷ put_at (with_default true (kind_of n)) ∷ sign ")" ∷ sp ∷ put Rattle.language.specs.Pieces.body ∷ [])))
    of true = refl
    of false = refl
pieces_same Set (gap (part n (part b (part c ps)))) h = refl
pieces_same Set (gap (part n (part b (gap ps)))) h = refl
pieces_same Method none h = refl
pieces_same Method (part n ps) h = refl
pieces_same Method (gap ps) h = refl
pieces_same Generator none h = refl
pieces_same Generator (part n ps) h = refl
pieces_same Generator (gap ps) h = refl
pieces_same Async none h = refl
pieces_same Async (part n ps) h = refl
pieces_same Async (gap ps) h = refl
pieces_same AsyncGenerator none h = refl
pieces_same AsyncGenerator (part n ps) h = refl
pieces_same AsyncGenerator (gap ps) h = refl
pieces_same Init ps h = absurd (false≢true h)
pieces_same Shorthand ps h = absurd (false≢true h)
pieces_same Constructor ps h = absurd (false≢true h)

methods_same : (f : Form) (ps : Parts) → is_called f ≡ true → methods f ps ≡ methods (method_form f) ps
methods_same Get ps h = refl
methods_same Set ps h = refl
methods_same Method ps h = refl
methods_same Generator none h = refl
methods_same Generator (part n ps) h = refl
methods_same Generator (gap ps) h = refl
methods_same Async none h = refl
methods_same Async (part n ps) h = refl
methods_same Async (gap ps) h = refl
methods_same AsyncGenerator none h = refl
methods_same AsyncGenerator (part n ps) h = refl
methods_same AsyncGenerator (gap ps) h = refl
methods_same Init ps h = absurd (false≢true h)
methods_same Shorthand ps h = absurd (false≢true h)
methods_same Constructor ps h = absurd (false≢true h)

accessor_called : (f : Form) → is_accessor f ≡ true → is_called f ≡ true
accessor_called Get h = refl
accessor_called Set h = refl
accessor_called _ h = absurd (false≢true h)

module _ (text : SourceText) where
  abbrev Key_ : ℕ → Tree → Token → Token → List Pair → Bool → Type 0
  Key_ = KeyAt Token (SeenNext text) (behind_in text) (seen_determined text)

  abbrev Sign : List ℕ → Token → Token → Token → Type 0
  Sign = Reads Token (SeenNext text) (behind_in text) Punctuator

  -- the function of a method, as its parts
  pub record FunctionGiven (o levels : ℕ) (f : Form) (s e : Token) : Type 0 where
    pub parts : Parts
    pub pairs : List Pair
    pub low : suc (suc (parts_height parts)) ≤ levels
    pub runs : RunsIn text o (anywhere (closure_pieces (closure.Method f) parts)) parts s e pairs
    pub opens : Sees text Punctuator (codes "(") s
    pub own : AllOfLanguage text parts

  function_given : (f : Form) {o levels : ℕ} {n : Tree} {s e t x : Token} {P : List Pair} → is_called f ≡ true → suc (height n) ≤ levels → Sign (codes "(") s t x → SpellsIn text o (method f) n s e P → OfLanguage text n → FunctionGiven o levels f s e
  function_given f {o} {levels} {n} {s} {e} {t} {x} {P} called low opens d own =
      let w = (one_kind Token (SeenNext text) (behind_in text) (seen_determined text) {Fine = Anyhow} (one_method f)).told d tt in
      let tall : height n ≡ height (node FunctionExpression [] (method_flags f) w.st w.en w.parts) = ap height w.tree in
      record {
        parts = w.parts;
        pairs = P;
        low = omega arith;
        runs = subst (λ qs. RunsIn text o (anywhere qs) w.parts s e P) (pieces_same f (bare_parts w.parts) called ∙ ap pieces_of (methods_bare f w.parts called) ∙ ap pieces_of (methods_same f w.parts called)) w.runs;
        opens = (x, read_here text opens);
        own = parts_of_language (subst (λ z. OfLanguage text z) w.tree own);
      }

  -- a field from behind its key on, and what may follow it
  pub record FieldGiven (is_static computed : Bool) (k : Tree) (o levels : ℕ) (s e : Token) : Type 0 where
    pub value : Parts
    pub pairs : List Pair
    pub low : suc (parts_height value) ≤ levels
    pub runs : RunsIn text o (anywhere (field_pieces (key_word computed k) is_static value)) value s e pairs
    pub own : AllOfLanguage text value
    pub ends : DefinitionEnds text true e
    pub quiet : Misses text Punctuator (codes "(") s

  -- What stands behind a key: a function, or what is no method.
  pub data BehindGiven (in_class is_static computed : Bool) (k : Tree) (a : Reading) (o levels : ℕ) (s e : Token) : Form → Type 0 where
    a_function : {f : Form} → a ≡ as_expression → FunctionGiven o levels f s e → BehindGiven in_class is_static computed k a o levels s e f
    no_method : in_class ≡ false → Misses text Punctuator (codes "(") s → ValueGiven text computed a o levels s e → BehindGiven in_class is_static computed k a o levels s e Method
    a_field : in_class ≡ true → is_of_2022 text.language ≡ true → a ≡ as_expression → FieldGiven is_static computed k o levels s e → BehindGiven in_class is_static computed k a o levels s e Method

  -- a static block: its items between the braces
  pub record BlockGiven (o levels : ℕ) (s e : Token) : Type 0 where
    pub parts : Parts
    pub word : Token
    pub mid : Token
    pub last : Token
    pub pairs : List Pair
    pub low : suc (parts_height parts) ≤ levels
    pub reads : ReadsHere text IdentifierName (codes "static") s word
    pub opens : ReadsHere text Punctuator (codes "{") word mid
    pub runs : RunsIn text o (anywhere (prologue false false [] [] parts)) parts mid last pairs
    pub closes : ReadsHere text Punctuator (codes "}") last e
    pub own : AllOfLanguage text parts

  -- A property or a member: a key and what stands behind it, or a static block; behind `...` a value, which in a pattern is a name or a member.
  pub data DefinitionGiven (in_class : Bool) (a : Reading) (o levels : ℕ) (s e : Token) : Type 0 where
    dotted : {r : Role} {n : Tree} {m : Token} {P : List Pair} → in_class ≡ false → ReadsHere text Punctuator (codes "...") s m → suc (height n) ≤ levels → value_as a n ≡ Some r → SpellsIn text o r n m e P → OfLanguage text n → ((b : Bool) → a ≡ as_pattern b → is_simple (kind_of n) ≡ true) → CommaOr text (codes "}") e → DefinitionGiven in_class a o levels s e
    keyed : {b c : Bool} {f : Form} {k : Tree} {m : Token} {P : List Pair} → Misses text Punctuator (codes "...") s → suc (height k) ≤ levels → OfLanguage text k → NameGiven text in_class b f c o k s m P → BehindGiven in_class b c k a o levels m e f → DefinitionGiven in_class a o levels s e
    a_block : in_class ≡ true → is_of_2022 text.language ≡ true → a ≡ as_expression → BlockGiven o levels s e → DefinitionGiven in_class a o levels s e

  -- behind a comma or the brace no word goes on
  comma_last : {s : Token} (x : Bool) (w : List ℕ) → CommaOr text (codes "}") s → MissesBy text Div (names_more text x w) s
  comma_last x w (inl r) = sign_last text x w refl r.1
  comma_last x w (inr r) = sign_last text x w refl r.1

  no_dots_key : {c : Bool} {o : ℕ} {k : Tree} {s e : Token} {P : List Pair} → Key_ o k s e P c → Misses text Punctuator (codes "...") s
  no_dots_key d t e r = key_at_sign Token (SeenNext text) (behind_in text) (seen_determined text) refl refl (λ h. false≢true (sym (ap (λ w. Rattle.language.specs.Vocabulary.is w "...") h))) d r

  no_dots_word : {w : List ℕ} {s t e : Token} → Reads Token (SeenNext text) (behind_in text) IdentifierName w s t e → Misses text Punctuator (codes "...") s
  no_dots_word r u k d = name_or_sign Token (SeenNext text) (behind_in text) (seen_determined text) refl r d

  other_sign : {w v : List ℕ} {s t e : Token} (x : List ℕ → Bool) → x w ≡ true → x v ≡ false → Sign w s t e → Misses text Punctuator v s
  other_sign x h k r u m q = false≢true (sym k ∙ ap x (sym q.text ∙ ap (λ (z : Token). z.text) (Rattle.recursive_descent.proofs.complete_expressions.Agreement.marks_same text q r).0 ∙ r.text) ∙ h)

  comma_calls : {s : Token} → CommaOr text (codes "}") s → Misses text Punctuator (codes "(") s
  comma_calls (inl r) = other_sign (λ w. Rattle.language.specs.Vocabulary.is w ",") refl refl r.1
  comma_calls (inr r) = other_sign (λ w. Rattle.language.specs.Vocabulary.is w "}") refl refl r.1

  no_words : {in_class : Bool} {s : Token} → WordsGiven text in_class s s false Method
  no_words = not_static (neither refl)

  -- one token of a name, behind which the place is
  name_token : {o : ℕ} {n : Tree} {s e : Token} {P : List Pair} → SpellsIn text o name n s e P → ((behind_in text e).class ≡ IdentifierName) × (is_free_name e.text ≡ true)
  name_token {s = s} {e = e} d =
      let u = name_form Token (SeenNext text) (behind_in text) (seen_determined text) d in
      let same : u.0.sign ≡ behind_in text e = sym ((seen_determined text).last s u.0.sign e u.0.reads.next) in
      (sym (ap (λ (t : Token). t.class) same) ∙ u.0.reads.class, ap is_free_name (sym (ap (λ (t : Token). t.text) same) ∙ u.0.reads.text) ∙ ap Rattle.std.specs.Prelude.not u.1)

  -- the two parts of a property are of the language
  parts_own : {n k v : Tree} {c : Kind} {w : List ℕ} {g : Flags} {st en : ℕ} → n ≡ node c w g st en (part k (part v none)) → OfLanguage text n → OfLanguage text k × OfLanguage text v
  parts_own is own = let ps = parts_of_language (subst (λ z. OfLanguage text z) is own) in (first_of_language ps, first_of_language (others_of_language ps))

  module _ {a : Reading} {o : ℕ} {n : Tree} {s e : Token} {P : List Pair} (own : OfLanguage text n) (ends : CommaOr text (codes "}") e) where
    of_value : {r : Kind → Option Role} → (v : Valued Token (SeenNext text) (behind_in text) (seen_determined text) r o n s e P) → value_as a v.value ≡ Some v.role → DefinitionGiven false a o (height n) s e
    of_value v it =
        let tall : height n ≡ height (node Property [] (flags_as v.computed Init) v.st v.en (part v.name (part v.value none))) = ap height v.tree in
        keyed (no_dots_key v.key) (omega arith) (parts_own v.tree own).0 (record { mid = s; words = no_words; key = a_key v.key; last = λ h l. sign_last text false (text_of v.name) refl v.reads })
        (no_method refl (other_sign (λ w. Rattle.language.specs.Vocabulary.is w ":") refl refl v.reads) (a_value (read_here text v.reads) (omega arith) it v.spelled (parts_own v.tree own).1 ends))

    of_name : Short Token (SeenNext text) (behind_in text) (seen_determined text) name o n s e P → DefinitionGiven false a o (height n) s e
    of_name v =
        let tall : height n ≡ height (node Property [] (flags_as false Shorthand) v.st v.en (part v.key (part v.value none))) = ap height v.tree in
        let some = low_one v.value in
        let there = subst (λ z. SpellsIn text o name v.value z e v.more) (sym (echo_form Token (SeenNext text) (behind_in text) (seen_determined text) v.echoes).place) v.spelled in
        let key_there : Key_ o v.value s e v.more false = plain_key (name_key Token (SeenNext text) (behind_in text) (seen_determined text) there) in
        let t = name_token there in
        keyed (no_dots_key key_there) (omega arith) (parts_own v.tree own).1 (record { mid = s; words = no_words; key = a_key key_there; last = λ h l. comma_last false (text_of v.value) ends }) (no_method refl (comma_calls ends) (a_name refl t.0 t.1 (omega arith) refl ends))
      where
        low_one : (n : Tree) → 1 ≤ height n
        low_one (node k w g s e ps) = omega arith

    of_element : {b : Bool} → a ≡ as_pattern b → Short Token (SeenNext text) (behind_in text) (seen_determined text) (element true) o n s e P → DefinitionGiven false a o (height n) s e
    of_element {b} reading v = of core core.stands
      where
        low_one : (n : Tree) → 1 ≤ height n
        low_one (node k w g s e ps) = omega arith

        core : Defaulted Token (SeenNext text) (behind_in text) (seen_determined text) (BoundForm Token (SeenNext text) (behind_in text) (seen_determined text) true) o v.value s e v.more
        core = default_core Token (SeenNext text) (behind_in text) (seen_determined text) true (subst (λ z. SpellsIn text o (element true) v.value z e v.more) (sym (echo_form Token (SeenNext text) (behind_in text) (seen_determined text) v.echoes).place) v.spelled)

        of : (z : Defaulted Token (SeenNext text) (behind_in text) (seen_determined text) (BoundForm Token (SeenNext text) (behind_in text) (seen_determined text) true) o v.value s e v.more) → BoundForm Token (SeenNext text) (behind_in text) (seen_determined text) true o z.left s z.mid z.one → DefinitionGiven false a o (height n) s e
        of z (a_pattern p) = absurd ((named_unbracketed Token (SeenNext text) (behind_in text) (seen_determined text) (echo_form Token (SeenNext text) (behind_in text) (seen_determined text) v.echoes).reads).nothing o z.mid z.left z.one p)
        of z (a_simple (a_target c k p)) = absurd (true≢false c)
        of z (a_simple (name_simple c p)) =
            let outer : height n ≡ height (node Property [] (flags_as false Shorthand) v.st v.en (part v.key (part v.value none))) = ap height v.tree in
            let inner : height v.value ≡ height (node AssignmentPattern [] plain z.st z.en (part z.left (part z.right none))) = ap height z.tree in
            let some = low_one z.left in
            let key_there : Key_ o z.left s z.mid z.one false = plain_key (name_key Token (SeenNext text) (behind_in text) (seen_determined text) p) in
            let t = name_token p in
            let owned = parts_own z.tree (parts_own v.tree own).1 in
            keyed (no_dots_key key_there) (omega arith) owned.0 (record { mid = s; words = no_words; key = a_key key_there; last = λ h l. sign_last text false (text_of z.left) refl z.reads })
            (no_method refl (other_sign (λ w. Rattle.language.specs.Vocabulary.is w "=") refl refl z.reads) (a_default reading refl t.0 t.1 (omega arith) (read_here text z.reads) (omega arith) z.value owned.1 ends))

  of_called : {in_class b : Bool} {a : Reading} {o levels : ℕ} {k u : Tree} {c : Bool} {f : Form} {s z m x e t : Token} {A B : List Pair} → a ≡ as_expression → is_called f ≡ true → WordsGiven text in_class s z b f → Misses text Punctuator (codes "...") s → NamedAt text in_class o k z m A c →
      Sign (codes "(") m t x → SpellsIn text o (method f) u m e B → OfLanguage text k × OfLanguage text u → suc (height k) ≤ levels → suc (height u) ≤ levels → DefinitionGiven in_class a o levels s e
  of_called {in_class} {b} {k = k} {f = f} {z = z} reading called words none_there at_key r d own low1 low2 = keyed none_there low1 own.0 (record { mid = z; words = words; key = at_key; last = λ h l. sign_last text (in_class && not b) (text_of k) refl r }) (a_function reading (function_given f called low2 r d own.1))

  access_words : (f : Form) {s t z : Token} → is_accessor f ≡ true → Reads Token (SeenNext text) (behind_in text) IdentifierName (accessor_word f) s t z → AccessGiven text s z f
  access_words Get h r = gets (read_here text r)
  access_words Set h r = sets (read_here text r)
  access_words _ h r = absurd (false≢true h)

  -- a method of an object
  of_method : {y f : Form} {o : ℕ} {n : Tree} {s z e : Token} {P : List Pair} → OfLanguage text n → is_called y ≡ true → AccessGiven text s z y → Misses text Punctuator (codes "...") s → Called Token (SeenNext text) (behind_in text) (seen_determined text) f y o n s z e P → DefinitionGiven false as_expression o (height n) s e
  of_method {y} {f} {n = n} own called words dots v =
      let tall : height n ≡ height (node Property [] (flags_as v.computed f) v.st v.en (part v.name (part v.function none))) = ap height v.tree in
      of_called refl called (not_static words) dots (a_key v.key) v.reads v.spelled (parts_own v.tree own) (omega arith) (omega arith)

  no_dots_star : {s t e : Token} → Sign (codes "*") s t e → Misses text Punctuator (codes "...") s
  no_dots_star r = other_sign (λ w. Rattle.language.specs.Vocabulary.is w "*") refl refl r

  of_property : {o : ℕ} {n : Tree} {s e : Token} {P : List Pair} → OfLanguage text n → CommaOr text (codes "}") e → PropertyAt Token (SeenNext text) (behind_in text) (seen_determined text) o n s e P → DefinitionGiven false as_expression o (height n) s e
  of_property own ends (by_value v) = of_value own ends v v.it_is
  of_property own ends (by_name v) = of_name own ends v
  of_property own ends (by_method v) = of_method own refl (neither refl) (no_dots_key v.key) v
  of_property own ends (by_star star v) = of_method own refl (a_star (function_language text Generator v.spelled (parts_own v.tree own).1 refl) (read_here text star)) (no_dots_star star) v
  of_property own ends (by_async {k = k} {v = t} word nx line v) = of_method own refl (async_word (function_language text Async v.spelled (parts_own v.tree own).1 refl) (read_here text word) (t, k, nx, line)) (no_dots_word word) v
  of_property own ends (by_async_star {k = k} {v = t} word star line v) = of_method own refl (async_star (function_language text AsyncGenerator v.spelled (parts_own v.tree own).1 refl) (read_here text word) (t, k, star.next, line) (read_here text star)) (no_dots_word word) v
  of_property own ends (by_accessor f h word v) = of_method own (accessor_called f h) (access_words f h word) (no_dots_word word) v

  of_pattern : (b : Bool) {o : ℕ} {n : Tree} {s e : Token} {P : List Pair} → OfLanguage text n → CommaOr text (codes "}") e → PatternPropertyAt Token (SeenNext text) (behind_in text) (seen_determined text) b o n s e P → DefinitionGiven false (as_pattern b) o (height n) s e
  of_pattern b own ends (with_value v) = of_value own ends v v.it_is
  of_pattern b own ends (with_name v) = of_name own ends v
  of_pattern b own ends (with_element v) = of_element own ends refl v

  pattern_no_expression : (b : Bool) → as_expression ≡ as_pattern b → ⊥
  pattern_no_expression b h = cc

  bound_simple : (b : Bool) (k : Kind) {r : Role} → bound b k ≡ Some r → (true && is_pattern_kind k) ≡ false → is_simple k ≡ true
  bound_simple true Identifier h f = refl
  bound_simple false Identifier h f = refl
  bound_simple false MemberExpression h f = refl
  bound_simple true ArrayPattern h f = absurd (true≢false f)
  bound_simple true ObjectPattern h f = absurd (true≢false f)
  bound_simple true _ h f = absurd (none-some _ h)
  bound_simple false ArrayPattern h f = absurd (true≢false f)
  bound_simple false ObjectPattern h f = absurd (true≢false f)
  bound_simple false _ h f = absurd (none-some _ h)

  -- `...` and a value, in an object
  spread_given : {r : Role} {o : ℕ} {w : List ℕ} {g : Flags} {st en : ℕ} {ps : Parts} {s e : Token} {P : List Pair} → property_as as_expression SpreadElement ≡ Some r → SpellsIn text o r (node SpreadElement w g st en ps) s e P → OfLanguage text (node SpreadElement w g st en ps) → CommaOr text (codes "}") e → DefinitionGiven false as_expression o (height (node SpreadElement w g st en ps)) s e
  spread_given {o = o} {w} {g} {st} {en} {ps} {s} {e} {P} it d own ends =
      let v = spread_form Token (SeenNext text) (behind_in text) (seen_determined text) (subst (λ z. SpellsIn text o z (node SpreadElement w g st en ps) s e P) (sym (some_same it)) d) in
      let tall : height (node SpreadElement w g st en ps) ≡ height (node SpreadElement [] plain v.0.st v.0.en (part v.0.inner none)) = ap height v.0.tree in
      dotted refl (read_here text v.0.reads) (omega arith) refl (subst (λ c. SpellsIn text o c v.0.inner v.0.x e P) v.1 v.0.value) (first_of_language (parts_of_language (subst (λ z. OfLanguage text z) v.0.tree own))) (λ b h. absurd (pattern_no_expression b h)) ends

  -- `...` and what is assigned to, in a pattern
  rest_given : (b : Bool) {r : Role} {o : ℕ} {w : List ℕ} {g : Flags} {st en : ℕ} {ps : Parts} {s e : Token} {P : List Pair} → property_as (as_pattern b) RestElement ≡ Some r → SpellsIn text o r (node RestElement w g st en ps) s e P → OfLanguage text (node RestElement w g st en ps) → CommaOr text (codes "}") e → DefinitionGiven false (as_pattern b) o (height (node RestElement w g st en ps)) s e
  rest_given b {o = o} {w} {g} {st} {en} {ps} {s} {e} {P} it d own ends =
      let v = rest_form Token (SeenNext text) (behind_in text) (seen_determined text) (subst (λ z. SpellsIn text o z (node RestElement w g st en ps) s e P) (sym (some_same it)) d) in
      let tall : height (node RestElement w g st en ps) ≡ height (node RestElement [] plain v.dotted.st v.dotted.en (part v.dotted.inner none)) = ap height v.dotted.tree in
      dotted refl (read_here text v.dotted.reads) (omega arith) (bound_defaults b (kind_of v.dotted.inner) v.it_is) v.dotted.value (first_of_language (parts_of_language (subst (λ z. OfLanguage text z) v.dotted.tree own))) (λ c h. bound_simple b (kind_of v.dotted.inner) v.it_is v.fits) ends

  -- what stands in an object or its pattern
  object_given : (a : Reading) {r : Role} {o : ℕ} (n : Tree) {s e : Token} {P : List Pair} → property_as a (kind_of n) ≡ Some r → SpellsIn text o r n s e P → OfLanguage text n → CommaOr text (codes "}") e → DefinitionGiven false a o (height n) s e
  object_given as_expression {r} {o} (node k w g st en ps) {s} {e} {P} it d own ends = of (in_object k it) it d own
    where
      of : {k : Kind} → InObject k → property_as as_expression k ≡ Some r → SpellsIn text o r (node k w g st en ps) s e P → OfLanguage text (node k w g st en ps) → DefinitionGiven false as_expression o (height (node k w g st en ps)) s e
      of a_spread it d own = spread_given it d own ends
      of a_property it d own = of_property own ends (property_at Token (SeenNext text) (behind_in text) (seen_determined text) (subst (λ z. SpellsIn text o z (node Property w g st en ps) s e P) (sym (some_same it)) d))
  object_given (as_pattern b) {r} {o} (node k w g st en ps) {s} {e} {P} it d own ends = of (in_pattern b k it) it d own
    where
      of : {k : Kind} → InPattern k → property_as (as_pattern b) k ≡ Some r → SpellsIn text o r (node k w g st en ps) s e P → OfLanguage text (node k w g st en ps) → DefinitionGiven false (as_pattern b) o (height (node k w g st en ps)) s e
      of a_rest it d own = rest_given b it d own ends
      of a_property_there it d own = of_pattern b own ends (pattern_property_at Token (SeenNext text) (behind_in text) (seen_determined text) b (subst (λ z. SpellsIn text o z (node Property w g st en ps) s e P) (sym (some_same it)) d))

  -- the words before a member's key
  access_of : {s z : Token} {y : Form} → (is_later_form y ≡ true → is_of_2022 text.language ≡ true) → Members.MethodWords Token (SeenNext text) (behind_in text) (seen_determined text) s y z → AccessGiven text s z y
  access_of l Members.no_words = neither refl
  access_of l (Members.accessing f h r) = access_words f h r
  access_of l (Members.modifying (starred r)) = a_star (l refl) (read_here text r)
  access_of l (Members.modifying (asynchronous {k = k} {v = t} r nx line)) = async_word (l refl) (read_here text r) (t, k, nx, line)
  access_of l (Members.modifying (both_modify {z = k} {v = t} r star line)) = async_star (l refl) (read_here text r) (t, k, star.next, line) (read_here text star)

  words_of : {s x z : Token} {b : Bool} {y : Form} → (is_later_form y ≡ true → is_of_2022 text.language ≡ true) → Members.StaticWord Token (SeenNext text) (behind_in text) (seen_determined text) s b x → Members.MethodWords Token (SeenNext text) (behind_in text) (seen_determined text) x y z → WordsGiven text true s z b y
  words_of l (Members.with_static r) w = static refl (read_here text r) (access_of l w)
  words_of l Members.without_static w = not_static (access_of l w)

  words_called : {s z : Token} {y : Form} → Members.MethodWords Token (SeenNext text) (behind_in text) (seen_determined text) s y z → is_called y ≡ true
  words_called Members.no_words = refl
  words_called (Members.accessing f h r) = accessor_called f h
  words_called (Members.modifying (starred r)) = refl
  words_called (Members.modifying (asynchronous r nx line)) = refl
  words_called (Members.modifying (both_modify r star line)) = refl

  any_dots : {o : ℕ} {k : Tree} {s e : Token} {P : List Pair} {c : Bool} → NamedAt text true o k s e P c → Misses text Punctuator (codes "...") s
  any_dots k t e r = key_sign text {A = ⊥} refl refl (λ h. false≢true (sym (ap (λ w. Rattle.language.specs.Vocabulary.is w "...") h))) k r

  access_dots : {o : ℕ} {k : Tree} {s z e : Token} {y : Form} {P : List Pair} {c : Bool} → Members.MethodWords Token (SeenNext text) (behind_in text) (seen_determined text) s y z → NamedAt text true o k z e P c → Misses text Punctuator (codes "...") s
  access_dots Members.no_words k = any_dots k
  access_dots (Members.accessing f h r) k = no_dots_word r
  access_dots (Members.modifying (starred r)) k = no_dots_star r
  access_dots (Members.modifying (asynchronous r nx line)) k = no_dots_word r
  access_dots (Members.modifying (both_modify r star line)) k = no_dots_word r

  words_dots : {o : ℕ} {k : Tree} {s x z e : Token} {b : Bool} {y : Form} {P : List Pair} {c : Bool} → Members.StaticWord Token (SeenNext text) (behind_in text) (seen_determined text) s b x → Members.MethodWords Token (SeenNext text) (behind_in text) (seen_determined text) x y z → NamedAt text true o k z e P c → Misses text Punctuator (codes "...") s
  words_dots (Members.with_static r) w k = no_dots_word r
  words_dots Members.without_static w k = access_dots w k

  member_key : {o : ℕ} {k : Tree} {s e : Token} {P : List Pair} {c : Bool} → OfLanguage text k → Members.AnyKey Token (SeenNext text) (behind_in text) (seen_determined text) o k s e P c → NamedAt text true o k s e P c
  member_key own (Members.a_key k) = a_key k
  member_key own (Members.a_private d) = a_private refl (private_language text d own) d

  -- only a class of 2022 has fields
  field_language : {w : List ℕ} {g : Flags} {st en : ℕ} {ps : Parts} → OfLanguage text (node PropertyDefinition w g st en ps) → is_of_2022 text.language ≡ true
  field_language own = of_2022 text.language (λ b. false≢true (sym (kind_of_language own b)))

  -- no parenthesis is read where a member may end
  no_parenthesis : {s : Token} → DefinitionEnds text true s → Misses text Punctuator (codes "(") s
  no_parenthesis ends t e r = ends_sign Token (SeenNext text) (behind_in text) (seen_determined text) {A = ⊥} refl refl (member_ends text ends) r

  ended_quiet : {x : Ending} {s e : Token} → Step Token (SeenNext text) (behind_in text) (ending x) s e → DefinitionEnds text true e → Misses text Punctuator (codes "(") s
  ended_quiet (explicit r) ends = other_sign (λ w. Rattle.language.specs.Vocabulary.is w ";") refl refl r
  ended_quiet (implicit nx may) ends = no_parenthesis ends

  -- what stands behind a member's key
  module _ {o levels : ℕ} {b c : Bool} {k : Tree} {s x z m e : Token} {y : Form} {P : List Pair} (static_is : Members.StaticWord Token (SeenNext text) (behind_in text) (seen_determined text) s b x) (words : Members.MethodWords Token (SeenNext text) (behind_in text) (seen_determined text) x y z) (key_is : NamedAt text true o k z m P c) (low : suc (height k) ≤ levels)
      (own_key : OfLanguage text k) (ends : DefinitionEnds text true e) where
    by_field : {f : Form} → y ≡ f → f ≡ Method → is_of_2022 text.language ≡ true → (c ≡ false → is_identifier (kind_of k) ≡ true → MissesBy text Div (names_more text (not b) (text_of k)) m) → FieldGiven b c k o levels m e → DefinitionGiven true as_expression o levels s e
    by_field {f} y_is f_is l last field =
        let is : y ≡ Method = y_is ∙ f_is in
        keyed (words_dots static_is words key_is) low own_key (record { mid = z; words = subst (λ g. WordsGiven text true s z b g) is (words_of (λ h. l) static_is words); key = key_is; last = last }) (a_field refl l refl field)

    of_tail : {kind : Kind} {flags : Flags} {others : Parts} {Q : List Pair} → (kind ≡ PropertyDefinition → is_of_2022 text.language ≡ true) → AllOfLanguage text others → suc (parts_height others) ≤ levels →
        Members.Tail Token (SeenNext text) (behind_in text) (seen_determined text) y b c k o m e kind flags others Q → DefinitionGiven true as_expression o levels s e
    of_tail l own high (Members.called {v = v} r d) =
        of_called refl (words_called words) (words_of (function_language text y d (first_of_language own)) static_is words) (words_dots static_is words key_is) key_is r d (own_key, first_of_language own) low (omega arith)
    of_tail l own high (Members.alone is end) =
        let end' : Step Token (SeenNext text) (behind_in text) (ending (behind_key (key_word c k) b)) m e = subst (λ w. Step Token (SeenNext text) (behind_in text) (ending (behind_key w b)) m e) (word_bare c k) end in
        by_field refl is (l refl) (field_last text b c k end' ends)
        (record { value = gap none; pairs = []; low = high; runs = missing (step end' done); own = own; ends = ends; quiet = ended_quiet end ends })
    of_tail {Q = Q} l own high (Members.valued {v = v} is r d end) =
        by_field refl is (l refl) (λ h n. sign_last text (not b) (text_of k) refl r)
        (record { value = part v none; pairs = Q; low = high; runs = subst (λ z. RunsIn text o (anywhere (field_pieces (key_word c k) b (part v none))) (part v none) m e z) (append-nil Q) (step laid (step (token r) (step laid (within d (step end done))))); own = own; ends = ends; quiet = other_sign (λ w. Rattle.language.specs.Vocabulary.is w "=") refl refl r })

  class_given : {o : ℕ} (n : Tree) {s e : Token} {P : List Pair} → SpellsIn text o member n s e P → DefinitionEnds text true e → OfLanguage text n → DefinitionGiven true as_expression o (height n) s e
  class_given {o} n {s} {e} {P} d ends own = of (Members.member_seen Token (SeenNext text) (behind_in text) (seen_determined text) d)
    where
      of : Members.MemberSeen Token (SeenNext text) (behind_in text) (seen_determined text) o n s e P → DefinitionGiven true as_expression o (height n) s e
      of (Members.with_key v) =
          let tall : height n ≡ height (node v.kind [] v.flags v.st v.en (part v.left v.others)) = ap height v.tree in
          let whole = subst (λ z. OfLanguage text z) v.tree own in
          let parts = parts_of_language whole in
          of_tail v.static_is v.words (member_key (first_of_language parts) v.keyed) (omega arith) (first_of_language parts) ends (λ h. field_language (subst (λ k. OfLanguage text (node k [] v.flags v.st v.en (part v.left v.others))) h whole)) (others_of_language parts) (omega arith) v.tail
      of (Members.static_block v) =
          let tall : height n ≡ height (node StaticBlock [] plain v.st v.en v.parts) = ap height v.tree in
          let whole = subst (λ z. OfLanguage text z) v.tree own in
          let u = items_given text false v.parts v.runs in
          a_block refl (of_2022 text.language (λ b. false≢true (sym (kind_of_language whole b)))) refl
          (record { parts = v.parts; word = v.x; mid = v.mid; last = u.mid; pairs = P; low = omega arith; reads = read_here text v.word; opens = read_here text v.opens; runs = u.runs; closes = u.closes; own = parts_of_language whole })

  -- What is given of a definition is one of these.
  pub definition_given : (in_class : Bool) (a : Reading) {r : Role} {o : ℕ} (n : Tree) {s e : Token} {P : List Pair} → has_reading (defined in_class) a ≡ true → item_role (defined in_class) a (kind_of n) ≡ Some r → SpellsIn text o r n s e P → DefinitionEnds text in_class e → OfLanguage text n → DefinitionGiven in_class a o (height n) s e
  definition_given false a n has it d ends own = object_given a n it d own ends
  definition_given true as_expression {o = o} n {s} {e} {P} has it d ends own = class_given n (subst (λ z. SpellsIn text o z n s e P) (sym (some_same it)) d) ends own
  definition_given true (as_pattern b) n has it d ends own = absurd (false≢true has)

  -- what was read there, in the same reading, is the given one
  pub definition_same : (in_class : Bool) (a : Reading) {r : Role} {o o' : ℕ} (n : Tree) {s e : Token} {P Q : List Pair} → has_reading (defined in_class) a ≡ true → item_role (defined in_class) a (kind_of n) ≡ Some r → SpellsIn text o r n s e P → DefinitionEnds text in_class e →
      (it : ListItem) → ItemReads text (defined in_class) it o' s e Q → item_fits (defined in_class) it a ≡ true → (read_as a it.node ≡ n) × (Q ≡ P)
  definition_same false a {o' = o'} n {e = e} {Q = Q} has it d ends item reads fits =
      let u = unique Token (SeenNext text) (behind_in text) (seen_determined text) (alike text) (steps Token (SeenNext text) (behind_in text) (seen_determined text) (alike text)) (height n) in
      let v = reads.reads a has fits in
      let same = (u.property a (omega arith) it d (separated_there text ends)).only o' v.role e (read_as a item.node) Q v.it_is v.spelled (separated_there text ends) in
      (same.1, same.2)
  definition_same true as_expression {o = o} {o' = o'} n {s} {e} {P} {Q} has it d ends item reads fits =
      let u = unique Token (SeenNext text) (behind_in text) (seen_determined text) (alike text) (steps Token (SeenNext text) (behind_in text) (seen_determined text) (alike text)) (height n) in
      let v = reads.reads as_expression has fits in
      let same = (u.member (omega arith) (subst (λ z. SpellsIn text o z n s e P) (sym (some_same it)) d) (member_ends text ends)).only o' e item.node Q (subst (λ z. SpellsIn text o' z item.node s e Q) (sym (some_same v.it_is)) v.spelled) (member_ends text ends) in
      (same.1, same.2)
  definition_same true (as_pattern b) n has it d ends item reads fits = absurd (false≢true has)
