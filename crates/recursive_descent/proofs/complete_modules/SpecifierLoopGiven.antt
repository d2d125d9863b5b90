-- Given specifiers in their braces, as they are read one by one (ECMA-262, 13th edition, 16.2).
use Rattle.std.proofs.Common.{◌≡◌, ℕ, max, ◌≤◌, arith, Bool, true, false, List, [], Result, Ok, Err, refl, sym, ap, ◌∙◌, subst}
use Rattle.std.specs.Prelude.{codes}
use Rattle.std.specs.Result.{IsErrAnd}
use Rattle.std.proofs.lemmas.Bool.{false≢true}
use Rattle.source_text.specs.declared.fault.Fault.{Fault}
use Rattle.tokens.specs.declared.token.TokenClass.{TokenClass}
use Rattle.tokens.specs.declared.token.TokenClass.TheVariants.{IdentifierName, Punctuator}
use Rattle.tokens.specs.declared.token.Goal.TheVariants.{Div}
use Rattle.token_cursor.specs.CursorState.{CursorState}
use Rattle.tree.specs.declared.kind.Kind.{Kind}
use Rattle.tree.specs.declared.kind.Pair.{Pair}
use Rattle.tree.specs.Tree.{Tree, Parts, none, push, join, kind_of, height, parts_height}
use Rattle.tree.proofs.Shapes.{join-none, join-push}
use Rattle.language.specs.Pieces.{specifier}
use Rattle.language.specs.Token.{Token}
use Rattle.language.specs.Vocabulary.{is}
use Rattle.language.proofs.covers.CoverReadings.{name_or_sign}
use Rattle.token_cursor.specs.SourceText.{SourceText, SeenNext, behind_in}
use Rattle.token_cursor.specs.Seen.{ReadsHere, Sees, Misses}
use Rattle.token_cursor.proofs.SeenTokens.{seen_determined}
use Rattle.token_cursor.proofs.TokensAhead.{mark_by}
use Rattle.recursive_descent.specs.Spelled.{SpellsIn}
use Rattle.recursive_descent.specs.Completeness.{Agrees}
use Rattle.recursive_descent.specs.ModuleItems.{names_module, is_listed, NamesGiven, closing, one_more, last_one, SpecifierComplete, SpecifiersComplete}
use Rattle.recursive_descent.proofs.complete_expressions.Agreement.{agrees_on, marks_same, not_missed}
use Rattle.recursive_descent.proofs.complete_modules.NamesGiven.{TokenGiven, named_free}
use Rattle.recursive_descent.proofs.complete_modules.SpecifiersGiven.{first_token, specifier_form}

no_sign_names : names_module Punctuator ≡ true → ⊥
no_sign_names h = false≢true h

module _ (text : SourceText) where
  -- two signs at one place
  pub other_sign : {A : Type 0} {s e k : Token} (w : List ℕ) → is w "}" ≡ false → ReadsHere text Punctuator w s e → ReadsHere text Punctuator (codes "}") s k → A
  other_sign w other r brace = absurd (false≢true (sym other ∙ ap (λ w. is w "}") (sym r.text ∙ ap (λ (t : Token). t.text) (marks_same text r brace).0 ∙ brace.text)))

  -- no name stands where a sign does
  pub name_no_sign : {A : Type 0} {p : TokenClass → Bool} {n : Tree} {s e k : Token} {w : List ℕ} → ReadsHere text Punctuator w s k → TokenGiven text p n s e → A
  name_no_sign {s = s} {e} {k} r g =
      let det = seen_determined text in
      let same = (det.same Div s g.token (behind_in text k) e k g.next r.next (det.free Div s g.token e g.next (named_free g.token.class g.names)) (mark_by text r).allowed).0 in
      absurd (no_sign_names (sym (ap names_module (ap (λ (t : Token). t.class) same ∙ r.class)) ∙ g.names))

  pub no_specifier : {A : Type 0} {o : ℕ} (K : Kind) (n : Tree) {s e k : Token} {w : List ℕ} {P : List Pair} → ReadsHere text Punctuator w s k → is_listed K ≡ true → kind_of n ≡ K → SpellsIn text o specifier n s e P → A
  no_specifier {A} K n r listed its d = first_token text A (λ m x g. name_no_sign r g) (specifier_form text K n listed its d)

  -- no `as` stands where a sign does
  pub no_word : {v : List ℕ} {s k : Token} → ReadsHere text Punctuator (codes ",") s k → Misses text IdentifierName v s
  no_word r t e a = name_or_sign Token (SeenNext text) (behind_in text) (seen_determined text) refl a r

  pub no_word_brace : {v : List ℕ} {s k : Token} → ReadsHere text Punctuator (codes "}") s k → Misses text IdentifierName v s
  no_word_brace r t e a = name_or_sign Token (SeenNext text) (behind_in text) (seen_determined text) refl a r

  -- what is left of given ones behind those that were read
  pub record Left (kind : Kind) (high : ℕ) (before nodes ps : Parts) (a to : Token) : Type 0 where
    pub rest : Parts
    pub given : NamesGiven text kind rest a to
    pub parts : join before ps ≡ join nodes rest
    pub lower : parts_height ps ≤ high → parts_height rest ≤ high

  abbrev pub SpecifiersLeft : Kind → ℕ → Parts → Parts → Token → Token → Type 0
  SpecifiersLeft kind high before nodes s a = (ps : Parts) (x to : Token) → is_listed kind ≡ true → ReadsHere text Punctuator (codes "{") s x → NamesGiven text kind ps x to → Left kind high before nodes ps a to

  -- nothing is left but the brace
  abbrev pub BraceLeft : Kind → Parts → Parts → Token → Token → Type 0
  BraceLeft kind before nodes s a = (ps : Parts) (x to : Token) → is_listed kind ≡ true → ReadsHere text Punctuator (codes "{") s x → NamesGiven text kind ps x to → (nodes ≡ join before ps) × ReadsHere text Punctuator (codes "}") a to

  pub all_left : (kind : Kind) (high : ℕ) (before : Parts) {s m : Token} → ReadsHere text Punctuator (codes "{") s m → SpecifiersLeft kind high before before s m
  all_left kind high before {s} {m} brace ps x to listed here given = record { rest = ps; given = subst (λ c. NamesGiven text kind ps c to) (marks_same text here brace).1 given; parts = refl; lower = λ h. h }

module _ (s : CursorState) (kind : Kind) (high : ℕ) (before nodes : Parts) (a : Token) (left : SpecifiersLeft s.text kind high before nodes s.last a) where
  -- the brace stands there
  pub brace_left : Sees s.text Punctuator (codes "}") a → BraceLeft s.text kind before nodes s.last a
  brace_left (k, brace) ps x to listed here given = of l.rest l.given l.parts
    where
      l : Left s.text kind high before nodes ps a to
      l = left ps x to listed here given

      of : (rest : Parts) → NamesGiven s.text kind rest a to → join before ps ≡ join nodes rest → (nodes ≡ join before ps) × ReadsHere s.text Punctuator (codes "}") a to
      of _ (closing r) parts = (sym (parts ∙ join-none nodes), r)
      of _ (one_more {n = n} its d c g) parts = no_specifier s.text kind n brace listed its d
      of _ (last_one {n = n} its d c) parts = no_specifier s.text kind n brace listed its d

  module _ (open_there : Misses s.text Punctuator (codes "}") a) (b e : CursorState) (same : b.text ≡ s.text) (place : b.last ≡ a) where
    -- a specifier is refused
    pub specifier_refused : (z : CursorState) (after : Parts) (result : Result (Unit {0}) Fault) (fault : Fault) → SpecifierComplete b e high kind (Err fault) → IsErrAnd result (λ x. x ≡ fault) → SpecifiersComplete s z high kind before after result
    specifier_refused z after result fault complete told ps x to listed here given = of l.rest l.given l.lower
      where
        l : Left s.text kind high before nodes ps a to
        l = left ps x to listed here given

        one : {o : ℕ} {n : Tree} {k : Token} → kind_of n ≡ kind → SpellsIn s.text o specifier n a k [] → Misses s.text IdentifierName (codes "as") k → (parts_height ps ≤ high → height n ≤ high) → Agrees (parts_height ps ≤ high) (λ _. (after ≡ join before ps) × (z.last ≡ to)) result
        one {o} {n} {k} its d alone low =
            agrees_on (height n ≤ high) (parts_height ps ≤ high) (λ _. (after ≡ join before ps) × (z.last ≡ to)) result fault told
            (complete o n k [] listed its (subst (λ c. SpellsIn b.text o specifier n c k []) (sym place) (subst (λ v. SpellsIn v o specifier n a k []) (sym same) d)) (subst (λ v. Misses v IdentifierName (codes "as") k) (sym same) alone)) low

        of : (rest : Parts) → NamesGiven s.text kind rest a to → (parts_height ps ≤ high → parts_height rest ≤ high) → Agrees (parts_height ps ≤ high) (λ _. (after ≡ join before ps) × (z.last ≡ to)) result
        of _ (closing r) low = absurd (not_missed open_there r)
        of _ (one_more {n = n} {ps = qs} its d c g) low = one its d (no_word s.text c) (λ h. let u : max (height n) (parts_height qs) ≤ high = low h in omega arith)
        of _ (last_one {n = n} its d c) low = one its d (no_word_brace s.text c) (λ h. let u : max (height n) 0 ≤ high = low h in omega arith)

    module _ (n : Tree) (complete : SpecifierComplete b e high kind (Ok n)) (more : Parts) (added : more ≡ push nodes n) where
      same_one : {o : ℕ} {m : Tree} {k : Token} → is_listed kind ≡ true → kind_of m ≡ kind → SpellsIn s.text o specifier m a k [] → Misses s.text IdentifierName (codes "as") k → (n ≡ m) × (e.last ≡ k)
      same_one {o} {m} {k} listed its d alone = complete o m k [] listed its (subst (λ c. SpellsIn b.text o specifier m c k []) (sym place) (subst (λ v. SpellsIn v o specifier m a k []) (sym same) d)) (subst (λ v. Misses v IdentifierName (codes "as") k) (sym same) alone)

      -- one that is read, with its comma
      pub one_more_left : {c : Token} → ReadsHere s.text Punctuator (codes ",") e.last c → SpecifiersLeft s.text kind high before more s.last c
      one_more_left {c} comma ps x to listed here given = of l.rest l.given l.parts l.lower
        where
          l : Left s.text kind high before nodes ps a to
          l = left ps x to listed here given

          of : (rest : Parts) → NamesGiven s.text kind rest a to → join before ps ≡ join nodes rest → (parts_height ps ≤ high → parts_height rest ≤ high) → Left s.text kind high before more ps c to
          of _ (closing r) parts low = absurd (not_missed open_there r)
          of _ (one_more {n = m} {ps = qs} {k = k} {x = y} its d r g) parts low =
              let u = same_one listed its d (no_word s.text r) in
              let there : y ≡ c = sym (marks_same s.text comma (subst (λ v. ReadsHere s.text Punctuator (codes ",") v y) (sym u.1) r)).1 in
              record {
                rest = qs;
                given = subst (λ v. NamesGiven s.text kind qs v to) there g;
                parts = parts ∙ sym (join-push nodes qs m) ∙ ap (λ v. join (push nodes v) qs) (sym u.0) ∙ ap (λ v. join v qs) (sym added);
                lower = λ h. let w : max (height m) (parts_height qs) ≤ high = low h in omega arith;
              }
          of _ (last_one {k = k} its d r) parts low =
              let u = same_one listed its d (no_word_brace s.text r) in
              other_sign s.text (codes ",") refl (subst (λ v. ReadsHere s.text Punctuator (codes ",") v c) u.1 comma) r

      -- the last
      pub last_left : Misses s.text Punctuator (codes ",") e.last → BraceLeft s.text kind before more s.last e.last
      last_left missed ps x to listed here given = of l.rest l.given l.parts
        where
          l : Left s.text kind high before nodes ps a to
          l = left ps x to listed here given

          of : (rest : Parts) → NamesGiven s.text kind rest a to → join before ps ≡ join nodes rest → (more ≡ join before ps) × ReadsHere s.text Punctuator (codes "}") e.last to
          of _ (closing r) parts = absurd (not_missed open_there r)
          of _ (one_more {k = k} {x = y} its d r g) parts =
              let u = same_one listed its d (no_word s.text r) in
              absurd (not_missed missed (subst (λ v. ReadsHere s.text Punctuator (codes ",") v y) (sym u.1) r))
          of _ (last_one {n = m} {k = k} its d r) parts =
              let u = same_one listed its d (no_word_brace s.text r) in
              (added ∙ ap (push nodes) u.0 ∙ sym (parts ∙ sym (join-push nodes none m) ∙ join-none (push nodes m)), subst (λ v. ReadsHere s.text Punctuator (codes "}") v to) (sym u.1) r)

-- the closing brace is read, or isn't there
module _ (s z : CursorState) (kind : Kind) (high : ℕ) (before nodes : Parts) (a : Token) (left : BraceLeft s.text kind before nodes s.last a) where
  pub closing_read : ReadsHere s.text Punctuator (codes "}") a z.last → SpecifiersComplete s z high kind before nodes (Ok tt)
  closing_read brace ps x to listed here given = let u = left ps x to listed here given in (u.0, (marks_same s.text brace u.1).1)

  pub closing_missed : (after : Parts) (result : Result (Unit {0}) Fault) → Misses s.text Punctuator (codes "}") a → SpecifiersComplete s z high kind before after result
  closing_missed after result missed ps x to listed here given = absurd (not_missed missed (left ps x to listed here given).1)
