-- A given specifier: a name alone, or one with another behind `as` (ImportSpecifier, ExportSpecifier; ECMA-262, 13th edition, 16.2).
use Rattle.std.proofs.Common.{◌≡◌, ℕ, suc, max, ◌-◌, ◌≤◌, arith, true, false, List, [], ◌∷◌, ◌++◌, Result, Ok, Err, refl, sym, ap, ◌∙◌, subst}
use Rattle.std.specs.Prelude.{codes, ◌&&◌}
use Rattle.std.specs.Result.{IsErrAnd}
use Rattle.std.proofs.lemmas.Bool.{false≢true}
use Rattle.source_text.specs.declared.fault.Fault.{Fault}
use Rattle.tokens.specs.declared.token.TokenClass.TheVariants.{IdentifierName}
use Rattle.tokens.specs.declared.token.Goal.TheVariants.{Div}
use Rattle.tokens.specs.Tokens.{LexicalToken}
use Rattle.token_cursor.specs.CursorState.{CursorState}
use Rattle.tree.specs.declared.kind.Kind.{Kind}
use Rattle.tree.specs.declared.kind.Kind.TheVariants.{ImportSpecifier, ExportSpecifier}
use Rattle.tree.specs.declared.kind.Flags.{Flags}
use Rattle.tree.specs.declared.kind.Form.{Form}
use Rattle.tree.specs.declared.kind.Form.TheVariants.{Init, Shorthand}
use Rattle.tree.specs.declared.kind.Pair.{Pair}
use Rattle.tree.specs.Tree.{Tree, node, Parts, none, part, plain, bare, bare_parts, kind_of, height}
use Rattle.language.specs.declared.Rank.TheVariants.{Expression}
use Rattle.language.specs.declared.Start.TheVariants.{Any}
use Rattle.language.specs.Vocabulary.{is_identifier}
use Rattle.language.specs.Pieces.{Role, space, name, specifier, Spelling, sub, lay, tok}
use Rattle.language.specs.Expressions.{module_name}
use Rattle.language.specs.Statements.{specifiers}
use Rattle.language.specs.Token.{Token, as_read, same_class}
use Rattle.language.specs.Grammar.{spellings}
use Rattle.language.specs.Derivation.{Among, Placed, placed, direct}
use Rattle.language.proofs.table.Begins.{goes_to, retell}
use Rattle.language.proofs.table.Beginnings.{form_flags}
use Rattle.language.proofs.table.ViewIsComplete.{way_of}
use Rattle.language.proofs.table.StatementWays.{pieces_of_one}
use Rattle.language.proofs.climbing.BinaryTurns.{same_node}
use Rattle.language.proofs.climbing.RightOperands.{one_part}
use Rattle.language.proofs.list_loops.FirstPieces.{run_token, run_laid, run_part}
use Rattle.token_cursor.specs.SourceText.{SourceText, SeenNext, behind_in}
use Rattle.token_cursor.specs.Seen.{ReadsHere, Misses, MissesBy, is_free_name}
use Rattle.token_cursor.proofs.SeenTokens.{seen_determined}
use Rattle.unambiguity_laws.proofs.modules.Specifiers.{lean_node}
use Rattle.recursive_descent.specs.Soundness.{RunsIn, anywhere}
use Rattle.recursive_descent.specs.Spelled.{SpellsIn}
use Rattle.recursive_descent.specs.Completeness.{Agrees}
use Rattle.productions.specs.Made.{Makes}
use Rattle.parser_tables.specs.Tokens.{single_node}
use Rattle.recursive_descent.specs.ModuleItems.{names_module, name_kind, is_module_name, is_listed, SecondComplete, SpecifierComplete}
use Rattle.recursive_descent.proofs.complete_expressions.Agreement.{agrees_on, not_missed, read_here, refuses_made, words_same}
use Rattle.recursive_descent.proofs.complete_modules.NamesGiven.{TokenGiven, binding_given, either_given, either_runs, binding_free, made_agrees, named_free, token_missed, token_same}
use Rattle.recursive_descent.proofs.sound_modules.ModuleNames.{token_text}

-- the second name, which an import binds
abbrev pub SecondGiven : SourceText → Kind → Tree → Token → Token → Type 0
SecondGiven text ImportSpecifier l s e = (o : ℕ) × (P : List Pair) × SpellsIn text o name l s e P
SecondGiven text _ l s e = (o : ℕ) × (P : List Pair) × RunsIn text o (anywhere (module_name l ∷ [])) (part l none) s e P

-- a name alone is one that an import binds
abbrev pub BoundGiven : SourceText → Kind → Tree → Token → Token → Type 0
BoundGiven text ImportSpecifier l s e = (o : ℕ) × (P : List Pair) × SpellsIn text o name l s e P
BoundGiven text _ l s e = Unit {0}

module _ (text : SourceText) where
  pub data SpecifierForm (K : Kind) (n : Tree) (s e : Token) : Type 0 where
    alone : {l : Tree} (g : TokenGiven text names_module l s e) → n ≡ node K [] (form_flags Shorthand) g.token.start e.stop (part l none) → BoundGiven text K l s e → SpecifierForm K n s e
    renamed : {m l : Tree} {x y : Token} (g : TokenGiven text names_module m s x) → n ≡ node K [] plain g.token.start e.stop (part m (part l none)) → ReadsHere text IdentifierName (codes "as") x y → SecondGiven text K l y e → SpecifierForm K n s e

  -- from its first token to its last
  spans : {n : Tree} {K : Kind} {f : Flags} {st en : ℕ} {ps : Parts} {s x e : Token} {m : Tree} → n ≡ node K [] f st en ps → Placed Token (SeenNext text) (behind_in text) specifier n s e → (g : TokenGiven text names_module m s x) → n ≡ node K [] f g.token.start e.stop ps
  spans {K = K} {f} {st} {en} {ps} {s} {x} {e} tree pl g = tree ∙ (let u = of (subst (λ v. Placed Token (SeenNext text) (behind_in text) specifier v s e) tree pl) in same_node refl refl refl u.0 u.1 refl)
    where
      of : Placed Token (SeenNext text) (behind_in text) specifier (node K [] f st en ps) s e → (st ≡ g.token.start) × (en ≡ e.stop)
      of (placed {t = u} {m = m} nx p) = (sym (ap (λ (x : ℕ × ℕ). x.0) p) ∙ (seen_determined text).start s u g.token m x nx g.next, sym (ap (λ (x : ℕ × ℕ). x.1) p))

  lone : {o : ℕ} {K : Kind} {st en : ℕ} {n : Tree} {ps : Parts} {a : Role} {s e : Token} {P : List Pair} → n ≡ node K [] (form_flags Shorthand) st en ps → Placed Token (SeenNext text) (behind_in text) specifier n s e →
      ((m : Tree) → SpellsIn text o a m s e P → TokenGiven text names_module m s e × BoundGiven text K m s e) → RunsIn text o (sub a ∷ []) ps s e P → SpecifierForm K n s e
  lone {K = K} {st} {en} {ps = ps} tree pl its d =
      let a = one_part Token (SeenNext text) (behind_in text) (seen_determined text) d in
      let u = its a.operand a.spelled in
      alone u.0 (spans (tree ∙ ap (node K [] (form_flags Shorthand) st en) a.parts) pl u.0) u.1

  both : {o : ℕ} {K : Kind} {st en : ℕ} {n : Tree} {ps : Parts} {a b : Role} {s e : Token} {P : List Pair} → n ≡ node K [] plain st en ps → Placed Token (SeenNext text) (behind_in text) specifier n s e →
      ((m : Tree) (x : Token) (Q : List Pair) → SpellsIn text o a m s x Q → TokenGiven text names_module m s x) → ((m : Tree) (y : Token) (Q : List Pair) → SpellsIn text o b m y e Q → SecondGiven text K m y e) →
      RunsIn text o (sub a ∷ lay space ∷ tok IdentifierName (codes "as") ∷ lay space ∷ sub b ∷ []) ps s e P → SpecifierForm K n s e
  both {K = K} {st} {en} {ps = ps} tree pl first second d =
      let a = run_part Token (SeenNext text) (behind_in text) d in
      let b = run_token Token (SeenNext text) (behind_in text) (run_laid Token (SeenNext text) (behind_in text) a.runs) in
      let c = one_part Token (SeenNext text) (behind_in text) (seen_determined text) (run_laid Token (SeenNext text) (behind_in text) b.runs) in
      let g = first a.item a.mid a.one a.spelled in
      renamed g (spans (tree ∙ ap (node K [] plain st en) (a.parts ∙ ap (part a.item) c.parts)) pl g) (read_here text b.reads) (second c.operand b.mid a.more c.spelled)

  pub import_form : {o : ℕ} {w : List ℕ} {g : Flags} {st en : ℕ} (ps : Parts) {s e : Token} {P : List Pair} → SpellsIn text o specifier (node ImportSpecifier w g st en ps) s e P → SpecifierForm ImportSpecifier (node ImportSpecifier w g st en ps) s e
  unfolding spellings
  import_form {o} {w} {g} {st} {en} ps {s} {e} {P} (direct qs h pl d) = let v = way_of h in of g.form refl ps refl (lean_node ImportSpecifier w g st en ps refl v.lean) v.listed (retell Token (SeenNext text) (behind_in text) v.is d)
    where
      of : (f : Form) → g.form ≡ f → (rs : Parts) → rs ≡ ps → node ImportSpecifier w g st en ps ≡ node ImportSpecifier [] (form_flags g.form) st en ps → {x : Spelling} → Among x (specifiers ImportSpecifier f (bare_parts rs)) → RunsIn text o (goes_to Expression true Any x.pieces) ps s e P → SpecifierForm ImportSpecifier (node ImportSpecifier w g st en ps) s e
      of Shorthand fe (part n none) re tree l d = lone (tree ∙ ap (λ f. node ImportSpecifier [] (form_flags f) st en ps) fe) pl (λ m d. (binding_given text d, (o, P, d))) (retell Token (SeenNext text) (behind_in text) (ap (goes_to Expression true Any) (pieces_of_one l)) d)
      of Init fe (part m (part n none)) re tree l d = both (tree ∙ ap (λ f. node ImportSpecifier [] (form_flags f) st en ps) fe) pl (λ k x Q d. either_given text (is_identifier (kind_of (bare m))) d) (λ k y Q d. (o, Q, d)) (retell Token (SeenNext text) (behind_in text) (ap (goes_to Expression true Any) (pieces_of_one l)) d)
      of _ fe rs re tree l d = elim l [ ]

  pub export_form : {o : ℕ} {w : List ℕ} {g : Flags} {st en : ℕ} (ps : Parts) {s e : Token} {P : List Pair} → SpellsIn text o specifier (node ExportSpecifier w g st en ps) s e P → SpecifierForm ExportSpecifier (node ExportSpecifier w g st en ps) s e
  unfolding spellings
  export_form {o} {w} {g} {st} {en} ps {s} {e} {P} (direct qs h pl d) = let v = way_of h in of g.form refl ps refl (lean_node ExportSpecifier w g st en ps refl v.lean) v.listed (retell Token (SeenNext text) (behind_in text) v.is d)
    where
      of : (f : Form) → g.form ≡ f → (rs : Parts) → rs ≡ ps → node ExportSpecifier w g st en ps ≡ node ExportSpecifier [] (form_flags g.form) st en ps → {x : Spelling} → Among x (specifiers ExportSpecifier f (bare_parts rs)) → RunsIn text o (goes_to Expression true Any x.pieces) ps s e P → SpecifierForm ExportSpecifier (node ExportSpecifier w g st en ps) s e
      of Shorthand fe (part n none) re tree l d = lone (tree ∙ ap (λ f. node ExportSpecifier [] (form_flags f) st en ps) fe) pl (λ m d. (either_given text (is_identifier (kind_of (bare n))) d, tt)) (retell Token (SeenNext text) (behind_in text) (ap (goes_to Expression true Any) (pieces_of_one l)) d)
      of Init fe (part m (part n none)) re tree l d =
          both (tree ∙ ap (λ f. node ExportSpecifier [] (form_flags f) st en ps) fe) pl (λ k x Q d. either_given text (is_identifier (kind_of (bare m))) d) (λ k y Q d. (o, Q ++ [], either_runs text (is_identifier (kind_of (bare n))) d))
          (retell Token (SeenNext text) (behind_in text) (ap (goes_to Expression true Any) (pieces_of_one l)) d)
      of _ fe rs re tree l d = elim l [ ]

  -- of either kind
  pub specifier_form : {o : ℕ} (K : Kind) (n : Tree) {s e : Token} {P : List Pair} → is_listed K ≡ true → kind_of n ≡ K → SpellsIn text o specifier n s e P → SpecifierForm K n s e
  specifier_form {o} ImportSpecifier (node k w g st en ps) {s} {e} {P} listed kind d = subst (λ v. SpecifierForm ImportSpecifier (node v w g st en ps) s e) (sym kind) (import_form ps (subst (λ v. SpellsIn text o specifier (node v w g st en ps) s e P) kind d))
  specifier_form {o} ExportSpecifier (node k w g st en ps) {s} {e} {P} listed kind d = subst (λ v. SpecifierForm ExportSpecifier (node v w g st en ps) s e) (sym kind) (export_form ps (subst (λ v. SpellsIn text o specifier (node v w g st en ps) s e P) kind d))
  specifier_form _ n listed kind d = absurd (false≢true listed)

  -- the token with which it begins
  pub first_token : {K : Kind} {n : Tree} {s e : Token} (A : Type 0) → ((m : Tree) (x : Token) → TokenGiven text names_module m s x → A) → SpecifierForm K n s e → A
  first_token {e = e} A f (alone {l = l} g tree b) = f l e g
  first_token A f (renamed {m = m} {x = x} g tree a l) = f m x g

second_on : (kind : Kind) (m e : CursorState) (inner : ℕ) (l : Tree) (to : Token) (r : Result Tree Fault) → SecondComplete m e inner kind r → SecondGiven m.text kind l m.last to → Agrees (height l ≤ inner) (λ k. (k ≡ l) × (e.last ≡ to)) r
second_on ImportSpecifier m e inner l to r complete (o, P, d) = complete o l to P d
second_on _ m e inner l to r complete (o, P, d) = complete o l to P d

-- What is answered

module _ (s e : CursorState) (high : ℕ) (kind : Kind) (result : Result Tree Fault) where
  -- no name stands there
  pub specifier_unread : MissesBy s.text Div is_module_name s.last → SpecifierComplete s e high kind result
  specifier_unread missed o n to P listed its d alone_there = absurd (first_token s.text ⊥ (λ m x g. token_missed s.text missed g) (specifier_form s.text kind n listed its d))

  module _ (t : LexicalToken) (k : Token) (read : SeenNext s.text s.last (as_read t) k) (names : names_module t.class ≡ true) where
    begins : {m : Tree} {x : Token} (g : TokenGiven s.text names_module m s.last x) → t.start ≡ g.token.start
    begins {x = x} g = (seen_determined s.text).start s.last (as_read t) g.token k x read g.next

    -- too high is its name already
    pub specifier_high : (inner : ℕ) (fault : Fault) → inner ≡ high - 1 → Makes (single_node (name_kind t.class) t) inner (Err fault) → IsErrAnd result (λ x. x ≡ fault) → SpecifierComplete s e high kind result
    specifier_high inner fault less made told o n to P listed its d alone_there =
        agrees_on (1 ≤ inner) (height n ≤ high) _ result fault told (refuses_made (1 ≤ inner) (single_node (name_kind t.class) t) inner fault made (λ w. w)) (λ w. of w (specifier_form s.text kind n listed its d))
      where
        of : height n ≤ high → SpecifierForm s.text kind n s.last to → 1 ≤ inner
        of w (alone {l = l} g tree b) =
            let one : height l ≡ 1 = ap height g.tree in
            let both : height n ≡ suc (max (height l) 0) = ap height tree in
            omega arith
        of w (renamed {m = m} {l = l} g tree a second) =
            let one : height m ≡ 1 = ap height g.tree in
            let both : height n ≡ suc (max (height m) (max (height l) 0)) = ap height tree in
            omega arith

    -- one name
    module _ (missed : Misses s.text IdentifierName (codes "as") k) where
      no_other : {A : Type 0} {m : Tree} {x y : Token} → TokenGiven s.text names_module m s.last x → ReadsHere s.text IdentifierName (codes "as") x y → A
      no_other {y = y} g a = absurd (not_missed missed (subst (λ c. ReadsHere s.text IdentifierName (codes "as") c y) (sym (token_same s.text t read names g).1) a))

      -- that an import doesn't bind
      pub specifier_unbound : kind ≡ ImportSpecifier → (same_class IdentifierName t.class && is_free_name t.text) ≡ false → SpecifierComplete s e high kind result
      specifier_unbound import unfree o n to P listed its d alone_there = absurd (of (specifier_form s.text kind n listed its d))
        where
          of : SpecifierForm s.text kind n s.last to → ⊥
          of (renamed g tree a second) = no_other g a
          of (alone {l = l} g tree b) =
              let bound = subst (λ K. BoundGiven s.text K l s.last to) import b in
              let f = binding_free s.text bound.2 in
              let det = seen_determined s.text in
              let same = (det.same Div s.last (as_read t) f.0.token k to read f.0.next (det.free Div s.last (as_read t) k read (named_free t.class names)) (det.free Div s.last f.0.token to f.0.next (named_free f.0.token.class f.0.names))).0 in
              false≢true (sym unfree ∙ ap (λ w. same_class IdentifierName t.class && is_free_name w) (sym (token_text s.text t names)) ∙ ap (λ (x : Token). same_class IdentifierName x.class && is_free_name x.text) same ∙ f.1)

      pub alone_answered : (m : Tree) → m ≡ single_node (name_kind t.class) t → k ≡ e.last → Makes (node kind [] (form_flags Shorthand) t.start e.last.stop (part m none)) high result → SpecifierComplete s e high kind result
      alone_answered m one place made o n to P listed its d alone_there = of (specifier_form s.text kind n listed its d)
        where
          of : SpecifierForm s.text kind n s.last to → Agrees (height n ≤ high) (λ m. (m ≡ n) × (e.last ≡ to)) result
          of (renamed g tree a second) = no_other g a
          of (alone {l = l} g tree b) =
              let same = token_same s.text t read names g in
              let at : e.last ≡ to = sym place ∙ same.1 in
              made_agrees high result ((λ i. node kind [] (form_flags Shorthand) (begins g i) ((at i).stop) (part ((one ∙ same.0) i) none)) ∙ sym tree, at) made

    -- two names
    module _ (b : CursorState) (word : ReadsHere s.text IdentifierName (codes "as") k b.last) (same_text : b.text ≡ s.text) (inner : ℕ) (less : inner ≡ high - 1) where
      no_alone : {A : Type 0} {m : Tree} {x : Token} → TokenGiven s.text names_module m s.last x → Misses s.text IdentifierName (codes "as") x → A
      no_alone g alone_there = absurd (not_missed alone_there (subst (λ c. ReadsHere s.text IdentifierName (codes "as") c b.last) (token_same s.text t read names g).1 word))

      -- the second stands here
      second_here : {m : Tree} {x y : Token} (l : Tree) (to : Token) → TokenGiven s.text names_module m s.last x → ReadsHere s.text IdentifierName (codes "as") x y → SecondGiven s.text kind l y to → SecondGiven b.text kind l b.last to
      second_here {y = y} l to g a second =
          let there : y ≡ b.last = sym (words_same s.text word (subst (λ c. ReadsHere s.text IdentifierName (codes "as") c y) (sym (token_same s.text t read names g).1) a)).1 in
          subst (λ x. SecondGiven x kind l b.last to) (sym same_text) (subst (λ c. SecondGiven s.text kind l c to) there second)

      -- of which the second is refused
      pub second_refused : (fault : Fault) → SecondComplete b e inner kind (Err fault) → IsErrAnd result (λ x. x ≡ fault) → SpecifierComplete s e high kind result
      second_refused fault complete told o n to P listed its d alone_there = of (specifier_form s.text kind n listed its d)
        where
          of : SpecifierForm s.text kind n s.last to → Agrees (height n ≤ high) (λ m. (m ≡ n) × (e.last ≡ to)) result
          of (alone g tree b) = no_alone g alone_there
          of (renamed {m = m} {l = l} g tree a second) =
              let both : height n ≡ suc (max (height m) (max (height l) 0)) = ap height tree in
              agrees_on (height l ≤ inner) (height n ≤ high) _ result fault told (second_on kind b e inner l to (Err fault) complete (second_here l to g a second)) (λ w. subst (λ k. height l ≤ k) (sym less) (omega arith))

      -- or read
      pub renamed_answered : (m l : Tree) → m ≡ single_node (name_kind t.class) t → SecondComplete b e inner kind (Ok l) → Makes (node kind [] plain t.start e.last.stop (part m (part l none))) high result → SpecifierComplete s e high kind result
      renamed_answered m l one complete made o n to P listed its d alone_there = of (specifier_form s.text kind n listed its d)
        where
          of : SpecifierForm s.text kind n s.last to → Agrees (height n ≤ high) (λ m. (m ≡ n) × (e.last ≡ to)) result
          of (alone g tree b) = no_alone g alone_there
          of (renamed {l = other} g tree a second) =
              let same = token_same s.text t read names g in
              let agrees = second_on kind b e inner other to (Ok l) complete (second_here other to g a second) in
              made_agrees high result ((λ i. node kind [] plain (begins g i) ((agrees.1 i).stop) (part ((one ∙ same.0) i) (part (agrees.0 i) none))) ∙ sym tree, agrees.1) made
