-- A given ImportClause: a default name, a whole module's name, names in braces (ECMA-262, 13th edition, 16.2.2).
use Rattle.std.proofs.Common.{◌≡◌, ℕ, max, ◌≤◌, arith, true, List, [], ◌∷◌, Result, Ok, Err, refl, sym, ap, ◌∙◌, subst}
use Rattle.std.specs.Prelude.{codes}
use Rattle.std.specs.Result.{IsErrAnd, IfOk, IfErr}
use Rattle.std.proofs.lemmas.Bool.{false≢true}
use Rattle.source_text.specs.declared.fault.Fault.{Fault}
use Rattle.source_text.specs.declared.fault.Fault.TheVariants.{OutOfMemory}
use Rattle.tokens.specs.declared.token.TokenClass.TheVariants.{IdentifierName, Punctuator}
use Rattle.tokens.specs.declared.token.Goal.TheVariants.{Div}
use Rattle.token_cursor.specs.CursorState.{CursorState, IsPlaceHere}
use Rattle.tree.specs.declared.kind.Kind.{Kind}
use Rattle.tree.specs.declared.kind.Kind.TheVariants.{ImportDefaultSpecifier, ImportNamespaceSpecifier, ImportSpecifier}
use Rattle.tree.specs.declared.kind.Flags.{Flags}
use Rattle.tree.specs.declared.kind.Pair.{Pair}
use Rattle.tree.specs.Tree.{Tree, node, plain, Parts, none, part, gap, push, join, kind_of, height, parts_height}
use Rattle.tree.proofs.Shapes.{join-push, push-join}
use Rattle.language.specs.declared.Rank.TheVariants.{Expression}
use Rattle.language.specs.declared.Start.TheVariants.{Any}
use Rattle.language.specs.Pieces.{specifier, name, sub, sign, sp, term, put}
use Rattle.language.specs.Token.{Token}
use Rattle.language.specs.Vocabulary.{is}
use Rattle.language.specs.Promises.{ReadBy}
use Rattle.language.specs.Grammar.{spellings}
use Rattle.language.specs.Derivation.{Placed, placed, direct}
use Rattle.language.proofs.table.Begins.{goes_to, retell}
use Rattle.language.proofs.table.ViewIsComplete.{way_of}
use Rattle.language.proofs.table.StatementWays.{pieces_of_one}
use Rattle.language.proofs.climbing.BinaryTurns.{same_node}
use Rattle.language.proofs.climbing.RightOperands.{one_part}
use Rattle.language.proofs.list_loops.FirstPieces.{run_token, run_laid}
use Rattle.language.proofs.covers.CoverReadings.{name_or_sign}
use Rattle.token_cursor.specs.SourceText.{SourceText, SeenNext, behind_in}
use Rattle.token_cursor.specs.Seen.{ReadsHere, NameHere, Misses, NoName, is_free_name}
use Rattle.token_cursor.proofs.SeenTokens.{seen_determined}
use Rattle.unambiguity_laws.proofs.modules.Specifiers.{lean_node}
use Rattle.recursive_descent.specs.Soundness.{RunsIn}
use Rattle.recursive_descent.specs.Spelled.{SpellsIn}
use Rattle.recursive_descent.specs.Completeness.{Agrees}
use Rattle.recursive_descent.specs.ModuleItems.{names_module, binding, BindingComplete, NamesGiven, FurtherGiven, namespace, in_braces, ClauseGiven, default_name, default_and, no_default, ClauseComplete, SpecifiersComplete}
use Rattle.recursive_descent.proofs.reading.Forward.{place_mark, place_token}
use Rattle.recursive_descent.proofs.complete_expressions.Agreement.{agrees_on, marks_same, not_missed, read_here, refuses_memory, words_same, agrees_map}
use Rattle.recursive_descent.proofs.complete_modules.NamesGiven.{TokenGiven, binding_given, binding_missed, named_free}

module _ (text : SourceText) where
  -- the name of a default import
  pub record DefaultForm (n : Tree) (s e : Token) : Type 0 where
    pub left : Tree
    pub o : ℕ
    pub P : List Pair
    pub spelled : SpellsIn text o name left s e P
    pub token : TokenGiven text names_module left s e
    pub tree : n ≡ node ImportDefaultSpecifier [] plain token.token.start e.stop (part left none)

  -- of a whole module
  pub record NamespaceForm (n : Tree) (s e : Token) : Type 0 where
    pub left : Tree
    pub o : ℕ
    pub P : List Pair
    pub x : Token
    pub y : Token
    pub star : ReadsHere text Punctuator (codes "*") s x
    pub word : ReadsHere text IdentifierName (codes "as") x y
    pub spelled : SpellsIn text o name left y e P
    pub tree : n ≡ node ImportNamespaceSpecifier [] plain x.start e.stop (part left none)

  spans : {t : Token} {K : Kind} {st en : ℕ} {ps : Parts} {s x e : Token} → Placed Token (SeenNext text) (behind_in text) specifier (node K [] plain st en ps) s e → SeenNext text s t x → node K [] plain st en ps ≡ node K [] plain t.start e.stop ps
  spans {t} {K} {st} {en} {ps} {s} {x} {e} (placed {t = u} {m = m} nx p) next = same_node refl refl refl (sym (ap (λ (x : ℕ × ℕ). x.0) p) ∙ (seen_determined text).start s u t m x nx next) (sym (ap (λ (x : ℕ × ℕ). x.1) p)) refl

  default_of : {o : ℕ} {w : List ℕ} {g : Flags} {st en : ℕ} (ps : Parts) {s e : Token} {P : List Pair} → SpellsIn text o specifier (node ImportDefaultSpecifier w g st en ps) s e P → DefaultForm (node ImportDefaultSpecifier w g st en ps) s e
  unfolding spellings
  default_of {o} {w} {g} {st} {en} (part l none) {s} {e} {P} (direct qs h pl d) = let v = way_of h in of (retell Token (SeenNext text) (behind_in text) (v.is ∙ ap (goes_to Expression true Any) (pieces_of_one v.listed)) d) (lean_node ImportDefaultSpecifier w g st en (part l none) refl v.lean)
    where
      of : RunsIn text o (sub name ∷ []) (part l none) s e P → node ImportDefaultSpecifier w g st en (part l none) ≡ node ImportDefaultSpecifier [] plain st en (part l none) → DefaultForm (node ImportDefaultSpecifier w g st en (part l none)) s e
      of d tree =
          let a = one_part Token (SeenNext text) (behind_in text) (seen_determined text) d in
          let u = binding_given text a.spelled in
          record { left = a.operand; o = o; P = P; spelled = a.spelled; token = u; tree = tree ∙ spans (subst (λ v. Placed Token (SeenNext text) (behind_in text) specifier v s e) tree pl) u.next ∙ ap (node ImportDefaultSpecifier [] plain u.token.start e.stop) a.parts }
  default_of (part l (part m ps)) (direct qs h pl d) = elim ((way_of h).listed) [ ]
  default_of (part l (gap ps)) (direct qs h pl d) = elim ((way_of h).listed) [ ]
  default_of none (direct qs h pl d) = elim ((way_of h).listed) [ ]
  default_of (gap ps) (direct qs h pl d) = elim ((way_of h).listed) [ ]

  namespace_of : {o : ℕ} {w : List ℕ} {g : Flags} {st en : ℕ} (ps : Parts) {s e : Token} {P : List Pair} → SpellsIn text o specifier (node ImportNamespaceSpecifier w g st en ps) s e P → NamespaceForm (node ImportNamespaceSpecifier w g st en ps) s e
  unfolding spellings
  namespace_of {o} {w} {g} {st} {en} (part l none) {s} {e} {P} (direct qs h pl d) = let v = way_of h in of (retell Token (SeenNext text) (behind_in text) (v.is ∙ ap (goes_to Expression true Any) (pieces_of_one v.listed)) d) (lean_node ImportNamespaceSpecifier w g st en (part l none) refl v.lean)
    where
      of : RunsIn text o (goes_to Expression true Any (sign "*" ∷ sp ∷ term "as" ∷ sp ∷ put name ∷ [])) (part l none) s e P → node ImportNamespaceSpecifier w g st en (part l none) ≡ node ImportNamespaceSpecifier [] plain st en (part l none) → NamespaceForm (node ImportNamespaceSpecifier w g st en (part l none)) s e
      of d tree =
          let a = run_token Token (SeenNext text) (behind_in text) d in
          let b = run_token Token (SeenNext text) (behind_in text) (run_laid Token (SeenNext text) (behind_in text) a.runs) in
          let c = one_part Token (SeenNext text) (behind_in text) (seen_determined text) (run_laid Token (SeenNext text) (behind_in text) b.runs) in
          let star = read_here text a.reads in
          record {
            left = c.operand;
            o = o;
            P = P;
            x = a.mid;
            y = b.mid;
            star = star;
            word = read_here text b.reads;
            spelled = c.spelled;
            tree = tree ∙ spans (subst (λ v. Placed Token (SeenNext text) (behind_in text) specifier v s e) tree pl) star.next ∙ ap (node ImportNamespaceSpecifier [] plain a.mid.start e.stop) c.parts;
          }
  namespace_of (part l (part m ps)) (direct qs h pl d) = elim ((way_of h).listed) [ ]
  namespace_of (part l (gap ps)) (direct qs h pl d) = elim ((way_of h).listed) [ ]
  namespace_of none (direct qs h pl d) = elim ((way_of h).listed) [ ]
  namespace_of (gap ps) (direct qs h pl d) = elim ((way_of h).listed) [ ]

  pub default_form : {o : ℕ} (n : Tree) {s e : Token} {P : List Pair} → kind_of n ≡ ImportDefaultSpecifier → SpellsIn text o specifier n s e P → DefaultForm n s e
  default_form {o} (node k w g st en ps) {s} {e} {P} its d = subst (λ v. DefaultForm (node v w g st en ps) s e) (sym its) (default_of ps (subst (λ v. SpellsIn text o specifier (node v w g st en ps) s e P) its d))

  pub namespace_form : {o : ℕ} (n : Tree) {s e : Token} {P : List Pair} → kind_of n ≡ ImportNamespaceSpecifier → SpellsIn text o specifier n s e P → NamespaceForm n s e
  namespace_form {o} (node k w g st en ps) {s} {e} {P} its d = subst (λ v. NamespaceForm (node v w g st en ps) s e) (sym its) (namespace_of ps (subst (λ v. SpellsIn text o specifier (node v w g st en ps) s e P) its d))

module _ (text : SourceText) where
  brace_star : {A : Type 0} {s k k' : Token} → ReadsHere text Punctuator (codes "{") s k → ReadsHere text Punctuator (codes "*") s k' → A
  brace_star r r' = absurd (false≢true (sym (ap (λ w. is w "{") (sym r.text ∙ ap (λ (t : Token). t.text) (marks_same text r r').0 ∙ r'.text)) ∙ refl))

  -- what is left of a given clause behind a default name
  pub record FurtherLeft (high : ℕ) (before nodes ps : Parts) (a to : Token) : Type 0 where
    pub rest : Parts
    pub given : FurtherGiven text rest a to
    pub parts : join before ps ≡ join nodes rest
    pub lower : parts_height ps ≤ high → parts_height rest ≤ high

  abbrev pub ClauseLeft : ℕ → Parts → Parts → Token → Token → Type 0
  ClauseLeft high before nodes s a = (ps : Parts) (to : Token) → ClauseGiven text ps s to → FurtherLeft high before nodes ps a to

  -- where no name stands there is none
  pub no_default_left : (high : ℕ) (before : Parts) {s : Token} → NoName text is_free_name s → ClauseLeft high before before s s
  no_default_left high before missed _ to (default_name {n = n} its d alone) = absurd (binding_missed text missed (default_form text n its d).spelled)
  no_default_left high before missed _ to (default_and {n = n} its d comma g) = absurd (binding_missed text missed (default_form text n its d).spelled)
  no_default_left high before missed ps to (no_default g) = record { rest = ps; given = g; parts = refl; lower = λ h. h }

-- a default name, where a name stands
module _ (s e : CursorState) (high start : ℕ) (before : Parts) (here : IsPlaceHere s start) (name_there : (t : Token) × NameHere s.text is_free_name s.last t) where
  begins_here : {n : Tree} {k : Token} (f : DefaultForm s.text n s.last k) → n ≡ binding ImportDefaultSpecifier start k f.left
  begins_here {k = k} f =
      let g = f.token in
      let read : ReadBy Token (SeenNext s.text) (behind_in s.text) Div s.last g.token k = record { next = g.next; allowed = (seen_determined s.text).free Div s.last g.token k g.next (named_free g.token.class g.names) } in
      f.tree ∙ ap (λ b. node ImportDefaultSpecifier [] plain b k.stop (part f.left none)) (sym (place_token s here read))

  no_further : {A : Type 0} {ps : Parts} {to : Token} → FurtherGiven s.text ps s.last to → A
  no_further (namespace {n = n} its d) = absurd (name_or_sign Token (SeenNext s.text) (behind_in s.text) (seen_determined s.text) refl name_there.1.0 (namespace_form s.text n its d).star)
  no_further (in_braces r names) = absurd (name_or_sign Token (SeenNext s.text) (behind_in s.text) (seen_determined s.text) refl name_there.1.0 r)

  pub default_refused : (z : CursorState) (after : Parts) (result : Result (Unit {0}) Fault) (fault : Fault) → BindingComplete s e high ImportDefaultSpecifier start (Err fault) → IsErrAnd result (λ x. x ≡ fault) → ClauseComplete s z high before after result
  default_refused z after result fault complete told = of
    where
      one : (ps : Parts) (to : Token) {o : ℕ} {n : Tree} {k : Token} → kind_of n ≡ ImportDefaultSpecifier → SpellsIn s.text o specifier n s.last k [] → (parts_height ps ≤ high → height n ≤ high) → Agrees (parts_height ps ≤ high) (λ _. (after ≡ join before ps) × (z.last ≡ to)) result
      one ps to {n = n} {k} its d low =
          let f = default_form s.text n its d in
          let W = height (binding ImportDefaultSpecifier start k f.left) ≤ high in
          agrees_on W (parts_height ps ≤ high) (λ _. (after ≡ join before ps) × (z.last ≡ to)) result fault told (complete f.o f.left k f.P f.spelled) (λ h. subst (λ m. height m ≤ high) (begins_here f) (low h))

      of : (ps : Parts) (to : Token) → ClauseGiven s.text ps s.last to → Agrees (parts_height ps ≤ high) (λ _. (after ≡ join before ps) × (z.last ≡ to)) result
      of _ to (default_name {n = n} its d alone) = one (part n none) to its d (λ h. let u : max (height n) 0 ≤ high = h in omega arith)
      of _ to (default_and {n = n} {ps = qs} its d comma g) = one (part n qs) to its d (λ h. let u : max (height n) (parts_height qs) ≤ high = h in omega arith)
      of ps to (no_default g) = no_further g

  module _ (n : Tree) (complete : BindingComplete s e high ImportDefaultSpecifier start (Ok n)) (nodes : Parts) (added : nodes ≡ push before n) where
    same_name : {o : ℕ} {m : Tree} {k : Token} → kind_of m ≡ ImportDefaultSpecifier → SpellsIn s.text o specifier m s.last k [] → (n ≡ m) × (e.last ≡ k)
    same_name {m = m} {k} its d =
        let f = default_form s.text m its d in
        let u = complete f.o f.left k f.P f.spelled in
        (u.0 ∙ sym (begins_here f), u.1)

    -- before a comma
    pub default_left : {c : Token} → ReadsHere s.text Punctuator (codes ",") e.last c → ClauseLeft s.text high before nodes s.last c
    default_left {c} comma _ to (default_name {e = k} its d alone) =
        let u = same_name its d in
        absurd (not_missed alone (subst (λ v. ReadsHere s.text Punctuator (codes ",") v c) u.1 comma))
    default_left {c} comma _ to (default_and {n = m} {ps = qs} {k = k} {x = y} its d r g) =
        let u = same_name its d in
        let there : y ≡ c = sym (marks_same s.text comma (subst (λ v. ReadsHere s.text Punctuator (codes ",") v y) (sym u.1) r)).1 in
        record {
          rest = qs;
          given = subst (λ v. FurtherGiven s.text qs v to) there g;
          parts = sym (join-push before qs m) ∙ ap (λ v. join (push before v) qs) (sym u.0) ∙ ap (λ v. join v qs) (sym added);
          lower = λ h. let w : max (height m) (parts_height qs) ≤ high = h in omega arith;
        }
    default_left comma ps to (no_default g) = no_further g

    -- alone
    pub default_read : (z : CursorState) → z.last ≡ e.last → Misses s.text Punctuator (codes ",") e.last → ClauseComplete s z high before nodes (Ok tt)
    default_read z place missed _ to (default_name {n = m} its d alone) =
        let u = same_name its d in
        (added ∙ ap (push before) u.0 ∙ push-join before m, place ∙ u.1)
    default_read z place missed _ to (default_and {k = k} {x = y} its d r g) =
        let u = same_name its d in
        absurd (not_missed missed (subst (λ v. ReadsHere s.text Punctuator (codes ",") v y) (sym u.1) r))
    default_read z place missed ps to (no_default g) = no_further g

-- what stands behind it, or first
module _ (s a : CursorState) (high : ℕ) (before nodes : Parts) (same : a.text ≡ s.text) (left : ClauseLeft s.text high before nodes s.last a.last) where
  module _ (x : Token) (star : ReadsHere s.text Punctuator (codes "*") a.last x) where
    -- all names of a module
    abbrev Whole : Parts → Token → Type 0
    Whole ps to = (m : Tree) × NamespaceForm s.text m a.last to × (join before ps ≡ push nodes m) × (parts_height ps ≤ high → height m ≤ high)

    whole : (ps : Parts) (to : Token) → ClauseGiven s.text ps s.last to → Whole ps to
    whole ps to given = let l = left ps to given in of l.rest l.given l.parts l.lower
      where
        of : (rest : Parts) → FurtherGiven s.text rest a.last to → join before ps ≡ join nodes rest → (parts_height ps ≤ high → parts_height rest ≤ high) → Whole ps to
        of _ (namespace {n = m} its d) parts lower = (m, namespace_form s.text m its d, parts ∙ sym (push-join nodes m), λ h. let u : max (height m) 0 ≤ high = lower h in omega arith)
        of _ (in_braces r names) parts lower = brace_star s.text r star

    pub as_missed : (z : CursorState) (after : Parts) (result : Result (Unit {0}) Fault) → Misses s.text IdentifierName (codes "as") x → ClauseComplete s z high before after result
    as_missed z after result missed ps to given =
        let f = (whole ps to given).1 in
        absurd (not_missed missed (subst (λ v. ReadsHere s.text IdentifierName (codes "as") v f.y) (marks_same s.text f.star star).1 f.word))

    module _ (b e : CursorState) (start : ℕ) (here : IsPlaceHere a start) (word : ReadsHere s.text IdentifierName (codes "as") x b.last) (text : b.text ≡ s.text) where
      spelled_here : {m : Tree} {to : Token} (f : NamespaceForm s.text m a.last to) → SpellsIn b.text f.o name f.left b.last to f.P
      spelled_here {to = to} f =
          let there : f.y ≡ b.last = (words_same s.text (subst (λ v. ReadsHere s.text IdentifierName (codes "as") v f.y) (marks_same s.text f.star star).1 f.word) word).1 in
          subst (λ v. SpellsIn v f.o name f.left b.last to f.P) (sym text) (subst (λ v. SpellsIn s.text f.o name f.left v to f.P) there f.spelled)

      tree_here : {m : Tree} {to : Token} (f : NamespaceForm s.text m a.last to) → m ≡ binding ImportNamespaceSpecifier start to f.left
      tree_here {to = to} f =
          let begins : start ≡ f.x.start = place_mark a here (subst (λ v. ReadsHere v Punctuator (codes "*") a.last f.x) (sym same) f.star) in
          f.tree ∙ ap (λ v. node ImportNamespaceSpecifier [] plain v to.stop (part f.left none)) (sym begins)

      pub namespace_refused : (z : CursorState) (after : Parts) (result : Result (Unit {0}) Fault) (fault : Fault) → BindingComplete b e high ImportNamespaceSpecifier start (Err fault) → IsErrAnd result (λ x. x ≡ fault) → ClauseComplete s z high before after result
      namespace_refused z after result fault complete told ps to given =
          let w = whole ps to given in
          let f = w.1 in
          agrees_on (height (binding ImportNamespaceSpecifier start to f.left) ≤ high) (parts_height ps ≤ high) (λ _. (after ≡ join before ps) × (z.last ≡ to)) result fault told (complete f.o f.left to f.P (spelled_here f)) (λ h. subst (λ m. height m ≤ high) (tree_here f) (w.3 h))

      pub namespace_read : (n : Tree) (after : Parts) → BindingComplete b e high ImportNamespaceSpecifier start (Ok n) → after ≡ push nodes n → ClauseComplete s e high before after (Ok tt)
      namespace_read n after complete added ps to given =
          let w = whole ps to given in
          let u = complete w.1.o w.1.left to w.1.P (spelled_here w.1) in
          (added ∙ ap (push nodes) (u.0 ∙ sym (tree_here w.1)) ∙ sym w.2, u.1)

  -- names in braces
  pub braces_agree : (e : CursorState) (after : Parts) (result : Result (Unit {0}) Fault) → Misses s.text Punctuator (codes "*") a.last → SpecifiersComplete a e high ImportSpecifier nodes after result → ClauseComplete s e high before after result
  braces_agree e after result missed complete ps to given = let l = left ps to given in of l.rest l.given l.parts l.lower
    where
      of : (rest : Parts) → FurtherGiven s.text rest a.last to → join before ps ≡ join nodes rest → (parts_height ps ≤ high → parts_height rest ≤ high) → Agrees (parts_height ps ≤ high) (λ _. (after ≡ join before ps) × (e.last ≡ to)) result
      of _ (namespace {n = m} its d) parts lower = absurd (not_missed missed (namespace_form s.text m its d).star)
      of rest (in_braces {x = x} r names) parts lower =
          agrees_map (parts_height rest ≤ high) (parts_height ps ≤ high) (λ _. (after ≡ join nodes rest) × (e.last ≡ to)) (λ _. (after ≡ join before ps) × (e.last ≡ to)) result
          (complete rest x to refl (subst (λ v. ReadsHere v Punctuator (codes "{") a.last x) (sym same) r) (subst (λ v. NamesGiven v ImportSpecifier rest x to) (sym same) names)) lower (λ u same. (same.0 ∙ sym parts, same.1))

-- where a part is pushed in the end
pub pushed_ok : {A B : Type 0} (result : Result (Unit {0}) Fault) → IfOk result (λ _. A) → (A → B) → IfOk result (λ _. B)
pushed_ok (Ok x) h f = f h
pushed_ok (Err fault) h f = tt

pub pushed_agrees : {A : Type 0} (old : Parts) (s z : CursorState) (high : ℕ) (before after : Parts) (result : Result (Unit {0}) Fault) → IfOk result (λ _. A) → IfErr result (λ fault. (fault ≡ OutOfMemory) × (after ≡ old)) → (A → ClauseComplete s z high before after (Ok tt)) → ClauseComplete s z high before after result
pushed_agrees old s z high before after (Ok x) h unheld f = f h
pushed_agrees old s z high before after (Err fault) h unheld f = λ ps to given. refuses_memory (parts_height ps ≤ high) fault unheld.0
