-- Names of an import or export, with or without another behind `as` (ImportSpecifier, ExportSpecifier; 16.2 of the 13th edition).
use Rattle.std.proofs.Common.{◌≡◌, ℕ, true, false, List, [], ◌∷◌, ◌++◌, refl, sym, ap, ◌∙◌, subst}
use Rattle.std.specs.Prelude.{IsTrue, codes}
use Rattle.tokens.specs.declared.token.TokenClass.TheVariants.{IdentifierName, Punctuator}
use Rattle.tokens.specs.declared.token.Goal.TheVariants.{Div}
use Rattle.tokens.specs.Goals.{allows}
use Rattle.tree.specs.declared.kind.Kind.{Kind}
use Rattle.tree.specs.declared.kind.Kind.TheVariants.{Identifier, ImportDefaultSpecifier, ImportNamespaceSpecifier, ImportSpecifier, ExportSpecifier}
use Rattle.tree.specs.declared.kind.Flags.{Flags}
use Rattle.tree.specs.declared.kind.Form.{Form}
use Rattle.tree.specs.declared.kind.Form.TheVariants.{Init, Shorthand}
use Rattle.tree.specs.declared.kind.Pair.{Pair}
use Rattle.tree.specs.Tree.{Tree, node, Parts, none, part, gap, plain, bare, bare_parts, kind_of}
use Rattle.tree.specs.Uses.{has_text, used_flags, is_lean}
use Rattle.tree.proofs.Lean.{lean_flags, lean_text}
use Rattle.language.specs.declared.Rank.TheVariants.{Expression}
use Rattle.language.specs.declared.Start.TheVariants.{Any}
use Rattle.language.specs.Vocabulary.{is_identifier}
use Rattle.language.specs.Pieces.{Role, space, name, specifier, Spelling, put, sign, term, sp, tok, sub, lay}
use Rattle.language.specs.Statements.{specifiers}
use Rattle.language.specs.Token.{Token}
use Rattle.language.specs.Promises.{IsDetermined}
use Rattle.language.specs.Grammar.{ways, spellings}
use Rattle.language.specs.Derivation.{Among, Reads, Spells, direct, Runs, Placed}
use Rattle.language.proofs.table.Begins.{goes_to, retell}
use Rattle.language.proofs.table.Beginnings.{form_flags}
use Rattle.language.proofs.table.ViewIsComplete.{way_of}
use Rattle.language.proofs.table.StatementWays.{pieces_of_one}
use Rattle.language.proofs.table.SoleWays.{same_span}
use Rattle.language.proofs.climbing.BinaryTurns.{same_node}
use Rattle.language.proofs.climbing.Leaves.{name_form}
use Rattle.language.proofs.climbing.RightOperands.{one_part}
use Rattle.language.proofs.covers.CoverReadings.{name_or_sign}
use Rattle.language.proofs.list_loops.FirstPieces.{run_token, run_laid, run_part}
use Rattle.unambiguity_laws.proofs.statements.FunctionForms.{names_same}
use Rattle.unambiguity_laws.proofs.modules.ModuleWords.{Leaf, name_leaf, module_leaf, leaf_same, leaf_no_sign}

pub lean_node : (k : Kind) (w : List ℕ) (g : Flags) (st en : ℕ) (ps : Parts) → has_text k ≡ false → is_lean (bare (node k w g st en ps)) ≡ true → node k w g st en ps ≡ node k [] (used_flags k g) st en ps
lean_node k w g st en ps t l = same_node refl (lean_text (bare (node k w g st en ps)) l t) (lean_flags (bare (node k w g st en ps)) l) refl refl refl

module _ (S : Type 0) (Next : S → Token → S → Type 0) (behind : S → Token) (det : IsDetermined S Next behind) where
  -- the name of a default import
  pub record DefaultName (n : Tree) (s e : S) (P : List Pair) : Type 0 where
    pub st : ℕ
    pub en : ℕ
    pub left : Tree
    pub tree : n ≡ node ImportDefaultSpecifier [] plain st en (part left none)
    pub placed : Placed S Next behind specifier n s e
    pub leaf : Leaf S Next behind det left s e []
    pub kind : kind_of left ≡ Identifier
    pub pairs : P ≡ []

  -- the name of a whole module, behind `* as`
  pub record NamespaceName (n : Tree) (s e : S) (P : List Pair) : Type 0 where
    pub st : ℕ
    pub en : ℕ
    pub left : Tree
    pub star : Token
    pub word : Token
    pub x : S
    pub y : S
    pub tree : n ≡ node ImportNamespaceSpecifier [] plain st en (part left none)
    pub placed : Placed S Next behind specifier n s e
    pub begins : Reads S Next behind Punctuator (codes "*") s star x
    pub reads : Reads S Next behind IdentifierName (codes "as") x word y
    pub leaf : Leaf S Next behind det left y e []
    pub pairs : P ≡ []

  -- a name alone, or one with another behind `as`
  pub data Specified (K : Kind) (n : Tree) (s e : S) : Type 0 where
    alone : {l : Tree} {st en : ℕ} → n ≡ node K [] (form_flags Shorthand) st en (part l none) → Placed S Next behind specifier n s e → Leaf S Next behind det l s e [] → Specified K n s e
    renamed : {m l : Tree} {st en : ℕ} {x y : S} {t : Token} → n ≡ node K [] plain st en (part m (part l none)) → Placed S Next behind specifier n s e → Leaf S Next behind det m s x [] → Reads S Next behind IdentifierName (codes "as") x t y → Leaf S Next behind det l y e [] → Specified K n s e

  empty_leaf : {n : Tree} {s e : S} {P : List Pair} → Leaf S Next behind det n s e P → Leaf S Next behind det n s e []
  empty_leaf {n} {s} {e} l = record { class = l.class; text = l.text; sign = l.sign; reads = l.reads; free = l.free; no_sign = l.no_sign; tree = l.tree; pairs = refl }

  pub default_form : {o : ℕ} {w : List ℕ} {g : Flags} {st en : ℕ} (ps : Parts) {s e : S} {P : List Pair} → Spells ways S Next behind o specifier (node ImportDefaultSpecifier w g st en ps) s e P → DefaultName (node ImportDefaultSpecifier w g st en ps) s e P
  unfolding spellings
  default_form {o} {w} {g} {st} {en} (part l none) {s} {e} {P} (direct qs h pl d) = let v = way_of h in of (retell S Next behind (v.is ∙ ap (goes_to Expression true Any) (pieces_of_one v.listed)) d) v.lean
    where
      of : Runs ways S Next behind o (sub name ∷ []) (part l none) s e P → is_lean (bare (node ImportDefaultSpecifier w g st en (part l none))) ≡ true → DefaultName (node ImportDefaultSpecifier w g st en (part l none)) s e P
      of d lean =
          let a = one_part S Next behind det d in
          let f = name_leaf S Next behind det a.spelled in
          record { st = st; en = en; left = a.operand; tree = lean_node ImportDefaultSpecifier w g st en (part l none) refl lean ∙ ap (node ImportDefaultSpecifier [] plain st en) a.parts; placed = pl; leaf = empty_leaf f; kind = ap kind_of (name_form S Next behind det a.spelled).0.tree; pairs = f.pairs }
  default_form (part l (part m ps)) (direct qs h pl d) = elim ((way_of h).listed) [ ]
  default_form (part l (gap ps)) (direct qs h pl d) = elim ((way_of h).listed) [ ]
  default_form none (direct qs h pl d) = elim ((way_of h).listed) [ ]
  default_form (gap ps) (direct qs h pl d) = elim ((way_of h).listed) [ ]

  pub namespace_form : {o : ℕ} {w : List ℕ} {g : Flags} {st en : ℕ} (ps : Parts) {s e : S} {P : List Pair} → Spells ways S Next behind o specifier (node ImportNamespaceSpecifier w g st en ps) s e P → NamespaceName (node ImportNamespaceSpecifier w g st en ps) s e P
  unfolding spellings
  namespace_form {o} {w} {g} {st} {en} (part l none) {s} {e} {P} (direct qs h pl d) = let v = way_of h in of (retell S Next behind (v.is ∙ ap (goes_to Expression true Any) (pieces_of_one v.listed)) d) v.lean
    where
      of : Runs ways S Next behind o (goes_to Expression true Any (sign "*" ∷ sp ∷ term "as" ∷ sp ∷ put name ∷ [])) (part l none) s e P → is_lean (bare (node ImportNamespaceSpecifier w g st en (part l none))) ≡ true → NamespaceName (node ImportNamespaceSpecifier w g st en (part l none)) s e P
      of d lean =
          let a = run_token S Next behind d in
          let b = run_token S Next behind (run_laid S Next behind a.runs) in
          let c = one_part S Next behind det (run_laid S Next behind b.runs) in
          let f = name_leaf S Next behind det c.spelled in
          record {
            st = st;
            en = en;
            left = c.operand;
            star = a.sign;
            word = b.sign;
            x = a.mid;
            y = b.mid;
            tree = lean_node ImportNamespaceSpecifier w g st en (part l none) refl lean ∙ ap (node ImportNamespaceSpecifier [] plain st en) c.parts;
            placed = pl;
            begins = a.reads;
            reads = b.reads;
            leaf = empty_leaf f;
            pairs = f.pairs;
          }
  namespace_form (part l (part m ps)) (direct qs h pl d) = elim ((way_of h).listed) [ ]
  namespace_form (part l (gap ps)) (direct qs h pl d) = elim ((way_of h).listed) [ ]
  namespace_form none (direct qs h pl d) = elim ((way_of h).listed) [ ]
  namespace_form (gap ps) (direct qs h pl d) = elim ((way_of h).listed) [ ]

  -- a specifier and that no parentheses group in it
  pub record Seen (K : Kind) (n : Tree) (s e : S) (P : List Pair) : Type 0 where
    pub specified : Specified K n s e
    pub pairs : P ≡ []

  -- a name alone
  lone : {o : ℕ} {K : Kind} {st en : ℕ} {n : Tree} {ps : Parts} {a : Role} {s e : S} {P : List Pair} → n ≡ node K [] (form_flags Shorthand) st en ps → Placed S Next behind specifier n s e → ((m : Tree) (A : List Pair) → Spells ways S Next behind o a m s e A → Leaf S Next behind det m s e A) →
      Runs ways S Next behind o (sub a ∷ []) ps s e P → Seen K n s e P
  lone {K = K} {st = st} {en} {P = P} tree pl leaf d =
      let a = one_part S Next behind det d in
      let f = leaf a.operand P a.spelled in
      record { specified = alone (tree ∙ ap (node K [] (form_flags Shorthand) st en) a.parts) pl (empty_leaf f); pairs = f.pairs }

  -- a name with another
  both : {o : ℕ} {K : Kind} {st en : ℕ} {n : Tree} {ps : Parts} {a b : Role} {s e : S} {P : List Pair} → n ≡ node K [] plain st en ps → Placed S Next behind specifier n s e → ((m : Tree) (x y : S) (A : List Pair) → Spells ways S Next behind o a m x y A → Leaf S Next behind det m x y A) →
      ((m : Tree) (x y : S) (A : List Pair) → Spells ways S Next behind o b m x y A → Leaf S Next behind det m x y A) → Runs ways S Next behind o (sub a ∷ lay space ∷ tok IdentifierName (codes "as") ∷ lay space ∷ sub b ∷ []) ps s e P → Seen K n s e P
  both {K = K} {st} {en} {s = s} {e} tree pl first second d =
      let a = run_part S Next behind d in
      let b = run_token S Next behind (run_laid S Next behind a.runs) in
      let c = one_part S Next behind det (run_laid S Next behind b.runs) in
      let f = first a.item s a.mid a.one a.spelled in
      let g = second c.operand b.mid e a.more c.spelled in
      record {
        specified = renamed (tree ∙ ap (node K [] plain st en) (a.parts ∙ ap (part a.item) c.parts)) pl (empty_leaf f) b.reads (empty_leaf g);
        pairs = a.pairs ∙ ap (λ v. v ++ a.more) f.pairs ∙ g.pairs;
      }

  pub import_form : {o : ℕ} {w : List ℕ} {g : Flags} {st en : ℕ} (ps : Parts) {s e : S} {P : List Pair} → Spells ways S Next behind o specifier (node ImportSpecifier w g st en ps) s e P → Seen ImportSpecifier (node ImportSpecifier w g st en ps) s e P
  unfolding spellings
  import_form {o} {w} {g} {st} {en} ps {s} {e} {P} (direct qs h pl d) = let v = way_of h in of g.form refl ps refl (lean_node ImportSpecifier w g st en ps refl v.lean) v.listed (retell S Next behind v.is d)
    where
      of : (f : Form) → g.form ≡ f → (rs : Parts) → rs ≡ ps → node ImportSpecifier w g st en ps ≡ node ImportSpecifier [] (form_flags g.form) st en ps → {x : Spelling} → Among x (specifiers ImportSpecifier f (bare_parts rs)) → Runs ways S Next behind o (goes_to Expression true Any x.pieces) ps s e P → Seen ImportSpecifier (node ImportSpecifier w g st en ps) s e P
      of Shorthand fe (part n none) re tree l d = lone (tree ∙ ap (λ f. node ImportSpecifier [] (form_flags f) st en ps) fe) pl (λ m A d. name_leaf S Next behind det d) (retell S Next behind (ap (goes_to Expression true Any) (pieces_of_one l)) d)
      of Init fe (part m (part n none)) re tree l d = both (tree ∙ ap (λ f. node ImportSpecifier [] (form_flags f) st en ps) fe) pl (λ m' x y A d. module_leaf S Next behind det (is_identifier (kind_of (bare m))) d) (λ m x y A d. name_leaf S Next behind det d) (retell S Next behind (ap (goes_to Expression true Any) (pieces_of_one l)) d)
      of _ fe rs re tree l d = elim l [ ]

  pub export_form : {o : ℕ} {w : List ℕ} {g : Flags} {st en : ℕ} (ps : Parts) {s e : S} {P : List Pair} → Spells ways S Next behind o specifier (node ExportSpecifier w g st en ps) s e P → Seen ExportSpecifier (node ExportSpecifier w g st en ps) s e P
  unfolding spellings
  export_form {o} {w} {g} {st} {en} ps {s} {e} {P} (direct qs h pl d) = let v = way_of h in of g.form refl ps refl (lean_node ExportSpecifier w g st en ps refl v.lean) v.listed (retell S Next behind v.is d)
    where
      of : (f : Form) → g.form ≡ f → (rs : Parts) → rs ≡ ps → node ExportSpecifier w g st en ps ≡ node ExportSpecifier [] (form_flags g.form) st en ps → {x : Spelling} → Among x (specifiers ExportSpecifier f (bare_parts rs)) → Runs ways S Next behind o (goes_to Expression true Any x.pieces) ps s e P → Seen ExportSpecifier (node ExportSpecifier w g st en ps) s e P
      of Shorthand fe (part n none) re tree l d = lone (tree ∙ ap (λ f. node ExportSpecifier [] (form_flags f) st en ps) fe) pl (λ m A d. module_leaf S Next behind det (is_identifier (kind_of (bare n))) d) (retell S Next behind (ap (goes_to Expression true Any) (pieces_of_one l)) d)
      of Init fe (part m (part n none)) re tree l d = both (tree ∙ ap (λ f. node ExportSpecifier [] (form_flags f) st en ps) fe) pl (λ m' x y A d. module_leaf S Next behind det (is_identifier (kind_of (bare m))) d) (λ m' x y A d. module_leaf S Next behind det (is_identifier (kind_of (bare n))) d) (retell S Next behind (ap (goes_to Expression true Any) (pieces_of_one l)) d)
      of _ fe rs re tree l d = elim l [ ]

  -- no specifier begins with a sign
  pub specified_no_sign : {A : Type 0} {K : Kind} {n : Tree} {s e k : S} {w : List ℕ} {t : Token} → IsTrue (allows Div Punctuator w) → Specified K n s e → Reads S Next behind Punctuator w s t k → A
  specified_no_sign al (alone tree pl l) r = leaf_no_sign S Next behind det al l r
  specified_no_sign al (renamed tree pl m a l) r = leaf_no_sign S Next behind det al m r

  as_or_sign : {A : Type 0} {s k k' : S} {w : List ℕ} {t t' : Token} → IsTrue (allows Div Punctuator w) → Reads S Next behind IdentifierName (codes "as") s t k → Reads S Next behind Punctuator w s t' k' → A
  as_or_sign al a r = absurd (name_or_sign S Next behind det al a r)

  -- before signs one alone stands at a place
  pub specified_same : {K : Kind} {n n' : Tree} {s e e' k k' : S} {w w' : List ℕ} {t t' : Token} → Specified K n s e → IsTrue (allows Div Punctuator w) → Reads S Next behind Punctuator w e t k → Specified K n' s e' → IsTrue (allows Div Punctuator w') → Reads S Next behind Punctuator w' e' t' k' → (e' ≡ e) × (n' ≡ n)
  specified_same {s = s} {e} {e'} (alone tree pl l) al r (alone tree' pl' l') al' r' =
      let same = leaf_same S Next behind det l l' in
      let span = same_span S Next behind det {a = specifier} (λ t l. refl) (subst (λ v. Placed S Next behind specifier v s e') tree' pl') (subst (λ v. Placed S Next behind specifier v s e) tree pl) same.0 in
      (same.0, tree' ∙ same_node refl refl refl span.0 span.1 (ap (λ (c : Tree). part c none) same.1) ∙ sym tree)
  specified_same {t = t} {t' = t'} (alone tree pl l) al r (renamed {y = y} {t = u} tree' pl' m' a' l') al' r' =
      as_or_sign al (subst (λ c. Reads S Next behind IdentifierName (codes "as") c u y) (leaf_same S Next behind det l m').0 a') r
  specified_same (renamed {y = y} {t = u} tree pl m a l) al r (alone tree' pl' l') al' r' =
      as_or_sign al' (subst (λ c. Reads S Next behind IdentifierName (codes "as") c u y) (leaf_same S Next behind det l' m).0 a) r'
  specified_same {s = s} {e} {e'} (renamed tree pl m a l) al r (renamed {l = n'} {y = y} {t = u} tree' pl' m' a' l') al' r' =
      let first = leaf_same S Next behind det m m' in
      let there = (names_same S Next behind det (subst (λ c. Reads S Next behind IdentifierName (codes "as") c u y) first.0 a') a).1 in
      let second = leaf_same S Next behind det l (subst (λ c. Leaf S Next behind det n' c e' []) there l') in
      let span = same_span S Next behind det {a = specifier} (λ t l. refl) (subst (λ v. Placed S Next behind specifier v s e') tree' pl') (subst (λ v. Placed S Next behind specifier v s e) tree pl) second.0 in
      (second.0, tree' ∙ same_node refl refl refl span.0 span.1 (λ i. part (first.1 i) (part (second.1 i) none)) ∙ sym tree)
