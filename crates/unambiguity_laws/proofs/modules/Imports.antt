-- What stands behind `import` in a module is the only thing there (ImportDeclaration; 16.2.2 of the 13th edition).
use Rattle.std.proofs.Common.{◌≡◌, ℕ, true, false, List, [], ◌∷◌, ◌++◌, refl, sym, ap, ◌∙◌, subst, ◌⊎◌, inl, inr}
use Rattle.std.specs.Prelude.{codes, IsTrue}
use Rattle.std.proofs.lemmas.Bool.{false≢true}
use Rattle.tokens.specs.declared.token.TokenClass.TheVariants.{IdentifierName, Punctuator}
use Rattle.tree.specs.declared.kind.Kind.TheVariants.{Identifier, Literal, ImportDefaultSpecifier, ImportNamespaceSpecifier, ImportSpecifier}
use Rattle.tree.specs.declared.kind.Pair.{Pair}
use Rattle.tree.specs.Tree.{Tree, node, Parts, none, part, gap, bare_parts, kind_of}
use Rattle.language.specs.declared.Rank.TheVariants.{Expression}
use Rattle.language.specs.declared.Start.TheVariants.{Any}
use Rattle.language.specs.declared.Edge.TheVariants.{Closed}
use Rattle.language.specs.FirstPart.{lead}
use Rattle.language.specs.Vocabulary.{is}
use Rattle.language.specs.Pieces.{Piece, directive_string, specifier, Spelling, put, only, sign, term, sp}
use Rattle.language.specs.Statements.{from_source, braces, named_imports, imports, end_of}
use Rattle.language.specs.Token.{Token}
use Rattle.language.specs.Promises.{IsDetermined}
use Rattle.language.specs.Grammar.{ways}
use Rattle.language.specs.Derivation.{Among, first, later, Reads, Runs, Step, Placed}
use Rattle.language.proofs.table.Begins.{goes_to, retell}
use Rattle.language.proofs.table.ForDeclarationWays.{two_signs}
use Rattle.language.proofs.table.StatementWays.{pieces_of_one}
use Rattle.language.proofs.table.SoleWays.{same_span}
use Rattle.language.proofs.climbing.AsExpressions.{quoted_form}
use Rattle.language.proofs.climbing.BinaryTurns.{same_node}
use Rattle.language.proofs.climbing.Conditionals.{same_sign}
use Rattle.language.proofs.covers.CoverReadings.{name_or_sign}
use Rattle.language.proofs.list_loops.FirstPieces.{run_token, run_laid, run_part, run_the_part}
use Rattle.language.proofs.list_loops.PiecesSoFar.{run_end}
use Rattle.unambiguity_laws.proofs.statements.FunctionForms.{names_same}
use Rattle.unambiguity_laws.proofs.statements.StatementEnds.{end_behind, end_once}
use Rattle.unambiguity_laws.proofs.modules.ModuleWords.{Leaf, string_leaf, leaf_same, leaf_no_sign, From, from_form, from_same}
use Rattle.unambiguity_laws.proofs.modules.Specifiers.{DefaultName, NamespaceName, default_form, namespace_form}
use Rattle.unambiguity_laws.proofs.modules.SpecifierLists.{Listed, close, import_list, listed_same}
use Rattle.tokens.specs.Goals.{allows}
use Rattle.tokens.specs.declared.token.Goal.TheVariants.{Div}
use Rattle.tree.specs.declared.kind.Flags.{Flags}

-- one of two ways
two_ways : {x : Spelling} {A B : List Piece} → Among x (only A ++ only B) → (x.pieces ≡ A) ⊎ (x.pieces ≡ B)
two_ways first = inl refl
two_ways (later first) = inr refl
two_ways (later (later h)) = elim h [ ]

module _ (S : Type 0) (Next : S → Token → S → Type 0) (behind : S → Token) (det : IsDetermined S Next behind) where
  -- the whole module's name, or names between braces, and the source
  pub data Clause (s e : S) (ps : Parts) (P : List Pair) : Type 0 where
    namespace : {n : Tree} {k : S} {qs : Parts} → NamespaceName S Next behind det n s k [] → From S Next behind det k e qs P → ps ≡ part n qs → Clause s e ps P
    between_braces : {x : S} {t : Token} → Reads S Next behind Punctuator (codes "{") s t x → Listed S Next behind det ImportSpecifier (From S Next behind det) x e ps P → Clause s e ps P

  -- behind a default name
  pub data BehindName (s e : S) (ps : Parts) (P : List Pair) : Type 0 where
    nothing_else : From S Next behind det s e ps P → BehindName s e ps P
    and_clause : {x : S} {t : Token} → Reads S Next behind Punctuator (codes ",") s t x → Clause x e ps P → BehindName s e ps P

  -- behind `import`
  pub data Import (s e : S) (ps : Parts) (P : List Pair) : Type 0 where
    source_alone : {n : Tree} {k : S} → Leaf S Next behind det n s k [] → kind_of n ≡ Literal → Step S Next behind (end_behind Closed) k e → ps ≡ part n none → P ≡ [] → Import s e ps P
    no_default : Clause s e ps P → Import s e ps P
    with_default_name : {n : Tree} {k : S} {qs : Parts} → DefaultName S Next behind det n s k [] → BehindName k e qs P → ps ≡ part n qs → Import s e ps P

  -- no name but braces
  no_names : {o : ℕ} {ps : Parts} {s e : S} {P : List Pair} → Runs ways S Next behind o (goes_to Expression true Any (braces ++ from_source)) ps s e P → Clause s e ps P
  no_names d =
      let a = run_token S Next behind d in
      let b = run_token S Next behind a.runs in
      between_braces a.reads (close b.reads (from_form S Next behind det b.runs))

  names_clause : {o : ℕ} {ps : Parts} {s e : S} {P : List Pair} → Runs ways S Next behind o (goes_to Expression true Any (named_imports (bare_parts ps))) ps s e P → Clause s e ps P
  names_clause {ps = ps} d = let a = run_token S Next behind d in between_braces a.reads (import_list S Next behind det ps a.runs)

  empty_name : {n : Tree} {s e : S} {P : List Pair} → NamespaceName S Next behind det n s e P → NamespaceName S Next behind det n s e []
  empty_name u = record { st = u.st; en = u.en; left = u.left; star = u.star; word = u.word; x = u.x; y = u.y; tree = u.tree; placed = u.placed; begins = u.begins; reads = u.reads; leaf = u.leaf; pairs = refl }

  empty_default : {n : Tree} {s e : S} {P : List Pair} → DefaultName S Next behind det n s e P → DefaultName S Next behind det n s e []
  empty_default u = record { st = u.st; en = u.en; left = u.left; tree = u.tree; placed = u.placed; leaf = u.leaf; kind = u.kind; pairs = refl }

  namespace_clause : {o : ℕ} {w : List ℕ} {g : Flags} {st en : ℕ} {rs ps : Parts} {s e : S} {P : List Pair} → Runs ways S Next behind o (goes_to Expression true Any (put specifier ∷ from_source)) (part (node ImportNamespaceSpecifier w g st en rs) ps) s e P →
      Clause s e (part (node ImportNamespaceSpecifier w g st en rs) ps) P
  namespace_clause {rs = rs} {ps} {s} {e} {P} d =
      let a = run_the_part S Next behind d in
      let u = namespace_form S Next behind det rs a.spelled in
      namespace (empty_name u) (subst (λ v. From S Next behind det a.mid e ps v) (sym (a.pairs ∙ ap (λ v. v ++ a.more) u.pairs)) (from_form S Next behind det a.runs)) refl

  -- what is behind a default name
  default_import : {o : ℕ} {w : List ℕ} {g : Flags} {st en : ℕ} {rs ps : Parts} (qs : List Piece) {s e : S} {P : List Pair} → ((k : S) (Q : List Pair) → Runs ways S Next behind o (goes_to Expression true Any qs) ps k e Q → BehindName k e ps Q) →
      Runs ways S Next behind o (goes_to Expression true Any (put specifier ∷ qs)) (part (node ImportDefaultSpecifier w g st en rs) ps) s e P → Import s e (part (node ImportDefaultSpecifier w g st en rs) ps) P
  default_import {rs = rs} {ps} qs {s} {e} {P} rest d =
      let a = run_the_part S Next behind d in
      let u = default_form S Next behind det rs a.spelled in
      with_default_name (empty_default u) (subst (λ v. BehindName a.mid e ps v) (sym (a.pairs ∙ ap (λ v. v ++ a.more) u.pairs)) (rest a.mid a.more a.runs)) refl

  -- the word and what stands behind it
  pub data ImportAt (s e : S) (ps : Parts) (P : List Pair) : Type 0 where
    import_at : {x : S} {t : Token} → Reads S Next behind IdentifierName (codes "import") s t x → Import x e ps P → ImportAt s e ps P

  -- a string with nothing before it, or with braces
  literal : {o : ℕ} {qs : List Piece} {ps : Parts} {s e : S} {P : List Pair} → (qs ≡ term "import" ∷ sp ∷ put directive_string ∷ end_of Closed ∷ []) ⊎ (qs ≡ term "import" ∷ sp ∷ braces ++ from_source) → Runs ways S Next behind o (goes_to Expression true Any qs) ps s e P → ImportAt s e ps P
  literal (inl q) d =
      let a = run_token S Next behind (retell S Next behind (ap (goes_to Expression true Any) q) d) in
      let b = run_part S Next behind (run_laid S Next behind a.runs) in
      let z = run_end S Next behind det b.runs in
      let f = string_leaf S Next behind det b.spelled in
      import_at a.reads (source_alone (subst (λ v. Leaf S Next behind det b.item a.mid b.mid v) f.pairs f) (ap kind_of (quoted_form S Next behind det b.spelled).tree) z.ends (b.parts ∙ ap (part b.item) z.parts) (b.pairs ∙ ap (λ v. v ++ b.more) f.pairs ∙ z.pairs))
  literal (inr q) d = let a = run_token S Next behind (retell S Next behind (ap (goes_to Expression true Any) q) d) in import_at a.reads (no_default (no_names (run_laid S Next behind a.runs)))

  two_defaults : {o : ℕ} {w : List ℕ} {g : Flags} {st en : ℕ} {rs : Parts} {qs : List Piece} {ps : Parts} {s e : S} {P : List Pair} →
      (qs ≡ term "import" ∷ sp ∷ put specifier ∷ from_source) ⊎ (qs ≡ term "import" ∷ sp ∷ put specifier ∷ sign "," ∷ sp ∷ braces ++ from_source) → Runs ways S Next behind o (goes_to Expression true Any qs) (part (node ImportDefaultSpecifier w g st en rs) ps) s e P → ImportAt s e (part (node ImportDefaultSpecifier w g st en rs) ps) P
  two_defaults (inl q) d =
      let a = run_token S Next behind (retell S Next behind (ap (goes_to Expression true Any) q) d) in
      import_at a.reads (default_import from_source (λ k Q d. nothing_else (from_form S Next behind det d)) (run_laid S Next behind a.runs))
  two_defaults (inr q) d =
      let a = run_token S Next behind (retell S Next behind (ap (goes_to Expression true Any) q) d) in
      import_at a.reads (default_import (sign "," ∷ sp ∷ braces ++ from_source) (λ k Q d. let c = run_token S Next behind d in and_clause c.reads (no_names (run_laid S Next behind c.runs))) (run_laid S Next behind a.runs))

  -- what stands behind the word, by the kind of the first part
  pub import_parts : {o : ℕ} (ps : Parts) {x : Spelling} {s e : S} {P : List Pair} → Among x (imports (lead (bare_parts ps)) (bare_parts ps)) → Runs ways S Next behind o (goes_to Expression true Any x.pieces) ps s e P → ImportAt s e ps P
  import_parts none h d = elim h [ ]
  import_parts (gap ps) h d = elim h [ ]
  import_parts (part (node Literal w g st en rs) none) h d = literal (two_ways h) d
  import_parts (part (node Literal w g st en rs) (part m ps)) h d = elim h [ ]
  import_parts (part (node Literal w g st en rs) (gap ps)) h d = elim h [ ]
  import_parts (part (node ImportNamespaceSpecifier w g st en rs) (part m none)) h d = let a = run_token S Next behind (retell S Next behind (ap (goes_to Expression true Any) (pieces_of_one h)) d) in import_at a.reads (no_default (namespace_clause (run_laid S Next behind a.runs)))
  import_parts (part (node ImportNamespaceSpecifier w g st en rs) (part m (part l ps))) h d = elim h [ ]
  import_parts (part (node ImportNamespaceSpecifier w g st en rs) (part m (gap ps))) h d = elim h [ ]
  import_parts (part (node ImportNamespaceSpecifier w g st en rs) none) h d = elim h [ ]
  import_parts (part (node ImportNamespaceSpecifier w g st en rs) (gap ps)) h d = elim h [ ]
  import_parts (part (node ImportSpecifier w g st en rs) ps) h d = let a = run_token S Next behind (retell S Next behind (ap (goes_to Expression true Any) (pieces_of_one h)) d) in import_at a.reads (no_default (names_clause (run_laid S Next behind a.runs)))
  import_parts (part (node ImportDefaultSpecifier w g st en rs) none) h d = elim h [ ]
  import_parts (part (node ImportDefaultSpecifier w g st en rs) (gap ps)) h d = elim h [ ]
  import_parts (part (node ImportDefaultSpecifier w g st en rs) (part (node Literal v g' st' en' qs) none)) h d = two_defaults (two_ways h) d
  import_parts (part (node ImportDefaultSpecifier w g st en rs) (part (node Literal v g' st' en' qs) (part m ps))) h d = elim h [ ]
  import_parts (part (node ImportDefaultSpecifier w g st en rs) (part (node Literal v g' st' en' qs) (gap ps))) h d = elim h [ ]
  import_parts (part (node ImportDefaultSpecifier w g st en rs) (part (node ImportNamespaceSpecifier v g' st' en' qs) (part m none))) h d =
      let a = run_token S Next behind (retell S Next behind (ap (goes_to Expression true Any) (pieces_of_one h)) d) in
      import_at a.reads (default_import (sign "," ∷ sp ∷ put specifier ∷ from_source) (λ k Q d. let c = run_token S Next behind d in and_clause c.reads (namespace_clause (run_laid S Next behind c.runs))) (run_laid S Next behind a.runs))
  import_parts (part (node ImportDefaultSpecifier w g st en rs) (part (node ImportNamespaceSpecifier v g' st' en' qs) none)) h d = elim h [ ]
  import_parts (part (node ImportDefaultSpecifier w g st en rs) (part (node ImportNamespaceSpecifier v g' st' en' qs) (gap ps))) h d = elim h [ ]
  import_parts (part (node ImportDefaultSpecifier w g st en rs) (part (node ImportNamespaceSpecifier v g' st' en' qs) (part m (part l ps)))) h d = elim h [ ]
  import_parts (part (node ImportDefaultSpecifier w g st en rs) (part (node ImportNamespaceSpecifier v g' st' en' qs) (part m (gap ps)))) h d = elim h [ ]
  import_parts (part (node ImportDefaultSpecifier w g st en rs) (part (node ImportSpecifier v g' st' en' qs) ps)) h d =
      let a = run_token S Next behind (retell S Next behind (ap (goes_to Expression true Any) (pieces_of_one h)) d) in
      import_at a.reads (default_import (sign "," ∷ sp ∷ named_imports (bare_parts (part (node ImportSpecifier v g' st' en' qs) ps))) (λ k Q d. let c = run_token S Next behind d in and_clause c.reads (names_clause (run_laid S Next behind c.runs))) (run_laid S Next behind a.runs))
  import_parts (part (node ImportDefaultSpecifier w g st en rs) (part (node _ v g' st' en' qs) ps)) h d = elim h [ ]
  import_parts (part (node _ w g st en rs) ps) h d = elim h [ ]

  brace_star : {A : Type 0} {s k k' : S} {t t' : Token} → Reads S Next behind Punctuator (codes "{") s t k → Reads S Next behind Punctuator (codes "*") s t' k' → A
  brace_star r r' = absurd (false≢true (ap (λ w. is w "{") (two_signs S Next behind det refl refl r' r).0))

  clause_same : {s e e' : S} {ps ps' : Parts} {P P' : List Pair} → Clause s e ps P → Clause s e' ps' P' → (e' ≡ e) × (ps' ≡ ps) × (P' ≡ P)
  clause_same (namespace u f p) (between_braces r l) = brace_star r u.begins
  clause_same (between_braces r l) (namespace u f p) = brace_star r u.begins
  clause_same {e' = e'} {ps' = ps'} {P' = P'} (between_braces r l) (between_braces r' l') =
      listed_same S Next behind det (λ x e e' ps ps' P P' f f'. from_same S Next behind det f f') l (subst (λ c. Listed S Next behind det ImportSpecifier (From S Next behind det) c e' ps' P') (same_sign S Next behind det r' r refl).1 l')
  clause_same {s = s} {e' = e'} {P' = P'} (namespace {n = n} {k = k} u f p) (namespace {n = n'} {k = k'} {qs = qs'} u' f' p') =
      let first = (same_sign S Next behind det u'.begins u.begins refl).1 in
      let second = (names_same S Next behind det (subst (λ c. Reads S Next behind IdentifierName (codes "as") c u'.word u'.y) first u'.reads) u.reads).1 in
      let third = leaf_same S Next behind det u.leaf (subst (λ c. Leaf S Next behind det u'.left c k' []) second u'.leaf) in
      let span = same_span S Next behind det {a = specifier} (λ t l. refl) (subst (λ v. Placed S Next behind specifier v s k') u'.tree u'.placed) (subst (λ v. Placed S Next behind specifier v s k) u.tree u.placed) third.0 in
      let tree : n' ≡ n = u'.tree ∙ same_node refl refl refl span.0 span.1 (ap (λ (c : Tree). part c none) third.1) ∙ sym u.tree in
      let rest = from_same S Next behind det f (subst (λ c. From S Next behind det c e' qs' P') third.0 f') in
      (rest.0, p' ∙ (λ i. part (tree i) (rest.1 i)) ∙ sym p, rest.2)

  behind_same : {s e e' : S} {ps ps' : Parts} {P P' : List Pair} → BehindName s e ps P → BehindName s e' ps' P' → (e' ≡ e) × (ps' ≡ ps) × (P' ≡ P)
  behind_same (nothing_else f) (nothing_else f') = from_same S Next behind det f f'
  behind_same (nothing_else f) (and_clause r c) = absurd (name_or_sign S Next behind det refl f.reads r)
  behind_same (and_clause r c) (nothing_else f) = absurd (name_or_sign S Next behind det refl f.reads r)
  behind_same {e' = e'} {ps' = ps'} {P' = P'} (and_clause r c) (and_clause r' c') = clause_same c (subst (λ v. Clause v e' ps' P') (same_sign S Next behind det r' r refl).1 c')

  -- a clause begins with a sign
  leaf_no_clause : {A : Type 0} {n : Tree} {s k e : S} {ps : Parts} {P : List Pair} → Leaf S Next behind det n s k [] → Clause s e ps P → A
  leaf_no_clause l (namespace u f p) = leaf_no_sign S Next behind det refl l u.begins
  leaf_no_clause l (between_braces r x) = leaf_no_sign S Next behind det refl l r

  two_leaves : {A : Type 0} {n m : Tree} {s k k' : S} → Leaf S Next behind det n s k [] → kind_of n ≡ Literal → Leaf S Next behind det m s k' [] → kind_of m ≡ Identifier → A
  two_leaves l h l' h' = let clash : Literal ≡ Identifier = sym h ∙ sym (ap kind_of (leaf_same S Next behind det l l').1) ∙ h' in cc

  pub import_same : {s e e' : S} {ps ps' : Parts} {P P' : List Pair} → Import s e ps P → Import s e' ps' P' → (e' ≡ e) × (ps' ≡ ps) × (P' ≡ P)
  import_same {e' = e'} (source_alone l h z p q) (source_alone l' h' z' p' q') =
      let same = leaf_same S Next behind det l l' in
      (end_once S Next behind det z (subst (λ c. Step S Next behind (end_behind Closed) c e') same.0 z'), p' ∙ ap (λ (c : Tree). part c none) same.1 ∙ sym p, q' ∙ sym q)
  import_same (source_alone l h z p q) (no_default c) = leaf_no_clause l c
  import_same (no_default c) (source_alone l h z p q) = leaf_no_clause l c
  import_same (source_alone l h z p q) (with_default_name u b p') = two_leaves l h u.leaf u.kind
  import_same (with_default_name u b p') (source_alone l h z p q) = two_leaves l h u.leaf u.kind
  import_same (no_default c) (no_default c') = clause_same c c'
  import_same (no_default c) (with_default_name u b p) = leaf_no_clause u.leaf c
  import_same (with_default_name u b p) (no_default c) = leaf_no_clause u.leaf c
  import_same {s = s} {e' = e'} {P' = P'} (with_default_name {n = n} {k = k} u b p) (with_default_name {n = n'} {k = k'} {qs = qs'} u' b' p') =
      let same = leaf_same S Next behind det u.leaf u'.leaf in
      let span = same_span S Next behind det {a = specifier} (λ t l. refl) (subst (λ v. Placed S Next behind specifier v s k') u'.tree u'.placed) (subst (λ v. Placed S Next behind specifier v s k) u.tree u.placed) same.0 in
      let tree : n' ≡ n = u'.tree ∙ same_node refl refl refl span.0 span.1 (ap (λ (c : Tree). part c none) same.1) ∙ sym u.tree in
      let rest = behind_same b (subst (λ c. BehindName c e' qs' P') same.0 b') in
      (rest.0, p' ∙ (λ i. part (tree i) (rest.1 i)) ∙ sym p, rest.2)

  -- no call of `import`, nor a point behind it
  pub import_no_sign : {A : Type 0} {s e k : S} {ps : Parts} {P : List Pair} {t : Token} {w : List ℕ} → IsTrue (allows Div Punctuator w) → (is w "{" ≡ false) → (is w "*" ≡ false) → Reads S Next behind Punctuator w s t k → Import s e ps P → A
  import_no_sign al b c r (source_alone l h z p q) = leaf_no_sign S Next behind det al l r
  import_no_sign al b c r (with_default_name u x p) = leaf_no_sign S Next behind det al u.leaf r
  import_no_sign al b c r (no_default (namespace u f p)) = absurd (false≢true (sym c ∙ ap (λ w. is w "*") (two_signs S Next behind det al refl r u.begins).0))
  import_no_sign al b c r (no_default (between_braces r' l)) = absurd (false≢true (sym b ∙ ap (λ w. is w "{") (two_signs S Next behind det al refl r r').0))
