-- A given import by what stands behind its word: a source alone, or a clause, `from` and a source (ImportDeclaration; ECMA-262, 13th edition, 16.2.2).
use Rattle.std.proofs.Common.{◌≡◌, ◌⊎◌, inl, inr, ℕ, true, List, [], ◌∷◌, ◌++◌, refl, ap, ◌∙◌, subst}
use Rattle.std.specs.Prelude.{codes}
use Rattle.tokens.specs.declared.token.TokenClass.TheVariants.{IdentifierName, Punctuator}
use Rattle.tree.specs.declared.kind.Kind.TheVariants.{Literal, ImportDefaultSpecifier, ImportNamespaceSpecifier, ImportSpecifier}
use Rattle.tree.specs.declared.kind.Flags.{Flags}
use Rattle.tree.specs.declared.kind.Pair.{Pair}
use Rattle.tree.specs.Tree.{Tree, node, Parts, none, part, gap, push, bare_parts}
use Rattle.language.specs.declared.Rank.TheVariants.{Expression}
use Rattle.language.specs.declared.Start.TheVariants.{Any}
use Rattle.language.specs.declared.Edge.TheVariants.{Closed}
use Rattle.language.specs.FirstPart.{lead}
use Rattle.language.specs.Pieces.{Role, Piece, PieceOf, directive_string, specifier, Spelling, sub, put, only, sign, term, sp, ending, behind, listed_before}
use Rattle.language.specs.Statements.{from_source, braces, imported, named_imports, imports, end_of}
use Rattle.language.specs.Token.{Token}
use Rattle.language.specs.Derivation.{Among, first, later, Step, without_mark, with_mark}
use Rattle.language.proofs.table.Begins.{goes_to, retell}
use Rattle.language.proofs.table.StatementWays.{pieces_of_one}
use Rattle.language.proofs.list_loops.FirstPieces.{run_token, run_laid, run_never, run_part, run_the_part}
use Rattle.language.proofs.list_loops.PiecesSoFar.{run_end, run_step}
use Rattle.language.proofs.covers.CoverReadings.{name_or_sign}
use Rattle.token_cursor.specs.SourceText.{SourceText, SeenNext, behind_in}
use Rattle.token_cursor.specs.Seen.{ReadsHere}
use Rattle.token_cursor.proofs.SeenTokens.{seen_determined}
use Rattle.unambiguity_laws.proofs.modules.Specifiers.{default_form, namespace_form, import_form}
use Rattle.recursive_descent.specs.Soundness.{RunsIn}
use Rattle.recursive_descent.specs.Spelled.{SpellsIn}
use Rattle.recursive_descent.specs.ModuleItems.{NamesGiven, closing, one_more, last_one, FurtherGiven, namespace, in_braces, ClauseGiven, default_name, default_and, no_default}
use Rattle.recursive_descent.proofs.complete_expressions.Agreement.{read_here}

two_ways : {x : Spelling} {A B : List Piece} → Among x (only A ++ only B) → (x.pieces ≡ A) ⊎ (x.pieces ≡ B)
two_ways first = inl refl
two_ways (later first) = inr refl
two_ways (later (later h)) = elim h [ ]

module _ (text : SourceText) where
  -- `from`, a source and the end
  pub record FromGiven (source : Tree) (s to : Token) : Type 0 where
    pub x : Token
    pub m : Token
    pub o : ℕ
    pub Q : List Pair
    pub word : ReadsHere text IdentifierName (codes "from") s x
    pub spelled : SpellsIn text o directive_string source x m Q
    pub ends : Step Token (SeenNext text) (behind_in text) (ending (behind Closed)) m to

  pub record SourceGiven (ps : Parts) (s to : Token) : Type 0 where
    pub source : Tree
    pub parts : ps ≡ part source none
    pub given : FromGiven source s to

  pub from_given : {o : ℕ} {ps : Parts} {s e : Token} {P : List Pair} → RunsIn text o (goes_to Expression true Any from_source) ps s e P → SourceGiven ps s e
  from_given {o} d =
      let a = run_token Token (SeenNext text) (behind_in text) (run_laid Token (SeenNext text) (behind_in text) d) in
      let b = run_part Token (SeenNext text) (behind_in text) (run_laid Token (SeenNext text) (behind_in text) a.runs) in
      let z = run_end Token (SeenNext text) (behind_in text) (seen_determined text) b.runs in
      record { source = b.item; parts = b.parts ∙ ap (part b.item) z.parts; given = record { x = a.mid; m = b.mid; o = o; Q = b.one; word = read_here text a.reads; spelled = b.spelled; ends = z.ends } }

  -- names between braces and what stands behind these
  pub record ListGiven (ps : Parts) (s to : Token) : Type 0 where
    pub names : Parts
    pub source : Tree
    pub k : Token
    pub parts : ps ≡ push names source
    pub given : NamesGiven text ImportSpecifier names s k
    pub from : FromGiven source k to

  list_given : {o : ℕ} (ps : Parts) {s e : Token} {P : List Pair} → RunsIn text o (goes_to Expression true Any (listed_before imported (sign "}" ∷ from_source) (bare_parts ps))) ps s e P → ListGiven ps s e
  list_given none d = absurd (run_never Token (SeenNext text) (behind_in text) d)
  list_given (gap ps) d = absurd (run_never Token (SeenNext text) (behind_in text) d)
  list_given (part n none) d =
      let a = run_token Token (SeenNext text) (behind_in text) d in
      let f = from_given a.runs in
      record { names = none; source = f.source; k = a.mid; parts = f.parts; given = closing (read_here text a.reads); from = f.given }
  list_given (part n (gap ps)) d = absurd (run_never Token (SeenNext text) (behind_in text) d)
  list_given {o} (part (node ImportSpecifier w g st en rs) (part m none)) {s} {e} d =
      let i = run_the_part Token (SeenNext text) (behind_in text) d in
      let its = subst (λ v. SpellsIn text o specifier (node ImportSpecifier w g st en rs) s i.mid v) (import_form Token (SeenNext text) (behind_in text) (seen_determined text) rs i.spelled).pairs i.spelled in
      let c = run_step Token (SeenNext text) (behind_in text) (seen_determined text) without_mark i.runs in
      let a = run_token Token (SeenNext text) (behind_in text) c.runs in
      let f = from_given a.runs in
      record { names = part (node ImportSpecifier w g st en rs) none; source = f.source; k = a.mid; parts = ap (part (node ImportSpecifier w g st en rs)) f.parts; given = of its c.one (read_here text a.reads); from = f.given }
    where
      of : {k x y : Token} → SpellsIn text o specifier (node ImportSpecifier w g st en rs) s k [] → Step Token (SeenNext text) (behind_in text) (Rattle.language.specs.Pieces.may (codes ",")) k x → ReadsHere text Punctuator (codes "}") x y → NamesGiven text ImportSpecifier (part (node ImportSpecifier w g st en rs) none) s y
      of its without_mark r = last_one refl its r
      of its (with_mark c) r = one_more refl its (read_here text c) (closing r)
  list_given (part (node ImportSpecifier w g st en rs) (part m (gap ps))) d =
      let i = run_the_part Token (SeenNext text) (behind_in text) d in
      let c = run_token Token (SeenNext text) (behind_in text) i.runs in
      absurd (run_never Token (SeenNext text) (behind_in text) (run_laid Token (SeenNext text) (behind_in text) c.runs))
  list_given {o} (part (node ImportSpecifier w g st en rs) (part m (part l ps))) {s} d =
      let i = run_the_part Token (SeenNext text) (behind_in text) d in
      let its = subst (λ v. SpellsIn text o specifier (node ImportSpecifier w g st en rs) s i.mid v) (import_form Token (SeenNext text) (behind_in text) (seen_determined text) rs i.spelled).pairs i.spelled in
      let c = run_token Token (SeenNext text) (behind_in text) i.runs in
      let u = list_given (part m (part l ps)) (run_laid Token (SeenNext text) (behind_in text) c.runs) in
      record { names = part (node ImportSpecifier w g st en rs) u.names; source = u.source; k = u.k; parts = ap (part (node ImportSpecifier w g st en rs)) u.parts; given = one_more refl its (read_here text c.reads) u.given; from = u.from }
  list_given (part (node _ w g st en rs) (part m ps)) d = absurd (run_never Token (SeenNext text) (behind_in text) d)

  -- a whole module's name or names in braces, and the source
  pub record FurtherFrom (ps : Parts) (s to : Token) : Type 0 where
    pub names : Parts
    pub source : Tree
    pub k : Token
    pub parts : ps ≡ push names source
    pub given : FurtherGiven text names s k
    pub from : FromGiven source k to

  braced : {ps : Parts} {s x e : Token} → ReadsHere text Punctuator (codes "{") s x → ListGiven ps x e → FurtherFrom ps s e
  braced r l = record { names = l.names; source = l.source; k = l.k; parts = l.parts; given = in_braces r l.given; from = l.from }

  no_names : {o : ℕ} {ps : Parts} {s e : Token} {P : List Pair} → RunsIn text o (goes_to Expression true Any (braces ++ from_source)) ps s e P → FurtherFrom ps s e
  no_names d =
      let a = run_token Token (SeenNext text) (behind_in text) d in
      let b = run_token Token (SeenNext text) (behind_in text) a.runs in
      let f = from_given b.runs in
      record { names = none; source = f.source; k = b.mid; parts = f.parts; given = in_braces (read_here text a.reads) (closing (read_here text b.reads)); from = f.given }

  names_clause : {o : ℕ} {ps : Parts} {s e : Token} {P : List Pair} → RunsIn text o (goes_to Expression true Any (named_imports (bare_parts ps))) ps s e P → FurtherFrom ps s e
  names_clause {ps = ps} d = let a = run_token Token (SeenNext text) (behind_in text) d in braced (read_here text a.reads) (list_given ps a.runs)

  whole_clause : {o : ℕ} {w : List ℕ} {g : Flags} {st en : ℕ} {rs ps : Parts} {s e : Token} {P : List Pair} → RunsIn text o (goes_to Expression true Any (put specifier ∷ from_source)) (part (node ImportNamespaceSpecifier w g st en rs) ps) s e P → FurtherFrom (part (node ImportNamespaceSpecifier w g st en rs) ps) s e
  whole_clause {o} {w} {g} {st} {en} {rs} {ps} {s} d =
      let n = node ImportNamespaceSpecifier w g st en rs in
      let i = run_the_part Token (SeenNext text) (behind_in text) d in
      let its = subst (λ v. SpellsIn text o specifier n s i.mid v) (namespace_form Token (SeenNext text) (behind_in text) (seen_determined text) rs i.spelled).pairs i.spelled in
      let f = from_given i.runs in
      record { names = part n none; source = f.source; k = i.mid; parts = ap (part n) f.parts; given = namespace refl its; from = f.given }

  -- an import behind its word
  pub data ImportGiven (ps : Parts) (s to : Token) : Type 0 where
    sourced : {o : ℕ} {source : Tree} {k : Token} {Q : List Pair} → SpellsIn text o directive_string source s k Q → Step Token (SeenNext text) (behind_in text) (ending (behind Closed)) k to → ps ≡ part source none → ImportGiven ps s to
    claused : {names : Parts} {source : Tree} {k : Token} → ClauseGiven text names s k → FromGiven source k to → ps ≡ push names source → ImportGiven ps s to

  further : {ps : Parts} {s e : Token} → FurtherFrom ps s e → ImportGiven ps s e
  further u = claused (no_default u.given) u.from u.parts

  pub record ImportAt (ps : Parts) (s to : Token) : Type 0 where
    pub x : Token
    pub word : ReadsHere text IdentifierName (codes "import") s x
    pub given : ImportGiven ps x to

  -- behind a default name
  name_alone : {o : ℕ} {w : List ℕ} {g : Flags} {st en : ℕ} {rs ps : Parts} {s e : Token} {P : List Pair} → RunsIn text o (goes_to Expression true Any (put specifier ∷ from_source)) (part (node ImportDefaultSpecifier w g st en rs) ps) s e P → ImportGiven (part (node ImportDefaultSpecifier w g st en rs) ps) s e
  name_alone {o} {w} {g} {st} {en} {rs} {ps} {s} d =
      let n = node ImportDefaultSpecifier w g st en rs in
      let i = run_the_part Token (SeenNext text) (behind_in text) d in
      let its = subst (λ v. SpellsIn text o specifier n s i.mid v) (default_form Token (SeenNext text) (behind_in text) (seen_determined text) rs i.spelled).pairs i.spelled in
      let f = from_given i.runs in
      claused (default_name refl its (λ t e r. name_or_sign Token (SeenNext text) (behind_in text) (seen_determined text) refl f.given.word r)) f.given (ap (part n) f.parts)

  name_and : {o : ℕ} {w : List ℕ} {g : Flags} {st en : ℕ} {rs ps : Parts} (qs : List Piece) {s e : Token} {P : List Pair} → ((k : Token) (Q : List Pair) → RunsIn text o (goes_to Expression true Any qs) ps k e Q → FurtherFrom ps k e) →
      RunsIn text o (goes_to Expression true Any (put specifier ∷ sign "," ∷ sp ∷ qs)) (part (node ImportDefaultSpecifier w g st en rs) ps) s e P → ImportGiven (part (node ImportDefaultSpecifier w g st en rs) ps) s e
  name_and {o} {w} {g} {st} {en} {rs} {ps} qs {s} rest d =
      let n = node ImportDefaultSpecifier w g st en rs in
      let i = run_the_part Token (SeenNext text) (behind_in text) d in
      let its = subst (λ v. SpellsIn text o specifier n s i.mid v) (default_form Token (SeenNext text) (behind_in text) (seen_determined text) rs i.spelled).pairs i.spelled in
      let c = run_token Token (SeenNext text) (behind_in text) i.runs in
      let u = rest c.mid i.more (run_laid Token (SeenNext text) (behind_in text) c.runs) in
      claused (default_and refl its (read_here text c.reads) u.given) u.from (ap (part n) u.parts)

  -- the word first
  worded : {o : ℕ} (qs : List Piece) {ps : Parts} {s e : Token} {P : List Pair} → ((k : Token) (Q : List Pair) → RunsIn text o (goes_to Expression true Any qs) ps k e Q → ImportGiven ps k e) → RunsIn text o (goes_to Expression true Any (term "import" ∷ sp ∷ qs)) ps s e P → ImportAt ps s e
  worded qs {P = P} rest d = let a = run_token Token (SeenNext text) (behind_in text) d in record { x = a.mid; word = read_here text a.reads; given = rest a.mid P (run_laid Token (SeenNext text) (behind_in text) a.runs) }

  source_alone : {o : ℕ} {ps : Parts} {s e : Token} {P : List Pair} → RunsIn text o (goes_to Expression true Any (put directive_string ∷ end_of Closed ∷ [])) ps s e P → ImportGiven ps s e
  source_alone d =
      let b = run_part Token (SeenNext text) (behind_in text) d in
      let z = run_end Token (SeenNext text) (behind_in text) (seen_determined text) b.runs in
      sourced b.spelled z.ends (b.parts ∙ ap (part b.item) z.parts)

  as_pieces : {o : ℕ} {x : Spelling} {qs : List Piece} {ps : Parts} {s e : Token} {P : List Pair} → Among x (only qs) → RunsIn text o (goes_to Expression true Any x.pieces) ps s e P → RunsIn text o (goes_to Expression true Any qs) ps s e P
  as_pieces h d = retell Token (SeenNext text) (behind_in text) (ap (goes_to Expression true Any) (pieces_of_one h)) d

  either_pieces : {G : Type 0} {o : ℕ} {x : Spelling} {one other : List Piece} {ps : Parts} {s e : Token} {P : List Pair} → Among x (only one ++ only other) → RunsIn text o (goes_to Expression true Any x.pieces) ps s e P → (RunsIn text o (goes_to Expression true Any one) ps s e P → G) → (RunsIn text o (goes_to Expression true Any other) ps s e P → G) → G
  either_pieces {G} {o} {x} {one} {other} {ps} {s} {e} {P} h d f g = of (two_ways h)
    where
      of : (x.pieces ≡ one) ⊎ (x.pieces ≡ other) → G
      of (inl q) = f (retell Token (SeenNext text) (behind_in text) (ap (goes_to Expression true Any) q) d)
      of (inr q) = g (retell Token (SeenNext text) (behind_in text) (ap (goes_to Expression true Any) q) d)

  pub import_parts : {o : ℕ} (ps : Parts) {x : Spelling} {s e : Token} {P : List Pair} → Among x (imports (lead (bare_parts ps)) (bare_parts ps)) → RunsIn text o (goes_to Expression true Any x.pieces) ps s e P → ImportAt ps s e
  import_parts none h d = elim h [ ]
  import_parts (gap ps) h d = elim h [ ]
  import_parts (part (node Literal w g st en rs) none) h d = either_pieces h d (worded (put directive_string ∷ end_of Closed ∷ []) (λ k Q u. source_alone u)) (worded (braces ++ from_source) (λ k Q u. further (no_names u)))
  import_parts (part (node Literal w g st en rs) (part m ps)) h d = elim h [ ]
  import_parts (part (node Literal w g st en rs) (gap ps)) h d = elim h [ ]
  import_parts (part (node ImportNamespaceSpecifier w g st en rs) (part m none)) h d = worded (put specifier ∷ from_source) (λ k Q u. further (whole_clause u)) (as_pieces h d)
  import_parts (part (node ImportNamespaceSpecifier w g st en rs) (part m (part l ps))) h d = elim h [ ]
  import_parts (part (node ImportNamespaceSpecifier w g st en rs) (part m (gap ps))) h d = elim h [ ]
  import_parts (part (node ImportNamespaceSpecifier w g st en rs) none) h d = elim h [ ]
  import_parts (part (node ImportNamespaceSpecifier w g st en rs) (gap ps)) h d = elim h [ ]
  import_parts (part (node ImportSpecifier w g st en rs) ps) h d = worded (named_imports (bare_parts (part (node ImportSpecifier w g st en rs) ps))) (λ k Q u. further (names_clause {ps = part (node ImportSpecifier w g st en rs) ps} u)) (as_pieces h d)
  import_parts (part (node ImportDefaultSpecifier w g st en rs) none) h d = elim h [ ]
  import_parts (part (node ImportDefaultSpecifier w g st en rs) (gap ps)) h d = elim h [ ]
  import_parts (part (node ImportDefaultSpecifier w g st en rs) (part (node Literal v g' st' en' qs) none)) h d = either_pieces h d (worded (put specifier ∷ from_source) (λ k Q u. name_alone u)) (worded (put specifier ∷ sign "," ∷ sp ∷ braces ++ from_source) (λ k Q u. name_and (braces ++ from_source) (λ l R v. no_names v) u))
  import_parts (part (node ImportDefaultSpecifier w g st en rs) (part (node Literal v g' st' en' qs) (part m ps))) h d = elim h [ ]
  import_parts (part (node ImportDefaultSpecifier w g st en rs) (part (node Literal v g' st' en' qs) (gap ps))) h d = elim h [ ]
  import_parts (part (node ImportDefaultSpecifier w g st en rs) (part (node ImportNamespaceSpecifier v g' st' en' qs) (part m none))) h d = worded (put specifier ∷ sign "," ∷ sp ∷ put specifier ∷ from_source) (λ k Q u. name_and (put specifier ∷ from_source) (λ l R v. whole_clause v) u) (as_pieces h d)
  import_parts (part (node ImportDefaultSpecifier w g st en rs) (part (node ImportNamespaceSpecifier v g' st' en' qs) none)) h d = elim h [ ]
  import_parts (part (node ImportDefaultSpecifier w g st en rs) (part (node ImportNamespaceSpecifier v g' st' en' qs) (gap ps))) h d = elim h [ ]
  import_parts (part (node ImportDefaultSpecifier w g st en rs) (part (node ImportNamespaceSpecifier v g' st' en' qs) (part m (part l ps)))) h d = elim h [ ]
  import_parts (part (node ImportDefaultSpecifier w g st en rs) (part (node ImportNamespaceSpecifier v g' st' en' qs) (part m (gap ps)))) h d = elim h [ ]
  import_parts (part (node ImportDefaultSpecifier w g st en rs) (part (node ImportSpecifier v g' st' en' qs) ps)) h d =
      worded (put specifier ∷ sign "," ∷ sp ∷ named_imports (bare_parts (part (node ImportSpecifier v g' st' en' qs) ps))) (λ k Q u. name_and (named_imports (bare_parts (part (node ImportSpecifier v g' st' en' qs) ps))) (λ l R y. names_clause {ps = part (node ImportSpecifier v g' st' en' qs) ps} y) u) (as_pieces h d)
  import_parts (part (node ImportDefaultSpecifier w g st en rs) (part (node _ v g' st' en' qs) ps)) h d = elim h [ ]
  import_parts (part (node _ w g st en rs) ps) h d = elim h [ ]
