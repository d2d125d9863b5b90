-- Imports by their pieces: alone, of all names as one, of a default name, with what stands behind it (ECMA-262, 13th edition, 16.2.2).
use Rattle.std.proofs.Common.{◌≡◌, ℕ, true, List, [], ◌∷◌, ◌++◌, refl, sym, ap, subst}
use Rattle.std.specs.Prelude.{codes}
use Rattle.tokens.specs.declared.token.TokenClass.TheVariants.{Punctuator}
use Rattle.tree.specs.declared.kind.Kind.{Kind}
use Rattle.tree.specs.declared.kind.Pair.{Pair}
use Rattle.tree.specs.declared.kind.Kind.TheVariants.{ImportDeclaration, ImportSpecifier, ImportNamespaceSpecifier, ImportDefaultSpecifier, Literal}
use Rattle.tree.specs.declared.kind.Flags.{Flags}
use Rattle.tree.specs.Tree.{Tree, node, Parts, none, part, gap, plain, push, bare_parts, kind_of}
use Rattle.language.specs.declared.Edge.TheVariants.{Closed}
use Rattle.language.specs.declared.Rank.TheVariants.{Expression, Primary}
use Rattle.language.specs.declared.Start.TheVariants.{Any}
use Rattle.language.proofs.table.Productions.{runs_can}
use Rattle.language.specs.Pieces.{Role, PieceOf, directive_string, specifier, module_item, Piece, at, put, sign, term, sp}
use Rattle.language.specs.Statements.{from_source, braces, named_imports, imported, end_of, module_items}
use Rattle.language.specs.Token.{Token}
use Rattle.language.proofs.list_loops.FirstPieces.{run_token, run_laid, run_never, run_the_part}
use Rattle.language.proofs.climbing.AsExpressions.{quoted_form}
use Rattle.token_cursor.proofs.SeenTokens.{seen_determined}
use Rattle.language.specs.Derivation.{Among, first, later, done, step, within, token, laid}
use Rattle.token_cursor.specs.SourceText.{SourceText, SeenNext, behind_in}
use Rattle.token_cursor.specs.Seen.{ReadsHere}
use Rattle.recursive_descent.specs.Soundness.{RunsIn, anywhere}
use Rattle.recursive_descent.specs.Spelled.{SpellsIn}
use Rattle.recursive_descent.specs.ModuleItems.{ItemAt, binding}
use Rattle.recursive_descent.proofs.sound_modules.SpecifierLists.{names_bare}
use Rattle.recursive_descent.proofs.sound_modules.ModuleEnds.{ClosedAt, item_spelled}

module _ (text : SourceText) where
  -- an import whose word was passed, by its pieces behind the word
  import_spelled : {o from : ℕ} {m e : Token} {ps : Parts} (qs : List Piece) → Among (at Primary (term "import" ∷ sp ∷ qs)) (module_items ImportDeclaration (bare_parts ps)) → Rattle.language.proofs.lower_bound.Domination.fits module_item (at Primary (term "import" ∷ sp ∷ qs)) ≡ true →
      RunsIn text o (anywhere qs) ps m e [] → ItemAt text (codes "import") from (node ImportDeclaration [] plain from e.stop ps) o m e []
  import_spelled {o} {from} {m} {e} {ps} qs listed f d b r stands =
      subst (λ z. SpellsIn text o module_item (node ImportDeclaration [] plain z e.stop ps) b e []) stands
      (item_spelled text {m = m} (at Primary (term "import" ∷ sp ∷ qs)) r.next refl listed f (step (token r) (step laid d)))

  -- a source is a string
  source_kind : {o : ℕ} {s e : Token} {source : Tree} {P : List Pair} → RunsIn text o (anywhere from_source) (part source none) s e P → kind_of source ≡ Literal
  source_kind d =
      let a = run_token Token (SeenNext text) (behind_in text) (run_laid Token (SeenNext text) (behind_in text) d) in
      ap kind_of (quoted_form Token (SeenNext text) (behind_in text) (seen_determined text) (run_the_part Token (SeenNext text) (behind_in text) (run_laid Token (SeenNext text) (behind_in text) a.runs)).spelled).tree

  literally : {o : ℕ} {s e : Token} {P : List Pair} (G : Tree → Type 0) → ((w : List ℕ) (g : Flags) (st en : ℕ) (ns : Parts) → RunsIn text o (anywhere from_source) (part (node Literal w g st en ns) none) s e P → G (node Literal w g st en ns)) →
      (source : Tree) → RunsIn text o (anywhere from_source) (part source none) s e P → G source
  literally {o} {s} {e} {P} G f (node k w g st en ns) d =
      let kind : k ≡ Literal = source_kind d in
      subst (λ k. G (node k w g st en ns)) (sym kind) (f w g st en ns (subst (λ k. RunsIn text o (anywhere from_source) (part (node k w g st en ns) none) s e P) kind d))

  -- nothing but a source
  pub import_source : {o from : ℕ} {m a e : Token} (source : Tree) → SpellsIn text o directive_string source m a [] → ClosedAt text a e → ItemAt text (codes "import") from (node ImportDeclaration [] plain from e.stop (part source none)) o m e []
  import_source {o} {from} {m} {a} {e} (node k w g st en ns) d ended =
      let kind : k ≡ Literal = ap kind_of (quoted_form Token (SeenNext text) (behind_in text) (seen_determined text) d).tree in
      subst (λ k. ItemAt text (codes "import") from (node ImportDeclaration [] plain from e.stop (part (node k w g st en ns) none)) o m e []) (sym kind)
      (import_spelled (put directive_string ∷ end_of Closed ∷ []) first refl (within (subst (λ k. SpellsIn text o directive_string (node k w g st en ns) m a []) kind d) (step ended done)))

  -- all names of a module as one
  pub import_all : {o from : ℕ} {m c e : Token} (start : ℕ) (left source : Tree) → SpellsIn text o specifier (binding ImportNamespaceSpecifier start c left) m c [] → RunsIn text o (anywhere from_source) (part source none) c e [] →
      ItemAt text (codes "import") from (node ImportDeclaration [] plain from e.stop (part (binding ImportNamespaceSpecifier start c left) (part source none))) o m e []
  import_all {o} start left source d rest = import_spelled (put specifier ∷ from_source) first refl (within d rest)

  -- a default name alone, with all names as one
  pub import_default : {o from : ℕ} {m c e : Token} (start : ℕ) (left source : Tree) → SpellsIn text o specifier (binding ImportDefaultSpecifier start c left) m c [] → RunsIn text o (anywhere from_source) (part source none) c e [] →
      ItemAt text (codes "import") from (node ImportDeclaration [] plain from e.stop (part (binding ImportDefaultSpecifier start c left) (part source none))) o m e []
  import_default {o} {from} {m} {c} {e} start left source d rest =
      literally (λ s. ItemAt text (codes "import") from (node ImportDeclaration [] plain from e.stop (part (binding ImportDefaultSpecifier start c left) (part s none))) o m e []) (λ w g st en ns rest. import_spelled (put specifier ∷ from_source) first refl (within d rest)) source rest

  pub import_default_all : {o from : ℕ} {m c v x e : Token} (start further : ℕ) (left right source : Tree) → SpellsIn text o specifier (binding ImportDefaultSpecifier start c left) m c [] → ReadsHere text Punctuator (codes ",") c v → SpellsIn text o specifier (binding ImportNamespaceSpecifier further x right) v x [] →
      RunsIn text o (anywhere from_source) (part source none) x e [] → ItemAt text (codes "import") from (node ImportDeclaration [] plain from e.stop (part (binding ImportDefaultSpecifier start c left) (part (binding ImportNamespaceSpecifier further x right) (part source none)))) o m e []
  import_default_all {o} start further left right source d comma d' rest = import_spelled (put specifier ∷ sign "," ∷ sp ∷ put specifier ∷ from_source) first refl (within d (step (token comma) (step laid (within d' rest))))

  -- Names in braces, or none, first or behind a default name

  named_first : {o from : ℕ} {m e : Token} {w : List ℕ} {g : Flags} {st en : ℕ} {ns : Parts} (ps : Parts) → RunsIn text o (anywhere (named_imports (part (node ImportSpecifier w g st en ns) ps))) (part (node ImportSpecifier w g st en ns) ps) m e [] →
      ItemAt text (codes "import") from (node ImportDeclaration [] plain from e.stop (part (node ImportSpecifier w g st en ns) ps)) o m e []
  named_first {o} {m = m} {e} {w} {g} {st} {en} {ns} ps d =
      let rs = part (node ImportSpecifier w g st en ns) ps in
      let run : RunsIn text o (anywhere (named_imports (bare_parts rs))) rs m e [] = subst (λ qs. RunsIn text o (anywhere (sign "{" ∷ qs)) rs m e []) (sym (names_bare rs)) d in
      import_spelled (named_imports (bare_parts rs)) first (runs_can Token (SeenNext text) (behind_in text) Expression true Any (named_imports (bare_parts rs)) run) run

  named_behind : {o from : ℕ} {m c v e : Token} {w' : List ℕ} {g' : Flags} {st' en' : ℕ} {ns' : Parts} (start : ℕ) (left : Tree) (ps : Parts) → SpellsIn text o specifier (binding ImportDefaultSpecifier start c left) m c [] → ReadsHere text Punctuator (codes ",") c v →
      RunsIn text o (anywhere (named_imports (part (node ImportSpecifier w' g' st' en' ns') ps))) (part (node ImportSpecifier w' g' st' en' ns') ps) v e [] →
      ItemAt text (codes "import") from (node ImportDeclaration [] plain from e.stop (part (binding ImportDefaultSpecifier start c left) (part (node ImportSpecifier w' g' st' en' ns') ps))) o m e []
  named_behind {o} {m = m} {c} {v} {e} {w'} {g'} {st'} {en'} {ns'} start left ps n comma d =
      let rs = part (node ImportSpecifier w' g' st' en' ns') ps in
      let qs = put specifier ∷ sign "," ∷ sp ∷ named_imports (bare_parts rs) in
      let run : RunsIn text o (anywhere qs) (part (binding ImportDefaultSpecifier start c left) rs) m e [] = within n (step (token comma) (step laid (subst (λ qs. RunsIn text o (anywhere (sign "{" ∷ qs)) rs v e []) (sym (names_bare rs)) d))) in
      import_spelled qs first (runs_can Token (SeenNext text) (behind_in text) Expression true Any qs run) run

  -- the first of names in braces is a specifier
  put_first : {o : ℕ} {rs : List (PieceOf Role)} {ps : Parts} {s e : Token} {P : List Pair} (k : Kind) → RunsIn text o (anywhere (imported (node k [] plain 0 0 none) ∷ []) ++ rs) ps s e P → k ≡ ImportSpecifier
  put_first ImportSpecifier d = refl
  put_first _ d = absurd (run_never Token (SeenNext text) (behind_in text) d)

  first_listed : {o : ℕ} {m e : Token} {P : List Pair} (k : Kind) (w : List ℕ) (g : Flags) (st en : ℕ) (ns ps : Parts) (source : Tree) → RunsIn text o (anywhere (named_imports (part (node k w g st en ns) (push ps source)))) (part (node k w g st en ns) (push ps source)) m e P → k ≡ ImportSpecifier
  first_listed k w g st en ns none source d = put_first k (run_token Token (SeenNext text) (behind_in text) d).runs
  first_listed k w g st en ns (part m ps) source d = put_first k (run_token Token (SeenNext text) (behind_in text) d).runs
  first_listed k w g st en ns (gap ps) source d = absurd (run_never Token (SeenNext text) (behind_in text) (run_token Token (SeenNext text) (behind_in text) d).runs)

  pub import_named : {o from : ℕ} {m e : Token} (ps : Parts) (source : Tree) → RunsIn text o (anywhere (named_imports (push ps source))) (push ps source) m e [] → ItemAt text (codes "import") from (node ImportDeclaration [] plain from e.stop (push ps source)) o m e []
  import_named {o} {from} {m} {e} none source d =
      let a = run_token Token (SeenNext text) (behind_in text) d in
      let b = run_token Token (SeenNext text) (behind_in text) a.runs in
      literally (λ s. ItemAt text (codes "import") from (node ImportDeclaration [] plain from e.stop (part s none)) o m e []) (λ w g st en ns rest. import_spelled (braces ++ from_source) (later first) refl (step (token a.reads) (step (token b.reads) rest))) source b.runs
  import_named (gap ps) source d = absurd (run_never Token (SeenNext text) (behind_in text) (run_token Token (SeenNext text) (behind_in text) d).runs)
  import_named {o} {from} {m} {e} (part (node k w g st en ns) ps) source d =
      let its = first_listed k w g st en ns ps source d in
      subst (λ k. ItemAt text (codes "import") from (node ImportDeclaration [] plain from e.stop (part (node k w g st en ns) (push ps source))) o m e []) (sym its)
      (named_first (push ps source) (subst (λ k. RunsIn text o (anywhere (named_imports (part (node k w g st en ns) (push ps source)))) (part (node k w g st en ns) (push ps source)) m e []) its d))

  pub import_default_named : {o from : ℕ} {m c v e : Token} (start : ℕ) (left : Tree) (ps : Parts) (source : Tree) → SpellsIn text o specifier (binding ImportDefaultSpecifier start c left) m c [] → ReadsHere text Punctuator (codes ",") c v → RunsIn text o (anywhere (named_imports (push ps source))) (push ps source) v e [] →
      ItemAt text (codes "import") from (node ImportDeclaration [] plain from e.stop (part (binding ImportDefaultSpecifier start c left) (push ps source))) o m e []
  import_default_named {o} {from} {m} {c} {v} {e} start left none source n comma d =
      let a = run_token Token (SeenNext text) (behind_in text) d in
      let b = run_token Token (SeenNext text) (behind_in text) a.runs in
      literally (λ s. ItemAt text (codes "import") from (node ImportDeclaration [] plain from e.stop (part (binding ImportDefaultSpecifier start c left) (part s none))) o m e [])
      (λ w g st en ns rest. import_spelled (put specifier ∷ sign "," ∷ sp ∷ braces ++ from_source) (later first) refl (within n (step (token comma) (step laid (step (token a.reads) (step (token b.reads) rest)))))) source b.runs
  import_default_named start left (gap ps) source n comma d = absurd (run_never Token (SeenNext text) (behind_in text) (run_token Token (SeenNext text) (behind_in text) d).runs)
  import_default_named {o} {from} {m} {c} {v} {e} start left (part (node k w g st en ns) ps) source n comma d =
      let its = first_listed k w g st en ns ps source d in
      subst (λ k. ItemAt text (codes "import") from (node ImportDeclaration [] plain from e.stop (part (binding ImportDefaultSpecifier start c left) (part (node k w g st en ns) (push ps source)))) o m e []) (sym its)
      (named_behind start left (push ps source) n comma (subst (λ k. RunsIn text o (anywhere (named_imports (part (node k w g st en ns) (push ps source)))) (part (node k w g st en ns) (push ps source)) v e []) its d))
