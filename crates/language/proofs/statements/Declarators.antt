-- A declarator (ECMA-262 13.3.1, 13.3.2): from its target and its value to the declarator; without a value, where none may follow.
use Rattle.std.proofs.Common.{◌≡◌, ℕ, Bool, true, false, cond, List, [], ◌∷◌, ◌++◌, refl, sym, ap, ◌∙◌, subst}
use Rattle.std.specs.Prelude.{IsTrue, Option, Some, codes, ◌&&◌}
use Rattle.std.proofs.lemmas.List.{append-nil}
use Rattle.tokens.specs.declared.token.TokenClass.TheVariants.{Punctuator}
use Rattle.tree.specs.declared.kind.Kind.TheVariants.{VariableDeclarator}
use Rattle.tree.specs.declared.kind.Pair.{Pair}
use Rattle.tree.specs.Tree.{Tree, node, Parts, none, part, gap, kind_of, bare_parts, plain}
use Rattle.language.specs.declared.Rank.TheVariants.{Expression, Assignment}
use Rattle.language.specs.declared.Start.TheVariants.{Any}
use Rattle.language.specs.Vocabulary.{is_pattern}
use Rattle.language.specs.Edges.{edge}
use Rattle.language.specs.Continuations.{stops}
use Rattle.language.specs.Pieces.{Role, expr, declarator, bound, put, put_at, absent, sign, sp, nothing}
use Rattle.language.specs.Token.{Token}
use Rattle.language.specs.Covers.{FoundItem}
use Rattle.language.specs.Promises.{IsDetermined, Stops, Found}
use Rattle.language.specs.Following.{Declared, FoundWhere}
use Rattle.language.specs.Grammar.{ways}
use Rattle.language.specs.Derivation.{Reads, Spells, Runs, done, step, missing, token, laid, Placed}
use Rattle.language.proofs.table.Begins.{goes_to, retell}
use Rattle.language.proofs.list_loops.FirstPieces.{run_none, run_token, run_laid, run_never, run_the_gap, run_part}
use Rattle.language.proofs.climbing.BinaryTurns.{same_node}
use Rattle.language.proofs.climbing.Conditionals.{same_sign}
use Rattle.language.proofs.list_loops.CommaLists.{an_item, item_runs}
use Rattle.language.proofs.statements.Blocks.{declarator_pieces, one_declarator}
use Rattle.language.proofs.table.OneKind.{one_kind}
use Rattle.language.proofs.table.SoleWays.{Anyhow, same_span}
use Rattle.language.proofs.climbing.OperatorNodes.{last_runs}

module _ (S : Type 0) (Next : S → Token → S → Type 0) (behind : S → Token) (det : IsDetermined S Next behind) where
  -- what is bound, a name or a pattern
  pub record Target (o : ℕ) (s k : S) (n : Tree) (P : List Pair) : Type 0 where
    pub role : Role
    pub it_is : bound true (kind_of n) ≡ Some role
    pub spelled : Spells ways S Next behind o role n s k P

  -- with a value, or alone
  pub data DeclaratorForm (i b : Bool) (o : ℕ) (n : Tree) (s e : S) (P : List Pair) : Type 0 where
    with_value : {st en : ℕ} {target value : Tree} {k x : S} {t : Token} {A V : List Pair} → b ≡ true → n ≡ node VariableDeclarator [] plain st en (part target (part value none)) → Target o s k target A → Reads S Next behind Punctuator (codes "=") k t x →
        Spells ways S Next behind o (expr Assignment i Any) value x e V → P ≡ A ++ V → Placed S Next behind (declarator i b) (node VariableDeclarator [] plain st en (part target (part value none))) s e → DeclaratorForm i b o n s e P
    alone : {st en : ℕ} {target : Tree} → (b && is_pattern (kind_of target)) ≡ false → n ≡ node VariableDeclarator [] plain st en (part target (gap none)) → Target o s e target P → Placed S Next behind (declarator i b) (node VariableDeclarator [] plain st en (part target (gap none))) s e → DeclaratorForm i b o n s e P

  pub declarator_form : {i b : Bool} {o : ℕ} {n : Tree} {s e : S} {P : List Pair} → Spells ways S Next behind o (declarator i b) n s e P → DeclaratorForm i b o n s e P
  declarator_form {i} {b} {o} {n} {s} {e} {P} d = of told.parts told.tree told.runs
    where
      told : Rattle.language.proofs.table.SoleWays.Told S Next behind det o (declarator i b) VariableDeclarator [] plain s (λ ps. goes_to Expression true Any (declarator_pieces i b (bare_parts ps))) n s e P
      told = (one_kind S Next behind det {Fine = Anyhow} (one_declarator i b)).told d tt

      pl : {ps : Parts} → n ≡ node VariableDeclarator [] plain told.st told.en ps → Placed S Next behind (declarator i b) (node VariableDeclarator [] plain told.st told.en ps) s e
      pl h = subst (λ c. Placed S Next behind (declarator i b) c s e) h told.placed

      valued : (c : Bool) → b ≡ c → (u v : Tree) (x : Option Role) → bound true (kind_of u) ≡ x → n ≡ node VariableDeclarator [] plain told.st told.en (part u (part v none)) →
          Runs ways S Next behind o (goes_to Expression true Any (cond c (put_at x ∷ sp ∷ sign "=" ∷ sp ∷ put (expr Assignment i Any) ∷ []) nothing)) (part u (part v none)) s e P → DeclaratorForm i b o n s e P
      valued false k u v x h tree r = absurd (run_never S Next behind r)
      valued true k u v x h tree r =
          let p = an_item S Next behind det x r in
          let q = run_token S Next behind (run_laid S Next behind p.runs) in
          let w = Rattle.language.proofs.list_loops.FirstPieces.run_the_part S Next behind (run_laid S Next behind q.runs) in
          let z = run_none S Next behind w.runs in
          with_value k tree (record { role = p.role; it_is = h ∙ p.it_is; spelled = p.spelled }) q.reads (subst (λ c. Spells ways S Next behind o (expr Assignment i Any) v q.mid c w.one) z.place w.spelled)
          (p.pairs ∙ ap (λ c. p.one ++ c) (w.pairs ∙ ap (λ c. w.one ++ c) z.pairs ∙ append-nil w.one)) (pl tree)

      unvalued : (u : Tree) (c : Bool) → (b && is_pattern (kind_of u)) ≡ c → (x : Option Role) → bound true (kind_of u) ≡ x → n ≡ node VariableDeclarator [] plain told.st told.en (part u (gap none)) →
          Runs ways S Next behind o (goes_to Expression true Any (cond c nothing (put_at x ∷ absent ∷ []))) (part u (gap none)) s e P → DeclaratorForm i b o n s e P
      unvalued u true k x h tree r = absurd (run_never S Next behind r)
      unvalued u false k x h tree r =
          let p = an_item S Next behind det x r in
          let z = run_none S Next behind (run_the_gap S Next behind p.runs) in
          alone k tree (record { role = p.role; it_is = h ∙ p.it_is; spelled = subst (λ c. Spells ways S Next behind o p.role u s e c) (sym (p.pairs ∙ ap (λ c. p.one ++ c) z.pairs ∙ append-nil p.one)) (subst (λ c. Spells ways S Next behind o p.role u s c p.one) z.place p.spelled) }) (pl tree)

      of : (ps : Parts) → n ≡ node VariableDeclarator [] plain told.st told.en ps → Runs ways S Next behind o (goes_to Expression true Any (declarator_pieces i b (bare_parts ps))) ps s e P → DeclaratorForm i b o n s e P
      of (part (node c w g st en qs) (part v none)) tree r = valued b refl (node c w g st en qs) v (bound true c) refl tree r
      of (part (node c w g st en qs) (gap none)) tree r = unvalued (node c w g st en qs) (b && is_pattern c) refl (bound true c) refl tree r
      of none tree r = absurd (run_never S Next behind r)
      of (gap ps) tree r = absurd (run_never S Next behind r)
      of (part u none) tree r = absurd (run_never S Next behind r)
      of (part u (part v (part w ps))) tree r = absurd (run_never S Next behind r)
      of (part u (part v (gap ps))) tree r = absurd (run_never S Next behind r)
      of (part u (gap (part v ps))) tree r = absurd (run_never S Next behind r)
      of (part u (gap (gap ps))) tree r = absurd (run_never S Next behind r)

  -- and back
  pub valued_spells : {i : Bool} {o st en : ℕ} (target : Tree) {value : Tree} {s k x e : S} {t : Token} {A V : List Pair} → Target o s k target A → Reads S Next behind Punctuator (codes "=") k t x → Spells ways S Next behind o (expr Assignment i Any) value x e V →
      Placed S Next behind (declarator i true) (node VariableDeclarator [] plain st en (part target (part value none))) s e → Spells ways S Next behind o (declarator i true) (node VariableDeclarator [] plain st en (part target (part value none))) s e (A ++ V)
  valued_spells {i} (node c w g a z qs) u eq d pl = (one_kind S Next behind det {Fine = Anyhow} (one_declarator i true)).spells pl (item_runs S Next behind det (bound true c) u.it_is u.spelled (step laid (step (token eq) (step laid (last_runs S Next behind d)))))

  pub alone_spells : {i b : Bool} {o st en : ℕ} (target : Tree) {s e : S} {A : List Pair} → (b && is_pattern (kind_of target)) ≡ false → Target o s e target A → Placed S Next behind (declarator i b) (node VariableDeclarator [] plain st en (part target (gap none))) s e →
      Spells ways S Next behind o (declarator i b) (node VariableDeclarator [] plain st en (part target (gap none))) s e A
  alone_spells {i} {b} {o} {st} {en} (node c w g a z qs) {s} {e} {A} h u pl =
      (one_kind S Next behind det {Fine = Anyhow} (one_declarator i b)).spells pl (retell S Next behind (sym (ap (λ v. goes_to Expression true Any (cond v nothing (put_at (bound true c) ∷ absent ∷ []))) h))
      (subst (λ P. Runs ways S Next behind o (goes_to Expression true Any (put_at (bound true c) ∷ absent ∷ [])) (part (node c w g a z qs) (gap none)) s e P) (append-nil A) (item_runs S Next behind det (bound true c) u.it_is u.spelled (missing done))))

  -- the only target there, of either kind
  abbrev pub TargetFound : ℕ → S → S → Tree → List Pair → Type 0
  TargetFound = FoundItem S Next behind (λ e. Unit {0}) (bound true)

  -- the right edge of a declarator is that of its value
  module _ (i b : Bool) {o : ℕ} {s k : S} {target : Tree} {A : List Pair} (found : TargetFound o s k target A) where
    same_target : {o' : ℕ} {k' : S} {n' : Tree} {P' : List Pair} → Target o' s k' n' P' → (k' ≡ k) × (n' ≡ target) × (P' ≡ A)
    same_target {o'} {k'} {n'} {P'} u = found.only o' u.role k' n' P' u.it_is u.spelled tt

    its_target : Target o s k target A
    its_target = record { role = found.role; it_is = found.it_is; spelled = found.spelled }

    -- behind `=`
    module _ {t : Token} {x : S} (equals : Reads S Next behind Punctuator (codes "=") k t x) where
      moved : {o' : ℕ} {v : Tree} {k' x' e' : S} {t' : Token} {V' : List Pair} → k' ≡ k → Reads S Next behind Punctuator (codes "=") k' t' x' → Spells ways S Next behind o' (expr Assignment i Any) v x' e' V' → Spells ways S Next behind o' (expr Assignment i Any) v x e' V'
      moved {o'} {v} {k'} {x'} {e'} {t'} {V'} h r d = subst (λ c. Spells ways S Next behind o' (expr Assignment i Any) v c e' V') (same_sign S Next behind det (subst (λ c. Reads S Next behind Punctuator (codes "=") c t' x') h r) equals refl).1 d

      its_stop : {n' target' v : Tree} {st en : ℕ} {e' : S} → n' ≡ node VariableDeclarator [] plain st en (part target' (part v none)) → Declared S Next behind i n' e' → Stops S Next behind Assignment i v e'
      its_stop {e' = e'} h fine = record { before = λ u m r. subst (λ c. IsTrue (stops Assignment i c (behind e') u)) (ap edge h) (fine.stopped.before u m r); apart = fine.stopped.apart }

      no_more : {e' : S} {n' : Tree} {o' : ℕ} {m' : Tree} {P' : List Pair} → Target o' s e' m' P' → Declared S Next behind i n' e' → ⊥
      no_more u fine = fine.no_value t x (subst (λ c. Reads S Next behind Punctuator (codes "=") c t x) (sym (same_target u).0) equals)

    -- no `=` behind the target
    module _ (no_value : (t : Token) (x : S) → Reads S Next behind Punctuator (codes "=") k t x → ⊥) where
      pub declarator_alone : {st en : ℕ} → (b && is_pattern (kind_of target)) ≡ false → Placed S Next behind (declarator i b) (node VariableDeclarator [] plain st en (part target (gap none))) s k →
          FoundWhere S Next behind (Declared S Next behind i) o (declarator i b) s k (node VariableDeclarator [] plain st en (part target (gap none))) A
      declarator_alone {st} {en} fits places = record { spelled = alone_spells target fits its_target places; only = λ o' e' n' P' d fine. of (declarator_form d) }
        where
          of : {o' : ℕ} {n' : Tree} {e' : S} {P' : List Pair} → DeclaratorForm i b o' n' s e' P' → (e' ≡ k) × (n' ≡ node VariableDeclarator [] plain st en (part target (gap none))) × (P' ≡ A)
          of (with_value {x = x} {t = t} on tree u r d p pl) = absurd (no_value t x (subst (λ c. Reads S Next behind Punctuator (codes "=") c t x) (same_target u).0 r))
          of (alone h tree u pl) =
              let same = same_target u in
              let span = same_span S Next behind det (λ t l. refl) pl places same.0 in
              (same.0, tree ∙ same_node refl refl refl span.0 span.1 (ap (λ c. part c (gap none)) same.1), same.2)

  -- with its value
  pub declarator_found : {i : Bool} {o st en : ℕ} {s k x e : S} {target v : Tree} {t : Token} {A V : List Pair} → TargetFound o s k target A → Reads S Next behind Punctuator (codes "=") k t x → Found S Next behind o Assignment i Any x e v V →
      Placed S Next behind (declarator i true) (node VariableDeclarator [] plain st en (part target (part v none))) s e → FoundWhere S Next behind (Declared S Next behind i) o (declarator i true) s e (node VariableDeclarator [] plain st en (part target (part v none))) (A ++ V)
  declarator_found {i} {o} {st} {en} {s} {k} {x} {e} {target} {v} {t} {A} {V} found equals value places = record {
    spelled = valued_spells target (record { role = found.role; it_is = found.it_is; spelled = found.spelled }) equals value.spelled places;
    only = λ o' e' n' P' d fine. of (declarator_form d) fine;
  }
    where
      of : {o' : ℕ} {n' : Tree} {e' : S} {P' : List Pair} → DeclaratorForm i true o' n' s e' P' → Declared S Next behind i n' e' → (e' ≡ e) × (n' ≡ node VariableDeclarator [] plain st en (part target (part v none))) × (P' ≡ A ++ V)
      of {o'} {e' = e'} (with_value {value = w} {V = V'} on tree u r d p pl) fine =
          let first = same_target i true found u in
          let same = value.only o' e' w V' (moved i true found equals first.0 r d) (its_stop i true found equals tree fine) in
          let span = same_span S Next behind det (λ t l. refl) pl places same.0 in
          (same.0, tree ∙ same_node refl refl refl span.0 span.1 (λ j. part (first.1 j) (part (same.1 j) none)), p ∙ (λ j. first.2 j ++ same.2 j))
      of (alone h tree u pl) fine = absurd (no_more i true found equals u fine)
