-- Templates: their parts and expressions are the only ones, so are they, alone and behind a tag.
use Rattle.std.proofs.Common.{◌≡◌, ℕ, suc, ◌≤◌, Bool, true, false, List, [], ◌++◌, refl, sym, ap, ◌∙◌, subst, arith}
use Rattle.std.specs.Prelude.{IsTrue}
use Rattle.tokens.specs.declared.token.Goal.{Goal}
use Rattle.tree.specs.declared.kind.Kind.{Kind}
use Rattle.tree.specs.declared.kind.Kind.TheVariants.{TemplateLiteral}
use Rattle.tree.specs.declared.kind.Flags.{Flags}
use Rattle.tree.specs.declared.kind.Pair.{Pair}
use Rattle.tree.specs.Tree.{Tree, node, Parts, none, part, gap, height, parts_height, bare, plain}
use Rattle.tree.specs.Uses.{is_lean, used_flags, has_text}
use Rattle.tree.proofs.Lean.{lean_flags, lean_text}
use Rattle.language.specs.declared.Rank.{Rank}
use Rattle.language.specs.declared.Rank.TheVariants.{Expression, Primary}
use Rattle.language.specs.declared.Start.{Start}
use Rattle.language.specs.declared.Start.TheVariants.{Any}
use Rattle.language.specs.Vocabulary.{takes}
use Rattle.language.specs.Pieces.{expr, tagged_quasi, template_element}
use Rattle.language.specs.Token.{Token}
use Rattle.language.specs.ExpressionStart.{with_template, with_parenthesis, expression_start}
use Rattle.language.specs.Promises.{IsDetermined, ReadBy, Found, FoundAt}
use Rattle.language.specs.Following.{IsAlike}
use Rattle.language.specs.Grammar.{ways, spellings}
use Rattle.language.specs.Derivation.{Spells, direct, Runs, Placed}
use Rattle.language.proofs.lower_bound.Domination.{settled}
use Rattle.language.proofs.table.ViewIsComplete.{way_of, one}
use Rattle.language.proofs.table.Begins.{retell}
use Rattle.language.proofs.list_loops.FirstPieces.{run_never}
use Rattle.language.proofs.climbing.BinaryTurns.{same_node, replaced}
use Rattle.language.proofs.list_loops.FirstItems.{chunk_pieces, ChunkForm, last_chunk, more_chunks, chunk_form}
use Rattle.language.proofs.list_loops.TemplateElements.{chunk_told, chunk_found, chunk_not_last, before_chunk}
use Rattle.language.proofs.covers.PatternsByToken.{quasi_found}
use Rattle.language.proofs.climbing.LeftmostParts.{Cored, in_way, core_by}
use Rattle.language.proofs.climbing.Leaves.{core_primary}
use Rattle.language.proofs.climbing.SingleStarts.{template_production}
use Rattle.language.proofs.climbing.OperatorLoop.{Climbing, grows_height}
use Rattle.language.proofs.climbing.FunctionsAndClasses.{climb_template}
use Rattle.unambiguity_laws.proofs.Unique.{Unique, UniqueParts, Climbed, CoreStep}

module _ (S : Type 0) (Next : S → Token → S → Type 0) (behind : S → Token) (det : IsDetermined S Next behind) (alike : IsAlike S Next behind) {h : ℕ} (u : Unique S Next behind det h) where
  -- a part of a template is one token
  chunk_closed : {b l : Bool} {o : ℕ} {n : Tree} {s e : S} {P : List Pair} → Spells ways S Next behind o (template_element b l) n s e P → FoundAt S Next behind o (template_element b l) s e n P
  chunk_closed {o = o} d =
      let v = chunk_told S Next behind det d in
      record { spelled = d; only = λ o' e' n' P' d'. let w = (chunk_found S Next behind det {o = o} v.reads).only o' e' n' P' d' in (w.0, w.1 ∙ sym v.tree, w.2 ∙ sym v.pairs) }

  -- the last part, or one that isn't
  not_both : {b : Bool} {o o' : ℕ} {n m : Tree} {s e k : S} {P Q : List Pair} → Spells ways S Next behind o (template_element b true) n s e P → Spells ways S Next behind o' (template_element b false) m s k Q → ⊥
  not_both {o = o} {n = n} {e = e} {P = P} d d' = let v = chunk_told S Next behind det d' in (chunk_not_last S Next behind det v.text v.reads).nothing o e n P d

  -- what runs over these parts, from the first or a later one, all that runs does
  abbrev Only : Parts → Type 0
  Only ps = (b : Bool) (o o' : ℕ) (qs : Parts) (s e k : S) (P Q : List Pair) → parts_height ps ≤ h → Runs ways S Next behind o (chunk_pieces b ps) ps s e P → Runs ways S Next behind o' (chunk_pieces b qs) qs s k Q → (k ≡ e) × (qs ≡ ps) × (Q ≡ P)

  same_last : {b : Bool} {o o' : ℕ} {n : Tree} {qs : Parts} {s e k : S} {P Q : List Pair} → ChunkForm S Next behind o b s e P (part n none) → ChunkForm S Next behind o' b s k Q qs → (k ≡ e) × (qs ≡ part n none) × (Q ≡ P)
  same_last {o' = o'} {k = k} {Q = Q} (last_chunk d) (last_chunk {q = m} d') = let w = (chunk_closed d).only o' k m Q d' in (w.0, ap (λ c. part c none) w.1, w.2)
  same_last (last_chunk d) (more_chunks d' x r z) = absurd (not_both d d')

  same_more : {b : Bool} {o o' : ℕ} {q n : Tree} {ps qs : Parts} {s e k : S} {P Q : List Pair} → Only ps → height n ≤ h → parts_height ps ≤ h → ChunkForm S Next behind o b s e P (part q (part n ps)) → ChunkForm S Next behind o' b s k Q qs → (k ≡ e) × (qs ≡ part q (part n ps)) × (Q ≡ P)
  same_more further first low (more_chunks d x r z) (last_chunk d') = absurd (not_both d' d)
  same_more {o = o} {o'} {q} {n} {ps} {s = s} {e} {k} {P} {Q} further first low (more_chunks {m = m} {k = l} {A = A} {B = B} {C = C} d x r z) (more_chunks {q = q'} {n = n'} {ps = qs} {m = m'} {k = l'} {A = A'} {B = B'} {C = C'} d' x' r' z') =
      let same = (chunk_closed d).only o' m' q' A' d' in
      let found : Found S Next behind o Expression true Any m l n B = u.expressions.found first (λ c. cc) (λ c. cc) x (before_chunk S Next behind det alike n ps r) in
      let inner = found.only o' l' n' B' (subst (λ c. Spells ways S Next behind o' (expr Expression true Any) n' c l' B') same.0 x') (before_chunk S Next behind det alike n' qs r') in
      let rest = further false o o' qs l e k C C' low r (subst (λ c. Runs ways S Next behind o' (chunk_pieces false qs) qs c k C') inner.0 r') in
      (rest.0, (λ j. part (same.1 j) (part (inner.1 j) (rest.1 j))), z' ∙ (λ j. same.2 j ++ (inner.2 j ++ rest.2 j)) ∙ sym z)

  same_chunks : (ps : Parts) → Only ps
  same_chunks none b o o' qs s e k P Q low d d' = absurd (run_never S Next behind d)
  same_chunks (gap ps) b o o' qs s e k P Q low d d' = absurd (run_never S Next behind d)
  same_chunks (part q none) b o o' qs s e k P Q low d d' = same_last (chunk_form S Next behind (part q none) d) (chunk_form S Next behind qs d')
  same_chunks (part q (gap ps)) b o o' qs s e k P Q low d d' = absurd (run_never S Next behind d)
  same_chunks (part q (part n ps)) b o o' qs s e k P Q low d d' = same_more (same_chunks ps) (omega arith) (omega arith) (chunk_form S Next behind (part q (part n ps)) d) (chunk_form S Next behind qs d')

  pub chunks_unique : (b : Bool) → UniqueParts S Next behind det h (chunk_pieces b)
  chunks_unique b = record { gives = λ {o} {s} {e} {ps} {P} low d. record { runs = d; only = λ o' k qs Q d'. same_chunks ps b o o' qs s e k P Q low d d' } }

  made_node : {k : Kind} {w : List ℕ} {g : Flags} {st en : ℕ} {ps : Parts} → k ≡ TemplateLiteral → is_lean (bare (node k w g st en ps)) ≡ true → node k w g st en ps ≡ node TemplateLiteral [] plain st en ps
  made_node {k} {w} {g} {st} {en} {ps} kind lean = same_node kind (lean_text (bare (node k w g st en ps)) lean (ap has_text kind)) (lean_flags (bare (node k w g st en ps)) lean ∙ ap (λ c. used_flags c g) kind) refl refl refl

  -- the template behind a tag, as it stands in a derivation
  record QuasiCore (o : ℕ) (n : Tree) (s e : S) (P : List Pair) : Type 0 where
    st : ℕ
    en : ℕ
    parts : Parts
    tree : n ≡ node TemplateLiteral [] plain st en parts
    places : Placed S Next behind tagged_quasi (node TemplateLiteral [] plain st en parts) s e
    runs : Runs ways S Next behind o (chunk_pieces true parts) parts s e P

  quasi_core : {o : ℕ} {n : Tree} {s e : S} {P : List Pair} → Spells ways S Next behind o tagged_quasi n s e P → QuasiCore o n s e P
  unfolding spellings
  quasi_core {n = node TemplateLiteral w g st en ps} {s = s} {e = e} (direct qs way pl d) =
      let v = way_of way in
      let same = made_node refl v.lean in
      record { st = st; en = en; parts = ps; tree = same; places = subst (λ c. Placed S Next behind tagged_quasi c s e) same pl; runs = retell S Next behind (v.is ∙ ap (settled tagged_quasi) (one v.listed)) d }
  quasi_core {n = node _ w g st en ps} (direct qs way pl d) = elim ((way_of way).listed) [ ]

  pub quasi_closed : {o : ℕ} {n : Tree} {s e : S} {P : List Pair} → height n ≤ suc h → Spells ways S Next behind o tagged_quasi n s e P → FoundAt S Next behind o tagged_quasi s e n P
  quasi_closed {o} {n} {s} {e} {P} low d =
      let v = quasi_core d in
      let high : height n ≡ height (node TemplateLiteral [] plain v.st v.en v.parts) = ap height v.tree in
      subst (λ c. FoundAt S Next behind o tagged_quasi s e c P) (sym v.tree) (quasi_found S Next behind det ((chunks_unique true).gives (omega arith) v.runs) v.places)

  -- a template where an expression begins
  template_read : {o : ℕ} {y q : Rank} {i j : Bool} {f : Start} {m : Tree} {s0 mid m0 : S} {Q : List Pair} {t : Token} → height m ≤ suc h → IsTrue (takes y Primary) → IsTrue (takes q Primary) → ReadBy S Next behind Goal.RegExp s0 t m0 → expression_start t ≡ with_template →
      Cored S Next behind det o q j f m s0 mid Q with_template → Climbed S Next behind det o y i f s0 m mid Q
  template_read {o} {y} {q} {i} {j} {f} {m} {s0} {mid} {m0} {Q} low tk takes_it r op (in_way {k = k} {w = w} {g = g} {st = st} {en = en} {ps = ps} is headed lean pl d) =
      let way = (template_production S Next behind det f s0).is_way o q j k w g ps _ mid Q headed d takes_it in
      let tree : m ≡ node TemplateLiteral [] plain st en ps = is ∙ made_node way.0 (ap (λ c. is_lean (bare c)) (sym is) ∙ lean) in
      let high : height m ≡ height (node TemplateLiteral [] plain st en ps) = ap height tree in
      record {
        symbol = Primary;
        climbing = subst (λ c. Climbing S Next behind det o y i f Primary s0 c mid Q) (sym tree) (climb_template S Next behind det r op tk ((chunks_unique true).gives (omega arith) (retell S Next behind way.2 d)) (replaced S Next behind det (subst (λ c. Placed S Next behind (expr q j f) c s0 mid) tree pl)));
      }

  pub template_core : CoreStep S Next behind det h with_template
  template_core = record {
    gives = λ {o} {y} {i} {f} {n} {s0} {e} {P} {q} {j} {m} {mid} {m0} {Q} {t} other inner low b r op.
        let lower = grows_height S Next behind det b.grows in
        let takes_it = core_primary S Next behind det b.core r (λ c. (let z : with_template ≡ with_parenthesis = sym op ∙ c in cc)) in
        template_read (omega arith) (b.reached.taken Primary takes_it) takes_it r op (core_by S Next behind det r op b.core);
  }
