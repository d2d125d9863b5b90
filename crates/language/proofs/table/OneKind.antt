-- Positions at which only nodes of one kind stand, with one way each: from the table to what is found there.
use Rattle.std.proofs.Common.{◌≡◌, ℕ, Bool, true, false, List, [], refl, sym, ap, ◌∙◌, subst}
use Rattle.tree.specs.declared.kind.Kind.{Kind}
use Rattle.tree.specs.declared.kind.Flags.{Flags}
use Rattle.tree.specs.declared.kind.Pair.{Pair}
use Rattle.tree.specs.Tree.{Tree, node, Parts, parts_of, bare, bare_parts}
use Rattle.tree.specs.Uses.{is_lean, has_text, used_flags}
use Rattle.tree.proofs.Lean.{lean_flags, lean_text}
use Rattle.language.specs.declared.Rank.{Rank}
use Rattle.language.specs.declared.Rank.TheVariants.{Expression, Primary}
use Rattle.language.specs.declared.Start.{Start}
use Rattle.language.specs.declared.Start.TheVariants.{Any}
use Rattle.language.specs.Pieces.{Role, expr, Piece, PieceOf, Spelling, at, key, word}
use Rattle.language.specs.Token.{Token}
use Rattle.language.specs.Promises.{IsDetermined}
use Rattle.language.specs.Grammar.{ways, spellings, can_run}
use Rattle.language.specs.Derivation.{Among, Spells, direct, grouped, Runs, Placed, place, reserved_key, reserved_word}
use Rattle.language.proofs.lower_bound.Domination.{settled, fits}
use Rattle.language.proofs.table.ViewIsComplete.{way_of}
use Rattle.language.proofs.table.Productions.{way_from, runs_can}
use Rattle.language.proofs.table.Begins.{goes_to, retell}
use Rattle.language.proofs.climbing.BinaryTurns.{same_node}
use Rattle.language.proofs.table.SoleWays.{Told, Sole}

-- a position of nodes that are no expressions, and whose pieces stand as they are
pub record Plain (a : Role) : Type 0 where
  pub spans : (t l : Token) → place a t l ≡ (t.start, l.stop)
  pub settles : (x : Spelling) → settled a x ≡ goes_to Expression true Any x.pieces
  pub fitting : (x : Spelling) → fits a x ≡ can_run x.pieces
  pub ungrouped : (y : Rank) (i : Bool) (f : Start) → a ≡ expr y i f → ⊥
  pub unnamed : (a ≡ key → ⊥) × (a ≡ word → ⊥)

-- At the position stand nodes of one kind, which uses no text, and with these flags, each with one way at most: these pieces, where they
-- can run.
pub record OneKind (a : Role) (k : Kind) (flags : Flags) (pieces : Parts → List Piece) : Type 0 where
  pub position : Plain a
  pub only : (k' : Kind) (w : List ℕ) (g : Flags) (ps : Parts) (x : Spelling) → Among x (spellings a (node k' w g 0 0 ps)) → (k' ≡ k) × (x.pieces ≡ pieces ps)
  pub there : (ps : Parts) → can_run (pieces ps) ≡ true → Among (at Primary (pieces ps)) (spellings a (node k [] flags 0 0 ps))
  pub textless : has_text k ≡ false
  pub flagged : (w : List ℕ) (g : Flags) (ps : Parts) (x : Spelling) → Among x (spellings a (node k w g 0 0 ps)) → used_flags k g ≡ flags
  pub lean : (ps : Parts) → is_lean (node k [] flags 0 0 ps) ≡ true

module _ (S : Type 0) (Next : S → Token → S → Type 0) (behind : S → Token) (det : IsDetermined S Next behind) where
  -- what spells where no group may stand
  record Directly (o : ℕ) (a : Role) (n : Tree) (s e : S) (P : List Pair) : Type 0 where
    pieces : List (PieceOf Role)
    way : Among pieces (ways a n)
    placed : Placed S Next behind a n s e
    runs : Runs ways S Next behind o pieces (parts_of n) s e P

  directly : {o : ℕ} {a : Role} {n : Tree} {s e : S} {P : List Pair} → ((y : Rank) (i : Bool) (f : Start) → a ≡ expr y i f → ⊥) → (a ≡ key → ⊥) × (a ≡ word → ⊥) → Spells ways S Next behind o a n s e P → Directly o a n s e P
  directly other named (grouped p d q) = absurd (other _ _ _ refl)
  directly other named (reserved_key r k p) = absurd (named.0 refl)
  directly other named (reserved_word r k p) = absurd (named.1 refl)
  directly other named (direct qs h pl d) = record { pieces = qs; way = h; placed = pl; runs = d }

  kind_told : {o : ℕ} {a : Role} {k : Kind} {f : Flags} {pieces : Parts → List Piece} {s e : S} {P : List Pair} → OneKind a k f pieces → (n : Tree) → Spells ways S Next behind o a n s e P → Told S Next behind det o a k [] f s (λ ps. goes_to Expression true Any (pieces (bare_parts ps))) n s e P
  kind_told {a = a} u (node k' w g st en ps) d =
      let c = directly u.position.ungrouped u.position.unnamed d in
      let v = way_of c.way in
      let t = u.only k' w g (bare_parts ps) v.spelling v.listed in
      record {
        st = st;
        en = en;
        parts = ps;
        tree = same_node t.0 (lean_text (bare (node k' w g st en ps)) v.lean (ap has_text t.0 ∙ u.textless)) (lean_flags (bare (node k' w g st en ps)) v.lean ∙ ap (λ c. used_flags c g) t.0 ∙ u.flagged w g (bare_parts ps) v.spelling (subst (λ c. Among v.spelling (spellings a (node c w g 0 0 (bare_parts ps)))) t.0 v.listed)) refl refl refl;
        placed = c.placed;
        runs = retell S Next behind (v.is ∙ u.position.settles v.spelling ∙ ap (goes_to Expression true Any) t.1) c.runs;
      }

  -- so the pieces tell what is spelled
  pub one_kind : {Fine : Tree → S → Type 0} {a : Role} {k : Kind} {f : Flags} {pieces : Parts → List Piece} {s : S} → OneKind a k f pieces → Sole S Next behind det Fine a k [] f s s (λ ps. goes_to Expression true Any (pieces (bare_parts ps)))
  one_kind {Fine} {a} {k} {f} {pieces} {s} u = record {
    spans = u.position.spans;
    told = λ {o} {n} {e} {P} d fine. kind_told u n d;
    spells = λ {o} {st} {en} {ps} {e} {P} pl d.
        let x : Spelling = at Primary (pieces (bare_parts ps)) in
        let can = runs_can S Next behind Expression true Any (pieces (bare_parts ps)) d in
        direct (settled a x) (way_from a (node k [] f st en ps) x (u.lean (bare_parts ps)) (u.there (bare_parts ps) can) (u.position.fitting x ∙ can)) pl (retell S Next behind (sym (u.position.settles x)) d);
  }
