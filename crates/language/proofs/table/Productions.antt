-- Parts that spell give a node that spells.
use Rattle.std.proofs.Common.{◌≡◌, ℕ, Bool, true, false, cond, List, [], ◌∷◌, refl, sym, subst}
use Rattle.std.specs.Prelude.{IsTrue, map, filter}
use Rattle.std.proofs.lemmas.Bool.{and_from}
use Rattle.tree.specs.declared.kind.Kind.{Kind}
use Rattle.language.specs.declared.Rank.{Rank}
use Rattle.language.specs.declared.Start.{Start}
use Rattle.language.specs.declared.Start.TheVariants.{Any, NoBrace, Statement}
use Rattle.tree.specs.declared.kind.Flags.{Flags}
use Rattle.tree.specs.declared.kind.Pair.{Pair}
use Rattle.tree.specs.Tree.{Tree, node, Parts, bare, bare_parts}
use Rattle.tree.specs.Uses.{is_lean, implies}
use Rattle.language.specs.Vocabulary.{takes}
use Rattle.language.specs.Pieces.{Role, expr, Slot, Piece, tok, may, many, ahead, unbroken, ending, open_parameters, close_parameters, sub, absent, never, lay, Spelling, no_operand}
use Rattle.language.specs.Token.{Token}
use Rattle.language.specs.Grammar.{spellings, ways, ways_bare, can_run, starts}
use Rattle.language.specs.Expressions.{expressions}
use Rattle.language.specs.Derivation.{Among, first, later, Spells, direct, Runs, step, opened, closed, within, missing, Placed}
use Rattle.language.proofs.table.NodeForms.{Made}
pub use Rattle.language.proofs.table.InLists.{in_true, in_false, in_left, in_right}
use Rattle.language.proofs.table.FormsAreWays.{is_way}
use Rattle.language.proofs.lower_bound.Domination.{settled, fits}
use Rattle.language.proofs.table.Begins.{goes_to}

pub to_map : {X Y : Type 0} {x : X} (f : X → Y) {xs : List X} → Among x xs → Among (f x) (map f xs)
to_map f first = first
to_map f (later h) = later (to_map f h)

pub to_filter : {X : Type 0} {x : X} (f : X → Bool) {xs : List X} → f x ≡ true → Among x xs → Among x (filter f xs)
to_filter {x = x} f t (first {xs = xs}) = in_true (filter f xs) (f x) t first
to_filter {x = x} f t (later {y = y} {xs = xs} h) = go (f y) (to_filter f t h)
  where
    go : (b : Bool) → Among x (filter f xs) → Among x (cond b (y ∷ filter f xs) (filter f xs))
    go true k = later k
    go false k = k

-- the form of a chosen production is a way of the table
pub listed : {k : Kind} {w : List ℕ} {g : Flags} {ps : Parts} {x : Spelling} → Made k w g ps x → Among x (expressions k w g ps)
listed {k} {w} {g} {ps} m = subst (λ x. Among x (expressions k w g ps)) (sym m.is) (is_way m.chosen)

-- a spelling of the table that fits is a way
pub way_from : (a : Role) (n : Tree) (x : Spelling) → is_lean (bare n) ≡ true → Among x (spellings a (bare n)) → fits a x ≡ true → Among (settled a x) (ways a n)
unfolding ways ways_bare
way_from a n x lean h t = in_true _ _ lean (to_map (settled a) (to_filter (fits a) t h))

-- no start forbids what is led by a part
pub starts_led : (f : Start) (b : Slot) (qs : List Piece) → IsTrue (starts f (sub b ∷ qs))
starts_led Any b qs = refl
starts_led NoBrace b qs = refl
starts_led Statement b qs = refl

module _ (S : Type 0) (Next : S → Token → S → Type 0) (behind : S → Token) where
  -- what runs can run
  pub runs_can : (y : Rank) (i : Bool) (f : Start) (qs : List Piece) {o : ℕ} {s e : S} {P : List Pair} {ps : Parts} → Runs ways S Next behind o (goes_to y i f qs) ps s e P → can_run qs ≡ true
  runs_can y i f [] d = refl
  runs_can y i f (never ∷ qs) (step p d) = elim p [ ]
  runs_can y i f (tok c w ∷ qs) (step p d) = runs_can y i f qs d
  runs_can y i f (may w ∷ qs) (step p d) = runs_can y i f qs d
  runs_can y i f (many w ∷ qs) (step p d) = runs_can y i f qs d
  runs_can y i f (ahead w ∷ qs) (step p d) = runs_can y i f qs d
  runs_can y i f (unbroken ∷ qs) (step p d) = runs_can y i f qs d
  runs_can y i f (no_operand ∷ qs) (step p d) = runs_can y i f qs d
  runs_can y i f (ending x ∷ qs) (step p d) = runs_can y i f qs d
  runs_can y i f (open_parameters ∷ qs) (step p d) = runs_can y i f qs d
  runs_can y i f (open_parameters ∷ qs) (opened p d) = runs_can y i f qs d
  runs_can y i f (close_parameters ∷ qs) (step p d) = runs_can y i f qs d
  runs_can y i f (close_parameters ∷ qs) (closed p d) = runs_can y i f qs d
  runs_can y i f (sub x ∷ qs) (step p d) = runs_can y i f qs d
  runs_can y i f (sub x ∷ qs) (within p d) = runs_can y i f qs d
  runs_can y i f (absent ∷ qs) (step p d) = runs_can y i f qs d
  runs_can y i f (absent ∷ qs) (missing d) = runs_can y i f qs d
  runs_can y i f (lay h ∷ qs) (step p d) = runs_can y i f qs d

  -- A production of the view at a position that takes its symbol, and that has In where it needs it, and a start that is met:
  -- where its pieces run, the node is spelled.
  pub spell : {o : ℕ} {y : Rank} {i : Bool} {f : Start} {k : Kind} {w : List ℕ} {g : Flags} {st en : ℕ} {ps : Parts} {s e : S} {P : List Pair} (x : Spelling) →
      Made k w g (bare_parts ps) x → is_lean (bare (node k w g st en ps)) ≡ true → IsTrue (takes y x.rank) → IsTrue (implies x.needs_in i) → IsTrue (starts f x.pieces) →
      Placed S Next behind (expr y i f) (node k w g st en ps) s e → Runs ways S Next behind o (settled (expr y i f) x) ps s e P → Spells ways S Next behind o (expr y i f) (node k w g st en ps) s e P
  unfolding spellings
  spell {y = y} {i = i} {f = f} {k = k} {w = w} {g = g} {st = st} {en = en} {ps = ps} x m lean tk im st' pl d =
      direct (settled (expr y i f) x) (way_from (expr y i f) (node k w g st en ps) x lean (listed m) (and_from _ _ (and_from _ _ tk (and_from _ _ im st')) (runs_can y i f x.pieces d))) pl d
