-- The leftmost part that begins with a private name: `#x in a`.
use Rattle.std.proofs.Common.{◌≡◌, ℕ, suc, ◌≤◌, max, Bool, true, List, ◌++◌, refl, sym, ap, ◌∙◌, subst, arith}
use Rattle.std.specs.Prelude.{IsTrue, codes}
use Rattle.tokens.specs.declared.token.TokenClass.TheVariants.{IdentifierName}
use Rattle.tokens.specs.declared.token.Goal.{Goal}
use Rattle.tree.specs.declared.kind.Kind.TheVariants.{BinaryExpression}
use Rattle.tree.specs.declared.kind.Pair.{Pair}
use Rattle.tree.specs.Tree.{Tree, node, none, part, height, bare, bare_parts, kind_of, plain}
use Rattle.tree.specs.Uses.{is_lean, used_flags}
use Rattle.tree.proofs.Lean.{lean_flags}
use Rattle.language.specs.declared.Rank.{Rank}
use Rattle.language.specs.declared.Rank.TheVariants.{Relational, Shift}
use Rattle.language.specs.declared.Start.{Start}
use Rattle.language.specs.declared.Start.TheVariants.{Any}
use Rattle.language.specs.FirstPart.{lead as lead_kind}
use Rattle.language.specs.Vocabulary.{takes, is_private}
use Rattle.language.specs.Pieces.{expr, private_name, fixed}
use Rattle.language.specs.Expressions.{private_in}
use Rattle.language.specs.Token.{Token}
use Rattle.language.specs.Edges.{edge, edge_as_written}
use Rattle.language.specs.ExpressionStart.{with_private_name, expression_start}
use Rattle.language.specs.Promises.{IsDetermined, ReadBy, Stops, Found}
use Rattle.language.specs.Following.{IsAlike}
use Rattle.language.specs.Grammar.{ways}
use Rattle.language.specs.Derivation.{Reads, Spells, Runs, step, token, laid, within, Placed}
use Rattle.language.proofs.lower_bound.Domination.{settled}
use Rattle.language.proofs.table.NodeForms.{private_left}
use Rattle.language.proofs.table.Productions.{spell, starts_led}
use Rattle.language.proofs.table.Begins.{retell}
use Rattle.language.proofs.table.TokenFirstWays.{head_private}
use Rattle.language.proofs.table.OperatorFacts.{binding}
use Rattle.language.proofs.table.Tails.{tails_binary}
use Rattle.language.proofs.table.Reaches.{is_loose, loose_of}
use Rattle.language.proofs.climbing.LeftmostParts.{Cored, in_way, core_by}
use Rattle.language.proofs.climbing.RightOperands.{one_part}
use Rattle.language.proofs.list_loops.FirstPieces.{run_token, run_laid, run_part}
use Rattle.language.proofs.climbing.OperatorNodes.{kind_bare, last_runs}
use Rattle.language.proofs.climbing.OperatorLoop.{grows_height}
use Rattle.language.proofs.climbing.BinaryTurns.{same_node, replaced, same_places}
use Rattle.language.proofs.climbing.FirstTurn.{Begun, climb_start, begun_stops}
use Rattle.unambiguity_laws.proofs.Unique.{Unique, CoreStep, Climbed}
use Rattle.unambiguity_laws.proofs.list_items.WordsOnce.{private_unique}
use Rattle.unambiguity_laws.proofs.statements.FunctionForms.{names_same}

module _ (S : Type 0) (Next : S → Token → S → Type 0) (behind : S → Token) (det : IsDetermined S Next behind) where
  -- such a node as it stands in a derivation
  record PrivateCore (o : ℕ) (h : Rank) (j : Bool) (f : Start) (m : Tree) (s0 mid : S) (Q : List Pair) : Type 0 where
    st : ℕ
    en : ℕ
    name : Tree
    operand : Tree
    x : S
    x2 : S
    sign : Token
    one : List Pair
    more : List Pair
    private : is_private (kind_of name) ≡ true
    tree : m ≡ node BinaryExpression (codes "in") plain st en (part name (part operand none))
    stands : IsTrue (takes h Relational)
    has_in : j ≡ true
    named : Spells ways S Next behind o private_name name s0 x one
    reads : Reads S Next behind IdentifierName (codes "in") x sign x2
    spelled : Spells ways S Next behind o (expr Shift j Any) operand x2 mid more
    pairs : Q ≡ one ++ more
    places : Placed S Next behind (expr h j f) m s0 mid

  private_core : {o : ℕ} {h : Rank} {j : Bool} {f : Start} {m : Tree} {s0 mid : S} {Q : List Pair} → Cored S Next behind det o h j f m s0 mid Q with_private_name → PrivateCore o h j f m s0 mid Q
  private_core (in_way {k = k0} {w = w} {g = g} {st = st} {en = en} {ps = ps} is (head_private k p text tk has e) lean pl d) =
      let bares : is_lean (bare (node k0 w g st en ps)) ≡ true = ap (λ v. is_lean (bare v)) (sym is) ∙ lean in
      let a = run_part S Next behind (retell S Next behind e d) in
      let v = run_token S Next behind (run_laid S Next behind a.runs) in
      let c = one_part S Next behind det (run_laid S Next behind v.runs) in
      record {
        st = st;
        en = en;
        name = a.item;
        operand = c.operand;
        x = a.mid;
        x2 = v.mid;
        sign = v.sign;
        one = a.one;
        more = a.more;
        private = ap is_private (sym (kind_bare a.item)) ∙ sym (ap (λ z. is_private (lead_kind (bare_parts z))) a.parts) ∙ p;
        tree = is ∙ same_node k text (lean_flags (bare (node k0 w g st en ps)) bares ∙ ap (λ c. used_flags c g) k) refl refl (a.parts ∙ ap (part a.item) c.parts);
        stands = tk;
        has_in = has;
        named = a.spelled;
        reads = v.reads;
        spelled = c.spelled;
        pairs = a.pairs;
        places = pl;
      }

  in_stops : {o : ℕ} {s0 e : S} {y : Rank} {i : Bool} {f : Start} {n : Tree} {P : List Pair} {h : Rank} {j : Bool} {m : Tree} {mid : S} {Q : List Pair} → Begun S Next behind det o s0 y i f n e P h j m mid Q → (c : PrivateCore o h j f m s0 mid Q) → Stops S Next behind Shift j c.operand mid
  in_stops {j = j} {mid = mid} b c = begun_stops S Next behind det Relational Shift j c.operand (tails_binary Relational Shift (binding (codes "in") refl)) (λ l. omega arith) c.stands (λ k. refl) (ap (λ v. edge_as_written (edge v) (behind mid)) c.tree) b

module _ (S : Type 0) (Next : S → Token → S → Type 0) (behind : S → Token) (det : IsDetermined S Next behind) (alike : IsAlike S Next behind) {h : ℕ} (u : Unique S Next behind det h) where
  pub private_step : CoreStep S Next behind det h with_private_name
  private_step = record { gives = λ {o} {y} {i} {f} {n} {s0} {e} {P} {q} {j} {m} {mid} {m0} {Q} {t} no_new inner low b r op. of low b r op (private_core S Next behind det (core_by S Next behind det r op b.core)) }
    where
      of : {o : ℕ} {y : Rank} {i : Bool} {f : Start} {n : Tree} {s0 e : S} {P : List Pair} {q : Rank} {j : Bool} {m : Tree} {mid x0 : S} {Q : List Pair} {t : Token} → height n ≤ suc h → Begun S Next behind det o s0 y i f n e P q j m mid Q → ReadBy S Next behind Goal.RegExp s0 t x0 → expression_start t ≡ with_private_name →
          PrivateCore S Next behind det o q j f m s0 mid Q → Climbed S Next behind det o y i f s0 m mid Q
      of {o} {y} {i} {f} {n} {s0} {e} {P} {q} {j} {m} {mid} {x0} {Q} {t} low b r op c = record { symbol = Relational; climbing = climb_start S Next behind det (b.reached.taken Relational c.stands) stands alone }
        where
          inside : j ≡ i
          inside = (b.reached.same_in (loose_of q Relational c.stands refl)).1

          below : height m ≤ height n
          below = grows_height S Next behind det b.grows

          high : height m ≡ suc (max (height c.name) (max (height c.operand) 0))
          high = ap height c.tree

          found : Found S Next behind o Shift j Any c.x2 mid c.operand c.more
          found = u.expressions.found (omega (arith, high, below, low)) (λ z. cc) (λ z. cc) c.spelled (in_stops S Next behind det b c)

          stands : (h' : Rank) (j' : Bool) → IsTrue (takes h' Relational) → (is_loose h' ≡ true → j' ≡ i) → Spells ways S Next behind o (expr h' j' f) m s0 mid Q
          stands h' j' tk lo =
              let there : j ≡ j' = inside ∙ sym (lo (loose_of h' Relational tk refl)) in
              let runs : Runs ways S Next behind o (settled (expr h' j' f) private_in) (part c.name (part c.operand none)) s0 mid (c.one ++ c.more) =
              within c.named (step laid (step (token c.reads) (step laid (last_runs S Next behind (subst (λ k. Spells ways S Next behind o (expr Shift k Any) c.operand c.x2 mid c.more) there c.spelled))))) in
              subst (λ v. Spells ways S Next behind o (expr h' j' f) v s0 mid Q) (sym c.tree) (subst (λ v. Spells ways S Next behind o (expr h' j' f) (node BinaryExpression (codes "in") plain c.st c.en (part c.name (part c.operand none))) s0 mid v) (sym c.pairs)
              (spell S Next behind private_in (private_left (ap is_private (kind_bare c.name) ∙ c.private) refl) refl tk (sym there ∙ c.has_in) (starts_led f (fixed private_name) _) (replaced S Next behind det (subst (λ v. Placed S Next behind (expr q j f) v s0 mid) c.tree c.places)) runs))

          alone : (o' : ℕ) (n' : Tree) (e' : S) (P' : List Pair) (h' : Rank) (j' : Bool) (m' : Tree) (mid' : S) (Q' : List Pair) → Begun S Next behind det o' s0 y i f n' e' P' h' j' m' mid' Q' → (mid' ≡ mid) × (m' ≡ m) × (Q' ≡ Q) × IsTrue (takes h' Relational)
          alone o' n' e' P' h' j' m' mid' Q' b' =
              let w = private_core S Next behind det (core_by S Next behind det r op b'.core) in
              let name = (private_unique S Next behind det c.named).only o' w.x w.name w.one w.named in
              let there = (names_same S Next behind det (subst (λ k. Reads S Next behind IdentifierName (codes "in") k w.sign w.x2) name.0 w.reads) c.reads).1 in
              let same_in : j' ≡ j = w.has_in ∙ sym c.has_in in
              let same = found.only o' mid' w.operand w.more (subst (λ k. Spells ways S Next behind o' (expr Shift k Any) w.operand c.x2 mid' w.more) same_in (subst (λ k. Spells ways S Next behind o' (expr Shift j' Any) w.operand k mid' w.more) there w.spelled)) (subst (λ k. Stops S Next behind Shift k w.operand mid') same_in (in_stops S Next behind det b' w)) in
              let span = same_places S Next behind det (subst (λ v. Placed S Next behind (expr h' j' f) v s0 mid') w.tree w.places) (subst (λ v. Placed S Next behind (expr q j f) v s0 mid) c.tree c.places) same.0 in
              (same.0, w.tree ∙ same_node refl refl refl span.0 span.1 (λ k. part (name.1 k) (part (same.1 k) none)) ∙ sym c.tree, w.pairs ∙ (λ k. name.2 k ++ same.2 k) ∙ sym c.pairs, w.stands)
