-- A leftmost part that one production alone makes of its first token: from the parts that are the only ones to what the loop begins with.
use Rattle.std.proofs.Common.{◌≡◌, ℕ, suc, ◌≤◌, Bool, true, List, [], refl, sym, ap, ◌∙◌, subst, arith}
use Rattle.std.specs.Prelude.{IsTrue}
use Rattle.tokens.specs.declared.token.Goal.{Goal}
use Rattle.tree.specs.declared.kind.Kind.{Kind}
use Rattle.tree.specs.declared.kind.Flags.{Flags}
use Rattle.tree.specs.declared.kind.Form.{Form}
use Rattle.tree.specs.declared.kind.Pair.{Pair}
use Rattle.tree.specs.Tree.{Tree, node, Parts, height, parts_height, bare, bare_parts}
use Rattle.tree.specs.Uses.{is_lean, used_flags, has_text}
use Rattle.tree.proofs.Lean.{lean_flags, lean_text}
use Rattle.language.specs.declared.Rank.{Rank}
use Rattle.language.specs.declared.Rank.TheVariants.{Primary}
use Rattle.language.specs.declared.Start.{Start}
use Rattle.language.specs.Vocabulary.{takes}
use Rattle.language.specs.Pieces.{Role, expr, PieceOf}
use Rattle.language.specs.Token.{Token}
use Rattle.language.specs.ExpressionStart.{ExpressionStart, expression_start}
use Rattle.language.specs.Promises.{IsDetermined, ReadBy}
use Rattle.language.specs.Grammar.{ways}
use Rattle.language.specs.Derivation.{Runs, Placed}
use Rattle.language.proofs.climbing.Spine.{Core}
use Rattle.language.proofs.table.Begins.{retell}
use Rattle.language.proofs.table.TokenFirstWays.{Headed}
use Rattle.language.proofs.climbing.LeftmostParts.{Cored, in_group, in_way, core_by}
use Rattle.language.proofs.climbing.BinaryTurns.{same_node, replaced}
use Rattle.language.proofs.climbing.OperatorLoop.{Climbing, grows_height}
use Rattle.language.proofs.climbing.FirstTurn.{Begun}
use Rattle.language.proofs.climbing.Leaves.{core_primary}
use Rattle.language.proofs.climbing.SingleStarts.{form_flags, Production, FoundFormed, climb_sole}
use Rattle.unambiguity_laws.proofs.Unique.{Climbed}

module _ (S : Type 0) (Next : S → Token → S → Type 0) (behind : S → Token) (det : IsDetermined S Next behind) where
  -- such a node as it stands in a derivation
  record SoleCore (o : ℕ) (h : Rank) (j : Bool) (f : Start) (m : Tree) (s0 mid : S) (Q : List Pair) (K : Kind) (z : Rank) (formed : Flags → Form) (pieces : Form → Parts → List (PieceOf Role)) : Type 0 where
    st : ℕ
    en : ℕ
    flags : Flags
    parts : Parts
    tree : m ≡ node K [] (form_flags (formed flags)) st en parts
    stands : IsTrue (takes h z)
    places : Placed S Next behind (expr h j f) (node K [] (form_flags (formed flags)) st en parts) s0 mid
    runs : Runs ways S Next behind o (pieces (formed flags) parts) parts s0 mid Q

  module _ {x : ExpressionStart} {K : Kind} {z : Rank} {f : Start} {s0 : S} {formed : Flags → Form} {pieces : Form → Parts → List (PieceOf Role)} (production : Production S Next behind det x K z f s0 formed pieces) {m0 : S} {t : Token} (r : ReadBy S Next behind Goal.RegExp s0 t m0) (opening : expression_start t ≡ x) where
    sole_core : {o : ℕ} {h : Rank} {j : Bool} {m : Tree} {mid : S} {Q : List Pair} → Core S Next behind o (expr h j f) m s0 mid Q → SoleCore o h j f m s0 mid Q K z formed pieces
    sole_core {o} {h} {j} {m} {mid} {Q} c = of x refl (core_by S Next behind det r opening c)
      where
        stands : IsTrue (takes h Primary)
        stands = core_primary S Next behind det c r (λ e. production.no_group (sym opening ∙ e))

        of : (a : ExpressionStart) → a ≡ x → Cored S Next behind det o h j f m s0 mid Q a → SoleCore o h j f m s0 mid Q K z formed pieces
        of a e (in_group u p d q v) = absurd (production.no_group (sym e))
        of a e (in_way {k = k} {w = w} {g = g} {st = st} {en = en} {ps = ps} {qs = qs} is headed lean pl d) =
            let way = production.is_way o h j k w g ps qs mid Q (subst (λ v. Headed h j f k w g (bare_parts ps) qs v) e headed) d stands in
            let bares : is_lean (bare (node k w g st en ps)) ≡ true = ap (λ v. is_lean (bare v)) (sym is) ∙ lean in
            let same : node k w g st en ps ≡ node K [] (form_flags (formed g)) st en ps =
            same_node way.0 (lean_text (bare (node k w g st en ps)) bares (ap has_text way.0 ∙ production.no_text)) (lean_flags (bare (node k w g st en ps)) bares ∙ ap (λ v. used_flags v g) way.0 ∙ production.no_flags g) refl refl refl in
            record {
              st = st;
              en = en;
              flags = g;
              parts = ps;
              tree = is ∙ same;
              stands = way.1;
              places = subst (λ v. Placed S Next behind (expr h j f) v s0 mid) (is ∙ same) pl;
              runs = retell S Next behind way.2 d;
            }

    -- its parts are the only ones, so the loop begins with it
    pub production_climbed : {h : ℕ} → ((o : ℕ) (g : Flags) (ps : Parts) (e : S) (P : List Pair) → parts_height ps ≤ h → Runs ways S Next behind o (pieces (formed g) ps) ps s0 e P → FoundFormed S Next behind det o formed pieces s0 e (formed g) ps P) →
        {o : ℕ} {y : Rank} {i : Bool} {n : Tree} {e : S} {P : List Pair} {q : Rank} {j : Bool} {m : Tree} {mid : S} {Q : List Pair} → height n ≤ suc h →
        Begun S Next behind det o s0 y i f n e P q j m mid Q → Climbed S Next behind det o y i f s0 m mid Q
    production_climbed unique {o} {y} {i} {m = m} {mid = mid} {Q = Q} low b =
        let c = sole_core b.core in
        let high : height m ≡ suc (parts_height c.parts) = ap height c.tree in
        let below = grows_height S Next behind det b.grows in
        let found = unique o c.flags c.parts mid Q (omega arith) c.runs in
        record {
          symbol = z;
          climbing = subst (λ v. Climbing S Next behind det o y i f z s0 v mid Q) (sym c.tree) (climb_sole S Next behind det production r opening (b.reached.taken z c.stands) found (replaced S Next behind det c.places));
        }
