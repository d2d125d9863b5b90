-- What the loop begins with at `[` and at `{`.
use Rattle.std.proofs.Common.{◌≡◌, ℕ, suc, ◌≤◌, Bool, false, List, [], ◌∷◌, ◌++◌, refl, sym, ap, ◌∙◌, subst, arith, inl}
use Rattle.std.specs.Prelude.{IsTrue, codes}
use Rattle.tokens.specs.declared.token.TokenClass.TheVariants.{Punctuator}
use Rattle.tokens.specs.declared.token.Goal.TheVariants.{RegExp}
use Rattle.tree.specs.declared.kind.Kind.{Kind}
use Rattle.tree.specs.declared.kind.Kind.TheVariants.{AssignmentExpression}
use Rattle.tree.specs.declared.kind.Pair.{Pair}
use Rattle.tree.specs.Tree.{Tree, node, Parts, none, part, height, parts_height, bare_parts, plain}
use Rattle.language.specs.declared.Rank.{Rank}
use Rattle.language.specs.declared.Rank.TheVariants.{Assignment, Primary}
use Rattle.language.specs.declared.Start.{Start}
use Rattle.language.specs.FirstPart.{lead as lead_kind}
use Rattle.language.specs.declared.Start.TheVariants.{Any}
use Rattle.language.specs.Vocabulary.{takes}
use Rattle.language.specs.Pieces.{Role, expr, pattern, PieceOf, sign}
use Rattle.language.specs.Token.{Token}
use Rattle.language.specs.ExpressionStart.{ExpressionStart, with_bracket, with_brace, expression_start}
use Rattle.language.specs.Covers.{as_expression, as_pattern}
use Rattle.language.specs.Promises.{IsDetermined, ReadBy, Stops}
use Rattle.language.specs.Following.{IsAlike}
use Rattle.language.specs.Grammar.{ways, starts}
use Rattle.language.specs.Derivation.{Reads, Spells, Runs, Placed}
use Rattle.language.proofs.table.Begins.{retell}
use Rattle.language.proofs.list_loops.FirstPieces.{run_part}
use Rattle.language.proofs.climbing.OperatorNodes.{kind_bare}
use Rattle.language.proofs.table.TokenFirstWays.{head_object, head_object_pattern}
use Rattle.language.proofs.climbing.LeftmostParts.{Cored, in_way, core_by}
use Rattle.language.proofs.climbing.BinaryTurns.{replaced}
use Rattle.language.proofs.climbing.OperatorLoop.{Climbing, grows_height}
use Rattle.language.proofs.climbing.FirstTurn.{Begun}
use Rattle.language.proofs.climbing.Targets.{Bracketing, by_bracket, by_brace, array_parts, object_parts, PartsEndAt, Unassigned, object_starts, climb_bracket, climb_assigned}
use Rattle.unambiguity_laws.proofs.Unique.{Unique, UniqueParts, Climbed, CoreStep}
use Rattle.unambiguity_laws.proofs.cores.BracketForms.{BracketCore, as_list, as_assigned, bracket_of, bracket_primary, literal_unassigned, right_stops, inside}
use Rattle.unambiguity_laws.proofs.list_items.BracketEnds.{literal_bracketed, pattern_parts, brackets_end}

module _ (S : Type 0) (Next : S → Token → S → Type 0) (behind : S → Token) (det : IsDetermined S Next behind) where
  -- an expression that begins with `{` stands where that may
  brace_starts : {o : ℕ} {h : Rank} {j : Bool} {f : Start} {m : Tree} {s mid : S} {Q : List Pair} → Cored S Next behind det o h j f m s mid Q with_brace → IsTrue (starts f (sign "{" ∷ []))
  brace_starts (in_way is (head_object k b q) lean pl d) = b
  brace_starts (in_way is (head_object_pattern k op e l tk q) lean pl d) =
      let a = run_part S Next behind (retell S Next behind q d) in
      object_starts S Next behind a.spelled (sym (kind_bare a.item) ∙ sym (ap (λ v. lead_kind (bare_parts v)) a.parts) ∙ l)

module _ (S : Type 0) (Next : S → Token → S → Type 0) (behind : S → Token) (det : IsDetermined S Next behind) (alike : IsAlike S Next behind) {h : ℕ} (u : Unique S Next behind det h) where
  module _ {f : Start} {a : ExpressionStart} {K L : Kind} {pieces : Parts → List (PieceOf Role)} (bracketing : Bracketing f a K L pieces) (high : (st en : ℕ) (ps : Parts) → height (node K [] plain st en ps) ≡ suc (parts_height ps)) (lists : UniqueParts S Next behind det h pieces)
      {o : ℕ} {y q : Rank} {i j : Bool} {n m : Tree} {s0 e mid m0 : S} {P Q : List Pair} {t : Token} (low : height n ≤ suc h) (b : Begun S Next behind det o s0 y i f n e P q j m mid Q) (r : ReadBy S Next behind RegExp s0 t m0) (opening : expression_start t ≡ a) where
    m_low : height m ≤ suc h
    m_low = let g = grows_height S Next behind det b.grows in omega arith

    -- an array or an object
    by_list : {st en : ℕ} {ps : Parts} → m ≡ node K [] plain st en ps → Placed S Next behind (expr q j f) (node K [] plain st en ps) s0 mid → Runs ways S Next behind o (pieces ps) ps s0 mid Q → Climbed S Next behind det o y i f s0 m mid Q
    by_list {st} {en} {ps} tree pl d = record {
      symbol = Primary;
      climbing = subst (λ v. Climbing S Next behind det o y i f Primary s0 v mid Q) (sym tree)
          (climb_bracket S Next behind det bracketing r opening (b.reached.taken Primary (bracket_primary S Next behind det bracketing r opening b.core)) (lists.gives parts_low d) unassigned (replaced S Next behind det pl));
    }
      where
        parts_low : parts_height ps ≤ h
        parts_low = let l = m_low in let k : height m ≡ suc (parts_height ps) = ap height tree in omega arith

        unassigned : IsTrue (takes y Assignment) → Unassigned S Next behind f s0
        unassigned tk o' e' n' P' v k d' eq =
            let p = pattern_parts S Next behind det d' in
            let same = brackets_end S Next behind det alike u as_expression (as_pattern false) (inl parts_low) (literal_bracketed S Next behind bracketing d) p.bracketed in
            literal_unassigned S Next behind det bracketing tk b tree (subst (λ c. Reads S Next behind Punctuator (codes "=") c v k) same eq)

    -- an assignment to a pattern
    by_assigned : {st en : ℕ} {p w : Tree} {place x : S} {v : Token} {R V : List Pair} → m ≡ node AssignmentExpression (codes "=") plain st en (part p (part w none)) → IsTrue (takes q Assignment) → Placed S Next behind (expr q j f) (node AssignmentExpression (codes "=") plain st en (part p (part w none))) s0 mid →
        Spells ways S Next behind o (pattern false f) p s0 place R → Reads S Next behind Punctuator (codes "=") place v x → Spells ways S Next behind o (expr Assignment j Any) w x mid V → Q ≡ R ++ V → Climbed S Next behind det o y i f s0 m mid Q
    by_assigned {st} {en} {p} {w} {place} {x} {v} {R} {V} tree tk pl d eq right pairs =
        let l = m_low in
        let k : height m ≡ height (node AssignmentExpression (codes "=") plain st en (part p (part w none))) = ap height tree in
        let p_low : height p ≤ h = omega arith in
        let w_low : height w ≤ h = omega arith in
        let same = inside S Next behind det b tk in
        let target = u.closed {a = pattern false f} refl p_low d in
        let found = u.expressions.found w_low (λ c. cc) (λ c. cc) (subst (λ c. Spells ways S Next behind o (expr Assignment c Any) w x mid V) same right) (subst (λ c. Stops S Next behind Assignment c w mid) same (right_stops S Next behind det b tree tk)) in
        let inner = pattern_parts S Next behind det d in
        let is_high = inner.high in
        let ends : PartsEndAt S Next behind pieces s0 place = λ o' e' ps' P' d'. brackets_end S Next behind det alike u (as_pattern false) as_expression (inl (omega arith)) inner.bracketed (literal_bracketed S Next behind bracketing d') in
        record {
          symbol = Assignment;
          climbing = subst (λ c. Climbing S Next behind det o y i f Assignment s0 m mid c) (sym pairs) (subst (λ c. Climbing S Next behind det o y i f Assignment s0 c mid (R ++ V)) (sym tree)
              (climb_assigned S Next behind det bracketing r opening ends eq (b.reached.taken Assignment tk) target found (replaced S Next behind det pl)));
        }

    bracket_begins : Climbed S Next behind det o y i f s0 m mid Q
    bracket_begins = of (bracket_of S Next behind det bracketing r opening b.core)
      where
        of : BracketCore S Next behind det o q j f m s0 mid Q K pieces → Climbed S Next behind det o y i f s0 m mid Q
        of (as_list tree pl d) = by_list tree pl d
        of (as_assigned tree tk pl d eq w pairs) = by_assigned tree tk pl d eq w pairs

  pub bracket_core : UniqueParts S Next behind det h array_parts → CoreStep S Next behind det h with_bracket
  bracket_core lists = record { gives = λ {o} {y} {i} {f} {n} {s0} {e} {P} {q} {j} {m} {mid} {m0} {Q} {t} no_new inner low b r opening. bracket_begins by_bracket (λ st en ps. refl) lists low b r opening }

  pub brace_core : UniqueParts S Next behind det h object_parts → CoreStep S Next behind det h with_brace
  brace_core lists = record { gives = λ {o} {y} {i} {f} {n} {s0} {e} {P} {q} {j} {m} {mid} {m0} {Q} {t} no_new inner low b r opening. bracket_begins (by_brace (brace_starts S Next behind det (core_by S Next behind det r opening b.core))) (λ st en ps. refl) lists low b r opening }
