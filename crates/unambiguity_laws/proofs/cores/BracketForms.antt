-- What begins with `[` or `{` in a derivation: an array or an object, or an assignment to a pattern.
use Rattle.std.proofs.Common.{◌≡◌, ℕ, Bool, true, false, List, [], ◌∷◌, ◌++◌, refl, sym, ap, ◌∙◌, subst, arith}
use Rattle.std.specs.Prelude.{IsTrue, codes}
use Rattle.std.proofs.lemmas.Slice.Eq.{bytes_eq-Decides}
use Rattle.tokens.specs.declared.token.TokenClass.TheVariants.{Punctuator}
use Rattle.tokens.specs.declared.token.Goal.{Goal}
use Rattle.tree.specs.declared.kind.Kind.{Kind}
use Rattle.tree.specs.declared.kind.Kind.TheVariants.{AssignmentExpression}
use Rattle.language.specs.declared.Rank.{Rank}
use Rattle.language.specs.declared.Rank.TheVariants.{Expression, Assignment, Primary}
use Rattle.language.specs.declared.Start.{Start}
use Rattle.language.specs.declared.Start.TheVariants.{Any}
use Rattle.language.specs.declared.Edge.TheVariants.{Other}
use Rattle.tree.specs.declared.kind.Flags.{Flags}
use Rattle.tree.specs.declared.kind.Pair.{Pair}
use Rattle.tree.specs.Tree.{Tree, node, Parts, none, part, kind_of, bare, bare_parts, plain}
use Rattle.tree.specs.Uses.{is_lean, used_flags, has_text}
use Rattle.tree.proofs.Lean.{lean_flags, lean_text}
use Rattle.language.specs.Vocabulary.{is, takes, is_target}
use Rattle.language.specs.Pieces.{Role, expr, pattern, PieceOf, sub, sign, elements, listed, argument}
use Rattle.language.specs.Token.{Token}
use Rattle.language.specs.Edges.{edge, edge_as_written}
use Rattle.language.specs.ExpressionStart.{ExpressionStart, with_parenthesis, expression_start}
use Rattle.language.specs.Promises.{IsDetermined, ReadBy, Stops}
use Rattle.language.specs.Grammar.{ways}
use Rattle.language.specs.Derivation.{Reads, Spells, Runs, Placed}
use Rattle.language.proofs.climbing.Spine.{Core}
use Rattle.language.proofs.table.Begins.{goes_to, retell}
use Rattle.language.proofs.table.FixedPieces.{Fixed, all_done, one_more, same_pieces, fixed_join, fixed_listed, fixed_elements, fixed_put}
use Rattle.language.proofs.table.LeftRecursiveWays.{between}
use Rattle.language.proofs.table.TokenFirstWays.{head_array, head_object, head_array_pattern, head_object_pattern}
use Rattle.language.proofs.climbing.LeftmostParts.{Cored, in_way, core_by}
use Rattle.language.proofs.list_loops.FirstPieces.{run_token, run_laid, run_part}
use Rattle.language.proofs.climbing.RightOperands.{one_part}
use Rattle.language.proofs.list_loops.FirstItems.{object_role, item_piece, object_pieces}
use Rattle.language.proofs.table.Reaches.{loose_of}
use Rattle.language.proofs.table.Tails.{tails_assign}
use Rattle.language.proofs.climbing.BinaryTurns.{same_node}
use Rattle.language.proofs.climbing.FirstTurn.{Begun, begun_stops}
use Rattle.language.proofs.climbing.Leaves.{core_primary}
use Rattle.language.proofs.climbing.Targets.{Bracketing, by_bracket, by_brace, assign_follows}

fixed_array : (ps : Parts) → Fixed ((sign "[" ∷ elements argument ps) ++ sign "]" ∷ [])
fixed_array ps = one_more refl (fixed_join (fixed_elements argument (λ n. refl) ps) (one_more refl all_done))

fixed_object : (ps : Parts) → Fixed ((sign "{" ∷ listed (item_piece object_role) ps) ++ sign "}" ∷ [])
fixed_object ps = one_more refl (fixed_join (fixed_listed (item_piece object_role) (λ n. fixed_put (object_role (kind_of n))) ps) (one_more refl all_done))

no_parenthesis : {f : Start} {a : ExpressionStart} {K L : Kind} {pieces : Parts → List (PieceOf Role)} → Bracketing f a K L pieces → a ≡ with_parenthesis → ⊥
no_parenthesis by_bracket e = cc
no_parenthesis (by_brace b) e = cc

no_target : {f : Start} {a : ExpressionStart} {K L : Kind} {pieces : Parts → List (PieceOf Role)} → Bracketing f a K L pieces → is_target K ≡ false
no_target by_bracket = refl
no_target (by_brace b) = refl

other_edge : {f : Start} {a : ExpressionStart} {K L : Kind} {pieces : Parts → List (PieceOf Role)} (st en : ℕ) (ps : Parts) → Bracketing f a K L pieces → edge (node K [] plain st en ps) ≡ Other
other_edge st en ps by_bracket = refl
other_edge st en ps (by_brace b) = refl

module _ (S : Type 0) (Next : S → Token → S → Type 0) (behind : S → Token) (det : IsDetermined S Next behind) where
  -- What begins with `[` or `{` in a derivation: the expression, or an assignment to a pattern.
  pub data BracketCore (o : ℕ) (h : Rank) (j : Bool) (f : Start) (m : Tree) (s0 mid : S) (Q : List Pair) (K : Kind) (pieces : Parts → List (PieceOf Role)) : Type 0 where
    as_list : {st en : ℕ} {ps : Parts} → m ≡ node K [] plain st en ps → Placed S Next behind (expr h j f) (node K [] plain st en ps) s0 mid → Runs ways S Next behind o (pieces ps) ps s0 mid Q → BracketCore o h j f m s0 mid Q K pieces
    as_assigned : {st en : ℕ} {p u : Tree} {place x : S} {v : Token} {R V : List Pair} → m ≡ node AssignmentExpression (codes "=") plain st en (part p (part u none)) → IsTrue (takes h Assignment) →
        Placed S Next behind (expr h j f) (node AssignmentExpression (codes "=") plain st en (part p (part u none))) s0 mid → Spells ways S Next behind o (pattern false f) p s0 place R → Reads S Next behind Punctuator (codes "=") place v x →
        Spells ways S Next behind o (expr Assignment j Any) u x mid V → Q ≡ R ++ V → BracketCore o h j f m s0 mid Q K pieces

  assigned_core : {o : ℕ} {h : Rank} {j : Bool} {f : Start} {m : Tree} {s0 mid : S} {Q : List Pair} {K : Kind} {pieces : Parts → List (PieceOf Role)} {k : Kind} {w : List ℕ} {g : Flags} {st en : ℕ} {ps : Parts} {qs : List (PieceOf Role)} →
      m ≡ node k w g st en ps → k ≡ AssignmentExpression → is w "=" ≡ true → IsTrue (takes h Assignment) → qs ≡ sub (pattern false f) ∷ between w (expr Assignment j Any) → is_lean (bare m) ≡ true → Placed S Next behind (expr h j f) m s0 mid →
      Runs ways S Next behind o qs ps s0 mid Q → BracketCore o h j f m s0 mid Q K pieces
  assigned_core {o} {h} {j} {f} {m} {s0} {mid} {k = k} {w = w} {g = g} {st = st} {en = en} {ps = ps} tree kind equals tk q lean pl d =
      let text : w ≡ codes "=" = (bytes_eq-Decides w (codes "=")).0 equals in
      let bares : is_lean (bare (node k w g st en ps)) ≡ true = ap (λ v. is_lean (bare v)) (sym tree) ∙ lean in
      let a = run_part S Next behind (retell S Next behind (q ∙ ap (λ v. sub (pattern false f) ∷ between v (expr Assignment j Any)) text) d) in
      let eq = run_token S Next behind (run_laid S Next behind a.runs) in
      let right = one_part S Next behind det (run_laid S Next behind eq.runs) in
      let same : m ≡ node AssignmentExpression (codes "=") plain st en (part a.item (part right.operand none)) =
      tree ∙ same_node kind text (lean_flags (bare (node k w g st en ps)) bares ∙ ap (λ v. used_flags v g) kind) refl refl (a.parts ∙ ap (part a.item) right.parts) in
      as_assigned same tk (subst (λ v. Placed S Next behind (expr h j f) v s0 mid) {y = node AssignmentExpression (codes "=") plain st en (part a.item (part right.operand none))} same pl) a.spelled eq.reads right.spelled a.pairs

  listed_core : {o : ℕ} {h : Rank} {j : Bool} {f : Start} {m : Tree} {s0 mid : S} {Q : List Pair} {k : Kind} {w : List ℕ} {g : Flags} {st en : ℕ} {ps : Parts} {qs : List (PieceOf Role)} {K : Kind} {pieces : Parts → List (PieceOf Role)} →
      m ≡ node k w g st en ps → k ≡ K → has_text K ≡ false → used_flags K g ≡ plain → qs ≡ pieces ps → is_lean (bare m) ≡ true → Placed S Next behind (expr h j f) m s0 mid → Runs ways S Next behind o qs ps s0 mid Q → BracketCore o h j f m s0 mid Q K pieces
  listed_core {h = h} {j = j} {f = f} {m = m} {s0 = s0} {mid = mid} {k = k} {w = w} {g = g} {st = st} {en = en} {ps = ps} {K = K} tree kind texts flags q lean pl d =
      let bares : is_lean (bare (node k w g st en ps)) ≡ true = ap (λ v. is_lean (bare v)) (sym tree) ∙ lean in
      let same : m ≡ node K [] plain st en ps =
      tree ∙ same_node kind (lean_text (bare (node k w g st en ps)) bares (ap has_text kind ∙ texts)) (lean_flags (bare (node k w g st en ps)) bares ∙ ap (λ v. used_flags v g) kind ∙ flags) refl refl refl in
      as_list same (subst (λ v. Placed S Next behind (expr h j f) v s0 mid) same pl) (retell S Next behind q d)

  cored_bracket : {o : ℕ} {h : Rank} {j : Bool} {f : Start} {m : Tree} {s0 mid : S} {Q : List Pair} {a : ExpressionStart} {K L : Kind} {pieces : Parts → List (PieceOf Role)} → Bracketing f a K L pieces → Cored S Next behind det o h j f m s0 mid Q a → BracketCore o h j f m s0 mid Q K pieces
  cored_bracket {h = h} {j = j} {f = f} by_bracket (in_way {ps = ps} tree (head_array k q) lean pl d) = listed_core tree k refl refl (q ∙ same_pieces h Expression j true f Any (fixed_array (bare_parts ps))) lean pl d
  cored_bracket by_bracket (in_way tree (head_array_pattern k op e l tk q) lean pl d) = assigned_core tree k e tk q lean pl d
  cored_bracket {h = h} {j = j} {f = f} (by_brace begins) (in_way {ps = ps} tree (head_object k b q) lean pl d) =
      listed_core tree k refl refl (q ∙ ap (λ v. goes_to h j f ((sign "{" ∷ v) ++ sign "}" ∷ [])) (object_pieces (bare_parts ps)) ∙ same_pieces h Expression j true f Any (fixed_object (bare_parts ps))) lean pl d
  cored_bracket (by_brace begins) (in_way tree (head_object_pattern k op e l tk q) lean pl d) = assigned_core tree k e tk q lean pl d

  -- what the leftmost part is, where the first token is `[` or `{`
  pub bracket_of : {f : Start} {x : ExpressionStart} {K L : Kind} {pieces : Parts → List (PieceOf Role)} {s0 m0 : S} {t : Token} {o : ℕ} {h : Rank} {j : Bool} {m : Tree} {mid : S} {Q : List Pair} → Bracketing f x K L pieces → ReadBy S Next behind Goal.RegExp s0 t m0 → expression_start t ≡ x →
      Core S Next behind o (expr h j f) m s0 mid Q → BracketCore o h j f m s0 mid Q K pieces
  bracket_of bracketing r opening c = cored_bracket bracketing (core_by S Next behind det r opening c)

  -- it stands where an operand does
  pub bracket_primary : {f : Start} {x : ExpressionStart} {K L : Kind} {pieces : Parts → List (PieceOf Role)} {s0 m0 : S} {t : Token} {o : ℕ} {h : Rank} {j : Bool} {m : Tree} {mid : S} {Q : List Pair} → Bracketing f x K L pieces → ReadBy S Next behind Goal.RegExp s0 t m0 → expression_start t ≡ x →
      Core S Next behind o (expr h j f) m s0 mid Q → IsTrue (takes h Primary)
  bracket_primary bracketing r opening c = core_primary S Next behind det c r (λ q. no_parenthesis bracketing (sym opening ∙ q))

  -- an array or an object isn't assigned to
  pub literal_unassigned : {f : Start} {x : ExpressionStart} {K L : Kind} {pieces : Parts → List (PieceOf Role)} {s0 : S} {o : ℕ} {y : Rank} {i : Bool} {n : Tree} {e : S} {P : List Pair} {h : Rank} {j : Bool} {m : Tree} {mid x2 : S} {Q : List Pair} {v : Token} {st en : ℕ} {ps : Parts} → Bracketing f x K L pieces →
      IsTrue (takes y Assignment) → Begun S Next behind det o s0 y i f n e P h j m mid Q → m ≡ node K [] plain st en ps → Reads S Next behind Punctuator (codes "=") mid v x2 → ⊥
  literal_unassigned {mid = mid} {st = st} {en = en} {ps = ps} bracketing tk b tree reads =
      assign_follows S Next behind det b (ap (λ c. edge_as_written (edge c) (behind mid)) tree ∙ ap (λ c. edge_as_written c (behind mid)) (other_edge st en ps bracketing)) (ap (λ c. is_target (kind_of c)) tree ∙ no_target bracketing) reads tk

  -- the right side of such an assignment can't go on
  pub right_stops : {f : Start} {s0 : S} {o : ℕ} {y : Rank} {i : Bool} {n : Tree} {e : S} {P : List Pair} {h : Rank} {j : Bool} {m : Tree} {mid : S} {Q : List Pair} {st en : ℕ} {p u : Tree} → Begun S Next behind det o s0 y i f n e P h j m mid Q →
      m ≡ node AssignmentExpression (codes "=") plain st en (part p (part u none)) → IsTrue (takes h Assignment) → Stops S Next behind Assignment j u mid
  right_stops {j = j} {mid = mid} {u = u} b tree tk = begun_stops S Next behind det Assignment Assignment j u tails_assign (λ l. omega arith) tk (λ k. refl) (ap (λ c. edge_as_written (edge c) (behind mid)) tree) b

  -- its In is that of the whole
  pub inside : {f : Start} {s0 : S} {o : ℕ} {y : Rank} {i : Bool} {n : Tree} {e : S} {P : List Pair} {h : Rank} {j : Bool} {m : Tree} {mid : S} {Q : List Pair} → Begun S Next behind det o s0 y i f n e P h j m mid Q → IsTrue (takes h Assignment) → j ≡ i
  inside {h = h} b tk = (b.reached.same_in (loose_of h Assignment tk refl)).1
