-- The leftmost part of an expression: an assignment to a pattern, of which the pattern is read first, or another.
use Rattle.std.proofs.Common.{◌≡◌, ℕ, Bool, true, false, List, [], ◌∷◌, ◌++◌, refl, sym, ap, ◌∙◌, subst}
use Rattle.std.specs.Prelude.{IsTrue, codes}
use Rattle.std.proofs.lemmas.Bool.{true≢false}
use Rattle.tokens.specs.declared.token.TokenClass.TheVariants.{Punctuator}
use Rattle.tree.specs.declared.kind.Kind.{Kind}
use Rattle.tree.specs.declared.kind.Kind.TheVariants.{AssignmentExpression}
use Rattle.tree.specs.declared.kind.Flags.{Flags}
use Rattle.tree.specs.declared.kind.Pair.{Pair}
use Rattle.tree.specs.Tree.{Tree, node, plain, Parts, part, none, kind_of, bare_parts}
use Rattle.language.specs.declared.Rank.{Rank}
use Rattle.language.specs.declared.Rank.TheVariants.{Assignment}
use Rattle.language.specs.declared.Start.{Start}
use Rattle.language.specs.declared.Start.TheVariants.{Any}
use Rattle.language.specs.FirstPart.{lead as lead_kind}
use Rattle.language.specs.Vocabulary.{takes}
use Rattle.language.specs.Token.{Token}
use Rattle.language.specs.Pieces.{Role, expr, pattern, PieceOf, sign}
use Rattle.language.specs.ExpressionStart.{ExpressionStart, with_bracket, with_brace}
use Rattle.language.specs.Grammar.{starts}
use Rattle.language.specs.Derivation.{Placed}
use Rattle.token_cursor.proofs.SeenTokens.{seen_determined}
use Rattle.language.proofs.table.Begins.{retell}
use Rattle.language.proofs.list_loops.FirstPieces.{run_part}
use Rattle.language.proofs.climbing.OperatorNodes.{kind_bare}
use Rattle.language.proofs.table.TokenFirstWays.{Headed, head_identifier, head_literal, head_this, head_array, head_object, head_function, head_class, head_template, head_short_arrow, head_arrow, head_async, async_function, async_name, async_parameters, head_super_member, head_super_call, head_new_with, head_new_without, head_new_target, head_import_meta, head_import, head_yield, head_step, head_await, head_private, head_word, head_sign, head_array_pattern, head_object_pattern, Opens}
use Rattle.language.proofs.climbing.Spine.{Core}
use Rattle.language.proofs.climbing.LeftmostParts.{Cored, in_group, in_way, core_of}
use Rattle.language.proofs.climbing.Targets.{by_bracket, by_brace, object_starts}
use Rattle.unambiguity_laws.proofs.cores.BracketForms.{BracketCore, as_list, as_assigned, bracket_of}
use Rattle.token_cursor.specs.Seen.{ReadsHere, Sees}
use Rattle.token_cursor.specs.SourceText.{SourceText, SeenNext, behind_in}
use Rattle.recursive_descent.specs.Spelled.{SpellsIn}
use Rattle.recursive_descent.proofs.complete_expressions.Agreement.{read_here}

-- with which a way that is an assignment begins
data Assigning (k : Kind) (x : ExpressionStart) : Type 0 where
  bracket : x ≡ with_bracket → Assigning k x
  brace : x ≡ with_brace → Assigning k x
  another : (k ≡ AssignmentExpression → ⊥) → Assigning k x

abbrev is_assigning : Kind → Bool
is_assigning AssignmentExpression = true
is_assigning _ = false

other_kind : {k m : Kind} → k ≡ m → is_assigning m ≡ false → k ≡ AssignmentExpression → ⊥
other_kind is other e = true≢false (sym (ap is_assigning e) ∙ ap is_assigning is ∙ other)

assigning : {y : Rank} {i : Bool} {f : Start} {k : Kind} {w : List ℕ} {g : Flags} {ps : Parts} {qs : List (PieceOf Role)} {x : ExpressionStart} → Headed y i f k w g ps qs x → Assigning k x
assigning (head_identifier k a q) = another (other_kind k refl)
assigning (head_literal k a q) = another (other_kind k refl)
assigning (head_this k q) = another (other_kind k refl)
assigning (head_array k q) = another (other_kind k refl)
assigning (head_object k b q) = another (other_kind k refl)
assigning (head_function k x b q) = another (other_kind k refl)
assigning (head_class k b q) = another (other_kind k refl)
assigning (head_template k q) = another (other_kind k refl)
assigning (head_short_arrow k x a b c q) = another (other_kind k refl)
assigning (head_arrow k x a q) = another (other_kind k refl)
assigning (head_async (async_function x) b q) = another (λ v. cc)
assigning (head_async (async_name x p n tk) b q) = another (λ v. cc)
assigning (head_async (async_parameters x tk) b q) = another (λ v. cc)
assigning (head_super_member k a b c q) = another (other_kind k refl)
assigning (head_super_call k a b c q) = another (other_kind k refl)
assigning (head_new_with k a q) = another (other_kind k refl)
assigning (head_new_without k a b q) = another (other_kind k refl)
assigning (head_new_target k a b q) = another (other_kind k refl)
assigning (head_import_meta k a b q) = another (other_kind k refl)
assigning (head_import k a q) = another (other_kind k refl)
assigning (head_yield k a q) = another (other_kind k refl)
assigning (head_step k a b c d q) = another (other_kind k refl)
assigning (head_await k a q) = another (other_kind k refl)
assigning (head_private k a b c d q) = another (other_kind k refl)
assigning (head_word k a b c q) = another (other_kind k refl)
assigning (head_sign k a b c q) = another (other_kind k refl)
assigning (head_array_pattern k a b c d q) = bracket refl
assigning (head_object_pattern k a b c d q) = brace refl

module _ (text : SourceText) where
  pub data SplitCore (o : ℕ) (h : Rank) (j : Bool) (f : Start) (m : Tree) (s mid : Token) (Q : List Pair) : Type 0 where
    not_assigned : (kind_of m ≡ AssignmentExpression → Sees text Punctuator (codes "(") s) → SplitCore o h j f m s mid Q
    is_assigned : {st en : ℕ} {p u : Tree} {place x : Token} {R V : List Pair} → m ≡ node AssignmentExpression (codes "=") plain st en (part p (part u none)) → IsTrue (takes h Assignment) →
        Placed Token (SeenNext text) (behind_in text) (expr h j f) (node AssignmentExpression (codes "=") plain st en (part p (part u none))) s mid → SpellsIn text o (pattern false f) p s place R → ReadsHere text Punctuator (codes "=") place x →
        SpellsIn text o (expr Assignment j Any) u x mid V → Q ≡ R ++ V → SplitCore o h j f m s mid Q

  -- an expression that begins with `{` stands where that may
  brace_starts : {o : ℕ} {h : Rank} {j : Bool} {f : Start} {m : Tree} {s mid : Token} {Q : List Pair} → Cored Token (SeenNext text) (behind_in text) (seen_determined text) o h j f m s mid Q with_brace → IsTrue (starts f (sign "{" ∷ []))
  brace_starts (in_way is (head_object k b q) lean pl d) = b
  brace_starts (in_way is (head_object_pattern k op e l tk q) lean pl d) =
      let a = run_part Token (SeenNext text) (behind_in text) (retell Token (SeenNext text) (behind_in text) q d) in
      object_starts Token (SeenNext text) (behind_in text) a.spelled (sym (kind_bare a.item) ∙ sym (ap (λ v. lead_kind (bare_parts v)) a.parts) ∙ l)

  by_list : {o : ℕ} {h : Rank} {j : Bool} {f : Start} {m : Tree} {s mid : Token} {Q : List Pair} {K : Kind} {pieces : Parts → List (PieceOf Role)} → (K ≡ AssignmentExpression → ⊥) →
      BracketCore Token (SeenNext text) (behind_in text) (seen_determined text) o h j f m s mid Q K pieces → SplitCore o h j f m s mid Q
  by_list other (as_list tree pl d) = not_assigned (λ k. absurd (other (sym (ap kind_of tree) ∙ k)))
  by_list other (as_assigned {x = x} {v = v} tree tk pl left eq right pairs) = is_assigned tree tk pl left (read_here text eq) right pairs

  pub split_core : {o : ℕ} {h : Rank} {j : Bool} {f : Start} {m : Tree} {s mid : Token} {Q : List Pair} → Core Token (SeenNext text) (behind_in text) o (expr h j f) m s mid Q → SplitCore o h j f m s mid Q
  split_core {o} {h} {j} {f} {m} {s} {mid} {Q} core = let u = core_of Token (SeenNext text) (behind_in text) (seen_determined text) core in of u.opening u.cored u.begins
    where
      of : (x : ExpressionStart) → Cored Token (SeenNext text) (behind_in text) (seen_determined text) o h j f m s mid Q x → Opens Token (SeenNext text) (behind_in text) (seen_determined text) x s → SplitCore o h j f m s mid Q
      of x (in_group {left = left} e r d q pairs) opens = not_assigned (λ k. (_, read_here text r))
      of x (in_way {k = k} tree headed lean pl d) opens = by (assigning headed)
        where
          by : Assigning k x → SplitCore o h j f m s mid Q
          by (bracket e) = by_list (λ v. cc) (bracket_of Token (SeenNext text) (behind_in text) (seen_determined text) by_bracket opens.read (opens.opens ∙ e) core)
          by (brace e) =
              let starts = brace_starts (subst (λ z. Cored Token (SeenNext text) (behind_in text) (seen_determined text) o h j f m s mid Q z) e (in_way tree headed lean pl d)) in
              by_list (λ v. cc) (bracket_of Token (SeenNext text) (behind_in text) (seen_determined text) (by_brace starts) opens.read (opens.opens ∙ e) core)
          by (another other) = not_assigned (λ v. absurd (other (sym (ap kind_of tree) ∙ v)))
