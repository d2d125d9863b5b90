-- A leftmost part that begins with `[` or `{`: an array or an object, or an assignment to such a pattern.
use Rattle.std.proofs.Common.{◌≡◌, ℕ, Bool, true, false, List, [], ◌∷◌, ◌++◌, refl, sym, ap, ◌∙◌, subst, arith}
use Rattle.std.specs.Prelude.{IsTrue, Some, codes, not, ◌&&◌, ◌||◌}
use Rattle.std.proofs.lemmas.Bool.{and_parts, false≢true}
use Rattle.std.proofs.lemmas.Slice.Eq.{bytes_eq-Decides}
use Rattle.tokens.specs.declared.token.TokenClass.TheVariants.{Punctuator}
use Rattle.tokens.specs.declared.token.Goal.{Goal}
use Rattle.tokens.specs.declared.token.Goal.TheVariants.{Div}
use Rattle.tokens.specs.Goals.{allows}
use Rattle.tree.specs.declared.kind.Kind.{Kind}
use Rattle.tree.specs.declared.kind.Kind.TheVariants.{ArrayExpression, ObjectExpression, ArrayPattern, ObjectPattern, AssignmentExpression}
use Rattle.language.specs.declared.Rank.{Rank}
use Rattle.language.specs.declared.Rank.TheVariants.{Expression, Assignment, Primary}
use Rattle.language.specs.declared.Start.{Start}
use Rattle.language.specs.declared.Start.TheVariants.{Any, NoBrace, Statement}
use Rattle.language.specs.declared.Edge.TheVariants.{Other}
use Rattle.tree.specs.declared.kind.Flags.{Flags}
use Rattle.tree.specs.declared.kind.Pair.{Pair}
use Rattle.tree.specs.Tree.{Tree, node, Parts, none, part, kind_of, bare, bare_parts, plain}
use Rattle.tree.specs.Uses.{is_lean, used_flags, has_text}
use Rattle.tree.proofs.Lean.{lean_flags, lean_text}
use Rattle.language.specs.FirstPart.{lead as lead_kind}
use Rattle.language.specs.Vocabulary.{is, takes, is_target, is_pattern, Operator, op_assign, op_optional}
use Rattle.language.specs.Pieces.{Role, expr, pattern, PieceOf, Piece, tok, sub, sign, at, tail, lead_pattern, elements, listed, argument}
use Rattle.language.specs.Token.{Token}
use Rattle.language.specs.Edges.{edge, edge_as_written}
use Rattle.language.specs.Expressions.{object_part, infix_pieces}
use Rattle.language.specs.Continuations.{of_class, operation, rank_made_by, stops_at, stops}
use Rattle.language.specs.ExpressionStart.{ExpressionStart, with_bracket, with_brace, with_parenthesis, expression_start}
use Rattle.language.specs.Promises.{IsDetermined, ReadBy, Stops, Found, Absent, FoundAt, FoundParts}
use Rattle.language.specs.Grammar.{ways, spellings, starts}
use Rattle.language.specs.Derivation.{Reads, Spells, direct, Runs, step, within, token, laid, Placed}
use Rattle.language.proofs.table.NodeForms.{array, object, assign_pattern}
use Rattle.language.proofs.climbing.Spine.{Core}
use Rattle.language.proofs.table.ViewIsComplete.{way_of, one}
use Rattle.language.proofs.table.Productions.{spell, starts_led}
use Rattle.language.proofs.table.Begins.{goes_to, retell}
use Rattle.language.proofs.climbing.SpineContinuations.{makes}
use Rattle.language.proofs.table.FixedPieces.{Fixed, all_done, one_more, same_pieces, fixed_join, fixed_listed, fixed_elements, fixed_put}
use Rattle.language.proofs.table.LeftRecursiveWays.{Led, led_assign, between}
use Rattle.language.proofs.table.TokenFirstWays.{head_array, head_object, head_array_pattern, head_object_pattern}
use Rattle.language.proofs.climbing.LeftmostParts.{Cored, in_way, core_by}
use Rattle.language.proofs.list_loops.FirstPieces.{run_token, run_laid, run_part}
use Rattle.language.proofs.climbing.RightOperands.{one_part}
use Rattle.language.proofs.list_loops.FirstItems.{argument_role, object_role, item_piece, element_pieces, list_pieces, object_pieces}
use Rattle.language.proofs.climbing.OperatorNodes.{kind_bare, last_runs}
use Rattle.language.proofs.table.Reaches.{is_loose, loose_of}
use Rattle.language.proofs.climbing.NoContinuation.{goes_where_not}
use Rattle.language.proofs.table.Tails.{tails_assign}
use Rattle.language.proofs.climbing.BinaryTurns.{same_node, replaced, same_places}
use Rattle.language.proofs.climbing.Conditionals.{same_sign}
use Rattle.language.proofs.climbing.OperatorLoop.{Climbing, LedOn, led_on}
use Rattle.language.proofs.climbing.FirstTurn.{Begun, climb_start, start_absent, begun_stops, core_spelled}
use Rattle.language.proofs.climbing.Leaves.{core_primary}

-- the pieces of an array and of an object
abbrev pub array_parts : Parts → List (PieceOf Role)
array_parts ps = tok Punctuator (codes "[") ∷ element_pieces argument_role (codes "]") ps

abbrev pub object_parts : Parts → List (PieceOf Role)
object_parts ps = tok Punctuator (codes "{") ∷ list_pieces object_role (codes "}") ps

refused : (a b c d : Bool) → a ≡ true → b ≡ false → d ≡ true → (not a || ((b && not c) || not d)) ≡ false
refused true false c true h k l = refl
refused true true c d h k l = cc
refused false b c d h k l = cc
refused a b c false h k l = cc

starts_brace : (f : Start) (qs : List Piece) → IsTrue (starts f (sign "{" ∷ [])) → IsTrue (starts f (sign "{" ∷ qs))
starts_brace Any qs h = refl
starts_brace NoBrace qs h = cc
starts_brace Statement qs h = cc

first_starts : (f : Start) (qs : List Piece) → IsTrue (starts f (sign "{" ∷ qs)) → IsTrue (starts f (sign "{" ∷ []))
first_starts Any qs h = refl
first_starts NoBrace qs h = cc
first_starts Statement qs h = cc

starts_bracket : (f : Start) (qs : List Piece) → IsTrue (starts f (sign "[" ∷ qs))
starts_bracket Any qs = refl
starts_bracket NoBrace qs = refl
starts_bracket Statement qs = refl

fixed_array : (ps : Parts) → Fixed ((sign "[" ∷ elements argument ps) ++ sign "]" ∷ [])
fixed_array ps = one_more refl (fixed_join (fixed_elements argument (λ n. refl) ps) (one_more refl all_done))

fixed_object : (ps : Parts) → Fixed ((sign "{" ∷ listed (item_piece object_role) ps) ++ sign "}" ∷ [])
fixed_object ps = one_more refl (fixed_join (fixed_listed (item_piece object_role) (λ n. fixed_put (object_role (kind_of n))) ps) (one_more refl all_done))

-- What begins with `[` or with `{`: the kind of the expression, that of the pattern, and the pieces of the expression. An object doesn't
-- begin each expression.
pub data Bracketing (f : Start) : ExpressionStart → Kind → Kind → (Parts → List (PieceOf Role)) → Type 0 where
  by_bracket : Bracketing f with_bracket ArrayExpression ArrayPattern array_parts
  by_brace : IsTrue (starts f (sign "{" ∷ [])) → Bracketing f with_brace ObjectExpression ObjectPattern object_parts

no_parenthesis : {f : Start} {a : ExpressionStart} {K L : Kind} {pieces : Parts → List (PieceOf Role)} → Bracketing f a K L pieces → a ≡ with_parenthesis → ⊥
no_parenthesis by_bracket e = cc
no_parenthesis (by_brace b) e = cc

no_target : {f : Start} {a : ExpressionStart} {K L : Kind} {pieces : Parts → List (PieceOf Role)} → Bracketing f a K L pieces → is_target K ≡ false
no_target by_bracket = refl
no_target (by_brace b) = refl

other_edge : {f : Start} {a : ExpressionStart} {K L : Kind} {pieces : Parts → List (PieceOf Role)} (st en : ℕ) (ps : Parts) → Bracketing f a K L pieces → edge (node K [] plain st en ps) ≡ Other
other_edge st en ps by_bracket = refl
other_edge st en ps (by_brace b) = refl

abbrev is_object_pattern : Kind → Bool
is_object_pattern ObjectPattern = true
is_object_pattern _ = false

module _ (S : Type 0) (Next : S → Token → S → Type 0) (behind : S → Token) where
  -- all that spells it here ends at one place
  abbrev pub EndsAt : Role → S → S → Type 0
  EndsAt a s e = (o' : ℕ) (e' : S) (n' : Tree) (P' : List Pair) → Spells ways S Next behind o' a n' s e' P' → e' ≡ e

  abbrev pub PartsEndAt : (Parts → List (PieceOf Role)) → S → S → Type 0
  PartsEndAt pieces s e = (o' : ℕ) (e' : S) (ps' : Parts) (P' : List Pair) → Runs ways S Next behind o' (pieces ps') ps' s e' P' → e' ≡ e

  -- what is found ends there; so does what is absent
  pub found_ends : {o : ℕ} {a : Role} {s e : S} {n : Tree} {P : List Pair} → FoundAt S Next behind o a s e n P → EndsAt a s e
  found_ends found o' e' n' P' d = (found.only o' e' n' P' d).0

  -- no pattern here has `=` behind it; none within the limits
  abbrev pub Unassigned : Start → S → Type 0
  Unassigned f s = (o' : ℕ) (e' : S) (n' : Tree) (P' : List Pair) (v : Token) (k : S) → Spells ways S Next behind o' (pattern false f) n' s e' P' → Reads S Next behind Punctuator (codes "=") e' v k → ⊥

  -- a pattern is an array or an object pattern
  pub pattern_is : {o : ℕ} {b : Bool} {f : Start} {n : Tree} {s e : S} {P : List Pair} → Spells ways S Next behind o (pattern b f) n s e P → is_pattern (kind_of n) ≡ true
  unfolding spellings
  pattern_is {n = node ArrayPattern w g st en ps} d = refl
  pattern_is {n = node ObjectPattern w g st en ps} d = refl
  pattern_is {n = node _ w g st en ps} (direct qs h pl d) = elim ((way_of h).listed) [ ]

  -- an object pattern begins with `{`, where that may stand
  pub object_starts : {o : ℕ} {b : Bool} {f : Start} {n : Tree} {s e : S} {P : List Pair} → Spells ways S Next behind o (pattern b f) n s e P → kind_of n ≡ ObjectPattern → IsTrue (starts f (sign "{" ∷ []))
  unfolding spellings
  object_starts {f = f} {n = node ObjectPattern w g st en ps} (direct qs h pl d) k = let v = way_of h in first_starts f _ (subst (λ x. IsTrue (starts f x.pieces)) (one v.listed) (and_parts _ _ v.fit).0)
  object_starts {n = node _ w g st en ps} (direct qs h pl d) k = absurd (false≢true (ap is_object_pattern k))

module _ (S : Type 0) (Next : S → Token → S → Type 0) (behind : S → Token) (det : IsDetermined S Next behind) where
  -- A sign behind a leftmost part, whose symbol the position takes, goes on with it.
  pub led_behind : {o : ℕ} {s0 e : S} {y : Rank} {i : Bool} {f : Start} {n : Tree} {P : List Pair} {h : Rank} {j : Bool} {m : Tree} {mid x : S} {Q : List Pair} {v : Token} {w : List ℕ} {op : Operator} (z : Rank) → Begun S Next behind det o s0 y i f n e P h j m mid Q →
      edge_as_written (edge m) (behind mid) ≡ Other → Reads S Next behind Punctuator w mid v x → IsTrue (allows Div Punctuator w) → of_class Punctuator w ≡ op → rank_made_by op v.after_break ≡ Some z → is w "in" ≡ false → (op ≡ op_optional → ⊥) → IsTrue (takes y z) →
      LedOn S Next behind det o s0 (expr y i f) n e P h j f m mid Q op
  led_behind {y = y} {i = i} {m = m} {mid = mid} {x = x} {v = v} {w = w} {op = op} z b at reads allowed is_op symbol no_in other tk =
      let op' : operation v ≡ op = makes v reads.class reads.text is_op in
      let al : IsTrue (allows Div v.class v.text) = subst (λ c. IsTrue (allows Div c v.text)) (sym reads.class) (subst (λ c. IsTrue (allows Div Punctuator c)) (sym reads.text) allowed) in
      let r : ReadBy S Next behind Div mid v x = record { next = reads.next; allowed = al } in
      let goes : stops_at y i Other v (Some z) ≡ false = refused (takes y z) (is v.text "in") i true tk (ap (λ w. is w "in") reads.text ∙ no_in) refl in
      let goes' : stops y i (edge m) (behind mid) v ≡ false = ap (λ c. stops_at y i c v (rank_made_by (operation v) v.after_break)) at ∙ ap (λ c. stops_at y i Other v (rank_made_by c v.after_break)) op' ∙ ap (λ c. stops_at y i Other v c) symbol ∙ goes in
      led_on S Next behind det r op' other (goes_where_not S Next behind det y i r b.stopped goes') (core_spelled S Next behind b.core) b.grows

  -- what `=` assigns to is a target
  assigned_target : {y : Rank} {i : Bool} {f : Start} {k : Kind} {w : List ℕ} {g : Flags} {ps : Parts} {b : Role} {rest : List (PieceOf Role)} → Led y i f k w g ps b rest op_assign → is_target (lead_kind ps) ≡ true
  assigned_target (led_assign k op ta tk b e) = ta

  -- so nothing else stands before it
  pub assign_follows : {o : ℕ} {s0 e : S} {y : Rank} {i : Bool} {f : Start} {n : Tree} {P : List Pair} {h : Rank} {j : Bool} {m : Tree} {mid x : S} {Q : List Pair} {v : Token} → Begun S Next behind det o s0 y i f n e P h j m mid Q →
      edge_as_written (edge m) (behind mid) ≡ Other → is_target (kind_of m) ≡ false → Reads S Next behind Punctuator (codes "=") mid v x → IsTrue (takes y Assignment) → ⊥
  assign_follows {m = m} b at no_target reads tk =
      let on = led_behind Assignment b at reads refl refl refl refl (λ e. cc) tk in
      false≢true (sym no_target ∙ ap is_target (sym (kind_bare m)) ∙ assigned_target on.led)

  -- What begins with `[` or `{` in a derivation: the expression, or an assignment to a pattern.
  data BracketCore (o : ℕ) (h : Rank) (j : Bool) (f : Start) (m : Tree) (s0 mid : S) (Q : List Pair) (K : Kind) (pieces : Parts → List (PieceOf Role)) : Type 0 where
    as_list : {st en : ℕ} {ps : Parts} → m ≡ node K [] plain st en ps → Placed S Next behind (expr h j f) (node K [] plain st en ps) s0 mid → Runs ways S Next behind o (pieces ps) ps s0 mid Q → BracketCore o h j f m s0 mid Q K pieces
    as_assigned : {st en : ℕ} {p u : Tree} {place x : S} {v : Token} {R V : List Pair} → m ≡ node AssignmentExpression (codes "=") plain st en (part p (part u none)) → IsTrue (takes h Assignment) →
        Placed S Next behind (expr h j f) (node AssignmentExpression (codes "=") plain st en (part p (part u none))) s0 mid → Spells ways S Next behind o (pattern false f) p s0 place R → Reads S Next behind Punctuator (codes "=") place v x →
        Spells ways S Next behind o (expr Assignment j Any) u x mid V → Q ≡ R ++ V → BracketCore o h j f m s0 mid Q K pieces

  assigned_core : {o : ℕ} {h : Rank} {j : Bool} {f : Start} {m : Tree} {s0 mid : S} {Q : List Pair} {K : Kind} {pieces : Parts → List (PieceOf Role)} {k : Kind} {w : List ℕ} {g : Flags} {st en : ℕ} {ps : Parts} {qs : List (PieceOf Role)} →
      m ≡ node k w g st en ps → k ≡ AssignmentExpression → is w "=" ≡ true → IsTrue (takes h Assignment) → qs ≡ sub (pattern false f) ∷ between w (expr Assignment j Any) → is_lean (bare m) ≡ true → Placed S Next behind (expr h j f) m s0 mid →
      Runs ways S Next behind o qs ps s0 mid Q → BracketCore o h j f m s0 mid Q K pieces
  assigned_core {o} {h} {j} {f} {m} {s0} {mid} {k = k} {w = w} {g = g} {st = st} {en = en} {ps = ps} tree kind equals tk q lean pl d =
      let text : w ≡ codes "=" = (bytes_eq-Decides w (codes "=")).0 equals in
      let bares : is_lean (bare (node k w g st en ps)) ≡ true = ap (λ v. is_lean (bare v)) (sym tree) ∙ lean in
      let a = run_part S Next behind (retell S Next behind (q ∙ ap (λ v. sub (pattern false f) ∷ between v (expr Assignment j Any)) text) d) in
      let eq = run_token S Next behind (run_laid S Next behind a.runs) in
      let right = one_part S Next behind det (run_laid S Next behind eq.runs) in
      let same : m ≡ node AssignmentExpression (codes "=") plain st en (part a.item (part right.operand none)) =
      tree ∙ same_node kind text (lean_flags (bare (node k w g st en ps)) bares ∙ ap (λ v. used_flags v g) kind) refl refl (a.parts ∙ ap (part a.item) right.parts) in
      as_assigned same tk (subst (λ v. Placed S Next behind (expr h j f) v s0 mid) same pl) a.spelled eq.reads right.spelled a.pairs

  listed_core : {o : ℕ} {h : Rank} {j : Bool} {f : Start} {m : Tree} {s0 mid : S} {Q : List Pair} {k : Kind} {w : List ℕ} {g : Flags} {st en : ℕ} {ps : Parts} {qs : List (PieceOf Role)} {K : Kind} {pieces : Parts → List (PieceOf Role)} →
      m ≡ node k w g st en ps → k ≡ K → has_text K ≡ false → used_flags K g ≡ plain → qs ≡ pieces ps → is_lean (bare m) ≡ true → Placed S Next behind (expr h j f) m s0 mid → Runs ways S Next behind o qs ps s0 mid Q → BracketCore o h j f m s0 mid Q K pieces
  listed_core {h = h} {j = j} {f = f} {m = m} {s0 = s0} {mid = mid} {k = k} {w = w} {g = g} {st = st} {en = en} {ps = ps} {K = K} tree kind texts flags q lean pl d =
      let bares : is_lean (bare (node k w g st en ps)) ≡ true = ap (λ v. is_lean (bare v)) (sym tree) ∙ lean in
      let same : m ≡ node K [] plain st en ps =
      tree ∙ same_node kind (lean_text (bare (node k w g st en ps)) bares (ap has_text kind ∙ texts)) (lean_flags (bare (node k w g st en ps)) bares ∙ ap (λ v. used_flags v g) kind ∙ flags) refl refl refl in
      as_list same (subst (λ v. Placed S Next behind (expr h j f) v s0 mid) same pl) (retell S Next behind q d)

  cored_bracket : {o : ℕ} {h : Rank} {j : Bool} {f : Start} {m : Tree} {s0 mid : S} {Q : List Pair} {a : ExpressionStart} {K L : Kind} {pieces : Parts → List (PieceOf Role)} → Bracketing f a K L pieces → Cored S Next behind det o h j f m s0 mid Q a → BracketCore o h j f m s0 mid Q K pieces
  cored_bracket {h = h} {j = j} {f = f} by_bracket (in_way {ps = ps} tree (head_array k q) lean pl d) = listed_core tree k refl refl (q ∙ same_pieces h Expression j true f Any (fixed_array (bare_parts ps))) lean pl d
  cored_bracket by_bracket (in_way tree (head_array_pattern k op e l tk q) lean pl d) = assigned_core tree k e tk q lean pl d
  cored_bracket {h = h} {j = j} {f = f} (by_brace begins) (in_way {ps = ps} tree (head_object k b q) lean pl d) =
      listed_core tree k refl refl (q ∙ ap (λ v. goes_to h j f ((sign "{" ∷ v) ++ sign "}" ∷ [])) (object_pieces (bare_parts ps)) ∙ same_pieces h Expression j true f Any (fixed_object (bare_parts ps))) lean pl d
  cored_bracket (by_brace begins) (in_way tree (head_object_pattern k op e l tk q) lean pl d) = assigned_core tree k e tk q lean pl d

  bracket_spells : {f : Start} {a : ExpressionStart} {K L : Kind} {pieces : Parts → List (PieceOf Role)} → Bracketing f a K L pieces → (o : ℕ) (h : Rank) (j : Bool) {st en : ℕ} (ps : Parts) {s e : S} {P : List Pair} → IsTrue (takes h Primary) → Placed S Next behind (expr h j f) (node K [] plain st en ps) s e →
      Runs ways S Next behind o (pieces ps) ps s e P → Spells ways S Next behind o (expr h j f) (node K [] plain st en ps) s e P
  bracket_spells {f = f} by_bracket o h j ps tk pl d = spell S Next behind (at Primary ((sign "[" ∷ elements argument (bare_parts ps)) ++ sign "]" ∷ [])) array refl tk refl (starts_bracket f (elements argument (bare_parts ps) ++ sign "]" ∷ [])) pl
      (retell S Next behind (same_pieces Expression h true j Any f (fixed_array (bare_parts ps))) d)
  bracket_spells {f = f} (by_brace begins) o h j ps tk pl d = spell S Next behind (at Primary ((sign "{" ∷ listed object_part (bare_parts ps)) ++ sign "}" ∷ [])) object refl tk refl (starts_brace f (listed object_part (bare_parts ps) ++ sign "}" ∷ []) begins) pl
      (retell S Next behind (same_pieces Expression h true j Any f (fixed_object (bare_parts ps)) ∙ ap (λ v. goes_to h j f ((sign "{" ∷ v) ++ sign "}" ∷ [])) (sym (object_pieces (bare_parts ps)))) d)

  -- what stands behind `=` in a derivation does so behind this one
  behind_sign : {f : Start} {s0 mid x2 : S} {v : Token} → Reads S Next behind Punctuator (codes "=") mid v x2 → EndsAt S Next behind (pattern false f) s0 mid → {o : ℕ} {p u : Tree} {place x3 e : S} {v' : Token} {R V : List Pair} {j : Bool} → Spells ways S Next behind o (pattern false f) p s0 place R → Reads S Next behind Punctuator (codes "=") place v' x3 → Spells ways S Next behind o (expr Assignment j Any) u x3 e V →
      Spells ways S Next behind o (expr Assignment j Any) u x2 e V
  behind_sign {x2 = x2} reads pattern_ends {o} {p} {u} {place} {x3} {e} {v'} {R} {V} {j} d eq right =
      let there = same_sign S Next behind det (subst (λ c. Reads S Next behind Punctuator (codes "=") c v' x3) (pattern_ends o place p R d) eq) reads refl in
      subst (λ c. Spells ways S Next behind o (expr Assignment j Any) u c e V) there.1 right

  module _ {f : Start} {x : ExpressionStart} {K L : Kind} {pieces : Parts → List (PieceOf Role)} (is_bracket : Bracketing f x K L pieces) {s0 m0 : S} {t : Token} (r : ReadBy S Next behind Goal.RegExp s0 t m0) (opening : expression_start t ≡ x) where
    bracket_core : {o : ℕ} {h : Rank} {j : Bool} {m : Tree} {mid : S} {Q : List Pair} → Core S Next behind o (expr h j f) m s0 mid Q → BracketCore o h j f m s0 mid Q K pieces
    bracket_core c = cored_bracket is_bracket (core_by S Next behind det r opening c)

    -- where `=` follows, the expression isn't the leftmost part
    not_assigned : {o : ℕ} {y : Rank} {i : Bool} {n : Tree} {e : S} {P : List Pair} {h : Rank} {j : Bool} {m : Tree} {mid at_end x2 : S} {Q : List Pair} {v : Token} {st en : ℕ} {ps : Parts} → PartsEndAt S Next behind pieces s0 at_end → Reads S Next behind Punctuator (codes "=") at_end v x2 →
        IsTrue (takes y Assignment) → Begun S Next behind det o s0 y i f n e P h j m mid Q → m ≡ node K [] plain st en ps → Runs ways S Next behind o (pieces ps) ps s0 mid Q → ⊥
    not_assigned {o} {mid = mid} {x2 = x2} {Q = Q} {v = v} {st = st} {en = en} {ps = ps} ends reads tk b tree d =
        assign_follows b (ap (λ c. edge_as_written (edge c) (behind mid)) tree ∙ ap (λ c. edge_as_written c (behind mid)) (other_edge st en ps is_bracket)) (ap (λ c. is_target (kind_of c)) tree ∙ no_target is_bracket)
        (subst (λ c. Reads S Next behind Punctuator (codes "=") c v x2) (sym (ends o mid ps Q d)) reads) tk

    -- the right side can't go on
    right_stops : {o : ℕ} {y : Rank} {i : Bool} {n : Tree} {e : S} {P : List Pair} {h : Rank} {j : Bool} {m : Tree} {mid : S} {Q : List Pair} {st en : ℕ} {p u : Tree} → Begun S Next behind det o s0 y i f n e P h j m mid Q →
        m ≡ node AssignmentExpression (codes "=") plain st en (part p (part u none)) → IsTrue (takes h Assignment) → Stops S Next behind Assignment j u mid
    right_stops {j = j} {mid = mid} {u = u} b tree tk = begun_stops S Next behind det Assignment Assignment j u tails_assign (λ l. omega arith) tk (λ k. refl) (ap (λ c. edge_as_written (edge c) (behind mid)) tree) b

    -- an array or an object, where no `=` follows a pattern
    pub climb_bracket : {o : ℕ} {y : Rank} {i : Bool} {ps : Parts} {to : S} {U : List Pair} {st en : ℕ} → IsTrue (takes y Primary) → FoundParts S Next behind o pieces s0 to ps U → (IsTrue (takes y Assignment) → Unassigned S Next behind f s0) →
        Placed S Next behind (expr y i f) (node K [] plain st en ps) s0 to → Climbing S Next behind det o y i f Primary s0 (node K [] plain st en ps) to U
    climb_bracket {o} {y} {i} {ps} {to} {U} {st} {en} low found unassigned places = climb_start S Next behind det low (λ h j tk lo. bracket_spells is_bracket o h j ps tk (replaced S Next behind det places) found.runs) (λ o' n e P h j m mid Q b. alone b (bracket_core b.core) (core_primary S Next behind det b.core r (λ q. no_parenthesis is_bracket (sym opening ∙ q))))
      where
        alone : {o' : ℕ} {n : Tree} {e : S} {P : List Pair} {h : Rank} {j : Bool} {m : Tree} {mid : S} {Q : List Pair} → Begun S Next behind det o' s0 y i f n e P h j m mid Q → BracketCore o' h j f m s0 mid Q K pieces → IsTrue (takes h Primary) →
            (mid ≡ to) × (m ≡ node K [] plain st en ps) × (Q ≡ U) × IsTrue (takes h Primary)
        alone {o'} {mid = mid} {Q = Q} b (as_list {ps = ps'} tree pl d) tk =
            let same = found.only o' mid ps' Q d in
            let where_is = same_places S Next behind det pl places same.0 in
            (same.0, tree ∙ same_node refl refl refl where_is.0 where_is.1 same.1, same.2, tk)
        alone {o'} b (as_assigned {p = p} {place = place} {x = x2} {v = v} {R = R} tree tk' pl d eq u q) tk = absurd (unassigned (b.reached.taken Assignment tk') o' place p R v x2 d eq)

    -- `=` follows what ends there
    module _ {mid x2 : S} {v : Token} (ends : PartsEndAt S Next behind pieces s0 mid) (reads : Reads S Next behind Punctuator (codes "=") mid v x2) {y : Rank} (low : IsTrue (takes y Assignment)) where
      -- or it is one, with no right side
      module _ (pattern_ends : EndsAt S Next behind (pattern false f) s0 mid) where
        inside : {o : ℕ} {i : Bool} {n : Tree} {e : S} {P : List Pair} {h : Rank} {j : Bool} {m : Tree} {mid' : S} {Q : List Pair} → Begun S Next behind det o s0 y i f n e P h j m mid' Q → IsTrue (takes h Assignment) → j ≡ i
        inside {h = h} b tk = (b.reached.same_in (loose_of h Assignment tk refl)).1

      -- an assignment to a pattern
      pub climb_assigned : {o : ℕ} {i : Bool} {p u : Tree} {to : S} {R U : List Pair} {st en : ℕ} → FoundAt S Next behind o (pattern false f) s0 mid p R → Found S Next behind o Assignment i Any x2 to u U →
          Placed S Next behind (expr y i f) (node AssignmentExpression (codes "=") plain st en (part p (part u none))) s0 to → Climbing S Next behind det o y i f Assignment s0 (node AssignmentExpression (codes "=") plain st en (part p (part u none))) to (R ++ U)
      climb_assigned {o} {i} {p} {u} {to} {R} {U} {st} {en} target right places = climb_start S Next behind det low stands (λ o' n e P h j m mid' Q b. alone b (bracket_core b.core))
        where
          stands : (h : Rank) (j : Bool) → IsTrue (takes h Assignment) → (is_loose h ≡ true → j ≡ i) → Spells ways S Next behind o (expr h j f) (node AssignmentExpression (codes "=") plain st en (part p (part u none))) s0 to (R ++ U)
          stands h j tk lo =
              let same : j ≡ i = lo (loose_of h Assignment tk refl) in
              subst (λ c. Spells ways S Next behind o (expr h c f) (node AssignmentExpression (codes "=") plain st en (part p (part u none))) s0 to (R ++ U)) (sym same)
              (spell S Next behind (at Assignment (sub lead_pattern ∷ infix_pieces (codes "=") ++ sub (tail Assignment Any) ∷ [])) (assign_pattern refl refl (ap is_pattern (kind_bare p) ∙ pattern_is S Next behind target.spelled)) refl tk refl (starts_led f lead_pattern _)
              (replaced S Next behind det places) (within target.spelled (step laid (step (token reads) (step laid (last_runs S Next behind right.spelled))))))

          alone : {o' : ℕ} {n : Tree} {e : S} {P : List Pair} {h : Rank} {j : Bool} {m : Tree} {mid' : S} {Q : List Pair} → Begun S Next behind det o' s0 y i f n e P h j m mid' Q → BracketCore o' h j f m s0 mid' Q K pieces →
              (mid' ≡ to) × (m ≡ node AssignmentExpression (codes "=") plain st en (part p (part u none))) × (Q ≡ R ++ U) × IsTrue (takes h Assignment)
          alone b (as_list tree pl d) = absurd (not_assigned ends reads low b tree d)
          alone {o'} {mid' = mid'} b (as_assigned {p = p'} {u = u'} {place = place} {R = R'} {V = V} tree tk pl d eq u1 q) =
              let left = target.only o' place p' R' d in
              let same_in = inside (found_ends S Next behind target) b tk in
              let same = right.only o' mid' u' V (subst (λ k. Spells ways S Next behind o' (expr Assignment k Any) u' x2 mid' V) same_in (behind_sign reads (found_ends S Next behind target) d eq u1)) (subst (λ k. Stops S Next behind Assignment k u' mid') same_in (right_stops b tree tk)) in
              let where_is = same_places S Next behind det pl places same.0 in
              (same.0, tree ∙ same_node refl refl refl where_is.0 where_is.1 (λ k. part (left.1 k) (part (same.1 k) none)), q ∙ (λ k. left.2 k ++ same.2 k), tk)

  -- `{` begins no expression at some starts
  pub start_brace_unfit : {y : Rank} {i : Bool} {f : Start} {s0 m0 : S} {t : Token} → ReadBy S Next behind Goal.RegExp s0 t m0 → expression_start t ≡ with_brace → starts f (sign "{" ∷ []) ≡ false → Absent S Next behind y i f s0
  start_brace_unfit {f = f} {s0 = s0} r op no_fit = start_absent S Next behind det (λ o' n e P h j m mid Q b. of (core_by S Next behind det r op b.core))
    where
      of : {o : ℕ} {h : Rank} {j : Bool} {m : Tree} {mid : S} {Q : List Pair} → Cored S Next behind det o h j f m s0 mid Q with_brace → ⊥
      of (in_way is (head_object k b q) lean pl d) = false≢true (sym no_fit ∙ b)
      of (in_way is (head_object_pattern k op e l tk q) lean pl d) =
          let a = run_part S Next behind (retell S Next behind q d) in
          false≢true (sym no_fit ∙ object_starts S Next behind a.spelled (sym (kind_bare a.item) ∙ sym (ap (λ v. lead_kind (bare_parts v)) a.parts) ∙ l))
