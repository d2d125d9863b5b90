-- A turn of the loop behind `new`: only a member or a template goes on there.
use Rattle.std.proofs.Common.{◌≡◌, ℕ, Bool, true, false, cond, [], ◌++◌, refl, sym, ap, ◌∙◌, subst, arith}
use Rattle.std.specs.Prelude.{IsTrue, Some, None}
use Rattle.tree.specs.declared.kind.Kind.TheVariants.{MemberExpression, TaggedTemplateExpression}
use Rattle.language.specs.declared.Rank.{Rank}
use Rattle.language.specs.declared.Rank.TheVariants.{Assignment, Update, New}
use Rattle.tree.specs.Tree.{node, none, part, plain}
use Rattle.language.specs.Vocabulary.{takes, Operator, op_binary, op_power, op_assign, op_update, op_comma, op_question, op_dot, op_call, op_index, op_optional, op_arrow, op_template, op_none}
use Rattle.language.specs.Token.{Token}
use Rattle.language.specs.Edges.{edge}
use Rattle.language.specs.Continuations.{operation, rank_made_by}
use Rattle.language.specs.Promises.{IsDetermined}
use Rattle.language.specs.Following.{IsAlike}
use Rattle.language.proofs.table.OperatorFacts.{binding}
use Rattle.language.proofs.table.OperatorTokens.{op_reads}
use Rattle.language.proofs.table.RightEdges.{takes_less}
use Rattle.unambiguity_laws.proofs.turns.SubscriptParts.{property_unique}
use Rattle.language.proofs.climbing.OperatorLoop.{goes_on}
use Rattle.language.proofs.climbing.Suffixes.{suffix_rank, some_same, computed_flags, dot_on}
use Rattle.language.proofs.climbing.Calls.{index_on, tag_on}
use Rattle.language.proofs.climbing.Callees.{callee_new, callee_dot, callee_index, callee_tag}
use Rattle.unambiguity_laws.proofs.Unique.{Unique, TurnCallee}
use Rattle.unambiguity_laws.proofs.turns.TurnViews.{first_token, place_node}

-- the operators that go on behind `new`
abbrev pub goes_behind_new : Operator → Bool
goes_behind_new op_dot = true
goes_behind_new op_index = true
goes_behind_new op_template = true
goes_behind_new _ = false

-- no other makes a node that stands there
not_behind_new : (t : Token) (z : Operator) {x : Rank} → operation t ≡ z → goes_behind_new z ≡ false → rank_made_by z t.after_break ≡ Some x → takes New x ≡ true → ⊥
not_behind_new t (op_binary l z q) {x} op h e tk =
    let b = binding t.text (op_reads t op (λ e. cc) (λ e. cc)).1 in
    let most = b.most in
    let up = takes_less New z (subst (λ v. IsTrue (takes New v)) (sym (some_same e)) tk) in
    omega arith
not_behind_new t op_power op h e tk = let u = subst (λ v. takes New v ≡ true) (sym (some_same e)) tk in cc
not_behind_new t op_assign op h e tk = let u = subst (λ v. takes New v ≡ true) (sym (some_same e)) tk in cc
not_behind_new t op_update {x} op h e tk = of t.after_break e
  where
    of : (b : Bool) → cond b None (Some Update) ≡ Some x → ⊥
    of true e = cc
    of false e = let u = subst (λ v. takes New v ≡ true) (sym (some_same e)) tk in cc
not_behind_new t op_comma op h e tk = let u = subst (λ v. takes New v ≡ true) (sym (some_same e)) tk in cc
not_behind_new t op_question op h e tk = let u = subst (λ v. takes New v ≡ true) (sym (some_same e)) tk in cc
not_behind_new t op_call op h e tk = let u = subst (λ v. takes New v ≡ true) (sym (some_same e)) tk in cc
not_behind_new t op_optional op h e tk = let u = subst (λ v. takes New v ≡ true) (sym (some_same e)) tk in cc
not_behind_new t op_arrow {x} op h e tk = of t.after_break e
  where
    of : (b : Bool) → cond b None (Some Assignment) ≡ Some x → ⊥
    of true e = cc
    of false e = let u = subst (λ v. takes New v ≡ true) (sym (some_same e)) tk in cc
not_behind_new t op_none op h e tk = cc
not_behind_new t op_dot op h e tk = cc
not_behind_new t op_index op h e tk = cc
not_behind_new t op_template op h e tk = cc

module _ (S : Type 0) (Next : S → Token → S → Type 0) (behind : S → Token) (det : IsDetermined S Next behind) (alike : IsAlike S Next behind) {h : ℕ} (u : Unique S Next behind det h) where
  other_turn : (z : Operator) → goes_behind_new z ≡ false → TurnCallee S Next behind det h z
  other_turn z not_one = record {
    gives = λ {o} {n} {s0} {e} {P} {c} {m} {mid} {x} {Q} {t} low d st climb r is_op goes.
        let on = goes_on New true (edge m) (behind mid) t goes in
        absurd (not_behind_new t z is_op not_one (ap (λ v. rank_made_by v t.after_break) (sym is_op) ∙ on.makes) on.taken);
  }

  dot_turn : TurnCallee S Next behind det h op_dot
  dot_turn = record {
    gives = λ {o} {n} {s0} {e} {P} {c} {m} {mid} {x} {Q} {t} low d st climb r is_op goes.
        let w = dot_on S Next behind det r is_op goes st (climb.leads o e n P d st) in
        let below = w.low in
        let first = first_token S Next behind (callee_new S Next behind d) in
        record {
          tree = node MemberExpression [] plain first.token.start (behind w.to).stop (part m (part w.name none));
          place = w.to;
          pairs = Q ++ w.pairs;
          taller = omega arith;
          climbed = record { symbol = suffix_rank c; climbing = callee_dot S Next behind det r is_op goes climb w.fits (property_unique S Next behind det w.spelled) (place_node S Next behind first) };
        };
  }

  index_turn : TurnCallee S Next behind det h op_index
  index_turn = record {
    gives = λ {o} {n} {s0} {e} {P} {c} {m} {mid} {x} {Q} {t} low d st climb r is_op goes.
        let w = index_on S Next behind det r is_op goes st (climb.leads o e n P d st) in
        let below = w.low in
        let first = first_token S Next behind (callee_new S Next behind d) in
        let found = u.expressions.found (omega arith) (λ k. cc) (λ k. cc) w.spelled w.stopped in
        record {
          tree = node MemberExpression [] computed_flags first.token.start (behind w.to).stop (part m (part w.inner none));
          place = w.to;
          pairs = Q ++ w.pairs;
          taller = omega arith;
          climbed = record { symbol = suffix_rank c; climbing = callee_index S Next behind det r is_op goes found climb w.fits w.closes (place_node S Next behind first) };
        };
  }

  tag_turn : TurnCallee S Next behind det h op_template
  tag_turn = record {
    gives = λ {o} {n} {s0} {e} {P} {c} {m} {mid} {x} {Q} {t} low d st climb r is_op goes.
        let w = tag_on S Next behind det r is_op goes st (climb.leads o e n P d st) in
        let below = w.low in
        let first = first_token S Next behind (callee_new S Next behind d) in
        let found = u.closed refl (omega arith) w.spelled in
        record {
          tree = node TaggedTemplateExpression [] plain first.token.start (behind w.to).stop (part m (part w.template none));
          place = w.to;
          pairs = Q ++ w.pairs;
          taller = omega arith;
          climbed = record { symbol = suffix_rank c; climbing = callee_tag S Next behind det r is_op goes climb w.fits found (place_node S Next behind first) };
        };
  }

  -- a turn at each operator: a member or a template, or none
  pub turn_callee : (z : Operator) → TurnCallee S Next behind det h z
  turn_callee op_dot = dot_turn
  turn_callee op_index = index_turn
  turn_callee op_template = tag_turn
  turn_callee (op_binary l z q) = other_turn (op_binary l z q) refl
  turn_callee op_power = other_turn op_power refl
  turn_callee op_assign = other_turn op_assign refl
  turn_callee op_question = other_turn op_question refl
  turn_callee op_update = other_turn op_update refl
  turn_callee op_call = other_turn op_call refl
  turn_callee op_comma = other_turn op_comma refl
  turn_callee op_arrow = other_turn op_arrow refl
  turn_callee op_optional = other_turn op_optional refl
  turn_callee op_none = other_turn op_none refl
