-- A turn of the loop over operators, at each operator but `?.`: from a whole that can't go on, what was read of it and the token, to what is read behind it.
use Rattle.std.proofs.Common.{◌≡◌, ℕ, suc, ◌≤◌, Bool, true, false, List, [], ◌++◌, refl, sym, ap, ◌∙◌, subst, arith}
use Rattle.std.specs.Prelude.{IsTrue}
use Rattle.std.proofs.lemmas.Bool.{false≢true}
use Rattle.tokens.specs.declared.token.Goal.TheVariants.{Div}
use Rattle.tree.specs.declared.kind.Kind.{Kind}
use Rattle.tree.specs.declared.kind.Kind.TheVariants.{ConditionalExpression, UpdateExpression, MemberExpression, CallExpression, TaggedTemplateExpression, SequenceExpression}
use Rattle.language.specs.declared.Rank.{Rank}
use Rattle.language.specs.declared.Rank.TheVariants.{Expression, Assignment, Conditional, LeftHandSide, Update, Call}
use Rattle.language.specs.declared.Start.{Start}
use Rattle.tree.specs.declared.kind.Pair.{Pair}
use Rattle.tree.specs.Tree.{Tree, node, none, part, height, kind_of, plain}
use Rattle.language.specs.Vocabulary.{takes, precedence, is_target, Operator, op_binary, op_power, op_assign, op_update, op_comma, op_question, op_dot, op_call, op_index, op_optional, op_arrow, op_template, op_none}
use Rattle.language.specs.Pieces.{expr}
use Rattle.language.specs.Token.{Token}
use Rattle.language.specs.Edges.{edge}
use Rattle.language.specs.Continuations.{operation, rank_made_by, stops_at, stops}
use Rattle.language.specs.Edges.{edge_as_written}
use Rattle.language.specs.Promises.{IsDetermined, ReadBy, Stops}
use Rattle.language.specs.Following.{IsAlike}
use Rattle.language.specs.Grammar.{ways}
use Rattle.language.specs.Derivation.{Spells}
use Rattle.language.proofs.table.Tails.{tails_conditional}
use Rattle.unambiguity_laws.proofs.turns.SubscriptParts.{property_unique}
use Rattle.language.proofs.climbing.OperatorLoop.{goes_on, grows_height, Climbing, stops_inside}
use Rattle.language.proofs.climbing.BinaryTurns.{TwoSided, two_binds, two_powers, two_assigns, climb_two}
use Rattle.language.proofs.climbing.Conditionals.{ask_on, climb_conditional}
use Rattle.language.proofs.climbing.Suffixes.{suffix_rank, some_same, computed_flags, argument_pieces, climb_step, climb_step_unfit, climb_step_no_target, dot_on, climb_dot}
use Rattle.language.proofs.climbing.Calls.{index_on, climb_index, climb_call, tag_on, climb_tag}
use Rattle.language.proofs.climbing.Sequences.{climb_comma, climb_comma_unfit}
use Rattle.language.proofs.climbing.Turns.{not_conditional, right_position, climb_arrows}
use Rattle.unambiguity_laws.proofs.Unique.{Unique, UniqueParts, Turned, Turn}
use Rattle.unambiguity_laws.proofs.turns.TurnViews.{two_reads, first_token, place_node, two_on, call_on, later_on, later_found}

-- a test that can't fail
by_test : (b : Bool) → (b ≡ false → ⊥) → b ≡ true
by_test true h = refl
by_test false h = absurd (h refl)

low_position : (y : Rank) → IsTrue (takes y Expression) → y ≡ Expression
low_position Expression h = refl
low_position _ h = cc

module _ (S : Type 0) (Next : S → Token → S → Type 0) (behind : S → Token) (det : IsDetermined S Next behind) where
  none_goes : (y : Rank) (i : Bool) (m : Tree) (mid : S) (t : Token) → operation t ≡ op_none → stops y i (edge m) (behind mid) t ≡ false → ⊥
  none_goes y i m mid t op goes = false≢true (sym goes ∙ ap (λ v. stops_at y i (edge_as_written (edge m) (behind mid)) t (rank_made_by v t.after_break)) op)

  comma_position : (y : Rank) (i : Bool) (m : Tree) (mid : S) (t : Token) → operation t ≡ op_comma → stops y i (edge m) (behind mid) t ≡ false → y ≡ Expression
  comma_position y i m mid t op goes =
      let on = goes_on y i (edge m) (behind mid) t goes in
      let same : on.symbol ≡ Expression = some_same (sym on.makes ∙ ap (λ v. rank_made_by v t.after_break) op) in
      low_position y (subst (λ v. IsTrue (takes y v)) same on.taken)

module _ (S : Type 0) (Next : S → Token → S → Type 0) (behind : S → Token) (det : IsDetermined S Next behind) (alike : IsAlike S Next behind) {h : ℕ} (u : Unique S Next behind det h) where
  two_turn : {op : Operator} {K : Kind} {a z q : Rank} {b : Bool} → TwoSided op K a z q b → Turn S Next behind det h op
  two_turn {op} {K} {a} {z} {q} {b} two = record {
    gives = λ {o} {y} {i} {f} {n} {s0} {e} {P} {c} {m} {mid} {x} {Q} {t} no_test no_new low d st climb r is_op goes.
        let w = two_on S Next behind det two r is_op goes st (climb.leads o e n P d st) in
        let at = right_position t.text (two_reads t two is_op) two in
        let below = w.low in
        let first = first_token S Next behind d in
        let found = u.expressions.found (omega arith) (λ k. at.0 (ap precedence k)) at.1 w.side w.stopped in
        record {
          tree = node K t.text plain first.token.start (behind w.to).stop (part m (part w.operand none));
          place = w.to;
          pairs = Q ++ w.right;
          taller = omega arith;
          climbed = record { symbol = z; climbing = climb_two S Next behind det two r is_op goes climb w.fits w.target found (place_node S Next behind first) };
        };
  }

  ask_turn : Turn S Next behind det h op_question
  ask_turn = record {
    gives = λ {o} {y} {i} {f} {n} {s0} {e} {P} {c} {m} {mid} {x} {Q} {t} no_test no_new low d st climb r is_op goes.
        let w = ask_on S Next behind det r is_op goes st (climb.leads o e n P d st) in
        let high = grows_height S Next behind det w.grows in
        let first = first_token S Next behind d in
        let is_no = not_conditional y no_test in
        let ends = stops_inside S Next behind det Conditional Assignment i w.alternate tails_conditional (λ k l. is_no k) w.stands (λ k. refl) refl st w.grows in
        let one = u.expressions.found (omega arith) (λ k. cc) (λ k. cc) w.one w.one_stops in
        let other = u.expressions.found (omega arith) (λ k. cc) (λ k. cc) w.other ends in
        record {
          tree = node ConditionalExpression [] plain first.token.start (behind w.to).stop (part m (part w.consequent (part w.alternate none)));
          place = w.to;
          pairs = Q ++ (w.first_pairs ++ w.more_pairs);
          taller = omega arith;
          climbed = record { symbol = Conditional; climbing = climb_conditional S Next behind det r is_op goes one w.divides is_no climb w.fits other (place_node S Next behind first) };
        };
  }

  step_turn : Turn S Next behind det h op_update
  step_turn = record {
    gives = λ {o} {y} {i} {f} {n} {s0} {e} {P} {c} {m} {mid} {x} {Q} {t} no_test no_new low d st climb r is_op goes.
        let first = first_token S Next behind d in
        let fits = by_test (takes LeftHandSide c) (λ k. (climb_step_unfit S Next behind det r is_op goes climb k).nothing o e n P d st) in
        let target = by_test (is_target (kind_of m)) (λ k. (climb_step_no_target S Next behind det r is_op goes climb k).nothing o e n P d st) in
        record {
          tree = node UpdateExpression t.text plain first.token.start (behind x).stop (part m none);
          place = x;
          pairs = Q ++ [];
          taller = omega arith;
          climbed = record { symbol = Update; climbing = climb_step S Next behind det r is_op goes climb fits target (place_node S Next behind first) };
        };
  }

  dot_turn : Turn S Next behind det h op_dot
  dot_turn = record {
    gives = λ {o} {y} {i} {f} {n} {s0} {e} {P} {c} {m} {mid} {x} {Q} {t} no_test no_new low d st climb r is_op goes.
        let w = dot_on S Next behind det r is_op goes st (climb.leads o e n P d st) in
        let below = w.low in
        let first = first_token S Next behind d in
        record {
          tree = node MemberExpression [] plain first.token.start (behind w.to).stop (part m (part w.name none));
          place = w.to;
          pairs = Q ++ w.pairs;
          taller = omega arith;
          climbed = record { symbol = suffix_rank c; climbing = climb_dot S Next behind det r is_op goes climb w.fits (property_unique S Next behind det w.spelled) (place_node S Next behind first) };
        };
  }

  index_turn : Turn S Next behind det h op_index
  index_turn = record {
    gives = λ {o} {y} {i} {f} {n} {s0} {e} {P} {c} {m} {mid} {x} {Q} {t} no_test no_new low d st climb r is_op goes.
        let w = index_on S Next behind det r is_op goes st (climb.leads o e n P d st) in
        let below = w.low in
        let first = first_token S Next behind d in
        let found = u.expressions.found (omega arith) (λ k. cc) (λ k. cc) w.spelled w.stopped in
        record {
          tree = node MemberExpression [] computed_flags first.token.start (behind w.to).stop (part m (part w.inner none));
          place = w.to;
          pairs = Q ++ w.pairs;
          taller = omega arith;
          climbed = record { symbol = suffix_rank c; climbing = climb_index S Next behind det r is_op goes found climb w.fits w.closes (place_node S Next behind first) };
        };
  }

  call_turn : UniqueParts S Next behind det h argument_pieces → Turn S Next behind det h op_call
  call_turn arguments = record {
    gives = λ {o} {y} {i} {f} {n} {s0} {e} {P} {c} {m} {mid} {x} {Q} {t} no_test no_new low d st climb r is_op goes.
        let w = call_on S Next behind det r is_op goes st (climb.leads o e n P d st) in
        let below = w.low in
        let first = first_token S Next behind d in
        let found = arguments.gives (omega arith) w.runs in
        record {
          tree = node CallExpression [] plain first.token.start (behind w.to).stop (part m w.given);
          place = w.to;
          pairs = Q ++ w.pairs;
          taller = omega arith;
          climbed = record { symbol = Call; climbing = climb_call S Next behind det r is_op goes climb w.fits found (place_node S Next behind first) };
        };
  }

  tag_turn : Turn S Next behind det h op_template
  tag_turn = record {
    gives = λ {o} {y} {i} {f} {n} {s0} {e} {P} {c} {m} {mid} {x} {Q} {t} no_test no_new low d st climb r is_op goes.
        let w = tag_on S Next behind det r is_op goes st (climb.leads o e n P d st) in
        let below = w.low in
        let first = first_token S Next behind d in
        let found = u.closed refl (omega arith) w.spelled in
        record {
          tree = node TaggedTemplateExpression [] plain first.token.start (behind w.to).stop (part m (part w.template none));
          place = w.to;
          pairs = Q ++ w.pairs;
          taller = omega arith;
          climbed = record { symbol = suffix_rank c; climbing = climb_tag S Next behind det r is_op goes climb w.fits found (place_node S Next behind first) };
        };
  }

  comma_at : {o : ℕ} {i : Bool} {f : Start} {n : Tree} {s0 e : S} {P : List Pair} {c : Rank} {m : Tree} {mid x : S} {Q : List Pair} {t : Token} → height n ≤ suc h → ReadBy S Next behind Div mid t x → operation t ≡ op_comma → Spells ways S Next behind o (expr Expression i f) n s0 e P →
      Stops S Next behind Expression i n e → Climbing S Next behind det o Expression i f c s0 m mid Q → stops Expression i (edge m) (behind mid) t ≡ false → Turned S Next behind det o Expression i f s0 m
  comma_at {o} {i} {f} {n} {s0} {e} {P} {c} {m} {mid} {x} {Q} {t} low r is_op d st climb goes =
      let fits = by_test (takes Assignment c) (λ k. (climb_comma_unfit S Next behind det r is_op goes climb k).nothing o e n P d st) in
      let w = later_on S Next behind det r is_op goes climb fits d st in
      let below = w.low in
      let first = first_token S Next behind d in
      let later = later_found S Next behind det o h i u.expressions w.later w.runs w.stopped (omega arith) in
      record {
        tree = node SequenceExpression [] plain first.token.start (behind later.to).stop (part m later.parts);
        place = later.to;
        pairs = Q ++ later.pairs;
        taller = omega arith;
        climbed = record { symbol = Expression; climbing = climb_comma S Next behind det r is_op goes climb fits later.found (place_node S Next behind first) };
      }

  comma_turn : Turn S Next behind det h op_comma
  comma_turn = record {
    gives = λ {o} {y} {i} {f} {n} {s0} {e} {P} {c} {m} {mid} {x} {Q} {t} no_test no_new low d st climb r is_op goes.
        subst (λ v. Spells ways S Next behind o (expr v i f) n s0 e P → Stops S Next behind v i n e → Climbing S Next behind det o v i f c s0 m mid Q → stops v i (edge m) (behind mid) t ≡ false → Turned S Next behind det o v i f s0 m) (sym (comma_position S Next behind det y i m mid t is_op goes))
        (comma_at low r is_op) d st climb goes;
  }

  arrow_turn : Turn S Next behind det h op_arrow
  arrow_turn = record {
    gives = λ {o} {y} {i} {f} {n} {s0} {e} {P} {c} {m} {mid} {x} {Q} {t} no_test no_new low d st climb r is_op goes.
        absurd ((climb_arrows S Next behind det r is_op goes climb).nothing o e n P d st);
  }

  none_turn : Turn S Next behind det h op_none
  none_turn = record {
    gives = λ {o} {y} {i} {f} {n} {s0} {e} {P} {c} {m} {mid} {x} {Q} {t} no_test no_new low d st climb r is_op goes.
        absurd (none_goes S Next behind det y i m mid t is_op goes);
  }

  -- each operator but `?.`
  pub turn : UniqueParts S Next behind det h argument_pieces → (z : Operator) → (z ≡ op_optional → ⊥) → Turn S Next behind det h z
  turn arguments (op_binary l z q) other = two_turn two_binds
  turn arguments op_power other = two_turn two_powers
  turn arguments op_assign other = two_turn two_assigns
  turn arguments op_question other = ask_turn
  turn arguments op_update other = step_turn
  turn arguments op_dot other = dot_turn
  turn arguments op_index other = index_turn
  turn arguments op_call other = call_turn arguments
  turn arguments op_template other = tag_turn
  turn arguments op_comma other = comma_turn
  turn arguments op_arrow other = arrow_turn
  turn arguments op_optional other = absurd (other refl)
  turn arguments op_none other = none_turn
