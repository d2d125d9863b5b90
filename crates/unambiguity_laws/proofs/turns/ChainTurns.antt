-- A turn of the loop at `?.`: the whole chain, from its base to its end.
use Rattle.std.proofs.Common.{◌≡◌, ℕ, suc, ◌≤◌, Bool, true, false, List, [], ◌++◌, refl, sym, ap, ◌∙◌, subst, arith}
use Rattle.std.specs.Prelude.{IsTrue, max}
use Rattle.std.proofs.lemmas.Bool.{false≢true}
use Rattle.std.proofs.lemmas.List.{append-nil}
use Rattle.tokens.specs.declared.token.Goal.TheVariants.{Div}
use Rattle.tree.specs.declared.kind.Kind.TheVariants.{ChainExpression}
use Rattle.language.specs.declared.Rank.{Rank}
use Rattle.language.specs.declared.Rank.TheVariants.{Call, LeftHandSide}
use Rattle.language.specs.declared.Start.{Start}
use Rattle.tree.specs.declared.kind.Pair.{Pair}
use Rattle.tree.specs.Tree.{Tree, node, none, part, height, parts_height, bare, bare_parts, plain}
use Rattle.tree.specs.Uses.{is_lean}
use Rattle.language.specs.Vocabulary.{takes, op_optional}
use Rattle.language.specs.Pieces.{expr, chain_part}
use Rattle.language.specs.Token.{Token}
use Rattle.language.specs.Edges.{edge}
use Rattle.language.specs.Continuations.{operation, stops}
use Rattle.language.specs.Promises.{IsDetermined, ReadBy, Stops}
use Rattle.language.specs.Following.{IsAlike}
use Rattle.language.specs.Grammar.{spellings}
use Rattle.language.specs.Derivation.{Placed}
use Rattle.language.proofs.climbing.Spine.{Grows, grow, grows_on_spine}
use Rattle.language.proofs.table.ViewIsComplete.{way_of, made}
use Rattle.language.proofs.list_loops.FirstPieces.{run_none}
use Rattle.language.proofs.table.Begins.{retell}
use Rattle.language.proofs.table.LeftRecursiveWays.{Led, led_of, Linked, linked_of}
use Rattle.language.proofs.climbing.SpineContinuations.{Onward, ended, by_led, by_link, by_chain, onward, linked_read}
use Rattle.language.proofs.table.Reaches.{linked_base}
use Rattle.language.proofs.climbing.NoContinuation.{no_spine, goes_where_not}
use Rattle.language.proofs.climbing.OperatorLoop.{grows_height, Leads, Climbing}
use Rattle.language.proofs.climbing.Suffixes.{argument_pieces}
use Rattle.language.proofs.climbing.BinaryTurns.{replaced, regrown}
use Rattle.language.proofs.climbing.Chains.{chains_led, Chaining, chain_first, chain_more, chain_end}
use Rattle.language.proofs.climbing.ChainElements.{no_part}
use Rattle.unambiguity_laws.proofs.Unique.{Unique, UniqueParts, Turn, Turned}
use Rattle.unambiguity_laws.proofs.turns.SubscriptParts.{link_found}
use Rattle.unambiguity_laws.proofs.turns.ChainElements.{link_symbol, chain_led, LinkRuns, as_node, link_runs, moved, chain_ended}

module _ (S : Type 0) (Next : S → Token → S → Type 0) (behind : S → Token) (det : IsDetermined S Next behind) (alike : IsAlike S Next behind) {h : ℕ} (u : Unique S Next behind det h) where
  -- the chain as it stands in the whole, from one of its parts to its end
  chain_on : {o : ℕ} {y : Rank} {i : Bool} {f : Start} {n : Tree} {s0 e : S} {P : List Pair} {g : Start} {m : Tree} {mid : S} {Q : List Pair} (m0 : Tree) → UniqueParts S Next behind det h argument_pieces → height n ≤ suc h → Stops S Next behind y i n e → height m0 ≤ height m →
      Chaining S Next behind det o y i f s0 m mid Q → Grows S Next behind o s0 (expr y i f) n e P (chain_part g) m mid Q → Turned S Next behind det o y i f s0 m0
  unfolding spellings
  chain_on {o} {y} {i} {f} {n} {s0} {e} {P} {g} {m} {mid} {Q} m0 called low st above chain (grow {c = chain_part f2} {l = node k w fl a b ps} {ps = qs} {rest = rest} {to = to} {R = R} way led pl eq d gs) =
      let v = way_of way in
      let lk = linked_of f2 k v.listed v.is in
      let linked : Linked f2 k fl (bare_parts (part m qs)) (chain_part g) rest lk.operator = subst (λ c. Linked f2 k fl (bare_parts c) (chain_part g) rest lk.operator) eq lk.linked in
      let goes = linked_read S Next behind det linked d in
      let r : LinkRuns S Next behind det o k w fl a b m qs goes.mid to R lk.operator = link_runs S Next behind det linked (subst (λ c. is_lean (bare (node k w fl a b c)) ≡ true) eq v.lean) d goes.read in
      let is = link_symbol r.link in
      let whole_is : node k w fl a b ps ≡ node r.K [] r.G a b (part m qs) = ap (node k w fl a b) eq ∙ r.tree in
      let up = grows_height S Next behind det gs in
      let high : parts_height ps ≡ max (height m) (parts_height qs) = ap parts_height eq in
      let found = link_found S Next behind det alike u called r.link (omega arith) r.runs in
      let places : Placed S Next behind (chain_part f) (node r.K [] r.G a b (part m qs)) s0 to = moved S Next behind det {n = node r.K [] r.G a b (part m qs)} (subst (λ c. Placed S Next behind (chain_part f2) c s0 to) whole_is pl) in
      let next = chain_more S Next behind det goes.read is.is goes.goes chain found places in
      chain_on m0 called low st (omega arith) (subst (λ c. Chaining S Next behind det o y i f s0 c to (Q ++ R)) (sym whole_is) next) gs
  chain_on {o} {y} {i} {f} {n} {s0} {e} {P} {g} {m} {mid} {Q} m0 called low st above chain (grow {c = expr y2 i2 f2} {l = node k w fl a b ps} {ps = qs} {rest = rest} {to = to} {R = R} way led pl eq d gs) =
      let v = way_of way in
      let lk = chain_led (led_of y2 i2 f2 (made k v.listed) v.fit v.is led).led in
      let z = run_none S Next behind (retell S Next behind lk.2 d) in
      let tree : node k w fl a b ps ≡ node ChainExpression [] plain a b (part m none) = as_node S Next behind det v.lean lk.0 refl refl ∙ ap (node ChainExpression [] plain a b) (eq ∙ ap (part m) z.parts) in
      let pairs : Q ++ R ≡ Q = ap (λ c. Q ++ c) z.pairs ∙ append-nil Q in
      let after = regrown S Next behind det tree (sym z.place) pairs gs in
      let places : Placed S Next behind (expr y i f) (node ChainExpression [] plain a b (part m none)) s0 mid = replaced S Next behind det (subst (λ c. Placed S Next behind (expr y2 i2 f2) c s0 mid) tree (subst (λ c. Placed S Next behind (expr y2 i2 f2) (node k w fl a b ps) s0 c) (sym z.place) pl)) in
      record {
        tree = node ChainExpression [] plain a b (part m none);
        place = mid;
        pairs = Q;
        taller = omega arith;
        climbed = record { symbol = LeftHandSide; climbing = chain_end S Next behind det chain (λ t x c q r is op. chain_ended S Next behind det is chain.low lk.1 r op st after) places };
      }
  chain_on m0 called low st above chain (grow {c = _} way led pl eq d gs) = absurd (false≢true (grows_on_spine S Next behind refl gs))

  -- a chain, in one turn
  pub chain_turn : UniqueParts S Next behind det h argument_pieces → Turn S Next behind det h op_optional
  chain_turn called = record { gives = λ {o} {y} {i} {f} {n} {s0} {e} {P} no_conditional no_new low d st climb r op goes. of low st climb r op goes (climb.leads o e n P d st) }
    where
      of : {o : ℕ} {y : Rank} {i : Bool} {f : Start} {n : Tree} {s0 e : S} {P : List Pair} {c : Rank} {m : Tree} {mid x : S} {Q : List Pair} {t : Token} → height n ≤ suc h → Stops S Next behind y i n e → Climbing S Next behind det o y i f c s0 m mid Q → ReadBy S Next behind Div mid t x →
          operation t ≡ op_optional → stops y i (edge m) (behind mid) t ≡ false → Leads S Next behind det o s0 y i f n e P c m mid Q → Turned S Next behind det o y i f s0 m
      of {o} {y} {i} {f} {n} {s0} {e} {P} {c} {m} {mid} {x} {Q} {t} low st climb r op goes v = first (onward S Next behind det refl r v.grows)
        where
          first : Onward S Next behind det o s0 (expr y i f) n e P (expr v.h v.j v.g) m mid Q t → Turned S Next behind det o y i f s0 m
          first (ended a b c d) = absurd (goes_where_not S Next behind det y i r st goes (record { role = a; tree = b; place = c; pairs = d }))
          first (by_led {y = y2} {i = i2} {f = f2} {k = k} {w = w} {g = g} {ps = ps} {rest = rest} led some op' lean d pl grown gs) = chains_led (subst (λ z. Led y2 i2 f2 k w g (bare_parts (part m ps)) (expr v.h v.j v.g) rest z) (sym op' ∙ op) led)
          first (by_link {f = f2} {k = k} {w = w} {g = g} {st = a} {en = b} {ps = ps} {rest = rest} {to = to} {R = R} linked op' lean d pl grown gs) =
              let l : Linked f2 k g (bare_parts (part m ps)) (expr v.h v.j v.g) rest op_optional = subst (λ z. Linked f2 k g (bare_parts (part m ps)) (expr v.h v.j v.g) rest z) (sym op' ∙ op) linked in
              let p : LinkRuns S Next behind det o k w g a b m ps x to R op_optional = link_runs S Next behind det l lean d r in
              let up = grows_height S Next behind det gs in
              let found = link_found S Next behind det alike u called p.link (omega arith) p.runs in
              let places : Placed S Next behind (chain_part f) (node p.K [] p.G a b (part m ps)) s0 to = moved S Next behind det {n = node p.K [] p.G a b (part m ps)} (subst (λ z. Placed S Next behind (chain_part f2) z s0 to) p.tree pl) in
              let fits : IsTrue (takes Call c) = subst (λ z. IsTrue (takes z c)) (linked_base linked) v.fits in
              let chain = chain_first S Next behind det r op goes climb fits (no_part S Next behind v.spelled) found places in
              chain_on m called low st (omega arith) (subst (λ z. Chaining S Next behind det o y i f s0 z to (Q ++ R)) (sym p.tree) chain) gs
          first (by_chain b tk lean pl grown gs) = absurd (no_spine b)
