-- The parts of a chain as they stand in a derivation, and its end.
use Rattle.std.proofs.Common.{◌≡◌, ℕ, ◌≤◌, Bool, true, false, cond, List, [], ◌∷◌, refl, sym, ap, ◌∙◌, subst, arith}
use Rattle.std.specs.Prelude.{IsTrue, Some, codes}
use Rattle.std.proofs.lemmas.Bool.Decides.{nat_tests}
use Rattle.tokens.specs.declared.token.TokenClass.TheVariants.{Punctuator}
use Rattle.tokens.specs.declared.token.Goal.TheVariants.{Div}
use Rattle.tree.specs.declared.kind.Kind.{Kind}
use Rattle.tree.specs.declared.kind.Kind.TheVariants.{MemberExpression, CallExpression, ChainExpression}
use Rattle.language.specs.declared.Rank.{Rank}
use Rattle.language.specs.declared.Rank.TheVariants.{Expression, LeftHandSide, Call, Member}
use Rattle.language.specs.declared.Start.{Start}
use Rattle.language.specs.declared.Start.TheVariants.{Any}
use Rattle.language.specs.declared.Edge.TheVariants.{Other}
use Rattle.tree.specs.declared.kind.Flags.{Flags}
use Rattle.tree.specs.declared.kind.Pair.{Pair}
use Rattle.tree.specs.Tree.{Tree, node, Parts, none, part, bare, bare_parts, plain}
use Rattle.tree.specs.Uses.{is_lean, used_flags, has_text, implies}
use Rattle.tree.proofs.Lean.{lean_flags, lean_text}
use Rattle.language.specs.FirstPart.{lead as lead_kind}
use Rattle.language.specs.Vocabulary.{is, takes, takes_number, precedence, Operator}
use Rattle.language.specs.Pieces.{Role, expr, chain_part, PieceOf, tok, sub, is_tight}
use Rattle.language.specs.Token.{Token}
use Rattle.language.specs.Edges.{edge, edge_as_written}
use Rattle.language.specs.Expressions.{arguments}
use Rattle.language.specs.Continuations.{operation, rank_made_by}
use Rattle.language.specs.Promises.{IsDetermined, ReadBy, Stops}
use Rattle.language.specs.Grammar.{ways}
use Rattle.language.specs.Derivation.{Runs, Placed, placed}
use Rattle.language.proofs.climbing.Spine.{Grows}
use Rattle.language.proofs.table.Begins.{goes_to, retell, taken}
use Rattle.language.proofs.table.LeftRecursiveWays.{bracketed, dotted, Led, led_binary, led_power, led_assign, led_postfix, led_sequence, led_conditional, led_dot, led_index, led_call, led_tag, led_chain, Linked, link_dot, link_index, link_call, link_chained_name, link_chained_index, link_chained_call}
use Rattle.language.proofs.climbing.SpineContinuations.{Onward, ended, by_led, by_link, by_chain, onward}
use Rattle.language.proofs.table.Reaches.{linked_base}
use Rattle.language.proofs.climbing.NoContinuation.{stops_none, no_in, no_spine}
use Rattle.language.proofs.table.RightEdges.{takes_less}
use Rattle.language.proofs.climbing.Suffixes.{computed_flags, argument_pieces, arguments_fixed}
use Rattle.language.proofs.climbing.BinaryTurns.{same_node}
use Rattle.language.proofs.climbing.Chains.{property_pieces, optional_flags, Link, on_dot, on_index, on_call, on_name, on_brackets, on_arguments, LinkSymbol, select_symbol, index_symbol, call_symbol, chain_symbol}

pub record SymbolOf (z : Operator) : Type 0 where
  pub symbol : Rank
  pub is : LinkSymbol z symbol

pub link_symbol : {z : Operator} {K : Kind} {G : Flags} {pieces : Parts → List (PieceOf Role)} → Link z K G pieces → SymbolOf z
link_symbol on_dot = record { symbol = Member; is = select_symbol }
link_symbol on_index = record { symbol = Member; is = index_symbol }
link_symbol on_call = record { symbol = Call; is = call_symbol }
link_symbol on_name = record { symbol = LeftHandSide; is = chain_symbol }
link_symbol on_brackets = record { symbol = LeftHandSide; is = chain_symbol }
link_symbol on_arguments = record { symbol = LeftHandSide; is = chain_symbol }

symbol_makes : {z : Operator} {c : Rank} (n : Bool) → LinkSymbol z c → rank_made_by z n ≡ Some c
symbol_makes n select_symbol = refl
symbol_makes n index_symbol = refl
symbol_makes n call_symbol = refl
symbol_makes n chain_symbol = refl

low_takes : (y : ℕ) → IsTrue (takes_number y 18) → IsTrue (takes_number y 21) × IsTrue (takes_number y 20)
low_takes y h = (grind (arith, nat_tests), grind (arith, nat_tests))

symbol_taken : {z : Operator} {c : Rank} (y : Rank) → LinkSymbol z c → IsTrue (takes y LeftHandSide) → IsTrue (takes y c)
symbol_taken y select_symbol h = (low_takes (precedence y) h).0
symbol_taken y index_symbol h = (low_takes (precedence y) h).0
symbol_taken y call_symbol h = (low_takes (precedence y) h).1
symbol_taken y chain_symbol h = h

symbol_no_in : {z : Operator} {c : Rank} (t : Token) (i : Bool) → LinkSymbol z c → operation t ≡ z → IsTrue (implies (is t.text "in") i)
symbol_no_in t i select_symbol h = no_in t i h (λ e. cc) (λ e. cc)
symbol_no_in t i index_symbol h = no_in t i h (λ e. cc) (λ e. cc)
symbol_no_in t i call_symbol h = no_in t i h (λ e. cc) (λ e. cc)
symbol_no_in t i chain_symbol h = no_in t i h (λ e. cc) (λ e. cc)

rank_is : {y z : Rank} {i j : Bool} {f g : Start} → expr y i f ≡ expr z j g → y ≡ z
rank_is e = cc

callee_number : (b : Bool) → 20 ≤ precedence (cond b Member Call)
callee_number true = omega arith
callee_number false = omega arith

-- a chain that has ended isn't led by what would go on in it
no_head : {y : Rank} {i : Bool} {f : Start} {k : Kind} {w : List ℕ} {g : Flags} {ps : Parts} {h : Rank} {j : Bool} {f' : Start} {rest : List (PieceOf Role)} {z : Operator} {c : Rank} → LinkSymbol z c → Led y i f k w g ps (expr h j f') rest z → IsTrue (takes h LeftHandSide) → ⊥
no_head {y} {h = h} select_symbol (led_dot k o c s tk b e) t = let u = ap precedence (rank_is b) in let v = callee_number (is_tight y) in let less = takes_less h LeftHandSide t in omega arith
no_head {y} {h = h} index_symbol (led_index k o c s tk b e) t = let u = ap precedence (rank_is b) in let v = callee_number (is_tight y) in let less = takes_less h LeftHandSide t in omega arith
no_head {h = h} call_symbol (led_call k o s tk b e) t = let u = ap precedence (rank_is b) in let less = takes_less h LeftHandSide t in omega arith
no_head chain_symbol l t = elim l [ ]

member_flags : (g : Flags) (c o : Bool) → g.computed ≡ c → g.optional ≡ o → used_flags MemberExpression g ≡ record plain { computed = c; optional = o }
member_flags g c o h k = λ v. record plain { computed = h v; optional = k v }

call_flags : (g : Flags) (o : Bool) → g.optional ≡ o → used_flags CallExpression g ≡ record plain { optional = o }
call_flags g o k = λ v. record plain { optional = k v }

-- how a chain ends
pub chain_led : {y : Rank} {i : Bool} {f : Start} {k : Kind} {w : List ℕ} {g : Flags} {ps : Parts} {f' : Start} {rest : List (PieceOf Role)} {x : Operator} → Led y i f k w g ps (chain_part f') rest x → (k ≡ ChainExpression) × IsTrue (takes y LeftHandSide) × (rest ≡ [])
chain_led (led_chain k c tk b e) = (k, tk, e)
chain_led (led_binary k op tk im b e) = cc
chain_led (led_power k op tk b e) = cc
chain_led (led_assign k op ta tk b e) = cc
chain_led (led_postfix k op ta p tk b e) = cc
chain_led (led_sequence k c tk b e) = cc
chain_led (led_conditional k tk b e) = cc
chain_led (led_dot k o c s tk b e) = cc
chain_led (led_index k o c s tk b e) = cc
chain_led (led_call k o s tk b e) = cc
chain_led (led_tag k tk b e) = cc

module _ (S : Type 0) (Next : S → Token → S → Type 0) (behind : S → Token) (det : IsDetermined S Next behind) where
  -- what stands behind the token of a part of a chain, by its pieces
  pub record LinkRuns (o : ℕ) (k : Kind) (w : List ℕ) (g : Flags) (st en : ℕ) (m : Tree) (ps : Parts) (x to : S) (R : List Pair) (z : Operator) : Type 0 where
    pub K : Kind
    pub G : Flags
    pub pieces : Parts → List (PieceOf Role)
    pub link : Link z K G pieces
    pub runs : Runs ways S Next behind o (pieces ps) ps x to R
    pub tree : node k w g st en (part m ps) ≡ node K [] G st en (part m ps)

  pub as_node : {k K : Kind} {w : List ℕ} {g G : Flags} {st en : ℕ} {ps : Parts} → is_lean (bare (node k w g st en ps)) ≡ true → k ≡ K → has_text K ≡ false → used_flags K g ≡ G → node k w g st en ps ≡ node K [] G st en ps
  as_node {k = k} {w = w} {g = g} {st = st} {en = en} {ps = ps} lean kind texts flags =
      same_node kind (lean_text (bare (node k w g st en ps)) lean (ap has_text kind ∙ texts)) (lean_flags (bare (node k w g st en ps)) lean ∙ ap (λ v. used_flags v g) kind ∙ flags) refl refl refl

  pub link_runs : {o : ℕ} {f : Start} {k : Kind} {w : List ℕ} {g : Flags} {st en : ℕ} {m : Tree} {ps : Parts} {b : Role} {rest : List (PieceOf Role)} {z : Operator} {mid x to : S} {R : List Pair} {t : Token} → Linked f k g (bare_parts (part m ps)) b rest z →
      is_lean (bare (node k w g st en (part m ps))) ≡ true → Runs ways S Next behind o rest ps mid to R → ReadBy S Next behind Div mid t x → LinkRuns o k w g st en m ps x to R z
  link_runs {g = g} {ps = ps} (link_dot k o c fc b e) lean d r = record { K = MemberExpression; G = plain; pieces = property_pieces; link = on_dot; runs = (taken S Next behind det Div (dotted (lead_kind (bare_parts ps))) refl refl (retell S Next behind e d) r).runs; tree = as_node lean k refl (member_flags g false false c o) }
  link_runs {g = g} (link_index k o c fc b e) lean d r = record {
    K = MemberExpression;
    G = computed_flags;
    pieces = λ ps. sub (expr Expression true Any) ∷ tok Punctuator (codes "]") ∷ [];
    link = on_index;
    runs = (taken S Next behind det Div bracketed refl refl (retell S Next behind e d) r).runs;
    tree = as_node lean k refl (member_flags g true false c o);
  }
  link_runs {f = f} {g = g} {ps = ps} (link_call k o fc b e) lean d r = record {
    K = CallExpression;
    G = plain;
    pieces = argument_pieces;
    link = on_call;
    runs = retell S Next behind (arguments_fixed Expression true f (bare_parts ps)) (taken S Next behind det Div (goes_to Expression true f (arguments (bare_parts ps))) refl refl (retell S Next behind e d) r).runs;
    tree = as_node lean k refl (call_flags g false o);
  }
  link_runs {g = g} {ps = ps} (link_chained_name k o c b e) lean d r = record {
    K = MemberExpression;
    G = optional_flags false;
    pieces = property_pieces;
    link = on_name;
    runs = (taken S Next behind det Div (tok Punctuator (codes "?.") ∷ property_pieces ps) refl refl (retell S Next behind e d) r).runs;
    tree = as_node lean k refl (member_flags g false true c o);
  }
  link_runs {g = g} (link_chained_index k o c b e) lean d r = record {
    K = MemberExpression;
    G = optional_flags true;
    pieces = λ ps. bracketed;
    link = on_brackets;
    runs = (taken S Next behind det Div (tok Punctuator (codes "?.") ∷ bracketed) refl refl (retell S Next behind e d) r).runs;
    tree = as_node lean k refl (member_flags g true true c o);
  }
  link_runs {f = f} {g = g} {ps = ps} (link_chained_call k o b e) lean d r = record {
    K = CallExpression;
    G = optional_flags false;
    pieces = λ ps. tok Punctuator (codes "(") ∷ argument_pieces ps;
    link = on_arguments;
    runs = retell S Next behind (ap (λ qs. tok Punctuator (codes "(") ∷ qs) (arguments_fixed Expression true f (bare_parts ps)))
        (taken S Next behind det Div (tok Punctuator (codes "?.") ∷ goes_to Expression true f (arguments (bare_parts ps))) refl refl (retell S Next behind e d) r).runs;
    tree = as_node lean k refl (call_flags g true o);
  }

  -- the places of a part of a chain are the same at each start
  pub moved : {g g' : Start} {n : Tree} {s e : S} → Placed S Next behind (chain_part g) n s e → Placed S Next behind (chain_part g') n s e
  moved (placed nx p) = placed nx p

  -- where a chain has ended in a whole that can't go on, nothing follows with which it goes on
  pub chain_ended : {o : ℕ} {s0 e x : S} {y : Rank} {i : Bool} {f : Start} {n : Tree} {P : List Pair} {y2 : Rank} {i2 : Bool} {f2 : Start} {st en : ℕ} {m : Tree} {mid : S} {Q : List Pair} {t : Token} {z : Operator} {c : Rank} → LinkSymbol z c → IsTrue (takes y LeftHandSide) → IsTrue (takes y2 LeftHandSide) →
      ReadBy S Next behind Div mid t x → operation t ≡ z → Stops S Next behind y i n e → Grows S Next behind o s0 (expr y i f) n e P (expr y2 i2 f2) (node ChainExpression [] plain st en (part m none)) mid Q → ⊥
  chain_ended {o} {s0} {e} {x} {y} {i} {f} {n} {P} {y2} {i2} {f2} {st} {en} {m} {mid} {Q} {t} {z} {c} is low tk r op stopped gs = of (onward S Next behind det refl r gs)
    where
      of : Onward S Next behind det o s0 (expr y i f) n e P (expr y2 i2 f2) (node ChainExpression [] plain st en (part m none)) mid Q t → ⊥
      of (ended a b d p) =
          let other : edge_as_written (edge n) (behind e) ≡ Other = ap (λ v. edge_as_written (edge v) (behind e)) b in
          stops_none S Next behind det y i t (edge_as_written (edge n) (behind e)) (stopped.before t x (subst (λ v. ReadBy S Next behind Div v t x) (sym d) r)) (record {
            symbol = c;
            makes = ap (λ v. rank_made_by v t.after_break) op ∙ symbol_makes t.after_break is;
            taken = symbol_taken y is low;
            has_in = symbol_no_in t i is op;
            held = ap (λ v. Rattle.language.specs.Continuations.holds v c) other;
          })
      of (by_led {y = y3} {i = i3} {f = f3} {k = k} {w = w} {g = fl} {ps = ps} {rest = rest} led some op' lean d pl grown gs') =
          no_head is (subst (λ v. Led y3 i3 f3 k w fl (bare_parts (part (node ChainExpression [] plain st en (part m none)) ps)) (expr y2 i2 f2) rest v) (sym op' ∙ op) led) tk
      of (by_link linked op' lean d pl grown gs') = let u : takes Call LeftHandSide ≡ true = subst (λ v. IsTrue (takes v LeftHandSide)) (linked_base linked) tk in cc
      of (by_chain b tk' lean pl grown gs') = no_spine b
