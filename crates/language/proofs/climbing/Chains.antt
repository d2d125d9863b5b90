-- The loop over the parts of an optional chain.
use Rattle.std.proofs.Common.{◌≡◌, ℕ, ◌≤◌, Bool, true, false, cond, List, [], ◌∷◌, ◌++◌, refl, sym, ap, ◌∙◌, subst, arith}
use Rattle.std.specs.Prelude.{IsTrue, Some, codes}
use Rattle.std.proofs.lemmas.Bool.{false≢true}
use Rattle.std.proofs.lemmas.Bool.Decides.{nat_tests}
use Rattle.tokens.specs.declared.token.TokenClass.TheVariants.{Punctuator}
use Rattle.tokens.specs.declared.token.Goal.TheVariants.{Div}
use Rattle.tree.specs.declared.kind.Kind.{Kind}
use Rattle.tree.specs.declared.kind.Kind.TheVariants.{MemberExpression, CallExpression, ChainExpression}
use Rattle.language.specs.declared.Rank.{Rank}
use Rattle.language.specs.declared.Rank.TheVariants.{Expression, LeftHandSide, Call, Member}
use Rattle.language.specs.declared.Start.{Start}
use Rattle.language.specs.declared.Start.TheVariants.{Any}
use Rattle.language.specs.declared.Edge.TheVariants.{Other}
use Rattle.tree.specs.declared.kind.Flags.{Flags}
use Rattle.tree.specs.declared.kind.Pair.{Pair}
use Rattle.tree.specs.Tree.{Tree, node, Parts, none, part, bare, bare_parts, plain}
use Rattle.tree.specs.Uses.{is_lean, used_flags, has_text, implies}
use Rattle.tree.proofs.Lean.{lean_flags, lean_text}
use Rattle.language.specs.Vocabulary.{is, takes, takes_number, precedence, Operator, op_dot, op_index, op_call, op_optional, op_none}
use Rattle.language.specs.Pieces.{Role, expr, chain_part, PieceOf, tok, sub, is_tight}
use Rattle.language.specs.Token.{Token}
use Rattle.language.specs.Edges.{edge, edge_as_written}
use Rattle.language.specs.Expressions.{arguments, has_optional}
use Rattle.language.specs.Continuations.{operation, rank_made_by, stops_at, stops}
use Rattle.language.specs.Promises.{IsDetermined, ReadBy, Stops}
use Rattle.language.specs.Grammar.{ways, spellings}
use Rattle.language.specs.Derivation.{Spells, Runs, step, token, Placed, placed}
use Rattle.language.proofs.climbing.Spine.{Grows, grow, grows_on_spine}
use Rattle.language.proofs.table.ViewIsComplete.{way_of, made}
use Rattle.language.proofs.list_loops.FirstPieces.{run_none}
use Rattle.std.proofs.lemmas.List.{append-nil}
use Rattle.language.specs.FirstPart.{lead as lead_kind}
use Rattle.language.proofs.table.Begins.{goes_to, retell, taken}
use Rattle.language.proofs.table.LeftRecursiveWays.{bracketed, property_role, dotted, Led, led_binary, led_power, led_assign, led_postfix, led_sequence, led_conditional, led_dot, led_index, led_call, led_tag, led_chain, Linked, link_dot, link_index, link_call, link_chained_name, link_chained_index, link_chained_call, led_of, linked_of}
use Rattle.language.proofs.climbing.SpineContinuations.{Onward, ended, by_led, by_link, by_chain, onward, Goes, linked_read, way_spelled}
use Rattle.language.proofs.climbing.OperatorNodes.{link_grows, link_call_grows, base_grows, base_call_grows, chain_grows}
use Rattle.language.proofs.table.Reaches.{linked_base}
use Rattle.language.proofs.climbing.NoContinuation.{Ended, stops_none, no_in, no_spine, goes_where_not}
use Rattle.language.proofs.table.RightEdges.{takes_less}
use Rattle.language.proofs.table.OperatorTokens.{reads_dot, reads_index, reads_call, reads_chain}
use Rattle.language.proofs.climbing.OperatorLoop.{goes_on, Leads, Climbing}
use Rattle.language.proofs.climbing.Suffixes.{computed_flags, argument_pieces, arguments_fixed}
use Rattle.language.proofs.climbing.BinaryTurns.{same_node, same_places, replaced, retold, regrown}

abbrev pub optional_flags : Bool → Flags
optional_flags c = record plain { computed = c; optional = true }

-- a property, at a position by its own kind
abbrev pub property_pieces : Parts → List (PieceOf Role)
property_pieces ps = sub (property_role (lead_kind (bare_parts ps))) ∷ []

-- The parts of a chain by their token: the node's kind and flags, and the pieces behind the token.
pub data Link : Operator → Kind → Flags → (Parts → List (PieceOf Role)) → Type 0 where
  on_dot : Link op_dot MemberExpression plain property_pieces
  on_index : Link op_index MemberExpression computed_flags (λ ps. sub (expr Expression true Any) ∷ tok Punctuator (codes "]") ∷ [])
  on_call : Link op_call CallExpression plain argument_pieces
  on_name : Link op_optional MemberExpression (optional_flags false) property_pieces
  on_brackets : Link op_optional MemberExpression (optional_flags true) (λ ps. bracketed)
  on_arguments : Link op_optional CallExpression (optional_flags false) (λ ps. tok Punctuator (codes "(") ∷ argument_pieces ps)

-- the symbol of an operator that goes on in a chain
pub data LinkSymbol : Operator → Rank → Type 0 where
  select_symbol : LinkSymbol op_dot Member
  index_symbol : LinkSymbol op_index Member
  call_symbol : LinkSymbol op_call Call
  chain_symbol : LinkSymbol op_optional LeftHandSide

record SymbolOf (z : Operator) : Type 0 where
  symbol : Rank
  is : LinkSymbol z symbol

symbol_makes : {z : Operator} {c : Rank} (n : Bool) → LinkSymbol z c → rank_made_by z n ≡ Some c
symbol_makes n select_symbol = refl
symbol_makes n index_symbol = refl
symbol_makes n call_symbol = refl
symbol_makes n chain_symbol = refl

low_takes : (y : ℕ) → IsTrue (takes_number y 18) → IsTrue (takes_number y 21) × IsTrue (takes_number y 20)
low_takes y h = (grind (arith, nat_tests), grind (arith, nat_tests))

symbol_taken : {z : Operator} {c : Rank} (y : Rank) → LinkSymbol z c → IsTrue (takes y LeftHandSide) → IsTrue (takes y c)
symbol_taken y select_symbol h = (low_takes (precedence y) h).0
symbol_taken y index_symbol h = (low_takes (precedence y) h).0
symbol_taken y call_symbol h = (low_takes (precedence y) h).1
symbol_taken y chain_symbol h = h

symbol_no_in : {z : Operator} {c : Rank} (t : Token) (i : Bool) → LinkSymbol z c → operation t ≡ z → IsTrue (implies (is t.text "in") i)
symbol_no_in t i select_symbol h = no_in t i h (λ e. cc) (λ e. cc)
symbol_no_in t i index_symbol h = no_in t i h (λ e. cc) (λ e. cc)
symbol_no_in t i call_symbol h = no_in t i h (λ e. cc) (λ e. cc)
symbol_no_in t i chain_symbol h = no_in t i h (λ e. cc) (λ e. cc)

rank_is : {y z : Rank} {i j : Bool} {f g : Start} → expr y i f ≡ expr z j g → y ≡ z
rank_is e = cc

some_same : {b c : Rank} → Some b ≡ Some c → b ≡ c
some_same e = cc

callee_number : (b : Bool) → 20 ≤ precedence (cond b Member Call)
callee_number true = omega arith
callee_number false = omega arith

-- a chain that has ended isn't led by what would go on in it
no_head : {y : Rank} {i : Bool} {f : Start} {k : Kind} {w : List ℕ} {g : Flags} {ps : Parts} {h : Rank} {j : Bool} {f' : Start} {rest : List (PieceOf Role)} {z : Operator} {c : Rank} → LinkSymbol z c → Led y i f k w g ps (expr h j f') rest z → IsTrue (takes h LeftHandSide) → ⊥
no_head {y} {h = h} select_symbol (led_dot k o c s tk b e) t = let u = ap precedence (rank_is b) in let v = callee_number (is_tight y) in let less = takes_less h LeftHandSide t in omega arith
no_head {y} {h = h} index_symbol (led_index k o c s tk b e) t = let u = ap precedence (rank_is b) in let v = callee_number (is_tight y) in let less = takes_less h LeftHandSide t in omega arith
no_head {h = h} call_symbol (led_call k o s tk b e) t = let u = ap precedence (rank_is b) in let less = takes_less h LeftHandSide t in omega arith
no_head chain_symbol l t = elim l [ ]

spine_led : {A : Type 0} {y : Rank} {i : Bool} {f : Start} {k : Kind} {w : List ℕ} {g : Flags} {ps : Parts} {f' : Start} {rest : List (PieceOf Role)} {x : Operator} → Led y i f k w g ps (chain_part f') rest x → (x ≡ op_none → ⊥) → A
spine_led (led_chain k c tk b e) h = absurd (h refl)
spine_led (led_binary k op tk im b e) h = cc
spine_led (led_power k op tk b e) h = cc
spine_led (led_assign k op ta tk b e) h = cc
spine_led (led_postfix k op ta p tk b e) h = cc
spine_led (led_sequence k c tk b e) h = cc
spine_led (led_conditional k tk b e) h = cc
spine_led (led_dot k o c s tk b e) h = cc
spine_led (led_index k o c s tk b e) h = cc
spine_led (led_call k o s tk b e) h = cc
spine_led (led_tag k tk b e) h = cc

-- nothing is led by what stands before `?.`
pub chains_led : {A : Type 0} {y : Rank} {i : Bool} {f : Start} {k : Kind} {w : List ℕ} {g : Flags} {ps : Parts} {b : Role} {rest : List (PieceOf Role)} → Led y i f k w g ps b rest op_optional → A
chains_led l = elim l [ ]

member_flags : (g : Flags) (c o : Bool) → g.computed ≡ c → g.optional ≡ o → used_flags MemberExpression g ≡ record plain { computed = c; optional = o }
member_flags g c o h k = λ v. record plain { computed = h v; optional = k v }

call_flags : (g : Flags) (o : Bool) → g.optional ≡ o → used_flags CallExpression g ≡ record plain { optional = o }
call_flags g o k = λ v. record plain { optional = k v }

module _ (S : Type 0) (Next : S → Token → S → Type 0) (behind : S → Token) (det : IsDetermined S Next behind) where
  -- what stands behind the token of a part of a chain, by its pieces
  record LinkRuns (o : ℕ) (k : Kind) (w : List ℕ) (g : Flags) (st en : ℕ) (m : Tree) (ps : Parts) (x to : S) (R : List Pair) (z : Operator) : Type 0 where
    K : Kind
    G : Flags
    pieces : Parts → List (PieceOf Role)
    link : Link z K G pieces
    runs : Runs ways S Next behind o (pieces ps) ps x to R
    tree : node k w g st en (part m ps) ≡ node K [] G st en (part m ps)

  as_node : {k K : Kind} {w : List ℕ} {g G : Flags} {st en : ℕ} {ps : Parts} → is_lean (bare (node k w g st en ps)) ≡ true → k ≡ K → has_text K ≡ false → used_flags K g ≡ G → node k w g st en ps ≡ node K [] G st en ps
  as_node {k = k} {w = w} {g = g} {st = st} {en = en} {ps = ps} lean kind texts flags =
      same_node kind (lean_text (bare (node k w g st en ps)) lean (ap has_text kind ∙ texts)) (lean_flags (bare (node k w g st en ps)) lean ∙ ap (λ v. used_flags v g) kind ∙ flags) refl refl refl

  link_runs : {o : ℕ} {f : Start} {k : Kind} {w : List ℕ} {g : Flags} {st en : ℕ} {m : Tree} {ps : Parts} {b : Role} {rest : List (PieceOf Role)} {z : Operator} {mid x to : S} {R : List Pair} {t : Token} → Linked f k g (bare_parts (part m ps)) b rest z →
      is_lean (bare (node k w g st en (part m ps))) ≡ true → Runs ways S Next behind o rest ps mid to R → ReadBy S Next behind Div mid t x → LinkRuns o k w g st en m ps x to R z
  link_runs {g = g} {ps = ps} (link_dot k o c fc b e) lean d r = record { K = MemberExpression; G = plain; pieces = property_pieces; link = on_dot; runs = (taken S Next behind det Div (dotted (lead_kind (bare_parts ps))) refl refl (retell S Next behind e d) r).runs; tree = as_node lean k refl (member_flags g false false c o) }
  link_runs {g = g} (link_index k o c fc b e) lean d r = record {
    K = MemberExpression;
    G = computed_flags;
    pieces = λ ps. sub (expr Expression true Any) ∷ tok Punctuator (codes "]") ∷ [];
    link = on_index;
    runs = (taken S Next behind det Div bracketed refl refl (retell S Next behind e d) r).runs;
    tree = as_node lean k refl (member_flags g true false c o);
  }
  link_runs {f = f} {g = g} {ps = ps} (link_call k o fc b e) lean d r = record {
    K = CallExpression;
    G = plain;
    pieces = argument_pieces;
    link = on_call;
    runs = retell S Next behind (arguments_fixed Expression true f (bare_parts ps)) (taken S Next behind det Div (goes_to Expression true f (arguments (bare_parts ps))) refl refl (retell S Next behind e d) r).runs;
    tree = as_node lean k refl (call_flags g false o);
  }
  link_runs {g = g} {ps = ps} (link_chained_name k o c b e) lean d r = record {
    K = MemberExpression;
    G = optional_flags false;
    pieces = property_pieces;
    link = on_name;
    runs = (taken S Next behind det Div (tok Punctuator (codes "?.") ∷ property_pieces ps) refl refl (retell S Next behind e d) r).runs;
    tree = as_node lean k refl (member_flags g false true c o);
  }
  link_runs {g = g} (link_chained_index k o c b e) lean d r = record {
    K = MemberExpression;
    G = optional_flags true;
    pieces = λ ps. bracketed;
    link = on_brackets;
    runs = (taken S Next behind det Div (tok Punctuator (codes "?.") ∷ bracketed) refl refl (retell S Next behind e d) r).runs;
    tree = as_node lean k refl (member_flags g true true c o);
  }
  link_runs {f = f} {g = g} {ps = ps} (link_chained_call k o b e) lean d r = record {
    K = CallExpression;
    G = optional_flags false;
    pieces = λ ps. tok Punctuator (codes "(") ∷ argument_pieces ps;
    link = on_arguments;
    runs = retell S Next behind (ap (λ qs. tok Punctuator (codes "(") ∷ qs) (arguments_fixed Expression true f (bare_parts ps)))
        (taken S Next behind det Div (tok Punctuator (codes "?.") ∷ goes_to Expression true f (arguments (bare_parts ps))) refl refl (retell S Next behind e d) r).runs;
    tree = as_node lean k refl (call_flags g true o);
  }

  -- the part of a chain on the spine of a whole that can't go on
  record LinkOn (o : ℕ) (s0 : S) (y : Rank) (i : Bool) (f : Start) (n : Tree) (e : S) (P : List Pair) (m : Tree) (x : S) (Q : List Pair) (z : Operator) : Type 0 where
    g : Start
    K : Kind
    G : Flags
    pieces : Parts → List (PieceOf Role)
    link : Link z K G pieces
    st : ℕ
    en : ℕ
    ps : Parts
    to : S
    more : List Pair
    runs : Runs ways S Next behind o (pieces ps) ps x to more
    places : Placed S Next behind (chain_part g) (node K [] G st en (part m ps)) s0 to
    spelled : Spells ways S Next behind o (chain_part g) (node K [] G st en (part m ps)) s0 to (Q ++ more)
    grows : Grows S Next behind o s0 (expr y i f) n e P (chain_part g) (node K [] G st en (part m ps)) to (Q ++ more)

  of_link : {o : ℕ} {s0 : S} {y : Rank} {i : Bool} {f : Start} {n : Tree} {e : S} {P : List Pair} {f2 : Start} {k : Kind} {w : List ℕ} {g : Flags} {st en : ℕ} {m : Tree} {ps : Parts} {b : Role} {rest : List (PieceOf Role)} {z : Operator} {mid x to : S} {Q R : List Pair} {t : Token} →
      Linked f2 k g (bare_parts (part m ps)) b rest z → is_lean (bare (node k w g st en (part m ps))) ≡ true → Runs ways S Next behind o rest ps mid to R → ReadBy S Next behind Div mid t x → Placed S Next behind (chain_part f2) (node k w g st en (part m ps)) s0 to →
      Spells ways S Next behind o (chain_part f2) (node k w g st en (part m ps)) s0 to (Q ++ R) → Grows S Next behind o s0 (expr y i f) n e P (chain_part f2) (node k w g st en (part m ps)) to (Q ++ R) → LinkOn o s0 y i f n e P m x Q z
  of_link {s0 = s0} {f2 = f2} {st = st} {en = en} {ps = ps} {to = to} {R = R} linked lean d r pl sp gs =
      let u = link_runs linked lean d r in
      record {
        g = f2;
        K = u.K;
        G = u.G;
        pieces = u.pieces;
        link = u.link;
        st = st;
        en = en;
        ps = ps;
        to = to;
        more = R;
        runs = u.runs;
        places = subst (λ c. Placed S Next behind (chain_part f2) c s0 to) u.tree pl;
        spelled = retold S Next behind det u.tree refl refl sp;
        grows = regrown S Next behind det u.tree refl refl gs;
      }

  -- behind the base of a chain, at `?.`
  link_on_base : {o : ℕ} {s0 e x : S} {y : Rank} {i : Bool} {f : Start} {n : Tree} {P : List Pair} {h : Rank} {j : Bool} {f' : Start} {m : Tree} {mid : S} {Q : List Pair} {t : Token} → ReadBy S Next behind Div mid t x → operation t ≡ op_optional → (Ended S Next behind det (expr y i f) n e P (expr h j f') m mid Q → ⊥) →
      Spells ways S Next behind o (expr h j f') m s0 mid Q → Grows S Next behind o s0 (expr y i f) n e P (expr h j f') m mid Q → LinkOn o s0 y i f n e P m x Q op_optional
  link_on_base {o} {s0} {e} {x} {y} {i} {f} {n} {P} {h} {j} {f'} {m} {mid} {Q} {t} r op goes sp gs = of (onward S Next behind det refl r gs)
    where
      of : Onward S Next behind det o s0 (expr y i f) n e P (expr h j f') m mid Q t → LinkOn o s0 y i f n e P m x Q op_optional
      of (ended a b c d) = absurd (goes (record { role = a; tree = b; place = c; pairs = d }))
      of (by_led {y = y2} {i = i2} {f = f2} {k = k} {w = w} {g = g} {ps = ps} {rest = rest} led some op' lean d pl grown gs') = chains_led (subst (λ v. Led y2 i2 f2 k w g (bare_parts (part m ps)) (expr h j f') rest v) (sym op' ∙ op) led)
      of (by_link {f = f2} {k = k} {g = g} {ps = ps} {rest = rest} linked op' lean d pl grown gs') = of_link (subst (λ v. Linked f2 k g (bare_parts (part m ps)) (expr h j f') rest v) (sym op' ∙ op) linked) lean d r pl (grown sp) gs'
      of (by_chain b tk lean pl grown gs') = absurd (no_spine b)

  -- behind a part of a chain, at a token with which it goes on
  link_on_spine : {o : ℕ} {s0 e x : S} {y : Rank} {i : Bool} {f : Start} {n : Tree} {P : List Pair} {g : Start} {m : Tree} {mid : S} {Q : List Pair} {t : Token} {z : Operator} {c : Rank} → LinkSymbol z c → IsTrue (takes y LeftHandSide) → ReadBy S Next behind Div mid t x → operation t ≡ z →
      Stops S Next behind y i n e → Spells ways S Next behind o (chain_part g) m s0 mid Q → Grows S Next behind o s0 (expr y i f) n e P (chain_part g) m mid Q → LinkOn o s0 y i f n e P m x Q z
  link_on_spine {o} {s0} {e} {x} {y} {i} {f} {n} {P} {g} {m} {mid} {Q} {t} {z} {c} is low r op stopped sp gs = of (onward S Next behind det refl r gs)
    where
      after : {y2 : Rank} {i2 : Bool} {f2 : Start} {w : List ℕ} {fl : Flags} {st en : ℕ} → IsTrue (takes y2 LeftHandSide) → Onward S Next behind det o s0 (expr y i f) n e P (expr y2 i2 f2) (node ChainExpression w fl st en (part m none)) mid Q t → ⊥
      after tk (ended a b d p) =
          let other : edge_as_written (edge n) (behind e) ≡ Other = ap (λ v. edge_as_written (edge v) (behind e)) b in
          stops_none S Next behind det y i t (edge_as_written (edge n) (behind e)) (stopped.before t x (subst (λ v. ReadBy S Next behind Div v t x) (sym d) r)) (record {
            symbol = c;
            makes = ap (λ v. rank_made_by v t.after_break) op ∙ symbol_makes t.after_break is;
            taken = symbol_taken y is low;
            has_in = symbol_no_in t i is op;
            held = ap (λ v. Rattle.language.specs.Continuations.holds v c) other;
          })
      after {y2} {i2} {f2} {w = w0} {fl = fl0} {st = st0} {en = en0} tk (by_led {y = y3} {i = i3} {f = f3} {k = k} {w = w} {g = fl} {ps = ps} {rest = rest} led some op' lean d pl grown gs') =
          no_head is (subst (λ v. Led y3 i3 f3 k w fl (bare_parts (part (node ChainExpression w0 fl0 st0 en0 (part m none)) ps)) (expr y2 i2 f2) rest v) (sym op' ∙ op) led) tk
      after {y2} tk (by_link linked op' lean d pl grown gs') = let u : takes Call LeftHandSide ≡ true = subst (λ v. IsTrue (takes v LeftHandSide)) (linked_base linked) tk in cc
      after tk (by_chain b tk' lean pl grown gs') = no_spine b

      of : Onward S Next behind det o s0 (expr y i f) n e P (chain_part g) m mid Q t → LinkOn o s0 y i f n e P m x Q z
      of (ended a b d p) = absurd (no_spine a)
      of (by_led led some op' lean d pl grown gs') = spine_led led some
      of (by_link {f = f2} {k = k} {g = fl} {ps = ps} {rest = rest} linked op' lean d pl grown gs') = of_link (subst (λ v. Linked f2 k fl (bare_parts (part m ps)) (chain_part g) rest v) (sym op' ∙ op) linked) lean d r pl (grown sp) gs'
      of (by_chain b tk lean pl grown gs') = absurd (after tk (onward S Next behind det refl r gs'))

  -- the only part of a chain of an operator behind a place; none; none within the limits
  pub record FoundLink (o : ℕ) (z : Operator) (s e : S) (K : Kind) (G : Flags) (pieces : Parts → List (PieceOf Role)) (ps : Parts) (P : List Pair) : Type 0 where
    pub link : Link z K G pieces
    pub runs : Runs ways S Next behind o (pieces ps) ps s e P
    pub only : (o' : ℕ) (K' : Kind) (G' : Flags) (pieces' : Parts → List (PieceOf Role)) (ps' : Parts) (e' : S) (P' : List Pair) → Link z K' G' pieces' → Runs ways S Next behind o' (pieces' ps') ps' s e' P' → (e' ≡ e) × (ps' ≡ ps) × (P' ≡ P) × (K' ≡ K) × (G' ≡ G)

  -- What a part of a chain leads to: it stands on the spine of a whole, and is spelled there.
  pub record SpineLeads (o : ℕ) (s0 : S) (y : Rank) (i : Bool) (f : Start) (n : Tree) (e : S) (P : List Pair) (m : Tree) (mid : S) (Q : List Pair) : Type 0 where
    pub g : Start
    pub spelled : Spells ways S Next behind o (chain_part g) m s0 mid Q
    pub grows : Grows S Next behind o s0 (expr y i f) n e P (chain_part g) m mid Q

  -- Before each turn in a chain: m is a part of one, and all that can't go on begins with it.
  pub record Chaining (o : ℕ) (y : Rank) (i : Bool) (f : Start) (s0 : S) (m : Tree) (mid : S) (Q : List Pair) : Type 0 where
    pub low : IsTrue (takes y LeftHandSide)
    pub in_chain : has_optional (bare m) ≡ true
    pub spelled : Spells ways S Next behind o (chain_part f) m s0 mid Q
    pub leads : (o' : ℕ) (e' : S) (n' : Tree) (P' : List Pair) → Spells ways S Next behind o' (expr y i f) n' s0 e' P' → Stops S Next behind y i n' e' → SpineLeads o' s0 y i f n' e' P' m mid Q

  same_spine : {g g' : Start} {k k' : Kind} {w w' : List ℕ} {fl fl' : Flags} {st st' en en' : ℕ} {ps ps' : Parts} {s e e' : S} → Placed S Next behind (chain_part g) (node k w fl st en ps) s e → Placed S Next behind (chain_part g') (node k' w' fl' st' en' ps') s e' → e ≡ e' → (st ≡ st') × (en ≡ en')
  same_spine {s = s} (placed {t = t} {m = m} nx p) (placed {t = t'} {m = m'} nx' p') h =
      (sym (ap (λ (v : ℕ × ℕ). v.0) p) ∙ det.start s t t' m m' nx nx' ∙ ap (λ (v : ℕ × ℕ). v.0) p', sym (ap (λ (v : ℕ × ℕ). v.1) p) ∙ ap (λ v. (behind v).stop) h ∙ ap (λ (v : ℕ × ℕ). v.1) p')

  -- where the part of a chain is the one that is read, it leads on
  spine_leads : {o o1 : ℕ} {s0 : S} {y : Rank} {i : Bool} {f : Start} {n : Tree} {e : S} {P : List Pair} {m : Tree} {x to : S} {Q U : List Pair} {z : Operator} {K : Kind} {G : Flags} {pieces : Parts → List (PieceOf Role)} {ps : Parts} {st en : ℕ} → FoundLink o1 z x to K G pieces ps U →
      Placed S Next behind (chain_part f) (node K [] G st en (part m ps)) s0 to → LinkOn o s0 y i f n e P m x Q z → SpineLeads o s0 y i f n e P (node K [] G st en (part m ps)) to (Q ++ U)
  spine_leads {o} {m = m} {Q = Q} {U = U} {K = K} {G = G} {ps = ps} {st = st} {en = en} found places w =
      let same = found.only o w.K w.G w.pieces w.ps w.to w.more w.link w.runs in
      let where_is = same_spine w.places places same.0 in
      let tree : node w.K [] w.G w.st w.en (part m w.ps) ≡ node K [] G st en (part m ps) = same_node same.3 refl same.4 where_is.0 where_is.1 (ap (part m) same.1) in
      record { g = w.g; spelled = retold S Next behind det tree same.0 (ap (λ v. Q ++ v) same.2) w.spelled; grows = regrown S Next behind det tree same.0 (ap (λ v. Q ++ v) same.2) w.grows }

  -- a part of a chain behind another
  link_sound : {o : ℕ} {f : Start} {m : Tree} {s0 mid x to : S} {Q U : List Pair} {t : Token} {z : Operator} {K : Kind} {G : Flags} {pieces : Parts → List (PieceOf Role)} {ps : Parts} {st en : ℕ} → Link z K G pieces → has_optional (bare m) ≡ true → Next mid t x → operation t ≡ z →
      Spells ways S Next behind o (chain_part f) m s0 mid Q → Runs ways S Next behind o (pieces ps) ps x to U → Placed S Next behind (chain_part f) (node K [] G st en (part m ps)) s0 to → Spells ways S Next behind o (chain_part f) (node K [] G st en (part m ps)) s0 to (Q ++ U)
  link_sound on_dot c nx op sp d pl = link_grows S Next behind c refl sp (step (token (reads_dot S Next behind nx op)) d) pl
  link_sound on_index c nx op sp d pl = link_grows S Next behind c refl sp (step (token (reads_index S Next behind nx op)) d) pl
  link_sound {f = f} {ps = ps} on_call c nx op sp d pl = link_call_grows S Next behind c refl sp (step (token (reads_call S Next behind nx op)) (retell S Next behind (sym (arguments_fixed Expression true f (bare_parts ps))) d)) pl
  link_sound on_name c nx op sp d pl = link_grows S Next behind c refl sp (step (token (reads_chain S Next behind nx op)) d) pl
  link_sound on_brackets c nx op sp d pl = link_grows S Next behind c refl sp (step (token (reads_chain S Next behind nx op)) d) pl
  link_sound {f = f} {ps = ps} on_arguments c nx op sp d pl =
      link_call_grows S Next behind c refl sp (step (token (reads_chain S Next behind nx op)) (retell S Next behind (ap (λ qs. tok Punctuator (codes "(") ∷ qs) (sym (arguments_fixed Expression true f (bare_parts ps)))) d)) pl

  -- and behind the base
  base_sound : {o : ℕ} {f : Start} {m : Tree} {s0 mid x to : S} {Q U : List Pair} {t : Token} {K : Kind} {G : Flags} {pieces : Parts → List (PieceOf Role)} {ps : Parts} {st en : ℕ} {z : Operator} → z ≡ op_optional → Link z K G pieces → has_optional (bare m) ≡ false → Next mid t x → operation t ≡ op_optional →
      Spells ways S Next behind o (expr Call true f) m s0 mid Q → Runs ways S Next behind o (pieces ps) ps x to U → Placed S Next behind (chain_part f) (node K [] G st en (part m ps)) s0 to → Spells ways S Next behind o (chain_part f) (node K [] G st en (part m ps)) s0 to (Q ++ U)
  base_sound h on_dot c nx op sp d pl = cc
  base_sound h on_index c nx op sp d pl = cc
  base_sound h on_call c nx op sp d pl = cc
  base_sound h on_name c nx op sp d pl = base_grows S Next behind c refl refl sp (step (token (reads_chain S Next behind nx op)) d) pl
  base_sound h on_brackets c nx op sp d pl = base_grows S Next behind c refl refl sp (step (token (reads_chain S Next behind nx op)) d) pl
  base_sound {f = f} {ps = ps} h on_arguments c nx op sp d pl =
      base_call_grows S Next behind c refl refl sp (step (token (reads_chain S Next behind nx op)) (retell S Next behind (ap (λ qs. tok Punctuator (codes "(") ∷ qs) (sym (arguments_fixed Expression true f (bare_parts ps)))) d)) pl

  link_chained : {z : Operator} {K : Kind} {G : Flags} {pieces : Parts → List (PieceOf Role)} (m : Tree) (ps : Parts) (st en : ℕ) → Link z K G pieces → has_optional (bare m) ≡ true → has_optional (bare (node K [] G st en (part m ps))) ≡ true
  link_chained m ps st en on_dot c = c
  link_chained m ps st en on_index c = c
  link_chained m ps st en on_call c = c
  link_chained m ps st en on_name c = refl
  link_chained m ps st en on_brackets c = refl
  link_chained m ps st en on_arguments c = refl

  base_chained : {z : Operator} {K : Kind} {G : Flags} {pieces : Parts → List (PieceOf Role)} (m : Tree) (ps : Parts) (st en : ℕ) → z ≡ op_optional → Link z K G pieces → has_optional (bare (node K [] G st en (part m ps))) ≡ true
  base_chained m ps st en h on_dot = cc
  base_chained m ps st en h on_index = cc
  base_chained m ps st en h on_call = cc
  base_chained m ps st en h on_name = refl
  base_chained m ps st en h on_brackets = refl
  base_chained m ps st en h on_arguments = refl

  module _ {y : Rank} {i : Bool} {f : Start} {s0 mid x : S} {m : Tree} {t : Token} (r : ReadBy S Next behind Div mid t x) where
    -- the first part of a chain, behind its base
    module _ (is_op : operation t ≡ op_optional) (goes : stops y i (edge m) (behind mid) t ≡ false) where
      base_on : {o : ℕ} {n : Tree} {e : S} {P Q : List Pair} {c : Rank} → Stops S Next behind y i n e → Leads S Next behind det o s0 y i f n e P c m mid Q → LinkOn o s0 y i f n e P m x Q op_optional
      base_on st v = link_on_base r is_op (goes_where_not S Next behind det y i r st goes) v.spelled v.grows

      -- where it is found, the chain begins
      pub chain_first : {o : ℕ} {c : Rank} {Q U : List Pair} {K : Kind} {G : Flags} {pieces : Parts → List (PieceOf Role)} {ps : Parts} {to : S} {st en : ℕ} → Climbing S Next behind det o y i f c s0 m mid Q → IsTrue (takes Call c) → has_optional (bare m) ≡ false →
          FoundLink o op_optional x to K G pieces ps U → Placed S Next behind (chain_part f) (node K [] G st en (part m ps)) s0 to → Chaining o y i f s0 (node K [] G st en (part m ps)) to (Q ++ U)
      chain_first {ps = ps} {st = st} {en = en} climb fits unchained found places =
          let on = goes_on y i (edge m) (behind mid) t goes in
          let same_symbol : on.symbol ≡ LeftHandSide = some_same (sym on.makes ∙ ap (λ v. rank_made_by v t.after_break) is_op) in
          record {
            low = subst (λ v. IsTrue (takes y v)) same_symbol on.taken;
            in_chain = base_chained m ps st en refl found.link;
            spelled = base_sound refl found.link unchained r.next is_op (climb.stands Call true fits (λ k. cc)) found.runs places;
            leads = λ o' e' n' P' d stopped. spine_leads found places (base_on stopped (climb.leads o' e' n' P' d stopped));
          }

    -- a further part of a chain
    module _ {z : Operator} {c : Rank} (is_link : LinkSymbol z c) (is_op : operation t ≡ z) where
      part_on : {o o' : ℕ} {n : Tree} {e : S} {P Q : List Pair} → Chaining o y i f s0 m mid Q → Spells ways S Next behind o' (expr y i f) n s0 e P → Stops S Next behind y i n e → LinkOn o' s0 y i f n e P m x Q z
      part_on chain d st = let v = chain.leads _ _ _ _ d st in link_on_spine is_link chain.low r is_op st v.spelled v.grows

      -- where it is found, the chain goes on
      pub chain_more : {o : ℕ} {Q U : List Pair} {K : Kind} {G : Flags} {pieces : Parts → List (PieceOf Role)} {ps : Parts} {to : S} {st en : ℕ} → Chaining o y i f s0 m mid Q → FoundLink o z x to K G pieces ps U →
          Placed S Next behind (chain_part f) (node K [] G st en (part m ps)) s0 to → Chaining o y i f s0 (node K [] G st en (part m ps)) to (Q ++ U)
      chain_more {ps = ps} {st = st} {en = en} chain found places = record {
        low = chain.low;
        in_chain = link_chained m ps st en found.link chain.in_chain;
        spelled = link_sound found.link chain.in_chain r.next is_op chain.spelled found.runs places;
        leads = λ o' e' n' P' d stopped. spine_leads found places (part_on chain d stopped);
      }

  -- How a spine goes on from a part of a chain: by a token with which a chain goes on; or the chain ends there.
  data SpineOn (o : ℕ) (s0 : S) (y : Rank) (i : Bool) (f : Start) (n : Tree) (e : S) (P : List Pair) (g : Start) (m : Tree) (mid : S) (Q : List Pair) : Type 0 where
    by_part : {x : Operator} → SymbolOf x → Goes S Next behind det x mid → SpineOn o s0 y i f n e P g m mid Q
    by_end : {y2 : Rank} {i2 : Bool} {f2 : Start} {st en : ℕ} → IsTrue (takes y2 LeftHandSide) → Placed S Next behind (expr y2 i2 f2) (node ChainExpression [] plain st en (part m none)) s0 mid →
        (Spells ways S Next behind o (chain_part g) m s0 mid Q → Spells ways S Next behind o (expr y2 i2 f2) (node ChainExpression [] plain st en (part m none)) s0 mid Q) →
        Grows S Next behind o s0 (expr y i f) n e P (expr y2 i2 f2) (node ChainExpression [] plain st en (part m none)) mid Q → SpineOn o s0 y i f n e P g m mid Q

  spine_on : {o : ℕ} {s0 e : S} {y : Rank} {i : Bool} {f : Start} {n : Tree} {P : List Pair} {g : Start} {m : Tree} {mid : S} {Q : List Pair} → Grows S Next behind o s0 (expr y i f) n e P (chain_part g) m mid Q → SpineOn o s0 y i f n e P g m mid Q
  unfolding spellings
  spine_on {o} {s0} {e} {y} {i} {f} {n} {P} {g} {m} {mid} {Q} (grow {c = expr y2 i2 f2} {l = node k w fl st en ps} {ps = ps'} {rest = rest} {to = to} {R = R} h led pl eq d gs) =
      let v = way_of h in
      let u = chain_led (led_of y2 i2 f2 (made k v.listed) v.fit v.is led).led in
      let z = run_none S Next behind (retell S Next behind u.2 d) in
      let tree : node k w fl st en ps ≡ node ChainExpression [] plain st en (part m none) = as_node v.lean u.0 refl refl ∙ ap (node ChainExpression [] plain st en) (eq ∙ ap (part m) z.parts) in
      let pairs : Q ++ R ≡ Q = ap (λ c. Q ++ c) z.pairs ∙ append-nil Q in
      by_end u.1 (subst (λ c. Placed S Next behind (expr y2 i2 f2) c s0 mid) tree (subst (λ c. Placed S Next behind (expr y2 i2 f2) (node k w fl st en ps) s0 c) (sym z.place) pl))
      (λ sp. retold S Next behind det tree (sym z.place) pairs (way_spelled S Next behind det h pl eq d sp)) (regrown S Next behind det tree (sym z.place) pairs gs)
    where
      chain_led : {y : Rank} {i : Bool} {f : Start} {k : Kind} {w : List ℕ} {g : Flags} {ps : Parts} {f' : Start} {rest : List (PieceOf Role)} {x : Operator} → Led y i f k w g ps (chain_part f') rest x → (k ≡ ChainExpression) × IsTrue (takes y LeftHandSide) × (rest ≡ [])
      chain_led (led_chain k c tk b e) = (k, tk, e)
      chain_led (led_binary k op tk im b e) = cc
      chain_led (led_power k op tk b e) = cc
      chain_led (led_assign k op ta tk b e) = cc
      chain_led (led_postfix k op ta p tk b e) = cc
      chain_led (led_sequence k c tk b e) = cc
      chain_led (led_conditional k tk b e) = cc
      chain_led (led_dot k o c s tk b e) = cc
      chain_led (led_index k o c s tk b e) = cc
      chain_led (led_call k o s tk b e) = cc
      chain_led (led_tag k tk b e) = cc
  spine_on (grow {c = chain_part f2} {l = node k w fl st en ps} h led pl eq d gs) =
      let v = way_of h in
      let u = linked_of f2 k v.listed v.is in
      by_part (linked_symbol u.linked) (linked_read S Next behind det u.linked d)
    where
      linked_symbol : {f : Start} {k : Kind} {g : Flags} {ps : Parts} {b : Role} {rest : List (PieceOf Role)} {x : Operator} → Linked f k g ps b rest x → SymbolOf x
      linked_symbol (link_dot k o c fc b e) = record { symbol = Member; is = select_symbol }
      linked_symbol (link_index k o c fc b e) = record { symbol = Member; is = index_symbol }
      linked_symbol (link_call k o fc b e) = record { symbol = Call; is = call_symbol }
      linked_symbol (link_chained_name k o c b e) = record { symbol = LeftHandSide; is = chain_symbol }
      linked_symbol (link_chained_index k o c b e) = record { symbol = LeftHandSide; is = chain_symbol }
      linked_symbol (link_chained_call k o b e) = record { symbol = LeftHandSide; is = chain_symbol }
  spine_on (grow {c = _} h led pl eq d gs) = absurd (false≢true (grows_on_spine S Next behind refl gs))

  -- where no token goes on in a chain, it ends, and what stands so far is the whole chain
  pub chain_end : {o : ℕ} {y : Rank} {i : Bool} {f : Start} {s0 mid : S} {m : Tree} {Q : List Pair} {st en : ℕ} → Chaining o y i f s0 m mid Q →
      ((t : Token) (x : S) (z : Operator) (c : Rank) → ReadBy S Next behind Div mid t x → LinkSymbol z c → operation t ≡ z → ⊥) → Placed S Next behind (expr y i f) (node ChainExpression [] plain st en (part m none)) s0 mid →
      Climbing S Next behind det o y i f LeftHandSide s0 (node ChainExpression [] plain st en (part m none)) mid Q
  chain_end {y = y} {i = i} {f = f} {s0 = s0} {mid = mid} {m = m} {Q = Q} {st = st} {en = en} chain no_part places = record {
    low = chain.low;
    stands = λ h j tk lo. retold S Next behind det refl refl (append-nil Q) (chain_grows S Next behind chain.in_chain tk chain.spelled (replaced S Next behind det places));
    leads = λ o' e' n' P' d st'. let v = chain.leads o' e' n' P' d st' in of v.spelled (spine_on v.grows);
  }
    where
      of : {o' : ℕ} {n' : Tree} {e' : S} {P' : List Pair} {g : Start} → Spells ways S Next behind o' (chain_part g) m s0 mid Q → SpineOn o' s0 y i f n' e' P' g m mid Q → Leads S Next behind det o' s0 y i f n' e' P' LeftHandSide (node ChainExpression [] plain st en (part m none)) mid Q
      of sp (by_part is goes) = absurd (no_part goes.token goes.mid _ is.symbol goes.read is.is goes.goes)
      of sp (by_end {y2 = y2} {i2 = i2} {f2 = f2} tk pl grown gs) =
          let where_is = same_places S Next behind det pl places refl in
          let tree = same_node {k = ChainExpression} {w = []} {g = plain} {ps = part m none} refl refl refl where_is.0 where_is.1 refl in
          record { h = y2; j = i2; g = f2; fits = tk; spelled = retold S Next behind det tree refl refl (grown sp); grows = regrown S Next behind det tree refl refl gs }
