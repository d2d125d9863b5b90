-- An optional chain on the spine of what is given: its links from its base on, and the next stage (ECMA-262 12.3.9).
use Rattle.std.proofs.Common.{◌≡◌, ℕ, ◌≤◌, Bool, true, false, cond, List, [], ◌∷◌, ◌++◌, Result, refl, sym, ap, ◌∙◌, subst, arith, append_assoc}
use Rattle.std.specs.Prelude.{IsTrue, codes, Some}
use Rattle.std.proofs.lemmas.Bool.{false≢true}
use Rattle.std.proofs.lemmas.Bool.Decides.{nat_tests}
use Rattle.source_text.specs.declared.fault.Fault.{Fault}
use Rattle.tokens.specs.declared.token.TokenClass.TheVariants.{Punctuator}
use Rattle.tokens.specs.declared.token.Goal.TheVariants.{Div}
use Rattle.tokens.specs.Tokens.{LexicalToken}
use Rattle.token_cursor.specs.CursorState.{CursorState, IsAhead}
use Rattle.tree.specs.declared.kind.Kind.{Kind}
use Rattle.tree.specs.declared.kind.Kind.TheVariants.{MemberExpression, CallExpression, ChainExpression}
use Rattle.tree.specs.declared.kind.Flags.{Flags}
use Rattle.tree.specs.declared.kind.Pair.{Pair}
use Rattle.tree.specs.Tree.{Tree, node, plain, Parts, part, gap, none, height, bare, bare_parts}
use Rattle.tree.specs.Uses.{is_lean, has_text, used_flags, implies}
use Rattle.tree.proofs.Lean.{lean_flags, lean_text}
use Rattle.language.specs.declared.Rank.{Rank}
use Rattle.language.specs.declared.Rank.TheVariants.{Expression, LeftHandSide, Call, Member}
use Rattle.language.specs.declared.Start.{Start}
use Rattle.language.specs.declared.Edge.TheVariants.{Other}
use Rattle.language.specs.Vocabulary.{is, takes, takes_number, precedence, Operator, op_binary, op_power, op_assign, op_update, op_comma, op_question, op_dot, op_call, op_index, op_optional, op_arrow, op_template, op_none}
use Rattle.language.specs.Token.{Token, as_read}
use Rattle.language.specs.Edges.{edge, edge_as_written}
use Rattle.language.specs.Pieces.{Role, expr, chain_part, PieceOf, tok, sub, is_tight}
use Rattle.language.specs.Continuations.{operation, rank_made_by, holds, stops}
use Rattle.language.specs.Promises.{ReadBy}
use Rattle.language.specs.Covers.{Reading}
use Rattle.language.specs.Derivation.{Placed, placed}
use Rattle.language.specs.FirstPart.{lead}
use Rattle.language.specs.Grammar.{spellings}
use Rattle.token_cursor.proofs.SeenTokens.{seen_determined}
use Rattle.language.proofs.table.Begins.{retell}
use Rattle.language.proofs.climbing.Chains.{chains_led}
use Rattle.language.proofs.climbing.OperatorNodes.{kind_bare}
use Rattle.language.proofs.climbing.OperatorLoop.{Leads, grows_height}
use Rattle.language.proofs.table.LeftRecursiveWays.{dotted, property_role, Led, led_binary, led_power, led_assign, led_postfix, led_sequence, led_conditional, led_dot, led_index, led_call, led_tag, led_chain, Linked, link_dot, link_index, link_call, link_chained_name, link_chained_index, link_chained_call, led_of, linked_of}
use Rattle.language.proofs.climbing.SpineContinuations.{Onward, ended, by_led, by_link, by_chain, onward, way_spelled}
use Rattle.language.proofs.table.Reaches.{linked_base, reaches}
use Rattle.language.proofs.table.RightEdges.{takes_less}
use Rattle.language.proofs.list_loops.FirstPieces.{run_none}
use Rattle.language.proofs.climbing.Spine.{Grows, grow, grows_on_spine}
use Rattle.language.proofs.climbing.NoContinuation.{stops_none, no_in, no_spine, goes_where_not}
use Rattle.language.proofs.climbing.Suffixes.{rank_is}
use Rattle.language.proofs.climbing.BinaryTurns.{same_node, retold, regrown}
use Rattle.language.proofs.table.ViewIsComplete.{way_of, made}
use Rattle.recursive_descent.specs.declared.subscripts.Subscript.{Subscript as Link}
use Rattle.recursive_descent.specs.declared.subscripts.Subscript.TheVariants as link
use Rattle.grammar.specs.declared.infix.InfixOperator.{InfixOperator as Coded}
use Rattle.grammar.specs.declared.infix.InfixOperator.TheVariants as code
use Rattle.parser_tables.specs.declared.operand.Operand.{Operand}
use Rattle.parser_tables.specs.declared.expression_context.ExpressionContext.{ExpressionContext}
use Rattle.recursive_descent.specs.Complete.{ChainComplete}
use Rattle.recursive_descent.specs.Soundness.{Begins, RunsIn, anywhere}
use Rattle.recursive_descent.specs.Completeness.{Room, EndsWith, StopsIn, subscript_after, LinksGiven, no_link, one_link, ChainGiven}
use Rattle.recursive_descent.specs.Subscripts.{link_kind, link_flags}
use Rattle.grammar.specs.Infix.{coded_operator}
use Rattle.parser_tables.specs.Operators.{stops_by}
use Rattle.parser_tables.specs.Operands.{plain_part}
use Rattle.recursive_descent.specs.Stages.{SpineAs, Serves, StageAs, Staged, InfixComplete}
use Rattle.grammar.specs.Infix.{links}
use Rattle.recursive_descent.proofs.complete_subscripts.SubscriptsOnSpine.{plain_next}
use Rattle.token_cursor.proofs.TokensAhead.{ahead_read}
use Rattle.recursive_descent.proofs.complete_expressions.SpineTurns.{goes_there, on_language}
use Rattle.recursive_descent.proofs.reading.LanguageTrees.{first_of_language, parts_of_language}
use Rattle.recursive_descent.proofs.complete_expressions.StageTurns.{OnSpine, spined, spine_only, agrees_through, staged}
use Rattle.recursive_descent.proofs.sound_expressions.InfixTurns.{chains_by}
use Rattle.token_cursor.specs.SourceText.{SourceText, SeenNext, behind_in, unseen}
use Rattle.recursive_descent.specs.Spelled.{OfLanguage, SpellsIn}
use Rattle.recursive_descent.proofs.sound_expressions.GroupContents.{same_arguments}

-- the symbols of the operators of links, and of a template
data LinkSymbol : Operator → Rank → Type 0 where
  select_symbol : LinkSymbol op_dot Member
  index_symbol : LinkSymbol op_index Member
  call_symbol : LinkSymbol op_call Call
  chain_symbol : LinkSymbol op_optional LeftHandSide
  tag_symbol : LinkSymbol op_template Member

symbol_makes : {z : Operator} {c : Rank} (n : Bool) → LinkSymbol z c → rank_made_by z n ≡ Some c
symbol_makes n select_symbol = refl
symbol_makes n index_symbol = refl
symbol_makes n call_symbol = refl
symbol_makes n chain_symbol = refl
symbol_makes n tag_symbol = refl

low_takes : (y : ℕ) → IsTrue (takes_number y 18) → IsTrue (takes_number y 21) × IsTrue (takes_number y 20)
low_takes y h = (grind (arith, nat_tests), grind (arith, nat_tests))

symbol_taken : {z : Operator} {c : Rank} (y : Rank) → LinkSymbol z c → IsTrue (takes y LeftHandSide) → IsTrue (takes y c)
symbol_taken y select_symbol h = (low_takes (precedence y) h).0
symbol_taken y index_symbol h = (low_takes (precedence y) h).0
symbol_taken y call_symbol h = (low_takes (precedence y) h).1
symbol_taken y chain_symbol h = h
symbol_taken y tag_symbol h = (low_takes (precedence y) h).0

symbol_no_in : {z : Operator} {c : Rank} (t : Token) (i : Bool) → LinkSymbol z c → operation t ≡ z → IsTrue (implies (is t.text "in") i)
symbol_no_in t i select_symbol h = no_in t i h (λ e. cc) (λ e. cc)
symbol_no_in t i index_symbol h = no_in t i h (λ e. cc) (λ e. cc)
symbol_no_in t i call_symbol h = no_in t i h (λ e. cc) (λ e. cc)
symbol_no_in t i chain_symbol h = no_in t i h (λ e. cc) (λ e. cc)
symbol_no_in t i tag_symbol h = no_in t i h (λ e. cc) (λ e. cc)

-- an operator makes no link, or has such a symbol
data Links (z : Operator) : Type 0 where
  no_links : links z ≡ false → Links z
  links_at : (c : Rank) → LinkSymbol z c → Links z

links_of : (z : Operator) → Links z
links_of op_dot = links_at Member select_symbol
links_of op_call = links_at Call call_symbol
links_of op_index = links_at Member index_symbol
links_of op_optional = links_at LeftHandSide chain_symbol
links_of op_template = links_at Member tag_symbol
links_of (op_binary l z q) = no_links refl
links_of op_power = no_links refl
links_of op_assign = no_links refl
links_of op_update = no_links refl
links_of op_comma = no_links refl
links_of op_question = no_links refl
links_of op_arrow = no_links refl
links_of op_none = no_links refl

callee_number : (b : Bool) → 20 ≤ precedence (cond b Member Call)
callee_number true = omega arith
callee_number false = omega arith

-- a chain that has ended isn't led by what would go on in it
no_head : {y : Rank} {i : Bool} {f : Start} {k : Kind} {w : List ℕ} {g : Flags} {ps : Parts} {h : Rank} {j : Bool} {f' : Start} {rest : List (PieceOf Role)} {z : Operator} {c : Rank} → LinkSymbol z c → Led y i f k w g ps (expr h j f') rest z → IsTrue (takes h LeftHandSide) → ⊥
no_head {y} {h = h} select_symbol (led_dot k o c s tk b e) t = let u = ap precedence (rank_is b) in let v = callee_number (is_tight y) in let less = takes_less h LeftHandSide t in omega arith
no_head {y} {h = h} index_symbol (led_index k o c s tk b e) t = let u = ap precedence (rank_is b) in let v = callee_number (is_tight y) in let less = takes_less h LeftHandSide t in omega arith
no_head {h = h} call_symbol (led_call k o s tk b e) t = let u = ap precedence (rank_is b) in let less = takes_less h LeftHandSide t in omega arith
no_head {y} {h = h} tag_symbol (led_tag k tk b e) t = let u = ap precedence (rank_is b) in let v = callee_number (is_tight y) in let less = takes_less h LeftHandSide t in omega arith
no_head chain_symbol l t = chains_led l

chain_led : {y : Rank} {i : Bool} {f : Start} {k : Kind} {w : List ℕ} {g : Flags} {ps : Parts} {f' : Start} {rest : List (PieceOf Role)} {x : Operator} → Led y i f k w g ps (chain_part f') rest x → (k ≡ ChainExpression) × IsTrue (takes y LeftHandSide) × (rest ≡ [])
chain_led (led_chain k c tk b e) = (k, tk, e)
chain_led (led_binary k op tk im b e) = cc
chain_led (led_power k op tk b e) = cc
chain_led (led_assign k op ta tk b e) = cc
chain_led (led_postfix k op ta p tk b e) = cc
chain_led (led_sequence k c tk b e) = cc
chain_led (led_conditional k tk b e) = cc
chain_led (led_dot k o c s tk b e) = cc
chain_led (led_index k o c s tk b e) = cc
chain_led (led_call k o s tk b e) = cc
chain_led (led_tag k tk b e) = cc

member_flags : (g : Flags) (c o : Bool) → g.computed ≡ c → g.optional ≡ o → used_flags MemberExpression g ≡ record plain { computed = c; optional = o }
member_flags g c o h k = λ v. record plain { computed = h v; optional = k v }

call_flags : (g : Flags) (o : Bool) → g.optional ≡ o → used_flags CallExpression g ≡ record plain { optional = o }
call_flags g o k = λ v. record plain { optional = k v }

-- the first part's kind is that of a lean one
lead_bare : (ps : Parts) → lead (bare_parts ps) ≡ lead ps
lead_bare none = refl
lead_bare (gap ps) = refl
lead_bare (part n ps) = kind_bare n

module _ (text : SourceText) where
  -- a part of a chain by what stands behind that which is below it
  record LinkOf (o : ℕ) (k : Kind) (g : Flags) (ps : Parts) (mid to : Token) (R : List Pair) (x : Operator) : Type 0 where
    linked : Link
    optional : Bool
    named : linked ≡ link.Quasi → ⊥
    runs : RunsIn text o (anywhere (subscript_after linked optional ps)) ps mid to R
    kind : k ≡ link_kind linked
    flags : used_flags (link_kind linked) g ≡ link_flags linked optional
    textless : has_text (link_kind linked) ≡ false
    first : x ≡ op_optional → optional ≡ true

  link_of : (m : Tree) {o : ℕ} {f : Start} {k : Kind} {g : Flags} {ps : Parts} {b : Role} {rest : List (PieceOf Role)} {x : Operator} {mid to : Token} {R : List Pair} → Linked f k g (bare_parts (part m ps)) b rest x → RunsIn text o rest ps mid to R → LinkOf o k g ps mid to R x
  link_of m {g = g} {ps = ps} (link_dot k o c fc b e) d = record { linked = link.Name; optional = false; named = λ h. cc; runs = retell Token (SeenNext text) (behind_in text) (e ∙ ap dotted (lead_bare ps)) d; kind = k; flags = member_flags g false false c o; textless = refl; first = λ h. cc }
  link_of m {g = g} (link_index k o c fc b e) d = record { linked = link.Index; optional = false; named = λ h. cc; runs = retell Token (SeenNext text) (behind_in text) e d; kind = k; flags = member_flags g true false c o; textless = refl; first = λ h. cc }
  link_of m {f = f} {g = g} {ps = ps} (link_call k o fc b e) d = record { linked = link.Arguments; optional = false; named = λ h. cc; runs = retell Token (SeenNext text) (behind_in text) (e ∙ same_arguments Expression true f ps) d; kind = k; flags = call_flags g false o; textless = refl; first = λ h. cc }
  link_of m {g = g} {ps = ps} (link_chained_name k o c b e) d = record { linked = link.Name; optional = true; named = λ h. cc; runs = retell Token (SeenNext text) (behind_in text) (e ∙ ap (λ c. tok Punctuator (codes "?.") ∷ sub (property_role c) ∷ []) (lead_bare ps)) d; kind = k; flags = member_flags g false true c o; textless = refl; first = λ h. refl }
  link_of m {g = g} (link_chained_index k o c b e) d = record { linked = link.Index; optional = true; named = λ h. cc; runs = retell Token (SeenNext text) (behind_in text) e d; kind = k; flags = member_flags g true true c o; textless = refl; first = λ h. refl }
  link_of m {f = f} {g = g} {ps = ps} (link_chained_call k o b e) d = record {
    linked = link.Arguments;
    optional = true;
    named = λ h. cc;
    runs = retell Token (SeenNext text) (behind_in text) (e ∙ ap (λ qs. tok Punctuator (codes "?.") ∷ qs) (same_arguments Expression true f ps)) d;
    kind = k;
    flags = call_flags g true o;
    textless = refl;
    first = λ h. refl;
  }

  -- the span of a node is that of its tokens
  spine_span : {f : Start} {k : Kind} {w : List ℕ} {g : Flags} {st en start : ℕ} {ps : Parts} {s to : Token} → Placed Token (SeenNext text) (behind_in text) (chain_part f) (node k w g st en ps) s to → Begins text start s → (st ≡ start) × (en ≡ to.stop)
  spine_span {s = s} (placed {t = t} {m = m} nx p) begins = (sym (ap (λ (v : ℕ × ℕ). v.0) p) ∙ (seen_determined text).start s t begins.token m begins.place nx begins.next ∙ begins.start, sym (ap (λ (v : ℕ × ℕ). v.1) p))

  expr_span : {h : Rank} {j : Bool} {f : Start} {k : Kind} {w : List ℕ} {g : Flags} {st en start : ℕ} {ps : Parts} {s to : Token} → Placed Token (SeenNext text) (behind_in text) (expr h j f) (node k w g st en ps) s to → Begins text start s → (st ≡ start) × (en ≡ to.stop)
  expr_span {s = s} (placed {t = t} {m = m} nx p) begins = (sym (ap (λ (v : ℕ × ℕ). v.0) p) ∙ (seen_determined text).start s t begins.token m begins.place nx begins.next ∙ begins.start, sym (ap (λ (v : ℕ × ℕ). v.1) p))

  -- its node
  link_tree : {o : ℕ} {f : Start} {k : Kind} {w : List ℕ} {g : Flags} {st en start : ℕ} {m : Tree} {ps : Parts} {s mid to : Token} {R : List Pair} {x : Operator} (u : LinkOf o k g ps mid to R x) → is_lean (bare (node k w g st en (part m ps))) ≡ true → Placed Token (SeenNext text) (behind_in text) (chain_part f) (node k w g st en (part m ps)) s to → Begins text start s →
      node k w g st en (part m ps) ≡ node (link_kind u.linked) [] (link_flags u.linked u.optional) start to.stop (part m ps)
  link_tree {k = k} {w = w} {g = g} {st = st} {en = en} {m = m} {ps = ps} u lean pl begins =
      let span = spine_span pl begins in
      same_node u.kind (lean_text (bare (node k w g st en (part m ps))) lean (ap has_text u.kind ∙ u.textless)) (lean_flags (bare (node k w g st en (part m ps))) lean ∙ ap (λ v. used_flags v g) u.kind ∙ u.flags) span.0 span.1 refl

  module _ (o : ℕ) (s e : Token) (y : Rank) (i : Bool) (f : Start) (n : Tree) (P : List Pair) (stopped : StopsIn text y i n e) where
    -- behind a chain that has ended no link follows
    unlinked : {y2 : Rank} {i2 : Bool} {f2 : Start} {w : List ℕ} {fl : Flags} {st en : ℕ} {m : Tree} {mid : Token} {Q : List Pair} → IsTrue (takes y2 LeftHandSide) → Grows Token (SeenNext text) (behind_in text) o s (expr y i f) n e P (expr y2 i2 f2) (node ChainExpression w fl st en (part m none)) mid Q →
        (t x : Token) → ReadBy Token (SeenNext text) (behind_in text) Div mid t x → links (operation t) ≡ false
    unlinked {y2} {i2} {f2} {w} {fl} {st} {en} {m} {mid} {Q} tk gs t x r = decide (links_of (operation t)) refl
      where
        low : IsTrue (takes y LeftHandSide)
        low = (reaches Token (SeenNext text) (behind_in text) gs).taken LeftHandSide tk

        after : {z : Operator} {c : Rank} → LinkSymbol z c → operation t ≡ z → Onward Token (SeenNext text) (behind_in text) (seen_determined text) o s (expr y i f) n e P (expr y2 i2 f2) (node ChainExpression w fl st en (part m none)) mid Q t → ⊥
        after {c = c} is op (ended a b d p) =
            let other : edge_as_written (edge n) (behind_in text e) ≡ Other = ap (λ v. edge_as_written (edge v) (behind_in text e)) b in
            stops_none Token (SeenNext text) (behind_in text) (seen_determined text) y i t (edge_as_written (edge n) (behind_in text e)) (stopped.before t x (subst (λ v. ReadBy Token (SeenNext text) (behind_in text) Div v t x) (sym d) r)) (record {
              symbol = c;
              makes = ap (λ v. rank_made_by v t.after_break) op ∙ symbol_makes t.after_break is;
              taken = symbol_taken y is low;
              has_in = symbol_no_in t i is op;
              held = ap (λ v. holds v c) other;
            })
        after is op (by_led {y = y3} {i = i3} {f = f3} {k = k} {w = w'} {g = fl'} {ps = ps} {rest = rest} led some op' lean d pl grown gs') =
            no_head is (subst (λ v. Led y3 i3 f3 k w' fl' (bare_parts (part (node ChainExpression w fl st en (part m none)) ps)) (expr y2 i2 f2) rest v) (sym op' ∙ op) led) tk
        after is op (by_link linked op' lean d pl grown gs') = let u : takes Call LeftHandSide ≡ true = subst (λ v. IsTrue (takes v LeftHandSide)) (linked_base linked) tk in cc
        after is op (by_chain b tk' lean pl grown gs') = no_spine b

        decide : {z : Operator} → Links z → operation t ≡ z → links (operation t) ≡ false
        decide (no_links h) op = ap links op ∙ h
        decide (links_at c is) op = absurd (after is op (onward Token (SeenNext text) (behind_in text) (seen_determined text) refl r gs))

    module _ {start : ℕ} (begins : Begins text start s) where
      -- the links from a part of a chain on, and the chain on the spine
      record ChainFrom (m : Tree) (mid : Token) (Q : List Pair) : Type 0 where
        tree : Tree
        to : Token
        more : List Pair
        links : LinksGiven text o start tree to m mid more
        leads : Leads Token (SeenNext text) (behind_in text) (seen_determined text) o s y i f n e P LeftHandSide (node ChainExpression [] plain start to.stop (part tree none)) to (Q ++ more)

      chain_from : {g : Start} {m : Tree} {mid : Token} {Q : List Pair} → SpellsIn text o (chain_part g) m s mid Q → Grows Token (SeenNext text) (behind_in text) o s (expr y i f) n e P (chain_part g) m mid Q → ChainFrom m mid Q
      unfolding spellings
      chain_from {g} {m} {mid} {Q} sp (grow {c = expr y2 i2 f2} {l = node k w fl st en ps} {ps = ps'} {rest = rest} {to = to} {R = R} h led pl eq d gs) =
          let v = way_of h in
          let u = chain_led (led_of y2 i2 f2 (made k v.listed) v.fit v.is led).led in
          let z = run_none Token (SeenNext text) (behind_in text) (retell Token (SeenNext text) (behind_in text) u.2 d) in
          let span = expr_span pl begins in
          let texts : w ≡ [] = lean_text (bare (node k w fl st en ps)) v.lean (ap has_text u.0) in
          let flags : fl ≡ plain = lean_flags (bare (node k w fl st en ps)) v.lean ∙ ap (λ c. used_flags c fl) u.0 in
          let tree : node k w fl st en ps ≡ node ChainExpression [] plain start mid.stop (part m none) = same_node u.0 texts flags span.0 (span.1 ∙ ap (λ (c : Token). c.stop) (sym z.place)) (eq ∙ ap (part m) z.parts) in
          let pairs : Q ++ R ≡ Q ++ [] = ap (λ c. Q ++ c) z.pairs in
          let whole = regrown Token (SeenNext text) (behind_in text) (seen_determined text) tree (sym z.place) pairs gs in
          record {
            tree = m;
            to = mid;
            more = [];
            links = no_link (unlinked u.1 whole);
            leads = record { h = y2; j = i2; g = f2; fits = u.1; spelled = retold Token (SeenNext text) (behind_in text) (seen_determined text) tree (sym z.place) pairs (way_spelled Token (SeenNext text) (behind_in text) (seen_determined text) h pl eq d sp); grows = whole };
          }
      chain_from {g} {m} {mid} {Q} sp (grow {c = chain_part f2} {l = node k w fl st en ps} {ps = ps'} {rest = rest} {to = to} {R = R} h led pl eq d gs) =
          let v = way_of h in
          let w0 = linked_of f2 k v.listed v.is in
          let linked : Linked f2 k fl (bare_parts (part m ps')) (chain_part g) rest w0.operator = subst (λ qs. Linked f2 k fl (bare_parts qs) (chain_part g) rest w0.operator) eq w0.linked in
          let one = link_of m linked d in
          let tree : node k w fl st en ps ≡ node (link_kind one.linked) [] (link_flags one.linked one.optional) start to.stop (part m ps') =
          ap (node k w fl st en) eq ∙ link_tree one (subst (λ qs. is_lean (bare (node k w fl st en qs)) ≡ true) eq v.lean) (subst (λ qs. Placed Token (SeenNext text) (behind_in text) (chain_part f2) (node k w fl st en qs) s to) eq pl) begins in
          let next = chain_from (way_spelled Token (SeenNext text) (behind_in text) (seen_determined text) h pl eq d sp) gs in
          record {
            tree = next.tree;
            to = next.to;
            more = R ++ next.more;
            links = one_link one.linked one.optional one.named one.runs (subst (λ c. LinksGiven text o start next.tree next.to c to next.more) tree next.links);
            leads = subst (λ c. Leads Token (SeenNext text) (behind_in text) (seen_determined text) o s y i f n e P LeftHandSide (node ChainExpression [] plain start next.to.stop (part next.tree none)) next.to c) (append_assoc Q R next.more) next.leads;
          }
      chain_from sp (grow {c = _} h led pl eq d gs) = absurd (false≢true (grows_on_spine Token (SeenNext text) (behind_in text) refl gs))

  module _ (p : ExpressionContext) (o : ℕ) (s e : Token) (P : List Pair) (l : Operand) (m : Token) (Q : List Pair) (a : Reading) (n : Tree) where
    -- the chain that is given from its base on, and the next stage
    pub record ChainOn : Type 0 where
      pub tree : Tree
      pub to : Token
      pub more : List Pair
      pub given : ChainGiven text o l.start l.cover.node tree m to more
      pub fits : IsTrue (takes Call l.rank)
      pub value : l.cover.shape.is_expression ≡ true
      pub of_language : OfLanguage text n → OfLanguage text tree
      pub low : height (node ChainExpression [] plain l.start to.stop (part tree none)) ≤ height n
      pub next : (r : Operand) → r ≡ plain_part (node ChainExpression [] plain l.start to.stop (part tree none)) LeftHandSide Other → StageAs text p o s e P r to (Q ++ more) a n

    module _ {k : Tree} (serves : Serves text p o s e P l m Q a n k) (high : height k ≡ height n) (u : SpineAs text p o s e P l m Q k) (begins : Begins text l.start s) {t x : Token} (r : ReadBy Token (SeenNext text) (behind_in text) Div m t x) (goes : stops p.rank p.has_in (edge l.cover.node) (behind_in text m) t ≡ false) where
      pub chain_on : operation t ≡ op_optional → ChainOn
      chain_on op = of u.leads.fits u.leads.spelled (onward Token (SeenNext text) (behind_in text) (seen_determined text) refl r u.leads.grows)
        where
          of : {h : Rank} {j : Bool} {g : Start} → IsTrue (takes h l.rank) → SpellsIn text o (expr h j g) l.cover.node s m Q → Onward Token (SeenNext text) (behind_in text) (seen_determined text) o s (expr p.rank p.has_in p.start) k e P (expr h j g) l.cover.node m Q t → ChainOn
          of fits sp (ended b c d q) = absurd (goes_where_not Token (SeenNext text) (behind_in text) (seen_determined text) p.rank p.has_in r u.stopped goes (record { role = b; tree = c; place = d; pairs = q }))
          of {h} {j} {g} fits sp (by_led {y = y3} {i = i3} {f = f3} {k = k3} {w = w3} {g = fl3} {ps = ps} {rest = rest} led some op' lean d pl grown gs) = chains_led (subst (λ v. Led y3 i3 f3 k3 w3 fl3 (bare_parts (part l.cover.node ps)) (expr h j g) rest v) (sym op' ∙ op) led)
          of fits sp (by_chain b tk lean pl grown gs) = absurd (no_spine b)
          of fits sp (by_link {f = f2} {k = k2} {w = w2} {g = fl2} {st = st} {en = en} {ps = ps} {rest = rest} {to = to} {R = R} linked op' lean d pl grown gs) =
              let one = link_of l.cover.node linked d in
              let optional : one.optional ≡ true = one.first (sym op' ∙ op) in
              let tree : node k2 w2 fl2 st en (part l.cover.node ps) ≡ node (link_kind one.linked) [] (link_flags one.linked true) l.start to.stop (part l.cover.node ps) =
              link_tree one lean pl begins ∙ ap (λ c. node (link_kind one.linked) [] (link_flags one.linked c) l.start to.stop (part l.cover.node ps)) optional in
              let rest_of = chain_from o s e p.rank p.has_in p.start k P u.stopped begins (grown sp) gs in
              let leads : Leads Token (SeenNext text) (behind_in text) (seen_determined text) o s p.rank p.has_in p.start k e P LeftHandSide (node ChainExpression [] plain l.start rest_of.to.stop (part rest_of.tree none)) rest_of.to (Q ++ (R ++ rest_of.more)) =
              subst (λ c. Leads Token (SeenNext text) (behind_in text) (seen_determined text) o s p.rank p.has_in p.start k e P LeftHandSide (node ChainExpression [] plain l.start rest_of.to.stop (part rest_of.tree none)) rest_of.to c) (append_assoc Q R rest_of.more) rest_of.leads in
              let below = grows_height Token (SeenNext text) (behind_in text) (seen_determined text) leads.grows in
              record {
                tree = rest_of.tree;
                to = rest_of.to;
                more = R ++ rest_of.more;
                given = record {
                  first = one.linked;
                  parts = ps;
                  mid = to;
                  one = R;
                  more = rest_of.more;
                  named = one.named;
                  runs = subst (λ c. RunsIn text o (anywhere (subscript_after one.linked c ps)) ps m to R) optional one.runs;
                  rest = subst (λ c. LinksGiven text o l.start rest_of.tree rest_of.to c to rest_of.more) tree rest_of.links;
                  pairs = refl;
                };
                fits = subst (λ c. IsTrue (takes c l.rank)) (linked_base linked) fits;
                value = u.value;
                of_language = λ own. first_of_language (parts_of_language (on_language text serves leads.grows own));
                low = omega arith;
                next = λ q is. plain_next text p o s e P l m Q a n serves high u begins r goes (λ h. cc) refl (λ h. cc) leads q is;
              }

-- a chain
pub turn_chain : (s e : CursorState) (old new : List Pair) (high : ℕ) (p : ExpressionContext) (l : Operand) (v : LexicalToken) {c : Coded} (result : Result Operand Fault) → IsAhead Div s.text s.last.stop v → coded_operator (operation (as_read v)) v.text ≡ Some c → c ≡ code.QuestionDot →
    stops_by p l.edge (as_read v) ≡ false → ChainComplete s e old new high l result → InfixComplete s e old new high p l result
turn_chain s e old new high p l v result ahead coded is goes complete a o n from to P Q R read stage own =
    let r = ahead_read s.text Div s.last v ahead in
    let op : operation (as_read v) ≡ op_optional = chains_by (operation (as_read v)) v.text (coded ∙ ap Some is) in
    let u = of r op (spine_only s.text p o from to P l s.last Q a n read.part.begins read.part.edge r goes (λ h. let k : op_optional ≡ op_assign = sym op ∙ h in cc) stage) in
    let low = u.low in
    let made = node ChainExpression [] plain l.start u.to.stop (part u.tree none) in
    agrees_through (Room s o (height made) high) (Room s o (height n) high) (λ r. (r ≡ plain_part made LeftHandSide Other) × EndsWith s e old new u.to u.more) (λ r. Staged s.text p o from to P r e.last Q old new a n) result (complete u.tree o u.to u.more u.given u.fits u.value (u.of_language own)) (λ room. (room.0, let high = room.1 in omega arith))
    (λ q ok h. staged s e h.1 (u.next q h.0))
  where
    of : (r : ReadBy Token (SeenNext s.text) (behind_in s.text) Div s.last (as_read v) (unseen (as_read v))) → operation (as_read v) ≡ op_optional → OnSpine s.text p o from to P l s.last Q a n read.part.begins read.part.edge r goes → ChainOn s.text p o from to P l s.last Q a n
    of r op (spined serves high u) = chain_on s.text p o from to P l s.last Q a n serves high u read.part.begins r (goes_there s.text p l s.last (as_read v) read.part.edge goes) op
